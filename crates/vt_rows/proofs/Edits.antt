-- The cells of an edit, column by column: edits keep wide glyphs whole and cells valid.
use Rattle.std.proofs.Common.{◌≡◌, ℕ, zero, suc, ◌+◌, ◌-◌, ◌<◌, ◌≤◌, ◌==◌, ◌&&◌, true, false, List, [], ◌∷◌, ◌++◌}
use Rattle.std.proofs.Common.{length, take, drop, refl, inl, inr, sym, ap, ◌∙◌, arith, nat_lt, Bool, not, add-one}
use Rattle.std.specs.Prelude.{if◌then◌else◌, slice_set, All}
use Rattle.std.proofs.lemmas.Bool.{cases_lt, cases_eq}
use Rattle.std.proofs.lemmas.Bool.Decides.{nat_tests}
use Rattle.std.proofs.lemmas.List.{ext_get_or, length-replicate, get_or-replicate, get_or_past, length-append}
use Rattle.std.proofs.lemmas.List.{length-take, length-drop, get_or-take, get_or-drop, get_or_append_left}
use Rattle.std.proofs.lemmas.List.{get_or-append_right, get_or-set_same, get_or-set_other, set_past}
use Rattle.std.proofs.lemmas.List.Elements.{All-nil, All-cons, All-head, All-tail, All-append, All-take, All-drop}
use Rattle.std.proofs.lemmas.List.Elements.{All-replicate, All-set}
use Rattle.vt_cells.specs.Attrs.{default_attrs, Attrs}
use Rattle.vt_cells.specs.Cell.{CellValue, blank, glyph, right_half, default_blank, is_wide, is_right_half, attrs_of}
use Rattle.vt_cells.specs.Cell.{is_blank, cell_with_mark, cell_made_wide, IsCell}
use Rattle.vt_cells.specs.Glyph.{IsGlyphText}
use Rattle.vt_cells.proofs.Cells.{IsCell-space}
use Rattle.vt_rows.specs.Cells.{at, blanks, cell_cut_from_right_half, cells_before_cut, cells_after_cut, put_cells}
use Rattle.vt_rows.specs.Cells.{column_of, IsPaired, put_narrow, put_wide, cells_after_erase, marked_at, widened_at}
use Rattle.vt_rows.specs.Cells.{narrowed_at}

-- ==== The cells of an edit, column by column.

pub mended_is : (x : CellValue) → cell_cut_from_right_half x ≡ (if is_wide x then blank (attrs_of x) else x)
mended_is (blank attrs) = refl
mended_is (glyph text true attrs) = refl
mended_is (glyph text false attrs) = refl
mended_is right_half = refl

pub length-shut : (xs : List CellValue) → length (cells_before_cut xs) ≡ length xs
length-shut [] = refl
length-shut (x ∷ []) = refl
length-shut (x ∷ y ∷ xs) = ap suc (length-shut (y ∷ xs))

pub length-opened : (o : CellValue) (xs : List CellValue) → length (cells_after_cut o xs) ≡ length xs
length-opened o [] = refl
length-opened o (right_half ∷ xs) = refl
length-opened o (blank attrs ∷ xs) = refl
length-opened o (glyph text wide attrs ∷ xs) = refl

-- `cells_before_cut` changes only the last column.
pub at-shut : (xs : List CellValue) (k n : ℕ) → length xs ≡ n →
    at (cells_before_cut xs) k ≡ (if (k + 1 == n) && is_wide (at xs k) then blank (attrs_of (at xs k)) else at xs k)
at-shut [] k n e = grind (arith, nat_tests)
at-shut (x ∷ []) zero n e = grind (arith, nat_tests, mended_is x)
at-shut (x ∷ []) (suc k) n e = grind (arith, nat_tests)
at-shut (x ∷ y ∷ xs) zero n e = grind (arith, nat_tests)
at-shut (x ∷ y ∷ xs) (suc k) n e = grind (arith, nat_tests, at-shut (y ∷ xs) k (suc (length xs)) refl)

-- `cells_after_cut` changes only the first column.
pub at-opened : (o : CellValue) (xs : List CellValue) (k : ℕ) →
    at (cells_after_cut o xs) k ≡ (if (k == 0) && is_right_half (at xs k) then o else at xs k)
at-opened o [] k = grind (arith, nat_tests)
at-opened o (right_half ∷ xs) zero = refl
at-opened o (right_half ∷ xs) (suc k) = grind (arith, nat_tests)
at-opened o (blank attrs ∷ xs) zero = refl
at-opened o (blank attrs ∷ xs) (suc k) = grind (arith, nat_tests)
at-opened o (glyph text wide attrs ∷ xs) zero = refl
at-opened o (glyph text wide attrs ∷ xs) (suc k) = grind (arith, nat_tests)

pub length-put_cells : (c n : ℕ) (o : CellValue) (new cells : List CellValue) →
    length new ≡ n → c + n ≤ length cells → length (put_cells c o new n cells) ≡ length cells
unfolding put_cells
length-put_cells c n o new cells e h =
    let rest = cells_after_cut o (drop n (drop c cells)) in
    omega (
      arith,
      length-append (cells_before_cut (take c cells)) (new ++ rest),
      length-append new rest,
      length-shut (take c cells),
      length-take c cells,
      length-opened o (drop n (drop c cells)),
      length-drop n (drop c cells),
      length-drop c cells,
    )

at-left : (c k : ℕ) (cells more : List CellValue) → c ≤ length cells → k < c →
    at (cells_before_cut (take c cells) ++ more) k
    ≡ (if (k + 1 == c) && is_wide (at cells k) then blank (attrs_of (at cells k)) else at cells k)
at-left c k cells more h lt =
    let l : length (take c cells) ≡ c = omega (arith, length-take c cells) in
    let s : k < length (cells_before_cut (take c cells)) = omega (arith, length-shut (take c cells)) in
    let t = get_or-take c cells k default_blank lt in
    get_or_append_left (cells_before_cut (take c cells)) more default_blank k s
    ∙ (at-shut (take c cells) k c l
    ∙ ap (λ (v : CellValue). if (k + 1 == c) && is_wide v then blank (attrs_of v) else v) t)

at-right : (c k : ℕ) (cells more : List CellValue) → c ≤ length cells →
    c ≤ k → at (cells_before_cut (take c cells) ++ more) k ≡ at more (k - c)
at-right c k cells more h le =
    let l : length (cells_before_cut (take c cells)) ≡ c = omega (arith, length-shut (take c cells), length-take c cells) in
    get_or-append_right (cells_before_cut (take c cells)) more c k default_blank l le

at-behind : (c n k : ℕ) (o : CellValue) (new cells : List CellValue) → length new ≡ n → c + n ≤ k →
    at (new ++ cells_after_cut o (drop n (drop c cells))) (k - c)
    ≡ (if (k == c + n) && is_right_half (at cells k) then o else at cells k)
at-behind c n k o new cells e le =
    let i : n ≤ k - c = omega arith in
    let j : c + (n + (k - c - n)) ≡ k = omega arith in
    let rest = drop n (drop c cells) in
    let d : at rest (k - c - n) ≡ at cells k =
    get_or-drop n (drop c cells) (k - c - n) default_blank
    ∙ (get_or-drop c cells (n + (k - c - n)) default_blank ∙ ap (λ (m : ℕ). at cells m) j) in
    let t : (k - c - n == 0) ≡ (k == c + n) = grind (arith, nat_tests) in
    get_or-append_right new (cells_after_cut o rest) n (k - c) default_blank e i
    ∙ (at-opened o rest (k - c - n) ∙ rw (t, d) refl)

-- After `put_cells`, each column, even past the end, has the cell that `column_of` describes.
pub put_columns : (c n : ℕ) (o : CellValue) (new cells : List CellValue) (k : ℕ) → length new ≡ n →
    c + n ≤ length cells → at (put_cells c o new n cells) k ≡ column_of c n o new cells k
unfolding put_cells
put_columns c n o new cells k e h = elim (cases_lt k c) [
  | inl lt ↦
      rw (at-left c k cells (new ++ cells_after_cut o (drop n (drop c cells))) (omega arith) lt) (grind (arith, nat_tests))
  | inr ge ↦ elim (cases_lt k (c + n)) [
    | inl lt ↦
        rw (
          at-right c k cells (new ++ cells_after_cut o (drop n (drop c cells))) (omega arith) ge,
          get_or_append_left new (cells_after_cut o (drop n (drop c cells))) default_blank (k - c) (omega arith),
        ) (grind (arith, nat_tests))
    | inr le ↦
        rw (
          at-right c k cells (new ++ cells_after_cut o (drop n (drop c cells))) (omega arith) ge,
          at-behind c n k o new cells e le,
        ) (grind (arith, nat_tests))
  ]
]

-- Rows of the same length that agree at each column are equal.
pub same_columns : (xs ys : List CellValue) → length xs ≡ length ys → ((k : ℕ) → at xs k ≡ at ys k) → xs ≡ ys
same_columns xs ys e f = ext_get_or default_blank xs ys e (λ k h. f k)

pub at-past : (cells : List CellValue) (k : ℕ) → length cells ≤ k → at cells k ≡ default_blank
at-past cells k h = get_or_past cells k default_blank h

pub blanks_is : (attrs : Attrs) (n : ℕ) (cells : List CellValue) → length cells ≡ n →
    ((k : ℕ) → k < n → at cells k ≡ blank attrs) → cells ≡ blanks attrs n
blanks_is attrs n cells e f =
    ext_get_or default_blank cells (blanks attrs n) (e ∙ sym (length-replicate n (blank attrs)))
    (λ k h. let lt : k < n = omega arith in f k lt ∙ sym (get_or-replicate n k (blank attrs) default_blank lt))

pub at-blanks : (n k : ℕ) → at (blanks default_attrs n) k ≡ default_blank
at-blanks zero k = refl
at-blanks (suc n) zero = refl
at-blanks (suc n) (suc k) = at-blanks n k

-- ==== Every edit keeps wide glyphs whole.

-- ---- Wide glyphs after a column was prepared for an overwrite

pub not_both : (x : CellValue) → (is_wide x && is_right_half x) ≡ false
not_both (blank attrs) = refl
not_both (glyph text true attrs) = refl
not_both (glyph text false attrs) = refl
not_both right_half = refl

pub wide_mended : (t : Bool) (x : CellValue) →
    is_wide (if t && is_wide x then blank (attrs_of x) else x) ≡ (not t && is_wide x)
wide_mended true (blank attrs) = refl
wide_mended true (glyph text true attrs) = refl
wide_mended true (glyph text false attrs) = refl
wide_mended true right_half = refl
wide_mended false x = refl

pub right_mended : (t : Bool) (x : CellValue) →
    is_right_half (if t && is_wide x then blank (attrs_of x) else x) ≡ is_right_half x
right_mended true (blank attrs) = refl
right_mended true (glyph text true attrs) = refl
right_mended true (glyph text false attrs) = refl
right_mended true right_half = refl
right_mended false x = refl

pub wide_opened : (t : Bool) (o x : CellValue) → is_wide o ≡ false →
    is_wide (if t && is_right_half x then o else x) ≡ is_wide x
wide_opened true o (blank attrs) h = refl
wide_opened true o (glyph text wide attrs) h = refl
wide_opened true o right_half h = h
wide_opened false o x h = refl

pub right_opened : (t : Bool) (o x : CellValue) → is_right_half o ≡ false →
    is_right_half (if t && is_right_half x then o else x) ≡ (not t && is_right_half x)
right_opened true o (blank attrs) h = refl
right_opened true o (glyph text wide attrs) h = refl
right_opened true o right_half h = h
right_opened false o x h = refl

pub wide_if : (t : Bool) (x y : CellValue) → is_wide (if t then x else y) ≡ (if t then is_wide x else is_wide y)
wide_if true x y = refl
wide_if false x y = refl

pub right_if : (t : Bool) (x y : CellValue) →
    is_right_half (if t then x else y) ≡ (if t then is_right_half x else is_right_half y)
right_if true x y = refl
right_if false x y = refl

wide_column : (c n : ℕ) (o : CellValue) (new cells : List CellValue) (k : ℕ) → is_wide o ≡ false →
    is_wide (column_of c n o new cells k)
    ≡ (if nat_lt k c then (not (k + 1 == c) && is_wide (at cells k))
    else if nat_lt k (c + n) then is_wide (at new (k - c)) else is_wide (at cells k))
wide_column c n o new cells k h =
    let l = if (k + 1 == c) && is_wide (at cells k) then blank (attrs_of (at cells k)) else at cells k in
    let r = if (k == c + n) && is_right_half (at cells k) then o else at cells k in
    wide_if (nat_lt k c) l (if nat_lt k (c + n) then at new (k - c) else r)
    ∙ rw (
      wide_mended (k + 1 == c) (at cells k),
      wide_if (nat_lt k (c + n)) (at new (k - c)) r,
      wide_opened (k == c + n) o (at cells k) h,
    ) refl

right_column : (c n : ℕ) (o : CellValue) (new cells : List CellValue) (k : ℕ) → is_right_half o ≡ false →
    is_right_half (column_of c n o new cells k)
    ≡ (if nat_lt k c then is_right_half (at cells k) else if nat_lt k (c + n)
    then is_right_half (at new (k - c)) else (not (k == c + n) && is_right_half (at cells k)))
right_column c n o new cells k h =
    let l = if (k + 1 == c) && is_wide (at cells k) then blank (attrs_of (at cells k)) else at cells k in
    let r = if (k == c + n) && is_right_half (at cells k) then o else at cells k in
    right_if (nat_lt k c) l (if nat_lt k (c + n) then at new (k - c) else r)
    ∙ rw (
      right_mended (k + 1 == c) (at cells k),
      right_if (nat_lt k (c + n)) (at new (k - c)) r,
      right_opened (k == c + n) o (at cells k) h,
    ) refl

-- Replacing n cells keeps wide glyphs whole: `w` and `r` say which old cells are wide and which are continuation cells,
-- and `v` and `s` say this of the new cells.
joined : (c n k : ℕ) (w r v s : ℕ → Bool) → ((j : ℕ) → w j ≡ r (j + 1)) →
    ((j : ℕ) → v j ≡ s (j + 1)) → s 0 ≡ false → ((j : ℕ) → n ≤ j → s j ≡ false) →
    (if nat_lt k c then (not (k + 1 == c) && w k) else if nat_lt k (c + n) then v (k - c) else w k)
    ≡ (if nat_lt (k + 1) c then r (k + 1) else if nat_lt (k + 1) (c + n)
    then s (k + 1 - c) else (not (k + 1 == c + n) && r (k + 1)))
joined c n k w r v s old new first past = elim (cases_lt k c) [
  | inl lt ↦ elim (cases_lt (k + 1) c) [
    | inl more ↦ grind (arith, nat_tests, old k)
    | inr last ↦
        let i : k + 1 - c ≡ 0 = omega arith in
        let z : s (k + 1 - c) ≡ false = ap s i ∙ first in
        grind (arith, nat_tests)
  ]
  | inr ge ↦
      let i : k + 1 - c ≡ k - c + 1 = omega arith in
      let z : v (k - c) ≡ s (k + 1 - c) = new (k - c) ∙ ap s (sym i) in
      let y : n ≤ k - c + 1 → v (k - c) ≡ false = λ le. new (k - c) ∙ past (k - c + 1) le in
      let o = old k in
      grind (arith, nat_tests)
]

joined_first : (c n : ℕ) (r s : ℕ → Bool) → r 0 ≡ false → s 0 ≡ false →
    (if nat_lt 0 c then r 0 else if nat_lt 0 (c + n) then s (0 - c) else (not (0 == c + n) && r 0)) ≡ false
joined_first c n r s p q =
    let i : 0 - c ≡ 0 = omega arith in
    let z : s (0 - c) ≡ false = ap s i ∙ q in
    grind (arith, nat_tests)

pub IsPaired-put_cells : (c n : ℕ) (o : CellValue) (new cells : List CellValue) →
    length new ≡ n → c + n ≤ length cells → is_wide o ≡ false → is_right_half o ≡ false →
    IsPaired new → IsPaired cells → IsPaired (put_cells c o new n cells)
IsPaired-put_cells c n o new cells e h ow or q p =
    let w = λ (j : ℕ). is_wide (at cells j) in
    let r = λ (j : ℕ). is_right_half (at cells j) in
    let v = λ (j : ℕ). is_wide (at new j) in
    let s = λ (j : ℕ). is_right_half (at new j) in
    record {
      halves = λ k.
          ap is_wide (put_columns c n o new cells k e h) ∙ (wide_column c n o new cells k ow
          ∙ (joined c n k w r v s p.halves q.halves q.first (λ j le. ap is_right_half (at-past new j (omega arith)))
          ∙ (sym (right_column c n o new cells (k + 1) or)
          ∙ sym (ap is_right_half (put_columns c n o new cells (k + 1) e h)))));
      first =
          ap is_right_half (put_columns c n o new cells 0 e h)
          ∙ (right_column c n o new cells 0 or ∙ joined_first c n r s p.first q.first);
    }

-- ---- The cells that are put

pub paired_from : (cells : List CellValue) → is_right_half (at cells 0) ≡ false →
    ((k : ℕ) → is_wide (at cells k) ≡ is_right_half (at cells (suc k))) → IsPaired cells
paired_from cells r f =
    record { halves = λ k. f k ∙ ap (λ (j : ℕ). is_right_half (at cells j)) (sym (add-one k)); first = r }

IsPaired-one : (x : CellValue) → is_wide x ≡ false → is_right_half x ≡ false → IsPaired (x ∷ [])
IsPaired-one x w r = paired_from (x ∷ []) r one where
  one : (k : ℕ) → is_wide (at (x ∷ []) k) ≡ is_right_half (at (x ∷ []) (suc k))
  one zero = w
  one (suc k) = refl

IsPaired-two : (x : CellValue) → is_wide x ≡ true → IsPaired (x ∷ right_half ∷ [])
IsPaired-two x w = paired_from (x ∷ right_half ∷ []) (grind (arith, not_both x, w)) two where
  two : (k : ℕ) → is_wide (at (x ∷ right_half ∷ []) k) ≡ is_right_half (at (x ∷ right_half ∷ []) (suc k))
  two zero = w
  two (suc zero) = refl
  two (suc (suc k)) = refl

pub IsPaired-blanks : (attrs : Attrs) (n : ℕ) → IsPaired (blanks attrs n)
IsPaired-blanks attrs n =
    paired_from (blanks attrs n) (right_blanks n 0) (λ k. wide_blanks n k ∙ sym (right_blanks n (suc k))) where
      wide_blanks : (n k : ℕ) → is_wide (at (blanks attrs n) k) ≡ false
      wide_blanks zero k = refl
      wide_blanks (suc n) zero = refl
      wide_blanks (suc n) (suc k) = wide_blanks n k

      right_blanks : (n k : ℕ) → is_right_half (at (blanks attrs n) k) ≡ false
      right_blanks zero k = refl
      right_blanks (suc n) zero = refl
      right_blanks (suc n) (suc k) = right_blanks n k

-- ---- The edits

pub IsPaired-put_narrow : (c : ℕ) (text : List ℕ) (attrs : Attrs) (cells : List CellValue) →
    c < length cells → IsPaired cells → IsPaired (put_narrow c text attrs cells)
IsPaired-put_narrow c text attrs cells h p =
    IsPaired-put_cells c 1 (glyph (0x20 ∷ []) false attrs) (glyph text false attrs ∷ [])
    cells refl (omega arith) refl refl (IsPaired-one (glyph text false attrs) refl refl) p

pub IsPaired-put_wide : (c : ℕ) (text : List ℕ) (attrs : Attrs) (cells : List CellValue) →
    c + 1 < length cells → IsPaired cells → IsPaired (put_wide c text attrs cells)
IsPaired-put_wide c text attrs cells h p =
    IsPaired-put_cells c 2 (blank attrs) (glyph text true attrs ∷ right_half ∷ [])
    cells refl (omega arith) refl refl (IsPaired-two (glyph text true attrs) refl) p

pub IsPaired-erased : (c n : ℕ) (attrs : Attrs) (cells : List CellValue) →
    c + n ≤ length cells → IsPaired cells → IsPaired (cells_after_erase c n attrs cells)
IsPaired-erased c n attrs cells h p =
    IsPaired-put_cells c n default_blank (blanks attrs n) cells
    (length-replicate n (blank attrs)) h refl refl (IsPaired-blanks attrs n) p

is_wide-widened : (x : CellValue) → is_blank x ≡ false → is_right_half x ≡ false → is_wide (cell_made_wide true x) ≡ true
is_wide-widened (blank attrs) b r = cc
is_wide-widened (glyph text wide attrs) b r = refl
is_wide-widened right_half b r = cc

pub IsPaired-widened_at : (k : ℕ) (attrs : Attrs) (cells : List CellValue) →
    k + 1 < length cells → is_blank (at cells k) ≡ false → is_right_half (at cells k) ≡ false →
    IsPaired cells → IsPaired (widened_at k attrs cells)
IsPaired-widened_at k attrs cells h b r p =
    IsPaired-put_cells k 2 (blank attrs) (cell_made_wide true (at cells k) ∷ right_half ∷ []) cells refl
    (omega arith) refl refl (IsPaired-two (cell_made_wide true (at cells k)) (is_wide-widened (at cells k) b r)) p

is_wide-narrowed : (x : CellValue) → is_wide (cell_made_wide false x) ≡ false
is_wide-narrowed (blank attrs) = refl
is_wide-narrowed (glyph text wide attrs) = refl
is_wide-narrowed right_half = refl

is_right_half-widened : (wide : Bool) (x : CellValue) → is_right_half (cell_made_wide wide x) ≡ is_right_half x
is_right_half-widened wide (blank attrs) = refl
is_right_half-widened wide (glyph text was attrs) = refl
is_right_half-widened wide right_half = refl

pub IsPaired-narrowed_at : (k : ℕ) (attrs : Attrs) (cells : List CellValue) → k < length cells →
    is_right_half (at cells k) ≡ false → IsPaired cells → IsPaired (narrowed_at k attrs cells)
IsPaired-narrowed_at k attrs cells h r p =
    IsPaired-put_cells k 1 (glyph (0x20 ∷ []) false attrs)
    (cell_made_wide false (at cells k) ∷ []) cells refl (omega arith) refl refl
    (IsPaired-one (cell_made_wide false (at cells k)) (is_wide-narrowed (at cells k))
    (is_right_half-widened false (at cells k) ∙ r))
    p

-- Cells stay paired if a cell is replaced by one of the same kind.
pub IsPaired-set : (k : ℕ) (x : CellValue) (cells : List CellValue) → is_wide x ≡ is_wide (at cells k) →
    is_right_half x ≡ is_right_half (at cells k) → IsPaired cells → IsPaired (slice_set cells k x)
IsPaired-set k x cells w r p = record {
  halves = λ j. same_at is_wide w j ∙ (p.halves j ∙ sym (same_at is_right_half r (j + 1)));
  first = same_at is_right_half r 0 ∙ p.first;
} where
  same_at : (f : CellValue → Bool) → f x ≡ f (at cells k) → (j : ℕ) → f (at (slice_set cells k x) j) ≡ f (at cells j)
  same_at f e j = elim (cases_eq j k) [
    | inl same ↦ elim (cases_lt k (length cells)) [
      | inl lt ↦ rw (same, get_or-set_same cells k x default_blank lt) e
      | inr past ↦ rw (set_past cells k x past) refl
    ]
    | inr other ↦ ap f (get_or-set_other cells k j x default_blank other)
  ]

pub is_wide-marked : (mark : ℕ) (x : CellValue) → is_wide (cell_with_mark mark x) ≡ is_wide x
is_wide-marked mark (blank attrs) = refl
is_wide-marked mark (glyph text wide attrs) = refl
is_wide-marked mark right_half = refl

pub is_right_half-marked : (mark : ℕ) (x : CellValue) → is_right_half (cell_with_mark mark x) ≡ is_right_half x
is_right_half-marked mark (blank attrs) = refl
is_right_half-marked mark (glyph text wide attrs) = refl
is_right_half-marked mark right_half = refl

pub IsPaired-marked_at : (k mark : ℕ) (cells : List CellValue) → IsPaired cells → IsPaired (marked_at k mark cells)
IsPaired-marked_at k mark cells p =
    IsPaired-set k (cell_with_mark mark (at cells k)) cells
    (is_wide-marked mark (at cells k)) (is_right_half-marked mark (at cells k)) p

-- ==== An edit leaves valid cells if the old cells and the written cells are valid.

IsCell-mended : (x : CellValue) → IsCell x → IsCell (cell_cut_from_right_half x)
IsCell-mended (blank attrs) h = tt
IsCell-mended (glyph text true attrs) h = tt
IsCell-mended (glyph text false attrs) h = h
IsCell-mended right_half h = tt

All-shut : (cells : List CellValue) → All IsCell cells → All IsCell (cells_before_cut cells)
All-shut [] h = h
All-shut (x ∷ []) h = All-cons IsCell (cell_cut_from_right_half x) [] (IsCell-mended x (All-head IsCell x [] h)) (All-nil IsCell)
All-shut (x ∷ y ∷ xs) h =
    All-cons IsCell x (cells_before_cut (y ∷ xs)) (All-head IsCell x (y ∷ xs) h) (All-shut (y ∷ xs) (All-tail IsCell x (y ∷ xs) h))

All-opened : (o : CellValue) (cells : List CellValue) → IsCell o → All IsCell cells → All IsCell (cells_after_cut o cells)
All-opened o [] i h = h
All-opened o (right_half ∷ xs) i h = All-cons IsCell o xs i (All-tail IsCell right_half xs h)
All-opened o (blank attrs ∷ xs) i h = h
All-opened o (glyph text wide attrs ∷ xs) i h = h

pub All-put_cells : (c n : ℕ) (o : CellValue) (new cells : List CellValue) → IsCell o →
    All IsCell new → All IsCell cells → All IsCell (put_cells c o new n cells)
unfolding put_cells
All-put_cells c n o new cells i h all =
    let rest = drop n (drop c cells) in
    All-append IsCell (cells_before_cut (take c cells)) _ (All-shut (take c cells) (All-take IsCell c cells all))
    (All-append IsCell new (cells_after_cut o rest) h
    (All-opened o rest i (All-drop IsCell n (drop c cells) (All-drop IsCell c cells all))))

-- ---- The edits

pub All-put_narrow : (c : ℕ) (text : List ℕ) (attrs : Attrs) (cells : List CellValue) →
    IsGlyphText text false → All IsCell cells → All IsCell (put_narrow c text attrs cells)
All-put_narrow c text attrs cells h all =
    All-put_cells c 1 (glyph (0x20 ∷ []) false attrs) (glyph text false attrs ∷ []) cells
    (IsCell-space attrs) (All-cons IsCell (glyph text false attrs) [] h (All-nil IsCell)) all

All-two : (x : CellValue) → IsCell x → All IsCell (x ∷ right_half ∷ [])
All-two x h = All-cons IsCell x (right_half ∷ []) h (All-cons IsCell right_half [] tt (All-nil IsCell))

pub All-put_wide : (c : ℕ) (text : List ℕ) (attrs : Attrs) (cells : List CellValue) →
    IsGlyphText text true → All IsCell cells → All IsCell (put_wide c text attrs cells)
All-put_wide c text attrs cells h all =
    All-put_cells c 2 (blank attrs) (glyph text true attrs ∷ right_half ∷ [])
    cells tt (All-two (glyph text true attrs) h) all

pub All-erased : (c n : ℕ) (attrs : Attrs) (cells : List CellValue) →
    All IsCell cells → All IsCell (cells_after_erase c n attrs cells)
All-erased c n attrs cells all =
    All-put_cells c n default_blank (blanks attrs n) cells tt (All-replicate IsCell n (blank attrs) tt) all

pub All-marked_at : (k mark : ℕ) (cells : List CellValue) →
    IsCell (cell_with_mark mark (at cells k)) → All IsCell cells → All IsCell (marked_at k mark cells)
All-marked_at k mark cells h all = All-set IsCell cells k (cell_with_mark mark (at cells k)) h all

pub All-widened_at : (k : ℕ) (attrs : Attrs) (cells : List CellValue) →
    IsCell (cell_made_wide true (at cells k)) → All IsCell cells → All IsCell (widened_at k attrs cells)
All-widened_at k attrs cells h all =
    All-put_cells k 2 (blank attrs) (cell_made_wide true (at cells k) ∷ right_half ∷ [])
    cells tt (All-two (cell_made_wide true (at cells k)) h) all

pub All-narrowed_at : (k : ℕ) (attrs : Attrs) (cells : List CellValue) →
    IsCell (cell_made_wide false (at cells k)) → All IsCell cells → All IsCell (narrowed_at k attrs cells)
All-narrowed_at k attrs cells h all =
    All-put_cells k 1 (glyph (0x20 ∷ []) false attrs) (cell_made_wide false (at cells k) ∷ []) cells
    (IsCell-space attrs) (All-cons IsCell (cell_made_wide false (at cells k)) [] h (All-nil IsCell)) all
