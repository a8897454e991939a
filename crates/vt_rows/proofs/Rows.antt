-- Edits keep the invariant of rows, and rows without the default blanks at their end.
use Rattle.std.proofs.Common.{◌≡◌, ℕ, ◌+◌, ◌-◌, ◌<◌, ◌≤◌, ◌==◌, ◌&&◌, not, Bool, true, false, List, [], ◌∷◌, length}
use Rattle.std.proofs.Common.{refl, sym, ap, ◌∙◌, inl, inr, lit<, arith, zero, suc, take, subst}
use Rattle.std.specs.Prelude.{◌||◌, All, if◌then◌else◌}
use Rattle.std.proofs.lemmas.Bool.{cases_eq, cases_lt, cond_both, and_parts, false_from_ne_true}
use Rattle.std.proofs.lemmas.Bool.Decides.{nat_tests}
use Rattle.std.proofs.lemmas.List.{length-set, length-replicate, take_all}
use Rattle.std.proofs.lemmas.List.Elements.{All-replicate, All-nil, All-cons, All-head, All-tail}
use Rattle.std.specs.List.{list_all, slice_range}
use Rattle.std.proofs.lemmas.Simd.{get_or-chunk}
use Rattle.vt_cells.specs.Cell.{CellValue, blank, glyph, right_half, default_blank, is_blank, is_right_half}
use Rattle.vt_cells.specs.Cell.{cell_with_mark, cell_made_wide, IsCell, is_wide, is_default_blank, attrs_of}
use Rattle.vt_cells.specs.Glyph.{IsGlyphText}
use Rattle.vt_cells.specs.Attrs.{Attrs, default_attrs, same_attrs}
use Rattle.vt_cells.proofs.Attributes.{attrs_of-same, same_attrs-itself}
use Rattle.vt_rows.specs.Cells.{at, IsPaired, ends_blank, blanks, put_cells, column_of, put_narrow, put_wide}
use Rattle.vt_rows.specs.Cells.{cells_after_erase, marked_at, widened_at, narrowed_at}
use Rattle.vt_rows.specs.Row.{RowValue, IsRow, blank_row, with_cells, cells_without_end, trimmed_row}
use Rattle.vt_rows.proofs.Edits.{put_columns, length-put_cells, IsPaired-put_narrow, IsPaired-put_wide, IsPaired-erased}
use Rattle.vt_rows.proofs.Edits.{IsPaired-marked_at, IsPaired-widened_at, IsPaired-narrowed_at, IsPaired-blanks}
use Rattle.vt_rows.proofs.Edits.{All-put_narrow, All-put_wide, All-erased, All-marked_at, All-widened_at}
use Rattle.vt_rows.proofs.Edits.{All-narrowed_at, at-blanks, at-past, blanks_is}

-- ==== Each edit keeps the invariant of the rows of a page.

-- ---- The number of columns

pub length-put_narrow : (c : ℕ) (text : List ℕ) (attrs : Attrs) (cells : List CellValue) →
    c < length cells → length (put_narrow c text attrs cells) ≡ length cells
length-put_narrow c text attrs cells h =
    length-put_cells c 1 (glyph (0x20 ∷ []) false attrs) (glyph text false attrs ∷ []) cells refl (omega arith)

pub length-put_wide : (c : ℕ) (text : List ℕ) (attrs : Attrs) (cells : List CellValue) →
    c + 1 < length cells → length (put_wide c text attrs cells) ≡ length cells
length-put_wide c text attrs cells h =
    length-put_cells c 2 (blank attrs) (glyph text true attrs ∷ right_half ∷ []) cells refl (omega arith)

pub length-erased : (c n : ℕ) (attrs : Attrs) (cells : List CellValue) →
    c + n ≤ length cells → length (cells_after_erase c n attrs cells) ≡ length cells
length-erased c n attrs cells h =
    length-put_cells c n default_blank (blanks attrs n) cells (length-replicate n (blank attrs)) h

pub length-marked_at : (k mark : ℕ) (cells : List CellValue) → length (marked_at k mark cells) ≡ length cells
length-marked_at k mark cells = length-set cells k (cell_with_mark mark (at cells k))

pub length-widened_at : (k : ℕ) (attrs : Attrs) (cells : List CellValue) →
    k + 1 < length cells → length (widened_at k attrs cells) ≡ length cells
length-widened_at k attrs cells h =
    length-put_cells k 2 (blank attrs) (cell_made_wide true (at cells k) ∷ right_half ∷ []) cells refl (omega arith)

pub length-narrowed_at : (k : ℕ) (attrs : Attrs) (cells : List CellValue) →
    k < length cells → length (narrowed_at k attrs cells) ≡ length cells
length-narrowed_at k attrs cells h =
    length-put_cells k 1 (glyph (0x20 ∷ []) false attrs) (cell_made_wide false (at cells k) ∷ []) cells refl (omega arith)

-- ---- The last column

last_column : (c n : ℕ) (o : CellValue) (new cells : List CellValue) → 0 < n → c + n ≤ length cells →
    column_of c n o new cells (length cells - 1)
    ≡ (if c + n == length cells then at new (n - 1)
    else if (c + n + 1 == length cells) && is_right_half (at cells (c + n)) then o else at cells (length cells - 1))
last_column c n o new cells pos h = elim (cases_eq (c + n) (length cells)) [
  | inl whole ↦
      let i : length cells - 1 - c ≡ n - 1 = omega arith in
      let a : at new (length cells - 1 - c) ≡ at new (n - 1) = ap (λ (j : ℕ). at new j) i in
      grind (arith, nat_tests)
  | inr part ↦ elim (cases_eq (c + n + 1) (length cells)) [
    | inl one ↦
        let i : length cells - 1 ≡ c + n = omega arith in
        let a : at cells (length cells - 1) ≡ at cells (c + n) = ap (λ (j : ℕ). at cells j) i in
        grind (arith, nat_tests)
    | inr more ↦ grind (arith, nat_tests)
  ]
]

blank_if : (t : Bool) (x y : CellValue) → is_blank (if t then x else y) ≡ (if t then is_blank x else is_blank y)
blank_if true x y = refl
blank_if false x y = refl

-- The condition under which the last column is a blank after n columns, starting at column c, are replaced.
pub ends_blank-put_cells : (c n : ℕ) (o : CellValue) (new cells : List CellValue) →
    length new ≡ n → 0 < n → c + n ≤ length cells →
    ends_blank (put_cells c o new n cells)
    ≡ (if c + n == length cells then is_blank (at new (n - 1))
    else if (c + n + 1 == length cells) && is_right_half (at cells (c + n)) then is_blank o else ends_blank cells)
ends_blank-put_cells c n o new cells e pos h =
    let last = length cells - 1 in
    let torn = (c + n + 1 == length cells) && is_right_half (at cells (c + n)) in
    ap (λ (m : ℕ). is_blank (at (put_cells c o new n cells) (m - 1))) (length-put_cells c n o new cells e h)
    ∙ (ap is_blank (put_columns c n o new cells last e h ∙ last_column c n o new cells pos h)
    ∙ (blank_if (c + n == length cells) (at new (n - 1)) (if torn then o else at cells last)
    ∙ ap (λ (b : Bool). if c + n == length cells then is_blank (at new (n - 1)) else b)
    (blank_if torn o (at cells last))))

-- A narrow glyph in the last column makes the row end with a glyph; in any other column, the end is unchanged.
pub ends_blank-put_narrow : (c : ℕ) (text : List ℕ) (attrs : Attrs) (cells : List CellValue) → c < length cells →
    ends_blank (put_narrow c text attrs cells) ≡ (not (c + 1 == length cells) && ends_blank cells)
ends_blank-put_narrow c text attrs cells h =
    ends_blank-put_cells c 1 (glyph (0x20 ∷ []) false attrs)
    (glyph text false attrs ∷ []) cells refl (lit< tt) (omega arith)
    ∙ grind (arith, nat_tests)

pub ends_blank-put_wide : (c : ℕ) (text : List ℕ) (attrs : Attrs) (cells : List CellValue) → c + 1 < length cells →
    ends_blank (put_wide c text attrs cells)
    ≡ (not (c + 2 == length cells)
    && (((c + 3 == length cells) && is_right_half (at cells (c + 2))) || ends_blank cells))
ends_blank-put_wide c text attrs cells h =
    ends_blank-put_cells c 2 (blank attrs) (glyph text true attrs ∷ right_half ∷ []) cells refl (lit< tt) (omega arith)
    ∙ grind (arith, nat_tests)

-- ---- Rows

pub IsRow-with_cells : (width : ℕ) (row : RowValue) (cells : List CellValue) →
    length cells ≡ width → IsPaired cells → All IsCell cells → IsRow width (with_cells row cells)
IsRow-with_cells width row cells l p s =
    record { columns = l; paired = p; flagged = λ h. falls row.wrapped (ends_blank cells) h; sound = s } where
      falls : (w e : Bool) → (w && not e) ≡ true → e ≡ false
      falls true true h = sym h
      falls true false h = refl
      falls false e h = cc

pub IsRow-blank_row : (attrs : Attrs) (width : ℕ) → IsRow width (blank_row attrs width)
IsRow-blank_row attrs width = record {
  columns = length-replicate width (blank attrs);
  paired = IsPaired-blanks attrs width;
  flagged = λ h. cc;
  sound = All-replicate IsCell width (blank attrs) tt;
}

pub IsRow-put_narrow : (width : ℕ) (row : RowValue) (c : ℕ) (text : List ℕ) (attrs : Attrs) → c < width →
    IsGlyphText text false → IsRow width row → IsRow width (with_cells row (put_narrow c text attrs row.cells))
IsRow-put_narrow width row c text attrs h t r =
    let l = r.columns in
    IsRow-with_cells width row (put_narrow c text attrs row.cells)
    (length-put_narrow c text attrs row.cells (omega arith) ∙ l)
    (IsPaired-put_narrow c text attrs row.cells (omega arith) r.paired)
    (All-put_narrow c text attrs row.cells t r.sound)

pub IsRow-put_wide : (width : ℕ) (row : RowValue) (c : ℕ) (text : List ℕ) (attrs : Attrs) → c + 1 < width →
    IsGlyphText text true → IsRow width row → IsRow width (with_cells row (put_wide c text attrs row.cells))
IsRow-put_wide width row c text attrs h t r =
    let l = r.columns in
    IsRow-with_cells width row (put_wide c text attrs row.cells)
    (length-put_wide c text attrs row.cells (omega arith) ∙ l)
    (IsPaired-put_wide c text attrs row.cells (omega arith) r.paired) (All-put_wide c text attrs row.cells t r.sound)

pub IsRow-erased : (width : ℕ) (row : RowValue) (c n : ℕ) (attrs : Attrs) → c + n ≤ width →
    IsRow width row → IsRow width (with_cells row (cells_after_erase c n attrs row.cells))
IsRow-erased width row c n attrs h r =
    let l = r.columns in
    IsRow-with_cells width row (cells_after_erase c n attrs row.cells) (length-erased c n attrs row.cells (omega arith) ∙ l)
    (IsPaired-erased c n attrs row.cells (omega arith) r.paired) (All-erased c n attrs row.cells r.sound)

pub IsRow-marked_at : (width : ℕ) (row : RowValue) (k mark : ℕ) → IsCell (cell_with_mark mark (at row.cells k)) →
    IsRow width row → IsRow width (with_cells row (marked_at k mark row.cells))
IsRow-marked_at width row k mark h r =
    IsRow-with_cells width row (marked_at k mark row.cells) (length-marked_at k mark row.cells ∙ r.columns)
    (IsPaired-marked_at k mark row.cells r.paired) (All-marked_at k mark row.cells h r.sound)

pub IsRow-widened_at : (width : ℕ) (row : RowValue) (k : ℕ) (attrs : Attrs) →
    k + 1 < width → is_blank (at row.cells k) ≡ false →
    is_right_half (at row.cells k) ≡ false → IsCell (cell_made_wide true (at row.cells k)) →
    IsRow width row → IsRow width (with_cells row (widened_at k attrs row.cells))
IsRow-widened_at width row k attrs h b e t r =
    let l = r.columns in
    IsRow-with_cells width row (widened_at k attrs row.cells) (length-widened_at k attrs row.cells (omega arith) ∙ l)
    (IsPaired-widened_at k attrs row.cells (omega arith) b e r.paired) (All-widened_at k attrs row.cells t r.sound)

pub IsRow-narrowed_at : (width : ℕ) (row : RowValue) (k : ℕ) (attrs : Attrs) → k < width →
    is_right_half (at row.cells k) ≡ false → IsCell (cell_made_wide false (at row.cells k)) →
    IsRow width row → IsRow width (with_cells row (narrowed_at k attrs row.cells))
IsRow-narrowed_at width row k attrs h e t r =
    let l = r.columns in
    IsRow-with_cells width row (narrowed_at k attrs row.cells) (length-narrowed_at k attrs row.cells (omega arith) ∙ l)
    (IsPaired-narrowed_at k attrs row.cells (omega arith) e r.paired) (All-narrowed_at k attrs row.cells t r.sound)

-- A row stays valid when its wrapped flag is cleared, or set while the last column is not a blank.
pub IsRow-wrapped : (width : ℕ) (row : RowValue) (wrapped : Bool) → (wrapped ≡ true → ends_blank row.cells ≡ false) →
    IsRow width row → IsRow width (record row { wrapped = wrapped })
IsRow-wrapped width row wrapped h r = record { columns = r.columns; paired = r.paired; flagged = h; sound = r.sound }

-- ==== A row without the default blanks at its end.

pub default_is : (x : CellValue) → is_blank x ≡ true → same_attrs (attrs_of x) default_attrs ≡ is_default_blank x
default_is (blank attrs) e = refl
default_is (glyph text wide attrs) e = cc
default_is right_half e = cc

-- There is only one default blank.
pub default_same : (x : CellValue) → is_default_blank x ≡ true → x ≡ default_blank
default_same (blank attrs) e = ap blank (attrs_of-same attrs default_attrs e)
default_same (glyph text wide attrs) e = cc
default_same right_half e = cc

no_default : (x : CellValue) → is_blank x ≡ false → is_default_blank x ≡ false
no_default (blank attrs) e = cc
no_default (glyph text wide attrs) e = refl
no_default right_half e = refl

is_default-itself : is_default_blank default_blank ≡ true
is_default-itself = same_attrs-itself default_attrs

all_default : (cells : List CellValue) → ((k : ℕ) → at cells k ≡ default_blank) → list_all is_default_blank cells ≡ true
all_default [] f = refl
all_default (x ∷ xs) f = rw (ap is_default_blank (f 0) ∙ is_default-itself) (all_default xs (λ k. f (suc k)))

all_default-at : (cells : List CellValue) (k : ℕ) → list_all is_default_blank cells ≡ true → at cells k ≡ default_blank
all_default-at [] k e = refl
all_default-at (x ∷ xs) zero e = default_same x (and_parts (is_default_blank x) (list_all is_default_blank xs) e).0
all_default-at (x ∷ xs) (suc k) e =
    all_default-at xs k (and_parts (is_default_blank x) (list_all is_default_blank xs) e).1

not_all : (cells : List CellValue) (k : ℕ) → k < length cells →
    is_default_blank (at cells k) ≡ false → list_all is_default_blank cells ≡ false
not_all cells k h e =
    false_from_ne_true (list_all is_default_blank cells)
    (λ t. let a = ap is_default_blank (all_default-at cells k t) ∙ is_default-itself in cc)

-- The first n cells of a row are its trimmed cells if all later cells are default blanks and cell n - 1, if any, is
-- not.
pub trimmed_is : (cells : List CellValue) (n : ℕ) → n ≤ length cells → ((k : ℕ) → n ≤ k → at cells k ≡ default_blank) →
    ((j : ℕ) → n ≡ suc j → is_default_blank (at cells j) ≡ false) → take n cells ≡ cells_without_end cells
trimmed_is [] zero h f g = refl
trimmed_is [] (suc n) h f g = absurd (omega arith)
trimmed_is (x ∷ xs) zero h f g = sym (rw (all_default (x ∷ xs) (λ k. f k (omega arith))) refl)
trimmed_is (x ∷ xs) (suc n) h f g =
    let no : list_all is_default_blank (x ∷ xs) ≡ false = not_all (x ∷ xs) n (omega arith) (g n refl) in
    let ih : take n xs ≡ cells_without_end xs =
    trimmed_is xs n (omega arith) (λ k le. f (suc k) (omega arith)) (λ j e. g (suc j) (ap suc e)) in
    rw no (ap (λ (ys : List CellValue). x ∷ ys) ih)

pub at-trimmed : (cells : List CellValue) (k : ℕ) → at (cells_without_end cells) k ≡ at cells k
at-trimmed [] k = refl
at-trimmed (x ∷ xs) k = by_all (λ j. at-trimmed xs j) (list_all is_default_blank (x ∷ xs)) refl k where
  by_all : ((j : ℕ) → at (cells_without_end xs) j ≡ at xs j) → (b : Bool) → list_all is_default_blank (x ∷ xs) ≡ b →
      (k : ℕ) → at (if b then [] else x ∷ cells_without_end xs) k ≡ at (x ∷ xs) k
  by_all ih true e k = sym (all_default-at (x ∷ xs) k e)
  by_all ih false e zero = refl
  by_all ih false e (suc k) = ih k

pub length-trimmed : (cells : List CellValue) → length (cells_without_end cells) ≤ length cells
length-trimmed [] = omega arith
length-trimmed (x ∷ xs) =
    let ih = length-trimmed xs in
    cond_both (list_all is_default_blank (x ∷ xs)) [] (x ∷ cells_without_end xs)
    (λ (ys : List CellValue). length ys ≤ length (x ∷ xs)) (λ _. omega arith) (λ _. omega arith)

pub IsPaired-trimmed : (cells : List CellValue) → IsPaired cells → IsPaired (cells_without_end cells)
IsPaired-trimmed cells p = record {
  halves = λ k. ap is_wide (at-trimmed cells k) ∙ (p.halves k ∙ sym (ap is_right_half (at-trimmed cells (k + 1))));
  first = ap is_right_half (at-trimmed cells 0) ∙ p.first;
}

pub All-trimmed : (cells : List CellValue) → All IsCell cells → All IsCell (cells_without_end cells)
All-trimmed [] all = all
All-trimmed (x ∷ xs) all =
    let ih = All-trimmed xs (All-tail IsCell x xs all) in
    cond_both (list_all is_default_blank (x ∷ xs)) [] (x ∷ cells_without_end xs) (All IsCell)
    (λ _. All-nil IsCell) (λ _. All-cons IsCell x (cells_without_end xs) (All-head IsCell x xs all) ih)

-- If the last cell is not a blank, trimming changes nothing.
pub trimmed-none : (cells : List CellValue) → ends_blank cells ≡ false → cells_without_end cells ≡ cells
trimmed-none cells e =
    sym (trimmed_is cells (length cells) (omega arith) (λ k le. at-past cells k le) (λ j l. last j l))
    ∙ take_all (length cells) cells (omega arith) where
      last : (j : ℕ) → length cells ≡ suc j → is_default_blank (at cells j) ≡ false
      last j l =
          let i : length cells - 1 ≡ j = omega arith in
          no_default (at cells j) (ap (λ (m : ℕ). is_blank (at cells m)) (sym i) ∙ e)

pub IsRow-trimmed_row : (width : ℕ) (row : RowValue) → IsRow width row →
    IsRow (length (cells_without_end row.cells)) (trimmed_row row)
IsRow-trimmed_row width row r = record {
  columns = refl;
  paired = IsPaired-trimmed row.cells r.paired;
  flagged =
      λ h. subst (λ (cells : List CellValue). ends_blank cells ≡ false)
      (sym (trimmed-none row.cells (r.flagged h))) (r.flagged h);
  sound = All-trimmed row.cells r.sound;
}

-- Four cells that are each a default blank are the list of four default blanks.
pub four_blanks : (cells : List CellValue) → length cells ≡ 4 → at cells 0 ≡ default_blank → at cells 1 ≡ default_blank →
    at cells 2 ≡ default_blank → at cells 3 ≡ default_blank → cells ≡ blanks default_attrs 4
four_blanks cells l a b c d = blanks_is default_attrs 4 cells l each
  where
    each : (k : ℕ) → k < 4 → at cells k ≡ default_blank
    each zero lt = a
    each (suc zero) lt = b
    each (suc (suc zero)) lt = c
    each (suc (suc (suc zero))) lt = d
    each (suc (suc (suc (suc k)))) lt = absurd (omega arith)

-- If all cells from i + 8 on are default blanks, and so are the eight cells before them, then all cells from i on are
-- default blanks.
pub eight_more : (cells : List CellValue) (i : ℕ) → slice_range cells i (i + 8) ≡ blanks default_attrs 8 →
    ((k : ℕ) → i + 8 ≤ k → at cells k ≡ default_blank) → (k : ℕ) → i ≤ k → at cells k ≡ default_blank
eight_more cells i eight behind k le =
    elim (cases_lt k (i + 8)) [
      | inl low ↦
          let there : i + (k - i) ≡ k = omega arith in
          let part = get_or-chunk i (i + 8 - i) cells (k - i) default_blank (omega arith) in
          ap (λ (j : ℕ). at cells j) (sym there)
          ∙ (sym part ∙ (ap (λ (xs : List CellValue). at xs (k - i)) eight ∙ at-blanks 8 (k - i)))
      | inr high ↦ behind k high
    ]
