-- The steps of the code for an edit of a row, column by column.
use Rattle.std.proofs.Common.{◌≡◌, ℕ, ◌+◌, ◌-◌, ◌<◌, ◌≤◌, ◌==◌, ◌&&◌, nat_lt, not, Bool, true, false, List, []}
use Rattle.std.proofs.Common.{◌∷◌, ◌++◌, length, take, drop, get_or, refl, inl, inr, sym, ap, ◌∙◌, arith}
use Rattle.std.specs.Prelude.{if◌then◌else◌, slice_set}
use borrow.Rule.Slice.PartMut.{put_mid}
use Rattle.std.proofs.lemmas.Bool.{cases_lt, cases_eq, and_parts}
use Rattle.std.proofs.lemmas.Bool.Decides.{nat_tests}
use Rattle.std.proofs.lemmas.List.{get_or_default, length-append, length-take, length-drop}
use Rattle.std.proofs.lemmas.List.{get_or_append_left, get_or-append_right, get_or-take}
use Rattle.std.proofs.lemmas.List.{get_or-drop, length-set, get_or-set_same, get_or-set_other}
use Rattle.vt_cells.specs.Cell.{CellValue, blank, glyph, right_half, default_blank}
use Rattle.vt_cells.specs.Cell.{is_wide, is_right_half, attrs_of, text_of}
use Rattle.vt_rows.specs.Cells.{at, IsPaired, put_cells, column_of}
use Rattle.vt_rows.specs.Internals.{left_blanked, right_replaced, HasRoom}
use Rattle.vt_rows.proofs.Edits.{put_columns, length-put_cells, same_columns, at-past, wide_mended}

pub at-set : (xs : List CellValue) (i k : ℕ) (v : CellValue) →
    i < length xs → at (slice_set xs i v) k ≡ (if k == i then v else at xs k)
at-set xs i k v h = elim (cases_eq k i) [
  | inl same ↦ let e : at (slice_set xs i v) k ≡ v =
      rw same (get_or-set_same xs i v default_blank h) in grind (arith, nat_tests)
  | inr other ↦ let e = get_or-set_other xs i k v default_blank other in grind (arith, nat_tests)
]

pub length-left_blanked : (c : ℕ) (cells : List CellValue) → length (left_blanked c cells) ≡ length cells
unfolding left_blanked
length-left_blanked c cells = by_half (is_right_half (at cells c)) where
  by_half : (b : Bool) →
      length (if b then slice_set cells (c - 1) (blank (attrs_of (at cells (c - 1)))) else cells) ≡ length cells
  by_half true = length-set cells (c - 1) (blank (attrs_of (at cells (c - 1))))
  by_half false = refl

pub length-right_replaced : (c : ℕ) (x : CellValue) (cells : List CellValue) →
    length (right_replaced c x cells) ≡ length cells
unfolding right_replaced
length-right_replaced c x cells = by_half (is_wide (at cells c)) where
  by_half : (b : Bool) → length (if b then slice_set cells (c + 1) x else cells) ≡ length cells
  by_half true = length-set cells (c + 1) x
  by_half false = refl

before : (cells : List CellValue) (c k : ℕ) → IsPaired cells →
    k + 1 ≡ c → is_wide (at cells k) ≡ is_right_half (at cells c)
before cells c k p e = p.halves k ∙ ap (λ (j : ℕ). is_right_half (at cells j)) e

pub at-left_blanked : (c k : ℕ) (cells : List CellValue) → IsPaired cells → c < length cells →
    at (left_blanked c cells) k
    ≡ (if (k + 1 == c) && is_wide (at cells k) then blank (attrs_of (at cells k)) else at cells k)
unfolding left_blanked
at-left_blanked c k cells p h = by_half (is_right_half (at cells c)) refl where
  v : CellValue
  v = blank (attrs_of (at cells (c - 1)))

  by_half : (b : Bool) → is_right_half (at cells c) ≡ b →
      at (if b then slice_set cells (c - 1) (blank (attrs_of (at cells (c - 1)))) else cells) k
      ≡ (if (k + 1 == c) && is_wide (at cells k) then blank (attrs_of (at cells k)) else at cells k)
  by_half false e = elim (cases_eq (k + 1) c) [
    | inl here ↦ let b = before cells c k p here in grind (arith, nat_tests)
    | inr away ↦ grind (arith, nat_tests)
  ]
  by_half true e =
      let pos : 0 < c = elim (cases_eq c 0)
      [ inl none ↦ cc (ap (λ (j : ℕ). is_right_half (at cells j)) none, p.first) | inr some ↦ omega arith ] in
      let s = at-set cells (c - 1) k (blank (attrs_of (at cells (c - 1)))) (omega arith) in
      elim (cases_eq (k + 1) c) [
        | inl here ↦
            let b = before cells c k p here in
            let i : c - 1 ≡ k = omega arith in
            let t : blank (attrs_of (at cells (c - 1))) ≡ blank (attrs_of (at cells k)) =
            ap (λ (j : ℕ). blank (attrs_of (at cells j))) i in
            s ∙ (grind (arith, nat_tests))
        | inr away ↦ s ∙ grind (arith, nat_tests)
      ]

pub at-right_replaced : (c k : ℕ) (x : CellValue) (cells : List CellValue) → HasRoom c cells →
    at (right_replaced c x cells) k ≡ (if (k == c + 1) && is_wide (at cells c) then x else at cells k)
unfolding right_replaced
at-right_replaced c k x cells h = by_half (is_wide (at cells c)) refl where
  by_half : (b : Bool) → is_wide (at cells c) ≡ b →
      at (if b then slice_set cells (c + 1) x else cells) k ≡ (if (k == c + 1) && b then x else at cells k)
  by_half true e = let s = at-set cells (c + 1) k x (h e) in grind (arith, nat_tests)
  by_half false e = grind (arith, nat_tests)

-- The first cell of a wide glyph at column c is followed by its continuation cell.
pub HasRoom-paired : (c : ℕ) (cells : List CellValue) → IsPaired cells → HasRoom c cells
HasRoom-paired c cells p = λ w. elim (cases_lt (c + 1) (length cells)) [
  | inl lt ↦ lt
  | inr past ↦ cc (w, p.halves c, ap is_right_half (at-past cells (c + 1) past))
]

pub HasRoom-left_blanked : (c d : ℕ) (cells : List CellValue) →
    IsPaired cells → c < length cells → HasRoom d (left_blanked c cells)
HasRoom-left_blanked c d cells p h = λ w.
    let l = length-left_blanked c cells in
    let e : is_wide (at (left_blanked c cells) d) ≡ (not (d + 1 == c) && is_wide (at cells d)) =
    ap is_wide (at-left_blanked c d cells p h) ∙ wide_mended (d + 1 == c) (at cells d) in
    let both : (not (d + 1 == c) && is_wide (at cells d)) ≡ true = sym e ∙ w in
    let old : d + 1 < length cells =
    HasRoom-paired d cells p (and_parts (not (d + 1 == c)) (is_wide (at cells d)) both).1 in
    omega arith

-- ---- A narrow glyph

narrow_cases : (c k : ℕ) (x g : CellValue) (cells : List CellValue) → IsPaired cells →
    (if k == c then g
    else if (k == c + 1)
    && is_wide (if (c + 1 == c) && is_wide (at cells c) then blank (attrs_of (at cells c)) else at cells c)
    then x
    else if (k + 1 == c) && is_wide (at cells k) then blank (attrs_of (at cells k)) else at cells k)
    ≡ column_of c 1 x (g ∷ []) cells k
narrow_cases c k x g cells p = elim (cases_lt k c) [
  | inl lt ↦ grind (arith, nat_tests)
  | inr ge ↦ elim (cases_eq k c) [
    | inl same ↦
        let i : k - c ≡ 0 = omega arith in
        let a : at (g ∷ []) (k - c) ≡ g = ap (λ (j : ℕ). at (g ∷ []) j) i in
        grind (arith, nat_tests)
    | inr more ↦ elim (cases_eq k (c + 1)) [
      | inl next ↦
          let t : is_right_half (at cells k) ≡ is_wide (at cells c) =
          ap (λ (j : ℕ). is_right_half (at cells j)) next ∙ sym (p.halves c) in
          grind (arith, nat_tests)
      | inr past ↦ grind (arith, nat_tests)
    ]
  ]
]

narrow_column : (c k : ℕ) (x g : CellValue) (cells : List CellValue) → IsPaired cells → c < length cells →
    at (slice_set (right_replaced c x (left_blanked c cells)) c g) k ≡ column_of c 1 x (g ∷ []) cells k
narrow_column c k x g cells p h =
    let l = length-left_blanked c cells in
    let r = length-right_replaced c x (left_blanked c cells) in
    rw (
      at-set (right_replaced c x (left_blanked c cells)) c k g (omega arith),
      at-right_replaced c k x (left_blanked c cells) (HasRoom-left_blanked c c cells p h),
      at-left_blanked c k cells p h,
      at-left_blanked c c cells p h,
    )
    (narrow_cases c k x g cells p)

pub narrow_steps : (c : ℕ) (x g : CellValue) (cells : List CellValue) → IsPaired cells → c < length cells →
    slice_set (right_replaced c x (left_blanked c cells)) c g ≡ put_cells c x (g ∷ []) 1 cells
narrow_steps c x g cells p h =
    let l = length-left_blanked c cells in
    let r = length-right_replaced c x (left_blanked c cells) in
    let s = length-set (right_replaced c x (left_blanked c cells)) c g in
    let e = length-put_cells c 1 x (g ∷ []) cells refl (omega arith) in
    same_columns (slice_set (right_replaced c x (left_blanked c cells)) c g)
    (put_cells c x (g ∷ []) 1 cells) (omega arith)
    (λ k. narrow_column c k x g cells p h ∙ sym (put_columns c 1 x (g ∷ []) cells k refl (omega arith)))

-- ---- Columns that are erased

pub at-put_mid : (a n k : ℕ) (xs ys : List CellValue) → length ys ≡ n → a + n ≤ length xs →
    at (put_mid a n xs ys) k ≡ (if nat_lt k a then at xs k else if nat_lt k (a + n) then at ys (k - a) else at xs k)
at-put_mid a n k xs ys e h =
    let rest = drop n (drop a xs) in
    let l : length (take a xs) ≡ a = omega (arith, length-take a xs) in
    elim (cases_lt k a) [
      | inl lt ↦
          let s = get_or_append_left (take a xs) (ys ++ rest) default_blank k (omega arith) in
          let t = get_or-take a xs k default_blank lt in
          grind (arith, nat_tests)
      | inr ge ↦
          let s = get_or-append_right (take a xs) (ys ++ rest) a k default_blank l ge in
          elim (cases_lt k (a + n)) [
            | inl lt ↦
                let t = get_or_append_left ys rest default_blank (k - a) (omega arith) in
                grind (arith, nat_tests)
            | inr le ↦
                let t = get_or-append_right ys rest n (k - a) default_blank e (omega arith) in
                let j : a + (n + (k - a - n)) ≡ k = omega arith in
                let d : at rest (k - a - n) ≡ at xs k =
                get_or-drop n (drop a xs) (k - a - n) default_blank
                ∙ (get_or-drop a xs (n + (k - a - n)) default_blank ∙ ap (λ (m : ℕ). at xs m) j) in
                grind (arith, nat_tests)
          ]
    ]

pub length-put_mid : (a n : ℕ) (xs ys : List CellValue) → length ys ≡ n →
    a + n ≤ length xs → length (put_mid a n xs ys) ≡ length xs
length-put_mid a n xs ys e h =
    omega (
      arith,
      length-append (take a xs) (ys ++ drop n (drop a xs)),
      length-append ys (drop n (drop a xs)),
      length-take a xs,
      length-drop n (drop a xs),
      length-drop a xs,
    )

erase_cases : (s e k : ℕ) (x : CellValue) (ys cells : List CellValue) → IsPaired cells → s < e →
    (let r = if (k == e - 1 + 1)
    && is_wide
    (if (e - 1 + 1 == s) && is_wide (at cells (e - 1)) then blank (attrs_of (at cells (e - 1))) else at cells (e - 1))
    then x
    else if (k + 1 == s) && is_wide (at cells k) then blank (attrs_of (at cells k)) else at cells k in
    if nat_lt k s then r else if nat_lt k (s + (e - s)) then at ys (k - s) else r)
    ≡ column_of s (e - s) x ys cells k
erase_cases s e k x ys cells p h = elim (cases_eq k e) [
  | inl here ↦
      let i : e - 1 + 1 ≡ k = omega arith in
      let t : is_wide (at cells (e - 1)) ≡ is_right_half (at cells k) =
      p.halves (e - 1) ∙ ap (λ (j : ℕ). is_right_half (at cells j)) i in
      grind (arith, nat_tests)
  | inr away ↦ grind (arith, nat_tests)
]

pub erase_steps : (s e : ℕ) (x : CellValue) (ys cells : List CellValue) →
    IsPaired cells → length ys ≡ e - s → s < e → e ≤ length cells →
    put_mid s (e - s) (right_replaced (e - 1) x (left_blanked s cells)) ys ≡ put_cells s x ys (e - s) cells
erase_steps s e x ys cells p f h le =
    let l = length-left_blanked s cells in
    let r = length-right_replaced (e - 1) x (left_blanked s cells) in
    let xs = right_replaced (e - 1) x (left_blanked s cells) in
    let m = length-put_mid s (e - s) xs ys f (omega arith) in
    let q = length-put_cells s (e - s) x ys cells f (omega arith) in
    same_columns (put_mid s (e - s) xs ys) (put_cells s x ys (e - s) cells) (omega arith)
    (λ k. at-put_mid s (e - s) k xs ys f (omega arith)
    ∙ (rw (
      at-right_replaced (e - 1) k x (left_blanked s cells) (HasRoom-left_blanked s (e - 1) cells p (omega arith)),
      at-left_blanked s k cells p (omega arith),
      at-left_blanked s (e - 1) cells p (omega arith),
    ) (erase_cases s e k x ys cells p h)
    ∙ sym (put_columns s (e - s) x ys cells k f (omega arith))))

-- ---- Two columns: a wide glyph and its continuation cell

wide_cases : (c k : ℕ) (x g : CellValue) (cells : List CellValue) → IsPaired cells →
    (if k == c + 1 then right_half else if k == c then g
    else if (k == c + 1 + 1)
    && is_wide
    (if (c + 1 + 1 == c) && is_wide (at cells (c + 1)) then blank (attrs_of (at cells (c + 1))) else at cells (c + 1))
    then x
    else if (k + 1 == c) && is_wide (at cells k) then blank (attrs_of (at cells k)) else at cells k)
    ≡ column_of c 2 x (g ∷ right_half ∷ []) cells k
wide_cases c k x g cells p = elim (cases_lt k c) [
  | inl lt ↦ grind (arith, nat_tests)
  | inr ge ↦ elim (cases_eq k c) [
    | inl same ↦
        let i : k - c ≡ 0 = omega arith in
        let a : at (g ∷ right_half ∷ []) (k - c) ≡ g = ap (λ (j : ℕ). at (g ∷ right_half ∷ []) j) i in
        grind (arith, nat_tests)
    | inr more ↦ elim (cases_eq k (c + 1)) [
      | inl next ↦
          let i : k - c ≡ 1 = omega arith in
          let a : at (g ∷ right_half ∷ []) (k - c) ≡ right_half = ap (λ (j : ℕ). at (g ∷ right_half ∷ []) j) i in
          grind (arith, nat_tests)
      | inr past ↦ elim (cases_eq k (c + 2)) [
        | inl behind ↦
            let i : c + 1 + 1 ≡ k = omega arith in
            let t : is_wide (at cells (c + 1)) ≡ is_right_half (at cells k) =
            p.halves (c + 1) ∙ ap (λ (j : ℕ). is_right_half (at cells j)) i in
            grind (arith, nat_tests)
        | inr far ↦ grind (arith, nat_tests)
      ]
    ]
  ]
]

pub wide_steps : (c : ℕ) (x g : CellValue) (cells : List CellValue) → IsPaired cells → c + 1 < length cells →
    slice_set (slice_set (right_replaced (c + 1) x (left_blanked c cells)) c g) (c + 1) right_half
    ≡ put_cells c x (g ∷ right_half ∷ []) 2 cells
wide_steps c x g cells p h =
    let xs = right_replaced (c + 1) x (left_blanked c cells) in
    let l = length-left_blanked c cells in
    let r = length-right_replaced (c + 1) x (left_blanked c cells) in
    let s = length-set xs c g in
    let t = length-set (slice_set xs c g) (c + 1) right_half in
    let e = length-put_cells c 2 x (g ∷ right_half ∷ []) cells refl (omega arith) in
    same_columns (slice_set (slice_set xs c g) (c + 1) right_half)
    (put_cells c x (g ∷ right_half ∷ []) 2 cells) (omega arith)
    (λ k. rw (
      at-set (slice_set xs c g) (c + 1) k right_half (omega arith),
      at-set xs c k g (omega arith),
      at-right_replaced (c + 1) k x (left_blanked c cells) (HasRoom-left_blanked c (c + 1) cells p (omega arith)),
      at-left_blanked c k cells p (omega arith),
      at-left_blanked c (c + 1) cells p (omega arith),
    ) (wide_cases c k x g cells p)
    ∙ sym (put_columns c 2 x (g ∷ right_half ∷ []) cells k refl (omega arith)))

-- If column c holds no continuation cell, preparing the column for an overwrite changes nothing.
pub left_blanked-none : (c : ℕ) (cells : List CellValue) →
    is_right_half (at cells c) ≡ false → left_blanked c cells ≡ cells
unfolding left_blanked
left_blanked-none c cells e = rw e refl

-- Replacing the continuation cell after column d changes no cell up to column d.
pub at-right_replaced_same : (c d : ℕ) (x : CellValue) (cells : List CellValue) →
    IsPaired cells → c ≤ d → at (right_replaced d x cells) c ≡ at cells c
at-right_replaced_same c d x cells p h =
    at-right_replaced d c x cells (HasRoom-paired d cells p) ∙ grind (arith, nat_tests)

pub at-repaired : (c : ℕ) (x : CellValue) (cells : List CellValue) → IsPaired cells →
    c < length cells → at (right_replaced c x (left_blanked c cells)) c ≡ at cells c
at-repaired c x cells p h =
    rw
    (at-right_replaced c c x (left_blanked c cells) (HasRoom-left_blanked c c cells p h), at-left_blanked c c cells p h)
    (grind (arith, nat_tests))

-- A wide cell is the wide glyph with its text and attributes.
pub wide_is : (x : CellValue) → is_wide x ≡ true → x ≡ glyph (text_of x) true (attrs_of x)
wide_is (blank attrs) e = cc
wide_is (glyph text true attrs) e = refl
wide_is (glyph text false attrs) e = cc
wide_is right_half e = cc

-- Preparing the neighbors of a column for an overwrite leaves the cell in that column unchanged.
pub read-repaired : (c : ℕ) (x d : CellValue) (cells : List CellValue) → IsPaired cells →
    c < length cells → get_or (right_replaced c x (left_blanked c cells)) c d ≡ at cells c
read-repaired c x d cells p h =
    let l = length-left_blanked c cells in
    let r = length-right_replaced c x (left_blanked c cells) in
    get_or_default (right_replaced c x (left_blanked c cells)) c d default_blank (omega arith)
    ∙ at-repaired c x cells p h

pub read-right : (c e : ℕ) (x d : CellValue) (cells : List CellValue) → IsPaired cells →
    c ≤ e → c < length cells → get_or (right_replaced e x cells) c d ≡ at cells c
read-right c e x d cells p h lt =
    let r = length-right_replaced e x cells in
    get_or_default (right_replaced e x cells) c d default_blank (omega arith) ∙ at-right_replaced_same c e x cells p h
