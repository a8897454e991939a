-- Runs of characters in a row, narrow or wide: one edit equals an edit for each character.
use Rattle.std.proofs.Common.{◌≡◌, ℕ, ◌+◌, ◌-◌, ◌<◌, ◌≤◌, List, ◌++◌, length, take, drop, slice_range, ap, sym, ◌∙◌}
use Rattle.std.proofs.Common.{arith, zero, suc, ◌==◌, ◌&&◌, false, [], ◌∷◌, get_or, refl, inl, inr, ◌*◌, true}
use Rattle.std.proofs.Math.Seq.{take-add}
use Rattle.std.proofs.lemmas.List.{length-take, length-drop, length-take-le, get_or_append_left, get_or-append_right}
use Rattle.std.proofs.lemmas.List.{get_or-take, get_or-drop, length-map, map-append, ext_get_or, get_or-map}
use Rattle.std.specs.Prelude.{All, nat_lt, if◌then◌else◌}
use Rattle.std.specs.Char.{encode_utf8}
use Rattle.std.proofs.Math.Utf8.{low_scalar}
use Rattle.std.proofs.lemmas.Bool.{cases_lt, cases_eq}
use Rattle.std.proofs.lemmas.Bool.Decides.{nat_tests}
use Rattle.std.proofs.lemmas.List.Elements.{All-nil, All-cons, All-head, All-tail}
use Rattle.vt_cells.specs.Cell.{CellValue, default_blank, blank, glyph, attrs_of, is_wide, is_right_half, IsCell}
use Rattle.vt_cells.specs.Cell.{right_half}
use Rattle.vt_cells.specs.Attrs.{Attrs}
use Rattle.vt_cells.proofs.Cells.{IsCell-glyph, IsCell-space}
use Rattle.vt_cells.proofs.Glyphs.{columns_of-ascii}
use Rattle.vt_rows.specs.Cells.{at, IsPaired, put_cells, column_of, put_narrow, put_wide}
use Rattle.vt_rows.specs.Row.{RowValue, IsRow, with_cells}
use Rattle.vt_rows.specs.Texts.{IsPrintableAscii, IsNarrowCharacter, IsNarrowText, narrow_glyph, glyphs_of, put_text}
use Rattle.vt_rows.specs.Texts.{IsWideCharacter, IsWideText, wide_glyph, wide_glyphs_of, put_wide_text, put_each_wide}
use Rattle.vt_rows.proofs.Edits.{put_columns, length-put_cells, same_columns, IsPaired-put_cells, All-put_cells}
use Rattle.vt_rows.proofs.Edits.{paired_from}
use Rattle.vt_rows.proofs.Rows.{IsRow-with_cells}

-- ==== Cells that are copied in chunks, or over the first cells of others.

-- The items before index `from`, followed by the items up to index `to`, are the items before `to`.
pub piece_taken : {X : Type 0} (xs : List X) (from to : ℕ) → from ≤ to →
    take from xs ++ slice_range xs from to ≡ take to xs
piece_taken xs from to le =
    let whole : from + (to - from) ≡ to = omega arith in
    sym (take-add from (to - from) xs) ∙ ap (λ (n : ℕ). take n xs) whole

pub length-piece : {X : Type 0} (xs : List X) (from to : ℕ) → from ≤ to → to ≤ length xs →
    length (slice_range xs from to) ≡ to - from
length-piece xs from to le inside =
    omega (arith, length-take (to - from) (drop from xs), length-drop from xs)

-- After copies overwrite the first n cells, those cells equal the copies.
pub at-copied : (n k : ℕ) (copies cells : List CellValue) → n ≤ length copies → k < n →
    at (take n copies ++ drop n cells) k ≡ at copies k
at-copied n k copies cells le lt =
    let size = length-take-le n copies le in
    get_or_append_left (take n copies) (drop n cells) default_blank k (omega arith)
    ∙ get_or-take n copies k default_blank lt

pub at-after_copied : (n k : ℕ) (copies cells : List CellValue) → n ≤ length copies → n ≤ k →
    at (take n copies ++ drop n cells) k ≡ at cells k
at-after_copied n k copies cells le ge =
    let there : n + (k - n) ≡ k = omega arith in
    get_or-append_right (take n copies) (drop n cells) n k default_blank (length-take-le n copies le) ge
    ∙ (get_or-drop n cells (k - n) default_blank ∙ ap (λ (j : ℕ). at cells j) there)

-- ==== Runs of printable ASCII in a row: one edit equals an edit for each byte.

-- ---- One byte after the other

-- The cell at column k is the same whether cells are put from column c on in one edit, or in two edits: the first cell,
-- and then the others.
split_column : (c n k : ℕ) (o x : CellValue) (xs cells : List CellValue) → is_wide x ≡ false → is_right_half o ≡ false →
    column_of c (suc n) o (x ∷ xs) cells k
    ≡ (let y = column_of c 1 o (x ∷ []) cells k in
    if nat_lt k (c + 1) then (if (k + 1 == c + 1) && is_wide y then blank (attrs_of y) else y)
    else if nat_lt k (c + 1 + n) then at xs (k - (c + 1))
    else if (k == c + 1 + n) && is_right_half y then o
    else y)
split_column c n k o x xs cells w r = elim (cases_lt k c) [
  | inl lt ↦ grind (arith, nat_tests)
  | inr ge ↦ elim (cases_eq k c) [
    | inl same ↦
        let i : k - c ≡ 0 = omega arith in
        let a : at (x ∷ xs) (k - c) ≡ x = ap (λ (j : ℕ). at (x ∷ xs) j) i in
        let b : at (x ∷ []) (k - c) ≡ x = ap (λ (j : ℕ). at (x ∷ []) j) i in
        grind (arith, nat_tests)
    | inr more ↦
        let i : k - c ≡ suc (k - (c + 1)) = omega arith in
        let a : at (x ∷ xs) (k - c) ≡ at xs (k - (c + 1)) = ap (λ (j : ℕ). at (x ∷ xs) j) i in
        elim (cases_lt k (c + 1 + n)) [
          | inl within ↦ grind (arith, nat_tests)
          | inr behind ↦ grind (arith, nat_tests)
        ]
  ]
]

-- Putting cells from a column on equals two edits, of which the first puts a single narrow cell.
pub put_cells_after : (c n : ℕ) (o x : CellValue) (xs cells : List CellValue) →
    is_wide x ≡ false → is_right_half o ≡ false → length xs ≡ n → c + suc n ≤ length cells →
    put_cells c o (x ∷ xs) (suc n) cells ≡ put_cells (c + 1) o xs n (put_cells c o (x ∷ []) 1 cells)
put_cells_after c n o x xs cells w r e h =
    let one = put_cells c o (x ∷ []) 1 cells in
    let l = length-put_cells c 1 o (x ∷ []) cells refl (omega arith) in
    let i : c + 1 + n ≤ length one = omega arith in
    let a = length-put_cells c (suc n) o (x ∷ xs) cells (ap suc e) h in
    let b = length-put_cells (c + 1) n o xs one e i in
    same_columns (put_cells c o (x ∷ xs) (suc n) cells) (put_cells (c + 1) o xs n one) (a ∙ sym l ∙ sym b)
    (λ k. put_columns c (suc n) o (x ∷ xs) cells k (ap suc e) h
    ∙ (split_column c n k o x xs cells w r
    ∙ (rw (← put_columns c 1 o (x ∷ []) cells k refl (omega arith)) refl
    ∙ sym (put_columns (c + 1) n o xs one k e i))))

pub length-glyphs_of : (attrs : Attrs) (text : List ℕ) → length (glyphs_of attrs text) ≡ length text
length-glyphs_of attrs text = length-map text (narrow_glyph attrs)

-- Putting a text equals putting its first character and then the rest of the text.
pub put_text_after : (c b : ℕ) (text : List ℕ) (attrs : Attrs) (cells : List CellValue) →
    c + suc (length text) ≤ length cells →
    put_text c (b ∷ text) attrs cells ≡ put_text (c + 1) text attrs (put_narrow c (encode_utf8 b) attrs cells)
put_text_after c b text attrs cells h =
    put_cells_after c (length text) (glyph (0x20 ∷ []) false attrs) (narrow_glyph attrs b)
    (glyphs_of attrs text) cells refl refl (length-glyphs_of attrs text) h

-- ---- What the edit keeps

pub length-put_text : (c : ℕ) (text : List ℕ) (attrs : Attrs) (cells : List CellValue) →
    c + length text ≤ length cells → length (put_text c text attrs cells) ≡ length cells
length-put_text c text attrs cells h =
    length-put_cells c (length text) (glyph (0x20 ∷ []) false attrs)
    (glyphs_of attrs text) cells (length-glyphs_of attrs text) h

IsPaired-glyphs_of : (attrs : Attrs) (text : List ℕ) → IsPaired (glyphs_of attrs text)
IsPaired-glyphs_of attrs text =
    record { halves = λ k. wide text k ∙ sym (right text (k + 1)); first = right text 0 } where
      wide : (text : List ℕ) (k : ℕ) → is_wide (at (glyphs_of attrs text) k) ≡ false
      wide [] k = refl
      wide (b ∷ text) zero = refl
      wide (b ∷ text) (suc k) = wide text k

      right : (text : List ℕ) (k : ℕ) → is_right_half (at (glyphs_of attrs text) k) ≡ false
      right [] k = refl
      right (b ∷ text) zero = refl
      right (b ∷ text) (suc k) = right text k

pub IsPaired-put_text : (c : ℕ) (text : List ℕ) (attrs : Attrs) (cells : List CellValue) →
    c + length text ≤ length cells → IsPaired cells → IsPaired (put_text c text attrs cells)
IsPaired-put_text c text attrs cells h p =
    IsPaired-put_cells c (length text) (glyph (0x20 ∷ []) false attrs) (glyphs_of attrs text)
    cells (length-glyphs_of attrs text) h refl refl (IsPaired-glyphs_of attrs text) p

-- A printable ASCII character takes one column.
pub narrow_ascii : (b : ℕ) → 0x20 ≤ b → b < 0x7F → IsNarrowCharacter b
narrow_ascii b low high =
    (low_scalar b (omega arith), (λ e. absurd (omega (arith, e)), columns_of-ascii b low high))

pub narrow_printable : (text : List ℕ) → IsPrintableAscii text → IsNarrowText text
narrow_printable text h = λ k d lt. let b = h k d lt in narrow_ascii (get_or text k d) b.0 b.1

All-glyphs_of : (attrs : Attrs) (text : List ℕ) → IsNarrowText text → All IsCell (glyphs_of attrs text)
All-glyphs_of attrs [] h = All-nil IsCell
All-glyphs_of attrs (c ∷ text) h =
    let first = All-head IsNarrowCharacter c text h in
    All-cons IsCell (narrow_glyph attrs c) (glyphs_of attrs text)
    (IsCell-glyph c false attrs first.0 first.1.0 first.1.1)
    (All-glyphs_of attrs text (All-tail IsNarrowCharacter c text h))

pub All-put_text : (c : ℕ) (text : List ℕ) (attrs : Attrs) (cells : List CellValue) →
    IsNarrowText text → All IsCell cells → All IsCell (put_text c text attrs cells)
All-put_text c text attrs cells h all =
    All-put_cells c (length text) (glyph (0x20 ∷ []) false attrs)
    (glyphs_of attrs text) cells (IsCell-space attrs) (All-glyphs_of attrs text h) all

pub IsRow-put_text : (width : ℕ) (row : RowValue) (c : ℕ) (text : List ℕ) (attrs : Attrs) → c + length text ≤ width →
    IsNarrowText text → IsRow width row → IsRow width (with_cells row (put_text c text attrs row.cells))
IsRow-put_text width row c text attrs h t r =
    let l = r.columns in
    IsRow-with_cells width row (put_text c text attrs row.cells)
    (length-put_text c text attrs row.cells (omega arith) ∙ l)
    (IsPaired-put_text c text attrs row.cells (omega arith) r.paired) (All-put_text c text attrs row.cells t r.sound)

-- If the cell at each index is the glyph of the character at that index of a text, the cells are the text's list of
-- glyphs.
pub glyphs_of_is : (attrs : Attrs) (text : List ℕ) (cells : List CellValue) → length cells ≡ length text →
    ((k : ℕ) → k < length text → at cells k ≡ narrow_glyph attrs (get_or text k 0)) → cells ≡ glyphs_of attrs text
glyphs_of_is attrs text cells e f =
    ext_get_or default_blank cells (glyphs_of attrs text) (e ∙ sym (length-glyphs_of attrs text))
    (λ k h. let lt : k < length text =
    omega arith in f k lt ∙ sym (get_or-map (narrow_glyph attrs) text k 0 default_blank lt))

-- The glyphs of the bytes before `from`, followed by those of the bytes up to `to`, are the glyphs of the bytes before
-- `to`.
pub glyphs_on : (attrs : Attrs) (text : List ℕ) (from to : ℕ) → from ≤ to →
    glyphs_of attrs (take from text) ++ glyphs_of attrs (slice_range text from to) ≡ glyphs_of attrs (take to text)
glyphs_on attrs text from to le =
    sym (map-append (narrow_glyph attrs) (take from text) (slice_range text from to))
    ∙ ap (glyphs_of attrs) (piece_taken text from to le)

-- ==== Runs of wide characters in a row: one edit equals an edit for each character.

split_pair : (c n k : ℕ) (o x : CellValue) (xs cells : List CellValue) → is_right_half o ≡ false →
    column_of c (suc (suc n)) o (x ∷ right_half ∷ xs) cells k
    ≡ (let y = column_of c 2 o (x ∷ right_half ∷ []) cells k in
    if nat_lt k (c + 2) then (if (k + 1 == c + 2) && is_wide y then blank (attrs_of y) else y)
    else if nat_lt k (c + 2 + n) then at xs (k - (c + 2))
    else if (k == c + 2 + n) && is_right_half y then o
    else y)
split_pair c n k o x xs cells r = elim (cases_lt k c) [
  | inl lt ↦ grind (arith, nat_tests)
  | inr ge ↦ elim (cases_eq k c) [
    | inl same ↦
        let i : k - c ≡ 0 = omega arith in
        let a : at (x ∷ right_half ∷ xs) (k - c) ≡ x = ap (λ (j : ℕ). at (x ∷ right_half ∷ xs) j) i in
        let b : at (x ∷ right_half ∷ []) (k - c) ≡ x = ap (λ (j : ℕ). at (x ∷ right_half ∷ []) j) i in
        grind (arith, nat_tests)
    | inr more ↦ elim (cases_eq k (c + 1)) [
      | inl next ↦
          let i : k - c ≡ 1 = omega arith in
          let a : at (x ∷ right_half ∷ xs) (k - c) ≡ right_half =
          ap (λ (j : ℕ). at (x ∷ right_half ∷ xs) j) i in
          let b : at (x ∷ right_half ∷ []) (k - c) ≡ right_half =
          ap (λ (j : ℕ). at (x ∷ right_half ∷ []) j) i in
          grind (arith, nat_tests)
      | inr far ↦
          let i : k - c ≡ suc (suc (k - (c + 2))) = omega arith in
          let a : at (x ∷ right_half ∷ xs) (k - c) ≡ at xs (k - (c + 2)) =
          ap (λ (j : ℕ). at (x ∷ right_half ∷ xs) j) i in
          elim (cases_lt k (c + 2 + n)) [
            | inl within ↦ grind (arith, nat_tests)
            | inr behind ↦ grind (arith, nat_tests)
          ]
    ]
  ]
]

-- Putting cells from a column on equals two edits, of which the first puts one wide glyph.
pub put_cells_after_pair : (c n : ℕ) (o x : CellValue) (xs cells : List CellValue) →
    is_right_half o ≡ false → length xs ≡ n → c + suc (suc n) ≤ length cells →
    put_cells c o (x ∷ right_half ∷ xs) (suc (suc n)) cells
    ≡ put_cells (c + 2) o xs n (put_cells c o (x ∷ right_half ∷ []) 2 cells)
put_cells_after_pair c n o x xs cells r e h =
    let one = put_cells c o (x ∷ right_half ∷ []) 2 cells in
    let l = length-put_cells c 2 o (x ∷ right_half ∷ []) cells refl (omega arith) in
    let i : c + 2 + n ≤ length one = omega arith in
    let f : length (x ∷ right_half ∷ xs) ≡ suc (suc n) = ap (λ (m : ℕ). suc (suc m)) e in
    let a = length-put_cells c (suc (suc n)) o (x ∷ right_half ∷ xs) cells f h in
    let b = length-put_cells (c + 2) n o xs one e i in
    same_columns (put_cells c o (x ∷ right_half ∷ xs) (suc (suc n)) cells) (put_cells (c + 2) o xs n one) (a ∙ sym l ∙ sym b)
    (λ k. put_columns c (suc (suc n)) o (x ∷ right_half ∷ xs) cells k f h
    ∙ (split_pair c n k o x xs cells r
    ∙ (rw (← put_columns c 2 o (x ∷ right_half ∷ []) cells k refl (omega arith)) refl
    ∙ sym (put_columns (c + 2) n o xs one k e i))))

pub length-wide_glyphs_of : (attrs : Attrs) (text : List ℕ) → length (wide_glyphs_of attrs text) ≡ 2 * length text
length-wide_glyphs_of attrs [] = refl
length-wide_glyphs_of attrs (x ∷ text) = let l = length-wide_glyphs_of attrs text in omega (arith, l)

-- Putting a text of wide characters equals putting its first character and then the rest of the text.
pub put_wide_text_after : (c x : ℕ) (text : List ℕ) (attrs : Attrs) (cells : List CellValue) →
    c + 2 * suc (length text) ≤ length cells →
    put_wide_text c (x ∷ text) attrs cells ≡ put_wide_text (c + 2) text attrs (put_wide c (encode_utf8 x) attrs cells)
put_wide_text_after c x text attrs cells h =
    let n = 2 * length text in
    let size : 2 * suc (length text) ≡ suc (suc n) = omega arith in
    ap (λ (m : ℕ). put_cells c (blank attrs) (wide_glyphs_of attrs (x ∷ text)) m cells) size
    ∙ put_cells_after_pair c n (blank attrs) (wide_glyph attrs x) (wide_glyphs_of attrs text) cells refl
    (length-wide_glyphs_of attrs text) (omega arith)

pub length-put_wide_text : (c : ℕ) (text : List ℕ) (attrs : Attrs) (cells : List CellValue) →
    c + 2 * length text ≤ length cells → length (put_wide_text c text attrs cells) ≡ length cells
length-put_wide_text c text attrs cells h =
    length-put_cells c (2 * length text) (blank attrs) (wide_glyphs_of attrs text) cells
    (length-wide_glyphs_of attrs text) h

-- Putting a whole text of wide characters equals putting one character after the other.
pub put_wide_text_each : (c : ℕ) (text : List ℕ) (attrs : Attrs) (cells : List CellValue) → 0 < length text →
    c + 2 * length text ≤ length cells → put_wide_text c text attrs cells ≡ put_each_wide c text attrs cells
put_wide_text_each c [] attrs cells some h = absurd (omega (arith, some))
put_wide_text_each c (x ∷ []) attrs cells some h = refl
put_wide_text_each c (x ∷ y ∷ text) attrs cells some h =
    let one = put_wide c (encode_utf8 x) attrs cells in
    let l = length-put_cells c 2 (blank attrs) (wide_glyph attrs x ∷ right_half ∷ []) cells refl (omega arith) in
    put_wide_text_after c x (y ∷ text) attrs cells h
    ∙ put_wide_text_each (c + 2) (y ∷ text) attrs one (omega arith) (omega arith)

-- ---- What the edit keeps

IsPaired-wide_glyphs_of : (attrs : Attrs) (text : List ℕ) → IsPaired (wide_glyphs_of attrs text)
IsPaired-wide_glyphs_of attrs text = paired_from (wide_glyphs_of attrs text) (first text) (halves text) where
  first : (text : List ℕ) → is_right_half (at (wide_glyphs_of attrs text) 0) ≡ false
  first [] = refl
  first (x ∷ text) = refl

  halves : (text : List ℕ) (k : ℕ) →
      is_wide (at (wide_glyphs_of attrs text) k) ≡ is_right_half (at (wide_glyphs_of attrs text) (suc k))
  halves [] k = refl
  halves (x ∷ text) zero = refl
  halves (x ∷ text) (suc zero) = sym (first text)
  halves (x ∷ text) (suc (suc k)) = halves text k

pub IsPaired-put_wide_text : (c : ℕ) (text : List ℕ) (attrs : Attrs) (cells : List CellValue) →
    c + 2 * length text ≤ length cells → IsPaired cells → IsPaired (put_wide_text c text attrs cells)
IsPaired-put_wide_text c text attrs cells h p =
    IsPaired-put_cells c (2 * length text) (blank attrs) (wide_glyphs_of attrs text)
    cells (length-wide_glyphs_of attrs text) h refl refl (IsPaired-wide_glyphs_of attrs text) p

All-wide_glyphs_of : (attrs : Attrs) (text : List ℕ) → IsWideText text → All IsCell (wide_glyphs_of attrs text)
All-wide_glyphs_of attrs [] h = All-nil IsCell
All-wide_glyphs_of attrs (x ∷ text) h =
    let first = All-head IsWideCharacter x text h in
    All-cons IsCell (wide_glyph attrs x) (right_half ∷ wide_glyphs_of attrs text)
    (IsCell-glyph x true attrs first.0 first.1.0 first.1.1)
    (All-cons IsCell right_half (wide_glyphs_of attrs text) tt
    (All-wide_glyphs_of attrs text (All-tail IsWideCharacter x text h)))

pub All-put_wide_text : (c : ℕ) (text : List ℕ) (attrs : Attrs) (cells : List CellValue) →
    IsWideText text → All IsCell cells → All IsCell (put_wide_text c text attrs cells)
All-put_wide_text c text attrs cells h all =
    All-put_cells c (2 * length text) (blank attrs) (wide_glyphs_of attrs text) cells tt
    (All-wide_glyphs_of attrs text h) all

pub IsRow-put_wide_text : (width : ℕ) (row : RowValue) (c : ℕ) (text : List ℕ) (attrs : Attrs) →
    c + 2 * length text ≤ width → IsWideText text → IsRow width row →
    IsRow width (with_cells row (put_wide_text c text attrs row.cells))
IsRow-put_wide_text width row c text attrs h t r =
    let l = r.columns in
    IsRow-with_cells width row (put_wide_text c text attrs row.cells)
    (length-put_wide_text c text attrs row.cells (omega arith) ∙ l)
    (IsPaired-put_wide_text c text attrs row.cells (omega arith) r.paired) (All-put_wide_text c text attrs row.cells t r.sound)

-- If the two cells for each character of a text are those of its wide glyph, the cells are the text's list of wide
-- glyphs.
pub wide_glyphs_of_is : (attrs : Attrs) (text : List ℕ) (cells : List CellValue) → length cells ≡ 2 * length text →
    ((k : ℕ) → k < length text →
    (at cells (2 * k) ≡ wide_glyph attrs (get_or text k 0)) × (at cells (2 * k + 1) ≡ right_half)) →
    cells ≡ wide_glyphs_of attrs text
wide_glyphs_of_is attrs [] [] e f = refl
wide_glyphs_of_is attrs [] (a ∷ cells) e f = absurd (omega (arith, e))
wide_glyphs_of_is attrs (x ∷ text) [] e f = absurd (omega (arith, e))
wide_glyphs_of_is attrs (x ∷ text) (a ∷ []) e f = absurd (omega (arith, e))
wide_glyphs_of_is attrs (x ∷ text) (a ∷ b ∷ cells) e f =
    let z : 0 < length (x ∷ text) = omega arith in
    let rest : cells ≡ wide_glyphs_of attrs text =
    wide_glyphs_of_is attrs text cells (omega (arith, e)) (λ k h.
    let lt : suc k < length (x ∷ text) = omega (arith, h) in
    let i : suc (suc (2 * k)) ≡ 2 * suc k = omega arith in
    let j : suc (suc (2 * k + 1)) ≡ 2 * suc k + 1 = omega arith in (
      ap (λ (m : ℕ). at (a ∷ b ∷ cells) m) i ∙ (f (suc k) lt).0,
      ap (λ (m : ℕ). at (a ∷ b ∷ cells) m) j ∙ (f (suc k) lt).1,
    )) in
    let both = f 0 z in
    let first : a ≡ wide_glyph attrs x = both.0 in
    let second : b ≡ right_half = both.1 in
    rw (first, second, rest) refl
