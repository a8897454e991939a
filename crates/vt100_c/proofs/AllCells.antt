-- Cells as C reads them: the text of a cell in its array, the blank that stands for a cell that a row lacks, and the cells
-- of all displayed rows, one row after the other.
use Rattle.std.proofs.Common.{◌≡◌, ◌<◌, ◌≤◌, ◌+◌, ◌-◌, ◌*◌, ◌∙◌, ◌++◌, ℕ, List, ap, sym, drop, take, length, get_or}
use Rattle.std.proofs.Common.{arith, inl, inr, replicate}
use Rattle.std.proofs.Math.Nat.{mul-le-mul_right, lt_of_not-le}
use Rattle.std.proofs.lemmas.Bool.{cases_lt}
use Rattle.std.proofs.lemmas.List.{get_or_append_left, get_or-append_right, get_or-take, get_or-drop, length-take}
use Rattle.std.proofs.lemmas.List.{length-drop, drop-replicate, get_or_past}
use Rattle.vt_cells.specs.Cell.{default_blank, CellValue, blank, glyph, right_half, IsCell, text_of}
use Rattle.vt_screen.specs.Screen.{ScreenValue, visible_row}
use Rattle.vt100_c.specs.Shown.{AreRowsForC, IsRowForC, cell_count, cell_for_c, cell_in, shown_cell}
use Rattle.vt100_c.specs.declared.cells.VtCell.{VtCell}
use borrow.Rule.Slice.PartMut.{put_mid}
use Rattle.vt_cells.specs.Internals.{padded_text}
use Rattle.vt_cells.proofs.Glyphs.{IsGlyphText-length}

-- The elements before the part of a list that was replaced are unchanged.
get_or-put_mid_below : {X : Type 0} (start n i : ℕ) (xs ys : List X) (d : X) → i < start → start ≤ length xs
    → get_or (put_mid start n xs ys) i d ≡ get_or xs i d
get_or-put_mid_below start n i xs ys d below fits =
    get_or_append_left (take start xs) (ys ++ drop n (drop start xs)) d i (omega (arith, length-take start xs))
    ∙ get_or-take start xs i d below

-- The elements of the part of a list that was replaced are the new ones.
get_or-put_mid : {X : Type 0} (start n i : ℕ) (xs ys : List X) (d : X) → i < length ys → start ≤ length xs
    → get_or (put_mid start n xs ys) (start + i) d ≡ get_or ys i d
get_or-put_mid start n i xs ys d inside fits =
    let rest = drop n (drop start xs) in
    let place : start + i - start ≡ i = omega arith in
    get_or-append_right (take start xs) (ys ++ rest) start (start + i) d (omega (arith, length-take start xs)) (omega arith)
    ∙ (ap (λ (k : ℕ). get_or (ys ++ rest) k d) place ∙ get_or_append_left ys rest d i inside)

length_part : {X : Type 0} (start width : ℕ) (xs : List X) → start + width ≤ length xs
    → length (take (start + width - start) (drop start xs)) ≡ width
length_part start width xs fits =
    omega (arith, length-take (start + width - start) (drop start xs), length-drop start xs)

-- The cells of a row end where those of the next row begin.
before_row : (k row width col : ℕ) → k < row → col < width → k * width + col < row * width
before_row k row width col earlier inside =
    omega (arith, mul-le-mul_right {m = k + 1} {n = row} width (omega arith))

-- After the cells of one more row have been stored, the cells of all rows up to and including it are stored. `ys` are the
-- cells of this row, which replaced those of `xs` from `start` on.
pub next_row : (screen : ScreenValue) (row start width : ℕ) (xs ys : List VtCell)
    → width ≡ screen.page.width → start ≡ row * width → row < length screen.page.rows
    → length xs ≡ cell_count screen → length ys ≡ length (take (start + width - start) (drop start xs))
    → ((k : ℕ) → k < row → IsRowForC k screen (drop (k * screen.page.width) xs)) → IsRowForC row screen ys
    → (k : ℕ) → k < row + 1
    → IsRowForC k screen (drop (k * screen.page.width) (put_mid start (start + width - start) xs ys))
next_row screen row start width xs ys wide is below size part before own k lt col inside =
    let cols = screen.page.width in
    let first : start ≡ row * cols = is ∙ ap (λ (w : ℕ). row * w) wide in
    let room = mul-le-mul_right {m = row + 1} {n = length screen.page.rows} cols (omega arith) in
    let fits : start + width ≤ length xs = omega (arith, first, wide, size, room) in
    let new = put_mid start (start + width - start) xs ys in
    get_or-drop (k * cols) new col (cell_for_c default_blank)
    ∙ elim (cases_lt k row) [
      | inl earlier ↦
          get_or-put_mid_below start (start + width - start) (k * cols + col) xs ys (cell_for_c default_blank)
          (omega (arith, first, before_row k row cols col earlier inside)) (omega arith)
          ∙ (sym (get_or-drop (k * cols) xs col (cell_for_c default_blank)) ∙ before k earlier col inside)
      | inr later ↦
          let same : k ≡ row = omega arith in
          let place : k * cols + col ≡ start + col =
          ap (λ (r : ℕ). r * cols + col) same ∙ ap (λ (at : ℕ). at + col) (sym first) in
          ap (cell_in new) place
          ∙ (get_or-put_mid start (start + width - start) col xs ys (cell_for_c default_blank)
          (omega (arith, inside, wide, part, length_part start width xs fits)) (omega arith)
          ∙ (own col inside ∙ ap (λ (r : ℕ). cell_for_c (shown_cell r col screen)) (sym same)))
    ]

-- The cells of all rows are stored in the first part of a list, if they are what this part holds.
pub all_rows : (screen : ScreenValue) (rows cols : ℕ) (xs new : List VtCell) → rows ≡ length screen.page.rows
    → cols ≡ screen.page.width → rows * cols ≤ length xs → length new ≡ length (take (rows * cols) xs)
    → AreRowsForC screen new → AreRowsForC screen (new ++ drop (rows * cols) xs)
all_rows screen rows cols xs new high wide fits part are row below col inside =
    let width = screen.page.width in
    let rest = drop (rows * cols) xs in
    let count : rows * cols ≡ cell_count screen =
    ap (λ (r : ℕ). r * cols) high ∙ ap (λ (w : ℕ). length screen.page.rows * w) wide in
    let size : length new ≡ cell_count screen = omega (arith, count, fits, part, length-take (rows * cols) xs) in
    get_or-drop (row * width) (new ++ rest) col (cell_for_c default_blank)
    ∙ (get_or_append_left new rest (cell_for_c default_blank) (row * width + col)
    (omega (arith, size, before_row row (length screen.page.rows) width col below inside))
    ∙ (sym (get_or-drop (row * width) new col (cell_for_c default_blank)) ∙ are row below col inside))

pub short : (cell : CellValue) → IsCell cell → length (text_of cell) ≤ 29
short (blank attrs) is = omega arith
short (glyph text wide attrs) is = omega (arith, (IsGlyphText-length text wide is).1)
short right_half is = omega arith

pub pads : (text : List ℕ) → text ++ drop (length text) (replicate 30 0) ≡ padded_text text
pads text = λ i. text ++ drop-replicate (length text) 30 0 i

pub past : (row col : ℕ) (screen : ScreenValue) → row < length screen.page.rows
    → ¬ ((row < length screen.page.rows) × (col < length (visible_row screen row).cells))
    → shown_cell row col screen ≡ default_blank
past row col screen shown outside =
    get_or_past (visible_row screen row).cells col default_blank
    (omega (arith, lt_of_not-le (λ below. outside (shown, below))))
