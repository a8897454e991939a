-- The output for a range of one row, from column `start` up to but excluding column `stop`. The output is for a
-- terminal that has default attributes and whose cursor is at row `r`, column `start`.
use Rattle.std.specs.Prelude.{◌≡◌, ℕ, zero, suc, ◌-◌, ◌==◌, ◌&&◌, not, Bool, true, false}
use Rattle.std.specs.Prelude.{List, [], ◌∷◌, ◌++◌, length, take, drop, if◌then◌else◌}
use Rattle.vt_cells.specs.Attrs.{default_attrs}
use Rattle.vt_cells.specs.Cell.{CellValue, blank, glyph, right_half, default_blank, is_right_half}
use Rattle.vt_cells.specs.Op.{bytes_of_all}
use Rattle.vt_rows.specs.Cells.{at, blanks}
use Rattle.vt_rows.specs.Row.{RowValue}
use Rattle.vt_grid.specs.Canvas.{Canvas}
use Rattle.vt_grid.specs.Page.{IsPlainPage, row_at, row_or, with_row}
use Rattle.vt_redraw.specs.Picture.{Picture, IsPicture, SamePictureSize, picture_of}
use Rattle.vt_redraw.specs.Script.{pen_at}
use Rattle.vt_redraw.specs.declared.pen.Pen.{Pen}
use Rattle.vt_redraw.specs.Script.{Scripted, after_last_glyph, cells_written, first_written, ops_then, row_break}

-- The cells of a row in the columns `start..stop`.
abbrev pub in_range : (start stop : ℕ) → List CellValue → List CellValue
in_range start stop cells = take (stop - start) (drop start cells)

-- The cells, with a continuation cell at the beginning replaced by a default blank.
abbrev pub with_whole_start : List CellValue → List CellValue
with_whole_start [] = []
with_whole_start (right_half ∷ xs) = default_blank ∷ xs
with_whole_start (blank a ∷ xs) = blank a ∷ xs
with_whole_start (glyph text wide a ∷ xs) = glyph text wide a ∷ xs

-- The displayed cells `ys`, adapted to `with_whole_start xs`. If both lists begin with a continuation cell, the first
-- cell of `ys` becomes a default blank, so that it is skipped. If only `xs` begins with a continuation cell, the
-- first cell of `ys` becomes a continuation cell, so that the blank is drawn.
abbrev pub with_whole_start_over : (xs ys : List CellValue) → List CellValue
with_whole_start_over (right_half ∷ xs) (right_half ∷ ys) = default_blank ∷ ys
with_whole_start_over (right_half ∷ xs) (blank a ∷ ys) = right_half ∷ ys
with_whole_start_over (right_half ∷ xs) (glyph text wide a ∷ ys) = right_half ∷ ys
with_whole_start_over _ ys = ys

-- The output that replaces the displayed cells `ys` with `xs` in the columns `start..stop` of row `r`.
abbrev pub range_written : (r start stop : ℕ) → Bool → (xs ys : List CellValue) → Scripted
range_written r start stop wrapped xs ys =
    cells_written r start (pen_at r start default_attrs) wrapped 0
    (with_whole_start (in_range start stop xs)) (with_whole_start_over (in_range start stop xs) (drop start ys))

abbrev pub is_whole : (start stop width : ℕ) → Bool
is_whole start stop width = (start == 0) && (stop == width)

-- The given output, followed by the operations that print the row's last glyph again if the row must be wrapped and the
-- terminal's row is not.
abbrev pub marked_on : ℕ → Scripted → Bool → List CellValue → Scripted
marked_on r w wanted cells =
    if wanted && not w.wrapped
    then record {
      ops = w.ops ++ (after_last_glyph r w.pen cells).ops;
      pen = (after_last_glyph r w.pen cells).pen;
      wrapped = w.wrapped;
    } else w

-- Whether the row above the row at the given index is wrapped.
abbrev pub is_linked : (width : ℕ) → List RowValue → ℕ → Bool
is_linked width rows zero = false
is_linked width rows (suc r) = (row_or width rows r).wrapped

-- The output that replaces a range of the terminal's row `y` with the same range of the row `x`. If the range is the
-- whole row, the output also clears the wrapped flag if only `y` is wrapped, and leaves a wrap pending if only `x` is
-- wrapped.
abbrev pub item_of_difference : (r start stop : ℕ) → (x y : RowValue) → Scripted
item_of_difference r start stop x y =
    let w = range_written r start stop y.wrapped x.cells y.cells in
    let b = row_break r w.pen w.wrapped x.wrapped x.cells in
    if is_whole start stop (length x.cells) then marked_on r (ops_then w.ops b) x.wrapped x.cells else w

-- The output that draws a whole row on a blank row below a wrapped row. The row's first cell is printed while a wrap is
-- pending in the wrapped row.
abbrev pub linked_item : ℕ → List CellValue → Scripted
linked_item r xs =
    let first = first_written r (pen_at r 0 default_attrs) false xs (blanks default_attrs (length xs)) in
    ops_then first.ops (cells_written r 0 first.pen first.wrapped first.settled xs (blanks default_attrs (length xs)))

-- The output that draws a range of a row over a blank row; `linked` is true if the row above is wrapped.
abbrev pub item_of_redraw : (r start stop : ℕ) → (linked : Bool) → RowValue → Scripted
item_of_redraw r start stop linked x =
    if is_whole start stop (length x.cells) && linked then linked_item r x.cells
    else range_written r start stop false x.cells (blanks default_attrs (length x.cells))

-- The bytes of the output that turns a range of row `r` of the picture `prev` into the same range of row `r` of `self`.
abbrev pub changed_row_text : (r start stop : ℕ) → (self prev : Picture) → List ℕ
changed_row_text r start stop self prev =
    bytes_of_all (item_of_difference r start stop (row_or self.width self.rows r) (row_or self.width prev.rows r)).ops

-- The bytes of the output that draws a range of row `r` of a picture over a blank row.
abbrev pub formatted_row_text : (r start stop : ℕ) → Picture → List ℕ
formatted_row_text r start stop self =
    bytes_of_all (item_of_redraw r start stop (is_linked self.width self.rows r) (row_or self.width self.rows r)).ops

-- ---- the rows that are drawn

-- The cells `ys`, with the cells in the columns `start..stop` replaced by those of `xs`.
abbrev pub with_range : (start stop : ℕ) → (xs ys : List CellValue) → List CellValue
with_range start stop xs ys = take start ys ++ (in_range start stop xs ++ drop stop ys)

-- Neither end of the range splits a wide character.
abbrev pub CutsNone : (start stop : ℕ) → List CellValue → Type 0
CutsNone start stop cells = (is_right_half (at cells start) ≡ false) × (is_right_half (at cells stop) ≡ false)

-- The canvas is plain, has default attributes and the picture's size, and has `stood` as its row `r`. The cursor is in
-- column `c` of that row.
pub record AwaitsItem (self : Picture) (r c : ℕ) (stood : RowValue) (any : Canvas) : Type 0 where
  pub plain : IsPlainPage any.page
  pub is : IsPicture (picture_of any)
  pub size : SamePictureSize self (picture_of any)
  pub row : any.page.row ≡ r
  pub column : any.page.column ≡ c
  pub attrs : any.attrs ≡ default_attrs
  pub stands : row_at any.page r ≡ stood

-- The row `y` of a terminal after the output of `item_of_difference` has replaced a range of its columns with those of
-- the row `x`.
abbrev pub changed_row : (r start stop : ℕ) → (x y : RowValue) → RowValue
changed_row r start stop x y =
    record { cells = with_range start stop x.cells y.cells; wrapped = (item_of_difference r start stop x y).wrapped }

-- A blank row of a terminal after the output of `item_of_redraw` has drawn a range of the given row on it.
abbrev pub formatted_row : (start stop width : ℕ) → RowValue → RowValue
formatted_row start stop width x =
    record { cells = with_range start stop x.cells (blanks default_attrs width); wrapped = false }

-- The canvas after the row at the given index is replaced with the given row, and the cursor position and attributes
-- are replaced with those of a pen.
abbrev pub row_drawn : ℕ → RowValue → Pen → Canvas → Canvas
row_drawn r row pen any = record any {
  page = record (with_row r row any.page) { row = pen.row; column = pen.col };
  attrs = pen.attrs;
}

-- The canvas with the row at the given index marked as wrapped.
abbrev pub going_on : ℕ → Canvas → Canvas
going_on r any = record any { page = with_row r (record (row_at any.page r) { wrapped = true }) any.page }
