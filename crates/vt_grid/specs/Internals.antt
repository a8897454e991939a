-- How the fields of a grid represent a page, and auxiliary definitions for contracts inside this crate.
use Rattle.std.specs.Prelude.{◌≡◌, ℕ, ◌+◌, ◌-◌, ◌<◌, ◌&&◌, ◌++◌, nat_le, nat_lt, Bool, true, false, List, [], length}
use Rattle.std.specs.Prelude.{slice_index_or, Some, zero, if◌then◌else◌, ◌≤◌, All, take, drop, map}
use Rattle.std.specs.Char.{encode_utf8}
use Rattle.vt_cells.specs.Attrs.{Attrs, default_attrs}
use Rattle.vt_cells.specs.declared.pos.Pos.{Pos}
use Rattle.vt_cells.specs.Cell.{CellValue, is_wide, is_blank, is_right_half, cell_made_wide, IsCell}
use Rattle.vt_rows.specs.Cells.{at, blanks, cells_after_resize}
use Rattle.vt_rows.specs.Row.{RowValue, blank_row, resized_row, IsRow, trimmed_row}
use Rattle.vt_grid.specs.Page.{Page, IsPage, cursor_row}
use Rattle.vt_grid.specs.Printing.{lacks_room, carries, glyph_put, room_made}
use Rattle.vt_grid.specs.Outgoing.{fed_out, left_by}
use Rattle.vt_grid.specs.PageRows.{PageRowsValue}
use Rattle.vt_grid.specs.Scrollback.{Scrollback, grown_row, narrow_rows}

-- ==== How the fields of a grid represent a page, and auxiliary definitions for contracts inside this crate.

-- The page with the given rows, cursor, saved cursor, scroll region, origin mode and saved origin mode.
abbrev pub page_of : PageRowsValue → Pos → Pos → ℕ → ℕ → Bool → Bool → Page
page_of page_rows pos saved_pos top bottom origin saved_origin = record {
  rows = page_rows.rows;
  row = pos.row;
  column = pos.col;
  saved_row = saved_pos.row;
  saved_column = saved_pos.col;
  top = top;
  bottom = bottom;
  origin = origin;
  saved_origin = saved_origin;
  width = page_rows.width;
}

-- The page is valid and has `rows` rows and `cols` columns.
pub record IsSized (rows cols : ℕ) (page : Page) : Type 0 where
  pub sound : IsPage page
  pub height : rows ≡ length page.rows
  pub width : cols ≡ page.width

-- A blank row with the given attributes and the same width as the given row.
abbrev pub cleared_row : Attrs → RowValue → RowValue
cleared_row attrs row = blank_row attrs (length row.cells)

-- The cell at column `k` can take a combining character that is printed with the cursor at `column`: the cell is not a
-- continuation cell, and it is either narrow and directly before the cursor, or wide and not in the last column.
pub record IsMarkPlace (cells : List CellValue) (column k : ℕ) : Type 0 where
  pub inside : k < length cells
  pub shown : is_right_half (at cells k) ≡ false
  pub narrow : is_wide (at cells k) ≡ false → k + 1 ≡ column
  pub wide : is_wide (at cells k) ≡ true → k + 1 < length cells

-- The width of the cell at column `k` of the cursor's row may have to change because U+FE0F was added to the cell: the
-- cell satisfies `IsMarkPlace`, is not blank, and stays valid whether it is made wide or narrow.
pub record IsSelected (page : Page) (k : ℕ) : Type 0 where
  pub place : IsMarkPlace (cursor_row page).cells page.column k
  pub drawn : is_blank (at (cursor_row page).cells k) ≡ false
  pub either : (wide : Bool) → IsCell (cell_made_wide wide (at (cursor_row page).cells k))

-- The rows that scroll off the top of the page when a glyph of the given number of columns is printed and the cursor
-- wraps first. There are none if the glyph fits on the cursor's row.
abbrev pub room_out : ℕ → Page → List RowValue
room_out columns page = if lacks_room columns page then fed_out page else []

-- The rows that scroll off when a wide glyph is printed; none on a page with one column.
abbrev pub wide_out : Page → List RowValue
wide_out page = if nat_lt 1 page.width then room_out 2 page else []

-- The page after a wide glyph is printed; unchanged if the page has one column.
abbrev pub wide_printed : ℕ → Attrs → Page → Page
wide_printed c attrs page =
    if nat_lt 1 page.width then glyph_put (encode_utf8 c) true attrs (room_made 2 page) else page

-- The rows that scroll off the top of the page when a combining character is printed. There are none unless the
-- character makes the cursor wrap.
abbrev pub mark_out : ℕ → Attrs → Page → List RowValue
mark_out mark attrs page = if carries mark page then fed_out (left_by (Some zero) attrs page) else []

-- The cells of a row truncated to the given width, followed by a default blank for each cell that was cut off.
abbrev pub cells_cut : ℕ → List CellValue → List CellValue
cells_cut width cells = cells_after_resize width cells ++ blanks default_attrs (length cells - width)

-- `given_back up above blank k d` is row `k` of a page after the newest `up` of the scrollback rows `above` are moved
-- into the first `up` rows of the page and truncated or extended to its width. Row `k` was `blank` before. If there are
-- fewer than `up` scrollback rows, the topmost rows are unchanged.
abbrev pub given_back : (up : ℕ) → (above : List RowValue) →
    (blank : RowValue) → (k : ℕ) → (d : RowValue) → RowValue
given_back up above blank k d =
    if nat_lt k up && nat_le up (length above + k)
    then resized_row (length blank.cells) (slice_index_or above (length above + k - up) d)
    else blank

-- `taken_over down up rows blank k d` is row `k` of a page after the rows `rows` of another page, starting at row
-- `down`, are copied into the page, starting at row `up`, and truncated or extended to its width. Row `k` was `blank`
-- before, and is unchanged if nothing is copied into it.
abbrev pub taken_over : (down up : ℕ) → (rows : List RowValue) →
    (blank : RowValue) → (k : ℕ) → (d : RowValue) → RowValue
taken_over down up rows blank k d =
    if nat_le up k && nat_lt (down + (k - up)) (length rows)
    then resized_row (length blank.cells) (slice_index_or rows (down + (k - up)) d)
    else blank

-- `row_after_refill down up above rows blank k d` is row `k` of a page after a resize fills the page with the newest
-- `up` of the scrollback rows `above` and, below them, the rows `rows` of the old page, starting at row `down`. These
-- rows are truncated or extended to the page's width. Row `k` was `blank` before, and is unchanged if nothing is moved
-- into it.
abbrev pub row_after_refill : (down up : ℕ) → (above rows : List RowValue) →
    (blank : RowValue) → (k : ℕ) → (d : RowValue) → RowValue
row_after_refill down up above rows blank k d =
    if nat_lt k up
    then (if nat_le up (length above + k)
    then resized_row (length blank.cells) (slice_index_or above (length above + k - up) d) else blank)
    else if nat_lt (down + (k - up)) (length rows)
    then resized_row (length blank.cells) (slice_index_or rows (down + (k - up)) d)
    else blank

-- ==== Auxiliary definitions for the contracts of scrollback, which allocates memory for the rows that it must extend
-- before it changes anything.

-- Each row is valid for its own width.
abbrev pub AreRows : List RowValue → Type 0
AreRows rows = All (λ row. IsRow (length row.cells) row) rows

-- Up to `height` rows of the list, starting at row `first`.
abbrev pub window_from : (first height : ℕ) → List RowValue → List RowValue
window_from first height rows = take height (drop first rows)

-- The list of rows after the rows of a range are extended to `width` if they are narrower. The range starts at row
-- `first` and has up to `height` rows.
abbrev pub grown_from : (first height width : ℕ) → List RowValue → List RowValue
grown_from first height width rows =
    take first rows ++ (map (grown_row width) (window_from first height rows) ++ drop (first + height) rows)

-- The scrollback rows that a screen of the given height displays.
abbrev pub in_view : ℕ → Scrollback → List RowValue
in_view height above = window_from (length above.rows - above.offset) height above.rows

-- `OldestIsShorter gone rows` holds if the oldest of the scrollback rows `rows` is shorter than the first row of `gone`
-- without its trailing default blanks.
abbrev pub OldestIsShorter : List RowValue → List RowValue → Type 0
OldestIsShorter gone rows = (d : RowValue) →
    length (slice_index_or rows 0 d).cells < length (trimmed_row (slice_index_or gone 0 d)).cells

-- The rows `spare` are blank rows of the given width, and there are enough of them to replace all narrower rows of
-- `rows`.
pub record AreSpare (width : ℕ) (rows spare : List RowValue) : Type 0 where
  pub blank : All (λ row. row ≡ blank_row default_attrs width) spare
  pub enough : narrow_rows width rows ≤ length spare
