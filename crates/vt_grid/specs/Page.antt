-- A page: rows of the same width, a cursor, a scroll region, origin mode, and the saved cursor and origin mode (VT510
-- manual: DECSC, DECSTBM, DECOM).
use Rattle.std.specs.Prelude.{◌≡◌, ℕ, ◌+◌, ◌-◌, ◌<◌, ◌≤◌, ◌^◌, ◌⊎◌, nat_le, ◌&&◌, Bool, false, List}
use Rattle.std.specs.Prelude.{length, replicate, map, slice_index_or, slice_set, All, if◌then◌else◌}
use Rattle.std.specs.List.{range_with_len}
use Rattle.vt_cells.specs.Attrs.{default_attrs}
use Rattle.vt_cells.specs.Cell.{CellValue}
use Rattle.vt_rows.specs.Cells.{at}
use Rattle.vt_rows.specs.Row.{RowValue, IsRow, blank_row}

-- A page of a screen: its rows, cursor, saved cursor, scroll region, and origin mode.
pub record Page : Type 0 where
  pub rows : List RowValue
  -- The cursor's row and column, counted from 0. If the column equals the width, a wrap is pending.
  pub row : ℕ
  pub column : ℕ
  -- The row and column of the saved cursor, counted from 0.
  pub saved_row : ℕ
  pub saved_column : ℕ
  -- The first and last rows of the scroll region, counted from 0.
  pub top : ℕ
  pub bottom : ℕ
  pub origin : Bool
  pub saved_origin : Bool
  pub width : ℕ

-- The row at an index of a list of rows, or a blank row of the given width if the index is past the end.
abbrev pub row_or : ℕ → List RowValue → ℕ → RowValue
row_or width rows r = slice_index_or rows r (blank_row default_attrs width)

-- The row of a page at an index, or a blank row if the index is past the end.
abbrev pub row_at : Page → ℕ → RowValue
row_at page r = row_or page.width page.rows r

-- The cell of a page at a row and column, or a default blank if the position is outside the page.
abbrev pub cell_at : Page → ℕ → ℕ → CellValue
cell_at page r c = at (row_at page r).cells c

-- The row that contains the cursor.
abbrev pub cursor_row : Page → RowValue
cursor_row page = row_at page page.row

-- The page after the row at the given index is replaced with the given row.
abbrev pub with_row : ℕ → RowValue → Page → Page
with_row r row page = record page { rows = slice_set page.rows r row }

-- The scroll region is the whole page.
abbrev pub IsWhole : Page → Type 0
IsWhole page = (page.top ≡ 0) × (page.bottom + 1 ≡ length page.rows)

-- The invariant of every page: a valid size, valid rows, a cursor and saved cursor on the page, a valid scroll region,
-- and a last row that is not wrapped.
pub record IsPage (page : Page) : Type 0 where
  pub has_columns : 0 < page.width
  pub columns : page.width < 2 ^ 16
  pub height : length page.rows < 2 ^ 16
  pub cursor_row : page.row < length page.rows
  pub cursor_column : page.column ≤ page.width
  pub saved_row : page.saved_row < length page.rows
  pub saved_column : page.saved_column ≤ page.width
  pub region : (page.top < page.bottom) ⊎ IsWhole page
  pub region_end : page.bottom < length page.rows
  pub rows : All (IsRow page.width) page.rows
  pub last : (row_at page (length page.rows - 1)).wrapped ≡ false

-- The page is plain: its scroll region is the whole page, and origin mode is off.
pub record IsPlainPage (page : Page) : Type 0 where
  pub whole : IsWhole page
  pub origin : page.origin ≡ false

-- The two pages have the same size.
pub record SameSize (page other : Page) : Type 0 where
  pub width : page.width ≡ other.width
  pub height : length page.rows ≡ length other.rows

-- A new page: all cells are default blanks, the cursor is at the top left, and the scroll region is the whole page.
abbrev pub blank_page : ℕ → ℕ → Page
blank_page height width = record {
  rows = replicate height (blank_row default_attrs width);
  row = 0;
  column = 0;
  saved_row = 0;
  saved_column = 0;
  top = 0;
  bottom = height - 1;
  origin = false;
  saved_origin = false;
  width = width;
}

-- ---- Moves of rows: row `r` is the former row `source r`, or blank if that index is past the end

-- `by_row n f` is the list of `n` rows in which row `k` is `f k`.
abbrev pub by_row : ℕ → (ℕ → RowValue) → List RowValue
by_row n f = map f (range_with_len 0 n)

-- `moved_rows width source rows` is the list `rows` after its rows have moved: row `r` is the row that was at index
-- `source r`, or a blank row of the given width if that index is past the end.
unfoldable pub moved_rows : ℕ → (ℕ → ℕ) → List RowValue → List RowValue
moved_rows width source rows = by_row (length rows) (λ r. row_or width rows (source r))

-- `up_source past top bottom n r` is the index that row `r` had before rows `top` to `bottom` moved up by `n`. For a
-- blank row that scrolled in, the result is `past`, an index past the end.
abbrev pub up_source : ℕ → ℕ → ℕ → ℕ → ℕ → ℕ
up_source past top bottom n r =
    if nat_le top r && nat_le r bottom then (if nat_le (r + n) bottom then r + n else past) else r

-- `rows_up width top bottom n rows` is the list `rows` after rows `top` to `bottom` move up by `n`; blank rows scroll
-- in at the bottom.
abbrev pub rows_up : ℕ → ℕ → ℕ → ℕ → List RowValue → List RowValue
rows_up width top bottom n rows = moved_rows width (up_source (length rows) top bottom n) rows

-- The page after its scroll region scrolls up by the given number of rows (SU).
abbrev pub scrolled_up : ℕ → Page → Page
scrolled_up n page = record page { rows = rows_up page.width page.top page.bottom n page.rows }
