-- The rows and width of a page, without the cursor: edits to single rows, and moves of rows.
use Rattle.std.specs.Prelude.{◌≡◌, ℕ, ◌-◌, ◌≤◌, List, ◌++◌, length, map, slice_set, replicate, All, Bool, Option, Some, None}
use Rattle.vt_cells.specs.Attrs.{default_attrs}
use Rattle.vt_cells.specs.Cell.{CellValue}
use Rattle.vt_rows.specs.Row.{RowValue, IsRow, blank_row, resized_row, with_cells}
use Rattle.vt_grid.specs.Page.{row_or, rows_up}
use Rattle.vt_grid.specs.Shifts.{rows_down}

-- The rows of a page, and their width.
pub record PageRowsValue : Type 0 where
  pub rows : List RowValue
  pub width : ℕ

-- The page has at least `count` rows, and all its rows are valid and as wide as the page.
pub record HasRows (count : ℕ) (page_rows : PageRowsValue) : Type 0 where
  pub inside : count ≤ length page_rows.rows
  pub sound : All (IsRow page_rows.width) page_rows.rows

-- The page has `cols` columns and at least `count` rows, and all its rows are valid and as wide as the page. Its first
-- `count` rows can therefore scroll off.
pub record CanLetRowsGo (count cols : ℕ) (page_rows : PageRowsValue) : Type 0 where
  pub rows : HasRows count page_rows
  pub width : cols ≡ page_rows.width

-- The rows of a new page, filled with default blanks.
abbrev pub blank_page_rows : ℕ → ℕ → PageRowsValue
blank_page_rows height width = record { rows = replicate height (blank_row default_attrs width); width = width }

-- The row of a page at an index, or a blank row if the index is past the end.
abbrev pub page_row : PageRowsValue → ℕ → RowValue
page_row page_rows r = row_or page_rows.width page_rows.rows r

-- The rows of a page after the row at the given index is replaced with the given row.
abbrev pub with_page_row : ℕ → RowValue → PageRowsValue → PageRowsValue
with_page_row r row page_rows = record page_rows { rows = slice_set page_rows.rows r row }

-- The rows of a page after the cells of the row at the given index are replaced, as when text is printed or erased. The
-- row's wrapped flag is cleared if its last cell is now a blank.
abbrev pub with_row_cells : ℕ → List CellValue → PageRowsValue → PageRowsValue
with_row_cells r cells page_rows = with_page_row r (with_cells (page_row page_rows r) cells) page_rows

-- The rows of a page after the wrapped flag of the given row, if any, is set to the given value.
abbrev pub with_page_row_flag : Option ℕ → Bool → PageRowsValue → PageRowsValue
with_page_row_flag (Some r) is_wrapped page_rows =
    with_page_row r (record (page_row page_rows r) { wrapped = is_wrapped }) page_rows
with_page_row_flag None is_wrapped page_rows = page_rows

-- The rows of a page after rows `top` to `bottom` move up by `n`.
abbrev pub page_rows_up : (top bottom n : ℕ) → PageRowsValue → PageRowsValue
page_rows_up top bottom n page_rows =
    record page_rows { rows = rows_up page_rows.width top bottom n page_rows.rows }

-- The rows of a page after rows `top` to `bottom` move down by `n`.
abbrev pub page_rows_down : (top bottom n : ℕ) → PageRowsValue → PageRowsValue
page_rows_down top bottom n page_rows =
    record page_rows { rows = rows_down page_rows.width top bottom n page_rows.rows }

-- The rows of a page with default blank rows appended, so that there are `height` rows.
abbrev pub with_blank_rows : (height : ℕ) → PageRowsValue → PageRowsValue
with_blank_rows height page_rows = record page_rows {
  rows = page_rows.rows ++ replicate (height - length page_rows.rows) (blank_row default_attrs page_rows.width);
}

-- The rows of a page, each truncated or extended to the given width.
abbrev pub with_width : ℕ → PageRowsValue → PageRowsValue
with_width width page_rows = record { rows = map (resized_row width) page_rows.rows; width = width }
