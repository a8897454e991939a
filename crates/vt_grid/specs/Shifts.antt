-- Insertion and deletion of rows and columns, and scrolling down (ECMA-48: ICH, DCH, IL, DL, SD and RI).
use Rattle.std.specs.Prelude.{ℕ, ◌+◌, ◌-◌, ◌==◌, ◌&&◌, ◌||◌, nat_le, false, List, length, slice_set, if◌then◌else◌}
use Rattle.vt_rows.specs.Row.{RowValue, inserted_row, deleted_row}
use Rattle.vt_grid.specs.Page.{Page, row_or, moved_rows, rows_up, cursor_row, with_row}
use Rattle.vt_grid.specs.Regions.{in_region}

-- `down_source past top bottom n r` is the index that row `r` had before rows `top` to `bottom` moved down by `n`. For
-- a blank row that scrolled in, the result is `past`, an index past the end.
abbrev pub down_source : ℕ → ℕ → ℕ → ℕ → ℕ → ℕ
down_source past top bottom n r =
    if nat_le top r && nat_le r bottom then (if nat_le (top + n) r then r - n else past) else r

-- `unflagged width r rows` is the list `rows` after the wrapped flag of row `r` is cleared.
abbrev pub unflagged : ℕ → ℕ → List RowValue → List RowValue
unflagged width r rows = slice_set rows r (record (row_or width rows r) { wrapped = false })

-- `rows_down width top bottom n rows` is the list `rows` after rows `top` to `bottom` move down by `n`. Row `bottom` is
-- marked as not wrapped, because a different row follows it now.
abbrev pub rows_down : ℕ → ℕ → ℕ → ℕ → List RowValue → List RowValue
rows_down width top bottom n rows =
    unflagged width bottom (moved_rows width (down_source (length rows) top bottom n) rows)

-- The page after its scroll region scrolls down by the given number of rows (SD).
abbrev pub scrolled_down : ℕ → Page → Page
scrolled_down n page = record page { rows = rows_down page.width page.top page.bottom n page.rows }

-- The page after a reverse index (RI). The cursor moves up by one row; at the top of the scroll region or of the
-- page, the region scrolls down instead.
unfoldable pub reverse_index : Page → Page
reverse_index page =
    if (page.row == page.top) || (page.row == 0) then scrolled_down 1 page else record page { row = page.row - 1 }

-- The page after the given number of blank rows are inserted at the cursor's row (IL); unchanged if the cursor is
-- outside the scroll region.
unfoldable pub lines_inserted : ℕ → Page → Page
lines_inserted n page =
    if in_region page then record page { rows = rows_down page.width page.row page.bottom n page.rows } else page

-- The page after the given number of rows are deleted, starting at the cursor's row (DL); unchanged if the cursor is
-- outside the scroll region.
unfoldable pub lines_deleted : ℕ → Page → Page
lines_deleted n page =
    if in_region page then record page { rows = rows_up page.width page.row page.bottom n page.rows } else page

-- The page after the given number of default blanks are inserted at the cursor (ICH).
abbrev pub chars_inserted : ℕ → Page → Page
chars_inserted n page = with_row page.row (inserted_row page.column n (cursor_row page)) page

-- The page after the given number of columns are deleted, starting at the cursor (DCH).
abbrev pub chars_deleted : ℕ → Page → Page
chars_deleted n page = with_row page.row (deleted_row page.column n (cursor_row page)) page
