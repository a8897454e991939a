-- Resizing a page: which rows scroll off, which return from scrollback, and where the cursor and the saved cursor end
-- up (xterm).
use Rattle.std.specs.Prelude.{ℕ, ◌+◌, ◌-◌, nat_lt, List, ◌++◌, length, take, map, min, if◌then◌else◌}
use Rattle.vt_cells.specs.Attrs.{default_attrs}
use Rattle.vt_rows.specs.Row.{RowValue, blank_row, resized_row}
use Rattle.vt_grid.specs.Page.{Page, by_row, row_or}
use Rattle.vt_grid.specs.Scrollback.{Scrollback, scrollback_after_push, rows_reported}
use Rattle.vt_grid.specs.Shifts.{unflagged}

-- The number of rows that scroll off when a page is resized to the given height: the excess rows, minus the rows below
-- the cursor, which are dropped first.
abbrev pub leaving_count : ℕ → Page → ℕ
leaving_count height page = (length page.rows - height) - (length page.rows - (page.row + 1))

-- The number of rows that return to a page when it is resized to the given height: as many as there is room for, up
-- to the number of rows that scrolled off and haven't returned.
abbrev pub returning_count : ℕ → Scrollback → Page → ℕ
returning_count height above page = min (height - length page.rows) above.theoretical

-- `window width height down up above rows` is a window of `height` rows onto a list: the scrollback rows `above`,
-- followed by the page's rows `rows`. The window begins `up` rows before row `down` of the page. Rows of the window
-- outside the list, such as scrollback rows that were not kept, are blank rows of the given width. For example, with
-- one scrollback row, a page of two rows, and `down`, `up` and `height` equal to 0, 2 and 5, the window has a blank
-- row, the scrollback row, the two page rows, and a blank row.
unfoldable pub window : (width height down up : ℕ) → (above rows : List RowValue) → List RowValue
window width height down up above rows =
    by_row height (λ k. if nat_lt (length above + down + k) up then blank_row default_attrs width
    else row_or width (above ++ rows) (length above + down + k - up))

-- The rows, truncated or extended to the given width; the last row is marked as not wrapped.
abbrev pub rows_resized : ℕ → List RowValue → List RowValue
rows_resized width rows = unflagged width (length rows - 1) (map (resized_row width) rows)

-- The index of a row after a resize in which `down` rows scroll off the top and `up` rows come back from scrollback,
-- clamped to the last row.
abbrev pub row_resized : (height down up : ℕ) → ℕ → ℕ
row_resized height down up row = min (row - down + up) (height - 1)

-- The page after it is resized to the given height and width, with the given scrollback. Rows have scrolled off the top
-- or returned to it, each row is truncated or extended, and the cursor and the saved cursor have moved with their rows.
-- The scroll region is the whole page, and no wrap is pending.
unfoldable pub page_resized : (height width : ℕ) → Scrollback → Page → Page
page_resized height width above page =
    let down = leaving_count height page in
    let up = returning_count height above page in
    record page {
      rows = rows_resized width (window page.width height down up above.rows page.rows);
      row = row_resized height down up page.row;
      column = min page.column (width - 1);
      saved_row = row_resized height down up page.saved_row;
      saved_column = min page.saved_column (width - 1);
      top = 0;
      bottom = height - 1;
      width = width;
    }

-- Scrollback after its offset is set to 0, so that none of its rows are displayed.
abbrev pub out_of_view : Scrollback → Scrollback
out_of_view above = record above { offset = 0 }

-- Scrollback after the newest `n` rows that scrolled off move back to the page.
abbrev pub taken_back : ℕ → Scrollback → Scrollback
taken_back n above =
    record above { rows = take (length above.rows - n) above.rows; theoretical = above.theoretical - n }

-- Scrollback after its page is resized to the given height.
unfoldable pub scrollback_resized : ℕ → Page → Scrollback → Scrollback
scrollback_resized height page above =
    taken_back (returning_count height above page)
    (scrollback_after_push (length page.rows) page.width (take (leaving_count height page) page.rows) (out_of_view above))

-- The rows that are reported because scrollback doesn't keep them when a resize scrolls rows off the page, oldest
-- first.
abbrev pub resize_reports : ℕ → Page → Scrollback → List RowValue
resize_reports height page above = rows_reported (take (leaving_count height page) page.rows) above
