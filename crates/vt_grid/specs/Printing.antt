-- Printing a character. The character's width determines whether the cursor wraps first and how adjacent cells change
-- (VT510 manual, DECAWM set).
use Rattle.std.specs.Prelude.{ℕ, ◌+◌, ◌-◌, ◌==◌, ◌&&◌, nat_lt, not, Bool, true, false, List}
use Rattle.std.specs.Prelude.{length, Option, Some, None, zero, suc, if◌then◌else◌}
use Rattle.std.specs.Char.{encode_utf8}
use Rattle.vt_cells.specs.Cell.{CellValue, text_of, is_wide, is_blank, is_right_half, cell_with_mark}
use Rattle.vt_cells.specs.Glyph.{columns_of, is_selector, is_wide_text, has_room}
use Rattle.vt_cells.specs.Attrs.{Attrs}
use Rattle.vt_rows.specs.Cells.{at, ends_blank, cells_after_erase, put_narrow, put_wide, marked_at, widened_at, narrowed_at}
use Rattle.vt_rows.specs.Row.{with_cells}
use Rattle.vt_grid.specs.Page.{Page, row_at, cursor_row, with_row}
use Rattle.vt_grid.specs.Moves.{line_feed, at_bottom, feeds_out}

-- The page after the cells of the cursor's row are replaced with the given cells. The row's wrapped flag is cleared if
-- its last cell is now a blank.
abbrev pub with_cursor_cells : List CellValue → Page → Page
with_cursor_cells cells page = with_row page.row (with_cells (cursor_row page) cells) page

-- The page after the wrapped flag of the row at the given index is set to the given value.
abbrev pub page_with_wrapped : ℕ → Bool → Page → Page
page_with_wrapped r is_wrapped page = with_row r (record (row_at page r) { wrapped = is_wrapped }) page

-- The index, after a wrap, of the row that the cursor left: one less than before if the scroll region scrolled, and
-- `None` if the row was lost because the region has only one row.
abbrev pub left_row : Page → Option ℕ
left_row page =
    if at_bottom page then (if page.row == page.top then None else Some (page.row - 1))
    else Some page.row

-- A line feed would move the cursor to a different row or scroll the scroll region.
abbrev pub goes_down : Page → Bool
goes_down page = if at_bottom page then true else nat_lt (page.row + 1) (length page.rows)

-- The page after a wrap sets the wrapped flag of the given row, which the cursor left, to the given value. If no row is
-- given, the page is unchanged.
abbrev pub flagged_left : Option ℕ → Bool → Page → Page
flagged_left (Some r) is_wrapped page = page_with_wrapped r is_wrapped page
flagged_left None is_wrapped page = page

-- The page after a wrap, which is a line feed followed by a move to column 0. The row that the cursor left is marked as
-- wrapped if and only if its last cell was not blank and the cursor is now on the row below it.
unfoldable pub wrapped_page : Page → Page
wrapped_page page =
    record (flagged_left (left_row page) (goes_down page && not (ends_blank (cursor_row page).cells)) (line_feed page))
    { column = 0 }

-- Fewer than the given number of columns are left from the cursor to the end of the cursor's row, and the cursor is not
-- in column 0.
abbrev pub lacks_room : ℕ → Page → Bool
lacks_room columns page = nat_lt (page.width - columns) page.column

-- The page with room for the given number of columns at the cursor: the page after a wrap if `lacks_room` holds,
-- otherwise the unchanged page.
unfoldable pub room_made : ℕ → Page → Page
room_made columns page = if lacks_room columns page then wrapped_page page else page

-- The page after a glyph with the given text and attributes is written at the cursor, which then moves past it. The
-- flag says whether the glyph is wide.
abbrev pub glyph_put : List ℕ → Bool → Attrs → Page → Page
glyph_put text false attrs page =
    record (with_cursor_cells (put_narrow page.column text attrs (cursor_row page).cells) page)
    { column = page.column + 1 }
glyph_put text true attrs page =
    record (with_cursor_cells (put_wide page.column text attrs (cursor_row page).cells) page)
    { column = page.column + 2 }

-- The first column of the glyph before the cursor.
abbrev pub mark_column : Page → ℕ
mark_column page =
    if is_right_half (at (cursor_row page).cells (page.column - 1)) then page.column - 2 else page.column - 1

-- The cell has room for another combining character; a blank is treated as a space.
abbrev pub takes_mark : CellValue → Bool
takes_mark cell = if is_blank cell then true else has_room (text_of cell)

-- The combining character is U+FE0F and turns the narrow glyph in the last column into a wide one while a wrap is
-- pending, so that the glyph must move to the next row.
unfoldable pub carries : ℕ → Page → Bool
carries mark page =
    let cell = at (cursor_row page).cells (mark_column page) in
    (is_selector mark && (takes_mark cell && not (is_wide cell)))
    && (is_wide_text (text_of (cell_with_mark mark cell)) && (nat_lt 1 page.width && (page.column == page.width)))

-- Printing a character that takes the given number of columns makes the cursor wrap.
abbrev pub wraps_for : Option ℕ → ℕ → Page → Bool
wraps_for None c page = false
wraps_for (Some zero) c page = if page.column == 0 then false else carries c page
wraps_for (Some (suc zero)) c page = lacks_room 1 page
wraps_for (Some (suc (suc n))) c page = nat_lt 1 page.width && lacks_room 2 page

-- Printing the character makes the cursor wrap.
abbrev pub wraps : ℕ → Page → Bool
wraps c page = wraps_for (columns_of c) c page

-- Printing the character scrolls a row off the top of the page.
abbrev pub pushes : ℕ → Page → Bool
pushes c page = wraps c page && feeds_out page

-- The page after the glyph at the given column of the cursor's row is replaced with a blank.
abbrev pub lifted_page : ℕ → Attrs → Page → Page
lifted_page k attrs page = with_cursor_cells (cells_after_erase k 1 attrs (cursor_row page).cells) page

-- `mark_put k mark page` is the page after the combining character `mark` is added to the cell at column `k` of the
-- cursor's row. The width of this cell is unchanged.
abbrev pub mark_put : ℕ → ℕ → Page → Page
mark_put k mark page = with_cursor_cells (marked_at k mark (cursor_row page).cells) page

-- The page after U+FE0F makes the glyph in the last column wide while a wrap is pending. The glyph is removed, the
-- cursor wraps, and the glyph is written at the cursor together with U+FE0F.
unfoldable pub page_after_wrap : ℕ → Attrs → Page → Page
page_after_wrap mark attrs page =
    let k = mark_column page in
    glyph_put (text_of (cell_with_mark mark (at (cursor_row page).cells k)))
    true attrs (wrapped_page (lifted_page k attrs page))

-- The page after the glyph at the given column becomes wide in place because U+FE0F was added to it. The cursor moves
-- right by one column.
unfoldable pub made_wide : ℕ → Attrs → Page → Page
made_wide k attrs page =
    record (with_cursor_cells (widened_at k attrs (cursor_row page).cells) page) { column = page.column + 1 }

-- The page after the glyph at the given column becomes narrow; the cursor doesn't move.
abbrev pub made_narrow : ℕ → Attrs → Page → Page
made_narrow k attrs page = with_cursor_cells (narrowed_at k attrs (cursor_row page).cells) page

-- The page after the glyph at the given column takes on the width of its whole text. On a page with one column, the
-- glyph stays narrow.
unfoldable pub width_followed : ℕ → Attrs → Page → Page
width_followed k attrs page =
    let cell = at (cursor_row page).cells k in
    let wide = is_wide_text (text_of cell) && nat_lt 1 page.width in
    if is_wide cell then (if wide then page else made_narrow k attrs page)
    else (if wide then made_wide k attrs page else page)

-- The page after a combining character is printed, that is, added to the glyph before the cursor if there is room.
unfoldable pub mark_printed : ℕ → Attrs → Page → Page
mark_printed mark attrs page =
    let k = mark_column page in
    if carries mark page then page_after_wrap mark attrs page
    else if takes_mark (at (cursor_row page).cells k)
    then (if is_selector mark then width_followed k attrs (mark_put k mark page) else mark_put k mark page)
    else page

-- The page after printing a character that takes the given number of columns.
abbrev pub printed_by : Option ℕ → ℕ → Attrs → Page → Page
printed_by None c attrs page = page
printed_by (Some zero) c attrs page = if page.column == 0 then page else mark_printed c attrs page
printed_by (Some (suc zero)) c attrs page = glyph_put (encode_utf8 c) false attrs (room_made 1 page)
printed_by (Some (suc (suc n))) c attrs page =
    if nat_lt 1 page.width then glyph_put (encode_utf8 c) true attrs (room_made 2 page) else page

-- The page after a character is printed.
abbrev pub page_after_print : ℕ → Attrs → Page → Page
page_after_print c attrs page = printed_by (columns_of c) c attrs page
