-- Cursor movement (ECMA-48, with the VT510's scroll region and origin mode).
use Rattle.std.specs.Prelude.{ℕ, ◌+◌, ◌-◌, ◌*◌, ◌/◌, ◌==◌, nat_lt, Bool, false, length, min, max, if◌then◌else◌}
use Rattle.vt_grid.specs.Page.{Page, scrolled_up}
use Rattle.vt_grid.specs.Regions.{in_region, last_row}
use Rattle.vt_grid.specs.declared.grid.moves.CursorMove.{CursorMove}
use Rattle.vt_grid.specs.declared.grid.moves.CursorMove.TheVariants.{Return, Up, Down, Right, Left, NextLine}
use Rattle.vt_grid.specs.declared.grid.moves.CursorMove.TheVariants.{PreviousLine, Tab, To, ToColumn, ToRow}

-- The topmost row that CUU reaches: the top of the scroll region if the cursor is in the region, and the first row
-- otherwise.
unfoldable pub upper_edge : Page → ℕ
upper_edge page = if in_region page then page.top else 0

-- The bottommost row that CUD reaches: the bottom of the scroll region if the cursor is in the region, and the last row
-- otherwise.
unfoldable pub lower_edge : Page → ℕ
lower_edge page = if in_region page then page.bottom else last_row page

-- The row to which CUP moves the cursor, given its row parameter, counted from 0. In origin mode, the parameter is
-- relative to the top of the scroll region, and the result is clamped to the region's bottom. Otherwise the result is
-- the parameter, clamped to the last row.
abbrev pub target_row : ℕ → Page → ℕ
target_row r page = if page.origin then min (page.top + r) page.bottom else min r (last_row page)

-- The row and column to which a movement takes the cursor (CR, CUU, CUD, CUF, CUB and BS, CNL, CPL, HT, CUP, CHA, VPA).
-- A column equal to the page's width means that a wrap is pending.
abbrev pub position_after : CursorMove → Page → ℕ × ℕ
position_after Return page = (page.row, 0)
position_after (Up n) page = (max (page.row - n) (upper_edge page), page.column)
position_after (Down n) page = (min (page.row + n) (lower_edge page), page.column)
position_after (Right n) page = (page.row, min (page.column + n) (page.width - 1))
position_after (Left n) page = (page.row, page.column - n)
position_after (NextLine n) page = (min (page.row + n) (lower_edge page), 0)
position_after (PreviousLine n) page = (max (page.row - n) (upper_edge page), 0)
position_after Tab page = (page.row, min ((page.column / 8 + 1) * 8) (page.width - 1))
position_after (To r c) page = (target_row r page, min c (page.width - 1))
position_after (ToColumn c) page = (page.row, min c (page.width - 1))
position_after (ToRow r) page = (min r (last_row page), page.column)

-- The page after the given cursor movement.
abbrev pub moved : CursorMove → Page → Page
moved move page = record page { row = (position_after move page).0; column = (position_after move page).1 }

-- The page after origin mode is set or reset, which also moves the cursor to its home position (DECOM).
abbrev pub origin_set : Bool → Page → Page
origin_set on page = moved (To 0 0) (record page { origin = on })

-- The cursor is at the bottom of the scroll region, where a line feed scrolls.
abbrev pub at_bottom : Page → Bool
at_bottom page = page.row == page.bottom

-- The page after a line feed. At the bottom of the scroll region, the region scrolls up by one row. Elsewhere, the
-- cursor moves down by one row, unless it is on the last row.
unfoldable pub line_feed : Page → Page
line_feed page =
    if at_bottom page then scrolled_up 1 page
    else if nat_lt (page.row + 1) (length page.rows) then record page { row = page.row + 1 }
    else page

-- A line feed would scroll a row off the top of the page: the cursor is at the bottom of the scroll region, and the
-- region begins at the top.
abbrev pub feeds_out : Page → Bool
feeds_out page = if at_bottom page then page.top == 0 else false

-- The page after the cursor and origin mode are saved (DECSC).
abbrev pub cursor_saved : Page → Page
cursor_saved page = record page { saved_row = page.row; saved_column = page.column; saved_origin = page.origin }

-- The page after the saved cursor and origin mode are restored (DECRC).
abbrev pub cursor_restored : Page → Page
cursor_restored page = record page { row = page.saved_row; column = page.saved_column; origin = page.saved_origin }
