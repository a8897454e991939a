-- The rows that scroll off the top of a page. Rows scroll off only if the scroll region begins at the top.
use Rattle.std.specs.Prelude.{ℕ, ◌+◌, ◌==◌, List, [], take, min, Option, Some, zero, if◌then◌else◌}
use Rattle.vt_cells.specs.Attrs.{Attrs}
use Rattle.vt_cells.specs.Glyph.{columns_of}
use Rattle.vt_rows.specs.Row.{RowValue}
use Rattle.vt_grid.specs.Page.{Page}
use Rattle.vt_grid.specs.Moves.{feeds_out}
use Rattle.vt_grid.specs.Printing.{mark_column, lifted_page, pushes}

-- The rows that scroll off the top of the page when the scroll region scrolls up by the given number of rows, or by the
-- region's height if that is less. There are none if the region does not begin at the top of the page.
abbrev pub scrolled_out : ℕ → Page → List RowValue
scrolled_out n page = if page.top == 0 then take (min n (page.bottom + 1)) page.rows else []

-- The rows that scroll off the top of the page at a line feed: the first row, or none.
abbrev pub fed_out : Page → List RowValue
fed_out page = if feeds_out page then take 1 page.rows else []

-- The page just before the cursor wraps for a character of the given width. If the character is a combining character,
-- a blank has replaced the glyph before the cursor, because that glyph moves to the next row.
abbrev pub left_by : Option ℕ → Attrs → Page → Page
left_by (Some zero) attrs page = lifted_page (mark_column page) attrs page
left_by _ attrs page = page

-- The rows that scroll off the top of the page when a character is printed: the first row, or none.
abbrev pub printed_out : ℕ → Attrs → Page → List RowValue
printed_out c attrs page = if pushes c page then take 1 (left_by (columns_of c) attrs page).rows else []
