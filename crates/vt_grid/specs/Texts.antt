-- Text that is printed character by character, and text that fits on the cursor's row and is printed in a single edit.
use Rattle.std.specs.Prelude.{ℕ, ◌+◌, List, [], ◌∷◌, length, ◌*◌}
use Rattle.vt_cells.specs.Attrs.{Attrs}
use Rattle.vt_rows.specs.Texts.{put_text, put_wide_text}
use Rattle.vt_grid.specs.Page.{Page, cursor_row}
use Rattle.vt_grid.specs.Printing.{page_after_print, with_cursor_cells}

-- ==== Text that is printed character by character, and text that fits on the cursor's row and is printed in a single
-- edit.

-- The page after the characters of a string are printed one by one.
abbrev pub printed_text : List ℕ → Attrs → Page → Page
printed_text [] attrs page = page
printed_text (c ∷ text) attrs page = printed_text text attrs (page_after_print c attrs page)

-- The page after the characters of a string are written at the cursor as narrow glyphs. The cursor moves past them.
abbrev pub text_put : List ℕ → Attrs → Page → Page
text_put text attrs page =
    record (with_cursor_cells (put_text page.column text attrs (cursor_row page).cells) page)
    { column = page.column + length text }

-- ==== Text of wide characters that fits on the cursor's row and is printed in a single edit.

-- The page after the characters of a string are written at the cursor as wide glyphs. The cursor moves past them.
abbrev pub wide_text_put : List ℕ → Attrs → Page → Page
wide_text_put text attrs page =
    record (with_cursor_cells (put_wide_text page.column text attrs (cursor_row page).cells) page)
    { column = page.column + 2 * length text }
