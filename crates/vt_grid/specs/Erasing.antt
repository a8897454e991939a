-- Erasing (ECMA-48: ED, EL and ECH). Erased cells become blanks with the current attributes.
use Rattle.std.specs.Prelude.{ℕ, ◌+◌, ◌-◌, ◌==◌, ◌||◌, if◌then◌else◌, ◌++◌, length, take, drop, replicate, min}
use Rattle.vt_cells.specs.Attrs.{Attrs}
use Rattle.vt_rows.specs.Cells.{cells_after_erase}
use Rattle.vt_rows.specs.Row.{blank_row, with_cells}
use Rattle.vt_grid.specs.Page.{Page, cursor_row, with_row}

-- `erased_columns c n attrs page` is the page after `n` columns of the cursor's row, starting at column `c`, are
-- erased.
abbrev pub erased_columns : ℕ → ℕ → Attrs → Page → Page
erased_columns c n attrs page =
    with_row page.row (with_cells (cursor_row page) (cells_after_erase c n attrs (cursor_row page).cells)) page

-- The page after ECH erases the given number of columns of the cursor's row, starting at the cursor and stopping at the
-- end of the row. The page is unchanged if a wrap is pending or the number is 0.
unfoldable pub erased_chars : ℕ → Attrs → Page → Page
erased_chars n attrs page =
    if (n == 0) || (page.column == page.width) then page
    else erased_columns page.column (min n (page.width - page.column)) attrs page

-- The page after the cursor's row is erased from the cursor to the end of the row (EL 0); unchanged if a wrap is
-- pending.
unfoldable pub erased_rest : Attrs → Page → Page
erased_rest attrs page =
    if page.column == page.width then page else erased_columns page.column (page.width - page.column) attrs page

-- The page after all rows below the cursor are replaced with blank rows that have the given attributes.
abbrev pub blanked_below : Attrs → Page → Page
blanked_below attrs page = record page {
  rows = take (page.row + 1) page.rows ++ replicate (length page.rows - (page.row + 1)) (blank_row attrs page.width);
}

-- The page after the cells from the cursor to the end of the page are erased (ED 0). If a wrap is pending, the cursor's
-- row is unchanged.
unfoldable pub erased_below : Attrs → Page → Page
erased_below attrs page = blanked_below attrs (erased_rest attrs page)

-- The page after the cursor's row is erased from the start of the row through the cursor (EL 1). If a wrap is pending,
-- the whole row is erased.
unfoldable pub erased_start : Attrs → Page → Page
erased_start attrs page = erased_columns 0 (min (page.column + 1) page.width) attrs page

-- The page after the cursor's row is erased (EL 2).
abbrev pub erased_row : Attrs → Page → Page
erased_row attrs page = with_row page.row (blank_row attrs page.width) page

-- The page after all rows above the cursor are replaced with blank rows that have the given attributes.
abbrev pub blanked_above : Attrs → Page → Page
blanked_above attrs page =
    record page { rows = replicate page.row (blank_row attrs page.width) ++ drop page.row page.rows }

-- The page after the cells from the start of the page through the cursor are erased (ED 1). If a wrap is pending, the
-- whole row of the cursor is erased.
unfoldable pub erased_above : Attrs → Page → Page
erased_above attrs page = blanked_above attrs (erased_start attrs page)

-- The page after all its rows are erased (ED 2).
abbrev pub erased_page : Attrs → Page → Page
erased_page attrs page = record page { rows = replicate (length page.rows) (blank_row attrs page.width) }
