-- The definitions of the region, of insertion and deletion, and of erasing backward, computed on small pages.
use Rattle.std.proofs.Common.{◌≡◌, ℕ, true, false, List, [], ◌∷◌, length, refl}
use Rattle.vt_cells.specs.Attrs.{default_attrs}
use Rattle.vt_cells.specs.Cell.{CellValue, glyph, right_half, default_blank}
use Rattle.vt_rows.specs.Cells.{put_cells, cells_after_move, cells_after_insert, cells_after_delete}
use Rattle.vt_rows.specs.Row.{RowValue}
use Rattle.vt_grid.specs.Page.{Page, blank_page, moved_rows}
use Rattle.vt_grid.specs.Moves.{lower_edge, moved, origin_set, upper_edge}
use Rattle.vt_grid.specs.Regions.{region_set}
use Rattle.vt_grid.specs.declared.grid.moves.CursorMove.TheVariants.{Up, Down, Tab, To}
use Rattle.vt_grid.specs.Shifts.{scrolled_down, reverse_index, lines_inserted}
use Rattle.vt_grid.specs.Shifts.{lines_deleted, chars_inserted, chars_deleted}
use Rattle.vt_grid.specs.Erasing.{erased_chars, erased_start, erased_above}

abbrev n : ℕ → CellValue
n c = glyph (c ∷ []) false default_attrs

abbrev wide : CellValue
wide = glyph (0xE4 ∷ 0xB8 ∷ 0xAD ∷ []) true default_attrs

abbrev row : List CellValue → RowValue
row cells = record { cells = cells; wrapped = false }

-- A wrapped row.
abbrev on : List CellValue → RowValue
on cells = record { cells = cells; wrapped = true }

-- A row of one letter.
abbrev one : ℕ → RowValue
one c = row (n c ∷ default_blank ∷ [])

abbrev two : ℕ → ℕ → RowValue
two c d = row (n c ∷ n d ∷ [])

abbrev blank_row : RowValue
blank_row = row (default_blank ∷ default_blank ∷ [])

-- A page with the given rows, cursor and scroll region.
abbrev paged : List RowValue → (r c width top bottom : ℕ) → Page
paged rows r c width top bottom =
    record (blank_page (length rows) width) { rows = rows; row = r; column = c; top = top; bottom = bottom }

-- ---- Rows

-- If the cursor is above the region, RI scrolls the region only from the first row.
index_above : reverse_index (paged (one 1 ∷ one 2 ∷ one 3 ∷ []) 0 0 2 1 2) ≡ paged (one 1 ∷ blank_row ∷ one 2 ∷ []) 0 0 2 1 2
unfolding reverse_index moved_rows
index_above = refl

index_between : reverse_index (paged (one 1 ∷ one 2 ∷ one 3 ∷ one 4 ∷ []) 1 2 2 2 3)
    ≡ paged (one 1 ∷ one 2 ∷ one 3 ∷ one 4 ∷ []) 0 2 2 2 3
unfolding reverse_index moved_rows
index_between = refl

-- IL moves a row down with its wrapped flag, which is cleared at the region's bottom.
line_inserted : lines_inserted 1 (paged (on (n 1 ∷ n 2 ∷ []) ∷ one 3 ∷ []) 0 0 2 0 1)
    ≡ paged (blank_row ∷ two 1 2 ∷ []) 0 0 2 0 1
unfolding lines_inserted moved_rows
line_inserted = refl

line_inserted_between : lines_inserted 1
    (paged (on (n 1 ∷ n 2 ∷ []) ∷ on (n 3 ∷ n 4 ∷ []) ∷ one 5 ∷ one 6 ∷ []) 1 1 2 0 3)
    ≡ paged (on (n 1 ∷ n 2 ∷ []) ∷ blank_row ∷ on (n 3 ∷ n 4 ∷ []) ∷ one 5 ∷ []) 1 1 2 0 3
unfolding lines_inserted moved_rows
line_inserted_between = refl

line_outside : lines_inserted 1 (paged (one 1 ∷ one 2 ∷ one 3 ∷ []) 0 0 2 1 2)
    ≡ paged (one 1 ∷ one 2 ∷ one 3 ∷ []) 0 0 2 1 2
unfolding lines_inserted moved_rows
line_outside = refl

-- Deleting more rows than there are leaves blank rows, and rows below the region don't move.
lines_gone : lines_deleted 9 (paged (one 1 ∷ one 2 ∷ one 3 ∷ one 4 ∷ []) 1 2 2 0 2)
    ≡ paged (one 1 ∷ blank_row ∷ blank_row ∷ one 4 ∷ []) 1 2 2 0 2
unfolding lines_deleted moved_rows
lines_gone = refl

line_deleted : lines_deleted 1 (paged (one 1 ∷ on (n 2 ∷ n 3 ∷ []) ∷ one 4 ∷ []) 0 0 2 0 2)
    ≡ paged (on (n 2 ∷ n 3 ∷ []) ∷ one 4 ∷ blank_row ∷ []) 0 0 2 0 2
unfolding lines_deleted moved_rows
line_deleted = refl

region_down : scrolled_down 1 (paged (one 1 ∷ on (n 2 ∷ n 3 ∷ []) ∷ on (n 4 ∷ n 5 ∷ []) ∷ one 6 ∷ []) 0 2 2 1 2)
    ≡ paged (one 1 ∷ blank_row ∷ two 2 3 ∷ one 6 ∷ []) 0 2 2 1 2
unfolding moved_rows
region_down = refl

-- ---- Columns

half_deleted : chars_deleted 1 (paged (row (n 0x61 ∷ wide ∷ right_half ∷ n 0x62 ∷ default_blank ∷ []) ∷ []) 0 2 5 0 0)
    ≡ paged (row (n 0x61 ∷ default_blank ∷ n 0x62 ∷ default_blank ∷ default_blank ∷ []) ∷ []) 0 2 5 0 0
unfolding cells_after_delete cells_after_move
half_deleted = refl

inserted_after : chars_inserted 1 (paged (row (wide ∷ right_half ∷ n 1 ∷ n 2 ∷ []) ∷ []) 0 1 4 0 0)
    ≡ paged (row (wide ∷ right_half ∷ default_blank ∷ n 1 ∷ []) ∷ []) 0 1 4 0 0
unfolding cells_after_insert cells_after_move
inserted_after = refl

-- If a wrap is pending, ICH moves no column, and clears the wrapped flag.
pending_inserted : chars_inserted 1 (paged (on (n 1 ∷ n 2 ∷ []) ∷ one 3 ∷ []) 0 2 2 0 1)
    ≡ paged (two 1 2 ∷ one 3 ∷ []) 0 2 2 0 1
unfolding cells_after_insert cells_after_move
pending_inserted = refl

-- ---- The cursor and the region

-- In origin mode the cursor stays in the region.
stays_in_region : moved (To 3 3) (origin_set true (region_set 1 2 (blank_page 4 4)))
    ≡ record (blank_page 4 4) { row = 2; column = 3; top = 1; bottom = 2; origin = true }
unfolding region_set
stays_in_region = refl

-- A region of one row sets the whole page as the region.
no_region : region_set 2 2 (region_set 1 2 (blank_page 4 4)) ≡ blank_page 4 4
unfolding region_set
no_region = refl

region_to_end : region_set 2 9 (blank_page 4 4) ≡ record (blank_page 4 4) { row = 2; top = 2; bottom = 3 }
unfolding region_set
region_to_end = refl

up_within : moved (Up 9) (record (region_set 1 2 (blank_page 4 4)) { row = 2; column = 4 })
    ≡ record (blank_page 4 4) { row = 1; column = 4; top = 1; bottom = 2 }
unfolding upper_edge region_set
up_within = refl

up_from_below : moved (Up 9) (record (region_set 1 2 (blank_page 4 4)) { row = 3 })
    ≡ record (blank_page 4 4) { row = 0; top = 1; bottom = 2 }
unfolding upper_edge region_set
up_from_below = refl

down_from_above : moved (Down 9) (record (region_set 1 2 (blank_page 4 4)) { row = 0 })
    ≡ record (blank_page 4 4) { row = 3; top = 1; bottom = 2 }
unfolding lower_edge region_set
down_from_above = refl

tab : moved Tab (record (blank_page 1 20) { column = 8 }) ≡ record (blank_page 1 20) { column = 16 }
tab = refl

tab_last : moved Tab (record (blank_page 1 20) { column = 20 }) ≡ record (blank_page 1 20) { column = 19 }
tab_last = refl

-- ---- Erasing

-- If a wrap is pending, EL 1 erases the whole row and clears its wrapped flag.
start_pending : erased_start default_attrs (paged (on (n 1 ∷ n 2 ∷ []) ∷ one 3 ∷ []) 0 2 2 0 1)
    ≡ paged (blank_row ∷ one 3 ∷ []) 0 2 2 0 1
unfolding erased_start put_cells
start_pending = refl

start_half : erased_start default_attrs (paged (row (wide ∷ right_half ∷ n 1 ∷ []) ∷ []) 0 0 3 0 0)
    ≡ paged (row (default_blank ∷ default_blank ∷ n 1 ∷ []) ∷ []) 0 0 3 0 0
unfolding erased_start put_cells
start_half = refl

above : erased_above default_attrs (paged (on (n 1 ∷ n 2 ∷ []) ∷ two 3 4 ∷ one 5 ∷ []) 1 0 2 0 2)
    ≡ paged (blank_row ∷ row (default_blank ∷ n 4 ∷ []) ∷ one 5 ∷ []) 1 0 2 0 2
unfolding erased_above erased_start put_cells
above = refl

-- Erasing no columns changes nothing, even on a continuation cell.
none_erased : erased_chars 0 default_attrs (paged (row (wide ∷ right_half ∷ []) ∷ []) 0 1 2 0 0)
    ≡ paged (row (wide ∷ right_half ∷ []) ∷ []) 0 1 2 0 0
unfolding erased_chars
none_erased = refl
