-- The definitions of cursor movement, erasing and printing, computed on small pages.
use Rattle.std.proofs.Common.{◌≡◌, ℕ, Bool, true, false, List, [], ◌∷◌, refl}
use Rattle.std.specs.Char.{encode_utf8}
use Rattle.std.specs.Prelude.{Some}
use Rattle.vt_cells.specs.Attrs.{default_attrs}
use Rattle.vt_cells.specs.Cell.{CellValue, glyph, right_half, default_blank}
use Rattle.vt_rows.specs.Cells.{put_cells}
use Rattle.vt_rows.specs.Row.{RowValue}
use Rattle.vt_grid.specs.Page.{Page, blank_page, moved_rows}
use Rattle.vt_grid.specs.Moves.{moved, line_feed}
use Rattle.vt_grid.specs.declared.grid.moves.CursorMove.TheVariants.{Right, To}
use Rattle.vt_grid.specs.Erasing.{erased_chars, erased_rest, erased_below}
use Rattle.vt_grid.specs.Printing.{glyph_put, room_made, wrapped_page, made_wide, made_narrow, page_after_wrap, printed_by}

-- The page after a letter of one column is printed.
abbrev letter : ℕ → Page → Page
letter c page = glyph_put (c ∷ []) false default_attrs (room_made 1 page)

abbrev wide_letter : ℕ → Page → Page
wide_letter c page = glyph_put (c ∷ []) true default_attrs (room_made 2 page)

abbrev n : ℕ → CellValue
n c = glyph (c ∷ []) false default_attrs

abbrev w : ℕ → CellValue
w c = glyph (c ∷ []) true default_attrs

-- The wide glyph of a character with U+FE0F.
abbrev heart : CellValue
heart = glyph (9 ∷ encode_utf8 0xFE0F) true default_attrs

abbrev row : List CellValue → Bool → RowValue
row cells wrapped = record { cells = cells; wrapped = wrapped }

-- The page `page` with the given rows, cursor position and width.
abbrev shown : List RowValue → ℕ → ℕ → ℕ → Page → Page
shown rows r c width page = record page { rows = rows; row = r; column = c; width = width }

-- A full row leaves the cursor after its last column, and is not wrapped.
full_row : letter 4 (letter 3 (letter 2 (letter 1 (blank_page 2 4))))
    ≡ shown (row (n 1 ∷ n 2 ∷ n 3 ∷ n 4 ∷ []) false
    ∷ row (default_blank ∷ default_blank ∷ default_blank ∷ default_blank ∷ []) false ∷ [])
    0 4 4 (blank_page 2 4)
unfolding room_made wrapped_page line_feed put_cells moved_rows
full_row = refl

-- One more letter after a full row wraps, and the full row is then wrapped.
wraps : letter 3 (letter 2 (letter 1 (blank_page 2 2)))
    ≡ shown (row (n 1 ∷ n 2 ∷ []) true ∷ row (n 3 ∷ default_blank ∷ []) false ∷ []) 1 1 2 (blank_page 2 2)
unfolding room_made wrapped_page line_feed put_cells moved_rows
wraps = refl

-- A wrap at the bottom moves the rows up, and the row that the cursor left moves with its flag.
wraps_at_bottom : letter 5 (letter 4 (letter 3 (letter 2 (letter 1 (blank_page 2 2)))))
    ≡ shown (row (n 3 ∷ n 4 ∷ []) true ∷ row (n 5 ∷ default_blank ∷ []) false ∷ []) 1 1 2 (blank_page 2 2)
unfolding room_made wrapped_page line_feed put_cells moved_rows
wraps_at_bottom = refl

-- A wide character wraps over a blank column, and the row above is not wrapped.
wide_wraps : wide_letter 2 (letter 1 (blank_page 2 2))
    ≡ shown (row (n 1 ∷ default_blank ∷ []) false ∷ row (w 2 ∷ right_half ∷ []) false ∷ []) 1 2 2 (blank_page 2 2)
unfolding room_made wrapped_page line_feed put_cells moved_rows
wide_wraps = refl

-- On a page of one row, a wrap removes the row that the cursor left, and no flag is set.
wraps_single : letter 3 (letter 2 (letter 1 (blank_page 1 2)))
    ≡ shown (row (n 3 ∷ default_blank ∷ []) false ∷ []) 0 1 2 (blank_page 1 2)
unfolding room_made wrapped_page line_feed put_cells moved_rows
wraps_single = refl

-- A wide character overwrites the first cell of another.
wide_over_half : wide_letter 2 (moved (To 0 0) (wide_letter 1 (moved (To 0 1) (blank_page 1 4))))
    ≡ shown (row (w 2 ∷ right_half ∷ default_blank ∷ default_blank ∷ []) false ∷ []) 0 2 4 (blank_page 1 4)
unfolding room_made wrapped_page line_feed put_cells moved_rows
wide_over_half = refl

-- A letter overwrites a continuation cell, and then the first cell of a wide glyph.
over_right : letter 4 (moved (To 0 1) (letter 3 (letter 2 (wide_letter 1 (blank_page 1 5)))))
    ≡ shown (row (default_blank ∷ n 4 ∷ n 2 ∷ n 3 ∷ default_blank ∷ []) false ∷ []) 0 2 5 (blank_page 1 5)
unfolding room_made wrapped_page line_feed put_cells moved_rows
over_right = refl

over_left : letter 4 (moved (To 0 0) (letter 3 (letter 2 (wide_letter 1 (blank_page 1 5)))))
    ≡ shown (row (n 4 ∷ n 0x20 ∷ n 2 ∷ n 3 ∷ default_blank ∷ []) false ∷ []) 0 1 5 (blank_page 1 5)
unfolding room_made wrapped_page line_feed put_cells moved_rows
over_left = refl

-- A character of two columns is not printed on a page of one column.
too_wide : printed_by (Some 2) 0x4E2D default_attrs (blank_page 2 1) ≡ blank_page 2 1
too_wide = refl

-- U+FE0F after a heart makes it wide if a column is left.
heart_in_place : made_wide 0 default_attrs (letter 9 (blank_page 1 3))
    ≡ shown (row (w 9 ∷ right_half ∷ default_blank ∷ []) false ∷ []) 0 2 3 (blank_page 1 3)
unfolding room_made wrapped_page line_feed put_cells moved_rows made_wide
heart_in_place = refl

-- U+FE0F after a heart moves it to the next row if no column is left.
heart_carried : page_after_wrap 0xFE0F default_attrs (letter 9 (moved (To 1 1) (letter 1 (blank_page 2 2))))
    ≡ shown (row (default_blank ∷ default_blank ∷ []) false ∷ row (heart ∷ right_half ∷ []) false ∷ [])
    1 2 2 (blank_page 2 2)
unfolding room_made wrapped_page line_feed put_cells moved_rows page_after_wrap
heart_carried = refl

-- A wide character that is made narrow leaves a space in its second column, and the cursor doesn't move.
narrowed : made_narrow 0 default_attrs (wide_letter 9 (blank_page 1 3))
    ≡ shown (row (n 9 ∷ n 0x20 ∷ default_blank ∷ []) false ∷ []) 0 2 3 (blank_page 1 3)
unfolding room_made wrapped_page line_feed put_cells moved_rows
narrowed = refl

-- If a wrap is pending, erasing to the end of the row erases nothing, and the cursor moves right only to the last
-- column.
pending : erased_rest default_attrs (letter 2 (letter 1 (blank_page 1 2))) ≡ letter 2 (letter 1 (blank_page 1 2))
unfolding room_made wrapped_page line_feed put_cells moved_rows erased_rest
pending = refl

pending_right : moved (Right 1) (letter 2 (letter 1 (blank_page 1 2)))
    ≡ shown (row (n 1 ∷ n 2 ∷ []) false ∷ []) 0 1 2 (blank_page 1 2)
unfolding room_made wrapped_page line_feed put_cells moved_rows
pending_right = refl

-- ED 0 erases the rows below the cursor, and the cursor's row from the cursor on; if a wrap is pending, that row stays
-- as it is.
erases_below : erased_below default_attrs (moved (To 0 1) (letter 3 (letter 2 (letter 1 (blank_page 2 2)))))
    ≡ shown (row (n 1 ∷ default_blank ∷ []) false ∷ row (default_blank ∷ default_blank ∷ []) false ∷ [])
    0 1 2 (blank_page 2 2)
unfolding room_made wrapped_page line_feed put_cells moved_rows erased_rest erased_below
erases_below = refl

-- Erasing one cell of a wide glyph makes the other one a blank.
erases_half : erased_chars 1 default_attrs (moved (To 0 1) (letter 2 (wide_letter 1 (blank_page 1 4))))
    ≡ shown (row (default_blank ∷ default_blank ∷ n 2 ∷ default_blank ∷ []) false ∷ []) 0 1 4 (blank_page 1 4)
unfolding room_made wrapped_page line_feed put_cells moved_rows erased_chars
erases_half = refl
