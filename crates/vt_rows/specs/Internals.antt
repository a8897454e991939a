-- The results of the helper functions for edits, and the items that iterators over captures have yet to return. Cited
-- only by the contracts of these functions and iterators, by the contract of `shifts::turn`, and by proofs.
use Rattle.std.specs.Prelude.{◌≡◌, ℕ, ◌+◌, ◌-◌, ◌<◌, ◌≤◌, ◌&&◌, nat_le, nat_lt, true, List, [], ◌∷◌, ◌++◌}
use Rattle.std.specs.Prelude.{length, drop, flat_map, slice_set, chars, encode_utf8_all, map, if◌then◌else◌}
use Rattle.vt_cells.specs.Attrs.{Attrs}
use Rattle.vt_cells.specs.Cell.{CellValue, blank, is_wide, is_right_half, attrs_of}
use Rattle.vt_cells.specs.Op.{change_text}
use Rattle.vt_cells.specs.Internals.{buffered_text}
use Rattle.vt_rows.specs.Basic.{attrs_after, shown_text}
use Rattle.vt_rows.specs.CaptureRows.{ends_row, overflows}
use Rattle.vt_rows.specs.Cells.{at}
use Rattle.vt_rows.specs.Pieces.{Piece}
use Rattle.vt_rows.specs.Stretches.{begins_stretch, ends_stretch}

-- The cells of a row after the given column is prepared for overwriting: if the column holds the continuation cell of a
-- wide glyph, the first cell of the glyph becomes a blank with the glyph's attributes.
unfoldable pub left_blanked : ℕ → List CellValue → List CellValue
left_blanked c cells =
    if is_right_half (at cells c) then slice_set cells (c - 1) (blank (attrs_of (at cells (c - 1)))) else cells

-- The cells of a row after the given column is prepared for overwriting: if the column holds the first cell of a wide
-- glyph, the glyph's continuation cell becomes the given cell.
unfoldable pub right_replaced : ℕ → CellValue → List CellValue → List CellValue
right_replaced c cell cells = if is_wide (at cells c) then slice_set cells (c + 1) cell else cells

-- If the given column holds the first cell of a wide glyph, it is not the last column of the row.
abbrev pub HasRoom : ℕ → List CellValue → Type 0
HasRoom c cells = is_wide (at cells c) ≡ true → c + 1 < length cells

-- The cells of a row, with the last cell replaced by a blank with the same attributes if it is the first cell of a wide
-- glyph.
unfoldable pub end_blanked : List CellValue → List CellValue
end_blanked cells =
    if is_wide (at cells (length cells - 1))
    then slice_set cells (length cells - 1) (blank (attrs_of (at cells (length cells - 1)))) else cells

-- `rotation_source from to n k` is the index that item `k` of a list had before the range `from..to` was rotated left
-- by `n`.
abbrev pub rotation_source : ℕ → ℕ → ℕ → ℕ → ℕ
rotation_source from to n k =
    if nat_le from k && nat_lt k to then (if nat_lt (k + n) to then k + n else k + n - (to - from)) else k

-- `text` was written to a sink through a buffer. The sink's contents changed from `before` to `after` without
-- becoming shorter, and the buffer's contents changed from `buffer` to `left`.
pub record Gathers (before buffer text after left : List ℕ) : Type 0 where
  pub bytes : buffered_text after left ≡ buffered_text before buffer ++ text
  pub grows : length before ≤ length after

-- The SGR sequence that changes the current attributes to those of a cell, followed by the text of the cell. A default
-- blank or continuation cell doesn't change the attributes.
abbrev pub cell_text : Attrs → CellValue → List ℕ
cell_text attrs cell = change_text attrs (attrs_after attrs cell) ++ shown_text cell

-- Appending the texts of the first `count` cells of `cells` changes the contents of a buffer from `old` to `new`.
pub record Shows (old new : List ℕ) (count : ℕ) (cells : List CellValue) : Type 0 where
  pub inside : count ≤ length cells
  pub text : new ++ flat_map shown_text (drop count cells) ≡ old ++ flat_map shown_text cells

-- The piece of a capture that has the given text and begins at the given byte index; none if the text is empty.
abbrev pub piece_at : ℕ → List ℕ → List Piece
piece_at at [] = []
piece_at at (b ∷ text) = (at, b ∷ text) ∷ []

abbrev mutual
  -- The plain-text pieces formed by an unfinished piece and the text after it. The unfinished piece begins at the given
  -- byte index.
  pub pieces_after : ℕ → List ℕ → List ℕ → List Piece
  pieces_after at piece [] = piece_at at piece
  pieces_after at piece (b ∷ text) =
      if begins_stretch b then piece_at at piece ++ pieces_within (at + length piece + 1) text
      else pieces_after at (piece ++ b ∷ []) text

  -- The plain-text pieces in the remaining text of a capture. The remaining text begins inside an SGR sequence, at the
  -- given byte index.
  pub pieces_within : ℕ → List ℕ → List Piece
  pieces_within at [] = []
  pieces_within at (b ∷ text) = if ends_stretch b then pieces_after (at + 1) [] text else pieces_within (at + 1) text

-- The plain-text pieces in the remaining text of a capture. The remaining text begins outside SGR sequences, at the
-- given byte index.
abbrev pub pieces_from : ℕ → List ℕ → List Piece
pieces_from at text = pieces_after at [] text

-- `rows_after width row text` is the list of rows that results from splitting the characters `text` into rows of
-- `width` columns, starting on the unfinished row `row`. A newline outside SGR sequences ends a row and is dropped; a
-- character that doesn't fit in the width begins the next row.
abbrev pub rows_after : ℕ → List ℕ → List ℕ → List (List ℕ)
rows_after width row [] = row ∷ []
rows_after width row (c ∷ text) = if ends_row row c then row ∷ rows_after width [] text
    else if overflows width row c then row ∷ rows_after width (c ∷ []) text
    else rows_after width (row ++ c ∷ []) text

-- The rows of the given width that the remaining text of a capture forms, in order; the last row may be empty.
abbrev pub rows_of : ℕ → List ℕ → List (List ℕ)
rows_of width text = map encode_utf8_all (rows_after width [] (chars text))
