-- The plain text of a range of columns of a row: the glyphs in the range, with spaces for the columns before and
-- between them.
use Rattle.std.specs.Prelude.{ℕ, Bool, List, [], ◌∷◌, take, drop, if◌then◌else◌}
use Rattle.std.specs.List.{flat_map, list_any}
use Rattle.vt_cells.specs.Cell.{CellValue, default_blank, is_glyph}
use Rattle.vt_rows.specs.Basic.{shown_text}
use Rattle.vt_rows.specs.Cells.{cells_after_cut}

-- The cells of a row in the columns `start..stop`, up to the end of the row. If the first of these cells is a
-- continuation cell, it becomes a default blank.
abbrev pub columns_between : (start stop : ℕ) → List CellValue → List CellValue
columns_between start stop cells = cells_after_cut default_blank (drop start (take stop cells))

-- The cells up to and including the last glyph; none if there is no glyph.
abbrev pub up_to_last_glyph : List CellValue → List CellValue
up_to_last_glyph [] = []
up_to_last_glyph (cell ∷ cells) = if list_any is_glyph (cell ∷ cells) then cell ∷ up_to_last_glyph cells else []

-- The plain text of the columns `start..stop` of a row, up to the last glyph that begins in these columns. A
-- continuation cell after column `start` adds no text, and any other column without a glyph adds a space.
unfoldable pub plain_text : (start stop : ℕ) → List CellValue → List ℕ
plain_text start stop cells = flat_map shown_text (up_to_last_glyph (columns_between start stop cells))

-- A glyph begins in one of the columns `start..stop`.
abbrev pub has_glyph : (start stop : ℕ) → List CellValue → Bool
has_glyph start stop cells = list_any is_glyph (drop start (take stop cells))
