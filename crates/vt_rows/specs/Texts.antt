-- Runs of characters on one row, narrow or wide.
use Rattle.std.specs.Prelude.{◌≡◌, ◌≢◌, ℕ, ◌<◌, ◌≤◌, false, List, [], ◌∷◌, length, map, Some, All, ◌+◌, ◌*◌, true}
use Rattle.std.specs.Char.{encode_utf8, IsScalar}
use Rattle.vt_cells.specs.Attrs.{Attrs}
use Rattle.vt_cells.specs.Cell.{CellValue, glyph, blank, right_half}
use Rattle.vt_cells.specs.Glyph.{columns_of}
use Rattle.vt_rows.specs.Cells.{put_cells, put_wide}

-- ==== Runs of narrow characters on one row: one narrow glyph for each character.

-- All bytes are printable ASCII, from 0x20 to 0x7E.
abbrev pub IsPrintableAscii : List ℕ → Type 0
IsPrintableAscii text = All (λ b. (0x20 ≤ b) × (b < 0x7F)) text

-- The character takes one column and is not U+FFFD.
abbrev pub IsNarrowCharacter : ℕ → Type 0
IsNarrowCharacter c = IsScalar c × ((c ≢ 0xFFFD) × (columns_of c ≡ Some 1))

-- All characters of the text take one column, and none is U+FFFD.
abbrev pub IsNarrowText : List ℕ → Type 0
IsNarrowText text = All IsNarrowCharacter text

-- The narrow glyph with the given attributes whose text is the given character.
abbrev pub narrow_glyph : Attrs → ℕ → CellValue
narrow_glyph attrs c = glyph (encode_utf8 c) false attrs

-- The narrow glyphs of a string, one for each character.
abbrev pub glyphs_of : Attrs → List ℕ → List CellValue
glyphs_of attrs text = map (narrow_glyph attrs) text

-- `put_text c text attrs cells` is the row `cells` after the narrow glyphs of `text` are written, starting at column
-- `c`. An old wide glyph that loses its continuation cell becomes a blank with its own attributes. A continuation cell
-- that loses its wide glyph becomes a space with attributes `attrs`.
abbrev pub put_text : ℕ → List ℕ → Attrs → List CellValue → List CellValue
put_text c text attrs cells = put_cells c (glyph (0x20 ∷ []) false attrs) (glyphs_of attrs text) (length text) cells

-- ==== Runs of wide characters on one row: two columns for each character.

-- The character takes two columns and is not U+FFFD.
abbrev pub IsWideCharacter : ℕ → Type 0
IsWideCharacter c = IsScalar c × ((c ≢ 0xFFFD) × (columns_of c ≡ Some 2))

-- All characters of the text take two columns, and none is U+FFFD.
abbrev pub IsWideText : List ℕ → Type 0
IsWideText text = All IsWideCharacter text

-- The wide glyph with the given attributes whose text is the given character.
abbrev pub wide_glyph : Attrs → ℕ → CellValue
wide_glyph attrs c = glyph (encode_utf8 c) true attrs

-- The cells for a string of wide characters: a wide glyph and a continuation cell for each character.
abbrev pub wide_glyphs_of : Attrs → List ℕ → List CellValue
wide_glyphs_of attrs [] = []
wide_glyphs_of attrs (c ∷ text) = wide_glyph attrs c ∷ right_half ∷ wide_glyphs_of attrs text

-- `put_wide_text c text attrs cells` is the row `cells` after the wide glyphs of `text` are written, starting at column
-- `c`. An old wide glyph that loses its continuation cell becomes a blank with its own attributes. An old continuation
-- cell that loses its wide glyph becomes a blank with attributes `attrs`.
abbrev pub put_wide_text : ℕ → List ℕ → Attrs → List CellValue → List CellValue
put_wide_text c text attrs cells = put_cells c (blank attrs) (wide_glyphs_of attrs text) (2 * length text) cells

-- `put_each_wide c text attrs cells` is the row `cells` after the characters of `text` are written one after the other
-- with `put_wide`, starting at column `c`.
abbrev pub put_each_wide : ℕ → List ℕ → Attrs → List CellValue → List CellValue
put_each_wide c [] attrs cells = cells
put_each_wide c (x ∷ text) attrs cells = put_each_wide (c + 2) text attrs (put_wide c (encode_utf8 x) attrs cells)
