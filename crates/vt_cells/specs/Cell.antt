-- Cells. A cell is a blank, a glyph, or the continuation cell (right half) of the wide glyph before it.
use Rattle.std.specs.Prelude.{ℕ, ◌<◌, ◌==◌, Bool, true, false, List, [], ◌∷◌, length, bytes_eq, ◌&&◌, if◌then◌else◌}
use Rattle.vt_cells.specs.Attrs.{default_attrs, same_bool, same_attrs, Attrs}
use Rattle.vt_cells.specs.Glyph.{IsGlyphText, marked_text}

-- A cell: a blank with attributes; a narrow or wide (two-column) glyph with UTF-8 text and attributes; or the
-- continuation cell of a wide glyph.
pub data CellValue : Type 0 where
  blank : Attrs → CellValue
  glyph : (text : List ℕ) → (wide : Bool) → Attrs → CellValue
  right_half : CellValue

-- The blank with default attributes.
abbrev pub default_blank : CellValue
default_blank = blank default_attrs

-- The cell with the given text, wide flag, continuation flag and attributes: a continuation cell if the continuation
-- flag is set, otherwise a blank if the text is empty, and otherwise a glyph.
abbrev pub cell_of : List ℕ → Bool → Bool → Attrs → CellValue
cell_of text wide right attrs =
    if right then right_half else if length text == 0 then blank attrs else glyph text wide attrs

-- The cell is the first cell of a wide glyph, which takes two columns.
abbrev pub is_wide : CellValue → Bool
is_wide (glyph text wide attrs) = wide
is_wide _ = false

-- The cell is a blank.
abbrev pub is_blank : CellValue → Bool
is_blank (blank attrs) = true
is_blank _ = false

-- The cell is a glyph, that is, it has text.
abbrev pub is_glyph : CellValue → Bool
is_glyph (glyph text wide attrs) = true
is_glyph _ = false

-- The cell is a continuation cell.
abbrev pub is_right_half : CellValue → Bool
is_right_half right_half = true
is_right_half _ = false

-- The cell is a blank with default attributes.
abbrev pub is_default_blank : CellValue → Bool
is_default_blank (blank attrs) = same_attrs attrs default_attrs
is_default_blank _ = false

-- The text of a cell, which is empty unless the cell is a glyph.
abbrev pub text_of : CellValue → List ℕ
text_of (glyph text wide attrs) = text
text_of _ = []

-- The attributes of a cell; a continuation cell has default attributes.
abbrev pub attrs_of : CellValue → Attrs
attrs_of (blank attrs) = attrs
attrs_of (glyph text wide attrs) = attrs
attrs_of right_half = default_attrs

-- The two cells are equal: they have the same kind, text, width and attributes.
unfoldable pub same_cell : CellValue → CellValue → Bool
same_cell (blank a) (blank b) = same_attrs a b
same_cell (glyph s v a) (glyph t w b) = bytes_eq s t && (same_bool v w && same_attrs a b)
same_cell right_half right_half = true
same_cell _ _ = false

-- The cell after a combining character is added to its text; the text is unchanged if it has no room for the character.
-- A blank first becomes the glyph of a space with the same attributes; a continuation cell is unchanged.
abbrev pub cell_with_mark : ℕ → CellValue → CellValue
cell_with_mark mark (blank attrs) = glyph (marked_text (0x20 ∷ []) mark) false attrs
cell_with_mark mark (glyph text wide attrs) = glyph (marked_text text mark) wide attrs
cell_with_mark mark right_half = right_half

-- The cell with its glyph made wide if the flag is true, and narrow otherwise. A cell that is not a glyph is unchanged.
abbrev pub cell_made_wide : Bool → CellValue → CellValue
cell_made_wide wide (glyph text was attrs) = glyph text wide attrs
cell_made_wide wide (blank attrs) = blank attrs
cell_made_wide wide right_half = right_half

-- The cell with the given attributes instead of its own; a continuation cell is unchanged.
abbrev pub cell_with_attrs : Attrs → CellValue → CellValue
cell_with_attrs attrs (blank was) = blank attrs
cell_with_attrs attrs (glyph text wide was) = glyph text wide attrs
cell_with_attrs attrs right_half = right_half

-- The invariant of every cell: the text of a glyph is a valid glyph text for the glyph's width.
abbrev pub IsCell : CellValue → Type 0
IsCell (glyph text wide attrs) = IsGlyphText text wide
IsCell _ = Unit {0}

-- The text of the cell has at most seven bytes.
abbrev pub IsShort : CellValue → Type 0
IsShort cell = length (text_of cell) < 8
