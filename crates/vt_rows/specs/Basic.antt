-- The basic text of a row: its text with no escape sequences except SGR (ECMA-48).
use Rattle.std.specs.Prelude.{◌||◌, ℕ, not, Bool, false, List, [], ◌∷◌, ◌++◌, if◌then◌else◌}
use Rattle.vt_cells.specs.Attrs.{default_attrs, Attrs}
use Rattle.vt_cells.specs.Cell.{CellValue, blank, glyph, right_half, is_default_blank, is_right_half, attrs_of}
use Rattle.vt_cells.specs.Op.{change_text}
use Rattle.vt_rows.specs.Row.{RowValue, cells_without_end}

-- The state of a capture between two rows: the current attributes, and whether a newline is due before the next row.
pub record Written : Type 0 where
  pub attrs : Attrs
  pub is_due : Bool

-- The initial state of a capture, before any text is written: default attributes, and no newline due.
abbrev pub nothing_written : Written
nothing_written = record { attrs = default_attrs; is_due = false }

-- The cell has no attributes of its own, because it is a default blank or a continuation cell.
abbrev pub is_bare : CellValue → Bool
is_bare cell = is_default_blank cell || is_right_half cell

-- The text that is written for a cell: the text of a glyph, a space for a blank, and nothing for a continuation cell.
abbrev pub shown_text : CellValue → List ℕ
shown_text (blank attrs) = 0x20 ∷ []
shown_text (glyph text wide attrs) = text
shown_text right_half = []

-- The current attributes after a cell is written: the cell's attributes, or the previous ones if the cell is a default
-- blank or a continuation cell.
abbrev pub attrs_after : Attrs → CellValue → Attrs
attrs_after attrs cell = if is_bare cell then attrs else attrs_of cell

-- The text of a list of cells. The text of each cell is preceded by the SGR sequence that changes the current
-- attributes to those of the cell. Default blanks and continuation cells don't change the attributes.
abbrev pub cells_text : Attrs → List CellValue → List ℕ
cells_text attrs [] = []
cells_text attrs (cell ∷ cells) =
    change_text attrs (attrs_after attrs cell) ++ (shown_text cell ++ cells_text (attrs_after attrs cell) cells)

-- The current attributes after a list of cells is written.
abbrev pub attrs_after_all : Attrs → List CellValue → Attrs
attrs_after_all attrs [] = attrs
attrs_after_all attrs (cell ∷ cells) = attrs_after_all (attrs_after attrs cell) cells

-- The basic text of a row: a newline if one is due, followed by the text of the cells without trailing default blanks.
abbrev pub basic_text : Written → RowValue → List ℕ
basic_text written row = (if written.is_due then 0x0A ∷ [] else []) ++ cells_text written.attrs (cells_without_end row.cells)

-- The state of a capture after a row is written: the attributes are those after the row's cells, and a newline is due
-- unless the row is wrapped.
abbrev pub written_after : Written → RowValue → Written
written_after written row =
    record { attrs = attrs_after_all written.attrs (cells_without_end row.cells); is_due = not row.wrapped }
