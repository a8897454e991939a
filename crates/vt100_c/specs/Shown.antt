-- The display as C reads it: colors, cells and states.
use Rattle.std.specs.Prelude.{◌≡◌, ◌⊎◌, ◌+◌, ◌*◌, ◌<◌, ℕ, Bool, List, [], ◌∷◌, drop, length, slice_index_or, if◌then◌else◌}
use Rattle.vt_cells.specs.Attrs.{Attrs, is_bold, is_dim}
use Rattle.vt_cells.specs.Cell.{CellValue, attrs_of, default_blank, is_right_half, is_wide, text_of}
use Rattle.vt_cells.specs.Internals.{padded_text}
use Rattle.vt_cells.specs.declared.color.Color.{Color}
use Rattle.vt_cells.specs.declared.color.Color.TheVariants as color
use Rattle.vt_cells.specs.declared.modes.CursorStyle.{CursorStyle}
use Rattle.vt_cells.specs.declared.modes.CursorStyle.TheVariants as style
use Rattle.vt_cells.specs.declared.modes.MouseProtocolEncoding.{MouseProtocolEncoding}
use Rattle.vt_cells.specs.declared.modes.MouseProtocolEncoding.TheVariants as encoding
use Rattle.vt_cells.specs.declared.modes.MouseProtocolMode.{MouseProtocolMode}
use Rattle.vt_cells.specs.declared.modes.MouseProtocolMode.TheVariants as mouse
use Rattle.vt_rows.specs.Cells.{at}
use Rattle.vt_screen.specs.Screen.{ScreenValue, above_page, visible_row}
use Rattle.vt100_c.specs.declared.cells.VtCell.{VtCell}
use Rattle.vt100_c.specs.declared.cells.VtColor.{VtColor}
use Rattle.vt100_c.specs.declared.cells.VtState.{VtState}

-- ---- cells

abbrev pub color_for_c : Color → VtColor
color_for_c color.Default = record { kind = 0; red = 0; green = 0; blue = 0 }
color_for_c (color.Idx index) = record { kind = 1; red = index; green = 0; blue = 0 }
color_for_c (color.Rgb red green blue) = record { kind = 2; red = red; green = green; blue = blue }

-- The given number if the test is true, and 0 otherwise.
abbrev pub bit : ℕ → Bool → ℕ
bit value is = if is then value else 0

-- The number is 1 if the given proposition is true, and 0 otherwise.
abbrev pub IsBitFor : Type 0 → ℕ → Type 0
IsBitFor Holds out = ((out ≡ 1) × Holds) ⊎ ((out ≡ 0) × ¬ Holds)

-- The flags of a style, starting at the lowest bit: bold, dim, italic, underline, inverse.
abbrev pub style_flags : Attrs → ℕ
style_flags attrs =
    bit 1 (is_bold attrs) + bit 2 (is_dim attrs) + bit 4 attrs.italic + bit 8 attrs.underline + bit 16 attrs.inverse

-- The flags of a cell: the flags of its style, a flag for the first cell of a wide glyph, and a flag for a continuation
-- cell.
abbrev pub cell_flags : CellValue → ℕ
cell_flags cell = style_flags (attrs_of cell) + bit 32 (is_wide cell) + bit 64 (is_right_half cell)

-- The C representation of a cell. Unused bytes of the cell's text array are 0.
abbrev pub cell_for_c : CellValue → VtCell
cell_for_c cell = record {
  text = padded_text (text_of cell);
  len = length (text_of cell);
  flags = cell_flags cell;
  fgcolor = color_for_c (attrs_of cell).fgcolor;
  bgcolor = color_for_c (attrs_of cell).bgcolor;
}

-- The displayed cell at a row and column, or a default blank if there is no such cell.
abbrev pub shown_cell : (row col : ℕ) → ScreenValue → CellValue
shown_cell row col screen = at (visible_row screen row).cells col

-- The cell at the given index of a list of `VtCell`s, or a default blank if the index is past the end.
abbrev pub cell_in : List VtCell → ℕ → VtCell
cell_in cells k = slice_index_or cells k (cell_for_c default_blank)

-- The list begins with the cells of a displayed row, one for each column of the screen.
abbrev pub IsRowForC : ℕ → ScreenValue → List VtCell → Type 0
IsRowForC row screen cells = (col : ℕ) → col < screen.page.width
    → cell_in cells col ≡ cell_for_c (shown_cell row col screen)

-- The number of cells of all displayed rows, counting one cell for each column of the screen in each row.
abbrev pub cell_count : ScreenValue → ℕ
cell_count screen = length screen.page.rows * screen.page.width

-- The list begins with the cells of all displayed rows, one row after the other, with one cell for each column of the
-- screen in each row.
abbrev pub AreRowsForC : ScreenValue → List VtCell → Type 0
AreRowsForC screen cells = (row : ℕ) → row < length screen.page.rows
    → IsRowForC row screen (drop (row * screen.page.width) cells)

-- ---- states

abbrev pub mouse_mode_number : MouseProtocolMode → ℕ
mouse_mode_number mouse.None = 0
mouse_mode_number mouse.Press = 1
mouse_mode_number mouse.PressRelease = 2
mouse_mode_number mouse.ButtonMotion = 3
mouse_mode_number mouse.AnyMotion = 4

abbrev pub mouse_encoding_number : MouseProtocolEncoding → ℕ
mouse_encoding_number encoding.Default = 0
mouse_encoding_number encoding.Utf8 = 1
mouse_encoding_number encoding.Sgr = 2

abbrev pub cursor_style_number : CursorStyle → ℕ
cursor_style_number style.Default = 0
cursor_style_number style.BlinkBlock = 1
cursor_style_number style.SteadyBlock = 2
cursor_style_number style.BlinkUnderline = 3
cursor_style_number style.SteadyUnderline = 4
cursor_style_number style.BlinkVerticalBar = 5
cursor_style_number style.SteadyVerticalBar = 6

abbrev pub state_for_c : ScreenValue → VtState
state_for_c screen = record {
  rows = length screen.page.rows;
  cols = screen.page.width;
  cursor_row = screen.page.row;
  cursor_col = screen.page.column;
  alternate_screen = bit 1 screen.is_alternate;
  application_keypad = bit 1 screen.modes.application_keypad;
  application_cursor = bit 1 screen.modes.application_cursor;
  hide_cursor = bit 1 screen.hidden;
  bracketed_paste = bit 1 screen.modes.bracketed_paste;
  mouse_protocol_mode = mouse_mode_number screen.modes.mouse_mode;
  mouse_protocol_encoding = mouse_encoding_number screen.modes.mouse_encoding;
  cursor_style = cursor_style_number screen.modes.cursor_style;
  flags = style_flags screen.attrs;
  reserved = 0 ∷ 0 ∷ 0 ∷ [];
  fgcolor = color_for_c screen.attrs.fgcolor;
  bgcolor = color_for_c screen.attrs.bgcolor;
  scrollback = (above_page screen).offset;
  scrollback_len = length (above_page screen).rows;
  scrollback_capacity = (above_page screen).capacity;
}
