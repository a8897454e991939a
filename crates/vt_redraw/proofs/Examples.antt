-- Redraws and differences of small pictures, as lists of operations.
use Rattle.std.proofs.Common.{◌≡◌, ℕ, true, false, List, [], ◌∷◌, refl}
use Rattle.vt_cells.specs.Attrs.{default_attrs, same_attrs, same_color, Attrs}
use Rattle.vt_cells.specs.Cell.{CellValue, blank, glyph, right_half, default_blank, same_cell}
use Rattle.vt_cells.specs.Op.{Op, Hide, ClearAttrs, MoveTo, MoveRight, NextRow, LineFeed, Backspace, EraseBelow}
use Rattle.vt_cells.specs.Op.{EraseRest, EraseChars, SaveCursor, RestoreCursor, ChangeAttrs, Print}
use Rattle.vt_cells.specs.declared.attrs.Intensity.TheVariants.{Bold}
use Rattle.vt_cells.specs.declared.color.Color.TheVariants.{Idx}
use Rattle.vt_rows.specs.Row.{RowValue}
use Rattle.vt_redraw.specs.Script.{move_ops, attr_ops_in}
use Rattle.vt_redraw.specs.Picture.{Picture}
use Rattle.vt_redraw.specs.Script.{cells_written, row_link, row_break}
use Rattle.vt_redraw.specs.Redraw.{row_written, rows_below, rows_written, over_blank, under_last, difference_in}
use Rattle.vt_redraw.specs.Redraw.{cursor_written, script_in, difference, redraw, cursor_state, redraw_in}
use Rattle.vt_redraw.specs.Items.{item_of_redraw, item_of_difference}

abbrev b : CellValue
b = default_blank

-- A narrow glyph of one byte.
abbrev g : ℕ → CellValue
g c = glyph (c ∷ []) false default_attrs

abbrev p : ℕ → Op
p c = Print (c ∷ [])

-- The encoding of U+4E2D, which takes two columns.
abbrev middle : List ℕ
middle = 0xE4 ∷ 0xB8 ∷ 0xAD ∷ []

abbrev wide : CellValue
wide = glyph middle true default_attrs

-- The encoding of U+2764 and U+FE0F, which together take two columns.
abbrev heart : List ℕ
heart = 0xE2 ∷ 0x9D ∷ 0xA4 ∷ 0xEF ∷ 0xB8 ∷ 0x8F ∷ []

abbrev row : List CellValue → RowValue
row cells = record { cells = cells; wrapped = false }

-- A wrapped row.
abbrev wrapped_row : List CellValue → RowValue
wrapped_row cells = record { cells = cells; wrapped = true }

abbrev none : RowValue
none = row (b ∷ b ∷ b ∷ b ∷ [])

abbrev abcd : List CellValue
abcd = g 0x61 ∷ g 0x62 ∷ g 0x63 ∷ g 0x64 ∷ []

abbrev x_row : RowValue
x_row = row (g 0x78 ∷ b ∷ b ∷ b ∷ [])

-- A picture of the given width with default attributes and the cursor at a position.
abbrev at : ℕ → List RowValue → ℕ → ℕ → Picture
at width rows r c = record { rows = rows; width = width; row = r; column = c; attrs = default_attrs; hidden = false }

abbrev cleared : List Op → List Op
cleared ops = Hide false ∷ ClearAttrs ∷ MoveTo 0 0 ∷ EraseBelow ∷ ops

abbrev red : Attrs
red = record default_attrs { bgcolor = Idx 1 }

-- ---- redraws

-- The redraw of a wrapped row, a blank row below it and a third row, with the cursor on the blank row.
blank_below : redraw (at 4 (wrapped_row abcd ∷ none ∷ x_row ∷ []) 1 1)
    ≡ cleared
    (p 0x61 ∷ p 0x62 ∷ p 0x63 ∷ p 0x64 ∷ p 0x20 ∷ Backspace ∷ EraseChars 1 ∷ NextRow ∷ p 0x78 ∷ MoveTo 1 1 ∷ [])
unfolding redraw_in script_in rows_written rows_below row_written cells_written row_link row_break
    cursor_written over_blank under_last move_ops attr_ops_in same_cell same_attrs same_color
blank_below = refl

-- The redraw of a blank row with a pending wrap, below a full row.
pending_below : redraw (at 4 (row abcd ∷ none ∷ []) 1 4) ≡ cleared (p 0x61 ∷ p 0x62 ∷ p 0x63 ∷ p 0x64 ∷ LineFeed ∷ [])
unfolding redraw_in script_in rows_written rows_below row_written cells_written row_link row_break
    cursor_written over_blank under_last move_ops attr_ops_in same_cell same_attrs same_color
pending_below = refl

-- The redraw of a blank row with a pending wrap and only blank rows above it.
pending_blank : redraw (at 4 (none ∷ none ∷ []) 0 4)
    ≡ cleared (MoveRight 3 ∷ p 0x20 ∷ SaveCursor ∷ Backspace ∷ EraseChars 1 ∷ RestoreCursor ∷ [])
unfolding redraw_in script_in rows_written rows_below row_written cells_written row_link row_break
    cursor_written over_blank under_last move_ops attr_ops_in same_cell same_attrs same_color
pending_blank = refl

-- The redraw of a coloured blank row after a wrapped row.
coloured_below : redraw
    (record (at 2 (wrapped_row (g 0x61 ∷ g 0x62 ∷ []) ∷ row (blank red ∷ blank red ∷ []) ∷ []) 1 1) { attrs = red })
    ≡ cleared
    (p 0x61 ∷ p 0x62 ∷ ChangeAttrs default_attrs red ∷ p 0x20 ∷ Backspace ∷ EraseChars 1 ∷ MoveRight 1 ∷ EraseRest ∷ [])
unfolding redraw_in script_in rows_written rows_below row_written cells_written row_link row_break
    cursor_written over_blank under_last move_ops attr_ops_in same_cell same_attrs same_color
coloured_below = refl

-- The redraw of a glyph that U+FE0F made wide.
heart_between : redraw (at 4 (row (g 0x61 ∷ glyph heart true default_attrs ∷ right_half ∷ g 0x62 ∷ []) ∷ none ∷ []) 0 4)
    ≡ cleared (p 0x61 ∷ Print heart ∷ p 0x62 ∷ [])
unfolding redraw_in script_in rows_written rows_below row_written cells_written row_link row_break
    cursor_written over_blank under_last move_ops attr_ops_in same_cell same_attrs same_color
heart_between = refl

-- The redraw of a full row in other attributes, with a wrap pending.
red_row : redraw (at 4 (row (glyph (0x61 ∷ []) false red ∷ glyph (0x62 ∷ []) false red
    ∷ glyph (0x63 ∷ []) false red ∷ glyph (0x64 ∷ []) false red ∷ [])
    ∷ none ∷ [])
    0 4)
    ≡ cleared (ChangeAttrs default_attrs red ∷ p 0x61 ∷ p 0x62 ∷ p 0x63 ∷ p 0x64 ∷ ChangeAttrs red default_attrs ∷ [])
unfolding redraw_in script_in rows_written rows_below row_written cells_written row_link row_break
    cursor_written over_blank under_last move_ops attr_ops_in same_cell same_attrs same_color
red_row = refl

-- The redraw of two rows of one glyph each.
two_rows : redraw (at 4 (row (g 0x61 ∷ b ∷ b ∷ b ∷ []) ∷ row (g 0x62 ∷ b ∷ b ∷ b ∷ []) ∷ []) 1 1)
    ≡ cleared (p 0x61 ∷ NextRow ∷ p 0x62 ∷ [])
unfolding redraw_in script_in rows_written rows_below row_written cells_written row_link row_break
    cursor_written over_blank under_last move_ops attr_ops_in same_cell same_attrs same_color
two_rows = refl

-- ---- differences

-- A difference in which a row ceases to be wrapped, and one in which it becomes wrapped again.
breaks : difference (at 4 (row abcd ∷ x_row ∷ []) 1 1) (at 4 (wrapped_row abcd ∷ x_row ∷ []) 1 1)
    ≡ MoveTo 0 3 ∷ EraseChars 1 ∷ p 0x64 ∷ MoveTo 1 1 ∷ []
unfolding difference_in script_in rows_written rows_below row_written cells_written row_link row_break
    cursor_written over_blank under_last move_ops attr_ops_in same_cell same_attrs same_color
breaks = refl

links : difference (at 4 (wrapped_row abcd ∷ x_row ∷ []) 1 1) (at 4 (row abcd ∷ x_row ∷ []) 1 1)
    ≡ MoveTo 0 3 ∷ p 0x64 ∷ p 0x78 ∷ []
unfolding difference_in script_in rows_written rows_below row_written cells_written row_link row_break
    cursor_written over_blank under_last move_ops attr_ops_in same_cell same_attrs same_color
links = refl

-- A difference in which single cells change, and the cursor moves over the cells between them.
skips : difference (at 4 (wrapped_row (g 0x61 ∷ g 0x62 ∷ g 0x63 ∷ g 0x65 ∷ []) ∷ row
    (g 0x78 ∷ b ∷ g 0x7A ∷ b ∷ []) ∷ []) 1 1)
    (at 4 (wrapped_row abcd ∷ row (g 0x78 ∷ g 0x79 ∷ g 0x7A ∷ b ∷ []) ∷ []) 1 3)
    ≡ MoveTo 0 3 ∷ p 0x65 ∷ MoveTo 1 1 ∷ EraseChars 1 ∷ []
unfolding difference_in script_in rows_written rows_below row_written cells_written row_link row_break
    cursor_written over_blank under_last move_ops attr_ops_in same_cell same_attrs same_color
skips = refl

-- Erasing a wide character clears the wrapped flag, so the difference links the rows again.
relinks : difference (at 4 (wrapped_row (g 0x61 ∷ g 0x62 ∷ b ∷ g 0x64 ∷ []) ∷ x_row ∷ []) 0 4)
    (at 4 (wrapped_row (g 0x61 ∷ g 0x62 ∷ wide ∷ right_half ∷ []) ∷ x_row ∷ []) 1 1)
    ≡ MoveTo 0 2 ∷ EraseChars 1 ∷ MoveRight 1 ∷ p 0x64 ∷ p 0x78 ∷ MoveTo 0 3 ∷ p 0x64 ∷ []
unfolding difference_in script_in rows_written rows_below row_written cells_written row_link row_break
    cursor_written over_blank under_last move_ops attr_ops_in same_cell same_attrs same_color
relinks = refl

moves : difference (at 4 (row (g 0x61 ∷ g 0x62 ∷ b ∷ b ∷ []) ∷ none ∷ []) 1 0)
    (at 4 (row (g 0x61 ∷ g 0x62 ∷ b ∷ b ∷ []) ∷ none ∷ []) 0 2)
    ≡ NextRow ∷ []
unfolding difference_in script_in rows_written rows_below row_written cells_written row_link row_break
    cursor_written over_blank under_last move_ops attr_ops_in same_cell same_attrs same_color
moves = refl

hides : difference (record (at 4 (none ∷ []) 0 2) { hidden = true }) (at 4 (none ∷ []) 0 2) ≡ Hide true ∷ []
unfolding difference_in script_in rows_written rows_below row_written cells_written row_link row_break
    cursor_written over_blank under_last move_ops attr_ops_in same_cell same_attrs same_color
hides = refl

emboldens : difference (record (at 4 (none ∷ []) 0 2) { attrs = record default_attrs { intensity = Bold } })
    (at 4 (none ∷ []) 0 2)
    ≡ ChangeAttrs default_attrs (record default_attrs { intensity = Bold }) ∷ []
unfolding difference_in script_in rows_written rows_below row_written cells_written row_link row_break
    cursor_written over_blank under_last move_ops attr_ops_in same_cell same_attrs same_color
emboldens = refl

erases : difference (at 6 (row (g 0x61 ∷ b ∷ b ∷ g 0x64 ∷ g 0x65 ∷ g 0x66 ∷ []) ∷ []) 0 1)
    (at 6 (row (g 0x61 ∷ g 0x62 ∷ g 0x63 ∷ g 0x64 ∷ g 0x65 ∷ g 0x66 ∷ []) ∷ []) 0 6)
    ≡ MoveTo 0 1 ∷ EraseChars 2 ∷ []
unfolding difference_in script_in rows_written rows_below row_written cells_written row_link row_break
    cursor_written over_blank under_last move_ops attr_ops_in same_cell same_attrs same_color
erases = refl

-- A break and a link after a wide last glyph of a row.
wide_breaks : difference (at 4 (row (g 0x61 ∷ g 0x62 ∷ wide ∷ right_half ∷ []) ∷ x_row ∷ []) 1 1)
    (at 4 (wrapped_row (g 0x61 ∷ g 0x62 ∷ wide ∷ right_half ∷ []) ∷ x_row ∷ []) 1 1)
    ≡ MoveTo 0 2 ∷ EraseChars 1 ∷ Print middle ∷ MoveTo 1 1 ∷ []
unfolding difference_in script_in rows_written rows_below row_written cells_written row_link row_break
    cursor_written over_blank under_last move_ops attr_ops_in same_cell same_attrs same_color
wide_breaks = refl

wide_links : difference (at 4 (wrapped_row (g 0x61 ∷ g 0x62 ∷ wide ∷ right_half ∷ []) ∷ x_row ∷ []) 1 1)
    (at 4 (row (g 0x61 ∷ g 0x62 ∷ wide ∷ right_half ∷ []) ∷ x_row ∷ []) 1 1)
    ≡ MoveTo 0 2 ∷ Print middle ∷ p 0x78 ∷ []
unfolding difference_in script_in rows_written rows_below row_written cells_written row_link row_break
    cursor_written over_blank under_last move_ops attr_ops_in same_cell same_attrs same_color
wide_links = refl

-- A difference in which a glyph that U+FE0F makes wide replaces two narrow glyphs.
widens : difference (at 5 (row (g 0x61 ∷ glyph heart true default_attrs ∷ right_half ∷ g 0x78 ∷ g 0x65 ∷ []) ∷ []) 0 5)
    (at 5 (row (g 0x61 ∷ g 0x62 ∷ g 0x63 ∷ g 0x64 ∷ g 0x65 ∷ []) ∷ []) 0 5)
    ≡ MoveTo 0 1 ∷ Print heart ∷ p 0x78 ∷ p 0x65 ∷ []
unfolding difference_in script_in rows_written rows_below row_written cells_written row_link row_break
    cursor_written over_blank under_last move_ops attr_ops_in same_cell same_attrs same_color
widens = refl

-- A difference on a screen of one column.
one_column : difference (at 1 (wrapped_row (g 0x61 ∷ []) ∷ row (b ∷ []) ∷ row (g 0x63 ∷ []) ∷ []) 1 0)
    (at 1 (row (g 0x61 ∷ []) ∷ wrapped_row (g 0x62 ∷ []) ∷ row (g 0x63 ∷ []) ∷ []) 2 1)
    ≡ MoveTo 0 0 ∷ p 0x61 ∷ p 0x20 ∷ Backspace ∷ EraseChars 1 ∷ []
unfolding difference_in script_in rows_written rows_below row_written cells_written row_link row_break
    cursor_written over_blank under_last move_ops attr_ops_in same_cell same_attrs same_color
one_column = refl

-- The difference that displays one more row of scrollback above the page's rows.
scrolls_back : difference (at 4 (row (g 0x61 ∷ b ∷ b ∷ b ∷ []) ∷ row (g 0x62 ∷ b ∷ b ∷ b ∷ []) ∷ []) 1 1)
    (at 4 (row (g 0x62 ∷ b ∷ b ∷ b ∷ []) ∷ row (g 0x63 ∷ b ∷ b ∷ b ∷ []) ∷ []) 1 1)
    ≡ MoveTo 0 0 ∷ p 0x61 ∷ NextRow ∷ p 0x62 ∷ []
unfolding difference_in script_in rows_written rows_below row_written cells_written row_link row_break
    cursor_written over_blank under_last move_ops attr_ops_in same_cell same_attrs same_color
scrolls_back = refl

-- ---- the cursor alone

state_wide : cursor_state (at 4 (row (g 0x61 ∷ g 0x62 ∷ wide ∷ right_half ∷ []) ∷ none ∷ []) 0 4)
    ≡ Hide false ∷ MoveTo 0 2 ∷ Print middle ∷ []
unfolding cursor_state attr_ops_in same_attrs same_color
state_wide = refl

state_red : cursor_state (at 4 (row (g 0x61 ∷ g 0x62 ∷ g 0x63 ∷ glyph (0x64 ∷ []) false red ∷ []) ∷ none ∷ []) 0 4)
    ≡ Hide false ∷ MoveTo 0 3 ∷ ChangeAttrs default_attrs red ∷ p 0x64 ∷ ChangeAttrs red default_attrs ∷ []
unfolding cursor_state attr_ops_in same_attrs same_color
state_red = refl

state_home : cursor_state (at 4 (none ∷ none ∷ []) 0 0) ≡ Hide false ∷ MoveTo 0 0 ∷ []
unfolding cursor_state
state_home = refl

-- ---- single rows

-- The output that draws two columns of a row.
two_columns : (item_of_redraw 0 1 3 false (row abcd)).ops ≡ p 0x62 ∷ p 0x63 ∷ []
unfolding cells_written move_ops attr_ops_in same_cell same_attrs same_color
two_columns = refl

-- A difference of one row in which a glyph replaces the continuation cell of a wide character.
one_row : (item_of_difference 0 0 4 (wrapped_row (g 0x61 ∷ g 0x62 ∷ b ∷ g 0x64 ∷ []))
    (wrapped_row (g 0x61 ∷ g 0x62 ∷ wide ∷ right_half ∷ []))).ops
    ≡ MoveRight 2 ∷ EraseChars 1 ∷ MoveRight 1 ∷ p 0x64 ∷ []
unfolding cells_written row_break move_ops attr_ops_in same_cell same_attrs same_color
one_row = refl

same_row : (item_of_difference 1 0 4 x_row x_row).ops ≡ []
unfolding cells_written row_break move_ops attr_ops_in same_cell same_attrs same_color
same_row = refl
