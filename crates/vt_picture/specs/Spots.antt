-- The colors, the style and the position of a glyph or a blank.
use Rattle.std.specs.Prelude.{◌≡◌, ◌==◌, ◌&&◌, ◌||◌, ◌+◌, ◌-◌, ◌*◌, ℕ, nat_le, nat_lt, min, max, Bool, true, false, not}
use Rattle.std.specs.Prelude.{List, [], ◌∷◌, length, bytes_eq, if◌then◌else◌}
use Rattle.vt_cells.specs.Attrs.{Attrs, is_bold, is_dim}
use Rattle.vt_cells.specs.Cell.{CellValue, attrs_of, is_wide}
use Rattle.vt_cells.specs.declared.modes.CursorStyle.{CursorStyle}
use Rattle.vt_cells.specs.declared.modes.CursorStyle.TheVariants as style
use Rattle.vt_picture.specs.Colors.{rgb_of, middle_color, default_foreground, default_background}
use Rattle.vt_picture.specs.declared.color.Rgb.{Rgb}
use Rattle.vt_picture.specs.declared.spot.Paint.{Paint}
use Rattle.vt_picture.specs.declared.spot.Spot.{Spot}
use Rattle.vt_picture.specs.declared.spot.Mark.{Mark}
use Rattle.vt_picture.specs.declared.spot.Mark.TheVariants.{Block, Underline, Bar}
use Rattle.vt_screen.specs.Screen.{ScreenValue}

abbrev pub foreground_of : Attrs → Rgb
foreground_of attrs = rgb_of default_foreground attrs.fgcolor

abbrev pub background_of : Attrs → Rgb
background_of attrs = rgb_of default_background attrs.bgcolor

-- The color under a glyph: its background color, or its foreground color in inverse video.
abbrev pub paper_of : Attrs → Rgb
paper_of attrs = if attrs.inverse then foreground_of attrs else background_of attrs

-- The color of a glyph that is not dim.
abbrev pub full_ink_of : Attrs → Rgb
full_ink_of attrs = if attrs.inverse then background_of attrs else foreground_of attrs

-- The color of a glyph. That of dim text is halfway to the color under it.
abbrev pub ink_of : Attrs → Rgb
ink_of attrs = if is_dim attrs then middle_color (full_ink_of attrs) (paper_of attrs) else full_ink_of attrs

abbrev pub paint_of : Attrs → Paint
paint_of attrs =
    record {
      ink = ink_of attrs;
      paper = paper_of attrs;
      bold = is_bold attrs;
      italic = attrs.italic;
      underline = attrs.underline;
    }

abbrev pub inverted_paint : Paint → Paint
inverted_paint paint = record paint { ink = paint.paper; paper = paint.ink }

-- The text has no ink: it is empty or a space.
abbrev pub has_no_ink : List ℕ → Bool
has_no_ink text = length text == 0 || bytes_eq text (0x20 ∷ [])

-- A glyph of `cols` columns that begins in column `start` covers a column.
abbrev pub covers_column : (start cols column : ℕ) → Bool
covers_column start cols column = nat_le start column && nat_lt column (start + cols)

-- The marking for a cursor style, which is the same for a blinking and a steady cursor.
abbrev pub mark_of : CursorStyle → Mark
mark_of style.Default = Block
mark_of style.BlinkBlock = Block
mark_of style.SteadyBlock = Block
mark_of style.BlinkUnderline = Underline
mark_of style.SteadyUnderline = Underline
mark_of style.BlinkVerticalBar = Bar
mark_of style.SteadyVerticalBar = Bar

abbrev pub is_block : Mark → Bool
is_block Block = true
is_block _ = false

-- Whether a visible cursor that is drawn as a block is on a glyph of `cols` columns in column `start` of a row. While a wrap is
-- pending, the cursor is in the last column.
abbrev pub has_block : ScreenValue → (row start cols : ℕ) → Bool
has_block screen row start cols =
    is_block (mark_of screen.modes.cursor_style) && (not screen.hidden && (screen.page.row == row
    && covers_column start cols (min screen.page.column (screen.page.width - 1))))

-- The number of columns of a glyph or a blank.
abbrev pub columns_of : CellValue → ℕ
columns_of cell = if is_wide cell then 2 else 1

-- The colors and the style in which a cell of a screen is drawn.
abbrev pub paint_on : ScreenValue → (row col : ℕ) → CellValue → Paint
paint_on screen row col cell =
    if has_block screen row col (columns_of cell) then inverted_paint (paint_of (attrs_of cell)) else paint_of (attrs_of cell)

-- A position and a width, in SVG units, are those of a run that begins with the spot `first` and ends with the spot `last`,
-- if a column is 9 units wide.
pub record IsExtent (first last : Spot) (extent : ℕ × ℕ) : Type 0 where
  pub left : extent.0 ≡ first.col * 9
  pub right : extent.0 + extent.1 ≡ max first.col (last.col + last.cols) * 9
