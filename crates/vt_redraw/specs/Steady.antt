-- Steady pictures: every glyph reproduces itself when its characters are printed.
use Rattle.std.specs.Prelude.{◌≡◌, ℕ, Bool, false, List, ◌++◌, length, Some, All, chars}
use Rattle.std.specs.Char.{encode_utf8}
use Rattle.std.specs.List.{list_any}
use Rattle.vt_cells.specs.Attrs.{default_attrs, Attrs}
use Rattle.vt_cells.specs.Cell.{CellValue, blank, glyph, right_half}
use Rattle.vt_cells.specs.Glyph.{is_selector}
use Rattle.vt_grid.specs.Page.{blank_page}
use Rattle.vt_grid.specs.Printing.{glyph_put}
use Rattle.vt_grid.specs.Canvas.{Canvas, drawn_text}
use Rattle.vt_redraw.specs.Picture.{Picture, IsPicture}

-- A canvas of one blank row, with the cursor in the first column and the given attributes.
abbrev pub blank_line : ℕ → Attrs → Canvas
blank_line width attrs =
    record { page = blank_page 1 width; attrs = attrs; saved_attrs = default_attrs; hidden = false }

-- Printing the characters of a glyph's text on a blank row produces exactly that glyph at the beginning of the row,
-- with the cursor after it.
abbrev pub IsSteadyGlyph : ℕ → List ℕ → Bool → Attrs → Type 0
IsSteadyGlyph width text wide attrs =
    drawn_text (chars text) (blank_line width attrs)
    ≡ Some (record (blank_line width attrs) { page = glyph_put text wide attrs (blank_page 1 width) })

abbrev pub IsSteadyCell : ℕ → CellValue → Type 0
IsSteadyCell width (glyph text wide attrs) = IsSteadyGlyph width text wide attrs
IsSteadyCell width (blank attrs) = Unit {0}
IsSteadyCell width right_half = Unit {0}

abbrev pub IsSteady : Picture → Type 0
IsSteady picture = All (λ row. All (IsSteadyCell picture.width) row.cells) picture.rows

-- The picture is valid, steady, and of the given width and height.
pub record IsOfSize (width height : ℕ) (picture : Picture) : Type 0 where
  pub is : IsPicture picture
  pub steady : IsSteady picture
  pub columns : picture.width ≡ width
  pub tall : length picture.rows ≡ height

-- ---- pictures known to be steady

-- Whether a cell's text contains U+FE0F, which requests emoji presentation (Unicode, Variation Sequences).
abbrev pub has_selector : CellValue → Bool
has_selector (glyph text wide attrs) = list_any is_selector (chars text)
has_selector (blank attrs) = false
has_selector right_half = false

abbrev pub HasNoSelector : Picture → Type 0
HasNoSelector picture = All (λ row. All (λ cell. has_selector cell ≡ false) row.cells) picture.rows

-- The text of a heart emoji: U+2764 followed by U+FE0F.
abbrev pub heart_text : List ℕ
heart_text = encode_utf8 0x2764 ++ encode_utf8 0xFE0F
