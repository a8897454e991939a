-- A small terminal that differs from this project's model wherever real terminals do: the cursor stays in the last
-- column, with DEC's last column flag, after printing there; BS, LF and DECRC clear the flag; bold and dim are both
-- set until they are reset; erased cells show only their background; what is printed over the right half of a wide
-- glyph is lost; halves of a wide glyph that is cut in two become junk; and characters on whose width terminals may
-- disagree take another width.
use Rattle.std.specs.Prelude.{◌≡◌, ℕ, zero, suc, ◌+◌, ◌-◌, ◌<◌, ◌&&◌, ◌||◌, ◌==◌, nat_lt, min, not, Bool, true, false}
use Rattle.std.specs.Prelude.{List, Option, Some, None, if◌then◌else◌, nat_le}
use Rattle.std.specs.Char.{encode_utf8}
use Rattle.vt_cells.specs.Attrs.{Attrs, default_attrs, is_bold, is_dim, same_attrs, same_bool, same_color}
use Rattle.vt_cells.specs.Attrs.{same_intensity}
use Rattle.vt_cells.specs.Cell.{CellValue, blank, glyph, right_half}
use Rattle.vt_cells.specs.Glyph.{columns_of, glyph_columns}
use Rattle.vt_cells.specs.declared.attrs.Intensity.{Intensity}
use Rattle.vt_cells.specs.declared.attrs.Intensity.TheVariants.{Normal, Bold, Dim}
use Rattle.vt_cells.specs.declared.color.Color.{Color}
use Rattle.vt_redraw.specs.Certain.{is_certain}
use Rattle.vt_terminals.specs.Element.{Element, Character, Cup, Cr, Cuf, Bs, Lf, Ed, El, Ech, SgrReset, Sgr, Dectcem}
use Rattle.vt_terminals.specs.Element.{Decsc, Decrc}
use Rattle.vt_terminals.specs.Terminal.{Terminal}

-- Attributes in which bold and dim are independent.
pub record Style : Type 0 where
  pub fg : Color
  pub bg : Color
  pub bold : Bool
  pub dim : Bool
  pub italic : Bool
  pub underline : Bool
  pub inverse : Bool

abbrev pub style_of : Attrs → Style
style_of a = record {
  fg = a.fgcolor;
  bg = a.bgcolor;
  bold = is_bold a;
  dim = is_dim a;
  italic = a.italic;
  underline = a.underline;
  inverse = a.inverse;
}

pub data Square : Type 0 where
  Empty : (background : Color) → Square
  Narrow : (text : List ℕ) → Style → Square
  Wide : (text : List ℕ) → Style → Square
  Right : Square
  Junk : Square

abbrev pub is_right : Square → Bool
is_right Right = true
is_right _ = false

pub record DecState : Type 0 where
  pub squares : (r c : ℕ) → Square
  pub row : ℕ
  pub column : ℕ
  pub flag : Bool
  pub style : Style
  pub hidden : Bool
  pub saved_row : ℕ
  pub saved_column : ℕ
  pub saved_style : Style

-- What is left of a square whose other half is gone.
abbrev pub mended : Square → Square
mended Right = Junk
mended x = x

-- The `n` squares of row `row` that start at column `first` are replaced. What replaces the right half of a wide
-- glyph first is lost.
abbrev pub replaced : (row first n : ℕ) → (ℕ → Square) → ((r c : ℕ) → Square) → (r c : ℕ) → Square
replaced row first n new old r c =
    if not (r == row) then old r c
    else if nat_le first c && nat_lt c (first + n) then
    (if (c == first) && is_right (old r first) then Junk else new (c - first))
    else if c == first + n then mended (old r c)
    else if (c + 1 == first) && is_right (old r first) then Junk
    else old r c

abbrev pub glyph_squares : (text : List ℕ) → (wide : Bool) → Style → ℕ → Square
glyph_squares text false style k = Narrow text style
glyph_squares text true style k = if k == 0 then Wide text style else Right

-- A character is printed at the cursor.
abbrev pub printed_at : (h w : ℕ) (ch : ℕ) → (wide : Bool) → DecState → DecState
printed_at h w ch wide s = record s {
  squares = replaced s.row s.column (glyph_columns wide) (glyph_squares (encode_utf8 ch) wide s.style) s.squares;
  column = if nat_lt (s.column + glyph_columns wide) w then s.column + glyph_columns wide else w - 1;
  flag = not (nat_lt (s.column + glyph_columns wide) w);
}

-- The cursor at the beginning of the next row.
abbrev pub down : DecState → DecState
down s = record s { row = s.row + 1; column = 0; flag = false }

-- Characters on whose width terminals may disagree take another width than on the model: two columns instead of one,
-- one instead of two or none.
abbrev pub other_width : Option ℕ → Option ℕ
other_width None = None
other_width (Some zero) = Some 1
other_width (Some (suc zero)) = Some 2
other_width (Some (suc (suc n))) = Some 1

abbrev pub dec_columns : ℕ → Option ℕ
dec_columns ch = if is_certain ch then columns_of ch else other_width (columns_of ch)

abbrev pub printed_by : (h w ch : ℕ) → Option ℕ → DecState → DecState
printed_by h w ch (Some (suc (suc n))) s = printed_at h w ch true (if s.flag then down s else s)
printed_by h w ch (Some (suc zero)) s = printed_at h w ch false (if s.flag then down s else s)
printed_by h w ch _ s = s

-- The square in place of the erased square `k` of `n`. If this cuts a wide glyph in two, its left half becomes junk.
abbrev pub erased_square : (w n : ℕ) → DecState → ℕ → Square
erased_square w n s k =
    if (k + 1 == n) && (nat_lt (s.column + n) w && is_right (s.squares s.row (s.column + n))) then Junk
    else Empty s.style.bg

abbrev pub erased : (w n : ℕ) → DecState → DecState
erased w n s = record s { squares = replaced s.row s.column n (erased_square w n s) s.squares }

abbrev pub bold_after : (same : Bool) → Intensity → Bool → Bool
bold_after true i b = b
bold_after false Normal b = false
bold_after false Bold b = true
bold_after false Dim b = b

abbrev pub dim_after : (same : Bool) → Intensity → Bool → Bool
dim_after true i b = b
dim_after false Normal b = false
dim_after false Bold b = b
dim_after false Dim b = true

abbrev pub style_after : (was new : Attrs) → Style → Style
style_after was new s =
    if same_attrs new default_attrs then style_of default_attrs
    else record {
      fg = if same_color was.fgcolor new.fgcolor then s.fg else new.fgcolor;
      bg = if same_color was.bgcolor new.bgcolor then s.bg else new.bgcolor;
      bold = bold_after (same_intensity was.intensity new.intensity) new.intensity s.bold;
      dim = dim_after (same_intensity was.intensity new.intensity) new.intensity s.dim;
      italic = if same_bool was.italic new.italic then s.italic else new.italic;
      underline = if same_bool was.underline new.underline then s.underline else new.underline;
      inverse = if same_bool was.inverse new.inverse then s.inverse else new.inverse;
    }

abbrev pub dec_after : (h w : ℕ) → Element → DecState → DecState
dec_after h w (Character ch) s = printed_by h w ch (dec_columns ch) s
dec_after h w (Cup r c) s = record s { row = min r (h - 1); column = min c (w - 1); flag = false }
dec_after h w Cr s = record s { column = 0; flag = false }
dec_after h w (Cuf n) s = record s { column = min (s.column + n) (w - 1); flag = false }
dec_after h w Bs s = record s { column = s.column - 1; flag = false }
dec_after h w Lf s = record s { row = min (s.row + 1) (h - 1); flag = false }
dec_after h w Ed s = record s {
  squares = λ r c. if nat_lt s.row r || ((r == s.row) && nat_le s.column c) then Empty s.style.bg else s.squares r c;
}
dec_after h w El s = erased w (w - s.column) s
dec_after h w (Ech n) s = erased w (min n (w - s.column)) s
dec_after h w SgrReset s = record s { style = style_of default_attrs }
dec_after h w (Sgr was new) s = record s { style = style_after was new s.style }
dec_after h w (Dectcem hidden) s = record s { hidden = hidden }
dec_after h w Decsc s = record s { saved_row = s.row; saved_column = s.column; saved_style = s.style }
dec_after h w Decrc s = record s { row = s.saved_row; column = s.saved_column; flag = false; style = s.saved_style }

abbrev pub square_of : CellValue → Square
square_of (blank a) = Empty a.bgcolor
square_of (glyph text false a) = Narrow text (style_of a)
square_of (glyph text true a) = Wide text (style_of a)
square_of right_half = Right

abbrev pub dec_terminal : (height width : ℕ) → Terminal
dec_terminal h w = record {
  State = DecState;
  height = h;
  width = w;
  Reads = λ element s t. dec_after h w element s ≡ t;
  Shows = λ s r c x. (c < w) × (s.squares r c ≡ square_of x);
  Begins = λ s r c. is_right (s.squares r c) ≡ false;
  IsAt = λ s r c. (s.row ≡ r) × ((s.column ≡ c) × (s.flag ≡ false));
  IsPending = λ s r. (s.row ≡ r) × ((s.column + 1 ≡ w) × (s.flag ≡ true));
  IsAtEnd = λ s r. (s.row ≡ r) × (s.column + 1 ≡ w);
  HasAttrs = λ s a. s.style ≡ style_of a;
  Hides = λ s hidden. s.hidden ≡ hidden;
  HasSaved = λ s r a. (s.saved_row ≡ r) × ((s.saved_column + 1 ≡ w) × (s.saved_style ≡ style_of a));
}
