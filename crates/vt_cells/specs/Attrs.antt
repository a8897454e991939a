-- Text attributes: the six components that SGR sets (ECMA-48).
use Rattle.std.specs.Prelude.{Bool, true, false, not, ◌&&◌, ◌==◌, if◌then◌else◌}
use Rattle.vt_cells.specs.declared.attrs.Intensity.{Intensity}
use Rattle.vt_cells.specs.declared.attrs.Intensity.TheVariants.{Normal, Bold, Dim}
use Rattle.vt_cells.specs.declared.color.Color.{Color}
use Rattle.vt_cells.specs.declared.color.Color.TheVariants as color

-- The text attributes of a cell.
pub record Attrs : Type 0 where
  pub fgcolor : Color
  pub bgcolor : Color
  pub intensity : Intensity
  pub italic : Bool
  pub underline : Bool
  pub inverse : Bool

-- The attributes of a new screen: default colors, normal intensity, and no italics, underline or inverse video.
abbrev pub default_attrs : Attrs
default_attrs = record {
  fgcolor = color.Default;
  bgcolor = color.Default;
  intensity = Normal;
  italic = false;
  underline = false;
  inverse = false;
}

-- The two intensities are equal.
abbrev pub same_intensity : Intensity → Intensity → Bool
same_intensity Normal Normal = true
same_intensity Bold Bold = true
same_intensity Dim Dim = true
same_intensity _ _ = false

-- The intensity of the attributes is bold.
abbrev pub is_bold : Attrs → Bool
is_bold attrs = same_intensity attrs.intensity Bold

-- The intensity of the attributes is dim.
abbrev pub is_dim : Attrs → Bool
is_dim attrs = same_intensity attrs.intensity Dim

-- The two colors are equal.
unfoldable pub same_color : Color → Color → Bool
same_color color.Default color.Default = true
same_color (color.Idx i) (color.Idx j) = i == j
same_color (color.Rgb r g b) (color.Rgb s h c) = (r == s) && ((g == h) && (b == c))
same_color _ _ = false

-- The two Boolean values are equal.
abbrev pub same_bool : Bool → Bool → Bool
same_bool true b = b
same_bool false b = not b

-- The two sets of attributes are equal in all six components.
unfoldable pub same_attrs : Attrs → Attrs → Bool
same_attrs a b =
    same_color a.fgcolor b.fgcolor && (same_color a.bgcolor b.bgcolor && (same_intensity a.intensity b.intensity
    && (same_bool a.italic b.italic && (same_bool a.underline b.underline && same_bool a.inverse b.inverse))))

-- `changed_attrs was new attrs` is what a terminal's attributes `attrs` become when the terminal reads the SGR sequence
-- that changes `was` to `new`. If `was` and `new` are equal, nothing changes; if `new` is the default, all attributes
-- become the defaults. Otherwise, each component in which `was` and `new` differ is taken from `new`.
unfoldable pub changed_attrs : Attrs → Attrs → Attrs → Attrs
changed_attrs was new attrs =
    if same_attrs was new then attrs
    else if same_attrs new default_attrs then default_attrs
    else record {
      fgcolor = if same_color was.fgcolor new.fgcolor then attrs.fgcolor else new.fgcolor;
      bgcolor = if same_color was.bgcolor new.bgcolor then attrs.bgcolor else new.bgcolor;
      intensity = if same_intensity was.intensity new.intensity then attrs.intensity else new.intensity;
      italic = if same_bool was.italic new.italic then attrs.italic else new.italic;
      underline = if same_bool was.underline new.underline then attrs.underline else new.underline;
      inverse = if same_bool was.inverse new.inverse then attrs.inverse else new.inverse;
    }
