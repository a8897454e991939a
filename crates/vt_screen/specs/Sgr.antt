-- The interpretation of SGR, one group (a parameter with its subparameters) at a time (ECMA-48, and xterm for extended
-- colors). A group sets an attribute, begins or continues an extended color, or is unknown.
use Rattle.std.specs.Prelude.{ℕ, ◌-◌, ◌==◌, ◌&&◌, nat_lt, true, false, List, [], ◌∷◌, if◌then◌else◌}
use Rattle.vt_cells.specs.Attrs.{default_attrs, Attrs}
use Rattle.vt_cells.specs.declared.attrs.Intensity.TheVariants.{Normal, Bold, Dim}
use Rattle.vt_cells.specs.declared.color.Color.{Color}
use Rattle.vt_cells.specs.declared.color.Color.TheVariants.{Default, Idx, Rgb}
use Rattle.vt_scan.specs.Characters.{is_within}
use Rattle.vt_screen.specs.declared.sgr.Setting.{Setting}
use Rattle.vt_screen.specs.declared.sgr.Setting.TheVariants.{Reset, Foreground, Background, Strength}
use Rattle.vt_screen.specs.declared.sgr.Setting.TheVariants.{Italic, Underline, Inverse}
use Rattle.vt_screen.specs.declared.sgr.Layer.{Layer}
use Rattle.vt_screen.specs.declared.sgr.Layer.TheVariants.{Front, Back}
use Rattle.vt_screen.specs.declared.sgr.Wanted.{Wanted}
use Rattle.vt_screen.specs.declared.sgr.Wanted.TheVariants.{Any, Form, Index, Red, Green, Blue, Stopped}
pub use Rattle.vt_screen.specs.declared.sgr.GroupRead.{GroupRead}
use Rattle.vt_screen.specs.declared.sgr.Reading.TheVariants.{Silent, Set, Unhandled}

-- The attributes after an SGR setting is applied.
abbrev pub attrs_after_setting : Setting → Attrs → Attrs
attrs_after_setting Reset attrs = default_attrs
attrs_after_setting (Foreground color) attrs = record attrs { fgcolor = color }
attrs_after_setting (Background color) attrs = record attrs { bgcolor = color }
attrs_after_setting (Strength intensity) attrs = record attrs { intensity = intensity }
attrs_after_setting (Italic on) attrs = record attrs { italic = on }
attrs_after_setting (Underline on) attrs = record attrs { underline = on }
attrs_after_setting (Inverse on) attrs = record attrs { inverse = on }

abbrev pub color_setting : Layer → Color → Setting
color_setting Front color = Foreground color
color_setting Back color = Background color

abbrev pub silent_read : Wanted → GroupRead
silent_read wanted = record { reading = Silent; wanted = wanted }

abbrev pub set : Setting → GroupRead
set setting = record { reading = Set setting; wanted = Any }

-- The interpretation of an SGR parameter without subparameters: a setting, the beginning of an extended color, or
-- unknown.
unfoldable pub number_read : ℕ → GroupRead
number_read n =
    if n == 0 then set Reset
    else if n == 1 then set (Strength Bold)
    else if n == 2 then set (Strength Dim)
    else if n == 22 then set (Strength Normal)
    else if n == 3 then set (Italic true)
    else if n == 23 then set (Italic false)
    else if n == 4 then set (Underline true)
    else if n == 24 then set (Underline false)
    else if n == 7 then set (Inverse true)
    else if n == 27 then set (Inverse false)
    else if is_within 30 37 n then set (Foreground (Idx (n - 30)))
    else if n == 38 then silent_read (Form Front)
    else if n == 39 then set (Foreground Default)
    else if is_within 40 47 n then set (Background (Idx (n - 40)))
    else if n == 48 then silent_read (Form Back)
    else if n == 49 then set (Background Default)
    else if is_within 90 97 n then set (Foreground (Idx (n - 82)))
    else if is_within 100 107 n then set (Background (Idx (n - 92)))
    else record { reading = Unhandled; wanted = Any }

-- The interpretation of an RGB color given by a single SGR parameter with subparameters. If a component is above 255,
-- the rest of the sequence is ignored.
unfoldable pub rgb_read : Layer → ℕ → ℕ → ℕ → GroupRead
rgb_read layer r g b =
    if nat_lt r 256 && (nat_lt g 256 && nat_lt b 256) then set (color_setting layer (Rgb r g b)) else silent_read Stopped

-- The interpretation of a palette index given by a single SGR parameter with subparameters. If the index is above 255,
-- the rest of the sequence is ignored.
unfoldable pub index_read : Layer → ℕ → GroupRead
index_read layer i = if nat_lt i 256 then set (color_setting layer (Idx i)) else silent_read Stopped

abbrev pub unhandled_read : GroupRead
unhandled_read = record { reading = Unhandled; wanted = Any }

-- The interpretation of an SGR parameter of three numbers, which sets a palette color if the second number, `form`, is
-- 5 and is unknown otherwise.
abbrev pub three_read : Layer → ℕ → ℕ → GroupRead
three_read layer form i = if form == 5 then index_read layer i else unhandled_read

-- The interpretation of an SGR parameter of five numbers, which sets an RGB color if the second number, `form`, is 2
-- and is unknown otherwise.
abbrev pub five_read : Layer → ℕ → ℕ → ℕ → ℕ → GroupRead
five_read layer form r g b = if form == 2 then rgb_read layer r g b else unhandled_read

-- The interpretation of an SGR parameter with its subparameters, if it does not continue an extended color.
unfoldable pub setting_read : List ℕ → GroupRead
setting_read (n ∷ []) = number_read n
setting_read (n ∷ form ∷ i ∷ []) =
    if n == 38 then three_read Front form i else if n == 48 then three_read Back form i else unhandled_read
setting_read (n ∷ form ∷ r ∷ g ∷ b ∷ []) =
    if n == 38 then five_read Front form r g b else if n == 48 then five_read Back form r g b else unhandled_read
setting_read _ = unhandled_read

-- The interpretation of an SGR parameter as the format of an extended color, which is the single number 2 (RGB) or 5
-- (palette). Any other parameter is reported as unhandled, and the rest of the sequence is ignored.
unfoldable pub form_read : Layer → List ℕ → GroupRead
form_read layer (n ∷ []) =
    if n == 2 then silent_read (Red layer)
    else if n == 5 then silent_read (Index layer)
    else record { reading = Unhandled; wanted = Stopped }
form_read layer _ = record { reading = Unhandled; wanted = Stopped }

-- The interpretation of an SGR parameter as a palette index or an RGB component: a single number up to 255 is passed to
-- the given function. After any other parameter, the rest of the sequence is ignored.
abbrev pub part_read : List ℕ → (ℕ → GroupRead) → GroupRead
part_read (n ∷ []) next = if nat_lt n 256 then next n else silent_read Stopped
part_read _ next = silent_read Stopped

-- The interpretation of an SGR parameter with its subparameters, given which part of an extended color, if any, must
-- come next.
unfoldable pub group_read : Wanted → List ℕ → GroupRead
group_read Any group = setting_read group
group_read (Form layer) group = form_read layer group
group_read (Index layer) group = part_read group (λ i. set (color_setting layer (Idx i)))
group_read (Red layer) group = part_read group (λ r. silent_read (Green layer r))
group_read (Green layer r) group = part_read group (λ g. silent_read (Blue layer r g))
group_read (Blue layer r g) group = part_read group (λ b. set (color_setting layer (Rgb r g b)))
group_read Stopped group = silent_read Stopped
