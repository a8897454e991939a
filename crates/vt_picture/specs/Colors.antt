-- The RGB values of cell colors: those of xterm's palette, and of the two default colors.
use Rattle.std.specs.Prelude.{ℕ, List, [], ◌∷◌, ◌-◌, ◌+◌, ◌*◌, ◌/◌, ◌%◌, ◌==◌, if◌then◌else◌, nat_lt, slice_index_or}
use Rattle.vt_cells.specs.declared.color.Color.{Color}
use Rattle.vt_cells.specs.declared.color.Color.TheVariants as color
use Rattle.vt_picture.specs.declared.color.Rgb.{Rgb}

abbrev pub rgb : (red green blue : ℕ) → Rgb
rgb red green blue = record { 0 = red; 1 = green; 2 = blue }

abbrev pub default_foreground : Rgb
default_foreground = rgb 0xe5 0xe5 0xe5

abbrev pub default_background : Rgb
default_background = rgb 0 0 0

-- The first 16 colors of the palette: black, red, green, yellow, blue, magenta, cyan and white, and then brighter ones.
abbrev pub named_colors : List Rgb
named_colors =
    rgb 0 0 0 ∷ rgb 0xcd 0 0 ∷ rgb 0 0xcd 0 ∷ rgb 0xcd 0xcd 0
    ∷ rgb 0 0 0xee ∷ rgb 0xcd 0 0xcd ∷ rgb 0 0xcd 0xcd ∷ rgb 0xe5 0xe5 0xe5
    ∷ rgb 0x7f 0x7f 0x7f ∷ rgb 0xff 0 0 ∷ rgb 0 0xff 0 ∷ rgb 0xff 0xff 0
    ∷ rgb 0x5c 0x5c 0xff ∷ rgb 0xff 0 0xff ∷ rgb 0 0xff 0xff ∷ rgb 0xff 0xff 0xff ∷ []

-- The brightness of a step, from 0 to 5, of the palette's color cube.
abbrev pub level_of : ℕ → ℕ
level_of step = if step == 0 then 0 else 55 + 40 * step

-- The color at an index, from 0 to 215, of the palette's color cube, in which blue changes fastest.
abbrev pub cube_color : ℕ → Rgb
cube_color place = rgb (level_of (place / 36)) (level_of (place / 6 % 6)) (level_of (place % 6))

-- The gray at an index, from 0 to 23, of the palette's grays.
abbrev pub gray_color : ℕ → Rgb
gray_color place = rgb (8 + 10 * place) (8 + 10 * place) (8 + 10 * place)

unfoldable pub palette_color : ℕ → Rgb
palette_color index =
    if nat_lt index 16 then slice_index_or named_colors index default_background
    else if nat_lt index 232 then cube_color (index - 16)
    else gray_color (index - 232)

-- The RGB value of a cell's color, given that of the default color.
abbrev pub rgb_of : (default : Rgb) → Color → Rgb
rgb_of default color.Default = default
rgb_of default (color.Idx index) = palette_color index
rgb_of default (color.Rgb red green blue) = rgb red green blue

-- The color halfway between two colors, with each component rounded down.
abbrev pub middle_color : Rgb → Rgb → Rgb
middle_color one other = rgb ((one.0 + other.0) / 2) ((one.1 + other.1) / 2) ((one.2 + other.2) / 2)
