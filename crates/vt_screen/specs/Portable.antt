-- Output that is portable: read by terminals that agree with the model except where real terminals differ, none of its
-- elements is used in a state in which terminals disagree on its effect.
use Rattle.std.specs.Prelude.{◌==◌, ◌&&◌, ◌||◌, ℕ, Bool, true, false, List, [], ◌∷◌, Option, if◌then◌else◌}
use Rattle.std.specs.List.{flat_map, list_all}
use Rattle.vt_cells.specs.declared.attrs.Intensity.{Intensity}
use Rattle.vt_cells.specs.declared.attrs.Intensity.TheVariants.{Normal}
use Rattle.vt_redraw.specs.Doubts.{Doubts, doubts_of}
use Rattle.vt_redraw.specs.Picture.{Picture}
use Rattle.vt_redraw.specs.Uses.{Use, Graphic, Cup, Cr, Cha, Cuf, Bs, Lf, Ed, El, Ech, Lines, Columns, Rep, Sgr}
use Rattle.vt_redraw.specs.Uses.{Dectcem, Decsc, Decrc, Other, IsPortableUse, doubts_after}
use Rattle.vt_scan.specs.Automaton.{Event, Character, Executed, EscDispatch, CsiDispatch, OscDispatch, start, run}
use Rattle.vt_screen.specs.CallsOfRun.{screen_after_all}
use Rattle.vt_screen.specs.Controls.{number_at, number_or, seen_of, sgr_steps, steps_of}
use Rattle.vt_screen.specs.Screen.{ScreenValue, canvas_of}
use Rattle.vt_redraw.specs.Steady.{IsSteady}
use Rattle.vt_screen.specs.Shown.{IsReader, IsReaderOf, display}
use Rattle.vt_screen.specs.Steps.{Step, Render}
use Rattle.vt_screen.specs.declared.sgr.Setting.TheVariants.{Reset, Strength}

-- ---- the elements of output

-- The intensities that a step of an SGR sequence sets.
abbrev pub intensities_set : Step → List Intensity
intensities_set (Render Reset) = Normal ∷ []
intensities_set (Render (Strength intensity)) = intensity ∷ []
intensities_set _ = []

-- The step sets an attribute.
abbrev pub is_render : Step → Bool
is_render (Render setting) = true
is_render _ = false

-- The element that an SGR sequence with the given parameters is. A sequence with an unknown parameter is `Other`.
abbrev pub sgr_use : List (List ℕ) → Use
sgr_use groups =
    if list_all is_render (sgr_steps groups) then Sgr (flat_map intensities_set (sgr_steps groups)) else Other

-- Each parameter is a single number, without subparameters, which some terminals ignore.
abbrev pub has_single_numbers : List (List ℕ) → Bool
has_single_numbers [] = true
has_single_numbers ([] ∷ groups) = false
has_single_numbers ((n ∷ []) ∷ groups) = has_single_numbers groups
has_single_numbers ((n ∷ m ∷ more) ∷ groups) = false

-- The element that a control sequence with the given parameters and final byte is. It has no private marker or
-- intermediate bytes. `last` is the last printed character.
unfoldable pub csi_use : List (List ℕ) → (final : ℕ) → (last : Option ℕ) → Use
csi_use groups b last =
    if (b == 0x40) || (b == 0x50) then Columns
    else if b == 0x43 then Cuf
    else if b == 0x47 then Cha
    else if b == 0x48 then Cup
    else if b == 0x4A then (if number_at 0 groups == 0 then Ed else Other)
    else if b == 0x4B then (if number_at 0 groups == 0 then El else Other)
    else if (b == 0x4C) || (b == 0x4D) then Lines
    else if b == 0x58 then Ech (number_or 1 0 groups)
    else if b == 0x62 then Rep last (number_or 1 0 groups)
    else if b == 0x6D then sgr_use groups
    else Other

-- The element that a control sequence with the private marker `?` is.
abbrev pub private_use : List (List ℕ) → (final : ℕ) → Use
private_use ((n ∷ []) ∷ []) b = if (n == 25) && ((b == 0x68) || (b == 0x6C)) then Dectcem else Other
private_use _ b = Other

-- The element that a control sequence with the given private marker or intermediate bytes is.
abbrev pub marked_use : List (List ℕ) → (marks : List ℕ) → (final : ℕ) → Use
marked_use groups (mark ∷ []) b = if mark == 0x3F then private_use groups b else Other
marked_use groups _ b = Other

-- The element that a control character is.
unfoldable pub control_use : ℕ → Use
control_use b = if b == 0x08 then Bs else if b == 0x0A then Lf else if b == 0x0D then Cr else Other

-- The element that an escape sequence without intermediate bytes is.
unfoldable pub escape_use : ℕ → Use
escape_use b = if b == 0x37 then Decsc else if b == 0x38 then Decrc else Other

-- The element that an event is, on a terminal with the given screen.
abbrev pub use_of : Event → ScreenValue → Use
use_of (Character c) screen = if c == 0xFFFD then Other else Graphic c
use_of (Executed b) screen = control_use b
use_of (EscDispatch [] b) screen = escape_use b
use_of (EscDispatch (intermediate ∷ intermediates) b) screen = Other
use_of (CsiDispatch groups [] b) screen = if has_single_numbers groups then csi_use groups b screen.last else Other
use_of (CsiDispatch groups (mark ∷ marks) b) screen = marked_use groups (mark ∷ marks) b
use_of (OscDispatch parts) screen = Other

-- ---- portable output

-- Terminals that differ as the doubts say, and otherwise have the given screen, agree on the effect of each event.
abbrev pub PortableEvents : List Event → Doubts → ScreenValue → Type 0
PortableEvents [] doubts screen = Unit {0}
PortableEvents (event ∷ events) doubts screen =
    IsPortableUse (use_of event screen) doubts (canvas_of screen)
    × PortableEvents events (doubts_after (use_of event screen) doubts (canvas_of screen))
    (screen_after_all (steps_of event (seen_of screen)) screen)

-- In what terminals differ after the events.
abbrev pub doubts_after_all : List Event → Doubts → ScreenValue → Doubts
doubts_after_all [] doubts screen = doubts
doubts_after_all (event ∷ events) doubts screen =
    doubts_after_all events (doubts_after (use_of event screen) doubts (canvas_of screen))
    (screen_after_all (steps_of event (seen_of screen)) screen)

-- Terminals in ground state that differ as the doubts say, and otherwise have the given screen, agree on the effect of
-- each element of the output.
abbrev pub ReadsAgreed : List ℕ → Doubts → ScreenValue → Type 0
ReadsAgreed text doubts screen = PortableEvents (run start text).events doubts screen

-- In what terminals in ground state differ after they have read the output.
abbrev pub doubts_after_output : List ℕ → Doubts → ScreenValue → Doubts
doubts_after_output text doubts screen = doubts_after_all (run start text).events doubts screen

-- While a plain terminal that displays the picture `prev`, which has the size of `self`, reads the output, no element is
-- used in a state in which terminals disagree on its effect.
abbrev pub IsPortable : (self prev : Picture) → List ℕ → Type 0
IsPortable self prev text =
    (reader : ScreenValue) → IsReaderOf self prev reader → PortableEvents (run start text).events (doubts_of prev) reader

-- While a plain terminal of the picture's size reads the output, no element is used in a state in which terminals
-- disagree on its effect, whatever they differ in before.
abbrev pub IsPortableRedraw : Picture → List ℕ → Type 0
IsPortableRedraw self text =
    (reader : ScreenValue) (doubts : Doubts) → IsReader self reader → PortableEvents (run start text).events doubts reader

-- If the picture of `new` is steady, the output is portable on terminals that display the picture of `was`.
abbrev pub IsPortableFrom : (was new : ScreenValue) → List ℕ → Type 0
IsPortableFrom was new text = IsSteady (display new) → IsPortable (display new) (display was) text

-- If the picture of the screen is steady, the output is portable, whatever terminals display and differ in before.
abbrev pub IsPortableAnywhere : ScreenValue → List ℕ → Type 0
IsPortableAnywhere screen text = IsSteady (display screen) → IsPortableRedraw (display screen) text
