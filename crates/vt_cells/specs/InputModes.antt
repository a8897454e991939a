-- The escape sequences that set input modes and the cursor style.
use Rattle.std.specs.Prelude.{ℕ, Bool, true, false, List, [], ◌∷◌, codes, if◌then◌else◌}
use Rattle.vt_cells.specs.Op.{csi}
use Rattle.vt_cells.specs.declared.modes.CursorStyle.{CursorStyle}
use Rattle.vt_cells.specs.declared.modes.CursorStyle.TheVariants as style
use Rattle.vt_cells.specs.declared.modes.MouseProtocolEncoding.{MouseProtocolEncoding}
use Rattle.vt_cells.specs.declared.modes.MouseProtocolEncoding.TheVariants as encoding
use Rattle.vt_cells.specs.declared.modes.MouseProtocolMode.{MouseProtocolMode}
use Rattle.vt_cells.specs.declared.modes.MouseProtocolMode.TheVariants as mouse

-- The sequence that selects application keypad mode (DECKPAM) if the flag is set, and numeric keypad mode (DECKPNM)
-- otherwise.
abbrev pub keypad_text : Bool → List ℕ
keypad_text true = 0x1B ∷ codes "="
keypad_text false = 0x1B ∷ codes ">"

-- The sequence that sets a private mode, given by its decimal digits (DECSET).
abbrev pub mode_set : List ℕ → List ℕ
mode_set digits = csi (0x3F ∷ digits) 0x68

-- The sequence that resets a private mode, given by its decimal digits (DECRST).
abbrev pub mode_reset : List ℕ → List ℕ
mode_reset digits = csi (0x3F ∷ digits) 0x6C

-- The sequence that sets application cursor keys mode (DECCKM) if the flag is set, and resets the mode otherwise.
abbrev pub application_cursor_text : Bool → List ℕ
application_cursor_text on = if on then mode_set (codes "1") else mode_reset (codes "1")

-- The sequence that sets bracketed paste mode (xterm) if the flag is set, and resets the mode otherwise.
abbrev pub bracketed_paste_text : Bool → List ℕ
bracketed_paste_text on = if on then mode_set (codes "2004") else mode_reset (codes "2004")

-- The number of xterm's private mode for a mouse reporting mode, in decimal digits; empty for `None`.
abbrev pub mouse_mode_digits : MouseProtocolMode → List ℕ
mouse_mode_digits mouse.None = []
mouse_mode_digits mouse.Press = codes "9"
mouse_mode_digits mouse.PressRelease = codes "1000"
mouse_mode_digits mouse.ButtonMotion = codes "1002"
mouse_mode_digits mouse.AnyMotion = codes "1003"

-- The sequence that changes the mouse reporting mode. It is empty if the two modes are equal, resets the old mode if
-- the new one is `None`, and sets the new mode otherwise.
abbrev pub mouse_mode_change : MouseProtocolMode → MouseProtocolMode → List ℕ
mouse_mode_change mouse.None mouse.None = []
mouse_mode_change mouse.Press mouse.Press = []
mouse_mode_change mouse.PressRelease mouse.PressRelease = []
mouse_mode_change mouse.ButtonMotion mouse.ButtonMotion = []
mouse_mode_change mouse.AnyMotion mouse.AnyMotion = []
mouse_mode_change was mouse.None = mode_reset (mouse_mode_digits was)
mouse_mode_change was new = mode_set (mouse_mode_digits new)

-- The number of xterm's private mode for an encoding of mouse events, in decimal digits; empty for the default.
abbrev pub mouse_encoding_digits : MouseProtocolEncoding → List ℕ
mouse_encoding_digits encoding.Default = []
mouse_encoding_digits encoding.Utf8 = codes "1005"
mouse_encoding_digits encoding.Sgr = codes "1006"

-- The sequence that changes the mouse encoding. It is empty if the two encodings are equal, resets the old encoding
-- if the new one is the default, and sets the new encoding otherwise.
abbrev pub mouse_encoding_change : MouseProtocolEncoding → MouseProtocolEncoding → List ℕ
mouse_encoding_change encoding.Default encoding.Default = []
mouse_encoding_change encoding.Utf8 encoding.Utf8 = []
mouse_encoding_change encoding.Sgr encoding.Sgr = []
mouse_encoding_change was encoding.Default = mode_reset (mouse_encoding_digits was)
mouse_encoding_change was new = mode_set (mouse_encoding_digits new)

-- The DECSCUSR parameter, as an ASCII digit, for a cursor style.
abbrev pub cursor_style_digit : CursorStyle → ℕ
cursor_style_digit style.Default = 0x30
cursor_style_digit style.BlinkBlock = 0x31
cursor_style_digit style.SteadyBlock = 0x32
cursor_style_digit style.BlinkUnderline = 0x33
cursor_style_digit style.SteadyUnderline = 0x34
cursor_style_digit style.BlinkVerticalBar = 0x35
cursor_style_digit style.SteadyVerticalBar = 0x36

-- The sequence that sets the cursor style (DECSCUSR).
abbrev pub cursor_style_text : CursorStyle → List ℕ
cursor_style_text new = csi (cursor_style_digit new ∷ 0x20 ∷ []) 0x71

-- The sequence that changes the cursor style; empty if the two styles are equal.
abbrev pub cursor_style_change : CursorStyle → CursorStyle → List ℕ
cursor_style_change style.Default style.Default = []
cursor_style_change style.BlinkBlock style.BlinkBlock = []
cursor_style_change style.SteadyBlock style.SteadyBlock = []
cursor_style_change style.BlinkUnderline style.BlinkUnderline = []
cursor_style_change style.SteadyUnderline style.SteadyUnderline = []
cursor_style_change style.BlinkVerticalBar style.BlinkVerticalBar = []
cursor_style_change style.SteadyVerticalBar style.SteadyVerticalBar = []
cursor_style_change was new = cursor_style_text new
