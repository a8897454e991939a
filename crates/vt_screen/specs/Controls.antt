-- The steps that each event causes. This module defines which control functions are supported, and which bytes invoke
-- them.
use Rattle.std.specs.Prelude.{ℕ, ◌-◌, ◌==◌, ◌&&◌, ◌||◌, not, nat_lt, nat_le, Bool, true, false}
use Rattle.std.specs.Prelude.{List, [], ◌∷◌, ◌++◌, length, replicate, slice_index_or, slice_get}
use Rattle.std.specs.Prelude.{Option, Some, None, bytes_eq, codes, if◌then◌else◌}
use Rattle.std.specs.List.{list_all, list_any}
use Rattle.vt_cells.specs.declared.modes.MouseProtocolMode.{MouseProtocolMode}
use Rattle.vt_cells.specs.declared.modes.MouseProtocolMode.TheVariants as mouse
use Rattle.vt_cells.specs.declared.modes.MouseProtocolEncoding.{MouseProtocolEncoding}
use Rattle.vt_cells.specs.declared.modes.MouseProtocolEncoding.TheVariants as encoding
use Rattle.vt_cells.specs.declared.modes.CursorStyle.{CursorStyle}
use Rattle.vt_cells.specs.declared.modes.CursorStyle.TheVariants as style
use Rattle.vt_grid.specs.declared.grid.moves.CursorMove.TheVariants.{Return, Up, Down, Right, Left, NextLine}
use Rattle.vt_grid.specs.declared.grid.moves.CursorMove.TheVariants.{PreviousLine, Tab, To, ToColumn, ToRow}
use Rattle.vt_grid.specs.declared.page_step.PageStep.{PageStep}
use Rattle.vt_grid.specs.declared.page_step.PageStep.TheVariants.{Move, ReverseIndex, SetRegion, UseOrigin}
use Rattle.vt_grid.specs.declared.page_step.PageStep.TheVariants.{EraseBelow, EraseAbove, ErasePage, EraseRest}
use Rattle.vt_grid.specs.declared.page_step.PageStep.TheVariants.{EraseStart, EraseRow, EraseChars, InsertChars}
use Rattle.vt_grid.specs.declared.page_step.PageStep.TheVariants.{DeleteChars, InsertLines, DeleteLines, ScrollDown}
use Rattle.vt_scan.specs.Automaton.{Event, Character, Executed, EscDispatch, CsiDispatch, OscDispatch}
use Rattle.vt_screen.specs.Calls.{CallValue, AudibleBell, VisualBell, Resize, SetWindowIconName}
use Rattle.vt_screen.specs.Calls.{SetWindowTitle, CopyToClipboard, PasteFromClipboard, UnhandledChar}
use Rattle.vt_screen.specs.Calls.{UnhandledControl, UnhandledEscape, UnhandledCsi, UnhandledOsc}
use Rattle.vt_screen.specs.declared.mode_step.ModeStep.{ModeStep}
use Rattle.vt_screen.specs.declared.mode_step.ModeStep.TheVariants.{UseApplicationKeypad, UseApplicationCursor}
use Rattle.vt_screen.specs.declared.mode_step.ModeStep.TheVariants.{UseBracketedPaste, SetMouseMode, ClearMouseMode}
use Rattle.vt_screen.specs.declared.mode_step.ModeStep.TheVariants.{SetMouseEncoding, ClearMouseEncoding}
use Rattle.vt_screen.specs.declared.mode_step.ModeStep.TheVariants.{SetCursorStyle}
use Rattle.vt_screen.specs.Sgr.{group_read}
use Rattle.vt_screen.specs.Screen.{ScreenValue}
use Rattle.vt_screen.specs.declared.sgr.Wanted.{Wanted}
use Rattle.vt_screen.specs.declared.sgr.Wanted.TheVariants.{Any}
use Rattle.vt_screen.specs.declared.sgr.Reading.{Reading}
use Rattle.vt_screen.specs.declared.sgr.Reading.TheVariants.{Silent, Set, Unhandled}
use Rattle.vt_screen.specs.Steps.{Step, Print, LineFeed, ScrollUp, OnPage, SaveCursor, RestoreCursor, EnterAlternate}
use Rattle.vt_screen.specs.Steps.{EnterFresh, LeaveAlternate, LeaveRestoring, Reset, EraseScrollback, Render}
use Rattle.vt_screen.specs.Steps.{HideCursor, SetMode, CallBack}

-- The parts of a screen that the steps of an event depend on: its size, and the last printed character, which REP
-- repeats.
pub record Seen : Type 0 where
  pub rows : ℕ
  pub columns : ℕ
  pub last : Option ℕ

abbrev pub seen_of : ScreenValue → Seen
seen_of screen = record { rows = length screen.page.rows; columns = screen.page.width; last = screen.last }

-- ---- numbers in the parameters of control sequences

-- The first number of the parameter at the given index, counted from 0; 0 if there is no such number. Each inner list
-- is a parameter with its subparameters.
abbrev pub number_at : ℕ → List (List ℕ) → ℕ
number_at i groups = slice_index_or (slice_index_or groups i []) 0 0

-- `number_or default i groups` is the first number of the parameter at index `i` (counted from 0), or `default` if that
-- number is 0 or missing.
abbrev pub number_or : ℕ → ℕ → List (List ℕ) → ℕ
number_or default i groups = if number_at i groups == 0 then default else number_at i groups

abbrev pub intermediate_at : ℕ → List ℕ → Option ℕ
intermediate_at i intermediates = slice_get intermediates i

-- ---- the steps of each kind of event

-- The steps that a character causes: U+0080 to U+009F and U+FFFD are reported as unhandled, and all other characters
-- are printed.
unfoldable pub character_steps : ℕ → List Step
character_steps c =
    if (c == 0xFFFD) || (nat_le 0x80 c && nat_le c 0x9F) then CallBack (UnhandledChar c) ∷ [] else Print c ∷ []

-- The steps that a control character causes: BEL, BS, HT, LF, VT, FF and CR are performed, SO and SI are ignored, and
-- all others are reported as unhandled.
unfoldable pub control_steps : ℕ → List Step
control_steps b =
    if b == 0x07 then CallBack AudibleBell ∷ []
    else if b == 0x08 then OnPage (Move (Left 1)) ∷ []
    else if b == 0x09 then OnPage (Move Tab) ∷ []
    else if nat_le 0x0A b && nat_le b 0x0C then LineFeed ∷ []
    else if b == 0x0D then OnPage (Move Return) ∷ []
    else if (b == 0x0E) || (b == 0x0F) then []
    else CallBack (UnhandledControl b) ∷ []

-- The steps that an escape sequence with the given intermediate bytes and final byte causes. DECSC, DECRC, DECKPAM,
-- DECKPNM, RI, RIS and the visual bell of GNU Screen (ESC g) are performed; any other sequence is reported as
-- unhandled.
unfoldable pub escape_steps : List ℕ → ℕ → List Step
escape_steps [] b =
    if b == 0x37 then SaveCursor ∷ []
    else if b == 0x38 then RestoreCursor ∷ []
    else if b == 0x3D then SetMode (UseApplicationKeypad true) ∷ []
    else if b == 0x3E then SetMode (UseApplicationKeypad false) ∷ []
    else if b == 0x4D then OnPage ReverseIndex ∷ []
    else if b == 0x63 then Reset ∷ []
    else if b == 0x67 then CallBack VisualBell ∷ []
    else CallBack (UnhandledEscape None None b) ∷ []
escape_steps (intermediate ∷ intermediates) b = CallBack (UnhandledEscape (Some intermediate) (intermediate_at 0 intermediates) b) ∷ []

-- The steps that one SGR parameter causes, given all parameters of the sequence and the interpretation of this
-- parameter. An unknown parameter is reported as unhandled.
abbrev pub reading_steps : List (List ℕ) → Reading → List Step
reading_steps groups Silent = []
reading_steps groups (Set setting) = Render setting ∷ []
reading_steps groups Unhandled = CallBack (UnhandledCsi None None groups 0x6D) ∷ []

-- The steps that the remaining parameters of an SGR sequence cause, given all of its parameters. The `Wanted` value
-- determines how the first remaining parameter is interpreted.
abbrev pub sgr_from : List (List ℕ) → Wanted → List (List ℕ) → List Step
sgr_from groups wanted [] = []
sgr_from groups wanted (group ∷ rest) =
    let read = group_read wanted group in reading_steps groups read.reading ++ sgr_from groups read.wanted rest

-- The steps that an SGR sequence with the given parameters causes.
abbrev pub sgr_steps : List (List ℕ) → List Step
sgr_steps groups = sgr_from groups Any groups

-- The steps that ED with the given parameter causes; an unknown parameter is reported as unhandled.
unfoldable pub page_erasing : CallValue → ℕ → List Step
page_erasing report n =
    if n == 0 then OnPage EraseBelow ∷ []
    else if n == 1 then OnPage EraseAbove ∷ []
    else if n == 2 then OnPage ErasePage ∷ []
    else if n == 3 then EraseScrollback ∷ []
    else CallBack report ∷ []

-- The steps that EL with the given parameter causes; an unknown parameter is reported as unhandled.
unfoldable pub row_erasing : CallValue → ℕ → List Step
row_erasing report n =
    if n == 0 then OnPage EraseRest ∷ []
    else if n == 1 then OnPage EraseStart ∷ []
    else if n == 2 then OnPage EraseRow ∷ []
    else CallBack report ∷ []

-- The number of rows or columns in a resize request: the first number of the parameter at index `i` (counted from 0),
-- or `own`, the screen's current number, if the request has no such parameter.
abbrev pub size_or : ℕ → ℕ → List (List ℕ) → ℕ
size_or own i groups = if nat_lt i (length groups) then number_at i groups else own

unfoldable pub window_steps : List (List ℕ) → Seen → List Step
window_steps groups seen =
    if number_at 0 groups == 8
    then CallBack (Resize (size_or seen.rows 1 groups) (size_or seen.columns 2 groups)) ∷ []
    else CallBack (UnhandledCsi None None groups 0x74) ∷ []

abbrev pub repeated : ℕ → Option ℕ → List Step
repeated n (Some c) = replicate n (Print c)
repeated n None = []

-- The step that a control sequence with the final byte `b` causes if it only changes the page and has a single
-- parameter, the count or position `n`, which is at least 1; `None` for any other sequence.
unfoldable pub counted_step : ℕ → ℕ → Option PageStep
counted_step b n =
    if b == 0x40 then Some (InsertChars n)
    else if b == 0x41 then Some (Move (Up n))
    else if b == 0x42 then Some (Move (Down n))
    else if b == 0x43 then Some (Move (Right n))
    else if b == 0x44 then Some (Move (Left n))
    else if b == 0x45 then Some (Move (NextLine n))
    else if b == 0x46 then Some (Move (PreviousLine n))
    else if (b == 0x47) || (b == 0x60) then Some (Move (ToColumn (n - 1)))
    else if b == 0x4C then Some (InsertLines n)
    else if b == 0x4D then Some (DeleteLines n)
    else if b == 0x50 then Some (DeleteChars n)
    else if b == 0x54 then Some (ScrollDown n)
    else if b == 0x58 then Some (EraseChars n)
    else if b == 0x64 then Some (Move (ToRow (n - 1)))
    else None

-- The steps that CUP, HVP, ED, EL, SGR, DECSTBM and xterm's window manipulation cause; any other control sequence is
-- reported as unhandled. Rows and columns in the sequences are counted from 1.
unfoldable pub other_steps : List (List ℕ) → ℕ → Seen → List Step
other_steps groups b seen =
    if (b == 0x48) || (b == 0x66) then OnPage (Move (To (number_or 1 0 groups - 1) (number_or 1 1 groups - 1))) ∷ []
    else if b == 0x4A then page_erasing (UnhandledCsi None None groups b) (number_at 0 groups)
    else if b == 0x4B then row_erasing (UnhandledCsi None None groups b) (number_at 0 groups)
    else if b == 0x6D then sgr_steps groups
    else if b == 0x72 then OnPage (SetRegion (number_or 1 0 groups - 1) (number_or seen.rows 1 groups - 1)) ∷ []
    else if b == 0x74 then window_steps groups seen
    else CallBack (UnhandledCsi None None groups b) ∷ []

-- The steps that SU and REP cause, which may scroll rows off the page. The steps of any other sequence are those of
-- `other_steps`.
unfoldable pub scrolling_steps : List (List ℕ) → ℕ → Seen → List Step
scrolling_steps groups b seen =
    if b == 0x53 then ScrollUp (number_or 1 0 groups) ∷ []
    else if b == 0x62 then repeated (number_or 1 0 groups) seen.last
    else other_steps groups b seen

abbrev pub one_or : Option PageStep → List Step → List Step
one_or (Some step) others = OnPage step ∷ []
one_or None others = others

-- The steps that a control sequence without a private marker or intermediate bytes causes.
abbrev pub unmarked_steps : List (List ℕ) → ℕ → Seen → List Step
unmarked_steps groups b seen = one_or (counted_step b (number_or 1 0 groups)) (scrolling_steps groups b seen)

-- The cursor style that a DECSCUSR parameter selects; `None` if the parameter is unknown.
unfoldable pub style_of : ℕ → Option CursorStyle
style_of n =
    if n == 0 then Some style.Default
    else if n == 1 then Some style.BlinkBlock
    else if n == 2 then Some style.SteadyBlock
    else if n == 3 then Some style.BlinkUnderline
    else if n == 4 then Some style.SteadyUnderline
    else if n == 5 then Some style.BlinkVerticalBar
    else if n == 6 then Some style.SteadyVerticalBar
    else None

abbrev pub style_steps : CallValue → Option CursorStyle → List Step
style_steps report (Some look) = SetMode (SetCursorStyle look) ∷ []
style_steps report None = CallBack report ∷ []

abbrev pub mouse_step : Bool → MouseProtocolMode → ModeStep
mouse_step on mode = if on then SetMouseMode mode else ClearMouseMode mode

abbrev pub encoding_step : Bool → MouseProtocolEncoding → ModeStep
encoding_step on form = if on then SetMouseEncoding form else ClearMouseEncoding form

abbrev pub alternate_step : Bool → Step
alternate_step on = if on then EnterAlternate else LeaveAlternate

abbrev pub fresh_alternate_step : Bool → Step
fresh_alternate_step on = if on then EnterFresh else LeaveRestoring

-- The steps that set or reset a private mode; an unknown mode is reported as unhandled.
unfoldable pub mode_step : Bool → CallValue → ℕ → List Step
mode_step on report n =
    if n == 1 then SetMode (UseApplicationCursor on) ∷ []
    else if n == 6 then OnPage (UseOrigin on) ∷ []
    else if n == 9 then SetMode (mouse_step on mouse.Press) ∷ []
    else if n == 25 then HideCursor (not on) ∷ []
    else if n == 47 then alternate_step on ∷ []
    else if n == 1000 then SetMode (mouse_step on mouse.PressRelease) ∷ []
    else if n == 1002 then SetMode (mouse_step on mouse.ButtonMotion) ∷ []
    else if n == 1003 then SetMode (mouse_step on mouse.AnyMotion) ∷ []
    else if n == 1005 then SetMode (encoding_step on encoding.Utf8) ∷ []
    else if n == 1006 then SetMode (encoding_step on encoding.Sgr) ∷ []
    else if n == 1049 then fresh_alternate_step on ∷ []
    else if n == 2004 then SetMode (UseBracketedPaste on) ∷ []
    else CallBack report ∷ []

abbrev pub mode_steps : Bool → CallValue → List (List ℕ) → List Step
mode_steps on report [] = []
mode_steps on report ((n ∷ []) ∷ groups) = mode_step on report n ++ mode_steps on report groups
mode_steps on report (_ ∷ groups) = CallBack report ∷ mode_steps on report groups

-- The steps that a control sequence with the private marker `?` causes.
unfoldable pub private_steps : Option ℕ → List (List ℕ) → ℕ → List Step
private_steps second groups b =
    let report = UnhandledCsi (Some 0x3F) second groups b in
    if b == 0x4A then page_erasing report (number_at 0 groups)
    else if b == 0x4B then row_erasing report (number_at 0 groups)
    else if b == 0x68 then mode_steps true report groups
    else if b == 0x6C then mode_steps false report groups
    else CallBack report ∷ []

-- The steps that a control sequence with a space as its first intermediate byte causes.
unfoldable pub space_steps : Option ℕ → List (List ℕ) → ℕ → List Step
space_steps second groups b =
    if b == 0x71 then style_steps (UnhandledCsi (Some 0x20) second groups b) (style_of (number_at 0 groups))
    else CallBack (UnhandledCsi None None groups b) ∷ []

unfoldable pub intermediate_steps : ℕ → Option ℕ → List (List ℕ) → ℕ → List Step
intermediate_steps intermediate second groups b =
    if intermediate == 0x3F then private_steps second groups b
    else if intermediate == 0x20 then space_steps second groups b
    else CallBack (UnhandledCsi (Some intermediate) second groups b) ∷ []

abbrev pub csi_steps : List (List ℕ) → List ℕ → ℕ → Seen → List Step
csi_steps groups [] b seen = unmarked_steps groups b seen
csi_steps groups (intermediate ∷ intermediates) b seen = intermediate_steps intermediate (intermediate_at 0 intermediates) groups b

-- Whether each byte of an OSC 52 parameter names a clipboard that xterm defines.
abbrev pub is_clipboard_kind : List ℕ → Bool
is_clipboard_kind kind = list_all (λ b. list_any (λ c. c == b) (codes "cpqs01234567")) kind

-- Whether the byte may occur in base64 text.
abbrev pub is_base64 : ℕ → Bool
is_base64 b =
    (nat_le 0x41 b && nat_le b 0x5A) || ((nat_le 0x61 b && nat_le b 0x7A) || ((nat_le 0x30 b && nat_le b 0x39)
    || ((b == 0x2B) || ((b == 0x2F) || (b == 0x3D)))))

-- The steps that a two-part operating system command causes. OSC 1 sets the icon name, OSC 2 the window title, and OSC
-- 0 both (xterm); any other command is reported as unhandled.
unfoldable pub named_steps : List ℕ → List ℕ → List Step
named_steps name text =
    if bytes_eq name (codes "0") then CallBack (SetWindowIconName text) ∷ CallBack (SetWindowTitle text) ∷ []
    else if bytes_eq name (codes "1") then CallBack (SetWindowIconName text) ∷ []
    else if bytes_eq name (codes "2") then CallBack (SetWindowTitle text) ∷ []
    else CallBack (UnhandledOsc (name ∷ text ∷ [])) ∷ []

-- The steps that a three-part operating system command causes. A valid OSC 52 reads or writes a clipboard (xterm); any
-- other command is reported as unhandled.
unfoldable pub clipboard_steps : List ℕ → List ℕ → List ℕ → List Step
clipboard_steps name kind text =
    let is_known = bytes_eq name (codes "52") && is_clipboard_kind kind in
    if is_known && bytes_eq text (codes "?") then CallBack (PasteFromClipboard kind) ∷ []
    else if is_known && list_all is_base64 text then CallBack (CopyToClipboard kind text) ∷ []
    else CallBack (UnhandledOsc (name ∷ kind ∷ text ∷ [])) ∷ []

-- The steps that an operating system command with the given parts causes.
abbrev pub osc_steps : List (List ℕ) → List Step
osc_steps (name ∷ text ∷ []) = named_steps name text
osc_steps (name ∷ kind ∷ text ∷ []) = clipboard_steps name kind text
osc_steps parts = CallBack (UnhandledOsc parts) ∷ []

-- The steps that an event causes, given the parts of the screen that they depend on.
abbrev pub steps_of : Event → Seen → List Step
steps_of (Character c) seen = character_steps c
steps_of (Executed b) seen = control_steps b
steps_of (EscDispatch intermediates b) seen = escape_steps intermediates b
steps_of (CsiDispatch groups intermediates b) seen = csi_steps groups intermediates b seen
steps_of (OscDispatch parts) seen = osc_steps parts
