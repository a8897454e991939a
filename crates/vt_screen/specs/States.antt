-- Output that sets input modes or a whole state (a display and input modes), also with options.
use Rattle.std.specs.Prelude.{ℕ, Bool, List, [], ◌++◌, if◌then◌else◌, ◌≡◌}
use Rattle.std.specs.List.{AllByRecursion}
use Rattle.vt_cells.specs.Attrs.{same_bool}
use Rattle.vt_cells.specs.InputModes.{keypad_text, application_cursor_text, bracketed_paste_text, mouse_mode_change}
use Rattle.vt_cells.specs.InputModes.{mouse_encoding_change, cursor_style_change}
use Rattle.vt_scan.specs.Automaton.{start, run}
use Rattle.vt_grid.specs.Page.{SameSize}
use Rattle.vt_redraw.specs.Steady.{IsSteady}
use Rattle.vt_redraw.specs.declared.form.Form.{Form}
use Rattle.vt_screen.specs.Screen.{Modes, no_modes, ScreenValue, IsScreen}
use Rattle.vt_screen.specs.Again.{IsNoCallback}
use Rattle.vt_screen.specs.CallsOfRun.{screen_in, steps_in}
use Rattle.vt_screen.specs.Shown.{IsPlain, IsReader, IsReaderOf, KeepsRestButModes, Makes, ReadsTo, Redraws, display}
use Rattle.vt_screen.specs.Shown.{display_change, shown_text, display_change_in, shown_text_in}
use Rattle.vt_screen.specs.Diffs.{IsDiffWith, diff_controls}
use Rattle.vt_screen.specs.MadeOf.{input_controls}
use Rattle.vt_screen.specs.declared.diff_options.DiffOptions.{DiffOptions}

-- ==== The output that sets the input modes of a terminal to those of a screen.

-- The output that changes the mouse mode, the mouse encoding and the cursor style from those of `was` to those of
-- `new`.
abbrev pub mouse_and_style_text : (was new : Modes) → List ℕ
mouse_and_style_text was new =
    mouse_mode_change was.mouse_mode new.mouse_mode
    ++ (mouse_encoding_change was.mouse_encoding new.mouse_encoding
    ++ cursor_style_change was.cursor_style new.cursor_style)

-- The output that sets all input modes. The keypad mode, the cursor key mode and bracketed paste mode are always set;
-- the mouse mode, the mouse encoding and the cursor style are set only if they aren't the default.
abbrev pub input_text : Modes → List ℕ
input_text new =
    keypad_text new.application_keypad
    ++ (application_cursor_text new.application_cursor
    ++ (bracketed_paste_text new.bracketed_paste
    ++ mouse_and_style_text no_modes new))

-- The given output if the two values differ, otherwise nothing.
abbrev pub where_changed : (was new : Bool) → List ℕ → List ℕ
where_changed was new text = if same_bool was new then [] else text

-- The output that turns the input modes `was` into `new` by changing those that differ.
abbrev pub input_change : (was new : Modes) → List ℕ
input_change was new =
    where_changed was.application_keypad new.application_keypad (keypad_text new.application_keypad)
    ++ (where_changed was.application_cursor new.application_cursor (application_cursor_text new.application_cursor)
    ++ (where_changed was.bracketed_paste new.bracketed_paste (bracketed_paste_text new.bracketed_paste)
    ++ mouse_and_style_text was new))

-- ==== Output that sets a whole state (a display and input modes), output that sets only input modes, and the effects
-- of both on terminals.

-- ---- input modes

-- The mouse mode, the mouse encoding and the cursor style have their default values.
pub record HasDefaultMouseAndStyle (modes : Modes) : Type 0 where
  pub mouse_mode : modes.mouse_mode ≡ no_modes.mouse_mode
  pub mouse_encoding : modes.mouse_encoding ≡ no_modes.mouse_encoding
  pub cursor_style : modes.cursor_style ≡ no_modes.cursor_style

-- The output sets the given modes on every terminal in ground state whose modes satisfy the given predicate, and
-- changes nothing else.
abbrev pub SetsModes : (Modes → Type 0) → Modes → List ℕ → Type 0
SetsModes Had modes text =
    (reader : ScreenValue) → Had reader.modes → ReadsTo text reader (record reader { modes = modes })

-- ---- whole states

-- The output that redraws a screen, followed by the output that sets all of the screen's input modes.
abbrev pub state_text : ScreenValue → List ℕ
state_text screen = shown_text screen ++ input_text screen.modes

-- The diff between the displays of two screens, followed by the output that changes the input modes that differ.
abbrev pub state_change : (was new : ScreenValue) → List ℕ
state_change was new = display_change was new ++ input_change was.modes new.modes

-- The terminal `reader` is plain and has the screen's size, and its mouse mode, mouse encoding and cursor style have
-- their default values.
pub record IsStateReader (screen reader : ScreenValue) : Type 0 where
  pub is : IsReader (display screen) reader
  pub modes : HasDefaultMouseAndStyle reader.modes

-- The terminal `reader` is plain, has the size of `screen`, displays the picture of the screen `prev`, and has the
-- input modes of `prev`.
pub record IsStateReaderOf (screen prev reader : ScreenValue) : Type 0 where
  pub is : IsReaderOf (display screen) (display prev) reader
  pub modes : reader.modes ≡ prev.modes

-- The terminal has the given input modes after it has read the output.
abbrev pub HasModes : Modes → (reader after : ScreenValue) → Type 0
HasModes modes reader after = after.modes ≡ modes

-- If the screen is steady, the output redraws it on every terminal with the property `Reader` and sets the screen's
-- input modes. Scrollback and its offset, the inactive page and the scroll region are unchanged.
pub record GivesState (Reader : ScreenValue → Type 0) (screen : ScreenValue) (text : List ℕ) : Type 0 where
  pub redraws : Redraws (display screen) Reader KeepsRestButModes text
  pub modes : IsSteady (display screen) → Makes Reader text (HasModes screen.modes)

-- If the text is empty and the picture of the screen `new` is steady, both screens have the same picture and the same
-- input modes.
abbrev pub IsSameStateIfEmpty : (was new : ScreenValue) → List ℕ → Type 0
IsSameStateIfEmpty was new text =
    IsSteady (display new) → text ≡ [] → (display new ≡ display was) × (new.modes ≡ was.modes)

-- If both screens have the same picture and the same input modes, the text is empty.
abbrev pub IsEmptyIfSameState : (was new : ScreenValue) → List ℕ → Type 0
IsEmptyIfSameState was new text = display new ≡ display was → new.modes ≡ was.modes → text ≡ []

-- ---- terminals that are plain again

-- The inactive page and the size are unchanged, and the same page is active.
pub record KeepsAsideButModes (reader after : ScreenValue) : Type 0 where
  pub other : after.other ≡ reader.other
  pub is_alternate : after.is_alternate ≡ reader.is_alternate
  pub size : SameSize after.page reader.page

-- The terminal reads the output, starting in ground state, and afterward is plain and in ground state again, and has the
-- given input modes. No callback is invoked except `on_scroll`. The inactive page and the size are unchanged, and the
-- same page is active.
pub record LeavesPlainWithModes (modes : Modes) (text : List ℕ) (reader : ScreenValue) : Type 0 where
  pub ground : (run start text).state ≡ start
  pub steps : AllByRecursion IsNoCallback (steps_in start reader text)
  pub plain : IsPlain (screen_in start reader text)
  pub aside : KeepsAsideButModes reader (screen_in start reader text)
  pub has_modes : (screen_in start reader text).modes ≡ modes

-- Every plain terminal whose modes satisfy the given predicate is plain again after it has read the output and has the
-- given modes, as `LeavesPlainWithModes` describes.
abbrev pub SetsModesPlainly : (Modes → Type 0) → Modes → List ℕ → Type 0
SetsModesPlainly Had modes text =
    (reader : ScreenValue) → IsPlain reader → Had reader.modes → LeavesPlainWithModes modes text reader

-- The modes are the given ones.
abbrev pub AreModes : (was modes : Modes) → Type 0
AreModes was modes = modes ≡ was

-- ==== Output with options that sets a whole state (a display and input modes): a redraw or a diff with options,
-- followed by the output that sets input modes.

-- ---- the output

-- The redraw of a screen in the given form, followed by the output that sets all of the screen's input modes.
abbrev pub state_text_in : Form → ScreenValue → List ℕ
state_text_in form screen = shown_text_in form screen ++ input_text screen.modes

-- The diff between the displays of two screens in the given form, followed by the output that changes the input modes
-- that differ.
abbrev pub state_change_in : Form → (was new : ScreenValue) → List ℕ
state_change_in form was new = display_change_in form was new ++ input_change was.modes new.modes

-- The output is drawing output with the property `IsDrawn`, followed by the output `modes`, which sets input modes.
pub record DrawsThenSets (IsDrawn : List ℕ → Type 0) (modes text : List ℕ) : Type 0 where
  pub drawn : List ℕ
  pub is_drawn : IsDrawn drawn
  pub spelled : text ≡ drawn ++ modes

-- The output is a diff with the given options between the displays of two screens, followed by the output that changes
-- the input modes that differ.
abbrev pub IsStateDiffWith : DiffOptions → (was new : ScreenValue) → List ℕ → Type 0
IsStateDiffWith options was new = DrawsThenSets (IsDiffWith options was new) (input_change was.modes new.modes)

-- The fixed sequences that may occur in a diff of whole states without REP, given whether the diff is a scrolling one.
abbrev pub state_diff_controls : (scroll : Bool) → List (List ℕ)
state_diff_controls scroll = input_controls ++ diff_controls scroll

-- ---- terminals that are plain again

-- Every plain terminal whose screen satisfies the invariant `IsScreen` and whose modes satisfy the given predicate is
-- plain again after it has read the output and has the given modes, as `LeavesPlainWithModes` describes.
abbrev pub SetsModesOnScreens : (Modes → Type 0) → Modes → List ℕ → Type 0
SetsModesOnScreens Had modes text =
    (reader : ScreenValue) → IsScreen reader → IsPlain reader → Had reader.modes →
    LeavesPlainWithModes modes text reader
