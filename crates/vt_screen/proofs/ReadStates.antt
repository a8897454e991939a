-- Reading the output for input modes and for a whole state.
use Rattle.std.proofs.Common.{◌≡◌, ℕ, Bool, true, false, List, [], ◌++◌, Some, refl, sym, ap, subst, ◌∙◌, ◌∷◌, Option}
use Rattle.vt_cells.specs.InputModes.{keypad_text, application_cursor_text, bracketed_paste_text, mouse_mode_change}
use Rattle.vt_cells.specs.InputModes.{mouse_encoding_change, cursor_style_change}
use Rattle.vt_cells.specs.declared.modes.CursorStyle.{CursorStyle}
use Rattle.vt_cells.specs.declared.modes.CursorStyle.TheVariants as style
use Rattle.vt_cells.specs.declared.modes.MouseProtocolEncoding.{MouseProtocolEncoding}
use Rattle.vt_cells.specs.declared.modes.MouseProtocolEncoding.TheVariants as encoding
use Rattle.vt_cells.specs.declared.modes.MouseProtocolMode.{MouseProtocolMode}
use Rattle.vt_cells.specs.declared.modes.MouseProtocolMode.TheVariants as mouse
use Rattle.vt_scan.specs.Automaton.{start, fresh_step}
use Rattle.vt_scan.specs.Parameters.{table_of, groups_of, numbers_of, number_of}
use Rattle.vt_scan.specs.Table.{class_of}
use Rattle.vt_redraw.specs.Picture.{SamePictureSize, Saved}
use Rattle.vt_redraw.specs.Steady.{IsSteady}
use Rattle.vt_screen.specs.States.{input_change, input_text, mouse_and_style_text, where_changed}
use Rattle.vt_screen.specs.States.{HasDefaultMouseAndStyle, SetsModes, GivesState, HasModes, IsStateReader}
use Rattle.vt_screen.specs.States.{IsStateReaderOf, state_change, state_text}
use Rattle.vt_screen.specs.Reading.{Terminal, read_byte, terminal_after, terminal}
use Rattle.vt_screen.specs.Screen.{Modes, ScreenValue, fresh_screen, no_modes, IsScreen, IsColored}
use Rattle.vt_screen.specs.Shown.{ReadsTo, IsReader, Redraws, ShowsPlainly, HasRows, HasCursor, KeepsRestButModes}
use Rattle.vt_screen.specs.Shown.{display, reader_with_display, display_change, shown_text}
use Rattle.vt_screen.specs.Controls.{escape_steps, intermediate_steps, private_steps, mode_step, space_steps, style_of}
use Rattle.vt_screen.proofs.ReadTexts.{reads_then}
use Rattle.vt_screen.proofs.ReadRedraws.{shows_plainly, Becomes, difference_read, redraw_read, difference_none}
use Rattle.vt_screen.proofs.ReadRedraws.{difference_tells}
use Rattle.vt_screen.proofs.Shown.{shown_is}

-- ==== Reading the output for input modes sets these modes on any terminal in ground state and changes nothing else.

-- A terminal with the modes `was` that reads the output has the modes `new`.
abbrev Sets : List ℕ → (was new : Modes) → Type 0
Sets text was new =
    (reader : ScreenValue) → ReadsTo text (record reader { modes = was }) (record reader { modes = new })

-- ---- one mode

keypad_sets : (on : Bool) (m : Modes) → Sets (keypad_text on) m (record m { application_keypad = on })
unfolding read_byte fresh_step class_of escape_steps
keypad_sets true m reader = refl
keypad_sets false m reader = refl

cursor_keys_set : (on : Bool) (m : Modes) → Sets (application_cursor_text on) m (record m { application_cursor = on })
unfolding read_byte fresh_step class_of table_of groups_of numbers_of number_of private_steps intermediate_steps mode_step
cursor_keys_set true m reader = refl
cursor_keys_set false m reader = refl

paste_sets : (on : Bool) (m : Modes) → Sets (bracketed_paste_text on) m (record m { bracketed_paste = on })
unfolding read_byte fresh_step class_of table_of groups_of numbers_of number_of private_steps intermediate_steps mode_step
paste_sets true m reader = refl
paste_sets false m reader = refl

mouse_mode_sets : (was new : MouseProtocolMode) (m : Modes) →
    Sets (mouse_mode_change was new) (record m { mouse_mode = was }) (record m { mouse_mode = new })
unfolding read_byte fresh_step class_of table_of groups_of numbers_of number_of private_steps intermediate_steps mode_step
mouse_mode_sets mouse.None mouse.None m reader = refl
mouse_mode_sets mouse.Press mouse.Press m reader = refl
mouse_mode_sets mouse.PressRelease mouse.PressRelease m reader = refl
mouse_mode_sets mouse.ButtonMotion mouse.ButtonMotion m reader = refl
mouse_mode_sets mouse.AnyMotion mouse.AnyMotion m reader = refl
mouse_mode_sets _ _ m reader = refl

mouse_encoding_sets : (was new : MouseProtocolEncoding) (m : Modes) →
    Sets (mouse_encoding_change was new) (record m { mouse_encoding = was }) (record m { mouse_encoding = new })
unfolding read_byte fresh_step class_of table_of groups_of numbers_of number_of private_steps intermediate_steps mode_step
mouse_encoding_sets encoding.Default encoding.Default m reader = refl
mouse_encoding_sets encoding.Utf8 encoding.Utf8 m reader = refl
mouse_encoding_sets encoding.Sgr encoding.Sgr m reader = refl
mouse_encoding_sets _ _ m reader = refl

cursor_style_sets : (was new : CursorStyle) (m : Modes) →
    Sets (cursor_style_change was new) (record m { cursor_style = was }) (record m { cursor_style = new })
unfolding read_byte fresh_step class_of table_of groups_of numbers_of number_of space_steps intermediate_steps style_of
cursor_style_sets style.Default style.Default m reader = refl
cursor_style_sets style.BlinkBlock style.BlinkBlock m reader = refl
cursor_style_sets style.SteadyBlock style.SteadyBlock m reader = refl
cursor_style_sets style.BlinkUnderline style.BlinkUnderline m reader = refl
cursor_style_sets style.SteadyUnderline style.SteadyUnderline m reader = refl
cursor_style_sets style.BlinkVerticalBar style.BlinkVerticalBar m reader = refl
cursor_style_sets style.SteadyVerticalBar style.SteadyVerticalBar m reader = refl
cursor_style_sets _ _ m reader = refl

-- Nothing is written for a mode that is unchanged.

keypad_changes : (was new : Bool) (m : Modes) →
    Sets (where_changed was new (keypad_text new))
    (record m { application_keypad = was }) (record m { application_keypad = new })
keypad_changes true true m reader = refl
keypad_changes false false m reader = refl
keypad_changes true false m reader = keypad_sets false (record m { application_keypad = true }) reader
keypad_changes false true m reader = keypad_sets true (record m { application_keypad = false }) reader

cursor_keys_change : (was new : Bool) (m : Modes) →
    Sets (where_changed was new (application_cursor_text new))
    (record m { application_cursor = was }) (record m { application_cursor = new })
cursor_keys_change true true m reader = refl
cursor_keys_change false false m reader = refl
cursor_keys_change true false m reader = cursor_keys_set false (record m { application_cursor = true }) reader
cursor_keys_change false true m reader = cursor_keys_set true (record m { application_cursor = false }) reader

paste_changes : (was new : Bool) (m : Modes) →
    Sets (where_changed was new (bracketed_paste_text new))
    (record m { bracketed_paste = was }) (record m { bracketed_paste = new })
paste_changes true true m reader = refl
paste_changes false false m reader = refl
paste_changes true false m reader = paste_sets false (record m { bracketed_paste = true }) reader
paste_changes false true m reader = paste_sets true (record m { bracketed_paste = false }) reader

-- ---- all modes

one_then : (a b : List ℕ) (was middle new : Modes) → Sets a was middle → Sets b middle new → Sets (a ++ b) was new
one_then a b was middle new p q reader =
    reads_then (terminal start (record reader { modes = was })) (terminal start (record reader { modes = middle }))
    (terminal start (record reader { modes = new })) a b (p reader) (q reader)

-- The modes that have the mouse modes and cursor style of one value, and all other modes of another value.
abbrev with_mouse_and_style : (mouse rest : Modes) → Modes
with_mouse_and_style mouse rest = record rest
    { mouse_mode = mouse.mouse_mode; mouse_encoding = mouse.mouse_encoding; cursor_style = mouse.cursor_style }

mouse_and_style_set : (was new m : Modes) →
    Sets (mouse_and_style_text was new) (with_mouse_and_style was m) (with_mouse_and_style new m)
mouse_and_style_set was new m =
    let first : Modes = with_mouse_and_style was m in
    let second : Modes = record first { mouse_mode = new.mouse_mode } in
    let third : Modes = record second { mouse_encoding = new.mouse_encoding } in
    let mode = mouse_mode_change was.mouse_mode new.mouse_mode in
    let form = mouse_encoding_change was.mouse_encoding new.mouse_encoding in
    let look = cursor_style_change was.cursor_style new.cursor_style in
    one_then mode (form ++ look) first second (with_mouse_and_style new m)
    (mouse_mode_sets was.mouse_mode new.mouse_mode first)
    (one_then form look second third (with_mouse_and_style new m)
    (mouse_encoding_sets was.mouse_encoding new.mouse_encoding second)
    (cursor_style_sets was.cursor_style new.cursor_style third))

-- If the mouse modes and cursor style are the defaults, the output for all modes sets every mode, whatever the other
-- modes were.
input_sets : (was new : Modes) → Sets (input_text new) (with_mouse_and_style no_modes was) new
input_sets was new =
    let first : Modes = with_mouse_and_style no_modes was in
    let second : Modes = record first { application_keypad = new.application_keypad } in
    let third : Modes = record second { application_cursor = new.application_cursor } in
    let keypad = keypad_text new.application_keypad in
    let keys = application_cursor_text new.application_cursor in
    let paste = bracketed_paste_text new.bracketed_paste in
    let rest = mouse_and_style_text no_modes new in
    one_then keypad (keys ++ (paste ++ rest)) first second new (keypad_sets new.application_keypad first)
    (one_then keys (paste ++ rest) second third new (cursor_keys_set new.application_cursor second)
    (one_then paste rest third (with_mouse_and_style no_modes new) new (paste_sets new.bracketed_paste third)
    (mouse_and_style_set no_modes new new)))

input_changes : (was new : Modes) → Sets (input_change was new) was new
input_changes was new =
    let second : Modes = record was { application_keypad = new.application_keypad } in
    let third : Modes = record second { application_cursor = new.application_cursor } in
    let keypad = where_changed was.application_keypad new.application_keypad (keypad_text new.application_keypad) in
    let keys =
    where_changed was.application_cursor new.application_cursor (application_cursor_text new.application_cursor) in
    let paste = where_changed was.bracketed_paste new.bracketed_paste (bracketed_paste_text new.bracketed_paste) in
    let rest = mouse_and_style_text was new in
    one_then keypad (keys ++ (paste ++ rest)) was second new
    (keypad_changes was.application_keypad new.application_keypad was)
    (one_then keys (paste ++ rest) second third new
    (cursor_keys_change was.application_cursor new.application_cursor second)
    (one_then paste rest third (with_mouse_and_style was new) new
    (paste_changes was.bracketed_paste new.bracketed_paste third)
    (mouse_and_style_set was new new)))

-- The output for all modes sets them on every terminal with the default mouse modes and cursor style.
pub modes_set : (new : Modes) (text : List ℕ) → text ≡ input_text new → SetsModes HasDefaultMouseAndStyle new text
modes_set new text told reader had =
    let m = reader.modes in
    let same : with_mouse_and_style no_modes m ≡ m =
    ap (λ (x : MouseProtocolMode). record m
    { mouse_mode = x; mouse_encoding = no_modes.mouse_encoding; cursor_style = no_modes.cursor_style })
    (sym had.mouse_mode)
    ∙ (ap (λ (x : MouseProtocolEncoding). record m { mouse_encoding = x; cursor_style = no_modes.cursor_style })
    (sym had.mouse_encoding)
    ∙ ap (λ (x : CursorStyle). record m { cursor_style = x }) (sym had.cursor_style)) in
    subst (λ (t : List ℕ). ReadsTo t reader (record reader { modes = new })) (sym told)
    (subst (λ (x : Modes). ReadsTo (input_text new) (record reader { modes = x }) (record reader { modes = new }))
    same (input_sets m new reader))

-- The output for changed modes sets the new modes on every terminal that has the previous ones.
pub modes_changed : (was new : Modes) (text : List ℕ) →
    text ≡ input_change was new → SetsModes (λ had. had ≡ was) new text
modes_changed was new text told reader had =
    subst (λ (t : List ℕ). ReadsTo t reader (record reader { modes = new })) (sym told)
    (subst (λ (x : Modes). ReadsTo (input_change was new) (record reader { modes = x }) (record reader { modes = new }))
    (sym had) (input_changes was new reader))

-- ---- the output is empty only if all modes are equal

pub same_some : {A : Type 0} (x y : A) → Some x ≡ Some y → x ≡ y
same_some x y e = cc

pub change_tells : (was new : Modes) → input_change was new ≡ [] → new ≡ was
change_tells was new none =
    let reader : ScreenValue = record (fresh_screen 1 1 0) { modes = was } in
    let left : Terminal = terminal start (record reader { modes = new }) in
    let same : left ≡ terminal start reader =
    same_some left (terminal start reader)
    (sym (input_changes was new reader) ∙ ap (terminal_after (terminal start reader)) none) in
    ap (λ (t : Terminal). t.screen.modes) same

-- The output for equal modes is empty.

unchanged : (b : Bool) (text : List ℕ) → where_changed b b text ≡ []
unchanged true text = refl
unchanged false text = refl

mode_kept : (mode : MouseProtocolMode) → mouse_mode_change mode mode ≡ []
mode_kept mouse.None = refl
mode_kept mouse.Press = refl
mode_kept mouse.PressRelease = refl
mode_kept mouse.ButtonMotion = refl
mode_kept mouse.AnyMotion = refl

encoding_kept : (form : MouseProtocolEncoding) → mouse_encoding_change form form ≡ []
encoding_kept encoding.Default = refl
encoding_kept encoding.Utf8 = refl
encoding_kept encoding.Sgr = refl

style_kept : (look : CursorStyle) → cursor_style_change look look ≡ []
style_kept style.Default = refl
style_kept style.BlinkBlock = refl
style_kept style.SteadyBlock = refl
style_kept style.BlinkUnderline = refl
style_kept style.SteadyUnderline = refl
style_kept style.BlinkVerticalBar = refl
style_kept style.SteadyVerticalBar = refl

no_change : (m : Modes) → input_change m m ≡ []
no_change m =
    rw (
      unchanged m.application_keypad (keypad_text m.application_keypad),
      unchanged m.application_cursor (application_cursor_text m.application_cursor),
      unchanged m.bracketed_paste (bracketed_paste_text m.bracketed_paste),
      mode_kept m.mouse_mode,
      encoding_kept m.mouse_encoding,
      style_kept m.cursor_style,
    ) refl

pub change_none : (was new : Modes) → new ≡ was → input_change was new ≡ []
change_none was new same = ap (input_change was) same ∙ no_change was

-- ==== A terminal that reads the output for a whole state displays the screen and has its input modes.

-- The terminal after it was changed to display a screen and have its input modes.
abbrev restored : (screen : ScreenValue) → Saved → Option ℕ → ScreenValue → ScreenValue
restored screen saved last reader = record (reader_with_display (display screen) saved last reader) { modes = screen.modes }

record Restores (screen : ScreenValue) (text : List ℕ) (reader : ScreenValue) : Type 0 where
  saved : Saved
  last : Option ℕ
  reads : ReadsTo text reader (restored screen saved last reader)

-- Output that displays a screen, followed by output that sets its input modes, restores the whole state.
restores : (Had : Modes → Type 0) (screen reader : ScreenValue) (picture modes : List ℕ) →
    Becomes (display screen) picture reader → SetsModes Had screen.modes modes →
    Had reader.modes → Restores screen (picture ++ modes) reader
restores Had screen reader picture modes b sets had =
    let after : ScreenValue = reader_with_display (display screen) b.saved b.last reader in record {
      saved = b.saved;
      last = b.last;
      reads =
          reads_then (terminal start reader) (terminal start after)
          (terminal start (restored screen b.saved b.last reader)) picture modes b.reads (sets after had);
    }

state_read : (screen reader : ScreenValue) → IsScreen screen → IsColored screen →
    IsSteady (display screen) → IsStateReader screen reader → Restores screen (state_text screen) reader
state_read screen reader is colored steady r =
    restores HasDefaultMouseAndStyle screen reader (shown_text screen) (input_text screen.modes)
    (redraw_read screen reader is colored steady r.is) (modes_set screen.modes (input_text screen.modes) refl) r.modes

change_read : (screen prev reader : ScreenValue) → IsScreen screen → IsColored screen → IsSteady (display screen)
    → IsScreen prev → IsColored prev → SamePictureSize (display screen) (display prev) → IsStateReaderOf screen prev reader
    → Restores screen (state_change prev screen) reader
change_read screen prev reader is colored steady other colored_other size r =
    restores (λ had. had ≡ prev.modes) screen reader
    (display_change prev screen) (input_change prev.modes screen.modes)
    (difference_read screen prev reader is colored steady other colored_other size r.is)
    (modes_changed prev.modes screen.modes (input_change prev.modes screen.modes) refl) r.modes

-- ---- the consequences for each terminal

after_is : (screen : ScreenValue) (text : List ℕ) (reader after : ScreenValue) (b : Restores screen text reader) →
    ReadsTo text reader after → restored screen b.saved b.last reader ≡ after
after_is screen text reader after b e =
    ap (λ (t : Terminal). t.screen)
    (same_some (terminal start (restored screen b.saved b.last reader)) (terminal start after) (sym b.reads ∙ e))

-- Input modes don't change what is displayed.
plain_again : (screen : ScreenValue) (saved : Saved) (last : Option ℕ) (reader : ScreenValue) → IsScreen screen →
    IsReader (display screen) reader → ShowsPlainly (display screen) reader (restored screen saved last reader)
plain_again screen saved last reader is r =
    let (plain, shows) = shows_plainly (display screen) reader (reader_with_display (display screen) saved last reader)
    (shown_is screen is) r (record { saved = saved; last = last; is = refl }) in
    (record { page = plain.page; offset = plain.offset }, shows)

redraws : (Reader : ScreenValue → Type 0) (screen : ScreenValue) (text : List ℕ) → IsScreen screen
    → ((reader : ScreenValue) → Reader reader → IsReader (display screen) reader)
    → (IsSteady (display screen) → (reader : ScreenValue) → Reader reader → Restores screen text reader)
    → Redraws (display screen) Reader KeepsRestButModes text
redraws Reader screen text is readers reads = record {
  quiet = λ steady reader r. let b = reads steady reader r in (restored screen b.saved b.last reader, b.reads);
  shows = λ steady reader after r e.
      let b = reads steady reader r in
      subst (ShowsPlainly (display screen) reader) (after_is screen text reader after b e)
      (plain_again screen b.saved b.last reader is (readers reader r));
  rows =
      λ steady reader after r e. subst (HasRows (display screen) reader)
      (after_is screen text reader after (reads steady reader r) e) refl;
  cursor =
      λ steady reader after r e. subst (HasCursor (display screen) reader)
      (after_is screen text reader after (reads steady reader r) e)
      (record { row = refl; column = refl; attrs = refl; hidden = refl });
  rest =
      λ steady reader after r e. subst (KeepsRestButModes reader)
      (after_is screen text reader after (reads steady reader r) e)
      (record {
        other = refl;
        is_alternate = refl;
        scrollback = refl;
        width = refl;
        top = refl;
        bottom = refl;
        origin = refl;
      });
}

gives : (Reader : ScreenValue → Type 0) (screen : ScreenValue) (text : List ℕ) → IsScreen screen
    → ((reader : ScreenValue) → Reader reader → IsReader (display screen) reader)
    → (IsSteady (display screen) → (reader : ScreenValue) → Reader reader → Restores screen text reader)
    → GivesState Reader screen text
gives Reader screen text is readers reads = record {
  redraws = redraws Reader screen text is readers reads;
  modes =
      λ steady reader after r e. subst (HasModes screen.modes reader)
      (after_is screen text reader after (reads steady reader r) e) refl;
}

pub state_gives : (screen : ScreenValue) (text : List ℕ) → text ≡ state_text screen →
    IsScreen screen → IsColored screen → GivesState (IsStateReader screen) screen text
state_gives screen text told is colored =
    gives (IsStateReader screen) screen text is (λ reader r. r.is)
    (λ steady reader r. subst (λ (t : List ℕ). Restores screen t reader)
    (sym told) (state_read screen reader is colored steady r))

pub change_gives : (screen prev : ScreenValue) (text : List ℕ) → text ≡ state_change prev screen
    → IsScreen screen → IsColored screen
    → IsScreen prev → IsColored prev → SamePictureSize (display screen) (display prev)
    → GivesState (IsStateReaderOf screen prev) screen text
change_gives screen prev text told is colored other colored_other size =
    gives (IsStateReaderOf screen prev) screen text is (λ reader r. r.is.is)
    (λ steady reader r. subst (λ (t : List ℕ). Restores screen t reader) (sym told)
    (change_read screen prev reader is colored steady other colored_other size r))

-- ---- empty output

pub both_empty : (a b : List ℕ) → (a ++ b) ≡ [] → (a ≡ []) × (b ≡ [])
both_empty [] b e = (refl, e)
both_empty (x ∷ a) b e = absurd cc

-- If the output is empty, both screens display the same content and have the same modes.
pub state_tells : (screen prev : ScreenValue) → IsScreen screen → IsColored screen → IsSteady (display screen)
    → IsScreen prev → IsColored prev → SamePictureSize (display screen) (display prev) → state_change prev screen ≡ []
    → (display screen ≡ display prev) × (screen.modes ≡ prev.modes)
state_tells screen prev is colored steady other colored_other size empty =
    let (picture, modes) =
    both_empty (display_change prev screen) (input_change prev.modes screen.modes) empty in (
      difference_tells screen prev is colored steady other colored_other size picture,
      change_tells prev.modes screen.modes modes,
    )

-- The output is empty if both screens display the same content and have the same modes.
pub state_none : (screen prev : ScreenValue) → display screen ≡ display prev →
    screen.modes ≡ prev.modes → state_change prev screen ≡ []
state_none screen prev picture modes =
    ap (λ (text : List ℕ). text ++ input_change prev.modes screen.modes)
    (difference_none (display screen) (display prev) picture)
    ∙ change_none prev.modes screen.modes modes
