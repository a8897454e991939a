-- The text or output that each call generates, and how it is stored.
use Rattle.std.specs.Prelude.{◌≡◌, ◌<◌, ◌≤◌, ◌/◌, ◌%◌, ◌==◌, ℕ, IsTrue, List, [], ◌++◌, Option, length, if◌then◌else◌}
use Rattle.vt_cells.specs.Op.{bytes_of_all}
use Rattle.vt_redraw.specs.Redraw.{cursor_state, difference, redraw}
use Rattle.vt_rows.specs.Basic.{nothing_written}
use Rattle.vt_screen.specs.Again.{KeepsPlain}
use Rattle.vt_screen.specs.AnyRegion.{reset_text}
use Rattle.vt_screen.specs.Capture.{basic_texts}
use Rattle.vt_screen.specs.Contents.{between_of, contents_of}
use Rattle.vt_screen.specs.Diffs.{IsDiffWith, KeepsScreensPlain, RepeatsOnlyInRows, diff_controls, finals_with}
use Rattle.vt_screen.specs.Diffs.{form_with}
use Rattle.vt_screen.specs.declared.diff_options.DiffOptions.{DiffOptions}
use Rattle.vt_screen.specs.declared.redraw_options.RedrawOptions.{RedrawOptions}
use Rattle.vt_screen.specs.declared.repeat.Repeat.{Repeat}
use Rattle.vt_screen.specs.declared.repeat.Repeat.TheVariants.{Never, Ascii, Any}
use Rattle.vt_screen.specs.States.{input_change, input_text, AreModes, GivesState, IsEmptyIfSameState}
use Rattle.vt_screen.specs.States.{IsSameStateIfEmpty, IsStateReaderOf, state_change, state_text, DrawsThenSets}
use Rattle.vt_screen.specs.States.{IsStateDiffWith, SetsModesOnScreens, state_change_in, state_diff_controls}
use Rattle.vt_screen.specs.States.{state_text_in}
use Rattle.vt_screen.specs.MadeOf.{IsMadeOf, shortened_controls, shortened_finals}
use Rattle.vt_screen.specs.Screen.{ScreenValue, visible_rows}
use Rattle.vt_screen.specs.ShortMoves.{IsMovingOrRedraw}
use Rattle.vt_screen.specs.Shown.{IsSameIfEmpty, RedrawsFrom, attributes_text, display, display_change_in, form_of}
use Rattle.vt_screen.specs.Shown.{shown_text, shown_text_in}
use Rattle.vt_screen.specs.Portable.{IsPortableFrom}
use Rattle.vt100_c.specs.Due.{HoldBoth, HoldsScreen, any_screen, any_screens, sizes_status, source_at, start_status}
use Rattle.vt100_c.specs.Due.{text_at}
use Rattle.vt100_c.specs.Status.{ok, out_of_memory}
use Rattle.vt100_c.specs.declared.output.Difference.{Difference}
use Rattle.vt100_c.specs.declared.output.Difference.TheVariants as between
use Rattle.vt100_c.specs.declared.output.Text.{Text}
use Rattle.vt100_c.specs.declared.output.Text.TheVariants as text
use Rattle.vt100_c.specs.declared.object.Object.{Object}

-- ---- one screen

abbrev pub text_of : Text → ScreenValue → List ℕ
text_of text.Contents screen = contents_of screen
text_of (text.Between start_row start_col end_row end_col) screen =
    between_of start_row start_col end_row end_col screen
text_of text.Formatted screen = bytes_of_all (redraw (display screen))
text_of (text.FormattedWith options) screen = shown_text_in (form_of options.portable) screen
text_of text.FormattedReset screen = reset_text (display screen)
text_of text.FormattedBasic screen = basic_texts nothing_written (visible_rows screen)
text_of text.State screen = state_text screen
text_of (text.StateWith options) screen = state_text_in (form_of options.portable) screen
text_of text.CursorState screen = bytes_of_all (cursor_state (display screen))
text_of text.Attributes screen = attributes_text screen.attrs
text_of text.InputMode screen = input_text screen.modes

-- The status of a call that generates the given text from a screen: `bad_argument` if the text between two positions is
-- requested and the range extends past its first row and starts beyond the screen's width, otherwise `ok`.
abbrev pub due_for : Text → ScreenValue → ℕ
due_for (text.Between start_row start_col end_row end_col) screen = start_status start_row start_col end_row screen
due_for _ screen = any_screen screen

-- ---- two screens

-- The text is a diff from the display of `prev` to the display of `screen`, and it may move rows or columns, or be the
-- redraw of `screen`. A plain terminal that displays `prev` and reads the text displays `screen`, if that screen is
-- steady. The text is never longer than the diff that moves no rows or columns, or than the redraw, contains only drawing
-- sequences, and leaves every plain terminal plain. It is empty if both screens have the same display, and if `screen` is
-- steady, only then.
pub record IsScrollingDiff (screen prev : ScreenValue) (text : List ℕ) : Type 0 where
  pub draws : IsMovingOrRedraw (display screen) (display prev) text
  pub controls : IsMadeOf shortened_finals shortened_controls text
  pub again : KeepsPlain text
  pub shorter : length text ≤ length (bytes_of_all (difference (display screen) (display prev)))
  pub redraw : length text ≤ length (shown_text screen)
  pub redraws : RedrawsFrom prev screen text
  pub empty : IsSameIfEmpty prev screen text
  pub none : display screen ≡ display prev → text ≡ []

-- The characters that may be repeated with REP, given the bits of a number: all if bit 1 is set, otherwise printable
-- ASCII characters if bit 2 is set, otherwise none.
abbrev pub repeat_of : ℕ → Repeat
repeat_of bits = if bits / 2 % 2 == 1 then Any else (if bits / 4 % 2 == 1 then Ascii else Never)

-- The options that the bits of a number select: bit 0 allows moving rows and, unless the diff is portable, columns; bits
-- 1 and 2 allow REP; and bit 3 makes the diff portable.
abbrev pub options_of : ℕ → DiffOptions
options_of bits = record { scroll = bits % 2 == 1; repeat = repeat_of bits; portable = bits / 8 % 2 == 1 }

-- The options for a redraw that the bits of a number select: bit 3 makes the redraw portable.
abbrev pub redraw_options_of : ℕ → RedrawOptions
redraw_options_of bits = record { portable = bits / 8 % 2 == 1 }

-- The text is a diff from the display of `prev` to the display of `screen` with the given options. A plain terminal that
-- displays `prev` and reads the text displays `screen`, if that screen is steady. The text is never longer than the diff
-- in its form that moves no rows or columns or, if it may move rows, than the redraw in its form. It contains only
-- drawing sequences and REP, repeats characters only within rows, and leaves every plain terminal plain. It is empty if
-- both screens have the same display, and if `screen` is steady, only then. With `portable`, terminals agree on the
-- effect of each of its elements, if `screen` is steady.
pub record IsDiffWithOptions (options : DiffOptions) (screen prev : ScreenValue) (text : List ℕ) : Type 0 where
  pub draws : IsDiffWith options prev screen text
  pub controls : IsMadeOf (finals_with options.repeat options.scroll) (diff_controls options.scroll) text
  pub rows : RepeatsOnlyInRows prev screen text
  pub again : KeepsScreensPlain text
  pub shorter : length text ≤ length (display_change_in (form_with options) prev screen)
  pub redraw : IsTrue options.scroll → length text ≤ length (shown_text_in (form_with options) screen)
  pub redraws : RedrawsFrom prev screen text
  pub empty : IsSameIfEmpty prev screen text
  pub none : display screen ≡ display prev → text ≡ []
  pub portable : IsTrue options.portable → IsPortableFrom prev screen text

-- The text is a diff with the given options from the display and input modes of `prev` to those of `screen`. A plain
-- terminal that displays `prev`, has its modes and reads the text displays `screen` and has its modes, if that screen is
-- steady. The text is never longer than the diff in its form that moves no rows or columns or, if it may move rows, than
-- the redraw in its form, each followed by the changes of modes. It contains only drawing sequences, sequences that set input modes, and REP, repeats
-- characters only within rows, and leaves every plain terminal with the modes of `prev` plain. It is empty if both screens
-- have the same display and modes, and if `screen` is steady, only then. If it must be portable, it is so up to the changes
-- of modes.
pub record IsStateDiffWithOptions (options : DiffOptions) (screen prev : ScreenValue) (text : List ℕ) : Type 0 where
  pub draws : IsStateDiffWith options prev screen text
  pub controls : IsMadeOf (finals_with options.repeat options.scroll) (state_diff_controls options.scroll) text
  pub rows : RepeatsOnlyInRows prev screen text
  pub again : SetsModesOnScreens (AreModes prev.modes) screen.modes text
  pub gives : GivesState (IsStateReaderOf screen prev) screen text
  pub shorter : length text ≤ length (state_change_in (form_with options) prev screen)
  pub redraw : IsTrue options.scroll →
      length text ≤ length (shown_text_in (form_with options) screen ++ input_change prev.modes screen.modes)
  pub empty : IsSameStateIfEmpty prev screen text
  pub none : IsEmptyIfSameState prev screen text
  pub portable : IsTrue options.portable →
      DrawsThenSets (IsPortableFrom prev screen) (input_change prev.modes screen.modes) text

abbrev pub IsDifference : Difference → ScreenValue → ScreenValue → List ℕ → Type 0
IsDifference between.Contents screen prev text = text ≡ bytes_of_all (difference (display screen) (display prev))
IsDifference between.Scrolling screen prev text = IsScrollingDiff screen prev text
IsDifference (between.With options) screen prev text = IsDiffWithOptions options screen prev text
IsDifference between.State screen prev text = text ≡ state_change prev screen
IsDifference (between.StateWith options) screen prev text = IsStateDiffWithOptions options screen prev text
IsDifference between.InputMode screen prev text = text ≡ input_change prev.modes screen.modes

-- The status of a call that generates a diff between two screens: `other_size` if the screens differ in size, unless
-- the diff covers only the input modes; otherwise `ok`.
abbrev pub due_for_both : Difference → ScreenValue → ScreenValue → ℕ
due_for_both between.InputMode screen prev = any_screens screen prev
due_for_both _ screen prev = sizes_status screen prev

-- ---- texts whose allocation may fail

-- If the text between two positions is requested, that text is not empty.
abbrev pub HasText : Text → ScreenValue → Type 0
HasText (text.Between start_row start_col end_row end_col) screen =
    0 < length (between_of start_row start_col end_row end_col screen)
HasText _ screen = Unit {0}

-- The output is not empty, and the screens display different content.
abbrev pub HasChange : (text : List ℕ) → ScreenValue → ScreenValue → Type 0
HasChange text screen prev = (0 < length text) × ¬ (display screen ≡ display prev)

-- The output is not empty, and the screens display different content or have different input modes.
abbrev pub HasStateChange : (text : List ℕ) → ScreenValue → ScreenValue → Type 0
HasStateChange text screen prev =
    (0 < length text) × ¬ ((display screen ≡ display prev) × (screen.modes ≡ prev.modes))

abbrev pub HasDifference : Difference → ScreenValue → ScreenValue → Type 0
HasDifference between.State screen prev = HasStateChange (state_change prev screen) screen prev
HasDifference (between.StateWith options) screen prev =
    HasStateChange (state_change_in (form_with options) prev screen) screen prev
HasDifference between.InputMode screen prev =
    (0 < length (input_change prev.modes screen.modes)) × ¬ (screen.modes ≡ prev.modes)
HasDifference (between.With options) screen prev =
    HasChange (display_change_in (form_with options) prev screen) screen prev
HasDifference _ screen prev = HasChange (bytes_of_all (difference (display screen) (display prev))) screen prev

-- ---- the effects of calls on handles

-- The text that `name` selects is generated from the handle's screen, which is unchanged.
pub record MakesText (name : Text) (old : Option Object) (status : ℕ) (new : Option Object) : Type 0 where
  pub source : source_at new ≡ source_at old
  pub nonempty : status ≡ out_of_memory → HoldsScreen old (HasText name)
  pub made : status ≡ ok → HoldsScreen old (λ screen. text_at new ≡ text_of name screen)

-- The diff that `name` selects is generated, from the screen of the handle `prev` to the screen of the handle `old`.
-- The screen of `old` is unchanged.
pub record MakesDifference (name : Difference) (old prev : Option Object) (status : ℕ) (new : Option Object) :
    Type 0 where
  pub source : source_at new ≡ source_at old
  pub nonempty : status ≡ out_of_memory → HoldBoth old prev (HasDifference name)
  pub made : status ≡ ok → HoldBoth old prev (λ screen before. IsDifference name screen before (text_at new))

-- The generated text is stored in the handle, and its length is stored in the caller's variable. If the call fails, the
-- handle and the variable are unchanged.
pub record KeepsText (old : Option Object) (status : ℕ) (new : Option Object) (before after : ℕ) : Type 0 where
  pub len : status ≡ ok → after ≡ length (text_at new)
  pub refused : ¬ (status ≡ ok) → new ≡ old
  pub refused_len : ¬ (status ≡ ok) → after ≡ before

-- The generated text is stored in the first handle, and its length is stored in the caller's variable. If the call
-- fails, the first handle and the variable are unchanged. The second handle is always unchanged.
pub record KeepsBoth (old other : Option Object) (status : ℕ) (new other' : Option Object) (before after : ℕ) :
    Type 0 where
  pub same : other' ≡ other
  pub first : KeepsText old status new before after
