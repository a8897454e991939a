-- Diffs with options: whether the diff may move rows and columns, and which characters may be repeated with REP.
use Rattle.std.specs.Prelude.{◌≡◌, ◌-◌, ℕ, Bool, true, false, List, ◌∷◌}
use Rattle.vt_screen.specs.Again.{KeepsPlain, LeavesPlain}
use Rattle.vt_screen.specs.MadeOf.{IsMadeOf, drawing_controls, drawing_finals, shortened_controls, shortened_finals}
use Rattle.vt_screen.specs.Repeating.{Repeats, RepeatsInRows}
use Rattle.vt_screen.specs.Screen.{IsScreen, ScreenValue}
use Rattle.vt_screen.specs.ShortMoves.{IsMovingOrRedrawIn}
use Rattle.vt_screen.specs.Shown.{IsPlain, IsReaderOf, display, display_change_in, form_of}
use Rattle.vt_screen.specs.Touched.{TouchesNear}
use Rattle.vt_redraw.specs.declared.form.Form.{Form}
use Rattle.vt_screen.specs.declared.diff_options.DiffOptions.{DiffOptions}
use Rattle.vt_screen.specs.declared.repeat.Repeat.{Repeat}
use Rattle.vt_screen.specs.declared.repeat.Repeat.TheVariants.{Never}

-- The form of a diff with the given options.
abbrev pub form_with : DiffOptions → Form
form_with options = form_of options.portable

-- The output is a diff from the screen `was` to the screen `new` in the given form. If `scroll` is true, the diff may
-- move rows or, in the fixed form, columns, or be the redraw of `new`. Otherwise, it is the diff that moves no rows or
-- columns.
abbrev pub IsDiff : Form → (scroll : Bool) → (was new : ScreenValue) → List ℕ → Type 0
IsDiff form true was new text = IsMovingOrRedrawIn form (display new) (display was) text
IsDiff form false was new text = text ≡ display_change_in form was new

-- The final bytes of the control sequences with numeric parameters that may occur in a diff without REP, given whether
-- the diff is a scrolling one.
abbrev pub diff_finals : (scroll : Bool) → List ℕ
diff_finals true = shortened_finals
diff_finals false = drawing_finals

-- The fixed sequences that may occur in a diff without REP, given whether the diff is a scrolling one.
abbrev pub diff_controls : (scroll : Bool) → List (List ℕ)
diff_controls true = shortened_controls
diff_controls false = drawing_controls

-- The final bytes of the control sequences with numeric parameters that may occur in a diff with options: those of a
-- diff without REP, and that of REP unless no character is repeatable.
abbrev pub finals_with : Repeat → (scroll : Bool) → List ℕ
finals_with Never scroll = diff_finals scroll
finals_with repeat scroll = 0x62 ∷ diff_finals scroll

-- The output `text` is `plain` with some runs of repeatable characters written with REP, for terminals that have the
-- width and the cursor column of the screen `was`. If no character is repeatable, `text` equals `plain`.
abbrev pub MayRepeat : Repeat → (was : ScreenValue) → (plain text : List ℕ) → Type 0
MayRepeat Never was plain text = text ≡ plain
MayRepeat repeat was plain text = Repeats repeat was.page.width (was.page.width - was.page.column) plain text

-- The output is a diff with the given options. It is made from a diff without REP by writing runs with REP if the
-- options allow it. The diff without REP contains only drawing sequences and leaves plain terminals plain. In the fixed
-- form, and if it moves no rows or columns, it touches only positions near differences (`TouchesNear`).
pub record IsDiffWith (options : DiffOptions) (was new : ScreenValue) (text : List ℕ) : Type 0 where
  pub plain : List ℕ
  pub diff : IsDiff (form_with options) options.scroll was new plain
  pub controls : IsMadeOf (diff_finals options.scroll) (diff_controls options.scroll) plain
  pub again : KeepsPlain plain
  pub touches : options.portable ≡ false → options.scroll ≡ false → TouchesNear was new plain
  pub repeats : MayRepeat options.repeat was plain text

-- While a plain terminal that displays the screen `was` reads the output, each REP repeats its character only within
-- the cursor's row.
abbrev pub RepeatsOnlyInRows : (was new : ScreenValue) → List ℕ → Type 0
RepeatsOnlyInRows was new text =
    (reader : ScreenValue) → IsReaderOf (display new) (display was) reader → RepeatsInRows text reader

-- Every plain terminal whose screen satisfies the invariant `IsScreen` is plain again after it has read the output, as
-- `LeavesPlain` describes.
abbrev pub KeepsScreensPlain : List ℕ → Type 0
KeepsScreensPlain text = (reader : ScreenValue) → IsScreen reader → IsPlain reader → LeavesPlain text reader
