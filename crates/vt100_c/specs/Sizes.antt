-- Resizing a value, and changing its scrollback.
use Rattle.std.specs.Prelude.{◌≡◌, ℕ, false, length, zero, suc}
use Rattle.std.specs.List.{FoldsTo}
use Rattle.std.specs.declared.result.Result.{Result}
use Rattle.vt_cells.specs.declared.error.Error.{Error}
use Rattle.vt_grid.specs.Scrollback.{ViewTakesMemory}
use Rattle.vt_mirror.specs.Calls.{Resizes}
use Rattle.vt_mirror.specs.Mirror.{MirrorValue}
use Rattle.vt_screen.specs.Pages.{calls_resized, has_size, screen_after_resize}
use Rattle.vt_screen.specs.Run.{CalledOnAnyScreen}
use Rattle.vt_screen.specs.Screen.{ScreenValue, scrolled_back}
use Rattle.vt_screen.specs.Steps.{EraseScrollback, screen_after}
use Rattle.vt100.specs.Parser.{ParserValue}
use Rattle.vt100_c.specs.Calls.{Either, Refuses, is_size}
use Rattle.vt100_c.specs.Records.{Logged, Logs}
use Rattle.vt100_c.specs.Status.{bad_argument, ok, wrong_kind, status_of_result}
use Rattle.vt100_c.specs.declared.object.Source.{Source}
use Rattle.vt100_c.specs.declared.object.Source.TheVariants.{Parser, Screen, Mirror, Capture, Charsets}

-- The condition that holds after a call: `Done` if the call succeeded (status 0), or `Refused` if an allocation failed
-- (status 1). No other status is possible.
abbrev pub Outcome : (status : ℕ) → (Done Refused : Type 0) → Type 0
Outcome zero Done Refused = Done
Outcome (suc zero) Done Refused = Refused
Outcome (suc (suc status)) Done Refused = ⊥

-- The parser's screen is resized, and the rows that the resize drops are reported to the parser's log. All other parts
-- of the parser are unchanged.
pub record HasResized (rows cols : ℕ) (old new : ParserValue Logged) : Type 0 where
  pub screen : new ≡ record old { screen = screen_after_resize rows cols old.screen; callbacks = new.callbacks }
  pub called : FoldsTo (CalledOnAnyScreen Logs) old.callbacks (calls_resized rows cols old.screen) new.callbacks

abbrev pub ResizesParser : (rows cols : ℕ) → ParserValue Logged → ℕ → ParserValue Logged → Type 0
ResizesParser rows cols old status new =
    Outcome status (HasResized rows cols old new) ((new ≡ old) × (has_size rows cols old.screen ≡ false))

abbrev pub ResizesScreen : (rows cols : ℕ) → ScreenValue → ℕ → ScreenValue → Type 0
ResizesScreen rows cols old status new =
    Outcome status (new ≡ screen_after_resize rows cols old) ((new ≡ old) × (has_size rows cols old ≡ false))

-- A mirror is resized with the effect of `Mirror::set_size`, and the status is that of its result.
pub record ResizesMirror (rows cols : ℕ) (old : MirrorValue) (status : ℕ) (new : MirrorValue) : Type 0 where
  pub answer : Result (Unit {0}) Error
  pub call : Resizes old rows cols answer new
  pub status_is : status ≡ status_of_result answer

-- A parser, a saved screen or a mirror is resized; for any other kind of value, the status is `wrong_kind`.
abbrev pub ResizesSource : (rows cols : ℕ) → Source → ℕ → Source → Type 0
ResizesSource rows cols (Parser old) status (Parser new) = ResizesParser rows cols old status new
ResizesSource rows cols (Screen old) status (Screen new) = ResizesScreen rows cols old status new
ResizesSource rows cols (Mirror old) status (Mirror new) = ResizesMirror rows cols old status new
ResizesSource rows cols (Capture old) status new = Refuses wrong_kind (Capture old) status new
ResizesSource rows cols (Charsets old) status new = Refuses wrong_kind (Charsets old) status new
ResizesSource rows cols old status new = ⊥

-- A value is resized; for 0 rows or 0 columns, the status is `bad_argument`.
abbrev pub SetsSize : (rows cols : ℕ) → Source → ℕ → Source → Type 0
SetsSize rows cols old status new =
    Either (is_size rows cols) (ResizesSource rows cols old status new) (Refuses bad_argument old status new)

-- ---- resizing and scrolling without events

-- A call has the effect `Does` on a saved screen, or on the screen of a parser that is otherwise unchanged. For any
-- other kind of value, the status is `wrong_kind` and the value is unchanged.
abbrev pub ChangesScreen : (ScreenValue → ℕ → ScreenValue → Type 0) → Source → ℕ → Source → Type 0
ChangesScreen Does (Parser old) status (Parser new) =
    Does old.screen status new.screen × (new ≡ record old { screen = new.screen })
ChangesScreen Does (Screen old) status (Screen new) = Does old status new
ChangesScreen Does (Mirror old) status new = Refuses wrong_kind (Mirror old) status new
ChangesScreen Does (Capture old) status new = Refuses wrong_kind (Capture old) status new
ChangesScreen Does (Charsets old) status new = Refuses wrong_kind (Charsets old) status new
ChangesScreen Does old status new = ⊥

abbrev pub SetsScreenSize : (rows cols : ℕ) → Source → ℕ → Source → Type 0
SetsScreenSize rows cols old status new =
    Either (is_size rows cols) (ChangesScreen (ResizesScreen rows cols) old status new) (Refuses bad_argument old status new)

-- The screen is unchanged because an allocation failed. Such a failure is possible only if the main page is active and
-- a scrollback row that would be displayed must be extended to the width of the screen.
pub record HasNotScrolledBack (rows : ℕ) (old new : ScreenValue) : Type 0 where
  pub same : new ≡ old
  pub main : old.is_alternate ≡ false
  pub grows : ViewTakesMemory (length old.page.rows) old.page.width rows old.scrollback

abbrev pub ScrollsBack : (rows : ℕ) → ScreenValue → ℕ → ScreenValue → Type 0
ScrollsBack rows old status new = Outcome status (new ≡ scrolled_back rows old) (HasNotScrolledBack rows old new)

-- The scrollback of the screen is erased, and the status is `ok`.
abbrev pub Clears : ScreenValue → ℕ → ScreenValue → Type 0
Clears old status new = (status ≡ ok) × (new ≡ screen_after EraseScrollback old)
