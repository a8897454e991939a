-- The effect of reading bytes that invoke no callbacks, allocate nothing, and scroll no rows off the page.
use Rattle.std.specs.Prelude.{◌==◌, ℕ, Bool, true, false, List, [], ◌∷◌, Option, Some, None, is_some, if◌then◌else◌}
use Rattle.vt_grid.specs.Canvas.{and_then}
use Rattle.vt_grid.specs.Moves.{feeds_out}
use Rattle.vt_grid.specs.Printing.{pushes}
use Rattle.vt_screen.specs.Screen.{ScreenValue}
use Rattle.vt_screen.specs.Controls.{seen_of, steps_of}
use Rattle.vt_screen.specs.Steps.{Step, Print, LineFeed, ScrollUp, EraseScrollback}
use Rattle.vt_screen.specs.Steps.{EnterAlternate, EnterFresh, CallBack, display_after}
use Rattle.vt_scan.specs.Automaton.{State, Event, step_in}
use Rattle.vt_scan.specs.Table.{class_of, transition_of}
use Rattle.vt_scan.specs.declared.table.Kind.TheVariants.{OscString}
use Rattle.vt_scan.specs.declared.table.Transition.{Transition}
use Rattle.vt_scan.specs.declared.table.Transition.TheVariants.{Collect}

-- The screen after a step; `None` if the step would invoke a callback, allocate, scroll a row off the page or erase
-- scrollback.
abbrev pub quiet_step : Step → ScreenValue → Option ScreenValue
quiet_step (Print c) screen = if pushes c screen.page then None else Some (display_after (Print c) screen)
quiet_step LineFeed screen = if feeds_out screen.page then None else Some (display_after LineFeed screen)
quiet_step (ScrollUp count) screen = if screen.page.top == 0 then None else Some (display_after (ScrollUp count) screen)
quiet_step EraseScrollback screen = None
quiet_step EnterAlternate screen = if is_some screen.other then Some (display_after EnterAlternate screen) else None
quiet_step EnterFresh screen = if is_some screen.other then Some (display_after EnterFresh screen) else None
quiet_step (CallBack call) screen = None
quiet_step step screen = Some (display_after step screen)

abbrev pub quiet_steps : List Step → ScreenValue → Option ScreenValue
quiet_steps [] screen = Some screen
quiet_steps (step ∷ steps) screen = and_then (quiet_steps steps) (quiet_step step screen)

abbrev pub quiet_events : List Event → ScreenValue → Option ScreenValue
quiet_events [] screen = Some screen
quiet_events (event ∷ events) screen =
    and_then (quiet_events events) (quiet_steps (steps_of event (seen_of screen)) screen)

-- Whether a transition may allocate: only one that collects a byte of an operating system command may do so.
abbrev pub grows : Transition → Bool
grows (Collect OscString) = true
grows _ = false

-- A terminal: the state of its scanner, and its screen.
pub record Terminal : Type 0 where
  pub scan : State
  pub screen : ScreenValue

abbrev pub terminal : State → ScreenValue → Terminal
terminal scan screen = record { scan = scan; screen = screen }

-- The terminal after a byte; `None` if the byte would invoke a callback, allocate, scroll a row off the page or erase
-- scrollback.
unfoldable pub read_byte : Terminal → ℕ → Option Terminal
read_byte t b =
    if grows (transition_of t.scan.kind (class_of b)) then None
    else let step = step_in t.scan.kind t.scan.collected b in
    and_then (λ screen. Some (terminal step.state screen)) (quiet_events step.events t.screen)

abbrev pub terminal_after : Terminal → List ℕ → Option Terminal
terminal_after t [] = Some t
terminal_after t (b ∷ bytes) = and_then (λ u. terminal_after u bytes) (read_byte t b)
