-- The calls to callbacks that parsing bytes causes if callbacks leave the screen unchanged. They depend only on the
-- scanner's state, the screen and the bytes.
use Rattle.std.specs.Prelude.{◌≡◌, ℕ, List, [], ◌∷◌, ◌++◌, map}
use Rattle.std.specs.List.{FoldsTo}
use Rattle.vt_scan.specs.Automaton.{State, Event, run}
use Rattle.vt_screen.specs.Calls.{CallValue, OnScroll}
use Rattle.vt_screen.specs.Screen.{ScreenValue}
use Rattle.vt_screen.specs.Controls.{seen_of, steps_of}
use Rattle.vt_screen.specs.Steps.{Step, CallBack, reports, screen_after}
use Rattle.vt_screen.specs.Run.{CallRelation, CalledOnAnyScreen}

-- Making the given calls in order takes the callbacks from the state `old` to the state `new`, whatever screen is
-- passed to them, and leaves the screen unchanged.
abbrev pub TakesCalls : {S : Type 0} → CallRelation S → S → List CallValue → S → Type 0
TakesCalls does old calls new = FoldsTo (CalledOnAnyScreen does) old calls new

-- The callbacks never change the screen.
abbrev pub LeavesScreen : {S : Type 0} → CallRelation S → Type 0
LeavesScreen {S} does =
    (call : CallValue) → (old new : S) → (before after : ScreenValue) → does call old before new after → after ≡ before

-- For some screen, the call takes the callbacks from the state `old` to the state `new` and leaves that screen
-- unchanged.
abbrev pub CalledOnSomeScreen : {S : Type 0} → CallRelation S → S → CallValue → S → Type 0
CalledOnSomeScreen does old call new = (screen : ScreenValue) × does call old screen new screen

-- The calls to callbacks that a step makes, in order: the step's own call if it has one, and otherwise a report of each
-- row that the step drops from the page or from scrollback.
abbrev pub calls_of : Step → ScreenValue → List CallValue
calls_of (CallBack call) screen = call ∷ []
calls_of step screen = map (λ row. OnScroll row screen.is_alternate) (reports step screen)

-- The calls to callbacks that a list of steps makes, in order.
abbrev pub calls_of_all : List Step → ScreenValue → List CallValue
calls_of_all [] screen = []
calls_of_all (step ∷ steps) screen = calls_of step screen ++ calls_of_all steps (screen_after step screen)

-- The screen after the given steps are taken in order.
abbrev pub screen_after_all : List Step → ScreenValue → ScreenValue
screen_after_all [] screen = screen
screen_after_all (step ∷ steps) screen = screen_after_all steps (screen_after step screen)

-- The steps that the given events cause, in order. The steps of each event depend on the screen before that event.
abbrev pub steps_of_all : List Event → ScreenValue → List Step
steps_of_all [] screen = []
steps_of_all (event ∷ events) screen =
    let steps = steps_of event (seen_of screen) in steps ++ steps_of_all events (screen_after_all steps screen)

-- The steps that parsing the bytes causes, in order.
abbrev pub steps_in : State → ScreenValue → List ℕ → List Step
steps_in scan screen bytes = steps_of_all (run scan bytes).events screen

-- The calls to callbacks that parsing the bytes causes, in order, if callbacks leave the screen unchanged.
abbrev pub calls_in : State → ScreenValue → List ℕ → List CallValue
calls_in scan screen bytes = calls_of_all (steps_in scan screen bytes) screen

-- The screen after parsing the bytes, if callbacks leave the screen unchanged.
abbrev pub screen_in : State → ScreenValue → List ℕ → ScreenValue
screen_in scan screen bytes = screen_after_all (steps_in scan screen bytes) screen
