-- The effects of steps and events on the screen and the callbacks.
use Rattle.std.specs.Prelude.{◌≡◌, ◌⊎◌, Bool, List, [], ◌∷◌}
use Rattle.std.specs.List.{FoldsTo}
use Rattle.vt_rows.specs.Row.{RowValue}
use Rattle.vt_scan.specs.Automaton.{Event}
use Rattle.vt_screen.specs.Calls.{CallValue, OnScroll}
use Rattle.vt_screen.specs.Screen.{ScreenValue}
use Rattle.vt_screen.specs.Controls.{seen_of, steps_of}
use Rattle.vt_screen.specs.Steps.{Step, Print, LineFeed, ScrollUp, EraseScrollback}
use Rattle.vt_screen.specs.Steps.{CallBack, Grows, reports, screen_after, display_after}

-- The state that steps change: callbacks of any type, and the screen.
pub record State (S : Type 0) : Type 0 where
  pub callbacks : S
  pub screen : ScreenValue

abbrev pub state : {S : Type 0} → S → ScreenValue → State S
state callbacks screen = record { callbacks = callbacks; screen = screen }

-- A relation that describes the effect of each callback: it relates the state of the callbacks and the screen before a
-- call to the state of the callbacks and the screen after the call.
abbrev pub CallRelation : Type 0 → Type 1
CallRelation S = CallValue → S → ScreenValue → S → ScreenValue → Type 0

-- The effect of a callback that does not receive the screen: the callback has the same effect whatever the screen is,
-- and leaves the screen unchanged.
abbrev pub CalledOnAnyScreen : {S : Type 0} → CallRelation S → S → CallValue → S → Type 0
CalledOnAnyScreen does old call new = (screen : ScreenValue) → does call old screen new screen

-- The effect of a call to `on_scroll` that reports a row; `alternate` states whether the row comes from the alternate
-- page.
abbrev pub CalledOnScroll : {S : Type 0} → CallRelation S → (alternate : Bool) → S → RowValue → S → Type 0
CalledOnScroll does alternate old row new = CalledOnAnyScreen does old (OnScroll row alternate) new

-- The effect of a step that may scroll rows off the page or that erases scrollback; the rows that aren't kept are
-- reported one by one.
pub record Scrolls {S : Type 0} (does : CallRelation S) (a : State S) (step : Step) (b : State S) : Type 0 where
  pub screen : b.screen ≡ screen_after step a.screen
  pub called : FoldsTo (CalledOnScroll does a.screen.is_alternate) a.callbacks (reports step a.screen) b.callbacks

-- The effect of a step. A callback has the effect that the call relation describes, a step that scrolls or erases
-- scrollback reports the rows that aren't kept, and any other step only changes the screen.
abbrev pub Takes : {S : Type 0} → CallRelation S → State S → Step → State S → Type 0
Takes does a (CallBack call) b = does call a.callbacks a.screen b.callbacks b.screen
Takes does a (Print c) b = Scrolls does a (Print c) b
Takes does a LineFeed b = Scrolls does a LineFeed b
Takes does a (ScrollUp count) b = Scrolls does a (ScrollUp count) b
Takes does a EraseScrollback b = Scrolls does a EraseScrollback b
Takes does a step b = b ≡ state a.callbacks (display_after step a.screen)

-- The effect of an event: its steps are taken in order. These steps depend on the screen before the event.
abbrev pub Performs : {S : Type 0} → CallRelation S → State S → Event → State S → Type 0
Performs does a event b = FoldsTo (Takes does) a (steps_of event (seen_of a.screen)) b

-- ---- failed allocations

-- The step fails because an allocation that it requires fails. The step changes nothing and invokes no callbacks.
abbrev pub Refuses : {S : Type 0} → State S → Step → State S → Type 0
Refuses a step b = Grows step a.screen × (b ≡ a)

-- The first items of the list, possibly none, take effect in order as `takes` describes, and the next item fails as
-- `refuses` describes.
abbrev pub StopsIn : {P A : Type 0} → (P → A → P → Type 0) → (P → A → P → Type 0) → P → List A → P → Type 0
StopsIn takes refuses p [] q = ⊥
StopsIn {P} takes refuses p (x ∷ xs) q =
    refuses p x q ⊎ ((middle : P) × takes p x middle × StopsIn takes refuses middle xs q)

-- The event fails at one of its steps because an allocation fails. The steps before the failed one are taken.
abbrev pub Breaks : {S : Type 0} → CallRelation S → State S → Event → State S → Type 0
Breaks does a event b = StopsIn (Takes does) Refuses a (steps_of event (seen_of a.screen)) b
