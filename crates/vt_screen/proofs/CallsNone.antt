-- Runs that invoke no callbacks, or only `on_scroll`.
use Rattle.std.proofs.Common.{◌≡◌, Bool, List, [], ◌∷◌, ◌++◌, map, sym, ap, subst, ℕ, ◌+◌, ◌==◌, true, false, Option}
use Rattle.std.proofs.Common.{Some, None, min, length, refl, ◌∙◌, take}
use Rattle.std.specs.List.{AllByRecursion, FoldsTo}
use Rattle.std.specs.Prelude.{if◌then◌else◌, is_some}
use Rattle.vt_cells.specs.Glyph.{columns_of}
use Rattle.vt_rows.specs.Row.{RowValue}
use Rattle.vt_rows.proofs.RowTexts.{folds_then}
use Rattle.vt_scan.specs.Automaton.{Event, State, step_in, run}
use Rattle.vt_scan.specs.Table.{class_of, transition_of}
use Rattle.vt_grid.specs.Moves.{feeds_out}
use Rattle.vt_grid.specs.Outgoing.{left_by}
use Rattle.vt_grid.specs.Printing.{pushes}
use Rattle.vt_grid.specs.Scrollback.{scrollback_after_push}
use Rattle.vt_screen.specs.Again.{IsNoCallback, IsReport}
use Rattle.vt_screen.specs.Calls.{CallValue, OnScroll}
use Rattle.vt_screen.specs.CallsOfRun.{TakesCalls, calls_of, calls_of_all, screen_after_all, steps_of_all, steps_in}
use Rattle.vt_screen.specs.Controls.{seen_of, steps_of}
use Rattle.vt_screen.specs.Run as act
use Rattle.vt_screen.specs.Run.{CallRelation, CalledOnAnyScreen, Performs, Scrolls, Takes, state}
use Rattle.vt_screen.specs.Screen.{ScreenValue}
use Rattle.vt_screen.specs.Steps.{Step, Print, LineFeed, ScrollUp, OnPage, SaveCursor, RestoreCursor, EnterAlternate}
use Rattle.vt_screen.specs.Steps.{EnterFresh, LeaveAlternate, LeaveRestoring, Reset, EraseScrollback, Render}
use Rattle.vt_screen.specs.Steps.{HideCursor, SetMode, CallBack, reports, screen_after, display_after}
use Rattle.vt_screen.specs.Steps.{rows_scrolled_off}
use Rattle.vt_screen.specs.Reading.{Terminal, terminal, grows, quiet_step, quiet_steps, quiet_events, terminal_after}
use Rattle.vt_screen.specs.Reading.{read_byte}
use Rattle.vt_screen.proofs.CallsReported.{called_rows}
use Rattle.vt_screen.proofs.ReadOperations.{and_then-some}
use Rattle.vt_screen.proofs.ReadTexts.{stepped_then, steps_then}

-- ==== In a run whose steps invoke no callbacks directly, only `on_scroll` is called, for the rows that scroll off and
-- are not kept.

-- The screen `screen` was reached, and the callbacks received the given calls on the way.
pub record Reported {S : Type 0} (does : CallRelation S)
    (a : act.State S) (calls : List CallValue) (screen : ScreenValue) (b : act.State S) : Type 0 where
  pub shown : b.screen ≡ screen
  pub called : TakesCalls does a.callbacks calls b.callbacks

-- ---- one step

reported_nothing : {S : Type 0} (does : CallRelation S) (a b : act.State S) (screen : ScreenValue) →
    b ≡ state a.callbacks screen → Reported does a [] screen b
reported_nothing {S} does a b screen e =
    record { shown = ap (λ (s : act.State S). s.screen) e; called = sym (ap (λ (s : act.State S). s.callbacks) e) }

reported_scroll : {S : Type 0} (does : CallRelation S) (x : Step) (a b : act.State S) → Scrolls does a x b →
    Reported does a (map (λ (row : RowValue). OnScroll row a.screen.is_alternate) (reports x a.screen))
    (screen_after x a.screen) b
reported_scroll does x a b t = record {
  shown = t.screen;
  called = called_rows does a.screen.is_alternate (reports x a.screen) a.callbacks b.callbacks t.called;
}

reported_step : {S : Type 0} (does : CallRelation S) (x : Step) (a b : act.State S) → IsNoCallback x →
    Takes does a x b → Reported does a (calls_of x a.screen) (screen_after x a.screen) b
reported_step does (CallBack call) a b none t = absurd none
reported_step does (Print c) a b none t = reported_scroll does (Print c) a b t
reported_step does LineFeed a b none t = reported_scroll does LineFeed a b t
reported_step does (ScrollUp count) a b none t = reported_scroll does (ScrollUp count) a b t
reported_step does EraseScrollback a b none t = reported_scroll does EraseScrollback a b t
reported_step does (OnPage x) a b none t = reported_nothing does a b (display_after (OnPage x) a.screen) t
reported_step does SaveCursor a b none t = reported_nothing does a b (display_after SaveCursor a.screen) t
reported_step does RestoreCursor a b none t = reported_nothing does a b (display_after RestoreCursor a.screen) t
reported_step does EnterAlternate a b none t = reported_nothing does a b (display_after EnterAlternate a.screen) t
reported_step does EnterFresh a b none t = reported_nothing does a b (display_after EnterFresh a.screen) t
reported_step does LeaveAlternate a b none t = reported_nothing does a b (display_after LeaveAlternate a.screen) t
reported_step does LeaveRestoring a b none t = reported_nothing does a b (display_after LeaveRestoring a.screen) t
reported_step does Reset a b none t = reported_nothing does a b (display_after Reset a.screen) t
reported_step does (Render setting) a b none t = reported_nothing does a b (display_after (Render setting) a.screen) t
reported_step does (HideCursor hidden) a b none t =
    reported_nothing does a b (display_after (HideCursor hidden) a.screen) t
reported_step does (SetMode x) a b none t = reported_nothing does a b (display_after (SetMode x) a.screen) t

-- ---- steps and events

reported_steps : {S : Type 0} (does : CallRelation S) (steps : List Step) (a b : act.State S) →
    AllByRecursion IsNoCallback steps → FoldsTo (Takes does) a steps b →
    Reported does a (calls_of_all steps a.screen) (screen_after_all steps a.screen) b
reported_steps {S} does [] a b none e =
    record { shown = sym (ap (λ (s : act.State S). s.screen) e); called = ap (λ (s : act.State S). s.callbacks) e }
reported_steps does (x ∷ steps) a b none t =
    let one = reported_step does x a t.0 none.0 t.1 in
    let rest = subst
    (λ (screen : ScreenValue). Reported does t.0 (calls_of_all steps screen) (screen_after_all steps screen) b)
    one.shown (reported_steps does steps t.0 b none.1 t.2) in
    record {
      shown = rest.shown;
      called =
          folds_then (CalledOnAnyScreen does) (calls_of x a.screen) (calls_of_all steps (screen_after x a.screen))
          a.callbacks t.0.callbacks b.callbacks one.called rest.called;
    }

none_before : (xs ys : List Step) → AllByRecursion IsNoCallback (xs ++ ys) → AllByRecursion IsNoCallback xs
none_before [] ys h = tt
none_before (x ∷ xs) ys h = (h.0, none_before xs ys h.1)

none_after : (xs ys : List Step) → AllByRecursion IsNoCallback (xs ++ ys) → AllByRecursion IsNoCallback ys
none_after [] ys h = h
none_after (x ∷ xs) ys h = none_after xs ys h.1

-- The steps that the events of a run perform are those that the model lists.
listed : {S : Type 0} (does : CallRelation S) (events : List Event) (a b : act.State S) →
    AllByRecursion IsNoCallback (steps_of_all events a.screen) → FoldsTo (Performs does) a events b →
    FoldsTo (Takes does) a (steps_of_all events a.screen) b
listed does [] a b none e = e
listed does (event ∷ events) a b none t =
    let steps = steps_of event (seen_of a.screen) in
    let later = steps_of_all events (screen_after_all steps a.screen) in
    let there = (reported_steps does steps a t.0 (none_before steps later none) t.1).shown in
    let rest = subst (λ (screen : ScreenValue). AllByRecursion IsNoCallback (steps_of_all events screen) →
    FoldsTo (Takes does) t.0 (steps_of_all events screen) b)
    there (λ k. listed does events t.0 b k t.2) in
    folds_then (Takes does) steps later a t.0 b t.1 (rest (none_after steps later none))

pub reported_events : {S : Type 0} (does : CallRelation S) (events : List Event) (a b : act.State S) →
    AllByRecursion IsNoCallback (steps_of_all events a.screen) → FoldsTo (Performs does) a events b →
    Reported does a (calls_of_all (steps_of_all events a.screen) a.screen)
    (screen_after_all (steps_of_all events a.screen) a.screen) b
reported_events does events a b none t =
    reported_steps does (steps_of_all events a.screen) a b none (listed does events a b none t)

-- ---- the calls are reports of rows

rows_reported : (rows : List RowValue) (alternate : Bool) →
    AllByRecursion IsReport (map (λ (row : RowValue). OnScroll row alternate) rows)
rows_reported [] alternate = tt
rows_reported (row ∷ rows) alternate = (tt, rows_reported rows alternate)

step_reports : (x : Step) (screen : ScreenValue) → IsNoCallback x → AllByRecursion IsReport (calls_of x screen)
step_reports (CallBack call) screen none = absurd none
step_reports (Print c) screen none = rows_reported (reports (Print c) screen) screen.is_alternate
step_reports LineFeed screen none = rows_reported (reports LineFeed screen) screen.is_alternate
step_reports (ScrollUp count) screen none = rows_reported (reports (ScrollUp count) screen) screen.is_alternate
step_reports EraseScrollback screen none = rows_reported (reports EraseScrollback screen) screen.is_alternate
step_reports (OnPage x) screen none = tt
step_reports SaveCursor screen none = tt
step_reports RestoreCursor screen none = tt
step_reports EnterAlternate screen none = tt
step_reports EnterFresh screen none = tt
step_reports LeaveAlternate screen none = tt
step_reports LeaveRestoring screen none = tt
step_reports Reset screen none = tt
step_reports (Render setting) screen none = tt
step_reports (HideCursor hidden) screen none = tt
step_reports (SetMode x) screen none = tt

reports_then : (xs ys : List CallValue) → AllByRecursion IsReport xs → AllByRecursion IsReport ys →
    AllByRecursion IsReport (xs ++ ys)
reports_then [] ys h k = k
reports_then (x ∷ xs) ys h k = (h.0, reports_then xs ys h.1 k)

pub only_reports : (steps : List Step) (screen : ScreenValue) → AllByRecursion IsNoCallback steps →
    AllByRecursion IsReport (calls_of_all steps screen)
only_reports [] screen none = tt
only_reports (x ∷ steps) screen none =
    reports_then (calls_of x screen) (calls_of_all steps (screen_after x screen)) (step_reports x screen none.0)
    (only_reports steps (screen_after x screen) none.1)

-- ==== Reading bytes without callbacks or allocations has the effect of a run over these bytes, which invokes no
-- callbacks.

same_some : {A : Type 0} (x y : A) → Some x ≡ Some y → x ≡ y
same_some x y e = cc

some_unless : {A : Type 0} (b : Bool) (o : Option A) (y : A) → (if b then None else o) ≡ Some y →
    (b ≡ false) × (o ≡ Some y)
some_unless true o y e = absurd (cc)
some_unless false o y e = (refl, e)

some_where : {A B : Type 0} (p : Option B) (o : Option A) (y : A) → (if is_some p then o else None) ≡ Some y →
    o ≡ Some y
some_where None o y e = absurd (cc)
some_where (Some x) o y e = e

-- ---- steps

-- If a step scrolls no row off the page, it leaves scrollback unchanged.
unsent : (alternate : Bool) (gone : List RowValue) (screen after : ScreenValue) → gone ≡ [] →
    after.scrollback ≡ screen.scrollback →
    (if alternate then after
    else record after { scrollback = scrollback_after_push (length screen.page.rows) screen.page.width gone screen.scrollback })
    ≡ after
unsent true gone screen after none same = refl
unsent false gone screen after none same =
    ap (λ (rows : List RowValue). record after {
      scrollback = scrollback_after_push (length screen.page.rows) screen.page.width rows screen.scrollback;
    }) none
    ∙ ap (λ s. record after { scrollback = s }) (sym same)

-- The screen `after` is the result of a step that invokes no callbacks and allocates nothing.
abbrev IsTaken : Step → ScreenValue → ScreenValue → Type 0
IsTaken step screen after = (screen_after step screen ≡ after) × IsNoCallback step

taken : (step : Step) (screen after : ScreenValue) → quiet_step step screen ≡ Some after → IsTaken step screen after
taken (Print c) screen after e =
    let (stays, is) = some_unless (pushes c screen.page) (Some (display_after (Print c) screen)) after e in (
      unsent screen.is_alternate (rows_scrolled_off (Print c) screen) screen (display_after (Print c) screen)
          (ap (λ (b : Bool). if b then take 1 (left_by (columns_of c) screen.attrs screen.page).rows else []) stays) refl
          ∙ same_some _ after is,
      tt,
    )
taken LineFeed screen after e =
    let (stays, is) = some_unless (feeds_out screen.page) (Some (display_after LineFeed screen)) after e in (
      unsent screen.is_alternate (rows_scrolled_off LineFeed screen) screen (display_after LineFeed screen)
          (ap (λ (b : Bool). if b then take 1 screen.page.rows else []) stays) refl
          ∙ same_some _ after is,
      tt,
    )
taken (ScrollUp count) screen after e =
    let (stays, is) = some_unless (screen.page.top == 0) (Some (display_after (ScrollUp count) screen)) after e in (
      unsent screen.is_alternate (rows_scrolled_off (ScrollUp count) screen) screen (display_after (ScrollUp count) screen)
          (ap (λ (b : Bool). if b then take (min count (screen.page.bottom + 1)) screen.page.rows else []) stays) refl
          ∙ same_some _ after is,
      tt,
    )
taken EraseScrollback screen after e = absurd (cc)
taken (CallBack call) screen after e = absurd (cc)
taken (OnPage x) screen after e = (same_some _ after e, tt)
taken (Render setting) screen after e = (same_some _ after e, tt)
taken (HideCursor hidden) screen after e = (same_some _ after e, tt)
taken (SetMode x) screen after e = (same_some _ after e, tt)
taken SaveCursor screen after e = (same_some _ after e, tt)
taken RestoreCursor screen after e = (same_some _ after e, tt)
taken LeaveAlternate screen after e = (same_some _ after e, tt)
taken LeaveRestoring screen after e = (same_some _ after e, tt)
taken Reset screen after e = (same_some _ after e, tt)
taken EnterAlternate screen after e = (same_some _ after (some_where screen.other _ after e), tt)
taken EnterFresh screen after e = (same_some _ after (some_where screen.other _ after e), tt)

-- The screen `after` is the result of the steps, and none of them is a callback.
pub record AreTaken (steps : List Step) (screen after : ScreenValue) : Type 0 where
  pub becomes : screen_after_all steps screen ≡ after
  pub none : AllByRecursion IsNoCallback steps

pub none_then : (xs ys : List Step) → AllByRecursion IsNoCallback xs → AllByRecursion IsNoCallback ys →
    AllByRecursion IsNoCallback (xs ++ ys)
none_then [] ys h k = k
none_then (x ∷ xs) ys h k = (h.0, none_then xs ys h.1 k)

taken_all : (steps : List Step) (screen after : ScreenValue) → quiet_steps steps screen ≡ Some after →
    AreTaken steps screen after
taken_all [] screen after e = record { becomes = same_some screen after e; none = tt }
taken_all (x ∷ steps) screen after e =
    let (middle, first, more) = and_then-some (quiet_steps steps) (quiet_step x screen) after e in
    let one = taken x screen middle first in
    let rest = taken_all steps middle after more in
    record { becomes = ap (screen_after_all steps) one.0 ∙ rest.becomes; none = (one.1, rest.none) }

pub taken_then : (xs ys : List Step) (screen middle after : ScreenValue) → AreTaken xs screen middle →
    AreTaken ys middle after → AreTaken (xs ++ ys) screen after
taken_then xs ys screen middle after one two = record {
  becomes = stepped_then xs ys screen ∙ (ap (screen_after_all ys) one.becomes ∙ two.becomes);
  none = none_then xs ys one.none two.none;
}

taken_events : (events : List Event) (screen after : ScreenValue) → quiet_events events screen ≡ Some after →
    AreTaken (steps_of_all events screen) screen after
taken_events [] screen after e = record { becomes = same_some screen after e; none = tt }
taken_events (event ∷ events) screen after e =
    let steps = steps_of event (seen_of screen) in
    let (middle, first, more) = and_then-some (quiet_events events) (quiet_steps steps screen) after e in
    let one = taken_all steps screen middle first in
    let rest = taken_events events middle after more in
    taken_then steps (steps_of_all events (screen_after_all steps screen)) screen middle after one
    (subst (λ (s : ScreenValue). AreTaken (steps_of_all events s) middle after) (sym one.becomes) rest)

-- ---- bytes

-- A run over the bytes takes the first terminal to the second, and none of its steps is a callback.
pub record Runs (t : Terminal) (bytes : List ℕ) (u : Terminal) : Type 0 where
  pub state : (run t.scan bytes).state ≡ u.scan
  pub steps : AreTaken (steps_in t.scan t.screen bytes) t.screen u.screen

record RunsByte (t : Terminal) (b : ℕ) (u : Terminal) : Type 0 where
  scan : (step_in t.scan.kind t.scan.collected b).state ≡ u.scan
  events : quiet_events (step_in t.scan.kind t.scan.collected b).events t.screen ≡ Some u.screen

runs_byte : (t : Terminal) (b : ℕ) (u : Terminal) → read_byte t b ≡ Some u → RunsByte t b u
unfolding read_byte
runs_byte t b u e =
    let step = step_in t.scan.kind t.scan.collected b in
    let (stays, is) = some_unless (grows (transition_of t.scan.kind (class_of b))) _ u e in
    let (screen, first, more) =
    and_then-some (λ screen. Some (terminal step.state screen)) (quiet_events step.events t.screen) u is in
    let there : terminal step.state screen ≡ u = same_some (terminal step.state screen) u more in
    record {
      scan = ap (λ (v : Terminal). v.scan) there;
      events = first ∙ ap (λ (v : Terminal). Some v.screen) there;
    }

pub read_run : (bytes : List ℕ) (t u : Terminal) → terminal_after t bytes ≡ Some u → Runs t bytes u
read_run [] t u e =
    let same = same_some t u e in record {
      state = ap (λ (v : Terminal). v.scan) same;
      steps = record { becomes = ap (λ (v : Terminal). v.screen) same; none = tt };
    }
read_run (b ∷ bytes) t u e =
    let step = step_in t.scan.kind t.scan.collected b in
    let (middle, first, more) = and_then-some (λ v. terminal_after v bytes) (read_byte t b) u e in
    let one = runs_byte t b middle first in
    let rest = read_run bytes middle u more in
    let here = taken_events step.events t.screen middle.screen one.events in
    let later = (run step.state bytes).events in
    let behind = subst (λ (s : State). AreTaken (steps_of_all (run s bytes).events middle.screen) middle.screen u.screen)
    (sym one.scan) rest.steps in
    record {
      state = ap (λ (s : State). (run s bytes).state) one.scan ∙ rest.state;
      steps =
          subst (λ (steps : List Step). AreTaken steps t.screen u.screen) (sym (steps_then step.events later t.screen))
          (taken_then (steps_of_all step.events t.screen)
          (steps_of_all later (screen_after_all (steps_of_all step.events t.screen) t.screen)) t.screen middle.screen
          u.screen here
          (subst (λ (s : ScreenValue). AreTaken (steps_of_all later s) middle.screen u.screen) (sym here.becomes) behind));
    }
