-- The calls that a run makes, one by one.
use Rattle.std.proofs.Common.{◌≡◌, ℕ, Bool, true, false, List, [], ◌∷◌, map, length, Option, sym, subst, ap, ◌∙◌, refl}
use Rattle.std.specs.Prelude.{if◌then◌else◌}
use Rattle.std.specs.List.{FoldsTo}
use Rattle.vt_rows.specs.Row.{RowValue}
use Rattle.vt_rows.proofs.RowTexts.{folds_then}
use Rattle.vt_scan.specs.Automaton.{Event}
use Rattle.vt_grid.specs.Page.{Page, scrolled_up}
use Rattle.vt_grid.specs.Moves.{line_feed}
use Rattle.vt_grid.specs.Printing.{page_after_print}
use Rattle.vt_grid.specs.Outgoing.{fed_out, scrolled_out, printed_out}
use Rattle.vt_grid.specs.Scrollback.{Scrollback, no_scrollback, scrollback_after_push, rows_reported}
use Rattle.vt_grid.specs.Scrollback.{scrollback_after_clear}
use Rattle.vt_screen.specs.Calls.{OnScroll, CallValue}
use Rattle.vt_screen.specs.Internals.{Reports, IsNothing, main_scrollback, alternate_scrollback}
use Rattle.vt_screen.specs.Steps.{LineFeed, ScrollUp, Print, EraseScrollback, last_after, screen_after, Step, OnPage}
use Rattle.vt_screen.specs.Steps.{SaveCursor, RestoreCursor, EnterAlternate, EnterFresh, LeaveAlternate, LeaveRestoring}
use Rattle.vt_screen.specs.Steps.{Reset, Render, HideCursor, SetMode, CallBack, reports, display_after}
use Rattle.vt_screen.specs.Run.{CallRelation, CalledOnScroll, Scrolls, CalledOnAnyScreen, state, Performs, Takes}
use Rattle.vt_screen.specs.Screen.{ScreenValue, above_page}
use Rattle.vt_screen.specs.declared.reporter.Reporter.{Reporter}
use Rattle.vt_screen.specs.Run as act
use Rattle.vt_screen.specs.Controls.{seen_of, steps_of}
use Rattle.vt_screen.specs.CallsOfRun.{CalledOnSomeScreen, LeavesScreen, calls_of, calls_of_all, screen_after_all}
use Rattle.vt_screen.specs.CallsOfRun.{steps_of_all}
use Rattle.vt_screen.proofs.StepInvariant.{sent_if, reported_if}

-- ==== The calls that a run makes to report rows.

pub same_callbacks : {S : Type 0} (does : CallRelation S) (rows : List RowValue) (s t : Reporter S) →
    FoldsTo (Reports does) s rows t → t.callbacks.ghost_name ≡ s.callbacks.ghost_name
same_callbacks {S} does [] s t e = sym (ap (λ (r : Reporter S). r.callbacks.ghost_name) e)
same_callbacks does (row ∷ rows) s t f = same_callbacks does rows f.0 t f.2 ∙ f.1.0

pub reported_to : {S : Type 0} (does : CallRelation S) (alternate : Bool) (rows : List RowValue) (s t : Reporter S) →
    s.alternate ≡ alternate → FoldsTo (Reports does) s rows t →
    FoldsTo (CalledOnScroll does alternate) s.callbacks.now rows t.callbacks.now
reported_to {S} does alternate [] s t a e = ap (λ (r : Reporter S). r.callbacks.now) e
reported_to does alternate (row ∷ rows) s t a f = (
  f.0.callbacks.now,
  subst (λ b. CalledOnScroll does b s.callbacks.now row f.0.callbacks.now) a f.1.1.1,
  reported_to does alternate rows f.0 t (f.1.1.0 ∙ a) f.2,
)

-- ---- steps that scroll

-- The screen's scrollback is that of the main page; that of the alternate page never keeps a row.
record IsAbove (s : ScreenValue) (active idle : Scrollback) : Type 0 where
  whole : s.scrollback ≡ main_scrollback s.is_alternate active idle
  nothing : IsNothing (alternate_scrollback s.is_alternate active idle)

-- Reporting the rows that scrolled off the active page makes the calls that the screen's scrollback determines.
called_above : {S : Type 0} (does : CallRelation S)
    (s : ScreenValue) (gone : List RowValue) (active idle : Scrollback) (old new : S)
    → IsAbove s active idle
    → FoldsTo (CalledOnScroll does s.is_alternate) old (rows_reported gone active) new
    → FoldsTo (CalledOnScroll does s.is_alternate) old (rows_reported gone (above_page s)) new
called_above does s gone active idle old new i h =
    subst (λ (rows : List RowValue). FoldsTo (CalledOnScroll does s.is_alternate) old rows new)
    (reported_if s.is_alternate gone active idle s.scrollback i.whole i.nothing) h

pub line_fed : {S : Type 0} (does : CallRelation S)
    (s now : ScreenValue) (page : Page) (active idle above : Scrollback) (old new : S)
    → s ≡ now
    → s.scrollback ≡ main_scrollback s.is_alternate active idle
    → IsNothing (alternate_scrollback s.is_alternate active idle) → page ≡ line_feed s.page
    → above ≡ scrollback_after_push (length s.page.rows) s.page.width (fed_out s.page) active
    → FoldsTo (CalledOnScroll does s.is_alternate) old (rows_reported (fed_out s.page) active) new
    → Scrolls does (state old now) LineFeed
    (state new (record s { page = page; scrollback = main_scrollback s.is_alternate above idle }))
line_fed does s now page active idle above old new same w n p a h =
    let after : Page → Scrollback → ScreenValue = λ q z. record s { page = q; scrollback = z } in
    subst (λ (z : ScreenValue). Scrolls does (state old z) LineFeed
    (state new (after page (main_scrollback s.is_alternate above idle))))
    same
    (record {
      screen = ap (λ (q : Page). after q (main_scrollback s.is_alternate above idle)) p
          ∙ sym (sent_if s.is_alternate (after (line_feed s.page)) (length s.page.rows)
          s.page.width (fed_out s.page) active idle above s.scrollback w a);
      called = called_above does s (fed_out s.page) active idle old new (record { whole = w; nothing = n }) h;
    })

pub scrolled_up_by : {S : Type 0} (does : CallRelation S)
    (count : ℕ) (s now : ScreenValue) (page : Page) (active idle above : Scrollback) (old new : S)
    → s ≡ now
    → s.scrollback ≡ main_scrollback s.is_alternate active idle
    → IsNothing (alternate_scrollback s.is_alternate active idle) → page ≡ scrolled_up count s.page
    → above ≡ scrollback_after_push (length s.page.rows) s.page.width (scrolled_out count s.page) active
    → FoldsTo (CalledOnScroll does s.is_alternate) old (rows_reported (scrolled_out count s.page) active) new
    → Scrolls does (state old now) (ScrollUp count)
    (state new (record s { page = page; scrollback = main_scrollback s.is_alternate above idle }))
scrolled_up_by does count s now page active idle above old new same w n p a h =
    let after : Page → Scrollback → ScreenValue = λ q z. record s { page = q; scrollback = z } in
    subst (λ (z : ScreenValue). Scrolls does (state old z) (ScrollUp count)
    (state new (after page (main_scrollback s.is_alternate above idle))))
    same
    (record {
      screen = ap (λ (q : Page). after q (main_scrollback s.is_alternate above idle)) p
          ∙ sym (sent_if s.is_alternate (after (scrolled_up count s.page)) (length s.page.rows)
          s.page.width (scrolled_out count s.page) active idle above s.scrollback w a);
      called = called_above does s (scrolled_out count s.page) active idle old new (record { whole = w; nothing = n }) h;
    })

pub character_printed : {S : Type 0} (does : CallRelation S) (c : ℕ)
    (s now : ScreenValue) (page : Page) (active idle above : Scrollback) (last : Option ℕ) (old new : S)
    → s ≡ now
    → s.scrollback ≡ main_scrollback s.is_alternate active idle
    → IsNothing (alternate_scrollback s.is_alternate active idle)
    → page ≡ page_after_print c s.attrs s.page → last ≡ last_after c now
    → above ≡ scrollback_after_push (length s.page.rows) s.page.width (printed_out c s.attrs s.page) active
    → FoldsTo (CalledOnScroll does s.is_alternate) old (rows_reported (printed_out c s.attrs s.page) active) new
    → Scrolls does (state old now) (Print c)
    (state new (record s { page = page; scrollback = main_scrollback s.is_alternate above idle; last = last }))
character_printed does c s now page active idle above last old new same w n p l a h =
    let after : Page → Option ℕ → Scrollback → ScreenValue = λ q o z. record s { page = q; scrollback = z; last = o } in
    let k : last ≡ last_after c s = l ∙ ap (last_after c) (sym same) in
    subst (λ (z : ScreenValue). Scrolls does (state old z) (Print c)
    (state new (after page last (main_scrollback s.is_alternate above idle))))
    same
    (record {
      screen = ap (λ (q : Page). after q last (main_scrollback s.is_alternate above idle)) p
          ∙ ap (λ (o : Option ℕ). after (page_after_print c s.attrs s.page) o (main_scrollback s.is_alternate above idle)) k
          ∙ sym (sent_if s.is_alternate (after (page_after_print c s.attrs s.page) (last_after c s)) (length s.page.rows)
          s.page.width (printed_out c s.attrs s.page) active idle above s.scrollback w a);
      called =
          called_above does s (printed_out c s.attrs s.page) active idle old new (record { whole = w; nothing = n }) h;
    })

-- ---- erasing scrollback

erased_if : (b : Bool) (s : ScreenValue) (active idle : Scrollback) → s.scrollback ≡ main_scrollback b active idle
    → record s { scrollback = main_scrollback b (scrollback_after_clear active) idle }
    ≡ (if b then s else record s { scrollback = scrollback_after_clear s.scrollback })
erased_if true s active idle w = ap (λ (z : Scrollback). record s { scrollback = z }) (sym w)
erased_if false s active idle w = ap (λ (z : Scrollback). record s { scrollback = scrollback_after_clear z }) (sym w)

rows_if : (b : Bool) (active idle whole : Scrollback) → whole ≡ main_scrollback b active idle →
    IsNothing (alternate_scrollback b active idle) → active.rows ≡ (if b then no_scrollback 0 else whole).rows
rows_if true active idle whole w n = n.rows
rows_if false active idle whole w n = ap (λ (z : Scrollback). z.rows) (sym w)

pub cleared_is : (s : ScreenValue) (active idle above : Scrollback)
    → s.scrollback ≡ main_scrollback s.is_alternate active idle → above ≡ scrollback_after_clear active
    → record s { scrollback = main_scrollback s.is_alternate above idle } ≡ screen_after EraseScrollback s
cleared_is s active idle above w a =
    ap (λ (z : Scrollback). record s { scrollback = main_scrollback s.is_alternate z idle }) a
    ∙ erased_if s.is_alternate s active idle w

pub scrollback_erased : {S : Type 0} (does : CallRelation S)
    (s now : ScreenValue) (active idle above : Scrollback) (old new : S)
    → s ≡ now
    → s.scrollback ≡ main_scrollback s.is_alternate active idle
    → IsNothing (alternate_scrollback s.is_alternate active idle) → above ≡ scrollback_after_clear active
    → FoldsTo (CalledOnScroll does s.is_alternate) old active.rows new
    → Scrolls does (state old now) EraseScrollback
    (state new (record s { scrollback = main_scrollback s.is_alternate above idle }))
scrollback_erased does s now active idle above old new same w n a h =
    subst (λ (z : ScreenValue). Scrolls does (state old z) EraseScrollback
    (state new (record s { scrollback = main_scrollback s.is_alternate above idle })))
    same
    (record {
      screen = cleared_is s active idle above w a;
      called =
          subst (λ (rows : List RowValue). FoldsTo (CalledOnScroll does s.is_alternate) old rows new)
          (rows_if s.is_alternate active idle s.scrollback w n) h;
    })

-- ---- reported rows as calls

pub called_rows : {S : Type 0} (does : CallRelation S) (alternate : Bool) (rows : List RowValue) (old new : S)
    → FoldsTo (CalledOnScroll does alternate) old rows new
    → FoldsTo (CalledOnAnyScreen does) old (map (λ row. OnScroll row alternate) rows) new
called_rows does alternate [] old new e = e
called_rows does alternate (row ∷ rows) old new f = (f.0, f.1, called_rows does alternate rows f.0 new f.2)

-- ==== If callbacks leave the screen unchanged, the calls that they receive in a run are those of the model, one by
-- one.

-- The screen `screen` was reached, and the callbacks received the given calls on the way.
pub record Calling {S : Type 0} (does : CallRelation S)
    (a : act.State S) (calls : List CallValue) (screen : ScreenValue) (b : act.State S) : Type 0 where
  pub shown : b.screen ≡ screen
  pub called : FoldsTo (CalledOnSomeScreen does) a.callbacks calls b.callbacks

-- ---- one step

called_nothing : {S : Type 0} (does : CallRelation S) (a b : act.State S) (screen : ScreenValue) →
    b ≡ state a.callbacks screen → Calling does a [] screen b
called_nothing {S} does a b screen e =
    record { shown = ap (λ (s : act.State S). s.screen) e; called = sym (ap (λ (s : act.State S). s.callbacks) e) }

called_in_turn : {S : Type 0} (does : CallRelation S) (screen : ScreenValue) (calls : List CallValue) (old new : S) →
    FoldsTo (CalledOnAnyScreen does) old calls new → FoldsTo (CalledOnSomeScreen does) old calls new
called_in_turn does screen [] old new e = e
called_in_turn does screen (call ∷ calls) old new t = (t.0, (screen, t.1 screen), called_in_turn does screen calls t.0 new t.2)

called_scroll : {S : Type 0} (does : CallRelation S) (x : Step) (a b : act.State S) →
    Scrolls does a x b →
    Calling does a (map (λ (row : RowValue). OnScroll row a.screen.is_alternate) (reports x a.screen))
    (screen_after x a.screen) b
called_scroll does x a b t = record {
  shown = t.screen;
  called =
      called_in_turn does a.screen
      (map (λ (row : RowValue). OnScroll row a.screen.is_alternate) (reports x a.screen)) a.callbacks b.callbacks
      (called_rows does a.screen.is_alternate (reports x a.screen) a.callbacks b.callbacks t.called);
}

called_call : {S : Type 0} (does : CallRelation S) → LeavesScreen does → (call : CallValue) (a b : act.State S) →
    does call a.callbacks a.screen b.callbacks b.screen → Calling does a (call ∷ []) a.screen b
called_call does leaves call a b t =
    let same = leaves call a.callbacks b.callbacks a.screen b.screen t in
    record {
      shown = same;
      called = (b.callbacks, (a.screen, subst (does call a.callbacks a.screen b.callbacks) same t), refl);
    }

called_step : {S : Type 0} (does : CallRelation S) → LeavesScreen does →
    (x : Step) (a b : act.State S) → Takes does a x b → Calling does a (calls_of x a.screen) (screen_after x a.screen) b
called_step does leaves (CallBack call) a b t = called_call does leaves call a b t
called_step does leaves (Print c) a b t = called_scroll does (Print c) a b t
called_step does leaves LineFeed a b t = called_scroll does LineFeed a b t
called_step does leaves (ScrollUp count) a b t = called_scroll does (ScrollUp count) a b t
called_step does leaves EraseScrollback a b t = called_scroll does EraseScrollback a b t
called_step does leaves (OnPage x) a b t = called_nothing does a b (display_after (OnPage x) a.screen) t
called_step does leaves SaveCursor a b t = called_nothing does a b (display_after SaveCursor a.screen) t
called_step does leaves RestoreCursor a b t = called_nothing does a b (display_after RestoreCursor a.screen) t
called_step does leaves EnterAlternate a b t = called_nothing does a b (display_after EnterAlternate a.screen) t
called_step does leaves EnterFresh a b t = called_nothing does a b (display_after EnterFresh a.screen) t
called_step does leaves LeaveAlternate a b t = called_nothing does a b (display_after LeaveAlternate a.screen) t
called_step does leaves LeaveRestoring a b t = called_nothing does a b (display_after LeaveRestoring a.screen) t
called_step does leaves Reset a b t = called_nothing does a b (display_after Reset a.screen) t
called_step does leaves (Render setting) a b t = called_nothing does a b (display_after (Render setting) a.screen) t
called_step does leaves (HideCursor hidden) a b t = called_nothing does a b (display_after (HideCursor hidden) a.screen) t
called_step does leaves (SetMode x) a b t = called_nothing does a b (display_after (SetMode x) a.screen) t

-- ---- steps and events

called_steps : {S : Type 0} (does : CallRelation S) →
    LeavesScreen does → (steps : List Step) (a b : act.State S) → FoldsTo (Takes does) a steps b →
    Calling does a (calls_of_all steps a.screen) (screen_after_all steps a.screen) b
called_steps {S} does leaves [] a b e =
    record { shown = sym (ap (λ (s : act.State S). s.screen) e); called = ap (λ (s : act.State S). s.callbacks) e }
called_steps does leaves (x ∷ steps) a b t =
    let one = called_step does leaves x a t.0 t.1 in
    let rest = subst
    (λ (screen : ScreenValue). Calling does t.0 (calls_of_all steps screen) (screen_after_all steps screen) b)
    one.shown (called_steps does leaves steps t.0 b t.2) in
    record {
      shown = rest.shown;
      called =
          folds_then (CalledOnSomeScreen does) (calls_of x a.screen) (calls_of_all steps (screen_after x a.screen))
          a.callbacks t.0.callbacks b.callbacks one.called rest.called;
    }

-- The steps that the events of a run perform are those that the model lists.
steps_listed : {S : Type 0} (does : CallRelation S) → LeavesScreen does → (events : List Event) (a b : act.State S) →
    FoldsTo (Performs does) a events b → FoldsTo (Takes does) a (steps_of_all events a.screen) b
steps_listed does leaves [] a b e = e
steps_listed does leaves (event ∷ events) a b t =
    let steps = steps_of event (seen_of a.screen) in
    let there = (called_steps does leaves steps a t.0 t.1).shown in
    let rest = subst (λ (screen : ScreenValue). FoldsTo (Takes does) t.0 (steps_of_all events screen) b)
    there (steps_listed does leaves events t.0 b t.2) in
    folds_then (Takes does) steps (steps_of_all events (screen_after_all steps a.screen)) a t.0 b t.1 rest

pub called_events : {S : Type 0} (does : CallRelation S)
    → LeavesScreen does → (events : List Event) (a b : act.State S) → FoldsTo (Performs does) a events b
    → Calling does a (calls_of_all (steps_of_all events a.screen) a.screen)
    (screen_after_all (steps_of_all events a.screen) a.screen) b
called_events does leaves events a b t =
    called_steps does leaves (steps_of_all events a.screen) a b (steps_listed does leaves events a b t)
