-- Bytes that are read without callbacks or allocations have the same effect in every run and in any chunks.
use Rattle.std.proofs.Common.{◌≡◌, ◌==◌, ◌⊎◌, ℕ, zero, suc, ◌+◌, ◌<◌, min, inl, inr, Bool, true, false, List, [], ◌∷◌}
use Rattle.std.proofs.Common.{◌++◌, length, take, Option, Some, None, cond, refl, sym, subst, ap, ◌∙◌, arith, map}
use Rattle.std.specs.Prelude.{if◌then◌else◌, is_some}
use Rattle.std.specs.List.{FoldsTo, AllByRecursion}
use Rattle.std.proofs.lemmas.Bool.{false≢true}
use Rattle.vt_cells.specs.Glyph.{columns_of}
use Rattle.vt_rows.specs.Row.{RowValue}
use Rattle.vt_scan.specs.Automaton.{State, Event, step_in, start, run}
use Rattle.vt_scan.specs.Scanner.{ScannerValue, StandsFor}
use Rattle.vt_scan.specs.Table.{class_of, transition_of}
use Rattle.vt_grid.specs.Printing.{pushes}
use Rattle.vt_grid.specs.Moves.{feeds_out}
use Rattle.vt_grid.specs.Outgoing.{left_by}
use Rattle.vt_grid.specs.Scrollback as room
use Rattle.vt_grid.specs.Scrollback.{Scrollback, scrollback_after_push, rows_reported}
use Rattle.vt_screen.specs.Screen.{ScreenValue, above_page, IsScreen}
use Rattle.vt_screen.specs.Run as act
use Rattle.vt_screen.specs.Run.{CallRelation, Performs, Breaks, CalledOnScroll, Refuses, StopsIn, Takes, state}
use Rattle.vt_screen.specs.Controls.{seen_of, steps_of}
use Rattle.vt_screen.specs.Steps.{Step, Print, LineFeed, ScrollUp, OnPage, SaveCursor, RestoreCursor, EnterAlternate}
use Rattle.vt_screen.specs.Steps.{EnterFresh, LeaveAlternate, LeaveRestoring, Reset, EraseScrollback, Render}
use Rattle.vt_screen.specs.Steps.{HideCursor, SetMode, CallBack, Grows, rows_scrolled_off, display_after}
use Rattle.vt_screen.specs.Reading.{Terminal, terminal, grows, quiet_step, quiet_steps, quiet_events, terminal_after}
use Rattle.vt_screen.specs.Reading.{read_byte}
use Rattle.vt_screen.specs.Chain.{CanShowOn, chain_text, last_screen}
use Rattle.vt_screen.specs.Shown.{IsPlain, KeepsRest, display}
use Rattle.vt_screen.proofs.ReadOperations.{and_then-some}
use Rattle.vt_screen.proofs.ReadRedraws.{chain_read}
use Rattle.vt_screen.proofs.ReadTexts.{reads_append}
use Rattle.vt100.specs.Parser.{IsHarmless, ParserValue, Ran, Stopped, Collects, stage, pieces_joined}
use Rattle.vt100.specs.Pieces.{Processing, Processes, IsFine, HasRead, IsPlainParser, ShowsLast, bytes_in}
use Rattle.vt100.specs.Streams.{MakesCall, Process}
use Rattle.vt100.proofs.Running.{folds_parted, ran_joined}

-- ==== The effect of bytes that are read without callbacks or allocations is the same in every run.

abbrev IsNone : {A : Type 0} → Option A → Type 0
IsNone None = Unit {0}
IsNone (Some x) = ⊥

same_some : {A : Type 0} (x y : A) → Some x ≡ Some y → x ≡ y
same_some x y e = cc

some_of_cond : {A : Type 0} (b : Bool) (x y : A) → cond b None (Some x) ≡ Some y → x ≡ y
some_of_cond true x y e = absurd (subst IsNone e tt)
some_of_cond false x y e = same_some x y e

-- ---- steps and events

calm_of : {A : Type 0} (b : Bool) (o : Option A) (y : A) → cond b None o ≡ Some y → (b ≡ false) × (o ≡ Some y)
calm_of true o y e = absurd (subst IsNone e tt)
calm_of false o y e = (refl, e)

there_of : {A B : Type 0} (p : Option B) (o : Option A) (y : A) →
    (if is_some p then o else None) ≡ Some y → (is_some p ≡ true) × (o ≡ Some y)
there_of None o y e = absurd (subst IsNone e tt)
there_of (Some x) o y e = (refl, e)

same_screen : (alternate : Bool) (x y z : ScreenValue) → y ≡ x → z ≡ x → (if alternate then y else z) ≡ x
same_screen true x y z p q = p
same_screen false x y z p q = q

-- A step that scrolls no row off only changes the screen, and invokes no callbacks.
unsent : {S : Type 0} (does : CallRelation S)
    (held : S) (screen after : ScreenValue) (gone : List RowValue) (b : act.State S)
    → gone ≡ [] → after.scrollback ≡ screen.scrollback
    → b.screen
    ≡ (if screen.is_alternate then after
    else record after { scrollback = scrollback_after_push (length screen.page.rows) screen.page.width gone screen.scrollback })
    → FoldsTo (CalledOnScroll does screen.is_alternate) held (rows_reported gone (above_page screen)) b.callbacks
    → b ≡ state held after
unsent {S} does held screen after gone b none kept is called =
    let shown : b.screen ≡ after = is ∙ same_screen screen.is_alternate after after _ refl
    (ap (λ (rows : List RowValue). record after
    { scrollback = scrollback_after_push (length screen.page.rows) screen.page.width rows screen.scrollback })
    none
    ∙ ap (λ (above : Scrollback). record after { scrollback = above }) (sym kept)) in
    let told : held ≡ b.callbacks =
    subst (λ (rows : List RowValue). FoldsTo (CalledOnScroll does screen.is_alternate)
    held (rows_reported rows (above_page screen)) b.callbacks)
    none called in
    ap (λ (s : S). act.state s b.screen) (sym told) ∙ ap (act.state held) shown

quiet_takes : {S : Type 0} (does : CallRelation S)
    (x : Step) (held : S) (screen after : ScreenValue) (b : act.State S) →
    quiet_step x screen ≡ Some after → Takes does (state held screen) x b → b ≡ state held after
quiet_takes does (Print c) held screen after b e t =
    let calm = calm_of (pushes c screen.page) (Some (display_after (Print c) screen)) after e in
    let none : rows_scrolled_off (Print c) screen ≡ [] =
    ap (λ (scrollback_after_push : Bool). if scrollback_after_push then take 1 (left_by (columns_of c) screen.attrs screen.page).rows else [])
    calm.0 in
    unsent does held screen (display_after (Print c) screen) (rows_scrolled_off (Print c) screen) b none refl t.screen t.called
    ∙ ap (state held) (same_some (display_after (Print c) screen) after calm.1)
quiet_takes does LineFeed held screen after b e t =
    let calm = calm_of (feeds_out screen.page) (Some (display_after LineFeed screen)) after e in
    let none : rows_scrolled_off LineFeed screen ≡ [] =
    ap (λ (fed : Bool). if fed then take 1 screen.page.rows else []) calm.0 in
    unsent does held screen (display_after LineFeed screen) (rows_scrolled_off LineFeed screen) b none refl t.screen t.called
    ∙ ap (state held) (same_some (display_after LineFeed screen) after calm.1)
quiet_takes does (CallBack call) held screen after b e t = absurd (subst IsNone e tt)
quiet_takes does (OnPage x) held screen after b e t =
    t ∙ ap (state held) (same_some (display_after (OnPage x) screen) after e)
quiet_takes does (ScrollUp count) held screen after b e t =
    let calm = calm_of (screen.page.top == 0) (Some (display_after (ScrollUp count) screen)) after e in
    let none : rows_scrolled_off (ScrollUp count) screen ≡ [] =
    ap (λ (whole : Bool). if whole then take (min count (screen.page.bottom + 1)) screen.page.rows else []) calm.0 in
    unsent does held screen (display_after (ScrollUp count) screen)
    (rows_scrolled_off (ScrollUp count) screen) b none refl t.screen t.called
    ∙ ap (state held) (same_some (display_after (ScrollUp count) screen) after calm.1)
quiet_takes does EraseScrollback held screen after b e t = absurd (subst IsNone e tt)
quiet_takes does (Render setting) held screen after b e t =
    t ∙ ap (state held) (same_some (display_after (Render setting) screen) after e)
quiet_takes does (HideCursor hidden) held screen after b e t =
    t ∙ ap (state held) (same_some (display_after (HideCursor hidden) screen) after e)
quiet_takes does (SetMode x) held screen after b e t =
    t ∙ ap (state held) (same_some (display_after (SetMode x) screen) after e)
quiet_takes does SaveCursor held screen after b e t =
    t ∙ ap (state held) (same_some (display_after SaveCursor screen) after e)
quiet_takes does RestoreCursor held screen after b e t =
    t ∙ ap (state held) (same_some (display_after RestoreCursor screen) after e)
quiet_takes does LeaveAlternate held screen after b e t =
    t ∙ ap (state held) (same_some (display_after LeaveAlternate screen) after e)
quiet_takes does LeaveRestoring held screen after b e t =
    t ∙ ap (state held) (same_some (display_after LeaveRestoring screen) after e)
quiet_takes does Reset held screen after b e t = t ∙ ap (state held) (same_some (display_after Reset screen) after e)
quiet_takes does EnterAlternate held screen after b e t =
    t
    ∙ ap (state held) (same_some (display_after EnterAlternate screen) after
    (there_of screen.other (Some (display_after EnterAlternate screen)) after e).1)
quiet_takes does EnterFresh held screen after b e t =
    t
    ∙ ap (state held)
    (same_some (display_after EnterFresh screen) after (there_of screen.other (Some (display_after EnterFresh screen)) after e).1)

quiet_folds : {S : Type 0} (does : CallRelation S)
    (steps : List Step) (held : S) (screen after : ScreenValue) (b : act.State S) →
    quiet_steps steps screen ≡ Some after → FoldsTo (Takes does) (state held screen) steps b → b ≡ state held after
quiet_folds does [] held screen after b e t = sym t ∙ ap (state held) (same_some screen after e)
quiet_folds does (x ∷ steps) held screen after b e t =
    let mid = and_then-some (quiet_steps steps) (quiet_step x screen) after e in
    let there = quiet_takes does x held screen mid.0 t.0 mid.1 t.1 in
    quiet_folds does steps held mid.0 after b mid.2 (subst (λ j. FoldsTo (Takes does) j steps b) there t.2)

quiet_performs : {S : Type 0} (does : CallRelation S)
    (events : List Event) (held : S) (screen after : ScreenValue) (b : act.State S) →
    quiet_events events screen ≡ Some after → FoldsTo (Performs does) (state held screen) events b →
    b ≡ state held after
quiet_performs does [] held screen after b e t = sym t ∙ ap (state held) (same_some screen after e)
quiet_performs does (event ∷ events) held screen after b e t =
    let mid = and_then-some (quiet_events events) (quiet_steps (steps_of event (seen_of screen)) screen) after e in
    let there = quiet_folds does (steps_of event (seen_of screen)) held screen mid.0 t.0 mid.1 t.1 in
    quiet_performs does events held mid.0 after b mid.2 (subst (λ j. FoldsTo (Performs does) j events b) there t.2)

-- ---- no allocation fails

never_grows : (gone : List RowValue) (above : Scrollback) → gone ≡ [] → room.TakesMemory gone above → ⊥
never_grows gone above none takes = let n : length gone ≡ 0 = ap length none in absurd (omega (arith, takes.0, n))

quiet_holds : (x : Step) (screen after : ScreenValue) → quiet_step x screen ≡ Some after → Grows x screen → ⊥
quiet_holds (Print c) screen after e g =
    let calm = calm_of (pushes c screen.page) (Some (display_after (Print c) screen)) after e in
    never_grows (rows_scrolled_off (Print c) screen) (above_page screen)
    (ap (λ (scrollback_after_push : Bool). if scrollback_after_push then take 1 (left_by (columns_of c) screen.attrs screen.page).rows else [])
    calm.0)
    g
quiet_holds LineFeed screen after e g =
    let calm = calm_of (feeds_out screen.page) (Some (display_after LineFeed screen)) after e in
    never_grows (rows_scrolled_off LineFeed screen) (above_page screen)
    (ap (λ (fed : Bool). if fed then take 1 screen.page.rows else []) calm.0) g
quiet_holds (ScrollUp count) screen after e g =
    let calm = calm_of (screen.page.top == 0) (Some (display_after (ScrollUp count) screen)) after e in
    never_grows (rows_scrolled_off (ScrollUp count) screen) (above_page screen)
    (ap (λ (whole : Bool). if whole then take (min count (screen.page.bottom + 1)) screen.page.rows else []) calm.0) g
quiet_holds (CallBack call) screen after e g = never_grows [] (above_page screen) refl g
quiet_holds (OnPage x) screen after e g = never_grows [] (above_page screen) refl g
quiet_holds EraseScrollback screen after e g = never_grows [] (above_page screen) refl g
quiet_holds (Render setting) screen after e g = never_grows [] (above_page screen) refl g
quiet_holds (HideCursor hidden) screen after e g = never_grows [] (above_page screen) refl g
quiet_holds (SetMode x) screen after e g = never_grows [] (above_page screen) refl g
quiet_holds SaveCursor screen after e g = never_grows [] (above_page screen) refl g
quiet_holds RestoreCursor screen after e g = never_grows [] (above_page screen) refl g
quiet_holds LeaveAlternate screen after e g = never_grows [] (above_page screen) refl g
quiet_holds LeaveRestoring screen after e g = never_grows [] (above_page screen) refl g
quiet_holds Reset screen after e g = never_grows [] (above_page screen) refl g
quiet_holds EnterAlternate screen after e g =
    false≢true (ap is_some (sym g) ∙ (there_of screen.other (Some (display_after EnterAlternate screen)) after e).0)
quiet_holds EnterFresh screen after e g =
    false≢true (ap is_some (sym g) ∙ (there_of screen.other (Some (display_after EnterFresh screen)) after e).0)

quiet_stays : {S : Type 0} (does : CallRelation S)
    (steps : List Step) (held : S) (screen after : ScreenValue) (b : act.State S) →
    quiet_steps steps screen ≡ Some after → StopsIn (Takes does) Refuses (state held screen) steps b → ⊥
quiet_stays does [] held screen after b e t = t
quiet_stays does (x ∷ steps) held screen after b e t =
    let mid = and_then-some (quiet_steps steps) (quiet_step x screen) after e in
    elim t [
      | inl refusal ↦ quiet_holds x screen mid.0 mid.1 refusal.0
      | inr (j, first, more) ↦
          let there = quiet_takes does x held screen mid.0 j mid.1 first in
          quiet_stays does steps held mid.0 after b mid.2
          (subst (λ i. StopsIn (Takes does) Refuses i steps b) there more)
    ]

quiet_unbroken : {S : Type 0} (does : CallRelation S)
    (events : List Event) (held : S) (screen after : ScreenValue) (b : act.State S) →
    quiet_events events screen ≡ Some after → StopsIn (Performs does) (Breaks does) (state held screen) events b → ⊥
quiet_unbroken does [] held screen after b e t = t
quiet_unbroken does (event ∷ events) held screen after b e t =
    let mid = and_then-some (quiet_events events) (quiet_steps (steps_of event (seen_of screen)) screen) after e in
    elim t [
      | inl broken ↦ quiet_stays does (steps_of event (seen_of screen)) held screen mid.0 b mid.1 broken
      | inr (j, first, more) ↦
          let there = quiet_folds does (steps_of event (seen_of screen)) held screen mid.0 j mid.1 first in
          quiet_unbroken does events held mid.0 after b mid.2
          (subst (λ i. StopsIn (Performs does) (Breaks does) i events b) there more)
    ]

-- If a run over a list of items stops, it stops in the first part of the list or in the second part.
stops_parted : {P A : Type 0} (R T : P → A → P → Type 0) (xs ys : List A) (p q : P) →
    StopsIn R T p (xs ++ ys) q → StopsIn R T p xs q ⊎ ((m : P) × FoldsTo R p xs m × StopsIn R T m ys q)
stops_parted R T [] ys p q t = inr (p, refl, t)
stops_parted R T (x ∷ xs) ys p q t = elim t [
  | inl here ↦ inl (inl here)
  | inr (j, first, more) ↦ elim (stops_parted R T xs ys j q more) [
    | inl early ↦ inl (inr (j, first, early))
    | inr (m, folds, late) ↦ inr (m, (j, first, folds), late)
  ]
]

-- ---- bytes

-- A byte is read without callbacks or allocations, and `u` is the terminal after it.
record ReadQuietly (t : Terminal) (b : ℕ) (u : Terminal) : Type 0 where
  calm : grows (transition_of t.scan.kind (class_of b)) ≡ false
  scan : u.scan ≡ (step_in t.scan.kind t.scan.collected b).state
  events : quiet_events (step_in t.scan.kind t.scan.collected b).events t.screen ≡ Some u.screen

read_quietly : (t : Terminal) (b : ℕ) (u : Terminal) → read_byte t b ≡ Some u → ReadQuietly t b u
unfolding read_byte
read_quietly t b u e =
    let step = step_in t.scan.kind t.scan.collected b in
    let calm = calm_of (grows (transition_of t.scan.kind (class_of b))) _ u e in
    let mid =
    and_then-some (λ screen. Some (terminal step.state screen)) (quiet_events step.events t.screen) u calm.1 in
    let there : terminal step.state mid.0 ≡ u = same_some (terminal step.state mid.0) u mid.2 in
    record {
      calm = calm.0;
      scan = sym (ap (λ (v : Terminal). v.scan) there);
      events = mid.1 ∙ ap (λ (v : Terminal). Some v.screen) there;
    }

pub read_runs : {S : Type 0} (does : CallRelation S) (bytes : List ℕ) (t u : Terminal) (held : S) (b : act.State S) →
    terminal_after t bytes ≡ Some u → FoldsTo (Performs does) (state held t.screen) (run t.scan bytes).events b →
    (b ≡ state held u.screen) × ((run t.scan bytes).state ≡ u.scan)
read_runs does [] t u held b e f =
    let same = same_some t u e in
    (sym f ∙ ap (λ (v : Terminal). state held v.screen) same, ap (λ (v : Terminal). v.scan) same)
read_runs does (x ∷ bytes) t u held b e f =
    let step = step_in t.scan.kind t.scan.collected x in
    let mid = and_then-some (λ v. terminal_after v bytes) (read_byte t x) u e in
    let quiet = read_quietly t x mid.0 mid.1 in
    let parted = folds_parted (Performs does) step.events (run step.state bytes).events (state held t.screen) b f in
    let there = quiet_performs does step.events held t.screen mid.0.screen parted.0 quiet.events parted.1 in
    let rest = subst (λ j. FoldsTo (Performs does) j (run step.state bytes).events b) there parted.2 in
    let again = read_runs does bytes mid.0 u held b mid.2
    (subst (λ (s : State). FoldsTo (Performs does) (state held mid.0.screen) (run s bytes).events b)
    (sym quiet.scan) rest) in
    (again.0, ap (λ (s : State). (run s bytes).state) (sym quiet.scan) ∙ again.1)

pub read_unbroken : {S : Type 0} (does : CallRelation S)
    (bytes : List ℕ) (t u : Terminal) (held : S) (b : act.State S) →
    terminal_after t bytes ≡ Some u → StopsIn (Performs does) (Breaks does) (state held t.screen) (run t.scan bytes).events b → ⊥
read_unbroken does [] t u held b e f = f
read_unbroken does (x ∷ bytes) t u held b e f =
    let step = step_in t.scan.kind t.scan.collected x in
    let mid = and_then-some (λ v. terminal_after v bytes) (read_byte t x) u e in
    let quiet = read_quietly t x mid.0 mid.1 in
    elim (stops_parted (Performs does) (Breaks does) step.events
    (run step.state bytes).events (state held t.screen) b f) [
      | inl early ↦ quiet_unbroken does step.events held t.screen mid.0.screen b quiet.events early
      | inr (m, folds, late) ↦
          let there = quiet_performs does step.events held t.screen mid.0.screen m quiet.events folds in
          let rest = subst (λ j. StopsIn (Performs does) (Breaks does) j (run step.state bytes).events b) there late in
          read_unbroken does bytes mid.0 u held b mid.2
          (subst (λ (s : State). StopsIn (Performs does) (Breaks does) (state held mid.0.screen) (run s bytes).events b)
          (sym quiet.scan) rest)
    ]

pub read_calmly : (bytes : List ℕ) (t u : Terminal) (k : ℕ) →
    terminal_after t bytes ≡ Some u → k < length bytes → Collects t.scan bytes k → ⊥
read_calmly [] t u k e h c = absurd (omega (arith, h))
read_calmly (x ∷ bytes) t u zero e h c =
    let mid = and_then-some (λ v. terminal_after v bytes) (read_byte t x) u e in
    let quiet = read_quietly t x mid.0 mid.1 in
    false≢true (sym quiet.calm ∙ ap grows c)
read_calmly (x ∷ bytes) t u (suc k) e h c =
    let mid = and_then-some (λ v. terminal_after v bytes) (read_byte t x) u e in
    let quiet = read_quietly t x mid.0 mid.1 in
    read_calmly bytes mid.0 u k mid.2 (omega (arith, h)) (subst (λ (s : State). Collects s bytes k) (sym quiet.scan) c)

-- ---- parsers

pub ran_quietly : {S : Type 0} (does : CallRelation S) (p q : ParserValue S) (bytes : List ℕ) (s : State) (t : Terminal) →
    Ran does p bytes q → StandsFor p.scanner s → terminal_after (terminal s p.screen) bytes ≡ Some t →
    StandsFor q.scanner t.scan × (q.screen ≡ t.screen) × (q.callbacks ≡ p.callbacks)
ran_quietly {S} does p q bytes s t ran stands e =
    let one = ran s stands in
    let same = read_runs does bytes (terminal s p.screen) t p.callbacks (stage q) e one.1 in (
      subst (λ (z : State). StandsFor q.scanner z) same.1 one.0,
      ap (λ (b : act.State S). b.screen) same.0,
      ap (λ (b : act.State S). b.callbacks) same.0,
    )

-- Reading without callbacks or allocations has the same effect on a parser that is given by its fields.
pub quietly_here : {S : Type 0} (does : CallRelation S)
    (p old q : ParserValue S) (bytes : List ℕ) (s : State) (t : Terminal) →
    p ≡ old → Ran does p bytes q → StandsFor old.scanner s → terminal_after (terminal s old.screen) bytes ≡ Some t →
    StandsFor q.scanner t.scan × (q.screen ≡ t.screen) × (q.callbacks ≡ old.callbacks)
quietly_here {S} does p old q bytes s t same ran stands told =
    ran_quietly does old q bytes s t (subst (λ (z : ParserValue S). Ran does z bytes q) same ran) stands told

pub never_refused : {S : Type 0} (does : CallRelation S)
    (p old q : ParserValue S) (bytes : List ℕ) (s : State) (t : Terminal) →
    p.scanner ≡ old.scanner → stage p ≡ stage old → Stopped does p bytes q → StandsFor old.scanner s →
    terminal_after (terminal s old.screen) bytes ≡ Some t → ⊥
never_refused {S} does p old q bytes s t scanner same stopped stands told =
    let ready : StandsFor p.scanner s = subst (λ (held : ScannerValue). StandsFor held s) (sym scanner) stands in
    elim stopped [
      | inl before ↦
          read_calmly bytes (terminal s old.screen) t before.count told before.inside (before.refused s ready)
      | inr within ↦
          read_unbroken does bytes (terminal s old.screen) t old.callbacks (stage q) told
          (subst (λ (z : act.State S). StopsIn (Performs does) (Breaks does) z (run s bytes).events (stage q))
          same (within s ready))
    ]

pub quietly_harmless : {S : Type 0} (does : CallRelation S)
    (p : ParserValue S) (bytes : List ℕ) (s : State) (t : Terminal) →
    StandsFor p.scanner s → terminal_after (terminal s p.screen) bytes ≡ Some t → IsHarmless does p bytes
quietly_harmless does p bytes s t stands told q stopped =
    never_refused does p p q bytes s t refl refl stopped stands told

-- ==== Bytes that are read without callbacks or allocations can be read in any chunks without callbacks or allocations.

pub read_pieces : {S : Type 0} (p q : ParserValue S) (calls : List Processing) (state : State) (after : Terminal)
    → p.is_failed ≡ false → StandsFor p.scanner state → terminal_after (terminal state p.screen) (bytes_in calls) ≡ Some after
    → FoldsTo Processes p calls q → AllByRecursion IsFine calls × HasRead p after q
read_pieces {S} p q [] state after ready stands told folds =
    let same : terminal state p.screen ≡ after = same_some (terminal state p.screen) after told in (
      tt,
      subst (λ (r : ParserValue S). HasRead p after r) folds (record {
        is_failed = ready;
        scanner = subst (λ (t : Terminal). StandsFor p.scanner t.scan) same stands;
        screen = ap (λ (t : Terminal). t.screen) same;
        callbacks = refl;
      }),
    )
read_pieces {S} p q (call ∷ calls) state after ready stands told folds =
    let mid = and_then-some (λ (u : Terminal). terminal_after u (bytes_in calls)) (terminal_after (terminal state p.screen) call.bytes)
    after (sym (reads_append (terminal state p.screen) call.bytes (bytes_in calls)) ∙ told) in
    let next : ParserValue S = folds.0 in
    let here = folds.1 state mid.0 ready stands mid.1 in
    let one : HasRead p mid.0 next = here.1 in
    let behind : terminal_after (terminal mid.0.scan next.screen) (bytes_in calls) ≡ Some after =
    ap (λ (s : ScreenValue). terminal_after (terminal mid.0.scan s) (bytes_in calls)) one.screen ∙ mid.2 in
    let rest = read_pieces next q calls mid.0.scan after one.is_failed one.scanner behind folds.2 in
    let all : HasRead next after q = rest.1 in (
      (here.0, rest.0),
      record {
        is_failed = all.is_failed;
        scanner = all.scanner;
        screen = all.screen;
        callbacks = all.callbacks ∙ one.callbacks;
      },
    )

pub chain_pieces : {S : Type 0} (self : ScreenValue)
    (nexts : List ScreenValue) (p q : ParserValue S) (calls : List Processing)
    → IsScreen p.screen → IsPlainParser p → CanShowOn p.screen self → AllByRecursion (CanShowOn p.screen) nexts
    → bytes_in calls ≡ chain_text self nexts → FoldsTo Processes p calls q
    → AllByRecursion IsFine calls × ShowsLast p (last_screen self nexts) q
chain_pieces {S} self nexts p q calls is plain c cs bytes folds =
    let chain = chain_read self nexts p.screen is plain.screen c cs in
    let done = read_pieces p q calls start (terminal start chain.after) plain.is_failed
    plain.scanner (ap (terminal_after (terminal start p.screen)) bytes ∙ chain.reads) folds in
    let all : HasRead p (terminal start chain.after) q = done.1 in (
      done.0,
      record {
        plain = record {
          is_failed = all.is_failed;
          scanner = all.scanner;
          screen = subst IsPlain (sym all.screen) chain.shows.0;
        };
        shows = ap display all.screen ∙ chain.shows.1;
        rest = subst (KeepsRest p.screen) (sym all.screen) chain.rest;
        callbacks = all.callbacks;
      },
    )

-- ---- runs

pub ran_read : {S : Type 0} (does : CallRelation S)
    (p q : ParserValue S) (bytes : List ℕ) (state : State) (after : Terminal)
    → StandsFor p.scanner state → terminal_after (terminal state p.screen) bytes ≡ Some after
    → Ran does p bytes q → q.is_failed ≡ false → HasRead p after q
ran_read does p q bytes state after stands told ran fine =
    let quiet = ran_quietly does p q bytes state after ran stands told in
    record { is_failed = fine; scanner = quiet.0; screen = quiet.1; callbacks = quiet.2 }

made_ran : {S : Type 0} (does : CallRelation S) (p q : ParserValue S) (pieces : List (List ℕ)) →
    FoldsTo (MakesCall does) p (map Process pieces) q → FoldsTo (Ran does) p pieces q
made_ran does p q [] t = t
made_ran does p q (piece ∷ pieces) t = (t.0, t.1, made_ran does t.0 q pieces t.2)

pub made_read : {S : Type 0} (does : CallRelation S)
    (p q : ParserValue S) (pieces : List (List ℕ)) (state : State) (after : Terminal)
    → StandsFor p.scanner state → terminal_after (terminal state p.screen) (pieces_joined pieces) ≡ Some after
    → FoldsTo (MakesCall does) p (map Process pieces) q → q.is_failed ≡ false → HasRead p after q
made_read does p q pieces state after stands told made fine =
    ran_read does p q (pieces_joined pieces) state after stands told
    (ran_joined does p q pieces (made_ran does p q pieces made)) fine
