-- Parsers that are plain: fresh and resized ones, and those that have read output.
use Rattle.std.proofs.Common.{◌≡◌, ℕ, ◌<◌, ◌^◌, length, refl, sym, ap, subst, ◌∙◌, arith, inl, inr, ◌==◌, Bool, true}
use Rattle.std.proofs.Common.{false, List, [], ◌∷◌, take}
use Rattle.std.proofs.lemmas.List.{length-replicate}
use Rattle.std.proofs.Math.Logic.{∥∥₁_elim}
use Rattle.std.proofs.lemmas.Bool.{false≢true}
use Rattle.std.proofs.lemmas.Bool.Decides.{nat_tests}
use Rattle.std.specs.List.{FoldsTo, AllByRecursion}
use Rattle.vt_cells.specs.Attrs.{default_attrs}
use Rattle.vt_rows.specs.Row.{blank_row}
use Rattle.vt_scan.specs.Automaton.{start, Event, State, run}
use Rattle.vt_scan.specs.Scanner.{StandsFor}
use Rattle.vt_grid.specs.Page.{IsPage, Page, SameSize}
use Rattle.vt_redraw.specs.Picture.{SamePictureSize}
use Rattle.vt_redraw.specs.Steady.{IsSteady}
use Rattle.vt_screen.specs.Pages.{screen_after_resize}
use Rattle.vt_screen.specs.Screen.{IsScreen, ScreenValue, fresh_screen}
use Rattle.vt_screen.specs.Shown.{IsPlain, IsReaderOf, KeepsRest, RedrawsFrom, display}
use Rattle.vt_screen.specs.Run as act
use Rattle.vt_screen.specs.Run.{CallRelation, Breaks, Performs, Refuses, StopsIn, Takes}
use Rattle.vt_screen.specs.Controls.{seen_of, steps_of}
use Rattle.vt_screen.specs.Steps.{Step}
use Rattle.vt_screen.specs.CallsOfRun.{LeavesScreen, calls_in, steps_in}
use Rattle.vt_screen.specs.Again.{KeepsAside, LeavesPlain}
use Rattle.vt_screen.specs.States.{KeepsAsideButModes, LeavesPlainWithModes}
use Rattle.vt_screen.specs.declared.modes.Modes.{Modes}
use Rattle.vt_screen.specs.Reading.{terminal}
use Rattle.vt_screen.proofs.SizeRuns.{resized_plain, resized_size, IsSized, sized_screen, sized_taken}
use Rattle.vt_screen.proofs.CallsNone.{only_reports, reported_events}
use Rattle.vt100.specs.Parser.{ParserValue, parser_value, Ran, Stopped, does_nothing, stage}
use Rattle.vt100.specs.Pieces.{IsPlainParser, IsPlainAgain, IsPlainWithModes, AreDiffs, AreFine, HasRead, ReadDiff}
use Rattle.vt100.specs.Pieces.{ReadsDiff, ShowsLast, bytes_in, last_of}
use Rattle.vt100.specs.Streams.{IsFreshParser}
use Rattle.vt100.proofs.Quiet.{read_pieces}

-- ==== Fresh and resized parsers: their sizes, and that they are plain.

height_is : (rows cols capacity : ℕ) → length (fresh_screen rows cols capacity).page.rows ≡ rows
height_is rows cols capacity = length-replicate rows (blank_row default_attrs cols)

plain_screen : (rows cols capacity : ℕ) → 0 < rows → IsPlain (fresh_screen rows cols capacity)
plain_screen rows cols capacity some =
    let tall = height_is rows cols capacity in
    record { page = record { whole = (refl, omega (arith, tall, some)); origin = refl }; offset = refl }

page_of : (rows cols capacity : ℕ) (screen : ScreenValue) → IsScreen screen →
    screen ≡ fresh_screen rows cols capacity → IsPage (fresh_screen rows cols capacity).page
page_of rows cols capacity screen is shown = (subst (λ (s : ScreenValue). IsScreen s) shown is).page

some_rows : (rows cols capacity : ℕ) (screen : ScreenValue) →
    IsScreen screen → screen ≡ fresh_screen rows cols capacity → 0 < rows
some_rows rows cols capacity screen is shown =
    subst (λ (n : ℕ). 0 < n) (height_is rows cols capacity) (page_of rows cols capacity screen is shown).cursor_row

screen_of : {S : Type 0} (rows cols capacity : ℕ) (p : ParserValue S) →
    p ≡ parser_value p.scanner (fresh_screen rows cols capacity) p.callbacks → p.screen ≡ fresh_screen rows cols capacity
screen_of {S} rows cols capacity p begun = ap (λ (r : ParserValue S). r.screen) begun

pub fresh_parser : {S : Type 0} (rows cols capacity : ℕ) (p : ParserValue S) →
    IsScreen p.screen → StandsFor p.scanner start →
    p ≡ parser_value p.scanner (fresh_screen rows cols capacity) p.callbacks → IsFreshParser rows cols capacity p
fresh_parser rows cols capacity p is stands begun =
    let shown = screen_of rows cols capacity p begun in
    let page = page_of rows cols capacity p.screen is shown in
    record {
      has_rows = some_rows rows cols capacity p.screen is shown;
      few_rows = subst (λ (n : ℕ). n < 2 ^ 16) (height_is rows cols capacity) page.height;
      has_columns = page.has_columns;
      few_columns = page.columns;
      ground = stands;
      shown = shown;
    }

pub plain_parser : {S : Type 0} (rows cols capacity : ℕ) (p : ParserValue S) → IsScreen p.screen →
    StandsFor p.scanner start → p ≡ parser_value p.scanner (fresh_screen rows cols capacity) p.callbacks → IsPlainParser p
plain_parser {S} rows cols capacity p is stands begun =
    let shown = screen_of rows cols capacity p begun in
    record {
      is_failed = ap (λ (r : ParserValue S). r.is_failed) begun;
      scanner = stands;
      screen =
          subst IsPlain (sym shown) (plain_screen rows cols capacity (some_rows rows cols capacity p.screen is shown));
    }

pub fresh_rows : {S : Type 0} (rows cols capacity : ℕ) (p : ParserValue S) →
    IsFreshParser rows cols capacity p → length p.screen.page.rows ≡ rows
fresh_rows rows cols capacity p fresh =
    ap (λ (s : ScreenValue). length s.page.rows) fresh.shown ∙ height_is rows cols capacity

pub fresh_cols : {S : Type 0} (rows cols capacity : ℕ) (p : ParserValue S) →
    IsFreshParser rows cols capacity p → p.screen.page.width ≡ cols
fresh_cols rows cols capacity p fresh = ap (λ (s : ScreenValue). s.page.width) fresh.shown

-- ---- resizing

pub resized_parser : {S : Type 0} (rows cols : ℕ) (p q : ParserValue S) → 0 < rows →
    q ≡ record p { screen = screen_after_resize rows cols p.screen; callbacks = q.callbacks } → IsPlainParser p → IsPlainParser q
resized_parser {S} rows cols p q some became plain = record {
  is_failed = ap (λ (r : ParserValue S). r.is_failed) became ∙ plain.is_failed;
  scanner = subst (λ (r : ParserValue S). StandsFor r.scanner start) (sym became) plain.scanner;
  screen =
      subst IsPlain (sym (ap (λ (r : ParserValue S). r.screen) became))
      (resized_plain rows cols p.screen some plain.screen);
}

pub resized_rows : {S : Type 0} (rows cols : ℕ) (p q : ParserValue S) →
    q ≡ record p { screen = screen_after_resize rows cols p.screen; callbacks = q.callbacks } → length q.screen.page.rows ≡ rows
resized_rows {S} rows cols p q became =
    ap (λ (r : ParserValue S). length r.screen.page.rows) became ∙ (resized_size rows cols p.screen).1

pub resized_cols : {S : Type 0} (rows cols : ℕ) (p q : ParserValue S) →
    q ≡ record p { screen = screen_after_resize rows cols p.screen; callbacks = q.callbacks } → q.screen.page.width ≡ cols
resized_cols {S} rows cols p q became =
    ap (λ (r : ParserValue S). r.screen.page.width) became ∙ (resized_size rows cols p.screen).0

-- ==== A run whose callbacks leave the screen unchanged keeps its size.

module _ {S : Type 0} (does : CallRelation S) (leaves : LeavesScreen does) (height width : ℕ) where
  sized_steps : (steps : List Step) (a b : act.State S) → IsSized height width a.screen →
      FoldsTo (Takes does) a steps b → IsSized height width b.screen
  sized_steps [] a b z e = subst (λ (s : act.State S). IsSized height width s.screen) e z
  sized_steps (step ∷ steps) a b z t =
      sized_steps steps t.0 b (sized_taken does leaves height width step a t.0 z t.1) t.2

  sized_events : (events : List Event) (a b : act.State S) → IsSized height width a.screen →
      FoldsTo (Performs does) a events b → IsSized height width b.screen
  sized_events [] a b z e = subst (λ (s : act.State S). IsSized height width s.screen) e z
  sized_events (event ∷ events) a b z t =
      sized_events events t.0 b (sized_steps (steps_of event (seen_of a.screen)) a t.0 z t.1) t.2

  sized_broken : (steps : List Step) (a b : act.State S) → IsSized height width a.screen →
      StopsIn (Takes does) Refuses a steps b → IsSized height width b.screen
  sized_broken [] a b z t = absurd t
  sized_broken (step ∷ steps) a b z t = elim t [
    | inl r ↦ subst (λ (s : act.State S). IsSized height width s.screen) (sym r.1) z
    | inr (j, first, more) ↦ sized_broken steps j b (sized_taken does leaves height width step a j z first) more
  ]

  sized_stopped : (events : List Event) (a b : act.State S) → IsSized height width a.screen →
      StopsIn (Performs does) (Breaks does) a events b → IsSized height width b.screen
  sized_stopped [] a b z t = absurd t
  sized_stopped (event ∷ events) a b z t = elim t [
    | inl r ↦ sized_broken (steps_of event (seen_of a.screen)) a b z r
    | inr (j, first, more) ↦ sized_stopped events j b (sized_steps (steps_of event (seen_of a.screen)) a j z first) more
  ]

size_is : (a b : ScreenValue) → IsSized (length a.page.rows) a.page.width b → SameSize b.page a.page
size_is a b z = record { width = z.page.width_is; height = z.page.height_is }

pub ran_size : {S : Type 0} (does : CallRelation S) →
    LeavesScreen does → (p q : ParserValue S) (bytes : List ℕ) (scan : State) → IsScreen p.screen →
    StandsFor p.scanner scan → Ran does p bytes q → SameSize q.screen.page p.screen.page
ran_size does leaves p q bytes scan is stands ran =
    size_is p.screen q.screen (sized_events does leaves (length p.screen.page.rows) p.screen.page.width
    (run scan bytes).events (stage p) (stage q) (sized_screen p.screen is) (ran scan stands).1)

pub stopped_size : {S : Type 0} (does : CallRelation S) →
    LeavesScreen does → (p q : ParserValue S) (bytes : List ℕ) (scan : State) → IsScreen p.screen →
    StandsFor p.scanner scan → Stopped does p bytes q → SameSize q.screen.page p.screen.page
stopped_size does leaves p q bytes scan is stands stopped = elim stopped [
  | inl before ↦ ran_size does leaves p q (take before.count bytes) scan is stands before.ran
  | inr within ↦
      size_is p.screen q.screen (sized_stopped does leaves (length p.screen.page.rows) p.screen.page.width
      (run scan bytes).events (stage p) (stage q) (sized_screen p.screen is) (within scan stands))
]

-- ---- parsers whose scanner stands for some state

same_number : (v q : ℕ) → (v == q) ≡ true → v ≡ q
same_number v q e = grind (arith, nat_tests)

own_number : (v : ℕ) → (v == v) ≡ true
own_number v = grind (arith, nat_tests)

-- If two numbers are equal for every inhabitant of a type, and the type has one, they are equal.
same_for_some : {A : Type 0} (m n : ℕ) → ∥ A ∥₁ → (A → m ≡ n) → m ≡ n
same_for_some {A} m n some h = by_test (m == n) refl where
  differ : (m == n) ≡ false → A → ⊥
  differ e a = false≢true (sym e ∙ (ap (λ (k : ℕ). m == k) (sym (h a)) ∙ own_number m))

  by_test : (b : Bool) → (m == n) ≡ b → m ≡ n
  by_test true e = same_number m n e
  by_test false e = absurd (∥∥₁_elim some (λ x y. absurd x) (differ e))

pub same_size_for_some : {A : Type 0} (new old : Page) → ∥ A ∥₁ → (A → SameSize new old) → SameSize new old
same_size_for_some {A} new old some h = record {
  width = same_for_some new.width old.width some (λ (a : A). (h a).width);
  height = same_for_some (length new.rows) (length old.rows) some (λ (a : A). (h a).height);
}

pub some_ran_size : {S : Type 0} (does : CallRelation S) (p q : ParserValue S) (bytes : List ℕ) →
    LeavesScreen does → IsScreen p.screen → ∥ ((scan : State) × StandsFor p.scanner scan) ∥₁ → Ran does p bytes q →
    SameSize q.screen.page p.screen.page
some_ran_size does p q bytes leaves is stands ran =
    same_size_for_some q.screen.page p.screen.page stands
    (λ (s : (scan : State) × StandsFor p.scanner scan). ran_size does leaves p q bytes s.0 is s.1 ran)

pub some_stopped_size : {S : Type 0} (does : CallRelation S) (p q : ParserValue S) (bytes : List ℕ) →
    LeavesScreen does → IsScreen p.screen → ∥ ((scan : State) × StandsFor p.scanner scan) ∥₁ → Stopped does p bytes q →
    SameSize q.screen.page p.screen.page
some_stopped_size does p q bytes leaves is stands stopped =
    same_size_for_some q.screen.page p.screen.page stands
    (λ (s : (scan : State) × StandsFor p.scanner scan). stopped_size does leaves p q bytes s.0 is s.1 stopped)

-- Callbacks that do nothing leave the screen unchanged.
pub quiet_leaves : LeavesScreen does_nothing
quiet_leaves call old new before after t = t.1

-- ==== A parser that was plain, after it has read output that keeps terminals plain.

pub leaves_plain : {S : Type 0} (does : CallRelation S) (p q : ParserValue S) (text : List ℕ) → StandsFor p.scanner start →
    LeavesPlain text p.screen → Ran does p text q → q.is_failed ≡ false → IsPlainAgain does p q
leaves_plain does p q text stands leaves ran fine =
    let (scanner, folds) = ran start stands in
    let told = reported_events does (run start text).events (stage p) (stage q) leaves.steps folds in record {
      plain = record {
        is_failed = fine;
        scanner = subst (λ (s : State). StandsFor q.scanner s) leaves.ground scanner;
        screen = subst IsPlain (sym told.shown) leaves.plain;
      };
      aside = subst (KeepsAside p.screen) (sym told.shown) leaves.aside;
      calls = calls_in start p.screen text;
      reports = only_reports (steps_in start p.screen text) p.screen leaves.steps;
      called = told.called;
    }

-- A parser that was plain, after it has read output that sets its input modes.
pub leaves_modes : {S : Type 0} (does : CallRelation S) (modes : Modes) (p q : ParserValue S) (text : List ℕ) →
    StandsFor p.scanner start → LeavesPlainWithModes modes text p.screen → Ran does p text q → q.is_failed ≡ false →
    IsPlainWithModes does modes p q
leaves_modes does modes p q text stands leaves ran fine =
    let (scanner, folds) = ran start stands in
    let told = reported_events does (run start text).events (stage p) (stage q) leaves.steps folds in record {
      plain = record {
        is_failed = fine;
        scanner = subst (λ (s : State). StandsFor q.scanner s) leaves.ground scanner;
        screen = subst IsPlain (sym told.shown) leaves.plain;
      };
      aside = subst (KeepsAsideButModes p.screen) (sym told.shown) leaves.aside;
      has_modes = ap (λ (s : ScreenValue). s.modes) told.shown ∙ leaves.has_modes;
      calls = calls_in start p.screen text;
      reports = only_reports (steps_in start p.screen text) p.screen leaves.steps;
      called = told.called;
    }

-- ==== A plain terminal that reads diffs of any kind, each from the previous screen to the next, displays the last
-- screen.

keeps_itself : (screen : ScreenValue) → KeepsRest screen screen
keeps_itself screen = record {
  but_modes = record {
    other = refl;
    is_alternate = refl;
    scrollback = refl;
    width = refl;
    top = refl;
    bottom = refl;
    origin = refl;
  };
  modes = refl;
}

keeps_then : (a b c : ScreenValue) → KeepsRest a b → KeepsRest b c → KeepsRest a c
keeps_then a b c k l = record {
  but_modes = record {
    other = l.but_modes.other ∙ k.but_modes.other;
    is_alternate = l.but_modes.is_alternate ∙ k.but_modes.is_alternate;
    scrollback = l.but_modes.scrollback ∙ k.but_modes.scrollback;
    width = l.but_modes.width ∙ k.but_modes.width;
    top = l.but_modes.top ∙ k.but_modes.top;
    bottom = l.but_modes.bottom ∙ k.but_modes.bottom;
    origin = l.but_modes.origin ∙ k.but_modes.origin;
  };
  modes = l.modes ∙ k.modes;
}

-- A plain terminal that displays one screen and reads a diff to another displays that screen.
diff_read : {S : Type 0} (was : ScreenValue) (diff : ReadDiff) (p q : ParserValue S) → IsScreen p.screen → IsPlainParser p →
    display p.screen ≡ display was → IsSteady (display diff.screen) →
    SamePictureSize (display diff.screen) (display was) → RedrawsFrom was diff.screen (bytes_in diff.calls) →
    ReadsDiff p diff q → AreFine diff × ShowsLast p diff.screen q
diff_read {S} was diff p q is plain shown steady size redraws reads =
    let reader : IsReaderOf (display diff.screen) (display was) p.screen = record {
      is = record {
        sound = is;
        plain = plain.screen;
        size = subst (SamePictureSize (display diff.screen)) (sym shown) size;
      };
      shows = shown;
    } in
    let (after, read) = redraws.quiet steady p.screen reader in
    let shows = redraws.shows steady p.screen after reader read in
    let rest = redraws.rest steady p.screen after reader read in
    let done = read_pieces p q diff.calls start (terminal start after) plain.is_failed plain.scanner read reads.folds in
    let all : HasRead p (terminal start after) q = done.1 in (
      done.0,
      record {
        plain = record {
          is_failed = all.is_failed;
          scanner = all.scanner;
          screen = subst IsPlain (sym all.screen) shows.0;
        };
        shows = ap display all.screen ∙ shows.1;
        rest = subst (KeepsRest p.screen) (sym all.screen) rest;
        callbacks = all.callbacks;
      },
    )

pub diffs_read : {S : Type 0} (was : ScreenValue) (diffs : List ReadDiff) (p q : ParserValue S) → IsScreen p.screen →
    IsPlainParser p → display p.screen ≡ display was → AreDiffs was diffs → FoldsTo ReadsDiff p diffs q →
    AllByRecursion AreFine diffs × ShowsLast p (last_of was diffs) q
diffs_read {S} was [] p q is plain shown are folds = (
  tt,
  subst (ShowsLast p was) folds
      (record { plain = plain; shows = shown; rest = keeps_itself p.screen; callbacks = refl }),
)
diffs_read {S} was (diff ∷ diffs) p q is plain shown (steady, size, redraws, more) folds =
    let next : ParserValue S = folds.0 in
    let one = diff_read was diff p next is plain shown steady size redraws folds.1 in
    let here : ShowsLast p diff.screen next = one.1 in
    let rest = diffs_read diff.screen diffs next q folds.1.sound here.plain here.shows more folds.2 in
    let all : ShowsLast next (last_of diff.screen diffs) q = rest.1 in (
      (one.0, rest.0),
      record {
        plain = all.plain;
        shows = all.shows;
        rest = keeps_then p.screen next.screen q.screen here.rest all.rest;
        callbacks = all.callbacks ∙ here.callbacks;
      },
    )
