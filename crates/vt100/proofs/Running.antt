-- Runs in sequence, and the byte whose allocation fails.
use Rattle.std.proofs.Common.{◌≡◌, ℕ, List, [], ◌∷◌, ◌++◌, ◌+◌, ◌-◌, ◌<◌, ◌≤◌, length, take, drop, slice_index_or, refl}
use Rattle.std.proofs.Common.{sym, subst, ap, ◌∙◌, inl, inr, arith, Bool, Some, None}
use Rattle.std.proofs.Math.Seq.{take-add, get_or-append-add, take-append-add}
use Rattle.std.proofs.lemmas.List.{append-nil, get_or-drop, length-drop, take_more, drop_more, length-append}
use Rattle.std.proofs.lemmas.List.{length-take-le, take-append-drop}
use Rattle.std.proofs.lemmas.Bool.{false≢true}
use Rattle.std.specs.List.{FoldsTo}
use Rattle.std.specs.Prelude.{Err, IfOk, Ok, Result}
use Rattle.vt_rows.specs.Row.{RowValue}
use Rattle.vt_rows.proofs.RowTexts.{folds_then}
use Rattle.vt_scan.specs.Automaton.{Event, State, Step, step_in, run}
use Rattle.vt_scan.specs.Scanner.{Feeds, FeedsAll, HasNoEvent, ScannerValue, events_in, StandsFor}
use Rattle.vt_scan.specs.Table.{class_of, transition_of}
use Rattle.vt_scan.specs.declared.event.Events.{Events}
use Rattle.vt_scan.specs.declared.table.Kind.TheVariants.{OscString}
use Rattle.vt_scan.specs.declared.table.Transition.TheVariants.{Collect}
use Rattle.vt_scan.specs.declared.event.Event.TheVariants.{Character}
use Rattle.vt_scan.specs.declared.table.Kind.{Kind}
use Rattle.vt_scan.proofs.Readback.{run-append}
use Rattle.vt_screen.specs.Run.{CallRelation, Performs, Breaks, StopsIn, CalledOnScroll, Takes, state}
use Rattle.vt_screen.specs.Run as screen
use Rattle.vt_screen.specs.Controls.{seen_of, steps_of}
use Rattle.vt_screen.specs.Screen.{ScreenValue}
use Rattle.vt_screen.specs.Steps.{Step as Action, Print, LineFeed, ScrollUp, EraseScrollback, CallBack}
use Rattle.vt100.specs.Parser.{IsRefused, ParserValue, Ran, StoppedAt, stage, CallsByLast, IsSilent, Stopped}
use Rattle.vt100.specs.Parser.{StoppedBefore, StoppedWithin, Collects, invokes_none, parser_value, pieces_joined}
use Rattle.vt100.specs.Internals.{ReadsOrStops}

-- ==== The byte whose allocation fails: no byte before it has an event.

-- If the first byte is collected into a command and its allocation fails, parsing stops at that byte.
pub stopped_at_text : {S : Type 0} (does : CallRelation S) (p q : ParserValue S) (bytes : List ℕ)
    → 0 < length bytes → stage q ≡ stage p
    → transition_of p.scanner.kind (class_of (slice_index_or bytes 0 0)) ≡ Collect OscString → StoppedAt does p bytes 0 q
stopped_at_text does p q bytes some same turn = record {
  inside = some;
  before = λ s stands. refl;
  refused = λ s stands. inl (same, rw (sym stands.kind) turn);
}

-- If an allocation fails in an event of the first byte, parsing stops at that byte.
pub stopped_at_first : {S : Type 0} (does : CallRelation S) (p q : ParserValue S) (after : ScannerValue) (bytes : List ℕ)
    (answer : Events) → 0 < length bytes → Feeds p.scanner (slice_index_or bytes 0 0) after answer
    → StopsIn (Performs does) (Breaks does) (stage p) (events_in after answer) (stage q) → StoppedAt does p bytes 0 q
stopped_at_first does p q after bytes answer some feeds stops = record {
  inside = some;
  before = λ s stands. refl;
  refused = λ s stands. inr (subst (λ (events : List Event).
      StopsIn (Performs does) (Breaks does) (stage p) events (stage q)) (feeds s stands).means stops);
}

-- If no byte before the last one has an event, the events of the bytes are those of the last one.
last_events : (s : State) (bytes : List ℕ) (k : ℕ) → k < length bytes → (run s (take k bytes)).events ≡ []
    → (run s (take (k + 1) bytes)).events
    ≡ (step_in (run s (take k bytes)).state.kind (run s (take k bytes)).state.collected (slice_index_or bytes k 0)).events
last_events s bytes k inside none =
    let b = slice_index_or bytes k 0 in
    let there = (run s (take k bytes)).state in
    ap (λ (text : List ℕ). (run s text).events) (take_more bytes k 0 inside)
    ∙ ap (λ (step : Step). step.events) (run-append s (take k bytes) (b ∷ []))
    ∙ ap (λ (events : List Event). events ++ (run there (b ∷ [])).events) none
    ∙ append-nil (step_in there.kind there.collected b).events

-- If only the last byte has events and an allocation fails in one of them, parsing stops at that byte.
pub stopped_at_last : {S : Type 0} (does : CallRelation S) (p q : ParserValue S) (after : ScannerValue) (bytes : List ℕ) (n : ℕ)
    (events : List Event) → 0 < n → n ≤ length bytes → FeedsAll p.scanner (take n bytes) after events
    → HasNoEvent p.scanner (take (n - 1) bytes)
    → StopsIn (Performs does) (Breaks does) (stage p) events (stage q) → StoppedAt does p bytes (n - 1) q
stopped_at_last does p q after bytes n events some inside fed none stops =
    let k = n - 1 in
    let one : k + 1 ≡ n = omega (arith, some) in
    let within : k < length bytes = omega (arith, some, inside) in
    record {
      inside = within;
      before = none;
      refused = λ s stands. inr (subst (λ (all : List Event).
          StopsIn (Performs does) (Breaks does) (stage p) all (stage q))
          (sym (fed s stands).1 ∙ ap (λ (m : ℕ). (run s (take m bytes)).events) (sym one)
          ∙ last_events s bytes k within (none s stands)) stops);
    }

-- A run over no bytes before the byte whose allocation fails doesn't change where parsing stops.
pub stopped_at_after : {S : Type 0} (does : CallRelation S) (p q r : ParserValue S) (bytes : List ℕ) (count : ℕ)
    → Ran does p (take 0 bytes) q → StoppedAt does q bytes count r → StoppedAt does p bytes count r
stopped_at_after {S = S} does p q r bytes count nothing at = record {
  inside = at.inside;
  before = λ s stands. at.before s (nothing s stands).0;
  refused = λ s stands.
      let there = (run s (take count bytes)).state in
      subst (λ (from : screen.State S). IsRefused does from there (slice_index_or bytes count 0) (stage r))
      (sym (nothing s stands).1) (at.refused s (nothing s stands).0);
}

-- If k bytes without events come first, parsing stops k bytes later.
pub stopped_at_then : {S : Type 0} (does : CallRelation S) (p q r : ParserValue S) (bytes : List ℕ) (k n : ℕ)
    → FeedsAll p.scanner (take k bytes) q.scanner [] → stage q ≡ stage p
    → StoppedAt does q (drop k bytes) n r → StoppedAt does p bytes (k + n) r
stopped_at_then {S = S} does p q r bytes k n fed same at =
    let rest = drop k bytes in
    record {
      inside = omega (arith, length-drop k bytes, at.inside);
      before = λ s stands.
          let led = fed s stands in
          let middle = (run s (take k bytes)).state in
          ap (λ (text : List ℕ). (run s text).events) (take-add k n bytes)
          ∙ ap (λ (step : Step). step.events) (run-append s (take k bytes) (take n rest))
          ∙ ap (λ (events : List Event). events ++ (run middle (take n rest)).events) led.1
          ∙ at.before middle led.0;
      refused = λ s stands.
          let led = fed s stands in
          let middle = (run s (take k bytes)).state in
          let there : (run middle (take n rest)).state ≡ (run s (take (k + n) bytes)).state =
          sym (ap (λ (text : List ℕ). (run s text).state) (take-add k n bytes)
          ∙ ap (λ (step : Step). step.state) (run-append s (take k bytes) (take n rest))) in
          let here : IsRefused does (stage p) (run middle (take n rest)).state (slice_index_or rest n 0) (stage r) =
          subst (λ (from : screen.State S).
          IsRefused does from (run middle (take n rest)).state (slice_index_or rest n 0) (stage r)) same
          (at.refused middle led.0) in
          subst (λ (state : State). IsRefused does (stage p) state (slice_index_or bytes (k + n) 0) (stage r)) there
          (subst (λ (byte : ℕ). IsRefused does (stage p) (run middle (take n rest)).state byte (stage r))
          (get_or-drop k bytes n 0) here);
    }

-- ==== Runs in sequence.

pub stops_first : {P A : Type 0} (R T : P → A → P → Type 0) (xs ys : List A) (p q : P) →
    StopsIn R T p xs q → StopsIn R T p (xs ++ ys) q
stops_first R T [] ys p q h = absurd h
stops_first R T (x ∷ xs) ys p q h = elim h [
  | inl here ↦ inl here
  | inr (j, first, more) ↦ inr (j, first, stops_first R T xs ys j q more)
]

pub stops_then : {P A : Type 0} (R T : P → A → P → Type 0) (xs ys : List A) (p q r : P) →
    FoldsTo R p xs q → StopsIn R T q ys r → StopsIn R T p (xs ++ ys) r
stops_then R T [] ys p q r e t = subst (λ z. StopsIn R T z ys r) (sym e) t
stops_then R T (x ∷ xs) ys p q r s t = inr (s.0, s.1, stops_then R T xs ys s.0 q r s.2 t)

pub folds_parted : {P A : Type 0} (R : P → A → P → Type 0) (xs ys : List A) (p r : P) →
    FoldsTo R p (xs ++ ys) r → (q : P) × FoldsTo R p xs q × FoldsTo R q ys r
folds_parted R [] ys p r t = (p, refl, t)
folds_parted R (x ∷ xs) ys p r t = let rest = folds_parted R xs ys t.0 r t.2 in (rest.0, (t.0, t.1, rest.1), rest.2)

pub ran_then : {S : Type 0} (does : CallRelation S) (p q r : ParserValue S) (a b : List ℕ) →
    Ran does p a q → Ran does q b r → Ran does p (a ++ b) r
ran_then does p q r a b first second = λ s stands.
    let one = first s stands in
    let two = second (run s a).state one.0 in
    rw (run-append s a b) (
      two.0,
      folds_then (Performs does) (run s a).events (run (run s a).state b).events
          (stage p) (stage q) (stage r) one.1 two.1,
    )

pub byte_ran : {S : Type 0} (does : CallRelation S) (p q : ParserValue S) (b : ℕ) (answer : Events) →
    Feeds p.scanner b q.scanner answer → FoldsTo (Performs does) (stage p) (events_in q.scanner answer) (stage q) →
    Ran does p (b ∷ []) q
byte_ran does p q b answer feeds folds = λ s stands.
    let follows = feeds s stands in (
      follows.stands,
      subst (λ events. FoldsTo (Performs does) (stage p) events (stage q))
          (follows.means ∙ sym (append-nil (step_in s.kind s.collected b).events)) folds,
    )

-- What was read stays read when the scanner drops data that no state depends on.
pub released_ran : {S : Type 0} (does : CallRelation S) (p q : ParserValue S) (held : ScannerValue) (bytes : List ℕ) →
    Ran does p bytes q → ((s : State) → StandsFor q.scanner s → StandsFor held s) →
    Ran does p bytes (record q { scanner = held })
released_ran does p q held bytes ran still = λ s stands.
    let follows = ran s stands in
    (still (run s bytes).state follows.0, follows.1)

-- The byte whose allocation failed is collected into a command's text.
pub refused_at : {S : Type 0} (does : CallRelation S) (p q : ParserValue S) (bytes : List ℕ) (k : ℕ) →
    Ran does p (take k bytes) q → transition_of q.scanner.kind (class_of (slice_index_or bytes k 0)) ≡ Collect OscString →
    (state : State) → StandsFor p.scanner state → Collects state bytes k
refused_at does p q bytes k ran turn = λ s stands.
    subst (λ (kind : Kind). transition_of kind (class_of (slice_index_or bytes k 0)) ≡ Collect OscString)
    (ran s stands).0.kind turn

ran_nothing : {S : Type 0} (does : CallRelation S) (p q : ParserValue S) → p ≡ q → Ran does p [] q
ran_nothing does p q same = subst (λ z. Ran does p [] z) same (λ s stands. (stands, refl))

pub ran_joined : {S : Type 0} (does : CallRelation S) (p q : ParserValue S) (pieces : List (List ℕ)) →
    FoldsTo (Ran does) p pieces q → Ran does p (pieces_joined pieces) q
ran_joined does p q [] same = ran_nothing does p q same
ran_joined does p q (piece ∷ pieces) runs =
    ran_then does p runs.0 q piece (pieces_joined pieces) runs.1 (ran_joined does runs.0 q pieces runs.2)

-- If an allocation fails in an event of one byte of many, parsing stops within the events of all of them.
pub stopped_within : {S : Type 0} (does : CallRelation S)
    (p m q : ParserValue S) (after : ScannerValue) (bytes : List ℕ) (k : ℕ) (answer : Events)
    → k < length bytes → Ran does p (take k bytes) m → Feeds m.scanner (slice_index_or bytes k 0) after answer
    → StopsIn (Performs does) (Breaks does) (stage m) (events_in after answer) (stage q) → StoppedWithin does p bytes q
stopped_within does p m q after bytes k answer inside ran feeds stops = λ s stands.
    let one = ran s stands in
    let there = run s (take k bytes) in
    let x = slice_index_or bytes k 0 in
    let step = step_in there.state.kind there.state.collected x in
    let rest = drop (k + 1) bytes in
    let follows = feeds there.state one.0 in
    let split : take k bytes ++ (x ∷ rest) ≡ bytes =
    ap (λ (tail : List ℕ). take k bytes ++ tail) (sym (drop_more bytes k 0 inside)) ∙ take-append-drop k bytes in
    let here = stops_first (Performs does) (Breaks does) step.events (run step.state rest).events (stage m) (stage q)
    (subst (λ events. StopsIn (Performs does) (Breaks does) (stage m) events (stage q)) follows.means stops) in
    let all = stops_then (Performs does) (Breaks does) there.events
    (run there.state (x ∷ rest)).events (stage p) (stage m) (stage q) one.1 here in
    subst (λ (bs : List ℕ). StopsIn (Performs does) (Breaks does) (stage p) (run s bs).events (stage q)) split
    (rw (run-append s (take k bytes) (x ∷ rest)) all)

-- The result of a byte whose only event is one character.
abbrev pub one_character : ℕ → Events
one_character code = record { first = Some (Character code); second = None }

-- A byte that is read as its own character has the event of that character.
pub text_answer : (held : ScannerValue) (b code : ℕ) → Feeds held b held (one_character b) →
    code ≡ b → Feeds held b held (one_character code)
text_answer held b code feeds same = subst (λ (k : ℕ). Feeds held b held (one_character k)) (sym same) feeds

-- ---- a run followed by one that stops because an allocation fails

stopped_within_then : {S : Type 0} (does : CallRelation S) (p q r : ParserValue S) (a b : List ℕ) →
    Ran does p a q → StoppedWithin does q b r → StoppedWithin does p (a ++ b) r
stopped_within_then does p q r a b first second = λ s stands.
    let one = first s stands in
    rw (run-append s a b) (stops_then (Performs does) (Breaks does) (run s a).events
    (run (run s a).state b).events (stage p) (stage q) (stage r) one.1 (second (run s a).state one.0))

stopped_before_then : {S : Type 0} (does : CallRelation S) (p q r : ParserValue S) (a b : List ℕ) →
    Ran does p a q → StoppedBefore does q b r → StoppedBefore does p (a ++ b) r
stopped_before_then does p q r a b first second =
    let k = second.count in
    let front = take-append-add a b k in
    record {
      count = length a + k;
      inside = omega (arith, length-append a b, second.inside);
      ran =
          subst (λ (bytes : List ℕ). Ran does p bytes r) (sym front)
          (ran_then does p q r a (take k b) first second.ran);
      refused = λ s stands.
          let reached = ap (λ (step : Step). step.state.kind) (ap (run s) front ∙ run-append s a (take k b)) in
          let turn = second.refused (run s a).state (first s stands).0 in
          rw (reached, get_or-append-add a b k 0) turn;
    }

pub stopped_then : {S : Type 0} (does : CallRelation S) (p q r : ParserValue S) (bytes : List ℕ) (k : ℕ) →
    Ran does p (take k bytes) q → Stopped does q (drop k bytes) r → Stopped does p bytes r
stopped_then does p q r bytes k ran stopped =
    subst (λ (all : List ℕ). Stopped does p all r) (take-append-drop k bytes) (elim stopped [
      | inl before ↦ inl (stopped_before_then does p q r (take k bytes) (drop k bytes) ran before)
      | inr within ↦ inr (stopped_within_then does p q r (take k bytes) (drop k bytes) ran within)
    ])

pub ran_on : {S : Type 0} (does : CallRelation S) (p q r : ParserValue S) (bytes : List ℕ) (k n : ℕ) →
    k ≤ length bytes → Ran does p (take k bytes) q → Ran does q (take n (drop k bytes)) r →
    Ran does p (take (k + n) bytes) r
ran_on does p q r bytes k n inside first second =
    let front = take k bytes in
    let size : length front ≡ k = length-take-le k bytes inside in
    let more : take (k + n) bytes ≡ front ++ take n (drop k bytes) =
    sym (λ i. take (size i + n) (take-append-drop k bytes i)) ∙ take-append-add front (drop k bytes) n in
    subst (λ (all : List ℕ). Ran does p all r) (sym more)
    (ran_then does p q r front (take n (drop k bytes)) first second)

-- ---- bytes whose events are known

pub known_ran : {S : Type 0} (does : CallRelation S) (p q : ParserValue S) (bytes : List ℕ) (events : List Event)
    → FeedsAll p.scanner bytes q.scanner events
    → FoldsTo (Performs does) (stage p) events (stage q) → Ran does p bytes q
known_ran does p q bytes events fed folds = λ s stands.
    let follows = fed s stands in
    (follows.0, subst (λ (all : List Event). FoldsTo (Performs does) (stage p) all (stage q)) (sym follows.1) folds)

pub known_stopped : {S : Type 0} (does : CallRelation S)
    (p q : ParserValue S) (after : ScannerValue) (bytes : List ℕ) (n : ℕ) (events : List Event)
    → FeedsAll p.scanner (take n bytes) after events
    → StopsIn (Performs does) (Breaks does) (stage p) events (stage q) → StoppedWithin does p bytes q
known_stopped does p q after bytes n events fed stops = λ s stands.
    let front = take n bytes in
    let rest = drop n bytes in
    let here = subst (λ (all : List Event). StopsIn (Performs does) (Breaks does) (stage p) all (stage q))
    (sym (fed s stands).1) stops in
    let all = stops_first (Performs does) (Breaks does) (run s front).events
    (run (run s front).state rest).events (stage p) (stage q) here in
    subst (λ (bs : List ℕ). StopsIn (Performs does) (Breaks does) (stage p) (run s bs).events (stage q))
    (take-append-drop n bytes)
    (rw (run-append s front rest) all)

-- ---- results of calls

pub some_read : {S : Type 0} (does : CallRelation S) (p q : ParserValue S) (bytes : List ℕ) (count : ℕ) →
    count ≤ length bytes → Ran does p (take count bytes) q → ReadsOrStops does p bytes q (Ok count)
some_read does p q bytes count inside ran =
    record { inside = inside; ran = ran; stopped = λ r. absurd (false≢true r); where_stopped = tt }

pub stopped_in : {S : Type 0} (does : CallRelation S) (p q : ParserValue S) (bytes : List ℕ) (count : ℕ) →
    Stopped does p bytes q → StoppedAt does p bytes count q → ReadsOrStops does p bytes q (Err count)
stopped_in does p q bytes count stopped at =
    record { inside = tt; ran = tt; stopped = λ r. stopped; where_stopped = at }

-- A call after a run over no bytes has the effect of the call alone.
pub read_after_quiet : {S : Type 0} (does : CallRelation S) (p q r : ParserValue S) (bytes : List ℕ) (result : Result ℕ ℕ) →
    Ran does p (take 0 bytes) q → ReadsOrStops does q bytes r result → ReadsOrStops does p bytes r result
read_after_quiet does p q r bytes (Ok count) nothing reads =
    some_read does p r bytes count reads.inside (ran_then does p q r [] (take count bytes) nothing reads.ran)
read_after_quiet does p q r bytes (Err count) nothing reads =
    stopped_in does p r bytes count (stopped_then does p q r bytes 0 nothing (reads.stopped refl))
    (stopped_at_after does p q r bytes count nothing reads.where_stopped)

-- ---- which callbacks are invoked, and when

-- Rows that are reported to callbacks that cannot be invoked are none.
none_reported : {S : Type 0} (does : CallRelation S) (s : S) (screen : ScreenValue) (alternate : Bool) (a b : Unit {0})
    (rows : List RowValue) → FoldsTo (CalledOnScroll invokes_none alternate) a rows b →
    FoldsTo (CalledOnScroll does alternate) s rows s
none_reported does s screen alternate a b [] called = refl
none_reported does s screen alternate a b (row ∷ rows) called = absurd (called.1 screen)

-- What is done with callbacks that cannot be invoked has the same effect with any callbacks.
takes_silently : {S : Type 0} (does : CallRelation S) (s : S) (x : Action) (a b : screen.State (Unit {0})) →
    Takes invokes_none a x b → Takes does (state s a.screen) x (state s b.screen)
takes_silently does s (CallBack call) a b t = absurd t
takes_silently does s (Print c) a b t =
    record { screen = t.screen; called = none_reported does s a.screen _ _ _ _ t.called }
takes_silently does s LineFeed a b t =
    record { screen = t.screen; called = none_reported does s a.screen _ _ _ _ t.called }
takes_silently does s (ScrollUp count) a b t =
    record { screen = t.screen; called = none_reported does s a.screen _ _ _ _ t.called }
takes_silently does s EraseScrollback a b t =
    record { screen = t.screen; called = none_reported does s a.screen _ _ _ _ t.called }
takes_silently does s x a b t = ap (λ (z : screen.State (Unit {0})). state s z.screen) t

folds_silently : {S A : Type 0} (R : screen.State (Unit {0}) → A → screen.State (Unit {0}) → Type 0)
    (T : screen.State S → A → screen.State S → Type 0) (s : S) →
    ((x : A) (a b : screen.State (Unit {0})) → R a x b → T (state s a.screen) x (state s b.screen)) →
    (xs : List A) (a b : screen.State (Unit {0})) → FoldsTo R a xs b → FoldsTo T (state s a.screen) xs (state s b.screen)
folds_silently R T s same [] a b t = ap (λ (z : screen.State (Unit {0})). state s z.screen) t
folds_silently R T s same (x ∷ xs) a b t =
    (state s t.0.screen, same x a t.0 t.1, folds_silently R T s same xs t.0 b t.2)

pub ran_silently : {S : Type 0} (does : CallRelation S) (s : S) (held now : ScannerValue) (before after : ScreenValue)
    (bytes : List ℕ) → Ran invokes_none (parser_value held before tt) bytes (parser_value now after tt) →
    Ran does (parser_value held before s) bytes (parser_value now after s)
ran_silently does s held now before after bytes ran state stands =
    let one = ran state stands in (
      one.0,
      folds_silently (Performs invokes_none) (Performs does) s
          (λ event a b. folds_silently (Takes invokes_none) (Takes does) s (takes_silently does s)
          (steps_of event (seen_of a.screen)) a b)
          (run state bytes).events (screen.state tt before) (screen.state tt after) one.1,
    )

-- Bytes whose events are known invoke no callbacks if all steps of these events can be taken without callbacks.
pub silent_folds : (before after : ScreenValue) (held now : ScannerValue) (bytes : List ℕ) (events : List Event) →
    FeedsAll held bytes now events → FoldsTo (Performs invokes_none) (state tt before) events (state tt after) →
    IsSilent before held bytes
silent_folds before after held now bytes events fed folds s stands = (
  after,
  subst (λ (known : List Event). FoldsTo (Performs invokes_none) (state tt before) known (state tt after))
      (sym (fed s stands).1) folds,
)

-- Bytes without events invoke no callbacks.
pub silent_none : (before : ScreenValue) (held now : ScannerValue) (bytes : List ℕ) → FeedsAll held bytes now [] →
    IsSilent before held bytes
silent_none before held now bytes fed = silent_folds before before held now bytes [] fed refl

-- If only the last byte of a text invokes callbacks, this is also true if bytes without events come before the text.
pub led_by_last : {S : Type 0} (old new : S) (shown : ScreenValue) (before led : ScannerValue) (bytes : List ℕ) (k n : ℕ)
    → FeedsAll before (take k bytes) led [] → CallsByLast old shown led (drop k bytes) n new
    → CallsByLast old shown before bytes (k + n) new
led_by_last old new shown before led bytes k n fed last = elim last [
  | inl same ↦
      inl (
        same.0,
        λ s stands.
            let first = fed s stands in
            let later = same.1 (run s (take k bytes)).state first.0 in
            let left = take n (drop k bytes) in
            let known : (run s (take (k + n) bytes)).events ≡ (run (run s (take k bytes)).state left).events =
            ap (λ (text : List ℕ). (run s text).events) (take-add k n bytes)
            ∙ ap (λ (step : Step). step.events) (run-append s (take k bytes) left)
            ∙ ap (λ (events : List Event). events ++ (run (run s (take k bytes)).state left).events) first.1 in (
              later.0,
              subst (λ (events : List Event). FoldsTo (Performs invokes_none) (state tt shown) events (state tt later.0))
                  (sym known) later.1,
            ),
      )
  | inr some ↦
      let cut : take (k + n - 1) bytes ≡ take k bytes ++ take (n - 1) (drop k bytes) =
      ap (λ (m : ℕ). take m bytes) (omega (arith, some.0)) ∙ take-add k (n - 1) bytes in
      inr (
        omega (arith, some.0),
        λ s stands.
            let first = fed s stands in
            let later = some.1 (run s (take k bytes)).state first.0 in
            ap (λ (text : List ℕ). (run s text).events) cut
            ∙ ap (λ (step : Step). step.events) (run-append s (take k bytes) (take (n - 1) (drop k bytes)))
            ∙ ap (λ (events : List Event). events ++ (run (run s (take k bytes)).state (take (n - 1) (drop k bytes))).events)
            first.1 ∙ later,
      )
]

pub map_some : (P Q : ℕ → Type 0) (result : Result ℕ ℕ) → ((k : ℕ) → P k → Q k) → IfOk result P → IfOk result Q
map_some P Q (Ok k) f h = f k h
map_some P Q (Err error) f h = tt

-- If only the last byte of a call invokes callbacks, this stays so after a run over no bytes.
pub later_by_last : {S : Type 0} (does : CallRelation S) (p q : ParserValue S) (new : S) (bytes : List ℕ) (n k : ℕ)
    → n ≡ 0 → Ran does p (take n bytes) q → CallsByLast p.callbacks p.screen p.scanner bytes n q.callbacks
    → CallsByLast q.callbacks q.screen q.scanner bytes k new → CallsByLast p.callbacks p.screen p.scanner bytes k new
later_by_last {S} does p q new bytes n k none ran first last =
    let start : Ran does p [] q = subst (λ (m : ℕ). Ran does p (take m bytes) q) none ran in
    let same : q.callbacks ≡ p.callbacks = elim first [
      | inl e ↦ e.0
      | inr some ↦ absurd (omega (arith, none, some.0))
    ] in
    elim last [
      | inl e ↦
          inl (
            e.0 ∙ same,
            λ s stands.
                let here = start s stands in
                let rest = e.1 s here.0 in
                let shown : p.screen ≡ q.screen = ap (λ (t : screen.State S). t.screen) here.1 in (
                  rest.0,
                  subst (λ (x : ScreenValue). FoldsTo (Performs invokes_none) (state tt x) (run s (take k bytes)).events (state tt rest.0))
                      (sym shown) rest.1,
                ),
          )
      | inr some ↦ inr (some.0, λ s stands. some.1 s (start s stands).0)
    ]

pub ruleset stops_later = (stops_then, stops_first)
