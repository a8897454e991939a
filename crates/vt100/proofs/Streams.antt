-- Calls to a parser in sequence: runs over chunks, and the rows that they report and keep.
use Rattle.std.proofs.Common.{◌≡◌, ℕ, false, List, [], ◌∷◌, ◌++◌, refl, subst, ◌≢◌, Bool, true, map, sym, ap, ap₂, ◌∙◌}
use Rattle.std.proofs.Common.{append_assoc}
use Rattle.std.proofs.Math.Logic.{∥∥₁_map}
use Rattle.std.proofs.lemmas.List.{append-nil}
use Rattle.std.specs.List.{FoldsTo, AllByRecursion}
use Rattle.vt_rows.specs.Basic.{Written, nothing_written}
use Rattle.vt_rows.specs.Row.{RowValue, trimmed_row}
use Rattle.vt_rows.proofs.RowTexts.{folds_then}
use Rattle.vt_scan.specs.Automaton.{State, Step, Event, Step as Outcome, start, run}
use Rattle.vt_scan.specs.Scanner.{StandsFor}
use Rattle.vt_scan.proofs.Alike.{held_of, itself, both_stand, other_stands, runs_alike}
use Rattle.vt_scan.proofs.Readback.{run-append}
use Rattle.vt_grid.proofs.Pages.{page_blank}
use Rattle.vt_screen.specs.Run.{CallRelation, Performs}
use Rattle.vt_screen.specs.Calls.{CallValue}
use Rattle.vt_screen.specs.Capture.{all_rows, basic_texts, written_after_all}
use Rattle.vt_screen.specs.Screen.{ScreenValue, IsScreen, fresh_screen, scrolled_back}
use Rattle.vt_screen.specs.Streamed.{AreSameTrimmed, HasNoRis, HasWideFlags, without_scrollback, ris, row_of_call}
use Rattle.vt_screen.specs.Streamed.{rows_of_calls, sent_off_in, streamed_text}
use Rattle.vt_screen.specs.CallsOfRun.{CalledOnSomeScreen, LeavesScreen, calls_in, screen_in}
use Rattle.vt_screen.proofs.StepScrollback.{SameBare, bare_scrolled_back, both_screen_in, both_sent_in}
use Rattle.vt_screen.proofs.StepEvents.{run_streams}
use Rattle.vt_screen.proofs.CallsReported.{Calling, called_events}
use Rattle.vt_screen.proofs.ReadTexts.{screen_in_then, sent_in_then}
use Rattle.vt_screen.proofs.Streaming.{after_then, streamed_is, texts_then, ScannerValue, Streamed, held_fresh}
use Rattle.vt_screen.proofs.Streaming.{held_screen, streamed_then, view_streams}
use Rattle.vt100.specs.Parser.{ParserValue, Ran, pieces_joined, parser_value, stage}
use Rattle.vt100.specs.Streams.{ParserCall, Process, SetScrollback, IsFreshParser, IsRecorder, MakesCall}
use Rattle.vt100.specs.Streams.{bytes_of_calls, screen_by, calls_by, whole_text}
use Rattle.vt100.proofs.Running.{folds_parted}

-- ==== A run over joined bytes can be split into runs over the chunks.

-- A run over two chunks passes through a parser `middle` that has not failed.
pub record Between {S : Type 0} (does : CallRelation S)
    (p : ParserValue S) (a b : List ℕ) (r : ParserValue S) (there : State) : Type 0 where
  pub middle : ParserValue S
  pub stands : StandsFor middle.scanner there
  pub whole : middle.is_failed ≡ false
  pub first : Ran does p a middle
  pub then : Ran does middle b r

-- A run over two chunks that is known for one state of the scanner passes through a parser between the chunks.
pub ran_parted : {S : Type 0} (does : CallRelation S) (p r : ParserValue S) (a b : List ℕ) (s : State) →
    StandsFor p.scanner s → Ran does p (a ++ b) r → Between does p a b r (run s a).state
ran_parted {S} does p r a b s stands ran =
    let there = (run s a).state in
    let Ends : Step → Type 0 =
    λ step. StandsFor r.scanner step.state × FoldsTo (Performs does) (stage p) step.events (stage r) in
    let ends = subst Ends (run-append s a b) (ran s stands) in
    let parts = folds_parted (Performs does) (run s a).events (run there b).events (stage p) (stage r) ends.1 in
    record {
      middle = parser_value (held_of there) parts.0.screen parts.0.callbacks;
      stands = itself there;
      whole = refl;
      first = λ t also.
          let same = runs_alike s t a (both_stand p.scanner s t stands also) in (
            same.alike,
            subst (λ (events : List Event). FoldsTo (Performs does) (stage p) events parts.0) same.events parts.1,
          );
      then = λ t alike.
          let same = runs_alike there t b alike in (
            other_stands r.scanner (run there b).state (run t b).state same.alike ends.0,
            subst (λ (events : List Event). FoldsTo (Performs does) parts.0 events (stage r)) same.events parts.2,
          );
    }

pub ran_parted_list : {S : Type 0} (does : CallRelation S)
    (p r : ParserValue S) (piece : List ℕ) (pieces : List (List ℕ)) (s : State) →
    StandsFor p.scanner s → Ran does p (pieces_joined (piece ∷ pieces)) r → FoldsTo (Ran does) p (piece ∷ pieces) r
ran_parted_list does p r piece [] s stands ran =
    (r, subst (λ (bytes : List ℕ). Ran does p bytes r) (append-nil piece) ran, refl)
ran_parted_list does p r piece (next ∷ pieces) s stands ran =
    let parted = ran_parted does p r piece (pieces_joined (next ∷ pieces)) s stands ran in (
      parted.middle,
      parted.first,
      ran_parted_list does parted.middle r next pieces (run s piece).state parted.stands parted.then,
    )

-- A run over two chunks passes through a parser between them, for any state that the scanner stands for.

pub some_parted : {S : Type 0} (does : CallRelation S) (p r : ParserValue S) (a b : List ℕ)
    → ∥ ((state : State) × StandsFor p.scanner state) ∥₁ → Ran does p (a ++ b) r
    → ∥ ((q : ParserValue S) × (q.is_failed ≡ false) × Ran does p a q × Ran does q b r) ∥₁
some_parted {S} does p r a b some ran =
    ∥∥₁_map {B = (q : ParserValue S) × (q.is_failed ≡ false) × Ran does p a q × Ran does q b r}
    some (λ (s : (state : State) × StandsFor p.scanner state).
    let parted = ran_parted does p r a b s.0 s.1 ran in
    (parted.middle, parted.whole, parted.first, parted.then))

pub some_parted_list : {S : Type 0} (does : CallRelation S) (p r : ParserValue S) (piece : List ℕ) (pieces : List (List ℕ))
    → ∥ ((state : State) × StandsFor p.scanner state) ∥₁ → Ran does p (pieces_joined (piece ∷ pieces)) r
    → ∥ FoldsTo (Ran does) p (piece ∷ pieces) r ∥₁
some_parted_list does p r piece pieces some ran =
    ∥∥₁_map {B = FoldsTo (Ran does) p (piece ∷ pieces) r} some
    (λ (s : (state : State) × StandsFor p.scanner state). ran_parted_list does p r piece pieces s.0 s.1 ran)

-- ==== Calls to a parser in sequence: the rows that they report, the rows that they keep, and the text of all of these.

-- ---- the calls that callbacks receive

pub ran_called : {S : Type 0} (does : CallRelation S) → LeavesScreen does
    → (p q : ParserValue S) (bytes : List ℕ) (scan : State) → StandsFor p.scanner scan → Ran does p bytes q
    → Calling does (stage p) (calls_in scan p.screen bytes) (screen_in scan p.screen bytes) (stage q)
ran_called does leaves p q bytes scan stands ran =
    called_events does leaves (run scan bytes).events (stage p) (stage q) (ran scan stands).1

-- The given calls to a parser were made.
pub record HasCalled {S : Type 0} (does : CallRelation S)
    (scan : State) (screen : ScreenValue) (calls : List ParserCall) (p q : ParserValue S) : Type 0 where
  pub shown : q.screen ≡ screen_by scan screen calls
  pub called : FoldsTo (CalledOnSomeScreen does) p.callbacks (calls_by scan screen calls) q.callbacks

pub calls_made : {S : Type 0} (does : CallRelation S)
    → LeavesScreen does → (calls : List ParserCall) (p q : ParserValue S) (scan : State)
    → StandsFor p.scanner scan → FoldsTo (MakesCall does) p calls q
    → HasCalled does scan p.screen calls p q
calls_made {S} does leaves [] p q scan stands e =
    record { shown = sym (ap (λ (r : ParserValue S). r.screen) e); called = ap (λ (r : ParserValue S). r.callbacks) e }
calls_made does leaves (Process bytes ∷ calls) p q scan stands t =
    let one = ran_called does leaves p t.0 bytes scan stands t.1 in
    let rest = subst (λ (screen : ScreenValue). HasCalled does (run scan bytes).state screen calls t.0 q)
    one.shown (calls_made does leaves calls t.0 q (run scan bytes).state (t.1 scan stands).0 t.2) in
    record {
      shown = rest.shown;
      called =
          folds_then (CalledOnSomeScreen does) (calls_in scan p.screen bytes)
          (calls_by (run scan bytes).state (screen_in scan p.screen bytes) calls)
          p.callbacks t.0.callbacks q.callbacks one.called rest.called;
    }
calls_made {S} does leaves (SetScrollback rows ∷ calls) p q scan stands t =
    let now : ParserValue S = record p { screen = scrolled_back rows p.screen } in
    let rest = calls_made does leaves calls now q scan stands
    (subst (λ (r : ParserValue S). FoldsTo (MakesCall does) r calls q) t.1 t.2) in
    record { shown = rest.shown; called = rest.called }

-- ---- rows reported and rows kept

all_parted : (xs ys : List Event) → AllByRecursion (λ event. event ≢ ris) (xs ++ ys) →
    AllByRecursion (λ event. event ≢ ris) xs × AllByRecursion (λ event. event ≢ ris) ys
all_parted [] ys all = (tt, all)
all_parted (x ∷ xs) ys all = let rest = all_parted xs ys all.1 in ((all.0, rest.0), rest.1)

none_parted : (scan : State) (a b : List ℕ) → HasNoRis scan (a ++ b) → HasNoRis scan a × HasNoRis (run scan a).state b
none_parted scan a b none =
    all_parted (run scan a).events (run (run scan a).state b).events
    (subst (λ (o : Outcome). AllByRecursion (λ event. event ≢ ris) o.events) (run-append scan a b) none)

-- Reading bytes from the screen `s` has the same effect, except on scrollback, as from a screen `r` that differs only
-- in its scrollback.
record Follows (told : List CallValue) (scan : State) (s r after : ScreenValue) (bytes : List ℕ) : Type 0 where
  streams : Streamed told (sent_off_in scan r bytes) s after
  same : SameBare after (screen_in scan r bytes)

calls_stream : (calls : List ParserCall) (scan : State) (s r : ScreenValue) →
    SameBare s r → HasNoRis scan (bytes_of_calls calls) → ScannerValue s →
    Follows (calls_by scan s calls) scan s r (screen_by scan s calls) (bytes_of_calls calls)
calls_stream [] scan s r e none k = record {
  streams = record { held = k; alike = ap (map trimmed_row) (sym (append-nil s.scrollback.rows)) };
  same = e;
}
calls_stream (SetScrollback rows ∷ calls) scan s r e none k =
    let view = view_streams rows s k in
    let now = scrolled_back rows s in
    let rest = calls_stream calls scan now r (bare_scrolled_back rows s ∙ e) none view.held in
    record {
      streams =
          streamed_then [] (calls_by scan now calls) [] (sent_off_in scan r (bytes_of_calls calls))
          s now (screen_by scan now calls) view rest.streams;
      same = rest.same;
    }
calls_stream (Process bytes ∷ calls) scan s r e none k =
    let more = bytes_of_calls calls in
    let parts = none_parted scan bytes more none in
    let one = run_streams scan s bytes parts.0 k in
    let now = screen_in scan s bytes in
    let there = screen_in scan r bytes in
    let next = (run scan bytes).state in
    let rest = calls_stream calls next now there (both_screen_in scan s r bytes e) parts.1 one.held in
    let both = streamed_then (calls_in scan s bytes) (calls_by next now calls) (sent_off_in scan s bytes)
    (sent_off_in next there more) s now (screen_by next now calls) one rest.streams in
    let gone : sent_off_in scan s bytes ++ sent_off_in next there more ≡ sent_off_in scan r (bytes ++ more)
    = ap (λ (rows : List RowValue). rows ++ sent_off_in next there more) (both_sent_in scan s r bytes e)
    ∙ sym (sent_in_then scan r bytes more) in
    record {
      streams =
          subst (λ (rows : List RowValue). Streamed
          (calls_in scan s bytes ++ calls_by next now calls) rows s (screen_by next now calls))
          gone both;
      same = rest.same ∙ ap without_scrollback (sym (screen_in_then scan r bytes more));
    }

-- Two parsers whose screens differ only in their scrollback scroll the same rows off.
pub ran_apart : {S : Type 0} (does : CallRelation S) → LeavesScreen does
    → (p q r s : ParserValue S) (bytes : List ℕ) (scan : State) → StandsFor p.scanner scan → StandsFor r.scanner scan
    → without_scrollback p.screen ≡ without_scrollback r.screen → Ran does p bytes q → Ran does r bytes s
    → (sent_off_in scan p.screen bytes ≡ sent_off_in scan r.screen bytes) × (without_scrollback q.screen ≡ without_scrollback s.screen)
ran_apart does leaves p q r s bytes scan stands others same ran runs = (
  both_sent_in scan p.screen r.screen bytes same,
  ap without_scrollback (ran_called does leaves p q bytes scan stands ran).shown
      ∙ (both_screen_in scan p.screen r.screen bytes same
      ∙ ap without_scrollback (sym (ran_called does leaves r s bytes scan others runs).shown)),
)

pub ran_keeps : {S : Type 0} (does : CallRelation S) → LeavesScreen does
    → (p q : ParserValue S) (bytes : List ℕ) (scan : State) → StandsFor p.scanner scan → Ran does p bytes q
    → IsScreen p.screen → HasWideFlags p.screen → HasNoRis scan bytes
    → FoldsTo (CalledOnSomeScreen does) p.callbacks (calls_in scan p.screen bytes) q.callbacks
    × AreSameTrimmed (rows_of_calls (calls_in scan p.screen bytes) ++ q.screen.scrollback.rows)
    (p.screen.scrollback.rows ++ sent_off_in scan p.screen bytes)
ran_keeps does leaves p q bytes scan stands ran is wide none =
    let ran_calls = ran_called does leaves p q bytes scan stands ran in
    let calls = calls_in scan p.screen bytes in (
      ran_calls.called,
      subst (λ (t : ScreenValue). AreSameTrimmed (rows_of_calls calls ++ t.scrollback.rows)
          (p.screen.scrollback.rows ++ sent_off_in scan p.screen bytes))
          (sym ran_calls.shown)
          (run_streams scan p.screen bytes none (held_screen p.screen is wide)).alike,
    )

-- ---- one text

pub text_by : (rows cols capacity : ℕ) (calls : List ParserCall)
    → ScannerValue (fresh_screen rows cols capacity) → HasNoRis start (bytes_of_calls calls)
    → (screen_by start (fresh_screen rows cols capacity) calls).is_alternate ≡ false
    → streamed_text (calls_by start (fresh_screen rows cols capacity) calls)
    (screen_by start (fresh_screen rows cols capacity) calls)
    ≡ whole_text rows cols (bytes_of_calls calls)
text_by rows cols capacity calls held none main =
    let s = fresh_screen rows cols capacity in
    let r = fresh_screen rows cols 0 in
    let bytes = bytes_of_calls calls in
    let k = calls_stream calls start s r refl none held in
    streamed_is (calls_by start s calls) (sent_off_in start r bytes) s (screen_by start s calls) k.streams refl main
    ∙ ap (λ (t : ScreenValue). basic_texts nothing_written (sent_off_in start r bytes ++ t.page.rows)) k.same

pub one_text : {S : Type 0} (does : CallRelation S) → LeavesScreen does
    → (rows cols capacity : ℕ) (p q : ParserValue S) (calls : List ParserCall) → IsFreshParser rows cols capacity p
    → HasNoRis start (bytes_of_calls calls) → FoldsTo (MakesCall does) p calls q → q.screen.is_alternate ≡ false
    → streamed_text (calls_by start p.screen calls) q.screen ≡ whole_text rows cols (bytes_of_calls calls)
one_text does leaves rows cols capacity p q calls fresh none makes main =
    let s = fresh_screen rows cols capacity in
    let there : q.screen ≡ screen_by start s calls =
    (calls_made does leaves calls p q start fresh.ground makes).shown
    ∙ ap (λ (t : ScreenValue). screen_by start t calls) fresh.shown in
    let held = held_fresh rows cols capacity
    (page_blank rows cols fresh.has_rows fresh.few_rows fresh.has_columns fresh.few_columns) in
    ap (λ (t : ScreenValue). streamed_text (calls_by start t calls) q.screen) fresh.shown
    ∙ (ap (streamed_text (calls_by start s calls)) there
    ∙ text_by rows cols capacity calls held none (sym (ap (λ (t : ScreenValue). t.is_alternate) there) ∙ main))

-- ---- recorders

-- The recorder has appended the rows that the given calls report, unless it is incomplete.
record HasRecorded {S : Type 0} (text_of : S → List ℕ) (state_of : S → Written)
    (is_whole : S → Bool) (calls : List CallValue) (old new : S) : Type 0 where
  whole : is_whole old ≡ true
  text : text_of new ≡ text_of old ++ basic_texts (state_of old) (rows_of_calls calls)
  state : state_of new ≡ written_after_all (state_of old) (rows_of_calls calls)

has_recorded : {S : Type 0} (does : CallRelation S)
    (text_of : S → List ℕ) (state_of : S → Written) (is_whole : S → Bool)
    → IsRecorder does text_of state_of is_whole → (calls : List CallValue) (old new : S)
    → FoldsTo (CalledOnSomeScreen does) old calls new → is_whole new ≡ true
    → HasRecorded text_of state_of is_whole calls old new
has_recorded does text_of state_of is_whole r [] old new e w =
    record {
      whole = ap is_whole e ∙ w;
      text = ap text_of (sym e) ∙ sym (append-nil (text_of old));
      state = ap state_of (sym e);
    }
has_recorded does text_of state_of is_whole r (call ∷ calls) old new t w =
    let mid = t.0 in
    let does_it = t.1.1 in
    let rest = has_recorded does text_of state_of is_whole r calls mid new t.2 w in
    let text = r.text call old mid t.1.0 t.1.0 does_it rest.whole in
    let state = r.state call old mid t.1.0 t.1.0 does_it rest.whole in
    let here = row_of_call call in
    let told = rows_of_calls calls in
    record {
      whole = r.whole call old mid t.1.0 t.1.0 does_it rest.whole;
      text = rest.text
          ∙ (ap₂ (λ (xs : List ℕ) (v : Written). xs ++ basic_texts v told) text state
          ∙ (append_assoc (text_of old) (basic_texts (state_of old) here)
          (basic_texts (written_after_all (state_of old) here) told)
          ∙ ap (λ (xs : List ℕ). text_of old ++ xs) (sym (texts_then (state_of old) here told))));
      state =
          rest.state
          ∙ (ap (λ (v : Written). written_after_all v told) state ∙ sym (after_then (state_of old) here told));
    }

pub recorded_text : {S : Type 0} (does : CallRelation S)
    (text_of : S → List ℕ) (state_of : S → Written) (is_whole : S → Bool)
    → IsRecorder does text_of state_of is_whole → (rows cols capacity : ℕ) (p q : ParserValue S) (calls : List ParserCall)
    → IsFreshParser rows cols capacity p → text_of p.callbacks ≡ []
    → state_of p.callbacks ≡ nothing_written → HasNoRis start (bytes_of_calls calls)
    → FoldsTo (MakesCall does) p calls q → q.screen.is_alternate ≡ false → is_whole q.callbacks ≡ true
    → text_of q.callbacks ++ basic_texts (state_of q.callbacks) (all_rows q.screen)
    ≡ whole_text rows cols (bytes_of_calls calls)
recorded_text does text_of state_of is_whole r rows cols capacity p q calls fresh empty begun none makes main w =
    let told = calls_by start p.screen calls in
    let called = (calls_made does r.leaves calls p q start fresh.ground makes).called in
    let done = has_recorded does text_of state_of is_whole r told p.callbacks q.callbacks called w in
    ap₂ (λ (xs : List ℕ) (v : Written). xs ++ basic_texts v (all_rows q.screen)) done.text done.state
    ∙ (ap₂ (λ (xs : List ℕ) (v : Written). (xs ++ basic_texts v (rows_of_calls told))
    ++ basic_texts (written_after_all v (rows_of_calls told)) (all_rows q.screen))
    empty begun
    ∙ one_text does r.leaves rows cols capacity p q calls fresh none makes main)
