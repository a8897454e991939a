-- How the count of erasures changes when bytes are parsed.
use Rattle.std.proofs.Common.{◌≡◌, ℕ, ◌<◌, ◌+◌, ◌-◌, List, [], ◌∷◌, ◌++◌, length, take, drop, map, slice_index_or, refl, sym, ap, subst, ◌∙◌, inl, inr}
use Rattle.std.proofs.Common.{arith}
use Rattle.std.proofs.Math.Seq.{take-add}
use Rattle.std.proofs.lemmas.List.{append-nil, get_or-drop, length-drop, take_more}
use Rattle.std.proofs.lemmas.List.Elements.{All-head, All-tail}
use Rattle.std.specs.List.{FoldsTo}
use Rattle.std.specs.Prelude.{All, Err, Ok, Result}
use Rattle.vt_scan.specs.Automaton.{Character, Event, State, Step, run, step_in}
use Rattle.vt_scan.specs.Scanner.{Feeds, FeedsAll, HasNoEvent, ReadsItself, ScannerValue, StandsFor, events_in}
use Rattle.vt_scan.specs.declared.event.Events.{Events}
use Rattle.vt_scan.proofs.Readback.{run-append}
use Rattle.vt_scan.proofs.Steps.{text_feeds}
use Rattle.vt_screen.specs.Run.{Breaks, CallRelation, Performs, StopsIn}
use Rattle.vt_screen.specs.Run as screen
use Rattle.vt100.specs.Erasures.{CountsErasures, CountsRead, CountsUntilStopped, ErasesNothing}
use Rattle.vt100.specs.Erasures.{erasures_after, erasures_after_event}
use Rattle.vt100.specs.Parser.{IsRefused, ParserValue, Ran, Stopped, StoppedAt, stage}

-- The count after two lists of events is that after the second list, starting from that after the first.
pub erasures_joined : (count : ℕ) (xs ys : List Event)
    → erasures_after count (xs ++ ys) ≡ erasures_after (erasures_after count xs) ys
erasures_joined count [] ys = refl
erasures_joined count (event ∷ xs) ys = erasures_joined (erasures_after_event count event) xs ys

-- Bytes whose events are known.
pub known_counts : (held now : ScannerValue) (bytes : List ℕ) (events : List Event) (count : ℕ)
    → FeedsAll held bytes now events → CountsErasures held bytes count (erasures_after count events)
known_counts held now bytes events count fed s stands = ap (erasures_after count) (sym (fed s stands).1)

byte_counts : (held now : ScannerValue) (b : ℕ) (answer : Events) (count : ℕ)
    → Feeds held b now answer → CountsErasures held (b ∷ []) count (erasures_after count (events_in now answer))
byte_counts held now b answer count feeds s stands =
    ap (erasures_after count) ((feeds s stands).means ∙ sym (append-nil (step_in s.kind s.collected b).events))

-- The first of some bytes is fed to the scanner.
pub first_counts : (held now : ScannerValue) (bytes : List ℕ) (answer : Events) (count : ℕ) → 0 < length bytes
    → Feeds held (slice_index_or bytes 0 0) now answer
    → CountsErasures held (take 1 bytes) count (erasures_after count (events_in now answer))
first_counts held now bytes answer count some feeds =
    subst (λ (text : List ℕ). CountsErasures held text count (erasures_after count (events_in now answer)))
    (sym (take_more bytes 0 0 some)) (byte_counts held now (slice_index_or bytes 0 0) answer count feeds)

-- A scanner with a value that stands for all states of the one before counts the same.
pub later_counts : (held led : ScannerValue) (bytes : List ℕ) (old new : ℕ)
    → ((s : State) → StandsFor held s → StandsFor led s) → CountsErasures led bytes old new → CountsErasures held bytes old new
later_counts held led bytes old new still counts s stands = counts s (still s stands)

-- Characters erase nothing.
pub characters_count : (text : List ℕ) (count : ℕ) → erasures_after count (map Character text) ≡ count
characters_count [] count = refl
characters_count (c ∷ text) count = characters_count text count

pub characters_erase_nothing : (held now : ScannerValue) (bytes text : List ℕ)
    → FeedsAll held bytes now (map Character text) → ErasesNothing held bytes
characters_erase_nothing held now bytes text fed count s stands =
    sym (ap (erasures_after count) (fed s stands).1 ∙ characters_count text count)

-- Bytes are read, and then more bytes.
pub counts_then : (held led : ScannerValue) (a b : List ℕ) (old middle new : ℕ)
    → ((s : State) → StandsFor held s → StandsFor led (run s a).state)
    → CountsErasures held a old middle → CountsErasures led b middle new → CountsErasures held (a ++ b) old new
counts_then held led a b old middle new leads first second s stands =
    let there = (run s a).state in
    second there (leads s stands)
    ∙ (ap (λ (count : ℕ). erasures_after count (run there b).events) (first s stands)
    ∙ (sym (erasures_joined old (run s a).events (run there b).events)
    ∙ sym (ap (λ (step : Step). erasures_after old step.events) (run-append s a b))))

-- Bytes that the scanner reads as themselves erase nothing.
pub text_erases_nothing : (text : List ℕ) (held : ScannerValue) → All (ReadsItself held) text → ErasesNothing held text
text_erases_nothing [] held plain = λ count s stands. refl
text_erases_nothing (c ∷ text) held plain = λ count.
    let first = All-head (ReadsItself held) c text plain in
    let feeds = text_feeds held c first.0 first.1 first.2 (omega (arith, first.3)) in
    counts_then held held (c ∷ []) text count count count (λ s stands. (feeds s stands).stands)
    (byte_counts held held c _ count feeds)
    (text_erases_nothing text held (All-tail (ReadsItself held) c text plain) count)

-- Some bytes are read after the first `k`.
pub counts_on : (held led : ScannerValue) (bytes : List ℕ) (k n old middle new : ℕ)
    → ((s : State) → StandsFor held s → StandsFor led (run s (take k bytes)).state)
    → CountsErasures held (take k bytes) old middle → CountsErasures led (take n (drop k bytes)) middle new
    → CountsErasures held (take (k + n) bytes) old new
counts_on held led bytes k n old middle new leads first second =
    subst (λ (read : List ℕ). CountsErasures held read old new) (sym (take-add k n bytes))
    (counts_then held led (take k bytes) (take n (drop k bytes)) old middle new leads first second)

-- A call after one that has read no bytes counts as the second one does.
pub counts_after_none : (held led : ScannerValue) (bytes : List ℕ) (old middle new : ℕ) (result : Result ℕ ℕ)
    → ((s : State) → StandsFor held s → StandsFor led s) → CountsErasures held [] old middle
    → CountsRead led bytes middle new result → CountsRead held bytes old new result
counts_after_none held led bytes old middle new (Ok count) still first second = λ s stands.
    second s (still s stands) ∙ ap (λ (n : ℕ). erasures_after n (run s (take count bytes)).events) (first s stands)
counts_after_none held led bytes old middle new (Err before) still first second = λ s stands.
    second s (still s stands) ∙ first s stands

-- ---- where parsing stops

-- Where parsing stops depends only on a parser's scanner, screen and callbacks.
pub stopped_alike : {S : Type 0} (does : CallRelation S) (p a q b : ParserValue S) (bytes : List ℕ)
    → p.scanner ≡ a.scanner → stage p ≡ stage a → q.scanner ≡ b.scanner → stage q ≡ stage b
    → Stopped does p bytes q → Stopped does a bytes b
stopped_alike {S} does p a q b bytes held old then new stopped =
    let back : (s : State) → StandsFor a.scanner s → StandsFor p.scanner s =
    λ s stands. subst (λ (value : ScannerValue). StandsFor value s) (sym held) stands in
    elim stopped [
      | inl before ↦
          inl (record {
            count = before.count;
            inside = before.inside;
            ran = λ s stands.
                let ran = before.ran s (back s stands) in
                let read = run s (take before.count bytes) in (
                  subst (λ (value : ScannerValue). StandsFor value read.state) then ran.0,
                  subst (λ (t : screen.State S). FoldsTo (Performs does) t read.events (stage b)) old
                      (subst (λ (t : screen.State S). FoldsTo (Performs does) (stage p) read.events t) new ran.1),
                );
            refused = λ s stands. before.refused s (back s stands);
          })
      | inr within ↦
          inr (λ s stands.
          subst (λ (t : screen.State S). StopsIn (Performs does) (Breaks does) t (run s bytes).events (stage b)) old
          (subst (λ (t : screen.State S). StopsIn (Performs does) (Breaks does) (stage p) (run s bytes).events t) new
          (within s (back s stands))))
    ]

-- If bytes without events follow a run, the effect and the scanner's state are those of a run over all of these bytes.
run_more : {S : Type 0} (does : CallRelation S) (old now : ParserValue S) (bytes : List ℕ) (at more : ℕ)
    → Ran does old (take at bytes) now → HasNoEvent now.scanner (take more (drop at bytes))
    → (s : State) → StandsFor old.scanner s
    → FoldsTo (Performs does) (stage old) (run s (take (at + more) bytes)).events (stage now)
    × ((run s (take (at + more) bytes)).events ≡ (run s (take at bytes)).events)
    × ((run s (take (at + more) bytes)).state ≡ (run (run s (take at bytes)).state (take more (drop at bytes))).state)
run_more does old now bytes at more ran none s stands =
    let rest = drop at bytes in
    let reached = ran s stands in
    let middle = (run s (take at bytes)).state in
    let whole_run : run s (take (at + more) bytes)
    ≡ record {
      state = (run middle (take more rest)).state;
      events = (run s (take at bytes)).events ++ (run middle (take more rest)).events;
    } =
    ap (run s) (take-add at more bytes) ∙ run-append s (take at bytes) (take more rest) in
    let same : (run s (take (at + more) bytes)).events ≡ (run s (take at bytes)).events =
    ap (λ (step : Step). step.events) whole_run
    ∙ ap (λ (events : List Event). (run s (take at bytes)).events ++ events) (none middle reached.0)
    ∙ append-nil (run s (take at bytes)).events in (
      subst (λ (events : List Event). FoldsTo (Performs does) (stage old) events (stage now)) (sym same) reached.1,
      same,
      ap (λ (step : Step). step.state) whole_run,
    )

-- If parsing stops after a run and bytes without events, the count is that of the run.
pub counts_until : {S : Type 0} (does : CallRelation S) (old now new : ParserValue S) (bytes : List ℕ) (at count : ℕ)
    (counted middle now_counted : ℕ) → Ran does old (take at bytes) now → CountsErasures old.scanner (take at bytes) counted middle
    → StoppedAt does now (drop at bytes) count new → CountsErasures now.scanner [] middle now_counted
    → CountsUntilStopped does old.scanner (stage old) counted bytes (stage new) now_counted
counts_until does old now new bytes at count counted middle now_counted ran first stopped last = record {
  count = at + count;
  inside = omega (arith, stopped.inside, length-drop at bytes);
  refused = λ s stands.
      let reached = ran s stands in
      let part = run_more does old now bytes at count ran stopped.before s stands in
      record {
        between = stage now;
        first = part.0;
        refused =
            subst (λ (byte : ℕ). IsRefused does (stage now) (run s (take (at + count) bytes)).state byte (stage new))
            (get_or-drop at bytes count 0)
            (subst (λ (state : State). IsRefused does (stage now) state (slice_index_or (drop at bytes) count 0) (stage new))
            (sym part.2) (stopped.refused (run s (take at bytes)).state reached.0));
      };
  erased = λ s stands.
      let part = run_more does old now bytes at count ran stopped.before s stands in
      last (run s (take at bytes)).state (ran s stands).0
      ∙ (first s stands ∙ sym (ap (erasures_after counted) part.1));
}
