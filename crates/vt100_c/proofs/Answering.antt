-- The results of a parser and of a mirror as statuses, and reading bytes up to an event.
use Rattle.std.proofs.Common.{◌≡◌, ◌≢◌, ◌↔◌, ◌+◌, ◌<◌, inl, inr, ℕ, List, [], length, take, drop, refl, sym, subst, ◌∙◌, arith, Bool, true, false, not, ◌||◌, ◌==◌, ◌&&◌}
use Rattle.std.proofs.Common.{◌++◌, ◌-◌, ◌/◌, ap, nat_lt, slice_index_or}
use Rattle.std.proofs.Math.Seq.{take-add, take-length}
use Rattle.std.proofs.lemmas.Bool.{false≢true}
use Rattle.std.proofs.lemmas.List.{append-nil, drop-drop, get_or-drop, length-drop}
use Rattle.std.specs.List.{FoldsTo}
use Rattle.vt_scan.specs.Automaton.{Event, State, Step, run}
use Rattle.vt_scan.specs.Scanner.{HasNoEvent, StandsFor}
use Rattle.vt_scan.proofs.Readback.{run-append}
use Rattle.vt_screen.specs.Run.{Performs}
use Rattle.vt100.specs.Calls.{ParserReadsUnit}
use Rattle.std.specs.Prelude.{Result, Ok, Err, IfErr, IfOk, IsErr}
use Rattle.vt_cells.specs.declared.error.Error.{Error}
use Rattle.vt_cells.specs.declared.error.Error.TheVariants.{Failed, NoNumber, OutOfMemory}
use Rattle.vt100.specs.Erasures.{CountsErasures, CountsUntilStopped, erasures_after}
use Rattle.vt100.proofs.Erasing.{counts_on}
use Rattle.vt100.proofs.Running.{ran_then}
use Rattle.vt100.specs.Parser.{IsHarmless, IsRefused, ParserValue, Ran, Stopped, StoppedAt, stage}
use Rattle.vt100_c.specs.Reading.{IsQuietBefore, IsQuietBetween, ReadsFrom, ReadsParser, ReadsUnit, are_bare_rows, batch, is_quiet, mark_of}
use Rattle.vt100_c.specs.Records.{Logged, Logs}
use Rattle.vt100_c.specs.Status.{status_of_result, failed, ok}
use Rattle.vt100_c.specs.declared.reading.Mark.{Mark}

not_true : (b : Bool) → (b ≡ true → false ≡ true) → b ≡ false
not_true true h = absurd (cc (h refl))
not_true false h = refl

pub parser_reads : (old new : ParserValue Logged) (bytes : List ℕ) (answer : Result (Unit {0}) Error)
    → IfOk answer (λ _. Ran Logs old bytes new) → (answer ≡ Err OutOfMemory → Stopped Logs old bytes new)
    → (old.is_failed ≡ true → (answer ≡ Err Failed) × (new ≡ old)) → (answer ≡ Err Failed → old.is_failed ≡ true)
    → IfErr answer (λ error. error ≢ NoNumber) → (new.is_failed ≡ true ↔ IsErr answer)
    → (old.is_failed ≡ false → IsHarmless Logs old bytes → answer ≡ Ok tt)
    → IfOk answer (λ _. CountsErasures old.scanner bytes old.erasures new.erasures)
    → (answer ≡ Err OutOfMemory → CountsUntilStopped Logs old.scanner (stage old) old.erasures bytes (stage new) new.erasures)
    → ReadsParser old bytes (status_of_result answer) new
parser_reads old new bytes (Ok u) ran stopped before only other good harmless erased until = record {
  ran = λ _. ran;
  stopped = λ e. absurd (cc e);
  failed_before = λ e. absurd (cc (before e).0);
  failed_only = λ e. absurd (cc e);
  one_of = inl refl;
  works = λ _. not_true new.is_failed good.0;
  fails = λ no. absurd (no refl);
  harmless = λ _ _. refl;
  erased = λ _. erased;
  erased_before = λ e. absurd (cc e);
}
parser_reads old new bytes (Err OutOfMemory) ran stopped before only other good harmless erased until = record {
  ran = λ e. absurd (cc e);
  stopped = λ _. stopped refl;
  failed_before = λ e. absurd (cc (before e).0);
  failed_only = λ e. absurd (cc e);
  one_of = inr (inl refl);
  works = λ e. absurd (cc e);
  fails = λ _. good.1 refl;
  harmless = λ whole quiet. absurd (cc (harmless whole quiet));
  erased = λ e. absurd (cc e);
  erased_before = λ _. until refl;
}
parser_reads old new bytes (Err Failed) ran stopped before only other good harmless erased until = record {
  ran = λ e. absurd (cc e);
  stopped = λ e. absurd (cc e);
  failed_before = λ e. (refl, (before e).1);
  failed_only = λ _. only refl;
  one_of = inr (inr refl);
  works = λ e. absurd (cc e);
  fails = λ _. good.1 refl;
  harmless = λ whole quiet. absurd (cc (harmless whole quiet));
  erased = λ e. absurd (cc e);
  erased_before = λ e. absurd (cc e);
}
parser_reads old new bytes (Err NoNumber) ran stopped before only other good harmless erased until = absurd (other refl)

-- ---- units of bytes

pub unit_read : (old new : ParserValue Logged) (bytes : List ℕ) (count : ℕ) (answer : Result (Unit {0}) Error)
    → ParserReadsUnit Logs old bytes count answer new
    → IfOk answer (λ _. CountsErasures old.scanner (take count bytes) old.erasures new.erasures)
    → (IsErr answer → CountsErasures old.scanner [] old.erasures new.erasures)
    → ReadsUnit old bytes count (status_of_result answer) new
unit_read old new bytes count (Ok done) unit erased none = record {
  nonempty = λ _. unit.progress;
  inside = unit.inside;
  last = λ _. unit.last;
  ran = λ _. unit.ran;
  erased = λ _. erased;
  erased_none = λ no. absurd (no refl);
  works = λ _. (not_true old.is_failed (λ e. absurd (cc (unit.failed e).0)), not_true new.is_failed unit.for_good.0);
  memory = λ no. absurd (no refl);
  failed_before = λ no. absurd (no refl);
  fails = λ no. absurd (no refl);
}
unit_read old new bytes count (Err OutOfMemory) unit erased none = record {
  nonempty = λ e. absurd (cc e);
  inside = omega (arith, (unit.memory refl).inside);
  last = λ e. absurd (cc e);
  ran = λ e. absurd (cc e);
  erased = λ e. absurd (cc e);
  erased_none = λ _. none refl;
  works = λ e. absurd (cc e);
  memory = λ _ _. (refl, unit.memory refl);
  failed_before = λ _ e. absurd (cc (unit.failed e).0);
  fails = λ _. unit.for_good.1 refl;
}
unit_read old new bytes count (Err Failed) unit erased none = record {
  nonempty = λ e. absurd (cc e);
  inside = omega (arith, (unit.failed (unit.only refl)).2);
  last = λ e. absurd (cc e);
  ran = λ e. absurd (cc e);
  erased = λ e. absurd (cc e);
  erased_none = λ _. none refl;
  works = λ e. absurd (cc e);
  memory = λ _ good. absurd (false≢true (sym good ∙ unit.only refl));
  failed_before = λ _ e. (refl, (unit.failed e).2, (unit.failed e).1);
  fails = λ _. unit.for_good.1 refl;
}
unit_read old new bytes count (Err NoNumber) unit erased none = absurd (unit.no_number refl)

-- ---- reading up to an event

as_whole : (b : Bool) → (b || not b) ≡ true
as_whole true = refl
as_whole false = refl

nothing_more : (n : ℕ) → n - n ≡ 0
nothing_more n = omega arith

has_room : (is_full : Bool) → (not is_full || is_full) ≡ true
has_room true = refl
has_room false = refl

still_space : (has_half is_whole : Bool) → ((has_half || true) && (is_whole || not is_whole)) ≡ true
still_space true true = refl
still_space true false = refl
still_space false true = refl
still_space false false = refl

-- Since its own mark, a log has recorded no event at which reading stops.
pub quiet_now : (gathers : Bool) (log : Logged) → is_quiet (mark_of gathers log) log ≡ true
quiet_now true log =
    ap (λ (more : ℕ). (nat_lt (log.limit / 2) log.room || more == 0) && (log.is_whole || not log.is_whole))
    (nothing_more (length log.records)) ∙ still_space (nat_lt (log.limit / 2) log.room) log.is_whole
quiet_now false log = λ i.
    are_bare_rows (nothing_more (length log.records) i) (nothing_more (length log.rows) i)
    && (nat_lt (nothing_more log.room i) batch && (has_room (log.room == 0) i && as_whole log.is_whole i))

-- The first `count` bytes have been read, and none of them recorded an event at which reading stops.
pub record HasReadQuietly (mark : Mark) (old : ParserValue Logged) (bytes : List ℕ) (count : ℕ)
    (now : ParserValue Logged) : Type 0 where
  pub ran : Ran Logs old (take count bytes) now
  pub erased : CountsErasures old.scanner (take count bytes) old.erasures now.erasures
  pub quiet : is_quiet mark now.callbacks ≡ true
  pub still : now.is_failed ≡ old.is_failed
  pub nothing : old.is_failed ≡ true → (count ≡ 0) × (now ≡ old)

pub quiet_at_first : (mark : Mark) (old : ParserValue Logged) (bytes : List ℕ)
    → is_quiet mark old.callbacks ≡ true → HasReadQuietly mark old bytes 0 old
quiet_at_first mark old bytes quiet = record {
  ran = λ s stands. (stands, refl);
  erased = λ s stands. refl;
  quiet = quiet;
  still = refl;
  nothing = λ _. (refl, refl);
}

next_ran : (old now new : ParserValue Logged) (bytes : List ℕ) (at count : ℕ) → Ran Logs old (take at bytes) now
    → Ran Logs now (take count (drop at bytes)) new → Ran Logs old (take (at + count) bytes) new
next_ran old now new bytes at count first second =
    subst (λ (read : List ℕ). Ran Logs old read new) (sym (take-add at count bytes))
    (ran_then Logs old now new (take at bytes) (take count (drop at bytes)) first second)

next_erased : (old now new : ParserValue Logged) (bytes : List ℕ) (at count : ℕ) → Ran Logs old (take at bytes) now
    → CountsErasures old.scanner (take at bytes) old.erasures now.erasures
    → CountsErasures now.scanner (take count (drop at bytes)) now.erasures new.erasures
    → CountsErasures old.scanner (take (at + count) bytes) old.erasures new.erasures
next_erased old now new bytes at count ran first second =
    counts_on old.scanner now.scanner bytes at count old.erasures now.erasures new.erasures
    (λ s stands. (ran s stands).0) first second

pub quiet_more : (mark : Mark) (old now new : ParserValue Logged) (bytes : List ℕ) (at count status : ℕ)
    → HasReadQuietly mark old bytes at now → ReadsUnit now (drop at bytes) count status new
    → status ≡ ok → is_quiet mark new.callbacks ≡ true → HasReadQuietly mark old bytes (at + count) new
quiet_more mark old now new bytes at count status read unit well quiet =
    let good : old.is_failed ≡ false = sym read.still ∙ (unit.works well).0 in
    record {
      ran = next_ran old now new bytes at count read.ran (unit.ran well);
      erased = next_erased old now new bytes at count read.ran read.erased (unit.erased well);
      quiet = quiet;
      still = (unit.works well).1 ∙ sym good;
      nothing = λ e. absurd (false≢true (sym good ∙ e));
    }

-- If bytes without events follow a run, the effect and the scanner's state are those of a run over all of these bytes.
quiet_part : (mark : Mark) (old now : ParserValue Logged) (bytes : List ℕ) (at more : ℕ)
    → HasReadQuietly mark old bytes at now → HasNoEvent now.scanner (take more (drop at bytes))
    → (s : State) → StandsFor old.scanner s
    → FoldsTo (Performs Logs) (stage old) (run s (take (at + more) bytes)).events (stage now)
    × ((run s (take (at + more) bytes)).state ≡ (run (run s (take at bytes)).state (take more (drop at bytes))).state)
quiet_part mark old now bytes at more read none s stands =
    let rest = drop at bytes in
    let reached = read.ran s stands in
    let middle = (run s (take at bytes)).state in
    let whole_run : run s (take (at + more) bytes)
    ≡ record {
      state = (run middle (take more rest)).state;
      events = (run s (take at bytes)).events ++ (run middle (take more rest)).events;
    } =
    ap (run s) (take-add at more bytes) ∙ run-append s (take at bytes) (take more rest) in
    let same : (run s (take (at + more) bytes)).events ≡ (run s (take at bytes)).events =
    ap (λ (step : Step). step.events) whole_run
    ∙ ap (λ (events : List Event). (run s (take at bytes)).events ++ events) (none middle reached.0)
    ∙ append-nil (run s (take at bytes)).events in (
      subst (λ (events : List Event). FoldsTo (Performs Logs) (stage old) events (stage now)) (sym same) reached.1,
      ap (λ (step : Step). step.state) whole_run,
    )

-- If only the last byte of a unit has events, the bytes before it record no event at which reading stops.
quiet_between : (mark : Mark) (old now new : ParserValue Logged) (bytes : List ℕ) (at more : ℕ)
    → HasReadQuietly mark old bytes at now → HasNoEvent now.scanner (take more (drop at bytes))
    → Ran Logs now (take (more + 1) (drop at bytes)) new → (s : State) → StandsFor old.scanner s
    → IsQuietBetween mark old (take (at + more) bytes) (take 1 (drop (at + more) bytes)) new s
quiet_between mark old now new bytes at more read none ran s stands =
    let rest = drop at bytes in
    let reached = read.ran s stands in
    let middle = (run s (take at bytes)).state in
    let part = quiet_part mark old now bytes at more read none s stands in
    let behind : take (more + 1) rest ≡ take more rest ++ take 1 (drop (at + more) bytes) =
    take-add more 1 rest ∙ ap (λ (tail : List ℕ). take more rest ++ take 1 tail) (drop-drop more at bytes) in
    let last : (run middle (take (more + 1) rest)).events
    ≡ (run (run s (take (at + more) bytes)).state (take 1 (drop (at + more) bytes))).events =
    ap (λ (text : List ℕ). (run middle text).events) behind
    ∙ ap (λ (step : Step). step.events) (run-append middle (take more rest) (take 1 (drop (at + more) bytes)))
    ∙ ap (λ (events : List Event). events
    ++ (run (run middle (take more rest)).state (take 1 (drop (at + more) bytes))).events) (none middle reached.0)
    ∙ ap (λ (z : State). (run z (take 1 (drop (at + more) bytes))).events) (sym part.1) in
    record {
      between = stage now;
      first = part.0;
      quiet = read.quiet;
      then = subst (λ (events : List Event). FoldsTo (Performs Logs) (stage now) events (stage new)) last
          (ran middle reached.0).1;
    }

-- A unit of bytes that isn't read ends before the last byte.
unread_inside : (is_failed : Bool) (old now new : ParserValue Logged) (bytes : List ℕ) (at count status : ℕ)
    → now.is_failed ≡ is_failed → at < length bytes → ReadsUnit now (drop at bytes) count status new
    → (status ≡ ok → ⊥) → at + count < length bytes
unread_inside true old now new bytes at count status is inside unit refused =
    omega (arith, inside, (unit.failed_before refused is).1)
unread_inside false old now new bytes at count status is inside unit refused =
    omega (arith, (unit.memory refused is).1.inside, length-drop at bytes)

pub event_left : (mark : Mark) (old now new : ParserValue Logged) (bytes : List ℕ) (at count status : ℕ)
    → HasReadQuietly mark old bytes at now → ReadsUnit now (drop at bytes) count status new → status ≡ ok
    → is_quiet mark new.callbacks ≡ false → ReadsFrom mark bytes (at + count) old ok new
event_left mark old now new bytes at count status read unit well event = elim (unit.last well) [
  | inl same ↦ absurd (false≢true (sym event ∙ ap (is_quiet mark) same.0 ∙ read.quiet))
  | inr some ↦
      let more = count - 1 in
      let one : more + 1 ≡ count = omega (arith, some.0) in
      inr (inl (record {
        count = at + more;
        inside = omega (arith, some.0, unit.inside, length-drop at bytes);
        before = quiet_between mark old now new bytes at more read some.1
            (subst (λ (n : ℕ). Ran Logs now (take n (drop at bytes)) new) (sym one) (unit.ran well));
        event = event;
        status_is = refl;
        used_is = omega (arith, some.0);
        ran = next_ran old now new bytes at count read.ran (unit.ran well);
        erased = next_erased old now new bytes at count read.ran read.erased (unit.erased well);
        sound = sym read.still ∙ (unit.works well).0;
        works = (unit.works well).1;
      }))
]

-- If the allocation for a byte after bytes without events fails, the bytes before it record no event at which reading
-- stops.
quiet_before : (mark : Mark) (old now new : ParserValue Logged) (bytes : List ℕ) (at count : ℕ)
    → HasReadQuietly mark old bytes at now → StoppedAt Logs now (drop at bytes) count new
    → (s : State) → StandsFor old.scanner s → IsQuietBefore mark old bytes (at + count) new s
quiet_before mark old now new bytes at count read stopped s stands =
    let reached = read.ran s stands in
    let part = quiet_part mark old now bytes at count read stopped.before s stands in
    record {
      between = stage now;
      first = part.0;
      quiet = read.quiet;
      refused =
          subst (λ (byte : ℕ). IsRefused Logs (stage now) (run s (take (at + count) bytes)).state byte (stage new))
          (get_or-drop at bytes count 0)
          (subst (λ (state : State). IsRefused Logs (stage now) state (slice_index_or (drop at bytes) count 0) (stage new))
          (sym part.1) (stopped.refused (run s (take at bytes)).state reached.0));
    }

-- A unit that isn't read counts no erasures, nor do the bytes before the one whose allocation fails.
unread_erased : {mark : Mark} (has_failed : Bool) (old now new : ParserValue Logged) (bytes : List ℕ) (at count status : ℕ)
    → now.is_failed ≡ has_failed → HasReadQuietly mark old bytes at now → ReadsUnit now (drop at bytes) count status new
    → (status ≡ ok → ⊥) → CountsErasures old.scanner (take (at + count) bytes) old.erasures new.erasures
unread_erased true old now new bytes at count status is read unit refused =
    let none : count ≡ 0 = (unit.failed_before refused is).1 in
    next_erased old now new bytes at count read.ran read.erased
    (subst (λ (n : ℕ). CountsErasures now.scanner (take n (drop at bytes)) now.erasures new.erasures) (sym none)
    (unit.erased_none refused))
unread_erased false old now new bytes at count status is read unit refused =
    next_erased old now new bytes at count read.ran read.erased
    (λ s stands. unit.erased_none refused s stands
    ∙ sym (ap (erasures_after now.erasures) ((unit.memory refused is).1.before s stands)))

pub left_unread : (mark : Mark) (old now new : ParserValue Logged) (bytes : List ℕ) (at count status : ℕ)
    → HasReadQuietly mark old bytes at now → at < length bytes
    → ReadsUnit now (drop at bytes) count status new → (status ≡ ok → ⊥)
    → ReadsFrom mark bytes (at + count) old status new
left_unread mark old now new bytes at count status read inside unit refused = inr (inr (record {
  inside = unread_inside now.is_failed old now new bytes at count status refl inside unit refused;
  memory = λ good.
      let stopped = unit.memory refused (read.still ∙ good) in
      (stopped.0, quiet_before mark old now new bytes at count read stopped.1);
  failed_before = λ e.
      let none = unit.failed_before refused (read.still ∙ e) in
      let first = read.nothing e in
      (none.0, omega (arith, none.1, first.0), none.2 ∙ first.1);
  erased = unread_erased now.is_failed old now new bytes at count status refl read unit refused;
  fails = unit.fails refused;
}))

pub all_quiet : (mark : Mark) (old now : ParserValue Logged) (bytes : List ℕ)
    → HasReadQuietly mark old bytes (length bytes) now → ReadsFrom mark bytes (length bytes) old ok now
all_quiet mark old now bytes read = inl (record {
  status_is = refl;
  used_is = refl;
  ran = subst (λ (all : List ℕ). Ran Logs old all now) (take-length bytes) read.ran;
  erased =
      subst (λ (all : List ℕ). CountsErasures old.scanner all old.erasures now.erasures) (take-length bytes) read.erased;
  quiet = read.quiet;
  still = read.still;
  nothing = read.nothing;
})
