-- Input that is read in several calls has the effect of the whole input, and the calls log what the whole input makes.
use Rattle.std.proofs.Common.{◌≡◌, ℕ, Bool, true, false, List, [], ◌∷◌, ◌++◌, ◌<◌, length, take, refl, sym, ap, subst, ◌∙◌, inl, inr}
use Rattle.std.proofs.Common.{arith, append_assoc, zero, suc}
use Rattle.std.proofs.Math.Seq.{take-length}
use Rattle.std.proofs.lemmas.Bool.{false≢true}
use Rattle.std.proofs.lemmas.List.{append-nil}
use Rattle.std.specs.List.{FoldsTo}
use Rattle.std.specs.Prelude.{◌&&◌, if◌then◌else◌}
use Rattle.vt_scan.specs.Automaton.{State, run, Step as Outcome}
use Rattle.vt_scan.specs.Scanner.{StandsFor}
use Rattle.vt_scan.proofs.Readback.{run-append}
use Rattle.vt_screen.specs.Calls.{CallValue}
use Rattle.vt_screen.specs.CallsOfRun.{CalledOnSomeScreen, LeavesScreen, calls_in, calls_of, calls_of_all, screen_in, steps_in}
use Rattle.vt_screen.specs.CallsOfRun.{screen_after_all}
use Rattle.vt_screen.specs.Screen.{ScreenValue}
use Rattle.vt_screen.specs.Steps.{Step, screen_after}
use Rattle.vt_screen.proofs.ReadTexts.{screen_in_then, steps_in_then}
use Rattle.vt100.specs.Parser.{ParserValue, Ran, pieces_joined}
use Rattle.vt100.specs.Erasures.{CountsErasures, erasures_after}
use Rattle.vt100.proofs.Erasing.{erasures_joined}
use Rattle.vt100.proofs.Streams.{ran_called}
use Rattle.vt100_c.specs.Gathering.{ReadsInParts, record_if_wanted, records_of_calls, with_empty_log}
use Rattle.vt100_c.specs.Reading.{ReadsUntil, StopsUnread, mark_of}
use Rattle.vt100_c.specs.Records.{Logged, Logs, LogsIt, is_due, is_wanted, kind_of, log_after_clear, record_of, with_loss, with_record, without_text}
use Rattle.vt100_c.specs.Status.{ok}
use Rattle.vt100_c.specs.declared.reading.Mark.{Mark}

-- ---- one call

leaves_screen : LeavesScreen Logs
leaves_screen call old new before after logs = logs.0

-- A call that stops before the end of its bytes because of an error does not return `ok`.
not_unread : (mark : Mark) (old new : ParserValue Logged) (bytes : List ℕ) (used : ℕ) (has_failed : Bool)
    → old.is_failed ≡ has_failed → StopsUnread mark old bytes used ok new → ⊥
not_unread mark old new bytes used true e unread = absurd (cc (unread.failed_before e).0)
not_unread mark old new bytes used false e unread = absurd (cc (unread.memory e).0)

-- The parser has read the bytes, and counted their erasures.
record HasRead (old : ParserValue Logged) (bytes : List ℕ) (new : ParserValue Logged) : Type 0 where
  ran : Ran Logs old bytes new
  erased : CountsErasures old.scanner bytes old.erasures new.erasures

-- A call that returns `ok` has read the part of its bytes that it says.
part_read : (gathers : Bool) (old new : ParserValue Logged) (bytes part : List ℕ)
    → ReadsUntil gathers bytes (length part) old ok new → part ≡ take (length part) bytes → HasRead old part new
part_read gathers old new bytes part reads is = elim reads [
  | inl all ↦
      let whole : part ≡ bytes = is ∙ (ap (λ (n : ℕ). take n bytes) all.used_is ∙ take-length bytes) in
      subst (λ (read : List ℕ). HasRead old read new) (sym whole) (record { ran = all.ran; erased = all.erased })
  | inr some ↦ elim some [
    | inl event ↦
        subst (λ (read : List ℕ). HasRead old read new) (sym is) (record { ran = event.ran; erased = event.erased })
    | inr unread ↦ absurd (not_unread (mark_of gathers old.callbacks) old new bytes (length part) old.is_failed refl unread)
  ]
]

-- ---- the records of calls

-- A log that has lost no record has recorded the requested calls, and had lost none before.
record HasLogged (old : Logged) (calls : List CallValue) (new : Logged) : Type 0 where
  was_whole : old.is_whole ≡ true
  wanted : new.wanted ≡ old.wanted
  limit : new.limit ≡ old.limit
  records : new.records ≡ old.records ++ records_of_calls old.wanted calls

wanted_of : (is_whole is_wanted : Bool) → is_whole ≡ true → (is_whole && is_wanted) ≡ false → is_wanted ≡ false
wanted_of true wanted whole e = e
wanted_of false wanted whole e = absurd (cc whole)

-- A call that need not be recorded, and leaves the log as it is.
passed_over : (call : CallValue) (old new : Logged) → LogsIt call old new → new.is_whole ≡ true → is_due call old ≡ false
    → HasLogged old (call ∷ []) new
passed_over call old new logs whole due =
    let same : new ≡ old = logs.stays due in
    let was : old.is_whole ≡ true = ap (λ (log : Logged). log.is_whole) (sym same) ∙ whole in
    let none : is_wanted old.wanted (kind_of call) ≡ false =
    wanted_of old.is_whole (is_wanted old.wanted (kind_of call)) was due in
    let nothing : record_if_wanted old.wanted call ≡ [] =
    ap (λ (is : Bool). if is then record_of (is_wanted old.wanted without_text) call else []) none in
    record {
      was_whole = was;
      wanted = ap (λ (log : Logged). log.wanted) same;
      limit = ap (λ (log : Logged). log.limit) same;
      records =
          ap (λ (log : Logged). log.records) same
          ∙ sym (ap (λ (made : List ℕ). old.records ++ (made ++ [])) nothing ∙ append-nil old.records);
    }

both_true : (a b : Bool) → (a && b) ≡ true → (a ≡ true) × (b ≡ true)
both_true true true e = (refl, refl)
both_true true false e = absurd (cc e)
both_true false b e = absurd (cc e)

not_lost : (old new : Logged) → new.is_whole ≡ true → new ≡ with_loss old → ⊥
not_lost old new whole lost = false≢true (sym (ap (λ (log : Logged). log.is_whole) lost) ∙ whole)

-- A call that is recorded.
taken_down : (call : CallValue) (old new : Logged) → new.is_whole ≡ true → is_due call old ≡ true → new ≡ with_record call old
    → HasLogged old (call ∷ []) new
taken_down call old new whole due is =
    let is_both = both_true old.is_whole (is_wanted old.wanted (kind_of call)) due in
    let made = record_of (is_wanted old.wanted without_text) call in
    let one : record_if_wanted old.wanted call ≡ made = ap (λ (yes : Bool). if yes then made else []) is_both.1 in
    record {
      was_whole = is_both.0;
      wanted = ap (λ (log : Logged). log.wanted) is;
      limit = ap (λ (log : Logged). log.limit) is;
      records =
          ap (λ (log : Logged). log.records) is
          ∙ sym (ap (λ (list : List ℕ). old.records ++ list) (append-nil (record_if_wanted old.wanted call) ∙ one));
    }

due_logged : (call : CallValue) (old new : Logged) (room : ℕ) → room ≡ old.room → LogsIt call old new → new.is_whole ≡ true
    → is_due call old ≡ true → HasLogged old (call ∷ []) new
due_logged call old new zero e logs whole due = absurd (not_lost old new whole (logs.full due (sym e)))
due_logged call old new (suc room) e logs whole due = elim (logs.kept due (subst (λ (n : ℕ). 0 < n) e (omega arith))) [
  | inl is ↦ taken_down call old new whole due is
  | inr lost ↦ absurd (not_lost old new whole lost)
]

one_logged : (call : CallValue) (old new : Logged) (due : Bool) → is_due call old ≡ due → LogsIt call old new
    → new.is_whole ≡ true → HasLogged old (call ∷ []) new
one_logged call old new true e logs whole = due_logged call old new old.room refl logs whole e
one_logged call old new false e logs whole = passed_over call old new logs whole e

logs_of : (call : CallValue) (old new : Logged) → CalledOnSomeScreen Logs old call new → LogsIt call old new
logs_of call old new (screen, told) = told.1

all_logged : (calls : List CallValue) (old new : Logged) → FoldsTo (CalledOnSomeScreen Logs) old calls new
    → new.is_whole ≡ true → HasLogged old calls new
all_logged [] old new e whole = record {
  was_whole = ap (λ (log : Logged). log.is_whole) e ∙ whole;
  wanted = ap (λ (log : Logged). log.wanted) (sym e);
  limit = ap (λ (log : Logged). log.limit) (sym e);
  records = ap (λ (log : Logged). log.records) (sym e) ∙ sym (append-nil old.records);
}
all_logged (call ∷ calls) old new t whole =
    let rest = all_logged calls t.0 new t.2 whole in
    let one = one_logged call old t.0 (is_due call old) refl (logs_of call old t.0 t.1) rest.was_whole in
    let made = record_if_wanted old.wanted call in
    let more = records_of_calls old.wanted calls in
    record {
      was_whole = one.was_whole;
      wanted = rest.wanted ∙ one.wanted;
      limit = rest.limit ∙ one.limit;
      records =
          rest.records
          ∙ (ap (λ (wanted : ℕ). t.0.records ++ records_of_calls wanted calls) one.wanted
          ∙ (ap (λ (list : List ℕ). list ++ more) (one.records ∙ ap (λ (list : List ℕ). old.records ++ list) (append-nil made))
          ∙ append_assoc old.records made more));
    }

-- ---- the calls of joined bytes

calls_then : (xs ys : List Step) (s : ScreenValue) →
    calls_of_all (xs ++ ys) s ≡ calls_of_all xs s ++ calls_of_all ys (screen_after_all xs s)
calls_then [] ys s = refl
calls_then (x ∷ xs) ys s =
    ap (λ (calls : List CallValue). calls_of x s ++ calls) (calls_then xs ys (screen_after x s))
    ∙ sym (append_assoc (calls_of x s) (calls_of_all xs (screen_after x s)) (calls_of_all ys (screen_after_all xs (screen_after x s))))

calls_in_then : (scan : State) (s : ScreenValue) (a b : List ℕ) →
    calls_in scan s (a ++ b) ≡ calls_in scan s a ++ calls_in (run scan a).state (screen_in scan s a) b
calls_in_then scan s a b =
    ap (λ (steps : List Step). calls_of_all steps s) (steps_in_then scan s a b)
    ∙ calls_then (steps_in scan s a) (steps_in (run scan a).state (screen_in scan s a) b) s

records_then : (wanted : ℕ) (xs ys : List CallValue)
    → records_of_calls wanted (xs ++ ys) ≡ records_of_calls wanted xs ++ records_of_calls wanted ys
records_then wanted [] ys = refl
records_then wanted (call ∷ xs) ys =
    ap (λ (list : List ℕ). record_if_wanted wanted call ++ list) (records_then wanted xs ys)
    ∙ sym (append_assoc (record_if_wanted wanted call) (records_of_calls wanted xs) (records_of_calls wanted ys))

-- ---- all calls

-- The input was read in several calls.
pub record HasReadParts (scan : State) (old : ParserValue Logged) (bytes records : List ℕ) (new : ParserValue Logged) :
    Type 0 where
  pub screen : new.screen ≡ screen_in scan old.screen bytes
  pub scanner : StandsFor new.scanner (run scan bytes).state
  pub erased : new.erasures ≡ erasures_after old.erasures (run scan bytes).events
  pub logged : old.callbacks ≡ log_after_clear old.callbacks → records ≡ records_of_calls old.callbacks.wanted (calls_in scan old.screen bytes)

pub parts_read : (parts : List (List ℕ)) (old new : ParserValue Logged) (records : List ℕ) (scan : State)
    → StandsFor old.scanner scan → ReadsInParts old parts records new → HasReadParts scan old (pieces_joined parts) records new
parts_read [] old new records scan stands reads = record {
  screen = ap (λ (p : ParserValue Logged). p.screen) reads.0;
  scanner = subst (λ (p : ParserValue Logged). StandsFor p.scanner scan) (sym reads.0) stands;
  erased = ap (λ (p : ParserValue Logged). p.erasures) reads.0;
  logged = λ _. reads.1;
}
parts_read (part ∷ parts) old new records scan stands (gathers, bytes, logged, more, reads, is, whole, joined, others) =
    let read = part_read gathers old logged bytes part reads is in
    let ran = read.ran in
    let there = (run scan part).state in
    let rest_of = pieces_joined parts in
    let one = ran_called Logs leaves_screen old logged part scan stands ran in
    let rest = parts_read parts (with_empty_log logged) new more there (ran scan stands).0 others in
    let made = all_logged (calls_in scan old.screen part) old.callbacks logged.callbacks one.called whole in
    record {
      screen =
          rest.screen
          ∙ (ap (λ (s : ScreenValue). screen_in there s rest_of) one.shown ∙ sym (screen_in_then scan old.screen part rest_of));
      scanner =
          subst (λ (o : Outcome). StandsFor new.scanner o.state) (sym (run-append scan part rest_of)) rest.scanner;
      erased =
          rest.erased
          ∙ (ap (λ (count : ℕ). erasures_after count (run there rest_of).events) (read.erased scan stands)
          ∙ (sym (erasures_joined old.erasures (run scan part).events (run there rest_of).events)
          ∙ sym (ap (λ (o : Outcome). erasures_after old.erasures o.events) (run-append scan part rest_of))));
      logged = λ empty.
          let wanted = old.callbacks.wanted in
          let first = records_of_calls wanted (calls_in scan old.screen part) in
          let alone : logged.callbacks.records ≡ first =
          made.records ∙ ap (λ (log : Logged). log.records ++ first) empty in
          let later : more ≡ records_of_calls wanted (calls_in there (screen_in scan old.screen part) rest_of) =
          rest.logged refl
          ∙ (ap (λ (w : ℕ). records_of_calls w (calls_in there logged.screen rest_of)) made.wanted
          ∙ ap (λ (s : ScreenValue). records_of_calls wanted (calls_in there s rest_of)) one.shown) in
          joined
          ∙ (ap (λ (list : List ℕ). list ++ more) alone ∙ ap (λ (list : List ℕ). first ++ list) later
          ∙ (sym (records_then wanted (calls_in scan old.screen part) (calls_in there (screen_in scan old.screen part) rest_of))
          ∙ sym (ap (records_of_calls wanted) (calls_in_then scan old.screen part rest_of))));
    }
