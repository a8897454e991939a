-- Parsing bytes with a parser or a mirror, and the number of bytes that a parser stores for an unfinished operating
-- system command.
use Rattle.std.specs.Prelude.{◌≡◌, ◌⊎◌, ◌==◌, ◌&&◌, ◌||◌, ◌+◌, ◌<◌, ◌≤◌, ◌-◌, ◌/◌, ◌%◌, ℕ, Bool, true, false, List, []}
use Rattle.std.specs.Prelude.{length, take, drop, nat_lt, not, slice_index_or, Option, Some, None}
use Rattle.vt_mirror.specs.Calls.{MirrorProcesses}
use Rattle.vt_mirror.specs.Mirror.{MirrorValue}
use Rattle.std.specs.List.{FoldsTo}
use Rattle.vt_scan.specs.Automaton.{State}
use Rattle.vt_scan.specs.Automaton as scan
use Rattle.vt_scan.specs.Scanner.{ScannerValue, StandsFor, unfinished_command}
use Rattle.vt_screen.specs.Run as screen
use Rattle.vt_screen.specs.Run.{Performs}
use Rattle.vt100.specs.Erasures.{CountsErasures, CountsUntilStopped}
use Rattle.vt100.specs.Parser.{CallsByLast, IsHarmless, IsRefused, ParserValue, Ran, Stopped, StoppedAt, stage}
use Rattle.vt100_c.specs.Calls.{Refuses}
use Rattle.vt100_c.specs.Records.{Logged, Logs}
use Rattle.vt100_c.specs.Status.{ok, out_of_memory, failed, wrong_kind, status_of_result}
use Rattle.vt100_c.specs.declared.object.Source.{Source}
use Rattle.vt100_c.specs.declared.reading.Mark.{Mark}
use Rattle.vt100_c.specs.declared.object.Source.TheVariants.{Parser, Screen, Mirror, Capture, Charsets}
use Rattle.vt_cells.specs.declared.error.Error.{Error}
use Rattle.std.specs.declared.result.Result.{Result}

-- A parser reads bytes as `Parser::process` does: it reads all of them, or stops at a byte for which an allocation
-- fails, after which the parser has failed. A parser that had failed before reads nothing. The count of erasures is that
-- of the bytes read, or of those before the byte at which the parser stopped.
pub record ReadsParser (old : ParserValue Logged) (bytes : List ℕ) (status : ℕ) (new : ParserValue Logged) : Type 0 where
  pub ran : status ≡ ok → Ran Logs old bytes new
  pub stopped : status ≡ out_of_memory → Stopped Logs old bytes new
  pub failed_before : old.is_failed ≡ true → (status ≡ failed) × (new ≡ old)
  pub failed_only : status ≡ failed → old.is_failed ≡ true
  pub one_of : (status ≡ ok) ⊎ ((status ≡ out_of_memory) ⊎ (status ≡ failed))
  pub works : status ≡ ok → new.is_failed ≡ false
  pub fails : ¬ (status ≡ ok) → new.is_failed ≡ true
  pub harmless : old.is_failed ≡ false → IsHarmless Logs old bytes → status ≡ ok
  pub erased : status ≡ ok → CountsErasures old.scanner bytes old.erasures new.erasures
  pub erased_before : status ≡ out_of_memory → CountsUntilStopped Logs old.scanner (stage old) old.erasures bytes (stage new) new.erasures

-- A mirror reads bytes as `Mirror::process` does.
pub record ReadsMirror (old : MirrorValue) (bytes : List ℕ) (status : ℕ) (new : MirrorValue) : Type 0 where
  pub answer : Result (Unit {0}) Error
  pub call : MirrorProcesses old bytes answer new
  pub status_is : status ≡ status_of_result answer

-- The parser or mirror that a value contains reads bytes; for any other kind of value, the status is `wrong_kind`.
abbrev pub Reads : List ℕ → Source → ℕ → Source → Type 0
Reads bytes (Parser old) status (Parser new) = ReadsParser old bytes status new
Reads bytes (Mirror old) status (Mirror new) = ReadsMirror old bytes status new
Reads bytes (Screen old) status new = Refuses wrong_kind (Screen old) status new
Reads bytes (Capture old) status new = Refuses wrong_kind (Capture old) status new
Reads bytes (Charsets old) status new = Refuses wrong_kind (Charsets old) status new
Reads bytes old status new = ⊥

-- ---- reading up to an event, or until events have filled half of the log

-- The number of bytes of row data after which reading stops.
abbrev pub batch : ℕ
batch = 65536

-- Whether `bytes` is the total size of the records of `rows` rows without text.
abbrev pub are_bare_rows : (bytes rows : ℕ) → Bool
are_bare_rows bytes rows = (bytes / 17 == rows) && (bytes % 17 == 0)

-- Whether the log has recorded only rows without text since the given mark was taken, these rows take fewer than `batch`
-- bytes, and the log has neither reached its limit nor lost a record.
abbrev pub has_bare_rows : Mark → Logged → Bool
has_bare_rows mark log =
    are_bare_rows (length log.records - mark.len) (length log.rows - mark.rows)
    && (nat_lt (mark.room - log.room) batch
    && ((not (log.room == 0) || mark.room == 0) && (log.is_whole || not mark.is_whole)))

-- Whether more than half of the log's limit is left, or the log has recorded nothing since the given mark was taken; and
-- the log has not lost a record since then.
abbrev pub has_space : Mark → Logged → Bool
has_space mark log =
    (nat_lt (log.limit / 2) log.room || length log.records - mark.len == 0) && (log.is_whole || not mark.is_whole)

-- Whether reading continues: if events gather in the log, whether it has space, and otherwise whether it has recorded no
-- event but rows without text.
abbrev pub is_quiet_if : (gathers : Bool) → Mark → Logged → Bool
is_quiet_if true mark log = has_space mark log
is_quiet_if false mark log = has_bare_rows mark log

abbrev pub is_quiet : Mark → Logged → Bool
is_quiet mark log = is_quiet_if mark.gathers mark log

-- A mark that describes the current state of a log, so that a later state of the log can be compared with it. Events
-- gather in the log if `gathers` is true.
abbrev pub mark_of : (gathers : Bool) → Logged → Mark
mark_of gathers log = record {
  len = length log.records;
  rows = length log.rows;
  room = log.room;
  is_whole = log.is_whole;
  gathers = gathers;
}

-- All bytes are read, and no event at which reading stops is recorded. If the parser had failed before, the list of
-- bytes is empty.
pub record ReadsAll (mark : Mark) (old : ParserValue Logged) (bytes : List ℕ) (used status : ℕ) (new : ParserValue Logged) :
    Type 0 where
  pub status_is : status ≡ ok
  pub used_is : used ≡ length bytes
  pub ran : Ran Logs old bytes new
  pub erased : CountsErasures old.scanner bytes old.erasures new.erasures
  pub quiet : is_quiet mark new.callbacks ≡ true
  pub still : new.is_failed ≡ old.is_failed
  pub nothing : old.is_failed ≡ true → (used ≡ 0) × (new ≡ old)

-- Parsing the bytes `before` from the scanner state `start` records no event at which reading stops, and then parsing
-- the bytes `after` leads to `new`.
pub record IsQuietBetween (mark : Mark) (old : ParserValue Logged) (before after : List ℕ) (new : ParserValue Logged)
    (start : State) : Type 0 where
  pub between : screen.State Logged
  pub first : FoldsTo (Performs Logs) (stage old) (scan.run start before).events between
  pub quiet : is_quiet mark between.callbacks ≡ true
  pub then : FoldsTo (Performs Logs) between (scan.run (scan.run start before).state after).events (stage new)

-- Reading a prefix of the bytes records no event at which reading stops. Reading the next byte records or loses such an
-- event, and no further byte is read.
pub record ReadsEvent (mark : Mark) (old : ParserValue Logged) (bytes : List ℕ) (used status : ℕ) (new : ParserValue Logged) :
    Type 0 where
  pub count : ℕ
  pub inside : count < length bytes
  pub before : (start : State) → StandsFor old.scanner start
      → IsQuietBetween mark old (take count bytes) (take 1 (drop count bytes)) new start
  pub event : is_quiet mark new.callbacks ≡ false
  pub status_is : status ≡ ok
  pub used_is : used ≡ count + 1
  pub ran : Ran Logs old (take used bytes) new
  pub erased : CountsErasures old.scanner (take used bytes) old.erasures new.erasures
  pub sound : old.is_failed ≡ false
  pub works : new.is_failed ≡ false

-- Parsing the first `used` bytes from the scanner state `start` records no event at which reading stops, and an
-- allocation for the next byte fails.
pub record IsQuietBefore (mark : Mark) (old : ParserValue Logged) (bytes : List ℕ) (used : ℕ) (new : ParserValue Logged)
    (start : State) : Type 0 where
  pub between : screen.State Logged
  pub first : FoldsTo (Performs Logs) (stage old) (scan.run start (take used bytes)).events between
  pub quiet : is_quiet mark between.callbacks ≡ true
  pub refused : IsRefused Logs between (scan.run start (take used bytes)).state (slice_index_or bytes used 0) (stage new)

-- Reading the first `used` bytes records no event at which reading stops, and the next byte is not read, because an
-- allocation for that byte fails or because the parser had failed before.
pub record StopsUnread (mark : Mark) (old : ParserValue Logged) (bytes : List ℕ) (used status : ℕ) (new : ParserValue Logged) :
    Type 0 where
  pub inside : used < length bytes
  pub memory : old.is_failed ≡ false → (status ≡ out_of_memory)
      × ((start : State) → StandsFor old.scanner start → IsQuietBefore mark old bytes used new start)
  pub failed_before : old.is_failed ≡ true → (status ≡ failed) × (used ≡ 0) × (new ≡ old)
  pub erased : CountsErasures old.scanner (take used bytes) old.erasures new.erasures
  pub fails : new.is_failed ≡ true

-- ---- reading unit by unit

-- The effect of reading one unit, as `Parser::process_unit` does. On success, the first `count` bytes are read; they
-- invoke no callbacks, or only the last of them produces events. On failure, the byte at index `count` is not
-- read, and the bytes before it produce no events.
pub record ReadsUnit (old : ParserValue Logged) (bytes : List ℕ) (count status : ℕ) (new : ParserValue Logged) : Type 0 where
  pub nonempty : status ≡ ok → 0 < count
  pub inside : count ≤ length bytes
  pub last : status ≡ ok → CallsByLast old.callbacks old.screen old.scanner bytes count new.callbacks
  pub ran : status ≡ ok → Ran Logs old (take count bytes) new
  pub erased : status ≡ ok → CountsErasures old.scanner (take count bytes) old.erasures new.erasures
  pub erased_none : ¬ (status ≡ ok) → CountsErasures old.scanner [] old.erasures new.erasures
  pub works : status ≡ ok → (old.is_failed ≡ false) × (new.is_failed ≡ false)
  pub memory : ¬ (status ≡ ok) → old.is_failed ≡ false → (status ≡ out_of_memory) × StoppedAt Logs old bytes count new
  pub failed_before : ¬ (status ≡ ok) → old.is_failed ≡ true → (status ≡ failed) × (count ≡ 0) × (new ≡ old)
  pub fails : ¬ (status ≡ ok) → new.is_failed ≡ true

-- Bytes are read until the input ends, an allocation fails, or an event at which reading stops has been recorded in the
-- log since the given mark was taken.
abbrev pub ReadsFrom : Mark → List ℕ → (used : ℕ) → ParserValue Logged → ℕ → ParserValue Logged → Type 0
ReadsFrom mark bytes used old status new =
    ReadsAll mark old bytes used status new
    ⊎ (ReadsEvent mark old bytes used status new ⊎ StopsUnread mark old bytes used status new)

-- Bytes are read until the input ends, an allocation fails, or the call has recorded an event at which reading stops.
-- Events gather in the log if `gathers` is true.
abbrev pub ReadsUntil : (gathers : Bool) → List ℕ → (used : ℕ) → ParserValue Logged → ℕ → ParserValue Logged → Type 0
ReadsUntil gathers bytes used old status new = ReadsFrom (mark_of gathers old.callbacks) bytes used old status new

-- The parser that a value contains reads bytes up to an event at which reading stops; for any other kind of value, the
-- status is `wrong_kind`.
abbrev pub ReadsUntilEvent : (gathers : Bool) → List ℕ → (used : ℕ) → Source → ℕ → Source → Type 0
ReadsUntilEvent gathers bytes used (Parser old) status (Parser new) = ReadsUntil gathers bytes used old status new
ReadsUntilEvent gathers bytes used (Screen old) status new = Refuses wrong_kind (Screen old) status new × (used ≡ 0)
ReadsUntilEvent gathers bytes used (Mirror old) status new = Refuses wrong_kind (Mirror old) status new × (used ≡ 0)
ReadsUntilEvent gathers bytes used (Capture old) status new = Refuses wrong_kind (Capture old) status new × (used ≡ 0)
ReadsUntilEvent gathers bytes used (Charsets old) status new = Refuses wrong_kind (Charsets old) status new × (used ≡ 0)
ReadsUntilEvent gathers bytes used old status new = ⊥

-- The parser that a value contains, if any.
abbrev pub parser_in : Source → Option (ParserValue Logged)
parser_in (Parser parser) = Some parser
parser_in (Screen screen) = None
parser_in (Mirror mirror) = None
parser_in (Capture written) = None
parser_in (Charsets charsets) = None

-- The scanner of the parser or mirror that a value contains, if any.
abbrev pub scanner_in : Source → Option ScannerValue
scanner_in (Parser parser) = Some parser.scanner
scanner_in (Screen screen) = None
scanner_in (Mirror mirror) = Some mirror.parser.scanner
scanner_in (Capture written) = None
scanner_in (Charsets charsets) = None

-- The parser's input has asked `count` times to erase scrollback.
abbrev pub HasErased : (count : ℕ) → ParserValue Logged → Type 0
HasErased count parser = count ≡ parser.erasures

-- In every state that the scanner can be in, `len` is the number of bytes collected for an unfinished operating system
-- command, or 0 if there is none.
abbrev pub ArePending : (len : ℕ) → ParserValue Logged → Type 0
ArePending len parser =
    (state : State) → StandsFor parser.scanner state → len ≡ length (unfinished_command state.kind state.collected)
