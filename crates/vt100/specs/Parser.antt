-- The effect of `process`: it parses all bytes passed to it, or stops when an allocation fails.
use Rattle.std.specs.Prelude.{◌≡◌, ◌⊎◌, ℕ, ◌<◌, ◌-◌, Bool, false, List, [], ◌∷◌, ◌++◌, length, take, slice_index_or}
use Rattle.std.specs.List.{FoldsTo}
use Rattle.vt_scan.specs.Automaton.{State, step_in}
use Rattle.vt_scan.specs.Automaton as scan
use Rattle.vt_scan.specs.Scanner.{HasNoEvent, ScannerValue, StandsFor}
use Rattle.vt_scan.specs.Table.{class_of, transition_of}
use Rattle.vt_scan.specs.declared.table.Kind.TheVariants.{OscString}
use Rattle.vt_scan.specs.declared.table.Transition.TheVariants.{Collect}
use Rattle.vt_screen.specs.Calls.{CallValue}
use Rattle.vt_screen.specs.Screen.{ScreenValue, fresh_screen}
use Rattle.vt_screen.specs.Run as screen
use Rattle.vt_screen.specs.Run.{CallRelation, Performs, Breaks, StopsIn}

-- The value of a parser: the state held by its scanner, its screen, its callbacks, whether the parser ran out of memory,
-- and how often its input has asked to erase scrollback.
pub record ParserValue (S : Type 0) : Type 0 where
  pub scanner : ScannerValue
  pub screen : ScreenValue
  pub callbacks : S
  pub is_failed : Bool
  pub erasures : ℕ

-- A parser that has the given scanner, screen and callbacks, has not run out of memory and has counted no erasures.
abbrev pub parser_value : {S : Type 0} → ScannerValue → ScreenValue → S → ParserValue S
parser_value scanner screen callbacks =
    record { scanner = scanner; screen = screen; callbacks = callbacks; is_failed = false; erasures = 0 }

-- The parser has not run out of memory, has counted no erasures, and has a blank screen of the given size and scrollback
-- capacity, and the given callbacks.
abbrev pub HasFreshScreen : {S : Type 0} → (rows cols capacity : ℕ) → S → ParserValue S → Type 0
HasFreshScreen rows cols capacity callbacks parser =
    parser ≡ parser_value parser.scanner (fresh_screen rows cols capacity) callbacks

-- The part of a parser that performing an event can change: its callbacks and its screen.
abbrev pub stage : {S : Type 0} → ParserValue S → screen.State S
stage parser = screen.state parser.callbacks parser.screen

-- Parsing the given bytes turns the first parser into the second. From every state that the first parser's scanner can
-- be in, the bytes lead to a state that the second parser's scanner can be in. Taking the steps of all events in order
-- turns the callbacks and the screen of the first parser into those of the second.
abbrev pub Ran : {S : Type 0} → CallRelation S → ParserValue S → List ℕ → ParserValue S → Type 0
Ran does old bytes new =
    (state : State) → StandsFor old.scanner state
    → StandsFor new.scanner (scan.run state bytes).state
    × FoldsTo (Performs does) (stage old) (scan.run state bytes).events (stage new)

-- If `bytes` are parsed from the given state, the byte at index `k` is appended to the text of an operating system
-- command, which may require an allocation.
abbrev pub Collects : State → List ℕ → ℕ → Type 0
Collects state bytes k =
    transition_of (scan.run state (take k bytes)).state.kind (class_of (slice_index_or bytes k 0)) ≡ Collect OscString

-- Parsing stopped before a byte because an allocation for that byte failed. All earlier bytes were parsed, and nothing
-- else changed.
pub record StoppedBefore {S : Type 0} (does : CallRelation S)
    (old : ParserValue S) (bytes : List ℕ) (new : ParserValue S) : Type 0 where
  pub count : ℕ
  pub inside : count < length bytes
  pub ran : Ran does old (take count bytes) new
  pub refused : (state : State) → StandsFor old.scanner state → Collects state bytes count

-- Parsing stopped before a step because an allocation for that step failed. All earlier steps were taken, and nothing
-- else changed. The state of the scanner is unspecified, because the parser reads nothing more.
abbrev pub StoppedWithin : {S : Type 0} → CallRelation S → ParserValue S → List ℕ → ParserValue S → Type 0
StoppedWithin does old bytes new =
    (state : State) → StandsFor old.scanner state →
    StopsIn (Performs does) (Breaks does) (stage old) (scan.run state bytes).events (stage new)

-- The call relation of callbacks that cannot be invoked.
abbrev pub invokes_none : CallValue → Unit {0} → ScreenValue → Unit {0} → ScreenValue → Type 0
invokes_none call old before new after = ⊥

-- Parsing the bytes on the given screen invokes no callbacks, whichever state the scanner `held` is in: all steps can be
-- taken with callbacks that cannot be invoked.
abbrev pub IsSilent : ScreenValue → ScannerValue → List ℕ → Type 0
IsSilent before held bytes =
    (state : State) → StandsFor held state
    → (after : ScreenValue)
    × FoldsTo (Performs invokes_none) (screen.state tt before) (scan.run state bytes).events (screen.state tt after)

-- Among the first `count` bytes, only the last can invoke callbacks. Either these bytes invoke none, and the callbacks
-- are unchanged (`new` equals `old`); or only the last of them can produce events, whichever state the scanner `held` is
-- in. The screen `before` is that before the bytes.
abbrev pub CallsByLast : {S : Type 0} → S → ScreenValue → ScannerValue → List ℕ → ℕ → S → Type 0
CallsByLast old before held bytes count new =
    ((new ≡ old) × IsSilent before held (take count bytes))
    ⊎ ((0 < count) × HasNoEvent held (take (count - 1) bytes))

-- The call relation of callbacks that do nothing and leave the screen unchanged.
abbrev pub does_nothing : CallValue → Unit {0} → ScreenValue → Unit {0} → ScreenValue → Type 0
does_nothing call old before new after = (new ≡ old) × (after ≡ before)

-- Parsing stopped because an allocation failed.
abbrev pub Stopped : {S : Type 0} → CallRelation S → ParserValue S → List ℕ → ParserValue S → Type 0
Stopped does old bytes new = StoppedBefore does old bytes new ⊎ StoppedWithin does old bytes new

-- An allocation for the given byte fails in the given state of the scanner. The allocation is needed either to append
-- the byte to a command's text or to apply a step of an event that the byte produces.
abbrev pub IsRefused : {S : Type 0} → CallRelation S → screen.State S → State → ℕ → screen.State S → Type 0
IsRefused does old state byte new =
    ((new ≡ old) × (transition_of state.kind (class_of byte) ≡ Collect OscString))
    ⊎ StopsIn (Performs does) (Breaks does) old (step_in state.kind state.collected byte).events new

-- Parsing stopped at the byte at index `count` because an allocation for that byte failed. The bytes before it produce
-- no events.
pub record StoppedAt {S : Type 0} (does : CallRelation S)
    (old : ParserValue S) (bytes : List ℕ) (count : ℕ) (new : ParserValue S) : Type 0 where
  pub inside : count < length bytes
  pub before : HasNoEvent old.scanner (take count bytes)
  pub refused : (state : State) → StandsFor old.scanner state →
      IsRefused does (stage old) (scan.run state (take count bytes)).state (slice_index_or bytes count 0) (stage new)

-- Parsing the given bytes never stops because of a failed allocation.
abbrev pub IsHarmless : {S : Type 0} →
    CallRelation S → ParserValue S → List ℕ → Type 0
IsHarmless {S} does old bytes = (new : ParserValue S) → Stopped does old bytes new → ⊥

-- The concatenation of a list of chunks.
abbrev pub pieces_joined : List (List ℕ) → List ℕ
pieces_joined [] = []
pieces_joined (piece ∷ pieces) = piece ++ pieces_joined pieces
