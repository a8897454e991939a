-- How often the input has asked to erase scrollback.
use Rattle.std.specs.Prelude.{◌≡◌, ◌==◌, ◌&&◌, ◌+◌, ◌-◌, ◌^◌, ◌<◌, ℕ, Bool, true, false, List, [], ◌∷◌, length, min, take}
use Rattle.std.specs.Prelude.{if◌then◌else◌, slice_index_or, Ok, Err}
use Rattle.std.specs.List.{FoldsTo}
use Rattle.std.specs.declared.result.Result.{Result}
use Rattle.vt_scan.specs.Automaton.{Event, Character, Executed, EscDispatch, CsiDispatch, OscDispatch, State, run}
use Rattle.vt_scan.specs.Scanner.{ScannerValue, StandsFor}
use Rattle.vt_screen.specs.Controls.{number_at}
use Rattle.vt_screen.specs.Run as screen
use Rattle.vt_screen.specs.Run.{CallRelation, Performs}
use Rattle.vt100.specs.Parser.{IsRefused}

-- Whether a control sequence with the given private marker and intermediates can be ED: it has none, or begins with the
-- private marker `?`.
abbrev pub may_be_erasing : List ℕ → Bool
may_be_erasing [] = true
may_be_erasing (first ∷ others) = first == 0x3F

-- Whether an event erases scrollback: RIS, or ED with the parameter 3, also with the private marker `?`.
abbrev pub erases_scrollback : Event → Bool
erases_scrollback (Character c) = false
erases_scrollback (Executed b) = false
erases_scrollback (EscDispatch intermediates b) = (b == 0x63) && (length intermediates == 0)
erases_scrollback (CsiDispatch groups intermediates b) = (b == 0x4A) && (may_be_erasing intermediates && (number_at 0 groups == 3))
erases_scrollback (OscDispatch parts) = false

-- The count after one more erasure. It stays at the greatest number of 64 bits.
abbrev pub one_more_erasure : ℕ → ℕ
one_more_erasure count = min (count + 1) (2 ^ 64 - 1)

-- The count after an event, if it was `count` before.
abbrev pub erasures_after_event : (count : ℕ) → Event → ℕ
erasures_after_event count event = if erases_scrollback event then one_more_erasure count else count

-- The count after the given events, if it was `count` before: each event that erases scrollback counts once.
abbrev pub erasures_after : (count : ℕ) → List Event → ℕ
erasures_after count [] = count
erasures_after count (event ∷ events) = erasures_after (erasures_after_event count event) events

-- Parsing the bytes takes the count from `old` to `new`, whichever state the scanner `held` is in.
abbrev pub CountsErasures : (held : ScannerValue) → List ℕ → (old new : ℕ) → Type 0
CountsErasures held bytes old new = (state : State) → StandsFor held state → new ≡ erasures_after old (run state bytes).events

-- The effect on the count of a call that parses a prefix of the bytes and returns the prefix's length, or stops because
-- an allocation failed, in which case the count is unchanged.
abbrev pub CountsRead : (held : ScannerValue) → List ℕ → (old new : ℕ) → Result ℕ ℕ → Type 0
CountsRead held bytes old new (Ok count) = CountsErasures held (take count bytes) old new
CountsRead held bytes old new (Err before) = CountsErasures held [] old new

-- Parsing the bytes erases no scrollback.
abbrev pub ErasesNothing : (held : ScannerValue) → List ℕ → Type 0
ErasesNothing held bytes = (count : ℕ) → CountsErasures held bytes count count

-- Parsing the first `count` bytes from the scanner state `start` performs all of their events, and an allocation for the
-- next byte fails. The callbacks and the screen are first `old` and then `new`.
pub record IsRefusedAfter {S : Type 0} (does : CallRelation S)
    (old : screen.State S) (bytes : List ℕ) (count : ℕ) (new : screen.State S) (start : State) : Type 0 where
  pub between : screen.State S
  pub first : FoldsTo (Performs does) old (run start (take count bytes)).events between
  pub refused : IsRefused does between (run start (take count bytes)).state (slice_index_or bytes count 0) new

-- Parsing stopped at the byte at index `count`, because an allocation for that byte failed. The erasures by the bytes
-- before it were counted.
pub record CountsUntilStopped {S : Type 0} (does : CallRelation S) (held : ScannerValue) (old : screen.State S)
    (counted : ℕ) (bytes : List ℕ) (new : screen.State S) (now_counted : ℕ) : Type 0 where
  pub count : ℕ
  pub inside : count < length bytes
  pub refused : (start : State) → StandsFor held start → IsRefusedAfter does old bytes count new start
  pub erased : CountsErasures held (take count bytes) counted now_counted
