-- Auxiliary definitions that are cited only by the contracts of private functions.
use Rattle.std.specs.Prelude.{ℕ, ◌<◌, ◌≤◌, Bool, true, false, List, IfErr, IfOk, IsErr, length, replicate, take}
use Rattle.std.specs.List.{FoldsTo}
use Rattle.std.specs.declared.result.Result.{Result}
use Rattle.vt_cells.specs.Refusals.{OnlyOutOfMemory}
use Rattle.vt_cells.specs.declared.error.Error.{Error}
use Rattle.vt_scan.specs.Automaton.{Event}
use Rattle.vt_scan.specs.Scanner.{ScannerValue}
use Rattle.vt_screen.specs.Calls.{CallValue, UnhandledCsi}
use Rattle.vt_screen.specs.Screen.{ScreenValue}
use Rattle.vt_screen.specs.Steps.{Step, Print, LineFeed, ScrollUp, EnterAlternate}
use Rattle.vt_screen.specs.Steps.{EnterFresh, EraseScrollback, CallBack}
use Rattle.vt_screen.specs.Run.{CallRelation, Breaks, Performs, Refuses, State, StopsIn, Takes, state}
use Rattle.vt100.specs.Erasures.{ErasesNothing}
use Rattle.vt100.specs.Parser.{ParserValue, Ran, Stopped, StoppedAt, invokes_none, parser_value}
use Rattle.vt100.specs.declared.sequence.Sequence.{Sequence}

-- Taking all of the given steps in order turns the callbacks `old` and the screen `before` into `new` and `after`.
abbrev pub Does : {S : Type 0} → CallRelation S → S → ScreenValue → List Step → S → ScreenValue → Type 0
Does does old before steps new after = FoldsTo (Takes does) (state old before) steps (state new after)

-- Taking the given steps in order, starting with the callbacks `old` and the screen `before`, stops at a step for which
-- an allocation fails. The earlier steps lead to `new` and `after`.
abbrev pub Stops : {S : Type 0} → CallRelation S → S → ScreenValue → List Step → S → ScreenValue → Type 0
Stops does old before steps new after = StopsIn (Takes does) Refuses (state old before) steps (state new after)

-- The effect of a call that takes all of `steps`, or stops at the first step whose allocation fails.
pub record DoesOrStops {S : Type 0} (does : CallRelation S)
    (old : S) (before : ScreenValue) (steps : List Step) (new : S) (after : ScreenValue)
    (result : Result (Unit {0}) Error) : Type 0 where
  pub done : IfOk result (λ _. Does does old before steps new after)
  pub stopped : IsErr result → Stops does old before steps new after
  pub memory : OnlyOutOfMemory result

-- The effect of a call that takes `step` at least once and at most `left` times, and returns how often it was taken, or
-- stops when an allocation fails.
pub record RepeatsOrStops {S : Type 0} (does : CallRelation S)
    (old : S) (before : ScreenValue) (left : ℕ) (step : Step) (new : S) (after : ScreenValue)
    (result : Result ℕ Error) : Type 0 where
  pub progress : IfOk result (λ count. 0 < count)
  pub most : IfOk result (λ count. count ≤ left)
  pub done : IfOk result (λ count. Does does old before (replicate count step) new after)
  pub stopped : IsErr result → Stops does old before (replicate left step) new after
  pub memory : OnlyOutOfMemory result

-- The effect of a call that performs all of `events`, or stops within one of them when an allocation fails.
pub record PerformsOrBreaks {S : Type 0} (does : CallRelation S)
    (old : State S) (events : List Event) (new : State S) (result : Result (Unit {0}) Error) : Type 0 where
  pub done : IfOk result (λ _. FoldsTo (Performs does) old events new)
  pub stopped : IsErr result → StopsIn (Performs does) (Breaks does) old events new
  pub memory : OnlyOutOfMemory result

-- The effect of a call that reads a prefix of `bytes` and returns the prefix's length, or stops at a byte for which an
-- allocation fails and returns the number of earlier bytes as the error.
pub record ReadsOrStops {S : Type 0} (does : CallRelation S)
    (old : ParserValue S) (bytes : List ℕ) (new : ParserValue S) (result : Result ℕ ℕ) : Type 0 where
  pub inside : IfOk result (λ count. count ≤ length bytes)
  pub ran : IfOk result (λ count. Ran does old (take count bytes) new)
  pub stopped : IsErr result → Stopped does old bytes new
  pub where_stopped : IfErr result (λ count. StoppedAt does old bytes count new)

-- The effect of a call that reads the first `count` of the bytes without invoking callbacks: the screen `before` becomes
-- `after`, the scanner's value `held` is unchanged, and no scrollback is erased.
pub record ReadsSilently (held : ScannerValue) (before : ScreenValue) (bytes : List ℕ) (count : ℕ)
    (after : ScreenValue) : Type 0 where
  pub inside : count ≤ length bytes
  pub ran : Ran invokes_none (parser_value held before tt) (take count bytes) (parser_value held after tt)
  pub keeps : ErasesNothing held (take count bytes)

-- The `unhandled_csi` call that reports a control sequence.
abbrev pub report_of : Sequence → CallValue
report_of sequence =
    UnhandledCsi sequence.first sequence.second sequence.parameters.now.groups sequence.byte

-- Whether a step is of a kind that never invokes callbacks, never allocates, and never scrolls rows off the page.
abbrev pub is_own : Step → Bool
is_own (CallBack call) = false
is_own (Print c) = false
is_own LineFeed = false
is_own (ScrollUp count) = false
is_own EraseScrollback = false
is_own EnterAlternate = false
is_own EnterFresh = false
is_own _ = true
