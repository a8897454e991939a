-- Bytes that are parsed without callbacks or allocations, however they are split into calls to `process`.
use Rattle.std.specs.Prelude.{◌≡◌, ℕ, false, List, [], ◌∷◌, ◌++◌, Ok, Some}
use Rattle.std.specs.List.{AllByRecursion, FoldsTo}
use Rattle.std.specs.declared.result.Result.{Result}
use Rattle.vt_cells.specs.declared.error.Error.{Error}
use Rattle.vt_scan.specs.Automaton.{State, start}
use Rattle.vt_scan.specs.Scanner.{StandsFor}
use Rattle.vt_redraw.specs.Picture.{SamePictureSize}
use Rattle.vt_redraw.specs.Steady.{IsSteady}
use Rattle.vt_screen.specs.Again.{IsReport, KeepsAside}
use Rattle.vt_screen.specs.Calls.{CallValue}
use Rattle.vt_screen.specs.CallsOfRun.{TakesCalls}
use Rattle.vt_screen.specs.Reading.{Terminal, terminal_after, terminal}
use Rattle.vt_screen.specs.Run.{CallRelation}
use Rattle.vt_screen.specs.Screen.{IsScreen, ScreenValue, above_page}
use Rattle.vt_screen.specs.Shown.{IsPlain, KeepsRest, RedrawsFrom, display}
use Rattle.vt_screen.specs.States.{KeepsAsideButModes}
use Rattle.vt_screen.specs.declared.modes.Modes.{Modes}
use Rattle.vt100.specs.Parser.{ParserValue}

-- A call to `process`: its bytes and its result.
pub record Processing : Type 0 where
  pub bytes : List ℕ
  pub answer : Result (Unit {0}) Error

abbrev pub processing : List ℕ → Result (Unit {0}) Error → Processing
processing bytes answer = record { bytes = bytes; answer = answer }

abbrev pub IsFine : Processing → Type 0
IsFine call = call.answer ≡ Ok tt

-- The parser `new` has not failed, has the scanner state and the screen of the terminal `after`, and has the callbacks
-- of `old`.
pub record HasRead {S : Type 0} (old : ParserValue S) (after : Terminal) (new : ParserValue S) : Type 0 where
  pub is_failed : new.is_failed ≡ false
  pub scanner : StandsFor new.scanner after.scan
  pub screen : new.screen ≡ after.screen
  pub callbacks : new.callbacks ≡ old.callbacks

-- The effect of a call to `process` whose bytes invoke no callbacks and allocate nothing: the call returns `Ok`, and
-- all bytes are read.
abbrev pub Processes : {S : Type 0} → ParserValue S → Processing → ParserValue S → Type 0
Processes old call new =
    (state : State) → (after : Terminal) → old.is_failed ≡ false
    → StandsFor old.scanner state → terminal_after (terminal state old.screen) call.bytes ≡ Some after
    → IsFine call × HasRead old after new

-- The concatenated bytes of a list of calls to `process`.
abbrev pub bytes_in : List Processing → List ℕ
bytes_in [] = []
bytes_in (call ∷ calls) = call.bytes ++ bytes_in calls

-- The parser has not failed, is in ground state, and has a plain screen.
pub record IsPlainParser {S : Type 0} (parser : ParserValue S) : Type 0 where
  pub is_failed : parser.is_failed ≡ false
  pub scanner : StandsFor parser.scanner start
  pub screen : IsPlain parser.screen

-- The parser `new` is plain and displays what the screen `last` displays. Its scrollback, inactive page, scroll region,
-- modes and callbacks are the same as in `old`.
pub record ShowsLast {S : Type 0} (old : ParserValue S) (last : ScreenValue) (new : ParserValue S) : Type 0 where
  pub plain : IsPlainParser new
  pub shows : display new.screen ≡ display last
  pub rest : KeepsRest old.screen new.screen
  pub callbacks : new.callbacks ≡ old.callbacks

-- The parser is in ground state, and its screen displays no scrollback. The screen may have any scroll region and
-- origin mode.
pub record IsUnscrolledParser {S : Type 0} (parser : ParserValue S) : Type 0 where
  pub sound : IsScreen parser.screen
  pub scanner : StandsFor parser.scanner start
  pub offset : (above_page parser.screen).offset ≡ 0

-- The parser `new` is plain, and its inactive page, input modes, cursor style and size are the same as in `old`. No
-- callback was invoked except `on_scroll`, for rows that scrolled off the top.
pub record IsPlainAgain {S : Type 0} (does : CallRelation S) (old new : ParserValue S) : Type 0 where
  pub plain : IsPlainParser new
  pub aside : KeepsAside old.screen new.screen
  pub calls : List CallValue
  pub reports : AllByRecursion IsReport calls
  pub called : TakesCalls does old.callbacks calls new.callbacks

-- The parser `new` is plain, has the given input modes, and has the inactive page and size of `old`. No callback was
-- invoked except `on_scroll`, for rows that scrolled off the top.
pub record IsPlainWithModes {S : Type 0} (does : CallRelation S) (modes : Modes) (old new : ParserValue S) : Type 0 where
  pub plain : IsPlainParser new
  pub aside : KeepsAsideButModes old.screen new.screen
  pub has_modes : new.screen.modes ≡ modes
  pub calls : List CallValue
  pub reports : AllByRecursion IsReport calls
  pub called : TakesCalls does old.callbacks calls new.callbacks

-- ---- diffs of any kind

-- A diff that a parser reads: the screen to be displayed, and the calls to `process` that read the diff.
pub record ReadDiff : Type 0 where
  pub screen : ScreenValue
  pub calls : List Processing

-- The parser reads a diff in the given calls. Afterward, its screen is valid, as the screen of every parser is.
pub record ReadsDiff {S : Type 0} (old : ParserValue S) (diff : ReadDiff) (new : ParserValue S) : Type 0 where
  pub folds : FoldsTo Processes old diff.calls new
  pub sound : IsScreen new.screen

-- Each output is a diff of any kind from the previous screen to a steady screen of the same size, as the clause `redraws`
-- of each function that returns a diff states.
abbrev pub AreDiffs : (was : ScreenValue) → List ReadDiff → Type 0
AreDiffs was [] = Unit {0}
AreDiffs was (diff ∷ diffs) =
    IsSteady (display diff.screen) × SamePictureSize (display diff.screen) (display was)
    × RedrawsFrom was diff.screen (bytes_in diff.calls) × AreDiffs diff.screen diffs

-- The screen to be displayed last.
abbrev pub last_of : (was : ScreenValue) → List ReadDiff → ScreenValue
last_of was [] = was
last_of was (diff ∷ diffs) = last_of diff.screen diffs

-- All calls that read the diff return `Ok`.
abbrev pub AreFine : ReadDiff → Type 0
AreFine diff = AllByRecursion IsFine diff.calls
