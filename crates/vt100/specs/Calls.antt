-- The effects of the calls that parse bytes: their results, and the parser after them.
use Rattle.std.specs.Prelude.{◌≡◌, ◌≢◌, ◌↔◌, ◌<◌, ◌≤◌, ℕ, true, false, List, Err, Ok, length, take, IfErr, IfOk, IsErr}
use Rattle.std.specs.IoError.{error_kind}
use Rattle.std.specs.declared.io.Error as io
use Rattle.std.specs.declared.io.ErrorKind.TheVariants as kind
use Rattle.std.specs.declared.result.Result.{Result}
use Rattle.vt_cells.specs.declared.error.Error.{Error}
use Rattle.vt_cells.specs.declared.error.Error.TheVariants.{Failed, NoNumber, OutOfMemory}
use Rattle.vt100.specs.Parser.{CallsByLast, IsHarmless, ParserValue, Ran, Stopped, StoppedAt, does_nothing}
use Rattle.vt100.specs.Pieces.{Processes, processing}
use Rattle.vt_screen.specs.Run.{CallRelation}

-- The effect of `process`. The parser reads all bytes, or stops before the first byte or step for which an allocation
-- fails; a parser that stopped reads nothing more.
pub record ParserProcesses {S : Type 0} (does : CallRelation S)
    (old : ParserValue S) (bytes : List ℕ) (answer : Result (Unit {0}) Error) (new : ParserValue S) : Type 0 where
  pub ran : IfOk answer (λ _. Ran does old bytes new)
  pub memory : answer ≡ Err OutOfMemory → Stopped does old bytes new
  pub failed : old.is_failed ≡ true → (answer ≡ Err Failed) × (new ≡ old)
  pub only : answer ≡ Err Failed → old.is_failed ≡ true
  pub no_number : IfErr answer (λ error. error ≢ NoNumber)
  pub for_good : new.is_failed ≡ true ↔ IsErr answer
  pub harmless : old.is_failed ≡ false → IsHarmless does old bytes → answer ≡ Ok tt
  pub quiet : Processes old (processing bytes answer) new

-- The effect of `process_unit`. On success, the first `count` bytes are read; they invoke no callbacks, or only the last
-- of them produces events. If an allocation fails, the byte at index `count` required it; the bytes before that
-- byte produce no events, and the parser reads nothing more.
pub record ParserReadsUnit {S : Type 0} (does : CallRelation S) (old : ParserValue S) (bytes : List ℕ) (count : ℕ)
    (answer : Result (Unit {0}) Error) (new : ParserValue S) : Type 0 where
  pub progress : IfOk answer (λ _. 0 < count)
  pub inside : IfOk answer (λ _. count ≤ length bytes)
  pub ran : IfOk answer (λ _. Ran does old (take count bytes) new)
  pub last : IfOk answer (λ _. CallsByLast old.callbacks old.screen old.scanner bytes count new.callbacks)
  pub memory : answer ≡ Err OutOfMemory → StoppedAt does old bytes count new
  pub failed : old.is_failed ≡ true → (answer ≡ Err Failed) × (new ≡ old) × (count ≡ 0)
  pub only : answer ≡ Err Failed → old.is_failed ≡ true
  pub no_number : IfErr answer (λ error. error ≢ NoNumber)
  pub for_good : new.is_failed ≡ true ↔ IsErr answer

-- The effect of `io::Write::write` on a parser. The parser reads all bytes, or the call returns an error of kind
-- `OutOfMemory` or `Other`.
pub record ParserWrites (old : ParserValue (Unit {0})) (bytes : List ℕ) (answer : Result ℕ io.Error)
    (new : ParserValue (Unit {0})) : Type 0 where
  pub whole : IfOk answer (λ count. count ≡ length bytes)
  pub ran : IfOk answer (λ _. Ran does_nothing old bytes new)
  pub for_good : new.is_failed ≡ true ↔ IsErr answer
  pub stopped : old.is_failed ≡ false → IsErr answer → Stopped does_nothing old bytes new
  pub refused : old.is_failed ≡ false → IfErr answer (λ error. error_kind error ≡ kind.OutOfMemory)
  pub failed : old.is_failed ≡ true → new ≡ old
  pub harmless : old.is_failed ≡ false → IsHarmless does_nothing old bytes → answer ≡ Ok (length bytes)
  pub quiet : Processes old (processing bytes (Ok tt)) new
  pub after : old.is_failed ≡ true → IfErr answer (λ error. error_kind error ≡ kind.Other)
