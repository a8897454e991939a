-- The errors of this library: which of them a call can return, the `io::ErrorKind` that each is converted to, and the
-- message that `Display` writes.
use Rattle.std.specs.Prelude.{◌≡◌, IfErr, ℕ, List, codes}
use Rattle.std.specs.declared.result.Result.{Result}
use Rattle.vt_cells.specs.declared.error.Error.{Error}
use Rattle.vt_cells.specs.declared.error.Error.TheVariants.{OutOfMemory, Failed, NoNumber}
use Rattle.std.specs.declared.io.ErrorKind.{ErrorKind}
use Rattle.std.specs.declared.io.ErrorKind.TheVariants as kind

-- If the result is an error, the error is `OutOfMemory`.
abbrev pub OnlyOutOfMemory : {A : Type 0} → Result A Error → Type 0
OnlyOutOfMemory result = IfErr result (λ error. error ≡ OutOfMemory)

-- ==== The `io::ErrorKind` that an error of this library is converted to.

-- The `io::ErrorKind` that an error is converted to: `OutOfMemory` becomes the kind of the same name, and any other
-- error becomes `Other`.
abbrev pub kind_of : Error → ErrorKind
kind_of OutOfMemory = kind.OutOfMemory
kind_of Failed = kind.Other
kind_of NoNumber = kind.Other

-- ==== The error messages that `Display` writes.

-- The text that formatting an error with `{}` produces.
abbrev pub error_text : Error → List ℕ
error_text OutOfMemory = codes "out of memory"
error_text Failed = codes "parser failed"
error_text NoNumber = codes "no viewer number left"
