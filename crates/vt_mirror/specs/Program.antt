-- The command-line arguments of the program `vtmirror`, and the error message and exit status of a failed run.
use Rattle.std.specs.Prelude.{ℕ, List, [], ◌∷◌, Option, Some, None, codes}
use Rattle.vt_show.specs.Program.{IsSize}
use Rattle.vt_show.specs.declared.faults.Fault.{Fault}
use Rattle.vt_show.specs.declared.faults.Fault.TheVariants.{Memory, Read, Write}

-- ==== The command-line arguments of the program `vtmirror`: rows, columns, and the number of bytes to read between
-- updates.

-- There are exactly three arguments, each a decimal number from 1 to 65535; the numbers are `rows`, `cols` and `every`.
abbrev pub AsksToMirror : List (List ℕ) → (rows cols every : ℕ) → Type 0
AsksToMirror (first ∷ second ∷ third ∷ []) rows cols every = IsSize first rows × IsSize second cols × IsSize third every
AsksToMirror _ rows cols every = ⊥

-- The arguments are invalid: they do not satisfy `AsksToMirror` for any `rows`, `cols` and `every`.
abbrev pub AskForNothing : List (List ℕ) → Type 0
AskForNothing words = (rows cols every : ℕ) → AsksToMirror words rows cols every → ⊥

-- The arguments are valid, and the predicate `Holds` is true of the numbers that they specify.
pub record AskFor (words : List (List ℕ)) (Holds : (rows cols every : ℕ) → Type 0) : Type 0 where
  pub rows : ℕ
  pub cols : ℕ
  pub every : ℕ
  pub asks : AsksToMirror words rows cols every
  pub holds : Holds rows cols every

-- ==== The error message and the exit status of a failed run.

abbrev pub line_of : Option Fault → List ℕ
line_of (Some Memory) = codes "vtmirror: out of memory"
line_of (Some Read) = codes "vtmirror: read failed"
line_of (Some Write) = codes "vtmirror: write failed"
line_of None = codes "usage: vtmirror ROWS COLS EVERY"

-- The exit status of a run that failed: 1 for a fault, 2 for invalid arguments (`None`).
abbrev pub status_of : Option Fault → ℕ
status_of (Some fault) = 1
status_of None = 2
