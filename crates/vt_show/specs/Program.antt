-- The command-line arguments of the program `vtshow`, and the error message and exit status of a failed run.
use Rattle.std.specs.Prelude.{◌≡◌, ℕ, ◌<◌, ◌^◌, List, [], ◌∷◌, codes, Option, Some, None}
use Rattle.std.specs.Str.Parse.{IsNumeral, digits_value}
use Rattle.vt_show.specs.declared.mode.Mode.{Mode}
use Rattle.vt_show.specs.declared.mode.Mode.TheVariants.{Plain, Formatted, Basic}
use Rattle.vt_show.specs.declared.faults.Fault.{Fault}
use Rattle.vt_show.specs.declared.faults.Fault.TheVariants.{Memory, Read, Write}

-- ==== The command-line arguments of the program `vtshow`: rows, columns, and the mode of the output.

-- The argument `word` is the decimal form of `n`, a number of rows or columns from 1 to 65535. Leading zeros are
-- allowed.
abbrev pub IsSize : List ℕ → ℕ → Type 0
IsSize word n = IsNumeral 10 word × (digits_value 10 word ≡ n) × (0 < n) × (n < 2 ^ 16)

-- The name of an output mode on the command line.
abbrev pub name_of : Mode → List ℕ
name_of Plain = codes "plain"
name_of Formatted = codes "formatted"
name_of Basic = codes "basic"

-- There are exactly three arguments, and they specify the given number of rows, number of columns and mode.
abbrev pub AsksToShow : List (List ℕ) → ℕ → ℕ → Mode → Type 0
AsksToShow (first ∷ second ∷ third ∷ []) rows cols mode =
    IsSize first rows × IsSize second cols × (third ≡ name_of mode)
AsksToShow _ rows cols mode = ⊥

-- The arguments are invalid.
abbrev pub AskForNothing : List (List ℕ) → Type 0
AskForNothing words = (rows cols : ℕ) (mode : Mode) → AsksToShow words rows cols mode → ⊥

-- The arguments are valid, and the predicate `Holds` is true of the size and mode that they specify.
pub record AskFor (words : List (List ℕ)) (Holds : ℕ → ℕ → Mode → Type 0) : Type 0 where
  pub rows : ℕ
  pub cols : ℕ
  pub mode : Mode
  pub asks : AsksToShow words rows cols mode
  pub holds : Holds rows cols mode

-- ==== The error message and the exit status of a failed run.

-- The line written to standard error: a message for a fault, or the usage for invalid arguments (`None`).
abbrev pub line_of : Option Fault → List ℕ
line_of (Some Memory) = codes "vtshow: out of memory"
line_of (Some Read) = codes "vtshow: read failed"
line_of (Some Write) = codes "vtshow: write failed"
line_of None = codes "usage: vtshow ROWS COLS plain|formatted|basic"

-- The exit status of a run that failed: 1 for a fault, 2 for invalid arguments (`None`).
abbrev pub status_of : Option Fault → ℕ
status_of (Some fault) = 1
status_of None = 2
