-- The reasons for which a call that works on a terminal can fail.
use Rattle.std.specs.Prelude.{◌≡◌, ◌⊎◌, ◌<◌, true, Some}
use Rattle.vt_cells.specs.declared.error.Error.{Error}
use Rattle.vt_cells.specs.declared.error.Error.TheVariants.{Failed, NoNumber, OutOfMemory}
use Rattle.vt100.specs.Parser.{ParserValue}
use Rattle.vt_mirror.specs.Calls.{greatest}
use Rattle.vt_mirror.specs.Mirror.{MirrorValue}
use Rattle.vt_mirror.specs.declared.update.Update.{Update}
use Rattle.vt_mirror.specs.declared.update.Update.TheVariants.{Diff, Full}

-- The error has one of two reasons: an allocation failed, or the terminal had failed before.
abbrev pub IsFailure : {S : Type 0} → (terminal : ParserValue S) → (error : Error) → Type 0
IsFailure terminal error = (error ≡ OutOfMemory) ⊎ ((error ≡ Failed) × (terminal.is_failed ≡ true))

-- The error has one of three reasons: an allocation failed, the mirror or the terminal had failed before, or the
-- largest viewer number was already assigned.
abbrev pub IsLateFailure : {S : Type 0} → (mirror : MirrorValue) → (terminal : ParserValue S) → (error : Error) → Type 0
IsLateFailure mirror terminal error =
    (error ≡ OutOfMemory)
    ⊎ (((error ≡ Failed) × ((mirror.parser.is_failed ≡ true) ⊎ (terminal.is_failed ≡ true)))
    ⊎ ((error ≡ NoNumber) × (mirror.viewers.last ≡ Some greatest)))

-- The update can be applied to a terminal: a full redraw has a size of at least one row and one column.
abbrev pub HasSides : Update → Type 0
HasSides (Diff text) = Unit {0}
HasSides (Full rows cols text) = (0 < rows) × (0 < cols)
