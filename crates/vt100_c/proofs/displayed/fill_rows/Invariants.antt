-- The loop invariant: the cells of the rows before the current one are stored.
use Rattle.std.proofs.Common.{◌<◌, ◌*◌, ℕ, drop}
use Rattle.vt100_c.specs.Shown.{IsRowForC}
use Rattle.vt100_c.proofs.displayed.fill_rows.Given as goal

abbrev pub invariant-loop-row : goal.invariant-loop-row
invariant-loop-row l =
    (k : ℕ) → k < l.row → IsRowForC k l.screen (drop (k * l.screen.page.width) l.out)
