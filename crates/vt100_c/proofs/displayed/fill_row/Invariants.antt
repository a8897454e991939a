-- The loop invariant: the cells before the current one are those of the row.
use Rattle.std.proofs.Common.{◌≡◌, ◌<◌, ℕ}
use Rattle.vt100_c.specs.Shown.{cell_for_c, cell_in, shown_cell}
use Rattle.vt100_c.proofs.displayed.fill_row.Given as goal

abbrev pub invariant-loop-col : goal.invariant-loop-col
invariant-loop-col l =
    (k : ℕ) → k < l.col → cell_in l.out k ≡ cell_for_c (shown_cell l.row k l.screen)
