use Rattle.std.proofs.Common.{◌≡◌, ℕ, ◌<◌}
use Rattle.vt_rows.specs.Cells.{at}
use Rattle.vt_cells.specs.Cell.{blank}
use Rattle.vt_rows.proofs.cells.clear_each.Given as goal

abbrev pub invariant-loop-cell : goal.invariant-loop-cell
invariant-loop-cell l = (k : ℕ) → k < l.cell-index → at l.cells k ≡ blank l.attrs
