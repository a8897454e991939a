use Rattle.std.proofs.Common.{◌≡◌, ◌<◌, ◌≤◌, ℕ, length}
use Rattle.vt_cells.specs.Cell.{default_blank}
use Rattle.vt_rows.specs.Cells.{at}
use Rattle.vt_packed.proofs.unpacking.clear_from.Given as goal

-- The loop invariant: the cells from `column` up to the current one are default blanks.
abbrev pub invariant-loop-k : goal.invariant-loop-k
invariant-loop-k l = record {
  len : length l.cells ≡ length l.fn.cells;
  before : (j : ℕ) → j < l.column → at l.cells j ≡ at l.fn.cells j;
  cleared : (j : ℕ) → l.column ≤ j → j < l.k → at l.cells j ≡ default_blank;
}
