-- The loop invariant: the cells written so far are blanks, and the others are still short.
use Rattle.std.proofs.Common.{◌≡◌, ℕ, ◌<◌, ◌≤◌, length, slice_index_or}
use Rattle.vt_cells.specs.Cell.{CellValue, IsShort, blank}
use Rattle.vt_rows.specs.Cells.{at}
use Rattle.vt_rows.proofs.cells.clear_short.Given as goal

abbrev pub invariant-loop-cell : goal.invariant-loop-cell
invariant-loop-cell l = record {
  written : (k : ℕ) → k < l.cell-index → at l.cells k ≡ blank l.attrs;
  rest : (j : ℕ) (d : CellValue) → l.cell-index ≤ j → j < length l.cells → IsShort (slice_index_or l.cells j d);
}
