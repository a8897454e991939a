use Rattle.std.proofs.Common.{◌≡◌, All, ℕ, ◌<◌, slice_index_or}
use Rattle.vt_cells.specs.Cell.{CellValue, IsShort}
use Rattle.vt_cells.proofs.cell.short.are_short.Given as goal

abbrev pub invariant-loop-cell : goal.invariant-loop-cell
invariant-loop-cell l = record {
  all : l.bits ≡ 0 → (k : ℕ) (d : CellValue) → k < l.cell-index → IsShort (slice_index_or l.cells k d);
  some : All IsShort l.cells → l.bits ≡ 0;
}
