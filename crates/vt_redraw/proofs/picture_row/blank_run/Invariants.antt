use Rattle.std.proofs.Common.{◌≡◌, ℕ, ◌-◌, ◌<◌, ◌≤◌, length, slice_index_or}
use Rattle.vt_cells.specs.Cell.{CellValue}
use Rattle.vt_redraw.proofs.picture_row.blank_run.Given as goal

-- The loop invariant: the first `count` cells equal the blank.
abbrev pub invariant-loop-count : goal.invariant-loop-count
invariant-loop-count l =
    (l.count ≤ length l.cells) × ((k : ℕ) (d : CellValue) → k < l.count → slice_index_or l.cells k d ≡ l.end)

abbrev pub decreases-loop-count : goal.decreases-loop-count
decreases-loop-count l = length l.cells - l.count
