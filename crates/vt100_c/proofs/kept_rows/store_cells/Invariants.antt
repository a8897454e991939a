-- The loop invariant: the cells before the index are stored, and the elements from it on are unchanged.
use Rattle.std.proofs.Common.{◌≡◌, ◌<◌, ◌≤◌, ℕ, length}
use Rattle.vt_rows.specs.Cells.{at}
use Rattle.vt100_c.specs.Shown.{cell_for_c, cell_in}
use Rattle.vt100_c.proofs.kept_rows.store_cells.Given as goal

abbrev pub invariant-loop-index : goal.invariant-loop-index
invariant-loop-index l =
    (length l.out ≡ length l.fn.out)
    × ((k : ℕ) → k < l.index → cell_in l.out k ≡ cell_for_c (at l.cells k))
    × ((k : ℕ) → l.index ≤ k → cell_in l.out k ≡ cell_in l.fn.out k)
