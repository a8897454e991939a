use Rattle.std.proofs.Common.{◌-◌, ◌<◌, ◌≤◌, ℕ, length}
use Rattle.vt_grid.specs.Flat.{line_at}
use Rattle.vt_grid.proofs.flat.resizing.free_row.Given as goal

abbrev pub invariant-loop-row : goal.invariant-loop-row
invariant-loop-row l = record {
  after : l.from ≤ l.row;
  inside : l.row < length l.lines;
  later : (k : ℕ) → l.rows ≤ k → k < l.row → l.rows ≤ (line_at l.lines k).place;
}

abbrev pub decreases-loop-row : goal.decreases-loop-row
decreases-loop-row l = length l.lines - l.row
