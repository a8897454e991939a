use Rattle.std.proofs.Common.{◌≡◌, ◌-◌, ◌≤◌, ◌++◌, length}
use Rattle.std.specs.Vec.{vec_capacity}
use Rattle.vt_grid.specs.Flat.{lines_from}
use Rattle.vt_grid.proofs.flat.lines.push_lines.Given as goal

abbrev pub invariant-loop-place : goal.invariant-loop-place
invariant-loop-place l = record {
  made : l.lines.items ≡ l.fn.lines.items ++ lines_from (length l.fn.lines.items) (l.place - length l.fn.lines.items);
  after : length l.fn.lines.items ≤ l.place;
  room : l.rows ≤ vec_capacity l.lines;
}
