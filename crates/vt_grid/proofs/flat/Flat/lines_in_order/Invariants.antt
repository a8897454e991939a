use Rattle.std.proofs.Common.{◌≡◌, ◌≤◌}
use Rattle.std.specs.Vec.{vec_capacity}
use Rattle.vt_grid.specs.Flat.{in_order}
use Rattle.vt_grid.proofs.flat.Flat.lines_in_order.Given as goal

abbrev pub invariant-loop-place : goal.invariant-loop-place
invariant-loop-place l = record {
  made : l.lines.items ≡ in_order l.place;
  room : l.rows ≤ vec_capacity l.lines;
}
