use Rattle.std.proofs.Common.{◌≡◌, ◌≤◌, map, take}
use Rattle.std.specs.Vec.{vec_capacity}
use Rattle.vt_rows.specs.Row.{trimmed_row}
use Rattle.vt_grid.proofs.row_lists.trimmed_rows.Given as goal

abbrev pub invariant-loop-k : goal.invariant-loop-k
invariant-loop-k l = record {
  copied : l.copies.items ≡ map trimmed_row (take l.k l.page.rows);
  room : l.count ≤ vec_capacity l.copies;
}
