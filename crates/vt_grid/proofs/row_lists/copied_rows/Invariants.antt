use Rattle.std.proofs.Common.{◌≡◌, ◌≤◌, length, take}
use Rattle.std.specs.VecDeque.{deque_capacity}
use Rattle.vt_grid.proofs.row_lists.copied_rows.Given as goal

abbrev pub invariant-loop-k : goal.invariant-loop-k
invariant-loop-k l = record {
  copied : l.copies.items ≡ take l.k l.rows.items;
  room : length l.rows.items ≤ deque_capacity l.copies;
}
