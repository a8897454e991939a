use Rattle.std.proofs.Common.{◌≡◌, ◌+◌, ◌-◌, ◌≤◌, ◌++◌, length, take, vec_len}
use Rattle.std.specs.Prelude.{vec_capacity}
use Rattle.vt_rows.proofs.copies.push_copies.Given as goal

abbrev pub invariant-loop-done : goal.invariant-loop-done
invariant-loop-done l = record {
  within : l.done ≤ length l.fn.from;
  items : l.cells.items ≡ l.fn.cells.items ++ take l.done l.fn.from;
  len : vec_len l.cells ≡ vec_len l.fn.cells + l.done;
  room : vec_len l.fn.cells + length l.fn.from ≤ vec_capacity l.cells;
}

abbrev pub decreases-loop-done : goal.decreases-loop-done
decreases-loop-done l = length l.fn.from - l.done
