use Rattle.std.proofs.Common.{◌≡◌, ◌-◌, ◌≤◌, length, take}
use Rattle.vt_rows.proofs.copies.copy_over.Given as goal

abbrev pub invariant-loop-done : goal.invariant-loop-done
invariant-loop-done l = record {
  within : l.done ≤ length l.fn.from;
  same : take l.done l.cells ≡ take l.done l.fn.from;
  len : length l.cells ≡ length l.fn.from;
}

abbrev pub decreases-loop-done : goal.decreases-loop-done
decreases-loop-done l = length l.fn.from - l.done
