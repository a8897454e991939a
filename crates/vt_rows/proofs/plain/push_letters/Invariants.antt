use Rattle.std.proofs.Common.{◌+◌, ◌-◌, ◌≤◌, length}
use Rattle.vt_rows.specs.Internals.{Shows}
use Rattle.vt_rows.proofs.plain.push_letters.Given as goal

-- The loop invariant: the texts of the first `count` cells are in the buffer.
abbrev pub invariant-loop-count : goal.invariant-loop-count
invariant-loop-count l = record {
  shows : Shows l.fn.buffer l.buffer l.count l.cells;
  room : length l.buffer + (l.stop - l.count) ≤ 256;
  inside : l.stop ≤ length l.cells;
}

abbrev pub decreases-loop-count : goal.decreases-loop-count
decreases-loop-count l = l.stop - l.count
