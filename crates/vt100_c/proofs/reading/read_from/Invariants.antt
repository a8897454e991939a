-- The loop invariant: the bytes before the current one have been read, and none of them recorded an event.
use Rattle.std.proofs.Common.{◌-◌, ◌≤◌, length}
use Rattle.vt100_c.proofs.Answering.{HasReadQuietly}
use Rattle.vt100_c.proofs.reading.read_from.Given as goal

abbrev pub invariant-loop-at : goal.invariant-loop-at
invariant-loop-at l = record {
  inside : l.at ≤ length l.bytes;
  read : HasReadQuietly l.mark l.fn.parser l.bytes l.at l.parser;
}

abbrev pub decreases-loop-at : goal.decreases-loop-at
decreases-loop-at l = length l.bytes - l.at
