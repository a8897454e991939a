-- The bytes so far are printable ASCII.
use Rattle.std.proofs.Common.{◌-◌, ◌≤◌, length, take}
use Rattle.std.specs.List.{AllByRecursion}
use Rattle.vt_screen.specs.ShortMoves.{IsAsciiCharacter}
use Rattle.vt_screen.proofs.repeats.single_len.Given as goal

abbrev pub invariant-loop-len : goal.invariant-loop-len
invariant-loop-len l = record {
  inside : l.len ≤ length l.bytes;
  ascii : AllByRecursion IsAsciiCharacter (take l.len l.bytes);
}

abbrev pub decreases-loop-len : goal.decreases-loop-len
decreases-loop-len l = length l.bytes - l.len
