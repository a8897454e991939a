-- The digits so far spell the value.
use Rattle.std.proofs.Common.{◌≡◌, ◌-◌, ◌<◌, ◌≤◌, decimal, length, take}
use Rattle.vt_screen.proofs.short_moves.elements.number.Given as goal

abbrev pub invariant-loop-value : goal.invariant-loop-value
invariant-loop-value l = record {
  inside : l.len ≤ length l.bytes;
  some : 0 < l.len;
  small : l.value ≤ 65535;
  digits : take l.len l.bytes ≡ decimal l.value;
}

abbrev pub decreases-loop-value : goal.decreases-loop-value
decreases-loop-value l = length l.bytes - l.len
