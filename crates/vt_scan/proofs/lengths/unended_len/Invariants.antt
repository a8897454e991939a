-- The bytes so far cannot end a string, and the next one, if there is one, is in the range of those that can.
use Rattle.std.proofs.Common.{◌≡◌, ◌<◌, ◌-◌, ◌≤◌, ℕ, length, get_or, true}
use Rattle.vt_scan.specs.Internals.{IsUnended, is_in_range}
use Rattle.vt_scan.proofs.lengths.unended_len.Given as goal

abbrev pub invariant-loop-len : goal.invariant-loop-len
invariant-loop-len l = record {
  inside : l.len ≤ length l.bytes;
  unended : (k : ℕ) → k < l.len → IsUnended (get_or l.bytes k 0);
  next : l.len < length l.bytes → is_in_range 0x18 3 (get_or l.bytes l.len 0) ≡ true;
}

abbrev pub decreases-loop-len : goal.decreases-loop-len
decreases-loop-len l = length l.bytes - l.len
