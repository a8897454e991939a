use Rattle.std.proofs.Common.{◌-◌, ◌≤◌, length}
use Rattle.vt_scan.specs.Internals.{is_in_range}
use Rattle.vt_scan.proofs.Lists.{IsRun}
use Rattle.vt_scan.proofs.lengths.len_before.Given as goal

abbrev pub invariant-loop-len : goal.invariant-loop-len
invariant-loop-len l = (l.len ≤ length l.bytes) × IsRun (is_in_range l.low l.width) l.bytes l.len

abbrev pub decreases-loop-len : goal.decreases-loop-len
decreases-loop-len l = length l.bytes - l.len

abbrev pub invariant-loop-len-2 : goal.invariant-loop-len-2
invariant-loop-len-2 l = (l.len ≤ length l.bytes) × IsRun (is_in_range l.low l.width) l.bytes l.len

abbrev pub decreases-loop-len-2 : goal.decreases-loop-len-2
decreases-loop-len-2 l = length l.bytes - l.len
