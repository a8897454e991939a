-- The bytes so far are kept.
use Rattle.std.proofs.Common.{length, ◌-◌, ◌≡◌, ◌≤◌, take, true}
use Rattle.std.specs.List.{AllByRecursion}
use Rattle.vt_charsets.specs.Internals.{is_kept}
use Rattle.vt_charsets.proofs.runs.kept_len.Given as goal

abbrev pub invariant-loop-len : goal.invariant-loop-len
invariant-loop-len l = record {
  inside : l.len ≤ length l.bytes;
  kept : AllByRecursion (λ b. is_kept l.is_drawing b ≡ true) (take l.len l.bytes);
}

abbrev pub decreases-loop-len : goal.decreases-loop-len
decreases-loop-len l = length l.bytes - l.len
