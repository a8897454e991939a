use Rattle.std.proofs.Common.{◌-◌, ◌≤◌, drop, length, take}
use Rattle.vt_scan.specs.Texts.{IsParameterText}
use Rattle.vt_screen.proofs.repeats.final_byte_at.Given as goal

abbrev pub invariant-loop-last : goal.invariant-loop-last
invariant-loop-last l = record {
  past : 2 ≤ l.last;
  inside : l.last ≤ length l.bytes;
  parameters : IsParameterText (take (l.last - 2) (drop 2 l.bytes));
}

abbrev pub decreases-loop-last : goal.decreases-loop-last
decreases-loop-last l = length l.bytes - l.last
