-- The loop invariant: the characters before the current one are decoded.
use Rattle.std.proofs.Common.{◌-◌, ◌≤◌}
use Rattle.vt_scan.specs.Texts.{AreWideThrees}
use Rattle.vt_scan.proofs.unfinished.wide_characters.Given as goal

abbrev pub invariant-loop-done : goal.invariant-loop-done
invariant-loop-done l = record {
  within : l.done ≤ l.count;
  threes : AreWideThrees l.done l.bytes l.text;
}

abbrev pub decreases-loop-done : goal.decreases-loop-done
decreases-loop-done l = l.count - l.done
