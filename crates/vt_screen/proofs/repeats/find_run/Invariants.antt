use Rattle.std.proofs.Common.{◌-◌, ◌≤◌, length, take}
use Rattle.vt_screen.specs.Internals.{KeepsRoom}
use Rattle.vt_screen.proofs.repeats.find_run.Given as goal

abbrev pub invariant-loop-at : goal.invariant-loop-at
invariant-loop-at l = record {
  inside : l.at ≤ length l.text;
  keeps : KeepsRoom l.cols l.room l.left (take l.at l.text);
}

abbrev pub decreases-loop-at : goal.decreases-loop-at
decreases-loop-at l = length l.text - l.at
