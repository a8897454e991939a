-- The loop invariant: the bytes read so far are parsed as the narrow characters decoded so far.
use Rattle.std.proofs.Common.{◌-◌, ◌≤◌, length, take}
use Rattle.vt_scan.specs.Texts.{AreNarrow}
use Rattle.vt_scan.proofs.narrow.narrow_characters.Given as goal

abbrev pub invariant-loop-done : goal.invariant-loop-done
invariant-loop-done l = record {
  within : l.done ≤ l.count;
  inside : l.at ≤ length l.bytes;
  narrow : AreNarrow (take l.at l.bytes) (take l.done l.text);
}

abbrev pub decreases-loop-done : goal.decreases-loop-done
decreases-loop-done l = l.count - l.done
