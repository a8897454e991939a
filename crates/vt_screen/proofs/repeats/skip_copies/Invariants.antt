use Rattle.std.proofs.Common.{◌≡◌, ◌-◌, ◌≤◌, ◌++◌, IsUtf8}
use Rattle.vt_screen.specs.Repeating.{copies}
use Rattle.vt_screen.proofs.repeats.skip_copies.Given as goal

abbrev pub invariant-loop-count : goal.invariant-loop-count
invariant-loop-count l = record {
  utf8 : IsUtf8 l.rest;
  most : l.count ≤ l.most;
  whole : l.text ≡ copies l.count l.character ++ l.rest;
}

abbrev pub decreases-loop-count : goal.decreases-loop-count
decreases-loop-count l = l.most - l.count
