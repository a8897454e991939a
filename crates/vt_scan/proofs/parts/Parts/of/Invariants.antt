-- The parts so far, the next one, and those after it are those of the text.
use Rattle.std.proofs.Common.{◌≡◌, ℕ, ◌-◌, List, length, take}
use Rattle.vt_scan.proofs.Lists.{Cuts, IsPart}
use Rattle.vt_scan.proofs.parts.Parts.of.Given as goal

abbrev pub invariant-loop-end : goal.invariant-loop-end
invariant-loop-end l =
    IsPart l.start l.end l.text × ((all : List (List ℕ)) × (l.parts ≡ take 16 all) × Cuts all l.start l.text)

abbrev pub decreases-loop-end : goal.decreases-loop-end
decreases-loop-end l = length l.text - l.end
