use Rattle.std.proofs.Common.{◌≤◌, ℕ, All, length}
use Rattle.vt_redraw.specs.Internals.{IsWithin}
use Rattle.vt_redraw.proofs.steadiness.are_short.Given as goal

abbrev pub invariant-loop-rest : goal.invariant-loop-rest
invariant-loop-rest l =
    (bound : ℕ) → l.lens ≤ bound → All (IsWithin bound) l.rest → All (IsWithin bound) l.cells

abbrev pub decreases-loop-rest : goal.decreases-loop-rest
decreases-loop-rest l = length l.rest
