use Rattle.std.proofs.Common.{All, take}
use Rattle.vt_redraw.specs.Internals.{IsWithin}
use Rattle.vt_redraw.proofs.steadiness.lens_of.Given as goal

abbrev pub invariant-loop-cell : goal.invariant-loop-cell
invariant-loop-cell l = All (IsWithin l.lens) (take l.cell-index l.cells)
