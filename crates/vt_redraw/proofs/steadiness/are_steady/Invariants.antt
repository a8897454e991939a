use Rattle.std.proofs.Common.{All, take}
use Rattle.vt_redraw.specs.Steady.{IsSteadyCell}
use Rattle.vt_redraw.proofs.steadiness.are_steady.Given as goal

abbrev pub invariant-loop-cell : goal.invariant-loop-cell
invariant-loop-cell l = All (IsSteadyCell l.cols) (take l.cell-index l.cells)
