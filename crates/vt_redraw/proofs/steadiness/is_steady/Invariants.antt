use Rattle.std.proofs.Common.{All, take}
use Rattle.vt_redraw.specs.Internals.{IsSteadyRow}
use Rattle.vt_redraw.proofs.steadiness.is_steady.Given as goal

abbrev pub invariant-loop-row : goal.invariant-loop-row
invariant-loop-row l = All (IsSteadyRow l.view.width) (take l.row l.view.rows)
