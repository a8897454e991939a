use Rattle.std.proofs.Common.{◌-◌, ◌≤◌}
use Rattle.vt_redraw.specs.Internals.{Passes}
use Rattle.vt_redraw.proofs.passing.pass.Given as goal

abbrev pub invariant-loop-next : goal.invariant-loop-next
invariant-loop-next l = Passes l.col l.next l.cells.cells l.over.cells × (l.col ≤ l.next)

abbrev pub decreases-loop-next : goal.decreases-loop-next
decreases-loop-next l = l.stop - l.next
