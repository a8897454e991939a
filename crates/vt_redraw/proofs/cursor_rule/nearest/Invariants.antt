use Rattle.std.proofs.Common.{◌≡◌, ◌≤◌}
use Rattle.vt_redraw.specs.Redraw.{nearest}
use Rattle.vt_redraw.proofs.cursor_rule.nearest.Given as goal

abbrev pub invariant-loop-row : goal.invariant-loop-row
invariant-loop-row l = (nearest l.view.width l.view.rows l.at ≡ nearest l.view.width l.view.rows l.row) × (l.at ≤ l.row)

abbrev pub decreases-loop-row : goal.decreases-loop-row
decreases-loop-row l = l.at
