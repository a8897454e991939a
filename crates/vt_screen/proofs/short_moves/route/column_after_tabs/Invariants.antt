-- The remaining tabs lead from the current stop to the result.
use Rattle.std.proofs.Common.{◌≡◌, ◌-◌}
use Rattle.vt_screen.specs.ShortMoves.{column_after_tabs}
use Rattle.vt_screen.proofs.short_moves.route.column_after_tabs.Given as goal

abbrev pub invariant-loop-tab : goal.invariant-loop-tab
invariant-loop-tab l = column_after_tabs l.cols (l.count - l._tab) l.stop ≡ column_after_tabs l.cols l.count l.col
