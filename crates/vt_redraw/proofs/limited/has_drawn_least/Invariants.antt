use Rattle.std.proofs.Common.{◌≤◌, All, take}
use Rattle.vt_rows.specs.Row.{IsRow}
use Rattle.vt_redraw.specs.Limited.{rows_drawn_least}
use Rattle.vt_redraw.proofs.limited.has_drawn_least.Given as goal

-- The loop invariant: the rows counted so far are valid, and the sum is at most the lower bound for them.
abbrev pub invariant-loop-row : goal.invariant-loop-row
invariant-loop-row l = record {
  least : l.least ≤ rows_drawn_least (take l.row l.view.rows);
  sound : All (IsRow l.view.width) (take l.row l.view.rows);
}
