use Rattle.std.proofs.Common.{◌≡◌, ◌-◌, ◌<◌, ◌≤◌, length}
use Rattle.vt_grid.specs.Page.{row_or}
use Rattle.vt_rows.specs.Row.{IsRow}
use Rattle.vt_redraw.specs.Internals.{Leads, rows_under}
use Rattle.vt_redraw.specs.Redraw.{rows_written}
use Rattle.vt_redraw.proofs.script.write_rows.Given as goal

-- The loop invariant: the output written so far and the output for the rows below the current one make up the whole
-- output.
abbrev pub invariant-loop-row : goal.invariant-loop-row
invariant-loop-row g l = record {
  leads : Leads (g.S.Sink.text l.sink) (rows_under l.row l.view.width l.pen l.wrapped_above l.view.rows l.prev.rows)
      (g.S.Sink.text l.fn.sink) (rows_written l.fn.pen l.view.rows l.prev.rows);
  grows : length (g.S.Sink.text l.fn.sink) ≤ length (g.S.Sink.text l.sink);
  above : l.above ≡ row_or l.view.width l.view.rows l.row;
  sound : IsRow l.view.width l.above;
  nonempty : 0 < length l.above.cells;
}

abbrev pub decreases-loop-row : goal.decreases-loop-row
decreases-loop-row g l = l.last - l.row
