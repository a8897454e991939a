use Rattle.vt_redraw.specs.Internals.{Shifts}
use Rattle.vt_redraw.proofs.row_shifts.write_row_shifts.Given as goal

-- The shifts of the rows so far are written and applied.
abbrev pub invariant-loop-row : goal.invariant-loop-row
invariant-loop-row g l = record {
  shifts : Shifts l.fn.first (g.S.Sink.text l.fn.sink) (g.S.Sink.text l.sink) l.fn.grid l.grid;
}
