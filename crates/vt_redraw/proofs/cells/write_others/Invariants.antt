use Rattle.std.proofs.Common.{◌-◌, ◌≤◌, length}
use Rattle.vt_cells.specs.Internals.{buffered_text}
use Rattle.vt_redraw.specs.Internals.{Leads, cells_from}
use Rattle.vt_redraw.proofs.cells.write_others.Given as goal

abbrev pub invariant-loop-col : goal.invariant-loop-col
invariant-loop-col g l =
    Leads (buffered_text (g.S.Sink.text l.sink) l.buffer)
    (cells_from l.pos.row l.col l.pen l.wrapped l.cells.cells l.over.cells) (g.S.Sink.text l.initial.sink)
    (cells_from l.pos.row l.pos.col l.initial.pen l.initial.wrapped l.cells.cells l.over.cells)
    × (length (g.S.Sink.text l.initial.sink) ≤ length (g.S.Sink.text l.sink))

abbrev pub decreases-loop-col : goal.decreases-loop-col
decreases-loop-col g l = l.cols - l.col
