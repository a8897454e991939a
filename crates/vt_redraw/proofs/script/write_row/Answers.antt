use Rattle.vt_redraw.proofs.WriterSteps.{row_writes, row_some, text_after_some, wrote_all}
use Rattle.std.proofs.Common.{◌++◌}
use Rattle.vt_cells.proofs.Sinks.{on_err}
use Rattle.vt_cells.specs.Op.{bytes_of_all}
use Rattle.vt_redraw.specs.Script.{row_break}
use Rattle.vt_redraw.proofs.script.write_row.Goals as goal

pub returns-clause-writes : goal.returns-clause-writes
returns-clause-writes g c =
    let text = g.S.Sink.text in
    row_writes c.args.row c.args.link.settled c.args.pen.now c.write_cells.new.pen c.write_break.new.pen
    c.args.link.wrapped c.write_cells.new.wrapped c.in_ok-is_wrapped.is_wrapped c.args.cells.now c.args.over.now.cells
    (text c.args.sink.now) (text c.write_cells.new.sink) (text c.write_break.new.sink)
    c.in_ok-write_cells.ensures.writes.bytes c.in_ok-write_cells.ensures.writes.stands
    c.in_ok-write_cells.ensures.writes.is_wrapped c.in_ok-is_wrapped.ensures.writes

pub returns-in_err-write_cells-clause-nonempty : goal.returns-in_err-write_cells-clause-nonempty
returns-in_err-write_cells-clause-nonempty g c =
    on_err c.from_residual.result
    (row_some c.args.row c.args.link.settled c.args.pen.now c.args.link.wrapped c.args.cells.now c.args.over.now.cells
    c.in_err-write_cells.ensures.nonempty)

pub returns-in_err-is_wrapped-clause-nonempty : goal.returns-in_err-is_wrapped-clause-nonempty
returns-in_err-is_wrapped-clause-nonempty g c =
    let text = g.S.Sink.text in
    let x = c.args.cells.now in
    let mid = text c.write_cells.new.sink in
    let break = row_break c.args.row c.write_cells.new.pen c.write_cells.new.wrapped x.wrapped x.cells in
    on_err c.from_residual-in_err-is_wrapped.result
    (text_after_some (text c.args.sink.now) _ mid (bytes_of_all break.ops) _ c.in_ok-write_cells.ensures.writes.bytes
    (row_writes c.args.row c.args.link.settled c.args.pen.now c.write_cells.new.pen break.pen
    c.args.link.wrapped c.write_cells.new.wrapped break.wrapped x c.args.over.now.cells
    (text c.args.sink.now) mid (mid ++ bytes_of_all break.ops) c.in_ok-write_cells.ensures.writes.bytes
    c.in_ok-write_cells.ensures.writes.stands c.in_ok-write_cells.ensures.writes.is_wrapped (wrote_all mid break)).bytes
    c.in_err-is_wrapped.ensures.nonempty)
