use Rattle.std.proofs.Common.{◌∷◌, ◌∙◌, [], List, ap, subst, if◌then◌else◌}
use Rattle.vt_cells.specs.Cell.{CellValue}
use Rattle.vt_cells.specs.Sinks.{IsStopped}
use Rattle.vt_cells.proofs.Sinks.{on_err, stopped_after, stopped_before}
use Rattle.vt_rows.specs.Basic.{Written, basic_text, cells_text}
use Rattle.vt_rows.specs.Row.{RowValue, cells_without_end}
use Rattle.vt_rows.proofs.capture.RowContents.write_formatted_basic.Goals as goal

pub returns-in_err-write_line_end-clause-stopped : goal.returns-in_err-write_line_end-clause-stopped
returns-in_err-write_line_end-clause-stopped g c =
    let before = g.S.Sink.text c.args.sink.now in
    let after = g.S.Sink.text c.write_line_end.new.sink in
    let row = c.args.self.now in
    on_err c.from_residual.result
    (subst (λ (state : Written). IsStopped g.S.Sink.refuses before (basic_text state row) after) c.state.view_is
    (stopped_before g.S.Sink.refuses before [] (if c.state.inside.is_due then 0x0A ∷ [] else [])
    (cells_text c.state.inside.attrs (cells_without_end row.cells)) after c.in_err-write_line_end.ensures.stopped))

pub returns-in_err-state-inside-clause-stopped : goal.returns-in_err-state-inside-clause-stopped
returns-in_err-state-inside-clause-stopped g c =
    let before = g.S.Sink.text c.args.sink.now in
    let mid = g.S.Sink.text c.write_line_end.new.sink in
    let after = g.S.Sink.text c.write_cells.new.sink in
    let row = c.args.self.now in
    let attrs = c.state.inside.attrs in
    let cells = c.trimmed_len.ensures.value ∙ ap (λ (r : RowValue). cells_without_end r.cells) c.self.view_is in
    on_err c.from_residual-in_err-state-inside.result
    (subst (λ (state : Written). IsStopped g.S.Sink.refuses before (basic_text state row) after) c.state.view_is
    (stopped_after g.S.Sink.refuses before mid (if c.state.inside.is_due then 0x0A ∷ [] else [])
    (cells_text attrs (cells_without_end row.cells)) after c.in_ok-write_line_end.ensures.text
    (subst (λ (xs : List CellValue). IsStopped g.S.Sink.refuses mid (cells_text attrs xs) after) cells
    c.in_err-state-inside.ensures.stopped)))
