use Rattle.std.proofs.Common.{◌∙◌, refl, sym}
use Rattle.std.proofs.lemmas.Result.{on_err_weaker}
use Rattle.vt_cells.proofs.Sinks.{on_err}
use Rattle.vt_rows.proofs.RowTexts.{change_stopped, shown_stopped}
use Rattle.vt_packed.specs.Items.{first_cell}
use Rattle.vt_packed.proofs.basic.add_item.Goals as goal

pub returns-in_err-add-clause-stopped : goal.returns-in_err-add-clause-stopped
returns-in_err-add-clause-stopped g c =
    on_err c.from_residual.result
    (change_stopped g.S.Sink.refuses (g.S.Sink.text c.args.sink.now) c.args.buffer.now c.args.attrs.now
    c.item_attrs.result (first_cell c.args.item.now) (g.S.Sink.text c.add-2.new.sink)
    (c.if-keeps_attrs.ensures.no refl ∙ sym c.item_attrs.ensures) c.in_err-add.ensures.err)

pub returns-clause-stopped : goal.returns-clause-stopped
returns-clause-stopped g c =
    on_err_weaker c.add-3.result
    (shown_stopped g.S.Sink.refuses (g.S.Sink.text c.args.sink.now) (g.S.Sink.text c.add-2.new.sink) c.args.buffer.now
    c.add-2.new.buffer c.args.attrs.now c.item_attrs.result (first_cell c.args.item.now) c.shown-2.result.now
    (g.S.Sink.text c.add-3.new.sink) (c.if-keeps_attrs.ensures.no refl ∙ sym c.item_attrs.ensures) c.shown-2.ensures
    c.in_ok-add.ensures.text c.in_ok-add.ensures.grows)
    c.add-3.ensures.err
