use Rattle.std.proofs.Common.{◌≡◌, ◌++◌, ◌∙◌, ap, sym, subst, List, arith}
use Rattle.std.proofs.lemmas.Result.{on_ok_weaker}
use Rattle.vt_cells.specs.Cell.{CellValue}
use Rattle.vt_cells.specs.Op.{bytes_of_all}
use Rattle.vt_cells.specs.Attrs.{Attrs}
use Rattle.vt_grid.specs.Page.{row_or}
use Rattle.vt_rows.specs.Row.{RowValue}
use Rattle.vt_redraw.specs.Items.{item_of_difference, range_written}
use Rattle.vt_redraw.specs.Internals.{IsRange}
use Rattle.vt_redraw.specs.Script.{pen_at}
use Rattle.vt_redraw.proofs.WriterSteps.{range_taken, range_wrote, part_item, whole_item, range_some, text_after_some}
use Rattle.std.proofs.Common.{◌<◌, length, refl}
use Rattle.std.proofs.lemmas.Result.{on_err_weaker}
use Rattle.vt_cells.proofs.Sinks.{on_err}
use Rattle.vt_redraw.specs.Internals.{mark_of, range_over}
use Rattle.vt_redraw.specs.Script.{row_break}
use Rattle.vt_redraw.proofs.items.write_row_diff.Goals as goal

pub write_range-requires : goal.write_range-requires
write_range-requires g c =
    let one = c.row-cells.ensures.sound.columns in
    let two = c.row-over.ensures.sound.columns in
    let same = c.requires.size.width in
    record {
      range =
          subst (λ (z : List CellValue). IsRange z c.row-over.result.cells) (sym c.up_to.ensures.cells)
          (range_taken c.row-cells.result.cells c.row-over.result.cells
          c.args.stop (omega arith) c.row-cells.ensures.sound.paired);
    }

pub returns-then-not-is_whole-clause-text : goal.returns-then-not-is_whole-clause-text
returns-then-not-is_whole-clause-text g c =
    let text = g.S.Sink.text in
    let x = c.row-cells.result in
    let y = c.row-over.result in
    let r = c.args.row in
    let start = c.args.start in
    let stop = c.args.stop in
    let pen = pen_at r start c.new.result in
    let wrapped = c.wrapped-wrapped.result in
    let cut = c.up_to.result.cells in
    let w = range_over (record { row = r; col = start }) pen wrapped c.up_to.result y in
    let e : w ≡ range_written r start stop y.wrapped x.cells y.cells =
    range_wrote r start stop pen wrapped cut x.cells y.cells c.requires.order
    c.up_to.ensures.cells (ap (λ (a : Attrs). pen_at r start a) c.new.ensures)
    ∙ ap (λ b. range_written r start stop b x.cells y.cells) c.wrapped-wrapped.ensures in
    part_item r start stop x y w (text c.args.sink.now) (text c.write_range.new.sink)
    (sym c.is_whole.ensures ∙ c.if-not-is_whole.true) e c.in_ok-write_range.ensures.writes.bytes
    ∙ (ap (λ (z : RowValue). text c.args.sink.now ++ bytes_of_all (item_of_difference r start stop z y).ops)
    c.row-cells.ensures.value
    ∙ ap (λ (z : RowValue). text c.args.sink.now
    ++ bytes_of_all (item_of_difference r start stop (row_or c.args.view.now.width c.args.view.now.rows r) z).ops)
    (c.row-over.ensures.value ∙ ap (λ n. row_or n c.args.prev.now.rows r) (sym c.requires.size.width)))

pub returns-clause-text : goal.returns-clause-text
returns-clause-text g c =
    let text = g.S.Sink.text in
    let x = c.row-cells.result in
    let y = c.row-over.result in
    let r = c.args.row in
    let start = c.args.start in
    let stop = c.args.stop in
    let pen = pen_at r start c.new.result in
    let wrapped = c.wrapped-wrapped.result in
    let cut = c.up_to.result.cells in
    let w = range_over (record { row = r; col = start }) pen wrapped c.up_to.result y in
    let e : w ≡ range_written r start stop y.wrapped x.cells y.cells =
    range_wrote r start stop pen wrapped cut x.cells y.cells c.requires.order
    c.up_to.ensures.cells (ap (λ (a : Attrs). pen_at r start a) c.new.ensures)
    ∙ ap (λ b. range_written r start stop b x.cells y.cells) c.wrapped-wrapped.ensures in
    on_ok_weaker c.write_end.result
    (λ more. whole_item r start stop x y w c.write_range.new.pen c.write_range.new.wrapped (text c.args.sink.now)
    (text c.write_range.new.sink) (text c.write_end.new.sink) (sym c.is_whole.ensures ∙ c.if-not-is_whole.false) e
    c.in_ok-write_range.ensures.writes.bytes
    c.in_ok-write_range.ensures.writes.stands c.in_ok-write_range.ensures.writes.is_wrapped more
    ∙ (ap (λ (z : RowValue). text c.args.sink.now ++ bytes_of_all (item_of_difference r start stop z y).ops)
    c.row-cells.ensures.value
    ∙ ap (λ (z : RowValue). text c.args.sink.now
    ++ bytes_of_all (item_of_difference r start stop (row_or c.args.view.now.width c.args.view.now.rows r) z).ops)
    (c.row-over.ensures.value ∙ ap (λ n. row_or n c.args.prev.now.rows r) (sym c.requires.size.width))))
    c.write_end.ensures.text

pub returns-in_err-write_range-clause-nonempty : goal.returns-in_err-write_range-clause-nonempty
returns-in_err-write_range-clause-nonempty g c =
    let x = c.row-cells.result in
    let y = c.row-over.result in
    let r = c.args.row in
    let start = c.args.start in
    let stop = c.args.stop in
    let cut = c.up_to.result.cells in
    on_err c.from_residual.result
    (subst (λ (z : RowValue). 0
    < length (bytes_of_all
    (item_of_difference r start stop (row_or c.args.view.now.width c.args.view.now.rows r) z).ops))
    (c.row-over.ensures.value ∙ ap (λ n. row_or n c.args.prev.now.rows r) (sym c.requires.size.width))
    (subst (λ (z : RowValue). 0 < length (bytes_of_all (item_of_difference r start stop z y).ops))
    c.row-cells.ensures.value
    (range_some r start stop x y _
    (range_wrote r start stop (pen_at r start c.new.result) c.wrapped-wrapped.result cut x.cells y.cells
    c.requires.order c.up_to.ensures.cells (ap (λ (a : Attrs). pen_at r start a) c.new.ensures)
    ∙ ap (λ b. range_written r start stop b x.cells y.cells) c.wrapped-wrapped.ensures)
    c.in_err-write_range.ensures.nonempty)))

pub returns-clause-nonempty : goal.returns-clause-nonempty
returns-clause-nonempty g c =
    let text = g.S.Sink.text in
    let x = c.row-cells.result in
    let y = c.row-over.result in
    let r = c.args.row in
    let start = c.args.start in
    let stop = c.args.stop in
    let pen = pen_at r start c.new.result in
    let wrapped = c.wrapped-wrapped.result in
    let cut = c.up_to.result.cells in
    let mid = text c.write_range.new.sink in
    let broke = row_break r c.write_range.new.pen c.write_range.new.wrapped x.wrapped x.cells in
    let more = bytes_of_all (broke.ops ++ mark_of r broke.pen broke.wrapped x.wrapped x.cells) in
    let w = range_over (record { row = r; col = start }) pen wrapped c.up_to.result y in
    let e : w ≡ range_written r start stop y.wrapped x.cells y.cells =
    range_wrote r start stop pen wrapped cut x.cells y.cells c.requires.order
    c.up_to.ensures.cells (ap (λ (a : Attrs). pen_at r start a) c.new.ensures)
    ∙ ap (λ b. range_written r start stop b x.cells y.cells) c.wrapped-wrapped.ensures in
    on_err_weaker c.write_end.result
    (λ some. subst (λ (z : RowValue). 0
    < length (bytes_of_all
    (item_of_difference r start stop (row_or c.args.view.now.width c.args.view.now.rows r) z).ops))
    (c.row-over.ensures.value ∙ ap (λ n. row_or n c.args.prev.now.rows r) (sym c.requires.size.width))
    (subst (λ (z : RowValue). 0 < length (bytes_of_all (item_of_difference r start stop z y).ops))
    c.row-cells.ensures.value
    (text_after_some (text c.args.sink.now) (bytes_of_all w.ops) mid more _ c.in_ok-write_range.ensures.writes.bytes
    (whole_item r start stop x y w c.write_range.new.pen c.write_range.new.wrapped (text c.args.sink.now) mid
    (mid ++ more) (sym c.is_whole.ensures ∙ c.if-not-is_whole.false) e c.in_ok-write_range.ensures.writes.bytes
    c.in_ok-write_range.ensures.writes.stands c.in_ok-write_range.ensures.writes.is_wrapped refl) some)))
    c.write_end.ensures.nonempty
