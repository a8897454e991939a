use Rattle.std.proofs.Common.{◌+◌, ◌++◌, drop, refl, ap, sym, ◌∙◌, arith}
use Rattle.vt_cells.specs.Op.{bytes_of_all}
use Rattle.vt_redraw.specs.Script.{placed_op, erase_run, pen_in, blank_run}
use Rattle.vt_cells.specs.Cell.{is_right_half}
use Rattle.vt_redraw.proofs.CellSteps.{half_stands, half_erased}
use Rattle.std.proofs.Common.{[], ◌<◌, length, subst}
use Rattle.vt_cells.proofs.Sinks.{on_err}
use Rattle.vt_cells.specs.Attrs.{default_attrs, Attrs}
use Rattle.vt_redraw.specs.Script.{wrapped_after_erasure}
use Rattle.vt_redraw.proofs.WriterSteps.{grown, start_some}
use Rattle.vt_redraw.proofs.items.write_begin.Goals as goal

pub returns-then-is_wide_continuation-clause-leads : goal.returns-then-is_wide_continuation-clause-leads
returns-then-is_wide_continuation-clause-leads g c =
    let xs = c.args.cells.now.cells in
    let ys = c.args.over.now.cells in
    let col = c.args.pos.col in
    let least = c.min.ensures in
    let one = c.cols.ensures in
    let two = c.cols-2.ensures in
    let before = c.if-col-min.false in
    record {
      leads =
          half_stands c.args.pos.row col c.args.pen.now c.args.wrapped.now xs ys
          (g.S.Sink.text c.args.sink.now) (omega arith) c.requires.range.inside
          (ap is_right_half (sym c.cell.ensures)
          ∙ (sym c.is_wide_continuation.ensures ∙ c.if-not-is_wide_continuation.false))
          (ap is_right_half (sym c.cell-2.ensures)
          ∙ (sym c.is_wide_continuation-2.ensures ∙ c.if-is_wide_continuation.true));
      grows = omega arith;
    }

pub returns-clause-leads : goal.returns-clause-leads
returns-clause-leads g c =
    let xs = c.args.cells.now.cells in
    let ys = c.args.over.now.cells in
    let col = c.args.pos.col in
    let text = g.S.Sink.text in
    let least = c.min.ensures in
    let one = c.cols.ensures in
    let two = c.cols-2.ensures in
    let before = c.if-col-min.false in
    let n = c.run-count.result in
    record {
      leads =
          half_erased c.args.pos.row col n (n + 1) c.args.pen.now c.write_run.new.pen c.args.wrapped.now
          c.wrapped_after_erasure.result
          xs ys (text c.args.sink.now) (text c.write_run.new.sink) (omega arith) c.requires.range.inside
          (ap is_right_half (sym c.cell.ensures)
          ∙ (sym c.is_wide_continuation.ensures ∙ c.if-not-is_wide_continuation.false))
          (ap is_right_half (sym c.cell-2.ensures)
          ∙ (sym c.is_wide_continuation-2.ensures ∙ c.if-is_wide_continuation.false))
          (c.run-count.ensures.value ∙ ap (λ a. blank_run a (drop (col + 1) xs)) c.new-attrs.ensures) refl
          (c.in_ok-write_run.ensures.ops.text
          ∙ ap (λ a. text c.args.sink.now
          ++ bytes_of_all (placed_op c.args.pen.now c.args.pos.row col a (erase_run c.args.pen.now.form (n + 1) (drop (col + (n + 1)) ys))))
          c.new-attrs.ensures)
          (c.in_ok-write_run.ensures.pen ∙ ap (λ a. pen_in c.args.pen.now.form c.args.pos.row col a) c.new-attrs.ensures)
          c.wrapped_after_erasure.ensures;
      grows = grown _ _ _ c.in_ok-write_run.ensures.ops.text;
    }

pub returns-in_err-write_run-clause-nonempty : goal.returns-in_err-write_run-clause-nonempty
returns-in_err-write_run-clause-nonempty g c =
    let xs = c.args.cells.now.cells in
    let ys = c.args.over.now.cells in
    let row = c.args.pos.row in
    let col = c.args.pos.col in
    let least = c.min.ensures in
    let one = c.cols.ensures in
    let two = c.cols-2.ensures in
    let before = c.if-col-min.false in
    let n = c.run-count.result in
    let bytes = λ (a : Attrs).
    bytes_of_all (placed_op c.args.pen.now row col a (erase_run c.args.pen.now.form (n + 1) (drop (col + (n + 1)) ys))) in
    on_err c.from_residual.result
    (start_some (bytes default_attrs) _ _
    (half_erased row col n (n + 1) c.args.pen.now (pen_in c.args.pen.now.form row col default_attrs) c.args.wrapped.now
    (wrapped_after_erasure c.args.wrapped.now (drop (col + (n + 1)) ys)) xs ys [] (bytes default_attrs) (omega arith)
    c.requires.range.inside
    (ap is_right_half (sym c.cell.ensures) ∙ (sym c.is_wide_continuation.ensures ∙ c.if-not-is_wide_continuation.false))
    (ap is_right_half (sym c.cell-2.ensures) ∙ (sym c.is_wide_continuation-2.ensures ∙ c.if-is_wide_continuation.false))
    (c.run-count.ensures.value ∙ ap (λ a. blank_run a (drop (col + 1) xs)) c.new-attrs.ensures) refl refl refl refl)
    (subst (λ (a : Attrs). 0 < length (bytes a)) c.new-attrs.ensures c.in_err-write_run.ensures.ops.nonempty))
