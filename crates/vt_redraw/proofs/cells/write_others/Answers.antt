use Rattle.std.proofs.Common.{◌∙◌, ◌+◌, rules, sym, ap, arith}
use Rattle.vt_cells.specs.Internals.{buffered_text}
use Rattle.vt_redraw.specs.Internals.{cells_from}
use Rattle.vt_redraw.proofs.CellSteps.{leads_then, leads_text, passes_cell, passes_leads, passes_then, cells_end}
use Rattle.std.proofs.Common.{refl}
use Rattle.vt_cells.proofs.Sinks.{on_err}
use Rattle.vt_redraw.proofs.WriterSteps.{leads_some, some_first}
use Rattle.vt_redraw.proofs.cells.write_others.Goals as goal

pub loop-col-preserved-then-stands_at : goal.loop-col-preserved-then-stands_at
loop-col-preserved-then-stands_at g c =
    let l = c.loop-col in
    let text = g.S.Sink.text in
    let xs = c.args.cells.now.cells in
    let ys = c.args.over.now.cells in
    let row = c.args.pos.row in
    let now = buffered_text (text l.sink) l.buffer in
    let next = c.next_other-col.result in (
      leads_then (text c.args.sink.now) now now (cells_from row c.args.pos.col c.args.pen.now c.args.wrapped.now xs ys)
          (cells_from row l.col l.pen l.wrapped xs ys) (cells_from row next l.pen l.wrapped xs ys)
          l.invariant.0 (passes_leads l.col next row l.pen l.wrapped xs ys now
          (passes_then l.col (l.col + 1) next xs ys
          (passes_cell l.col xs ys (search rules) c.requires.range (search rules)) c.next_other-col.ensures.passed)),
      l.invariant.1,
    )

pub returns-clause-writes : goal.returns-clause-writes
returns-clause-writes g c =
    let l = c.loop-col in
    let text = g.S.Sink.text in
    let row = c.args.pos.row in
    let xs = c.args.cells.now.cells in
    let ys = c.args.over.now.cells in
    let size = c.cols.ensures in
    let over = c.cols-2.ensures in
    let less = c.min-cols.ensures in
    let inside = c.requires.range.inside in
    let past = c.loop-col-test.false in
    let none = cells_end row l.col l.pen l.wrapped xs ys (omega arith) in
    record {
      bytes =
          c.in_ok-flush.ensures.text
          ∙ leads_text (buffered_text (text l.sink) l.buffer) (text c.args.sink.now)
          (cells_from row l.col l.pen l.wrapped xs ys)
          (cells_from row c.args.pos.col c.args.pen.now c.args.wrapped.now xs ys) l.pen l.wrapped none l.invariant.0;
      stands = ap (λ w. w.pen) (sym none) ∙ l.invariant.0.pen;
      is_wrapped = ap (λ w. w.wrapped) (sym none) ∙ l.invariant.0.wrapped;
    }

pub returns-in_err-col-clause-nonempty : goal.returns-in_err-col-clause-nonempty
returns-in_err-col-clause-nonempty g c =
    let l = c.loop-col in
    let text = g.S.Sink.text in
    on_err c.from_residual.result
    (leads_some (text c.args.sink.now) (text l.sink) l.buffer _ _ l.invariant.0 l.invariant.1
    c.in_err-col.ensures.refused)

pub returns-in_err-flush-clause-nonempty : goal.returns-in_err-flush-clause-nonempty
returns-in_err-flush-clause-nonempty g c =
    let l = c.loop-col in
    let text = g.S.Sink.text in
    on_err c.from_residual-in_err-flush.result
    (leads_some (text c.args.sink.now) (text l.sink) l.buffer _ _ l.invariant.0 l.invariant.1
    (some_first l.buffer _ (c.in_err-flush.ensures.nonempty refl)))
