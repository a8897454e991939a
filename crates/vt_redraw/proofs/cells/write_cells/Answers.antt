use Rattle.std.proofs.Common.{◌≡◌, ◌++◌, ◌∙◌, ap, sym, append-nil, arith}
use Rattle.vt_cells.specs.Op.{bytes_of_all}
use Rattle.vt_redraw.specs.Internals.{cells_from}
use Rattle.vt_redraw.specs.Script.{Scripted, no_ops}
use Rattle.vt_redraw.proofs.CellSteps.{cells_end}
use Rattle.vt_redraw.proofs.cells.write_cells.Goals as goal

pub returns-then-first-cols-clause-writes : goal.returns-then-first-cols-clause-writes
returns-then-first-cols-clause-writes g c =
    let row = c.args.pos.row in
    let first = c.next_other-first.result in
    let pen = c.args.pen.now in
    let wrapped = c.args.wrapped.now in
    let xs = c.args.cells.now.cells in
    let ys = c.args.over.now.cells in
    let text = g.S.Sink.text c.args.sink.now in
    let size = c.cols.ensures in
    let past = c.if-first-cols.true in
    let none : cells_from row c.args.pos.col pen wrapped xs ys ≡ no_ops pen wrapped =
    c.next_other-first.ensures.passed.same row pen wrapped
    ∙ cells_end row first pen wrapped xs ys (omega (arith, size, past)) in
    record {
      bytes = sym (append-nil text) ∙ ap (λ (w : Scripted). text ++ bytes_of_all w.ops) (sym none);
      stands = ap (λ (w : Scripted). w.pen) (sym none);
      is_wrapped = ap (λ (w : Scripted). w.wrapped) (sym none);
    }
