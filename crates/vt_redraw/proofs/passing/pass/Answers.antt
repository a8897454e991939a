use Rattle.std.proofs.Common.{◌∙◌, ◌+◌, sym, arith}
use Rattle.vt_redraw.proofs.CellSteps.{passes_cell, passes_then}
use Rattle.vt_redraw.proofs.passing.pass.Goals as goal

pub loop-next-preserved : goal.loop-next-preserved
loop-next-preserved c =
    let l = c.loop-next in
    let xs = c.args.cells.now.cells in
    let ys = c.args.over.now.cells in
    let inside = c.requires.inside in
    let before = c.loop-next-test.true in
    let order = l.invariant.1 in (
      passes_then c.args.col l.next (l.next + 1) xs ys l.invariant.0
          (passes_cell l.next xs ys (omega arith) c.requires.range (sym c.stands.ensures ∙ c.if-stands.true)),
      omega arith,
    )
