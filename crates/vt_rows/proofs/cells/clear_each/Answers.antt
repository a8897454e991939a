use Rattle.std.proofs.Common.{◌<◌, arith, length}
use Rattle.vt_rows.proofs.Edits.{blanks_is}
use Rattle.vt_rows.proofs.cells.clear_each.Goals as goal

pub returns : goal.returns
returns c =
    let l = c.loop-cell.auto.cells in
    blanks_is c.args.attrs (length c.args.cells.now) c.loop-cell.cells (omega arith)
    (λ k h. let lt : k < c.loop-cell.cell-index = omega arith in c.loop-cell.invariant k lt)
