-- The cells of one more row are stored.
use Rattle.std.proofs.Common.{◌∙◌, ◌*◌, ℕ, ap, arith}
use Rattle.vt100_c.proofs.AllCells.{next_row}
use Rattle.vt100_c.proofs.displayed.fill_rows.Goals as goal

pub loop-row-preserved : goal.loop-row-preserved
loop-row-preserved c =
    let width = c.from-width.result in
    next_row c.args.screen.now c.loop-row.row (c.from.result * width) width c.loop-row.out c.fill_row.new.out
    (c.from-width.ensures ∙ (c.get.ensures.value ∙ c.size.ensures.cols))
    (ap (λ (row : ℕ). row * width) c.from.ensures)
    (omega (arith, c.loop-row-test.true, c.get-row-end.ensures.value, c.size.ensures.rows))
    (c.loop-row.auto.out ∙ c.requires) c.fill_row.ensures.len
    c.loop-row.invariant c.fill_row.ensures.cells
