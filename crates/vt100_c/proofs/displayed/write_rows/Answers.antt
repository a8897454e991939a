-- The part of the caller's array that was filled has the cells of all rows.
use Rattle.std.proofs.Common.{◌∙◌, arith}
use Rattle.vt100_c.proofs.AllCells.{all_rows}
use Rattle.vt100_c.proofs.displayed.write_rows.Goals as goal

pub returns-clause-cells : goal.returns-clause-cells
returns-clause-cells c = λ _.
    all_rows c.args.screen.now c.from.result c.from-2.result c.args.out.now c.fill_rows.new.out
    (c.from.ensures ∙ (c.get.ensures.value ∙ c.size.ensures.rows))
    (c.from-2.ensures ∙ (c.get-2.ensures.value ∙ c.size.ensures.cols))
    (omega (arith, c.if-out-count.false)) c.fill_rows.auto.out c.fill_rows.ensures
