use Rattle.std.proofs.Common.{arith, eqb-true, refl}
use Rattle.vt_cells.proofs.Cells.{head_of_short, one_more_short, short_of_head}
use Rattle.vt_cells.proofs.cell.short.are_short.Goals as goal

pub loop-cell-init : goal.loop-cell-init
loop-cell-init c = record { all = λ e k d lt. absurd (omega (arith, lt)); some = λ all. refl }

pub loop-cell-preserved : goal.loop-cell-preserved
loop-cell-preserved c =
    one_more_short c.args.cells.now c.loop-cell.cell-index c.loop-cell.bits c.long_bits-bits.result c.cell-item.result
    c.loop-cell-test.true c.cell-item.is c.loop-cell.invariant.all c.loop-cell.invariant.some
    (λ e. short_of_head _ _ _ c.cell.invariant c.cell.view_is (c.long_bits-bits.ensures.short e))
    (λ short. c.long_bits-bits.ensures.none (head_of_short _ _ _ c.cell.invariant c.cell.view_is short))

pub returns-clause-all : goal.returns-clause-all
returns-clause-all c holds =
    λ k d lt. c.loop-cell.invariant.all (eqb-true _ 0 holds) k d (omega arith)

pub returns-clause-complete : goal.returns-clause-complete
returns-clause-complete c all = rw (c.loop-cell.invariant.some all) refl
