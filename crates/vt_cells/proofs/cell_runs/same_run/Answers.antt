use Rattle.std.proofs.Common.{arith, refl}
use Rattle.vt_cells.proofs.Cells.{four_more}
use Rattle.vt_cells.proofs.cell_runs.same_run.Goals as goal

pub loop-count-preserved : goal.loop-count-preserved
loop-count-preserved c = record {
  inside = omega arith;
  same = four_more c.args.own.now c.args.others.now c.loop-count.count (c.if-four_same.ensures refl)
      c.loop-count.invariant.same;
}
