use Rattle.std.proofs.Common.{◌∙◌, arith, sym}
use Rattle.vt_cells.proofs.Packing.{head_of-same}
use Rattle.vt_redraw.proofs.Writing.{blank_by_head, blank_more}
use Rattle.vt_redraw.proofs.picture_row.blank_run.Goals as goal

pub loop-count-preserved : goal.loop-count-preserved
loop-count-preserved c =
    let l = c.loop-count in
    let cells = c.args.cells.now in
    let end = c.args.end.now in
    let x = c.index-cells-count.result in
    let below = c.loop-count-test.true in (
      omega (arith, below),
      λ k d less. blank_more cells end x d l.count k l.invariant.1 c.index-cells-count.is (omega (arith, below))
          (blank_by_head x end c.has_head_of.ensures.sound c.requires
          (head_of-same _ _ (sym c.has_head_of.ensures.value ∙ c.if-has_head_of.true))) less,
    )
