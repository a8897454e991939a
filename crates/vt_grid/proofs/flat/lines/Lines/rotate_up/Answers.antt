use Rattle.std.proofs.Common.{◌∙◌, arith}
use Rattle.vt_grid.proofs.Bounds.{window-again}
use Rattle.vt_grid.proofs.flat.lines.Lines.rotate_up.Goals as goal

pub loop-step-preserved : goal.loop-step-preserved
loop-step-preserved c =
    let at = c.loop-step in
    let old = c.args.self.now.items in
    record {
      len = c.rotate_by_one.ensures.len ∙ at.invariant.len;
      lines =
          window-again at.step old at.self.items c.rotate_by_one.new.self.items
          (omega (arith, c.loop-step-test.true, c.requires)) at.invariant.len at.invariant.lines
          c.rotate_by_one.ensures.lines;
    }
