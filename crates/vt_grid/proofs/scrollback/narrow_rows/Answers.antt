use Rattle.std.proofs.Common.{◌<◌, length, arith}
use Rattle.vt_grid.proofs.Growing.{narrow_counted}
use Rattle.vt_grid.proofs.scrollback.narrow_rows.Goals as goal

pub loop-k-preserved : goal.loop-k-preserved
loop-k-preserved c =
    let inside : c.loop-k.k < length c.args.rows.now.items = omega (arith, c.args.rows.now.ok.0) in
    record {
      counted =
          narrow_counted c.args.size.cols c.args.first c.args.size.rows c.loop-k.k c.loop-k.count
          c.narrow-count.result _ c.args.rows.now.items c.index.result.now inside (omega arith) c.index.ensures
          (rw c.from-in-loop-k.ensures at c.narrow-count.ensures) c.loop-k.invariant.counted;
      small = let one = c.narrow-count.ensures in grind arith;
    }
