use Rattle.std.proofs.Common.{arith}
use Rattle.vt_scan.specs.Internals.{IsUnended}
use Rattle.vt_scan.proofs.Lists.{AllByRecursion-run, unended_more, unended_next}
use Rattle.vt_scan.proofs.lengths.unended_len.Goals as goal

pub loop-len-preserved : goal.loop-len-preserved
loop-len-preserved c =
    let bytes = c.args.bytes.now in
    let inside = c.len_before-more.ensures.inside in record {
      inside = omega (arith, inside);
      unended = unended_more bytes c.loop-len.len c.len_before-more.result (λ k. (c.type_inv.bytes k).fits)
          c.if-bytes-len-eq25.true c.loop-len.invariant.unended c.len_before-more.ensures.outside;
      next = unended_next bytes c.loop-len.len c.len_before-more.result c.len_before-more.ensures.longest;
    }

pub returns-else-bytes-len-eq25-clause-unended : goal.returns-else-bytes-len-eq25-clause-unended
returns-else-bytes-len-eq25-clause-unended c =
    AllByRecursion-run IsUnended c.args.bytes.now c.loop-len.len c.loop-len.invariant.unended c.loop-len.invariant.inside

pub returns-after-loop-len-clause-unended : goal.returns-after-loop-len-clause-unended
returns-after-loop-len-clause-unended c =
    AllByRecursion-run IsUnended c.args.bytes.now c.loop-len.len c.loop-len.invariant.unended c.loop-len.invariant.inside
