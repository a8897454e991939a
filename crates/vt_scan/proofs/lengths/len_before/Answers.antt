use Rattle.std.proofs.Common.{arith}
use Rattle.vt_scan.specs.Internals.{is_in_range}
use Rattle.vt_scan.proofs.Lists.{ends_here, ends_inside, ends_run, run_more}
use Rattle.vt_scan.proofs.lengths.len_before.Goals as goal

pub returns-then-found-ne0-clause-inside : goal.returns-then-found-ne0-clause-inside
returns-then-found-ne0-clause-inside c =
    ends_inside (is_in_range c.args.low c.args.width) c.args.bytes.now c.loop-len.len _
    (omega arith) c.loop-len.invariant.1 c.lanes_in_range-found.ensures (omega arith)

pub returns-then-found-ne0-clause-outside : goal.returns-then-found-ne0-clause-outside
returns-then-found-ne0-clause-outside c =
    ends_run (is_in_range c.args.low c.args.width) c.args.bytes.now c.loop-len.len _
    (omega arith) c.loop-len.invariant.1 c.lanes_in_range-found.ensures (omega arith)

pub returns-then-found-ne0-clause-longest : goal.returns-then-found-ne0-clause-longest
returns-then-found-ne0-clause-longest c = λ _.
    ends_here (is_in_range c.args.low c.args.width) c.args.bytes.now c.loop-len.len _
    (omega arith) c.loop-len.invariant.1 c.lanes_in_range-found.ensures (omega arith)

pub loop-len-preserved : goal.loop-len-preserved
loop-len-preserved c = (
  omega arith,
  run_more (is_in_range c.args.low c.args.width) c.args.bytes.now c.loop-len.len
      (omega arith) c.loop-len.invariant.1 (omega (arith, c.lanes_in_range-found.ensures)),
)
