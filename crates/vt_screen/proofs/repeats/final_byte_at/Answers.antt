use Rattle.std.proofs.Common.{arith}
use Rattle.vt_screen.proofs.RepeatTokens.{parameter_more}
use Rattle.vt_screen.proofs.repeats.final_byte_at.Goals as goal

pub loop-last-preserved : goal.loop-last-preserved
loop-last-preserved c =
    let is = c.loop-last.invariant in
    let past = is.past in
    let inside = c.loop-last-test.true in record {
      past = omega (arith, past);
      inside = omega (arith, inside);
      parameters = parameter_more c.loop-last.last c.args.bytes.now past inside
          (c.if-bytes-last-ge48.true) (c.if-bytes-last-le59.true) is.parameters;
    }
