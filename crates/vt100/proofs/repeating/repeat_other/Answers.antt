-- The prints left after one more, or a stop at it.
use Rattle.std.proofs.Common.{rules}
use Rattle.vt100.proofs.Stepping.{prints_left, prints_stop}
use Rattle.vt100.proofs.repeating.repeat_other.Goals as goal

pub loop-preserved : goal.loop-preserved
loop-preserved g c =
    prints_left g.CB.Callbacks.does c.args.callbacks.now c.loop.callbacks
    c.text.new.callbacks c.args.screen.now c.loop.screen c.text.new.screen _
    c.args.character c.args.count c.loop.counter c.loop-test.true c.loop.invariant c.in_ok-text.ensures.done

pub returns-in_err-text : goal.returns-in_err-text
returns-in_err-text g c = record {
  done = search rules;
  stopped = λ e. prints_stop g.CB.Callbacks.does c.args.callbacks.now c.loop.callbacks
      c.text.new.callbacks c.args.screen.now c.loop.screen c.text.new.screen _
      c.args.character c.args.count c.loop.counter c.loop-test.true c.loop.invariant c.in_err-text.ensures.refused;
  memory = search rules;
}
