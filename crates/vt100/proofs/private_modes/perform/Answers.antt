-- The steps left after one more group of private modes, or a stop within it.
use Rattle.std.proofs.Common.{arith, refl, rules}
use Rattle.vt100.specs.Internals.{report_of}
use Rattle.vt100.proofs.Stepping.{modes_left, modes_stop}
use Rattle.vt100.proofs.private_modes.perform.Goals as goal

pub loop-i-preserved : goal.loop-i-preserved
loop-i-preserved g c =
    modes_left g.CB.Callbacks.does c.args.callbacks.now c.loop-i.callbacks c.perform_group.new.callbacks
    c.args.screen.now c.loop-i.screen c.perform_group.new.screen _ c.args.on (report_of c.args.sequence)
    c.args.sequence.parameters.now.groups c.loop-i.i c.group.result.now
    (omega arith) c.group.ensures c.loop-i.invariant c.in_ok-perform_group.ensures.done

pub returns-in_err-perform_group : goal.returns-in_err-perform_group
returns-in_err-perform_group g c = record {
  done = search rules;
  stopped = λ e. modes_stop g.CB.Callbacks.does c.args.callbacks.now c.loop-i.callbacks c.perform_group.new.callbacks
      c.args.screen.now c.loop-i.screen c.perform_group.new.screen _ c.args.on (report_of c.args.sequence)
      c.args.sequence.parameters.now.groups c.loop-i.i c.group.result.now (omega arith) c.group.ensures
      c.loop-i.invariant (c.in_err-perform_group.ensures.stopped refl);
  memory = search rules;
}
