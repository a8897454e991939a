-- The prints left after some more of them.
use Rattle.std.proofs.Common.{replicate}
use Rattle.vt_screen.specs.Steps.{Print}
use Rattle.vt100.proofs.PrintedRuns.{more_left}
use Rattle.vt100.proofs.repeating.repeat_ascii.Goals as goal

pub loop-left-preserved : goal.loop-left-preserved
loop-left-preserved g c =
    more_left g.CB.Callbacks.does c.args.callbacks.now c.loop-left.callbacks c.repeat_some.new.callbacks
    c.args.screen.now c.loop-left.screen c.repeat_some.new.screen
    (replicate c.args.count (Print c.args.byte)) c.args.byte c.loop-left.left c.in_ok-printed.printed
    c.in_ok-printed.ensures.most c.loop-left.invariant c.in_ok-printed.ensures.done
