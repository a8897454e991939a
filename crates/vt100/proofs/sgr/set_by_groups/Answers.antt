-- The steps left after one more group of settings.
use Rattle.std.proofs.Common.{◌∙◌, ap, arith}
use Rattle.vt_screen.specs.Sgr.{group_read}
use Rattle.vt100.proofs.Stepping.{settings_left}
use Rattle.vt100.proofs.sgr.set_by_groups.Goals as goal

pub loop-i-preserved : goal.loop-i-preserved
loop-i-preserved g c =
    settings_left g.CB.Callbacks.does c.args.callbacks.now c.loop-i.callbacks c.apply.new.callbacks
    c.args.screen.now c.loop-i.screen c.apply.new.screen _
    c.args.parameters.now.groups c.loop-i.wanted
    c.args.parameters.now.groups c.loop-i.i c.read-read.result
    (omega arith) (c.read-read.ensures ∙ ap (group_read c.loop-i.wanted) c.group.ensures) c.loop-i.invariant c.apply.ensures
