-- The loop invariant: the steps of the groups from the current one on are left to take.
use Rattle.std.proofs.Common.{drop}
use Rattle.vt_screen.specs.Controls.{sgr_from, sgr_steps}
use Rattle.vt100.proofs.Stepping.{Rest}
use Rattle.vt100.proofs.sgr.set_by_numbers.Given as goal

abbrev pub invariant-loop-i : goal.invariant-loop-i
invariant-loop-i g l =
    Rest g.CB.Callbacks.does l.fn.callbacks l.fn.screen (sgr_steps l.fn.parameters.groups)
    l.callbacks l.screen (sgr_from l.fn.parameters.groups
    l.wanted (drop l.i l.fn.parameters.groups))
