-- The loop invariant: the steps of the groups from the current one on are left to take.
use Rattle.std.proofs.Common.{drop}
use Rattle.vt_screen.specs.Controls.{mode_steps}
use Rattle.vt100.specs.Internals.{report_of}
use Rattle.vt100.proofs.Stepping.{Left}
use Rattle.vt100.proofs.private_modes.perform.Given as goal

abbrev pub invariant-loop-i : goal.invariant-loop-i
invariant-loop-i g l =
    Left g.CB.Callbacks.does l.fn.callbacks l.fn.screen
    (mode_steps l.fn.on (report_of l.fn.sequence) l.fn.sequence.parameters.now.groups)
    l.callbacks l.screen (mode_steps l.fn.on (report_of l.fn.sequence)
    (drop l.i l.fn.sequence.parameters.now.groups))
