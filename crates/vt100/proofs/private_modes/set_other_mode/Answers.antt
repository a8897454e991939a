-- The mouse modes and encodings, each set or reset by one step.
use Rattle.vt_screen.specs.Controls.{mode_step}
use Rattle.vt100.proofs.Stepping.{mode_set}
use Rattle.vt100.proofs.private_modes.set_other_mode.Goals as goal

pub returns-in-1000 : goal.returns-in-1000
unfolding mode_step
returns-in-1000 g c =
    rw c.in-1000.is (mode_set g.CB.Callbacks.does _ _ _ _ _ c.mouse_step-in-1000.ensures c.set_mode-in-1000.ensures)

pub returns-in-1002 : goal.returns-in-1002
unfolding mode_step
returns-in-1002 g c =
    rw c.in-1002.is (mode_set g.CB.Callbacks.does _ _ _ _ _ c.mouse_step-in-1002.ensures c.set_mode-in-1002.ensures)

pub returns-in-1003 : goal.returns-in-1003
unfolding mode_step
returns-in-1003 g c =
    rw c.in-1003.is (mode_set g.CB.Callbacks.does _ _ _ _ _ c.mouse_step-in-1003.ensures c.set_mode-in-1003.ensures)

pub returns-in-1005 : goal.returns-in-1005
unfolding mode_step
returns-in-1005 g c =
    rw c.in-1005.is (mode_set g.CB.Callbacks.does _ _ _ _ _ c.encoding_step.ensures c.set_mode-in-1005.ensures)

pub returns-in-1006 : goal.returns-in-1006
unfolding mode_step
returns-in-1006 g c =
    rw c.in-1006.is (mode_set g.CB.Callbacks.does _ _ _ _ _ c.encoding_step-in-1006.ensures c.set_mode-in-1006.ensures)
