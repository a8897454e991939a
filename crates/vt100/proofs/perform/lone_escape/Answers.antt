-- The visual bell.
use Rattle.vt_screen.specs.Calls.{VisualBell}
use Rattle.vt_screen.specs.Controls.{escape_steps}
use Rattle.vt100.proofs.Stepping.{called}
use Rattle.vt100.proofs.perform.lone_escape.Goals as goal

pub returns-in-103 : goal.returns-in-103
unfolding escape_steps
returns-in-103 g c = rw c.in-103.is (called g.CB.Callbacks.does VisualBell _ _ _ _ c.visual_bell.ensures)
