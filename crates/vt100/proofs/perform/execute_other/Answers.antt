-- BEL, and unknown controls.
use Rattle.std.proofs.Common.{arith}
use Rattle.vt_screen.specs.Calls.{AudibleBell, UnhandledControl}
use Rattle.vt_screen.specs.Controls.{control_steps}
use Rattle.vt100.proofs.Stepping.{control_low, control_high, called}
use Rattle.vt100.proofs.perform.execute_other.Goals as goal
use Rattle.vt100.proofs.perform.execute_other.Goals.{in_default-via-then-byte-lt13}
use Rattle.vt100.proofs.perform.execute_other.Goals.{in_default-via-else-byte-lt13+else-byte-lt16}

pub returns-in-7 : goal.returns-in-7
unfolding control_steps
returns-in-7 g c = rw c.in-7.is (called g.CB.Callbacks.does AudibleBell _ _ _ _ c.audible_bell.ensures)

pub returns-in_default : goal.returns-in_default
returns-in_default g c =
    elim c.in_default.branch [
      | in_default-via-then-byte-lt13 w ↦
          rw (control_low c.args.byte (omega arith) (λ e. omega (arith, e))
          (λ e. omega (arith, e)) (λ e. omega (arith, e)) c.requires)
          (called g.CB.Callbacks.does (UnhandledControl c.args.byte) _ _ _ _ c.unhandled_control.ensures)
      | in_default-via-else-byte-lt13+else-byte-lt16 w ↦
          rw (control_high c.args.byte (omega arith))
          (called g.CB.Callbacks.does (UnhandledControl c.args.byte) _ _ _ _ c.unhandled_control.ensures)
    ]
