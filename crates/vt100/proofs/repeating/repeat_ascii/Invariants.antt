-- The loop invariant: `left` prints of the character are still to be done.
use Rattle.std.proofs.Common.{replicate}
use Rattle.vt_screen.specs.Steps.{Print}
use Rattle.vt100.proofs.Stepping.{Left}
use Rattle.vt100.proofs.repeating.repeat_ascii.Given as goal

abbrev pub invariant-loop-left : goal.invariant-loop-left
invariant-loop-left g l =
    Left g.CB.Callbacks.does l.fn.callbacks l.fn.screen (replicate l.fn.count (Print l.fn.byte))
    l.callbacks l.screen (replicate l.left (Print l.fn.byte))

abbrev pub decreases-loop-left : goal.decreases-loop-left
decreases-loop-left g l = l.left
