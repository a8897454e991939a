-- The loop invariant: `left` prints of the character are still to be done.
use Rattle.std.proofs.Common.{◌-◌, replicate}
use Rattle.vt_screen.specs.Steps.{Print}
use Rattle.vt100.proofs.Stepping.{Left}
use Rattle.vt100.proofs.repeating.repeat_other.Given as goal

abbrev pub invariant-loop : goal.invariant-loop
invariant-loop g l =
    Left g.CB.Callbacks.does l.fn.callbacks l.fn.screen (replicate l.fn.count (Print l.fn.character))
    l.callbacks l.screen (replicate (l.fn.count - l.counter) (Print l.fn.character))
