use Rattle.std.proofs.Common.{IsUtf8, chars}
use Rattle.vt_redraw.proofs.SteadyTests.{IsPrintedTo}
use Rattle.vt_redraw.proofs.steadiness.prints_itself.Given as goal

abbrev pub invariant-loop-mark : goal.invariant-loop-mark
invariant-loop-mark l = IsUtf8 l.mark-iterator.rest.now
    × IsPrintedTo l.cols l.cell l.printed l.wide (chars l.mark-iterator.rest.now)
