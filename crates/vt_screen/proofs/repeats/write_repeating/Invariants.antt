use Rattle.std.proofs.Common.{IsUtf8, length}
use Rattle.vt_screen.proofs.RepeatRead.{Written}
use Rattle.vt_screen.proofs.repeats.write_repeating.Given as goal

abbrev pub invariant-loop-run : goal.invariant-loop-run
invariant-loop-run g l = record {
  utf8 : IsUtf8 l.rest;
  written : Written l.repeat l.cols l.room l.left l.text l.rest (g.S.Sink.text l.initial.sink)
      (g.S.Sink.text l.sink);
}

abbrev pub decreases-loop-run : goal.decreases-loop-run
decreases-loop-run g l = length l.rest
