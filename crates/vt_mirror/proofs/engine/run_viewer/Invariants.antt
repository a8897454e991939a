-- The loop invariant: all updates that were due so far have been written.
use Rattle.vt_mirror.specs.Internals.{IsWritten}
use Rattle.vt_mirror.proofs.engine.run_viewer.Given as goal

abbrev pub invariant-loop : goal.invariant-loop
invariant-loop g l =
    IsWritten l.fn.every l.fn.viewer l.fn.mirror l.mirror (g.R.Read.remaining l.fn.reader) (g.R.Read.remaining l.reader)
    (g.W.Write.contents l.fn.writer) (g.W.Write.contents l.writer)
