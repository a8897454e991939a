-- The loop invariant: some bytes remain to be read before the next update.
use Rattle.vt_mirror.specs.Internals.{InStretch}
use Rattle.vt_mirror.proofs.engine.read_stretch.Given as goal

abbrev pub invariant-loop : goal.invariant-loop
invariant-loop g l =
    InStretch l.fn.every l.left l.fn.mirror l.mirror (g.R.Read.remaining l.fn.reader) (g.R.Read.remaining l.reader)
