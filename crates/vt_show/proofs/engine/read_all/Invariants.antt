-- The loop invariant: all bytes read so far were parsed.
use Rattle.vt_show.specs.Internals.{HasReadBytes}
use Rattle.vt_show.proofs.engine.read_all.Given as goal

abbrev pub invariant-loop : goal.invariant-loop
invariant-loop g l = HasReadBytes (g.R.Read.remaining l.fn.reader) (g.R.Read.remaining l.reader) l.fn.parser l.parser
