-- The loop invariant: the bytes that are no longer left to write were written.
use Rattle.vt_show.specs.Internals.{HasWrittenTo}
use Rattle.vt_show.proofs.engine.write_bytes.Given as goal

abbrev pub invariant-loop : goal.invariant-loop
invariant-loop g l = HasWrittenTo l.initial.rest l.rest (g.W.Write.contents l.fn.writer) (g.W.Write.contents l.writer)
