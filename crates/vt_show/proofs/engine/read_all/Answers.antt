use Rattle.std.proofs.Common.{take, sym, ◌∙◌}
use Rattle.vt100.specs.Parser.{Ran, does_nothing}
use Rattle.vt_show.proofs.Chunks.{ok_ran, read_on}
use Rattle.vt_show.proofs.engine.read_all.Goals as goal

pub loop-preserved : goal.loop-preserved
loop-preserved g c =
    read_on (g.R.Read.remaining c.args.reader.now) (g.R.Read.remaining c.loop.reader)
    (g.R.Read.remaining c.read.new.self) (take c.in-Ok.count c.read.new.buf)
    c.args.parser.now c.loop.parser c.process.new.self c.loop.invariant c.in-Ok.ensures.bytes.0
    (ok_ran c.process.result (Ran does_nothing c.loop.parser (take c.in-Ok.count c.read.new.buf) c.process.new.self)
    (sym c.is_err.ensures.value ∙ c.if-is_err.false) c.process.ensures.call.ran)
