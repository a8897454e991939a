use Rattle.std.proofs.Common.{take, sym, arith, ◌∙◌}
use Rattle.vt_mirror.proofs.Updating.{processed, stretch_more, stretch_refused, stretch_whole}
use Rattle.vt_mirror.proofs.engine.read_stretch.Goals as goal

pub returns-then-is_err-clause-memory : goal.returns-then-is_err-clause-memory
returns-then-is_err-clause-memory g c = λ _.
    stretch_refused c.args.every c.loop.left (take c.in-Ok.count c.read.new.buf) c.args.mirror.now c.loop.mirror
    (g.R.Read.remaining c.args.reader.now) (g.R.Read.remaining c.loop.reader) (g.R.Read.remaining c.read.new.self)
    (omega (arith, c.in-Ok.ensures.bound.0, c.in-Ok.ensures.bound.1, c.read.auto.buf, c.min-size.ensures))
    c.loop.invariant c.in-Ok.ensures.bytes.0

pub returns-then-left-eq0-clause-stretch : goal.returns-then-left-eq0-clause-stretch
returns-then-left-eq0-clause-stretch g c =
    stretch_whole c.args.every c.loop.left (take c.in-Ok.count c.read.new.buf) c.args.mirror.now c.loop.mirror
    c.process.new.self (g.R.Read.remaining c.args.reader.now) (g.R.Read.remaining c.loop.reader)
    (g.R.Read.remaining c.read.new.self)
    (omega (
      arith,
      c.in-Ok.ensures.bound.0,
      c.in-Ok.ensures.bound.1,
      c.read.auto.buf,
      c.min-size.ensures,
      c.saturating_sub-left.ensures,
      c.if-left-eq0.true,
    ))
    c.loop.invariant
    (processed c.in-Ok.count c.read.new.buf _ c.loop.mirror c.process.new.self c.process.result
    (g.R.Read.remaining c.loop.reader) (g.R.Read.remaining c.read.new.self)
    (sym c.is_err.ensures.value ∙ c.if-is_err.false) c.in-Ok.ensures.bound.0 c.process.ensures.call
    c.in-Ok.ensures.bytes.0)

pub loop-preserved : goal.loop-preserved
loop-preserved g c =
    stretch_more c.args.every c.loop.left c.saturating_sub-left.result (take c.in-Ok.count c.read.new.buf)
    c.args.mirror.now c.loop.mirror c.process.new.self
    (g.R.Read.remaining c.args.reader.now) (g.R.Read.remaining c.loop.reader) (g.R.Read.remaining c.read.new.self)
    (omega (
      arith,
      c.in-Ok.ensures.bound.0,
      c.in-Ok.ensures.bound.1,
      c.read.auto.buf,
      c.min-size.ensures,
      c.saturating_sub-left.ensures,
      c.loop.invariant.nonempty,
    ))
    (omega (arith, c.if-left-eq0.false))
    c.loop.invariant
    (processed c.in-Ok.count c.read.new.buf _ c.loop.mirror c.process.new.self c.process.result
    (g.R.Read.remaining c.loop.reader) (g.R.Read.remaining c.read.new.self)
    (sym c.is_err.ensures.value ∙ c.if-is_err.false) c.in-Ok.ensures.bound.0 c.process.ensures.call
    c.in-Ok.ensures.bytes.0)
