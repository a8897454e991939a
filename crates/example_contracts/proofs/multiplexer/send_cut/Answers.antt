use Rattle.std.proofs.Common.{rules}
use Rattle.example_contracts.proofs.Sending.{as_one, cut_all, cut_more}
use Rattle.example_contracts.proofs.multiplexer.send_cut.Goals as goal

pub loop-size-preserved : goal.loop-size-preserved
loop-size-preserved g c =
    cut_more c.args.text.now c.loop-size.rest.now c.min-count.result c.process.result
    c.args.remote.now c.loop-size.remote c.process.new.self
    c.loop-size.invariant c.process.ensures.call.quiet (search rules)

pub returns-clause-reads : goal.returns-clause-reads
returns-clause-reads g c =
    as_one c.quiet_pieces.ensures c.args.text.now c.args.remote.now c.process-2.new.self
    (cut_all c.args.text.now c.loop-size.rest.now c.process-2.result c.args.remote.now c.loop-size.remote
    c.process-2.new.self c.loop-size.invariant c.process-2.ensures.call.quiet (search rules))
