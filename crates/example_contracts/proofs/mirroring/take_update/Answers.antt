use Rattle.std.proofs.lemmas.Result.{on_ok_weaker}
use Rattle.example_contracts.proofs.Viewing.{takes_full}
use Rattle.example_contracts.proofs.mirroring.take_update.Goals as goal

pub returns-in_ok-take_size-in-Full-clause-takes : goal.returns-in_ok-take_size-in-Full-clause-takes
returns-in_ok-take_size-in-Full-clause-takes g c =
    rw c.in-Full.is
    (on_ok_weaker c.read_text-in-Full.result
    (takes_full c.in-Full.rows c.in-Full.cols c.in-Full.text c.as_str-in-Full.result.now
    c.args.terminal.now c.take_size.new.terminal c.read_text-in-Full.new.terminal
    c.in_ok-take_size-in-Full.ensures.takes c.as_str-in-Full.ensures.value)
    c.read_text-in-Full.ensures.reads)
