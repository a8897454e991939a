use Rattle.vt100.proofs.Quiet.{made_read, ran_read, quietly_harmless}
use Rattle.vt100.proofs.laws.quiet_runs.Goals as goal

pub returns : goal.returns
returns g c =
    let does = g.CB.Callbacks.does in
    record { ran = ran_read does; made = made_read does; harmless = quietly_harmless does }
