use Rattle.vt_mirror.proofs.Runs.{follows}
use Rattle.vt_mirror.proofs.laws.runs.Goals as goal

pub returns : goal.returns
returns g c = record { shows = follows }
