use Rattle.vt100.proofs.PlainParsers.{diffs_read}
use Rattle.vt100.proofs.laws.diffs.Goals as goal

pub returns : goal.returns
returns g c = record { shows = diffs_read }
