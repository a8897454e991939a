use Rattle.vt_everywhere.proofs.Screens.{chain_everywhere}
use Rattle.vt_everywhere.proofs.laws.everywhere.Goals as goal

pub returns : goal.returns
returns c = record { shows = chain_everywhere }
