use Rattle.vt100.proofs.Quiet.{chain_pieces}
use Rattle.vt100.proofs.laws.chain.Goals as goal

pub returns : goal.returns
returns g c = record { shows = chain_pieces }
