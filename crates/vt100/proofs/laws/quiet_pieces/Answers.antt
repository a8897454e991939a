use Rattle.vt100.proofs.Quiet.{read_pieces}
use Rattle.vt100.proofs.laws.quiet_pieces.Goals as goal

pub returns : goal.returns
returns g c = read_pieces
