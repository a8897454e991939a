use Rattle.vt_terminals.proofs.DecLaws.{dec_laws}
use Rattle.vt_terminals.proofs.laws.dec_obeys.Goals as goal

pub returns : goal.returns
returns c = record { laws = dec_laws }
