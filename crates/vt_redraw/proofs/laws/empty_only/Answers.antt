use Rattle.vt_redraw.proofs.Redrawing.{empty_only}
use Rattle.vt_redraw.proofs.laws.empty_only.Goals as goal

pub returns : goal.returns
returns c = empty_only
