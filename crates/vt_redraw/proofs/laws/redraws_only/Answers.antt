use Rattle.vt_redraw.proofs.Redrawing.{redraws_only}
use Rattle.vt_redraw.proofs.laws.redraws_only.Goals as goal

pub returns : goal.returns
returns c = redraws_only
