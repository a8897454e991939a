use Rattle.vt_everywhere.proofs.Viewers.{viewer_everywhere}
use Rattle.vt_everywhere.proofs.laws.viewers.Goals as goal

pub returns : goal.returns
returns c = record { everywhere = viewer_everywhere }
