use Rattle.vt_screen.proofs.MadeCaptures.{fresh_capture}
use Rattle.vt_screen.proofs.laws.fresh_capture.Goals as goal

pub returns : goal.returns
returns c = fresh_capture
