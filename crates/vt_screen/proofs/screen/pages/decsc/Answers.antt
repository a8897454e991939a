use Rattle.vt_screen.proofs.StepInvariant.{kept_saved}
use Rattle.vt_screen.proofs.screen.pages.decsc.Goals as goal

pub invariant_of-screen : goal.invariant_of-screen
invariant_of-screen c = rw c.save_cursor.ensures (kept_saved c.screen.inside.grid c.screen.inside.last _ c.screen.invariant)
