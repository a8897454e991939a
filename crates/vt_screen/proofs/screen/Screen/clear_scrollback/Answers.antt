use Rattle.vt_screen.proofs.StepInvariant.{kept_cleared}
use Rattle.vt_screen.proofs.screen.Screen.clear_scrollback.Goals as goal

pub invariant_of-self : goal.invariant_of-self
invariant_of-self c = rw c.clear.ensures.rows (kept_cleared c.self.inside.grid c.self.inside.last _ c.self.invariant)
