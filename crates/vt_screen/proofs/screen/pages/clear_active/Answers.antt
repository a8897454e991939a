use Rattle.vt_screen.proofs.StepInvariant.{kept_fresh}
use Rattle.vt_screen.proofs.screen.pages.clear_active.Goals as goal

pub invariant_of-screen : goal.invariant_of-screen
invariant_of-screen c =
    rw c.clear.ensures (kept_fresh c.screen.inside.grid c.screen.inside.last _ c.screen.invariant)
