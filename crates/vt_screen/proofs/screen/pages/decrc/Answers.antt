use Rattle.vt_screen.proofs.StepInvariant.{kept_restored}
use Rattle.vt_screen.proofs.screen.pages.decrc.Goals as goal

pub invariant_of-screen : goal.invariant_of-screen
invariant_of-screen c =
    rw c.restore_cursor.ensures (kept_restored c.screen.inside.grid c.screen.inside.last _ c.screen.invariant)
