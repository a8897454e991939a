use Rattle.vt_screen.proofs.StepInvariant.{kept_out_of_view}
use Rattle.vt_screen.proofs.screen.pages.show_alternate.Goals as goal

pub invariant_of-screen : goal.invariant_of-screen
invariant_of-screen c =
    rw c.leave_view.ensures.value (kept_out_of_view c.screen.inside.grid c.screen.inside.last _ c.screen.invariant)
