use Rattle.vt_screen.proofs.StepInvariant.{kept_exchanged}
use Rattle.vt_screen.proofs.screen.pages.exchange.Goals as goal

pub invariant_of-screen-2 : goal.invariant_of-screen-2
invariant_of-screen-2 c =
    rw (c.swap.ensures.x_after, c.swap.ensures.y_after, c.swap-2.ensures.x_after, c.swap-2.ensures.y_after)
    (kept_exchanged c.screen.inside.grid c.in-Some.other c.screen.inside.last _ c.in-Some.is c.screen.invariant)
