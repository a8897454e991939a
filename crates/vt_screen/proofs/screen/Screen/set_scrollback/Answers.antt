use Rattle.vt_screen.proofs.StepInvariant.{kept_viewed}
use Rattle.vt_screen.proofs.screen.Screen.set_scrollback.Goals as goal

pub invariant_of-self-2 : goal.invariant_of-self-2
invariant_of-self-2 c =
    rw ((c.in_ok-set_offset.ensures).ok)
    (kept_viewed c.size.result.rows c.size.result.cols c.args.rows
    c.self.inside.grid c.self.inside.last _ c.self.invariant)
