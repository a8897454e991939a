use Rattle.std.proofs.Common.{rules}
use Rattle.vt_cells.proofs.Packing.{attrs_fit}
use Rattle.vt_screen.proofs.StepInvariant.{kept_page_after}
use Rattle.vt_screen.proofs.screen.controls.apply.Goals as goal

pub invariant_of-screen : goal.invariant_of-screen
invariant_of-screen c =
    rw c.apply.ensures
    (kept_page_after c.screen.inside.attrs c.args.page_step c.screen.inside.grid c.screen.inside.last _
    (search (rules, attrs_fit)) c.screen.invariant)
