use Rattle.std.proofs.Common.{None, false, subst, sym}
use Rattle.vt_grid.specs.Page.{Page}
use Rattle.vt_grid.specs.Scrollback.{Scrollback, no_scrollback}
use Rattle.vt_screen.specs.Internals.{IsKept}
use Rattle.vt_screen.proofs.StepInvariant.{kept_alone}
use Rattle.vt_screen.proofs.screen.Screen.page_copy.Goals as goal

pub invariant_of-result : goal.invariant_of-result
invariant_of-result c =
    subst (λ (page : Page). IsKept page c.self.inside.last
    (record { other = None; is_alternate = false; active = c.new.result; idle = c.new-2.result }))
    (sym c.in_ok-grid.ensures.ok)
    (subst (λ (active : Scrollback). IsKept c.self.inside.grid c.self.inside.last
    (record { other = None; is_alternate = false; active = active; idle = c.new-2.result })) (sym c.new.ensures)
    (subst (λ (idle : Scrollback). IsKept c.self.inside.grid c.self.inside.last
    (record { other = None; is_alternate = false; active = no_scrollback 0; idle = idle })) (sym c.new-2.ensures)
    (kept_alone c.self.inside.grid c.self.inside.last (record {
      other = c.self.inside.other;
      is_alternate = c.self.inside.is_alternate;
      active = c.self.inside.scrollback;
      idle = c.self.inside.other_scrollback;
    }) c.self.invariant)))
