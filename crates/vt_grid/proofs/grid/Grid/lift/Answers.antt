use Rattle.std.proofs.Common.{sym, subst}
use Rattle.vt_grid.specs.Internals.{IsSized, page_of}
use Rattle.vt_grid.specs.PageRows.{PageRowsValue}
use Rattle.vt_grid.proofs.Carries.{sized_lifted}
use Rattle.vt_grid.proofs.grid.Grid.lift.Goals as goal

pub invariant_of-self : goal.invariant_of-self
invariant_of-self c =
    let s = c.self.inside in
    let page = page_of s.page_rows s.pos s.saved_pos s.scroll_top s.scroll_bottom s.origin_mode s.saved_origin_mode in
    let h = rw (← c.self.view_is) at c.requires in
    subst (λ (page_rows : PageRowsValue). IsSized s.size.rows s.size.cols
    (page_of page_rows s.pos s.saved_pos s.scroll_top s.scroll_bottom s.origin_mode s.saved_origin_mode))
    (sym c.lift.ensures.value)
    (sized_lifted s.size.rows s.size.cols c.args.col c.args.attrs page h c.self.invariant)
