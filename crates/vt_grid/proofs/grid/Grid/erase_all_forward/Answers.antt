use Rattle.std.proofs.Common.{sym, subst}
use Rattle.vt_grid.specs.Internals.{IsSized, page_of}
use Rattle.vt_grid.specs.PageRows.{PageRowsValue}
use Rattle.vt_grid.proofs.Carries.{sized_blanked_below}
use Rattle.vt_grid.proofs.grid.Grid.erase_all_forward.Goals as goal

pub invariant_of-self : goal.invariant_of-self
invariant_of-self c =
    let s = c.self.inside in
    let page = page_of s.page_rows s.pos s.saved_pos s.scroll_top s.scroll_bottom s.origin_mode s.saved_origin_mode in
    subst (λ (page_rows : PageRowsValue). IsSized s.size.rows s.size.cols
    (page_of page_rows s.pos s.saved_pos s.scroll_top s.scroll_bottom s.origin_mode s.saved_origin_mode))
    (sym c.clear_below.ensures)
    (sized_blanked_below s.size.rows s.size.cols c.args.attrs page c.self.invariant)
