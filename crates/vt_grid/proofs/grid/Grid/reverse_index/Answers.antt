use Rattle.std.proofs.Common.{refl, sym, subst}
use Rattle.vt_grid.specs.Internals.{IsSized, page_of}
use Rattle.vt_grid.specs.Shifts.{scrolled_down}
use Rattle.vt_grid.specs.PageRows.{PageRowsValue}
use Rattle.vt_grid.proofs.Shifting.{length-rows_down, page_scrolled_down}
use Rattle.vt_grid.proofs.Carries.{sized}
use Rattle.vt_grid.proofs.grid.Grid.reverse_index.Goals as goal

pub invariant_of-self : goal.invariant_of-self
invariant_of-self c =
    let s = c.self.inside in
    let i = c.self.invariant in
    let page = page_of s.page_rows s.pos s.saved_pos s.scroll_top s.scroll_bottom s.origin_mode s.saved_origin_mode in
    subst (λ (page_rows : PageRowsValue). IsSized s.size.rows s.size.cols
    (page_of page_rows s.pos s.saved_pos s.scroll_top s.scroll_bottom s.origin_mode s.saved_origin_mode))
    (sym c.scroll_down.ensures)
    (sized s.size.rows s.size.cols page (scrolled_down 1 page) i
    (length-rows_down page.width page.top page.bottom 1 page.rows) refl (page_scrolled_down 1 page i.sound))
