use Rattle.std.proofs.Common.{sym, subst}
use Rattle.vt_cells.specs.declared.pos.Pos.{Pos}
use Rattle.vt_grid.specs.Internals.{IsSized, page_of}
use Rattle.vt_grid.specs.PageRows.{PageRowsValue}
use Rattle.vt_grid.proofs.Carries.{sized_left, flagged_page}
use Rattle.vt_grid.proofs.grid.Grid.leave.Goals as goal

pub invariant_of-self : goal.invariant_of-self
invariant_of-self c =
    let s = c.self.inside in
    let pos : Pos = record { row = s.pos.row; col = 0 } in
    let page = page_of s.page_rows s.pos s.saved_pos s.scroll_top s.scroll_bottom s.origin_mode s.saved_origin_mode in
    subst (λ (page_rows : PageRowsValue). IsSized s.size.rows s.size.cols
    (page_of page_rows pos s.saved_pos s.scroll_top s.scroll_bottom s.origin_mode s.saved_origin_mode))
    (sym c.wrap_left.ensures)
    (subst (IsSized s.size.rows s.size.cols)
    (sym (flagged_page c.args.left c.args.is_wrapped s.page_rows s.pos s.saved_pos
    s.scroll_top s.scroll_bottom s.origin_mode s.saved_origin_mode))
    (sized_left s.size.rows s.size.cols c.args.left c.args.is_wrapped
    page c.self.invariant (rw (← c.self.view_is) at c.requires.page)))
