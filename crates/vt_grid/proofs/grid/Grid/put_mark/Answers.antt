use Rattle.std.proofs.Common.{sym, subst}
use Rattle.vt_cells.specs.declared.pos.Pos.{Pos}
use Rattle.vt_grid.specs.Internals.{IsSized, page_of}
use Rattle.vt_grid.specs.PageRows.{PageRowsValue}
use Rattle.vt_grid.proofs.Carries.{sized_mark_put}
use Rattle.vt_grid.proofs.grid.Grid.put_mark.Goals as goal

pub invariant_of-self : goal.invariant_of-self
invariant_of-self c =
    let s = c.self.inside in
    let i = c.self.invariant in
    let w = i.width in
    let pos : Pos = record { row = s.pos.row; col = s.pos.col } in
    let page = page_of s.page_rows s.pos s.saved_pos s.scroll_top s.scroll_bottom s.origin_mode s.saved_origin_mode in
    subst (λ (page_rows : PageRowsValue). IsSized s.size.rows s.size.cols
    (page_of page_rows pos s.saved_pos s.scroll_top s.scroll_bottom s.origin_mode s.saved_origin_mode))
    (sym c.append.ensures)
    (let h = rw (← c.self.view_is) at c.requires.inside in
    sized_mark_put s.size.rows s.size.cols c.args.col c.args.mark page (c.ranges.mark.0, c.requires.mark) h i)
