use Rattle.std.proofs.Common.{◌-◌, sym, subst, arith}
use Rattle.vt_grid.specs.Internals.{IsSized, page_of}
use Rattle.vt_grid.specs.PageRows.{PageRowsValue}
use Rattle.vt_grid.proofs.Carries.{sized_erased_columns}
use Rattle.vt_grid.proofs.grid.Grid.erase_cells.Goals as goal

pub invariant_of-self : goal.invariant_of-self
invariant_of-self c =
    let s = c.self.inside in
    let page = page_of s.page_rows s.pos s.saved_pos s.scroll_top s.scroll_bottom s.origin_mode s.saved_origin_mode in
    subst (λ (page_rows : PageRowsValue). IsSized s.size.rows s.size.cols
    (page_of page_rows s.pos s.saved_pos s.scroll_top s.scroll_bottom s.origin_mode s.saved_origin_mode))
    (sym c.erase.ensures)
    (let i = c.self.invariant in
    let w = i.width in
    sized_erased_columns s.size.rows s.size.cols s.pos.col (c.min-end.result - s.pos.col)
    c.args.attrs page (omega (arith, c.min-end.ensures)) i)
