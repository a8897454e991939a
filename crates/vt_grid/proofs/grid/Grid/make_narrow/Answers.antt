use Rattle.std.proofs.Common.{sym, subst}
use Rattle.vt_cells.specs.declared.pos.Pos.{Pos}
use Rattle.vt_grid.specs.Internals.{IsSized, IsSelected, page_of}
use Rattle.vt_grid.specs.Page.{Page}
use Rattle.vt_grid.specs.PageRows.{PageRowsValue}
use Rattle.vt_grid.proofs.Carries.{sized_made_narrow}
use Rattle.vt_grid.proofs.grid.Grid.make_narrow.Goals as goal

pub invariant_of-self : goal.invariant_of-self
invariant_of-self c =
    let s = c.self.inside in
    let i = c.self.invariant in
    let w = i.width in
    let pos : Pos = record { row = s.pos.row; col = s.pos.col } in
    let page = page_of s.page_rows s.pos s.saved_pos s.scroll_top s.scroll_bottom s.origin_mode s.saved_origin_mode in
    subst (λ (page_rows : PageRowsValue). IsSized s.size.rows s.size.cols
    (page_of page_rows pos s.saved_pos s.scroll_top s.scroll_bottom s.origin_mode s.saved_origin_mode))
    (sym c.narrow.ensures)
    (sized_made_narrow s.size.rows s.size.cols c.args.col c.args.attrs page
    (subst (λ (q : Page). IsSelected q c.args.col) (sym c.self.view_is) c.requires) i)
