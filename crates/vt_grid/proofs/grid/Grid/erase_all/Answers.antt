use Rattle.std.proofs.Common.{length, refl, sym, subst}
use Rattle.vt_grid.specs.Internals.{IsSized, page_of}
use Rattle.std.proofs.lemmas.List.{length-replicate}
use Rattle.vt_rows.specs.Row.{blank_row}
use Rattle.vt_grid.specs.Erasing.{erased_page}
use Rattle.vt_grid.specs.PageRows.{PageRowsValue}
use Rattle.vt_grid.proofs.Shifting.{page_erased_page}
use Rattle.vt_grid.proofs.Carries.{sized}
use Rattle.vt_grid.proofs.grid.Grid.erase_all.Goals as goal

pub invariant_of-self : goal.invariant_of-self
invariant_of-self c =
    let s = c.self.inside in
    let i = c.self.invariant in
    let page = page_of s.page_rows s.pos s.saved_pos s.scroll_top s.scroll_bottom s.origin_mode s.saved_origin_mode in
    subst (λ (page_rows : PageRowsValue). IsSized s.size.rows s.size.cols
    (page_of page_rows s.pos s.saved_pos s.scroll_top s.scroll_bottom s.origin_mode s.saved_origin_mode))
    (sym c.clear_all.ensures)
    (sized s.size.rows s.size.cols page (erased_page c.args.attrs page) i
    (length-replicate (length page.rows) (blank_row c.args.attrs page.width))
    refl (page_erased_page c.args.attrs page i.sound))
