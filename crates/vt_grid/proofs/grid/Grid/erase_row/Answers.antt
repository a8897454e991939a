use Rattle.std.proofs.Common.{ℕ, refl, sym, ap, subst, ◌∙◌}
use Rattle.vt_grid.specs.Internals.{IsSized, page_of}
use Rattle.std.proofs.lemmas.List.{length-set}
use Rattle.vt_rows.specs.Row.{blank_row}
use Rattle.vt_grid.specs.Erasing.{erased_row}
use Rattle.vt_grid.specs.PageRows.{PageRowsValue, with_page_row}
use Rattle.vt_grid.proofs.Shifting.{page_erased_row}
use Rattle.vt_grid.proofs.Carries.{sized}
use Rattle.vt_grid.proofs.grid.Grid.erase_row.Goals as goal

pub invariant_of-self : goal.invariant_of-self
invariant_of-self c =
    let s = c.self.inside in
    let i = c.self.invariant in
    let page = page_of s.page_rows s.pos s.saved_pos s.scroll_top s.scroll_bottom s.origin_mode s.saved_origin_mode in
    subst (λ (page_rows : PageRowsValue). IsSized s.size.rows s.size.cols
    (page_of page_rows s.pos s.saved_pos s.scroll_top s.scroll_bottom s.origin_mode s.saved_origin_mode))
    (sym (c.clear_row.ensures
    ∙ ap (λ (r : ℕ). with_page_row r (blank_row c.args.attrs s.page_rows.width) s.page_rows) c.from.ensures))
    (sized s.size.rows s.size.cols page (erased_row c.args.attrs page) i
    (length-set page.rows page.row (blank_row c.args.attrs page.width))
    refl (page_erased_row c.args.attrs page i.sound))
