use Rattle.std.proofs.Common.{length, refl, sym, subst}
use Rattle.vt_grid.specs.Internals.{IsSized, page_of}
use Rattle.vt_grid.specs.Page.{rows_up, up_source}
use Rattle.vt_grid.specs.PageRows.{PageRowsValue}
use Rattle.vt_grid.proofs.Pages.{length-moved_rows, page_rows_up}
use Rattle.vt_grid.proofs.Carries.{sized}
use Rattle.vt_grid.proofs.grid.Grid.delete_lines.Goals as goal

pub invariant_of-self : goal.invariant_of-self
invariant_of-self c =
    let s = c.self.inside in
    let i = c.self.invariant in
    let page = page_of s.page_rows s.pos s.saved_pos s.scroll_top s.scroll_bottom s.origin_mode s.saved_origin_mode in
    subst (λ (page_rows : PageRowsValue). IsSized s.size.rows s.size.cols
    (page_of page_rows s.pos s.saved_pos s.scroll_top s.scroll_bottom s.origin_mode s.saved_origin_mode))
    (sym c.scroll_up.ensures)
    (sized s.size.rows s.size.cols page
    (record page { rows = rows_up page.width page.row page.bottom c.args.count page.rows }) i
    (length-moved_rows page.width (up_source (length page.rows) page.row page.bottom c.args.count) page.rows)
    refl (page_rows_up page.row page.bottom c.args.count page i.sound.region_end i.sound))
