use Rattle.std.proofs.Common.{refl, sym, subst}
use Rattle.vt_grid.specs.Internals.{IsSized, page_of}
use Rattle.std.proofs.lemmas.List.{length-set}
use Rattle.vt_rows.specs.Row.{inserted_row}
use Rattle.vt_grid.specs.Page.{cursor_row}
use Rattle.vt_grid.specs.Shifts.{chars_inserted}
use Rattle.vt_grid.specs.PageRows.{PageRowsValue}
use Rattle.vt_grid.proofs.Shifting.{page_chars_inserted}
use Rattle.vt_grid.proofs.Carries.{sized}
use Rattle.vt_grid.proofs.grid.Grid.insert_cells.Goals as goal

pub invariant_of-self : goal.invariant_of-self
invariant_of-self c =
    let s = c.self.inside in
    let i = c.self.invariant in
    let page = page_of s.page_rows s.pos s.saved_pos s.scroll_top s.scroll_bottom s.origin_mode s.saved_origin_mode in
    subst (λ (page_rows : PageRowsValue). IsSized s.size.rows s.size.cols
    (page_of page_rows s.pos s.saved_pos s.scroll_top s.scroll_bottom s.origin_mode s.saved_origin_mode))
    (sym c.insert.ensures)
    (sized s.size.rows s.size.cols page (chars_inserted c.args.count page) i
    (length-set page.rows page.row (inserted_row page.column c.args.count (cursor_row page)))
    refl (page_chars_inserted c.args.count page i.sound))
