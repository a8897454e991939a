use Rattle.std.proofs.Common.{◌+◌, ◌*◌, length, sym, subst}
use Rattle.vt_cells.specs.declared.pos.Pos.{Pos}
use Rattle.vt_grid.specs.Internals.{IsSized, page_of}
use Rattle.vt_grid.specs.PageRows.{PageRowsValue}
use Rattle.vt_grid.proofs.Texts.{sized_wide_text_put}
use Rattle.vt_grid.proofs.grid.Grid.put_wide_text.Goals as goal

pub invariant_of-self : goal.invariant_of-self
invariant_of-self c =
    let s = c.self.inside in
    let room = rw (← c.self.view_is) at c.requires.room in
    let pos : Pos = record { row = s.pos.row; col = s.pos.col + 2 * length c.args.text.now } in
    subst (λ (page_rows : PageRowsValue). IsSized s.size.rows s.size.cols
    (page_of page_rows pos s.saved_pos s.scroll_top s.scroll_bottom s.origin_mode s.saved_origin_mode))
    (sym c.put_wide_text.ensures)
    (sized_wide_text_put s.size.rows s.size.cols c.args.text.now c.args.attrs
    (page_of s.page_rows s.pos s.saved_pos s.scroll_top s.scroll_bottom s.origin_mode s.saved_origin_mode)
    c.requires.wide room c.self.invariant)
