use Rattle.std.proofs.Common.{◌+◌, false, sym, subst, arith}
use Rattle.vt_cells.proofs.Glyphs.{IsGlyphText-first}
use Rattle.vt_cells.specs.declared.pos.Pos.{Pos}
use Rattle.vt_grid.specs.Internals.{IsSized, page_of}
use Rattle.vt_grid.specs.PageRows.{PageRowsValue}
use Rattle.vt_grid.proofs.Carries.{sized_glyph_put}
use Rattle.vt_grid.proofs.grid.Grid.put_narrow.Goals as goal

pub invariant_of-self : goal.invariant_of-self
invariant_of-self c =
    let s = c.self.inside in
    let room = rw (← c.self.view_is) at c.requires.room in
    let pos : Pos = record { row = s.pos.row; col = s.pos.col + 1 } in
    subst (λ (page_rows : PageRowsValue). IsSized s.size.rows s.size.cols
    (page_of page_rows pos s.saved_pos s.scroll_top s.scroll_bottom s.origin_mode s.saved_origin_mode))
    (sym c.put_narrow.ensures)
    (sized_glyph_put s.size.rows s.size.cols _ false c.args.attrs
    (page_of s.page_rows s.pos s.saved_pos s.scroll_top s.scroll_bottom s.origin_mode s.saved_origin_mode)
    (IsGlyphText-first c.args.c false c.ranges.c.0 c.requires.reported c.requires.columns)
    (omega arith) c.self.invariant)
