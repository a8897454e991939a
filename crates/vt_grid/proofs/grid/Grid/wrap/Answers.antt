use Rattle.vt_grid.specs.Internals.{page_of}
use Rattle.vt_grid.proofs.Carries.{wrap_parts, left_inside}
use Rattle.vt_grid.proofs.grid.Grid.wrap.Goals as goal

pub leave-requires-clause-page : goal.leave-requires-clause-page
leave-requires-clause-page g c =
    let s = c.self.inside in
    wrap_parts (page_of s.page_rows s.pos s.saved_pos s.scroll_top s.scroll_bottom s.origin_mode s.saved_origin_mode)
    c.args.self.now c.line_feed.new.self c.left_row-left.result c.is_wrapped-is_wrapped.result c.self.view_is
    c.left_row-left.ensures c.is_wrapped-is_wrapped.ensures c.in_ok-line_feed.ensures.page c.self.invariant.sound

pub leave-requires-clause-inside : goal.leave-requires-clause-inside
leave-requires-clause-inside g c =
    let s = c.self.inside in
    left_inside (page_of s.page_rows s.pos s.saved_pos s.scroll_top s.scroll_bottom s.origin_mode s.saved_origin_mode)
    c.args.self.now c.line_feed.new.self c.left_row-left.result c.self.view_is
    c.left_row-left.ensures c.in_ok-line_feed.ensures.page c.self.invariant.sound
