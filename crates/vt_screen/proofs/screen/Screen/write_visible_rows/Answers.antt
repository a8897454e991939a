use Rattle.std.proofs.Common.{◌≡◌, ◌-◌, ◌++◌, List, length, ap, ◌∙◌, sym, subst, arith, if◌then◌else◌}
use Rattle.vt_rows.specs.Row.{RowValue}
use Rattle.vt_grid.specs.Scrollback.{no_scrollback, visible}
use Rattle.vt_screen.specs.Capture.{all_rows}
use Rattle.vt_screen.specs.Internals.{WritesRows, main_scrollback}
use Rattle.vt_screen.specs.Screen.{visible_rows}
use Rattle.vt_screen.proofs.MadeCaptures.{above_rows, above_offset, active_in_view, same_visible, visible_part}
use Rattle.vt_screen.proofs.screen.Screen.write_visible_rows.Goals as goal

pub returns : goal.returns
returns g c =
    let s = c.self.inside in
    let kept = c.self.invariant in
    let above = above_rows s.is_alternate s.scrollback s.other_scrollback kept.nothing in
    let offset = above_offset s.is_alternate s.scrollback s.other_scrollback kept.nothing in
    let all : all_rows c.args.self.now ≡ s.scrollback.rows ++ s.grid.rows =
    sym (ap all_rows c.self.view_is) ∙ ap (λ (rows : List RowValue). rows ++ s.grid.rows) above in
    let shown : visible_rows c.args.self.now ≡ visible s.scrollback s.grid.rows =
    sym (ap visible_rows c.self.view_is)
    ∙ same_visible
    (if s.is_alternate then no_scrollback 0 else main_scrollback s.is_alternate s.scrollback s.other_scrollback)
    s.scrollback s.grid.rows above offset in
    let rows = c.len.ensures ∙ ap length c.rows-rows.ensures.rows in
    let part = visible_part s.scrollback s.grid.rows (all_rows c.args.self.now) (visible_rows c.args.self.now)
    (c.stacked_len.result - c.offset.result - c.len.result) (c.stacked_len.result - c.offset.result)
    (active_in_view s.is_alternate s.scrollback s.other_scrollback kept.nothing kept.above) all
    shown (omega (arith, c.stacked_len.ensures, c.offset.ensures, rows)) (omega (arith, rows)) in
    subst (λ (rows : List RowValue). WritesRows g.S.Sink.refuses (g.S.Sink.text c.args.sink.now)
    c.args.state.now rows c.write_rows.result (g.S.Sink.text c.write_rows.new.sink) c.write_rows.new.state)
    part c.write_rows.ensures
