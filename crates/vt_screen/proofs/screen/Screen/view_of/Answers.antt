use Rattle.std.proofs.Common.{List, ap, refl, ◌∙◌}
use Rattle.vt_cells.specs.Attrs.{Attrs}
use Rattle.vt_rows.specs.Row.{RowValue}
use Rattle.vt_grid.specs.Scrollback.{visible}
use Rattle.vt_redraw.specs.Picture.{picture_of, picture_over}
use Rattle.vt_screen.specs.Screen.{ScreenValue, above_page}
use Rattle.vt_screen.specs.contracts.screen.Screen.{the_view}
use Rattle.vt_screen.proofs.StepInvariant.{visible_if}
use Rattle.vt_screen.proofs.ReadShifted.{canvas_with, own_view}
use Rattle.vt_screen.proofs.Shown.{active_is}
use Rattle.vt_screen.proofs.screen.Screen.view_of.Goals as goal

pub new-requires-2-clause-above : goal.new-requires-2-clause-above
new-requires-2-clause-above c =
    active_is c.self.inside.is_alternate c.self.inside.scrollback
    c.self.inside.other_scrollback c.self.invariant.nothing c.self.invariant.above

pub returns : goal.returns
returns c =
    let inside = c.self.inside in
    let s = the_view inside in
    let page = c.args.grid.now in
    c.new-2.ensures.value
    ∙ (ap (λ (a : Attrs). picture_over (visible inside.scrollback page.rows)
    (record { page = page; attrs = a; saved_attrs = a; hidden = s.hidden }))
    c.new.ensures
    ∙ (ap (λ (rows : List RowValue). picture_over rows (canvas_with page s))
    (visible_if s.is_alternate page.rows inside.scrollback inside.other_scrollback s.scrollback refl
    c.self.invariant.nothing)
    ∙ (own_view s (above_page s) page c.requires.page
    (ap (λ (t : ScreenValue). (above_page t).offset) c.self.view_is ∙ c.requires.own)
    ∙ ap (λ (t : ScreenValue). picture_of (canvas_with page t)) c.self.view_is)))
