use Rattle.std.proofs.Common.{rules, subst, ap, refl, sym, ◌∙◌}
use Rattle.vt_cells.proofs.Packing.{attrs_fit}
use Rattle.vt_cells.specs.Attrs.{Attrs}
use Rattle.vt_grid.specs.Scrollback.{visible}
use Rattle.vt_redraw.specs.Picture.{picture_over}
use Rattle.vt_screen.specs.Shown.{display}
use Rattle.vt_screen.specs.contracts.screen.Screen.{the_view}
use Rattle.vt_cells.specs.Op.{FitsAttrs}
use Rattle.vt_screen.specs.Screen.{ScreenValue, AreColored}
use Rattle.vt_screen.proofs.Shown.{active_is, with_view_is}
use Rattle.vt_screen.proofs.screen.Screen.view.Goals as goal

pub returns-clause-colored : goal.returns-clause-colored
returns-clause-colored c =
    let fits : FitsAttrs c.attrs-attrs.result = search (rules, attrs_fit) in
    record {
      rows = subst (λ (s : ScreenValue). AreColored s.page.rows) c.self.view_is c.self.invariant.colored;
      above = subst (λ (s : ScreenValue). AreColored s.scrollback.rows) c.self.view_is c.self.invariant.above.colored;
      attrs = subst FitsAttrs c.attrs-attrs.ensures fits;
    }

pub new-requires-clause-above : goal.new-requires-clause-above
new-requires-clause-above c =
    active_is c.self.inside.is_alternate c.self.inside.scrollback
    c.self.inside.other_scrollback c.self.invariant.nothing c.self.invariant.above

pub returns-clause-value : goal.returns-clause-value
returns-clause-value c =
    let inside = c.self.inside in
    let s = the_view inside in
    let attrs = c.attrs-attrs.ensures ∙ sym (ap (λ (t : ScreenValue). t.attrs) c.self.view_is) in
    c.new.ensures.value
    ∙ (ap (λ (a : Attrs). picture_over (visible inside.scrollback s.page.rows)
    (record { page = s.page; attrs = a; saved_attrs = a; hidden = s.hidden }))
    attrs
    ∙ (with_view_is s inside.scrollback inside.other_scrollback refl c.self.invariant.nothing ∙ ap display c.self.view_is))
