use Rattle.std.proofs.Common.{length, ap, refl, subst, sym, ◌∙◌}
use Rattle.vt_redraw.specs.Moved.{IsBand, picture_after_move}
use Rattle.vt_screen.specs.Screen.{ScreenValue}
use Rattle.vt_screen.specs.Shown.{display}
use Rattle.vt_screen.specs.contracts.screen.Screen.{the_view}
use Rattle.vt_screen.proofs.Shown.{shown_height, active_is, with_view_is}
use Rattle.vt_screen.proofs.screen.Screen.moved_view.Goals as goal

pub moved-requires-clause-above : goal.moved-requires-clause-above
moved-requires-clause-above c =
    active_is c.self.inside.is_alternate c.self.inside.scrollback
    c.self.inside.other_scrollback c.self.invariant.nothing c.self.invariant.above

pub moved-requires-clause-band : goal.moved-requires-clause-band
moved-requires-clause-band c =
    subst (λ n. IsBand n c.args.band)
    (ap (λ (t : ScreenValue). length (display t).rows) (sym c.self.view_is) ∙ shown_height (the_view c.self.inside))
    c.requires

pub returns : goal.returns
returns c =
    let inside = c.self.inside in
    let s = the_view inside in
    c.moved.ensures s.attrs
    ∙ ap (picture_after_move c.args.band)
    (with_view_is s inside.scrollback inside.other_scrollback refl c.self.invariant.nothing ∙ ap display c.self.view_is)
