use Rattle.std.proofs.Common.{refl, ap, ◌∙◌}
use Rattle.vt_screen.specs.Internals.{with_fresh_other, with_fresh_page}
use Rattle.vt_screen.specs.contracts.screen.Screen.{the_view}
use Rattle.vt_screen.proofs.StepPages.{reset_is}
use Rattle.vt_screen.proofs.screen.pages.ris.Goals as goal

pub returns : goal.returns
returns c =
    rw (c.new-screen-inside.ensures, c.new-screen-inside-2.ensures, c.new-screen-inside-3.ensures)
    (reset_is c.args.screen.now (the_view c.screen.inside) c.screen.inside.scrollback
    c.screen.inside.other_scrollback c.clear.new.self c.leave_alternate.ensures.whole
    (c.screen.view_is
    ∙ (c.clear_active.ensures
    ∙ ap with_fresh_page (c.clear_other.ensures ∙ ap with_fresh_other c.leave_alternate.ensures.value)))
    refl c.clear.ensures.rows)
