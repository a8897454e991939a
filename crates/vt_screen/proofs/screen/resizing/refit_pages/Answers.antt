-- Both pages are resized, and the rows that scrolled off are reported.
use Rattle.std.proofs.Common.{false, true, refl, rules, subst, ap, ◌∙◌}
use Rattle.vt_grid.specs.Resize.{resize_reports}
use Rattle.vt_grid.specs.Scrollback.{no_scrollback}
use Rattle.vt_screen.specs.Pages.{reports_of}
use Rattle.vt_screen.specs.CallsOfRun.{TakesCalls}
use Rattle.vt_screen.specs.Screen.{ScreenValue}
use Rattle.vt_screen.specs.contracts.screen.Screen.{the_view}
use Rattle.vt_screen.proofs.CallsReported.{same_callbacks, reported_to}
use Rattle.vt_screen.proofs.StepPages.{kept_by_steps, called_by_steps}
use Rattle.vt_screen.proofs.screen.resizing.refit_pages.Goals as goal

pub invariant_of-screen-2 : goal.invariant_of-screen-2
invariant_of-screen-2 g c =
    kept_by_steps c.args.size.rows c.args.size.cols c.screen.inside.grid c.set_size.new.self c.screen.inside.last
    _ c.in_ok-fresh.fresh c.resize_alternate.new.page c.set_size.new.above c.resize_alternate.new.nothing
    (c.in_ok-fresh.ensures).ok c.requires.size.rows (search rules) c.requires.size.cols (search rules)
    (ap (λ (x : ScreenValue). x.is_alternate) c.screen.view_is ∙ c.requires.main)
    (c.in_ok-set_size.ensures).page (c.in_ok-set_size.ensures).above
    c.resize_alternate.ensures.page c.resize_alternate.ensures.nothing c.screen.invariant

pub returns-clause-called : goal.returns-clause-called
returns-clause-called g c =
    let rows = resize_reports _ c.screen.inside.grid c.screen.inside.scrollback in
    let told = (c.in_ok-set_size.ensures).reported in
    let same = same_callbacks g.CB.Callbacks.does rows _ c.set_size.new.leaving told in
    let all = reported_to g.CB.Callbacks.does false rows _ c.set_size.new.leaving refl told in
    called_by_steps g.CB.Callbacks.does c.args.size.rows c.args.size.cols (the_view c.screen.inside)
    c.args.screen.now c.screen.inside.scrollback c.screen.inside.other_scrollback c.in_ok-fresh.fresh
    c.args.callbacks.now c.set_size.new.leaving.callbacks.now c.resize_alternate.new.callbacks
    c.screen.view_is refl c.requires.main (c.in_ok-fresh.ensures).ok all
    (subst (λ z. TakesCalls g.CB.Callbacks.does z
    (reports_of true c.args.size.rows c.screen.inside.other (no_scrollback 0)) c.resize_alternate.new.callbacks)
    (search rules) c.resize_alternate.ensures.called)
