-- Both pages are resized in place, and the rows that scrolled off are reported.
use Rattle.std.proofs.Common.{◌≡◌, ◌≤◌, length, sym, false, true, refl, rules, subst, ap, ◌∙◌}
use Rattle.vt_grid.specs.Resize.{resize_reports}
use Rattle.vt_grid.specs.Scrollback.{no_scrollback}
use Rattle.vt_screen.specs.Pages.{reports_of}
use Rattle.vt_screen.specs.CallsOfRun.{TakesCalls}
use Rattle.vt_screen.specs.Screen.{ScreenValue}
use Rattle.vt_screen.specs.contracts.screen.Screen.{the_view}
use Rattle.vt_screen.proofs.CallsReported.{same_callbacks, reported_to}
use Rattle.vt_screen.proofs.StepPages.{called_in_place, fewer_in_place, kept_in_place, view_in_place, width_in_place}
use Rattle.vt_screen.proofs.screen.resizing.remove_rows.Goals as goal

pub remove_alternate_rows-requires-clause-fewer : goal.remove_alternate_rows-requires-clause-fewer
remove_alternate_rows-requires-clause-fewer g c =
    fewer_in_place c.args.size.rows c.screen.inside.grid c.screen.inside.other
    (subst (λ (x : ScreenValue). c.args.size.rows ≤ length x.page.rows) (sym c.screen.view_is) c.requires.fewer)
    c.screen.invariant.other

pub remove_alternate_rows-requires-clause-width : goal.remove_alternate_rows-requires-clause-width
remove_alternate_rows-requires-clause-width g c =
    width_in_place c.args.size.cols c.screen.inside.grid c.screen.inside.other
    (subst (λ (x : ScreenValue). c.args.size.cols ≡ x.page.width) (sym c.screen.view_is) c.requires.width)
    c.screen.invariant.other

pub invariant_of-screen-2 : goal.invariant_of-screen-2
invariant_of-screen-2 g c =
    kept_in_place c.args.size.rows c.args.size.cols c.screen.inside.grid c.remove_rows.new.self c.screen.inside.last
    _ c.remove_alternate_rows.new.page c.remove_rows.new.above c.remove_alternate_rows.new.nothing
    (subst (λ (x : ScreenValue). c.args.size.cols ≡ x.page.width) (sym c.screen.view_is) c.requires.width)
    c.requires.size.rows (search rules) c.requires.size.cols (search rules)
    (ap (λ (x : ScreenValue). x.is_alternate) c.screen.view_is ∙ c.requires.main)
    (c.in_ok-remove_rows.ensures).page (c.in_ok-remove_rows.ensures).above
    c.remove_alternate_rows.ensures.page c.remove_alternate_rows.ensures.nothing c.screen.invariant

pub returns-clause-ok : goal.returns-clause-ok
returns-clause-ok g c =
    view_in_place c.args.size.rows c.args.size.cols (the_view c.screen.inside) c.args.screen.now
    c.screen.inside.scrollback c.screen.inside.other_scrollback c.remove_rows.new.above
    c.remove_alternate_rows.new.nothing c.remove_rows.new.self c.remove_alternate_rows.new.page
    c.screen.view_is refl c.requires.main c.requires.width
    (c.in_ok-remove_rows.ensures).page (c.in_ok-remove_rows.ensures).above c.remove_alternate_rows.ensures.page

pub returns-clause-called : goal.returns-clause-called
returns-clause-called g c =
    let rows = resize_reports _ c.screen.inside.grid c.screen.inside.scrollback in
    let told = (c.in_ok-remove_rows.ensures).reported in
    let same = same_callbacks g.CB.Callbacks.does rows _ c.remove_rows.new.leaving told in
    let all = reported_to g.CB.Callbacks.does false rows _ c.remove_rows.new.leaving refl told in
    called_in_place g.CB.Callbacks.does c.args.size.rows (the_view c.screen.inside)
    c.args.screen.now c.screen.inside.scrollback c.screen.inside.other_scrollback
    c.args.callbacks.now c.remove_rows.new.leaving.callbacks.now c.remove_alternate_rows.new.callbacks
    c.screen.view_is refl c.requires.main all
    (subst (λ z. TakesCalls g.CB.Callbacks.does z
    (reports_of true c.args.size.rows c.screen.inside.other (no_scrollback 0)) c.remove_alternate_rows.new.callbacks)
    (search rules) c.remove_alternate_rows.ensures.called)
