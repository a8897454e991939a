-- The alternate page is resized, and the rows that scrolled off are reported.
use Rattle.std.proofs.Common.{◌≡◌, true, refl, rules, sym, subst, ◌∙◌}
use Rattle.std.specs.Prelude.{is_ok}
use Rattle.vt_grid.specs.Resize.{resize_reports}
use Rattle.vt_grid.specs.Scrollback.{no_scrollback}
use Rattle.vt_screen.specs.Pages.{reports_of}
use Rattle.vt_screen.specs.CallsOfRun.{TakesCalls}
use Rattle.vt_screen.proofs.CallsReported.{same_callbacks, reported_to}
use Rattle.vt_screen.proofs.StepPages.{AlternateDone, alternate_done, if_ok}
use Rattle.vt_screen.proofs.screen.resizing.resize_alternate.Given as given
use Rattle.vt_screen.proofs.screen.resizing.resize_alternate.Goals as goal

whole : (g : given.Over) (c : goal.Else-prove g) →
    AlternateDone g.CB.Callbacks.does c.args.size.rows c.args.size.cols c.args.page.now c.set_size-done.new.self
    c.set_size-done.new.above c.args.callbacks.now c.set_size-done.new.leaving.callbacks.now
whole g c =
    let done : is_ok c.set_size-done.result ≡ true = sym (c.is_ok.ensures.value) ∙ c.if-prove.false in
    let rows = resize_reports _ c.in-Some-page.page c.args.nothing.now in
    let told = if_ok c.set_size-done.result _ done c.set_size-done.ensures.reported in
    let all = reported_to g.CB.Callbacks.does true rows _ c.set_size-done.new.leaving refl told in
    alternate_done g.CB.Callbacks.does c.args.size.rows c.args.size.cols c.args.page.now
    c.in-Some-page.page c.set_size-done.new.self c.in-Some.fresh c.args.fresh c.args.nothing.now
    c.set_size-done.new.above c.args.callbacks.now c.set_size-done.new.leaving.callbacks.now
    c.requires.fresh c.in-Some-page.is c.in-Some.is c.requires.nothing
    (if_ok c.set_size-done.result _ done c.set_size-done.ensures.page)
    (if_ok c.set_size-done.result _ done c.set_size-done.ensures.above)
    all

pub returns-clause-called : goal.returns-clause-called
returns-clause-called g c =
    let done : is_ok c.set_size-done.result ≡ true = sym (c.is_ok.ensures.value) ∙ c.if-prove.false in
    let rows = resize_reports _ c.in-Some-page.page c.args.nothing.now in
    let same = same_callbacks g.CB.Callbacks.does rows _ c.set_size-done.new.leaving
    (if_ok c.set_size-done.result _ done c.set_size-done.ensures.reported) in
    subst (λ z. TakesCalls g.CB.Callbacks.does c.args.callbacks.now
    (reports_of true c.args.size.rows c.args.page.now (no_scrollback 0)) z)
    (search rules) (whole g c).called

pub returns-clause-nothing : goal.returns-clause-nothing
returns-clause-nothing g c = (whole g c).nothing
