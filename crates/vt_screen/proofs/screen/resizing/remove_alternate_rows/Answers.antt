-- The alternate page is resized in place, and the rows that scrolled off are reported.
use Rattle.std.proofs.Common.{◌≡◌, true, refl, rules, sym, subst, ◌∙◌}
use Rattle.std.specs.Prelude.{IfSome, Option, is_ok}
use Rattle.vt_grid.specs.Page.{Page}
use Rattle.vt_grid.specs.Resize.{resize_reports}
use Rattle.vt_grid.specs.Scrollback.{no_scrollback}
use Rattle.vt_screen.specs.Pages.{reports_of}
use Rattle.vt_screen.specs.CallsOfRun.{TakesCalls}
use Rattle.vt_screen.proofs.CallsReported.{same_callbacks, reported_to}
use Rattle.vt_screen.proofs.StepPages.{AlternateDone, alternate_in_place, if_ok}
use Rattle.vt_screen.proofs.screen.resizing.remove_alternate_rows.Given as given
use Rattle.vt_screen.proofs.screen.resizing.remove_alternate_rows.Goals as goal

whole : (g : given.Over) (c : goal.Else-prove g) →
    AlternateDone g.CB.Callbacks.does c.args.size.rows c.args.size.cols c.args.page.now c.remove_rows-done.new.self
    c.remove_rows-done.new.above c.args.callbacks.now c.remove_rows-done.new.leaving.callbacks.now
whole g c =
    let done : is_ok c.remove_rows-done.result ≡ true = sym (c.is_ok.ensures.value) ∙ c.if-prove.false in
    let rows = resize_reports _ c.in-Some.page c.args.nothing.now in
    let told = if_ok c.remove_rows-done.result _ done c.remove_rows-done.ensures.reported in
    let all = reported_to g.CB.Callbacks.does true rows _ c.remove_rows-done.new.leaving refl told in
    let width = subst (λ (o : Option Page). IfSome o (λ p. c.args.size.cols ≡ p.width)) c.in-Some.is
    c.requires.width in
    alternate_in_place g.CB.Callbacks.does c.args.size.rows c.args.size.cols c.args.page.now
    c.in-Some.page c.remove_rows-done.new.self c.args.nothing.now
    c.remove_rows-done.new.above c.args.callbacks.now c.remove_rows-done.new.leaving.callbacks.now
    c.in-Some.is width c.requires.nothing
    (if_ok c.remove_rows-done.result _ done c.remove_rows-done.ensures.page)
    (if_ok c.remove_rows-done.result _ done c.remove_rows-done.ensures.above)
    all

pub returns-clause-page : goal.returns-clause-page
returns-clause-page g c = (whole g c).page

pub returns-clause-called : goal.returns-clause-called
returns-clause-called g c =
    let done : is_ok c.remove_rows-done.result ≡ true = sym (c.is_ok.ensures.value) ∙ c.if-prove.false in
    let rows = resize_reports _ c.in-Some.page c.args.nothing.now in
    let same = same_callbacks g.CB.Callbacks.does rows _ c.remove_rows-done.new.leaving
    (if_ok c.remove_rows-done.result _ done c.remove_rows-done.ensures.reported) in
    subst (λ z. TakesCalls g.CB.Callbacks.does c.args.callbacks.now
    (reports_of true c.args.size.rows c.args.page.now (no_scrollback 0)) z)
    (search rules) (whole g c).called

pub returns-clause-nothing : goal.returns-clause-nothing
returns-clause-nothing g c = (whole g c).nothing
