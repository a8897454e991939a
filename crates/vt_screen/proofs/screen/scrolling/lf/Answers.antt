-- The line feed is done, and the row that scrolled off is reported.
use Rattle.std.proofs.Common.{refl, subst, rules}
use Rattle.std.specs.List.{FoldsTo}
use Rattle.vt_grid.specs.Outgoing.{fed_out}
use Rattle.vt_grid.specs.Scrollback.{rows_reported}
use Rattle.vt_screen.specs.Run.{CalledOnScroll}
use Rattle.vt_screen.specs.contracts.screen.Screen.{the_view}
use Rattle.vt_screen.proofs.StepInvariant.{kept_sent, rows_fed_out, kept_fed}
use Rattle.vt_screen.proofs.StepScrollback.{stable_fed_out, coloring}
use Rattle.vt_screen.proofs.CallsReported.{same_callbacks, reported_to, line_fed}
use Rattle.vt_screen.proofs.screen.scrolling.lf.Goals as goal

pub invariant_of-screen-2 : goal.invariant_of-screen-2
invariant_of-screen-2 g c =
    let k = c.screen.invariant in
    rw (c.in_ok-line_feed.ensures.page, c.in_ok-line_feed.ensures.sent.0)
    (kept_sent _ _ _ _ _ c.screen.inside.grid.width (rows_fed_out c.screen.inside.grid k.sound)
    (stable_fed_out coloring c.screen.inside.grid k.colored)
    (kept_fed c.screen.inside.grid c.screen.inside.last _ k))

pub returns-clause-done : goal.returns-clause-done
returns-clause-done g c =
    let s = the_view c.screen.inside in
    let rows = rows_reported (fed_out s.page) c.screen.inside.scrollback in
    let sent = c.in_ok-line_feed.ensures.sent in
    let same = same_callbacks g.CB.Callbacks.does rows _ c.line_feed.new.leaving sent.1 in
    let all = reported_to g.CB.Callbacks.does s.is_alternate rows _ c.line_feed.new.leaving refl sent.1 in
    line_fed g.CB.Callbacks.does s c.args.screen.now c.line_feed.new.self c.screen.inside.scrollback
    c.screen.inside.other_scrollback c.line_feed.new.above c.args.callbacks.now _
    c.screen.view_is refl c.screen.invariant.nothing c.in_ok-line_feed.ensures.page sent.0
    (subst (λ z. FoldsTo (CalledOnScroll g.CB.Callbacks.does s.is_alternate) c.args.callbacks.now rows z) (search rules) all)
