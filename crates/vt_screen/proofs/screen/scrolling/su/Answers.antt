-- The region is scrolled up, and the rows that scrolled off are reported.
use Rattle.std.proofs.Common.{refl, subst, rules}
use Rattle.std.specs.List.{FoldsTo}
use Rattle.vt_grid.specs.Outgoing.{scrolled_out}
use Rattle.vt_grid.specs.Scrollback.{rows_reported}
use Rattle.vt_screen.specs.Run.{CalledOnScroll}
use Rattle.vt_screen.specs.contracts.screen.Screen.{the_view}
use Rattle.vt_screen.proofs.StepInvariant.{kept_sent, rows_scrolled_out, kept_scrolled_up}
use Rattle.vt_screen.proofs.StepScrollback.{stable_scrolled_out, coloring}
use Rattle.vt_screen.proofs.CallsReported.{same_callbacks, reported_to, scrolled_up_by}
use Rattle.vt_screen.proofs.screen.scrolling.su.Goals as goal

pub invariant_of-screen-2 : goal.invariant_of-screen-2
invariant_of-screen-2 g c =
    let k = c.screen.invariant in
    rw (c.in_ok-scroll_up.ensures.page, c.in_ok-scroll_up.ensures.sent.0)
    (kept_sent _ _ _ _ _ c.screen.inside.grid.width (rows_scrolled_out c.args.count c.screen.inside.grid k.sound)
    (stable_scrolled_out coloring c.args.count c.screen.inside.grid k.colored)
    (kept_scrolled_up c.args.count c.screen.inside.grid c.screen.inside.last _ k))

pub returns-clause-done : goal.returns-clause-done
returns-clause-done g c =
    let s = the_view c.screen.inside in
    let rows = rows_reported (scrolled_out c.args.count s.page) c.screen.inside.scrollback in
    let sent = c.in_ok-scroll_up.ensures.sent in
    let same = same_callbacks g.CB.Callbacks.does rows _ c.scroll_up.new.leaving sent.1 in
    let all = reported_to g.CB.Callbacks.does s.is_alternate rows _ c.scroll_up.new.leaving refl sent.1 in
    scrolled_up_by g.CB.Callbacks.does c.args.count s c.args.screen.now c.scroll_up.new.self
    c.screen.inside.scrollback c.screen.inside.other_scrollback c.scroll_up.new.above c.args.callbacks.now
    _ c.screen.view_is refl c.screen.invariant.nothing c.in_ok-scroll_up.ensures.page sent.0
    (subst (λ z. FoldsTo (CalledOnScroll g.CB.Callbacks.does s.is_alternate) c.args.callbacks.now rows z) (search rules) all)
