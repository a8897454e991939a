-- Scrollback is erased, and its rows are reported.
use Rattle.std.proofs.Common.{refl, subst, rules}
use Rattle.std.specs.List.{FoldsTo}
use Rattle.vt_screen.specs.Run.{CalledOnScroll}
use Rattle.vt_screen.specs.contracts.screen.Screen.{the_view}
use Rattle.vt_screen.proofs.StepInvariant.{kept_cleared}
use Rattle.vt_screen.proofs.CallsReported.{same_callbacks, reported_to, scrollback_erased}
use Rattle.vt_screen.proofs.screen.scrolling.erase_scrollback.Goals as goal

pub invariant_of-screen : goal.invariant_of-screen
invariant_of-screen g c = rw c.clear.ensures.rows (kept_cleared c.screen.inside.grid c.screen.inside.last _ c.screen.invariant)

pub returns : goal.returns
returns g c =
    let s = the_view c.screen.inside in
    let rows = c.screen.inside.scrollback.rows in
    let told = c.clear.ensures.reported in
    let same = same_callbacks g.CB.Callbacks.does rows _ c.clear.new.leaving told in
    let all = reported_to g.CB.Callbacks.does s.is_alternate rows _ c.clear.new.leaving refl told in
    scrollback_erased g.CB.Callbacks.does s c.args.screen.now c.screen.inside.scrollback c.screen.inside.other_scrollback
    c.clear.new.self c.args.callbacks.now _ c.screen.view_is refl c.screen.invariant.nothing c.clear.ensures.rows
    (subst (λ z. FoldsTo (CalledOnScroll g.CB.Callbacks.does s.is_alternate) c.args.callbacks.now rows z) (search rules) all)
