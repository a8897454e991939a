-- The character is printed, and the row that scrolled off is reported.
use Rattle.std.proofs.Common.{refl, subst, rules}
use Rattle.std.specs.List.{FoldsTo}
use Rattle.vt_cells.proofs.Packing.{attrs_fit}
use Rattle.vt_grid.specs.Outgoing.{printed_out}
use Rattle.vt_grid.specs.Scrollback.{rows_reported}
use Rattle.vt_screen.specs.Run.{CalledOnScroll}
use Rattle.vt_screen.specs.contracts.screen.Screen.{the_view}
use Rattle.vt_screen.proofs.StepInvariant.{kept_sent, rows_printed_out, kept_printed}
use Rattle.vt_screen.proofs.StepScrollback.{stable_printed_out, coloring}
use Rattle.vt_screen.proofs.CallsReported.{same_callbacks, reported_to, character_printed}
use Rattle.vt_screen.proofs.screen.printing.text.Goals as goal

pub invariant_of-screen-2 : goal.invariant_of-screen-2
invariant_of-screen-2 g c =
    let k = c.screen.invariant in
    rw (c.in_ok-print_columns.ensures.page, c.in_ok-print_columns.ensures.sent.0)
    (kept_sent _ _ _ _ _ c.screen.inside.grid.width
    (rows_printed_out c.args.c c.screen.inside.attrs c.screen.inside.grid k.sound)
    (stable_printed_out coloring c.args.c c.screen.inside.attrs c.screen.inside.grid (search (rules, attrs_fit)) k.colored)
    (kept_printed c.args.c c.screen.inside.attrs c.screen.inside.grid c.screen.inside.last _
    _ (search rules) c.requires c.last_after-last.ensures.printable (search (rules, attrs_fit)) k))

pub returns-clause-done : goal.returns-clause-done
returns-clause-done g c =
    let s = the_view c.screen.inside in
    let rows = rows_reported (printed_out c.args.c s.attrs s.page) c.screen.inside.scrollback in
    let sent = c.in_ok-print_columns.ensures.sent in
    let same = same_callbacks g.CB.Callbacks.does rows _ c.print_columns.new.leaving sent.1 in
    let all = reported_to g.CB.Callbacks.does s.is_alternate rows _ c.print_columns.new.leaving refl sent.1 in
    character_printed g.CB.Callbacks.does c.args.c s c.args.screen.now c.print_columns.new.self
    c.screen.inside.scrollback c.screen.inside.other_scrollback c.print_columns.new.above
    c.last_after-last.result c.args.callbacks.now _ c.screen.view_is refl c.screen.invariant.nothing
    c.in_ok-print_columns.ensures.page c.last_after-last.ensures.value sent.0
    (subst (λ z. FoldsTo (CalledOnScroll g.CB.Callbacks.does s.is_alternate) c.args.callbacks.now rows z) (search rules) all)
