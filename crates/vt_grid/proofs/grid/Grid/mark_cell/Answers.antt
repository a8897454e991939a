use Rattle.std.proofs.Common.{◌≡◌, ◌∙◌, true, sym}
use Rattle.std.proofs.Common.{eq-eqb}
use Rattle.vt_cells.specs.Glyph.{is_selector}
use Rattle.vt_grid.specs.Internals.{IsMarkPlace}
use Rattle.vt_grid.specs.Page.{cursor_row}
use Rattle.vt_grid.proofs.Printing.{mark_place, marked_selected}
use Rattle.vt_grid.proofs.Carries.{stays_before}
use Rattle.vt_grid.proofs.grid.Grid.mark_cell.Goals as goal

pub takes_mark-requires : goal.takes_mark-requires
takes_mark-requires c =
    let place = mark_place c.args.self.now c.mark_col-col.ensures.page c.requires.after_first in
    rw c.mark_col-col.ensures.value place.inside

pub put_mark-requires-clause-inside : goal.put_mark-requires-clause-inside
put_mark-requires-clause-inside c =
    let place = mark_place c.args.self.now c.mark_col-col.ensures.page c.requires.after_first in
    rw c.mark_col-col.ensures.value place.inside

pub put_mark-requires-clause-shown : goal.put_mark-requires-clause-shown
put_mark-requires-clause-shown c =
    let place = mark_place c.args.self.now c.mark_col-col.ensures.page c.requires.after_first in
    rw c.mark_col-col.ensures.value place.shown

pub follow_width-requires-clause-selected : goal.follow_width-requires-clause-selected
follow_width-requires-clause-selected c =
    let page = c.args.self.now in
    let k = c.mark_col-col.result in
    let p = c.mark_col-col.ensures.page in
    let place : IsMarkPlace (cursor_row page).cells page.column k =
    rw c.mark_col-col.ensures.value (mark_place page p c.requires.after_first) in
    let selector : is_selector c.args.mark ≡ true = eq-eqb c.args.mark 0xFE0F c.if-mark-eq65039.true in
    rw c.put_mark.ensures (marked_selected k c.args.mark page (c.ranges.mark.0, c.requires.mark)
    selector (sym c.takes_mark.ensures ∙ c.if-takes_mark.true) place p)

pub follow_width-requires-clause-room : goal.follow_width-requires-clause-room
follow_width-requires-clause-room c =
    let page = c.args.self.now in
    let p = c.mark_col-col.ensures.page in
    let selector : is_selector c.args.mark ≡ true = eq-eqb c.args.mark 0xFE0F c.if-mark-eq65039.true in
    let place = mark_place page p c.requires.after_first in
    rw (c.put_mark.ensures, c.mark_col-col.ensures.value)
    (stays_before c.args.mark page p place.inside selector
    (rw c.mark_col-col.ensures.value at (sym c.takes_mark.ensures ∙ c.if-takes_mark.true)) c.requires.stays)
