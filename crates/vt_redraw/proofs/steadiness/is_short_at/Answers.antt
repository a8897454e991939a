use Rattle.std.proofs.Common.{All, ◌≡◌, false, subst, sym}
use Rattle.vt_cells.specs.Cell.{CellValue}
use Rattle.vt_grid.specs.Page.{row_or}
use Rattle.vt_redraw.specs.Steady.{has_selector}
use Rattle.vt_redraw.proofs.SteadyTests.{none_resized}
use Rattle.vt_redraw.proofs.SteadyWithout.{plain_row}
use Rattle.vt_redraw.proofs.steadiness.is_short_at.Goals as goal

pub returns-in-Some : goal.returns-in-Some
returns-in-Some c holds =
    let view = c.args.view.now in
    let uncut = c.uncut_cells.ensures in
    plain_row view.width (row_or view.width view.rows c.args.row) uncut.nonempty uncut.sound
    (subst (All (λ (cell : CellValue). has_selector cell ≡ false)) (sym c.in-Some.ensures.cells)
    (none_resized view.width c.in-Some.cells.now uncut.nonempty c.in-Some.ensures.paired (c.are_short.ensures holds)))
