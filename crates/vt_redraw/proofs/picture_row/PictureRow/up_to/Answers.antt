use Rattle.std.proofs.Common.{◌≡◌, min, length, take, ap, sym, ◌∙◌, arith}
use Rattle.vt_rows.specs.Row.{RowValue}
use Rattle.vt_redraw.specs.Internals.{cells_filled_to}
use Rattle.vt_redraw.proofs.Filling.{filled_taken, length-filled}
use Rattle.vt_redraw.proofs.picture_row.PictureRow.up_to.Goals as goal

pub returns-clause-cells : goal.returns-clause-cells
returns-clause-cells c =
    let v = c.self.inside in
    let inside = c.self.invariant.inside in
    let stop = c.args.stop in
    let size =
    ap (λ (z : RowValue). length z.cells) (sym c.self.view_is) ∙ length-filled v.cells.now v.cols v.end inside in
    let asked = c.requires in
    let same = c.from.ensures in
    let least = c.min-kept.ensures in
    let kept : c.min-kept.result ≡ min (length v.cells.now) stop = omega arith in
    ap (λ n. cells_filled_to (take n v.cells.now) stop v.end) kept
    ∙ (filled_taken v.cells.now v.cols stop v.end (omega arith) inside
    ∙ ap (λ (z : RowValue). take stop z.cells) c.self.view_is)
