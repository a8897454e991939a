use Rattle.std.proofs.Common.{length, subst, ◌<◌}
use Rattle.vt_redraw.specs.Picture.{Picture}
use Rattle.vt_redraw.proofs.Viewing.{viewed_row}
use Rattle.vt_redraw.proofs.view.View.is_past_uncertain.Goals as goal

pub row-row-requires : goal.row-row-requires
row-row-requires c =
    let v = c.self.inside in
    subst (λ (p : Picture). v.pen.row < length p.rows) c.self.view_is
    (viewed_row v.source v.above.now v.rows.now.rows v.cols v.pen v.hidden c.self.invariant.0)
