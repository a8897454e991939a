use Rattle.std.proofs.Common.{length, subst, ◌<◌}
use Rattle.vt_redraw.specs.Picture.{Picture}
use Rattle.vt_redraw.proofs.Viewing.{viewed_row}
use Rattle.vt_redraw.proofs.view.View.pen_in.Goals as goal

pub returns-clause-inside : goal.returns-clause-inside
returns-clause-inside c =
    let v = c.self.inside in
    subst (λ (p : Picture). p.row < length p.rows) c.self.view_is
    (viewed_row v.source v.above.now v.rows.now.rows v.cols v.pen v.hidden c.self.invariant.0)
