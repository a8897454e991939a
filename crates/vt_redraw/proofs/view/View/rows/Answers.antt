use Rattle.std.proofs.Common.{length, sym, ap, ◌∙◌, arith}
use Rattle.vt_redraw.specs.Picture.{Picture}
use Rattle.vt_redraw.proofs.Viewing.{viewed_height}
use Rattle.vt_redraw.proofs.view.View.rows.Goals as goal

pub returns-clause-value : goal.returns-clause-value
returns-clause-value c =
    let v = c.self.inside in
    c.len.ensures
    ∙ (sym (viewed_height v.source v.above.now v.rows.now.rows v.cols v.pen v.hidden)
    ∙ ap (λ (p : Picture). length p.rows) c.self.view_is)

pub returns-clause-nonempty : goal.returns-clause-nonempty
returns-clause-nonempty c =
    let v = c.self.inside in
    let size = sym (viewed_height v.source v.above.now v.rows.now.rows v.cols v.pen v.hidden)
    ∙ ap (λ (p : Picture). length p.rows) c.self.view_is in
    let row = c.self.invariant.0.row in
    omega arith
