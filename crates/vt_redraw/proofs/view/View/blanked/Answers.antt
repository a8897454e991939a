use Rattle.std.proofs.Common.{◌∙◌, ap}
use Rattle.vt_redraw.specs.Redraw.{blank_like}
use Rattle.vt_redraw.proofs.Viewing.{blanked_is}
use Rattle.vt_redraw.proofs.view.View.blanked.Goals as goal

pub returns : goal.returns
returns c =
    let v = c.self.inside in
    blanked_is v.source v.above.now v.rows.now.rows v.cols v.pen c.new.result v.hidden c.new.ensures
    ∙ ap blank_like c.self.view_is
