use Rattle.vt_redraw.proofs.Viewing.{new_is}
use Rattle.vt_redraw.proofs.view.View.new.Goals as goal

pub returns-clause-sound : goal.returns-clause-sound
returns-clause-sound c =
    new_is c.args.above.now c.args.grid.now c.rows.result.now.rows c.size.result.cols
    c.pos-pos.result.row c.pos-pos.result.col c.args.attrs c.args.hidden c.requires.above c.requires.page
    c.rows.ensures.rows c.size.ensures.cols c.pos-pos.ensures.row c.pos-pos.ensures.col
