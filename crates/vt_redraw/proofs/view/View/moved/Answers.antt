use Rattle.vt_redraw.proofs.Viewing.{moved_is}
use Rattle.vt_redraw.proofs.view.View.moved.Goals as goal

pub returns : goal.returns
returns c attrs =
    moved_is c.args.above.now c.args.grid.now c.rows.result.now.rows c.size-size.result.cols
    c.size-size.result.rows c.last_moved.result attrs c.new.result c.args.hidden c.args.band
    c.rows.ensures.rows c.size-size.ensures.cols c.size-size.ensures.rows
    c.last_moved.ensures.value c.new.ensures
