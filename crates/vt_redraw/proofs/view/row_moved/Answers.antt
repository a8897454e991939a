use Rattle.vt_redraw.proofs.Viewing.{after_is, free_is}
use Rattle.vt_redraw.proofs.view.row_moved.Goals as goal

pub returns-in-Some : goal.returns-in-Some
returns-in-Some c =
    after_is c.args.above.now c.args.rows.now.rows c.args.cols c.args.band c.args.row c.in-Some.from
    c.ends.result c.row_seen.result c.requires.inside c.ends.ensures c.in-Some.ensures c.row_seen.ensures

pub returns-in-None : goal.returns-in-None
returns-in-None c =
    free_is c.args.above.now c.args.rows.now.rows c.args.cols c.args.band c.args.row
    c.blank.result c.requires.inside c.in-None.ensures c.blank.ensures
