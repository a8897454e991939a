use Rattle.vt100_c.proofs.Scrolling.{with_options}
use Rattle.vt100_c.proofs.output.contents_diff_with.Goals as goal

pub returns-clause-text : goal.returns-clause-text
returns-clause-text c =
    with_options c.args.options _ _ c.contents_diff_with.result c.or_status.result
    c.contents_diff_with.ensures.text c.contents_diff_with.ensures.controls c.contents_diff_with.ensures.rows
    c.contents_diff_with.ensures.again c.contents_diff_with.ensures.shorter c.contents_diff_with.ensures.redraw
    c.contents_diff_with.ensures.redraws c.contents_diff_with.ensures.empty c.contents_diff_with.ensures.none
    c.contents_diff_with.ensures.portable c.or_status.ensures.text
