use Rattle.vt100_c.proofs.Scrolling.{scrolls}
use Rattle.vt100_c.proofs.output.contents_diff_scrolling.Goals as goal

pub returns-clause-text : goal.returns-clause-text
returns-clause-text c =
    scrolls _ _ c.contents_diff_scrolling.result c.or_status.result
    c.contents_diff_scrolling.ensures.text c.contents_diff_scrolling.ensures.controls
    c.contents_diff_scrolling.ensures.again c.contents_diff_scrolling.ensures.shorter
    c.contents_diff_scrolling.ensures.redraw c.contents_diff_scrolling.ensures.redraws
    c.contents_diff_scrolling.ensures.empty c.contents_diff_scrolling.ensures.none c.or_status.ensures.text
