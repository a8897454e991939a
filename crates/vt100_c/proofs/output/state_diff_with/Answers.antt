use Rattle.vt100_c.proofs.Scrolling.{state_with_options}
use Rattle.vt100_c.proofs.output.state_diff_with.Goals as goal

pub returns-clause-text : goal.returns-clause-text
returns-clause-text c =
    state_with_options c.args.options _ _ c.state_diff_with.result c.or_status.result
    c.state_diff_with.ensures.text c.state_diff_with.ensures.controls c.state_diff_with.ensures.rows
    c.state_diff_with.ensures.again c.state_diff_with.ensures.gives c.state_diff_with.ensures.shorter
    c.state_diff_with.ensures.redraw c.state_diff_with.ensures.empty c.state_diff_with.ensures.none
    c.state_diff_with.ensures.portable c.or_status.ensures.text
