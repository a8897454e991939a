use Rattle.vt_redraw.proofs.CellSteps.{passes_run}
use Rattle.vt_redraw.proofs.passing.pass_ended.Goals as goal

pub returns-clause-passed : goal.returns-clause-passed
returns-clause-passed c =
    passes_run c.args.col _ _ _ c.requires.range c.end_run.ensures.inside c.end_run.ensures.same
