use Rattle.vt_redraw.proofs.CellSteps.{passes_run}
use Rattle.vt_redraw.proofs.passing.pass_same.Goals as goal

pub returns-clause-passed : goal.returns-clause-passed
returns-clause-passed c =
    passes_run c.args.col _ _ _ c.requires.range c.same_run.ensures.inside c.same_run.ensures.same
