-- The diff is of the kind that its name says.
use Rattle.std.proofs.Common.{subst, sym}
use Rattle.vt100_c.specs.Texts.{HasDifference}
use Rattle.vt100_c.specs.declared.output.Difference.{Difference}
use Rattle.vt100_c.proofs.output.difference_of.Goals as goal

pub returns-in-State-clause-nonempty : goal.returns-in-State-clause-nonempty
returns-in-State-clause-nonempty c = λ refused.
    subst (λ (d : Difference). HasDifference d c.args.screen.now c.args.prev.now) (sym c.in-State.is)
    (c.state_diff.ensures.nonempty refused)

pub returns-in-InputMode-clause-nonempty : goal.returns-in-InputMode-clause-nonempty
returns-in-InputMode-clause-nonempty c = λ refused.
    subst (λ (d : Difference). HasDifference d c.args.screen.now c.args.prev.now) (sym c.in-InputMode.is)
    (c.input_mode_diff.ensures.nonempty refused)
