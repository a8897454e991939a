-- A digit changes the last number, if that is kept.
use Rattle.std.proofs.Common.{arith, ◌∙◌, sym, take}
use Rattle.vt_scan.specs.Internals.{groups_from}
use Rattle.vt_scan.proofs.ParameterNumbers.{step_digit, step_digit_cut}
use Rattle.vt_scan.proofs.parameters.Parameters.push_digit.Goals as goal

pub returns-then-self : goal.returns-then-self
returns-then-self c = λ text e.
    sym c.self.view_is
    ∙ step_digit_cut
    (groups_from 0 (take c.self.inside.closed c.self.inside.ends) c.self.inside.len c.self.inside.numbers)
    c.args.byte c.self.inside.is_cut text c.requires.to c.if-self.true (c.self.view_is ∙ e)

pub returns : goal.returns
returns c = λ text e.
    step_digit c.self.inside.numbers (take c.self.inside.closed c.self.inside.ends)
    c.self.inside.len c.args.byte c.with_digit.result c.self.inside.is_cut text
    (omega arith) (omega arith) c.self.invariant.2 c.requires.to
    c.if-self.false c.with_digit.ensures (c.self.view_is ∙ e)
