-- A new group with one number, if there is room.
use Rattle.std.proofs.Common.{arith, ◌∙◌, take}
use Rattle.vt_scan.proofs.ParameterNumbers.{step_ends, step_group, step_group_full}
use Rattle.vt_scan.proofs.parameters.Parameters.end_group.Goals as goal

pub returns-then-self-eq-MAX_NUMBERS : goal.returns-then-self-eq-MAX_NUMBERS
returns-then-self-eq-MAX_NUMBERS c = λ text e.
    step_group_full c.self.inside.numbers (take c.self.inside.closed c.self.inside.ends)
    c.self.inside.len c.self.inside.is_cut text
    c.if-self-eq-MAX_NUMBERS.true (omega arith) c.self.invariant.2 (c.self.view_is ∙ e)

pub invariant_of-self-2 : goal.invariant_of-self-2
invariant_of-self-2 c = (
  omega arith,
  omega arith,
  step_ends c.self.inside.ends c.self.inside.closed c.self.inside.len (omega arith) c.self.invariant.2,
  λ cuts. absurd (c.if-self-eq-MAX_NUMBERS.false (c.self.invariant.3 cuts)),
)

pub returns : goal.returns
returns c = λ text e.
    step_group c.self.inside.numbers c.self.inside.ends c.self.inside.closed c.self.inside.len c.self.inside.is_cut text
    (omega arith) (omega arith) (omega arith) c.self.invariant.2 c.self.invariant.3 (c.self.view_is ∙ e)
