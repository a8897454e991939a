-- A new number in the last group, if there is room.
use Rattle.std.proofs.Common.{arith, ◌∙◌, take}
use Rattle.vt_scan.proofs.ParameterGroups.{Ascends-number}
use Rattle.vt_scan.proofs.ParameterNumbers.{step_number, step_number_full}
use Rattle.vt_scan.proofs.parameters.Parameters.end_number.Goals as goal

pub returns-then-self-eq-MAX_NUMBERS : goal.returns-then-self-eq-MAX_NUMBERS
returns-then-self-eq-MAX_NUMBERS c = λ text e.
    step_number_full c.self.inside.numbers (take c.self.inside.closed c.self.inside.ends)
    c.self.inside.len c.self.inside.is_cut text
    c.if-self-eq-MAX_NUMBERS.true (omega arith) c.self.invariant.2 (c.self.view_is ∙ e)

pub invariant_of-self-2 : goal.invariant_of-self-2
invariant_of-self-2 c = (
  omega arith,
  omega arith,
  Ascends-number 0 (take c.self.inside.closed c.self.inside.ends) c.self.inside.len c.self.invariant.2,
  λ cuts. absurd (c.if-self-eq-MAX_NUMBERS.false (c.self.invariant.3 cuts)),
)

pub returns : goal.returns
returns c = λ text e.
    step_number c.self.inside.numbers (take c.self.inside.closed c.self.inside.ends)
    c.self.inside.len c.self.inside.is_cut text
    (omega arith) (omega arith) c.self.invariant.2 c.self.invariant.3 (c.self.view_is ∙ e)
