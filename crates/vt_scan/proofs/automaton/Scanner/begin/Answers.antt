-- Nothing is collected, in any kind of state.
use Rattle.std.proofs.Common.{[], refl, rules}
use Rattle.vt_scan.proofs.Steps.{stands_by, stands_plain, stands_in_command}
use Rattle.vt_scan.proofs.automaton.Scanner.begin.Goals as goal

pub invariant_of-self : goal.invariant_of-self
invariant_of-self c = stands_plain _ c.in-Ground.is

pub invariant_of-self-in-CsiIgnore : goal.invariant_of-self-in-CsiIgnore
invariant_of-self-in-CsiIgnore c = stands_by _ c.args.kind [] refl (search rules)

pub invariant_of-self-in-OscString : goal.invariant_of-self-in-OscString
invariant_of-self-in-OscString c = stands_in_command _ c.in-OscString.is

pub invariant_of-self-in_default : goal.invariant_of-self-in_default
invariant_of-self-in_default c = stands_by _ c.args.kind [] refl (search rules)
