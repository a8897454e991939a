-- Nothing is collected.
use Rattle.std.proofs.Common.{rules}
use Rattle.vt_charsets.proofs.Standing.{stands_empty}
use Rattle.vt_charsets.proofs.charsets.Charsets.end.Goals as goal

pub invariant_of-self : goal.invariant_of-self
invariant_of-self c = stands_empty _ (search rules) (search rules)
