-- Only the state of the character sets changes.
use Rattle.vt_charsets.proofs.Standing.{stands_with}
use Rattle.vt_charsets.proofs.charsets.Charsets.execute.Goals as goal

pub invariant_of-self : goal.invariant_of-self
invariant_of-self c = stands_with _ _ c.self.invariant
