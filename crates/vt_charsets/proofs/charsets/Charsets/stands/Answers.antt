-- The invariant of the type, for the value.
use Rattle.std.proofs.Common.{subst}
use Rattle.vt_charsets.specs.Charsets.{CharsetsValue, StandsFor}
use Rattle.vt_charsets.specs.Translation.{Reading}
use Rattle.vt_charsets.proofs.charsets.Charsets.stands.Goals as goal

pub returns : goal.returns
returns c = subst (λ (held : CharsetsValue). ∥ ((r : Reading) × StandsFor held r) ∥₁) c.self.view_is c.self.invariant
