-- The invariant of the type, for the value.
use Rattle.std.proofs.Common.{subst}
use Rattle.vt_scan.specs.Automaton.{State}
use Rattle.vt_scan.specs.Scanner.{ScannerValue, StandsFor}
use Rattle.vt_scan.proofs.automaton.Scanner.stands.Goals as goal

pub returns : goal.returns
returns c = subst (λ (held : ScannerValue). ∥ ((state : State) × StandsFor held state) ∥₁) c.self.view_is c.self.invariant
