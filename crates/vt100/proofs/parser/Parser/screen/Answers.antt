use Rattle.std.proofs.Common.{ap, subst}
use Rattle.vt_scan.specs.Automaton.{State}
use Rattle.vt_scan.specs.Scanner.{ScannerValue, StandsFor}
use Rattle.vt100.specs.Parser.{ParserValue}
use Rattle.vt100.proofs.parser.Parser.screen.Goals as goal

pub returns-clause-stands : goal.returns-clause-stands
returns-clause-stands g c =
    subst (λ (held : ScannerValue). ∥ ((state : State) × StandsFor held state) ∥₁)
    (ap (λ (p : ParserValue g.row.CB.Denot). p.scanner) c.self.view_is) c.stands.ensures
