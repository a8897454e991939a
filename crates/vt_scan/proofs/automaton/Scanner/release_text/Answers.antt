-- Outside of a command, nothing is read from its text.
use Rattle.std.proofs.Math.Logic.{∥∥₁_map}
use Rattle.vt_scan.specs.Automaton.{State}
use Rattle.vt_scan.specs.Internals.{scanner_value}
use Rattle.vt_scan.specs.Scanner.{ScannerValue, StandsFor}
use Rattle.vt_scan.proofs.Steps.{stands_without_text}
use Rattle.vt_scan.proofs.automaton.Scanner.release_text.Goals as goal

pub invariant_of-self : goal.invariant_of-self
invariant_of-self c =
    let old : ScannerValue = scanner_value c.self.inside.kind c.self.inside.unfinished c.self.inside.parameters
    c.self.inside.intermediates c.self.inside.text.items in
    let new : ScannerValue = record old { text = c.release.new.text.items } in
    ∥∥₁_map {B = (state : State) × StandsFor new state} c.self.invariant
    (λ (s : (state : State) × StandsFor old state).
    (s.0, stands_without_text old c.release.new.text.items s.0 c.in_default.not-OscString s.1))
