-- A private marker after `[`.
use Rattle.std.proofs.Common.{◌∙◌, ap, refl, subst, sym}
use Rattle.vt_scan.specs.Automaton.{State}
use Rattle.vt_scan.specs.Scanner.{ScannerValue, StandsFor}
use Rattle.vt_scan.proofs.Steps.{no_event, stands_fed}
use Rattle.vt_scan.proofs.Leading.{marker_feeds}
use Rattle.vt_scan.proofs.automaton.Scanner.take_private_marker.Goals as goal

pub invariant_of-self : goal.invariant_of-self
invariant_of-self c =
    stands_fed c.args.self.now _ c.args.byte no_event
    (marker_feeds c.args.self.now _ c.args.byte c.requires
    (sym c.is_marker_byte-takes.ensures ∙ c.if-takes.true) refl
    (ap (λ (h : ScannerValue). h.table) c.self.view_is)
    (λ all e. c.push.ensures all (ap (λ (h : ScannerValue). h.intermediates) c.self.view_is ∙ e)))
    (subst (λ (held : ScannerValue). ∥ ((state : State) × StandsFor held state) ∥₁) c.self.view_is c.self.invariant)

pub returns-then-takes-clause-fed : goal.returns-then-takes-clause-fed
returns-then-takes-clause-fed c = λ is.
    marker_feeds c.args.self.now _ c.args.byte c.requires
    (sym c.is_marker_byte-takes.ensures ∙ c.if-takes.true) refl
    (ap (λ (h : ScannerValue). h.table) c.self.view_is)
    (λ all e. c.push.ensures all (ap (λ (h : ScannerValue). h.intermediates) c.self.view_is ∙ e))
