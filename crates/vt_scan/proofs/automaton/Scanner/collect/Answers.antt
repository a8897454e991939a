-- A parameter byte or an intermediate is collected, and an operating system command is read from its bytes alone.
use Rattle.std.proofs.Common.{◌≡◌, ◌≢◌, ◌∙◌, ap, refl, subst, sym, rules}
use Rattle.vt_scan.specs.Automaton.{State}
use Rattle.vt_scan.specs.Scanner.{ScannerValue, StandsFor}
use Rattle.vt_scan.specs.declared.table.Kind.TheVariants.{OscString}
use Rattle.vt_scan.proofs.Steps.{collect_intermediate, collect_parameter, stands_in_command, stands_on}
use Rattle.vt_scan.proofs.automaton.Scanner.collect.Goals as goal

pub returns-clause-reads : goal.returns-clause-reads
returns-clause-reads c =
    let other : c.self.inside.kind ≢ OscString = search rules in
    collect_intermediate c.args.self.now _ c.args.kind c.args.byte c.requires
    (λ e. other (ap (λ (h : ScannerValue). h.kind) c.self.view_is ∙ e)) (sym c.if-is_parameter_byte.ensures)
    (ap (λ (h : ScannerValue). h.table) c.self.view_is)
    (λ all e. c.push-2.ensures all (ap (λ (h : ScannerValue). h.intermediates) c.self.view_is ∙ e))

pub invariant_of-self : goal.invariant_of-self
invariant_of-self c = let is : c.self.inside.kind ≡ OscString = search rules in stands_in_command _ is

pub invariant_of-self-then-is_parameter_byte : goal.invariant_of-self-then-is_parameter_byte
invariant_of-self-then-is_parameter_byte c =
    let other : c.self.inside.kind ≢ OscString = search rules in
    stands_on c.args.self.now _ c.args.kind c.args.byte refl
    (collect_parameter c.args.self.now _ c.args.kind c.args.byte c.requires
    (λ e. other (ap (λ (h : ScannerValue). h.kind) c.self.view_is ∙ e)) (sym c.if-is_parameter_byte.ensures)
    (ap (λ (h : ScannerValue). h.intermediates) c.self.view_is)
    (λ text e. c.push-then-is_parameter_byte.ensures text (ap (λ (h : ScannerValue). h.table) c.self.view_is ∙ e)))
    (subst (λ (held : ScannerValue). ∥ ((state : State) × StandsFor held state) ∥₁) c.self.view_is c.self.invariant)

pub invariant_of-self-2 : goal.invariant_of-self-2
invariant_of-self-2 c =
    let other : c.self.inside.kind ≢ OscString = search rules in
    stands_on c.args.self.now _ c.args.kind c.args.byte refl
    (collect_intermediate c.args.self.now _ c.args.kind c.args.byte c.requires
    (λ e. other (ap (λ (h : ScannerValue). h.kind) c.self.view_is ∙ e)) (sym c.if-is_parameter_byte.ensures)
    (ap (λ (h : ScannerValue). h.table) c.self.view_is)
    (λ all e. c.push-2.ensures all (ap (λ (h : ScannerValue). h.intermediates) c.self.view_is ∙ e)))
    (subst (λ (held : ScannerValue). ∥ ((state : State) × StandsFor held state) ∥₁) c.self.view_is c.self.invariant)
