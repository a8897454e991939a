-- Some parameter bytes, or none.
use Rattle.std.proofs.Common.{◌<◌, ◌∙◌, ◌++◌, [], ℕ, ap, arith, length, refl, subst, take}
use Rattle.std.proofs.lemmas.List.{length-take}
use Rattle.vt_scan.specs.Automaton.{State}
use Rattle.vt_scan.specs.Parameters.{table_of}
use Rattle.vt_scan.specs.Scanner.{ScannerValue, StandsFor}
use Rattle.vt_scan.proofs.Leading.{parameters_feed, parameters_none}
use Rattle.vt_scan.proofs.Steps.{stands_fed_all}
use Rattle.vt_scan.proofs.automaton.Scanner.take_parameter_bytes.Goals as goal

pub invariant_of-self : goal.invariant_of-self
invariant_of-self c =
    let bytes = c.args.bytes.now in
    stands_fed_all c.args.self.now _ [] []
    (parameters_none c.args.self.now _ c.requires (ap (λ (h : ScannerValue). h.kind) c.self.view_is)
    (ap (λ (h : ScannerValue). h.intermediates) c.self.view_is)
    (λ all e. c.push_all-count.ensures.read all (ap (λ (h : ScannerValue). h.table) c.self.view_is ∙ e)
    ∙ ap (λ (n : ℕ). table_of (all ++ take n bytes)) c.if-count-eq0.true))
    (subst (λ (held : ScannerValue). ∥ ((state : State) × StandsFor held state) ∥₁) c.self.view_is c.self.invariant)

pub invariant_of-self-2 : goal.invariant_of-self-2
invariant_of-self-2 c =
    let text = take c.push_all-count.result c.args.bytes.now in
    let some : 0 < length text =
    omega (arith, length-take c.push_all-count.result c.args.bytes.now, c.if-count-eq0.false, c.push_all-count.ensures.inside) in
    stands_fed_all c.args.self.now _ text []
    (parameters_feed c.args.self.now _ text c.requires c.push_all-count.ensures.parameters some refl
    (ap (λ (h : ScannerValue). h.intermediates) c.self.view_is)
    (λ all e. c.push_all-count.ensures.read all (ap (λ (h : ScannerValue). h.table) c.self.view_is ∙ e)))
    (subst (λ (held : ScannerValue). ∥ ((state : State) × StandsFor held state) ∥₁) c.self.view_is c.self.invariant)

pub returns-clause-fed : goal.returns-clause-fed
returns-clause-fed c =
    let text = take c.push_all-count.result c.args.bytes.now in
    let some : 0 < length text =
    omega (arith, length-take c.push_all-count.result c.args.bytes.now, c.if-count-eq0.false, c.push_all-count.ensures.inside) in
    parameters_feed c.args.self.now _ text c.requires c.push_all-count.ensures.parameters some refl
    (ap (λ (h : ScannerValue). h.intermediates) c.self.view_is)
    (λ all e. c.push_all-count.ensures.read all (ap (λ (h : ScannerValue). h.table) c.self.view_is ∙ e))
