-- A parameter byte or an intermediate is collected outside of an operating system command.
use Rattle.std.proofs.Common.{◌≢◌, ◌∙◌, ap, refl, rules, sym, filter, take, not, subst}
use Rattle.vt_scan.specs.Automaton.{is_parameter, parameter_text}
use Rattle.vt_scan.specs.Internals.{Fits}
use Rattle.vt_scan.specs.Parameters.{table_of}
use Rattle.vt_scan.specs.declared.table.Kind.{Kind}
use Rattle.vt_charsets.specs.Charsets.{CharsetsValue}
use Rattle.vt_scan.specs.declared.table.Kind.TheVariants.{OscString}
use Rattle.vt_scan.specs.declared.table.Transition.{Transition}
use Rattle.vt_scan.proofs.Steps.{filter-yes, filter-no}
use Rattle.vt_charsets.specs.Translation.{reading_by}
use Rattle.vt_charsets.proofs.Collecting.{stands_collected}
use Rattle.vt_charsets.proofs.Standing.{stands_on}
use Rattle.vt_charsets.proofs.charsets.Charsets.collect.Goals as goal

pub invariant_of-self : goal.invariant_of-self
invariant_of-self c =
    let other : c.self.inside.kind ≢ OscString = search rules in
    let is = sym c.if-is_parameter_byte.ensures in
    let fits : Fits c.self.inside.kind (Transition.Collect c.args.kind) =
    subst (λ (k : Kind). Fits k (Transition.Collect c.args.kind)) (sym (ap (λ (h : CharsetsValue). h.kind) c.self.view_is)) c.requires in
    stands_on _ _ (λ r. reading_by r c.args.byte (Transition.Collect c.args.kind))
    (stands_collected _ _ c.args.kind c.args.byte fits other refl refl
    (λ text e. c.push.ensures (parameter_text text) e
    ∙ ap table_of (sym (filter-yes is_parameter text c.args.byte is)))
    (λ text e. e ∙ ap (take 2) (sym (filter-no (λ x. not (is_parameter x)) text c.args.byte (ap not is)))))
    c.self.invariant

pub invariant_of-self-else-is_parameter_byte : goal.invariant_of-self-else-is_parameter_byte
invariant_of-self-else-is_parameter_byte c =
    let other : c.self.inside.kind ≢ OscString = search rules in
    let is = sym c.if-is_parameter_byte.ensures in
    let fits : Fits c.self.inside.kind (Transition.Collect c.args.kind) =
    subst (λ (k : Kind). Fits k (Transition.Collect c.args.kind)) (sym (ap (λ (h : CharsetsValue). h.kind) c.self.view_is)) c.requires in
    stands_on _ _ (λ r. reading_by r c.args.byte (Transition.Collect c.args.kind))
    (stands_collected _ _ c.args.kind c.args.byte fits other refl refl
    (λ text e. e ∙ ap table_of (sym (filter-no is_parameter text c.args.byte is)))
    (λ text e. c.push-else-is_parameter_byte.ensures (filter (λ x. not (is_parameter x)) text) e
    ∙ ap (take 2) (sym (filter-yes (λ x. not (is_parameter x)) text c.args.byte (ap not is)))))
    c.self.invariant
