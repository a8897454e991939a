-- A byte in the ground state, by its effect on an incomplete character.
use Rattle.std.proofs.Common.{◌∙◌, ℕ, List, ap, subst}
use Rattle.vt_scan.specs.Scanner.{ScannerValue, Follows}
use Rattle.vt_scan.specs.Automaton.{step_in}
use Rattle.vt_scan.specs.declared.table.Kind.TheVariants.{Ground}
use Rattle.vt_scan.proofs.Steps.{some_from, fed_further, fed_character, fed_broken, stands_plain}
use Rattle.vt_scan.proofs.automaton.Scanner.feed_ground.Goals as goal

pub returns-in-Further : goal.returns-in-Further
returns-in-Further c =
    fed_further c.self.inside.unfinished c.args.self.now.unfinished _
    c.args.byte c.none.result (ap (λ (h : ScannerValue). h.unfinished) c.self.view_is)
    (some_from c.self.inside.unfinished c.if-is_empty.ensures)
    (ap (λ (h : ScannerValue). h.kind) c.self.view_is ∙ c.requires) c.in-Further.ensures c.none.ensures

pub returns-in-Character : goal.returns-in-Character
returns-in-Character c =
    fed_character c.self.inside.unfinished c.args.self.now.unfinished _ c.args.byte
    c.in-Character.c c.one.result (ap (λ (h : ScannerValue). h.unfinished) c.self.view_is)
    (some_from c.self.inside.unfinished c.if-is_empty.ensures)
    (ap (λ (h : ScannerValue). h.kind) c.self.view_is ∙ c.requires) c.in-Character.ensures c.one.ensures

pub returns-in-Broken : goal.returns-in-Broken
returns-in-Broken c =
    subst (λ (l : List ℕ). Follows c.feed_fresh-in-Broken.new.self c.after.result (step_in Ground l c.args.byte))
    (ap (λ (h : ScannerValue). h.unfinished) c.self.view_is)
    (fed_broken c.self.inside.unfinished c.feed_fresh-in-Broken.new.self
    c.args.byte c.feed_fresh-in-Broken.result c.after.result c.extend.new.self
    (some_from c.self.inside.unfinished c.if-is_empty.ensures) c.in-Broken.ensures
    c.feed_fresh-in-Broken.ensures.follows c.feed_fresh-in-Broken.ensures.single c.after.ensures)

pub invariant_of-self : goal.invariant_of-self
invariant_of-self c = stands_plain _ (ap (λ (h : ScannerValue). h.kind) c.self.view_is ∙ c.requires)

pub invariant_of-self-in-Character : goal.invariant_of-self-in-Character
invariant_of-self-in-Character c = stands_plain _ (ap (λ (h : ScannerValue). h.kind) c.self.view_is ∙ c.requires)

pub invariant_of-self-in-Broken : goal.invariant_of-self-in-Broken
invariant_of-self-in-Broken c = stands_plain _ (ap (λ (h : ScannerValue). h.kind) c.self.view_is ∙ c.requires)
