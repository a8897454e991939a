use Rattle.std.proofs.Common.{subst, sym, ◌∙◌}
use Rattle.vt_screen.specs.ShortMoves.{IsElement}
use Rattle.vt_screen.specs.declared.short_moves.elements.Element.{Element}
use Rattle.vt_screen.proofs.ReadElements.{after_ascii, after_character, element_copied, still_element}
use Rattle.vt_screen.proofs.ShortMoves.{printed_ascii, printed_other, printed_still}
use Rattle.vt_screen.proofs.short_moves.position_after.Goals as goal

pub returns-in-Some-clause-replaces : goal.returns-in-Some-clause-replaces
returns-in-Some-clause-replaces c =
    after_ascii c.args.size.rows c.args.size.cols c.args.at c.in-Some.from c.after_characters.result
    c.args.head.now c.in-Some.is
    (subst (λ (e : Element). IsElement e c.args.head.now) c.in-Ascii.is c.requires) c.after_characters.ensures

pub returns-in-None-clause-replaces : goal.returns-in-None-clause-replaces
returns-in-None-clause-replaces c =
    element_copied c.args.size.rows c.args.size.cols c.args.at c.args.element c.args.head.now c.requires

pub returns-in-Some-at-clause-replaces : goal.returns-in-Some-at-clause-replaces
returns-in-Some-at-clause-replaces c =
    after_character c.args.size.rows c.args.size.cols c.in-Other.c c.args.at c.in-Some-at.from c.after_other.result
    c.args.head.now c.in-Some-at.is
    (subst (λ (e : Element). IsElement e c.args.head.now) c.in-Other.is c.requires) c.after_other.ensures

pub returns-in-None-at-clause-replaces : goal.returns-in-None-at-clause-replaces
returns-in-None-at-clause-replaces c =
    element_copied c.args.size.rows c.args.size.cols c.args.at c.args.element c.args.head.now c.requires

pub returns-in_default-clause-replaces : goal.returns-in_default-clause-replaces
returns-in_default-clause-replaces c =
    still_element c.args.size.rows c.args.size.cols c.args.at c.args.element c.args.head.now c.requires
    (sym c.is_still.ensures ∙ c.if-is_still.true)

pub returns-in_default-2-clause-replaces : goal.returns-in_default-2-clause-replaces
returns-in_default-2-clause-replaces c =
    element_copied c.args.size.rows c.args.size.cols c.args.at c.args.element c.args.head.now c.requires

pub returns-in-Lines-clause-replaces : goal.returns-in-Lines-clause-replaces
returns-in-Lines-clause-replaces c =
    element_copied c.args.size.rows c.args.size.cols c.args.at c.args.element c.args.head.now c.requires

pub returns-in-Some-clause-printed : goal.returns-in-Some-clause-printed
returns-in-Some-clause-printed c =
    printed_ascii c.args.size.cols c.args.at c.in-Some.from c.args.element c.after_characters.result c.args.head.now
    c.in-Some.is c.in-Ascii.is c.after_characters.ensures

pub returns-in-Some-at-clause-printed : goal.returns-in-Some-at-clause-printed
returns-in-Some-at-clause-printed c =
    printed_other c.args.size.cols c.in-Other.c c.args.at c.in-Some-at.from c.args.element c.after_other.result
    c.args.head.now c.in-Some-at.is c.in-Other.is c.after_other.ensures

pub returns-in_default-clause-printed : goal.returns-in_default-clause-printed
returns-in_default-clause-printed c =
    printed_still c.args.size.cols c.args.at c.args.element c.args.head.now (sym c.is_still.ensures ∙ c.if-is_still.true)
