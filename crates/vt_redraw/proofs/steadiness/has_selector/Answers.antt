use Rattle.std.proofs.Common.{◌∙◌, ◌||◌, Bool, ap, chars, eqb-true, length, subst, sym, ◌<◌, ℕ}
use Rattle.std.specs.List.{list_any}
use Rattle.std.proofs.StrCases.{chars_of_empty}
use Rattle.std.proofs.lemmas.Str.{IsUtf8-past_char, chars_past_char}
use Rattle.vt_cells.specs.Glyph.{is_selector}
use Rattle.vt_redraw.proofs.SteadyTests.{none_of, selector_in_text, short_has_none}
use Rattle.vt_redraw.proofs.steadiness.has_selector.Goals as goal

pub returns-then-text-lt-SELECTED_LEN-clause-value : goal.returns-then-text-lt-SELECTED_LEN-clause-value
returns-then-text-lt-SELECTED_LEN-clause-value c =
    sym (short_has_none c.args.cell.now c.contents-text.ensures.sound
    (subst (λ (n : ℕ). n < 4) (ap length c.contents-text.ensures.value) c.if-text-lt-SELECTED_LEN.true))

pub loop-c-init : goal.loop-c-init
loop-c-init c =
    rw (c.into_iter-c-iterator.ensures.into_iter_gives, c.chars-c-items.ensures.rest) (
      c.contents-text.utf8,
      ap (λ bs. list_any is_selector (chars bs)) c.contents-text.ensures.value ∙ selector_in_text c.args.cell.now,
    )

pub returns-then-c-eq-SELECTOR-clause-value : goal.returns-then-c-eq-SELECTOR-clause-value
returns-then-c-eq-SELECTOR-clause-value c =
    let held = c.loop-c.invariant in
    let same = ap is_selector c.if-c-eq-SELECTOR.true in
    let first = ap (list_any is_selector) (chars_past_char _ _ c.in-Some.c held.0 c.in-Some.ensures.steps.0) in
    sym (ap (λ (b : Bool). b || list_any is_selector (chars c.next.new.self.rest.now)) same) ∙ (sym first ∙ held.1)

pub loop-c-preserved : goal.loop-c-preserved
loop-c-preserved c =
    let held = c.loop-c.invariant in
    let parts = c.in-Some.ensures.steps.0 in
    let other = none_of (is_selector c.in-Some.c) (λ t. c.if-c-eq-SELECTOR.false (eqb-true _ _ t)) in (
      IsUtf8-past_char _ _ c.in-Some.c held.0 parts,
      sym (ap (λ (b : Bool). b || list_any is_selector (chars c.next.new.self.rest.now)) other)
          ∙ (sym (ap (list_any is_selector) (chars_past_char _ _ c.in-Some.c held.0 parts)) ∙ held.1),
    )

pub returns-clause-value : goal.returns-clause-value
returns-clause-value c =
    sym (ap (list_any is_selector) (chars_of_empty _ c.in-None.ensures.steps.0.0)) ∙ c.loop-c.invariant.1
