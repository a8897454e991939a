use Rattle.std.proofs.Common.{◌≡◌, ◌∙◌, List, Option, Some, None, ℕ, ◌∷◌, ap, false, sym, true}
use Rattle.std.specs.Option.{MatchOption, is_some}
use Rattle.std.proofs.StrCases.{chars_of_empty}
use Rattle.std.proofs.lemmas.Str.{IsUtf8-past_char, chars_past_char}
use Rattle.vt_redraw.specs.Certain.{are_certain}
use Rattle.vt_redraw.proofs.certain.is_certain_character.Goals as goal

given : (o : Option ℕ) (N : Type 0) (S : ℕ → Type 0) → is_some o ≡ true → MatchOption o N S → (x : ℕ) × S x
given (Some x) N S t h = (x, h)
given None N S t h = absurd cc

ended : (o : Option ℕ) (N : Type 0) (S : ℕ → Type 0) → is_some o ≡ false → MatchOption o N S → N
ended (Some x) N S f h = absurd cc
ended None N S f h = h

pub returns-then-is_some : goal.returns-then-is_some
returns-then-is_some c =
    let begins = sym c.chars-chars.ensures.rest ∙ c.in-Some.ensures.steps.0 in
    let more = given c.next-2.result _ _ (sym c.is_some.ensures ∙ c.if-is_some.true) c.next-2.ensures.steps.0 in
    let first = chars_past_char c.args.text.now c.next.new.self.rest.now c.in-Some.first c.utf8.text begins in
    let second = chars_past_char c.next.new.self.rest.now c.next-2.new.self.rest.now more.0
    (IsUtf8-past_char c.args.text.now c.next.new.self.rest.now c.in-Some.first c.utf8.text begins) more.1 in
    sym (ap are_certain (first ∙ ap (λ (cs : List ℕ). c.in-Some.first ∷ cs) second))

pub returns : goal.returns
returns c =
    let begins = sym c.chars-chars.ensures.rest ∙ c.in-Some.ensures.steps.0 in
    let none = ended c.next-2.result _ _ (sym c.is_some.ensures ∙ c.if-is_some.false) c.next-2.ensures.steps.0 in
    let first = chars_past_char c.args.text.now c.next.new.self.rest.now c.in-Some.first c.utf8.text begins in
    c.is_certain.ensures
    ∙ sym (ap are_certain (first ∙ ap (λ (cs : List ℕ). c.in-Some.first ∷ cs) (chars_of_empty _ none.0)))
