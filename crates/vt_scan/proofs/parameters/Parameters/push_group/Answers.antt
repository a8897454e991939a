-- A new group, and one more digit of its number.
use Rattle.std.proofs.Common.{◌≡◌, ◌+◌, ◌<◌, ◌≤◌, ◌∙◌, ◌++◌, ◌∷◌, [], List, ℕ, true, ap, arith, get_or, set, subst, sym, take}
use Rattle.std.proofs.lemmas.Bool.Decides.{nat_tests}
use Rattle.std.proofs.lemmas.List.{append-nil, take_more}
use Rattle.vt_scan.specs.Internals.{is_digit}
use Rattle.vt_scan.specs.Parameters.{table_of}
use Rattle.vt_scan.specs.Texts.{IsParameterText}
use Rattle.vt_scan.proofs.ParameterNumbers.{more_digits, not_cut, step_ends, step_group, step_group_full}
use Rattle.vt_scan.proofs.ParameterNumbers.{parameters-append}
use Rattle.vt_scan.proofs.parameters.Parameters.push_group.Goals as goal

pub returns-then-place-eq-MAX_NUMBERS-clause-read : goal.returns-then-place-eq-MAX_NUMBERS-clause-read
returns-then-place-eq-MAX_NUMBERS-clause-read c = λ text e.
    step_group_full c.self.inside.numbers (take c.self.inside.closed c.self.inside.ends)
    c.self.inside.len c.self.inside.is_cut text
    c.if-place-eq-MAX_NUMBERS.true (omega arith) c.self.invariant.2 (c.self.view_is ∙ e)
    ∙ ap table_of (sym (append-nil (text ++ 0x3B ∷ [])))

pub loop-count-init : goal.loop-count-init
loop-count-init c = record {
  inside = omega arith;
  parameters = tt;
  read = λ text e.
      step_group c.self.inside.numbers c.self.inside.ends c.self.inside.closed c.self.inside.len
      c.self.inside.is_cut text (omega arith) (omega arith) (omega arith) c.self.invariant.2 c.self.invariant.3
      (c.self.view_is ∙ e)
      ∙ ap table_of (sym (append-nil (text ++ 0x3B ∷ [])));
}

pub loop-count-preserved : goal.loop-count-preserved
loop-count-preserved c =
    let bytes = c.args.bytes.now in
    let count = c.loop-count.count in
    let byte = get_or bytes count 0 in
    let p = c.self.inside in
    let digit : is_digit byte ≡ true = sym c.if-is_digit_byte.ensures in
    let low : 0x30 ≤ byte = grind (arith, nat_tests) in
    let high : byte < 0x3A = grind (arith, nat_tests) in
    let few : byte ≤ 0x3B = omega (arith, high) in
    let whole = not_cut p.is_cut p.len c.self.invariant.3 c.if-place-eq-MAX_NUMBERS.false in
    let rises = step_ends p.ends p.closed p.len (omega arith) c.self.invariant.2 in
    record {
      inside = omega (arith, c.loop-count-test.true);
      parameters =
          subst (λ (text : List ℕ). IsParameterText text) (sym (take_more bytes count 0 c.loop-count-test.true))
          (parameters-append (take count bytes) (byte ∷ []) c.loop-count.invariant.parameters (low, few, tt));
      read = λ text e.
          more_digits p.numbers (take (p.closed + 1) (set p.ends p.closed p.len)) (p.len + 1) p.len
          c.loop-count.number c.with_digit-number.result p.is_cut (text ++ 0x3B ∷ []) bytes count (omega arith)
          (omega arith) rises whole c.loop-count-test.true high c.with_digit-number.ensures
          (c.loop-count.invariant.read text e);
    }

pub invariant_of-self-2 : goal.invariant_of-self-2
invariant_of-self-2 c = (
  omega arith,
  omega arith,
  step_ends c.self.inside.ends c.self.inside.closed c.self.inside.len (omega arith) c.self.invariant.2,
  λ cuts. absurd (c.if-place-eq-MAX_NUMBERS.false (c.self.invariant.3 cuts)),
)
