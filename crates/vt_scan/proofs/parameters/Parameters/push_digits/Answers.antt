-- One more digit.
use Rattle.std.proofs.Common.{◌≡◌, ◌<◌, ◌≤◌, ◌∷◌, [], List, ℕ, true, arith, get_or, subst, sym, take}
use Rattle.std.proofs.lemmas.Bool.Decides.{nat_tests}
use Rattle.std.proofs.lemmas.List.{take_more}
use Rattle.vt_scan.specs.Internals.{is_digit}
use Rattle.vt_scan.specs.Texts.{IsParameterText}
use Rattle.vt_scan.proofs.ParameterNumbers.{more_digits, parameters-append}
use Rattle.vt_scan.proofs.parameters.Parameters.push_digits.Goals as goal

pub loop-count-preserved : goal.loop-count-preserved
loop-count-preserved c =
    let bytes = c.args.bytes.now in
    let count = c.loop-count.count in
    let byte = get_or bytes count 0 in
    let p = c.self.inside in
    let digit : is_digit byte ≡ true = sym c.if-is_digit_byte.ensures in
    let low : 0x30 ≤ byte = grind (arith, nat_tests) in
    let high : byte < 0x3A = grind (arith, nat_tests) in
    let few : byte ≤ 0x3B = omega (arith, high) in
    record {
      inside = omega (arith, c.loop-count-test.true);
      parameters =
          subst (λ (text : List ℕ). IsParameterText text) (sym (take_more bytes count 0 c.loop-count-test.true))
          (parameters-append (take count bytes) (byte ∷ []) c.loop-count.invariant.parameters (low, few, tt));
      last = c.loop-count.invariant.last;
      read = λ text e.
          more_digits p.numbers (take p.closed p.ends) p.len _ c.loop-count.number c.with_digit-number.result
          p.is_cut text bytes count c.loop-count.invariant.last (omega arith) c.self.invariant.2 c.if-self.false
          c.loop-count-test.true high c.with_digit-number.ensures (c.loop-count.invariant.read text e);
    }
