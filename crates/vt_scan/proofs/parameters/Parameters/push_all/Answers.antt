-- One more byte that is no digit, and the digits after it.
use Rattle.std.proofs.Common.{◌≡◌, ◌+◌, ◌≤◌, ◌∙◌, ◌++◌, ◌∷◌, [], List, ℕ, true}
use Rattle.std.proofs.Common.{ap, arith, drop, get_or, length, subst, sym, take}
use Rattle.std.proofs.lemmas.Bool.Decides.{nat_tests}
use Rattle.std.proofs.lemmas.List.{append_assoc, length-drop}
use Rattle.vt_scan.specs.Automaton.{is_parameter}
use Rattle.vt_scan.specs.Parameters.{table_of}
use Rattle.vt_scan.specs.Texts.{IsParameterText}
use Rattle.vt_scan.proofs.Lists.{all_left, take_past}
use Rattle.vt_scan.proofs.ParameterNumbers.{parameters-append}
use Rattle.vt_scan.proofs.parameters.Parameters.push_all.Goals as goal

pub loop-count-preserved : goal.loop-count-preserved
loop-count-preserved c =
    let bytes = c.args.bytes.now in
    let count = c.loop-count.count in
    let byte = get_or bytes count 0 in
    let more = c.push_some-more.result in
    let rest = drop (count + 1) bytes in
    let left = all_left bytes (count + 1) in
    let past = take_past bytes count more c.loop-count-test.true in
    let parameter : is_parameter byte ≡ true = sym c.if-is_parameter_byte.ensures in
    let low : 0x30 ≤ byte = grind (arith, nat_tests) in
    let high : byte ≤ 0x3B = grind (arith, nat_tests) in
    let behind : IsParameterText (take more rest) =
    subst (λ (l : List ℕ). IsParameterText (take more l)) left c.push_some-more.ensures.parameters in
    record {
      inside =
          omega (arith, c.loop-count-test.true, c.push_some-more.ensures.inside, ap length left, length-drop (count + 1) bytes);
      parameters =
          subst (λ (text : List ℕ). IsParameterText text) (sym past)
          (parameters-append (take count bytes) (byte ∷ take more rest)
          c.loop-count.invariant.parameters (low, high, behind));
      read = λ text e.
          let front = take count bytes in
          c.push_some-more.ensures.read (text ++ front) (c.loop-count.invariant.read text e)
          ∙ ap table_of (ap (λ (l : List ℕ). ((text ++ front) ++ byte ∷ []) ++ take more l) left
          ∙ append_assoc (text ++ front) (byte ∷ []) (take more rest)
          ∙ append_assoc text front (byte ∷ take more rest)
          ∙ ap (λ (l : List ℕ). text ++ l) (sym past));
    }
