use Rattle.std.proofs.Common.{◌≡◌, ◌+◌, ◌++◌, ◌∙◌, ℕ, suc, List, ap, arith}
use Rattle.std.proofs.lemmas.Str.{IsUtf8-past_char}
use Rattle.vt_screen.specs.Repeating.{copies}
use Rattle.vt_screen.proofs.RepeatTokens.{copies_more, stripped}
use Rattle.vt_screen.proofs.repeats.skip_copies.Goals as goal

pub loop-count-preserved : goal.loop-count-preserved
loop-count-preserved c =
    let n = c.loop-count.count in
    let rest = c.loop-count.rest.now in
    let tail = c.in-Some.tail.now in
    let character = c.args.character in
    let below = c.loop-count-test.true in
    let one : suc n ≡ n + 1 = omega arith in
    let begins = stripped character rest tail c.in-Some.ensures.cases in record {
      utf8 = IsUtf8-past_char rest tail character c.loop-count.invariant.utf8 begins;
      most = omega (arith, below);
      whole =
          c.loop-count.invariant.whole
          ∙ ap (λ (t : List ℕ). copies n character ++ t) begins
          ∙ copies_more n character tail
          ∙ ap (λ (k : ℕ). copies k character ++ tail) one;
    }
