use Rattle.std.proofs.Common.{◌≡◌, ◌≢◌, ◌+◌, ◌-◌, ◌<◌, ◌≤◌, arith, drop, length, length-drop, subst, take, take_all, ℕ, List, []}
use Rattle.vt_scan.specs.Parameters.{table_of}
use Rattle.vt_scan.specs.Texts.{IsParameterText}
use Rattle.vt_screen.proofs.RepeatTokens.{skips_sequence, skips_visibility}
use Rattle.vt_screen.proofs.repeats.skip_movement.Goals as goal

pub returns-then-is_visibility : goal.returns-then-is_visibility
returns-then-is_visibility c =
    skips_visibility c.args.cols c.args.room c.args.bytes.now (c.is_visibility.ensures c.if-is_visibility.true)

pub returns : goal.returns
returns c =
    let count = c.push_all-count.result in
    let bytes = c.args.bytes.now in
    let length_is = length-drop 2 bytes in
    let all : take (length bytes - 2) (drop 2 bytes) ≡ drop 2 bytes =
    take_all (length bytes - 2) (drop 2 bytes) (omega (arith, length_is)) in
    let inside : count ≤ length (drop 2 bytes) =
    subst (λ (xs : List ℕ). count ≤ length xs) all c.push_all-count.ensures.inside in
    let other = c.if-last-bytes.false in
    let long = c.requires.long in
    skips_sequence c.args.cols c.args.room c.in_ok-after.after bytes count c.requires
    (below (2 + count) (length bytes) (omega (arith, inside, length_is, long)) other)
    (c.in_ok-after.ensures (take count (drop 2 bytes))
    (subst (λ (xs : List ℕ). IsParameterText (take count xs)) all c.push_all-count.ensures.parameters)
    (subst (λ (xs : List ℕ). c.push_all-count.new.self ≡ table_of (take count xs)) all
    (c.push_all-count.ensures.read [] c.new-parameters.ensures)))
  where
    below : (a b : ℕ) → a ≤ b → a ≢ b → a < b
    below a b h n = omega (arith, h, n)
