use Rattle.std.proofs.Common.{◌≡◌, ◌-◌, ◌≤◌, ℕ, List, arith, drop, length, length-drop, subst, take, take_all}
use Rattle.std.specs.List.{AllByRecursion}
use Rattle.vt_screen.specs.ShortMoves.{IsAsciiCharacter}
use Rattle.vt_screen.proofs.RepeatTokens.{skips_ascii}
use Rattle.vt_screen.proofs.repeats.skip_ascii.Goals as goal

pub returns : goal.returns
returns c cols =
    let bytes = c.args.bytes.now in
    let more = c.single_len-len.result in
    let size = length-drop 1 bytes in
    let all : take (length bytes - 1) (drop 1 bytes) ≡ drop 1 bytes =
    take_all (length bytes - 1) (drop 1 bytes) (omega (arith, size)) in
    skips_ascii cols c.args.room c.saturating_sub.result more bytes c.requires.nonempty c.requires.ascii
    (subst (λ (xs : List ℕ). more ≤ length xs) all c.single_len-len.ensures.inside)
    (subst (λ (xs : List ℕ). AllByRecursion IsAsciiCharacter (take more xs)) all c.single_len-len.ensures.ascii)
    (grind (arith, c.saturating_sub.ensures, c.unwrap_or-taken.ensures, c.try_from.ensures))
