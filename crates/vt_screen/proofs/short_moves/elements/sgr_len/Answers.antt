use Rattle.std.proofs.Common.{rules, ◌≡◌, ◌<◌, ◌-◌, ◌+◌, ℕ, arith, length, subst}
use Rattle.vt_screen.proofs.ReadTexts.{AreKnownTo, known_first, known_last, known_more}
use Rattle.vt_screen.proofs.short_moves.elements.sgr_len.Goals as goal

pub loop-number-init : goal.loop-number-init
loop-number-init c = record {
  inside = omega (arith, c.requires.inside);
  known = known_first c.args.first c.args.len c.in_ok-wanted.wanted c.args.bytes.now c.requires.inside (search rules)
      c.requires.digits c.requires.separator c.in_ok-wanted.ensures;
}

pub slice_bounds-number-count : goal.slice_bounds-number-count
slice_bounds-number-count c = search rules

pub slice_bounds-number-start : goal.slice_bounds-number-start
slice_bounds-number-start c = search rules

pub returns-in-109-clause-text : goal.returns-in-109-clause-text
returns-in-109-clause-text c =
    let some : 0 < 32 - c.loop-number._number = omega (arith, c.loop-number-test.true) in
    known_last (32 - c.loop-number._number) c.in_ok-value.value c.loop-number.end c.in_ok-value.digits
    c.loop-number.wanted c.in_ok-wanted-2.wanted c.args.bytes.now some c.loop-number.invariant.known (search rules)
    c.in_ok-value.ensures.digits c.in_ok-wanted-2.ensures

pub loop-number-preserved : goal.loop-number-preserved
loop-number-preserved c =
    let some : 0 < 32 - c.loop-number._number = omega (arith, c.loop-number-test.true) in
    let inside : c.loop-number.end + c.in_ok-value.digits < length c.args.bytes.now = omega (arith, c.if-end-bytes.false) in
    let left : 32 - c.loop-number._number - 1 ≡ 32 - (c.loop-number._number + 1) = omega arith in record {
      inside = omega (arith, inside);
      known = subst
          (λ (n : ℕ). AreKnownTo n c.in_ok-wanted-2.wanted c.args.bytes.now (c.loop-number.end + c.in_ok-value.digits + 1))
          left
          (known_more (32 - c.loop-number._number) c.in_ok-value.value c.loop-number.end c.in_ok-value.digits
          c.loop-number.wanted c.in_ok-wanted-2.wanted c.args.bytes.now some c.loop-number.invariant.known inside
          (search rules) c.in_ok-value.ensures.digits c.in-59.is c.in_ok-wanted-2.ensures);
    }
