-- A separator ends a part; after the last part, or when there are 16, no further one matters.
use Rattle.std.proofs.Common.{◌≡◌, ◌≤◌, ◌+◌, ◌-◌, ◌++◌, ◌∷◌, ◌∙◌, [], ap, arith, drop, length, nat_le, sym, take, true}
use Rattle.std.proofs.lemmas.Bool.Decides.{nat_tests}
use Rattle.vt_scan.proofs.Lists.{cut_full, cut_last, cut_next, next_part}
use Rattle.vt_scan.proofs.parts.Parts.of.Goals as goal
use Rattle.vt_scan.proofs.parts.Parts.of.Goals.{then-loop-end-test+else-not-is_full, else-loop-end-test}

pub loop-end-preserved : goal.loop-end-preserved
loop-end-preserved c =
    let text = c.args.text.now in
    let start = c.loop-end.start in
    let end = c.loop-end.end in
    let all = c.loop-end.invariant.1.0 in (
      next_part (end + 1) c.part_len-len.result text (omega (arith, c.loop-end-test.true)) c.part_len-len.ensures.inside
          c.part_len-len.ensures.part c.part_len-len.ensures.longest,
      (
        all ++ take (end - start) (drop start text) ∷ [],
        c.push.ensures all c.loop-end.invariant.1.1,
        cut_next all start end text c.loop-end.invariant.0 c.loop-end-test.true c.loop-end.invariant.1.2,
      ),
    )

pub returns : goal.returns
returns c =
    let text = c.args.text.now in
    let start = c.loop-end.start in
    let end = c.loop-end.end in
    let all = c.loop-end.invariant.1.0 in
    c.push-2.ensures all c.loop-end.invariant.1.1
    ∙ elim c.loop-end-test.branch [
      | then-loop-end-test+else-not-is_full w ↦
          let is : nat_le 16 (length c.loop-end.parts) ≡ true = sym w.is_full.ensures ∙ w.if-not-is_full.false in
          let size : length c.loop-end.parts ≡ length (take 16 all) = ap length c.loop-end.invariant.1.1 in
          let full : 16 ≤ length (take 16 all) = grind (arith, nat_tests) in
          cut_full all start (take (end - start) (drop start text)) text full c.loop-end.invariant.1.2
      | else-loop-end-test w ↦
          cut_last all start end text c.loop-end.invariant.0 (omega (arith, w.loop-end-test.false)) c.loop-end.invariant.1.2
    ]
