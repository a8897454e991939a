-- Some bytes more, and the end of the bytes.
use Rattle.std.proofs.Common.{arith, drop, length, ◌-◌, ◌≡◌, take, List, ℕ, subst}
use Rattle.std.proofs.lemmas.Bool.Decides.{nat_tests}
use Rattle.std.proofs.lemmas.List.{length-drop, take_all, nil_from_length}
use Rattle.vt_charsets.proofs.Joined.{Left, left_none, left_on}
use Rattle.vt_charsets.proofs.charsets.Charsets.translate_reserved.Goals as goal

pub loop-rest-preserved : goal.loop-rest-preserved
loop-rest-preserved c =
    let rest = c.loop-rest.rest.now in
    let count = c.translate_some-count.result in
    let tail : take (length rest - count) (drop count rest) ≡ drop count rest =
    take_all (length rest - count) (drop count rest) (omega (arith, length-drop count rest)) in
    record {
      left = rw tail (left_on c.args.self.now c.loop-rest.self c.translate_some-count.new.self c.args.bytes.now c.args.sink.now.items
          c.loop-rest.sink.items c.translate_some-count.new.sink.items rest count
          c.loop-rest.invariant.left c.translate_some-count.ensures.translated);
      room = rw tail (omega (arith, length-drop count rest, c.translate_some-count.ensures.room));
    }

pub returns : goal.returns
returns c =
    let test = c.loop-rest-test.ensures in
    let empty : length c.loop-rest.rest.now ≡ 0 = grind (arith, nat_tests) in
    left_none c.args.self.now c.loop-rest.self c.args.bytes.now c.args.sink.now.items c.loop-rest.sink.items
    (subst (λ (l : List ℕ). Left c.args.self.now c.args.bytes.now c.args.sink.now.items c.loop-rest.self c.loop-rest.sink.items l)
    (nil_from_length c.loop-rest.rest.now empty) c.loop-rest.invariant.left)
