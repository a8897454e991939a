-- ESC and `[`, and the introducing bytes after them.
use Rattle.std.proofs.Common.{◌≡◌, ◌+◌, [], List, ℕ, arith, drop, subst, suc, take}
use Rattle.vt_scan.specs.Scanner.{FeedsAll}
use Rattle.vt_scan.proofs.Leading.{opening_feeds}
use Rattle.vt_scan.proofs.Lists.{all_left}
use Rattle.vt_scan.proofs.automaton.Scanner.take_introducer_in_ground.Goals as goal

pub returns-clause-fed : goal.returns-clause-fed
returns-clause-fed c =
    let bytes = c.args.bytes.now in
    let more = c.take_from_entry-more.result in
    let led = c.take_opening.new.self in
    let now = c.take_from_entry-more.new.self in
    let told = c.if-not-take_opening.false in
    let count : suc (suc more) ≡ 2 + more = omega arith in
    let rest : FeedsAll led (take more (drop 2 bytes)) now [] =
    subst (λ (left : List ℕ). FeedsAll led (take more left) now []) (all_left bytes 2)
    c.take_from_entry-more.ensures.fed in
    subst (λ (k : ℕ). FeedsAll c.args.self.now (take k bytes) now []) count
    (opening_feeds c.args.self.now led now bytes more c.requires (c.take_opening.ensures.fresh told)
    (c.take_opening.ensures.opens told) (c.take_opening.ensures.begins told) rest)
