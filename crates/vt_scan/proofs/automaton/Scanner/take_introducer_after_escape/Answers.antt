-- Further ESCs, and what they introduce.
use Rattle.std.proofs.Common.{[], List, ℕ, drop, subst, sym, take}
use Rattle.std.proofs.Math.Seq.{take-add}
use Rattle.vt_scan.specs.Scanner.{FeedsAll}
use Rattle.vt_scan.proofs.Leading.{feeds_then}
use Rattle.vt_scan.proofs.Lists.{all_left}
use Rattle.vt_scan.proofs.automaton.Scanner.take_introducer_after_escape.Goals as goal

pub returns-clause-fed : goal.returns-clause-fed
returns-clause-fed c =
    let bytes = c.args.bytes.now in
    let escapes = c.take_escapes-escapes.result in
    let more = c.take_after_escapes-more.result in
    let middle = c.take_escapes-escapes.new.self in
    let new = c.take_after_escapes-more.new.self in
    let rest : FeedsAll middle (take more (drop escapes bytes)) new [] =
    subst (λ (left : List ℕ). FeedsAll middle (take more left) new [])
    (all_left bytes escapes) c.take_after_escapes-more.ensures.fed in
    subst (λ (text : List ℕ). FeedsAll c.args.self.now text new []) (sym (take-add escapes more bytes))
    (feeds_then c.args.self.now middle new (take escapes bytes) (take more (drop escapes bytes))
    c.take_escapes-escapes.ensures.fed rest)
