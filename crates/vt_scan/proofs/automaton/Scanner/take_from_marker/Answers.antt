-- A private marker, and the parameter bytes after it.
use Rattle.std.proofs.Common.{[], List, ℕ, drop, get_or, subst, sym, take}
use Rattle.vt_scan.specs.Scanner.{FeedsAll}
use Rattle.vt_scan.proofs.Leading.{feeds_first}
use Rattle.vt_scan.proofs.Lists.{all_left, take_next}
use Rattle.vt_scan.proofs.automaton.Scanner.take_from_marker.Goals as goal

pub returns-clause-fed : goal.returns-clause-fed
returns-clause-fed c =
    let bytes = c.args.bytes.now in
    let more = c.take_parameter_bytes-more.result in
    let some = c.requires.nonempty in
    let rest : FeedsAll c.take_private_marker.new.self (take more (drop 1 bytes)) c.take_parameter_bytes-more.new.self [] =
    subst (λ (left : List ℕ). FeedsAll c.take_private_marker.new.self (take more left) c.take_parameter_bytes-more.new.self [])
    (all_left bytes 1) c.take_parameter_bytes-more.ensures.fed in
    subst (λ (text : List ℕ). FeedsAll c.args.self.now text c.take_parameter_bytes-more.new.self [])
    (sym (take_next bytes more some))
    (feeds_first c.args.self.now c.take_private_marker.new.self c.take_parameter_bytes-more.new.self (get_or bytes 0 0)
    (take more (drop 1 bytes)) (c.take_private_marker.ensures.fed c.if-not-take_private_marker.false) rest)
