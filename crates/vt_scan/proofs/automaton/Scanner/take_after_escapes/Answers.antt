-- One byte, and the introducing bytes after it.
use Rattle.std.proofs.Common.{◌<◌, ◌∙◌, [], List, ℕ, arith, drop, get_or, length, subst, sym, take}
use Rattle.std.proofs.lemmas.Bool.Decides.{nat_tests}
use Rattle.vt_scan.specs.Scanner.{Feeds, FeedsAll, ScannerValue}
use Rattle.vt_scan.proofs.Steps.{no_event}
use Rattle.vt_scan.proofs.Leading.{feeds_first}
use Rattle.vt_scan.proofs.Lists.{all_left, take_next}
use Rattle.vt_scan.proofs.automaton.Scanner.take_after_escapes.Goals as goal

pub returns-clause-fed : goal.returns-clause-fed
returns-clause-fed c =
    let bytes = c.args.bytes.now in
    let more = c.take_from_entry-more.result in
    let told = c.if-is_empty.ensures in
    let some : 0 < length bytes = grind (arith, nat_tests) in
    let rest : FeedsAll c.take_bracket.new.self (take more (drop 1 bytes)) c.take_from_entry-more.new.self [] =
    subst (λ (left : List ℕ). FeedsAll c.take_bracket.new.self (take more left) c.take_from_entry-more.new.self [])
    (all_left bytes 1) c.take_from_entry-more.ensures.fed in
    let first : Feeds c.args.self.now (get_or bytes 0 0) c.take_bracket.new.self no_event =
    subst (λ (held : ScannerValue). Feeds held (get_or bytes 0 0) c.take_bracket.new.self no_event)
    (c.take_string_start.ensures.kept c.if-take_string_start.false
    ∙ c.take_intermediate.ensures.kept c.if-take_intermediate.false)
    (c.take_bracket.ensures.fed c.if-not-take_bracket.false) in
    subst (λ (text : List ℕ). FeedsAll c.args.self.now text c.take_from_entry-more.new.self [])
    (sym (take_next bytes more some))
    (feeds_first c.args.self.now c.take_bracket.new.self c.take_from_entry-more.new.self (get_or bytes 0 0)
    (take more (drop 1 bytes)) first rest)
