-- ESC in the ground state.
use Rattle.std.proofs.Common.{◌≡◌, ◌∙◌, [], length, ap, sym, arith}
use Rattle.std.proofs.lemmas.Bool.Decides.{nat_tests}
use Rattle.std.proofs.lemmas.List.{nil_from_length}
use Rattle.vt_scan.specs.Scanner.{ScannerValue}
use Rattle.vt_scan.proofs.Leading.{escape_feeds}
use Rattle.vt_scan.proofs.automaton.Scanner.take_escape.Goals as goal

pub returns-clause-fed : goal.returns-clause-fed
returns-clause-fed c = λ is.
    let told = c.if-not-is_empty.ensures in
    let empty : length c.self.inside.unfinished ≡ 0 = grind (arith, nat_tests) in
    let none : c.args.self.now.unfinished ≡ [] =
    sym (ap (λ (h : ScannerValue). h.unfinished) c.self.view_is) ∙ nil_from_length c.self.inside.unfinished empty in
    escape_feeds c.args.self.now c.begin.new.self c.args.byte c.requires none c.if-byte-ne27.false c.begin.ensures
