-- `[` after ESC.
use Rattle.std.proofs.Common.{◌≡◌, arith}
use Rattle.std.proofs.lemmas.Bool.Decides.{nat_tests}
use Rattle.vt_scan.proofs.Leading.{bracket_feeds}
use Rattle.vt_scan.proofs.automaton.Scanner.take_bracket.Goals as goal

pub returns-then-takes-clause-fed : goal.returns-then-takes-clause-fed
returns-then-takes-clause-fed c = λ is.
    let bracket : c.args.byte ≡ 0x5B = grind (arith, nat_tests) in
    bracket_feeds c.args.self.now c.begin.new.self c.args.byte c.requires bracket c.begin.ensures
