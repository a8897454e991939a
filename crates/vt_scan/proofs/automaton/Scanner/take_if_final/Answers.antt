-- The sequence is dispatched.
use Rattle.std.proofs.Common.{◌∙◌, sym}
use Rattle.vt_scan.proofs.Leading.{final_feeds}
use Rattle.vt_scan.proofs.automaton.Scanner.take_if_final.Goals as goal

pub returns-then-ends-clause-fed : goal.returns-then-ends-clause-fed
returns-then-ends-clause-fed c = λ is.
    final_feeds c.args.self.now c.begin.new.self c.args.byte c.requires
    (sym c.is_final_byte-ends.ensures ∙ c.if-ends.true) c.begin.ensures
