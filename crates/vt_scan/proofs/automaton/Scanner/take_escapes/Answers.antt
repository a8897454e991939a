-- Each ESC begins the sequence anew.
use Rattle.std.proofs.Common.{◌<◌, arith, length, take}
use Rattle.std.proofs.lemmas.List.{length-take}
use Rattle.vt_scan.proofs.Leading.{escapes_feed}
use Rattle.vt_scan.proofs.automaton.Scanner.take_escapes.Goals as goal

pub returns-clause-fed : goal.returns-clause-fed
returns-clause-fed c =
    let text = take c.escapes_len-count.result c.args.bytes.now in
    let some : 0 < length text =
    omega (arith, length-take c.escapes_len-count.result c.args.bytes.now, c.if-count-eq0.false, c.escapes_len-count.ensures.inside) in
    escapes_feed c.args.self.now c.begin.new.self text c.requires c.escapes_len-count.ensures.escapes some c.begin.ensures
