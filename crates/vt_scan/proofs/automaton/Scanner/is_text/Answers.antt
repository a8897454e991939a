-- A printable byte leaves everything unchanged.
use Rattle.std.proofs.Common.{refl, arith}
use Rattle.vt_scan.proofs.Steps.{text_feeds}
use Rattle.vt_scan.proofs.automaton.Scanner.is_text.Goals as goal

pub returns-then-is_printable-clause-feeds : goal.returns-then-is_printable-clause-feeds
returns-then-is_printable-clause-feeds c = λ is.
    let fresh = c.is_ground.ensures.held.0 is in
    let printable = c.if-is_printable.ensures.0 refl in
    text_feeds c.args.self.now c.args.byte fresh.0 fresh.1 printable.0 (omega (arith, printable.1))
