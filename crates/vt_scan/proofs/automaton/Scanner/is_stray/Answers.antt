-- A byte that begins no character leaves everything unchanged.
use Rattle.std.proofs.Common.{refl}
use Rattle.vt_scan.proofs.Steps.{stray_feeds}
use Rattle.vt_scan.proofs.automaton.Scanner.is_stray.Goals as goal

pub returns-then-is_stray_byte-clause-feeds : goal.returns-then-is_stray_byte-clause-feeds
returns-then-is_stray_byte-clause-feeds c = λ is.
    let fresh = c.is_ground.ensures.held.0 is in
    let stray = c.if-is_stray_byte.ensures.0 refl in
    stray_feeds c.args.self.now c.args.byte fresh.0 fresh.1 stray.0 stray.1
