-- A control character leaves everything unchanged.
use Rattle.std.proofs.Common.{refl}
use Rattle.vt_scan.proofs.Steps.{control_feeds}
use Rattle.vt_scan.proofs.automaton.Scanner.is_control.Goals as goal

pub returns-then-is_control_byte-clause-feeds : goal.returns-then-is_control_byte-clause-feeds
returns-then-is_control_byte-clause-feeds c = λ is.
    let fresh = c.is_ground.ensures.held.0 is in
    let control = c.if-is_control_byte.ensures.0 refl in
    control_feeds c.args.self.now c.args.byte fresh.0 fresh.1 control.0 control.1
