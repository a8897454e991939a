-- A whole character when nothing is incomplete.
use Rattle.vt_scan.proofs.Readback.{found_before, found_fed}
use Rattle.vt_scan.proofs.automaton.Scanner.whole_character.Goals as goal

pub returns-then-is_ground-clause-fed : goal.returns-then-is_ground-clause-fed
returns-then-is_ground-clause-fed c =
    let fresh = c.is_ground.ensures.held.0 c.if-is_ground.true in
    found_fed c.args.self.now c.args.bytes.now c.first_character.result fresh.0
    fresh.1 c.first_character.ensures.is c.first_character.ensures.means

pub returns-then-is_ground-clause-before : goal.returns-then-is_ground-clause-before
returns-then-is_ground-clause-before c =
    let fresh = c.is_ground.ensures.held.0 c.if-is_ground.true in
    found_before c.args.self.now c.args.bytes.now c.first_character.result fresh.0
    fresh.1 c.first_character.ensures.is c.first_character.ensures.inside
