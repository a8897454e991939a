-- Wide characters when nothing is incomplete.
use Rattle.vt_scan.proofs.Characters.{wide_all, wide_fed}
use Rattle.vt_scan.proofs.automaton.Scanner.wide_text.Goals as goal

pub returns-then-is_ground-clause-fed : goal.returns-then-is_ground-clause-fed
returns-then-is_ground-clause-fed c =
    let fresh = c.is_ground.ensures.held.0 c.if-is_ground.true in
    let found = c.wide_characters.ensures in
    wide_fed c.wide_characters.result c.args.self.now c.args.bytes.now c.wide_characters.new.text fresh.0 fresh.1
    found.inside found.room found.threes

pub returns-then-is_ground-clause-wide : goal.returns-then-is_ground-clause-wide
returns-then-is_ground-clause-wide c =
    let found = c.wide_characters.ensures in
    wide_all c.wide_characters.result c.args.bytes.now c.wide_characters.new.text found.room found.threes
