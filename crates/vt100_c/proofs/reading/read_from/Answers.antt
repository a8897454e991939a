use Rattle.std.proofs.Common.{◌≡◌, List, ℕ, ◌<◌, drop, length, subst, sym, arith, rules}
use Rattle.std.proofs.lemmas.List.{length-drop}
use Rattle.vt_scan.proofs.Lists.{all_left}
use Rattle.vt100_c.proofs.Answering.{HasReadQuietly, all_quiet, event_left, left_unread, quiet_more}
use Rattle.vt100_c.proofs.reading.read_from.Goals as goal
use Rattle.vt100_c.specs.Reading.{ReadsFrom, ReadsUnit}
use Rattle.vt100_c.specs.Status.{ok}

pub returns-then-not-is_quiet : goal.returns-then-not-is_quiet
returns-then-not-is_quiet c =
    let unit : ReadsUnit c.loop-at.parser (drop c.loop-at.at c.args.bytes.now) c.read_unit-status.result.1 c.read_unit-status.result.0
    c.read_unit-status.new.parser =
    subst (λ (left : List ℕ). ReadsUnit c.loop-at.parser left c.read_unit-status.result.1 c.read_unit-status.result.0
    c.read_unit-status.new.parser) (all_left c.args.bytes.now c.loop-at.at) c.read_unit-status.ensures in
    event_left c.args.mark c.args.parser.now c.loop-at.parser c.read_unit-status.new.parser c.args.bytes.now
    c.loop-at.at c.read_unit-status.result.1 c.read_unit-status.result.0 c.loop-at.invariant.read unit (search rules) (search rules)

pub loop-at-preserved : goal.loop-at-preserved
loop-at-preserved c =
    let unit : ReadsUnit c.loop-at.parser (drop c.loop-at.at c.args.bytes.now) c.read_unit-status.result.1 c.read_unit-status.result.0
    c.read_unit-status.new.parser =
    subst (λ (left : List ℕ). ReadsUnit c.loop-at.parser left c.read_unit-status.result.1 c.read_unit-status.result.0
    c.read_unit-status.new.parser) (all_left c.args.bytes.now c.loop-at.at) c.read_unit-status.ensures in
    let well : c.read_unit-status.result.0 ≡ ok = search rules in
    record {
      inside = omega (arith, unit.inside, length-drop c.loop-at.at c.args.bytes.now);
      read = quiet_more c.args.mark c.args.parser.now c.loop-at.parser c.read_unit-status.new.parser
          c.args.bytes.now c.loop-at.at c.read_unit-status.result.1 c.read_unit-status.result.0 c.loop-at.invariant.read unit well
          (search rules);
    }

pub returns-then-status-ne-OK : goal.returns-then-status-ne-OK
returns-then-status-ne-OK c =
    let bytes = c.args.bytes.now in
    let at = c.loop-at.at in
    let status = c.read_unit-status.result.0 in
    let count = c.read_unit-status.result.1 in
    let new = c.read_unit-status.new.parser in
    let inside : at < length bytes = search rules in
    let refused : status ≡ ok → ⊥ = search rules in
    let unit : ReadsUnit c.loop-at.parser (drop at bytes) count status new =
    subst (λ (left : List ℕ). ReadsUnit c.loop-at.parser left count status new) (all_left bytes at)
    c.read_unit-status.ensures in
    left_unread c.args.mark c.args.parser.now c.loop-at.parser new bytes at count status c.loop-at.invariant.read inside
    unit refused

pub returns : goal.returns
returns c =
    let bytes = c.args.bytes.now in
    let whole : length bytes ≡ c.loop-at.at = search rules in
    subst (λ (at : ℕ). ReadsFrom c.args.mark bytes at c.args.parser.now ok c.loop-at.parser) whole
    (all_quiet c.args.mark c.args.parser.now c.loop-at.parser bytes
    (subst (λ (at : ℕ). HasReadQuietly c.args.mark c.args.parser.now bytes at c.loop-at.parser) (sym whole)
    c.loop-at.invariant.read))
