use Rattle.std.proofs.Common.{◌≡◌, ℕ, [], inl, inr, refl, subst, sym, take, arith}
use Rattle.vt_scan.specs.Scanner.{FeedsAll}
use Rattle.vt100.specs.Erasures.{CountsErasures}
use Rattle.vt100.specs.Parser.{Ran, parser_value}
use Rattle.vt100.proofs.Erasing.{first_counts, known_counts, later_counts}
use Rattle.vt100.proofs.Running.{stopped_at_after, stopped_at_first, known_ran, silent_none, stopped_in, stopped_within}
use Rattle.vt100.proofs.processing.process_rest.Goals as goal

pub returns-in-Err-clause-read : goal.returns-in-Err-clause-read
returns-in-Err-clause-read g c =
    let does = g.CB.Callbacks.does in
    let bytes = c.args.bytes.now in
    let collected = c.in-Ok.collected in
    let before = parser_value c.args.scanner.now c.args.screen.now c.args.callbacks.now in
    let led = parser_value c.take_command_text.new.self c.args.screen.now c.args.callbacks.now in
    let zero : collected ≡ 0 = omega (arith, c.if-collected-gt0.false) in
    let ran : Ran does before (take 0 bytes) led =
    subst (λ (n : ℕ). Ran does before (take n bytes) led) zero
    (known_ran does before led (take collected bytes) [] c.in-Ok.ensures.fed refl) in
    let now = parser_value c.feed.new.self c.perform_each.new.screen c.perform_each.new.callbacks in
    let events = c.in-Ok-feed.events in
    let fed = c.in-Ok-feed.ensures.fed in
    let stops = c.in-Err.ensures.stopped refl in
    stopped_in does before now bytes 0
    (inr (stopped_within does before led now c.feed.new.self bytes 0 events c.requires ran fed stops))
    (stopped_at_after does before led now bytes 0 ran
    (stopped_at_first does led now c.feed.new.self bytes events c.requires fed stops))

pub returns-then-skipped-gt0-clause-last : goal.returns-then-skipped-gt0-clause-last
returns-then-skipped-gt0-clause-last g c =
    inl (
      refl,
      silent_none c.args.screen.now c.args.scanner.now c.args.scanner.now (take c.skipped_len-skipped.result c.args.bytes.now)
          c.skipped_len-skipped.ensures.fed,
    )

pub returns-then-collected-gt0-clause-last : goal.returns-then-collected-gt0-clause-last
returns-then-collected-gt0-clause-last g c =
    inl (
      refl,
      silent_none c.args.screen.now c.args.scanner.now c.take_command_text.new.self (take c.in-Ok.collected c.args.bytes.now)
          c.in-Ok.ensures.fed,
    )

pub returns-then-skipped-gt0-clause-erased : goal.returns-then-skipped-gt0-clause-erased
returns-then-skipped-gt0-clause-erased g c =
    known_counts c.args.scanner.now c.args.scanner.now (take c.skipped_len-skipped.result c.args.bytes.now) []
    c.args.erasures.now c.skipped_len-skipped.ensures.fed

pub returns-then-collected-gt0-clause-erased : goal.returns-then-collected-gt0-clause-erased
returns-then-collected-gt0-clause-erased g c =
    known_counts c.args.scanner.now c.take_command_text.new.self (take c.in-Ok.collected c.args.bytes.now) []
    c.args.erasures.now c.in-Ok.ensures.fed

pub returns-in-Ok-perform_each-clause-erased : goal.returns-in-Ok-perform_each-clause-erased
returns-in-Ok-perform_each-clause-erased g c =
    let held = c.args.scanner.now in
    let led = c.take_command_text.new.self in
    let bytes = c.args.bytes.now in
    let old = c.args.erasures.now in
    let zero : c.in-Ok.collected ≡ 0 = omega (arith, c.if-collected-gt0.false) in
    let fed : FeedsAll held (take 0 bytes) led [] =
    subst (λ (n : ℕ). FeedsAll held (take n bytes) led []) zero c.in-Ok.ensures.fed in
    later_counts held led (take 1 bytes) old c.count_each.new.erasures (λ s stands. (fed s stands).0)
    (subst (λ (new : ℕ). CountsErasures led (take 1 bytes) old new) (sym c.count_each.ensures)
    (first_counts led c.feed.new.self bytes c.in-Ok-feed.events old c.requires c.in-Ok-feed.ensures.fed))
