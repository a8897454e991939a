-- A control function of one byte; and if there is no sequence, the bytes are read by one step.
use Rattle.std.proofs.Common.{◌≡◌, List, ℕ, get_or, inl, inr, refl, subst, sym, take, arith}
use Rattle.std.proofs.lemmas.List.{take_more}
use Rattle.vt_scan.specs.declared.event.Event.TheVariants.{Executed}
use Rattle.vt_scan.proofs.Steps.{one_event}
use Rattle.vt100.specs.Parser.{CallsByLast, Ran, parser_value, stage}
use Rattle.vt100.specs.Erasures.{CountsErasures}
use Rattle.vt100.proofs.Erasing.{counts_after_none, first_counts}
use Rattle.vt100.proofs.Running.{stopped_at_first, byte_ran, later_by_last, map_some, read_after_quiet, some_read}
use Rattle.vt100.proofs.Running.{stopped_in, stopped_within}
use Rattle.vt100.proofs.processing.process_some.Goals as goal

pub returns-in-Err-clause-read : goal.returns-in-Err-clause-read
returns-in-Err-clause-read g c =
    let does = g.CB.Callbacks.does in
    let held = c.args.scanner.now in
    let bytes = c.args.bytes.now in
    let byte = get_or bytes 0 0 in
    let before = parser_value held c.args.screen.now c.args.callbacks.now in
    let now = parser_value held c.execute.new.screen c.execute.new.callbacks in
    let fed = c.is_control.ensures.feeds c.if-is_control.true in
    let stops = inl (c.in-Err.ensures.stopped refl) in
    stopped_in does before now bytes 0
    (inr (stopped_within does before before now held bytes 0 (one_event (Executed byte)) c.requires
    (λ s stands. (stands, refl)) fed stops))
    (stopped_at_first does before now held bytes (one_event (Executed byte)) c.requires fed stops)

pub returns-in-Ok-clause-read : goal.returns-in-Ok-clause-read
returns-in-Ok-clause-read g c =
    let does = g.CB.Callbacks.does in
    let held = c.args.scanner.now in
    let bytes = c.args.bytes.now in
    let byte = get_or bytes 0 0 in
    let before = parser_value held c.args.screen.now c.args.callbacks.now in
    let now = parser_value held c.execute.new.screen c.execute.new.callbacks in
    some_read does before now bytes 1 c.requires
    (subst (λ (text : List ℕ). Ran does before text now) (sym (take_more bytes 0 0 c.requires))
    (byte_ran does before now byte (one_event (Executed byte)) (c.is_control.ensures.feeds c.if-is_control.true)
    (stage now, c.in-Ok.ensures.done, refl)))

pub returns-clause-read : goal.returns-clause-read
returns-clause-read g c =
    let does = g.CB.Callbacks.does in
    let bytes = c.args.bytes.now in
    let before = parser_value c.args.scanner.now c.args.screen.now c.args.callbacks.now in
    let led = parser_value c.process_sequence.new.scanner c.process_sequence.new.screen c.process_sequence.new.callbacks in
    let now = parser_value c.process_rest.new.scanner c.process_rest.new.screen c.process_rest.new.callbacks in
    let zero : c.in_ok-count-2.count ≡ 0 = omega (arith, c.if-count-gt0.false) in
    let ran : Ran does before (take 0 bytes) led =
    subst (λ (n : ℕ). Ran does before (take n bytes) led) zero c.in_ok-count-2.ensures.read.ran in
    read_after_quiet does before led now bytes _ ran c.process_rest.ensures.read

pub returns-in-Ok-clause-last : goal.returns-in-Ok-clause-last
returns-in-Ok-clause-last g c = inr (omega arith, λ s stands. refl)

pub returns-clause-last : goal.returns-clause-last
returns-clause-last g c =
    let before = parser_value c.args.scanner.now c.args.screen.now c.args.callbacks.now in
    let led = parser_value c.process_sequence.new.scanner c.process_sequence.new.screen c.process_sequence.new.callbacks in
    let zero : c.in_ok-count-2.count ≡ 0 = omega (arith, c.if-count-gt0.false) in
    map_some (λ k. CallsByLast led.callbacks led.screen led.scanner c.args.bytes.now k c.process_rest.new.callbacks)
    (λ k. CallsByLast before.callbacks before.screen before.scanner c.args.bytes.now k c.process_rest.new.callbacks)
    c.process_rest.result
    (λ k. later_by_last g.CB.Callbacks.does before led c.process_rest.new.callbacks c.args.bytes.now
    c.in_ok-count-2.count k zero c.in_ok-count-2.ensures.read.ran c.in_ok-count-2.ensures.last)
    c.process_rest.ensures.last

pub returns-then-is_text-clause-erased : goal.returns-then-is_text-clause-erased
returns-then-is_text-clause-erased g c = c.print_some.ensures.keeps c.args.erasures.now

pub returns-in-Ok-clause-erased : goal.returns-in-Ok-clause-erased
returns-in-Ok-clause-erased g c =
    let held = c.args.scanner.now in
    let bytes = c.args.bytes.now in
    first_counts held held bytes (one_event (Executed (get_or bytes 0 0))) c.args.erasures.now c.requires
    (c.is_control.ensures.feeds c.if-is_control.true)

pub returns-in-Err-clause-erased : goal.returns-in-Err-clause-erased
returns-in-Err-clause-erased g c s stands = refl

pub returns-clause-erased : goal.returns-clause-erased
returns-clause-erased g c =
    let does = g.CB.Callbacks.does in
    let bytes = c.args.bytes.now in
    let held = c.args.scanner.now in
    let led = c.process_sequence.new.scanner in
    let before = parser_value held c.args.screen.now c.args.callbacks.now in
    let after = parser_value led c.process_sequence.new.screen c.process_sequence.new.callbacks in
    let zero : c.in_ok-count-2.count ≡ 0 = omega (arith, c.if-count-gt0.false) in
    let ran : Ran does before (take 0 bytes) after =
    subst (λ (n : ℕ). Ran does before (take n bytes) after) zero c.in_ok-count-2.ensures.read.ran in
    let first : CountsErasures held (take 0 bytes) c.args.erasures.now c.process_sequence.new.erasures =
    subst (λ (n : ℕ). CountsErasures held (take n bytes) c.args.erasures.now c.process_sequence.new.erasures) zero
    c.in_ok-count-2.ensures.erased in
    counts_after_none held led bytes c.args.erasures.now c.process_sequence.new.erasures c.process_rest.new.erasures
    c.process_rest.result (λ s stands. (ran s stands).0) first c.process_rest.ensures.erased
