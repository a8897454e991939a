-- If no run of characters was printed, the bytes are read by one step.
use Rattle.std.proofs.Common.{◌≡◌, ℕ, inl, refl, subst, take, arith}
use Rattle.vt100.specs.Parser.{CallsByLast, Ran, parser_value}
use Rattle.vt100.proofs.Running.{later_by_last, map_some, ran_silently, read_after_quiet, some_read}
use Rattle.vt100.proofs.processing.process_high.Goals as goal

pub returns-then-printed-gt0-clause-read : goal.returns-then-printed-gt0-clause-read
returns-then-printed-gt0-clause-read g c =
    let held = c.args.scanner.now in
    let before = parser_value held c.args.screen.now c.args.callbacks.now in
    let led = parser_value held c.print_run-printed.new.screen c.args.callbacks.now in
    let read = c.print_run-printed.ensures in
    some_read g.CB.Callbacks.does before led c.args.bytes.now c.print_run-printed.result read.inside
    (ran_silently g.CB.Callbacks.does c.args.callbacks.now held held _ _ _ read.ran)

pub returns-clause-read : goal.returns-clause-read
returns-clause-read g c =
    let does = g.CB.Callbacks.does in
    let held = c.args.scanner.now in
    let bytes = c.args.bytes.now in
    let before = parser_value held c.args.screen.now c.args.callbacks.now in
    let led = parser_value held c.print_run-printed.new.screen c.args.callbacks.now in
    let now = parser_value c.process_one.new.scanner c.process_one.new.screen c.process_one.new.callbacks in
    let zero : c.print_run-printed.result ≡ 0 = omega (arith, c.if-printed-gt0.false) in
    let ran : Ran does before (take 0 bytes) led =
    subst (λ (n : ℕ). Ran does before (take n bytes) led) zero
    (ran_silently does c.args.callbacks.now held held _ _ _ c.print_run-printed.ensures.ran) in
    read_after_quiet does before led now bytes _ ran c.process_one.ensures.read

pub returns-then-printed-gt0-clause-last : goal.returns-then-printed-gt0-clause-last
returns-then-printed-gt0-clause-last g c =
    inl (refl, λ s stands. (c.print_run-printed.new.screen, (c.print_run-printed.ensures.ran s stands).1))

pub returns-clause-last : goal.returns-clause-last
returns-clause-last g c =
    let does = g.CB.Callbacks.does in
    let held = c.args.scanner.now in
    let before = parser_value held c.args.screen.now c.args.callbacks.now in
    let led = parser_value held c.print_run-printed.new.screen c.args.callbacks.now in
    let read = c.print_run-printed.ensures in
    let zero : c.print_run-printed.result ≡ 0 = omega (arith, c.if-printed-gt0.false) in
    map_some (λ k. CallsByLast led.callbacks led.screen led.scanner c.args.bytes.now k c.process_one.new.callbacks)
    (λ k. CallsByLast before.callbacks before.screen before.scanner c.args.bytes.now k c.process_one.new.callbacks)
    c.process_one.result
    (λ k. later_by_last does before led c.process_one.new.callbacks c.args.bytes.now
    c.print_run-printed.result k zero (ran_silently does c.args.callbacks.now held held _ _ _ read.ran)
    (inl (refl, λ s stands. (c.print_run-printed.new.screen, (read.ran s stands).1))))
    c.process_one.ensures.last

pub returns-then-printed-gt0-clause-erased : goal.returns-then-printed-gt0-clause-erased
returns-then-printed-gt0-clause-erased g c = c.print_run-printed.ensures.keeps c.args.erasures.now

pub returns-clause-erased : goal.returns-clause-erased
returns-clause-erased g c = c.process_one.ensures.erased
