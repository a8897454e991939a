-- The bytes that lead into a sequence, and the byte after them if it ends the sequence.
use Rattle.std.proofs.Common.{[], ◌≤◌, ◌+◌, List, ℕ, drop, inl, length, refl, subst, take, rules}
use Rattle.vt_scan.specs.Automaton.{run}
use Rattle.vt_scan.proofs.Lists.{all_left}
use Rattle.vt100.specs.Parser.{CallsByLast, Ran, Stopped, StoppedAt, parser_value}
use Rattle.vt100.specs.Erasures.{CountsErasures}
use Rattle.vt100.proofs.Erasing.{counts_on, known_counts}
use Rattle.vt100.proofs.Running.{stopped_at_then, known_ran, led_by_last, ran_on, silent_none, some_read, stopped_in}
use Rattle.vt100.proofs.Running.{stopped_then}
use Rattle.vt100.proofs.processing.process_sequence.Goals as goal

pub returns-in-Err-clause-read : goal.returns-in-Err-clause-read
returns-in-Err-clause-read g c =
    let does = g.CB.Callbacks.does in
    let bytes = c.args.bytes.now in
    let leading = c.take_introducer-leading.result in
    let led = parser_value c.take_introducer-leading.new.self c.args.screen.now c.args.callbacks.now in
    let before = parser_value c.args.scanner.now c.args.screen.now c.args.callbacks.now in
    let now = parser_value c.end_sequence.new.scanner c.end_sequence.new.screen c.end_sequence.new.callbacks in
    let fed = c.take_introducer-leading.ensures.fed in
    let there : StoppedAt does led (drop leading bytes) c.in-Err.before now =
    subst (λ (left : List ℕ). StoppedAt does led left c.in-Err.before now) (all_left bytes leading)
    c.in-Err.ensures.read.where_stopped in
    stopped_in does before now bytes (leading + c.in-Err.before)
    (stopped_then does before led now bytes leading
    (known_ran does before led (take leading bytes) [] fed refl)
    (subst (λ (left : List ℕ). Stopped does led left now) (all_left bytes leading)
    (c.in-Err.ensures.read.stopped refl)))
    (stopped_at_then does before led now bytes leading c.in-Err.before fed refl there)

pub returns-in-Ok-clause-read : goal.returns-in-Ok-clause-read
returns-in-Ok-clause-read g c =
    let does = g.CB.Callbacks.does in
    let bytes = c.args.bytes.now in
    let leading = c.take_introducer-leading.result in
    let count = c.in-Ok.last in
    let before = parser_value c.args.scanner.now c.args.screen.now c.args.callbacks.now in
    let led = parser_value c.take_introducer-leading.new.self c.args.screen.now c.args.callbacks.now in
    let now = parser_value c.end_sequence.new.scanner c.end_sequence.new.screen c.end_sequence.new.callbacks in
    let inside : leading + count ≤ length bytes = search rules in
    some_read does before now bytes (leading + count) inside
    (ran_on does before led now bytes leading count c.take_introducer-leading.ensures.inside
    (known_ran does before led (take leading bytes) [] c.take_introducer-leading.ensures.fed refl)
    (subst (λ (left : List ℕ). Ran does led (take count left) now) (all_left bytes leading)
    c.in-Ok.ensures.read.ran))

pub returns-in-Ok-clause-last : goal.returns-in-Ok-clause-last
returns-in-Ok-clause-last g c =
    let bytes = c.args.bytes.now in
    let leading = c.take_introducer-leading.result in
    led_by_last c.args.callbacks.now c.end_sequence.new.callbacks c.args.screen.now c.args.scanner.now
    c.take_introducer-leading.new.self
    bytes leading c.in-Ok.last c.take_introducer-leading.ensures.fed
    (subst (λ (left : List ℕ). CallsByLast c.args.callbacks.now c.args.screen.now c.take_introducer-leading.new.self left c.in-Ok.last
    c.end_sequence.new.callbacks) (all_left bytes leading) c.in-Ok.ensures.last)

pub returns-then-leading-bytes-clause-last : goal.returns-then-leading-bytes-clause-last
returns-then-leading-bytes-clause-last g c =
    inl (
      refl,
      silent_none c.args.screen.now c.args.scanner.now c.take_introducer-leading.new.self
          (take c.take_introducer-leading.result c.args.bytes.now) c.take_introducer-leading.ensures.fed,
    )

pub returns-then-leading-bytes-clause-erased : goal.returns-then-leading-bytes-clause-erased
returns-then-leading-bytes-clause-erased g c =
    known_counts c.args.scanner.now c.take_introducer-leading.new.self
    (take c.take_introducer-leading.result c.args.bytes.now) [] c.args.erasures.now c.take_introducer-leading.ensures.fed

pub returns-in-Ok-clause-erased : goal.returns-in-Ok-clause-erased
returns-in-Ok-clause-erased g c =
    let held = c.args.scanner.now in
    let bytes = c.args.bytes.now in
    let leading = c.take_introducer-leading.result in
    let led = c.take_introducer-leading.new.self in
    let old = c.args.erasures.now in
    let new = c.end_sequence.new.erasures in
    counts_on held led bytes leading c.in-Ok.last old old new (λ s stands. (c.take_introducer-leading.ensures.fed s stands).0)
    (known_counts held led (take leading bytes) [] old c.take_introducer-leading.ensures.fed)
    (subst (λ (left : List ℕ). CountsErasures led (take c.in-Ok.last left) old new) (all_left bytes leading)
    c.in-Ok.ensures.erased)

pub returns-in-Err-clause-erased : goal.returns-in-Err-clause-erased
returns-in-Err-clause-erased g c s stands =
    let leading = c.take_introducer-leading.result in
    c.in-Err.ensures.erased (run s (take leading c.args.bytes.now)).state (c.take_introducer-leading.ensures.fed s stands).0
