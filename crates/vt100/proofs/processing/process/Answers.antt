use Rattle.std.proofs.Common.{◌≡◌, ℕ, ◌+◌, ◌-◌, List, length, take, drop, refl, ap, subst, ◌∙◌, arith}
use Rattle.std.proofs.lemmas.List.{length-drop, drop-drop, take_all}
use Rattle.vt100.specs.Erasures.{CountsErasures}
use Rattle.vt100.specs.Parser.{Ran, Stopped, StoppedAt, parser_value}
use Rattle.vt100.proofs.Erasing.{counts_until, counts_on}
use Rattle.vt100.proofs.Running.{ran_on, stopped_then}
use Rattle.vt100.proofs.processing.process.Goals as goal

-- A slice up to the end is the rest of the bytes.
all_left : (bytes : List ℕ) (k : ℕ) → take (length bytes - k) (drop k bytes) ≡ drop k bytes
all_left bytes k = take_all (length bytes - k) (drop k bytes) (omega (arith, length-drop k bytes))

pub loop-rest-preserved : goal.loop-rest-preserved
loop-rest-preserved g c =
    let at = c.loop-rest.invariant.0 in
    let rest = c.loop-rest.rest.now in
    let left : rest ≡ drop at c.args.bytes.now = c.loop-rest.invariant.2 in
    let count = c.in-Ok.count in
    let bytes = c.args.bytes.now in
    let before = parser_value c.args.scanner.now c.args.screen.now c.args.callbacks.now in
    let so_far = parser_value c.loop-rest.scanner c.loop-rest.screen c.loop-rest.callbacks in
    let now = parser_value c.process_some.new.scanner c.process_some.new.screen c.process_some.new.callbacks in
    let more = subst (λ (xs : List ℕ). Ran g.CB.Callbacks.does so_far (take count xs) now) left c.in-Ok.ensures.read.ran in (
      at + count,
      omega (arith, length-drop at bytes, ap length left, c.in-Ok.ensures.read.inside, c.loop-rest.invariant.1),
      all_left rest count ∙ (ap (drop count) left ∙ drop-drop count at bytes),
      ran_on g.CB.Callbacks.does before so_far now bytes at count c.loop-rest.invariant.1 c.loop-rest.invariant.3 more,
      counts_on c.args.scanner.now c.loop-rest.scanner bytes at count c.args.erasures.now c.loop-rest.erasures
          c.process_some.new.erasures (λ s stands. (c.loop-rest.invariant.3 s stands).0) c.loop-rest.invariant.4
          (subst (λ (xs : List ℕ). CountsErasures c.loop-rest.scanner (take count xs) c.loop-rest.erasures
          c.process_some.new.erasures) left c.in-Ok.ensures.erased),
    )

pub returns-in-Err-clause-stopped : goal.returns-in-Err-clause-stopped
returns-in-Err-clause-stopped g c e =
    let bytes = c.args.bytes.now in
    let before = parser_value c.args.scanner.now c.args.screen.now c.args.callbacks.now in
    let so_far = parser_value c.loop-rest.scanner c.loop-rest.screen c.loop-rest.callbacks in
    let now = parser_value c.process_some.new.scanner c.process_some.new.screen c.process_some.new.callbacks in
    stopped_then g.CB.Callbacks.does before so_far now bytes c.loop-rest.invariant.0 c.loop-rest.invariant.3
    (subst (λ (xs : List ℕ). Stopped g.CB.Callbacks.does so_far xs now)
    c.loop-rest.invariant.2 (c.in-Err.ensures.read.stopped refl))

pub returns-in-Err-clause-erased_before : goal.returns-in-Err-clause-erased_before
returns-in-Err-clause-erased_before g c e =
    let does = g.CB.Callbacks.does in
    let at = c.loop-rest.invariant.0 in
    let before = parser_value c.args.scanner.now c.args.screen.now c.args.callbacks.now in
    let so_far = parser_value c.loop-rest.scanner c.loop-rest.screen c.loop-rest.callbacks in
    let now = parser_value c.process_some.new.scanner c.process_some.new.screen c.process_some.new.callbacks in
    counts_until does before so_far now c.args.bytes.now at c.in-Err.field-0 c.args.erasures.now c.loop-rest.erasures
    c.process_some.new.erasures c.loop-rest.invariant.3 c.loop-rest.invariant.4
    (subst (λ (xs : List ℕ). StoppedAt does so_far xs c.in-Err.field-0 now) c.loop-rest.invariant.2
    c.in-Err.ensures.read.where_stopped)
    c.in-Err.ensures.erased
