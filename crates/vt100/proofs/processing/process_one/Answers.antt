-- A complete character of several bytes, or a byte that begins no character.
use Rattle.std.proofs.Common.{◌-◌, [], ◌∷◌, List, ℕ, get_or, inl, inr, refl, subst, sym, take, arith, rules}
use Rattle.std.proofs.lemmas.List.{take_more}
use Rattle.vt_scan.specs.Automaton.{Character}
use Rattle.vt_scan.specs.declared.event.Event.TheVariants as given
use Rattle.vt_scan.proofs.Steps.{one_event}
use Rattle.vt100.specs.Parser.{Ran, parser_value, stage}
use Rattle.vt100.proofs.Erasing.{first_counts, known_counts}
use Rattle.vt100.proofs.Running.{byte_ran, stopped_at_first, stopped_at_last, known_ran, known_stopped, some_read}
use Rattle.vt100.proofs.Running.{stopped_in, stopped_within}
use Rattle.vt100.proofs.processing.process_one.Goals as goal

pub returns-in-Err-clause-read : goal.returns-in-Err-clause-read
returns-in-Err-clause-read g c =
    let does = g.CB.Callbacks.does in
    let bytes = c.args.bytes.now in
    let held = c.args.scanner.now in
    let before = parser_value held c.args.screen.now c.args.callbacks.now in
    let now = parser_value held c.print.new.screen c.print.new.callbacks in
    let count = c.in-Some.count in
    let events = Character c.in-Some.character ∷ [] in
    let stops = inl (c.in-Err.ensures.stopped refl) in
    stopped_in does before now bytes (count - 1)
    (inr (known_stopped does before now held bytes count events c.in-Some.ensures.fed stops))
    (stopped_at_last does before now held bytes count events (omega (arith, c.in-Some.ensures.inside.0))
    c.in-Some.ensures.inside.1 c.in-Some.ensures.fed c.in-Some.ensures.before stops)

pub returns-in-Ok-clause-read : goal.returns-in-Ok-clause-read
returns-in-Ok-clause-read g c =
    let held = c.args.scanner.now in
    let before = parser_value held c.args.screen.now c.args.callbacks.now in
    let now = parser_value held c.print.new.screen c.print.new.callbacks in
    some_read g.CB.Callbacks.does before now c.args.bytes.now c.in-Some.count (search rules)
    (known_ran g.CB.Callbacks.does before now
    (take c.in-Some.count c.args.bytes.now) (Character c.in-Some.character ∷ [])
    c.in-Some.ensures.fed (stage now, c.in-Ok.ensures.done, refl))

pub returns-in-Ok-clause-last : goal.returns-in-Ok-clause-last
returns-in-Ok-clause-last g c = inr (search rules, c.in-Some.ensures.before)

pub returns-in-Err-print_apart-clause-read : goal.returns-in-Err-print_apart-clause-read
returns-in-Err-print_apart-clause-read g c =
    let does = g.CB.Callbacks.does in
    let held = c.args.scanner.now in
    let bytes = c.args.bytes.now in
    let before = parser_value held c.args.screen.now c.args.callbacks.now in
    let now = parser_value held c.print_apart.new.screen c.print_apart.new.callbacks in
    let events = one_event (given.Character 0xFFFD) in
    let fed = c.is_stray.ensures.feeds c.if-is_stray.true in
    let stops = inl (c.in-Err-print_apart.ensures.stopped refl) in
    stopped_in does before now bytes 0
    (inr (stopped_within does before before now held bytes 0 events c.requires (λ s stands. (stands, refl)) fed stops))
    (stopped_at_first does before now held bytes events c.requires fed stops)

pub returns-in-Ok-print_apart-clause-read : goal.returns-in-Ok-print_apart-clause-read
returns-in-Ok-print_apart-clause-read g c =
    let does = g.CB.Callbacks.does in
    let held = c.args.scanner.now in
    let bytes = c.args.bytes.now in
    let before = parser_value held c.args.screen.now c.args.callbacks.now in
    let now = parser_value held c.print_apart.new.screen c.print_apart.new.callbacks in
    some_read does before now bytes 1 c.requires
    (subst (λ (text : List ℕ). Ran does before text now) (sym (take_more bytes 0 0 c.requires))
    (byte_ran does before now (get_or bytes 0 0) (one_event (given.Character 0xFFFD))
    (c.is_stray.ensures.feeds c.if-is_stray.true) (stage now, c.in-Ok-print_apart.ensures.done, refl)))

pub returns-in-Ok-print_apart-clause-last : goal.returns-in-Ok-print_apart-clause-last
returns-in-Ok-print_apart-clause-last g c = inr (omega arith, λ s stands. refl)

pub returns-in-Ok-clause-erased : goal.returns-in-Ok-clause-erased
returns-in-Ok-clause-erased g c =
    let held = c.args.scanner.now in
    known_counts held held (take c.in-Some.count c.args.bytes.now) (Character c.in-Some.character ∷ [])
    c.args.erasures.now c.in-Some.ensures.fed

pub returns-in-Err-clause-erased : goal.returns-in-Err-clause-erased
returns-in-Err-clause-erased g c s stands = refl

pub returns-in-Ok-print_apart-clause-erased : goal.returns-in-Ok-print_apart-clause-erased
returns-in-Ok-print_apart-clause-erased g c =
    let held = c.args.scanner.now in
    first_counts held held c.args.bytes.now (one_event (given.Character 0xFFFD)) c.args.erasures.now c.requires
    (c.is_stray.ensures.feeds c.if-is_stray.true)

pub returns-in-Err-print_apart-clause-erased : goal.returns-in-Err-print_apart-clause-erased
returns-in-Err-print_apart-clause-erased g c s stands = refl

pub returns-clause-erased : goal.returns-clause-erased
returns-clause-erased g c = c.process_rest.ensures.erased
