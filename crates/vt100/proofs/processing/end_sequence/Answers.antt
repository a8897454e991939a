-- The byte that ends a control sequence or an escape sequence.
use Rattle.std.proofs.Common.{[], ◌∷◌, ◌∙◌, List, ℕ, get_or, inl, inr, refl, subst, sym, take, arith}
use Rattle.std.proofs.lemmas.List.{take_more}
use Rattle.vt_scan.specs.Scanner.{Feeds, ScannerValue}
use Rattle.vt_scan.specs.declared.event.Event.TheVariants.{Csi, Escape, Osc}
use Rattle.vt_scan.proofs.Steps.{one_event}
use Rattle.vt_scan.proofs.Leading.{feeds_none}
use Rattle.vt100.specs.Parser.{Ran, parser_value, stage}
use Rattle.vt100.specs.Erasures.{CountsErasures}
use Rattle.vt100.proofs.Erasing.{first_counts}
use Rattle.vt100.proofs.Running.{stopped_at_first, byte_ran, known_ran, released_ran, some_read, stopped_in}
use Rattle.vt100.proofs.Running.{stopped_within}
use Rattle.vt100.proofs.processing.end_sequence.Goals as goal

pub returns-in-Err-clause-read : goal.returns-in-Err-clause-read
returns-in-Err-clause-read g c =
    let does = g.CB.Callbacks.does in
    let bytes = c.args.bytes.now in
    let byte = get_or bytes 0 0 in
    let held = c.args.scanner.now in
    let before = parser_value held c.args.screen.now c.args.callbacks.now in
    let now = parser_value c.take_final_byte.new.self c.control_sequence.new.screen c.control_sequence.new.callbacks in
    let fed = c.take_final_byte.ensures.fed c.if-take_final_byte.true in
    let stops = inl (c.in-Err.ensures.stopped refl) in
    stopped_in does before now bytes 0
    (inr (stopped_within does before before now c.take_final_byte.new.self bytes 0 (one_event (Csi byte)) c.requires
    (known_ran does before before [] [] (feeds_none held) refl) fed stops))
    (stopped_at_first does before now c.take_final_byte.new.self bytes (one_event (Csi byte)) c.requires fed stops)

pub returns-in-Ok-clause-read : goal.returns-in-Ok-clause-read
returns-in-Ok-clause-read g c =
    let does = g.CB.Callbacks.does in
    let bytes = c.args.bytes.now in
    let byte = get_or bytes 0 0 in
    let before = parser_value c.args.scanner.now c.args.screen.now c.args.callbacks.now in
    let now = parser_value c.take_final_byte.new.self c.control_sequence.new.screen c.control_sequence.new.callbacks in
    some_read does before now bytes 1 c.requires
    (subst (λ (text : List ℕ). Ran does before text now) (sym (take_more bytes 0 0 c.requires))
    (byte_ran does before now byte (one_event (Csi byte)) (c.take_final_byte.ensures.fed c.if-take_final_byte.true)
    (stage now, c.in-Ok.ensures.done, refl)))

pub returns-then-take_escape_byte-clause-read : goal.returns-then-take_escape_byte-clause-read
returns-then-take_escape_byte-clause-read g c =
    let does = g.CB.Callbacks.does in
    let bytes = c.args.bytes.now in
    let byte = get_or bytes 0 0 in
    let before = parser_value c.args.scanner.now c.args.screen.now c.args.callbacks.now in
    let now = parser_value c.take_escape_byte.new.self c.escape_sequence.new.screen c.escape_sequence.new.callbacks in
    let fed : Feeds c.args.scanner.now byte c.take_escape_byte.new.self (one_event (Escape byte)) =
    subst (λ (held : ScannerValue). Feeds held byte c.take_escape_byte.new.self (one_event (Escape byte)))
    (c.take_final_byte.ensures.kept c.if-take_final_byte.false) (c.take_escape_byte.ensures.fed c.if-take_escape_byte.true) in
    some_read does before now bytes 1 c.requires
    (subst (λ (text : List ℕ). Ran does before text now) (sym (take_more bytes 0 0 c.requires))
    (byte_ran does before now byte (one_event (Escape byte)) fed (stage now, c.escape_sequence.ensures, refl)))

pub returns-then-take_command_byte-clause-read : goal.returns-then-take_command_byte-clause-read
returns-then-take_command_byte-clause-read g c =
    let does = g.CB.Callbacks.does in
    let bytes = c.args.bytes.now in
    let byte = get_or bytes 0 0 in
    let before = parser_value c.args.scanner.now c.args.screen.now c.args.callbacks.now in
    let told = parser_value c.take_command_byte.new.self c.command.new.screen c.command.new.callbacks in
    let now = parser_value c.release_text.new.self c.command.new.screen c.command.new.callbacks in
    let fed : Feeds c.args.scanner.now byte c.take_command_byte.new.self (one_event Osc) =
    subst (λ (held : ScannerValue). Feeds held byte c.take_command_byte.new.self (one_event Osc))
    (c.take_escape_byte.ensures.kept c.if-take_escape_byte.false ∙ c.take_final_byte.ensures.kept c.if-take_final_byte.false)
    (c.take_command_byte.ensures.fed c.if-take_command_byte.true) in
    some_read does before now bytes 1 c.requires
    (subst (λ (text : List ℕ). Ran does before text now) (sym (take_more bytes 0 0 c.requires))
    (released_ran does before told c.release_text.new.self (byte ∷ [])
    (byte_ran does before told byte (one_event Osc) fed (stage told, c.command.ensures, refl))
    c.release_text.ensures.stands))

pub returns-in-Ok-clause-last : goal.returns-in-Ok-clause-last
returns-in-Ok-clause-last g c = inr (omega arith, λ s stands. refl)

pub returns-then-take_escape_byte-clause-last : goal.returns-then-take_escape_byte-clause-last
returns-then-take_escape_byte-clause-last g c = inr (omega arith, λ s stands. refl)

pub returns-then-take_command_byte-clause-last : goal.returns-then-take_command_byte-clause-last
returns-then-take_command_byte-clause-last g c = inr (omega arith, λ s stands. refl)

pub returns-clause-last : goal.returns-clause-last
returns-clause-last g c = inl (refl, λ s stands. (c.args.screen.now, refl))

pub returns-in-Ok-clause-erased : goal.returns-in-Ok-clause-erased
returns-in-Ok-clause-erased g c =
    let held = c.args.scanner.now in
    let bytes = c.args.bytes.now in
    let old = c.args.erasures.now in
    subst (λ (new : ℕ). CountsErasures held (take 1 bytes) old new) (sym c.count_sequence.ensures)
    (first_counts held c.take_final_byte.new.self bytes (one_event (Csi (get_or bytes 0 0))) old c.requires
    (c.take_final_byte.ensures.fed c.if-take_final_byte.true))

pub returns-in-Err-clause-erased : goal.returns-in-Err-clause-erased
returns-in-Err-clause-erased g c s stands = refl

pub returns-then-take_escape_byte-clause-erased : goal.returns-then-take_escape_byte-clause-erased
returns-then-take_escape_byte-clause-erased g c =
    let held = c.args.scanner.now in
    let bytes = c.args.bytes.now in
    let byte = get_or bytes 0 0 in
    let old = c.args.erasures.now in
    let fed : Feeds held byte c.take_escape_byte.new.self (one_event (Escape byte)) =
    subst (λ (one : ScannerValue). Feeds one byte c.take_escape_byte.new.self (one_event (Escape byte)))
    (c.take_final_byte.ensures.kept c.if-take_final_byte.false) (c.take_escape_byte.ensures.fed c.if-take_escape_byte.true) in
    subst (λ (new : ℕ). CountsErasures held (take 1 bytes) old new) (sym c.count_escape.ensures)
    (first_counts held c.take_escape_byte.new.self bytes (one_event (Escape byte)) old c.requires fed)

pub returns-then-take_command_byte-clause-erased : goal.returns-then-take_command_byte-clause-erased
returns-then-take_command_byte-clause-erased g c =
    let bytes = c.args.bytes.now in
    let byte = get_or bytes 0 0 in
    let fed : Feeds c.args.scanner.now byte c.take_command_byte.new.self (one_event Osc) =
    subst (λ (one : ScannerValue). Feeds one byte c.take_command_byte.new.self (one_event Osc))
    (c.take_escape_byte.ensures.kept c.if-take_escape_byte.false ∙ c.take_final_byte.ensures.kept c.if-take_final_byte.false)
    (c.take_command_byte.ensures.fed c.if-take_command_byte.true) in
    first_counts c.args.scanner.now c.take_command_byte.new.self bytes (one_event Osc) c.args.erasures.now c.requires fed

pub returns-clause-erased : goal.returns-clause-erased
returns-clause-erased g c s stands = refl
