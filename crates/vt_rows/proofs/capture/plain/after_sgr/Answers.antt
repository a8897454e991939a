use Rattle.std.proofs.Common.{◌≡◌, ◌+◌, ◌-◌, ◌∷◌, length, ap, ◌∙◌, arith}
use Rattle.std.proofs.lemmas.List.{length-append}
use Rattle.std.proofs.lemmas.Str.Pattern.{split_parts}
use Rattle.vt_rows.specs.Internals.{pieces_from, pieces_within}
use Rattle.vt_rows.proofs.Pieces.{within_over, within_to_end}
use Rattle.vt_rows.proofs.capture.plain.after_sgr.Goals as goal

pub returns-in-Some-clause-pieces : goal.returns-in-Some-clause-pieces
returns-in-Some-clause-pieces c at =
    let parts = split_parts 0x6D c.args.text.now c.split_once.result c.split_once.ensures.cases (omega arith) in
    let cut = rw c.in-Some.is at parts in
    let sizes : length c.args.text.now ≡ length c.in-Some.field-0-0.now + length (0x6D ∷ c.in-Some.rest.now) =
    ap length cut.0 ∙ length-append c.in-Some.field-0-0.now (0x6D ∷ c.in-Some.rest.now) in
    let places : at + (length c.in-Some.field-0-0.now + 1) ≡ at + (length c.args.text.now - length c.in-Some.rest.now) =
    omega (arith, sizes) in
    ap (pieces_within at) cut.0 ∙ within_over at c.in-Some.field-0-0.now c.in-Some.rest.now cut.1
    ∙ ap (λ n. pieces_from n c.in-Some.rest.now) places

pub returns-in-None-clause-pieces : goal.returns-in-None-clause-pieces
returns-in-None-clause-pieces c at =
    let parts = split_parts 0x6D c.args.text.now c.split_once.result c.split_once.ensures.cases (omega arith) in
    within_to_end at c.args.text.now (rw c.in-None.is at parts)
