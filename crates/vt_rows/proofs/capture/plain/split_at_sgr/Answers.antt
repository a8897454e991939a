use Rattle.std.proofs.Common.{◌≡◌, ◌+◌, ◌-◌, [], ◌∷◌, length, ap, ◌∙◌, sym, arith, append-nil}
use Rattle.std.proofs.lemmas.List.{length-append}
use Rattle.std.proofs.lemmas.Str.Pattern.{split_parts}
use Rattle.vt_rows.specs.Internals.{pieces_from}
use Rattle.vt_rows.proofs.Pieces.{after_to_end, pieces_over}
use Rattle.vt_rows.proofs.capture.plain.split_at_sgr.Goals as goal

pub returns-in-Some-clause-pieces : goal.returns-in-Some-clause-pieces
returns-in-Some-clause-pieces c at =
    let parts = split_parts 0x1B c.args.text.now c.split_once.result c.split_once.ensures.cases (omega arith) in
    let cut = rw c.in-Some.is at parts in
    let sizes : length c.args.text.now ≡ length c.in-Some.piece.now + length (0x1B ∷ c.in-Some.rest.now) =
    ap length cut.0 ∙ length-append c.in-Some.piece.now (0x1B ∷ c.in-Some.rest.now) in
    let places : at + length c.in-Some.piece.now + 1 + (length c.in-Some.rest.now - length c.after_sgr.result.now)
    ≡ at + (length c.args.text.now - length c.after_sgr.result.now) = omega (arith, sizes, c.after_sgr.ensures.len) in
    ap (pieces_from at) cut.0
    ∙ pieces_over at c.in-Some.piece.now c.in-Some.rest.now cut.1 _
    (c.after_sgr.ensures.pieces (at + length c.in-Some.piece.now + 1)
    ∙ ap (λ n. pieces_from n c.after_sgr.result.now) places)

pub returns-in-None-clause-pieces : goal.returns-in-None-clause-pieces
returns-in-None-clause-pieces c at =
    let parts = split_parts 0x1B c.args.text.now c.split_once.result c.split_once.ensures.cases (omega arith) in
    after_to_end at [] c.args.text.now (rw c.in-None.is at parts) ∙ sym (append-nil _)
