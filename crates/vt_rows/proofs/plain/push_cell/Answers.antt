use Rattle.std.proofs.Common.{◌++◌, ◌∙◌, List, ℕ, ap, append-nil, length, sym, arith}
use Rattle.vt_cells.proofs.Cells.{text_short}
use Rattle.vt_rows.proofs.RowTexts.{contents_shown, half_shown, other_shown}
use Rattle.vt_rows.proofs.plain.push_cell.Goals as goal

pub push-requires : goal.push-requires
push-requires c =
    let short = text_short c.args.cell.now c.contents.ensures.sound in
    omega (arith, c.requires, ap length c.contents.ensures.value)

pub returns-then-has_contents : goal.returns-then-has_contents
returns-then-has_contents c =
    c.push.ensures
    ∙ ap (λ (xs : List ℕ). c.args.buffer.now ++ xs)
    (c.contents.ensures.value
    ∙ contents_shown c.args.cell.now (sym c.has_contents.ensures ∙ c.if-has_contents.true))

pub returns-then-not-is_wide_continuation : goal.returns-then-not-is_wide_continuation
returns-then-not-is_wide_continuation c =
    c.push_byte.ensures
    ∙ ap (λ (xs : List ℕ). c.args.buffer.now ++ xs)
    (sym (other_shown c.args.cell.now (sym c.has_contents.ensures ∙ c.if-has_contents.false)
    (sym c.is_wide_continuation.ensures ∙ c.if-not-is_wide_continuation.true)))

pub returns-else-not-is_wide_continuation : goal.returns-else-not-is_wide_continuation
returns-else-not-is_wide_continuation c =
    sym (ap (λ (xs : List ℕ). c.args.buffer.now ++ xs)
    (half_shown c.args.cell.now (sym c.is_wide_continuation.ensures ∙ c.if-not-is_wide_continuation.false))
    ∙ append-nil c.args.buffer.now)
