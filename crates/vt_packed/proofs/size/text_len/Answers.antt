use Rattle.std.proofs.Common.{◌∙◌, ap, arith, length, sym}
use Rattle.vt_cells.proofs.Cells.{text_short}
use Rattle.vt_packed.specs.Items.{stored_text}
use Rattle.vt_packed.proofs.PackedCells.{text_of-half, text_of-item}
use Rattle.vt_packed.proofs.size.text_len.Goals as goal

pub returns-then-is_wide_continuation : goal.returns-then-is_wide_continuation
returns-then-is_wide_continuation c =
    sym (ap length (text_of-half c.args.cell.now (sym c.is_wide_continuation.ensures ∙ c.if-is_wide_continuation.true)))

pub stored_len-requires : goal.stored_len-requires
stored_len-requires c =
    omega (
      arith,
      text_short c.args.cell.now c.contents-contents.ensures.sound,
      c.as_bytes.ensures.len,
      ap length c.contents-contents.ensures.value,
    )

pub returns : goal.returns
returns c =
    c.stored_len.ensures
    ∙ ap length
    (ap stored_text (c.as_bytes.ensures.value ∙ c.contents-contents.ensures.value)
    ∙ sym (text_of-item c.args.cell.now (sym c.is_wide_continuation.ensures ∙ c.if-is_wide_continuation.false)))
