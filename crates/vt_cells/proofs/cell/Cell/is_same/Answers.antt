use Rattle.std.proofs.Common.{ap, sym, ◌∙◌}
use Rattle.vt_cells.proofs.Cells.{same_cell-headed, same_cell-other_head}
use Rattle.vt_cells.proofs.Packing.{head_of-same}
use Rattle.vt_cells.proofs.cell.Cell.is_same.Goals as goal

pub returns-then-not-has_head_of : goal.returns-then-not-has_head_of
returns-then-not-has_head_of c =
    sym (same_cell-other_head c.args.self.now c.args.other.now
    (sym c.has_head_of.ensures.value ∙ c.if-not-has_head_of.true))

pub has_text_of-requires : goal.has_text_of-requires
has_text_of-requires c =
    ap (λ h. h.shape.len) (head_of-same _ _ (sym c.has_head_of.ensures.value ∙ c.if-not-has_head_of.false))

pub returns : goal.returns
returns c =
    c.has_text_of.ensures
    ∙ same_cell-headed c.args.self.now c.args.other.now c.has_head_of.ensures.sound c.has_head_of.ensures.other
    (sym c.has_head_of.ensures.value ∙ c.if-not-has_head_of.false)
