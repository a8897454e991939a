use Rattle.std.proofs.Common.{◌∙◌, sym}
use Rattle.vt_packed.proofs.PackedCells.{adds_half, adds_item}
use Rattle.vt_packed.proofs.size.count_cell.Goals as goal

pub returns-then-is_wide_continuation-clause-adds : goal.returns-then-is_wide_continuation-clause-adds
returns-then-is_wide_continuation-clause-adds c = λ runs is.
    adds_half runs c.args.last.now c.args.cell.now
    (sym c.is_wide_continuation.ensures ∙ c.if-is_wide_continuation.true) is

pub returns-clause-adds : goal.returns-clause-adds
returns-clause-adds c = λ runs is.
    adds_item runs c.args.last.now c.count_style.new.last c.attrs.result c.is_wide.result c.args.cell.now
    c.count_style.result (sym c.is_wide_continuation.ensures ∙ c.if-is_wide_continuation.false) c.attrs.ensures
    c.is_wide.ensures is c.count_style.ensures.count c.count_style.ensures.last
