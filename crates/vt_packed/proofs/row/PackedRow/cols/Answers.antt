use Rattle.std.proofs.Common.{◌∙◌, ap, length, sym}
use Rattle.vt_rows.specs.Row.{RowValue}
use Rattle.vt_packed.specs.Items.{cells_of}
use Rattle.vt_packed.specs.Packed.{items_from, styles_of}
use Rattle.vt_packed.proofs.PackedCells.{length-padded}
use Rattle.vt_packed.proofs.row.PackedRow.cols.Goals as goal

pub returns : goal.returns
returns c =
    let row = c.self.inside in
    sym (length-padded row.cols (cells_of (items_from (styles_of row.runs.items) row.text.items)) c.self.invariant.inside)
    ∙ ap (λ (r : RowValue). length r.cells) c.self.view_is
