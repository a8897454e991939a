use Rattle.std.proofs.Common.{◌≡◌, ◌∙◌, ap, arith, length, sym}
use Rattle.vt_rows.specs.Row.{RowValue}
use Rattle.vt_packed.specs.Items.{cells_of}
use Rattle.vt_packed.specs.Packed.{items_from, packed_size, styles_of}
use Rattle.vt_packed.proofs.PackedCells.{length-padded}
use Rattle.vt_packed.proofs.Sizes.{packed_own, packed_small}
use Rattle.vt_packed.proofs.row.PackedRow.packed_len.Goals as goal

pub returns-clause-size : goal.returns-clause-size
returns-clause-size c =
    let row = c.self.inside in
    let runs : length row.runs.items ≡ c.len.result = omega (arith, row.runs.ok.0, c.len.ensures) in
    let text : length row.text.items ≡ c.len-2.result = omega (arith, row.text.ok.0, c.len-2.ensures) in
    ap packed_size (sym c.self.view_is)
    ∙ packed_own row.runs.items row.text.items row.cols row.wrapped c.len.result c.len-2.result c.self.invariant runs text

pub returns-clause-runs : goal.returns-clause-runs
returns-clause-runs c =
    let row = c.self.inside in
    let cols : row.cols ≡ length c.args.self.now.cells =
    sym (length-padded row.cols (cells_of (items_from (styles_of row.runs.items) row.text.items)) c.self.invariant.inside)
    ∙ ap (λ (r : RowValue). length r.cells) c.self.view_is in
    let small = packed_small row.runs.items row.text.items row.cols c.self.invariant in
    omega (arith, cols, small.0, row.runs.ok.0, c.len.ensures)

pub returns-clause-text : goal.returns-clause-text
returns-clause-text c =
    let row = c.self.inside in
    let cols : row.cols ≡ length c.args.self.now.cells =
    sym (length-padded row.cols (cells_of (items_from (styles_of row.runs.items) row.text.items)) c.self.invariant.inside)
    ∙ ap (λ (r : RowValue). length r.cells) c.self.view_is in
    let small = packed_small row.runs.items row.text.items row.cols c.self.invariant in
    omega (arith, cols, small.1, row.text.ok.0, c.len-2.ensures)
