use Rattle.std.proofs.Common.{◌≡◌, ◌∙◌, List, ap, ap₂, length, sym}
use Rattle.vt_rows.specs.Cells.{at, cells_after_resize}
use Rattle.vt_rows.specs.Row.{RowValue}
use Rattle.vt_rows.proofs.ShiftSteps.{resized_is}
use Rattle.vt_packed.specs.Items.{Item, cells_of}
use Rattle.vt_packed.specs.Packed.{items_from, padded, styles_of}
use Rattle.vt_packed.proofs.PackedCells.{IsPaired-padded, at-padded}
use Rattle.vt_packed.proofs.row.PackedRow.refit.Goals as goal

pub returns : goal.returns
returns c =
    let row = c.self.inside in
    let items = items_from (styles_of row.runs.items) row.text.items in
    let own : c.items_of.result ≡ items = c.items_of.ensures
    ∙ ap₂ (λ runs text. items_from (styles_of runs) text) c.deref.ensures.value c.deref-2.ensures.value in
    let whole : padded row.cols (cells_of items) ≡ c.args.self.now.cells = ap (λ (r : RowValue). r.cells) c.self.view_is in
    c.blank_end.ensures
    ∙ (resized_is (length c.args.cells.now) (padded row.cols (cells_of items)) c.write_items.new.cells
    (IsPaired-padded row.cols items) c.write_items.ensures.len
    (λ k h. c.write_items.ensures.value k h
    ∙ (ap (λ (is : List Item). at (cells_of is) k) own ∙ sym (at-padded row.cols (cells_of items) k)))
    ∙ ap (cells_after_resize (length c.args.cells.now)) whole)
