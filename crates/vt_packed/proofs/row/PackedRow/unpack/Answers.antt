use Rattle.std.proofs.Common.{◌≡◌, ◌∙◌, List, ap, ap₂, length, sym}
use Rattle.std.proofs.lemmas.List.{ext_get_or}
use Rattle.vt_cells.specs.Cell.{CellValue, default_blank}
use Rattle.vt_rows.specs.Cells.{at}
use Rattle.vt_rows.specs.Row.{RowValue}
use Rattle.vt_packed.specs.Items.{Item, cells_of}
use Rattle.vt_packed.specs.Packed.{items_from, padded, styles_of}
use Rattle.vt_packed.proofs.PackedCells.{at-padded}
use Rattle.vt_packed.proofs.row.PackedRow.unpack.Goals as goal

pub returns : goal.returns
returns c =
    let row = c.self.inside in
    let items = items_from (styles_of row.runs.items) row.text.items in
    let own : c.items_of.result ≡ items = c.items_of.ensures
    ∙ ap₂ (λ runs text. items_from (styles_of runs) text) c.deref.ensures.value c.deref-2.ensures.value in
    let whole : padded row.cols (cells_of items) ≡ c.args.self.now.cells = ap (λ (r : RowValue). r.cells) c.self.view_is in
    ext_get_or default_blank c.write_items.new.cells (padded row.cols (cells_of items))
    (c.write_items.ensures.len ∙ (c.requires ∙ ap (λ (xs : List CellValue). length xs) (sym whole)))
    (λ k h. c.write_items.ensures.value k (rw (sym c.write_items.ensures.len) h)
    ∙ (ap (λ (is : List Item). at (cells_of is) k) own ∙ sym (at-padded row.cols (cells_of items) k)))
    ∙ whole
