use Rattle.std.proofs.Common.{◌-◌, List, Vec, Global, refl, ap, ◌∙◌}
use Rattle.std.specs.List.{slice_range}
use Rattle.std.specs.Vec.{with_items}
use borrow.Rule.Slice.PartMut.{put_mid}
use Rattle.vt_cells.specs.Cell.{CellValue}
use Rattle.vt_grid.specs.PageRows.{page_row, with_row_cells}
use Rattle.vt_grid.proofs.Bounds.{flat_changed}
use Rattle.vt_grid.proofs.Flats.{entered_again, row_printed}
use Rattle.vt_grid.proofs.page_rows.PageRows.edit_row.Goals as goal

pub invariant_of-self : goal.invariant_of-self
invariant_of-self g c =
    let flat = c.self.inside.flat in
    let a = c.part-start.result.0 in
    let b = c.part-start.result.1 in
    let xs = c.deref_mut.result.now in
    let new = c.edit-edited.new.arg2 in
    let lines = entered_again c.from-row.result 255 c.wrapped-was_wrapped.result c.is_still_wrapped-is_wrapped.result
    flat.lines.items c.set_entry.new.self.lines.items c.rewrap.new.self.lines.items
    c.part-start.ensures.line c.set_entry.ensures.lines c.rewrap.ensures.lines in
    let cells = c.rewrap.ensures.cells
    ∙ ap (λ (v : Vec CellValue Global). with_items v (put_mid a (b - a) xs new)) c.set_entry.ensures.cells in
    let borrowed = c.deref_mut.ensures.value ∙ ap (λ (v : Vec CellValue Global). v.items) c.set_entry.ensures.cells in
    flat_changed c.from-row.result a b flat c.rewrap.new.self xs new c.is_still_wrapped-is_wrapped.result
    c.self.invariant c.part-start.ensures.line cells borrowed c.part-start.ensures.start
    c.part-start.ensures.end c.part-start.ensures.inside c.edit-edited.auto.arg2
    (c.rewrap.ensures.columns ∙ c.set_entry.ensures.columns) lines

pub returns : goal.returns
returns g c =
    let r = c.from-row.result in
    let flat = c.self.inside.flat in
    let a = c.part-start.result.0 in
    let b = c.part-start.result.1 in
    let xs = c.deref_mut.result.now in
    let new = c.edit-edited.new.arg2 in
    let lines = entered_again r 255 c.wrapped-was_wrapped.result c.is_still_wrapped-is_wrapped.result
    flat.lines.items c.set_entry.new.self.lines.items c.rewrap.new.self.lines.items
    c.part-start.ensures.line c.set_entry.ensures.lines c.rewrap.ensures.lines in
    let cells = c.rewrap.ensures.cells
    ∙ ap (λ (v : Vec CellValue Global). with_items v (put_mid a (b - a) xs new)) c.set_entry.ensures.cells in
    let borrowed = c.deref_mut.ensures.value ∙ ap (λ (v : Vec CellValue Global). v.items) c.set_entry.ensures.cells in
    let edited = row_printed r 255 a b flat c.rewrap.new.self xs new
    c.wrapped-was_wrapped.result c.is_still_wrapped-is_wrapped.result c.self.invariant c.part-start.ensures.line
    cells borrowed c.part-start.ensures.start
    c.part-start.ensures.end c.part-start.ensures.inside c.edit-edited.auto.arg2
    (c.rewrap.ensures.columns ∙ c.set_entry.ensures.columns)
    lines c.wrapped-was_wrapped.ensures c.is_still_wrapped-is_wrapped.ensures in
    let row_contents = ap (λ (items : List CellValue). slice_range items a b) borrowed
    ∙ c.part-start.ensures.row
    ∙ (λ z. (page_row (c.self.view_is z) (c.from-row.ensures z)).cells) in (
      new,
      record { shown = _; shows = row_contents; left = _; met = c.edit-edited.ensures; leaves = refl },
      edited ∙ (λ z. with_row_cells (c.from-row.ensures z) new (c.self.view_is z)),
    )
