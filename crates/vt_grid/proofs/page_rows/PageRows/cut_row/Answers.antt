use Rattle.std.proofs.Common.{◌≡◌, ◌∙◌, false, List, length, ap, arith}
use Rattle.std.specs.List.{slice_range}
use Rattle.std.proofs.lemmas.List.{get_or-set_same, length-set}
use Rattle.vt_cells.specs.Attrs.{default_attrs}
use Rattle.vt_cells.specs.Cell.{CellValue}
use Rattle.vt_rows.specs.Cells.{at}
use Rattle.vt_rows.specs.Row.{RowValue, blank_row}
use Rattle.vt_grid.specs.Flat.{rows_of, used_columns}
use Rattle.vt_grid.specs.Internals.{cells_cut}
use Rattle.vt_grid.specs.PageRows.{PageRowsValue, page_row, with_page_row}
use Rattle.vt_grid.proofs.Bounds.{flat_changed}
use Rattle.vt_grid.proofs.Flats.{page_rows_of, row_changed}
use Rattle.vt_grid.proofs.Widths.{cut_used}
use Rattle.vt_grid.proofs.page_rows.PageRows.cut_row.Goals as goal

pub cut-requires-clause-blank : goal.cut-requires-clause-blank
cut-requires-clause-blank c =
    let row_contents = ap (λ (items : List CellValue). slice_range items c.part-start.result.0 c.part-start.result.1)
    c.deref_mut.ensures.value
    ∙ (c.part-start.ensures.row ∙ (λ z. (page_row (c.self.view_is z) (c.from-index.ensures z)).cells)) in
    λ k h. ap (λ (xs : List CellValue). at xs k) row_contents ∙ c.used_len-used.ensures.blank k h

pub invariant_of-self : goal.invariant_of-self
invariant_of-self c =
    flat_changed c.from-index.result c.part-start.result.0 c.part-start.result.1 c.self.inside.flat
    c.set_entry.new.self c.deref_mut.result.now c.cut.new.cells false c.self.invariant
    c.part-start.ensures.line c.set_entry.ensures.cells c.deref_mut.ensures.value c.part-start.ensures.start
    c.part-start.ensures.end c.part-start.ensures.inside c.cut.auto.cells c.set_entry.ensures.columns
    c.set_entry.ensures.lines

pub note_used-requires-clause-inside : goal.note_used-requires-clause-inside
note_used-requires-clause-inside c =
    let flat = c.self.inside.flat in
    let r = c.from-index.result in
    let row : RowValue = record { cells = c.cut.new.cells; wrapped = false } in
    let changed = row_changed r 255 c.part-start.result.0 c.part-start.result.1 flat
    c.set_entry.new.self c.deref_mut.result.now c.cut.new.cells false c.self.invariant c.part-start.ensures.line
    c.set_entry.ensures.cells c.deref_mut.ensures.value c.part-start.ensures.start c.part-start.ensures.end
    c.part-start.ensures.inside c.cut.auto.cells c.set_entry.ensures.columns c.set_entry.ensures.lines in
    omega (
      arith,
      c.requires.inside,
      ap (λ (s : PageRowsValue). length s.rows) c.self.view_is,
      ap (λ (s : PageRowsValue). length s.rows) changed,
      length-set (rows_of flat) r row,
    )

pub note_used-requires-clause-blank : goal.note_used-requires-clause-blank
note_used-requires-clause-blank c =
    let own = c.args.self.now in
    let flat = c.self.inside.flat in
    let old = (page_row own c.args.row).cells in
    let row : RowValue = record { cells = cells_cut c.args.width old; wrapped = false } in
    let row_contents = ap (λ (items : List CellValue). slice_range items c.part-start.result.0 c.part-start.result.1)
    c.deref_mut.ensures.value
    ∙ (c.part-start.ensures.row ∙ (λ z. (page_row (c.self.view_is z) (c.from-index.ensures z)).cells)) in
    let new : c.cut.new.cells ≡ cells_cut c.args.width old = c.cut.ensures ∙ (λ z. cells_cut (c.from.ensures z) (row_contents z)) in
    let same : page_rows_of c.set_entry.new.self ≡ with_page_row c.args.row row own =
    row_changed c.from-index.result 255 c.part-start.result.0 c.part-start.result.1 flat
    c.set_entry.new.self c.deref_mut.result.now c.cut.new.cells false c.self.invariant c.part-start.ensures.line
    c.set_entry.ensures.cells c.deref_mut.ensures.value c.part-start.ensures.start c.part-start.ensures.end
    c.part-start.ensures.inside c.cut.auto.cells c.set_entry.ensures.columns c.set_entry.ensures.lines
    ∙ (λ z. with_page_row (c.from-index.ensures z) (record { cells = new z; wrapped = false }) (c.self.view_is z)) in
    let groups = c.groups-groups.result in
    let here : page_row (page_rows_of c.set_entry.new.self) c.args.row ≡ row =
    ap (λ (s : PageRowsValue). page_row s c.args.row) same
    ∙ get_or-set_same own.rows c.args.row row (blank_row default_attrs own.width) c.requires.inside in
    λ k h.
    ap (λ (x : RowValue). at x.cells k) here
    ∙ cut_used c.args.width (used_columns own.width groups) old c.requires.paired c.requires.fits
    c.groups-groups.ensures k (omega (arith, h, ap (λ (s : PageRowsValue). used_columns s.width groups) same))

pub returns : goal.returns
returns c =
    let own = c.args.self.now in
    let flat = c.self.inside.flat in
    let old = (page_row own c.args.row).cells in
    let row : RowValue = record { cells = cells_cut c.args.width old; wrapped = false } in
    let row_contents = ap (λ (items : List CellValue). slice_range items c.part-start.result.0 c.part-start.result.1)
    c.deref_mut.ensures.value
    ∙ (c.part-start.ensures.row ∙ (λ z. (page_row (c.self.view_is z) (c.from-index.ensures z)).cells)) in
    let new : c.cut.new.cells ≡ cells_cut c.args.width old = c.cut.ensures ∙ (λ z. cells_cut (c.from.ensures z) (row_contents z)) in
    let same : page_rows_of c.set_entry.new.self ≡ with_page_row c.args.row row own =
    row_changed c.from-index.result 255 c.part-start.result.0 c.part-start.result.1 flat
    c.set_entry.new.self c.deref_mut.result.now c.cut.new.cells false c.self.invariant c.part-start.ensures.line
    c.set_entry.ensures.cells c.deref_mut.ensures.value c.part-start.ensures.start c.part-start.ensures.end
    c.part-start.ensures.inside c.cut.auto.cells c.set_entry.ensures.columns c.set_entry.ensures.lines
    ∙ (λ z. with_page_row (c.from-index.ensures z) (record { cells = new z; wrapped = false }) (c.self.view_is z)) in
    c.note_used.ensures ∙ same
