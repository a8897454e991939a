use Rattle.std.proofs.Common.{◌≡◌, ◌<◌, ◌≤◌, ◌∙◌, length, sym, ap, arith}
use Rattle.std.proofs.lemmas.List.{take-take}
use Rattle.vt_cells.specs.Attrs.{default_attrs}
use Rattle.vt_rows.specs.Row.{RowValue, blank_row, cells_without_end}
use Rattle.vt_grid.specs.declared.flat.Line.{Line}
use Rattle.vt_grid.specs.Flat.{cells_at, line_at, row_in, used_columns}
use Rattle.vt_grid.specs.PageRows.{PageRowsValue, page_row}
use Rattle.vt_grid.proofs.Bounds.{row_blank_from, used_inside, used_without_end}
use Rattle.vt_grid.proofs.Flats.{place_start, row_found, rows_counted}
use Rattle.vt_grid.proofs.page_rows.PageRows.used_cells.Goals as goal

pub returns : goal.returns
returns c =
    let flat = c.self.inside.flat in
    let lines = flat.lines.items in
    let w = flat.columns in
    let r = c.args.row in
    let u = c.used_columns-used.result in
    let inside : r < length lines = omega (
      arith,
      c.requires,
      rows_counted w flat.cells.items lines,
      ap (λ (s : PageRowsValue). length s.rows) c.self.view_is,
    ) in
    let line = line_at lines r in
    let row = row_found w r flat.cells.items lines (blank_row default_attrs w.shown) inside in
    let cells : (row_in w flat.cells.items line).cells ≡ (page_row c.args.self.now r).cells =
    sym (ap (λ (x : RowValue). x.cells) row) ∙ (λ z. (page_row (c.self.view_is z) r).cells) in
    let used : u ≡ used_columns w.shown line.used =
    c.used_columns-used.ensures
    ∙ ap (λ (x : Line). used_columns w.shown x.used)
    c.get.ensures in
    let few : u ≤ w.shown = omega (arith, used, used_inside w.shown line.used) in
    let start = place_start w.stored u line.place c.part-start.result.0 flat.cells.items c.deref.result.now
    c.deref.ensures.value c.part-start.ensures.start (omega (arith, few, c.self.invariant.fits))
    ∙ sym (take-take u w.shown (cells_at w.stored flat.cells.items line.place) few) in
    ap cells_without_end start
    ∙ (used_without_end u (row_in w flat.cells.items line).cells
    (λ k h. row_blank_from r flat c.self.invariant inside k (omega (arith, h, used)))
    ∙ ap cells_without_end cells)
