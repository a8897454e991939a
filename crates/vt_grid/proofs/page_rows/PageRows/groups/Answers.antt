use Rattle.std.proofs.Common.{◌≡◌, ◌<◌, ◌∙◌, List, length, sym, ap, arith}
use Rattle.vt_cells.specs.Attrs.{default_attrs}
use Rattle.vt_cells.specs.Cell.{CellValue}
use Rattle.vt_rows.specs.Cells.{at}
use Rattle.vt_rows.specs.Row.{RowValue, blank_row}
use Rattle.vt_grid.specs.Flat.{line_at, used_columns}
use Rattle.vt_grid.specs.PageRows.{PageRowsValue, page_row}
use Rattle.vt_grid.proofs.Bounds.{row_blank_from}
use Rattle.vt_grid.proofs.Flats.{row_found, rows_counted}
use Rattle.vt_grid.proofs.page_rows.PageRows.groups.Goals as goal

pub get-requires : goal.get-requires
get-requires c =
    let flat = c.self.inside.flat in
    omega (
      arith,
      c.requires,
      c.from.ensures,
      rows_counted flat.columns flat.cells.items flat.lines.items,
      ap (λ (s : PageRowsValue). length s.rows) c.self.view_is,
    )

pub returns : goal.returns
returns c =
    let flat = c.self.inside.flat in
    let lines = flat.lines.items in
    let r = c.args.row in
    let inside : r < length lines = omega (
      arith,
      c.requires,
      rows_counted flat.columns flat.cells.items lines,
      ap (λ (s : PageRowsValue). length s.rows) c.self.view_is,
    ) in
    let row = row_found flat.columns r flat.cells.items lines (blank_row default_attrs flat.columns.shown) inside in
    let cells = sym (ap (λ (x : RowValue). x.cells) row) ∙ (λ z. (page_row (c.self.view_is z) r).cells) in
    let line : c.get.result.now ≡ line_at lines r = c.get.ensures ∙ ap (line_at lines) c.from.ensures in
    let used : used_columns c.args.self.now.width c.get.result.now.used ≡ used_columns flat.columns.shown (line_at lines r).used =
    (λ z. used_columns (sym c.self.view_is z).width (line z).used) in
    λ k h.
    ap (λ (xs : List CellValue). at xs k) (sym cells)
    ∙ row_blank_from r flat c.self.invariant inside k (omega (arith, h, used))
