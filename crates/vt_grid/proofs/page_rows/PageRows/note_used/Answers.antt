use Rattle.std.proofs.Common.{◌≡◌, ◌<◌, ◌+◌, ◌/◌, max, subst, ◌∙◌, ℕ, List, length, sym, ap, arith}
use Rattle.vt_cells.specs.Attrs.{default_attrs}
use Rattle.vt_cells.specs.Cell.{CellValue}
use Rattle.vt_rows.specs.Row.{RowValue, blank_row}
use Rattle.vt_grid.specs.Flat.{IsBlankFrom, line_at, row_in, used_columns}
use Rattle.vt_grid.specs.PageRows.{PageRowsValue, page_row}
use Rattle.vt_grid.proofs.Bounds.{flat_noted, noted_blank}
use Rattle.vt_grid.proofs.Flats.{row_found, rows_counted}
use Rattle.vt_grid.proofs.page_rows.PageRows.note_used.Goals as goal

pub set_entry-requires : goal.set_entry-requires
set_entry-requires c =
    let flat = c.self.inside.flat in
    omega (
      arith,
      c.requires.inside,
      c.from-row.ensures,
      rows_counted flat.columns flat.cells.items flat.lines.items,
      ap (λ (s : PageRowsValue). length s.rows) c.self.view_is,
    )

pub invariant_of-self : goal.invariant_of-self
invariant_of-self c =
    let flat = c.self.inside.flat in
    let lines = flat.lines.items in
    let w = flat.columns in
    let r = c.from-row.result in
    let inside : r < length lines = omega (
      arith,
      c.requires.inside,
      c.from-row.ensures,
      rows_counted w flat.cells.items lines,
      ap (λ (s : PageRowsValue). length s.rows) c.self.view_is,
    ) in
    let row = row_found w r flat.cells.items lines (blank_row default_attrs w.shown) inside in
    let cells : (row_in w flat.cells.items (line_at lines r)).cells ≡ (page_row c.args.self.now c.args.row).cells =
    sym (ap (λ (x : RowValue). x.cells) row) ∙ (λ z. (page_row (c.self.view_is z) (c.from-row.ensures z)).cells) in
    let blank = noted_blank r c.args.groups c.args.reach c.max.result flat c.self.invariant inside
    (c.max.ensures ∙ ap (λ (n : ℕ). max c.args.groups ((n + 7) / 8)) c.min.ensures)
    (subst (λ (x : ℕ × List CellValue). IsBlankFrom (max (used_columns x.0 c.args.groups) c.args.reach) x.1)
    (λ z. ((sym c.self.view_is z).width, sym cells z)) c.requires.blank) in
    let noted = flat_noted r _ c.wrapped-is_wrapped.result flat c.set_entry.new.self c.self.invariant inside
    c.set_entry.ensures.cells c.set_entry.ensures.columns c.set_entry.ensures.lines
    (c.wrapped-is_wrapped.ensures ∙ ap (λ (x : RowValue). x.wrapped) row) blank in
    noted.1

pub returns : goal.returns
returns c =
    let flat = c.self.inside.flat in
    let lines = flat.lines.items in
    let w = flat.columns in
    let r = c.from-row.result in
    let inside : r < length lines = omega (
      arith,
      c.requires.inside,
      c.from-row.ensures,
      rows_counted w flat.cells.items lines,
      ap (λ (s : PageRowsValue). length s.rows) c.self.view_is,
    ) in
    let row = row_found w r flat.cells.items lines (blank_row default_attrs w.shown) inside in
    let cells : (row_in w flat.cells.items (line_at lines r)).cells ≡ (page_row c.args.self.now c.args.row).cells =
    sym (ap (λ (x : RowValue). x.cells) row) ∙ (λ z. (page_row (c.self.view_is z) (c.from-row.ensures z)).cells) in
    let blank = noted_blank r c.args.groups c.args.reach c.max.result flat c.self.invariant inside
    (c.max.ensures ∙ ap (λ (n : ℕ). max c.args.groups ((n + 7) / 8)) c.min.ensures)
    (subst (λ (x : ℕ × List CellValue). IsBlankFrom (max (used_columns x.0 c.args.groups) c.args.reach) x.1)
    (λ z. ((sym c.self.view_is z).width, sym cells z)) c.requires.blank) in
    let noted = flat_noted r _ c.wrapped-is_wrapped.result flat c.set_entry.new.self c.self.invariant inside
    c.set_entry.ensures.cells c.set_entry.ensures.columns c.set_entry.ensures.lines
    (c.wrapped-is_wrapped.ensures ∙ ap (λ (x : RowValue). x.wrapped) row) blank in
    noted.0 ∙ c.self.view_is
