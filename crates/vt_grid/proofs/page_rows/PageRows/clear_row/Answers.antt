use Rattle.std.proofs.Common.{◌≡◌, ◌<◌, ◌∙◌, List, length, take, sym, ap, arith}
use Rattle.vt_cells.specs.Attrs.{Attrs, default_attrs, same_attrs}
use Rattle.vt_cells.specs.Cell.{CellValue}
use Rattle.vt_cells.proofs.Attributes.{attrs_of-same}
use Rattle.vt_rows.specs.Cells.{at}
use Rattle.vt_rows.specs.Row.{blank_row}
use Rattle.vt_rows.proofs.Edits.{at-blanks}
use Rattle.vt_grid.specs.Flat.{rows_of}
use Rattle.vt_grid.specs.PageRows.{PageRowsValue, with_page_row}
use Rattle.vt_grid.proofs.Bounds.{flat_blanked}
use Rattle.vt_grid.proofs.Flats.{blanks-start, row_blanked, rows_counted}
use Rattle.vt_grid.proofs.page_rows.PageRows.clear_row.Goals as goal

pub invariant_of-self : goal.invariant_of-self
invariant_of-self c =
    let flat = c.self.inside.flat in
    let inside : c.args.row < length flat.lines.items = omega (
      arith,
      c.requires.inside,
      rows_counted flat.columns flat.cells.items flat.lines.items,
      ap (λ (s : PageRowsValue). length s.rows) c.self.view_is,
    ) in
    flat_blanked c.args.row 0 flat c.blank.new.self c.self.invariant inside
    (λ k h. ap (λ (xs : List CellValue). at xs k) c.blank.ensures.own ∙ at-blanks flat.columns.stored k)
    c.blank.ensures.others c.blank.ensures.len c.blank.ensures.columns c.blank.ensures.lines

pub invariant_of-self-else-is_same : goal.invariant_of-self-else-is_same
invariant_of-self-else-is_same c =
    let flat = c.self.inside.flat in
    let inside : c.args.row < length flat.lines.items = omega (
      arith,
      c.requires.inside,
      rows_counted flat.columns flat.cells.items flat.lines.items,
      ap (λ (s : PageRowsValue). length s.rows) c.self.view_is,
    ) in
    flat_blanked c.args.row 255 flat c.fill.new.self c.self.invariant inside
    c.fill.ensures.after c.fill.ensures.others c.fill.ensures.len c.fill.ensures.columns c.fill.ensures.lines

pub returns-then-is_same : goal.returns-then-is_same
returns-then-is_same c =
    let flat = c.self.inside.flat in
    let inside : c.args.row < length (rows_of flat) =
    omega (arith, c.requires.inside, ap (λ (s : PageRowsValue). length s.rows) c.self.view_is) in
    let same : default_attrs ≡ c.args.attrs =
    sym (attrs_of-same c.args.attrs default_attrs
    (ap (same_attrs c.args.attrs) (sym c.new.ensures) ∙ (sym c.is_same.ensures ∙ c.if-is_same.true))) in
    row_blanked c.args.row 0 default_attrs flat c.blank.new.self c.self.invariant inside
    (ap (take flat.columns.shown) c.blank.ensures.own
    ∙ blanks-start flat.columns.shown flat.columns.stored default_attrs c.self.invariant.fits)
    c.blank.ensures.others c.blank.ensures.columns c.blank.ensures.lines
    ∙ (ap (λ (s : PageRowsValue). with_page_row c.args.row (blank_row default_attrs s.width) s) c.self.view_is
    ∙ ap (λ (a : Attrs). with_page_row c.args.row (blank_row a c.args.self.now.width) c.args.self.now) same)

pub returns-else-is_same : goal.returns-else-is_same
returns-else-is_same c =
    let flat = c.self.inside.flat in
    let inside : c.args.row < length (rows_of flat) =
    omega (arith, c.requires.inside, ap (λ (s : PageRowsValue). length s.rows) c.self.view_is) in
    row_blanked c.args.row 255 c.args.attrs flat c.fill.new.self c.self.invariant inside
    c.fill.ensures.own c.fill.ensures.others c.fill.ensures.columns c.fill.ensures.lines
    ∙ ap (λ (s : PageRowsValue). with_page_row c.args.row (blank_row c.args.attrs s.width) s) c.self.view_is
