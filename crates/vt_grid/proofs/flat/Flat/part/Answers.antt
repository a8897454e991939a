use Rattle.std.proofs.Common.{◌≡◌, ◌+◌, ◌*◌, ◌<◌, ◌∙◌, length, refl, sym, ap, arith}
use Rattle.std.specs.List.{slice_range}
use Rattle.vt_cells.specs.Attrs.{default_attrs}
use Rattle.vt_rows.specs.Row.{RowValue, blank_row}
use Rattle.vt_grid.specs.declared.flat.Line.{Line}
use Rattle.vt_grid.specs.Flat.{line_at}
use Rattle.vt_grid.proofs.Flats.{rows_counted, place_inside, place_start, row_found}
use Rattle.vt_grid.proofs.flat.Flat.part.Goals as goal

pub returns-clause-inside : goal.returns-clause-inside
returns-clause-inside c =
    let flat = c.args.self.now in
    let lines = flat.lines.items in
    let found : c.args.row < length lines =
    omega (arith, c.requires.inside, rows_counted flat.columns flat.cells.items lines) in
    let p = (line_at lines c.args.row).place in
    let fits = place_inside p (length lines) flat.columns.stored (c.requires.flat.table.inside c.args.row found) in
    let place : c.from.result ≡ p =
    c.from.ensures ∙ ap (λ (x : Line). x.place) c.get.ensures in
    let start : c.from.result * c.from-2.result ≡ p * flat.columns.stored = λ z. place z * c.from-2.ensures z in
    omega (arith, start, c.from-3.ensures, fits, c.requires.flat.fits, c.requires.flat.table.filled)

pub returns-clause-row : goal.returns-clause-row
returns-clause-row c =
    let flat = c.args.self.now in
    let lines = flat.lines.items in
    let cells = flat.cells.items in
    let w = flat.columns in
    let found : c.args.row < length lines = omega (arith, c.requires.inside, rows_counted w cells lines) in
    let p = (line_at lines c.args.row).place in
    let row = row_found w c.args.row cells lines (blank_row default_attrs w.shown) found in
    let place : c.from.result ≡ p =
    c.from.ensures ∙ ap (λ (x : Line). x.place) c.get.ensures in
    let s = c.from.result * c.from-2.result in
    let start : s ≡ p * w.stored = λ z. place z * c.from-2.ensures z in
    (λ z. slice_range cells s (s + c.from-3.ensures z))
    ∙ (place_start w.stored w.shown p s cells cells refl start c.requires.flat.fits
    ∙ sym (ap (λ (r : RowValue). r.cells) row))
