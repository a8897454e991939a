use Rattle.std.proofs.Common.{◌≡◌, ◌+◌, ◌-◌, ◌*◌, ◌<◌, ◌≤◌, ◌∙◌, List, Vec, Global, length, take, drop, ap, arith}
use Rattle.std.proofs.lemmas.List.{length-take, length-drop, length-replicate}
use borrow.Rule.Slice.PartMut.{put_mid}
use Rattle.vt_cells.specs.Attrs.{default_attrs}
use Rattle.vt_cells.specs.Cell.{CellValue, default_blank}
use Rattle.vt_rows.specs.Cells.{blanks}
use Rattle.vt_grid.specs.declared.flat.Line.{Line}
use Rattle.vt_grid.specs.Flat.{cells_at, line_at, used_columns}
use Rattle.vt_grid.proofs.Bounds.{blanked_start, used_inside}
use Rattle.vt_grid.proofs.Flats.{cells_at-put_part, place_inside, rows_counted, written_again}
use Rattle.vt_grid.proofs.flat.Flat.blank.Goals as goal

-- The used columns of the row's place are default blanks now, and nothing else was written.
pub returns-clause-own : goal.returns-clause-own
returns-clause-own c =
    let flat = c.args.self.now in
    let w = flat.columns.stored in
    let v = flat.columns.shown in
    let lines = flat.lines.items in
    let n = length lines in
    let line = line_at lines c.args.row in
    let found : c.args.row < n = omega (arith, c.requires.inside, rows_counted flat.columns flat.cells.items lines) in
    let h = c.requires.flat.table.inside c.args.row found in
    let u = used_columns v line.used in
    let few : u ≤ w = omega (arith, used_inside v line.used, c.requires.flat.fits) in
    let fits = place_inside line.place n w h in
    let used : c.used_columns-used.result ≡ u =
    c.used_columns-used.ensures
    ∙ ap (λ (x : Line). used_columns v x.used)
    c.get.ensures in
    let s = c.part-start.result.0 in
    let k = s + c.used_columns-used.result - s in
    let xs = c.deref_mut.result.now in
    let count : length (take k (drop s xs)) ≡ u = omega (
      arith,
      length-take k (drop s xs),
      length-drop s xs,
      ap length c.deref_mut.ensures.value,
      ap (λ (v : Vec CellValue Global). length v.items) c.set_entry.ensures.cells,
      used,
      few,
      fits,
      c.part-start.ensures.start,
      c.requires.flat.table.filled,
    ) in
    let new : c.clear_used.new.cells ≡ blanks default_attrs u =
    c.clear_used.ensures ∙ ap (blanks default_attrs) count in
    let cells = written_again w u n line.place s k flat.cells c.set_entry.new.self.cells xs c.clear_used.new.cells
    c.set_entry.ensures.cells c.deref_mut.ensures.value c.requires.flat.table.filled h c.part-start.ensures.start
    (omega (arith, used)) few (ap length new ∙ length-replicate u default_blank) in
    ap (λ (items : List CellValue). cells_at w items line.place)
    (cells ∙ ap (put_mid (line.place * w) u flat.cells.items) new)
    ∙ blanked_start w u n line.place flat.cells.items c.requires.flat.table.filled h few
    (c.requires.flat.blank c.args.row found)

pub returns-clause-others : goal.returns-clause-others
returns-clause-others c =
    let flat = c.args.self.now in
    let w = flat.columns.stored in
    let v = flat.columns.shown in
    let lines = flat.lines.items in
    let n = length lines in
    let line = line_at lines c.args.row in
    let found : c.args.row < n = omega (arith, c.requires.inside, rows_counted flat.columns flat.cells.items lines) in
    let h = c.requires.flat.table.inside c.args.row found in
    let u = used_columns v line.used in
    let few : u ≤ w = omega (arith, used_inside v line.used, c.requires.flat.fits) in
    let fits = place_inside line.place n w h in
    let used : c.used_columns-used.result ≡ u =
    c.used_columns-used.ensures
    ∙ ap (λ (x : Line). used_columns v x.used)
    c.get.ensures in
    let s = c.part-start.result.0 in
    let k = s + c.used_columns-used.result - s in
    let xs = c.deref_mut.result.now in
    let size : length c.clear_used.new.cells ≡ u = ap length c.clear_used.ensures
    ∙ omega (
      arith,
      length-replicate (length (take k (drop s xs))) default_blank,
      length-take k (drop s xs),
      length-drop s xs,
      ap length c.deref_mut.ensures.value,
      ap (λ (v : Vec CellValue Global). length v.items) c.set_entry.ensures.cells,
      used,
      few,
      fits,
      c.part-start.ensures.start,
      c.requires.flat.table.filled,
    ) in
    let cells = written_again w u n line.place s k flat.cells c.set_entry.new.self.cells xs c.clear_used.new.cells
    c.set_entry.ensures.cells c.deref_mut.ensures.value c.requires.flat.table.filled h c.part-start.ensures.start
    (omega (arith, used)) few size in
    λ place q other.
    ap (λ (items : List CellValue). cells_at w items place) cells
    ∙ cells_at-put_part w u n line.place place flat.cells.items c.clear_used.new.cells
    c.requires.flat.table.filled h q other few size
