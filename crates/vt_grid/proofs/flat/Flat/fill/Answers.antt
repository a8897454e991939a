use Rattle.std.proofs.Common.{◌≡◌, ◌-◌, ◌<◌, List, Vec, Global, length, take, drop, ap, subst, sym, ◌∙◌, arith}
use Rattle.std.proofs.lemmas.List.{length-take, length-drop, length-replicate}
use Rattle.vt_cells.specs.Cell.{CellValue, blank}
use Rattle.vt_rows.specs.Cells.{blanks}
use Rattle.vt_grid.specs.Flat.{IsBlankFrom, line_at, cells_at}
use Rattle.vt_grid.proofs.Bounds.{blank_after, used_inside}
use Rattle.vt_grid.proofs.Flats.{cells_at-put_part, cells_at-put_start, rows_counted, written_again}
use Rattle.vt_grid.proofs.flat.Flat.fill.Goals as goal

pub returns-clause-own : goal.returns-clause-own
returns-clause-own c =
    let flat = c.args.self.now in
    let w = flat.columns.stored in
    let u = flat.columns.shown in
    let n = length flat.lines.items in
    let p = (line_at flat.lines.items c.args.row).place in
    let s = c.part-start.result.0 in
    let k = c.part-start.result.1 - s in
    let h = c.requires.flat.table.inside c.args.row
    (omega (arith, c.requires.inside, rows_counted flat.columns flat.cells.items flat.lines.items)) in
    let xs = c.deref_mut.result.now in
    let count : length (take k (drop s xs)) ≡ u = omega (
      arith,
      length-take k (drop s xs),
      length-drop s xs,
      ap length c.deref_mut.ensures.value,
      ap (λ (v : Vec CellValue Global). length v.items) c.set_entry.ensures.cells,
      c.part-start.ensures.end,
      c.part-start.ensures.inside,
    ) in
    let new : c.clear.new.cells ≡ blanks c.args.attrs u =
    c.clear.ensures ∙ ap (blanks c.args.attrs) count in
    let size : length c.clear.new.cells ≡ u = ap length new ∙ length-replicate u (blank c.args.attrs) in
    let cells = written_again w u n p s k flat.cells c.set_entry.new.self.cells xs c.clear.new.cells
    c.set_entry.ensures.cells c.deref_mut.ensures.value c.requires.flat.table.filled h c.part-start.ensures.start
    (omega (arith, c.part-start.ensures.end)) c.requires.flat.fits size in
    ap (λ (items : List CellValue). take u (cells_at w items p)) cells
    ∙ (cells_at-put_start w u n p flat.cells.items c.clear.new.cells c.requires.flat.table.filled h
    c.requires.flat.fits size
    ∙ new)

pub returns-clause-after : goal.returns-clause-after
returns-clause-after c =
    let flat = c.args.self.now in
    let w = flat.columns.stored in
    let u = flat.columns.shown in
    let lines = flat.lines.items in
    let n = length lines in
    let p = (line_at lines c.args.row).place in
    let s = c.part-start.result.0 in
    let k = c.part-start.result.1 - s in
    let found : c.args.row < n = omega (arith, c.requires.inside, rows_counted flat.columns flat.cells.items lines) in
    let h = c.requires.flat.table.inside c.args.row found in
    let xs = c.deref_mut.result.now in
    let size : length c.clear.new.cells ≡ u = ap length c.clear.ensures
    ∙ omega (
      arith,
      length-replicate (length (take k (drop s xs))) (blank c.args.attrs),
      length-take k (drop s xs),
      length-drop s xs,
      ap length c.deref_mut.ensures.value,
      ap (λ (v : Vec CellValue Global). length v.items) c.set_entry.ensures.cells,
      c.part-start.ensures.end,
      c.part-start.ensures.inside,
    ) in
    let cells = written_again w u n p s k flat.cells c.set_entry.new.self.cells xs c.clear.new.cells
    c.set_entry.ensures.cells c.deref_mut.ensures.value c.requires.flat.table.filled h c.part-start.ensures.start
    (omega (arith, c.part-start.ensures.end)) c.requires.flat.fits size in
    subst (λ (items : List CellValue). IsBlankFrom u (cells_at w items p)) (sym cells)
    (blank_after w u n p flat.cells.items c.clear.new.cells c.requires.flat.table.filled h c.requires.flat.fits size
    (λ j i. c.requires.flat.blank c.args.row found j (omega (arith, i, used_inside u (line_at lines c.args.row).used))))

pub returns-clause-others : goal.returns-clause-others
returns-clause-others c =
    let flat = c.args.self.now in
    let w = flat.columns.stored in
    let u = flat.columns.shown in
    let n = length flat.lines.items in
    let p = (line_at flat.lines.items c.args.row).place in
    let s = c.part-start.result.0 in
    let k = c.part-start.result.1 - s in
    let h = c.requires.flat.table.inside c.args.row
    (omega (arith, c.requires.inside, rows_counted flat.columns flat.cells.items flat.lines.items)) in
    let new = c.clear.new.cells in
    let xs = c.deref_mut.result.now in
    let size : length new ≡ u = ap length c.clear.ensures
    ∙ omega (
      arith,
      length-replicate (length (take k (drop s xs))) (blank c.args.attrs),
      length-take k (drop s xs),
      length-drop s xs,
      ap length c.deref_mut.ensures.value,
      ap (λ (v : Vec CellValue Global). length v.items) c.set_entry.ensures.cells,
      c.part-start.ensures.end,
      c.part-start.ensures.inside,
    ) in
    let cells = written_again w u n p s k flat.cells c.set_entry.new.self.cells xs new c.set_entry.ensures.cells
    c.deref_mut.ensures.value c.requires.flat.table.filled h c.part-start.ensures.start
    (omega (arith, c.part-start.ensures.end)) c.requires.flat.fits size in
    λ place q other.
    ap (λ (items : List CellValue). cells_at w items place) cells
    ∙ cells_at-put_part w u n p place flat.cells.items new c.requires.flat.table.filled h q other c.requires.flat.fits size
