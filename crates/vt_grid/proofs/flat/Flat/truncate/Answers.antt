use Rattle.std.proofs.Common.{◌≡◌, ◌*◌, ◌∙◌, ◌≤◌, ℕ, List, length, take, ap, sym, subst, arith}
use Rattle.vt_cells.specs.Cell.{CellValue}
use Rattle.vt_grid.specs.declared.flat.Columns.{Columns}
use Rattle.vt_grid.specs.declared.flat.Line.{Line}
use Rattle.vt_grid.specs.Flat.{IsStored, line_at, row_in}
use Rattle.vt_grid.proofs.Packing.{IsStored-cut, rows_in-cut}
use Rattle.vt_grid.proofs.flat.Flat.truncate.Goals as goal

pub returns-clause-flat : goal.returns-clause-flat
returns-clause-flat c =
    let packed = c.pack.new.self in
    let rows : c.args.rows ≤ length packed.lines.items = omega (arith, c.pack.ensures.len, c.requires.inside) in
    let cells : c.truncate-2.new.self.items ≡ take (c.args.rows * packed.columns.stored) packed.cells.items =
    c.truncate-2.ensures.items ∙ ap (λ (w : ℕ). take (c.args.rows * w) packed.cells.items) c.from.ensures in
    subst (λ (x : List CellValue × List Line). IsStored packed.columns x.0 x.1)
    (λ z. (sym cells z, sym c.truncate.ensures z))
    (IsStored-cut packed.columns c.args.rows packed.cells.items packed.lines.items rows
    c.pack.ensures.packed c.pack.ensures.flat)

pub returns-clause-rows : goal.returns-clause-rows
returns-clause-rows c =
    let packed = c.pack.new.self in
    let old = c.args.self.now in
    let rows : c.args.rows ≤ length packed.lines.items = omega (arith, c.pack.ensures.len, c.requires.inside) in
    let cells : c.truncate-2.new.self.items ≡ take (c.args.rows * packed.columns.stored) packed.cells.items =
    c.truncate-2.ensures.items ∙ ap (λ (w : ℕ). take (c.args.rows * w) packed.cells.items) c.from.ensures in
    λ k h.
    (λ z. row_in old.columns (cells z) (line_at (c.truncate.ensures z) k))
    ∙ (subst (λ (w : Columns). row_in w (take (c.args.rows * packed.columns.stored) packed.cells.items)
    (line_at (take c.args.rows packed.lines.items) k) ≡ row_in w packed.cells.items (line_at packed.lines.items k))
    c.pack.ensures.columns
    (rows_in-cut packed.columns c.args.rows packed.cells.items packed.lines.items rows
    c.pack.ensures.packed c.pack.ensures.flat.table k h)
    ∙ c.pack.ensures.rows k h)
