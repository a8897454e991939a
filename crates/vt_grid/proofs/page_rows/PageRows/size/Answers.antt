use Rattle.std.proofs.Common.{◌≡◌, length, ap, sym, ◌∙◌, arith}
use Rattle.vt_grid.specs.PageRows.{PageRowsValue}
use Rattle.vt_grid.proofs.Flats.{rows_counted}
use Rattle.vt_grid.proofs.page_rows.PageRows.size.Goals as goal

pub overflow_cast-result : goal.overflow_cast-result
overflow_cast-result c =
    let flat = c.self.inside.flat in
    let all : c.len.result ≡ length c.args.self.now.rows =
    c.len.ensures
    ∙ (sym (rows_counted flat.columns flat.cells.items flat.lines.items)
    ∙ ap (λ (s : PageRowsValue). length s.rows) c.self.view_is) in
    omega (arith, all, c.requires)

pub returns-clause-rows : goal.returns-clause-rows
returns-clause-rows c =
    let flat = c.self.inside.flat in
    c.len.ensures
    ∙ (sym (rows_counted flat.columns flat.cells.items flat.lines.items)
    ∙ ap (λ (s : PageRowsValue). length s.rows) c.self.view_is)
