use Rattle.std.proofs.Common.{arith, sym, ◌∙◌}
use Rattle.vt_cells.specs.Cell.{default_blank}
use Rattle.vt_redraw.proofs.Filling.{at-part}
use Rattle.vt_redraw.proofs.picture_row.PictureRow.same_run.Goals as goal

pub returns-clause-same : goal.returns-clause-same
returns-clause-same c k lt =
    let own = c.self.inside in
    let other = c.other.inside in
    rw (sym c.from-start.ensures)
    (sym (at-part own.cells.now own.cols own.end own.wrapped c.from-start.result c.min-stop.result k
    c.args.self.now c.self.view_is (omega (arith, lt, c.same_run.ensures.own)) (omega arith))
    ∙ c.same_run.ensures.same k default_blank lt
    ∙ at-part other.cells.now other.cols other.end other.wrapped c.from-start.result c.min-stop.result k
    c.args.other.now c.other.view_is (omega (arith, lt, c.same_run.ensures.own)) (omega arith))
