use Rattle.std.proofs.Common.{◌+◌, arith, sym, ap, ◌∙◌}
use Rattle.vt_cells.specs.Cell.{default_blank}
use Rattle.vt_rows.specs.Cells.{at}
use Rattle.vt_redraw.proofs.Filling.{at-behind, at-part}
use Rattle.vt_redraw.proofs.picture_row.PictureRow.end_run.Goals as goal

pub returns-clause-same : goal.returns-clause-same
returns-clause-same c k lt =
    let own = c.self.inside in
    let other = c.other.inside in
    let start = c.from-start.ensures in
    rw (sym c.from-start.ensures)
    (sym (at-part own.cells.now own.cols own.end own.wrapped c.from-start.result c.min-stop.result k
    c.args.self.now c.self.view_is (omega (arith, lt, c.blank_run.ensures.own)) (omega arith))
    ∙ c.blank_run.ensures.same k default_blank lt
    ∙ sym (at-behind other.cells.now other.cols other.end (c.from-start.result + k) (omega arith)
    (omega (arith, lt, c.blank_run.ensures.own)))
    ∙ ap (λ r. at r.cells (c.from-start.result + k)) c.other.view_is)
