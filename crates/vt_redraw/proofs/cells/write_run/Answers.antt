use Rattle.vt_redraw.proofs.WriterSteps.{appends_flushed}
use Rattle.vt_redraw.proofs.cells.write_run.Goals as goal

pub returns-clause-ops : goal.returns-clause-ops
returns-clause-ops g c =
    let gathered = c.in_ok-gather_run.ensures.gathers in
    appends_flushed c.flush.result _ _ _ _ _ _ c.new-buffer.ensures gathered.text gathered.grows c.flush.ensures.text
    c.flush.ensures.nonempty
