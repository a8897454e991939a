use Rattle.std.proofs.Common.{length, sym, ◌∙◌, arith}
use Rattle.vt_screen.specs.RowsShown.{changed_text}
use Rattle.vt_screen.specs.Shown.{display}
use Rattle.vt_screen.proofs.ReadRows.{texts_more}
use Rattle.vt_screen.proofs.rows.diff.RowsDiffIterator.next.Goals as goal

pub returns-clause-steps : goal.returns-clause-steps
returns-clause-steps c =
    let it = c.self.inside in
    let size = c.size.ensures.rows in
    let text = changed_text it.start it.stop (display it.screen.now) (display it.prev.now) in (
      text it.row,
      sym c.self.view_is ∙ texts_more text it.row (length it.screen.now.page.rows) (omega arith),
      c.row_diff.ensures.text,
      c.row_diff.ensures.memory,
      c.row_diff.ensures.nonempty,
    )
