use Rattle.std.proofs.Common.{length, sym, ◌∙◌, arith}
use Rattle.vt_screen.specs.RowsShown.{formatted_text}
use Rattle.vt_screen.specs.Shown.{display}
use Rattle.vt_screen.proofs.ReadRows.{texts_more}
use Rattle.vt_screen.proofs.rows.formatted.RowsFormattedIterator.next.Goals as goal

pub returns-clause-steps : goal.returns-clause-steps
returns-clause-steps c =
    let it = c.self.inside in
    let size = c.size.ensures.rows in
    let text = formatted_text it.start it.stop (display it.screen.now) in (
      text it.row,
      sym c.self.view_is ∙ texts_more text it.row (length it.screen.now.page.rows) (omega arith),
      c.row_formatted.ensures.text,
      c.row_formatted.ensures.memory,
      c.row_formatted.ensures.nonempty,
    )
