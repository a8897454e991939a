use Rattle.std.proofs.Common.{arith}
use Rattle.vt_rows.specs.Plain.{plain_text}
use Rattle.vt_screen.specs.Screen.{visible_row}
use Rattle.vt_screen.proofs.MadeContents.{texts_more}
use Rattle.vt_screen.proofs.rows.RowsIterator.next.Goals as goal

pub returns-clause-steps : goal.returns-clause-steps
returns-clause-steps c =
    let rows = c.args.self.now in
    let size = c.size.ensures.rows in (
      plain_text rows.start rows.stop (visible_row rows.screen.now rows.row).cells,
      texts_more rows.screen.now rows.start rows.stop rows.row (omega arith),
      c.in_ok-item.ensures.text,
      c.in_ok-item.ensures.memory,
      c.in_ok-item.ensures.nonempty,
    )
