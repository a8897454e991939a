use Rattle.std.proofs.Common.{[], chars, sym}
use Rattle.vt_rows.proofs.CutRows.{rows_are, same_texts, slices_after}
use Rattle.vt_rows.proofs.capture.rows.basic_formatted_rows.Goals as goal

pub returns : goal.returns
returns c =
    let width = c.args.screen_width in
    let text = c.args.capture.now in (
      slices_after width 0 [] (chars text),
      rows_are width text c.utf8.capture,
      sym (same_texts width 0 [] (chars text)),
    )
