use Rattle.std.proofs.Common.{true}
use Rattle.vt_cells.proofs.Cells.{IsCell-glyph}
use Rattle.vt_rows.proofs.cells.put_wide.Goals as goal

pub returns-clause-sound : goal.returns-clause-sound
returns-clause-sound c =
    c.put_wide_cell.ensures.sound
    (rw c.glyph.ensures (IsCell-glyph c.args.c true c.args.attrs c.ranges.c.0 c.requires.reported c.requires.columns))
