use Rattle.vt_cells.proofs.Cells.{IsShort-first}
use Rattle.vt_cells.proofs.cell.editing.set_glyph.Goals as goal

pub overwrite-requires : goal.overwrite-requires
overwrite-requires c = rw c.glyph.ensures (IsShort-first c.args.c c.args.wide c.args.attrs)
