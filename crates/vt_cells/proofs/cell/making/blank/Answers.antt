use Rattle.vt_cells.proofs.Cells.{IsStored-blank}
use Rattle.vt_cells.proofs.cell.making.blank.Goals as goal

pub invariant_of-result : goal.invariant_of-result
invariant_of-result c = rw c.text.ensures (IsStored-blank c.args.attrs)
