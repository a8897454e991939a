use Rattle.vt_cells.proofs.Cells.{IsStored-half}
use Rattle.vt_cells.proofs.cell.making.right_half.Goals as goal

pub invariant_of-result : goal.invariant_of-result
invariant_of-result c = rw c.right_half.ensures IsStored-half
