use Rattle.vt_cells.proofs.Cells.{cells_even}
use Rattle.vt_cells.proofs.cell.Cell.odd_bits.Goals as goal

pub returns : goal.returns
returns c =
    cells_even _ _ _ _ _ _ _ _ _ c.self.invariant c.self.view_is c.other.invariant c.other.view_is
    c.odd_bits.ensures.same c.odd_bits.ensures.short c.front_word.ensures c.front_word-2.ensures
