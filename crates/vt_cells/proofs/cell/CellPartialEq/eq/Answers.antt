use Rattle.std.proofs.Common.{◌∙◌}
use Rattle.vt_cells.proofs.Cells.{same_cell-eq, cell_same, same_cell_of}
use Rattle.vt_cells.proofs.cell.CellPartialEq.eq.Goals as goal

pub returns-clause-value : goal.returns-clause-value
returns-clause-value c = c.is_same.ensures ∙ same_cell-eq c.args.self.now c.args.other.now

pub returns-clause-same : goal.returns-clause-same
returns-clause-same c = (
  λ yes. cell_same c.args.self.now c.args.other.now _ c.is_same.ensures yes,
  λ same. same_cell_of c.args.self.now c.args.other.now _ c.is_same.ensures same,
)
