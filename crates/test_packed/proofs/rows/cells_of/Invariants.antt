use Rattle.std.specs.Prelude.{All}
use Rattle.vt_cells.specs.Cell.{IsCell}
use Rattle.vt_rows.specs.Cells.{IsPaired}
use Rattle.test_packed.proofs.rows.cells_of.Given as goal

abbrev pub invariant-loop-column : goal.invariant-loop-column
invariant-loop-column l = record {
  paired : IsPaired l.cells.items;
  sound : All IsCell l.cells.items;
}
