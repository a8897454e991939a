use Rattle.std.specs.Prelude.{All}
use Rattle.vt_cells.specs.Cell.{IsCell}
use Rattle.vt_rows.specs.Cells.{IsPaired}
use Rattle.test_packed.proofs.rows.put_chars.Given as goal

abbrev pub invariant-loop-c : goal.invariant-loop-c
invariant-loop-c l = record {
  paired : IsPaired l.cells;
  sound : All IsCell l.fn.cells → All IsCell l.cells;
}
