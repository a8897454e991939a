use Rattle.std.proofs.Common.{◌≡◌, ◌-◌, ◌≤◌, vec_len}
use Rattle.std.specs.Prelude.{vec_capacity}
use Rattle.vt_cells.specs.Attrs.{default_attrs}
use Rattle.vt_rows.specs.Cells.{blanks}
use Rattle.vt_rows.proofs.copies.blank_cells.Given as goal

abbrev pub invariant-loop-cells : goal.invariant-loop-cells
invariant-loop-cells l = record {
  within : vec_len l.cells ≤ l.count;
  room : l.count ≤ vec_capacity l.cells;
  made : l.cells.items ≡ blanks default_attrs (vec_len l.cells);
}

abbrev pub decreases-loop-cells : goal.decreases-loop-cells
decreases-loop-cells l = l.count - vec_len l.cells
