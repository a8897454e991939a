use Rattle.std.proofs.Common.{◌≡◌, ◌-◌, length}
use Rattle.vt_packed.specs.Items.{cells_of}
use Rattle.vt_packed.specs.Internals.{IsWrittenTo}
use Rattle.vt_packed.proofs.unpacking.write_items.Given as goal

-- The loop invariant: the cells before `column` are written, and the items that have not been read follow them.
abbrev pub invariant-loop-column : goal.invariant-loop-column
invariant-loop-column l = record {
  len : length l.cells ≡ length l.fn.cells;
  written : IsWrittenTo (cells_of l.fn.items) l.cells l.column (cells_of l.items);
}

abbrev pub decreases-loop-column : goal.decreases-loop-column
decreases-loop-column l = length l.cells - l.column
