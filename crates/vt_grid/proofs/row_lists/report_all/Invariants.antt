use Rattle.std.proofs.Common.{length}
use Rattle.std.specs.Prelude.{All}
use Rattle.std.specs.List.{FoldsTo}
use Rattle.vt_rows.specs.Row.{IsRow}
use Rattle.vt_grid.proofs.row_lists.report_all.Given as goal

-- The loop invariant: reporting the remaining rows leads to the same result as reporting all rows from the start.
abbrev pub invariant-loop-row : goal.invariant-loop-row
invariant-loop-row g l = record {
  told : (z : _) → FoldsTo g.L.Leaving.leaves l.leaving l.rows.items z →
      FoldsTo g.L.Leaving.leaves l.initial.leaving l.initial.rows.items z;
  sound : All (λ row. IsRow (length row.cells) row) l.rows.items;
}

abbrev pub decreases-loop-row : goal.decreases-loop-row
decreases-loop-row g l = length l.rows.items
