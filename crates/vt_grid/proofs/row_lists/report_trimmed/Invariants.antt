use Rattle.std.proofs.Common.{take, drop, map}
use Rattle.std.specs.List.{FoldsTo}
use Rattle.vt_rows.specs.Row.{trimmed_row}
use Rattle.vt_grid.proofs.row_lists.report_trimmed.Given as goal

-- The loop invariant: reporting the remaining rows leads to the same result as reporting all rows from the start.
abbrev pub invariant-loop-k : goal.invariant-loop-k
invariant-loop-k g l =
    (z : _) → FoldsTo g.L.Leaving.leaves l.leaving (map trimmed_row (drop l.k (take l.count l.page.rows))) z →
    FoldsTo g.L.Leaving.leaves l.initial.leaving (map trimmed_row (take l.count l.page.rows)) z
