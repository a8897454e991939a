use Rattle.std.proofs.Common.{◌≡◌, ◌+◌, ◌-◌, ◌≤◌, length, min}
use Rattle.vt_grid.proofs.Scrolls.{MovedInto}
use Rattle.vt_grid.proofs.page_rows.PageRows.take_rows.Given as goal

abbrev pub invariant-loop-k : goal.invariant-loop-k
invariant-loop-k l = record {
  moved : MovedInto (λ j. l.down + (j - l.up)) (l.up + l.k)
      (l.up + min (length l.fn.self.rows - l.up) (length l.rows.rows - l.down)) l.rows.rows l.fn.self.rows l.self.rows;
  long : length l.self.rows ≡ length l.fn.self.rows;
  width : l.self.width ≡ l.fn.self.width;
  few : l.k ≤ min (length l.fn.self.rows - l.up) (length l.rows.rows - l.down);
}

abbrev pub decreases-loop-k : goal.decreases-loop-k
decreases-loop-k l = l.k
