use Rattle.std.proofs.Common.{◌≡◌, ℕ, ◌&&◌, ◌<◌, nat_le, nat_lt, get_or, length}
use Rattle.std.specs.Prelude.{if◌then◌else◌}
use Rattle.vt_rows.specs.Row.{RowValue, blank_row}
use Rattle.vt_grid.proofs.page_rows.PageRows.clear_rows.Given as goal

abbrev pub invariant-loop-row : goal.invariant-loop-row
invariant-loop-row l = record {
  len : length l.self.rows ≡ length l.fn.self.rows;
  width : l.self.width ≡ l.fn.self.width;
  cleared : (j : ℕ) (d : RowValue) → j < length l.fn.self.rows →
      get_or l.self.rows j d
      ≡ (if nat_le l.from j && nat_lt j l.row then blank_row l.attrs l.fn.self.width else get_or l.fn.self.rows j d);
}
