use Rattle.std.proofs.Common.{◌≡◌, ℕ, ◌<◌, nat_lt, get_or, length}
use Rattle.std.specs.Prelude.{if◌then◌else◌}
use Rattle.vt_rows.specs.Row.{RowValue}
use Rattle.vt_grid.proofs.Widths.{row_cut}
use Rattle.vt_grid.proofs.page_rows.PageRows.narrow_to.Given as goal

abbrev pub invariant-loop-row : goal.invariant-loop-row
invariant-loop-row l = record {
  len : length l.self.rows ≡ length l.fn.self.rows;
  width : l.self.width ≡ l.fn.self.width;
  cut : (j : ℕ) (d : RowValue) → j < length l.fn.self.rows →
      get_or l.self.rows j d
      ≡ (if nat_lt j l.row then row_cut l.width (get_or l.fn.self.rows j d) else get_or l.fn.self.rows j d);
}
