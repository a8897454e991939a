use Rattle.std.proofs.Common.{◌≡◌, ℕ, ◌<◌, nat_lt, false, length}
use Rattle.std.specs.Prelude.{if◌then◌else◌}
use Rattle.vt_grid.specs.Flat.{line_at}
use Rattle.vt_grid.proofs.flat.Flat.set_columns.Given as goal

abbrev pub invariant-loop-row : goal.invariant-loop-row
invariant-loop-row l = record {
  cells : l.self.cells ≡ l.fn.self.cells;
  columns : l.self.columns ≡ l.fn.self.columns;
  len : length l.self.lines.items ≡ length l.fn.self.lines.items;
  cleared : (k : ℕ) → k < length l.fn.self.lines.items →
      line_at l.self.lines.items k
      ≡ (if nat_lt k l.row then record (line_at l.fn.self.lines.items k) { wrapped = false }
      else line_at l.fn.self.lines.items k);
}
