use Rattle.std.proofs.Common.{◌≡◌, ℕ, length}
use Rattle.vt_rows.specs.Internals.{rotation_source}
use Rattle.vt_grid.specs.Flat.{line_at}
use Rattle.vt_grid.proofs.flat.lines.Lines.rotate_up.Given as goal

abbrev pub invariant-loop-step : goal.invariant-loop-step
invariant-loop-step l = record {
  len : length l.self.items ≡ length l.fn.self.items;
  lines : (k : ℕ) →
      line_at l.self.items k ≡ line_at l.fn.self.items (rotation_source 0 (length l.fn.self.items) l.step k);
}
