use Rattle.std.proofs.Common.{◌≡◌, ℕ, ◌≤◌, false, length}
use Rattle.vt_cells.specs.Cell.{is_glyph}
use Rattle.vt_rows.specs.Cells.{at}
use Rattle.vt_rows.proofs.plain.text_end.Given as goal

-- The loop invariant: no glyph begins after the first `len` cells.
abbrev pub invariant-loop-len : goal.invariant-loop-len
invariant-loop-len l = (l.len ≤ length l.cells) × ((k : ℕ) → l.len ≤ k → is_glyph (at l.cells k) ≡ false)

abbrev pub decreases-loop-len : goal.decreases-loop-len
decreases-loop-len l = l.len
