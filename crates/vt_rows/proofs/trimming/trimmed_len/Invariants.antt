use Rattle.std.proofs.Common.{◌≡◌, ℕ, ◌≤◌, length}
use Rattle.vt_cells.specs.Cell.{default_blank}
use Rattle.vt_rows.specs.Cells.{at}
use Rattle.vt_rows.proofs.trimming.trimmed_len.Given as goal

abbrev pub invariant-loop-len : goal.invariant-loop-len
invariant-loop-len l = (l.len ≤ length l.cells) × ((k : ℕ) → l.len ≤ k → at l.cells k ≡ default_blank)

abbrev pub decreases-loop-len : goal.decreases-loop-len
decreases-loop-len l = l.len

abbrev pub invariant-loop-len-2 : goal.invariant-loop-len-2
invariant-loop-len-2 l = (l.len ≤ length l.cells) × ((k : ℕ) → l.len ≤ k → at l.cells k ≡ default_blank)

abbrev pub decreases-loop-len-2 : goal.decreases-loop-len-2
decreases-loop-len-2 l = l.len
