-- The loop invariant: the cells written so far are wide glyphs of the text.
use Rattle.std.proofs.Common.{◌≡◌, ℕ, ◌+◌, ◌*◌, ◌<◌, get_or}
use Rattle.vt_cells.specs.Cell.{right_half}
use Rattle.vt_rows.specs.Cells.{at}
use Rattle.vt_rows.specs.Texts.{wide_glyph}
use Rattle.vt_rows.proofs.cells.write_wide.Given as goal

abbrev pub invariant-loop-k : goal.invariant-loop-k
invariant-loop-k l = (j : ℕ) → j < l.k →
    (at l.cells (2 * j) ≡ wide_glyph l.attrs (get_or l.text j 0)) × (at l.cells (2 * j + 1) ≡ right_half)
