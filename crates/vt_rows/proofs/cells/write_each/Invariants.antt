-- The loop invariant: the cells written so far are glyphs of the text.
use Rattle.std.proofs.Common.{◌≡◌, ℕ, ◌<◌, get_or}
use Rattle.vt_rows.specs.Cells.{at}
use Rattle.vt_rows.specs.Texts.{narrow_glyph}
use Rattle.vt_rows.proofs.cells.write_each.Given as goal

abbrev pub invariant-loop-k : goal.invariant-loop-k
invariant-loop-k l = (j : ℕ) → j < l.k → at l.cells j ≡ narrow_glyph l.attrs (get_or l.text j 0)
