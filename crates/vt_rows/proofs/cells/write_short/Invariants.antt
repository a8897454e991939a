-- The loop invariant: the cells written so far are glyphs of the text, and the others are still short.
use Rattle.std.proofs.Common.{◌≡◌, ℕ, ◌<◌, ◌≤◌, get_or, length, slice_index_or}
use Rattle.vt_cells.specs.Cell.{CellValue, IsShort}
use Rattle.vt_rows.specs.Cells.{at}
use Rattle.vt_rows.specs.Texts.{narrow_glyph}
use Rattle.vt_rows.proofs.cells.write_short.Given as goal

abbrev pub invariant-loop-k : goal.invariant-loop-k
invariant-loop-k l = record {
  written : (j : ℕ) → j < l.k → at l.cells j ≡ narrow_glyph l.attrs (get_or l.text j 0);
  rest : (j : ℕ) (d : CellValue) → l.k ≤ j → j < length l.cells → IsShort (slice_index_or l.cells j d);
}
