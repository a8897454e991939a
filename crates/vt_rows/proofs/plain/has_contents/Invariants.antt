use Rattle.std.proofs.Common.{◌≡◌, drop}
use Rattle.std.specs.List.{list_any}
use Rattle.vt_cells.specs.Cell.{is_glyph}
use Rattle.vt_rows.specs.Plain.{has_glyph}
use Rattle.vt_rows.proofs.plain.has_contents.Given as goal

-- The loop invariant: a glyph begins in the range of columns exactly if one begins in the columns that are left.
abbrev pub invariant-loop-cell : goal.invariant-loop-cell
invariant-loop-cell l = list_any is_glyph (drop l.cell-index l.columns) ≡ has_glyph l.start l.stop l.cells
