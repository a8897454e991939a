use Rattle.std.proofs.Common.{◌≡◌, ◌+◌, ◌-◌, ◌*◌, ◌<◌, ◌≤◌, drop}
use Rattle.std.specs.Prelude.{None}
use Rattle.vt_rows.specs.Cells.{at}
use Rattle.vt_redraw.specs.Limited.{IsEach, drawn_least}
use Rattle.vt_redraw.proofs.limited.drawn_least.Given as goal

-- The loop invariant: the number for the cells counted so far, at most 32 bytes each, and the number for the rest make
-- up the whole number, and `each` is what the last cell counted adds.
abbrev pub invariant-loop-col : goal.invariant-loop-col
invariant-loop-col l = record {
  sum : l.len + drawn_least l.was (drop l.col l.cells) ≡ drawn_least None l.cells;
  small : l.len ≤ 32 * l.col;
  short : l.each ≤ 32;
  each : 0 < l.col → IsEach l.was l.each (at l.cells (l.col - 1));
}
