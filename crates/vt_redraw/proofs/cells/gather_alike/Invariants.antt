use Rattle.std.proofs.Common.{◌-◌, ◌≤◌, ℕ, List, length}
use Rattle.vt_cells.specs.Internals.{buffered_text}
use Rattle.vt_redraw.specs.Internals.{Leads, cells_from}
use Rattle.vt_redraw.proofs.cells.gather_alike.Given as goal

-- The loop invariant: after the buffered glyphs, the output of the remaining cells leads to the whole output.
abbrev pub invariant-loop-own : goal.invariant-loop-own
invariant-loop-own l = record {
  leads : (text : List ℕ) → Leads (buffered_text text l.buffer)
      (cells_from l.pen.row l.col (record l.pen { col = l.col }) l.wrapped l.cells.cells l.over.cells)
      (buffered_text text l.fn.buffer)
      (cells_from l.pen.row l.pen.col l.pen l.wrapped l.cells.cells l.over.cells);
  order : l.pen.col ≤ l.col;
  inside : l.col ≤ length l.over.cells;
}

abbrev pub decreases-loop-own : goal.decreases-loop-own
decreases-loop-own l = length l.over.cells - l.col
