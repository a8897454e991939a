use Rattle.std.proofs.Common.{◌≡◌, ◌≤◌, ◌++◌, drop, length}
use Rattle.vt_cells.specs.Internals.{buffered_text}
use Rattle.vt_rows.specs.Basic.{attrs_after_all, cells_text}
use Rattle.vt_rows.proofs.capture.basic.write_cells.Given as goal

-- The loop invariant: the text written so far and the text of the remaining cells make up the whole text.
abbrev pub invariant-loop-cell : goal.invariant-loop-cell
invariant-loop-cell g l = record {
  bytes : buffered_text (g.S.Sink.text l.sink) l.buffer ++ cells_text l.last (drop l.cell-index l.cells)
      ≡ g.S.Sink.text l.initial.sink ++ cells_text l.fn.attrs l.cells;
  grows : length (g.S.Sink.text l.initial.sink) ≤ length (g.S.Sink.text l.sink);
  ends : attrs_after_all l.last (drop l.cell-index l.cells) ≡ attrs_after_all l.fn.attrs l.cells;
}
