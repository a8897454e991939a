use Rattle.std.proofs.Common.{◌≡◌, ◌≤◌, ◌++◌, length}
use Rattle.vt_cells.specs.Internals.{buffered_text}
use Rattle.vt_rows.specs.Basic.{attrs_after_all, cells_text}
use Rattle.vt_packed.specs.Items.{cells_of}
use Rattle.vt_packed.proofs.basic.write_item_texts.Given as goal

-- The loop invariant: the text written so far and the text of the remaining items make up the whole text.
abbrev pub invariant-loop-item : goal.invariant-loop-item
invariant-loop-item g l = record {
  bytes : buffered_text (g.S.Sink.text l.sink) l.buffer ++ cells_text l.last (cells_of l.items)
      ≡ g.S.Sink.text l.initial.sink ++ cells_text l.fn.attrs (cells_of l.fn.items);
  grows : length (g.S.Sink.text l.initial.sink) ≤ length (g.S.Sink.text l.sink);
  ends : attrs_after_all l.last (cells_of l.items) ≡ attrs_after_all l.fn.attrs (cells_of l.fn.items);
}

abbrev pub decreases-loop-item : goal.decreases-loop-item
decreases-loop-item g l = length l.items
