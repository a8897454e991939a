use Rattle.std.proofs.Common.{◌≡◌, ◌≤◌, ◌-◌, ◌++◌, drop, length}
use Rattle.std.specs.List.{flat_map}
use Rattle.vt_cells.specs.Internals.{buffered_text}
use Rattle.vt_rows.specs.Basic.{shown_text}
use Rattle.vt_rows.proofs.plain.write_shown.Given as goal

-- The loop invariant: the text so far and the text of the remaining cells make up the whole text.
abbrev pub invariant-loop-count : goal.invariant-loop-count
invariant-loop-count g l = record {
  bytes : buffered_text (g.S.Sink.text l.sink) l.buffer ++ flat_map shown_text (drop l.count l.cells)
      ≡ g.S.Sink.text l.fn.sink ++ (l.fn.buffer ++ flat_map shown_text l.cells);
  grows : length (g.S.Sink.text l.fn.sink) ≤ length (g.S.Sink.text l.sink);
  inside : l.count ≤ length l.cells;
}

abbrev pub decreases-loop-count : goal.decreases-loop-count
decreases-loop-count g l = length l.cells - l.count
