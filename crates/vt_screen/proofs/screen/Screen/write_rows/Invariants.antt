use Rattle.std.proofs.Common.{◌≡◌, ◌≤◌, ◌++◌, length}
use Rattle.std.specs.List.{slice_range}
use Rattle.vt_screen.specs.Capture.{all_rows, basic_texts, written_after_all}
use Rattle.vt_screen.proofs.screen.Screen.write_rows.Given as goal

-- The loop invariant: the rows before the index have been written.
abbrev pub invariant-loop-index : goal.invariant-loop-index
invariant-loop-index g l = record {
  low : l.start ≤ l.index;
  high : l.index ≤ l.end;
  inside : l.end ≤ length (all_rows l.self);
  bytes : g.S.Sink.text l.sink
      ≡ g.S.Sink.text l.fn.sink ++ basic_texts l.fn.state (slice_range (all_rows l.self) l.start l.index);
  written : l.state ≡ written_after_all l.fn.state (slice_range (all_rows l.self) l.start l.index);
}
