use Rattle.std.proofs.Common.{◌≡◌, ◌≤◌, ◌++◌, ◌-◌, length}
use Rattle.std.specs.List.{flat_map, range_with_len}
use Rattle.vt_screen.specs.Contents.{between_of, part_of}
use Rattle.vt_screen.proofs.screen.Screen.write_between.Given as goal

-- The loop invariant: the text written so far and the parts of the remaining rows make up the whole text.
abbrev pub invariant-loop-row : goal.invariant-loop-row
invariant-loop-row g l =
    (g.S.Sink.text l.sink
    ++ flat_map (part_of l.start.row l.start.col l.end.row l.end.col l.self) (range_with_len l.row (l.past - l.row))
    ≡ g.S.Sink.text l.fn.sink ++ between_of l.start.row l.start.col l.end.row l.end.col l.self)
    × (length (g.S.Sink.text l.fn.sink) ≤ length (g.S.Sink.text l.sink))
