use Rattle.std.proofs.Common.{◌≡◌, ◌++◌, false, drop}
use Rattle.vt_screen.specs.Contents.{lines_of}
use Rattle.vt_screen.specs.Screen.{visible_rows}
use Rattle.vt_screen.proofs.screen.Screen.write_lines.Given as goal

-- The loop invariant: the text written so far and the lines of the remaining rows make up the whole text.
abbrev pub invariant-loop-row : goal.invariant-loop-row
invariant-loop-row g l =
    g.S.Sink.text l.sink ++ lines_of l.self.page.width l.is_wrapped (drop l.row (visible_rows l.self))
    ≡ g.S.Sink.text l.fn.sink ++ lines_of l.self.page.width false (visible_rows l.self)
