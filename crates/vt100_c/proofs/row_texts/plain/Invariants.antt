-- The loop invariant: the texts of the rows before the current one are joined.
use Rattle.std.proofs.Common.{◌≤◌, length}
use Rattle.std.specs.Prelude.{string_bytes}
use Rattle.vt_screen.specs.Contents.{rows_left}
use Rattle.vt100_c.specs.Rows.{IsJoined}
use Rattle.vt100_c.proofs.row_texts.plain.Given as goal

abbrev pub invariant-loop-item : goal.invariant-loop-item
invariant-loop-item l = record {
  joined : IsJoined (rows_left l.initial.rows) (rows_left l.rows) l.row (string_bytes l.joined) l.ends;
  room : length (rows_left l.initial.rows) ≤ length l.ends;
}

abbrev pub decreases-loop-item : goal.decreases-loop-item
decreases-loop-item l = length (rows_left l.rows)
