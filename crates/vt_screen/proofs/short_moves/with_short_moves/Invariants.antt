-- The part of the output before `uncopied` has been replaced, and the rest of the output before `rest` is to be copied.
use Rattle.std.proofs.Common.{length, string_bytes}
use denote.Text.{Utf8}
use denote.Shadow.{shadow}
use Rattle.vt_screen.specs.Gaps.{picture_cell}
use Rattle.vt_screen.proofs.ShortMoves.{IsUnderway}
use Rattle.vt_screen.proofs.short_moves.with_short_moves.Given as goal

abbrev pub invariant-loop-rest : goal.invariant-loop-rest
invariant-loop-rest l = shadow (Utf8 l.uncopied) × shadow (Utf8 l.rest)
    × IsUnderway (length l.prev.rows) l.prev.width (picture_cell l.prev) l.fn.start l.known l.text l.uncopied l.rest
    (string_bytes l.short)

abbrev pub decreases-loop-rest : goal.decreases-loop-rest
decreases-loop-rest l = length l.rest
