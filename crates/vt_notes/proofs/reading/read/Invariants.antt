-- The loop invariant: the chunks before the current one were parsed.
use Rattle.std.proofs.Common.{map, take}
use Rattle.std.specs.List.{FoldsTo}
use Rattle.vt100.specs.Parser.{Ran}
use Rattle.vt_notes.specs.Noting.{NotesIt}
use Rattle.vt_notes.proofs.reading.read.Given as goal

abbrev pub invariant-loop-piece : goal.invariant-loop-piece
invariant-loop-piece l =
    FoldsTo (Ran NotesIt) l.initial.parser (map (λ piece. piece.now) (take l.piece-index l.pieces)) l.parser
