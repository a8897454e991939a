-- The loop invariant: the chunks before the current one were parsed.
use Rattle.std.proofs.Common.{◌≡◌, false, map, take}
use Rattle.std.specs.List.{FoldsTo}
use Rattle.vt100.specs.Parser.{Ran, does_nothing}
use Rattle.example_contracts.proofs.screen_test.read_pieces.Given as goal

abbrev pub invariant-loop-piece : goal.invariant-loop-piece
invariant-loop-piece l = record {
  folds : FoldsTo (Ran does_nothing) l.fn.parser (map (λ piece. piece.now) (take l.piece-index l.pieces)) l.parser;
  fine : l.parser.is_failed ≡ false;
}
