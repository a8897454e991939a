use Rattle.std.proofs.Common.{ℕ, List, [], Bor, get_or, map, rules, sym, subst, take}
use Rattle.std.proofs.lemmas.List.{map_more, take_all}
use Rattle.std.specs.List.{FoldsTo}
use Rattle.vt100.specs.Parser.{Ran, does_nothing}
use Rattle.example_contracts.proofs.Sending.{ran_more}
use Rattle.example_contracts.proofs.screen_test.read_pieces.Goals as goal

-- The default item for an index out of range.
abbrev nothing : Bor (List ℕ)
nothing = record { ref_ptr = (0, 0); now = [] }

pub loop-piece-preserved : goal.loop-piece-preserved
loop-piece-preserved c = record {
  folds =
      subst (λ (pieces : List (List ℕ)). FoldsTo (Ran does_nothing) c.args.parser.now pieces c.process.new.self)
      (sym (map_more (λ (piece : Bor (List ℕ)). piece.now) c.args.pieces.now
      c.loop-piece.piece-index nothing c.loop-piece-test.true))
      (ran_more (map (λ (piece : Bor (List ℕ)). piece.now) (take c.loop-piece.piece-index c.args.pieces.now))
      (get_or c.args.pieces.now c.loop-piece.piece-index nothing).now c.args.parser.now c.loop-piece.parser
      c.process.new.self c.loop-piece.invariant.folds c.in_ok-process.ensures.call.ran);
  fine = search rules;
}

pub returns-clause-ran : goal.returns-clause-ran
returns-clause-ran c =
    c.pieces.ensures.list c.args.parser.now c.loop-piece.parser
    (map (λ (piece : Bor (List ℕ)). piece.now) c.args.pieces.now)
    (subst (λ (pieces : List (Bor (List ℕ))). FoldsTo (Ran does_nothing) c.args.parser.now
    (map (λ (piece : Bor (List ℕ)). piece.now) pieces) c.loop-piece.parser)
    (take_all c.loop-piece.piece-index c.args.pieces.now c.loop-piece-test.false) c.loop-piece.invariant.folds)
