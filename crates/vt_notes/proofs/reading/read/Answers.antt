-- One more chunk is parsed, and the notes at the end.
use Rattle.std.proofs.Common.{◌≡◌, ℕ, true, List, [], Bor, map, take, get_or, sym, subst, ap, ◌∙◌}
use Rattle.std.proofs.lemmas.List.{map_more, take_all}
use Rattle.std.specs.List.{FoldsTo}
use Rattle.vt_screen.specs.Screen.{fresh_screen}
use Rattle.vt100.specs.Parser.{Ran, pieces_joined, parser_value}
use Rattle.vt_notes.specs.Noting.{Noted, NotesIt}
use Rattle.vt_notes.proofs.Runs.{HasRead, has_read, read_more}
use Rattle.vt_notes.proofs.reading.read.Goals as goal

-- The default item for an index out of range.
abbrev nothing : Bor (List ℕ)
nothing = record { ref_ptr = (0, 0); now = [] }

pub loop-piece-preserved : goal.loop-piece-preserved
loop-piece-preserved c =
    subst (λ (pieces : List (List ℕ)). FoldsTo (Ran NotesIt) c.in_ok-parser.parser pieces c.process.new.self)
    (sym (map_more (λ (piece : Bor (List ℕ)). piece.now) c.args.pieces.now
    c.loop-piece.piece-index nothing c.loop-piece-test.true))
    (read_more c.in_ok-parser.parser c.loop-piece.parser c.process.new.self
    (map (λ (piece : Bor (List ℕ)). piece.now) (take c.loop-piece.piece-index c.args.pieces.now))
    (get_or c.args.pieces.now c.loop-piece.piece-index nothing).now c.loop-piece.invariant c.in_ok-process.ensures.call.ran)

at_end : (c : goal.Else-not-is_complete) →
    HasRead (fresh_screen c.args.rows.value c.args.cols.value 0)
    (pieces_joined (map (λ (piece : Bor (List ℕ)). piece.now) c.args.pieces.now)) c.loop-piece.parser
at_end c =
    has_read c.in_ok-parser.parser c.loop-piece.parser (fresh_screen c.args.rows.value c.args.cols.value 0)
    (map (λ (piece : Bor (List ℕ)). piece.now) c.args.pieces.now)
    (c.in_ok-parser.ensures.shown
    ∙ ap (λ (notes : Noted). parser_value c.in_ok-parser.parser.scanner
    (fresh_screen c.args.rows.value c.args.cols.value 0) notes)
    c.new.ensures)
    c.in_ok-parser.ensures.ground
    (subst (λ (pieces : List (Bor (List ℕ))). FoldsTo (Ran NotesIt) c.in_ok-parser.parser
    (map (λ (piece : Bor (List ℕ)). piece.now) pieces) c.loop-piece.parser)
    (take_all c.loop-piece.piece-index c.args.pieces.now c.loop-piece-test.false) c.loop-piece.invariant)

is_complete : (c : goal.Else-not-is_complete) → c.loop-piece.parser.callbacks.is_complete ≡ true
is_complete c =
    ap (λ (notes : Noted). notes.is_complete) (sym c.callbacks.ensures)
    ∙ (sym c.is_complete.ensures ∙ c.if-not-is_complete.false)

pub returns-clause-noted : goal.returns-clause-noted
returns-clause-noted c = (at_end c).noted (is_complete c)

pub returns-clause-shown : goal.returns-clause-shown
returns-clause-shown c = (at_end c).shown
