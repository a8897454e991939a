-- The plain text of a capture: the maximal pieces outside SGR sequences.
use Rattle.std.specs.Prelude.{◌≡◌, ◌≢◌, ◌<◌, ◌≤◌, ◌↔◌, ◌⊎◌, ℕ, Bool, true, false, List, []}
use Rattle.std.specs.Prelude.{◌∷◌, ◌+◌, length, take, drop, map, if◌then◌else◌, ⊤}
use Rattle.vt_rows.specs.Stretches.{IsInStretch, begins_stretch, is_within_after}

-- A piece of a capture: the byte index at which it begins, and its bytes.
abbrev pub Piece : Type 0
Piece = ℕ × List ℕ

-- The byte index in the capture at which a piece ends.
abbrev pub piece_end : Piece → ℕ
piece_end piece = piece.0 + length piece.1

-- The byte at the given index of the capture is in the piece.
abbrev pub IsIn : ℕ → Piece → Type 0
IsIn k piece = (piece.0 ≤ k) × (k < piece_end piece)

-- The byte at the given index of the capture is in one of the pieces.
abbrev pub IsInSome : ℕ → List Piece → Type 0
IsInSome k [] = ⊥
IsInSome k (piece ∷ pieces) = IsIn k piece ⊎ IsInSome k pieces

-- The piece is a nonempty slice of the capture, located at the piece's index.
abbrev pub IsPieceOf : List ℕ → Piece → Type 0
IsPieceOf capture piece = (piece.1 ≢ []) × (take (length piece.1) (drop piece.0 capture) ≡ piece.1)

-- The pieces are nonempty slices of the capture, are in order, begin at or after the given byte index, and are
-- separated by at least one byte.
abbrev pub AreApart : List ℕ → ℕ → List Piece → Type 0
AreApart capture at [] = ⊤
AreApart capture at (piece ∷ pieces) =
    IsPieceOf capture piece × (at ≤ piece.0) × AreApart capture (piece_end piece + 1) pieces

-- The pieces are the plain text of the capture: nonempty slices, in order and separated by at least one byte. A byte is
-- in one of them if and only if it is not in an SGR sequence.
pub record ArePiecesOf (capture : List ℕ) (pieces : List Piece) : Type 0 where
  pub apart : AreApart capture 0 pieces
  pub plain : (k : ℕ) → k < length capture → IsInSome k pieces ↔ ¬ (IsInStretch capture k)

-- The text of each piece in a list.
abbrev pub texts_of : List Piece → List (List ℕ)
texts_of pieces = map (λ p. p.1) pieces

-- The bytes of a string that are outside SGR sequences, given whether the string begins inside an SGR sequence.
abbrev pub plain_from : Bool → List ℕ → List ℕ
plain_from within [] = []
plain_from true (b ∷ text) = plain_from (is_within_after true b) text
plain_from false (b ∷ text) = if begins_stretch b then plain_from true text else b ∷ plain_from false text

-- The capture without its SGR sequences.
abbrev pub without_stretches : List ℕ → List ℕ
without_stretches capture = plain_from false capture
