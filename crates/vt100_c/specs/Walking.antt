-- Reading a capture: the byte positions at which its rows, and its pieces of plain text outside SGR sequences, begin and
-- end, and sequences of calls that read it from beginning to end, each call starting where the previous one ended.
use Rattle.std.specs.Prelude.{◌≡◌, ◌+◌, ◌-◌, ◌^◌, ◌==◌, ℕ, List, [], ◌∷◌, IsUtf8, get_or, if◌then◌else◌, ◌≢◌, ◌<◌, drop}
use Rattle.std.specs.Prelude.{length, map}
use Rattle.std.specs.Str.{IsCharBoundary}
use Rattle.vt_rows.specs.Pieces.{Piece, piece_end, ArePiecesOf}
use Rattle.vt_rows.specs.CaptureRows.{AreRowsOf}

-- The bytes are UTF-8, and the index is a character boundary, which may be the end of the text.
abbrev pub IsPlace : List ℕ → ℕ → Type 0
IsPlace text at = IsUtf8 text × IsCharBoundary text at

-- The index after the line feed at the given index; if there is no line feed at that index, the given index itself.
abbrev pub after_line_end : List ℕ → ℕ → ℕ
after_line_end text end = if get_or text end 0 == 10 then end + 1 else end

-- The first piece in a list begins at byte `start` and ends at byte `end` of a capture. The indices of the pieces in
-- the list are relative to byte `at` of the capture. If the list is empty, `start` and `end` are `stop`.
abbrev pub IsFirstPiece : (stop at : ℕ) → List Piece → (start end : ℕ) → Type 0
IsFirstPiece stop at [] start end = (start ≡ stop) × (end ≡ stop)
IsFirstPiece stop at (piece ∷ pieces) start end = (start ≡ at + piece.0) × (end ≡ at + piece_end piece)

-- The number that is stored instead of the next row's position if there is no next row.
abbrev pub no_place : ℕ
no_place = 2 ^ 64 - 1

-- The first row in a nonempty list ends at byte `end` of a capture, and the second row begins at byte `next`. The
-- indices of the rows in the list are relative to byte `at` of the capture. If there is no second row, `next` is
-- `no_place`.
abbrev pub IsFirstRow : (at : ℕ) → List Piece → (end next : ℕ) → Type 0
IsFirstRow at [] end next = ⊥
IsFirstRow at (row ∷ []) end next = (end ≡ at + piece_end row) × (next ≡ no_place)
IsFirstRow at (row ∷ following ∷ rows) end next = (end ≡ at + piece_end row) × (next ≡ at + following.0)

-- The start and end positions, in the whole capture, of a piece whose index is relative to byte `at` of the capture.
abbrev pub place_from : ℕ → Piece → ℕ × ℕ
place_from at piece = (at + piece.0, at + piece_end piece)

-- The positions that `vt100_next_plain` stores: the first piece of plain text found at or after byte `at` begins at
-- `start` and ends at `end`; both are the text's length if there is no such piece.
abbrev pub FindsPlain : List ℕ → (at start end : ℕ) → Type 0
FindsPlain text at start end =
    (pieces : List Piece) × ArePiecesOf (drop at text) pieces × IsFirstPiece (length text) at pieces start end

-- A sequence of calls to `vt100_next_plain` that return OK and find pieces of plain text at the given positions. The
-- first call starts at byte `at`, each later call starts at the end of the previous piece, and a final call finds no
-- piece.
abbrev pub FindAllPlain : List ℕ → ℕ → List (ℕ × ℕ) → Type 0
FindAllPlain text at [] = FindsPlain text at (length text) (length text)
FindAllPlain text at (place ∷ places) =
    (place.0 < length text) × FindsPlain text at place.0 place.1 × FindAllPlain text place.1 places

-- The positions that `vt100_next_row` stores: the row at byte `at` ends at `end`, and the row after it begins at
-- `next`, which is `no_place` if there is no such row.
abbrev pub FindsRow : List ℕ → (width at end next : ℕ) → Type 0
FindsRow text width at end next =
    (rows : List Piece) × AreRowsOf width (drop at text) rows × IsFirstRow at rows end next

-- A sequence of calls to `vt100_next_row` that return OK and find rows at the given positions. The first call starts at
-- byte `at`, each later call starts at the position `next` that the previous call stored, and the last call finds no
-- further row.
abbrev pub FindAllRows : List ℕ → (width at : ℕ) → List (ℕ × ℕ) → Type 0
FindAllRows text width at [] = ⊥
FindAllRows text width at (place ∷ []) = (place.0 ≡ at) × IsPlace text at × FindsRow text width at place.1 no_place
FindAllRows text width at (place ∷ next ∷ places) =
    (place.0 ≡ at) × IsPlace text at × (next.0 ≢ no_place) × FindsRow text width at place.1 next.0
    × FindAllRows text width next.0 (next ∷ places)

-- The positions are the start and end of each piece of plain text in a capture, in order.
pub record ArePlacesOfPieces (text : List ℕ) (places : List (ℕ × ℕ)) : Type 0 where
  pub pieces : List Piece
  pub are : ArePiecesOf text pieces
  pub at : map (place_from 0) pieces ≡ places

-- The positions are the start and end of each row of a capture, in order.
pub record ArePlacesOfRows (text : List ℕ) (width : ℕ) (places : List (ℕ × ℕ)) : Type 0 where
  pub rows : List Piece
  pub are : AreRowsOf width text rows
  pub at : map (place_from 0) rows ≡ places
