-- The rows of a capture when it is displayed on a terminal of a given width.
use Rattle.std.specs.Prelude.{◌≡◌, ◌⊎◌, ℕ, Bool, true, false, not, ◌==◌, ◌&&◌, nat_lt, List, []}
use Rattle.std.specs.Prelude.{◌∷◌, ◌+◌, ◌<◌, IsUtf8, chars, get_or, length, take, drop}
use Rattle.vt_rows.specs.Pieces.{Piece, piece_end}
use Rattle.vt_rows.specs.Stretches.{columns_added, columns_in, ends_within}

-- The given character, which follows the given text of a row, ends the row: it is a newline (LF) outside SGR sequences.
abbrev pub ends_row : List ℕ → ℕ → Bool
ends_row row c = not (ends_within row) && (c == 0x0A)

-- `is_beyond width used added` holds if a character of `added` columns doesn't fit after `used` columns in a row of
-- `width` columns. A character always fits if `used` or `added` is 0.
abbrev pub is_beyond : ℕ → ℕ → ℕ → Bool
is_beyond width used added = nat_lt 0 used && (nat_lt 0 added && nat_lt width (used + added))

-- The character doesn't fit after the given text in a row of the given width.
abbrev pub overflows : ℕ → List ℕ → ℕ → Bool
overflows width row c = is_beyond width (columns_in row) (columns_added (ends_within row) c)

-- The row contains no newline outside SGR sequences, and every character fits in the given width after the characters
-- before it.
abbrev pub IsUncut : ℕ → List ℕ → Type 0
IsUncut width row =
    (k : ℕ) → k < length row →
    (ends_row (take k row) (get_or row k 0) ≡ false) × (overflows width (take k row) (get_or row k 0) ≡ false)

-- The row is the slice of the capture at the row's index and consists of whole characters. None of them is a newline
-- outside SGR sequences, and each fits in the given width after the characters before it.
pub record IsRowOf (width : ℕ) (capture : List ℕ) (row : Piece) : Type 0 where
  pub slice : take (length row.1) (drop row.0 capture) ≡ row.1
  pub utf8 : IsUtf8 row.1
  pub uncut : IsUncut width (chars row.1)

-- The row `next` begins directly after the newline that ends `row`.
pub record IsAfterEnd (capture : List ℕ) (row next : Piece) : Type 0 where
  pub place : next.0 ≡ piece_end row + 1
  pub ends : ends_row (chars row.1) (get_or capture (piece_end row) 0) ≡ true

-- The row `next` begins directly at the end of `row`, with a character that doesn't fit on `row` at the given width.
pub record IsAfterFull (width : ℕ) (row next : Piece) : Type 0 where
  pub place : next.0 ≡ piece_end row
  pub first : ℕ
  pub rest : List ℕ
  pub begins : chars next.1 ≡ first ∷ rest
  pub overflows : overflows width (chars row.1) first ≡ true

-- The pieces are consecutive rows of the capture at the given width, and there is at least one. The first one begins at
-- the given byte index, and the last one ends at the end of the capture.
abbrev pub AreRowsFrom : ℕ → List ℕ → ℕ → List Piece → Type 0
AreRowsFrom width capture at [] = ⊥
AreRowsFrom width capture at (row ∷ []) = (row.0 ≡ at) × IsRowOf width capture row × (piece_end row ≡ length capture)
AreRowsFrom width capture at (row ∷ next ∷ rows) =
    (row.0 ≡ at) × IsRowOf width capture row × (IsAfterEnd capture row next ⊎ IsAfterFull width row next)
    × AreRowsFrom width capture next.0 (next ∷ rows)

-- The pieces are exactly the rows of the capture on a terminal of the given width, in order.
abbrev pub AreRowsOf : ℕ → List ℕ → List Piece → Type 0
AreRowsOf width capture rows = AreRowsFrom width capture 0 rows
