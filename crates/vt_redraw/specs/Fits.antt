-- Operations whose output a terminal reads back as the same operations: their numbers are in range, and their text is
-- printable.
use Rattle.std.specs.Prelude.{◌≡◌, ◌≢◌, ℕ, ◌<◌, ◌^◌, List, None, encode_utf8_all}
use Rattle.std.specs.Char.{IsScalar}
use Rattle.std.specs.List.{AllByRecursion}
use Rattle.vt_cells.specs.Glyph.{columns_of}
use Rattle.vt_cells.specs.Op.{Op, Hide, ClearAttrs, MoveTo, MoveRight, NextRow, LineFeed, Backspace, EraseBelow}
use Rattle.vt_cells.specs.Op.{EraseRest, EraseChars, SaveCursor, RestoreCursor, ChangeAttrs, Print, FitsAttrs}

-- The character is a Unicode scalar value that a terminal prints or adds to the glyph before the cursor. It is not
-- U+FFFD, which is reported instead of being printed.
pub record IsDrawn (c : ℕ) : Type 0 where
  pub scalar : IsScalar c
  pub shown : columns_of c ≢ None
  pub reported : c ≢ 0xFFFD

-- The text is the UTF-8 encoding of characters that a terminal prints or adds to a glyph.
pub record IsDrawnText (text : List ℕ) : Type 0 where
  pub characters : List ℕ
  pub spelled : encode_utf8_all characters ≡ text
  pub printable : AllByRecursion IsDrawn characters

-- The output of the operation is read back as the same operation. Rows and columns are at most 65534, because they are
-- 1-based in the output.
abbrev pub Fits : Op → Type 0
Fits (Hide hidden) = Unit {0}
Fits ClearAttrs = Unit {0}
Fits (MoveTo row col) = (row < 65535) × (col < 65535)
Fits (MoveRight count) = count < 2 ^ 16
Fits NextRow = Unit {0}
Fits LineFeed = Unit {0}
Fits Backspace = Unit {0}
Fits EraseBelow = Unit {0}
Fits EraseRest = Unit {0}
Fits (EraseChars count) = count < 2 ^ 16
Fits SaveCursor = Unit {0}
Fits RestoreCursor = Unit {0}
Fits (ChangeAttrs was new) = FitsAttrs was × FitsAttrs new
Fits (Print text) = IsDrawnText text
