-- Pictures whose glyphs of uncertain width have room, and the positions near such glyphs.
use Rattle.std.specs.Prelude.{◌≡◌, ◌⊎◌, ◌≤◌, ◌<◌, ◌+◌, ◌==◌, ◌||◌, not, ℕ, Bool, true, false, List, [], ◌∷◌, length}
use Rattle.std.specs.Prelude.{chars}
use Rattle.vt_cells.specs.Cell.{CellValue, blank, glyph, right_half}
use Rattle.vt_rows.specs.Row.{RowValue}
use Rattle.vt_redraw.specs.Certain.{is_certain, is_certain_text}
use Rattle.vt_redraw.specs.Doubts.{is_past_uncertain}
use Rattle.vt_redraw.specs.Picture.{Picture}
use Rattle.vt_terminals.specs.Laws.{stray_columns}
use Rattle.vt_terminals.specs.Terminal.{Positions}

-- The text has a character on whose width terminals may disagree.
abbrev pub is_uncertain : List ℕ → Bool
is_uncertain [] = false
is_uncertain (c ∷ cs) = not (is_certain c) || is_uncertain cs

-- A glyph of uncertain width, with the given text, at row `r`, column `c` has room to its right for two columns for
-- each of its characters, and one more. All positions that it may change are near: these columns and the two before the
-- glyph.
pub record StrayFits (near : Positions) (width r c : ℕ) (text : List ℕ) : Type 0 where
  pub uncertain : is_uncertain (chars text) ≡ true
  -- The characters of one byte are certain.
  pub long : (length text == 1) ≡ false
  pub room : c + stray_columns (chars text) < width
  pub region : (k : ℕ) → c ≤ k + 2 → k ≤ c + stray_columns (chars text) → near r k ≡ true

-- A glyph is a single character on whose width terminals agree, or has room.
abbrev pub CellHasRoom : (near : Positions) (width r c : ℕ) → CellValue → Type 0
CellHasRoom near width r c (glyph text wide attrs) = (is_certain_text text ≡ true) ⊎ StrayFits near width r c text
CellHasRoom near width r c (blank attrs) = Unit {0}
CellHasRoom near width r c right_half = Unit {0}

-- All glyphs have room, given the column of the first cell.
abbrev pub CellsHaveRoom : (near : Positions) (width r c : ℕ) → List CellValue → Type 0
CellsHaveRoom near width r c [] = Unit {0}
CellsHaveRoom near width r c (x ∷ xs) = CellHasRoom near width r c x × CellsHaveRoom near width r (c + 1) xs

-- The first cell is no glyph of uncertain width.
abbrev pub IsFirstCertain : List CellValue → Type 0
IsFirstCertain [] = Unit {0}
IsFirstCertain (glyph text wide a ∷ xs) = is_certain_text text ≡ true
IsFirstCertain (_ ∷ xs) = Unit {0}

-- All glyphs of the rows from row `r` on have room. `wrapped` is true if the row above them is wrapped.
abbrev pub RowsHaveRoom : (near : Positions) (width r : ℕ) (wrapped : Bool) → List RowValue → Type 0
RowsHaveRoom near width r wrapped [] = Unit {0}
RowsHaveRoom near width r wrapped (x ∷ xs) =
    (wrapped ≡ true → IsFirstCertain x.cells)
    × (CellsHaveRoom near width r 0 x.cells × RowsHaveRoom near width (r + 1) x.wrapped xs)

-- Each glyph of the picture is a single character on whose width terminals agree, or it has room and all positions that
-- it may change are near. No glyph of uncertain width is the first of a row after a wrapped row.
abbrev pub HasRoom : (near : Positions) → Picture → Type 0
HasRoom near picture = RowsHaveRoom near picture.width 0 false picture.rows

-- No wrap is pending in the picture after a glyph on whose width terminals may disagree.
abbrev pub IsPlaced : Picture → Type 0
IsPlaced picture = is_past_uncertain picture.width picture.row picture.column picture.rows ≡ false
