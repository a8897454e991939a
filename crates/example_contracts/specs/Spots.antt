-- The text displayed at a position of a screen.
use Rattle.std.specs.Prelude.{◌≡◌, ◌<◌, ℕ, List, length}
use Rattle.vt_cells.specs.Cell.{text_of}
use Rattle.vt_rows.specs.Cells.{at}
use Rattle.vt_screen.specs.Screen.{ScreenValue, visible_row}

-- A cell is displayed at the given row and column, and its text is `text`.
pub record HasText (screen : ScreenValue) (row column : ℕ) (text : List ℕ) : Type 0 where
  pub inside : row < length screen.page.rows
  pub within : column < length (visible_row screen row).cells
  pub is : text_of (at (visible_row screen row).cells column) ≡ text
