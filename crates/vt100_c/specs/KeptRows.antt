-- The rows that a screen keeps, whether they are displayed or not, and their cells as C reads them.
use Rattle.std.specs.Prelude.{◌≡◌, ◌<◌, ◌≤◌, ℕ, List, Option, Some, None, length}
use Rattle.std.specs.List.{slice_get}
use Rattle.vt_cells.specs.Cell.{CellValue}
use Rattle.vt_rows.specs.Cells.{at}
use Rattle.vt_rows.specs.Plain.{plain_text}
use Rattle.vt_rows.specs.Row.{RowValue}
use Rattle.vt_screen.specs.Capture.{all_rows}
use Rattle.vt_screen.specs.Screen.{ScreenValue}
use Rattle.vt100_c.specs.Due.{HoldsScreen, IsSomeAnd}
use Rattle.vt100_c.specs.Shown.{cell_for_c, cell_in}
use Rattle.vt100_c.specs.Status.{ok, bad_argument}
use Rattle.vt100_c.specs.declared.cells.VtCell.{VtCell}
use Rattle.vt100_c.specs.declared.object.Object.{Object}

-- The row at an index among all rows that a screen keeps: those of scrollback, oldest first, and those of the page.
abbrev pub kept_row : ℕ → ScreenValue → Option RowValue
kept_row index screen = slice_get (all_rows screen) index

-- The status of a call that requires a row: `ok` if there is one, otherwise `bad_argument`.
abbrev pub due_to_row : Option RowValue → ℕ
due_to_row None = bad_argument
due_to_row (Some row) = ok

-- The status of a call with the index of a row that a screen keeps: `ok` if there is such a row, otherwise
-- `bad_argument`.
abbrev pub kept_row_status : ℕ → ScreenValue → ℕ
kept_row_status index screen = due_to_row (kept_row index screen)

-- The screen keeps a row at the index, and the given predicate is true of the row.
abbrev pub OnKeptRow : ℕ → ScreenValue → (RowValue → Type 0) → Type 0
OnKeptRow index screen Holds = IsSomeAnd (kept_row index screen) Holds

-- The screen in the handle keeps a row at the index, and the given predicate is true of the row.
abbrev pub HoldsKeptRow : ℕ → Option Object → (RowValue → Type 0) → Type 0
HoldsKeptRow index held Holds = HoldsScreen held (λ screen. OnKeptRow index screen Holds)

-- As many of the given cells as the list has room for are stored at its beginning, and its further elements are those of
-- `old`.
pub record HasCells (cells : List CellValue) (old new : List VtCell) : Type 0 where
  pub len : length new ≡ length old
  pub cells_are : (k : ℕ) → k < length cells → k < length old → cell_in new k ≡ cell_for_c (at cells k)
  pub rest : (k : ℕ) → length cells ≤ k → cell_in new k ≡ cell_in old k

-- The plain text of a row.
abbrev pub text_of_row : RowValue → List ℕ
text_of_row row = plain_text 0 (length row.cells) row.cells
