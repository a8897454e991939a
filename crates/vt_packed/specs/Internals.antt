-- Auxiliary definitions of private functions and of proofs.
use Rattle.std.specs.Prelude.{◌≡◌, ℕ, Bool, false, ◌+◌, ◌<◌, ◌≤◌, List, [], ◌∷◌, length, if◌then◌else◌}
use Rattle.std.specs.List.{AllByRecursion}
use Rattle.vt_cells.specs.Attrs.{Attrs, default_attrs}
use Rattle.vt_cells.specs.Cell.{CellValue, blank, glyph, right_half}
use Rattle.vt_cells.specs.Glyph.{IsMark, Joins}
use Rattle.vt_rows.specs.Cells.{at}
use Rattle.vt_packed.specs.declared.runs.Run.{Run}
use Rattle.vt_packed.specs.Items.{Style, style_of}
use Rattle.vt_packed.specs.Packed.{extends, run_of}

-- The runs after an item with the given style is added.
abbrev pub pushed : List Run → Style → List Run
pushed [] style = run_of style ∷ []
pushed (run ∷ []) style =
    if extends style run then record run { count = run.count + 1 } ∷ [] else run ∷ run_of style ∷ []
pushed (run ∷ next ∷ runs) style = run ∷ pushed (next ∷ runs) style

-- The runs after the item of a cell is added. A continuation cell has no item.
abbrev pub runs_with : List Run → CellValue → List Run
runs_with runs (blank attrs) = pushed runs (style_of attrs false)
runs_with runs (glyph text wide attrs) = pushed runs (style_of attrs wide)
runs_with runs right_half = runs

-- The last run of a list, or the given run if the list is empty.
abbrev pub last_or : Run → List Run → Run
last_or run [] = run
last_or run (first ∷ runs) = last_or first runs

-- A run that is full, so that no item is added to it.
abbrev pub full_run : Run
full_run = record { attrs = default_attrs; wide = false; count = 65535 }

-- When the item of the cell is added to the runs, `count` runs begin, and `last` becomes the last run.
pub record AddsCell (runs : List Run) (cell : CellValue) (count : ℕ) (last : Run) : Type 0 where
  pub has_count : length (runs_with runs cell) ≡ length runs + count
  pub is_last : last ≡ last_or full_run (runs_with runs cell)

-- The first `column` cells of `cells` are those of `all`. If there are more columns, the cells of `all` from `column` on
-- are `rest`.
pub record IsWrittenTo (all cells : List CellValue) (column : ℕ) (rest : List CellValue) : Type 0 where
  pub within : column ≤ length cells
  pub before : (k : ℕ) → k < column → at cells k ≡ at all k
  pub more : column < length cells → (k : ℕ) → at rest k ≡ at all (column + k)

-- The cell is a glyph whose text becomes `whole` when the combining characters `marks` are appended.
pub record IsBuiltTo (whole marks : List ℕ) (attrs : Attrs) (cell : CellValue) : Type 0 where
  pub text : List ℕ
  pub wide : Bool
  pub is : cell ≡ glyph text wide attrs
  pub are_marks : AllByRecursion IsMark marks
  pub joins : Joins text marks whole
