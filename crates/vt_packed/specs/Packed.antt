-- The value of a packed row, and its invariant.
use Rattle.std.specs.Prelude.{◌≡◌, ℕ, Bool, ◌+◌, ◌-◌, ◌<◌, ◌≤◌, ◌&&◌, nat_lt, List, [], ◌∷◌, ◌++◌}
use Rattle.std.specs.Prelude.{length, map, replicate, if◌then◌else◌}
use Rattle.std.specs.List.{AllByRecursion}
use Rattle.vt_cells.specs.Attrs.{default_attrs, same_attrs, same_bool}
use Rattle.vt_cells.specs.Cell.{CellValue, IsCell}
use Rattle.vt_rows.specs.Cells.{blanks}
use Rattle.vt_rows.specs.Row.{RowValue, cells_without_end}
use Rattle.vt_packed.specs.declared.runs.Run.{Run}
use Rattle.vt_packed.specs.Items.{Item, IsItem, Style, cells_of, items_of, first_text, after_first, stored_texts, style_of}

-- The style of the items of a run.
abbrev pub run_style : Run → Style
run_style run = style_of run.attrs run.wide

-- The style of each item, given the runs of items with equal styles.
abbrev pub styles_of : List Run → List Style
styles_of [] = []
styles_of (run ∷ runs) = replicate run.count (run_style run) ++ styles_of runs

-- The items with the given styles and stored texts.
abbrev pub items_from : List Style → List ℕ → List Item
items_from [] bytes = []
items_from (style ∷ styles) bytes = record { style = style; text = first_text bytes } ∷ items_from styles (after_first bytes)

-- The cells, followed by default blanks up to the given number of columns.
unfoldable pub padded : ℕ → List CellValue → List CellValue
padded cols cells = cells ++ blanks default_attrs (cols - length cells)

-- ==== The runs and the text of a row

-- A run of a single item with the given style.
abbrev pub run_of : Style → Run
run_of style = record { attrs = style.attrs; wide = style.wide; count = 1 }

-- An item with the given style is added to the run before it: the styles are equal, and the run is not full.
abbrev pub extends : Style → Run → Bool
extends style run = nat_lt run.count 65535 && (same_bool run.wide style.wide && same_attrs run.attrs style.attrs)

-- The given run and the runs after it, when items with the given styles are added.
abbrev pub runs_after : Run → List Style → List Run
runs_after run [] = run ∷ []
runs_after run (style ∷ styles) =
    if extends style run then runs_after (record run { count = run.count + 1 }) styles
    else run ∷ runs_after (run_of style) styles

-- The runs of items with the given styles.
abbrev pub runs_of : List Style → List Run
runs_of [] = []
runs_of (style ∷ styles) = runs_after (run_of style) styles

-- The runs of the items of a row.
abbrev pub packed_runs : List CellValue → List Run
packed_runs cells = runs_of (map (λ item. item.style) (items_of cells))

-- The stored texts of the items of a row.
abbrev pub packed_text : List CellValue → List ℕ
packed_text cells = stored_texts (items_of cells)

-- The size of a packed row: its number of runs, and the number of bytes of its text.
pub record PackedSize : Type 0 where
  pub runs : ℕ
  pub text : ℕ

-- The size of a row once it is packed: that of its items up to the last one that is not a default blank.
unfoldable pub packed_size : RowValue → PackedSize
packed_size row =
    let cells = cells_without_end row.cells in
    record { runs = length (packed_runs cells); text = length (packed_text cells) }

-- A packed row of the first size fits in the memory of a packed row of the second size.
abbrev pub FitsIn : PackedSize → PackedSize → Type 0
FitsIn new old = (new.runs ≤ old.runs) × (new.text ≤ old.text)

-- ==== The invariant

-- No run is empty.
abbrev pub AreCounted : List Run → Type 0
AreCounted runs = AllByRecursion (λ run. 0 < run.count) runs

-- The bytes are the stored texts of the items, and each text is valid for the width of its item.
pub record AreItems (items : List Item) (bytes : List ℕ) : Type 0 where
  pub stored : bytes ≡ stored_texts items
  pub sound : AllByRecursion IsItem items

-- The invariant of a packed row: no run is empty; no run could hold the items of the run after it; the text consists of
-- the texts of the items; the items have at most as many cells as the row has columns; and the last of these cells is not
-- a default blank.
pub record IsPacked (runs : List Run) (text : List ℕ) (cols : ℕ) : Type 0 where
  pub counted : AreCounted runs
  pub joined : runs ≡ runs_of (styles_of runs)
  pub items : AreItems (items_from (styles_of runs) text) text
  pub inside : length (cells_of (items_from (styles_of runs) text)) ≤ cols
  pub ends : cells_without_end (cells_of (items_from (styles_of runs) text)) ≡ cells_of (items_from (styles_of runs) text)

-- The runs and the stored texts are those of the cells.
pub record Packs (cells : List CellValue) (runs : List Run) (text : List ℕ) : Type 0 where
  pub are_runs : runs ≡ packed_runs cells
  pub is_text : text ≡ packed_text cells
  pub sound : AllByRecursion IsCell cells
