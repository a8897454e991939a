-- Where the rows of a page are stored: one list of cells, divided into slots, and a table of rows.
use Rattle.std.specs.Prelude.{◌≡◌, ℕ, ◌+◌, ◌*◌, ◌<◌, ◌≤◌, false, List, length, map, slice_index_or, if◌then◌else◌, min}
use Rattle.std.specs.Prelude.{nat_lt, take, vec_capacity}
use Rattle.std.specs.List.{slice_range, range_with_len}
use Rattle.vt_cells.specs.Cell.{CellValue, default_blank}
use Rattle.vt_rows.specs.Cells.{at}
use Rattle.vt_rows.specs.Row.{RowValue}
use Rattle.vt_grid.specs.declared.flat.Line.{Line}
use Rattle.vt_grid.specs.declared.flat.Columns.{Columns}
use Rattle.vt_grid.specs.declared.flat.Flat.{Flat}

-- The cells in the slot with the given index, if each slot holds `stored` cells.
abbrev pub cells_at : (stored : ℕ) → List CellValue → ℕ → List CellValue
cells_at stored cells place = slice_range cells (place * stored) (place * stored + stored)

-- The row that a table entry describes: the cells in the displayed columns of the entry's slot, and the entry's wrapped
-- flag.
abbrev pub row_in : Columns → List CellValue → Line → RowValue
row_in columns cells line =
    record { cells = take columns.shown (cells_at columns.stored cells line.place); wrapped = line.wrapped }

-- The rows that a table describes, from top to bottom, given the cells that the table refers to.
unfoldable pub rows_in : Columns → List CellValue → List Line → List RowValue
rows_in columns cells lines = map (row_in columns cells) lines

-- The default table entry, used for a row that is not in the table.
abbrev pub no_line : Line
no_line = record { place = 0; used = 0; wrapped = false }

-- The table entry of the row at the given index, or the default entry if the index is past the end.
abbrev pub line_at : List Line → ℕ → Line
line_at lines r = slice_index_or lines r no_line

-- The table is valid: the cells are divided into as many slots as there are rows, and each row has its own slot.
pub record IsTable (stored : ℕ) (cells : List CellValue) (lines : List Line) : Type 0 where
  pub filled : length cells ≡ length lines * stored
  pub inside : (r : ℕ) → r < length lines → (line_at lines r).place < length lines
  pub distinct : (r s : ℕ) → r < length lines → s < length lines →
      (line_at lines r).place ≡ (line_at lines s).place → r ≡ s

-- All cells from the given column on are default blanks.
abbrev pub IsBlankFrom : ℕ → List CellValue → Type 0
IsBlankFrom used cells = (k : ℕ) → used ≤ k → at cells k ≡ default_blank

-- The number of used columns in a row of `width` columns: the first `groups` groups of eight columns are used, or all
-- columns if `groups` is 255.
abbrev pub used_columns : (width groups : ℕ) → ℕ
used_columns width groups = if nat_lt groups 255 then min (8 * groups) width else width

-- The cells and the table store a page: the table is valid, each slot has room for a row, and all cells after the used
-- columns of a row, up to the end of its slot, are default blanks.
pub record IsStored (columns : Columns) (cells : List CellValue) (lines : List Line) : Type 0 where
  pub table : IsTable columns.stored cells lines
  pub fits : columns.shown ≤ columns.stored
  pub blank : (r : ℕ) → r < length lines →
      IsBlankFrom (used_columns columns.shown (line_at lines r).used)
      (cells_at columns.stored cells (line_at lines r).place)

-- The rows that a page's storage represents.
abbrev pub rows_of : Flat → List RowValue
rows_of flat = rows_in flat.columns flat.cells.items flat.lines.items

-- The invariant of a page's storage: `IsStored` holds for its numbers of displayed and stored columns, its cells and
-- its table.
abbrev pub IsFlat : Flat → Type 0
IsFlat flat = IsStored flat.columns flat.cells.items flat.lines.items

-- The table of `n` rows with no used columns, in which row `k` is in slot `k` and no row is wrapped.
abbrev pub in_order : ℕ → List Line
in_order n = map (λ place. record { place = place; used = 0; wrapped = false }) (range_with_len 0 n)

-- The table entries of `n` rows that have no used columns, are not wrapped, and are stored in consecutive slots,
-- starting at slot `first`.
abbrev pub lines_from : (first n : ℕ) → List Line
lines_from first n = map (λ place. record { place = place; used = 0; wrapped = false }) (range_with_len first n)

-- The cell vector and the table have capacity for `rows` rows.
pub record HasRoom (rows : ℕ) (flat : Flat) : Type 0 where
  pub cells : rows * flat.columns.stored ≤ vec_capacity flat.cells
  pub lines : rows ≤ flat.lines.capacity
