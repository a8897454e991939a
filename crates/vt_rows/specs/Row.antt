-- Rows: the cells of a row, and whether it is wrapped (its text continues on the next row).
use Rattle.std.specs.Prelude.{◌≡◌, ℕ, ◌&&◌, ◌==◌, not, Bool, true, false, List, [], ◌∷◌, length, All, if◌then◌else◌}
use Rattle.std.specs.List.{list_all}
use Rattle.vt_cells.specs.Cell.{CellValue, IsCell, is_default_blank}
use Rattle.vt_cells.specs.Attrs.{Attrs}
use Rattle.vt_rows.specs.Cells.{IsPaired, blanks, ends_blank, cells_after_insert, cells_after_delete, cells_after_resize}

-- The value of a row: its cells, and whether the row is wrapped.
pub record RowValue : Type 0 where
  pub cells : List CellValue
  pub wrapped : Bool

-- A row of blanks with the given attributes and width. The row is not wrapped.
abbrev pub blank_row : Attrs → ℕ → RowValue
blank_row attrs width = record { cells = blanks attrs width; wrapped = false }

-- The row with its cells replaced by the given cells, as when text is printed or erased. The wrapped flag is cleared if
-- the last cell is now a blank.
abbrev pub with_cells : RowValue → List CellValue → RowValue
with_cells row cells = record { cells = cells; wrapped = row.wrapped && not (ends_blank cells) }

-- The row is valid: it has `width` columns, wide glyphs and continuation cells occur only in pairs, the row is not
-- wrapped if its last column is blank, and its cells are valid.
pub record IsRow (width : ℕ) (row : RowValue) : Type 0 where
  pub columns : length row.cells ≡ width
  pub paired : IsPaired row.cells
  pub flagged : row.wrapped ≡ true → ends_blank row.cells ≡ false
  pub sound : All IsCell row.cells

-- `inserted_row c n row` is the row after `n` default blanks are inserted at column `c` (ICH); its wrapped flag is
-- cleared.
abbrev pub inserted_row : ℕ → ℕ → RowValue → RowValue
inserted_row c n row = record { cells = cells_after_insert c n row.cells; wrapped = false }

-- `deleted_row c n row` is the row after `n` columns, starting at column `c`, are deleted (DCH); its wrapped flag is
-- cleared.
abbrev pub deleted_row : ℕ → ℕ → RowValue → RowValue
deleted_row c n row = record { cells = cells_after_delete c n row.cells; wrapped = false }

-- The row, truncated or extended with default blanks to the given number of columns. The wrapped flag is cleared if the
-- row's width changes.
abbrev pub resized_row : ℕ → RowValue → RowValue
resized_row n row = record { cells = cells_after_resize n row.cells; wrapped = row.wrapped && (length row.cells == n) }

-- The cells without their trailing default blanks.
abbrev pub cells_without_end : List CellValue → List CellValue
cells_without_end [] = []
cells_without_end (cell ∷ cells) = if list_all is_default_blank (cell ∷ cells) then [] else cell ∷ cells_without_end cells

-- The row without its trailing default blanks.
abbrev pub trimmed_row : RowValue → RowValue
trimmed_row row = record { cells = cells_without_end row.cells; wrapped = row.wrapped }
