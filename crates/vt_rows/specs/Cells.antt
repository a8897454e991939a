-- The cells of a row, indexed by column, and the edits to rows.
use Rattle.std.specs.Prelude.{◌≡◌, ℕ, ◌+◌, ◌-◌, ◌&&◌, ◌==◌, nat_lt, not, Bool, true, false, List, [], ◌∷◌, ◌++◌}
use Rattle.std.specs.Prelude.{length, take, drop, replicate, map, slice_index_or, slice_set, if◌then◌else◌}
use Rattle.std.specs.List.{range_with_len}
use Rattle.vt_cells.specs.Cell.{CellValue, blank, glyph, right_half, default_blank, is_wide}
use Rattle.vt_cells.specs.Cell.{is_blank, is_right_half, attrs_of, cell_with_mark, cell_made_wide}
use Rattle.vt_cells.specs.Attrs.{Attrs}

-- The cell at a column, or a default blank if the column is past the end.
abbrev pub at : List CellValue → ℕ → CellValue
at cells k = slice_index_or cells k default_blank

-- `by_column n f` is the row of `n` cells whose cell at column `k` is `f k`.
abbrev pub by_column : ℕ → (ℕ → CellValue) → List CellValue
by_column n f = map f (range_with_len 0 n)

-- Every wide glyph is followed by its continuation cell, and every continuation cell follows a wide glyph.
pub record IsPaired (cells : List CellValue) : Type 0 where
  pub halves : (k : ℕ) → is_wide (at cells k) ≡ is_right_half (at cells (k + 1))
  pub first : is_right_half (at cells 0) ≡ false

-- The last cell of the row is a blank, or the row has no cells.
abbrev pub ends_blank : List CellValue → Bool
ends_blank cells = is_blank (at cells (length cells - 1))

-- A list of blanks with the given attributes and length.
abbrev pub blanks : Attrs → ℕ → List CellValue
blanks attrs n = replicate n (blank attrs)

-- ---- Edits that replace columns

-- The cell itself, or a blank with the same attributes if the cell is the first cell of a wide glyph.
abbrev pub cell_cut_from_right_half : CellValue → CellValue
cell_cut_from_right_half (glyph text true attrs) = blank attrs
cell_cut_from_right_half (glyph text false attrs) = glyph text false attrs
cell_cut_from_right_half (blank attrs) = blank attrs
cell_cut_from_right_half right_half = right_half

-- The first cells of a row, after the cells to their right are cut off. If the last of the remaining cells is the first
-- cell of a wide glyph, it becomes a blank.
abbrev pub cells_before_cut : List CellValue → List CellValue
cells_before_cut [] = []
cells_before_cut (x ∷ []) = cell_cut_from_right_half x ∷ []
cells_before_cut (x ∷ y ∷ xs) = x ∷ cells_before_cut (y ∷ xs)

-- The last cells of a row, after the cells to their left are cut off. If the first of the remaining cells is a
-- continuation cell, it becomes the given cell.
abbrev pub cells_after_cut : CellValue → List CellValue → List CellValue
cells_after_cut orphan [] = []
cells_after_cut orphan (right_half ∷ xs) = orphan ∷ xs
cells_after_cut orphan (blank attrs ∷ xs) = blank attrs ∷ xs
cells_after_cut orphan (glyph text wide attrs ∷ xs) = glyph text wide attrs ∷ xs

-- `put_cells c orphan new n cells` is the row `cells` after `n` cells, starting at column `c`, are replaced by the
-- cells `new`. A wide glyph that loses its continuation cell becomes a blank, and a continuation cell that loses its
-- wide glyph becomes `orphan`.
unfoldable pub put_cells : ℕ → CellValue → List CellValue → ℕ → List CellValue → List CellValue
put_cells c orphan new n cells = cells_before_cut (take c cells) ++ (new ++ cells_after_cut orphan (drop n (drop c cells)))

-- `column_of c n orphan new cells k` is the cell at column `k` of `put_cells c orphan new n cells`, in terms of the old
-- cells.
abbrev pub column_of : ℕ → ℕ → CellValue → List CellValue → List CellValue → ℕ → CellValue
column_of c n orphan new cells k =
    if nat_lt k c then (if (k + 1 == c) && is_wide (at cells k) then blank (attrs_of (at cells k)) else at cells k)
    else if nat_lt k (c + n) then at new (k - c)
    else if (k == c + n) && is_right_half (at cells k) then orphan
    else at cells k

-- `put_narrow c text attrs cells` is the row `cells` after a narrow glyph is written at column `c`. An old wide glyph
-- that loses its continuation cell becomes a blank with its own attributes. A continuation cell that loses its wide
-- glyph becomes a space with the attributes of the new glyph.
abbrev pub put_narrow : ℕ → List ℕ → Attrs → List CellValue → List CellValue
put_narrow c text attrs cells = put_cells c (glyph (0x20 ∷ []) false attrs) (glyph text false attrs ∷ []) 1 cells

-- `put_wide c text attrs cells` is the row `cells` after a wide glyph is written at columns `c` and `c + 1`. An old
-- wide glyph that loses its continuation cell becomes a blank with its own attributes. An old continuation cell that
-- loses its wide glyph becomes a blank with the attributes of the new glyph.
abbrev pub put_wide : ℕ → List ℕ → Attrs → List CellValue → List CellValue
put_wide c text attrs cells = put_cells c (blank attrs) (glyph text true attrs ∷ right_half ∷ []) 2 cells

-- `cells_after_erase c n attrs cells` is the row `cells` after `n` columns, starting at column `c`, are erased. If only
-- one cell of a wide glyph is erased, the other cell becomes a blank: a remaining first cell keeps the glyph's
-- attributes, and a remaining continuation cell gets default attributes.
abbrev pub cells_after_erase : ℕ → ℕ → Attrs → List CellValue → List CellValue
cells_after_erase c n attrs cells = put_cells c default_blank (blanks attrs n) n cells

-- `marked_at k mark cells` is the row `cells` after the combining character `mark` is added to the cell at column `k`.
-- The width of this cell is unchanged.
abbrev pub marked_at : ℕ → ℕ → List CellValue → List CellValue
marked_at k mark cells = slice_set cells k (cell_with_mark mark (at cells k))

-- `widened_at k attrs cells` is the row `cells` after the narrow glyph at column `k` becomes wide. If its continuation
-- cell overwrites the first cell of another wide glyph, that glyph's own continuation cell becomes a blank with
-- attributes `attrs`.
abbrev pub widened_at : ℕ → Attrs → List CellValue → List CellValue
widened_at k attrs cells = put_cells k (blank attrs) (cell_made_wide true (at cells k) ∷ right_half ∷ []) 2 cells

-- `narrowed_at k attrs cells` is the row `cells` after the wide glyph at column `k` becomes narrow. The glyph's
-- continuation cell becomes a space with attributes `attrs`.
abbrev pub narrowed_at : ℕ → Attrs → List CellValue → List CellValue
narrowed_at k attrs cells = put_cells k (glyph (0x20 ∷ []) false attrs) (cell_made_wide false (at cells k) ∷ []) 1 cells

-- ---- Moves of columns: column `k` is the former column `source k`, or a default blank if that index is past the end

-- `moved_at n source cells k` is column `k` of the row of `n` columns that results from moving the columns of `cells`:
-- the cell that was at column `source k`, or a default blank if that column is past the end. A cell that is no longer
-- next to the other cell of its wide glyph becomes a blank with the cell's own attributes.
abbrev pub moved_at : ℕ → (ℕ → ℕ) → List CellValue → ℕ → CellValue
moved_at n source cells k =
    if is_wide (at cells (source k)) && not (nat_lt (k + 1) n && (source (k + 1) == source k + 1))
    then blank (attrs_of (at cells (source k)))
    else if is_right_half (at cells (source k)) && not (source k == source (k - 1) + 1) then default_blank
    else at cells (source k)

-- `cells_after_move n source cells` is the row of `n` columns whose column `k` holds the cell that was at column
-- `source k` of `cells`, or a default blank if that column is past the end. A cell that is no longer next to the other
-- cell of its wide glyph becomes a blank.
unfoldable pub cells_after_move : ℕ → (ℕ → ℕ) → List CellValue → List CellValue
cells_after_move n source cells = by_column n (moved_at n source cells)

-- The column at which blanks are inserted: the given column, or the next one if the given column holds a continuation
-- cell.
abbrev pub insert_column : ℕ → List CellValue → ℕ
insert_column c cells = if is_right_half (at cells c) then c + 1 else c

-- `insert_source past c n k` is the index that column `k` had before `n` columns were inserted at column `c`. For an
-- inserted column, the result is `past`, an index past the end of the row.
abbrev pub insert_source : ℕ → ℕ → ℕ → ℕ → ℕ
insert_source past c n k = if nat_lt k c then k else if nat_lt k (c + n) then past else k - n

-- `delete_source c n k` is the index that column `k` had before `n` columns were deleted at column `c`.
abbrev pub delete_source : ℕ → ℕ → ℕ → ℕ
delete_source c n k = if nat_lt k c then k else k + n

-- `cells_after_insert c n cells` is the row `cells` after `n` default blanks are inserted at column `c` (ICH), or at
-- the next column if column `c` holds a continuation cell. Cells that are pushed past the end are lost; a wide glyph
-- that loses its continuation cell becomes a blank.
unfoldable pub cells_after_insert : ℕ → ℕ → List CellValue → List CellValue
cells_after_insert c n cells = cells_after_move (length cells) (insert_source (length cells) (insert_column c cells) n) cells

-- `cells_after_delete c n cells` is the row `cells` after `n` columns, starting at column `c`, are deleted (DCH). If
-- only one cell of a wide glyph is deleted, the other cell becomes a blank. Default blanks fill the end of the row.
unfoldable pub cells_after_delete : ℕ → ℕ → List CellValue → List CellValue
cells_after_delete c n cells = cells_after_move (length cells) (delete_source c n) cells

-- The cells of a row, truncated or extended with default blanks to the given number of columns. A wide glyph that loses
-- its continuation cell becomes a blank.
unfoldable pub cells_after_resize : ℕ → List CellValue → List CellValue
cells_after_resize n cells = cells_after_move n (λ k. k) cells
