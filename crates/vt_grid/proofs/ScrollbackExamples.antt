-- The definitions of scrollback and of resizes, computed on small pages.
use Rattle.std.proofs.Common.{◌≡◌, ℕ, Bool, true, false, List, [], ◌∷◌, refl}
use Rattle.vt_cells.specs.Attrs.{default_attrs, same_attrs, same_color}
use Rattle.vt_cells.specs.Cell.{CellValue, glyph, right_half, default_blank}
use Rattle.vt_rows.specs.Cells.{cells_after_move, cells_after_resize}
use Rattle.vt_rows.specs.Row.{RowValue}
use Rattle.vt_grid.specs.Scrollback.{Scrollback, kept_after, grown_in_view, scrollback_after_push, rows_reported}
use Rattle.vt_grid.specs.Scrollback.{with_view, visible, no_scrollback}
use Rattle.vt_grid.specs.Page.{Page}
use Rattle.vt_grid.specs.Resize.{window, page_resized, scrollback_resized, resize_reports}

-- ==== The definitions of scrollback, computed on a few rows.

-- The narrow glyph of a letter.
abbrev n : ℕ → CellValue
n c = glyph (c ∷ []) false default_attrs

abbrev w : ℕ → CellValue
w c = glyph (c ∷ []) true default_attrs

abbrev row : List CellValue → Bool → RowValue
row cells wrapped = record { cells = cells; wrapped = wrapped }

abbrev one : ℕ → RowValue
one c = row (n c ∷ []) false

abbrev two : ℕ → RowValue
two c = row (n c ∷ default_blank ∷ []) false

abbrev above : List RowValue → (capacity theoretical offset : ℕ) → Scrollback
above rows capacity theoretical offset =
    record { rows = rows; capacity = capacity; theoretical = theoretical; offset = offset }

-- With a capacity of one row, the old row and the first of two new rows are not kept.
one_is_kept : scrollback_after_push 5 2 (two 1 ∷ two 2 ∷ []) (above (one 26 ∷ []) 1 1 0) ≡ above (one 2 ∷ []) 1 3 0
unfolding kept_after grown_in_view same_attrs same_color
one_is_kept = refl

older_first : rows_reported (two 1 ∷ two 2 ∷ []) (above (one 26 ∷ []) 1 1 0) ≡ one 26 ∷ one 1 ∷ []
unfolding same_attrs same_color
older_first = refl

-- With a capacity of 0, all rows are reported and counted.
none_is_kept : scrollback_after_push 5 2 (two 1 ∷ two 2 ∷ []) (above [] 0 7 0) ≡ above [] 0 9 0
unfolding kept_after grown_in_view
none_is_kept = refl

all_are_reported : rows_reported (two 1 ∷ two 2 ∷ []) (above [] 0 7 0) ≡ one 1 ∷ one 2 ∷ []
unfolding same_attrs same_color
all_are_reported = refl

-- If no row scrolls off, nothing changes.
nothing_left : scrollback_after_push 5 3 [] (above (one 26 ∷ []) 1 1 1) ≡ above (one 26 ∷ []) 1 1 1
nothing_left = refl

-- A displayed row stays displayed when another row is appended, and both are as wide as the page.
view_follows : scrollback_after_push 5 2 (two 1 ∷ []) (above (two 26 ∷ []) 10 1 1) ≡ above (two 26 ∷ two 1 ∷ []) 10 2 2
unfolding kept_after grown_in_view cells_after_resize cells_after_move same_attrs same_color
view_follows = refl

-- On a page of one row, an appended row is below the displayed one, and is kept without its trailing blanks.
below_the_view : scrollback_after_push 1 2 (two 1 ∷ []) (above (one 26 ∷ []) 10 1 1) ≡ above (two 26 ∷ one 1 ∷ []) 10 2 2
unfolding kept_after grown_in_view cells_after_resize cells_after_move same_attrs same_color
below_the_view = refl

-- If a full scrollback is displayed from its first row, appending a row discards that first row.
view_at_its_end : scrollback_after_push 5 2 (two 1 ∷ []) (above (two 26 ∷ two 27 ∷ []) 2 2 2) ≡ above (two 27 ∷ two 1 ∷ []) 2 3 2
unfolding kept_after grown_in_view cells_after_resize cells_after_move same_attrs same_color
view_at_its_end = refl

-- A wrapped scrollback row that is extended to a wider screen is no longer wrapped.
goes_on_no_more : with_view 5 3 1 (above (row (n 1 ∷ n 2 ∷ []) true ∷ []) 4 1 0)
    ≡ above (row (n 1 ∷ n 2 ∷ default_blank ∷ []) false ∷ []) 4 1 1
unfolding with_view grown_in_view cells_after_resize cells_after_move
goes_on_no_more = refl

-- An offset beyond the number of scrollback rows displays all of them, and truncates none.
at_most_all : with_view 5 1 9 (above (one 1 ∷ row (w 2 ∷ right_half ∷ []) false ∷ []) 4 2 0)
    ≡ above (one 1 ∷ row (w 2 ∷ right_half ∷ []) false ∷ []) 4 2 2
unfolding with_view grown_in_view
at_most_all = refl

-- The newest scrollback rows, as many as the offset, are displayed above the rows of the page.
shown_above : visible (above (one 1 ∷ one 2 ∷ one 3 ∷ []) 4 3 2) (two 7 ∷ two 8 ∷ two 9 ∷ [])
    ≡ one 2 ∷ one 3 ∷ two 7 ∷ []
shown_above = refl

-- If the offset is greater than the height of the page, only the upper of the scrollback rows that it selects are
-- displayed.
shown_far_above : visible (above (one 1 ∷ one 2 ∷ one 3 ∷ []) 4 3 3) (two 7 ∷ two 8 ∷ []) ≡ one 1 ∷ one 2 ∷ []
shown_far_above = refl

-- ==== The definitions of a resize, computed on small pages.

-- A row of four columns that begins with a letter.
abbrev four : ℕ → RowValue
four c = row (n c ∷ default_blank ∷ default_blank ∷ default_blank ∷ []) false

abbrev none : RowValue
none = row (default_blank ∷ default_blank ∷ default_blank ∷ default_blank ∷ []) false

-- A page with the given cursor, saved cursor and scroll region.
abbrev page : List RowValue → (row column saved_row saved_column top bottom width : ℕ) → Page
page rows row column saved_row saved_column top bottom width = record {
  rows = rows;
  row = row;
  column = column;
  saved_row = saved_row;
  saved_column = saved_column;
  top = top;
  bottom = bottom;
  origin = true;
  saved_origin = false;
  width = width;
}

-- Two rows come back, of which the older one was not kept and is blank; the last row of the new page is blank too.
more_rows : page_resized 5 4 (above (one 2 ∷ []) 1 2 0) (page (four 3 ∷ four 4 ∷ []) 1 1 0 2 0 1 4)
    ≡ page (none ∷ four 2 ∷ four 3 ∷ four 4 ∷ none ∷ []) 3 1 2 2 0 4 4
unfolding page_resized window cells_after_resize cells_after_move
more_rows = refl

both_came_back : scrollback_resized 5 (page (four 3 ∷ four 4 ∷ []) 1 1 0 2 0 1 4) (above (one 2 ∷ []) 1 2 1)
    ≡ above [] 1 0 0
unfolding scrollback_resized
both_came_back = refl

-- If there is room for only one of three rows that scrolled off, the newest comes back.
one_came_back : page_resized 3 1 (above (one 1 ∷ one 2 ∷ []) 2 3 0) (page (one 3 ∷ one 4 ∷ []) 0 0 1 0 0 1 1)
    ≡ page (one 2 ∷ one 3 ∷ one 4 ∷ []) 1 0 2 0 0 2 1
unfolding page_resized window cells_after_resize cells_after_move
one_came_back = refl

two_are_left : scrollback_resized 3 (page (one 3 ∷ one 4 ∷ []) 0 0 1 0 0 1 1) (above (one 1 ∷ one 2 ∷ []) 2 3 0)
    ≡ above (one 1 ∷ []) 2 2 0
unfolding scrollback_resized
two_are_left = refl

-- If no row is below the cursor, the first row scrolls off; the scroll region becomes the whole page.
first_leaves : page_resized 2 4 (no_scrollback 0) (page (four 1 ∷ four 2 ∷ four 3 ∷ []) 2 1 1 0 1 2 4)
    ≡ page (four 2 ∷ four 3 ∷ []) 1 1 0 0 0 1 4
unfolding page_resized window cells_after_resize cells_after_move
first_leaves = refl

first_is_reported : resize_reports 2 (page (four 1 ∷ four 2 ∷ four 3 ∷ []) 2 1 1 0 1 2 4) (no_scrollback 0) ≡ one 1 ∷ []
unfolding same_attrs same_color
first_is_reported = refl

first_counts : scrollback_resized 2 (page (four 1 ∷ four 2 ∷ four 3 ∷ []) 2 1 1 0 1 2 4) (no_scrollback 0)
    ≡ above [] 0 1 0
unfolding scrollback_resized kept_after grown_in_view same_attrs same_color
first_counts = refl

-- Rows below the cursor are dropped first, and none scrolls off; a saved cursor in a dropped row moves to the last row.
last_goes : page_resized 2 4 (no_scrollback 0) (page (four 1 ∷ four 2 ∷ four 3 ∷ []) 0 0 2 3 0 2 4)
    ≡ page (four 1 ∷ four 2 ∷ []) 0 0 1 3 0 1 4
unfolding page_resized window cells_after_resize cells_after_move
last_goes = refl

none_is_reported : resize_reports 2 (page (four 1 ∷ four 2 ∷ four 3 ∷ []) 0 0 2 3 0 2 4) (no_scrollback 0) ≡ []
none_is_reported = refl

-- One row below the cursor is dropped, and one more scrolls off; a saved cursor in that row stays in the first row.
both_ends : page_resized 1 4 (no_scrollback 1) (page (four 1 ∷ four 2 ∷ four 3 ∷ []) 1 0 0 0 0 2 4)
    ≡ page (four 2 ∷ []) 0 0 0 0 0 0 4
unfolding page_resized window cells_after_resize cells_after_move
both_ends = refl

-- A wide glyph that is cut leaves a blank, no row stays wrapped, and the cursors stay on the page.
cut : page_resized 2 3 (no_scrollback 0)
    (page (row (n 1 ∷ n 2 ∷ w 3 ∷ right_half ∷ []) true ∷ four 4 ∷ []) 0 4 1 3 0 1 4)
    ≡ page (row (n 1 ∷ n 2 ∷ default_blank ∷ []) false ∷ row (n 4 ∷ default_blank ∷ default_blank ∷ []) false ∷ [])
    0 2 1 2 0 1 3
unfolding page_resized window cells_after_resize cells_after_move
cut = refl

-- On a wider page no row stays wrapped, and a pending wrap becomes a column of the page.
grown : page_resized 2 5 (no_scrollback 0) (page (row (n 1 ∷ n 2 ∷ n 3 ∷ n 4 ∷ []) true ∷ four 4 ∷ []) 0 4 1 3 0 1 4)
    ≡ page (row (n 1 ∷ n 2 ∷ n 3 ∷ n 4 ∷ default_blank ∷ []) false
    ∷ row (n 4 ∷ default_blank ∷ default_blank ∷ default_blank ∷ default_blank ∷ []) false ∷ [])
    0 4 1 3 0 1 5
unfolding page_resized window cells_after_resize cells_after_move
grown = refl

-- With the same width a row stays wrapped, except for the last one.
last_flag_falls : page_resized 2 1 (no_scrollback 0)
    (page (row (n 1 ∷ []) true ∷ row (n 2 ∷ []) true ∷ one 3 ∷ []) 0 1 0 0 0 2 1)
    ≡ page (row (n 1 ∷ []) true ∷ one 2 ∷ []) 0 0 0 0 0 1 1
unfolding page_resized window cells_after_resize cells_after_move
last_flag_falls = refl
