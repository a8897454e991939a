-- Operations on a page, and movements of the cursor, leave a valid page.
use Rattle.std.proofs.Common.{◌≡◌, ℕ, ◌+◌, ◌-◌, ◌<◌, ◌≤◌, ◌^◌, ◌==◌, ◌&&◌, ◌⊎◌, nat_lt, min, not, Bool, true, false}
use Rattle.std.proofs.Common.{List, ◌++◌, length, take, get_or, set, replicate, refl, inl, inr, sym, ap, subst, ◌∙◌}
use Rattle.std.proofs.Common.{arith}
use Rattle.std.specs.Prelude.{◌||◌, if◌then◌else◌, All}
use Rattle.std.proofs.lemmas.Bool.{cases_lt, cases_eq, ltb-true}
use Rattle.std.proofs.lemmas.Bool.Decides.{nat_tests}
use Rattle.std.proofs.lemmas.Grind.{get_or-set_at}
use Rattle.std.proofs.lemmas.List.{get_or_past, get_or-take, get_or_append_left, get_or-append_right, get_or-set_other}
use Rattle.std.proofs.lemmas.List.{get_or-replicate, length-append, length-take, length-set, length-replicate}
use Rattle.std.proofs.lemmas.List.FromFn.{length-map-range_with_len, get_or-map-range_with_len}
use Rattle.std.proofs.lemmas.List.Elements.{All-set, All-get_or, All-from_get_or, All-append, All-take, All-replicate}
use Rattle.vt_cells.specs.Attrs.{default_attrs, Attrs}
use Rattle.vt_cells.specs.Cell.{CellValue}
use Rattle.vt_rows.specs.Cells.{IsPaired, ends_blank}
use Rattle.vt_rows.specs.Row.{RowValue, IsRow, blank_row, with_cells}
use Rattle.vt_rows.proofs.Rows.{IsRow-blank_row, IsRow-erased}
use Rattle.vt_grid.specs.Page.{Page, IsPage, row_or, row_at, cursor_row, with_row, blank_page, moved_rows, up_source}
use Rattle.vt_grid.specs.Page.{rows_up, scrolled_up}
use Rattle.vt_grid.specs.Moves.{at_bottom, line_feed, cursor_saved, cursor_restored, lower_edge, moved, origin_set}
use Rattle.vt_grid.specs.Moves.{position_after, target_row, upper_edge}
use Rattle.vt_grid.specs.Erasing.{erased_columns, erased_chars, erased_rest, blanked_below, erased_below}
use Rattle.vt_grid.specs.Printing.{with_cursor_cells}
use Rattle.vt_grid.specs.Regions.{in_region, last_row, region_set}
use Rattle.vt_grid.specs.declared.grid.moves.CursorMove.{CursorMove}
use Rattle.vt_grid.specs.declared.grid.moves.CursorMove.TheVariants.{Return, To}

-- ==== Every operation on a page leaves a valid page.

-- ---- The cursor, and the rows

pub page_at : (row column : ℕ) (page : Page) → row < length page.rows →
    column ≤ page.width → IsPage page → IsPage (record page { row = row; column = column })
page_at row column page r c p = record {
  has_columns = p.has_columns;
  columns = p.columns;
  height = p.height;
  cursor_row = r;
  cursor_column = c;
  saved_row = p.saved_row;
  saved_column = p.saved_column;
  region = p.region;
  region_end = p.region_end;
  rows = p.rows;
  last = p.last;
}

same_region : (top bottom n m : ℕ) → n ≡ m → (top < bottom) ⊎ ((top ≡ 0) × (bottom + 1 ≡ m)) →
    (top < bottom) ⊎ ((top ≡ 0) × (bottom + 1 ≡ n))
same_region top bottom n m e (inl h) = inl h
same_region top bottom n m e (inr h) = inr (h.0, h.1 ∙ sym e)

pub page_of_rows : (rows : List RowValue) (page : Page) → length rows ≡ length page.rows → All (IsRow page.width) rows →
    (row_or page.width rows (length page.rows - 1)).wrapped ≡ false → IsPage page → IsPage (record page { rows = rows })
page_of_rows rows page e sound last p = record {
  has_columns = p.has_columns;
  columns = p.columns;
  height = rw e p.height;
  cursor_row = rw e p.cursor_row;
  cursor_column = p.cursor_column;
  saved_row = rw e p.saved_row;
  saved_column = p.saved_column;
  region = same_region page.top page.bottom (length rows) (length page.rows) e p.region;
  region_end = rw e p.region_end;
  rows = sound;
  last = rw e last;
}

pub page_cursor_saved : (page : Page) → IsPage page → IsPage (cursor_saved page)
page_cursor_saved page p = record {
  has_columns = p.has_columns;
  columns = p.columns;
  height = p.height;
  cursor_row = p.cursor_row;
  cursor_column = p.cursor_column;
  saved_row = p.cursor_row;
  saved_column = p.cursor_column;
  region = p.region;
  region_end = p.region_end;
  rows = p.rows;
  last = p.last;
}

pub page_cursor_restored : (page : Page) → IsPage page → IsPage (cursor_restored page)
page_cursor_restored page p = record {
  has_columns = p.has_columns;
  columns = p.columns;
  height = p.height;
  cursor_row = p.saved_row;
  cursor_column = p.saved_column;
  saved_row = p.saved_row;
  saved_column = p.saved_column;
  region = p.region;
  region_end = p.region_end;
  rows = p.rows;
  last = p.last;
}

-- ---- One row

set_last : (rows : List RowValue) (r : ℕ) (row d : RowValue) → r < length rows →
    (r + 1 ≡ length rows → row.wrapped ≡ false) → (get_or rows (length rows - 1) d).wrapped ≡ false →
    (get_or (set rows r row) (length rows - 1) d).wrapped ≡ false
set_last rows r row d h new old = elim (cases_eq r (length rows - 1)) [
  | inl e ↦ rw (get_or-set_at rows r (length rows - 1) row d (sym e) h) (new (omega arith))
  | inr ne ↦ rw (get_or-set_other rows r (length rows - 1) row d (λ e. ne (sym e))) old
]

pub page_with_row : (r : ℕ) (row : RowValue) (page : Page) → r < length page.rows → IsPage page →
    IsRow page.width row → (r + 1 ≡ length page.rows → row.wrapped ≡ false) → IsPage (with_row r row page)
page_with_row r row page h p sound last =
    page_of_rows (set page.rows r row) page (length-set page.rows r row)
    (All-set (IsRow page.width) page.rows r row sound p.rows)
    (set_last page.rows r row (blank_row default_attrs page.width) h last p.last) p

pub IsRow-row_or : (width : ℕ) (rows : List RowValue) (r : ℕ) →
    All (IsRow width) rows → IsRow width (row_or width rows r)
IsRow-row_or width rows r h = elim (cases_lt r (length rows)) [
  | inl lt ↦ All-get_or (IsRow width) rows r (blank_row default_attrs width) lt h
  | inr ge ↦
      subst (IsRow width) (sym (get_or_past rows r (blank_row default_attrs width) ge))
      (IsRow-blank_row default_attrs width)
]

pub IsRow-cursor_row : (page : Page) → IsPage page → IsRow page.width (cursor_row page)
IsRow-cursor_row page p = IsRow-row_or page.width page.rows page.row p.rows

pub cursor_paired : (page : Page) → IsPage page → IsPaired (cursor_row page).cells
cursor_paired page p = let row = IsRow-cursor_row page p in row.paired

pub cursor_columns : (page : Page) → IsPage page → length (cursor_row page).cells ≡ page.width
cursor_columns page p = let row = IsRow-cursor_row page p in row.columns

-- If the cursor's row is the last one, it is not wrapped.
pub last_unwrapped : (page : Page) → IsPage page → page.row + 1 ≡ length page.rows → (cursor_row page).wrapped ≡ false
last_unwrapped page p e =
    let i : page.row ≡ length page.rows - 1 = omega arith in
    ap (λ (r : ℕ). (row_at page r).wrapped) i ∙ p.last

pub page_cursor_cells : (cells : List CellValue) (page : Page) → IsPage page →
    IsRow page.width (with_cells (cursor_row page) cells) → IsPage (with_cursor_cells cells page)
page_cursor_cells cells page p sound =
    page_with_row page.row (with_cells (cursor_row page) cells) page p.cursor_row p
    sound (λ e. ap (λ (w : Bool). w && not (ends_blank cells)) (last_unwrapped page p e))

pub page_if : (b : Bool) (x y : Page) → (b ≡ true → IsPage x) → (b ≡ false → IsPage y) → IsPage (if b then x else y)
page_if true x y f g = f refl
page_if false x y f g = g refl

-- ---- Rows that move

pub length-moved_rows : (width : ℕ) (source : ℕ → ℕ) (rows : List RowValue) →
    length (moved_rows width source rows) ≡ length rows
unfolding moved_rows
length-moved_rows width source rows = length-map-range_with_len (λ r. row_or width rows (source r)) 0 (length rows)

pub row_or-moved_rows : (width : ℕ) (source : ℕ → ℕ) (rows : List RowValue) (r : ℕ) →
    r < length rows → row_or width (moved_rows width source rows) r ≡ row_or width rows (source r)
unfolding moved_rows
row_or-moved_rows width source rows r h =
    get_or-map-range_with_len (λ r. row_or width rows (source r)) 0
    (length rows) r r (blank_row default_attrs width) h (omega arith)

pub All-moved_rows : (width : ℕ) (source : ℕ → ℕ) (rows : List RowValue) →
    All (IsRow width) rows → All (IsRow width) (moved_rows width source rows)
All-moved_rows width source rows h =
    All-from_get_or (IsRow width) (moved_rows width source rows) (blank_row default_attrs width) (λ r lt.
    let i : r < length rows = omega (arith, length-moved_rows width source rows) in
    subst (IsRow width) (sym (row_or-moved_rows width source rows r i)) (IsRow-row_or width rows (source r) h))

-- When rows scroll up, the last row of the page either stays, because it is below the region, or becomes blank.
up_last : (height top bottom n : ℕ) → bottom < height →
    (up_source height top bottom n (height - 1) ≡ height - 1) ⊎ (up_source height top bottom n (height - 1) ≡ height)
up_last height top bottom n h = elim (cases_eq (up_source height top bottom n (height - 1)) (height - 1)) [
  | inl e ↦ inl e
  | inr ne ↦ inr (grind (arith, nat_tests))
]

pub page_rows_up : (top bottom n : ℕ) (page : Page) → bottom < length page.rows →
    IsPage page → IsPage (record page { rows = rows_up page.width top bottom n page.rows })
page_rows_up top bottom n page h p =
    let height = length page.rows in
    let source = up_source height top bottom n in
    let lt : height - 1 < height = omega (arith, p.cursor_row) in
    let moved = row_or-moved_rows page.width source page.rows (height - 1) lt in
    let last : (row_or page.width page.rows (source (height - 1))).wrapped ≡ false =
    elim (up_last height top bottom n h) [
      | inl e ↦ ap (λ (r : ℕ). (row_or page.width page.rows r).wrapped) e ∙ p.last
      | inr e ↦
          ap (λ (r : ℕ). (row_or page.width page.rows r).wrapped) e
          ∙ ap (λ (row : RowValue). row.wrapped)
          (get_or_past page.rows height (blank_row default_attrs page.width) (omega arith))
    ] in
    page_of_rows (rows_up page.width top bottom n page.rows) page
    (length-moved_rows page.width source page.rows) (All-moved_rows page.width source page.rows p.rows)
    (ap (λ (row : RowValue). row.wrapped) moved ∙ last) p

pub page_scrolled_up : (n : ℕ) (page : Page) → IsPage page → IsPage (scrolled_up n page)
page_scrolled_up n page p = page_rows_up page.top page.bottom n page p.region_end p

pub page_line_feed : (page : Page) → IsPage page → IsPage (line_feed page)
unfolding line_feed
page_line_feed page p =
    page_if (at_bottom page) (scrolled_up 1 page)
    (if nat_lt (page.row + 1) (length page.rows) then record page { row = page.row + 1 } else page)
    (λ e. page_scrolled_up 1 page p) (λ e.
    page_if (nat_lt (page.row + 1) (length page.rows)) (record page { row = page.row + 1 }) page
    (λ t. page_at (page.row + 1) page.column page (ltb-true (page.row + 1) (length page.rows) t) p.cursor_column p)
    (λ f. p))

-- ---- Erasing

pub page_erased_columns : (c n : ℕ) (attrs : Attrs) (page : Page) →
    c + n ≤ page.width → IsPage page → IsPage (erased_columns c n attrs page)
page_erased_columns c n attrs page h p =
    page_cursor_cells _ page p (IsRow-erased page.width (cursor_row page) c n attrs h (IsRow-cursor_row page p))

pub page_erased_chars : (n : ℕ) (attrs : Attrs) (page : Page) → IsPage page → IsPage (erased_chars n attrs page)
unfolding erased_chars
page_erased_chars n attrs page p =
    let h = p.cursor_column in
    page_if ((n == 0) || (page.column == page.width)) page
    (erased_columns page.column (min n (page.width - page.column)) attrs page) (λ e. p)
    (λ e. page_erased_columns page.column (min n (page.width - page.column)) attrs page (omega arith) p)

pub page_erased_rest : (attrs : Attrs) (page : Page) → IsPage page → IsPage (erased_rest attrs page)
unfolding erased_rest
page_erased_rest attrs page p =
    let h = p.cursor_column in
    page_if (page.column == page.width) page (erased_columns page.column (page.width - page.column) attrs page)
    (λ e. p) (λ e. page_erased_columns page.column (page.width - page.column) attrs page (omega arith) p)

blanked_last : (rows : List RowValue) (r : ℕ) (blank d : RowValue) → r < length rows →
    blank.wrapped ≡ false → (get_or rows (length rows - 1) d).wrapped ≡ false →
    (get_or (take (r + 1) rows ++ replicate (length rows - (r + 1)) blank) (length rows - 1) d).wrapped ≡ false
blanked_last rows r blank d h b old = elim (cases_eq (r + 1) (length rows)) [
  | inl e ↦
      rw (
        get_or_append_left (take (r + 1) rows) (replicate (length rows - (r + 1)) blank)
            d (length rows - 1) (omega (arith, length-take (r + 1) rows)),
        get_or-take (r + 1) rows (length rows - 1) d (omega arith),
      ) old
  | inr ne ↦
      rw (
        get_or-append_right (take (r + 1) rows) (replicate (length rows - (r + 1)) blank)
            (r + 1) (length rows - 1) d (omega (arith, length-take (r + 1) rows)) (omega arith),
        get_or-replicate (length rows - (r + 1)) (length rows - 1 - (r + 1)) blank d (omega arith),
      ) b
]

pub page_blanked_below : (attrs : Attrs) (page : Page) → IsPage page → IsPage (blanked_below attrs page)
page_blanked_below attrs page p =
    let h = p.cursor_row in
    let blank = blank_row attrs page.width in
    let below = replicate (length page.rows - (page.row + 1)) blank in
    page_of_rows (take (page.row + 1) page.rows ++ below) page
    (omega (
      arith,
      length-append (take (page.row + 1) page.rows) below,
      length-take (page.row + 1) page.rows,
      length-replicate (length page.rows - (page.row + 1)) blank,
    ))
    (All-append (IsRow page.width) (take (page.row + 1) page.rows)
    below (All-take (IsRow page.width) (page.row + 1) page.rows p.rows)
    (All-replicate (IsRow page.width) (length page.rows - (page.row + 1)) blank (IsRow-blank_row attrs page.width)))
    (blanked_last page.rows page.row blank (blank_row default_attrs page.width) h refl p.last) p

pub page_erased_below : (attrs : Attrs) (page : Page) → IsPage page → IsPage (erased_below attrs page)
unfolding erased_below
page_erased_below attrs page p = page_blanked_below attrs (erased_rest attrs page) (page_erased_rest attrs page p)

-- ---- A new page

pub page_blank : (height width : ℕ) → 0 < height → height < 2 ^ 16 →
    0 < width → width < 2 ^ 16 → IsPage (blank_page height width)
page_blank height width h hh w ww =
    let blank = blank_row default_attrs width in
    let l = length-replicate height blank in
    record {
      has_columns = w;
      columns = ww;
      height = rw l hh;
      cursor_row = rw l h;
      cursor_column = omega arith;
      saved_row = rw l h;
      saved_column = omega arith;
      region = inr (refl, rw l (omega arith));
      region_end = rw l (omega arith);
      rows = All-replicate (IsRow width) height blank (IsRow-blank_row default_attrs width);
      last =
          rw l (ap (λ (row : RowValue). row.wrapped) (get_or-replicate height (height - 1) blank blank (omega arith)));
    }

-- The lemmas on the cells of the cursor's row, for erasures in that row.
pub ruleset cursor_cells = (cursor_paired, cursor_columns)

pub ruleset erasing = (page_erased_chars, page_erased_rest, cursor_cells)

-- ==== Movements of the cursor, and setting the region and origin mode, leave a valid page.

-- ---- The cursor

upper_at : (page : Page) → upper_edge page ≤ page.row
unfolding upper_edge
upper_at page = by_region (in_region page) refl where
  by_region : (b : Bool) → in_region page ≡ b → (if b then page.top else 0) ≤ page.row
  by_region true e = grind (arith, nat_tests)
  by_region false e = omega arith

lower_at : (page : Page) → page.row < length page.rows → page.bottom < length page.rows →
    lower_edge page < length page.rows
unfolding lower_edge
lower_at page row bottom = by_region (in_region page) where
  by_region : (b : Bool) → (if b then page.bottom else last_row page) < length page.rows
  by_region true = bottom
  by_region false = omega (arith, row)

target_at : (r : ℕ) (page : Page) → page.row < length page.rows → page.bottom < length page.rows →
    target_row r page < length page.rows
target_at r page row bottom = by_origin page.origin where
  by_origin : (b : Bool) → (if b then min (page.top + r) page.bottom else min r (last_row page)) < length page.rows
  by_origin true = omega (arith, bottom)
  by_origin false = omega (arith, row)

-- Every movement stays on the page.
pub moved_row : (move : CursorMove) (page : Page) → page.row < length page.rows → page.bottom < length page.rows →
    (position_after move page).0 < length page.rows
moved_row (To r c) page row bottom = target_at r page row bottom
moved_row move page row bottom = omega (arith, row, upper_at page, lower_at page row bottom)

moved_column : (move : CursorMove) (page : Page) → page.column ≤ page.width →
    (position_after move page).1 ≤ page.width
moved_column Return page column = omega arith
moved_column move page column = omega (arith, column)

pub page_moved : (move : CursorMove) (page : Page) → IsPage page → IsPage (moved move page)
page_moved move page p =
    page_at (position_after move page).0 (position_after move page).1 page
    (moved_row move page p.cursor_row p.region_end) (moved_column move page p.cursor_column) p

-- ---- The region and origin mode

pub page_region : (top bottom : ℕ) (page : Page) → bottom < length page.rows →
    (top < bottom) ⊎ ((top ≡ 0) × (bottom + 1 ≡ length page.rows)) → IsPage page →
    IsPage (record page { top = top; bottom = bottom; row = top; column = 0 })
page_region top bottom page inside region p = record {
  has_columns = p.has_columns;
  columns = p.columns;
  height = p.height;
  cursor_row = first region;
  cursor_column = omega arith;
  saved_row = p.saved_row;
  saved_column = p.saved_column;
  region = region;
  region_end = inside;
  rows = p.rows;
  last = p.last;
} where
  first : (top < bottom) ⊎ ((top ≡ 0) × (bottom + 1 ≡ length page.rows)) → top < length page.rows
  first (inl h) = omega arith
  first (inr h) = omega (arith, h.0)

pub page_region_set : (top bottom : ℕ) (page : Page) → IsPage page → IsPage (region_set top bottom page)
unfolding region_set
page_region_set top bottom page p =
    let end = min bottom (last_row page) in
    let h = p.cursor_row in
    page_if (nat_lt top end) (record page { top = top; bottom = end; row = top; column = 0 })
    (record page { top = 0; bottom = last_row page; row = 0; column = 0 })
    (λ t. page_region top end page (omega arith) (inl (ltb-true top end t)) p)
    (λ f. page_region 0 (last_row page) page (omega arith) (inr (refl, omega arith)) p)

pub page_origin : (on : Bool) (page : Page) → IsPage page → IsPage (record page { origin = on })
page_origin on page p = record {
  has_columns = p.has_columns;
  columns = p.columns;
  height = p.height;
  cursor_row = p.cursor_row;
  cursor_column = p.cursor_column;
  saved_row = p.saved_row;
  saved_column = p.saved_column;
  region = p.region;
  region_end = p.region_end;
  rows = p.rows;
  last = p.last;
}

pub page_origin_set : (on : Bool) (page : Page) → IsPage page → IsPage (origin_set on page)
page_origin_set on page p = page_moved (To 0 0) (record page { origin = on }) (page_origin on page p)
