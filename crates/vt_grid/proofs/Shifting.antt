-- Erasing, and moves of rows and of columns within a row, leave a valid page.
use Rattle.std.proofs.Common.{◌≡◌, ℕ, ◌+◌, ◌-◌, ◌<◌, min, List, ◌++◌, length, drop, replicate, get_or, refl, ap, ◌∙◌}
use Rattle.std.proofs.Common.{arith, ◌==◌, false, inl, inr, sym}
use Rattle.std.proofs.lemmas.List.{length-append, length-drop, length-replicate, get_or-append_right, get_or-drop}
use Rattle.std.proofs.lemmas.List.{get_or-replicate, get_or-set_other, length-set}
use Rattle.std.proofs.lemmas.List.Elements.{All-append, All-drop, All-replicate, All-set}
use Rattle.std.specs.Prelude.{◌||◌, All}
use Rattle.std.proofs.lemmas.Bool.{cases_eq}
use Rattle.std.proofs.lemmas.Bool.Decides.{nat_tests}
use Rattle.std.proofs.lemmas.Grind.{get_or-set_at}
use Rattle.vt_cells.specs.Attrs.{default_attrs, Attrs}
use Rattle.vt_rows.specs.Row.{RowValue, IsRow, blank_row, inserted_row, deleted_row}
use Rattle.vt_rows.proofs.Rows.{IsRow-blank_row, IsRow-wrapped}
use Rattle.vt_rows.proofs.Moves.{IsRow-inserted_row, IsRow-deleted_row}
use Rattle.vt_grid.specs.Page.{Page, IsPage, row_or, cursor_row, moved_rows, rows_up}
use Rattle.vt_grid.specs.Erasing.{erased_start, erased_row, blanked_above, erased_above, erased_page}
use Rattle.vt_grid.specs.Regions.{in_region}
use Rattle.vt_grid.specs.Shifts.{down_source, unflagged, rows_down, scrolled_down, reverse_index, lines_inserted}
use Rattle.vt_grid.specs.Shifts.{lines_deleted, chars_inserted, chars_deleted}
use Rattle.vt_grid.proofs.Pages.{page_of_rows, page_with_row, page_erased_columns, page_at, page_if, page_rows_up}
use Rattle.vt_grid.proofs.Pages.{IsRow-row_or, IsRow-cursor_row, length-moved_rows, row_or-moved_rows, All-moved_rows}
use Rattle.vt_grid.proofs.Printing.{region_order}

-- ==== Erasing a row or a page, from its start or as a whole, leaves a valid page.

pub page_erased_start : (attrs : Attrs) (page : Page) → IsPage page → IsPage (erased_start attrs page)
unfolding erased_start
page_erased_start attrs page p = page_erased_columns 0 (min (page.column + 1) page.width) attrs page (omega arith) p

pub page_erased_row : (attrs : Attrs) (page : Page) → IsPage page → IsPage (erased_row attrs page)
page_erased_row attrs page p =
    page_with_row page.row (blank_row attrs page.width) page
    p.cursor_row p (IsRow-blank_row attrs page.width) (λ e. refl)

-- ---- The rows above

pub length-blanked_above : (attrs : Attrs) (page : Page) → IsPage page →
    length (blanked_above attrs page).rows ≡ length page.rows
length-blanked_above attrs page p =
    let h = p.cursor_row in
    let above = replicate page.row (blank_row attrs page.width) in
    omega (
      arith,
      length-append above (drop page.row page.rows),
      length-replicate page.row (blank_row attrs page.width),
      length-drop page.row page.rows,
    )

-- Blanking the rows above the cursor leaves the last row unchanged.
above_last : (rows : List RowValue) (r : ℕ) (blank d : RowValue) → r < length rows →
    get_or (replicate r blank ++ drop r rows) (length rows - 1) d ≡ get_or rows (length rows - 1) d
above_last rows r blank d h =
    let i : r + (length rows - 1 - r) ≡ length rows - 1 = omega arith in
    get_or-append_right (replicate r blank) (drop r rows) r (length rows - 1) d (length-replicate r blank) (omega arith)
    ∙ (get_or-drop r rows (length rows - 1 - r) d ∙ ap (λ (k : ℕ). get_or rows k d) i)

pub page_blanked_above : (attrs : Attrs) (page : Page) → IsPage page → IsPage (blanked_above attrs page)
page_blanked_above attrs page p =
    let blank = blank_row attrs page.width in
    let above = replicate page.row blank in
    page_of_rows (above ++ drop page.row page.rows) page (length-blanked_above attrs page p)
    (All-append (IsRow page.width) above (drop page.row page.rows)
    (All-replicate (IsRow page.width) page.row blank (IsRow-blank_row attrs page.width))
    (All-drop (IsRow page.width) page.row page.rows p.rows))
    (ap (λ (row : RowValue). row.wrapped)
    (above_last page.rows page.row blank (blank_row default_attrs page.width) p.cursor_row)
    ∙ p.last)
    p

pub page_erased_above : (attrs : Attrs) (page : Page) → IsPage page → IsPage (erased_above attrs page)
unfolding erased_above
page_erased_above attrs page p = page_blanked_above attrs (erased_start attrs page) (page_erased_start attrs page p)

-- ---- All rows

pub page_erased_page : (attrs : Attrs) (page : Page) → IsPage page → IsPage (erased_page attrs page)
page_erased_page attrs page p =
    let height = length page.rows in
    let blank = blank_row attrs page.width in
    let h = p.cursor_row in
    page_of_rows (replicate height blank) page (length-replicate height blank)
    (All-replicate (IsRow page.width) height blank (IsRow-blank_row attrs page.width))
    (ap (λ (row : RowValue). row.wrapped)
    (get_or-replicate height (height - 1) blank (blank_row default_attrs page.width) (omega arith)))
    p

-- ==== Moving rows down, and moving columns within a row, leave a valid page.

-- ---- Rows that move down

pub length-rows_down : (width top bottom n : ℕ) (rows : List RowValue) →
    length (rows_down width top bottom n rows) ≡ length rows
length-rows_down width top bottom n rows =
    let source = down_source (length rows) top bottom n in
    let moved = moved_rows width source rows in
    length-set moved bottom (record (row_or width moved bottom) { wrapped = false })
    ∙ length-moved_rows width source rows

All-unflagged : (width r : ℕ) (rows : List RowValue) →
    All (IsRow width) rows → All (IsRow width) (unflagged width r rows)
All-unflagged width r rows h =
    let row = row_or width rows r in
    All-set (IsRow width) rows r (record row { wrapped = false })
    (IsRow-wrapped width row false (λ e. cc) (IsRow-row_or width rows r h)) h

-- After rows move down, the last row is not wrapped: either it is the region's bottom, or it is unchanged.
down_last : (width top bottom n : ℕ) (rows : List RowValue) →
    bottom < length rows → (row_or width rows (length rows - 1)).wrapped ≡ false →
    (row_or width (rows_down width top bottom n rows) (length rows - 1)).wrapped ≡ false
down_last width top bottom n rows h old =
    let source = down_source (length rows) top bottom n in
    let moved = moved_rows width source rows in
    let l = length-moved_rows width source rows in
    let blank = blank_row default_attrs width in
    let bare = record (row_or width moved bottom) { wrapped = false } in
    elim (cases_eq bottom (length rows - 1)) [
      | inl e ↦
          ap (λ (row : RowValue). row.wrapped)
          (get_or-set_at moved bottom (length rows - 1) bare blank (sym e) (omega arith))
      | inr ne ↦
          let stays : source (length rows - 1) ≡ length rows - 1 = grind (arith, nat_tests) in
          ap (λ (row : RowValue). row.wrapped)
          (get_or-set_other moved bottom (length rows - 1) bare blank (λ e. ne (sym e))
          ∙ (row_or-moved_rows width source rows (length rows - 1) (omega arith)
          ∙ ap (λ (r : ℕ). row_or width rows r) stays))
          ∙ old
    ]

pub page_rows_down : (top bottom n : ℕ) (page : Page) → bottom < length page.rows →
    IsPage page → IsPage (record page { rows = rows_down page.width top bottom n page.rows })
page_rows_down top bottom n page h p =
    let source = down_source (length page.rows) top bottom n in
    page_of_rows (rows_down page.width top bottom n page.rows) page (length-rows_down page.width top bottom n page.rows)
    (All-unflagged page.width bottom (moved_rows page.width source page.rows)
    (All-moved_rows page.width source page.rows p.rows))
    (down_last page.width top bottom n page.rows h p.last) p

pub page_scrolled_down : (n : ℕ) (page : Page) → IsPage page → IsPage (scrolled_down n page)
page_scrolled_down n page p = page_rows_down page.top page.bottom n page p.region_end p

pub page_reverse_index : (page : Page) → IsPage page → IsPage (reverse_index page)
unfolding reverse_index
page_reverse_index page p =
    let h = p.cursor_row in
    page_if ((page.row == page.top) || (page.row == 0)) (scrolled_down 1 page)
    (record page { row = page.row - 1 }) (λ t. page_scrolled_down 1 page p)
    (λ f. page_at (page.row - 1) page.column page (omega arith) p.cursor_column p)

-- ---- Rows inserted and deleted

pub page_lines_inserted : (n : ℕ) (page : Page) → IsPage page → IsPage (lines_inserted n page)
unfolding lines_inserted
page_lines_inserted n page p =
    page_if (in_region page) (record page { rows = rows_down page.width page.row page.bottom n page.rows })
    page (λ t. page_rows_down page.row page.bottom n page p.region_end p) (λ f. p)

pub page_lines_deleted : (n : ℕ) (page : Page) → IsPage page → IsPage (lines_deleted n page)
unfolding lines_deleted
page_lines_deleted n page p =
    page_if (in_region page) (record page { rows = rows_up page.width page.row page.bottom n page.rows })
    page (λ t. page_rows_up page.row page.bottom n page p.region_end p) (λ f. p)

-- ---- Columns inserted and deleted

pub page_chars_inserted : (n : ℕ) (page : Page) → IsPage page → IsPage (chars_inserted n page)
page_chars_inserted n page p =
    page_with_row page.row (inserted_row page.column n (cursor_row page)) page p.cursor_row p
    (IsRow-inserted_row page.width page.column n (cursor_row page) (IsRow-cursor_row page p)) (λ e. refl)

pub page_chars_deleted : (n : ℕ) (page : Page) → IsPage page → IsPage (chars_deleted n page)
page_chars_deleted n page p =
    page_with_row page.row (deleted_row page.column n (cursor_row page)) page p.cursor_row p
    (IsRow-deleted_row page.width page.column n (cursor_row page) (IsRow-cursor_row page p)) (λ e. refl)

-- The lemmas on rows that move down.
pub ruleset moving_down = (page_reverse_index, page_lines_inserted, region_order)
