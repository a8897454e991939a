-- A printed character leaves a valid page, also if U+FE0F makes the glyph before the cursor wide.
use Rattle.std.proofs.Common.{◌≡◌, ℕ, ◌&&◌, not, Bool, true, false, subst, ◌+◌, ◌-◌, ◌<◌, ◌≤◌, List, length, take}
use Rattle.std.proofs.Common.{replicate, refl, sym, ap, ◌==◌, ◌∙◌, arith, nat_lt, set, inl, inr, ◌≢◌, zero, suc}
use Rattle.std.specs.Prelude.{if◌then◌else◌, Option, Some, None, IfSome}
use Rattle.std.proofs.lemmas.List.{length-set, length-append, length-take, length-replicate, set-set, set-get_or}
use Rattle.std.proofs.lemmas.Bool.{cases_lt, cases_eq, ltb-true}
use Rattle.std.proofs.lemmas.Bool.Decides.{nat_tests}
use Rattle.std.proofs.lemmas.Grind.{get_or-set_at}
use Rattle.std.specs.Char.{encode_utf8, IsScalar}
use Rattle.vt_cells.specs.Attrs.{Attrs}
use Rattle.vt_cells.specs.Cell.{CellValue, blank, default_blank, is_wide, is_right_half, text_of, cell_with_mark}
use Rattle.vt_cells.specs.Cell.{is_blank, cell_made_wide, IsCell}
use Rattle.vt_cells.specs.Glyph.{IsGlyphText, IsMark, glyph_columns, is_selector, is_wide_text, columns_of}
use Rattle.vt_cells.specs.declared.pos.Pos.{Pos}
use Rattle.vt_cells.proofs.Glyphs.{IsGlyphText-first, columns_of-le}
use Rattle.vt_rows.specs.Cells.{cells_after_erase, ends_blank, put_narrow, put_wide, marked_at, widened_at, narrowed_at}
use Rattle.vt_rows.specs.Cells.{at, IsPaired, blanks, column_of}
use Rattle.vt_rows.specs.Row.{IsRow, blank_row, with_cells, RowValue}
use Rattle.vt_rows.proofs.Rows.{IsRow-erased, length-erased}
use Rattle.vt_rows.proofs.Edits.{put_columns, same_columns, is_wide-marked}
use Rattle.vt_rows.proofs.Steps.{at-set}
use Rattle.vt_grid.specs.Internals.{IsSized, IsSelected, page_of, IsMarkPlace}
use Rattle.vt_grid.specs.Page.{Page, IsPage, cursor_row, up_source, scrolled_up, with_row}
use Rattle.vt_grid.specs.Erasing.{erased_columns, blanked_below}
use Rattle.vt_grid.specs.Moves.{at_bottom, line_feed}
use Rattle.vt_grid.specs.Printing.{with_cursor_cells, glyph_put, mark_put, made_narrow, flagged_left, left_row}
use Rattle.vt_grid.specs.Printing.{goes_down, carries, lifted_page, wrapped_page, mark_column, takes_mark}
use Rattle.vt_grid.specs.Printing.{page_after_wrap, mark_printed, page_after_print, printed_by, room_made}
use Rattle.vt_grid.specs.Printing.{width_followed}
use Rattle.vt_grid.specs.PageRows.{PageRowsValue, with_page_row_flag}
use Rattle.vt_grid.proofs.Printing.{page_glyph_put, page_left, width_flagged_left, height_line_feed}
use Rattle.vt_grid.proofs.Printing.{height_flagged_left, page_mark_put, page_widened, page_made_narrow, cursor_row_put}
use Rattle.vt_grid.proofs.Printing.{mark_place, glyph_text, marked_selected, page_width_followed, page_wrapped}
use Rattle.vt_grid.proofs.Printing.{column_wrapped_page, width_wrapped_page, page_drawn}
use Rattle.vt_grid.proofs.Pages.{page_at, page_cursor_cells, page_scrolled_up, page_blanked_below, length-moved_rows}
use Rattle.vt_grid.proofs.Pages.{IsRow-cursor_row, page_if}

-- ==== Changes of the rows of a grid keep its size.

pub sized : (rows cols : ℕ) (page new : Page) → IsSized rows cols page →
    length new.rows ≡ length page.rows → new.width ≡ page.width → IsPage new → IsSized rows cols new
sized rows cols page new s h w p = record { sound = p; height = s.height ∙ sym h; width = s.width ∙ sym w }

pub sized_scrolled_up : (rows cols n : ℕ) (page : Page) →
    IsSized rows cols page → IsSized rows cols (scrolled_up n page)
sized_scrolled_up rows cols n page s =
    sized rows cols page (scrolled_up n page) s
    (length-moved_rows page.width (up_source (length page.rows) page.top page.bottom n) page.rows)
    refl (page_scrolled_up n page s.sound)

pub sized_cursor_cells : (rows cols : ℕ) (cells : List CellValue) (page : Page) →
    IsRow page.width (with_cells (cursor_row page) cells) →
    IsSized rows cols page → IsSized rows cols (with_cursor_cells cells page)
sized_cursor_cells rows cols cells page h s =
    sized rows cols page (with_cursor_cells cells page) s
    (length-set page.rows page.row (with_cells (cursor_row page) cells)) refl (page_cursor_cells cells page s.sound h)

pub sized_erased_columns : (rows cols c n : ℕ) (attrs : Attrs) (page : Page) →
    c + n ≤ page.width → IsSized rows cols page → IsSized rows cols (erased_columns c n attrs page)
sized_erased_columns rows cols c n attrs page h s =
    sized_cursor_cells rows cols (cells_after_erase c n attrs (cursor_row page).cells) page
    (IsRow-erased page.width (cursor_row page) c n attrs h (IsRow-cursor_row page s.sound)) s

pub sized_blanked_below : (rows cols : ℕ) (attrs : Attrs) (page : Page) →
    IsSized rows cols page → IsSized rows cols (blanked_below attrs page)
sized_blanked_below rows cols attrs page s =
    let p = s.sound in
    let h = p.cursor_row in
    let blank_line = blank_row attrs page.width in
    let below = replicate (length page.rows - (page.row + 1)) blank_line in
    sized rows cols page (blanked_below attrs page) s
    (omega (
      arith,
      length-append (take (page.row + 1) page.rows) below,
      length-take (page.row + 1) page.rows,
      length-replicate (length page.rows - (page.row + 1)) blank_line,
    ))
    refl
    (page_blanked_below attrs page p)

pub sized_glyph_put : (rows cols : ℕ) (text : List ℕ) (wide : Bool) (attrs : Attrs) (page : Page) →
    IsGlyphText text wide → page.column + glyph_columns wide ≤ page.width → IsSized rows cols page →
    IsSized rows cols (glyph_put text wide attrs page)
sized_glyph_put rows cols text false attrs page t h s =
    sized rows cols page (glyph_put text false attrs page) s
    (length-set page.rows page.row
    (with_cells (cursor_row page) (put_narrow page.column text attrs (cursor_row page).cells)))
    refl
    (page_glyph_put text false attrs page t h s.sound)
sized_glyph_put rows cols text true attrs page t h s =
    sized rows cols page (glyph_put text true attrs page) s
    (length-set page.rows page.row
    (with_cells (cursor_row page) (put_wide page.column text attrs (cursor_row page).cells)))
    refl
    (page_glyph_put text true attrs page t h s.sound)

-- ---- A wrap

-- Setting a row's flag and moving the cursor of a grid to the first column does the same to the page that the grid
-- stands for.
pub flagged_page : (left : Option ℕ) (is_wrapped : Bool) (page_rows : PageRowsValue)
    (pos saved : Pos) (top bottom : ℕ) (origin saved_origin : Bool) →
    page_of (with_page_row_flag left is_wrapped page_rows) (record { row = pos.row; col = 0 }) saved top bottom origin saved_origin
    ≡ record (flagged_left left is_wrapped (page_of page_rows pos saved top bottom origin saved_origin)) { column = 0 }
flagged_page (Some r) is_wrapped page_rows pos saved top bottom origin saved_origin = refl
flagged_page None is_wrapped page_rows pos saved top bottom origin saved_origin = refl

pub sized_left : (rows cols : ℕ) (left : Option ℕ) (is_wrapped : Bool) (page : Page) → IsSized rows cols page →
    IsPage (flagged_left left is_wrapped page) → IsSized rows cols (record (flagged_left left is_wrapped page) { column = 0 })
sized_left rows cols left is_wrapped page s p =
    let q = flagged_left left is_wrapped page in
    sized rows cols page (record q { column = 0 }) s (height_flagged_left left is_wrapped page)
    (width_flagged_left left is_wrapped page) (page_at q.row 0 q p.cursor_row (omega arith) p)

pub wrap_parts : (page now fed : Page) (left : Option ℕ) (is_wrapped : Bool) → page ≡ now → left ≡ left_row page →
    is_wrapped ≡ (goes_down now && not (ends_blank (cursor_row now).cells)) → fed ≡ line_feed now →
    IsPage page → IsPage (flagged_left left is_wrapped fed)
wrap_parts page now fed left is_wrapped e l g f p =
    rw (l, g, f) (subst (λ (q : Page). IsPage
    (flagged_left (left_row page) (goes_down q && not (ends_blank (cursor_row q).cells)) (line_feed q)))
    e (page_left page p))

left_in : (b t : Bool) (row n : ℕ) → row < n →
    IfSome (if b then (if t then None else Some (row - 1)) else Some row) (λ r. r < n)
left_in true true row n h = tt
left_in true false row n h = omega arith
left_in false t row n h = h

pub left_inside : (page now fed : Page) (left : Option ℕ) → page ≡ now → left ≡ left_row page →
    fed ≡ line_feed now → IsPage page → IfSome left (λ r. r < length fed.rows)
left_inside page now fed left e l f p =
    let h : length page.rows ≡ length fed.rows =
    sym (ap (λ (q : Page). length q.rows) f ∙ (height_line_feed now ∙ sym (ap (λ (q : Page). length q.rows) e))) in
    rw l (left_in (at_bottom page) (page.row == page.top) page.row (length fed.rows) (rw (← h) p.cursor_row))

-- ---- Combining characters

pub sized_mark_put : (rows cols k mark : ℕ) (page : Page) → IsMark mark →
    k < length (cursor_row page).cells → IsSized rows cols page → IsSized rows cols (mark_put k mark page)
sized_mark_put rows cols k mark page m h s =
    sized rows cols page (mark_put k mark page) s
    (length-set page.rows page.row (with_cells (cursor_row page) (marked_at k mark (cursor_row page).cells)))
    refl (page_mark_put k mark page m h s.sound)

pub sized_made_narrow : (rows cols k : ℕ) (attrs : Attrs) (page : Page) →
    IsSelected page k → IsSized rows cols page → IsSized rows cols (made_narrow k attrs page)
sized_made_narrow rows cols k attrs page h s =
    sized rows cols page (made_narrow k attrs page) s
    (length-set page.rows page.row (with_cells (cursor_row page) (narrowed_at k attrs (cursor_row page).cells)))
    refl (page_made_narrow k attrs page h s.sound)

pub sized_widened : (rows cols k : ℕ) (attrs : Attrs) (page : Page) → IsSelected page k →
    k + 1 ≡ page.column → page.column < page.width → IsSized rows cols page →
    IsSized rows cols
    (record (with_cursor_cells (widened_at k attrs (cursor_row page).cells) page) { column = page.column + 1 })
sized_widened rows cols k attrs page h before room s =
    sized rows cols page
    (record (with_cursor_cells (widened_at k attrs (cursor_row page).cells) page) { column = page.column + 1 }) s
    (length-set page.rows page.row (with_cells (cursor_row page) (widened_at k attrs (cursor_row page).cells)))
    refl (page_widened k attrs page h before room s.sound)

-- ==== A glyph that U+FE0F makes wide while a wrap is pending: it is removed and put on the next row, or put back if
-- memory for a row that scrolls off cannot be allocated.

-- ---- The properties of a glyph that is carried

pub record IsCarried (mark : ℕ) (page : Page) : Type 0 where
  pub selector : is_selector mark ≡ true
  pub takes : takes_mark (at (cursor_row page).cells (mark_column page)) ≡ true
  pub narrow : is_wide (at (cursor_row page).cells (mark_column page)) ≡ false
  pub wide : is_wide_text (text_of (cell_with_mark mark (at (cursor_row page).cells (mark_column page)))) ≡ true
  pub columns : 1 < page.width
  pub pending : page.column ≡ page.width

by_tests : (mark : ℕ) (page : Page) (a b c d : Bool) → is_selector mark ≡ a →
    takes_mark (at (cursor_row page).cells (mark_column page)) ≡ b →
    is_wide (at (cursor_row page).cells (mark_column page)) ≡ c →
    is_wide_text (text_of (cell_with_mark mark (at (cursor_row page).cells (mark_column page)))) ≡ d →
    ((a && (b && not c)) && (d && (nat_lt 1 page.width && (page.column == page.width)))) ≡ true → IsCarried mark page
by_tests mark page true true false true e f g h t = record {
  selector = e;
  takes = f;
  narrow = g;
  wide = h;
  columns = grind (arith, nat_tests);
  pending = grind (arith, nat_tests);
}
by_tests mark page true true false false e f g h t = cc
by_tests mark page true true true d e f g h t = cc
by_tests mark page true false c d e f g h t = cc
by_tests mark page false b c d e f g h t = cc

pub carried_of : (mark : ℕ) (page : Page) → carries mark page ≡ true → IsCarried mark page
unfolding carries
carried_of mark page t = by_tests mark page _ _ _ _ refl refl refl refl t

-- ---- Its row

left_same : (k j : ℕ) (cells : List CellValue) → IsPaired cells →
    is_right_half (at cells k) ≡ false → ((j + 1 == k) && is_wide (at cells j)) ≡ false
left_same k j cells p r = elim (cases_eq (j + 1) k) [
  | inl e ↦ let f : is_wide (at cells j) ≡ false =
      p.halves j ∙ (ap (λ (n : ℕ). is_right_half (at cells n)) e ∙ r) in grind (arith, nat_tests, f)
  | inr ne ↦ grind (arith, nat_tests)
]

right_same : (k j : ℕ) (cells : List CellValue) → IsPaired cells →
    is_wide (at cells k) ≡ false → ((j == k + 1) && is_right_half (at cells j)) ≡ false
right_same k j cells p w = elim (cases_eq j (k + 1)) [
  | inl e ↦ let f : is_right_half (at cells j) ≡ false =
      ap (λ (n : ℕ). is_right_half (at cells n)) e ∙ (sym (p.halves k) ∙ w) in grind (arith, nat_tests, f)
  | inr ne ↦ grind (arith, nat_tests)
]

-- Removing a narrow cell changes only that cell.
restored_at : (k j : ℕ) (attrs : Attrs) (cells : List CellValue) → IsPaired cells →
    is_right_half (at cells k) ≡ false → is_wide (at cells k) ≡ false →
    column_of k 1 default_blank (blanks attrs 1) cells j ≡ (if j == k then blank attrs else at cells j)
restored_at k j attrs cells p r w = elim (cases_lt j k) [
  | inl lt ↦
      let t : nat_lt j k ≡ true = grind (arith, nat_tests) in
      let u : (j == k) ≡ false = grind (arith, nat_tests) in
      rw (t, left_same k j cells p r, u) refl
  | inr ge ↦ elim (cases_eq j k) [
    | inl e ↦
        let t : nat_lt j k ≡ false = grind (arith, nat_tests) in
        let u : nat_lt j (k + 1) ≡ true = grind (arith, nat_tests) in
        let v : (j == k) ≡ true = grind (arith, nat_tests) in
        let z : j - k ≡ 0 = omega arith in
        rw (t, u, v, z) refl
    | inr ne ↦
        let t : nat_lt j k ≡ false = grind (arith, nat_tests) in
        let u : nat_lt j (k + 1) ≡ false = grind (arith, nat_tests) in
        let v : (j == k) ≡ false = grind (arith, nat_tests) in
        rw (t, u, right_same k j cells p w, v) refl
  ]
]

-- Putting a removed narrow cell back restores the cells of the row.
put_back_cells : (k : ℕ) (attrs : Attrs) (cells : List CellValue) → IsPaired cells →
    is_right_half (at cells k) ≡ false → is_wide (at cells k) ≡ false →
    k < length cells → set (cells_after_erase k 1 attrs cells) k (at cells k) ≡ cells
put_back_cells k attrs cells p r w h =
    let l = length-erased k 1 attrs cells (omega arith) in
    same_columns (set (cells_after_erase k 1 attrs cells) k (at cells k)) cells
    (length-set (cells_after_erase k 1 attrs cells) k (at cells k) ∙ l) (λ j.
    at-set (cells_after_erase k 1 attrs cells) k j (at cells k) (omega arith)
    ∙ (ap (λ (v : CellValue). if j == k then at cells k else v)
    (put_columns k 1 default_blank (blanks attrs 1) cells j refl (omega arith) ∙ restored_at k j attrs cells p r w)
    ∙ same_if j)) where
      same_if : (j : ℕ) → (if j == k then at cells k else if j == k then blank attrs else at cells j) ≡ at cells j
      same_if j = grind (arith, nat_tests)

-- ---- Its page

pub page_lifted : (k : ℕ) (attrs : Attrs) (page : Page) →
    k < length (cursor_row page).cells → IsPage page → IsPage (lifted_page k attrs page)
page_lifted k attrs page h p =
    let row = IsRow-cursor_row page p in
    let l = row.columns in
    page_cursor_cells (cells_after_erase k 1 attrs (cursor_row page).cells) page p
    (IsRow-erased page.width (cursor_row page) k 1 attrs (omega arith) row)

pub sized_lifted : (rows cols k : ℕ) (attrs : Attrs) (page : Page) → k < length (cursor_row page).cells →
    IsSized rows cols page → IsSized rows cols (lifted_page k attrs page)
sized_lifted rows cols k attrs page h s =
    sized rows cols page (lifted_page k attrs page) s
    (length-set page.rows page.row (with_cells (cursor_row page) (cells_after_erase k 1 attrs (cursor_row page).cells)))
    refl (page_lifted k attrs page h s.sound)

pub sized_with_row : (rows cols r : ℕ) (row : RowValue) (page : Page) →
    IsPage (with_row r row page) → IsSized rows cols page → IsSized rows cols (with_row r row page)
sized_with_row rows cols r row page p s =
    sized rows cols page (with_row r row page) s (length-set page.rows r row) refl p

-- Putting a removed narrow cell back restores the page.
pub put_back_is : (k : ℕ) (attrs : Attrs) (page : Page) → IsMarkPlace (cursor_row page).cells page.column k →
    is_wide (at (cursor_row page).cells k) ≡ false → IsPage page →
    with_row page.row (record {
      cells = set (cursor_row (lifted_page k attrs page)).cells k (at (cursor_row page).cells k);
      wrapped = (cursor_row page).wrapped;
    })
    (lifted_page k attrs page)
    ≡ page
put_back_is k attrs page place narrow p =
    let row = IsRow-cursor_row page p in
    let cells = (cursor_row page).cells in
    let was : (cursor_row (lifted_page k attrs page)).cells ≡ cells_after_erase k 1 attrs cells =
    ap (λ (row : RowValue). row.cells) (cursor_row_put (cells_after_erase k 1 attrs cells) page p) in
    let same : set (cursor_row (lifted_page k attrs page)).cells k (at cells k) ≡ cells =
    ap (λ (cs : List CellValue). set cs k (at cells k)) was
    ∙ put_back_cells k attrs cells row.paired place.shown narrow place.inside in
    let twice = set-set page.rows page.row (with_cells (cursor_row page) (cells_after_erase k 1 attrs cells)) (cursor_row page) in
    ap (λ (cs : List CellValue). with_row page.row
    (record { cells = cs; wrapped = (cursor_row page).wrapped }) (lifted_page k attrs page))
    same
    ∙ (ap (λ (rows : List RowValue). record page { rows = rows }) (twice ∙ set-get_or page.rows page.row _))

-- ---- The combining character is printed so

pub cell_marked : (k mark : ℕ) (page : Page) → k < length (cursor_row page).cells → IsPage page →
    at (cursor_row (mark_put k mark page)).cells k ≡ cell_with_mark mark (at (cursor_row page).cells k)
cell_marked k mark page h p =
    ap (λ (row : RowValue). at row.cells k) (cursor_row_put (marked_at k mark (cursor_row page).cells) page p)
    ∙ get_or-set_at (cursor_row page).cells k k (cell_with_mark mark (at (cursor_row page).cells k)) default_blank refl h

pub carried_is : (mark : ℕ) (attrs : Attrs) (page : Page) → carries mark page ≡ true →
    mark_printed mark attrs page
    ≡ glyph_put (text_of (cell_with_mark mark (at (cursor_row page).cells (mark_column page)))) true attrs
    (wrapped_page (lifted_page (mark_column page) attrs page))
unfolding mark_printed page_after_wrap
carried_is mark attrs page t = rw t refl

-- ---- What the code of a carry needs

pub put_back_parts : (k mark : ℕ) (attrs : Attrs) (page new : Page) (cell : CellValue) (is_wrapped : Bool) →
    IsPage page → IsCarried mark page → k ≡ mark_column page →
    new ≡ lifted_page k attrs page → cell ≡ at (cursor_row page).cells k → is_wrapped ≡ (cursor_row page).wrapped →
    (k < length (cursor_row new).cells)
    × (with_row new.row (record { cells = set (cursor_row new).cells k cell; wrapped = is_wrapped }) new ≡ page)
put_back_parts k mark attrs page new cell is_wrapped p c e n x f =
    let pos : 0 < page.column = omega (arith, c.columns, c.pending) in
    let place : IsMarkPlace (cursor_row page).cells page.column k = rw e (mark_place page p pos) in
    let narrow : is_wide (at (cursor_row page).cells k) ≡ false = rw e c.narrow in
    let inside = place.inside in
    let len : length (cursor_row (lifted_page k attrs page)).cells ≡ length (cursor_row page).cells =
    ap (λ (row : RowValue). length row.cells) (cursor_row_put (cells_after_erase k 1 attrs (cursor_row page).cells) page p)
    ∙ length-erased k 1 attrs (cursor_row page).cells (omega arith) in
    (rw (n, len) inside, rw (n, x, f) (put_back_is k attrs page place narrow p))

untested : (a b c d e f : Bool) → a ≡ true → b ≡ true → c ≡ false →
    (d && e) ≡ true → ((a && (b && not c)) && (d && (e && f))) ≡ false → f ≡ false
untested true true false true true f p q r s t = t
untested true true false true false f p q r s t = cc
untested true true false false e f p q r s t = cc
untested true true true d e f p q r s t = cc
untested true false c d e f p q r s t = cc
untested false b c d e f p q r s t = cc

-- If a combining character is not carried and makes its glyph wide, there is a column for the continuation cell.
pub stays_before : (mark : ℕ) (page : Page) → IsPage page →
    mark_column page < length (cursor_row page).cells → is_selector mark ≡ true →
    takes_mark (at (cursor_row page).cells (mark_column page)) ≡ true → carries mark page ≡ false →
    is_wide (at (cursor_row (mark_put (mark_column page) mark page)).cells (mark_column page)) ≡ false →
    (is_wide_text (text_of (at (cursor_row (mark_put (mark_column page) mark page)).cells (mark_column page)))
    && nat_lt 1 page.width)
    ≡ true →
    page.column < page.width
unfolding carries
stays_before mark page p inside s t f n w =
    let k = mark_column page in
    let x = at (cursor_row page).cells k in
    let here = cell_marked k mark page inside p in
    let narrow : is_wide x ≡ false = sym (is_wide-marked mark x) ∙ (sym (ap is_wide here) ∙ n) in
    let wide : (is_wide_text (text_of (cell_with_mark mark x)) && nat_lt 1 page.width) ≡ true =
    ap (λ (y : CellValue). is_wide_text (text_of y) && nat_lt 1 page.width) (sym here) ∙ w in
    let apart = untested (is_selector mark) (takes_mark x) (is_wide x) (is_wide_text (text_of (cell_with_mark mark x)))
    (nat_lt 1 page.width) (page.column == page.width) s t narrow wide f in
    let h = p.cursor_column in
    grind (arith, nat_tests)

-- ==== A page stays valid when a character is printed.

page_carried : (mark : ℕ) (attrs : Attrs) (page : Page) → IsMark mark →
    IsCarried mark page → IsPage page → IsPage (page_after_wrap mark attrs page)
unfolding page_after_wrap
page_carried mark attrs page m c p =
    let k = mark_column page in
    let x = cell_with_mark mark (at (cursor_row page).cells k) in
    let place = mark_place page p (omega (arith, c.columns, c.pending)) in
    let chosen = marked_selected k mark page m c.selector c.takes place p in
    let here = cell_marked k mark page place.inside p in
    let text : IsGlyphText (text_of x) true =
    glyph_text true x (sym (ap is_blank here) ∙ chosen.drawn) (sym (ap is_right_half here) ∙ chosen.place.shown)
    (subst (λ (cell : CellValue). IsCell (cell_made_wide true cell)) here (chosen.either true)) in
    let left = lifted_page k attrs page in
    page_glyph_put (text_of x) true attrs (wrapped_page left) text
    (omega (arith, column_wrapped_page left, width_wrapped_page left, c.columns))
    (page_wrapped left (page_lifted k attrs page place.inside p))

pub page_mark_printed : (mark : ℕ) (attrs : Attrs) (page : Page) → IsMark mark →
    0 < page.column → IsPage page → IsPage (mark_printed mark attrs page)
unfolding mark_printed
page_mark_printed mark attrs page m pos p =
    let k = mark_column page in
    let place = mark_place page p pos in
    let put = page_mark_put k mark page m place.inside p in
    let stays = if is_selector mark then width_followed k attrs (mark_put k mark page) else mark_put k mark page in
    page_if (carries mark page) (page_after_wrap mark attrs page)
    (if takes_mark (at (cursor_row page).cells k) then stays else page)
    (λ y. page_carried mark attrs page m (carried_of mark page y) p)
    (λ n. page_if (takes_mark (at (cursor_row page).cells k)) stays page
    (λ t. page_if (is_selector mark) (width_followed k attrs (mark_put k mark page)) (mark_put k mark page)
    (λ s. page_width_followed k attrs (mark_put k mark page)
    (marked_selected k mark page m s t place p) (stays_before mark page p place.inside s t n) put)
    (λ _. put))
    (λ _. p))

pub page_printed : (c : ℕ) (attrs : Attrs) (page : Page) → IsScalar c →
    c ≢ 0xFFFD → IsPage page → IsPage (page_after_print c attrs page)
page_printed c attrs page scalar reported p = by_columns (columns_of c) refl where
  by_columns : (w : Option ℕ) → columns_of c ≡ w → IsPage (printed_by w c attrs page)
  by_columns None e = p
  by_columns (Some zero) e =
      page_if (page.column == 0) page (mark_printed c attrs page) (λ _. p)
      (λ f. page_mark_printed c attrs page (scalar, e) (grind (arith, nat_tests)) p)
  by_columns (Some (suc zero)) e =
      page_drawn (encode_utf8 c) false attrs page
      (IsGlyphText-first c false scalar reported e) (omega (arith, p.has_columns)) p
  by_columns (Some (suc (suc n))) e =
      let le = columns_of-le c (suc (suc n)) e in
      let two : n ≡ 0 = omega arith in
      page_if (nat_lt 1 page.width) (glyph_put (encode_utf8 c) true attrs (room_made 2 page)) page
      (λ t. page_drawn (encode_utf8 c) true attrs page
      (IsGlyphText-first c true scalar reported (e ∙ ap (λ (m : ℕ). Some (suc (suc m))) two))
      (omega (arith, ltb-true 1 page.width t)) p)
      (λ _. p)
