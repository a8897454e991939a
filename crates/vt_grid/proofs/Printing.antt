-- Printing a character or a combining character leaves a valid page.
use Rattle.std.proofs.Common.{◌≡◌, ◌≢◌, ℕ, ◌==◌, nat_lt, true, false, refl, ap, ◌∙◌, arith, ◌&&◌, Bool, List, [], take}
use Rattle.std.proofs.Common.{◌+◌, ◌-◌, ◌<◌, ◌≤◌, ◌⊎◌, not, length, inl, inr, sym, subst, ◌∷◌, ◌++◌}
use Rattle.std.specs.Prelude.{if◌then◌else◌, Some, None, Option}
use Rattle.std.specs.Char.{encode_utf8}
use Rattle.std.proofs.lemmas.Bool.{ltb-true, cases_lt}
use Rattle.std.proofs.lemmas.Bool.Decides.{nat_tests}
use Rattle.std.proofs.lemmas.List.{length-set}
use Rattle.std.specs.List.{list_any}
use Rattle.std.proofs.lemmas.Grind.{get_or-set_at}
use Rattle.std.proofs.lemmas.List.Folds.{list_any-append}
use Rattle.std.proofs.lemmas.List.Elements.{All-get_or}
use Rattle.vt_cells.specs.Glyph.{columns_of, IsGlyphText, glyph_columns, IsMark, is_selector, has_room, is_wide_text}
use Rattle.vt_cells.specs.Attrs.{Attrs}
use Rattle.vt_cells.specs.Cell.{CellValue, blank, glyph, right_half, default_blank, is_wide, is_blank, is_right_half}
use Rattle.vt_cells.specs.Cell.{text_of, cell_with_mark, cell_made_wide, cell_with_attrs, IsCell}
use Rattle.vt_cells.proofs.Glyphs.{columns_of-le, longer}
use Rattle.vt_cells.proofs.Cells.{IsCell-space, IsCell-marked}
use Rattle.vt_rows.specs.Row.{RowValue, with_cells}
use Rattle.vt_rows.specs.Cells.{ends_blank, put_narrow, put_wide, at, IsPaired, marked_at, widened_at, narrowed_at}
use Rattle.vt_rows.proofs.Rows.{IsRow-wrapped, IsRow-put_narrow, IsRow-put_wide, IsRow-marked_at, IsRow-widened_at}
use Rattle.vt_rows.proofs.Rows.{IsRow-narrowed_at}
use Rattle.vt_rows.proofs.Edits.{at-past, is_right_half-marked, is_wide-marked, not_both}
use Rattle.vt_grid.specs.Page.{Page, IsPage, IsWhole, row_or, row_at, cursor_row, up_source, scrolled_up}
use Rattle.vt_grid.specs.Printing.{glyph_put, room_made, mark_printed, page_after_print, lacks_room, carries, pushes}
use Rattle.vt_grid.specs.Printing.{with_cursor_cells, page_with_wrapped, left_row, goes_down, flagged_left}
use Rattle.vt_grid.specs.Printing.{wrapped_page, mark_column, takes_mark, mark_put, made_wide, made_narrow}
use Rattle.vt_grid.specs.Printing.{width_followed}
use Rattle.vt_grid.specs.Moves.{feeds_out, at_bottom, line_feed}
use Rattle.vt_grid.specs.Outgoing.{fed_out, printed_out, left_by}
use Rattle.vt_grid.specs.Internals.{room_out, mark_out, IsMarkPlace, IsSelected}
use Rattle.vt_grid.proofs.Pages.{page_at, page_if, page_with_row, page_cursor_cells, page_scrolled_up}
use Rattle.vt_grid.proofs.Pages.{row_or-moved_rows, length-moved_rows, IsRow-row_or, IsRow-cursor_row}

-- ==== A character is printed according to the columns that it takes.

pub printed_none : (c : ℕ) (attrs : Attrs) (page : Page) → columns_of c ≡ None → page_after_print c attrs page ≡ page
printed_none c attrs page e = rw e refl

pub printed_narrow : (c : ℕ) (attrs : Attrs) (page : Page) → columns_of c ≡ Some 1 →
    page_after_print c attrs page ≡ glyph_put (encode_utf8 c) false attrs (room_made 1 page)
printed_narrow c attrs page e = rw e refl

pub printed_wide : (c : ℕ) (attrs : Attrs) (page : Page) → columns_of c ≡ Some 2 →
    page_after_print c attrs page
    ≡ (if nat_lt 1 page.width then glyph_put (encode_utf8 c) true attrs (room_made 2 page) else page)
printed_wide c attrs page e = rw e refl

pub printed_mark : (c : ℕ) (attrs : Attrs) (page : Page) → columns_of c ≡ Some 0 →
    page_after_print c attrs page ≡ (if page.column == 0 then page else mark_printed c attrs page)
printed_mark c attrs page e = rw e refl

-- A character that takes neither one column nor two takes none.
pub no_columns : (c width : ℕ) → columns_of c ≡ Some width → width ≢ 1 → width ≢ 2 → columns_of c ≡ Some 0
no_columns c width e one two =
    let le = columns_of-le c width e in
    let zero : width ≡ 0 = omega arith in
    e ∙ ap (λ (n : ℕ). Some n) zero

pub ruleset printed_cases = (printed_none, printed_narrow, printed_wide)

-- ==== The rows that scroll off a page, depending on the printed character.

-- If a line feed scrolls no row off the page, the list of rows that scroll off is empty.
pub unfed : (page : Page) → feeds_out page ≡ false → fed_out page ≡ []
unfed page e = rw e refl

pub unpushed : (c : ℕ) (attrs : Attrs) (page : Page) → pushes c page ≡ false → printed_out c attrs page ≡ []
unpushed c attrs page e = rw e refl

both : (a b : Bool) (rows : List RowValue) →
    (if a && b then rows else []) ≡ (if a then (if b then rows else []) else [])
both true b rows = refl
both false b rows = refl

unless_first : (a b c : Bool) (rows : List RowValue) →
    (if (if a then false else b) && c then rows else [])
    ≡ (if a then [] else if b then (if c then rows else []) else [])
unless_first true b c rows = refl
unless_first false b c rows = both b c rows

all_three : (a b c : Bool) (rows : List RowValue) →
    (if (a && b) && c then rows else []) ≡ (if a then (if b then (if c then rows else []) else []) else [])
all_three true b c rows = both b c rows
all_three false b c rows = refl

pub out_none : (c : ℕ) (attrs : Attrs) (page : Page) → columns_of c ≡ None → printed_out c attrs page ≡ []
out_none c attrs page e = rw e refl

pub out_narrow : (c : ℕ) (attrs : Attrs) (page : Page) →
    columns_of c ≡ Some 1 → printed_out c attrs page ≡ room_out 1 page
out_narrow c attrs page e = rw e (both (lacks_room 1 page) (feeds_out page) (take 1 page.rows))

pub out_wide : (c : ℕ) (attrs : Attrs) (page : Page) → columns_of c ≡ Some 2 →
    printed_out c attrs page ≡ (if nat_lt 1 page.width then room_out 2 page else [])
out_wide c attrs page e = rw e (all_three (nat_lt 1 page.width) (lacks_room 2 page) (feeds_out page) (take 1 page.rows))

pub out_mark : (c : ℕ) (attrs : Attrs) (page : Page) → columns_of c ≡ Some 0 →
    printed_out c attrs page ≡ (if page.column == 0 then [] else mark_out c attrs page)
out_mark c attrs page e =
    rw e (unless_first (page.column == 0) (carries c page) (feeds_out page) (take 1 (left_by (Some 0) attrs page).rows))

pub ruleset out_cases = (out_none, out_narrow, out_wide)

-- ==== A wrap and a printed glyph leave a valid page.

-- ---- What a line feed keeps

if_same : {X : Type 0} (f : Page → X) (b : Bool) (x y : Page) (v : X) → f x ≡ v → f y ≡ v → f (if b then x else y) ≡ v
if_same f true x y v p q = p
if_same f false x y v p q = q

pub width_line_feed : (page : Page) → (line_feed page).width ≡ page.width
unfolding line_feed
width_line_feed page =
    if_same (λ (q : Page). q.width) (at_bottom page) (scrolled_up 1 page)
    (if nat_lt (page.row + 1) (length page.rows) then record page { row = page.row + 1 } else page) page.width refl
    (if_same (λ (q : Page). q.width) (nat_lt (page.row + 1) (length page.rows))
    (record page { row = page.row + 1 }) page page.width refl refl)

pub height_line_feed : (page : Page) → length (line_feed page).rows ≡ length page.rows
unfolding line_feed
height_line_feed page =
    if_same (λ (q : Page). length q.rows) (at_bottom page) (scrolled_up 1 page)
    (if nat_lt (page.row + 1) (length page.rows) then record page { row = page.row + 1 } else page) (length page.rows)
    (length-moved_rows page.width (up_source (length page.rows) page.top page.bottom 1) page.rows)
    (if_same (λ (q : Page). length q.rows) (nat_lt (page.row + 1) (length page.rows))
    (record page { row = page.row + 1 }) page (length page.rows) refl refl)

pub width_flagged_left : (left : Option ℕ) (is_wrapped : Bool) (page : Page) →
    (flagged_left left is_wrapped page).width ≡ page.width
width_flagged_left (Some r) is_wrapped page = refl
width_flagged_left None is_wrapped page = refl

pub height_flagged_left : (left : Option ℕ) (is_wrapped : Bool) (page : Page) →
    length (flagged_left left is_wrapped page).rows ≡ length page.rows
height_flagged_left (Some r) is_wrapped page = length-set page.rows r (record (row_at page r) { wrapped = is_wrapped })
height_flagged_left None is_wrapped page = refl

pub width_wrapped_page : (page : Page) → (wrapped_page page).width ≡ page.width
unfolding wrapped_page
width_wrapped_page page =
    width_flagged_left (left_row page) (goes_down page && not (ends_blank (cursor_row page).cells)) (line_feed page)
    ∙ width_line_feed page

pub column_wrapped_page : (page : Page) → (wrapped_page page).column ≡ 0
unfolding wrapped_page
column_wrapped_page page = refl

-- ---- A wrap

pub region_order : (page : Page) → IsPage page → page.top ≤ page.bottom
region_order page p = ordered p.region where
  ordered : (page.top < page.bottom) ⊎ IsWhole page → page.top ≤ page.bottom
  ordered (inl h) = omega arith
  ordered (inr h) = omega (arith, h.0)

pub page_flagged : (r : ℕ) (is_wrapped : Bool) (page : Page) → r < length page.rows →
    (is_wrapped ≡ true → ends_blank (row_at page r).cells ≡ false) → (r + 1 ≡ length page.rows → is_wrapped ≡ false) →
    IsPage page → IsPage (page_with_wrapped r is_wrapped page)
page_flagged r is_wrapped page h full last p =
    page_with_row r (record (row_at page r) { wrapped = is_wrapped }) page h p
    (IsRow-wrapped page.width (row_at page r) is_wrapped full (IsRow-row_or page.width page.rows r p.rows)) last

not_true : (b : Bool) → not b ≡ true → b ≡ false
not_true true h = sym h
not_true false h = refl

-- After the region scrolls up by one row, the row above the cursor is the one that the cursor left.
pub moved_row : (page : Page) → IsPage page → at_bottom page ≡ true →
    (page.row == page.top) ≡ false → row_at (scrolled_up 1 page) (page.row - 1) ≡ cursor_row page
moved_row page p e ne =
    let order = region_order page p in
    let height = length page.rows in
    let source : up_source height page.top page.bottom 1 (page.row - 1) ≡ page.row = grind (arith, nat_tests) in
    row_or-moved_rows page.width (up_source height page.top page.bottom 1)
    page.rows (page.row - 1) (omega (arith, p.cursor_row))
    ∙ ap (λ (r : ℕ). row_or page.width page.rows r) source

wrapped_bottom : (page : Page) → IsPage page → at_bottom page ≡ true → (t : Bool) → (page.row == page.top) ≡ t →
    IsPage (flagged_left (if t then None else Some (page.row - 1))
    (not (ends_blank (cursor_row page).cells)) (scrolled_up 1 page))
wrapped_bottom page p e true s = page_scrolled_up 1 page p
wrapped_bottom page p e false s =
    let order = region_order page p in
    let below : page.row ≡ page.bottom = grind (arith, nat_tests) in
    let apart : page.row ≡ page.top → ⊥ = grind (arith, nat_tests) in
    let l = length-moved_rows page.width (up_source (length page.rows) page.top page.bottom 1) page.rows in
    let h = p.cursor_row in
    page_flagged (page.row - 1) (not (ends_blank (cursor_row page).cells)) (scrolled_up 1 page) (omega arith)
    (λ t. ap (λ (row : RowValue). ends_blank row.cells) (moved_row page p e s)
    ∙ not_true (ends_blank (cursor_row page).cells) t)
    (λ u. absurd (omega arith)) (page_scrolled_up 1 page p)

wrapped_below : (page : Page) → IsPage page → (t : Bool) → nat_lt (page.row + 1) (length page.rows) ≡ t →
    IsPage (page_with_wrapped page.row (t && not (ends_blank (cursor_row page).cells))
    (if t then record page { row = page.row + 1 } else page))
wrapped_below page p true e =
    let h = ltb-true (page.row + 1) (length page.rows) e in
    let q = page_at (page.row + 1) page.column page h p.cursor_column p in
    page_flagged page.row (not (ends_blank (cursor_row page).cells)) (record page { row = page.row + 1 })
    p.cursor_row (not_true (ends_blank (cursor_row page).cells)) (λ u. absurd (omega arith)) q
wrapped_below page p false e = page_flagged page.row false page p.cursor_row (λ t. cc) (λ u. refl) p

wrapped_rows : (page : Page) → IsPage page → (b : Bool) → at_bottom page ≡ b →
    IsPage (flagged_left (if b then (if page.row == page.top then None else Some (page.row - 1)) else Some page.row)
    ((if b then true else nat_lt (page.row + 1) (length page.rows)) && not (ends_blank (cursor_row page).cells))
    (if b then scrolled_up 1 page else if nat_lt (page.row + 1) (length page.rows)
    then record page { row = page.row + 1 } else page))
wrapped_rows page p true e = wrapped_bottom page p e (page.row == page.top) refl
wrapped_rows page p false e = wrapped_below page p (nat_lt (page.row + 1) (length page.rows)) refl

-- After a wrap, the page is valid even before the cursor moves to the first column.
pub page_left : (page : Page) → IsPage page →
    IsPage (flagged_left (left_row page) (goes_down page && not (ends_blank (cursor_row page).cells)) (line_feed page))
unfolding line_feed
page_left page p = wrapped_rows page p (at_bottom page) refl

pub page_wrapped : (page : Page) → IsPage page → IsPage (wrapped_page page)
unfolding wrapped_page
page_wrapped page p =
    let q =
    flagged_left (left_row page) (goes_down page && not (ends_blank (cursor_row page).cells)) (line_feed page) in
    let left = page_left page p in
    page_at q.row 0 q left.cursor_row (omega arith) left

-- ---- Room at the cursor

pub page_room_made : (n : ℕ) (page : Page) → IsPage page → IsPage (room_made n page)
unfolding room_made
page_room_made n page p = page_if (lacks_room n page) (wrapped_page page) page (λ _. page_wrapped page p) (λ _. p)

pub width_room_made : (n : ℕ) (page : Page) → (room_made n page).width ≡ page.width
unfolding room_made
width_room_made n page =
    if_same (λ (q : Page). q.width) (lacks_room n page)
    (wrapped_page page) page page.width (width_wrapped_page page) refl

pub has_room_made : (n : ℕ) (page : Page) → n ≤ page.width → (room_made n page).column + n ≤ page.width
unfolding room_made
has_room_made n page h = by_room (lacks_room n page) refl where
  by_room : (b : Bool) → lacks_room n page ≡ b → (if b then wrapped_page page else page).column + n ≤ page.width
  by_room true e = omega (arith, column_wrapped_page page)
  by_room false e = grind (arith, nat_tests)

-- ---- A glyph at the cursor

pub page_glyph_put : (text : List ℕ) (wide : Bool) (attrs : Attrs) (page : Page) → IsGlyphText text wide →
    page.column + glyph_columns wide ≤ page.width → IsPage page → IsPage (glyph_put text wide attrs page)
page_glyph_put text false attrs page t h p =
    let cells = put_narrow page.column text attrs (cursor_row page).cells in
    let q = page_cursor_cells cells page p
    (IsRow-put_narrow page.width (cursor_row page) page.column text attrs (omega arith) t (IsRow-cursor_row page p)) in
    page_at page.row (page.column + 1) (with_cursor_cells cells page) q.cursor_row h q
page_glyph_put text true attrs page t h p =
    let cells = put_wide page.column text attrs (cursor_row page).cells in
    let q = page_cursor_cells cells page p
    (IsRow-put_wide page.width (cursor_row page) page.column text attrs (omega arith) t (IsRow-cursor_row page p)) in
    page_at page.row (page.column + 2) (with_cursor_cells cells page) q.cursor_row h q

-- The page is valid after a character of one or two columns is printed.
pub page_drawn : (text : List ℕ) (wide : Bool) (attrs : Attrs) (page : Page) →
    IsGlyphText text wide → glyph_columns wide ≤ page.width → IsPage page →
    IsPage (glyph_put text wide attrs (room_made (glyph_columns wide) page))
page_drawn text wide attrs page t h p =
    let n = glyph_columns wide in
    page_glyph_put text wide attrs (room_made n page) t
    (subst (λ (w : ℕ). (room_made n page).column + n ≤ w) (sym (width_room_made n page)) (has_room_made n page h))
    (page_room_made n page p)

-- ==== Printing a combining character, U+FE0F included, leaves a valid page.

-- ---- The cell before the cursor

is_right_past : (cells : List CellValue) (k : ℕ) → is_right_half (at cells k) ≡ true → k < length cells
is_right_past cells k h = elim (cases_lt k (length cells)) [
  | inl lt ↦ lt
  | inr ge ↦ let e : is_right_half (at cells k) ≡ false = ap is_right_half (at-past cells k ge) in cc
]

wide_not_right : (x : CellValue) → is_wide x ≡ true → is_right_half x ≡ false
wide_not_right x h = let b = not_both x in grind (arith, b, h)

place_by : (cells : List CellValue) (column : ℕ) → IsPaired cells → 0 < column →
    column ≤ length cells → (b : Bool) → is_right_half (at cells (column - 1)) ≡ b →
    IsMarkPlace cells column (if b then column - 2 else column - 1)
place_by cells column p pos h true e =
    let second : column ≡ 1 → ⊥ =
    λ one. let z : is_right_half (at cells 0) ≡ true =
    ap (λ (k : ℕ). is_right_half (at cells k)) (omega arith) ∙ e in let f = p.first in cc in
    let i : column - 2 + 1 ≡ column - 1 = omega arith in
    let w : is_wide (at cells (column - 2)) ≡ true =
    p.halves (column - 2) ∙ (ap (λ (k : ℕ). is_right_half (at cells k)) i ∙ e) in
    record {
      inside = omega arith;
      shown = wide_not_right (at cells (column - 2)) w;
      narrow = λ n. cc;
      wide = λ _. omega arith;
    }
place_by cells column p pos h false e =
    let i : column - 1 + 1 ≡ column = omega arith in
    record {
      inside = omega arith;
      shown = e;
      narrow = λ _. i;
      wide = λ w. is_right_past cells (column - 1 + 1) (sym (p.halves (column - 1)) ∙ w);
    }

pub mark_place : (page : Page) → IsPage page → 0 < page.column →
    IsMarkPlace (cursor_row page).cells page.column (mark_column page)
mark_place page p pos =
    let row = IsRow-cursor_row page p in
    let l = row.columns in
    let c = p.cursor_column in
    place_by (cursor_row page).cells page.column row.paired pos (omega arith)
    (is_right_half (at (cursor_row page).cells (page.column - 1))) refl

-- ---- A combining character

pub blank_marked : (mark : ℕ) (x : CellValue) → is_right_half x ≡ false → is_blank (cell_with_mark mark x) ≡ false
blank_marked mark (blank attrs) h = refl
blank_marked mark (glyph text wide attrs) h = refl
blank_marked mark right_half h = cc

pub page_mark_put : (k mark : ℕ) (page : Page) → IsMark mark →
    k < length (cursor_row page).cells → IsPage page → IsPage (mark_put k mark page)
page_mark_put k mark page m h p =
    let row = IsRow-cursor_row page p in
    let cells = (cursor_row page).cells in
    page_cursor_cells (marked_at k mark cells) page p
    (IsRow-marked_at page.width (cursor_row page) k mark
    (IsCell-marked mark (at cells k) m (All-get_or IsCell cells k default_blank h row.sound)) row)

-- ---- U+FE0F

any_push : (marks : List ℕ) (mark : ℕ) → is_selector mark ≡ true → list_any is_selector (marks ++ mark ∷ []) ≡ false → ⊥
any_push marks mark s e = let both = list_any-append is_selector marks (mark ∷ []) in grind (arith, both)

-- With U+FE0F among its combining characters, a glyph may be wide or narrow.
pub selected_text : (text : List ℕ) (was wide : Bool) (mark : ℕ) → IsGlyphText text was → IsMark mark →
    is_selector mark ≡ true → has_room text ≡ true → IsGlyphText (text ++ encode_utf8 mark) wide
selected_text text was wide mark old is_mark selector room =
    longer text was wide mark old is_mark room (λ none. absurd (any_push old.marks mark selector none))

pub selected_cell : (mark : ℕ) (wide : Bool) (x : CellValue) → IsMark mark →
    is_selector mark ≡ true → takes_mark x ≡ true → IsCell x → IsCell (cell_made_wide wide (cell_with_mark mark x))
selected_cell mark wide (blank attrs) m s t h = selected_text (0x20 ∷ []) false wide mark (IsCell-space attrs) m s refl
selected_cell mark wide (glyph text was attrs) m s t h = rw t (selected_text text was wide mark h m s t)
selected_cell mark wide right_half m s t h = tt

pub glyph_text : (wide : Bool) (x : CellValue) → is_blank x ≡ false →
    is_right_half x ≡ false → IsCell (cell_made_wide wide x) → IsGlyphText (text_of x) wide
glyph_text wide (blank attrs) b r h = cc
glyph_text wide (glyph text was attrs) b r h = h
glyph_text wide right_half b r h = cc

-- If a cell can validly be made wide, it can be made wide with different attributes.
pub lifted_cell : (attrs : Attrs) (x : CellValue) → IsCell (cell_made_wide true x) → IsCell (cell_made_wide true (cell_with_attrs attrs x))
lifted_cell attrs (blank was) h = tt
lifted_cell attrs (glyph text wide was) h = h
lifted_cell attrs right_half h = tt

pub page_widened : (k : ℕ) (attrs : Attrs) (page : Page) → IsSelected page k →
    k + 1 ≡ page.column → page.column < page.width → IsPage page →
    IsPage (record (with_cursor_cells (widened_at k attrs (cursor_row page).cells) page) { column = page.column + 1 })
page_widened k attrs page s before room p =
    let cells = (cursor_row page).cells in
    let q = page_cursor_cells (widened_at k attrs cells) page p
    (IsRow-widened_at page.width (cursor_row page) k attrs (omega arith)
    s.drawn s.place.shown (s.either true) (IsRow-cursor_row page p)) in
    page_at page.row (page.column + 1) (with_cursor_cells (widened_at k attrs cells) page) q.cursor_row (omega arith) q

pub page_made_wide : (k : ℕ) (attrs : Attrs) (page : Page)
    → IsSelected page k → is_wide (at (cursor_row page).cells k) ≡ false
    → page.column < page.width → IsPage page → IsPage (made_wide k attrs page)
unfolding made_wide
page_made_wide k attrs page s n room p = page_widened k attrs page s (s.place.narrow n) room p

pub page_made_narrow : (k : ℕ) (attrs : Attrs) (page : Page) →
    IsSelected page k → IsPage page → IsPage (made_narrow k attrs page)
page_made_narrow k attrs page s p =
    let row = IsRow-cursor_row page p in
    let l = row.columns in
    let inside = s.place.inside in
    page_cursor_cells (narrowed_at k attrs (cursor_row page).cells) page p
    (IsRow-narrowed_at page.width (cursor_row page) k attrs (omega arith) s.place.shown (s.either false) row)

pub page_width_followed : (k : ℕ) (attrs : Attrs) (page : Page) → IsSelected page k
    → (is_wide (at (cursor_row page).cells k) ≡ false
    → (is_wide_text (text_of (at (cursor_row page).cells k)) && nat_lt 1 page.width) ≡ true
    → page.column < page.width)
    → IsPage page → IsPage (width_followed k attrs page)
unfolding width_followed
page_width_followed k attrs page s room p =
    let cell = at (cursor_row page).cells k in
    let wide = is_wide_text (text_of cell) && nat_lt 1 page.width in
    page_if (is_wide cell) (if wide then page else made_narrow k attrs page)
    (if wide then made_wide k attrs page else page)
    (λ _. page_if wide page (made_narrow k attrs page) (λ _. p) (λ _. page_made_narrow k attrs page s p))
    (λ n. page_if wide (made_wide k attrs page) page (λ t. page_made_wide k attrs page s n (room n t) p) (λ _. p))

-- ---- A combining character is printed

pub cursor_row_put : (cells : List CellValue) (page : Page) → IsPage page →
    cursor_row (with_cursor_cells cells page) ≡ with_cells (cursor_row page) cells
cursor_row_put cells page p =
    get_or-set_at page.rows page.row page.row (with_cells (cursor_row page) cells) _ refl p.cursor_row

pub marked_selected : (k mark : ℕ) (page : Page) → IsMark mark → is_selector mark ≡ true →
    takes_mark (at (cursor_row page).cells k) ≡ true → IsMarkPlace (cursor_row page).cells page.column k →
    IsPage page → IsSelected (mark_put k mark page) k
marked_selected k mark page m s t place p =
    let row = IsRow-cursor_row page p in
    let cells = (cursor_row page).cells in
    let x = at cells k in
    let new = marked_at k mark cells in
    let e : (cursor_row (mark_put k mark page)).cells ≡ new =
    ap (λ (row : RowValue). row.cells) (cursor_row_put new page p) in
    let here : at new k ≡ cell_with_mark mark x = get_or-set_at cells k k (cell_with_mark mark x) default_blank refl place.inside in
    let l : length new ≡ length cells = length-set cells k (cell_with_mark mark x) in
    let w : is_wide (at new k) ≡ is_wide x = ap is_wide here ∙ is_wide-marked mark x in
    let r : is_right_half (at new k) ≡ is_right_half x = ap is_right_half here ∙ is_right_half-marked mark x in
    record {
      place = subst (λ (cs : List CellValue). IsMarkPlace cs page.column k) (sym e) (record {
        inside = rw l place.inside;
        shown = r ∙ place.shown;
        narrow = λ n. place.narrow (sym w ∙ n);
        wide = λ y. rw l (place.wide (sym w ∙ y));
      });
      drawn = ap (λ (cs : List CellValue). is_blank (at cs k)) e ∙ (ap is_blank here ∙ blank_marked mark x place.shown);
      either =
          λ wide. subst (λ (cs : List CellValue). IsCell (cell_made_wide wide (at cs k)))
          (sym e) (subst (λ (c : CellValue). IsCell (cell_made_wide wide c)) (sym here)
          (selected_cell mark wide x m s t (All-get_or IsCell cells k default_blank place.inside row.sound)));
    }
