-- Every step preserves a property of each cell of a page, if the drawn cells have it.
use Rattle.std.proofs.Common.{ℕ, zero, suc, ◌+◌, ◌-◌, ◌<◌, ◌==◌, ◌&&◌, nat_lt, min, not, Bool, true, false, List, []}
use Rattle.std.proofs.Common.{◌∷◌, length, take, drop, sym, subst, inl, inr, arith}
use Rattle.std.specs.Prelude.{◌||◌, if◌then◌else◌, All, Option, Some, None, replicate}
use Rattle.std.specs.Char.{encode_utf8}
use Rattle.std.proofs.lemmas.Bool.{cases_lt}
use Rattle.std.proofs.lemmas.List.{get_or_past}
use Rattle.std.proofs.lemmas.List.Elements.{All-nil, All-cons, All-head, All-tail, All-append, All-take, All-drop}
use Rattle.std.proofs.lemmas.List.Elements.{All-replicate, All-set, All-get_or, All-from_get_or}
use Rattle.vt_cells.specs.Attrs.{default_attrs, Attrs}
use Rattle.vt_cells.specs.Cell.{CellValue, attrs_of, blank, glyph, right_half, default_blank, text_of, is_wide}
use Rattle.vt_cells.specs.Cell.{cell_with_mark, cell_made_wide, is_right_half}
use Rattle.vt_cells.specs.Glyph.{columns_of, is_selector, is_wide_text}
use Rattle.vt_rows.specs.Cells.{at, cell_cut_from_right_half, cells_before_cut, cells_after_cut, put_cells, blanks}
use Rattle.vt_rows.specs.Cells.{put_narrow, put_wide, cells_after_erase, marked_at, widened_at, narrowed_at, ends_blank}
use Rattle.vt_rows.specs.Cells.{cells_after_move, moved_at, insert_column, insert_source, delete_source}
use Rattle.vt_rows.specs.Cells.{cells_after_insert, cells_after_delete}
use Rattle.vt_rows.specs.Row.{RowValue, blank_row, with_cells, inserted_row, deleted_row}
use Rattle.vt_rows.proofs.Moves.{length-moved, at-moved}
use Rattle.vt_grid.specs.Page.{Page, row_or, row_at, cursor_row, with_row, moved_rows, up_source, scrolled_up}
use Rattle.vt_grid.specs.Page.{blank_page, rows_up}
use Rattle.vt_grid.specs.Moves.{at_bottom, line_feed}
use Rattle.vt_grid.specs.Erasing.{erased_columns, erased_chars, erased_rest, blanked_below, erased_below, erased_start}
use Rattle.vt_grid.specs.Erasing.{erased_row, blanked_above, erased_above, erased_page}
use Rattle.vt_grid.specs.Printing.{carries, lifted_page, with_cursor_cells, left_row, goes_down, flagged_left}
use Rattle.vt_grid.specs.Printing.{wrapped_page, lacks_room, room_made, glyph_put, mark_column, takes_mark, mark_put}
use Rattle.vt_grid.specs.Printing.{page_after_wrap, made_wide, made_narrow, width_followed, mark_printed}
use Rattle.vt_grid.specs.Printing.{page_after_print, printed_by}
use Rattle.vt_grid.specs.Regions.{in_region, last_row, region_set}
use Rattle.vt_grid.specs.Shifts.{down_source, rows_down, reverse_index, scrolled_down, lines_inserted, lines_deleted}
use Rattle.vt_grid.specs.Shifts.{chars_inserted, chars_deleted}
use Rattle.vt_grid.proofs.Pages.{length-moved_rows, row_or-moved_rows}

-- ==== Every step preserves a property of each cell of a page, if the drawn cells have it.

-- A property P of cells is preserved by every step that draws with attributes that satisfy F and prints characters that
-- satisfy Q.
pub record IsStable (P : CellValue → Type 0) (F : Attrs → Type 0) (Q : ℕ → Type 0) : Type 0 where
  pub plain : F default_attrs
  pub empty : (attrs : Attrs) → F attrs → P (blank attrs)
  pub half : P right_half
  -- The blank that replaces one cell of a wide character whose other cell is lost.
  pub torn : (cell : CellValue) → P cell → P (blank (attrs_of cell))
  pub space : (attrs : Attrs) → F attrs → P (glyph (0x20 ∷ []) false attrs)
  pub wider : (wide : Bool) (cell : CellValue) → P cell → P (cell_made_wide wide cell)
  pub marks : (mark : ℕ) (cell : CellValue) → Q mark → P cell → P (cell_with_mark mark cell)
  pub prints : (c : ℕ) (wide : Bool) (attrs : Attrs) → Q c → F attrs → P (glyph (encode_utf8 c) wide attrs)
  -- The glyph of a cell after it is printed again as a wide glyph.
  pub again : (cell : CellValue) (attrs : Attrs) → P cell → F attrs → P (glyph (text_of cell) true attrs)

abbrev pub EachCell : (CellValue → Type 0) → RowValue → Type 0
EachCell P row = All P row.cells

abbrev pub EachRow : (CellValue → Type 0) → List RowValue → Type 0
EachRow P rows = All (EachCell P) rows

-- ---- cells

pub stable_default_blank : {P : CellValue → Type 0} {F : Attrs → Type 0} {Q : ℕ → Type 0} → IsStable P F Q → P default_blank
stable_default_blank rule = rule.empty default_attrs rule.plain

stable_mended : {P : CellValue → Type 0} {F : Attrs → Type 0} {Q : ℕ → Type 0} → IsStable P F Q → (x : CellValue)
    → P x → P (cell_cut_from_right_half x)
stable_mended rule (blank attrs) h = h
stable_mended rule (glyph text true attrs) h = rule.torn (glyph text true attrs) h
stable_mended rule (glyph text false attrs) h = h
stable_mended rule right_half h = h

stable_shut : {P : CellValue → Type 0} {F : Attrs → Type 0} {Q : ℕ → Type 0} → IsStable P F Q
    → (cells : List CellValue) → All P cells → All P (cells_before_cut cells)
stable_shut {P} {F} {Q} rule [] h = h
stable_shut {P} {F} {Q} rule (x ∷ []) h =
    All-cons P (cell_cut_from_right_half x) [] (stable_mended rule x (All-head P x [] h)) (All-nil P)
stable_shut {P} {F} {Q} rule (x ∷ y ∷ xs) h =
    All-cons P x (cells_before_cut (y ∷ xs)) (All-head P x (y ∷ xs) h) (stable_shut rule (y ∷ xs) (All-tail P x (y ∷ xs) h))

stable_opened : {P : CellValue → Type 0} {F : Attrs → Type 0} {Q : ℕ → Type 0} → IsStable P F Q
    → (o : CellValue) (cells : List CellValue) → P o → All P cells → All P (cells_after_cut o cells)
stable_opened {P} {F} {Q} rule o [] i h = h
stable_opened {P} {F} {Q} rule o (right_half ∷ xs) i h = All-cons P o xs i (All-tail P right_half xs h)
stable_opened {P} {F} {Q} rule o (blank attrs ∷ xs) i h = h
stable_opened {P} {F} {Q} rule o (glyph text wide attrs ∷ xs) i h = h

stable_put_cells : {P : CellValue → Type 0} {F : Attrs → Type 0} {Q : ℕ → Type 0} → IsStable P F Q
    → (c n : ℕ) (o : CellValue) (new cells : List CellValue) → P o → All P new → All P cells
    → All P (put_cells c o new n cells)
unfolding put_cells
stable_put_cells {P} {F} {Q} rule c n o new cells i h all =
    let rest = drop n (drop c cells) in
    All-append P (cells_before_cut (take c cells)) _ (stable_shut rule (take c cells) (All-take P c cells all))
    (All-append P new (cells_after_cut o rest) h (stable_opened rule o rest i
    (All-drop P n (drop c cells) (All-drop P c cells all))))

stable_one : {P : CellValue → Type 0} {F : Attrs → Type 0} {Q : ℕ → Type 0} → IsStable P F Q → (x : CellValue) → P x
    → All P (x ∷ [])
stable_one {P} {F} {Q} rule x h = All-cons P x [] h (All-nil P)

stable_two : {P : CellValue → Type 0} {F : Attrs → Type 0} {Q : ℕ → Type 0} → IsStable P F Q → (x : CellValue) → P x
    → All P (x ∷ right_half ∷ [])
stable_two {P} {F} {Q} rule x h = All-cons P x (right_half ∷ []) h (stable_one rule right_half rule.half)

pub stable_at : {P : CellValue → Type 0} {F : Attrs → Type 0} {Q : ℕ → Type 0} → IsStable P F Q
    → (cells : List CellValue) (k : ℕ) → All P cells → P (at cells k)
stable_at {P} {F} {Q} rule cells k all = elim (cases_lt k (length cells)) [
  | inl lt ↦ All-get_or P cells k default_blank lt all
  | inr past ↦ subst P (sym (get_or_past cells k default_blank past)) (stable_default_blank rule)
]

-- ---- rows

pub stable_blank_row : {P : CellValue → Type 0} {F : Attrs → Type 0} {Q : ℕ → Type 0} → IsStable P F Q
    → (attrs : Attrs) (width : ℕ) → F attrs → (EachCell P) (blank_row attrs width)
stable_blank_row {P} {F} {Q} rule attrs width h = All-replicate P width (blank attrs) (rule.empty attrs h)

pub stable_row_or : {P : CellValue → Type 0} {F : Attrs → Type 0} {Q : ℕ → Type 0} → IsStable P F Q
    → (width : ℕ) (rows : List RowValue) (r : ℕ) → EachRow P rows → (EachCell P) (row_or width rows r)
stable_row_or {P} {F} {Q} rule width rows r all = elim (cases_lt r (length rows)) [
  | inl lt ↦ All-get_or (EachCell P) rows r (blank_row default_attrs width) lt all
  | inr past ↦ subst (EachCell P) (sym (get_or_past rows r (blank_row default_attrs width) past))
      (stable_blank_row rule default_attrs width rule.plain)
]

pub stable_cursor_row : {P : CellValue → Type 0} {F : Attrs → Type 0} {Q : ℕ → Type 0} → IsStable P F Q
    → (page : Page) → EachRow P page.rows → All P (cursor_row page).cells
stable_cursor_row {P} {F} {Q} rule page all = stable_row_or rule page.width page.rows page.row all

pub stable_with_row : {P : CellValue → Type 0} {F : Attrs → Type 0} {Q : ℕ → Type 0} → IsStable P F Q
    → (r : ℕ) (row : RowValue) (page : Page) → (EachCell P) row → EachRow P page.rows
    → EachRow P (with_row r row page).rows
stable_with_row {P} {F} {Q} rule r row page h all = All-set (EachCell P) page.rows r row h all

stable_cursor_cells : {P : CellValue → Type 0} {F : Attrs → Type 0} {Q : ℕ → Type 0} → IsStable P F Q
    → (cells : List CellValue) (page : Page) → All P cells → EachRow P page.rows
    → EachRow P (with_cursor_cells cells page).rows
stable_cursor_cells {P} {F} {Q} rule cells page h all =
    stable_with_row rule page.row (with_cells (cursor_row page) cells) page h all

pub stable_if : {P : CellValue → Type 0} {F : Attrs → Type 0} {Q : ℕ → Type 0} → IsStable P F Q
    → (b : Bool) (x y : Page) → EachRow P x.rows → EachRow P y.rows → EachRow P (if b then x else y).rows
stable_if {P} {F} {Q} rule true x y p q = p
stable_if {P} {F} {Q} rule false x y p q = q

pub stable_scrolled_up : {P : CellValue → Type 0} {F : Attrs → Type 0} {Q : ℕ → Type 0} → IsStable P F Q
    → (n : ℕ) (page : Page) → EachRow P page.rows → EachRow P (scrolled_up n page).rows
stable_scrolled_up {P} {F} {Q} rule n page all =
    let source = up_source (length page.rows) page.top page.bottom n in
    All-from_get_or (EachCell P) (moved_rows page.width source page.rows) (blank_row default_attrs page.width) (λ r lt.
    let i : r < length page.rows = omega (arith, length-moved_rows page.width source page.rows) in
    subst (EachCell P) (sym (row_or-moved_rows page.width source page.rows r i))
    (stable_row_or rule page.width page.rows (source r) all))

pub stable_line_feed : {P : CellValue → Type 0} {F : Attrs → Type 0} {Q : ℕ → Type 0} → IsStable P F Q → (page : Page)
    → EachRow P page.rows → EachRow P (line_feed page).rows
unfolding line_feed
stable_line_feed {P} {F} {Q} rule page all =
    stable_if rule (at_bottom page) (scrolled_up 1 page)
    (if nat_lt (page.row + 1) (length page.rows) then record page { row = page.row + 1 } else page)
    (stable_scrolled_up rule 1 page all)
    (stable_if rule (nat_lt (page.row + 1) (length page.rows)) (record page { row = page.row + 1 }) page all all)

pub stable_blank : {P : CellValue → Type 0} {F : Attrs → Type 0} {Q : ℕ → Type 0} → IsStable P F Q
    → (height width : ℕ) → EachRow P (blank_page height width).rows
stable_blank {P} {F} {Q} rule height width =
    All-replicate (EachCell P) height (blank_row default_attrs width)
    (stable_blank_row rule default_attrs width rule.plain)

-- ---- erasing

stable_erased : {P : CellValue → Type 0} {F : Attrs → Type 0} {Q : ℕ → Type 0} → IsStable P F Q
    → (c n : ℕ) (attrs : Attrs) (cells : List CellValue) → F attrs → All P cells → All P (cells_after_erase c n attrs cells)
stable_erased {P} {F} {Q} rule c n attrs cells h all =
    stable_put_cells rule c n default_blank (blanks attrs n) cells (stable_default_blank rule)
    (All-replicate P n (blank attrs) (rule.empty attrs h)) all

pub stable_erased_columns : {P : CellValue → Type 0} {F : Attrs → Type 0} {Q : ℕ → Type 0} → IsStable P F Q
    → (c n : ℕ) (attrs : Attrs) (page : Page) → F attrs → EachRow P page.rows
    → EachRow P (erased_columns c n attrs page).rows
stable_erased_columns {P} {F} {Q} rule c n attrs page h all =
    stable_cursor_cells rule (cells_after_erase c n attrs (cursor_row page).cells) page
    (stable_erased rule c n attrs (cursor_row page).cells h (stable_cursor_row rule page all)) all

pub stable_erased_chars : {P : CellValue → Type 0} {F : Attrs → Type 0} {Q : ℕ → Type 0} → IsStable P F Q
    → (n : ℕ) (attrs : Attrs) (page : Page) → F attrs → EachRow P page.rows → EachRow P (erased_chars n attrs page).rows
unfolding erased_chars
stable_erased_chars {P} {F} {Q} rule n attrs page h all =
    let count = min n (page.width - page.column) in
    stable_if rule ((n == 0) || (page.column == page.width)) page (erased_columns page.column count attrs page) all
    (stable_erased_columns rule page.column count attrs page h all)

pub stable_erased_rest : {P : CellValue → Type 0} {F : Attrs → Type 0} {Q : ℕ → Type 0} → IsStable P F Q
    → (attrs : Attrs) (page : Page) → F attrs → EachRow P page.rows → EachRow P (erased_rest attrs page).rows
unfolding erased_rest
stable_erased_rest {P} {F} {Q} rule attrs page h all =
    let count = page.width - page.column in
    stable_if rule (page.column == page.width) page (erased_columns page.column count attrs page) all
    (stable_erased_columns rule page.column count attrs page h all)

stable_blanked_below : {P : CellValue → Type 0} {F : Attrs → Type 0} {Q : ℕ → Type 0} → IsStable P F Q
    → (attrs : Attrs) (page : Page) → F attrs → EachRow P page.rows → EachRow P (blanked_below attrs page).rows
stable_blanked_below {P} {F} {Q} rule attrs page h all =
    let n = length page.rows - (page.row + 1) in
    All-append (EachCell P) (take (page.row + 1) page.rows) (replicate n (blank_row attrs page.width))
    (All-take (EachCell P) (page.row + 1) page.rows all)
    (All-replicate (EachCell P) n (blank_row attrs page.width) (stable_blank_row rule attrs page.width h))

pub stable_erased_below : {P : CellValue → Type 0} {F : Attrs → Type 0} {Q : ℕ → Type 0} → IsStable P F Q
    → (attrs : Attrs) (page : Page) → F attrs → EachRow P page.rows → EachRow P (erased_below attrs page).rows
unfolding erased_below
stable_erased_below {P} {F} {Q} rule attrs page h all =
    stable_blanked_below rule attrs (erased_rest attrs page) h (stable_erased_rest rule attrs page h all)

-- ---- printing

stable_flagged_left : {P : CellValue → Type 0} {F : Attrs → Type 0} {Q : ℕ → Type 0} → IsStable P F Q
    → (left : Option ℕ) (is_wrapped : Bool) (page : Page) → EachRow P page.rows
    → EachRow P (flagged_left left is_wrapped page).rows
stable_flagged_left {P} {F} {Q} rule (Some r) is_wrapped page all =
    stable_with_row rule r (record (row_at page r) { wrapped = is_wrapped }) page
    (stable_row_or rule page.width page.rows r all) all
stable_flagged_left {P} {F} {Q} rule None is_wrapped page all = all

stable_wrapped_page : {P : CellValue → Type 0} {F : Attrs → Type 0} {Q : ℕ → Type 0} → IsStable P F Q → (page : Page)
    → EachRow P page.rows → EachRow P (wrapped_page page).rows
unfolding wrapped_page
stable_wrapped_page {P} {F} {Q} rule page all =
    stable_flagged_left rule (left_row page) (goes_down page && not (ends_blank (cursor_row page).cells))
    (line_feed page) (stable_line_feed rule page all)

stable_room_made : {P : CellValue → Type 0} {F : Attrs → Type 0} {Q : ℕ → Type 0} → IsStable P F Q
    → (n : ℕ) (page : Page) → EachRow P page.rows → EachRow P (room_made n page).rows
unfolding room_made
stable_room_made {P} {F} {Q} rule n page all =
    stable_if rule (lacks_room n page) (wrapped_page page) page (stable_wrapped_page rule page all) all

stable_glyph_put : {P : CellValue → Type 0} {F : Attrs → Type 0} {Q : ℕ → Type 0} → IsStable P F Q
    → (text : List ℕ) (wide : Bool) (attrs : Attrs) (page : Page) → P (glyph text wide attrs) → F attrs
    → EachRow P page.rows → EachRow P (glyph_put text wide attrs page).rows
stable_glyph_put {P} {F} {Q} rule text false attrs page put h all =
    let cells = (cursor_row page).cells in
    stable_cursor_cells rule (put_narrow page.column text attrs cells) page
    (stable_put_cells rule page.column 1 (glyph (0x20 ∷ []) false attrs) (glyph text false attrs ∷ []) cells
    (rule.space attrs h) (stable_one rule (glyph text false attrs) put) (stable_cursor_row rule page all)) all
stable_glyph_put {P} {F} {Q} rule text true attrs page put h all =
    let cells = (cursor_row page).cells in
    stable_cursor_cells rule (put_wide page.column text attrs cells) page
    (stable_put_cells rule page.column 2 (blank attrs) (glyph text true attrs ∷ right_half ∷ []) cells
    (rule.empty attrs h) (stable_two rule (glyph text true attrs) put) (stable_cursor_row rule page all)) all

stable_mark_put : {P : CellValue → Type 0} {F : Attrs → Type 0} {Q : ℕ → Type 0} → IsStable P F Q
    → (k mark : ℕ) (page : Page) → Q mark → EachRow P page.rows → EachRow P (mark_put k mark page).rows
stable_mark_put {P} {F} {Q} rule k mark page q all =
    let cells = (cursor_row page).cells in
    let old = stable_cursor_row rule page all in
    stable_cursor_cells rule (marked_at k mark cells) page
    (All-set P cells k (cell_with_mark mark (at cells k)) (rule.marks mark (at cells k) q (stable_at rule cells k old)) old) all

stable_carried : {P : CellValue → Type 0} {F : Attrs → Type 0} {Q : ℕ → Type 0} → IsStable P F Q
    → (mark : ℕ) (attrs : Attrs) (page : Page) → Q mark → F attrs
    → EachRow P page.rows → EachRow P (page_after_wrap mark attrs page).rows
unfolding page_after_wrap
stable_carried {P} {F} {Q} rule mark attrs page q h all =
    let k = mark_column page in
    let cell = at (cursor_row page).cells k in
    let left = lifted_page k attrs page in
    let old = stable_at rule (cursor_row page).cells k (stable_cursor_row rule page all) in
    stable_glyph_put rule (text_of (cell_with_mark mark cell)) true attrs (wrapped_page left)
    (rule.again (cell_with_mark mark cell) attrs (rule.marks mark cell q old) h) h
    (stable_wrapped_page rule left (stable_erased_columns rule k 1 attrs page h all))

stable_made_wide : {P : CellValue → Type 0} {F : Attrs → Type 0} {Q : ℕ → Type 0} → IsStable P F Q
    → (k : ℕ) (attrs : Attrs) (page : Page) → F attrs → EachRow P page.rows → EachRow P (made_wide k attrs page).rows
unfolding made_wide
stable_made_wide {P} {F} {Q} rule k attrs page h all =
    let cells = (cursor_row page).cells in
    let old = stable_cursor_row rule page all in
    let wide = cell_made_wide true (at cells k) in
    stable_cursor_cells rule (widened_at k attrs cells) page
    (stable_put_cells rule k 2 (blank attrs) (wide ∷ right_half ∷ []) cells (rule.empty attrs h)
    (stable_two rule wide (rule.wider true (at cells k) (stable_at rule cells k old))) old) all

stable_made_narrow : {P : CellValue → Type 0} {F : Attrs → Type 0} {Q : ℕ → Type 0} → IsStable P F Q
    → (k : ℕ) (attrs : Attrs) (page : Page) → F attrs → EachRow P page.rows → EachRow P (made_narrow k attrs page).rows
stable_made_narrow {P} {F} {Q} rule k attrs page h all =
    let cells = (cursor_row page).cells in
    let old = stable_cursor_row rule page all in
    let narrow = cell_made_wide false (at cells k) in
    stable_cursor_cells rule (narrowed_at k attrs cells) page
    (stable_put_cells rule k 1 (glyph (0x20 ∷ []) false attrs) (narrow ∷ []) cells (rule.space attrs h)
    (stable_one rule narrow (rule.wider false (at cells k) (stable_at rule cells k old))) old) all

stable_width_followed : {P : CellValue → Type 0} {F : Attrs → Type 0} {Q : ℕ → Type 0} → IsStable P F Q
    → (k : ℕ) (attrs : Attrs) (page : Page) → F attrs → EachRow P page.rows
    → EachRow P (width_followed k attrs page).rows
unfolding width_followed
stable_width_followed {P} {F} {Q} rule k attrs page h all =
    let cell = at (cursor_row page).cells k in
    let wide = is_wide_text (text_of cell) && nat_lt 1 page.width in
    stable_if rule (is_wide cell) (if wide then page else made_narrow k attrs page)
    (if wide then made_wide k attrs page else page)
    (stable_if rule wide page (made_narrow k attrs page) all (stable_made_narrow rule k attrs page h all))
    (stable_if rule wide (made_wide k attrs page) page (stable_made_wide rule k attrs page h all) all)

stable_mark_printed : {P : CellValue → Type 0} {F : Attrs → Type 0} {Q : ℕ → Type 0} → IsStable P F Q
    → (mark : ℕ) (attrs : Attrs) (page : Page) → Q mark → F attrs → EachRow P page.rows
    → EachRow P (mark_printed mark attrs page).rows
unfolding mark_printed
stable_mark_printed {P} {F} {Q} rule mark attrs page q h all =
    let k = mark_column page in
    let put = mark_put k mark page in
    let done = stable_mark_put rule k mark page q all in
    let put_on : Page = if is_selector mark then width_followed k attrs put else put in
    stable_if rule (carries mark page) (page_after_wrap mark attrs page)
    (if takes_mark (at (cursor_row page).cells k) then put_on else page)
    (stable_carried rule mark attrs page q h all)
    (stable_if rule (takes_mark (at (cursor_row page).cells k)) put_on page
    (stable_if rule (is_selector mark) (width_followed k attrs put) put
    (stable_width_followed rule k attrs put h done) done) all)

stable_printed_by : {P : CellValue → Type 0} {F : Attrs → Type 0} {Q : ℕ → Type 0} → IsStable P F Q
    → (columns : Option ℕ) (c : ℕ) (attrs : Attrs) (page : Page) → Q c → F attrs → EachRow P page.rows
    → EachRow P (printed_by columns c attrs page).rows
stable_printed_by {P} {F} {Q} rule None c attrs page q h all = all
stable_printed_by {P} {F} {Q} rule (Some zero) c attrs page q h all =
    stable_if rule (page.column == 0) page (mark_printed c attrs page) all
    (stable_mark_printed rule c attrs page q h all)
stable_printed_by {P} {F} {Q} rule (Some (suc zero)) c attrs page q h all =
    stable_glyph_put rule (encode_utf8 c) false attrs (room_made 1 page) (rule.prints c false attrs q h) h
    (stable_room_made rule 1 page all)
stable_printed_by {P} {F} {Q} rule (Some (suc (suc n))) c attrs page q h all =
    stable_if rule (nat_lt 1 page.width) (glyph_put (encode_utf8 c) true attrs (room_made 2 page)) page
    (stable_glyph_put rule (encode_utf8 c) true attrs (room_made 2 page) (rule.prints c true attrs q h) h
    (stable_room_made rule 2 page all)) all

pub stable_printed : {P : CellValue → Type 0} {F : Attrs → Type 0} {Q : ℕ → Type 0} → IsStable P F Q
    → (c : ℕ) (attrs : Attrs) (page : Page) → Q c → F attrs → EachRow P page.rows
    → EachRow P (page_after_print c attrs page).rows
stable_printed {P} {F} {Q} rule c attrs page q h all = stable_printed_by rule (columns_of c) c attrs page q h all

-- ==== Moving rows and columns, and erasing, preserve a property of each cell.

-- ---- rows

stable_moved_rows : {P : CellValue → Type 0} {F : Attrs → Type 0} {Q : ℕ → Type 0} → IsStable P F Q
    → (width : ℕ) (source : ℕ → ℕ) (rows : List RowValue) → EachRow P rows → EachRow P (moved_rows width source rows)
stable_moved_rows {P} {F} {Q} rule width source rows all =
    All-from_get_or (EachCell P) (moved_rows width source rows) (blank_row default_attrs width) (λ r lt.
    let i : r < length rows = omega (arith, length-moved_rows width source rows) in
    subst (EachCell P) (sym (row_or-moved_rows width source rows r i)) (stable_row_or rule width rows (source r) all))

stable_rows_down : {P : CellValue → Type 0} {F : Attrs → Type 0} {Q : ℕ → Type 0} → IsStable P F Q
    → (width top bottom n : ℕ) (rows : List RowValue) → EachRow P rows → EachRow P (rows_down width top bottom n rows)
stable_rows_down {P} {F} {Q} rule width top bottom n rows all =
    let turned = moved_rows width (down_source (length rows) top bottom n) rows in
    let there = stable_moved_rows rule width (down_source (length rows) top bottom n) rows all in
    All-set (EachCell P) turned bottom (record (row_or width turned bottom) { wrapped = false })
    (stable_row_or rule width turned bottom there) there

pub stable_scrolled_down : {P : CellValue → Type 0} {F : Attrs → Type 0} {Q : ℕ → Type 0} → IsStable P F Q
    → (n : ℕ) (page : Page) → EachRow P page.rows → EachRow P (scrolled_down n page).rows
stable_scrolled_down {P} {F} {Q} rule n page all = stable_rows_down rule page.width page.top page.bottom n page.rows all

pub stable_reverse_index : {P : CellValue → Type 0} {F : Attrs → Type 0} {Q : ℕ → Type 0} → IsStable P F Q
    → (page : Page) → EachRow P page.rows → EachRow P (reverse_index page).rows
unfolding reverse_index
stable_reverse_index {P} {F} {Q} rule page all =
    stable_if rule ((page.row == page.top) || (page.row == 0)) (scrolled_down 1 page)
    (record page { row = page.row - 1 }) (stable_scrolled_down rule 1 page all) all

pub stable_lines_inserted : {P : CellValue → Type 0} {F : Attrs → Type 0} {Q : ℕ → Type 0} → IsStable P F Q
    → (n : ℕ) (page : Page) → EachRow P page.rows → EachRow P (lines_inserted n page).rows
unfolding lines_inserted
stable_lines_inserted {P} {F} {Q} rule n page all =
    stable_if rule (in_region page) (record page { rows = rows_down page.width page.row page.bottom n page.rows }) page
    (stable_rows_down rule page.width page.row page.bottom n page.rows all) all

pub stable_lines_deleted : {P : CellValue → Type 0} {F : Attrs → Type 0} {Q : ℕ → Type 0} → IsStable P F Q
    → (n : ℕ) (page : Page) → EachRow P page.rows → EachRow P (lines_deleted n page).rows
unfolding lines_deleted
stable_lines_deleted {P} {F} {Q} rule n page all =
    stable_if rule (in_region page) (record page { rows = rows_up page.width page.row page.bottom n page.rows }) page
    (stable_moved_rows rule page.width (up_source (length page.rows) page.row page.bottom n) page.rows all) all

pub stable_region_set : {P : CellValue → Type 0} {F : Attrs → Type 0} {Q : ℕ → Type 0} → IsStable P F Q
    → (top bottom : ℕ) (page : Page) → EachRow P page.rows → EachRow P (region_set top bottom page).rows
unfolding region_set
stable_region_set {P} {F} {Q} rule top bottom page all =
    let low = min bottom (last_row page) in
    stable_if rule (nat_lt top low) (record page { top = top; bottom = low; row = top; column = 0 })
    (record page { top = 0; bottom = last_row page; row = 0; column = 0 }) all all

-- ---- columns

cell_if : {P : CellValue → Type 0} {F : Attrs → Type 0} {Q : ℕ → Type 0} → IsStable P F Q
    → (b : Bool) (x y : CellValue) → P x → P y → P (if b then x else y)
cell_if {P} {F} {Q} rule true x y p q = p
cell_if {P} {F} {Q} rule false x y p q = q

stable_moved_at : {P : CellValue → Type 0} {F : Attrs → Type 0} {Q : ℕ → Type 0} → IsStable P F Q
    → (n : ℕ) (source : ℕ → ℕ) (cells : List CellValue) (k : ℕ) → All P cells → P (moved_at n source cells k)
stable_moved_at {P} {F} {Q} rule n source cells k all =
    let x = at cells (source k) in
    let there = stable_at rule cells (source k) all in
    let alone = is_right_half x && not (source k == source (k - 1) + 1) in
    cell_if rule (is_wide x && not (nat_lt (k + 1) n && (source (k + 1) == source k + 1))) (blank (attrs_of x))
    (if alone then default_blank else x) (rule.torn x there)
    (cell_if rule alone default_blank x (stable_default_blank rule) there)

pub stable_moved : {P : CellValue → Type 0} {F : Attrs → Type 0} {Q : ℕ → Type 0} → IsStable P F Q
    → (n : ℕ) (source : ℕ → ℕ) (cells : List CellValue) → All P cells → All P (cells_after_move n source cells)
stable_moved {P} {F} {Q} rule n source cells all =
    All-from_get_or P (cells_after_move n source cells) default_blank (λ k lt.
    let i : k < n = omega (arith, length-moved n source cells) in
    subst P (sym (at-moved n source cells k i)) (stable_moved_at rule n source cells k all))

pub stable_chars_inserted : {P : CellValue → Type 0} {F : Attrs → Type 0} {Q : ℕ → Type 0} → IsStable P F Q
    → (n : ℕ) (page : Page) → EachRow P page.rows → EachRow P (chars_inserted n page).rows
unfolding cells_after_insert
stable_chars_inserted {P} {F} {Q} rule n page all =
    let cells = (cursor_row page).cells in
    stable_with_row rule page.row (inserted_row page.column n (cursor_row page)) page
    (stable_moved rule (length cells) (insert_source (length cells) (insert_column page.column cells) n) cells
    (stable_cursor_row rule page all)) all

pub stable_chars_deleted : {P : CellValue → Type 0} {F : Attrs → Type 0} {Q : ℕ → Type 0} → IsStable P F Q
    → (n : ℕ) (page : Page) → EachRow P page.rows → EachRow P (chars_deleted n page).rows
unfolding cells_after_delete
stable_chars_deleted {P} {F} {Q} rule n page all =
    let cells = (cursor_row page).cells in
    stable_with_row rule page.row (deleted_row page.column n (cursor_row page)) page
    (stable_moved rule (length cells) (delete_source page.column n) cells (stable_cursor_row rule page all)) all

-- ---- erasing

pub stable_erased_start : {P : CellValue → Type 0} {F : Attrs → Type 0} {Q : ℕ → Type 0} → IsStable P F Q
    → (attrs : Attrs) (page : Page) → F attrs → EachRow P page.rows → EachRow P (erased_start attrs page).rows
unfolding erased_start
stable_erased_start {P} {F} {Q} rule attrs page h all =
    stable_erased_columns rule 0 (min (page.column + 1) page.width) attrs page h all

pub stable_erased_row : {P : CellValue → Type 0} {F : Attrs → Type 0} {Q : ℕ → Type 0} → IsStable P F Q
    → (attrs : Attrs) (page : Page) → F attrs → EachRow P page.rows → EachRow P (erased_row attrs page).rows
stable_erased_row {P} {F} {Q} rule attrs page h all =
    stable_with_row rule page.row (blank_row attrs page.width) page (stable_blank_row rule attrs page.width h) all

stable_blanked_above : {P : CellValue → Type 0} {F : Attrs → Type 0} {Q : ℕ → Type 0} → IsStable P F Q
    → (attrs : Attrs) (page : Page) → F attrs → EachRow P page.rows → EachRow P (blanked_above attrs page).rows
stable_blanked_above {P} {F} {Q} rule attrs page h all =
    All-append (EachCell P) (replicate page.row (blank_row attrs page.width)) (drop page.row page.rows)
    (All-replicate (EachCell P) page.row (blank_row attrs page.width) (stable_blank_row rule attrs page.width h))
    (All-drop (EachCell P) page.row page.rows all)

pub stable_erased_above : {P : CellValue → Type 0} {F : Attrs → Type 0} {Q : ℕ → Type 0} → IsStable P F Q
    → (attrs : Attrs) (page : Page) → F attrs → EachRow P page.rows → EachRow P (erased_above attrs page).rows
unfolding erased_above
stable_erased_above {P} {F} {Q} rule attrs page h all =
    stable_blanked_above rule attrs (erased_start attrs page) h (stable_erased_start rule attrs page h all)

pub stable_erased_page : {P : CellValue → Type 0} {F : Attrs → Type 0} {Q : ℕ → Type 0} → IsStable P F Q
    → (attrs : Attrs) (page : Page) → F attrs → EachRow P page.rows → EachRow P (erased_page attrs page).rows
stable_erased_page {P} {F} {Q} rule attrs page h all =
    All-replicate (EachCell P) (length page.rows) (blank_row attrs page.width)
    (stable_blank_row rule attrs page.width h)
