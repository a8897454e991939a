-- Scrollback in steps: its cells keep their properties, and nothing outside of it depends on it.
use Rattle.std.proofs.Common.{◌≡◌, ℕ, zero, suc, ◌+◌, ◌-◌, ◌==◌, nat_lt, min, Bool, true, false, List, [], ◌∷◌, ◌++◌}
use Rattle.std.proofs.Common.{length, take, drop, map, refl, arith, sym, ap, ap₂, ◌∙◌}
use Rattle.std.specs.Prelude.{if◌then◌else◌, All, Option, Some, None}
use Rattle.std.specs.List.{list_all, range_with_len}
use Rattle.std.proofs.lemmas.List.{length-append, length-take, length-drop, length-map, nil_from_length}
use Rattle.std.proofs.lemmas.List.Elements.{All-nil, All-cons, All-head, All-tail, All-append, All-take, All-drop}
use Rattle.std.proofs.lemmas.List.Elements.{All-set, All-map, All-weaker}
use Rattle.vt_cells.specs.Attrs.{default_attrs, Attrs}
use Rattle.vt_cells.specs.Cell.{CellValue, is_default_blank, blank, glyph, right_half, cell_made_wide, cell_with_mark}
use Rattle.vt_cells.specs.Glyph.{columns_of}
use Rattle.vt_cells.specs.Op.{FitsAttrs}
use Rattle.vt_rows.specs.Cells.{cells_after_resize}
use Rattle.vt_rows.specs.Row.{RowValue, blank_row, resized_row, cells_without_end, trimmed_row}
use Rattle.vt_scan.specs.Automaton.{State, Event, run}
use Rattle.vt_grid.specs.Page.{Page, row_or}
use Rattle.vt_grid.specs.Moves.{feeds_out}
use Rattle.vt_grid.specs.Printing.{mark_column, pushes}
use Rattle.vt_grid.specs.Outgoing.{scrolled_out, fed_out, left_by, printed_out}
use Rattle.vt_grid.specs.Scrollback.{Scrollback, no_scrollback, rows_with_scrolled_off, kept_after, grown_row}
use Rattle.vt_grid.specs.Scrollback.{grown_in_view, scrollback_after_push, rows_reported, with_view, visible}
use Rattle.vt_grid.specs.Scrollback.{scrollback_after_clear}
use Rattle.vt_grid.specs.Resize.{leaving_count, returning_count, window, rows_resized, page_resized, out_of_view}
use Rattle.vt_grid.specs.Resize.{scrollback_resized}
use Rattle.vt_screen.specs.Internals.{IsColoredCell}
use Rattle.vt_screen.specs.Pages.{fresh_page, page_aside, screen_after_enter, left_alternate, screen_after_restore}
use Rattle.vt_screen.specs.Pages.{screen_after_save}
use Rattle.vt_screen.specs.Screen.{ScreenValue, scrolled_back}
use Rattle.vt_screen.specs.Controls.{seen_of, steps_of}
use Rattle.vt_screen.specs.Steps.{Step, Print, LineFeed, ScrollUp, OnPage, SaveCursor, RestoreCursor, EnterAlternate}
use Rattle.vt_screen.specs.Steps.{EnterFresh, LeaveAlternate, LeaveRestoring, Reset, EraseScrollback, Render}
use Rattle.vt_screen.specs.Steps.{HideCursor, SetMode, CallBack, screen_after, display_after}
use Rattle.vt_screen.specs.Streamed.{without_scrollback, sent_off, sent_off_all, sent_off_in}
use Rattle.vt_screen.specs.CallsOfRun.{screen_in, screen_after_all, steps_in, steps_of_all}
use Rattle.vt_screen.proofs.StepCells.{IsStable, EachCell, EachRow, stable_blank_row, stable_row_or}
use Rattle.vt_screen.proofs.StepCells.{stable_erased_columns, stable_moved}

-- ==== Scrollback preserves a property of each cell of the rows that scroll off a page.

-- ---- rows that are cut or extended

unless : {P : CellValue → Type 0} {F : Attrs → Type 0} {Q : ℕ → Type 0} → IsStable P F Q
    → (b : Bool) (cells : List CellValue) → All P cells → All P (if b then [] else cells)
unless {P} {F} {Q} rule true cells h = All-nil P
unless {P} {F} {Q} rule false cells h = h

row_if : {P : CellValue → Type 0} {F : Attrs → Type 0} {Q : ℕ → Type 0} → IsStable P F Q → (b : Bool) (x y : RowValue)
    → (EachCell P) x → (EachCell P) y → (EachCell P) (if b then x else y)
row_if {P} {F} {Q} rule true x y p q = p
row_if {P} {F} {Q} rule false x y p q = q

rows_where : {P : CellValue → Type 0} {F : Attrs → Type 0} {Q : ℕ → Type 0} → IsStable P F Q
    → (b : Bool) (rows : List RowValue) → EachRow P rows → EachRow P (if b then rows else [])
rows_where {P} {F} {Q} rule true rows h = h
rows_where {P} {F} {Q} rule false rows h = All-nil (EachCell P)

trimmed_cells : {P : CellValue → Type 0} {F : Attrs → Type 0} {Q : ℕ → Type 0} → IsStable P F Q
    → (cells : List CellValue) → All P cells → All P (cells_without_end cells)
trimmed_cells {P} {F} {Q} rule [] h = h
trimmed_cells {P} {F} {Q} rule (x ∷ xs) h =
    unless rule (list_all is_default_blank (x ∷ xs)) (x ∷ cells_without_end xs)
    (All-cons P x (cells_without_end xs) (All-head P x xs h) (trimmed_cells rule xs (All-tail P x xs h)))

pub stable_trimmed : {P : CellValue → Type 0} {F : Attrs → Type 0} {Q : ℕ → Type 0} → IsStable P F Q
    → (row : RowValue) → (EachCell P) row → (EachCell P) (trimmed_row row)
stable_trimmed {P} {F} {Q} rule row h = trimmed_cells rule row.cells h

pub stable_resized_row : {P : CellValue → Type 0} {F : Attrs → Type 0} {Q : ℕ → Type 0} → IsStable P F Q
    → (width : ℕ) (row : RowValue) → (EachCell P) row → (EachCell P) (resized_row width row)
unfolding cells_after_resize
stable_resized_row {P} {F} {Q} rule width row h = stable_moved rule width (λ k. k) row.cells h

stable_mapped : {P : CellValue → Type 0} {F : Attrs → Type 0} {Q : ℕ → Type 0} → IsStable P F Q
    → (f : RowValue → RowValue) (rows : List RowValue) → ((row : RowValue) → (EachCell P) row → (EachCell P) (f row))
    → EachRow P rows → EachRow P (map f rows)
stable_mapped {P} {F} {Q} rule f rows keeps all =
    All-map (EachCell P) f rows (All-weaker (EachCell P) (λ row. (EachCell P) (f row)) keeps rows all)

-- ---- scrollback

stable_grown_row : {P : CellValue → Type 0} {F : Attrs → Type 0} {Q : ℕ → Type 0} → IsStable P F Q
    → (width : ℕ) (row : RowValue) → (EachCell P) row → (EachCell P) (grown_row width row)
stable_grown_row {P} {F} {Q} rule width row h =
    row_if rule (nat_lt (length row.cells) width) (resized_row width row) row (stable_resized_row rule width row h) h

stable_grown : {P : CellValue → Type 0} {F : Attrs → Type 0} {Q : ℕ → Type 0} → IsStable P F Q
    → (height width : ℕ) (above : Scrollback) → EachRow P above.rows → EachRow P (grown_in_view height width above).rows
unfolding grown_in_view
stable_grown {P} {F} {Q} rule height width above all =
    let first = length above.rows - above.offset in
    let seen = take height (drop first above.rows) in
    let past = drop (first + height) above.rows in
    All-append (EachCell P) (take first above.rows) (map (grown_row width) seen ++ past)
    (All-take (EachCell P) first above.rows all)
    (All-append (EachCell P) (map (grown_row width) seen) past
    (stable_mapped rule (grown_row width) seen (stable_grown_row rule width)
    (All-take (EachCell P) height (drop first above.rows) (All-drop (EachCell P) first above.rows all)))
    (All-drop (EachCell P) (first + height) above.rows all))

stable_kept_after : {P : CellValue → Type 0} {F : Attrs → Type 0} {Q : ℕ → Type 0} → IsStable P F Q
    → (gone : List RowValue) (above : Scrollback) → EachRow P gone → EachRow P above.rows
    → EachRow P (kept_after gone above).rows
unfolding kept_after
stable_kept_after {P} {F} {Q} rule gone above g all =
    All-drop (EachCell P) (length (rows_with_scrolled_off gone above) - above.capacity) (rows_with_scrolled_off gone above)
    (All-append (EachCell P) above.rows (map trimmed_row gone) all
    (stable_mapped rule trimmed_row gone (stable_trimmed rule) g))

pub stable_pushed : {P : CellValue → Type 0} {F : Attrs → Type 0} {Q : ℕ → Type 0} → IsStable P F Q
    → (height width : ℕ) (gone : List RowValue) (above : Scrollback) → EachRow P gone → EachRow P above.rows
    → EachRow P (scrollback_after_push height width gone above).rows
stable_pushed {P} {F} {Q} rule height width [] above g all = all
stable_pushed {P} {F} {Q} rule height width (row ∷ gone) above g all =
    stable_grown rule height width (kept_after (row ∷ gone) above) (stable_kept_after rule (row ∷ gone) above g all)

pub stable_viewed : {P : CellValue → Type 0} {F : Attrs → Type 0} {Q : ℕ → Type 0} → IsStable P F Q
    → (height width n : ℕ) (above : Scrollback) → EachRow P above.rows → EachRow P (with_view height width n above).rows
unfolding with_view
stable_viewed {P} {F} {Q} rule height width n above all =
    stable_grown rule height width (record above { offset = min n (length above.rows) }) all

-- ---- the rows that scroll off

pub stable_fed_out : {P : CellValue → Type 0} {F : Attrs → Type 0} {Q : ℕ → Type 0} → IsStable P F Q → (page : Page)
    → EachRow P page.rows → EachRow P (fed_out page)
stable_fed_out {P} {F} {Q} rule page all =
    rows_where rule (feeds_out page) (take 1 page.rows) (All-take (EachCell P) 1 page.rows all)

pub stable_scrolled_out : {P : CellValue → Type 0} {F : Attrs → Type 0} {Q : ℕ → Type 0} → IsStable P F Q
    → (n : ℕ) (page : Page) → EachRow P page.rows → EachRow P (scrolled_out n page)
stable_scrolled_out {P} {F} {Q} rule n page all =
    let count = min n (page.bottom + 1) in
    rows_where rule (page.top == 0) (take count page.rows) (All-take (EachCell P) count page.rows all)

stable_left_by : {P : CellValue → Type 0} {F : Attrs → Type 0} {Q : ℕ → Type 0} → IsStable P F Q
    → (columns : Option ℕ) (attrs : Attrs) (page : Page) → F attrs → EachRow P page.rows
    → EachRow P (left_by columns attrs page).rows
stable_left_by {P} {F} {Q} rule None attrs page h all = all
stable_left_by {P} {F} {Q} rule (Some zero) attrs page h all =
    stable_erased_columns rule (mark_column page) 1 attrs page h all
stable_left_by {P} {F} {Q} rule (Some (suc n)) attrs page h all = all

pub stable_printed_out : {P : CellValue → Type 0} {F : Attrs → Type 0} {Q : ℕ → Type 0} → IsStable P F Q
    → (c : ℕ) (attrs : Attrs) (page : Page) → F attrs → EachRow P page.rows → EachRow P (printed_out c attrs page)
stable_printed_out {P} {F} {Q} rule c attrs page h all =
    let left = (left_by (columns_of c) attrs page).rows in
    rows_where rule (pushes c page) (take 1 left)
    (All-take (EachCell P) 1 left (stable_left_by rule (columns_of c) attrs page h all))

-- ---- resizing

stable_window : {P : CellValue → Type 0} {F : Attrs → Type 0} {Q : ℕ → Type 0} → IsStable P F Q
    → (width height down up : ℕ) (above rows : List RowValue) → EachRow P above → EachRow P rows
    → EachRow P (window width height down up above rows)
unfolding window
stable_window {P} {F} {Q} rule width height down up above rows a h =
    let from = λ (k : ℕ). if nat_lt (length above + down + k) up then blank_row default_attrs width else row_or width
    (above ++ rows) (length above + down + k - up) in
    let each : (k : ℕ) → (EachCell P) (from k) = λ k.
    row_if rule (nat_lt (length above + down + k) up) (blank_row default_attrs width)
    (row_or width (above ++ rows) (length above + down + k - up)) (stable_blank_row rule default_attrs width rule.plain)
    (stable_row_or rule width (above ++ rows) (length above + down + k - up)
    (All-append (EachCell P) above rows a h)) in
    All-map (EachCell P) from (range_with_len 0 height) (λ i d lt. each _)

stable_rows_resized : {P : CellValue → Type 0} {F : Attrs → Type 0} {Q : ℕ → Type 0} → IsStable P F Q
    → (width : ℕ) (rows : List RowValue) → EachRow P rows → EachRow P (rows_resized width rows)
stable_rows_resized {P} {F} {Q} rule width rows all =
    let cut = map (resized_row width) rows in
    let there = stable_mapped rule (resized_row width) rows (stable_resized_row rule width) all in
    All-set (EachCell P) cut (length rows - 1) (record (row_or width cut (length rows - 1)) { wrapped = false })
    (stable_row_or rule width cut (length rows - 1) there) there

pub stable_page_resized : {P : CellValue → Type 0} {F : Attrs → Type 0} {Q : ℕ → Type 0} → IsStable P F Q
    → (height width : ℕ) (above : Scrollback) (page : Page) → EachRow P above.rows → EachRow P page.rows
    → EachRow P (page_resized height width above page).rows
unfolding page_resized
stable_page_resized {P} {F} {Q} rule height width above page a all =
    let down = leaving_count height page in
    let up = returning_count height above page in
    stable_rows_resized rule width (window page.width height down up above.rows page.rows)
    (stable_window rule page.width height down up above.rows page.rows a all)

pub stable_scrollback_resized : {P : CellValue → Type 0} {F : Attrs → Type 0} {Q : ℕ → Type 0} → IsStable P F Q
    → (height : ℕ) (page : Page) (above : Scrollback) → EachRow P page.rows → EachRow P above.rows
    → EachRow P (scrollback_resized height page above).rows
unfolding scrollback_resized
stable_scrollback_resized {P} {F} {Q} rule height page above all a =
    let gone = take (leaving_count height page) page.rows in
    let after = scrollback_after_push (length page.rows) page.width gone (out_of_view above) in
    All-take (EachCell P) (length after.rows - returning_count height above page) after.rows
    (stable_pushed rule (length page.rows) page.width gone (out_of_view above)
    (All-take (EachCell P) (leaving_count height page) page.rows all) a)

-- ---- scrollback of capacity 0

pub pushed_capacity : (height width : ℕ) (gone : List RowValue) (above : Scrollback)
    → (scrollback_after_push height width gone above).capacity ≡ above.capacity
unfolding grown_in_view kept_after
pushed_capacity height width [] above = refl
pushed_capacity height width (row ∷ gone) above = refl

pub grown_nothing : (height width : ℕ) (above : Scrollback) → length above.rows ≡ 0
    → (grown_in_view height width above).rows ≡ []
unfolding grown_in_view
grown_nothing height width above e =
    let first = length above.rows - above.offset in
    let seen = take height (drop first above.rows) in
    let past = drop (first + height) above.rows in
    nil_from_length (take first above.rows ++ (map (grown_row width) seen ++ past)) (omega (
      arith,
      e,
      length-append (take first above.rows) (map (grown_row width) seen ++ past),
      length-append (map (grown_row width) seen) past,
      length-take first above.rows,
      length-map seen (grown_row width),
      length-take height (drop first above.rows),
      length-drop first above.rows,
      length-drop (first + height) above.rows,
    ))

kept_nothing : (gone : List RowValue) (above : Scrollback) → above.capacity ≡ 0
    → length (kept_after gone above).rows ≡ 0
unfolding kept_after
kept_nothing gone above c =
    omega (arith, c, length-drop (length (rows_with_scrolled_off gone above) - above.capacity) (rows_with_scrolled_off gone above))

unseen : (height width : ℕ) (gone : List RowValue) (above : Scrollback) → above.offset ≡ 0
    → (grown_in_view height width (kept_after gone above)).offset ≡ 0
unfolding grown_in_view kept_after
unseen height width gone above o = rw o refl

pub pushed_nothing : (height width : ℕ) (gone : List RowValue) (above : Scrollback) → above.capacity ≡ 0
    → above.rows ≡ [] → above.offset ≡ 0 →
    ((scrollback_after_push height width gone above).rows ≡ []) × ((scrollback_after_push height width gone above).offset ≡ 0)
pushed_nothing height width [] above c r o = (r, o)
pushed_nothing height width (row ∷ gone) above c r o = (
  grown_nothing height width (kept_after (row ∷ gone) above)
      (kept_nothing (row ∷ gone) above c),
  unseen height width (row ∷ gone) above o,
)

pub reported_nothing : (gone : List RowValue) (above : Scrollback) → above.capacity ≡ 0 → above.rows ≡ []
    → rows_reported gone above ≡ rows_reported gone (no_scrollback 0)
reported_nothing [] above c r = refl
reported_nothing (row ∷ gone) above c r = rw (c, r) refl

pub visible_nothing : (rows : List RowValue) (above : Scrollback) → above.rows ≡ [] → above.offset ≡ 0
    → visible above rows ≡ visible (no_scrollback 0) rows
visible_nothing rows above r o = rw (r, o) refl

-- ==== Every step preserves the property that all colour components in cells are at most 255, if the colours that it
-- draws with have it.

abbrev AnyCharacter : ℕ → Type 0
AnyCharacter c = Unit {0}

colored_wider : (wide : Bool) (cell : CellValue) → IsColoredCell cell → IsColoredCell (cell_made_wide wide cell)
colored_wider wide (blank attrs) h = h
colored_wider wide (glyph text was attrs) h = h
colored_wider wide right_half h = h

colored_marked : (mark : ℕ) (cell : CellValue) → IsColoredCell cell → IsColoredCell (cell_with_mark mark cell)
colored_marked mark (blank attrs) h = h
colored_marked mark (glyph text wide attrs) h = h
colored_marked mark right_half h = h

pub coloring : IsStable IsColoredCell FitsAttrs AnyCharacter
coloring = record {
  plain = (tt, tt);
  empty = λ attrs h. h;
  half = (tt, tt);
  torn = λ cell h. h;
  space = λ attrs h. h;
  wider = colored_wider;
  marks = λ mark cell q h. colored_marked mark cell h;
  prints = λ c wide attrs q h. h;
  again = λ cell attrs h f. f;
}

-- ==== The effect of a step outside scrollback, and the rows that it scrolls off, don't depend on scrollback.

-- The two screens differ only in their scrollback.
abbrev pub SameBare : ScreenValue → ScreenValue → Type 0
SameBare s t = without_scrollback s ≡ without_scrollback t

-- ---- one step

bare_if : (b : Bool) (x y : ScreenValue) (p q : Scrollback) → SameBare x y →
    SameBare (if b then x else record x { scrollback = p }) (if b then y else record y { scrollback = q })
bare_if true x y p q e = e
bare_if false x y p q e = e

bare_entered : (s : ScreenValue) → SameBare (screen_after_enter s) (screen_after_enter (without_scrollback s))
bare_entered s = by s.is_alternate where
  by : (b : Bool) →
      SameBare (if b then s
      else record s
      { page = page_aside s; other = Some s.page; is_alternate = true; scrollback = out_of_view s.scrollback })
      (if b then without_scrollback s
      else record (without_scrollback s)
      { page = page_aside s; other = Some s.page; is_alternate = true; scrollback = out_of_view (without_scrollback s).scrollback })
  by true = refl
  by false = refl

bare_left : (s : ScreenValue) → SameBare (left_alternate s) (left_alternate (without_scrollback s))
bare_left s = by s.is_alternate where
  by : (b : Bool) →
      SameBare (if b then record s { page = page_aside s; other = Some s.page; is_alternate = false } else s)
      (if b then record (without_scrollback s) { page = page_aside s; other = Some s.page; is_alternate = false } else without_scrollback s)
  by true = refl
  by false = refl

bare_step : (x : Step) (s : ScreenValue) → SameBare (screen_after x s) (screen_after x (without_scrollback s))
bare_step (Print c) s = bare_if s.is_alternate (display_after (Print c) s) (display_after (Print c) (without_scrollback s)) _ _ refl
bare_step LineFeed s = bare_if s.is_alternate (display_after LineFeed s) (display_after LineFeed (without_scrollback s)) _ _ refl
bare_step (ScrollUp count) s =
    bare_if s.is_alternate (display_after (ScrollUp count) s) (display_after (ScrollUp count) (without_scrollback s)) _ _ refl
bare_step EraseScrollback s =
    bare_if s.is_alternate s (without_scrollback s) (scrollback_after_clear s.scrollback) (scrollback_after_clear (without_scrollback s).scrollback) refl
bare_step EnterAlternate s = bare_entered s
bare_step EnterFresh s = ap (λ (t : ScreenValue). record t { page = fresh_page s }) (bare_entered (screen_after_save s))
bare_step LeaveAlternate s = bare_left s
bare_step LeaveRestoring s = ap screen_after_restore (bare_left s)
bare_step (OnPage x) s = refl
bare_step SaveCursor s = refl
bare_step RestoreCursor s = refl
bare_step Reset s = refl
bare_step (Render setting) s = refl
bare_step (HideCursor hidden) s = refl
bare_step (SetMode x) s = refl
bare_step (CallBack call) s = refl

sent_bare : (x : Step) (s : ScreenValue) → sent_off x s ≡ sent_off x (without_scrollback s)
sent_bare (OnPage x) s = refl
sent_bare SaveCursor s = refl
sent_bare RestoreCursor s = refl
sent_bare Reset s = refl
sent_bare (Render setting) s = refl
sent_bare (HideCursor hidden) s = refl
sent_bare (SetMode x) s = refl
sent_bare (CallBack call) s = refl
sent_bare EraseScrollback s = refl
sent_bare EnterAlternate s = refl
sent_bare EnterFresh s = refl
sent_bare LeaveAlternate s = refl
sent_bare LeaveRestoring s = refl
sent_bare (Print c) s = refl
sent_bare LineFeed s = refl
sent_bare (ScrollUp count) s = refl

both_step : (x : Step) (s t : ScreenValue) → SameBare s t → SameBare (screen_after x s) (screen_after x t)
both_step x s t e = bare_step x s ∙ (ap (λ (u : ScreenValue). without_scrollback (screen_after x u)) e ∙ sym (bare_step x t))

both_sent : (x : Step) (s t : ScreenValue) → SameBare s t → sent_off x s ≡ sent_off x t
both_sent x s t e = sent_bare x s ∙ (ap (sent_off x) e ∙ sym (sent_bare x t))

-- ---- steps in sequence

pub both_stepped : (steps : List Step) (s t : ScreenValue) →
    SameBare s t → SameBare (screen_after_all steps s) (screen_after_all steps t)
both_stepped [] s t e = e
both_stepped (x ∷ steps) s t e = both_stepped steps (screen_after x s) (screen_after x t) (both_step x s t e)

pub both_sent_all : (steps : List Step) (s t : ScreenValue) → SameBare s t → sent_off_all steps s ≡ sent_off_all steps t
both_sent_all [] s t e = refl
both_sent_all (x ∷ steps) s t e =
    ap₂ (λ (xs ys : List RowValue). xs ++ ys) (both_sent x s t e)
    (both_sent_all steps (screen_after x s) (screen_after x t) (both_step x s t e))

-- ---- events

both_steps : (event : Event) (s t : ScreenValue) → SameBare s t →
    steps_of event (seen_of s) ≡ steps_of event (seen_of t)
both_steps event s t e = ap (λ (u : ScreenValue). steps_of event (seen_of u)) e

pub both_steps_all : (events : List Event) (s t : ScreenValue) →
    SameBare s t → steps_of_all events s ≡ steps_of_all events t
both_steps_all [] s t e = refl
both_steps_all (event ∷ events) s t e =
    let steps = steps_of event (seen_of s) in
    ap₂ (λ (xs ys : List Step). xs ++ ys) (both_steps event s t e)
    (both_steps_all events (screen_after_all steps s) (screen_after_all (steps_of event (seen_of t)) t)
    (both_stepped steps s t e ∙ ap (λ (xs : List Step). without_scrollback (screen_after_all xs t)) (both_steps event s t e)))

-- ---- bytes

pub both_sent_in : (scan : State) (s t : ScreenValue) (bytes : List ℕ) →
    SameBare s t → sent_off_in scan s bytes ≡ sent_off_in scan t bytes
both_sent_in scan s t bytes e =
    both_sent_all (steps_in scan s bytes) s t e
    ∙ ap (λ (steps : List Step). sent_off_all steps t) (both_steps_all (run scan bytes).events s t e)

pub both_screen_in : (scan : State) (s t : ScreenValue) (bytes : List ℕ) →
    SameBare s t → SameBare (screen_in scan s bytes) (screen_in scan t bytes)
both_screen_in scan s t bytes e =
    both_stepped (steps_in scan s bytes) s t e
    ∙ ap (λ (steps : List Step). without_scrollback (screen_after_all steps t)) (both_steps_all (run scan bytes).events s t e)

-- Scrolling back changes only the scrollback of a screen.
pub bare_scrolled_back : (n : ℕ) (s : ScreenValue) → SameBare (scrolled_back n s) s
bare_scrolled_back n s = by s.is_alternate where
  by : (b : Bool) →
      SameBare (if b then s else record s { scrollback = with_view (length s.page.rows) s.page.width n s.scrollback }) s
  by true = refl
  by false = refl
