-- What a screen displays: a valid picture, which the code builds from the screen's fields, and its cells.
use Rattle.std.proofs.Common.{◌≡◌, ℕ, ◌-◌, ◌≤◌, Bool, true, false, List, [], ◌∷◌, ◌++◌, length, take, refl, sym, ap}
use Rattle.std.proofs.Common.{◌∙◌, subst, arith, zero, suc, ◌+◌, ◌<◌, ◌==◌, ◌&&◌, nat_lt, not, min, inl, inr}
use Rattle.std.specs.Prelude.{if◌then◌else◌, All, chars}
use Rattle.std.proofs.lemmas.List.{length-append, length-take, drop_all, take_all}
use Rattle.std.proofs.lemmas.List.Elements.{All-nil, All-cons, All-append, All-take, All-drop, All-weaker}
use Rattle.std.proofs.lemmas.List.Elements.{recursion_from_All, All-from_get_or}
use Rattle.std.specs.List.{AllByRecursion, list_any, flat_map, range_with_len}
use Rattle.std.proofs.lemmas.Bool.{cases_eq, cond_both}
use Rattle.std.proofs.lemmas.Bool.Decides.{nat_tests}
use Rattle.vt_cells.specs.Cell.{CellValue, blank, glyph, right_half, default_blank, attrs_of, is_right_half, is_wide}
use Rattle.vt_cells.specs.Cell.{text_of}
use Rattle.vt_cells.specs.Glyph.{is_selector}
use Rattle.vt_rows.specs.Cells.{cells_after_resize, IsPaired, at, moved_at}
use Rattle.vt_rows.specs.Row.{RowValue, IsRow, with_cells}
use Rattle.vt_rows.specs.Plain.{plain_text}
use Rattle.vt_rows.proofs.Moves.{at-moved, length-resized}
use Rattle.vt_grid.specs.Scrollback.{Scrollback, no_scrollback, visible, last_of, IsScrollback}
use Rattle.vt_grid.specs.Page.{SameSize, row_or}
use Rattle.vt_redraw.specs.Picture.{IsPicture, IsColoredPicture, cut_rows, picture_of, picture_over, SamePictureSize}
use Rattle.vt_redraw.specs.Picture.{Picture}
use Rattle.vt_redraw.specs.Locality.{row_of_picture}
use Rattle.vt_redraw.specs.Steady.{IsSteady, has_selector}
use Rattle.vt_redraw.proofs.Viewing.{IsAnyRow, picture_over_is, picture_over_page}
use Rattle.vt_redraw.proofs.SteadyWithout.{picture_steady}
use Rattle.vt_screen.specs.Screen.{ScreenValue, IsScreen, IsColored, IsColoredRow, AreColored, above_page, canvas_of}
use Rattle.vt_screen.specs.Screen.{visible_rows, visible_row}
use Rattle.vt_screen.specs.Shown.{IsPlain, ShowsOwnPage, display, ShowSamePage, ShowsNoSelector}
use Rattle.vt_screen.specs.Internals.{IsAbove, IsNothing, main_scrollback, alternate_scrollback}
use Rattle.vt_screen.specs.Contents.{between_of, contents_of, line_end, lines_of, without_line_ends}
use Rattle.vt_screen.proofs.StepCells.{stable_moved}
use Rattle.vt_screen.proofs.StepScrollback.{coloring}
use Rattle.vt_screen.proofs.StepInvariant.{visible_if}

-- ==== A screen displays a valid picture, and a plain screen displays its own page.

-- ---- the displayed rows

pub length_visible : (above : Scrollback) (rows : List RowValue) → length (visible above rows) ≡ length rows
length_visible above rows =
    let old = last_of above.offset above.rows in
    let taken = length-take (length rows) (old ++ rows) in
    let joined = length-append old rows in
    omega arith

pub rows_visible : (P : RowValue → Type 0) (above : Scrollback)
    (rows : List RowValue) → All P above.rows → All P rows → All P (visible above rows)
rows_visible P above rows p q =
    All-take P (length rows) (last_of above.offset above.rows ++ rows)
    (All-append P (last_of above.offset above.rows) rows (All-drop P (length above.rows - above.offset) above.rows p) q)

pub none_above : (above : Scrollback) (rows : List RowValue) → above.offset ≡ 0 → visible above rows ≡ rows
none_above above rows none =
    let past : length above.rows ≤ length above.rows - above.offset = omega arith in
    ap (λ (old : List RowValue). take (length rows) (old ++ rows))
    (drop_all (length above.rows - above.offset) above.rows past)
    ∙ take_all (length rows) rows (omega arith)

pub above_by : (P : RowValue → Type 0) (b : Bool) (above : Scrollback) → All P above.rows → All P
    (if b then no_scrollback 0 else above).rows
above_by P true above p = All-nil P
above_by P false above p = p

any_row : (width : ℕ) (row : RowValue) → IsRow width row → IsAnyRow row
any_row width row is = subst (λ (w : ℕ). IsRow w row) (sym is.columns) is

pub any_visible : (s : ScreenValue) → IsScreen s → All IsAnyRow (visible_rows s)
any_visible s is =
    rows_visible IsAnyRow (above_page s) s.page.rows (above_by IsAnyRow s.is_alternate s.scrollback is.scrollback.sound)
    (All-weaker (IsRow s.page.width) IsAnyRow (any_row s.page.width) s.page.rows is.page.rows)

-- The display of a screen is a valid picture.
pub shown_is : (s : ScreenValue) → IsScreen s → IsPicture (display s)
shown_is s is =
    picture_over_is (visible_rows s) (canvas_of s) is.page
    (length_visible (above_page s) s.page.rows) (any_visible s is)

-- ---- colours

cut_colored : (width : ℕ) (rows : List RowValue) → AllByRecursion IsColoredRow rows → AreColored (cut_rows width rows)
unfolding cells_after_resize
cut_colored width [] h = All-nil IsColoredRow
cut_colored width (x ∷ []) h =
    All-cons IsColoredRow (record { cells = cells_after_resize width x.cells; wrapped = false }) []
    (stable_moved coloring width (λ k. k) x.cells h.0) (All-nil IsColoredRow)
cut_colored width (x ∷ y ∷ rows) h =
    All-cons IsColoredRow (with_cells x (cells_after_resize width x.cells)) (cut_rows width (y ∷ rows))
    (stable_moved coloring width (λ k. k) x.cells h.0) (cut_colored width (y ∷ rows) h.1)

length_cut : (width : ℕ) (rows : List RowValue) → length (cut_rows width rows) ≡ length rows
length_cut width [] = refl
length_cut width (x ∷ []) = refl
length_cut width (x ∷ y ∷ rows) = let l = length_cut width (y ∷ rows) in omega arith

pub shown_height : (s : ScreenValue) → length (display s).rows ≡ length s.page.rows
shown_height s = length_cut s.page.width (visible_rows s) ∙ length_visible (above_page s) s.page.rows

pub shown_colored : (s : ScreenValue) → IsScreen s → IsColored s → IsColoredPicture (display s)
shown_colored s is colored =
    let rows = rows_visible IsColoredRow (above_page s) s.page.rows
    (above_by IsColoredRow s.is_alternate s.scrollback colored.above) colored.rows in
    let tall = shown_height s in
    let height = is.page.height in
    record {
      columns = is.page.columns;
      height = omega arith;
      attrs = colored.attrs;
      cells = cut_colored s.page.width (visible_rows s) (recursion_from_All IsColoredRow (visible_rows s) rows);
    }

-- ---- a screen that displays no scrollback

pub own_shown : (s : ScreenValue) → IsScreen s → ShowsOwnPage s → display s ≡ picture_of (canvas_of s)
own_shown s is none =
    ap (λ (rows : List RowValue). picture_over rows (canvas_of s)) (none_above (above_page s) s.page.rows none)
    ∙ picture_over_page (canvas_of s) is.page

pub plain_shown : (s : ScreenValue) → IsScreen s → IsPlain s → display s ≡ picture_of (canvas_of s)
plain_shown s is plain = own_shown s is plain.offset

-- ==== The view that the code builds from a screen's fields is the picture that the screen displays; also, the output
-- that sets attributes.

nothing_is : (above : Scrollback) → IsNothing above → IsScrollback above
nothing_is above n =
    let none : length above.rows ≡ 0 = ap length n.rows in
    let back = n.offset in
    record {
      kept = omega arith;
      in_view = omega arith;
      sound =
          subst (All (λ (row : RowValue). IsRow (length row.cells) row))
          (sym n.rows) (All-nil (λ (row : RowValue). IsRow (length row.cells) row));
    }

-- The scrollback above the active page is valid.
pub active_is : (b : Bool) (active idle : Scrollback) → IsNothing (alternate_scrollback b active idle) →
    IsAbove (main_scrollback b active idle) → IsScrollback active
active_is true active idle n a = nothing_is active n
active_is false active idle n a = a.sound

-- The picture built from the scrollback above the active page is the picture that the screen displays.
pub with_view_is : (s : ScreenValue) (active idle : Scrollback) → s.scrollback ≡ main_scrollback s.is_alternate active idle
    → IsNothing (alternate_scrollback s.is_alternate active idle)
    → picture_over (visible active s.page.rows)
    (record { page = s.page; attrs = s.attrs; saved_attrs = s.attrs; hidden = s.hidden })
    ≡ display s
with_view_is s active idle w n =
    ap (λ (rows : List RowValue). picture_over rows (canvas_of s))
    (visible_if s.is_alternate s.page.rows active idle s.scrollback w n)

-- Screens with pages of the same size display pictures of the same size.
pub same_shown : (a b : ScreenValue) → SameSize a.page b.page → SamePictureSize (display a) (display b)
same_shown a b size = record { width = size.width; height = shown_height a ∙ (size.height ∙ sym (shown_height b)) }

-- ==== The displayed cells: without U+FE0F they are steady, and getters return the same values for two screens that
-- display the same content.

-- ---- the cells of a cut row

abbrev HasNone : CellValue → Type 0
HasNone cell = has_selector cell ≡ false

abbrev RowHasNone : RowValue → Type 0
RowHasNone row = All HasNone row.cells

none_in_cell : (cell : CellValue) → list_any is_selector (chars (text_of cell)) ≡ false → HasNone cell
none_in_cell (blank attrs) none = refl
none_in_cell (glyph text wide attrs) none = none
none_in_cell right_half none = refl

cut_cell : (n : ℕ) (cells : List CellValue) (k : ℕ) → k < n → HasNone (at cells k) → HasNone (at (cells_after_resize n cells) k)
unfolding cells_after_resize
cut_cell n cells k lt none =
    let x = at cells k in
    let here = is_wide x && not (nat_lt (k + 1) n && (k + 1 == k + 1)) in
    let there = is_right_half x && not (k == k - 1 + 1) in
    ap has_selector (at-moved n (λ j. j) cells k lt)
    ∙ cond_both here (blank (attrs_of x)) (if there then default_blank else x) HasNone (λ _. refl)
    (λ _. cond_both there default_blank x HasNone (λ _. refl) (λ _. none))

cut_row : (width : ℕ) (cells : List CellValue) → ((col : ℕ) → col < width → HasNone (at cells col))
    → All HasNone (cells_after_resize width cells)
cut_row width cells none =
    All-from_get_or HasNone (cells_after_resize width cells) default_blank (λ col lt.
    let inside : col < width = omega (arith, length-resized width cells) in
    cut_cell width cells col inside (none col inside))

-- Truncating a row keeps all columns but the last, where a wide character may be split.
inner : (n : ℕ) (cells : List CellValue) (k : ℕ) → IsPaired cells → k + 1 < n → at (cells_after_resize n cells) k ≡ at cells k
unfolding cells_after_resize
inner n cells k paired lt =
    let first : k ≡ 0 → is_right_half (at cells k) ≡ false =
    λ z. ap (λ (j : ℕ). is_right_half (at cells j)) z ∙ paired.first in
    let same : moved_at n (λ j. j) cells k ≡ at cells k =
    elim (cases_eq k 0) [
      | inl z ↦ let none = first z in grind (arith, nat_tests)
      | inr pos ↦ grind (arith, nat_tests)
    ] in
    at-moved n (λ j. j) cells k (omega arith) ∙ same

-- ---- cut rows

cut_rows_none : (width : ℕ) (rows : List RowValue)
    → ((r col : ℕ) → r < length rows → col < width → HasNone (at (row_or width rows r).cells col))
    → All RowHasNone (cut_rows width rows)
cut_rows_none width [] none = All-nil RowHasNone
cut_rows_none width (x ∷ []) none =
    All-cons RowHasNone _ [] (cut_row width x.cells (λ col lt. none 0 col (omega arith) lt)) (All-nil RowHasNone)
cut_rows_none width (x ∷ y ∷ rows) none =
    All-cons RowHasNone _ (cut_rows width (y ∷ rows)) (cut_row width x.cells (λ col lt. none 0 col (omega arith) lt))
    (cut_rows_none width (y ∷ rows) (λ r col h lt. none (suc r) col (omega arith) lt))

cut_rows_inner : (width : ℕ) (rows : List RowValue) (r col : ℕ) → AllByRecursion IsAnyRow rows → col + 1 < width
    → at (row_or width (cut_rows width rows) r).cells col ≡ at (row_or width rows r).cells col
cut_rows_inner width [] r col are lt = refl
cut_rows_inner width (x ∷ []) zero col are lt = inner width x.cells col are.0.paired lt
cut_rows_inner width (x ∷ []) (suc r) col are lt = refl
cut_rows_inner width (x ∷ y ∷ rows) zero col are lt = inner width x.cells col are.0.paired lt
cut_rows_inner width (x ∷ y ∷ rows) (suc r) col are lt = cut_rows_inner width (y ∷ rows) r col are.1 lt

-- ---- what is displayed

-- A screen that displays no U+FE0F is steady.
pub steady_without : (s : ScreenValue) → IsScreen s → ShowsNoSelector s → IsSteady (display s)
steady_without s is none =
    let tall = length_visible (above_page s) s.page.rows in
    picture_steady (display s) (shown_is s is) (cut_rows_none s.page.width (visible_rows s) (λ r col inside lt.
    none_in_cell (at (visible_row s r).cells col) (none r col (omega (arith, inside, tall)) lt)))

-- The displayed cells are those of the screen, except in the last column.
pub shown_cell : (s : ScreenValue) (r col : ℕ) → IsScreen s → col + 1 < s.page.width
    → at (row_of_picture (display s) r).cells col ≡ at (visible_row s r).cells col
shown_cell s r col is lt =
    cut_rows_inner s.page.width (visible_rows s) r col
    (recursion_from_All IsAnyRow (visible_rows s) (any_visible s is)) lt

-- The displayed rows are those of the page if no scrollback is displayed.
pub shown_rows : (s : ScreenValue) → IsScreen s → ShowsOwnPage s → (display s).rows ≡ visible_rows s
shown_rows s is own =
    ap (λ (p : Picture). p.rows) (own_shown s is own) ∙ sym (none_above (above_page s) s.page.rows own)

-- ---- two screens

pub size_from_shown : (a b : ScreenValue) → SamePictureSize (display a) (display b) → SameSize a.page b.page
size_from_shown a b same =
    record { width = same.width; height = sym (shown_height a) ∙ (same.height ∙ shown_height b) }

pub size_of_shown : (a b : ScreenValue) → display a ≡ display b → SameSize a.page b.page
size_of_shown a b same = size_from_shown a b (record {
  width = ap (λ (p : Picture). p.width) same;
  height = ap (λ (p : Picture). length p.rows) same;
})

pub same_cell_shown : (a b : ScreenValue) (r col : ℕ) → IsScreen a → IsScreen b → display a ≡ display b
    → col + 1 < a.page.width → at (visible_row a r).cells col ≡ at (visible_row b r).cells col
same_cell_shown a b r col is other same lt =
    let wide = (size_of_shown a b same).width in
    sym (shown_cell a r col is lt)
    ∙ (ap (λ (p : Picture). at (row_of_picture p r).cells col) same ∙ shown_cell b r col other
    (omega (arith, lt, wide)))

pub same_rows : (a b : ScreenValue) → ShowSamePage a b → visible_rows a ≡ visible_rows b
same_rows a b s =
    sym (shown_rows a s.sound s.own)
    ∙ (ap (λ (p : Picture). p.rows) s.same ∙ shown_rows b s.other_sound s.other_own)

-- A function of the width and the displayed rows has equal values on two screens that display the same content.
read_alike : {A : Type 0} (f : ℕ → List RowValue → A) (a b : ScreenValue) → ShowSamePage a b
    → f a.page.width (visible_rows a) ≡ f b.page.width (visible_rows b)
read_alike f a b s =
    ap (λ (width : ℕ). f width (visible_rows a)) (size_of_shown a b s.same).width ∙ ap (f b.page.width)
    (same_rows a b s)

pub same_row : (a b : ScreenValue) (r : ℕ) → ShowSamePage a b → visible_row a r ≡ visible_row b r
same_row a b r s = read_alike (λ width rows. row_or width rows r) a b s

pub same_contents : (a b : ScreenValue) → ShowSamePage a b → contents_of a ≡ contents_of b
same_contents a b s = read_alike (λ width rows. without_line_ends (lines_of width false rows)) a b s

pub same_between : (start_row start_col end_row end_col : ℕ) (a b : ScreenValue) → ShowSamePage a b
    → between_of start_row start_col end_row end_col a ≡ between_of start_row start_col end_row end_col b
same_between start_row start_col end_row end_col a b s =
    let part = λ (width : ℕ) (rows : List RowValue) (r : ℕ).
    plain_text (if r == start_row then start_col else 0) (if r == end_row then end_col else width)
    (row_or width rows r).cells ++ (if r == end_row then [] else line_end (row_or width rows r)) in
    let between = λ (height width : ℕ) (rows : List RowValue).
    flat_map (part width rows) (range_with_len start_row (min (end_row + 1) height - start_row)) in
    ap (λ (height : ℕ). between height a.page.width (visible_rows a)) (size_of_shown a b s.same).height
    ∙ read_alike (between (length b.page.rows)) a b s
