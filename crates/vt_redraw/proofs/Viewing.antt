-- Pictures that are borrowed from a page and the scrollback above it.
use Rattle.std.proofs.Common.{◌≡◌, ℕ, suc, ◌-◌, ◌&&◌, Bool, true, false, not, List, [], ◌∷◌, length, refl, sym, ap, ◌∙◌}
use Rattle.std.proofs.Common.{arith, zero, ◌+◌, ◌<◌, ◌≤◌, ◌==◌, ◌++◌, inl, inr, subst}
use Rattle.std.specs.Prelude.{All, ◌||◌, replicate}
use Rattle.std.specs.List.{AllByRecursion}
use Rattle.std.proofs.lemmas.List.Elements.{recursion_from_All, All-nil, All-cons, All-take, All-drop, All-append}
use Rattle.std.proofs.lemmas.List.Elements.{All-get_or, All-weaker}
use Rattle.std.proofs.lemmas.Bool.{cases_lt}
use Rattle.std.proofs.lemmas.Bool.Decides.{nat_tests}
use Rattle.std.proofs.lemmas.List.{length-replicate, get_or-replicate, get_or_past, length-take-le, length-append}
use Rattle.vt_cells.specs.Cell.{CellValue}
use Rattle.vt_cells.specs.Attrs.{default_attrs, Attrs}
use Rattle.vt_rows.specs.Cells.{ends_blank, cells_after_resize}
use Rattle.vt_rows.specs.Row.{RowValue, IsRow, with_cells, blank_row}
use Rattle.vt_rows.proofs.Moves.{length-resized, IsPaired-resized, All-resized, resized-same}
use Rattle.vt_rows.proofs.Rows.{IsRow-with_cells, IsRow-blank_row}
use Rattle.vt_grid.specs.Page.{IsPage, row_or, Page}
use Rattle.vt_grid.specs.Canvas.{Canvas}
use Rattle.vt_grid.specs.Scrollback.{Scrollback, IsScrollback, last_of, visible}
use Rattle.vt_grid.proofs.Pages.{IsRow-row_or}
use Rattle.vt_redraw.specs.Picture.{IsPicture, cut_rows, picture_of, picture_over, Picture}
use Rattle.vt_redraw.specs.Internals.{IsSource, cut_row, row_seen, picture_of_source}
use Rattle.vt_redraw.specs.Moved.{band_source, last_moved, picture_after_move, rows_moved}
use Rattle.vt_redraw.specs.declared.band.Band.{Band}
use Rattle.vt_redraw.specs.declared.view.Source.{Source}
use Rattle.vt_redraw.specs.declared.view.Source.TheVariants.{InView, Blank, Moved}
use Rattle.vt_redraw.specs.Script.{pen_at}
use Rattle.vt_redraw.specs.Redraw.{blank_like}
use Rattle.vt_redraw.specs.declared.pen.Pen.{Pen}
use Rattle.vt_redraw.proofs.Rows.{flags_end}
use Rattle.vt_redraw.proofs.Difference.{flags_end_of}
use Rattle.vt_redraw.proofs.Moving.{All-rows_moved, length-rows_moved, row_or-rows_moved, unflagged_if}

-- ==== Rows truncated or extended to a width are rows of a picture; for the rows of a page this changes nothing.

-- The row is valid for its own width.
abbrev pub IsAnyRow : RowValue → Type 0
IsAnyRow row = IsRow (length row.cells) row

pub length_cut : (width : ℕ) (rows : List RowValue) → length (cut_rows width rows) ≡ length rows
length_cut width [] = refl
length_cut width (x ∷ []) = refl
length_cut width (x ∷ y ∷ rows) = ap suc (length_cut width (y ∷ rows))

row_cut : (width : ℕ) (row : RowValue) → IsAnyRow row → IsRow width (with_cells row (cells_after_resize width row.cells))
row_cut width row is =
    IsRow-with_cells width row (cells_after_resize width row.cells) (length-resized width row.cells)
    (IsPaired-resized width row.cells is.paired) (All-resized width row.cells is.sound)

pub cut_are : (width : ℕ) (rows : List RowValue) →
    AllByRecursion IsAnyRow rows → All (IsRow width) (cut_rows width rows)
cut_are width [] is = All-nil (IsRow width)
cut_are width (x ∷ []) is =
    let row : RowValue = record { cells = cells_after_resize width x.cells; wrapped = false } in
    All-cons (IsRow width) row [] (record {
      columns = length-resized width x.cells;
      paired = IsPaired-resized width x.cells is.0.paired;
      flagged = λ t. absurd (cc);
      sound = All-resized width x.cells is.0.sound;
    }) (All-nil (IsRow width))
cut_are width (x ∷ y ∷ rows) is =
    All-cons (IsRow width) (with_cells x (cells_after_resize width x.cells))
    (cut_rows width (y ∷ rows)) (row_cut width x is.0) (cut_are width (y ∷ rows) is.1)

cut_last : (width : ℕ) (rows : List RowValue) →
    (row_or width (cut_rows width rows) (length (cut_rows width rows) - 1)).wrapped ≡ false
cut_last width [] = refl
cut_last width (x ∷ []) = refl
cut_last width (x ∷ y ∷ rows) =
    let cut = cut_rows width (y ∷ rows) in
    let here = with_cells x (cells_after_resize width x.cells) in
    let l = length_cut width (y ∷ rows) in
    let e : suc (length cut) - 1 ≡ suc (length cut - 1) = omega arith in
    ap (λ (k : ℕ). (row_or width (here ∷ cut) k).wrapped) e ∙ cut_last width (y ∷ rows)

-- The displayed rows, truncated or extended to the page's width, form a valid picture.
pub picture_over_is : (visible : List RowValue) (canvas : Canvas) → IsPage canvas.page →
    length visible ≡ length canvas.page.rows → All IsAnyRow visible → IsPicture (picture_over visible canvas)
picture_over_is visible canvas is size rows =
    let row = is.cursor_row in
    let l = length_cut canvas.page.width visible in
    record {
      has_columns = is.has_columns;
      cursor_row = omega arith;
      cursor_column = is.cursor_column;
      rows = cut_are canvas.page.width visible (recursion_from_All IsAnyRow visible rows);
      last = cut_last canvas.page.width visible;
    }

flag_stays : (wrapped blank : Bool) → (wrapped ≡ true → blank ≡ false) → (wrapped && not blank) ≡ wrapped
flag_stays true blank h = ap not (h refl)
flag_stays false blank h = refl

same_cells : (width : ℕ) (row : RowValue) → IsRow width row → cells_after_resize width row.cells ≡ row.cells
same_cells width row is = resized-same width row.cells is.columns is.paired

pub cut_same : (width : ℕ) (rows : List RowValue) →
    AllByRecursion (IsRow width) rows → flags_end rows → cut_rows width rows ≡ rows
cut_same width [] is last = refl
cut_same width (x ∷ []) is last =
    ap (λ (z : List CellValue). record { cells = z; wrapped = false } ∷ []) (same_cells width x is.0)
    ∙ ap (λ (b : Bool). record x { wrapped = b } ∷ []) (sym last)
cut_same width (x ∷ y ∷ rows) is last =
    ap (λ (z : List CellValue). with_cells x z ∷ cut_rows width (y ∷ rows)) (same_cells width x is.0)
    ∙ (ap (λ (b : Bool). record x { wrapped = b } ∷ cut_rows width (y ∷ rows))
    (flag_stays x.wrapped (ends_blank x.cells) is.0.flagged)
    ∙ ap (λ (z : List RowValue). x ∷ z) (cut_same width (y ∷ rows) is.1 last))

-- The displayed picture is that of the page if no scrollback is displayed.
pub picture_over_page : (canvas : Canvas) → IsPage canvas.page →
    picture_over canvas.page.rows canvas ≡ picture_of canvas
picture_over_page canvas is =
    let width = canvas.page.width in
    ap (λ (z : List RowValue). record (picture_of canvas) { rows = z })
    (cut_same width canvas.page.rows (recursion_from_All (IsRow width) canvas.page.rows is.rows)
    (flags_end_of width canvas.page.rows is.last))

-- ==== A picture that is borrowed from a page and the scrollback above it.

-- ---- the displayed rows

pub visible_length : (above : Scrollback) (rows : List RowValue) → length (visible above rows) ≡ length rows
visible_length above rows =
    let all = length-append (last_of above.offset above.rows) rows in
    length-take-le (length rows) (last_of above.offset above.rows ++ rows) (omega arith)

any_row : (width : ℕ) (row : RowValue) → IsRow width row → IsAnyRow row
any_row width row is = subst (λ (n : ℕ). IsRow n row) (sym is.columns) is

pub visible_sound : (above : Scrollback) (rows : List RowValue) (width : ℕ) →
    IsScrollback above → All (IsRow width) rows → All IsAnyRow (visible above rows)
visible_sound above rows width is page =
    All-take IsAnyRow (length rows) (last_of above.offset above.rows ++ rows)
    (All-append IsAnyRow (last_of above.offset above.rows) rows
    (All-drop IsAnyRow (length above.rows - above.offset) above.rows is.sound)
    (All-weaker (IsRow width) IsAnyRow (λ row h. any_row width row h) rows page))

-- ---- the picture of a page with scrollback above it

pub shown_view_is : (above : Scrollback) (canvas : Canvas) → IsScrollback above →
    IsPage canvas.page → IsPicture (picture_over (visible above canvas.page.rows) canvas)
shown_view_is above canvas is page =
    picture_over_is (visible above canvas.page.rows) canvas page (visible_length above canvas.page.rows)
    (visible_sound above canvas.page.rows canvas.page.width is page.rows)

pub viewed_height : (s : Source) (above : Scrollback) (rows : List RowValue) (width : ℕ) (pen : Pen) (hidden : Bool) →
    length (picture_of_source s above rows width pen hidden).rows ≡ length rows
viewed_height Blank above rows width pen hidden = length-replicate (length rows) (blank_row default_attrs width)
viewed_height InView above rows width pen hidden = length_cut width (visible above rows) ∙ visible_length above rows
viewed_height (Moved band) above rows width pen hidden =
    length-rows_moved width band (cut_rows width (visible above rows))
    ∙ (length_cut width (visible above rows) ∙ visible_length above rows)

-- ---- the rows of the picture

cut_at : (width : ℕ) (rows : List RowValue) (r : ℕ) → r < length rows →
    row_or width (cut_rows width rows) r ≡ cut_row (r + 1 == length rows) width (row_or width rows r)
cut_at width [] r h = absurd (omega arith)
cut_at width (x ∷ []) zero h = refl
cut_at width (x ∷ []) (suc r) h = absurd (omega arith)
cut_at width (x ∷ y ∷ rows) zero h =
    let t : (0 + 1 == suc (suc (length rows))) ≡ false = grind (arith, nat_tests) in rw t refl
cut_at width (x ∷ y ∷ rows) (suc r) h =
    let e : (r + 1 == suc (length rows)) ≡ (suc r + 1 == suc (suc (length rows))) = grind (arith, nat_tests) in
    cut_at width (y ∷ rows) r (omega arith) ∙ ap (λ (b : Bool). cut_row b width (row_or width (y ∷ rows) r)) e

-- A blank row stays blank when it is truncated or extended.
blank_cut : (b : Bool) (width : ℕ) → cut_row b width (blank_row default_attrs width) ≡ blank_row default_attrs width
blank_cut b width =
    let is = IsRow-blank_row default_attrs width in
    let same = resized-same width (blank_row default_attrs width).cells is.columns is.paired in
    ap (λ (cells : List CellValue). record { cells = cells; wrapped = not b && (false && not (ends_blank cells)) }) same
    ∙ no_flag b where
      no_flag : (b : Bool) →
          record {
            cells = (blank_row default_attrs width).cells;
            wrapped = not b && (false && not (ends_blank (blank_row default_attrs width).cells));
          }
          ≡ blank_row default_attrs width
      no_flag true = refl
      no_flag false = refl

-- A row of the picture of the displayed rows is that displayed row, truncated or extended.
pub seen_at : (width : ℕ) (rows : List RowValue) (r : ℕ) →
    row_or width (cut_rows width rows) r ≡ row_seen false width rows r
seen_at width rows r = elim (cases_lt r (length rows)) [
  | inl h ↦ cut_at width rows r h
  | inr past ↦
      let blank = blank_row default_attrs width in
      let size = length_cut width rows in
      get_or_past (cut_rows width rows) r blank (omega arith)
      ∙ (sym (blank_cut (r + 1 == length rows) width)
      ∙ ap (cut_row (r + 1 == length rows) width) (sym (get_or_past rows r blank past)))
]

pub shown_sound : (above : Scrollback) (rows : List RowValue) (width r : ℕ) → IsScrollback above →
    All (IsRow width) rows → r < length rows → IsRow width (row_or width (cut_rows width (visible above rows)) r)
shown_sound above rows width r is page h =
    let cut = cut_rows width (visible above rows) in
    let size = length_cut width (visible above rows) in
    let tall = visible_length above rows in
    All-get_or (IsRow width) cut r (blank_row default_attrs width) (omega arith)
    (cut_are width (visible above rows)
    (recursion_from_All IsAnyRow (visible above rows) (visible_sound above rows width is page)))

pub visible_paired : (above : Scrollback) (rows : List RowValue) (width r : ℕ) → IsScrollback above →
    All (IsRow width) rows → r < length rows → IsAnyRow (row_or width (visible above rows) r)
visible_paired above rows width r is page h =
    let tall = visible_length above rows in
    All-get_or IsAnyRow (visible above rows) r (blank_row default_attrs width)
    (omega arith) (visible_sound above rows width is page)

pub blank_at : (height width r : ℕ) → r < height →
    row_or width (replicate height (blank_row default_attrs width)) r ≡ blank_row default_attrs width
blank_at height width r h = get_or-replicate height r (blank_row default_attrs width) (blank_row default_attrs width) h

-- ---- rows as the code reads them

pub new_is : (above : Scrollback) (page : Page) (rows : List RowValue)
    (width row column : ℕ) (attrs : Attrs) (hidden : Bool) →
    IsScrollback above → IsPage page →
    rows ≡ page.rows → width ≡ page.width → row ≡ page.row → column ≡ page.column →
    IsPicture (picture_of_source InView above rows width (pen_at row column attrs) hidden)
new_is above page rows width row column attrs hidden is sound e f g h =
    let canvas : Canvas = record { page = page; attrs = attrs; saved_attrs = attrs; hidden = hidden } in
    rw (e, f, g, h) (shown_view_is above canvas is sound)

pub blanked_is : (s : Source) (above : Scrollback) (rows : List RowValue) (width : ℕ) (pen new : Pen) (hidden : Bool) →
    new ≡ pen_at 0 0 default_attrs →
    picture_of_source Blank above rows width new hidden ≡ blank_like (picture_of_source s above rows width pen hidden)
blanked_is s above rows width pen new hidden e =
    ap (λ (p : Pen). picture_of_source Blank above rows width p hidden) e
    ∙ ap (λ (n : ℕ).
    record {
      rows = replicate n (blank_row default_attrs width);
      width = width;
      row = 0;
      column = 0;
      attrs = default_attrs;
      hidden = hidden;
    })
    (sym (viewed_height s above rows width pen hidden))

pub viewed_row : (s : Source) (above : Scrollback) (rows : List RowValue) (width : ℕ) (pen : Pen) (hidden : Bool) →
    IsSource above rows width pen →
    pen.row < length (picture_of_source s above rows width pen hidden).rows
viewed_row s above rows width pen hidden is =
    let e = viewed_height s above rows width pen hidden in let h = is.row in omega arith

pub row_sound : (s : Source) (above : Scrollback) (rows : List RowValue) (width : ℕ) (pen : Pen) (hidden : Bool) (r : ℕ)
    → IsSource above rows width pen → r < length rows
    → IsRow width (row_or width (picture_of_source s above rows width pen hidden).rows r)
row_sound Blank above rows width pen hidden r is h =
    subst (IsRow width) (sym (blank_at (length rows) width r h)) (IsRow-blank_row default_attrs width)
row_sound InView above rows width pen hidden r is h = shown_sound above rows width r is.scrollback is.page h
row_sound (Moved band) above rows width pen hidden r is h =
    let cut = cut_rows width (visible above rows) in
    let size = length_cut width (visible above rows) in
    let tall = visible_length above rows in
    IsRow-row_or width (rows_moved width band cut) r
    (All-rows_moved width band cut
    (cut_are width (visible above rows)
    (recursion_from_All IsAnyRow (visible above rows) (visible_sound above rows width is.scrollback is.page))))

-- ---- a row as the code finds it

-- A row of the view past the end is blank.
pub row_past : (b : Bool) (width : ℕ) (rows : List RowValue) (r : ℕ) → length rows ≤ r →
    row_seen b width rows r ≡ blank_row default_attrs width
row_past b width rows r past =
    ap (cut_row (b || (r + 1 == length rows)) width) (get_or_past rows r (blank_row default_attrs width) past)
    ∙ blank_cut (b || (r + 1 == length rows)) width

-- A row that is marked as not wrapped is cut like the last row of a picture.
last_seen : (b c : Bool) (width : ℕ) (row : RowValue) →
    unflagged_if b (cut_row c width row) ≡ cut_row (b || c) width row
last_seen true c width row = refl
last_seen false c width row = refl

-- After a band has moved, each row of the picture is the one that moved there.
pub moved_seen : (width : ℕ) (band : Band) (rows : List RowValue) (r from : ℕ) → r < length rows →
    from ≡ band_source band (length rows) r →
    row_or width (rows_moved width band (cut_rows width rows)) r
    ≡ row_seen (r + 1 == length rows) width rows from
moved_seen width band rows r from h f =
    let cut = cut_rows width rows in
    let size = length_cut width rows in
    row_or-rows_moved width band cut r (omega arith)
    ∙ (ap (λ (n : ℕ). unflagged_if (r + 1 == n) (row_or width cut (band_source band n r))) size
    ∙ (ap (λ (k : ℕ). unflagged_if (r + 1 == length rows) (row_or width cut k)) (sym f)
    ∙ (ap (unflagged_if (r + 1 == length rows)) (seen_at width rows from)
    ∙ last_seen (r + 1 == length rows) (from + 1 == length rows) width (row_or width rows from))))

-- ---- rows of moved bands as the code finds them

pub seen_is : (is_last ends : Bool) (above : Scrollback) (rows : List RowValue) (width r : ℕ) (found row : RowValue) →
    ends ≡ (r + 1 == length rows) → found ≡ row_or width (visible above rows) r →
    row ≡ cut_row (is_last || ends) width found → row ≡ row_seen is_last width (visible above rows) r
seen_is is_last ends above rows width r found row e f g =
    let seen = visible above rows in
    g
    ∙ (ap (λ (b : Bool). cut_row (is_last || b) width found)
    (e ∙ ap (λ (n : ℕ). r + 1 == n) (sym (visible_length above rows)))
    ∙ ap (cut_row (is_last || (r + 1 == length seen)) width) f)

pub after_is : (above : Scrollback) (rows : List RowValue) (width : ℕ) (band : Band)
    (r from : ℕ) (last : Bool) (row : RowValue) →
    r < length rows → last ≡ (r + 1 == length rows) → ((past : ℕ) → from ≡ band_source band past r) →
    row ≡ row_seen last width (visible above rows) from →
    row ≡ row_or width (rows_moved width band (cut_rows width (visible above rows))) r
after_is above rows width band r from last row h l f g =
    let seen = visible above rows in
    let tall = visible_length above rows in
    g
    ∙ (ap (λ (b : Bool). row_seen b width seen from) (l ∙ ap (λ (n : ℕ). r + 1 == n) (sym tall))
    ∙ sym (moved_seen width band seen r from (omega arith) (f (length seen))))

pub free_is : (above : Scrollback) (rows : List RowValue) (width : ℕ) (band : Band) (r : ℕ) (row : RowValue) →
    r < length rows → ((past : ℕ) → past ≡ band_source band past r) → row ≡ blank_row default_attrs width →
    row ≡ row_or width (rows_moved width band (cut_rows width (visible above rows))) r
free_is above rows width band r row h f g =
    let seen = visible above rows in
    let tall = visible_length above rows in
    g
    ∙ (sym (row_past (r + 1 == length seen) width seen (length seen) (omega arith))
    ∙ sym (moved_seen width band seen r (length seen) (omega arith) (f (length seen))))

-- ---- a row of the view

pub view_row_sound : (s : Source) (above : Scrollback) (rows : List RowValue) (width : ℕ) (pen : Pen) (hidden : Bool)
    (r : ℕ) (picture : Picture) → picture_of_source s above rows width pen hidden ≡ picture
    → IsSource above rows width pen → r < length picture.rows
    → IsRow picture.width (row_or picture.width picture.rows r)
view_row_sound s above rows width pen hidden r picture e is h =
    let size = ap (λ (p : Picture). length p.rows) (sym e) ∙ viewed_height s above rows width pen hidden in
    subst (λ (p : Picture). IsRow p.width (row_or p.width p.rows r)) e
    (row_sound s above rows width pen hidden r is (omega arith))

pub row_in_view : (s : Source) (above : Scrollback) (rows : List RowValue) (width : ℕ)
    (pen : Pen) (hidden : Bool) (r : ℕ) (row : RowValue) →
    s ≡ InView → row ≡ row_seen false width (visible above rows) r →
    row ≡ row_or width (picture_of_source s above rows width pen hidden).rows r
row_in_view s above rows width pen hidden r row e f = rw e (f ∙ sym (seen_at width (visible above rows) r))

pub row_blank : (s : Source) (above : Scrollback) (rows : List RowValue) (width : ℕ)
    (pen : Pen) (hidden : Bool) (r : ℕ) (row : RowValue) →
    s ≡ Blank → r < length rows → row ≡ blank_row default_attrs width →
    row ≡ row_or width (picture_of_source s above rows width pen hidden).rows r
row_blank s above rows width pen hidden r row e h f = rw e (f ∙ sym (blank_at (length rows) width r h))

pub row_after : (s : Source) (above : Scrollback) (rows : List RowValue) (width : ℕ) (pen : Pen)
    (hidden : Bool) (band : Band) (r : ℕ) (row : RowValue) →
    s ≡ Moved band → row ≡ row_or width (rows_moved width band (cut_rows width (visible above rows))) r →
    row ≡ row_or width (picture_of_source s above rows width pen hidden).rows r
row_after s above rows width pen hidden band r row e f = rw e f

-- The view of a picture in which a band has moved is the moved picture.
pub moved_is : (above : Scrollback) (page : Page) (rows : List RowValue) (width height row : ℕ)
    (attrs drawn : Attrs) (hidden : Bool) (band : Band) →
    rows ≡ page.rows → width ≡ page.width → height ≡ length page.rows →
    row ≡ last_moved height band → drawn ≡ default_attrs →
    picture_of_source (Moved band) above rows width (pen_at row 0 drawn) hidden
    ≡ picture_after_move band (picture_over (visible above page.rows)
    (record { page = page; attrs = attrs; saved_attrs = attrs; hidden = hidden }))
moved_is above page rows width height row attrs drawn hidden band e f g h k =
    let cut = cut_rows page.width (visible above page.rows) in
    let tall : length cut ≡ length page.rows =
    length_cut page.width (visible above page.rows) ∙ visible_length above page.rows in
    let same : row ≡ last_moved (length cut) band = h ∙ ap (λ (n : ℕ). last_moved n band) (g ∙ sym tall) in
    rw (e, f, same, k) refl
