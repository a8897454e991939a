-- A terminal that is ready for a row's output has the cells of the row's range after reading it.
use Rattle.std.proofs.Common.{◌≡◌, ℕ, suc, ◌+◌, ◌-◌, ◌<◌, ◌≤◌, List, [], ◌∷◌, length, map, ap, ◌∙◌, arith, ◌≢◌, Bool}
use Rattle.std.proofs.Common.{true, false, Option, Some, refl, sym, subst, ◌↔◌}
use Rattle.std.specs.List.{range_with_len}
use Rattle.std.proofs.lemmas.List.FromFn.{length-map-range_with_len, get_or-map-range_with_len}
use Rattle.std.specs.Prelude.{slice_index_or, slice_set}
use Rattle.std.proofs.lemmas.Grind.{get_or-set_at}
use Rattle.std.proofs.lemmas.List.{get_or-set_other, length-replicate, length-set}
use Rattle.vt_cells.specs.Attrs.{default_attrs}
use Rattle.vt_cells.specs.Cell.{CellValue, default_blank}
use Rattle.vt_cells.specs.Op.{bytes_of_all}
use Rattle.vt_rows.specs.Cells.{blanks}
use Rattle.vt_rows.specs.Row.{RowValue, blank_row}
use Rattle.vt_scan.specs.Automaton.{start}
use Rattle.vt_grid.specs.Canvas.{Canvas}
use Rattle.vt_grid.specs.Page.{Page, row_at, SameSize}
use Rattle.vt_redraw.specs.Items.{AwaitsItem, CutsNone, changed_row, formatted_row, going_on, is_linked}
use Rattle.vt_redraw.specs.Items.{item_of_difference, item_of_redraw, row_drawn, with_range}
use Rattle.vt_redraw.specs.Locality.{row_of_picture}
use Rattle.vt_redraw.specs.Picture.{Picture, IsPicture, IsColoredPicture, SamePictureSize}
use Rattle.vt_redraw.specs.Steady.{IsSteady}
use Rattle.vt_redraw.specs.declared.pen.Pen.{Pen}
use Rattle.vt_redraw.proofs.ItemDraws.{difference_item_draws, redraw_item_draws, redraw_item_wraps}
use Rattle.vt_redraw.proofs.ItemRanges.{item_off, whole_cuts_none, difference_item_empty}
use Rattle.vt_redraw.proofs.PictureFits.{difference_item_fits, redraw_item_fits}
use Rattle.vt_redraw.proofs.Redrawing.{page_picture}
use Rattle.vt_redraw.proofs.WholeItems.{range_all}
use Rattle.vt_screen.specs.RowsShown.{text_at, texts_from, changed_text, formatted_text, HasLinked, HasRange}
use Rattle.vt_screen.specs.RowsShown.{IsBlankReader, IsRowReader, IsUnwrapped, IsWrapReader, DrawsRow, EachLinked}
use Rattle.vt_screen.specs.RowsShown.{EachUncut, EachUnwrapped, IsWholeRow, changed_rows, formatted_rows, range_end}
use Rattle.vt_screen.specs.RowsShown.{shown_row}
use Rattle.vt_screen.specs.Reading.{Terminal, terminal}
use Rattle.vt_screen.specs.Screen.{ScreenValue, canvas_of, with_canvas, IsColored, IsScreen}
use Rattle.vt_screen.specs.Shown.{IsPlain, IsReader, KeepsRest, Makes, ReadsTo, Turns, display}
use Rattle.vt_screen.proofs.ReadOperations.{Reads, reads_all}
use Rattle.vt_screen.proofs.Shown.{plain_shown, shown_height, shown_colored, shown_is, same_shown}

-- ==== The outputs for rows, from one row on.

pub texts_more : (text : ℕ → List ℕ) (r height : ℕ) → r < height →
    texts_from text r height ≡ text r ∷ texts_from text (r + 1) height
texts_more text r height h =
    let n : height - r ≡ suc (height - (r + 1)) = omega arith in
    ap (λ (m : ℕ). map text (range_with_len r m)) n

pub texts_done : (text : ℕ → List ℕ) (r height : ℕ) → height ≤ r → texts_from text r height ≡ []
texts_done text r height h =
    let n : height - r ≡ 0 = omega arith in
    ap (λ (m : ℕ). map text (range_with_len r m)) n

-- There are as many outputs as rows.
pub texts_count : (text : ℕ → List ℕ) (height : ℕ) → length (texts_from text 0 height) ≡ height
texts_count text height = let n : height - 0 ≡ height = omega arith in length-map-range_with_len text 0 (height - 0) ∙ n

pub texts_at : (text : ℕ → List ℕ) (r height : ℕ) → r < height → text_at (texts_from text 0 height) r ≡ text r
texts_at text r height h = get_or-map-range_with_len text 0 (height - 0) r r [] (omega arith) (omega arith)

-- ==== A terminal that is ready for a row's output has the cells of the row's range after reading it.

-- ---- the terminal after reading

same_some : {A : Type 0} (x y : A) → Some x ≡ Some y → x ≡ y
same_some x y e = cc

-- The terminal after it has read output that leaves the given canvas.
abbrev left_with : Canvas → Option ℕ → ScreenValue → ScreenValue
left_with canvas last reader = record (with_canvas canvas reader) { last = last }

-- A statement that holds for every last character holds for the terminal after reading.
makes : (text : List ℕ) (reader after : ScreenValue) (canvas : Canvas) (M : ScreenValue → Type 0) →
    Reads text reader canvas → ReadsTo text reader after →
    ((last : Option ℕ) → M (left_with canvas last reader)) → M after
makes text reader after canvas M reads e m =
    subst M (ap (λ (t : Terminal). t.screen)
    (same_some (terminal start (left_with canvas reads.0 reader)) (terminal start after) (sym reads.1 ∙ e)))
    (m reads.0)

-- The terminal is plain again, and all parts of it outside the page are unchanged.
kept_rest : (reader : ScreenValue) (r : ℕ) (row : RowValue) (pen : Pen) (last : Option ℕ) →
    KeepsRest reader (left_with (row_drawn r row pen (canvas_of reader)) last reader)
kept_rest reader r row pen last = record {
  but_modes = record {
    other = refl;
    is_alternate = refl;
    scrollback = refl;
    width = refl;
    top = refl;
    bottom = refl;
    origin = refl;
  };
  modes = refl;
}

-- ---- one row of a page

row_put : (page : Page) (r : ℕ) (row d : RowValue) → r < length page.rows →
    slice_index_or (slice_set page.rows r row) r d ≡ row
row_put page r row d h = get_or-set_at page.rows r r row d refl h

row_kept : (page : Page) (r k : ℕ) (row d : RowValue) → k ≢ r →
    slice_index_or (slice_set page.rows r row) k d ≡ slice_index_or page.rows k d
row_kept page r k row d ne = get_or-set_other page.rows r k row d ne

-- ---- terminals and canvases

item_awaited : (picture : Picture) (r c : ℕ) (stood : RowValue) (reader : ScreenValue) →
    IsRowReader picture r c stood reader → AwaitsItem picture r c stood (canvas_of reader)
item_awaited picture r c stood reader at = record {
  plain = at.is.plain.page;
  is = page_picture (canvas_of reader) at.is.sound.page;
  size = subst (SamePictureSize picture) (plain_shown reader at.is.sound at.is.plain) at.is.size;
  row = at.row;
  column = at.column;
  attrs = at.attrs;
  stands = at.stands;
}

row_there : (picture : Picture) (r c : ℕ) (stood : RowValue) (reader : ScreenValue) →
    IsRowReader picture r c stood reader → r < length reader.page.rows
row_there picture r c stood reader at =
    let low = at.is.sound.page.cursor_row in
    let e = at.row in
    omega arith

-- ---- the output of a diff

changed_read : (picture prev : Picture) (r start_ stop : ℕ) (reader : ScreenValue) → IsPicture picture →
    IsColoredPicture picture → IsSteady picture → r < length picture.rows → start_ ≤ stop → stop ≤ picture.width →
    CutsNone start_ stop (row_of_picture picture r).cells → CutsNone start_ stop (row_of_picture prev r).cells →
    IsRowReader picture r start_ (row_of_picture prev r) reader →
    Reads (changed_text start_ stop picture prev r) reader
    (row_drawn r (changed_row r start_ stop (row_of_picture picture r) (row_of_picture prev r))
    (item_of_difference r start_ stop (row_of_picture picture r) (row_of_picture prev r)).pen (canvas_of reader))
changed_read picture prev r start_ stop reader is colors steady low le inside cx cy at =
    reads_all (item_of_difference r start_ stop (row_of_picture picture r) (row_of_picture prev r)).ops
    reader _ (difference_item_fits picture r start_ stop (row_of_picture prev r) is colors low le inside)
    (difference_item_draws picture r start_ stop (row_of_picture prev r) (canvas_of reader) is
    steady (item_awaited picture r start_ (row_of_picture prev r) reader at) le inside cx cy)

-- A terminal whose row r was drawn is plain.
plain_drawn : (picture : Picture) (r : ℕ) (row : RowValue) (pen : Pen) (reader : ScreenValue) (last : Option ℕ) →
    IsReader picture reader → IsPlain (left_with (row_drawn r row pen (canvas_of reader)) last reader)
plain_drawn picture r row pen reader last is =
    let l = length-set reader.page.rows r row in
    record {
      page = record { whole = (is.plain.page.whole.0, is.plain.page.whole.1 ∙ sym l); origin = is.plain.page.origin };
      offset = is.plain.offset;
    }

range_drawn : (start_ stop r : ℕ) (shows row : RowValue) (pen : Pen) (reader : ScreenValue) (last : Option ℕ) →
    r < length reader.page.rows → row.cells ≡ with_range start_ stop shows.cells (row_at reader.page r).cells →
    HasRange start_ stop r shows reader (left_with (row_drawn r row pen (canvas_of reader)) last reader)
range_drawn start_ stop r shows row pen reader last h e = record {
  cells = ap (λ (z : RowValue). z.cells) (row_put reader.page r row (blank_row default_attrs reader.page.width) h) ∙ e;
  others = λ k ne. row_kept reader.page r k row (blank_row default_attrs reader.page.width) ne;
  height = length-set reader.page.rows r row;
}

-- Output that draws a row on the canvas of every terminal that is ready for it gives the terminal that row.
shows_row : (picture : Picture) (r c start_ stop : ℕ) (stood shows row : RowValue) (pen : Pen) (text : List ℕ) →
    ((reader : ScreenValue) → IsRowReader picture r c stood reader →
    Reads text reader (row_drawn r row pen (canvas_of reader))) →
    row.cells ≡ with_range start_ stop shows.cells stood.cells →
    Turns (IsRowReader picture r c stood) text (HasRange start_ stop r shows)
shows_row picture r c start_ stop stood shows row pen text reads e = record {
  quiet = λ reader at. let d = reads reader at in (left_with (row_drawn r row pen (canvas_of reader)) d.0 reader, d.1);
  made =
      λ reader after at h. makes text reader after (row_drawn r row pen (canvas_of reader))
      (HasRange start_ stop r shows reader) (reads reader at) h
      (λ last. range_drawn start_ stop r shows row pen reader last (row_there picture r c stood reader at)
      (e ∙ ap (λ (z : RowValue). with_range start_ stop shows.cells z.cells) (sym at.stands)));
  rest =
      λ reader after at h. makes text reader after (row_drawn r row pen (canvas_of reader))
      (KeepsRest reader) (reads reader at) h (kept_rest reader r row pen);
  plain =
      λ reader after at h. makes text reader after (row_drawn r row pen (canvas_of reader))
      IsPlain (reads reader at) h (λ last. plain_drawn picture r row pen reader last at.is);
}

-- Output that draws a row leaves the row not wrapped.
off_row : (picture : Picture) (r c : ℕ) (stood row : RowValue) (pen : Pen) (text : List ℕ) →
    ((reader : ScreenValue) → IsRowReader picture r c stood reader →
    Reads text reader (row_drawn r row pen (canvas_of reader))) →
    row.wrapped ≡ false → Makes (IsRowReader picture r c stood) text (IsUnwrapped r)
off_row picture r c stood row pen text reads off reader after at h =
    makes text reader after (row_drawn r row pen (canvas_of reader)) (IsUnwrapped r reader) (reads reader at) h
    (λ last. ap (λ (z : RowValue). z.wrapped)
    (row_put reader.page r row (blank_row default_attrs reader.page.width) (row_there picture r c stood reader at))
    ∙ off)

pub changed_shows : (picture prev : Picture) (r start_ stop : ℕ) → IsPicture picture → IsColoredPicture picture →
    IsSteady picture → r < length picture.rows → start_ ≤ stop → stop ≤ picture.width →
    CutsNone start_ stop (row_of_picture picture r).cells → CutsNone start_ stop (row_of_picture prev r).cells →
    Turns (IsRowReader picture r start_ (row_of_picture prev r))
    (changed_text start_ stop picture prev r) (HasRange start_ stop r (row_of_picture picture r))
changed_shows picture prev r start_ stop is colors steady low le inside cx cy =
    let x = row_of_picture picture r in
    let y = row_of_picture prev r in
    shows_row picture r start_ start_ stop y x (changed_row r start_ stop x y)
    (item_of_difference r start_ stop x y).pen (changed_text start_ stop picture prev r)
    (λ reader at. changed_read picture prev r start_ stop reader is colors steady low le inside cx cy at) refl

-- ---- the output of a redraw

formatted_read : (picture : Picture) (r start_ stop : ℕ) (reader : ScreenValue) → IsPicture picture →
    IsColoredPicture picture → IsSteady picture → r < length picture.rows → start_ ≤ stop → stop ≤ picture.width →
    CutsNone start_ stop (row_of_picture picture r).cells → IsBlankReader picture r start_ reader →
    Reads (formatted_text start_ stop picture r) reader
    (row_drawn r (formatted_row start_ stop picture.width (row_of_picture picture r))
    (item_of_redraw r start_ stop (is_linked picture.width picture.rows r) (row_of_picture picture r)).pen
    (canvas_of reader))
formatted_read picture r start_ stop reader is colors steady low le inside cx at =
    let on = is_linked picture.width picture.rows r in
    reads_all (item_of_redraw r start_ stop on (row_of_picture picture r)).ops
    reader _ (redraw_item_fits picture r start_ stop on is colors low le inside)
    (redraw_item_draws picture r start_ stop on (canvas_of reader) is steady
    (item_awaited picture r start_ (blank_row default_attrs picture.width) reader at) le inside cx)

-- The effects of a row's redraw on the terminals that read it.
pub record ShowsBlankRow (picture : Picture) (start_ stop r : ℕ) (text : List ℕ) : Type 0 where
  pub row : Turns (IsBlankReader picture r start_) text (HasRange start_ stop r (row_of_picture picture r))
  pub off : Makes (IsBlankReader picture r start_) text (IsUnwrapped r)

pub formatted_shows : (picture : Picture) (r start_ stop : ℕ) → IsPicture picture → IsColoredPicture picture →
    IsSteady picture → r < length picture.rows → start_ ≤ stop → stop ≤ picture.width →
    CutsNone start_ stop (row_of_picture picture r).cells →
    ShowsBlankRow picture start_ stop r (formatted_text start_ stop picture r)
formatted_shows picture r start_ stop is colors steady low le inside cx =
    let x = row_of_picture picture r in
    let stood = blank_row default_attrs picture.width in
    let row = formatted_row start_ stop picture.width x in
    let pen = (item_of_redraw r start_ stop (is_linked picture.width picture.rows r) x).pen in
    let text = formatted_text start_ stop picture r in
    let reads : (reader : ScreenValue) → IsRowReader picture r start_ stood reader →
    Reads text reader (row_drawn r row pen (canvas_of reader)) =
    λ reader at. formatted_read picture r start_ stop reader is colors steady low le inside cx at in
    record {
      row = shows_row picture r start_ start_ stop stood x row pen text reads refl;
      off = off_row picture r start_ stood row pen text reads refl;
    }

-- ---- output read with a wrap pending in the row above

-- The canvas of a terminal whose row r is wrapped, after its next row is drawn.
abbrev wrap_canvas : (r : ℕ) → RowValue → Pen → ScreenValue → Canvas
wrap_canvas r row pen reader = row_drawn (r + 1) row pen (going_on r (canvas_of reader))

linked_here : (picture : Picture) (r : ℕ) → (row_of_picture picture r).wrapped ≡ true →
    is_linked picture.width picture.rows (r + 1) ≡ true
linked_here picture r h = let e : r + 1 ≡ suc r = omega arith in ap (is_linked picture.width picture.rows) e ∙ h

wrap_read : (picture : Picture) (r : ℕ) (reader : ScreenValue) → IsPicture picture →
    IsColoredPicture picture → IsSteady picture → r + 1 < length picture.rows →
    (row_of_picture picture r).wrapped ≡ true → IsWrapReader picture r reader →
    Reads (formatted_text 0 picture.width picture (r + 1)) reader
    (wrap_canvas r (formatted_row 0 picture.width picture.width (row_of_picture picture (r + 1)))
    (item_of_redraw (r + 1) 0 picture.width true (row_of_picture picture (r + 1))).pen reader)
wrap_read picture r reader is colors steady low on at =
    let x = row_of_picture picture (r + 1) in
    let above = row_at reader.page r in
    let stands : IsRowReader picture r picture.width above reader =
    record { is = at.is; row = at.row; column = at.column; attrs = at.attrs; stands = refl } in
    let d = wrap_canvas r (formatted_row 0 picture.width picture.width x)
    (item_of_redraw (r + 1) 0 picture.width true x).pen reader in
    subst (λ (b : Bool). Reads (bytes_of_all (item_of_redraw (r + 1) 0 picture.width b x).ops) reader d)
    (sym (linked_here picture r on))
    (reads_all (item_of_redraw (r + 1) 0 picture.width true x).ops reader d
    (redraw_item_fits picture (r + 1) 0 picture.width true is colors low (omega arith) (omega arith))
    (redraw_item_wraps picture r above (canvas_of reader) is steady
    (item_awaited picture r picture.width above reader stands) at.full low at.below))

rest_wrapped : (r : ℕ) (row : RowValue) (pen : Pen) (reader : ScreenValue) (last : Option ℕ) →
    KeepsRest reader (left_with (wrap_canvas r row pen reader) last reader)
rest_wrapped r row pen reader last = record {
  but_modes = record {
    other = refl;
    is_alternate = refl;
    scrollback = refl;
    width = refl;
    top = refl;
    bottom = refl;
    origin = refl;
  };
  modes = refl;
}

plain_wrapped : (picture : Picture) (r : ℕ) (row : RowValue) (pen : Pen) (reader : ScreenValue) (last : Option ℕ) →
    IsReader picture reader → IsPlain (left_with (wrap_canvas r row pen reader) last reader)
plain_wrapped picture r row pen reader last is =
    let on = record (row_at reader.page r) { wrapped = true } in
    let l = length-set (slice_set reader.page.rows r on) (r + 1) row in
    let m = length-set reader.page.rows r on in
    record {
      page = record {
        whole = (is.plain.page.whole.0, is.plain.page.whole.1 ∙ sym (l ∙ m));
        origin = is.plain.page.origin;
      };
      offset = is.plain.offset;
    }

linked_drawn : (r : ℕ) (shows row : RowValue) (pen : Pen) (reader : ScreenValue) (last : Option ℕ) →
    r + 1 < length reader.page.rows → row ≡ record { cells = shows.cells; wrapped = false } →
    HasLinked r shows reader (left_with (wrap_canvas r row pen reader) last reader)
linked_drawn r shows row pen reader last h e =
    let page = reader.page in
    let d = blank_row default_attrs page.width in
    let on = record (row_at page r) { wrapped = true } in
    let other = record page { rows = slice_set page.rows r on } in
    let l = length-set page.rows r on in
    let m = length-set other.rows (r + 1) row in
    let here : r ≢ r + 1 = λ (same : r ≡ r + 1). omega arith in
    record {
      below = row_put other (r + 1) row d (omega arith) ∙ e;
      above = row_kept other (r + 1) r row d here ∙ row_put page r on d (omega arith);
      others = λ k ne nn. row_kept other (r + 1) k row d nn ∙ row_kept page r k on d ne;
      height = m ∙ l;
    }

pub linked_shows : (picture : Picture) (r : ℕ) → IsPicture picture → IsColoredPicture picture →
    IsSteady picture → r + 1 < length picture.rows → (row_of_picture picture r).wrapped ≡ true →
    Turns (IsWrapReader picture r) (formatted_text 0 picture.width picture (r + 1))
    (HasLinked r (row_of_picture picture (r + 1)))
linked_shows picture r is colors steady low on =
    let x = row_of_picture picture (r + 1) in
    let row = formatted_row 0 picture.width picture.width x in
    let pen = (item_of_redraw (r + 1) 0 picture.width true x).pen in
    let text = formatted_text 0 picture.width picture (r + 1) in
    let l = length-replicate picture.width default_blank in
    let cells : row ≡ record { cells = x.cells; wrapped = false } =
    ap (λ (z : List CellValue). record { cells = z; wrapped = false })
    (range_all x.cells (blanks default_attrs picture.width) picture.width
    (is.rows (r + 1) (blank_row default_attrs picture.width) low).columns l) in
    let reads : (reader : ScreenValue) → IsWrapReader picture r reader →
    Reads text reader (wrap_canvas r row pen reader) =
    λ reader at. wrap_read picture r reader is colors steady low on at in
    let inside : (reader : ScreenValue) → IsWrapReader picture r reader → r + 1 < length reader.page.rows =
    λ reader at. let e = at.is.size.height in let f = shown_height reader in omega arith in
    record {
      quiet = λ reader at. let d = reads reader at in (left_with (wrap_canvas r row pen reader) d.0 reader, d.1);
      made =
          λ reader after at h. makes text reader after (wrap_canvas r row pen reader) (HasLinked r x reader)
          (reads reader at) h (λ last. linked_drawn r x row pen reader last (inside reader at) cells);
      rest =
          λ reader after at h. makes text reader after (wrap_canvas r row pen reader)
          (KeepsRest reader) (reads reader at) h (rest_wrapped r row pen reader);
      plain =
          λ reader after at h. makes text reader after (wrap_canvas r row pen reader) IsPlain
          (reads reader at) h (λ last. plain_wrapped picture r row pen reader last at.is);
    }

-- ---- the diff of a whole row leaves it not wrapped if the row isn't wrapped

pub changed_off : (picture prev : Picture) (r : ℕ) → IsPicture picture →
    IsColoredPicture picture → IsSteady picture → IsPicture prev → SamePictureSize picture prev →
    r < length picture.rows → (row_of_picture picture r).wrapped ≡ false →
    Makes (IsRowReader picture r 0 (row_of_picture prev r)) (changed_text 0 picture.width picture prev r) (IsUnwrapped r)
changed_off picture prev r is colors steady other size low off =
    let x = row_of_picture picture r in
    let y = row_of_picture prev r in
    let same = size.width in
    let tall = size.height in
    let columns = (is.rows r (blank_row default_attrs picture.width) low).columns in
    let cy = subst (λ (w : ℕ). CutsNone 0 w y.cells) (sym same) (whole_cuts_none prev r other (omega arith)) in
    off_row picture r 0 y (changed_row r 0 picture.width x y)
    (item_of_difference r 0 picture.width x y).pen (changed_text 0 picture.width picture prev r)
    (λ reader at. changed_read picture prev r 0 picture.width reader is colors
    steady low (omega arith) (omega arith) (whole_cuts_none picture r is low) cy at)
    (item_off r picture.width x y columns off)

-- ==== The effects of the output for a screen's rows on the terminals that read it.

-- The output at an index in the list of all rows.
told_at : (texts : List (List ℕ)) (text : ℕ → List ℕ) (s : ScreenValue) (r : ℕ) →
    texts ≡ texts_from text 0 (length s.page.rows) → r < length (display s).rows → text_at texts r ≡ text r
told_at texts text s r told low =
    let height = shown_height s in
    ap (λ (t : List (List ℕ)). text_at t r) told ∙ texts_at text r (length s.page.rows) (omega arith)

-- Each output of `formatted_rows` draws its row on a terminal whose row is blank.
pub formatted_turns : (s : ScreenValue) (start width : ℕ) (texts : List (List ℕ)) →
    texts ≡ formatted_rows start width s → IsScreen s → IsColored s → start < s.page.width → IsSteady (display s) →
    EachUncut start width s
    (λ r. DrawsRow start width s r (blank_row default_attrs s.page.width) (text_at texts r))
formatted_turns s start width texts told is colored some steady r low cuts =
    let stop = range_end start width s.page.width in
    let shows = formatted_shows (display s) r start stop (shown_is s is)
    (shown_colored s is colored) steady low (omega arith) (omega arith) cuts in
    subst (λ (t : List ℕ). DrawsRow start width s r (blank_row default_attrs s.page.width) t)
    (sym (told_at texts (formatted_text start stop (display s)) s r told low)) shows.row

pub formatted_off : (s : ScreenValue) (start width : ℕ) (texts : List (List ℕ)) →
    texts ≡ formatted_rows start width s → IsScreen s → IsColored s → start < s.page.width → IsSteady (display s) →
    EachUncut start width s (λ r. Makes (IsBlankReader (display s) r start) (text_at texts r) (IsUnwrapped r))
formatted_off s start width texts told is colored some steady r low cuts =
    let stop = range_end start width s.page.width in
    let shows = formatted_shows (display s) r start stop (shown_is s is)
    (shown_colored s is colored) steady low (omega arith) (omega arith) cuts in
    subst (λ (t : List ℕ). Makes (IsBlankReader (display s) r start) t (IsUnwrapped r))
    (sym (told_at texts (formatted_text start stop (display s)) s r told low)) shows.off

-- A range over all columns ends at the last column.
whole_end : (start width columns : ℕ) → IsWholeRow start width columns → range_end start width columns ≡ columns
whole_end start width columns whole = let a = whole.0 in let b = whole.1 in omega arith

whole_formatted : (s : ScreenValue) (start width : ℕ) (texts : List (List ℕ)) →
    texts ≡ formatted_rows start width s → IsWholeRow start width s.page.width →
    texts ≡ texts_from (formatted_text 0 s.page.width (display s)) 0 (length s.page.rows)
whole_formatted s start width texts told whole =
    told
    ∙ (ap (λ (stop : ℕ). texts_from (formatted_text start stop (display s)) 0 (length s.page.rows))
    (whole_end start width s.page.width whole)
    ∙ ap (λ (begin : ℕ). texts_from (formatted_text begin s.page.width (display s)) 0 (length s.page.rows)) whole.0)

pub formatted_linked : (s : ScreenValue) (start width : ℕ) (texts : List (List ℕ)) →
    texts ≡ formatted_rows start width s →
    IsScreen s → IsColored s → IsWholeRow start width s.page.width → IsSteady (display s) →
    EachLinked s (λ r. Turns (IsWrapReader (display s) r) (text_at texts (r + 1)) (HasLinked r (shown_row s (r + 1))))
formatted_linked s start width texts told is colored whole steady r low on =
    subst (λ (t : List ℕ). Turns (IsWrapReader (display s) r) t (HasLinked r (shown_row s (r + 1))))
    (sym (told_at texts (formatted_text 0 s.page.width (display s)) s
    (r + 1) (whole_formatted s start width texts told whole) low))
    (linked_shows (display s) r (shown_is s is) (shown_colored s is colored) steady low on)

-- Each output of `changed_rows` draws its row on a terminal that displays the row of the other screen.
pub changed_turns : (s prev : ScreenValue) (start width : ℕ) (texts : List (List ℕ)) →
    texts ≡ changed_rows start width s prev → IsScreen s → IsColored s → start < s.page.width → IsSteady (display s) →
    EachUncut start width s (λ r. CutsNone start (range_end start width s.page.width) (shown_row prev r).cells →
    DrawsRow start width s r (shown_row prev r) (text_at texts r))
changed_turns s prev start width texts told is colored some steady r low cuts other =
    let stop = range_end start width s.page.width in
    subst (λ (t : List ℕ). DrawsRow start width s r (shown_row prev r) t)
    (sym (told_at texts (changed_text start stop (display s) (display prev)) s r told low))
    (changed_shows (display s) (display prev) r start stop (shown_is s is)
    (shown_colored s is colored) steady low (omega arith) (omega arith) cuts other)

whole_changed : (s prev : ScreenValue) (start width : ℕ) (texts : List (List ℕ)) →
    texts ≡ changed_rows start width s prev → IsWholeRow start width s.page.width →
    texts ≡ texts_from (changed_text 0 s.page.width (display s) (display prev)) 0 (length s.page.rows)
whole_changed s prev start width texts told whole =
    told
    ∙ (ap (λ (stop : ℕ). texts_from (changed_text start stop (display s) (display prev)) 0 (length s.page.rows))
    (whole_end start width s.page.width whole)
    ∙ ap (λ (begin : ℕ). texts_from (changed_text begin s.page.width (display s) (display prev)) 0 (length s.page.rows))
    whole.0)

pub changed_leaves : (s prev : ScreenValue) (start width : ℕ) (texts : List (List ℕ)) →
    texts ≡ changed_rows start width s prev → IsScreen s → IsColored s → IsScreen prev →
    SameSize s.page prev.page → IsWholeRow start width s.page.width → IsSteady (display s) →
    EachUnwrapped s (λ r. Makes (IsRowReader (display s) r 0 (shown_row prev r)) (text_at texts r) (IsUnwrapped r))
changed_leaves s prev start width texts told is colored other size whole steady r low off =
    let height = shown_height s in
    let inside : r < length (display s).rows = omega arith in
    subst (λ (t : List ℕ). Makes (IsRowReader (display s) r 0 (shown_row prev r)) t (IsUnwrapped r))
    (sym (told_at texts (changed_text 0 s.page.width (display s) (display prev))
    s r (whole_changed s prev start width texts told whole) inside))
    (changed_off (display s) (display prev) r (shown_is s is) (shown_colored s is colored)
    steady (shown_is prev other) (same_shown s prev size) inside off)

pub changed_empty : (s prev : ScreenValue) (start width : ℕ) (texts : List (List ℕ)) →
    texts ≡ changed_rows start width s prev → IsScreen s → IsScreen prev →
    SameSize s.page prev.page → IsWholeRow start width s.page.width →
    (r : ℕ) → r < length s.page.rows → (text_at texts r ≡ []) ↔ (shown_row s r ≡ shown_row prev r)
changed_empty s prev start width texts told is other size whole r low =
    let height = shown_height s in
    let inside : r < length (display s).rows = omega arith in
    subst (λ (t : List ℕ). (t ≡ []) ↔ (shown_row s r ≡ shown_row prev r))
    (sym (told_at texts (changed_text 0 s.page.width (display s) (display prev))
    s r (whole_changed s prev start width texts told whole) inside))
    (difference_item_empty (display s) (display prev) r (shown_is s is)
    (shown_is prev other) (same_shown s prev size) inside)
