-- Bands of rows that move, and shifts of columns.
use Rattle.std.proofs.Common.{◌≡◌, ℕ, ◌+◌, ◌-◌, ◌<◌, ◌^◌, ◌==◌, Bool, true, false, List, length, inl, inr, sym, ap, ◌∙◌}
use Rattle.std.proofs.Common.{arith, refl, ◌≤◌, [], ◌∷◌, ◌++◌, subst}
use Rattle.std.specs.List.{AllByRecursion}
use Rattle.std.specs.Prelude.{All, if◌then◌else◌, ◌&&◌, nat_le, nat_lt, min}
use Rattle.std.proofs.lemmas.Bool.{cases_eq, cases_lt}
use Rattle.std.proofs.lemmas.Bool.Decides.{nat_tests}
use Rattle.std.proofs.lemmas.Grind.{get_or-set_at}
use Rattle.std.proofs.lemmas.List.{get_or-set_other, length-set, ext_get_or, get_or_past, append_assoc, append-nil}
use Rattle.std.proofs.lemmas.List.Elements.{All-set}
use Rattle.std.proofs.lemmas.List.Concat.{flat_map-append}
use Rattle.vt_cells.specs.Attrs.{default_attrs}
use Rattle.vt_rows.specs.Row.{RowValue, IsRow, blank_row}
use Rattle.vt_rows.proofs.Rows.{IsRow-wrapped}
use Rattle.vt_grid.specs.Page.{row_or, moved_rows, Page, IsPlainPage, rows_up, up_source, IsPage, row_at}
use Rattle.vt_grid.specs.Shifts.{unflagged, down_source, lines_deleted, lines_inserted, rows_down}
use Rattle.vt_grid.specs.Moves.{moved, target_row}
use Rattle.vt_grid.specs.declared.grid.moves.CursorMove.TheVariants.{To}
use Rattle.vt_grid.specs.Canvas.{Canvas}
use Rattle.vt_grid.proofs.Pages.{length-moved_rows, row_or-moved_rows, All-moved_rows, IsRow-row_or, page_at}
use Rattle.vt_grid.proofs.Shifting.{length-rows_down, page_chars_deleted, page_chars_inserted}
use Rattle.vt_redraw.specs.Fits.{Fits}
use Rattle.vt_redraw.specs.Moved.{band_source, picture_after_move, rows_moved, IsBand}
use Rattle.vt_redraw.specs.Picture.{IsColoredPicture, IsPicture, Picture, SamePictureSize, picture_of}
use Rattle.vt_redraw.specs.Redraw.{difference_in}
use Rattle.vt_redraw.specs.declared.band.Band.{Band}
use Rattle.vt_redraw.specs.declared.form.Form.{Form}
use Rattle.vt_redraw.specs.Shifted.{IsRowShift, shift_text, shifted, shifted_all, shifted_page, shifted_pages}
use Rattle.vt_redraw.specs.Shifted.{shifted_row, shifts_text}
use Rattle.vt_redraw.specs.Internals.{Shifts}
use Rattle.vt_redraw.specs.declared.row_shift.RowShift.{RowShift}
use Rattle.vt_redraw.proofs.PictureFits.{difference_fits_in, rows_counted}

-- ==== A band of rows that moves, row by row.

-- The row, marked as not wrapped if the test holds, and otherwise unchanged.
abbrev pub unflagged_if : Bool → RowValue → RowValue
unflagged_if b row = record row { wrapped = if b then false else row.wrapped }

pub length-unflagged : (width r : ℕ) (rows : List RowValue) → length (unflagged width r rows) ≡ length rows
length-unflagged width r rows = length-set rows r (record (row_or width rows r) { wrapped = false })

-- Marking one row as not wrapped changes only that row.
pub row_or-unflagged : (width last r : ℕ) (rows : List RowValue) → last < length rows →
    row_or width (unflagged width last rows) r ≡ unflagged_if (r == last) (row_or width rows r)
row_or-unflagged width last r rows h =
    let blank = blank_row default_attrs width in
    let bare = record (row_or width rows last) { wrapped = false } in
    elim (cases_eq r last) [
      | inl e ↦
          let t : (r == last) ≡ true = grind (arith, nat_tests) in
          rw t
          (get_or-set_at rows last r bare blank e h
          ∙ ap (λ (k : ℕ). record (row_or width rows k) { wrapped = false }) (sym e))
      | inr ne ↦
          let t : (r == last) ≡ false = grind (arith, nat_tests) in
          rw t (get_or-set_other rows last r bare blank ne)
    ]

All-unflagged : (width r : ℕ) (rows : List RowValue) →
    All (IsRow width) rows → All (IsRow width) (unflagged width r rows)
All-unflagged width r rows h =
    let row = row_or width rows r in
    All-set (IsRow width) rows r (record row { wrapped = false })
    (IsRow-wrapped width row false (λ e. cc) (IsRow-row_or width rows r h)) h

-- ---- the rows after a band has moved

pub length-rows_moved : (width : ℕ) (band : Band) (rows : List RowValue) →
    length (rows_moved width band rows) ≡ length rows
unfolding rows_moved
length-rows_moved width band rows =
    let source = band_source band (length rows) in
    length-unflagged width (length rows - 1) (moved_rows width source rows) ∙ length-moved_rows width source rows

pub All-rows_moved : (width : ℕ) (band : Band) (rows : List RowValue) →
    All (IsRow width) rows → All (IsRow width) (rows_moved width band rows)
unfolding rows_moved
All-rows_moved width band rows is =
    let source = band_source band (length rows) in
    All-unflagged width (length rows - 1) (moved_rows width source rows) (All-moved_rows width source rows is)

pub row_or-rows_moved : (width : ℕ) (band : Band) (rows : List RowValue) (r : ℕ) → r < length rows
    → row_or width (rows_moved width band rows) r
    ≡ unflagged_if (r + 1 == length rows) (row_or width rows (band_source band (length rows) r))
unfolding rows_moved
row_or-rows_moved width band rows r h =
    let source = band_source band (length rows) in
    let size = length-moved_rows width source rows in
    let t : (r == length rows - 1) ≡ (r + 1 == length rows) = grind (arith, nat_tests) in
    row_or-unflagged width (length rows - 1) r (moved_rows width source rows) (omega arith)
    ∙ (ap (λ (b : Bool). unflagged_if b (row_or width (moved_rows width source rows) r)) t
    ∙ ap (unflagged_if (r + 1 == length rows)) (row_or-moved_rows width source rows r h))

pub moved_size : (self prev : Picture) (band : Band) → SamePictureSize self prev → SamePictureSize self (picture_after_move band prev)
moved_size self prev band size = record {
  width = size.width;
  height = size.height ∙ sym (length-rows_moved prev.width band prev.rows);
}

-- The operations that draw a picture over one whose rows have moved are valid.
pub moved_fits : (form : Form) (self prev : Picture) (band : Band) → IsPicture self → IsColoredPicture self →
    IsPicture prev → prev.width < 2 ^ 16 → AllByRecursion Fits (difference_in form self (picture_after_move band prev))
moved_fits form self prev band is colored other small =
    difference_fits_in form self (picture_after_move band prev) is colored (tt, tt)
    (rows_counted form prev.width (rows_moved prev.width band prev.rows)
    (All-rows_moved prev.width band prev.rows other.rows) small)

-- ==== Deleting and inserting rows on a plain page moves a band of its rows.

-- ---- a row after rows were deleted or inserted

-- The row at index r after rows moved up; past the end, it is blank.
up_at : (width top bottom n : ℕ) (rows : List RowValue) (r : ℕ)
    → row_or width (rows_up width top bottom n rows) r
    ≡ row_or width rows (if nat_lt r (length rows) then up_source (length rows) top bottom n r else length rows)
up_at width top bottom n rows r = elim (cases_lt r (length rows)) [
  | inl h ↦
      let t : nat_lt r (length rows) ≡ true = grind (arith, nat_tests) in
      rw t (row_or-moved_rows width (up_source (length rows) top bottom n) rows r h)
  | inr past ↦
      let t : nat_lt r (length rows) ≡ false = grind (arith, nat_tests) in
      let blank = blank_row default_attrs width in
      let size = length-moved_rows width (up_source (length rows) top bottom n) rows in
      rw t
      (get_or_past (rows_up width top bottom n rows) r blank (omega arith)
      ∙ sym (get_or_past rows (length rows) blank (omega arith)))
]

down_at : (width top n : ℕ) (rows : List RowValue) (r : ℕ) → r < length rows
    → row_or width (rows_down width top (length rows - 1) n rows) r
    ≡ unflagged_if (r + 1 == length rows)
    (row_or width rows (down_source (length rows) top (length rows - 1) n r))
down_at width top n rows r h =
    let last = length rows - 1 in
    let source = down_source (length rows) top last n in
    let size = length-moved_rows width source rows in
    let t : (r == last) ≡ (r + 1 == length rows) = grind (arith, nat_tests) in
    row_or-unflagged width last r (moved_rows width source rows) (omega arith)
    ∙ (ap (λ (b : Bool). unflagged_if b (row_or width (moved_rows width source rows) r)) t
    ∙ ap (unflagged_if (r + 1 == length rows)) (row_or-moved_rows width source rows r h))

-- ---- the row that moves to a row

-- If the band ends with the page, deleting rows moves the row `band_source` to row r.
source_up : (height : ℕ) (band : Band) (r : ℕ) → IsBand height band → band.up ≡ true → band.bottom ≡ height → r < height
    → up_source height band.top (height - 1) band.count r ≡ band_source band height r
source_up height band r is up end h =
    let a = is.nonempty in
    let b = is.rows in
    rw up (grind (arith, nat_tests))

-- If rows remain below the band, deleting and inserting rows moves the row `band_source` up to row r.
source_between_up : (height : ℕ) (band : Band) (r : ℕ) → IsBand height band → band.up ≡ true → r < height
    → (if nat_lt (down_source height (band.bottom - band.count) (height - 1) band.count r) height
    then up_source height band.top (height - 1) band.count
    (down_source height (band.bottom - band.count) (height - 1) band.count r)
    else height)
    ≡ band_source band height r
source_between_up height band r is up h =
    let a = is.nonempty in
    let b = is.rows in
    let c = is.inside in
    rw up (grind (arith, nat_tests))

-- If the band ends with the page, inserting rows moves the row `band_source` to row r.
source_down : (height : ℕ) (band : Band) (r : ℕ) → IsBand height band → band.up ≡ false → band.bottom ≡ height →
    r < height → down_source height band.top (height - 1) band.count r ≡ band_source band height r
source_down height band r is up end h =
    let a = is.nonempty in
    let b = is.rows in
    rw up (grind (arith, nat_tests))

-- If rows remain below the band, deleting and inserting rows moves the row `band_source` down to row r.
source_between_down : (height : ℕ) (band : Band) (r : ℕ) → IsBand height band → band.up ≡ false → r < height
    → (if nat_lt (down_source height band.top (height - 1) band.count r) height
    then up_source height (band.bottom - band.count) (height - 1) band.count
    (down_source height band.top (height - 1) band.count r)
    else height)
    ≡ band_source band height r
source_between_down height band r is up h =
    let a = is.nonempty in
    let b = is.rows in
    let c = is.inside in
    rw up (grind (arith, nat_tests))

-- ---- all rows

same_rows : (width : ℕ) (band : Band) (rows new : List RowValue) → length new ≡ length rows
    → ((r : ℕ) → r < length rows → row_or width new r
    ≡ unflagged_if (r + 1 == length rows) (row_or width rows (band_source band (length rows) r)))
    → new ≡ rows_moved width band rows
same_rows width band rows new size same =
    ext_get_or (blank_row default_attrs width) new (rows_moved width band rows)
    (size ∙ sym (length-rows_moved width band rows))
    (λ r h. let i : r < length rows = omega (arith, size) in
    same r i ∙ sym (row_or-rows_moved width band rows r i))

-- A blank row is not wrapped, so clearing its flag changes nothing.
unflag_blank : (b : Bool) (width : ℕ) → unflagged_if b (blank_row default_attrs width) ≡ blank_row default_attrs width
unflag_blank true width = refl
unflag_blank false width = refl

last_free : (width : ℕ) (rows : List RowValue) (band : Band) (r : ℕ) (b : Bool) → IsBand (length rows) band →
    band.up ≡ true → band.bottom ≡ length rows → r < length rows → b ≡ (r + 1 == length rows) →
    row_or width rows (band_source band (length rows) r)
    ≡ unflagged_if b (row_or width rows (band_source band (length rows) r))
last_free width rows band r true is up end h e =
    let a = is.nonempty in
    let c = is.rows in
    let at_end : r + 1 ≡ length rows = grind (arith, nat_tests) in
    let free : band_source band (length rows) r ≡ length rows = rw up (grind (arith, nat_tests)) in
    let blank = blank_row default_attrs width in
    rw (free, get_or_past rows (length rows) blank (omega arith)) refl
last_free width rows band r false is up end h e = refl

pub up_moved : (width : ℕ) (rows : List RowValue) (band : Band) → IsBand (length rows) band → band.up ≡ true →
    band.bottom ≡ length rows → rows_up width band.top (length rows - 1) band.count rows ≡ rows_moved width band rows
up_moved width rows band is up end =
    let source = up_source (length rows) band.top (length rows - 1) band.count in
    same_rows width band rows (rows_up width band.top (length rows - 1) band.count rows)
    (length-moved_rows width source rows)
    (λ r h. row_or-moved_rows width source rows r h
    ∙ (ap (row_or width rows) (source_up (length rows) band r is up end h)
    ∙ last_free width rows band r (r + 1 == length rows) is up end h refl))

pub down_moved : (width : ℕ) (rows : List RowValue) (band : Band) → IsBand (length rows) band → band.up ≡ false →
    band.bottom ≡ length rows → rows_down width band.top (length rows - 1) band.count rows ≡ rows_moved width band rows
down_moved width rows band is up end =
    same_rows width band rows (rows_down width band.top (length rows - 1) band.count rows)
    (length-rows_down width band.top (length rows - 1) band.count rows)
    (λ r h. down_at width band.top band.count rows r h
    ∙ ap (λ (k : ℕ). unflagged_if (r + 1 == length rows) (row_or width rows k))
    (source_down (length rows) band r is up end h))

-- The row at index r after rows are deleted at one row and as many are inserted at another.
between_at : (width gone in_at n : ℕ) (rows : List RowValue) (r : ℕ) → r < length rows
    → row_or width (rows_down width in_at (length rows - 1) n (rows_up width gone (length rows - 1) n rows)) r
    ≡ unflagged_if (r + 1 == length rows)
    (row_or width rows
    (if nat_lt (down_source (length rows) in_at (length rows - 1) n r) (length rows)
    then up_source (length rows) gone (length rows - 1) n (down_source (length rows) in_at (length rows - 1) n r)
    else length rows))
between_at width gone in_at n rows r h =
    let up = rows_up width gone (length rows - 1) n rows in
    let size : length up ≡ length rows =
    length-moved_rows width (up_source (length rows) gone (length rows - 1) n) rows in
    ap (λ (k : ℕ). row_or width (rows_down width in_at (k - 1) n up) r) (sym size)
    ∙ (down_at width in_at n up r (omega arith)
    ∙ (ap (λ (k : ℕ). unflagged_if (r + 1 == k) (row_or width up (down_source k in_at (k - 1) n r))) size
    ∙ ap (unflagged_if (r + 1 == length rows))
    (up_at width gone (length rows - 1) n rows (down_source (length rows) in_at (length rows - 1) n r))))

length_between : (width gone in_at n : ℕ) (rows : List RowValue) →
    length (rows_down width in_at (length rows - 1) n (rows_up width gone (length rows - 1) n rows)) ≡ length rows
length_between width gone in_at n rows =
    let up = rows_up width gone (length rows - 1) n rows in
    length-rows_down width in_at (length rows - 1) n up
    ∙ length-moved_rows width (up_source (length rows) gone (length rows - 1) n) rows

pub up_between : (width : ℕ) (rows : List RowValue) (band : Band) → IsBand (length rows) band → band.up ≡ true
    → rows_down width (band.bottom - band.count) (length rows - 1) band.count
    (rows_up width band.top (length rows - 1) band.count rows)
    ≡ rows_moved width band rows
up_between width rows band is up =
    let new_at = band.bottom - band.count in
    same_rows width band rows
    (rows_down width new_at (length rows - 1) band.count (rows_up width band.top (length rows - 1) band.count rows))
    (length_between width band.top new_at band.count rows)
    (λ r h. between_at width band.top new_at band.count rows r h
    ∙ ap (λ (k : ℕ). unflagged_if (r + 1 == length rows) (row_or width rows k))
    (source_between_up (length rows) band r is up h))

pub down_between : (width : ℕ) (rows : List RowValue) (band : Band) → IsBand (length rows) band → band.up ≡ false
    → rows_down width band.top (length rows - 1) band.count
    (rows_up width (band.bottom - band.count) (length rows - 1) band.count rows)
    ≡ rows_moved width band rows
down_between width rows band is up =
    let gone = band.bottom - band.count in
    same_rows width band rows
    (rows_down width band.top (length rows - 1) band.count (rows_up width gone (length rows - 1) band.count rows))
    (length_between width gone band.top band.count rows)
    (λ r h. between_at width gone band.top band.count rows r h
    ∙ ap (λ (k : ℕ). unflagged_if (r + 1 == length rows) (row_or width rows k))
    (source_between_down (length rows) band r is up h))

-- ---- on a plain page

-- A page with the given rows, and the cursor at the beginning of a row.
abbrev pub page_at_row : List RowValue → ℕ → Page → Page
page_at_row rows row page = record page { rows = rows; row = row; column = 0 }

placed : (r : ℕ) (page : Page) → IsPlainPage page → r < length page.rows →
    moved (To r 0) page ≡ record page { row = r; column = 0 }
placed r page plain h =
    let row : target_row r page ≡ r = rw plain.origin (omega arith) in
    let column : min 0 (page.width - 1) ≡ 0 = omega arith in
    ap (λ (k : ℕ). record page { row = k; column = min 0 (page.width - 1) }) row
    ∙ ap (λ (k : ℕ). record page { row = r; column = k }) column

in_whole : (r : ℕ) (page : Page) → IsPlainPage page → r < length page.rows →
    (nat_le page.top r && nat_le r page.bottom) ≡ true
in_whole r page plain h =
    let top = plain.whole.0 in
    let bottom = plain.whole.1 in
    grind (arith, nat_tests)

pub deleted_is : (r n : ℕ) (page : Page) → IsPlainPage page → r < length page.rows
    → lines_deleted n (moved (To r 0) page)
    ≡ page_at_row (rows_up page.width r (length page.rows - 1) n page.rows) r page
unfolding lines_deleted
deleted_is r n page plain h =
    let end : page.bottom ≡ length page.rows - 1 = omega (arith, plain.whole.1) in
    ap (lines_deleted n) (placed r page plain h)
    ∙ rw (in_whole r page plain h)
    (ap (λ (b : ℕ). page_at_row (rows_up page.width r b n page.rows) r page) end)

pub inserted_is : (r n : ℕ) (page : Page) → IsPlainPage page → r < length page.rows
    → lines_inserted n (moved (To r 0) page)
    ≡ page_at_row (rows_down page.width r (length page.rows - 1) n page.rows) r page
unfolding lines_inserted
inserted_is r n page plain h =
    let end : page.bottom ≡ length page.rows - 1 = omega (arith, plain.whole.1) in
    ap (lines_inserted n) (placed r page plain h)
    ∙ rw (in_whole r page plain h)
    (ap (λ (b : ℕ). page_at_row (rows_down page.width r b n page.rows) r page) end)

-- ==== Shifts of columns, on pages and pictures.

-- ---- pages

length_page : (shift : RowShift) (page : Page) → length (shifted_page shift page).rows ≡ length page.rows
length_page shift page = length-set page.rows shift.row (shifted_row shift (row_at page shift.row))

pub length_pages : (shifts : List RowShift) (page : Page) → length (shifted_pages shifts page).rows ≡ length page.rows
length_pages [] page = refl
length_pages (shift ∷ shifts) page = length_pages shifts (shifted_page shift page) ∙ length_page shift page

pub width_pages : (shifts : List RowShift) (page : Page) → (shifted_pages shifts page).width ≡ page.width
width_pages [] page = refl
width_pages (shift ∷ shifts) page = width_pages shifts (shifted_page shift page)

pub pages_more : (shifts : List RowShift) (shift : RowShift) (page : Page) →
    shifted_pages (shifts ++ shift ∷ []) page ≡ shifted_page shift (shifted_pages shifts page)
pages_more [] shift page = refl
pages_more (x ∷ shifts) shift page = pages_more shifts shift (shifted_page x page)

page_when : (insert : Bool) (shift : RowShift) (page : Page) → shift.insert ≡ insert → IsPage page →
    shift.row < length page.rows → shift.col < page.width → IsPage (shifted_page shift page)
page_when true shift page e is row col =
    rw e (page_chars_inserted shift.count (record page { row = shift.row; column = shift.col })
    (page_at shift.row shift.col page row (omega arith) is))
page_when false shift page e is row col =
    rw e (page_chars_deleted shift.count (record page { row = shift.row; column = shift.col })
    (page_at shift.row shift.col page row (omega arith) is))

pub page_shifted : (shift : RowShift) (page : Page) → IsPage page → IsRowShift (length page.rows) page.width shift →
    IsPage (shifted_page shift page)
page_shifted shift page is inside =
    page_when shift.insert shift page refl is inside.row (omega (arith, inside.nonempty, inside.columns))

-- The shifts are also valid for a page of the same height.
pub inside_next : (shift : RowShift) (shifts : List RowShift) (page : Page) →
    AllByRecursion (IsRowShift (length page.rows) page.width) shifts →
    AllByRecursion (IsRowShift (length (shifted_page shift page).rows) (shifted_page shift page).width) shifts
inside_next shift shifts page all =
    subst (λ (n : ℕ). AllByRecursion (IsRowShift n page.width) shifts) (sym (length_page shift page)) all

pub pages_are : (shifts : List RowShift) (page : Page) → IsPage page →
    AllByRecursion (IsRowShift (length page.rows) page.width) shifts → IsPage (shifted_pages shifts page)
pages_are [] page is all = is
pages_are (shift ∷ shifts) page is all =
    pages_are shifts (shifted_page shift page) (page_shifted shift page is all.0) (inside_next shift shifts page all.1)

-- ---- pictures

pub pictures_shifted : (shifts : List RowShift) (canvas : Canvas)
    → picture_of (record canvas { page = shifted_pages shifts canvas.page }) ≡ shifted_all shifts (picture_of canvas)
pictures_shifted [] canvas = refl
pictures_shifted (shift ∷ shifts) canvas =
    pictures_shifted shifts (record canvas { page = shifted_page shift canvas.page })

length_shifted : (shifts : List RowShift) (picture : Picture) →
    length (shifted_all shifts picture).rows ≡ length picture.rows
length_shifted [] picture = refl
length_shifted (shift ∷ shifts) picture =
    length_shifted shifts (shifted shift picture) ∙ length-set picture.rows shift.row _

width_shifted : (shifts : List RowShift) (picture : Picture) → (shifted_all shifts picture).width ≡ picture.width
width_shifted [] picture = refl
width_shifted (shift ∷ shifts) picture = width_shifted shifts (shifted shift picture)

pub attrs_shifted : (shifts : List RowShift) (picture : Picture) → (shifted_all shifts picture).attrs ≡ picture.attrs
attrs_shifted [] picture = refl
attrs_shifted (shift ∷ shifts) picture = attrs_shifted shifts (shifted shift picture)

pub shifted_size : (self prev : Picture) (shifts : List RowShift) → SamePictureSize self prev →
    SamePictureSize self (shifted_all shifts prev)
shifted_size self prev shifts size = record {
  width = size.width ∙ sym (width_shifted shifts prev);
  height = size.height ∙ sym (length_shifted shifts prev);
}

-- ---- shifts that are written one after the other

all_more : {A : Type 0} (P : A → Type 0) (xs : List A) (x : A) → AllByRecursion P xs → P x →
    AllByRecursion P (xs ++ x ∷ [])
all_more P [] x all is = (is, tt)
all_more P (y ∷ ys) x all is = (all.0, all_more P ys x all.1 is)

pub first_shifts : (shift : RowShift) (start text : List ℕ) (before after : Page) →
    IsRowShift (length before.rows) before.width shift → text ≡ start ++ shift_text shift →
    after ≡ shifted_page shift before → Shifts shift start text before after
first_shifts shift start text before after inside bytes page = record {
  rest = [];
  inside = (inside, tt);
  bytes = bytes ∙ ap (λ (t : List ℕ). start ++ t) (sym (append-nil (shift_text shift)));
  page = page;
}

pub more_shifts : (first shift : RowShift) (start text more : List ℕ) (before after next : Page) →
    Shifts first start text before after → IsRowShift (length before.rows) before.width shift →
    more ≡ text ++ shift_text shift → next ≡ shifted_page shift after → Shifts first start more before next
more_shifts first shift start text more before after next so_far inside bytes page =
    let shifts = first ∷ so_far.rest in
    record {
      rest = so_far.rest ++ shift ∷ [];
      inside = all_more (IsRowShift (length before.rows) before.width) shifts shift so_far.inside inside;
      bytes =
          bytes
          ∙ (ap (λ (t : List ℕ). t ++ shift_text shift) so_far.bytes
          ∙ (append_assoc start (shifts_text shifts) (shift_text shift)
          ∙ ap (λ (t : List ℕ). start ++ t)
          (ap (λ (t : List ℕ). shifts_text shifts ++ t) (sym (append-nil (shift_text shift)))
          ∙ sym (flat_map-append shift_text shifts (shift ∷ [])))));
      page = page ∙ (ap (shifted_page shift) so_far.page ∙ sym (pages_more shifts shift before));
    }

-- The page so far has the size of the first one.
pub size_so_far : (first shift : RowShift) (start text : List ℕ) (before after : Page) →
    Shifts first start text before after → IsRowShift (length before.rows) before.width shift →
    IsRowShift (length after.rows) after.width shift
size_so_far first shift start text before after so_far inside =
    let shifts = first ∷ so_far.rest in
    let height : length after.rows ≡ length before.rows =
    ap (λ (p : Page). length p.rows) so_far.page ∙ length_pages shifts before in
    let width : after.width ≡ before.width = ap (λ (p : Page). p.width) so_far.page ∙ width_pages shifts before in
    record {
      nonempty = inside.nonempty;
      row = subst (λ (n : ℕ). shift.row < n) (sym height) inside.row;
      columns = subst (λ (n : ℕ). shift.col + shift.count ≤ n) (sym width) inside.columns;
    }
