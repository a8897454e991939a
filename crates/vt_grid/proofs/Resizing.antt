-- Resizing a page: the contents of the new rows, and the validity of the new page.
use Rattle.std.proofs.Common.{◌≡◌, ℕ, ◌+◌, ◌-◌, ◌<◌, ◌≤◌, ◌^◌, nat_le, nat_lt, min, Bool, true}
use Rattle.std.proofs.Common.{false, List, [], ◌∷◌, ◌++◌, length, take, drop, map, get_or}
use Rattle.std.proofs.Common.{replicate, refl, inl, inr, sym, ap, subst, ◌∙◌, arith}
use Rattle.std.specs.Prelude.{All, ◌&&◌, if◌then◌else◌}
use Rattle.std.proofs.lemmas.Bool.{cases_lt, cases_eq, cond_both}
use Rattle.std.proofs.lemmas.Bool.Decides.{nat_tests}
use Rattle.std.proofs.lemmas.Grind.{get_or-set_at}
use Rattle.std.proofs.lemmas.List.{take_all, drop_all, append-nil, ext_get_or, get_or_past, get_or-map}
use Rattle.std.proofs.lemmas.List.{get_or-drop, get_or-replicate, get_or_append_left, get_or-append_right}
use Rattle.std.proofs.lemmas.List.{length-map, length-replicate, length-set, length-take}
use Rattle.std.proofs.lemmas.List.FromFn.{length-map-range_with_len, get_or-map-range_with_len}
use Rattle.std.proofs.lemmas.List.Elements.{All-append, All-from_get_or, All-get_or, All-map}
use Rattle.std.proofs.lemmas.List.Elements.{All-replicate, All-same, All-set, All-take, All-weaker}
use Rattle.vt_cells.specs.Attrs.{default_attrs}
use Rattle.vt_cells.specs.Cell.{default_blank}
use Rattle.vt_rows.specs.Cells.{blanks, cells_after_resize}
use Rattle.vt_rows.specs.Row.{RowValue, IsRow, blank_row, resized_row}
use Rattle.vt_rows.proofs.Edits.{at-blanks}
use Rattle.vt_rows.proofs.Moves.{IsRow-resized_row, moved_is}
use Rattle.vt_rows.proofs.Rows.{IsRow-blank_row}
use Rattle.vt_cells.specs.declared.pos.Pos.{Pos}
use Rattle.vt_grid.specs.Internals.{IsSized, given_back, page_of, row_after_refill, taken_over}
use Rattle.vt_grid.specs.Page.{Page, IsPage, blank_page, by_row, row_or}
use Rattle.vt_grid.specs.Resize.{leaving_count, returning_count, window, rows_resized, row_resized}
use Rattle.vt_grid.specs.Resize.{page_resized, out_of_view, taken_back, scrollback_resized}
use Rattle.vt_grid.specs.Scrollback.{Scrollback, IsScrollback, kept_after, grown_in_view, scrollback_after_push}
use Rattle.vt_grid.specs.PageRows.{PageRowsValue}
use Rattle.vt_grid.specs.Shifts.{unflagged}
use Rattle.vt_grid.proofs.Pages.{IsRow-row_or}
use Rattle.vt_grid.proofs.ScrollbackRows.{IsScrollback-pushed}

-- ---- A blank row resized is a blank row

resized-blanks : (v w : ℕ) → cells_after_resize w (blanks default_attrs v) ≡ blanks default_attrs w
unfolding cells_after_resize
resized-blanks v w =
    sym
    (moved_is w (λ k. k) (blanks default_attrs v) (blanks default_attrs w) (length-replicate w default_blank) (λ k h.
    at-blanks w k ∙ sym (let e = at-blanks v k in grind arith)))

pub resized_row-blank : (v w : ℕ) → resized_row w (blank_row default_attrs v) ≡ blank_row default_attrs w
resized_row-blank v w = λ i. record { cells = resized-blanks v w i; wrapped = false }

-- ---- Where each row comes from

blank_at : (w k : ℕ) (rows : List RowValue) → length rows ≤ k → row_or w rows k ≡ blank_row default_attrs w
blank_at w k rows h = get_or_past rows k (blank_row default_attrs w) h

pub length-window : (v h down up : ℕ) (above rows : List RowValue) → length (window v h down up above rows) ≡ h
unfolding window
length-window v h down up above rows =
    length-map-range_with_len (λ k. if nat_lt (length above + down + k) up
    then blank_row default_attrs v else row_or v (above ++ rows) (length above + down + k - up))
    0 h

row_or-window : (v h down up : ℕ) (above rows : List RowValue) (k : ℕ) → k < h →
    row_or v (window v h down up above rows) k
    ≡ (if nat_lt (length above + down + k) up then blank_row default_attrs v
    else row_or v (above ++ rows) (length above + down + k - up))
unfolding window
row_or-window v h down up above rows k l =
    get_or-map-range_with_len (λ k. if nat_lt (length above + down + k) up
    then blank_row default_attrs v else row_or v (above ++ rows) (length above + down + k - up))
    0 h k k (blank_row default_attrs v) l (omega arith)

pub picks : {X : Type 0} (b : Bool) (x y : X) → b ≡ true → (if b then x else y) ≡ x
picks true x y e = refl
picks false x y e = absurd (grind arith)

pub passes : {X : Type 0} (b : Bool) (x y : X) → b ≡ false → (if b then x else y) ≡ y
passes true x y e = absurd (grind arith)
passes false x y e = refl

-- A row of the window whose scrollback row was not kept is blank.
window_lost : (v h down up : ℕ) (above rows : List RowValue) (k : ℕ) → k < h →
    length above + down + k < up → row_or v (window v h down up above rows) k ≡ blank_row default_attrs v
window_lost v h down up above rows k l i =
    row_or-window v h down up above rows k l
    ∙ picks (nat_lt (length above + down + k) up) (blank_row default_attrs v)
    (row_or v (above ++ rows) (length above + down + k - up)) (grind (arith, nat_tests))

window_there : (v h down up : ℕ) (above rows : List RowValue) (k : ℕ) → k < h → up ≤ length above + down + k →
    row_or v (window v h down up above rows) k ≡ row_or v (above ++ rows) (length above + down + k - up)
window_there v h down up above rows k l i =
    row_or-window v h down up above rows k l
    ∙ passes (nat_lt (length above + down + k) up) (blank_row default_attrs v)
    (row_or v (above ++ rows) (length above + down + k - up)) (grind (arith, nat_tests))

-- A row of the window that comes back is a scrollback row.
window_above : (v h down up : ℕ) (above rows : List RowValue) (k : ℕ) → k < h → k < up → down ≡ 0 →
    up ≤ length above + k → row_or v (window v h down up above rows) k ≡ row_or v above (length above + k - up)
window_above v h down up above rows k l i z j =
    window_there v h down up above rows k l (omega arith)
    ∙ (ap (λ (n : ℕ). row_or v (above ++ rows) n) (omega arith)
    ∙ get_or_append_left above rows (blank_row default_attrs v) (length above + k - up) (omega arith))

-- A row of the window after those that come back is a row of the page.
pub window_own : (v h down up : ℕ) (above rows : List RowValue) (k : ℕ) → k < h → up ≤ k →
    row_or v (window v h down up above rows) k ≡ row_or v rows (down + (k - up))
window_own v h down up above rows k l i =
    window_there v h down up above rows k l (omega arith)
    ∙ (get_or-append_right above rows (length above)
    (length above + down + k - up) (blank_row default_attrs v) refl (omega arith)
    ∙ ap (λ (n : ℕ). row_or v rows n) (omega arith))

-- ---- The new rows take over

refilled_at : (v w h down up : ℕ) (above rows : List RowValue) (k : ℕ) → k < h → (0 < up → down ≡ 0) →
    row_after_refill down up above rows (blank_row default_attrs w) k (blank_row default_attrs v)
    ≡ resized_row w (row_or v (window v h down up above rows) k)
refilled_at v w h down up above rows k l either =
    let blank = blank_row default_attrs w in
    let d = blank_row default_attrs v in
    let n = length blank.cells in
    let width : n ≡ w = length-replicate w default_blank in
    let back = resized_row n (get_or above (length above + k - up) d) in
    let own = resized_row n (get_or rows (down + (k - up)) d) in
    elim (cases_lt k up) [
      | inl i ↦
          let z = either (omega arith) in
          picks (nat_lt k up) (if nat_le up (length above + k) then back else blank)
          (if nat_lt (down + (k - up)) (length rows) then own else blank) (grind (arith, nat_tests))
          ∙ elim (cases_lt (length above + k) up) [
            | inl lost ↦
                passes (nat_le up (length above + k)) back blank (grind (arith, nat_tests))
                ∙ sym
                (ap (resized_row w) (window_lost v h down up above rows k l (omega arith)) ∙ resized_row-blank v w)
            | inr kept ↦
                picks (nat_le up (length above + k)) back blank (grind (arith, nat_tests))
                ∙ (ap (λ (m : ℕ). resized_row m (get_or above (length above + k - up) d)) width
                ∙ sym (ap (resized_row w) (window_above v h down up above rows k l i z kept)))
          ]
      | inr i ↦
          passes (nat_lt k up) (if nat_le up (length above + k) then back else blank)
          (if nat_lt (down + (k - up)) (length rows) then own else blank) (grind (arith, nat_tests))
          ∙ elim (cases_lt (down + (k - up)) (length rows)) [
            | inl there ↦
                picks (nat_lt (down + (k - up)) (length rows)) own blank (grind (arith, nat_tests))
                ∙ (ap (λ (m : ℕ). resized_row m (get_or rows (down + (k - up)) d)) width
                ∙ sym (ap (resized_row w) (window_own v h down up above rows k l i)))
            | inr past ↦
                passes (nat_lt (down + (k - up)) (length rows)) own blank (grind (arith, nat_tests))
                ∙ sym (ap (resized_row w)
                (window_own v h down up above rows k l i ∙ blank_at v (down + (k - up)) rows past)
                ∙ resized_row-blank v w)
          ]
    ]

pub refilled_is : (v w h down up : ℕ) (above rows fresh filled : List RowValue) →
    fresh ≡ replicate h (blank_row default_attrs w) → length filled ≡ length fresh → (0 < up → down ≡ 0) →
    ((k : ℕ) (d : RowValue) → k < length fresh →
    get_or filled k d ≡ row_after_refill down up above rows (get_or fresh k d) k d) →
    filled ≡ map (resized_row w) (window v h down up above rows)
refilled_is v w h down up above rows fresh filled e l either by_index =
    let d = blank_row default_attrs v in
    let blank = blank_row default_attrs w in
    let win = window v h down up above rows in
    let fresh_len : length fresh ≡ h = ap length e ∙ length-replicate h blank in
    ext_get_or d filled (map (resized_row w) win)
    (l ∙ (fresh_len ∙ sym (length-map win (resized_row w) ∙ length-window v h down up above rows))) (λ k i.
    let inside : k < h = omega (arith, l, fresh_len) in
    let there : get_or fresh k d ≡ blank =
    ap (λ (rows : List RowValue). get_or rows k d) e ∙ get_or-replicate h k blank d inside in
    by_index k d (omega (arith, l)) ∙ (ap (λ (row : RowValue). row_after_refill down up above rows row k d) there
    ∙ (refilled_at v w h down up above rows k inside either
    ∙ sym (get_or-map (resized_row w) win k d d (omega (arith, length-window v h down up above rows, inside))))))

whole : (n : ℕ) (given items : List RowValue) → length given ≡ length items →
    n ≡ length items → take n (given ++ drop (length given) items) ≡ given
whole n given items e l =
    let none : drop (length given) items ≡ [] = drop_all (length given) items (omega arith) in
    ap (λ (rest : List RowValue). take n (given ++ rest)) none
    ∙ (ap (take n) (append-nil given) ∙ take_all n given (omega arith))

-- Marking the last of the filled rows as not wrapped gives the resized rows of the window.
pub settled : (v w width h down up last : ℕ) (above rows fresh filled : List RowValue) →
    fresh ≡ replicate h (blank_row default_attrs w) → width ≡ w →
    0 < h → last ≡ length filled - 1 → length filled ≡ length fresh →
    (0 < up → down ≡ 0) →
    ((k : ℕ) (d : RowValue) → k < length fresh →
    get_or filled k d ≡ row_after_refill down up above rows (get_or fresh k d) k d) →
    unflagged width last filled ≡ rows_resized w (window v h down up above rows)
settled v w width h down up last above rows fresh filled e wide pos end same either by_index =
    let win = window v h down up above rows in
    let all : filled ≡ map (resized_row w) win =
    refilled_is v w h down up above rows fresh filled e same either by_index in
    let place : last ≡ length win - 1 = omega (
      arith,
      end,
      same,
      ap length e,
      length-replicate h (blank_row default_attrs w),
      length-window v h down up above rows,
    ) in
    λ z. unflagged (wide z) (place z) (all z)

-- A new page that is filled first from scrollback and then from the old page has the rows that `row_after_refill` describes.
pub refilled_by : (down up : ℕ) (above rows fresh half filled : List RowValue) → length half ≡ length fresh →
    ((k : ℕ) (d : RowValue) → k < length fresh →
    get_or half k d ≡ given_back up above (get_or fresh k d) k d) →
    ((k : ℕ) (d : RowValue) → k < length half →
    get_or filled k d ≡ taken_over down up rows (get_or half k d) k d) →
    (k : ℕ) (d : RowValue) → k < length fresh → get_or filled k d ≡ row_after_refill down up above rows (get_or fresh k d) k d
refilled_by down up above rows fresh half filled e f g k d h =
    let l : k < length half = omega (arith, e) in
    let blank = get_or fresh k d in
    let back = resized_row (length blank.cells) (get_or above (length above + k - up) d) in
    let own = resized_row (length blank.cells) (get_or rows (down + (k - up)) d) in
    elim (cases_lt k up) [
      | inl lt ↦
          let t : (nat_le up k && nat_lt (down + (k - up)) (length rows)) ≡ false = grind (arith, nat_tests) in
          let u : nat_lt k up ≡ true = grind (arith, nat_tests) in
          g k d l
          ∙ (passes (nat_le up k && nat_lt (down + (k - up)) (length rows))
          (resized_row (length (get_or half k d).cells) (get_or rows (down + (k - up)) d)) (get_or half k d) t
          ∙ (f k d h ∙ (ap (λ (b : Bool). if b && nat_le up (length above + k) then back else blank) u
          ∙ sym (picks (nat_lt k up) (if nat_le up (length above + k) then back else blank)
          (if nat_lt (down + (k - up)) (length rows) then own else blank) u))))
      | inr ge ↦
          let t : nat_le up k ≡ true = grind (arith, nat_tests) in
          let u : nat_lt k up ≡ false = grind (arith, nat_tests) in
          let still : get_or half k d ≡ blank =
          f k d h ∙ ap (λ (b : Bool). if b && nat_le up (length above + k) then back else blank) u in
          g k d l
          ∙ ((λ z. if t z && nat_lt (down + (k - up)) (length rows)
          then resized_row (length (still z).cells) (get_or rows (down + (k - up)) d) else still z)
          ∙ sym (passes (nat_lt k up) (if nat_le up (length above + k) then back else blank)
          (if nat_lt (down + (k - up)) (length rows) then own else blank) u))
    ]

pub all_blank : (h w : ℕ) (rows : List RowValue) → rows ≡ replicate h (blank_row default_attrs w) →
    All (λ row. row ≡ blank_row default_attrs (length row.cells)) rows
all_blank h w rows e =
    All-same (λ row. row ≡ blank_row default_attrs (length row.cells)) rows (replicate h (blank_row default_attrs w)) e
    (All-replicate (λ row. row ≡ blank_row default_attrs (length row.cells)) h
    (blank_row default_attrs w) (ap (blank_row default_attrs) (sym (length-replicate w default_blank))))

-- The rows of a new page below those that came back from scrollback are still blank.
pub still_fresh : (up : ℕ) (above fresh half : List RowValue) → length half ≡ length fresh →
    All (λ row. row ≡ blank_row default_attrs (length row.cells)) fresh →
    ((k : ℕ) (d : RowValue) → k < length fresh →
    get_or half k d ≡ given_back up above (get_or fresh k d) k d) →
    (k : ℕ) (d : RowValue) → up ≤ k → k < length half →
    get_or half k d ≡ blank_row default_attrs (length (get_or half k d).cells)
still_fresh up above fresh half e all f k d below h =
    let l : k < length fresh = omega (arith, e) in
    let u : nat_lt k up ≡ false = grind (arith, nat_tests) in
    let still : get_or half k d ≡ get_or fresh k d =
    f k d l
    ∙ ap (λ (b : Bool). if b && nat_le up (length above + k)
    then resized_row (length (get_or fresh k d).cells) (get_or above (length above + k - up) d) else get_or fresh k d)
    u in
    subst (λ (row : RowValue). row ≡ blank_row default_attrs (length row.cells)) (sym still)
    (All-get_or (λ row. row ≡ blank_row default_attrs (length row.cells)) fresh k d l all)

-- ---- A page

abbrev IsAny : RowValue → Type 0
IsAny row = IsRow (length row.cells) row

any : (w : ℕ) (row : RowValue) → IsRow w row → IsAny row
any w row r = subst (λ (n : ℕ). IsRow n row) (sym r.columns) r

any_blank : (w : ℕ) → IsAny (blank_row default_attrs w)
any_blank w = any w (blank_row default_attrs w) (IsRow-blank_row default_attrs w)

pub All-any : (w : ℕ) (rows : List RowValue) → All (IsRow w) rows → All (λ row. IsRow (length row.cells) row) rows
All-any w rows all = All-weaker (IsRow w) (λ row. IsRow (length row.cells) row) (any w) rows all

any_row : (w : ℕ) (rows : List RowValue) (k : ℕ) →
    All (λ row. IsRow (length row.cells) row) rows → IsAny (row_or w rows k)
any_row w rows k all = elim (cases_lt k (length rows)) [
  | inl lt ↦ All-get_or (λ row. IsRow (length row.cells) row) rows k (blank_row default_attrs w) lt all
  | inr ge ↦ subst IsAny (sym (blank_at w k rows ge)) (any_blank w)
]

All-window : (v h down up : ℕ) (above rows : List RowValue) →
    All (λ row. IsRow (length row.cells) row) above → All (λ row. IsRow (length row.cells) row) rows →
    All (λ row. IsRow (length row.cells) row) (window v h down up above rows)
All-window v h down up above rows a r =
    All-from_get_or (λ row. IsRow (length row.cells) row)
    (window v h down up above rows) (blank_row default_attrs v) (λ k l.
    let inside : k < h = omega (arith, l, length-window v h down up above rows) in
    let i = length above + down + k in
    subst IsAny (sym (row_or-window v h down up above rows k inside))
    (cond_both (nat_lt i up) (blank_row default_attrs v) (row_or v (above ++ rows) (i - up)) IsAny (λ _. any_blank v)
    (λ _. any_row v (above ++ rows) (i - up) (All-append (λ row. IsRow (length row.cells) row) above rows a r))))

IsRow-unflagged : (w : ℕ) (row : RowValue) → IsRow w row → IsRow w (record row { wrapped = false })
IsRow-unflagged w row r =
    record { columns = r.columns; paired = r.paired; flagged = λ h. absurd (grind arith); sound = r.sound }

All-resized : (w : ℕ) (rows : List RowValue) →
    All (λ row. IsRow (length row.cells) row) rows → All (IsRow w) (map (resized_row w) rows)
All-resized w rows all =
    All-map (IsRow w) (resized_row w) rows
    (All-weaker (λ row. IsRow (length row.cells) row) (λ row. IsRow w (resized_row w row))
    (λ row r. IsRow-resized_row (length row.cells) w row r) rows all)

length-rows_resized : (w : ℕ) (rows : List RowValue) → length (rows_resized w rows) ≡ length rows
length-rows_resized w rows =
    length-set (map (resized_row w) rows) (length rows - 1)
    (record (row_or w (map (resized_row w) rows) (length rows - 1)) { wrapped = false })
    ∙ length-map rows (resized_row w)

All-rows_resized : (w : ℕ) (rows : List RowValue) →
    All (λ row. IsRow (length row.cells) row) rows → All (IsRow w) (rows_resized w rows)
All-rows_resized w rows all =
    let wide = map (resized_row w) rows in
    All-set (IsRow w) wide (length rows - 1) (record (row_or w wide (length rows - 1)) { wrapped = false })
    (IsRow-unflagged w (row_or w wide (length rows - 1))
    (IsRow-row_or w wide (length rows - 1) (All-resized w rows all)))
    (All-resized w rows all)

last-rows_resized : (w : ℕ) (rows : List RowValue) → 0 < length rows →
    (row_or w (rows_resized w rows) (length rows - 1)).wrapped ≡ false
last-rows_resized w rows h =
    let wide = map (resized_row w) rows in
    let row : RowValue = record (row_or w wide (length rows - 1)) { wrapped = false } in
    ap (λ (x : RowValue). x.wrapped)
    (get_or-set_at wide (length rows - 1) (length rows - 1) row
    (blank_row default_attrs w) refl (omega (arith, length-map rows (resized_row w), h)))

pub page_page_resized : (height width : ℕ) (above : Scrollback) (page : Page) → IsPage page → IsScrollback above →
    0 < height → height < 2 ^ 16 → 0 < width → width < 2 ^ 16 → IsPage (page_resized height width above page)
unfolding page_resized
page_page_resized height width above page p a h hh w ww =
    let down = leaving_count height page in
    let up = returning_count height above page in
    let rows = window page.width height down up above.rows page.rows in
    let win : length rows ≡ height = length-window page.width height down up above.rows page.rows in
    let len : length (rows_resized width rows) ≡ height = length-rows_resized width rows ∙ win in
    record {
      has_columns = w;
      columns = ww;
      height = rw len hh;
      cursor_row = rw len (omega arith);
      cursor_column = omega arith;
      saved_row = rw len (omega arith);
      saved_column = omega arith;
      region = inr (refl, rw len (omega arith));
      region_end = rw len (omega arith);
      rows =
          All-rows_resized width rows
          (All-window page.width height down up above.rows page.rows a.sound (All-any page.width page.rows p.rows));
      last =
          ap (λ (n : ℕ). (row_or width (rows_resized width rows) (n - 1)).wrapped) (len ∙ sym win)
          ∙ last-rows_resized width rows (omega (arith, win));
    }

-- ---- Scrollback

pub offset-pushed : (h w : ℕ) (gone : List RowValue) (above : Scrollback) →
    (scrollback_after_push h w gone (out_of_view above)).offset ≡ 0
unfolding kept_after grown_in_view
offset-pushed h w [] above = refl
offset-pushed h w (row ∷ gone) above = refl

IsScrollback-out_of_view : (above : Scrollback) → IsScrollback above → IsScrollback (out_of_view above)
IsScrollback-out_of_view above a = record { kept = a.kept; in_view = omega arith; sound = a.sound }

pub scrollback_resized_is : (height : ℕ) (page : Page) (above : Scrollback) →
    IsPage page → IsScrollback above → IsScrollback (scrollback_resized height page above)
unfolding scrollback_resized
scrollback_resized_is height page above p a =
    let gone = take (leaving_count height page) page.rows in
    let mid = scrollback_after_push (length page.rows) page.width gone (out_of_view above) in
    let m = IsScrollback-pushed (length page.rows) page.width gone (out_of_view above)
    (All-take (IsRow page.width) (leaving_count height page) page.rows p.rows) (IsScrollback-out_of_view above a) in
    let n = length mid.rows - returning_count height above page in
    record {
      kept = omega (arith, m.kept, length-take n mid.rows);
      in_view = omega (arith, offset-pushed (length page.rows) page.width gone above);
      sound = All-take (λ row. IsRow (length row.cells) row) n mid.rows m.sound;
    }

-- ---- The steps of the code

-- If no row comes back, the window consists of rows of the page.
window_below : (v h down up : ℕ) (above rows : List RowValue) → up ≡ 0 →
    window v h down up above rows ≡ by_row h (λ k. row_or v (drop down rows) k)
unfolding window
window_below v h down up above rows z = λ i. by_row h (λ k. there k i) where
  there : (k : ℕ) →
      (if nat_lt (length above + down + k) up then blank_row default_attrs v
      else row_or v (above ++ rows) (length above + down + k - up))
      ≡ row_or v (drop down rows) k
  there k =
      passes (nat_lt (length above + down + k) up) (blank_row default_attrs v)
      (row_or v (above ++ rows) (length above + down + k - up)) (grind (arith, nat_tests))
      ∙ (get_or-append_right above rows (length above)
      (length above + down + k - up) (blank_row default_attrs v) refl (omega arith)
      ∙ (ap (λ (n : ℕ). row_or v rows n) (omega arith) ∙ sym (get_or-drop down rows k (blank_row default_attrs v))))

window_sent : (v h down up : ℕ) (above kept rows left : List RowValue) →
    (0 < up → down ≡ 0) → (down ≡ 0 → kept ≡ above) → drop down left ≡ drop down rows →
    window v h down up kept left ≡ window v h down up above rows
window_sent v h down up above kept rows left either same d = elim (cases_eq down 0) [
  | inl z ↦
      let own : left ≡ rows = ap (λ (n : ℕ). drop n left) (sym z) ∙ (d ∙ ap (λ (n : ℕ). drop n rows) z) in
      λ i. window v h down up (same z i) (own i)
  | inr pos ↦
      let none : up ≡ 0 = elim (cases_eq up 0) [ inl z ↦ z | inr some ↦ absurd (pos (either (omega arith))) ] in
      window_below v h down up kept left none
      ∙ (ap (λ (xs : List RowValue). by_row h (λ k. row_or v xs k)) d ∙ sym (window_below v h down up above rows none))
]

pushed_none : (h w n : ℕ) (rows : List RowValue) (above : Scrollback) →
    n ≡ 0 → (scrollback_after_push h w (take n rows) (out_of_view above)).rows ≡ above.rows
pushed_none h w n rows above z = ap (λ (m : ℕ). (scrollback_after_push h w (take m rows) (out_of_view above)).rows) z

pub page_by_steps : (h w r c down up : ℕ) (above mid : Scrollback)
    (page : Page) (left page_rows : PageRowsValue) (pos saved : Pos) (rows cols : ℕ) →
    rows ≡ h → cols ≡ w → down ≡ leaving_count h page → up ≡ returning_count h above page →
    mid ≡ scrollback_after_push r c (take down page.rows) (out_of_view above) →
    left.width ≡ page.width → drop down left.rows ≡ drop down page.rows →
    page_rows.rows ≡ rows_resized w (window left.width h down up mid.rows left.rows) → page_rows.width ≡ w →
    pos.row ≡ row_resized rows down up page.row → pos.col ≡ min page.column (cols - 1) →
    saved.row ≡ row_resized rows down up page.saved_row → saved.col ≡ min page.saved_column (cols - 1) →
    page_of page_rows pos saved 0 (rows - 1) page.origin page.saved_origin ≡ page_resized h w above page
unfolding page_resized
page_by_steps h w r c down up above mid page left page_rows pos saved rows cols hr wc d u m lw ld sr sw pr pc qr qc =
    let either : 0 < up → down ≡ 0 = λ s. omega (arith, d, u, s) in
    let kept : down ≡ 0 → mid.rows ≡ above.rows =
    λ z. ap (λ (s : Scrollback). s.rows) m ∙ pushed_none r c down page.rows above z in
    let win : window left.width h down up mid.rows left.rows
    ≡ window page.width h (leaving_count h page) (returning_count h above page) above.rows page.rows
    = ap (λ (v : ℕ). window v h down up mid.rows left.rows) lw
    ∙ (window_sent page.width h down up above.rows mid.rows page.rows left.rows either kept ld
    ∙ λ i. window page.width h (d i) (u i) above.rows page.rows) in
    let all : page_rows.rows
    ≡ rows_resized w (window page.width h (leaving_count h page) (returning_count h above page) above.rows page.rows) =
    sr ∙ ap (rows_resized w) win in
    let row : pos.row ≡ row_resized h (leaving_count h page) (returning_count h above page) page.row =
    pr ∙ λ i. row_resized (hr i) (d i) (u i) page.row in
    let saved_row : saved.row ≡ row_resized h (leaving_count h page) (returning_count h above page) page.saved_row =
    qr ∙ λ i. row_resized (hr i) (d i) (u i) page.saved_row in
    let column : pos.col ≡ min page.column (w - 1) = pc ∙ ap (λ (n : ℕ). min page.column (n - 1)) wc in
    let saved_column : saved.col ≡ min page.saved_column (w - 1) =
    qc ∙ ap (λ (n : ℕ). min page.saved_column (n - 1)) wc in
    λ i. record {
      rows = all i;
      row = row i;
      column = column i;
      saved_row = saved_row i;
      saved_column = saved_column i;
      top = 0;
      bottom = hr i - 1;
      origin = page.origin;
      saved_origin = page.saved_origin;
      width = sw i;
    }

pub above_by_steps : (h r c down up : ℕ) (above mid new : Scrollback) (page : Page) →
    r ≡ length page.rows → c ≡ page.width → down ≡ leaving_count h page → up ≡ returning_count h above page →
    mid ≡ scrollback_after_push r c (take down page.rows) (out_of_view above) →
    new ≡ taken_back up mid → new ≡ scrollback_resized h page above
unfolding scrollback_resized
above_by_steps h r c down up above mid new page re ce d u m t =
    t ∙ (ap (taken_back up) m ∙ λ i. taken_back (u i) (scrollback_after_push (re i) (ce i) (take (d i) page.rows) (out_of_view above)))

pub sized_resized : (rows cols h w : ℕ) (above : Scrollback) (page : Page) → rows ≡ h → cols ≡ w →
    IsPage (page_resized h w above page) → IsSized rows cols (page_resized h w above page)
unfolding page_resized
sized_resized rows cols h w above page r c p =
    let win = window page.width h (leaving_count h page) (returning_count h above page) above.rows page.rows in
    record {
      sound = p;
      height =
          r
          ∙ sym (length-rows_resized w win
          ∙ length-window page.width h (leaving_count h page) (returning_count h above page) above.rows page.rows);
      width = c;
    }

-- ---- The size of a new page

pub fresh_height : (height width : ℕ) (page : Page) → page ≡ blank_page height width → length page.rows ≡ height
fresh_height height width page e =
    ap (λ (p : Page). length p.rows) e ∙ length-replicate height (blank_row default_attrs width)

pub fresh_width : (height width : ℕ) (page : Page) → page ≡ blank_page height width → page.width ≡ width
fresh_width height width page e = ap (λ (p : Page). p.width) e
