-- A page resized in place: rows appended, rows brought back to the top, and rows removed.
use Rattle.std.proofs.Common.{◌≡◌, ℕ, ◌+◌, ◌*◌, ◌-◌, ◌<◌, ◌≤◌, ◌^◌, min, nat_le, nat_lt, Bool, true, false, List, ◌++◌}
use Rattle.std.proofs.Common.{length, take, replicate, get_or, refl, inl, inr, sym, ap, subst, ◌∙◌, arith}
use Rattle.std.specs.Prelude.{All, ◌&&◌, if◌then◌else◌}
use Rattle.std.proofs.lemmas.Bool.{cases_lt}
use Rattle.std.proofs.lemmas.Bool.Decides.{nat_tests}
use Rattle.std.proofs.lemmas.List.{length-append, length-replicate, take_all, get_or_append_left, get_or-append_right}
use Rattle.std.proofs.lemmas.List.{get_or-replicate}
use Rattle.std.proofs.lemmas.List.Elements.{All-append, All-from_get_or, All-get_or, All-replicate}
use Rattle.std.proofs.lemmas.List.FromFn.{length-map-range_with_len, get_or-map-range_with_len}
use Rattle.vt_cells.specs.Attrs.{default_attrs}
use Rattle.vt_cells.specs.Cell.{CellValue, default_blank}
use Rattle.vt_rows.specs.Cells.{at, blanks}
use Rattle.vt_rows.specs.Internals.{rotation_source}
use Rattle.vt_rows.specs.Row.{RowValue, IsRow, blank_row, resized_row}
use Rattle.vt_rows.proofs.Edits.{at-blanks, blanks_is}
use Rattle.vt_rows.proofs.Moves.{resized_row-same}
use Rattle.vt_rows.proofs.Rows.{IsRow-blank_row}
use Rattle.vt_grid.specs.declared.flat.Columns.{Columns}
use Rattle.vt_grid.specs.declared.flat.Flat.{Flat}
use Rattle.vt_grid.specs.declared.flat.Line.{Line}
use Rattle.vt_grid.specs.Flat.{IsBlankFrom, IsFlat, IsStored, IsTable, cells_at, line_at, lines_from, no_line}
use Rattle.vt_grid.specs.Flat.{row_in, rows_in, used_columns}
use Rattle.vt_cells.specs.declared.pos.Pos.{Pos}
use Rattle.vt_grid.specs.Internals.{IsSized, given_back, page_of, row_after_refill}
use Rattle.vt_grid.specs.Page.{IsPage, Page}
use Rattle.vt_grid.specs.Scrollback.{IsScrollback, Scrollback, no_scrollback}
use Rattle.vt_grid.specs.PageRows.{PageRowsValue, with_blank_rows}
use Rattle.vt_grid.specs.Resize.{out_of_view, page_resized, returning_count, row_resized, rows_resized}
use Rattle.vt_grid.specs.Resize.{scrollback_resized, taken_back, window}
use Rattle.vt_grid.specs.Shifts.{unflagged}
use Rattle.vt_grid.proofs.Flats.{blanks-start, length-cells_at, page_rows_of, place_inside, rows_counted, row_found, rows_in_by}
use Rattle.vt_grid.proofs.Packing.{cell_of_place, cells_at_by}
use Rattle.vt_grid.proofs.Resizing.{above_by_steps, page_by_steps, page_page_resized, passes, picks, settled, sized_resized}

-- The storage with the same cells and the same table.
pub same_flat : (flat new : Flat) → IsFlat flat → new.cells.items ≡ flat.cells.items →
    new.lines.items ≡ flat.lines.items → new.columns ≡ flat.columns → (page_rows_of new ≡ page_rows_of flat) × IsFlat new
same_flat flat new t c l w = (
  λ z. record { rows = rows_in (w z) (c z) (l z); width = (w z).shown },
  subst (λ (x : Columns × (List CellValue × List Line)). IsStored x.0 x.1.0 x.1.1) (λ z. (sym w z, (sym c z, sym l z))) t,
)

-- ---- Rows appended

line_before : (rows k : ℕ) (lines : List Line) → k < length lines →
    line_at (lines ++ lines_from (length lines) (rows - length lines)) k ≡ line_at lines k
line_before rows k lines h =
    get_or_append_left lines (lines_from (length lines) (rows - length lines)) no_line k h

line_after : (rows k : ℕ) (lines : List Line) → length lines ≤ k → k < rows →
    line_at (lines ++ lines_from (length lines) (rows - length lines)) k ≡ record { place = k; used = 0; wrapped = false }
line_after rows k lines h i =
    get_or-append_right lines (lines_from (length lines) (rows - length lines)) (length lines) k no_line refl h
    ∙ get_or-map-range_with_len (λ place. record { place = place; used = 0; wrapped = false })
    (length lines) (rows - length lines) (k - length lines) k no_line (omega (arith, h, i)) (omega (arith, h))

length-lines : (rows : ℕ) (lines : List Line) → length lines ≤ rows →
    length (lines ++ lines_from (length lines) (rows - length lines)) ≡ rows
length-lines rows lines h = omega (
  arith,
  length-append lines (lines_from (length lines) (rows - length lines)),
  length-map-range_with_len {X = Line} (λ place. record { place = place; used = 0; wrapped = false }) (length lines)
      (rows - length lines),
  h,
)

length-cells : (w rows : ℕ) (cells : List CellValue) (lines : List Line) → IsTable w cells lines →
    length lines ≤ rows → length (cells ++ blanks default_attrs (rows * w - length cells)) ≡ rows * w
length-cells w rows cells lines t h =
    let many : length lines * w ≤ rows * w = grind (arith, h) in
    omega (
      arith,
      length-append cells (blanks default_attrs (rows * w - length cells)),
      length-replicate (rows * w - length cells) default_blank,
      t.filled,
      many,
    )

IsTable-appended : (w rows : ℕ) (cells : List CellValue) (lines : List Line) → IsTable w cells lines →
    length lines ≤ rows →
    IsTable w (cells ++ blanks default_attrs (rows * w - length cells))
    (lines ++ lines_from (length lines) (rows - length lines))
IsTable-appended w rows cells lines t h =
    let l = length-lines rows lines h in
    let all = lines ++ lines_from (length lines) (rows - length lines) in
    let place : (k : ℕ) → k < rows → length lines ≤ k → (line_at all k).place ≡ k =
    λ k i j. ap (λ (x : Line). x.place) (line_after rows k lines j i) in
    let below : (k : ℕ) → k < length lines → (line_at all k).place ≡ (line_at lines k).place =
    λ k i. ap (λ (x : Line). x.place) (line_before rows k lines i) in
    record {
      filled = length-cells w rows cells lines t h ∙ ap (λ (n : ℕ). n * w) (sym l);
      inside = λ r i. elim (cases_lt r (length lines)) [
        | inl lt ↦ let there = t.inside r lt in omega (arith, below r lt, l, there, h)
        | inr ge ↦ omega (arith, place r (omega (arith, l, i)) ge, i)
      ];
      distinct = λ r s i j same. elim (cases_lt r (length lines)) [
        | inl lt ↦ elim (cases_lt s (length lines)) [
          | inl less ↦ t.distinct r s lt less (sym (below r lt) ∙ (same ∙ below s less))
          | inr ge ↦
              let there = t.inside r lt in
              absurd (omega (arith, below r lt, place s (omega (arith, l, j)) ge, same, there, ge))
        ]
        | inr ge ↦ elim (cases_lt s (length lines)) [
          | inl less ↦
              let there = t.inside s less in
              absurd (omega (arith, below s less, place r (omega (arith, l, i)) ge, same, there, ge))
          | inr more ↦ omega (arith, place r (omega (arith, l, i)) ge, place s (omega (arith, l, j)) more, same)
        ]
      ];
    }

rows_before : (n k w : ℕ) → n ≤ k → n * w ≤ k * w
rows_before n k w h = grind (arith, h)

-- The cells of the former rows.
cells_before : (w rows : ℕ) (cells : List CellValue) (lines : List Line) → IsTable w cells lines →
    length lines ≤ rows → (k : ℕ) → k < length lines →
    cells_at w (cells ++ blanks default_attrs (rows * w - length cells)) (line_at lines k).place
    ≡ cells_at w cells (line_at lines k).place
cells_before w rows cells lines t h k lt =
    let more = blanks default_attrs (rows * w - length cells) in
    let p = (line_at lines k).place in
    let q = t.inside k lt in
    let fits = place_inside p (length lines) w q in
    cells_at_by w rows (length lines) p p (cells ++ more) cells (length-cells w rows cells lines t h) t.filled
    (omega (arith, q, h)) q (λ j o.
    get_or_append_left cells more default_blank (p * w + j) (omega (arith, fits, t.filled, o)))

-- The cells of the appended rows.
cells_after : (w rows : ℕ) (cells : List CellValue) (lines : List Line) → IsTable w cells lines →
    length lines ≤ rows → (k : ℕ) → length lines ≤ k → k < rows →
    cells_at w (cells ++ blanks default_attrs (rows * w - length cells)) k ≡ blanks default_attrs w
cells_after w rows cells lines t h k ge inside =
    let more = blanks default_attrs (rows * w - length cells) in
    let fits = place_inside k rows w inside in
    let before = rows_before (length lines) k w ge in
    blanks_is default_attrs w (cells_at w (cells ++ more) k)
    (length-cells_at w rows k (cells ++ more) (length-cells w rows cells lines t h) inside) (λ j o.
    cell_of_place w k j (cells ++ more) default_blank o
    ∙ (get_or-append_right cells more (length cells) (k * w + j) default_blank refl
    (omega (arith, before, t.filled))
    ∙ get_or-replicate (rows * w - length cells) (k * w + j - length cells) default_blank default_blank
    (omega (arith, before, t.filled, fits, o))))

rows_in-appended : (w : Columns) (rows : ℕ) (cells : List CellValue) (lines : List Line) → IsStored w cells lines →
    length lines ≤ rows →
    rows_in w (cells ++ blanks default_attrs (rows * w.stored - length cells))
    (lines ++ lines_from (length lines) (rows - length lines))
    ≡ rows_in w cells lines ++ replicate (rows - length lines) (blank_row default_attrs w.shown)
rows_in-appended w rows cells lines t h =
    let n = length lines in
    let l = length-lines rows lines h in
    let m = rows_counted w cells lines in
    let d = blank_row default_attrs w.shown in
    let more = replicate (rows - n) d in
    let all = cells ++ blanks default_attrs (rows * w.stored - length cells) in
    rows_in_by w all (lines ++ lines_from n (rows - n)) (rows_in w cells lines ++ more) d
    (omega (arith, length-append (rows_in w cells lines) more, length-replicate (rows - n) d, m, l, h)) (λ k i.
    let inside : k < rows = omega (arith, i, l) in
    elim (cases_lt k n) [
      | inl lt ↦
          ap (row_in w all) (line_before rows k lines lt)
          ∙ (ap (λ (xs : List CellValue). record { cells = take w.shown xs; wrapped = (line_at lines k).wrapped })
          (cells_before w.stored rows cells lines t.table h k lt)
          ∙ sym (get_or_append_left (rows_in w cells lines) more d k (omega (arith, m, lt))
          ∙ row_found w k cells lines d lt))
      | inr ge ↦
          ap (row_in w all) (line_after rows k lines ge inside)
          ∙ (ap (λ (xs : List CellValue). record { cells = xs; wrapped = false })
          (ap (take w.shown) (cells_after w.stored rows cells lines t.table h k ge inside)
          ∙ blanks-start w.shown w.stored default_attrs t.fits)
          ∙ sym (get_or-append_right (rows_in w cells lines) more (length (rows_in w cells lines)) k d refl
          (omega (arith, m, ge))
          ∙ get_or-replicate (rows - n) (k - length (rows_in w cells lines)) d d (omega (arith, m, ge, inside))))
    ])

IsStored-appended : (w : Columns) (rows : ℕ) (cells : List CellValue) (lines : List Line) → IsStored w cells lines →
    length lines ≤ rows →
    IsStored w (cells ++ blanks default_attrs (rows * w.stored - length cells))
    (lines ++ lines_from (length lines) (rows - length lines))
IsStored-appended w rows cells lines t h =
    let n = length lines in
    let l = length-lines rows lines h in
    let all = cells ++ blanks default_attrs (rows * w.stored - length cells) in
    let table = lines ++ lines_from n (rows - n) in
    record {
      table = IsTable-appended w.stored rows cells lines t.table h;
      fits = t.fits;
      blank = λ k i. elim (cases_lt k n) [
        | inl lt ↦
            let line = line_before rows k lines lt in
            let same = ap (λ (x : Line). cells_at w.stored all x.place) line
            ∙ cells_before w.stored rows cells lines t.table h k lt in
            subst (λ (x : ℕ × List CellValue). IsBlankFrom (used_columns w.shown x.0) x.1)
            (λ z. ((sym line z).used, sym same z)) (t.blank k lt)
        | inr ge ↦
            let inside : k < rows = omega (arith, l, i) in
            let same = ap (λ (x : Line). cells_at w.stored all x.place) (line_after rows k lines ge inside)
            ∙ cells_after w.stored rows cells lines t.table h k ge inside in
            λ j o. ap (λ (xs : List CellValue). at xs j) same ∙ at-blanks w.stored j
      ];
    }

-- The page after default blank rows were appended.
pub appended_flat : (rows : ℕ) (flat new : Flat) → IsFlat flat → length flat.lines.items ≤ rows →
    new.cells.items ≡ flat.cells.items ++ blanks default_attrs (rows * flat.columns.stored - length flat.cells.items) →
    new.lines.items
    ≡ flat.lines.items ++ lines_from (length flat.lines.items) (rows - length flat.lines.items) →
    new.columns ≡ flat.columns → (page_rows_of new ≡ with_blank_rows rows (page_rows_of flat)) × IsFlat new
appended_flat rows flat new t h c l w =
    let cells = flat.cells.items in
    let lines = flat.lines.items in
    let n = rows_counted flat.columns cells lines in (
      (λ z. record { rows = rows_in (w z) (c z) (l z); width = (w z).shown })
          ∙ ((λ z. record { rows = rows_in-appended flat.columns rows cells lines t h z; width = flat.columns.shown })
          ∙ (λ z. record {
            rows = rows_in flat.columns cells lines
                ++ replicate (rows - sym n z) (blank_row default_attrs flat.columns.shown);
            width = flat.columns.shown;
          })),
      subst (λ (x : Columns × (List CellValue × List Line)). IsStored x.0 x.1.0 x.1.1)
          (λ z. (sym w z, (sym c z, sym l z))) (IsStored-appended flat.columns rows cells lines t h),
    )

-- ---- Rows brought back to the top

-- The last rows of a page with blank rows appended.
pub appended_blank : (w h k : ℕ) (own old : List RowValue) (d : RowValue) →
    old ≡ own ++ replicate (h - length own) (blank_row default_attrs w) → length own ≤ k → k < h →
    get_or old k d ≡ blank_row default_attrs w
appended_blank w h k own old d e i l =
    let blank = blank_row default_attrs w in
    ap (λ (xs : List RowValue). get_or xs k d) e
    ∙ (get_or-append_right own (replicate (h - length own) blank) (length own) k d refl i
    ∙ get_or-replicate (h - length own) (k - length own) blank d (omega (arith, i, l)))

appended_own : (w h k : ℕ) (own old : List RowValue) (d : RowValue) →
    old ≡ own ++ replicate (h - length own) (blank_row default_attrs w) → k < length own →
    get_or old k d ≡ get_or own k d
appended_own w h k own old d e l =
    ap (λ (xs : List RowValue). get_or xs k d) e
    ∙ get_or_append_left own (replicate (h - length own) (blank_row default_attrs w)) d k l

-- A row of the page as wide as a blank row, resized to the width of that row.
fitted : (w k : ℕ) (rows : List RowValue) (d : RowValue) → All (IsRow w) rows → k < length rows →
    get_or rows k d ≡ resized_row (length (blank_row default_attrs w).cells) (get_or rows k d)
fitted w k rows d all h =
    let row = All-get_or (IsRow w) rows k d h all in
    sym (resized_row-same (length (blank_row default_attrs w).cells) (get_or rows k d)
    (row.columns ∙ sym (length-replicate w default_blank)) row.paired)

pub turned_blank : (n up k : ℕ) → up ≤ n → k < up → rotation_source 0 n (n - up) k ≡ k + (n - up)
turned_blank n up k h i = grind (arith, nat_tests)

-- The rows before the appended ones are valid.
own_sound : (w h : ℕ) (own old : List RowValue) →
    old ≡ own ++ replicate (h - length own) (blank_row default_attrs w) → All (IsRow w) old → All (IsRow w) own
own_sound w h own old e all =
    let d = blank_row default_attrs w in
    All-from_get_or (IsRow w) own d (λ k l.
    subst (IsRow w) (appended_own w h k own old d e l)
    (All-get_or (IsRow w) old k d
    (omega (arith, l, ap length e, length-append own (replicate (h - length own) d))) all))

turned_down : (n up k : ℕ) → up ≤ n → up ≤ k → k < n → rotation_source 0 n (n - up) k ≡ k - up
turned_down n up k h i j = grind (arith, nat_tests)

brought_at : (w h up : ℕ) (above own old turned filled : List RowValue) →
    old ≡ own ++ replicate (h - length own) (blank_row default_attrs w) → length own + up ≤ h →
    All (IsRow w) own →
    ((k : ℕ) (d : RowValue) → k < h → get_or turned k d ≡ get_or old (rotation_source 0 h (h - up) k) d) →
    ((k : ℕ) (d : RowValue) → k < h → get_or filled k d ≡ given_back up above (get_or turned k d) k d) →
    (k : ℕ) (d : RowValue) → k < h →
    get_or filled k d ≡ row_after_refill 0 up above own (blank_row default_attrs w) k d
brought_at w h up above own old turned filled e few sound t f k d l =
    let blank = blank_row default_attrs w in
    let n = length blank.cells in
    let back = resized_row n (get_or above (length above + k - up) d) in
    let mine = resized_row n (get_or own (0 + (k - up)) d) in
    let room : up ≤ h = omega (arith, few) in
    elim (cases_lt k up) [
      | inl lt ↦
          let u : nat_lt k up ≡ true = grind (arith, nat_tests) in
          let was : get_or turned k d ≡ blank =
          t k d l
          ∙ (ap (λ (i : ℕ). get_or old i d) (turned_blank h up k room lt)
          ∙ appended_blank w h (k + (h - up)) own old d e (omega (arith, few)) (omega (arith, lt, few))) in
          f k d l
          ∙ (ap (λ (row : RowValue). given_back up above row k d) was
          ∙ (ap (λ (b : Bool). if b && nat_le up (length above + k) then back else blank) u
          ∙ sym (picks (nat_lt k up) (if nat_le up (length above + k) then back else blank)
          (if nat_lt (0 + (k - up)) (length own) then mine else blank) u)))
      | inr ge ↦
          let u : nat_lt k up ≡ false = grind (arith, nat_tests) in
          let was : get_or turned k d ≡ get_or old (k - up) d =
          t k d l ∙ ap (λ (i : ℕ). get_or old i d) (turned_down h up k room ge l) in
          f k d l
          ∙ (ap (λ (row : RowValue). given_back up above row k d) was
          ∙ (ap (λ (b : Bool). if b && nat_le up (length above + k)
          then resized_row (length (get_or old (k - up) d).cells) (get_or above (length above + k - up) d)
          else get_or old (k - up) d) u
          ∙ (elim (cases_lt (k - up) (length own)) [
            | inl there ↦
                appended_own w h (k - up) own old d e there
                ∙ (fitted w (k - up) own d sound there
                ∙ (ap (λ (i : ℕ). resized_row n (get_or own i d)) (omega arith)
                ∙ sym (picks (nat_lt (0 + (k - up)) (length own)) mine blank (grind (arith, nat_tests)))))
            | inr past ↦
                appended_blank w h (k - up) own old d e past (omega (arith, l))
                ∙ sym (passes (nat_lt (0 + (k - up)) (length own)) mine blank (grind (arith, nat_tests)))
          ]
          ∙ sym (passes (nat_lt k up) (if nat_le up (length above + k) then back else blank)
          (if nat_lt (0 + (k - up)) (length own) then mine else blank) u))))
    ]

-- The page after rows came back to its top and the flag of its last row was cleared.
pub brought_back : (w width h up last : ℕ) (above own old turned filled : List RowValue) →
    old ≡ own ++ replicate (h - length own) (blank_row default_attrs w) → length own + up ≤ h → 0 < h →
    All (IsRow w) old → length filled ≡ h → width ≡ w → last ≡ h - 1 →
    ((k : ℕ) (d : RowValue) → k < h → get_or turned k d ≡ get_or old (rotation_source 0 h (h - up) k) d) →
    ((k : ℕ) (d : RowValue) → k < h → get_or filled k d ≡ given_back up above (get_or turned k d) k d) →
    unflagged width last filled ≡ rows_resized w (window w h 0 up above own)
brought_back w width h up last above own old turned filled e few pos sound l wide end t f =
    let blank = blank_row default_attrs w in
    let fresh = replicate h blank in
    let n : length fresh ≡ h = length-replicate h blank in
    settled w w width h 0 up last above own fresh filled refl wide pos (end ∙ ap (λ (m : ℕ). m - 1) (sym l))
    (l ∙ sym n) (λ _. refl) (λ k d i.
    let inside : k < h = omega (arith, n, i) in
    brought_at w h up above own old turned filled e few (own_sound w h own old e sound) t f k d inside
    ∙ ap (λ (row : RowValue). row_after_refill 0 up above own row k d) (sym (get_or-replicate h k blank d inside)))

-- ---- Rows removed

turned_up : (n down rows k : ℕ) → down + rows ≤ n → k < rows → rotation_source 0 n down k ≡ down + k
turned_up n down rows k h i = grind (arith, nat_tests)

-- The page after some of its rows were kept and the flag of the last of them was cleared.
pub kept_rows : (w width n down rows last : ℕ) (above old turned kept : List RowValue) → length old ≡ n →
    down + rows ≤ n → 0 < rows → All (IsRow w) old → length kept ≡ rows → width ≡ w → last ≡ rows - 1 →
    ((k : ℕ) (d : RowValue) → k < n → get_or turned k d ≡ get_or old (rotation_source 0 n down k) d) →
    ((k : ℕ) (d : RowValue) → k < rows → get_or kept k d ≡ get_or turned k d) →
    unflagged width last kept ≡ rows_resized w (window w rows down 0 above old)
kept_rows w width n down rows last above old turned kept size few pos sound l wide end t f =
    let blank = blank_row default_attrs w in
    let fresh = replicate rows blank in
    let m : length fresh ≡ rows = length-replicate rows blank in
    settled w w width rows down 0 last above old fresh kept refl wide pos (end ∙ ap (λ (i : ℕ). i - 1) (sym l))
    (l ∙ sym m) (λ some. absurd (omega (arith, some))) (λ k d i.
    let inside : k < rows = omega (arith, m, i) in
    let there : down + k < length old = omega (arith, inside, few, size) in
    let own = resized_row (length blank.cells) (get_or old (down + (k - 0)) d) in
    let back = resized_row (length blank.cells) (get_or above (length above + k - 0) d) in
    f k d inside
    ∙ (t k d (omega (arith, inside, few))
    ∙ (ap (λ (j : ℕ). get_or old j d) (turned_up n down rows k few inside)
    ∙ (fitted w (down + k) old d sound there
    ∙ (ap (λ (j : ℕ). resized_row (length blank.cells) (get_or old j d)) (omega arith)
    ∙ (sym (picks (nat_lt (down + (k - 0)) (length old)) own blank (grind (arith, nat_tests, there)))
    ∙ (sym (passes (nat_lt k 0) (if nat_le 0 (length above + k) then back else blank)
    (if nat_lt (down + (k - 0)) (length old) then own else blank) (grind (arith, nat_tests)))
    ∙ ap (λ (row : RowValue). row_after_refill down 0 above old row k d)
    (sym (get_or-replicate rows k blank d inside)))))))))

-- ---- A page with rows appended

length-added : (h : ℕ) (left ext : PageRowsValue) → ext ≡ with_blank_rows h left → length left.rows ≤ h →
    length ext.rows ≡ h
length-added h left ext e l =
    let more = replicate (h - length left.rows) (blank_row default_attrs left.width) in
    ap (λ (s : PageRowsValue). length s.rows) e
    ∙ omega (
      arith,
      length-append left.rows more,
      length-replicate (h - length left.rows) (blank_row default_attrs left.width),
      l,
    )

pub added_sound : (h : ℕ) (left ext : PageRowsValue) → ext ≡ with_blank_rows h left →
    All (IsRow left.width) left.rows → All (IsRow ext.width) ext.rows
added_sound h left ext e all =
    let blank = blank_row default_attrs left.width in
    let m = h - length left.rows in
    subst (λ (s : PageRowsValue). All (IsRow s.width) s.rows) (sym e)
    (All-append (IsRow left.width) left.rows (replicate m blank) all
    (All-replicate (IsRow left.width) m blank (IsRow-blank_row default_attrs left.width)))

pub added_blank : (h up k : ℕ) (left ext : PageRowsValue) (d : RowValue) → ext ≡ with_blank_rows h left →
    length left.rows + up ≤ h → length ext.rows ≤ k + up → k < length ext.rows →
    get_or ext.rows k d ≡ blank_row default_attrs ext.width
added_blank h up k left ext d e few i l =
    let n = length-added h left ext e (omega (arith, few)) in
    appended_blank left.width h k left.rows ext.rows d (ap (λ (s : PageRowsValue). s.rows) e)
    (omega (arith, few, i, n)) (omega (arith, n, l))
    ∙ ap (blank_row default_attrs) (sym (ap (λ (s : PageRowsValue). s.width) e))

-- The page after rows were appended and rows came back to its top.
pub grown_page : (h rows cols up : ℕ) (above mid : Scrollback) (page : Page) (left ext page_rows : PageRowsValue)
    (pos saved : Pos) → length page.rows ≤ h → rows ≡ h → cols ≡ page.width → up ≡ returning_count h above page →
    mid ≡ out_of_view above → left.rows ≡ page.rows → left.width ≡ page.width → ext ≡ with_blank_rows h left →
    ((own : List RowValue) → length own + up ≤ length ext.rows →
    ext.rows ≡ own ++ replicate (length ext.rows - length own) (blank_row default_attrs ext.width) →
    page_rows.rows ≡ rows_resized ext.width (window ext.width (length ext.rows) 0 up mid.rows own)) →
    page_rows.width ≡ ext.width →
    pos.row ≡ row_resized rows 0 up page.row → pos.col ≡ min page.column (cols - 1) →
    saved.row ≡ row_resized rows 0 up page.saved_row → saved.col ≡ min page.saved_column (cols - 1) →
    page_of page_rows pos saved 0 (rows - 1) page.origin page.saved_origin ≡ page_resized h page.width above page
grown_page h rows cols up above mid page left ext page_rows pos saved more hr wc u m lr lw e f w pr pc qr qc =
    let few : length left.rows ≤ h = omega (arith, more, ap length lr) in
    let n = length-added h left ext e few in
    let wide : ext.width ≡ left.width = ap (λ (s : PageRowsValue). s.width) e in
    let room : length left.rows + up ≤ h = omega (arith, few, u, ap length lr) in
    let same : ext.rows ≡ left.rows ++ replicate (h - length left.rows) (blank_row default_attrs left.width) =
    ap (λ (s : PageRowsValue). s.rows) e in
    let sr : page_rows.rows ≡ rows_resized page.width (window left.width h 0 up mid.rows left.rows) =
    f left.rows (omega (arith, n, room))
    (same ∙ λ z. left.rows ++ replicate (sym n z - length left.rows) (blank_row default_attrs (sym wide z)))
    ∙ (λ z. rows_resized ((wide ∙ lw) z) (window (wide z) (n z) 0 up mid.rows left.rows)) in
    page_by_steps h page.width 0 0 0 up above mid page left page_rows pos saved rows cols hr wc (omega (arith, more)) u m
    lw lr sr (w ∙ (wide ∙ lw)) pr pc qr qc

pub grown_above : (h up : ℕ) (above mid new : Scrollback) (page : Page) → length page.rows ≤ h →
    up ≡ returning_count h above page → mid ≡ out_of_view above → new ≡ taken_back up mid →
    new ≡ scrollback_resized h page above
grown_above h up above mid new page more u m t =
    above_by_steps h (length page.rows) page.width 0 up above mid new page refl refl (omega (arith, more)) u m t

pub resized_sound : (h rows cols : ℕ) (above : Scrollback) (page resized : Page) →
    resized ≡ page_resized h page.width above page → rows ≡ h → cols ≡ page.width → 0 < h → h < 2 ^ 16 → IsPage page →
    IsScrollback above → IsSized rows cols resized
resized_sound h rows cols above page resized e hr wc pos few p a =
    subst (IsSized rows cols) (sym e)
    (sized_resized rows cols h page.width above page hr wc
    (page_page_resized h page.width above page p a pos few p.has_columns p.columns))

pub taken_none : (above : Scrollback) → above ≡ taken_back 0 above
taken_none above =
    let rows : above.rows ≡ take (length above.rows - 0) above.rows =
    sym (take_all (length above.rows - 0) above.rows (omega arith)) in
    let theoretical : above.theoretical ≡ above.theoretical - 0 = omega arith in
    λ z. record above { rows = rows z; theoretical = theoretical z }

pub none_sound : IsScrollback (no_scrollback 0)
none_sound = record { kept = omega arith; in_view = omega arith; sound = λ k d h. absurd (omega (arith, h)) }
