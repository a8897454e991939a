-- Pages that become narrower or wider in place.
use Rattle.std.proofs.Common.{◌≡◌, ℕ, ◌+◌, ◌-◌, ◌*◌, ◌<◌, ◌≤◌, ◌^◌, nat_lt, min, Bool, true, false, List, ◌++◌}
use Rattle.std.proofs.Common.{length, take, drop, map, get_or, set, refl, inl, inr, sym, ap, subst, ◌∙◌, arith}
use Rattle.std.specs.Prelude.{All, ◌&&◌, ◌==◌, if◌then◌else◌}
use Rattle.std.proofs.lemmas.Bool.{cases_lt}
use Rattle.std.proofs.lemmas.Bool.Decides.{nat_tests}
use Rattle.std.proofs.lemmas.List.{length-append, length-drop, length-map, length-replicate, length-take, take-append-le}
use Rattle.std.proofs.lemmas.List.{take_all, take-take, ext_get_or, get_or_append_left, get_or-append_right}
use Rattle.std.proofs.lemmas.List.{get_or-drop, get_or-map, get_or-take, set-get_or}
use Rattle.std.proofs.lemmas.List.Elements.{All-get_or}
use Rattle.vt_cells.specs.Attrs.{default_attrs}
use Rattle.vt_cells.specs.Cell.{CellValue, default_blank, is_wide, blank, attrs_of}
use Rattle.vt_rows.specs.Cells.{IsPaired, at, blanks, cells_after_resize}
use Rattle.vt_rows.specs.Internals.{end_blanked}
use Rattle.vt_rows.specs.Row.{RowValue, IsRow, blank_row, resized_row}
use Rattle.vt_rows.proofs.Edits.{at-blanks}
use Rattle.vt_rows.proofs.Moves.{length-resized, resized_row-other}
use Rattle.vt_rows.proofs.ShiftSteps.{at-end_blanked, grown_is, resized_is}
use Rattle.vt_grid.specs.declared.flat.Columns.{Columns}
use Rattle.vt_grid.specs.declared.flat.Flat.{Flat}
use Rattle.vt_grid.specs.declared.flat.Line.{Line}
use Rattle.vt_grid.specs.Flat.{IsBlankFrom, IsFlat, IsStored, cells_at, line_at, row_in, rows_in, rows_of}
use Rattle.vt_grid.specs.Flat.{used_columns}
use Rattle.vt_cells.specs.declared.pos.Pos.{Pos}
use Rattle.vt_grid.specs.Internals.{IsSized, cells_cut, page_of}
use Rattle.vt_grid.specs.Page.{IsPage, Page, row_or}
use Rattle.vt_grid.specs.Resize.{out_of_view, page_resized, row_resized, rows_resized, scrollback_resized, window}
use Rattle.vt_grid.specs.Scrollback.{IsScrollback, Scrollback}
use Rattle.vt_grid.specs.PageRows.{PageRowsValue, with_width}
use Rattle.vt_grid.proofs.Bounds.{used_inside}
use Rattle.vt_grid.proofs.Heights.{taken_none}
use Rattle.vt_grid.proofs.Resizing.{above_by_steps, length-window, page_by_steps, page_page_resized, sized_resized}
use Rattle.vt_grid.proofs.Resizing.{window_own}
use Rattle.vt_grid.proofs.Flats.{IsTable-moved, length-cells_at, page_rows_of, row_found, rows_counted, rows_in_by}

-- ---- Cells cut or extended

-- The first cells of a row, with the end of the last one blanked, are the row cut to their number.
cut_first : (n : ℕ) (cells : List CellValue) → IsPaired cells → n ≤ length cells →
    end_blanked (take n cells) ≡ cells_after_resize n cells
cut_first n cells p h =
    resized_is n cells (take n cells) p (omega (arith, length-take n cells, h))
    (λ k l. get_or-take n cells k default_blank l)

-- A row written from column `width` to column `used`, after which all cells were blanks already, is cut to `width`.
pub cut_is : (width used : ℕ) (cells : List CellValue) → IsPaired cells → width ≤ used → used ≤ length cells →
    IsBlankFrom used cells →
    end_blanked (take width cells) ++ (blanks default_attrs (used - width) ++ drop used cells) ≡ cells_cut width cells
cut_is width used cells p h i b =
    let rest = blanks default_attrs (used - width) ++ drop used cells in
    let more = blanks default_attrs (length cells - width) in
    let size : length rest ≡ length cells - width = omega (
      arith,
      length-append (blanks default_attrs (used - width)) (drop used cells),
      length-replicate (used - width) default_blank,
      length-drop used cells,
      h,
      i,
    ) in
    let same : rest ≡ more = ext_get_or default_blank rest more (size ∙ sym (length-replicate (length cells - width) default_blank))
    (λ k l.
    let n = length-replicate (used - width) default_blank in
    elim (cases_lt k (used - width)) [
      | inl lt ↦
          get_or_append_left (blanks default_attrs (used - width)) (drop used cells) default_blank k (omega (arith, n, lt))
          ∙ (at-blanks (used - width) k ∙ sym (at-blanks (length cells - width) k))
      | inr ge ↦
          get_or-append_right (blanks default_attrs (used - width)) (drop used cells) (used - width) k default_blank n ge
          ∙ (get_or-drop used cells (k - (used - width)) default_blank
          ∙ (b (used + (k - (used - width))) (omega arith) ∙ sym (at-blanks (length cells - width) k)))
    ]) in
    λ z. cut_first width cells p (omega (arith, h, i)) z ++ same z

-- A row that is cut has default blanks after the columns that it used.
pub cut_used : (width used : ℕ) (cells : List CellValue) → IsPaired cells → width ≤ length cells →
    IsBlankFrom used cells → IsBlankFrom used (cells_cut width cells)
cut_used width used cells p h b k i =
    let l = length-resized width cells in
    let more = blanks default_attrs (length cells - width) in
    elim (cases_lt k width) [
      | inl lt ↦
          let was : at (take width cells) k ≡ default_blank = get_or-take width cells k default_blank lt ∙ b k i in
          let n : length (take width cells) ≡ width = omega (arith, length-take width cells, h) in
          get_or_append_left (cells_after_resize width cells) more default_blank k (omega (arith, l, lt))
          ∙ (ap (λ (xs : List CellValue). at xs k) (sym (cut_first width cells p h))
          ∙ (at-end_blanked (take width cells) k width n
          ∙ (ap (λ (x : CellValue). if (k + 1 == width) && is_wide x then blank (attrs_of x) else x) was
          ∙ by_last (k + 1 == width))))
      | inr ge ↦
          get_or-append_right (cells_after_resize width cells) more width k default_blank l ge
          ∙ at-blanks (length cells - width) (k - width)
    ] where
      by_last : (b : Bool) →
          (if b && is_wide default_blank then blank (attrs_of default_blank) else default_blank) ≡ default_blank
      by_last true = refl
      by_last false = refl

pub length-cut : (width : ℕ) (cells : List CellValue) → width ≤ length cells →
    length (cells_cut width cells) ≡ length cells
length-cut width cells h = omega (
  arith,
  length-append (cells_after_resize width cells) (blanks default_attrs (length cells - width)),
  length-resized width cells,
  length-replicate (length cells - width) default_blank,
  h,
)

-- The first cells of a cut row.
cut_taken : (width : ℕ) (cells : List CellValue) → take width (cells_cut width cells) ≡ cells_after_resize width cells
cut_taken width cells =
    let l = length-resized width cells in
    take-append-le width (cells_after_resize width cells) (blanks default_attrs (length cells - width)) (omega (arith, l))
    ∙ take_all width (cells_after_resize width cells) (omega (arith, l))

-- After its last column, a cut row is blank.
cut_after : (width : ℕ) (cells : List CellValue) → IsBlankFrom width (cells_cut width cells)
cut_after width cells k h =
    get_or-append_right (cells_after_resize width cells) (blanks default_attrs (length cells - width)) width k default_blank
    (length-resized width cells) h
    ∙ at-blanks (length cells - width) (k - width)

-- More of the cells at a place, all of them blanks, extend the row.
extended : (u w : ℕ) (cells : List CellValue) → IsPaired (take u cells) → u ≤ w → w ≤ length cells → IsBlankFrom u cells →
    take w cells ≡ cells_after_resize w (take u cells)
extended u w cells p h i b =
    let own = take u cells in
    let l : length own ≡ u = omega (arith, length-take u cells, h, i) in
    let more = blanks default_attrs (w - length own) in
    let size = length-replicate (w - length own) default_blank in
    ext_get_or default_blank (take w cells) (own ++ more)
    (omega (arith, length-take w cells, i, length-append own more, size, l, h)) (λ k lt.
    let inside : k < w = omega (arith, lt, length-take w cells, i) in
    get_or-take w cells k default_blank inside
    ∙ elim (cases_lt k u) [
      | inl less ↦
          sym (get_or_append_left own more default_blank k (omega (arith, l, less)) ∙ get_or-take u cells k default_blank less)
      | inr ge ↦
          b k ge ∙ sym (get_or-append_right own more u k default_blank l ge ∙ at-blanks (w - length own) (k - u))
    ])
    ∙ grown_is w own p (omega (arith, l, h))

-- ---- The number of columns is set

-- The storage after its number of columns was set to `width` and all flags were cleared.
pub record HasColumns (width : ℕ) (flat new : Flat) : Type 0 where
  pub cells : new.cells ≡ flat.cells
  pub columns : new.columns ≡ record { shown = width; stored = flat.columns.stored }
  pub len : length new.lines.items ≡ length flat.lines.items
  pub lines : (k : ℕ) → k < length flat.lines.items →
      line_at new.lines.items k ≡ record (line_at flat.lines.items k) { wrapped = false }

-- A column that is used at one number of columns is used at another.
used_moves : (u v groups k : ℕ) → used_columns v groups ≤ k → k < v → used_columns u groups ≤ k
used_moves u v groups k h l = elim (cases_lt groups 255) [
  | inl less ↦
      let t : nat_lt groups 255 ≡ true = grind (arith, nat_tests, less) in
      let i : min (8 * groups) v ≤ k = subst (λ (b : Bool). (if b then min (8 * groups) v else v) ≤ k) t h in
      subst (λ (b : Bool). (if b then min (8 * groups) u else u) ≤ k) (sym t) (omega (arith, i, l))
  | inr ge ↦
      let t : nat_lt groups 255 ≡ false = grind (arith, nat_tests, ge) in
      let i : v ≤ k = subst (λ (b : Bool). (if b then min (8 * groups) v else v) ≤ k) t h in
      absurd (omega (arith, i, l))
]

-- The rows are those that the first `width` cells of each place hold.
set_columns_is : (width : ℕ) (flat new : Flat) (rows : List RowValue) → IsFlat flat → HasColumns width flat new →
    width ≤ flat.columns.stored → length rows ≡ length flat.lines.items →
    ((r : ℕ) → r < length flat.lines.items →
    IsBlankFrom width (cells_at flat.columns.stored flat.cells.items (line_at flat.lines.items r).place)) →
    ((r : ℕ) → r < length flat.lines.items →
    record {
      cells = take width (cells_at flat.columns.stored flat.cells.items (line_at flat.lines.items r).place);
      wrapped = false;
    }
    ≡ get_or rows r (blank_row default_attrs width)) →
    (page_rows_of new ≡ record { rows = rows; width = width }) × IsFlat new
set_columns_is width flat new rows t s fits size after row =
    let cells = flat.cells.items in
    let v = flat.columns.stored in
    let w : Columns = record { shown = width; stored = v } in
    let lines = flat.lines.items in
    let now = new.lines.items in
    let own : rows_in w cells now ≡ rows =
    rows_in_by w cells now rows (blank_row default_attrs width) (size ∙ sym s.len) (λ k h.
    let inside : k < length lines = omega (arith, h, s.len) in
    ap (row_in w cells) (s.lines k inside) ∙ row k inside) in
    let stored : IsStored w cells now = record {
      table =
          IsTable-moved v (λ k. k) cells lines now s.len (λ k i. i) (λ j k i m e. e)
          (λ k i. ap (λ (x : Line). x.place) (s.lines k i)) t.table;
      fits = fits;
      blank = λ r h.
          let inside : r < length lines = omega (arith, h, s.len) in
          subst (λ (x : Line). IsBlankFrom (used_columns width x.used) (cells_at v cells x.place)) (sym (s.lines r inside))
          (λ k i. elim (cases_lt k width) [
            | inl lt ↦
                t.blank r inside k (used_moves flat.columns.shown width (line_at lines r).used k i lt)
            | inr ge ↦ after r inside k ge
          ]);
    } in (
      (λ z. record { rows = rows_in (s.columns z) (s.cells z).items now; width = (s.columns z).shown })
          ∙ (λ z. record { rows = own z; width = width }),
      subst (λ (x : Columns × List CellValue). IsStored x.0 x.1 now) (λ z. (sym s.columns z, (sym s.cells z).items)) stored,
    )

-- ---- Wider

pub widened : (width : ℕ) (flat new : Flat) → IsFlat flat → HasColumns width flat new →
    All (IsRow flat.columns.shown) (rows_of flat) → flat.columns.shown < width → width ≤ flat.columns.stored →
    (page_rows_of new ≡ with_width width (page_rows_of flat)) × IsFlat new
widened width flat new t s sound more fits =
    let cells = flat.cells.items in
    let lines = flat.lines.items in
    let v = flat.columns in
    let n = rows_counted v cells lines in
    let after : (r : ℕ) → r < length lines → IsBlankFrom v.shown (cells_at v.stored cells (line_at lines r).place) =
    λ r h k i. t.blank r h k (omega (arith, i, used_inside v.shown (line_at lines r).used)) in
    set_columns_is width flat new (map (resized_row width) (rows_of flat)) t s fits
    (length-map (rows_of flat) (resized_row width) ∙ n)
    (λ r h k i. after r h k (omega (arith, more, i)))
    (λ r h.
    let d = blank_row default_attrs v.shown in
    let there : r < length (rows_of flat) = omega (arith, n, h) in
    let found = row_found v r cells lines d h in
    let whole = cells_at v.stored cells (line_at lines r).place in
    let size = length-cells_at v.stored (length lines) (line_at lines r).place cells t.table.filled (t.table.inside r h) in
    let valid : IsRow v.shown (row_in v cells (line_at lines r)) =
    subst (IsRow v.shown) found (All-get_or (IsRow v.shown) (rows_of flat) r d there sound) in
    resized_row-other width (row_in v cells (line_at lines r)) (take width whole)
    (extended v.shown width whole valid.paired (omega (arith, more)) (omega (arith, size, fits)) (after r h))
    (λ e. absurd (omega (arith, e, valid.columns, more)))
    ∙ (ap (resized_row width) (sym found)
    ∙ sym (get_or-map (resized_row width) (rows_of flat) r d (blank_row default_attrs width) there)))

-- ---- Narrower

-- A row cut to the given width, not wrapped.
abbrev pub row_cut : ℕ → RowValue → RowValue
row_cut width row = record { cells = cells_cut width row.cells; wrapped = false }

pub narrowed : (width : ℕ) (first : PageRowsValue) (flat new : Flat) → IsFlat flat → HasColumns width flat new →
    All (IsRow first.width) first.rows → width < first.width → flat.columns.shown ≡ first.width →
    length (rows_of flat) ≡ length first.rows →
    ((k : ℕ) (d : RowValue) → k < length first.rows → get_or (rows_of flat) k d ≡ row_cut width (get_or first.rows k d)) →
    (page_rows_of new ≡ with_width width first) × IsFlat new
narrowed width first flat new t s sound less same size cut =
    let cells = flat.cells.items in
    let lines = flat.lines.items in
    let v = flat.columns in
    let n = rows_counted v cells lines in
    let d = blank_row default_attrs width in
    let inside : (r : ℕ) → r < length lines → r < length first.rows = λ r h. omega (arith, h, n, size) in
    let found : (r : ℕ) → r < length lines →
    row_in v cells (line_at lines r) ≡ row_cut width (get_or first.rows r d) =
    λ r h. sym (row_found v r cells lines d h) ∙ cut r d (inside r h) in
    let few : width ≤ v.shown = omega (arith, less, same) in
    set_columns_is width flat new (map (resized_row width) first.rows) t s (omega (arith, few, t.fits))
    (length-map first.rows (resized_row width) ∙ (sym size ∙ n))
    (λ r h k i.
    let whole = cells_at v.stored cells (line_at lines r).place in
    elim (cases_lt k v.shown) [
      | inl lt ↦
          sym (get_or-take v.shown whole k default_blank lt)
          ∙ (ap (λ (row : RowValue). at row.cells k) (found r h)
          ∙ cut_after width (get_or first.rows r d).cells k i)
      | inr ge ↦ t.blank r h k (omega (arith, ge, used_inside v.shown (line_at lines r).used))
    ])
    (λ r h.
    let row = get_or first.rows r d in
    let whole = cells_at v.stored cells (line_at lines r).place in
    let valid = All-get_or (IsRow first.width) first.rows r d (inside r h) sound in
    resized_row-other width row (take width whole)
    (sym (take-take width v.shown whole few)
    ∙ (ap (λ (x : RowValue). take width x.cells) (found r h) ∙ cut_taken width row.cells))
    (λ e. absurd (omega (arith, e, valid.columns, less)))
    ∙ sym (get_or-map (resized_row width) first.rows r d d (inside r h)))

-- ---- The page with its cursor

window_all : (v : ℕ) (above rows : List RowValue) → window v (length rows) 0 0 above rows ≡ rows
window_all v above rows =
    let l = length-window v (length rows) 0 0 above rows in
    ext_get_or (blank_row default_attrs v) (window v (length rows) 0 0 above rows) rows l (λ k h.
    window_own v (length rows) 0 0 above rows k (omega (arith, h, l)) (omega arith)
    ∙ ap (λ (j : ℕ). row_or v rows j) (omega arith))

-- A row with a new width is not wrapped, so the flag of the last one is cleared already.
unflagged_resized : (v w : ℕ) (rows : List RowValue) → All (IsRow v) rows → (w ≡ v → ⊥) → 0 < length rows →
    rows_resized w rows ≡ map (resized_row w) rows
unflagged_resized v w rows sound other some =
    let all = map (resized_row w) rows in
    let r = length rows - 1 in
    let d = blank_row default_attrs w in
    let row = get_or rows r d in
    let valid = All-get_or (IsRow v) rows r d (omega (arith, some)) sound in
    let flag : (get_or all r d).wrapped ≡ false =
    ap (λ (x : RowValue). x.wrapped) (get_or-map (resized_row w) rows r d d (omega (arith, some)))
    ∙ ap (λ (x : RowValue). x.wrapped)
    (sym (resized_row-other w row (cells_after_resize w row.cells) refl (λ e. other (sym e ∙ valid.columns)))) in
    (λ z. set all r (record (get_or all r d) { wrapped = sym flag z })) ∙ set-get_or all r d

pub columns_page : (rows cols : ℕ) (above mid : Scrollback) (page : Page) (left page_rows : PageRowsValue)
    (pos saved : Pos) → rows ≡ length page.rows → (cols ≡ page.width → ⊥) → IsPage page →
    mid ≡ out_of_view above → left.rows ≡ page.rows → left.width ≡ page.width → page_rows ≡ with_width cols left →
    pos.row ≡ row_resized rows 0 0 page.row → pos.col ≡ min page.column (cols - 1) →
    saved.row ≡ row_resized rows 0 0 page.saved_row → saved.col ≡ min page.saved_column (cols - 1) →
    page_of page_rows pos saved 0 (rows - 1) page.origin page.saved_origin
    ≡ page_resized (length page.rows) cols above page
columns_page rows cols above mid page left page_rows pos saved hr other p m lr lw e pr pc qr qc =
    let h = length page.rows in
    let all : page_rows.rows ≡ rows_resized cols (window left.width h 0 0 mid.rows left.rows) =
    ap (λ (s : PageRowsValue). s.rows) e
    ∙ (ap (map (resized_row cols)) lr
    ∙ (sym (unflagged_resized page.width cols page.rows p.rows other (omega (arith, p.cursor_row)))
    ∙ (ap (rows_resized cols) (sym (window_all page.width mid.rows page.rows))
    ∙ λ z. rows_resized cols (window (sym lw z) h 0 0 mid.rows (sym lr z))))) in
    page_by_steps h cols 0 0 0 0 above mid page left page_rows pos saved rows cols hr refl (omega arith) (omega arith) m
    lw lr all (ap (λ (s : PageRowsValue). s.width) e) pr pc qr qc

pub columns_above : (above mid : Scrollback) (page : Page) → mid ≡ out_of_view above →
    mid ≡ scrollback_resized (length page.rows) page above
columns_above above mid page m =
    above_by_steps (length page.rows) (length page.rows) page.width 0 0 above mid mid page refl refl (omega arith)
    (omega arith) m (taken_none mid)

pub columns_sized : (rows cols : ℕ) (above : Scrollback) (page resized : Page) →
    resized ≡ page_resized (length page.rows) cols above page → rows ≡ length page.rows → 0 < cols → cols < 2 ^ 16 →
    IsPage page → IsScrollback above → IsSized rows cols resized
columns_sized rows cols above page resized e hr pos few p a =
    subst (IsSized rows cols) (sym e)
    (sized_resized rows cols (length page.rows) cols above page hr refl
    (page_page_resized (length page.rows) cols above page p a (omega (arith, p.cursor_row)) p.height pos few))
