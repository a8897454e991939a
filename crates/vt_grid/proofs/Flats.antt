-- Rows in one list of cells: the effect of an edit of a row's cells, of a change of a flag and of a rotation of the
-- table.
use Rattle.std.proofs.Common.{◌≡◌, ◌≢◌, ℕ, ◌+◌, ◌*◌, ◌-◌, ◌<◌, ◌≤◌, ◌&&◌, not, Bool, false, List}
use Rattle.std.proofs.Common.{[], ◌∷◌, ◌++◌, length, take, drop, replicate, map, Vec, Global}
use Rattle.std.proofs.Common.{get_or, set, inl, inr, refl, sym, ap, subst, ◌∙◌, arith}
use Rattle.std.proofs.lemmas.Bool.{cases_lt, cases_eq}
use Rattle.std.proofs.lemmas.Bool.Decides.{nat_tests}
use Rattle.vt_rows.specs.Internals.{rotation_source}
use Rattle.std.specs.Vec.{with_items}
use Rattle.std.proofs.lemmas.List.{with_items_is, length-take, length-drop, length-replicate, get_or-take}
use Rattle.std.proofs.lemmas.List.{get_or-drop, get_or-replicate, get_or_default, ext_get_or, length-map, take-take}
use Rattle.std.proofs.lemmas.List.{length-set, set-set, get_or-map, get_or-set_same, get_or-set_other, map-set}
use Rattle.std.proofs.lemmas.List.FromFn.{length-map-range_with_len, get_or-map-range_with_len, map-range_with_len_more}
use Rattle.std.proofs.lemmas.Slice.{between_is, take-put_mid_below, drop-put_mid, between-put_mid}
use borrow.Rule.Slice.PartMut.{put_mid, same_len_mid}
use Rattle.vt_cells.specs.Cell.{CellValue, blank, default_blank}
use Rattle.vt_cells.specs.Attrs.{Attrs, default_attrs}
use Rattle.vt_rows.specs.Cells.{at, blanks, ends_blank}
use Rattle.vt_grid.specs.PageRows.{PageRowsValue, blank_page_rows, page_row, with_page_row, with_row_cells}
use Rattle.vt_rows.proofs.Edits.{at-blanks, blanks_is}
use Rattle.vt_rows.specs.Row.{RowValue, blank_row}
use Rattle.vt_grid.specs.Page.{row_or}
use Rattle.vt_grid.specs.declared.flat.Line.{Line}
use Rattle.vt_grid.specs.declared.flat.Columns.{Columns}
use Rattle.vt_grid.specs.declared.flat.Flat.{Flat}
use Rattle.vt_grid.specs.Flat.{IsBlankFrom, IsFlat, IsStored, IsTable, rows_of, used_columns}
use Rattle.vt_grid.specs.Flat.{cells_at, row_in, rows_in, no_line, line_at, in_order}

-- ---- Places

pub place_inside : (p n w : ℕ) → p < n → p * w + w ≤ n * w
place_inside p n w h = grind arith

-- A write to the first cells of place p leaves those of every other place unchanged.
pub cells_at-put_part : (w u n p q : ℕ) (cells new : List CellValue) → length cells ≡ n * w → p < n →
    q < n → q ≢ p → u ≤ w → length new ≡ u → cells_at w (put_mid (p * w) u cells new) q ≡ cells_at w cells q
cells_at-put_part w u n p q cells new e h i other few l =
    let inside = place_inside p n w h in
    elim (cases_lt q p) [
      | inl lt ↦
          let below = place_inside q p w lt in
          between_is (put_mid (p * w) u cells new) (q * w) (q * w + w)
          ∙ (ap (λ (xs : List CellValue). drop (q * w) xs)
          (take-put_mid_below (p * w) u cells new (q * w + w) below (omega (arith, inside, e)))
          ∙ sym (between_is cells (q * w) (q * w + w)))
      | inr ge ↦
          let gt : p < q = grind (arith, other, ge) in
          let above = place_inside p q w gt in
          ap (λ (xs : List CellValue). take (q * w + w - q * w) xs)
          (drop-put_mid (p * w) u cells new (q * w) (omega (arith, above, few)) (omega (arith, inside, e)) l)
    ]

-- The first cells of a place.
pub place_start : (w u p s : ℕ) (cells xs : List CellValue) → xs ≡ cells → s ≡ p * w → u ≤ w →
    take (s + u - s) (drop s xs) ≡ take u (cells_at w cells p)
place_start w u p s cells xs e f few =
    (λ z. take (f z + u - f z) (drop (f z) (e z)))
    ∙ (ap (λ (n : ℕ). take n (drop (p * w) cells)) (omega (arith, few))
    ∙ sym (take-take u (p * w + w - p * w) (drop (p * w) cells) (omega (arith, few))))

pub cells_at-put_start : (w u n p : ℕ) (cells new : List CellValue) → length cells ≡ n * w → p < n → u ≤ w →
    length new ≡ u → take u (cells_at w (put_mid (p * w) u cells new) p) ≡ new
cells_at-put_start w u n p cells new e h few l =
    let inside = place_inside p n w h in
    let now = put_mid (p * w) u cells new in
    sym (place_start w u p (p * w) now now refl refl few)
    ∙ between-put_mid (p * w) u cells new (p * w + u) (omega (arith, inside, e, few)) (omega (arith, l))

-- If the first u cells of place p are borrowed and become `new`, the vector of cells has `new` there.
pub written_part : (w u n p a k : ℕ) (v now : Vec CellValue Global) (xs new : List CellValue) →
    now ≡ with_items v (put_mid a k xs new) → xs ≡ v.items →
    length v.items ≡ n * w → p < n → a ≡ p * w → k ≡ u → u ≤ w → length new ≡ u →
    now.items ≡ put_mid (p * w) u v.items new
written_part w u n p a k v now xs new e was f h i j few l =
    let inside = place_inside p n w h in
    let size : length (put_mid (p * w) u v.items new) ≡ length v.items =
    same_len_mid (p * w) u v.items new
    (omega (arith, l, length-take u (drop (p * w) v.items), length-drop (p * w) v.items, inside, f, few)) in
    ap (λ (u : Vec CellValue Global). u.items) (e ∙ (λ t. with_items v (put_mid (i t) (j t) (was t) new)))
    ∙ with_items_is v (put_mid (p * w) u v.items new) (size ∙ sym v.ok.0)

-- A write to an equal vector `same` yields the same cells.
pub written_again : (w u n p a k : ℕ) (v same : Vec CellValue Global) (xs new : List CellValue) →
    same ≡ v → xs ≡ same.items →
    length v.items ≡ n * w → p < n → a ≡ p * w → k ≡ u → u ≤ w → length new ≡ u →
    (with_items same (put_mid a k xs new)).items ≡ put_mid (p * w) u v.items new
written_again w u n p a k v same xs new e was =
    written_part w u n p a k v (with_items same (put_mid a k xs new)) xs new
    (ap (λ (x : Vec CellValue Global). with_items x (put_mid a k xs new)) e)
    (was ∙ ap (λ (x : Vec CellValue Global). x.items) e)

-- ---- Rows

pub rows_counted : (w : Columns) (cells : List CellValue) (lines : List Line) → length (rows_in w cells lines) ≡ length lines
unfolding rows_in
rows_counted w cells lines = length-map lines (row_in w cells)

pub row_found : (w : Columns) (r : ℕ) (cells : List CellValue) (lines : List Line) (d : RowValue) →
    r < length lines → get_or (rows_in w cells lines) r d ≡ row_in w cells (line_at lines r)
unfolding rows_in
row_found w r cells lines d h = get_or-map (row_in w cells) lines r no_line d h

-- If each entry of a table stands for the row at its index in a list, the rows of the table are that list.
pub rows_in_by : (w : Columns) (cells : List CellValue) (lines : List Line) (rows : List RowValue) (d : RowValue) →
    length rows ≡ length lines →
    ((k : ℕ) → k < length lines → row_in w cells (line_at lines k) ≡ get_or rows k d) → rows_in w cells lines ≡ rows
rows_in_by w cells lines rows d e f =
    let l = rows_counted w cells lines in
    ext_get_or d (rows_in w cells lines) rows (l ∙ sym e)
    (λ k h. let i : k < length lines = omega (arith, l) in row_found w k cells lines d i ∙ f k i)

-- Giving row r new cells, a new number of used columns and a new flag replaces only that row, if the cells of every
-- other place are unchanged.
pub rows_in-replaced : (w : Columns) (r used : ℕ) (cells now new : List CellValue) (flag : Bool) (lines : List Line) →
    IsTable w.stored cells lines → r < length lines →
    take w.shown (cells_at w.stored now (line_at lines r).place) ≡ new →
    ((q : ℕ) → q < length lines → q ≢ (line_at lines r).place →
    cells_at w.stored now q ≡ cells_at w.stored cells q) →
    rows_in w now (set lines r (record (line_at lines r) { used = used; wrapped = flag }))
    ≡ set (rows_in w cells lines) r (record { cells = new; wrapped = flag })
rows_in-replaced w r used cells now new flag lines t h own others =
    let line = record (line_at lines r) { used = used; wrapped = flag } in
    let table = set lines r line in
    let row : RowValue = record { cells = new; wrapped = flag } in
    let n : length table ≡ length lines = length-set lines r line in
    let m = rows_counted w cells lines in
    rows_in_by w now table (set (rows_in w cells lines) r row) row
    (length-set (rows_in w cells lines) r row ∙ (m ∙ sym n)) (λ k i.
    let k_in : k < length lines = omega (arith, n) in
    elim (cases_eq k r) [
      | inl same ↦
          rw (
            same,
            get_or-set_same lines r line no_line h,
            get_or-set_same (rows_in w cells lines) r row row (omega (arith, m)),
          )
          (ap (λ (xs : List CellValue). record { cells = xs; wrapped = flag }) own)
      | inr other ↦
          let apart : (line_at lines k).place ≢ (line_at lines r).place = λ e. other (t.distinct k r k_in h e) in
          rw (
            get_or-set_other lines r k line no_line other,
            get_or-set_other (rows_in w cells lines) r k row row other,
            row_found w k cells lines row k_in,
          )
          (ap (λ (xs : List CellValue). record { cells = take w.shown xs; wrapped = (line_at lines k).wrapped })
          (others (line_at lines k).place (t.inside k k_in) apart))
    ])

pub rows_in-edited : (w : Columns) (r used : ℕ) (cells new : List CellValue) (flag : Bool) (lines : List Line) →
    IsTable w.stored cells lines → w.shown ≤ w.stored → r < length lines → length new ≡ w.shown →
    rows_in w (put_mid ((line_at lines r).place * w.stored) w.shown cells new)
    (set lines r (record (line_at lines r) { used = used; wrapped = flag }))
    ≡ set (rows_in w cells lines) r (record { cells = new; wrapped = flag })
rows_in-edited w r used cells new flag lines t few h l =
    let p = (line_at lines r).place in
    rows_in-replaced w r used cells (put_mid (p * w.stored) w.shown cells new) new flag lines t h
    (cells_at-put_start w.stored w.shown (length lines) p cells new t.filled (t.inside r h) few l)
    (λ q i other.
    cells_at-put_part w.stored w.shown (length lines) p q cells new t.filled (t.inside r h) i other few l)

-- Setting the wrapped flag in the table entry of row r sets the flag of that row only.
pub rows_in-flagged : (w : Columns) (r : ℕ) (cells : List CellValue) (flag : Bool) (lines : List Line) → r < length lines →
    rows_in w cells (set lines r (record (line_at lines r) { wrapped = flag }))
    ≡ set (rows_in w cells lines) r
    (record (get_or (rows_in w cells lines) r (row_in w cells no_line)) { wrapped = flag })
unfolding rows_in
rows_in-flagged w r cells flag lines h =
    map-set (row_in w cells) lines r (record (line_at lines r) { wrapped = flag })
    ∙ ap (λ (row : RowValue). set (map (row_in w cells) lines) r (record row { wrapped = flag }))
    (sym (get_or-map (row_in w cells) lines r no_line (row_in w cells no_line) h))

-- Setting the flag of an entry that was just set sets both parts of the former entry.
pub entered_again : (r used : ℕ) (was is : Bool) (lines now last : List Line) → r < length lines →
    now ≡ set lines r (record (line_at lines r) { used = used; wrapped = was }) →
    last ≡ set now r (record (line_at now r) { wrapped = is }) →
    last ≡ set lines r (record (line_at lines r) { used = used; wrapped = is })
entered_again r used was is lines now last h e f =
    let line = record (line_at lines r) { used = used; wrapped = was } in
    let found : line_at now r ≡ line = ap (λ (xs : List Line). line_at xs r) e ∙ get_or-set_same lines r line no_line h in
    f
    ∙ ((λ z. set (e z) r (record (found z) { wrapped = is }))
    ∙ set-set lines r line (record line { wrapped = is }))

-- ---- Tables

pub IsTable-cells : (w : ℕ) (cells now : List CellValue) (lines : List Line) →
    length now ≡ length cells → IsTable w cells lines → IsTable w now lines
IsTable-cells w cells now lines e t = record { filled = e ∙ t.filled; inside = t.inside; distinct = t.distinct }

-- A table is valid if its entries are at distinct places of a valid table.
pub IsTable-moved : (w : ℕ) (source : ℕ → ℕ) (cells : List CellValue) (lines now : List Line) →
    length now ≡ length lines → ((k : ℕ) → k < length lines → source k < length lines) →
    ((j k : ℕ) → j < length lines → k < length lines → source j ≡ source k → j ≡ k) →
    ((k : ℕ) → k < length lines → (line_at now k).place ≡ (line_at lines (source k)).place) →
    IsTable w cells lines → IsTable w cells now
IsTable-moved w source cells lines now e i once f t = record {
  filled = t.filled ∙ ap (λ (n : ℕ). n * w) (sym e);
  inside =
      λ r h. let r_in : r < length lines =
      omega (arith, e) in let there = t.inside (source r) (i r r_in) in omega (arith, f r r_in, there, e);
  distinct = λ r s h k same.
      let r_in : r < length lines = omega (arith, e) in
      let s_in : s < length lines = omega (arith, e) in
      once r s r_in s_in (t.distinct (source r) (source s) (i r r_in) (i s s_in) (sym (f r r_in) ∙ (same ∙ f s s_in)));
}

-- ---- The table rotated

turn_inside : (from to n k len : ℕ) → from + n ≤ to → to ≤ len → k < len → rotation_source from to n k < len
turn_inside from to n k len h t l = grind (arith, nat_tests)

turn_once : (from to n j k : ℕ) → from + n ≤ to → rotation_source from to n j ≡ rotation_source from to n k → j ≡ k
turn_once from to n j k h e = grind (arith, nat_tests)

pub IsTable-turned : (w from to n : ℕ) (cells : List CellValue) (lines now : List Line) →
    from + n ≤ to → to ≤ length lines → length now ≡ length lines →
    ((k : ℕ) → line_at now k ≡ line_at lines (rotation_source from to n k)) → IsTable w cells lines → IsTable w cells now
IsTable-turned w from to n cells lines now h i e f t =
    IsTable-moved w (rotation_source from to n) cells lines now e (λ k l. turn_inside from to n k (length lines) h i l)
    (λ j k l m same. turn_once from to n j k h same) (λ k l. ap (λ (x : Line). x.place) (f k)) t

IsStored-turned : (w : Columns) (from to n : ℕ) (cells : List CellValue) (lines now : List Line) →
    from + n ≤ to → to ≤ length lines → length now ≡ length lines →
    ((k : ℕ) → line_at now k ≡ line_at lines (rotation_source from to n k)) → IsStored w cells lines → IsStored w cells now
IsStored-turned w from to n cells lines now h i e f t =
    let inside : (r : ℕ) → r < length now → rotation_source from to n r < length lines =
    λ r l. turn_inside from to n r (length lines) h i (omega (arith, e, l)) in
    record {
      table = IsTable-turned w.stored from to n cells lines now h i e f t.table;
      fits = t.fits;
      blank =
          λ r l. subst
          (λ (x : Line). IsBlankFrom (used_columns w.shown x.used) (cells_at w.stored cells x.place)) (sym (f r))
          (t.blank _ (inside r l));
    }

pub rows_in-turned : (w : Columns) (from to n : ℕ) (cells : List CellValue) (lines now : List Line) →
    from + n ≤ to → to ≤ length lines → length now ≡ length lines →
    ((k : ℕ) → line_at now k ≡ line_at lines (rotation_source from to n k)) → (k : ℕ) (d : RowValue) →
    k < length lines → get_or (rows_in w cells now) k d ≡ get_or (rows_in w cells lines) (rotation_source from to n k) d
rows_in-turned w from to n cells lines now h i e f k d l =
    row_found w k cells now d (omega (arith, e))
    ∙ (ap (row_in w cells) (f k)
    ∙ sym (row_found w (rotation_source from to n k) cells lines d (turn_inside from to n k (length lines) h i l)))

-- ---- Rows in their order

pub length-in_order : (n : ℕ) → length (in_order n) ≡ n
length-in_order n = length-map-range_with_len (λ place. record { place = place; used = 0; wrapped = false }) 0 n

pub line_in_order : (n r : ℕ) → r < n → line_at (in_order n) r ≡ record { place = r; used = 0; wrapped = false }
line_in_order n r h =
    get_or-map-range_with_len (λ place. record { place = place; used = 0; wrapped = false }) 0 n r r no_line h (omega arith)

pub in_order_more : (n : ℕ) → in_order (n + 1) ≡ in_order n ++ record { place = n; used = 0; wrapped = false } ∷ []
in_order_more n = map-range_with_len_more (λ place. record { place = place; used = 0; wrapped = false }) 0 n n (omega arith)

-- The table in which row k is at place k is valid for a page of blank rows.
pub IsTable-in_order : (w n : ℕ) (attrs : Attrs) → IsTable w (blanks attrs (n * w)) (in_order n)
IsTable-in_order w n attrs =
    let l = length-in_order n in record {
      filled = length-replicate (n * w) (blank attrs) ∙ ap (λ (m : ℕ). m * w) (sym l);
      inside =
          λ r h. let i : r < n =
          omega (arith, l) in omega (arith, ap (λ (x : Line). x.place) (line_in_order n r i), l, i);
      distinct = λ r s h k e.
          let i : r < n = omega (arith, l) in
          let j : s < n = omega (arith, l) in
          sym (ap (λ (x : Line). x.place) (line_in_order n r i))
          ∙ (e ∙ ap (λ (x : Line). x.place) (line_in_order n s j));
    }

cells_at-blanks : (w n p : ℕ) (attrs : Attrs) → p < n → cells_at w (blanks attrs (n * w)) p ≡ blanks attrs w
cells_at-blanks w n p attrs h =
    let inside = place_inside p n w h in
    let all = blanks attrs (n * w) in
    let l : length (cells_at w all p) ≡ w = omega (
      arith,
      length-take (p * w + w - p * w) (drop (p * w) all),
      length-drop (p * w) all,
      length-replicate (n * w) (blank attrs),
      inside,
    ) in
    blanks_is attrs w (cells_at w all p) l (λ k i.
    get_or-take (p * w + w - p * w) (drop (p * w) all) k default_blank (omega arith)
    ∙ (get_or-drop (p * w) all k default_blank
    ∙ get_or-replicate (n * w) (p * w + k) (blank attrs) default_blank (omega (arith, inside))))

-- The table in which row k is at place k and no column is used is valid for a page of default blanks.
IsStored-in_order : (w : Columns) (n : ℕ) → w.shown ≤ w.stored →
    IsStored w (blanks default_attrs (n * w.stored)) (in_order n)
IsStored-in_order w n few =
    let l = length-in_order n in
    let line : (r : ℕ) → r < length (in_order n) → line_at (in_order n) r ≡ record { place = r; used = 0; wrapped = false } =
    λ r h. line_in_order n r (omega (arith, l, h)) in
    record {
      table = IsTable-in_order w.stored n default_attrs;
      fits = few;
      blank =
          λ r h. subst
          (λ (x : Line). IsBlankFrom (used_columns w.shown x.used)
          (cells_at w.stored (blanks default_attrs (n * w.stored)) x.place))
          (sym (line r h))
          (λ k i.
          ap (λ (xs : List CellValue). at xs k) (cells_at-blanks w.stored n r default_attrs (omega (arith, l, h)))
          ∙ at-blanks w.stored k);
    }

-- The first cells of a list of blanks.
pub blanks-start : (u w : ℕ) (attrs : Attrs) → u ≤ w → take u (blanks attrs w) ≡ blanks attrs u
blanks-start u w attrs few =
    blanks_is attrs u (take u (blanks attrs w))
    (omega (arith, length-take u (blanks attrs w), length-replicate w (blank attrs), few))
    (λ k i.
    get_or-take u (blanks attrs w) k default_blank i
    ∙ get_or-replicate w k (blank attrs) default_blank (omega (arith, few, i)))

pub rows_in_order : (w : Columns) (n : ℕ) (attrs : Attrs) → w.shown ≤ w.stored →
    rows_in w (blanks attrs (n * w.stored)) (in_order n) ≡ replicate n (blank_row attrs w.shown)
rows_in_order w n attrs few =
    let l = length-in_order n in
    let d = blank_row attrs w.shown in
    let all = blanks attrs (n * w.stored) in
    rows_in_by w all (in_order n) (replicate n d) d (length-replicate n d ∙ sym l) (λ k h.
    let i : k < n = omega (arith, l) in
    ap (row_in w all) (line_in_order n k i)
    ∙ (ap (λ (cells : List CellValue). record { cells = take w.shown cells; wrapped = false })
    (cells_at-blanks w.stored n k attrs i)
    ∙ (ap (λ (cells : List CellValue). record { cells = cells; wrapped = false })
    (blanks-start w.shown w.stored attrs few)
    ∙ sym (get_or-replicate n k d d i))))

pub length-cells_at : (w n p : ℕ) (cells : List CellValue) →
    length cells ≡ n * w → p < n → length (cells_at w cells p) ≡ w
length-cells_at w n p cells e h =
    let inside = place_inside p n w h in
    omega (arith, length-take (p * w + w - p * w) (drop (p * w) cells), length-drop (p * w) cells, inside, e)

-- ---- Edits of a row

abbrev pub page_rows_of : Flat → PageRowsValue
page_rows_of flat = record { rows = rows_of flat; width = flat.columns.shown }

-- Each row has the page's width.
pub columns_counted : (flat : Flat) (r : ℕ) → IsFlat flat → r < length (rows_of flat) →
    length (page_row (page_rows_of flat) r).cells ≡ flat.columns.shown
columns_counted flat r t h =
    let w = flat.columns in
    let cells = flat.cells.items in
    let lines = flat.lines.items in
    let i : r < length lines = omega (arith, h, rows_counted w cells lines) in
    let p = (line_at lines r).place in
    ap (λ (row : RowValue). length row.cells) (row_found w r cells lines (blank_row default_attrs w.shown) i)
    ∙ omega (
      arith,
      length-take w.shown (cells_at w.stored cells p),
      length-cells_at w.stored (length lines) p cells t.table.filled (t.table.inside r i),
      t.fits,
    )

-- If the cells of row r are borrowed and become `new`, and its flag is set, the page is the one with that row replaced.
pub row_changed : (r used a b : ℕ) (flat edited : Flat) (xs new : List CellValue) (flag : Bool) →
    IsFlat flat → r < length flat.lines.items →
    edited.cells ≡ with_items flat.cells (put_mid a (b - a) xs new) → xs ≡ flat.cells.items →
    a ≡ (line_at flat.lines.items r).place * flat.columns.stored → b ≡ a + flat.columns.shown → b ≤ length flat.cells.items →
    length new ≡ length (take (b - a) (drop a xs)) → edited.columns ≡ flat.columns →
    edited.lines.items ≡ set flat.lines.items r (record (line_at flat.lines.items r) { used = used; wrapped = flag }) →
    page_rows_of edited ≡ with_page_row r (record { cells = new; wrapped = flag }) (page_rows_of flat)
row_changed r used a b flat edited xs new flag t inside e was i j m size w f =
    let lines = flat.lines.items in
    let l : length new ≡ flat.columns.shown =
    size ∙ omega (arith, length-take (b - a) (drop a xs), length-drop a xs, ap length was, j, m) in
    let cells = written_part flat.columns.stored flat.columns.shown (length lines) (line_at lines r).place a (b - a)
    flat.cells edited.cells xs new e was t.table.filled (t.table.inside r inside) i (omega (arith, j)) t.fits l in
    let rows : rows_of edited ≡ set (rows_of flat) r (record { cells = new; wrapped = flag }) =
    (λ z. rows_in (w z) (cells z) (f z)) ∙ rows_in-edited flat.columns r used flat.cells.items new flag lines t.table t.fits inside l in
    λ z. record { rows = rows z; width = (w z).shown }

-- If the cells of row r are replaced by a print or an erase, the page is the one with those cells in that row.
pub row_printed : (r used a b : ℕ) (flat edited : Flat) (xs new : List CellValue) (was_flag flag : Bool) →
    IsFlat flat → r < length flat.lines.items →
    edited.cells ≡ with_items flat.cells (put_mid a (b - a) xs new) → xs ≡ flat.cells.items →
    a ≡ (line_at flat.lines.items r).place * flat.columns.stored → b ≡ a + flat.columns.shown → b ≤ length flat.cells.items →
    length new ≡ length (take (b - a) (drop a xs)) → edited.columns ≡ flat.columns →
    edited.lines.items ≡ set flat.lines.items r (record (line_at flat.lines.items r) { used = used; wrapped = flag }) →
    was_flag ≡ (row_or flat.columns.shown (rows_of flat) r).wrapped → flag ≡ (was_flag && not (ends_blank new)) →
    page_rows_of edited ≡ with_row_cells r new (page_rows_of flat)
row_printed r used a b flat edited xs new was_flag flag t inside e was i j m size w f g k =
    row_changed r used a b flat edited xs new flag t inside e was i j m size w f
    ∙ ap (λ (x : Bool). with_page_row r (record { cells = new; wrapped = x }) (page_rows_of flat))
    (k ∙ ap (λ (x : Bool). x && not (ends_blank new)) g)

-- If the cells of row r become blanks and its flag is cleared, the page is the one with a blank row r.
pub row_blanked : (r used : ℕ) (attrs : Attrs) (flat edited : Flat) → IsFlat flat → r < length (rows_of flat) →
    take flat.columns.shown (cells_at flat.columns.stored edited.cells.items (line_at flat.lines.items r).place)
    ≡ blanks attrs flat.columns.shown →
    ((q : ℕ) → q < length flat.lines.items → q ≢ (line_at flat.lines.items r).place →
    cells_at flat.columns.stored edited.cells.items q ≡ cells_at flat.columns.stored flat.cells.items q) →
    edited.columns ≡ flat.columns →
    edited.lines.items ≡ set flat.lines.items r (record (line_at flat.lines.items r) { used = used; wrapped = false }) →
    page_rows_of edited ≡ with_page_row r (blank_row attrs flat.columns.shown) (page_rows_of flat)
row_blanked r used attrs flat edited t h own others w f =
    let inside : r < length flat.lines.items =
    omega (arith, h, rows_counted flat.columns flat.cells.items flat.lines.items) in
    let rows : rows_of edited ≡ set (rows_of flat) r (blank_row attrs flat.columns.shown) =
    (λ z. rows_in (w z) edited.cells.items (f z))
    ∙ rows_in-replaced flat.columns r used flat.cells.items edited.cells.items
    (blanks attrs flat.columns.shown) false flat.lines.items t.table inside own others in
    λ z. record { rows = rows z; width = (w z).shown }

-- Setting the wrapped flag in the table entry of row r gives the page with that flag set.
pub row_flagged : (r : ℕ) (flag : Bool) (flat edited : Flat) →
    r < length flat.lines.items → edited.cells ≡ flat.cells → edited.columns ≡ flat.columns →
    edited.lines.items ≡ set flat.lines.items r (record (line_at flat.lines.items r) { wrapped = flag }) →
    page_rows_of edited ≡ with_page_row r (record (page_row (page_rows_of flat) r) { wrapped = flag }) (page_rows_of flat)
row_flagged r flag flat edited h c w f =
    let n = rows_counted flat.columns flat.cells.items flat.lines.items in
    let d = row_in flat.columns flat.cells.items no_line in
    let rows : rows_of edited ≡ set (rows_of flat) r (record (page_row (page_rows_of flat) r) { wrapped = flag }) =
    (λ z. rows_in (w z) (c z).items (f z)) ∙ (rows_in-flagged flat.columns r flat.cells.items flag flat.lines.items h
    ∙ ap (λ (row : RowValue). set (rows_of flat) r (record row { wrapped = flag }))
    (get_or_default (rows_of flat) r d (blank_row default_attrs flat.columns.shown) (omega (arith, n)))) in
    λ z. record { rows = rows z; width = (w z).shown }

-- ---- The whole table

pub flat_turned : (from to n : ℕ) (flat turned : Flat) → IsFlat flat → from + n ≤ to → to ≤ length (rows_of flat) →
    turned.cells ≡ flat.cells → turned.columns ≡ flat.columns → length turned.lines.items ≡ length flat.lines.items →
    ((k : ℕ) → line_at turned.lines.items k ≡ line_at flat.lines.items (rotation_source from to n k)) → IsFlat turned
flat_turned from to n flat turned t h i c w e f =
    let all = rows_counted flat.columns flat.cells.items flat.lines.items in
    subst (λ (x : Columns × List CellValue). IsStored x.0 x.1 turned.lines.items) (λ z. (sym w z, (sym c z).items))
    (IsStored-turned flat.columns from to n flat.cells.items
    flat.lines.items turned.lines.items h (omega (arith, i, all)) e f t)

pub rows_turned : (from to n : ℕ) (flat turned : Flat) → from + n ≤ to → to ≤ length (rows_of flat) →
    turned.cells ≡ flat.cells → turned.columns ≡ flat.columns → length turned.lines.items ≡ length flat.lines.items →
    ((k : ℕ) → line_at turned.lines.items k ≡ line_at flat.lines.items (rotation_source from to n k)) →
    (k : ℕ) (d : RowValue) → k < length (rows_of flat) →
    get_or (rows_of turned) k d ≡ get_or (rows_of flat) (rotation_source from to n k) d
rows_turned from to n flat turned h i c w e f k d l =
    let all = rows_counted flat.columns flat.cells.items flat.lines.items in
    ap (λ (x : Columns × List CellValue). get_or (rows_in x.0 x.1 turned.lines.items) k d) (λ z. (w z, (c z).items))
    ∙ rows_in-turned flat.columns from to n flat.cells.items flat.lines.items
    turned.lines.items h (omega (arith, i, all)) e f k d (omega (arith, l, all))

-- ---- A new page

pub fresh_flat : (rows width : ℕ) (flat : Flat) → flat.cells.items ≡ blanks default_attrs (rows * width) →
    flat.lines.items ≡ in_order rows → flat.columns ≡ record { shown = width; stored = width } → (page_rows_of flat ≡ blank_page_rows rows width) × IsFlat flat
fresh_flat rows width flat c l w =
    let columns : Columns = record { shown = width; stored = width } in (
      (λ z. record { rows = rows_in (w z) (c z) (l z); width = (w z).shown })
          ∙ (λ z. record { rows = rows_in_order columns rows default_attrs (omega arith) z; width = width }),
      subst (λ (x : Columns × (List CellValue × List Line)). IsStored x.0 x.1.0 x.1.1)
          (λ z. (sym w z, (sym c z, sym l z))) (IsStored-in_order columns rows (omega arith)),
    )
