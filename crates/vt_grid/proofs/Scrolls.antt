-- Moves of rows: copies into blank rows, and rotations of the table.
use Rattle.std.proofs.Common.{◌≡◌, ℕ, ◌+◌, ◌<◌, ◌≤◌, ◌&&◌, nat_le, nat_lt, Bool, true, false, List, length, take}
use Rattle.std.proofs.Common.{get_or, set, inl, inr, sym, ap, subst, ◌∙◌, arith, ◌-◌, min, ◌++◌, drop, replicate, refl}
use Rattle.std.specs.Prelude.{All, if◌then◌else◌}
use Rattle.std.proofs.lemmas.Bool.{cases_lt, cases_eq}
use Rattle.std.proofs.lemmas.Bool.Decides.{nat_tests}
use Rattle.std.proofs.lemmas.Grind.{get_or-set_at}
use Rattle.std.proofs.lemmas.List.{get_or_default, get_or-set_other, get_or-take, length-take, take-take, take_all}
use Rattle.std.proofs.lemmas.List.{nil_from_length, get_or_past, ext_get_or, length-append, length-drop}
use Rattle.std.proofs.lemmas.List.{length-replicate, get_or-drop, get_or_append_left, get_or-append_right}
use Rattle.std.proofs.lemmas.List.{get_or-replicate}
use Rattle.std.proofs.lemmas.List.Elements.{All-get_or}
use Rattle.std.proofs.lemmas.List.FromFn.{fill_by_all}
use Rattle.vt_cells.specs.Attrs.{default_attrs, Attrs}
use Rattle.vt_rows.specs.Cells.{IsPaired}
use Rattle.vt_rows.specs.Row.{RowValue, IsRow, resized_row, blank_row}
use Rattle.vt_rows.specs.Internals.{rotation_source}
use Rattle.vt_grid.specs.Page.{row_or, moved_rows, up_source, rows_up}
use Rattle.vt_grid.specs.Shifts.{down_source}
use Rattle.vt_grid.specs.declared.flat.Columns.{Columns}
use Rattle.vt_grid.specs.declared.flat.Flat.{Flat}
use Rattle.vt_grid.specs.Flat.{rows_of, line_at}
use Rattle.vt_grid.specs.PageRows.{PageRowsValue}
use Rattle.vt_grid.proofs.Flats.{rows_turned, rows_counted}

-- ==== Rows are moved into blank ones, from the last to the first.

-- The rows in `from` were moved into the blank rows from k up to but excluding n: row j now has the content of row
-- `source j`.
abbrev pub MovedInto : (ℕ → ℕ) → (k n : ℕ) → (from blanks fresh : List RowValue) → Type 0
MovedInto source k n from blanks fresh =
    (j : ℕ) (d : RowValue) →
    get_or fresh j d
    ≡ (if nat_le k j && nat_lt j n
    then resized_row (length (get_or blanks j d).cells) (get_or from (source j) d) else get_or blanks j d)

-- If n is not above k, no row has been moved.
pub moved_none : (source : ℕ → ℕ) (k n : ℕ) (from blanks : List RowValue) →
    n ≤ k → MovedInto source k n from blanks blanks
moved_none source k n from blanks h j d =
    let t : (nat_le k j && nat_lt j n) ≡ false = grind (arith, nat_tests) in
    sym (ap (λ (b : Bool). if b
    then resized_row (length (get_or blanks j d).cells) (get_or from (source j) d) else get_or blanks j d)
    t)

-- A blank row before those that rows were moved into is still blank.
pub still_blank : (source : ℕ → ℕ) (k n : ℕ) (from blanks fresh : List RowValue) (d : RowValue) →
    MovedInto source (k + 1) n from blanks fresh → get_or fresh k d ≡ get_or blanks k d
still_blank source k n from blanks fresh d m =
    let t : (nat_le (k + 1) k && nat_lt k n) ≡ false = grind (arith, nat_tests) in
    m k d
    ∙ ap (λ (b : Bool). if b
    then resized_row (length (get_or blanks k d).cells) (get_or from (source k) d) else get_or blanks k d)
    t

pub moved_more : (source : ℕ → ℕ) (k n : ℕ) (from blanks fresh : List RowValue) (row old new : RowValue) →
    k < n → k < length blanks → length fresh ≡ length blanks → source k < length from →
    row ≡ get_or from (source k) row → new ≡ resized_row (length (get_or fresh k old).cells) row →
    MovedInto source (k + 1) n from blanks fresh → MovedInto source k n from blanks (set fresh k new)
moved_more source k n from blanks fresh row old new h i l s r e m j d = elim (cases_eq j k) [
  | inl same ↦
      let t : (nat_le k j && nat_lt j n) ≡ true = grind (arith, nat_tests) in
      let was : get_or fresh k old ≡ get_or blanks k d =
      get_or_default fresh k old d (omega arith) ∙ still_blank source k n from blanks fresh d m in
      let from_there : row ≡ get_or from (source k) d = r ∙ get_or_default from (source k) row d s in
      let value : new ≡ resized_row (length (get_or blanks k d).cells) (get_or from (source k) d) =
      e
      ∙ (ap (λ (x : RowValue). resized_row (length x.cells) row) was
      ∙ ap (resized_row (length (get_or blanks k d).cells)) from_there) in
      get_or-set_at fresh k j new d same (omega arith)
      ∙ (value ∙ (ap (λ (i : ℕ). resized_row (length (get_or blanks i d).cells) (get_or from (source i) d)) (sym same)
      ∙ sym (ap (λ (b : Bool). if b
      then resized_row (length (get_or blanks j d).cells) (get_or from (source j) d) else get_or blanks j d)
      t)))
  | inr other ↦
      let t : (nat_le (k + 1) j && nat_lt j n) ≡ (nat_le k j && nat_lt j n) = grind (arith, nat_tests) in
      get_or-set_other fresh k j new d other
      ∙ (m j d
      ∙ ap (λ (b : Bool). if b
      then resized_row (length (get_or blanks j d).cells) (get_or from (source j) d) else get_or blanks j d)
      t)
]

-- After all rows are moved, exactly the blank rows for which the test holds have received a row.
pub moved_all : (source : ℕ → ℕ) (k n : ℕ) (from blanks fresh : List RowValue) (test : ℕ → Bool) →
    ((j : ℕ) → j < length blanks → (nat_le k j && nat_lt j n) ≡ test j) → MovedInto source k n from blanks fresh →
    (j : ℕ) (d : RowValue) → j < length blanks →
    get_or fresh j d
    ≡ (if test j then resized_row (length (get_or blanks j d).cells) (get_or from (source j) d) else get_or blanks j d)
moved_all source k n from blanks fresh test t m j d h =
    m j d
    ∙ ap (λ (b : Bool). if b
    then resized_row (length (get_or blanks j d).cells) (get_or from (source j) d) else get_or blanks j d)
    (t j h)

-- ---- The row that is removed from the end

pub last_taken : (m n : ℕ) (from left : List RowValue) (row : RowValue) → left ≡ take m from →
    m ≡ n + 1 → m ≤ length from → row ≡ get_or left n row → row ≡ get_or from n row
last_taken m n from left row e s h r =
    r ∙ (ap (λ (rows : List RowValue). get_or rows n row) e ∙ get_or-take m from n row (omega arith))

pub last_paired : (n : ℕ) (from : List RowValue) (row : RowValue) → n < length from →
    row ≡ get_or from n row → All (λ row. IsRow (length row.cells) row) from → IsPaired row.cells
last_paired n from row h r all =
    let there = All-get_or (λ row. IsRow (length row.cells) row) from n row h all in
    subst (λ (x : RowValue). IsPaired x.cells) (sym r) (there.paired)

pub left_taken : (m n : ℕ) (from left rest : List RowValue) →
    left ≡ take m from → n ≤ m → rest ≡ take n left → rest ≡ take n from
left_taken m n from left rest e h r = r ∙ (ap (take n) e ∙ take-take n m from h)

pub none_left : (m n : ℕ) (from left rest : List RowValue) →
    length left ≡ 0 → rest ≡ take m left → n ≡ 0 → rest ≡ take n from
none_left m n from left rest z r e =
    nil_from_length rest (ap length r ∙ omega (arith, length-take m left))
    ∙ sym (nil_from_length (take n from) (omega (arith, length-take n from)))

pub taken_whole : (n : ℕ) (from left : List RowValue) → left ≡ take n from → left ≡ take (length left) from
taken_whole n from left e = elim (cases_lt n (length from)) [
  | inl lt ↦ e ∙ ap (λ (m : ℕ). take m from) (sym (ap length e ∙ omega (arith, length-take n from)))
  | inr ge ↦
      e ∙ (take_all n from ge ∙ sym (take_all (length left) from (omega (arith, ap length e, length-take n from))))
]

-- ==== Rotating and clearing rows moves them up or down.

source_inside : (from to n k len : ℕ) → from + n ≤ to → to ≤ len → k < len → rotation_source from to n k < len
source_inside from to n k len h t l = grind (arith, nat_tests)

sources_agree : (len top bottom count n k : ℕ) → n ≡ min count (bottom + 1 - top) → top ≤ bottom →
    bottom < len → k < len → (nat_le (bottom + 1 - n) k && nat_lt k (bottom + 1)) ≡ false →
    rotation_source top (bottom + 1) n k ≡ up_source len top bottom count k
sources_agree len top bottom count n k e o i l f = grind (arith, nat_tests)

source_past : (len top bottom count n k : ℕ) → n ≡ min count (bottom + 1 - top) →
    top ≤ bottom → bottom < len → (nat_le (bottom + 1 - n) k && nat_lt k (bottom + 1)) ≡ true →
    up_source len top bottom count k ≡ len
source_past len top bottom count n k e o i t = grind (arith, nat_tests)

-- If the rows from top to bottom are rotated left by m, and the rows `from..to` are then cleared, each row comes from
-- the index that `source` gives, which is past the end for a cleared row.
turned_is : (w top bottom m from to : ℕ) (source : ℕ → ℕ) (rows turned cleared : List RowValue) →
    top + m ≤ bottom + 1 → bottom < length rows → length cleared ≡ length rows →
    ((k : ℕ) (d : RowValue) → k < length rows → get_or turned k d ≡ get_or rows (rotation_source top (bottom + 1) m k) d) →
    ((k : ℕ) (d : RowValue) → k < length rows →
    get_or cleared k d ≡ (if nat_le from k && nat_lt k to then blank_row default_attrs w else get_or turned k d)) →
    ((k : ℕ) → k < length rows → (nat_le from k && nat_lt k to) ≡ true → source k ≡ length rows) →
    ((k : ℕ) → k < length rows → (nat_le from k && nat_lt k to) ≡ false → rotation_source top (bottom + 1) m k ≡ source k) →
    cleared ≡ moved_rows w source rows
unfolding moved_rows
turned_is w top bottom m from to source rows turned cleared o i lc ft fc past agree =
    fill_by_all (λ k. row_or w rows (source k)) cleared (length rows) (blank_row default_attrs w) lc (λ k h.
    fc k (blank_row default_attrs w) h ∙ by_test k h (nat_le from k && nat_lt k to) refl) where
      by_test : (k : ℕ) → k < length rows → (b : Bool) → (nat_le from k && nat_lt k to) ≡ b →
          (if b then blank_row default_attrs w else get_or turned k (blank_row default_attrs w))
          ≡ row_or w rows (source k)
      by_test k h true t =
          sym (ap (λ (r : ℕ). row_or w rows r) (past k h t)
          ∙ get_or_past rows (length rows) (blank_row default_attrs w) (omega arith))
      by_test k h false f = ft k (blank_row default_attrs w) h ∙ ap (λ (r : ℕ). row_or w rows r) (agree k h f)

pub scrolled_is : (w top bottom count n : ℕ) (rows turned cleared : List RowValue) →
    n ≡ min count (bottom + 1 - top) → top ≤ bottom → bottom < length rows → length cleared ≡ length rows →
    ((k : ℕ) (d : RowValue) → k < length rows → get_or turned k d ≡ get_or rows (rotation_source top (bottom + 1) n k) d) →
    ((k : ℕ) (d : RowValue) → k < length rows →
    get_or cleared k d
    ≡ (if nat_le (bottom + 1 - n) k && nat_lt k (bottom + 1) then blank_row default_attrs w else get_or turned k d)) →
    cleared ≡ rows_up w top bottom count rows
scrolled_is w top bottom count n rows turned cleared e o i lc ft fc =
    turned_is w top bottom n (bottom + 1 - n) (bottom + 1)
    (up_source (length rows) top bottom count) rows turned cleared (omega arith) i lc ft fc
    (λ k h t. source_past (length rows) top bottom count n k e o i t)
    (λ k h f. sources_agree (length rows) top bottom count n k e o i h f)

-- ---- Down

down_agree : (len top bottom count n k : ℕ) → n ≡ min count (bottom + 1 - top) →
    top ≤ bottom → bottom < len → k < len → (nat_le top k && nat_lt k (top + n)) ≡ false →
    rotation_source top (bottom + 1) (bottom + 1 - top - n) k ≡ down_source len top bottom count k
down_agree len top bottom count n k e o i l f = grind (arith, nat_tests)

down_past : (len top bottom count n k : ℕ) → n ≡ min count (bottom + 1 - top) →
    top ≤ bottom → bottom < len → (nat_le top k && nat_lt k (top + n)) ≡ true →
    down_source len top bottom count k ≡ len
down_past len top bottom count n k e o i t = grind (arith, nat_tests)

pub scrolled_down_is : (w top bottom count n : ℕ) (rows turned cleared : List RowValue) →
    n ≡ min count (bottom + 1 - top) → top ≤ bottom → bottom < length rows → length cleared ≡ length rows →
    ((k : ℕ) (d : RowValue) → k < length rows →
    get_or turned k d ≡ get_or rows (rotation_source top (bottom + 1) (bottom + 1 - top - n) k) d) →
    ((k : ℕ) (d : RowValue) → k < length rows →
    get_or cleared k d
    ≡ (if nat_le top k && nat_lt k (top + n) then blank_row default_attrs w else get_or turned k d)) →
    cleared ≡ moved_rows w (down_source (length rows) top bottom count) rows
scrolled_down_is w top bottom count n rows turned cleared e o i lc ft fc =
    turned_is w top bottom (bottom + 1 - top - n) top (top + n)
    (down_source (length rows) top bottom count) rows turned cleared (omega arith) i lc ft fc
    (λ k h t. down_past (length rows) top bottom count n k e o i t)
    (λ k h f. down_agree (length rows) top bottom count n k e o i h f)

-- ---- Erasing

cleared_at : (w from k : ℕ) (attrs : Attrs) (rows : List RowValue) → k < length rows → from ≤ length rows →
    (if nat_le from k && nat_lt k (length rows) then blank_row attrs w else get_or rows k (blank_row default_attrs w))
    ≡ get_or (take from rows ++ replicate (length rows - from) (blank_row attrs w)) k (blank_row default_attrs w)
cleared_at w from k attrs rows i h =
    let d = blank_row default_attrs w in
    let below = replicate (length rows - from) (blank_row attrs w) in
    elim (cases_lt k from) [
      | inl lt ↦
          let t : (nat_le from k && nat_lt k (length rows)) ≡ false = grind (arith, nat_tests) in
          rw (
            t,
            get_or_append_left (take from rows) below d k (omega (arith, length-take from rows)),
            get_or-take from rows k d lt,
          ) refl
      | inr ge ↦
          let t : (nat_le from k && nat_lt k (length rows)) ≡ true = grind (arith, nat_tests) in
          rw (
            t,
            get_or-append_right (take from rows) below from k d (omega (arith, length-take from rows)) ge,
            get_or-replicate (length rows - from) (k - from) (blank_row attrs w) d (omega arith),
          ) refl
    ]

pub cleared_is : (w from : ℕ) (attrs : Attrs) (rows cleared : List RowValue) →
    from ≤ length rows → length cleared ≡ length rows →
    ((k : ℕ) (d : RowValue) → k < length rows →
    get_or cleared k d ≡ (if nat_le from k && nat_lt k (length rows) then blank_row attrs w else get_or rows k d)) →
    cleared ≡ take from rows ++ replicate (length rows - from) (blank_row attrs w)
cleared_is w from attrs rows cleared h l f =
    let d = blank_row default_attrs w in
    let below = replicate (length rows - from) (blank_row attrs w) in
    let n : length cleared ≡ length (take from rows ++ below) = omega (
      arith,
      length-append (take from rows) below,
      length-take from rows,
      length-replicate (length rows - from) (blank_row attrs w),
    ) in
    ext_get_or d cleared (take from rows ++ below) n
    (λ k i. let j : k < length rows = omega (arith, l) in f k d j ∙ cleared_at w from k attrs rows j h)

before_at : (w to k : ℕ) (attrs : Attrs) (rows : List RowValue) → k < length rows → to ≤ length rows →
    (if nat_le 0 k && nat_lt k to then blank_row attrs w else get_or rows k (blank_row default_attrs w))
    ≡ get_or (replicate to (blank_row attrs w) ++ drop to rows) k (blank_row default_attrs w)
before_at w to k attrs rows i h =
    let d = blank_row default_attrs w in
    let above = replicate to (blank_row attrs w) in
    let l = length-replicate to (blank_row attrs w) in
    elim (cases_lt k to) [
      | inl lt ↦
          let t : (nat_le 0 k && nat_lt k to) ≡ true = grind (arith, nat_tests) in
          rw
          (t, get_or_append_left above (drop to rows) d k (omega arith), get_or-replicate to k (blank_row attrs w) d lt)
          refl
      | inr ge ↦
          let t : (nat_le 0 k && nat_lt k to) ≡ false = grind (arith, nat_tests) in
          let j : to + (k - to) ≡ k = omega arith in
          rw (t, get_or-append_right above (drop to rows) to k d l ge, get_or-drop to rows (k - to) d, j) refl
    ]

pub cleared_before_is : (w to : ℕ) (attrs : Attrs) (rows cleared : List RowValue) →
    to ≤ length rows → length cleared ≡ length rows →
    ((k : ℕ) (d : RowValue) → k < length rows →
    get_or cleared k d ≡ (if nat_le 0 k && nat_lt k to then blank_row attrs w else get_or rows k d)) →
    cleared ≡ replicate to (blank_row attrs w) ++ drop to rows
cleared_before_is w to attrs rows cleared h l f =
    let d = blank_row default_attrs w in
    let above = replicate to (blank_row attrs w) in
    let n : length cleared ≡ length (above ++ drop to rows) =
    omega (arith, length-append above (drop to rows), length-replicate to (blank_row attrs w), length-drop to rows) in
    ext_get_or d cleared (above ++ drop to rows) n
    (λ k i. let j : k < length rows = omega (arith, l) in f k d j ∙ before_at w to k attrs rows j h)

-- ==== A page whose table was rotated, and of which some rows were made blank, has scrolled up or down.

pub counted_turned : (flat turned : Flat) → length turned.lines.items ≡ length flat.lines.items →
    length (rows_of turned) ≡ length (rows_of flat)
counted_turned flat turned e = omega (
  arith,
  e,
  rows_counted flat.columns flat.cells.items flat.lines.items,
  rows_counted turned.columns turned.cells.items turned.lines.items,
)

-- After rows are cleared, each row is a blank row of the page's width or the row after the rotation.
cleared_by : (from to : ℕ) (flat turned : Flat) (attrs : Attrs) (cleared : PageRowsValue) →
    turned.columns ≡ flat.columns → length turned.lines.items ≡ length flat.lines.items → attrs ≡ default_attrs →
    ((k : ℕ) (d : RowValue) → k < length (rows_of turned) →
    get_or cleared.rows k d
    ≡ (if nat_le from k && nat_lt k to then blank_row attrs turned.columns.shown else get_or (rows_of turned) k d)) →
    (k : ℕ) (d : RowValue) → k < length (rows_of flat) →
    get_or cleared.rows k d
    ≡ (if nat_le from k && nat_lt k to then blank_row default_attrs flat.columns.shown else get_or (rows_of turned) k d)
cleared_by from to flat turned attrs cleared w e a f k d h =
    f k d (omega (arith, h, counted_turned flat turned e))
    ∙ (λ z. if nat_le from k && nat_lt k to then blank_row (a z) (w z).shown else get_or (rows_of turned) k d)

pub turned_up : (top bottom count n : ℕ) (flat turned : Flat) (attrs : Attrs) (cleared : PageRowsValue) →
    n ≡ min count (bottom + 1 - top) → top ≤ bottom → bottom < length (rows_of flat) →
    turned.cells ≡ flat.cells → turned.columns ≡ flat.columns → length turned.lines.items ≡ length flat.lines.items →
    ((k : ℕ) → line_at turned.lines.items k ≡ line_at flat.lines.items (rotation_source top (bottom + 1) n k)) →
    attrs ≡ default_attrs → length cleared.rows ≡ length (rows_of turned) → cleared.width ≡ turned.columns.shown →
    ((k : ℕ) (d : RowValue) → k < length (rows_of turned) →
    get_or cleared.rows k d
    ≡ (if nat_le (bottom + 1 - n) k && nat_lt k (bottom + 1)
    then blank_row attrs turned.columns.shown else get_or (rows_of turned) k d)) →
    cleared ≡ record { rows = rows_up flat.columns.shown top bottom count (rows_of flat); width = flat.columns.shown }
turned_up top bottom count n flat turned attrs cleared m o i c w e f a l v g =
    let rows = scrolled_is flat.columns.shown top bottom count n (rows_of flat)
    (rows_of turned) cleared.rows m o i (l ∙ counted_turned flat turned e)
    (rows_turned top (bottom + 1) n flat turned (omega arith) (omega arith) c w e f)
    (cleared_by (bottom + 1 - n) (bottom + 1) flat turned attrs cleared w e a g) in
    λ z. record { rows = rows z; width = (v ∙ ap (λ (x : Columns). x.shown) w) z }

pub turned_down : (top bottom count n : ℕ) (flat turned : Flat) (attrs : Attrs) (cleared : PageRowsValue) →
    n ≡ min count (bottom + 1 - top) → top ≤ bottom → bottom < length (rows_of flat) →
    turned.cells ≡ flat.cells → turned.columns ≡ flat.columns → length turned.lines.items ≡ length flat.lines.items →
    ((k : ℕ) →
    line_at turned.lines.items k ≡ line_at flat.lines.items (rotation_source top (bottom + 1) (bottom + 1 - top - n) k)) →
    attrs ≡ default_attrs → length cleared.rows ≡ length (rows_of turned) → cleared.width ≡ turned.columns.shown →
    ((k : ℕ) (d : RowValue) → k < length (rows_of turned) →
    get_or cleared.rows k d
    ≡ (if nat_le top k && nat_lt k (top + n) then blank_row attrs turned.columns.shown else get_or (rows_of turned) k d)) →
    cleared
    ≡ record {
      rows = moved_rows flat.columns.shown (down_source (length (rows_of flat)) top bottom count) (rows_of flat);
      width = flat.columns.shown;
    }
turned_down top bottom count n flat turned attrs cleared m o i c w e f a l v g =
    let rows = scrolled_down_is flat.columns.shown top bottom count n (rows_of flat)
    (rows_of turned) cleared.rows m o i (l ∙ counted_turned flat turned e)
    (rows_turned top (bottom + 1) (bottom + 1 - top - n) flat turned (omega arith) (omega arith) c w e f)
    (cleared_by top (top + n) flat turned attrs cleared w e a g) in
    λ z. record { rows = rows z; width = (v ∙ ap (λ (x : Columns). x.shown) w) z }

-- ---- Rows made blank

pub blank_from : (from to : ℕ) (attrs : Attrs) (was cleared : PageRowsValue) → from ≤ length was.rows →
    to ≡ length was.rows → length cleared.rows ≡ length was.rows → cleared.width ≡ was.width →
    ((k : ℕ) (d : RowValue) → k < length was.rows →
    get_or cleared.rows k d
    ≡ (if nat_le from k && nat_lt k to then blank_row attrs was.width else get_or was.rows k d)) →
    cleared
    ≡ record {
      rows = take from was.rows ++ replicate (length was.rows - from) (blank_row attrs was.width);
      width = was.width;
    }
blank_from from to attrs was cleared h e l v f =
    let rows = cleared_is was.width from attrs was.rows cleared.rows h l (λ k d i. f k d i
    ∙ ap (λ (n : ℕ). if nat_le from k && nat_lt k n then blank_row attrs was.width else get_or was.rows k d) e) in
    λ z. record { rows = rows z; width = v z }

pub blank_before : (to : ℕ) (attrs : Attrs) (was cleared : PageRowsValue) →
    to ≤ length was.rows → length cleared.rows ≡ length was.rows → cleared.width ≡ was.width →
    ((k : ℕ) (d : RowValue) → k < length was.rows →
    get_or cleared.rows k d ≡ (if nat_le 0 k && nat_lt k to then blank_row attrs was.width else get_or was.rows k d)) →
    cleared ≡ record { rows = replicate to (blank_row attrs was.width) ++ drop to was.rows; width = was.width }
blank_before to attrs was cleared h l v f =
    let rows = cleared_before_is was.width to attrs was.rows cleared.rows h l f in
    λ z. record { rows = rows z; width = v z }
