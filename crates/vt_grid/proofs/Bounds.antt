-- The table of a page's rows: its entries, and the columns in use of each row.
use Rattle.std.proofs.Common.{◌≡◌, ◌≢◌, ℕ, ◌+◌, ◌-◌, ◌<◌, ◌≤◌, List, [], ◌∷◌, ◌++◌, length, take, drop, set, inl, inr}
use Rattle.std.proofs.Common.{sym, ap, ◌∙◌, arith, zero, suc, ◌*◌, ◌/◌, ◌&&◌, nat_lt, Bool, true, false, max, min, refl}
use Rattle.std.proofs.Common.{subst}
use Rattle.std.specs.List.{CopiedTo, SameFrom, list_all}
use Rattle.std.proofs.lemmas.Bool.{cases_eq, cases_lt}
use Rattle.std.proofs.lemmas.Bool.Decides.{nat_tests}
use Rattle.std.proofs.lemmas.List.{ext_get_or, get_or-drop, get_or-take, get_or_append_left, get_or_past, get_or_push}
use Rattle.std.proofs.lemmas.List.{get_or-set_same, get_or-set_other, length-append, length-drop, length-set}
use Rattle.std.proofs.lemmas.List.{length-take, length-replicate, length-map, set-get_or}
use Rattle.std.specs.Prelude.{if◌then◌else◌}
use Rattle.std.specs.Vec.{with_items}
use borrow.Rule.Slice.PartMut.{put_mid}
use Rattle.vt_cells.specs.Attrs.{Attrs, default_attrs, same_attrs}
use Rattle.vt_cells.specs.Cell.{CellValue, blank, cell_with_mark, default_blank, glyph, is_default_blank}
use Rattle.vt_cells.proofs.Attributes.{attrs_of-same, same_attrs-itself}
use Rattle.vt_rows.specs.Internals.{rotation_source}
use Rattle.vt_rows.specs.Texts.{put_wide_text, wide_glyphs_of, glyphs_of, narrow_glyph, put_text}
use Rattle.vt_rows.specs.Cells.{at, blanks, cells_after_erase, marked_at, put_cells}
use Rattle.vt_rows.specs.Row.{RowValue, blank_row, cells_without_end, with_cells}
use Rattle.vt_rows.proofs.Texts.{length-wide_glyphs_of}
use Rattle.vt_rows.proofs.Edits.{at-blanks, at-past, blanks_is, put_columns}
use Rattle.vt_rows.proofs.Steps.{at-put_mid, length-put_mid}
use Rattle.vt_grid.specs.declared.flat.Line.{Line}
use Rattle.vt_grid.specs.Flat.{line_at, no_line, IsBlankFrom, IsFlat, IsStored, cells_at, row_in, rows_in, rows_of}
use Rattle.vt_grid.specs.Flat.{used_columns}
use Rattle.vt_grid.specs.declared.flat.Columns.{Columns}
use Rattle.vt_grid.specs.declared.flat.Flat.{Flat}
use Rattle.vt_grid.specs.PageRows.{PageRowsValue, page_row, with_row_cells}
use Rattle.vt_grid.proofs.Flats.{IsTable-cells, IsTable-moved, cells_at-put_part, length-cells_at, page_rows_of}
use Rattle.vt_grid.proofs.Flats.{place_inside, row_found, rows_in-replaced, written_part}
use Rattle.vt_grid.proofs.Packing.{cell_of_place}

-- ==== The entries of a table, which are the last ones of a list: the effect of replacing an entry, and rotations.

-- Replacing the entry of row r.
pub window-set : (s : ℕ) (entries : List Line) (r : ℕ) (line : Line) → s + r < length entries →
    drop s (set entries (s + r) line) ≡ set (drop s entries) r line
window-set s entries r line h =
    let now = set entries (s + r) line in
    let size = length-set entries (s + r) line in
    let old = length-drop s entries in
    ext_get_or no_line (drop s now) (set (drop s entries) r line)
    (omega (arith, length-drop s now, size, length-set (drop s entries) r line, old))
    (λ k i. elim (cases_eq k r) [
      | inl same ↦
          get_or-drop s now k no_line
          ∙ (ap (λ (j : ℕ). line_at now (s + j)) same
          ∙ (get_or-set_same entries (s + r) line no_line h
          ∙ (sym (get_or-set_same (drop s entries) r line no_line (omega (arith, old, h)))
          ∙ sym (ap (line_at (set (drop s entries) r line)) same))))
      | inr other ↦
          let apart : s + k ≢ s + r = λ e. other (omega (arith, e)) in
          get_or-drop s now k no_line
          ∙ (get_or-set_other entries (s + r) (s + k) line no_line apart
          ∙ sym (get_or-set_other (drop s entries) r k line no_line other ∙ get_or-drop s entries k no_line))
    ])

-- Rotating a part of the list rotates that part of the table.
pub window-turned : (s from to n : ℕ) (entries now : List Line) →
    ((k : ℕ) → line_at now k ≡ line_at entries (rotation_source (s + from) (s + to) n k)) → (k : ℕ) →
    line_at (drop s now) k ≡ line_at (drop s entries) (rotation_source from to n k)
window-turned s from to n entries now f k =
    let same : rotation_source (s + from) (s + to) n (s + k) ≡ s + rotation_source from to n k = grind (arith, nat_tests) in
    get_or-drop s now k no_line
    ∙ (f (s + k)
    ∙ (ap (line_at entries) same ∙ sym (get_or-drop s entries (rotation_source from to n k) no_line)))

-- Appending the first entry, and beginning one entry later, rotates the table by one.
pub window-moved : (s : ℕ) (entries : List Line) (first : Line) → s < length entries → first ≡ line_at entries s →
    (k : ℕ) → line_at (drop (s + 1) (entries ++ first ∷ [])) k
    ≡ line_at (drop s entries) (rotation_source 0 (length (drop s entries)) 1 k)
window-moved s entries first h e k =
    let len = length entries in
    let size = length-drop s entries in
    let now = entries ++ first ∷ [] in
    let all : length now ≡ len + 1 = length-append entries (first ∷ []) in
    let source = rotation_source 0 (length (drop s entries)) 1 k in
    let old = get_or-drop s entries source no_line in
    let new = get_or-drop (s + 1) now k no_line in
    elim (cases_lt (s + k + 1) len) [
      | inl lt ↦
          let at : s + 1 + k ≡ s + source = grind (arith, nat_tests, lt, size) in
          new
          ∙ (get_or_append_left entries (first ∷ []) no_line (s + 1 + k) (omega (arith, lt))
          ∙ (ap (line_at entries) at ∙ sym old))
      | inr ge ↦ elim (cases_eq (s + k + 1) len) [
        | inl last ↦
            let at : s ≡ s + source = grind (arith, nat_tests, last, size, h) in
            new
            ∙ (get_or_push entries first no_line (s + 1 + k) (omega (arith, last))
            ∙ (e ∙ (ap (line_at entries) at ∙ sym old)))
        | inr past ↦
            let beyond : len < s + k + 1 = grind (arith, ge, past) in
            let at : len ≤ s + source = grind (arith, nat_tests, beyond, size) in
            new
            ∙ (get_or_past now (s + 1 + k) no_line (omega (arith, all, beyond))
            ∙ sym (old ∙ get_or_past entries (s + source) no_line at))
      ]
    ]

-- The entries of the table, copied to index t of the list, after which the list ends.
pub window-forward : (s t : ℕ) (entries now : List Line) → t ≤ s → s ≤ length entries → length now ≡ length entries →
    CopiedTo entries now s t (length entries - s) → drop t (take (length entries - (s - t)) now) ≡ drop s entries
window-forward s t entries now b h e f =
    let n = length entries - (s - t) in
    let kept = take n now in
    let old = length-drop s entries in
    let new = length-drop t kept in
    ext_get_or no_line (drop t kept) (drop s entries) (omega (arith, new, length-take n now, e, old, b, h)) (λ k i.
    let inside : t + k < n = omega (arith, i, new, length-take n now, e, b, h) in
    let at : s + (t + k - t) ≡ s + k = omega arith in
    get_or-drop t kept k no_line
    ∙ (get_or-take n now (t + k) no_line inside
    ∙ (f (t + k) no_line (omega arith) (omega (arith, inside, b, h))
    ∙ (ap (line_at entries) at ∙ sym (get_or-drop s entries k no_line)))))

-- Moving the last n entries before the others, beginning the table n entries earlier, and removing what is after it,
-- rotates the table down by n.
pub window-before : (s n : ℕ) (entries now : List Line) → n ≤ s → s + n ≤ length entries → length now ≡ length entries →
    CopiedTo entries now (length entries - n) (s - n) n → SameFrom entries now s → (k : ℕ) →
    line_at (drop (s - n) (take (length entries - n) now)) k
    ≡ line_at (drop s entries) (rotation_source 0 (length entries - s) (length entries - s - n) k)
window-before s n entries now b h e f g k =
    let len = length entries in
    let m = len - n in
    let kept = take m now in
    let source = rotation_source 0 (len - s) (len - s - n) k in
    let new = get_or-drop (s - n) kept k no_line in
    let old = get_or-drop s entries source no_line in
    let size : length kept ≡ m = omega (arith, length-take m now, e, h) in
    elim (cases_lt (s - n + k) m) [
      | inl inside ↦
          let taken = new ∙ get_or-take m now (s - n + k) no_line inside in
          elim (cases_lt k n) [
            | inl few ↦
                let at : m + (s - n + k - (s - n)) ≡ s + source = grind (arith, nat_tests, few, b, h, inside) in
                taken
                ∙ (f (s - n + k) no_line (omega arith) (omega (arith, few))
                ∙ (ap (line_at entries) at ∙ sym old))
            | inr many ↦
                let at : s - n + k ≡ s + source = grind (arith, nat_tests, many, b, h, inside) in
                taken
                ∙ (g (s - n + k) no_line (omega (arith, many, b))
                ∙ (ap (line_at entries) at ∙ sym old))
          ]
      | inr past ↦
          let at : len ≤ s + source = grind (arith, nat_tests, past, b, h) in
          new
          ∙ (get_or_past kept (s - n + k) no_line (omega (arith, size, past))
          ∙ sym (old ∙ get_or_past entries (s + source) no_line at))
    ]

-- Rotating by one after rotating by i.
source-again : (i n k : ℕ) → i < n →
    rotation_source 0 n i (rotation_source 0 n 1 k) ≡ rotation_source 0 n (i + 1) k
source-again i n k h = elim (cases_lt k n) [
  | inl inside ↦ elim (cases_lt (k + 1) n) [
    | inl before ↦
        let one : rotation_source 0 n 1 k ≡ k + 1 = grind (arith, nat_tests, before) in
        let rest : rotation_source 0 n i (k + 1) ≡ rotation_source 0 n (i + 1) k = grind (arith, nat_tests, before) in
        ap (rotation_source 0 n i) one ∙ rest
    | inr last ↦
        let one : rotation_source 0 n 1 k ≡ 0 = grind (arith, nat_tests, inside, last) in
        let first : rotation_source 0 n i 0 ≡ i = grind (arith, nat_tests, h) in
        let rest : i ≡ rotation_source 0 n (i + 1) k = grind (arith, nat_tests, inside, last, h) in
        ap (rotation_source 0 n i) one ∙ (first ∙ rest)
  ]
  | inr past ↦
      let one : rotation_source 0 n 1 k ≡ k = grind (arith, nat_tests, past) in
      let rest : rotation_source 0 n i k ≡ rotation_source 0 n (i + 1) k = grind (arith, nat_tests, past) in
      ap (rotation_source 0 n i) one ∙ rest
]

pub window-again : (i : ℕ) (old now next : List Line) → i < length old → length now ≡ length old →
    ((k : ℕ) → line_at now k ≡ line_at old (rotation_source 0 (length old) i k)) →
    ((k : ℕ) → line_at next k ≡ line_at now (rotation_source 0 (length now) 1 k)) → (k : ℕ) →
    line_at next k ≡ line_at old (rotation_source 0 (length old) (i + 1) k)
window-again i old now next h e f g k =
    g k
    ∙ (ap (λ (m : ℕ). line_at now (rotation_source 0 m 1 k)) e
    ∙ (f (rotation_source 0 (length old) 1 k) ∙ ap (line_at old) (source-again i (length old) k h)))

-- ==== The columns in use of each row: all cells after them are default blanks.

-- A page whose row r has new cells and a new table entry at the same place is stored validly, if the cells of every other
-- place are unchanged.
pub IsStored-replaced : (w : Columns) (r : ℕ) (cells now : List CellValue) (line : Line) (lines : List Line) →
    IsStored w cells lines → r < length lines → length now ≡ length cells → line.place ≡ (line_at lines r).place →
    IsBlankFrom (used_columns w.shown line.used) (cells_at w.stored now (line_at lines r).place) →
    ((q : ℕ) → q < length lines → q ≢ (line_at lines r).place →
    cells_at w.stored now q ≡ cells_at w.stored cells q) → IsStored w now (set lines r line)
IsStored-replaced w r cells now line lines t h l p own others =
    let n : length (set lines r line) ≡ length lines = length-set lines r line in
    let here : line_at (set lines r line) r ≡ line = get_or-set_same lines r line no_line h in
    let there : (k : ℕ) → k ≢ r → line_at (set lines r line) k ≡ line_at lines k =
    λ k other. get_or-set_other lines r k line no_line other in
    record {
      table =
          IsTable-moved w.stored (λ k. k) now lines (set lines r line) n (λ k i. i) (λ j k i m e. e)
          (λ k i. elim (cases_eq k r) [
            | inl e ↦
                ap (λ (j : ℕ). (line_at (set lines r line) j).place) e
                ∙ (ap (λ (x : Line). x.place) here ∙ (p ∙ ap (λ (j : ℕ). (line_at lines j).place) (sym e)))
            | inr o ↦ ap (λ (x : Line). x.place) (there k o)
          ]) (IsTable-cells w.stored cells now lines l t.table);
      fits = t.fits;
      blank = λ k i. elim (cases_eq k r) [
        | inl e ↦
            subst (λ (x : Line). IsBlankFrom (used_columns w.shown x.used) (cells_at w.stored now x.place))
            (sym (ap (line_at (set lines r line)) e ∙ here))
            (subst (λ (q : ℕ). IsBlankFrom (used_columns w.shown line.used) (cells_at w.stored now q)) (sym p) own)
        | inr o ↦
            let inside : k < length lines = omega (arith, n, i) in
            let q = (line_at lines k).place in
            let apart : q ≢ (line_at lines r).place = λ e. o (t.table.distinct k r inside h e) in
            subst (λ (x : Line). IsBlankFrom (used_columns w.shown x.used) (cells_at w.stored now x.place)) (sym (there k o))
            (subst (IsBlankFrom (used_columns w.shown (line_at lines k).used))
            (sym (others q (t.table.inside k inside) apart)) (t.blank k inside))
      ];
    }

pub used_inside : (width groups : ℕ) → used_columns width groups ≤ width
used_inside width groups = grind (arith, nat_tests)

-- The cells of place p after its first u cells are the former ones.
pub blank_after : (w u n p : ℕ) (cells new : List CellValue) → length cells ≡ n * w → p < n → u ≤ w → length new ≡ u →
    IsBlankFrom u (cells_at w cells p) → IsBlankFrom u (cells_at w (put_mid (p * w) u cells new) p)
blank_after w u n p cells new e h few l b k i =
    let fits = place_inside p n w h in
    let now = put_mid (p * w) u cells new in
    let size : length now ≡ length cells = length-put_mid (p * w) u cells new l (omega (arith, fits, e, few)) in
    elim (cases_lt k w) [
      | inl lt ↦
          let was = sym (cell_of_place w p k cells default_blank lt) ∙ b k i in
          cell_of_place w p k now default_blank lt
          ∙ (at-put_mid (p * w) u (p * w + k) cells new l (omega (arith, fits, e, few))
          ∙ grind (arith, nat_tests, i, was))
      | inr ge ↦ at-past (cells_at w now p) k (omega (arith, ge, length-cells_at w n p now (size ∙ e) h))
    ]

-- The page of `row_changed` is stored validly, with all columns of the row in use.
pub flat_changed : (r a b : ℕ) (flat edited : Flat) (xs new : List CellValue) (flag : Bool) →
    IsFlat flat → r < length flat.lines.items →
    edited.cells ≡ with_items flat.cells (put_mid a (b - a) xs new) → xs ≡ flat.cells.items →
    a ≡ (line_at flat.lines.items r).place * flat.columns.stored → b ≡ a + flat.columns.shown → b ≤ length flat.cells.items →
    length new ≡ length (take (b - a) (drop a xs)) → edited.columns ≡ flat.columns →
    edited.lines.items
    ≡ set flat.lines.items r (record (line_at flat.lines.items r) { used = 255; wrapped = flag }) → IsFlat edited
flat_changed r a b flat edited xs new flag t inside e was i j m size w f =
    let lines = flat.lines.items in
    let cells = flat.cells.items in
    let p = (line_at lines r).place in
    let n = length lines in
    let v = flat.columns.stored in
    let u = flat.columns.shown in
    let h = t.table.inside r inside in
    let l : length new ≡ u = size ∙ omega (arith, length-take (b - a) (drop a xs), length-drop a xs, ap length was, j, m) in
    let now = written_part v u n p a (b - a) flat.cells
    edited.cells xs new e was t.table.filled h i (omega (arith, j)) t.fits l in
    let fits = place_inside p n v h in
    subst (λ (x : Columns × (List CellValue × List Line)). IsStored x.0 x.1.0 x.1.1) (λ z. (sym w z, (sym now z, sym f z)))
    (IsStored-replaced flat.columns r cells (put_mid (p * v) u cells new) _ lines t inside
    (length-put_mid (p * v) u cells new l (omega (arith, fits, t.table.filled, t.fits))) refl
    (blank_after v u n p cells new t.table.filled h t.fits l
    (λ k k_in. t.blank r inside k (omega (arith, k_in, used_inside u (line_at lines r).used))))
    (λ q q_in other. cells_at-put_part v u n p q cells new t.table.filled h q_in other t.fits l))

-- The page of `row_blanked` is stored validly.
pub flat_blanked : (r used : ℕ) (flat edited : Flat) → IsFlat flat → r < length flat.lines.items →
    IsBlankFrom (used_columns flat.columns.shown used)
    (cells_at flat.columns.stored edited.cells.items (line_at flat.lines.items r).place) →
    ((q : ℕ) → q < length flat.lines.items → q ≢ (line_at flat.lines.items r).place →
    cells_at flat.columns.stored edited.cells.items q ≡ cells_at flat.columns.stored flat.cells.items q) →
    length edited.cells.items ≡ length flat.cells.items → edited.columns ≡ flat.columns →
    edited.lines.items ≡ set flat.lines.items r (record (line_at flat.lines.items r) { used = used; wrapped = false }) →
    IsFlat edited
flat_blanked r used flat edited t inside own others l w f =
    subst (λ (x : Columns × List Line). IsStored x.0 edited.cells.items x.1) (λ z. (sym w z, sym f z))
    (IsStored-replaced flat.columns r flat.cells.items edited.cells.items _ flat.lines.items t inside l refl own others)

-- ---- Writing the used columns only

-- A column after the larger one of two numbers of used columns is after both.
pub groups_hold : (width groups reach new k : ℕ) → new ≡ max groups ((min reach 2040 + 7) / 8) →
    used_columns width new ≤ k → k < width → max (used_columns width groups) reach ≤ k
groups_hold width groups reach new k e h lt = elim (cases_lt new 255) [
  | inl less ↦
      let t : nat_lt new 255 ≡ true = grind (arith, nat_tests, less) in
      let u : nat_lt groups 255 ≡ true = let a : groups < 255 = omega (arith, e, less) in grind (arith, nat_tests, a) in
      let i : min (8 * new) width ≤ k =
      subst (λ (b : Bool). (if b then min (8 * new) width else width) ≤ k) t h in
      let j : min (8 * groups) width ≤ k = omega (arith, e, less, i, lt) in
      let used : used_columns width groups ≤ k =
      subst (λ (b : Bool). (if b then min (8 * groups) width else width) ≤ k) (sym u) j in
      let reached : reach ≤ k = omega (arith, e, less, i, lt) in
      omega (arith, used, reached)
  | inr ge ↦
      let t : nat_lt new 255 ≡ false = grind (arith, nat_tests, ge) in
      let i : width ≤ k = subst (λ (b : Bool). (if b then min (8 * new) width else width) ≤ k) t h in
      absurd (omega (arith, i, lt))
]

-- The cells of row r after its used columns.
pub row_blank_from : (r : ℕ) (flat : Flat) → IsFlat flat → r < length flat.lines.items →
    IsBlankFrom (used_columns flat.columns.shown (line_at flat.lines.items r).used)
    (row_in flat.columns flat.cells.items (line_at flat.lines.items r)).cells
row_blank_from r flat t inside k h =
    let w = flat.columns in
    let cells = cells_at w.stored flat.cells.items (line_at flat.lines.items r).place in
    elim (cases_lt k w.shown) [
      | inl lt ↦ get_or-take w.shown cells k default_blank lt ∙ t.blank r inside k h
      | inr ge ↦ at-past (take w.shown cells) k (omega (arith, ge, length-take w.shown cells))
    ]

-- The cells at the place of row r after its new number of used columns.
pub noted_blank : (r groups reach new : ℕ) (flat : Flat) → IsFlat flat → r < length flat.lines.items →
    new ≡ max groups ((min reach 2040 + 7) / 8) →
    IsBlankFrom (max (used_columns flat.columns.shown groups) reach)
    (row_in flat.columns flat.cells.items (line_at flat.lines.items r)).cells →
    IsBlankFrom (used_columns flat.columns.shown new)
    (cells_at flat.columns.stored flat.cells.items (line_at flat.lines.items r).place)
noted_blank r groups reach new flat t inside e b k h =
    let w = flat.columns in
    let line = line_at flat.lines.items r in
    elim (cases_lt k w.shown) [
      | inl lt ↦
          sym (get_or-take w.shown (cells_at w.stored flat.cells.items line.place) k default_blank lt)
          ∙ b k (groups_hold w.shown groups reach new k e h lt)
      | inr ge ↦ t.blank r inside k (omega (arith, ge, used_inside w.shown line.used))
    ]

pub blanked_start : (w u n p : ℕ) (cells : List CellValue) → length cells ≡ n * w → p < n → u ≤ w →
    IsBlankFrom u (cells_at w cells p) →
    cells_at w (put_mid (p * w) u cells (blanks default_attrs u)) p ≡ blanks default_attrs w
blanked_start w u n p cells e h few b =
    let fits = place_inside p n w h in
    let size = length-replicate u default_blank in
    let now = put_mid (p * w) u cells (blanks default_attrs u) in
    let l : length now ≡ length cells = length-put_mid (p * w) u cells (blanks default_attrs u) size (omega (arith, fits, e, few)) in
    blanks_is default_attrs w (cells_at w now p) (length-cells_at w n p now (l ∙ e) h) (λ k lt.
    cell_of_place w p k now default_blank lt
    ∙ (at-put_mid (p * w) u (p * w + k) cells (blanks default_attrs u) size (omega (arith, fits, e, few))
    ∙ elim (cases_lt k u) [
      | inl less ↦
          let found = at-blanks u (p * w + k - p * w) in
          grind (arith, nat_tests, less, found)
      | inr ge ↦
          let found = sym (cell_of_place w p k cells default_blank lt) ∙ b k ge in
          grind (arith, nat_tests, ge, found)
    ]))

-- The page after only the number of used columns of row r was set is the same page.
pub flat_noted : (r used : ℕ) (flag : Bool) (flat edited : Flat) → IsFlat flat → r < length flat.lines.items →
    edited.cells ≡ flat.cells → edited.columns ≡ flat.columns →
    edited.lines.items ≡ set flat.lines.items r (record (line_at flat.lines.items r) { used = used; wrapped = flag }) →
    flag ≡ (line_at flat.lines.items r).wrapped →
    IsBlankFrom (used_columns flat.columns.shown used)
    (cells_at flat.columns.stored flat.cells.items (line_at flat.lines.items r).place) →
    (page_rows_of edited ≡ page_rows_of flat) × IsFlat edited
flat_noted r used flag flat edited t h c w f g b =
    let cells = flat.cells.items in
    let lines = flat.lines.items in
    let v = flat.columns in
    let d = row_in v cells (line_at lines r) in
    let rows : rows_of edited ≡ rows_of flat =
    (λ z. rows_in (w z) (c z).items (f z))
    ∙ (rows_in-replaced v r used cells cells d.cells flag lines t.table h refl (λ q i other. refl)
    ∙ (ap (λ (x : Bool). set (rows_of flat) r (record { cells = d.cells; wrapped = x })) g
    ∙ (ap (set (rows_of flat) r) (sym (row_found v r cells lines d h)) ∙ set-get_or (rows_of flat) r d))) in (
      λ z. record { rows = rows z; width = (w z).shown },
      subst (λ (x : Columns × (List CellValue × List Line)). IsStored x.0 x.1.0 x.1.1)
          (λ z. (sym w z, ((sym c z).items, sym f z)))
          (IsStored-replaced v r cells cells _ lines t h refl refl b (λ q i other. refl)),
    )

-- ---- Edits of a row

-- An edit that replaces columns leaves default blanks after the used columns and after the last column it replaces.
pub put_cells_used : (used c n : ℕ) (o : CellValue) (new cells : List CellValue) → length new ≡ n →
    c + n ≤ length cells → IsBlankFrom used cells → IsBlankFrom (max used (c + n)) (put_cells c o new n cells)
put_cells_used used c n o new cells e h b k i =
    let was = b k (omega (arith, i)) in
    let behind : c + n ≤ k = omega (arith, i) in
    put_columns c n o new cells k e h ∙ grind (arith, nat_tests, behind, was)

pub put_text_used : (used c : ℕ) (text : List ℕ) (attrs : Attrs) (cells : List CellValue) →
    c + length text ≤ length cells → IsBlankFrom used cells →
    IsBlankFrom (max used (c + length text)) (put_text c text attrs cells)
put_text_used used c text attrs cells h b =
    put_cells_used used c (length text) (glyph (0x20 ∷ []) false attrs) (glyphs_of attrs text) cells
    (length-map text (narrow_glyph attrs)) h b

pub put_wide_text_used : (used c : ℕ) (text : List ℕ) (attrs : Attrs) (cells : List CellValue) →
    c + 2 * length text ≤ length cells → IsBlankFrom used cells →
    IsBlankFrom (max used (c + 2 * length text)) (put_wide_text c text attrs cells)
put_wide_text_used used c text attrs cells h b =
    put_cells_used used c (2 * length text) (blank attrs) (wide_glyphs_of attrs text) cells
    (length-wide_glyphs_of attrs text) h b

pub marked_used : (used c mark : ℕ) (cells : List CellValue) → IsBlankFrom used cells →
    IsBlankFrom (max used (c + 1)) (marked_at c mark cells)
marked_used used c mark cells b k i =
    get_or-set_other cells c k (cell_with_mark mark (at cells c)) default_blank (λ e. absurd (omega (arith, e, i)))
    ∙ b k (omega (arith, i))

-- An erasure in default attributes leaves default blanks after the used columns, and one in other attributes also after
-- the erased columns.
pub erased_used : (used from to : ℕ) (attrs : Attrs) (cells : List CellValue) → from < to → to ≤ length cells →
    IsBlankFrom used cells →
    IsBlankFrom (max used (if is_default_blank (blank attrs) then 0 else to)) (cells_after_erase from (to - from) attrs cells)
erased_used used from to attrs cells less h b = by_attrs (same_attrs attrs default_attrs) refl where
  by_attrs : (same : Bool) → same_attrs attrs default_attrs ≡ same →
      IsBlankFrom (max used (if same then 0 else to)) (cells_after_erase from (to - from) attrs cells)
  by_attrs true e k i =
      let was = b k (omega (arith, i)) in
      let erased : at (blanks attrs (to - from)) (k - from) ≡ default_blank =
      ap (λ (a : Attrs). at (blanks a (to - from)) (k - from)) (attrs_of-same attrs default_attrs e)
      ∙ at-blanks (to - from) (k - from) in
      put_columns from (to - from) default_blank (blanks attrs (to - from)) cells k
      (length-replicate (to - from) (blank attrs)) (omega (arith, less, h))
      ∙ grind (arith, nat_tests, was, erased)
  by_attrs false e k i =
      put_cells_used used from (to - from) default_blank (blanks attrs (to - from)) cells
      (length-replicate (to - from) (blank attrs)) (omega (arith, less, h)) b k (omega (arith, i, less))

-- The row that a page has where its cells were replaced.
pub row_replaced : (r groups reach : ℕ) (own edited : PageRowsValue) (new : List CellValue) →
    edited ≡ with_row_cells r new own → r < length own.rows →
    IsBlankFrom (max (used_columns own.width groups) reach) new →
    IsBlankFrom (max (used_columns edited.width groups) reach) (page_row edited r).cells
row_replaced r groups reach own edited new e h b =
    let row = with_cells (page_row own r) new in
    let here : page_row edited r ≡ row =
    ap (λ (s : PageRowsValue). page_row s r) e
    ∙ get_or-set_same own.rows r row (blank_row default_attrs own.width) h in
    subst (λ (x : ℕ × RowValue). IsBlankFrom (max (used_columns x.0 groups) reach) x.1.cells)
    (λ z. ((sym e z).width, sym here z)) b

-- ---- Rows without the default blanks at their end

all_blank : (cells : List CellValue) → IsBlankFrom 0 cells → list_all is_default_blank cells ≡ true
all_blank [] b = refl
all_blank (x ∷ xs) b =
    rw (ap is_default_blank (b 0 (omega arith)) ∙ same_attrs-itself default_attrs)
    (all_blank xs (λ k h. b (suc k) (omega arith)))

list_all_used : (used : ℕ) (cells : List CellValue) → IsBlankFrom used cells →
    list_all is_default_blank (take used cells) ≡ list_all is_default_blank cells
list_all_used zero cells b = sym (all_blank cells b)
list_all_used (suc n) [] b = refl
list_all_used (suc n) (x ∷ xs) b =
    ap (λ (r : Bool). is_default_blank x && r) (list_all_used n xs (λ k h. b (suc k) (omega arith)))

pub used_without_end : (used : ℕ) (cells : List CellValue) → IsBlankFrom used cells →
    cells_without_end (take used cells) ≡ cells_without_end cells
used_without_end zero [] b = refl
used_without_end zero (x ∷ xs) b =
    sym (ap (λ (r : Bool). if r then [] else x ∷ cells_without_end xs) (all_blank (x ∷ xs) b))
used_without_end (suc n) [] b = refl
used_without_end (suc n) (x ∷ xs) b =
    let rest : IsBlankFrom n xs = λ k h. b (suc k) (omega arith) in
    (λ z. if is_default_blank x && list_all_used n xs rest z then [] else x ∷ used_without_end n xs rest z)
