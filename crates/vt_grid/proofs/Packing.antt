-- Rows added to a page and removed from it in place: the table, the cells, and where the rows are afterward.
use Rattle.std.proofs.Common.{◌≡◌, ◌≢◌, ℕ, ◌+◌, ◌*◌, ◌-◌, ◌<◌, ◌≤◌, zero, suc, nat_eq, Bool, true, false, List}
use Rattle.std.proofs.Common.{[], ◌∷◌, ◌++◌, length, take, drop, get_or, set, refl, inl, inr, sym, ap, subst, ◌∙◌, arith}
use Rattle.std.specs.Prelude.{if◌then◌else◌}
use Rattle.std.proofs.lemmas.Bool.{cases_lt, cases_eq}
use Rattle.std.proofs.lemmas.Bool.Decides.{nat_tests}
use Rattle.std.proofs.lemmas.List.{length-take, length-set, ext_get_or, get_or-take, get_or-drop}
use Rattle.std.proofs.lemmas.List.{get_or-set_same, get_or-set_other}
use Rattle.std.proofs.lemmas.List.FromFn.{map-range_with_len_more}
use Rattle.std.specs.List.{CopiedTo, SameBelow, SameFrom}
use Rattle.vt_cells.specs.Cell.{CellValue, default_blank}
use Rattle.vt_grid.specs.declared.flat.Line.{Line}
use Rattle.vt_grid.specs.declared.flat.Columns.{Columns}
use Rattle.vt_grid.specs.declared.flat.Flat.{Flat}
use Rattle.vt_grid.specs.Flat.{IsBlankFrom, IsFlat, IsStored, IsTable, cells_at, line_at, lines_from, no_line, row_in}
use Rattle.vt_grid.specs.Flat.{used_columns}
use Rattle.vt_grid.proofs.Flats.{IsTable-moved, IsTable-cells, length-cells_at, place_inside}

-- ---- A function that maps the numbers below `n` to distinct numbers below `n` takes each of them as a value

-- The function without its last argument: where it took the value `last`, it takes the value of `last`.
abbrev skip : (last : ℕ) → (ℕ → ℕ) → ℕ → ℕ
skip last f r = if nat_eq (f r) last then f last else f r

skip_last : (last : ℕ) (f : ℕ → ℕ) (r : ℕ) → f r ≡ last → skip last f r ≡ f last
skip_last last f r e = let t : nat_eq (f r) last ≡ true = grind (arith, nat_tests) in ap (λ (b : Bool). if b then f last else f r) t

skip_other : (last : ℕ) (f : ℕ → ℕ) (r : ℕ) → f r ≢ last → skip last f r ≡ f r
skip_other last f r e =
    let t : nat_eq (f r) last ≡ false = grind (arith, nat_tests) in ap (λ (b : Bool). if b then f last else f r) t

-- The numbers below `n` have distinct values below `n`.
pub record IsShuffle (n : ℕ) (f : ℕ → ℕ) : Type 0 where
  pub inside : (r : ℕ) → r < n → f r < n
  pub distinct : (r s : ℕ) → r < n → s < n → f r ≡ f s → r ≡ s

skipped : (n : ℕ) (f : ℕ → ℕ) → IsShuffle (suc n) f → IsShuffle n (skip n f)
skipped n f s = record {
  inside = λ r h. elim (cases_eq (f r) n) [
    | inl e ↦
        let d : f n ≢ n = λ same. absurd (let x = s.distinct r n (omega arith) (omega arith) (e ∙ sym same) in omega arith) in
        let i = s.inside n (omega arith) in
        rw (skip_last n f r e) (grind (arith, d, i))
    | inr o ↦ let i = s.inside r (omega arith) in rw (skip_other n f r o) (grind (arith, o, i))
  ];
  distinct = λ r q h i same. elim (cases_eq (f r) n) [
    | inl e ↦ elim (cases_eq (f q) n) [
      | inl g ↦ s.distinct r q (omega arith) (omega arith) (e ∙ sym g)
      | inr o ↦
          let x = s.distinct n q (omega arith) (omega arith) (sym (skip_last n f r e) ∙ (same ∙ skip_other n f q o)) in
          absurd (omega arith)
    ]
    | inr p ↦ elim (cases_eq (f q) n) [
      | inl g ↦
          let x = s.distinct r n (omega arith) (omega arith) (sym (skip_other n f r p) ∙ (same ∙ skip_last n f q g)) in
          absurd (omega arith)
      | inr o ↦ s.distinct r q (omega arith) (omega arith) (sym (skip_other n f r p) ∙ (same ∙ skip_other n f q o))
    ]
  ];
}

-- An argument below `n` with this value.
pub record HasArgument (n : ℕ) (f : ℕ → ℕ) (value : ℕ) : Type 0 where
  pub at : ℕ
  pub inside : at < n
  pub is : f at ≡ value

-- An argument of the function without its last argument gives one of the whole function.
unskipped : (n : ℕ) (f : ℕ → ℕ) (value : ℕ) → HasArgument n (skip n f) value → HasArgument (suc n) f value
unskipped n f value a = elim (cases_eq (f a.at) n) [
  | inl e ↦ record { at = n; inside = omega arith; is = sym (skip_last n f a.at e) ∙ a.is }
  | inr o ↦
      let i = a.inside in record { at = a.at; inside = omega (arith, i); is = sym (skip_other n f a.at o) ∙ a.is }
]

-- The argument whose value is the last number.
last_taken : (n : ℕ) (f : ℕ → ℕ) → IsShuffle (suc n) f → HasArgument n (skip n f) (f n) → HasArgument (suc n) f n
last_taken n f s a = elim (cases_eq (f a.at) n) [
  | inl e ↦ let i = a.inside in record { at = a.at; inside = omega (arith, i); is = e }
  | inr o ↦
      let i = a.inside in
      let x = s.distinct a.at n (omega (arith, i)) (omega arith) (sym (skip_other n f a.at o) ∙ a.is) in
      absurd (omega (arith, x, i))
]

pub takes_all : (n : ℕ) (f : ℕ → ℕ) (value : ℕ) → IsShuffle n f → value < n → HasArgument n f value
takes_all zero f value s h = absurd (omega arith)
takes_all (suc n) f value s h = elim (cases_eq value n) [
  | inr other ↦ unskipped n f value (takes_all n (skip n f) value (skipped n f s) (grind (arith, other)))
  | inl same ↦ elim (cases_eq (f n) n) [
    | inl e ↦ record { at = n; inside = omega arith; is = e ∙ sym same }
    | inr o ↦
        let i = s.inside n (omega arith) in
        subst (HasArgument (suc n) f) (sym same)
        (last_taken n f s (takes_all n (skip n f) (f n) (skipped n f s) (grind (arith, o, i))))
  ]
]

-- ---- A free place

-- If all rows from `rows` on are at places from `rows` on, no other row is.
pub none_free : (rows row : ℕ) (lines : List Line) →
    ((k : ℕ) → k < length lines → (line_at lines k).place < length lines) →
    ((j k : ℕ) → j < length lines → k < length lines → (line_at lines j).place ≡ (line_at lines k).place → j ≡ k) →
    ((k : ℕ) → rows ≤ k → k < length lines → rows ≤ (line_at lines k).place) →
    row < rows → row < length lines → rows ≤ (line_at lines row).place → ⊥
none_free rows row lines inside distinct later h i p =
    let n = length lines - rows in
    let f : ℕ → ℕ = λ k. (line_at lines (rows + k)).place - rows in
    let there = inside row i in
    let shuffle : IsShuffle n f = record {
      inside = λ k l.
          let a = later (rows + k) (omega arith) (omega (arith, l)) in
          let b = inside (rows + k) (omega (arith, l)) in
          omega (arith, a, b, l);
      distinct = λ j k l m same.
          let a = later (rows + j) (omega arith) (omega (arith, l)) in
          let b = later (rows + k) (omega arith) (omega (arith, m)) in
          let x = distinct (rows + j) (rows + k) (omega (arith, l)) (omega (arith, m)) (omega (arith, a, b, same)) in
          omega (arith, x);
    } in
    let found = takes_all n f ((line_at lines row).place - rows) shuffle (omega (arith, there, p)) in
    let k = found.inside in
    let a = later (rows + found.at) (omega arith) (omega (arith, k)) in
    let x = distinct (rows + found.at) row (omega (arith, k)) i (omega (arith, a, p, found.is)) in
    omega (arith, x, h)

pub free_left : (rows from row : ℕ) (lines : List Line) →
    ((k : ℕ) → k < length lines → (line_at lines k).place < length lines) →
    ((j k : ℕ) → j < length lines → k < length lines → (line_at lines j).place ≡ (line_at lines k).place → j ≡ k) →
    ((k : ℕ) → rows ≤ k → k < from → rows ≤ (line_at lines k).place) →
    row < rows → row < length lines → rows ≤ (line_at lines row).place → from < length lines
free_left rows from row lines inside distinct later h i p = elim (cases_lt from (length lines)) [
  | inl lt ↦ lt
  | inr ge ↦ absurd (none_free rows row lines inside distinct (λ k l m. later k l (omega arith)) h i p)
]

-- ---- Two places

pub cell_of_place : (w q k : ℕ) (cells : List CellValue) (d : CellValue) → k < w →
    get_or (cells_at w cells q) k d ≡ get_or cells (q * w + k) d
cell_of_place w q k cells d h =
    get_or-take (q * w + w - q * w) (drop (q * w) cells) k d (omega arith) ∙ get_or-drop (q * w) cells k d

-- The cells at two places are equal if they are so by column.
pub cells_at_by : (w n m q p : ℕ) (now cells : List CellValue) → length now ≡ n * w → length cells ≡ m * w → q < n → p < m →
    ((k : ℕ) → k < w → get_or now (q * w + k) default_blank ≡ get_or cells (p * w + k) default_blank) →
    cells_at w now q ≡ cells_at w cells p
cells_at_by w n m q p now cells e g h i f =
    let l = length-cells_at w n q now e h in
    ext_get_or default_blank (cells_at w now q) (cells_at w cells p) (l ∙ sym (length-cells_at w m p cells g i)) (λ k lt.
    let inside : k < w = omega (arith, l) in
    cell_of_place w q k now default_blank inside ∙ (f k inside ∙ sym (cell_of_place w p k cells default_blank inside)))

-- The cells of place `p` were copied to place `q`.
copied_there : (w n p q count : ℕ) (cells now : List CellValue) → length cells ≡ n * w → length now ≡ length cells →
    p < n → q < n → count ≡ w → CopiedTo cells now (p * w) (q * w) count → cells_at w now q ≡ cells_at w cells p
copied_there w n p q count cells now e l h i c f =
    cells_at_by w n n q p now cells (l ∙ e) e i h (λ k lt.
    f (q * w + k) default_blank (omega arith) (omega (arith, c))
    ∙ ap (λ (j : ℕ). get_or cells j default_blank) (omega arith))

copied_elsewhere : (w n q r count : ℕ) (cells now : List CellValue) → length cells ≡ n * w → length now ≡ length cells →
    q < n → r < n → r ≢ q → count ≡ w → SameBelow cells now (q * w) → SameFrom cells now (q * w + count) →
    cells_at w now r ≡ cells_at w cells r
copied_elsewhere w n q r count cells now e l h i other c below above =
    cells_at_by w n n r r now cells (l ∙ e) e i i (λ k lt. elim (cases_lt r q) [
      | inl less ↦
          let before = place_inside r q w less in below (r * w + k) default_blank (omega (arith, before))
      | inr ge ↦
          let more : q < r = grind (arith, other, ge) in
          let after = place_inside q r w more in above (r * w + k) default_blank (omega (arith, after, c))
    ])

-- ---- Two rows that trade places

abbrev swapped : ℕ → ℕ → ℕ → ℕ
swapped row other k = if nat_eq k row then other else if nat_eq k other then row else k

swapped_inside : (row other k n : ℕ) → row < n → other < n → k < n → swapped row other k < n
swapped_inside row other k n h i l = grind (arith, nat_tests)

swapped_once : (row other j k : ℕ) → swapped row other j ≡ swapped row other k → j ≡ k
swapped_once row other j k e = grind (arith, nat_tests)

swapped_row : (row other : ℕ) → swapped row other row ≡ other
swapped_row row other = grind (arith, nat_tests)

swapped_other : (row other : ℕ) → swapped row other other ≡ row
swapped_other row other = grind (arith, nat_tests)

swapped_rest : (row other k : ℕ) → k ≢ row → k ≢ other → swapped row other k ≡ k
swapped_rest row other k h i = grind (arith, nat_tests)

-- The table after two rows traded places.
pub record HasTraded (row other : ℕ) (lines now : List Line) : Type 0 where
  pub len : length now ≡ length lines
  pub moved : line_at now row ≡ record (line_at lines row) { place = (line_at lines other).place }
  pub freed : line_at now other ≡ line_at lines row
  pub rest : (k : ℕ) → k ≢ row → k ≢ other → line_at now k ≡ line_at lines k

pub traded : (row other : ℕ) (lines half now : List Line) (own freed : Line) → row < length lines →
    other < length lines → row ≢ other → own ≡ line_at lines row → freed ≡ line_at lines other →
    half ≡ set lines row (record own { place = freed.place }) → now ≡ set half other own → HasTraded row other lines now
traded row other lines half now own freed h i apart e f p q =
    let here : Line = record own { place = freed.place } in
    let l : length half ≡ length lines = ap length p ∙ length-set lines row here in
    record {
      len = ap length q ∙ (length-set half other own ∙ l);
      moved =
          ap (λ (xs : List Line). line_at xs row) q
          ∙ (get_or-set_other half other row own no_line apart
          ∙ (ap (λ (xs : List Line). line_at xs row) p
          ∙ (get_or-set_same lines row here no_line h ∙ (λ z. record (e z) { place = (f z).place }))));
      freed =
          ap (λ (xs : List Line). line_at xs other) q
          ∙ (get_or-set_same half other own no_line (omega (arith, l, i)) ∙ e);
      rest =
          λ k a b. ap (λ (xs : List Line). line_at xs k) q
          ∙ (get_or-set_other half other k own no_line b
          ∙ (ap (λ (xs : List Line). line_at xs k) p ∙ get_or-set_other lines row k here no_line a));
    }

places_traded : (row other : ℕ) (lines now : List Line) → HasTraded row other lines now → (k : ℕ) →
    (line_at now k).place ≡ (line_at lines (swapped row other k)).place
places_traded row other lines now t k = elim (cases_eq k row) [
  | inl e ↦
      ap (λ (j : ℕ). (line_at now j).place) e
      ∙ (ap (λ (x : Line). x.place) t.moved
      ∙ ap (λ (j : ℕ). (line_at lines j).place) (sym (ap (swapped row other) e ∙ swapped_row row other)))
  | inr o ↦ elim (cases_eq k other) [
    | inl e ↦
        ap (λ (j : ℕ). (line_at now j).place) e
        ∙ (ap (λ (x : Line). x.place) t.freed ∙ ap (λ (j : ℕ). (line_at lines j).place) (sym (ap (swapped row other) e ∙ swapped_other row other)))
    | inr p ↦
        ap (λ (x : Line). x.place) (t.rest k o p)
        ∙ ap (λ (j : ℕ). (line_at lines j).place) (sym (swapped_rest row other k o p))
  ]
]

pub IsTable-traded : (w row other : ℕ) (cells after : List CellValue) (lines now : List Line) →
    row < length lines → other < length lines → length after ≡ length cells →
    HasTraded row other lines now → IsTable w cells lines → IsTable w after now
IsTable-traded w row other cells after lines now h i l t table =
    IsTable-moved w (swapped row other) after lines now t.len
    (λ k m. swapped_inside row other k (length lines) h i m) (λ j k m o same. swapped_once row other j k same)
    (λ k m. places_traded row other lines now t k) (IsTable-cells w cells after lines l table)

-- Each row except the other one keeps its number of used columns and its wrapped flag.
entry_traded : (row other : ℕ) (lines now : List Line) → HasTraded row other lines now → (k : ℕ) → k ≢ other →
    record (line_at now k) { place = 0 } ≡ record (line_at lines k) { place = 0 }
entry_traded row other lines now t k apart = elim (cases_eq k row) [
  | inl e ↦
      ap (λ (j : ℕ). record (line_at now j) { place = 0 }) e
      ∙ (ap (λ (x : Line). record x { place = 0 }) t.moved
      ∙ ap (λ (j : ℕ). record (line_at lines j) { place = 0 }) (sym e))
  | inr o ↦ ap (λ (x : Line). record x { place = 0 }) (t.rest k o apart)
]

-- Each row except the other one keeps its cells.
cells_traded : (w row other count : ℕ) (cells after : List CellValue) (lines now : List Line) →
    row < length lines → other < length lines → length after ≡ length cells → count ≡ w →
    CopiedTo cells after ((line_at lines row).place * w) ((line_at lines other).place * w) count →
    SameBelow cells after ((line_at lines other).place * w) →
    SameFrom cells after ((line_at lines other).place * w + count) →
    HasTraded row other lines now → IsTable w cells lines → (k : ℕ) → k < length lines → k ≢ other →
    cells_at w after (line_at now k).place ≡ cells_at w cells (line_at lines k).place
cells_traded w row other count cells after lines now h i l c there below above t table k m apart =
    let n = length lines in
    let p = (line_at lines row).place in
    let q = (line_at lines other).place in
    elim (cases_eq k row) [
      | inl e ↦
          ap (λ (x : Line). cells_at w after x.place) (ap (line_at now) e ∙ t.moved)
          ∙ (copied_there w n p q count cells after table.filled l (table.inside row h) (table.inside other i) c there
          ∙ ap (λ (j : ℕ). cells_at w cells (line_at lines j).place) (sym e))
      | inr o ↦
          let far : (line_at lines k).place ≢ q = λ same. apart (table.distinct k other m i same) in
          ap (λ (x : Line). cells_at w after x.place) (t.rest k o apart)
          ∙ copied_elsewhere w n q (line_at lines k).place count cells after table.filled l
          (table.inside other i) (table.inside k m) far c below above
    ]

pub rows_in-traded : (w : Columns) (row other count : ℕ) (cells after : List CellValue) (lines now : List Line) →
    row < length lines → other < length lines → length after ≡ length cells → count ≡ w.stored →
    CopiedTo cells after ((line_at lines row).place * w.stored) ((line_at lines other).place * w.stored) count →
    SameBelow cells after ((line_at lines other).place * w.stored) →
    SameFrom cells after ((line_at lines other).place * w.stored + count) →
    HasTraded row other lines now → IsTable w.stored cells lines → (k : ℕ) → k < length lines → k ≢ other →
    row_in w after (line_at now k) ≡ row_in w cells (line_at lines k)
rows_in-traded w row other count cells after lines now h i l c there below above t table k m apart =
    let same = cells_traded w.stored row other count cells after lines now h i l c there below above t table k m apart in
    let entry = entry_traded row other lines now t k apart in
    λ z. record { cells = take w.shown (same z); wrapped = (entry z).wrapped }

pub IsStored-traded : (w : Columns) (row other count : ℕ) (cells after : List CellValue) (lines now : List Line) →
    row < length lines → other < length lines → row ≢ other → length after ≡ length cells → count ≡ w.stored →
    CopiedTo cells after ((line_at lines row).place * w.stored) ((line_at lines other).place * w.stored) count →
    SameBelow cells after ((line_at lines other).place * w.stored) →
    SameFrom cells after ((line_at lines other).place * w.stored + count) →
    HasTraded row other lines now → IsStored w cells lines → IsStored w after now
IsStored-traded w row other count cells after lines now h i apart l c there below above t stored =
    let table = stored.table in
    let q = (line_at lines other).place in
    let source : ℕ → ℕ = λ k. if nat_eq k other then row else k in
    let from : (k : ℕ) → k < length now →
    (source k < length lines) × (((line_at now k).used ≡ (line_at lines (source k)).used)
    × (cells_at w.stored after (line_at now k).place ≡ cells_at w.stored cells (line_at lines (source k)).place)) =
    λ k m. elim (cases_eq k other) [
      | inl e ↦
          let s : source k ≡ row = grind (arith, nat_tests, e) in
          let far : (line_at lines row).place ≢ q = λ same. apart (table.distinct row other h i same) in
          let still = copied_elsewhere w.stored (length lines) q (line_at lines row).place count cells after table.filled l
          (table.inside other i) (table.inside row h) far c below above in
          let line = ap (line_at now) e ∙ t.freed in (
            omega (arith, s, h),
            (
              ap (λ (x : Line). x.used) line ∙ ap (λ (j : ℕ). (line_at lines j).used) (sym s),
              ap (λ (x : Line). cells_at w.stored after x.place) line
                  ∙ (still ∙ ap (λ (j : ℕ). cells_at w.stored cells (line_at lines j).place) (sym s)),
            ),
          )
      | inr o ↦
          let s : source k ≡ k = grind (arith, nat_tests, o) in
          let inside : k < length lines = omega (arith, t.len, m) in
          let same = cells_traded w.stored row other count cells after lines now h i l c there below above t table k inside o in
          let entry = entry_traded row other lines now t k o in (
            omega (arith, s, inside),
            (
              ap (λ (x : Line). x.used) entry ∙ ap (λ (j : ℕ). (line_at lines j).used) (sym s),
              same ∙ ap (λ (j : ℕ). cells_at w.stored cells (line_at lines j).place) (sym s),
            ),
          )
    ] in
    record {
      table = IsTable-traded w.stored row other cells after lines now h i l t table;
      fits = stored.fits;
      blank =
          λ k m. let f = from k m in
          subst (λ (x : ℕ × List CellValue). IsBlankFrom (used_columns w.shown x.0) x.1) (λ z. (sym f.1.0 z, sym f.1.1 z))
          (stored.blank (source k) f.0);
    }

-- ---- Rows moved to the first places

-- The first `row` rows have been moved to the first `rows` places, and no row from `rows` on and before `free` is at one
-- of them.
pub record PackedTo (rows row free : ℕ) (first flat : Flat) : Type 0 where
  pub table : IsFlat flat
  pub len : length flat.lines.items ≡ length first.lines.items
  pub columns : flat.columns ≡ first.columns
  pub kept : (k : ℕ) → k < rows →
      row_in first.columns flat.cells.items (line_at flat.lines.items k)
      ≡ row_in first.columns first.cells.items (line_at first.lines.items k)
  pub packed : (k : ℕ) → k < row → (line_at flat.lines.items k).place < rows
  pub after : rows ≤ free
  pub later : (k : ℕ) → rows ≤ k → k < free → rows ≤ (line_at flat.lines.items k).place

pub packed_none : (rows : ℕ) (flat : Flat) → IsFlat flat → PackedTo rows 0 rows flat flat
packed_none rows flat t = record {
  table = t;
  len = refl;
  columns = refl;
  kept = λ k h. refl;
  packed = λ k h. absurd (omega arith);
  after = omega arith;
  later = λ k h i. absurd (omega arith);
}

pub packed_same : (rows row free : ℕ) (first flat : Flat) → (line_at flat.lines.items row).place < rows →
    PackedTo rows row free first flat → PackedTo rows (row + 1) free first flat
packed_same rows row free first flat h p = record {
  table = p.table;
  len = p.len;
  columns = p.columns;
  kept = p.kept;
  packed = λ k i. elim (cases_eq k row) [
    | inl e ↦ subst (λ (j : ℕ). (line_at flat.lines.items j).place < rows) (sym e) h
    | inr o ↦ p.packed k (grind (arith, o, i))
  ];
  after = p.after;
  later = p.later;
}

pub packed_traded : (rows row free other : ℕ) (first flat new : Flat) → row < rows → rows ≤ length first.lines.items →
    free ≤ other → (line_at flat.lines.items other).place < rows →
    ((k : ℕ) → rows ≤ k → k < other → rows ≤ (line_at flat.lines.items k).place) → IsFlat new →
    length new.lines.items ≡ length flat.lines.items → new.columns ≡ flat.columns →
    line_at new.lines.items row
    ≡ record (line_at flat.lines.items row) { place = (line_at flat.lines.items other).place } →
    ((k : ℕ) → k ≢ row → k ≢ other → line_at new.lines.items k ≡ line_at flat.lines.items k) →
    ((k : ℕ) → k < length flat.lines.items → k ≢ other →
    row_in flat.columns new.cells.items (line_at new.lines.items k)
    ≡ row_in flat.columns flat.cells.items (line_at flat.lines.items k)) →
    PackedTo rows row free first flat → PackedTo rows (row + 1) other first new
packed_traded rows row free other first flat new h all on found later t l w moved rest same p = record {
  table = t;
  len = l ∙ p.len;
  columns = w ∙ p.columns;
  kept = λ k i.
      let apart : k ≢ other = λ e. absurd (omega (arith, p.after, on, i, e)) in
      subst (λ (v : Columns). row_in v new.cells.items (line_at new.lines.items k)
      ≡ row_in v flat.cells.items (line_at flat.lines.items k)) p.columns (same k (omega (arith, p.len, i, all)) apart)
      ∙ p.kept k i;
  packed = λ k i. elim (cases_eq k row) [
    | inl e ↦
        subst (λ (j : ℕ). (line_at new.lines.items j).place < rows) (sym e)
        (omega (arith, ap (λ (x : Line). x.place) moved, found))
    | inr o ↦
        let apart : k ≢ other = λ e. absurd (omega (arith, p.after, on, i, h, e)) in
        let before : k < row = grind (arith, o, i) in
        omega (arith, ap (λ (x : Line). x.place) (rest k o apart), p.packed k before)
  ];
  after = omega (arith, p.after, on);
  later = λ k i j.
      let o : k ≢ row = λ e. absurd (omega (arith, i, h, e)) in
      let apart : k ≢ other = λ e. absurd (omega (arith, j, e)) in
      omega (arith, ap (λ (x : Line). x.place) (rest k o apart), later k i j);
}

-- ---- Rows removed at the end

-- The first rows are at the first places.
abbrev pub IsPacked : ℕ → List Line → Type 0
IsPacked rows lines = (k : ℕ) → k < rows → (line_at lines k).place < rows

line_taken : (rows k : ℕ) (lines : List Line) → k < rows → line_at (take rows lines) k ≡ line_at lines k
line_taken rows k lines h = get_or-take rows lines k no_line h

pub IsTable-cut : (w rows : ℕ) (cells : List CellValue) (lines : List Line) → rows ≤ length lines →
    IsPacked rows lines → IsTable w cells lines → IsTable w (take (rows * w) cells) (take rows lines)
IsTable-cut w rows cells lines h packed t =
    let l : length (take rows lines) ≡ rows = omega (arith, length-take rows lines) in
    let many : rows * w ≤ length lines * w = grind (arith, h) in
    record {
      filled = omega (arith, length-take (rows * w) cells, t.filled, many) ∙ ap (λ (n : ℕ). n * w) (sym l);
      inside = λ r i.
          let inside : r < rows = omega (arith, l) in
          let there = packed r inside in
          rw (line_taken rows r lines inside) (omega (arith, l, there));
      distinct = λ r s i j same.
          let a : r < rows = omega (arith, l) in
          let b : s < rows = omega (arith, l) in
          t.distinct r s (omega arith) (omega arith)
          (sym (ap (λ (x : Line). x.place) (line_taken rows r lines a))
          ∙ (same ∙ ap (λ (x : Line). x.place) (line_taken rows s lines b)));
    }

cells_cut : (w rows : ℕ) (cells : List CellValue) (lines : List Line) → rows ≤ length lines →
    IsPacked rows lines → IsTable w cells lines → (k : ℕ) → k < rows →
    cells_at w (take (rows * w) cells) (line_at lines k).place ≡ cells_at w cells (line_at lines k).place
cells_cut w rows cells lines h packed t k i =
    let p = (line_at lines k).place in
    let many : rows * w ≤ length lines * w = grind (arith, h) in
    let l : length (take (rows * w) cells) ≡ rows * w = omega (arith, length-take (rows * w) cells, t.filled, many) in
    let inside = place_inside p rows w (packed k i) in
    cells_at_by w rows (length lines) p p (take (rows * w) cells) cells l t.filled (packed k i)
    (t.inside k (omega arith)) (λ j m. get_or-take (rows * w) cells (p * w + j) default_blank (omega (arith, inside)))

pub rows_in-cut : (w : Columns) (rows : ℕ) (cells : List CellValue) (lines : List Line) → rows ≤ length lines →
    IsPacked rows lines → IsTable w.stored cells lines → (k : ℕ) → k < rows →
    row_in w (take (rows * w.stored) cells) (line_at (take rows lines) k) ≡ row_in w cells (line_at lines k)
rows_in-cut w rows cells lines h packed t k i =
    ap (row_in w (take (rows * w.stored) cells)) (line_taken rows k lines i)
    ∙ ap (λ (xs : List CellValue). record { cells = take w.shown xs; wrapped = (line_at lines k).wrapped })
    (cells_cut w.stored rows cells lines h packed t k i)

pub IsStored-cut : (w : Columns) (rows : ℕ) (cells : List CellValue) (lines : List Line) → rows ≤ length lines →
    IsPacked rows lines → IsStored w cells lines → IsStored w (take (rows * w.stored) cells) (take rows lines)
IsStored-cut w rows cells lines h packed t =
    let l : length (take rows lines) ≡ rows = omega (arith, length-take rows lines) in
    let inside : (k : ℕ) → k < length (take rows lines) → k < rows = λ k i. omega (arith, l, i) in
    let all = take (rows * w.stored) cells in
    record {
      table = IsTable-cut w.stored rows cells lines h packed t.table;
      fits = t.fits;
      blank =
          λ k i. let line = line_taken rows k lines (inside k i) in
          let same = ap (λ (x : Line). cells_at w.stored all x.place) line
          ∙ cells_cut w.stored rows cells lines h packed t.table k (inside k i) in
          subst (λ (x : ℕ × List CellValue). IsBlankFrom (used_columns w.shown x.0) x.1)
          (λ z. ((sym line z).used, sym same z)) (t.blank k (omega (arith, inside k i, h)));
    }

-- ---- Rows added at the end

pub lines_from_more : (first n : ℕ) →
    lines_from first (n + 1) ≡ lines_from first n ++ record { place = first + n; used = 0; wrapped = false } ∷ []
lines_from_more first n =
    map-range_with_len_more (λ place. record { place = place; used = 0; wrapped = false }) first n (first + n) refl
