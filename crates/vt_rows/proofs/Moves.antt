-- Moves of columns: each column comes from the column that the definition says, wide glyphs stay whole, and cells stay
-- valid.
use Rattle.std.proofs.Common.{◌≡◌, ℕ, ◌+◌, ◌-◌, ◌<◌, ◌≤◌, ◌==◌, ◌&&◌, nat_lt, not, Bool, true, false}
use Rattle.std.proofs.Common.{List, length, refl, inl, inr, sym, ap, subst, ◌∙◌, zero-add, arith}
use Rattle.std.specs.Prelude.{All, if◌then◌else◌}
use Rattle.std.proofs.lemmas.Bool.{cases_lt, cases_eq, cond_both, and_parts, and_right, eqb-true}
use Rattle.std.proofs.lemmas.Bool.Decides.{nat_tests}
use Rattle.std.proofs.lemmas.List.FromFn.{fill_by_all, length-map-range_with_len, get_or-map-range_with_len}
use Rattle.std.proofs.lemmas.List.Elements.{All-from_get_or, All-get_or}
use Rattle.vt_cells.specs.Cell.{CellValue, blank, glyph, right_half, default_blank}
use Rattle.vt_cells.specs.Cell.{is_wide, is_right_half, attrs_of, IsCell}
use Rattle.vt_rows.specs.Cells.{at, IsPaired, ends_blank, cells_after_move, moved_at, cells_after_insert, cells_after_delete}
use Rattle.vt_rows.specs.Cells.{cells_after_resize, insert_source, delete_source, insert_column}
use Rattle.vt_rows.specs.Row.{RowValue, IsRow, inserted_row, deleted_row, resized_row}
use Rattle.vt_rows.proofs.Edits.{at-past}

pub length-moved : (n : ℕ) (source : ℕ → ℕ) (cells : List CellValue) → length (cells_after_move n source cells) ≡ n
unfolding cells_after_move
length-moved n source cells = length-map-range_with_len (moved_at n source cells) 0 n

pub at-moved : (n : ℕ) (source : ℕ → ℕ) (cells : List CellValue) (k : ℕ) →
    k < n → at (cells_after_move n source cells) k ≡ moved_at n source cells k
unfolding cells_after_move
at-moved n source cells k h = get_or-map-range_with_len (moved_at n source cells) 0 n k k default_blank h (zero-add k)

pub moved_is : (n : ℕ) (source : ℕ → ℕ) (cells ys : List CellValue) → length ys ≡ n →
    ((k : ℕ) → k < n → at ys k ≡ moved_at n source cells k) → ys ≡ cells_after_move n source cells
unfolding cells_after_move
moved_is n source cells ys e f = fill_by_all (moved_at n source cells) ys n default_blank e f

-- ---- Wide glyphs

-- After a move, a cell is wide exactly if it was wide and its continuation cell moved along with it (`t`). For a
-- continuation cell, `s` says whether the first cell moved along.
wide_moved : (t s : Bool) (x : CellValue) →
    is_wide (if is_wide x && not t then blank (attrs_of x) else if is_right_half x && not s then default_blank else x)
    ≡ (is_wide x && t)
wide_moved t s (blank attrs) = refl
wide_moved true s (glyph text true attrs) = refl
wide_moved false s (glyph text true attrs) = refl
wide_moved t s (glyph text false attrs) = refl
wide_moved t true right_half = refl
wide_moved t false right_half = refl

right_moved : (t s : Bool) (x : CellValue) →
    is_right_half
    (if is_wide x && not t then blank (attrs_of x) else if is_right_half x && not s then default_blank else x)
    ≡ (is_right_half x && s)
right_moved t s (blank attrs) = refl
right_moved true s (glyph text true attrs) = refl
right_moved false s (glyph text true attrs) = refl
right_moved t s (glyph text false attrs) = refl
right_moved t true right_half = refl
right_moved t false right_half = refl

-- If column j follows column i, column i holds a wide glyph exactly if column j holds a continuation cell.
neighbours : (cells : List CellValue) (i j : ℕ) (room : Bool) → IsPaired cells → room ≡ true →
    (is_wide (at cells i) && (room && (j == i + 1))) ≡ (is_right_half (at cells j) && (j == i + 1))
neighbours cells i j room p r = elim (cases_eq j (i + 1)) [
  | inl same ↦
      let t : is_wide (at cells i) ≡ is_right_half (at cells j) =
      p.halves i ∙ ap (λ (m : ℕ). is_right_half (at cells m)) (sym same) in
      grind (arith, nat_tests)
  | inr other ↦ grind (arith, nat_tests)
]

pub IsPaired-moved : (n : ℕ) (source : ℕ → ℕ) (cells : List CellValue) →
    IsPaired cells → IsPaired (cells_after_move n source cells)
IsPaired-moved n source cells p = record { halves = halves; first = first } where
  wide : (k : ℕ) → k < n →
      is_wide (at (cells_after_move n source cells) k)
      ≡ (is_wide (at cells (source k)) && (nat_lt (k + 1) n && (source (k + 1) == source k + 1)))
  wide k h =
      ap is_wide (at-moved n source cells k h)
      ∙ wide_moved (nat_lt (k + 1) n && (source (k + 1) == source k + 1))
      (source k == source (k - 1) + 1) (at cells (source k))

  right : (k : ℕ) → k < n →
      is_right_half (at (cells_after_move n source cells) k)
      ≡ (is_right_half (at cells (source k)) && (source k == source (k - 1) + 1))
  right k h =
      ap is_right_half (at-moved n source cells k h)
      ∙ right_moved (nat_lt (k + 1) n && (source (k + 1) == source k + 1))
      (source k == source (k - 1) + 1) (at cells (source k))

  past : (k : ℕ) → n ≤ k → at (cells_after_move n source cells) k ≡ default_blank
  past k h = let l = length-moved n source cells in at-past (cells_after_move n source cells) k (omega arith)

  halves : (k : ℕ) → is_wide (at (cells_after_move n source cells) k) ≡ is_right_half (at (cells_after_move n source cells) (k + 1))
  halves k = elim (cases_lt (k + 1) n) [
    | inl lt ↦
        let i : k + 1 - 1 ≡ k = omega arith in
        let r : is_right_half (at (cells_after_move n source cells) (k + 1))
        ≡ (is_right_half (at cells (source (k + 1))) && (source (k + 1) == source k + 1)) =
        right (k + 1) lt
        ∙ ap (λ (m : ℕ). is_right_half (at cells (source (k + 1))) && (source (k + 1) == source m + 1)) i in
        let t : nat_lt (k + 1) n ≡ true = grind (arith, nat_tests) in
        wide k (omega arith) ∙ (neighbours cells (source k) (source (k + 1)) (nat_lt (k + 1) n) p t ∙ sym r)
    | inr ge ↦
        let r : is_right_half (at (cells_after_move n source cells) (k + 1)) ≡ false = ap is_right_half (past (k + 1) ge) in
        elim (cases_lt k n) [
          | inl lt ↦ let w = wide k lt in grind (arith, nat_tests)
          | inr over ↦ ap is_wide (past k over) ∙ sym r
        ]
  ]

  first : is_right_half (at (cells_after_move n source cells) 0) ≡ false
  first = elim (cases_lt 0 n) [
    | inl lt ↦
        let r : is_right_half (at (cells_after_move n source cells) 0)
        ≡ (is_right_half (at cells (source 0)) && (source 0 == source 0 + 1)) = right 0 lt in
        grind (arith, nat_tests)
    | inr over ↦ ap is_right_half (past 0 over)
  ]

-- ---- Valid cells

pub IsCell-at : (cells : List CellValue) (k : ℕ) → All IsCell cells → IsCell (at cells k)
IsCell-at cells k all = elim (cases_lt k (length cells)) [
  | inl lt ↦ All-get_or IsCell cells k default_blank lt all
  | inr past ↦ subst IsCell (sym (at-past cells k past)) tt
]

pub All-moved : (n : ℕ) (source : ℕ → ℕ) (cells : List CellValue) → All IsCell cells → All IsCell (cells_after_move n source cells)
All-moved n source cells all = All-from_get_or IsCell (cells_after_move n source cells) default_blank each where
  each : (k : ℕ) → k < length (cells_after_move n source cells) → IsCell (at (cells_after_move n source cells) k)
  each k h =
      let l = length-moved n source cells in
      let x = at cells (source k) in
      let here = is_wide x && not (nat_lt (k + 1) n && (source (k + 1) == source k + 1)) in
      let there = is_right_half x && not (source k == source (k - 1) + 1) in
      subst IsCell (sym (at-moved n source cells k (omega arith)))
      (cond_both here (blank (attrs_of x)) (if there then default_blank else x) IsCell (λ _. tt)
      (λ _. cond_both there default_blank x IsCell (λ _. tt) (λ _. IsCell-at cells (source k) all)))

-- ---- The number of columns

pub resized-same : (n : ℕ) (cells : List CellValue) → length cells ≡ n → IsPaired cells → cells_after_resize n cells ≡ cells
unfolding cells_after_resize
resized-same n cells e p = sym (moved_is n (λ k. k) cells cells e same) where
  same : (k : ℕ) → k < n → at cells k ≡ moved_at n (λ k. k) cells k
  same k h =
      let f : k ≡ 0 → is_right_half (at cells k) ≡ false =
      λ z. ap (λ (j : ℕ). is_right_half (at cells j)) z ∙ p.first in
      let w : n ≤ k + 1 → is_wide (at cells k) ≡ false =
      λ past. p.halves k ∙ ap is_right_half (at-past cells (k + 1) (omega arith)) in
      elim (cases_lt (k + 1) n) [
        | inl lt ↦
            elim (cases_eq k 0) [ inl z ↦ let r = f z in grind (arith, nat_tests) | inr pos ↦ grind (arith, nat_tests) ]
        | inr ge ↦ let v =
            w ge in elim (cases_eq k 0)
            [ inl z ↦ let r = f z in grind (arith, nat_tests) | inr pos ↦ grind (arith, nat_tests) ]
      ]

-- ---- Inserted, deleted, resized

pub length-inserted : (c n : ℕ) (cells : List CellValue) → length (cells_after_insert c n cells) ≡ length cells
unfolding cells_after_insert
length-inserted c n cells = length-moved (length cells) (insert_source (length cells) (insert_column c cells) n) cells

pub IsPaired-inserted : (c n : ℕ) (cells : List CellValue) → IsPaired cells → IsPaired (cells_after_insert c n cells)
unfolding cells_after_insert
IsPaired-inserted c n cells p =
    IsPaired-moved (length cells) (insert_source (length cells) (insert_column c cells) n) cells p

pub All-inserted : (c n : ℕ) (cells : List CellValue) → All IsCell cells → All IsCell (cells_after_insert c n cells)
unfolding cells_after_insert
All-inserted c n cells all = All-moved (length cells) (insert_source (length cells) (insert_column c cells) n) cells all

pub length-deleted : (c n : ℕ) (cells : List CellValue) → length (cells_after_delete c n cells) ≡ length cells
unfolding cells_after_delete
length-deleted c n cells = length-moved (length cells) (delete_source c n) cells

pub IsPaired-deleted : (c n : ℕ) (cells : List CellValue) → IsPaired cells → IsPaired (cells_after_delete c n cells)
unfolding cells_after_delete
IsPaired-deleted c n cells p = IsPaired-moved (length cells) (delete_source c n) cells p

pub All-deleted : (c n : ℕ) (cells : List CellValue) → All IsCell cells → All IsCell (cells_after_delete c n cells)
unfolding cells_after_delete
All-deleted c n cells all = All-moved (length cells) (delete_source c n) cells all

pub length-resized : (n : ℕ) (cells : List CellValue) → length (cells_after_resize n cells) ≡ n
unfolding cells_after_resize
length-resized n cells = length-moved n (λ k. k) cells

pub IsPaired-resized : (n : ℕ) (cells : List CellValue) → IsPaired cells → IsPaired (cells_after_resize n cells)
unfolding cells_after_resize
IsPaired-resized n cells p = IsPaired-moved n (λ k. k) cells p

pub All-resized : (n : ℕ) (cells : List CellValue) → All IsCell cells → All IsCell (cells_after_resize n cells)
unfolding cells_after_resize
All-resized n cells all = All-moved n (λ k. k) cells all

-- ---- Rows

pub IsRow-inserted_row : (width c n : ℕ) (row : RowValue) → IsRow width row → IsRow width (inserted_row c n row)
IsRow-inserted_row width c n row r = record {
  columns = length-inserted c n row.cells ∙ r.columns;
  paired = IsPaired-inserted c n row.cells r.paired;
  flagged = λ h. cc;
  sound = All-inserted c n row.cells r.sound;
}

pub IsRow-deleted_row : (width c n : ℕ) (row : RowValue) → IsRow width row → IsRow width (deleted_row c n row)
IsRow-deleted_row width c n row r = record {
  columns = length-deleted c n row.cells ∙ r.columns;
  paired = IsPaired-deleted c n row.cells r.paired;
  flagged = λ h. cc;
  sound = All-deleted c n row.cells r.sound;
}

pub IsRow-resized_row : (width n : ℕ) (row : RowValue) → IsRow width row → IsRow n (resized_row n row)
IsRow-resized_row width n row r = record {
  columns = length-resized n row.cells;
  paired = IsPaired-resized n row.cells r.paired;
  flagged = λ h.
      let both : (row.wrapped ≡ true) × ((length row.cells == n) ≡ true) =
      and_parts row.wrapped (length row.cells == n) h in
      let e : length row.cells ≡ n = eqb-true (length row.cells) n both.1 in
      subst (λ (cells : List CellValue). ends_blank cells ≡ false)
      (sym (resized-same n row.cells e r.paired)) (r.flagged both.0);
  sound = All-resized n row.cells r.sound;
}

-- A row resized to its own width is unchanged.
pub resized_row-same : (n : ℕ) (row : RowValue) → length row.cells ≡ n → IsPaired row.cells → resized_row n row ≡ row
resized_row-same n row e p =
    let t : (length row.cells == n) ≡ true = grind (arith, nat_tests) in
    let f : (row.wrapped && (length row.cells == n)) ≡ row.wrapped = rw t (kept row.wrapped) in
    λ i. record { cells = resized-same n row.cells e p i; wrapped = f i } where
      kept : (b : Bool) → (b && true) ≡ b
      kept true = refl
      kept false = refl

-- A row resized to a different width is not wrapped.
pub resized_row-other : (n : ℕ) (row : RowValue) (cells : List CellValue) → cells ≡ cells_after_resize n row.cells →
    (length row.cells ≡ n → ⊥) → record { cells = cells; wrapped = false } ≡ resized_row n row
resized_row-other n row cells e d =
    let t : (length row.cells == n) ≡ false = grind (arith, nat_tests) in
    let f : false ≡ (row.wrapped && (length row.cells == n)) = sym (and_right row.wrapped (length row.cells == n) t) in
    λ i. record { cells = e i; wrapped = f i }
