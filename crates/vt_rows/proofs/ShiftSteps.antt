-- The code's steps for a shift of columns give the result that the definition of the shift says.
use Rattle.std.proofs.Common.{◌≡◌, ℕ, ◌+◌, ◌-◌, ◌<◌, ◌≤◌, ◌==◌, ◌&&◌, nat_lt, not, Bool, true, false}
use Rattle.std.proofs.Common.{List, ◌++◌, length, min, refl, inl, inr, sym, ap, ◌∙◌, arith}
use Rattle.std.specs.Prelude.{◌⊎◌, if◌then◌else◌, slice_set}
use borrow.Rule.Slice.PartMut.{put_mid}
use Rattle.std.proofs.lemmas.Bool.{cases_lt, cases_eq, false_from_ne_true}
use Rattle.std.proofs.lemmas.Bool.Decides.{nat_tests}
use Rattle.std.proofs.lemmas.List.{length-append, get_or_append_left, get_or-append_right}
use Rattle.std.proofs.lemmas.List.{length-set, length-replicate, get_or-replicate}
use Rattle.vt_cells.specs.Attrs.{default_attrs}
use Rattle.vt_cells.specs.Cell.{CellValue, blank, glyph, right_half, default_blank, is_wide, is_right_half, attrs_of}
use Rattle.vt_rows.specs.Cells.{at, IsPaired, blanks, cells_after_move, moved_at, cells_after_insert, cells_after_delete}
use Rattle.vt_rows.specs.Cells.{cells_after_resize, insert_source, delete_source, insert_column}
use Rattle.vt_rows.specs.Internals.{left_blanked, right_replaced, end_blanked}
use Rattle.vt_rows.proofs.Edits.{at-past, at-blanks, not_both, wide_mended}
use Rattle.vt_rows.proofs.Steps.{HasRoom-paired, at-set, at-put_mid, length-put_mid}
use Rattle.vt_rows.proofs.Steps.{at-left_blanked, at-right_replaced, HasRoom-left_blanked}
use Rattle.vt_rows.proofs.Moves.{moved_is}

pub at-end_blanked : (cells : List CellValue) (k n : ℕ) → length cells ≡ n →
    at (end_blanked cells) k
    ≡ (if (k + 1 == n) && is_wide (at cells k) then blank (attrs_of (at cells k)) else at cells k)
unfolding end_blanked
at-end_blanked cells k n e = elim (cases_lt 0 n) [
  | inr none ↦
      let a = at-past cells (length cells - 1) (omega arith) in
      let f : is_wide (at cells (length cells - 1)) ≡ false = ap is_wide a in
      rw f (grind (arith, nat_tests))
  | inl some ↦ by_half (is_wide (at cells (length cells - 1))) refl some
] where
  by_half : (b : Bool) → is_wide (at cells (length cells - 1)) ≡ b → 0 < n →
      at (if b then slice_set cells (length cells - 1) (blank (attrs_of (at cells (length cells - 1)))) else cells) k
      ≡ (if (k + 1 == n) && is_wide (at cells k) then blank (attrs_of (at cells k)) else at cells k)
  by_half b w some = elim (cases_eq k (length cells - 1)) [
    | inl last ↦
        let v : is_wide (at cells k) ≡ b = ap (λ (j : ℕ). is_wide (at cells j)) last ∙ w in
        let i : k + 1 ≡ n = omega arith in
        let t : blank (attrs_of (at cells (length cells - 1))) ≡ blank (attrs_of (at cells k)) =
        ap (λ (j : ℕ). blank (attrs_of (at cells j))) (sym last) in
        here b v i t
        (at-set cells (length cells - 1) k (blank (attrs_of (at cells (length cells - 1)))) (omega arith)) last
    | inr other ↦
        let d : k + 1 ≡ n → ⊥ = λ q. omega arith in
        elsewhere b d
        (at-set cells (length cells - 1) k (blank (attrs_of (at cells (length cells - 1)))) (omega arith)) other
  ]
    where
      here : (b : Bool) → is_wide (at cells k) ≡ b → k + 1 ≡ n →
          blank (attrs_of (at cells (length cells - 1))) ≡ blank (attrs_of (at cells k)) →
          at (slice_set cells (length cells - 1) (blank (attrs_of (at cells (length cells - 1))))) k
          ≡ (if k == length cells - 1 then blank (attrs_of (at cells (length cells - 1))) else at cells k) →
          k ≡ length cells - 1 →
          at
          (if b then slice_set cells (length cells - 1) (blank (attrs_of (at cells (length cells - 1)))) else cells) k
          ≡ (if (k + 1 == n) && is_wide (at cells k) then blank (attrs_of (at cells k)) else at cells k)
      here true v i t s last = grind (arith, nat_tests)
      here false v i t s last = grind (arith, nat_tests)

      elsewhere : (b : Bool) → (k + 1 ≡ n → ⊥) →
          at (slice_set cells (length cells - 1) (blank (attrs_of (at cells (length cells - 1))))) k
          ≡ (if k == length cells - 1 then blank (attrs_of (at cells (length cells - 1))) else at cells k) →
          (k ≡ length cells - 1 → ⊥) →
          at
          (if b then slice_set cells (length cells - 1) (blank (attrs_of (at cells (length cells - 1)))) else cells) k
          ≡ (if (k + 1 == n) && is_wide (at cells k) then blank (attrs_of (at cells k)) else at cells k)
      elsewhere true d s other = grind (arith, nat_tests)
      elsewhere false d s other = grind (arith, nat_tests)

pub length-end_blanked : (cells : List CellValue) → length (end_blanked cells) ≡ length cells
unfolding end_blanked
length-end_blanked cells = by_half (is_wide (at cells (length cells - 1))) where
  by_half : (b : Bool) →
      length (if b then slice_set cells (length cells - 1) (blank (attrs_of (at cells (length cells - 1)))) else cells)
      ≡ length cells
  by_half true = length-set cells (length cells - 1) (blank (attrs_of (at cells (length cells - 1))))
  by_half false = refl

pub end_blanked-none : (cells : List CellValue) →
    is_wide (at cells (length cells - 1)) ≡ false → end_blanked cells ≡ cells
unfolding end_blanked
end_blanked-none cells e = rw e refl

-- If a move separates the cells of a wide glyph only in the last column, blanking that glyph there gives the cell that
-- the definition of a move requires.
settle : (last t s : Bool) (x : CellValue) → (last ≡ true → t ≡ false) →
    (last ≡ false → is_wide x ≡ true → t ≡ true) → (is_right_half x ≡ true → s ≡ true) →
    (if last && is_wide x then blank (attrs_of x) else x)
    ≡ (if is_wide x && not t then blank (attrs_of x) else if is_right_half x && not s then default_blank else x)
settle last t s (blank attrs) a b r = grind (arith)
settle true t s (glyph text true attrs) a b r = let e = a refl in grind (arith)
settle false t s (glyph text true attrs) a b r = let e = b refl refl in grind (arith)
settle last t s (glyph text false attrs) a b r = grind (arith)
settle last t s right_half a b r = let e = r refl in grind (arith)

-- ---- Cut or extended

pub resized_is : (n : ℕ) (cells ys : List CellValue) → IsPaired cells → length ys ≡ n →
    ((k : ℕ) → k < n → at ys k ≡ at cells k) → end_blanked ys ≡ cells_after_resize n cells
unfolding cells_after_resize
resized_is n cells ys p e f = moved_is n (λ k. k) cells (end_blanked ys) (length-end_blanked ys ∙ e) column where
  column : (k : ℕ) → k < n → at (end_blanked ys) k ≡ moved_at n (λ k. k) cells k
  column k h =
      at-end_blanked ys k n e
      ∙ (ap (λ (x : CellValue). if (k + 1 == n) && is_wide x then blank (attrs_of x) else x) (f k h)
      ∙ settle (k + 1 == n) (nat_lt (k + 1) n && (k + 1 == k + 1)) (k == k - 1 + 1) (at cells k)
      (λ l. grind (arith, nat_tests))
      (λ l w. grind (arith, nat_tests))
      (λ r. elim (cases_eq k 0) [
        | inl z ↦ let q : is_right_half (at cells k) ≡ false =
            ap (λ (j : ℕ). is_right_half (at cells j)) z ∙ p.first in cc
        | inr pos ↦ grind (arith, nat_tests)
      ]))

at-grown : (n k : ℕ) (cells : List CellValue) → at (cells ++ blanks default_attrs n) k ≡ at cells k
at-grown n k cells = elim (cases_lt k (length cells)) [
  | inl lt ↦ get_or_append_left cells (blanks default_attrs n) default_blank k lt
  | inr ge ↦
      get_or-append_right cells (blanks default_attrs n) (length cells) k default_blank refl ge
      ∙ (at-blanks n (k - length cells) ∙ sym (at-past cells k ge))
]

-- Appending default blanks to a row gives the row resized to a greater width.
pub grown_is : (n : ℕ) (cells : List CellValue) → IsPaired cells → length cells ≤ n →
    cells ++ blanks default_attrs (n - length cells) ≡ cells_after_resize n cells
grown_is n cells p le =
    let ys = cells ++ blanks default_attrs (n - length cells) in
    let l : length ys ≡ n = omega (
      arith,
      length-append cells (blanks default_attrs (n - length cells)),
      length-replicate (n - length cells) default_blank,
    ) in
    let w : is_wide (at ys (length ys - 1)) ≡ false = false_from_ne_true (is_wide (at ys (length ys - 1))) (λ t.
    let v : is_wide (at cells (length ys - 1)) ≡ true =
    ap is_wide (sym (at-grown (n - length cells) (length ys - 1) cells)) ∙ t in
    let more : length ys - 1 + 1 < length cells = HasRoom-paired (length ys - 1) cells p v in
    absurd (omega arith)) in
    sym (end_blanked-none ys w) ∙ resized_is n cells ys p l (λ k h. at-grown (n - length cells) k cells)

-- ---- Inserted

pub inserted_after : (c : ℕ) (cells : List CellValue) → IsPaired cells →
    is_right_half (at cells (insert_column c cells)) ≡ false
inserted_after c cells p = by_half (is_right_half (at cells c)) refl where
  by_half : (b : Bool) → is_right_half (at cells c) ≡ b → is_right_half (at cells (if b then c + 1 else c)) ≡ false
  by_half true e = let h = p.halves c in let n = not_both (at cells c) in grind (arith)
  by_half false e = e

-- If each cell has moved to where an insertion puts it, blanking a wide glyph that is split at the end completes the
-- insertion.
pub insert_steps : (s n : ℕ) (cells ys : List CellValue) → IsPaired cells →
    s ≤ length cells → is_right_half (at cells s) ≡ false → length ys ≡ length cells →
    ((k : ℕ) → k < length cells → at ys k ≡ at cells (insert_source (length cells) s n k)) →
    end_blanked ys ≡ cells_after_move (length cells) (insert_source (length cells) s n) cells
insert_steps s n cells ys p le rs e f =
    moved_is (length cells) (insert_source (length cells) s n)
    cells (end_blanked ys) (length-end_blanked ys ∙ e) column where
      behind : (k : ℕ) → k < length cells → (k + 1 == length cells) ≡ false →
          is_wide (at cells (insert_source (length cells) s n k)) ≡ true →
          (nat_lt (k + 1) (length cells)
          && (insert_source (length cells) s n (k + 1) == insert_source (length cells) s n k + 1))
          ≡ true
      behind k h l w = elim (cases_lt k s) [
        | inl lt ↦
            let i : insert_source (length cells) s n k ≡ k = grind (arith, nat_tests) in
            let v : is_wide (at cells k) ≡ true = ap (λ (j : ℕ). is_wide (at cells j)) (sym i) ∙ w in
            elim (cases_eq (k + 1) s) [
              | inl last ↦ let o : is_wide (at cells k) ≡ false =
                  p.halves k ∙ (ap (λ (j : ℕ). is_right_half (at cells j)) last ∙ rs) in cc
              | inr more ↦ grind (arith, nat_tests)
            ]
        | inr ge ↦ elim (cases_lt k (s + n)) [
          | inl new ↦
              let i : insert_source (length cells) s n k ≡ length cells = grind (arith, nat_tests) in
              let o : is_wide (at cells (insert_source (length cells) s n k)) ≡ false =
              ap (λ (j : ℕ). is_wide (at cells j)) i ∙ ap is_wide (at-past cells (length cells) (omega arith)) in
              cc
          | inr far ↦ grind (arith, nat_tests)
        ]
      ]

      before : (k : ℕ) → k < length cells → is_right_half (at cells (insert_source (length cells) s n k)) ≡ true →
          (insert_source (length cells) s n k == insert_source (length cells) s n (k - 1) + 1) ≡ true
      before k h r = elim (cases_lt k s) [
        | inl lt ↦
            let i : insert_source (length cells) s n k ≡ k = grind (arith, nat_tests) in
            elim (cases_eq k 0) [
              | inl z ↦
                  let o : is_right_half (at cells (insert_source (length cells) s n k)) ≡ false =
                  ap (λ (j : ℕ). is_right_half (at cells j)) i
                  ∙ (ap (λ (j : ℕ). is_right_half (at cells j)) z ∙ p.first) in
                  cc
              | inr pos ↦ grind (arith, nat_tests)
            ]
        | inr ge ↦ elim (cases_lt k (s + n)) [
          | inl new ↦
              let i : insert_source (length cells) s n k ≡ length cells = grind (arith, nat_tests) in
              let o : is_right_half (at cells (insert_source (length cells) s n k)) ≡ false =
              ap (λ (j : ℕ). is_right_half (at cells j)) i
              ∙ ap is_right_half (at-past cells (length cells) (omega arith)) in
              cc
          | inr far ↦ elim (cases_eq k (s + n)) [
            | inl edge ↦
                let i : insert_source (length cells) s n k ≡ s = grind (arith, nat_tests) in
                let o : is_right_half (at cells (insert_source (length cells) s n k)) ≡ false =
                ap (λ (j : ℕ). is_right_half (at cells j)) i ∙ rs in
                cc
            | inr more ↦ grind (arith, nat_tests)
          ]
        ]
      ]

      column : (k : ℕ) → k < length cells →
          at (end_blanked ys) k ≡ moved_at (length cells) (insert_source (length cells) s n) cells k
      column k h =
          at-end_blanked ys k (length cells) e
          ∙ (ap (λ (x : CellValue). if (k + 1 == length cells) && is_wide x then blank (attrs_of x) else x) (f k h)
          ∙ settle (k + 1 == length cells)
          (nat_lt (k + 1) (length cells)
          && (insert_source (length cells) s n (k + 1) == insert_source (length cells) s n k + 1))
          (insert_source (length cells) s n k == insert_source (length cells) s n (k - 1) + 1)
          (at cells (insert_source (length cells) s n k))
          (λ l. grind (arith, nat_tests)) (λ l w. behind k h l w) (λ r. before k h r))

-- The cell at each column after the copy and the blanks.
inserted_column : (s n m k : ℕ) (cells slid new : List CellValue) → s ≤ length cells →
    m ≡ min n (length cells - s) → length slid ≡ length cells → k < length cells →
    ((j : ℕ) → j < s → at slid j ≡ at cells j) →
    ((j : ℕ) → s + m ≤ j → j < length cells → at slid j ≡ at cells (s + (j - (s + m)))) →
    new ≡ blanks default_attrs m →
    at (put_mid s m slid new) k ≡ at cells (insert_source (length cells) s n k)
inserted_column s n m k cells slid new le e l h before behind b =
    let size : length new ≡ m = ap length b ∙ length-replicate m default_blank in
    let fits : s + m ≤ length slid = omega arith in
    at-put_mid s m k slid new size fits ∙ elim (cases_lt k s) [
      | inl lt ↦
          let i : k ≡ insert_source (length cells) s n k = grind (arith, nat_tests) in
          let a : at slid k ≡ at cells (insert_source (length cells) s n k) =
          before k lt ∙ ap (λ (j : ℕ). at cells j) i in
          grind (arith, nat_tests)
      | inr ge ↦ elim (cases_lt k (s + m)) [
        | inl new_one ↦
            let i : length cells ≡ insert_source (length cells) s n k = grind (arith, nat_tests) in
            let a : at new (k - s) ≡ default_blank =
            ap (λ (ys : List CellValue). at ys (k - s)) b
            ∙ get_or-replicate m (k - s) default_blank default_blank (omega arith) in
            let o : at cells (insert_source (length cells) s n k) ≡ default_blank =
            ap (λ (j : ℕ). at cells j) (sym i) ∙ at-past cells (length cells) (omega arith) in
            grind (arith, nat_tests)
        | inr far ↦
            let same : m ≡ n = omega arith in
            let i : s + (k - (s + m)) ≡ insert_source (length cells) s n k = grind (arith, nat_tests) in
            let a : at slid k ≡ at cells (insert_source (length cells) s n k) =
            behind k far h ∙ ap (λ (j : ℕ). at cells j) i in
            grind (arith, nat_tests)
      ]
    ]

pub insert_code : (c n s m : ℕ) (cells slid new : List CellValue) → IsPaired cells →
    s ≡ insert_column c cells → s ≤ length cells → m ≡ min n (length cells - s) → length slid ≡ length cells →
    ((j : ℕ) → j < s → at slid j ≡ at cells j) →
    ((j : ℕ) → s + m ≤ j → j < length cells → at slid j ≡ at cells (s + (j - (s + m)))) →
    new ≡ blanks default_attrs m →
    end_blanked (put_mid s m slid new) ≡ cells_after_insert c n cells
unfolding cells_after_insert
insert_code c n s m cells slid new p is le e l before behind b =
    let rs : is_right_half (at cells s) ≡ false =
    ap (λ (j : ℕ). is_right_half (at cells j)) is ∙ inserted_after c cells p in
    let size : length new ≡ m = ap length b ∙ length-replicate m default_blank in
    let fits : s + m ≤ length slid = omega arith in
    insert_steps s n cells (put_mid s m slid new) p le rs (length-put_mid s m slid new size fits ∙ l)
    (λ k h. inserted_column s n m k cells slid new le e l h before behind b)
    ∙ ap (λ (j : ℕ). cells_after_move (length cells) (insert_source (length cells) j n) cells) is

-- ---- Deleted

pub deleted-none : (c n : ℕ) (cells : List CellValue) → IsPaired cells →
    c ≤ length cells → min n (length cells - c) ≡ 0 → cells ≡ cells_after_delete c n cells
unfolding cells_after_delete
deleted-none c n cells p le e = moved_is (length cells) (delete_source c n) cells cells refl column where
  nothing : (n ≡ 0) ⊎ (c ≡ length cells)
  nothing = elim (cases_eq n 0) [ inl z ↦ inl z | inr some ↦ inr (omega arith) ]

  stays : (k : ℕ) → k < length cells → delete_source c n k ≡ k
  stays k h = elim nothing [ inl z ↦ grind (arith, nat_tests) | inr z ↦ grind (arith, nat_tests) ]

  behind : (k : ℕ) → k < length cells → is_wide (at cells (delete_source c n k)) ≡ true →
      (nat_lt (k + 1) (length cells) && (delete_source c n (k + 1) == delete_source c n k + 1)) ≡ true
  behind k h w =
      let v : is_wide (at cells k) ≡ true = ap (λ (j : ℕ). is_wide (at cells j)) (sym (stays k h)) ∙ w in
      let more : k + 1 < length cells = HasRoom-paired k cells p v in
      let a = stays k h in
      let b = stays (k + 1) more in
      grind (arith, nat_tests)

  before : (k : ℕ) → k < length cells → is_right_half (at cells (delete_source c n k)) ≡ true →
      (delete_source c n k == delete_source c n (k - 1) + 1) ≡ true
  before k h r = elim (cases_eq k 0) [
    | inl z ↦
        let o : is_right_half (at cells (delete_source c n k)) ≡ false =
        ap (λ (j : ℕ). is_right_half (at cells j)) (stays k h ∙ z) ∙ p.first in
        cc
    | inr pos ↦
        let a = stays k h in
        let b = stays (k - 1) (omega arith) in
        grind (arith, nat_tests)
  ]

  column : (k : ℕ) → k < length cells → at cells k ≡ moved_at (length cells) (delete_source c n) cells k
  column k h =
      ap (λ (j : ℕ). at cells j) (sym (stays k h))
      ∙ settle false (nat_lt (k + 1) (length cells) && (delete_source c n (k + 1) == delete_source c n k + 1))
      (delete_source c n k == delete_source c n (k - 1) + 1) (at cells (delete_source c n k))
      (λ l. cc) (λ l w. behind k h w) (λ r. before k h r)

-- If a move separates the cells of a wide glyph only at the first column after a deletion, blanking that column gives
-- the cell that the definition of a move requires.
settle_opened : (first t s : Bool) (x : CellValue) → (is_wide x ≡ true → t ≡ true) →
    (first ≡ true → s ≡ false) → (first ≡ false → is_right_half x ≡ true → s ≡ true) →
    (if first && is_right_half x then default_blank else x)
    ≡ (if is_wide x && not t then blank (attrs_of x) else if is_right_half x && not s then default_blank else x)
settle_opened first t s (blank attrs) a b r = grind (arith)
settle_opened first t s (glyph text true attrs) a b r = let e = a refl in grind (arith)
settle_opened first t s (glyph text false attrs) a b r = grind (arith)
settle_opened true t s right_half a b r = let e = b refl in grind (arith)
settle_opened false t s right_half a b r = let e = r refl refl in grind (arith)

-- The cell at each column after the wide glyphs that a deletion splits are blanked.
repaired_column : (c m j : ℕ) (cells : List CellValue) → IsPaired cells → c < length cells → 0 < m →
    at (right_replaced (c + m - 1) default_blank (left_blanked c cells)) j
    ≡ (if (j == c + m - 1 + 1) && is_wide (at cells (c + m - 1)) then default_blank
    else if (j + 1 == c) && is_wide (at cells j) then blank (attrs_of (at cells j)) else at cells j)
repaired_column c m j cells p h pos =
    let q : is_wide (at (left_blanked c cells) (c + m - 1)) ≡ is_wide (at cells (c + m - 1)) =
    ap is_wide (at-left_blanked c (c + m - 1) cells p h)
    ∙ (wide_mended (c + m - 1 + 1 == c) (at cells (c + m - 1)) ∙ grind (arith, nat_tests)) in
    at-right_replaced (c + m - 1) j default_blank (left_blanked c cells) (HasRoom-left_blanked c (c + m - 1) cells p h)
    ∙ rw (q, at-left_blanked c j cells p h) refl

delete_left : (c n m k : ℕ) (cells : List CellValue) → IsPaired cells → c < length cells → 0 < n → k < c →
    (if (k + 1 == c) && is_wide (at cells k) then blank (attrs_of (at cells k)) else at cells k)
    ≡ moved_at (length cells) (delete_source c n) cells k
delete_left c n m k cells p h some lt =
    let i : delete_source c n k ≡ k = grind (arith, nat_tests) in
    ap (λ (j : ℕ). if (k + 1 == c) && is_wide (at cells j) then blank (attrs_of (at cells j)) else at cells j) (sym i)
    ∙ settle (k + 1 == c) (nat_lt (k + 1) (length cells) && (delete_source c n (k + 1) == delete_source c n k + 1))
    (delete_source c n k == delete_source c n (k - 1) + 1) (at cells (delete_source c n k))
    (λ l. grind (arith, nat_tests))
    (λ l w. grind (arith, nat_tests))
    (λ r. elim (cases_eq k 0) [
      | inl z ↦ let o : is_right_half (at cells (delete_source c n k)) ≡ false =
          ap (λ (j : ℕ). is_right_half (at cells j)) (i ∙ z) ∙ p.first in cc
      | inr pos ↦ grind (arith, nat_tests)
    ])

delete_right : (c n k : ℕ) (cells : List CellValue) → IsPaired cells → 0 < n → c ≤ k →
    (if (k == c) && is_right_half (at cells (delete_source c n k))
    then default_blank else at cells (delete_source c n k))
    ≡ moved_at (length cells) (delete_source c n) cells k
delete_right c n k cells p some ge =
    let i : delete_source c n k ≡ k + n = grind (arith, nat_tests) in
    settle_opened (k == c) (nat_lt (k + 1) (length cells) && (delete_source c n (k + 1) == delete_source c n k + 1))
    (delete_source c n k == delete_source c n (k - 1) + 1) (at cells (delete_source c n k))
    (λ w. let more : delete_source c n k + 1 < length cells =
    HasRoom-paired (delete_source c n k) cells p w in grind (arith, nat_tests))
    (λ f. grind (arith, nat_tests))
    (λ f r. grind (arith, nat_tests))

pub delete_code : (c n m : ℕ) (cells slid new : List CellValue) → IsPaired cells →
    c ≤ length cells → m ≡ min n (length cells - c) → 0 < m → length slid ≡ length cells →
    ((j : ℕ) → j < c → at slid j ≡ at (right_replaced (c + m - 1) default_blank (left_blanked c cells)) j) →
    ((j : ℕ) → c ≤ j → j < length cells - m →
    at slid j ≡ at (right_replaced (c + m - 1) default_blank (left_blanked c cells)) (c + m + (j - c))) →
    new ≡ blanks default_attrs m →
    put_mid (length cells - m) m slid new ≡ cells_after_delete c n cells
unfolding cells_after_delete
delete_code c n m cells slid new p le e pos l before behind b =
    let size : length new ≡ m = ap length b ∙ length-replicate m default_blank in
    let fits : length cells - m + m ≤ length slid = omega arith in
    moved_is (length cells) (delete_source c n) cells (put_mid (length cells - m) m slid new)
    (length-put_mid (length cells - m) m slid new size fits ∙ l) column where
      source : (j i : ℕ) → at slid j ≡ at (right_replaced (c + m - 1) default_blank (left_blanked c cells)) i →
          at slid j
          ≡ (if (i == c + m - 1 + 1) && is_wide (at cells (c + m - 1)) then default_blank
          else if (i + 1 == c) && is_wide (at cells i) then blank (attrs_of (at cells i)) else at cells i)
      source j i q =
          q ∙ repaired_column c m i cells p (omega arith) pos

      left : (k : ℕ) → k < c → at slid k ≡ moved_at (length cells) (delete_source c n) cells k
      left k lt =
          let s = source k k (before k lt) in
          let d = delete_left c n m k cells p (omega arith) (omega arith) lt in
          let f : (k == c + m - 1 + 1) ≡ false = grind (arith, nat_tests) in
          s ∙ (rw f refl ∙ d)

      right : (k : ℕ) → c ≤ k → k < length cells - m → at slid k ≡ moved_at (length cells) (delete_source c n) cells k
      right k ge lt =
          let i : c + m + (k - c) ≡ delete_source c n k = grind (arith, nat_tests) in
          let g : delete_source c n k ≡ k + n = grind (arith, nat_tests) in
          let s = source k (delete_source c n k)
          (behind k ge lt
          ∙ ap (λ (x : ℕ). at (right_replaced (c + m - 1) default_blank (left_blanked c cells)) x) i) in
          let d = delete_right c n k cells p (omega arith) ge in
          let f : (delete_source c n k + 1 == c) ≡ false = grind (arith, nat_tests) in
          s ∙ (rw f (first k ge lt g) ∙ d)
        where
          first : (k : ℕ) → c ≤ k → k < length cells - m → delete_source c n k ≡ k + n →
              (if (delete_source c n k == c + m - 1 + 1) && is_wide (at cells (c + m - 1))
              then default_blank else at cells (delete_source c n k))
              ≡ (if (k == c) && is_right_half (at cells (delete_source c n k))
              then default_blank else at cells (delete_source c n k))
          first k ge lt g = elim (cases_eq k c) [
            | inl same ↦
                let i : c + m - 1 + 1 ≡ delete_source c n k = omega arith in
                let v : is_wide (at cells (c + m - 1)) ≡ is_right_half (at cells (delete_source c n k)) =
                p.halves (c + m - 1) ∙ ap (λ (j : ℕ). is_right_half (at cells j)) i in
                grind (arith, nat_tests)
            | inr other ↦ grind (arith, nat_tests)
          ]

      over : (k : ℕ) → length cells - m ≤ k → k < length cells →
          default_blank ≡ moved_at (length cells) (delete_source c n) cells k
      over k ge lt =
          let x : at cells (delete_source c n k) ≡ default_blank = at-past cells (delete_source c n k) (far k ge lt) in
          let w : is_wide (at cells (delete_source c n k)) ≡ false = ap is_wide x in
          let r : is_right_half (at cells (delete_source c n k)) ≡ false = ap is_right_half x in
          sym x
          ∙ settle false (nat_lt (k + 1) (length cells) && (delete_source c n (k + 1) == delete_source c n k + 1))
          (delete_source c n k == delete_source c n (k - 1) + 1) (at cells (delete_source c n k))
          (λ q. cc) (λ q v. cc) (λ v. cc)
        where
          far : (k : ℕ) → length cells - m ≤ k → k < length cells → length cells ≤ delete_source c n k
          far k ge lt = let i : delete_source c n k ≡ k + n = grind (arith, nat_tests) in omega arith

      column : (k : ℕ) → k < length cells →
          at (put_mid (length cells - m) m slid new) k ≡ moved_at (length cells) (delete_source c n) cells k
      column k h =
          let size : length new ≡ m = ap length b ∙ length-replicate m default_blank in
          at-put_mid (length cells - m) m k slid new size (omega arith) ∙ elim (cases_lt k (length cells - m)) [
            | inl lt ↦ elim (cases_lt k c) [
              | inl head ↦ let e = left k head in grind (arith, nat_tests)
              | inr tail ↦ let e = right k tail lt in grind (arith, nat_tests)
            ]
            | inr ge ↦
                let a : at new (k - (length cells - m)) ≡ default_blank =
                ap (λ (ys : List CellValue). at ys (k - (length cells - m))) b
                ∙ get_or-replicate m (k - (length cells - m)) default_blank default_blank (omega arith) in
                let e = over k ge h in
                grind (arith, nat_tests)
          ]
