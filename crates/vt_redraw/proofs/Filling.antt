-- The cells of a row of a picture: the stored cells and the blanks after them.
use Rattle.std.proofs.Common.{min, append-nil, ◌≡◌, ℕ, zero, suc, ◌+◌, ◌-◌, ◌<◌, ◌≤◌, ◌==◌, ◌&&◌}
use Rattle.std.proofs.Common.{nat_lt, not, Bool, true, false, List, [], ◌∷◌, ◌++◌, length, take}
use Rattle.std.proofs.Common.{drop, ⊎_elim, refl, sym, ap, ◌∙◌, arith, Some, None}
use Rattle.std.specs.Prelude.{replicate, if◌then◌else◌}
use Rattle.std.specs.List.{slice_range}
use Rattle.std.proofs.lemmas.Simd.{get_or-chunk}
use Rattle.std.proofs.lemmas.Bool.{cases_lt, cond-true, cond-false}
use Rattle.std.proofs.lemmas.Bool.Decides.{nat_tests}
use Rattle.std.proofs.lemmas.List.{take-append-le, take-replicate, take_all, length-append, length-take}
use Rattle.std.proofs.lemmas.List.{length-take-le, length-replicate, get_or_append_left, get_or-append_right}
use Rattle.std.proofs.lemmas.List.{get_or-take, get_or-replicate, get_or_past}
use Rattle.vt_cells.specs.Cell.{CellValue, blank, glyph, right_half, default_blank}
use Rattle.vt_cells.specs.Cell.{attrs_of, is_glyph, is_wide, is_right_half, same_cell}
use Rattle.vt_cells.specs.Op.{EraseChars, LineFeed, bytes_of_all}
use Rattle.vt_rows.specs.Cells.{IsPaired, at, cells_after_move, moved_at, cells_after_resize, ends_blank}
use Rattle.vt_rows.proofs.Moves.{moved_is, length-resized}
use Rattle.vt_rows.specs.Row.{RowValue}
use Rattle.vt_grid.specs.Page.{row_or}
use Rattle.vt_redraw.specs.Redraw.{nearest}
use Rattle.vt_redraw.specs.Internals.{cells_filled_to, is_split, kept_len, cell_past_cut}
use Rattle.vt_redraw.specs.Script.{is_nil, is_torn, erase_run, starts_other, run_count}
use Rattle.vt_redraw.specs.declared.form.Form.{Form}

-- Column k is the last column and has a continuation cell exactly if the cells from column k on are a single
-- continuation cell.
pub torn_at : (cells : List CellValue) (k : ℕ) →
    ((k + 1 == length cells) && is_right_half (at cells k)) ≡ is_torn (drop k cells)
torn_at [] zero = refl
torn_at [] (suc k) = let t : (suc k + 1 == 0) ≡ false = grind (arith, nat_tests) in rw t refl
torn_at (right_half ∷ []) zero = refl
torn_at (blank a ∷ []) zero = refl
torn_at (glyph text wide a ∷ []) zero = refl
torn_at (right_half ∷ y ∷ ys) zero =
    let t : (0 + 1 == suc (suc (length ys))) ≡ false = grind (arith, nat_tests) in rw t refl
torn_at (blank a ∷ y ∷ ys) zero =
    let t : (0 + 1 == suc (suc (length ys))) ≡ false = grind (arith, nat_tests) in rw t refl
torn_at (glyph text wide a ∷ y ∷ ys) zero =
    let t : (0 + 1 == suc (suc (length ys))) ≡ false = grind (arith, nat_tests) in rw t refl
torn_at (x ∷ xs) (suc k) =
    let e : (suc k + 1 == suc (length xs)) ≡ (k + 1 == length xs) = grind (arith, nat_tests) in
    ap (λ (b : Bool). b && is_right_half (at xs k)) e ∙ torn_at xs k

-- No cells are left from column k on exactly if k is the number of cells.
pub nil_at : (cells : List CellValue) (k : ℕ) → k ≤ length cells → is_nil (drop k cells) ≡ (k == length cells)
nil_at [] zero h = refl
nil_at [] (suc k) h = absurd (omega arith)
nil_at (x ∷ xs) zero h = let t : (0 == suc (length xs)) ≡ false = grind (arith, nat_tests) in rw t refl
nil_at (x ∷ xs) (suc k) h =
    let e : (k == length xs) ≡ (suc k == suc (length xs)) = grind (arith, nat_tests) in
    nil_at xs k (omega arith) ∙ e

-- An erasure that doesn't reach the end of the row is written with a count.
pub erase_run_counted : (form : Form) (count end : ℕ) (cells : List CellValue) →
    end < length cells → erase_run form count (drop end cells) ≡ EraseChars (run_count form count (at cells end))
erase_run_counted form count end [] h = absurd (omega arith)
erase_run_counted form count zero (x ∷ xs) h = refl
erase_run_counted form count (suc end) (x ∷ xs) h = erase_run_counted form count end xs (omega arith)

pub resized_columns : (cols : ℕ) (cells : List CellValue) → length (cells_after_resize cols cells) ≡ cols
resized_columns cols cells = length-resized cols cells

pub length-filled : (cells : List CellValue) (cols : ℕ) (end : CellValue) →
    length cells ≤ cols → length (cells_filled_to cells cols end) ≡ cols
length-filled cells cols end h =
    let a = length-append cells (replicate (cols - length cells) end) in
    let b = length-replicate (cols - length cells) end in
    omega arith

pub at-filled : (cells : List CellValue) (cols : ℕ) (end : CellValue) (k : ℕ) →
    k < length cells → at (cells_filled_to cells cols end) k ≡ at cells k
at-filled cells cols end k h = get_or_append_left cells (replicate (cols - length cells) end) default_blank k h

pub at-behind : (cells : List CellValue) (cols : ℕ) (end : CellValue) (k : ℕ) →
    length cells ≤ k → k < cols → at (cells_filled_to cells cols end) k ≡ end
at-behind cells cols end k h l =
    get_or-append_right cells (replicate (cols - length cells) end) (length cells) k default_blank refl h
    ∙ get_or-replicate (cols - length cells) (k - length cells) end default_blank (omega arith)

-- The cell at an index of a slice of a row's stored cells.
pub at-part : (cells : List CellValue) (cols : ℕ) (end : CellValue) (wrapped : Bool) (start stop k : ℕ) (row : RowValue)
    → record { cells = cells_filled_to cells cols end; wrapped = wrapped } ≡ row → start + k < stop → stop ≤
    length cells
    → at (slice_range cells start stop) k ≡ at row.cells (start + k)
at-part cells cols end wrapped start stop k row is below inside =
    get_or-chunk start (stop - start) cells k default_blank (omega arith)
    ∙ sym (at-filled cells cols end (start + k) (omega arith)) ∙ ap (λ r. at r.cells (start + k)) is

-- Whether a row begins with a glyph that the terminal does not display there depends only on the first cells of both
-- rows.
pub starts_at : (xs ys : List CellValue) → 0 < length xs → 0 < length ys →
    starts_other xs ys ≡ (is_glyph (at xs 0) && not (same_cell (at xs 0) (at ys 0)))
starts_at [] ys h l = absurd (omega arith)
starts_at (x ∷ xs) [] h l = absurd (omega arith)
starts_at (x ∷ xs) (y ∷ ys) h l = refl

-- The output of n + 1 line feeds is the output of n line feeds and one more.
pub feeds_more : (n : ℕ) → bytes_of_all (replicate (n + 1) LineFeed) ≡ bytes_of_all (replicate n LineFeed) ++ 0x0A ∷ []
feeds_more zero = refl
feeds_more (suc n) =
    let e : suc n + 1 ≡ suc (n + 1) = omega arith in
    ap (λ (k : ℕ). bytes_of_all (replicate k LineFeed)) e ∙ ap (λ (bytes : List ℕ). 0x0A ∷ bytes) (feeds_more n)

-- If the last column of row n is not blank, row n is itself the nearest such row.
pub nearest_here : (width : ℕ) (rows : List RowValue) (n : ℕ) →
    ends_blank (row_or width rows n).cells ≡ false → nearest width rows n ≡ Some n
nearest_here width rows zero h = cond-false (ends_blank (row_or width rows 0).cells) None (Some 0) h
nearest_here width rows (suc n) h =
    cond-false (ends_blank (row_or width rows (suc n)).cells) (nearest width rows n) (Some (suc n)) h

pub nearest_up : (width : ℕ) (rows : List RowValue) (n : ℕ) → 0 < n →
    ends_blank (row_or width rows n).cells ≡ true → nearest width rows (n - 1) ≡ nearest width rows n
nearest_up width rows zero h e = absurd (omega arith)
nearest_up width rows (suc n) h e =
    let same : suc n - 1 ≡ n = omega arith in
    ap (nearest width rows) same
    ∙ sym (cond-true (ends_blank (row_or width rows (suc n)).cells) (nearest width rows n) (Some (suc n)) e)

take_past : (xs ys : List CellValue) (n : ℕ) → take (length xs + n) (xs ++ ys) ≡ xs ++ take n ys
take_past [] ys n = let e : 0 + n ≡ n = omega arith in ap (λ (k : ℕ). take k ys) e
take_past (x ∷ xs) ys n =
    let e : suc (length xs) + n ≡ suc (length xs + n) = omega arith in
    ap (λ (k : ℕ). take k (x ∷ (xs ++ ys))) e ∙ ap (λ (zs : List CellValue). x ∷ zs) (take_past xs ys n)

-- Extending the first stored cells to fewer columns gives the first cells of the row extended to all columns.
pub filled_taken : (cells : List CellValue) (cols stop : ℕ) (end : CellValue) → stop ≤ cols → length cells ≤ cols →
    cells_filled_to (take (min (length cells) stop) cells) stop end ≡ take stop (cells_filled_to cells cols end)
filled_taken cells cols stop end h l =
    ⊎_elim
    (λ (low : stop < length cells).
    let least : min (length cells) stop ≡ stop = omega arith in
    let size = length-take-le stop cells (omega arith) in
    let none : stop - length (take stop cells) ≡ 0 = omega arith in
    ap (λ (n : ℕ). cells_filled_to (take n cells) stop end) least
    ∙ (ap (λ (n : ℕ). take stop cells ++ replicate n end) none
    ∙ (append-nil (take stop cells)
    ∙ sym (take-append-le stop cells (replicate (cols - length cells) end) (omega arith)))))
    (λ (high : length cells ≤ stop).
    let least : min (length cells) stop ≡ length cells = omega arith in
    let sum : length cells + (stop - length cells) ≡ stop = omega arith in
    ap (λ (n : ℕ). cells_filled_to (take n cells) stop end) least
    ∙ (ap (λ (zs : List CellValue). cells_filled_to zs stop end) (take_all (length cells) cells (omega arith))
    ∙ (ap (λ (zs : List CellValue). cells ++ zs)
    (sym (take-replicate (stop - length cells) (cols - length cells) end (omega arith)))
    ∙ (sym (take_past cells (replicate (cols - length cells) end) (stop - length cells))
    ∙ ap (λ (n : ℕ). take n (cells_filled_to cells cols end)) sum))))
    (cases_lt stop (length cells))

-- ---- a row that is cut or extended

-- A cell is unchanged by a cut after its continuation cell, if it has one.
stays : (cols : ℕ) (cells : List CellValue) (k : ℕ) → IsPaired cells →
    (is_wide (at cells k) ≡ true → nat_lt (k + 1) cols ≡ true) → moved_at cols (λ j. j) cells k ≡ at cells k
stays cols cells zero paired h =
    let wide : (is_wide (at cells 0) && not (nat_lt (0 + 1) cols && (0 + 1 == 0 + 1))) ≡ false =
    grind (arith, nat_tests, h) in
    rw (wide, paired.first) refl
stays cols cells (suc k) paired h =
    let wide : (is_wide (at cells (suc k)) && not (nat_lt (suc k + 1) cols && (suc k + 1 == suc k + 1))) ≡ false =
    grind (arith, nat_tests, h) in
    let half : (is_right_half (at cells (suc k)) && not (suc k == (suc k - 1) + 1)) ≡ false =
    grind (arith, nat_tests) in
    rw (wide, half) refl

-- The first cell of a wide character that is cut in two becomes a blank.
halved : (cols : ℕ) (cells : List CellValue) (k : ℕ) → k + 1 ≡ cols →
    is_wide (at cells k) ≡ true → moved_at cols (λ j. j) cells k ≡ blank (attrs_of (at cells k))
halved cols cells k e wide =
    let t : (is_wide (at cells k) && not (nat_lt (k + 1) cols && (k + 1 == k + 1))) ≡ true = grind (arith, nat_tests) in
    rw t refl

-- The cell at an index past the end is a default blank.
past : (cols : ℕ) (cells : List CellValue) (k : ℕ) → length cells ≤ k → at cells k ≡ default_blank
past cols cells k h = get_or_past cells k default_blank h

-- Every wide character has its continuation cell.
pub room : (cells : List CellValue) (k : ℕ) → IsPaired cells → is_wide (at cells k) ≡ true → k + 1 < length cells
room cells k paired wide =
    ⊎_elim (λ (h : k + 1 < length cells). h)
    (λ (h : length cells ≤ k + 1).
    let e = past 0 cells (k + 1) h in
    let half : is_right_half (at cells (k + 1)) ≡ true = sym (paired.halves k) ∙ wide in
    let none : is_right_half (at cells (k + 1)) ≡ false = ap is_right_half e in
    absurd cc)
    (cases_lt (k + 1) (length cells))

-- The cells of a row that is cut within a wide character, column by column.
split_columns : (cols : ℕ) (cells : List CellValue) → 0 < cols → IsPaired cells →
    cols < length cells → is_wide (at cells (cols - 1)) ≡ true → (k : ℕ) → k < cols →
    at (cells_filled_to (take (cols - 1) cells) cols (blank (attrs_of (at cells (cols - 1))))) k ≡ moved_at cols (λ j. j) cells k
split_columns cols cells pos paired inside wide k h =
    let kept = take (cols - 1) cells in
    let size : length kept ≡ cols - 1 = length-take-le (cols - 1) cells (omega arith) in
    let end = blank (attrs_of (at cells (cols - 1))) in
    ⊎_elim
    (λ (low : k < cols - 1). at-filled kept cols end k (omega arith)
    ∙ (get_or-take (cols - 1) cells k default_blank low
    ∙ sym (stays cols cells k paired (λ _. grind (arith, nat_tests)))))
    (λ (high : cols - 1 ≤ k).
    let last : k ≡ cols - 1 = omega arith in
    at-behind kept cols end k (omega arith) h
    ∙ (ap (λ (j : ℕ). blank (attrs_of (at cells j))) (sym last)
    ∙ sym (halved cols cells k (omega arith) (ap (λ (j : ℕ). is_wide (at cells j)) last ∙ wide))))
    (cases_lt k (cols - 1))

-- The cells of a row that is cut between characters, column by column.
whole_columns : (cols : ℕ) (cells : List CellValue) → IsPaired cells →
    is_split cols cells ≡ false → (k : ℕ) → k < cols →
    at (cells_filled_to (take cols cells) cols default_blank) k ≡ moved_at cols (λ j. j) cells k
whole_columns cols cells paired whole k h =
    let kept = take cols cells in
    let size = length-take cols cells in
    ⊎_elim
    (λ (low : k < length cells).
    let wide : is_wide (at cells k) ≡ true → nat_lt (k + 1) cols ≡ true = λ w.
    let r = room cells k paired w in
    ⊎_elim (λ (short : k + 1 < cols). grind (arith, nat_tests))
    (λ (long : cols ≤ k + 1).
    let e : cols - 1 ≡ k = omega arith in
    let last : is_wide (at cells (cols - 1)) ≡ true = ap (λ (j : ℕ). is_wide (at cells j)) e ∙ w in
    let t : is_split cols cells ≡ true = grind (arith, nat_tests) in
    absurd cc)
    (cases_lt (k + 1) cols) in
    at-filled kept cols default_blank k (omega arith)
    ∙ (get_or-take cols cells k default_blank h ∙ sym (stays cols cells k paired wide)))
    (λ (high : length cells ≤ k).
    let gone = past cols cells k high in
    let none : is_wide (at cells k) ≡ false = ap is_wide gone in
    at-behind kept cols default_blank k (omega arith) h ∙ (sym gone ∙ sym (stays cols cells k paired (λ w. absurd cc))))
    (cases_lt k (length cells))

-- The unchanged cells and the cell after them make up the cut or extended row.
pub filled_resized : (cols : ℕ) (cells : List CellValue) → 0 < cols → IsPaired cells →
    cells_filled_to (take (kept_len cols cells) cells) cols (cell_past_cut cols cells) ≡ cells_after_resize cols cells
unfolding cells_after_resize
filled_resized cols cells pos paired = by_split (is_split cols cells) refl where
  by_split : (b : Bool) → is_split cols cells ≡ b →
      cells_filled_to (take (if b then cols - 1 else cols) cells) cols
      (if b then blank (attrs_of (at cells (cols - 1))) else default_blank)
      ≡ cells_after_move cols (λ j. j) cells
  by_split true t =
      let inside : cols < length cells = grind (arith, nat_tests) in
      let wide : is_wide (at cells (cols - 1)) ≡ true = grind (arith, nat_tests) in
      let kept = take (cols - 1) cells in
      let size : length kept ≡ cols - 1 = length-take-le (cols - 1) cells (omega arith) in
      let end = blank (attrs_of (at cells (cols - 1))) in
      moved_is cols (λ j. j) cells (cells_filled_to kept cols end)
      (length-filled kept cols end (omega arith)) (split_columns cols cells pos paired inside wide)
  by_split false t =
      let size = length-take cols cells in
      moved_is cols (λ j. j) cells (cells_filled_to (take cols cells) cols default_blank)
      (length-filled (take cols cells) cols default_blank (omega arith)) (whole_columns cols cells paired t)

pub kept_inside : (cols : ℕ) (cells : List CellValue) → length (take (kept_len cols cells) cells) ≤ cols
kept_inside cols cells = by_split (is_split cols cells) where
  by_split : (b : Bool) → length (take (if b then cols - 1 else cols) cells) ≤ cols
  by_split true = let size = length-take (cols - 1) cells in omega arith
  by_split false = let size = length-take cols cells in omega arith
