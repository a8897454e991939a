-- The displayed rows are extended, after spare rows are allocated for them.
use Rattle.std.proofs.Common.{◌≡◌, ℕ, zero, suc, ◌+◌, ◌-◌, ◌<◌, ◌≤◌, ◌==◌, nat_lt, min, Bool, true}
use Rattle.std.proofs.Common.{List, [], ◌∷◌, ◌++◌, length, take, drop, map, get_or, slice_set}
use Rattle.std.proofs.Common.{refl, sym, ap, subst, ◌∙◌, append_assoc, inl, inr, arith}
use Rattle.std.specs.Prelude.{if◌then◌else◌}
use Rattle.std.proofs.lemmas.Bool.{cases_lt}
use Rattle.std.proofs.lemmas.Bool.Decides.{nat_tests}
use Rattle.std.proofs.lemmas.List.{drop_more, take_more, drop-drop, drop_all, take_all, length-append, length-drop}
use Rattle.std.proofs.lemmas.List.{length-take, length-map, length-replicate, get_or_at, get_or-drop, set_at, map_push}
use Rattle.std.proofs.lemmas.List.Elements.{All-get_or}
use Rattle.vt_cells.specs.Attrs.{default_attrs}
use Rattle.vt_cells.specs.Cell.{blank}
use Rattle.vt_rows.specs.Row.{RowValue, blank_row, resized_row, trimmed_row}
use Rattle.vt_grid.specs.Scrollback.{Scrollback, IsScrollback, last_of, rows_with_scrolled_off, kept_after, grown_row, narrow_rows}
use Rattle.vt_grid.specs.Internals.{AreSpare, window_from, grown_from, in_view}
use Rattle.vt_grid.proofs.ScrollbackRows.{length-stacked, length-last_of}

-- ---- Rows from k on

pub window_more : {X : Type 0} (xs : List X) (k m n : ℕ) (d : X) → k < length xs →
    m ≡ suc n → take m (drop k xs) ≡ get_or xs k d ∷ take n (drop (k + 1) xs)
window_more xs k m n d h e = ap (λ (i : ℕ). take i (drop k xs)) e ∙ ap (take (suc n)) (drop_more xs k d h)

-- ---- The number of narrow rows

pub narrow-most : (w : ℕ) (rows : List RowValue) → narrow_rows w rows ≤ length rows
narrow-most w [] = omega arith
narrow-most w (row ∷ rows) = let ih = narrow-most w rows in grind arith

pub narrow_counted : (w first h k count one total : ℕ) (rows : List RowValue) (row : RowValue) → k < length rows →
    k < first + h → row ≡ get_or rows k row → one ≡ (if nat_lt (length row.cells) w then 1 else 0) →
    count + narrow_rows w (take (first + h - k) (drop k rows)) ≡ total →
    (count + one) + narrow_rows w (take (first + h - (k + 1)) (drop (k + 1) rows)) ≡ total
narrow_counted w first h k count one total rows row i j r o t =
    let more : take (first + h - k) (drop k rows) ≡ row ∷ take (first + h - (k + 1)) (drop (k + 1) rows)
    = window_more rows k (first + h - k) (first + h - (k + 1)) row i (omega arith)
    ∙ ap (λ (x : RowValue). x ∷ take (first + h - (k + 1)) (drop (k + 1) rows)) (sym r) in
    let same = ap (narrow_rows w) more in
    omega (arith, same, o, t)

-- Appending rows adds at most as many narrow rows to a window as there are appended rows in the window.
pub narrow_below : (w s h : ℕ) (xs ys : List RowValue) →
    narrow_rows w (window_from s h (xs ++ ys))
    ≤ narrow_rows w (window_from s h xs) + (min (s + h) (length xs + length ys) - length xs)
narrow_below w s h [] ys =
    omega (arith, narrow-most w (window_from s h ys), length-take h (drop s ys), length-drop s ys)
narrow_below w (suc s) h (x ∷ xs) ys = omega (arith, narrow_below w s h xs ys)
narrow_below w zero zero (x ∷ xs) ys = omega arith
narrow_below w zero (suc h) (x ∷ xs) ys = omega (arith, narrow_below w zero h xs ys)

-- ---- The displayed rows after rows were appended

-- If no row of scrollback is displayed, no narrow row is displayed after rows are appended.
pub none_in_view : (w h : ℕ) (gone : List RowValue) (above : Scrollback) →
    above.offset ≡ 0 → narrow_rows w (in_view h (kept_after gone above)) ≤ 0
unfolding kept_after
none_in_view w h gone above e =
    let rows = last_of above.capacity (rows_with_scrolled_off gone above) in
    let o : (if above.offset == 0 then 0 else min (above.offset + length gone) (length rows)) ≡ 0 = rw e refl in
    let first : length rows - (if above.offset == 0 then 0 else min (above.offset + length gone) (length rows))
    ≡ length rows = omega (arith, o) in
    let all : drop (length rows) rows ≡ [] = drop_all (length rows) rows (omega arith) in
    let empty : List RowValue = [] in
    let none = ap (λ (n : ℕ). narrow_rows w (window_from n h rows)) first
    ∙ ap (λ (xs : List RowValue). narrow_rows w (take h xs)) all in
    omega (arith, none, narrow-most w (take h empty), length-take h empty)

pub allocations_enough : (w h count first : ℕ) (gone : List RowValue) (above : Scrollback) →
    IsScrollback above → length gone ≡ count → 0 < above.offset →
    first ≡ length above.rows + count - min (above.offset + count) above.capacity →
    narrow_rows w (in_view h (kept_after gone above))
    ≤ narrow_rows w (window_from first h above.rows) + (min (first + h) (length above.rows + count) - length above.rows)
unfolding kept_after
allocations_enough w h count first gone above a e o f =
    let whole = rows_with_scrolled_off gone above in
    let rows = last_of above.capacity whole in
    let offset = if above.offset == 0 then 0 else min (above.offset + length gone) (length rows) in
    let place : (length whole - above.capacity) + (length rows - offset) ≡ first =
    grind (arith, length-stacked gone above, length-last_of above.capacity whole, a.in_view, a.kept) in
    let same : drop (length rows - offset) rows ≡ drop first whole =
    drop-drop (length rows - offset) (length whole - above.capacity) whole ∙ ap (λ (n : ℕ). drop n whole) place in
    let below = narrow_below w first h above.rows (map trimmed_row gone) in
    omega (arith, ap (λ (zs : List RowValue). narrow_rows w (take h zs)) same, below, length-map gone trimmed_row, e)

-- ---- Spare rows

spare_is : (w : ℕ) (rows spare rest : List RowValue) (row : RowValue) →
    AreSpare w rows spare → spare ≡ rest ++ row ∷ [] → row ≡ blank_row default_attrs w
spare_is w rows spare rest row s e =
    let at : get_or spare (length rest) row ≡ row =
    ap (λ (xs : List RowValue). get_or xs (length rest) row) e ∙ get_or_at rest row [] row (length rest) refl in
    sym at
    ∙ All-get_or (λ r. r ≡ blank_row default_attrs w) spare (length rest)
    row (omega (arith, ap length e, length-append rest (row ∷ []))) s.blank

pub spare_width : (w : ℕ) (rows spare rest : List RowValue) (row : RowValue) →
    AreSpare w rows spare → spare ≡ rest ++ row ∷ [] → length row.cells ≡ w
spare_width w rows spare rest row s e =
    ap (λ (r : RowValue). length r.cells) (spare_is w rows spare rest row s e)
    ∙ length-replicate w (blank default_attrs)

pub spare_blank : (w : ℕ) (rows spare rest : List RowValue) (row : RowValue) → AreSpare w rows spare →
    spare ≡ rest ++ row ∷ [] → row ≡ blank_row default_attrs (length row.cells)
spare_blank w rows spare rest row s e =
    spare_is w rows spare rest row s e ∙ ap (blank_row default_attrs) (sym (spare_width w rows spare rest row s e))

pub grown_narrow : (w n : ℕ) (row : RowValue) → n ≡ w → length row.cells < w → resized_row n row ≡ grown_row w row
grown_narrow w n row e h =
    let t : nat_lt (length row.cells) w ≡ true = grind (arith, nat_tests) in
    ap (λ (m : ℕ). resized_row m row) e ∙ sym (ap (λ (b : Bool). if b then resized_row w row else row) t)

pub spare_first : (w m n : ℕ) (k : ℕ) (rows spare : List RowValue) (row : RowValue) →
    k < length rows → m ≡ suc n → row ≡ get_or rows k row →
    AreSpare w (take m (drop k rows)) spare → AreSpare w (row ∷ take n (drop (k + 1) rows)) spare
spare_first w m n k rows spare row h e r s =
    subst (λ (xs : List RowValue). AreSpare w xs spare)
    (window_more rows k m n row h e ∙ ap (λ (x : RowValue). x ∷ take n (drop (k + 1) rows)) (sym r)) s

pub spare_one : (w : ℕ) (rows spare : List RowValue) (row : RowValue) →
    AreSpare w (row ∷ rows) spare → AreSpare w (row ∷ []) spare
spare_one w rows spare row s = record { blank = s.blank; enough = omega (arith, s.enough) }

-- ---- Rows are extended one by one

abbrev pub grown_until : (w first k : ℕ) → List RowValue → List RowValue
grown_until w first k rows = take first rows ++ map (grown_row w) (window_from first (k - first) rows)

pub length-grown_until : (w first k : ℕ) (rows : List RowValue) →
    first ≤ k → k ≤ length rows → length (grown_until w first k rows) ≡ k
length-grown_until w first k rows f i =
    omega (
      arith,
      length-append (take first rows) (map (grown_row w) (window_from first (k - first) rows)),
      length-take first rows,
      length-map (window_from first (k - first) rows) (grown_row w),
      length-take (k - first) (drop first rows),
      length-drop first rows,
    )

pub grown_at : (w first k : ℕ) (rows now : List RowValue) (d : RowValue) → first ≤ k →
    k < length rows → now ≡ grown_until w first k rows ++ drop k rows → get_or now k d ≡ get_or rows k d
grown_at w first k rows now d f i e =
    ap (λ (xs : List RowValue). get_or xs k d)
    (e ∙ ap (λ (xs : List RowValue). grown_until w first k rows ++ xs) (drop_more rows k d i))
    ∙ get_or_at (grown_until w first k rows) (get_or rows k d)
    (drop (k + 1) rows) d k (length-grown_until w first k rows f (omega arith))

pub grown_more : (w first k : ℕ) (rows : List RowValue) (d : RowValue) → first ≤ k → k < length rows →
    grown_until w first (k + 1) rows ≡ grown_until w first k rows ++ grown_row w (get_or rows k d) ∷ []
grown_more w first k rows d f i =
    let m = k - first in
    let at : get_or (drop first rows) m d ≡ get_or rows k d =
    get_or-drop first rows m d ∙ ap (λ (n : ℕ). get_or rows n d) (omega arith) in
    let more : window_from first (k + 1 - first) rows ≡ window_from first m rows ++ get_or rows k d ∷ []
    = ap (λ (n : ℕ). take n (drop first rows)) (omega arith)
    ∙ (take_more (drop first rows) m d (omega (arith, length-drop first rows))
    ∙ ap (λ (x : RowValue). window_from first m rows ++ x ∷ []) at) in
    ap (λ (xs : List RowValue). take first rows ++ map (grown_row w) xs) more
    ∙ (ap (λ (xs : List RowValue). take first rows ++ xs)
    (map_push (grown_row w) (window_from first m rows) (get_or rows k d))
    ∙ sym (append_assoc (take first rows) (map (grown_row w) (window_from first m rows))
    (grown_row w (get_or rows k d) ∷ [])))

pub grown_set : (w first k : ℕ) (rows now : List RowValue) (row : RowValue) → first ≤ k → k < length rows →
    now ≡ grown_until w first k rows ++ drop k rows → row ≡ grown_row w (get_or rows k row) →
    slice_set now k row ≡ grown_until w first (k + 1) rows ++ drop (k + 1) rows
grown_set w first k rows now row f i e r =
    ap (λ (xs : List RowValue). slice_set xs k row)
    (e ∙ ap (λ (xs : List RowValue). grown_until w first k rows ++ xs) (drop_more rows k row i))
    ∙ (set_at (grown_until w first k rows) (get_or rows k row)
    (drop (k + 1) rows) row k (length-grown_until w first k rows f (omega arith))
    ∙ (ap (λ (x : RowValue). grown_until w first k rows ++ (x ∷ drop (k + 1) rows)) r
    ∙ (sym (append_assoc (grown_until w first k rows) (grown_row w (get_or rows k row) ∷ []) (drop (k + 1) rows))
    ∙ ap (λ (xs : List RowValue). xs ++ drop (k + 1) rows) (sym (grown_more w first k rows row f i)))))

-- After the displayed rows are extended one by one, they are those of `grown_from`.
pub grown_whole : (w first h k : ℕ) (rows now : List RowValue) → k ≡ min (length rows) (first + h) →
    first ≤ length rows → now ≡ grown_until w first k rows ++ drop k rows → now ≡ grown_from first h w rows
grown_whole w first h k rows now e f g =
    g ∙ (append_assoc (take first rows) (map (grown_row w) (window_from first (k - first) rows)) (drop k rows)
    ∙ elim (cases_lt (length rows) (first + h)) [
      | inl lt ↦
          let all : window_from first (k - first) rows ≡ window_from first h rows =
          take_all (k - first) (drop first rows) (omega (arith, length-drop first rows))
          ∙ sym (take_all h (drop first rows) (omega (arith, length-drop first rows))) in
          let end : drop k rows ≡ drop (first + h) rows =
          drop_all k rows (omega arith) ∙ sym (drop_all (first + h) rows (omega arith)) in
          ap (λ (xs : List RowValue). take first rows ++ (map (grown_row w) xs ++ drop k rows)) all
          ∙ ap (λ (xs : List RowValue). take first rows ++ (map (grown_row w) (window_from first h rows) ++ xs)) end
      | inr ge ↦
          let h_is : k - first ≡ h = omega arith in
          let k_is : k ≡ first + h = omega arith in
          ap (λ (n : ℕ). take first rows ++ (map (grown_row w) (window_from first n rows) ++ drop k rows)) h_is
          ∙ ap (λ (n : ℕ). take first rows ++ (map (grown_row w) (window_from first h rows) ++ drop n rows)) k_is
    ])
