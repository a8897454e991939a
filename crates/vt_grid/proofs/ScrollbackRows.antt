-- Rows appended to scrollback, and the rows of scrollback that are displayed.
use Rattle.std.proofs.Common.{◌≡◌, ℕ, suc, ◌+◌, ◌-◌, ◌≤◌, ◌==◌, min, List, [], ◌∷◌, ◌++◌, ◌<◌, get_or, slice_set}
use Rattle.std.proofs.Common.{length, take, drop, map, sym, ap, subst, ◌∙◌, append_assoc, arith, nat_lt, replicate}
use Rattle.std.proofs.Common.{refl}
use Rattle.std.proofs.Math.Seq.{take-add, get_or-append_seam, set-append_seam}
use Rattle.std.proofs.lemmas.List.{take_more, drop_more, map_push, get_or-take, length-take, drop-append-le}
use Rattle.std.proofs.lemmas.List.{take-append-le, drop-drop, length-append, length-drop, length-map, append-nil}
use Rattle.std.proofs.lemmas.List.{take_all, drop_all, length-replicate, nil_from_length}
use Rattle.std.proofs.lemmas.List.Elements.{All-append, All-cons, All-drop, All-map, All-nil, All-take, All-weaker}
use Rattle.std.proofs.lemmas.List.Elements.{All-replicate, All-same}
use Rattle.std.specs.Prelude.{All, if◌then◌else◌}
use Rattle.std.specs.List.{FoldsTo}
use Rattle.std.proofs.lemmas.Bool.{cond_both}
use Rattle.vt_cells.specs.Attrs.{default_attrs}
use Rattle.vt_rows.specs.Row.{RowValue, IsRow, trimmed_row, blank_row, resized_row}
use Rattle.vt_rows.proofs.RowTexts.{folds_then}
use Rattle.vt_rows.proofs.Rows.{IsRow-trimmed_row, IsRow-blank_row}
use Rattle.vt_rows.proofs.Moves.{IsRow-resized_row}
use Rattle.vt_grid.specs.Scrollback.{Scrollback, IsScrollback, last_of, before_last, rows_with_scrolled_off, kept_after}
use Rattle.vt_grid.specs.Scrollback.{greatest, grown_row, grown_in_view, scrollback_after_push, rows_reported}
use Rattle.vt_grid.specs.Scrollback.{with_view, narrow_rows}
use Rattle.vt_grid.specs.Internals.{AreSpare, window_from, grown_from, in_view}

-- ==== Rows appended to those that are kept: all at once equals one after the other.

last_then : {X : Type 0} (c : ℕ) (xs ys : List X) → last_of c (last_of c xs ++ ys) ≡ last_of c (xs ++ ys)
last_then c xs ys =
    let m = length xs - c in
    let whole : last_of c xs ++ ys ≡ drop m (xs ++ ys) = sym (drop-append-le m xs ys (omega arith)) in
    ap (last_of c) whole ∙ (drop-drop (length (drop m (xs ++ ys)) - c) m (xs ++ ys)
    ∙ ap (λ (n : ℕ). drop n (xs ++ ys)) (omega (arith, length-drop m (xs ++ ys), length-append xs ys)))

before_then : {X : Type 0} (c : ℕ) (xs ys : List X) →
    before_last c (xs ++ ys) ≡ before_last c xs ++ before_last c (last_of c xs ++ ys)
before_then c xs ys =
    let m = length xs - c in
    let whole : last_of c xs ++ ys ≡ drop m (xs ++ ys) = sym (drop-append-le m xs ys (omega arith)) in
    let n = length (drop m (xs ++ ys)) - c in
    let sum : length (xs ++ ys) - c ≡ m + n = omega (arith, length-drop m (xs ++ ys), length-append xs ys) in
    ap (λ (k : ℕ). take k (xs ++ ys)) sum ∙ (take-add m n (xs ++ ys)
    ∙ (ap (λ (zs : List _). zs ++ take n (drop m (xs ++ ys))) (take-append-le m xs ys (omega arith))
    ∙ ap (λ (zs : List _). before_last c xs ++ before_last c zs) (sym whole)))

-- Appending one row and then the others keeps the same last c rows as appending all of them.
pub row_kept : (c : ℕ) (kept next rest : List RowValue) (row : RowValue) →
    next ≡ last_of c (kept ++ row ∷ []) → last_of c (next ++ rest) ≡ last_of c (kept ++ (row ∷ rest))
row_kept c kept next rest row e =
    ap (λ (zs : List RowValue). last_of c (zs ++ rest)) e
    ∙ (last_then c (kept ++ row ∷ []) rest ∙ ap (last_of c) (append_assoc kept (row ∷ []) rest))

pub row_sent : {S : Type 0} (leaves : S → RowValue → S → Type 0) (c : ℕ)
    (kept next rest : List RowValue) (row : RowValue) (p q r : S) →
    next ≡ last_of c (kept ++ row ∷ []) → FoldsTo leaves p (before_last c (kept ++ row ∷ [])) q →
    FoldsTo leaves q (before_last c (next ++ rest)) r →
    FoldsTo leaves p (before_last c (kept ++ (row ∷ rest))) r
row_sent leaves c kept next rest row p q r e a b =
    let two = folds_then leaves (before_last c (kept ++ row ∷ []))
    (before_last c (last_of c (kept ++ row ∷ []) ++ rest)) p q r a
    (subst (λ (zs : List RowValue). FoldsTo leaves q (before_last c (zs ++ rest)) r) e b) in
    let all = sym (before_then c (kept ++ row ∷ []) rest) ∙ ap (before_last c) (append_assoc kept (row ∷ []) rest) in
    subst (λ (zs : List RowValue). FoldsTo leaves p zs r) all two

pub length-last_of : {X : Type 0} (c : ℕ) (xs : List X) → length (last_of c xs) ≡ min (length xs) c
length-last_of c xs = omega (arith, length-drop (length xs - c) xs)

pub row_counted : (c : ℕ) (kept next : List RowValue) (row : RowValue) →
    next ≡ last_of c (kept ++ row ∷ []) → length next ≡ min (length kept + 1) c
row_counted c kept next row e =
    ap length e ∙ (length-last_of c (kept ++ row ∷ []) ∙ ap (λ (n : ℕ). min n c) (length-append kept (row ∷ [])))

pub room_left : (c n m rest more room : ℕ) → m ≡ min (n + 1) c → more ≡ suc rest →
    n ≤ c → n + min more (c - n) ≤ room → m + min rest (c - m) ≤ room
room_left c n m rest more room e f i r = omega arith

pub length-stacked : (gone : List RowValue) (above : Scrollback) →
    length (rows_with_scrolled_off gone above) ≡ length above.rows + length gone
length-stacked gone above =
    length-append above.rows (map trimmed_row gone)
    ∙ ap (λ (n : ℕ). length above.rows + n) (length-map gone trimmed_row)

-- The rows of scrollback and those appended to them are valid, each in its own width.
pub All-stacked : (w : ℕ) (gone rows : List RowValue) →
    All (IsRow w) gone → All (λ row. IsRow (length row.cells) row) rows →
    All (λ row. IsRow (length row.cells) row) (rows ++ map trimmed_row gone)
All-stacked w gone rows g r =
    let t : All (λ row. IsRow (length (trimmed_row row).cells) (trimmed_row row)) gone =
    All-weaker (IsRow w) (λ row. IsRow (length (trimmed_row row).cells) (trimmed_row row))
    (IsRow-trimmed_row w) gone g in
    All-append (λ row. IsRow (length row.cells) row) rows (map trimmed_row gone)
    r (All-map (λ row. IsRow (length row.cells) row) trimmed_row gone t)

pub All-pushed : (c : ℕ) (kept next : List RowValue) (row : RowValue) →
    next ≡ last_of c (kept ++ row ∷ []) → IsRow (length row.cells) row →
    All (λ row. IsRow (length row.cells) row) kept → All (λ row. IsRow (length row.cells) row) next
All-pushed c kept next row e r k =
    let P : RowValue → Type 0 = λ row. IsRow (length row.cells) row in
    let one : All P (row ∷ []) = All-cons P row [] r (All-nil P) in
    subst (All P) (sym e)
    (All-drop P (length (kept ++ row ∷ []) - c) (kept ++ row ∷ []) (All-append P kept (row ∷ []) k one))

-- Copies of rows without their trailing default blanks are valid, each in its own width.
pub All-copied : (w n : ℕ) (rows copies : List RowValue) → All (IsRow w) rows →
    copies ≡ map trimmed_row (take n rows) → All (λ row. IsRow (length row.cells) row) copies
All-copied w n rows copies all e =
    let gone = take n rows in
    let t : All (λ row. IsRow (length (trimmed_row row).cells) (trimmed_row row)) gone =
    All-weaker (IsRow w) (λ row. IsRow (length (trimmed_row row).cells) (trimmed_row row))
    (IsRow-trimmed_row w) gone (All-take (IsRow w) n rows all) in
    subst (All (λ row. IsRow (length row.cells) row)) (sym e)
    (All-map (λ row. IsRow (length row.cells) row) trimmed_row gone t)

-- The trimmed rows from k up to n are the trimmed row k, followed by those from k + 1 on.
pub first_more : (n k : ℕ) (rows : List RowValue) (d : RowValue) → k < n → n ≤ length rows →
    map trimmed_row (drop k (take n rows))
    ≡ trimmed_row (get_or rows k d) ∷ map trimmed_row (drop (k + 1) (take n rows))
first_more n k rows d h l =
    ap (map trimmed_row) (drop_more (take n rows) k d (omega (arith, length-take n rows)))
    ∙ ap (λ (row : RowValue). trimmed_row row ∷ map trimmed_row (drop (k + 1) (take n rows))) (get_or-take n rows k d h)

-- The oldest row has become the newest one.
pub newest_turned : (rows turned : List RowValue) (n : ℕ) (d : RowValue) → 0 < length rows →
    turned ≡ drop 1 rows ++ take 1 rows → n ≡ length turned → get_or turned (n - 1) d ≡ get_or rows 0 d
newest_turned [] turned n d h e l = absurd (omega (arith, h))
newest_turned (x ∷ xs) turned n d h e l =
    let k : n - 1 ≡ length xs = omega (arith, l, ap length e ∙ length-append xs (x ∷ [])) in
    (λ z. get_or (e z) (k z) d) ∙ get_or-append_seam xs x [] d

-- The oldest row has become the newest one, and then a copy of the first row of a page.
pub turned_over : (rows turned page : List RowValue) (n : ℕ) (row d : RowValue) → 0 < length rows → 0 < length page →
    turned ≡ drop 1 rows ++ take 1 rows → n ≡ length turned → row ≡ trimmed_row (get_or page 0 d) →
    slice_set turned (n - 1) row ≡ drop 1 rows ++ map trimmed_row (take 1 page)
turned_over [] turned page n row d h p e l r = absurd (omega (arith, h))
turned_over (x ∷ xs) turned [] n row d h p e l r = absurd (omega (arith, p))
turned_over (x ∷ xs) turned (y ∷ ys) n row d h p e l r =
    let k : n - 1 ≡ length xs = omega (arith, l, ap length e ∙ length-append xs (x ∷ [])) in
    (λ z. slice_set (e z) (k z) (r z)) ∙ set-append_seam xs x [] (trimmed_row y)

pub copied_more : (k : ℕ) (rows : List RowValue) (d : RowValue) → k < length rows →
    map trimmed_row (take (k + 1) rows) ≡ map trimmed_row (take k rows) ++ trimmed_row (get_or rows k d) ∷ []
copied_more k rows d h =
    ap (map trimmed_row) (take_more rows k d h) ∙ map_push trimmed_row (take k rows) (get_or rows k d)

pub IsScrollback-kept_after : (w : ℕ) (gone : List RowValue) (above : Scrollback) →
    All (IsRow w) gone → IsScrollback above → IsScrollback (kept_after gone above)
unfolding kept_after
IsScrollback-kept_after w gone above g a = record {
  kept = omega (arith, length-last_of above.capacity (rows_with_scrolled_off gone above));
  in_view = at_most (above.offset == 0);
  sound =
      All-drop (λ row. IsRow (length row.cells) row) (length (rows_with_scrolled_off gone above) - above.capacity)
      (rows_with_scrolled_off gone above) (All-stacked w gone above.rows g a.sound);
} where
  at_most : (b : _) →
      (if b then 0 else min (above.offset + length gone) (length (last_of above.capacity (rows_with_scrolled_off gone above))))
      ≤ length (last_of above.capacity (rows_with_scrolled_off gone above))
  at_most b = grind arith

-- ==== Appending rows to scrollback, and displaying the rows of scrollback.

-- ---- Displayed rows are extended

IsRow-grown_row : (w : ℕ) (row : RowValue) → IsRow (length row.cells) row →
    IsRow (length (grown_row w row).cells) (grown_row w row)
IsRow-grown_row w row r =
    cond_both (nat_lt (length row.cells) w) (resized_row w row) row (λ x. IsRow (length x.cells) x)
    (λ _. let s =
    IsRow-resized_row (length row.cells) w row r in subst (λ (n : ℕ). IsRow n (resized_row w row)) (sym s.columns) s)
    (λ _. r)

length-grown_from : (first h w : ℕ) (rows : List RowValue) →
    first ≤ length rows → length (grown_from first h w rows) ≡ length rows
length-grown_from first h w rows f =
    omega (
      arith,
      length-append (take first rows) (map (grown_row w) (window_from first h rows) ++ drop (first + h) rows),
      length-append (map (grown_row w) (window_from first h rows)) (drop (first + h) rows),
      length-take first rows,
      length-map (window_from first h rows) (grown_row w),
      length-take h (drop first rows),
      length-drop first rows,
      length-drop (first + h) rows,
    )

All-grown_from : (first h w : ℕ) (rows : List RowValue) → All (λ row. IsRow (length row.cells) row) rows →
    All (λ row. IsRow (length row.cells) row) (grown_from first h w rows)
All-grown_from first h w rows all =
    let P : RowValue → Type 0 = λ row. IsRow (length row.cells) row in
    let window : All P (window_from first h rows) = All-take P h (drop first rows) (All-drop P first rows all) in
    let grown : All P (map (grown_row w) (window_from first h rows)) =
    All-map P (grown_row w) (window_from first h rows)
    (All-weaker P (λ row. P (grown_row w row)) (IsRow-grown_row w) (window_from first h rows) window) in
    All-append P (take first rows)
    (map (grown_row w) (window_from first h rows) ++ drop (first + h) rows) (All-take P first rows all)
    (All-append P (map (grown_row w) (window_from first h rows))
    (drop (first + h) rows) grown (All-drop P (first + h) rows all))

pub IsScrollback-grown_in_view : (h w : ℕ) (above : Scrollback) →
    IsScrollback above → IsScrollback (grown_in_view h w above)
unfolding grown_in_view
IsScrollback-grown_in_view h w above a =
    let n = length-grown_from (length above.rows - above.offset) h w above.rows (omega arith) in
    record {
      kept = omega (arith, n, a.kept);
      in_view = omega (arith, n, a.in_view);
      sound = All-grown_from (length above.rows - above.offset) h w above.rows a.sound;
    }

-- ---- The offset is set

pub IsScrollback-with_view : (h w n : ℕ) (above : Scrollback) → IsScrollback above →
    IsScrollback (with_view h w n above)
unfolding with_view
IsScrollback-with_view h w n above a =
    IsScrollback-grown_in_view h w (record above { offset = min n (length above.rows) })
    (record { kept = a.kept; in_view = omega arith; sound = a.sound })

pub with_view_is : (h w n offset : ℕ) (above : Scrollback) (rows : List RowValue) →
    offset ≡ min n (length above.rows) → rows ≡ grown_from (length above.rows - offset) h w above.rows →
    record { rows = rows; capacity = above.capacity; theoretical = above.theoretical; offset = offset }
    ≡ with_view h w n above
unfolding with_view grown_in_view
with_view_is h w n offset above rows e f =
    let g : rows ≡ grown_from (length above.rows - min n (length above.rows)) h w above.rows =
    f ∙ ap (λ (m : ℕ). grown_from (length above.rows - m) h w above.rows) e in
    λ i. record { rows = g i; capacity = above.capacity; theoretical = above.theoretical; offset = e i }

-- ---- Rows are appended

pub pushed_some : (h w : ℕ) (gone : List RowValue) (above : Scrollback) →
    0 < length gone → scrollback_after_push h w gone above ≡ grown_in_view h w (kept_after gone above)
pushed_some h w [] above s = absurd (omega arith)
pushed_some h w (row ∷ gone) above s = refl

pub reported_some : (gone : List RowValue) (above : Scrollback) → 0 < length gone →
    rows_reported gone above ≡ before_last above.capacity (rows_with_scrolled_off gone above)
reported_some [] above h = absurd (omega arith)
reported_some (row ∷ gone) above h = refl

pub IsScrollback-pushed : (h w : ℕ) (gone : List RowValue) (above : Scrollback) →
    All (IsRow w) gone → IsScrollback above → IsScrollback (scrollback_after_push h w gone above)
IsScrollback-pushed h w [] above g a = a
IsScrollback-pushed h w (row ∷ gone) above g a =
    IsScrollback-grown_in_view h w (kept_after (row ∷ gone) above) (IsScrollback-kept_after w (row ∷ gone) above g a)

kept_is : (gone : List RowValue) (above : Scrollback) (rows : List RowValue) (theoretical offset : ℕ) →
    rows ≡ last_of above.capacity (rows_with_scrolled_off gone above) → theoretical ≡ min (above.theoretical + length gone) greatest →
    offset ≡ (if above.offset == 0 then 0 else min (above.offset + length gone) (length rows)) →
    record { rows = rows; capacity = above.capacity; theoretical = theoretical; offset = offset }
    ≡ kept_after gone above
unfolding kept_after
kept_is gone above rows theoretical offset e t o =
    let p =
    o ∙ ap (λ (xs : List RowValue). if above.offset == 0 then 0 else min (above.offset + length gone) (length xs)) e in
    λ i. record { rows = e i; capacity = above.capacity; theoretical = t i; offset = p i }

-- The code's steps for appended rows give the scrollback that `kept_after` defines.
pub kept_by_steps : (gone : List RowValue) (above : Scrollback)
    (before kept : List RowValue) (theoretical offset len : ℕ) →
    before ≡ above.rows → kept ≡ last_of above.capacity (before ++ map trimmed_row gone) →
    theoretical ≡ min (above.theoretical + length gone) greatest → len ≡ length kept →
    offset ≡ (if above.offset == 0 then 0 else min (above.offset + length gone) len) →
    record { rows = kept; capacity = above.capacity; theoretical = theoretical; offset = offset }
    ≡ kept_after gone above
kept_by_steps gone above before kept theoretical offset len b e t l o =
    let stacks : kept ≡ last_of above.capacity (rows_with_scrolled_off gone above) =
    e ∙ ap (λ (xs : List RowValue). last_of above.capacity (xs ++ map trimmed_row gone)) b in
    kept_is gone above kept theoretical offset stacks t
    (o ∙ ap (λ (n : ℕ). if above.offset == 0 then 0 else min (above.offset + length gone) n) l)

pub reported_by_steps : {S : Type 0} (leaves : S → RowValue → S → Type 0)
    (gone : List RowValue) (above : Scrollback) (before : List RowValue) (old new : S) →
    0 < length gone →
    before ≡ above.rows → FoldsTo leaves old (before_last above.capacity (before ++ map trimmed_row gone)) new →
    FoldsTo leaves old (rows_reported gone above) new
reported_by_steps leaves gone above before old new s b told =
    let all = ap (λ (xs : List RowValue). before_last above.capacity (xs ++ map trimmed_row gone)) b
    ∙ sym (reported_some gone above s) in
    subst (λ (rows : List RowValue). FoldsTo leaves old rows new) all told

pub pushed_is : (h w : ℕ) (gone : List RowValue) (above : Scrollback)
    (kept rows : List RowValue) (theoretical offset : ℕ) →
    0 < length gone →
    record { rows = kept; capacity = above.capacity; theoretical = theoretical; offset = offset }
    ≡ kept_after gone above →
    rows ≡ grown_from (length kept - offset) h w kept →
    record { rows = rows; capacity = above.capacity; theoretical = theoretical; offset = offset }
    ≡ scrollback_after_push h w gone above
unfolding grown_in_view
pushed_is h w gone above kept rows theoretical offset s e f =
    let g : record { rows = rows; capacity = above.capacity; theoretical = theoretical; offset = offset }
    ≡ grown_in_view h w (record { rows = kept; capacity = above.capacity; theoretical = theoretical; offset = offset })
    = λ i. record { rows = f i; capacity = above.capacity; theoretical = theoretical; offset = offset } in
    g ∙ (ap (grown_in_view h w) e ∙ sym (pushed_some h w gone above s))

pub All-kept : (w c : ℕ) (gone rows before kept : List RowValue) → All (IsRow w) gone →
    All (λ row. IsRow (length row.cells) row) rows → before ≡ rows →
    kept ≡ last_of c (before ++ map trimmed_row gone) → All (λ row. IsRow (length row.cells) row) kept
All-kept w c gone rows before kept g r b e =
    let P : RowValue → Type 0 = λ row. IsRow (length row.cells) row in
    let stacks : kept ≡ last_of c (rows ++ map trimmed_row gone) =
    e ∙ ap (λ (xs : List RowValue). last_of c (xs ++ map trimmed_row gone)) b in
    All-same P kept (last_of c (rows ++ map trimmed_row gone)) stacks
    (All-drop P (length (rows ++ map trimmed_row gone) - c)
    (rows ++ map trimmed_row gone) (All-stacked w gone rows g r))

-- The blank rows that replace those that scrolled off are valid.
pub All-blanks : (w width n : ℕ) (rows blanks : List RowValue) → rows ≡ blanks →
    blanks ≡ replicate n (blank_row default_attrs width) → width ≡ w → All (IsRow w) rows
All-blanks w width n rows blanks r e c =
    let all : rows ≡ replicate n (blank_row default_attrs w) =
    r ∙ (e ∙ ap (λ (m : ℕ). replicate n (blank_row default_attrs m)) c) in
    All-same (IsRow w) rows (replicate n (blank_row default_attrs w)) all
    (All-replicate (IsRow w) n (blank_row default_attrs w) (IsRow-blank_row default_attrs w))

pub spare_made : (w width h n : ℕ) (gone : List RowValue) (above : Scrollback)
    (kept : List RowValue) (theoretical offset : ℕ) (spare : List RowValue) →
    record { rows = kept; capacity = above.capacity; theoretical = theoretical; offset = offset }
    ≡ kept_after gone above →
    narrow_rows w (in_view h (kept_after gone above)) ≤ n → spare ≡ replicate n (blank_row default_attrs width) →
    width ≡ w →
    AreSpare w (window_from (length kept - offset) h kept) spare
spare_made w width h n gone above kept theoretical offset spare e m s c =
    let all : spare ≡ replicate n (blank_row default_attrs w) =
    s ∙ ap (λ (k : ℕ). replicate n (blank_row default_attrs k)) c in
    record {
      blank =
          All-same (λ row. row ≡ blank_row default_attrs w) spare (replicate n (blank_row default_attrs w))
          all (All-replicate (λ row. row ≡ blank_row default_attrs w) n (blank_row default_attrs w) refl);
      enough = omega (
        arith,
        m,
        ap (λ (a : Scrollback). narrow_rows w (in_view h a)) e,
        ap length all,
        length-replicate n (blank_row default_attrs w),
      );
    }

-- ---- One row replaces the oldest, and none is displayed

nothing_grows : (first h w : ℕ) (rows : List RowValue) → length rows ≤ first → rows ≡ grown_from first h w rows
nothing_grows first h w rows f =
    let none : map (grown_row w) (window_from first h rows) ++ drop (first + h) rows ≡ [] =
    nil_from_length (map (grown_row w) (window_from first h rows) ++ drop (first + h) rows)
    (omega (
      arith,
      length-append (map (grown_row w) (window_from first h rows)) (drop (first + h) rows),
      length-map (window_from first h rows) (grown_row w),
      length-take h (drop first rows),
      length-drop first rows,
      length-drop (first + h) rows,
    )) in
    sym
    (ap (λ (xs : List RowValue). take first rows ++ xs) none ∙ (append-nil (take first rows) ∙ take_all first rows f))

pub turned_is : (h w : ℕ) (gone : List RowValue) (above : Scrollback) (rows : List RowValue) (theoretical : ℕ) →
    length above.rows ≡ above.capacity → 0 < above.capacity → above.offset ≡ 0 → length gone ≡ 1 →
    rows ≡ drop 1 above.rows ++ map trimmed_row gone → theoretical ≡ min (above.theoretical + length gone) greatest →
    record { rows = rows; capacity = above.capacity; theoretical = theoretical; offset = above.offset }
    ≡ scrollback_after_push h w gone above
turned_is h w gone above rows theoretical f c o n e t =
    let one : 1 ≡ length (rows_with_scrolled_off gone above) - above.capacity = omega (arith, length-stacked gone above) in
    let stacks : rows ≡ last_of above.capacity (rows_with_scrolled_off gone above) =
    e
    ∙ (sym (drop-append-le 1 above.rows (map trimmed_row gone) (omega arith))
    ∙ ap (λ (m : ℕ). drop m (rows_with_scrolled_off gone above)) one) in
    let offset : above.offset ≡ (if above.offset == 0 then 0 else min (above.offset + length gone) (length rows)) =
    grind (arith, o) in
    pushed_is h w gone above rows rows theoretical above.offset (omega arith)
    (kept_is gone above rows theoretical above.offset stacks t offset)
    (nothing_grows (length rows - above.offset) h w rows (omega arith))

-- If there is room for one more row and no row is displayed, appending a row gives the scrollback that `scrollback_after_push`
-- defines.
pub added_is : (h w : ℕ) (gone : List RowValue) (above : Scrollback) (rows : List RowValue) (theoretical : ℕ) →
    length above.rows < above.capacity → above.offset ≡ 0 → length gone ≡ 1 →
    rows ≡ above.rows ++ map trimmed_row gone → theoretical ≡ min (above.theoretical + length gone) greatest →
    record { rows = rows; capacity = above.capacity; theoretical = theoretical; offset = above.offset }
    ≡ scrollback_after_push h w gone above
added_is h w gone above rows theoretical f o n e t =
    let none : 0 ≡ length (rows_with_scrolled_off gone above) - above.capacity = omega (arith, length-stacked gone above) in
    let stacks : rows ≡ last_of above.capacity (rows_with_scrolled_off gone above) =
    e ∙ ap (λ (m : ℕ). drop m (rows_with_scrolled_off gone above)) none in
    let offset : above.offset ≡ (if above.offset == 0 then 0 else min (above.offset + length gone) (length rows)) =
    grind (arith, o) in
    pushed_is h w gone above rows rows theoretical above.offset (omega arith)
    (kept_is gone above rows theoretical above.offset stacks t offset)
    (nothing_grows (length rows - above.offset) h w rows (omega arith))

pub added_reports : (gone : List RowValue) (above : Scrollback) → length above.rows < above.capacity →
    length gone ≡ 1 → rows_reported gone above ≡ []
added_reports gone above room n =
    reported_some gone above (omega arith)
    ∙ nil_from_length (before_last above.capacity (rows_with_scrolled_off gone above))
    (length-take (length (rows_with_scrolled_off gone above) - above.capacity) (rows_with_scrolled_off gone above)
    ∙ omega (arith, length-stacked gone above))

pub turned_reports : (gone : List RowValue) (above : Scrollback) → length above.rows ≡ above.capacity →
    0 < above.capacity → length gone ≡ 1 → rows_reported gone above ≡ take 1 above.rows
turned_reports gone above f c n =
    let one : length (rows_with_scrolled_off gone above) - above.capacity ≡ 1 = omega (arith, length-stacked gone above) in
    reported_some gone above (omega arith)
    ∙ (ap (λ (m : ℕ). take m (rows_with_scrolled_off gone above)) one
    ∙ take-append-le 1 above.rows (map trimmed_row gone) (omega arith))

-- ---- Nothing is kept

pub passed_is : (h w : ℕ) (gone : List RowValue) (above : Scrollback) (theoretical : ℕ) → IsScrollback above →
    above.capacity ≡ 0 → 0 < length gone → theoretical ≡ min (above.theoretical + length gone) greatest →
    record { rows = above.rows; capacity = above.capacity; theoretical = theoretical; offset = above.offset }
    ≡ scrollback_after_push h w gone above
passed_is h w gone above theoretical a z s t =
    let none : above.rows ≡ [] = nil_from_length above.rows (omega (arith, a.kept)) in
    let all : above.rows ≡ last_of above.capacity (rows_with_scrolled_off gone above) =
    none ∙ sym (drop_all (length (rows_with_scrolled_off gone above) - above.capacity) (rows_with_scrolled_off gone above) (omega arith)) in
    let offset : above.offset
    ≡ (if above.offset == 0 then 0 else min (above.offset + length gone) (length above.rows)) =
    grind (arith, a.in_view, a.kept) in
    let nothing : ℕ → List RowValue = λ n. [] in
    pushed_is h w gone above above.rows above.rows theoretical above.offset
    s (kept_is gone above above.rows theoretical above.offset all t offset)
    (none
    ∙ sym (nil_from_length (grown_from (length above.rows - above.offset) h w above.rows)
    (length-grown_from (length above.rows - above.offset) h w above.rows (omega arith) ∙ omega (arith, a.kept))))

pub passed_reports : (gone : List RowValue) (above : Scrollback) → IsScrollback above →
    above.capacity ≡ 0 → 0 < length gone → rows_reported gone above ≡ map trimmed_row gone
passed_reports gone above a z s =
    let none : above.rows ≡ [] = nil_from_length above.rows (omega (arith, a.kept)) in
    let whole : rows_with_scrolled_off gone above ≡ map trimmed_row gone =
    ap (λ (xs : List RowValue). xs ++ map trimmed_row gone) none in
    reported_some gone above s
    ∙ (take_all (length (rows_with_scrolled_off gone above) - above.capacity) (rows_with_scrolled_off gone above) (omega arith) ∙ whole)
