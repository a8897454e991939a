-- Rows, on pages and in scrollback, that are equal except for trailing default blanks.
use Rattle.std.proofs.Common.{◌≡◌, ℕ, suc, ◌+◌, ◌<◌, ◌≤◌, ◌==◌, ◌&&◌, nat_lt, Bool, true, false, List, [], ◌∷◌, length}
use Rattle.std.proofs.Common.{refl, inl, inr, sym, ap, ap₂, ◌∙◌, arith, ◌-◌, ◌++◌, take, drop, map, subst, min}
use Rattle.std.specs.Prelude.{if◌then◌else◌, All}
use Rattle.std.specs.List.{list_all}
use Rattle.std.proofs.lemmas.Bool.{cases_lt, cases_eq, false_from_ne_true, cond_both}
use Rattle.std.proofs.lemmas.Bool.Decides.{nat_tests}
use Rattle.std.proofs.lemmas.List.{drop-drop, take-append-drop, append-nil}
use Rattle.std.proofs.lemmas.List.Elements.{All-append, All-drop, All-head, All-map, All-tail, All-take, All-weaker}
use Rattle.vt_cells.specs.Attrs.{default_attrs}
use Rattle.vt_cells.specs.Cell.{CellValue, default_blank, is_wide, is_right_half, is_default_blank}
use Rattle.vt_cells.proofs.Attributes.{same_attrs-itself}
use Rattle.vt_rows.specs.Cells.{at, IsPaired, moved_at, cells_after_resize}
use Rattle.vt_rows.specs.Row.{RowValue, IsRow, cells_without_end, trimmed_row, resized_row}
use Rattle.vt_rows.proofs.Edits.{at-past}
use Rattle.vt_rows.proofs.Moves.{at-moved, length-moved, IsRow-resized_row}
use Rattle.vt_rows.proofs.Rows.{at-trimmed, trimmed-none}
use Rattle.vt_grid.specs.Scrollback.{grown_row, Scrollback, before_last, grown_in_view, kept_after}
use Rattle.vt_grid.specs.Scrollback.{scrollback_after_push, rows_reported, rows_with_scrolled_off, with_view}
use Rattle.vt_grid.proofs.ScrollbackRows.{All-stacked}
use Rattle.vt_screen.specs.Streamed.{AreSameTrimmed}

-- ==== Rows that are equal except for trailing default blanks: trimming, extending and appending preserves this
-- relation, and such rows have the same text.

-- ---- cells

is_default : is_default_blank default_blank ≡ true
is_default = same_attrs-itself default_attrs

all_default : (cells : List CellValue) → ((k : ℕ) → at cells k ≡ default_blank) → list_all is_default_blank cells ≡ true
all_default [] f = refl
all_default (x ∷ xs) f = rw (ap is_default_blank (f 0) ∙ is_default) (all_default xs (λ k. f (suc k)))

trimmed-nothing : (cells : List CellValue) → list_all is_default_blank cells ≡ true → cells_without_end cells ≡ []
trimmed-nothing [] e = refl
trimmed-nothing (x ∷ xs) e = rw e refl

all-trimmed : (cells : List CellValue) → list_all is_default_blank (cells_without_end cells) ≡ list_all is_default_blank cells
all-trimmed [] = refl
all-trimmed (x ∷ xs) = by (list_all is_default_blank (x ∷ xs)) refl (all-trimmed xs) where
  by : (b : Bool) → list_all is_default_blank (x ∷ xs) ≡ b →
      list_all is_default_blank (cells_without_end xs) ≡ list_all is_default_blank xs →
      list_all is_default_blank (if b then [] else x ∷ cells_without_end xs) ≡ list_all is_default_blank (x ∷ xs)
  by true e ih = sym e
  by false e ih = ap (λ (b : Bool). is_default_blank x && b) ih

-- Two lists of cells that are equal in each column, with default blanks past the end, are equal once trimmed.
pub same_trimmed : (a b : List CellValue) → ((k : ℕ) → at a k ≡ at b k) → cells_without_end a ≡ cells_without_end b
same_trimmed [] b f = sym (trimmed-nothing b (all_default b (λ k. sym (f k))))
same_trimmed (x ∷ xs) [] f = trimmed-nothing (x ∷ xs) (all_default (x ∷ xs) (λ k. f k))
same_trimmed (x ∷ xs) (y ∷ ys) f =
    let ih = same_trimmed xs ys (λ k. f (suc k)) in
    let rest : list_all is_default_blank xs ≡ list_all is_default_blank ys =
    sym (all-trimmed xs) ∙ (ap (list_all is_default_blank) ih ∙ all-trimmed ys) in
    ap₂ (λ (z : CellValue) (b : Bool). if is_default_blank z && b then [] else z ∷ cells_without_end xs) (f 0) rest
    ∙ ap (λ (zs : List CellValue). if list_all is_default_blank (y ∷ ys) then [] else y ∷ zs) ih

grown_at : (n : ℕ) (cells : List CellValue) (k : ℕ) → length cells < n →
    IsPaired cells → k < n → moved_at n (λ k. k) cells k ≡ at cells k
grown_at n cells k l p h =
    let f : k ≡ 0 → is_right_half (at cells k) ≡ false = λ z. ap (λ (j : ℕ). is_right_half (at cells j)) z ∙ p.first in
    let w : n ≤ k + 1 → is_wide (at cells k) ≡ false =
    λ past. p.halves k ∙ ap is_right_half (at-past cells (k + 1) (omega arith)) in
    elim (cases_lt (k + 1) n) [
      | inl lt ↦
          elim (cases_eq k 0) [ inl z ↦ let r = f z in grind (arith, nat_tests) | inr pos ↦ grind (arith, nat_tests) ]
      | inr ge ↦ let v =
          w ge in elim (cases_eq k 0)
          [ inl z ↦ let r = f z in grind (arith, nat_tests) | inr pos ↦ grind (arith, nat_tests) ]
    ]

at-grown : (n : ℕ) (cells : List CellValue) → length cells < n →
    IsPaired cells → (k : ℕ) → at (cells_after_resize n cells) k ≡ at cells k
unfolding cells_after_resize
at-grown n cells l p k = elim (cases_lt k n) [
  | inl lt ↦ at-moved n (λ k. k) cells k lt ∙ grown_at n cells k l p lt
  | inr past ↦ let m =
      length-moved n (λ k. k) cells in at-past (cells_after_resize n cells) k (omega arith) ∙ sym (at-past cells k (omega arith))
]

-- ---- rows

pub trimmed_twice : (row : RowValue) → trimmed_row (trimmed_row row) ≡ trimmed_row row
trimmed_twice row =
    ap (λ (cells : List CellValue). record { cells = cells; wrapped = row.wrapped })
    (same_trimmed (cells_without_end row.cells) row.cells (at-trimmed row.cells))

-- A row that is wrapped has at least the given number of columns.
abbrev pub IsWide : ℕ → RowValue → Type 0
IsWide width row = row.wrapped ≡ true → width ≤ length row.cells

unwrapped : (width : ℕ) (row : RowValue) → IsWide width row → length row.cells < width → row.wrapped ≡ false
unwrapped width row w h = false_from_ne_true row.wrapped (λ t. omega (arith, w t))

pub trimmed_grown : (width : ℕ) (row : RowValue) → IsRow (length row.cells) row →
    IsWide width row → trimmed_row (grown_row width row) ≡ trimmed_row row
trimmed_grown width row r w = elim (cases_lt (length row.cells) width) [
  | inl lt ↦
      let narrow : nat_lt (length row.cells) width ≡ true = grind (arith, nat_tests) in
      let no = unwrapped width row w lt in
      let flag : (row.wrapped && (length row.cells == width)) ≡ row.wrapped = rw no refl in
      rw narrow (ap₂ (λ (cells : List CellValue) (wrapped : Bool). record { cells = cells; wrapped = wrapped })
      (same_trimmed (cells_after_resize width row.cells) row.cells (at-grown width row.cells lt r.paired)) flag)
  | inr ge ↦
      let wide : nat_lt (length row.cells) width ≡ false = grind (arith, nat_tests) in
      rw wide refl
]

-- ==== When rows are pushed into scrollback or displayed again, the rows reported and kept are the rows from before,
-- except for trailing default blanks.

pub map-append : {X Y : Type 0} (f : X → Y) (xs ys : List X) → map f (xs ++ ys) ≡ map f xs ++ map f ys
map-append f [] ys = refl
map-append f (x ∷ xs) ys = ap (λ (zs : List _). f x ∷ zs) (map-append f xs ys)

-- ---- concatenated lists of rows

pub alike_then : (a b c d : List RowValue) → AreSameTrimmed a b → AreSameTrimmed c d → AreSameTrimmed (a ++ c) (b ++ d)
alike_then a b c d e f =
    map-append trimmed_row a c ∙ (ap₂ (λ (xs ys : List RowValue). xs ++ ys) e f ∙ sym (map-append trimmed_row b d))

alike_trimmed : (rows : List RowValue) → AreSameTrimmed (map trimmed_row rows) rows
alike_trimmed [] = refl
alike_trimmed (row ∷ rows) =
    ap₂ (λ (x : RowValue) (xs : List RowValue). x ∷ xs) (trimmed_twice row) (alike_trimmed rows)

-- The rows of scrollback are valid, each in its own width.
abbrev pub AreSound : List RowValue → Type 0
AreSound rows = All (λ row. IsRow (length row.cells) row) rows

-- ---- displayed rows that are extended

-- No wide character of the row is split, and the row is as wide as the screen if it is wrapped.
abbrev IsFit : ℕ → RowValue → Type 0
IsFit width row = IsRow (length row.cells) row × IsWide width row

alike_grown : (width : ℕ) (rows : List RowValue) → All (IsFit width) rows → AreSameTrimmed (map (grown_row width) rows) rows
alike_grown width [] all = refl
alike_grown width (row ∷ rows) all =
    let fit = All-head (IsFit width) row rows all in
    ap₂ (λ (x : RowValue) (xs : List RowValue). x ∷ xs) (trimmed_grown width row fit.0 fit.1)
    (alike_grown width rows (All-tail (IsFit width) row rows all))

fit_all : (width : ℕ) (rows : List RowValue) → AreSound rows → All (IsWide width) rows → All (IsFit width) rows
fit_all width rows all wide = λ i d h. (all i d h, wide i d h)

pub alike_grown_in_view : (height width : ℕ) (above : Scrollback) → AreSound above.rows →
    All (IsWide width) above.rows → AreSameTrimmed (grown_in_view height width above).rows above.rows
unfolding grown_in_view
alike_grown_in_view height width above all wide =
    let first = length above.rows - above.offset in
    let rest = drop first above.rows in
    let seen = take height rest in
    let fit =
    All-take (IsFit width) height rest (All-drop (IsFit width) first above.rows (fit_all width above.rows all wide)) in
    let whole : take first above.rows ++ (seen ++ drop (first + height) above.rows) ≡ above.rows
    = ap (λ (xs : List RowValue). take first above.rows ++ (seen ++ xs))
    (sym (drop-drop height first above.rows ∙ ap (λ (n : ℕ). drop n above.rows) (omega arith)))
    ∙ (ap (λ (xs : List RowValue). take first above.rows ++ xs) (take-append-drop height rest)
    ∙ take-append-drop first above.rows) in
    alike_then (take first above.rows) (take first above.rows) _ (seen ++ drop (first + height) above.rows) refl
    (alike_then (map (grown_row width) seen) seen (drop (first + height) above.rows)
    (drop (first + height) above.rows) (alike_grown width seen fit) refl)
    ∙ ap (map trimmed_row) whole

-- A wrapped row that is extended is at least as wide as the screen.
wide_grown : (width : ℕ) (row : RowValue) → IsWide width row → IsWide width (grown_row width row)
unfolding cells_after_resize
wide_grown width row w =
    cond_both _ (resized_row width row) row (IsWide width)
    (λ _ h. let n = length-moved width (λ k. k) row.cells in omega (arith, n)) (λ _. w)

pub wide_grown_in_view : (height width : ℕ) (above : Scrollback) →
    All (IsWide width) above.rows → All (IsWide width) (grown_in_view height width above).rows
unfolding grown_in_view
wide_grown_in_view height width above all =
    let first = length above.rows - above.offset in
    let seen = take height (drop first above.rows) in
    let wide = All-take (IsWide width) height (drop first above.rows) (All-drop (IsWide width) first above.rows all) in
    All-append (IsWide width) (take first above.rows) _ (All-take (IsWide width) first above.rows all)
    (All-append (IsWide width) (map (grown_row width) seen) (drop (first + height) above.rows)
    (All-map (IsWide width) (grown_row width) seen
    (All-weaker (IsWide width) (λ row. IsWide width (grown_row width row)) (wide_grown width) seen wide))
    (All-drop (IsWide width) (first + height) above.rows all))

sound_grown : (width : ℕ) (row : RowValue) → IsRow (length row.cells) row →
    IsRow (length (grown_row width row).cells) (grown_row width row)
sound_grown width row r =
    cond_both (nat_lt (length row.cells) width) (resized_row width row) row (λ x. IsRow (length x.cells) x)
    (λ _. let s =
    IsRow-resized_row (length row.cells) width row r in subst
    (λ (n : ℕ). IsRow n (resized_row width row)) (sym s.columns) s)
    (λ _. r)

sound_grown_in_view : (height width : ℕ) (above : Scrollback) →
    AreSound above.rows → AreSound (grown_in_view height width above).rows
unfolding grown_in_view
sound_grown_in_view height width above all =
    let P : RowValue → Type 0 = λ row. IsRow (length row.cells) row in
    let first = length above.rows - above.offset in
    let seen = take height (drop first above.rows) in
    All-append P (take first above.rows) _ (All-take P first above.rows all)
    (All-append P (map (grown_row width) seen) (drop (first + height) above.rows)
    (All-map P (grown_row width) seen
    (All-weaker P (λ row. P (grown_row width row)) (sound_grown width) seen
    (All-take P height (drop first above.rows) (All-drop P first above.rows all))))
    (All-drop P (first + height) above.rows all))

pub sound_viewed : (height width n : ℕ) (above : Scrollback) →
    AreSound above.rows → AreSound (with_view height width n above).rows
unfolding with_view
sound_viewed height width n above sound =
    sound_grown_in_view height width (record above { offset = min n (length above.rows) }) sound

-- ---- rows are pushed

-- Trimming a wrapped row of a page removes no column.
wide_trimmed : (width : ℕ) (row : RowValue) → IsRow width row → IsWide width (trimmed_row row)
wide_trimmed width row r h =
    subst (λ (cells : List _). width ≤ length cells)
    (sym (trimmed-none row.cells (r.flagged h))) (omega (arith, r.columns))

pub wide_stacked : (width : ℕ) (gone : List RowValue) (above : Scrollback) →
    All (IsRow width) gone → All (IsWide width) above.rows → All (IsWide width) (rows_with_scrolled_off gone above)
wide_stacked width gone above rows wide =
    All-append (IsWide width) above.rows (map trimmed_row gone) wide
    (All-map (IsWide width) trimmed_row gone
    (All-weaker (IsRow width) (λ row. IsWide width (trimmed_row row)) (wide_trimmed width) gone rows))

sound_kept : (width : ℕ) (gone : List RowValue) (above : Scrollback) →
    All (IsRow width) gone → AreSound above.rows → AreSound (kept_after gone above).rows
unfolding kept_after
sound_kept width gone above rows sound =
    All-drop (λ row. IsRow (length row.cells) row) (length (rows_with_scrolled_off gone above) - above.capacity)
    (rows_with_scrolled_off gone above) (All-stacked width gone above.rows rows sound)

kept_rows : (width : ℕ) (gone : List RowValue) (above : Scrollback) →
    All (IsRow width) gone → AreSound above.rows → All (IsWide width) above.rows →
    AreSound (kept_after gone above).rows × All (IsWide width) (kept_after gone above).rows
unfolding kept_after
kept_rows width gone above rows sound wide =
    let n = length (rows_with_scrolled_off gone above) - above.capacity in (
      All-drop (λ row. IsRow (length row.cells) row) n (rows_with_scrolled_off gone above)
          (All-stacked width gone above.rows rows sound),
      All-drop (IsWide width) n (rows_with_scrolled_off gone above) (wide_stacked width gone above rows wide),
    )

told_and_kept : (gone : List RowValue) (above : Scrollback) →
    before_last above.capacity (rows_with_scrolled_off gone above) ++ (kept_after gone above).rows ≡ rows_with_scrolled_off gone above
unfolding kept_after
told_and_kept gone above = take-append-drop (length (rows_with_scrolled_off gone above) - above.capacity) (rows_with_scrolled_off gone above)

-- The rows reported and kept are those kept before and those that scrolled off, except for trailing default blanks.
pub alike_pushed : (height width : ℕ) (gone : List RowValue) (above : Scrollback)
    → All (IsRow width) gone → AreSound above.rows → All (IsWide width) above.rows
    → AreSameTrimmed (rows_reported gone above ++ (scrollback_after_push height width gone above).rows) (above.rows ++ gone)
alike_pushed height width [] above rows sound wide = ap (map trimmed_row) (sym (append-nil above.rows))
alike_pushed height width (row ∷ gone) above rows sound wide =
    let all = row ∷ gone in
    let k = kept_rows width all above rows sound wide in
    alike_then (before_last above.capacity (rows_with_scrolled_off all above)) (before_last above.capacity (rows_with_scrolled_off all above))
    (scrollback_after_push height width all above).rows (kept_after all above).rows refl
    (alike_grown_in_view height width (kept_after all above) k.0 k.1)
    ∙ (ap (map trimmed_row) (told_and_kept all above)
    ∙ alike_then above.rows above.rows (map trimmed_row all) all refl (alike_trimmed all))

pub wide_pushed : (height width : ℕ) (gone : List RowValue) (above : Scrollback) → All (IsRow width) gone →
    AreSound above.rows → All (IsWide width) above.rows → All (IsWide width) (scrollback_after_push height width gone above).rows
wide_pushed height width [] above rows sound wide = wide
wide_pushed height width (row ∷ gone) above rows sound wide =
    wide_grown_in_view height width (kept_after (row ∷ gone) above)
    (kept_rows width (row ∷ gone) above rows sound wide).1

-- ---- scrolling back

pub alike_viewed : (height width n : ℕ) (above : Scrollback) → AreSound above.rows →
    All (IsWide width) above.rows → AreSameTrimmed (with_view height width n above).rows above.rows
unfolding with_view
alike_viewed height width n above sound wide =
    alike_grown_in_view height width (record above { offset = min n (length above.rows) }) sound wide

pub wide_viewed : (height width n : ℕ) (above : Scrollback) →
    All (IsWide width) above.rows → All (IsWide width) (with_view height width n above).rows
unfolding with_view
wide_viewed height width n above wide =
    wide_grown_in_view height width (record above { offset = min n (length above.rows) }) wide

pub sound_pushed : (height width : ℕ) (gone : List RowValue) (above : Scrollback) →
    All (IsRow width) gone → AreSound above.rows → AreSound (scrollback_after_push height width gone above).rows
sound_pushed height width [] above rows sound = sound
sound_pushed height width (row ∷ gone) above rows sound =
    sound_grown_in_view height width (kept_after (row ∷ gone) above) (sound_kept width (row ∷ gone) above rows sound)
