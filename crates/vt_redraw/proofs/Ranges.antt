-- The operations of a whole row with its link and its break, and of a range of its columns.
use Rattle.std.proofs.Common.{◌≡◌, ◌≢◌, ◌⊎◌, ℕ, suc, ◌+◌, ◌<◌, ◌≤◌, Bool, true, List, [], ◌∷◌, ◌++◌, length, take, drop}
use Rattle.std.proofs.Common.{Some, inl, inr, refl, sym, ap, ◌∙◌, subst, arith, zero, ◌-◌, append-nil}
use Rattle.std.proofs.lemmas.List.{take-append-drop, length-take, length-drop}
use Rattle.vt_cells.specs.Cell.{CellValue, is_wide, blank, glyph, right_half, default_blank}
use Rattle.vt_cells.specs.Attrs.{default_attrs}
use Rattle.vt_rows.specs.Cells.{at, cells_after_cut}
use Rattle.vt_rows.specs.Row.{RowValue}
use Rattle.vt_grid.specs.Canvas.{Canvas}
use Rattle.vt_redraw.specs.declared.pen.Pen.{Pen}
use Rattle.vt_redraw.specs.Script.{Scripted, cells_written, last_column, row_break, pen_at}
use Rattle.vt_redraw.specs.Redraw.{row_written}
use Rattle.vt_redraw.specs.Items.{in_range, with_whole_start, with_whole_start_over, range_written, with_range}
use Rattle.vt_redraw.proofs.Edits.{Reads, Within, mid}
use Rattle.vt_redraw.proofs.Halves.{Paired, opened_paired, paired_loose, Sound}
use Rattle.vt_redraw.proofs.Places.{PrintsCells, Place, shown, Ready, Wrote}
use Rattle.vt_redraw.proofs.Touched.{in_then}
use Rattle.vt_redraw.proofs.Row.{Lets, row_nothing, row_equal, cells_draw}
use Rattle.vt_redraw.proofs.Link.{Broke, broken_draws}

-- ==== The operations of a whole row draw its cells.

-- ---- a whole row

pub drop_whole : (xs ys : List CellValue) → length xs ≡ length ys → xs ++ drop (length xs) ys ≡ xs
drop_whole [] [] h = refl
drop_whole [] (y ∷ ys) h = absurd (omega arith)
drop_whole (x ∷ xs) [] h = absurd (omega arith)
drop_whole (x ∷ xs) (y ∷ ys) h = ap (λ (z : List CellValue). x ∷ z) (drop_whole xs ys (omega arith))

pub no_tail : (xs ys : List CellValue) → length xs ≡ length ys → Paired (drop (length xs) ys)
no_tail [] [] h = tt
no_tail [] (y ∷ ys) h = absurd (omega arith)
no_tail (x ∷ xs) [] h = absurd (omega arith)
no_tail (x ∷ xs) (y ∷ ys) h = no_tail xs ys (omega arith)

-- The positions that may be touched if the row `x` differs from the terminal's row `y`.
pub record RowMay (May : ℕ → ℕ → Type 0) (width r : ℕ) (x y : RowValue) : Type 0 where
  pub lets : Lets May r 0 x.cells y.cells
  pub begin : May r 0
  pub second : is_wide (at x.cells 0) ≡ true → May r 1
  pub last : (k : ℕ) → last_column x.cells ≤ k → k < width → May r k

-- The cells of a row that differs from the terminal's row, and the break after them, are drawn.
differing_draws : (May : ℕ → ℕ → Type 0) (base : Canvas) (done below : List RowValue)
    (x y : RowValue) (o : CellValue) (r k height : ℕ) (pen : Pen) (wrapped : Bool) →
    Reads base height base.page.width → length done ≡ r → r + suc (length below) ≡ height →
    length x.cells ≡ base.page.width → Paired x.cells → length y.cells ≡ base.page.width →
    Ready x.cells y.cells [] o k wrapped → PrintsCells base.page.width x.cells →
    Within pen height base.page.width → RowMay May base.page.width r x y →
    Broke May (row_written r k pen wrapped x y.cells) base done below
    (mid base done below (shown [] o k x.cells y.cells) wrapped pen) x.cells x.wrapped height
unfolding row_written
differing_draws May base done below x y o r k height pen wrapped reads e rows w h v ready prints within may =
    let cells = cells_written r 0 pen wrapped k x.cells y.cells in
    let start = mid base done below (shown [] o k x.cells y.cells) wrapped pen in
    let place : Place base done below [] r 0 height (length y.cells) =
    record { reads = reads; above = e; rows = rows; before = refl; columns = omega arith } in
    let one = subst (λ (z : List CellValue). Wrote May cells base done below start z height)
    (drop_whole x.cells y.cells (w ∙ sym v))
    (cells_draw May base done below x.cells y.cells [] o r 0 k pen wrapped height place ready prints within may.lets) in
    let two = broken_draws May base done below x.cells cells.wrapped x.wrapped r
    height cells.pen reads e rows w h one.sound prints one.within may.last in
    let last = row_break r cells.pen cells.wrapped x.wrapped x.cells in
    record {
      draws =
          in_then May cells.ops last.ops start (mid base done below x.cells cells.wrapped cells.pen)
          (mid base done below x.cells last.wrapped last.pen) one.draws two.draws;
      within = two.within;
      keeps = two.keeps;
    }

same_row : (xs : List CellValue) (o : CellValue) (k : ℕ) → Paired (drop k xs) → shown [] o k xs xs ≡ xs
same_row xs o k h = ap (λ (z : List CellValue). take k xs ++ z) (opened_paired o (drop k xs) h) ∙ take-append-drop k xs

-- Drawing a row that the terminal displays already leaves it unchanged.
standing_draws : (May : ℕ → ℕ → Type 0) (base : Canvas) (done below : List RowValue)
    (x : RowValue) (o : CellValue) (r k height : ℕ) (pen : Pen) →
    Ready x.cells x.cells [] o k x.wrapped → Within pen height base.page.width →
    Broke May (row_written r k pen x.wrapped x x.cells) base done below
    (mid base done below (shown [] o k x.cells x.cells) x.wrapped pen) x.cells x.wrapped height
standing_draws May base done below x o r k height pen ready within =
    let start = mid base done below (shown [] o k x.cells x.cells) x.wrapped pen in
    subst (λ (v : Scripted). Broke May v base done below start x.cells x.wrapped height) (sym (row_nothing r k pen x))
    (record {
      draws = record {
        draws =
            ap (λ (z : List CellValue). Some (mid base done below z x.wrapped pen)) (same_row x.cells o k ready.new);
        touches = tt;
      };
      within = within;
      keeps = λ t. t;
    })

-- A row is drawn over the terminal's row; if both are equal, the terminal's row must have the same wrapped flag.
pub row_draws : (May : ℕ → ℕ → Type 0) (base : Canvas) (done below : List RowValue)
    (x y : RowValue) (o : CellValue) (r k height : ℕ) (pen : Pen) (wrapped : Bool) →
    Reads base height base.page.width → length done ≡ r → r + suc (length below) ≡ height →
    length x.cells ≡ base.page.width → Paired x.cells → length y.cells ≡ base.page.width →
    Ready x.cells y.cells [] o k wrapped → PrintsCells base.page.width x.cells → Within pen height base.page.width →
    (x ≡ y → wrapped ≡ y.wrapped) → (x ≢ y → RowMay May base.page.width r x y) →
    Broke May (row_written r k pen wrapped x y.cells) base done below
    (mid base done below (shown [] o k x.cells y.cells) wrapped pen) x.cells x.wrapped height
row_draws May base done below x y o r k height pen wrapped reads e rows w h v ready prints within same may =
    by_rows (row_equal x y)
  where
    Goal : RowValue → Bool → Type 0
    Goal z f =
        Ready x.cells z.cells [] o k f →
        Broke May (row_written r k pen f x z.cells) base done below
        (mid base done below (shown [] o k x.cells z.cells) f pen) x.cells x.wrapped height

    by_rows : (x ≡ y) ⊎ (x ≢ y) →
        Broke May (row_written r k pen wrapped x y.cells) base done below
        (mid base done below (shown [] o k x.cells y.cells) wrapped pen) x.cells x.wrapped height
    by_rows (inl t) =
        let f : x.wrapped ≡ wrapped = ap (λ (z : RowValue). z.wrapped) t ∙ sym (same t) in
        subst (λ (z : RowValue). Goal z wrapped) t
        (subst (λ (b : Bool). Goal x b) f (λ q. standing_draws May base done below x o r k height pen q within)) ready
    by_rows (inr ne) =
        differing_draws May base done below x y o r k height pen wrapped reads e rows w h v ready prints within (may ne)

-- ==== A row's item draws the range of its columns and nothing else.

-- The predicate that allows every position to be touched.
abbrev pub Any : ℕ → ℕ → Type 0
Any r c = Unit {0}

pub lets_any : (r c : ℕ) (xs ys : List CellValue) → Lets Any r c xs ys
lets_any r c [] ys = tt
lets_any r c (x ∷ xs) [] = tt
lets_any r c (blank a ∷ xs) (y ∷ ys) = (tt, lets_any r (c + 1) xs ys)
lets_any r c (glyph text wide a ∷ xs) (y ∷ ys) = (λ _. (tt, λ _. tt), lets_any r (c + 1) xs ys)
lets_any r c (right_half ∷ xs) (y ∷ ys) = lets_any r (c + 1) xs ys

pub any_row : (width r : ℕ) (x y : RowValue) → RowMay Any width r x y
any_row width r x y =
    record { lets = lets_any r 0 x.cells y.cells; begin = tt; second = λ _. tt; last = λ k low high. tt }

pub begun_paired : (xs : List CellValue) → Paired xs → with_whole_start xs ≡ xs
begun_paired [] h = refl
begun_paired (blank a ∷ xs) h = refl
begun_paired (glyph text wide a ∷ xs) h = refl
begun_paired (right_half ∷ xs) h = absurd h

pub begun_over_paired : (xs ys : List CellValue) → Paired xs → with_whole_start_over xs ys ≡ ys
begun_over_paired [] ys h = refl
begun_over_paired (blank a ∷ xs) ys h = refl
begun_over_paired (glyph text wide a ∷ xs) ys h = refl
begun_over_paired (right_half ∷ xs) ys h = absurd h

drop_more : (n m : ℕ) (xs : List CellValue) → drop n (drop m xs) ≡ drop (m + n) xs
drop_more n zero xs = let e : 0 + n ≡ n = omega arith in ap (λ (k : ℕ). drop k xs) (sym e)
drop_more n (suc m) [] = drop_none n ∙ sym (drop_none (suc m + n))
  where
    drop_none : (k : ℕ) → drop {A = CellValue} k [] ≡ []
    drop_none zero = refl
    drop_none (suc k) = refl
drop_more n (suc m) (x ∷ xs) =
    let e : suc m + n ≡ suc (m + n) = omega arith in drop_more n m xs ∙ ap (λ (k : ℕ). drop k (x ∷ xs)) (sym e)

prints_take : (width n : ℕ) (xs : List CellValue) → PrintsCells width xs → PrintsCells width (take n xs)
prints_take width zero xs h = tt
prints_take width (suc n) [] h = tt
prints_take width (suc n) (x ∷ xs) h = (h.0, prints_take width n xs h.1)

prints_drop : (width n : ℕ) (xs : List CellValue) → PrintsCells width xs → PrintsCells width (drop n xs)
prints_drop width zero xs h = h
prints_drop width (suc n) [] h = tt
prints_drop width (suc n) (x ∷ xs) h = prints_drop width n xs h.1

-- The range cuts no wide character of the row or of the row that the terminal displays.
pub record IsClean (start stop : ℕ) (xs ys : List CellValue) : Type 0 where
  pub before : Paired (take start ys)
  pub there : Paired (drop start ys)
  pub behind : Paired (drop stop ys)
  pub range : Paired (in_range start stop xs)

-- The preconditions for drawing a row's item.
pub record IsItem (base : Canvas) (done below : List RowValue)
    (r start stop height : ℕ) (xs ys : List CellValue) : Type 0 where
  pub reads : Reads base height base.page.width
  pub above : length done ≡ r
  pub rows : r + suc (length below) ≡ height
  pub self : length xs ≡ base.page.width
  pub other : length ys ≡ base.page.width
  pub nonempty : start ≤ stop
  pub inside : stop ≤ base.page.width
  pub prints : PrintsCells base.page.width xs
  pub clean : IsClean start stop xs ys

pub range_draws : (base : Canvas) (done below : List RowValue)
    (r start stop height : ℕ) (wrapped : Bool) (xs ys : List CellValue) →
    IsItem base done below r start stop height xs ys → Sound wrapped ys →
    Wrote Any (range_written r start stop wrapped xs ys) base done below
    (mid base done below ys wrapped (pen_at r start default_attrs)) (with_range start stop xs ys) height
range_draws base done below r start stop height wrapped xs ys item sound =
    let some = item.nonempty in
    let inside = item.inside in
    let self = item.self in
    let other = item.other in
    let rows = item.rows in
    let range = in_range start stop xs in
    let rest = drop start ys in
    let pre = take start ys in
    let clean = item.clean in
    let l1 = length-drop start xs in
    let l2 = length-take (stop - start) (drop start xs) in
    let l3 = length-drop start ys in
    let l4 = length-take start ys in
    let size : length range ≡ stop - start = omega arith in
    let tail : drop (length range) rest ≡ drop stop ys =
    drop_more (length range) start ys
    ∙ (let e : start + length range ≡ stop = omega arith in ap (λ (k : ℕ). drop k ys) e) in
    let whole : pre ++ cells_after_cut default_blank rest ≡ ys =
    ap (λ (z : List CellValue). pre ++ z) (opened_paired default_blank rest clean.there) ∙ take-append-drop start ys in
    let pen = pen_at r start default_attrs in
    let place : Place base done below pre r start height (length rest) =
    record { reads = item.reads; above = item.above; rows = rows; before = omega arith; columns = omega arith } in
    let ready : Ready range rest pre default_blank 0 wrapped = record {
      same = omega arith;
      tail = subst Paired (sym tail) clean.behind;
      le = omega arith;
      behind = subst Paired (sym (append-nil pre)) clean.before;
      new = clean.range;
      old = paired_loose rest clean.there;
      sound = subst (Sound wrapped) (sym whole) sound;
    } in
    let within : Within pen height base.page.width = record { row = omega arith; col = omega arith } in
    let drawn = cells_draw Any base done below range rest pre default_blank r start 0 pen wrapped height place ready
    (prints_take base.page.width (stop - start) (drop start xs) (prints_drop base.page.width start xs item.prints))
    within (lets_any r start range rest) in
    subst (λ (z : List CellValue). Wrote Any (range_written r start stop wrapped xs ys) base
    done below (mid base done below z wrapped pen) (with_range start stop xs ys) height)
    whole
    (subst (λ (z : List CellValue). Wrote Any (range_written r start stop wrapped xs ys) base done below
    (mid base done below (pre ++ cells_after_cut default_blank rest) wrapped pen) (pre ++ (range ++ z)) height)
    tail
    (subst (λ (z : List CellValue). Wrote Any (cells_written r start pen wrapped 0 z (with_whole_start_over range rest))
    base done below (mid base done below (pre ++ cells_after_cut default_blank rest) wrapped pen)
    (pre ++ (range ++ drop (length range) rest)) height)
    (sym (begun_paired range clean.range))
    (subst (λ (z : List CellValue). Wrote Any (cells_written r start pen wrapped 0 range z)
    base done below (mid base done below (pre ++ cells_after_cut default_blank rest) wrapped pen)
    (pre ++ (range ++ drop (length range) rest)) height)
    (sym (begun_over_paired range rest clean.range)) drawn)))
