-- Rows in sequence, each linked with the row above it, touch only positions near rows that differ.
use Rattle.std.proofs.Common.{◌≡◌, ◌≢◌, ◌⊎◌, ℕ, suc, ◌+◌, ◌<◌, ◌≤◌, ◌&&◌, ◌||◌, Bool, true, false, not, List, [], ◌∷◌}
use Rattle.std.proofs.Common.{◌++◌, length, drop, Some, inl, inr, refl, sym, ap, ◌∙◌, subst, append_assoc, arith, ◌-◌}
use Rattle.std.proofs.Common.{◌==◌, get_or}
use Rattle.std.specs.List.{AllByRecursion}
use Rattle.std.proofs.lemmas.Bool.{cond_both}
use Rattle.std.proofs.lemmas.List.{length-append}
use Rattle.std.specs.Prelude.{if◌then◌else◌}
use Rattle.std.proofs.lemmas.Bool.Decides.{nat_tests}
use Rattle.vt_cells.specs.Cell.{CellValue, blank, glyph, right_half, default_blank, is_wide, is_right_half, is_glyph}
use Rattle.vt_cells.specs.Cell.{same_cell}
use Rattle.vt_cells.specs.Op.{Op}
use Rattle.vt_cells.specs.Attrs.{default_attrs}
use Rattle.vt_rows.specs.Row.{RowValue, IsRow, blank_row}
use Rattle.vt_rows.specs.Cells.{at, IsPaired}
use Rattle.vt_rows.proofs.Edits.{not_both}
use Rattle.vt_grid.specs.Canvas.{Canvas}
use Rattle.vt_redraw.specs.declared.pen.Pen.{Pen}
use Rattle.vt_redraw.specs.Script.{Scripted, ops_then, is_torn, Linked, no_link, first_written, starts_other}
use Rattle.vt_redraw.specs.Script.{after_last_glyph, is_at, last_column, ops_then_link, row_link}
use Rattle.vt_redraw.specs.Redraw.{row_written, link_of, rows_below, rows_written}
use Rattle.vt_redraw.specs.Picture.{Picture}
use Rattle.vt_redraw.specs.Locality.{row_of_picture, Differs, IsNear, begin_of, stands_alike, IsLocal}
use Rattle.vt_redraw.proofs.Edits.{at_pen, Reads, Within, row_of, mid, two, two_mid}
use Rattle.vt_redraw.proofs.Halves.{Paired, opened_paired, Sound, paired_of}
use Rattle.vt_redraw.proofs.Texts.{no_tear}
use Rattle.vt_redraw.proofs.Touched.{DrawsIn, in_then, in_to}
use Rattle.vt_redraw.proofs.Row.{row_nothing, Lets}
use Rattle.vt_redraw.proofs.Places.{PrintsCells, shown}
use Rattle.vt_redraw.proofs.Ranges.{RowMay, row_draws}
use Rattle.vt_redraw.proofs.Joining.{Joins, ready_start, no_join, link_draws}

-- ==== Rows in sequence, each linked with the row above it.

-- ---- the rows

-- The row is valid for the given width: no wide character is cut, and it is wrapped only if its last column is not
-- blank.
pub record Stands (width : ℕ) (row : RowValue) : Type 0 where
  pub columns : length row.cells ≡ width
  pub paired : Paired row.cells
  pub sound : Sound row.wrapped row.cells

-- The last row is not wrapped.
abbrev pub ends_unwrapped : RowValue → List RowValue → Type 0
ends_unwrapped x [] = x.wrapped ≡ false
ends_unwrapped x (y ∷ ys) = ends_unwrapped y ys

pub record Drew (May : ℕ → ℕ → Type 0) (w : Scripted) (base : Canvas)
    (start : Canvas) (rows : List RowValue) (height : ℕ) : Type 0 where
  pub draws : DrawsIn May w.ops start (at_pen base rows w.pen)
  pub within : Within w.pen height base.page.width

drew_after : (May : ℕ → ℕ → Type 0) (ops : List Op) (w : Scripted)
    (base a b : Canvas) (rows : List RowValue) (height : ℕ) →
    DrawsIn May ops a b → Drew May w base b rows height → Drew May (ops_then ops w) base a rows height
drew_after May ops w base a b rows height h k =
    record { draws = in_then May ops w.ops a b (at_pen base rows w.pen) h k.draws; within = k.within }

-- A row of the terminal that is wrapped only if the row of the picture is, which is not, is not wrapped either.
pub same_wrapped : (is_wrapped wrapped : Bool) → wrapped ≡ false → (is_wrapped ≡ true → wrapped ≡ true) →
    is_wrapped ≡ wrapped
same_wrapped true wrapped h k = sym (k refl)
same_wrapped false wrapped h k = sym h

pub step_joins : (May : ℕ → ℕ → Type 0) (base : Canvas) (done below : List RowValue)
    (above x y : RowValue) (wrapped_above : Bool) (r height : ℕ) (pen : Pen) →
    Reads base height base.page.width → length done ≡ r → r + suc (suc (length below)) ≡ height →
    Stands base.page.width above → Stands base.page.width x → Stands base.page.width y →
    PrintsCells base.page.width above.cells → PrintsCells base.page.width x.cells →
    (wrapped_above ≡ true → above.wrapped ≡ true) → Within pen height base.page.width →
    (wrapped_above ≡ false → above.wrapped ≡ true → (k : ℕ) → last_column above.cells ≤ k → k < base.page.width
    → May r k) →
    (((wrapped_above ≡ false) × (above.wrapped ≡ true)) ⊎ (x ≢ y) → RowMay May base.page.width (r + 1) x y) →
    Joins May pen.form pen.is_shifted (link_of r pen above wrapped_above x y) base done below
    (two base done below above.cells wrapped_above y.cells y.wrapped pen) above.cells above.wrapped x.cells
    y.cells height
step_joins May base done below above x y wrapped_above r height pen reads
    e rows ha hx hy above_prints prints keeps within last near =
    let start = two base done below above.cells wrapped_above y.cells y.wrapped pen in
    cond_both above.wrapped (row_link r pen above.cells wrapped_above y.wrapped x.cells y.cells) (no_link pen y.wrapped)
    (λ (j : Linked). Joins May pen.form pen.is_shifted j base done below start above.cells above.wrapped x.cells y.cells height)
    (λ (t : above.wrapped ≡ true).
    subst (λ (z : Bool). Joins May pen.form pen.is_shifted
    (row_link r pen above.cells wrapped_above y.wrapped x.cells y.cells)
    base done below start above.cells z x.cells y.cells height)
    (sym t)
    (link_draws May base done below above.cells x.cells y.cells wrapped_above y.wrapped r height pen reads e
    rows ha.columns
    hx.columns hy.columns ha.paired (ha.sound t) above_prints hx.paired hy.paired hy.sound prints within (λ f. last f t)
    (λ d. let m = near (by_cases t d) in (m.lets, m.begin, m.second))))
    (λ (t : above.wrapped ≡ false).
    no_join May base done below above.cells x.cells y.cells wrapped_above above.wrapped y.wrapped pen height
    (same_wrapped wrapped_above above.wrapped t keeps) (hx.columns ∙ sym hy.columns) hx.paired hy.paired
    hy.sound within)
  where
    by_cases : above.wrapped ≡ true → (wrapped_above ≡ false) ⊎ (x.cells ≢ y.cells) →
        ((wrapped_above ≡ false) × (above.wrapped ≡ true)) ⊎ (x ≢ y)
    by_cases t (inl f) = inl (f, t)
    by_cases t (inr ne) = inr (λ q. ne (ap (λ (z : RowValue). z.cells) q))

-- ---- a row that is equal stays wrapped

not_torn : (xs : List CellValue) → Paired xs → is_torn xs ≡ false
not_torn [] h = refl
not_torn (blank a ∷ xs) h = refl
not_torn (glyph text wide a ∷ xs) h = refl
not_torn (right_half ∷ xs) h = absurd h

first_same : (r : ℕ) (pen : Pen) (wrapped : Bool) (xs : List CellValue) →
    Paired xs → Sound wrapped xs → (first_written r pen wrapped xs xs).wrapped ≡ wrapped
first_same r pen wrapped [] h sound = refl
first_same r pen wrapped (right_half ∷ xs) h sound = refl
first_same r pen true (blank a ∷ []) h sound = let k = sound refl in absurd (cc)
first_same r pen false (blank a ∷ []) h sound = refl
first_same r pen wrapped (blank a ∷ z ∷ zs) h sound = grind (arith)
first_same r pen wrapped (glyph text false a ∷ xs) h sound = no_tear wrapped (is_torn (drop 1 xs))
first_same r pen wrapped (glyph text true a ∷ []) h sound = absurd h
first_same r pen wrapped (glyph text true a ∷ blank b ∷ xs) h sound = absurd h
first_same r pen wrapped (glyph text true a ∷ glyph other wide b ∷ xs) h sound = absurd h
first_same r pen wrapped (glyph text true a ∷ right_half ∷ xs) h sound = let t = not_torn xs h in grind (arith, t)

linked_same : (r : ℕ) (pen : Pen) (above : List CellValue) (wrapped_above wrapped : Bool) (xs : List CellValue) →
    Paired xs → Sound wrapped xs → (row_link r pen above wrapped_above wrapped xs xs).wrapped ≡ wrapped
unfolding row_link
linked_same r pen above wrapped_above wrapped xs h sound =
    cond_both (not wrapped_above || (is_at pen r (length above) && starts_other xs xs))
    (ops_then_link (after_last_glyph r pen above).ops
    (first_written (r + 1) (after_last_glyph r pen above).pen wrapped xs xs))
    (no_link pen wrapped) (λ (j : Linked). j.wrapped ≡ wrapped)
    (λ _. first_same (r + 1) (after_last_glyph r pen above).pen wrapped xs h sound) (λ _. refl)

pub link_same : (r : ℕ) (pen : Pen) (above : RowValue) (wrapped_above : Bool) (x y : RowValue) → Paired x.cells →
    Sound y.wrapped x.cells → x ≡ y → (link_of r pen above wrapped_above x y).wrapped ≡ y.wrapped
link_same r pen above wrapped_above x y h sound e =
    cond_both above.wrapped (row_link r pen above.cells wrapped_above y.wrapped x.cells y.cells)
    (no_link pen y.wrapped) (λ (j : Linked). j.wrapped ≡ y.wrapped)
    (λ _. subst (λ (z : List CellValue). (row_link r pen above.cells wrapped_above y.wrapped x.cells z).wrapped
    ≡ y.wrapped)
    (ap (λ (z : RowValue). z.cells) e) (linked_same r pen above.cells wrapped_above y.wrapped x.cells h sound))
    (λ _. refl)

row_same : (r k : ℕ) (pen : Pen) (wrapped : Bool) (x y : RowValue) → x ≡ y →
    wrapped ≡ y.wrapped → (row_written r k pen wrapped x y.cells).wrapped ≡ x.wrapped
row_same r k pen wrapped x y e f =
    ap (λ (b : Bool). (row_written r k pen b x y.cells).wrapped) (f ∙ ap (λ (z : RowValue). z.wrapped) (sym e))
    ∙ (ap (λ (z : RowValue). (row_written r k pen x.wrapped x z.cells).wrapped) (sym e)
    ∙ ap (λ (w : Scripted). w.wrapped) (row_nothing r k pen x))

-- If a row must be wrapped and the terminal's row ceased to be wrapped, the two rows differ.
pub fell : (r k : ℕ) (pen : Pen) (wrapped : Bool) (x y : RowValue) → (x ≡ y → wrapped ≡ y.wrapped) →
    (row_written r k pen wrapped x y.cells).wrapped ≡ false → x.wrapped ≡ true → x ≢ y
fell r k pen wrapped x y same f t e = let s = row_same r k pen wrapped x y e (same e) in cc

-- ---- rows in sequence

abbrev pub PrintsRow : ℕ → RowValue → Type 0
PrintsRow width row = PrintsCells width row.cells

-- `May` holds for all positions that may be touched below row r: those of rows that differ, and of rows directly below
-- such a row.
abbrev pub BelowMay : (ℕ → ℕ → Type 0) → (width r : ℕ) → (above other : RowValue) → (xs ys : List RowValue) → Type 0
BelowMay May width r above other [] ys = Unit {0}
BelowMay May width r above other (x ∷ xs) [] = Unit {0}
BelowMay May width r above other (x ∷ xs) (y ∷ ys) =
    ((above ≢ other) ⊎ (x ≢ y) → RowMay May width (r + 1) x y) × BelowMay May width (r + 1) x y xs ys

below_draw : (May : ℕ → ℕ → Type 0) (base : Canvas) (xs ys done : List RowValue)
    (above other : RowValue) (wrapped_above : Bool) (r height : ℕ) (pen : Pen) →
    Reads base height base.page.width → length done ≡ r → r + suc (length xs) ≡ height → length xs ≡ length ys →
    Stands base.page.width above → AllByRecursion (Stands base.page.width) xs →
    AllByRecursion (Stands base.page.width) ys → PrintsRow base.page.width above →
    AllByRecursion (PrintsRow base.page.width) xs →
    (wrapped_above ≡ true → above.wrapped ≡ true) → (wrapped_above ≡ false → above.wrapped ≡ true → above ≢ other) →
    ends_unwrapped above xs → Within pen height base.page.width →
    (above ≢ other → RowMay May base.page.width r above other) → BelowMay May base.page.width r above other xs ys →
    Drew May (rows_below r pen above wrapped_above xs ys) base
    (at_pen base (done ++ row_of above.cells wrapped_above ∷ ys) pen) (done ++ above ∷ xs) height
unfolding rows_below
below_draw May base [] [] done above other wrapped_above r height pen reads e rows
    same ha hx hy above_prints prints keeps falls last within top may =
    record {
      draws = record {
        draws =
            ap (λ (z : Bool). Some (at_pen base (done ++ row_of above.cells z ∷ []) pen))
            (same_wrapped wrapped_above above.wrapped last keeps);
        touches = tt;
      };
      within = within;
    }
below_draw May base [] (y ∷ ys) done above other wrapped_above r height pen reads e
    rows same ha hx hy above_prints prints keeps falls last within top may = absurd (omega arith)
below_draw May base (x ∷ xs) [] done above other wrapped_above r height pen reads e
    rows same ha hx hy above_prints prints keeps falls last within top may = absurd (omega arith)
below_draw May base (x ∷ xs) (y ∷ ys) done above other wrapped_above r height pen reads
    e rows same ha hx hy above_prints prints keeps falls last within top may =
    let link = link_of r pen above wrapped_above x y in
    let row = row_written (r + 1) link.settled link.pen link.wrapped x y.cells in
    let over = done ++ above ∷ [] in
    let n : length over ≡ r + 1 = let l = length-append done (above ∷ []) in omega arith in
    let one = step_joins May base done ys above x y wrapped_above r height pen reads e (omega arith) ha hx.0 hy.0
    above_prints prints.0 keeps within (λ f t. (top (falls f t)).last) (λ d. may.0 (by_cases falls d)) in
    let wrapped : x ≡ y → link.wrapped ≡ y.wrapped =
    λ q. link_same r pen above wrapped_above x y hx.0.paired
    (subst (λ (b : Bool). Sound b x.cells) (ap (λ (z : RowValue). z.wrapped) q) hx.0.sound) q in
    let two = row_draws May base over ys x y one.torn (r + 1) link.settled height link.pen link.wrapped reads n
    (omega arith) hx.0.columns hx.0.paired hy.0.columns one.ready prints.0 one.within wrapped (λ ne. may.0 (inr ne)) in
    let rest = below_draw May base xs ys over x y row.wrapped (r + 1) height row.pen
    reads n (omega arith) (omega arith) hx.0 hx.1 hy.1 prints.0 prints.1 two.keeps
    (fell (r + 1) link.settled link.pen link.wrapped x y wrapped) last two.within (λ ne. may.0 (inr ne)) may.1 in
    let w = rows_below (r + 1) row.pen x row.wrapped xs ys in
    let start = at_pen base (done ++ row_of above.cells wrapped_above ∷ y ∷ ys) pen in
    let middle = mid base over ys (shown [] one.torn link.settled x.cells y.cells) link.wrapped link.pen in
    let end = mid base over ys x.cells row.wrapped row.pen in
    drew_after May (link.ops ++ row.ops) w base start end (done ++ above ∷ x ∷ xs) height
    (in_then May link.ops row.ops start middle end
    (in_to May link.ops start _ middle one.draws
    (two_mid base done ys above.cells above.wrapped
    (shown [] one.torn link.settled x.cells y.cells) link.wrapped link.pen))
    two.draws)
    (subst (λ (z : List RowValue). Drew May w base end z height) (append_assoc done (above ∷ []) (x ∷ xs)) rest)
  where
    by_cases : (wrapped_above ≡ false → above.wrapped ≡ true → above ≢ other) →
        ((wrapped_above ≡ false) × (above.wrapped ≡ true)) ⊎ (x ≢ y) → (above ≢ other) ⊎ (x ≢ y)
    by_cases falls (inl both) = inl (falls both.0 both.1)
    by_cases falls (inr ne) = inr ne

abbrev pub flags_end : List RowValue → Type 0
flags_end [] = Unit {0}
flags_end (x ∷ xs) = ends_unwrapped x xs

-- `May` holds for all positions that drawing the rows may touch.
abbrev pub RowsMay : (ℕ → ℕ → Type 0) → (width : ℕ) → (xs ys : List RowValue) → Type 0
RowsMay May width [] ys = Unit {0}
RowsMay May width (x ∷ xs) [] = Unit {0}
RowsMay May width (x ∷ xs) (y ∷ ys) = (x ≢ y → RowMay May width 0 x y) × BelowMay May width 0 x y xs ys

-- Drawing the rows turns the rows that the terminal displays into those of the new picture.
pub rows_draw : (May : ℕ → ℕ → Type 0) (base : Canvas) (xs ys : List RowValue) (height : ℕ) (pen : Pen) →
    Reads base height base.page.width → length xs ≡ height → length ys ≡ height →
    AllByRecursion (Stands base.page.width) xs → AllByRecursion (Stands base.page.width) ys →
    AllByRecursion (PrintsRow base.page.width) xs → flags_end xs → Within pen height base.page.width →
    RowsMay May base.page.width xs ys → Drew May (rows_written pen xs ys) base (at_pen base ys pen) xs height
unfolding rows_written
rows_draw May base [] ys height pen reads size same hx hy prints last within may =
    let row = within.row in absurd (omega arith)
rows_draw May base (x ∷ xs) [] height pen reads size same hx hy prints last within may = absurd (omega arith)
rows_draw May base (x ∷ xs) (y ∷ ys) height pen reads size same hx hy prints last within may =
    let row = row_written 0 0 pen y.wrapped x y.cells in
    let w = rows_below 0 row.pen x row.wrapped xs ys in
    let ready =
    ready_start x.cells y.cells y.wrapped (hx.0.columns ∙ sym hy.0.columns) hx.0.paired hy.0.paired hy.0.sound in
    let one = row_draws May base [] ys x y default_blank 0 0 height pen y.wrapped reads refl
    (omega arith) hx.0.columns hx.0.paired hy.0.columns ready prints.0 within (λ _. refl) may.0 in
    let start = at_pen base (y ∷ ys) pen in
    let end = mid base [] ys x.cells row.wrapped row.pen in
    drew_after May row.ops w base start end (x ∷ xs) height
    (subst (λ (z : List CellValue). DrawsIn May row.ops (mid base [] ys z y.wrapped pen) end)
    (opened_paired default_blank y.cells hy.0.paired) one.draws)
    (below_draw May base xs ys [] x y row.wrapped 0 height row.pen reads refl (omega arith) (omega arith) hx.0
    hx.1 hy.1 prints.0 prints.1 one.keeps (fell 0 0 pen y.wrapped x y (λ _. refl)) last one.within may.0 may.1)

-- ==== The rows of a difference touch only positions near rows that differ.

-- ---- cells that are not equal

alike_from : (xs ys : List CellValue) (k g : ℕ) → begin_of xs k ≡ g →
    (is_glyph (at xs g) && same_cell (at xs g) (at ys g)) ≡ false → stands_alike xs ys k ≡ false
alike_from xs ys k g e h = ap (λ (j : ℕ). is_glyph (at xs j) && same_cell (at xs j) (at ys j)) e ∙ h

begins_here : (xs : List CellValue) (k : ℕ) (x : CellValue) → at xs k ≡ x → is_right_half x ≡ false → begin_of xs k ≡ k
begins_here xs k x e h =
    ap (λ (z : CellValue). if is_right_half z then k - 1 else k) e ∙ ap (λ (b : Bool). if b then k - 1 else k) h

and_no : (a b : Bool) → b ≡ false → (a && b) ≡ false
and_no a b h = grind (arith, h)

may_blank : (self prev : Picture) (r c : ℕ) (x : CellValue) → IsNear self prev r →
    at (row_of_picture self r).cells c ≡ x → is_right_half x ≡ false → is_glyph x ≡ false → IsLocal self prev r c
may_blank self prev r c x near e h g =
    let xs = (row_of_picture self r).cells in
    let ys = (row_of_picture prev r).cells in
    let n : (is_glyph (at xs c) && same_cell (at xs c) (at ys c)) ≡ false =
    ap (λ (z : CellValue). is_glyph z && same_cell z (at ys c)) e ∙ ap (λ (b : Bool). b && same_cell x (at ys c)) g in
    let no = alike_from xs ys c c (begins_here xs c x e h) n in
    inl (near, λ t. absurd (cc))

other_glyph : (xs ys : List CellValue) (c : ℕ) (x y : CellValue) → at xs c ≡ x → at ys c ≡ y →
    same_cell x y ≡ false → (is_glyph (at xs c) && same_cell (at xs c) (at ys c)) ≡ false
other_glyph xs ys c x y e f s =
    and_no (is_glyph (at xs c)) (same_cell (at xs c) (at ys c))
    (ap (λ (z : CellValue). same_cell z (at ys c)) e ∙ (ap (same_cell x) f ∙ s))

may_glyph : (self prev : Picture) (r c : ℕ) (x y : CellValue) → IsNear self prev r →
    at (row_of_picture self r).cells c ≡ x → at (row_of_picture prev r).cells c ≡ y →
    is_right_half x ≡ false → same_cell x y ≡ false → IsLocal self prev r c
may_glyph self prev r c x y near e f h s =
    let xs = (row_of_picture self r).cells in
    let ys = (row_of_picture prev r).cells in
    let no = alike_from xs ys c c (begins_here xs c x e h) (other_glyph xs ys c x y e f s) in
    inl (near, λ t. absurd (cc))

may_right : (self prev : Picture) (r c : ℕ) (x y : CellValue) → IsNear self prev r →
    at (row_of_picture self r).cells c ≡ x → at (row_of_picture prev r).cells c ≡ y →
    at (row_of_picture self r).cells (c + 1) ≡ right_half → same_cell x y ≡ false → IsLocal self prev r (c + 1)
may_right self prev r c x y near e f h s =
    let xs = (row_of_picture self r).cells in
    let ys = (row_of_picture prev r).cells in
    let i : c + 1 - 1 ≡ c = omega arith in
    let begins : begin_of xs (c + 1) ≡ c = ap (λ (z : CellValue). if is_right_half z then c + 1 - 1 else c + 1) h ∙ i in
    let no = alike_from xs ys (c + 1) c begins (other_glyph xs ys c x y e f s) in
    inl (near, λ t. absurd (cc))

-- ---- a row

-- The cells `xs` are those of a row from column c on.
abbrev From : (row : List CellValue) → ℕ → List CellValue → Type 0
From row c xs = (k : ℕ) → at row (c + k) ≡ at xs k

from_first : (row : List CellValue) (c : ℕ) (x : CellValue) (xs : List CellValue) → From row c (x ∷ xs) → at row c ≡ x
from_first row c x xs h = let e : c ≡ c + 0 = omega arith in ap (at row) e ∙ h 0

from_next : (row : List CellValue) (c : ℕ) (x : CellValue) (xs : List CellValue) →
    From row c (x ∷ xs) → From row (c + 1) xs
from_next row c x xs h k = let e : c + 1 + k ≡ c + suc k = omega arith in ap (at row) e ∙ h (suc k)

lets_of : (self prev : Picture) (r c : ℕ) (xs ys : List CellValue) →
    IsNear self prev r → Paired xs → From (row_of_picture self r).cells c xs →
    From (row_of_picture prev r).cells c ys → Lets (IsLocal self prev) r c xs ys
lets_of self prev r c [] ys near p f g = tt
lets_of self prev r c (x ∷ xs) [] near p f g = tt
lets_of self prev r c (blank a ∷ xs) (y ∷ ys) near p f g =
    let row = (row_of_picture self r).cells in
    let other = (row_of_picture prev r).cells in (
      may_blank self prev r c (blank a) near (from_first row c (blank a) xs f) refl refl,
      lets_of self prev r (c + 1) xs ys near p (from_next row c (blank a) xs f) (from_next other c y ys g),
    )
lets_of self prev r c (glyph text false a ∷ xs) (y ∷ ys) near p f g =
    let row = (row_of_picture self r).cells in
    let other = (row_of_picture prev r).cells in
    let x = glyph text false a in (
      λ s. (
        may_glyph self prev r c x y near (from_first row c x xs f) (from_first other c y ys g) refl s,
        λ t. absurd (cc),
      ),
      lets_of self prev r (c + 1) xs ys near p (from_next row c x xs f) (from_next other c y ys g),
    )
lets_of self prev r c (glyph text true a ∷ []) (y ∷ ys) near p f g = absurd p
lets_of self prev r c (glyph text true a ∷ blank b ∷ xs) (y ∷ ys) near p f g = absurd p
lets_of self prev r c (glyph text true a ∷ glyph more wide b ∷ xs) (y ∷ ys) near p f g = absurd p
lets_of self prev r c (glyph text true a ∷ right_half ∷ xs) (y ∷ []) near p f g =
    let row = (row_of_picture self r).cells in
    let other = (row_of_picture prev r).cells in
    let x = glyph text true a in
    let here = from_first row c x (right_half ∷ xs) f in
    let there = from_first other c y [] g in
    let right = from_first row (c + 1) right_half xs (from_next row c x (right_half ∷ xs) f) in (
      λ s. (
        may_glyph self prev r c x y near here there refl s,
        λ _. may_right self prev r c x y near here there right s,
      ),
      tt,
    )
lets_of self prev r c (glyph text true a ∷ right_half ∷ xs) (y ∷ z ∷ ys) near p f g =
    let row = (row_of_picture self r).cells in
    let other = (row_of_picture prev r).cells in
    let x = glyph text true a in
    let here = from_first row c x (right_half ∷ xs) f in
    let there = from_first other c y (z ∷ ys) g in
    let next = from_next row c x (right_half ∷ xs) f in
    let right = from_first row (c + 1) right_half xs next in (
      λ s. (
        may_glyph self prev r c x y near here there refl s,
        λ _. may_right self prev r c x y near here there right s,
      ),
      lets_of self prev r (c + 1 + 1) xs ys near p (from_next row (c + 1) right_half xs next)
          (from_next other (c + 1) z ys (from_next other c y (z ∷ ys) g)),
    )
lets_of self prev r c (right_half ∷ xs) (y ∷ ys) near p f g = absurd p

from_start : (row : List CellValue) → From row 0 row
from_start row k = let e : 0 + k ≡ k = omega arith in ap (at row) e

-- The last glyph covers every column from its first one on.
last_begins : (xs : List CellValue) (k : ℕ) → IsPaired xs →
    last_column xs ≤ k → k < length xs → begin_of xs k ≡ last_column xs
last_begins xs k p = by_last (is_right_half (at xs (length xs - 1))) refl where
  by_last : (b : Bool) → is_right_half (at xs (length xs - 1)) ≡ b → (if b then length xs - 2 else length xs - 1) ≤ k →
      k < length xs → begin_of xs k ≡ (if b then length xs - 2 else length xs - 1)
  by_last false e le lt =
      let i : length xs - 1 ≡ k = omega arith in
      begins_here xs k (at xs k) refl (sym (ap (λ (j : ℕ). is_right_half (at xs j)) i) ∙ e) ∙ sym i
  by_last true e le lt = by_column (k == length xs - 1) refl where
    by_column : (b : Bool) → (k == length xs - 1) ≡ b → begin_of xs k ≡ length xs - 2
    by_column true t =
        let i : k ≡ length xs - 1 = grind (arith, nat_tests) in
        let j : k - 1 ≡ length xs - 2 = omega arith in
        ap (λ (b : Bool). if b then k - 1 else k) (ap (λ (j : ℕ). is_right_half (at xs j)) i ∙ e) ∙ j
    by_column false t =
        let ne : (k == length xs - 1) ≡ false = t in
        let i : k ≡ length xs - 2 = grind (arith, nat_tests) in
        let j : k + 1 ≡ length xs - 1 = grind (arith, nat_tests) in
        let wide : is_wide (at xs k) ≡ true = p.halves k ∙ (ap (λ (j : ℕ). is_right_half (at xs j)) j ∙ e) in
        let both = not_both (at xs k) in
        let right : is_right_half (at xs k) ≡ false = grind (arith, both, wide) in
        begins_here xs k (at xs k) refl right ∙ i

row_local : (self prev : Picture) (r : ℕ) → IsNear self prev r → IsRow self.width (row_of_picture self r) →
    RowMay (IsLocal self prev) self.width r (row_of_picture self r) (row_of_picture prev r)
row_local self prev r near is =
    let xs = (row_of_picture self r).cells in
    let ys = (row_of_picture prev r).cells in
    let columns = is.columns in
    record {
      lets = lets_of self prev r 0 xs ys near (paired_of xs is.paired) (from_start xs) (from_start ys);
      begin = inl (
        near,
        λ t. inl (cond_both (is_right_half (at xs 0)) (0 - 1) 0 (λ (k : ℕ). k ≡ 0) (λ _. omega arith) (λ _. refl)),
      );
      second = λ w. inl (near, λ t. inl (ap (λ (b : Bool). if b then 1 - 1 else 1) (sym (is.paired.halves 0) ∙ w)));
      last = λ k low high. inl (near, λ t. inr (last_begins xs k is.paired low (omega arith)));
    }

-- ---- the rows

-- The rows `xs` are those of a picture from row r on.
abbrev RowsFrom : (picture : Picture) → ℕ → List RowValue → Type 0
RowsFrom picture r xs = (k : ℕ) → row_of_picture picture (r + k) ≡ get_or xs k (blank_row default_attrs picture.width)

rows_first : (picture : Picture) (r : ℕ) (x : RowValue) (xs : List RowValue) →
    RowsFrom picture r (x ∷ xs) → row_of_picture picture r ≡ x
rows_first picture r x xs h = let e : r ≡ r + 0 = omega arith in ap (row_of_picture picture) e ∙ h 0

rows_next : (picture : Picture) (r : ℕ) (x : RowValue) (xs : List RowValue) →
    RowsFrom picture r (x ∷ xs) → RowsFrom picture (r + 1) xs
rows_next picture r x xs h k = let e : r + 1 + k ≡ r + suc k = omega arith in ap (row_of_picture picture) e ∙ h (suc k)

differs_by : (self prev : Picture) (r : ℕ) (x y : RowValue) →
    row_of_picture self r ≡ x → row_of_picture prev r ≡ y → x ≢ y → Differs self prev r
differs_by self prev r x y e f ne same = ne (sym e ∙ (same ∙ f))

local_as : (self prev : Picture) (r : ℕ) (x y : RowValue) → row_of_picture self r ≡ x → row_of_picture prev r ≡ y →
    IsRow self.width x → IsNear self prev r → RowMay (IsLocal self prev) self.width r x y
local_as self prev r x y e f is near =
    subst (λ (z : RowValue). RowMay (IsLocal self prev) self.width r z y) e
    (subst (λ (z : RowValue). RowMay (IsLocal self prev) self.width r (row_of_picture self r) z) f
    (row_local self prev r near (subst (IsRow self.width) (sym e) is)))

below_local : (self prev : Picture) (r : ℕ) (above other : RowValue) (xs ys : List RowValue) →
    RowsFrom self r (above ∷ xs) → RowsFrom prev r (other ∷ ys) → AllByRecursion (IsRow self.width) xs →
    BelowMay (IsLocal self prev) self.width r above other xs ys
below_local self prev r above other [] ys f g is = tt
below_local self prev r above other (x ∷ xs) [] f g is = tt
below_local self prev r above other (x ∷ xs) (y ∷ ys) f g is =
    let e = rows_first self r above (x ∷ xs) f in
    let h = rows_first prev r other (y ∷ ys) g in
    let next = rows_next self r above (x ∷ xs) f in
    let more = rows_next prev r other (y ∷ ys) g in
    let here = rows_first self (r + 1) x xs next in
    let there = rows_first prev (r + 1) y ys more in (
      λ d. local_as self prev (r + 1) x y here there is.0 (by_cases e h here there d),
      below_local self prev (r + 1) x y xs ys next more is.1,
    )
  where
    by_cases : row_of_picture self r ≡ above → row_of_picture prev r ≡ other → row_of_picture self (r + 1) ≡ x →
        row_of_picture prev (r + 1) ≡ y → (above ≢ other) ⊎ (x ≢ y) → IsNear self prev (r + 1)
    by_cases e h here there (inl ne) =
        let i : r ≡ r + 1 - 1 = omega arith in
        let pos : 0 < r + 1 = omega arith in
        inr (pos, subst (Differs self prev) i (differs_by self prev r above other e h ne))
    by_cases e h here there (inr ne) = inl (differs_by self prev (r + 1) x y here there ne)

rows_from : (picture : Picture) → RowsFrom picture 0 picture.rows
rows_from picture k = let e : 0 + k ≡ k = omega arith in ap (row_of_picture picture) e

pub rows_local : (self prev : Picture) → AllByRecursion (IsRow self.width) self.rows →
    RowsMay (IsLocal self prev) self.width self.rows prev.rows
rows_local self prev is = by_lists self.rows prev.rows (rows_from self) (rows_from prev) is where
  by_lists : (xs ys : List RowValue) → RowsFrom self 0 xs → RowsFrom prev 0 ys →
      AllByRecursion (IsRow self.width) xs → RowsMay (IsLocal self prev) self.width xs ys
  by_lists [] ys f g all = tt
  by_lists (x ∷ xs) [] f g all = tt
  by_lists (x ∷ xs) (y ∷ ys) f g all =
      let here = rows_first self 0 x xs f in
      let there = rows_first prev 0 y ys g in (
        λ ne. local_as self prev 0 x y here there all.0 (inl (differs_by self prev 0 x y here there ne)),
        below_local self prev 0 x y xs ys f g all.1,
      )
