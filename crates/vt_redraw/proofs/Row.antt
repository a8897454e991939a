-- The operations of a row draw its cells; a row that is displayed already needs none.
use Rattle.std.proofs.Common.{◌≡◌, ℕ, zero, suc, ◌+◌, ◌<◌, ◌≤◌, ◌==◌, Bool, true, false, List, [], ◌∷◌, length, drop}
use Rattle.std.proofs.Common.{refl, subst, arith, ◌≢◌, ◌⊎◌, ◌-◌, ◌&&◌, not, inl, inr, sym, ap, ◌∙◌, ◌++◌, take, Some}
use Rattle.std.proofs.Common.{append-nil}
use Rattle.std.proofs.lemmas.Bool.{cond_both}
use Rattle.std.proofs.lemmas.Bool.Decides.{nat_tests}
use Rattle.std.proofs.lemmas.List.{length-drop}
use Rattle.vt_cells.specs.Cell.{CellValue, blank, glyph, right_half, is_right_half, same_cell}
use Rattle.vt_cells.specs.Attrs.{Attrs}
use Rattle.vt_cells.specs.Glyph.{glyph_columns}
use Rattle.vt_cells.specs.Op.{Print}
use Rattle.vt_cells.proofs.Cells.{cell_of-same, same_cell-itself}
use Rattle.vt_rows.specs.Cells.{at, blanks, cells_after_cut}
use Rattle.vt_rows.specs.Row.{RowValue}
use Rattle.vt_grid.specs.Canvas.{Canvas}
use Rattle.vt_redraw.specs.Script.{blank_run, is_blank_of, no_ops, starts_other, cells_written, row_break, erase_run}
use Rattle.vt_redraw.specs.Script.{pen_in, pen_past, shifts, Scripted, ops_then, placed_op, wrapped_after_erasure}
use Rattle.vt_redraw.specs.Script.{wrapped_after_glyph}
use Rattle.vt_redraw.specs.declared.pen.Pen.{Pen}
use Rattle.vt_redraw.specs.Redraw.{row_written}
use Rattle.vt_redraw.specs.declared.form.Form.{Form}
use Rattle.vt_redraw.proofs.Halves.{blank_of_is, Paired, run_bound, run_blanks, paired_append, paired_blanks, Loose}
use Rattle.vt_redraw.proofs.Halves.{paired_loose, loose_step, loose_drop, opened_paired, Sound, sound_kept}
use Rattle.vt_redraw.proofs.Touched.{MayGlyph, in_to, print_in}
use Rattle.vt_redraw.proofs.Edits.{Within, mid, orphan, Spot, glyph_flag, with_glyph}
use Rattle.vt_redraw.proofs.Places.{PrintsCells, Place, next_place, shown, Ready, ready_next, Wrote, second_left}
use Rattle.vt_redraw.proofs.Places.{wrote_after, shifted, doing_draws, run_in, run_flagged}

-- ==== The positions that a row may touch if it differs from the one that the terminal displays.

-- `May` holds for all blanks of a row, and for all glyphs that the terminal does not display at their columns.
abbrev pub Lets : (ℕ → ℕ → Type 0) → (r c : ℕ) → (xs ys : List CellValue) → Type 0
Lets May r c [] ys = Unit {0}
Lets May r c (x ∷ xs) [] = Unit {0}
Lets May r c (blank a ∷ xs) (y ∷ ys) = May r c × Lets May r (c + 1) xs ys
Lets May r c (glyph text wide a ∷ xs) (y ∷ ys) =
    (same_cell (glyph text wide a) y ≡ false → May r c × (wide ≡ true → May r (c + 1))) × Lets May r (c + 1) xs ys
Lets May r c (right_half ∷ xs) (y ∷ ys) = Lets May r (c + 1) xs ys

pub lets_next : (May : ℕ → ℕ → Type 0) (r c : ℕ) (x y : CellValue) (xs ys : List CellValue) →
    Lets May r c (x ∷ xs) (y ∷ ys) → Lets May r (c + 1) xs ys
lets_next May r c (blank a) y xs ys h = h.1
lets_next May r c (glyph text wide a) y xs ys h = h.1
lets_next May r c right_half y xs ys h = h

pub lets_drop : (May : ℕ → ℕ → Type 0) (n r c to : ℕ) (xs ys : List CellValue) →
    c + n ≡ to → Lets May r c xs ys → Lets May r to (drop n xs) (drop n ys)
lets_drop May zero r c to xs ys e h = let f : c ≡ to = omega arith in subst (λ (k : ℕ). Lets May r k xs ys) f h
lets_drop May (suc n) r c to [] ys e h = nothing (drop (suc n) ys)
  where
    nothing : (zs : List CellValue) → Lets May r to [] zs
    nothing zs = tt
lets_drop May (suc n) r c to (x ∷ xs) [] e h = nothing (drop n xs)
  where
    nothing : (zs : List CellValue) → Lets May r to zs []
    nothing [] = tt
    nothing (z ∷ zs) = tt
lets_drop May (suc n) r c to (x ∷ xs) (y ∷ ys) e h =
    lets_drop May n r (c + 1) to xs ys (omega arith) (lets_next May r c x y xs ys h)

differs_from_right : (text : List ℕ) (wide : Bool) (a : Attrs) (y : CellValue) →
    is_right_half y ≡ true → same_cell (glyph text wide a) y ≡ false
unfolding same_cell
differs_from_right text wide a (blank b) h = absurd (cc)
differs_from_right text wide a (glyph other w b) h = absurd (cc)
differs_from_right text wide a right_half h = refl

-- `May` holds for the column of an orphaned continuation cell if the row has the first column of a cell there.
pub torn_may : (May : ℕ → ℕ → Type 0) (r c : ℕ) (xs ys : List CellValue) → Paired xs → Lets May r c xs ys →
    length xs ≤ length ys → Paired (drop (length xs) ys) → is_right_half (at ys 0) ≡ true → May r c
torn_may May r c [] [] p h le tail t = absurd (cc)
torn_may May r c [] (blank a ∷ ys) p h le tail t = absurd (cc)
torn_may May r c [] (glyph text wide a ∷ ys) p h le tail t = absurd (cc)
torn_may May r c [] (right_half ∷ ys) p h le tail t = absurd tail
torn_may May r c (x ∷ xs) [] p h le tail t = absurd (omega arith)
torn_may May r c (blank a ∷ xs) (y ∷ ys) p h le tail t = h.0
torn_may May r c (glyph text wide a ∷ xs) (y ∷ ys) p h le tail t =
    let m = h.0 (differs_from_right text wide a y t) in m.0
torn_may May r c (right_half ∷ xs) (y ∷ ys) p h le tail t = absurd p

-- If a row may be drawn, `May` holds for all columns of a run of blanks.
pub run_may : (May : ℕ → ℕ → Type 0) (r c : ℕ) (a : Attrs) (xs ys : List CellValue) (k : ℕ) →
    Lets May r c xs ys → length xs ≤ length ys → c ≤ k → k < c + blank_run a xs → May r k
run_may May r c a [] ys k h le low high = absurd (omega arith)
run_may May r c a (x ∷ xs) [] k h le low high = absurd (omega arith)
run_may May r c a (x ∷ xs) (y ∷ ys) k h le low high =
    cond_both (is_blank_of a x) (1 + blank_run a xs) 0 (λ (n : ℕ). k < c + n → May r k)
    (λ (t : is_blank_of a x ≡ true) (lt : k < c + (1 + blank_run a xs)).
    by_test (k == c) refl (subst (λ (z : CellValue). Lets May r c (z ∷ xs) (y ∷ ys)) (blank_of_is a x t) h)
    (λ l m. run_may May r (c + 1) a xs ys k m (omega arith) l (omega arith)))
    (λ _ lt. absurd (omega arith)) high
  where
    by_test : (b : Bool) → (k == c) ≡ b → May r c × Lets May r (c + 1) xs ys →
        (c + 1 ≤ k → Lets May r (c + 1) xs ys → May r k) → May r k
    by_test true t m rest = let e : c ≡ k = grind (arith, nat_tests) in subst (May r) e m.0
    by_test false t m rest = let l : c + 1 ≤ k = grind (arith, nat_tests) in rest l m.1

-- If a row may be drawn, `May` holds for all positions that a differing narrow glyph touches.
pub narrow_may : (May : ℕ → ℕ → Type 0) (r c : ℕ) (text : List ℕ) (a : Attrs) (y : CellValue) (xs ys : List CellValue) →
    same_cell (glyph text false a) y ≡ false → Lets May r c (glyph text false a ∷ xs) (y ∷ ys) →
    Paired xs → length xs ≤ length ys → Paired (drop (length xs) ys) → MayGlyph May r c false ys
narrow_may May r c text a y xs ys f h p le tail =
    let m = h.0 f in
    record { first = m.0; second = λ t. absurd (cc); torn = λ t. torn_may May r (c + 1) xs ys p h.1 le tail t }

pub wide_may : (May : ℕ → ℕ → Type 0) (r c : ℕ) (text : List ℕ)
    (a : Attrs) (y y2 : CellValue) (xs ys : List CellValue) →
    same_cell (glyph text true a) y ≡ false → Lets May r c (glyph text true a ∷ right_half ∷ xs) (y ∷ y2 ∷ ys) →
    Paired xs → length xs ≤ length ys → Paired (drop (length xs) ys) → MayGlyph May r c true (y2 ∷ ys)
wide_may May r c text a y y2 xs ys f h p le tail =
    let m = h.0 f in
    let e : c + 1 + 1 ≡ c + 2 = omega arith in
    record { first = m.0; second = m.1; torn = λ t. subst (May r) e (torn_may May r (c + 1 + 1) xs ys p h.1 le tail t) }

-- ==== A row that the terminal displays already needs no output. Equality of rows is decidable.

pub cells_nothing : (r c k : ℕ) (pen : Pen) (wrapped : Bool) (xs : List CellValue) →
    cells_written r c pen wrapped k xs xs ≡ no_ops pen wrapped
unfolding cells_written
cells_nothing r c zero pen wrapped [] = refl
cells_nothing r c (suc k) pen wrapped [] = refl
cells_nothing r c (suc k) pen wrapped (x ∷ xs) = cells_nothing r (c + 1) k pen wrapped xs
cells_nothing r c zero pen wrapped (blank a ∷ xs) = rw (same_cell-itself (blank a))
    (cells_nothing r (c + 1) 0 pen wrapped xs)
cells_nothing r c zero pen wrapped (glyph text wide a ∷ xs) =
    rw (same_cell-itself (glyph text wide a)) (cells_nothing r (c + 1) (glyph_columns wide - 1) pen wrapped xs)
cells_nothing r c zero pen wrapped (right_half ∷ xs) = cells_nothing r (c + 1) 0 pen wrapped xs

pub row_nothing : (r k : ℕ) (pen : Pen) (x : RowValue) → row_written r k pen x.wrapped x x.cells ≡ no_ops pen x.wrapped
unfolding row_written row_break
row_nothing r k pen x =
    let t : (x.wrapped && not x.wrapped) ≡ false = grind (arith) in
    rw (cells_nothing r 0 k pen x.wrapped x.cells, t) refl

cell_equal : (x y : CellValue) → (x ≡ y) ⊎ (x ≢ y)
cell_equal x y = by_test (same_cell x y) refl where
  by_test : (b : Bool) → same_cell x y ≡ b → (x ≡ y) ⊎ (x ≢ y)
  by_test true t = inl (cell_of-same x y t)
  by_test false t = inr (λ e. let s = ap (same_cell x) (sym e) ∙ same_cell-itself x in cc)

-- The first cell of a list, or the given default.
abbrev head_or : CellValue → List CellValue → CellValue
head_or d [] = d
head_or d (x ∷ xs) = x

abbrev tail_of : List CellValue → List CellValue
tail_of [] = []
tail_of (x ∷ xs) = xs

cells_equal : (xs ys : List CellValue) → (xs ≡ ys) ⊎ (xs ≢ ys)
cells_equal [] [] = inl refl
cells_equal [] (y ∷ ys) = inr (λ e. cc)
cells_equal (x ∷ xs) [] = inr (λ e. cc)
cells_equal (x ∷ xs) (y ∷ ys) = elim (cell_equal x y) [
  | inl e ↦ elim (cells_equal xs ys) [
    | inl f ↦ inl (ap (λ (z : CellValue). z ∷ xs) e ∙ ap (λ (zs : List CellValue). y ∷ zs) f)
    | inr ne ↦ inr (λ h. ne (ap tail_of h))
  ]
  | inr ne ↦ inr (λ h. ne (ap (head_or x) h))
]

bool_equal : (a b : Bool) → (a ≡ b) ⊎ (a ≢ b)
bool_equal true true = inl refl
bool_equal true false = inr (λ e. cc)
bool_equal false true = inr (λ e. cc)
bool_equal false false = inl refl

pub row_equal : (x y : RowValue) → (x ≡ y) ⊎ (x ≢ y)
row_equal x y = elim (cells_equal x.cells y.cells) [
  | inl e ↦ elim (bool_equal x.wrapped y.wrapped) [
    | inl f ↦
        inl (ap (λ (z : List CellValue). record x { cells = z }) e ∙ ap (λ (b : Bool). record y { wrapped = b }) f)
    | inr ne ↦ inr (λ h. ne (ap (λ (z : RowValue). z.wrapped) h))
  ]
  | inr ne ↦ inr (λ h. ne (ap (λ (z : RowValue). z.cells) h))
]

pub starts_none : (xs : List CellValue) → starts_other xs xs ≡ false
starts_none [] = refl
starts_none (x ∷ xs) = let t = same_cell-itself x in grind (arith, t)

-- ==== The operations of a row draw its cells over those that the terminal displays.

pub run_paired : (a : Attrs) (xs : List CellValue) → Paired xs → Paired (drop (blank_run a xs) xs)
run_paired a [] h = tt
run_paired a (x ∷ xs) h =
    cond_both (is_blank_of a x) (1 + blank_run a xs) 0 (λ (n : ℕ). Paired (drop n (x ∷ xs)))
    (λ (t : is_blank_of a x ≡ true).
    let more : Paired (drop (blank_run a xs) xs) =
    run_paired a xs (subst (λ (z : CellValue). Paired (z ∷ xs)) (blank_of_is a x t) h) in
    let e : 1 + blank_run a xs ≡ suc (blank_run a xs) = omega arith in
    subst (λ (n : ℕ). Paired (drop n (x ∷ xs))) (sym e) more)
    (λ _. h)

pub after_wide : (text : List ℕ) (a : Attrs) (y : CellValue) (ys : List CellValue) →
    Paired (glyph text true a ∷ y ∷ ys) → (y ≡ right_half) × Paired ys
after_wide text a right_half ys h = (refl, h)
after_wide text a (blank b) ys h = absurd h
after_wide text a (glyph other wide b) ys h = absurd h

-- A pen in the row, at most directly after its last column, is within the page.
pub pen_within : (base : Canvas) (done below : List RowValue) (pre : List CellValue) (r c height left col : ℕ)
    (form : Form) (a : Attrs) (shifted : Bool) →
    Place base done below pre r c height left → col ≤ c + left →
    Within (record (pen_in form r col a) { is_shifted = shifted }) height base.page.width
pen_within base done below pre r c height left col form a shifted at h =
    let rows = at.rows in
    let columns = at.columns in
    record { row = omega arith; col = omega arith }

-- If enough columns are left, there is room for a glyph at the current position.
pub glyph_spot : (base : Canvas) (done below : List RowValue) (pre : List CellValue)
    (o y : CellValue) (ys : List CellValue) (wrapped : Bool) (r c height left : ℕ) (wide : Bool) →
    Place base done below pre r c height left → glyph_columns wide ≤ left → Paired pre →
    Sound wrapped (pre ++ cells_after_cut o (y ∷ ys)) → Spot base done pre o y ys wrapped r c wide
glyph_spot base done below pre o y ys wrapped r c height left wide at h front sound =
    let columns = at.columns in
    record { row = at.above; col = at.before; fits = omega arith; front = front; sound = sound }

-- The operations for the cells of a row draw these cells.
abbrev RowDraws : (ℕ → ℕ → Type 0) → Canvas → (done below : List RowValue) →
    (xs ys pre : List CellValue) → CellValue → (r c k : ℕ) → Pen → Bool → ℕ → Type 0
RowDraws May base done below xs ys pre o r c k pen wrapped height =
    Wrote May (cells_written r c pen wrapped k xs ys) base done below
    (mid base done below (shown pre o k xs ys) wrapped pen) (pre ++ (xs ++ drop (length xs) ys)) height

-- A first cell that the terminal displays already needs no operations.
same_draws : (May : ℕ → ℕ → Type 0) (w : Scripted) (base : Canvas) (done below : List RowValue)
    (x y : CellValue) (pre ys goal : List CellValue) (o : CellValue) (wrapped : Bool) (pen : Pen) (height : ℕ) →
    same_cell x y ≡ true → Loose (y ∷ ys) → cells_after_cut o (x ∷ ys) ≡ x ∷ ys →
    Sound wrapped (pre ++ cells_after_cut o (y ∷ ys)) →
    (Loose (x ∷ ys) → Sound wrapped (pre ++ x ∷ ys) →
    Wrote May w base done below (mid base done below (pre ++ x ∷ ys) wrapped pen) goal height) →
    Wrote May w base done below (mid base done below (pre ++ cells_after_cut o (y ∷ ys)) wrapped pen) goal height
same_draws May w base done below x y pre ys goal o wrapped pen height t loose whole sound h =
    let e = cell_of-same x y t in
    let P : CellValue → Type 0 =
    λ z. Loose (z ∷ ys) → Sound wrapped (pre ++ cells_after_cut o (z ∷ ys)) →
    Wrote May w base done below (mid base done below (pre ++ cells_after_cut o (z ∷ ys)) wrapped pen) goal height in
    let Q : List CellValue → Type 0 =
    λ z. Sound wrapped (pre ++ z) → Wrote May w base done below (mid base done below (pre ++ z) wrapped pen)
    goal height in
    subst P e (λ l. subst Q (sym whole) (h l)) loose sound

blank_may : (May : ℕ → ℕ → Type 0) (r c : ℕ) (a : Attrs) (xs ys : List CellValue) (k : ℕ) → May r c →
    Lets May r (c + 1) xs ys → length xs ≤ length ys → c ≤ k → k < c + suc (blank_run a xs) → May r k
blank_may May r c a xs ys k first more le low high = by_test (k == c) refl where
  by_test : (b : Bool) → (k == c) ≡ b → May r k
  by_test true t = let e : c ≡ k = grind (arith, nat_tests) in subst (May r) e first
  by_test false t =
      let l : c + 1 ≤ k = grind (arith, nat_tests) in run_may May r (c + 1) a xs ys k more le l (omega arith)

drops_le : (n : ℕ) (xs ys : List CellValue) → length xs ≤ length ys → length (drop n xs) ≤ length (drop n ys)
drops_le n xs ys h = let a = length-drop n xs in let b = length-drop n ys in omega arith

drop_none : (n : ℕ) → drop {A = CellValue} n [] ≡ []
drop_none zero = refl
drop_none (suc n) = refl

drop_both : (n : ℕ) (xs ys : List CellValue) → n ≤ length xs →
    drop (length xs) ys ≡ drop (length (drop n xs)) (drop n ys)
drop_both zero xs ys h = refl
drop_both (suc n) [] ys h = absurd (omega arith)
drop_both (suc n) (x ∷ xs) [] h = sym (drop_none (length (drop n xs)))
drop_both (suc n) (x ∷ xs) (y ∷ ys) h = drop_both n xs ys (omega arith)

pub cells_draw : (May : ℕ → ℕ → Type 0) (base : Canvas) (done below : List RowValue)
    (xs ys pre : List CellValue) (o : CellValue) (r c k : ℕ) (pen : Pen) (wrapped : Bool) (height : ℕ) →
    Place base done below pre r c height (length ys) → Ready xs ys pre o k wrapped →
    PrintsCells base.page.width xs → Within pen height base.page.width →
    Lets May r c xs ys → RowDraws May base done below xs ys pre o r c k pen wrapped height
unfolding cells_written
cells_draw May base done below [] ys pre o r c zero pen wrapped height at h prints within lets =
    let whole = ap (λ (z : List CellValue). pre ++ z) (opened_paired o ys h.tail) in
    record {
      draws = record {
        draws = ap (λ (z : List CellValue). Some (mid base done below z wrapped pen)) whole;
        touches = tt;
      };
      within = within;
      sound = subst (Sound wrapped) whole h.sound;
    }
cells_draw May base done below [] ys pre o r c (suc k) pen wrapped height at h prints within lets =
    let le = h.le in absurd (omega arith)
cells_draw May base done below (x ∷ xs) [] pre o r c k pen wrapped height at h prints within lets =
    let same = h.same in absurd (omega arith)
cells_draw May base done below (x ∷ xs) (y ∷ ys) pre o r c (suc k) pen wrapped height at h prints within lets =
    let same = h.same in
    let le = h.le in
    let more = lets_next May r c x y xs ys lets in
    shifted May (cells_written r (c + 1) pen wrapped k xs ys) base done below pre x
    (take k xs ++ cells_after_cut o (drop k ys)) (xs ++ drop (length xs) ys) wrapped pen height
    (cells_draw May base done below xs ys (pre ++ x ∷ []) o r (c + 1) k pen
    wrapped height (next_place base done below pre x r c height (length ys) at)
    (ready_next x xs ys pre o k wrapped (omega arith) h.tail (omega arith) h.behind h.new h.old h.sound)
    prints.1 within more)
cells_draw May base done below (right_half ∷ xs) (y ∷ ys) pre o r c zero pen wrapped height at h prints within lets =
    absurd h.new
cells_draw May base done below (blank a ∷ xs) (y ∷ ys) pre o r c zero pen wrapped height at h prints within lets =
    let front : Paired pre = subst Paired (append-nil pre) h.behind in
    let goal = pre ++ blank a ∷ (xs ++ drop (length xs) ys) in
    let same = h.same in
    let here = at.columns in
    let n = blank_run a xs in
    let le = run_bound a xs in
    let more = lets.1 in
    let next = next_place base done below pre (blank a) r c height (length ys) at in
    cond_both (same_cell (blank a) y) (cells_written r (c + 1) pen wrapped 0 xs ys)
    (ops_then (placed_op pen r c a (erase_run pen.form (suc n) (drop n ys)))
    (cells_written r (c + 1) (pen_in pen.form r c a) (wrapped_after_erasure wrapped (drop n ys)) n xs ys))
    (λ (w : Scripted). Wrote May w base done below
    (mid base done below (pre ++ cells_after_cut o (y ∷ ys)) wrapped pen) goal height)
    (λ (t : same_cell (blank a) y ≡ true).
    same_draws May (cells_written r (c + 1) pen wrapped 0 xs ys) base done below
    (blank a) y pre ys goal o wrapped pen height t h.old refl h.sound (λ old sound.
    subst (λ (z : List CellValue). Sound wrapped (pre ++ blank a ∷ z) →
    Wrote May (cells_written r (c + 1) pen wrapped 0 xs ys) base done below
    (mid base done below (pre ++ blank a ∷ z) wrapped pen) goal height)
    (opened_paired o ys old)
    (λ still. shifted May (cells_written r (c + 1) pen wrapped 0 xs ys) base done
    below pre (blank a) (cells_after_cut o ys) (xs ++ drop (length xs) ys) wrapped pen height
    (cells_draw May base done below xs ys (pre ++ blank a ∷ []) o r (c + 1) 0 pen wrapped height next
    (ready_next (blank a) xs ys pre o 0 wrapped (omega arith) h.tail (omega arith)
    (paired_append pre (blank a ∷ []) front tt) h.new (paired_loose ys old) still)
    prints.1 within more))
    sound))
    (λ _.
    let q = pen_in pen.form r c a in
    let now = wrapped_after_erasure wrapped (drop n ys) in
    let taken : blanks a n ≡ take n xs = sym (run_blanks a xs) in
    let left = second_left pen.form a in
    let row = λ (z : List CellValue). pre ++ blank a ∷ (z ++ cells_after_cut left (drop n ys)) in
    let sound : Sound now (row (take n xs)) =
    subst (λ (z : List CellValue). Sound now (row z)) taken
    (sound_kept wrapped (row (blanks a n)) now (run_flagged pen.form pre o y ys wrapped n a h.sound)) in
    wrote_after May (placed_op pen r c a (erase_run pen.form (suc n) (drop n ys))) (cells_written r (c + 1) q now n xs ys)
    base done below (mid base done below (pre ++ cells_after_cut o (y ∷ ys)) wrapped pen)
    (mid base done below (row (take n xs)) now q) goal height
    (doing_draws May base done below (pre ++ cells_after_cut o (y ∷ ys)) wrapped r c height pen a
    (erase_run pen.form (suc n) (drop n ys))
    (mid base done below (row (take n xs)) now q) at.reads at.above at.rows (omega arith) within
    (in_to May (erase_run pen.form (suc n) (drop n ys) ∷ [])
    (mid base done below (pre ++ cells_after_cut o (y ∷ ys)) wrapped q)
    (mid base done below (row (blanks a n)) now q) (mid base done below (row (take n xs)) now q)
    (run_in May pen.form base done below pre o y ys wrapped r c n a at.above at.before front here (omega arith)
    (loose_drop n ys (loose_step y ys h.old)) h.sound (λ k low high. blank_may May r c a xs ys k lets.0 more (omega arith) low high)
    (λ t. torn_may May r (c + suc n) (drop n xs) (drop n ys) (run_paired a xs h.new)
    (lets_drop May n r (c + 1) (c + suc n) xs ys (omega arith) more)
    (drops_le n xs ys (omega arith)) (subst Paired (drop_both n xs ys le) h.tail) t))
    (ap (λ (z : List CellValue). mid base done below (row z) now q) taken)))
    (shifted May (cells_written r (c + 1) q now n xs ys) base done below pre (blank a)
    (take n xs ++ cells_after_cut left (drop n ys)) (xs ++ drop (length xs) ys) now q height
    (cells_draw May base done below xs ys (pre ++ blank a ∷ []) left r (c + 1) n q now height next
    (ready_next (blank a) xs ys pre left n now (omega arith) h.tail le
    (paired_append pre (blank a ∷ take n xs) front (subst Paired taken (paired_blanks n a)))
    (run_paired a xs h.new) (loose_drop n ys (loose_step y ys h.old)) sound) prints.1
    (pen_within base done below pre r c height (suc (length ys)) c pen.form a false at (omega arith)) more)))
cells_draw May base done below (glyph text false a ∷ xs) (y ∷ ys)
    pre o r c zero pen wrapped height at h prints within lets =
    let front : Paired pre = subst Paired (append-nil pre) h.behind in
    let x = glyph text false a in
    let goal = pre ++ x ∷ (xs ++ drop (length xs) ys) in
    let same = h.same in
    let here = at.columns in
    let now = wrapped_after_glyph wrapped false (drop 1 ys) in
    let more = lets.1 in
    let q = pen_past pen.form r (c + 1) a text in
    let next = next_place base done below pre x r c height (length ys) at in
    cond_both (same_cell x y) (cells_written r (c + 1) pen wrapped 0 xs ys)
    (ops_then (placed_op pen r c a (Print text)) (cells_written r (c + 1) q now 0 xs ys))
    (λ (w : Scripted). Wrote May w base done below
    (mid base done below (pre ++ cells_after_cut o (y ∷ ys)) wrapped pen) goal height)
    (λ (t : same_cell x y ≡ true).
    same_draws May (cells_written r (c + 1) pen wrapped 0 xs ys) base done below
    x y pre ys goal o wrapped pen height t h.old refl h.sound (λ old sound.
    subst (λ (z : List CellValue). Sound wrapped (pre ++ x ∷ z) →
    Wrote May (cells_written r (c + 1) pen wrapped 0 xs ys) base done
    below (mid base done below (pre ++ x ∷ z) wrapped pen) goal height)
    (opened_paired o ys old)
    (λ still. shifted May (cells_written r (c + 1) pen wrapped 0 xs ys) base
    done below pre x (cells_after_cut o ys) (xs ++ drop (length xs) ys) wrapped pen height
    (cells_draw May base done below xs ys (pre ++ x ∷ []) o r (c + 1) 0 pen wrapped height next
    (ready_next x xs ys pre o 0 wrapped (omega arith) h.tail (omega arith)
    (paired_append pre (x ∷ []) front tt) h.new (paired_loose ys old) still)
    prints.1 within more))
    sound))
    (λ (f : same_cell x y ≡ false).
    let spot =
    glyph_spot base done below pre o y ys wrapped r c height (suc (length ys)) false at (omega arith) front h.sound in
    wrote_after May (placed_op pen r c a (Print text)) (cells_written r (c + 1) q now 0 xs ys)
    base done below (mid base done below (pre ++ cells_after_cut o (y ∷ ys)) wrapped pen)
    (mid base done below (with_glyph pre text false a ys) now q) goal height
    (doing_draws May base done below (pre ++ cells_after_cut o (y ∷ ys)) wrapped r c height pen a (Print text)
    (mid base done below (with_glyph pre text false a ys) now q) at.reads at.above at.rows (omega arith) within
    (print_in May base done below pre o y ys wrapped r c text false a prints.0
    spot (narrow_may May r c text a y xs ys f lets h.new (omega arith) h.tail)))
    (shifted May (cells_written r (c + 1) q now 0 xs ys) base done below pre
    x (cells_after_cut (orphan false a) ys) (xs ++ drop (length xs) ys) now q height
    (cells_draw May base done below xs ys (pre ++ x ∷ []) (orphan false a) r (c + 1) 0 q now height next
    (ready_next x xs ys pre (orphan false a) 0 now (omega arith) h.tail
    (omega arith) (paired_append pre (x ∷ []) front tt) h.new (loose_step y ys h.old)
    (sound_kept wrapped (with_glyph pre text false a ys) now
    (glyph_flag pre o y ys wrapped text false a h.sound))) prints.1
    (pen_within base done below pre r c height (suc (length ys)) (c + 1) pen.form a (shifts pen.form text) at (omega arith)) more)))
cells_draw May base done below (glyph text true a ∷ []) (y ∷ ys)
    pre o r c zero pen wrapped height at h prints within lets = absurd h.new
cells_draw May base done below (glyph text true a ∷ blank b ∷ xs)
    (y ∷ ys) pre o r c zero pen wrapped height at h prints within lets = absurd h.new
cells_draw May base done below (glyph text true a ∷ glyph other wide b ∷ xs)
    (y ∷ ys) pre o r c zero pen wrapped height at h prints within lets = absurd h.new
cells_draw May base done below (glyph text true a ∷ right_half ∷ xs)
    (y ∷ []) pre o r c zero pen wrapped height at h prints within lets = let same = h.same in absurd (omega arith)
cells_draw May base done below (glyph text true a ∷ right_half ∷ xs)
    (y ∷ y2 ∷ ys) pre o r c zero pen wrapped height at h prints within lets =
    let front : Paired pre = subst Paired (append-nil pre) h.behind in
    let x = glyph text true a in
    let xr = right_half ∷ xs in
    let goal = pre ++ x ∷ right_half ∷ (xs ++ drop (length xs) ys) in
    let same = h.same in
    let here = at.columns in
    let now = wrapped_after_glyph wrapped true ys in
    let more = lets.1 in
    let q = pen_past pen.form r (c + 2) a text in
    let next = next_place base done below pre x r c height (suc (length ys)) at in
    let w1 = cells_written r (c + 1) pen wrapped 1 xr (y2 ∷ ys) in
    let w2 = cells_written r (c + 1) q now 1 xr (y2 ∷ ys) in
    cond_both (same_cell x y) w1 (ops_then (placed_op pen r c a (Print text)) w2)
    (λ (w : Scripted). Wrote May w base done below
    (mid base done below (pre ++ cells_after_cut o (y ∷ y2 ∷ ys)) wrapped pen) goal height)
    (λ (t : same_cell x y ≡ true).
    same_draws May w1 base done below x y pre (y2 ∷ ys) goal o wrapped pen height t h.old refl h.sound (λ old sound.
    let pair = after_wide text a y2 ys old in
    subst (λ (z : List CellValue). Sound wrapped (pre ++ x ∷ z) →
    Wrote May w1 base done below (mid base done below (pre ++ x ∷ z) wrapped pen) goal height)
    (ap (λ (z : List CellValue). right_half ∷ z) (opened_paired o ys pair.1)
    ∙ ap (λ (z : CellValue). z ∷ ys) (sym pair.0))
    (λ still. shifted May w1 base done below pre x (right_half ∷ cells_after_cut o ys)
    (right_half ∷ (xs ++ drop (length xs) ys)) wrapped pen height
    (cells_draw May base done below xr (y2 ∷ ys) (pre ++ x ∷ []) o r (c + 1) 1 pen wrapped height next
    (ready_next x xr (y2 ∷ ys) pre o 1 wrapped (omega arith) h.tail (omega arith)
    (paired_append pre (x ∷ right_half ∷ []) front tt) h.new (paired_loose ys pair.1) still)
    prints.1 within more))
    sound))
    (λ (f : same_cell x y ≡ false).
    let spot = glyph_spot base done below pre o y (y2 ∷ ys) wrapped r c
    height (suc (suc (length ys))) true at (omega arith) front h.sound in
    wrote_after May (placed_op pen r c a (Print text)) w2 base done below
    (mid base done below (pre ++ cells_after_cut o (y ∷ y2 ∷ ys)) wrapped pen)
    (mid base done below (with_glyph pre text true a (y2 ∷ ys)) now q) goal height
    (doing_draws May base done below (pre ++ cells_after_cut o (y ∷ y2 ∷ ys)) wrapped r c height pen a (Print text)
    (mid base done below (with_glyph pre text true a (y2 ∷ ys)) now q) at.reads at.above at.rows (omega arith) within
    (print_in May base done below pre o y (y2 ∷ ys) wrapped r c text true a prints.0
    spot (wide_may May r c text a y y2 xs ys f lets h.new (omega arith) h.tail)))
    (shifted May w2 base done below pre x (right_half ∷ cells_after_cut (orphan true a) ys)
    (right_half ∷ (xs ++ drop (length xs) ys)) now q height
    (cells_draw May base done below xr (y2 ∷ ys) (pre ++ x ∷ []) (orphan true a) r (c + 1) 1 q now height next
    (ready_next x xr (y2 ∷ ys) pre (orphan true a) 1 now (omega arith) h.tail (omega arith)
    (paired_append pre (x ∷ right_half ∷ []) front tt) h.new (loose_step y2 ys (loose_step y (y2 ∷ ys) h.old))
    (sound_kept wrapped (with_glyph pre text true a (y2 ∷ ys)) now
    (glyph_flag pre o y (y2 ∷ ys) wrapped text true a h.sound)))
    prints.1
    (pen_within base done below pre r c height (suc (suc (length ys))) (c + 2) pen.form a (shifts pen.form text) at (omega arith)) more)))
