-- Printing the last glyph of a row again, and the break between a row and the next.
use Rattle.std.proofs.Common.{◌≡◌, ℕ, suc, ◌+◌, ◌-◌, ◌<◌, ◌≤◌, ◌==◌, ◌&&◌, min, Bool, true, false, not, List, [], ◌∷◌}
use Rattle.std.proofs.Common.{◌++◌, length, Some, refl, sym, ap, ◌∙◌, subst, arith}
use Rattle.std.proofs.lemmas.Bool.{cond_both, and_parts, eqb-true}
use Rattle.std.proofs.lemmas.List.{length-append}
use Rattle.vt_cells.specs.Cell.{CellValue, blank, glyph, right_half, default_blank, text_of, attrs_of}
use Rattle.vt_cells.specs.Op.{Print, EraseChars}
use Rattle.vt_cells.specs.Attrs.{Attrs, default_attrs}
use Rattle.vt_cells.specs.Glyph.{glyph_columns}
use Rattle.vt_rows.specs.Row.{RowValue}
use Rattle.vt_grid.specs.Canvas.{Canvas}
use Rattle.vt_redraw.specs.Script.{pen_at, move_ops, attr_ops_in, erased_count, Scripted, no_ops, placed_op}
use Rattle.vt_redraw.specs.Script.{last_column, after_last_glyph, break_ops, is_at, last_glyph, pen_after, row_break}
use Rattle.vt_redraw.specs.declared.pen.Pen.{Pen}
use Rattle.vt_redraw.specs.Locality.{Changes, Touches}
use Rattle.vt_redraw.specs.declared.form.Form.{Form}
use Rattle.vt_redraw.specs.declared.form.Form.TheVariants.{Fixed, Portable}
use Rattle.vt_redraw.proofs.Edits.{Reads, Within, changing_draws, row_of, mid, glyph_cells, chars_erased}
use Rattle.vt_redraw.proofs.Halves.{Paired, ends, ends_append, kept, Sound}
use Rattle.vt_redraw.proofs.Texts.{Prints, glyph_at, mark_column_at}
use Rattle.vt_redraw.proofs.Places.{PrintsCells, doing_draws, going_there, second_left}
use Rattle.vt_redraw.proofs.Touched.{DrawsIn, in_then, in_to, quiet_in, changing_quiet, changes_at, print_in}

-- ---- the last glyph

pub record EndsGlyph (cells : List CellValue) : Type 0 where
  pub pre : List CellValue
  pub text : List ℕ
  pub wide : Bool
  pub attrs : Attrs
  pub front : Paired pre
  pub is : cells ≡ pre ++ glyph_cells text wide attrs

longer : (x : CellValue) (xs : List CellValue) →
    ((pre : List CellValue) → Paired pre → Paired (x ∷ pre)) → EndsGlyph xs → EndsGlyph (x ∷ xs)
longer x xs f e = record {
  pre = x ∷ e.pre;
  text = e.text;
  wide = e.wide;
  attrs = e.attrs;
  front = f e.pre e.front;
  is = ap (λ (z : List CellValue). x ∷ z) e.is;
}

longer_two : (text : List ℕ) (a : Attrs) (xs : List CellValue) →
    EndsGlyph xs → EndsGlyph (glyph text true a ∷ right_half ∷ xs)
longer_two text a xs e = record {
  pre = glyph text true a ∷ right_half ∷ e.pre;
  text = e.text;
  wide = e.wide;
  attrs = e.attrs;
  front = e.front;
  is = ap (λ (z : List CellValue). glyph text true a ∷ right_half ∷ z) e.is;
}

-- A row whose last column is not blank ends in a glyph.
pub ends_glyph : (xs : List CellValue) → Paired xs → ends xs ≡ false → EndsGlyph xs
ends_glyph [] h e = absurd (cc)
ends_glyph (blank a ∷ []) h e = absurd (cc)
ends_glyph (blank a ∷ z ∷ zs) h e = longer (blank a) (z ∷ zs) (λ pre k. k) (ends_glyph (z ∷ zs) h e)
ends_glyph (glyph text false a ∷ []) h e =
    record { pre = []; text = text; wide = false; attrs = a; front = tt; is = refl }
ends_glyph (glyph text false a ∷ z ∷ zs) h e =
    longer (glyph text false a) (z ∷ zs) (λ pre k. k) (ends_glyph (z ∷ zs) h e)
ends_glyph (glyph text true a ∷ []) h e = absurd h
ends_glyph (glyph text true a ∷ blank b ∷ zs) h e = absurd h
ends_glyph (glyph text true a ∷ glyph other wide b ∷ zs) h e = absurd h
ends_glyph (glyph text true a ∷ right_half ∷ []) h e =
    record { pre = []; text = text; wide = true; attrs = a; front = tt; is = refl }
ends_glyph (glyph text true a ∷ right_half ∷ z ∷ zs) h e = longer_two text a (z ∷ zs) (ends_glyph (z ∷ zs) h e)
ends_glyph (right_half ∷ zs) h e = absurd h

pub length_glyph : (pre : List CellValue) (text : List ℕ) (wide : Bool) (a : Attrs) →
    length (pre ++ glyph_cells text wide a) ≡ length pre + glyph_columns wide
length_glyph pre text true a = length-append pre (glyph_cells text true a)
length_glyph pre text false a = length-append pre (glyph_cells text false a)

last_column_is : (pre : List CellValue) (text : List ℕ) (wide : Bool) (a : Attrs) →
    last_column (pre ++ glyph_cells text wide a) ≡ length pre
last_column_is pre text true a = rw (length_glyph pre text true a) (mark_column_at pre text true a [] (length pre) refl)
last_column_is pre text false a =
    rw (length_glyph pre text false a) (mark_column_at pre text false a [] (length pre) refl)

last_glyph_is : (pre : List CellValue) (text : List ℕ) (wide : Bool) (a : Attrs) →
    last_glyph (pre ++ glyph_cells text wide a) ≡ glyph text wide a
last_glyph_is pre text true a = rw (last_column_is pre text true a) (glyph_at pre text true a [] (length pre) refl)
last_glyph_is pre text false a = rw (last_column_is pre text false a) (glyph_at pre text false a [] (length pre) refl)

-- A statement about every row that ends in a glyph holds for a row whose last column is not blank.
pub last_cases : (P : List CellValue → ℕ → CellValue → Type 0) →
    ((pre : List CellValue) (text : List ℕ) (wide : Bool) (a : Attrs) → Paired pre →
    P (pre ++ glyph_cells text wide a) (length pre) (glyph text wide a)) →
    (xs : List CellValue) → Paired xs → ends xs ≡ false → P xs (last_column xs) (last_glyph xs)
last_cases P f xs h e =
    let v = ends_glyph xs h e in
    let Q : List CellValue → Type 0 = λ z. P z (last_column z) (last_glyph z) in
    let row = v.pre ++ glyph_cells v.text v.wide v.attrs in
    subst Q (sym v.is)
    (subst (λ (k : ℕ). P row k (last_glyph row)) (sym (last_column_is v.pre v.text v.wide v.attrs))
    (subst (λ (x : CellValue). P row (length v.pre) x)
    (sym (last_glyph_is v.pre v.text v.wide v.attrs)) (f v.pre v.text v.wide v.attrs v.front)))

pub prints_last : (width : ℕ) (pre : List CellValue) (text : List ℕ) (wide : Bool) (a : Attrs) →
    PrintsCells width (pre ++ glyph_cells text wide a) → Prints width text wide
prints_last width [] text true a h = h.0
prints_last width [] text false a h = h.0
prints_last width (x ∷ pre) text wide a h = prints_last width pre text wide a h.1

-- ---- printed again

still : (wrapped : Bool) → (wrapped && not false) ≡ wrapped
still wrapped = grind (arith)

-- A glyph can be printed over itself at the end of a row.
pub print_again : (May : ℕ → ℕ → Type 0) (base : Canvas) (done below : List RowValue)
    (pre : List CellValue) (text : List ℕ) (wide : Bool) (a : Attrs) (wrapped : Bool) (r : ℕ) →
    Prints base.page.width text wide → length done ≡ r → length pre + glyph_columns wide ≡ base.page.width →
    Paired pre →
    Sound wrapped (pre ++ glyph_cells text wide a) → ((k : ℕ) → length pre ≤ k → k < base.page.width → May r k) →
    DrawsIn May (Print text ∷ []) (mid base done below (pre ++ glyph_cells text wide a) wrapped
    (pen_at r (length pre) a))
    (mid base done below (pre ++ glyph_cells text wide a) wrapped (pen_at r (length pre + glyph_columns wide) a))
print_again May base done below pre text false a wrapped r prints e w h sound may =
    let row = pre ++ glyph text false a ∷ [] in
    in_to May (Print text ∷ []) (mid base done below row wrapped (pen_at r (length pre) a))
    (mid base done below row (wrapped && not false) (pen_at r (length pre + 1) a))
    (mid base done below row wrapped (pen_at r (length pre + 1) a))
    (print_in May base done below pre default_blank (glyph text false a) [] wrapped r (length pre) text
    false a prints (record { row = e; col = refl; fits = omega arith; front = h; sound = sound })
    (record {
      first = may (length pre) (omega arith) (omega arith);
      second = λ t. absurd (cc);
      torn = λ t. absurd (cc);
    }))
    (ap (λ (f : Bool). mid base done below row f (pen_at r (length pre + 1) a)) (still wrapped))
print_again May base done below pre text true a wrapped r prints e w h sound may =
    let row = pre ++ glyph text true a ∷ right_half ∷ [] in
    in_to May (Print text ∷ []) (mid base done below row wrapped (pen_at r (length pre) a))
    (mid base done below row (wrapped && not false) (pen_at r (length pre + 2) a))
    (mid base done below row wrapped (pen_at r (length pre + 2) a))
    (print_in May base done below pre default_blank (glyph text true a) (right_half ∷ []) wrapped r (length pre)
    text true a prints (record { row = e; col = refl; fits = omega arith; front = h; sound = sound })
    (record {
      first = may (length pre) (omega arith) (omega arith);
      second = λ _. may (length pre + 1) (omega arith) (omega arith);
      torn = λ t. absurd (cc);
    }))
    (ap (λ (f : Bool). mid base done below row f (pen_at r (length pre + 2) a)) (still wrapped))

-- The operations move the pen after the last glyph of the row, and nothing else changes.
pub record GoesAfter (May : ℕ → ℕ → Type 0) (w : Scripted) (base : Canvas) (done below : List RowValue)
    (cells : List CellValue) (wrapped : Bool) (r : ℕ) (pen : Pen) : Type 0 where
  pub draws : DrawsIn May w.ops (mid base done below cells wrapped pen) (mid base done below cells wrapped w.pen)
  pub there : w.pen ≡ record w.pen { row = r; col = base.page.width }

pub same_pen : (pen : Pen) (r c : ℕ) → is_at pen r c ≡ true → pen ≡ record pen { row = r; col = c }
same_pen pen r c t =
    let both = and_parts (pen.row == r) (pen.col == c) t in
    let e = eqb-true pen.row r both.0 in
    let f = eqb-true pen.col c both.1 in
    ap (λ (z : ℕ). record pen { row = z }) e ∙ ap (λ (z : ℕ). record pen { row = r; col = z }) f

pub going_after_draws : (May : ℕ → ℕ → Type 0) (base : Canvas) (done below : List RowValue)
    (xs : List CellValue) (wrapped : Bool) (r height : ℕ) (pen : Pen) →
    Reads base height base.page.width → length done ≡ r → r + suc (length below) ≡ height →
    length xs ≡ base.page.width →
    Paired xs → ends xs ≡ false → PrintsCells base.page.width xs → Within pen height base.page.width →
    (is_at pen r (length xs) ≡ false → (k : ℕ) → last_column xs ≤ k → k < base.page.width → May r k) →
    GoesAfter May (after_last_glyph r pen xs) base done below xs wrapped r pen
going_after_draws May base done below xs wrapped r height pen reads e rows w h full prints within may =
    let again : Scripted = record {
      ops = placed_op pen r (last_column xs) (attrs_of (last_glyph xs)) (Print (text_of (last_glyph xs)));
      pen = pen_after pen.form r xs;
      wrapped = true;
    } in
    cond_both (is_at pen r (length xs)) (no_ops pen true) again
    (λ (v : Scripted). GoesAfter May v base done below xs wrapped r pen)
    (λ (t : is_at pen r (length xs) ≡ true).
    record {
      draws = record { draws = refl; touches = tt };
      there = same_pen pen r (length xs) t ∙ ap (λ (c : ℕ). record pen { row = r; col = c }) w;
    })
    (λ (t : is_at pen r (length xs) ≡ false). record {
      draws = last_cases
          (λ z k x. PrintsCells base.page.width z → length z ≡ base.page.width →
          Sound wrapped z → ((j : ℕ) → k ≤ j → j < base.page.width → May r j) →
          DrawsIn May (placed_op pen r k (attrs_of x) (Print (text_of x))) (mid base done below z wrapped pen)
          (mid base done below z wrapped (pen_at r (length z) (attrs_of x))))
          (λ pre text wide a front p size sound mays.
          let n = length_glyph pre text wide a in
          let one = some_columns wide in
          doing_draws May base done below (pre ++ glyph_cells text wide a) wrapped r (length pre) height pen a
          (Print text)
          (mid base done below (pre ++ glyph_cells text wide a) wrapped
          (pen_at r (length (pre ++ glyph_cells text wide a)) a))
          reads e rows (omega arith) within
          (in_to May (Print text ∷ [])
          (mid base done below (pre ++ glyph_cells text wide a) wrapped (pen_at r (length pre) a))
          (mid base done below (pre ++ glyph_cells text wide a) wrapped (pen_at r (length pre + glyph_columns wide) a))
          (mid base done below (pre ++ glyph_cells text wide a) wrapped
          (pen_at r (length (pre ++ glyph_cells text wide a)) a))
          (print_again May base done below pre text wide a wrapped r
          (prints_last base.page.width pre text wide a p) e (sym n ∙ size) front sound mays)
          (ap (λ (c : ℕ). mid base done below (pre ++ glyph_cells text wide a) wrapped (pen_at r c a)) (sym n))))
          xs h full prints w (λ _. full) (may t);
      there = ap (λ (c : ℕ). record (pen_after pen.form r xs) { col = c }) w;
    })
  where
    some_columns : (wide : Bool) → 0 < glyph_columns wide
    some_columns true = omega arith
    some_columns false = omega arith

-- ---- the break

-- The blanks that are left after the last glyph is erased.
abbrev pub blanked : Form → Bool → Attrs → List CellValue
blanked form false a = blank a ∷ []
blanked form true a = blank a ∷ second_left form a ∷ []

falls_off : (wrapped : Bool) (pre : List CellValue) (y : CellValue) (ys : List CellValue) →
    ends (y ∷ ys) ≡ true → kept wrapped (pre ++ y ∷ ys) ≡ false
falls_off wrapped pre y ys e = let k = ends_append pre y ys ∙ e in grind (arith, k)

pub erase_touches : (May : ℕ → ℕ → Type 0) (canvas : Canvas) (c n : ℕ) → c + n ≤ canvas.page.width →
    canvas.page.column ≡ c → Changes May c n canvas.page → Touches May (EraseChars n ∷ []) canvas
erase_touches May canvas c n fits e h =
    let m : min n (canvas.page.width - canvas.page.column) ≡ n = omega arith in (
      λ _. subst (λ (n : ℕ). Changes May canvas.page.column n canvas.page)
          (sym m) (subst (λ (k : ℕ). Changes May k n canvas.page) (sym e) h),
      λ q f. tt,
    )

erase_narrow : (May : ℕ → ℕ → Type 0) (base : Canvas) (done below : List RowValue)
    (pre : List CellValue) (text : List ℕ) (b a : Attrs) (wrapped : Bool) (r : ℕ) →
    length done ≡ r → length pre + 1 ≡ base.page.width → Paired pre →
    ((k : ℕ) → length pre ≤ k → k < base.page.width → May r k) →
    DrawsIn May (EraseChars 1 ∷ [])
    (mid base done below (pre ++ glyph text false b ∷ []) wrapped (pen_at r (length pre) a))
    (mid base done below (pre ++ blank a ∷ []) false (pen_at r (length pre) a))
erase_narrow May base done below pre text b a wrapped r e w h may =
    let start = mid base done below (pre ++ glyph text false b ∷ []) wrapped (pen_at r (length pre) a) in
    record {
      draws = chars_erased base done below pre (glyph text false b ∷ []) wrapped r (length pre) 0 a e refl
          (omega arith) h
          ∙ ap (λ (f : Bool). Some (mid base done below (pre ++ blank a ∷ []) f (pen_at r (length pre) a)))
          (falls_off wrapped pre (blank a) [] refl);
      touches = erase_touches May start (length pre) 1 (omega arith) refl
          (changes_at May base done below pre (glyph text false b ∷ []) wrapped r (length pre) 1
          (length pre) a e refl h (λ k low high. may k low (omega arith)) (λ t. absurd (cc)));
    }

pub erase_last : (May : ℕ → ℕ → Type 0) (form : Form) (base : Canvas) (done below : List RowValue)
    (pre : List CellValue) (text : List ℕ) (wide : Bool) (b a : Attrs) (wrapped : Bool) (r : ℕ) →
    length done ≡ r → length pre + glyph_columns wide ≡ base.page.width → Paired pre →
    ((k : ℕ) → length pre ≤ k → k < base.page.width → May r k) →
    DrawsIn May (EraseChars (erased_count form (glyph_columns wide)) ∷ [])
    (mid base done below (pre ++ glyph_cells text wide b) wrapped (pen_at r (length pre) a))
    (mid base done below (pre ++ blanked form wide a) false (pen_at r (length pre) a))
erase_last May Fixed base done below pre text false b a wrapped r e w h may =
    erase_narrow May base done below pre text b a wrapped r e w h may
erase_last May Portable base done below pre text false b a wrapped r e w h may =
    erase_narrow May base done below pre text b a wrapped r e w h may
erase_last May Fixed base done below pre text true b a wrapped r e w h may =
    let start = mid base done below (pre ++ glyph text true b ∷ right_half ∷ []) wrapped (pen_at r (length pre) a) in
    record {
      draws =
          chars_erased base done below pre (glyph text true b ∷ right_half ∷ [])
          wrapped r (length pre) 0 a e refl (omega arith) h
          ∙ ap (λ (f : Bool). Some
          (mid base done below (pre ++ blank a ∷ default_blank ∷ []) f (pen_at r (length pre) a)))
          (falls_off wrapped pre (blank a) (default_blank ∷ []) refl);
      touches = erase_touches May start (length pre) 1 (omega arith) refl
          (changes_at May base done below pre (glyph text true b ∷ right_half ∷ []) wrapped r (length pre) 1
          (length pre) a
          e refl h (λ k low high. may k low (omega arith)) (λ t. may (length pre + 1) (omega arith) (omega arith)));
    }
erase_last May Portable base done below pre text true b a wrapped r e w h may =
    let start = mid base done below (pre ++ glyph text true b ∷ right_half ∷ []) wrapped (pen_at r (length pre) a) in
    record {
      draws =
          chars_erased base done below pre (glyph text true b ∷ right_half ∷ [])
          wrapped r (length pre) 1 a e refl (omega arith) h
          ∙ ap (λ (f : Bool). Some
          (mid base done below (pre ++ blank a ∷ blank a ∷ []) f (pen_at r (length pre) a)))
          (falls_off wrapped pre (blank a) (blank a ∷ []) refl);
      touches = erase_touches May start (length pre) 2 (omega arith) refl
          (changes_at May base done below pre (glyph text true b ∷ right_half ∷ []) wrapped r (length pre) 2
          (length pre) a e refl h (λ k low high. may k low (omega arith)) (λ t. absurd (cc)));
    }

print_two : (May : ℕ → ℕ → Type 0) (base : Canvas) (done below : List RowValue)
    (pre : List CellValue) (text : List ℕ) (b c a : Attrs) (r : ℕ) →
    Prints base.page.width text true → length done ≡ r → length pre + 2 ≡ base.page.width →
    Paired pre → ((k : ℕ) → length pre ≤ k → k < base.page.width → May r k) →
    DrawsIn May (Print text ∷ []) (mid base done below (pre ++ blank b ∷ blank c ∷ []) false (pen_at r (length pre) a))
    (mid base done below (pre ++ glyph_cells text true a) false (pen_at r (length pre + 2) a))
print_two May base done below pre text b c a r prints e w h may =
    print_in May base done below pre default_blank (blank b) (blank c ∷ []) false r (length pre) text
    true a prints (record { row = e; col = refl; fits = omega arith; front = h; sound = λ t. absurd (cc) })
    (record {
      first = may (length pre) (omega arith) (omega arith);
      second = λ _. may (length pre + 1) (omega arith) (omega arith);
      torn = λ t. absurd (cc);
    })

pub print_bare : (May : ℕ → ℕ → Type 0) (form : Form) (base : Canvas) (done below : List RowValue)
    (pre : List CellValue) (text : List ℕ) (wide : Bool) (b a : Attrs) (r : ℕ) →
    Prints base.page.width text wide → length done ≡ r → length pre + glyph_columns wide ≡ base.page.width →
    Paired pre → ((k : ℕ) → length pre ≤ k → k < base.page.width → May r k) →
    DrawsIn May (Print text ∷ []) (mid base done below (pre ++ blanked form wide b) false (pen_at r (length pre) a))
    (mid base done below (pre ++ glyph_cells text wide a) false (pen_at r (length pre + glyph_columns wide) a))
print_bare May form base done below pre text false b a r prints e w h may =
    print_in May base done below pre default_blank (blank b) [] false r (length pre) text false a
    prints (record { row = e; col = refl; fits = omega arith; front = h; sound = λ t. absurd (cc) })
    (record {
      first = may (length pre) (omega arith) (omega arith);
      second = λ t. absurd (cc);
      torn = λ t. absurd (cc);
    })
print_bare May Fixed base done below pre text true b a r prints e w h may =
    print_two May base done below pre text b default_attrs a r prints e w h may
print_bare May Portable base done below pre text true b a r prints e w h may =
    print_two May base done below pre text b b a r prints e w h may

-- The canvas after a break: the row is wrapped only if it must be.
pub record Broke (May : ℕ → ℕ → Type 0) (w : Scripted) (base : Canvas) (done below : List RowValue)
    (start : Canvas) (cells : List CellValue) (wanted : Bool) (height : ℕ) : Type 0 where
  pub draws : DrawsIn May w.ops start (mid base done below cells w.wrapped w.pen)
  pub within : Within w.pen height base.page.width
  pub keeps : w.wrapped ≡ true → wanted ≡ true

breaking_draws : (May : ℕ → ℕ → Type 0) (base : Canvas) (done below : List RowValue)
    (xs : List CellValue) (wrapped wanted : Bool) (r height : ℕ) (pen : Pen) →
    Reads base height base.page.width → length done ≡ r → r + suc (length below) ≡ height →
    length xs ≡ base.page.width →
    Paired xs → ends xs ≡ false → PrintsCells base.page.width xs → Within pen height base.page.width →
    ((k : ℕ) → last_column xs ≤ k → k < base.page.width → May r k) →
    Broke May (break_ops r pen xs) base done below (mid base done below xs wrapped pen) xs wanted height
breaking_draws May base done below xs wrapped wanted r height pen reads e rows w h full prints within may = record {
  draws = last_cases
      (λ z k x. PrintsCells base.page.width z → length z ≡ base.page.width →
      ((j : ℕ) → k ≤ j → j < base.page.width → May r j) →
      DrawsIn May (move_ops pen r k
      ++ (EraseChars (erased_count pen.form (length z - k))
      ∷ (attr_ops_in pen.form pen.attrs (attrs_of x) ++ Print (text_of x) ∷ [])))
      (mid base done below z wrapped pen) (mid base done below z false (pen_at r (length z) (attrs_of x))))
      (λ pre text wide a front p size mays.
      let n = length_glyph pre text wide a in
      let one = some_columns wide in
      let row = pre ++ glyph_cells text wide a in
      let gone = pre ++ blanked pen.form wide pen.attrs in
      let c = length pre in
      let count : glyph_columns wide ≡ length row - c = omega (arith, n) in
      let goal = mid base done below row false (pen_at r (length row) a) in
      subst (λ (m : ℕ). DrawsIn May (move_ops pen r c
      ++ (EraseChars (erased_count pen.form m) ∷ (attr_ops_in pen.form pen.attrs a ++ Print text ∷ [])))
      (mid base done below row wrapped pen) goal) count
      (in_then May (move_ops pen r c)
      (EraseChars (erased_count pen.form (glyph_columns wide)) ∷ (attr_ops_in pen.form pen.attrs a ++ Print text ∷ []))
      (mid base done below row wrapped pen) (mid base done below row wrapped (pen_at r c pen.attrs)) goal
      (going_there May base done below row wrapped r c height pen reads e rows (omega arith) within)
      (in_then May (EraseChars (erased_count pen.form (glyph_columns wide)) ∷ []) (attr_ops_in pen.form pen.attrs a ++ Print text ∷ [])
      (mid base done below row wrapped (pen_at r c pen.attrs))
      (mid base done below gone false (pen_at r c pen.attrs)) goal
      (erase_last May pen.form base done below pre text wide a pen.attrs wrapped r e (sym n ∙ size) front mays)
      (in_then May (attr_ops_in pen.form pen.attrs a) (Print text ∷ [])
      (mid base done below gone false (pen_at r c pen.attrs)) (mid base done below gone false (pen_at r c a)) goal
      (quiet_in May (attr_ops_in pen.form pen.attrs a) (mid base done below gone false (pen_at r c pen.attrs))
      (mid base done below gone false (pen_at r c a)) (changing_quiet pen.form pen.attrs a)
      (changing_draws pen.form base (done ++ row_of gone false ∷ below) (pen_at r c pen.attrs) a))
      (in_to May (Print text ∷ []) (mid base done below gone false (pen_at r c a))
      (mid base done below row false (pen_at r (c + glyph_columns wide) a)) goal
      (print_bare May pen.form base done below pre text wide pen.attrs a r
      (prints_last base.page.width pre text wide a p) e (sym n ∙ size) front mays)
      (ap (λ (k : ℕ). mid base done below row false (pen_at r k a)) (sym n)))))))
      xs h full prints w may;
  within = record { row = omega arith; col = omega arith };
  keeps = λ t. absurd (cc);
}
  where
    some_columns : (wide : Bool) → 0 < glyph_columns wide
    some_columns true = omega arith
    some_columns false = omega arith

and_true : (a b : Bool) → (a && b) ≡ true → a ≡ true
and_true true b h = refl
and_true false b h = h

wants : (wrapped wanted : Bool) → (wrapped && not wanted) ≡ false → wrapped ≡ true → wanted ≡ true
wants wrapped wanted h t = grind (arith, h, t)

pub broken_draws : (May : ℕ → ℕ → Type 0) (base : Canvas) (done below : List RowValue)
    (xs : List CellValue) (wrapped wanted : Bool) (r height : ℕ) (pen : Pen) →
    Reads base height base.page.width → length done ≡ r → r + suc (length below) ≡ height →
    length xs ≡ base.page.width →
    Paired xs → Sound wrapped xs → PrintsCells base.page.width xs → Within pen height base.page.width →
    ((k : ℕ) → last_column xs ≤ k → k < base.page.width → May r k) →
    Broke May (row_break r pen wrapped wanted xs) base done below (mid base done below xs wrapped pen) xs wanted height
unfolding row_break
broken_draws May base done below xs wrapped wanted r height pen reads e rows w h sound prints within may =
    cond_both (wrapped && not wanted) (break_ops r pen xs) (no_ops pen wrapped)
    (λ (v : Scripted). Broke May v base done below (mid base done below xs wrapped pen) xs wanted height)
    (λ (t : (wrapped && not wanted) ≡ true). breaking_draws May base done below xs wrapped wanted
    r height pen reads e rows w h (sound (and_true wrapped (not wanted) t)) prints within may)
    (λ (t : (wrapped && not wanted) ≡ false).
    record { draws = record { draws = refl; touches = tt }; within = within; keeps = wants wrapped wanted t })
