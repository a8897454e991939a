-- The first cell of a row, drawn while a wrap is pending in the row above.
use Rattle.std.proofs.Common.{◌≡◌, ℕ, suc, ◌+◌, ◌<◌, ◌≤◌, ◌&&◌, ◌||◌, Bool, true, false, not, List, [], ◌∷◌, ◌++◌}
use Rattle.std.proofs.Common.{length, drop, Some, inl, inr, refl, sym, ap, ◌∙◌, subst, append_assoc, arith}
use Rattle.std.proofs.lemmas.List.{length-append}
use Rattle.vt_cells.specs.Attrs.{Attrs}
use Rattle.vt_cells.specs.Cell.{CellValue, blank, glyph, right_half, default_blank, is_right_half}
use Rattle.vt_cells.specs.Glyph.{glyph_columns}
use Rattle.vt_cells.specs.Op.{Op, Print, EraseChars, MoveTo}
use Rattle.vt_rows.specs.Cells.{at, cells_after_cut}
use Rattle.vt_rows.specs.Row.{RowValue}
use Rattle.vt_grid.specs.Canvas.{Canvas}
use Rattle.vt_redraw.specs.Script.{pen_at, pen_in, attr_ops_in, back_op, is_nil, is_torn, shifts, wrap_ops}
use Rattle.vt_redraw.specs.Script.{wrapped_after_glyph}
use Rattle.vt_redraw.specs.declared.form.Form.{Form}
use Rattle.vt_redraw.specs.declared.form.Form.TheVariants.{Fixed, Portable}
use Rattle.vt_redraw.proofs.Edits.{changing_draws, back_draws, row_of, mid, put, spot, two, two_mid, orphan}
use Rattle.vt_redraw.proofs.Edits.{chars_erased, Spot, with_glyph, glyph_flag}
use Rattle.vt_redraw.proofs.Halves.{Paired, opened_paired, opened_twice, drop_opened, ends, kept, Sound}
use Rattle.vt_redraw.proofs.Halves.{sound_kept, flag_step}
use Rattle.vt_redraw.proofs.Texts.{Prints, no_tear, space_first, space_prints}
use Rattle.vt_redraw.proofs.Touched.{DrawsIn, in_then, in_to, quiet_in, changing_quiet, changes_at, back_quiet}
use Rattle.vt_redraw.proofs.Touched.{MayGlyph, print_in, print_in_wraps}
use Rattle.vt_redraw.proofs.Link.{erase_touches}
use Rattle.vt_redraw.proofs.Ranges.{Any}
use Rattle.vt_redraw.proofs.PortableLinks.{back_portably, first_glyph_portably, unspaced_portably}
use Rattle.vt_redraw.proofs.PortableParts.{Portably, glyph_portably, portably_both, some_columns}

-- ---- a glyph, or a blank that is printed as a space and erased

-- With a wrap pending, a glyph is printed at the beginning of the next row.
pub first_glyph : (May : ℕ → ℕ → Type 0) (form : Form) (base : Canvas) (done below : List RowValue) (above : List
    CellValue) (wrapped_above : Bool)
    (y : CellValue) (ys : List CellValue) (wrapped : Bool) (r : ℕ) (b : Attrs) (text : List ℕ) (wide : Bool)
    (a : Attrs) → length done ≡ r →
    base.page.bottom + 1 ≡ length done + suc (suc (length below)) → ends above ≡ false →
    Paired (y ∷ ys) → Sound wrapped (y ∷ ys) → glyph_columns wide ≤ base.page.width →
    Prints base.page.width text wide → MayGlyph May (r + 1) 0 wide ys →
    DrawsIn May (attr_ops_in form b a ++ Print text ∷ [])
    (two base done below above wrapped_above (y ∷ ys) wrapped (pen_at r base.page.width b))
    (mid base (done ++ row_of above true ∷ []) below (with_glyph [] text wide a ys)
    (wrapped_after_glyph wrapped wide (drop 1 ys)) (pen_at (r + 1) (0 + glyph_columns wide) a))
first_glyph May form base done below above wrapped_above y ys wrapped r b text wide a e bottom full paired sound fits
    prints may =
    let top = done ++ row_of above true ∷ [] in
    let n : length top ≡ r + 1 = let l = length-append done (row_of above true ∷ []) in omega arith in
    let whole = opened_paired default_blank (y ∷ ys) paired in
    let goal = mid base top below (with_glyph [] text wide a ys)
    (wrapped_after_glyph wrapped wide (drop 1 ys)) (pen_at (r + 1) (0 + glyph_columns wide) a) in
    let spot : Spot base top [] default_blank y ys wrapped (r + 1) 0 wide =
    record { row = n; col = refl; fits = omega arith; front = tt; sound = subst (Sound wrapped) (sym whole) sound } in
    let there : two base done below above (not (ends above)) (y ∷ ys) wrapped (pen_at (r + 1) 0 a)
    ≡ mid base top below (cells_after_cut default_blank (y ∷ ys)) wrapped (pen_at (r + 1) 0 a) =
    ap (λ (t : Bool). two base done below above (not t) (y ∷ ys) wrapped (pen_at (r + 1) 0 a)) full
    ∙ (two_mid base done below above true (y ∷ ys) wrapped (pen_at (r + 1) 0 a)
    ∙ ap (λ (z : List CellValue). mid base top below z wrapped (pen_at (r + 1) 0 a)) (sym whole)) in
    let d1 = two base done below above wrapped_above (y ∷ ys) wrapped (pen_at r base.page.width a) in
    let d0 = two base done below above wrapped_above (y ∷ ys) wrapped (pen_at r base.page.width b) in
    in_then May (attr_ops_in form b a) (Print text ∷ []) d0 d1 goal
    (quiet_in May (attr_ops_in form b a) d0 d1 (changing_quiet form b a)
    (changing_draws form base (done ++ row_of above wrapped_above ∷ row_of (y ∷ ys) wrapped ∷ below)
    (pen_at r base.page.width b) a))
    (print_in_wraps May base done below above wrapped_above (y ∷ ys) wrapped r a text wide goal e bottom prints
    (subst (λ (c : Canvas). DrawsIn May (Print text ∷ []) c goal) (sym there)
    (print_in May base top below [] default_blank y ys wrapped (r + 1) 0 text wide a prints spot may)))

first_flag : (f n t : Bool) → (f && not ((n && true) || (t && false))) ≡ (f && not n)
first_flag f n t = grind (arith)

not_right : (a : Attrs) (ys : List CellValue) → is_right_half (at (cells_after_cut (orphan false a) ys) 0) ≡ false
not_right a [] = refl
not_right a (blank b ∷ ys) = refl
not_right a (glyph text wide b ∷ ys) = refl
not_right a (right_half ∷ ys) = refl

-- With a wrap pending, a space is printed at the beginning of the next row and erased again.
pub first_blank : (May : ℕ → ℕ → Type 0) (form : Form) (base : Canvas) (done below : List RowValue)
    (y : CellValue) (ys : List CellValue) (wrapped : Bool) (r : ℕ) (a : Attrs) →
    base.page.origin ≡ false → length done ≡ r → 0 < base.page.width → Paired (y ∷ ys) → Sound wrapped (y ∷ ys)
    → May r 0 → DrawsIn May (back_op form r 0 ∷ EraseChars 1 ∷ [])
    (mid base done below (with_glyph [] (0x20 ∷ []) false a ys)
    (wrapped_after_glyph wrapped false (drop 1 ys)) (pen_at r 1 a))
    (mid base done below (blank a ∷ cells_after_cut (orphan false a) ys) (wrapped && not (is_nil ys)) (pen_at r 0 a))
first_blank May form base done below y ys wrapped r a o e pos paired sound may =
    let row = λ (z : List CellValue). blank a ∷ z in
    let pen = pen_at r 0 a in
    let whole = opened_paired default_blank (y ∷ ys) paired in
    let spaced = with_glyph [] (0x20 ∷ []) false a ys in
    let now = wrapped_after_glyph wrapped false (drop 1 ys) in
    let start = mid base done below spaced now (pen_at r 1 a) in
    let middle = mid base done below spaced now pen in
    let goal = mid base done below (row (cells_after_cut (orphan false a) ys)) (wrapped && not (is_nil ys)) pen in
    let size = length-append done (row_of spaced now ∷ below) in
    in_then May (back_op form r 0 ∷ []) (EraseChars 1 ∷ []) start middle
    goal (quiet_in May (back_op form r 0 ∷ []) start middle (back_quiet form r 0)
    (back_draws form base (done ++ row_of spaced now ∷ below) r 0 a o (omega arith) pos))
    (record {
      draws = chars_erased base done below [] spaced now r 0 0 a e refl (omega arith) tt
          ∙ (ap (λ (f : Bool). Some
          (mid base done below (row (cells_after_cut default_blank (cells_after_cut (orphan false a) ys)))
          (kept f (row (cells_after_cut default_blank (cells_after_cut (orphan false a) ys)))) pen))
          (no_tear wrapped (is_torn (drop 1 ys)))
          ∙ (ap (λ (z : List CellValue). Some (mid base done below (row z) (kept wrapped (row z)) pen))
          (opened_twice default_blank (orphan false a) ys refl)
          ∙ ap (λ (f : Bool). Some (mid base done below (row (cells_after_cut (orphan false a) ys)) f pen))
          (first_kept y ys wrapped a whole sound)));
      touches = erase_touches May middle 0 1 (omega arith) refl
          (changes_at May base done below [] spaced now r 0 1 0 a e refl tt
          (λ k low high. let z : 0 ≡ k = omega arith in subst (May r) z may)
          (λ t. let n = not_right a ys in absurd (cc)));
    })
  where
    first_kept : (y : CellValue) (ys : List CellValue) (wrapped : Bool) (a : Attrs) →
        cells_after_cut default_blank (y ∷ ys) ≡ y ∷ ys → Sound wrapped (y ∷ ys) →
        kept wrapped (blank a ∷ cells_after_cut (orphan false a) ys) ≡ (wrapped && not (is_nil ys))
    first_kept y ys wrapped a whole sound =
        flag_step [] (blank a ∷ []) y ys (orphan false a) default_blank
        0 wrapped true refl (subst (Sound wrapped) (sym whole) sound)
        ∙ first_flag wrapped (is_nil ys) (is_torn ys)

pub first_sound : (y : CellValue) (ys : List CellValue) (wrapped : Bool) (a : Attrs) → Paired (y ∷ ys) →
    Sound wrapped (y ∷ ys) → Sound (wrapped && not (is_nil ys)) (blank a ∷ cells_after_cut (orphan false a) ys)
first_sound y ys wrapped a paired sound =
    sound_kept wrapped (blank a ∷ cells_after_cut (orphan false a) ys) (wrapped && not (is_nil ys))
    (flag_step [] (blank a ∷ []) y ys (orphan false a) default_blank 0 wrapped true refl
    (subst (Sound wrapped) (sym (opened_paired default_blank (y ∷ ys) paired)) sound)
    ∙ first_flag wrapped (is_nil ys) (is_torn ys))

pub glyph_sound : (y : CellValue) (ys : List CellValue) (wrapped : Bool) (text : List ℕ) (wide : Bool) (a : Attrs) →
    Paired (y ∷ ys) → Sound wrapped (y ∷ ys) → Sound (wrapped_after_glyph wrapped wide (drop 1 ys))
    (with_glyph [] text wide a ys)
glyph_sound y ys wrapped text wide a paired sound =
    sound_kept wrapped (with_glyph [] text wide a ys) (wrapped_after_glyph wrapped wide (drop 1 ys))
    (glyph_flag [] default_blank y ys wrapped text wide a
    (subst (Sound wrapped) (sym (opened_paired default_blank (y ∷ ys) paired)) sound))

-- In the portable form, the operations that draw a blank at the beginning of a row are portable.
pub blank_portably : (form : Form) → form ≡ Portable → (base : Canvas) (done below : List RowValue) (above : List CellValue)
    (wrapped_above : Bool) (y : CellValue) (ys : List CellValue) (wrapped : Bool) (r : ℕ) (b a : Attrs) (was : Bool) →
    base.page.origin ≡ false → length done ≡ r → base.page.bottom + 1 ≡ length done + suc (suc (length below)) →
    0 < base.page.width → ends above ≡ false → Paired (y ∷ ys) → Sound wrapped (y ∷ ys) →
    Portably (attr_ops_in form b a ++ Print (0x20 ∷ []) ∷ back_op form (r + 1) 0 ∷ EraseChars 1 ∷ []) was
    (two base done below above wrapped_above (y ∷ ys) wrapped (pen_at r base.page.width b)) false
    (two base done below above true (blank a ∷ cells_after_cut (orphan false a) ys) (wrapped && not (is_nil ys)) (pen_at
    (r + 1) 0 a))
blank_portably Fixed is base done below above wrapped_above y ys wrapped r b a was origin e bottom pos full k
    sound = absurd cc
blank_portably Portable is base done below above wrapped_above y ys wrapped r b a was origin e bottom pos full k sound =
    let top = done ++ row_of above true ∷ [] in
    let n : length top ≡ r + 1 = let l = length-append done (row_of above true ∷ []) in omega (arith, l, e) in
    let space : List ℕ = 0x20 ∷ [] in
    let attrs = attr_ops_in Portable b a in
    let start = two base done below above wrapped_above (y ∷ ys) wrapped (pen_at r base.page.width b) in
    let now = wrapped_after_glyph wrapped false (drop 1 ys) in
    let spaced = mid base top below (with_glyph [] space false a ys) now (pen_at (r + 1) 1 a) in
    let goal = two base done below above true (blank a ∷ cells_after_cut (orphan false a) ys)
    (wrapped && not (is_nil ys))
    (pen_at (r + 1) 0 a) in
    let prints = space_prints base.page.width pos in
    subst (λ (ops : List Op). Portably ops was start false goal)
    (append_assoc attrs (Print space ∷ []) (MoveTo (r + 1) 0 ∷ EraseChars 1 ∷ []))
    (portably_both (attrs ++ Print space ∷ []) (MoveTo (r + 1) 0 ∷ EraseChars 1 ∷ []) was (was || shifts Portable
    space) false
    start spaced goal
    (first_glyph Any Portable base done below above wrapped_above y ys wrapped r b space false a e bottom full k
    sound (omega (
      arith,
      pos,
    ))
    prints (record { first = tt; second = λ _. tt; torn = λ _. tt })).draws
    (first_glyph_portably Portable refl base done below above wrapped_above y ys wrapped r b space false a was e bottom
    full k sound (omega (arith, pos)) prints (inr (space_first base.page.width pos)))
    (unspaced_portably base top below ys now (r + 1) a (was || shifts Portable space) goal n origin
    (omega (arith, n)) pos refl refl))

-- ---- a glyph where terminals may differ in the cursor's position

-- The operations that print the glyph with the given text and attributes at the beginning of the next row.
abbrev pub linked_ops : Form → (shifted : Bool) → Canvas → (r : ℕ) → (b : Attrs) → (text : List ℕ) → Attrs → List Op
linked_ops form shifted base r b text a =
    attr_ops_in form b a
    ++ (wrap_ops (r + 1) (record (pen_in form r base.page.width b) { is_shifted = shifted }) ++ Print text ∷ [])

-- Whether a glyph is printed over the space that wrapped, or wraps itself, the row's cells are the same.
over_space : (text : List ℕ) (wide : Bool) (a : Attrs) (ys : List CellValue) →
    with_glyph [] text wide a (cells_after_cut (orphan false a) ys) ≡ with_glyph [] text wide a ys
over_space text false a ys =
    ap (λ (z : List CellValue). glyph text false a ∷ z) (opened_twice (orphan false a) (orphan false a) ys refl)
over_space text true a ys =
    ap (λ (z : List CellValue). glyph text true a ∷ right_half ∷ cells_after_cut (orphan true a) z)
    (drop_opened 0 (orphan false a) ys)

flag_again : (f w t u : Bool) → ((f && not (false && u)) && not (w && t)) ≡ (f && not (w && t))
flag_again f w t u = grind (arith)

wrapped_over_space : (wrapped wide : Bool) (o : CellValue) (ys : List CellValue) →
    wrapped_after_glyph (wrapped_after_glyph wrapped false (drop 1 ys)) wide (drop 1 (cells_after_cut o ys))
    ≡ wrapped_after_glyph wrapped wide (drop 1 ys)
wrapped_over_space wrapped wide o ys =
    ap (λ (z : List CellValue). wrapped_after_glyph (wrapped_after_glyph wrapped false (drop 1 ys)) wide z)
    (drop_opened 0 o ys)
    ∙ flag_again wrapped wide (is_torn (drop 1 ys)) (is_torn (drop 1 ys))

-- Where a glyph may touch positions, it may also be printed over the space.
may_over_space : (May : ℕ → ℕ → Type 0) (r : ℕ) (wide : Bool) (a : Attrs) (ys : List CellValue) →
    MayGlyph May r 0 wide ys → MayGlyph May r 0 wide (cells_after_cut (orphan false a) ys)
may_over_space May r false a ys may = record {
  first = may.first;
  second = may.second;
  torn = λ t. let n = not_right a ys in absurd (cc);
}
may_over_space May r true a ys may = record {
  first = may.first;
  second = may.second;
  torn = λ t. may.torn
      (ap (λ (z : List CellValue). is_right_half (at z 0)) (sym (drop_opened 0 (orphan false a) ys)) ∙ t);
}

-- Where a glyph may touch positions, a space may be printed at its beginning.
may_space : (May : ℕ → ℕ → Type 0) (r : ℕ) (wide : Bool) (ys : List CellValue) → MayGlyph May r 0 wide ys →
    MayGlyph May r 0 false ys
may_space May r false ys may = may
may_space May r true ys may = record { first = may.first; second = λ t. absurd (cc); torn = λ _. may.second refl }

-- There is room for the glyph where the space is.
space_spot : (base : Canvas) (done : List RowValue) (y : CellValue) (ys : List CellValue) (wrapped : Bool) (r : ℕ)
    (wide : Bool) (a : Attrs) → length done ≡ r → Paired (y ∷ ys) → Sound wrapped (y ∷ ys) →
    glyph_columns wide ≤ base.page.width →
    Spot base done [] default_blank (glyph (0x20 ∷ []) false a) (cells_after_cut (orphan false a) ys)
    (wrapped_after_glyph wrapped false (drop 1 ys)) r 0 wide
space_spot base done y ys wrapped r wide a e paired sound fits = record {
  row = e;
  col = refl;
  fits = omega (arith, fits);
  front = tt;
  sound = glyph_sound y ys wrapped (0x20 ∷ []) false a paired sound;
}

-- The canvas after the glyph is printed over the space.
over_space_is : (base : Canvas) (done below : List RowValue) (ys : List CellValue) (wrapped : Bool) (r : ℕ)
    (text : List ℕ) (wide : Bool) (a : Attrs) →
    put base done below [] (cells_after_cut (orphan false a) ys)
    (wrapped_after_glyph wrapped false (drop 1 ys)) r 0 text
    wide a
    ≡ put base done below [] ys wrapped r 0 text wide a
over_space_is base done below ys wrapped r text wide a =
    let pen = pen_at r (0 + glyph_columns wide) a in
    ap (λ (z : List CellValue). mid base done below z
    (wrapped_after_glyph (wrapped_after_glyph wrapped false (drop 1 ys))
    wide (drop 1 (cells_after_cut (orphan false a) ys))) pen) (over_space text wide a ys)
    ∙ ap (λ (f : Bool). mid base done below (with_glyph [] text wide a ys) f pen)
    (wrapped_over_space wrapped wide (orphan false a) ys)

-- The canvas after a space has been printed at the beginning of the next row.
abbrev spaced_row : Canvas → (done below : List RowValue) → (ys : List CellValue) → Bool → (r c : ℕ) → Attrs → Canvas
spaced_row base done below ys wrapped r c a =
    mid base done below (with_glyph [] (0x20 ∷ []) false a ys) (wrapped_after_glyph wrapped false (drop 1 ys))
    (pen_at r c a)

-- The glyph is printed over the space.
replaces_space : (May : ℕ → ℕ → Type 0) (base : Canvas) (done below : List RowValue) (y : CellValue)
    (ys : List CellValue) (wrapped : Bool) (r : ℕ) (text : List ℕ) (wide : Bool) (a : Attrs) →
    base.page.origin ≡ false → length done ≡ r → 0 < base.page.width → Paired (y ∷ ys) → Sound wrapped (y ∷ ys) →
    glyph_columns wide ≤ base.page.width → Prints base.page.width text wide → MayGlyph May r 0 wide ys →
    DrawsIn May (MoveTo r 0 ∷ Print text ∷ []) (spaced_row base done below ys wrapped r 1 a)
    (put base done below [] ys wrapped r 0 text wide a)
replaces_space May base done below y ys wrapped r text wide a origin e pos paired sound fits prints may =
    let zs = cells_after_cut (orphan false a) ys in
    let now = wrapped_after_glyph wrapped false (drop 1 ys) in
    let start = spaced_row base done below ys wrapped r 1 a in
    let middle = spaced_row base done below ys wrapped r 0 a in
    let rows = done ++ row_of (with_glyph [] (0x20 ∷ []) false a ys) now ∷ below in
    let size = length-append done (row_of (with_glyph [] (0x20 ∷ []) false a ys) now ∷ below) in
    in_then May (MoveTo r 0 ∷ []) (Print text ∷ []) start middle (put base done below [] ys wrapped r 0 text wide a)
    (quiet_in May (MoveTo r 0 ∷ []) start middle (back_quiet Portable r 0)
    (back_draws Portable base rows r 0 a origin (omega (arith, size, e)) pos))
    (in_to May (Print text ∷ []) middle _ _
    (print_in May base done below [] default_blank (glyph (0x20 ∷ []) false a) zs now r 0 text wide a prints
    (space_spot base done y ys wrapped r wide a e paired sound fits) (may_over_space May r wide a ys may))
    (over_space_is base done below ys wrapped r text wide a))

replaces_space_portably : (base : Canvas) (done below : List RowValue) (y : CellValue) (ys : List CellValue)
    (wrapped : Bool) (r : ℕ) (text : List ℕ) (wide : Bool) (a : Attrs) (was : Bool) → base.page.origin ≡ false →
    length done ≡ r → 0 < base.page.width → Paired (y ∷ ys) → Sound wrapped (y ∷ ys) →
    glyph_columns wide ≤ base.page.width → Prints base.page.width text wide →
    Portably (MoveTo r 0 ∷ Print text ∷ []) was (spaced_row base done below ys wrapped r 1 a) (shifts Portable text)
    (put base done below [] ys wrapped r 0 text wide a)
replaces_space_portably base done below y ys wrapped r text wide a was origin e pos paired sound fits prints =
    let zs = cells_after_cut (orphan false a) ys in
    let now = wrapped_after_glyph wrapped false (drop 1 ys) in
    let start = spaced_row base done below ys wrapped r 1 a in
    let middle = spaced_row base done below ys wrapped r 0 a in
    let rows = done ++ row_of (with_glyph [] (0x20 ∷ []) false a ys) now ∷ below in
    let size = length-append done (row_of (with_glyph [] (0x20 ∷ []) false a ys) now ∷ below) in
    portably_both (MoveTo r 0 ∷ []) (Print text ∷ []) was false (shifts Portable text) start middle
    (put base done below [] ys wrapped r 0 text wide a)
    (back_draws Portable base rows r 0 a origin (omega (arith, size, e)) pos)
    (back_portably r was start middle refl pos)
    (subst (λ (k : Canvas). Portably (Print text ∷ []) false middle (shifts Portable text) k)
    (over_space_is base done below ys wrapped r text wide a)
    (glyph_portably base done below [] default_blank (glyph (0x20 ∷ []) false a) zs now r 0 text wide a prints
    (space_spot base done y ys wrapped r wide a e paired sound fits)))

-- With a wrap pending, the glyph at the beginning of the next row is drawn.
pub linked_glyph : (May : ℕ → ℕ → Type 0) (form : Form) (shifted : Bool) (base : Canvas) (done below : List RowValue)
    (above : List CellValue) (wrapped_above : Bool) (y : CellValue) (ys : List CellValue) (wrapped : Bool) (r : ℕ)
    (b : Attrs)
    (text : List ℕ) (wide : Bool) (a : Attrs) → base.page.origin ≡ false → length done ≡ r →
    base.page.bottom + 1 ≡ length done + suc (suc (length below)) → ends above ≡ false →
    Paired (y ∷ ys) → Sound wrapped (y ∷ ys) → glyph_columns wide ≤ base.page.width →
    Prints base.page.width text wide → MayGlyph May (r + 1) 0 wide ys →
    DrawsIn May (linked_ops form shifted base r b text a)
    (two base done below above wrapped_above (y ∷ ys) wrapped (pen_at r base.page.width b))
    (put base (done ++ row_of above true ∷ []) below [] ys wrapped (r + 1) 0 text wide a)
linked_glyph May form false base done below above wrapped_above y ys wrapped r b text wide a origin e bottom full
    paired sound fits prints may =
    first_glyph May form base done below above wrapped_above y ys wrapped r b text wide a e bottom full paired sound
    fits prints may
linked_glyph May form true base done below above wrapped_above y ys wrapped r b text wide a origin e bottom full
    paired sound fits prints may =
    let top = done ++ row_of above true ∷ [] in
    let n : length top ≡ r + 1 = let l = length-append done (row_of above true ∷ []) in omega (arith, l, e) in
    let some = some_columns wide in
    let start = two base done below above wrapped_above (y ∷ ys) wrapped (pen_at r base.page.width b) in
    subst (λ (ops : List Op). DrawsIn May ops start (put base top below [] ys wrapped (r + 1) 0 text wide a))
    (append_assoc (attr_ops_in form b a) (Print (0x20 ∷ []) ∷ []) (MoveTo (r + 1) 0 ∷ Print text ∷ []))
    (in_then May (attr_ops_in form b a ++ Print (0x20 ∷ []) ∷ []) (MoveTo (r + 1) 0 ∷ Print text ∷ []) start
    (spaced_row base top below ys wrapped (r + 1) 1 a) (put base top below [] ys wrapped (r + 1) 0 text wide a)
    (first_glyph May form base done below above wrapped_above y ys wrapped r b (0x20 ∷ []) false a e bottom full
    paired sound (omega (arith, some, fits)) (space_prints base.page.width (omega (arith, some, fits)))
    (may_space May (r + 1) wide ys may))
    (replaces_space May base top below y ys wrapped (r + 1) text wide a origin n (omega (arith, some, fits))
    paired sound fits prints may))

-- In the portable form, these operations are portable.
pub linked_portably : (form : Form) → form ≡ Portable → (shifted : Bool) → (base : Canvas) (done below : List RowValue)
    (above : List CellValue) (wrapped_above : Bool) (y : CellValue) (ys : List CellValue) (wrapped : Bool) (r : ℕ)
    (b : Attrs)
    (text : List ℕ) (wide : Bool) (a : Attrs) → base.page.origin ≡ false → length done ≡ r →
    base.page.bottom + 1 ≡ length done + suc (suc (length below)) → ends above ≡ false →
    Paired (y ∷ ys) → Sound wrapped (y ∷ ys) → glyph_columns wide ≤ base.page.width →
    Prints base.page.width text wide →
    Portably (linked_ops form shifted base r b text a) shifted
    (two base done below above wrapped_above (y ∷ ys) wrapped (pen_at r base.page.width b)) (shifts form text)
    (put base (done ++ row_of above true ∷ []) below [] ys wrapped (r + 1) 0 text wide a)
linked_portably Fixed is shifted base done below above wrapped_above y ys wrapped r b text wide a origin e bottom full
    paired sound fits prints = absurd cc
linked_portably Portable is false base done below above wrapped_above y ys wrapped r b text wide a origin e bottom full
    paired sound fits prints =
    first_glyph_portably Portable refl base done below above wrapped_above y ys wrapped r b text wide a false e bottom
    full paired
    sound fits prints (inl refl)
linked_portably Portable is true base done below above wrapped_above y ys wrapped r b text wide a origin e bottom full
    paired sound fits prints =
    let top = done ++ row_of above true ∷ [] in
    let n : length top ≡ r + 1 = let l = length-append done (row_of above true ∷ []) in omega (arith, l, e) in
    let some = some_columns wide in
    let start = two base done below above wrapped_above (y ∷ ys) wrapped (pen_at r base.page.width b) in
    let goal = put base top below [] ys wrapped (r + 1) 0 text wide a in
    let space = space_prints base.page.width (omega (arith, some, fits)) in
    subst (λ (ops : List Op). Portably ops true start (shifts Portable text) goal)
    (append_assoc (attr_ops_in Portable b a) (Print (0x20 ∷ []) ∷ []) (MoveTo (r + 1) 0 ∷ Print text ∷ []))
    (portably_both (attr_ops_in Portable b a ++ Print (0x20 ∷ []) ∷ []) (MoveTo (r + 1) 0 ∷ Print text ∷ []) true true
    (shifts Portable text) start (spaced_row base top below ys wrapped (r + 1) 1 a) goal
    (first_glyph Any Portable base done below above wrapped_above y ys wrapped r b (0x20 ∷ []) false a e bottom full
    paired sound
    (omega (arith, some, fits)) space (record { first = tt; second = λ _. tt; torn = λ _. tt })).draws
    (first_glyph_portably Portable refl base done below above wrapped_above y ys wrapped r b (0x20 ∷ []) false a true e
    bottom full
    paired sound (omega (arith, some, fits)) space (inr (space_first base.page.width (omega (arith, some, fits)))))
    (replaces_space_portably base top below y ys wrapped (r + 1) text wide a true origin n (omega (arith, some, fits))
    paired sound fits prints))
