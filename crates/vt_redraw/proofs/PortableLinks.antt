-- In the portable form, printing the last glyph of a row again is portable, and so is the first cell of the next row.
use Rattle.std.proofs.Common.{◌≡◌, ℕ, suc, ◌+◌, ◌≤◌, ◌<◌, ◌&&◌, ◌||◌, not, Bool, true, false, List, [], ◌∷◌, ◌++◌}
use Rattle.std.proofs.Common.{length, drop, Some, inl, inr, ◌⊎◌, ⊎_elim, ◌==◌, refl, sym, ap, ◌∙◌, subst, arith}
use Rattle.std.specs.Prelude.{chars}
use Rattle.std.specs.Char.{encode_utf8}
use Rattle.std.proofs.lemmas.Bool.{cond_both}
use Rattle.std.proofs.lemmas.List.{length-append}
use Rattle.vt_cells.specs.Attrs.{Attrs}
use Rattle.vt_cells.specs.Cell.{CellValue, attrs_of, blank, default_blank, glyph, is_right_half, right_half, text_of}
use Rattle.vt_cells.specs.Glyph.{columns_of, glyph_columns}
use Rattle.vt_cells.specs.Op.{EraseChars, MoveTo, Print}
use Rattle.vt_rows.specs.Cells.{at, cells_after_cut, ends_blank}
use Rattle.vt_rows.specs.Row.{RowValue}
use Rattle.vt_grid.specs.Canvas.{Canvas, drawn_char}
use Rattle.vt_grid.specs.Page.{cursor_row}
use Rattle.vt_redraw.specs.Doubts.{Doubts, IsPlaced, Pending, Wrap, no_doubts, wrap_at}
use Rattle.vt_redraw.specs.Uses.{IsPortableOp, canvas_after_print, doubts_after_text, Graphic, IsBoundary, doubts_after}
use Rattle.vt_redraw.specs.Uses.{may_print}
use Rattle.vt_redraw.specs.Script.{Scripted, after_last_glyph, attr_ops_in, is_at, last_column, last_glyph, no_ops}
use Rattle.vt_redraw.specs.Script.{pen_after}
use Rattle.vt_redraw.specs.Script.{pen_at, placed_op, shifts, wrapped_after_glyph}
use Rattle.vt_redraw.specs.declared.form.Form.{Form}
use Rattle.vt_redraw.specs.declared.form.Form.TheVariants.{Portable}
use Rattle.vt_redraw.specs.declared.pen.Pen.{Pen}
use Rattle.vt_redraw.proofs.Edits.{cursor_row_is, glyph_cells, mid, orphan, row_of, two, two_mid, Spot, first_drawn}
use Rattle.vt_redraw.proofs.Edits.{put, with_glyph, Reads, Within, back_draws, changing_draws}
use Rattle.vt_redraw.proofs.Link.{last_cases, length_glyph, prints_last}
use Rattle.vt_redraw.proofs.Places.{PrintsCells}
use Rattle.vt_redraw.proofs.Halves.{Sound, ends, ends_is, Paired, opened_paired}
use Rattle.vt_redraw.proofs.PortableSteps.{marks_join, printed, AreJoined, erase_keeps, glyph_portable}
use Rattle.vt_redraw.proofs.PortableParts.{Known, Portably, attrs_portably, erased_goes, exact_known, marks_wrap}
use Rattle.vt_redraw.proofs.PortableParts.{doing_portably, glyph_portably, nothing_portably, placed_known}
use Rattle.vt_redraw.proofs.PortableParts.{portably_both, some_columns}
use Rattle.vt_redraw.proofs.PortableParts.{text_place}
use Rattle.vt_redraw.proofs.Texts.{first_wraps, grows_le, wider_spot, Prints}

-- ---- a glyph at a pending wrap

-- The canvas on which a wrap is pending after the cells `above`, where the next row has the given cells.
abbrev pub waiting : Canvas → (done below : List RowValue) → (above : List CellValue) → (wrapped_above : Bool) →
    (cells : List CellValue) → Bool → (r : ℕ) → Attrs → Canvas
waiting base done below above wrapped_above cells wrapped r a = two base done below above wrapped_above cells wrapped
    (pen_at r base.page.width a)

-- The canvas after the first cells of the next row have been printed.
abbrev pub begun : Canvas → (done below : List RowValue) → (above : List CellValue) → (cells : List CellValue) → Bool →
    (r c : ℕ) → Attrs → Canvas
begun base done below above cells wrapped r c a =
    mid base (done ++ row_of above true ∷ []) below cells wrapped (pen_at (r + 1) c a)

is_pending : (base : Canvas) (done below : List RowValue) (above : List CellValue) (wrapped_above : Bool)
    (cells : List CellValue)
    (wrapped : Bool) (r : ℕ) (a : Attrs) (was : Bool) (doubts : Doubts) → length done ≡ r → ends above ≡ false →
    Known was doubts (waiting base done below above wrapped_above cells wrapped r a).page → doubts.wrap ≡ Pending
is_pending base done below above wrapped_above cells wrapped r a was doubts e full known =
    known.behind (omega arith)
    (ap (λ (row : RowValue). ends_blank row.cells)
    (cursor_row_is base done (row_of cells wrapped ∷ below) above wrapped_above (pen_at r base.page.width a) e)
    ∙ (ends_is above ∙ full))

-- The first character at a pending wrap is printed as at the beginning of the next row.
first_printed : (base : Canvas) (done below : List RowValue) (above : List CellValue) (wrapped_above : Bool)
    (y : CellValue)
    (ys : List CellValue) (wrapped : Bool) (r : ℕ) (a : Attrs) (first : ℕ) (wide : Bool) → length done ≡ r →
    base.page.bottom + 1 ≡ length done + suc (suc (length below)) → ends above ≡ false → Paired (y ∷ ys) →
    columns_of first ≡ Some (glyph_columns wide) → glyph_columns wide ≤ base.page.width →
    Spot base (done ++ row_of above true ∷ []) [] default_blank y ys wrapped (r + 1) 0 wide →
    canvas_after_print first (waiting base done below above wrapped_above (y ∷ ys) wrapped r a)
    ≡ put base (done ++ row_of above true ∷ []) below [] ys wrapped (r + 1) 0 (encode_utf8 first) wide a
first_printed base done below above wrapped_above y ys wrapped r a first wide e bottom full paired columns
    fits at_spot =
    let top = done ++ row_of above true ∷ [] in
    let whole = opened_paired default_blank (y ∷ ys) paired in
    let there : two base done below above (not (ends above)) (y ∷ ys) wrapped (pen_at (r + 1) 0 a)
    ≡ mid base top below (cells_after_cut default_blank (y ∷ ys)) wrapped (pen_at (r + 1) 0 a) =
    ap (λ (t : Bool). two base done below above (not t) (y ∷ ys) wrapped (pen_at (r + 1) 0 a)) full
    ∙ (two_mid base done below above true (y ∷ ys) wrapped (pen_at (r + 1) 0 a)
    ∙ ap (λ (z : List CellValue). mid base top below z wrapped (pen_at (r + 1) 0 a)) (sym whole)) in
    printed first (waiting base done below above wrapped_above (y ∷ ys) wrapped r a)
    (put base top below [] ys wrapped (r + 1) 0 (encode_utf8 first) wide a)
    (first_wraps base done below above wrapped_above (y ∷ ys) wrapped r a first wide e bottom columns fits
    ∙ (ap (drawn_char first) there
    ∙ first_drawn base top below [] default_blank y ys wrapped (r + 1) 0 first wide a columns at_spot))

-- A character may be printed while a wrap is pending if terminals agree on the cursor's position, or if it is a space.
may_wrap : (c : ℕ) (doubts : Doubts) → doubts.wrap ≡ Pending → (doubts.is_shifted ≡ false) ⊎ (c ≡ 0x20) →
    may_print c doubts.wrap doubts.is_shifted ≡ true
may_wrap c doubts pending (inl place) =
    ap (λ (w : Wrap). may_print c w doubts.is_shifted) pending ∙ ap (λ (b : Bool). not b || (c == 0x20)) place
may_wrap c doubts pending (inr space) =
    ap (λ (w : Wrap). may_print c w doubts.is_shifted) pending
    ∙ (ap (λ (x : ℕ). not doubts.is_shifted || (x == 0x20)) space ∙ or_true (not doubts.is_shifted))
  where
    or_true : (b : Bool) → (b || true) ≡ true
    or_true true = refl
    or_true false = refl

-- A glyph that is printed while a wrap is pending is portable if terminals agree on the cursor's position, or if it is a
-- space.
pub wrapping_portably : (base : Canvas) (done below : List RowValue) (above : List CellValue)
    (wrapped_above : Bool) (y : CellValue)
    (ys : List CellValue) (wrapped : Bool) (r : ℕ) (text : List ℕ) (wide : Bool) (a : Attrs) (was : Bool) →
    length done ≡ r → base.page.bottom + 1 ≡ length done + suc (suc (length below)) → ends above ≡ false →
    Paired (y ∷ ys) → Sound wrapped (y ∷ ys) → glyph_columns wide ≤ base.page.width →
    (prints : Prints base.page.width text wide) → (was ≡ false) ⊎ (prints.first ≡ 0x20) →
    Portably (Print text ∷ []) was (waiting base done below above wrapped_above (y ∷ ys) wrapped r a)
    (was || shifts Portable text)
    (begun base done below above (with_glyph [] text wide a ys) (wrapped_after_glyph wrapped wide (drop 1 ys)) r
    (0 + glyph_columns wide) a)
wrapping_portably base done below above wrapped_above y ys wrapped r text wide a was e bottom full paired sound fits
    prints safe doubts known =
    let top = done ++ row_of above true ∷ [] in
    let start = waiting base done below above wrapped_above (y ∷ ys) wrapped r a in
    let goal = begun base done below above (with_glyph [] text wide a ys)
    (wrapped_after_glyph wrapped wide (drop 1 ys)) r
    (0 + glyph_columns wide) a in
    let n : length top ≡ r + 1 = let l = length-append done (row_of above true ∷ []) in omega (arith, l, e) in
    let whole = opened_paired default_blank (y ∷ ys) paired in
    let at_spot : Spot base top [] default_blank y ys wrapped (r + 1) 0 wide =
    record {
      row = n;
      col = refl;
      fits = omega (arith, fits);
      front = tt;
      sound = subst (Sound wrapped) (sym whole) sound;
    } in
    let le = grows_le base.page.width prints.start (encode_utf8 prints.first) prints.marks wide text prints.grows in
    let small = wider_spot base top [] default_blank y ys wrapped (r + 1) 0 prints.start wide le at_spot in
    let same = first_printed base done below above wrapped_above y ys wrapped r a prints.first prints.start e bottom
    full paired
    prints.columns (omega (arith, le, fits)) small in
    let pending = is_pending base done below above wrapped_above (y ∷ ys) wrapped r a was doubts e full known in
    let may = may_wrap prints.first doubts pending (⊎_elim (λ f. inl (known.place f)) (λ s. inr s) safe) in
    let later = doubts_after (Graphic prints.first) doubts start in
    let joined = subst (AreJoined prints.marks) (sym same)
    (marks_join prints.marks base top below [] default_blank y ys wrapped (r + 1) 0 (encode_utf8 prints.first)
    prints.start a wide
    text prints.grows at_spot) in
    let wrap : (doubts_after_text (chars text) doubts start).wrap ≡ wrap_at (0 + glyph_columns wide) base.page.width =
    ap (λ (cs : List ℕ). (doubts_after_text cs doubts start).wrap) prints.is
    ∙ (ap (λ (k : Canvas). (doubts_after_text prints.marks later k).wrap) same
    ∙ marks_wrap prints.marks base top below [] default_blank y ys wrapped (r + 1) 0 (encode_utf8 prints.first)
    prints.start a wide
    text later prints.grows at_spot (ap (λ (k : Canvas). wrap_at k.page.column base.page.width) same)) in
    record {
      left = doubts_after_text (chars text) doubts start;
      portable = (by_width prints.start prints.columns (omega (arith, le, fits)) may joined, λ after f. tt);
      leaves = λ after f. refl;
      known = exact_known (was || shifts Portable text) (doubts_after_text (chars text) doubts start) goal.page wrap
          (λ f. let both = neither was (shifts Portable text) f in
          text_place base.page.width text wide doubts start prints (known.place both.0) both.1);
    }
  where
    neither : (a b : Bool) → (a || b) ≡ false → (a ≡ false) × (b ≡ false)
    neither false b f = (refl, f)
    neither true b f = absurd cc

    by_width : (start : Bool) → columns_of prints.first ≡ Some (glyph_columns start) →
        glyph_columns start ≤ base.page.width → may_print prints.first doubts.wrap doubts.is_shifted ≡ true →
        AreJoined prints.marks (canvas_after_print prints.first
        (waiting base done below above wrapped_above (y ∷ ys) wrapped r a)) →
        IsPortableOp (Print text) doubts (waiting base done below above wrapped_above (y ∷ ys) wrapped r a)
    by_width false columns room may joined =
        glyph_portable text prints.first prints.marks 0 doubts
        (waiting base done below above wrapped_above (y ∷ ys) wrapped r a)
        prints.is columns may (inr (refl, room)) joined
    by_width true columns room may joined =
        glyph_portable text prints.first prints.marks 1 doubts
        (waiting base done below above wrapped_above (y ∷ ys) wrapped r a)
        prints.is columns may (inr (refl, room)) joined

-- ---- the first cell of a row

after_orphan : (q : CellValue) (ys : List CellValue) → is_right_half q ≡ false →
    is_right_half (at (cells_after_cut q ys) 0) ≡ false
after_orphan q [] f = refl
after_orphan q (blank b ∷ ys) f = refl
after_orphan q (glyph text wide b ∷ ys) f = refl
after_orphan q (right_half ∷ ys) f = f

-- A move to the first column of a row makes terminals agree on the position.
pub back_portably : (r : ℕ) (was : Bool) (start goal : Canvas) → goal.page.column ≡ 0 → 0 < goal.page.width →
    Portably (MoveTo r 0 ∷ []) was start false goal
back_portably r was start goal col pos doubts known = record {
  left = no_doubts;
  portable = (tt, λ after f. tt);
  leaves = λ after f. refl;
  known = placed_known false no_doubts goal.page (record { wrap = refl; place = refl }) (omega (arith, col, pos));
}

-- The space that was printed in the first column is erased.
pub unspaced_portably : (base : Canvas) (done below : List RowValue) (ys : List CellValue) (wrapped : Bool) (r : ℕ) (a :
    Attrs)
    (was : Bool) (goal : Canvas) → length done ≡ r → base.page.origin ≡ false → r < length done + suc (length below) →
    0 < base.page.width → goal.page.column ≡ 0 → goal.page.width ≡ base.page.width →
    Portably (MoveTo r 0 ∷ EraseChars 1 ∷ []) was
    (mid base done below (with_glyph [] (0x20 ∷ []) false a ys) wrapped (pen_at r 1 a)) false goal
unspaced_portably base done below ys wrapped r a was goal e origin inside pos col wide =
    let spaced = with_glyph [] (0x20 ∷ []) false a ys in
    let start = mid base done below spaced wrapped (pen_at r 1 a) in
    let middle = mid base done below spaced wrapped (pen_at r 0 a) in
    let size = length-append done (row_of spaced wrapped ∷ below) in
    let row = cursor_row_is base done below spaced wrapped (pen_at r 0 a) e in
    let begin : IsBoundary 0 (cursor_row middle.page).cells = ap (λ (row : RowValue). is_right_half (at row.cells 0))
    row in
    let end : IsBoundary 1 (cursor_row middle.page).cells =
    ap (λ (row : RowValue). is_right_half (at row.cells 1)) row ∙ after_orphan (orphan false a) ys refl in
    portably_both (MoveTo r 0 ∷ []) (EraseChars 1 ∷ []) was false false start middle goal
    (back_draws Portable base (done ++ row_of spaced wrapped ∷ below) r 0 a origin (omega (arith, size, inside)) pos)
    (back_portably r was start middle refl pos)
    (λ doubts known.
    let placed : IsPlaced doubts = record { wrap = known.inside pos; place = known.place refl } in
    erased_goes (EraseChars 1 ∷ []) doubts middle goal (erase_keeps 0 doubts middle placed begin end) placed
    (omega (arith, col, wide, pos)))

-- The first cell of a row is a glyph, and its attributes are set before it is printed.
pub first_glyph_portably : (form : Form) → form ≡ Portable → (base : Canvas) (done below : List RowValue)
    (above : List CellValue) (wrapped_above : Bool) (y : CellValue) (ys : List CellValue) (wrapped : Bool) (r : ℕ)
    (b : Attrs)
    (text : List ℕ) (wide : Bool) (a : Attrs) (was : Bool) → length done ≡ r →
    base.page.bottom + 1 ≡ length done + suc (suc (length below)) → ends above ≡ false → Paired (y ∷ ys) →
    Sound wrapped (y ∷ ys) → glyph_columns wide ≤ base.page.width → (prints : Prints base.page.width text wide) →
    (was ≡ false) ⊎ (prints.first ≡ 0x20) →
    Portably (attr_ops_in form b a ++ Print text ∷ []) was
    (waiting base done below above wrapped_above (y ∷ ys) wrapped r b)
    (was || shifts form text)
    (begun base done below above (with_glyph [] text wide a ys) (wrapped_after_glyph wrapped wide (drop 1 ys)) r
    (0 + glyph_columns wide) a)
first_glyph_portably form is base done below above wrapped_above y ys wrapped r b text wide a was e bottom full
    paired sound fits prints safe =
    let rows = done ++ row_of above wrapped_above ∷ row_of (y ∷ ys) wrapped ∷ below in
    let goal = begun base done below above (with_glyph [] text wide a ys)
    (wrapped_after_glyph wrapped wide (drop 1 ys)) r
    (0 + glyph_columns wide) a in
    subst (λ (f : Form). Portably (attr_ops_in form b a ++ Print text ∷ []) was
    (waiting base done below above wrapped_above (y ∷ ys) wrapped r b) (was || shifts f text) goal) (sym is)
    (portably_both (attr_ops_in form b a) (Print text ∷ []) was was (was || shifts Portable text)
    (waiting base done below above wrapped_above (y ∷ ys) wrapped r b)
    (waiting base done below above wrapped_above (y ∷ ys) wrapped r a) goal
    (changing_draws form base rows (pen_at r base.page.width b) a)
    (attrs_portably form is base rows (pen_at r base.page.width b) a was)
    (wrapping_portably base done below above wrapped_above y ys wrapped r text wide a was e bottom full paired sound
    fits prints safe))

-- ---- the last glyph of a row

still : (wrapped : Bool) → (wrapped && not false) ≡ wrapped
still wrapped = grind (arith)

last_portably : (base : Canvas) (done below : List RowValue) (pre : List CellValue) (text : List ℕ) (wide : Bool) (a :
    Attrs)
    (wrapped : Bool) (r : ℕ) → Prints base.page.width text wide → length done ≡ r →
    length pre + glyph_columns wide ≡ base.page.width → Paired pre → Sound wrapped (pre ++ glyph_cells text wide a) →
    Portably (Print text ∷ []) false (mid base done below (pre ++ glyph_cells text wide a) wrapped
    (pen_at r (length pre) a))
    (shifts Portable text)
    (mid base done below (pre ++ glyph_cells text wide a) wrapped (pen_at r (length pre + glyph_columns wide) a))
last_portably base done below pre text false a wrapped r prints e w front sound =
    let row = pre ++ glyph text false a ∷ [] in
    subst (λ (f : Bool). Portably (Print text ∷ []) false (mid base done below row wrapped (pen_at r (length pre) a))
    (shifts Portable text) (mid base done below row f (pen_at r (length pre + 1) a))) (still wrapped)
    (glyph_portably base done below pre default_blank (glyph text false a) [] wrapped r (length pre) text false a prints
    (record { row = e; col = refl; fits = omega (arith, w); front = front; sound = sound }))
last_portably base done below pre text true a wrapped r prints e w front sound =
    let row = pre ++ glyph text true a ∷ right_half ∷ [] in
    subst (λ (f : Bool). Portably (Print text ∷ []) false (mid base done below row wrapped (pen_at r (length pre) a))
    (shifts Portable text) (mid base done below row f (pen_at r (length pre + 2) a))) (still wrapped)
    (glyph_portably base done below pre default_blank (glyph text true a) (right_half ∷ []) wrapped r (length pre) text
    true a
    prints (record { row = e; col = refl; fits = omega (arith, w); front = front; sound = sound }))

-- Printing the last glyph of a row again is portable.
pub after_portably : (base : Canvas) (done below : List RowValue) (xs : List CellValue) (wrapped : Bool) (r height : ℕ)
    (pen : Pen) → pen.form ≡ Portable → Reads base height base.page.width → length done ≡ r →
    r + suc (length below) ≡ height → length xs ≡ base.page.width → Paired xs → ends xs ≡ false →
    PrintsCells base.page.width xs → Within pen height base.page.width →
    Portably (after_last_glyph r pen xs).ops pen.is_shifted (mid base done below xs wrapped pen)
    (after_last_glyph r pen xs).pen.is_shifted (mid base done below xs wrapped (after_last_glyph r pen xs).pen)
after_portably base done below xs wrapped r height pen is reads e rows w h full prints within =
    let again : Scripted = record {
      ops = placed_op pen r (last_column xs) (attrs_of (last_glyph xs)) (Print (text_of (last_glyph xs)));
      pen = pen_after pen.form r xs;
      wrapped = true;
    } in
    cond_both (is_at pen r (length xs)) (no_ops pen true) again
    (λ (v : Scripted). Portably v.ops pen.is_shifted (mid base done below xs wrapped pen) v.pen.is_shifted
    (mid base done below xs wrapped v.pen))
    (λ _. nothing_portably pen.is_shifted (mid base done below xs wrapped pen))
    (λ _. last_cases
    (λ z k x. PrintsCells base.page.width z → length z ≡ base.page.width → Sound wrapped z →
    Portably (placed_op pen r k (attrs_of x) (Print (text_of x))) pen.is_shifted (mid base done below z wrapped pen)
    (shifts pen.form (text_of x)) (mid base done below z wrapped (pen_at r (length z) (attrs_of x))))
    (λ pre text wide a front p size sound.
    let n = length_glyph pre text wide a in
    let one = some_columns wide in
    let row = pre ++ glyph_cells text wide a in
    let goal = mid base done below row wrapped (pen_at r (length row) a) in
    doing_portably base done below row wrapped r (length pre) height pen a (Print text) (shifts pen.form text) goal is
    reads e rows
    (omega (arith, n, size, one)) within
    (subst (λ (f : Form). Portably (Print text ∷ []) false (mid base done below row wrapped (pen_at r (length pre) a))
    (shifts f text) goal) (sym is)
    (subst (λ (c : ℕ). Portably (Print text ∷ []) false (mid base done below row wrapped (pen_at r (length pre) a))
    (shifts Portable text) (mid base done below row wrapped (pen_at r c a))) (sym n)
    (last_portably base done below pre text wide a wrapped r (prints_last base.page.width pre text wide a p) e (sym n ∙
    size) front
    sound))))
    xs h full prints w (λ _. full))
