-- The operations that place the cursor are tidy.
use Rattle.std.proofs.Common.{◌≡◌, ℕ, zero, suc, ◌+◌, ◌-◌, ◌<◌, ◌≤◌, ◌⊎◌, ◌&&◌, ◌==◌, nat_lt, Bool, true, false, List}
use Rattle.std.proofs.Common.{[], ◌∷◌, ◌++◌, length, replicate, refl, inl, inr, sym, ap, subst, ◌∙◌, arith, Some, None}
use Rattle.std.proofs.Common.{Option}
use Rattle.std.specs.Prelude.{if◌then◌else◌, chars}
use Rattle.std.specs.List.{AllByRecursion}
use Rattle.std.proofs.lemmas.Bool.{and_parts, cond_both, ltb-true, cases_Bool, eqb-true, ltb-false}
use Rattle.std.proofs.lemmas.List.{length-append}
use Rattle.vt_cells.specs.Attrs.{Attrs, default_attrs}
use Rattle.vt_cells.specs.Cell.{CellValue, attrs_of, blank, glyph, text_of}
use Rattle.vt_cells.specs.Op.{Op, EraseChars, LineFeed, Print, RestoreCursor, SaveCursor}
use Rattle.vt_rows.specs.Cells.{at, ends_blank}
use Rattle.vt_rows.specs.Row.{RowValue, blank_row}
use Rattle.vt_grid.specs.Canvas.{Canvas}
use Rattle.vt_grid.specs.Page.{row_or}
use Rattle.vt_grid.proofs.Texts.{Draws}
use Rattle.vt_redraw.specs.Redraw.{blank_passed, cursor_written, nearest, over_blank, pending_at, strays, under_last}
use Rattle.vt_redraw.specs.Script.{after_last_glyph, attr_ops_in, back_op, is_at, move_ops, pen_at, last_column}
use Rattle.vt_redraw.specs.Script.{last_glyph, no_ops, pen_after, placed_op, Scripted}
use Rattle.vt_redraw.specs.declared.form.Form.{Form}
use Rattle.vt_redraw.specs.declared.form.Form.TheVariants.{Fixed, Portable}
use Rattle.vt_redraw.specs.declared.pen.Pen.{Pen}
use Rattle.vt_redraw.proofs.Cursor.{NearestIs, all_row, ends_in_blank, last_attrs, nearest_is, off, saved_at, split_row}
use Rattle.vt_redraw.proofs.Edits.{Reads, Within, at_pen, back_draws, changing_draws, mid, row_of}
use Rattle.vt_redraw.proofs.Halves.{Paired, ends_is, ends}
use Rattle.vt_redraw.proofs.Link.{erase_last, print_bare}
use Rattle.vt_redraw.proofs.Places.{going_there}
use Rattle.vt_redraw.proofs.Ranges.{Any}
use Rattle.vt_redraw.proofs.Rows.{Stands}
use Rattle.vt_redraw.proofs.Texts.{space_prints}
use Rattle.vt_terminals.specs.Room.{is_uncertain}
use Rattle.vt_terminals.specs.Terminal.{Positions}
use Rattle.vt_terminals.proofs.Agrees.{TidyTo, nowhere}
use Rattle.vt_terminals.proofs.Flags.{attr_shift, feeds_shift, move_shift, shifts_all, shifts_then}
use Rattle.vt_terminals.proofs.TidyGlyphs.{Fine}
use Rattle.vt_terminals.proofs.TidyLinks.{after_tidy, erased_within, last_tidy}
use Rattle.vt_terminals.proofs.TidyParts.{AllStill, changing_still, feeds_still, going_still, still_tidy, tidy_nothing}
use Rattle.vt_terminals.proofs.TidyParts.{tidy_then, tidy_to}
use Rattle.vt_terminals.proofs.TidyPens.{Flat, after_track, last_one, space_one}
use Rattle.vt_terminals.proofs.TidyRows.{FineRows}
use Rattle.vt_terminals.proofs.Agrees as agrees

-- ==== Operations that print and erase nothing, after others

still_append : (xs ys : List Op) → AllStill xs → AllStill ys → AllStill (xs ++ ys)
still_append [] ys h k = k
still_append (x ∷ xs) ys h k = (h.0, still_append xs ys h.1 k)

pub then_still : (near : Positions) (xs ys : List Op) (torn : Positions) (canvas : Canvas) (left : Positions) →
    TidyTo near xs torn canvas left →
    AllStill ys → TidyTo near (xs ++ ys) torn canvas left
then_still near [] ys torn canvas left h still =
    tidy_to near ys torn canvas torn left (still_tidy near ys torn canvas still) h
then_still near (x ∷ xs) ys torn canvas left h still =
    (h.0, λ next e. then_still near xs ys (agrees.torn_after x torn canvas) next left (h.1 next e) still)

back_still : (form : Form) (r c : ℕ) → AllStill (back_op form r c ∷ [])
back_still Fixed r c = (refl, tt)
back_still Portable r c = (refl, tt)

-- ==== A pending wrap over a blank

passed_tidy : (near : Positions) (form : Form) (base : Canvas) (done below : List RowValue) (pre : List CellValue)
    (r : ℕ) (was b : Attrs) →
    base.page.origin ≡ false → 0 < base.page.width → length done ≡ r → length pre + 1 ≡ base.page.width → Paired pre →
    TidyTo near (blank_passed form r (length pre) was b) nowhere
    (mid base done below (pre ++ blank b ∷ []) false (pen_at r (length pre) was)) nowhere
passed_tidy near form base done below pre r was b o pos e w h =
    let row = pre ++ blank b ∷ [] in
    let space : List ℕ = 0x20 ∷ [] in
    let spaced = pre ++ glyph space false was ∷ [] in
    let c = length pre in
    let width = base.page.width in
    let other = saved_at base r width b in
    let prints = space_prints width pos in
    let size = length-append done (row_of spaced false ∷ below) in
    let rows = λ (z : List CellValue). done ++ row_of z false ∷ below in
    let m1 = mid base done below row false (pen_at r c was) in
    let m2 = mid base done below spaced false (pen_at r width was) in
    let m3 = mid base done below spaced false (pen_at r width b) in
    let m4 = mid other done below spaced false (pen_at r width b) in
    let m5 = mid other done below spaced false (pen_at r c b) in
    let m6 = mid other done below row false (pen_at r c b) in
    let last = attr_ops_in form b was in
    let restored = RestoreCursor ∷ last in
    let erased = EraseChars 1 ∷ restored in
    let moved = back_op form r c ∷ erased in
    let saved = SaveCursor ∷ moved in
    let printed = print_bare Any Fixed base done below pre space false b was r prints e w h (λ k low high. tt) in
    let at_end = λ (z : ℕ). mid base done below spaced false (pen_at r z was) in
    let back = subst (λ (z : ℕ). Draws (back_op form r c ∷ []) (mid other done below spaced false (pen_at r z b)) m5) w
    (back_draws form other (rows spaced) r c b o (omega (arith, size, e)) (omega (arith, w))) in
    tidy_then near (Print space ∷ []) (attr_ops_in form was b ++ saved) nowhere nowhere nowhere m1 m2
    (last_tidy near base done below pre (blank b) [] space false was false r refl e w refl space_one)
    (printed.draws ∙ ap (λ (z : ℕ). Some (at_end z)) w)
    (tidy_then near (attr_ops_in form was b) saved nowhere nowhere nowhere m2 m3
    (still_tidy near (attr_ops_in form was b) nowhere m2 (changing_still form was b))
    (changing_draws form base (rows spaced) (pen_at r width was) b)
    (tidy_then near (SaveCursor ∷ []) moved nowhere nowhere nowhere m3 m4
    (still_tidy near (SaveCursor ∷ []) nowhere m3 (refl, tt)) refl
    (tidy_then near (back_op form r c ∷ []) erased nowhere nowhere nowhere m4 m5
    (still_tidy near (back_op form r c ∷ []) nowhere m4 (back_still form r c)) back
    (tidy_then near (EraseChars 1 ∷ []) restored nowhere nowhere nowhere m5 m6
    (tt, λ next f. erased_within near nowhere 1 m5.page)
    (erase_last Any Fixed other done below pre space false was b false r e w h (λ k low high. tt)).draws
    (refl, λ next f. still_tidy near last nowhere next (changing_still form b was))))))

over_tidy : (near : Positions) (base : Canvas) (done below : List RowValue) (pre : List CellValue) (pen : Pen)
    (r height : ℕ) (b : Attrs) →
    Reads base height base.page.width → length done ≡ r → r + suc (length below) ≡ height →
    length pre + 1 ≡ base.page.width → Paired pre → Within pen height base.page.width →
    TidyTo near (over_blank pen r base.page.width b) nowhere (mid base done below (pre ++ blank b ∷ []) false pen)
    nowhere
unfolding over_blank
over_tidy near base done below pre pen r height b reads e rows w h within =
    let row = pre ++ blank b ∷ [] in
    let width = base.page.width in
    let col : width - 1 ≡ length pre = omega (arith, w) in
    let m0 = mid base done below row false pen in
    tidy_then near (move_ops pen r (width - 1)) (blank_passed pen.form r (width - 1) pen.attrs b) nowhere nowhere
    nowhere m0
    (mid base done below row false (pen_at r (width - 1) pen.attrs))
    (still_tidy near (move_ops pen r (width - 1)) nowhere m0 (going_still pen r (width - 1)))
    (going_there Any base done below row false r (width - 1) height pen reads e rows (omega (arith, w)) within).draws
    (subst (λ (k : ℕ). TidyTo near (blank_passed pen.form r k pen.attrs b) nowhere
    (mid base done below row false (pen_at r k pen.attrs)) nowhere) (sym col)
    (passed_tidy near pen.form base done below pre r pen.attrs b reads.origin reads.has_columns e w h))

-- ==== The cursor

pub fine_at : (near : Positions) (width r : ℕ) (wrapped : Bool) (rows : List RowValue) (i : ℕ) →
    FineRows near width r wrapped rows → i < length rows → Fine near width (r + i) 0 (row_or width rows i).cells
fine_at near width r wrapped [] i h lt = absurd (omega (arith, lt))
fine_at near width r wrapped (x ∷ rows) zero h lt =
    subst (λ (z : ℕ). Fine near width z 0 x.cells) (omega arith) h.1.0
fine_at near width r wrapped (x ∷ rows) (suc i) h lt =
    subst (λ (z : ℕ). Fine near width z 0 (row_or width rows i).cells) (omega arith)
    (fine_at near width (r + 1) x.wrapped rows i h.1.1 (omega (arith, lt)))

under_tidy : (near : Positions) (base : Canvas) (rows : List RowValue) (pen : Pen) (i r height : ℕ) →
    Reads base height base.page.width →
    length rows ≡ height → AllByRecursion (Stands base.page.width) rows → FineRows near base.page.width 0 false rows →
    i ≤ r →
    r < height → Within pen height base.page.width → ends_blank (row_or base.page.width rows i).cells ≡ false →
    TidyTo near (under_last pen i r (row_or base.page.width rows i).cells) nowhere (at_pen base rows pen) nowhere
unfolding under_last
under_tidy near base rows pen i r height reads size all ones le low within full =
    let width = base.page.width in
    let d = blank_row default_attrs width in
    let x = row_or width rows i in
    let ok = all_row (Stands width) rows i d (omega (arith, le, low, size)) all in
    let one : Fine near width i 0 x.cells = subst (λ (z : ℕ). Fine near width z 0 x.cells) (omega arith)
    (fine_at near width 0 false rows i ones (omega (arith, le, low, size))) in
    let v = split_row rows i d (omega (arith, le, low, size)) in
    let count = ap length v.is ∙ length-append v.done (x ∷ v.below) in
    let above = v.above in
    let w = after_last_glyph i pen x.cells in
    let ends_full = sym (ends_is x.cells) ∙ full in
    let there : TidyTo near w.ops nowhere (at_pen base rows pen) nowhere =
    subst (λ (z : List RowValue). TidyTo near w.ops nowhere (at_pen base z pen) nowhere) (sym v.is)
    (after_tidy near base v.done v.below x.cells x.wrapped i height pen reads v.above
    (omega (arith, count, above, size))
    ok.columns ok.paired ends_full one within) in
    then_still near w.ops (attr_ops_in pen.form w.pen.attrs pen.attrs ++ replicate (r - i) LineFeed) nowhere
    (at_pen base rows pen)
    nowhere there
    (still_append (attr_ops_in pen.form w.pen.attrs pen.attrs) (replicate (r - i) LineFeed)
    (changing_still pen.form w.pen.attrs pen.attrs) (feeds_still (r - i)))

over_finishes : (near : Positions) (base : Canvas) (rows : List RowValue) (pen : Pen) (r height : ℕ) →
    Reads base height base.page.width →
    length rows ≡ height → AllByRecursion (Stands base.page.width) rows → r < height →
    Within pen height base.page.width → ends_blank (row_or base.page.width rows r).cells ≡ true →
    TidyTo near (over_blank pen r base.page.width
    (attrs_of (at (row_or base.page.width rows r).cells (base.page.width - 1)))) nowhere (at_pen base rows pen) nowhere
over_finishes near base rows pen r height reads size all low within nigh =
    let width = base.page.width in
    let d = blank_row default_attrs width in
    let x = row_or width rows r in
    let ok = all_row (Stands width) rows r d (omega (arith, low, size)) all in
    let columns = ok.columns in
    let pos = reads.has_columns in
    let v = split_row rows r d (omega (arith, low, size)) in
    let above = v.above in
    let count = ap length v.is ∙ length-append v.done (x ∷ v.below) in
    let full = sym (ends_is x.cells) ∙ nigh in
    let k = ends_in_blank x.cells ok.paired (omega (arith, columns, pos)) full in
    let b = k.attrs in
    let row = k.pre ++ blank b ∷ [] in
    let length_k = sym ok.columns ∙ (ap length k.is ∙ length-append k.pre (blank b ∷ [])) in
    let attrs : attrs_of (at x.cells (width - 1)) ≡ b =
    ap (λ (z : List CellValue). attrs_of (at z (width - 1))) k.is ∙ last_attrs k.pre b (width - 1) (omega (
      arith,
      length_k,
    )) in
    let same : rows ≡ v.done ++ row_of row false ∷ v.below =
    v.is ∙ (ap (λ (z : List CellValue). v.done ++ row_of z x.wrapped ∷ v.below) k.is
    ∙ ap (λ (z : Bool). v.done ++ row_of row z ∷ v.below) (off x.wrapped x.cells ok.sound full)) in
    subst (λ (a : Attrs). TidyTo near (over_blank pen r width a) nowhere (at_pen base rows pen) nowhere) (sym attrs)
    (subst (λ (z : List RowValue). TidyTo near (over_blank pen r width b) nowhere (at_pen base z pen) nowhere)
    (sym same)
    (over_tidy near base v.done v.below k.pre pen r height b reads v.above (omega (arith, count, above, size))
    (omega (arith, length_k)) k.front within))

pending_tidy : (near : Positions) (base : Canvas) (rows : List RowValue) (pen : Pen) (r height : ℕ) (found : Option ℕ) →
    Reads base height base.page.width → length rows ≡ height → AllByRecursion (Stands base.page.width) rows →
    FineRows near base.page.width 0 false rows → r < height → Within pen height base.page.width →
    NearestIs base.page.width rows r found →
    TidyTo near (pending_at found pen base.page.width rows r) nowhere (at_pen base rows pen) nowhere
pending_tidy near base rows pen r height None reads size all ones low within nigh =
    over_finishes near base rows pen r height reads size all low within nigh
pending_tidy near base rows pen r height (Some i) reads size all ones low within nigh =
    let width = base.page.width in
    let cells = (row_or width rows i).cells in
    let shifted = (after_last_glyph i pen cells).pen.is_shifted in
    cond_both (strays pen.form shifted && nat_lt i r)
    (over_blank pen r width (attrs_of (at (row_or width rows r).cells (width - 1)))) (under_last pen i r cells)
    (λ (ops : List Op). TidyTo near ops nowhere (at_pen base rows pen) nowhere)
    (λ (t : (strays pen.form shifted && nat_lt i r) ≡ true).
    let both = and_parts (strays pen.form shifted) (nat_lt i r) t in
    over_finishes near base rows pen r height reads size all low within (nigh.1.1 (ltb-true i r both.1)))
    (λ _. under_tidy near base rows pen i r height reads size all ones nigh.0 low within nigh.1.0)

pub cursor_tidy : (near : Positions) (base : Canvas) (rows : List RowValue) (pen : Pen) (r c height : ℕ) →
    Reads base height base.page.width →
    length rows ≡ height → AllByRecursion (Stands base.page.width) rows → FineRows near base.page.width 0 false rows →
    r < height →
    Within pen height base.page.width →
    TidyTo near (cursor_written pen base.page.width rows r c) nowhere (at_pen base rows pen) nowhere
unfolding cursor_written
cursor_tidy near base rows pen r c height reads size all ones low within =
    let width = base.page.width in
    let P : List Op → Type 0 = λ ops. TidyTo near ops nowhere (at_pen base rows pen) nowhere in
    let rest = if is_at pen r c then [] else pending_at (nearest width rows r) pen width rows r in
    cond_both (nat_lt c width) (move_ops pen r c) rest P
    (λ _. still_tidy near (move_ops pen r c) nowhere (at_pen base rows pen) (going_still pen r c))
    (λ _. cond_both (is_at pen r c) [] (pending_at (nearest width rows r) pen width rows r) P
    (λ _. tidy_nothing near nowhere (at_pen base rows pen))
    (λ _. pending_tidy near base rows pen r height (nearest width rows r) reads size all ones low within
    (nearest_is width rows r)))

-- ---- the cursor's doubts

flat_end : (width : ℕ) (pen : Pen) → Flat width pen → pen.col ≡ width →
    (pen.is_shifted ≡ true) ⊎ (pen.is_shifted ≡ false) →
    pen.is_shifted ≡ false
flat_end width pen flat col (inl e) = let room = flat e in absurd (omega (arith, room, col))
flat_end width pen flat col (inr e) = e

at_end : (width r c : ℕ) (pen : Pen) → Flat width pen → c ≡ width → is_at pen r c ≡ true → pen.is_shifted ≡ false
at_end width r c pen flat w t =
    flat_end width pen flat (eqb-true pen.col c (and_parts (pen.row == r) (pen.col == c) t).1 ∙ w)
    (cases_Bool pen.is_shifted)

passed_shift : (form : Form) (r c : ℕ) (was b : Attrs) → shifts_all (blank_passed form r c was b) false ≡ false
passed_shift form r c was b =
    let x = is_uncertain (chars (0x20 ∷ [])) in
    shifts_then (attr_ops_in form was b)
    (SaveCursor ∷ back_op form r c ∷ EraseChars 1 ∷ RestoreCursor ∷ attr_ops_in form b was) x x false
    (attr_shift form was b x) (by_form form)
  where
    by_form : (f : Form) → shifts_all (SaveCursor ∷ back_op f r c ∷ EraseChars 1 ∷ RestoreCursor ∷ attr_ops_in form b
        was)
        (is_uncertain (chars (0x20 ∷ []))) ≡ false
    by_form Fixed = attr_shift form b was false
    by_form Portable = attr_shift form b was false

over_shift : (pen : Pen) (r width : ℕ) (b : Attrs) → shifts_all (over_blank pen r width b) pen.is_shifted ≡ false
unfolding over_blank
over_shift pen r width b =
    shifts_then (move_ops pen r (width - 1)) (blank_passed pen.form r (width - 1) pen.attrs b) pen.is_shifted false
    false
    (move_shift pen r (width - 1)) (passed_shift pen.form r (width - 1) pen.attrs b)

after_settled : (near : Positions) (width r : ℕ) (pen : Pen) (xs : List CellValue) → Paired xs → ends xs ≡ false →
    Fine near width r 0 xs → length xs ≡ width → Flat width pen → (after_last_glyph r pen xs).pen.is_shifted ≡ false
after_settled near width r pen xs h full ones w flat =
    cond_both (is_at pen r (length xs)) (no_ops pen true)
    (record {
      ops = placed_op pen r (last_column xs) (attrs_of (last_glyph xs)) (Print (text_of (last_glyph xs)));
      pen = pen_after pen.form r xs;
      wrapped = true;
    }) (λ (v : Scripted). v.pen.is_shifted ≡ false) (λ t. at_end width r (length xs) pen flat w t)
    (λ _. last_one near width r pen.form xs h full ones w)

under_shift : (near : Positions) (base : Canvas) (rows : List RowValue) (pen : Pen) (i r height : ℕ) →
    pen.form ≡ Portable → Flat base.page.width pen →
    length rows ≡ height → AllByRecursion (Stands base.page.width) rows → FineRows near base.page.width 0 false rows →
    i ≤ r →
    r < height → ends_blank (row_or base.page.width rows i).cells ≡ false →
    shifts_all (under_last pen i r (row_or base.page.width rows i).cells) pen.is_shifted ≡ false
unfolding under_last
under_shift near base rows pen i r height form flat size all ones le low full =
    let width = base.page.width in
    let d = blank_row default_attrs width in
    let x = row_or width rows i in
    let ok = all_row (Stands width) rows i d (omega (arith, le, low, size)) all in
    let one : Fine near width i 0 x.cells = subst (λ (z : ℕ). Fine near width z 0 x.cells) (omega arith)
    (fine_at near width 0 false rows i ones (omega (arith, le, low, size))) in
    let ends_full = sym (ends_is x.cells) ∙ full in
    let w = after_last_glyph i pen x.cells in
    let track = after_track near width i pen x.cells form ok.paired ends_full one ok.columns in
    shifts_then w.ops (attr_ops_in pen.form w.pen.attrs pen.attrs ++ replicate (r - i) LineFeed) pen.is_shifted false
    false
    (track.flag ∙ after_settled near width i pen x.cells ok.paired ends_full one ok.columns flat)
    (shifts_then (attr_ops_in pen.form w.pen.attrs pen.attrs) (replicate (r - i) LineFeed) false false false
    (attr_shift pen.form w.pen.attrs pen.attrs false) (feeds_shift (r - i) false))

pending_shift : (near : Positions) (base : Canvas) (rows : List RowValue) (pen : Pen) (r height : ℕ) (found : Option ℕ)
    →
    pen.form ≡ Portable → Flat base.page.width pen → length rows ≡ height →
    AllByRecursion (Stands base.page.width) rows → FineRows near base.page.width 0 false rows → r < height →
    NearestIs base.page.width rows r found →
    shifts_all (pending_at found pen base.page.width rows r) pen.is_shifted ≡ false
pending_shift near base rows pen r height None form flat size all ones low nigh =
    let width = base.page.width in over_shift pen r width (attrs_of (at (row_or width rows r).cells (width - 1)))
pending_shift near base rows pen r height (Some i) form flat size all ones low nigh =
    let width = base.page.width in
    let cells = (row_or width rows i).cells in
    let shifted = (after_last_glyph i pen cells).pen.is_shifted in
    cond_both (strays pen.form shifted && nat_lt i r)
    (over_blank pen r width (attrs_of (at (row_or width rows r).cells (width - 1)))) (under_last pen i r cells)
    (λ (ops : List Op). shifts_all ops pen.is_shifted ≡ false)
    (λ _. over_shift pen r width (attrs_of (at (row_or width rows r).cells (width - 1))))
    (λ _. under_shift near base rows pen i r height form flat size all ones nigh.0 low nigh.1.0)

pub cursor_shift : (near : Positions) (base : Canvas) (rows : List RowValue) (pen : Pen) (r c height : ℕ) →
    pen.form ≡ Portable → Flat base.page.width pen → length rows ≡ height →
    AllByRecursion (Stands base.page.width) rows → FineRows near base.page.width 0 false rows → r < height →
    c ≤ base.page.width → shifts_all (cursor_written pen base.page.width rows r c) pen.is_shifted ≡ false
unfolding cursor_written
cursor_shift near base rows pen r c height form flat size all ones low most =
    let width = base.page.width in
    let P : List Op → Type 0 = λ ops. shifts_all ops pen.is_shifted ≡ false in
    let rest = if is_at pen r c then [] else pending_at (nearest width rows r) pen width rows r in
    cond_both (nat_lt c width) (move_ops pen r c) rest P
    (λ _. move_shift pen r c)
    (λ ge. let past = ltb-false c width ge in
    cond_both (is_at pen r c) [] (pending_at (nearest width rows r) pen width rows r) P
    (λ t. at_end width r c pen flat (omega (arith, past, most)) t)
    (λ _. pending_shift near base rows pen r height (nearest width rows r) form flat size all ones low
    (nearest_is width rows r)))
