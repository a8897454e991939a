-- The last glyph of a row, and the link to the next row, are tidy.
use Rattle.std.proofs.Common.{◌≡◌, ℕ, suc, ◌+◌, ◌-◌, ◌<◌, ◌≤◌, ◌⊎◌, ◌&&◌, ◌||◌, not, Bool, true, false, List, [], ◌∷◌}
use Rattle.std.proofs.Common.{◌++◌, length, drop, refl, inl, inr, sym, ap, subst, ◌∙◌, arith}
use Rattle.std.specs.Prelude.{if◌then◌else◌}
use Rattle.std.proofs.lemmas.Bool.{cases_Bool, cond_both, and_parts}
use Rattle.std.proofs.lemmas.List.{length-append}
use Rattle.vt_cells.specs.Attrs.{Attrs}
use Rattle.vt_cells.specs.Cell.{CellValue, attrs_of, blank, default_blank, glyph, right_half, is_right_half, text_of}
use Rattle.vt_cells.specs.Glyph.{glyph_columns}
use Rattle.vt_cells.specs.Op.{EraseChars, MoveTo, Print}
use Rattle.vt_rows.specs.Cells.{at, cells_after_cut}
use Rattle.vt_rows.specs.Row.{RowValue}
use Rattle.vt_rows.proofs.Edits.{at-past}
use Rattle.vt_grid.specs.Canvas.{Canvas}
use Rattle.vt_grid.specs.Page.{Page, cursor_row}
use Rattle.vt_grid.specs.Printing.{room_made}
use Rattle.vt_redraw.specs.Redraw.{link_of}
use Rattle.vt_redraw.specs.Script.{Linked, Scripted, after_last_glyph, attr_ops_in, back_op, first_written, is_at}
use Rattle.vt_redraw.specs.Script.{last_column, last_glyph, no_link, no_ops, ops_then_link, pen_after, pen_at}
use Rattle.vt_redraw.specs.Script.{placed_op, row_link, starts_other, wrap_ops}
use Rattle.vt_redraw.specs.Uses.{IsBoundary}
use Rattle.vt_redraw.specs.declared.form.Form.{Form}
use Rattle.vt_redraw.specs.declared.form.Form.TheVariants.{Fixed, Portable}
use Rattle.vt_redraw.specs.declared.pen.Pen.{Pen}
use Rattle.vt_redraw.proofs.Edits.{Reads, Within, changing_draws, cursor_row_is, glyph_cells, mid, row_of, two, two_mid}
use Rattle.vt_redraw.proofs.Edits.{wraps}
use Rattle.vt_redraw.proofs.Halves.{Paired, ends}
use Rattle.vt_redraw.proofs.Link.{blanked, going_after_draws, last_cases, length_glyph}
use Rattle.vt_redraw.proofs.Places.{second_left, PrintsCells}
use Rattle.vt_redraw.proofs.Ranges.{Any}
use Rattle.vt_redraw.proofs.Rows.{Stands}
use Rattle.vt_terminals.specs.Terminal.{Positions}
use Rattle.vt_terminals.proofs.Agrees.{IsTidyText, TidyTo, nowhere, tears, torn_after_print}
use Rattle.vt_terminals.proofs.Characters.{room_wraps}
use Rattle.vt_terminals.proofs.TidyGlyphs.{Fine, doing_tidy, spot_tidy}
use Rattle.vt_terminals.proofs.TidyParts.{IsOne, changing_still, mark, print_leaves, some_columns, still_tidy}
use Rattle.vt_terminals.proofs.TidyParts.{tidy_from, tidy_nothing, tidy_then, tidy_to, one_torn}
use Rattle.vt_terminals.proofs.TidyPens.{space_one, mark_none, from_nowhere, Flat, row_last, after_flat, FirstOne}
use Rattle.vt_terminals.proofs.Agrees as agrees

-- ==== The last glyph of a row

-- The last glyph of a row is printed over itself, or over blanks.
pub last_tidy : (near : Positions) (base : Canvas) (done below : List RowValue) (pre : List CellValue) (y : CellValue)
    (ys : List CellValue)
    (text : List ℕ) (wide : Bool) (a : Attrs) (wrapped : Bool) (r : ℕ) → is_right_half y ≡ false → length done ≡ r →
    length pre + glyph_columns wide ≡ base.page.width → drop (glyph_columns wide - 1) ys ≡ [] → IsOne text wide →
    TidyTo near (Print text ∷ []) nowhere (mid base done below (pre ++ y ∷ ys) wrapped (pen_at r (length pre) a))
    nowhere
last_tidy near base done below pre y ys text wide a wrapped r whole e w none one =
    subst (λ (z : List CellValue). TidyTo near (Print text ∷ []) nowhere (mid base done below (pre ++ z) wrapped
    (pen_at r (length pre) a)) nowhere) (uncut y ys whole)
    (tidy_to near (Print text ∷ []) nowhere
    (mid base done below (pre ++ cells_after_cut default_blank (y ∷ ys)) wrapped (pen_at r (length pre) a))
    (mark r (length pre + glyph_columns wide) (is_right_half (at (drop (glyph_columns wide - 1) ys) 0))) nowhere
    (spot_tidy near base done below pre default_blank y ys wrapped r (length pre) text wide a nowhere false refl e refl
    (omega (arith, w)) one (from_nowhere near (mark r (length pre) false)))
    (mark_none near (mark r (length pre + glyph_columns wide) (is_right_half (at (drop (glyph_columns wide - 1) ys) 0)))
    r
    (length pre + glyph_columns wide) (is_right_half (at (drop (glyph_columns wide - 1) ys) 0))
    (ap (λ (z : List CellValue). is_right_half (at z 0)) none) (λ i k clear h. h)))
  where
    uncut : (y : CellValue) (ys : List CellValue) → is_right_half y ≡ false →
        cells_after_cut default_blank (y ∷ ys) ≡ y ∷ ys
    uncut (blank b) ys f = refl
    uncut (glyph t v b) ys f = refl
    uncut right_half ys f = absurd (cc)

again_tidy : (near : Positions) (base : Canvas) (done below : List RowValue) (pre : List CellValue) (text : List ℕ)
    (wide : Bool) (b a : Attrs)
    (wrapped : Bool) (r : ℕ) → length done ≡ r → length pre + glyph_columns wide ≡ base.page.width → IsOne text wide →
    TidyTo near (Print text ∷ []) nowhere
    (mid base done below (pre ++ glyph_cells text wide b) wrapped (pen_at r (length pre) a)) nowhere
again_tidy near base done below pre text false b a wrapped r e w one =
    last_tidy near base done below pre (glyph text false b) [] text false a wrapped r refl e w refl one
again_tidy near base done below pre text true b a wrapped r e w one =
    last_tidy near base done below pre (glyph text true b) (right_half ∷ []) text true a wrapped r refl e w refl one

pub bare_tidy : (near : Positions) (base : Canvas) (done below : List RowValue) (pre : List CellValue) (form : Form)
    (text : List ℕ) (wide : Bool)
    (b a : Attrs) (wrapped : Bool) (r : ℕ) → length done ≡ r → length pre + glyph_columns wide ≡ base.page.width →
    IsOne text wide →
    TidyTo near (Print text ∷ []) nowhere (mid base done below (pre ++ blanked form wide b) wrapped
    (pen_at r (length pre) a))
    nowhere
bare_tidy near base done below pre form text false b a wrapped r e w one =
    last_tidy near base done below pre (blank b) [] text false a wrapped r refl e w refl one
bare_tidy near base done below pre form text true b a wrapped r e w one =
    last_tidy near base done below pre (blank b) (second_left form b ∷ []) text true a wrapped r
    refl e w refl one

pub after_tidy : (near : Positions) (base : Canvas) (done below : List RowValue) (xs : List CellValue) (wrapped : Bool)
    (r height : ℕ)
    (pen : Pen) → Reads base height base.page.width → length done ≡ r → r + suc (length below) ≡ height →
    length xs ≡ base.page.width → Paired xs → ends xs ≡ false → Fine near base.page.width r 0 xs →
    Within pen height base.page.width →
    TidyTo near (after_last_glyph r pen xs).ops nowhere (mid base done below xs wrapped pen) nowhere
after_tidy near base done below xs wrapped r height pen reads e rows w h full ones within =
    cond_both (is_at pen r (length xs)) (no_ops pen true)
    (record {
      ops = placed_op pen r (last_column xs) (attrs_of (last_glyph xs)) (Print (text_of (last_glyph xs)));
      pen = pen_after pen.form r xs;
      wrapped = true;
    }) (λ (v : Scripted). TidyTo near v.ops nowhere (mid base done below xs wrapped pen) nowhere)
    (λ _. tidy_nothing near nowhere (mid base done below xs wrapped pen))
    (λ _. last_cases
    (λ z k x. Fine near base.page.width r 0 z → length z ≡ base.page.width →
    TidyTo near (placed_op pen r k (attrs_of x) (Print (text_of x))) nowhere (mid base done below z wrapped pen)
    nowhere)
    (λ pre text wide a front all size.
    let n = length_glyph pre text wide a in
    let one = some_columns wide in
    doing_tidy near base done below (pre ++ glyph_cells text wide a) wrapped r (length pre) height pen a (Print text)
    nowhere
    nowhere reads e rows (omega (arith, n, size, one)) within
    (again_tidy near base done below pre text wide a a wrapped r e (sym n ∙ size)
    (row_last near base.page.width r pre text wide a all size)))
    xs h full ones w)

-- ==== The first cell at a pending wrap

-- A glyph is printed at the beginning of the next row while a wrap is pending.
wrapping_tidy : (near : Positions) (base : Canvas) (done below : List RowValue) (above : List CellValue)
    (wrapped_above : Bool)
    (cells : List CellValue) (wrapped : Bool) (r : ℕ) (text : List ℕ) (wide : Bool) (a : Attrs) → length done ≡ r →
    base.page.bottom + 1 ≡ length done + suc (suc (length below)) → length above ≡ base.page.width →
    glyph_columns wide ≤ base.page.width → IsOne text wide →
    TidyTo near (Print text ∷ []) nowhere
    (two base done below above wrapped_above cells wrapped (pen_at r base.page.width a))
    (mark (r + 1) (0 + glyph_columns wide) (is_right_half (at cells (0 + glyph_columns wide))))
wrapping_tidy near base done below above wrapped_above cells wrapped r text wide a e bottom w fits one =
    let canvas = two base done below above wrapped_above cells wrapped (pen_at r base.page.width a) in
    let row = cursor_row_is base done (row_of cells wrapped ∷ below) above wrapped_above (pen_at r base.page.width a) e
    in
    let boundary : IsBoundary base.page.width (cursor_row canvas.page).cells =
    ap (λ (x : RowValue). is_right_half (at x.cells base.page.width)) row
    ∙ ap is_right_half (at-past above base.page.width (omega (arith, w))) in
    let room : room_made (glyph_columns wide) canvas.page
    ≡ (two base done below above (not (ends above)) cells wrapped (pen_at (r + 1) 0 a)).page =
    room_wraps (glyph_columns wide) canvas.page (some_columns wide) fits refl
    ∙ wraps base done below above wrapped_above cells wrapped r base.page.width a e bottom in
    let down = two base done below above (not (ends above)) cells wrapped (pen_at (r + 1) 0 a) in
    let there = two_mid base done below above (not (ends above)) cells wrapped (pen_at (r + 1) 0 a) in
    let top = done ++ row_of above (not (ends above)) ∷ [] in
    let l = length-append done (row_of above (not (ends above)) ∷ []) in
    let torn_cell : tears (glyph_columns wide) down.page ≡ is_right_half (at cells (0 + glyph_columns wide)) =
    ap (λ (k : Canvas). tears (glyph_columns wide) k.page) there
    ∙ ap (λ (x : RowValue). is_right_half (at x.cells (0 + glyph_columns wide)))
    (cursor_row_is base top below cells wrapped (pen_at (r + 1) 0 a) (omega (arith, l, e))) in (
      subst (λ (cs : List ℕ). IsTidyText near cs canvas) (sym one.is) (inl
          (wide, (one.certain, (one.columns, boundary)))),
      λ next f i k clear h. subst (λ (t : Bool). mark (r + 1) (0 + glyph_columns wide) t i k ≡ true) torn_cell
          (print_leaves near nowhere (r + 1) 0 (glyph_columns wide) false (tears (glyph_columns wide) down.page)
          (some_columns wide) (from_nowhere near (mark (r + 1) 0 false)) i k clear
          (ap (λ (p : Page). torn_after_print (glyph_columns wide) p nowhere i k) (sym room)
          ∙ (sym (one_torn text wide one canvas.page nowhere i k) ∙ h))),
    )

pub erased_within : (near torn : Positions) (n : ℕ) (page : Page) →
    agrees.Within near (agrees.torn_after_erasure n page torn) torn
erased_within near torn n page r c clear e = (and_parts (torn r c) (not (agrees.covers page.row page.column n r c)) e).0

back_still : (form : Form) (r c : ℕ) → Rattle.vt_terminals.proofs.TidyParts.AllStill (back_op form r c ∷ [])
back_still Fixed r c = (refl, tt)
back_still Portable r c = (refl, tt)

-- The space in the first column is erased.
unspaced_tidy : (near : Positions) (form : Form) (r : ℕ) (torn : Positions) (canvas : Canvas) →
    TidyTo near (back_op form r 0 ∷ EraseChars 1 ∷ []) torn canvas torn
unspaced_tidy near Fixed r torn canvas = (tt, λ next e. (tt, λ last f. erased_within near torn 1 next.page))
unspaced_tidy near Portable r torn canvas = (tt, λ next e. (tt, λ last f. erased_within near torn 1 next.page))

pub first_tidy : (near : Positions) (base : Canvas) (done below : List RowValue) (above xs ys : List CellValue)
    (wrapped_above wrapped : Bool)
    (r height : ℕ) (pen : Pen) → pen.is_shifted ≡ false → pen.row ≡ r → pen.col ≡ base.page.width → length done ≡ r →
    base.page.bottom + 1 ≡ height → r + suc (suc (length below)) ≡ height → length above ≡ base.page.width →
    length xs ≡ base.page.width → length ys ≡ base.page.width → 0 < base.page.width → Paired xs →
    FirstOne xs →
    TidyTo near (first_written (r + 1) pen wrapped xs ys).ops nowhere (two base done below above wrapped_above ys
    wrapped pen)
    (mark (r + 1) (0 + (first_written (r + 1) pen wrapped xs ys).settled)
    (is_right_half (at (drop (first_written (r + 1) pen wrapped xs ys).settled ys) 0)))
first_tidy near base done below above [] ys wrapped_above wrapped r height pen f row col e bottom rows ha hx hy some h
    ones =
    absurd (omega (arith, hx, some))
first_tidy near base done below above (x ∷ xs) [] wrapped_above wrapped r height pen f row col e bottom rows ha hx hy
    some h ones =
    absurd (omega (arith, hy, some))
first_tidy near base done below above (right_half ∷ xs) (y ∷ ys) wrapped_above wrapped r height pen f row col e bottom
    rows ha hx
    hy some h ones = absurd h
first_tidy near base done below above (blank a ∷ xs) (y ∷ ys) wrapped_above wrapped r height pen f row col e bottom rows
    ha hx hy
    some h ones =
    let cells = row_of above wrapped_above ∷ row_of (y ∷ ys) wrapped ∷ below in
    let start = two base done below above wrapped_above (y ∷ ys) wrapped pen in
    let there = two base done below above wrapped_above (y ∷ ys) wrapped (pen_at pen.row pen.col a) in
    let middle = mark (r + 1) (0 + 1) (is_right_half (at (y ∷ ys) (0 + 1))) in
    let place : pen_at pen.row pen.col a ≡ pen_at r base.page.width a =
    ap (λ (k : ℕ). pen_at k pen.col a) row ∙ ap (λ (k : ℕ). pen_at r k a) col in
    let prints : TidyTo near (Print (0x20 ∷ []) ∷ []) nowhere there middle =
    subst (λ (q : Pen). TidyTo near (Print (0x20 ∷ []) ∷ []) nowhere
    (two base done below above wrapped_above (y ∷ ys) wrapped q) middle) (sym place)
    (wrapping_tidy near base done below above wrapped_above (y ∷ ys) wrapped r (0x20 ∷ []) false a e
    (omega (arith, bottom, rows, e)) ha (omega (arith, some)) space_one) in
    tidy_then near (attr_ops_in pen.form pen.attrs a) (Print (0x20 ∷ []) ∷ back_op pen.form (r + 1) 0 ∷ EraseChars 1 ∷
    []) nowhere
    nowhere middle start there
    (still_tidy near (attr_ops_in pen.form pen.attrs a) nowhere start (changing_still pen.form pen.attrs a))
    (changing_draws pen.form base (done ++ cells) pen a) (
      prints.0,
      λ next g. tidy_from near (back_op pen.form (r + 1) 0 ∷ EraseChars 1 ∷ [])
          (agrees.torn_after (Print (0x20 ∷ [])) nowhere there) middle next middle (prints.1 next g)
          (unspaced_tidy near pen.form (r + 1) middle next),
    )
first_tidy near base done below above (glyph text wide a ∷ xs) (y ∷ ys) wrapped_above wrapped r height pen f row col e
    bottom rows
    ha hx hy some h ones =
    let cells = row_of above wrapped_above ∷ row_of (y ∷ ys) wrapped ∷ below in
    let start = two base done below above wrapped_above (y ∷ ys) wrapped pen in
    let there = two base done below above wrapped_above (y ∷ ys) wrapped (pen_at pen.row pen.col a) in
    let goal = mark (r + 1) (0 + glyph_columns wide) (is_right_half (at (drop (glyph_columns wide) (y ∷ ys)) 0)) in
    let place : pen_at pen.row pen.col a ≡ pen_at r base.page.width a =
    ap (λ (k : ℕ). pen_at k pen.col a) row ∙ ap (λ (k : ℕ). pen_at r k a) col in
    let prints : TidyTo near (Print text ∷ []) nowhere there goal =
    subst (λ (q : Pen). TidyTo near (Print text ∷ []) nowhere (two base done below above wrapped_above (y ∷ ys) wrapped
    q) goal)
    (sym place)
    (subst (λ (b : Bool). TidyTo near (Print text ∷ []) nowhere
    (two base done below above wrapped_above (y ∷ ys) wrapped (pen_at r base.page.width a))
    (mark (r + 1) (0 + glyph_columns wide) b)) (same_cell_at wide y ys)
    (wrapping_tidy near base done below above wrapped_above (y ∷ ys) wrapped r text wide a e
    (omega (arith, bottom, rows, e)) ha
    (room wide text a xs hx h) ones)) in
    tidy_then near (attr_ops_in pen.form pen.attrs a) (wrap_ops (r + 1) pen ++ Print text ∷ []) nowhere nowhere goal
    start there
    (still_tidy near (attr_ops_in pen.form pen.attrs a) nowhere start (changing_still pen.form pen.attrs a))
    (changing_draws pen.form base (done ++ cells) pen a)
    (subst (λ (b : Bool). TidyTo near ((if b then Print (0x20 ∷ []) ∷ MoveTo (r + 1) 0 ∷ [] else []) ++ Print text ∷ [])
    nowhere there
    goal) (sym f) prints)
  where
    same_cell_at : (wide : Bool) (y : CellValue) (ys : List CellValue) →
        is_right_half (at (y ∷ ys) (0 + glyph_columns wide)) ≡ is_right_half (at (drop (glyph_columns wide) (y ∷ ys)) 0)
    same_cell_at false y [] = refl
    same_cell_at false y (z ∷ ys) = refl
    same_cell_at true y [] = refl
    same_cell_at true y (z ∷ []) = refl
    same_cell_at true y (z ∷ v ∷ ys) = refl

    room : (wide : Bool) (text : List ℕ) (a : Attrs) (xs : List CellValue) → suc (length xs) ≡ base.page.width →
        Paired (glyph text wide a ∷ xs) → glyph_columns wide ≤ base.page.width
    room false text a xs size paired = omega (arith, size)
    room true text a [] size paired = absurd paired
    room true text a (x ∷ xs) size paired = omega (arith, size)

-- ==== The link

pub link_tidy : (near : Positions) (base : Canvas) (done below : List RowValue) (above x y : RowValue)
    (wrapped_above : Bool) (r height : ℕ)
    (pen : Pen) → Flat base.page.width pen → Reads base height base.page.width → length done ≡ r →
    r + suc (suc (length below)) ≡ height → Stands base.page.width above → Stands base.page.width x →
    Stands base.page.width y → PrintsCells base.page.width above.cells → Fine near base.page.width r 0 above.cells →
    (above.wrapped ≡ true → FirstOne x.cells) → Within pen height base.page.width →
    TidyTo near (link_of r pen above wrapped_above x y).ops nowhere
    (two base done below above.cells wrapped_above y.cells y.wrapped pen)
    (mark (r + 1) (0 + (link_of r pen above wrapped_above x y).settled)
    (is_right_half (at (drop (link_of r pen above wrapped_above x y).settled y.cells) 0)))
unfolding row_link
link_tidy near base done below above x y wrapped_above r height pen f reads e rows ha hx hy above_prints above_ones ones
    within =
    let start = two base done below above.cells wrapped_above y.cells y.wrapped pen in
    let behind = after_last_glyph r pen above.cells in
    let P = λ (j : Linked). TidyTo near j.ops nowhere start
    (mark (r + 1) (0 + j.settled) (is_right_half (at (drop j.settled y.cells) 0))) in
    cond_both above.wrapped (row_link r pen above.cells wrapped_above y.wrapped x.cells y.cells) (no_link pen y.wrapped)
    P
    (λ (t : above.wrapped ≡ true).
    cond_both (not wrapped_above || (is_at pen r (length above.cells) && starts_other x.cells y.cells))
    (ops_then_link behind.ops (first_written (r + 1) behind.pen y.wrapped x.cells y.cells)) (no_link pen y.wrapped) P
    (λ _.
    let goes = going_after_draws Any base done (row_of y.cells y.wrapped ∷ below) above.cells wrapped_above r height pen
    reads
    e (omega (arith, rows)) ha.columns ha.paired (ha.sound t) above_prints within (λ _ k l h. tt) in
    let first = first_written (r + 1) behind.pen y.wrapped x.cells y.cells in
    let row : behind.pen.row ≡ r = ap (λ (q : Pen). q.row) goes.there in
    let col : behind.pen.col ≡ base.page.width = ap (λ (q : Pen). q.col) goes.there in
    tidy_then near behind.ops first.ops nowhere nowhere
    (mark (r + 1) (0 + first.settled) (is_right_half (at (drop first.settled y.cells) 0))) start
    (two base done below above.cells wrapped_above y.cells y.wrapped behind.pen)
    (after_tidy near base done (row_of y.cells y.wrapped ∷ below) above.cells wrapped_above r height pen reads e
    (omega (arith, rows)) ha.columns ha.paired (ha.sound t) above_ones within)
    goes.draws.draws
    (first_tidy near base done below above.cells x.cells y.cells wrapped_above y.wrapped r height behind.pen
    (flat_end behind.pen (after_flat near base.page.width r pen above.cells ha.paired (ha.sound t) above_ones ha.columns
    f)
    col (cases_Bool behind.pen.is_shifted)) row col e reads.bottom rows ha.columns
    hx.columns hy.columns reads.has_columns hx.paired (ones t)))
    (λ _. from_nowhere near (mark (r + 1) (0 + 0) (is_right_half (at y.cells 0)))))
    (λ _. from_nowhere near (mark (r + 1) (0 + 0) (is_right_half (at y.cells 0))))
  where
    flat_end : (q : Pen) → Flat base.page.width q → q.col ≡ base.page.width →
        (q.is_shifted ≡ true) ⊎ (q.is_shifted ≡ false) → q.is_shifted ≡ false
    flat_end q flat col (inl e) = let room = flat e in absurd (omega (arith, room, col))
    flat_end q flat col (inr e) = e
