-- The output for the rows of a picture in the portable form is portable.
use Rattle.std.proofs.Common.{◌≡◌, ◌≢◌, ℕ, suc, ◌+◌, ◌-◌, ◌&&◌, not, Bool, true, false, List, [], ◌∷◌, ◌++◌}
use Rattle.std.proofs.Common.{length, Some, refl, sym, ap, ◌∙◌, subst, append_assoc, arith}
use Rattle.std.specs.List.{AllByRecursion}
use Rattle.std.proofs.lemmas.Bool.{cond_both}
use Rattle.std.proofs.lemmas.List.{length-append}
use Rattle.vt_cells.specs.Attrs.{Attrs}
use Rattle.vt_cells.specs.Cell.{CellValue, attrs_of, blank, default_blank, glyph, is_right_half, right_half, text_of}
use Rattle.vt_cells.specs.Glyph.{glyph_columns}
use Rattle.vt_cells.specs.Op.{EraseChars, Print}
use Rattle.vt_rows.specs.Cells.{at}
use Rattle.vt_rows.specs.Row.{RowValue}
use Rattle.vt_grid.specs.Canvas.{Canvas}
use Rattle.vt_grid.specs.Page.{cursor_row}
use Rattle.vt_grid.proofs.Texts.{Draws, draws_then}
use Rattle.vt_redraw.specs.Doubts.{IsPlaced}
use Rattle.vt_redraw.specs.Redraw.{link_of, row_written, rows_below, rows_written}
use Rattle.vt_redraw.specs.Script.{Scripted, attr_ops_in, break_ops, cells_written, erased_count}
use Rattle.vt_redraw.specs.Script.{move_ops, no_ops, pen_at, row_break, shifts}
use Rattle.vt_redraw.specs.Uses.{IsBoundary}
use Rattle.vt_redraw.specs.declared.form.Form.{Form}
use Rattle.vt_redraw.specs.declared.form.Form.TheVariants.{Portable}
use Rattle.vt_redraw.specs.declared.pen.Pen.{Pen}
use Rattle.vt_redraw.proofs.Edits.{cursor_row_is, glyph_cells, mid, row_of, two_mid, Reads, Within, at_pen}
use Rattle.vt_redraw.proofs.Edits.{changing_draws}
use Rattle.vt_redraw.proofs.Halves.{Sound, Paired, opened_paired}
use Rattle.vt_redraw.proofs.Fitting.{cells_form, link_form, row_form}
use Rattle.vt_redraw.proofs.Joining.{ready_start}
use Rattle.vt_redraw.proofs.Link.{blanked, erase_last, last_cases, length_glyph, prints_last}
use Rattle.vt_redraw.proofs.Ranges.{drop_whole, row_draws, Any, any_row, lets_any}
use Rattle.vt_redraw.proofs.Places.{Place, PrintsCells, Ready, going_there, shown}
use Rattle.vt_redraw.proofs.PortableCells.{Written, cells_portably}
use Rattle.vt_redraw.proofs.PortableParts.{Portably, at_behind, attrs_portably, erased_goes, glyph_portably}
use Rattle.vt_redraw.proofs.PortableParts.{moves_portably}
use Rattle.vt_redraw.proofs.PortableParts.{nothing_portably, portably_both, some_columns}
use Rattle.vt_redraw.proofs.PortableSteps.{erase_keeps}
use Rattle.vt_redraw.proofs.Row.{cells_draw}
use Rattle.vt_redraw.proofs.Rows.{PrintsRow, Stands, ends_unwrapped, fell, flags_end, link_same, same_wrapped, step_joins}
use Rattle.vt_redraw.proofs.Texts.{Prints}

-- ---- the break

-- All columns of the last glyph are erased.
pub erased_portably : (base : Canvas) (done below : List RowValue) (pre : List CellValue) (text : List ℕ) (wide : Bool)
    (b a : Attrs) (wrapped : Bool) (r : ℕ) (goal : Canvas) → length done ≡ r →
    length pre + glyph_columns wide ≡ base.page.width → goal.page.column ≡ length pre → goal.page.width ≡
    base.page.width →
    Portably (EraseChars (glyph_columns wide) ∷ []) false
    (mid base done below (pre ++ glyph_cells text wide b) wrapped (pen_at r (length pre) a)) false goal
erased_portably base done below pre text false b a wrapped r goal e w col wide doubts known =
    let c = length pre in
    let cells = pre ++ glyph text false b ∷ [] in
    let start = mid base done below cells wrapped (pen_at r c a) in
    let row = cursor_row_is base done below cells wrapped (pen_at r c a) e in
    let placed : IsPlaced doubts = record { wrap = known.inside (omega (arith, w)); place = known.place refl } in
    let begin : IsBoundary c (cursor_row start.page).cells =
    ap (λ (x : RowValue). is_right_half (at x.cells c)) row
    ∙ ap is_right_half (at_behind pre (glyph text false b ∷ []) c 0 c refl (omega arith)) in
    let end : IsBoundary (c + 1) (cursor_row start.page).cells =
    ap (λ (x : RowValue). is_right_half (at x.cells (c + 1))) row
    ∙ ap is_right_half (at_behind pre (glyph text false b ∷ []) c 1 (c + 1) refl refl) in
    erased_goes (EraseChars 1 ∷ []) doubts start goal (erase_keeps 0 doubts start placed begin end) placed
    (omega (arith, col, wide, w))
erased_portably base done below pre text true b a wrapped r goal e w col wide doubts known =
    let c = length pre in
    let cells = pre ++ glyph text true b ∷ right_half ∷ [] in
    let start = mid base done below cells wrapped (pen_at r c a) in
    let row = cursor_row_is base done below cells wrapped (pen_at r c a) e in
    let placed : IsPlaced doubts = record { wrap = known.inside (omega (arith, w)); place = known.place refl } in
    let begin : IsBoundary c (cursor_row start.page).cells =
    ap (λ (x : RowValue). is_right_half (at x.cells c)) row
    ∙ ap is_right_half (at_behind pre (glyph text true b ∷ right_half ∷ []) c 0 c refl (omega arith)) in
    let end : IsBoundary (c + 2) (cursor_row start.page).cells =
    ap (λ (x : RowValue). is_right_half (at x.cells (c + 2))) row
    ∙ ap is_right_half (at_behind pre (glyph text true b ∷ right_half ∷ []) c 2 (c + 2) refl refl) in
    erased_goes (EraseChars 2 ∷ []) doubts start goal (erase_keeps 1 doubts start placed begin end) placed
    (omega (arith, col, wide, w))

-- A glyph is printed over blanks at the end of a row.
pub bare_portably : (base : Canvas) (done below : List RowValue) (pre : List CellValue) (text : List ℕ) (wide : Bool)
    (b a : Attrs) (r : ℕ) → Prints base.page.width text wide → length done ≡ r →
    length pre + glyph_columns wide ≡ base.page.width → Paired pre →
    Portably (Print text ∷ []) false (mid base done below (pre ++ blanked Portable wide b) false (pen_at r (length pre)
    a))
    (shifts Portable text)
    (mid base done below (pre ++ glyph_cells text wide a) false (pen_at r (length pre + glyph_columns wide) a))
bare_portably base done below pre text false b a r prints e w front =
    glyph_portably base done below pre default_blank (blank b) [] false r (length pre) text false a prints
    (record { row = e; col = refl; fits = omega (arith, w); front = front; sound = λ t. absurd (cc) })
bare_portably base done below pre text true b a r prints e w front =
    glyph_portably base done below pre default_blank (blank b) (blank b ∷ []) false r (length pre) text true a prints
    (record { row = e; col = refl; fits = omega (arith, w); front = front; sound = λ t. absurd (cc) })

-- The operations of a break before the last glyph of the given text and attributes.
breaking_portably : (base : Canvas) (done below : List RowValue) (pre : List CellValue) (text : List ℕ) (wide : Bool)
    (a : Attrs)
    (wrapped : Bool) (r height : ℕ) (pen : Pen) → pen.form ≡ Portable → Reads base height base.page.width →
    length done ≡
    r →
    r + suc (length below) ≡ height → Paired pre → Prints base.page.width text wide →
    length (pre ++ glyph_cells text wide a) ≡ base.page.width → Within pen height base.page.width →
    Portably (move_ops pen r (length pre)
    ++ (EraseChars (erased_count pen.form (length (pre ++ glyph_cells text wide a) - length pre))
    ∷ (attr_ops_in pen.form pen.attrs a ++ Print text ∷ []))) pen.is_shifted
    (mid base done below (pre ++ glyph_cells text wide a) wrapped pen) (shifts pen.form text)
    (mid base done below (pre ++ glyph_cells text wide a) false (pen_at r (length (pre ++ glyph_cells text wide a)) a))
breaking_portably base done below pre text wide a wrapped r height pen is reads e rows front prints size within =
    let n = length_glyph pre text wide a in
    let one = some_columns wide in
    let c = length pre in
    let row = pre ++ glyph_cells text wide a in
    let gone = pre ++ blanked Portable wide pen.attrs in
    let goal = mid base done below row false (pen_at r (length row) a) in
    let count : erased_count Portable (glyph_columns wide) ≡ erased_count pen.form (length row - c) =
    ap (λ (m : ℕ). erased_count Portable m) (columns_are (glyph_columns wide) (length row) c n)
    ∙ ap (λ (f : Form). erased_count f (length row - c)) (sym is) in
    let there = mid base done below row wrapped (pen_at r c pen.attrs) in
    let bare = mid base done below gone false (pen_at r c pen.attrs) in
    subst (λ (m : ℕ). Portably (move_ops pen r c ++ (EraseChars m ∷ (attr_ops_in pen.form pen.attrs a ++ Print text ∷
    [])))
    pen.is_shifted (mid base done below row wrapped pen) (shifts pen.form text) goal) count
    (portably_both (move_ops pen r c) (EraseChars (glyph_columns wide) ∷ (attr_ops_in pen.form pen.attrs a ++ Print
    text ∷ []))
    pen.is_shifted false (shifts pen.form text) (mid base done below row wrapped pen) there goal
    (going_there Any base done below row wrapped r c height pen reads e rows (omega (arith, n, size, one)) within).draws
    (moves_portably base (done ++ row_of row wrapped ∷ below) pen r c
    (omega (arith, e, rows, length-append done (row_of row wrapped ∷ below))) (omega (arith, n, size, one)))
    (portably_both (EraseChars (glyph_columns wide) ∷ []) (attr_ops_in pen.form pen.attrs a ++ Print text ∷ []) false
    false
    (shifts pen.form text) there bare goal
    (erase_last Any Portable base done below pre text wide a pen.attrs wrapped r e (sym n ∙ size) front (λ k low high.
    tt)).draws
    (erased_portably base done below pre text wide a pen.attrs wrapped r bare e (sym n ∙ size) refl refl)
    (portably_both (attr_ops_in pen.form pen.attrs a) (Print text ∷ []) false false (shifts pen.form text) bare
    (mid base done below gone false (pen_at r c a)) goal
    (changing_draws pen.form base (done ++ row_of gone false ∷ below) (pen_at r c pen.attrs) a)
    (attrs_portably pen.form is base (done ++ row_of gone false ∷ below) (pen_at r c pen.attrs) a false)
    (subst (λ (f : Form). Portably (Print text ∷ []) false (mid base done below gone false (pen_at r c a)) (shifts f
    text) goal)
    (sym is)
    (subst (λ (k : ℕ). Portably (Print text ∷ []) false (mid base done below gone false (pen_at r c a)) (shifts
    Portable text)
    (mid base done below row false (pen_at r k a))) (sym n)
    (bare_portably base done below pre text wide pen.attrs a r prints e (sym n ∙ size) front))))))
  where
    columns_are : (m l c : ℕ) → l ≡ c + m → m ≡ l - c
    columns_are m l c e = omega (arith, e)

and_true : (a b : Bool) → (a && b) ≡ true → a ≡ true
and_true true b h = refl
and_true false b h = absurd cc

break_portably : (base : Canvas) (done below : List RowValue) (xs : List CellValue) (wrapped wanted : Bool)
    (r height : ℕ)
    (pen : Pen) → pen.form ≡ Portable → Reads base height base.page.width → length done ≡ r →
    r + suc (length below) ≡ height → length xs ≡ base.page.width → Paired xs → Sound wrapped xs →
    PrintsCells base.page.width xs → Within pen height base.page.width →
    Written (row_break r pen wrapped wanted xs) base done below xs wrapped pen xs
unfolding row_break
break_portably base done below xs wrapped wanted r height pen is reads e rows w h sound prints within =
    cond_both (wrapped && not wanted) (break_ops r pen xs) (no_ops pen wrapped)
    (λ (v : Scripted). Written v base done below xs wrapped pen xs)
    (λ (t : (wrapped && not wanted) ≡ true). last_cases
    (λ z k x. PrintsCells base.page.width z → length z ≡ base.page.width →
    Portably (move_ops pen r k
    ++ (EraseChars (erased_count pen.form (length z - k))
    ∷ (attr_ops_in pen.form pen.attrs (attrs_of x) ++ Print (text_of x) ∷ []))) pen.is_shifted
    (mid base done below z wrapped pen) (shifts pen.form (text_of x)) (mid base done below z false (pen_at r (length z)
    (attrs_of x))))
    (λ pre text wide a front p size.
    breaking_portably base done below pre text wide a wrapped r height pen is reads e rows front
    (prints_last base.page.width pre text wide a p) size within)
    xs h (sound (and_true wrapped (not wanted) t)) prints w)
    (λ _. nothing_portably pen.is_shifted (mid base done below xs wrapped pen))

-- ---- a row

row_portably : (base : Canvas) (done below : List RowValue) (x y : RowValue) (o : CellValue) (r k height : ℕ) (pen :
    Pen)
    (wrapped : Bool) → pen.form ≡ Portable → is_right_half o ≡ false → Reads base height base.page.width →
    length done ≡ r
    →
    r + suc (length below) ≡ height → length x.cells ≡ base.page.width → Paired x.cells → length y.cells ≡
    base.page.width →
    Ready x.cells y.cells [] o k wrapped → PrintsCells base.page.width x.cells → Within pen height base.page.width →
    Written (row_written r k pen wrapped x y.cells) base done below (shown [] o k x.cells y.cells) wrapped pen x.cells
unfolding row_written
row_portably base done below x y o r k height pen wrapped is whole reads e rows w h v ready prints within =
    let cells = cells_written r 0 pen wrapped k x.cells y.cells in
    let start = mid base done below (shown [] o k x.cells y.cells) wrapped pen in
    let place : Place base done below [] r 0 height (length y.cells) =
    record { reads = reads; above = e; rows = rows; before = refl; columns = omega (arith, v) } in
    let all = drop_whole x.cells y.cells (w ∙ sym v) in
    let drawn = cells_draw Any base done below x.cells y.cells [] o r 0 k pen wrapped height place ready prints within
    (lets_any r 0 x.cells y.cells) in
    let middle = mid base done below x.cells cells.wrapped cells.pen in
    let last = row_break r cells.pen cells.wrapped x.wrapped x.cells in
    portably_both cells.ops last.ops pen.is_shifted cells.pen.is_shifted last.pen.is_shifted start middle
    (mid base done below x.cells last.wrapped last.pen)
    (drawn.draws.draws ∙ ap (λ (z : List CellValue). Some (mid base done below z cells.wrapped cells.pen)) all)
    (subst (λ (z : List CellValue). Written cells base done below (shown [] o k x.cells y.cells) wrapped pen z) all
    (cells_portably base done below x.cells y.cells [] o r 0 k pen wrapped height is whole place ready prints within))
    (break_portably base done below x.cells cells.wrapped x.wrapped r height cells.pen
    (cells_form r 0 pen wrapped k x.cells y.cells ∙ is)
    reads e rows w h (subst (Sound cells.wrapped) all drawn.sound) prints drawn.within)

-- ---- rows in sequence

below_portably : (base : Canvas) (xs ys done : List RowValue) (above other : RowValue) (wrapped_above : Bool)
    (r height : ℕ)
    (pen : Pen) → pen.form ≡ Portable → Reads base height base.page.width → length done ≡ r →
    r + suc (length xs) ≡ height → length xs ≡ length ys → Stands base.page.width above →
    AllByRecursion (Stands base.page.width) xs → AllByRecursion (Stands base.page.width) ys →
    PrintsRow base.page.width above → AllByRecursion (PrintsRow base.page.width) xs →
    (wrapped_above ≡ true → above.wrapped ≡ true) → (wrapped_above ≡ false → above.wrapped ≡ true → above ≢ other) →
    ends_unwrapped above xs → Within pen height base.page.width →
    Portably (rows_below r pen above wrapped_above xs ys).ops pen.is_shifted
    (at_pen base (done ++ row_of above.cells wrapped_above ∷ ys) pen)
    (rows_below r pen above wrapped_above xs ys).pen.is_shifted
    (at_pen base (done ++ above ∷ xs) (rows_below r pen above wrapped_above xs ys).pen)
unfolding rows_below
below_portably base [] [] done above other wrapped_above r height pen is reads e rows same ha hx hy above_prints
    prints keeps falls last
    within =
    subst (λ (z : Bool). Portably [] pen.is_shifted (at_pen base (done ++ row_of above.cells wrapped_above ∷ []) pen)
    pen.is_shifted
    (at_pen base (done ++ row_of above.cells z ∷ []) pen)) (same_wrapped wrapped_above above.wrapped last keeps)
    (nothing_portably pen.is_shifted (at_pen base (done ++ row_of above.cells wrapped_above ∷ []) pen))
below_portably base [] (y ∷ ys) done above other wrapped_above r height pen is reads e rows same ha hx hy
    above_prints prints keeps falls
    last within = absurd (omega (arith, same))
below_portably base (x ∷ xs) [] done above other wrapped_above r height pen is reads e rows same ha hx hy
    above_prints prints keeps falls
    last within = absurd (omega (arith, same))
below_portably base (x ∷ xs) (y ∷ ys) done above other wrapped_above r height pen is reads e rows same ha hx hy
    above_prints prints keeps
    falls last within =
    let width = base.page.width in
    let link = link_of r pen above wrapped_above x y in
    let row = row_written (r + 1) link.settled link.pen link.wrapped x y.cells in
    let over = done ++ above ∷ [] in
    let n : length over ≡ r + 1 = let l = length-append done (above ∷ []) in omega (arith, l, e) in
    let one = step_joins Any base done ys above x y wrapped_above r height pen reads e (omega (arith, rows, same))
    ha hx.0 hy.0
    above_prints prints.0 keeps within (λ f t k low high. tt) (λ d. any_row width (r + 1) x y) in
    let wrapped : x ≡ y → link.wrapped ≡ y.wrapped =
    λ q. link_same r pen above wrapped_above x y hx.0.paired
    (subst (λ (b : Bool). Sound b x.cells) (ap (λ (z : RowValue). z.wrapped) q) hx.0.sound) q in
    let two = row_draws Any base over ys x y one.torn (r + 1) link.settled height link.pen link.wrapped reads n
    (omega (arith, rows, same)) hx.0.columns hx.0.paired hy.0.columns one.ready prints.0 one.within wrapped
    (λ ne. any_row width (r + 1) x y) in
    let linked = link_form r pen above wrapped_above x y ∙ is in
    let w = rows_below (r + 1) row.pen x row.wrapped xs ys in
    let start = at_pen base (done ++ row_of above.cells wrapped_above ∷ y ∷ ys) pen in
    let middle = mid base over ys (shown [] one.torn link.settled x.cells y.cells) link.wrapped link.pen in
    let end = mid base over ys x.cells row.wrapped row.pen in
    let split = two_mid base done ys above.cells above.wrapped (shown [] one.torn link.settled x.cells y.cells)
    link.wrapped
    link.pen in
    let rest = below_portably base xs ys over x y row.wrapped (r + 1) height row.pen
    (row_form (r + 1) link.settled link.pen link.wrapped x y.cells ∙ linked) reads n (omega (arith, rows)) (omega (
      arith,
      same,
    )) hx.0
    hx.1 hy.1 prints.0 prints.1 two.keeps (fell (r + 1) link.settled link.pen link.wrapped x y wrapped) last
    two.within in
    portably_both (link.ops ++ row.ops) w.ops pen.is_shifted row.pen.is_shifted w.pen.is_shifted start end
    (at_pen base (done ++ above ∷ x ∷ xs) w.pen)
    (draws_then link.ops row.ops start middle end (one.draws.draws ∙ ap Some split) two.draws.draws)
    (portably_both link.ops row.ops pen.is_shifted link.pen.is_shifted row.pen.is_shifted start middle end
    (one.draws.draws ∙ ap Some split)
    (subst (λ (k : Canvas). Portably link.ops pen.is_shifted start link.pen.is_shifted k) split (one.portable is))
    (row_portably base over ys x y one.torn (r + 1) link.settled height link.pen link.wrapped linked one.whole reads n
    (omega (arith, rows, same)) hx.0.columns hx.0.paired hy.0.columns one.ready prints.0 one.within))
    (subst (λ (z : List RowValue). Portably w.ops row.pen.is_shifted end w.pen.is_shifted (at_pen base z w.pen))
    (append_assoc done (above ∷ []) (x ∷ xs)) rest)

pub rows_portably : (base : Canvas) (xs ys : List RowValue) (height : ℕ) (pen : Pen) → pen.form ≡ Portable →
    Reads base height base.page.width → length xs ≡ height → length ys ≡ height →
    AllByRecursion (Stands base.page.width) xs → AllByRecursion (Stands base.page.width) ys →
    AllByRecursion (PrintsRow base.page.width) xs → flags_end xs → Within pen height base.page.width →
    Portably (rows_written pen xs ys).ops pen.is_shifted (at_pen base ys pen) (rows_written pen xs ys).pen.is_shifted
    (at_pen base xs (rows_written pen xs ys).pen)
unfolding rows_written
rows_portably base [] ys height pen is reads size same hx hy prints last within =
    let row = within.row in absurd (omega (arith, row, size))
rows_portably base (x ∷ xs) [] height pen is reads size same hx hy prints last within = absurd (omega (
  arith,
  size,
  same,
))
rows_portably base (x ∷ xs) (y ∷ ys) height pen is reads size same hx hy prints last within =
    let row = row_written 0 0 pen y.wrapped x y.cells in
    let w = rows_below 0 row.pen x row.wrapped xs ys in
    let ready =
    ready_start x.cells y.cells y.wrapped (hx.0.columns ∙ sym hy.0.columns) hx.0.paired hy.0.paired hy.0.sound in
    let one = row_draws Any base [] ys x y default_blank 0 0 height pen y.wrapped reads refl
    (omega (arith, same)) hx.0.columns hx.0.paired hy.0.columns ready prints.0 within (λ _. refl)
    (λ ne. any_row base.page.width 0 x y) in
    let whole = opened_paired default_blank y.cells hy.0.paired in
    let start = at_pen base (y ∷ ys) pen in
    let end = mid base [] ys x.cells row.wrapped row.pen in
    portably_both row.ops w.ops pen.is_shifted row.pen.is_shifted w.pen.is_shifted start end (at_pen base (x ∷ xs)
    w.pen)
    (subst (λ (z : List CellValue). Draws row.ops (mid base [] ys z y.wrapped pen) end) whole one.draws.draws)
    (subst (λ (z : List CellValue). Portably row.ops pen.is_shifted (mid base [] ys z y.wrapped pen) row.pen.is_shifted
    end) whole
    (row_portably base [] ys x y default_blank 0 0 height pen y.wrapped is refl reads refl (omega (arith, same))
    hx.0.columns
    hx.0.paired hy.0.columns ready prints.0 within))
    (below_portably base xs ys [] x y row.wrapped 0 height row.pen
    (row_form 0 0 pen y.wrapped x y.cells ∙ is) reads refl
    (omega (arith, size)) (omega (arith, size, same)) hx.0 hx.1 hy.1 prints.0 prints.1 one.keeps
    (fell 0 0 pen y.wrapped x y (λ _. refl)) last one.within)
