-- The rows of a script are tidy.
use Rattle.std.proofs.Common.{◌≡◌, ◌≢◌, ℕ, suc, ◌+◌, ◌-◌, ◌&&◌, not, Bool, true, false, List, [], ◌∷◌, ◌++◌, length}
use Rattle.std.proofs.Common.{drop, refl, sym, ap, subst, ◌∙◌, arith, Some}
use Rattle.std.specs.List.{AllByRecursion}
use Rattle.std.proofs.lemmas.Bool.{cond_both}
use Rattle.std.proofs.lemmas.List.{length-append}
use Rattle.vt_cells.specs.Attrs.{Attrs}
use Rattle.vt_cells.specs.Cell.{CellValue, attrs_of, default_blank, is_right_half, text_of}
use Rattle.vt_cells.specs.Glyph.{glyph_columns}
use Rattle.vt_cells.specs.Op.{EraseChars, Print}
use Rattle.vt_rows.specs.Cells.{at}
use Rattle.vt_rows.specs.Row.{RowValue}
use Rattle.vt_grid.specs.Canvas.{Canvas}
use Rattle.vt_grid.proofs.Texts.{Draws, draws_then}
use Rattle.vt_redraw.specs.Redraw.{link_of, row_written, rows_below, rows_written}
use Rattle.vt_redraw.specs.Script.{Scripted, attr_ops_in, break_ops, cells_written, erased_count, move_ops, no_ops}
use Rattle.vt_redraw.specs.Script.{pen_at, row_break}
use Rattle.vt_redraw.specs.declared.form.Form.TheVariants.{Portable}
use Rattle.vt_redraw.specs.declared.pen.Pen.{Pen}
use Rattle.vt_redraw.proofs.Edits.{Reads, Within, at_pen, changing_draws, glyph_cells, mid, row_of, two_mid}
use Rattle.vt_redraw.proofs.Halves.{Paired, Sound, opened_paired}
use Rattle.vt_redraw.proofs.Joining.{ready_start}
use Rattle.vt_redraw.proofs.Link.{blanked, erase_last, last_cases, length_glyph}
use Rattle.vt_redraw.proofs.Places.{Place, PrintsCells, Ready, going_there, shown}
use Rattle.vt_redraw.proofs.Ranges.{Any, any_row, drop_whole, lets_any, row_draws}
use Rattle.vt_redraw.proofs.Row.{cells_draw}
use Rattle.vt_redraw.proofs.Rows.{PrintsRow, Stands, ends_unwrapped, fell, flags_end, link_same, step_joins}
use Rattle.vt_terminals.specs.Terminal.{Positions}
use Rattle.vt_terminals.proofs.Agrees.{TidyTo, nowhere}
use Rattle.vt_terminals.proofs.Flags.{Tracks, tracks_nothing, tracks_then}
use Rattle.vt_terminals.proofs.TidyCells.{cells_tidy}
use Rattle.vt_terminals.proofs.TidyGlyphs.{Fine, Tidy}
use Rattle.vt_terminals.proofs.TidyLinks.{bare_tidy, erased_within, link_tidy}
use Rattle.vt_terminals.proofs.TidyParts.{IsOne, changing_still, going_still, mark, some_columns, still_tidy}
use Rattle.vt_terminals.proofs.TidyParts.{tidy_nothing, tidy_then}
use Rattle.vt_terminals.proofs.TidyPens.{from_nowhere, Flat, cells_flat, row_last, FirstOne, and_first, break_flat}
use Rattle.vt_terminals.proofs.TidyPens.{link_flat, cells_track, break_track, link_track}
use Rattle.vt_terminals.proofs.Agrees as agrees

-- ==== The break

-- All columns of the last glyph are erased, and it is printed again.
breaking_tidy : (near : Positions) (base : Canvas) (done below : List RowValue) (pre : List CellValue) (text : List ℕ)
    (wide : Bool)
    (a : Attrs) (wrapped : Bool) (r height : ℕ) (pen : Pen) → Reads base height base.page.width → length done ≡ r →
    r + suc (length below) ≡ height → Paired pre → IsOne text wide →
    length (pre ++ glyph_cells text wide a) ≡ base.page.width → Within pen height base.page.width →
    TidyTo near (move_ops pen r (length pre)
    ++ (EraseChars (erased_count pen.form (length (pre ++ glyph_cells text wide a) - length pre))
    ∷ (attr_ops_in pen.form pen.attrs a ++ Print text ∷ []))) nowhere
    (mid base done below (pre ++ glyph_cells text wide a) wrapped pen) nowhere
breaking_tidy near base done below pre text wide a wrapped r height pen reads e rows front one size within =
    let n = length_glyph pre text wide a in
    let some = some_columns wide in
    let c = length pre in
    let row = pre ++ glyph_cells text wide a in
    let gone = pre ++ blanked pen.form wide pen.attrs in
    let count : glyph_columns wide ≡ length row - c = omega (arith, n) in
    subst (λ (m : ℕ). TidyTo near (move_ops pen r c
    ++ (EraseChars (erased_count pen.form m) ∷ (attr_ops_in pen.form pen.attrs a ++ Print text ∷ []))) nowhere
    (mid base done below row wrapped pen) nowhere) count
    (tidy_then near (move_ops pen r c)
    (EraseChars (erased_count pen.form (glyph_columns wide)) ∷ (attr_ops_in pen.form pen.attrs a ++ Print text ∷ []))
    nowhere nowhere nowhere (mid base done below row wrapped pen) (mid base done below row wrapped
    (pen_at r c pen.attrs))
    (still_tidy near (move_ops pen r c) nowhere (mid base done below row wrapped pen) (going_still pen r c))
    (going_there Any base done below row wrapped r c height pen reads e rows (omega (arith, n, size, some))
    within).draws
    (tidy_then near (EraseChars (erased_count pen.form (glyph_columns wide)) ∷ [])
    (attr_ops_in pen.form pen.attrs a ++ Print text ∷ []) nowhere nowhere nowhere
    (mid base done below row wrapped (pen_at r c pen.attrs)) (mid base done below gone false (pen_at r c pen.attrs)) (
      tt,
      λ next f. erased_within near nowhere (erased_count pen.form (glyph_columns wide))
          (mid base done below row wrapped (pen_at r c pen.attrs)).page,
    )
    (erase_last Any pen.form base done below pre text wide a pen.attrs wrapped r e (sym n ∙ size) front
    (λ k low high. tt)).draws
    (tidy_then near (attr_ops_in pen.form pen.attrs a) (Print text ∷ []) nowhere nowhere nowhere
    (mid base done below gone false (pen_at r c pen.attrs)) (mid base done below gone false (pen_at r c a))
    (still_tidy near (attr_ops_in pen.form pen.attrs a) nowhere (mid base done below gone false (pen_at r c pen.attrs))
    (changing_still pen.form pen.attrs a))
    (changing_draws pen.form base (done ++ row_of gone false ∷ below) (pen_at r c pen.attrs) a)
    (bare_tidy near base done below pre pen.form text wide pen.attrs a false r e (sym n ∙ size) one))))

break_tidy : (near : Positions) (base : Canvas) (done below : List RowValue) (xs : List CellValue)
    (wrapped wanted : Bool) (r height : ℕ)
    (pen : Pen) → Reads base height base.page.width → length done ≡ r → r + suc (length below) ≡ height →
    length xs ≡ base.page.width → Paired xs → Sound wrapped xs → Fine near base.page.width r 0 xs →
    Within pen height base.page.width → Tidy near (row_break r pen wrapped wanted xs) nowhere base done below xs wrapped
    pen
unfolding row_break
break_tidy near base done below xs wrapped wanted r height pen reads e rows w h sound ones within =
    cond_both (wrapped && not wanted) (break_ops r pen xs) (no_ops pen wrapped)
    (λ (v : Scripted). Tidy near v nowhere base done below xs wrapped pen)
    (λ (t : (wrapped && not wanted) ≡ true). last_cases
    (λ z k x. Fine near base.page.width r 0 z → length z ≡ base.page.width →
    TidyTo near (move_ops pen r k
    ++ (EraseChars (erased_count pen.form (length z - k))
    ∷ (attr_ops_in pen.form pen.attrs (attrs_of x) ++ Print (text_of x) ∷ []))) nowhere
    (mid base done below z wrapped pen) nowhere)
    (λ pre text wide a front all size.
    breaking_tidy near base done below pre text wide a wrapped r height pen reads e rows front
    (row_last near base.page.width r pre text wide a all size) size within)
    xs h (sound (and_first wrapped (not wanted) t)) ones w)
    (λ _. tidy_nothing near nowhere (mid base done below xs wrapped pen))

-- ==== A row

row_tidy : (near : Positions) (base : Canvas) (done below : List RowValue) (x y : RowValue) (o : CellValue)
    (r k height : ℕ) (pen : Pen)
    (wrapped : Bool) (torn : Positions) → is_right_half o ≡ false → Reads base height base.page.width →
    length done ≡ r →
    r + suc (length below) ≡ height → length x.cells ≡ base.page.width → Paired x.cells →
    length y.cells ≡ base.page.width → Ready x.cells y.cells [] o k wrapped → PrintsCells base.page.width x.cells →
    Fine near base.page.width r 0 x.cells → Within pen height base.page.width →
    agrees.Within near torn (mark r (0 + k) (is_right_half (at (drop k y.cells) 0))) →
    Tidy near (row_written r k pen wrapped x y.cells) torn base done below (shown [] o k x.cells y.cells) wrapped pen
unfolding row_written
row_tidy near base done below x y o r k height pen wrapped torn whole reads e rows w h v ready prints ones within
    marked =
    let cells = cells_written r 0 pen wrapped k x.cells y.cells in
    let start = mid base done below (shown [] o k x.cells y.cells) wrapped pen in
    let place : Place base done below [] r 0 height (length y.cells) =
    record { reads = reads; above = e; rows = rows; before = refl; columns = omega (arith, v) } in
    let all = drop_whole x.cells y.cells (w ∙ sym v) in
    let drawn = cells_draw Any base done below x.cells y.cells [] o r 0 k pen wrapped height place ready prints within
    (lets_any r 0 x.cells y.cells) in
    let last = row_break r cells.pen cells.wrapped x.wrapped x.cells in
    tidy_then near cells.ops last.ops torn nowhere nowhere start (mid base done below x.cells cells.wrapped cells.pen)
    (cells_tidy near base done below x.cells y.cells [] o r 0 k pen wrapped height torn whole place ready prints ones
    within marked)
    (drawn.draws.draws ∙ ap (λ (z : List CellValue). Some (mid base done below z cells.wrapped cells.pen)) all)
    (break_tidy near base done below x.cells cells.wrapped x.wrapped r height cells.pen reads e rows w h
    (subst (Sound cells.wrapped) all drawn.sound) ones drawn.within)

row_flat : (near : Positions) (base : Canvas) (done below : List RowValue) (x y : RowValue) (o : CellValue)
    (r k height : ℕ) (pen : Pen)
    (wrapped : Bool) → Reads base height base.page.width → length done ≡ r → r + suc (length below) ≡ height →
    length x.cells ≡ base.page.width → Paired x.cells → length y.cells ≡ base.page.width →
    Ready x.cells y.cells [] o k wrapped → PrintsCells base.page.width x.cells →
    Fine near base.page.width r 0 x.cells → Within pen height base.page.width → Flat base.page.width pen →
    Flat base.page.width (row_written r k pen wrapped x y.cells).pen
unfolding row_written
row_flat near base done below x y o r k height pen wrapped reads e rows w h v ready prints ones within f =
    let cells = cells_written r 0 pen wrapped k x.cells y.cells in
    let place : Place base done below [] r 0 height (length y.cells) =
    record { reads = reads; above = e; rows = rows; before = refl; columns = omega (arith, v) } in
    let drawn = cells_draw Any base done below x.cells y.cells [] o r 0 k pen wrapped height place ready prints within
    (lets_any r 0 x.cells y.cells) in
    break_flat near base.page.width r cells.pen cells.wrapped x.wrapped x.cells h
    (subst (Sound cells.wrapped) (drop_whole x.cells y.cells (w ∙ sym v)) drawn.sound) ones w
    (cells_flat near base.page.width r 0 pen wrapped k x.cells y.cells ones f)

row_track : (near : Positions) (base : Canvas) (done below : List RowValue) (x y : RowValue) (o : CellValue)
    (r k height : ℕ) (pen : Pen)
    (wrapped : Bool) → Reads base height base.page.width → length done ≡ r → r + suc (length below) ≡ height →
    length x.cells ≡ base.page.width → Paired x.cells → length y.cells ≡ base.page.width →
    Ready x.cells y.cells [] o k wrapped → PrintsCells base.page.width x.cells →
    Fine near base.page.width r 0 x.cells → Within pen height base.page.width → pen.form ≡ Portable →
    Tracks pen (row_written r k pen wrapped x y.cells).ops (row_written r k pen wrapped x y.cells).pen
unfolding row_written
row_track near base done below x y o r k height pen wrapped reads e rows w h v ready prints ones within f =
    let cells = cells_written r 0 pen wrapped k x.cells y.cells in
    let place : Place base done below [] r 0 height (length y.cells) =
    record { reads = reads; above = e; rows = rows; before = refl; columns = omega (arith, v) } in
    let drawn = cells_draw Any base done below x.cells y.cells [] o r 0 k pen wrapped height place ready prints within
    (lets_any r 0 x.cells y.cells) in
    let last = row_break r cells.pen cells.wrapped x.wrapped x.cells in
    let track = cells_track near base.page.width r 0 pen wrapped k x.cells y.cells f ones in
    tracks_then pen cells.pen last.pen cells.ops last.ops track
    (break_track near base.page.width r cells.pen cells.wrapped x.wrapped x.cells track.form h
    (subst (Sound cells.wrapped) (drop_whole x.cells y.cells (w ∙ sym v)) drawn.sound) ones w)

-- ==== Rows in sequence

-- The rows from row `r` on are fine; `wrapped` is whether the row above them is wrapped.
abbrev pub FineRows : (near : Positions) (width r : ℕ) (wrapped : Bool) → List RowValue → Type 0
FineRows near width r wrapped [] = Unit {0}
FineRows near width r wrapped (x ∷ xs) =
    (wrapped ≡ true → FirstOne x.cells) × (Fine near width r 0 x.cells × FineRows near width (r + 1) x.wrapped xs)

-- The rows are tidy, and the pen is shifted only where there is room afterward.
record Below (near : Positions) (pen : Pen) (w : Scripted) (start : Canvas) : Type 0 where
  tidy : TidyTo near w.ops nowhere start nowhere
  unshifted : Flat start.page.width w.pen
  track : pen.form ≡ Portable → Tracks pen w.ops w.pen

below_tidy : (near : Positions) (base : Canvas) (xs ys done : List RowValue) (above other : RowValue)
    (wrapped_above : Bool) (r height : ℕ)
    (pen : Pen) → Flat base.page.width pen → Reads base height base.page.width → length done ≡ r →
    r + suc (length xs) ≡ height → length xs ≡ length ys → Stands base.page.width above →
    AllByRecursion (Stands base.page.width) xs → AllByRecursion (Stands base.page.width) ys →
    PrintsRow base.page.width above → AllByRecursion (PrintsRow base.page.width) xs →
    Fine near base.page.width r 0 above.cells →
    FineRows near base.page.width (r + 1) above.wrapped xs →
    (wrapped_above ≡ true → above.wrapped ≡ true) → (wrapped_above ≡ false → above.wrapped ≡ true → above ≢ other) →
    ends_unwrapped above xs → Within pen height base.page.width →
    Below near pen (rows_below r pen above wrapped_above xs ys) (at_pen base
    (done ++ row_of above.cells wrapped_above ∷ ys) pen)
unfolding rows_below
below_tidy near base [] ys done above other wrapped_above r height pen f reads e rows same ha hx hy above_prints prints
    above_ones
    ones keeps falls last within =
    record {
      tidy = tidy_nothing near nowhere (at_pen base (done ++ row_of above.cells wrapped_above ∷ ys) pen);
      unshifted = f;
      track = λ form. tracks_nothing pen form;
    }
below_tidy near base (x ∷ xs) [] done above other wrapped_above r height pen f reads e rows same ha hx hy above_prints
    prints
    above_ones ones keeps falls last within = absurd (omega (arith, same))
below_tidy near base (x ∷ xs) (y ∷ ys) done above other wrapped_above r height pen f reads e rows same ha hx hy
    above_prints prints
    above_ones ones keeps falls last within =
    let width = base.page.width in
    let link = link_of r pen above wrapped_above x y in
    let row = row_written (r + 1) link.settled link.pen link.wrapped x y.cells in
    let over = done ++ above ∷ [] in
    let n : length over ≡ r + 1 = let l = length-append done (above ∷ []) in omega (arith, l, e) in
    let one = step_joins Any base done ys above x y wrapped_above r height pen reads e (omega (arith, rows, same))
    ha hx.0 hy.0
    above_prints prints.0 keeps within (λ f t k low high. tt) (λ d. any_row width (r + 1) x y) in
    let wrapped : x ≡ y → link.wrapped ≡ y.wrapped =
    λ q. link_same r pen above wrapped_above x y hx.0.paired
    (subst (λ (b : Bool). Sound b x.cells) (ap (λ (z : RowValue). z.wrapped) q) hx.0.sound) q in
    let two = row_draws Any base over ys x y one.torn (r + 1) link.settled height link.pen link.wrapped reads n
    (omega (arith, rows, same)) hx.0.columns hx.0.paired hy.0.columns one.ready prints.0 one.within wrapped
    (λ ne. any_row width (r + 1) x y) in
    let w = rows_below (r + 1) row.pen x row.wrapped xs ys in
    let start = at_pen base (done ++ row_of above.cells wrapped_above ∷ y ∷ ys) pen in
    let middle = mid base over ys (shown [] one.torn link.settled x.cells y.cells) link.wrapped link.pen in
    let end = mid base over ys x.cells row.wrapped row.pen in
    let split = two_mid base done ys above.cells above.wrapped (shown [] one.torn link.settled x.cells y.cells)
    link.wrapped
    link.pen in
    let flat = link_flat near width r pen above wrapped_above x y ha.paired ha.sound above_ones ha.columns ones.0 f in
    let torn = mark (r + 1) (0 + link.settled) (is_right_half (at (drop link.settled y.cells) 0)) in
    let rest = below_tidy near base xs ys over x y row.wrapped (r + 1) height row.pen
    (row_flat near base over ys x y one.torn (r + 1) link.settled height link.pen link.wrapped reads n
    (omega (arith, rows, same)) hx.0.columns hx.0.paired hy.0.columns one.ready prints.0 ones.1.0 one.within flat)
    reads n (omega (arith, rows)) (omega (arith, same)) hx.0
    hx.1 hy.1 prints.0 prints.1 ones.1.0 ones.1.1 two.keeps (fell (r + 1) link.settled link.pen link.wrapped x y
    wrapped) last
    two.within in
    record {
      tidy =
          tidy_then near (link.ops ++ row.ops) w.ops nowhere nowhere nowhere start end
          (tidy_then near link.ops row.ops nowhere torn nowhere start middle
          (link_tidy near base done ys above x y wrapped_above r height pen f reads e (omega (arith, rows, same)) ha
          hx.0 hy.0
          above_prints above_ones ones.0 within)
          (one.draws.draws ∙ ap Some split)
          (row_tidy near base over ys x y one.torn (r + 1) link.settled height link.pen link.wrapped torn one.whole
          reads n
          (omega (arith, rows, same)) hx.0.columns hx.0.paired hy.0.columns one.ready prints.0 ones.1.0 one.within
          (λ i k clear h. h)))
          (draws_then link.ops row.ops start middle end (one.draws.draws ∙ ap Some split) two.draws.draws)
          rest.tidy;
      unshifted = rest.unshifted;
      track = λ form.
          let by_link = link_track near width r pen above wrapped_above x y form ha.paired ha.sound above_ones
          ha.columns
          ones.1.0 in
          let by_row = row_track near base over ys x y one.torn (r + 1) link.settled height link.pen link.wrapped reads
          n
          (omega (arith, rows, same)) hx.0.columns hx.0.paired hy.0.columns one.ready prints.0 ones.1.0 one.within
          by_link.form in
          tracks_then pen row.pen w.pen (link.ops ++ row.ops) w.ops
          (tracks_then pen link.pen row.pen link.ops row.ops by_link by_row) (rest.track by_row.form);
    }

pub rows_tidy : (near : Positions) (base : Canvas) (xs ys : List RowValue) (height : ℕ) (pen : Pen) →
    Flat base.page.width pen →
    Reads base height base.page.width → length xs ≡ height → length ys ≡ height →
    AllByRecursion (Stands base.page.width) xs → AllByRecursion (Stands base.page.width) ys →
    AllByRecursion (PrintsRow base.page.width) xs → FineRows near base.page.width 0 false xs → flags_end xs →
    Within pen height base.page.width →
    TidyTo near (rows_written pen xs ys).ops nowhere (at_pen base ys pen) nowhere
    × (Flat base.page.width (rows_written pen xs ys).pen
    × (pen.form ≡ Portable → Tracks pen (rows_written pen xs ys).ops (rows_written pen xs ys).pen))
unfolding rows_written
rows_tidy near base [] ys height pen f reads size same hx hy prints ones last within =
    let row = within.row in absurd (omega (arith, row, size))
rows_tidy near base (x ∷ xs) [] height pen f reads size same hx hy prints ones last within = absurd (omega (
  arith,
  size,
  same,
))
rows_tidy near base (x ∷ xs) (y ∷ ys) height pen f reads size same hx hy prints ones last within =
    let row = row_written 0 0 pen y.wrapped x y.cells in
    let w = rows_below 0 row.pen x row.wrapped xs ys in
    let ready =
    ready_start x.cells y.cells y.wrapped (hx.0.columns ∙ sym hy.0.columns) hx.0.paired hy.0.paired hy.0.sound in
    let one = row_draws Any base [] ys x y default_blank 0 0 height pen y.wrapped reads refl
    (omega (arith, same)) hx.0.columns hx.0.paired hy.0.columns ready prints.0 within (λ _. refl)
    (λ ne. any_row base.page.width 0 x y) in
    let whole = opened_paired default_blank y.cells hy.0.paired in
    let start = at_pen base (y ∷ ys) pen in
    let end = mid base [] ys x.cells row.wrapped row.pen in
    let flat = row_flat near base [] ys x y default_blank 0 0 height pen y.wrapped reads refl (omega (arith, same))
    hx.0.columns hx.0.paired hy.0.columns ready prints.0 ones.1.0 within f in
    let rest = below_tidy near base xs ys [] x y row.wrapped 0 height row.pen flat reads refl
    (omega (arith, size)) (omega (arith, size, same)) hx.0 hx.1 hy.1 prints.0 prints.1 ones.1.0 ones.1.1 one.keeps
    (fell 0 0 pen y.wrapped x y (λ _. refl)) last one.within in (
      tidy_then near row.ops w.ops nowhere nowhere nowhere start end
          (subst (λ (z : List CellValue). TidyTo near row.ops nowhere (mid base [] ys z y.wrapped pen) nowhere) whole
          (row_tidy near base [] ys x y default_blank 0 0 height pen y.wrapped nowhere refl reads refl
          (omega (arith, same))
          hx.0.columns hx.0.paired hy.0.columns ready prints.0 ones.1.0 within
          (from_nowhere near (mark 0 (0 + 0) (is_right_half (at y.cells 0))))))
          (subst (λ (z : List CellValue). Draws row.ops (mid base [] ys z y.wrapped pen) end) whole one.draws.draws)
          rest.tidy,
      (
        rest.unshifted,
        λ form.
            let by_row = row_track near base [] ys x y default_blank 0 0 height pen y.wrapped reads refl
            (omega (arith, same))
            hx.0.columns hx.0.paired hy.0.columns ready prints.0 ones.1.0 within form in
            tracks_then pen row.pen w.pen row.ops w.ops by_row (rest.track by_row.form),
      ),
    )
