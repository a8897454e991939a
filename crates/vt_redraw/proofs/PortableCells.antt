-- The output for the cells of a row in the portable form is portable.
use Rattle.std.proofs.Common.{◌≡◌, ℕ, zero, suc, ◌+◌, ◌<◌, ◌≤◌, Bool, true, false, List, [], ◌∷◌, ◌++◌, length, take}
use Rattle.std.proofs.Common.{drop, sym, ap, ◌∙◌, subst, append-nil, append_assoc, refl, arith}
use Rattle.std.proofs.lemmas.Bool.{cond_both}
use Rattle.vt_cells.specs.Attrs.{Attrs}
use Rattle.vt_cells.specs.Cell.{CellValue, blank, glyph, right_half, is_right_half, same_cell}
use Rattle.vt_cells.specs.Glyph.{glyph_columns}
use Rattle.vt_cells.specs.Op.{Print}
use Rattle.vt_cells.proofs.Cells.{cell_of-same}
use Rattle.vt_rows.specs.Cells.{blanks, cells_after_cut}
use Rattle.vt_rows.specs.Row.{RowValue}
use Rattle.vt_grid.specs.Canvas.{Canvas}
use Rattle.vt_redraw.specs.Script.{Scripted, blank_run, cells_written, erase_run, ops_then, pen_at, pen_in, pen_past}
use Rattle.vt_redraw.specs.Script.{placed_op, shifts, wrapped_after_erasure, wrapped_after_glyph}
use Rattle.vt_redraw.specs.declared.form.Form.{Form}
use Rattle.vt_redraw.specs.declared.form.Form.TheVariants.{Fixed, Portable}
use Rattle.vt_redraw.specs.declared.pen.Pen.{Pen}
use Rattle.vt_redraw.proofs.Edits.{mid, orphan, glyph_flag, with_glyph, Within}
use Rattle.vt_redraw.proofs.Halves.{Sound, sound_kept, Loose, Paired, loose_drop, loose_step, opened_paired}
use Rattle.vt_redraw.proofs.Halves.{paired_append, paired_blanks, paired_loose, run_blanks, run_bound}
use Rattle.vt_redraw.proofs.Places.{Place, PrintsCells, Ready, next_place, ready_next, run_flagged, run_in}
use Rattle.vt_redraw.proofs.Places.{second_left, shown}
use Rattle.vt_redraw.proofs.PortableParts.{Portably, doing_portably, glyph_portably, nothing_portably, portably_both}
use Rattle.vt_redraw.proofs.PortableParts.{run_portably}
use Rattle.vt_redraw.proofs.Places.{doing_draws}
use Rattle.vt_redraw.proofs.Ranges.{Any}
use Rattle.vt_redraw.proofs.Row.{after_wide, glyph_spot, pen_within, run_paired}
use Rattle.vt_redraw.proofs.Texts.{Prints}
use Rattle.vt_redraw.proofs.Touched.{print_in}

-- The output of `w` is portable where the row has the cells `start`, and the row then has the cells `goal`.
abbrev pub Written : Scripted → Canvas → (done below : List RowValue) → (start : List CellValue) →
    (wrapped : Bool) → Pen → (goal : List CellValue) → Type 0
Written w base done below start wrapped pen goal =
    Portably w.ops pen.is_shifted (mid base done below start wrapped pen) w.pen.is_shifted
    (mid base done below goal w.wrapped w.pen)

-- A row that is split before a cell can be split after it.
later_column : (w : Scripted) (base : Canvas) (done below : List RowValue) (pre : List CellValue) (x : CellValue)
    (rest goal : List CellValue) (wrapped : Bool) (pen : Pen) →
    Written w base done below ((pre ++ x ∷ []) ++ rest) wrapped pen ((pre ++ x ∷ []) ++ goal) →
    Written w base done below (pre ++ x ∷ rest) wrapped pen (pre ++ x ∷ goal)
later_column w base done below pre x rest goal wrapped pen h =
    subst (λ (z : List CellValue). Written w base done below z wrapped pen (pre ++ x ∷ goal)) (append_assoc pre (x ∷ [])
    rest)
    (subst (λ (z : List CellValue). Written w base done below ((pre ++ x ∷ []) ++ rest) wrapped pen z)
    (append_assoc pre (x ∷ []) goal) h)

-- A first cell that the terminal displays already needs no operations.
same_written : (w : Scripted) (base : Canvas) (done below : List RowValue) (x y : CellValue) (pre ys : List CellValue)
    (goal : List CellValue) (o : CellValue) (wrapped : Bool) (pen : Pen) → same_cell x y ≡ true → Loose (y ∷ ys) →
    cells_after_cut o (x ∷ ys) ≡ x ∷ ys → Sound wrapped (pre ++ cells_after_cut o (y ∷ ys)) →
    (Loose (x ∷ ys) → Sound wrapped (pre ++ x ∷ ys) → Written w base done below (pre ++ x ∷ ys) wrapped pen goal) →
    Written w base done below (pre ++ cells_after_cut o (y ∷ ys)) wrapped pen goal
same_written w base done below x y pre ys goal o wrapped pen t loose whole sound h =
    let e = cell_of-same x y t in
    let P : CellValue → Type 0 =
    λ z. Loose (z ∷ ys) → Sound wrapped (pre ++ cells_after_cut o (z ∷ ys)) →
    Written w base done below (pre ++ cells_after_cut o (z ∷ ys)) wrapped pen goal in
    let Q : List CellValue → Type 0 =
    λ z. Sound wrapped (pre ++ z) → Written w base done below (pre ++ z) wrapped pen goal in
    subst P e (λ l. subst Q (sym whole) (h l)) loose sound

-- A glyph is printed at its position, and further output follows.
glyph_written : (base : Canvas) (done below : List RowValue) (pre : List CellValue) (o y : CellValue) (ys : List
    CellValue)
    (wrapped : Bool) (r c height left : ℕ) (text : List ℕ) (wide : Bool) (a : Attrs) (pen : Pen) (w : Scripted)
    (goal : List CellValue) → pen.form ≡ Portable → Place base done below pre r c height left →
    glyph_columns wide ≤ left → Paired pre → Sound wrapped (pre ++ cells_after_cut o (y ∷ ys)) →
    Prints base.page.width text wide → Within pen height base.page.width →
    Written w base done below (with_glyph pre text wide a ys) (wrapped_after_glyph wrapped wide (drop 1 ys))
    (pen_past pen.form r (c + glyph_columns wide) a text) goal →
    Written (ops_then (placed_op pen r c a (Print text)) w) base done below (pre ++ cells_after_cut o (y ∷ ys)) wrapped
    pen goal
glyph_written base done below pre o y ys wrapped r c height left text wide a pen w goal is at fits front sound prints
    within h =
    let old = pre ++ cells_after_cut o (y ∷ ys) in
    let now = wrapped_after_glyph wrapped wide (drop 1 ys) in
    let q = pen_past pen.form r (c + glyph_columns wide) a text in
    let there = mid base done below (with_glyph pre text wide a ys) now q in
    let columns = at.columns in
    let some = some_columns wide in
    let spot = glyph_spot base done below pre o y ys wrapped r c height left wide at fits front sound in
    let shifted : shifts Portable text ≡ q.is_shifted = ap (λ (f : Form). shifts f text) (sym is) in
    portably_both (placed_op pen r c a (Print text)) w.ops pen.is_shifted q.is_shifted w.pen.is_shifted
    (mid base done below old wrapped pen) there (mid base done below goal w.wrapped w.pen)
    (doing_draws Any base done below old wrapped r c height pen a (Print text) there at.reads at.above at.rows
    (omega (arith, columns, some, fits)) within
    (print_in Any base done below pre o y ys wrapped r c text wide a prints spot
    (record { first = tt; second = λ _. tt; torn = λ _. tt }))).draws
    (doing_portably base done below old wrapped r c height pen a (Print text) q.is_shifted there is at.reads at.above
    at.rows
    (omega (arith, columns, some, fits)) within
    (subst (λ (b : Bool). Portably (Print text ∷ []) false (mid base done below old wrapped (pen_at r c a)) b there)
    shifted
    (glyph_portably base done below pre o y ys wrapped r c text wide a prints spot)))
    h
  where
    some_columns : (wide : Bool) → 0 < glyph_columns wide
    some_columns true = omega arith
    some_columns false = omega arith

-- A run of blanks is erased, and further output follows.
run_written : (base : Canvas) (done below : List RowValue) (pre : List CellValue) (o y : CellValue) (ys : List
    CellValue)
    (wrapped : Bool) (r c n height : ℕ) (a : Attrs) (pen : Pen) (w : Scripted) (goal : List CellValue) →
    pen.form ≡ Portable → is_right_half o ≡ false → Place base done below pre r c height (suc (length ys)) →
    n ≤ length ys → Paired pre → Loose (drop n ys) → Sound wrapped (pre ++ cells_after_cut o (y ∷ ys)) →
    Within pen height base.page.width →
    Written w base done below (pre ++ (blanks a (suc n) ++ cells_after_cut (second_left pen.form a) (drop n ys)))
    (wrapped_after_erasure wrapped (drop n ys)) (pen_in pen.form r c a) goal →
    Written (ops_then (placed_op pen r c a (erase_run pen.form (suc n) (drop n ys))) w) base done below
    (pre ++ cells_after_cut o (y ∷ ys)) wrapped pen goal
run_written base done below pre o y ys wrapped r c n height a pen w goal is whole at le front loose sound within h =
    let old = pre ++ cells_after_cut o (y ∷ ys) in
    let op = erase_run pen.form (suc n) (drop n ys) in
    let there = mid base done below (pre ++ (blanks a (suc n) ++ cells_after_cut (second_left pen.form a) (drop n ys)))
    (wrapped_after_erasure wrapped (drop n ys)) (pen_in pen.form r c a) in
    let columns = at.columns in
    portably_both (placed_op pen r c a op) w.ops pen.is_shifted false w.pen.is_shifted (mid base done below old wrapped
    pen) there
    (mid base done below goal w.wrapped w.pen)
    (doing_draws Any base done below old wrapped r c height pen a op there at.reads at.above at.rows (omega (
      arith,
      columns,
    )) within
    (run_in Any pen.form base done below pre o y ys wrapped r c n a at.above at.before front columns le loose sound
    (λ k low high. tt) (λ t. tt))).draws
    (doing_portably base done below old wrapped r c height pen a op false there is at.reads at.above at.rows (omega
    (arith, columns))
    within
    (run_portably pen.form is base done below pre o y ys wrapped r c n a there at.above at.before
    (omega (arith, columns)) loose
    whole refl refl))
    h

second_whole : (form : Form) (a : Attrs) → is_right_half (second_left form a) ≡ false
second_whole Fixed a = refl
second_whole Portable a = refl

pub cells_portably : (base : Canvas) (done below : List RowValue) (xs ys pre : List CellValue) (o : CellValue)
    (r c k : ℕ) (pen : Pen) (wrapped : Bool) (height : ℕ) → pen.form ≡ Portable → is_right_half o ≡ false →
    Place base done below pre r c height (length ys) → Ready xs ys pre o k wrapped →
    PrintsCells base.page.width xs → Within pen height base.page.width →
    Written (cells_written r c pen wrapped k xs ys) base done below (shown pre o k xs ys) wrapped pen
    (pre ++ (xs ++ drop (length xs) ys))
unfolding cells_written
cells_portably base done below [] ys pre o r c zero pen wrapped height is whole at h prints within =
    subst (λ (z : List CellValue). Portably [] pen.is_shifted (mid base done below (pre ++ cells_after_cut o ys) wrapped
    pen)
    pen.is_shifted (mid base done below z wrapped pen))
    (ap (λ (z : List CellValue). pre ++ z) (opened_paired o ys h.tail))
    (nothing_portably pen.is_shifted (mid base done below (pre ++ cells_after_cut o ys) wrapped pen))
cells_portably base done below [] ys pre o r c (suc k) pen wrapped height is whole at h prints within =
    let le = h.le in absurd (omega (arith, le))
cells_portably base done below (x ∷ xs) [] pre o r c k pen wrapped height is whole at h prints within =
    let same = h.same in absurd (omega (arith, same))
cells_portably base done below (x ∷ xs) (y ∷ ys) pre o r c (suc k) pen wrapped height is whole at h prints within =
    let same = h.same in
    let le = h.le in
    later_column (cells_written r (c + 1) pen wrapped k xs ys) base done below pre x
    (take k xs ++ cells_after_cut o (drop k ys)) (xs ++ drop (length xs) ys) wrapped pen
    (cells_portably base done below xs ys (pre ++ x ∷ []) o r (c + 1) k pen wrapped height is whole
    (next_place base done below pre x r c height (length ys) at)
    (ready_next x xs ys pre o k wrapped (omega (arith, same)) h.tail (omega (arith, le)) h.behind h.new h.old h.sound)
    prints.1 within)
cells_portably base done below (right_half ∷ xs) (y ∷ ys) pre o r c zero pen wrapped height is whole at h
    prints within =
    absurd h.new
cells_portably base done below (blank a ∷ xs) (y ∷ ys) pre o r c zero pen wrapped height is whole at h prints within =
    let front : Paired pre = subst Paired (append-nil pre) h.behind in
    let goal = pre ++ blank a ∷ (xs ++ drop (length xs) ys) in
    let same = h.same in
    let n = blank_run a xs in
    let le = run_bound a xs in
    let next = next_place base done below pre (blank a) r c height (length ys) at in
    let stays = cells_written r (c + 1) pen wrapped 0 xs ys in
    let q = pen_in pen.form r c a in
    let now = wrapped_after_erasure wrapped (drop n ys) in
    let rest = cells_written r (c + 1) q now n xs ys in
    cond_both (same_cell (blank a) y) stays (ops_then (placed_op pen r c a (erase_run pen.form (suc n) (drop n ys)))
    rest)
    (λ (w : Scripted). Written w base done below (pre ++ cells_after_cut o (y ∷ ys)) wrapped pen goal)
    (λ (t : same_cell (blank a) y ≡ true).
    same_written stays base done below (blank a) y pre ys goal o wrapped pen t h.old refl h.sound (λ old sound.
    subst (λ (z : List CellValue). Sound wrapped (pre ++ blank a ∷ z) → Written stays base done below
    (pre ++ blank a ∷ z)
    wrapped pen goal)
    (opened_paired o ys old)
    (λ still. later_column stays base done below pre (blank a) (cells_after_cut o ys)
    (xs ++ drop (length xs) ys) wrapped pen
    (cells_portably base done below xs ys (pre ++ blank a ∷ []) o r (c + 1) 0 pen wrapped height is whole next
    (ready_next (blank a) xs ys pre o 0 wrapped (omega (arith, same)) h.tail (omega arith)
    (paired_append pre (blank a ∷ []) front tt) h.new (paired_loose ys old) still)
    prints.1 within))
    sound))
    (λ _.
    let taken : blanks a n ≡ take n xs = sym (run_blanks a xs) in
    let left = second_left pen.form a in
    let row = λ (z : List CellValue). pre ++ blank a ∷ (z ++ cells_after_cut left (drop n ys)) in
    let sound : Sound now (row (take n xs)) =
    subst (λ (z : List CellValue). Sound now (row z)) taken
    (sound_kept wrapped (row (blanks a n)) now (run_flagged pen.form pre o y ys wrapped n a h.sound)) in
    run_written base done below pre o y ys wrapped r c n height a pen rest goal is whole at
    (omega (arith, le, same)) front
    (loose_drop n ys (loose_step y ys h.old)) h.sound within
    (subst (λ (z : List CellValue). Written rest base done below (row z) now q goal) (sym taken)
    (later_column rest base done below pre (blank a) (take n xs ++ cells_after_cut left (drop n ys))
    (xs ++ drop (length xs) ys) now q
    (cells_portably base done below xs ys (pre ++ blank a ∷ []) left r (c + 1) n q now height is (second_whole pen.form
    a) next
    (ready_next (blank a) xs ys pre left n now (omega (arith, same)) h.tail le
    (paired_append pre (blank a ∷ take n xs) front (subst Paired taken (paired_blanks n a)))
    (run_paired a xs h.new) (loose_drop n ys (loose_step y ys h.old)) sound) prints.1
    (pen_within base done below pre r c height (suc (length ys)) c pen.form a false at (omega arith))))))
cells_portably base done below (glyph text false a ∷ xs) (y ∷ ys) pre o r c zero pen wrapped height is whole at h prints
    within =
    let front : Paired pre = subst Paired (append-nil pre) h.behind in
    let x = glyph text false a in
    let goal = pre ++ x ∷ (xs ++ drop (length xs) ys) in
    let same = h.same in
    let now = wrapped_after_glyph wrapped false (drop 1 ys) in
    let q = pen_past pen.form r (c + 1) a text in
    let next = next_place base done below pre x r c height (length ys) at in
    let stays = cells_written r (c + 1) pen wrapped 0 xs ys in
    let rest = cells_written r (c + 1) q now 0 xs ys in
    cond_both (same_cell x y) stays (ops_then (placed_op pen r c a (Print text)) rest)
    (λ (w : Scripted). Written w base done below (pre ++ cells_after_cut o (y ∷ ys)) wrapped pen goal)
    (λ (t : same_cell x y ≡ true).
    same_written stays base done below x y pre ys goal o wrapped pen t h.old refl h.sound (λ old sound.
    subst (λ (z : List CellValue). Sound wrapped (pre ++ x ∷ z) → Written stays base done below (pre ++ x ∷ z)
    wrapped pen
    goal)
    (opened_paired o ys old)
    (λ still. later_column stays base done below pre x (cells_after_cut o ys) (xs ++ drop (length xs) ys) wrapped pen
    (cells_portably base done below xs ys (pre ++ x ∷ []) o r (c + 1) 0 pen wrapped height is whole next
    (ready_next x xs ys pre o 0 wrapped (omega (arith, same)) h.tail (omega arith)
    (paired_append pre (x ∷ []) front tt) h.new (paired_loose ys old) still)
    prints.1 within))
    sound))
    (λ _.
    glyph_written base done below pre o y ys wrapped r c height (suc (length ys)) text false a pen rest goal
    is at (omega arith) front
    h.sound prints.0 within
    (later_column rest base done below pre x (cells_after_cut (orphan false a) ys) (xs ++ drop (length xs) ys) now q
    (cells_portably base done below xs ys (pre ++ x ∷ []) (orphan false a) r (c + 1) 0 q now height is refl next
    (ready_next x xs ys pre (orphan false a) 0 now (omega (arith, same)) h.tail
    (omega arith) (paired_append pre (x ∷ []) front tt) h.new (loose_step y ys h.old)
    (sound_kept wrapped (with_glyph pre text false a ys) now
    (glyph_flag pre o y ys wrapped text false a h.sound))) prints.1
    (pen_within base done below pre r c height (suc (length ys)) (c + 1) pen.form a (shifts pen.form text) at (omega
    arith)))))
cells_portably base done below (glyph text true a ∷ []) (y ∷ ys) pre o r c zero pen wrapped height is whole at h prints
    within =
    absurd h.new
cells_portably base done below (glyph text true a ∷ blank b ∷ xs) (y ∷ ys) pre o r c zero pen wrapped height
    is whole at h prints
    within = absurd h.new
cells_portably base done below (glyph text true a ∷ glyph other wide b ∷ xs) (y ∷ ys) pre o r c zero pen
    wrapped height is whole at
    h prints within = absurd h.new
cells_portably base done below (glyph text true a ∷ right_half ∷ xs) (y ∷ []) pre o r c zero pen wrapped height is whole
    at h prints
    within = let same = h.same in absurd (omega (arith, same))
cells_portably base done below (glyph text true a ∷ right_half ∷ xs) (y ∷ y2 ∷ ys) pre o r c zero pen wrapped height is
    whole at h
    prints within =
    let front : Paired pre = subst Paired (append-nil pre) h.behind in
    let x = glyph text true a in
    let xr = right_half ∷ xs in
    let goal = pre ++ x ∷ right_half ∷ (xs ++ drop (length xs) ys) in
    let same = h.same in
    let now = wrapped_after_glyph wrapped true ys in
    let q = pen_past pen.form r (c + 2) a text in
    let next = next_place base done below pre x r c height (suc (length ys)) at in
    let stays = cells_written r (c + 1) pen wrapped 1 xr (y2 ∷ ys) in
    let rest = cells_written r (c + 1) q now 1 xr (y2 ∷ ys) in
    cond_both (same_cell x y) stays (ops_then (placed_op pen r c a (Print text)) rest)
    (λ (w : Scripted). Written w base done below (pre ++ cells_after_cut o (y ∷ y2 ∷ ys)) wrapped pen goal)
    (λ (t : same_cell x y ≡ true).
    same_written stays base done below x y pre (y2 ∷ ys) goal o wrapped pen t h.old refl h.sound (λ old sound.
    let pair = after_wide text a y2 ys old in
    subst (λ (z : List CellValue). Sound wrapped (pre ++ x ∷ z) → Written stays base done below (pre ++ x ∷ z)
    wrapped pen
    goal)
    (ap (λ (z : List CellValue). right_half ∷ z) (opened_paired o ys pair.1)
    ∙ ap (λ (z : CellValue). z ∷ ys) (sym pair.0))
    (λ still. later_column stays base done below pre x (right_half ∷ cells_after_cut o ys)
    (right_half ∷ (xs ++ drop (length xs) ys)) wrapped pen
    (cells_portably base done below xr (y2 ∷ ys) (pre ++ x ∷ []) o r (c + 1) 1 pen wrapped height is whole next
    (ready_next x xr (y2 ∷ ys) pre o 1 wrapped (omega (arith, same)) h.tail (omega arith)
    (paired_append pre (x ∷ right_half ∷ []) front tt) h.new (paired_loose ys pair.1) still)
    prints.1 within))
    sound))
    (λ _.
    glyph_written base done below pre o y (y2 ∷ ys) wrapped r c height (suc (suc (length ys))) text true a pen rest goal
    is at
    (omega arith) front h.sound prints.0 within
    (later_column rest base done below pre x (right_half ∷ cells_after_cut (orphan true a) ys)
    (right_half ∷ (xs ++ drop (length xs) ys)) now q
    (cells_portably base done below xr (y2 ∷ ys) (pre ++ x ∷ []) (orphan true a) r (c + 1) 1 q now height is refl next
    (ready_next x xr (y2 ∷ ys) pre (orphan true a) 1 now (omega (arith, same)) h.tail (omega arith)
    (paired_append pre (x ∷ right_half ∷ []) front tt) h.new (loose_step y2 ys (loose_step y (y2 ∷ ys) h.old))
    (sound_kept wrapped (with_glyph pre text true a (y2 ∷ ys)) now
    (glyph_flag pre o y (y2 ∷ ys) wrapped text true a h.sound)))
    prints.1
    (pen_within base done below pre r c height (suc (suc (length ys))) (c + 2) pen.form a (shifts pen.form text) at
    (omega arith)))))
