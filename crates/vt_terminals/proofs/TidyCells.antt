-- The output for the cells of a row is tidy.
use Rattle.std.proofs.Common.{◌≡◌, ℕ, zero, suc, ◌+◌, ◌-◌, ◌≤◌, ◌⊎◌, ◌&&◌, ◌==◌, Bool, true, false, List, [], ◌∷◌, ◌++◌}
use Rattle.std.proofs.Common.{length, take, drop, refl, sym, ap, subst, ◌∙◌, arith, append-nil, append_assoc}
use Rattle.std.proofs.lemmas.Bool.{cond_both, and_parts}
use Rattle.vt_cells.specs.Attrs.{Attrs}
use Rattle.vt_cells.specs.Cell.{CellValue, blank, glyph, right_half, is_right_half, same_cell}
use Rattle.vt_cells.specs.Glyph.{glyph_columns}
use Rattle.vt_cells.specs.Op.{Print}
use Rattle.vt_cells.proofs.Cells.{cell_of-same}
use Rattle.vt_rows.specs.Cells.{at, blanks, cells_after_cut}
use Rattle.vt_rows.specs.Row.{RowValue}
use Rattle.vt_grid.specs.Canvas.{Canvas}
use Rattle.vt_redraw.specs.Script.{Scripted, blank_run, cells_written, erase_run, ops_then, pen_at, pen_in, pen_past}
use Rattle.vt_redraw.specs.Script.{placed_op, shifts, wrapped_after_erasure, wrapped_after_glyph}
use Rattle.vt_redraw.specs.declared.form.Form.{Form}
use Rattle.vt_redraw.specs.declared.form.Form.TheVariants.{Fixed, Portable}
use Rattle.vt_redraw.specs.declared.pen.Pen.{Pen}
use Rattle.vt_redraw.proofs.Edits.{Within, glyph_flag, mid, orphan, with_glyph}
use Rattle.vt_redraw.proofs.Halves.{Loose, Paired, Sound, loose_drop, loose_step, opened_paired, paired_append}
use Rattle.vt_redraw.proofs.Halves.{paired_blanks, paired_loose, run_blanks, run_bound, sound_kept}
use Rattle.vt_redraw.proofs.Places.{paired_start, Place, PrintsCells, Ready, doing_draws, next_place, ready_next}
use Rattle.vt_redraw.proofs.Places.{run_flagged, run_in, second_left, shown}
use Rattle.vt_redraw.proofs.Ranges.{Any}
use Rattle.vt_redraw.proofs.Row.{after_wide, glyph_spot, pen_within, run_paired}
use Rattle.vt_redraw.proofs.Texts.{Prints, next}
use Rattle.vt_redraw.proofs.Touched.{print_in}
use Rattle.vt_terminals.specs.Room.{StrayFits}
use Rattle.vt_terminals.specs.Terminal.{Positions}
use Rattle.vt_terminals.proofs.Agrees.{nowhere}
use Rattle.vt_terminals.proofs.TidyGlyphs.{Fine, Tidy, doing_tidy, fine_tidy}
use Rattle.vt_terminals.proofs.TidyParts.{IsOne, erasing_tidy, mark, some_columns, tidy_then}
use Rattle.vt_terminals.proofs.Agrees as agrees

-- ---- the cells, from left to right

later_column : (near : Positions) (w : Scripted) (torn : Positions) (base : Canvas) (done below : List RowValue)
    (pre : List CellValue)
    (x : CellValue) (rest : List CellValue) (wrapped : Bool) (pen : Pen) →
    Tidy near w torn base done below ((pre ++ x ∷ []) ++ rest) wrapped pen →
    Tidy near w torn base done below (pre ++ x ∷ rest) wrapped pen
later_column near w torn base done below pre x rest wrapped pen h =
    subst (λ (z : List CellValue). Tidy near w torn base done below z wrapped pen) (append_assoc pre (x ∷ []) rest) h

-- A first cell that the terminal displays already needs no operations.
same_tidy : (near : Positions) (w : Scripted) (torn : Positions) (base : Canvas) (done below : List RowValue)
    (x y : CellValue)
    (pre ys : List CellValue) (o : CellValue) (wrapped : Bool) (pen : Pen) → same_cell x y ≡ true → Loose (y ∷ ys) →
    cells_after_cut o (x ∷ ys) ≡ x ∷ ys → Sound wrapped (pre ++ cells_after_cut o (y ∷ ys)) →
    (Loose (x ∷ ys) → Sound wrapped (pre ++ x ∷ ys) → Tidy near w torn base done below (pre ++ x ∷ ys) wrapped pen) →
    Tidy near w torn base done below (pre ++ cells_after_cut o (y ∷ ys)) wrapped pen
same_tidy near w torn base done below x y pre ys o wrapped pen t loose whole sound h =
    let e = cell_of-same x y t in
    let P : CellValue → Type 0 =
    λ z. Loose (z ∷ ys) → Sound wrapped (pre ++ cells_after_cut o (z ∷ ys)) →
    Tidy near w torn base done below (pre ++ cells_after_cut o (z ∷ ys)) wrapped pen in
    let Q : List CellValue → Type 0 =
    λ z. Sound wrapped (pre ++ z) → Tidy near w torn base done below (pre ++ z) wrapped pen in
    subst P e (λ l. subst Q (sym whole) (h l)) loose sound

-- The cell is whole: it is no right half, and so the cell that equals it is none.
not_half : (x y : CellValue) → same_cell x y ≡ true → is_right_half x ≡ false → is_right_half y ≡ false
not_half x y t f = ap is_right_half (sym (cell_of-same x y t)) ∙ f

-- Nothing is torn, so any position may be named.
settled_mark : (near : Positions) (torn : Positions) (r c i k : ℕ) (b d : Bool) → agrees.Within near torn (mark r c b) →
    b ≡ false →
    agrees.Within near torn (mark i k d)
settled_mark near torn r c i k b d within f row column clear e =
    let here = within row column clear e in
    let parts = and_parts (row == r) ((column == c) && b) here in
    let last = (and_parts (column == c) b parts.1).1 in
    absurd (cc)

nothing_mark : (near : Positions) (torn : Positions) (r c : ℕ) (b : Bool) → agrees.Within near torn nowhere →
    agrees.Within near torn (mark r c b)
nothing_mark near torn r c b within row column clear e = let none = within row column clear e in absurd (cc)

glyph_then : (near : Positions) (base : Canvas) (done below : List RowValue) (pre : List CellValue) (o y : CellValue)
    (ys : List CellValue)
    (wrapped : Bool) (r c height left : ℕ) (text : List ℕ) (wide : Bool) (a : Attrs) (pen : Pen) (w : Scripted)
    (torn : Positions) (b : Bool) → is_right_half o ≡ false → Place base done below pre r c height left →
    glyph_columns wide ≤ left → Paired pre → Sound wrapped (pre ++ cells_after_cut o (y ∷ ys)) →
    Prints base.page.width text wide → IsOne text wide ⊎ StrayFits near base.page.width r c text →
    Within pen height base.page.width →
    agrees.Within near torn (mark r c b) →
    Tidy near w (mark r (c + glyph_columns wide) (is_right_half (at (drop (glyph_columns wide - 1) ys) 0))) base done
    below
    (with_glyph pre text wide a ys) (wrapped_after_glyph wrapped wide (drop 1 ys))
    (pen_past pen.form r (c + glyph_columns wide) a text) →
    Tidy near (ops_then (placed_op pen r c a (Print text)) w) torn base done below (pre ++ cells_after_cut o (y ∷ ys))
    wrapped pen
glyph_then near base done below pre o y ys wrapped r c height left text wide a pen w torn b whole at fits front sound
    prints one
    within marked h =
    let old = pre ++ cells_after_cut o (y ∷ ys) in
    let now = wrapped_after_glyph wrapped wide (drop 1 ys) in
    let q = pen_past pen.form r (c + glyph_columns wide) a text in
    let there = mid base done below (with_glyph pre text wide a ys) now q in
    let columns = at.columns in
    let some = some_columns wide in
    let spot = glyph_spot base done below pre o y ys wrapped r c height left wide at fits front sound in
    let middle = mark r (c + glyph_columns wide) (is_right_half (Rattle.vt_rows.specs.Cells.at
    (drop (glyph_columns wide - 1) ys) 0)) in
    tidy_then near (placed_op pen r c a (Print text)) w.ops torn middle nowhere (mid base done below old wrapped pen)
    there
    (doing_tidy near base done below old wrapped r c height pen a (Print text) torn middle at.reads at.above at.rows
    (omega (arith, columns, some, fits)) within
    (fine_tidy near base done below pre o y ys wrapped r c text wide a torn b whole spot
    (omega (arith, columns, fits)) prints one marked))
    (doing_draws Any base done below old wrapped r c height pen a (Print text) there at.reads at.above at.rows
    (omega (arith, columns, some, fits)) within
    (print_in Any base done below pre o y ys wrapped r c text wide a prints spot
    (record { first = tt; second = λ _. tt; torn = λ _. tt }))).draws
    h

run_then : (near : Positions) (base : Canvas) (done below : List RowValue) (pre : List CellValue) (o y : CellValue)
    (ys : List CellValue)
    (wrapped : Bool) (r c n height : ℕ) (a : Attrs) (pen : Pen) (w : Scripted) (torn : Positions) (b : Bool) →
    Place base done below pre r c height (suc (length ys)) →
    n ≤ length ys → Paired pre → Loose (drop n ys) → Sound wrapped (pre ++ cells_after_cut o (y ∷ ys)) →
    Within pen height base.page.width → agrees.Within near torn (mark r c b) →
    Tidy near w nowhere base done below (pre ++ (blanks a (suc n) ++ cells_after_cut (second_left pen.form a)
    (drop n ys)))
    (wrapped_after_erasure wrapped (drop n ys)) (pen_in pen.form r c a) →
    Tidy near (ops_then (placed_op pen r c a (erase_run pen.form (suc n) (drop n ys))) w) torn base done below
    (pre ++ cells_after_cut o (y ∷ ys)) wrapped pen
run_then near base done below pre o y ys wrapped r c n height a pen w torn b at le front loose sound within marked h =
    let old = pre ++ cells_after_cut o (y ∷ ys) in
    let op = erase_run pen.form (suc n) (drop n ys) in
    let there = mid base done below (pre ++ (blanks a (suc n) ++ cells_after_cut (second_left pen.form a) (drop n ys)))
    (wrapped_after_erasure wrapped (drop n ys)) (pen_in pen.form r c a) in
    let columns = at.columns in
    tidy_then near (placed_op pen r c a op) w.ops torn nowhere nowhere (mid base done below old wrapped pen) there
    (doing_tidy near base done below old wrapped r c height pen a op torn nowhere at.reads at.above at.rows
    (omega (arith, columns)) within
    (erasing_tidy near (mid base done below old wrapped (pen_at r c a)) pen.form n (drop n ys) b torn
    at.reads.has_columns marked))
    (doing_draws Any base done below old wrapped r c height pen a op there at.reads at.above at.rows
    (omega (arith, columns)) within
    (run_in Any pen.form base done below pre o y ys wrapped r c n a at.above at.before front columns le loose sound
    (λ k low high. tt) (λ t. tt))).draws
    h

second_whole : (form : Form) (a : Attrs) → is_right_half (second_left form a) ≡ false
second_whole Fixed a = refl
second_whole Portable a = refl

-- The output for the cells is tidy, if at most the continuation cell of a wide glyph that was printed over is torn.
pub cells_tidy : (near : Positions) (base : Canvas) (done below : List RowValue) (xs ys pre : List CellValue)
    (o : CellValue)
    (r c k : ℕ) (pen : Pen) (wrapped : Bool) (height : ℕ) (torn : Positions) → is_right_half o ≡ false →
    Place base done below pre r c height (length ys) → Ready xs ys pre o k wrapped →
    PrintsCells base.page.width xs → Fine near base.page.width r c xs → Within pen height base.page.width →
    agrees.Within near torn (mark r (c + k) (is_right_half (at (drop k ys) 0))) →
    Tidy near (cells_written r c pen wrapped k xs ys) torn base done below (shown pre o k xs ys) wrapped pen
unfolding cells_written
cells_tidy near base done below [] ys pre o r c zero pen wrapped height torn whole at h prints ones within marked =
    settled_end ys h.tail marked
  where
    settled_end : (ys : List CellValue) → Paired ys →
        agrees.Within near torn (mark r (c + 0) (is_right_half (Rattle.vt_rows.specs.Cells.at ys 0))) →
        agrees.Within near torn nowhere
    settled_end ys paired marked =
        settled_nowhere (is_right_half (Rattle.vt_rows.specs.Cells.at ys 0))
        (paired_start ys paired) marked
      where
        settled_nowhere : (b : Bool) → b ≡ false → agrees.Within near torn (mark r (c + 0) b) →
            agrees.Within near torn nowhere
        settled_nowhere b f within row column clear e =
            let here = within row column clear e in
            let parts = and_parts (row == r) ((column == c + 0) && b) here in
            let last = (and_parts (column == c + 0) b parts.1).1 in
            absurd (cc)
cells_tidy near base done below [] ys pre o r c (suc k) pen wrapped height torn whole at h prints ones within marked =
    let le = h.le in absurd (omega (arith, le))
cells_tidy near base done below (x ∷ xs) [] pre o r c k pen wrapped height torn whole at h prints ones within marked =
    let same = h.same in absurd (omega (arith, same))
cells_tidy near base done below (x ∷ xs) (y ∷ ys) pre o r c (suc k) pen wrapped height torn whole at h prints ones
    within
    marked =
    let same = h.same in
    let le = h.le in
    let e : c + suc k ≡ c + 1 + k = omega arith in
    later_column near (cells_written r (c + 1) pen wrapped k xs ys) torn base done below pre x
    (take k xs ++ cells_after_cut o (drop k ys)) wrapped pen
    (cells_tidy near base done below xs ys (pre ++ x ∷ []) o r (c + 1) k pen wrapped height torn whole
    (next_place base done below pre x r c height (length ys) at)
    (ready_next x xs ys pre o k wrapped (omega (arith, same)) h.tail (omega (arith, le)) h.behind h.new h.old h.sound)
    prints.1 ones.1 within
    (subst (λ (j : ℕ). agrees.Within near torn (mark r j (is_right_half (Rattle.vt_rows.specs.Cells.at (drop k ys) 0))))
    e marked))
cells_tidy near base done below (right_half ∷ xs) (y ∷ ys) pre o r c zero pen wrapped height torn whole at h prints ones
    within
    marked = absurd h.new
cells_tidy near base done below (blank a ∷ xs) (y ∷ ys) pre o r c zero pen wrapped height torn whole at h prints ones
    within
    marked =
    let front : Paired pre = subst Paired (append-nil pre) h.behind in
    let same = h.same in
    let n = blank_run a xs in
    let le = run_bound a xs in
    let next = next_place base done below pre (blank a) r c height (length ys) at in
    let stays = cells_written r (c + 1) pen wrapped 0 xs ys in
    let q = pen_in pen.form r c a in
    let now = wrapped_after_erasure wrapped (drop n ys) in
    let rest = cells_written r (c + 1) q now n xs ys in
    let c0 : c + 0 ≡ c = omega arith in
    let here : agrees.Within near torn (mark r c (is_right_half y)) =
    subst (λ (j : ℕ). agrees.Within near torn (mark r j (is_right_half y))) c0 marked in
    cond_both (same_cell (blank a) y) stays (ops_then (placed_op pen r c a (erase_run pen.form (suc n) (drop n ys)))
    rest)
    (λ (w : Scripted). Tidy near w torn base done below (pre ++ cells_after_cut o (y ∷ ys)) wrapped pen)
    (λ (t : same_cell (blank a) y ≡ true).
    same_tidy near stays torn base done below (blank a) y pre ys o wrapped pen t h.old refl h.sound (λ old sound.
    subst (λ (z : List CellValue). Sound wrapped (pre ++ blank a ∷ z) → Tidy near stays torn base done below
    (pre ++ blank a ∷ z) wrapped pen)
    (opened_paired o ys old)
    (λ still. later_column near stays torn base done below pre (blank a) (cells_after_cut o ys) wrapped pen
    (cells_tidy near base done below xs ys (pre ++ blank a ∷ []) o r (c + 1) 0 pen wrapped height torn whole next
    (ready_next (blank a) xs ys pre o 0 wrapped (omega (arith, same)) h.tail (omega arith)
    (paired_append pre (blank a ∷ []) front tt) h.new (paired_loose ys old) still)
    prints.1 ones.1 within
    (settled_mark near torn r c r (c + 1 + 0) (is_right_half y) (is_right_half (Rattle.vt_rows.specs.Cells.at ys 0))
    here
    (not_half (blank a) y t refl))))
    sound))
    (λ _.
    let taken : blanks a n ≡ take n xs = sym (run_blanks a xs) in
    let left = second_left pen.form a in
    let row = λ (z : List CellValue). pre ++ blank a ∷ (z ++ cells_after_cut left (drop n ys)) in
    let sound : Sound now (row (take n xs)) =
    subst (λ (z : List CellValue). Sound now (row z)) taken
    (sound_kept wrapped (row (blanks a n)) now (run_flagged pen.form pre o y ys wrapped n a h.sound)) in
    run_then near base done below pre o y ys wrapped r c n height a pen rest torn (is_right_half y) at
    (omega (arith, le, same)) front
    (loose_drop n ys (loose_step y ys h.old)) h.sound within here
    (subst (λ (z : List CellValue). Tidy near rest nowhere base done below (row z) now q) (sym taken)
    (later_column near rest nowhere base done below pre (blank a) (take n xs ++ cells_after_cut left (drop n ys)) now q
    (cells_tidy near base done below xs ys (pre ++ blank a ∷ []) left r (c + 1) n q now height nowhere
    (second_whole pen.form a) next
    (ready_next (blank a) xs ys pre left n now (omega (arith, same)) h.tail le
    (paired_append pre (blank a ∷ take n xs) front (subst Paired taken (paired_blanks n a)))
    (run_paired a xs h.new) (loose_drop n ys (loose_step y ys h.old)) sound) prints.1 ones.1
    (pen_within base done below pre r c height (suc (length ys)) c pen.form a false at (omega arith))
    (λ i j clear e. absurd (cc))))))
cells_tidy near base done below (glyph text false a ∷ xs) (y ∷ ys) pre o r c zero pen wrapped height torn whole at h
    prints ones
    within marked =
    let front : Paired pre = subst Paired (append-nil pre) h.behind in
    let x = glyph text false a in
    let same = h.same in
    let now = wrapped_after_glyph wrapped false (drop 1 ys) in
    let q = pen_past pen.form r (c + 1) a text in
    let next = next_place base done below pre x r c height (length ys) at in
    let stays = cells_written r (c + 1) pen wrapped 0 xs ys in
    let rest = cells_written r (c + 1) q now 0 xs ys in
    let c0 : c + 0 ≡ c = omega arith in
    let c1 : c + 1 ≡ c + 1 + 0 = omega arith in
    let here : agrees.Within near torn (mark r c (is_right_half y)) =
    subst (λ (j : ℕ). agrees.Within near torn (mark r j (is_right_half y))) c0 marked in
    cond_both (same_cell x y) stays (ops_then (placed_op pen r c a (Print text)) rest)
    (λ (w : Scripted). Tidy near w torn base done below (pre ++ cells_after_cut o (y ∷ ys)) wrapped pen)
    (λ (t : same_cell x y ≡ true).
    same_tidy near stays torn base done below x y pre ys o wrapped pen t h.old refl h.sound (λ old sound.
    subst (λ (z : List CellValue). Sound wrapped (pre ++ x ∷ z) → Tidy near stays torn base done below (pre ++ x ∷ z)
    wrapped pen)
    (opened_paired o ys old)
    (λ still. later_column near stays torn base done below pre x (cells_after_cut o ys) wrapped pen
    (cells_tidy near base done below xs ys (pre ++ x ∷ []) o r (c + 1) 0 pen wrapped height torn whole next
    (ready_next x xs ys pre o 0 wrapped (omega (arith, same)) h.tail (omega arith)
    (paired_append pre (x ∷ []) front tt) h.new (paired_loose ys old) still)
    prints.1 ones.1 within
    (settled_mark near torn r c r (c + 1 + 0) (is_right_half y) (is_right_half (Rattle.vt_rows.specs.Cells.at ys 0))
    here
    (not_half x y t refl))))
    sound))
    (λ _.
    glyph_then near base done below pre o y ys wrapped r c height (suc (length ys)) text false a pen rest torn
    (is_right_half y)
    whole at (omega arith) front
    h.sound prints.0 ones.0 within here
    (later_column near rest (mark r (c + 1) (is_right_half (Rattle.vt_rows.specs.Cells.at ys 0))) base done below pre x
    (cells_after_cut (orphan false a) ys) now q
    (cells_tidy near base done below xs ys (pre ++ x ∷ []) (orphan false a) r (c + 1) 0 q now height
    (mark r (c + 1) (is_right_half (Rattle.vt_rows.specs.Cells.at ys 0))) refl next
    (ready_next x xs ys pre (orphan false a) 0 now (omega (arith, same)) h.tail
    (omega arith) (paired_append pre (x ∷ []) front tt) h.new (loose_step y ys h.old)
    (sound_kept wrapped (with_glyph pre text false a ys) now
    (glyph_flag pre o y ys wrapped text false a h.sound))) prints.1 ones.1
    (pen_within base done below pre r c height (suc (length ys)) (c + 1) pen.form a (shifts pen.form text) at (omega
    arith))
    (subst (λ (j : ℕ). agrees.Within near (mark r (c + 1) (is_right_half (Rattle.vt_rows.specs.Cells.at ys 0)))
    (mark r j (is_right_half (Rattle.vt_rows.specs.Cells.at ys 0)))) c1 (λ i k clear e. e)))))
cells_tidy near base done below (glyph text true a ∷ []) (y ∷ ys) pre o r c zero pen wrapped height torn whole at h
    prints ones
    within marked =
    absurd h.new
cells_tidy near base done below (glyph text true a ∷ blank b ∷ xs) (y ∷ ys) pre o r c zero pen wrapped height torn whole
    at h
    prints ones within marked = absurd h.new
cells_tidy near base done below (glyph text true a ∷ glyph other wide b ∷ xs) (y ∷ ys) pre o r c zero pen wrapped height
    torn
    whole at h prints ones within marked = absurd h.new
cells_tidy near base done below (glyph text true a ∷ right_half ∷ xs) (y ∷ []) pre o r c zero pen wrapped height torn
    whole at h
    prints ones within marked = let same = h.same in absurd (omega (arith, same))
cells_tidy near base done below (glyph text true a ∷ right_half ∷ xs) (y ∷ y2 ∷ ys) pre o r c zero pen wrapped height
    torn
    whole at h prints ones within marked =
    let front : Paired pre = subst Paired (append-nil pre) h.behind in
    let x = glyph text true a in
    let xr = right_half ∷ xs in
    let same = h.same in
    let now = wrapped_after_glyph wrapped true ys in
    let q = pen_past pen.form r (c + 2) a text in
    let next = next_place base done below pre x r c height (suc (length ys)) at in
    let stays = cells_written r (c + 1) pen wrapped 1 xr (y2 ∷ ys) in
    let rest = cells_written r (c + 1) q now 1 xr (y2 ∷ ys) in
    let c0 : c + 0 ≡ c = omega arith in
    let c2 : c + 2 ≡ c + 1 + 1 = omega arith in
    let here : agrees.Within near torn (mark r c (is_right_half y)) =
    subst (λ (j : ℕ). agrees.Within near torn (mark r j (is_right_half y))) c0 marked in
    cond_both (same_cell x y) stays (ops_then (placed_op pen r c a (Print text)) rest)
    (λ (w : Scripted). Tidy near w torn base done below (pre ++ cells_after_cut o (y ∷ y2 ∷ ys)) wrapped pen)
    (λ (t : same_cell x y ≡ true).
    same_tidy near stays torn base done below x y pre (y2 ∷ ys) o wrapped pen t h.old refl h.sound (λ old sound.
    let pair = after_wide text a y2 ys old in
    subst (λ (z : List CellValue). Sound wrapped (pre ++ x ∷ z) → Tidy near stays torn base done below (pre ++ x ∷ z)
    wrapped pen)
    (ap (λ (z : List CellValue). right_half ∷ z) (opened_paired o ys pair.1)
    ∙ ap (λ (z : CellValue). z ∷ ys) (sym pair.0))
    (λ still. later_column near stays torn base done below pre x (right_half ∷ cells_after_cut o ys) wrapped pen
    (cells_tidy near base done below xr (y2 ∷ ys) (pre ++ x ∷ []) o r (c + 1) 1 pen wrapped height torn whole next
    (ready_next x xr (y2 ∷ ys) pre o 1 wrapped (omega (arith, same)) h.tail (omega arith)
    (paired_append pre (x ∷ right_half ∷ []) front tt) h.new (paired_loose ys pair.1) still)
    prints.1 ones.1 within
    (settled_mark near torn r c r (c + 1 + 1) (is_right_half y) (is_right_half (Rattle.vt_rows.specs.Cells.at ys 0))
    here
    (not_half x y t refl))))
    sound))
    (λ _.
    glyph_then near base done below pre o y (y2 ∷ ys) wrapped r c height (suc (suc (length ys))) text true a pen rest
    torn
    (is_right_half y) whole at
    (omega arith) front h.sound prints.0 ones.0 within here
    (later_column near rest (mark r (c + 2) (is_right_half (Rattle.vt_rows.specs.Cells.at ys 0))) base done below pre x
    (right_half ∷ cells_after_cut (orphan true a) ys) now q
    (cells_tidy near base done below xr (y2 ∷ ys) (pre ++ x ∷ []) (orphan true a) r (c + 1) 1 q now height
    (mark r (c + 2) (is_right_half (Rattle.vt_rows.specs.Cells.at ys 0))) refl next
    (ready_next x xr (y2 ∷ ys) pre (orphan true a) 1 now (omega (arith, same)) h.tail (omega arith)
    (paired_append pre (x ∷ right_half ∷ []) front tt) h.new (loose_step y2 ys (loose_step y (y2 ∷ ys) h.old))
    (sound_kept wrapped (with_glyph pre text true a (y2 ∷ ys)) now
    (glyph_flag pre o y (y2 ∷ ys) wrapped text true a h.sound)))
    prints.1 ones.1
    (pen_within base done below pre r c height (suc (suc (length ys))) (c + 2) pen.form a (shifts pen.form text) at
    (omega arith))
    (subst (λ (j : ℕ). agrees.Within near (mark r (c + 2) (is_right_half (Rattle.vt_rows.specs.Cells.at ys 0)))
    (mark r j (is_right_half (Rattle.vt_rows.specs.Cells.at ys 0)))) c2 (λ i k clear e. e)))))
