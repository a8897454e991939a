-- After the portable difference to a picture whose cursor is after the last column of a row that ends with a glyph, a
-- wrap is pending on all terminals.
use Rattle.std.proofs.Common.{◌≡◌, ℕ, zero, suc, ◌+◌, ◌-◌, ◌&&◌, ◌||◌, ◌==◌, nat_lt, not, Bool, true, false, List, []}
use Rattle.std.proofs.Common.{◌∷◌, ◌++◌, length, drop, replicate, refl, sym, ap, subst, ◌∙◌, Option, Some, None, arith}
use Rattle.std.specs.Prelude.{if◌then◌else◌, chars}
use Rattle.std.proofs.lemmas.Bool.{and_parts, cond_both, ltb-true}
use Rattle.vt_cells.specs.Attrs.{Attrs, default_attrs, same_attrs, changed_attrs, same_bool}
use Rattle.vt_cells.specs.Cell.{CellValue, attrs_of, blank, glyph, right_half, same_cell, text_of}
use Rattle.vt_cells.specs.Glyph.{glyph_columns}
use Rattle.vt_cells.specs.Op.{Op, ChangeAttrs, ClearAttrs, EraseChars, Hide, LineFeed, MoveRight, MoveTo, NextRow}
use Rattle.vt_cells.specs.Op.{Print, cursor_move_ops}
use Rattle.vt_rows.specs.Cells.{at, ends_blank}
use Rattle.vt_rows.specs.Row.{RowValue}
use Rattle.vt_grid.specs.Canvas.{Canvas, canvas_after_op, drawn_text}
use Rattle.vt_grid.specs.Moves.{cursor_saved}
use Rattle.vt_grid.specs.Page.{cursor_row, row_or}
use Rattle.vt_grid.specs.Printing.{page_after_print}
use Rattle.vt_redraw.specs.Doubts.{Doubts, NotPending, Pending, Unsure, Wrap, doubts_of}
use Rattle.vt_redraw.specs.Picture.{Picture}
use Rattle.vt_redraw.specs.Redraw.{cursor_visibility_ops, cursor_written, difference_in, link_of, nearest, over_blank}
use Rattle.vt_redraw.specs.Redraw.{pen_of, pending_at, row_written, rows_below, rows_written, script_in, strays}
use Rattle.vt_redraw.specs.Redraw.{under_last}
use Rattle.vt_redraw.specs.Script.{Linked, Scripted, after_last_glyph, attr_ops_in, back_op, blank_run, break_ops}
use Rattle.vt_redraw.specs.Script.{cells_written, change_ops, erase_run, erased_count, first_written, is_at}
use Rattle.vt_redraw.specs.Script.{last_column, last_glyph, move_ops, no_link, no_ops, ops_then, ops_then_link}
use Rattle.vt_redraw.specs.Script.{pen_after, pen_in, pen_past, placed_op, resets, row_break, row_link, starts_other}
use Rattle.vt_redraw.specs.Script.{wrap_ops, wrapped_after_erasure, wrapped_after_glyph}
use Rattle.vt_redraw.specs.Uses.{Graphic, IsPortableOp, canvas_after_print, doubts_after, doubts_after_op}
use Rattle.vt_redraw.specs.Uses.{doubts_after_text}
use Rattle.vt_redraw.specs.declared.form.Form.{Form}
use Rattle.vt_redraw.specs.declared.form.Form.TheVariants.{Fixed, Portable}
use Rattle.vt_redraw.specs.declared.pen.Pen.{Pen}
use Rattle.vt_redraw.proofs.Redrawing.{showing}
use Rattle.vt_redraw.proofs.Touched.{some_same}
use Rattle.vt_terminals.proofs.Ops.{change_wrap}

-- ==== Operations other than LF and DECRC, after which terminals differ in whether a wrap is pending

abbrev pub is_sure : Op → Bool
is_sure Op.LineFeed = false
is_sure Op.RestoreCursor = false
is_sure _ = true

abbrev pub AllSure : List Op → Type 0
AllSure [] = Unit {0}
AllSure (op ∷ ops) = (is_sure op ≡ true) × AllSure ops

sure_append : (xs ys : List Op) → AllSure xs → AllSure ys → AllSure (xs ++ ys)
sure_append [] ys p q = q
sure_append (x ∷ xs) ys p q = (p.0, sure_append xs ys p.1 q)

-- Terminals differ in a pending wrap only in a row that ends with a blank.
abbrev pub Sure : Doubts → Canvas → Type 0
Sure doubts canvas = doubts.wrap ≡ Unsure → ends_blank (cursor_row canvas.page).cells ≡ true

none_unsure : NotPending ≡ Unsure → ⊥
none_unsure e = cc

pending_unsure : Pending ≡ Unsure → ⊥
pending_unsure e = cc

text_sure : (c : ℕ) (cs : List ℕ) (doubts : Doubts) (canvas : Canvas) →
    (doubts_after_text (c ∷ cs) doubts canvas).wrap ≡ Unsure → ⊥
text_sure c [] doubts canvas =
    cond_both (nat_lt (page_after_print c canvas.attrs canvas.page).column canvas.page.width) NotPending Pending
    (λ (w : Wrap). w ≡ Unsure → ⊥) (λ _. none_unsure) (λ _. pending_unsure)
text_sure c (d ∷ cs) doubts canvas = text_sure d cs (doubts_after (Graphic c) doubts canvas)
    (canvas_after_print c canvas)

print_sure : (cs : List ℕ) (doubts : Doubts) (canvas next : Canvas) → drawn_text cs canvas ≡ Some next →
    Sure doubts canvas → Sure (doubts_after_text cs doubts canvas) next
print_sure [] doubts canvas next e sure = subst (λ (k : Canvas). Sure doubts k) (some_same canvas next e) sure
print_sure (c ∷ cs) doubts canvas next e sure = λ f. absurd (text_sure c cs doubts canvas f)

pub op_sure : (op : Op) (doubts : Doubts) (canvas next : Canvas) → is_sure op ≡ true → IsPortableOp op doubts canvas →
    canvas_after_op op canvas ≡ Some next → Sure doubts canvas → Sure (doubts_after_op op doubts canvas) next
op_sure (Op.Hide hidden) doubts canvas next h portable e sure =
    subst (λ (k : Canvas). Sure doubts k) (some_same (record canvas { hidden = hidden }) next e) sure
op_sure Op.ClearAttrs doubts canvas next h portable e sure =
    subst (λ (k : Canvas). Sure doubts k) (some_same (record canvas { attrs = default_attrs }) next e) sure
op_sure (Op.MoveTo row col) doubts canvas next h portable e sure = λ f. absurd (none_unsure f)
op_sure (Op.MoveRight zero) doubts canvas next h portable e sure =
    subst (λ (k : Canvas). Sure doubts k) (some_same canvas next e) sure
op_sure (Op.MoveRight (suc n)) doubts canvas next h portable e sure = λ f. absurd (none_unsure f)
op_sure Op.NextRow doubts canvas next h portable e sure = λ f. absurd (none_unsure f)
op_sure Op.LineFeed doubts canvas next h portable e sure = absurd (cc)
op_sure Op.Backspace doubts canvas next h portable e sure = λ f. absurd (none_unsure f)
op_sure Op.EraseBelow doubts canvas next h portable e sure = λ f. absurd (none_unsure (sym portable.0.wrap ∙ f))
op_sure Op.EraseRest doubts canvas next h portable e sure = λ f. absurd (none_unsure (sym portable.0.wrap ∙ f))
op_sure (Op.EraseChars zero) doubts canvas next h portable e sure =
    subst (λ (k : Canvas). Sure doubts k) (some_same canvas next e) sure
op_sure (Op.EraseChars (suc n)) doubts canvas next h portable e sure =
    λ f. absurd (none_unsure (sym portable.0.wrap ∙ f))
op_sure Op.SaveCursor doubts canvas next h portable e sure =
    subst (λ (k : Canvas). Sure doubts k)
    (some_same (record canvas { page = cursor_saved canvas.page; saved_attrs = canvas.attrs }) next e) sure
op_sure Op.RestoreCursor doubts canvas next h portable e sure = absurd (cc)
op_sure (Op.ChangeAttrs was new) doubts canvas next h portable e sure =
    λ f. subst (λ (k : Canvas). Sure doubts k)
    (some_same (record canvas { attrs = changed_attrs was new canvas.attrs }) next e) sure
    (sym (change_wrap was new doubts canvas) ∙ f)
op_sure (Op.Print text) doubts canvas next h portable e sure = print_sure (chars text) doubts canvas next e sure

-- At the beginning of a difference.
pub start_sure : (prev : Picture) → Sure (doubts_of prev) (showing prev)
unfolding doubts_of
start_sure prev =
    let ends = ends_blank (row_or prev.width prev.rows prev.row).cells in
    let P = λ (w : Wrap). w ≡ Unsure → ends ≡ true in
    cond_both (nat_lt prev.column prev.width) NotPending (if ends then Unsure else Pending) P
    (λ _ f. absurd (none_unsure f))
    (λ _. cond_both ends Unsure Pending P (λ t _. t) (λ _ f. absurd (pending_unsure f)))

-- ==== The operations of a script

going_sure : (pen : Pen) (r c : ℕ) → AllSure (move_ops pen r c)
unfolding move_ops
going_sure pen r c =
    cond_both pen.is_shifted (MoveTo r c ∷ []) (cursor_move_ops pen.row pen.col r c) AllSure (λ _. (refl, tt))
    (λ _. cond_both ((r == pen.row + 1) && (c == 0)) (NextRow ∷ []) _ AllSure (λ _. (refl, tt))
    (λ _. cond_both ((r == pen.row) && nat_lt pen.col c) (MoveRight (c - pen.col) ∷ []) _ AllSure (λ _. (refl, tt))
    (λ _. cond_both ((r == pen.row) && (c == pen.col)) [] (MoveTo r c ∷ []) AllSure (λ _. tt) (λ _. (refl, tt)))))

changing_sure : (form : Form) (was new : Attrs) → AllSure (attr_ops_in form was new)
unfolding attr_ops_in
changing_sure form was new =
    cond_both (same_attrs was new) [] (change_ops form was new) AllSure (λ _. tt)
    (λ _. cond_both (resets form was new) (ClearAttrs ∷ ChangeAttrs default_attrs new ∷ []) (ChangeAttrs was new ∷ [])
    AllSure (λ _. (refl, (refl, tt))) (λ _. (refl, tt)))

back_sure : (form : Form) (r c : ℕ) → is_sure (back_op form r c) ≡ true
back_sure Fixed r c = refl
back_sure Portable r c = refl

erase_sure : (form : Form) (n : ℕ) (zs : List CellValue) → is_sure (erase_run form n zs) ≡ true
erase_sure form n [] = refl
erase_sure form n (z ∷ zs) = refl

doing_sure : (pen : Pen) (r c : ℕ) (attrs : Attrs) (op : Op) → is_sure op ≡ true → AllSure (placed_op pen r c attrs op)
doing_sure pen r c attrs op h =
    sure_append (move_ops pen r c) (attr_ops_in pen.form pen.attrs attrs ++ op ∷ []) (going_sure pen r c)
    (sure_append (attr_ops_in pen.form pen.attrs attrs) (op ∷ []) (changing_sure pen.form pen.attrs attrs) (h, tt))

-- ---- cells

abbrev Written : Scripted → Type 0
Written w = AllSure w.ops

cells_sure : (r c : ℕ) (pen : Pen) (wrapped : Bool) (k : ℕ) (xs ys : List CellValue) →
    AllSure (cells_written r c pen wrapped k xs ys).ops
unfolding cells_written
cells_sure r c pen wrapped k [] ys = tt
cells_sure r c pen wrapped k (x ∷ xs) [] = tt
cells_sure r c pen wrapped (suc k) (x ∷ xs) (y ∷ ys) = cells_sure r (c + 1) pen wrapped k xs ys
cells_sure r c pen wrapped zero (right_half ∷ xs) (y ∷ ys) = cells_sure r (c + 1) pen wrapped zero xs ys
cells_sure r c pen wrapped zero (blank a ∷ xs) (y ∷ ys) =
    let n = blank_run a xs in
    let op = erase_run pen.form (suc n) (drop n ys) in
    let next = pen_in pen.form r c a in
    let now = wrapped_after_erasure wrapped (drop n ys) in
    cond_both (same_cell (blank a) y) (cells_written r (c + 1) pen wrapped zero xs ys)
    (ops_then (placed_op pen r c a op) (cells_written r (c + 1) next now n xs ys)) Written
    (λ _. cells_sure r (c + 1) pen wrapped zero xs ys)
    (λ _. sure_append (placed_op pen r c a op) (cells_written r (c + 1) next now n xs ys).ops
    (doing_sure pen r c a op (erase_sure pen.form (suc n) (drop n ys))) (cells_sure r (c + 1) next now n xs ys))
cells_sure r c pen wrapped zero (glyph text wide a ∷ xs) (y ∷ ys) =
    let k = glyph_columns wide - 1 in
    let next = pen_past pen.form r (c + glyph_columns wide) a text in
    let now = wrapped_after_glyph wrapped wide (drop 1 ys) in
    cond_both (same_cell (glyph text wide a) y) (cells_written r (c + 1) pen wrapped k xs ys)
    (ops_then (placed_op pen r c a (Print text)) (cells_written r (c + 1) next now k xs ys)) Written
    (λ _. cells_sure r (c + 1) pen wrapped k xs ys)
    (λ _. sure_append (placed_op pen r c a (Print text)) (cells_written r (c + 1) next now k xs ys).ops
    (doing_sure pen r c a (Print text) refl) (cells_sure r (c + 1) next now k xs ys))

-- ---- links and breaks

after_sure : (r : ℕ) (pen : Pen) (cells : List CellValue) → AllSure (after_last_glyph r pen cells).ops
after_sure r pen cells =
    let print = Print (text_of (last_glyph cells)) in
    cond_both (is_at pen r (length cells)) (no_ops pen true)
    (record {
      ops = placed_op pen r (last_column cells) (attrs_of (last_glyph cells)) print;
      pen = pen_after pen.form r cells;
      wrapped = true;
    }) Written (λ _. tt) (λ _. doing_sure pen r (last_column cells) (attrs_of (last_glyph cells)) print refl)

first_sure : (r : ℕ) (pen : Pen) (wrapped : Bool) (xs ys : List CellValue) →
    AllSure (first_written r pen wrapped xs ys).ops
first_sure r pen wrapped [] ys = tt
first_sure r pen wrapped (x ∷ xs) [] = tt
first_sure r pen wrapped (right_half ∷ xs) (y ∷ ys) = tt
first_sure r pen wrapped (blank a ∷ xs) (y ∷ ys) =
    sure_append (attr_ops_in pen.form pen.attrs a) (Print (0x20 ∷ []) ∷ back_op pen.form r 0 ∷ EraseChars 1 ∷ [])
    (changing_sure pen.form pen.attrs a) (refl, (back_sure pen.form r 0, (refl, tt)))
first_sure r pen wrapped (glyph text wide a ∷ xs) (y ∷ ys) =
    sure_append (attr_ops_in pen.form pen.attrs a) (wrap_ops r pen ++ Print text ∷ [])
    (changing_sure pen.form pen.attrs a)
    (sure_append (wrap_ops r pen) (Print text ∷ [])
    (cond_both pen.is_shifted (Print (0x20 ∷ []) ∷ MoveTo r 0 ∷ []) [] AllSure (λ _. (refl, (refl, tt))) (λ _. tt))
    (refl, tt))

break_sure : (r : ℕ) (pen : Pen) (wrapped wanted : Bool) (cells : List CellValue) →
    AllSure (row_break r pen wrapped wanted cells).ops
unfolding row_break
break_sure r pen wrapped wanted cells =
    let print = Print (text_of (last_glyph cells)) ∷ [] in
    let attrs = attr_ops_in pen.form pen.attrs (attrs_of (last_glyph cells)) in
    let erase = EraseChars (erased_count pen.form (length cells - last_column cells)) in
    cond_both (wrapped && not wanted) (break_ops r pen cells) (no_ops pen wrapped) Written
    (λ _. sure_append (move_ops pen r (last_column cells)) (erase ∷ (attrs ++ print))
    (going_sure pen r (last_column cells))
    (refl, sure_append attrs print (changing_sure pen.form pen.attrs (attrs_of (last_glyph cells))) (refl, tt)))
    (λ _. tt)

row_sure : (r k : ℕ) (pen : Pen) (wrapped : Bool) (x : RowValue) (ys : List CellValue) →
    AllSure (row_written r k pen wrapped x ys).ops
unfolding row_written
row_sure r k pen wrapped x ys =
    let w = cells_written r 0 pen wrapped k x.cells ys in
    sure_append w.ops (row_break r w.pen w.wrapped x.wrapped x.cells).ops (cells_sure r 0 pen wrapped k x.cells ys)
    (break_sure r w.pen w.wrapped x.wrapped x.cells)

link_sure : (r : ℕ) (pen : Pen) (above : RowValue) (wrapped_above : Bool) (x y : RowValue) →
    AllSure (link_of r pen above wrapped_above x y).ops
unfolding row_link
link_sure r pen above wrapped_above x y =
    let w = after_last_glyph r pen above.cells in
    let P = λ (j : Linked). AllSure j.ops in
    cond_both above.wrapped (row_link r pen above.cells wrapped_above y.wrapped x.cells y.cells)
    (no_link pen y.wrapped) P
    (λ _. cond_both (not wrapped_above || (is_at pen r (length above.cells) && starts_other x.cells y.cells))
    (ops_then_link w.ops (first_written (r + 1) w.pen y.wrapped x.cells y.cells)) (no_link pen y.wrapped) P
    (λ _. sure_append w.ops (first_written (r + 1) w.pen y.wrapped x.cells y.cells).ops (after_sure r pen above.cells)
    (first_sure (r + 1) w.pen y.wrapped x.cells y.cells)) (λ _. tt))
    (λ _. tt)

below_sure : (r : ℕ) (pen : Pen) (above : RowValue) (wrapped_above : Bool) (xs ys : List RowValue) →
    AllSure (rows_below r pen above wrapped_above xs ys).ops
unfolding rows_below
below_sure r pen above wrapped_above [] ys = tt
below_sure r pen above wrapped_above (x ∷ xs) [] = tt
below_sure r pen above wrapped_above (x ∷ xs) (y ∷ ys) =
    let link = link_of r pen above wrapped_above x y in
    let row = row_written (r + 1) link.settled link.pen link.wrapped x y.cells in
    sure_append (link.ops ++ row.ops) (rows_below (r + 1) row.pen x row.wrapped xs ys).ops
    (sure_append link.ops row.ops (link_sure r pen above wrapped_above x y)
    (row_sure (r + 1) link.settled link.pen link.wrapped x y.cells))
    (below_sure (r + 1) row.pen x row.wrapped xs ys)

rows_sure : (pen : Pen) (xs ys : List RowValue) → AllSure (rows_written pen xs ys).ops
unfolding rows_written
rows_sure pen [] ys = tt
rows_sure pen (x ∷ xs) [] = tt
rows_sure pen (x ∷ xs) (y ∷ ys) =
    let row = row_written 0 0 pen y.wrapped x y.cells in
    sure_append row.ops (rows_below 0 row.pen x row.wrapped xs ys).ops (row_sure 0 0 pen y.wrapped x y.cells)
    (below_sure 0 row.pen x row.wrapped xs ys)

-- ---- the cursor at the end of a row that ends with a glyph

nearest_here : (width : ℕ) (rows : List RowValue) (r : ℕ) → ends_blank (row_or width rows r).cells ≡ false →
    nearest width rows r ≡ Some r
nearest_here width rows zero e = ap (λ (b : Bool). if b then None else Some 0) e
nearest_here width rows (suc n) e = ap (λ (b : Bool). if b then nearest width rows n else Some (suc n)) e

under_sure : (pen : Pen) (r : ℕ) (cells : List CellValue) → AllSure (under_last pen r r cells)
unfolding under_last
under_sure pen r cells =
    let w = after_last_glyph r pen cells in
    let none : r - r ≡ 0 = omega arith in
    sure_append w.ops (attr_ops_in pen.form w.pen.attrs pen.attrs ++ replicate (r - r) LineFeed)
    (after_sure r pen cells)
    (sure_append (attr_ops_in pen.form w.pen.attrs pen.attrs) (replicate (r - r) LineFeed)
    (changing_sure pen.form w.pen.attrs pen.attrs)
    (subst (λ (n : ℕ). AllSure (replicate n LineFeed)) (sym none) tt))

pending_sure : (pen : Pen) (width : ℕ) (rows : List RowValue) (r : ℕ) → AllSure (pending_at (Some r) pen width rows r)
pending_sure pen width rows r =
    let cells = (row_or width rows r).cells in
    let shifted = strays pen.form (after_last_glyph r pen cells).pen.is_shifted in
    cond_both (shifted && nat_lt r r)
    (over_blank pen r width (attrs_of (at (row_or width rows r).cells (width - 1)))) (under_last pen r r cells) AllSure
    (λ (t : (shifted && nat_lt r r) ≡ true). let less = ltb-true r r (and_parts shifted (nat_lt r r) t).1 in
    absurd (omega (arith, less)))
    (λ _. under_sure pen r cells)

cursor_sure : (pen : Pen) (width : ℕ) (rows : List RowValue) (r c : ℕ) →
    ends_blank (row_or width rows r).cells ≡ false → AllSure (cursor_written pen width rows r c)
unfolding cursor_written
cursor_sure pen width rows r c full =
    cond_both (nat_lt c width) (move_ops pen r c)
    (if is_at pen r c then [] else pending_at (nearest width rows r) pen width rows r) AllSure
    (λ _. going_sure pen r c)
    (λ _. cond_both (is_at pen r c) [] (pending_at (nearest width rows r) pen width rows r) AllSure (λ _. tt)
    (λ _. subst (λ (found : Option ℕ). AllSure (pending_at found pen width rows r))
    (sym (nearest_here width rows r full)) (pending_sure pen width rows r)))

pub difference_sure : (self prev : Picture) → ends_blank (row_or self.width self.rows self.row).cells ≡ false →
    AllSure (difference_in Portable self prev)
unfolding difference_in script_in
difference_sure self prev full =
    let w = rows_written (pen_of Portable prev) self.rows prev.rows in
    let cursor = cursor_written w.pen self.width self.rows self.row self.column in
    let attrs = attr_ops_in Portable w.pen.attrs self.attrs in
    sure_append (cursor_visibility_ops self prev) (w.ops ++ (cursor ++ attrs))
    (cond_both (same_bool self.hidden prev.hidden) [] (Hide self.hidden ∷ []) AllSure (λ _. tt) (λ _. (refl, tt)))
    (sure_append w.ops (cursor ++ attrs) (rows_sure (pen_of Portable prev) self.rows prev.rows)
    (sure_append cursor attrs (cursor_sure w.pen self.width self.rows self.row self.column full)
    (changing_sure Portable w.pen.attrs self.attrs)))
