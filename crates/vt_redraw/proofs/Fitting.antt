-- The operations of cells and rows have only numbers and text that are read back unchanged.
use Rattle.std.proofs.Common.{◌≡◌, ℕ, zero, suc, ◌+◌, ◌-◌, ◌&&◌, ◌||◌, Bool, true, not, List, [], ◌∷◌, length, drop}
use Rattle.std.proofs.Common.{refl, ◌∙◌, ◌≢◌, Some, sym, ap, ◌<◌, ◌≤◌, ◌^◌, ◌==◌, nat_lt, false, ◌++◌, replicate, arith}
use Rattle.std.proofs.Common.{subst}
use Rattle.std.proofs.lemmas.Bool.{cond_both}
use Rattle.std.specs.List.{AllByRecursion}
use Rattle.std.proofs.lemmas.List.{length-drop}
use Rattle.unicode_width.proofs.Computing.{unicode_width}
use Rattle.vt_cells.specs.Cell.{CellValue, blank, glyph, right_half, same_cell, attrs_of, text_of, IsCell}
use Rattle.vt_cells.specs.Cell.{is_right_half}
use Rattle.vt_cells.specs.Glyph.{glyph_columns, columns_of, IsMark, IsGlyphText}
use Rattle.vt_cells.specs.Op.{Print, Op, MoveTo, MoveRight, NextRow, LineFeed, EraseChars, ClearAttrs, ChangeAttrs}
use Rattle.vt_cells.specs.Op.{FitsAttrs, cursor_move_ops}
use Rattle.vt_cells.specs.Attrs.{default_attrs, same_attrs, Attrs}
use Rattle.vt_cells.proofs.Glyphs.{IsGlyphText-spelled, IsGlyphText-space}
use Rattle.vt_rows.specs.Row.{RowValue}
use Rattle.vt_rows.specs.Cells.{at}
use Rattle.vt_redraw.specs.Script.{Linked, Scripted, blank_run, cells_written, erase_run, ops_then, pen_in, pen_past}
use Rattle.vt_redraw.specs.Script.{placed_op, after_last_glyph, break_ops, first_written, is_at, last_column}
use Rattle.vt_redraw.specs.Script.{last_glyph, no_link, no_ops, ops_then_link, pen_after, row_break, row_link}
use Rattle.vt_redraw.specs.Script.{starts_other, wrapped_after_erasure, wrapped_after_glyph, move_ops, attr_ops_in}
use Rattle.vt_redraw.specs.Script.{resets, back_op, change_ops, erased_count, wrap_ops}
use Rattle.vt_redraw.specs.Redraw.{link_of, row_written, rows_below, rows_written}
use Rattle.vt_redraw.specs.declared.pen.Pen.{Pen}
use Rattle.vt_redraw.specs.Fits.{IsDrawn, IsDrawnText, Fits}
use Rattle.vt_redraw.specs.declared.form.Form.{Form}
use Rattle.vt_redraw.specs.declared.form.Form.TheVariants.{Fixed, Portable}
use Rattle.vt_redraw.proofs.Halves.{run_bound}

-- ==== The writers keep the form of the pen.

pub cells_form : (r c : ℕ) (pen : Pen) (wrapped : Bool) (k : ℕ) (xs ys : List CellValue) →
    (cells_written r c pen wrapped k xs ys).pen.form ≡ pen.form
unfolding cells_written
cells_form r c pen wrapped k [] ys = refl
cells_form r c pen wrapped k (x ∷ xs) [] = refl
cells_form r c pen wrapped (suc k) (x ∷ xs) (y ∷ ys) = cells_form r (c + 1) pen wrapped k xs ys
cells_form r c pen wrapped zero (right_half ∷ xs) (y ∷ ys) = cells_form r (c + 1) pen wrapped zero xs ys
cells_form r c pen wrapped zero (blank a ∷ xs) (y ∷ ys) =
    let n = blank_run a xs in
    let next = pen_in pen.form r c a in
    let now = wrapped_after_erasure wrapped (drop n ys) in
    cond_both (same_cell (blank a) y) (cells_written r (c + 1) pen wrapped zero xs ys)
    (ops_then (placed_op pen r c a (erase_run pen.form (suc n) (drop n ys))) (cells_written r (c + 1) next now n xs ys))
    (λ (w : Scripted). w.pen.form ≡ pen.form)
    (λ _. cells_form r (c + 1) pen wrapped zero xs ys) (λ _. cells_form r (c + 1) next now n xs ys)
cells_form r c pen wrapped zero (glyph text wide a ∷ xs) (y ∷ ys) =
    let k = glyph_columns wide - 1 in
    let next = pen_past pen.form r (c + glyph_columns wide) a text in
    let now = wrapped_after_glyph wrapped wide (drop 1 ys) in
    cond_both (same_cell (glyph text wide a) y) (cells_written r (c + 1) pen wrapped k xs ys)
    (ops_then (placed_op pen r c a (Print text)) (cells_written r (c + 1) next now k xs ys))
    (λ (w : Scripted). w.pen.form ≡ pen.form)
    (λ _. cells_form r (c + 1) pen wrapped k xs ys) (λ _. cells_form r (c + 1) next now k xs ys)

pub after_form : (r : ℕ) (pen : Pen) (cells : List CellValue) → (after_last_glyph r pen cells).pen.form ≡ pen.form
after_form r pen cells =
    cond_both (is_at pen r (length cells)) (no_ops pen true)
    (record {
      ops = placed_op pen r (last_column cells) (attrs_of (last_glyph cells)) (Print (text_of (last_glyph cells)));
      pen = pen_after pen.form r cells;
      wrapped = true;
    }) (λ (w : Scripted). w.pen.form ≡ pen.form) (λ _. refl) (λ _. refl)

pub first_form : (r : ℕ) (pen : Pen) (wrapped : Bool) (xs ys : List CellValue) →
    (first_written r pen wrapped xs ys).pen.form ≡ pen.form
first_form r pen wrapped [] ys = refl
first_form r pen wrapped (x ∷ xs) [] = refl
first_form r pen wrapped (right_half ∷ xs) (y ∷ ys) = refl
first_form r pen wrapped (blank a ∷ xs) (y ∷ ys) = refl
first_form r pen wrapped (glyph text wide a ∷ xs) (y ∷ ys) = refl

pub break_form : (r : ℕ) (pen : Pen) (wrapped wanted : Bool) (cells : List CellValue) →
    (row_break r pen wrapped wanted cells).pen.form ≡ pen.form
unfolding row_break
break_form r pen wrapped wanted cells =
    cond_both (wrapped && not wanted) (break_ops r pen cells) (no_ops pen wrapped)
    (λ (w : Scripted). w.pen.form ≡ pen.form) (λ _. refl) (λ _. refl)

pub row_form : (r k : ℕ) (pen : Pen) (wrapped : Bool) (x : RowValue) (ys : List CellValue) →
    (row_written r k pen wrapped x ys).pen.form ≡ pen.form
unfolding row_written
row_form r k pen wrapped x ys =
    let w = cells_written r 0 pen wrapped k x.cells ys in
    break_form r w.pen w.wrapped x.wrapped x.cells ∙ cells_form r 0 pen wrapped k x.cells ys

pub link_form : (r : ℕ) (pen : Pen) (above : RowValue) (wrapped_above : Bool) (x y : RowValue) →
    (link_of r pen above wrapped_above x y).pen.form ≡ pen.form
unfolding row_link
link_form r pen above wrapped_above x y =
    let w = after_last_glyph r pen above.cells in
    let P = λ (j : Linked). j.pen.form ≡ pen.form in
    cond_both above.wrapped (row_link r pen above.cells wrapped_above y.wrapped x.cells y.cells)
    (no_link pen y.wrapped) P
    (λ _. cond_both (not wrapped_above || (is_at pen r (length above.cells) && starts_other x.cells y.cells))
    (ops_then_link w.ops (first_written (r + 1) w.pen y.wrapped x.cells y.cells)) (no_link pen y.wrapped) P
    (λ _. first_form (r + 1) w.pen y.wrapped x.cells y.cells ∙ after_form r pen above.cells) (λ _. refl))
    (λ _. refl)

below_form : (r : ℕ) (pen : Pen) (above : RowValue) (wrapped_above : Bool) (xs ys : List RowValue) →
    (rows_below r pen above wrapped_above xs ys).pen.form ≡ pen.form
unfolding rows_below
below_form r pen above wrapped_above [] ys = refl
below_form r pen above wrapped_above (x ∷ xs) [] = refl
below_form r pen above wrapped_above (x ∷ xs) (y ∷ ys) =
    let link = link_of r pen above wrapped_above x y in
    let row = row_written (r + 1) link.settled link.pen link.wrapped x y.cells in
    below_form (r + 1) row.pen x row.wrapped xs ys
    ∙ (row_form (r + 1) link.settled link.pen link.wrapped x y.cells ∙ link_form r pen above wrapped_above x y)

pub rows_form : (pen : Pen) (xs ys : List RowValue) → (rows_written pen xs ys).pen.form ≡ pen.form
unfolding rows_written
rows_form pen [] ys = refl
rows_form pen (x ∷ xs) [] = refl
rows_form pen (x ∷ xs) (y ∷ ys) =
    let row = row_written 0 0 pen y.wrapped x y.cells in
    below_form 0 row.pen x row.wrapped xs ys ∙ row_form 0 0 pen y.wrapped x y.cells

-- ==== The text of glyphs is read back unchanged.

-- U+FFFD takes a column, so it is no combining character.
replacement_columns : columns_of 0xFFFD ≡ Some 1
unfolding columns_of unicode_width
replacement_columns = refl

-- ---- texts of glyphs

mark_reported : (mark : ℕ) → columns_of mark ≡ Some 0 → mark ≢ 0xFFFD
mark_reported mark columns e =
    let same = ap columns_of e in
    let one = replacement_columns in
    cc

printable_marks : (marks : List ℕ) → AllByRecursion IsMark marks → AllByRecursion IsDrawn marks
printable_marks [] h = tt
printable_marks (mark ∷ marks) h =
    let columns = h.0.1 in
    (record { scalar = h.0.0; shown = λ none. cc; reported = mark_reported mark columns }, printable_marks marks h.1)

pub printable_text : (text : List ℕ) (wide : Bool) → IsGlyphText text wide → IsDrawnText text
printable_text text wide g = record {
  characters = g.first ∷ g.marks;
  spelled = sym (IsGlyphText-spelled text wide g);
  printable =
      (record { scalar = g.scalar; shown = g.shown; reported = g.reported }, printable_marks g.marks g.are_marks);
}

-- ==== Each operation of a redraw or a difference has only numbers and text that are read back unchanged.

-- ---- lists of operations

abbrev pub AllFit : List Op → Type 0
AllFit ops = AllByRecursion Fits ops

pub fits_append : (xs ys : List Op) → AllFit xs → AllFit ys → AllFit (xs ++ ys)
fits_append [] ys p q = q
fits_append (x ∷ xs) ys p q = (p.0, fits_append xs ys p.1 q)

pub going_fits : (pen : Pen) (r c : ℕ) → r < 65535 → c < 65535 → AllFit (move_ops pen r c)
unfolding move_ops
going_fits pen r c h l =
    cond_both pen.is_shifted (MoveTo r c ∷ []) (cursor_move_ops pen.row pen.col r c) AllFit (λ _. ((h, l), tt))
    (λ _. cond_both ((r == pen.row + 1) && (c == 0)) (NextRow ∷ []) _ AllFit (λ _. (tt, tt))
    (λ _. cond_both ((r == pen.row) && nat_lt pen.col c)
    (MoveRight (c - pen.col) ∷ []) _ AllFit (λ _. (omega arith, tt))
    (λ _. cond_both ((r == pen.row) && (c == pen.col)) [] (MoveTo r c ∷ []) AllFit (λ _. tt) (λ _. ((h, l), tt)))))

pub changing_fits : (form : Form) (was new : Attrs) → FitsAttrs was → FitsAttrs new → AllFit (attr_ops_in form was new)
unfolding attr_ops_in
changing_fits form was new h l =
    cond_both (same_attrs was new) [] (change_ops form was new) AllFit (λ _. tt)
    (λ _. cond_both (resets form was new) (ClearAttrs ∷ ChangeAttrs default_attrs new ∷ [])
    (ChangeAttrs was new ∷ []) AllFit (λ _. (tt, (((tt, tt), l), tt))) (λ _. ((h, l), tt)))

pub back_fits : (form : Form) (r c : ℕ) → r < 65535 → c < 65535 → Fits (back_op form r c)
back_fits Fixed r c h l = tt
back_fits Portable r c h l = (h, l)

erased_fits : (form : Form) (n : ℕ) → n < 2 ^ 16 → erased_count form n < 2 ^ 16
erased_fits Fixed n h = omega arith
erased_fits Portable n h = h

-- The columns that the portable form counts fit in 16 bits.
abbrev pub IsCounted : Form → ℕ → Type 0
IsCounted Fixed n = Unit {0}
IsCounted Portable n = n < 2 ^ 16

pub counted : (form : Form) (n : ℕ) → n < 2 ^ 16 → IsCounted form n
counted Fixed n h = tt
counted Portable n h = h

counted_le : (form : Form) (m n : ℕ) → m ≤ n → IsCounted form n → IsCounted form m
counted_le Fixed m n le h = tt
counted_le Portable m n le h = omega arith

erase_count_fits : (form : Form) (n : ℕ) (xs : List CellValue) → n < 2 ^ 16 →
    IsCounted form (n + length xs) → Fits (erase_run form n xs)
erase_count_fits form n [] h short = tt
erase_count_fits Fixed n (x ∷ xs) h short = h
erase_count_fits Portable n (x ∷ xs) h short =
    cond_both (is_right_half x) (n + 1) n (λ (k : ℕ). k < 2 ^ 16) (λ _. omega (arith, short)) (λ _. h)

-- The count of a run of `n` more blanks fits, if the columns from the first blank on are counted.
erase_run_fits : (form : Form) (n : ℕ) (ys : List CellValue) → suc n < 2 ^ 16 → IsCounted form (suc (length ys)) →
    Fits (erase_run form (suc n) (drop n ys))
erase_run_fits form zero ys h short =
    erase_count_fits form 1 ys h (counted_le form (1 + length ys) (suc (length ys)) (omega arith) short)
erase_run_fits form (suc n) [] h short = tt
erase_run_fits form (suc n) (y ∷ ys) h short = by_end (drop n ys) (length-drop n ys) where
  by_end : (zs : List CellValue) → length zs ≡ length ys - n → Fits (erase_run form (suc (suc n)) zs)
  by_end [] e = tt
  by_end (z ∷ zs) e =
      erase_count_fits form (suc (suc n)) (z ∷ zs) h
      (counted_le form (suc (suc n) + suc (length zs)) (suc (suc (length ys))) (omega (arith, e)) short)

doing_fits : (pen : Pen) (r c : ℕ) (attrs : Attrs) (op : Op) → r < 65535 → c < 65535 →
    FitsAttrs pen.attrs → FitsAttrs attrs → Fits op → AllFit (placed_op pen r c attrs op)
doing_fits pen r c attrs op h l was new fits =
    fits_append (move_ops pen r c) (attr_ops_in pen.form pen.attrs attrs ++ op ∷ []) (going_fits pen r c h l)
    (fits_append (attr_ops_in pen.form pen.attrs attrs) (op ∷ []) (changing_fits pen.form pen.attrs attrs was new) (fits, tt))

pub feeds_fit : (n : ℕ) → AllFit (replicate n LineFeed)
feeds_fit zero = tt
feeds_fit (suc n) = (tt, feeds_fit n)

pub space_fits : IsDrawnText (0x20 ∷ [])
space_fits = printable_text (0x20 ∷ []) false IsGlyphText-space

-- ---- cells

abbrev pub IsFit : CellValue → Type 0
IsFit cell = IsCell cell × FitsAttrs (attrs_of cell)

pub all_fit : (cells : List CellValue) → AllByRecursion IsCell cells →
    AllByRecursion (λ cell. FitsAttrs (attrs_of cell)) cells → AllByRecursion IsFit cells
all_fit [] h k = tt
all_fit (x ∷ xs) h k = ((h.0, k.0), all_fit xs h.1 k.1)

pub at_fits : (cells : List CellValue) (k : ℕ) → AllByRecursion IsFit cells → IsFit (at cells k)
at_fits [] k h = (tt, (tt, tt))
at_fits (x ∷ xs) zero h = h.0
at_fits (x ∷ xs) (suc k) h = at_fits xs k h.1

pub text_fits : (x : CellValue) → IsCell x → IsDrawnText (text_of x)
text_fits (glyph text wide a) h = printable_text text wide h
text_fits (blank a) h = record { characters = []; spelled = refl; printable = tt }
text_fits right_half h = record { characters = []; spelled = refl; printable = tt }

pub record FitsWritten (w : Scripted) : Type 0 where
  pub ops : AllFit w.ops
  pub attrs : FitsAttrs w.pen.attrs

pub fits_after : (ops : List Op) (w : Scripted) → AllFit ops → FitsWritten w → FitsWritten (ops_then ops w)
fits_after ops w h k = record { ops = fits_append ops w.ops h k.ops; attrs = k.attrs }

pub cells_fit : (r c : ℕ) (pen : Pen) (wrapped : Bool) (k : ℕ) (xs ys : List CellValue) →
    r < 65535 → c + length xs < 2 ^ 16 → IsCounted pen.form (length ys) → FitsAttrs pen.attrs →
    AllByRecursion IsFit xs → FitsWritten (cells_written r c pen wrapped k xs ys)
unfolding cells_written
cells_fit r c pen wrapped k [] ys h l short was fit = record { ops = tt; attrs = was }
cells_fit r c pen wrapped k (x ∷ xs) [] h l short was fit = record { ops = tt; attrs = was }
cells_fit r c pen wrapped (suc k) (x ∷ xs) (y ∷ ys) h l short was fit =
    cells_fit r (c + 1) pen wrapped k xs ys h (omega arith)
    (counted_le pen.form (length ys) _ (omega arith) short) was fit.1
cells_fit r c pen wrapped zero (right_half ∷ xs) (y ∷ ys) h l short was fit =
    cells_fit r (c + 1) pen wrapped zero xs ys h (omega arith)
    (counted_le pen.form (length ys) _ (omega arith) short) was fit.1
cells_fit r c pen wrapped zero (blank a ∷ xs) (y ∷ ys) h l short was fit =
    let less = counted_le pen.form (length ys) (suc (length ys)) (omega arith) short in
    let n = blank_run a xs in
    let bound = run_bound a xs in
    let op = erase_run pen.form (suc n) (drop n ys) in
    let rest = cells_written r (c + 1) (pen_in pen.form r c a) (wrapped_after_erasure wrapped (drop n ys)) n xs ys in
    cond_both (same_cell (blank a) y) (cells_written r (c + 1) pen wrapped zero xs ys)
    (ops_then (placed_op pen r c a op) rest) FitsWritten
    (λ _. cells_fit r (c + 1) pen wrapped zero xs ys h (omega arith) less was fit.1)
    (λ _. fits_after (placed_op pen r c a op) rest
    (doing_fits pen r c a op h (omega arith) was fit.0.1 (erase_run_fits pen.form n ys (omega arith) short))
    (cells_fit r (c + 1) (pen_in pen.form r c a) (wrapped_after_erasure wrapped (drop n ys)) n xs ys h (omega arith)
    less fit.0.1 fit.1))
cells_fit r c pen wrapped zero (glyph text wide a ∷ xs) (y ∷ ys) h l short was fit =
    let less = counted_le pen.form (length ys) (suc (length ys)) (omega arith) short in
    let k = glyph_columns wide - 1 in
    let next = pen_past pen.form r (c + glyph_columns wide) a text in
    let now = wrapped_after_glyph wrapped wide (drop 1 ys) in
    let rest = cells_written r (c + 1) next now k xs ys in
    cond_both (same_cell (glyph text wide a) y) (cells_written r (c + 1) pen wrapped k xs ys)
    (ops_then (placed_op pen r c a (Print text)) rest) FitsWritten
    (λ _. cells_fit r (c + 1) pen wrapped k xs ys h (omega arith) less was fit.1)
    (λ _. fits_after (placed_op pen r c a (Print text)) rest
    (doing_fits pen r c a (Print text) h (omega arith) was fit.0.1 (printable_text text wide fit.0.0))
    (cells_fit r (c + 1) next now k xs ys h (omega arith) less fit.0.1 fit.1))

-- ---- the last glyph, the link and the break

pub last_low : (cells : List CellValue) → 0 < length cells → length cells < 2 ^ 16 → last_column cells < 65535
last_low cells some h =
    cond_both (is_right_half (at cells (length cells - 1))) (length cells - 2)
    (length cells - 1) (λ (k : ℕ). k < 65535) (λ _. omega arith) (λ _. omega arith)

pub after_fits : (r : ℕ) (pen : Pen) (cells : List CellValue) → r < 65535 → 0 < length cells →
    length cells < 2 ^ 16 → FitsAttrs pen.attrs → AllByRecursion IsFit cells → FitsWritten (after_last_glyph r pen cells)
after_fits r pen cells h some l was fit =
    let last = at_fits cells (last_column cells) fit in
    let again : Scripted = record {
      ops = placed_op pen r (last_column cells) (attrs_of (last_glyph cells)) (Print (text_of (last_glyph cells)));
      pen = pen_after pen.form r cells;
      wrapped = true;
    } in
    cond_both (is_at pen r (length cells)) (no_ops pen true) again FitsWritten (λ _. record { ops = tt; attrs = was })
    (λ _.
    record {
      ops =
          doing_fits pen r (last_column cells) (attrs_of (last_glyph cells)) (Print (text_of (last_glyph cells)))
          h (last_low cells some l) was last.1 (text_fits (last_glyph cells) last.0);
      attrs = last.1;
    })

pub record FitsLinked (j : Linked) : Type 0 where
  pub ops : AllFit j.ops
  pub attrs : FitsAttrs j.pen.attrs

wrap_fits : (r : ℕ) (pen : Pen) → r < 65535 → AllFit (wrap_ops r pen)
wrap_fits r pen h =
    cond_both pen.is_shifted (Print (0x20 ∷ []) ∷ MoveTo r 0 ∷ []) [] AllFit
    (λ _. (space_fits, ((h, omega arith), tt))) (λ _. tt)

pub first_fits : (r : ℕ) (pen : Pen) (wrapped : Bool) (xs ys : List CellValue) → r < 65535 →
    FitsAttrs pen.attrs → AllByRecursion IsFit xs → FitsLinked (first_written r pen wrapped xs ys)
first_fits r pen wrapped [] ys h was fit = record { ops = tt; attrs = was }
first_fits r pen wrapped (x ∷ xs) [] h was fit = record { ops = tt; attrs = was }
first_fits r pen wrapped (right_half ∷ xs) (y ∷ ys) h was fit = record { ops = tt; attrs = was }
first_fits r pen wrapped (blank a ∷ xs) (y ∷ ys) h was fit = record {
  ops =
      fits_append (attr_ops_in pen.form pen.attrs a) (Print (0x20 ∷ []) ∷ back_op pen.form r 0 ∷ EraseChars 1 ∷ [])
      (changing_fits pen.form pen.attrs a was fit.0.1) (space_fits, (back_fits pen.form r 0 h (omega arith), (omega arith, tt)));
  attrs = fit.0.1;
}
first_fits r pen wrapped (glyph text wide a ∷ xs) (y ∷ ys) h was fit = record {
  ops =
      fits_append (attr_ops_in pen.form pen.attrs a) (wrap_ops r pen ++ Print text ∷ [])
      (changing_fits pen.form pen.attrs a was fit.0.1)
      (fits_append (wrap_ops r pen) (Print text ∷ []) (wrap_fits r pen h) (printable_text text wide fit.0.0, tt));
  attrs = fit.0.1;
}

linked_fits : (r : ℕ) (pen : Pen) (above : List CellValue) (wrapped_above wrapped : Bool) (xs ys : List CellValue) →
    r + 1 < 65535 → 0 < length above → length above < 2 ^ 16 → FitsAttrs pen.attrs →
    AllByRecursion IsFit above → AllByRecursion IsFit xs → FitsLinked (row_link r pen above wrapped_above wrapped xs ys)
unfolding row_link
linked_fits r pen above wrapped_above wrapped xs ys h some l was over fit =
    let w = after_last_glyph r pen above in
    let one = after_fits r pen above (omega arith) some l was over in
    let two = first_fits (r + 1) w.pen wrapped xs ys h one.attrs fit in
    cond_both (not wrapped_above || (is_at pen r (length above) && starts_other xs ys))
    (ops_then_link w.ops (first_written (r + 1) w.pen wrapped xs ys)) (no_link pen wrapped) FitsLinked
    (λ _.
    record {
      ops = fits_append w.ops (first_written (r + 1) w.pen wrapped xs ys).ops one.ops two.ops;
      attrs = two.attrs;
    })
    (λ _. record { ops = tt; attrs = was })

pub broken_fits : (r : ℕ) (pen : Pen) (wrapped wanted : Bool) (cells : List CellValue) →
    r < 65535 → 0 < length cells → length cells < 2 ^ 16 → FitsAttrs pen.attrs →
    AllByRecursion IsFit cells → FitsWritten (row_break r pen wrapped wanted cells)
unfolding row_break
broken_fits r pen wrapped wanted cells h some l was fit =
    let last = at_fits cells (last_column cells) fit in
    let a = attrs_of (last_glyph cells) in
    let text = text_of (last_glyph cells) in
    cond_both (wrapped && not wanted) (break_ops r pen cells) (no_ops pen wrapped) FitsWritten
    (λ _. record {
      ops =
          fits_append (move_ops pen r (last_column cells)) (EraseChars (erased_count pen.form (length cells - last_column cells))
          ∷ (attr_ops_in pen.form pen.attrs a ++ Print text ∷ []))
          (going_fits pen r (last_column cells) h (last_low cells some l)) (
            erased_fits pen.form (length cells - last_column cells) (omega arith),
            fits_append (attr_ops_in pen.form pen.attrs a) (Print text ∷ [])
                (changing_fits pen.form pen.attrs a was last.1) (text_fits (last_glyph cells) last.0, tt),
          );
      attrs = last.1;
    })
    (λ _. record { ops = tt; attrs = was })

-- ---- rows

pub record IsFitRow (width : ℕ) (row : RowValue) : Type 0 where
  pub columns : length row.cells ≡ width
  pub cells : AllByRecursion IsFit row.cells

row_fits : (r k width : ℕ) (pen : Pen) (wrapped : Bool) (x : RowValue) (ys : List CellValue) → r < 65535 → 0 < width →
    width < 2 ^ 16 → IsCounted pen.form (length ys) → FitsAttrs pen.attrs → IsFitRow width x → FitsWritten
    (row_written r k pen wrapped x ys)
unfolding row_written
row_fits r k width pen wrapped x ys h some l short was fit =
    let columns = fit.columns in
    let w = cells_written r 0 pen wrapped k x.cells ys in
    let one = cells_fit r 0 pen wrapped k x.cells ys h (omega arith) short was fit.cells in
    fits_after w.ops (row_break r w.pen w.wrapped x.wrapped x.cells) one.ops
    (broken_fits r w.pen w.wrapped x.wrapped x.cells h (omega arith) (omega arith) one.attrs fit.cells)

-- The columns of the row fit in 16 bits, if the portable form counts them.
abbrev pub IsCountedRow : Form → RowValue → Type 0
IsCountedRow form row = IsCounted form (length row.cells)

below_fit : (r width : ℕ) (pen : Pen) (above : RowValue) (wrapped_above : Bool) (xs ys : List RowValue) →
    r + suc (length xs) < 2 ^ 16 → 0 < width → width < 2 ^ 16 →
    FitsAttrs pen.attrs → IsFitRow width above → AllByRecursion (IsFitRow width) xs →
    AllByRecursion (IsCountedRow pen.form) ys → FitsWritten (rows_below r pen above wrapped_above xs ys)
unfolding rows_below
below_fit r width pen above wrapped_above [] ys h some l was over fit short = record { ops = tt; attrs = was }
below_fit r width pen above wrapped_above (x ∷ xs) [] h some l was over fit short = record { ops = tt; attrs = was }
below_fit r width pen above wrapped_above (x ∷ xs) (y ∷ ys) h some l was over fit short =
    let columns = over.columns in
    let link = link_of r pen above wrapped_above x y in
    let row = row_written (r + 1) link.settled link.pen link.wrapped x y.cells in
    let one : FitsLinked link =
    cond_both above.wrapped (row_link r pen above.cells wrapped_above y.wrapped x.cells y.cells)
    (no_link pen y.wrapped) FitsLinked
    (λ _. linked_fits r pen above.cells wrapped_above y.wrapped x.cells y.cells
    (omega arith) (omega arith) (omega arith) was over.cells fit.0.cells)
    (λ _. record { ops = tt; attrs = was }) in
    let linked : link.pen.form ≡ pen.form = link_form r pen above wrapped_above x y in
    let kept : row.pen.form ≡ pen.form =
    row_form (r + 1) link.settled link.pen link.wrapped x y.cells ∙ linked in
    let two = row_fits (r + 1) link.settled width link.pen link.wrapped x y.cells (omega arith) some l
    (subst (λ (f : Form). IsCounted f (length y.cells)) (sym linked) short.0) one.attrs fit.0 in
    fits_after (link.ops ++ row.ops) (rows_below (r + 1) row.pen x row.wrapped xs ys)
    (fits_append link.ops row.ops one.ops two.ops)
    (below_fit (r + 1) width row.pen x row.wrapped xs ys (omega arith) some l two.attrs fit.0 fit.1
    (subst (λ (f : Form). AllByRecursion (IsCountedRow f) ys) (sym kept) short.1))

pub rows_fit : (width : ℕ) (pen : Pen) (xs ys : List RowValue) → length xs < 2 ^ 16 → 0 < width → width < 2 ^ 16 →
    FitsAttrs pen.attrs → AllByRecursion (IsFitRow width) xs → AllByRecursion (IsCountedRow pen.form) ys →
    FitsWritten (rows_written pen xs ys)
unfolding rows_written
rows_fit width pen [] ys h some l was fit short = record { ops = tt; attrs = was }
rows_fit width pen (x ∷ xs) [] h some l was fit short = record { ops = tt; attrs = was }
rows_fit width pen (x ∷ xs) (y ∷ ys) h some l was fit short =
    let row = row_written 0 0 pen y.wrapped x y.cells in
    let one = row_fits 0 0 width pen y.wrapped x y.cells (omega arith) some l short.0 was fit.0 in
    fits_after row.ops (rows_below 0 row.pen x row.wrapped xs ys) one.ops
    (below_fit 0 width row.pen x row.wrapped xs ys (omega arith) some l one.attrs fit.0 fit.1
    (subst (λ (f : Form). AllByRecursion (IsCountedRow f) ys) (sym (row_form 0 0 pen y.wrapped x y.cells)) short.1))
