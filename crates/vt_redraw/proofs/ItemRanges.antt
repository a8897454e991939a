-- A row's item, also of a range that cuts no wide character, and when it is empty.
use Rattle.std.proofs.Common.{◌≡◌, ℕ, zero, suc, ◌+◌, ◌-◌, ◌<◌, ◌≤◌, ◌&&◌, Bool, true, false, not, List, [], ◌∷◌, ◌++◌}
use Rattle.std.proofs.Common.{length, take, drop, refl, sym, ap, ◌∙◌, arith, ◌↔◌, subst}
use Rattle.std.proofs.lemmas.Bool.{cond_both}
use Rattle.std.proofs.lemmas.Bool.Decides.{nat_tests}
use Rattle.std.specs.Prelude.{if◌then◌else◌}
use Rattle.std.specs.List.{AllByRecursion}
use Rattle.std.proofs.lemmas.List.Elements.{recursion_from_All}
use Rattle.vt_cells.specs.Attrs.{default_attrs, Attrs}
use Rattle.vt_cells.specs.Cell.{CellValue, blank, glyph, right_half, is_right_half, same_cell, IsCell, attrs_of}
use Rattle.vt_cells.specs.Cell.{text_of}
use Rattle.vt_cells.specs.Op.{Print, Op, EraseChars, bytes_of, bytes_of_all}
use Rattle.vt_cells.specs.Glyph.{glyph_columns}
use Rattle.vt_cells.proofs.Glyphs.{IsGlyphText-length}
use Rattle.vt_cells.proofs.Cells.{cell_of-same}
use Rattle.vt_cells.proofs.Texts.{bytes_of_all-append}
use Rattle.vt_rows.specs.Cells.{at, blanks}
use Rattle.vt_rows.specs.Row.{RowValue, blank_row, IsRow}
use Rattle.vt_grid.specs.Page.{row_or}
use Rattle.vt_redraw.specs.Items.{range_written, is_whole, item_of_difference, linked_item, CutsNone, in_range}
use Rattle.vt_redraw.specs.Items.{with_whole_start, with_whole_start_over}
use Rattle.vt_redraw.specs.Picture.{Picture, IsPicture, SamePictureSize}
use Rattle.vt_redraw.specs.Script.{Scripted, blank_run, erase_run, ops_then, pen_at, placed_op, wrapped_after_erasure}
use Rattle.vt_redraw.specs.Script.{after_last_glyph, cells_written, first_written, row_break, wrapped_after_glyph}
use Rattle.vt_redraw.specs.Script.{pen_in, pen_past, no_ops, move_ops, last_column, is_at, last_glyph, pen_after}
use Rattle.vt_redraw.specs.Script.{attr_ops_in}
use Rattle.vt_redraw.specs.declared.pen.Pen.{Pen}
use Rattle.vt_redraw.specs.declared.form.Form.{Form}
use Rattle.vt_redraw.specs.declared.form.Form.TheVariants.{Fixed, Portable}
use Rattle.vt_redraw.proofs.Halves.{Paired, paired_of, ends, ends_is}
use Rattle.vt_redraw.proofs.Ranges.{IsClean, begun_paired, begun_over_paired}
use Rattle.vt_redraw.proofs.Edits.{glyph_cells}
use Rattle.vt_redraw.proofs.Link.{last_cases}
use Rattle.vt_redraw.proofs.Row.{cells_nothing}

-- ==== Items of ranges that cut no wide character, and of rows that are not wrapped.

-- ---- ranges that cut no wide character

split_paired : (n : ℕ) (xs : List CellValue) → Paired xs →
    is_right_half (at xs n) ≡ false → Paired (take n xs) × Paired (drop n xs)
split_paired zero xs h e = (tt, h)
split_paired (suc n) [] h e = (tt, tt)
split_paired (suc n) (blank a ∷ xs) h e = split_paired n xs h e
split_paired (suc n) (glyph text false a ∷ xs) h e = split_paired n xs h e
split_paired (suc zero) (glyph text true a ∷ right_half ∷ xs) h e = absurd (cc)
split_paired (suc (suc n)) (glyph text true a ∷ right_half ∷ xs) h e = split_paired n xs h e
split_paired (suc n) (glyph text true a ∷ []) h e = absurd h
split_paired (suc n) (glyph text true a ∷ blank b ∷ xs) h e = absurd h
split_paired (suc n) (glyph text true a ∷ glyph other wide b ∷ xs) h e = absurd h
split_paired (suc n) (right_half ∷ xs) h e = absurd h

at_dropped : (n k : ℕ) (xs : List CellValue) → at (drop n xs) k ≡ at xs (n + k)
at_dropped zero k xs = let e : 0 + k ≡ k = omega arith in ap (at xs) (sym e)
at_dropped (suc n) k [] = refl
at_dropped (suc n) k (x ∷ xs) =
    let e : suc n + k ≡ suc (n + k) = omega arith in at_dropped n k xs ∙ ap (at (x ∷ xs)) (sym e)

pub clean_range : (start stop : ℕ) (xs ys : List CellValue) → start ≤ stop → Paired xs →
    Paired ys → CutsNone start stop xs → CutsNone start stop ys → IsClean start stop xs ys
clean_range start stop xs ys le h k cx cy =
    let one = split_paired start ys k cy.0 in
    let e : start + (stop - start) ≡ stop = omega arith in
    let behind = ap is_right_half (at_dropped start (stop - start) xs ∙ ap (at xs) e) ∙ cx.1 in
    record {
      before = one.0;
      there = one.1;
      behind = (split_paired stop ys k cy.1).1;
      range = (split_paired (stop - start) (drop start xs) (split_paired start xs h cx.0).1 behind).0;
    }

no_halves : (n k : ℕ) → is_right_half (at (blanks default_attrs n) k) ≡ false
no_halves zero k = refl
no_halves (suc n) zero = refl
no_halves (suc n) (suc k) = no_halves n k

pub cuts_no_blanks : (start stop n : ℕ) → CutsNone start stop (blanks default_attrs n)
cuts_no_blanks start stop n = (no_halves n start, no_halves n stop)

pub past_half : (xs : List CellValue) (k : ℕ) → length xs ≤ k → is_right_half (at xs k) ≡ false
past_half [] k h = refl
past_half (x ∷ xs) zero h = absurd (omega arith)
past_half (x ∷ xs) (suc k) h = past_half xs k (omega arith)

pub first_half : (xs : List CellValue) → Paired xs → is_right_half (at xs 0) ≡ false
first_half [] h = refl
first_half (blank a ∷ xs) h = refl
first_half (glyph text wide a ∷ xs) h = refl
first_half (right_half ∷ xs) h = absurd h

-- The range of a whole row cuts no wide character.
pub whole_cuts_none : (self : Picture) (r : ℕ) → IsPicture self →
    r < length self.rows → CutsNone 0 self.width (row_or self.width self.rows r).cells
whole_cuts_none self r is low =
    let row = is.rows r (blank_row default_attrs self.width) low in
    let e = row.columns in
    let cells = (row_or self.width self.rows r).cells in
    (first_half cells (paired_of cells row.paired), past_half cells self.width (omega arith))

-- ---- rows that are not wrapped stay so

pub cells_off : (r c : ℕ) (pen : Pen) (k : ℕ) (xs ys : List CellValue) →
    (cells_written r c pen false k xs ys).wrapped ≡ false
unfolding cells_written
cells_off r c pen k [] ys = refl
cells_off r c pen k (x ∷ xs) [] = refl
cells_off r c pen (suc k) (x ∷ xs) (y ∷ ys) = cells_off r (c + 1) pen k xs ys
cells_off r c pen zero (right_half ∷ xs) (y ∷ ys) = cells_off r (c + 1) pen zero xs ys
cells_off r c pen zero (blank a ∷ xs) (y ∷ ys) =
    let n = blank_run a xs in
    let rest = cells_written r (c + 1) (pen_in pen.form r c a) (wrapped_after_erasure false (drop n ys)) n xs ys in
    cond_both (same_cell (blank a) y) (cells_written r (c + 1) pen false zero xs ys)
    (ops_then (placed_op pen r c a (erase_run pen.form (suc n) (drop n ys))) rest) (λ (w : Scripted). w.wrapped ≡ false)
    (λ _. cells_off r (c + 1) pen zero xs ys) (λ _. cells_off r (c + 1) (pen_in pen.form r c a) n xs ys)
cells_off r c pen zero (glyph text wide a ∷ xs) (y ∷ ys) =
    let k = glyph_columns wide - 1 in
    let next = pen_past pen.form r (c + glyph_columns wide) a text in
    let rest = cells_written r (c + 1) next (wrapped_after_glyph false wide (drop 1 ys)) k xs ys in
    cond_both (same_cell (glyph text wide a) y) (cells_written r (c + 1) pen false k xs ys)
    (ops_then (placed_op pen r c a (Print text)) rest) (λ (w : Scripted). w.wrapped ≡ false)
    (λ _. cells_off r (c + 1) pen k xs ys) (λ _. cells_off r (c + 1) next k xs ys)

first_off : (r : ℕ) (pen : Pen) (xs ys : List CellValue) → (first_written r pen false xs ys).wrapped ≡ false
first_off r pen [] ys = refl
first_off r pen (x ∷ xs) [] = refl
first_off r pen (right_half ∷ xs) (y ∷ ys) = refl
first_off r pen (blank a ∷ xs) (y ∷ ys) = refl
first_off r pen (glyph text wide a ∷ xs) (y ∷ ys) = refl

pub linked_off : (r : ℕ) (xs : List CellValue) → (linked_item r xs).wrapped ≡ false
linked_off r xs =
    let ys = blanks default_attrs (length xs) in
    let first = first_written r (pen_at r 0 default_attrs) false xs ys in
    ap (λ (b : Bool). (cells_written r 0 first.pen b first.settled xs ys).wrapped)
    (first_off r (pen_at r 0 default_attrs) xs ys)
    ∙ cells_off r 0 first.pen first.settled xs ys

broken_off : (r : ℕ) (pen : Pen) (wrapped : Bool) (cells : List CellValue) →
    (row_break r pen wrapped false cells).wrapped ≡ false
unfolding row_break
broken_off r pen true cells = refl
broken_off r pen false cells = refl

-- If a row of the picture is not wrapped, its item leaves the terminal's row unwrapped.
pub item_off : (r width : ℕ) (x y : RowValue) → length x.cells ≡ width →
    x.wrapped ≡ false → (item_of_difference r 0 width x y).wrapped ≡ false
item_off r width x y e off =
    let w = range_written r 0 width y.wrapped x.cells y.cells in
    let b = row_break r w.pen w.wrapped x.wrapped x.cells in
    let t : is_whole 0 width (length x.cells) ≡ true = grind (arith, nat_tests) in
    let none : b.wrapped ≡ false =
    ap (λ (f : Bool). (row_break r w.pen w.wrapped f x.cells).wrapped) off ∙ broken_off r w.pen w.wrapped x.cells in
    rw t (cond_both (x.wrapped && not b.wrapped)
    (record {
      ops = (ops_then w.ops b).ops ++ (after_last_glyph r (ops_then w.ops b).pen x.cells).ops;
      pen = (after_last_glyph r (ops_then w.ops b).pen x.cells).pen;
      wrapped = b.wrapped;
    })
    (ops_then w.ops b) (λ (v : Scripted). v.wrapped ≡ false)
    (λ _. none) (λ _. none))

-- ==== The item of a difference for a whole row is empty if the rows are equal, and only then.

-- ---- empty output

none_of : (xs ys : List ℕ) → xs ++ ys ≡ [] → (xs ≡ []) × (ys ≡ [])
none_of [] ys h = (refl, h)
none_of (x ∷ xs) ys h = absurd (cc)

none_of_ops : (xs ys : List Op) → bytes_of_all (xs ++ ys) ≡ [] → (bytes_of_all xs ≡ []) × (bytes_of_all ys ≡ [])
none_of_ops xs ys h = none_of (bytes_of_all xs) (bytes_of_all ys) (sym (bytes_of_all-append xs ys) ∙ h)

no_doing : (pen : Pen) (r c : ℕ) (a : Attrs) (op : Op) → bytes_of_all (placed_op pen r c a op) ≡ [] → bytes_of op ≡ []
no_doing pen r c a op h =
    let one = none_of_ops (move_ops pen r c) (attr_ops_in pen.form pen.attrs a ++ op ∷ []) h in
    let two = none_of_ops (attr_ops_in pen.form pen.attrs a) (op ∷ []) one.1 in
    (none_of (bytes_of op) [] two.1).0

some_chars : (n : ℕ) → bytes_of (EraseChars (suc n)) ≡ [] → ⊥
some_chars zero h = cc
some_chars (suc n) h = cc

some_run : (form : Form) (n : ℕ) (xs : List CellValue) → bytes_of (erase_run form (suc n) xs) ≡ [] → ⊥
some_run form n [] h = cc
some_run Fixed n (x ∷ xs) h = some_chars n h
some_run Portable n (x ∷ xs) h = by_half (is_right_half x) h where
  by_half : (b : Bool) → bytes_of (EraseChars (if b then suc n + 1 else suc n)) ≡ [] → ⊥
  by_half false e = some_chars n e
  by_half true e = let m : suc n + 1 ≡ suc (suc n) = omega arith in
      some_chars (suc n) (ap (λ (k : ℕ). bytes_of (EraseChars k)) (sym m) ∙ e)

some_text : (text : List ℕ) (wide : Bool) (a : Attrs) → IsCell (glyph text wide a) → text ≡ [] → ⊥
some_text text wide a is h =
    let some = (IsGlyphText-length text wide is).0 in let e = ap length h in absurd (omega arith)

-- ---- cells

same_ahead : (x y : CellValue) (xs ys : List CellValue) → x ≡ y → xs ≡ ys → x ∷ xs ≡ y ∷ ys
same_ahead x y xs ys e f = ap (λ (z : CellValue). z ∷ xs) e ∙ ap (λ (zs : List CellValue). y ∷ zs) f

cells_none : (r c : ℕ) (pen : Pen) (wrapped : Bool) (xs ys : List CellValue) →
    length xs ≡ length ys → Paired xs → Paired ys → AllByRecursion IsCell xs →
    bytes_of_all (cells_written r c pen wrapped 0 xs ys).ops ≡ [] → xs ≡ ys
unfolding cells_written
cells_none r c pen wrapped [] [] e h k is none = refl
cells_none r c pen wrapped [] (y ∷ ys) e h k is none = absurd (omega arith)
cells_none r c pen wrapped (x ∷ xs) [] e h k is none = absurd (omega arith)
cells_none r c pen wrapped (right_half ∷ xs) (y ∷ ys) e h k is none = absurd h
cells_none r c pen wrapped (blank a ∷ xs) (y ∷ ys) e h k is none =
    by_test (λ p n. cells_none r (c + 1) pen wrapped xs ys (omega arith) h p is.1 n) (same_cell (blank a) y) refl none
  where
    by_test : (more : Paired ys → bytes_of_all (cells_written r (c + 1) pen wrapped 0 xs ys).ops ≡ [] → xs ≡ ys)
        (t : Bool) →
        same_cell (blank a) y ≡ t →
        bytes_of_all (if t then cells_written r (c + 1) pen wrapped 0 xs ys
        else ops_then (placed_op pen r c a (erase_run pen.form (suc (blank_run a xs)) (drop (blank_run a xs) ys)))
        (cells_written r (c + 1) (pen_in pen.form r c a) (wrapped_after_erasure wrapped (drop (blank_run a xs) ys))
        (blank_run a xs) xs ys)).ops
        ≡ [] →
        blank a ∷ xs ≡ y ∷ ys
    by_test more true t none =
        let same = cell_of-same (blank a) y t in
        same_ahead (blank a) y xs ys same (more (subst (λ (z : CellValue). Paired (z ∷ ys)) (sym same) k) none)
    by_test more false t none =
        let op = erase_run pen.form (suc (blank_run a xs)) (drop (blank_run a xs) ys) in
        absurd (some_run pen.form (blank_run a xs) (drop (blank_run a xs) ys)
        (no_doing pen r c a op (none_of_ops (placed_op pen r c a op) _ none).0))
cells_none r c pen wrapped (glyph text false a ∷ xs) (y ∷ ys) e h k is none =
    by_test (λ p n. cells_none r (c + 1) pen wrapped xs ys (omega arith) h p is.1 n)
    (same_cell (glyph text false a) y) refl none
  where
    by_test : (more : Paired ys → bytes_of_all (cells_written r (c + 1) pen wrapped 0 xs ys).ops ≡ [] → xs ≡ ys)
        (t : Bool) →
        same_cell (glyph text false a) y ≡ t →
        bytes_of_all (if t then cells_written r (c + 1) pen wrapped 0 xs ys
        else ops_then (placed_op pen r c a (Print text))
        (cells_written r (c + 1) (pen_past pen.form r (c + 1) a text) (wrapped_after_glyph wrapped false (drop 1 ys)) 0
        xs ys)).ops
        ≡ [] →
        glyph text false a ∷ xs ≡ y ∷ ys
    by_test more true t none =
        let same = cell_of-same (glyph text false a) y t in
        same_ahead (glyph text false a) y xs ys same
        (more (subst (λ (z : CellValue). Paired (z ∷ ys)) (sym same) k) none)
    by_test more false t none =
        absurd (some_text text false a is.0
        (no_doing pen r c a (Print text) (none_of_ops (placed_op pen r c a (Print text)) _ none).0))
cells_none r c pen wrapped (glyph text true a ∷ []) (y ∷ ys) e h k is none = absurd h
cells_none r c pen wrapped (glyph text true a ∷ blank b ∷ xs) (y ∷ ys) e h k is none = absurd h
cells_none r c pen wrapped (glyph text true a ∷ glyph other wide b ∷ xs) (y ∷ ys) e h k is none = absurd h
cells_none r c pen wrapped (glyph text true a ∷ right_half ∷ xs) (y ∷ []) e h k is none = absurd (omega arith)
cells_none r c pen wrapped (glyph text true a ∷ right_half ∷ xs) (y ∷ z ∷ ys) e h k is none =
    by_test (λ p n. cells_none r (c + 1 + 1) pen wrapped xs ys (omega arith) h p is.1.1 n)
    (same_cell (glyph text true a) y) refl none
  where
    pen_after : (z : CellValue) → Paired (glyph text true a ∷ z ∷ ys) → (right_half ≡ z) × Paired ys
    pen_after right_half p = (refl, p)
    pen_after (blank b) p = absurd p
    pen_after (glyph other wide b) p = absurd p

    next : (z : CellValue) → right_half ≡ z →
        bytes_of_all (cells_written r (c + 1) pen wrapped 1 (right_half ∷ xs) (z ∷ ys)).ops ≡ [] →
        bytes_of_all (cells_written r (c + 1 + 1) pen wrapped 0 xs ys).ops ≡ []
    next right_half e n = n
    next (blank b) e n = absurd (cc)
    next (glyph other wide b) e n = absurd (cc)

    by_test : (more : Paired ys → bytes_of_all (cells_written r (c + 1 + 1) pen wrapped 0 xs ys).ops ≡ [] → xs ≡ ys)
        (t : Bool) →
        same_cell (glyph text true a) y ≡ t →
        bytes_of_all (if t then cells_written r (c + 1) pen wrapped 1 (right_half ∷ xs) (z ∷ ys)
        else ops_then (placed_op pen r c a (Print text))
        (cells_written r (c + 1) (pen_past pen.form r (c + 2) a text)
        (wrapped_after_glyph wrapped true (drop 1 (z ∷ ys))) 1 (right_half ∷ xs) (z ∷ ys))).ops
        ≡ [] →
        glyph text true a ∷ right_half ∷ xs ≡ y ∷ z ∷ ys
    by_test more true t none =
        let same = cell_of-same (glyph text true a) y t in
        let half = pen_after z (subst (λ (w : CellValue). Paired (w ∷ z ∷ ys)) (sym same) k) in
        same_ahead (glyph text true a) y (right_half ∷ xs) (z ∷ ys) same
        (same_ahead right_half z xs ys half.0 (more half.1 (next z half.0 none)))
    by_test more false t none =
        absurd (some_text text true a is.0
        (no_doing pen r c a (Print text) (none_of_ops (placed_op pen r c a (Print text)) _ none).0))

-- ---- whether the row is wrapped

last_is_text : (cells : List CellValue) → Paired cells → ends cells ≡ false →
    AllByRecursion IsCell cells → text_of (last_glyph cells) ≡ [] → ⊥
last_is_text cells h e is none =
    last_cases (λ row k x. AllByRecursion IsCell row → text_of x ≡ [] → ⊥)
    (λ pre text wide a p is none. last_text pre text wide a is none) cells h e is none
  where
    last_text : (pre : List CellValue) (text : List ℕ) (wide : Bool) (a : Attrs) →
        AllByRecursion IsCell (pre ++ glyph_cells text wide a) → text ≡ [] → ⊥
    last_text [] text false a is none = some_text text false a is.0 none
    last_text [] text true a is none = some_text text true a is.0 none
    last_text (x ∷ pre) text wide a is none = last_text pre text wide a is.1 none

-- The operations that follow the cells of a row if all cells are displayed already.
abbrev end_ops : ℕ → Bool → Bool → List CellValue → List Op
end_ops r wrapped wanted cells =
    let b = row_break r (pen_at r 0 default_attrs) wrapped wanted cells in
    if wanted && not b.wrapped then b.ops ++ (after_last_glyph r b.pen cells).ops else b.ops

end_none : (r : ℕ) (wrapped wanted : Bool) (cells : List CellValue) → 0 < length cells →
    Paired cells → AllByRecursion IsCell cells → (wanted ≡ true → ends cells ≡ false) →
    bytes_of_all (end_ops r wrapped wanted cells) ≡ [] → wanted ≡ wrapped
unfolding row_break
end_none r true true cells some h is full none = refl
end_none r false false cells some h is full none = refl
end_none r true false cells some h is full none =
    let pen = pen_at r 0 default_attrs in
    absurd (some_chars 0 (none_of (bytes_of (EraseChars 1)) _
    (none_of_ops (move_ops pen r (last_column cells))
    (EraseChars 1 ∷ (attr_ops_in pen.form pen.attrs (attrs_of (last_glyph cells)) ++ Print (text_of (last_glyph cells)) ∷ []))
    none).1).0)
end_none r false true cells some h is full none =
    let pen = pen_at r 0 default_attrs in
    let t : is_at pen r (length cells) ≡ false = grind (arith, nat_tests) in
    let goes : bytes_of_all
    (placed_op pen r (last_column cells) (attrs_of (last_glyph cells)) (Print (text_of (last_glyph cells))))
    ≡ [] =
    ap (λ (b : Bool). bytes_of_all
    (if b then no_ops pen true
    else record {
      ops = placed_op pen r (last_column cells) (attrs_of (last_glyph cells)) (Print (text_of (last_glyph cells)));
      pen = pen_after pen.form r cells;
      wrapped = true;
    }).ops)
    (sym t)
    ∙ none in
    absurd (last_is_text cells h (full refl) is
    (no_doing pen r (last_column cells) (attrs_of (last_glyph cells)) (Print (text_of (last_glyph cells))) goes))

end_nothing : (r : ℕ) (wrapped : Bool) (cells : List CellValue) → end_ops r wrapped wrapped cells ≡ []
unfolding row_break
end_nothing r true cells = refl
end_nothing r false cells = refl

-- ---- the item

whole_range : (w : ℕ) (xs : List CellValue) → length xs ≡ w → in_range 0 w xs ≡ xs
whole_range w xs e = let n : w - 0 ≡ length xs = omega arith in ap (λ (k : ℕ). take k xs) n ∙ take_whole xs
  where
    take_whole : (zs : List CellValue) → take (length zs) zs ≡ zs
    take_whole [] = refl
    take_whole (z ∷ zs) = ap (λ (r : List CellValue). z ∷ r) (take_whole zs)

range_is : (r w : ℕ) (wrapped : Bool) (xs ys : List CellValue) → length xs ≡ w → Paired xs →
    range_written r 0 w wrapped xs ys ≡ cells_written r 0 (pen_at r 0 default_attrs) wrapped 0 xs ys
range_is r w wrapped xs ys e h =
    ap (λ (z : List CellValue). cells_written r 0 (pen_at r 0 default_attrs) wrapped 0 (with_whole_start z)
    (with_whole_start_over z ys))
    (whole_range w xs e)
    ∙ (ap (λ (z : List CellValue). cells_written r 0 (pen_at r 0 default_attrs) wrapped 0 z
    (with_whole_start_over xs ys)) (begun_paired xs h)
    ∙ ap (λ (z : List CellValue). cells_written r 0 (pen_at r 0 default_attrs) wrapped 0 xs z)
    (begun_over_paired xs ys h))

-- The operations of an item after those of its cells.
abbrev item_after : ℕ → Scripted → Bool → List CellValue → List Op
item_after r w wanted cells =
    let b = row_break r w.pen w.wrapped wanted cells in
    if wanted && not b.wrapped then (w.ops ++ b.ops) ++ (after_last_glyph r b.pen cells).ops else w.ops ++ b.ops

item_is : (r width : ℕ) (x y : RowValue) → length x.cells ≡ width → Paired x.cells →
    (item_of_difference r 0 width x y).ops
    ≡ item_after r (cells_written r 0 (pen_at r 0 default_attrs) y.wrapped 0 x.cells y.cells) x.wrapped x.cells
item_is r width x y e h =
    let t : is_whole 0 width (length x.cells) ≡ true = grind (arith, nat_tests) in
    let w = range_written r 0 width y.wrapped x.cells y.cells in
    let b = row_break r w.pen w.wrapped x.wrapped x.cells in
    rw t (ops_of (x.wrapped && not b.wrapped) w b (after_last_glyph r b.pen x.cells)
    ∙ ap (λ (z : Scripted). item_after r z x.wrapped x.cells) (range_is r width y.wrapped x.cells y.cells e h))
  where
    ops_of : (t : Bool) (w b g : Scripted) →
        (if t then record { ops = (w.ops ++ b.ops) ++ g.ops; pen = g.pen; wrapped = b.wrapped } else ops_then
        w.ops b).ops
        ≡ (if t then (w.ops ++ b.ops) ++ g.ops else w.ops ++ b.ops)
    ops_of true w b g = refl
    ops_of false w b g = refl

front_none : (t : Bool) (one two three : List Op) →
    bytes_of_all (if t then (one ++ two) ++ three else one ++ two) ≡ [] → bytes_of_all one ≡ []
front_none true one two three h = (none_of_ops one two (none_of_ops (one ++ two) three h).0).0
front_none false one two three h = (none_of_ops one two h).0

same_row : (x y : RowValue) → x.cells ≡ y.cells → x.wrapped ≡ y.wrapped → x ≡ y
same_row x y e f = ap (λ (z : List CellValue). record x { cells = z }) e ∙ ap (λ (b : Bool). record y { wrapped = b }) f

item_none : (r width : ℕ) (x y : RowValue) → 0 < width → IsRow width x →
    IsRow width y → bytes_of_all (item_of_difference r 0 width x y).ops ≡ [] → x ≡ y
item_none r width x y some hx hy none =
    let px = paired_of x.cells hx.paired in
    let ex = hx.columns in
    let ey = hy.columns in
    let cells = recursion_from_All IsCell x.cells hx.sound in
    let w = cells_written r 0 (pen_at r 0 default_attrs) y.wrapped 0 x.cells y.cells in
    let b = row_break r w.pen w.wrapped x.wrapped x.cells in
    let is = ap bytes_of_all (sym (item_is r width x y ex px)) ∙ none in
    let same = cells_none r 0 (pen_at r 0 default_attrs) y.wrapped
    x.cells y.cells (ex ∙ sym ey) px (paired_of y.cells hy.paired) cells
    (front_none (x.wrapped && not b.wrapped) w.ops b.ops (after_last_glyph r b.pen x.cells).ops is) in
    let stands : w ≡ no_ops (pen_at r 0 default_attrs) y.wrapped =
    ap (λ (z : List CellValue). cells_written r 0 (pen_at r 0 default_attrs) y.wrapped 0 x.cells z) (sym same)
    ∙ cells_nothing r 0 0 (pen_at r 0 default_attrs) y.wrapped x.cells in
    let ends_none = ap (λ (z : Scripted). bytes_of_all (item_after r z x.wrapped x.cells)) (sym stands) ∙ is in
    same_row x y same (end_none r y.wrapped x.wrapped x.cells (omega arith)
    px cells (λ t. sym (ends_is x.cells) ∙ hx.flagged t) ends_none)

item_same : (r width : ℕ) (x y : RowValue) → IsRow width x →
    x ≡ y → bytes_of_all (item_of_difference r 0 width x y).ops ≡ []
item_same r width x y hx e =
    let px = paired_of x.cells hx.paired in
    ap (λ (z : RowValue). bytes_of_all (item_of_difference r 0 width x z).ops) (sym e)
    ∙ (ap bytes_of_all (item_is r width x x hx.columns px)
    ∙ (ap (λ (z : Scripted). bytes_of_all (item_after r z x.wrapped x.cells))
    (cells_nothing r 0 0 (pen_at r 0 default_attrs) x.wrapped x.cells)
    ∙ ap bytes_of_all (end_nothing r x.wrapped x.cells)))

pub difference_item_empty : (self prev : Picture) (r : ℕ) → IsPicture self →
    IsPicture prev → SamePictureSize self prev → r < length self.rows →
    (bytes_of_all
    (item_of_difference r 0 self.width (row_or self.width self.rows r) (row_or prev.width prev.rows r)).ops
    ≡ [])
    ↔ (row_or self.width self.rows r ≡ row_or prev.width prev.rows r)
difference_item_empty self prev r is other size low =
    let same = size.width in
    let tall = size.height in
    let x = row_or self.width self.rows r in
    let y = row_or prev.width prev.rows r in
    let hx : IsRow self.width x = is.rows r _ low in
    let hy : IsRow self.width y =
    subst (λ (w : ℕ). IsRow w (row_or prev.width prev.rows r)) (sym same) (other.rows r _ (omega arith)) in
    (item_none r self.width x y is.has_columns hx hy, item_same r self.width x y hx)
