-- Steps of the writer through the cells of a row.
use Rattle.std.proofs.Common.{◌≡◌, ℕ, zero, suc, ◌+◌, ◌<◌, ◌≤◌, ◌||◌, Bool, true, false, List, [], ◌∷◌, ◌++◌}
use Rattle.std.proofs.Common.{length, drop, refl, sym, ap, subst, ◌∙◌, arith, append_assoc, append-nil}
use Rattle.std.proofs.lemmas.Bool.{cond-true, cond-false}
use Rattle.std.proofs.lemmas.List.Concat.{flat_map-append}
use Rattle.std.proofs.lemmas.List.{drop_more, drop_all, drop-drop, length-drop}
use Rattle.std.proofs.Math.Bool.{or-true}
use Rattle.std.proofs.Math.Numerals.{one-add}
use Rattle.vt_cells.proofs.Attributes.{same_attrs-itself}
use Rattle.vt_cells.specs.Attrs.{default_attrs, same_attrs, Attrs}
use Rattle.vt_cells.specs.Cell.{CellValue, blank, glyph, right_half, default_blank, is_blank}
use Rattle.vt_cells.specs.Cell.{is_right_half, is_wide, attrs_of, text_of, same_cell}
use Rattle.vt_cells.specs.Op.{Op, Print, bytes_of, bytes_of_all}
use Rattle.vt_rows.specs.Cells.{at, IsPaired}
use Rattle.vt_redraw.specs.Items.{with_whole_start, with_whole_start_over}
use Rattle.vt_cells.proofs.Cells.{same_cell-itself}
use Rattle.vt_redraw.specs.Internals.{Leads, IsRange, Passes, cells_from}
use Rattle.vt_redraw.proofs.Filling.{room}
use Rattle.vt_cells.specs.Glyph.{glyph_columns}
use Rattle.vt_redraw.specs.Script.{Scripted, ops_then, no_ops, placed_op, blank_run, pen_in, pen_past}
use Rattle.vt_redraw.specs.Script.{cells_written, erase_run, wrapped_after_erasure, wrapped_after_glyph}
use Rattle.vt_redraw.specs.declared.pen.Pen.{Pen}

-- ---- the state of a writer

pub leads_start : (text : List ℕ) (whole : Scripted) → Leads text whole text whole
leads_start text whole = record { bytes = refl; pen = refl; wrapped = refl }

pub leads_then : (t u v : List ℕ) (x y z : Scripted) → Leads u y t x → Leads v z u y → Leads v z t x
leads_then t u v x y z p q = record { bytes = q.bytes ∙ p.bytes; pen = q.pen ∙ p.pen; wrapped = q.wrapped ∙ p.wrapped }

-- After the output of some operations is appended, the output of the others is still to be written.
pub leads_after : (text longer : List ℕ) (ops : List Op) (rest whole : Scripted) →
    longer ≡ text ++ bytes_of_all ops → whole ≡ ops_then ops rest → Leads longer rest text whole
leads_after text longer ops rest whole e f =
    let bytes : longer ++ bytes_of_all rest.ops ≡ text ++ bytes_of_all (ops_then ops rest).ops =
    ap (λ (z : List ℕ). z ++ bytes_of_all rest.ops) e
    ∙ (append_assoc text (bytes_of_all ops) (bytes_of_all rest.ops)
    ∙ ap (λ (z : List ℕ). text ++ z) (sym (flat_map-append bytes_of ops rest.ops))) in
    record {
      bytes = bytes ∙ ap (λ (w : Scripted). text ++ bytes_of_all w.ops) (sym f);
      pen = ap (λ (w : Scripted). w.pen) (sym f);
      wrapped = ap (λ (w : Scripted). w.wrapped) (sym f);
    }

pub leads_same : (text : List ℕ) (rest whole : Scripted) → whole ≡ rest → Leads text rest text whole
leads_same text rest whole f = record {
  bytes = ap (λ (w : Scripted). text ++ bytes_of_all w.ops) (sym f);
  pen = ap (λ (w : Scripted). w.pen) (sym f);
  wrapped = ap (λ (w : Scripted). w.wrapped) (sym f);
}

-- If no output is left to write, the text is complete.
pub leads_text : (text start : List ℕ) (rest whole : Scripted) (pen : Pen) (wrapped : Bool) →
    rest ≡ no_ops pen wrapped → Leads text rest start whole → text ≡ start ++ bytes_of_all whole.ops
leads_text text start rest whole pen wrapped e h =
    sym (append-nil text) ∙ (ap (λ (w : Scripted). text ++ bytes_of_all w.ops) (sym e) ∙ h.bytes)

-- ---- cells that are done

nothing_left : (r c : ℕ) (pen : Pen) (wrapped : Bool) (k : ℕ) (xs : List CellValue) →
    cells_written r c pen wrapped k xs [] ≡ no_ops pen wrapped
unfolding cells_written
nothing_left r c pen wrapped zero [] = refl
nothing_left r c pen wrapped (suc k) [] = refl
nothing_left r c pen wrapped zero (x ∷ xs) = refl
nothing_left r c pen wrapped (suc k) (x ∷ xs) = refl

pub settled_passed : (r c : ℕ) (pen : Pen) (wrapped : Bool) (k : ℕ) (xs ys : List CellValue) →
    cells_written r c pen wrapped k xs ys ≡ cells_written r (c + k) pen wrapped 0 (drop k xs) (drop k ys)
unfolding cells_written
settled_passed r c pen wrapped zero xs ys = ap (λ (n : ℕ). cells_written r n pen wrapped 0 xs ys) (omega arith)
settled_passed r c pen wrapped (suc k) [] ys = refl
settled_passed r c pen wrapped (suc k) (x ∷ xs) [] = sym (nothing_left r (c + suc k) pen wrapped 0 (drop k xs))
settled_passed r c pen wrapped (suc k) (x ∷ xs) (y ∷ ys) =
    settled_passed r (c + 1) pen wrapped k xs ys
    ∙ ap (λ (n : ℕ). cells_written r n pen wrapped 0 (drop k xs) (drop k ys)) (omega arith)

-- ---- one cell, in terms of lists

-- The continuation cell of a wide character that the terminal displays needs no output.
half_passed : (r c : ℕ) (pen : Pen) (wrapped : Bool) (xs ys : List CellValue) →
    (0 < length xs → is_right_half (at xs 0) ≡ true) →
    cells_written r c pen wrapped 1 xs ys ≡ cells_written r c pen wrapped 0 xs ys
unfolding cells_written
half_passed r c pen wrapped [] ys h = refl
half_passed r c pen wrapped (blank a ∷ xs) ys h = let t = h (omega arith) in absurd cc
half_passed r c pen wrapped (glyph text wide a ∷ xs) ys h = let t = h (omega arith) in absurd cc
half_passed r c pen wrapped (right_half ∷ xs) [] h = refl
half_passed r c pen wrapped (right_half ∷ xs) (y ∷ ys) h = refl

passed : (r c : ℕ) (pen : Pen) (wrapped : Bool) (x : CellValue)
    (xs : List CellValue) (y : CellValue) (ys : List CellValue) →
    (is_right_half x || same_cell x y) ≡ true → (is_wide x ≡ true → 0 < length xs → is_right_half (at xs 0) ≡ true) →
    cells_written r c pen wrapped 0 (x ∷ xs) (y ∷ ys) ≡ cells_written r (c + 1) pen wrapped 0 xs ys
unfolding cells_written
passed r c pen wrapped right_half xs y ys h paired = refl
passed r c pen wrapped (blank a) xs y ys h paired = cond-true (same_cell (blank a) y) _ _ h
passed r c pen wrapped (glyph text false a) xs y ys h paired = cond-true (same_cell (glyph text false a) y) _ _ h
passed r c pen wrapped (glyph text true a) xs y ys h paired =
    cond-true (same_cell (glyph text true a) y) _ _ h ∙ half_passed r (c + 1) pen wrapped xs ys (paired refl)

glyph_printed : (r c : ℕ) (pen : Pen) (wrapped : Bool) (x : CellValue)
    (xs : List CellValue) (y : CellValue) (ys : List CellValue) →
    (is_right_half x || same_cell x y) ≡ false → is_blank x ≡ false →
    cells_written r c pen wrapped 0 (x ∷ xs) (y ∷ ys)
    ≡ ops_then (placed_op pen r c (attrs_of x) (Print (text_of x)))
    (cells_written r (c + glyph_columns (is_wide x)) (pen_past pen.form r (c + glyph_columns (is_wide x)) (attrs_of x) (text_of x))
    (wrapped_after_glyph wrapped (is_wide x) (drop (glyph_columns (is_wide x)) (y ∷ ys))) 0
    (drop (glyph_columns (is_wide x)) (x ∷ xs)) (drop (glyph_columns (is_wide x)) (y ∷ ys)))
unfolding cells_written
glyph_printed r c pen wrapped right_half xs y ys h b = absurd cc
glyph_printed r c pen wrapped (blank a) xs y ys h b = absurd cc
glyph_printed r c pen wrapped (glyph text false a) xs y ys h b = cond-false (same_cell (glyph text false a) y) _ _ h
glyph_printed r c pen wrapped (glyph text true a) xs y ys h b =
    cond-false (same_cell (glyph text true a) y) _ _ h
    ∙ ap (ops_then (placed_op pen r c a (Print text)))
    (settled_passed r (c + 1) (pen_past pen.form r (c + 2) a text)
    (wrapped_after_glyph wrapped true (drop 1 ys)) 1 xs ys
    ∙ ap
    (λ (n : ℕ). cells_written r n (pen_past pen.form r (c + 2) a text) (wrapped_after_glyph wrapped true (drop 1 ys)) 0
    (drop 1 xs) (drop 1 ys))
    (omega arith))

run_first : (a : Attrs) (xs : List CellValue) → blank_run a (blank a ∷ xs) ≡ suc (blank_run a xs)
run_first a xs = cond-true (same_attrs a a) (1 + blank_run a xs) 0 (same_attrs-itself a) ∙ one-add (blank_run a xs)

run_here : (r c : ℕ) (pen : Pen) (wrapped : Bool) (a : Attrs) (xs : List CellValue) (y : CellValue)
    (ys : List CellValue) → same_cell (blank a) y ≡ false →
    cells_written r c pen wrapped 0 (blank a ∷ xs) (y ∷ ys)
    ≡ ops_then (placed_op pen r c a (erase_run pen.form (suc (blank_run a xs)) (drop (blank_run a xs) ys)))
    (cells_written r (c + suc (blank_run a xs)) (pen_in pen.form r c a)
    (wrapped_after_erasure wrapped (drop (blank_run a xs) ys)) 0 (drop (blank_run a xs) xs) (drop (blank_run a xs) ys))
unfolding cells_written
run_here r c pen wrapped a xs y ys h =
    let n = blank_run a xs in
    let f = wrapped_after_erasure wrapped (drop n ys) in
    cond-false (same_cell (blank a) y) _ _ h
    ∙ ap (ops_then (placed_op pen r c a (erase_run pen.form (suc n) (drop n ys))))
    (settled_passed r (c + 1) (pen_in pen.form r c a) f n xs ys
    ∙ ap (λ (k : ℕ). cells_written r k (pen_in pen.form r c a) f 0 (drop n xs) (drop n ys)) (omega arith))

blank_is : (x : CellValue) → is_blank x ≡ true → x ≡ blank (attrs_of x)
blank_is (blank a) h = refl
blank_is (glyph text wide a) h = absurd cc
blank_is right_half h = absurd cc

run_erased : (r c : ℕ) (pen : Pen) (wrapped : Bool) (x : CellValue)
    (xs : List CellValue) (y : CellValue) (ys : List CellValue) (n : ℕ) →
    (is_right_half x || same_cell x y) ≡ false → is_blank x ≡ true → n ≡ blank_run (attrs_of x) (x ∷ xs) →
    cells_written r c pen wrapped 0 (x ∷ xs) (y ∷ ys)
    ≡ ops_then (placed_op pen r c (attrs_of x) (erase_run pen.form n (drop n (y ∷ ys))))
    (cells_written r (c + n) (pen_in pen.form r c (attrs_of x))
    (wrapped_after_erasure wrapped (drop n (y ∷ ys))) 0 (drop n (x ∷ xs)) (drop n (y ∷ ys)))
run_erased r c pen wrapped (blank a) xs y ys n h b count =
    let e : suc (blank_run a xs) ≡ n = sym (count ∙ run_first a xs) in
    run_here r c pen wrapped a xs y ys h
    ∙ ap (λ (m : ℕ). ops_then (placed_op pen r c a (erase_run pen.form m (drop m (y ∷ ys))))
    (cells_written r (c + m) (pen_in pen.form r c a) (wrapped_after_erasure wrapped (drop m (y ∷ ys)))
    0 (drop m (blank a ∷ xs)) (drop m (y ∷ ys))))
    e
run_erased r c pen wrapped (glyph text wide a) xs y ys n h b count = absurd cc
run_erased r c pen wrapped right_half xs y ys n h b count = absurd cc

-- ---- one cell, from a column on

from_column : (xs : List CellValue) (c : ℕ) → c < length xs → drop c xs ≡ at xs c ∷ drop (c + 1) xs
from_column xs c h = drop_more xs c default_blank h

-- The output from column c on can be split into the cell at column c and the cells after it.
at_column : (r c : ℕ) (pen : Pen) (wrapped : Bool) (xs ys : List CellValue) → c < length xs → length xs ≤ length ys →
    cells_from r c pen wrapped xs ys ≡ cells_written r c pen wrapped 0 (at xs c ∷ drop (c + 1) xs)
    (at ys c ∷ drop (c + 1) ys)
at_column r c pen wrapped xs ys h le =
    ap (λ (zs : List CellValue). cells_written r c pen wrapped 0 zs (drop c ys)) (from_column xs c h)
    ∙ ap (λ (zs : List CellValue). cells_written r c pen wrapped 0 (at xs c ∷ drop (c + 1) xs) zs)
    (from_column ys c (omega arith))

-- Dropping n cells from the cells at and after column c gives the cells from column c + n on.
behind : (c n : ℕ) (xs : List CellValue) → c < length xs → drop n (at xs c ∷ drop (c + 1) xs) ≡ drop (c + n) xs
behind c n xs h = ap (drop n) (sym (from_column xs c h)) ∙ drop-drop n c xs

head_at : (xs : List CellValue) (k : ℕ) → at (drop k xs) 0 ≡ at xs k
head_at xs zero = refl
head_at [] (suc k) = refl
head_at (x ∷ xs) (suc k) = head_at xs k

first_half : (xs ys : List CellValue) (c : ℕ) → IsRange xs ys → is_wide (at xs c) ≡ true →
    0 < length (drop (c + 1) xs) → is_right_half (at (drop (c + 1) xs) 0) ≡ true
first_half xs ys c range h some =
    let size = length-drop (c + 1) xs in
    ap is_right_half (head_at xs (c + 1)) ∙ range.halves c h (omega arith)

-- ---- columns that need no output

pub passes_none : (c : ℕ) (xs ys : List CellValue) → Passes c c xs ys
passes_none c xs ys = record { same = λ r pen wrapped. refl }

pub passes_then : (c d e : ℕ) (xs ys : List CellValue) → Passes c d xs ys → Passes d e xs ys → Passes c e xs ys
passes_then c d e xs ys p q = record { same = λ r pen wrapped. p.same r pen wrapped ∙ q.same r pen wrapped }

pub passes_cell : (c : ℕ) (xs ys : List CellValue) → c < length xs → IsRange xs ys →
    (is_right_half (at xs c) || same_cell (at xs c) (at ys c)) ≡ true → Passes c (c + 1) xs ys
passes_cell c xs ys h range same = record {
  same =
      λ r pen wrapped. at_column r c pen wrapped xs ys h range.inside
      ∙ passed r c pen wrapped (at xs c) (drop (c + 1) xs) (at ys c) (drop (c + 1) ys) same (first_half xs ys c range);
}

-- A run of cells that are equal in both rows needs no output.
pub passes_run : (c n : ℕ) (xs ys : List CellValue) → IsRange xs ys → (0 < n → c + n ≤ length xs)
    → ((k : ℕ) → k < n → at xs (c + k) ≡ at ys (c + k)) → Passes c (c + n) xs ys
passes_run c zero xs ys range inside same =
    subst (λ m. Passes c m xs ys) (omega arith) (passes_none c xs ys)
passes_run c (suc n) xs ys range inside same =
    let here = inside (omega arith) in
    let stands : (is_right_half (at xs (c + n)) || same_cell (at xs (c + n)) (at ys (c + n))) ≡ true =
    rw (same n (omega arith), same_cell-itself (at ys (c + n))) (or-true (is_right_half (at ys (c + n)))) in
    subst (λ m. Passes c m xs ys) (omega arith)
    (passes_then c (c + n) (c + n + 1) xs ys
    (passes_run c n xs ys range (λ _. omega (arith, here)) (λ k lt. same k (omega arith)))
    (passes_cell (c + n) xs ys (omega (arith, here)) range stands))

pub passes_leads : (c next r : ℕ) (pen : Pen) (wrapped : Bool) (xs ys : List CellValue) (text : List ℕ) →
    Passes c next xs ys → Leads text (cells_from r next pen wrapped xs ys) text (cells_from r c pen wrapped xs ys)
passes_leads c next r pen wrapped xs ys text p =
    leads_same text (cells_from r next pen wrapped xs ys) (cells_from r c pen wrapped xs ys) (p.same r pen wrapped)

pub next_glyph : (r c n : ℕ) (pen next : Pen) (wrapped then : Bool) (xs ys : List CellValue) (text longer : List ℕ) →
    c < length xs → length xs ≤ length ys →
    (is_right_half (at xs c) || same_cell (at xs c) (at ys c)) ≡ false →
    is_blank (at xs c) ≡ false → n ≡ glyph_columns (is_wide (at xs c)) →
    longer ≡ text ++ bytes_of_all (placed_op pen r c (attrs_of (at xs c)) (Print (text_of (at xs c)))) →
    next ≡ pen_past pen.form r (c + glyph_columns (is_wide (at xs c))) (attrs_of (at xs c)) (text_of (at xs c)) →
    then ≡ wrapped_after_glyph wrapped (is_wide (at xs c)) (drop (c + n) ys) →
    Leads longer (cells_from r (c + n) next then xs ys) text (cells_from r c pen wrapped xs ys)
next_glyph r c n pen next wrapped then xs ys text longer h le other b count told pens flags =
    let x = at xs c in
    let ops = placed_op pen r c (attrs_of x) (Print (text_of x)) in
    let m = glyph_columns (is_wide x) in
    leads_after text longer ops (cells_from r (c + n) next then xs ys) (cells_from r c pen wrapped xs ys) told
    (at_column r c pen wrapped xs ys h le
    ∙ (glyph_printed r c pen wrapped x (drop (c + 1) xs) (at ys c) (drop (c + 1) ys) other b
    ∙ (ap (λ (zs : List CellValue). ops_then ops
    (cells_written r (c + m) (pen_past pen.form r (c + m) (attrs_of x) (text_of x))
    (wrapped_after_glyph wrapped (is_wide x) (drop m (at ys c ∷ drop (c + 1) ys))) 0 zs
    (drop m (at ys c ∷ drop (c + 1) ys))))
    (behind c m xs h)
    ∙ (ap (λ (zs : List CellValue). ops_then ops
    (cells_written r (c + m) (pen_past pen.form r (c + m) (attrs_of x) (text_of x))
    (wrapped_after_glyph wrapped (is_wide x) zs) 0 (drop (c + m) xs) zs))
    (behind c m ys (omega arith))
    ∙ (ap (λ (p : Pen). ops_then ops
    (cells_written r (c + m) p (wrapped_after_glyph wrapped (is_wide x) (drop (c + m) ys)) 0 (drop (c + m) xs)
    (drop (c + m) ys)))
    (sym pens)
    ∙ (ap (λ (k : ℕ). ops_then ops
    (cells_written r (c + k) next (wrapped_after_glyph wrapped (is_wide x) (drop (c + k) ys))
    0 (drop (c + k) xs) (drop (c + k) ys)))
    (sym count)
    ∙ ap (λ (f : Bool). ops_then ops (cells_from r (c + n) next f xs ys)) (sym flags)))))))

pub next_run : (r c n : ℕ) (pen next : Pen) (wrapped then : Bool)
    (xs ys : List CellValue) (a : Attrs) (text longer : List ℕ) →
    c < length xs → length xs ≤ length ys →
    (is_right_half (at xs c) || same_cell (at xs c) (at ys c)) ≡ false →
    is_blank (at xs c) ≡ true → a ≡ attrs_of (at xs c) → n ≡ blank_run a (drop c xs) →
    longer ≡ text ++ bytes_of_all (placed_op pen r c a (erase_run pen.form n (drop (c + n) ys))) → next ≡ pen_in pen.form r c a →
    then ≡ wrapped_after_erasure wrapped (drop (c + n) ys) →
    Leads longer (cells_from r (c + n) next then xs ys) text (cells_from r c pen wrapped xs ys)
next_run r c n pen next wrapped then xs ys a text longer h le other b same count told pens flags =
    let x = at xs c in
    let ops = λ (zs : List CellValue). placed_op pen r c a (erase_run pen.form n zs) in
    let counted : n ≡ blank_run (attrs_of x) (x ∷ drop (c + 1) xs) =
    count ∙ (ap (blank_run a) (from_column xs c h) ∙ ap (λ (z : Attrs). blank_run z (x ∷ drop (c + 1) xs)) same) in
    leads_after text longer (ops (drop (c + n) ys))
    (cells_from r (c + n) next then xs ys) (cells_from r c pen wrapped xs ys) told
    (at_column r c pen wrapped xs ys h le
    ∙ (run_erased r c pen wrapped x (drop (c + 1) xs) (at ys c) (drop (c + 1) ys) n other b counted
    ∙ (ap (λ (z : Attrs). ops_then (placed_op pen r c z (erase_run pen.form n (drop n (at ys c ∷ drop (c + 1) ys))))
    (cells_written r (c + n) (pen_in pen.form r c z)
    (wrapped_after_erasure wrapped (drop n (at ys c ∷ drop (c + 1) ys)))
    0 (drop n (x ∷ drop (c + 1) xs)) (drop n (at ys c ∷ drop (c + 1) ys))))
    (sym same)
    ∙ (ap (λ (zs : List CellValue). ops_then (ops (drop n (at ys c ∷ drop (c + 1) ys)))
    (cells_written r (c + n) (pen_in pen.form r c a)
    (wrapped_after_erasure wrapped (drop n (at ys c ∷ drop (c + 1) ys))) 0 zs (drop n (at ys c ∷ drop (c + 1) ys))))
    (behind c n xs h)
    ∙ (ap (λ (zs : List CellValue). ops_then (ops zs)
    (cells_written r (c + n) (pen_in pen.form r c a) (wrapped_after_erasure wrapped zs) 0 (drop (c + n) xs) zs))
    (behind c n ys (omega arith))
    ∙ (ap (λ (p : Pen). ops_then (ops (drop (c + n) ys))
    (cells_written r (c + n) p (wrapped_after_erasure wrapped (drop (c + n) ys)) 0 (drop (c + n) xs) (drop (c + n) ys)))
    (sym pens)
    ∙ ap (λ (f : Bool). ops_then (ops (drop (c + n) ys)) (cells_from r (c + n) next f xs ys)) (sym flags)))))))

pub run_some : (a : Attrs) (xs : List CellValue) (c n : ℕ) → c < length xs →
    is_blank (at xs c) ≡ true → a ≡ attrs_of (at xs c) → n ≡ blank_run a (drop c xs) → 0 < n
run_some a xs c n h b same count =
    let first : at xs c ≡ blank a = blank_is (at xs c) b ∙ ap blank (sym same) in
    let all : n ≡ suc (blank_run a (drop (c + 1) xs)) =
    count
    ∙ (ap (blank_run a) (from_column xs c h)
    ∙ (ap (λ (z : CellValue). blank_run a (z ∷ drop (c + 1) xs)) first ∙ run_first a (drop (c + 1) xs))) in
    omega arith

-- All columns of a glyph in a range lie within the row that the terminal displays.
pub glyph_inside : (xs ys : List CellValue) (c : ℕ) → c < length xs →
    IsRange xs ys → c + glyph_columns (is_wide (at xs c)) ≤ length ys
glyph_inside xs ys c h range = by_width (is_wide (at xs c)) refl where
  by_width : (w : Bool) → is_wide (at xs c) ≡ w → c + glyph_columns w ≤ length ys
  by_width false e = let le = range.inside in omega arith
  by_width true e = let r = range.room c e in omega arith

-- ---- the end of a row

pub cells_end : (r c : ℕ) (pen : Pen) (wrapped : Bool) (xs ys : List CellValue) →
    length xs ≤ c → cells_from r c pen wrapped xs ys ≡ no_ops pen wrapped
unfolding cells_written
cells_end r c pen wrapped xs ys h =
    ap (λ (zs : List CellValue). cells_written r c pen wrapped 0 zs (drop c ys)) (drop_all c xs h)

-- ---- a cell that was read from a column

pub glyph_leads : (r c n : ℕ) (pen next : Pen) (wrapped then : Bool)
    (xs ys : List CellValue) (x : CellValue) (text longer : List ℕ) →
    x ≡ at xs c → c < length xs → length xs ≤ length ys →
    (is_right_half (at xs c) || same_cell (at xs c) (at ys c)) ≡ false →
    is_blank x ≡ false → n ≡ glyph_columns (is_wide x) →
    longer ≡ text ++ bytes_of_all (placed_op pen r c (attrs_of x) (Print (text_of x))) →
    next ≡ pen_past pen.form r (c + glyph_columns (is_wide x)) (attrs_of x) (text_of x) →
    then ≡ wrapped_after_glyph wrapped (is_wide x) (drop (c + n) ys) →
    Leads longer (cells_from r (c + n) next then xs ys) text (cells_from r c pen wrapped xs ys)
glyph_leads r c n pen next wrapped then xs ys x text longer e h le other =
    subst (λ (z : CellValue). is_blank z ≡ false → n ≡ glyph_columns (is_wide z) →
    longer ≡ text ++ bytes_of_all (placed_op pen r c (attrs_of z) (Print (text_of z))) →
    next ≡ pen_past pen.form r (c + glyph_columns (is_wide z)) (attrs_of z) (text_of z) →
    then ≡ wrapped_after_glyph wrapped (is_wide z) (drop (c + n) ys) →
    Leads longer (cells_from r (c + n) next then xs ys) text (cells_from r c pen wrapped xs ys))
    (sym e) (λ b count told pens flags. next_glyph r c n pen next
    wrapped then xs ys text longer h le other b count told pens flags)

pub over_end : (r c : ℕ) (pen : Pen) (wrapped : Bool) (xs ys : List CellValue) →
    length ys ≤ c → cells_from r c pen wrapped xs ys ≡ no_ops pen wrapped
over_end r c pen wrapped xs ys h =
    ap (λ (zs : List CellValue). cells_written r c pen wrapped 0 (drop c xs) zs) (drop_all c ys h)
    ∙ nothing_left r c pen wrapped 0 (drop c xs)

-- The cells of one row can be drawn as a range over the cells of a row of the same width.
pub range_of : (xs ys : List CellValue) → length xs ≡ length ys → IsPaired xs → IsRange xs ys
range_of xs ys same paired = record {
  inside = omega arith;
  halves = λ k wide inside. sym (paired.halves k) ∙ wide;
  room = λ k wide. let r = room xs k paired wide in omega arith;
}

-- ---- the first column of a range

-- A continuation cell in the first column of a range needs no output if the terminal displays one there, too.
pub half_stands : (r c : ℕ) (pen : Pen) (wrapped : Bool) (xs ys : List CellValue) (text : List ℕ) →
    c < length xs → length xs ≤ length ys → is_right_half (at xs c) ≡ true → is_right_half (at ys c) ≡ true →
    Leads text (cells_from r (c + 1) pen wrapped xs ys) text
    (cells_written r c pen wrapped 0 (with_whole_start (drop c xs)) (with_whole_start_over (drop c xs) (drop c ys)))
half_stands r c pen wrapped xs ys text h le e f =
    leads_same text (cells_from r (c + 1) pen wrapped xs ys)
    (cells_written r c pen wrapped 0 (with_whole_start (drop c xs)) (with_whole_start_over (drop c xs) (drop c ys)))
    (ap (λ (zs : List CellValue). cells_written r c pen wrapped 0 (with_whole_start zs)
    (with_whole_start_over zs (drop c ys))) (from_column xs c h)
    ∙ (ap (λ (zs : List CellValue). cells_written r c pen wrapped 0
    (with_whole_start (at xs c ∷ drop (c + 1) xs)) (with_whole_start_over (at xs c ∷ drop (c + 1) xs) zs))
    (from_column ys c (omega arith))
    ∙ both (at xs c) (drop (c + 1) xs) (at ys c) (drop (c + 1) ys) e f)) where
      both : (x : CellValue) (more : List CellValue) (y : CellValue) (rest : List CellValue) →
          is_right_half x ≡ true → is_right_half y ≡ true →
          cells_written r c pen wrapped 0 (with_whole_start (x ∷ more)) (with_whole_start_over (x ∷ more) (y ∷ rest))
          ≡ cells_written r (c + 1) pen wrapped 0 more rest
      both right_half more right_half rest e f =
          passed r c pen wrapped default_blank more default_blank rest (same_cell-itself default_blank) (λ w. absurd cc)
      both right_half more (blank b) rest e f = absurd cc
      both right_half more (glyph text wide b) rest e f = absurd cc
      both (blank a) more y rest e f = absurd cc
      both (glyph text wide a) more y rest e f = absurd cc

-- A cell in the first column of a range that is no continuation cell is written as in a whole row.
pub begin_same : (r c : ℕ) (pen : Pen) (wrapped : Bool) (xs ys : List CellValue) (text : List ℕ) →
    is_right_half (at xs c) ≡ false →
    Leads text (cells_from r c pen wrapped xs ys) text
    (cells_written r c pen wrapped 0 (with_whole_start (drop c xs)) (with_whole_start_over (drop c xs) (drop c ys)))
begin_same r c pen wrapped xs ys text e =
    leads_same text (cells_from r c pen wrapped xs ys)
    (cells_written r c pen wrapped 0 (with_whole_start (drop c xs)) (with_whole_start_over (drop c xs) (drop c ys)))
    (ap (λ (zs : List CellValue). cells_written r c pen wrapped 0 zs (with_whole_start_over (drop c xs) (drop c ys)))
    (begun_is (drop c xs) other)
    ∙ ap (cells_written r c pen wrapped 0 (drop c xs)) (over_is (drop c xs) (drop c ys) other)) where
      other : is_right_half (at (drop c xs) 0) ≡ false
      other = ap is_right_half (head_at xs c) ∙ e

      begun_is : (zs : List CellValue) → is_right_half (at zs 0) ≡ false → with_whole_start zs ≡ zs
      begun_is [] h = refl
      begun_is (blank a ∷ zs) h = refl
      begun_is (glyph t w a ∷ zs) h = refl
      begun_is (right_half ∷ zs) h = absurd cc

      over_is : (zs ws : List CellValue) → is_right_half (at zs 0) ≡ false → with_whole_start_over zs ws ≡ ws
      over_is [] ws h = refl
      over_is (blank a ∷ zs) ws h = refl
      over_is (glyph t w a ∷ zs) ws h = refl
      over_is (right_half ∷ zs) ws h = absurd cc

begun_erased : (r c m : ℕ) (pen : Pen) (wrapped : Bool) (more : List CellValue) (y : CellValue)
    (under : List CellValue) → m ≡ blank_run default_attrs (default_blank ∷ more) →
    cells_written r c pen wrapped 0 (default_blank ∷ more) (right_half ∷ under)
    ≡ ops_then (placed_op pen r c default_attrs (erase_run pen.form m (drop m (y ∷ under))))
    (cells_written r (c + m) (pen_in pen.form r c default_attrs) (wrapped_after_erasure wrapped (drop m (y ∷ under)))
    0 (drop m (right_half ∷ more)) (drop m (y ∷ under)))
unfolding same_cell
begun_erased r c m pen wrapped more y under e =
    subst (λ (j : ℕ). cells_written r c pen wrapped 0 (default_blank ∷ more) (right_half ∷ under)
    ≡ ops_then (placed_op pen r c default_attrs (erase_run pen.form j (drop j (y ∷ under))))
    (cells_written r (c + j) (pen_in pen.form r c default_attrs) (wrapped_after_erasure wrapped (drop j (y ∷ under)))
    0 (drop j (right_half ∷ more)) (drop j (y ∷ under))))
    (sym (e ∙ run_first default_attrs more))
    (run_erased r c pen wrapped default_blank more right_half under
    (suc (blank_run default_attrs more)) refl refl (sym (run_first default_attrs more)))

one_erased : (r c m : ℕ) (pen : Pen) (wrapped : Bool) (x : CellValue)
    (more : List CellValue) (y : CellValue) (under : List CellValue) →
    is_right_half x ≡ true → is_right_half y ≡ false → m ≡ blank_run default_attrs (default_blank ∷ more) →
    cells_written r c pen wrapped 0 (with_whole_start (x ∷ more)) (with_whole_start_over (x ∷ more) (y ∷ under))
    ≡ ops_then (placed_op pen r c default_attrs (erase_run pen.form m (drop m (y ∷ under))))
    (cells_written r (c + m) (pen_in pen.form r c default_attrs)
    (wrapped_after_erasure wrapped (drop m (y ∷ under))) 0 (drop m (x ∷ more)) (drop m (y ∷ under)))
one_erased r c m pen wrapped right_half more (blank b) under e f k = begun_erased r c m pen wrapped more
    (blank b) under k
one_erased r c m pen wrapped right_half more (glyph text wide b) under e f k =
    begun_erased r c m pen wrapped more (glyph text wide b) under k
one_erased r c m pen wrapped right_half more right_half under e f k = absurd cc
one_erased r c m pen wrapped (blank a) more y under e f k = absurd cc
one_erased r c m pen wrapped (glyph text wide a) more y under e f k = absurd cc

-- A continuation cell in the first column of a range is erased if the terminal displays none there.
pub half_erased : (r c n m : ℕ) (pen next : Pen) (wrapped then : Bool) (xs ys : List CellValue) (text longer : List ℕ) →
    c < length xs → length xs ≤ length ys → is_right_half (at xs c) ≡ true → is_right_half (at ys c) ≡ false →
    n ≡ blank_run default_attrs (drop (c + 1) xs) → m ≡ n + 1 →
    longer ≡ text ++ bytes_of_all (placed_op pen r c default_attrs (erase_run pen.form m (drop (c + m) ys))) →
    next ≡ pen_in pen.form r c default_attrs → then ≡ wrapped_after_erasure wrapped (drop (c + m) ys) →
    Leads longer (cells_from r (c + m) next then xs ys) text
    (cells_written r c pen wrapped 0 (with_whole_start (drop c xs)) (with_whole_start_over (drop c xs) (drop c ys)))
half_erased r c n m pen next wrapped then xs ys text longer h le e f count more told pens flags =
    let ops = λ (zs : List CellValue). placed_op pen r c default_attrs (erase_run pen.form m zs) in
    let x = at xs c in
    let y = at ys c in
    let rest = drop (c + 1) xs in
    let under = drop (c + 1) ys in
    leads_after text longer (ops (drop (c + m) ys)) (cells_from r (c + m) next then xs ys)
    (cells_written r c pen wrapped 0 (with_whole_start (drop c xs))
    (with_whole_start_over (drop c xs) (drop c ys))) told
    (ap (λ (zs : List CellValue). cells_written r c pen wrapped 0 (with_whole_start zs)
    (with_whole_start_over zs (drop c ys))) (from_column xs c h)
    ∙ (ap (λ (zs : List CellValue). cells_written r c pen wrapped 0 (with_whole_start (x ∷ rest))
    (with_whole_start_over (x ∷ rest) zs)) (from_column ys c (omega arith))
    ∙ (one_erased r c m pen wrapped x rest y under e f (more ∙ (ap (λ (k : ℕ). k + 1) count ∙ sym (run_first_one rest)))
    ∙ (ap (λ (zs : List CellValue). ops_then (ops (drop m (y ∷ under)))
    (cells_written r (c + m) (pen_in pen.form r c default_attrs)
    (wrapped_after_erasure wrapped (drop m (y ∷ under))) 0 zs (drop m (y ∷ under))))
    (behind c m xs h)
    ∙ (ap (λ (zs : List CellValue). ops_then (ops zs)
    (cells_written r (c + m) (pen_in pen.form r c default_attrs) (wrapped_after_erasure wrapped zs) 0
    (drop (c + m) xs) zs))
    (behind c m ys (omega arith))
    ∙ (ap (λ (p : Pen). ops_then (ops (drop (c + m) ys))
    (cells_written r (c + m) p (wrapped_after_erasure wrapped (drop (c + m) ys)) 0 (drop (c + m) xs) (drop (c + m) ys)))
    (sym pens)
    ∙ ap (λ (b : Bool). ops_then (ops (drop (c + m) ys)) (cells_from r (c + m) next b xs ys)) (sym flags))))))) where
      run_first_one : (zs : List CellValue) →
          blank_run default_attrs (default_blank ∷ zs) ≡ blank_run default_attrs zs + 1
      run_first_one zs = run_first default_attrs zs ∙ omega arith
