-- Lower bounds on the length of a redraw.
use Rattle.std.proofs.Common.{◌≡◌, ℕ, zero, suc, ◌+◌, ◌-◌, ◌<◌, ◌≤◌, Bool, true, false, List, [], ◌∷◌, ◌++◌, length, refl}
use Rattle.std.proofs.Common.{ap, sym, subst, ◌∙◌, arith, take, drop, length-append, append-nil}
use Rattle.std.specs.Prelude.{All, Option, Some, None, replicate, slice_index_or, ◌||◌, ◌&&◌, not, if◌then◌else◌}
use Rattle.std.specs.List.{AllByRecursion}
use Rattle.std.proofs.Math.Numerals.{one-add}
use Rattle.std.proofs.lemmas.Bool.{cond-false, cond-true, cond_both}
use Rattle.std.proofs.lemmas.List.{at_drop_more, take_more}
use Rattle.std.proofs.lemmas.List.Elements.{recursion_from_All}
use Rattle.vt_cells.specs.Attrs.{Attrs, default_attrs, same_attrs}
use Rattle.vt_cells.specs.Cell.{CellValue, IsCell, default_blank, blank, glyph, right_half, attrs_of, same_cell, text_of}
use Rattle.vt_cells.specs.Internals.{HeadValue, head_of_cell}
use Rattle.vt_cells.specs.Glyph.{glyph_columns}
use Rattle.vt_cells.specs.Op.{ClearAttrs, EraseBelow, Hide, MoveTo, Op, Print, bytes_of, bytes_of_all, change_numbers}
use Rattle.vt_cells.specs.Op.{change_text, csi, semicolon_list, ChangeAttrs}
use Rattle.vt_cells.proofs.Glyphs.{IsGlyphText-length}
use Rattle.vt_cells.proofs.Attributes.{same_attrs-itself}
use Rattle.vt_cells.proofs.Texts.{bytes_of_all-append}
use Rattle.vt_rows.specs.Cells.{at, blanks}
use Rattle.vt_rows.specs.Row.{RowValue, IsRow, blank_row}
use Rattle.vt_grid.specs.Page.{row_or}
use Rattle.vt_redraw.specs.declared.form.Form.{Form}
use Rattle.vt_redraw.specs.declared.pen.Pen.{Pen}
use Rattle.vt_redraw.specs.Limited.{IsEach, change_least, drawn_least, is_undrawn, rows_drawn_least}
use Rattle.vt_redraw.specs.Picture.{Picture}
use Rattle.vt_redraw.specs.Redraw.{blank_like, cursor_written, link_of, pen_of, row_written, rows_below}
use Rattle.vt_redraw.specs.Redraw.{rows_written, script_in, redraw_in}
use Rattle.vt_redraw.specs.Script.{Linked, Scripted, after_last_glyph, blank_run, cells_written, erase_run}
use Rattle.vt_redraw.specs.Script.{first_written, is_at, is_blank_of, move_ops, no_link, ops_then, ops_then_link}
use Rattle.vt_redraw.specs.Script.{wrap_ops}
use Rattle.vt_redraw.specs.Script.{placed_op, row_break, row_link, starts_other, wrapped_after_erasure, wrapped_after_glyph}
use Rattle.vt_redraw.proofs.Halves.{Loose, Paired, loose_step, paired_loose, paired_of, blank_of_is}
use Rattle.vt_redraw.specs.Script.{pen_in, change_ops, resets, pen_past}
use Rattle.vt_redraw.specs.Script.{attr_ops_in}

-- The number of bytes of the output of some operations.
abbrev bytes_len : List Op → ℕ
bytes_len ops = length (bytes_of_all ops)

bytes_both : (ops more : List Op) → bytes_len (ops ++ more) ≡ bytes_len ops + bytes_len more
bytes_both ops more = ap length (bytes_of_all-append ops more) ∙ length-append (bytes_of_all ops) (bytes_of_all more)

-- ---- one operation

csi_len : (parameters : List ℕ) (final : ℕ) → 3 ≤ length (csi parameters final)
csi_len parameters final = let both = length-append parameters (final ∷ []) in omega (arith, both)

changed_least : (same : Bool) (text : List ℕ) → 3 ≤ length text →
    (if same then 0 else 3) ≤ length (if same then [] else text)
changed_least true text h = omega arith
changed_least false text h = h

-- The text of a change to attributes that differ.
change_long : (was new : Attrs) → same_attrs was new ≡ false → 3 ≤ length (change_text was new)
unfolding change_text
change_long was new f =
    let to_default = csi [] 0x6D in
    let to_other = csi (semicolon_list (change_numbers was new)) 0x6D in
    let changed = cond_both (same_attrs new default_attrs) to_default to_other (λ (text : List ℕ). 3 ≤ length text)
    (λ _. csi_len [] 0x6D) (λ _. csi_len (semicolon_list (change_numbers was new)) 0x6D) in
    rw f changed

-- A change of attributes is at least as long as its lower bound.
attrs_least : (form : Form) (was new : Attrs) → change_least (Some was) new ≤ bytes_len (attr_ops_in form was new)
unfolding attr_ops_in
attrs_least form was new = by_test (same_attrs was new) refl where
  by_test : (b : Bool) → same_attrs was new ≡ b →
      (if b then 0 else 3) ≤ bytes_len (if b then [] else change_ops form was new)
  by_test true t = omega arith
  by_test false f =
      cond_both (resets form was new) (ClearAttrs ∷ ChangeAttrs default_attrs new ∷ []) (ChangeAttrs was new ∷ [])
      (λ (ops : List Op). 3 ≤ bytes_len ops)
      (λ _. let more = bytes_both (ClearAttrs ∷ []) (ChangeAttrs default_attrs new ∷ []) in omega (arith, more))
      (λ _. let long = change_long was new f in
      let whole = ap length (append-nil (change_text was new)) in omega (arith, long, whole))

-- An operation is at least as long as the change of attributes before it and its own bytes.
changed_op_least : (form : Form) (was new : Attrs) (op : Op) (ops : List Op) →
    change_least (Some was) new + length (bytes_of op) ≤ bytes_len (attr_ops_in form was new ++ op ∷ ops)
changed_op_least form was new op ops =
    let change = attrs_least form was new in
    let both = bytes_both (attr_ops_in form was new) (op ∷ ops) in
    let more = length-append (bytes_of op) (bytes_of_all ops) in
    omega (arith, change, both, more)

-- The output for a glyph at a pending wrap is at least as long as the change of attributes and the glyph.
wrapped_least : (r : ℕ) (pen : Pen) (new : Attrs) (op : Op) →
    change_least (Some pen.attrs) new + length (bytes_of op)
    ≤ bytes_len (attr_ops_in pen.form pen.attrs new ++ (wrap_ops r pen ++ op ∷ []))
wrapped_least r pen new op =
    let least = changed_op_least pen.form pen.attrs new op [] in
    let near = bytes_both (attr_ops_in pen.form pen.attrs new) (op ∷ []) in
    let far = bytes_both (attr_ops_in pen.form pen.attrs new) (wrap_ops r pen ++ op ∷ []) in
    let both = bytes_both (wrap_ops r pen) (op ∷ []) in
    omega (arith, least, near, far, both)

placed_least : (pen : Pen) (row col : ℕ) (attrs : Attrs) (op : Op) →
    change_least (Some pen.attrs) attrs + length (bytes_of op) ≤ bytes_len (placed_op pen row col attrs op)
placed_least pen row col attrs op =
    let both = bytes_both (move_ops pen row col) (attr_ops_in pen.form pen.attrs attrs ++ op ∷ []) in
    let least = changed_op_least pen.form pen.attrs attrs op [] in
    omega (arith, both, least)

-- ---- cells

-- No change of attributes is counted before the first drawn cell if the attributes before it are unknown.
none_least : (was : Option Attrs) (xs : List CellValue) → drawn_least None xs ≤ drawn_least was xs
none_least was [] = omega arith
none_least was (x ∷ xs) =
    by_kind (is_undrawn x) (none_least was xs) where
      by_kind : (undrawn : Bool) → drawn_least None xs ≤ drawn_least was xs →
          (if undrawn then drawn_least None xs else (0 + (length (text_of x) + drawn_least (Some (attrs_of x)) xs)))
          ≤ (if undrawn then drawn_least was xs
          else (change_least was (attrs_of x) + (length (text_of x) + drawn_least (Some (attrs_of x)) xs)))
      by_kind true h = h
      by_kind false h = omega arith

same_least : (a : Attrs) → change_least (Some a) a ≡ 0
same_least a = rw (same_attrs-itself a) refl

-- The blanks of a run change no attributes after the first.
run_least : (a : Attrs) (xs : List CellValue) →
    drawn_least (Some a) (drop (blank_run a xs) xs) ≡ drawn_least (Some a) xs
run_least a [] = refl
run_least a (x ∷ xs) =
    cond_both (is_blank_of a x) (1 + blank_run a xs) 0
    (λ (n : ℕ). drawn_least (Some a) (drop n (x ∷ xs)) ≡ drawn_least (Some a) (x ∷ xs))
    (λ (t : is_blank_of a x ≡ true).
    let e = blank_of_is a x t in
    let h = run_least a xs in
    let same = same_least a in
    let first = cond_both (same_attrs a default_attrs) (drawn_least (Some a) xs)
    (change_least (Some a) a + (0 + drawn_least (Some a) xs)) (λ (n : ℕ). n ≡ drawn_least (Some a) xs)
    (λ _. refl) (λ _. omega (arith, same)) in
    rw (one-add, e) (omega (arith, h, first)))
    (λ _. refl)

-- The cell after a wide glyph is drawn with the glyph.
half_least : (text : List ℕ) (wide : Bool) (a : Attrs) (xs : List CellValue) → Paired (glyph text wide a ∷ xs) →
    drawn_least (Some a) (drop (glyph_columns wide - 1) xs) ≡ drawn_least (Some a) xs
half_least text false a xs h = refl
half_least text true a [] h = absurd h
half_least text true a (right_half ∷ xs) h = refl
half_least text true a (blank b ∷ xs) h = absurd h
half_least text true a (glyph other wide b ∷ xs) h = absurd h

-- The output for cells over default blanks is at least as long as the lower bound for the cells that are not yet
-- written.
cells_least : (r c : ℕ) (pen : Pen) (wrapped : Bool) (k : ℕ) (xs : List CellValue) (n : ℕ) → Loose xs → length xs ≤ n →
    drawn_least (Some pen.attrs) (drop k xs)
    ≤ bytes_len (cells_written r c pen wrapped k xs (blanks default_attrs n)).ops
unfolding cells_written same_cell
cells_least r c pen wrapped zero [] n h le = omega arith
cells_least r c pen wrapped (suc k) [] n h le = omega arith
cells_least r c pen wrapped k (x ∷ xs) zero h le = absurd (omega (arith, le))
cells_least r c pen wrapped (suc k) (x ∷ xs) (suc n) h le =
    cells_least r (c + 1) pen wrapped k xs n (loose_step x xs h) (omega (arith, le))
cells_least r c pen wrapped zero (right_half ∷ xs) (suc n) h le =
    cells_least r (c + 1) pen wrapped 0 xs n (loose_step right_half xs h) (omega (arith, le))
cells_least r c pen wrapped zero (blank a ∷ xs) (suc n) h le =
    let m = blank_run a xs in
    let ys = drop m (blanks default_attrs n) in
    let was = Some pen.attrs in
    let rest = cells_written r (c + 1) (pen_in pen.form r c a) (wrapped_after_erasure wrapped ys) m xs
    (blanks default_attrs n) in
    let op = erase_run pen.form (suc m) ys in
    let erased = placed_op pen r c a op in
    cond_both (same_attrs a default_attrs) (cells_written r (c + 1) pen wrapped 0 xs (blanks default_attrs n))
    (ops_then erased rest) (λ (w : Scripted). drawn_least was (blank a ∷ xs) ≤ bytes_len w.ops)
    (λ (t : same_attrs a default_attrs ≡ true).
    let least = cells_least r (c + 1) pen wrapped 0 xs n (loose_step (blank a) xs h) (omega (arith, le)) in
    let none = cond-true (same_attrs a default_attrs) (drawn_least was xs)
    (change_least was a + (0 + drawn_least (Some a) xs)) t in
    omega (arith, least, none))
    (λ (f : same_attrs a default_attrs ≡ false).
    let least = cells_least r (c + 1) (pen_in pen.form r c a) (wrapped_after_erasure wrapped ys) m xs n
    (loose_step (blank a) xs h)
    (omega (arith, le)) in
    let run = run_least a xs in
    let placed = placed_least pen r c a op in
    let both = bytes_both erased rest.ops in
    let some = cond-false (same_attrs a default_attrs) (drawn_least was xs)
    (change_least was a + (0 + drawn_least (Some a) xs)) f in
    omega (arith, least, run, placed, both, some))
cells_least r c pen wrapped zero (glyph text wide a ∷ xs) (suc n) h le =
    let k = glyph_columns wide - 1 in
    let next = pen_past pen.form r (c + glyph_columns wide) a text in
    let is_wrapped = wrapped_after_glyph wrapped wide (drop 1 (blanks default_attrs n)) in
    let rest = cells_written r (c + 1) next is_wrapped k xs (blanks default_attrs n) in
    let least = cells_least r (c + 1) next is_wrapped k xs n (loose_step (glyph text wide a) xs h)
    (omega (arith, le)) in
    let half = half_least text wide a xs h in
    let placed = placed_least pen r c a (Print text) in
    let both = bytes_both (placed_op pen r c a (Print text)) rest.ops in
    let whole : drawn_least (Some pen.attrs) (glyph text wide a ∷ xs)
    ≤ bytes_len (placed_op pen r c a (Print text) ++ rest.ops) =
    omega (arith, least, half, placed, both) in
    whole

-- ---- rows

-- The output for a row over default blanks is at least as long as the lower bound for the cells that are not yet
-- written.
row_least : (r k : ℕ) (pen : Pen) (wrapped : Bool) (width : ℕ) (x : RowValue) → IsRow width x →
    drawn_least (Some pen.attrs) (drop k x.cells)
    ≤ bytes_len (row_written r k pen wrapped x (blanks default_attrs width)).ops
unfolding row_written
row_least r k pen wrapped width x is =
    let size = is.columns in
    let cells = cells_written r 0 pen wrapped k x.cells (blanks default_attrs width) in
    let least = cells_least r 0 pen wrapped k x.cells width (paired_loose x.cells (paired_of x.cells is.paired))
    (omega (arith, size)) in
    let both = bytes_both cells.ops (row_break r cells.pen cells.wrapped x.wrapped x.cells).ops in
    omega (arith, least, both)

-- The output of a link, followed by the cells that it does not draw, is at least as long as the lower bound for the
-- cells.
abbrev Links : List CellValue → Linked → Type 0
Links xs link =
    drawn_least None xs ≤ bytes_len link.ops + drawn_least (Some link.pen.attrs) (drop link.settled xs)

unlinked_least : (pen : Pen) (wrapped : Bool) (xs : List CellValue) → Links xs (no_link pen wrapped)
unlinked_least pen wrapped xs = let least = none_least (Some pen.attrs) xs in omega (arith, least)

first_least : (r : ℕ) (pen : Pen) (wrapped : Bool) (xs ys : List CellValue) → Paired xs →
    Links xs (first_written r pen wrapped xs ys)
first_least r pen wrapped [] ys h = omega arith
first_least r pen wrapped (x ∷ xs) [] h = unlinked_least pen wrapped (x ∷ xs)
first_least r pen wrapped (right_half ∷ xs) (y ∷ ys) h = absurd h
first_least r pen wrapped (blank a ∷ xs) (y ∷ ys) h =
    let none = none_least (Some a) xs in
    cond_both (same_attrs a default_attrs) (drawn_least None xs) (0 + (0 + drawn_least (Some a) xs))
    (λ (n : ℕ). n ≤ bytes_len (first_written r pen wrapped (blank a ∷ xs) (y ∷ ys)).ops + drawn_least (Some a) xs)
    (λ _. omega (arith, none)) (λ _. omega arith)
first_least r pen wrapped (glyph text false a ∷ xs) (y ∷ ys) h =
    let least = wrapped_least r pen a (Print text) in
    omega (arith, least)
first_least r pen wrapped (glyph text true a ∷ right_half ∷ xs) (y ∷ ys) h =
    let least = wrapped_least r pen a (Print text) in
    omega (arith, least)
first_least r pen wrapped (glyph text true a ∷ []) (y ∷ ys) h = absurd h
first_least r pen wrapped (glyph text true a ∷ blank b ∷ xs) (y ∷ ys) h = absurd h
first_least r pen wrapped (glyph text true a ∷ glyph other wide b ∷ xs) (y ∷ ys) h = absurd h

link_least : (r : ℕ) (pen : Pen) (above x y : RowValue) (wrapped_above : Bool) → Paired x.cells →
    Links x.cells (link_of r pen above wrapped_above x y)
unfolding row_link
link_least r pen above x y wrapped_above h =
    let last = after_last_glyph r pen above.cells in
    let first = first_written (r + 1) last.pen y.wrapped x.cells y.cells in
    let none = unlinked_least pen y.wrapped x.cells in
    cond_both above.wrapped (row_link r pen above.cells wrapped_above y.wrapped x.cells y.cells) (no_link pen y.wrapped)
    (Links x.cells)
    (λ _. cond_both (not wrapped_above || (is_at pen r (length above.cells) && starts_other x.cells y.cells))
    (ops_then_link last.ops first) (no_link pen y.wrapped) (Links x.cells)
    (λ _.
    let least = first_least (r + 1) last.pen y.wrapped x.cells y.cells h in
    let both = bytes_both last.ops first.ops in
    omega (arith, least, both))
    (λ _. none))
    (λ _. none)

-- The output for rows over blank rows is at least as long as the lower bound for the first `k` rows.
below_least : (width r : ℕ) (pen : Pen) (above : RowValue) (wrapped_above : Bool) (k : ℕ) (xs : List RowValue) (n : ℕ) →
    AllByRecursion (IsRow width) (take k xs) → length xs ≤ n →
    rows_drawn_least (take k xs)
    ≤ bytes_len (rows_below r pen above wrapped_above xs (replicate n (blank_row default_attrs width))).ops
unfolding rows_below
below_least width r pen above wrapped_above zero xs n all le = omega arith
below_least width r pen above wrapped_above (suc k) [] n all le = omega arith
below_least width r pen above wrapped_above (suc k) (x ∷ xs) zero all le = absurd (omega (arith, le))
below_least width r pen above wrapped_above (suc k) (x ∷ xs) (suc n) all le =
    let y = blank_row default_attrs width in
    let link = link_of r pen above wrapped_above x y in
    let row = row_written (r + 1) link.settled link.pen link.wrapped x y.cells in
    let rest = rows_below (r + 1) row.pen x row.wrapped xs (replicate n y) in
    let links = link_least r pen above x y wrapped_above (paired_of x.cells all.0.paired) in
    let least = row_least (r + 1) link.settled link.pen link.wrapped width x all.0 in
    let more = below_least width (r + 1) row.pen x row.wrapped k xs n all.1 (omega (arith, le)) in
    let both = bytes_both link.ops row.ops in
    let whole = bytes_both (link.ops ++ row.ops) rest.ops in
    omega (arith, links, least, more, both, whole)

rows_least : (width : ℕ) (pen : Pen) (k : ℕ) (xs : List RowValue) (n : ℕ) →
    AllByRecursion (IsRow width) (take k xs) → length xs ≤ n →
    rows_drawn_least (take k xs) ≤ bytes_len (rows_written pen xs (replicate n (blank_row default_attrs width))).ops
unfolding rows_written
rows_least width pen zero xs n all le = omega arith
rows_least width pen (suc k) [] n all le = omega arith
rows_least width pen (suc k) (x ∷ xs) zero all le = absurd (omega (arith, le))
rows_least width pen (suc k) (x ∷ xs) (suc n) all le =
    let y = blank_row default_attrs width in
    let row = row_written 0 0 pen y.wrapped x y.cells in
    let rest = rows_below 0 row.pen x row.wrapped xs (replicate n y) in
    let least = row_least 0 0 pen y.wrapped width x all.0 in
    let none = none_least (Some pen.attrs) x.cells in
    let more = below_least width 0 row.pen x row.wrapped k xs n all.1 (omega (arith, le)) in
    let whole = bytes_both row.ops rest.ops in
    omega (arith, least, none, more, whole)

-- ---- the redraw

-- If the first `k` rows of a picture are valid, its redraw is at least as long as the lower bound for them.
pub redraw_least : (form : Form) (picture : Picture) (k : ℕ) → All (IsRow picture.width) (take k picture.rows) →
    rows_drawn_least (take k picture.rows) ≤ length (bytes_of_all (redraw_in form picture))
unfolding redraw_in script_in
redraw_least form picture k all =
    let blank = blank_like picture in
    let start : List Op = Hide picture.hidden ∷ ClearAttrs ∷ MoveTo 0 0 ∷ EraseBelow ∷ [] in
    let written = rows_written (pen_of form blank) picture.rows blank.rows in
    let end = cursor_written written.pen picture.width picture.rows picture.row picture.column
    ++ attr_ops_in form written.pen.attrs picture.attrs in
    let least = rows_least picture.width (pen_of form blank) k picture.rows (length picture.rows)
    (recursion_from_All (IsRow picture.width) (take k picture.rows) all) (omega arith) in
    let rows = bytes_both written.ops end in
    let whole = bytes_both start (script_in form picture blank) in
    omega (arith, least, rows, whole)

-- ---- cells with equal heads

same_undrawn : (x y : CellValue) → IsCell x → IsCell y → head_of_cell y ≡ head_of_cell x → is_undrawn y ≡ is_undrawn x
same_undrawn (blank a) (blank b) sx sy same =
    ap (λ (attrs : Attrs). same_attrs attrs default_attrs) (ap (λ (h : HeadValue). h.attrs) same)
same_undrawn right_half right_half sx sy same = refl
same_undrawn (glyph s v a) (glyph t w b) sx sy same = refl
same_undrawn (blank a) right_half sx sy same = let no = ap (λ (h : HeadValue). h.shape.right_half) same in absurd (cc)
same_undrawn right_half (blank b) sx sy same = let no = ap (λ (h : HeadValue). h.shape.right_half) same in absurd (cc)
same_undrawn (glyph s v a) right_half sx sy same = let no = ap (λ (h : HeadValue). h.shape.right_half) same in absurd (cc)
same_undrawn right_half (glyph t w b) sx sy same = let no = ap (λ (h : HeadValue). h.shape.right_half) same in absurd (cc)
same_undrawn (blank a) (glyph t w b) sx sy same =
    let some = IsGlyphText-length t w sy in
    let len = ap (λ (h : HeadValue). h.shape.len) same in
    absurd (omega (arith, some, len))
same_undrawn (glyph s v a) (blank b) sx sy same =
    let some = IsGlyphText-length s v sx in
    let len = ap (λ (h : HeadValue). h.shape.len) same in
    absurd (omega (arith, some, len))

pub each_undrawn : (was : Option Attrs) (x : CellValue) → IsCell x → is_undrawn x ≡ true → IsEach was 0 x
each_undrawn was x sound t y ys valid same =
    let first : drawn_least was (y ∷ ys) ≡ drawn_least was ys = cond-true _ _ _ (same_undrawn x y sound valid same ∙ t) in
    omega (arith, first)

pub each_drawn : (x : CellValue) → IsCell x → is_undrawn x ≡ false → IsEach (Some (attrs_of x)) (length (text_of x)) x
each_drawn x sound f y ys valid same =
    let attrs = ap (λ (h : HeadValue). h.attrs) same in
    let len = ap (λ (h : HeadValue). h.shape.len) same in
    let first : drawn_least (Some (attrs_of x)) (y ∷ ys)
    ≡ change_least (Some (attrs_of x)) (attrs_of y) + (length (text_of y) + drawn_least (Some (attrs_of y)) ys) =
    cond-false _ _ _ (same_undrawn x y sound valid same ∙ f) in
    let none : change_least (Some (attrs_of x)) (attrs_of y) ≡ 0 =
    ap (change_least (Some (attrs_of x))) attrs ∙ cond-true _ _ _ (same_attrs-itself (attrs_of x)) in
    let rest = ap (λ (a : Attrs). drawn_least (Some a) ys) attrs in
    omega (arith, first, none, len, rest)

pub change_small : (was : Option Attrs) (new : Attrs) → change_least was new ≤ 3
change_small None new = omega arith
change_small (Some was) new =
    cond_both (same_attrs was new) 0 3 (λ (n : ℕ). n ≤ 3) (λ _. omega arith) (λ _. omega arith)

-- ---- the lower bound for the first cells and rows

pub drawn_next : (was new : Option Attrs) (change each : ℕ) (xs : List CellValue) (i : ℕ) (x : CellValue) → i < length xs →
    x ≡ slice_index_or xs i x → ((ys : List CellValue) → drawn_least was (x ∷ ys) ≡ change + (each + drawn_least new ys)) →
    drawn_least was (drop i xs) ≡ change + (each + drawn_least new (drop (i + 1) xs))
drawn_next was new change each xs i x h is sum =
    at_drop_more (drawn_least was) xs i x h
    ∙ (ap (λ (y : CellValue). drawn_least was (y ∷ drop (i + 1) xs)) (sym is) ∙ sum (drop (i + 1) xs))

pub drawn_again : (was : Option Attrs) (each : ℕ) (xs : List CellValue) (i : ℕ) → i < length xs → IsCell (at xs i) →
    head_of_cell (at xs i) ≡ head_of_cell (at xs (i - 1)) → IsEach was each (at xs (i - 1)) →
    drawn_least was (drop i xs) ≡ each + drawn_least was (drop (i + 1) xs)
drawn_again was each xs i h sound same is =
    at_drop_more (drawn_least was) xs i default_blank h ∙ is (at xs i) (drop (i + 1) xs) sound same

pub each_again : (was : Option Attrs) (each : ℕ) (xs : List CellValue) (i : ℕ) →
    head_of_cell (at xs i) ≡ head_of_cell (at xs (i - 1)) → IsEach was each (at xs (i - 1)) → IsEach was each (at xs i)
each_again was each xs i same is y ys valid e = is y ys valid (e ∙ same)

pub each_next : (was : Option Attrs) (each : ℕ) (xs : List CellValue) (i : ℕ) → IsEach was each (at xs i) →
    IsEach was each (at xs (i + 1 - 1))
each_next was each xs i is =
    let same : i ≡ i + 1 - 1 = omega arith in subst (λ (n : ℕ). IsEach was each (at xs n)) same is

taken_least : (was : Option Attrs) (n : ℕ) (xs : List CellValue) → drawn_least was (take n xs) ≤ drawn_least was xs
taken_least was zero xs = omega arith
taken_least was (suc n) [] = omega arith
taken_least was (suc n) (x ∷ xs) =
    by_kind (is_undrawn x) (taken_least was n xs) (taken_least (Some (attrs_of x)) n xs) where
      by_kind : (undrawn : Bool) → drawn_least was (take n xs) ≤ drawn_least was xs →
          drawn_least (Some (attrs_of x)) (take n xs) ≤ drawn_least (Some (attrs_of x)) xs →
          (if undrawn then drawn_least was (take n xs)
          else (change_least was (attrs_of x) + (length (text_of x) + drawn_least (Some (attrs_of x)) (take n xs))))
          ≤ (if undrawn then drawn_least was xs
          else (change_least was (attrs_of x) + (length (text_of x) + drawn_least (Some (attrs_of x)) xs)))
      by_kind true same rest = same
      by_kind false same rest = omega (arith, rest)

rows_least_both : (xs ys : List RowValue) → rows_drawn_least (xs ++ ys) ≡ rows_drawn_least xs + rows_drawn_least ys
rows_least_both [] ys = omega arith
rows_least_both (x ∷ xs) ys = let both = rows_least_both xs ys in omega (arith, both)

-- The lower bound for the stored cells `own` of row `r` is one for the row.
pub rows_drawn_more : (width : ℕ) (rows : List RowValue) (r : ℕ) (row : RowValue) (own : List CellValue) →
    r < length rows → row ≡ row_or width rows r → own ≡ take (length own) row.cells →
    rows_drawn_least (take r rows) + drawn_least None own ≤ rows_drawn_least (take (r + 1) rows)
rows_drawn_more width rows r row own h is first =
    let both = rows_least_both (take r rows) (row_or width rows r ∷ []) in
    let more = ap rows_drawn_least (take_more rows r (blank_row default_attrs width) h) in
    let stored = ap (drawn_least None) first in
    let part = taken_least None (length own) row.cells in
    let same = ap (λ (x : RowValue). drawn_least None x.cells) is in
    omega (arith, both, more, stored, part, same)
