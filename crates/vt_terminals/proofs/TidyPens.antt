-- Pens that know whether terminals may differ in where the cursor is, and glyphs that have room.
use Rattle.std.proofs.Common.{◌≡◌, ℕ, zero, suc, ◌+◌, ◌-◌, ◌<◌, ◌≤◌, ◌⊎◌, ◌&&◌, ◌||◌, ◌==◌, not, Bool, true, false}
use Rattle.std.proofs.Common.{List, [], ◌∷◌, ◌++◌, length, drop, refl, inl, inr, sym, ap, subst, ◌∙◌, arith, Some, lit<}
use Rattle.std.proofs.Common.{lit≤}
use Rattle.std.specs.Prelude.{chars}
use Rattle.std.specs.Char.{encode_utf8}
use Rattle.std.proofs.lemmas.Bool.{cond_both, and_parts}
use Rattle.std.proofs.lemmas.Str.{chars-encodes, encode_ascii}
use Rattle.vt_cells.specs.Attrs.{Attrs}
use Rattle.vt_cells.specs.Cell.{CellValue, attrs_of, blank, glyph, right_half, same_cell, text_of}
use Rattle.vt_cells.specs.Glyph.{glyph_columns}
use Rattle.vt_cells.specs.Op.{Op, EraseChars, MoveTo, Print}
use Rattle.vt_cells.proofs.Glyphs.{columns_of-ascii}
use Rattle.vt_rows.specs.Row.{RowValue}
use Rattle.vt_redraw.specs.Certain.{are_certain, is_certain, is_certain_narrow, is_certain_text}
use Rattle.vt_redraw.specs.Redraw.{link_of}
use Rattle.vt_redraw.specs.Script.{Linked, Scripted, after_last_glyph, attr_ops_in, back_op, blank_run, break_ops}
use Rattle.vt_redraw.specs.Script.{cells_written, erased_count, first_written, is_at, last_column, last_glyph, move_ops}
use Rattle.vt_redraw.specs.Script.{no_link, no_ops, ops_then, ops_then_link, pen_after, pen_in, pen_past, placed_op}
use Rattle.vt_redraw.specs.Script.{row_break, row_link, shifts, starts_other, wrap_ops, wrapped_after_erasure}
use Rattle.vt_redraw.specs.Script.{erase_run, wrapped_after_glyph}
use Rattle.vt_redraw.specs.declared.form.Form.{Form}
use Rattle.vt_redraw.specs.declared.form.Form.TheVariants.{Fixed, Portable}
use Rattle.vt_redraw.specs.declared.pen.Pen.{Pen}
use Rattle.vt_redraw.proofs.Edits.{glyph_cells}
use Rattle.vt_redraw.proofs.Halves.{Paired, Sound, ends}
use Rattle.vt_redraw.proofs.Link.{last_cases, length_glyph}
use Rattle.vt_redraw.proofs.Texts.{Grows, Prints}
use Rattle.vt_terminals.specs.Room.{StrayFits, is_uncertain}
use Rattle.vt_terminals.specs.Terminal.{Positions}
use Rattle.vt_terminals.proofs.Agrees.{nowhere}
use Rattle.vt_terminals.proofs.Flags.{Tracks, attr_shift, erase_shift, move_shift, one_certain, one_unshifted}
use Rattle.vt_terminals.proofs.Flags.{placed_shift, shifts_all, shifts_then, text_shifts, tracks_nothing, tracks_then}
use Rattle.vt_terminals.proofs.TidyGlyphs.{Fine}
use Rattle.vt_terminals.proofs.TidyParts.{IsOne, mark}
use Rattle.vt_terminals.proofs.Agrees as agrees

-- ==== Single certain characters

certain_parts : (first : ℕ) (marks : List ℕ) → are_certain (first ∷ marks) ≡ true →
    (is_certain first ≡ true) × (marks ≡ [])
certain_parts first [] h = (h, refl)
certain_parts first (m ∷ ms) h = absurd (cc)

-- A steady glyph of certain text is a single character.
pub one_of : (width : ℕ) (text : List ℕ) (wide : Bool) → Prints width text wide → is_certain_text text ≡ true →
    IsOne text wide
one_of width text wide prints certain =
    let parts = certain_parts prints.first prints.marks (ap are_certain (sym prints.is) ∙ certain) in
    let grows = subst (λ (ms : List ℕ). Grows width prints.start (Rattle.std.specs.Char.encode_utf8 prints.first) ms
    wide text)
    parts.1 prints.grows in
    record {
      character = prints.first;
      is = prints.is ∙ ap (λ (ms : List ℕ). prints.first ∷ ms) parts.1;
      certain = parts.0;
      columns = prints.columns ∙ ap (λ (w : Bool). Some (glyph_columns w)) grows.0;
    }

space_certain : is_certain 0x20 ≡ true
unfolding is_certain_narrow
space_certain = refl

spelled : encode_utf8 0x20 ≡ 0x20 ∷ []
spelled = encode_ascii 0x20 (lit< tt)

one_char : chars (0x20 ∷ []) ≡ 0x20 ∷ []
one_char = sym (ap (λ (text : List ℕ). chars (text ++ [])) spelled) ∙ chars-encodes (0x20 ∷ []) refl

pub space_one : IsOne (0x20 ∷ []) false
space_one =
    record {
      character = 0x20;
      is = one_char;
      certain = space_certain;
      columns = columns_of-ascii 0x20 (lit≤ tt) (lit< tt);
    }

pub mark_none : (near torn : Positions) (r c : ℕ) (b : Bool) → b ≡ false → agrees.Within near torn (mark r c b) →
    agrees.Within near torn nowhere
mark_none near torn r c b f within row column clear e =
    let here = within row column clear e in
    let parts = and_parts (row == r) ((column == c) && b) here in
    let last = (and_parts (column == c) b parts.1).1 in
    absurd (cc)

pub from_nowhere : (near torn : Positions) → agrees.Within near nowhere torn
from_nowhere near torn r c clear e = absurd (cc)

-- ==== Pens that are shifted only where there is room

-- If terminals may differ in where the cursor is, it is not after the last column.
abbrev pub Flat : ℕ → Pen → Type 0
Flat width pen = pen.is_shifted ≡ true → pen.col < width

some_length : (cs : List ℕ) → is_uncertain cs ≡ true → 0 < length cs
some_length [] h = absurd (cc)
some_length (c ∷ cs) h = omega arith

two_columns : (wide : Bool) → glyph_columns wide ≤ 2
two_columns true = omega arith
two_columns false = omega arith

fine_flat : (near : Positions) (form : Form) (width r c : ℕ) (text : List ℕ) (wide : Bool) →
    IsOne text wide ⊎ StrayFits near width r c text → shifts form text ≡ true → c + glyph_columns wide < width
fine_flat near form width r c text wide (inl one) e = let none = one_unshifted form text wide one in absurd (cc)
fine_flat near form width r c text wide (inr fits) e =
    let room = fits.room in
    let some = some_length (chars text) fits.uncertain in
    let two = two_columns wide in omega (arith, room, some, two)

pub cells_flat : (near : Positions) (width r c : ℕ) (pen : Pen) (wrapped : Bool) (k : ℕ) (xs ys : List CellValue) →
    Fine near width r c xs → Flat width pen → Flat width (cells_written r c pen wrapped k xs ys).pen
unfolding cells_written
cells_flat near width r c pen wrapped k [] ys ones f = f
cells_flat near width r c pen wrapped k (x ∷ xs) [] ones f = f
cells_flat near width r c pen wrapped (suc k) (x ∷ xs) (y ∷ ys) ones f =
    cells_flat near width r (c + 1) pen wrapped k xs ys ones.1 f
cells_flat near width r c pen wrapped zero (right_half ∷ xs) (y ∷ ys) ones f =
    cells_flat near width r (c + 1) pen wrapped zero xs ys ones.1 f
cells_flat near width r c pen wrapped zero (blank a ∷ xs) (y ∷ ys) ones f =
    let n = blank_run a xs in
    let next = pen_in pen.form r c a in
    let now = wrapped_after_erasure wrapped (drop n ys) in
    cond_both (same_cell (blank a) y) (cells_written r (c + 1) pen wrapped zero xs ys)
    (ops_then (placed_op pen r c a (erase_run pen.form (suc n) (drop n ys)))
    (cells_written r (c + 1) next now n xs ys))
    (λ (w : Scripted). Flat width w.pen)
    (λ _. cells_flat near width r (c + 1) pen wrapped zero xs ys ones.1 f)
    (λ _. cells_flat near width r (c + 1) next now n xs ys ones.1 (λ e. absurd (cc)))
cells_flat near width r c pen wrapped zero (glyph text wide a ∷ xs) (y ∷ ys) ones f =
    let k = glyph_columns wide - 1 in
    let next = pen_past pen.form r (c + glyph_columns wide) a text in
    let now = wrapped_after_glyph wrapped wide (drop 1 ys) in
    cond_both (same_cell (glyph text wide a) y) (cells_written r (c + 1) pen wrapped k xs ys)
    (ops_then (placed_op pen r c a (Print text)) (cells_written r (c + 1) next now k xs ys))
    (λ (w : Scripted). Flat width w.pen)
    (λ _. cells_flat near width r (c + 1) pen wrapped k xs ys ones.1 f)
    (λ _. cells_flat near width r (c + 1) next now k xs ys ones.1 (fine_flat near pen.form width r c text wide ones.0))

-- There is no room for a text of uncertain width at the end of a row.
fine_last : (near : Positions) (width r c : ℕ) (pre : List CellValue) (text : List ℕ) (wide : Bool) (a : Attrs) →
    Fine near width r c (pre ++ glyph_cells text wide a) → c + (length pre + glyph_columns wide) ≡ width →
    IsOne text wide
fine_last near width r c [] text true a h e = by_case h.0 where
  by_case : IsOne text true ⊎ StrayFits near width r c text → IsOne text true
  by_case (inl one) = one
  by_case (inr fits) =
      let room = fits.room in
      let some = some_length (chars text) fits.uncertain in absurd (omega (arith, room, some, e))
fine_last near width r c [] text false a h e = by_case h.0 where
  by_case : IsOne text false ⊎ StrayFits near width r c text → IsOne text false
  by_case (inl one) = one
  by_case (inr fits) =
      let room = fits.room in
      let some = some_length (chars text) fits.uncertain in absurd (omega (arith, room, some, e))
fine_last near width r c (x ∷ pre) text wide a h e =
    fine_last near width r (c + 1) pre text wide a h.1 (omega (arith, e))

pub row_last : (near : Positions) (width r : ℕ) (pre : List CellValue) (text : List ℕ) (wide : Bool) (a : Attrs) →
    Fine near width r 0 (pre ++ glyph_cells text wide a) → length (pre ++ glyph_cells text wide a) ≡ width →
    IsOne text wide
row_last near width r pre text wide a h size =
    let n = length_glyph pre text wide a in fine_last near width r 0 pre text wide a h (omega (arith, n, size))

-- The last glyph of a row is a single certain character.
pub last_one : (near : Positions) (width r : ℕ) (form : Form) (xs : List CellValue) → Paired xs → ends xs ≡ false →
    Fine near width r 0 xs → length xs ≡ width → shifts form (text_of (last_glyph xs)) ≡ false
last_one near width r form xs h full ones w =
    last_cases (λ z k x. Fine near width r 0 z → length z ≡ width → shifts form (text_of x) ≡ false)
    (λ pre text wide a front all size. one_unshifted form text wide (row_last near width r pre text wide a all size)) xs
    h
    full ones w

pub after_flat : (near : Positions) (width r : ℕ) (pen : Pen) (xs : List CellValue) → Paired xs → ends xs ≡ false →
    Fine near width r 0 xs → length xs ≡ width → Flat width pen → Flat width (after_last_glyph r pen xs).pen
after_flat near width r pen xs h full ones w f =
    cond_both (is_at pen r (length xs)) (no_ops pen true)
    (record {
      ops = placed_op pen r (last_column xs) (attrs_of (last_glyph xs)) (Print (text_of (last_glyph xs)));
      pen = pen_after pen.form r xs;
      wrapped = true;
    }) (λ (w : Scripted). Flat width w.pen) (λ _. f)
    (λ _ e. let none = last_one near width r pen.form xs h full ones w in absurd (cc))

-- A first cell that is printed while a wrap is pending is no text of uncertain width.
abbrev pub FirstOne : List CellValue → Type 0
FirstOne [] = Unit {0}
FirstOne (glyph text wide a ∷ xs) = IsOne text wide
FirstOne (_ ∷ xs) = Unit {0}

first_flat : (width r : ℕ) (pen : Pen) (wrapped : Bool) (xs ys : List CellValue) → FirstOne xs →
    Flat width pen → Flat width (first_written r pen wrapped xs ys).pen
first_flat width r pen wrapped [] ys ones f = f
first_flat width r pen wrapped (x ∷ xs) [] ones f = f
first_flat width r pen wrapped (right_half ∷ xs) (y ∷ ys) ones f = f
first_flat width r pen wrapped (blank a ∷ xs) (y ∷ ys) ones f = λ e. absurd (cc)
first_flat width r pen wrapped (glyph text wide a ∷ xs) (y ∷ ys) ones f =
    λ e. let none = one_unshifted pen.form text wide ones in absurd (cc)

pub and_first : (a b : Bool) → (a && b) ≡ true → a ≡ true
and_first true b h = refl
and_first false b h = absurd (cc)

pub break_flat : (near : Positions) (width r : ℕ) (pen : Pen) (wrapped wanted : Bool) (xs : List CellValue) →
    Paired xs →
    Sound wrapped xs → Fine near width r 0 xs → length xs ≡ width → Flat width pen →
    Flat width (row_break r pen wrapped wanted xs).pen
unfolding row_break
break_flat near width r pen wrapped wanted xs h sound ones w f =
    cond_both (wrapped && not wanted) (break_ops r pen xs) (no_ops pen wrapped) (λ (w : Scripted). Flat width w.pen)
    (λ (t : (wrapped && not wanted) ≡ true) e.
    let none = last_one near width r pen.form xs h (sound (and_first wrapped (not wanted) t)) ones w in absurd (cc))
    (λ _. f)

pub link_flat : (near : Positions) (width r : ℕ) (pen : Pen) (above : RowValue) (wrapped_above : Bool) (x y : RowValue)
    →
    Paired above.cells → Sound above.wrapped above.cells → Fine near width r 0 above.cells →
    length above.cells ≡ width →
    (above.wrapped ≡ true → FirstOne x.cells) → Flat width pen → Flat width (link_of r pen above wrapped_above x y).pen
unfolding row_link
link_flat near width r pen above wrapped_above x y h sound above_ones w ones f =
    let w1 = after_last_glyph r pen above.cells in
    let P = λ (j : Linked). Flat width j.pen in
    cond_both above.wrapped (row_link r pen above.cells wrapped_above y.wrapped x.cells y.cells)
    (no_link pen y.wrapped) P
    (λ (t : above.wrapped ≡ true).
    cond_both (not wrapped_above || (is_at pen r (length above.cells) && starts_other x.cells y.cells))
    (ops_then_link w1.ops (first_written (r + 1) w1.pen y.wrapped x.cells y.cells)) (no_link pen y.wrapped) P
    (λ _. first_flat width (r + 1) w1.pen y.wrapped x.cells y.cells (ones t)
    (after_flat near width r pen above.cells h (sound t) above_ones w f)) (λ _. f))
    (λ _. f)

-- ==== The cursor's doubts

last_certain : (near : Positions) (width r : ℕ) (xs : List CellValue) → Paired xs → ends xs ≡ false →
    Fine near width r 0 xs → length xs ≡ width → is_uncertain (chars (text_of (last_glyph xs))) ≡ false
last_certain near width r xs h full ones w =
    last_cases (λ z k x. Fine near width r 0 z → length z ≡ width → is_uncertain (chars (text_of x)) ≡ false)
    (λ pre text wide a front all size. one_certain text wide (row_last near width r pre text wide a all size)) xs h full
    ones w

-- The last glyph of a row is printed, and all terminals agree on where the cursor is.
last_track : (near : Positions) (width r : ℕ) (form : Form) (xs : List CellValue) → Paired xs → ends xs ≡ false →
    Fine near width r 0 xs → length xs ≡ width →
    is_uncertain (chars (text_of (last_glyph xs))) ≡ shifts form (text_of (last_glyph xs))
last_track near width r form xs h full ones w =
    last_certain near width r xs h full ones w ∙ sym (last_one near width r form xs h full ones w)

pub cells_track : (near : Positions) (width r c : ℕ) (pen : Pen) (wrapped : Bool) (k : ℕ) (xs ys : List CellValue) →
    pen.form ≡ Portable → Fine near width r c xs →
    Tracks pen (cells_written r c pen wrapped k xs ys).ops (cells_written r c pen wrapped k xs ys).pen
unfolding cells_written
cells_track near width r c pen wrapped k [] ys form ones = tracks_nothing pen form
cells_track near width r c pen wrapped k (x ∷ xs) [] form ones = tracks_nothing pen form
cells_track near width r c pen wrapped (suc k) (x ∷ xs) (y ∷ ys) form ones =
    cells_track near width r (c + 1) pen wrapped k xs ys form ones.1
cells_track near width r c pen wrapped zero (right_half ∷ xs) (y ∷ ys) form ones =
    cells_track near width r (c + 1) pen wrapped zero xs ys form ones.1
cells_track near width r c pen wrapped zero (blank a ∷ xs) (y ∷ ys) form ones =
    let n = blank_run a xs in
    let next = pen_in pen.form r c a in
    let now = wrapped_after_erasure wrapped (drop n ys) in
    let op = erase_run pen.form (suc n) (drop n ys) in
    let rest = cells_written r (c + 1) next now n xs ys in
    cond_both (same_cell (blank a) y) (cells_written r (c + 1) pen wrapped zero xs ys)
    (ops_then (placed_op pen r c a op) rest)
    (λ (w : Scripted). Tracks pen w.ops w.pen)
    (λ _. cells_track near width r (c + 1) pen wrapped zero xs ys form ones.1)
    (λ _. tracks_then pen next rest.pen (placed_op pen r c a op) rest.ops
    (record { flag = placed_shift pen r c a op false (erase_shift pen.form (suc n) (drop n ys) false); form = form })
    (cells_track near width r (c + 1) next now n xs ys form ones.1))
cells_track near width r c pen wrapped zero (glyph text wide a ∷ xs) (y ∷ ys) form ones =
    let k = glyph_columns wide - 1 in
    let next = pen_past pen.form r (c + glyph_columns wide) a text in
    let now = wrapped_after_glyph wrapped wide (drop 1 ys) in
    let rest = cells_written r (c + 1) next now k xs ys in
    cond_both (same_cell (glyph text wide a) y) (cells_written r (c + 1) pen wrapped k xs ys)
    (ops_then (placed_op pen r c a (Print text)) rest)
    (λ (w : Scripted). Tracks pen w.ops w.pen)
    (λ _. cells_track near width r (c + 1) pen wrapped k xs ys form ones.1)
    (λ _. tracks_then pen next rest.pen (placed_op pen r c a (Print text)) rest.ops
    (record {
      flag = placed_shift pen r c a (Print text) (shifts pen.form text)
          (text_shifts near width r c text wide ones.0 ∙ ap (λ (f : Form). shifts f text) (sym form));
      form = form;
    })
    (cells_track near width r (c + 1) next now k xs ys form ones.1))

pub after_track : (near : Positions) (width r : ℕ) (pen : Pen) (xs : List CellValue) → pen.form ≡ Portable → Paired xs →
    ends xs ≡ false → Fine near width r 0 xs → length xs ≡ width →
    Tracks pen (after_last_glyph r pen xs).ops (after_last_glyph r pen xs).pen
after_track near width r pen xs form h full ones w =
    cond_both (is_at pen r (length xs)) (no_ops pen true)
    (record {
      ops = placed_op pen r (last_column xs) (attrs_of (last_glyph xs)) (Print (text_of (last_glyph xs)));
      pen = pen_after pen.form r xs;
      wrapped = true;
    }) (λ (w : Scripted). Tracks pen w.ops w.pen) (λ _. tracks_nothing pen form)
    (λ _. record {
      flag = placed_shift pen r (last_column xs) (attrs_of (last_glyph xs)) (Print (text_of (last_glyph xs)))
          (shifts pen.form (text_of (last_glyph xs))) (last_track near width r pen.form xs h full ones w);
      form = form;
    })

wrap_shift : (r : ℕ) (pen : Pen) → shifts_all (wrap_ops r pen) pen.is_shifted ≡ false
wrap_shift r pen =
    cond_both pen.is_shifted (Print (0x20 ∷ []) ∷ MoveTo r 0 ∷ []) [] (λ (ops : List Op). shifts_all ops
    pen.is_shifted ≡ false)
    (λ _. refl) (λ e. e)

first_track : (near : Positions) (width r : ℕ) (pen : Pen) (wrapped : Bool) (xs ys : List CellValue) →
    pen.form ≡ Portable → Fine near width r 0 xs →
    Tracks pen (first_written r pen wrapped xs ys).ops (first_written r pen wrapped xs ys).pen
first_track near width r pen wrapped [] ys form ones = tracks_nothing pen form
first_track near width r pen wrapped (x ∷ xs) [] form ones = tracks_nothing pen form
first_track near width r pen wrapped (right_half ∷ xs) (y ∷ ys) form ones = tracks_nothing pen form
first_track near width r pen wrapped (blank a ∷ xs) (y ∷ ys) form ones = record {
  flag = shifts_then (attr_ops_in pen.form pen.attrs a) (Print (0x20 ∷ []) ∷ back_op pen.form r 0 ∷ EraseChars 1 ∷ [])
      pen.is_shifted pen.is_shifted false (attr_shift pen.form pen.attrs a pen.is_shifted)
      (back_shift pen.form (pen.is_shifted || is_uncertain (chars (0x20 ∷ []))));
  form = form;
} where
  back_shift : (form : Form) (b : Bool) → shifts_all (back_op form r 0 ∷ EraseChars 1 ∷ []) b ≡ false
  back_shift Fixed b = refl
  back_shift Portable b = refl
first_track near width r pen wrapped (glyph text wide a ∷ xs) (y ∷ ys) form ones = record {
  flag = shifts_then (attr_ops_in pen.form pen.attrs a) (wrap_ops r pen ++ Print text ∷ [])
      pen.is_shifted pen.is_shifted (shifts pen.form text) (attr_shift pen.form pen.attrs a pen.is_shifted)
      (shifts_then (wrap_ops r pen) (Print text ∷ []) pen.is_shifted false (shifts pen.form text) (wrap_shift r pen)
      (text_shifts near width r 0 text wide ones.0 ∙ ap (λ (f : Form). shifts f text) (sym form)));
  form = form;
}

pub break_track : (near : Positions) (width r : ℕ) (pen : Pen) (wrapped wanted : Bool) (xs : List CellValue) →
    pen.form ≡ Portable → Paired xs → Sound wrapped xs → Fine near width r 0 xs → length xs ≡ width →
    Tracks pen (row_break r pen wrapped wanted xs).ops (row_break r pen wrapped wanted xs).pen
unfolding row_break
break_track near width r pen wrapped wanted xs form h sound ones w =
    let a = attrs_of (last_glyph xs) in
    let text = text_of (last_glyph xs) in
    cond_both (wrapped && not wanted) (break_ops r pen xs) (no_ops pen wrapped)
    (λ (w : Scripted). Tracks pen w.ops w.pen)
    (λ (t : (wrapped && not wanted) ≡ true).
    let full = sound (and_first wrapped (not wanted) t) in record {
      flag = shifts_then (move_ops pen r (last_column xs))
          (EraseChars (erased_count pen.form (length xs - last_column xs))
          ∷ (attr_ops_in pen.form pen.attrs a ++ Print text ∷ [])) pen.is_shifted false (shifts pen.form text)
          (move_shift pen r (last_column xs))
          (shifts_then (attr_ops_in pen.form pen.attrs a) (Print text ∷ []) false false (shifts pen.form text)
          (attr_shift pen.form pen.attrs a false) (last_track near width r pen.form xs h full ones w));
      form = form;
    }) (λ _. tracks_nothing pen form)

pub link_track : (near : Positions) (width r : ℕ) (pen : Pen) (above : RowValue) (wrapped_above : Bool) (x y : RowValue)
    →
    pen.form ≡ Portable → Paired above.cells → Sound above.wrapped above.cells → Fine near width r 0 above.cells →
    length above.cells ≡ width → Fine near width (r + 1) 0 x.cells →
    Tracks pen (link_of r pen above wrapped_above x y).ops (link_of r pen above wrapped_above x y).pen
unfolding row_link
link_track near width r pen above wrapped_above x y form h sound above_ones w ones =
    let w1 = after_last_glyph r pen above.cells in
    let first = first_written (r + 1) w1.pen y.wrapped x.cells y.cells in
    let P = λ (j : Linked). Tracks pen j.ops j.pen in
    cond_both above.wrapped (row_link r pen above.cells wrapped_above y.wrapped x.cells y.cells)
    (no_link pen y.wrapped) P
    (λ (t : above.wrapped ≡ true).
    cond_both (not wrapped_above || (is_at pen r (length above.cells) && starts_other x.cells y.cells))
    (ops_then_link w1.ops first) (no_link pen y.wrapped) P
    (λ _. let after = after_track near width r pen above.cells form h (sound t) above_ones w in
    tracks_then pen w1.pen first.pen w1.ops first.ops after
    (first_track near width (r + 1) w1.pen y.wrapped x.cells y.cells after.form ones)) (λ _. tracks_nothing pen form))
    (λ _. tracks_nothing pen form)
