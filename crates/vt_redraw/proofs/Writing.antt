-- The steps of the writer of a redraw, and runs of glyphs that agree except in their texts.
use Rattle.std.proofs.Common.{◌≡◌, ◌==◌, ℕ, Bool, ◌&&◌, ◌||◌, not, sym, ap, arith, eqb-true, true, false, List, [], ◌∷◌}
use Rattle.std.proofs.Common.{◌++◌, ◌∙◌, refl, append-nil, append_assoc, ◌+◌, ◌-◌, ◌<◌, ◌≤◌, length, take, drop, subst}
use Rattle.std.proofs.Common.{⊎_elim}
use Rattle.std.specs.Prelude.{if◌then◌else◌, All, IsTrue, slice_index_or}
use Rattle.std.proofs.lemmas.Bool.Decides.{nat_tests}
use Rattle.std.proofs.lemmas.Bool.{cond_both, cases_lt}
use Rattle.std.proofs.lemmas.List.{get_or_default, get_or-drop, get_or-take, length-drop}
use Rattle.std.proofs.lemmas.List.Elements.{All-get_or}
use Rattle.vt_cells.specs.Internals.{buffered_text, head_of_cell}
use Rattle.vt_cells.specs.declared.attrs.Intensity.{Intensity}
use Rattle.vt_cells.specs.declared.attrs.Intensity.TheVariants.{Normal, Bold, Dim}
use Rattle.vt_cells.specs.Attrs.{same_intensity, same_attrs, Attrs, default_attrs}
use Rattle.vt_cells.specs.Cell.{CellValue, blank, glyph, right_half, is_blank, attrs_of, default_blank, is_glyph}
use Rattle.vt_cells.specs.Cell.{IsCell, is_right_half, is_wide, same_cell, text_of}
use Rattle.vt_cells.specs.Op.{Op, ChangeAttrs, MoveTo, bytes_of, bytes_of_all, change_text, cursor_move_ops, ClearAttrs}
use Rattle.vt_cells.specs.Op.{Print, change_numbers, csi, semicolon_list}
use Rattle.vt_cells.specs.Glyph.{glyph_columns}
use Rattle.vt_cells.proofs.Sinks.{gathered_then}
use Rattle.vt_cells.proofs.Attributes.{attrs_of-same, two_parts, same_attrs-itself}
use Rattle.vt_cells.proofs.Texts.{bytes_of_all-append}
use Rattle.vt_cells.proofs.Packing.{itself}
use Rattle.vt_cells.proofs.Glyphs.{IsGlyphText-length}
use Rattle.vt_rows.specs.Cells.{at}
use Rattle.vt_redraw.specs.Script.{attr_ops, move_ops, is_at, is_blank_of, attr_ops_in, change_ops, swaps_intensity}
use Rattle.vt_redraw.specs.Script.{pen_in, resets, Scripted, placed_op, wrapped_after_glyph, pen_past}
use Rattle.vt_redraw.specs.declared.pen.Pen.{Pen}
use Rattle.vt_redraw.specs.declared.form.Form.{Form}
use Rattle.vt_redraw.specs.declared.form.Form.TheVariants.{Fixed, Portable}
use Rattle.vt_redraw.specs.Internals.{IsAlike, IsRange, Leads, cells_from}
use Rattle.vt_redraw.specs.Certain.{is_certain_text}
use Rattle.vt_redraw.proofs.CellSteps.{glyph_inside, glyph_leads, leads_then}

-- ==== The writer's steps for a redraw.

no_change : (was new : Attrs) → same_attrs was new ≡ true → [] ≡ change_text was new
unfolding change_text
no_change was new t = rw t refl

-- The output of a change of attributes in a script is the text of that change.
pub changing_bytes : (was new : Attrs) → bytes_of_all (attr_ops was new) ≡ change_text was new
unfolding attr_ops_in
changing_bytes was new =
    cond_both (same_attrs was new) [] (ChangeAttrs was new ∷ [])
    (λ (ops : List Op). bytes_of_all ops ≡ change_text was new)
    (no_change was new) (λ _. append-nil (change_text was new))

pub change_written : (was new : Attrs) → change_text was new ≡ bytes_of_all (attr_ops was new)
change_written was new = sym (changing_bytes was new)

plain_change : (was new : Attrs) → same_attrs was new ≡ false → same_attrs new default_attrs ≡ true →
    change_text was new ≡ csi [] 0x6D
unfolding change_text
plain_change was new other plain = rw other (rw plain refl)

styled_change : (was new : Attrs) → same_attrs was new ≡ false → same_attrs new default_attrs ≡ false →
    change_text was new ≡ csi (semicolon_list (change_numbers was new)) 0x6D
unfolding change_text
styled_change was new other styled = rw other (rw styled refl)

-- The output of a change to the default attributes is a reset.
pub plain_written : (was new : Attrs) → same_attrs was new ≡ false → same_attrs new default_attrs ≡ true →
    csi [] 0x6D ≡ bytes_of_all (attr_ops was new)
plain_written was new other plain = sym (plain_change was new other plain) ∙ change_written was new

-- The output of a change to other attributes has their numbers.
pub styled_written : (was new : Attrs) → same_attrs was new ≡ false → same_attrs new default_attrs ≡ false →
    csi (semicolon_list (change_numbers was new)) 0x6D ≡ bytes_of_all (attr_ops was new)
styled_written was new other styled = sym (styled_change was new other styled) ∙ change_written was new

no_swap : (a : Attrs) → swaps_intensity a a ≡ false
no_swap a = by_kind a.intensity where
  by_kind : (i : Intensity) →
      ((same_intensity i Bold && same_intensity i Dim) || (same_intensity i Dim && same_intensity i Bold)) ≡ false
  by_kind Normal = refl
  by_kind Bold = refl
  by_kind Dim = refl

-- Attributes are reset only if they change.
resets_other : (form : Form) (was new : Attrs) → resets form was new ≡ true → same_attrs was new ≡ false
resets_other Fixed was new t = absurd cc
resets_other Portable was new t = by_test (same_attrs was new) refl where
  by_test : (b : Bool) → same_attrs was new ≡ b → b ≡ false
  by_test false f = refl
  by_test true s =
      let e = attrs_of-same was new s in
      let no = no_swap new in
      let yes : swaps_intensity new new ≡ true = ap (λ (a : Attrs). swaps_intensity a new) (sym e) ∙ t in
      absurd cc

pub reset_written : (form : Form) (was new : Attrs) → resets form was new ≡ true →
    bytes_of ClearAttrs ++ change_text default_attrs new ≡ bytes_of_all (attr_ops_in form was new)
unfolding attr_ops_in
reset_written form was new t =
    rw (resets_other form was new t, t)
    (ap (λ (text : List ℕ). bytes_of ClearAttrs ++ text) (sym (append-nil (change_text default_attrs new))))

pub kept_written : (form : Form) (was new : Attrs) → resets form was new ≡ false →
    change_text was new ≡ bytes_of_all (attr_ops_in form was new)
unfolding attr_ops_in
kept_written form was new f = by_test (same_attrs was new) refl where
  by_test : (b : Bool) → same_attrs was new ≡ b →
      change_text was new ≡ bytes_of_all (if b then [] else change_ops form was new)
  by_test true t = sym (no_change was new t)
  by_test false n = rw f (sym (append-nil (change_text was new)))

-- A change between equal attributes has no output.
pub change_none : (form : Form) (was new : Attrs) → same_attrs was new ≡ true →
    bytes_of_all (attr_ops_in form was new) ≡ []
unfolding attr_ops_in
change_none form was new t = rw t refl

here : (r c row col : ℕ) → r ≡ row → c ≡ col → cursor_move_ops r c row col ≡ []
here r c row col e f = grind (arith, nat_tests)

not_true : (b : Bool) → not b ≡ true → b ≡ false
not_true true t = absurd cc
not_true false t = refl

-- A move to the pen's own position needs no operation, if terminals agree on this position.
pub going_nowhere : (pen : Pen) (row col : ℕ) → (is_at pen row col && not pen.is_shifted) ≡ true →
    move_ops pen row col ≡ []
unfolding move_ops
going_nowhere pen row col t =
    let (at, placed) = two_parts (is_at pen row col) (not pen.is_shifted) t in
    let (rows, cols) = two_parts (pen.row == row) (pen.col == col) at in
    let still = not_true pen.is_shifted placed in
    ap (λ (b : Bool). if b then MoveTo row col ∷ [] else cursor_move_ops pen.row pen.col row col) still
    ∙ here pen.row pen.col row col (eqb-true pen.row row rows) (eqb-true pen.col col cols)

pub going_none : (pen : Pen) (row col : ℕ) → (is_at pen row col && not pen.is_shifted) ≡ true →
    bytes_of_all (move_ops pen row col) ≡ []
going_none pen row col t = ap bytes_of_all (going_nowhere pen row col t)

-- A move to the pen's own position leaves the pen as it is, if terminals agree on this position.
pub known_pen : (pen : Pen) (row col : ℕ) → (is_at pen row col && not pen.is_shifted) ≡ true →
    pen ≡ pen_in pen.form row col pen.attrs
known_pen pen row col t =
    let (at, placed) = two_parts (is_at pen row col) (not pen.is_shifted) t in
    let (rows, cols) = two_parts (pen.row == row) (pen.col == col) at in
    let still = not_true pen.is_shifted placed in
    ap (λ (b : Bool). record pen { is_shifted = b }) still
    ∙ (ap (λ (r : ℕ). pen_in pen.form r pen.col pen.attrs) (eqb-true pen.row row rows)
    ∙ ap (λ (c : ℕ). pen_in pen.form row c pen.attrs) (eqb-true pen.col col cols))

-- ---- the test for a blank with given attributes

pub is_blank_of-blank : (attrs : Attrs) (x : CellValue) →
    is_blank x ≡ true → same_attrs attrs (attrs_of x) ≡ is_blank_of attrs x
is_blank_of-blank attrs (blank b) h = refl
is_blank_of-blank attrs (glyph text wide b) h = cc
is_blank_of-blank attrs right_half h = cc

pub is_blank_of-other : (attrs : Attrs) (x : CellValue) → is_blank x ≡ false → is_blank_of attrs x ≡ false
is_blank_of-other attrs (blank b) h = cc
is_blank_of-other attrs (glyph text wide b) h = refl
is_blank_of-other attrs right_half h = refl

-- ---- one operation at a position

-- Buffering a movement, a change of attributes and an operation buffers the operation at its position.
pub placed_gathered : (text start b c d e : List ℕ) (moves changes : List Op) (op : Op) →
    buffered_text text b ≡ start → c ≡ b ++ bytes_of_all moves → d ≡ c ++ bytes_of_all changes → e ≡ d ++ bytes_of op →
    buffered_text text e ≡ start ++ bytes_of_all (moves ++ (changes ++ op ∷ []))
placed_gathered text start b c d e moves changes op begin moved changed printed =
    let m = bytes_of_all moves in
    let a = bytes_of_all changes in
    let p = bytes_of op in
    ap (buffered_text text) printed
    ∙ (gathered_then text d p
    ∙ (ap (λ (xs : List ℕ). xs ++ p)
    (ap (buffered_text text) changed
    ∙ (gathered_then text c a
    ∙ ap (λ (xs : List ℕ). xs ++ a)
    (ap (buffered_text text) moved ∙ (gathered_then text b m ∙ ap (λ (xs : List ℕ). xs ++ m) begin))))
    ∙ (append_assoc (start ++ m) a p
    ∙ (append_assoc start m (a ++ p)
    ∙ ap (λ (xs : List ℕ). start ++ xs)
    (ap (λ (xs : List ℕ). m ++ (a ++ xs)) (sym (append-nil p))
    ∙ (ap (λ (xs : List ℕ). m ++ xs) (sym (bytes_of_all-append changes (op ∷ [])))
    ∙ sym (bytes_of_all-append moves (changes ++ op ∷ []))))))))

-- ==== Runs of glyphs that agree in everything except the bytes of their texts.

-- ---- a cell with text

text_not_blank : (x : CellValue) → 0 < length (text_of x) → is_blank x ≡ false
text_not_blank (blank a) h = absurd (omega (arith, h))
text_not_blank (glyph text wide a) h = refl
text_not_blank right_half h = absurd (omega (arith, h))

text_not_half : (x : CellValue) → 0 < length (text_of x) → is_right_half x ≡ false
text_not_half (blank a) h = refl
text_not_half (glyph text wide a) h = refl
text_not_half right_half h = absurd (omega (arith, h))

-- A glyph has text.
pub glyph_text : (x : CellValue) → IsCell x → is_glyph x ≡ true → 0 < length (text_of x)
glyph_text (blank a) is h = absurd cc
glyph_text (glyph text wide a) is h = let some = (IsGlyphText-length text wide is).0 in omega (arith, some)
glyph_text right_half is h = absurd cc

text_unlike_blank : (x y : CellValue) → 0 < length (text_of x) → is_blank y ≡ true → same_cell x y ≡ false
unfolding same_cell
text_unlike_blank (blank a) y h e = absurd (omega (arith, h))
text_unlike_blank (glyph text wide a) (blank b) h e = refl
text_unlike_blank (glyph text wide a) (glyph other w b) h e = absurd cc
text_unlike_blank (glyph text wide a) right_half h e = absurd cc
text_unlike_blank right_half y h e = absurd (omega (arith, h))

neither : (p q : Bool) → p ≡ false → q ≡ false → (p || q) ≡ false
neither p q e f = rw (e, f) refl

-- A cell that was read from a slice is the cell at that index.
pub read_at : (cells : List CellValue) (k c : ℕ) (x : CellValue) → x ≡ slice_index_or cells k x → k ≡ c →
    k < length cells → at cells c ≡ x
read_at cells k c x read e inside =
    ap (at cells) (sym e) ∙ (get_or_default cells k default_blank x inside ∙ sym read)

-- A test whose negation holds is false.
pub refuted : (b : Bool) → IsTrue (not b) → b ≡ false
refuted true h = absurd cc
refuted false h = refl

-- ---- the columns of two rows

-- The stored cell in a column is the row's cell.
pub own_at : (c : ℕ) (own xs : List CellValue) → own ≡ take (length own) xs → c < length own → at own c ≡ at xs c
own_at c own xs e h =
    ap (λ (l : List CellValue). at l c) e ∙ get_or-take (length own) xs c default_blank h

-- After the stored cells, the row's cells are blanks.
blank_at : (c m : ℕ) (ys : List CellValue) → All (λ cell. is_blank cell ≡ true) (drop m ys) →
    m ≤ c → c < length ys → is_blank (at ys c) ≡ true
blank_at c m ys all h inside =
    let size = length-drop m ys in
    let sum : m + (c - m) ≡ c = omega arith in
    sym (ap is_blank (get_or-drop m ys (c - m) default_blank ∙ ap (λ (k : ℕ). at ys k) sum))
    ∙ All-get_or (λ cell. is_blank cell ≡ true) (drop m ys) (c - m) default_blank (omega arith) all

-- The texts of glyphs that look alike have the same length.
alike_text : (c : ℕ) (like : CellValue) (own others : List CellValue) → IsAlike c like own others →
    0 < length (text_of like) → 0 < length (text_of (at own c))
alike_text c like own others alike some =
    subst (λ (n : ℕ). 0 < n) (sym (ap (λ head. head.shape.len) alike.head)) some

-- A glyph that looks alike and differs from the displayed stored cell needs output.
pub alike_other : (c : ℕ) (like : CellValue) (own others xs ys : List CellValue) → IsAlike c like own others →
    0 < length (text_of like) → own ≡ take (length own) xs → others ≡ take (length others) ys →
    All (λ cell. is_blank cell ≡ true) (drop (length others) ys) → c < length ys →
    (is_right_half (at xs c) || same_cell (at xs c) (at ys c)) ≡ false
alike_other c like own others xs ys alike some is_own is_others blanks inside =
    let text = alike_text c like own others alike some in
    let here = own_at c own xs is_own alike.inside in
    neither (is_right_half (at xs c)) (same_cell (at xs c) (at ys c))
    (ap is_right_half (sym here) ∙ text_not_half (at own c) text)
    (⊎_elim
    (λ (low : c < length others).
    ap (λ (x : CellValue). same_cell x (at ys c)) (sym here)
    ∙ (ap (same_cell (at own c)) (sym (own_at c others ys is_others low)) ∙ alike.other low))
    (λ (high : length others ≤ c).
    ap (λ (x : CellValue). same_cell x (at ys c)) (sym here)
    ∙ text_unlike_blank (at own c) (at ys c) text (blank_at c (length others) ys blanks high inside))
    (cases_lt c (length others)))

-- ---- the output of a glyph at the pen

-- A glyph at the pen with the pen's attributes is written as its text alone.
printed_again : (form : Form) (r c : ℕ) (a : Attrs) (text : List ℕ) →
    bytes_of_all (placed_op (pen_in form r c a) r c a (Print text)) ≡ text
printed_again form r c a text =
    let moves = move_ops (pen_in form r c a) r c in
    let changes = attr_ops_in form a a in
    bytes_of_all-append moves (changes ++ Print text ∷ [])
    ∙ (ap (λ (bytes : List ℕ). bytes ++ bytes_of_all (changes ++ Print text ∷ []))
    (going_none (pen_in form r c a) r c (rw (itself r, itself c) refl))
    ∙ (bytes_of_all-append changes (Print text ∷ [])
    ∙ (ap (λ (bytes : List ℕ). bytes ++ bytes_of_all (Print text ∷ [])) (change_none form a a (same_attrs-itself a))
    ∙ append-nil text)))

gathered_more : (text old more : List ℕ) → buffered_text text (old ++ more) ≡ buffered_text text old ++ more
unfolding buffered_text
gathered_more text old more = sym (append_assoc text old more)

-- Buffering the text of a glyph that looks like the one before the pen leads on.
pub alike_leads : (form : Form) (r c n : ℕ) (a : Attrs) (wrapped later : Bool) (like : CellValue)
    (own others xs ys : List CellValue)
    (text old new : List ℕ) → IsAlike c like own others → 0 < length (text_of like) → a ≡ attrs_of like →
    own ≡ take (length own) xs → length own ≤ length xs → others ≡ take (length others) ys →
    All (λ cell. is_blank cell ≡ true) (drop (length others) ys) → length xs ≤ length ys →
    n ≡ glyph_columns (is_wide like) → new ≡ old ++ text_of (at own c) →
    later ≡ wrapped_after_glyph wrapped (is_wide like) (drop (c + n) ys) →
    Leads (buffered_text text new) (cells_from r (c + n) (pen_past form r (c + n) a (text_of (at own c))) later xs ys)
    (buffered_text text old) (cells_from r c (pen_in form r c a) wrapped xs ys)
alike_leads form r c n a wrapped later like own others xs ys text old new alike some drawn is_own inside
    is_others blanks le count pushed flags =
    let x = at own c in
    let attrs : a ≡ attrs_of x = drawn ∙ sym (ap (λ head. head.attrs) alike.head) in
    let wide : is_wide x ≡ is_wide like = ap (λ head. head.shape.wide) alike.head in
    let columns : n ≡ glyph_columns (is_wide x) = count ∙ ap glyph_columns (sym wide) in
    let within = alike.inside in
    glyph_leads r c n (pen_in form r c a) (pen_past form r (c + n) a (text_of x)) wrapped later xs ys x
    (buffered_text text old) (buffered_text text new) (own_at c own xs is_own alike.inside)
    (omega arith) le (alike_other c like own others xs ys alike some is_own is_others blanks (omega arith))
    (text_not_blank x (alike_text c like own others alike some)) columns
    (ap (buffered_text text) pushed
    ∙ (gathered_more text old (text_of x)
    ∙ ap (λ (more : List ℕ). buffered_text text old ++ more)
    (sym (ap (λ (b : Attrs). bytes_of_all (placed_op (pen_in form r c a) r c b (Print (text_of x)))) (sym attrs)
    ∙ printed_again form r c a (text_of x)))))
    (ap (λ (k : ℕ). pen_past form r (c + k) a (text_of x)) columns
    ∙ ap (λ (b : Attrs). pen_past form r (c + glyph_columns (is_wide x)) b (text_of x)) attrs)
    (flags ∙ ap (λ (w : Bool). wrapped_after_glyph wrapped w (drop (c + n) ys)) (sym wide))

-- Terminals agree on where the cursor is after a glyph of one byte.
pub short_past : (form : Form) (r c : ℕ) (a : Attrs) (text : List ℕ) → length text ≡ 1 →
    pen_past form r c a text ≡ pen_in form r c a
short_past Fixed r c a text e = refl
short_past Portable r c a text e =
    ap (λ (n : ℕ). record (pen_in Portable r c a) { is_shifted = not ((n == 1) || is_certain_text text) }) e

-- A narrow glyph leaves the wrapped flag unchanged.
pub narrow_keeps : (wrapped wide : Bool) (rest : List CellValue) → wide ≡ false → wrapped ≡ wrapped_after_glyph
    wrapped wide rest
narrow_keeps true wide rest e = rw e refl
narrow_keeps false wide rest e = refl

-- All columns of a glyph that looks alike lie within the row that the terminal displays.
pub alike_inside : (c n : ℕ) (like : CellValue) (own others xs ys : List CellValue) → IsAlike c like own others →
    own ≡ take (length own) xs → length own ≤ length xs → IsRange xs ys → n ≡ glyph_columns (is_wide like) →
    c + n ≤ length ys
alike_inside c n like own others xs ys alike is_own inside range count =
    let here = own_at c own xs is_own alike.inside in
    let wide : is_wide like ≡ is_wide (at xs c) = sym (ap (λ head. head.shape.wide) alike.head) ∙ ap is_wide here in
    let columns : n ≡ glyph_columns (is_wide (at xs c)) = count ∙ ap glyph_columns wide in
    let within = alike.inside in
    let whole = glyph_inside xs ys c (omega arith) range in
    omega (arith, columns, whole)

-- A cell that is not a blank and needs output is a glyph.
pub other_glyph : (x y : CellValue) → is_blank x ≡ false → (is_right_half x || same_cell x y) ≡ false →
    is_glyph x ≡ true
other_glyph (blank a) y h e = absurd cc
other_glyph (glyph text wide a) y h e = refl
other_glyph right_half y h e = absurd cc

pub some_columns : (wide : Bool) → 0 < glyph_columns wide
some_columns true = omega arith
some_columns false = omega arith

-- Buffering a glyph and then the glyphs that look like it leads to the column after the last of them.
pub alike_settles : (row col m r c next : ℕ) (pen later : Pen) (wrapped is_wrapped : Bool) (xs ys : List CellValue)
    (old mid new : List ℕ) (whole : Scripted) → Leads mid (cells_from row (col + m) pen wrapped xs ys) old whole →
    Leads new (cells_from r next later is_wrapped xs ys) mid (cells_from r c pen wrapped xs ys) →
    r ≡ row → c ≡ col + m → c ≤ next →
    Leads new (cells_from row (col + (next - col)) later is_wrapped xs ys) old whole
alike_settles row col m r c next pen later wrapped is_wrapped xs ys old mid new whole first second rows columns order =
    let sum : next ≡ col + (next - col) = omega arith in
    leads_then old mid new whole (cells_from row (col + m) pen wrapped xs ys)
    (cells_from row (col + (next - col)) later is_wrapped xs ys) first
    (subst (λ (j : ℕ). Leads new (cells_from row j later is_wrapped xs ys) mid
    (cells_from row (col + m) pen wrapped xs ys)) sum
    (subst (λ (j : ℕ). Leads new (cells_from row next later is_wrapped xs ys) mid
    (cells_from row j pen wrapped xs ys)) columns
    (subst (λ (j : ℕ). Leads new (cells_from j next later is_wrapped xs ys) mid (cells_from j c pen wrapped xs ys))
    rows second)))

-- A cell that agrees with a blank in everything except the bytes of its text is that blank.
pub blank_by_head : (x y : CellValue) → IsCell x → is_blank y ≡ true → head_of_cell x ≡ head_of_cell y → x ≡ y
blank_by_head (blank a) (blank b) cell e h = ap blank (ap (λ head. head.attrs) h)
blank_by_head (glyph text wide a) (blank b) cell e h =
    let some = (IsGlyphText-length text wide cell).0 in
    let none = ap (λ head. head.shape.len) h in
    absurd (omega (arith, some, none))
blank_by_head right_half (blank b) cell e h = let half = ap (λ head. head.shape.right_half) h in absurd cc
blank_by_head x (glyph text wide b) cell e h = absurd cc
blank_by_head x right_half cell e h = absurd cc

-- One more cell equals the blank.
pub blank_more : (cells : List CellValue) (end x d : CellValue) (n k : ℕ)
    → ((j : ℕ) (d : CellValue) → j < n → slice_index_or cells j d ≡ end) → x ≡ slice_index_or cells n x
    → n < length cells → x ≡ end → k < n + 1 → slice_index_or cells k d ≡ end
blank_more cells end x d n k before read inside same less = ⊎_elim
    (λ (low : k < n). before k d low)
    (λ (high : n ≤ k).
    let last : k ≡ n = omega (arith, high, less) in
    ap (λ (j : ℕ). slice_index_or cells j d) last
    ∙ (get_or_default cells n d x inside ∙ (sym read ∙ same)))
    (cases_lt k n)
