-- Cells are written from items, and glyphs are built from their texts.
use Rattle.std.proofs.Common.{◌≡◌, ◌≢◌, ℕ, ◌+◌, ◌-◌, ◌<◌, ◌≤◌, Bool, true, false, List, [], ◌∷◌, ◌++◌, length, chars}
use Rattle.std.proofs.Common.{refl, sym, ap, ◌∙◌, arith, zero, suc, subst, inl, inr, encode_utf8, Option, Some, None, IsUtf8, ◌==◌, eqb-true}
use Rattle.std.specs.Prelude.{nat_eq, slice_set}
use Rattle.std.specs.List.{AllByRecursion}
use Rattle.std.specs.Option.{option_eq}
use Rattle.std.proofs.lemmas.Bool.{cases_lt}
use Rattle.std.proofs.lemmas.List.{get_or-set_other, get_or-set_same, length-set}
use Rattle.vt_cells.specs.Attrs.{Attrs}
use Rattle.vt_cells.specs.Cell.{CellValue, blank, glyph, right_half, default_blank, cell_with_mark, cell_made_wide}
use Rattle.vt_cells.specs.Cell.{is_right_half}
use Rattle.vt_cells.specs.Glyph.{columns_of, glyph_columns, IsGlyphText, IsMark, Joins}
use Rattle.vt_cells.proofs.Glyphs.{IsGlyphText-chars, IsGlyphText-length, IsGlyphText-utf8, columns_of-le}
use Rattle.vt_rows.specs.Cells.{at}
use Rattle.vt_rows.proofs.Edits.{at-past}
use Rattle.vt_packed.specs.Items.{Item, IsItemText, cell_of_parts, cells_of_parts, first_cell, item_cells}
use Rattle.vt_packed.specs.Internals.{IsBuiltTo, IsWrittenTo}

-- ==== Cells written from left to right

pub written_none : (all cells : List CellValue) → IsWrittenTo all cells 0 all
written_none all cells = record { within = omega arith; before = λ k h. absurd (omega arith); more = λ _ k. let j : k ≡ 0 + k = omega arith in ap (λ (m : ℕ). at all m) j }

pub written_one : (all cells new : List CellValue) (column : ℕ) (x : CellValue) (rest : List CellValue) →
    IsWrittenTo all cells column (x ∷ rest) → column < length cells → length new ≡ length cells →
    ((k : ℕ) → k < column → at new k ≡ at cells k) → at new column ≡ x → IsWrittenTo all new (column + 1) rest
written_one all cells new column x rest w lt len same e = record {
  within = omega arith;
  before = λ k h. elim (cases_lt k column) [
    | inl low ↦ same k low ∙ w.before k low
    | inr high ↦
        let i : k ≡ column = omega arith in
        let j : column + 0 ≡ k = omega arith in
        ap (λ (m : ℕ). at new m) i ∙ (e ∙ (w.more lt 0 ∙ ap (λ (m : ℕ). at all m) j))
  ];
  more = λ _ k.
      let j : column + suc k ≡ column + 1 + k = omega arith in
      w.more lt (suc k) ∙ ap (λ (m : ℕ). at all m) j;
}

-- At the end of the cells, nothing else is written.
pub written_cut : (all cells rest other : List CellValue) (column : ℕ) → length cells ≤ column →
    IsWrittenTo all cells column rest → IsWrittenTo all cells column other
written_cut all cells rest other column le w =
    record { within = w.within; before = w.before; more = λ lt. absurd (omega arith) }

pub written_two : (all cells mid new : List CellValue) (column : ℕ) (x y : CellValue) (rest : List CellValue) →
    IsWrittenTo all cells column (x ∷ y ∷ rest) → column + 1 < length cells → length mid ≡ length cells →
    length new ≡ length cells → ((k : ℕ) → k < column → at mid k ≡ at cells k) → at mid column ≡ x →
    ((k : ℕ) → k < column + 1 → at new k ≡ at mid k) → at new (column + 1) ≡ y →
    IsWrittenTo all new (column + 2) rest
written_two all cells mid new column x y rest w lt len_mid len same e more f =
    let first = written_one all cells mid column x (y ∷ rest) w (omega arith) len_mid same e in
    let two : column + 1 + 1 ≡ column + 2 = omega arith in
    subst (λ (n : ℕ). IsWrittenTo all new n rest) two
    (written_one all mid new (column + 1) y rest first (omega arith) (len ∙ sym len_mid) more f)

pub narrow_cells : (wide : Bool) (text : List ℕ) (attrs : Attrs) → wide ≡ false →
    cells_of_parts wide text attrs ≡ cell_of_parts wide text attrs ∷ []
narrow_cells true text attrs e = absurd (cc)
narrow_cells false [] attrs e = refl
narrow_cells false (byte ∷ text) attrs e = refl

pub wide_cells : (wide : Bool) (text : List ℕ) (attrs : Attrs) → wide ≡ true →
    cells_of_parts wide text attrs ≡ cell_of_parts wide text attrs ∷ right_half ∷ []
wide_cells true text attrs e = refl
wide_cells false text attrs e = absurd (cc)

set_before : (cells : List CellValue) (column k : ℕ) (x : CellValue) → k < column → at (slice_set cells column x) k ≡ at cells k
set_before cells column k x h =
    let ne : k ≢ column = omega arith in
    get_or-set_other cells column k x default_blank ne

set_here : (cells : List CellValue) (column : ℕ) (x : CellValue) → column < length cells → at (slice_set cells column x) column ≡ x
set_here cells column x h = get_or-set_same cells column x default_blank h

-- A narrow item is written.
pub put_narrow : (all cells : List CellValue) (column : ℕ) (item : Item) (x : CellValue) (rest : List CellValue) →
    column < length cells → x ≡ first_cell item → item.style.wide ≡ false →
    IsWrittenTo all cells column (item_cells item ++ rest) → IsWrittenTo all (slice_set cells column x) (column + 1) rest
put_narrow all cells column item x rest lt e narrow w =
    written_one all cells (slice_set cells column x) column (first_cell item) rest
    (subst (λ (xs : List CellValue). IsWrittenTo all cells column (xs ++ rest))
    (narrow_cells item.style.wide item.text item.style.attrs narrow) w)
    lt (length-set cells column x) (λ k h. set_before cells column k x h) (set_here cells column x lt ∙ e)

-- The first cell of a wide item is written at the end of the cells.
pub put_cut : (all cells : List CellValue) (column : ℕ) (item : Item) (x : CellValue) (rest : List CellValue) →
    column < length cells → x ≡ first_cell item → item.style.wide ≡ true → column + 1 ≡ length cells →
    IsWrittenTo all cells column (item_cells item ++ rest) → IsWrittenTo all (slice_set cells column x) (column + 1) rest
put_cut all cells column item x rest lt e wide end w =
    let size = length-set cells column x in
    written_cut all (slice_set cells column x) (right_half ∷ rest) rest (column + 1) (omega arith)
    (written_one all cells (slice_set cells column x) column (first_cell item) (right_half ∷ rest)
    (subst (λ (xs : List CellValue). IsWrittenTo all cells column (xs ++ rest))
    (wide_cells item.style.wide item.text item.style.attrs wide) w)
    lt size (λ k h. set_before cells column k x h) (set_here cells column x lt ∙ e))

-- Both cells of a wide item are written.
pub put_both : (all cells : List CellValue) (column : ℕ) (item : Item) (x y : CellValue) (rest : List CellValue) →
    column + 1 < length cells → x ≡ first_cell item → item.style.wide ≡ true → y ≡ right_half →
    IsWrittenTo all cells column (item_cells item ++ rest) →
    IsWrittenTo all (slice_set (slice_set cells column x) (column + 1) y) (column + 2) rest
put_both all cells column item x y rest lt e wide half w =
    let mid = slice_set cells column x in
    let size = length-set cells column x in
    let inside : column + 1 < length mid = omega arith in
    written_two all cells mid (slice_set mid (column + 1) y) column (first_cell item) right_half rest
    (subst (λ (xs : List CellValue). IsWrittenTo all cells column (xs ++ rest))
    (wide_cells item.style.wide item.text item.style.attrs wide) w)
    lt size (length-set mid (column + 1) y ∙ size) (λ k h. set_before cells column k x h)
    (set_here cells column x (omega arith) ∙ e) (λ k h. set_before mid (column + 1) k y h)
    (set_here mid (column + 1) y inside ∙ half)

-- If all cells are written, they are those of `all`.
pub written_all : (all cells : List CellValue) (column : ℕ) (rest : List CellValue) → IsWrittenTo all cells column rest →
    length cells ≤ column → (k : ℕ) → k < length cells → at cells k ≡ at all k
written_all all cells column rest w le k h = w.before k (omega arith)

-- If nothing is left to write, default blanks complete the cells.
pub written_cleared : (all cells new : List CellValue) (column : ℕ) → IsWrittenTo all cells column [] →
    column < length cells → ((k : ℕ) → k < column → at new k ≡ at cells k) →
    ((k : ℕ) → column ≤ k → at new k ≡ default_blank) → (k : ℕ) → at new k ≡ at all k
written_cleared all cells new column w lt same cleared k = elim (cases_lt k column) [
  | inl low ↦ same k low ∙ w.before k low
  | inr high ↦
      let j : column + (k - column) ≡ k = omega arith in
      cleared k high ∙ (sym (at-past [] (k - column) (omega arith)) ∙ (w.more lt (k - column) ∙ ap (λ (m : ℕ). at all m) j))
]

-- ==== Glyphs built from their texts

pub empty_len : (n : ℕ) (b : Bool) → b ≡ (n == 0) → b ≡ true → n ≡ 0
empty_len n b e t = eqb-true n 0 (sym e ∙ t)

pub some_len : (n : ℕ) (b : Bool) → b ≡ (n == 0) → b ≡ false → 0 < n
some_len zero b e f = let h : true ≡ false = sym e ∙ f in absurd (cc)
some_len (suc n) b e f = omega arith

pub text_utf8 : (wide : Bool) (text : List ℕ) → IsItemText wide text → 0 < length text → IsUtf8 text
text_utf8 true text is h = IsGlyphText-utf8 text true is
text_utf8 false [] is h = absurd (omega (arith, h))
text_utf8 false (byte ∷ text) is h = IsGlyphText-utf8 (byte ∷ text) false is

-- An item with text is a glyph.
pub glyph_text : (wide : Bool) (text : List ℕ) → IsItemText wide text → 0 < length text → IsGlyphText text wide
glyph_text true text is h = is
glyph_text false [] is h = absurd (omega (arith, h))
glyph_text false (byte ∷ text) is h = is

pub glyph_cell : (wide : Bool) (text : List ℕ) (attrs : Attrs) → 0 < length text →
    glyph text wide attrs ≡ cell_of_parts wide text attrs
glyph_cell true text attrs h = refl
glyph_cell false [] attrs h = absurd (omega (arith, h))
glyph_cell false (byte ∷ text) attrs h = refl

-- An item without text is a blank.
pub blank_cell : (wide : Bool) (text : List ℕ) (attrs : Attrs) → IsItemText wide text → length text ≡ 0 →
    blank attrs ≡ cell_of_parts wide text attrs
blank_cell true text attrs is e = absurd (omega (arith, e, (IsGlyphText-length text true is).0))
blank_cell false [] attrs is e = refl
blank_cell false (byte ∷ text) attrs is e = absurd (omega (arith, e))

-- The first character and the combining characters of a glyph's text.
pub record Spelled (first : ℕ) (marks whole : List ℕ) : Type 0 where
  pub drawn : columns_of first ≢ Some 0
  pub shown : columns_of first ≢ None
  pub reported : first ≢ 0xFFFD
  pub are_marks : AllByRecursion IsMark marks
  pub joins : Joins (encode_utf8 first) marks whole

head : List ℕ → ℕ → ℕ
head [] d = d
head (x ∷ xs) d = x

tail : List ℕ → List ℕ
tail [] = []
tail (x ∷ xs) = xs

pub spelled : (whole : List ℕ) (wide : Bool) (first : ℕ) (marks : List ℕ) → IsGlyphText whole wide →
    chars whole ≡ first ∷ marks → Spelled first marks whole
unfolding head tail
spelled whole wide first marks g e =
    let same = sym (IsGlyphText-chars whole wide g) ∙ e in
    subst (λ (ms : List ℕ). Spelled first ms whole) (ap tail same)
    (subst (λ (c : ℕ). Spelled c g.marks whole) (ap (λ (l : List ℕ). head l 0) same)
    (record { drawn = g.drawn; shown = g.shown; reported = g.reported; are_marks = g.are_marks; joins = g.spelled }))

-- A character that takes columns takes one or two.
pub two_or_one : (c : ℕ) → columns_of c ≢ Some 0 → columns_of c ≢ None →
    columns_of c ≡ Some (glyph_columns (option_eq nat_eq (columns_of c) (Some 2)))
two_or_one c drawn shown = by_columns (columns_of c) refl
  where
    by_columns : (w : Option ℕ) → columns_of c ≡ w → w ≡ Some (glyph_columns (option_eq nat_eq w (Some 2)))
    by_columns None e = absurd (shown e)
    by_columns (Some zero) e = absurd (drawn e)
    by_columns (Some (suc zero)) e = refl
    by_columns (Some (suc (suc zero))) e = refl
    by_columns (Some (suc (suc (suc k)))) e = absurd (omega (arith, columns_of-le c (suc (suc (suc k))) e))

-- The first character is drawn.
pub built_first : (whole : List ℕ) (first : ℕ) (marks : List ℕ) (wide : Bool) (attrs : Attrs) (cell : CellValue) →
    Spelled first marks whole → cell ≡ glyph (encode_utf8 first) wide attrs → IsBuiltTo whole marks attrs cell
built_first whole first marks wide attrs cell s e =
    record { text = encode_utf8 first; wide = wide; is = e; are_marks = s.are_marks; joins = s.joins }

pub built_not_half : (whole marks : List ℕ) (attrs : Attrs) (cell : CellValue) → IsBuiltTo whole marks attrs cell →
    is_right_half cell ≡ false
built_not_half whole marks attrs cell b = ap is_right_half b.is

-- One more combining character is added.
pub built_more : (whole : List ℕ) (mark : ℕ) (marks : List ℕ) (attrs : Attrs) (cell new : CellValue) →
    IsBuiltTo whole (mark ∷ marks) attrs cell → new ≡ cell_with_mark mark cell → IsBuiltTo whole marks attrs new
built_more whole mark marks attrs cell new b e = record {
  text = b.text ++ encode_utf8 mark;
  wide = b.wide;
  is =
      e
      ∙ (ap (cell_with_mark mark) b.is
      ∙ ap (λ (t : List ℕ). glyph t b.wide attrs) (rw b.joins.0 refl));
  are_marks = b.are_marks.1;
  joins = b.joins.1;
}

-- All combining characters are added.
pub built_all : (whole : List ℕ) (attrs : Attrs) (cell : CellValue) (wide : Bool) → IsBuiltTo whole [] attrs cell →
    cell_made_wide wide cell ≡ glyph whole wide attrs
built_all whole attrs cell wide b =
    ap (cell_made_wide wide) b.is ∙ ap (λ (t : List ℕ). glyph t wide attrs) b.joins
