-- The basic text of items.
use Rattle.std.proofs.Common.{◌≡◌, ℕ, ◌+◌, ◌-◌, ◌<◌, ◌&&◌, Bool, true, false, List, [], ◌∷◌, ◌++◌, length}
use Rattle.std.proofs.Common.{refl, sym, ap, ap₂, ◌∙◌, arith, zero, suc}
use Rattle.std.specs.Prelude.{if◌then◌else◌}
use Rattle.std.specs.List.{list_all}
use Rattle.vt_cells.specs.Attrs.{Attrs, default_attrs, same_attrs}
use Rattle.vt_cells.specs.Cell.{CellValue, blank, glyph, right_half, attrs_of, is_default_blank, is_right_half}
use Rattle.vt_cells.specs.Op.{change_text}
use Rattle.vt_cells.proofs.Attributes.{same_attrs-itself}
use Rattle.vt_cells.proofs.Glyphs.{IsGlyphText-length}
use Rattle.vt_rows.specs.Basic.{attrs_after, attrs_after_all, cells_text, shown_text}
use Rattle.vt_rows.specs.Cells.{blanks}
use Rattle.vt_rows.specs.Internals.{cell_text}
use Rattle.vt_rows.specs.Row.{cells_without_end}
use Rattle.vt_rows.proofs.RowTexts.{kept_default, kept_right, kept_same, own, one_first}
use Rattle.vt_packed.specs.Items.{Item, IsItemText, cell_of_parts, cells_of_parts, first_cell, item_cells}
use Rattle.vt_packed.specs.Packed.{padded}

attrs_by : (wide : Bool) (text : List ℕ) (attrs : Attrs) → attrs_of (cell_of_parts wide text attrs) ≡ attrs
attrs_by true text attrs = refl
attrs_by false [] attrs = refl
attrs_by false (byte ∷ text) attrs = refl

-- The attributes of an item's first cell are those of the item.
pub item_attrs : (item : Item) → item.style.attrs ≡ attrs_of (first_cell item)
item_attrs item = sym (attrs_by item.style.wide item.text item.style.attrs)

no_half : (wide : Bool) (text : List ℕ) (attrs : Attrs) → is_right_half (cell_of_parts wide text attrs) ≡ false
no_half true text attrs = refl
no_half false [] attrs = refl
no_half false (byte ∷ text) attrs = refl

-- The cell is a default blank if the item has no text and default attributes.
default_by : (wide : Bool) (text : List ℕ) (attrs : Attrs) → IsItemText wide text → length text ≡ 0 →
    is_default_blank (cell_of_parts wide text attrs) ≡ same_attrs attrs default_attrs
default_by true text attrs is e = absurd (omega (arith, e, (IsGlyphText-length text true is).0))
default_by false [] attrs is e = refl
default_by false (byte ∷ text) attrs is e = absurd (omega (arith, e))

glyph_by : (wide : Bool) (text : List ℕ) (attrs : Attrs) → 0 < length text →
    is_default_blank (cell_of_parts wide text attrs) ≡ false
glyph_by true text attrs h = refl
glyph_by false [] attrs h = absurd (omega (arith, h))
glyph_by false (byte ∷ text) attrs h = refl

pub shown_blank : (wide : Bool) (text : List ℕ) (attrs : Attrs) → IsItemText wide text → length text ≡ 0 →
    0x20 ∷ [] ≡ shown_text (cell_of_parts wide text attrs)
shown_blank true text attrs is e = absurd (omega (arith, e, (IsGlyphText-length text true is).0))
shown_blank false [] attrs is e = refl
shown_blank false (byte ∷ text) attrs is e = absurd (omega (arith, e))

pub shown_glyph : (wide : Bool) (text : List ℕ) (attrs : Attrs) → 0 < length text →
    text ≡ shown_text (cell_of_parts wide text attrs)
shown_glyph true text attrs h = refl
shown_glyph false [] attrs h = absurd (omega (arith, h))
shown_glyph false (byte ∷ text) attrs h = refl

-- ---- Attributes that are kept

pub same_kept : (attrs own : Attrs) (wide : Bool) (text : List ℕ) → same_attrs attrs own ≡ true →
    (attrs_after attrs (cell_of_parts wide text own) ≡ attrs)
    × (change_text attrs (attrs_after attrs (cell_of_parts wide text own)) ≡ [])
same_kept attrs own wide text e =
    kept_same attrs (cell_of_parts wide text own) (ap (same_attrs attrs) (attrs_by wide text own) ∙ e)

pub default_kept : (attrs own : Attrs) (wide : Bool) (text : List ℕ) → IsItemText wide text → length text ≡ 0 →
    same_attrs own default_attrs ≡ true →
    (attrs_after attrs (cell_of_parts wide text own) ≡ attrs)
    × (change_text attrs (attrs_after attrs (cell_of_parts wide text own)) ≡ [])
default_kept attrs own wide text is e same =
    kept_default attrs (cell_of_parts wide text own) (default_by wide text own is e ∙ same)

pub own_blank : (attrs mine : Attrs) (wide : Bool) (text : List ℕ) → IsItemText wide text → length text ≡ 0 →
    same_attrs mine default_attrs ≡ false →
    attrs_after attrs (cell_of_parts wide text mine) ≡ attrs_of (cell_of_parts wide text mine)
own_blank attrs mine wide text is e other =
    own attrs (cell_of_parts wide text mine) (default_by wide text mine is e ∙ other) (no_half wide text mine)

pub own_glyph : (attrs mine : Attrs) (wide : Bool) (text : List ℕ) → 0 < length text →
    attrs_after attrs (cell_of_parts wide text mine) ≡ attrs_of (cell_of_parts wide text mine)
own_glyph attrs mine wide text h =
    own attrs (cell_of_parts wide text mine) (glyph_by wide text mine h) (no_half wide text mine)

-- ---- The text of the cells of items

-- A continuation cell adds no text.
half_text : (attrs : Attrs) (rest : List CellValue) → cells_text attrs (right_half ∷ rest) ≡ cells_text attrs rest
half_text attrs rest =
    let kept = kept_right attrs right_half refl in
    ap₂ (λ (change : List ℕ) (after : Attrs). change ++ ([] ++ cells_text after rest)) kept.1 kept.0

parts_text : (wide : Bool) (text : List ℕ) (own attrs : Attrs) (rest : List CellValue) →
    cells_text attrs (cells_of_parts wide text own ++ rest)
    ≡ cell_text attrs (cell_of_parts wide text own)
    ++ cells_text (attrs_after attrs (cell_of_parts wide text own)) rest
parts_text true text own attrs rest =
    let cell = glyph text true own in
    one_first attrs (cell ∷ right_half ∷ rest) (right_half ∷ rest) cell refl
    ∙ ap (λ (more : List ℕ). cell_text attrs cell ++ more) (half_text (attrs_after attrs cell) rest)
parts_text false [] own attrs rest = one_first attrs (blank own ∷ rest) rest (blank own) refl
parts_text false (byte ∷ text) own attrs rest =
    one_first attrs (glyph (byte ∷ text) false own ∷ rest) rest (glyph (byte ∷ text) false own) refl

-- The text of the cells of an item and of those after it.
pub item_text : (item : Item) (attrs : Attrs) (rest : List CellValue) →
    cells_text attrs (item_cells item ++ rest)
    ≡ cell_text attrs (first_cell item) ++ cells_text (attrs_after attrs (first_cell item)) rest
item_text item attrs rest = parts_text item.style.wide item.text item.style.attrs attrs rest

parts_attrs : (wide : Bool) (text : List ℕ) (own attrs : Attrs) (rest : List CellValue) →
    attrs_after_all attrs (cells_of_parts wide text own ++ rest)
    ≡ attrs_after_all (attrs_after attrs (cell_of_parts wide text own)) rest
parts_attrs true text own attrs rest =
    ap (λ (after : Attrs). attrs_after_all after rest) (kept_right (attrs_after attrs (glyph text true own)) right_half refl).0
parts_attrs false [] own attrs rest = refl
parts_attrs false (byte ∷ text) own attrs rest = refl

pub item_attrs_after : (item : Item) (attrs : Attrs) (rest : List CellValue) →
    attrs_after_all attrs (item_cells item ++ rest) ≡ attrs_after_all (attrs_after attrs (first_cell item)) rest
item_attrs_after item attrs rest = parts_attrs item.style.wide item.text item.style.attrs attrs rest

-- ---- Default blanks at the end of a row

blanks_all : (n : ℕ) → list_all is_default_blank (blanks default_attrs n) ≡ true
blanks_all zero = refl
blanks_all (suc n) = rw (same_attrs-itself default_attrs) (blanks_all n)

all_more : (xs : List CellValue) (n : ℕ) →
    list_all is_default_blank (xs ++ blanks default_attrs n) ≡ list_all is_default_blank xs
all_more [] n = blanks_all n
all_more (x ∷ xs) n = ap (λ (b : Bool). is_default_blank x && b) (all_more xs n)

none_left : (n : ℕ) → cells_without_end (blanks default_attrs n) ≡ []
none_left zero = refl
none_left (suc n) = rw (blanks_all (suc n)) refl

end_more : (xs : List CellValue) (n : ℕ) → cells_without_end (xs ++ blanks default_attrs n) ≡ cells_without_end xs
end_more [] n = none_left n
end_more (x ∷ xs) n =
    ap₂ (λ (b : Bool) (ys : List CellValue). if b then [] else x ∷ ys) (all_more (x ∷ xs) n) (end_more xs n)

-- The cells of a packed row without the default blanks at its end.
pub trimmed_padded : (n : ℕ) (xs : List CellValue) → cells_without_end xs ≡ xs → cells_without_end (padded n xs) ≡ xs
unfolding padded
trimmed_padded n xs e = end_more xs (n - length xs) ∙ e
