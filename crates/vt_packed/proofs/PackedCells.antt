-- Cells are the same once they are packed and unpacked.
use Rattle.std.proofs.Common.{◌≡◌, ℕ, ◌+◌, ◌-◌, ◌≤◌, ◌&&◌, Bool, true, false, List, [], ◌∷◌, ◌++◌, length, map}
use Rattle.std.proofs.Common.{refl, sym, ap, ap₂, ◌∙◌, arith, take, drop, take-append-drop, zero, suc, subst, inl, inr, append_assoc, append-nil, add-one}
use Rattle.std.specs.Prelude.{if◌then◌else◌}
use Rattle.std.specs.List.{AllByRecursion, list_all}
use Rattle.std.proofs.lemmas.Bool.{cases_lt}
use Rattle.std.proofs.lemmas.List.{ext_get_or, length-append, length-replicate, map-append}
use Rattle.std.proofs.lemmas.List.{get_or_append_left, get_or-append_right}
use Rattle.vt_cells.specs.Attrs.{Attrs, default_attrs}
use Rattle.vt_cells.specs.Cell.{CellValue, blank, glyph, right_half, default_blank, IsCell, is_default_blank}
use Rattle.vt_cells.specs.Cell.{is_wide, is_right_half, text_of, attrs_of}
use Rattle.vt_cells.proofs.Glyphs.{IsGlyphText-length}
use Rattle.vt_rows.specs.Cells.{at, blanks, IsPaired}
use Rattle.vt_rows.specs.Row.{cells_without_end}
use Rattle.vt_rows.proofs.Edits.{at-blanks, at-past}
use Rattle.vt_rows.proofs.Rows.{IsPaired-trimmed, at-trimmed, length-trimmed}
use Rattle.vt_packed.specs.Items.{Item, Style, IsItem, IsItemText, cells_of, cells_of_parts, items_of, style_of}
use Rattle.vt_packed.specs.Items.{stored_text, stored_texts}
use Rattle.vt_packed.specs.Packed.{AreCounted, IsPacked, Packs, extends, items_from, packed_runs, packed_text, padded, run_of}
use Rattle.vt_packed.specs.Packed.{runs_of, styles_of}
use Rattle.vt_packed.specs.declared.runs.Run.{Run}
use Rattle.vt_packed.specs.Internals.{AddsCell, full_run, last_or, pushed, runs_with}
use Rattle.vt_packed.proofs.ItemLists.{items_back}
use Rattle.vt_packed.proofs.Styles.{Adds, begins_last, counted_runs, joins_last, runs_longer, runs_more, styles_back}

-- ==== Packing cell by cell

items_of-append : (xs ys : List CellValue) → items_of (xs ++ ys) ≡ items_of xs ++ items_of ys
items_of-append [] ys = refl
items_of-append (blank attrs ∷ xs) ys =
    ap (λ (items : List Item). record { style = style_of attrs false; text = [] } ∷ items) (items_of-append xs ys)
items_of-append (glyph text wide attrs ∷ xs) ys =
    ap (λ (items : List Item). record { style = style_of attrs wide; text = text } ∷ items) (items_of-append xs ys)
items_of-append (right_half ∷ xs) ys = items_of-append xs ys

stored_texts-append : (xs ys : List Item) → stored_texts (xs ++ ys) ≡ stored_texts xs ++ stored_texts ys
stored_texts-append [] ys = refl
stored_texts-append (x ∷ xs) ys =
    ap (λ (bytes : List ℕ). stored_text x.text ++ bytes) (stored_texts-append xs ys)
    ∙ sym (append_assoc (stored_text x.text) (stored_texts xs) (stored_texts ys))

all_push : (xs : List CellValue) (x : CellValue) → AllByRecursion IsCell xs → IsCell x →
    AllByRecursion IsCell (xs ++ x ∷ [])
all_push [] x all h = (h, tt)
all_push (y ∷ xs) x all h = (all.0, all_push xs x all.1 h)

styles_more : (cells : List CellValue) (x : CellValue) →
    runs_of (map (λ (i : Item). i.style) (items_of cells) ++ map (λ (i : Item). i.style) (items_of (x ∷ [])))
    ≡ packed_runs (cells ++ x ∷ [])
styles_more cells x =
    ap runs_of (sym (map-append (λ (i : Item). i.style) (items_of cells) (items_of (x ∷ [])))
    ∙ ap (map (λ (i : Item). i.style)) (sym (items_of-append cells (x ∷ []))))

pub packs_none : Packs [] [] []
packs_none = record { are_runs = refl; is_text = refl; sound = tt }

-- The runs of cells and one more.
pub packed_runs-more : (cells : List CellValue) (x : CellValue) →
    runs_with (packed_runs cells) x ≡ packed_runs (cells ++ x ∷ [])
packed_runs-more cells (blank attrs) =
    sym (runs_more (map (λ (i : Item). i.style) (items_of cells)) (style_of attrs false)) ∙ styles_more cells (blank attrs)
packed_runs-more cells (glyph text wide attrs) =
    sym (runs_more (map (λ (i : Item). i.style) (items_of cells)) (style_of attrs wide))
    ∙ styles_more cells (glyph text wide attrs)
packed_runs-more cells right_half =
    ap runs_of (sym (append-nil (map (λ (i : Item). i.style) (items_of cells)))) ∙ styles_more cells right_half

-- The text of cells and one more.
pub packed_text-more : (cells : List CellValue) (x : CellValue) →
    packed_text cells ++ packed_text (x ∷ []) ≡ packed_text (cells ++ x ∷ [])
packed_text-more cells x =
    sym (stored_texts-append (items_of cells) (items_of (x ∷ []))) ∙ ap stored_texts (sym (items_of-append cells (x ∷ [])))

-- One more cell is packed.
pub packs_more : (cells : List CellValue) (x : CellValue) (runs more : List Run) (text longer : List ℕ) →
    Packs cells runs text → more ≡ runs_with runs x → longer ≡ text ++ packed_text (x ∷ []) → IsCell x →
    Packs (cells ++ x ∷ []) more longer
packs_more cells x runs more text longer p new_runs new_text sound = record {
  are_runs = new_runs ∙ (ap (λ (rs : List Run). runs_with rs x) p.are_runs ∙ packed_runs-more cells x);
  is_text = new_text ∙ (ap (λ (bytes : List ℕ). bytes ++ packed_text (x ∷ [])) p.is_text ∙ packed_text-more cells x);
  sound = all_push cells x p.sound sound;
}

-- More cells have no fewer runs.
pub packed_runs-longer : (cells more : List CellValue) →
    length (packed_runs cells) ≤ length (packed_runs (cells ++ more))
packed_runs-longer cells more =
    let longer = runs_longer (map (λ (i : Item). i.style) (items_of cells)) (map (λ (i : Item). i.style) (items_of more)) in
    let all = ap (λ (ss : List Style). length (runs_of ss))
    (sym (map-append (λ (i : Item). i.style) (items_of cells) (items_of more))
    ∙ ap (map (λ (i : Item). i.style)) (sym (items_of-append cells more))) in
    omega (arith, longer, all)

-- More cells have no shorter text.
pub packed_text-longer : (cells more : List CellValue) →
    length (packed_text cells) ≤ length (packed_text (cells ++ more))
packed_text-longer cells more =
    let sum = length-append (packed_text cells) (packed_text more) in
    let all = ap (λ (bytes : List ℕ). length bytes)
    (sym (stored_texts-append (items_of cells) (items_of more)) ∙ ap stored_texts (sym (items_of-append cells more))) in
    omega (arith, sum, all)

-- ---- The runs that a single cell begins

pub runs_with-half : (runs : List Run) (x : CellValue) → is_right_half x ≡ true → runs_with runs x ≡ runs
runs_with-half runs (blank attrs) e = absurd (cc)
runs_with-half runs (glyph text wide attrs) e = absurd (cc)
runs_with-half runs right_half e = refl

pub runs_with-item : (runs : List Run) (x : CellValue) → is_right_half x ≡ false →
    runs_with runs x ≡ pushed runs (style_of (attrs_of x) (is_wide x))
runs_with-item runs (blank attrs) e = refl
runs_with-item runs (glyph text wide attrs) e = refl
runs_with-item runs right_half e = absurd (cc)

pub text_of-half : (x : CellValue) → is_right_half x ≡ true → packed_text (x ∷ []) ≡ []
text_of-half (blank attrs) e = absurd (cc)
text_of-half (glyph text wide attrs) e = absurd (cc)
text_of-half right_half e = refl

pub text_of-item : (x : CellValue) → is_right_half x ≡ false → packed_text (x ∷ []) ≡ stored_text (text_of x)
text_of-item (blank attrs) e = append-nil (stored_text [])
text_of-item (glyph text wide attrs) e = append-nil (stored_text text)
text_of-item right_half e = absurd (cc)

-- A continuation cell begins no run.
pub adds_half : (runs : List Run) (last : Run) (x : CellValue) → is_right_half x ≡ true → last ≡ last_or full_run runs →
    AddsCell runs x 0 last
adds_half runs last x e is =
    let same = runs_with-half runs x e in record {
      has_count = ap (λ (rs : List Run). length rs) same ∙ (let n : length runs ≡ length runs + 0 = omega arith in n);
      is_last = is ∙ ap (last_or full_run) (sym same);
    }

adds_by : (runs : List Run) (last new : Run) (style : Style) (n : ℕ) (b : Bool) → last ≡ last_or full_run runs →
    extends style last ≡ b → n ≡ (if b then 0 else 1) →
    new ≡ (if b then record last { count = last.count + 1 } else run_of style) → Adds full_run runs n new style
adds_by runs last new style n true is e count after =
    subst (λ (m : ℕ). Adds full_run runs m new style) (sym count)
    (subst (λ (r : Run). Adds full_run runs 0 r style)
    (ap (λ (r : Run). record r { count = r.count + 1 }) (sym is) ∙ sym after)
    (joins_last full_run runs style refl (ap (extends style) (sym is) ∙ e)))
adds_by runs last new style n false is e count after =
    subst (λ (m : ℕ). Adds full_run runs m new style) (sym count)
    (subst (λ (r : Run). Adds full_run runs 1 r style) (sym after)
    (begins_last full_run runs style (ap (extends style) (sym is) ∙ e)))

-- A blank or a glyph is added to the last run, or begins a run.
pub adds_item : (runs : List Run) (last new : Run) (attrs : Attrs) (wide : Bool) (x : CellValue) (n : ℕ) →
    is_right_half x ≡ false → attrs ≡ attrs_of x → wide ≡ is_wide x → last ≡ last_or full_run runs →
    n ≡ (if extends (style_of attrs wide) last then 0 else 1) →
    new ≡ (if extends (style_of attrs wide) last then record last { count = last.count + 1 } else run_of (style_of attrs wide)) →
    AddsCell runs x n new
adds_item runs last new attrs wide x n e is_attrs is_wide' is count after =
    let style = style_of attrs wide in
    let adds = adds_by runs last new style n (extends style last) is refl count after in
    let same : runs_with runs x ≡ pushed runs style = runs_with-item runs x e
    ∙ ap₂ (λ (a : Attrs) (w : Bool). pushed runs (style_of a w)) (sym is_attrs) (sym is_wide') in record {
      has_count = ap (λ (rs : List Run). length rs) same ∙ adds.has_count;
      is_last = adds.is_last ∙ ap (last_or full_run) (sym same);
    }

-- ---- Memory for the cells before the last one suffices

pub runs_fit : (cells front : List CellValue) (x : CellValue) (n : ℕ) → take n cells ≡ front ++ x ∷ [] →
    length (runs_with (packed_runs front) x) ≤ length (packed_runs cells)
runs_fit cells front x n e =
    let more = ap (λ (rs : List Run). length rs)
    (packed_runs-more front x ∙ ap packed_runs (sym e)) in
    let longer = packed_runs-longer (take n cells) (drop n cells) in
    let all = ap (λ (xs : List CellValue). length (packed_runs xs)) (take-append-drop n cells) in
    omega (arith, more, longer, all)

pub text_fits : (cells front : List CellValue) (x : CellValue) (n : ℕ) → take n cells ≡ front ++ x ∷ [] →
    length (packed_text front ++ packed_text (x ∷ [])) ≤ length (packed_text cells)
text_fits cells front x n e =
    let more = ap (λ (bytes : List ℕ). length bytes)
    (packed_text-more front x ∙ ap packed_text (sym e)) in
    let longer = packed_text-longer (take n cells) (drop n cells) in
    let all = ap (λ (xs : List CellValue). length (packed_text xs)) (take-append-drop n cells) in
    omega (arith, more, longer, all)

-- ==== The cells of items

items_by : (wide : Bool) (text : List ℕ) (attrs : Attrs) (rest : List CellValue) →
    items_of (cells_of_parts wide text attrs ++ rest) ≡ record { style = style_of attrs wide; text = text } ∷ items_of rest
items_by true text attrs rest = refl
items_by false [] attrs rest = refl
items_by false (byte ∷ text) attrs rest = refl

-- Items are the items of their cells.
pub items_again : (items : List Item) → items_of (cells_of items) ≡ items
items_again [] = refl
items_again (item ∷ items) =
    items_by item.style.wide item.text item.style.attrs (cells_of items)
    ∙ ap (λ (rest : List Item). item ∷ rest) (items_again items)

narrow_item : (text : List ℕ) (attrs : Attrs) → IsCell (glyph text false attrs) → IsItemText false text
narrow_item [] attrs h = tt
narrow_item (byte ∷ text) attrs h = h

items_sound : (cells : List CellValue) → AllByRecursion IsCell cells → AllByRecursion IsItem (items_of cells)
items_sound [] all = tt
items_sound (blank attrs ∷ cells) all = (tt, items_sound cells all.1)
items_sound (glyph text true attrs ∷ cells) all = (all.0, items_sound cells all.1)
items_sound (glyph text false attrs ∷ cells) all = (narrow_item text attrs all.0, items_sound cells all.1)
items_sound (right_half ∷ cells) all = items_sound cells all.1

back_by : (cells : List CellValue) → is_right_half (at cells 0) ≡ false →
    ((k : ℕ) → is_wide (at cells k) ≡ is_right_half (at cells (suc k))) → AllByRecursion IsCell cells →
    cells_of (items_of cells) ≡ cells
back_by [] e f all = refl
back_by (blank a ∷ xs) e f all =
    ap (λ (ys : List CellValue). blank a ∷ ys) (back_by xs (sym (f 0)) (λ k. f (suc k)) all.1)
back_by (glyph [] false a ∷ xs) e f all = absurd (omega (arith, (IsGlyphText-length [] false all.0).0))
back_by (glyph (byte ∷ text) false a ∷ xs) e f all =
    ap (λ (ys : List CellValue). glyph (byte ∷ text) false a ∷ ys) (back_by xs (sym (f 0)) (λ k. f (suc k)) all.1)
back_by (glyph text true a ∷ []) e f all = let h = f 0 in absurd (cc)
back_by (glyph text true a ∷ right_half ∷ xs) e f all =
    ap (λ (ys : List CellValue). glyph text true a ∷ right_half ∷ ys)
    (back_by xs (sym (f 1)) (λ k. f (suc (suc k))) all.1.1)
back_by (glyph text true a ∷ blank b ∷ xs) e f all = let h = f 0 in absurd (cc)
back_by (glyph text true a ∷ glyph other wide b ∷ xs) e f all = let h = f 0 in absurd (cc)
back_by (right_half ∷ xs) e f all = absurd (cc)

-- Paired cells are the cells of their items.
pub cells_back : (cells : List CellValue) → IsPaired cells → AllByRecursion IsCell cells →
    cells_of (items_of cells) ≡ cells
cells_back cells p all =
    back_by cells p.first (λ k. p.halves k ∙ ap (λ (j : ℕ). is_right_half (at cells j)) (add-one k)) all

-- What `IsPaired` says, with the successor in place of a sum.
record Halves (cells : List CellValue) : Type 0 where
  first : is_right_half (at cells 0) ≡ false
  halves : (k : ℕ) → is_wide (at cells k) ≡ is_right_half (at cells (suc k))

halves_by : (wide : Bool) (text : List ℕ) (attrs : Attrs) (ys : List CellValue) → Halves ys →
    Halves (cells_of_parts wide text attrs ++ ys)
halves_by true text attrs ys h = record { first = refl; halves = step } where
  step : (k : ℕ) → is_wide (at (glyph text true attrs ∷ right_half ∷ ys) k)
      ≡ is_right_half (at (glyph text true attrs ∷ right_half ∷ ys) (suc k))
  step zero = refl
  step (suc zero) = sym h.first
  step (suc (suc k)) = h.halves k
halves_by false [] attrs ys h = record { first = refl; halves = step } where
  step : (k : ℕ) → is_wide (at (blank attrs ∷ ys) k) ≡ is_right_half (at (blank attrs ∷ ys) (suc k))
  step zero = sym h.first
  step (suc k) = h.halves k
halves_by false (byte ∷ text) attrs ys h = record { first = refl; halves = step } where
  step : (k : ℕ) → is_wide (at (glyph (byte ∷ text) false attrs ∷ ys) k)
      ≡ is_right_half (at (glyph (byte ∷ text) false attrs ∷ ys) (suc k))
  step zero = sym h.first
  step (suc k) = h.halves k

halves_of : (items : List Item) → Halves (cells_of items)
halves_of [] = record { first = refl; halves = λ k. refl }
halves_of (item ∷ items) = halves_by item.style.wide item.text item.style.attrs (cells_of items) (halves_of items)

-- ==== Rows extended with default blanks

pub at-padded : (n : ℕ) (xs : List CellValue) (k : ℕ) → at (padded n xs) k ≡ at xs k
unfolding padded
at-padded n xs k = elim (cases_lt k (length xs)) [
  | inl lt ↦ get_or_append_left xs (blanks default_attrs (n - length xs)) default_blank k lt
  | inr ge ↦
      get_or-append_right xs (blanks default_attrs (n - length xs)) (length xs) k default_blank refl ge
      ∙ (at-blanks (n - length xs) (k - length xs) ∙ sym (at-past xs k ge))
]

pub length-padded : (n : ℕ) (xs : List CellValue) → length xs ≤ n → length (padded n xs) ≡ n
unfolding padded
length-padded n xs h =
    omega (arith, length-append xs (blanks default_attrs (n - length xs)), length-replicate (n - length xs) default_blank)

-- The cells of items, extended with default blanks, are paired.
pub IsPaired-padded : (n : ℕ) (items : List Item) → IsPaired (padded n (cells_of items))
IsPaired-padded n items =
    let cells = cells_of items in
    let h = halves_of items in record {
      halves = λ k. ap is_wide (at-padded n cells k)
          ∙ (h.halves k
          ∙ (ap (λ (j : ℕ). is_right_half (at cells j)) (sym (add-one k))
          ∙ sym (ap is_right_half (at-padded n cells (k + 1)))));
      first = ap is_right_half (at-padded n cells 0) ∙ h.first;
    }

all_trimmed : (cells : List CellValue) →
    list_all is_default_blank (cells_without_end cells) ≡ list_all is_default_blank cells
all_trimmed [] = refl
all_trimmed (x ∷ xs) = by_all (list_all is_default_blank (x ∷ xs)) refl (all_trimmed xs) where
  by_all : (b : Bool) → list_all is_default_blank (x ∷ xs) ≡ b →
      list_all is_default_blank (cells_without_end xs) ≡ list_all is_default_blank xs →
      list_all is_default_blank (if b then [] else x ∷ cells_without_end xs) ≡ list_all is_default_blank (x ∷ xs)
  by_all true e ih = sym e
  by_all false e ih = ap (λ (b : Bool). is_default_blank x && b) ih

-- Trimmed cells have no default blanks at their end.
pub trimmed_again : (cells : List CellValue) → cells_without_end (cells_without_end cells) ≡ cells_without_end cells
trimmed_again [] = refl
trimmed_again (x ∷ xs) = by_all (list_all is_default_blank (x ∷ xs)) refl (trimmed_again xs) where
  by_all : (b : Bool) → list_all is_default_blank (x ∷ xs) ≡ b →
      cells_without_end (cells_without_end xs) ≡ cells_without_end xs →
      cells_without_end (if b then [] else x ∷ cells_without_end xs) ≡ (if b then [] else x ∷ cells_without_end xs)
  by_all true e ih = refl
  by_all false e ih =
      let none : list_all is_default_blank (x ∷ cells_without_end xs) ≡ false =
      ap (λ (b : Bool). is_default_blank x && b) (all_trimmed xs) ∙ e in
      rw none (ap (λ (ys : List CellValue). x ∷ ys) ih)

-- Trimmed cells, extended to their former number, are the cells as they were.
padded_trimmed : (cells : List CellValue) → padded (length cells) (cells_without_end cells) ≡ cells
padded_trimmed cells =
    ext_get_or default_blank (padded (length cells) (cells_without_end cells)) cells
    (length-padded (length cells) (cells_without_end cells) (length-trimmed cells))
    (λ k h. at-padded (length cells) (cells_without_end cells) k ∙ at-trimmed cells k)

-- ==== A packed row

items_packed : (cells : List CellValue) (runs : List Run) (text : List ℕ) → Packs cells runs text →
    items_from (styles_of runs) text ≡ items_of cells
items_packed cells runs text p =
    let styles = ap styles_of p.are_runs ∙ styles_back (map (λ (i : Item). i.style) (items_of cells)) in
    ap₂ items_from styles p.is_text ∙ items_back (items_of cells) (items_sound cells p.sound)

-- The cells of a packed row are those that were packed.
unpacked : (cells : List CellValue) (runs : List Run) (text : List ℕ) → IsPaired cells →
    Packs (cells_without_end cells) runs text → cells_of (items_from (styles_of runs) text) ≡ cells_without_end cells
unpacked cells runs text paired p =
    ap cells_of (items_packed (cells_without_end cells) runs text p)
    ∙ cells_back (cells_without_end cells) (IsPaired-trimmed cells paired) p.sound

pub IsPacked-packs : (cells : List CellValue) (runs : List Run) (text : List ℕ) → IsPaired cells →
    Packs (cells_without_end cells) runs text → IsPacked runs text (length cells)
IsPacked-packs cells runs text paired p =
    let kept = cells_without_end cells in
    let items = items_packed kept runs text p in
    let are = unpacked cells runs text paired p in record {
      counted = subst AreCounted (sym p.are_runs) (counted_runs (map (λ (i : Item). i.style) (items_of kept)));
      joined = p.are_runs
          ∙ (ap runs_of (sym (styles_back (map (λ (i : Item). i.style) (items_of kept))))
          ∙ ap (λ (rs : List Run). runs_of (styles_of rs)) (sym p.are_runs));
      items = record {
        stored = p.is_text ∙ ap stored_texts (sym items);
        sound = subst (AllByRecursion IsItem) (sym items) (items_sound kept p.sound);
      };
      inside = subst (λ (ys : List CellValue). length ys ≤ length cells) (sym are) (length-trimmed cells);
      ends = subst (λ (ys : List CellValue). cells_without_end ys ≡ ys) (sym are) (trimmed_again cells);
    }

pub packs_back : (cells : List CellValue) (runs : List Run) (text : List ℕ) → IsPaired cells →
    Packs (cells_without_end cells) runs text →
    padded (length cells) (cells_of (items_from (styles_of runs) text)) ≡ cells
packs_back cells runs text paired p =
    ap (padded (length cells)) (unpacked cells runs text paired p) ∙ padded_trimmed cells
