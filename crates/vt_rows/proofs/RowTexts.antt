-- The plain and the basic text of the cells of a row.
use Rattle.std.proofs.Common.{List, [], ◌∷◌, ◌++◌, refl, sym, subst, ◌≡◌, ℕ, zero, suc, ◌+◌, ◌<◌, ◌≤◌, ◌||◌, Bool, true}
use Rattle.std.proofs.Common.{false, drop, length, take, slice_index_or, ap, ◌∙◌, arith, append_assoc, append-nil}
use Rattle.std.specs.List.{FoldsTo, flat_map, list_any}
use Rattle.std.proofs.Math.Seq.{drop-cons}
use Rattle.std.proofs.lemmas.List.{drop-drop}
use Rattle.std.specs.Prelude.{if◌then◌else◌}
use Rattle.std.proofs.lemmas.Bool.{cond_both}
use Rattle.vt_cells.specs.Internals.{buffered_text}
use Rattle.vt_cells.specs.Cell.{CellValue, blank, glyph, right_half, default_blank, is_blank, is_glyph, is_right_half}
use Rattle.vt_cells.specs.Cell.{text_of, attrs_of, is_default_blank}
use Rattle.vt_cells.specs.Attrs.{same_attrs, Attrs}
use Rattle.vt_cells.specs.Op.{change_text}
use Rattle.vt_cells.specs.Sinks.{IsStopped}
use Rattle.vt_cells.proofs.Sinks.{stopped_before, stopped_behind}
use Rattle.vt_cells.proofs.Attributes.{attrs_of-same, same_attrs-itself}
use Rattle.vt_rows.specs.Basic.{shown_text, attrs_after, cells_text, is_bare}
use Rattle.vt_rows.specs.Cells.{at, cells_after_cut}
use Rattle.vt_rows.specs.Internals.{Shows, cell_text}
use Rattle.vt_rows.specs.Plain.{up_to_last_glyph}

-- ==== Folds over concatenated lists, and folds in which no item has an effect.

pub folds_then : {P A : Type 0} (R : P → A → P → Type 0) (xs ys : List A) (p q r : P) →
    FoldsTo R p xs q → FoldsTo R q ys r → FoldsTo R p (xs ++ ys) r
folds_then R [] ys p q r e t = subst (λ z. FoldsTo R z ys r) (sym e) t
folds_then R (x ∷ xs) ys p q r s t = (s.0, s.1, folds_then R xs ys s.0 q r s.2 t)

pub folds_unchanged : {P A : Type 0} (R : P → A → P → Type 0) (p : P) → ((x : A) → R p x p) → (xs : List A) →
    FoldsTo R p xs p
folds_unchanged R p same [] = refl
folds_unchanged R p same (x ∷ xs) = (p, same x, folds_unchanged R p same xs)

-- ==== The plain text of cells.

-- ---- the cells up to the last glyph

no_glyphs : (cells : List CellValue) → ((k : ℕ) → is_glyph (at cells k) ≡ false) → list_any is_glyph cells ≡ false
no_glyphs [] f = refl
no_glyphs (x ∷ xs) f = rw (f 0) (no_glyphs xs (λ k. f (suc k)))

some_glyph : (cells : List CellValue) (k : ℕ) → is_glyph (at cells k) ≡ true → list_any is_glyph cells ≡ true
some_glyph [] k e = cc
some_glyph (x ∷ xs) zero e = rw e refl
some_glyph (x ∷ xs) (suc k) e = by_first (is_glyph x) (some_glyph xs k e) where
  by_first : (b : Bool) → list_any is_glyph xs ≡ true → (b || list_any is_glyph xs) ≡ true
  by_first true e = refl
  by_first false e = e

-- The first n cells are those up to the last glyph if no later cell is a glyph and cell n - 1, if any, is one.
pub up_to_is : (cells : List CellValue) (n : ℕ) → n ≤ length cells → ((k : ℕ) → n ≤ k → is_glyph (at cells k) ≡ false) →
    ((j : ℕ) → n ≡ suc j → is_glyph (at cells j) ≡ true) → take n cells ≡ up_to_last_glyph cells
up_to_is [] zero h f g = refl
up_to_is [] (suc n) h f g = absurd (omega arith)
up_to_is (x ∷ xs) zero h f g = sym (rw (no_glyphs (x ∷ xs) (λ k. f k (omega arith))) refl)
up_to_is (x ∷ xs) (suc n) h f g =
    let some : list_any is_glyph (x ∷ xs) ≡ true = some_glyph (x ∷ xs) n (g n refl) in
    let ih : take n xs ≡ up_to_last_glyph xs =
    up_to_is xs n (omega arith) (λ k le. f (suc k) (omega arith)) (λ j e. g (suc j) (ap suc e)) in
    rw some (ap (λ (ys : List CellValue). x ∷ ys) ih)

first_shown : (x : CellValue) (xs : List CellValue) → list_any is_glyph (x ∷ xs) ≡ true →
    up_to_last_glyph (x ∷ xs) ≡ x ∷ up_to_last_glyph xs
first_shown x xs e = rw e refl

none_shown : (x : CellValue) (xs : List CellValue) → list_any is_glyph (x ∷ xs) ≡ false →
    up_to_last_glyph (x ∷ xs) ≡ []
none_shown x xs e = rw e refl

-- If the cells do not begin with a continuation cell, their text is that of each cell up to the last glyph.
pub plain_whole : (cells shown : List CellValue) → shown ≡ up_to_last_glyph cells →
    is_right_half (at shown 0) ≡ false →
    [] ++ flat_map shown_text shown ≡ flat_map shown_text (up_to_last_glyph (cells_after_cut default_blank cells))
plain_whole [] shown e f = ap (flat_map shown_text) e
plain_whole (blank attrs ∷ cells) shown e f = ap (flat_map shown_text) e
plain_whole (glyph text wide attrs ∷ cells) shown e f = ap (flat_map shown_text) e
plain_whole (right_half ∷ cells) shown e f = by_any (list_any is_glyph cells) refl where
  by_any : (b : Bool) → list_any is_glyph cells ≡ b →
      flat_map shown_text shown ≡ flat_map shown_text (up_to_last_glyph (default_blank ∷ cells))
  by_any true any =
      let first = ap (λ (ys : List CellValue). is_right_half (at ys 0)) (e ∙ first_shown right_half cells any) in
      absurd cc
  by_any false any =
      ap (flat_map shown_text) (e ∙ (none_shown right_half cells any ∙ sym (none_shown default_blank cells any)))

-- If the cells begin with a continuation cell, it is shown as a space.
pub plain_cut : (cells shown : List CellValue) → shown ≡ up_to_last_glyph cells →
    is_right_half (at shown 0) ≡ true →
    ([] ++ 0x20 ∷ []) ++ flat_map shown_text shown
    ≡ flat_map shown_text (up_to_last_glyph (cells_after_cut default_blank cells))
plain_cut [] shown e f =
    let first = ap (λ (ys : List CellValue). is_right_half (at ys 0)) e in absurd cc
plain_cut (blank attrs ∷ cells) shown e f = by_any (list_any is_glyph cells) refl where
  by_any : (b : Bool) → list_any is_glyph cells ≡ b →
      ([] ++ 0x20 ∷ []) ++ flat_map shown_text shown
      ≡ flat_map shown_text (up_to_last_glyph (blank attrs ∷ cells))
  by_any true any =
      let first = ap (λ (ys : List CellValue). is_right_half (at ys 0)) (e ∙ first_shown (blank attrs) cells any) in
      absurd cc
  by_any false any =
      let first = ap (λ (ys : List CellValue). is_right_half (at ys 0)) (e ∙ none_shown (blank attrs) cells any) in
      absurd cc
plain_cut (glyph text wide attrs ∷ cells) shown e f =
    let first = ap (λ (ys : List CellValue). is_right_half (at ys 0)) e in absurd cc
plain_cut (right_half ∷ cells) shown e f = by_any (list_any is_glyph cells) refl where
  by_any : (b : Bool) → list_any is_glyph cells ≡ b →
      ([] ++ 0x20 ∷ []) ++ flat_map shown_text shown
      ≡ flat_map shown_text (up_to_last_glyph (default_blank ∷ cells))
  by_any true any =
      ap (λ (ys : List CellValue). 0x20 ∷ flat_map shown_text ys) (e ∙ first_shown right_half cells any)
      ∙ sym (ap (flat_map shown_text) (first_shown default_blank cells any))
  by_any false any =
      let first = ap (λ (ys : List CellValue). is_right_half (at ys 0)) (e ∙ none_shown right_half cells any) in
      absurd cc

-- ---- the text of cells one after the other

-- The text shown for a glyph is its own.
pub glyph_shown : (x : CellValue) → 0 < length (text_of x) → text_of x ≡ shown_text x
glyph_shown (blank attrs) h = absurd (omega (arith, h))
glyph_shown (glyph text wide attrs) h = refl
glyph_shown right_half h = absurd (omega (arith, h))

-- The text of a cell that has text is shown.
pub contents_shown : (x : CellValue) → is_glyph x ≡ true → text_of x ≡ shown_text x
contents_shown (blank attrs) e = cc
contents_shown (glyph text wide attrs) e = refl
contents_shown right_half e = cc

-- A cell that is neither a glyph nor a continuation cell is shown as a space.
pub other_shown : (x : CellValue) → is_glyph x ≡ false → is_right_half x ≡ false → shown_text x ≡ 0x20 ∷ []
other_shown (blank attrs) e f = refl
other_shown (glyph text wide attrs) e f = cc
other_shown right_half e f = cc

pub blank_shown : (x : CellValue) → is_blank x ≡ true → shown_text x ≡ 0x20 ∷ []
blank_shown (blank attrs) e = refl
blank_shown (glyph text wide attrs) e = cc
blank_shown right_half e = cc

pub half_shown : (x : CellValue) → is_right_half x ≡ true → shown_text x ≡ []
half_shown (blank attrs) e = cc
half_shown (glyph text wide attrs) e = cc
half_shown right_half e = refl

-- The text of one more cell.
pub shows_one : (old mid new : List ℕ) (n : ℕ) (cells : List CellValue) (x : CellValue) → Shows old mid n cells →
    x ≡ slice_index_or cells n x → n < length cells → new ≡ mid ++ shown_text x → Shows old new (n + 1) cells
shows_one old mid new n cells x p read inside e =
    let more : n + 1 ≡ suc n = omega arith in
    let rest = drop (suc n) cells in
    record {
      inside = omega arith;
      text =
          ap (λ (k : ℕ). new ++ flat_map shown_text (drop k cells)) more
          ∙ (ap (λ (xs : List ℕ). xs ++ flat_map shown_text rest) e
          ∙ (append_assoc mid (shown_text x) (flat_map shown_text rest)
          ∙ (ap (λ (ys : List CellValue). mid ++ flat_map shown_text ys)
          (sym (drop-cons cells n x inside ∙ ap (λ (y : CellValue). y ∷ rest) (sym read)))
          ∙ p.text)));
    }

pub shows_none : (old : List ℕ) (cells : List CellValue) → Shows old old 0 cells
shows_none old cells = record { inside = omega arith; text = refl }

-- The text of the following cells.
pub shows_then : (old mid new : List ℕ) (m n : ℕ) (cells : List CellValue) → Shows old mid m cells →
    Shows mid new n (drop m cells) → m + n ≤ length cells → Shows old new (m + n) cells
shows_then old mid new m n cells p q inside =
    record {
      inside = inside;
      text = ap (λ (ys : List CellValue). new ++ flat_map shown_text ys) (sym (drop-drop n m cells)) ∙ (q.text ∙ p.text);
    }

-- Before the first cell, all of the text remains.
pub shown_start : (text buffer more : List ℕ) → buffered_text text buffer ++ more ≡ text ++ (buffer ++ more)
unfolding buffered_text
shown_start text buffer more = append_assoc text buffer more

-- After the texts of n more cells are buffered, the text of the cells after them remains.
pub shown_more : (text old new : List ℕ) (m n : ℕ) (cells : List CellValue) → Shows old new n (drop m cells)
    → buffered_text text new ++ flat_map shown_text (drop (m + n) cells)
    ≡ buffered_text text old ++ flat_map shown_text (drop m cells)
shown_more text old new m n cells p =
    shown_start text new (flat_map shown_text (drop (m + n) cells))
    ∙ (ap (λ (xs : List ℕ). text ++ xs)
    (ap (λ (ys : List CellValue). new ++ flat_map shown_text ys) (sym (drop-drop n m cells)) ∙ p.text)
    ∙ sym (shown_start text old (flat_map shown_text (drop m cells))))

-- The lemmas on the plain text of a row's cells, with a whole or a split wide glyph at the beginning.
pub ruleset plain_rows = (plain_whole, plain_cut)

-- ==== The attributes of cells in basic text.

no_change : (attrs : Attrs) → change_text attrs attrs ≡ []
unfolding change_text
no_change attrs = rw (same_attrs-itself attrs) refl

-- If a cell leaves the attributes unchanged, no change of attributes is written before it.
both : (attrs after : Attrs) → after ≡ attrs → (after ≡ attrs) × (change_text attrs after ≡ [])
both attrs after e = (e, ap (change_text attrs) e ∙ no_change attrs)

pub kept_same : (attrs : Attrs) (cell : CellValue) → same_attrs attrs (attrs_of cell) ≡ true →
    (attrs_after attrs cell ≡ attrs) × (change_text attrs (attrs_after attrs cell) ≡ [])
kept_same attrs cell e =
    both attrs (attrs_after attrs cell)
    (cond_both (is_bare cell) attrs (attrs_of cell) (λ (after : Attrs). after ≡ attrs)
    (λ _. refl) (λ _. sym (attrs_of-same attrs (attrs_of cell) e)))

unmoved : (attrs : Attrs) (cell : CellValue) → is_bare cell ≡ true → attrs_after attrs cell ≡ attrs
unmoved attrs cell e = ap (λ (b : Bool). if b then attrs else attrs_of cell) e

pub kept_default : (attrs : Attrs) (cell : CellValue) → is_default_blank cell ≡ true →
    (attrs_after attrs cell ≡ attrs) × (change_text attrs (attrs_after attrs cell) ≡ [])
kept_default attrs cell e =
    both attrs (attrs_after attrs cell) (unmoved attrs cell (ap (λ (b : Bool). b || is_right_half cell) e))

pub kept_right : (attrs : Attrs) (cell : CellValue) → is_right_half cell ≡ true →
    (attrs_after attrs cell ≡ attrs) × (change_text attrs (attrs_after attrs cell) ≡ [])
kept_right attrs cell e =
    both attrs (attrs_after attrs cell) (unmoved attrs cell (right (is_default_blank cell) refl)) where
      right : (b : Bool) → is_default_blank cell ≡ b → is_bare cell ≡ true
      right true d = ap (λ (b : Bool). b || is_right_half cell) d
      right false d = ap (λ (b : Bool). b || is_right_half cell) d ∙ e

pub own : (attrs : Attrs) (cell : CellValue) → is_default_blank cell ≡ false →
    is_right_half cell ≡ false → attrs_after attrs cell ≡ attrs_of cell
own attrs cell d r =
    ap (λ (b : Bool). if b then attrs else attrs_of cell) (ap (λ (b : Bool). b || is_right_half cell) d ∙ r)

-- A continuation cell adds no text.
pub right_adds : (attrs : Attrs) (cell : CellValue) (xs : List ℕ) → is_right_half cell ≡ true →
    xs ≡ xs ++ cell_text attrs cell
right_adds attrs cell xs e = rw ((kept_right attrs cell e).1, half_shown cell e) (sym (append-nil xs))

-- A continuation cell leaves the attributes unchanged.
pub right_keeps : (attrs : Attrs) (cell : CellValue) → is_right_half cell ≡ true → attrs ≡ attrs_after attrs cell
right_keeps attrs cell e = sym (kept_right attrs cell e).0

-- The lemmas on the attributes after each kind of cell.
pub ruleset attrs_kept = (kept_same, kept_default, kept_right, own)

-- If writing the change of attributes before a cell stopped, writing the cell's whole text stopped there.
pub change_stopped : (refuses : List ℕ → List ℕ → List ℕ → Type 0) (before buffer : List ℕ) (attrs new : Attrs)
    (cell : CellValue) (after : List ℕ) → attrs_after attrs cell ≡ new
    → IsStopped refuses before (buffer ++ change_text attrs new) after
    → IsStopped refuses before (buffer ++ cell_text attrs cell) after
change_stopped refuses before buffer attrs new cell after e stopped =
    rw e (stopped_before refuses before buffer (change_text attrs new) (shown_text cell) after stopped)

-- If writing a cell stopped after its change of attributes was written, writing the cell's whole text stopped there.
pub shown_stopped : (refuses : List ℕ → List ℕ → List ℕ → Type 0) (old mid was buffer : List ℕ) (attrs new : Attrs)
    (cell : CellValue) (shown after : List ℕ) → attrs_after attrs cell ≡ new → shown ≡ shown_text cell
    → buffered_text mid buffer ≡ buffered_text old was ++ change_text attrs new → length old ≤ length mid
    → IsStopped refuses mid (buffer ++ shown) after
    → IsStopped refuses old (was ++ cell_text attrs cell) after
shown_stopped refuses old mid was buffer attrs new cell shown after e s g le stopped =
    rw (e, sym s) (stopped_behind refuses old mid was buffer (change_text attrs new) shown after g le stopped)

-- The text of a list of cells is the text of the first cell, followed by the text of the others.
pub one_first : (attrs : Attrs) (cells rest : List CellValue) (cell : CellValue) → cells ≡ cell ∷ rest →
    cells_text attrs cells ≡ cell_text attrs cell ++ cells_text (attrs_after attrs cell) rest
one_first attrs cells rest cell e =
    ap (cells_text attrs) e
    ∙ sym (append_assoc (change_text attrs (attrs_after attrs cell)) (shown_text cell)
    (cells_text (attrs_after attrs cell) rest))
