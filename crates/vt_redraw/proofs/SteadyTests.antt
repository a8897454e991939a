-- Recognizing a steady glyph by its width after each of its characters.
use Rattle.std.proofs.Common.{◌≡◌, ◌↔◌, ℕ, zero, suc, ◌+◌, ◌-◌, ◌<◌, ◌≤◌, ◌||◌, nat_lt, Bool, true, false, List, []}
use Rattle.std.proofs.Common.{◌∷◌, ◌++◌, drop, length, take, Some, None, Option, refl, sym, ap, subst, ◌∙◌, arith}
use Rattle.std.proofs.Common.{eqb-true, get_or, length-append, ◌≢◌, ◌&&◌}
use Rattle.std.specs.Prelude.{All, IsTrue, chars, if◌then◌else◌, nat_eq, replicate}
use Rattle.std.specs.Option.{option_eq}
use mathlib.Core.Bool.{beq}
use Rattle.std.specs.Char.{encode_utf8}
use Rattle.std.specs.Int.RustNames.{bit_or}
use Rattle.std.specs.List.{list_any, AllByRecursion}
use Rattle.std.proofs.lemmas.List.Elements.{All-nil, All-cons, All-append, All-replicate, All-take, All-weaker}
use Rattle.std.proofs.Math.Seq.{take-add}
use Rattle.std.proofs.lemmas.List.{get_or_default, take_all, take-append-drop}
use Rattle.std.proofs.lemmas.Str.{chars-nil, length-encode}
use lib.Bits.{and_le_l, and_le_r, or_add_and}
use Rattle.vt_cells.specs.Attrs.{Attrs}
use Rattle.vt_cells.specs.Cell.{CellValue, blank, glyph, right_half, is_blank, is_glyph, is_right_half, is_wide, text_of}
use Rattle.vt_cells.specs.Cell.{attrs_of, default_blank, cell_with_mark, IsCell}
use Rattle.vt_cells.specs.Glyph.{columns_of, glyph_columns, has_room, is_selector, is_wide_text, IsGlyphText}
use Rattle.vt_cells.specs.Glyph.{IsMark, Joins}
use Rattle.vt_cells.proofs.Glyphs.{columns_of-le, IsGlyphText-chars, IsGlyphText-length, encode_bounds}
use Rattle.vt_cells.proofs.Glyphs.{selector_columns}
use Rattle.vt_rows.specs.Cells.{IsPaired, at, cells_after_resize}
use Rattle.vt_rows.specs.Row.{RowValue}
use Rattle.vt_redraw.specs.Internals.{FitsColumns, IsSteadyRow, IsWithin, cell_past_cut, is_split, kept_len}
use Rattle.vt_redraw.specs.Steady.{has_selector, IsSteadyCell, IsSteadyGlyph}
use Rattle.vt_redraw.proofs.Filling.{filled_resized}
use Rattle.vt_redraw.proofs.Halves.{Paired}
use Rattle.vt_redraw.proofs.Steady.{steady_prints}
use Rattle.vt_redraw.proofs.SteadyWithout.{prints_steady, without_cell}
use Rattle.vt_redraw.proofs.Texts.{next, Grows, Prints}

-- ---- lengths, accumulated bit by bit

pub or_le_left : (a b : ℕ) → a ≤ bit_or a b
or_le_left a b = omega (arith, or_add_and a b, and_le_r a b)

pub or_le_right : (a b : ℕ) → b ≤ bit_or a b
or_le_right a b = omega (arith, or_add_and a b, and_le_l a b)

-- ---- short texts

selector_length : length (encode_utf8 0xFE0F) ≡ 3
selector_length = length-encode 0xFE0F

joined_length : (text marks whole : List ℕ) → Joins text marks whole → length text ≤ length whole
joined_length text [] whole e = omega (arith, ap length e)
joined_length text (m ∷ ms) whole joins =
    omega (arith, length-append text (encode_utf8 m), joined_length (text ++ encode_utf8 m) ms whole joins.1)

selected_length : (text marks whole : List ℕ) → Joins text marks whole → list_any is_selector marks ≡ true →
    length text + 3 ≤ length whole
selected_length text [] whole joins e = absurd (cc)
selected_length text (m ∷ ms) whole joins e =
    by_first (is_selector m) refl (selected_length (text ++ encode_utf8 m) ms whole joins.1)
  where
    by_first : (b : Bool) → is_selector m ≡ b →
        (list_any is_selector ms ≡ true → length (text ++ encode_utf8 m) + 3 ≤ length whole) →
        length text + 3 ≤ length whole
    by_first true t later = omega (
      arith,
      length-append text (encode_utf8 m),
      joined_length (text ++ encode_utf8 m) ms whole joins.1,
      ap (λ (c : ℕ). length (encode_utf8 c)) (eqb-true m 0xFE0F t) ∙ selector_length,
    )
    by_first false t later = omega (
      arith,
      length-append text (encode_utf8 m),
      later (sym (ap (λ (b : Bool). b || list_any is_selector ms) t) ∙ e),
    )

pub none_of : (b : Bool) → (b ≡ true → ⊥) → b ≡ false
none_of true h = absurd (h refl)
none_of false h = refl

-- A text of fewer than four bytes has no U+FE0F, because U+FE0F takes three bytes and comes after a first character.
pub short_has_none : (cell : CellValue) → IsCell cell → length (text_of cell) < 4 → has_selector cell ≡ false
short_has_none (blank attrs) is short = refl
short_has_none right_half is short = refl
short_has_none (glyph text wide attrs) g short =
    ap (list_any is_selector) (IsGlyphText-chars text wide g)
    ∙ (ap (λ (b : Bool). b || list_any is_selector g.marks)
    (none_of (is_selector g.first) (λ t. g.drawn (ap columns_of (eqb-true g.first 0xFE0F t) ∙ selector_columns)))
    ∙ none_of (list_any is_selector g.marks) (λ t.
    omega (arith, short, selected_length (encode_utf8 g.first) g.marks text g.spelled t, encode_some g.first)))
  where
    encode_some : (c : ℕ) → 1 ≤ length (encode_utf8 c)
    encode_some c = (encode_bounds c).0

-- ---- a glyph by its characters

same_start : (a b : Bool) → Some (glyph_columns a) ≡ Some (glyph_columns b) → a ≡ b
same_start true true e = refl
same_start false false e = refl
same_start true false e = absurd (cc)
same_start false true e = absurd (cc)

-- A glyph is steady exactly if printing its characters makes its text grow to the whole text, without ever making the
-- glyph narrow.
pub steady_grows_so : (width : ℕ) (text : List ℕ) (wide : Bool) (attrs : Attrs) (first : ℕ) (marks : List ℕ)
    (start : Bool) → IsGlyphText text wide → glyph_columns wide ≤ width → chars text ≡ first ∷ marks →
    columns_of first ≡ Some (glyph_columns start) →
    IsSteadyGlyph width text wide attrs ↔ Grows width start (encode_utf8 first) marks wide text
steady_grows_so zero text wide attrs first marks start g le is columns = absurd (some wide le)
  where
    some : (wide : Bool) → glyph_columns wide ≤ 0 → ⊥
    some true h = omega arith
    some false h = omega arith
steady_grows_so (suc n) text wide attrs first marks start g le is columns = (
  λ steady. moved (steady_prints n text wide attrs g le steady),
  λ grows. prints_steady n text wide attrs (record {
    first = first;
    marks = marks;
    start = start;
    is = is;
    columns = columns;
    fits = le;
    grows = grows;
  }),
)
  where
    moved : Prints (suc n) text wide → Grows (suc n) start (encode_utf8 first) marks wide text
    moved p =
        let same : p.first ∷ p.marks ≡ first ∷ marks = sym p.is ∙ is in
        let head : p.first ≡ first = ap (λ (l : List ℕ). get_or l 0 0) same in
        let tail : p.marks ≡ marks = ap (drop 1) same in
        let begins : p.start ≡ start =
        same_start p.start start (sym p.columns ∙ (ap columns_of head ∙ columns)) in
        subst (λ (s : Bool). Grows (suc n) s (encode_utf8 first) marks wide text) begins
        (subst (λ (ms : List ℕ). Grows (suc n) p.start (encode_utf8 first) ms wide text) tail
        (subst (λ (f : ℕ). Grows (suc n) p.start (encode_utf8 f) p.marks wide text) head p.grows))

-- ---- rows

-- Every glyph of a row fits in the row's width.
pub row_fits : (width : ℕ) (cells : List CellValue) → Paired cells → length cells ≤ width → All (FitsColumns width) cells
row_fits width [] p le = All-nil (FitsColumns width)
row_fits width (blank a ∷ cells) p le =
    All-cons (FitsColumns width) (blank a) cells (omega arith) (row_fits width cells p (omega arith))
row_fits width (glyph text false a ∷ cells) p le =
    All-cons (FitsColumns width) (glyph text false a) cells (omega arith) (row_fits width cells p (omega arith))
row_fits width (glyph text true a ∷ []) p le = absurd p
row_fits width (glyph text true a ∷ blank b ∷ cells) p le = absurd p
row_fits width (glyph text true a ∷ glyph more wide b ∷ cells) p le = absurd p
row_fits width (glyph text true a ∷ right_half ∷ cells) p le =
    All-cons (FitsColumns width) (glyph text true a) (right_half ∷ cells) (omega arith)
    (All-cons (FitsColumns width) right_half cells (omega arith) (row_fits width cells p (omega arith)))
row_fits width (right_half ∷ cells) p le = absurd p

blank_steady : (width : ℕ) (cell : CellValue) → is_blank cell ≡ true → IsSteadyCell width cell
blank_steady width (blank a) e = tt
blank_steady width (glyph text wide a) e = absurd (cc)
blank_steady width right_half e = absurd (cc)

blank_none : (cell : CellValue) → is_blank cell ≡ true → has_selector cell ≡ false
blank_none (blank a) e = refl
blank_none (glyph text wide a) e = absurd (cc)
blank_none right_half e = absurd (cc)

-- Cells followed by blanks are steady exactly if they are steady without the blanks.
pub steady_so : (width n : ℕ) (own cells : List CellValue) → own ≡ take n cells →
    All (λ (cell : CellValue). is_blank cell ≡ true) (drop n cells) →
    All (IsSteadyCell width) own ↔ All (IsSteadyCell width) cells
steady_so width n own cells is rest = (
  λ all. subst (All (IsSteadyCell width)) (take-append-drop n cells)
      (All-append (IsSteadyCell width) (take n cells) (drop n cells) (subst (All (IsSteadyCell width)) is all)
      (All-weaker (λ (cell : CellValue). is_blank cell ≡ true) (IsSteadyCell width) (blank_steady width) (drop n cells)
      rest)),
  λ all. subst (All (IsSteadyCell width)) (sym is) (All-take (IsSteadyCell width) n cells all),
)

-- If cells have no U+FE0F, neither do these cells with blanks after them.
pub none_so : (n : ℕ) (own cells : List CellValue) → own ≡ take n cells →
    All (λ (cell : CellValue). is_blank cell ≡ true) (drop n cells) →
    All (λ (cell : CellValue). has_selector cell ≡ false) own → All (λ (cell : CellValue). has_selector cell ≡ false) cells
none_so n own cells is rest all =
    let None = λ (cell : CellValue). has_selector cell ≡ false in
    subst (All None) (take-append-drop n cells)
    (All-append None (take n cells) (drop n cells) (subst (All None) is all)
    (All-weaker (λ (cell : CellValue). is_blank cell ≡ true) None blank_none (drop n cells) rest))

-- ---- a glyph printed character by character

-- The characters of a glyph's text, except for the last ones, were printed and gave a text of the given width. The
-- glyph is steady exactly if the last characters make that text grow to the glyph's text.
pub record IsPrintedTo (width : ℕ) (cell printed : CellValue) (wide : Bool) (rest : List ℕ) : Type 0 where
  pub glyph : is_glyph printed ≡ true
  pub marks : AllByRecursion IsMark rest
  pub joins : Joins (text_of printed) rest (text_of cell)
  pub so : IsSteadyCell width cell ↔ Grows width wide (text_of printed) rest (is_wide cell) (text_of cell)

-- The text of the cell consists of the given first character and combining characters.
pub record IsSpelled (cell : CellValue) (first : ℕ) (marks : List ℕ) : Type 0 where
  pub drawn : columns_of first ≢ Some 0
  pub shown : columns_of first ≢ None
  pub reported : first ≢ 0xFFFD
  pub are_marks : AllByRecursion IsMark marks
  pub joins : Joins (encode_utf8 first) marks (text_of cell)

spelled_by : (cell : CellValue) (first other : ℕ) (marks others : List ℕ) → other ∷ others ≡ first ∷ marks →
    IsSpelled cell other others → IsSpelled cell first marks
spelled_by cell first other marks others e h =
    subst (λ (ms : List ℕ). IsSpelled cell first ms) (ap (drop 1) e)
    (subst (λ (c : ℕ). IsSpelled cell c others) (ap (λ (l : List ℕ). get_or l 0 0) e) h)

pub spelled : (cell : CellValue) (first : ℕ) (marks : List ℕ) → is_glyph cell ≡ true → IsCell cell →
    chars (text_of cell) ≡ first ∷ marks → IsSpelled cell first marks
spelled (blank a) first marks t is e = absurd (cc)
spelled right_half first marks t is e = absurd (cc)
spelled (glyph text wide a) first marks t g e =
    spelled_by (glyph text wide a) first g.first marks g.marks (sym (IsGlyphText-chars text wide g) ∙ e)
    (record {
      drawn = g.drawn;
      shown = g.shown;
      reported = g.reported;
      are_marks = g.are_marks;
      joins = g.spelled;
    })

-- A character that takes columns takes one or two.
pub two_or_one : (c : ℕ) → columns_of c ≢ Some 0 → columns_of c ≢ None →
    columns_of c ≡ Some (glyph_columns (option_eq nat_eq (columns_of c) (Some 2)))
two_or_one c drawn shown = by_columns (columns_of c) refl
  where
    by_columns : (w : Option ℕ) → columns_of c ≡ w → w ≡ Some (glyph_columns (option_eq nat_eq w (Some 2)))
    by_columns None e = absurd (shown e)
    by_columns (Some zero) e = absurd (drawn e)
    by_columns (Some (suc zero)) e = refl
    by_columns (Some (suc (suc zero))) e = refl
    by_columns (Some (suc (suc (suc k)))) e = absurd (omega (arith, columns_of-le c (suc (suc (suc k))) e))

pub printed_first : (width : ℕ) (cell : CellValue) (first : ℕ) (marks : List ℕ) (start : Bool) (attrs : Attrs) →
    is_glyph cell ≡ true → IsCell cell → FitsColumns width cell → chars (text_of cell) ≡ first ∷ marks →
    columns_of first ≡ Some (glyph_columns start) →
    IsPrintedTo width cell (glyph (encode_utf8 first) start attrs) start marks
printed_first width (blank a) first marks start attrs t is le e columns = absurd (cc)
printed_first width right_half first marks start attrs t is le e columns = absurd (cc)
printed_first width (glyph text wide a) first marks start attrs t g le e columns =
    let h = spelled (glyph text wide a) first marks t g e in record {
      glyph = refl;
      marks = h.are_marks;
      joins = h.joins;
      so = steady_grows_so width text wide a first marks start g le e columns;
    }

-- The width of a glyph after one more character is printed.
abbrev pub width_then : ℕ → Bool → CellValue → ℕ → Bool
width_then width wide printed mark =
    if is_selector mark then is_wide_text (text_of printed) && nat_lt 1 width else wide

marked_longer : (printed : CellValue) (mark : ℕ) → is_glyph printed ≡ true → has_room (text_of printed) ≡ true →
    text_of (cell_with_mark mark printed) ≡ text_of printed ++ encode_utf8 mark
marked_longer (blank a) mark t room = absurd (cc)
marked_longer right_half mark t room = absurd (cc)
marked_longer (glyph text wide a) mark t room = rw room refl

marked_glyph : (printed : CellValue) (mark : ℕ) → is_glyph printed ≡ true → is_glyph (cell_with_mark mark printed) ≡ true
marked_glyph (blank a) mark t = absurd (cc)
marked_glyph right_half mark t = absurd (cc)
marked_glyph (glyph text wide a) mark t = refl

pub printed_mark : (width : ℕ) (cell printed after : CellValue) (wide follows : Bool) (mark : ℕ) (rest : List ℕ) →
    IsPrintedTo width cell printed wide (mark ∷ rest) → after ≡ cell_with_mark mark printed →
    follows ≡ width_then width wide after mark → (wide ≡ true → follows ≡ true) →
    IsPrintedTo width cell after follows rest
printed_mark width cell printed after wide follows mark rest h is by kept =
    let longer : text_of after ≡ text_of printed ++ encode_utf8 mark =
    ap text_of is ∙ marked_longer printed mark h.glyph h.joins.0 in
    let new : follows ≡ next width wide (text_of printed) mark =
    by ∙ ap (λ (t : List ℕ). if is_selector mark then is_wide_text t && nat_lt 1 width else wide) longer in
    let Ends = λ (v : Bool) (t : List ℕ). Grows width v t rest (is_wide cell) (text_of cell) in record {
      glyph = ap is_glyph is ∙ marked_glyph printed mark h.glyph;
      marks = h.marks.1;
      joins = subst (λ (t : List ℕ). Joins t rest (text_of cell)) (sym longer) h.joins.1;
      so = (
        λ steady. subst (λ (v : Bool). Ends v (text_of after)) (sym new)
            (subst (Ends (next width wide (text_of printed) mark)) (sym longer) (h.so.0 steady).1.1),
        λ grows. h.so.1 (
          (h.marks.0, h.joins.0),
          (
            (λ w. sym new ∙ kept w),
            subst (Ends (next width wide (text_of printed) mark)) longer
                (subst (λ (v : Bool). Ends v (text_of after)) new grows),
          ),
        ),
      );
    }

-- A glyph that is made narrow while it is printed isn't steady.
pub printed_narrowed : (width : ℕ) (cell printed after : CellValue) (wide follows : Bool) (mark : ℕ)
    (rest : List ℕ) → IsPrintedTo width cell printed wide (mark ∷ rest) → after ≡ cell_with_mark mark printed →
    follows ≡ width_then width wide after mark → wide ≡ true → follows ≡ false → IsSteadyCell width cell → ⊥
printed_narrowed width cell printed after wide follows mark rest h is by was not_now steady =
    let longer : text_of after ≡ text_of printed ++ encode_utf8 mark =
    ap text_of is ∙ marked_longer printed mark h.glyph h.joins.0 in
    let new : follows ≡ next width wide (text_of printed) mark =
    by ∙ ap (λ (t : List ℕ). if is_selector mark then is_wide_text t && nat_lt 1 width else wide) longer in
    let still : follows ≡ true = new ∙ (h.so.0 steady).1.0 was in
    absurd (cc)

-- A glyph of which all characters are printed is steady exactly if it has the right width.
pub printed_all : (width : ℕ) (cell printed : CellValue) (wide : Bool) → IsPrintedTo width cell printed wide [] →
    (same : Bool) → same ≡ beq wide (is_wide cell) → IsTrue same ↔ IsSteadyCell width cell
printed_all width cell printed wide h same is = (
  λ t. h.so.1 (beq_same wide (is_wide cell) (sym is ∙ t), h.joins),
  λ steady. is ∙ same_beq wide (is_wide cell) (h.so.0 steady).0,
)
  where
    beq_same : (a b : Bool) → beq a b ≡ true → a ≡ b
    beq_same true true e = refl
    beq_same false false e = refl
    beq_same true false e = absurd (cc)
    beq_same false true e = absurd (cc)

    same_beq : (a b : Bool) → a ≡ b → beq a b ≡ true
    same_beq true true e = refl
    same_beq false false e = refl
    same_beq true false e = absurd (cc)
    same_beq false true e = absurd (cc)

-- ---- glyphs

pub glyph_not_half : (cell : CellValue) → is_glyph cell ≡ true → is_right_half cell ≡ false
glyph_not_half (blank a) t = refl
glyph_not_half right_half t = absurd (cc)
glyph_not_half (glyph text wide a) t = refl

pub no_empty_glyph : (cell : CellValue) → is_glyph cell ≡ true → IsCell cell → length (text_of cell) ≡ 0 → ⊥
no_empty_glyph (blank a) t is e = absurd (cc)
no_empty_glyph right_half t is e = absurd (cc)
no_empty_glyph (glyph text wide a) t g e = omega (arith, e, (IsGlyphText-length text wide g).0)

pub selector_in_text : (cell : CellValue) → list_any is_selector (chars (text_of cell)) ≡ has_selector cell
selector_in_text (glyph text wide a) = refl
selector_in_text (blank a) = ap (list_any is_selector) chars-nil
selector_in_text right_half = ap (list_any is_selector) chars-nil

-- A cell without U+FE0F is steady.
pub cell_without : (width : ℕ) (cell : CellValue) → IsCell cell → FitsColumns width cell → has_selector cell ≡ false →
    IsSteadyCell width cell
cell_without width (blank a) is le none = tt
cell_without width right_half is le none = tt
cell_without zero (glyph text true a) g le none = absurd (omega arith)
cell_without zero (glyph text false a) g le none = absurd (omega arith)
cell_without (suc n) (glyph text wide a) g le none = without_cell n text wide a g none le

pub within_le : (few many : ℕ) → few ≤ many → (cell : CellValue) → IsWithin few cell → IsWithin many cell
within_le few many le cell h = record { sound = h.sound; bytes = omega (arith, h.bytes, le) }

pub within_left : (a b : ℕ) (cell : CellValue) → IsWithin a cell → IsWithin (bit_or a b) cell
within_left a b cell h = within_le a (bit_or a b) (or_le_left a b) cell h

pub within_right : (a b : ℕ) (cell : CellValue) → IsWithin b cell → IsWithin (bit_or a b) cell
within_right a b cell h = within_le b (bit_or a b) (or_le_right a b) cell h

-- If the first i cells and the n cells after them are all cells of a list, a bound on their text lengths holds for the
-- list.
pub within_parts : (bound i n : ℕ) (cells : List CellValue) → length cells ≤ i + n →
    All (IsWithin bound) (take i cells) → All (IsWithin bound) (take n (drop i cells)) → All (IsWithin bound) cells
within_parts bound i n cells le first rest =
    subst (All (IsWithin bound)) (sym (take-add i n cells) ∙ take_all (i + n) cells le)
    (All-append (IsWithin bound) (take i cells) (take n (drop i cells)) first rest)

pub within_both : (a b i n : ℕ) (cells : List CellValue) → length cells ≤ i + n →
    All (IsWithin a) (take i cells) → All (IsWithin b) (take n (drop i cells)) → All (IsWithin (bit_or a b)) cells
within_both a b i n cells le first rest =
    within_parts (bit_or a b) i n cells le
    (All-weaker (IsWithin a) (IsWithin (bit_or a b)) (within_left a b) (take i cells) first)
    (All-weaker (IsWithin b) (IsWithin (bit_or a b)) (within_right a b) (take n (drop i cells)) rest)

-- A bound on the text lengths of the first eight cells, the next eight cells and all later cells holds for the whole
-- list.
pub within_sixteen : (a b bound n : ℕ) (cells : List CellValue) → a ≤ bound → b ≤ bound → length cells ≤ 16 + n →
    All (IsWithin a) (take 8 cells) → All (IsWithin b) (take 8 (drop 8 cells)) →
    All (IsWithin bound) (take n (drop 16 cells)) → All (IsWithin bound) cells
within_sixteen a b bound n cells le_a le_b le first second rest =
    within_parts bound 16 n cells le
    (subst (All (IsWithin bound)) (sym (take-add 8 8 cells))
    (All-append (IsWithin bound) (take 8 cells) (take 8 (drop 8 cells))
    (All-weaker (IsWithin a) (IsWithin bound) (within_le a bound le_a) (take 8 cells) first)
    (All-weaker (IsWithin b) (IsWithin bound) (within_le b bound le_b) (take 8 (drop 8 cells)) second)))
    rest

-- A bound on the text length of each of four cells holds for the list of the four.
pub within_four : (bound : ℕ) (cells : List CellValue) (a b c d : CellValue) → length cells ≡ 4
    → a ≡ get_or cells 0 a → b ≡ get_or cells 1 b
    → c ≡ get_or cells 2 c → d ≡ get_or cells 3 d
    → IsWithin bound a → IsWithin bound b → IsWithin bound c → IsWithin bound d → All (IsWithin bound) cells
within_four bound cells a b c d four is_a is_b is_c is_d first second third fourth = at
  where
    moved : (k : ℕ) (x e : CellValue) → k < length cells → x ≡ get_or cells k x → IsWithin bound x
        → IsWithin bound (get_or cells k e)
    moved k x e lt is h = subst (IsWithin bound) (is ∙ get_or_default cells k x e lt) h

    at : (k : ℕ) (e : CellValue) → k < length cells → IsWithin bound (get_or cells k e)
    at zero e lt = moved 0 a e lt is_a first
    at (suc zero) e lt = moved 1 b e lt is_b second
    at (suc (suc zero)) e lt = moved 2 c e lt is_c third
    at (suc (suc (suc zero))) e lt = moved 3 d e lt is_d fourth
    at (suc (suc (suc (suc k)))) e lt = absurd (omega (arith, four))

pub within_short : (bound : ℕ) → bound < 4 → (cell : CellValue) → IsWithin bound cell → has_selector cell ≡ false
within_short bound short cell h = short_has_none cell h.sound (omega (arith, h.bytes, short))

-- The result of testing a row for steadiness holds for an equal row.
pub row_tells : (width : ℕ) (row other : RowValue) (test : Bool) → row ≡ other → length row.cells ≡ width →
    (IsTrue test ↔ All (IsSteadyCell (length row.cells)) row.cells) → IsTrue test ↔ IsSteadyRow width other
row_tells width row other test same columns tells =
    subst (λ (r : RowValue). IsTrue test ↔ IsSteadyRow width r) same
    (subst (λ (n : ℕ). IsTrue test ↔ All (IsSteadyCell n) row.cells) columns tells)

past_cut : (split : Bool) (attrs : Attrs) → has_selector (if split then blank attrs else default_blank) ≡ false
past_cut true attrs = refl
past_cut false attrs = refl

-- A row that is truncated or extended has no U+FE0F if the original row has none.
pub none_resized : (width : ℕ) (cells : List CellValue) → 0 < width → IsPaired cells →
    All (λ (cell : CellValue). has_selector cell ≡ false) cells →
    All (λ (cell : CellValue). has_selector cell ≡ false) (cells_after_resize width cells)
none_resized width cells some paired all =
    let None = λ (cell : CellValue). has_selector cell ≡ false in
    let kept = take (kept_len width cells) cells in
    let end = cell_past_cut width cells in
    subst (All None) (filled_resized width cells some paired)
    (All-append None kept (replicate (width - length kept) end) (All-take None (kept_len width cells) cells all)
    (All-replicate None (width - length kept) end (past_cut (is_split width cells) (attrs_of (at cells (width - 1))))))
