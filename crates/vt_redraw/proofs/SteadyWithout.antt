-- Glyphs that are steady: all glyphs without U+FE0F, and U+2764 with U+FE0F.
use Rattle.std.proofs.Common.{◌≡◌, ℕ, zero, suc, ◌<◌, ◌≤◌, ◌||◌, nat_lt, Bool, true, false, List, [], ◌∷◌}
use Rattle.std.proofs.Common.{◌++◌, length, Option, Some, None, refl, sym, ap, ◌∙◌, append-nil, arith}
use Rattle.std.specs.Prelude.{All, chars}
use Rattle.std.proofs.lemmas.List.Elements.{All-nil, All-cons, recursion_from_All}
use Rattle.std.specs.Char.{encode_utf8}
use Rattle.std.specs.List.{list_any, AllByRecursion}
use Rattle.std.proofs.lemmas.Bool.{lt-ltb}
use Rattle.std.proofs.lemmas.Str.{chars-encodes}
use Rattle.unicode_width.proofs.Computing.{unicode_width}
use Rattle.unicode_width.specs.Width.{str_width}
use Rattle.vt_cells.specs.Cell.{CellValue, blank, glyph, right_half, default_blank, IsCell}
use Rattle.vt_rows.specs.Row.{RowValue, IsRow}
use Rattle.vt_redraw.specs.Picture.{Picture, IsPicture}
use Rattle.vt_redraw.proofs.Halves.{Paired, paired_of}
use Rattle.vt_cells.specs.Glyph.{columns_of, is_selector, is_wide_text, has_room, Joins, IsMark, IsGlyphText}
use Rattle.vt_cells.proofs.Glyphs.{IsGlyphText-chars, selector_columns, encode_bounds}
use Rattle.vt_cells.specs.Attrs.{Attrs, default_attrs}
use Rattle.vt_rows.specs.Cells.{blanks}
use Rattle.vt_grid.specs.Page.{Page}
use Rattle.vt_grid.specs.Canvas.{Canvas, and_then, drawn_text, drawn_all}
use Rattle.vt_cells.specs.Glyph.{glyph_columns}
use Rattle.vt_redraw.specs.Steady.{blank_line, has_selector, HasNoSelector, heart_text}
use Rattle.vt_redraw.specs.Steady.{IsSteady, IsSteadyCell, IsSteadyGlyph}
use Rattle.vt_redraw.proofs.Edits.{Spot, glyph_put_here}
use Rattle.vt_redraw.proofs.Texts.{next, Grows, Prints, print_draws}

and_then_nothing : (x : Option Canvas) → and_then (drawn_all []) x ≡ x
and_then_nothing None = refl
and_then_nothing (Some canvas) = refl

-- Text that prints as one glyph on screens of a given width is steady there.
pub prints_steady : (n : ℕ) (text : List ℕ) (wide : Bool) (attrs : Attrs) →
    Prints (suc n) text wide → IsSteadyGlyph (suc n) text wide attrs
prints_steady n text wide attrs prints =
    let base = blank_line (suc n) attrs in
    let fits = prints.fits in
    let spot : Spot base [] [] default_blank default_blank (blanks default_attrs n) false 0 0 wide =
    record { row = refl; col = refl; fits = omega arith; front = tt; sound = λ t. absurd (cc) } in
    sym (and_then_nothing (drawn_text (chars text) base))
    ∙ (print_draws base [] [] [] default_blank default_blank
    (blanks default_attrs n) false 0 0 text wide attrs prints spot
    ∙ sym (ap (λ (p : Page). Some (record base { page = p }))
    (glyph_put_here base [] [] [] default_blank default_blank (blanks default_attrs n) false 0 0 text wide attrs spot)))

first_not : (a b : Bool) → (a || b) ≡ false → a ≡ false
first_not true b h = h
first_not false b h = refl

rest_not : (a b : Bool) → (a || b) ≡ false → b ≡ false
rest_not true b h = absurd (cc)
rest_not false b h = h

-- Text without U+FE0F keeps its width while it is printed.
grows_without : (width : ℕ) (wide : Bool) (text ms whole : List ℕ) → AllByRecursion IsMark ms →
    Joins text ms whole → list_any is_selector ms ≡ false → Grows width wide text ms wide whole
grows_without width wide text [] whole marks joins none = (refl, joins)
grows_without width wide text (m ∷ ms) whole marks joins none =
    let no = first_not (is_selector m) (list_any is_selector ms) none in
    rw no (
      (marks.0, joins.0),
      (
        (λ t. t),
        grows_without width wide (text ++ encode_utf8 m) ms whole marks.1
            joins.1 (rest_not (is_selector m) (list_any is_selector ms) none),
      ),
    )

pub without_steady : (n : ℕ) (text : List ℕ) (wide : Bool) (attrs : Attrs) (g : IsGlyphText text wide) →
    list_any is_selector g.marks ≡ false → glyph_columns wide ≤ suc n → IsSteadyGlyph (suc n) text wide attrs
without_steady n text wide attrs g none le = prints_steady n text wide attrs (record {
  first = g.first;
  marks = g.marks;
  start = wide;
  is = IsGlyphText-chars text wide g;
  columns = g.width none;
  fits = le;
  grows = grows_without (suc n) wide (encode_utf8 g.first) g.marks text g.are_marks g.spelled none;
})

-- ---- U+2764 and U+FE0F

heart_columns : columns_of 0x2764 ≡ Some 1
unfolding columns_of unicode_width
heart_columns = refl

heart_chars : chars heart_text ≡ 0x2764 ∷ 0xFE0F ∷ []
heart_chars =
    ap (λ (z : List ℕ). chars (encode_utf8 0x2764 ++ z)) (sym (append-nil (encode_utf8 0xFE0F)))
    ∙ chars-encodes (0x2764 ∷ 0xFE0F ∷ []) refl

heart_width : str_width false (0x2764 ∷ 0xFE0F ∷ []) ≡ 2
unfolding unicode_width
heart_width = refl

heart_wide : is_wide_text heart_text ≡ true
unfolding is_wide_text
heart_wide = ap (λ (cs : List ℕ). nat_lt 1 (str_width false cs)) heart_chars ∙ ap (nat_lt 1) heart_width

heart_room : has_room (encode_utf8 0x2764) ≡ true
heart_room =
    let bounds = encode_bounds 0x2764 in let most = bounds.1 in lt-ltb (length (encode_utf8 0x2764)) 26 (omega arith)

pub heart_steady : (n : ℕ) (attrs : Attrs) → IsSteadyGlyph (suc (suc n)) heart_text true attrs
heart_steady n attrs =
    let two : nat_lt 1 (suc (suc n)) ≡ true = lt-ltb 1 (suc (suc n)) (omega arith) in
    let widens : next (suc (suc n)) false (encode_utf8 0x2764) 0xFE0F ≡ true = rw (heart_wide, two) refl in
    prints_steady (suc n) heart_text true attrs (record {
      first = 0x2764;
      marks = 0xFE0F ∷ [];
      start = false;
      is = heart_chars;
      columns = heart_columns;
      fits = omega arith;
      grows = (((refl, selector_columns), heart_room), ((λ t. absurd (cc)), (widens, refl)));
    })

-- ---- rows and pictures without U+FE0F

-- A glyph without U+FE0F that fits on the screen is steady.
pub without_cell : (n : ℕ) (text : List ℕ) (wide : Bool) (attrs : Attrs) → IsGlyphText text wide →
    has_selector (glyph text wide attrs) ≡ false → glyph_columns wide ≤ suc n → IsSteadyGlyph (suc n) text wide attrs
without_cell n text wide attrs g none le =
    let spelled : list_any is_selector (g.first ∷ g.marks) ≡ false =
    ap (list_any is_selector) (sym (IsGlyphText-chars text wide g)) ∙ none in
    without_steady n text wide attrs g (rest_not (is_selector g.first) (list_any is_selector g.marks) spelled) le

without_cells : (n : ℕ) (cells : List CellValue) → Paired cells → length cells ≤ suc n → AllByRecursion IsCell cells →
    AllByRecursion (λ cell. has_selector cell ≡ false) cells → All (IsSteadyCell (suc n)) cells
without_cells n [] p le is none = All-nil (IsSteadyCell (suc n))
without_cells n (blank a ∷ cells) p le is none =
    All-cons (IsSteadyCell (suc n)) (blank a) cells tt (without_cells n cells p (omega arith) is.1 none.1)
without_cells n (glyph text false a ∷ cells) p le is none =
    All-cons (IsSteadyCell (suc n)) (glyph text false a) cells
    (without_cell n text false a is.0 none.0 (omega arith)) (without_cells n cells p (omega arith) is.1 none.1)
without_cells n (glyph text true a ∷ []) p le is none = absurd p
without_cells n (glyph text true a ∷ blank b ∷ cells) p le is none = absurd p
without_cells n (glyph text true a ∷ glyph more wide b ∷ cells) p le is none = absurd p
without_cells n (glyph text true a ∷ right_half ∷ cells) p le is none =
    All-cons (IsSteadyCell (suc n)) (glyph text true a) (right_half ∷ cells)
    (without_cell n text true a is.0 none.0 (omega arith))
    (All-cons (IsSteadyCell (suc n)) right_half cells tt (without_cells n cells p (omega arith) is.1.1 none.1.1))
without_cells n (right_half ∷ cells) p le is none = absurd p

pub plain_row : (width : ℕ) (row : RowValue) → 0 < width → IsRow width row →
    All (λ cell. has_selector cell ≡ false) row.cells → All (IsSteadyCell width) row.cells
plain_row zero row some is none = absurd (omega arith)
plain_row (suc n) row some is none =
    let columns = is.columns in
    without_cells n row.cells (paired_of row.cells is.paired) (omega arith) (recursion_from_All IsCell row.cells is.sound)
    (recursion_from_All (λ cell. has_selector cell ≡ false) row.cells none)

-- A picture whose glyphs have no U+FE0F is steady.
pub picture_steady : (picture : Picture) → IsPicture picture → HasNoSelector picture → IsSteady picture
picture_steady picture is none =
    by_rows picture.rows (recursion_from_All (IsRow picture.width) picture.rows is.rows)
    (recursion_from_All (λ row. All (λ cell. has_selector cell ≡ false) row.cells) picture.rows none) where
      by_rows : (rows : List RowValue) → AllByRecursion (IsRow picture.width) rows →
          AllByRecursion (λ row. All (λ cell. has_selector cell ≡ false) row.cells) rows →
          All (λ row. All (IsSteadyCell picture.width) row.cells) rows
      by_rows [] rs ns = All-nil (λ (row : RowValue). All (IsSteadyCell picture.width) row.cells)
      by_rows (x ∷ xs) rs ns =
          All-cons (λ (row : RowValue). All (IsSteadyCell picture.width) row.cells) x
          xs (plain_row picture.width x is.has_columns rs.0 ns.0) (by_rows xs rs.1 ns.1)

-- The glyph of U+2764 and U+FE0F is steady on screens of two or more columns.
pub heart_is_steady : (width : ℕ) (attrs : Attrs) → 1 < width → IsSteadyCell width (glyph heart_text true attrs)
heart_is_steady zero attrs two = absurd (omega arith)
heart_is_steady (suc zero) attrs two = absurd (omega arith)
heart_is_steady (suc (suc n)) attrs two = heart_steady n attrs
