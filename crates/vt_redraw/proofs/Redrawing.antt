-- Redraws, chains of differences, and differences that are empty.
use Rattle.std.proofs.Common.{◌≡◌, ℕ, zero, suc, ◌-◌, ◌<◌, ◌==◌, min, true, false, List, [], ◌∷◌, ◌++◌, length, drop}
use Rattle.std.proofs.Common.{refl, ap, ◌∙◌, append-nil, arith, ◌+◌, ◌&&◌, ◌||◌, Bool, not, Option, Some, None, sym}
use Rattle.std.proofs.Common.{subst}
use Rattle.std.specs.Prelude.{All, replicate, if◌then◌else◌, nat_lt}
use Rattle.std.proofs.lemmas.Bool.{ne_eqb, and_right, cond_both}
use Rattle.std.proofs.lemmas.List.{length-replicate, get_or-replicate, drop_all}
use Rattle.std.proofs.lemmas.List.Elements.{recursion_from_All, All-replicate}
use Rattle.std.proofs.lemmas.Bool.Decides.{nat_tests}
use Rattle.std.specs.List.{AllByRecursion}
use Rattle.vt_cells.specs.Attrs.{default_attrs, Attrs}
use Rattle.vt_cells.specs.Cell.{CellValue, blank, default_blank, is_blank}
use Rattle.vt_cells.specs.Op.{Op}
use Rattle.vt_cells.proofs.Attributes.{same_attrs-itself, same_bool-itself}
use Rattle.vt_rows.specs.Cells.{blanks, cells_after_erase, ends_blank, cells_after_cut, put_cells}
use Rattle.vt_rows.specs.Row.{RowValue, IsRow, blank_row, with_cells}
use Rattle.vt_rows.proofs.Rows.{IsRow-blank_row}
use Rattle.vt_grid.specs.Page.{Page, IsPlainPage, row_or, IsPage}
use Rattle.vt_grid.specs.Moves.{moved}
use Rattle.vt_grid.specs.declared.grid.moves.CursorMove.TheVariants.{To}
use Rattle.vt_grid.specs.Erasing.{erased_below, erased_rest}
use Rattle.vt_grid.specs.Canvas.{Canvas, drawn_all}
use Rattle.vt_grid.proofs.Texts.{draws_then}
use Rattle.vt_redraw.specs.Doubts.{ends_uncertain, is_past_uncertain}
use Rattle.vt_redraw.specs.Script.{attr_ops_in, move_ops, Linked, no_link, starts_other, row_link, is_at}
use Rattle.vt_redraw.specs.declared.form.Form.{Form}
use Rattle.vt_redraw.specs.declared.form.Form.TheVariants.{Fixed, Portable}
use Rattle.vt_redraw.specs.declared.pen.Pen.{Pen}
use Rattle.vt_redraw.specs.Picture.{Picture, IsPicture, SamePictureSize, picture_of, with_saved, with_picture, Saved}
use Rattle.vt_redraw.specs.Steady.{IsSteady, IsOfSize}
use Rattle.vt_redraw.specs.Redraw.{link_of, rows_below, rows_written, pen_of, cursor_written, script_in, difference}
use Rattle.vt_redraw.specs.Redraw.{difference_in, nearest, pending_at, blank_like, redraw, redraw_in, differences}
use Rattle.vt_redraw.specs.Redraw.{last_picture}
use Rattle.vt_redraw.proofs.Row.{row_nothing, starts_none}
use Rattle.vt_redraw.proofs.Difference.{difference_draws_in, Shows, script_draws, difference_draws}
use Rattle.vt_redraw.proofs.Writing.{going_nowhere}

-- ==== Clearing a page: the cursor moves home, and all cells are erased.

blanks_end : (n : ℕ) (attrs : Attrs) → ends_blank (blanks attrs n) ≡ true
blanks_end zero attrs = refl
blanks_end (suc n) attrs =
    let size = length-replicate (suc n) (blank attrs) in
    ap is_blank (get_or-replicate (suc n) (length (blanks attrs (suc n)) - 1) (blank attrs) default_blank (omega arith))

-- Erasing all columns of a row makes it a blank row.
whole_row : (row : RowValue) (width : ℕ) (attrs : Attrs) → length row.cells ≡ width →
    with_cells row (cells_after_erase 0 width attrs row.cells) ≡ blank_row attrs width
unfolding put_cells
whole_row row width attrs e =
    let rest : drop width row.cells ≡ [] = drop_all width row.cells (omega arith) in
    let cells : cells_after_erase 0 width attrs row.cells ≡ blanks attrs width =
    ap (λ (z : List CellValue). blanks attrs width ++ cells_after_cut default_blank z) rest ∙ append-nil (blanks attrs width) in
    ap (λ (z : List CellValue). with_cells row z) cells
    ∙ rw (blanks_end width attrs, and_right row.wrapped false refl) refl

-- Erasing from the home position to the end of the page makes all rows blank.
erased_all : (base : Page) (row : RowValue) (rows : List RowValue) (attrs : Attrs) →
    0 < base.width → length row.cells ≡ base.width →
    erased_below attrs (record base { rows = row ∷ rows; row = 0; column = 0 })
    ≡ record base { rows = replicate (suc (length rows)) (blank_row attrs base.width); row = 0; column = 0 }
unfolding erased_below erased_rest
erased_all base row rows attrs h e =
    let s : (0 == base.width) ≡ false = ne_eqb 0 base.width (λ same. omega arith) in
    let n : base.width - 0 ≡ base.width = omega arith in
    let m : suc (length rows) - 1 ≡ length rows = omega arith in
    rw (s, n, whole_row row base.width attrs e, m) refl

home : (page : Page) → page.origin ≡ false → moved (To 0 0) page ≡ record page { row = 0; column = 0 }
home page o =
    let e : min 0 (length page.rows - 1) ≡ 0 = omega arith in
    let f : min 0 (page.width - 1) ≡ 0 = omega arith in
    rw (o, e, f) refl

cleared_rows : (page : Page) (rows : List RowValue) → 0 < page.width → 0 < length rows → All (IsRow page.width) rows →
    erased_below default_attrs (record page { rows = rows; row = 0; column = 0 })
    ≡ record page { rows = replicate (length rows) (blank_row default_attrs page.width); row = 0; column = 0 }
cleared_rows page [] pos some is = absurd (omega arith)
cleared_rows page (row ∷ rows) pos some is =
    let all = recursion_from_All (IsRow page.width) (row ∷ rows) is in
    erased_all page row rows default_attrs pos all.0.columns

-- Moving the cursor home and erasing to the end of the page clears the page.
pub cleared : (page : Page) (height width : ℕ) → 0 < page.width → 0 < length page.rows →
    All (IsRow page.width) page.rows → page.origin ≡ false → page.width ≡ width → length page.rows ≡ height →
    erased_below default_attrs (moved (To 0 0) page)
    ≡ record page { rows = replicate height (blank_row default_attrs width); row = 0; column = 0 }
cleared page height width pos some is origin e f =
    ap (erased_below default_attrs) (home page origin)
    ∙ (cleared_rows page page.rows pos some is
    ∙ rw (f, e) refl)

-- ==== The difference of a picture with itself is empty, and no other difference is.

-- ---- equal pictures

neither : (b c : Bool) → c ≡ false → (not true || (b && c)) ≡ false
neither b c h = grind (arith, h)

link_nothing : (r : ℕ) (pen : Pen) (above : List CellValue) (wrapped : Bool) (xs : List CellValue) →
    row_link r pen above true wrapped xs xs ≡ no_link pen wrapped
unfolding row_link
link_nothing r pen above wrapped xs = rw (neither (is_at pen r (length above)) (starts_other xs xs)
    (starts_none xs)) refl

join_nothing : (r : ℕ) (pen : Pen) (above x : RowValue) → link_of r pen above above.wrapped x x ≡ no_link pen x.wrapped
join_nothing r pen above x =
    cond_both above.wrapped (row_link r pen above.cells above.wrapped x.wrapped x.cells x.cells)
    (no_link pen x.wrapped) (λ (j : Linked). j ≡ no_link pen x.wrapped)
    (λ (t : above.wrapped ≡ true). rw t (link_nothing r pen above.cells x.wrapped x.cells)) (λ _. refl)

below_nothing : (r : ℕ) (pen : Pen) (above : RowValue) (xs : List RowValue) →
    ((rows_below r pen above above.wrapped xs xs).ops ≡ []) × ((rows_below r pen above above.wrapped xs xs).pen ≡ pen)
unfolding rows_below
below_nothing r pen above [] = (refl, refl)
below_nothing r pen above (x ∷ xs) =
    rw (join_nothing r pen above x, row_nothing (r + 1) 0 pen x) (below_nothing (r + 1) pen x xs)

rows_nothing : (pen : Pen) (xs : List RowValue) →
    ((rows_written pen xs xs).ops ≡ []) × ((rows_written pen xs xs).pen ≡ pen)
unfolding rows_written
rows_nothing pen [] = (refl, refl)
rows_nothing pen (x ∷ xs) = rw (row_nothing 0 0 pen x) (below_nothing 0 pen x xs)

-- Terminals agree on the position of a cursor that is in one of the columns.
unshifted_inside : (form : Form) (picture : Picture) → nat_lt picture.column picture.width ≡ true →
    (pen_of form picture).is_shifted ≡ false
unfolding is_past_uncertain
unshifted_inside Fixed picture inside = refl
unshifted_inside Portable picture inside =
    ap (λ (b : Bool). not b && ends_uncertain (row_or picture.width picture.rows picture.row).cells) inside

cursor_nothing : (form : Form) (picture : Picture) →
    cursor_written (pen_of form picture) picture.width picture.rows picture.row picture.column ≡ []
unfolding cursor_written
cursor_nothing form picture =
    let pen = pen_of form picture in
    let t : is_at pen picture.row picture.column ≡ true = grind (arith, nat_tests) in
    let pending = pending_at (nearest picture.width picture.rows picture.row) pen picture.width picture.rows picture.row in
    cond_both (nat_lt picture.column picture.width) (move_ops pen picture.row picture.column)
    (if is_at pen picture.row picture.column then [] else pending) (λ (ops : List Op). ops ≡ [])
    (λ inside.
    going_nowhere pen picture.row picture.column
    (ap (λ (b : Bool). b && not pen.is_shifted) t ∙ ap not (unshifted_inside form picture inside)))
    (λ _. ap (λ (b : Bool). if b then [] else pending) t)

pub difference_self_in : (form : Form) (picture : Picture) → difference_in form picture picture ≡ []
unfolding difference_in script_in attr_ops_in
difference_self_in form picture =
    let n = rows_nothing (pen_of form picture) picture.rows in
    rw (n.0, n.1, same_bool-itself picture.hidden, cursor_nothing form picture, same_attrs-itself picture.attrs) refl

pub difference_self : (picture : Picture) → difference picture picture ≡ []
difference_self = difference_self_in Fixed

-- ---- an empty difference

-- A plain canvas that displays the given picture.
abbrev pub showing : Picture → Canvas
showing picture = record {
  page = record {
    rows = picture.rows;
    row = picture.row;
    column = picture.column;
    saved_row = 0;
    saved_column = 0;
    top = 0;
    bottom = length picture.rows - 1;
    origin = false;
    saved_origin = false;
    width = picture.width;
  };
  attrs = picture.attrs;
  saved_attrs = default_attrs;
  hidden = picture.hidden;
}

pub showing_plain : (picture : Picture) → IsPicture picture → IsPlainPage (showing picture).page
showing_plain picture is = let row = is.cursor_row in record { whole = (refl, omega arith); origin = refl }

picture_or : Picture → Option Canvas → Picture
picture_or other (Some canvas) = picture_of canvas
picture_or other None = other

-- Two pictures are equal if they are equal once their equal widths are set.
pub same_picture : (self other : Picture) (width : ℕ) → self.width ≡ width →
    record self { width = width } ≡ other → self ≡ other
same_picture self other width e h = ap (λ (w : ℕ). record self { width = w }) e ∙ h

-- Two pictures are equal if the same operations draw them on the same canvas.
pub draws_tell : (ops : List Op) (canvas one two : Canvas) → drawn_all ops canvas ≡ Some one →
    drawn_all ops canvas ≡ Some two → picture_of one ≡ picture_of two
unfolding picture_or
draws_tell ops canvas one two h k = ap (picture_or (picture_of one)) (sym h ∙ k)

-- Two pictures are equal if their difference is empty.
pub empty_only_in : (form : Form) (self prev : Picture) → IsPicture self → IsSteady self →
    IsPicture prev → SamePictureSize self prev → difference_in form self prev ≡ [] → self ≡ prev
empty_only_in form self prev is steady other size e =
    let any = showing prev in
    let d = difference_draws_in form self prev any is steady other size (showing_plain prev other) refl in
    let none = ap (λ (ops : List Op). drawn_all ops any) (sym e) in
    same_picture self prev prev.width size.width (sym (draws_tell (difference_in form self prev) any any _ (sym none) d.1))

pub empty_only : (self prev : Picture) → IsPicture self → IsSteady self →
    IsPicture prev → SamePictureSize self prev → difference self prev ≡ [] → self ≡ prev
empty_only = empty_only_in Fixed

-- ==== The redraw of a picture draws it on any plain canvas of its size, whatever the canvas displayed before.

-- A canvas with a valid page displays a valid picture.
pub page_picture : (canvas : Canvas) → IsPage canvas.page → IsPicture (picture_of canvas)
page_picture canvas is = record {
  has_columns = is.has_columns;
  cursor_row = is.cursor_row;
  cursor_column = is.cursor_column;
  rows = is.rows;
  last = is.last;
}

-- A blank picture of the size of a valid picture is valid.
pub blank_is : (picture : Picture) → IsPicture picture → IsPicture (blank_like picture)
blank_is picture is =
    let blank_line = blank_row default_attrs picture.width in
    let height = length picture.rows in
    let row = is.cursor_row in
    let l = length-replicate height blank_line in
    record {
      has_columns = is.has_columns;
      cursor_row = omega arith;
      cursor_column = omega arith;
      rows = All-replicate (IsRow picture.width) height blank_line (IsRow-blank_row default_attrs picture.width);
      last =
          ap (λ (row : RowValue). row.wrapped)
          (get_or-replicate height (length (replicate height blank_line) - 1) blank_line blank_line (omega arith));
    }

-- The canvas after it is cleared for a redraw.
abbrev pub clear_canvas : Picture → Canvas → Canvas
clear_canvas self any = record any {
  page = record (any.page)
      { rows = replicate (length self.rows) (blank_row default_attrs self.width); row = 0; column = 0 };
  attrs = default_attrs;
  hidden = self.hidden;
}

pub redraw_draws_in : (form : Form) (self : Picture) (any : Canvas) → IsPicture self → IsSteady self →
    IsPicture (picture_of any) → IsPlainPage any.page → SamePictureSize self (picture_of any) →
    Shows (redraw_in form self) any (with_picture self any)
unfolding redraw_in
redraw_draws_in form self any is steady other plain size =
    let base = clear_canvas self any in
    let height = length self.rows in
    let same = size.width in
    let tall = size.height in
    let row = other.cursor_row in
    let whole = plain.whole.1 in
    let l = length-replicate height (blank_row default_attrs self.width) in
    let shows : picture_of base ≡ blank_like self = ap (λ (w : ℕ). record (blank_like self) { width = w }) (sym same) in
    let blank_line : IsPicture (picture_of base) = subst IsPicture (sym shows) (blank_is self is) in
    let rest = script_draws form self base is steady blank_line
    (record { whole = (plain.whole.0, omega arith); origin = plain.origin })
    (record { width = same; height = sym l }) in
    let goal = with_saved rest.0 (with_picture self any) in
    let clear = cleared any.page height self.width other.has_columns
    (omega arith) other.rows plain.origin (sym same) (sym tall) in (
      rest.0,
      ap (λ (page : Page). drawn_all (script_in form self (blank_like self))
          (record any { page = page; attrs = default_attrs; hidden = self.hidden }))
          clear
          ∙ (ap (λ (p : Picture). drawn_all (script_in form self p) base) (sym shows) ∙ rest.1.draws),
    )

pub redraw_draws : (self : Picture) (any : Canvas) → IsPicture self → IsSteady self →
    IsPicture (picture_of any) → IsPlainPage any.page → SamePictureSize self (picture_of any) →
    Shows (redraw self) any (with_picture self any)
redraw_draws = redraw_draws_in Fixed

-- Two steady pictures of the same size are equal if their redraws are equal.
pub redraws_only : (a b : Picture) → IsPicture a → IsSteady a → IsPicture b →
    IsSteady b → SamePictureSize a b → redraw a ≡ redraw b → a ≡ b
redraws_only a b is_a steady_a is_b steady_b size e =
    let any = showing b in
    let plain = showing_plain b is_b in
    let one = redraw_draws a any is_a steady_a is_b plain size in
    let two = redraw_draws b any is_b steady_b is_b plain (record { width = refl; height = refl }) in
    same_picture a b b.width size.width
    (draws_tell (redraw b) any _ _ (ap (λ (ops : List Op). drawn_all ops any) (sym e) ∙ one.1) two.1)

-- ==== A redraw followed by any chain of differences displays the last picture.

same_size : (width height : ℕ) (a b : Picture) → IsOfSize width height a → IsOfSize width height b → SamePictureSize a b
same_size width height a b p q = record { width = p.columns ∙ sym q.columns; height = p.tall ∙ sym q.tall }

-- Operations that display one picture, followed by operations that turn it into another, display the second picture.
after_shows : (ops more : List Op) (any : Canvas) (mid last : Picture) → Shows ops any (with_picture mid any) →
    ((s : Saved) →
    Shows more (with_saved s (with_picture mid any)) (with_picture last (with_saved s (with_picture mid any)))) →
    Shows (ops ++ more) any (with_picture last any)
after_shows ops more any mid last h k =
    let rest = k h.0 in (
      rest.0,
      draws_then ops more any (with_saved h.0 (with_picture mid any))
          (with_saved rest.0 (with_picture last any)) h.1 rest.1,
    )

differences_draw : (prev : Picture) (nexts : List Picture) (any : Canvas) →
    IsOfSize any.page.width (length any.page.rows) prev →
    AllByRecursion (IsOfSize any.page.width (length any.page.rows)) nexts →
    IsPlainPage any.page → picture_of any ≡ prev →
    Shows (differences prev nexts) any (with_picture (last_picture prev nexts) any)
differences_draw prev [] any is all plain e = (
  record {
    row = any.page.saved_row;
    column = any.page.saved_column;
    origin = any.page.saved_origin;
    attrs = any.saved_attrs;
  },
  ap (λ (p : Picture). Some (with_picture p any)) e,
)
differences_draw prev (x ∷ xs) any is all plain e =
    let width = any.page.width in
    let height = length any.page.rows in
    let first =
    difference_draws x prev any all.0.is all.0.steady is.is (same_size width height x prev all.0 is) plain e in
    let tall = all.0.tall in
    after_shows (difference x prev) (differences x xs) any x (last_picture x xs) first (λ s.
    let next = with_saved s (with_picture x any) in
    let resize = λ (p : Picture) (q : IsOfSize width height p). subst (λ (h : ℕ). IsOfSize width h p) (sym tall) q in
    let shown : picture_of next ≡ x = ap (λ (w : ℕ). record x { width = w }) (sym all.0.columns) in
    differences_draw x xs next (resize x all.0)
    (subst (λ (h : ℕ). AllByRecursion (IsOfSize width h) xs) (sym tall) all.1)
    (record { whole = (plain.whole.0, plain.whole.1 ∙ sym tall); origin = plain.origin }) shown)

pub chain_draws : (self : Picture) (nexts : List Picture) (any : Canvas) →
    IsOfSize any.page.width (length any.page.rows) self →
    AllByRecursion (IsOfSize any.page.width (length any.page.rows)) nexts →
    IsPicture (picture_of any) → IsPlainPage any.page →
    Shows (redraw self ++ differences self nexts) any (with_picture (last_picture self nexts) any)
chain_draws self nexts any is all other plain =
    let width = any.page.width in
    let tall = is.tall in
    after_shows (redraw self) (differences self nexts) any self (last_picture self nexts)
    (redraw_draws self any is.is is.steady other plain (record { width = is.columns; height = is.tall })) (λ s.
    let next = with_saved s (with_picture self any) in
    let shown : picture_of next ≡ self = ap (λ (w : ℕ). record self { width = w }) (sym is.columns) in
    differences_draw self nexts next (subst (λ (h : ℕ). IsOfSize width h self) (sym tall) is)
    (subst (λ (h : ℕ). AllByRecursion (IsOfSize width h) nexts) (sym tall) all)
    (record { whole = (plain.whole.0, plain.whole.1 ∙ sym tall); origin = plain.origin }) shown)
