-- The difference turns what one canvas displays into another picture, also if only the cursor differs.
use Rattle.std.proofs.Common.{◌≡◌, ℕ, zero, suc, ◌+◌, ◌-◌, ◌<◌, ◌≤◌, Bool, true, false, List, [], ◌∷◌, ◌++◌, length}
use Rattle.std.proofs.Common.{Some, inr, refl, sym, ap, ◌∙◌, subst, arith, nat_lt, replicate, Option, None}
use Rattle.std.proofs.Common.{append_assoc}
use Rattle.std.specs.Prelude.{All, if◌then◌else◌}
use Rattle.std.specs.List.{AllByRecursion}
use Rattle.std.proofs.lemmas.Bool.{cond_both, ltb-true}
use Rattle.std.proofs.lemmas.List.Elements.{recursion_from_All}
use Rattle.std.proofs.lemmas.Bool.Decides.{nat_tests}
use Rattle.std.proofs.lemmas.List.{length-append}
use Rattle.vt_cells.specs.Attrs.{same_bool, default_attrs, Attrs}
use Rattle.vt_cells.specs.Cell.{CellValue, blank, glyph, right_half, IsCell, text_of, attrs_of}
use Rattle.vt_cells.specs.Op.{Op, Hide, MoveTo, Print, LineFeed}
use Rattle.vt_cells.specs.Glyph.{glyph_columns}
use Rattle.vt_cells.proofs.Attributes.{bool_of-same}
use Rattle.vt_rows.specs.Row.{RowValue, IsRow, blank_row}
use Rattle.vt_rows.specs.Cells.{at}
use Rattle.vt_grid.specs.Page.{row_or, IsPlainPage}
use Rattle.vt_grid.specs.Canvas.{Canvas}
use Rattle.vt_grid.proofs.Texts.{Draws}
use Rattle.vt_redraw.specs.Script.{pen_at, attr_ops_in, last_column, attr_ops, last_glyph}
use Rattle.vt_redraw.specs.declared.form.Form.{Form}
use Rattle.vt_redraw.specs.declared.form.Form.TheVariants.{Fixed, Portable}
use Rattle.vt_redraw.specs.Picture.{Picture, IsPicture, picture_of, SamePictureSize, Saved, with_saved, with_picture}
use Rattle.vt_redraw.specs.Picture.{with_cursor_of}
use Rattle.vt_redraw.specs.Steady.{IsSteadyCell, IsSteady}
use Rattle.vt_redraw.specs.Redraw.{nearest, rows_written, cursor_written, pen_of, script_in, cursor_visibility_ops}
use Rattle.vt_redraw.specs.Redraw.{difference, difference_in, blank_passed, pending_alone, cursor_state}
use Rattle.vt_redraw.specs.Locality.{Touches, IsLocal, placing_row, MayPlace}
use Rattle.vt_redraw.specs.declared.pen.Pen.{Pen}
use Rattle.vt_redraw.proofs.Edits.{at_pen, Reads, Within, changing_draws, move_to_draws, row_of, mid, glyph_cells}
use Rattle.vt_redraw.proofs.Halves.{Paired, paired_of, ends_is, ends, Sound}
use Rattle.vt_redraw.proofs.Places.{PrintsCells}
use Rattle.vt_redraw.proofs.Steady.{steady_prints}
use Rattle.vt_redraw.proofs.Rows.{Stands, PrintsRow, flags_end, BelowMay, RowsMay, rows_draw, rows_local}
use Rattle.vt_redraw.proofs.Fitting.{rows_form}
use Rattle.vt_redraw.proofs.Ranges.{Any, any_row}
use Rattle.vt_redraw.proofs.Cursor.{Puts, cursor_draws, split_row, all_row, NearestIs, nearest_is, down_draws}
use Rattle.vt_redraw.proofs.Cursor.{ends_in_blank, last_attrs, last_blank_column, off, saved_at, saved_of}
use Rattle.vt_redraw.proofs.Cursor.{blank_passed_draws}
use Rattle.vt_redraw.proofs.Touched.{DrawsIn, in_then, quiet_in, changing_quiet, AllQuiet, in_to, feeds_quiet}
use Rattle.vt_redraw.proofs.Link.{length_glyph, last_cases, prints_last, print_again}

-- ==== The difference turns what one canvas displays into another picture: rows, cursor, attributes, and whether the
-- cursor is hidden.

-- ---- rows of a picture

pub row_stands : (width : ℕ) (row : RowValue) → IsRow width row → Stands width row
row_stands width row is = record {
  columns = is.columns;
  paired = paired_of row.cells is.paired;
  sound = λ t. sym (ends_is row.cells) ∙ is.flagged t;
}

pub rows_stand : (width : ℕ) (rows : List RowValue) →
    AllByRecursion (IsRow width) rows → AllByRecursion (Stands width) rows
rows_stand width [] is = tt
rows_stand width (row ∷ rows) is = (row_stands width row is.0, rows_stand width rows is.1)

cells_print : (n : ℕ) (cells : List CellValue) → Paired cells → length cells ≤ suc n →
    AllByRecursion IsCell cells → AllByRecursion (IsSteadyCell (suc n)) cells → PrintsCells (suc n) cells
cells_print n [] p le is steady = tt
cells_print n (blank a ∷ xs) p le is steady = (tt, cells_print n xs p (omega arith) is.1 steady.1)
cells_print n (glyph text false a ∷ xs) p le is steady =
    (steady_prints n text false a is.0 (omega arith) steady.0, cells_print n xs p (omega arith) is.1 steady.1)
cells_print n (glyph text true a ∷ right_half ∷ xs) p le is steady =
    (steady_prints n text true a is.0 (omega arith) steady.0, (tt, cells_print n xs p (omega arith) is.1.1 steady.1.1))
cells_print n (glyph text true a ∷ []) p le is steady = absurd p
cells_print n (glyph text true a ∷ blank b ∷ xs) p le is steady = absurd p
cells_print n (glyph text true a ∷ glyph other wide b ∷ xs) p le is steady = absurd p
cells_print n (right_half ∷ xs) p le is steady = absurd p

rows_print : (n : ℕ) (rows : List RowValue) → AllByRecursion (IsRow (suc n)) rows →
    AllByRecursion (λ row. All (IsSteadyCell (suc n)) row.cells) rows → AllByRecursion (PrintsRow (suc n)) rows
rows_print n [] is steady = tt
rows_print n (row ∷ rows) is steady =
    let columns = is.0.columns in (
      cells_print n row.cells (paired_of row.cells is.0.paired)
          (omega arith) (recursion_from_All IsCell row.cells is.0.sound)
          (recursion_from_All (IsSteadyCell (suc n)) row.cells steady.0),
      rows_print n rows is.1 steady.1,
    )

pub picture_prints : (width : ℕ) (rows : List RowValue) → 0 < width → AllByRecursion (IsRow width) rows →
    AllByRecursion (λ row. All (IsSteadyCell width) row.cells) rows → AllByRecursion (PrintsRow width) rows
picture_prints zero rows pos is steady = absurd (omega arith)
picture_prints (suc n) rows pos is steady = rows_print n rows is steady

pub flags_end_of : (width : ℕ) (rows : List RowValue) →
    (row_or width rows (length rows - 1)).wrapped ≡ false → flags_end rows
flags_end_of width [] h = tt
flags_end_of width (x ∷ []) h = h
flags_end_of width (x ∷ y ∷ ys) h =
    let e : suc (suc (length ys)) - 1 ≡ suc (length ys) = omega arith in
    let f : suc (length ys) - 1 ≡ length ys = omega arith in
    flags_end_of width (y ∷ ys)
    (ap (λ (k : ℕ). (row_or width (y ∷ ys) k).wrapped) f
    ∙ (ap (λ (k : ℕ). (row_or width (x ∷ y ∷ ys) k).wrapped) (sym e) ∙ h))

-- ---- rows, cursor and attributes

-- The positions that a difference may touch: in the fixed form, those near rows that differ and at the end of the row at
-- which a wrap is made pending.
abbrev MayTouch : Form → (self prev : Picture) → ℕ → ℕ → Type 0
MayTouch Fixed self prev = IsLocal self prev
MayTouch Portable self prev = Any

any_below : (width r : ℕ) (above other : RowValue) (xs ys : List RowValue) → BelowMay Any width r above other xs ys
any_below width r above other [] ys = tt
any_below width r above other (x ∷ xs) [] = tt
any_below width r above other (x ∷ xs) (y ∷ ys) =
    (λ _. any_row width (r + 1) x y, any_below width (r + 1) x y xs ys)

pub any_rows : (width : ℕ) (xs ys : List RowValue) → RowsMay Any width xs ys
any_rows width [] ys = tt
any_rows width (x ∷ xs) [] = tt
any_rows width (x ∷ xs) (y ∷ ys) = (λ _. any_row width 0 x y, any_below width 0 x y xs ys)

touched_rows : (form : Form) (self prev : Picture) → AllByRecursion (IsRow self.width) self.rows →
    RowsMay (MayTouch form self prev) self.width self.rows prev.rows
touched_rows Fixed self prev is = rows_local self prev is
touched_rows Portable self prev is = any_rows self.width self.rows prev.rows

-- A difference may touch the end of the row at which a pending wrap is made, on a screen of width `w`.
abbrev PlacesAt : Form → (self prev : Picture) → ℕ → Type 0
PlacesAt form self prev w =
    self.column ≡ w → (k : ℕ) →
    last_column (row_or w self.rows (placing_row (nearest w self.rows self.row) self.row)).cells ≤ k →
    k < w → MayTouch form self prev (placing_row (nearest w self.rows self.row) self.row) k

placed : (form : Form) (self prev : Picture) → PlacesAt form self prev self.width
placed Fixed self prev e k low high = inr (e, (refl, low))
placed Portable self prev e k low high = tt

touches_any : (form other : Form) (self prev : Picture) → other ≡ form → other ≡ Portable →
    (r k : ℕ) → MayTouch form self prev r k
touches_any Fixed other self prev e p r k = absurd cc
touches_any Portable other self prev e p r k = tt

pub script_draws : (form : Form) (self : Picture) (base : Canvas) → IsPicture self → IsSteady self →
    IsPicture (picture_of base) → IsPlainPage base.page → SamePictureSize self (picture_of base) →
    Puts (MayTouch form self (picture_of base)) (script_in form self (picture_of base)) base
    (at_pen base self.rows (pen_of form self))
unfolding script_in
script_draws form self base is steady other plain size =
    let width = base.page.width in
    let height = length self.rows in
    let same = size.width in
    let tall = size.height in
    let bottom = plain.whole.1 in
    let row = other.cursor_row in
    let reads : Reads base height width =
    record { bottom = omega arith; origin = plain.origin; wide = refl; has_columns = other.has_columns } in
    let pen = pen_of form (picture_of base) in
    let start : Within pen height width = record { row = omega arith; col = other.cursor_column } in
    let self_rows : AllByRecursion (IsRow width) self.rows =
    subst (λ (w : ℕ). AllByRecursion (IsRow w) self.rows) same
    (recursion_from_All (IsRow self.width) self.rows is.rows) in
    let steady_rows : AllByRecursion (λ row. All (IsSteadyCell width) row.cells) self.rows =
    subst (λ (w : ℕ). AllByRecursion (λ row. All (IsSteadyCell w) row.cells) self.rows) same
    (recursion_from_All (λ row. All (IsSteadyCell self.width) row.cells) self.rows steady) in
    let stand = rows_stand width self.rows self_rows in
    let prints = picture_prints width self.rows other.has_columns self_rows steady_rows in
    let May = MayTouch form self (picture_of base) in
    let local : RowsMay May width self.rows base.page.rows =
    subst (λ (w : ℕ). RowsMay May w self.rows base.page.rows) same
    (touched_rows form self (picture_of base) (recursion_from_All (IsRow self.width) self.rows is.rows)) in
    let rows = rows_draw May base self.rows base.page.rows height pen reads refl (sym tall) stand
    (rows_stand width base.page.rows (recursion_from_All (IsRow width) base.page.rows other.rows)) prints
    (flags_end_of self.width self.rows is.last) start local in
    let w = rows_written pen self.rows base.page.rows in
    let column = is.cursor_column in
    let rule = cursor_draws May base self.rows w.pen self.row self.column height reads refl stand prints is.cursor_row
    (omega arith) rows.within (subst (PlacesAt form self (picture_of base)) same (placed form self (picture_of base)))
    (λ _ p. touches_any form w.pen.form self (picture_of base) (rows_form pen self.rows base.page.rows) p self.row) in
    let goal = at_pen base self.rows (pen_at self.row self.column w.pen.attrs) in
    let moved : DrawsIn May (cursor_written w.pen self.width self.rows self.row self.column)
    (at_pen base self.rows w.pen) (with_saved rule.0 goal) =
    subst (λ (z : ℕ). DrawsIn May (cursor_written w.pen z self.rows self.row self.column)
    (at_pen base self.rows w.pen) (with_saved rule.0 goal))
    (sym same) rule.1 in (
      rule.0,
      in_then May w.ops
          (cursor_written w.pen self.width self.rows self.row self.column ++ attr_ops_in form w.pen.attrs self.attrs)
          base (at_pen base self.rows w.pen) (with_saved rule.0 (at_pen base self.rows (pen_of form self))) rows.draws
          (in_then May (cursor_written w.pen self.width self.rows self.row self.column)
          (attr_ops_in form w.pen.attrs self.attrs) (at_pen base self.rows w.pen)
          (with_saved rule.0 goal) (with_saved rule.0 (at_pen base self.rows (pen_of form self))) moved
          (quiet_in May (attr_ops_in form w.pen.attrs self.attrs) (with_saved rule.0 goal)
          (with_saved rule.0 (at_pen base self.rows (pen_of form self))) (changing_quiet form w.pen.attrs self.attrs)
          (changing_draws form (with_saved rule.0 base) self.rows (pen_at self.row self.column w.pen.attrs)
          self.attrs))),
    )

-- ---- the difference

pub hiding_draws : (self : Picture) (any : Canvas) →
    Draws (cursor_visibility_ops self (picture_of any)) any (record any { hidden = self.hidden })
hiding_draws self any =
    cond_both (same_bool self.hidden any.hidden) [] (Hide self.hidden ∷ [])
    (λ (ops : List Op). Draws ops any (record any { hidden = self.hidden }))
    (λ (t : same_bool self.hidden any.hidden ≡ true). ap
    (λ (h : Bool). Some (record any { hidden = h })) (sym (bool_of-same self.hidden any.hidden t)))
    (λ _. refl)

hiding_quiet : (self prev : Picture) → AllQuiet (cursor_visibility_ops self prev)
hiding_quiet self prev =
    cond_both (same_bool self.hidden prev.hidden) [] (Hide self.hidden ∷ []) AllQuiet (λ _. tt) (λ _. (refl, tt))

-- The positions that a difference may touch do not depend on whether the cursor is hidden.
touch_shown : (form : Form) (self : Picture) (any : Canvas) (P : (ℕ → ℕ → Type 0) → Type 0) →
    P (MayTouch form self (picture_of (record any { hidden = self.hidden }))) → P (MayTouch form self (picture_of any))
touch_shown Fixed self any P h = h
touch_shown Portable self any P h = h

difference_puts : (form : Form) (self prev : Picture) (any : Canvas) → IsPicture self → IsSteady self →
    IsPicture prev → SamePictureSize self prev → IsPlainPage any.page → picture_of any ≡ prev →
    Puts (MayTouch form self prev) (difference_in form self prev) any (with_picture self any)
unfolding difference_in script_in
difference_puts form self prev any is steady other size plain e =
    let base = record any { hidden = self.hidden } in
    let May = MayTouch form self (picture_of any) in
    let shows = sym e in
    let was = subst IsPicture shows other in
    let sizes = subst (SamePictureSize self) shows size in
    let rest = script_draws form self base is steady
    (record {
      has_columns = was.has_columns;
      cursor_row = was.cursor_row;
      cursor_column = was.cursor_column;
      rows = was.rows;
      last = was.last;
    })
    plain (record { width = sizes.width; height = sizes.height }) in
    let goal = with_saved rest.0 (with_picture self any) in
    subst (λ (p : Picture). Puts (MayTouch form self p) (cursor_visibility_ops self p ++ script_in form self p) any
    (with_picture self any)) e (
      rest.0,
      in_then May (cursor_visibility_ops self (picture_of any)) (script_in form self (picture_of any)) any base goal
          (quiet_in May (cursor_visibility_ops self (picture_of any)) any base
          (hiding_quiet self (picture_of any)) (hiding_draws self any))
          (touch_shown form self any (λ (T : ℕ → ℕ → Type 0). DrawsIn T (script_in form self (picture_of any)) base
          goal) rest.1),
    )

-- The operations draw the canvas `goal`, except for the saved state.
abbrev pub Shows : List Op → (start goal : Canvas) → Type 0
Shows ops start goal = (saved : Saved) × Draws ops start (with_saved saved goal)

-- Drawing the difference on a plain canvas that displays `prev` makes it display `self`; besides, only the saved state
-- may change.
pub difference_draws_in : (form : Form) (self prev : Picture) (any : Canvas) → IsPicture self → IsSteady self →
    IsPicture prev → SamePictureSize self prev → IsPlainPage any.page → picture_of any ≡ prev →
    Shows (difference_in form self prev) any (with_picture self any)
difference_draws_in form self prev any is steady other size plain e =
    let puts = difference_puts form self prev any is steady other size plain e in
    (puts.0, puts.1.draws)

pub difference_draws : (self prev : Picture) (any : Canvas) → IsPicture self → IsSteady self →
    IsPicture prev → SamePictureSize self prev → IsPlainPage any.page → picture_of any ≡ prev →
    Shows (difference self prev) any (with_picture self any)
difference_draws = difference_draws_in Fixed

-- The difference touches only positions near a differing row, and the end of the row at which a wrap is made pending.
pub difference_local : (self prev : Picture) (any : Canvas) → IsPicture self → IsSteady self →
    IsPicture prev → SamePictureSize self prev → IsPlainPage any.page → picture_of any ≡ prev →
    Touches (IsLocal self prev) (difference self prev) any
difference_local self prev any is steady other size plain e =
    let puts = difference_puts Fixed self prev any is steady other size plain e in
    puts.1.touches

-- ==== Setting only the cursor of a terminal that displays all other parts of a picture and has default attributes.

-- The last glyph of a row can be printed again, wherever the cursor is.
printed_again : (May : ℕ → ℕ → Type 0) (base : Canvas) (done below : List RowValue)
    (xs : List CellValue) (wrapped : Bool) (r : ℕ) (pen : Pen) →
    base.page.origin ≡ false → length done ≡ r → length xs ≡ base.page.width →
    Paired xs → ends xs ≡ false → PrintsCells base.page.width xs →
    ((k : ℕ) → last_column xs ≤ k → k < base.page.width → May r k) →
    DrawsIn May (MoveTo r (last_column xs)
    ∷ (attr_ops_in pen.form pen.attrs (attrs_of (last_glyph xs)) ++ Print (text_of (last_glyph xs)) ∷ []))
    (mid base done below xs wrapped pen)
    (mid base done below xs wrapped (pen_at r base.page.width (attrs_of (last_glyph xs))))
printed_again May base done below xs wrapped r pen origin e w h full prints may =
    last_cases
    (λ z k x. PrintsCells base.page.width z → length z ≡ base.page.width →
    Sound wrapped z → ((j : ℕ) → k ≤ j → j < base.page.width → May r j) →
    DrawsIn May (MoveTo r k ∷ (attr_ops_in pen.form pen.attrs (attrs_of x) ++ Print (text_of x) ∷ []))
    (mid base done below z wrapped pen) (mid base done below z wrapped (pen_at r base.page.width (attrs_of x))))
    (λ pre text wide a front p size sound mays.
    let n = length_glyph pre text wide a in
    let one = some_columns wide in
    let row = pre ++ glyph_cells text wide a in
    let rows = done ++ row_of row wrapped ∷ below in
    let count = length-append done (row_of row wrapped ∷ below) in
    let c = length pre in
    let m0 = mid base done below row wrapped pen in
    let m1 = mid base done below row wrapped (pen_at r c pen.attrs) in
    let m2 = mid base done below row wrapped (pen_at r c a) in
    let m3 = mid base done below row wrapped (pen_at r base.page.width a) in
    in_then May (MoveTo r c ∷ []) (attr_ops_in pen.form pen.attrs a ++ Print text ∷ []) m0 m1 m3
    (quiet_in May (MoveTo r c ∷ []) m0 m1 (refl, tt)
    (move_to_draws base rows pen r c origin (omega arith) (omega arith)))
    (in_then May (attr_ops_in pen.form pen.attrs a) (Print text ∷ []) m1 m2 m3
    (quiet_in May (attr_ops_in pen.form pen.attrs a) m1 m2 (changing_quiet pen.form pen.attrs a)
    (changing_draws pen.form base rows (pen_at r c pen.attrs) a))
    (in_to May (Print text ∷ []) m2 (mid base done below row wrapped (pen_at r (c + glyph_columns wide) a)) m3
    (print_again May base done below pre text wide a wrapped r
    (prints_last base.page.width pre text wide a p) e (sym n ∙ size) front sound mays)
    (ap (λ (k : ℕ). mid base done below row wrapped (pen_at r k a)) (sym n ∙ size)))))
    xs h full prints w (λ _. full) may
  where
    some_columns : (wide : Bool) → 0 < glyph_columns wide
    some_columns true = omega arith
    some_columns false = omega arith

alone_draws : (May : ℕ → ℕ → Type 0) (base : Canvas)
    (rows : List RowValue) (p : Pen) (r height : ℕ) (found : Option ℕ) →
    p.attrs ≡ default_attrs → Reads base height base.page.width → length rows ≡ height →
    AllByRecursion (Stands base.page.width) rows → AllByRecursion (PrintsRow base.page.width) rows →
    r < height → NearestIs base.page.width rows r found →
    ((k : ℕ) → last_column (row_or base.page.width rows (placing_row found r)).cells ≤ k →
    k < base.page.width → May (placing_row found r) k) →
    Puts May (pending_alone found base.page.width rows r) (at_pen base rows p)
    (at_pen base rows (pen_at r base.page.width default_attrs))
alone_draws May base rows p r height (Some i) attrs reads size all prints low near may =
    let width = base.page.width in
    let d = blank_row default_attrs width in
    let le = near.0 in
    let x = row_or width rows i in
    let a = attrs_of (last_glyph x.cells) in
    let ok = all_row (Stands width) rows i d (omega arith) all in
    let v = split_row rows i d (omega arith) in
    let pen = pen_at p.row p.col default_attrs in
    let ops =
    MoveTo i (last_column x.cells) ∷ (attr_ops default_attrs a ++ Print (text_of (last_glyph x.cells)) ∷ []) in
    let n : i + (r - i) ≡ r = omega arith in
    let m0 = at_pen base rows pen in
    let m1 = at_pen base rows (pen_at i width a) in
    let m2 = at_pen base rows (pen_at i width default_attrs) in
    let m3 = at_pen base rows (pen_at r width default_attrs) in
    let again : DrawsIn May ops m0 m1 =
    subst (λ (z : List RowValue). DrawsIn May ops (at_pen base z pen) (at_pen base z (pen_at i width a))) (sym v.is)
    (printed_again May base v.done v.below x.cells x.wrapped i pen reads.origin v.above ok.columns ok.paired
    (sym (ends_is x.cells) ∙ near.1.0) (all_row (PrintsRow width) rows i d (omega arith) prints) may) in
    let tail = in_then May (attr_ops a default_attrs) (replicate (r - i) LineFeed) m1 m2 m3
    (quiet_in May (attr_ops a default_attrs) m1 m2 (changing_quiet Fixed a default_attrs)
    (changing_draws Fixed base rows (pen_at i width a) default_attrs))
    (quiet_in May (replicate (r - i) LineFeed) m2 m3 (feeds_quiet (r - i))
    (down_draws base rows (r - i) i width height default_attrs reads.bottom size (omega arith)
    ∙ ap (λ (z : ℕ). Some (at_pen base rows (pen_at z width default_attrs))) n)) in (
      saved_of base,
      subst (λ (c : Attrs). DrawsIn May (pending_alone (Some i) width rows r)
          (at_pen base rows (pen_at p.row p.col c)) m3)
          (sym attrs)
          (subst (λ (z : List Op). DrawsIn May z m0 m3)
          (regrouped (MoveTo i (last_column x.cells)) (attr_ops default_attrs a)
          (Print (text_of (last_glyph x.cells))) (attr_ops a default_attrs ++ replicate (r - i) LineFeed))
          (in_then May ops (attr_ops a default_attrs ++ replicate (r - i) LineFeed) m0 m1 m3 again tail)),
    )
  where
    regrouped : (op : Op) (ops : List Op) (print : Op) (more : List Op) →
        (op ∷ (ops ++ print ∷ [])) ++ more ≡ op ∷ (ops ++ print ∷ more)
    regrouped op ops print more = ap (λ (z : List Op). op ∷ z) (append_assoc ops (print ∷ []) more)
alone_draws May base rows p r height None attrs reads size all prints low near may =
    let width = base.page.width in
    let d = blank_row default_attrs width in
    let x = row_or width rows r in
    let ok = all_row (Stands width) rows r d (omega arith) all in
    let columns_x = ok.columns in
    let pos = reads.has_columns in
    let v = split_row rows r d (omega arith) in
    let full = sym (ends_is x.cells) ∙ near in
    let k = ends_in_blank x.cells ok.paired (omega arith) full in
    let b = k.attrs in
    let row = k.pre ++ blank b ∷ [] in
    let size_k = sym ok.columns ∙ (ap length k.is ∙ length-append k.pre (blank b ∷ [])) in
    let col : width - 1 ≡ length k.pre = omega arith in
    let blank_attrs : attrs_of (at x.cells (width - 1)) ≡ b =
    ap (λ (z : List CellValue). attrs_of (at z (width - 1))) k.is ∙ last_attrs k.pre b (width - 1) (omega arith) in
    let last : last_column x.cells ≡ length k.pre = ap last_column k.is ∙ last_blank_column k.pre b in
    let same : rows ≡ v.done ++ row_of row false ∷ v.below =
    v.is ∙ (ap (λ (z : List CellValue). v.done ++ row_of z x.wrapped ∷ v.below) k.is
    ∙ ap (λ (z : Bool). v.done ++ row_of row z ∷ v.below) (off x.wrapped x.cells ok.sound full)) in
    let pen = pen_at p.row p.col default_attrs in
    let goal = pen_at r width default_attrs in
    let passed = λ (a : Attrs). MoveTo r (width - 1) ∷ blank_passed Fixed r (width - 1) default_attrs a in
    let m1 = at_pen base rows (pen_at r (width - 1) default_attrs) in
    let moved = quiet_in May (MoveTo r (width - 1) ∷ []) (at_pen base rows pen) m1 (refl, tt)
    (move_to_draws base rows pen r (width - 1) reads.origin (omega arith) (omega arith)) in
    let there = subst (λ (z : List RowValue). DrawsIn May (blank_passed Fixed r (length k.pre) default_attrs b)
    (at_pen base z (pen_at r (length k.pre) default_attrs)) (at_pen (saved_at base r width b) z goal))
    (sym same)
    (blank_passed_draws May Fixed base v.done v.below k.pre r default_attrs b reads.origin pos v.above (omega arith)
    k.front (λ j low high. may j (subst (λ (n : ℕ). n ≤ j) (sym last) low) high)) in (
      record { row = r; column = width; origin = base.page.origin; attrs = b },
      subst (λ (c : Attrs). DrawsIn May (passed (attrs_of (at x.cells (width - 1))))
          (at_pen base rows (pen_at p.row p.col c)) (at_pen (saved_at base r width b) rows goal))
          (sym attrs)
          (subst
          (λ (a : Attrs). DrawsIn May (passed a) (at_pen base rows pen) (at_pen (saved_at base r width b) rows goal))
          (sym blank_attrs)
          (in_then May (MoveTo r (width - 1) ∷ []) (blank_passed Fixed r (width - 1) default_attrs b)
          (at_pen base rows pen) m1 (at_pen (saved_at base r width b) rows goal) moved
          (subst (λ (z : ℕ). DrawsIn May (blank_passed Fixed r z default_attrs b)
          (at_pen base rows (pen_at r z default_attrs)) (at_pen (saved_at base r width b) rows goal))
          (sym col) there))),
    )

-- The operations of `cursor_state` set the position and visibility of the cursor, and touch at most the end of one row.
cursor_state_in : (self : Picture) (any : Canvas) → IsPicture self → IsSteady self → IsPlainPage any.page →
    any.page.rows ≡ self.rows → any.page.width ≡ self.width → any.attrs ≡ default_attrs →
    Puts (MayPlace self) (cursor_state self) any (with_cursor_of self any)
unfolding cursor_state
cursor_state_in self any is steady plain rows_are width_is attrs =
    let base = record any { page = record (any.page) { width = self.width }; hidden = self.hidden } in
    let May = MayPlace self in
    let width = self.width in
    let height = length self.rows in
    let bottom = plain.whole.1 in
    let count = ap length rows_are in
    let reads : Reads base height width =
    record { bottom = omega arith; origin = plain.origin; wide = refl; has_columns = is.has_columns } in
    let rows = recursion_from_All (IsRow width) self.rows is.rows in
    let stand = rows_stand width self.rows rows in
    let prints = picture_prints width self.rows is.has_columns rows
    (recursion_from_All (λ row. All (IsSteadyCell width) row.cells) self.rows steady) in
    let p = pen_at any.page.row any.page.column any.attrs in
    let column = is.cursor_column in
    let goal = at_pen base self.rows (pen_at self.row self.column default_attrs) in
    let rest = if nat_lt self.column width then MoveTo self.row self.column ∷ []
    else pending_alone (nearest width self.rows self.row) width self.rows self.row in
    let puts : Puts May rest (at_pen base self.rows p) goal =
    cond_both (nat_lt self.column width) (MoveTo self.row self.column ∷ [])
    (pending_alone (nearest width self.rows self.row) width self.rows self.row)
    (λ (ops : List Op). Puts May ops (at_pen base self.rows p) goal)
    (λ (t : nat_lt self.column width ≡ true). (
      saved_of base,
      quiet_in May (MoveTo self.row self.column ∷ []) (at_pen base self.rows p) goal (refl, tt)
          (move_to_draws base self.rows p self.row self.column reads.origin is.cursor_row (ltb-true self.column width t)
          ∙ ap (λ (a : Attrs). Some (at_pen base self.rows (pen_at self.row self.column a))) attrs),
    ))
    (λ (t : nat_lt self.column width ≡ false).
    let whole : width ≡ self.column = grind (arith, nat_tests) in
    subst (λ (z : ℕ). Puts May (pending_alone (nearest width self.rows self.row) width self.rows self.row)
    (at_pen base self.rows p) (at_pen base self.rows (pen_at self.row z default_attrs)))
    whole
    (alone_draws May base self.rows p self.row height (nearest width self.rows self.row) attrs reads refl stand
    prints is.cursor_row (nearest_is width self.rows self.row) (λ k low high. (sym whole, (refl, low))))) in
    let start : any ≡ record (at_pen base self.rows p) { hidden = any.hidden } =
    ap (λ (z : List RowValue). record any { page = record (any.page) { rows = z } }) rows_are
    ∙ ap (λ (w : ℕ). record any { page = record (any.page) { rows = self.rows; width = w } }) width_is in
    let end : with_saved puts.0 goal ≡ with_saved puts.0 (with_cursor_of self any) =
    ap (λ (z : List RowValue). with_saved puts.0 (record goal { page = record (goal.page) { rows = z } }))
    (sym rows_are)
    ∙ (ap (λ (w : ℕ). with_saved puts.0
    (record (with_cursor_of self any)
    { page = record ((with_cursor_of self any).page) { width = w }; attrs = default_attrs }))
    (sym width_is)
    ∙ ap (λ (a : Attrs). with_saved puts.0 (record (with_cursor_of self any) { attrs = a })) (sym attrs)) in (
      puts.0,
      subst (λ (c : Canvas). DrawsIn May (Hide self.hidden ∷ rest) c (with_saved puts.0 (with_cursor_of self any)))
          (sym start)
          (in_then May (Hide self.hidden ∷ []) rest (record (at_pen base self.rows p) { hidden = any.hidden })
          (at_pen base self.rows p) (with_saved puts.0 (with_cursor_of self any))
          (quiet_in May (Hide self.hidden ∷ []) (record (at_pen base self.rows p) { hidden = any.hidden })
          (at_pen base self.rows p) (refl, tt) refl)
          (in_to May rest (at_pen base self.rows p) (with_saved puts.0 goal)
          (with_saved puts.0 (with_cursor_of self any)) puts.1 end)),
    )

pub cursor_state_draws : (self : Picture) (any : Canvas) → IsPicture self → IsSteady self →
    IsPlainPage any.page → any.page.rows ≡ self.rows → any.page.width ≡ self.width → any.attrs ≡ default_attrs →
    (saved : Saved) × Draws (cursor_state self) any (with_saved saved (with_cursor_of self any))
cursor_state_draws self any is steady plain rows width attrs =
    let puts = cursor_state_in self any is steady plain rows width attrs in
    (puts.0, puts.1.draws)

pub cursor_state_local : (self : Picture) (any : Canvas) → IsPicture self → IsSteady self →
    IsPlainPage any.page → any.page.rows ≡ self.rows → any.page.width ≡ self.width →
    any.attrs ≡ default_attrs → Touches (MayPlace self) (cursor_state self) any
cursor_state_local self any is steady plain rows width attrs =
    let puts = cursor_state_in self any is steady plain rows width attrs in
    puts.1.touches
