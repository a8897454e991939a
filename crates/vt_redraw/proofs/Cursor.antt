-- The operations for the cursor move it to its position, also to a pending wrap, and change nothing else except the
-- saved state.
use Rattle.std.proofs.Common.{◌≡◌, ℕ, zero, suc, ◌+◌, ◌-◌, ◌<◌, ◌≤◌, ◌==◌, nat_lt, Bool, true, false, List, [], ◌∷◌}
use Rattle.std.proofs.Common.{◌++◌, length, get_or, replicate, Option, Some, None, refl, sym, ap, ◌∙◌, subst, arith}
use Rattle.std.specs.Prelude.{if◌then◌else◌}
use Rattle.std.specs.List.{AllByRecursion}
use Rattle.std.proofs.lemmas.Bool.{cond_both, lt-ltb, ltb-true, ne_eqb, and_parts}
use Rattle.std.proofs.lemmas.Bool.Decides.{nat_tests}
use Rattle.std.proofs.lemmas.List.{length-append, get_or_at}
use Rattle.vt_cells.specs.Attrs.{default_attrs, Attrs}
use Rattle.vt_cells.specs.Cell.{CellValue, blank, glyph, right_half, default_blank, attrs_of}
use Rattle.vt_cells.specs.Op.{Op, Print, LineFeed, EraseChars, SaveCursor, RestoreCursor}
use Rattle.vt_rows.specs.Cells.{at, ends_blank}
use Rattle.vt_rows.specs.Row.{RowValue, blank_row}
use Rattle.vt_grid.specs.Page.{row_or}
use Rattle.vt_grid.specs.Moves.{line_feed}
use Rattle.vt_grid.specs.Canvas.{Canvas}
use Rattle.vt_redraw.specs.Script.{pen_at, move_ops, attr_ops_in, back_op}
use Rattle.vt_redraw.specs.declared.form.Form.{Form}
use Rattle.vt_redraw.specs.declared.pen.Pen.{Pen}
use Rattle.vt_grid.proofs.Texts.{Draws, draws_then}
use Rattle.vt_redraw.proofs.Edits.{at_pen, Reads, Within, going_draws, changing_draws, back_draws, row_of, mid}
use Rattle.vt_redraw.specs.Picture.{Saved, with_saved}
use Rattle.vt_redraw.specs.Script.{after_last_glyph, is_at, last_column}
use Rattle.vt_redraw.specs.Locality.{placing_row}
use Rattle.vt_redraw.proofs.Touched.{DrawsIn, in_then, in_to, quiet_in, going_quiet, changing_quiet, feeds_quiet}
use Rattle.vt_redraw.specs.Redraw.{nearest, blank_passed, over_blank, under_last, pending_at, cursor_written, strays}
use Rattle.vt_redraw.proofs.Halves.{Paired, ends, ends_is, Sound}
use Rattle.vt_redraw.proofs.Places.{going_there}
use Rattle.vt_redraw.proofs.Texts.{space_prints}
use Rattle.vt_redraw.proofs.Link.{erase_last, going_after_draws, print_bare, same_pen}
use Rattle.vt_redraw.proofs.Rows.{Stands, PrintsRow}
use Rattle.vt_redraw.proofs.Touched.{back_quiet}
use Rattle.vt_redraw.specs.declared.form.Form.TheVariants.{Fixed, Portable}
use Rattle.std.proofs.Common.{◌&&◌}

-- ---- rows by index

pub record Split (rows : List RowValue) (n : ℕ) (d : RowValue) : Type 0 where
  pub done : List RowValue
  pub below : List RowValue
  pub above : length done ≡ n
  pub is : rows ≡ done ++ get_or rows n d ∷ below

pub split_row : (rows : List RowValue) (n : ℕ) (d : RowValue) → n < length rows → Split rows n d
split_row [] n d h = absurd (omega arith)
split_row (x ∷ xs) zero d h = record { done = []; below = xs; above = refl; is = refl }
split_row (x ∷ xs) (suc n) d h =
    let k = split_row xs n d (omega arith) in
    record { done = x ∷ k.done; below = k.below; above = ap suc k.above; is = ap (λ (z : List RowValue). x ∷ z) k.is }

pub all_row : (P : RowValue → Type 0) (rows : List RowValue) (n : ℕ) (d : RowValue) →
    n < length rows → AllByRecursion P rows → P (get_or rows n d)
all_row P [] n d h k = absurd (omega arith)
all_row P (x ∷ xs) zero d h k = k.0
all_row P (x ∷ xs) (suc n) d h k = all_row P xs n d (omega arith) k.1

-- ---- the nearest row whose last column is not blank

abbrev pub NearestIs : ℕ → List RowValue → ℕ → Option ℕ → Type 0
NearestIs width rows n None = ends_blank (row_or width rows n).cells ≡ true
NearestIs width rows n (Some i) =
    (i ≤ n)
    × ((ends_blank (row_or width rows i).cells ≡ false) × (i < n → ends_blank (row_or width rows n).cells ≡ true))

nearest_next : (width : ℕ) (rows : List RowValue) (n : ℕ) (found : Option ℕ) →
    ends_blank (row_or width rows (suc n)).cells ≡ true →
    NearestIs width rows n found → NearestIs width rows (suc n) found
nearest_next width rows n None t h = t
nearest_next width rows n (Some i) t h = let le = h.0 in (omega arith, (h.1.0, λ _. t))

pub nearest_is : (width : ℕ) (rows : List RowValue) (n : ℕ) → NearestIs width rows n (nearest width rows n)
nearest_is width rows zero =
    cond_both (ends_blank (row_or width rows 0).cells) None (Some 0)
    (NearestIs width rows 0) (λ t. t) (λ t. (omega arith, (t, λ lt. absurd (omega (arith, lt)))))
nearest_is width rows (suc n) =
    cond_both (ends_blank (row_or width rows (suc n)).cells)
    (nearest width rows n) (Some (suc n)) (NearestIs width rows (suc n))
    (λ t. nearest_next width rows n (nearest width rows n) t (nearest_is width rows n))
    (λ t. (omega arith, (t, λ lt. absurd (omega (arith, lt)))))

-- The row's last column is a blank.
pub record EndsBlank (cells : List CellValue) : Type 0 where
  pub pre : List CellValue
  pub attrs : Attrs
  pub front : Paired pre
  pub is : cells ≡ pre ++ blank attrs ∷ []

longer : (x : CellValue) (xs : List CellValue) →
    ((pre : List CellValue) → Paired pre → Paired (x ∷ pre)) → EndsBlank xs → EndsBlank (x ∷ xs)
longer x xs f e =
    record { pre = x ∷ e.pre; attrs = e.attrs; front = f e.pre e.front; is = ap (λ (z : List CellValue). x ∷ z) e.is }

pub ends_in_blank : (xs : List CellValue) → Paired xs → 0 < length xs → ends xs ≡ true → EndsBlank xs
ends_in_blank [] h n e = absurd (omega arith)
ends_in_blank (blank a ∷ []) h n e = record { pre = []; attrs = a; front = tt; is = refl }
ends_in_blank (blank a ∷ y ∷ ys) h n e =
    longer (blank a) (y ∷ ys) (λ pre k. k) (ends_in_blank (y ∷ ys) h (omega arith) e)
ends_in_blank (glyph text false a ∷ []) h n e = absurd (cc)
ends_in_blank (glyph text false a ∷ y ∷ ys) h n e =
    longer (glyph text false a) (y ∷ ys) (λ pre k. k) (ends_in_blank (y ∷ ys) h (omega arith) e)
ends_in_blank (glyph text true a ∷ []) h n e = absurd h
ends_in_blank (glyph text true a ∷ blank b ∷ ys) h n e = absurd h
ends_in_blank (glyph text true a ∷ glyph other wide b ∷ ys) h n e = absurd h
ends_in_blank (glyph text true a ∷ right_half ∷ []) h n e = absurd (cc)
ends_in_blank (glyph text true a ∷ right_half ∷ y ∷ ys) h n e =
    let k = ends_in_blank (y ∷ ys) h (omega arith) e in
    record {
      pre = glyph text true a ∷ right_half ∷ k.pre;
      attrs = k.attrs;
      front = k.front;
      is = ap (λ (z : List CellValue). glyph text true a ∷ right_half ∷ z) k.is;
    }
ends_in_blank (right_half ∷ ys) h n e = absurd h

pub last_attrs : (pre : List CellValue) (b : Attrs) (n : ℕ) → length pre ≡ n → attrs_of (at (pre ++ blank b ∷ []) n) ≡ b
last_attrs [] b zero h = refl
last_attrs [] b (suc n) h = absurd (omega arith)
last_attrs (x ∷ pre) b zero h = absurd (omega arith)
last_attrs (x ∷ pre) b (suc n) h = last_attrs pre b n (omega arith)

-- ---- the cases

pub feed_draws : (base : Canvas) (rows : List RowValue) (pen : Pen) (height : ℕ) →
    base.page.bottom + 1 ≡ height → length rows ≡ height → pen.row + 1 < height →
    Draws (LineFeed ∷ []) (at_pen base rows pen) (at_pen base rows (pen_at (pen.row + 1) pen.col pen.attrs))
unfolding line_feed
feed_draws base rows pen height bottom size h =
    let s : (pen.row == base.page.bottom) ≡ false = ne_eqb pen.row base.page.bottom (λ same. omega arith) in
    let m : nat_lt (pen.row + 1) (length rows) ≡ true = lt-ltb (pen.row + 1) (length rows) (omega arith) in
    rw (s, m) refl

pub down_draws : (base : Canvas) (rows : List RowValue) (n i c height : ℕ) (a : Attrs) →
    base.page.bottom + 1 ≡ height → length rows ≡ height → i + n < height →
    Draws (replicate n LineFeed) (at_pen base rows (pen_at i c a)) (at_pen base rows (pen_at (i + n) c a))
down_draws base rows zero i c height a bottom size h =
    let e : i ≡ i + 0 = omega arith in ap (λ (z : ℕ). Some (at_pen base rows (pen_at z c a))) e
down_draws base rows (suc n) i c height a bottom size h =
    let e : i + 1 + n ≡ i + suc n = omega arith in
    draws_then (LineFeed ∷ []) (replicate n LineFeed) (at_pen base rows (pen_at i c a))
    (at_pen base rows (pen_at (i + 1) c a)) (at_pen base rows (pen_at (i + suc n) c a))
    (feed_draws base rows (pen_at i c a) height bottom size (omega arith))
    (down_draws base rows n (i + 1) c height a bottom size (omega arith)
    ∙ ap (λ (z : ℕ). Some (at_pen base rows (pen_at z c a))) e)

-- Printing the last glyph of row i makes a wrap pending, and line feeds then move the cursor down to row r.
pub under_last_draws : (May : ℕ → ℕ → Type 0) (base : Canvas) (rows : List RowValue) (pen : Pen) (i r height : ℕ) →
    Reads base height base.page.width → length rows ≡ height →
    AllByRecursion (Stands base.page.width) rows → AllByRecursion (PrintsRow base.page.width) rows →
    i ≤ r → r < height → Within pen height base.page.width → ends_blank (row_or base.page.width rows i).cells ≡ false →
    ((k : ℕ) → last_column (row_or base.page.width rows i).cells ≤ k → k < base.page.width → May i k) →
    DrawsIn May (under_last pen i r (row_or base.page.width rows i).cells)
    (at_pen base rows pen) (at_pen base rows (pen_at r base.page.width pen.attrs))
unfolding under_last
under_last_draws May base rows pen i r height reads size all prints le low within full may =
    let d = blank_row default_attrs base.page.width in
    let x = row_or base.page.width rows i in
    let ok = all_row (Stands base.page.width) rows i d (omega arith) all in
    let p = all_row (PrintsRow base.page.width) rows i d (omega arith) prints in
    let v = split_row rows i d (omega arith) in
    let count = ap length v.is ∙ length-append v.done (x ∷ v.below) in
    let above = v.above in
    let w = after_last_glyph i pen x.cells in
    let goes = going_after_draws May base v.done v.below x.cells x.wrapped i height pen reads
    v.above (omega arith) ok.columns ok.paired (sym (ends_is x.cells) ∙ full) p within (λ _. may) in
    let there : DrawsIn May w.ops (at_pen base rows pen) (at_pen base rows w.pen) =
    subst (λ (z : List RowValue). DrawsIn May w.ops (at_pen base z pen) (at_pen base z w.pen)) (sym v.is) goes.draws in
    let n : i + (r - i) ≡ r = omega arith in
    let middle = at_pen base rows (pen_at i base.page.width w.pen.attrs) in
    let end = at_pen base rows (pen_at r base.page.width pen.attrs) in
    let changed = at_pen base rows (pen_at i base.page.width pen.attrs) in
    in_then May w.ops (attr_ops_in pen.form w.pen.attrs pen.attrs ++ replicate (r - i) LineFeed) (at_pen base rows pen) middle end
    (in_to May w.ops (at_pen base rows pen) (at_pen base rows w.pen)
    middle there (ap (λ (q : Pen). at_pen base rows q) goes.there))
    (in_then May (attr_ops_in pen.form w.pen.attrs pen.attrs) (replicate (r - i) LineFeed) middle changed end
    (quiet_in May (attr_ops_in pen.form w.pen.attrs pen.attrs) middle changed (changing_quiet pen.form w.pen.attrs pen.attrs)
    (changing_draws pen.form base rows (pen_at i base.page.width w.pen.attrs) pen.attrs))
    (quiet_in May (replicate (r - i) LineFeed) changed end (feeds_quiet (r - i))
    (down_draws base rows (r - i) i base.page.width height pen.attrs reads.bottom size (omega arith)
    ∙ ap (λ (z : ℕ). Some (at_pen base rows (pen_at z base.page.width pen.attrs))) n)))

-- A canvas with the given cursor position and attributes saved.
abbrev pub saved_at : Canvas → ℕ → ℕ → Attrs → Canvas
saved_at base row column attrs =
    with_saved (record { row = row; column = column; origin = base.page.origin; attrs = attrs }) base

-- Printing a space and erasing it again makes a wrap pending.
pub blank_passed_draws : (May : ℕ → ℕ → Type 0) (form : Form) (base : Canvas)
    (done below : List RowValue) (pre : List CellValue) (r : ℕ) (was b : Attrs) →
    base.page.origin ≡ false → 0 < base.page.width → length done ≡ r → length pre + 1 ≡ base.page.width →
    Paired pre → ((k : ℕ) → length pre ≤ k → k < base.page.width → May r k) →
    DrawsIn May (blank_passed form r (length pre) was b) (mid base done below (pre ++ blank b ∷ []) false (pen_at r (length pre) was))
    (mid (saved_at base r base.page.width b) done below (pre ++ blank b ∷ []) false (pen_at r base.page.width was))
blank_passed_draws May form base done below pre r was b o pos e w h may =
    let row = pre ++ blank b ∷ [] in
    let spaced = pre ++ glyph (0x20 ∷ []) false was ∷ [] in
    let c = length pre in
    let width = base.page.width in
    let other = saved_at base r width b in
    let size = length-append done (row_of spaced false ∷ below) in
    let prints = space_prints width pos in
    let m1 = mid base done below row false (pen_at r c was) in
    let m2 = mid base done below spaced false (pen_at r width was) in
    let m3 = mid base done below spaced false (pen_at r width b) in
    let m4 = mid other done below spaced false (pen_at r c b) in
    let m5 = mid other done below row false (pen_at r width b) in
    let m6 = mid other done below row false (pen_at r width was) in
    in_then May (Print (0x20 ∷ []) ∷ [])
    (attr_ops_in form was b ++ (SaveCursor ∷ back_op form r c ∷ EraseChars 1 ∷ RestoreCursor ∷ attr_ops_in form b was)) m1 m2 m6
    (in_to May (Print (0x20 ∷ []) ∷ []) m1 (mid base done below spaced false (pen_at r (c + 1) was)) m2
    (print_bare May Fixed base done below pre (0x20 ∷ []) false b was r prints e w h may)
    (ap (λ (z : ℕ). mid base done below spaced false (pen_at r z was)) w))
    (in_then May (attr_ops_in form was b) (SaveCursor ∷ back_op form r c ∷ EraseChars 1 ∷ RestoreCursor ∷ attr_ops_in form b was) m2 m3 m6
    (quiet_in May (attr_ops_in form was b) m2 m3 (changing_quiet form was b)
    (changing_draws form base (done ++ row_of spaced false ∷ below) (pen_at r width was) b))
    (in_then May (SaveCursor ∷ []) (back_op form r c ∷ EraseChars 1 ∷ RestoreCursor ∷ attr_ops_in form b was)
    m3 (mid other done below spaced false (pen_at r width b)) m6
    (quiet_in May (SaveCursor ∷ []) m3 (mid other done below spaced false (pen_at r width b)) (refl, tt) refl)
    (in_then May (back_op form r c ∷ []) (EraseChars 1 ∷ RestoreCursor ∷ attr_ops_in form b was)
    (mid other done below spaced false (pen_at r width b)) m4 m6
    (quiet_in May (back_op form r c ∷ []) (mid other done below spaced false (pen_at r width b)) m4 (back_quiet form r c)
    (subst (λ (z : ℕ). Draws (back_op form r c ∷ []) (mid other done below spaced false (pen_at r z b)) m4) w
    (back_draws form other (done ++ row_of spaced false ∷ below) r c b o (omega arith) (omega arith))))
    (in_then May (EraseChars 1 ∷ []) (RestoreCursor ∷ attr_ops_in form b was)
    m4 (mid other done below row false (pen_at r c b)) m6
    (erase_last May Fixed other done below pre (0x20 ∷ []) false was b false r e w h may)
    (in_then May (RestoreCursor ∷ []) (attr_ops_in form b was) (mid other done below row false (pen_at r c b)) m5 m6
    (quiet_in May (RestoreCursor ∷ []) (mid other done below row false (pen_at r c b)) m5 (refl, tt) refl)
    (quiet_in May (attr_ops_in form b was) m5 m6 (changing_quiet form b was)
    (changing_draws form other (done ++ row_of row false ∷ below) (pen_at r width b) was)))))))

pub over_blank_draws : (May : ℕ → ℕ → Type 0) (base : Canvas) (done below : List RowValue)
    (pre : List CellValue) (pen : Pen) (r height : ℕ) (b : Attrs) →
    Reads base height base.page.width → length done ≡ r → r + suc (length below) ≡ height →
    length pre + 1 ≡ base.page.width →
    Paired pre → Within pen height base.page.width → ((k : ℕ) → length pre ≤ k → k < base.page.width → May r k) →
    DrawsIn May (over_blank pen r base.page.width b) (mid base done below (pre ++ blank b ∷ []) false pen)
    (mid (saved_at base r base.page.width b) done below
    (pre ++ blank b ∷ []) false (pen_at r base.page.width pen.attrs))
unfolding over_blank
over_blank_draws May base done below pre pen r height b reads e rows w h within may =
    let row = pre ++ blank b ∷ [] in
    let width = base.page.width in
    let col : width - 1 ≡ length pre = omega arith in
    let m0 = mid base done below row false pen in
    let m1 = mid base done below row false (pen_at r (length pre) pen.attrs) in
    in_then May (move_ops pen r (width - 1)) (blank_passed pen.form r (width - 1) pen.attrs b) m0 m1
    (mid (saved_at base r width b) done below row false (pen_at r width pen.attrs))
    (in_to May (move_ops pen r (width - 1)) m0 (mid base done below row false (pen_at r (width - 1) pen.attrs)) m1
    (going_there May base done below row false r (width - 1) height pen reads e rows (omega arith) within)
    (ap (λ (z : ℕ). mid base done below row false (pen_at r z pen.attrs)) col))
    (subst (λ (k : ℕ). DrawsIn May (blank_passed pen.form r k pen.attrs b) m1
    (mid (saved_at base r width b) done below row false (pen_at r width pen.attrs))) (sym col)
    (blank_passed_draws May pen.form base done below pre r pen.attrs b reads.origin reads.has_columns e w h may))

-- If a row ends with a blank, the first column of its last cell is the column of that blank.
pub last_blank_column : (pre : List CellValue) (b : Attrs) → last_column (pre ++ blank b ∷ []) ≡ length pre
last_blank_column pre b =
    let n : length (pre ++ blank b ∷ []) ≡ length pre + 1 = length-append pre (blank b ∷ []) in
    let i : length pre + 1 - 1 ≡ length pre = omega arith in
    rw (n, i, get_or_at pre (blank b) [] default_blank (length pre) refl) refl

-- ---- the rule for the cursor

-- The operations draw the canvas `goal`, except for the saved state, and touch only positions for which `May` holds.
abbrev pub Puts : (ℕ → ℕ → Type 0) → List Op → (start goal : Canvas) → Type 0
Puts May ops start goal = (saved : Saved) × DrawsIn May ops start (with_saved saved goal)

abbrev pub saved_of : Canvas → Saved
saved_of canvas = record {
  row = canvas.page.saved_row;
  column = canvas.page.saved_column;
  origin = canvas.page.saved_origin;
  attrs = canvas.saved_attrs;
}

pub off : (wrapped : Bool) (cells : List CellValue) → Sound wrapped cells → ends cells ≡ true → wrapped ≡ false
off true cells h e = let k = h refl in absurd (cc)
off false cells h e = refl

-- A wrap is made pending at the end of a row that ends with a blank.
pending_over : (May : ℕ → ℕ → Type 0) (base : Canvas) (rows : List RowValue) (pen : Pen) (r height : ℕ) →
    Reads base height base.page.width → length rows ≡ height → AllByRecursion (Stands base.page.width) rows →
    r < height → Within pen height base.page.width → ends_blank (row_or base.page.width rows r).cells ≡ true →
    ((k : ℕ) → last_column (row_or base.page.width rows r).cells ≤ k → k < base.page.width → May r k) →
    Puts May (over_blank pen r base.page.width (attrs_of (at (row_or base.page.width rows r).cells (base.page.width - 1))))
    (at_pen base rows pen) (at_pen base rows (pen_at r base.page.width pen.attrs))
pending_over May base rows pen r height reads size all low within near may =
    let width = base.page.width in
    let d = blank_row default_attrs width in
    let x = row_or width rows r in
    let ok = all_row (Stands width) rows r d (omega arith) all in
    let columns = ok.columns in
    let pos = reads.has_columns in
    let v = split_row rows r d (omega arith) in
    let above = v.above in
    let size_v = ap length v.is ∙ length-append v.done (x ∷ v.below) in
    let full = sym (ends_is x.cells) ∙ near in
    let k = ends_in_blank x.cells ok.paired (omega arith) full in
    let b = k.attrs in
    let row = k.pre ++ blank b ∷ [] in
    let size_k = sym ok.columns ∙ (ap length k.is ∙ length-append k.pre (blank b ∷ [])) in
    let attrs : attrs_of (at x.cells (width - 1)) ≡ b =
    ap (λ (z : List CellValue). attrs_of (at z (width - 1))) k.is ∙ last_attrs k.pre b (width - 1) (omega arith) in
    let same : rows ≡ v.done ++ row_of row false ∷ v.below =
    v.is ∙ (ap (λ (z : List CellValue). v.done ++ row_of z x.wrapped ∷ v.below) k.is
    ∙ ap (λ (z : Bool). v.done ++ row_of row z ∷ v.below) (off x.wrapped x.cells ok.sound full)) in
    let goal = pen_at r width pen.attrs in
    let last : last_column x.cells ≡ length k.pre = ap last_column k.is ∙ last_blank_column k.pre b in (
      record { row = r; column = width; origin = base.page.origin; attrs = b },
      subst (λ (a : Attrs). DrawsIn May (over_blank pen r width a)
          (at_pen base rows pen) (at_pen (saved_at base r width b) rows goal))
          (sym attrs)
          (subst (λ (z : List RowValue). DrawsIn May (over_blank pen r width b)
          (at_pen base z pen) (at_pen (saved_at base r width b) z goal))
          (sym same)
          (over_blank_draws May base v.done v.below k.pre pen r height b reads v.above (omega arith)
          (omega arith) k.front within (λ j low high. may j (subst (λ (n : ℕ). n ≤ j) (sym last) low) high))),
    )

-- The operations that are chosen if line feeds must not follow a glyph belong to the portable form.
strays_portable : (form : Form) (shifted : Bool) → strays form shifted ≡ true → form ≡ Portable
strays_portable Fixed shifted t = absurd cc
strays_portable Portable shifted t = refl

pending_draws : (May : ℕ → ℕ → Type 0) (base : Canvas)
    (rows : List RowValue) (pen : Pen) (r height : ℕ) (found : Option ℕ) →
    Reads base height base.page.width → length rows ≡ height → AllByRecursion (Stands base.page.width) rows →
    AllByRecursion (PrintsRow base.page.width) rows →
    r < height → Within pen height base.page.width → NearestIs base.page.width rows r found →
    ((k : ℕ) → last_column (row_or base.page.width rows (placing_row found r)).cells ≤ k →
    k < base.page.width → May (placing_row found r) k) → (pen.form ≡ Portable → (k : ℕ) → May r k) →
    Puts May (pending_at found pen base.page.width rows r) (at_pen base rows pen)
    (at_pen base rows (pen_at r base.page.width pen.attrs))
pending_draws May base rows pen r height (Some i) reads size all prints low within near may any =
    let width = base.page.width in
    let cells = (row_or width rows i).cells in
    let shifted = (after_last_glyph i pen cells).pen.is_shifted in
    cond_both (strays pen.form shifted && nat_lt i r)
    (over_blank pen r width (attrs_of (at (row_or width rows r).cells (width - 1)))) (under_last pen i r cells)
    (λ (ops : List Op). Puts May ops (at_pen base rows pen) (at_pen base rows (pen_at r width pen.attrs)))
    (λ (t : (strays pen.form shifted && nat_lt i r) ≡ true).
    let both = and_parts (strays pen.form shifted) (nat_lt i r) t in
    pending_over May base rows pen r height reads size all low within (near.1.1 (ltb-true i r both.1))
    (λ k _ _. any (strays_portable pen.form shifted both.0) k))
    (λ _. (saved_of base, under_last_draws May base rows pen i r height reads size all prints near.0 low within near.1.0 may))
pending_draws May base rows pen r height None reads size all prints low within near may any =
    pending_over May base rows pen r height reads size all low within near may

pub cursor_draws : (May : ℕ → ℕ → Type 0) (base : Canvas) (rows : List RowValue) (pen : Pen) (r c height : ℕ) →
    Reads base height base.page.width → length rows ≡ height →
    AllByRecursion (Stands base.page.width) rows → AllByRecursion (PrintsRow base.page.width) rows →
    r < height → c ≤ base.page.width → Within pen height base.page.width →
    (c ≡ base.page.width → (k : ℕ) →
    last_column (row_or base.page.width rows (placing_row (nearest base.page.width rows r) r)).cells ≤ k →
    k < base.page.width → May (placing_row (nearest base.page.width rows r) r) k) →
    (c ≡ base.page.width → pen.form ≡ Portable → (k : ℕ) → May r k) →
    Puts May (cursor_written pen base.page.width rows r c)
    (at_pen base rows pen) (at_pen base rows (pen_at r c pen.attrs))
unfolding cursor_written
cursor_draws May base rows pen r c height reads size all prints low le within may any =
    let width = base.page.width in
    let start = at_pen base rows pen in
    let P : List Op → Type 0 = λ ops. Puts May ops start (at_pen base rows (pen_at r c pen.attrs)) in
    let rest = if is_at pen r c then [] else pending_at (nearest width rows r) pen width rows r in
    cond_both (nat_lt c width) (move_ops pen r c) rest P
    (λ (t : nat_lt c width ≡ true). (
      saved_of base,
      quiet_in May (move_ops pen r c) start (at_pen base rows (pen_at r c pen.attrs)) (going_quiet pen r c)
          (going_draws base rows pen r c height width reads size within low (ltb-true c width t)),
    ))
    (λ (f : nat_lt c width ≡ false). cond_both (is_at pen r c) [] (pending_at (nearest width rows r) pen width rows r) P
    (λ (t : is_at pen r c ≡ true).
    (saved_of base, record { draws = ap (λ (q : Pen). Some (at_pen base rows q)) (same_pen pen r c t); touches = tt }))
    (λ _.
    let whole : width ≡ c = grind (arith, nat_tests) in
    subst (λ (z : ℕ). Puts May (pending_at (nearest width rows r) pen width rows r)
    start (at_pen base rows (pen_at r z pen.attrs)))
    whole
    (pending_draws May base rows pen r height (nearest width rows r) reads
    size all prints low within (nearest_is width rows r) (may (sym whole)) (any (sym whole)))))
