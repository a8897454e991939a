-- Differences and redraws in the portable form are portable.
use Rattle.std.proofs.Common.{◌≡◌, ℕ, ◌-◌, Bool, false, List, []}
use Rattle.std.proofs.Common.{◌∷◌, ◌++◌, length, min, Some, refl, sym, ap, ◌∙◌, subst, arith}
use Rattle.std.specs.Prelude.{All, if◌then◌else◌}
use Rattle.std.specs.List.{AllByRecursion}
use Rattle.std.proofs.lemmas.Bool.{cond_both, le-ltb, lt-ltb}
use Rattle.std.proofs.lemmas.List.{length-replicate}
use Rattle.std.proofs.lemmas.List.Elements.{recursion_from_All}
use Rattle.vt_cells.specs.Attrs.{default_attrs, same_bool}
use Rattle.vt_cells.specs.Op.{Op, ClearAttrs, EraseBelow, Hide, MoveTo}
use Rattle.vt_rows.specs.Cells.{ends_blank}
use Rattle.vt_rows.specs.Row.{IsRow, blank_row}
use Rattle.vt_grid.specs.Canvas.{Canvas, canvas_after_op}
use Rattle.vt_grid.specs.Page.{IsPlainPage, Page, row_or}
use Rattle.vt_redraw.specs.Doubts.{Doubts, IsPlaced, NotPending, Pending, Unsure, doubts_of, no_doubts}
use Rattle.vt_redraw.specs.Picture.{IsPicture, Picture, SamePictureSize, picture_of}
use Rattle.vt_redraw.specs.Uses.{IsPortableOp, PortableOps, doubts_after_op}
use Rattle.vt_redraw.specs.Redraw.{cursor_visibility_ops, cursor_written, difference_in, pen_of}
use Rattle.vt_redraw.specs.Redraw.{blank_like, redraw_in, rows_written, script_in}
use Rattle.vt_redraw.specs.Script.{attr_ops_in}
use Rattle.vt_redraw.specs.Steady.{IsSteady, IsSteadyCell}
use Rattle.vt_redraw.specs.declared.form.Form.TheVariants.{Portable}
use Rattle.vt_grid.specs.Moves.{moved}
use Rattle.vt_grid.specs.declared.grid.moves.CursorMove.TheVariants.{To}
use Rattle.vt_redraw.proofs.Redrawing.{cleared, blank_is, clear_canvas}
use Rattle.vt_redraw.proofs.Difference.{any_rows, flags_end_of, hiding_draws, picture_prints, rows_stand}
use Rattle.vt_redraw.proofs.Fitting.{rows_form}
use Rattle.vt_redraw.proofs.PortableCursor.{cursor_finishes}
use Rattle.vt_redraw.proofs.PortableParts.{Known, placed_known}
use Rattle.vt_redraw.proofs.PortableRows.{rows_portably}
use Rattle.vt_redraw.proofs.PortableSteps.{Keeps, normal_apart, portable_then}
use Rattle.vt_redraw.proofs.Ranges.{Any}
use Rattle.vt_redraw.proofs.Rows.{rows_draw}
use Rattle.vt_redraw.proofs.Edits.{Reads, Within, at_pen}
use Rattle.vt_redraw.proofs.Touched.{some_same}

script_portable : (self : Picture) (base : Canvas) (doubts : Doubts) → IsPicture self → IsSteady self →
    IsPicture (picture_of base) → IsPlainPage base.page → SamePictureSize self (picture_of base) →
    Known (pen_of Portable (picture_of base)).is_shifted doubts base.page →
    PortableOps (script_in Portable self (picture_of base)) doubts base
unfolding script_in
script_portable self base doubts is steady other plain size known =
    let width = base.page.width in
    let height = length self.rows in
    let same = size.width in
    let tall = size.height in
    let bottom = plain.whole.1 in
    let row = other.cursor_row in
    let reads : Reads base height width =
    record {
      bottom = omega (arith, bottom, tall);
      origin = plain.origin;
      wide = refl;
      has_columns = other.has_columns;
    } in
    let pen = pen_of Portable (picture_of base) in
    let start : Within pen height width = record { row = omega (arith, row, tall); col = other.cursor_column } in
    let self_rows : AllByRecursion (IsRow width) self.rows =
    subst (λ (w : ℕ). AllByRecursion (IsRow w) self.rows) same
    (recursion_from_All (IsRow self.width) self.rows is.rows) in
    let steady_rows : AllByRecursion (λ row. All (IsSteadyCell width) row.cells) self.rows =
    subst (λ (w : ℕ). AllByRecursion (λ row. All (IsSteadyCell w) row.cells) self.rows) same
    (recursion_from_All (λ row. All (IsSteadyCell self.width) row.cells) self.rows steady) in
    let stand = rows_stand width self.rows self_rows in
    let prints = picture_prints width self.rows other.has_columns self_rows steady_rows in
    let was = rows_stand width base.page.rows (recursion_from_All (IsRow width) base.page.rows other.rows) in
    let falls = flags_end_of self.width self.rows is.last in
    let w = rows_written pen self.rows base.page.rows in
    let drawn = rows_draw Any base self.rows base.page.rows height pen reads refl (sym tall) stand was prints falls
    start
    (any_rows width self.rows base.page.rows) in
    let one = rows_portably base self.rows base.page.rows height pen refl reads refl (sym tall) stand was prints falls
    start
    doubts known in
    let form = rows_form pen self.rows base.page.rows in
    let finish = cursor_finishes base self.rows w.pen self.row self.column height one.left form reads refl stand prints
    is.cursor_row drawn.within one.known self.attrs in
    portable_then w.ops
    (cursor_written w.pen self.width self.rows self.row self.column ++ attr_ops_in Portable w.pen.attrs self.attrs)
    doubts one.left
    base (at_pen base self.rows w.pen) one.portable drawn.draws.draws one.leaves
    (subst (λ (z : ℕ). PortableOps
    (cursor_written w.pen z self.rows self.row self.column ++ attr_ops_in Portable w.pen.attrs self.attrs) one.left
    (at_pen base self.rows w.pen)) (sym same) finish)

-- What is known of terminals that display a picture.
known_start : (any : Canvas) → Known (pen_of Portable (picture_of any)).is_shifted (doubts_of (picture_of any)) any.page
unfolding doubts_of
known_start any =
    let ending = if ends_blank (row_or any.page.width any.page.rows any.page.row).cells then Unsure else Pending in
    record {
      place = λ f. f;
      inside = λ h. ap (λ (b : Bool). if b then NotPending else ending) (lt-ltb any.page.column any.page.width h);
      behind = λ h full.
          ap (λ (b : Bool). if b then NotPending else ending) (le-ltb any.page.column any.page.width h)
          ∙ ap (λ (b : Bool). if b then Unsure else Pending) full;
    }

hiding_keeps : (self : Picture) (any : Canvas) (doubts : Doubts) →
    Keeps (cursor_visibility_ops self (picture_of any)) doubts any
hiding_keeps self any doubts =
    cond_both (same_bool self.hidden any.hidden) [] (Hide self.hidden ∷ []) (λ (ops : List Op). Keeps ops doubts any)
    (λ _. record { left = doubts; wrap = refl; place = refl; portable = tt; leaves = refl })
    (λ _. record {
      left = record doubts { is_after_character = false };
      wrap = refl;
      place = refl;
      portable = (tt, λ next e. tt);
      leaves = λ next e. refl;
    })

-- The difference in the portable form is portable on every plain canvas that displays `prev`, whose terminals differ at
-- most as they may while they display `prev`.
pub difference_portable : (self prev : Picture) (any : Canvas) → IsPicture self → IsSteady self →
    IsPicture prev → SamePictureSize self prev → IsPlainPage any.page → picture_of any ≡ prev →
    PortableOps (difference_in Portable self prev) (doubts_of prev) any
unfolding difference_in script_in
difference_portable self prev any is steady other size plain e =
    let base = record any { hidden = self.hidden } in
    let shows = sym e in
    let was = subst IsPicture shows other in
    let sizes = subst (SamePictureSize self) shows size in
    let start = known_start any in
    let hides = hiding_keeps self any (doubts_of (picture_of any)) in
    let known : Known (pen_of Portable (picture_of base)).is_shifted hides.left base.page = record {
      place = λ f. hides.place ∙ start.place f;
      inside = λ h. hides.wrap ∙ start.inside h;
      behind = λ h full. hides.wrap ∙ start.behind h full;
    } in
    let rest = script_portable self base hides.left is steady
    (record {
      has_columns = was.has_columns;
      cursor_row = was.cursor_row;
      cursor_column = was.cursor_column;
      rows = was.rows;
      last = was.last;
    })
    plain (record { width = sizes.width; height = sizes.height }) known in
    subst (λ (p : Picture). PortableOps (cursor_visibility_ops self p ++ script_in Portable self p) (doubts_of p) any) e
    (portable_then (cursor_visibility_ops self (picture_of any)) (script_in Portable self (picture_of any))
    (doubts_of (picture_of any)) hides.left any base hides.portable (hiding_draws self any) hides.leaves
    rest)

-- An operation, and the operations after it.
then_portable : (op : Op) (ops : List Op) (doubts : Doubts) (a b : Canvas) → canvas_after_op op a ≡ Some b →
    IsPortableOp op doubts a → PortableOps ops (doubts_after_op op doubts a) b → PortableOps (op ∷ ops) doubts a
then_portable op ops doubts a b e p h = (
  p,
  λ next f. subst (λ (k : Canvas). PortableOps ops (doubts_after_op op doubts a) k) (some_same b next (sym e ∙ f)) h,
)

-- The redraw in the portable form is portable on every plain canvas of the picture's size, whatever its terminals differ
-- in.
pub redraw_portable : (self : Picture) (any : Canvas) (doubts : Doubts) → IsPicture self → IsSteady self →
    IsPicture (picture_of any) → IsPlainPage any.page → SamePictureSize self (picture_of any) →
    PortableOps (redraw_in Portable self) doubts any
unfolding redraw_in
redraw_portable self any doubts is steady other plain size =
    let base = clear_canvas self any in
    let height = length self.rows in
    let same = size.width in
    let tall = size.height in
    let whole = plain.whole.1 in
    let l = length-replicate height (blank_row default_attrs self.width) in
    let shows : picture_of base ≡ blank_like self = ap (λ (w : ℕ). record (blank_like self) { width = w }) (sym same) in
    let blank : IsPicture (picture_of base) = subst IsPicture (sym shows) (blank_is self is) in
    let hidden = record any { hidden = self.hidden } in
    let plainly = record hidden { attrs = default_attrs } in
    let home = record plainly { page = moved (To 0 0) any.page } in
    let last = other.cursor_row in
    let clear = cleared any.page height self.width other.has_columns (omega (arith, last)) other.rows plain.origin (sym
    same)
    (sym tall) in
    let placed : IsPlaced no_doubts = record { wrap = refl; place = refl } in
    let script = script_portable self base no_doubts is steady blank
    (record { whole = (plain.whole.0, omega (arith, whole, tall, l)); origin = plain.origin })
    (record { width = same; height = sym l })
    (placed_known (pen_of Portable (picture_of base)).is_shifted no_doubts base.page placed other.has_columns) in
    let rest : PortableOps (script_in Portable self (blank_like self)) no_doubts base =
    subst (λ (p : Picture). PortableOps (script_in Portable self p) no_doubts base) shows script in
    let ops = script_in Portable self (blank_like self) in
    then_portable (Hide self.hidden) (ClearAttrs ∷ MoveTo 0 0 ∷ EraseBelow ∷ ops) doubts any hidden refl tt
    (then_portable ClearAttrs (MoveTo 0 0 ∷ EraseBelow ∷ ops) (record doubts { is_after_character = false }) hidden
    plainly refl
    (normal_apart any.attrs.intensity, tt)
    (then_portable (MoveTo 0 0) (EraseBelow ∷ ops) (record doubts { is_after_character = false }) plainly home refl tt
    (then_portable EraseBelow ops no_doubts home base
    (ap (λ (page : Page). Some (record plainly { page = page })) clear) (placed, home_first any plain.origin) rest)))
  where
    home_first : (any : Canvas) → any.page.origin ≡ false →
        ((moved (To 0 0) any.page).row ≡ 0) × ((moved (To 0 0) any.page).column ≡ 0)
    home_first any o =
        let top : min 0 (length any.page.rows - 1) ≡ 0 = omega arith in
        let first : min 0 (any.page.width - 1) ≡ 0 = omega arith in
        rw (o, top, first) (refl, refl)
