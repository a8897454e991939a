-- The whole script is tidy: rows, cursor and attributes.
use Rattle.std.proofs.Common.{◌≡◌, ℕ, ◌+◌, ◌≤◌, ◌&&◌, nat_lt, Bool, true, false, List, [], ◌∷◌, ◌++◌, length, refl, inl}
use Rattle.std.proofs.Common.{inr, not, sym, ap, subst, ◌∙◌, arith}
use Rattle.std.specs.Prelude.{All}
use Rattle.std.specs.List.{AllByRecursion}
use Rattle.std.proofs.lemmas.Bool.{and_right, cond_both}
use Rattle.std.proofs.lemmas.List.Elements.{recursion_from_All}
use Rattle.vt_cells.specs.Attrs.{default_attrs, same_bool}
use Rattle.vt_cells.specs.Cell.{CellValue, blank, glyph, right_half, text_of}
use Rattle.vt_cells.specs.Op.{Op, Hide}
use Rattle.vt_rows.specs.Cells.{ends_blank}
use Rattle.vt_rows.specs.Row.{IsRow, RowValue, blank_row}
use Rattle.vt_grid.specs.Canvas.{Canvas}
use Rattle.vt_grid.specs.Page.{IsPlainPage, row_or}
use Rattle.vt_redraw.specs.Doubts.{ends_uncertain, is_past_uncertain, doubts_of}
use Rattle.vt_redraw.specs.Picture.{IsPicture, Picture, SamePictureSize, picture_of}
use Rattle.vt_redraw.specs.Redraw.{cursor_visibility_ops, cursor_written, difference_in, pen_of, rows_written}
use Rattle.vt_redraw.specs.Redraw.{script_in}
use Rattle.vt_redraw.specs.Script.{shifts, attr_ops_in, last_glyph}
use Rattle.vt_redraw.specs.Steady.{IsSteady, IsSteadyCell}
use Rattle.vt_redraw.specs.declared.form.Form.TheVariants.{Portable}
use Rattle.vt_redraw.proofs.Cursor.{all_row}
use Rattle.vt_redraw.proofs.Difference.{any_rows, flags_end_of, hiding_draws, picture_prints, rows_stand}
use Rattle.vt_redraw.proofs.Edits.{Reads, Within, at_pen}
use Rattle.vt_redraw.proofs.Halves.{Paired, ends_is}
use Rattle.vt_redraw.proofs.Places.{PrintsCells}
use Rattle.vt_redraw.proofs.Ranges.{Any}
use Rattle.vt_redraw.proofs.Rows.{PrintsRow, Stands, rows_draw}
use Rattle.vt_terminals.specs.Room.{CellHasRoom, CellsHaveRoom, HasRoom, RowsHaveRoom, IsFirstCertain}
use Rattle.vt_terminals.specs.Terminal.{Positions}
use Rattle.vt_terminals.proofs.Agrees.{TidyTo, nowhere}
use Rattle.vt_terminals.proofs.Flags.{attr_shift, shifts_all, shifts_then}
use Rattle.vt_terminals.proofs.TidyCursor.{then_still, fine_at, cursor_tidy, cursor_shift}
use Rattle.vt_terminals.proofs.TidyGlyphs.{Fine, FineCell}
use Rattle.vt_terminals.proofs.TidyParts.{AllStill, changing_still, still_tidy, tidy_then}
use Rattle.vt_terminals.proofs.TidyPens.{FirstOne, Flat, last_one, one_of}
use Rattle.vt_terminals.proofs.TidyRows.{FineRows, rows_tidy}

-- ==== The script

fine_cells : (near : Positions) (width r c : ℕ) (xs : List CellValue) → PrintsCells width xs →
    CellsHaveRoom near width r c xs → Fine near width r c xs
fine_cells near width r c [] prints fine = tt
fine_cells near width r c (blank a ∷ xs) prints fine = (tt, fine_cells near width r (c + 1) xs prints.1 fine.1)
fine_cells near width r c (right_half ∷ xs) prints fine = (tt, fine_cells near width r (c + 1) xs prints.1 fine.1)
fine_cells near width r c (glyph text wide a ∷ xs) prints fine =
    (by_case fine.0, fine_cells near width r (c + 1) xs prints.1 fine.1)
  where
    by_case : CellHasRoom near width r c (glyph text wide a) → FineCell near width r c (glyph text wide a)
    by_case (inl certain) = inl (one_of width text wide prints.0 certain)
    by_case (inr fits) = inr fits

fine_first : (width : ℕ) (xs : List CellValue) → PrintsCells width xs → IsFirstCertain xs → FirstOne xs
fine_first width [] prints first = tt
fine_first width (blank a ∷ xs) prints first = tt
fine_first width (right_half ∷ xs) prints first = tt
fine_first width (glyph text wide a ∷ xs) prints first = one_of width text wide prints.0 first

fine_rows : (near : Positions) (width r : ℕ) (wrapped : Bool) (rows : List RowValue) →
    AllByRecursion (PrintsRow width) rows →
    RowsHaveRoom near width r wrapped rows → FineRows near width r wrapped rows
fine_rows near width r wrapped [] prints fine = tt
fine_rows near width r wrapped (row ∷ rows) prints fine = (
  λ w. fine_first width row.cells prints.0 (fine.0 w),
  (
    fine_cells near width r 0 row.cells prints.0 fine.1.0,
    fine_rows near width (r + 1) row.wrapped rows prints.1
        fine.1.1,
  ),
)

script_tidy : (near : Positions) (self : Picture) (base : Canvas) → IsPicture self → IsSteady self → HasRoom near self →
    IsPicture (picture_of base) → IsPlainPage base.page → SamePictureSize self (picture_of base) →
    Flat base.page.width (pen_of Portable (picture_of base)) →
    TidyTo near (script_in Portable self (picture_of base)) nowhere base nowhere
unfolding script_in
script_tidy near self base is steady certain other plain size flat =
    let width = base.page.width in
    let height = length self.rows in
    let same = size.width in
    let tall = size.height in
    let bottom = plain.whole.1 in
    let row = other.cursor_row in
    let reads : Reads base height width =
    record {
      bottom = omega (arith, bottom, tall);
      origin = plain.origin;
      wide = refl;
      has_columns = other.has_columns;
    } in
    let pen = pen_of Portable (picture_of base) in
    let start : Within pen height width = record { row = omega (arith, row, tall); col = other.cursor_column } in
    let self_rows : AllByRecursion (IsRow width) self.rows =
    subst (λ (w : ℕ). AllByRecursion (IsRow w) self.rows) same
    (recursion_from_All (IsRow self.width) self.rows is.rows) in
    let steady_rows : AllByRecursion (λ row. All (IsSteadyCell width) row.cells) self.rows =
    subst (λ (w : ℕ). AllByRecursion (λ row. All (IsSteadyCell w) row.cells) self.rows) same
    (recursion_from_All (λ row. All (IsSteadyCell self.width) row.cells) self.rows steady) in
    let stand = rows_stand width self.rows self_rows in
    let prints = picture_prints width self.rows other.has_columns self_rows steady_rows in
    let ones = fine_rows near width 0 false self.rows prints
    (subst (λ (w : ℕ). RowsHaveRoom near w 0 false self.rows) same certain) in
    let was = rows_stand width base.page.rows (recursion_from_All (IsRow width) base.page.rows other.rows) in
    let falls = flags_end_of self.width self.rows is.last in
    let w = rows_written pen self.rows base.page.rows in
    let drawn = rows_draw Any base self.rows base.page.rows height pen reads refl (sym tall) stand was prints falls
    start
    (any_rows width self.rows base.page.rows) in
    let one = rows_tidy near base self.rows base.page.rows height pen flat reads refl (sym tall) stand was prints ones
    falls
    start in
    let finish = cursor_tidy near base self.rows w.pen self.row self.column height reads refl stand ones is.cursor_row
    drawn.within in
    tidy_then near w.ops
    (cursor_written w.pen self.width self.rows self.row self.column ++ attr_ops_in Portable w.pen.attrs self.attrs)
    nowhere nowhere nowhere
    base (at_pen base self.rows w.pen) one.0 drawn.draws.draws
    (subst (λ (z : ℕ). TidyTo near
    (cursor_written w.pen z self.rows self.row self.column ++ attr_ops_in Portable w.pen.attrs self.attrs) nowhere
    (at_pen base self.rows w.pen) nowhere) (sym same)
    (then_still near (cursor_written w.pen width self.rows self.row self.column)
    (attr_ops_in Portable w.pen.attrs self.attrs)
    nowhere (at_pen base self.rows w.pen) nowhere finish (changing_still Portable w.pen.attrs self.attrs)))

script_shift : (near : Positions) (self : Picture) (base : Canvas) → IsPicture self → IsSteady self →
    HasRoom near self →
    IsPicture (picture_of base) → IsPlainPage base.page → SamePictureSize self (picture_of base) →
    Flat base.page.width (pen_of Portable (picture_of base)) →
    shifts_all (script_in Portable self (picture_of base)) (pen_of Portable (picture_of base)).is_shifted ≡ false
unfolding script_in
script_shift near self base is steady certain other plain size flat =
    let width = base.page.width in
    let height = length self.rows in
    let same = size.width in
    let tall = size.height in
    let bottom = plain.whole.1 in
    let last = is.cursor_column in
    let column : self.column ≤ width = omega (arith, last, same) in
    let row = other.cursor_row in
    let reads : Reads base height width =
    record {
      bottom = omega (arith, bottom, tall);
      origin = plain.origin;
      wide = refl;
      has_columns = other.has_columns;
    } in
    let pen = pen_of Portable (picture_of base) in
    let start : Within pen height width = record { row = omega (arith, row, tall); col = other.cursor_column } in
    let self_rows : AllByRecursion (IsRow width) self.rows =
    subst (λ (w : ℕ). AllByRecursion (IsRow w) self.rows) same
    (recursion_from_All (IsRow self.width) self.rows is.rows) in
    let steady_rows : AllByRecursion (λ row. All (IsSteadyCell width) row.cells) self.rows =
    subst (λ (w : ℕ). AllByRecursion (λ row. All (IsSteadyCell w) row.cells) self.rows) same
    (recursion_from_All (λ row. All (IsSteadyCell self.width) row.cells) self.rows steady) in
    let stand = rows_stand width self.rows self_rows in
    let prints = picture_prints width self.rows other.has_columns self_rows steady_rows in
    let ones = fine_rows near width 0 false self.rows prints
    (subst (λ (w : ℕ). RowsHaveRoom near w 0 false self.rows) same certain) in
    let was = rows_stand width base.page.rows (recursion_from_All (IsRow width) base.page.rows other.rows) in
    let falls = flags_end_of self.width self.rows is.last in
    let w = rows_written pen self.rows base.page.rows in
    let drawn = rows_draw Any base self.rows base.page.rows height pen reads refl (sym tall) stand was prints falls
    start
    (any_rows width self.rows base.page.rows) in
    let one = rows_tidy near base self.rows base.page.rows height pen flat reads refl (sym tall) stand was prints ones
    falls
    start in
    let track = one.1.1 refl in
    let finish = cursor_shift near base self.rows w.pen self.row self.column height track.form one.1.0 refl stand ones
    is.cursor_row column in
    shifts_then w.ops
    (cursor_written w.pen self.width self.rows self.row self.column ++ attr_ops_in Portable w.pen.attrs self.attrs)
    pen.is_shifted w.pen.is_shifted false track.flag
    (shifts_then (cursor_written w.pen self.width self.rows self.row self.column)
    (attr_ops_in Portable w.pen.attrs self.attrs) w.pen.is_shifted false false
    (subst (λ (z : ℕ). shifts_all (cursor_written w.pen z self.rows self.row self.column) w.pen.is_shifted ≡ false)
    (sym same) finish) (attr_shift Portable w.pen.attrs self.attrs false))

hiding_still : (self prev : Picture) → AllStill (cursor_visibility_ops self prev)
hiding_still self prev =
    cond_both (same_bool self.hidden prev.hidden) [] (Hide self.hidden ∷ []) AllStill (λ _. tt) (λ _. (refl, tt))

-- The portable difference to a picture of certain glyphs is tidy on every plain canvas that displays `prev`, unless a
-- wrap is pending there after a glyph of uncertain width.
pub difference_tidy : (near : Positions) (self prev : Picture) (any : Canvas) → IsPicture self → IsSteady self →
    HasRoom near self →
    IsPicture prev → SamePictureSize self prev → IsPlainPage any.page → picture_of any ≡ prev →
    Flat prev.width (pen_of Portable prev) →
    TidyTo near (difference_in Portable self prev) nowhere any nowhere
unfolding difference_in script_in
difference_tidy near self prev any is steady certain other size plain e flat =
    let base = record any { hidden = self.hidden } in
    let shows = sym e in
    let was = subst IsPicture shows other in
    let sizes = subst (SamePictureSize self) shows size in
    let unshifted = subst (λ (p : Picture). Flat p.width (pen_of Portable p)) shows flat in
    let rest = script_tidy near self base is steady certain
    (record {
      has_columns = was.has_columns;
      cursor_row = was.cursor_row;
      cursor_column = was.cursor_column;
      rows = was.rows;
      last = was.last;
    })
    plain (record { width = sizes.width; height = sizes.height }) unshifted in
    subst (λ (p : Picture). TidyTo near (cursor_visibility_ops self p ++ script_in Portable self p) nowhere any nowhere)
    e
    (tidy_then near (cursor_visibility_ops self (picture_of any)) (script_in Portable self (picture_of any)) nowhere
    nowhere
    nowhere any base
    (still_tidy near (cursor_visibility_ops self (picture_of any)) nowhere any (hiding_still self (picture_of any)))
    (hiding_draws self any) rest)

hiding_shift : (self prev : Picture) (b : Bool) → shifts_all (cursor_visibility_ops self prev) b ≡ b
hiding_shift self prev b =
    cond_both (same_bool self.hidden prev.hidden) [] (Hide self.hidden ∷ []) (λ (ops : List Op). shifts_all ops b ≡ b)
    (λ _. refl) (λ _. refl)

-- After the portable difference, terminals agree on where the cursor is, except perhaps on a pending wrap.
pub difference_shift : (near : Positions) (self prev : Picture) (any : Canvas) → IsPicture self → IsSteady self →
    HasRoom near self → IsPicture prev → SamePictureSize self prev → IsPlainPage any.page → picture_of any ≡ prev →
    Flat prev.width (pen_of Portable prev) →
    shifts_all (difference_in Portable self prev) (doubts_of prev).is_shifted ≡ false
unfolding difference_in script_in doubts_of
difference_shift near self prev any is steady certain other size plain e flat =
    let base = record any { hidden = self.hidden } in
    let shows = sym e in
    let was = subst IsPicture shows other in
    let sizes = subst (SamePictureSize self) shows size in
    let unshifted = subst (λ (p : Picture). Flat p.width (pen_of Portable p)) shows flat in
    let rest = script_shift near self base is steady certain
    (record {
      has_columns = was.has_columns;
      cursor_row = was.cursor_row;
      cursor_column = was.cursor_column;
      rows = was.rows;
      last = was.last;
    })
    plain (record { width = sizes.width; height = sizes.height }) unshifted in
    subst (λ (p : Picture). shifts_all (cursor_visibility_ops self p ++ script_in Portable self p)
    (pen_of Portable p).is_shifted ≡ false) e
    (shifts_then (cursor_visibility_ops self (picture_of any)) (script_in Portable self (picture_of any))
    (pen_of Portable (picture_of any)).is_shifted (pen_of Portable (picture_of any)).is_shifted false
    (hiding_shift self (picture_of any) (pen_of Portable (picture_of any)).is_shifted) rest)

-- Terminals that display a picture whose glyphs have room agree on where the cursor is, except perhaps on a pending
-- wrap.
pub placed_alike : (near : Positions) (self : Picture) → IsPicture self → IsSteady self → HasRoom near self →
    (pen_of Portable self).is_shifted ≡ false
unfolding is_past_uncertain
placed_alike near self is steady room =
    let width = self.width in
    let rows = recursion_from_All (IsRow width) self.rows is.rows in
    let prints = picture_prints width self.rows is.has_columns rows
    (recursion_from_All (λ row. All (IsSteadyCell width) row.cells) self.rows steady) in
    let ones = fine_rows near width 0 false self.rows prints room in
    let stands = all_row (Stands width) self.rows self.row (blank_row default_attrs width) is.cursor_row
    (rows_stand width self.rows rows) in
    let cells = (row_or width self.rows self.row).cells in
    let one : Fine near width self.row 0 cells = subst (λ (z : ℕ). Fine near width z 0 cells) (omega arith)
    (fine_at near width 0 false self.rows self.row ones is.cursor_row) in
    and_right (not (nat_lt self.column width)) (ends_uncertain cells)
    (by_end cells stands.paired one stands.columns (ends_blank cells) refl)
  where
    by_end : (cells : List CellValue) → Paired cells → Fine near self.width self.row 0 cells →
        length cells ≡ self.width → (b : Bool) → ends_blank cells ≡ b → ends_uncertain cells ≡ false
    by_end cells paired one columns true e =
        ap (λ (b : Bool). not b && shifts Portable (text_of (last_glyph cells))) e
    by_end cells paired one columns false e =
        and_right (not (ends_blank cells)) (shifts Portable (text_of (last_glyph cells)))
        (last_one near self.width self.row Portable cells paired (sym (ends_is cells) ∙ e) one columns)
