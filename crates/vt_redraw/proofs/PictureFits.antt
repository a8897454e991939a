-- The operations of redraws, differences and items are read back unchanged.
use Rattle.std.proofs.Common.{◌≡◌, ℕ, zero, suc, ◌-◌, ◌<◌, ◌≤◌, ◌^◌, ◌&&◌, nat_lt, true, List, [], ◌∷◌, ◌++◌, length}
use Rattle.std.proofs.Common.{replicate, Option, Some, None, arith, Bool, false, subst, sym, not, take, drop, refl}
use Rattle.std.specs.Prelude.{All, if◌then◌else◌}
use Rattle.std.specs.List.{AllByRecursion}
use Rattle.std.proofs.lemmas.Bool.{cond_both, ltb-true}
use Rattle.std.proofs.lemmas.List.Elements.{recursion_from_All}
use Rattle.std.proofs.lemmas.List.{length-replicate, length-take, length-drop}
use Rattle.vt_cells.specs.Attrs.{default_attrs, same_bool}
use Rattle.vt_cells.specs.Cell.{IsCell, default_blank, attrs_of, text_of, CellValue, blank, glyph, right_half}
use Rattle.vt_cells.specs.Op.{Hide, MoveTo, LineFeed, Backspace, EraseChars, SaveCursor, RestoreCursor, Print}
use Rattle.vt_cells.specs.Op.{FitsAttrs}
use Rattle.vt_rows.specs.Cells.{at, ends_blank, blanks}
use Rattle.vt_rows.specs.Row.{RowValue, IsRow, blank_row}
use Rattle.vt_grid.specs.Page.{row_or}
use Rattle.vt_redraw.specs.Fits.{Fits}
use Rattle.vt_redraw.specs.Script.{move_ops, attr_ops, attr_ops_in, back_op, last_column, last_glyph, after_last_glyph}
use Rattle.vt_redraw.specs.Script.{is_at, Scripted, cells_written, first_written, ops_then, pen_at, row_break}
use Rattle.vt_redraw.specs.declared.form.Form.{Form}
use Rattle.vt_redraw.specs.declared.form.Form.TheVariants.{Fixed}
use Rattle.vt_redraw.specs.declared.pen.Pen.{Pen}
use Rattle.vt_redraw.specs.Picture.{Picture, IsPicture, IsColoredPicture}
use Rattle.vt_redraw.specs.Redraw.{rows_written, nearest, over_blank, script_in, under_last, pending_at, cursor_written}
use Rattle.vt_redraw.specs.Redraw.{pen_of, cursor_visibility_ops, difference_in, difference, blank_like, redraw}
use Rattle.vt_redraw.specs.Redraw.{pending_alone, cursor_state, redraw_in, strays}
use Rattle.vt_redraw.specs.Items.{in_range, with_whole_start, with_whole_start_over, range_written, is_whole}
use Rattle.vt_redraw.specs.Items.{item_of_difference, item_of_redraw, linked_item}
use Rattle.vt_redraw.proofs.Fitting.{AllFit, fits_append, going_fits, changing_fits, back_fits, counted, feeds_fit}
use Rattle.vt_redraw.proofs.Fitting.{space_fits, all_fit, at_fits, text_fits, last_low, after_fits, IsFitRow}
use Rattle.vt_redraw.proofs.Fitting.{IsCountedRow, rows_fit, IsFit, FitsWritten, fits_after, cells_fit, IsCounted}
use Rattle.vt_redraw.proofs.Fitting.{broken_fits, first_fits, first_form}

-- ==== Each operation of a redraw or a difference has only numbers and text that are read back unchanged.

-- ---- the cursor

pub row_at_fits : (width : ℕ) (rows : List RowValue) (r : ℕ) →
    AllByRecursion (IsFitRow width) rows → r < length rows → IsFitRow width (row_or width rows r)
row_at_fits width [] r h lt = absurd (omega arith)
row_at_fits width (x ∷ xs) zero h lt = h.0
row_at_fits width (x ∷ xs) (suc r) h lt = row_at_fits width xs r h.1 (omega arith)

abbrev Below : ℕ → Option ℕ → Type 0
Below n None = Unit {0}
Below n (Some i) = i ≤ n

below_more : (n : ℕ) (found : Option ℕ) → Below n found → Below (suc n) found
below_more n None h = tt
below_more n (Some i) h = omega arith

nearest_below : (width : ℕ) (rows : List RowValue) (n : ℕ) → Below n (nearest width rows n)
nearest_below width rows zero =
    cond_both (ends_blank (row_or width rows 0).cells) None (Some 0) (Below 0) (λ _. tt) (λ _. omega arith)
nearest_below width rows (suc n) =
    cond_both (ends_blank (row_or width rows (suc n)).cells) (nearest width rows n) (Some (suc n))
    (Below (suc n)) (λ _. below_more n (nearest width rows n) (nearest_below width rows n)) (λ _. omega arith)

over_fits : (pen : Pen) (width : ℕ) (rows : List RowValue) (r : ℕ) → r < length rows → length rows < 2 ^ 16 → 0 < width →
    width < 2 ^ 16 → FitsAttrs pen.attrs → AllByRecursion (IsFitRow width) rows →
    AllFit (over_blank pen r width (attrs_of (at (row_or width rows r).cells (width - 1))))
unfolding over_blank
over_fits pen width rows r lt h some l was fit =
    let row = row_at_fits width rows r fit lt in
    let last = at_fits (row_or width rows r).cells (width - 1) row.cells in
    let b = attrs_of (at (row_or width rows r).cells (width - 1)) in
    fits_append (move_ops pen r (width - 1))
    (Print (0x20 ∷ [])
    ∷ (attr_ops_in pen.form pen.attrs b ++ (SaveCursor ∷ back_op pen.form r (width - 1) ∷ EraseChars 1 ∷ RestoreCursor ∷ attr_ops_in pen.form b pen.attrs)))
    (going_fits pen r (width - 1) (omega arith) (omega arith)) (
      space_fits,
      fits_append (attr_ops_in pen.form pen.attrs b) (SaveCursor ∷ back_op pen.form r (width - 1) ∷ EraseChars 1 ∷ RestoreCursor ∷ attr_ops_in pen.form b pen.attrs)
          (changing_fits pen.form pen.attrs b was last.1)
          (tt, (back_fits pen.form r (width - 1) (omega arith) (omega arith), (omega arith, (tt, changing_fits pen.form b pen.attrs last.1 was)))),
    )

pending_fits : (found : Option ℕ) (pen : Pen) (width : ℕ) (rows : List RowValue) (r : ℕ) →
    Below r found → r < length rows → length rows < 2 ^ 16 → 0 < width →
    width < 2 ^ 16 → FitsAttrs pen.attrs → AllByRecursion (IsFitRow width) rows →
    AllFit (pending_at found pen width rows r)
unfolding over_blank under_last
pending_fits None pen width rows r near lt h some l was fit = over_fits pen width rows r lt h some l was fit
pending_fits (Some i) pen width rows r near lt h some l was fit =
    let row = row_at_fits width rows i fit (omega arith) in
    let columns = row.columns in
    let cells = (row_or width rows i).cells in
    let w = after_last_glyph i pen cells in
    let one = after_fits i pen cells (omega arith) (omega arith) (omega arith) was row.cells in
    cond_both (strays pen.form w.pen.is_shifted && nat_lt i r)
    (over_blank pen r width (attrs_of (at (row_or width rows r).cells (width - 1)))) (under_last pen i r cells) AllFit
    (λ _. over_fits pen width rows r lt h some l was fit)
    (λ _. fits_append w.ops (attr_ops_in pen.form w.pen.attrs pen.attrs ++ replicate (r - i) LineFeed) one.ops
    (fits_append (attr_ops_in pen.form w.pen.attrs pen.attrs) (replicate (r - i) LineFeed)
    (changing_fits pen.form w.pen.attrs pen.attrs one.attrs was) (feeds_fit (r - i))))

cursor_fits : (pen : Pen) (width : ℕ) (rows : List RowValue) (r c : ℕ) → r < length rows →
    length rows < 2 ^ 16 → 0 < width → width < 2 ^ 16 → FitsAttrs pen.attrs →
    AllByRecursion (IsFitRow width) rows → AllFit (cursor_written pen width rows r c)
unfolding cursor_written
cursor_fits pen width rows r c lt h some l was fit =
    cond_both (nat_lt c width) (move_ops pen r c)
    (if is_at pen r c then [] else pending_at (nearest width rows r) pen width rows r) AllFit
    (λ (t : nat_lt c width ≡ true). let low = ltb-true c width t in going_fits pen r c (omega arith) (omega arith))
    (λ _. cond_both (is_at pen r c) [] (pending_at (nearest width rows r) pen width rows r) AllFit (λ _. tt)
    (λ _. pending_fits (nearest width rows r) pen width rows r (nearest_below width rows r) lt h some l was fit))

-- ---- whole pictures

fit_rows : (width : ℕ) (rows : List RowValue) → AllByRecursion (IsRow width) rows →
    AllByRecursion (λ row. All (λ cell. FitsAttrs (attrs_of cell)) row.cells) rows →
    AllByRecursion (IsFitRow width) rows
fit_rows width [] is colors = tt
fit_rows width (row ∷ rows) is colors = (
  record {
    columns = is.0.columns;
    cells =
        all_fit row.cells (recursion_from_All IsCell row.cells is.0.sound)
        (recursion_from_All (λ cell. FitsAttrs (attrs_of cell)) row.cells colors.0);
  },
  fit_rows width rows is.1 colors.1,
)

pub picture_fits : (self : Picture) → IsPicture self →
    IsColoredPicture self → AllByRecursion (IsFitRow self.width) self.rows
picture_fits self is colors =
    fit_rows self.width self.rows (recursion_from_All (IsRow self.width) self.rows is.rows)
    (recursion_from_All (λ row. All (λ cell. FitsAttrs (attrs_of cell)) row.cells) self.rows colors.cells)

-- The columns of valid rows are counted.
pub rows_counted : (form : Form) (width : ℕ) (rows : List RowValue) → All (IsRow width) rows → width < 2 ^ 16 →
    AllByRecursion (IsCountedRow form) rows
rows_counted form width all_rows are small =
    by_rows all_rows (recursion_from_All (IsRow width) all_rows are) where
      by_rows : (rows : List RowValue) → AllByRecursion (IsRow width) rows → AllByRecursion (IsCountedRow form) rows
      by_rows [] all = tt
      by_rows (row ∷ rows) all =
          let columns = all.0.columns in (
            counted form (length row.cells) (omega (arith, columns, small)),
            by_rows rows all.1,
          )

script_fits : (form : Form) (self prev : Picture) → IsPicture self →
    IsColoredPicture self → FitsAttrs prev.attrs → AllByRecursion (IsCountedRow form) prev.rows →
    AllFit (script_in form self prev)
unfolding script_in
script_fits form self prev is colors was short =
    let w = rows_written (pen_of form prev) self.rows prev.rows in
    let fit = picture_fits self is colors in
    let rows =
    rows_fit self.width (pen_of form prev) self.rows prev.rows colors.height is.has_columns colors.columns was fit short in
    fits_append w.ops
    (cursor_written w.pen self.width self.rows self.row self.column ++ attr_ops_in form w.pen.attrs self.attrs) rows.ops
    (fits_append (cursor_written w.pen self.width self.rows self.row self.column) (attr_ops_in form w.pen.attrs self.attrs)
    (cursor_fits w.pen self.width self.rows self.row self.column
    is.cursor_row colors.height is.has_columns colors.columns rows.attrs fit)
    (changing_fits form w.pen.attrs self.attrs rows.attrs colors.attrs))

pub difference_fits_in : (form : Form) (self prev : Picture) → IsPicture self → IsColoredPicture self →
    FitsAttrs prev.attrs → AllByRecursion (IsCountedRow form) prev.rows → AllByRecursion Fits (difference_in form self prev)
unfolding difference_in
difference_fits_in form self prev is colors was short =
    fits_append (cursor_visibility_ops self prev) (script_in form self prev)
    (cond_both (same_bool self.hidden prev.hidden) [] (Hide self.hidden ∷ []) AllFit (λ _. tt) (λ _. (tt, tt)))
    (script_fits form self prev is colors was short)

pub difference_fits : (self prev : Picture) → IsPicture self → IsColoredPicture self →
    FitsAttrs prev.attrs → AllByRecursion Fits (difference self prev)
difference_fits self prev is colors was =
    difference_fits_in Fixed self prev is colors was (uncounted prev.rows) where
      uncounted : (rows : List RowValue) → AllByRecursion (IsCountedRow Fixed) rows
      uncounted [] = tt
      uncounted (row ∷ rows) = (tt, uncounted rows)

pub redraw_fits_in : (form : Form) (self : Picture) → IsPicture self → IsColoredPicture self →
    AllByRecursion Fits (redraw_in form self)
unfolding redraw_in
redraw_fits_in form self is colors = (
  tt,
  (
    tt,
    (
      (omega arith, omega arith),
      (
        tt,
        script_fits form self (blank_like self) is colors (tt, tt)
            (blanks_counted (length self.rows)),
      ),
    ),
  ),
)
  where
    blanks_counted : (n : ℕ) → AllByRecursion (IsCountedRow form) (replicate n (blank_row default_attrs self.width))
    blanks_counted zero = tt
    blanks_counted (suc n) =
        let columns = length-replicate self.width default_blank in
        let wide = colors.columns in (
          counted form (length (blank_row default_attrs self.width).cells) (omega (arith, columns, wide)),
          blanks_counted n,
        )

pub redraw_fits : (self : Picture) → IsPicture self → IsColoredPicture self → AllByRecursion Fits (redraw self)
redraw_fits = redraw_fits_in Fixed

-- ---- the cursor alone

alone_fits : (found : Option ℕ) (width : ℕ) (rows : List RowValue) (r : ℕ) →
    Below r found → r < length rows → length rows < 2 ^ 16 → 0 < width → width < 2 ^ 16 →
    AllByRecursion (IsFitRow width) rows → AllFit (pending_alone found width rows r)
alone_fits None width rows r near lt h some l fit =
    let row = row_at_fits width rows r fit lt in
    let last = at_fits (row_or width rows r).cells (width - 1) row.cells in
    let b = attrs_of (at (row_or width rows r).cells (width - 1)) in
    let plain : FitsAttrs default_attrs = (tt, tt) in (
      (omega arith, omega arith),
      (
        space_fits,
        fits_append (attr_ops default_attrs b)
            (SaveCursor ∷ Backspace ∷ EraseChars 1 ∷ RestoreCursor ∷ attr_ops b default_attrs)
            (changing_fits Fixed default_attrs b plain last.1)
            (tt, (tt, (omega arith, (tt, changing_fits Fixed b default_attrs last.1 plain)))),
      ),
    )
alone_fits (Some i) width rows r near lt h some l fit =
    let row = row_at_fits width rows i fit (omega arith) in
    let columns = row.columns in
    let cells = (row_or width rows i).cells in
    let last = at_fits cells (last_column cells) row.cells in
    let a = attrs_of (last_glyph cells) in
    let plain : FitsAttrs default_attrs = (tt, tt) in (
      (omega arith, last_low cells (omega arith) (omega arith)),
      fits_append (attr_ops default_attrs a)
          (Print (text_of (last_glyph cells)) ∷ (attr_ops a default_attrs ++ replicate (r - i) LineFeed))
          (changing_fits Fixed default_attrs a plain last.1) (
            text_fits (last_glyph cells) last.0,
            fits_append (attr_ops a default_attrs) (replicate (r - i) LineFeed)
                (changing_fits Fixed a default_attrs last.1 plain) (feeds_fit (r - i)),
          ),
    )

pub cursor_state_fits : (self : Picture) → IsPicture self →
    IsColoredPicture self → AllByRecursion Fits (cursor_state self)
unfolding cursor_state
cursor_state_fits self is colors =
    let fit = picture_fits self is colors in
    let row = is.cursor_row in
    let tall = colors.height in
    let wide = colors.columns in
    let alone = pending_alone (nearest self.width self.rows self.row) self.width self.rows self.row in (
      tt,
      cond_both (nat_lt self.column self.width) (MoveTo self.row self.column ∷ []) alone AllFit
          (λ (t : nat_lt self.column self.width ≡ true). let low =
          ltb-true self.column self.width t in ((omega arith, omega arith), tt))
          (λ _. alone_fits (nearest self.width self.rows self.row) self.width
          self.rows self.row (nearest_below self.width self.rows self.row)
          is.cursor_row colors.height is.has_columns colors.columns fit),
    )

-- ==== Each operation of a row's item has only numbers and text that are read back unchanged.

plain : FitsAttrs default_attrs
plain = (tt, tt)

take_fits : (n : ℕ) (xs : List CellValue) → AllByRecursion IsFit xs → AllByRecursion IsFit (take n xs)
take_fits zero xs h = tt
take_fits (suc n) [] h = tt
take_fits (suc n) (x ∷ xs) h = (h.0, take_fits n xs h.1)

drop_fits : (n : ℕ) (xs : List CellValue) → AllByRecursion IsFit xs → AllByRecursion IsFit (drop n xs)
drop_fits zero xs h = h
drop_fits (suc n) [] h = tt
drop_fits (suc n) (x ∷ xs) h = drop_fits n xs h.1

begun_fits : (xs : List CellValue) → AllByRecursion IsFit xs → AllByRecursion IsFit (with_whole_start xs)
begun_fits [] h = tt
begun_fits (right_half ∷ xs) h = ((tt, plain), h.1)
begun_fits (blank a ∷ xs) h = h
begun_fits (glyph text wide a ∷ xs) h = h

begun_length : (xs : List CellValue) → length (with_whole_start xs) ≡ length xs
begun_length [] = refl
begun_length (right_half ∷ xs) = refl
begun_length (blank a ∷ xs) = refl
begun_length (glyph text wide a ∷ xs) = refl

range_fits : (r start stop width : ℕ) (wrapped : Bool) (x : RowValue) (ys : List CellValue) → r < 65535 → start ≤ stop →
    stop ≤ width → width < 2 ^ 16 → IsFitRow width x → FitsWritten (range_written r start stop wrapped x.cells ys)
range_fits r start stop width wrapped x ys low le inside small fit =
    let xs = x.cells in
    let e = fit.columns in
    let l = length-drop start xs in
    let m = length-take (stop - start) (drop start xs) in
    let n = begun_length (in_range start stop xs) in
    cells_fit r start (pen_at r start default_attrs) wrapped 0 (with_whole_start (in_range start stop xs))
    (with_whole_start_over (in_range start stop xs) (drop start ys)) low (omega arith) tt plain
    (begun_fits (in_range start stop xs) (take_fits (stop - start) (drop start xs) (drop_fits start xs fit.cells)))

item_fits : (r start stop width : ℕ) (x y : RowValue) → r < 65535 → start ≤ stop → stop ≤ width →
    0 < width → width < 2 ^ 16 → IsFitRow width x → FitsWritten (item_of_difference r start stop x y)
item_fits r start stop width x y low le inside some small fit =
    let e = fit.columns in
    let w = range_written r start stop y.wrapped x.cells y.cells in
    let b = row_break r w.pen w.wrapped x.wrapped x.cells in
    let full = ops_then w.ops b in
    let g = after_last_glyph r full.pen x.cells in
    let one = range_fits r start stop width y.wrapped x y.cells low le inside small fit in
    let two = broken_fits r w.pen w.wrapped x.wrapped x.cells low (omega arith) (omega arith) one.attrs fit.cells in
    let both = fits_after w.ops b one.ops two in
    let three = after_fits r full.pen x.cells low (omega arith) (omega arith) both.attrs fit.cells in
    cond_both (is_whole start stop (length x.cells)) _ w FitsWritten
    (λ _. cond_both (x.wrapped && not full.wrapped)
    (record { ops = full.ops ++ g.ops; pen = g.pen; wrapped = full.wrapped }) full FitsWritten
    (λ _. record { ops = fits_append full.ops g.ops both.ops three.ops; attrs = three.attrs }) (λ _. both))
    (λ _. one)

linked_fits : (r width : ℕ) (x : RowValue) → r < 65535 → width < 2 ^ 16 →
    IsFitRow width x → FitsWritten (linked_item r x.cells)
linked_fits r width x low small fit =
    let ys = blanks default_attrs (length x.cells) in
    let e = fit.columns in
    let first = first_written r (pen_at r 0 default_attrs) false x.cells ys in
    let one = first_fits r (pen_at r 0 default_attrs) false x.cells ys low plain fit.cells in
    fits_after first.ops (cells_written r 0 first.pen first.wrapped first.settled x.cells ys) one.ops
    (cells_fit r 0 first.pen first.wrapped first.settled x.cells ys low (omega arith)
    (subst (λ (f : Form). IsCounted f (length ys)) (sym (first_form r (pen_at r 0 default_attrs) false x.cells ys)) tt) one.attrs fit.cells)

pub difference_item_fits : (self : Picture) (r start stop : ℕ) (y : RowValue) → IsPicture self →
    IsColoredPicture self → r < length self.rows → start ≤ stop → stop ≤ self.width →
    AllByRecursion Fits (item_of_difference r start stop (row_or self.width self.rows r) y).ops
difference_item_fits self r start stop y is colors low le inside =
    let tall = colors.height in
    let fit = row_at_fits self.width self.rows r (picture_fits self is colors) low in
    (item_fits r start stop self.width (row_or self.width self.rows r)
    y (omega arith) le inside is.has_columns colors.columns fit).ops

pub redraw_item_fits : (self : Picture) (r start stop : ℕ) (is_linked : Bool) → IsPicture self →
    IsColoredPicture self → r < length self.rows → start ≤ stop → stop ≤ self.width →
    AllByRecursion Fits (item_of_redraw r start stop is_linked (row_or self.width self.rows r)).ops
redraw_item_fits self r start stop is_linked is colors low le inside =
    let tall = colors.height in
    let x = row_or self.width self.rows r in
    let fit = row_at_fits self.width self.rows r (picture_fits self is colors) low in
    cond_both (is_whole start stop (length x.cells) && is_linked)
    (linked_item r x.cells) _ (λ (w : Scripted). AllByRecursion Fits w.ops)
    (λ _. (linked_fits r self.width x (omega arith) colors.columns fit).ops)
    (λ _.
    (range_fits r start stop self.width false x (blanks default_attrs (length x.cells))
    (omega arith) le inside colors.columns fit).ops)
