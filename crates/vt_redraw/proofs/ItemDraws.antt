-- Drawing a row's item on a canvas that is ready for it changes only the cells in the range and possibly the row's
-- wrapped flag.
use Rattle.std.proofs.Common.{◌≡◌, ℕ, ◌+◌, ◌<◌, ◌≤◌, ◌==◌, ◌&&◌, Bool, true, false, List, [], ◌∷◌, ◌++◌}
use Rattle.std.proofs.Common.{length, take, drop, Some, refl, sym, ap, ◌∙◌, subst, append_assoc, arith}
use Rattle.std.specs.Prelude.{All, slice_index_or, slice_set}
use Rattle.std.specs.List.{AllByRecursion}
use Rattle.std.proofs.lemmas.Bool.{and_parts, cond_both, eqb-true}
use Rattle.std.proofs.lemmas.Bool.Decides.{nat_tests}
use Rattle.std.proofs.lemmas.List.{drop_more, set_at, length-take, length-append}
use Rattle.std.proofs.lemmas.List.{length-drop, length-replicate, take-append-drop}
use Rattle.std.proofs.lemmas.List.Elements.{recursion_from_All, All-from_recursion}
use Rattle.vt_cells.specs.Attrs.{default_attrs, Attrs}
use Rattle.vt_cells.specs.Cell.{CellValue, default_blank}
use Rattle.vt_cells.specs.Op.{Op}
use Rattle.vt_rows.specs.Cells.{at, blanks, ends_blank}
use Rattle.vt_rows.specs.Row.{RowValue, IsRow, blank_row}
use Rattle.vt_grid.specs.Page.{row_at, row_or}
use Rattle.vt_grid.specs.Canvas.{Canvas, drawn_all}
use Rattle.vt_grid.proofs.Texts.{Draws}
use Rattle.vt_redraw.specs.Items.{range_written, is_whole, item_of_difference, item_of_redraw, linked_item, with_range}
use Rattle.vt_redraw.specs.Items.{CutsNone, AwaitsItem, changed_row, formatted_row, row_drawn, going_on}
use Rattle.vt_redraw.specs.Picture.{Picture, IsPicture}
use Rattle.vt_redraw.specs.Script.{Scripted, pen_at}
use Rattle.vt_redraw.specs.Steady.{IsSteady, IsSteadyCell}
use Rattle.vt_redraw.specs.declared.pen.Pen.{Pen}
use Rattle.vt_redraw.proofs.Difference.{row_stands, picture_prints}
use Rattle.vt_redraw.proofs.Edits.{row_of, mid, two, Reads}
use Rattle.vt_redraw.proofs.Halves.{ends_is, paired_of}
use Rattle.vt_redraw.proofs.Places.{PrintsCells}
use Rattle.vt_redraw.proofs.Ranges.{IsItem, range_draws}
use Rattle.vt_redraw.proofs.Rows.{PrintsRow}
use Rattle.vt_redraw.proofs.WholeItems.{whole_item_draws, linked_item_draws, linked_item_wraps, range_all}
use Rattle.vt_redraw.proofs.ItemRanges.{clean_range, cuts_no_blanks, past_half, first_half, cells_off, linked_off}

-- ---- one row among others

rows_split : (rows : List RowValue) (r : ℕ) (d : RowValue) → r < length rows →
    take r rows ++ (slice_index_or rows r d ∷ drop (r + 1) rows) ≡ rows
rows_split rows r d h =
    ap (λ (z : List RowValue). take r rows ++ z) (sym (drop_more rows r d h)) ∙ take-append-drop r rows

-- The canvas has the row `y` at index r and is ready to draw an item of that row.
record Stood (self : Picture) (r start : ℕ) (y : RowValue) (any : Canvas) : Type 0 where
  inside : r < length any.page.rows
  reads : Reads any (length any.page.rows) any.page.width
  splits : take r any.page.rows ++ y ∷ drop (r + 1) any.page.rows ≡ any.page.rows
  begins : mid any (take r any.page.rows) (drop (r + 1) any.page.rows) y.cells y.wrapped (pen_at r start default_attrs)
      ≡ any
  row : IsRow any.page.width y
  self_row : IsRow any.page.width (row_or self.width self.rows r)
  prints : PrintsCells any.page.width (row_or self.width self.rows r).cells

awaited : (any : Canvas) (rows : List RowValue) (r c : ℕ) → rows ≡ any.page.rows →
    any.page.row ≡ r → any.page.column ≡ c → any.attrs ≡ default_attrs →
    record any { page = record (any.page) { rows = rows; row = r; column = c }; attrs = default_attrs } ≡ any
awaited any rows r c e f g h =
    ap (λ (z : List RowValue). record any
    { page = record (any.page) { rows = z; row = r; column = c }; attrs = default_attrs })
    e
    ∙ (ap (λ (z : ℕ). record any { page = record (any.page) { row = z; column = c }; attrs = default_attrs }) (sym f)
    ∙ (ap (λ (z : ℕ). record any { page = record (any.page) { column = z }; attrs = default_attrs }) (sym g)
    ∙ ap (λ (z : Attrs). record any { attrs = z }) (sym h)))

stood : (self : Picture) (r start : ℕ) (y : RowValue) (any : Canvas) → IsPicture self →
    IsSteady self → AwaitsItem self r start y any → Stood self r start y any
stood self r start y any is steady item =
    let width = any.page.width in
    let rows = any.page.rows in
    let same = item.size.width in
    let tall = item.size.height in
    let here = item.row in
    let low = item.is.cursor_row in
    let inside : r < length rows = omega arith in
    let d = blank_row default_attrs width in
    let splits =
    ap (λ (row : RowValue). take r rows ++ row ∷ drop (r + 1) rows) (sym item.stands) ∙ rows_split rows r d inside in
    let is_rows : AllByRecursion (IsRow width) self.rows =
    subst (λ (w : ℕ). AllByRecursion (IsRow w) self.rows) same
    (recursion_from_All (IsRow self.width) self.rows is.rows) in
    let steady_rows : AllByRecursion (λ row. All (IsSteadyCell width) row.cells) self.rows =
    subst (λ (w : ℕ). AllByRecursion (λ row. All (IsSteadyCell w) row.cells) self.rows) same
    (recursion_from_All (λ row. All (IsSteadyCell self.width) row.cells) self.rows steady) in
    let x = row_or self.width self.rows r in
    record {
      inside = inside;
      reads = record {
        bottom = item.plain.whole.1;
        origin = item.plain.origin;
        wide = refl;
        has_columns = item.is.has_columns;
      };
      splits = splits;
      begins = awaited any (take r rows ++ y ∷ drop (r + 1) rows) r start splits item.row item.column item.attrs;
      row = subst (IsRow width) item.stands (item.is.rows r d inside);
      self_row = subst (λ (w : ℕ). IsRow w x) same (is.rows r (blank_row default_attrs self.width) (omega arith));
      prints =
          All-from_recursion (PrintsRow width) self.rows
          (picture_prints width self.rows item.is.has_columns is_rows steady_rows)
          r (blank_row default_attrs self.width) (omega arith);
    }

-- Operations that change the cells of one row draw the canvas with that row replaced.
drawn_in : (self : Picture) (r start : ℕ) (y : RowValue) (any : Canvas)
    (ops : List Op) (cells : List CellValue) (wrapped : Bool) (pen : Pen) →
    Stood self r start y any →
    Draws ops
    (mid any (take r any.page.rows) (drop (r + 1) any.page.rows) y.cells y.wrapped (pen_at r start default_attrs))
    (mid any (take r any.page.rows) (drop (r + 1) any.page.rows) cells wrapped pen) →
    drawn_all ops any ≡ Some (row_drawn r (row_of cells wrapped) pen any)
drawn_in self r start y any ops cells wrapped pen at draws =
    let rows = any.page.rows in
    let inside = at.inside in
    let l = length-take r rows in
    let n : length (take r rows) ≡ r = omega arith in
    let put : slice_set rows r (row_of cells wrapped) ≡ take r rows ++ row_of cells wrapped ∷ drop (r + 1) rows =
    ap (λ (z : List RowValue). slice_set z r (row_of cells wrapped)) (sym at.splits)
    ∙ set_at (take r rows) y (drop (r + 1) rows) (row_of cells wrapped) r n in
    ap (drawn_all ops) (sym at.begins) ∙ (draws
    ∙ ap (λ (z : List RowValue). Some
    (record any { page = record (any.page) { rows = z; row = pen.row; column = pen.col }; attrs = pen.attrs }))
    (sym put))

-- ---- items of a difference

-- The item gives row r the given cells; besides, only the wrapped flag, the cursor and the attributes change.
abbrev DrawsItem : Scripted → Canvas → ℕ → List CellValue → Type 0
DrawsItem w any r cells =
    drawn_all w.ops any ≡ Some (row_drawn r (record { cells = cells; wrapped = w.wrapped }) w.pen any)

-- The preconditions of an item hold in the form that the lemmas on rows need.
item_of : (self : Picture) (r start stop : ℕ) (y : RowValue) (any : Canvas) →
    Stood self r start y any → start ≤ stop → stop ≤ any.page.width →
    CutsNone start stop (row_or self.width self.rows r).cells → CutsNone start stop y.cells →
    IsItem any (take r any.page.rows) (drop (r + 1) any.page.rows) r start
    stop (length any.page.rows) (row_or self.width self.rows r).cells y.cells
item_of self r start stop y any at le low cx cy =
    let x = row_or self.width self.rows r in
    let rows = any.page.rows in
    let inside = at.inside in
    let l = length-take r rows in
    let m = length-drop (r + 1) rows in
    record {
      reads = at.reads;
      above = omega arith;
      rows = omega arith;
      self = at.self_row.columns;
      other = at.row.columns;
      nonempty = le;
      inside = low;
      prints = at.prints;
      clean =
          clean_range start stop x.cells y.cells le
          (paired_of x.cells at.self_row.paired) (paired_of y.cells at.row.paired) cx cy;
    }

range_drawn : (self : Picture) (r start stop : ℕ) (y : RowValue) (any : Canvas) →
    Stood self r start y any → start ≤ stop → stop ≤ any.page.width →
    CutsNone start stop (row_or self.width self.rows r).cells → CutsNone start stop y.cells →
    DrawsItem (range_written r start stop y.wrapped (row_or self.width self.rows r).cells y.cells)
    any r (with_range start stop (row_or self.width self.rows r).cells y.cells)
range_drawn self r start stop y any at le low cx cy =
    let x = row_or self.width self.rows r in
    let rows = any.page.rows in
    let w = range_written r start stop y.wrapped x.cells y.cells in
    let drew = range_draws any (take r rows) (drop (r + 1) rows) r start stop (length rows) y.wrapped x.cells
    y.cells (item_of self r start stop y any at le low cx cy) (row_stands any.page.width y at.row).sound in
    drawn_in self r start y any w.ops (with_range start stop x.cells y.cells) w.wrapped w.pen at drew.draws.draws

whole_drawn : (self : Picture) (r : ℕ) (y : RowValue) (any : Canvas) → Stood self r 0 y any →
    DrawsItem (item_of_difference r 0 any.page.width (row_or self.width self.rows r) y)
    any r (with_range 0 any.page.width (row_or self.width self.rows r).cells y.cells)
whole_drawn self r y any at =
    let x = row_or self.width self.rows r in
    let rows = any.page.rows in
    let width = any.page.width in
    let px = paired_of x.cells at.self_row.paired in
    let py = paired_of y.cells at.row.paired in
    let ex = at.self_row.columns in
    let ey = at.row.columns in
    let cx : CutsNone 0 width x.cells = (first_half x.cells px, past_half x.cells width (omega arith)) in
    let cy : CutsNone 0 width y.cells = (first_half y.cells py, past_half y.cells width (omega arith)) in
    let w = item_of_difference r 0 width x y in
    let drew = whole_item_draws any (take r rows) (drop (r + 1) rows) r (length rows)
    x y (item_of self r 0 width y any at (omega arith) (omega arith) cx cy)
    (row_stands width x at.self_row) (row_stands width y at.row) in
    subst (DrawsItem w any r) (sym (range_all x.cells y.cells width ex ey))
    (drawn_in self r 0 y any w.ops x.cells w.wrapped w.pen at drew.draws)

pub difference_item_draws : (self : Picture) (r start stop : ℕ) (y : RowValue) (any : Canvas) →
    IsPicture self → IsSteady self → AwaitsItem self r start y any → start ≤ stop → stop ≤ self.width →
    CutsNone start stop (row_or self.width self.rows r).cells → CutsNone start stop y.cells →
    drawn_all (item_of_difference r start stop (row_or self.width self.rows r) y).ops any
    ≡ Some (row_drawn r (changed_row r start stop (row_or self.width self.rows r) y)
    (item_of_difference r start stop (row_or self.width self.rows r) y).pen any)
difference_item_draws self r start stop y any is steady item le low cx cy =
    let x = row_or self.width self.rows r in
    let at = stood self r start y any is steady item in
    let same = item.size.width in
    let ex = at.self_row.columns in
    let range = range_written r start stop y.wrapped x.cells y.cells in
    by_test (is_whole start stop (length x.cells)) refl at (omega arith) (omega arith)
  where
    Goal : Scripted → Type 0
    Goal w = DrawsItem w any r (with_range start stop (row_or self.width self.rows r).cells y.cells)

    by_test : (t : Bool) → is_whole start stop (length (row_or self.width self.rows r).cells) ≡ t →
        Stood self r start y any → stop ≤ any.page.width →
        length (row_or self.width self.rows r).cells ≡ any.page.width →
        Goal (item_of_difference r start stop (row_or self.width self.rows r) y)
    by_test true t at in_width ex =
        let both = and_parts (start == 0) (stop == length (row_or self.width self.rows r).cells) t in
        let e = eqb-true start 0 both.0 in
        let f = eqb-true stop (length (row_or self.width self.rows r).cells) both.1 ∙ ex in
        subst (λ (n : ℕ). DrawsItem (item_of_difference r n stop (row_or self.width self.rows r) y)
        any r (with_range n stop (row_or self.width self.rows r).cells y.cells))
        (sym e)
        (subst (λ (n : ℕ). DrawsItem (item_of_difference r 0 n (row_or self.width self.rows r) y)
        any r (with_range 0 n (row_or self.width self.rows r).cells y.cells))
        (sym f)
        (whole_drawn self r y any (subst (λ (n : ℕ). Stood self r n y any) e at)))
    by_test false t at in_width ex = rw t (range_drawn self r start stop y any at le in_width cx cy)

-- ---- items of a redraw

-- The item of a redraw gives row r the given cells and leaves it unwrapped.
abbrev DrawsOff : Scripted → Canvas → ℕ → List CellValue → Type 0
DrawsOff w any r cells = drawn_all w.ops any ≡ Some (row_drawn r (record { cells = cells; wrapped = false }) w.pen any)

turned_off : (w : Scripted) (any : Canvas) (r : ℕ) (cells : List CellValue) →
    w.wrapped ≡ false → DrawsItem w any r cells → DrawsOff w any r cells
turned_off w any r cells off h =
    h ∙ ap (λ (b : Bool). Some (row_drawn r (record { cells = cells; wrapped = b }) w.pen any)) off

linked_drawn : (self : Picture) (r : ℕ) (any : Canvas) →
    Stood self r 0 (blank_row default_attrs self.width) any → self.width ≡ any.page.width →
    DrawsItem (linked_item r (row_or self.width self.rows r).cells) any r (row_or self.width self.rows r).cells
linked_drawn self r any at same =
    let x = row_or self.width self.rows r in
    let rows = any.page.rows in
    let width = any.page.width in
    let w = linked_item r x.cells in
    let inside = at.inside in
    let l = length-take r rows in
    let m = length-drop (r + 1) rows in
    let ex = at.self_row.columns in
    let drew = linked_item_draws any (take r rows) (drop (r + 1) rows) x.cells r (length rows)
    at.reads (omega arith) (omega arith) ex (paired_of x.cells at.self_row.paired) at.prints in
    let e : length x.cells ≡ self.width = ex ∙ sym same in
    drawn_in self r 0 (blank_row default_attrs self.width) any w.ops x.cells w.wrapped w.pen at
    (subst (λ (n : ℕ). Draws w.ops
    (mid any (take r rows) (drop (r + 1) rows) (blanks default_attrs n) false (pen_at r 0 default_attrs))
    (mid any (take r rows) (drop (r + 1) rows) x.cells w.wrapped w.pen))
    e drew)

range_off : (r start stop : ℕ) (xs ys : List CellValue) → (range_written r start stop false xs ys).wrapped ≡ false
range_off r start stop xs ys = cells_off r start (pen_at r start default_attrs) 0 _ _

pub redraw_item_draws : (self : Picture) (r start stop : ℕ) (is_linked : Bool) (any : Canvas) →
    IsPicture self → IsSteady self → AwaitsItem self r start (blank_row default_attrs self.width) any →
    start ≤ stop → stop ≤ self.width →
    CutsNone start stop (row_or self.width self.rows r).cells →
    drawn_all (item_of_redraw r start stop is_linked (row_or self.width self.rows r)).ops any
    ≡ Some (row_drawn r (formatted_row start stop self.width (row_or self.width self.rows r))
    (item_of_redraw r start stop is_linked (row_or self.width self.rows r)).pen any)
redraw_item_draws self r start stop is_linked any is steady item le low cx =
    let x = row_or self.width self.rows r in
    let at = stood self r start (blank_row default_attrs self.width) any is steady item in
    let same = item.size.width in
    let ex = at.self_row.columns in
    let e : length x.cells ≡ self.width = ex ∙ sym same in
    let range = range_written r start stop false x.cells (blanks default_attrs (length x.cells)) in
    let drawn : DrawsItem range any r (with_range start stop x.cells (blanks default_attrs self.width)) =
    subst (λ (n : ℕ). DrawsItem (range_written r start stop false x.cells (blanks default_attrs n))
    any r (with_range start stop x.cells (blanks default_attrs self.width)))
    (sym e)
    (range_drawn self r start stop (blank_row default_attrs self.width)
    any at le (omega arith) cx (cuts_no_blanks start stop self.width)) in
    cond_both (is_whole start stop (length x.cells) && is_linked) (linked_item r x.cells) range
    (λ (w : Scripted). DrawsOff w any r (with_range start stop x.cells (blanks default_attrs self.width)))
    (λ (t : (is_whole start stop (length x.cells) && is_linked) ≡ true).
    let both =
    and_parts (start == 0) (stop == length x.cells) (and_parts (is_whole start stop (length x.cells)) is_linked t).0 in
    let b = eqb-true start 0 both.0 in
    let f = eqb-true stop (length x.cells) both.1 ∙ e in
    let l = length-replicate self.width default_blank in
    let all : with_range start stop x.cells (blanks default_attrs self.width) ≡ x.cells =
    ap (λ (n : ℕ). with_range n stop x.cells (blanks default_attrs self.width)) b
    ∙ (ap (λ (n : ℕ). with_range 0 n x.cells (blanks default_attrs self.width)) f
    ∙ range_all x.cells (blanks default_attrs self.width) self.width e l) in
    subst (DrawsOff (linked_item r x.cells) any r) (sym all)
    (turned_off (linked_item r x.cells) any r x.cells (linked_off r x.cells)
    (linked_drawn self r any (subst (λ (n : ℕ). Stood self r n (blank_row default_attrs self.width) any) b at) same)))
    (λ _. turned_off range any r (with_range start stop x.cells (blanks default_attrs self.width))
    (range_off r start stop x.cells (blanks default_attrs (length x.cells))) drawn)

-- ---- drawing with a wrap pending in the row above

two_split : (rows : List RowValue) (r : ℕ) (d above y : RowValue) → r + 1 < length rows →
    slice_index_or rows r d ≡ above → slice_index_or rows (r + 1) d ≡ y →
    take r rows ++ (above ∷ y ∷ drop (r + 1 + 1) rows) ≡ rows
two_split rows r d above y h e f =
    ap (λ (row : RowValue). take r rows ++ (row ∷ y ∷ drop (r + 1 + 1) rows)) (sym e)
    ∙ (ap (λ (row : RowValue). take r rows ++ (slice_index_or rows r d ∷ row ∷ drop (r + 1 + 1) rows)) (sym f)
    ∙ (ap (λ (z : List RowValue). take r rows ++ (slice_index_or rows r d ∷ z)) (sym (drop_more rows (r + 1) d h))
    ∙ rows_split rows r d (omega arith)))

-- Setting a row and then the row below it replaces both rows in the list.
two_set : (rows done below : List RowValue) (above y linked new : RowValue) (r : ℕ) →
    done ++ (above ∷ y ∷ below) ≡ rows → length done ≡ r →
    slice_set (slice_set rows r linked) (r + 1) new ≡ done ++ (linked ∷ new ∷ below)
two_set rows done below above y linked new r e n =
    let l = length-append done (linked ∷ []) in
    let m : length (done ++ linked ∷ []) ≡ r + 1 = omega arith in
    ap (λ (z : List RowValue). slice_set (slice_set z r linked) (r + 1) new) (sym e)
    ∙ (ap (λ (z : List RowValue). slice_set z (r + 1) new) (set_at done above (y ∷ below) linked r n)
    ∙ (ap (λ (z : List RowValue). slice_set z (r + 1) new) (sym (append_assoc done (linked ∷ []) (y ∷ below)))
    ∙ (set_at (done ++ linked ∷ []) y below new (r + 1) m
    ∙ append_assoc done (linked ∷ []) (new ∷ below))))

pub redraw_item_wraps : (self : Picture) (r : ℕ) (above : RowValue) (any : Canvas) → IsPicture self →
    IsSteady self → AwaitsItem self r self.width above any → ends_blank above.cells ≡ false →
    r + 1 < length self.rows → row_at any.page (r + 1) ≡ blank_row default_attrs self.width →
    drawn_all (item_of_redraw (r + 1) 0 self.width true (row_or self.width self.rows (r + 1))).ops any
    ≡ Some (row_drawn (r + 1) (formatted_row 0 self.width self.width (row_or self.width self.rows (r + 1)))
    (item_of_redraw (r + 1) 0 self.width true (row_or self.width self.rows (r + 1))).pen (going_on r any))
redraw_item_wraps self r above any is steady item full inside under =
    let width = any.page.width in
    let rows = any.page.rows in
    let same = item.size.width in
    let tall = item.size.height in
    let low : r + 1 < length rows = omega arith in
    let x = row_or self.width self.rows (r + 1) in
    let d = blank_row default_attrs width in
    let is_rows : AllByRecursion (IsRow width) self.rows =
    subst (λ (w : ℕ). AllByRecursion (IsRow w) self.rows) same
    (recursion_from_All (IsRow self.width) self.rows is.rows) in
    let steady_rows : AllByRecursion (λ row. All (IsSteadyCell width) row.cells) self.rows =
    subst (λ (w : ℕ). AllByRecursion (λ row. All (IsSteadyCell w) row.cells) self.rows) same
    (recursion_from_All (λ row. All (IsSteadyCell self.width) row.cells) self.rows steady) in
    let self_row : IsRow width x =
    subst (λ (w : ℕ). IsRow w x) same (is.rows (r + 1) (blank_row default_attrs self.width) inside) in
    let prints : PrintsCells width x.cells =
    All-from_recursion (PrintsRow width) self.rows
    (picture_prints width self.rows item.is.has_columns is_rows steady_rows)
    (r + 1) (blank_row default_attrs self.width) inside in
    let ex = self_row.columns in
    let e : length x.cells ≡ self.width = ex ∙ sym same in
    let done = take r rows in
    let below = drop (r + 1 + 1) rows in
    let l = length-take r rows in
    let m = length-drop (r + 1 + 1) rows in
    let n : length done ≡ r = omega arith in
    let split = two_split rows r d above (blank_row default_attrs self.width) low item.stands under in
    let start : two any done below above.cells above.wrapped
    (blanks default_attrs self.width) false (pen_at r width default_attrs)
    ≡ any =
    awaited any (done ++ (above ∷ blank_row default_attrs self.width ∷ below))
    r width split item.row (item.column ∙ same) item.attrs in
    let reads : Reads any (length rows) width = record {
      bottom = item.plain.whole.1;
      origin = item.plain.origin;
      wide = refl;
      has_columns = item.is.has_columns;
    } in
    let w = linked_item (r + 1) x.cells in
    let drew = linked_item_wraps any done below above.cells x.cells above.wrapped r (length rows) reads
    n (omega arith) (sym (ends_is above.cells) ∙ full) ex (paired_of x.cells self_row.paired) prints in
    let from : Draws w.ops (two any done below above.cells above.wrapped
    (blanks default_attrs self.width) false (pen_at r width default_attrs))
    (two any done below above.cells true x.cells w.wrapped w.pen) =
    subst (λ (k : ℕ). Draws w.ops
    (two any done below above.cells above.wrapped (blanks default_attrs k) false (pen_at r width default_attrs))
    (two any done below above.cells true x.cells w.wrapped w.pen))
    e drew in
    let new = row_of x.cells false in
    let put : slice_set (slice_set rows r (record (row_at any.page r) { wrapped = true })) (r + 1) new
    ≡ done ++ (row_of above.cells true ∷ new ∷ below) =
    ap (λ (row : RowValue). slice_set (slice_set rows r (record row { wrapped = true })) (r + 1) new) item.stands
    ∙ two_set rows done below above (blank_row default_attrs self.width) (row_of above.cells true) new r split n in
    let whole : is_whole 0 self.width (length x.cells) ≡ true = grind (arith, nat_tests) in
    let all : drawn_all w.ops any ≡ Some (row_drawn (r + 1) new w.pen (going_on r any)) =
    ap (drawn_all w.ops) (sym start) ∙ (from
    ∙ (ap (λ (b : Bool). Some (two any done below above.cells true x.cells b w.pen)) (linked_off (r + 1) x.cells)
    ∙ ap (λ (z : List RowValue). Some
    (record any { page = record (any.page) { rows = z; row = w.pen.row; column = w.pen.col }; attrs = w.pen.attrs }))
    (sym put))) in
    let blank_cells = length-replicate self.width default_blank in
    let cells : x.cells ≡ with_range 0 self.width x.cells (blanks default_attrs self.width) =
    sym (range_all x.cells (blanks default_attrs self.width) self.width e blank_cells) in
    rw whole (all ∙ ap (λ (z : List CellValue). Some (row_drawn (r + 1) (row_of z false) w.pen (going_on r any))) cells)
