-- The steps of the writers of rows, and output that a sink refuses.
use Rattle.std.proofs.Common.{◌≡◌, ℕ, ◌+◌, ◌<◌, ◌≤◌, Bool, List, ◌∷◌, ◌++◌, length, drop, sym, ap, subst, ◌∙◌, arith}
use Rattle.std.proofs.Common.{append_assoc, zero, suc, ◌-◌, ◌&&◌, not, true, false, [], take, append-nil, ⊎_elim, refl}
use Rattle.std.proofs.Common.{length-append, replicate}
use Rattle.std.proofs.lemmas.List.{drop_more, drop_all, drop-take, get_or-take, get_or_past, length-take}
use Rattle.std.proofs.lemmas.List.Concat.{flat_map-append}
use Rattle.std.specs.Prelude.{if◌then◌else◌, Err, IsErr, Ok, OnOk, Result}
use Rattle.std.proofs.lemmas.Bool.{cases_lt, cond-true, cond-false}
use Rattle.std.proofs.lemmas.Result.{on_err_weaker, on_ok_weaker}
use Rattle.vt_cells.specs.Attrs.{default_attrs}
use Rattle.vt_cells.specs.Cell.{CellValue, default_blank, is_wide, is_right_half}
use Rattle.vt_cells.specs.Op.{Op, bytes_of, bytes_of_all, LineFeed}
use Rattle.vt_cells.specs.Internals.{buffered_text}
use Rattle.vt_cells.proofs.Sinks.{nothing_gathered, some_among}
use Rattle.vt_rows.specs.Row.{RowValue, blank_row}
use Rattle.vt_rows.specs.Cells.{IsPaired, at, blanks}
use Rattle.vt_grid.specs.Page.{row_or}
use Rattle.vt_redraw.specs.Internals.{Leads, Links, Writes, cells_from, rows_under, IsRange, mark_of, AppendsOrStops}
use Rattle.vt_redraw.specs.Internals.{GathersOrStops}
use Rattle.vt_redraw.specs.Script.{Scripted, ops_then, no_ops, row_break, cells_written, after_last_glyph}
use Rattle.vt_redraw.specs.Script.{first_written, pen_at, Linked, attr_ops_in}
use Rattle.vt_redraw.specs.Redraw.{link_of, row_written, rows_below, rows_written, under_last}
use Rattle.vt_redraw.specs.declared.links.Link.{Link}
use Rattle.vt_redraw.specs.declared.pen.Pen.{Pen}
use Rattle.vt_redraw.specs.Items.{with_whole_start, with_whole_start_over, in_range, is_linked, is_whole}
use Rattle.vt_redraw.specs.Items.{item_of_difference, item_of_redraw, linked_item, marked_on, range_written}
use Rattle.vt_redraw.proofs.CellSteps.{leads_after, settled_passed}
use Rattle.vt_redraw.proofs.Filling.{room}

-- ==== The writer's steps from row to row.

-- The output of two lists of operations is the concatenation of their outputs.
joined_bytes : (t0 t1 t2 : List ℕ) (xs ys : List Op) → t1 ≡ t0 ++ bytes_of_all xs →
    t2 ≡ t1 ++ bytes_of_all ys → t2 ≡ t0 ++ bytes_of_all (xs ++ ys)
joined_bytes t0 t1 t2 xs ys e f =
    f
    ∙ (ap (λ (z : List ℕ). z ++ bytes_of_all ys) e
    ∙ (append_assoc t0 (bytes_of_all xs) (bytes_of_all ys)
    ∙ ap (λ (z : List ℕ). t0 ++ z) (sym (flat_map-append bytes_of xs ys))))

pub from_settled : (r k : ℕ) (pen : Pen) (wrapped : Bool) (xs ys : List CellValue) →
    cells_from r k pen wrapped xs ys ≡ cells_written r 0 pen wrapped k xs ys
from_settled r k pen wrapped xs ys =
    sym (settled_passed r 0 pen wrapped k xs ys
    ∙ ap (λ (n : ℕ). cells_written r n pen wrapped 0 (drop k xs) (drop k ys)) (omega arith))

-- The output of a row is that of its cells, followed by that of the break.
pub row_writes : (r k : ℕ) (pen p1 p2 : Pen) (wrapped f1 is_wrapped : Bool)
    (x : RowValue) (ys : List CellValue) (t0 t1 t2 : List ℕ) →
    t1 ≡ t0 ++ bytes_of_all (cells_from r k pen wrapped x.cells ys).ops →
    p1 ≡ (cells_from r k pen wrapped x.cells ys).pen → f1 ≡ (cells_from r k pen wrapped x.cells ys).wrapped →
    Writes t1 t2 p2 is_wrapped (row_break r p1 f1 x.wrapped x.cells) → Writes t0 t2 p2 is_wrapped
    (row_written r k pen wrapped x ys)
unfolding row_written
row_writes r k pen p1 p2 wrapped f1 is_wrapped x ys t0 t1 t2 e f g h =
    let same = from_settled r k pen wrapped x.cells ys in
    let cells = cells_written r 0 pen wrapped k x.cells ys in
    let text : t1 ≡ t0 ++ bytes_of_all cells.ops = e ∙ ap (λ (w : Scripted). t0 ++ bytes_of_all w.ops) same in
    let end : row_break r p1 f1 x.wrapped x.cells ≡ row_break r cells.pen cells.wrapped x.wrapped x.cells =
    ap (λ (p : Pen). row_break r p f1 x.wrapped x.cells) (f ∙ ap (λ (w : Scripted). w.pen) same)
    ∙ ap (λ (b : Bool). row_break r cells.pen b x.wrapped x.cells) (g ∙ ap (λ (w : Scripted). w.wrapped) same) in
    let last = subst (Writes t1 t2 p2 is_wrapped) end h in
    record {
      bytes = joined_bytes t0 t1 t2 cells.ops (row_break r cells.pen cells.wrapped x.wrapped x.cells).ops text
          last.bytes;
      stands = last.stands;
      is_wrapped = last.is_wrapped;
    }

-- ---- rows in sequence

rows_from_here : (width r : ℕ) (rows : List RowValue) → r < length rows →
    drop r rows ≡ row_or width rows r ∷ drop (r + 1) rows
rows_from_here width r rows h = drop_more rows r (blank_row default_attrs width) h

first_row : (width : ℕ) (rows : List RowValue) → 0 < length rows → rows ≡ row_or width rows 0 ∷ drop 1 rows
first_row width rows h = rows_from_here width 0 rows h

first_leads : (width : ℕ) (pen p1 : Pen) (wrapped_above : Bool) (xs ys : List RowValue) (t0 t1 : List ℕ) →
    0 < length xs → length xs ≡ length ys →
    Writes t0 t1 p1 wrapped_above (row_written 0 0 pen (row_or width ys 0).wrapped (row_or width xs 0)
    (row_or width ys 0).cells) → Leads t1 (rows_under 0 width p1 wrapped_above xs ys) t0 (rows_written pen xs ys)
unfolding rows_written
first_leads width pen p1 wrapped_above xs ys t0 t1 some same h =
    let x = row_or width xs 0 in
    let y = row_or width ys 0 in
    let row = row_written 0 0 pen y.wrapped x y.cells in
    leads_after t0 t1 row.ops (rows_under 0 width p1 wrapped_above xs ys) (rows_written pen xs ys) h.bytes
    (ap (λ (zs : List RowValue). rows_written pen zs ys) (first_row width xs some)
    ∙ (ap (λ (zs : List RowValue). rows_written pen (x ∷ drop 1 xs) zs) (first_row width ys (omega arith))
    ∙ (ap (λ (p : Pen). ops_then row.ops (rows_below 0 p x row.wrapped (drop 1 xs) (drop 1 ys))) (sym h.stands)
    ∙ ap (λ (b : Bool). ops_then row.ops (rows_below 0 p1 x b (drop 1 xs) (drop 1 ys))) (sym h.is_wrapped))))

pub top_leads : (width : ℕ) (pen p1 : Pen) (wrapped_above : Bool) (xs ys : List RowValue) (x y : RowValue)
    (t0 t1 : List ℕ) → 0 < length xs → length xs ≡ length ys → x ≡ row_or width xs 0 → y ≡ row_or width ys 0 →
    Writes t0 t1 p1 wrapped_above (row_written 0 0 pen y.wrapped x y.cells) →
    Leads t1 (rows_under 0 width p1 wrapped_above xs ys) t0 (rows_written pen xs ys)
top_leads width pen p1 wrapped_above xs ys x y t0 t1 some same ex ey h =
    let top = row_or width xs 0 in
    first_leads width pen p1 wrapped_above xs ys t0 t1 some same
    (subst (λ (z : RowValue). Writes t0 t1 p1 wrapped_above (row_written 0 0 pen z.wrapped top z.cells)) ey
    (subst (λ (z : RowValue). Writes t0 t1 p1 wrapped_above (row_written 0 0 pen y.wrapped z y.cells)) ex h))

pub below_leads : (width r : ℕ) (pen p1 p2 : Pen) (wrapped_above next : Bool) (link : Link)
    (xs ys : List RowValue) (above x y : RowValue) (t0 t1 t2 : List ℕ) →
    r + 1 < length xs → length xs ≡ length ys →
    above ≡ row_or width xs r → x ≡ row_or width xs (r + 1) → y ≡ row_or width ys (r + 1) →
    Links t0 t1 p1 link (link_of r pen above wrapped_above x y) →
    Writes t1 t2 p2 next (row_written (r + 1) link.settled p1 link.wrapped x y.cells) →
    Leads t2 (rows_under (r + 1) width p2 next xs ys) t0 (rows_under r width pen wrapped_above xs ys)
unfolding rows_below
below_leads width r pen p1 p2 wrapped_above next link xs ys above x y t0 t1 t2 inside same ea ex ey h l =
    let whole = link_of r pen above wrapped_above x y in
    let row = row_written (r + 1) whole.settled whole.pen whole.wrapped x y.cells in
    let rest = λ (p : Pen) (b : Bool). rows_below (r + 1) p x b (drop (r + 2) xs) (drop (r + 2) ys) in
    let reads : row_written (r + 1) link.settled p1 link.wrapped x y.cells ≡ row =
    ap (λ (n : ℕ). row_written (r + 1) n p1 link.wrapped x y.cells) h.done
    ∙ (ap (λ (p : Pen). row_written (r + 1) whole.settled p link.wrapped x y.cells) h.stands
    ∙ ap (λ (b : Bool). row_written (r + 1) whole.settled whole.pen b x y.cells) h.is_wrapped) in
    let wrote = subst (Writes t1 t2 p2 next) reads l in
    let two : r + 1 + 1 ≡ r + 2 = omega arith in
    let here : drop (r + 1) xs ≡ x ∷ drop (r + 2) xs =
    rows_from_here width (r + 1) xs inside
    ∙ (ap (λ (z : RowValue). z ∷ drop (r + 1 + 1) xs) (sym ex) ∙ ap (λ (n : ℕ). x ∷ drop n xs) two) in
    let there : drop (r + 1) ys ≡ y ∷ drop (r + 2) ys =
    rows_from_here width (r + 1) ys (omega arith)
    ∙ (ap (λ (z : RowValue). z ∷ drop (r + 1 + 1) ys) (sym ey) ∙ ap (λ (n : ℕ). y ∷ drop n ys) two) in
    let after_it : rows_under (r + 1) width p2 next xs ys ≡ rest p2 next =
    ap (λ (z : RowValue). rows_below (r + 1) p2 z next (drop (r + 1 + 1) xs) (drop (r + 1 + 1) ys)) (sym ex)
    ∙ ap (λ (n : ℕ). rows_below (r + 1) p2 x next (drop n xs) (drop n ys)) two in
    leads_after t0 t2 (whole.ops ++ row.ops) (rows_under (r + 1) width p2 next xs ys)
    (rows_under r width pen wrapped_above xs ys)
    (joined_bytes t0 t1 t2 whole.ops row.ops h.bytes wrote.bytes)
    (ap (λ (z : RowValue). rows_below r pen z wrapped_above (drop (r + 1) xs) (drop (r + 1) ys)) (sym ea)
    ∙ (ap (λ (zs : List RowValue). rows_below r pen above wrapped_above zs (drop (r + 1) ys)) here
    ∙ (ap (λ (zs : List RowValue). rows_below r pen above wrapped_above (x ∷ drop (r + 2) xs) zs) there
    ∙ (ap (λ (p : Pen). ops_then (whole.ops ++ row.ops) (rest p row.wrapped)) (sym wrote.stands)
    ∙ (ap (λ (b : Bool). ops_then (whole.ops ++ row.ops) (rest p2 b)) (sym wrote.is_wrapped)
    ∙ ap (ops_then (whole.ops ++ row.ops)) (sym after_it))))))

pub rows_end : (width r : ℕ) (pen : Pen) (wrapped_above : Bool) (xs ys : List RowValue) →
    length xs ≤ r + 1 → rows_under r width pen wrapped_above xs ys ≡ no_ops pen wrapped_above
unfolding rows_below
rows_end width r pen wrapped_above xs ys h =
    ap (λ (zs : List RowValue). rows_below r pen (row_or width xs r) wrapped_above zs (drop (r + 1) ys))
    (drop_all (r + 1) xs h)

-- ==== Steps of the writer of a single row.

-- The first columns of a row can be drawn as a range over a row of the same width.
pub range_taken : (xs ys : List CellValue) (stop : ℕ) → length xs ≡ length ys → IsPaired xs → IsRange (take stop xs) ys
range_taken xs ys stop same paired =
    let size = length-take stop xs in
    record {
      inside = omega arith;
      halves = λ k wide inside.
          let low : k < stop = omega arith in
          let next : k + 1 < stop = omega arith in
          ap is_right_half (get_or-take stop xs (k + 1) default_blank next)
          ∙ (sym (paired.halves k) ∙ (ap is_wide (sym (get_or-take stop xs k default_blank low)) ∙ wide));
      room = λ k wide.
          ⊎_elim
          (λ (low : k < stop). let r =
          room xs k paired (ap is_wide (sym (get_or-take stop xs k default_blank low)) ∙ wide) in omega arith)
          (λ (high : stop ≤ k).
          let none : is_wide (at (take stop xs) k) ≡ false =
          ap is_wide (get_or_past (take stop xs) k default_blank (omega arith)) in
          absurd cc)
          (cases_lt k stop);
    }

-- Cutting the end of a row and then its beginning gives the range.
pub range_is : (start stop : ℕ) (xs : List CellValue) →
    start ≤ stop → drop start (take stop xs) ≡ in_range start stop xs
range_is start stop xs h =
    let sum : start + (stop - start) ≡ stop = omega arith in
    ap (λ (n : ℕ). drop start (take n xs)) (sym sum) ∙ drop-take start (stop - start) xs

cut_written : (r start stop : ℕ) (pen : Pen) (wrapped : Bool) (xs ys : List CellValue) → start ≤ stop →
    cells_written r start pen wrapped 0 (with_whole_start (drop start (take stop xs)))
    (with_whole_start_over (drop start (take stop xs)) (drop start ys))
    ≡ cells_written r start pen wrapped 0 (with_whole_start (in_range start stop xs))
    (with_whole_start_over (in_range start stop xs) (drop start ys))
cut_written r start stop pen wrapped xs ys h =
    ap (λ (zs : List CellValue). cells_written r start pen wrapped 0 (with_whole_start zs)
    (with_whole_start_over zs (drop start ys)))
    (range_is start stop xs h)

-- The output that the code writes for a range, whose row it first truncates, is that of the script.
pub range_wrote : (r start stop : ℕ) (pen : Pen) (wrapped : Bool) (cut xs ys : List CellValue) →
    start ≤ stop → cut ≡ take stop xs → pen ≡ pen_at r start default_attrs →
    cells_written r start pen wrapped 0 (with_whole_start (drop start cut))
    (with_whole_start_over (drop start cut) (drop start ys))
    ≡ range_written r start stop wrapped xs ys
range_wrote r start stop pen wrapped cut xs ys h e p =
    ap (λ (zs : List CellValue). cells_written r start pen wrapped 0
    (with_whole_start (drop start zs)) (with_whole_start_over (drop start zs) (drop start ys)))
    e
    ∙ (cut_written r start stop pen wrapped xs ys h
    ∙ ap (λ (q : Pen). cells_written r start q wrapped 0 (with_whole_start (in_range start stop xs))
    (with_whole_start_over (in_range start stop xs) (drop start ys)))
    p)

-- ---- an item of a difference

marked_ops : (r : ℕ) (w b : Scripted) (wanted : Bool) (cells : List CellValue) →
    (marked_on r (ops_then w.ops b) wanted cells).ops ≡ w.ops ++ (b.ops ++ mark_of r b.pen b.wrapped wanted cells)
marked_ops r w b wanted cells = by_case (wanted && not b.wrapped) where
  by_case : (c : Bool) →
      (if c
      then record {
        ops = (w.ops ++ b.ops) ++ (after_last_glyph r b.pen cells).ops;
        pen = (after_last_glyph r b.pen cells).pen;
        wrapped = b.wrapped;
      } else ops_then w.ops b).ops
      ≡ w.ops ++ (b.ops ++ (if c then (after_last_glyph r b.pen cells).ops else []))
  by_case true = append_assoc w.ops b.ops (after_last_glyph r b.pen cells).ops
  by_case false = ap (λ (zs : List Op). w.ops ++ zs) (sym (append-nil b.ops))

pub part_item : (r start stop : ℕ) (x y : RowValue) (w : Scripted) (t0 t1 : List ℕ) →
    is_whole start stop (length x.cells) ≡ false →
    w ≡ range_written r start stop y.wrapped x.cells y.cells → t1 ≡ t0 ++ bytes_of_all w.ops →
    t1 ≡ t0 ++ bytes_of_all (item_of_difference r start stop x y).ops
part_item r start stop x y w t0 t1 part e t =
    let range = range_written r start stop y.wrapped x.cells y.cells in
    t ∙ (ap (λ (z : Scripted). t0 ++ bytes_of_all z.ops) e
    ∙ ap (λ (z : Scripted). t0 ++ bytes_of_all z.ops)
    (sym (cond-false (is_whole start stop (length x.cells))
    (marked_on r (ops_then range.ops (row_break r range.pen range.wrapped x.wrapped x.cells)) x.wrapped x.cells)
    range part)))

pub whole_item : (r start stop : ℕ) (x y : RowValue) (w : Scripted) (pen : Pen) (wrapped : Bool) (t0 t1 t2 : List ℕ) →
    is_whole start stop (length x.cells) ≡ true → w ≡ range_written r start stop y.wrapped x.cells y.cells →
    t1 ≡ t0 ++ bytes_of_all w.ops → pen ≡ w.pen → wrapped ≡ w.wrapped →
    t2
    ≡ t1
    ++ bytes_of_all ((row_break r pen wrapped x.wrapped x.cells).ops
    ++ mark_of r (row_break r pen wrapped x.wrapped x.cells).pen
    (row_break r pen wrapped x.wrapped x.cells).wrapped x.wrapped x.cells) →
    t2 ≡ t0 ++ bytes_of_all (item_of_difference r start stop x y).ops
whole_item r start stop x y w pen wrapped t0 t1 t2 whole e t p f more =
    let range = range_written r start stop y.wrapped x.cells y.cells in
    let b = row_break r range.pen range.wrapped x.wrapped x.cells in
    let rest = λ (q : Pen) (g : Bool). (row_break r q g x.wrapped x.cells).ops
    ++ mark_of r (row_break r q g x.wrapped x.cells).pen (row_break r q g x.wrapped x.cells).wrapped
    x.wrapped x.cells in
    let same : rest pen wrapped ≡ rest range.pen range.wrapped =
    ap (λ (q : Pen). rest q wrapped) (p ∙ ap (λ (z : Scripted). z.pen) e)
    ∙ ap (λ (g : Bool). rest range.pen g) (f ∙ ap (λ (z : Scripted). z.wrapped) e) in
    let first : t1 ≡ t0 ++ bytes_of_all range.ops = t ∙ ap (λ (z : Scripted). t0 ++ bytes_of_all z.ops) e in
    more ∙ (ap (λ (ops : List Op). t1 ++ bytes_of_all ops) same
    ∙ (ap (λ (z : List ℕ). z ++ bytes_of_all (rest range.pen range.wrapped)) first
    ∙ (append_assoc t0 (bytes_of_all range.ops) (bytes_of_all (rest range.pen range.wrapped))
    ∙ (ap (λ (z : List ℕ). t0 ++ z) (sym (flat_map-append bytes_of range.ops (rest range.pen range.wrapped)))
    ∙ (ap (λ (ops : List Op). t0 ++ bytes_of_all ops) (sym (marked_ops r range b x.wrapped x.cells))
    ∙ ap (λ (z : Scripted). t0 ++ bytes_of_all z.ops)
    (sym (cond-true (is_whole start stop (length x.cells))
    (marked_on r (ops_then range.ops b) x.wrapped x.cells) range whole)))))))

-- ---- an item of a redraw

pub linked_wrote : (r : ℕ) (xs ys : List CellValue) (pen p1 : Pen) (link : Link) (t0 t1 t2 : List ℕ) →
    ys ≡ blanks default_attrs (length xs) → pen ≡ pen_at r 0 default_attrs →
    Links t0 t1 p1 link (first_written r pen false xs ys) →
    t2 ≡ t1 ++ bytes_of_all (cells_from r link.settled p1 link.wrapped xs ys).ops →
    t2 ≡ t0 ++ bytes_of_all (linked_item r xs).ops
linked_wrote r xs ys pen p1 link t0 t1 t2 e p h more =
    let over = blanks default_attrs (length xs) in
    let same : first_written r pen false xs ys ≡ first_written r (pen_at r 0 default_attrs) false xs over =
    ap (λ (zs : List CellValue). first_written r pen false xs zs) e
    ∙ ap (λ (q : Pen). first_written r q false xs over) p in
    let first = first_written r (pen_at r 0 default_attrs) false xs over in
    let n : link.settled ≡ first.settled = h.done ∙ ap (λ w. w.settled) same in
    let q : p1 ≡ first.pen = h.stands ∙ ap (λ w. w.pen) same in
    let f : link.wrapped ≡ first.wrapped = h.is_wrapped ∙ ap (λ w. w.wrapped) same in
    let cells = cells_written r 0 first.pen first.wrapped first.settled xs over in
    let zero_settled : cells_from r first.settled first.pen first.wrapped xs over ≡ cells =
    sym (settled_passed r 0 first.pen first.wrapped first.settled xs over
    ∙ ap (λ (k : ℕ). cells_written r k first.pen first.wrapped 0 (drop first.settled xs) (drop first.settled over))
    (omega arith)) in
    let reads : cells_from r link.settled p1 link.wrapped xs ys ≡ cells =
    ap (λ (zs : List CellValue). cells_from r link.settled p1 link.wrapped xs zs) e
    ∙ (ap (λ (k : ℕ). cells_from r k p1 link.wrapped xs over) n
    ∙ (ap (λ (z : Pen). cells_from r first.settled z link.wrapped xs over) q
    ∙ (ap (λ (b : Bool). cells_from r first.settled first.pen b xs over) f ∙ zero_settled))) in
    let text : t1 ≡ t0 ++ bytes_of_all first.ops = h.bytes ∙ ap (λ w. t0 ++ bytes_of_all w.ops) same in
    more ∙ (ap (λ (w : Scripted). t1 ++ bytes_of_all w.ops) reads
    ∙ (ap (λ (z : List ℕ). z ++ bytes_of_all cells.ops) text
    ∙ (append_assoc t0 (bytes_of_all first.ops) (bytes_of_all cells.ops)
    ∙ ap (λ (z : List ℕ). t0 ++ z) (sym (flat_map-append bytes_of first.ops cells.ops)))))

pub whole_redraw : (r start stop : ℕ) (linked : Bool) (x : RowValue) (t0 t1 : List ℕ) →
    (is_whole start stop (length x.cells) && linked) ≡ true → t1 ≡ t0 ++ bytes_of_all (linked_item r x.cells).ops →
    t1 ≡ t0 ++ bytes_of_all (item_of_redraw r start stop linked x).ops
whole_redraw r start stop linked x t0 t1 whole t =
    t
    ∙ ap (λ (z : Scripted). t0 ++ bytes_of_all z.ops)
    (sym (cond-true (is_whole start stop (length x.cells) && linked) (linked_item r x.cells)
    (range_written r start stop false x.cells (blanks default_attrs (length x.cells))) whole))

pub part_redraw : (r start stop : ℕ) (linked : Bool) (x : RowValue) (t0 t1 : List ℕ) →
    (is_whole start stop (length x.cells) && linked) ≡ false →
    t1 ≡ t0 ++ bytes_of_all (range_written r start stop false x.cells (blanks default_attrs (length x.cells))).ops →
    t1 ≡ t0 ++ bytes_of_all (item_of_redraw r start stop linked x).ops
part_redraw r start stop linked x t0 t1 part t =
    t
    ∙ ap (λ (z : Scripted). t0 ++ bytes_of_all z.ops)
    (sym (cond-false (is_whole start stop (length x.cells) && linked) (linked_item r x.cells)
    (range_written r start stop false x.cells (blanks default_attrs (length x.cells))) part))

-- Whether the row above a row is wrapped.
pub linked_below : (width : ℕ) (rows : List RowValue) (row : ℕ) → 0 < row →
    is_linked width rows row ≡ (row_or width rows (row - 1)).wrapped
linked_below width rows zero h = absurd (omega (arith, h))
linked_below width rows (suc r) h =
    let same : r ≡ suc r - 1 = omega arith in
    ap (λ n. (row_or width rows n).wrapped) same

-- ==== Output that a sink may refuse is nonempty if a part of it is nonempty.

-- ---- concatenated output

pub some_first : (xs ys : List ℕ) → 0 < length xs → 0 < length (xs ++ ys)
some_first xs ys some = let size = length-append xs ys in omega arith

pub some_after : (xs ys : List ℕ) → 0 < length ys → 0 < length (xs ++ ys)
some_after xs ys some = let size = length-append xs ys in omega arith

-- ---- concatenated operations

pub ops_first : (xs ys : List Op) → 0 < length (bytes_of_all xs) → 0 < length (bytes_of_all (xs ++ ys))
ops_first xs ys some =
    subst (λ (z : List ℕ). 0 < length z) (sym (flat_map-append bytes_of xs ys))
    (some_first (bytes_of_all xs) (bytes_of_all ys) some)

pub ops_after : (xs ys : List Op) → 0 < length (bytes_of_all ys) → 0 < length (bytes_of_all (xs ++ ys))
ops_after xs ys some =
    subst (λ (z : List ℕ). 0 < length z) (sym (flat_map-append bytes_of xs ys))
    (some_after (bytes_of_all xs) (bytes_of_all ys) some)

-- ---- output after what was written or buffered

pub grown : (before more after : List ℕ) → after ≡ before ++ more → length before ≤ length after
grown before more after e =
    let size = length-append before more in
    let same : length after ≡ length (before ++ more) = ap (λ (xs : List ℕ). length xs) e in
    omega arith

pub grown_gathered : (before buffer after : List ℕ) → after ≡ buffered_text before buffer → length before ≤ length after
unfolding buffered_text
grown_gathered before buffer after e = grown before buffer after e

-- The whole output is nonempty if the buffer or the output that is still to be written is nonempty.
pub leads_some : (old mid buffer : List ℕ) (rest whole : Scripted) → Leads (buffered_text mid buffer) rest old whole →
    length old ≤ length mid → 0 < length (buffer ++ bytes_of_all rest.ops) → 0 < length (bytes_of_all whole.ops)
leads_some old mid buffer rest whole leads le some =
    let size = length-append buffer (bytes_of_all rest.ops) in
    some_among old mid buffer (bytes_of_all rest.ops) [] (bytes_of_all whole.ops)
    (ap (λ (xs : List ℕ). buffered_text mid buffer ++ xs) (append-nil (bytes_of_all rest.ops)) ∙ leads.bytes) le
    (omega arith)

-- With an empty buffer, the whole output is nonempty if the output that is still to be written is nonempty.
pub rest_some : (old mid : List ℕ) (rest whole : Scripted) → Leads mid rest old whole →
    length old ≤ length mid → 0 < length (bytes_of_all rest.ops) → 0 < length (bytes_of_all whole.ops)
rest_some old mid rest whole leads le some =
    let wrote = length-append mid (bytes_of_all rest.ops) in
    let all = length-append old (bytes_of_all whole.ops) in
    let same : length (mid ++ bytes_of_all rest.ops) ≡ length (old ++ bytes_of_all whole.ops) =
    ap (λ (xs : List ℕ). length xs) leads.bytes in
    omega arith

-- The whole output is nonempty if the part that is written next is nonempty.
pub after_some : (old mid more : List ℕ) (rest whole : Scripted) → Leads (mid ++ more) rest old whole →
    length old ≤ length mid → 0 < length more → 0 < length (bytes_of_all whole.ops)
after_some old mid more rest whole leads le some =
    let longer = length-append mid more in
    let wrote = length-append (mid ++ more) (bytes_of_all rest.ops) in
    let all = length-append old (bytes_of_all whole.ops) in
    let same : length ((mid ++ more) ++ bytes_of_all rest.ops) ≡ length (old ++ bytes_of_all whole.ops) =
    ap (λ (xs : List ℕ). length xs) leads.bytes in
    omega arith

-- The whole output is nonempty if its first part is nonempty.
pub start_some : (first : List ℕ) (rest whole : Scripted) → Leads first rest [] whole →
    0 < length first → 0 < length (bytes_of_all whole.ops)
start_some first rest whole leads some =
    subst (λ (xs : List ℕ). 0 < length xs) leads.bytes (some_first first (bytes_of_all rest.ops) some)

pub buffer_some : (buffer xs ys : List ℕ) → (0 < length xs → 0 < length ys) →
    0 < length (buffer ++ xs) → 0 < length (buffer ++ ys)
buffer_some [] xs ys more some = more some
buffer_some (x ∷ buffer) xs ys more some = omega arith

-- The buffer is written before other output, so the output has not become shorter.
pub grown_after : (before buffer mid more after : List ℕ) → mid ≡ buffered_text before buffer → after ≡ mid ++ more →
    length before ≤ length after
grown_after before buffer mid more after e f =
    let first = grown_gathered before buffer mid e in
    let later = grown mid more after f in
    omega arith

-- Appending operations after the buffer is flushed has the effect of appending them through the buffer.
pub gathers_after : {A E : Type 0} (result : Result A E) (start before mid end behind : List ℕ) (ops : List Op) →
    mid ≡ buffered_text start before → behind ≡ [] → AppendsOrStops result mid end ops →
    GathersOrStops result start before end behind ops
gathers_after result start before mid end behind ops flushed empty appends = record {
  text =
      on_ok_weaker result (λ more. ap (λ (xs : List ℕ). buffered_text end xs) empty
      ∙ (nothing_gathered end ∙ (more ∙ ap (λ (xs : List ℕ). xs ++ bytes_of_all ops) flushed))) appends.text;
  grows = on_ok_weaker result (grown_after start before mid (bytes_of_all ops) end flushed) appends.text;
  nonempty = on_err_weaker result (some_after before (bytes_of_all ops)) appends.nonempty;
}

all_flushed : (start before mid buffer : List ℕ) (ops : List Op) → before ≡ [] →
    buffered_text mid buffer ≡ buffered_text start before ++ bytes_of_all ops →
    buffered_text mid buffer ≡ start ++ bytes_of_all ops
all_flushed start before mid buffer ops empty gathered =
    gathered ∙ ap (λ (xs : List ℕ). xs ++ bytes_of_all ops) (ap (buffered_text start) empty ∙ nothing_gathered start)

-- Gathering operations in an empty buffer, and then flushing the buffer, has the effect of appending them.
pub appends_flushed : {A E : Type 0} (result : Result A E) (start before mid buffer end : List ℕ) (ops : List Op) →
    before ≡ [] → buffered_text mid buffer ≡ buffered_text start before ++ bytes_of_all ops →
    length start ≤ length mid → OnOk result (end ≡ buffered_text mid buffer) →
    (IsErr result → 0 < length buffer) → AppendsOrStops result start end ops
appends_flushed (Ok x) start before mid buffer end ops empty gathered grows flushed some =
    record { text = flushed ∙ all_flushed start before mid buffer ops empty gathered; nonempty = tt }
appends_flushed (Err e) start before mid buffer end ops empty gathered grows flushed some = record {
  text = tt;
  nonempty =
      let more = some refl in
      some_among start mid buffer [] [] (bytes_of_all ops)
      (append-nil (buffered_text mid buffer) ∙ all_flushed start before mid buffer ops empty gathered) grows
      (omega (arith, more));
}

-- A text is nonempty if a part after its first part is nonempty.
pub text_after_some : (old first mid more whole : List ℕ) → mid ≡ old ++ first → mid ++ more ≡ old ++ whole →
    0 < length more → 0 < length whole
text_after_some old first mid more whole e f some =
    let before = grown old first mid e in
    let wrote = length-append mid more in
    let all = length-append old whole in
    let same : length (mid ++ more) ≡ length (old ++ whole) = ap (λ (xs : List ℕ). length xs) f in
    omega arith

-- ---- rows

-- If nothing was refused, the output of a row, or of a link, was written in full.
pub wrote_all : (text : List ℕ) (whole : Scripted) →
    Writes text (text ++ bytes_of_all whole.ops) whole.pen whole.wrapped whole
wrote_all text whole = record { bytes = refl; stands = refl; is_wrapped = refl }

abbrev pub link_made : Linked → Link
link_made whole = record { wrapped = whole.wrapped; settled = whole.settled }

pub linked_all : (text : List ℕ) (whole : Linked) →
    Links text (text ++ bytes_of_all whole.ops) whole.pen (link_made whole) whole
linked_all text whole = record { bytes = refl; stands = refl; is_wrapped = refl; done = refl }

pub row_some : (r k : ℕ) (pen : Pen) (wrapped : Bool) (x : RowValue) (ys : List CellValue) →
    0 < length (bytes_of_all (cells_from r k pen wrapped x.cells ys).ops) →
    0 < length (bytes_of_all (row_written r k pen wrapped x ys).ops)
unfolding row_written
row_some r k pen wrapped x ys some =
    let cells = cells_written r 0 pen wrapped k x.cells ys in
    ops_first cells.ops (row_break r cells.pen cells.wrapped x.wrapped x.cells).ops
    (subst (λ (w : Scripted). 0 < length (bytes_of_all w.ops)) (from_settled r k pen wrapped x.cells ys) some)

-- ---- a single row

pub range_some : (r start stop : ℕ) (x y : RowValue) (w : Scripted) →
    w ≡ range_written r start stop y.wrapped x.cells y.cells → 0 < length (bytes_of_all w.ops) →
    0 < length (bytes_of_all (item_of_difference r start stop x y).ops)
range_some r start stop x y w e some = by_case (is_whole start stop (length x.cells)) refl where
  by_case : (b : Bool) → is_whole start stop (length x.cells) ≡ b →
      0 < length (bytes_of_all (item_of_difference r start stop x y).ops)
  by_case false part =
      subst (λ (xs : List ℕ). 0 < length xs)
      (part_item r start stop x y w [] (bytes_of_all w.ops) part e refl) some
  by_case true whole =
      let more = bytes_of_all ((row_break r w.pen w.wrapped x.wrapped x.cells).ops
      ++ mark_of r (row_break r w.pen w.wrapped x.wrapped x.cells).pen
      (row_break r w.pen w.wrapped x.wrapped x.cells).wrapped x.wrapped x.cells) in
      subst (λ (xs : List ℕ). 0 < length xs)
      (whole_item r start stop x y w w.pen w.wrapped [] (bytes_of_all w.ops) (bytes_of_all w.ops ++ more)
      whole e refl refl refl refl)
      (some_first (bytes_of_all w.ops) more some)

-- ---- a wrap that is made pending after the last glyph

pub under_last_text : (pen last : Pen) (i r : ℕ) (cells : List CellValue) (t0 t1 t2 t3 : List ℕ) →
    t1 ≡ t0 ++ bytes_of_all (after_last_glyph i pen cells).ops → last ≡ (after_last_glyph i pen cells).pen →
    t2 ≡ t1 ++ bytes_of_all (attr_ops_in pen.form last.attrs pen.attrs) →
    t3 ≡ t2 ++ bytes_of_all (replicate (r - i) LineFeed) → t3 ≡ t0 ++ bytes_of_all (under_last pen i r cells)
unfolding under_last
under_last_text pen last i r cells t0 t1 t2 t3 e p f g =
    let went = after_last_glyph i pen cells in
    let feeds = replicate (r - i) LineFeed in
    let change = attr_ops_in pen.form went.pen.attrs pen.attrs in
    g ∙ (ap (λ (xs : List ℕ). xs ++ bytes_of_all feeds)
    (f ∙ (ap (λ (q : Pen). t1 ++ bytes_of_all (attr_ops_in pen.form q.attrs pen.attrs)) p
    ∙ ap (λ (xs : List ℕ). xs ++ bytes_of_all change) e))
    ∙ (append_assoc (t0 ++ bytes_of_all went.ops) (bytes_of_all change) (bytes_of_all feeds)
    ∙ (ap (λ (xs : List ℕ). (t0 ++ bytes_of_all went.ops) ++ xs) (sym (flat_map-append bytes_of change feeds))
    ∙ (append_assoc t0 (bytes_of_all went.ops) (bytes_of_all (change ++ feeds))
    ∙ ap (λ (xs : List ℕ). t0 ++ xs) (sym (flat_map-append bytes_of went.ops (change ++ feeds)))))))

pub under_last_some : (pen last : Pen) (i r : ℕ) (cells : List CellValue) → last ≡ (after_last_glyph i pen cells).pen →
    0 < length (bytes_of_all (attr_ops_in pen.form last.attrs pen.attrs)) → 0 < length (bytes_of_all (under_last pen i r cells))
unfolding under_last
under_last_some pen last i r cells p some =
    let went = after_last_glyph i pen cells in
    ops_after went.ops (attr_ops_in pen.form went.pen.attrs pen.attrs ++ replicate (r - i) LineFeed)
    (ops_first (attr_ops_in pen.form went.pen.attrs pen.attrs) (replicate (r - i) LineFeed)
    (subst (λ (q : Pen). 0 < length (bytes_of_all (attr_ops_in pen.form q.attrs pen.attrs))) p some))

pub feeds_some : (pen : Pen) (i r : ℕ) (cells : List CellValue) →
    0 < length (bytes_of_all (replicate (r - i) LineFeed)) → 0 < length (bytes_of_all (under_last pen i r cells))
unfolding under_last
feeds_some pen i r cells some =
    let went = after_last_glyph i pen cells in
    ops_after went.ops (attr_ops_in pen.form went.pen.attrs pen.attrs ++ replicate (r - i) LineFeed)
    (ops_after (attr_ops_in pen.form went.pen.attrs pen.attrs) (replicate (r - i) LineFeed) some)
