-- Single operations on a plain page, and one row of the terminal that is changed at a boundary.
use Rattle.std.proofs.Common.{◌≡◌, ℕ, zero, suc, ◌+◌, ◌-◌, ◌<◌, ◌≤◌, ◌==◌, ◌&&◌, nat_lt, min, true, false, List, []}
use Rattle.std.proofs.Common.{◌∷◌, length, Option, Some, refl, sym, ap, ◌∙◌, arith, Bool, not, ◌++◌, drop, append_assoc}
use Rattle.std.proofs.Common.{◌||◌}
use Rattle.std.proofs.lemmas.Bool.{cond_both, and_parts, eqb-true, ltb-true, ne_eqb, lt-ltb, le-ltb}
use Rattle.std.proofs.lemmas.List.{get_or_at, set_at, length-append}
use Rattle.std.specs.Char.{encode_utf8}
use Rattle.vt_cells.specs.Attrs.{default_attrs, same_attrs, Attrs}
use Rattle.vt_cells.specs.Op.{Op, MoveTo, MoveRight, NextRow, ChangeAttrs, ClearAttrs, cursor_move_ops, EraseRest}
use Rattle.vt_cells.specs.Op.{EraseChars}
use Rattle.vt_cells.specs.Cell.{CellValue, blank, glyph, right_half, default_blank}
use Rattle.vt_cells.specs.Glyph.{glyph_columns, columns_of}
use Rattle.vt_cells.proofs.Attributes.{attrs_of-same, changed_attrs-new}
use Rattle.vt_rows.specs.Row.{RowValue, blank_row, with_cells}
use Rattle.vt_rows.specs.Cells.{blanks, cells_after_cut, put_narrow, put_wide, cells_after_erase, ends_blank}
use Rattle.vt_grid.specs.Moves.{line_feed, moved, feeds_out}
use Rattle.vt_grid.specs.declared.grid.moves.CursorMove.TheVariants.{Right}
use Rattle.vt_grid.specs.Canvas.{Canvas, and_then, canvas_after_op, drawn_all, drawn_char}
use Rattle.vt_grid.specs.Page.{Page, cursor_row, with_row, row_at}
use Rattle.vt_grid.specs.Erasing.{erased_chars, erased_rest, erased_columns}
use Rattle.vt_grid.specs.Printing.{with_cursor_cells, glyph_put, room_made, lacks_room, wrapped_page, printed_by}
use Rattle.vt_grid.specs.Printing.{page_after_print, wraps_for}
use Rattle.vt_grid.proofs.Texts.{Draws}
use Rattle.vt_redraw.specs.Script.{pen_at, move_ops, attr_ops_in, change_ops, resets, back_op, erase_run, is_nil}
use Rattle.vt_redraw.specs.Script.{is_torn, wrapped_after_glyph}
use Rattle.vt_redraw.specs.declared.form.Form.{Form}
use Rattle.vt_redraw.specs.declared.pen.Pen.{Pen}
use Rattle.vt_redraw.specs.declared.form.Form.TheVariants.{Fixed, Portable}
use Rattle.vt_redraw.proofs.Halves.{Paired, put_at, ends, ends_is, kept, drop_opened, ends_append, Sound, flag_step}

-- ==== The effect of single operations on a page whose scroll region is the whole page.

-- The canvas with the given rows, and with the cursor and attributes of the pen.
abbrev pub at_pen : Canvas → List RowValue → Pen → Canvas
at_pen base rows pen = record base {
  page = record (base.page) { rows = rows; row = pen.row; column = pen.col };
  attrs = pen.attrs;
}

-- The preconditions on the parts of a canvas other than its rows: full scroll region, no origin mode, and the given
-- nonzero width.
pub record Reads (base : Canvas) (height width : ℕ) : Type 0 where
  pub bottom : base.page.bottom + 1 ≡ height
  pub origin : base.page.origin ≡ false
  pub wide : base.page.width ≡ width
  pub has_columns : 0 < width

pub record Within (pen : Pen) (height width : ℕ) : Type 0 where
  pub row : pen.row < height
  pub col : pen.col ≤ width

pens : (r row c col : ℕ) (attrs : Attrs) → r ≡ row → c ≡ col → pen_at r c attrs ≡ pen_at row col attrs
pens r row c col attrs e f = rw (e, f) refl

arrives : (ops : List Op) (a base : Canvas) (rows : List RowValue) (p q : Pen) →
    Draws ops a (at_pen base rows p) → p ≡ q → Draws ops a (at_pen base rows q)
arrives ops a base rows p q h e = h ∙ ap (λ (x : Pen). Some (at_pen base rows x)) e

-- ---- cursor movement

next_row_draws : (base : Canvas) (rows : List RowValue) (pen : Pen) →
    (pen.row == base.page.bottom) ≡ false → nat_lt (pen.row + 1) (length rows) ≡ true →
    Draws (NextRow ∷ []) (at_pen base rows pen) (at_pen base rows (pen_at (pen.row + 1) 0 pen.attrs))
unfolding line_feed
next_row_draws base rows pen e f = rw (e, f) refl

some_right : (n : ℕ) (canvas : Canvas) → 0 < n →
    canvas_after_op (MoveRight n) canvas ≡ Some (record canvas { page = moved (Right n) canvas.page })
some_right zero canvas h = absurd (omega arith)
some_right (suc n) canvas h = refl

right_draws : (base : Canvas) (rows : List RowValue) (pen : Pen) (c : ℕ) → pen.col < c → c < base.page.width →
    Draws (MoveRight (c - pen.col) ∷ []) (at_pen base rows pen) (at_pen base rows (pen_at pen.row c pen.attrs))
right_draws base rows pen c h l =
    let e : min (pen.col + (c - pen.col)) (base.page.width - 1) ≡ c = omega arith in
    ap (λ (z : Option Canvas). and_then (drawn_all []) z)
    (some_right (c - pen.col) (at_pen base rows pen) (omega arith))
    ∙ ap (λ (col : ℕ). Some (at_pen base rows (pen_at pen.row col pen.attrs))) e

pub move_to_draws : (base : Canvas) (rows : List RowValue) (pen : Pen) (r c : ℕ) →
    base.page.origin ≡ false → r < length rows → c < base.page.width →
    Draws (MoveTo r c ∷ []) (at_pen base rows pen) (at_pen base rows (pen_at r c pen.attrs))
move_to_draws base rows pen r c o h l =
    let e : min r (length rows - 1) ≡ r = omega arith in
    let f : min c (base.page.width - 1) ≡ c = omega arith in
    rw (o, e, f) refl

-- The cursor moves one column to the left.
pub back_draws : (form : Form) (base : Canvas) (rows : List RowValue) (r c : ℕ) (attrs : Attrs) →
    base.page.origin ≡ false → r < length rows → c < base.page.width →
    Draws (back_op form r c ∷ []) (at_pen base rows (pen_at r (c + 1) attrs)) (at_pen base rows (pen_at r c attrs))
back_draws Fixed base rows r c attrs o h l =
    let e : c + 1 - 1 ≡ c = omega arith in ap (λ (k : ℕ). Some (at_pen base rows (pen_at r k attrs))) e
back_draws Portable base rows r c attrs o h l = move_to_draws base rows (pen_at r (c + 1) attrs) r c o h l

pub going_draws : (base : Canvas) (rows : List RowValue) (pen : Pen) (r c height width : ℕ) →
    Reads base height width → length rows ≡ height →
    Within pen height width → r < height → c < width →
    Draws (move_ops pen r c) (at_pen base rows pen) (at_pen base rows (pen_at r c pen.attrs))
unfolding move_ops
going_draws base rows pen r c height width reads size within h l =
    let P = λ (ops : List Op). Draws ops (at_pen base rows pen) (at_pen base rows (pen_at r c pen.attrs)) in
    let bottom = reads.bottom in
    let wide = reads.wide in
    cond_both pen.is_shifted (MoveTo r c ∷ []) (cursor_move_ops pen.row pen.col r c) P
    (λ _. move_to_draws base rows pen r c reads.origin (omega arith) (omega arith))
    (λ _. cond_both ((r == pen.row + 1) && (c == 0)) (NextRow ∷ []) _ P
    (λ (t : ((r == pen.row + 1) && (c == 0)) ≡ true).
    let p = and_parts (r == pen.row + 1) (c == 0) t in
    let e = eqb-true r (pen.row + 1) p.0 in
    let f = eqb-true c 0 p.1 in
    arrives (NextRow ∷ []) (at_pen base rows pen) base rows (pen_at (pen.row + 1) 0 pen.attrs) (pen_at r c pen.attrs)
    (next_row_draws base rows pen (ne_eqb pen.row base.page.bottom (λ same. omega arith))
    (lt-ltb (pen.row + 1) (length rows) (omega arith)))
    (pens (pen.row + 1) r 0 c pen.attrs (sym e) (sym f)))
    (λ _. cond_both ((r == pen.row) && nat_lt pen.col c) (MoveRight (c - pen.col) ∷ []) _ P
    (λ (t : ((r == pen.row) && nat_lt pen.col c) ≡ true).
    let p = and_parts (r == pen.row) (nat_lt pen.col c) t in
    let e = eqb-true r pen.row p.0 in
    let f = ltb-true pen.col c p.1 in
    arrives (MoveRight (c - pen.col) ∷ []) (at_pen base rows pen)
    base rows (pen_at pen.row c pen.attrs) (pen_at r c pen.attrs)
    (right_draws base rows pen c f (omega arith))
    (pens pen.row r c c pen.attrs (sym e) refl))
    (λ _. cond_both ((r == pen.row) && (c == pen.col)) [] (MoveTo r c ∷ []) P
    (λ (t : ((r == pen.row) && (c == pen.col)) ≡ true).
    let p = and_parts (r == pen.row) (c == pen.col) t in
    arrives [] (at_pen base rows pen) base rows (pen_at pen.row pen.col pen.attrs) (pen_at r c pen.attrs) refl
    (pens pen.row r pen.col c pen.attrs (sym (eqb-true r pen.row p.0)) (sym (eqb-true c pen.col p.1))))
    (λ _. move_to_draws base rows pen r c reads.origin (omega arith) (omega arith)))))

-- ---- attributes

pub changing_draws : (form : Form) (base : Canvas) (rows : List RowValue) (pen : Pen) (attrs : Attrs) →
    Draws (attr_ops_in form pen.attrs attrs) (at_pen base rows pen) (at_pen base rows (pen_at pen.row pen.col attrs))
unfolding attr_ops_in
changing_draws form base rows pen attrs =
    let P = λ (ops : List Op). Draws ops (at_pen base rows pen) (at_pen base rows (pen_at pen.row pen.col attrs)) in
    cond_both (same_attrs pen.attrs attrs) [] (change_ops form pen.attrs attrs) P
    (λ (t : same_attrs pen.attrs attrs ≡ true). ap
    (λ (a : Attrs). Some (at_pen base rows (pen_at pen.row pen.col a))) (attrs_of-same pen.attrs attrs t))
    (λ _. cond_both (resets form pen.attrs attrs) (ClearAttrs ∷ ChangeAttrs default_attrs attrs ∷ [])
    (ChangeAttrs pen.attrs attrs ∷ []) P
    (λ _. ap (λ (a : Attrs). Some (at_pen base rows (pen_at pen.row pen.col a))) (changed_attrs-new default_attrs attrs))
    (λ _. ap (λ (a : Attrs). Some (at_pen base rows (pen_at pen.row pen.col a))) (changed_attrs-new pen.attrs attrs)))

-- ==== One row of the terminal among its rows, changed at a boundary between whole cells.

abbrev pub row_of : List CellValue → Bool → RowValue
row_of cells wrapped = record { cells = cells; wrapped = wrapped }

-- A canvas that has the given cells and wrapped flag in one row, between the rows `done` and `below`.
abbrev pub mid : Canvas → (done below : List RowValue) → List CellValue → Bool → Pen → Canvas
mid base done below cells wrapped pen = at_pen base (done ++ row_of cells wrapped ∷ below) pen

pub cursor_row_is : (base : Canvas) (done below : List RowValue) (cells : List CellValue) (wrapped : Bool) (pen : Pen) →
    length done ≡ pen.row →
    cursor_row (mid base done below cells wrapped pen).page ≡ row_of cells wrapped
cursor_row_is base done below cells wrapped pen e =
    get_or_at done (row_of cells wrapped) below (blank_row default_attrs base.page.width) pen.row e

pub edited_at : (base : Canvas) (done below : List RowValue) (cells : List CellValue)
    (wrapped : Bool) (pen : Pen) (f : List CellValue → List CellValue) (new : List CellValue) →
    length done ≡ pen.row → f cells ≡ new →
    with_cursor_cells (f (cursor_row (mid base done below cells wrapped pen).page).cells)
    (mid base done below cells wrapped pen).page
    ≡ (mid base done below new (kept wrapped new) pen).page
edited_at base done below cells wrapped pen f new e h =
    let page = (mid base done below cells wrapped pen).page in
    ap (λ (row : RowValue). with_row pen.row (with_cells row (f row.cells)) page)
    (cursor_row_is base done below cells wrapped pen e)
    ∙ (ap (λ (z : List CellValue). with_row pen.row (with_cells (row_of cells wrapped) z) page) h
    ∙ (ap (λ (b : Bool). with_row pen.row (row_of new (wrapped && not b)) page) (ends_is new)
    ∙ ap (λ (rows : List RowValue). record page { rows = rows })
    (set_at done (row_of cells wrapped) below (row_of new (kept wrapped new)) pen.row e)))

-- ---- a glyph

-- The cells of a glyph: one cell if it is narrow, and a continuation cell after it if it is wide.
abbrev pub glyph_cells : List ℕ → Bool → Attrs → List CellValue
glyph_cells text false attrs = glyph text false attrs ∷ []
glyph_cells text true attrs = glyph text true attrs ∷ right_half ∷ []

abbrev pub orphan : Bool → Attrs → CellValue
orphan false attrs = glyph (0x20 ∷ []) false attrs
orphan true attrs = blank attrs

pub glyph_put_at : (base : Canvas) (done below : List RowValue) (pre rest : List CellValue)
    (wrapped : Bool) (r c : ℕ) (text : List ℕ) (wide : Bool) (attrs : Attrs) →
    length done ≡ r → length pre ≡ c → Paired pre →
    glyph_put text wide attrs (mid base done below (pre ++ rest) wrapped (pen_at r c attrs)).page
    ≡ (mid base done below
    (pre ++ (glyph_cells text wide attrs ++ cells_after_cut (orphan wide attrs) (drop (glyph_columns wide) rest)))
    (kept wrapped (pre ++ (glyph_cells text wide attrs ++ cells_after_cut (orphan wide attrs)
    (drop (glyph_columns wide) rest))))
    (pen_at r (c + glyph_columns wide) attrs)).page
glyph_put_at base done below pre rest wrapped r c text false attrs e l h =
    ap (λ (page : Page). record page { column = c + 1 })
    (edited_at base done below (pre ++ rest) wrapped (pen_at r c attrs) (put_narrow c text attrs)
    _ e (put_at pre rest (glyph text false attrs ∷ []) (glyph (0x20 ∷ []) false attrs) c 1 l h))
glyph_put_at base done below pre rest wrapped r c text true attrs e l h =
    ap (λ (page : Page). record page { column = c + 2 })
    (edited_at base done below (pre ++ rest) wrapped (pen_at r c attrs) (put_wide c text attrs)
    _ e (put_at pre rest (glyph text true attrs ∷ right_half ∷ []) (blank attrs) c 2 l h))

pub room_there : (n : ℕ) (page : Page) → page.column + n ≤ page.width → lacks_room n page ≡ false
room_there n page h = le-ltb (page.width - n) page.column (omega arith)

pub room_is : (n : ℕ) (page : Page) → page.column + n ≤ page.width → room_made n page ≡ page
unfolding room_made
room_is n page h = rw (room_there n page h) refl

-- ---- a run of blanks

erased_at : (base : Canvas) (done below : List RowValue)
    (pre rest : List CellValue) (wrapped : Bool) (r c n : ℕ) (attrs : Attrs) →
    length done ≡ r → length pre ≡ c → Paired pre →
    erased_columns c n attrs (mid base done below (pre ++ rest) wrapped (pen_at r c attrs)).page
    ≡ (mid base done below (pre ++ (blanks attrs n ++ cells_after_cut default_blank (drop n rest)))
    (kept wrapped (pre ++ (blanks attrs n ++ cells_after_cut default_blank (drop n rest)))) (pen_at r c attrs)).page
erased_at base done below pre rest wrapped r c n attrs e l h =
    edited_at base done below (pre ++ rest) wrapped (pen_at r c attrs)
    (cells_after_erase c n attrs) _ e (put_at pre rest (blanks attrs n) default_blank c n l h)

pub chars_erased : (base : Canvas) (done below : List RowValue)
    (pre rest : List CellValue) (wrapped : Bool) (r c n : ℕ) (attrs : Attrs) →
    length done ≡ r → length pre ≡ c → c + suc n ≤ base.page.width → Paired pre →
    Draws (EraseChars (suc n) ∷ []) (mid base done below (pre ++ rest) wrapped (pen_at r c attrs))
    (mid base done below (pre ++ (blanks attrs (suc n) ++ cells_after_cut default_blank (drop (suc n) rest)))
    (kept wrapped (pre ++ (blanks attrs (suc n) ++ cells_after_cut default_blank (drop (suc n) rest))))
    (pen_at r c attrs))
unfolding erased_chars
chars_erased base done below pre rest wrapped r c n attrs e l fits h =
    let start = mid base done below (pre ++ rest) wrapped (pen_at r c attrs) in
    let s : (c == base.page.width) ≡ false = ne_eqb c base.page.width (λ same. omega arith) in
    let some : (suc n == 0) ≡ false = ne_eqb (suc n) 0 (λ same. omega arith) in
    let m : min (suc n) (base.page.width - c) ≡ suc n = omega arith in
    rw (some, s, m) (ap (λ (page : Page). Some (record start { page = page }))
    (erased_at base done below pre rest wrapped r c (suc n) attrs e l h))

pub rest_erased : (base : Canvas) (done below : List RowValue)
    (pre rest : List CellValue) (wrapped : Bool) (r c n : ℕ) (attrs : Attrs) →
    length done ≡ r → length pre ≡ c → c + suc n ≡ base.page.width → Paired pre →
    Draws (EraseRest ∷ []) (mid base done below (pre ++ rest) wrapped (pen_at r c attrs))
    (mid base done below (pre ++ (blanks attrs (suc n) ++ cells_after_cut default_blank (drop (suc n) rest)))
    (kept wrapped (pre ++ (blanks attrs (suc n) ++ cells_after_cut default_blank (drop (suc n) rest))))
    (pen_at r c attrs))
unfolding erased_rest
rest_erased base done below pre rest wrapped r c n attrs e l fits h =
    let start = mid base done below (pre ++ rest) wrapped (pen_at r c attrs) in
    let s : (c == base.page.width) ≡ false = ne_eqb c base.page.width (λ same. omega arith) in
    let m : base.page.width - c ≡ suc n = omega arith in
    rw (s, m) (ap (λ (page : Page). Some (record start { page = page }))
    (erased_at base done below pre rest wrapped r c (suc n) attrs e l h))

-- A run of blanks can be erased, up to the end of the row or with more columns after it.
pub run_erased : (base : Canvas) (done below : List RowValue)
    (pre rest more : List CellValue) (wrapped : Bool) (r c n : ℕ) (attrs : Attrs) →
    length done ≡ r → length pre ≡ c → c + (suc n + length more) ≡ base.page.width → Paired pre →
    Draws (erase_run Fixed (suc n) more ∷ []) (mid base done below (pre ++ rest) wrapped (pen_at r c attrs))
    (mid base done below (pre ++ (blanks attrs (suc n) ++ cells_after_cut default_blank (drop (suc n) rest)))
    (kept wrapped (pre ++ (blanks attrs (suc n) ++ cells_after_cut default_blank (drop (suc n) rest))))
    (pen_at r c attrs))
run_erased base done below pre rest [] wrapped r c n attrs e l fits h =
    rest_erased base done below pre rest wrapped r c n attrs e l (omega arith) h
run_erased base done below pre rest (y ∷ more) wrapped r c n attrs e l fits h =
    chars_erased base done below pre rest wrapped r c n attrs e l (omega arith) h

-- ---- a wrap into the next row

-- A canvas that has two given rows between the rows `done` and `below`.
abbrev pub two : Canvas → (done below : List RowValue) → (above : List CellValue) →
    (wrapped_above : Bool) → (cells : List CellValue) → (wrapped : Bool) → Pen → Canvas
two base done below above wrapped_above cells wrapped pen = at_pen base
    (done ++ row_of above wrapped_above ∷ row_of cells wrapped ∷ below) pen

pub two_mid : (base : Canvas) (done below : List RowValue) (above : List CellValue)
    (wrapped_above : Bool) (cells : List CellValue) (wrapped : Bool) (pen : Pen) →
    two base done below above wrapped_above cells wrapped pen ≡ mid base (done ++ row_of above wrapped_above ∷ []) below
    cells wrapped pen
two_mid base done below above wrapped_above cells wrapped pen =
    ap (λ (rows : List RowValue). at_pen base rows pen)
    (sym (append_assoc done (row_of above wrapped_above ∷ []) (row_of cells wrapped ∷ below)))

pub not_bottom : (base : Canvas) (done below : List RowValue)
    (above : List CellValue) (wrapped_above : Bool) (y : RowValue) (r : ℕ) →
    length done ≡ r → base.page.bottom + 1 ≡ length done + suc (suc (length below)) → (r == base.page.bottom) ≡ false
not_bottom base done below above wrapped_above y r e b = ne_eqb r base.page.bottom (λ same. omega arith)

pub wraps : (base : Canvas) (done below : List RowValue) (above : List CellValue)
    (wrapped_above : Bool) (cells : List CellValue) (wrapped : Bool) (r c : ℕ) (attrs : Attrs) →
    length done ≡ r → base.page.bottom + 1 ≡ length done + suc (suc (length below)) →
    wrapped_page (two base done below above wrapped_above cells wrapped (pen_at r c attrs)).page
    ≡ (two base done below above (not (ends above)) cells wrapped (pen_at (r + 1) 0 attrs)).page
unfolding wrapped_page line_feed
wraps base done below above wrapped_above cells wrapped r c attrs e b =
    let rows = done ++ row_of above wrapped_above ∷ row_of cells wrapped ∷ below in
    let page = (two base done below above wrapped_above cells wrapped (pen_at r c attrs)).page in
    let down = record page { row = r + 1 } in
    let s = not_bottom base done below above wrapped_above (row_of cells wrapped) r e b in
    let l = length-append done (row_of above wrapped_above ∷ row_of cells wrapped ∷ below) in
    let m : nat_lt (r + 1) (length rows) ≡ true = lt-ltb (r + 1) (length rows) (omega arith) in
    let here : row_at page r ≡ row_of above wrapped_above =
    get_or_at done (row_of above wrapped_above) (row_of cells wrapped ∷ below)
    (blank_row default_attrs base.page.width) r e in
    rw (s, m) (
    ap (λ (row : RowValue). record (with_row r (record row { wrapped = not (ends_blank row.cells) }) down)
    { column = 0 })
    here
    ∙ (ap (λ (t : Bool). record (with_row r (row_of above (not t)) down) { column = 0 }) (ends_is above)
    ∙ ap (λ (z : List RowValue). record down { rows = z; column = 0 })
    (set_at done (row_of above wrapped_above) (row_of cells wrapped ∷ below) (row_of above (not (ends above))) r e)))

-- ==== Printing a glyph where there is room for it: its cells, the row's wrapped flag, and the cursor after it.

-- The cells after a glyph of the given width, if `ys` are the cells after its first column.
abbrev pub rest_after : Bool → List CellValue → List CellValue
rest_after false ys = ys
rest_after true ys = drop 1 ys

-- The cells of a row after a glyph is printed over the cells `ys`, directly after the cells `pre`.
abbrev pub with_glyph : List CellValue → List ℕ → Bool → Attrs → List CellValue → List CellValue
with_glyph pre text wide attrs ys =
    pre ++ (glyph_cells text wide attrs ++ cells_after_cut (orphan wide attrs) (rest_after wide ys))

-- There is room for a glyph of the given width at a boundary, over the cells y and ys, the first of which may be an
-- orphaned continuation cell.
pub record Spot (base : Canvas) (done : List RowValue) (pre : List CellValue) (o y : CellValue)
    (ys : List CellValue) (wrapped : Bool) (r c : ℕ) (wide : Bool) : Type 0 where
  pub row : length done ≡ r
  pub col : length pre ≡ c
  pub fits : c + glyph_columns wide ≤ base.page.width
  pub front : Paired pre
  pub sound : Sound wrapped (pre ++ cells_after_cut o (y ∷ ys))

-- The canvas on which a glyph is about to be printed after the cells `pre`, over the cells y and ys.
abbrev pub spot : Canvas → (done below : List RowValue) → (pre : List CellValue) →
    (o y : CellValue) → (ys : List CellValue) → Bool → (r c : ℕ) → Attrs → Canvas
spot base done below pre o y ys wrapped r c attrs = mid base done below (pre ++ cells_after_cut o (y ∷ ys)) wrapped
    (pen_at r c attrs)

abbrev pub put : Canvas → (done below : List RowValue) → (pre : List CellValue) →
    (ys : List CellValue) → Bool → (r c : ℕ) → (text : List ℕ) → (wide : Bool) → Attrs → Canvas
put base done below pre ys wrapped r c text wide attrs =
    mid base done below (with_glyph pre text wide attrs ys)
    (wrapped_after_glyph wrapped wide (drop 1 ys)) (pen_at r (c + glyph_columns wide) attrs)

narrow_flag : (f n t : Bool) → (f && not ((n && false) || (t && false))) ≡ (f && not false)
narrow_flag f n t = grind (arith)

wide_flag : (f n t : Bool) → (f && not ((n && false) || (t && true))) ≡ (f && not t)
wide_flag f n t = grind (arith)

pub glyph_flag : (pre : List CellValue) (o y : CellValue) (ys : List CellValue)
    (wrapped : Bool) (text : List ℕ) (wide : Bool) (attrs : Attrs) →
    Sound wrapped (pre ++ cells_after_cut o (y ∷ ys)) →
    kept wrapped (with_glyph pre text wide attrs ys) ≡ wrapped_after_glyph wrapped wide (drop 1 ys)
glyph_flag pre o y ys wrapped text false attrs sound =
    flag_step pre (glyph text false attrs ∷ []) y ys (orphan false attrs)
    o 0 wrapped false (ends_append pre (glyph text false attrs) []) sound
    ∙ narrow_flag wrapped (is_nil ys) (is_torn ys)
glyph_flag pre o y ys wrapped text true attrs sound =
    flag_step pre (glyph text true attrs ∷ right_half ∷ []) y ys (orphan true attrs)
    o 1 wrapped false (ends_append pre (glyph text true attrs) (right_half ∷ [])) sound
    ∙ wide_flag wrapped (is_nil (drop 1 ys)) (is_torn (drop 1 ys))

after_opened : (wide : Bool) (o y : CellValue) (ys : List CellValue) →
    drop (glyph_columns wide) (cells_after_cut o (y ∷ ys)) ≡ rest_after wide ys
after_opened false o y ys = drop_opened 0 o (y ∷ ys)
after_opened true o y ys = drop_opened 1 o (y ∷ ys)

pub glyph_put_here : (base : Canvas) (done below : List RowValue) (pre : List CellValue) (o y : CellValue)
    (ys : List CellValue) (wrapped : Bool) (r c : ℕ) (text : List ℕ) (wide : Bool) (attrs : Attrs) →
    Spot base done pre o y ys wrapped r c wide →
    glyph_put text wide attrs (spot base done below pre o y ys wrapped r c attrs).page
    ≡ (put base done below pre ys wrapped r c text wide attrs).page
glyph_put_here base done below pre o y ys wrapped r c text wide attrs at =
    let pen = pen_at r (c + glyph_columns wide) attrs in
    let row = λ (rest : List CellValue). pre ++ (glyph_cells text wide attrs ++ cells_after_cut (orphan wide attrs) rest) in
    glyph_put_at base done below pre (cells_after_cut o (y ∷ ys)) wrapped r c text wide attrs at.row at.col at.front
    ∙ (ap (λ (rest : List CellValue). (mid base done below (row rest) (kept wrapped (row rest)) pen).page)
    (after_opened wide o y ys)
    ∙ ap (λ (f : Bool). (mid base done below (with_glyph pre text wide attrs ys) f pen).page)
    (glyph_flag pre o y ys wrapped text wide attrs at.sound))

-- ---- a character that takes columns

pub char_drawn : (c : ℕ) (w : Option ℕ) (canvas : Canvas) (page : Page) → columns_of c ≡ w →
    (wraps_for w c canvas.page && feeds_out canvas.page) ≡ false → printed_by w c canvas.attrs canvas.page ≡ page →
    drawn_char c canvas ≡ Some (record canvas { page = page })
char_drawn c w canvas page e f h =
    let never : (wraps_for (columns_of c) c canvas.page && feeds_out canvas.page) ≡ false =
    ap (λ (z : Option ℕ). wraps_for z c canvas.page && feeds_out canvas.page) e ∙ f in
    let is : page_after_print c canvas.attrs canvas.page ≡ page =
    ap (λ (z : Option ℕ). printed_by z c canvas.attrs canvas.page) e ∙ h in
    rw (never, is) refl

pub char_drawn-mark : (c : ℕ) (canvas : Canvas) (page : Page) → columns_of c ≡ Some 0 →
    (wraps_for (Some 0) c canvas.page && feeds_out canvas.page) ≡ false →
    printed_by (Some 0) c canvas.attrs canvas.page ≡ page →
    drawn_char c canvas ≡ Some (record canvas { page = page })
char_drawn-mark c canvas page e f h = char_drawn c (Some 0) canvas page e f h

pub first_drawn : (base : Canvas) (done below : List RowValue) (pre : List CellValue) (o y : CellValue)
    (ys : List CellValue) (wrapped : Bool) (r c : ℕ) (first : ℕ) (wide : Bool) (attrs : Attrs) →
    columns_of first ≡ Some (glyph_columns wide) → Spot base done pre o y ys wrapped r c wide →
    drawn_char first (spot base done below pre o y ys wrapped r c attrs)
    ≡ Some (put base done below pre ys wrapped r c (encode_utf8 first) wide attrs)
first_drawn base done below pre o y ys wrapped r c first false attrs e at =
    let start = spot base done below pre o y ys wrapped r c attrs in
    let fits = at.fits in
    char_drawn first (Some 1) start (put base done below pre ys wrapped r c (encode_utf8 first) false attrs).page e
    (rw (room_there 1 start.page (omega arith)) refl)
    (ap (λ (page : Page). glyph_put (encode_utf8 first) false attrs page) (room_is 1 start.page (omega arith))
    ∙ glyph_put_here base done below pre o y ys wrapped r c (encode_utf8 first) false attrs at)
first_drawn base done below pre o y ys wrapped r c first true attrs e at =
    let start = spot base done below pre o y ys wrapped r c attrs in
    let fits = at.fits in
    let two : nat_lt 1 base.page.width ≡ true = lt-ltb 1 base.page.width (omega arith) in
    char_drawn first (Some 2) start (put base done below pre ys wrapped r c (encode_utf8 first) true attrs).page e
    (rw (two, room_there 2 start.page (omega arith)) refl)
    (rw two (ap (λ (page : Page). glyph_put (encode_utf8 first) true attrs page) (room_is 2 start.page (omega arith))
    ∙ glyph_put_here base done below pre o y ys wrapped r c (encode_utf8 first) true attrs at))
