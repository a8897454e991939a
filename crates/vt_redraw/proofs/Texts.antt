-- Printing the text of a glyph character by character has the effect of putting the glyph at once.
use Rattle.std.proofs.Common.{◌≡◌, ℕ, zero, suc, ◌+◌, ◌-◌, ◌≤◌, ◌==◌, ◌&&◌, nat_lt, Bool, true, false, not, List, []}
use Rattle.std.proofs.Common.{◌∷◌, ◌++◌, length, set, Some, refl, sym, ap, ◌∙◌, arith, ◌<◌, lit<, lit≤, drop, Option}
use Rattle.std.proofs.Common.{subst}
use Rattle.std.specs.Prelude.{if◌then◌else◌, chars}
use Rattle.std.specs.Char.{encode_utf8}
use Rattle.std.proofs.lemmas.List.{get_or_at, set_at}
use Rattle.std.proofs.lemmas.Str.{encode_ascii, chars-encodes}
use Rattle.std.proofs.lemmas.Bool.{lt-ltb, ne_eqb}
use Rattle.vt_cells.specs.Cell.{CellValue, glyph, right_half, default_blank, is_wide, is_right_half, text_of}
use Rattle.vt_cells.specs.Cell.{cell_with_mark, blank, cell_made_wide}
use Rattle.vt_cells.specs.Glyph.{columns_of, glyph_columns, is_selector, is_wide_text, has_room, IsMark}
use Rattle.vt_cells.specs.Attrs.{Attrs}
use Rattle.vt_cells.specs.Op.{Print}
use Rattle.vt_cells.proofs.Glyphs.{columns_of-ascii}
use Rattle.vt_rows.specs.Cells.{at, marked_at, cells_after_cut, put_cells, widened_at}
use Rattle.vt_rows.specs.Row.{RowValue}
use Rattle.vt_grid.specs.Page.{Page, cursor_row}
use Rattle.vt_grid.specs.Printing.{carries, mark_column, takes_mark, mark_put, made_wide, made_narrow, width_followed}
use Rattle.vt_grid.specs.Printing.{mark_printed, glyph_put, lacks_room, room_made, wrapped_page}
use Rattle.vt_grid.specs.Canvas.{Canvas, and_then, drawn_char, drawn_text, drawn_all}
use Rattle.vt_grid.proofs.Texts.{Draws}
use Rattle.vt_redraw.specs.Script.{pen_at, is_torn, wrapped_after_glyph}
use Rattle.vt_redraw.proofs.Halves.{kept, drop_opened, put_at, ends}
use Rattle.vt_redraw.proofs.Edits.{mid, glyph_cells, cursor_row_is, edited_at, two, orphan, room_there, room_is}
use Rattle.vt_redraw.proofs.Edits.{not_bottom, wraps, Spot, glyph_flag, put, rest_after, spot, with_glyph, first_drawn}
use Rattle.vt_redraw.proofs.Edits.{char_drawn, char_drawn-mark}

-- ==== Printing a glyph's text character by character has the same effect as putting the glyph at once.

-- Whether a glyph is wide after one more combining character.
abbrev pub next : ℕ → Bool → List ℕ → ℕ → Bool
next width wide text mark = if is_selector mark then is_wide_text (text ++ encode_utf8 mark) && nat_lt 1 width else wide

-- A text of the given width grows by the combining characters to another text and width, and is never made narrow on
-- the way.
abbrev pub Grows : ℕ → Bool → List ℕ → List ℕ → Bool → List ℕ → Type 0
Grows width wide text [] last whole = (wide ≡ last) × (text ≡ whole)
Grows width wide text (m ∷ ms) last whole =
    (IsMark m × (has_room text ≡ true))
    × ((wide ≡ true → next width wide text m ≡ true)
    × Grows width (next width wide text m) (text ++ encode_utf8 m) ms last whole)

-- The text prints as one glyph on a screen of the given width.
pub record Prints (width : ℕ) (text : List ℕ) (wide : Bool) : Type 0 where
  pub first : ℕ
  pub marks : List ℕ
  pub start : Bool
  pub is : chars text ≡ first ∷ marks
  pub columns : columns_of first ≡ Some (glyph_columns start)
  pub fits : glyph_columns wide ≤ width
  pub grows : Grows width start (encode_utf8 first) marks wide text

-- ---- the glyph that a combining character joins

at_second : (pre : List CellValue) (x y : CellValue) (rest : List CellValue) (k : ℕ) →
    suc (length pre) ≡ k → at (pre ++ x ∷ y ∷ rest) k ≡ y
at_second [] x y rest zero h = absurd (omega arith)
at_second [] x y rest (suc zero) h = refl
at_second [] x y rest (suc (suc k)) h = absurd (omega arith)
at_second (p ∷ pre) x y rest zero h = absurd (omega arith)
at_second (p ∷ pre) x y rest (suc k) h = at_second pre x y rest k (omega arith)

pub glyph_at : (pre : List CellValue) (text : List ℕ) (wide : Bool) (attrs : Attrs) (rest : List CellValue) (c : ℕ) →
    length pre ≡ c → at (pre ++ (glyph_cells text wide attrs ++ rest)) c ≡ glyph text wide attrs
glyph_at pre text false attrs rest c e = get_or_at pre (glyph text false attrs) rest default_blank c e
glyph_at pre text true attrs rest c e = get_or_at pre (glyph text true attrs) (right_half ∷ rest) default_blank c e

pub mark_column_at : (pre : List CellValue) (text : List ℕ)
    (wide : Bool) (attrs : Attrs) (rest : List CellValue) (c : ℕ) →
    length pre ≡ c →
    (if is_right_half (at (pre ++ (glyph_cells text wide attrs ++ rest)) (c + glyph_columns wide - 1))
    then c + glyph_columns wide - 2 else c + glyph_columns wide - 1)
    ≡ c
mark_column_at pre text false attrs rest c e =
    let i : c + 1 - 1 ≡ c = omega arith in
    rw (i, glyph_at pre text false attrs rest c e) refl
mark_column_at pre text true attrs rest c e =
    let i : c + 2 - 2 ≡ c = omega arith in
    rw (at_second pre (glyph text true attrs) right_half rest (c + 2 - 1) (omega arith)) i

-- The page with a glyph directly before its cursor.
abbrev pub marking : Canvas → (done below : List RowValue) → (pre : List CellValue) → (text : List ℕ) →
    (wide : Bool) → Attrs → (rest : List CellValue) → (wrapped : Bool) → (r c : ℕ) → Page
marking base done below pre text wide attrs rest wrapped r c =
    (mid base done below (pre ++ (glyph_cells text wide attrs ++ rest))
    wrapped (pen_at r (c + glyph_columns wide) attrs)).page

pub mark_column_is : (base : Canvas) (done below : List RowValue) (pre : List CellValue)
    (text : List ℕ) (wide : Bool) (attrs : Attrs) (rest : List CellValue) (wrapped : Bool) (r c : ℕ) →
    length done ≡ r → length pre ≡ c →
    mark_column (marking base done below pre text wide attrs rest wrapped r c) ≡ c
mark_column_is base done below pre text wide attrs rest wrapped r c e l =
    let pen = pen_at r (c + glyph_columns wide) attrs in
    ap (λ (row : RowValue). if is_right_half (at row.cells (c + glyph_columns wide - 1))
    then c + glyph_columns wide - 2 else c + glyph_columns wide - 1)
    (cursor_row_is base done below (pre ++ (glyph_cells text wide attrs ++ rest)) wrapped pen e)
    ∙ mark_column_at pre text wide attrs rest c l

pub marked_cell : (base : Canvas) (done below : List RowValue) (pre : List CellValue)
    (text : List ℕ) (wide : Bool) (attrs : Attrs) (rest : List CellValue) (wrapped : Bool) (r c : ℕ) →
    length done ≡ r → length pre ≡ c →
    at (cursor_row (marking base done below pre text wide attrs rest wrapped r c)).cells c ≡ glyph text wide attrs
marked_cell base done below pre text wide attrs rest wrapped r c e l =
    ap (λ (row : RowValue). at row.cells c)
    (cursor_row_is base done below (pre ++ (glyph_cells text wide attrs ++ rest))
    wrapped (pen_at r (c + glyph_columns wide) attrs) e)
    ∙ glyph_at pre text wide attrs rest c l

-- ---- no glyph is carried to the next row

never_carried : (s w wt lt eq : Bool) → (w ≡ false → (if s then wt && lt else w) ≡ true → eq ≡ false) →
    ((s && (true && not w)) && (wt && (lt && eq))) ≡ false
never_carried s w wt lt eq h = grind (arith, h)

pub stays : (m : ℕ) (page : Page) (k : ℕ) (text : List ℕ) (wide : Bool) (attrs : Attrs) →
    mark_column page ≡ k → at (cursor_row page).cells k ≡ glyph text wide attrs → has_room text ≡ true →
    (wide ≡ false → next page.width wide text m ≡ true → (page.column == page.width) ≡ false) → carries m page ≡ false
unfolding carries
stays m page k text wide attrs e x room h =
    let test = λ (cell : CellValue). (is_selector m && (takes_mark cell && not (is_wide cell)))
    && (is_wide_text (text_of (cell_with_mark m cell)) && (nat_lt 1 page.width && (page.column == page.width))) in
    ap (λ (j : ℕ). test (at (cursor_row page).cells j)) e
    ∙ (ap test x
    ∙ rw room (never_carried (is_selector m) wide (is_wide_text (text ++ encode_utf8 m))
    (nat_lt 1 page.width) (page.column == page.width) h))

-- ---- the combining character joins, and the width follows

pub put_marked : (base : Canvas) (done below : List RowValue) (pre : List CellValue) (text : List ℕ)
    (wide : Bool) (attrs : Attrs) (rest : List CellValue) (wrapped : Bool) (r c m : ℕ) →
    length done ≡ r → length pre ≡ c → has_room text ≡ true →
    mark_put c m (marking base done below pre text wide attrs rest wrapped r c)
    ≡ marking base done below pre (text ++ encode_utf8 m) wide attrs rest
    (kept wrapped (pre ++ (glyph_cells (text ++ encode_utf8 m) wide attrs ++ rest))) r c
put_marked base done below pre text wide attrs rest wrapped r c m e l room =
    edited_at base done below (pre ++ (glyph_cells text wide attrs ++ rest))
    wrapped (pen_at r (c + glyph_columns wide) attrs) (marked_at c m)
    (pre ++ (glyph_cells (text ++ encode_utf8 m) wide attrs ++ rest)) e
    (ap (λ (x : CellValue). set (pre ++ (glyph_cells text wide attrs ++ rest)) c (cell_with_mark m x))
    (glyph_at pre text wide attrs rest c l)
    ∙ (ap (λ (t : Bool). set (pre ++ (glyph_cells text wide attrs ++ rest))
    c (glyph (if t then text ++ encode_utf8 m else text) wide attrs))
    room
    ∙ replaced wide))
  where
    replaced : (wide : Bool) →
        set (pre ++ (glyph_cells text wide attrs ++ rest)) c (glyph (text ++ encode_utf8 m) wide attrs)
        ≡ pre ++ (glyph_cells (text ++ encode_utf8 m) wide attrs ++ rest)
    replaced false = set_at pre (glyph text false attrs) rest (glyph (text ++ encode_utf8 m) false attrs) c l
    replaced true =
        set_at pre (glyph text true attrs) (right_half ∷ rest) (glyph (text ++ encode_utf8 m) true attrs) c l

-- The page after a glyph takes on the width of its text.
abbrev pub followed : Bool → Bool → ℕ → Attrs → Page → Page
followed was wide k attrs page =
    if was then (if wide then page else made_narrow k attrs page) else (if wide then made_wide k attrs page else page)

followed_is : (page : Page) (k : ℕ) (attrs : Attrs) (text : List ℕ) (wide : Bool) (a : Attrs) →
    at (cursor_row page).cells k ≡ glyph text wide a →
    width_followed k attrs page ≡ followed wide (is_wide_text text && nat_lt 1 page.width) k attrs page
unfolding width_followed
followed_is page k attrs text wide a e =
    ap
    (λ (cell : CellValue). followed (is_wide cell) (is_wide_text (text_of cell) && nat_lt 1 page.width) k attrs page) e

-- Printing a combining character appends it to the glyph before the cursor, if that has room for it, and adapts the
-- glyph's width.
pub mark_printed_is : (base : Canvas) (done below : List RowValue) (pre : List CellValue)
    (text : List ℕ) (wide : Bool) (attrs : Attrs) (rest : List CellValue) (wrapped : Bool) (r c m : ℕ) →
    length done ≡ r → length pre ≡ c → has_room text ≡ true →
    carries m (marking base done below pre text wide attrs rest wrapped r c) ≡ false → (made : Page) →
    made
    ≡ marking base done below pre (text ++ encode_utf8 m) wide attrs rest
    (kept wrapped (pre ++ (glyph_cells (text ++ encode_utf8 m) wide attrs ++ rest))) r c →
    mark_printed m attrs (marking base done below pre text wide attrs rest wrapped r c)
    ≡ (if is_selector m
    then followed wide (is_wide_text (text ++ encode_utf8 m) && nat_lt 1 base.page.width) c attrs made else made)
unfolding mark_printed
mark_printed_is base done below pre text wide attrs rest wrapped r c m e l room never made is =
    let page = marking base done below pre text wide attrs rest wrapped r c in
    let longer = text ++ encode_utf8 m in
    let new = marking base done below pre longer wide attrs rest
    (kept wrapped (pre ++ (glyph_cells longer wide attrs ++ rest))) r c in
    let follow = followed_is new c attrs longer wide attrs
    (marked_cell base done below pre longer wide attrs rest
    (kept wrapped (pre ++ (glyph_cells longer wide attrs ++ rest))) r c e l) in
    rw never (ap (λ (k : ℕ). if takes_mark (at (cursor_row page).cells k)
    then (if is_selector m then width_followed k attrs (mark_put k m page) else mark_put k m page) else page)
    (mark_column_is base done below pre text wide attrs rest wrapped r c e l)
    ∙ (ap (λ (x : CellValue). if takes_mark x
    then (if is_selector m then width_followed c attrs (mark_put c m page) else mark_put c m page) else page)
    (marked_cell base done below pre text wide attrs rest wrapped r c e l)
    ∙ (ap (λ (t : Bool). if t
    then (if is_selector m then width_followed c attrs (mark_put c m page) else mark_put c m page) else page)
    room
    ∙ (ap (λ (q : Page). if is_selector m then width_followed c attrs q else q)
    (put_marked base done below pre text wide attrs rest wrapped r c m e l room)
    ∙ (ap (λ (q : Page). if is_selector m then q else new) follow
    ∙ ap (λ (q : Page). if is_selector m
    then followed wide (is_wide_text longer && nat_lt 1 base.page.width) c attrs q else q)
    (sym is))))))

-- ==== A space reproduces itself when printed on every screen.

spelled : encode_utf8 0x20 ≡ 0x20 ∷ []
spelled = encode_ascii 0x20 (lit< tt)

one_char : chars (0x20 ∷ []) ≡ 0x20 ∷ []
one_char = sym (ap (λ (text : List ℕ). chars (text ++ [])) spelled) ∙ chars-encodes (0x20 ∷ []) refl

pub space_prints : (width : ℕ) → 0 < width → Prints width (0x20 ∷ []) false
space_prints width h = record {
  first = 0x20;
  marks = [];
  start = false;
  is = one_char;
  columns = columns_of-ascii 0x20 (lit≤ tt) (lit< tt);
  fits = omega arith;
  grows = (refl, spelled);
}

pub space_first : (width : ℕ) (some : 0 < width) → (space_prints width some).first ≡ 0x20
unfolding space_prints
space_first width some = refl

-- ==== Printing the text of a steady glyph draws the glyph if there is room for it, and also with a wrap pending.

-- ---- one more combining character

flag_again : (f b : Bool) → ((f && not b) && not b) ≡ (f && not b)
flag_again f b = grind (arith)

pub no_tear : (f t : Bool) → (f && not (false && t)) ≡ f
no_tear f t = grind (arith)

-- A narrow glyph can be made wide in place.
grown_wide : (base : Canvas) (done below : List RowValue) (pre : List CellValue) (o y : CellValue)
    (ys : List CellValue) (wrapped : Bool) (r c : ℕ) (text : List ℕ) (attrs : Attrs) →
    Spot base done pre o y ys wrapped r c true →
    made_wide c attrs (put base done below pre ys wrapped r c text false attrs).page
    ≡ (put base done below pre ys wrapped r c text true attrs).page
unfolding made_wide
grown_wide base done below pre o y ys wrapped r c text attrs at_spot =
    let fits = at_spot.fits in
    let page = (put base done below pre ys wrapped r c text false attrs).page in
    let row = with_glyph pre text false attrs ys in
    let new = with_glyph pre text true attrs ys in
    let flagged = wrapped_after_glyph wrapped false (drop 1 ys) in
    let col : c + 1 + 1 ≡ c + 2 = omega arith in
    let wider : widened_at c attrs row ≡ new =
    ap (λ (x : CellValue). put_cells c (blank attrs) (cell_made_wide true x ∷ right_half ∷ []) 2 row)
    (glyph_at pre text false attrs (cells_after_cut (orphan false attrs) ys) c at_spot.col)
    ∙ (put_at pre (glyph text false attrs ∷ cells_after_cut (orphan false attrs) ys)
    (glyph text true attrs ∷ right_half ∷ []) (blank attrs) c 2 at_spot.col at_spot.front
    ∙ ap (λ (rest : List CellValue). pre ++ (glyph_cells text true attrs ++ cells_after_cut (blank attrs) rest))
    (drop_opened 0 (orphan false attrs) ys)) in
    let flags : kept flagged new ≡ wrapped_after_glyph wrapped true (drop 1 ys) =
    ap (λ (f : Bool). kept f new) (no_tear wrapped (is_torn (drop 1 ys)))
    ∙ glyph_flag pre o y ys wrapped text true attrs at_spot.sound in
    ap (λ (q : Page). record q { column = c + 1 + 1 })
    (edited_at base done below row flagged (pen_at r (c + 1) attrs) (widened_at c attrs) new at_spot.row wider)
    ∙ (ap (λ (f : Bool). (mid base done below new f (pen_at r (c + 1 + 1) attrs)).page) flags
    ∙ ap (λ (k : ℕ). (mid base done below new (wrapped_after_glyph wrapped true (drop 1 ys))
    (pen_at r k attrs)).page) col)

-- A glyph takes on the width that its text requires, unless it would be made narrow.
settled : (page : Bool → Page) (c : ℕ) (attrs : Attrs) (s q wide : Bool) →
    (wide ≡ true → (if s then q else wide) ≡ true) →
    ((if s then q else wide) ≡ true → made_wide c attrs (page false) ≡ page true) →
    (if s then followed wide q c attrs (page wide) else page wide) ≡ page (if s then q else wide)
settled page c attrs false q wide h made = refl
settled page c attrs true true true h made = refl
settled page c attrs true false true h made = let k = h refl in absurd (cc)
settled page c attrs true false false h made = refl
settled page c attrs true true false h made = made refl

pub wider_spot : (base : Canvas) (done : List RowValue) (pre : List CellValue)
    (o y : CellValue) (ys : List CellValue) (wrapped : Bool) (r c : ℕ) (w v : Bool) →
    glyph_columns w ≤ glyph_columns v → Spot base done pre o y ys wrapped r c v → Spot base done pre o y ys
    wrapped r c w
wider_spot base done pre o y ys wrapped r c w v le at_spot = let fits = at_spot.fits in
    record { row = at_spot.row; col = at_spot.col; fits = omega arith; front = at_spot.front; sound = at_spot.sound }

at_true : (n : Bool) (base : Canvas) (done : List RowValue) (pre : List CellValue)
    (o y : CellValue) (ys : List CellValue) (wrapped : Bool) (r c : ℕ) →
    n ≡ true → Spot base done pre o y ys wrapped r c n → Spot base done pre o y ys wrapped r c true
at_true n base done pre o y ys wrapped r c e at_spot = subst (Spot base done pre o y ys wrapped r c) e at_spot

widths_grow : (w v : Bool) → (w ≡ true → v ≡ true) → glyph_columns w ≤ glyph_columns v
widths_grow false false h = omega arith
widths_grow false true h = omega arith
widths_grow true true h = omega arith
widths_grow true false h = let k = h refl in absurd (cc)

some_column : (wide : Bool) (c : ℕ) → (c + glyph_columns wide == 0) ≡ false
some_column true c = ne_eqb (c + 2) 0 (λ same. omega arith)
some_column false c = ne_eqb (c + 1) 0 (λ same. omega arith)

-- A combining character joins a glyph of the given width, if the glyph isn't carried to the next row.
pub mark_follows : (base : Canvas) (done below : List RowValue) (pre : List CellValue) (o y : CellValue)
    (ys : List CellValue) (wrapped : Bool) (r c : ℕ) (text : List ℕ) (wide : Bool) (attrs : Attrs) (m : ℕ) →
    IsMark m → has_room text ≡ true → Spot base done pre o y ys wrapped r c wide →
    (wide ≡ false → next base.page.width wide text m ≡ true → c + 2 ≤ base.page.width) →
    drawn_char m (put base done below pre ys wrapped r c text wide attrs)
    ≡ Some (record (put base done below pre ys wrapped r c text wide attrs) {
      page =
          if is_selector m
          then followed wide (is_wide_text (text ++ encode_utf8 m) && nat_lt 1 base.page.width)
          c attrs (put base done below pre ys wrapped r c (text ++ encode_utf8 m) wide attrs).page
          else (put base done below pre ys wrapped r c (text ++ encode_utf8 m) wide attrs).page;
    })
mark_follows base done below pre o y ys wrapped r c text wide attrs m is_mark room at_spot place =
    let now = next base.page.width wide text m in
    let longer = text ++ encode_utf8 m in
    let canvas = put base done below pre ys wrapped r c text wide attrs in
    let made = (put base done below pre ys wrapped r c longer wide attrs).page in
    let rest = cells_after_cut (orphan wide attrs) (rest_after wide ys) in
    let flagged = wrapped_after_glyph wrapped wide (drop 1 ys) in
    let some = some_column wide c in
    let never : carries m canvas.page ≡ false =
    stays m canvas.page c text wide attrs
    (mark_column_is base done below pre text wide attrs rest flagged r c at_spot.row at_spot.col)
    (marked_cell base done below pre text wide attrs rest flagged r c at_spot.row at_spot.col) room
    (λ narrow t. ne_eqb (c + glyph_columns wide) base.page.width
    (λ same. let k : glyph_columns wide ≡ 1 =
    ap glyph_columns narrow in let l = place narrow t in absurd (omega arith))) in
    let again : flagged ≡ kept flagged (with_glyph pre longer wide attrs ys) =
    let one = glyph_flag pre o y ys wrapped longer wide attrs at_spot.sound in
    sym (ap (λ (f : Bool). kept f (with_glyph pre longer wide attrs ys)) (sym one)
    ∙ (flag_again wrapped (ends (with_glyph pre longer wide attrs ys)) ∙ one)) in
    char_drawn-mark m canvas
    (if is_selector m then followed wide (is_wide_text longer && nat_lt 1 base.page.width) c attrs made else made)
    is_mark.1
    (rw (some, never) refl)
    (rw some (
    mark_printed_is base done below pre text wide attrs rest flagged r c m at_spot.row at_spot.col room never made
    (ap (λ (f : Bool).
    (mid base done below (with_glyph pre longer wide attrs ys) f (pen_at r (c + glyph_columns wide) attrs)).page)
    again)))

room_for : (n : Bool) (c width : ℕ) → c + glyph_columns n ≤ width → n ≡ true → c + 2 ≤ width
room_for true c width h e = h
room_for false c width h e = absurd (cc)

-- Printing a combining character appends it to the glyph before the cursor.
pub mark_drawn : (base : Canvas) (done below : List RowValue) (pre : List CellValue) (o y : CellValue)
    (ys : List CellValue) (wrapped : Bool) (r c : ℕ) (text : List ℕ) (wide : Bool) (attrs : Attrs) (m : ℕ) →
    IsMark m → has_room text ≡ true → (wide ≡ true → next base.page.width wide text m ≡ true) →
    Spot base done pre o y ys wrapped r c (next base.page.width wide text m) →
    drawn_char m (put base done below pre ys wrapped r c text wide attrs)
    ≡ Some (put base done below pre ys wrapped r c (text ++ encode_utf8 m) (next base.page.width wide text m) attrs)
mark_drawn base done below pre o y ys wrapped r c text wide attrs m is_mark room grows at_spot =
    let now = next base.page.width wide text m in
    let longer = text ++ encode_utf8 m in
    let canvas = put base done below pre ys wrapped r c text wide attrs in
    let page = λ (w : Bool). (put base done below pre ys wrapped r c longer w attrs).page in
    mark_follows base done below pre o y ys wrapped r c text wide attrs m is_mark room
    (wider_spot base done pre o y ys wrapped r c wide now (widths_grow wide now grows) at_spot)
    (λ _ t. room_for now c base.page.width at_spot.fits t)
    ∙ ap (λ (p : Page). Some (record canvas { page = p }))
    (settled page c attrs (is_selector m) (is_wide_text longer && nat_lt 1 base.page.width) wide grows
    (λ t. grown_wide base done below pre o y ys wrapped r c longer
    attrs (at_true now base done pre o y ys wrapped r c t at_spot)))

-- ---- the whole text

pub grows_le : (width : ℕ) (wide : Bool) (text : List ℕ) (ms : List ℕ) (last : Bool) (whole : List ℕ) →
    Grows width wide text ms last whole → glyph_columns wide ≤ glyph_columns last
grows_le width wide text [] last whole h = widths_grow wide last (λ e. sym h.0 ∙ e)
grows_le width wide text (m ∷ ms) last whole h =
    let one = widths_grow wide (next width wide text m) h.1.0 in
    let rest = grows_le width (next width wide text m) (text ++ encode_utf8 m) ms last whole h.1.1 in
    omega arith

pub marks_drawn : (ms : List ℕ) (base : Canvas) (done below : List RowValue)
    (pre : List CellValue) (o y : CellValue) (ys : List CellValue) (wrapped : Bool) (r c : ℕ)
    (text : List ℕ) (wide : Bool) (attrs : Attrs) (last : Bool) (whole : List ℕ) →
    Grows base.page.width wide text ms last whole → Spot base done pre o y ys wrapped r c last →
    drawn_text ms (put base done below pre ys wrapped r c text wide attrs)
    ≡ Some (put base done below pre ys wrapped r c whole last attrs)
marks_drawn [] base done below pre o y ys wrapped r c text wide attrs last whole h at_spot =
    ap (λ (w : Bool). Some (put base done below pre ys wrapped r c text w attrs)) h.0
    ∙ ap (λ (t : List ℕ). Some (put base done below pre ys wrapped r c t last attrs)) h.1
marks_drawn (m ∷ ms) base done below pre o y ys wrapped r c text wide attrs last whole h at_spot =
    let now = next base.page.width wide text m in
    ap (λ (z : Option Canvas). and_then (drawn_text ms) z)
    (mark_drawn base done below pre o y ys wrapped r c text wide attrs m h.0.0 h.0.1 h.1.0
    (wider_spot base done pre o y ys wrapped r c now last
    (grows_le base.page.width now (text ++ encode_utf8 m) ms last whole h.1.1) at_spot))
    ∙ marks_drawn ms base done below pre o y ys wrapped r c (text ++ encode_utf8 m) now attrs last whole h.1.1 at_spot

-- Text can be printed at a boundary of a row if there is room for its glyph.
pub print_draws : (base : Canvas) (done below : List RowValue) (pre : List CellValue) (o y : CellValue)
    (ys : List CellValue) (wrapped : Bool) (r c : ℕ) (text : List ℕ) (wide : Bool) (attrs : Attrs) →
    Prints base.page.width text wide → Spot base done pre o y ys wrapped r c wide →
    Draws (Print text ∷ []) (spot base done below pre o y ys wrapped r c attrs)
    (put base done below pre ys wrapped r c text wide attrs)
print_draws base done below pre o y ys wrapped r c text wide attrs prints at_spot =
    let start = spot base done below pre o y ys wrapped r c attrs in
    let le = grows_le base.page.width prints.start (encode_utf8 prints.first) prints.marks wide text prints.grows in
    ap (λ (z : Option Canvas). and_then (drawn_all []) z)
    (ap (λ (cs : List ℕ). drawn_text cs start) prints.is
    ∙ (ap (λ (z : Option Canvas). and_then (drawn_text prints.marks) z)
    (first_drawn base done below pre o y ys wrapped r c prints.first prints.start attrs
    prints.columns (wider_spot base done pre o y ys wrapped r c prints.start wide le at_spot))
    ∙ marks_drawn prints.marks base done below pre o y ys wrapped r c
    (encode_utf8 prints.first) prints.start attrs wide text prints.grows at_spot))

-- ---- at a pending wrap

pub wrapped_room : (n : ℕ) (page other : Page) → lacks_room n page ≡ true →
    wrapped_page page ≡ other → room_made n page ≡ other
unfolding room_made
wrapped_room n page other t h = rw t h

pub first_wraps : (base : Canvas) (done below : List RowValue) (above : List CellValue) (wrapped_above : Bool)
    (cells : List CellValue) (wrapped : Bool) (r : ℕ) (attrs : Attrs) (first : ℕ) (wide : Bool) →
    length done ≡ r → base.page.bottom + 1 ≡ length done + suc (suc (length below)) →
    columns_of first ≡ Some (glyph_columns wide) → glyph_columns wide ≤ base.page.width →
    drawn_char first (two base done below above wrapped_above cells wrapped (pen_at r base.page.width attrs))
    ≡ drawn_char first (two base done below above (not (ends above)) cells wrapped (pen_at (r + 1) 0 attrs))
first_wraps base done below above wrapped_above cells wrapped r attrs first false e b c fits =
    let d1 = two base done below above wrapped_above cells wrapped (pen_at r base.page.width attrs) in
    let d2 = two base done below above (not (ends above)) cells wrapped (pen_at (r + 1) 0 attrs) in
    let s = not_bottom base done below above wrapped_above (record { cells = cells; wrapped = wrapped }) r e b in
    let full : lacks_room 1 d1.page ≡ true = lt-ltb (base.page.width - 1) base.page.width (omega arith) in
    char_drawn first (Some 1) d1 (glyph_put (encode_utf8 first) false attrs d2.page) c (rw (full, s) refl)
    (ap (glyph_put (encode_utf8 first) false attrs)
    (wrapped_room 1 d1.page d2.page full (wraps base done below above wrapped_above cells wrapped r base.page.width
    attrs e b)))
    ∙ sym (char_drawn first (Some 1) d2 (glyph_put (encode_utf8 first) false attrs d2.page)
    c (rw (room_there 1 d2.page (omega arith)) refl)
    (ap (glyph_put (encode_utf8 first) false attrs) (room_is 1 d2.page (omega arith))))
first_wraps base done below above wrapped_above cells wrapped r attrs first true e b c fits =
    let d1 = two base done below above wrapped_above cells wrapped (pen_at r base.page.width attrs) in
    let d2 = two base done below above (not (ends above)) cells wrapped (pen_at (r + 1) 0 attrs) in
    let s = not_bottom base done below above wrapped_above (record { cells = cells; wrapped = wrapped }) r e b in
    let full : lacks_room 2 d1.page ≡ true = lt-ltb (base.page.width - 2) base.page.width (omega arith) in
    let some : nat_lt 1 base.page.width ≡ true = lt-ltb 1 base.page.width (omega arith) in
    char_drawn first (Some 2) d1 (glyph_put (encode_utf8 first) true attrs d2.page) c (rw (some, full, s) refl)
    (rw some (ap (glyph_put (encode_utf8 first) true attrs)
    (wrapped_room 2 d1.page d2.page full (wraps base done below above wrapped_above cells wrapped r base.page.width
    attrs e b))))
    ∙ sym (char_drawn first (Some 2) d2 (glyph_put (encode_utf8 first) true attrs d2.page)
    c (rw (some, room_there 2 d2.page (omega arith)) refl)
    (rw some (ap (glyph_put (encode_utf8 first) true attrs) (room_is 2 d2.page (omega arith)))))

-- Text that is printed with a wrap pending appears at the beginning of the next row, and the row above becomes wrapped
-- exactly if its last column is not blank.
pub print_wraps : (base : Canvas) (done below : List RowValue) (above : List CellValue) (wrapped_above : Bool)
    (cells : List CellValue) (wrapped : Bool) (r : ℕ) (attrs : Attrs) (text : List ℕ) (wide : Bool) (goal : Canvas) →
    length done ≡ r → base.page.bottom + 1 ≡ length done + suc (suc (length below)) → Prints base.page.width text wide →
    Draws (Print text ∷ []) (two base done below above (not (ends above)) cells wrapped (pen_at (r + 1) 0 attrs)) goal →
    Draws (Print text ∷ []) (two base done below above wrapped_above cells wrapped
    (pen_at r base.page.width attrs)) goal
print_wraps base done below above wrapped_above cells wrapped r attrs text wide goal e b prints h =
    let d1 = two base done below above wrapped_above cells wrapped (pen_at r base.page.width attrs) in
    let d2 = two base done below above (not (ends above)) cells wrapped (pen_at (r + 1) 0 attrs) in
    let le = grows_le base.page.width prints.start (encode_utf8 prints.first) prints.marks wide text prints.grows in
    let fits = prints.fits in
    let same : drawn_text (chars text) d1 ≡ drawn_text (chars text) d2 =
    ap (λ (cs : List ℕ). drawn_text cs d1) prints.is
    ∙ (ap (λ (z : Option Canvas). and_then (drawn_text prints.marks) z)
    (first_wraps base done below above wrapped_above cells wrapped r attrs prints.first prints.start e b prints.columns
    (omega arith))
    ∙ sym (ap (λ (cs : List ℕ). drawn_text cs d2) prints.is)) in
    ap (λ (z : Option Canvas). and_then (drawn_all []) z) same ∙ h
