-- The parts of a script in the portable form are portable: moves, changes of attributes, glyphs and erased runs.
use Rattle.std.proofs.Common.{◌≡◌, ℕ, suc, ◌+◌, ◌-◌, ◌<◌, ◌≤◌, ◌==◌, ◌&&◌, ◌||◌, nat_lt, not, Bool, true}
use Rattle.std.proofs.Common.{false, List, [], ◌∷◌, ◌++◌, length, drop, Some, inl, inr, refl, sym, ap, ◌∙◌}
use Rattle.std.proofs.Common.{◌⊎◌, ⊎_elim, None, subst, arith}
use Rattle.std.specs.Prelude.{if◌then◌else◌, chars}
use Rattle.std.specs.Char.{encode_utf8}
use Rattle.std.proofs.lemmas.Bool.{cases_lt, cond_both, le-ltb, lt-ltb}
use Rattle.std.proofs.lemmas.Bool.Decides.{nat_tests}
use Rattle.std.proofs.lemmas.List.{get_or-append_right, length-append}
use Rattle.vt_cells.specs.Attrs.{default_attrs, same_attrs, same_intensity, Attrs}
use Rattle.vt_cells.specs.Cell.{CellValue, blank, default_blank, glyph, is_right_half, right_half}
use Rattle.vt_cells.specs.Glyph.{columns_of, glyph_columns}
use Rattle.vt_cells.specs.Op.{Op, ChangeAttrs, ClearAttrs, EraseChars, EraseRest, MoveTo, Print, cursor_move_ops}
use Rattle.vt_cells.specs.declared.attrs.Intensity.{Intensity}
use Rattle.vt_cells.specs.declared.attrs.Intensity.TheVariants.{Normal, Bold, Dim}
use Rattle.unicode_width.specs.Width.{char_width}
use Rattle.vt_cells.proofs.Glyphs.{four_bytes, three_bytes, two_bytes, encode_bounds}
use Rattle.vt_rows.specs.Cells.{at, cells_after_cut, ends_blank}
use Rattle.vt_rows.specs.Row.{RowValue}
use Rattle.vt_grid.specs.Canvas.{Canvas}
use Rattle.vt_grid.specs.Page.{Page, cursor_row}
use Rattle.vt_grid.proofs.Texts.{Draws}
use Rattle.vt_redraw.specs.Certain.{are_certain, is_certain, is_certain_narrow, is_certain_text}
use Rattle.vt_redraw.specs.Doubts.{Doubts, IsPlaced, Wrap, NotPending, Pending, wrap_at}
use Rattle.vt_redraw.specs.Uses.{PortableOps, doubts_after_text, Graphic, IsBoundary, doubts_after, may_print, piles_up}
use Rattle.vt_redraw.specs.Script.{attr_ops_in, change_ops, erase_run, move_ops, pen_at, placed_op, shifts}
use Rattle.vt_redraw.specs.Script.{swaps_intensity}
use Rattle.vt_redraw.specs.declared.form.Form.{Form}
use Rattle.vt_redraw.specs.declared.form.Form.TheVariants.{Fixed, Portable}
use Rattle.vt_redraw.specs.declared.pen.Pen.{Pen}
use Rattle.vt_redraw.proofs.Edits.{cursor_row_is, mid, row_of, Spot, first_drawn, put, spot, Reads, Within, at_pen}
use Rattle.vt_redraw.proofs.Edits.{changing_draws, going_draws}
use Rattle.vt_redraw.proofs.Halves.{Loose, Paired}
use Rattle.vt_redraw.proofs.Places.{at_after, drop_next, paired_start, rows_size}
use Rattle.vt_redraw.proofs.PortableSteps.{glyph_at_spot, printed, Keeps, Leaves, Places, change_keeps, leaves_then}
use Rattle.vt_redraw.proofs.PortableSteps.{move_places, moves_place, erase_keeps, erase_rest_keeps, portable_then}
use Rattle.vt_redraw.proofs.PortableSteps.{reset_keeps}
use Rattle.vt_redraw.proofs.Texts.{grows_le, mark_drawn, wider_spot, Grows, Prints, next}

-- ---- what is known of the terminals after each part

-- What is known of terminals that differ as the doubts say, and otherwise display the page. They agree on the cursor's
-- position, unless a glyph of uncertain width was printed since they last did. A wrap is pending at the end of a row that
-- ends with a glyph, and nowhere else, except in a row that ends with a blank.
pub record Known (is_shifted : Bool) (doubts : Doubts) (page : Page) : Type 0 where
  pub place : is_shifted ≡ false → doubts.is_shifted ≡ false
  pub inside : page.column < page.width → doubts.wrap ≡ NotPending
  pub behind : page.width ≤ page.column → ends_blank (cursor_row page).cells ≡ false → doubts.wrap ≡ Pending

-- Terminals agree on the effect of the operations, and are known afterward.
pub record Goes (ops : List Op) (doubts : Doubts) (a : Canvas) (now : Bool) (b : Canvas) : Type 0 where
  pub left : Doubts
  pub portable : PortableOps ops doubts a
  pub leaves : Leaves ops doubts a left
  pub known : Known now left b.page

-- Terminals that are known and display canvas `a` agree on the effect of the operations, and are known when they display
-- canvas `b` afterward. `was` and `now` tell whether they may differ in the cursor's position.
abbrev pub Portably : List Op → (was : Bool) → Canvas → (now : Bool) → Canvas → Type 0
Portably ops was a now b = (doubts : Doubts) → Known was doubts a.page → Goes ops doubts a now b

pub portably_both : (xs ys : List Op) (was middle now : Bool) (a b c : Canvas) → Draws xs a b →
    Portably xs was a middle b → Portably ys middle b now c → Portably (xs ++ ys) was a now c
portably_both xs ys was middle now a b c d h k doubts known =
    let one = h doubts known in
    let two = k one.left one.known in
    record {
      left = two.left;
      portable = portable_then xs ys doubts one.left a b one.portable d one.leaves two.portable;
      leaves = leaves_then xs ys doubts one.left two.left a b d one.leaves two.leaves;
      known = two.known;
    }

pub nothing_portably : (was : Bool) (a : Canvas) → Portably [] was a was a
nothing_portably was a doubts known = record { left = doubts; portable = tt; leaves = refl; known = known }

pub placed_known : (now : Bool) (doubts : Doubts) (page : Page) → IsPlaced doubts → page.column < page.width →
    Known now doubts page
placed_known now doubts page placed inside = record {
  place = λ _. placed.place;
  inside = λ _. placed.wrap;
  behind = λ le. absurd (omega (arith, inside, le));
}

-- Operations that change neither the cursor's position nor what is known of it.
pub keeps_known : (ops : List Op) (was : Bool) (doubts : Doubts) (a b : Canvas) → b.page ≡ a.page →
    Known was doubts a.page → Keeps ops doubts a → Goes ops doubts a was b
keeps_known ops was doubts a b e known keeps = record {
  left = keeps.left;
  portable = keeps.portable;
  leaves = keeps.leaves;
  known = subst (Known was keeps.left) (sym e) (record {
    place = λ f. keeps.place ∙ known.place f;
    inside = λ h. keeps.wrap ∙ known.inside h;
    behind = λ h full. keeps.wrap ∙ known.behind h full;
  });
}

-- ---- moves

pub moves_portably : (base : Canvas) (rows : List RowValue) (pen : Pen) (r c : ℕ) → r < length rows →
    c < base.page.width →
    Portably (move_ops pen r c) pen.is_shifted (at_pen base rows pen) false (at_pen base rows (pen_at r c pen.attrs))
unfolding move_ops
moves_portably base rows pen r c inside fits doubts known =
    let a = at_pen base rows pen in
    let placed =
    cond_both pen.is_shifted (MoveTo r c ∷ []) (cursor_move_ops pen.row pen.col r c) (λ (ops : List Op). Places ops
    doubts a)
    (λ _. move_places r c doubts a)
    (λ (f : pen.is_shifted ≡ false). moves_place pen.row pen.col r c doubts a refl inside fits
    (record { place = known.place f; wrap = known.inside })) in
    record {
      left = placed.left;
      portable = placed.portable;
      leaves = placed.leaves;
      known = placed_known false placed.left (at_pen base rows (pen_at r c pen.attrs)).page placed.placed fits;
    }

-- ---- attributes

no_pile : (i j : Intensity) →
    ((same_intensity i Bold && same_intensity j Dim) || (same_intensity i Dim && same_intensity j Bold)) ≡ false →
    piles_up i j ≡ false
no_pile Normal j f = refl
no_pile Bold Normal f = refl
no_pile Bold Bold f = refl
no_pile Bold Dim f = absurd cc
no_pile Dim Normal f = refl
no_pile Dim Bold f = absurd cc
no_pile Dim Dim f = refl

pub attrs_keep : (was new : Attrs) (doubts : Doubts) (canvas : Canvas) → canvas.attrs.intensity ≡ was.intensity →
    Keeps (attr_ops_in Portable was new) doubts canvas
unfolding attr_ops_in
attrs_keep was new doubts canvas e =
    let P = λ (ops : List Op). Keeps ops doubts canvas in
    cond_both (same_attrs was new) [] (change_ops Portable was new) P
    (λ _. record { left = doubts; wrap = refl; place = refl; portable = tt; leaves = refl })
    (λ _. cond_both (swaps_intensity was new) (ClearAttrs ∷ ChangeAttrs default_attrs new ∷ []) (ChangeAttrs was new ∷
    []) P
    (λ _. reset_keeps new doubts canvas)
    (λ (f : swaps_intensity was new ≡ false).
    change_keeps was new doubts canvas e (λ _. no_pile was.intensity new.intensity f)))

pub attrs_portably : (form : Form) → form ≡ Portable → (base : Canvas) (rows : List RowValue) (pen : Pen)
    (attrs : Attrs) (was : Bool) →
    Portably (attr_ops_in form pen.attrs attrs) was (at_pen base rows pen) was (at_pen base rows (pen_at pen.row
    pen.col attrs))
attrs_portably Fixed is base rows pen attrs was doubts known = absurd cc
attrs_portably Portable is base rows pen attrs was doubts known =
    keeps_known (attr_ops_in Portable pen.attrs attrs) was doubts (at_pen base rows pen)
    (at_pen base rows (pen_at pen.row pen.col attrs)) refl known
    (attrs_keep pen.attrs attrs doubts (at_pen base rows pen) refl)

-- ---- glyphs

-- What is known where a wrap is pending exactly after the last column.
pub exact_known : (now : Bool) (doubts : Doubts) (page : Page) → doubts.wrap ≡ wrap_at page.column page.width →
    (now ≡ false → doubts.is_shifted ≡ false) → Known now doubts page
exact_known now doubts page e place = record {
  place = place;
  inside = λ h. e ∙ ap (λ (b : Bool). if b then NotPending else Pending) (lt-ltb page.column page.width h);
  behind = λ h _. e ∙ ap (λ (b : Bool). if b then NotPending else Pending) (le-ltb page.column page.width h);
}

certain_parts : (first : ℕ) (marks : List ℕ) → are_certain (first ∷ marks) ≡ true →
    (is_certain first ≡ true) × (marks ≡ [])
certain_parts first [] t = (t, refl)
certain_parts first (m ∷ ms) t = absurd cc

hidden_control : (c : ℕ) → c < 0x20 → columns_of c ≡ None
unfolding columns_of char_width
hidden_control c h = grind (arith, nat_tests)

hidden_delete : columns_of 0x7F ≡ None
unfolding columns_of char_width
hidden_delete = refl

printable_certain : (c : ℕ) → 0x20 ≤ c → c < 0x7F → is_certain c ≡ true
unfolding is_certain_narrow
printable_certain c low high = grind (arith, nat_tests, low, high)

-- A character of one byte that takes columns of its own is printable ASCII.
ascii_certain : (c n : ℕ) → columns_of c ≡ Some (suc n) → c < 0x80 → is_certain c ≡ true
ascii_certain c n columns low = by_low (nat_lt c 0x20) refl where
  by_high : 0x20 ≤ c → (b : Bool) → (c == 0x7F) ≡ b → is_certain c ≡ true
  by_high le true t =
      let same : c ≡ 0x7F = grind (arith, nat_tests) in
      let none = ap columns_of same ∙ hidden_delete in absurd cc
  by_high le false f = let less : c < 0x7F = grind (arith, nat_tests) in printable_certain c le less

  by_low : (b : Bool) → nat_lt c 0x20 ≡ b → is_certain c ≡ true
  by_low true t = let less : c < 0x20 = grind (arith, nat_tests) in let none = hidden_control c less in absurd cc
  by_low false f = let le : 0x20 ≤ c = grind (arith, nat_tests) in by_high le (c == 0x7F) refl

long_encoding : (c : ℕ) → 0x80 ≤ c → 2 ≤ length (encode_utf8 c)
long_encoding c low = by_range (cases_lt c 0x800) (cases_lt c 0x1_0000) where
  by_range : (c < 0x800) ⊎ (0x800 ≤ c) → (c < 0x1_0000) ⊎ (0x1_0000 ≤ c) → 2 ≤ length (encode_utf8 c)
  by_range (inl two) three = let n = ap length (two_bytes c low two) in omega (arith, n)
  by_range (inr above) (inl three) = let n = ap length (three_bytes c above three) in omega (arith, n)
  by_range (inr above) (inr four) = let n = ap length (four_bytes c four) in omega (arith, n)

-- A glyph of one byte has no combining characters.
grows_long : (width : ℕ) (was : Bool) (text ms : List ℕ) (last : Bool) (whole : List ℕ) →
    Grows width was text ms last whole → length text + length ms ≤ length whole
grows_long width was text [] last whole h = let n = ap length h.1 in omega (arith, n)
grows_long width was text (m ∷ ms) last whole h =
    let more = grows_long width (next width was text m) (text ++ encode_utf8 m) ms last whole h.1.1 in
    let sum = length-append text (encode_utf8 m) in
    let some = (encode_bounds m).0 in
    omega (arith, more, sum, some)

none_left : (ms : List ℕ) → length ms ≡ 0 → ms ≡ []
none_left [] e = refl
none_left (m ∷ ms) e = absurd (omega (arith, e))

-- A glyph that does not shift the cursor is a single character of certain width.
certain_glyph : (width : ℕ) (text : List ℕ) (wide : Bool) (p : Prints width text wide) → shifts Portable text ≡ false →
    (is_certain p.first ≡ true) × (p.marks ≡ [])
certain_glyph width text wide p f = by_length (length text == 1) refl where
  columns : (start : Bool) → columns_of p.first ≡ Some (glyph_columns start) → p.first < 0x80 → is_certain p.first ≡
      true
  columns false e low = ascii_certain p.first 0 e low
  columns true e low = ascii_certain p.first 1 e low

  by_length : (b : Bool) → (length text == 1) ≡ b → (is_certain p.first ≡ true) × (p.marks ≡ [])
  by_length true t =
      let one : length text ≡ 1 = grind (arith, nat_tests) in
      let long = grows_long width p.start (encode_utf8 p.first) p.marks wide text p.grows in
      let some = (encode_bounds p.first).0 in (
        ⊎_elim (λ (low : p.first < 0x80). columns p.start p.columns low)
            (λ (high : 0x80 ≤ p.first). let two = long_encoding p.first high in absurd (omega (arith, one, long, two)))
            (cases_lt p.first 0x80),
        none_left p.marks (omega (arith, one, long, some)),
      )
  by_length false e =
      let certain : is_certain_text text ≡ true =
      not_false (is_certain_text text) (sym (ap (λ (b : Bool). not (b || is_certain_text text)) e) ∙ f) in
      certain_parts p.first p.marks (sym (ap are_certain p.is) ∙ certain)
    where
      not_false : (b : Bool) → not b ≡ false → b ≡ true
      not_false true e = refl
      not_false false e = absurd cc

-- After the combining characters of a glyph, a wrap is pending if the glyph ends in the last column.
pub marks_wrap : (ms : List ℕ) (base : Canvas) (done below : List RowValue) (pre : List CellValue) (o y : CellValue)
    (ys : List CellValue) (wrapped : Bool) (r c : ℕ) (text : List ℕ) (was : Bool) (attrs : Attrs) (last : Bool)
    (whole : List ℕ) (doubts : Doubts) → Grows base.page.width was text ms last whole →
    Spot base done pre o y ys wrapped r c last → doubts.wrap ≡ wrap_at (c + glyph_columns was) base.page.width →
    (doubts_after_text ms doubts (put base done below pre ys wrapped r c text was attrs)).wrap
    ≡ wrap_at (c + glyph_columns last) base.page.width
marks_wrap [] base done below pre o y ys wrapped r c text was attrs last whole doubts h at_spot e =
    e ∙ ap (λ (w : Bool). wrap_at (c + glyph_columns w) base.page.width) h.0
marks_wrap (m ∷ ms) base done below pre o y ys wrapped r c text was attrs last whole doubts h at_spot e =
    let now = next base.page.width was text m in
    let longer = text ++ encode_utf8 m in
    let le = grows_le base.page.width now longer ms last whole h.1.1 in
    let here = put base done below pre ys wrapped r c text was attrs in
    let later = doubts_after (Graphic m) doubts here in
    let same = printed m here (put base done below pre ys wrapped r c longer now attrs)
    (mark_drawn base done below pre o y ys wrapped r c text was attrs m h.0.0 h.0.1 h.1.0
    (wider_spot base done pre o y ys wrapped r c now last le at_spot)) in
    ap (λ (k : Canvas). (doubts_after_text ms later k).wrap) same
    ∙ marks_wrap ms base done below pre o y ys wrapped r c longer now attrs last whole later h.1.1 at_spot
    (ap (λ (k : Canvas). wrap_at k.page.column base.page.width) same)

text_wrap : (base : Canvas) (done below : List RowValue) (pre : List CellValue) (o y : CellValue)
    (ys : List CellValue) (wrapped : Bool) (r c : ℕ) (text : List ℕ) (wide : Bool) (attrs : Attrs) (doubts : Doubts) →
    Prints base.page.width text wide → Spot base done pre o y ys wrapped r c wide →
    (doubts_after_text (chars text) doubts (spot base done below pre o y ys wrapped r c attrs)).wrap
    ≡ wrap_at (c + glyph_columns wide) base.page.width
text_wrap base done below pre o y ys wrapped r c text wide attrs doubts prints at_spot =
    let start = spot base done below pre o y ys wrapped r c attrs in
    let le = grows_le base.page.width prints.start (encode_utf8 prints.first) prints.marks wide text prints.grows in
    let same = printed prints.first start
    (put base done below pre ys wrapped r c (encode_utf8 prints.first) prints.start attrs)
    (first_drawn base done below pre o y ys wrapped r c prints.first prints.start attrs prints.columns
    (wider_spot base done pre o y ys wrapped r c prints.start wide le at_spot)) in
    let later = doubts_after (Graphic prints.first) doubts start in
    ap (λ (cs : List ℕ). (doubts_after_text cs doubts start).wrap) prints.is
    ∙ (ap (λ (k : Canvas). (doubts_after_text prints.marks later k).wrap) same
    ∙ marks_wrap prints.marks base done below pre o y ys wrapped r c (encode_utf8 prints.first) prints.start attrs wide
    text
    later prints.grows at_spot (ap (λ (k : Canvas). wrap_at k.page.column base.page.width) same))

-- A glyph of certain width does not shift the cursor.
pub text_place : (width : ℕ) (text : List ℕ) (wide : Bool) (doubts : Doubts) (canvas : Canvas) → Prints width text wide
    →
    doubts.is_shifted ≡ false → shifts Portable text ≡ false → (doubts_after_text (chars text) doubts
    canvas).is_shifted ≡ false
text_place width text wide doubts canvas p place f =
    let certain = certain_glyph width text wide p f in
    ap (λ (cs : List ℕ). (doubts_after_text cs doubts canvas).is_shifted) (p.is ∙ ap (λ (ms : List ℕ). p.first ∷ ms)
    certain.1)
    ∙ (ap (λ (b : Bool). b || not (is_certain p.first)) place ∙ ap not certain.0)

may_print_placed : (c : ℕ) (doubts : Doubts) → doubts.wrap ≡ NotPending → doubts.is_shifted ≡ false →
    may_print c doubts.wrap doubts.is_shifted ≡ true
may_print_placed c doubts wrap place = ap (λ (w : Wrap). may_print c w doubts.is_shifted) wrap ∙ ap not place

pub some_columns : (wide : Bool) → 0 < glyph_columns wide
some_columns true = omega arith
some_columns false = omega arith

-- A glyph is printed at a boundary of a row where there is room for it.
pub glyph_portably : (base : Canvas) (done below : List RowValue) (pre : List CellValue) (o y : CellValue)
    (ys : List CellValue) (wrapped : Bool) (r c : ℕ) (text : List ℕ) (wide : Bool) (attrs : Attrs) →
    Prints base.page.width text wide → Spot base done pre o y ys wrapped r c wide →
    Portably (Print text ∷ []) false (spot base done below pre o y ys wrapped r c attrs) (shifts Portable text)
    (put base done below pre ys wrapped r c text wide attrs)
glyph_portably base done below pre o y ys wrapped r c text wide attrs prints at_spot doubts known =
    let start = spot base done below pre o y ys wrapped r c attrs in
    let some = some_columns wide in
    let fits = at_spot.fits in
    let place = known.place refl in
    record {
      left = doubts_after_text (chars text) doubts start;
      portable = (
        glyph_at_spot base done below pre o y ys wrapped r c text wide attrs doubts prints at_spot
            (may_print_placed prints.first doubts (known.inside (omega (arith, some, fits))) place),
        λ after e. tt,
      );
      leaves = λ after e. refl;
      known = exact_known (shifts Portable text) (doubts_after_text (chars text) doubts start)
          (put base done below pre ys wrapped r c text wide attrs).page
          (text_wrap base done below pre o y ys wrapped r c text wide attrs doubts prints at_spot)
          (text_place base.page.width text wide doubts start prints place);
    }

-- ---- one operation at a position

pub doing_portably : (base : Canvas) (done below : List RowValue) (row : List CellValue) (wrapped : Bool)
    (r c height : ℕ)
    (pen : Pen) (attrs : Attrs) (op : Op) (now : Bool) (goal : Canvas) → pen.form ≡ Portable →
    Reads base height base.page.width → length done ≡ r → r + suc (length below) ≡ height → c < base.page.width →
    Within pen height base.page.width →
    Portably (op ∷ []) false (mid base done below row wrapped (pen_at r c attrs)) now goal →
    Portably (placed_op pen r c attrs op) pen.is_shifted (mid base done below row wrapped pen) now goal
doing_portably base done below row wrapped r c height pen attrs op now goal is reads e h lt within go =
    let rows = done ++ row_of row wrapped ∷ below in
    let size = rows_size done below (row_of row wrapped) r height e h in
    portably_both (move_ops pen r c) (attr_ops_in pen.form pen.attrs attrs ++ op ∷ []) pen.is_shifted false now
    (at_pen base rows pen) (at_pen base rows (pen_at r c pen.attrs)) goal
    (going_draws base rows pen r c height base.page.width reads size within (omega arith) lt)
    (moves_portably base rows pen r c (omega arith) lt)
    (portably_both (attr_ops_in pen.form pen.attrs attrs) (op ∷ []) false false now
    (at_pen base rows (pen_at r c pen.attrs)) (at_pen base rows (pen_at r c attrs)) goal
    (changing_draws pen.form base rows (pen_at r c pen.attrs) attrs)
    (attrs_portably pen.form is base rows (pen_at r c pen.attrs) attrs false) go)

-- ---- erased runs

pub at_behind : (pre rest : List CellValue) (c k j : ℕ) → length pre ≡ c → j ≡ c + k → at (pre ++ rest) j ≡ at rest k
at_behind pre rest c k j l e =
    let i : j - c ≡ k = omega (arith, e) in
    get_or-append_right pre rest c j default_blank l (omega (arith, e)) ∙ ap (at rest) i

opens_whole : (o y : CellValue) (ys : List CellValue) → is_right_half o ≡ false →
    is_right_half (at (cells_after_cut o (y ∷ ys)) 0) ≡ false
opens_whole o (blank a) ys f = refl
opens_whole o (glyph text wide a) ys f = refl
opens_whole o right_half ys f = f

-- Erasing columns from a column in which a cell begins to another one keeps the cursor where it is.
pub erased_goes : (ops : List Op) (doubts : Doubts) (a b : Canvas) → Keeps ops doubts a → IsPlaced doubts →
    b.page.column < b.page.width → Goes ops doubts a false b
erased_goes ops doubts a b keeps placed inside = record {
  left = keeps.left;
  portable = keeps.portable;
  leaves = keeps.leaves;
  known = placed_known false keeps.left b.page
      (record { wrap = keeps.wrap ∙ placed.wrap; place = keeps.place ∙ placed.place }) inside;
}

pub run_portably : (form : Form) → form ≡ Portable → (base : Canvas) (done below : List RowValue) (pre : List CellValue)
    (o y : CellValue) (ys : List CellValue) (wrapped : Bool) (r c n : ℕ) (attrs : Attrs) (goal : Canvas) →
    length done ≡ r → length pre ≡ c → c < base.page.width → Loose (drop n ys) → is_right_half o ≡ false →
    goal.page.column ≡ c → goal.page.width ≡ base.page.width →
    Portably (erase_run form (suc n) (drop n ys) ∷ []) false
    (mid base done below (pre ++ cells_after_cut o (y ∷ ys)) wrapped (pen_at r c attrs)) false goal
run_portably Fixed is base done below pre o y ys wrapped r c n attrs goal e l fits loose whole col wide doubts known =
    absurd cc
run_portably Portable is base done below pre o y ys wrapped r c n attrs goal e l fits loose whole col wide
    doubts known =
    by_rest (drop n ys) refl
  where
    old : List CellValue
    old = cells_after_cut o (y ∷ ys)

    start : Canvas
    start = mid base done below (pre ++ old) wrapped (pen_at r c attrs)

    placed : IsPlaced doubts
    placed = record { wrap = known.inside fits; place = known.place refl }

    boundary : (j k : ℕ) → j ≡ c + k → is_right_half (at old k) ≡ false → IsBoundary j (cursor_row start.page).cells
    boundary j k i f =
        ap (λ (row : RowValue). is_right_half (at row.cells j))
        (cursor_row_is base done below (pre ++ old) wrapped (pen_at r c attrs) e)
        ∙ (ap is_right_half (at_behind pre old c k j l i) ∙ f)

    begin : IsBoundary c (cursor_row start.page).cells
    begin = boundary c 0 (omega arith) (opens_whole o y ys whole)

    goes : (ops : List Op) → Keeps ops doubts start → Goes ops doubts start false goal
    goes ops keeps = erased_goes ops doubts start goal keeps placed (omega (arith, col, wide, fits))

    by_half : (z : CellValue) (zs : List CellValue) → drop n ys ≡ z ∷ zs → (b : Bool) → is_right_half z ≡ b →
        Goes (EraseChars (if b then suc n + 1 else suc n) ∷ []) doubts start false goal
    by_half z zs is false f =
        goes (EraseChars (suc n) ∷ []) (erase_keeps n doubts start placed begin
        (boundary (c + suc n) (suc n) refl
        (ap is_right_half (at_after o y ys n ∙ ap (λ (w : List CellValue). at w 0) is) ∙ f)))
    by_half z zs is true t =
        let count : suc (suc n) ≡ suc n + 1 = omega arith in
        let half : z ≡ right_half = half_is z t in
        let rest : drop (suc n) ys ≡ zs = drop_next n ys zs z is in
        let paired : Paired zs = subst Loose (is ∙ ap (λ (w : CellValue). w ∷ zs) half) loose in
        subst (λ (m : ℕ). Goes (EraseChars m ∷ []) doubts start false goal) count
        (goes (EraseChars (suc (suc n)) ∷ []) (erase_keeps (suc n) doubts start placed begin
        (boundary (c + suc (suc n)) (suc (suc n)) refl
        (ap is_right_half (at_after o y ys (suc n) ∙ ap (λ (w : List CellValue). at w 0) rest)
        ∙ paired_start zs paired))))
      where
        half_is : (z : CellValue) → is_right_half z ≡ true → z ≡ right_half
        half_is right_half t = refl
        half_is (blank a) t = absurd cc
        half_is (glyph text wide a) t = absurd cc

    by_rest : (zs : List CellValue) → drop n ys ≡ zs → Goes (erase_run Portable (suc n) zs ∷ []) doubts start false goal
    by_rest [] is = goes (EraseRest ∷ []) (erase_rest_keeps doubts start placed begin)
    by_rest (z ∷ zs) is = by_half z zs is (is_right_half z) refl
