-- The effect of operations, together with the positions that they touch.
use Rattle.std.proofs.Common.{◌≡◌, ℕ, zero, suc, ◌+◌, ◌-◌, ◌<◌, ◌≤◌, ◌==◌, ◌&&◌, ◌||◌, ◌⊎◌, nat_lt, Bool, true, false}
use Rattle.std.proofs.Common.{List, [], ◌∷◌, ◌++◌, length, replicate, Option, Some, None, inl, inr, refl, sym, ap, ◌∙◌}
use Rattle.std.proofs.Common.{subst, arith, not, drop}
use Rattle.std.specs.Prelude.{nat_le, if◌then◌else◌, chars}
use Rattle.std.proofs.lemmas.Bool.{cond_both, lt-ltb}
use Rattle.std.proofs.lemmas.Bool.Decides.{nat_tests}
use Rattle.std.proofs.lemmas.List.{get_or-append_right}
use Rattle.std.specs.Char.{encode_utf8}
use Rattle.vt_cells.specs.Attrs.{same_attrs, Attrs, default_attrs}
use Rattle.vt_cells.specs.Cell.{CellValue, blank, glyph, right_half, default_blank, is_wide, is_right_half, text_of}
use Rattle.vt_cells.specs.Op.{Op, Hide, ClearAttrs, MoveTo, MoveRight, NextRow, LineFeed, Backspace, EraseBelow}
use Rattle.vt_cells.specs.Op.{EraseRest, EraseChars, SaveCursor, RestoreCursor, ChangeAttrs, Print, cursor_move_ops}
use Rattle.vt_cells.specs.Glyph.{columns_of, glyph_columns, is_selector, is_wide_text, has_room, IsMark}
use Rattle.vt_rows.specs.Cells.{at, cells_after_cut}
use Rattle.vt_rows.specs.Row.{RowValue}
use Rattle.vt_grid.specs.Canvas.{Canvas, and_then, drawn_all}
use Rattle.vt_grid.specs.Page.{Page, cursor_row}
use Rattle.vt_grid.specs.Printing.{room_made, lacks_room}
use Rattle.vt_grid.proofs.Texts.{Draws, draws_then}
use Rattle.vt_redraw.specs.Script.{pen_at, move_ops, attr_ops_in, change_ops, resets, back_op, wrapped_after_glyph}
use Rattle.vt_redraw.specs.declared.form.Form.{Form}
use Rattle.vt_redraw.specs.declared.pen.Pen.{Pen}
use Rattle.vt_redraw.specs.Locality.{is_touched, Changes, OpTouches, Touches, WideTouches, FollowTouches, MarkTouches}
use Rattle.vt_redraw.specs.Locality.{CharTouches, TextTouches}
use Rattle.vt_redraw.specs.declared.form.Form.TheVariants.{Fixed, Portable}
use Rattle.vt_redraw.proofs.Halves.{Paired, ends, kept}
use Rattle.vt_redraw.proofs.Edits.{mid, cursor_row_is, two, glyph_cells, orphan, room_is, wraps, Spot, first_drawn, put}
use Rattle.vt_redraw.proofs.Edits.{rest_after, spot}
use Rattle.vt_redraw.proofs.Texts.{next, Grows, Prints, marking, mark_column_is, marked_cell, put_marked, mark_drawn}
use Rattle.vt_redraw.proofs.Texts.{print_draws, print_wraps, wider_spot, grows_le, first_wraps, wrapped_room}

-- ==== The effect of operations, together with the positions that they touch.

-- The operations turn canvas a into canvas b, and touch only positions for which `May` holds.
pub record DrawsIn (May : ℕ → ℕ → Type 0) (ops : List Op) (a b : Canvas) : Type 0 where
  pub draws : Draws ops a b
  pub touches : Touches May ops a

canvas_or : Canvas → Option Canvas → Canvas
canvas_or other (Some c) = c
canvas_or other None = other

pub some_same : (a b : Canvas) → Some a ≡ Some b → a ≡ b
unfolding canvas_or
some_same a b e = ap (canvas_or a) e

touches_then : (May : ℕ → ℕ → Type 0) (xs ys : List Op) (a b : Canvas) →
    Touches May xs a → Draws xs a b → Touches May ys b → Touches May (xs ++ ys) a
touches_then May [] ys a b t d u = subst (Touches May ys) (sym (some_same a b d)) u
touches_then May (x ∷ xs) ys a b t d u = (
  t.0,
  λ next e. touches_then May xs ys next b (t.1 next e)
      (sym (ap (λ (z : Option Canvas). and_then (drawn_all xs) z) e) ∙ d) u,
)

pub in_then : (May : ℕ → ℕ → Type 0) (xs ys : List Op) (a b c : Canvas) →
    DrawsIn May xs a b → DrawsIn May ys b c → DrawsIn May (xs ++ ys) a c
in_then May xs ys a b c h k = record {
  draws = draws_then xs ys a b c h.draws k.draws;
  touches = touches_then May xs ys a b h.touches h.draws k.touches;
}

-- If operations draw a canvas, they draw every canvas equal to it.
pub in_to : (May : ℕ → ℕ → Type 0) (ops : List Op) (a b c : Canvas) → DrawsIn May ops a b → b ≡ c → DrawsIn May ops a c
in_to May ops a b c h e = subst (DrawsIn May ops a) e h

-- ---- operations that touch nothing

abbrev pub is_quiet : Op → Bool
is_quiet (Print text) = false
is_quiet EraseBelow = false
is_quiet EraseRest = false
is_quiet (EraseChars n) = false
is_quiet (Hide hidden) = true
is_quiet ClearAttrs = true
is_quiet (MoveTo row col) = true
is_quiet (MoveRight count) = true
is_quiet NextRow = true
is_quiet LineFeed = true
is_quiet Backspace = true
is_quiet SaveCursor = true
is_quiet RestoreCursor = true
is_quiet (ChangeAttrs was new) = true

quiet_op : (May : ℕ → ℕ → Type 0) (op : Op) (canvas : Canvas) → is_quiet op ≡ true → OpTouches May op canvas
quiet_op May (Print text) canvas h = absurd (cc)
quiet_op May EraseBelow canvas h = absurd (cc)
quiet_op May EraseRest canvas h = absurd (cc)
quiet_op May (EraseChars n) canvas h = absurd (cc)
quiet_op May (Hide hidden) canvas h = tt
quiet_op May ClearAttrs canvas h = tt
quiet_op May (MoveTo row col) canvas h = tt
quiet_op May (MoveRight count) canvas h = tt
quiet_op May NextRow canvas h = tt
quiet_op May LineFeed canvas h = tt
quiet_op May Backspace canvas h = tt
quiet_op May SaveCursor canvas h = tt
quiet_op May RestoreCursor canvas h = tt
quiet_op May (ChangeAttrs was new) canvas h = tt

abbrev pub AllQuiet : List Op → Type 0
AllQuiet [] = Unit {0}
AllQuiet (op ∷ ops) = (is_quiet op ≡ true) × AllQuiet ops

pub quiet_touches : (May : ℕ → ℕ → Type 0) (ops : List Op) (canvas : Canvas) → AllQuiet ops → Touches May ops canvas
quiet_touches May [] canvas h = tt
quiet_touches May (op ∷ ops) canvas h = (quiet_op May op canvas h.0, λ next e. quiet_touches May ops next h.1)

pub quiet_in : (May : ℕ → ℕ → Type 0) (ops : List Op) (a b : Canvas) →
    AllQuiet ops → Draws ops a b → DrawsIn May ops a b
quiet_in May ops a b h d = record { draws = d; touches = quiet_touches May ops a h }

pub going_quiet : (pen : Pen) (r c : ℕ) → AllQuiet (move_ops pen r c)
unfolding move_ops
going_quiet pen r c =
    cond_both pen.is_shifted (MoveTo r c ∷ []) (cursor_move_ops pen.row pen.col r c) AllQuiet (λ _. (refl, tt))
    (λ _. cond_both ((r == pen.row + 1) && (c == 0)) (NextRow ∷ []) _ AllQuiet (λ _. (refl, tt))
    (λ _. cond_both ((r == pen.row) && nat_lt pen.col c) (MoveRight (c - pen.col) ∷ []) _ AllQuiet (λ _. (refl, tt))
    (λ _. cond_both ((r == pen.row) && (c == pen.col)) [] (MoveTo r c ∷ []) AllQuiet (λ _. tt) (λ _. (refl, tt)))))

pub changing_quiet : (form : Form) (was new : Attrs) → AllQuiet (attr_ops_in form was new)
unfolding attr_ops_in
changing_quiet form was new =
    cond_both (same_attrs was new) [] (change_ops form was new) AllQuiet (λ _. tt)
    (λ _. cond_both (resets form was new) (ClearAttrs ∷ ChangeAttrs default_attrs new ∷ [])
    (ChangeAttrs was new ∷ []) AllQuiet (λ _. (refl, (refl, tt))) (λ _. (refl, tt)))

pub back_quiet : (form : Form) (r c : ℕ) → AllQuiet (back_op form r c ∷ [])
back_quiet Fixed r c = (refl, tt)
back_quiet Portable r c = (refl, tt)

pub feeds_quiet : (n : ℕ) → AllQuiet (replicate n LineFeed)
feeds_quiet zero = tt
feeds_quiet (suc n) = (refl, feeds_quiet n)

-- ---- a change at a boundary of a row

last_not_wide : (pre rest : List CellValue) (k : ℕ) → Paired pre →
    suc k ≡ length pre → is_wide (at (pre ++ rest) k) ≡ false
last_not_wide [] rest k h e = absurd (omega arith)
last_not_wide (blank a ∷ pre) rest zero h e = refl
last_not_wide (blank a ∷ pre) rest (suc k) h e = last_not_wide pre rest k h (omega arith)
last_not_wide (glyph text false a ∷ pre) rest zero h e = refl
last_not_wide (glyph text false a ∷ pre) rest (suc k) h e = last_not_wide pre rest k h (omega arith)
last_not_wide (glyph text true a ∷ []) rest k h e = absurd h
last_not_wide (glyph text true a ∷ blank b ∷ pre) rest k h e = absurd h
last_not_wide (glyph text true a ∷ glyph other wide b ∷ pre) rest k h e = absurd h
last_not_wide (glyph text true a ∷ right_half ∷ pre) rest zero h e = absurd (omega arith)
last_not_wide (glyph text true a ∷ right_half ∷ pre) rest (suc zero) h e = refl
last_not_wide (glyph text true a ∷ right_half ∷ pre) rest (suc (suc k)) h e = last_not_wide pre rest k h (omega arith)
last_not_wide (right_half ∷ pre) rest k h e = absurd h

touched_or : (inside before behind : Bool) → (inside || (before || behind)) ≡ true →
    before ≡ false → (inside ≡ true) ⊎ (behind ≡ true)
touched_or true before behind h n = inl refl
touched_or false true behind h n = absurd (cc)
touched_or false false behind h n = inr h

no_left : (pre rest : List CellValue) (c k : ℕ) → length pre ≡ c →
    Paired pre → ((k + 1 == c) && is_wide (at (pre ++ rest) k)) ≡ false
no_left pre rest c k e h = by_test (k + 1 == c) refl where
  by_test : (b : Bool) → (k + 1 == c) ≡ b → (b && is_wide (at (pre ++ rest) k)) ≡ false
  by_test false t = refl
  by_test true t = let same : k + 1 ≡ c = grind (arith, nat_tests) in last_not_wide pre rest k h (omega arith)

-- A change of n columns after the cells `pre` touches those columns, and an orphaned continuation cell after them.
pub changes_at : (May : ℕ → ℕ → Type 0) (base : Canvas) (done below : List RowValue)
    (pre rest : List CellValue) (wrapped : Bool) (r c n col : ℕ) (a : Attrs) →
    length done ≡ r → length pre ≡ c → Paired pre →
    ((k : ℕ) → c ≤ k → k < c + n → May r k) → (is_right_half (at rest n) ≡ true → May r (c + n)) →
    Changes May c n (mid base done below (pre ++ rest) wrapped (pen_at r col a)).page
changes_at May base done below pre rest wrapped r c n col a e l h inside behind k t =
    let row = ap (λ (row : RowValue). is_touched c n row.cells k)
    (cursor_row_is base done below (pre ++ rest) wrapped (pen_at r col a) e) in
    elim (touched_or (nat_le c k && nat_lt k (c + n)) ((k + 1 == c) && is_wide (at (pre ++ rest) k))
    ((k == c + n) && is_right_half (at (pre ++ rest) k)) (sym row ∙ t) (no_left pre rest c k l h)) [
      | inl u ↦ let p : (c ≤ k) × (k < c + n) = grind (arith, nat_tests) in inside k p.0 p.1
      | inr u ↦
          let same : k ≡ c + n = grind (arith, nat_tests) in
          let torn : is_right_half (at (pre ++ rest) k) ≡ true = grind (arith) in
          let i : k - c ≡ n = omega arith in
          let there = get_or-append_right pre rest c k default_blank l (omega arith) in
          subst (May r) (sym same) (behind (sym (ap is_right_half (there ∙ ap (at rest) i)) ∙ torn))
    ]

-- ==== Printing the text of a steady glyph touches the columns of the glyph, and an orphaned continuation cell after
-- them.

-- `May` holds for all positions that a glyph at column c of row r touches when it is printed over other cells.
pub record MayGlyph (May : ℕ → ℕ → Type 0) (r c : ℕ) (wide : Bool) (ys : List CellValue) : Type 0 where
  pub first : May r c
  pub second : wide ≡ true → May r (c + 1)
  pub torn : is_right_half (at (rest_after wide ys) 0) ≡ true → May r (c + glyph_columns wide)

at_opened : (o y : CellValue) (ys : List CellValue) (k : ℕ) → at (cells_after_cut o (y ∷ ys)) (suc k) ≡ at ys k
at_opened o (blank a) ys k = refl
at_opened o (glyph text wide a) ys k = refl
at_opened o right_half ys k = refl

at_second : (o : CellValue) (ys : List CellValue) → at (cells_after_cut o ys) 1 ≡ at ys 1
at_second o [] = refl
at_second o (blank a ∷ ys) = refl
at_second o (glyph text wide a ∷ ys) = refl
at_second o (right_half ∷ ys) = refl

at_drop : (ys : List CellValue) → at (drop 1 ys) 0 ≡ at ys 1
at_drop [] = refl
at_drop (y ∷ ys) = refl

-- `May` holds for each column in a range of one column.
within_one : (May : ℕ → ℕ → Type 0) (r c k : ℕ) → May r c → c ≤ k → k < c + 1 → May r k
within_one May r c k h le lt = let e : c ≡ k = omega arith in subst (May r) e h

within_two : (May : ℕ → ℕ → Type 0) (r c k : ℕ) → May r c → May r (c + 1) → c ≤ k → k < c + 2 → May r k
within_two May r c k h g le lt = by_test (k == c) refl where
  by_test : (b : Bool) → (k == c) ≡ b → May r k
  by_test true t = let e : c ≡ k = grind (arith, nat_tests) in subst (May r) e h
  by_test false t = let e : c + 1 ≡ k = grind (arith, nat_tests) in subst (May r) e g

-- Printing the first character of a glyph touches one or two columns.
first_touches : (May : ℕ → ℕ → Type 0) (base : Canvas) (done below : List RowValue) (pre : List CellValue)
    (o y : CellValue) (ys : List CellValue) (wrapped : Bool) (r c first : ℕ) (start wide : Bool) (attrs : Attrs) →
    columns_of first ≡ Some (glyph_columns start) → (start ≡ true → wide ≡ true) →
    Spot base done pre o y ys wrapped r c wide → MayGlyph May r c wide ys →
    CharTouches May (columns_of first) first attrs (spot base done below pre o y ys wrapped r c attrs).page
first_touches May base done below pre o y ys wrapped r c first false false attrs e grows at_spot may =
    let page = (spot base done below pre o y ys wrapped r c attrs).page in
    let fits = at_spot.fits in
    subst (λ (w : Option ℕ). CharTouches May w first attrs page) (sym e)
    (subst (λ (p : Page). Changes May p.column 1 p) (sym (room_is 1 page (omega arith)))
    (changes_at May base done below pre (cells_after_cut o (y ∷ ys)) wrapped r c 1 c attrs at_spot.row at_spot.col
    at_spot.front (λ k le lt. within_one May r c k may.first le lt)
    (λ t. may.torn (sym (ap is_right_half (at_opened o y ys 0)) ∙ t))))
first_touches May base done below pre o y ys wrapped r c first false true attrs e grows at_spot may =
    let page = (spot base done below pre o y ys wrapped r c attrs).page in
    let fits = at_spot.fits in
    subst (λ (w : Option ℕ). CharTouches May w first attrs page) (sym e)
    (subst (λ (p : Page). Changes May p.column 1 p) (sym (room_is 1 page (omega arith)))
    (changes_at May base done below pre (cells_after_cut o (y ∷ ys)) wrapped r c 1 c attrs at_spot.row at_spot.col
    at_spot.front (λ k le lt. within_one May r c k may.first le lt) (λ t. may.second refl)))
first_touches May base done below pre o y ys wrapped r c first true true attrs e grows at_spot may =
    let page = (spot base done below pre o y ys wrapped r c attrs).page in
    let fits = at_spot.fits in
    subst (λ (w : Option ℕ). CharTouches May w first attrs page) (sym e)
    (λ _. subst (λ (p : Page). Changes May p.column 2 p) (sym (room_is 2 page (omega arith)))
    (changes_at May base done below pre (cells_after_cut o (y ∷ ys)) wrapped r c 2 c attrs at_spot.row at_spot.col
    at_spot.front (λ k le lt. within_two May r c k may.first (may.second refl) le lt)
    (λ t. may.torn (ap is_right_half (at_drop ys) ∙ (sym (ap is_right_half (at_opened o y ys 1)) ∙ t)))))
first_touches May base done below pre o y ys wrapped r c first true false attrs e grows at_spot may =
    let k = grows refl in absurd (cc)

-- Making a narrow glyph wide in place touches both of its columns.
wide_touches : (May : ℕ → ℕ → Type 0) (base : Canvas) (done below : List RowValue)
    (pre : List CellValue) (o y : CellValue) (ys : List CellValue)
    (now wrapped : Bool) (r c : ℕ) (text : List ℕ) (was wide : Bool) (attrs : Attrs) →
    was ≡ false → wide ≡ true →
    Spot base done pre o y ys wrapped r c wide → MayGlyph May r c wide ys →
    WideTouches May c attrs
    (marking base done below pre text was attrs (cells_after_cut (orphan was attrs) (rest_after was ys)) now r c)
wide_touches May base done below pre o y ys now wrapped r c text true wide attrs w v at_spot may = absurd (cc)
wide_touches May base done below pre o y ys now wrapped r c text false false attrs w v at_spot may = absurd (cc)
wide_touches May base done below pre o y ys now wrapped r c text false true attrs w v at_spot may =
    let fits = at_spot.fits in
    let lt : nat_lt (c + 1) base.page.width ≡ true = lt-ltb (c + 1) base.page.width (omega arith) in (
      (λ _. changes_at May base done below pre (glyph text false attrs ∷ cells_after_cut (orphan false attrs) ys)
          now r c 2 (c + 1) attrs at_spot.row at_spot.col at_spot.front
          (λ k le lt. within_two May r c k may.first (may.second refl) le lt)
          (λ t. may.torn
          (ap is_right_half (at_drop ys) ∙ (sym (ap is_right_half (at_second (orphan false attrs) ys)) ∙ t)))),
      (λ t. absurd (cc)),
    )

-- Printing one more combining character touches only the columns of the glyph.
mark_touches : (May : ℕ → ℕ → Type 0) (base : Canvas) (done below : List RowValue)
    (pre : List CellValue) (o y : CellValue) (ys : List CellValue) (wrapped : Bool)
    (r c : ℕ) (text : List ℕ) (was wide : Bool) (attrs : Attrs) (m : ℕ) →
    IsMark m → has_room text ≡ true → (was ≡ true → next base.page.width was text m ≡ true) →
    (next base.page.width was text m ≡ true → wide ≡ true) →
    Spot base done pre o y ys wrapped r c wide → MayGlyph May r c wide ys →
    CharTouches May (columns_of m) m attrs (put base done below pre ys wrapped r c text was attrs).page
mark_touches May base done below pre o y ys wrapped r c text was wide attrs m is_mark room grows more at_spot may =
    let page = (put base done below pre ys wrapped r c text was attrs).page in
    let longer = text ++ encode_utf8 m in
    let rest = cells_after_cut (orphan was attrs) (rest_after was ys) in
    let flagged = wrapped_after_glyph wrapped was (drop 1 ys) in
    let now = kept flagged (pre ++ (glyph_cells longer was attrs ++ rest)) in
    let made = marking base done below pre longer was attrs rest now r c in
    let here = marked_cell base done below pre longer was attrs rest now r c at_spot.row at_spot.col in
    let wide_is : is_wide (at (cursor_row made).cells c) ≡ was = ap is_wide here in
    let text_is : (is_wide_text (text_of (at (cursor_row made).cells c)) && nat_lt 1 base.page.width)
    ≡ (is_wide_text longer && nat_lt 1 base.page.width) =
    ap (λ (x : CellValue). is_wide_text (text_of x) && nat_lt 1 base.page.width) here in
    subst (λ (w : Option ℕ). CharTouches May w m attrs page) (sym is_mark.1) (λ _.
    subst (λ (k : ℕ). MarkTouches May k m attrs page)
    (sym (mark_column_is base done below pre text was attrs rest flagged r c at_spot.row at_spot.col)) (λ _. (
      may.first,
      λ s. subst (λ (p : Page). FollowTouches May c attrs p)
          (sym (put_marked base done below pre text was attrs rest flagged r c m at_spot.row at_spot.col room)) (
            (λ w f. absurd
                (never was (is_selector m) (is_wide_text longer && nat_lt 1 base.page.width)
                (sym wide_is ∙ w) s (sym text_is ∙ f) grows)),
            (λ w t. wide_touches May base done below pre o y ys now wrapped r c longer was wide attrs (sym wide_is ∙ w)
                (more
                (becomes was (is_selector m) (is_wide_text longer && nat_lt 1 base.page.width) s (sym text_is ∙ t)))
                at_spot may),
          ),
    )))
  where
    never : (was s q : Bool) → was ≡ true → s ≡ true → q ≡ false → (was ≡ true → (if s then q else was) ≡ true) → ⊥
    never was s q a b c h = let k = h a in grind (arith, a, b, c, k)

    becomes : (was s q : Bool) → s ≡ true → q ≡ true → (if s then q else was) ≡ true
    becomes was s q a b = grind (arith, a, b)

grows_wide : (width : ℕ) (was : Bool) (text ms : List ℕ) (last : Bool) (whole : List ℕ) →
    Grows width was text ms last whole → was ≡ true → last ≡ true
grows_wide width was text [] last whole h e = sym h.0 ∙ e
grows_wide width was text (m ∷ ms) last whole h e =
    grows_wide width (next width was text m) (text ++ encode_utf8 m) ms last whole h.1.1 (h.1.0 e)

marks_touch : (May : ℕ → ℕ → Type 0) (ms : List ℕ) (base : Canvas) (done below : List RowValue)
    (pre : List CellValue) (o y : CellValue) (ys : List CellValue) (wrapped : Bool) (r c : ℕ)
    (text : List ℕ) (was : Bool) (attrs : Attrs) (last : Bool) (whole : List ℕ) →
    Grows base.page.width was text ms last whole → Spot base done pre o y ys wrapped r c last →
    MayGlyph May r c last ys → TextTouches May ms (put base done below pre ys wrapped r c text was attrs)
marks_touch May [] base done below pre o y ys wrapped r c text was attrs last whole h at_spot may = tt
marks_touch May (m ∷ ms) base done below pre o y ys wrapped r c text was attrs last whole h at_spot may =
    let now = next base.page.width was text m in
    let longer = text ++ encode_utf8 m in
    let after = put base done below pre ys wrapped r c longer now attrs in
    let le = grows_le base.page.width now longer ms last whole h.1.1 in (
      mark_touches May base done below pre o y ys wrapped r c text was last attrs m h.0.0 h.0.1
          h.1.0 (grows_wide base.page.width now longer ms last whole h.1.1) at_spot may,
      λ q e. subst (TextTouches May ms)
          (some_same after q (sym (mark_drawn base done below pre o y ys wrapped r c text was attrs
          m h.0.0 h.0.1 h.1.0 (wider_spot base done pre o y ys wrapped r c now last le at_spot))
          ∙ e))
          (marks_touch May ms base done below pre o y ys wrapped r c longer now attrs last whole h.1.1 at_spot may),
    )

text_touches : (May : ℕ → ℕ → Type 0) (base : Canvas) (done below : List RowValue) (pre : List CellValue)
    (o y : CellValue) (ys : List CellValue) (wrapped : Bool) (r c : ℕ) (text : List ℕ) (wide : Bool) (attrs : Attrs) →
    Prints base.page.width text wide → Spot base done pre o y ys wrapped r c wide → MayGlyph May r c wide ys →
    TextTouches May (chars text) (spot base done below pre o y ys wrapped r c attrs)
text_touches May base done below pre o y ys wrapped r c text wide attrs prints at_spot may =
    let start = spot base done below pre o y ys wrapped r c attrs in
    let after = put base done below pre ys wrapped r c (encode_utf8 prints.first) prints.start attrs in
    let le = grows_le base.page.width prints.start (encode_utf8 prints.first) prints.marks wide text prints.grows in
    subst (λ (cs : List ℕ). TextTouches May cs start) (sym prints.is) (
      first_touches May base done below pre o y ys wrapped r c prints.first prints.start wide attrs prints.columns
          (grows_wide base.page.width prints.start (encode_utf8 prints.first) prints.marks wide text prints.grows)
          at_spot may,
      λ q e. subst (TextTouches May prints.marks)
          (some_same after q (sym (first_drawn base done below pre o y ys wrapped r c prints.first prints.start
          attrs prints.columns (wider_spot base done pre o y ys wrapped r c prints.start wide le at_spot))
          ∙ e))
          (marks_touch May prints.marks base done below pre o y ys wrapped r c
          (encode_utf8 prints.first) prints.start attrs wide text prints.grows at_spot may),
    )

-- Text printed at a boundary of a row touches the columns of its glyph.
pub print_in : (May : ℕ → ℕ → Type 0) (base : Canvas) (done below : List RowValue) (pre : List CellValue)
    (o y : CellValue) (ys : List CellValue) (wrapped : Bool) (r c : ℕ) (text : List ℕ) (wide : Bool) (attrs : Attrs) →
    Prints base.page.width text wide → Spot base done pre o y ys wrapped r c wide → MayGlyph May r c wide ys →
    DrawsIn May (Print text ∷ []) (spot base done below pre o y ys wrapped r c attrs)
    (put base done below pre ys wrapped r c text wide attrs)
print_in May base done below pre o y ys wrapped r c text wide attrs prints at_spot may = record {
  draws = print_draws base done below pre o y ys wrapped r c text wide attrs prints at_spot;
  touches = (text_touches May base done below pre o y ys wrapped r c text wide attrs prints at_spot may, λ q e. tt);
}

-- ---- at a pending wrap

room_same : (May : ℕ → ℕ → Type 0) (n : ℕ) (page other : Page) → room_made n page ≡ other →
    room_made n other ≡ other → Changes May (room_made n other).column n (room_made n other) →
    Changes May (room_made n page).column n (room_made n page)
room_same May n page other e f h = subst (λ (p : Page). Changes May p.column n p) (f ∙ sym e) h

first_touches_wrapped : (May : ℕ → ℕ → Type 0) (base : Canvas) (done below : List RowValue) (above : List CellValue)
    (wrapped_above : Bool) (cells : List CellValue) (wrapped : Bool) (r : ℕ) (attrs : Attrs) (first : ℕ) (wide : Bool) →
    length done ≡ r → base.page.bottom + 1 ≡ length done + suc (suc (length below)) →
    columns_of first ≡ Some (glyph_columns wide) → glyph_columns wide ≤ base.page.width →
    CharTouches May (columns_of first) first attrs
    (two base done below above (not (ends above)) cells wrapped (pen_at (r + 1) 0 attrs)).page →
    CharTouches May (columns_of first) first attrs
    (two base done below above wrapped_above cells wrapped (pen_at r base.page.width attrs)).page
first_touches_wrapped May base done below above wrapped_above cells wrapped r attrs first false e b c fits h =
    let p1 = (two base done below above wrapped_above cells wrapped (pen_at r base.page.width attrs)).page in
    let p2 = (two base done below above (not (ends above)) cells wrapped (pen_at (r + 1) 0 attrs)).page in
    let full : lacks_room 1 p1 ≡ true = lt-ltb (base.page.width - 1) base.page.width (omega arith) in
    subst (λ (w : Option ℕ). CharTouches May w first attrs p1) (sym c)
    (room_same May 1 p1 p2
    (wrapped_room 1 p1 p2 full (wraps base done below above wrapped_above cells wrapped r base.page.width attrs e b))
    (room_is 1 p2 (omega arith)) (subst (λ (w : Option ℕ). CharTouches May w first attrs p2) c h))
first_touches_wrapped May base done below above wrapped_above cells wrapped r attrs first true e b c fits h =
    let p1 = (two base done below above wrapped_above cells wrapped (pen_at r base.page.width attrs)).page in
    let p2 = (two base done below above (not (ends above)) cells wrapped (pen_at (r + 1) 0 attrs)).page in
    let full : lacks_room 2 p1 ≡ true = lt-ltb (base.page.width - 2) base.page.width (omega arith) in
    let some : nat_lt 1 base.page.width ≡ true = lt-ltb 1 base.page.width (omega arith) in
    subst (λ (w : Option ℕ). CharTouches May w first attrs p1) (sym c)
    (λ _. room_same May 2 p1 p2
    (wrapped_room 2 p1 p2 full (wraps base done below above wrapped_above cells wrapped r base.page.width attrs e b))
    (room_is 2 p2 (omega arith)) (subst (λ (w : Option ℕ). CharTouches May w first attrs p2) c h some))

split_text : (May : ℕ → ℕ → Type 0) (cs : List ℕ) (c : ℕ) (ms : List ℕ) (canvas : Canvas) →
    cs ≡ c ∷ ms → TextTouches May cs canvas → TextTouches May (c ∷ ms) canvas
split_text May cs c ms canvas e h = subst (λ (z : List ℕ). TextTouches May z canvas) e h

-- Text printed with a wrap pending touches the columns of its glyph on the next row.
pub print_in_wraps : (May : ℕ → ℕ → Type 0) (base : Canvas) (done below : List RowValue)
    (above : List CellValue) (wrapped_above : Bool) (cells : List CellValue) (wrapped : Bool)
    (r : ℕ) (attrs : Attrs) (text : List ℕ) (wide : Bool) (goal : Canvas) →
    length done ≡ r → base.page.bottom + 1 ≡ length done + suc (suc (length below)) → Prints base.page.width text wide →
    DrawsIn May (Print text ∷ [])
    (two base done below above (not (ends above)) cells wrapped (pen_at (r + 1) 0 attrs)) goal →
    DrawsIn May (Print text ∷ []) (two base done below above wrapped_above cells wrapped
    (pen_at r base.page.width attrs)) goal
print_in_wraps May base done below above wrapped_above cells wrapped r attrs text wide goal e b prints h =
    let d1 = two base done below above wrapped_above cells wrapped (pen_at r base.page.width attrs) in
    let d2 = two base done below above (not (ends above)) cells wrapped (pen_at (r + 1) 0 attrs) in
    let le = grows_le base.page.width prints.start (encode_utf8 prints.first) prints.marks wide text prints.grows in
    let fits = prints.fits in
    let there = split_text May (chars text) prints.first prints.marks d2 prints.is h.touches.0 in
    let same = first_wraps base done below above wrapped_above cells wrapped r attrs
    prints.first prints.start e b prints.columns (omega arith) in
    record {
      draws = print_wraps base done below above wrapped_above cells wrapped r attrs text wide goal e b prints h.draws;
      touches = (
        subst (λ (z : List ℕ). TextTouches May z d1) (sym prints.is) (
          first_touches_wrapped May base done below above wrapped_above cells wrapped r attrs
              prints.first prints.start e b prints.columns (omega arith) there.0,
          λ q f. there.1 q (sym same ∙ f),
        ),
        λ q f. tt,
      );
    }
