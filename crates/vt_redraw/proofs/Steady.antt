-- The text of a steady glyph prints the same glyph at every position.
use Rattle.std.proofs.Common.{◌≡◌, ℕ, zero, suc, ◌+◌, ◌-◌, ◌<◌, ◌≤◌, ◌==◌, ◌&&◌, nat_lt, Bool, true, false, not, List}
use Rattle.std.proofs.Common.{[], ◌∷◌, length, set, Option, Some, None, refl, sym, ap, ◌∙◌, subst, arith, ◌++◌, drop}
use Rattle.std.specs.Prelude.{if◌then◌else◌}
use Rattle.std.specs.List.{AllByRecursion}
use Rattle.std.proofs.lemmas.Bool.{ne_eqb, cond_both, false≢true, ltb-true}
use Rattle.std.proofs.lemmas.Bool.Decides.{nat_tests}
use Rattle.std.proofs.lemmas.Grind.{get_or-set_at}
use Rattle.std.proofs.lemmas.List.{get_or-set_other, length-set, length-drop, length-replicate}
use Rattle.std.specs.Char.{encode_utf8}
use Rattle.vt_cells.specs.Cell.{CellValue, blank, glyph, right_half, default_blank, is_wide, is_right_half, text_of}
use Rattle.vt_cells.specs.Cell.{cell_with_mark, cell_made_wide}
use Rattle.vt_cells.specs.Glyph.{is_selector, is_wide_text, IsMark, columns_of, glyph_columns, has_room, Joins}
use Rattle.vt_cells.specs.Glyph.{IsGlyphText}
use Rattle.vt_cells.specs.Attrs.{Attrs, default_attrs}
use Rattle.vt_cells.proofs.Glyphs.{IsGlyphText-chars, columns_of-le}
use Rattle.vt_rows.specs.Cells.{at, put_cells, column_of, marked_at, narrowed_at, widened_at, blanks, cells_after_cut}
use Rattle.vt_rows.proofs.Edits.{put_columns, length-put_cells, is_right_half-marked, is_wide-marked, length-opened}
use Rattle.vt_grid.specs.Page.{Page, row_at}
use Rattle.vt_grid.specs.Printing.{carries, wraps_for, mark_column, takes_mark, mark_put, made_wide, made_narrow}
use Rattle.vt_grid.specs.Printing.{page_after_wrap, width_followed, mark_printed, printed_by}
use Rattle.vt_grid.specs.Canvas.{Canvas, and_then, drawn_char, drawn_text}
use Rattle.vt_redraw.specs.Script.{pen_at}
use Rattle.vt_redraw.specs.Steady.{blank_line, IsSteadyGlyph}
use Rattle.vt_redraw.proofs.Halves.{kept, put_at}
use Rattle.vt_redraw.proofs.Edits.{mid, edited_at, Spot, put, with_glyph, glyph_put_here, first_drawn, char_drawn}
use Rattle.vt_redraw.proofs.Texts.{next, Grows, Prints, followed, mark_follows, mark_drawn}

-- ==== On a blank row, combining characters never return to a narrow glyph in column 0 once the cursor is past it.

abbrev pub is_narrow : CellValue → Bool
is_narrow (blank attrs) = false
is_narrow (glyph text wide attrs) = not wide
is_narrow right_half = false

-- A canvas of one row with the given cells.
abbrev pub line : ℕ → Attrs → List CellValue → Bool → ℕ → Canvas
line width attrs cells wrapped col = mid (blank_line width attrs) [] [] cells wrapped (pen_at 0 col attrs)

-- ---- past a narrow glyph in column 0

-- The cursor is past a narrow glyph in column 0.
pub record IsPast (width : ℕ) (cells : List CellValue) (col : ℕ) : Type 0 where
  pub size : length cells ≡ width
  pub inside : col ≤ width
  pub far : 2 ≤ col
  pub first : is_narrow (at cells 0) ≡ true
  pub second : col ≡ 2 → is_right_half (at cells 1) ≡ false

pub record Past (width : ℕ) (attrs : Attrs) (canvas : Canvas) : Type 0 where
  pub cells : List CellValue
  pub wrapped : Bool
  pub col : ℕ
  pub is : canvas ≡ line width attrs cells wrapped col
  pub past : IsPast width cells col

-- The column k of the glyph that a combining character joins is neither column 0 nor at or after the cursor.
record IsBehind (col k : ℕ) : Type 0 where
  pub nonempty : 1 ≤ k
  pub before : k < col
  pub second : col ≡ 2 → k ≡ 1

behind_first : (width : ℕ) (cells : List CellValue) (col : ℕ) → IsPast width cells col →
    IsBehind col (if is_right_half (at cells (col - 1)) then col - 2 else col - 1)
behind_first width cells col past =
    let far = past.far in
    cond_both (is_right_half (at cells (col - 1))) (col - 2) (col - 1) (IsBehind col)
    (λ (t : is_right_half (at cells (col - 1)) ≡ true).
    let never : col ≡ 2 → ⊥ =
    λ e. let i : col - 1 ≡ 1 =
    omega arith in let s =
    past.second e in let u : is_right_half (at cells 1) ≡ true =
    ap (λ (j : ℕ). is_right_half (at cells j)) (sym i) ∙ t in absurd (cc) in
    record { nonempty = further col far never; before = omega arith; second = λ e. absurd (never e) })
    (λ _. record { nonempty = omega arith; before = omega arith; second = λ e. omega arith })
  where
    further : (c : ℕ) → 2 ≤ c → (c ≡ 2 → ⊥) → 1 ≤ c - 2
    further zero h k = absurd (omega arith)
    further (suc zero) h k = absurd (omega arith)
    further (suc (suc zero)) h k = absurd (k refl)
    further (suc (suc (suc c))) h k = omega arith

narrow_not_wide : (x : CellValue) → is_narrow x ≡ true → is_wide x ≡ false
narrow_not_wide (blank attrs) e = refl
narrow_not_wide (glyph text true attrs) e = absurd (cc)
narrow_not_wide (glyph text false attrs) e = refl
narrow_not_wide right_half e = refl

past_set : (width : ℕ) (cells : List CellValue) (col k : ℕ) (x : CellValue) → IsPast width cells col →
    IsBehind col k → is_right_half x ≡ is_right_half (at cells k) → IsPast width (set cells k x) col
past_set width cells col k x past place e =
    let some = place.nonempty in
    let before = place.before in
    let inside = past.inside in
    let size = past.size in
    record {
      size = length-set cells k x ∙ size;
      inside = inside;
      far = past.far;
      first = ap is_narrow (get_or-set_other cells k 0 x default_blank (λ same. omega arith)) ∙ past.first;
      second = λ two. let one = place.second two in
          ap is_right_half (get_or-set_at cells k 1 x default_blank (sym one) (omega arith))
          ∙ (e ∙ (ap (λ (j : ℕ). is_right_half (at cells j)) one ∙ past.second two));
    }

past_put : (width : ℕ) (cells : List CellValue) (col k n to : ℕ) (o x : CellValue) (more : List CellValue) →
    IsPast width cells col → IsBehind col k → length (x ∷ more) ≡ n →
    k + n ≤ width → col ≤ to → to ≤ width → (to ≡ 2 → is_right_half x ≡ false) →
    IsPast width (put_cells k o (x ∷ more) n cells) to
past_put width cells col k n to o x more past place e fits le inside right =
    let some = place.nonempty in
    let far = past.far in
    let size = past.size in
    let narrow = narrow_not_wide (at cells 0) past.first in
    let keeps : column_of k n o (x ∷ more) cells 0 ≡ at cells 0 = grind (arith, nat_tests) in
    record {
      size = length-put_cells k n o (x ∷ more) cells e (omega arith) ∙ size;
      inside = inside;
      far = omega arith;
      first = ap is_narrow (put_columns k n o (x ∷ more) cells 0 e (omega arith) ∙ keeps) ∙ past.first;
      second = λ two.
          let one = place.second (omega arith) in
          let i : 1 - k ≡ 0 = omega arith in
          let new : column_of k n o (x ∷ more) cells 1 ≡ at (x ∷ more) (1 - k) = grind (arith, nat_tests) in
          ap is_right_half (put_columns k n o (x ∷ more) cells 1 e (omega arith) ∙ (new ∙ ap (at (x ∷ more)) i))
          ∙ right two;
    }

is_right_half-widened : (wide : Bool) (x : CellValue) → is_right_half (cell_made_wide wide x) ≡ is_right_half x
is_right_half-widened wide (blank attrs) = refl
is_right_half-widened wide (glyph text was attrs) = refl
is_right_half-widened wide right_half = refl

-- The cursor of a canvas of one row is still past the glyph after its cells and cursor column change.
past_line : (width : ℕ) (attrs : Attrs) (cells new : List CellValue) (wrapped : Bool) (col to : ℕ) (page : Page) →
    page ≡ (line width attrs new (kept wrapped new) to).page → IsPast width new to →
    Past width attrs (record (line width attrs cells wrapped col) { page = page })
past_line width attrs cells new wrapped col to page e past = record {
  cells = new;
  wrapped = kept wrapped new;
  col = to;
  is = ap (λ (p : Page). record (line width attrs cells wrapped col) { page = p }) e;
  past = past;
}

carried_there : (s t w wt lt eq : Bool) → s ≡ true → t ≡ true → w ≡ false → (wt && lt) ≡ true
    → ((s && (t && not w)) && (wt && (lt && eq))) ≡ false → eq ≡ false
carried_there s t w wt lt eq a b c d h = grind (arith, a, b, c, d, h)

room_left : (col width : ℕ) → col ≤ width → (col == width) ≡ false → col < width
room_left col width h e = grind (arith, nat_tests)

-- If the glyph in column k takes on the width of its text, the cursor is still past the narrow glyph in column 0.
past_followed : (width : ℕ) (attrs : Attrs) (cells : List CellValue) (wrapped : Bool) (col k m : ℕ) →
    is_selector m ≡ true → takes_mark (at cells k) ≡ true → IsPast width cells col → IsBehind col k →
    ((is_selector m && (takes_mark (at cells k) && not (is_wide (at cells k))))
    && (is_wide_text (text_of (cell_with_mark m (at cells k))) && (nat_lt 1 width && (col == width))))
    ≡ false →
    Past width attrs (record (line width attrs cells wrapped col) {
      page = width_followed k attrs (line width attrs (marked_at k m cells)
          (kept wrapped (marked_at k m cells)) col).page;
    })
unfolding width_followed made_wide
past_followed width attrs cells wrapped col k m selector takes past place never =
    let new = marked_at k m cells in
    let now = kept wrapped new in
    let page = (line width attrs new now col).page in
    let Q = λ (p : Page). Past width attrs (record (line width attrs cells wrapped col) { page = p }) in
    let wide = is_wide_text (text_of (at new k)) && nat_lt 1 width in
    let some = place.nonempty in
    let before = place.before in
    let inside = past.inside in
    let size = past.size in
    let here : at new k ≡ cell_with_mark m (at cells k) =
    get_or-set_at cells k k (cell_with_mark m (at cells k)) default_blank refl (omega arith) in
    let after = past_set width cells col k (cell_with_mark m (at cells k)) past place (is_right_half-marked m (at cells k)) in
    let same : Q page = past_line width attrs cells new wrapped col col page refl after in
    let narrower = put_cells k (glyph (0x20 ∷ []) false attrs) (cell_made_wide false (at new k) ∷ []) 1 new in
    let wider = put_cells k (blank attrs) (cell_made_wide true (at new k) ∷ right_half ∷ []) 2 new in
    let narrow : Q (made_narrow k attrs page) = record {
      cells = narrower;
      wrapped = kept now narrower;
      col = col;
      is =
          ap (λ (p : Page). record (line width attrs cells wrapped col) { page = p })
          (edited_at (blank_line width attrs) [] [] new now
          (pen_at 0 col attrs) (narrowed_at k attrs) narrower refl refl);
      past =
          past_put width new col k 1 col (glyph (0x20 ∷ []) false attrs)
          (cell_made_wide false (at new k)) [] after place refl (omega arith) (omega arith) inside
          (λ two. is_right_half-widened false (at new k)
          ∙ (ap (λ (j : ℕ). is_right_half (at new j)) (place.second two) ∙ after.second two));
    } in
    cond_both (is_wide (at new k)) (if wide then page else made_narrow k attrs page)
    (if wide then made_wide k attrs page else page) Q
    (λ _. cond_both wide page (made_narrow k attrs page) Q (λ _. same) (λ _. narrow))
    (λ (n : is_wide (at new k) ≡ false). cond_both wide (made_wide k attrs page) page Q
    (λ (t : wide ≡ true).
    let was : is_wide (at cells k) ≡ false = sym (is_wide-marked m (at cells k)) ∙ (ap is_wide (sym here) ∙ n) in
    let text : (is_wide_text (text_of (cell_with_mark m (at cells k))) && nat_lt 1 width) ≡ true =
    ap (λ (x : CellValue). is_wide_text (text_of x) && nat_lt 1 width) (sym here) ∙ t in
    let lt = room_left col width inside (carried_there (is_selector m) (takes_mark (at cells k)) (is_wide (at cells k))
    (is_wide_text (text_of (cell_with_mark m (at cells k)))) (nat_lt 1 width) (col == width) selector takes was text never) in
    record {
      cells = wider;
      wrapped = kept now wider;
      col = col + 1;
      is =
          ap (λ (p : Page). record (line width attrs cells wrapped col) { page = record p { column = col + 1 } })
          (edited_at (blank_line width attrs) [] [] new now (pen_at 0 col attrs) (widened_at k attrs) wider refl refl);
      past =
          past_put width new col k 2 (col + 1) (blank attrs) (cell_made_wide true (at new k)) (right_half ∷ []) after
          place refl (omega arith) (omega arith) (omega arith) (λ two. let far = past.far in absurd (omega arith));
    })
    (λ _. same))

-- A combining character that scrolls no row off leaves the cursor past the narrow glyph in column 0.
mark_past : (width : ℕ) (attrs : Attrs) (cells : List CellValue) (wrapped : Bool) (col m : ℕ) →
    IsPast width cells col → carries m (line width attrs cells wrapped col).page ≡ false →
    Past width attrs
    (record (line width attrs cells wrapped col) {
      page = mark_printed m attrs
          (line width attrs cells wrapped col).page;
    })
unfolding mark_printed carries
mark_past width attrs cells wrapped col m past never =
    let page = (line width attrs cells wrapped col).page in
    let k = mark_column page in
    let new = marked_at k m cells in
    let Q = λ (p : Page). Past width attrs (record (line width attrs cells wrapped col) { page = p }) in
    let place = behind_first width cells col past in
    let before = place.before in
    let inside = past.inside in
    let put : mark_put k m page ≡ (line width attrs new (kept wrapped new) col).page =
    edited_at (blank_line width attrs) [] [] cells wrapped (pen_at 0 col attrs) (marked_at k m) new refl refl in
    let put_on : Page = if is_selector m then width_followed k attrs (mark_put k m page) else mark_put k m page in
    cond_both (carries m page) (page_after_wrap m attrs page) (if takes_mark (at cells k) then put_on else page) Q
    (λ (y : carries m page ≡ true). absurd (false≢true (sym never ∙ y)))
    (λ _. cond_both (takes_mark (at cells k)) put_on page Q
    (λ (t : takes_mark (at cells k) ≡ true). cond_both (is_selector m)
    (width_followed k attrs (mark_put k m page)) (mark_put k m page) Q
    (λ (s : is_selector m ≡ true). subst (λ (p : Page). Q (width_followed k attrs p))
    (sym put) (past_followed width attrs cells wrapped col k m s t past place never))
    (λ _. past_line width attrs cells new wrapped col col (mark_put k m page) put
    (past_set width cells col k (cell_with_mark m (at cells k)) past place (is_right_half-marked m (at cells k)))))
    (λ _. record { cells = cells; wrapped = wrapped; col = col; is = refl; past = past }))

by_push : (width : ℕ) (attrs : Attrs) (page : Page) (canvas end : Canvas) (b : Bool) →
    (b ≡ false → Past width attrs (record canvas { page = page })) →
    (if b && true then None else Some (record canvas { page = page })) ≡ Some end → Past width attrs end
by_push width attrs page canvas end true f h = absurd (cc)
by_push width attrs page canvas end false f h =
    subst (Past width attrs) (canvas_or_same (record canvas { page = page }) end h) (f refl)
  where
    canvas_or : Canvas → Option Canvas → Canvas
    canvas_or other (Some c) = c
    canvas_or other None = other

    canvas_or_same : (a b : Canvas) → Some a ≡ Some b → a ≡ b
    canvas_or_same a b e = ap (canvas_or a) e

line_past : (width : ℕ) (attrs : Attrs) (cells : List CellValue) (wrapped : Bool) (col m : ℕ) (end : Canvas)
    → IsMark m →
    IsPast width cells col → drawn_char m (line width attrs cells wrapped col) ≡ Some end → Past width attrs end
line_past width attrs cells wrapped col m end is_mark past h =
    let canvas = line width attrs cells wrapped col in
    let page = canvas.page in
    let far = past.far in
    let some : (col == 0) ≡ false = ne_eqb col 0 (λ same. omega arith) in
    let by = λ (w : Option ℕ). if wraps_for w m page && true then None
    else Some (record canvas { page = printed_by w m attrs page }) in
    let zero_columns : by (Some 0)
    ≡ (if carries m page && true then None else Some (record canvas { page = mark_printed m attrs page })) =
    rw some refl in
    by_push width attrs (mark_printed m attrs page) canvas end
    (carries m page) (mark_past width attrs cells wrapped col m past)
    (sym zero_columns ∙ (sym (ap by is_mark.1) ∙ h))

past_mark : (width : ℕ) (attrs : Attrs) (m : ℕ) (canvas end : Canvas) → IsMark m →
    Past width attrs canvas → drawn_char m canvas ≡ Some end → Past width attrs end
past_mark width attrs m canvas end is_mark p h =
    line_past width attrs p.cells p.wrapped p.col m end is_mark p.past (sym (ap (drawn_char m) p.is) ∙ h)

pub past_marks : (ms : List ℕ) (width : ℕ) (attrs : Attrs) (canvas end : Canvas) → AllByRecursion IsMark ms →
    Past width attrs canvas → drawn_text ms canvas ≡ Some end → Past width attrs end
past_marks [] width attrs canvas end marks p h = by_push width attrs canvas.page canvas end false (λ _. p) h
past_marks (m ∷ ms) width attrs canvas end marks p h =
    by_first (drawn_char m canvas) refl (λ next q k. past_marks ms width attrs next end marks.1 q k) h where
      by_first : (x : Option Canvas) → drawn_char m canvas ≡ x →
          ((next : Canvas) → Past width attrs next → drawn_text ms next ≡ Some end → Past width attrs end) →
          and_then (drawn_text ms) x ≡ Some end → Past width attrs end
      by_first None e rest k = absurd (cc)
      by_first (Some next) e rest k = rest next (past_mark width attrs m canvas next marks.0 p e) k

-- ==== The text of a steady glyph is never made narrow while it is printed, so it prints the same glyph at every
-- position.

-- ---- a glyph alone on a blank row

abbrev alone : ℕ → List ℕ → Bool → Attrs → Canvas
alone n text wide attrs = put (blank_line (suc n) attrs) [] [] [] (blanks default_attrs n) false 0 0 text wide attrs

line_spot : (n : ℕ) (attrs : Attrs) (wide : Bool) → glyph_columns wide ≤ suc n →
    Spot (blank_line (suc n) attrs) [] [] default_blank default_blank (blanks default_attrs n) false 0 0 wide
line_spot n attrs wide h = record { row = refl; col = refl; fits = omega arith; front = tt; sound = λ t. absurd (cc) }

first_cell : (n : ℕ) (text : List ℕ) (wide : Bool) (attrs : Attrs) →
    at (row_at (alone n text wide attrs).page 0).cells 0 ≡ glyph text wide attrs
first_cell n text true attrs = refl
first_cell n text false attrs = refl

-- A canvas with a single glyph never has the cursor past a narrow glyph in column 0.
alone_not_past : (n : ℕ) (text : List ℕ) (wide : Bool) (attrs : Attrs) →
    Past (suc n) attrs (alone n text wide attrs) → ⊥
alone_not_past n text wide attrs p =
    let far = p.past.far in
    let col : 0 + glyph_columns wide ≡ p.col = ap (λ (c : Canvas). c.page.column) p.is in
    let cell : glyph text wide attrs ≡ at p.cells 0 =
    sym (first_cell n text wide attrs) ∙ ap (λ (c : Canvas). at (row_at c.page 0).cells 0) p.is in
    by_width wide col (ap is_narrow cell ∙ p.past.first) far
  where
    by_width : (wide : Bool) → 0 + glyph_columns wide ≡ p.col → not wide ≡ true → 2 ≤ p.col → ⊥
    by_width true e h far = absurd (cc)
    by_width false e h far = omega arith

-- After a wide glyph in column 0 is made narrow, the cursor is past a narrow glyph in column 0.
narrowed : (n : ℕ) (text : List ℕ) (attrs : Attrs) → 2 ≤ suc n →
    Past (suc n) attrs (record (alone n text true attrs) { page = made_narrow 0 attrs (alone n text true attrs).page })
narrowed n text attrs h =
    let canvas = alone n text true attrs in
    let row = with_glyph [] text true attrs (blanks default_attrs n) in
    let new =
    glyph text false attrs ∷ (glyph (0x20 ∷ []) false attrs ∷ cells_after_cut (blank attrs) (drop 1 (blanks default_attrs n))) in
    record {
      cells = new;
      wrapped = kept false new;
      col = 2;
      is = ap (λ (p : Page). record canvas { page = p })
          (edited_at (blank_line (suc n) attrs) [] [] row false (pen_at 0 2 attrs) (narrowed_at 0 attrs) new
          refl (put_at [] row (glyph text false attrs ∷ []) (glyph (0x20 ∷ []) false attrs) 0 1 refl tt));
      past = record {
        size =
            let l = length-opened (blank attrs) (drop 1 (blanks default_attrs n)) in
            let d = length-drop 1 (blanks default_attrs n) in let r = length-replicate n default_blank in omega arith;
        inside = h;
        far = omega arith;
        first = refl;
        second = λ _. refl;
      };
    }

-- ---- a steady text grows

next_fits : (width : ℕ) (wide : Bool) (text : List ℕ) (m : ℕ) → 0 < width →
    glyph_columns wide ≤ width → glyph_columns (next width wide text m) ≤ width
next_fits width wide text m pos h =
    cond_both (is_selector m) (is_wide_text (text ++ encode_utf8 m) && nat_lt 1 width)
    wide (λ (v : Bool). glyph_columns v ≤ width)
    (λ _. both (is_wide_text (text ++ encode_utf8 m)) (nat_lt 1 width) (λ t. ltb-true 1 width t)) (λ _. h)
  where
    both : (x y : Bool) → (y ≡ true → 1 < width) → glyph_columns (x && y) ≤ width
    both true true g = let k = g refl in omega arith
    both true false g = omega arith
    both false true g = omega arith
    both false false g = omega arith

-- If a combining character makes the text of a wide glyph narrow, printing it makes the glyph narrow.
mark_narrows : (n : ℕ) (text : List ℕ) (attrs : Attrs) (m : ℕ) → IsMark m →
    has_room text ≡ true → 2 ≤ suc n → next (suc n) true text m ≡ false →
    drawn_char m (alone n text true attrs)
    ≡ Some
    (record (alone n text true attrs) { page = made_narrow 0 attrs (alone n (text ++ encode_utf8 m) true attrs).page })
mark_narrows n text attrs m is_mark room h e =
    let canvas = alone n text true attrs in
    let longer = text ++ encode_utf8 m in
    let page = (alone n longer true attrs).page in
    mark_follows (blank_line (suc n) attrs) [] [] [] default_blank default_blank (blanks default_attrs n)
    false 0 0 text true attrs m is_mark room (line_spot n attrs true h) (λ t. absurd (cc))
    ∙ ap (λ (p : Page). Some (record canvas { page = p }))
    (by_test (is_selector m) (is_wide_text longer && nat_lt 1 (suc n)) page e)
  where
    by_test : (s q : Bool) (page : Page) → (if s then q else true) ≡ false →
        (if s then followed true q 0 attrs page else page) ≡ made_narrow 0 attrs page
    by_test true false page k = refl
    by_test true true page k = absurd (cc)
    by_test false q page k = absurd (cc)

some_same : (a b : Canvas) → Some a ≡ Some b → a ≡ b
some_same a b e = ap (canvas_or a) e
  where
    canvas_or : Canvas → Option Canvas → Canvas
    canvas_or other (Some c) = c
    canvas_or other None = other

steady_grows : (ms : List ℕ) (n : ℕ) (text : List ℕ) (wide : Bool) (attrs : Attrs) (whole : List ℕ) (last : Bool) →
    AllByRecursion IsMark ms → Joins text ms whole → glyph_columns wide ≤ suc n → glyph_columns last ≤ suc n →
    drawn_text ms (alone n text wide attrs) ≡ Some (alone n whole last attrs) → Grows (suc n) wide text ms last whole
steady_grows [] n text wide attrs whole last marks joins le last_le h =
    let e = ap (λ (c : Canvas). is_wide (at (row_at c.page 0).cells 0))
    (some_same (alone n text wide attrs) (alone n whole last attrs) h) in
    (sym (ap is_wide (first_cell n text wide attrs)) ∙ (e ∙ ap is_wide (first_cell n whole last attrs)), joins)
steady_grows (m ∷ ms) n text wide attrs whole last marks joins le last_le h =
    let base = blank_line (suc n) attrs in
    let fits = next_fits (suc n) wide text m (omega arith) le in (
      (marks.0, joins.0),
      (
        never wide le h,
        steady_grows ms n (text ++ encode_utf8 m) (next (suc n) wide text m)
            attrs whole last marks.1 joins.1 fits last_le
            (sym (ap (λ (z : Option Canvas). and_then (drawn_text ms) z)
            (mark_drawn base [] [] [] default_blank default_blank (blanks default_attrs n) false 0 0 text wide
            attrs m marks.0 joins.0 (never wide le h) (line_spot n attrs (next (suc n) wide text m) fits)))
            ∙ h),
      ),
    )
  where
    never : (wide : Bool) → glyph_columns wide ≤ suc n →
        and_then (drawn_text ms) (drawn_char m (alone n text wide attrs)) ≡ Some (alone n whole last attrs) →
        wide ≡ true → next (suc n) wide text m ≡ true
    never false le h t = absurd (cc)
    never true le h t = by_next (next (suc n) true text m) refl
      where
        by_next : (b : Bool) → next (suc n) true text m ≡ b → b ≡ true
        by_next true e = refl
        by_next false e =
            absurd (alone_not_past n whole last attrs
            (past_marks ms (suc n) attrs _ (alone n whole last attrs)
            marks.1 (narrowed n (text ++ encode_utf8 m) attrs le)
            (sym
            (ap (λ (z : Option Canvas). and_then (drawn_text ms) z) (mark_narrows n text attrs m marks.0 joins.0 le e))
            ∙ h)))

-- ---- the first character

-- Combining characters in column 0 draw nothing.
marks_nothing : (ms : List ℕ) (width : ℕ) (attrs : Attrs) → AllByRecursion IsMark ms →
    drawn_text ms (blank_line width attrs) ≡ Some (blank_line width attrs)
marks_nothing [] width attrs marks = refl
marks_nothing (m ∷ ms) width attrs marks =
    ap (λ (z : Option Canvas). and_then (drawn_text ms) z)
    (char_drawn m (Some 0) (blank_line width attrs) (blank_line width attrs).page marks.0.1 refl refl)
    ∙ marks_nothing ms width attrs marks.1

-- A character of two columns draws nothing on a screen of one column.
too_wide : (c k width : ℕ) (attrs : Attrs) → columns_of c ≡ Some (suc (suc k)) →
    nat_lt 1 width ≡ false → drawn_char c (blank_line width attrs) ≡ Some (blank_line width attrs)
too_wide c k width attrs e h =
    char_drawn c (Some (suc (suc k))) (blank_line width attrs) (blank_line width attrs).page e (rw h refl) (rw h refl)

-- A steady glyph reproduces itself when printed on every screen of the width for which it is steady.
pub steady_prints : (n : ℕ) (text : List ℕ) (wide : Bool) (attrs : Attrs) → IsGlyphText text wide →
    glyph_columns wide ≤ suc n → IsSteadyGlyph (suc n) text wide attrs → Prints (suc n) text wide
steady_prints n text wide attrs g le steady = by_columns (columns_of g.first) refl
  where
    goal : drawn_text (g.first ∷ g.marks) (blank_line (suc n) attrs) ≡ Some (alone n text wide attrs)
    goal =
        ap (λ (cs : List ℕ). drawn_text cs (blank_line (suc n) attrs)) (sym (IsGlyphText-chars text wide g))
        ∙ (steady ∙ ap (λ (p : Page). Some (record (blank_line (suc n) attrs) { page = p }))
        (glyph_put_here (blank_line (suc n) attrs) [] [] [] default_blank default_blank
        (blanks default_attrs n) false 0 0 text wide attrs (line_spot n attrs wide le)))

    from : (start : Bool) → columns_of g.first ≡ Some (glyph_columns start) →
        glyph_columns start ≤ suc n → Prints (suc n) text wide
    from start e fits = record {
      first = g.first;
      marks = g.marks;
      start = start;
      is = IsGlyphText-chars text wide g;
      columns = e;
      fits = le;
      grows = steady_grows g.marks n (encode_utf8 g.first) start attrs text wide g.are_marks g.spelled fits le
          (sym (ap (λ (z : Option Canvas). and_then (drawn_text g.marks) z)
          (first_drawn (blank_line (suc n) attrs) [] [] [] default_blank default_blank
          (blanks default_attrs n) false 0 0 g.first start attrs e (line_spot n attrs start fits)))
          ∙ goal);
    }

    by_room : (k : ℕ) → columns_of g.first ≡ Some (suc (suc k)) →
        (b : Bool) → nat_lt 1 (suc n) ≡ b → Prints (suc n) text wide
    by_room k e true t =
        let two : suc (suc k) ≡ 2 = let most = columns_of-le g.first (suc (suc k)) e in omega arith in
        from true (e ∙ ap Some two) (ltb-true 1 (suc n) t)
    by_room k e false t =
        let blank = some_same (blank_line (suc n) attrs) (alone n text wide attrs)
        (sym (marks_nothing g.marks (suc n) attrs g.are_marks)
        ∙ (sym (ap (λ (z : Option Canvas). and_then (drawn_text g.marks) z) (too_wide g.first k (suc n) attrs e t))
        ∙ goal)) in
        let col : 0 ≡ 0 + glyph_columns wide = ap (λ (c : Canvas). c.page.column) blank in
        absurd (never wide col)
      where
        never : (wide : Bool) → 0 ≡ 0 + glyph_columns wide → ⊥
        never true h = omega arith
        never false h = omega arith

    by_columns : (w : Option ℕ) → columns_of g.first ≡ w → Prints (suc n) text wide
    by_columns None e = absurd (g.shown e)
    by_columns (Some zero) e = absurd (g.drawn e)
    by_columns (Some (suc zero)) e = from false e (omega arith)
    by_columns (Some (suc (suc k))) e = by_room k e (nat_lt 1 (suc n)) refl
