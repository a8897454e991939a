-- Captures of rows, and the control characters and sequences in them.
use Rattle.std.proofs.Common.{◌≡◌, ℕ, zero, suc, ◌+◌, ◌-◌, ◌<◌, ◌≤◌, Bool, true, false, List, [], ◌∷◌, ◌++◌, length}
use Rattle.std.proofs.Common.{take, drop, get_or, refl, sym, ap, ap₂, ◌∙◌, append_assoc, append-nil, length-append}
use Rattle.std.proofs.Common.{subst, arith, if◌then◌else◌, inl, replicate}
use Rattle.std.specs.List.{slice_range, AllByRecursion, list_all}
use Rattle.std.proofs.Math.Seq.{take-suc}
use Rattle.std.proofs.lemmas.List.{get_or-drop, length-drop, drop-append-le}
use Rattle.std.proofs.lemmas.List.Elements.{recursion_from_All}
use Rattle.std.specs.Char.{encode_utf8}
use Rattle.vt_cells.specs.Sinks.{IsStopped}
use Rattle.vt_cells.specs.Attrs.{default_attrs, same_attrs, same_color, Attrs}
use Rattle.vt_cells.specs.Cell.{CellValue, IsCell, blank, glyph, right_half, is_default_blank}
use Rattle.vt_cells.specs.Op.{change_text}
use Rattle.vt_rows.specs.Basic.{Written, basic_text, written_after, nothing_written, shown_text, attrs_after}
use Rattle.vt_rows.specs.Basic.{cells_text}
use Rattle.vt_rows.specs.Row.{RowValue, blank_row, cells_without_end}
use Rattle.vt_rows.specs.Cells.{blanks}
use Rattle.vt_grid.specs.Scrollback.{Scrollback, no_scrollback, visible}
use Rattle.vt_redraw.proofs.Viewing.{IsAnyRow}
use Rattle.vt_redraw.proofs.Fitting.{printable_text}
use Rattle.vt_screen.specs.Capture.{StopsAfter, basic_texts, written_after_all}
use Rattle.vt_screen.specs.Internals.{IsAbove, IsNothing, alternate_scrollback, main_scrollback}
use Rattle.vt_screen.specs.MadeOf.{Characters, Control, IsMadeOf, capture_finals, plain_controls}
use Rattle.vt_screen.specs.Screen.{ScreenValue, IsScreen, fresh_screen, visible_rows}
use Rattle.vt_screen.proofs.MadeOf.{made_append, made_change, made_drawn, made_if, made_nothing, made_piece}
use Rattle.vt_screen.proofs.Shown.{any_visible, none_above}

-- ==== Captures of rows that are written one by one.

pub texts_more : (before : Written) (rows : List RowValue) (row : RowValue) →
    basic_texts before (rows ++ row ∷ []) ≡ basic_texts before rows ++ basic_text (written_after_all before rows) row
texts_more before [] row = append-nil (basic_text before row)
texts_more before (first ∷ rows) row =
    ap (λ (rest : List ℕ). basic_text before first ++ rest) (texts_more (written_after before first) rows row)
    ∙ sym (append_assoc (basic_text before first) (basic_texts (written_after before first) rows)
    (basic_text (written_after_all (written_after before first) rows) row))

pub after_more : (before : Written) (rows : List RowValue) (row : RowValue) →
    written_after_all before (rows ++ row ∷ []) ≡ written_after (written_after_all before rows) row
after_more before [] row = refl
after_more before (first ∷ rows) row = after_more (written_after before first) rows row

pub slice_more : {X : Type 0} (xs : List X) (start k : ℕ) (d : X) → start ≤ k →
    k < length xs → slice_range xs start (k + 1) ≡ slice_range xs start k ++ get_or xs k d ∷ []
slice_more xs start k d le lt =
    let one : k + 1 - start ≡ suc (k - start) = omega arith in
    let there : start + (k - start) ≡ k = omega arith in
    let left = length-drop start xs in
    let inside : k - start < length (drop start xs) = omega arith in
    ap (λ n. take n (drop start xs)) one
    ∙ take-suc (drop start xs) (k - start) d inside
    ∙ ap (λ x. take (k - start) (drop start xs) ++ x ∷ [])
    (get_or-drop start xs (k - start) d ∙ ap (λ n. get_or xs n d) there)

pub slice_none : {X : Type 0} (xs : List X) (start : ℕ) → slice_range xs start start ≡ []
slice_none xs start =
    let none : start - start ≡ 0 = omega arith in
    ap (λ n. take n (drop start xs)) none

pub slice_whole : {X : Type 0} (xs : List X) (n : ℕ) → n ≡ length xs → slice_range xs 0 n ≡ xs
slice_whole xs n e =
    let same : n - 0 ≡ length xs = omega arith in
    rw same (take_whole xs) where
      take_whole : {Y : Type 0} (ys : List Y) → take (length ys) ys ≡ ys
      take_whole [] = refl
      take_whole (y ∷ ys) = ap (λ zs. y ∷ zs) (take_whole ys)

-- The displayed rows are a slice of all rows.
pub visible_slice : (above : Scrollback) (rows : List RowValue) → above.offset ≤ length above.rows
    → slice_range (above.rows ++ rows) (length above.rows - above.offset)
    (length above.rows - above.offset + length rows)
    ≡ visible above rows
visible_slice above rows le =
    let first = length above.rows - above.offset in
    let many : first + length rows - first ≡ length rows = omega arith in
    rw many (ap (take (length rows)) (drop-append-le first above.rows rows (omega arith)))

-- The rows of the screen's scrollback above the active page are those of the page's own scrollback.
pub above_rows : (is_alternate : Bool) (active idle : Scrollback)
    → IsNothing (alternate_scrollback is_alternate active idle)
    → (if is_alternate then no_scrollback 0 else main_scrollback is_alternate active idle).rows ≡ active.rows
above_rows true active idle nothing = sym nothing.rows
above_rows false active idle nothing = refl

pub above_offset : (is_alternate : Bool) (active idle : Scrollback)
    → IsNothing (alternate_scrollback is_alternate active idle)
    → (if is_alternate then no_scrollback 0 else main_scrollback is_alternate active idle).offset ≡ active.offset
above_offset true active idle nothing = sym nothing.offset
above_offset false active idle nothing = refl

-- After one more row is written, the text is that of all rows written so far.
pub texts_step : (before state : Written) (start front text : List ℕ) (rows longer : List RowValue) (row : RowValue)
    → front ≡ start ++ basic_texts before rows
    → state ≡ written_after_all before rows → text ≡ front ++ basic_text state row
    → longer ≡ rows ++ row ∷ [] → text ≡ start ++ basic_texts before longer
texts_step before state start front text rows longer row ahead behind wrote more =
    wrote
    ∙ ap₂ (λ (x : List ℕ) (w : Written). x ++ basic_text w row) ahead behind
    ∙ append_assoc start (basic_texts before rows) (basic_text (written_after_all before rows) row)
    ∙ ap (λ (x : List ℕ). start ++ x) (sym (texts_more before rows row) ∙ ap (basic_texts before) (sym more))

pub after_step : (before state after : Written) (rows longer : List RowValue) (row : RowValue)
    → state ≡ written_after_all before rows → after ≡ written_after state row
    → longer ≡ rows ++ row ∷ [] → after ≡ written_after_all before longer
after_step before state after rows longer row behind wrote more =
    wrote ∙ ap (λ w. written_after w row) behind
    ∙ sym (after_more before rows row) ∙ ap (written_after_all before) (sym more)

-- The first n items of a list are the items before index m, the item at m, and the items between m and n.
take_split : {X : Type 0} (xs : List X) (m n : ℕ) (d : X) → m < n → m < length xs →
    take n xs ≡ take m xs ++ get_or xs m d ∷ take (n - suc m) (drop (suc m) xs)
take_split [] m n d lt inside = let none : ⊥ = omega (arith, inside) in absurd none
take_split (x ∷ xs) m zero d lt inside = let none : ⊥ = omega (arith, lt) in absurd none
take_split (x ∷ xs) zero (suc n) d lt inside =
    let same : suc n - 1 ≡ n = omega arith in
    rw same refl
take_split (x ∷ xs) (suc m) (suc n) d lt inside =
    let same : suc n - suc (suc m) ≡ n - suc m = omega arith in
    rw same (ap (λ ys. x ∷ ys) (take_split xs m n d (omega (arith, lt)) (omega (arith, inside))))

-- If writing a row failed after the rows before it were written, writing all rows stopped within that row.
pub stopped_behind : (refuses : List ℕ → List ℕ → List ℕ → Type 0) (start front text : List ℕ)
    (before state after : Written) (rows : List RowValue) (first k last : ℕ) (row : RowValue)
    → first ≤ k → k < last → last ≤ length rows → get_or rows k row ≡ row
    → front ≡ start ++ basic_texts before (slice_range rows first k)
    → state ≡ written_after_all before (slice_range rows first k) → after ≡ state
    → 0 < length (basic_text state row) → IsStopped refuses front (basic_text state row) text
    → StopsAfter refuses start before (slice_range rows first last) text after
stopped_behind refuses start front text before state after rows first k last row low high inside here ahead behind same
    some stopped =
    let long = length-drop first rows in
    let there : first + (k - first) ≡ k = omega arith in
    let item = get_or-drop first rows (k - first) row ∙ ap (λ n. get_or rows n row) there ∙ here in
    let left = take (last - first - suc (k - first)) (drop (suc (k - first)) (drop first rows)) in
    record {
      whole = slice_range rows first k;
      row = row;
      left = left;
      parts =
          take_split (drop first rows) (k - first) (last - first) row (omega arith) (omega arith)
          ∙ ap (λ (x : RowValue). slice_range rows first k ++ x ∷ left) item;
      written = same ∙ behind;
      nonempty = subst (λ (w : Written). 0 < length (basic_text w row)) (sym same) some;
      stopped =
          subst (λ (w : Written). IsStopped refuses (start ++ basic_texts before (slice_range rows first k))
          (basic_text w row) text) (sym same)
          (subst (λ (xs : List ℕ). IsStopped refuses xs (basic_text state row) text) ahead stopped);
    }

texts_split : (before : Written) (rows more : List RowValue) →
    basic_texts before (rows ++ more) ≡ basic_texts before rows ++ basic_texts (written_after_all before rows) more
texts_split before [] more = refl
texts_split before (first ∷ rows) more =
    ap (λ (rest : List ℕ). basic_text before first ++ rest) (texts_split (written_after before first) rows more)
    ∙ sym (append_assoc (basic_text before first) (basic_texts (written_after before first) rows)
    (basic_texts (written_after_all (written_after before first) rows) more))

-- If writing rows stopped within one of them, their text is not empty.
pub some_texts : (refuses : List ℕ → List ℕ → List ℕ → Type 0) (start text : List ℕ) (before state : Written)
    (rows : List RowValue) → StopsAfter refuses start before rows text state → 0 < length (basic_texts before rows)
some_texts refuses start text before state rows stops =
    let some = stops.nonempty in
    let rest = basic_texts (written_after state stops.row) stops.left in
    let all : basic_texts before rows ≡ basic_texts before stops.whole ++ (basic_text state stops.row ++ rest) =
    ap (basic_texts before) stops.parts ∙ texts_split before stops.whole (stops.row ∷ stops.left)
    ∙ ap (λ (w : Written). basic_texts before stops.whole ++ basic_texts w (stops.row ∷ stops.left)) (sym stops.written) in
    let long = ap (λ (xs : List ℕ). length xs) all in
    let one = length-append (basic_texts before stops.whole) (basic_text state stops.row ++ rest) in
    let two = length-append (basic_text state stops.row) rest in
    omega arith

pub active_in_view : (is_alternate : Bool) (active idle : Scrollback)
    → IsNothing (alternate_scrollback is_alternate active idle) → IsAbove (main_scrollback is_alternate active idle)
    → active.offset ≤ length active.rows
active_in_view true active idle nothing above =
    let none = nothing.offset in
    omega arith
active_in_view false active idle nothing above = above.sound.in_view

pub same_visible : (above active : Scrollback) (rows : List RowValue) → above.rows ≡ active.rows →
    above.offset ≡ active.offset → visible above rows ≡ visible active rows
same_visible above active rows e o = rw (e, o) refl

-- The displayed rows are the slice of all rows from `start` to `end`.
pub visible_part : (active : Scrollback) (rows all shown : List RowValue) (start end : ℕ)
    → active.offset ≤ length active.rows → all ≡ active.rows ++ rows → shown ≡ visible active rows
    → end ≡ length active.rows + length rows - active.offset
    → start ≡ end - length rows → slice_range all start end ≡ shown
visible_part active rows all shown start end le a s e t =
    let first : start ≡ length active.rows - active.offset = omega arith in
    let last : end ≡ length active.rows - active.offset + length rows = omega arith in
    rw (a, s, first, last) (visible_slice active rows le)

-- ==== Captured rows contain no control characters except line ends and SGR sequences.

abbrev IsCaptureText : List ℕ → Type 0
IsCaptureText text = IsMadeOf capture_finals plain_controls text

captured_append : (text rest : List ℕ) → IsCaptureText text → IsCaptureText rest → IsCaptureText (text ++ rest)
captured_append text rest t r = made_append capture_finals plain_controls text rest t r

captured_nothing : IsCaptureText []
captured_nothing = made_nothing capture_finals plain_controls

-- ---- cells

captured_shown : (cell : CellValue) → IsCell cell → IsCaptureText (shown_text cell)
unfolding encode_utf8
captured_shown (blank attrs) is =
    made_piece capture_finals plain_controls (Characters (0x20 ∷ [])) ((refl, inl (omega arith, omega arith)), tt)
captured_shown (glyph text wide attrs) is = made_drawn capture_finals plain_controls text (printable_text text wide is)
captured_shown right_half is = captured_nothing

captured_change : (was new : Attrs) → IsCaptureText (change_text was new)
captured_change was new = made_change capture_finals plain_controls was new (inl refl)

captured_cells : (attrs : Attrs) (cells : List CellValue) →
    AllByRecursion IsCell cells → IsCaptureText (cells_text attrs cells)
captured_cells attrs [] are = captured_nothing
captured_cells attrs (cell ∷ cells) are =
    let after = attrs_after attrs cell in
    captured_append (change_text attrs after) (shown_text cell ++ cells_text after cells) (captured_change attrs after)
    (captured_append (shown_text cell) (cells_text after cells)
    (captured_shown cell are.0) (captured_cells after cells are.1))

-- ---- rows

trimmed_are : (cells : List CellValue) → AllByRecursion IsCell cells → AllByRecursion IsCell (cells_without_end cells)
trimmed_are [] are = tt
trimmed_are (cell ∷ cells) are =
    kept (list_all is_default_blank (cell ∷ cells)) (cell ∷ cells_without_end cells) (are.0, trimmed_are cells are.1) where
      kept : (b : Bool) (rest : List CellValue) → AllByRecursion IsCell rest →
          AllByRecursion IsCell (if b then [] else rest)
      kept true rest h = tt
      kept false rest h = h

captured_rows : (written : Written) (rows : List RowValue) →
    AllByRecursion IsAnyRow rows → IsCaptureText (basic_texts written rows)
captured_rows written [] are = captured_nothing
captured_rows written (row ∷ rows) are =
    let cells = trimmed_are row.cells (recursion_from_All IsCell row.cells are.0.sound) in
    captured_append (basic_text written row) (basic_texts (written_after written row) rows)
    (captured_append _ (cells_text written.attrs (cells_without_end row.cells))
    (made_if capture_finals plain_controls written.is_due (0x0A ∷ []) []
    (made_piece capture_finals plain_controls (Control (0x0A ∷ [])) (inl refl)) captured_nothing)
    (captured_cells written.attrs (cells_without_end row.cells) cells))
    (captured_rows (written_after written row) rows are.1)

pub capture_is : (screen : ScreenValue) → IsScreen screen →
    IsMadeOf capture_finals plain_controls (basic_texts nothing_written (visible_rows screen))
capture_is screen is =
    captured_rows nothing_written (visible_rows screen)
    (recursion_from_All IsAnyRow (visible_rows screen) (any_visible screen is))

-- ---- fresh rows

all_default : (n : ℕ) → list_all is_default_blank (blanks default_attrs n) ≡ true
unfolding same_attrs same_color
all_default zero = refl
all_default (suc n) = all_default n

trimmed_blanks : (width : ℕ) → cells_without_end (blanks default_attrs width) ≡ []
trimmed_blanks zero = refl
trimmed_blanks (suc width) = rw (all_default (suc width)) refl

fresh_rows : (written : Written) (n width : ℕ) →
    basic_texts (record written { is_due = true }) (replicate n (blank_row default_attrs width)) ≡ replicate n 0x0A
fresh_rows written zero width = refl
fresh_rows written (suc n) width =
    let none = trimmed_blanks width in
    rw none (ap (λ (rest : List ℕ). 0x0A ∷ rest) (fresh_rows written n width))

pub fresh_capture : (rows cols capacity : ℕ) →
    basic_texts nothing_written (visible_rows (fresh_screen (suc rows) cols capacity)) ≡ replicate rows 0x0A
fresh_capture rows cols capacity =
    let none = trimmed_blanks cols in
    ap (basic_texts nothing_written)
    (none_above (no_scrollback capacity) (replicate (suc rows) (blank_row default_attrs cols)) refl)
    ∙ rw none (fresh_rows nothing_written rows cols)
