-- Diffs that may move rows or columns: of what they are made, and that they keep plain terminals plain.
use Rattle.std.proofs.Common.{inl, inr, ℕ, ◌-◌, ◌==◌, Bool, true, false, List, [], ◌∷◌, ◌++◌, refl, sym, subst, codes}
use Rattle.std.proofs.Common.{if◌then◌else◌, length, zero, suc, ◌<◌, ◌^◌, arith}
use Rattle.std.specs.List.{AllByRecursion}
use Rattle.vt_cells.specs.Attrs.{default_attrs, same_attrs, Attrs}
use Rattle.vt_cells.specs.Op.{ChangeAttrs, FitsAttrs, bytes_of_all, change_text, counted, csi, place, MoveTo, bytes_of}
use Rattle.vt_scan.specs.Automaton.{start}
use Rattle.vt_grid.specs.declared.page_step.PageStep.TheVariants as page
use Rattle.vt_redraw.specs.Moved.{IsScrolling, band_text, down_text, lines_deleted_text, lines_inserted_text}
use Rattle.vt_redraw.specs.Moved.{picture_after_move, moving_text, scrolling_text, up_text, IsBand}
use Rattle.vt_redraw.specs.Redraw.{difference, difference_in}
use Rattle.vt_redraw.specs.Script.{attr_ops, attr_ops_in}
use Rattle.vt_redraw.specs.Shifted.{IsMoving, in_default_attrs, shift_text, shifted_all, shifting_text, shifts_text}
use Rattle.vt_redraw.specs.Shifted.{IsRowShift}
use Rattle.vt_redraw.specs.declared.band.Band.{Band}
use Rattle.vt_redraw.specs.declared.form.Form.{Form}
use Rattle.vt_redraw.specs.declared.row_shift.RowShift.{RowShift}
use Rattle.vt_redraw.proofs.PictureFits.{difference_fits}
use Rattle.vt_redraw.proofs.Moving.{moved_fits, attrs_shifted}
use Rattle.vt_redraw.proofs.Saving.{difference_safe_in, difference_safe}
use Rattle.vt_screen.specs.MadeOf.{IsMadeOf, IsOneOf, drawing_controls, drawing_finals}
use Rattle.vt_screen.specs.Screen.{ScreenValue, IsScreen, IsColored}
use Rattle.vt_screen.specs.Shown.{display, display_change_in, ReadsTo}
use Rattle.vt_screen.specs.Again.{KeepsPlain}
use Rattle.vt_screen.specs.CallsOfRun.{screen_in}
use Rattle.vt_screen.specs.Steps.{OnPage, display_after}
use Rattle.vt_screen.proofs.AgainForms.{difference_made_in, difference_keeps_in}
use Rattle.vt_screen.proofs.MadeOf.{made_append, made_change, made_counted, made_if, made_more, made_nothing, made_ops}
use Rattle.vt_screen.proofs.MadeOf.{made_place}
use Rattle.vt_screen.proofs.Shown.{shown_colored, shown_is}
use Rattle.vt_screen.proofs.StepRegions.{framed_lines_deleted, framed_lines_inserted}
use Rattle.vt_screen.proofs.ReadMoved.{deleted_read, inserted_read}
use Rattle.vt_screen.proofs.SizePage.{same_lines_deleted, same_lines_inserted, same_chars_deleted, same_chars_inserted}
use Rattle.vt_screen.proofs.AgainPlain.{Goes, Holds, goes_read, goes_then, held, leaves, nothing_goes, op_goes, ops_go}
use Rattle.vt_screen.proofs.AgainPlain.{plain_holds}
use Rattle.vt_screen.proofs.ReadShifted.{deleted_chars_read, inserted_chars_read}

-- ==== The output of a diff that may move rows or columns consists of characters and the controls used for drawing and
-- moving.

-- ---- moving rows

-- The final bytes of the control sequences in drawing output that moves rows or columns, before its cursor movements are
-- shortened: those of ICH, DCH, IL and DL, and those in `drawing_finals`.
abbrev pub scrolling_finals : List ℕ
scrolling_finals = codes "@PLMHCXm"

abbrev IsScrollingText : List ℕ → Type 0
IsScrollingText text = IsMadeOf scrolling_finals drawing_controls text

drawing_scrolls : (text : List ℕ) → IsMadeOf drawing_finals drawing_controls text → IsScrollingText text
drawing_scrolls text made =
    made_more drawing_finals scrolling_finals drawing_controls drawing_controls (λ x one. inr (inr (inr (inr one))))
    (λ x one. one) text made

-- The cursor moves to a position, and rows or columns are deleted or inserted there.
placed_made : (count row col final : ℕ) → IsOneOf final scrolling_finals →
    IsScrollingText (csi (place row col) 0x48 ++ counted count final)
placed_made count row col final is =
    made_append scrolling_finals drawing_controls (csi (place row col) 0x48) (counted count final)
    (made_place scrolling_finals drawing_controls row col 0x48 (inr (inr (inr (inr (inl refl))))))
    (made_counted scrolling_finals drawing_controls count final is)

deleted_made : (row count : ℕ) → IsScrollingText (lines_deleted_text row count)
deleted_made row count = placed_made count row 0 0x4D (inr (inr (inr (inl refl))))

inserted_made : (row count : ℕ) → IsScrollingText (lines_inserted_text row count)
inserted_made row count = placed_made count row 0 0x4C (inr (inr (inl refl)))

band_made : (height : ℕ) (band : Band) → IsScrollingText (band_text height band)
unfolding up_text down_text
band_made height band =
    made_if scrolling_finals drawing_controls band.up (up_text height band) (down_text height band)
    (made_if scrolling_finals drawing_controls (band.bottom == height) (lines_deleted_text band.top band.count) _
    (deleted_made band.top band.count)
    (made_append scrolling_finals drawing_controls (lines_deleted_text band.top band.count)
    (lines_inserted_text (band.bottom - band.count) band.count)
    (deleted_made band.top band.count) (inserted_made (band.bottom - band.count) band.count)))
    (made_if scrolling_finals drawing_controls (band.bottom == height) (lines_inserted_text band.top band.count) _
    (inserted_made band.top band.count)
    (made_append scrolling_finals drawing_controls (lines_deleted_text (band.bottom - band.count) band.count)
    (lines_inserted_text band.top band.count)
    (deleted_made (band.bottom - band.count) band.count) (inserted_made band.top band.count)))

attr_ops_made : (was new : Attrs) → IsMadeOf drawing_finals drawing_controls (bytes_of_all (attr_ops was new))
unfolding attr_ops_in
attr_ops_made was new = by_same (same_attrs was new) where
  by_same : (b : Bool) →
      IsMadeOf drawing_finals drawing_controls (bytes_of_all (if b then [] else ChangeAttrs was new ∷ []))
  by_same true = made_nothing drawing_finals drawing_controls
  by_same false =
      made_append drawing_finals drawing_controls (change_text was new) []
      (made_change drawing_finals drawing_controls was new (inr (inr (inr (inl refl)))))
      (made_nothing drawing_finals drawing_controls)

scrolled_made : (form : Form) (screen prev : ScreenValue) (band : Band) → IsScreen screen → IsColored screen →
    IsScreen prev → IsColored prev → IsScrollingText (scrolling_text form band (display screen) (display prev))
scrolled_made form screen prev band is colored other colored_other =
    let rest_ops = difference_in form (display screen) (picture_after_move band (display prev)) in
    made_append scrolling_finals drawing_controls (moving_text band (display prev)) (bytes_of_all rest_ops)
    (made_append scrolling_finals drawing_controls (bytes_of_all (attr_ops (display prev).attrs default_attrs))
    (band_text (length (display prev).rows) band)
    (drawing_scrolls (bytes_of_all (attr_ops (display prev).attrs default_attrs))
    (attr_ops_made (display prev).attrs default_attrs)) (band_made (length (display prev).rows) band))
    (drawing_scrolls (bytes_of_all rest_ops)
    (made_ops rest_ops
    (moved_fits form (display screen) (display prev) band (shown_is screen is) (shown_colored screen is colored)
    (shown_is prev other) (shown_colored prev other colored_other).columns)))

scrolling_made : (form : Form) (screen prev : ScreenValue) (text : List ℕ) → IsScreen screen → IsColored screen →
    IsScreen prev → IsColored prev → IsScrolling form (display screen) (display prev) text → IsScrollingText text
scrolling_made form screen prev text is colored other colored_other (inl told) =
    subst IsScrollingText (sym told) (drawing_scrolls (display_change_in form prev screen)
    (difference_made_in form screen prev is colored other colored_other))
scrolling_made form screen prev text is colored other colored_other (inr it) =
    subst IsScrollingText (sym it.2) (scrolled_made form screen prev it.0 is colored other colored_other)

-- ---- shifting columns

shift_made : (insert : Bool) (count row col : ℕ) →
    IsScrollingText (shift_text (record { row = row; col = col; count = count; insert = insert }))
shift_made true count row col = placed_made count row col 0x40 (inl refl)
shift_made false count row col = placed_made count row col 0x50 (inr (inl refl))

shifts_made : (shifts : List RowShift) → IsScrollingText (shifts_text shifts)
shifts_made [] = made_nothing scrolling_finals drawing_controls
shifts_made (shift ∷ shifts) =
    made_append scrolling_finals drawing_controls (shift_text shift) (shifts_text shifts)
    (shift_made shift.insert shift.count shift.row shift.col) (shifts_made shifts)

shifted_made : (screen prev : ScreenValue) (shifts : List RowShift) → IsScreen screen → IsColored screen →
    IsScrollingText (shifting_text shifts (display screen) (display prev))
shifted_made screen prev shifts is colored =
    let between = shifted_all shifts (in_default_attrs (display prev)) in
    let change = bytes_of_all (attr_ops (display prev).attrs default_attrs) in
    let rest = bytes_of_all (difference (display screen) between) in
    made_append scrolling_finals drawing_controls change (shifts_text shifts ++ rest)
    (drawing_scrolls change (attr_ops_made (display prev).attrs default_attrs))
    (made_append scrolling_finals drawing_controls (shifts_text shifts) rest (shifts_made shifts)
    (drawing_scrolls rest
    (made_ops (difference (display screen) between)
    (difference_fits (display screen) between (shown_is screen is) (shown_colored screen is colored)
    (subst FitsAttrs (sym (attrs_shifted shifts (in_default_attrs (display prev)))) (tt, tt))))))

pub moving_made : (form : Form) (screen prev : ScreenValue) (text : List ℕ) → IsScreen screen → IsColored screen →
    IsScreen prev → IsColored prev → IsMoving form (display screen) (display prev) text →
    IsMadeOf scrolling_finals drawing_controls text
moving_made form screen prev text is colored other colored_other (inl told) =
    scrolling_made form screen prev text is colored other colored_other told
moving_made form screen prev text is colored other colored_other (inr (fixed, it)) =
    subst IsScrollingText (sym it.bytes) (shifted_made screen prev (it.first ∷ it.rest) is colored)

-- ==== A plain terminal that reads a scrolling diff is plain again, whatever the diff draws.

-- ---- bands that move first

-- A terminal that moves its cursor to a row and deletes or inserts rows there stays plain.
lines_go : (row n final : ℕ) (reader screen : ScreenValue) (new : ScreenValue → ScreenValue) → row < 65535 →
    ((s : ScreenValue) → ReadsTo (counted n final) s (new s)) →
    ((s : ScreenValue) → Holds false reader s → Holds false reader (new s)) → Holds false reader screen →
    Goes false reader screen (bytes_of (MoveTo row 0) ++ counted n final)
lines_go row n final reader screen new low reads kept h =
    let first = op_goes (MoveTo row 0) false reader screen (low, omega arith) tt h in
    let middle = screen_in start screen (bytes_of (MoveTo row 0)) in
    goes_then false false reader screen (bytes_of (MoveTo row 0)) (counted n final) first
    (goes_read false reader middle (new middle) (counted n final) (reads middle) (kept middle first.holds))

deleted_go : (row n : ℕ) (reader screen : ScreenValue) → row < 65535 → 0 < n → n < 2 ^ 16 →
    Holds false reader screen → Goes false reader screen (lines_deleted_text row n)
deleted_go row zero reader screen low some short h = absurd (omega arith)
deleted_go row (suc n) reader screen low some short h =
    lines_go row (suc n) 0x4D reader screen (λ s. display_after (OnPage (page.DeleteLines (suc n))) s) low
    (λ s. deleted_read n s short)
    (λ s k. held false reader s (display_after (OnPage (page.DeleteLines (suc n))) s)
    (framed_lines_deleted (suc n) s.page)
    (record { other = refl; is_alternate = refl; modes = refl; size = same_lines_deleted (suc n) s.page }) k.offset k) h

inserted_go : (row n : ℕ) (reader screen : ScreenValue) → row < 65535 → 0 < n → n < 2 ^ 16 →
    Holds false reader screen → Goes false reader screen (lines_inserted_text row n)
inserted_go row zero reader screen low some short h = absurd (omega arith)
inserted_go row (suc n) reader screen low some short h =
    lines_go row (suc n) 0x4C reader screen (λ s. display_after (OnPage (page.InsertLines (suc n))) s) low
    (λ s. inserted_read n s short)
    (λ s k. held false reader s (display_after (OnPage (page.InsertLines (suc n))) s)
    (framed_lines_inserted (suc n) s.page)
    (record { other = refl; is_alternate = refl; modes = refl; size = same_lines_inserted (suc n) s.page }) k.offset k) h

both_go : (gone in_at n : ℕ) (reader screen : ScreenValue) → gone < 65535 → in_at < 65535 → 0 < n → n < 2 ^ 16 →
    Holds false reader screen → Goes false reader screen (lines_deleted_text gone n ++ lines_inserted_text in_at n)
both_go gone in_at n reader screen first second some short h =
    let one = deleted_go gone n reader screen first some short h in
    goes_then false false reader screen (lines_deleted_text gone n) (lines_inserted_text in_at n) one
    (inserted_go in_at n reader (screen_in start screen (lines_deleted_text gone n)) second some short one.holds)

goes_if : (b : Bool) (reader screen : ScreenValue) (x y : List ℕ) → Goes false reader screen x →
    Goes false reader screen y → Goes false reader screen (if b then x else y)
goes_if true reader screen x y g k = g
goes_if false reader screen x y g k = k

band_goes : (height : ℕ) (band : Band) (reader screen : ScreenValue) → height < 2 ^ 16 → IsBand height band →
    Holds false reader screen → Goes false reader screen (band_text height band)
unfolding up_text down_text
band_goes height band reader screen tall is h =
    let a = is.nonempty in
    let b = is.rows in
    let c = is.inside in
    goes_if band.up reader screen (up_text height band) (down_text height band)
    (goes_if (band.bottom == height) reader screen (lines_deleted_text band.top band.count) _
    (deleted_go band.top band.count reader screen (omega arith) a (omega arith) h)
    (both_go band.top (band.bottom - band.count) band.count reader screen (omega arith) (omega arith) a (omega arith) h))
    (goes_if (band.bottom == height) reader screen (lines_inserted_text band.top band.count) _
    (inserted_go band.top band.count reader screen (omega arith) a (omega arith) h)
    (both_go (band.bottom - band.count) band.top band.count reader screen (omega arith) (omega arith) a (omega arith) h))

pub change_goes : (was : Attrs) (reader screen : ScreenValue) → FitsAttrs was → Holds false reader screen →
    Goes false reader screen (bytes_of_all (attr_ops was default_attrs))
unfolding attr_ops_in
change_goes was reader screen fits h = by_same (same_attrs was default_attrs)
  where
    by_same : (b : Bool) →
        Goes false reader screen (bytes_of_all (if b then [] else ChangeAttrs was default_attrs ∷ []))
    by_same true = nothing_goes false reader screen h
    by_same false =
        let first = op_goes (ChangeAttrs was default_attrs) false reader screen (fits, (tt, tt)) tt h in
        goes_then false false reader screen (bytes_of (ChangeAttrs was default_attrs)) [] first
        (nothing_goes false reader (screen_in start screen (bytes_of (ChangeAttrs was default_attrs))) first.holds)

scrolled_keeps : (form : Form) (screen prev : ScreenValue) (band : Band) → IsScreen screen → IsColored screen →
    IsScreen prev → IsColored prev → IsBand (length (display prev).rows) band →
    KeepsPlain (scrolling_text form band (display screen) (display prev))
scrolled_keeps form screen prev band is colored sound other inside reader plain =
    let height = length (display prev).rows in
    let change = bytes_of_all (attr_ops (display prev).attrs default_attrs) in
    let band_moves = band_text height band in
    let rest_ops = difference_in form (display screen) (picture_after_move band (display prev)) in
    let one = change_goes (display prev).attrs reader reader other.attrs (plain_holds reader plain) in
    let sized = shown_colored prev sound other in
    let two = band_goes height band reader (screen_in start reader change) sized.height inside one.holds in
    let both = goes_then false false reader reader change band_moves one two in
    let rest = ops_go rest_ops false reader (screen_in start reader (change ++ band_moves))
    (moved_fits form (display screen) (display prev) band (shown_is screen is) (shown_colored screen is colored)
    (shown_is prev sound) sized.columns)
    (difference_safe_in form (display screen) (picture_after_move band (display prev)) false) both.holds in
    leaves reader (scrolling_text form band (display screen) (display prev)) (record {
      saved = rest.saved;
      goes = goes_then false rest.saved reader reader (change ++ band_moves) (bytes_of_all rest_ops) both rest.goes;
    })

pub scrolling_keeps : (form : Form) (screen prev : ScreenValue) (text : List ℕ) → IsScreen screen → IsColored screen →
    IsScreen prev → IsColored prev → IsScrolling form (display screen) (display prev) text → KeepsPlain text
scrolling_keeps form screen prev text is colored sound other (inl told) =
    subst KeepsPlain (sym told) (difference_keeps_in form screen prev is colored sound other)
scrolling_keeps form screen prev text is colored sound other (inr it) =
    subst KeepsPlain (sym it.2) (scrolled_keeps form screen prev it.0 is colored sound other it.1)

-- ==== A plain terminal that reads a diff that shifts columns is plain again, whatever the diff draws.

-- The cursor moves to a position, and columns are deleted or inserted there.
columns_go : (row col n final : ℕ) (reader screen : ScreenValue) (new : ScreenValue → ScreenValue) → row < 65535 →
    col < 65535 → ((s : ScreenValue) → ReadsTo (counted n final) s (new s)) →
    ((s : ScreenValue) → Holds false reader s → Holds false reader (new s)) → Holds false reader screen →
    Goes false reader screen (bytes_of (MoveTo row col) ++ counted n final)
columns_go row col n final reader screen new low narrow reads kept h =
    let first = op_goes (MoveTo row col) false reader screen (low, narrow) tt h in
    let middle = screen_in start screen (bytes_of (MoveTo row col)) in
    goes_then false false reader screen (bytes_of (MoveTo row col)) (counted n final) first
    (goes_read false reader middle (new middle) (counted n final) (reads middle) (kept middle first.holds))

shift_goes : (insert : Bool) (count row col : ℕ) (reader screen : ScreenValue) → row < 65535 → col < 65535 →
    0 < count → count < 2 ^ 16 → Holds false reader screen →
    Goes false reader screen (shift_text (record { row = row; col = col; count = count; insert = insert }))
shift_goes insert zero row col reader screen low narrow some short h = absurd (omega arith)
shift_goes true (suc n) row col reader screen low narrow some short h =
    columns_go row col (suc n) 0x40 reader screen (λ s. display_after (OnPage (page.InsertChars (suc n))) s) low narrow
    (λ s. inserted_chars_read n s short)
    (λ s k. held false reader s (display_after (OnPage (page.InsertChars (suc n))) s)
    (record { top = refl; bottom = refl; origin = refl; saved_origin = refl })
    (record { other = refl; is_alternate = refl; modes = refl; size = same_chars_inserted (suc n) s.page }) k.offset k) h
shift_goes false (suc n) row col reader screen low narrow some short h =
    columns_go row col (suc n) 0x50 reader screen (λ s. display_after (OnPage (page.DeleteChars (suc n))) s) low narrow
    (λ s. deleted_chars_read n s short)
    (λ s k. held false reader s (display_after (OnPage (page.DeleteChars (suc n))) s)
    (record { top = refl; bottom = refl; origin = refl; saved_origin = refl })
    (record { other = refl; is_alternate = refl; modes = refl; size = same_chars_deleted (suc n) s.page }) k.offset k) h

shifts_go : (height width : ℕ) (shifts : List RowShift) (reader screen : ScreenValue) → height < 2 ^ 16 →
    width < 2 ^ 16 → AllByRecursion (IsRowShift height width) shifts → Holds false reader screen →
    Goes false reader screen (shifts_text shifts)
shifts_go height width [] reader screen tall wide all h = nothing_goes false reader screen h
shifts_go height width (shift ∷ shifts) reader screen tall wide all h =
    let a = all.0.nonempty in
    let b = all.0.row in
    let c = all.0.columns in
    let one = shift_goes shift.insert shift.count shift.row shift.col reader screen (omega arith) (omega arith) a
    (omega arith) h in
    goes_then false false reader screen (shift_text shift) (shifts_text shifts) one
    (shifts_go height width shifts reader (screen_in start screen (shift_text shift)) tall wide all.1 one.holds)

shifted_keeps : (screen prev : ScreenValue) (shifts : List RowShift) → IsScreen screen → IsColored screen
    → IsScreen prev → IsColored prev
    → AllByRecursion (IsRowShift (length (display prev).rows) (display prev).width) shifts
    → KeepsPlain (shifting_text shifts (display screen) (display prev))
shifted_keeps screen prev shifts is colored sound other all reader plain =
    let before = in_default_attrs (display prev) in
    let between = shifted_all shifts before in
    let change = bytes_of_all (attr_ops (display prev).attrs default_attrs) in
    let rest_ops = difference (display screen) between in
    let sized = shown_colored prev sound other in
    let one = change_goes (display prev).attrs reader reader other.attrs (plain_holds reader plain) in
    let changed = screen_in start reader change in
    let two = shifts_go (length (display prev).rows) (display prev).width shifts reader changed sized.height sized.columns
    all one.holds in
    let rest = ops_go rest_ops false reader (screen_in start changed (shifts_text shifts))
    (difference_fits (display screen) between (shown_is screen is) (shown_colored screen is colored)
    (subst FitsAttrs (sym (attrs_shifted shifts before)) (tt, tt)))
    (difference_safe (display screen) between false) two.holds in
    leaves reader (shifting_text shifts (display screen) (display prev)) (record {
      saved = rest.saved;
      goes =
          goes_then false rest.saved reader reader change (shifts_text shifts ++ bytes_of_all rest_ops) one
          (goes_then false rest.saved reader changed (shifts_text shifts) (bytes_of_all rest_ops) two rest.goes);
    })

pub moving_keeps : (form : Form) (screen prev : ScreenValue) (text : List ℕ) → IsScreen screen → IsColored screen →
    IsScreen prev → IsColored prev → IsMoving form (display screen) (display prev) text → KeepsPlain text
moving_keeps form screen prev text is colored sound other (inl told) =
    scrolling_keeps form screen prev text is colored sound other told
moving_keeps form screen prev text is colored sound other (inr (fixed, it)) =
    subst KeepsPlain (sym it.bytes) (shifted_keeps screen prev (it.first ∷ it.rest) is colored sound other it.inside)
