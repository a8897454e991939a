-- Shifts of columns, and the diff after them, read by a plain terminal.
use Rattle.std.proofs.Common.{◌≡◌, ℕ, List, ◌∷◌, ◌++◌, length, refl, sym, ap, subst, ◌∙◌, append_assoc, inl, inr, zero}
use Rattle.std.proofs.Common.{suc, ◌-◌, ◌<◌, ◌^◌, Bool, true, false, [], Some, arith}
use Rattle.std.specs.Prelude.{Result, Ok, Err, OnOk, min, if◌then◌else◌}
use Rattle.std.specs.List.{AllByRecursion}
use Rattle.vt_cells.specs.Attrs.{default_attrs}
use Rattle.vt_cells.specs.Op.{bytes_of_all, FitsAttrs, MoveTo, bytes_of, counted}
use Rattle.vt_rows.specs.Row.{RowValue}
use Rattle.vt_scan.specs.Automaton.{start}
use Rattle.vt_grid.specs.Canvas.{Canvas}
use Rattle.vt_grid.specs.Page.{Page, IsPage, IsPlainPage}
use Rattle.vt_grid.specs.Scrollback.{Scrollback, visible}
use Rattle.vt_grid.specs.Moves.{moved, target_row}
use Rattle.vt_grid.specs.declared.grid.moves.CursorMove.TheVariants.{To}
use Rattle.vt_grid.specs.declared.page_step.PageStep.TheVariants.{DeleteChars, InsertChars}
use Rattle.vt_grid.specs.Shifts.{chars_deleted, chars_inserted}
use Rattle.vt_redraw.specs.Picture.{Picture, picture_of, picture_over, IsPicture, SamePictureSize}
use Rattle.vt_redraw.specs.Redraw.{difference}
use Rattle.vt_redraw.specs.Script.{attr_ops}
use Rattle.vt_redraw.specs.Internals.{AppendsShifting, Shifts}
use Rattle.vt_redraw.specs.Shifted.{IsRowShift, in_default_attrs, shifted_all, shifts_text, IsMoving, shift_text}
use Rattle.vt_redraw.specs.Shifted.{shifted_page, shifted_pages, shifting_text}
use Rattle.vt_redraw.specs.declared.row_shift.RowShift.{RowShift}
use Rattle.vt_redraw.specs.Steady.{IsSteady}
use Rattle.vt_redraw.specs.declared.form.Form.{Form}
use Rattle.vt_redraw.proofs.Viewing.{picture_over_page}
use Rattle.vt_redraw.proofs.Moving.{pages_are, pictures_shifted, attrs_shifted, inside_next, length_pages, page_shifted}
use Rattle.vt_redraw.proofs.Moving.{shifted_size}
use Rattle.vt_redraw.proofs.Difference.{difference_draws}
use Rattle.vt_redraw.proofs.PictureFits.{difference_fits}
use Rattle.vt_redraw.proofs.Redrawing.{page_picture}
use Rattle.vt_screen.specs.Screen.{ScreenValue, IsScreen, IsColored, canvas_of, with_page}
use Rattle.vt_screen.specs.Shown.{ShowsOwnPage, display, IsReader, IsReaderOf, KeepsRest, ReadsTo, Redraws}
use Rattle.vt_screen.specs.Shown.{reader_with_display}
use Rattle.vt_screen.specs.Controls.{counted_step}
use Rattle.vt_screen.specs.Reading.{terminal}
use Rattle.vt_screen.specs.Steps.{OnPage, display_after}
use Rattle.vt_screen.proofs.Shown.{none_above, own_shown, shown_height, plain_shown, shown_colored, shown_is}
use Rattle.vt_screen.proofs.ReadRedraws.{redraws, Becomes, drawing_read}
use Rattle.vt_screen.proofs.ReadMoved.{AreDiffed, change_read, empty_left, empty_right, scrolling_redraws}
use Rattle.vt_screen.proofs.ReadMoved.{scrolling_tells}
use Rattle.vt_screen.proofs.ReadOperations.{counted_read, moved_to_read}
use Rattle.vt_screen.proofs.ReadTexts.{reads_then}

-- ==== The view of a page whose columns were shifted, and the output that is written for it.

-- A canvas with default attributes.
abbrev pub canvas_with : Page → ScreenValue → Canvas
canvas_with page screen =
    record { page = page; attrs = default_attrs; saved_attrs = default_attrs; hidden = screen.hidden }

pub shifted_is_page : (prev : ScreenValue) (first : RowShift) (front text : List ℕ) (before after : Page) →
    IsScreen prev → before ≡ prev.page → Shifts first front text before after → IsPage after
shifted_is_page prev first front text before after is e shifts =
    subst IsPage (sym shifts.page)
    (pages_are (first ∷ shifts.rest) before (subst IsPage (sym e) is.page) shifts.inside)

pub own_view : (screen : ScreenValue) (above : Scrollback) (page : Page) → IsPage page → above.offset ≡ 0 →
    picture_over (visible above page.rows) (canvas_with page screen) ≡ picture_of (canvas_with page screen)
own_view screen above page is none =
    ap (λ (rows : List RowValue). picture_over rows (canvas_with page screen)) (none_above above page.rows none)
    ∙ picture_over_page (canvas_with page screen) is

pub shifted_view : (prev : ScreenValue) (first : RowShift) (front text : List ℕ) (before after : Page)
    → IsScreen prev → ShowsOwnPage prev → before ≡ prev.page → (shifts : Shifts first front text before after)
    → picture_of (canvas_with after prev) ≡ shifted_all (first ∷ shifts.rest) (in_default_attrs (display prev))
shifted_view prev first front text before after is own e shifts =
    let all = first ∷ shifts.rest in
    ap (λ (page : Page). picture_of (canvas_with page prev)) shifts.page
    ∙ (pictures_shifted all (canvas_with before prev)
    ∙ (ap (λ (page : Page). shifted_all all (picture_of (canvas_with page prev))) e
    ∙ ap (λ (p : Picture). shifted_all all (in_default_attrs p)) (sym (own_shown prev is own))))

-- The change of attributes, the shifts and the diff after them make up the whole output.
pub shifting_written : (self prev : ScreenValue) (first : RowShift) (front changed shifted done : List ℕ)
    (before after : Page) (picture : Picture) → before ≡ prev.page
    → changed ≡ front ++ bytes_of_all (attr_ops (display prev).attrs default_attrs)
    → (shifts : Shifts first changed shifted before after)
    → picture ≡ shifted_all (first ∷ shifts.rest) (in_default_attrs (display prev))
    → done ≡ shifted ++ bytes_of_all (difference (display self) picture)
    → AppendsShifting front done (display self) (display prev)
shifting_written self prev first front changed shifted done before after picture e first_bytes shifts shows last_bytes =
    let all = first ∷ shifts.rest in
    let change = bytes_of_all (attr_ops (display prev).attrs default_attrs) in
    let between = shifted_all all (in_default_attrs (display prev)) in
    let rest = bytes_of_all (difference (display self) between) in
    record {
      added = change ++ (shifts_text all ++ rest);
      bytes =
          last_bytes
          ∙ (ap (λ (p : Picture). shifted ++ bytes_of_all (difference (display self) p)) shows
          ∙ (ap (λ (t : List ℕ). t ++ rest) shifts.bytes
          ∙ (append_assoc changed (shifts_text all) rest
          ∙ (ap (λ (t : List ℕ). t ++ (shifts_text all ++ rest)) first_bytes
          ∙ append_assoc front change (shifts_text all ++ rest)))));
      shifts = record {
        first = first;
        rest = shifts.rest;
        inside =
            subst (λ (n : ℕ). AllByRecursion (IsRowShift n prev.page.width) all) (sym (shown_height prev))
            (subst (λ (p : Page). AllByRecursion (IsRowShift (length p.rows) p.width) all) e shifts.inside);
        bytes = refl;
      };
    }

-- A shift within a picture is within the page that the screen displays.
pub first_inside : (prev : ScreenValue) (page : Page) (first : RowShift) → page ≡ prev.page →
    IsRowShift (length (display prev).rows) (display prev).width first → IsRowShift (length page.rows) page.width first
first_inside prev page first e inside =
    subst (λ (p : Page). IsRowShift (length p.rows) p.width first) (sym e)
    (subst (λ (n : ℕ). IsRowShift n prev.page.width first) (shown_height prev) inside)

pub on_ok : {A E : Type 0} (r : Result A E) (P Q : Type 0) → (P → Q) → OnOk r P → OnOk r Q
on_ok (Ok a) P Q f h = f h
on_ok (Err e) P Q f h = h

-- ==== Shifts of columns, and the diff after them, read by a plain terminal.

-- ---- one shift

pub inserted_chars_read : (n : ℕ) (screen : ScreenValue) → suc n < 2 ^ 16 →
    ReadsTo (counted (suc n) 0x40) screen (display_after (OnPage (InsertChars (suc n))) screen)
unfolding counted_step
inserted_chars_read n screen h = counted_read n 0x40 InsertChars screen h (omega arith, omega arith) (λ groups. refl)

pub deleted_chars_read : (n : ℕ) (screen : ScreenValue) → suc n < 2 ^ 16 →
    ReadsTo (counted (suc n) 0x50) screen (display_after (OnPage (DeleteChars (suc n))) screen)
unfolding counted_step
deleted_chars_read n screen h = counted_read n 0x50 DeleteChars screen h (omega arith, omega arith) (λ groups. refl)

placed : (r c : ℕ) (page : Page) → IsPlainPage page → r < length page.rows → c < page.width →
    moved (To r c) page ≡ record page { row = r; column = c }
placed r c page plain h k =
    let row : target_row r page ≡ r = rw plain.origin (omega arith) in
    let column : min c (page.width - 1) ≡ c = omega arith in
    ap (λ (n : ℕ). record page { row = n; column = min c (page.width - 1) }) row
    ∙ ap (λ (n : ℕ). record page { row = r; column = n }) column

abbrev shift_of : (insert : Bool) (count r c : ℕ) → RowShift
shift_of insert count r c = record { row = r; col = c; count = count; insert = insert }

part_read : (insert : Bool) (count r c : ℕ) (screen : ScreenValue) → IsPage screen.page → IsPlainPage screen.page
    → IsRowShift (length screen.page.rows) screen.page.width (shift_of insert count r c)
    → ReadsTo (shift_text (shift_of insert count r c)) screen
    (with_page (shifted_page (shift_of insert count r c) screen.page) screen)
part_read insert zero r c screen is plain inside = absurd (omega (arith, inside.nonempty))
part_read true (suc n) r c screen is plain inside =
    let a = inside.row in
    let b = inside.columns in
    let wide = is.columns in
    let tall = is.height in
    let middle = with_page (moved (To r c) screen.page) screen in
    reads_then (terminal start screen) (terminal start middle)
    (terminal start (display_after (OnPage (InsertChars (suc n))) middle))
    (bytes_of (MoveTo r c)) (counted (suc n) 0x40)
    (moved_to_read r c screen (omega arith) (omega arith)) (inserted_chars_read n middle (omega arith))
    ∙ ap (λ (page : Page). Some (terminal start (with_page (chars_inserted (suc n) page) screen)))
    (placed r c screen.page plain a (omega arith))
part_read false (suc n) r c screen is plain inside =
    let a = inside.row in
    let b = inside.columns in
    let wide = is.columns in
    let tall = is.height in
    let middle = with_page (moved (To r c) screen.page) screen in
    reads_then (terminal start screen) (terminal start middle)
    (terminal start (display_after (OnPage (DeleteChars (suc n))) middle))
    (bytes_of (MoveTo r c)) (counted (suc n) 0x50)
    (moved_to_read r c screen (omega arith) (omega arith)) (deleted_chars_read n middle (omega arith))
    ∙ ap (λ (page : Page). Some (terminal start (with_page (chars_deleted (suc n) page) screen)))
    (placed r c screen.page plain a (omega arith))

-- ---- several shifts

plain_shifted : (shift : RowShift) (page : Page) → IsPlainPage page → IsPlainPage (shifted_page shift page)
plain_shifted shift page plain =
    record { whole = (plain.whole.0, plain.whole.1 ∙ sym (length_pages (shift ∷ []) page)); origin = plain.origin }

plain_all : (shifts : List RowShift) (page : Page) → IsPlainPage page → IsPlainPage (shifted_pages shifts page)
plain_all [] page plain = plain
plain_all (shift ∷ shifts) page plain = plain_all shifts (shifted_page shift page) (plain_shifted shift page plain)

shifts_read : (shifts : List RowShift) (screen : ScreenValue) → IsPage screen.page → IsPlainPage screen.page
    → AllByRecursion (IsRowShift (length screen.page.rows) screen.page.width) shifts
    → ReadsTo (shifts_text shifts) screen (with_page (shifted_pages shifts screen.page) screen)
shifts_read [] screen is plain all = refl
shifts_read (shift ∷ shifts) screen is plain all =
    let next = with_page (shifted_page shift screen.page) screen in
    reads_then (terminal start screen) (terminal start next)
    (terminal start (with_page (shifted_pages shifts next.page) next)) (shift_text shift) (shifts_text shifts)
    (part_read shift.insert shift.count shift.row shift.col screen is plain all.0)
    (shifts_read shifts next (page_shifted shift screen.page is all.0) (plain_shifted shift screen.page plain)
    (inside_next shift shifts screen.page all.1))

-- Shifts change only the rows and the cursor of a page.
rows_and_cursor : (shifts : List RowShift) (page : Page)
    → shifted_pages shifts page
    ≡ record page {
      rows = (shifted_pages shifts page).rows;
      row = (shifted_pages shifts page).row;
      column = (shifted_pages shifts page).column;
    }
rows_and_cursor [] page = refl
rows_and_cursor (shift ∷ shifts) page = rows_and_cursor shifts (shifted_page shift page)

-- ---- the whole output

shifted_becomes : (self reader : ScreenValue) (shifts : List RowShift) → IsScreen self → IsColored self
    → IsSteady (display self) → IsReader (display self) reader
    → AllByRecursion (IsRowShift (length reader.page.rows) reader.page.width) shifts
    → Becomes (display self) (shifting_text shifts (display self) (picture_of (canvas_of reader))) reader
shifted_becomes self reader shifts is colored steady r all =
    let picture = display self in
    let before = in_default_attrs (picture_of (canvas_of reader)) in
    let between = shifted_all shifts before in
    let middle : ScreenValue = record reader { attrs = default_attrs } in
    let next = with_page (shifted_pages shifts reader.page) middle in
    let shows : picture_of (canvas_of next) ≡ between = pictures_shifted shifts (canvas_of middle) in
    let same : SamePictureSize picture between =
    shifted_size picture before shifts
    (record { width = r.size.width; height = r.size.height ∙ shown_height reader }) in
    let b : Becomes picture (bytes_of_all (difference picture between)) next =
    drawing_read (difference picture between) picture next
    (difference_fits picture between (shown_is self is) (shown_colored self is colored)
    (subst FitsAttrs (sym (attrs_shifted shifts before)) (tt, tt)))
    (difference_draws picture between (canvas_of next) (shown_is self is) steady
    (subst IsPicture shows (page_picture (canvas_of next) (pages_are shifts reader.page r.sound.page all))) same
    (plain_all shifts reader.page r.plain.page) shows) in
    record {
      saved = b.saved;
      last = b.last;
      reads =
          reads_then (terminal start reader) (terminal start middle)
          (terminal start (reader_with_display picture b.saved b.last next))
          (bytes_of_all (attr_ops reader.attrs default_attrs))
          (shifts_text shifts ++ bytes_of_all (difference picture between)) (change_read reader)
          (reads_then (terminal start middle) (terminal start next)
          (terminal start (reader_with_display picture b.saved b.last next)) (shifts_text shifts)
          (bytes_of_all (difference picture between))
          (shifts_read shifts middle r.sound.page r.plain.page all) b.reads)
          ∙ ap (λ (page : Page). Some (terminal start (reader_with_display picture b.saved b.last (with_page page middle))))
          (rows_and_cursor shifts reader.page);
    }

shifting_read : (self prev reader : ScreenValue) (shifts : List RowShift) → IsScreen self → IsColored self
    → IsSteady (display self) → IsReaderOf (display self) (display prev) reader
    → AllByRecursion (IsRowShift (length (display prev).rows) (display prev).width) shifts
    → Becomes (display self) (shifting_text shifts (display self) (display prev)) reader
shifting_read self prev reader shifts is colored steady r all =
    let page = plain_shown reader r.is.sound r.is.plain in
    let e : picture_of (canvas_of reader) ≡ display prev = sym page ∙ r.shows in
    subst (λ (p : Picture). Becomes (display self) (shifting_text shifts (display self) p) reader) e
    (shifted_becomes self reader shifts is colored steady r.is
    (subst (λ (p : Picture). AllByRecursion (IsRowShift (length p.rows) p.width) shifts) (sym e) all))

pub moving_redraws : (form : Form) (self prev : ScreenValue) (text : List ℕ) → AreDiffed self prev →
    IsMoving form (display self) (display prev) text →
    Redraws (display self) (IsReaderOf (display self) (display prev)) KeepsRest text
moving_redraws form self prev text d (inl told) = scrolling_redraws form self prev text d told
moving_redraws form self prev text d (inr (fixed, it)) =
    redraws (IsReaderOf (display self) (display prev)) (display self) text (shown_is self d.sound) (λ reader r. r.is)
    (λ steady reader r. subst (λ (t : List ℕ). Becomes (display self) t reader) (sym it.bytes)
    (shifting_read self prev reader (it.first ∷ it.rest) d.sound d.colored steady r it.inside))

-- ---- empty output

some_place : (r c : ℕ) → bytes_of (MoveTo r c) ≡ [] → ⊥
some_place r c empty = cc

-- A diff that may move rows or columns is empty only between screens that display the same.
pub moving_tells : (form : Form) (self prev : ScreenValue) (text : List ℕ) → AreDiffed self prev →
    IsSteady (display self) → IsMoving form (display self) (display prev) text → text ≡ [] →
    display self ≡ display prev
moving_tells form self prev text d steady (inl told) empty = scrolling_tells form self prev text d steady told empty
moving_tells form self prev text d steady (inr (fixed, it)) empty =
    let before = in_default_attrs (display prev) in
    let change = bytes_of_all (attr_ops (display prev).attrs default_attrs) in
    let rest = bytes_of_all (difference (display self) (shifted_all (it.first ∷ it.rest) before)) in
    let place = bytes_of (MoveTo it.first.row it.first.col) in
    let edit = counted it.first.count (if it.first.insert then 0x40 else 0x50) in
    let shifts_empty = empty_left (shifts_text (it.first ∷ it.rest)) rest
    (empty_right change (shifts_text (it.first ∷ it.rest) ++ rest) (sym it.bytes ∙ empty)) in
    absurd (some_place it.first.row it.first.col
    (empty_left place edit (empty_left (shift_text it.first) (shifts_text it.rest) shifts_empty)))
