-- Reading a band's move, and the diff after it, on a plain terminal.
use Rattle.std.proofs.Common.{◌≡◌, inl, inr, ℕ, zero, suc, ◌+◌, ◌-◌, ◌<◌, ◌≤◌, ◌==◌, ◌^◌, Bool, true, false, List, []}
use Rattle.std.proofs.Common.{◌∷◌, ◌++◌, length, Option, Some, None, refl, sym, ap, subst, ◌∙◌, arith}
use Rattle.std.specs.Prelude.{IfSome, if◌then◌else◌}
use Rattle.std.proofs.lemmas.Bool.Decides.{nat_tests}
use Rattle.vt_cells.specs.Attrs.{default_attrs, Attrs}
use Rattle.vt_cells.specs.Op.{MoveTo, bytes_of, bytes_of_all, counted}
use Rattle.vt_cells.proofs.Attributes.{changed_attrs-new}
use Rattle.vt_rows.specs.Row.{RowValue}
use Rattle.vt_scan.specs.Automaton.{start}
use Rattle.vt_grid.specs.Page.{Page, IsPage, IsPlainPage, SameSize, row_or, rows_up, up_source}
use Rattle.vt_grid.specs.Shifts.{rows_down}
use Rattle.vt_grid.specs.Moves.{moved}
use Rattle.vt_grid.specs.declared.grid.moves.CursorMove.TheVariants.{To}
use Rattle.vt_grid.specs.declared.page_step.PageStep.TheVariants.{DeleteLines, InsertLines}
use Rattle.vt_grid.proofs.Pages.{length-moved_rows, page_at, page_of_rows}
use Rattle.vt_redraw.specs.Moved.{IsBand, IsScrolling, band_text, down_text, last_moved, picture_after_move}
use Rattle.vt_redraw.specs.Moved.{lines_deleted_text, lines_inserted_text, moving_text, rows_moved, scrolling_text}
use Rattle.vt_redraw.specs.Moved.{up_text}
use Rattle.vt_redraw.specs.Picture.{Picture, SamePictureSize, picture_of, with_picture}
use Rattle.vt_redraw.specs.Redraw.{difference_in}
use Rattle.vt_redraw.specs.Script.{attr_ops}
use Rattle.vt_redraw.specs.Steady.{IsSteady}
use Rattle.vt_redraw.specs.declared.band.Band.{Band}
use Rattle.vt_redraw.specs.declared.form.Form.{Form}
use Rattle.vt_redraw.proofs.Moving.{deleted_is, down_between, down_moved, inserted_is, page_at_row, up_between}
use Rattle.vt_redraw.proofs.Moving.{up_moved, All-rows_moved, length-rows_moved, moved_fits, row_or-rows_moved}
use Rattle.vt_redraw.proofs.Difference.{difference_draws_in}
use Rattle.vt_redraw.proofs.Redrawing.{page_picture}
use Rattle.vt_redraw.proofs.Writing.{change_written}
use Rattle.vt_screen.specs.Controls.{counted_step}
use Rattle.vt_screen.specs.Reading.{terminal_after, terminal}
use Rattle.vt_screen.specs.Screen.{ScreenValue, IsScreen, IsColored, canvas_of, with_canvas, with_page}
use Rattle.vt_screen.specs.Shown.{IsPlain, IsReader, IsReaderOf, KeepsRest, ReadsTo, Redraws, display}
use Rattle.vt_screen.specs.Steps.{OnPage, display_after}
use Rattle.vt_screen.proofs.ReadRedraws.{redraws, Becomes, drawing_read}
use Rattle.vt_screen.proofs.ReadOperations.{changed_read, counted_read, moved_to_read}
use Rattle.vt_screen.proofs.ReadTexts.{reads_then}
use Rattle.vt_screen.proofs.AgainForms.{difference_none_in, difference_redraws_in, difference_tells_in}
use Rattle.vt_screen.proofs.Shown.{plain_shown, shown_colored, shown_height, shown_is}

-- ---- deleting and inserting rows

pub deleted_read : (n : ℕ) (screen : ScreenValue) → suc n < 2 ^ 16 →
    ReadsTo (counted (suc n) 0x4D) screen (display_after (OnPage (DeleteLines (suc n))) screen)
unfolding counted_step
deleted_read n screen h = counted_read n 0x4D DeleteLines screen h (omega arith, omega arith) (λ groups. refl)

pub inserted_read : (n : ℕ) (screen : ScreenValue) → suc n < 2 ^ 16 →
    ReadsTo (counted (suc n) 0x4C) screen (display_after (OnPage (InsertLines (suc n))) screen)
unfolding counted_step
inserted_read n screen h = counted_read n 0x4C InsertLines screen h (omega arith, omega arith) (λ groups. refl)

-- The screen with its rows replaced, and the cursor at the beginning of a row.
abbrev at_row : List RowValue → ℕ → ScreenValue → ScreenValue
at_row rows row screen = with_page (page_at_row rows row screen.page) screen

lines_deleted_read : (r n : ℕ) (screen : ScreenValue) → IsPlainPage screen.page → r < length screen.page.rows
    → r < 65535 → 0 < n → n < 2 ^ 16
    → ReadsTo (lines_deleted_text r n) screen
    (at_row (rows_up screen.page.width r (length screen.page.rows - 1) n screen.page.rows) r screen)
lines_deleted_read r zero screen plain inside low some short = absurd (omega arith)
lines_deleted_read r (suc n) screen plain inside low some short =
    let middle = with_page (moved (To r 0) screen.page) screen in
    reads_then (terminal start screen) (terminal start middle)
    (terminal start (display_after (OnPage (DeleteLines (suc n))) middle))
    (bytes_of (MoveTo r 0)) (counted (suc n) 0x4D)
    (moved_to_read r 0 screen low (omega arith)) (deleted_read n middle short)
    ∙ ap (λ (page : Page). Some (terminal start (with_page page screen)))
    (deleted_is r (suc n) screen.page plain inside)

lines_inserted_read : (r n : ℕ) (screen : ScreenValue) → IsPlainPage screen.page → r < length screen.page.rows
    → r < 65535 → 0 < n → n < 2 ^ 16
    → ReadsTo (lines_inserted_text r n) screen
    (at_row (rows_down screen.page.width r (length screen.page.rows - 1) n screen.page.rows) r screen)
lines_inserted_read r zero screen plain inside low some short = absurd (omega arith)
lines_inserted_read r (suc n) screen plain inside low some short =
    let middle = with_page (moved (To r 0) screen.page) screen in
    reads_then (terminal start screen) (terminal start middle)
    (terminal start (display_after (OnPage (InsertLines (suc n))) middle))
    (bytes_of (MoveTo r 0)) (counted (suc n) 0x4C)
    (moved_to_read r 0 screen low (omega arith)) (inserted_read n middle short)
    ∙ ap (λ (page : Page). Some (terminal start (with_page page screen)))
    (inserted_is r (suc n) screen.page plain inside)

-- ---- a band

plain_rows : (rows : List RowValue) (r : ℕ) (page : Page) → length rows ≡ length page.rows →
    IsPlainPage page → IsPlainPage (page_at_row rows r page)
plain_rows rows r page size plain =
    record { whole = (plain.whole.0, plain.whole.1 ∙ sym size); origin = plain.origin }

-- Deleting rows at one row and inserting as many at another row is read as these two moves of rows.
both_read : (gone in_at n : ℕ) (screen : ScreenValue) → IsPlainPage screen.page
    → gone < length screen.page.rows → in_at < length screen.page.rows → length screen.page.rows < 2 ^ 16
    → 0 < n → n < 2 ^ 16
    → ReadsTo (lines_deleted_text gone n ++ lines_inserted_text in_at n) screen
    (at_row (rows_down screen.page.width in_at (length screen.page.rows - 1) n
    (rows_up screen.page.width gone (length screen.page.rows - 1) n screen.page.rows)) in_at screen)
both_read gone in_at n screen plain first second tall some short =
    let page = screen.page in
    let up = rows_up page.width gone (length page.rows - 1) n page.rows in
    let size : length up ≡ length page.rows =
    length-moved_rows page.width (up_source (length page.rows) gone (length page.rows - 1) n) page.rows in
    let middle = at_row up gone screen in
    reads_then (terminal start screen) (terminal start middle)
    (terminal start (at_row (rows_down page.width in_at (length up - 1) n up) in_at middle))
    (lines_deleted_text gone n) (lines_inserted_text in_at n)
    (lines_deleted_read gone n screen plain first (omega arith) some short)
    (lines_inserted_read in_at n middle (plain_rows up gone page size plain)
    (omega (arith, size)) (omega arith) some short)
    ∙ ap (λ (k : ℕ). Some (terminal start (at_row (rows_down page.width in_at (k - 1) n up) in_at screen))) size

-- The output that moves a band, in the four cases of its direction and of its end.
text_when : (up at_end : Bool) (height : ℕ) (band : Band) → band.up ≡ up → (band.bottom == height) ≡ at_end
    → band_text height band
    ≡ (if up
    then (if at_end then lines_deleted_text band.top band.count
    else lines_deleted_text band.top band.count ++ lines_inserted_text (band.bottom - band.count) band.count)
    else (if at_end then lines_inserted_text band.top band.count
    else lines_deleted_text (band.bottom - band.count) band.count ++ lines_inserted_text band.top band.count))
unfolding up_text down_text
text_when up at_end height band u e = rw (u, e) refl

last_when : (up at_end : Bool) (height : ℕ) (band : Band) → band.up ≡ up → (band.bottom == height) ≡ at_end →
    last_moved height band ≡ (if at_end then band.top else if up then band.bottom - band.count else band.top)
last_when up at_end height band u e = rw (u, e) refl

-- Reading output that equals known output has the known effect.
told : (text known : List ℕ) (rows moved_to : List RowValue) (row last : ℕ) (screen : ScreenValue) →
    text ≡ known → last ≡ row → ReadsTo known screen (at_row rows row screen) → rows ≡ moved_to →
    ReadsTo text screen (at_row moved_to last screen)
told text known rows moved_to row last screen e f reads g =
    ap (terminal_after (terminal start screen)) e
    ∙ (reads
    ∙ (ap (λ (new : List RowValue). Some (terminal start (at_row new row screen))) g
    ∙ ap (λ (r : ℕ). Some (terminal start (at_row moved_to r screen))) (sym f)))

band_when : (up at_end : Bool) (band : Band) (screen : ScreenValue) → band.up ≡ up
    → (band.bottom == length screen.page.rows) ≡ at_end
    → IsPlainPage screen.page → length screen.page.rows < 2 ^ 16 → IsBand (length screen.page.rows) band
    → ReadsTo (band_text (length screen.page.rows) band) screen
    (at_row (rows_moved screen.page.width band screen.page.rows) (last_moved (length screen.page.rows) band) screen)
band_when true true band screen u e plain tall is =
    let a = is.nonempty in
    let b = is.rows in
    let c = is.inside in
    let page = screen.page in
    let height = length page.rows in
    let end : band.bottom ≡ height = grind (arith, nat_tests) in
    told (band_text height band) (lines_deleted_text band.top band.count)
    (rows_up page.width band.top (height - 1) band.count page.rows)
    (rows_moved page.width band page.rows) band.top (last_moved height band) screen
    (text_when true true height band u e) (last_when true true height band u e)
    (lines_deleted_read band.top band.count screen plain (omega arith) (omega arith) a (omega arith))
    (up_moved page.width page.rows band is u end)
band_when true false band screen u e plain tall is =
    let a = is.nonempty in
    let b = is.rows in
    let c = is.inside in
    let page = screen.page in
    let height = length page.rows in
    told (band_text height band) (lines_deleted_text band.top band.count ++ lines_inserted_text (band.bottom - band.count) band.count)
    (rows_down page.width (band.bottom - band.count) (height - 1) band.count
    (rows_up page.width band.top (height - 1) band.count page.rows))
    (rows_moved page.width band page.rows) (band.bottom - band.count) (last_moved height band) screen
    (text_when true false height band u e) (last_when true false height band u e)
    (both_read band.top (band.bottom - band.count) band.count screen plain
    (omega arith) (omega arith) tall a (omega arith))
    (up_between page.width page.rows band is u)
band_when false true band screen u e plain tall is =
    let a = is.nonempty in
    let b = is.rows in
    let c = is.inside in
    let page = screen.page in
    let height = length page.rows in
    let end : band.bottom ≡ height = grind (arith, nat_tests) in
    told (band_text height band) (lines_inserted_text band.top band.count)
    (rows_down page.width band.top (height - 1) band.count page.rows)
    (rows_moved page.width band page.rows) band.top (last_moved height band) screen
    (text_when false true height band u e) (last_when false true height band u e)
    (lines_inserted_read band.top band.count screen plain (omega arith) (omega arith) a (omega arith))
    (down_moved page.width page.rows band is u end)
band_when false false band screen u e plain tall is =
    let a = is.nonempty in
    let b = is.rows in
    let c = is.inside in
    let page = screen.page in
    let height = length page.rows in
    told (band_text height band) (lines_deleted_text (band.bottom - band.count) band.count ++ lines_inserted_text band.top band.count)
    (rows_down page.width band.top (height - 1) band.count
    (rows_up page.width (band.bottom - band.count) (height - 1) band.count page.rows))
    (rows_moved page.width band page.rows) band.top (last_moved height band) screen
    (text_when false false height band u e) (last_when false false height band u e)
    (both_read (band.bottom - band.count) band.top band.count screen plain
    (omega arith) (omega arith) tall a (omega arith))
    (down_between page.width page.rows band is u)

-- ---- the terminal after the move

-- The terminal after it was changed to display a picture; its other parts are unchanged.
abbrev pub with_shown : Picture → ScreenValue → ScreenValue
with_shown picture reader = with_canvas (with_picture picture (canvas_of reader)) reader

pub change_read : (reader : ScreenValue) →
    ReadsTo (bytes_of_all (attr_ops reader.attrs default_attrs)) reader (record reader { attrs = default_attrs })
change_read reader =
    ap (terminal_after (terminal start reader)) (sym (change_written reader.attrs default_attrs))
    ∙ (changed_read reader.attrs default_attrs reader (tt, tt)
    ∙ ap (λ (attrs : Attrs). Some (terminal start (record reader { attrs = attrs })))
    (changed_attrs-new reader.attrs default_attrs))

pub moving_read : (band : Band) (reader : ScreenValue) → IsScreen reader → IsPlain reader
    → IsBand (length reader.page.rows) band
    → ReadsTo (moving_text band (picture_of (canvas_of reader))) reader
    (with_shown (picture_after_move band (picture_of (canvas_of reader))) reader)
moving_read band reader is plain inside =
    let middle : ScreenValue = record reader { attrs = default_attrs } in
    reads_then (terminal start reader) (terminal start middle)
    (terminal start (with_shown (picture_after_move band (picture_of (canvas_of reader))) reader))
    (bytes_of_all (attr_ops reader.attrs default_attrs)) (band_text (length reader.page.rows) band) (change_read reader)
    (band_when band.up (band.bottom == length reader.page.rows) band middle refl refl plain.page is.page.height inside)

-- The row to which the last sequence moves the cursor is a row of the picture.
last_inside : (height : ℕ) (band : Band) → IsBand height band → last_moved height band < height
last_inside height band is =
    let a = is.nonempty in
    let b = is.rows in
    let c = is.inside in
    grind (arith, nat_tests)

moved_page : (band : Band) (page : Page) → IsPage page → IsBand (length page.rows) band →
    IsPage (page_at_row (rows_moved page.width band page.rows) (last_moved (length page.rows) band) page)
moved_page band page is inside =
    let rows = rows_moved page.width band page.rows in
    let size = length-rows_moved page.width band page.rows in
    let row = is.cursor_row in
    let t : (length page.rows - 1 + 1 == length page.rows) ≡ true = grind (arith, nat_tests) in
    let bare : (row_or page.width rows (length page.rows - 1)).wrapped ≡ false =
    ap (λ (x : RowValue). x.wrapped)
    (row_or-rows_moved page.width band page.rows (length page.rows - 1) (omega arith))
    ∙ rw t refl in
    page_at (last_moved (length page.rows) band) 0 (record page { rows = rows })
    (subst (λ (n : ℕ). last_moved (length page.rows) band < n) (sym size) (last_inside (length page.rows) band inside))
    (omega arith)
    (page_of_rows rows page size (All-rows_moved page.width band page.rows is.rows) bare is)

other_moved : (other : Option Page) (rows : List RowValue) (r : ℕ) (page : Page) → length rows ≡ length page.rows →
    IfSome other (λ p. IsPage p × SameSize p page) → IfSome other (λ p. IsPage p × SameSize p (page_at_row rows r page))
other_moved None rows r page size is = is
other_moved (Some p) rows r page size is =
    (is.0, record { width = is.1.width; height = is.1.height ∙ sym size })

moved_screen : (band : Band) (reader : ScreenValue) → IsScreen reader → IsBand (length reader.page.rows) band →
    IsScreen (with_shown (picture_after_move band (picture_of (canvas_of reader))) reader)
moved_screen band reader is inside = record {
  page = moved_page band reader.page is.page inside;
  other =
      other_moved reader.other (rows_moved reader.page.width band reader.page.rows)
      (last_moved (length reader.page.rows) band) reader.page
      (length-rows_moved reader.page.width band reader.page.rows) is.other;
  entered = is.entered;
  scrollback = is.scrollback;
  last = is.last;
}

-- The terminal after the move can display the picture.
pub record IsReadyAfterMove (picture : Picture) (reader : ScreenValue) (band : Band) : Type 0 where
  pub sound : IsScreen (with_shown (picture_after_move band (picture_of (canvas_of reader))) reader)
  pub size : SamePictureSize picture (picture_after_move band (picture_of (canvas_of reader)))
  pub plain : IsPlainPage
      (page_at_row (rows_moved reader.page.width band reader.page.rows) (last_moved (length reader.page.rows) band)
      reader.page)

pub ready_after_move : (picture : Picture) (reader : ScreenValue) (band : Band) → IsReader picture reader →
    IsBand (length reader.page.rows) band → IsReadyAfterMove picture reader band
ready_after_move picture reader band r inside =
    let size = length-rows_moved reader.page.width band reader.page.rows in
    record {
      sound = moved_screen band reader r.sound inside;
      size = record { width = r.size.width; height = r.size.height ∙ (shown_height reader ∙ sym size) };
      plain = plain_rows (rows_moved reader.page.width band reader.page.rows)
          (last_moved (length reader.page.rows) band) reader.page size r.plain.page;
    }

-- ---- the whole output

moved_becomes : (form : Form) (self reader : ScreenValue) (band : Band) → IsScreen self → IsColored self
    → IsSteady (display self) → IsReader (display self) reader → IsBand (length reader.page.rows) band
    → Becomes (display self) (scrolling_text form band (display self) (picture_of (canvas_of reader))) reader
moved_becomes form self reader band is colored steady r inside =
    let picture = display self in
    let before = picture_of (canvas_of reader) in
    let between = picture_after_move band before in
    let next = with_shown between reader in
    let ready = ready_after_move picture reader band r inside in
    let b : Becomes picture (bytes_of_all (difference_in form picture between)) next =
    drawing_read (difference_in form picture between) picture next
    (moved_fits form picture before band (shown_is self is) (shown_colored self is colored)
    (page_picture (canvas_of reader) r.sound.page) r.sound.page.columns)
    (difference_draws_in form picture between (canvas_of next) (shown_is self is) steady
    (page_picture (canvas_of next) ready.sound.page) ready.size ready.plain refl) in
    record {
      saved = b.saved;
      last = b.last;
      reads =
          reads_then (terminal start reader) (terminal start next) _ (moving_text band before)
          (bytes_of_all (difference_in form picture between))
          (moving_read band reader r.sound r.plain inside) b.reads;
    }

scrolling_read : (form : Form) (self prev reader : ScreenValue) (band : Band) → IsScreen self → IsColored self
    → IsSteady (display self) → IsReaderOf (display self) (display prev) reader → IsBand (length (display prev).rows) band
    → Becomes (display self) (scrolling_text form band (display self) (display prev)) reader
scrolling_read form self prev reader band is colored steady r inside =
    let page = plain_shown reader r.is.sound r.is.plain in
    let e : picture_of (canvas_of reader) ≡ display prev = sym page ∙ r.shows in
    subst (λ (p : Picture). Becomes (display self) (scrolling_text form band (display self) p) reader) e
    (moved_becomes form self reader band is colored steady r.is
    (subst (λ (p : Picture). IsBand (length p.rows) band) (sym e) inside))

-- The preconditions on the two screens of a diff.
pub record AreDiffed (self prev : ScreenValue) : Type 0 where
  pub sound : IsScreen self
  pub colored : IsColored self
  pub other : IsScreen prev
  pub other_colored : IsColored prev
  pub size : SamePictureSize (display self) (display prev)

pub scrolling_redraws : (form : Form) (self prev : ScreenValue) (text : List ℕ) → AreDiffed self prev →
    IsScrolling form (display self) (display prev) text →
    Redraws (display self) (IsReaderOf (display self) (display prev)) KeepsRest text
scrolling_redraws form self prev text d (inl told) =
    difference_redraws_in form self prev text told d.sound d.colored d.other d.other_colored d.size
scrolling_redraws form self prev text d (inr (band, inside, told)) =
    redraws (IsReaderOf (display self) (display prev)) (display self) text (shown_is self d.sound) (λ reader r. r.is)
    (λ steady reader r. subst (λ (t : List ℕ). Becomes (display self) t reader) (sym told)
    (scrolling_read form self prev reader band d.sound d.colored steady r inside))

-- ---- empty output

pub empty_left : (xs ys : List ℕ) → xs ++ ys ≡ [] → xs ≡ []
empty_left [] ys e = refl
empty_left (x ∷ xs) ys e = absurd cc

pub empty_right : (xs ys : List ℕ) → xs ++ ys ≡ [] → ys ≡ []
empty_right [] ys e = e
empty_right (x ∷ xs) ys e = absurd cc

some_band : (up at_end : Bool) (height : ℕ) (band : Band) → band.up ≡ up → (band.bottom == height) ≡ at_end →
    band_text height band ≡ [] → ⊥
unfolding up_text down_text
some_band true true height band u e = rw (u, e) (λ empty. cc)
some_band true false height band u e = rw (u, e) (λ empty. cc)
some_band false true height band u e = rw (u, e) (λ empty. cc)
some_band false false height band u e = rw (u, e) (λ empty. cc)

-- If a scrolling diff is empty, both screens display the same content.
pub scrolling_tells : (form : Form) (self prev : ScreenValue) (text : List ℕ) → AreDiffed self prev →
    IsSteady (display self) → IsScrolling form (display self) (display prev) text → text ≡ [] →
    display self ≡ display prev
scrolling_tells form self prev text d steady (inl told) empty =
    difference_tells_in form self prev d.sound d.colored steady d.other d.other_colored d.size (sym told ∙ empty)
scrolling_tells form self prev text d steady (inr (band, inside, told)) empty =
    let height = length (display prev).rows in
    let before = bytes_of_all (attr_ops (display prev).attrs default_attrs) in
    let rest = bytes_of_all (difference_in form (display self) (picture_after_move band (display prev))) in
    absurd (some_band band.up (band.bottom == height) height band refl refl
    (empty_right before (band_text height band) (empty_left (before ++ band_text height band) rest (sym told ∙ empty))))

no_length : (xs : List ℕ) → length xs ≤ 0 → xs ≡ []
no_length [] h = refl
no_length (x ∷ xs) h = absurd (omega arith)

-- A scrolling diff between equal pictures is empty, because it is never longer than the ordinary diff in its form.
pub shorter_none : (form : Form) (a b : Picture) (text : List ℕ) →
    length text ≤ length (bytes_of_all (difference_in form a b)) → a ≡ b → text ≡ []
shorter_none form a b text shorter e =
    no_length text (subst (λ (bytes : List ℕ). length text ≤ length bytes) (difference_none_in form a b e) shorter)
