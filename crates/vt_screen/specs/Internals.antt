-- How the fields of a screen represent its value, and auxiliary definitions; only for the model, the contracts of
-- private functions and proofs.
use Rattle.std.proofs.Common.{IsUtf8}
use Rattle.std.specs.Prelude.{◌≡◌, ℕ, ◌<◌, ◌≤◌, Bool, true, false, List, [], ◌++◌, Option, Some, None, IfSome, IsSome}
use Rattle.std.specs.Prelude.{OnErr, OnOk, Result, length, option_map, not, if◌then◌else◌, ◌≢◌, ◌⊎◌, ◌==◌, suc, ◌+◌}
use Rattle.std.specs.Prelude.{◌-◌, ◌∷◌, drop, take, IsTrue}
use Rattle.std.specs.Char.{encode_utf8}
use Rattle.vt_cells.specs.Op.{Hide, bytes_of}
use Rattle.vt_cells.specs.Glyph.{columns_of}
use Rattle.vt_rows.specs.Basic.{Written}
use Rattle.vt_rows.specs.Row.{RowValue}
use Rattle.vt_scan.specs.Automaton.{Event, Character, CsiDispatch, start, run}
use Rattle.vt_scan.specs.Texts.{IsParameterText}
use Rattle.vt_grid.specs.Page.{Page, IsPage, SameSize}
use Rattle.vt_grid.specs.Scrollback.{Scrollback, IsScrollback, no_scrollback}
use Rattle.vt_grid.specs.Resize.{page_resized, scrollback_resized}
use Rattle.vt_redraw.specs.Doubts.{Doubts}
use Rattle.vt_redraw.specs.declared.form.Form.{Form}
use Rattle.vt_redraw.specs.declared.form.Form.TheVariants.{Fixed, Portable}
use Rattle.vt_screen.specs.Calls.{CallValue}
use Rattle.vt_screen.specs.Capture.{StopsAfter, basic_texts, written_after_all}
use Rattle.vt_screen.specs.Pages.{fresh_page, page_aside, reports_of}
use Rattle.vt_screen.specs.Screen.{ScreenValue, IsPrintable, IsScreen}
use Rattle.vt_screen.specs.Run.{CallRelation, CalledOnScroll}
use Rattle.vt_screen.specs.declared.reporter.Reporter.{Reporter}
use Rattle.vt_screen.specs.CallsOfRun.{screen_in}
use Rattle.vt_screen.specs.Diffs.{diff_controls, diff_finals, IsDiff}
use Rattle.vt_screen.specs.MadeOf.{IsMadeOf}
use Rattle.vt_screen.specs.Portable.{ReadsAgreed, IsPortableFrom}
use Rattle.vt_screen.specs.Repeating.{HasNoRepeat, HasRuns, IsNarrow, IsReaderWithRoom, IsRepeatable, ReadsAlike}
use Rattle.vt_screen.specs.Repeating.{Repeats, RepeatsInRows, copies, repeat_text}
use Rattle.vt_screen.specs.declared.repeat.Repeat.{Repeat}
use Rattle.vt_screen.specs.declared.repeats.Skipped.{Skipped}
use Rattle.vt_screen.specs.Again.{KeepsPlain}
use Rattle.vt_screen.specs.Shown.{IsSameIfEmpty, RedrawsFrom, display, display_change_in, shown_text_in}
use Rattle.vt_screen.specs.Touched.{TouchesNear}
pub use Rattle.vt_screen.specs.Screen.{IsColoredCell, IsColoredRow, AreColored}

-- ==== How the fields of a screen represent its value, and the effects of private functions; only for the model and the
-- contracts of private functions.

-- The parts of a screen besides its active page: the inactive page, whether the active page is the alternate one, the
-- active page's scrollback, and the inactive page's scrollback.
pub record Aside : Type 0 where
  pub other : Option Page
  pub is_alternate : Bool
  pub active : Scrollback
  pub idle : Scrollback

-- The scrollback of the main page, given whether the alternate page is active, the active page's scrollback, and the
-- inactive page's scrollback.
abbrev pub main_scrollback : Bool → Scrollback → Scrollback → Scrollback
main_scrollback is_alternate active idle = if is_alternate then idle else active

-- The scrollback of the alternate page, given whether the alternate page is active, the active page's scrollback, and
-- the inactive page's scrollback.
abbrev pub alternate_scrollback : Bool → Scrollback → Scrollback → Scrollback
alternate_scrollback is_alternate active idle = if is_alternate then active else idle

-- The scrollback is empty and has capacity 0, so it never keeps a row.
pub record IsNothing (above : Scrollback) : Type 0 where
  pub capacity : above.capacity ≡ 0
  pub rows : above.rows ≡ []
  pub offset : above.offset ≡ 0

-- The scrollback and the colors of its cells are valid, so its rows may return to a page.
pub record IsAbove (above : Scrollback) : Type 0 where
  pub sound : IsScrollback above
  pub colored : AreColored above.rows

pub record IsOther (page other : Page) : Type 0 where
  pub sound : IsPage other
  pub colored : AreColored other.rows
  pub same : SameSize other page

pub record IsKept (page : Page) (last : Option ℕ) (aside : Aside) : Type 0 where
  pub sound : IsPage page
  pub colored : AreColored page.rows
  pub printable : IfSome last IsPrintable
  pub other : IfSome aside.other (IsOther page)
  pub entered : aside.is_alternate ≡ true → IsSome aside.other
  pub nothing : IsNothing (alternate_scrollback aside.is_alternate aside.active aside.idle)
  pub above : IsAbove (main_scrollback aside.is_alternate aside.active aside.idle)

-- ---- sizes

-- The rows of the cursor and of the saved cursor, and the bottom of the scroll region, are on the page.
pub record IsInside (page : Page) : Type 0 where
  pub row : page.row < length page.rows
  pub saved_row : page.saved_row < length page.rows
  pub bottom : page.bottom < length page.rows

-- The page has the given size; the rows of its cursor and of its saved cursor, and the bottom of its scroll region, are
-- on the page.
pub record IsSizedPage (height width : ℕ) (page : Page) : Type 0 where
  pub inside : IsInside page
  pub width_is : page.width ≡ width
  pub height_is : length page.rows ≡ height

-- Both pages of the screen have the given size.
pub record IsSized (height width : ℕ) (screen : ScreenValue) : Type 0 where
  pub page : IsSizedPage height width screen.page
  pub other : IfSome screen.other (IsSizedPage height width)

-- ---- parts of page switches and resets

-- The screen after its inactive page is created, if there was none.
abbrev pub with_other : ScreenValue → ScreenValue
with_other screen = record screen { other = Some (page_aside screen) }

-- The screen after the given inactive page, if any, is exchanged with the active page.
abbrev pub exchanged_with : Option Page → ScreenValue → ScreenValue
exchanged_with (Some page) screen =
    record screen { page = page; other = Some screen.page; is_alternate = not screen.is_alternate }
exchanged_with None screen = screen

abbrev pub screen_after_exchange : ScreenValue → ScreenValue
screen_after_exchange screen = exchanged_with screen.other screen

-- The screen after its active page is replaced with a blank page.
abbrev pub with_fresh_page : ScreenValue → ScreenValue
with_fresh_page screen = record screen { page = fresh_page screen }

-- The screen after its inactive page, if any, is replaced with a blank page.
abbrev pub with_fresh_other : ScreenValue → ScreenValue
with_fresh_other screen = record screen { other = option_map (λ _. fresh_page screen) screen.other }

-- The screen after both of its pages are resized while the main page is active.
abbrev pub pages_resized : (rows cols : ℕ) → ScreenValue → ScreenValue
pages_resized rows cols screen = record screen {
  page = page_resized rows cols screen.scrollback screen.page;
  other = option_map (page_resized rows cols (no_scrollback 0)) screen.other;
  scrollback = scrollback_resized rows screen.page screen.scrollback;
}

-- The calls to `on_scroll` that report the rows dropped when both pages are resized while the main page is active.
abbrev pub reports_of_pages : (rows : ℕ) → ScreenValue → List CallValue
reports_of_pages rows screen =
    reports_of false rows (Some screen.page) screen.scrollback ++ reports_of true rows screen.other (no_scrollback 0)

-- The size is valid for a page: at least one row and one column.
pub record IsPageSize (height width : ℕ) : Type 0 where
  pub rows : 0 < height
  pub cols : 0 < width

-- ---- parts of output

-- The columns `start..stop` are a valid range of the screen's columns.
pub record IsColumns (start stop : ℕ) (screen : ScreenValue) : Type 0 where
  pub order : start ≤ stop
  pub inside : stop ≤ screen.page.width

-- The effect of writing rows, continuing from the capture state `before`. On success, all rows are written, and `after`
-- is the capture state after them. On failure, the sink failed within one of the rows.
pub record WritesRows {A E : Type 0} (refuses : List ℕ → List ℕ → List ℕ → Type 0) (start : List ℕ) (before : Written)
    (rows : List RowValue) (result : Result A E) (bytes : List ℕ) (after : Written) : Type 0 where
  pub text : OnOk result (bytes ≡ start ++ basic_texts before rows)
  pub state : OnOk result (after ≡ written_after_all before rows)
  pub err : OnErr result (StopsAfter refuses start before rows bytes after)

-- ==== The effect of reporting a row to callbacks; only for contracts of private functions.

-- The row is reported to the callbacks, and the reporter still borrows the same callbacks.
abbrev pub Reports : {S : Type 0} → CallRelation S → Reporter S → RowValue → Reporter S → Type 0
Reports does old row new =
    (new.callbacks.ghost_name ≡ old.callbacks.ghost_name)
    × ((new.alternate ≡ old.alternate) × CalledOnScroll does old.alternate old.callbacks.now row new.callbacks.now)

-- ==== Lower bounds on the number of columns left in the cursor's row while a terminal reads output; only for contracts
-- of private functions and for proofs.

-- At least `room` columns lie between the cursor and the end of the row. If `room` is 0, nothing is known about the
-- cursor.
abbrev pub HasRoom : (width room : ℕ) → ScreenValue → Type 0
HasRoom width room screen = 0 < room → screen.page.column + room ≤ width

-- A terminal in ground state, with no incomplete character, is in that state again after it has read the output. If at
-- least `before` columns were left in the cursor's row, at least `after` columns are left afterward.
pub record KeepsRoom (width before after : ℕ) (text : List ℕ) : Type 0 where
  pub ground : (run start text).state ≡ start
  pub room : (height : ℕ) (screen : ScreenValue) → IsSized height width screen → HasRoom width before screen →
      HasRoom width after (screen_in start screen text)

-- The first `skipped.len` bytes, at least one, leave a terminal in ground state. If at least `room` columns were left
-- in the cursor's row before these bytes, at least `skipped.room` columns are left after them.
pub record Skips (width room : ℕ) (bytes : List ℕ) (skipped : Skipped) : Type 0 where
  pub progress : 0 < skipped.len
  pub inside : skipped.len ≤ length bytes
  pub keeps : KeepsRoom width room skipped.room (take skipped.len bytes)

-- The effect of the event does not depend on whether a character was printed just before: the event is neither a
-- character without columns of its own nor REP.
abbrev pub IsApartEvent : Event → Type 0
IsApartEvent (Character c) = columns_of c ≢ Some 0
IsApartEvent (CsiDispatch groups marks b) = (b == 0x62) ≡ false
IsApartEvent _ = Unit {0}

abbrev pub BeginApart : List Event → Type 0
BeginApart [] = Unit {0}
BeginApart (event ∷ events) = IsApartEvent event

-- The first element of the output, if any, is neither a character without columns of its own nor REP. Terminals differ in
-- the effect of either after REP.
abbrev pub IsApart : List ℕ → Type 0
IsApart text = BeginApart (run start text).events

-- The text begins with a run: one repeatable character followed by `count` more copies of it. `front` is that character,
-- and `back` follows the run. Of the `room` columns left in the cursor's row, `left` columns remain after the run.
pub record BeginsRun (repeat : Repeat) (room : ℕ) (text front : List ℕ) (count left : ℕ) (back : List ℕ) : Type 0 where
  pub character : ℕ
  pub narrow : IsNarrow character
  pub repeatable : IsRepeatable repeat character
  pub whole : text ≡ copies (suc count) character ++ back
  pub first : front ≡ encode_utf8 character
  pub room_is : suc count + left ≡ room
  pub shorter : length (repeat_text count) < length (copies count character)
  pub fits : count ≤ 65535
  pub utf8 : IsUtf8 back
  pub apart : IsApart back

-- The text consists of `before`, a run of a repeatable character, and `back`; `front` is `before` followed by the first
-- character of the run, and `count` more copies of this character follow. If at least `room` columns were left in the
-- cursor's row before the text, at least `left` columns remain after the run.
pub record Finds (repeat : Repeat) (width room : ℕ) (text front : List ℕ) (count left : ℕ) (back : List ℕ) : Type 0 where
  pub before : List ℕ
  pub character : ℕ
  pub narrow : IsNarrow character
  pub repeatable : IsRepeatable repeat character
  pub whole : text ≡ before ++ (copies (suc count) character ++ back)
  pub first : front ≡ before ++ encode_utf8 character
  pub keeps : KeepsRoom width room (suc count + left) before
  pub shorter : length (repeat_text count) < length (copies count character)
  pub fits : count ≤ 65535
  pub utf8 : IsUtf8 back
  pub apart : IsApart back

-- The index `last` is at least 2 and within the bytes, and all bytes from index 2 up to, but not including, `last` are
-- parameter bytes.
pub record IsFinalAt (bytes : List ℕ) (last : ℕ) : Type 0 where
  pub past : 2 ≤ last
  pub inside : last < length bytes
  pub parameters : IsParameterText (take (last - 2) (drop 2 bytes))

-- The bytes begin with the sequence that shows the cursor or with the one that hides it (DECTCEM).
pub record BeginsWithVisibility (bytes : List ℕ) : Type 0 where
  pub inside : 6 ≤ length bytes
  pub is : (take 6 bytes ≡ bytes_of (Hide false)) ⊎ (take 6 bytes ≡ bytes_of (Hide true))

-- If the output `plain` is made of the pieces of a diff without REP, then `text` is made of such pieces and of REP.
abbrev pub KeepsPieces : (plain text : List ℕ) → Type 0
KeepsPieces plain text = (scroll : Bool) → IsMadeOf (diff_finals scroll) (diff_controls scroll) plain →
    IsMadeOf (0x62 ∷ diff_finals scroll) (diff_controls scroll) text

-- If `plain` followed by `rest` is made of the pieces of a diff without REP, then `rest` is made of such pieces, too, and
-- `text` is made of such pieces and of REP.
abbrev pub KeepsPiecesBefore : (plain text : List ℕ) → Type 0
KeepsPiecesBefore plain text = (scroll : Bool) (rest : List ℕ) →
    IsMadeOf (diff_finals scroll) (diff_controls scroll) (plain ++ rest) →
    IsMadeOf (diff_finals scroll) (diff_controls scroll) rest
    × IsMadeOf (0x62 ∷ diff_finals scroll) (diff_controls scroll) text

-- The output `text` is `plain` with some runs of repeatable characters written with REP. If at least `room` columns were
-- left in the cursor's row before the output, at least `left` columns remain after it.
pub record Shortens (repeat : Repeat) (width room left : ℕ) (plain text : List ℕ) : Type 0 where
  pub runs : HasRuns repeat plain text
  pub keeps : KeepsRoom width room left plain
  pub same : (reader : ScreenValue) → IsScreen reader → ReadsAlike plain text reader
  pub rows : HasNoRepeat plain → (reader : ScreenValue) → IsReaderWithRoom width room reader → RepeatsInRows text reader
  pub pieces : KeepsPiecesBefore plain text

-- On terminals with `width` columns, at least `room` of which are left in the cursor's row, the output `text` is portable
-- if the output `plain` is, whatever terminals differ in before.
abbrev pub KeepsAgreed : (width room : ℕ) → (plain text : List ℕ) → Type 0
KeepsAgreed width room plain text =
    (reader : ScreenValue) (doubts : Doubts) → IsReaderWithRoom width room reader → ReadsAgreed plain doubts reader →
    ReadsAgreed text doubts reader

-- The text `new` is `start` followed by `plain` with some runs of repeatable characters written with REP, as `Repeats`
-- describes.
pub record AppendsRepeating (repeat : Repeat) (start new : List ℕ) (width room : ℕ) (plain : List ℕ) : Type 0 where
  pub added : List ℕ
  pub bytes : new ≡ start ++ added
  pub repeats : Repeats repeat width room plain added
  pub pieces : KeepsPieces plain added
  pub agrees : KeepsAgreed width room plain added

-- ==== Properties of a diff without REP; only for contracts of private functions and for proofs.

-- The properties of every diff without REP in the given form.
pub record HasDiffProperties (form : Form) (scroll : Bool) (was new : ScreenValue) (text : List ℕ) : Type 0 where
  pub controls : IsMadeOf (diff_finals scroll) (diff_controls scroll) text
  pub again : KeepsPlain text
  pub shorter : length text ≤ length (display_change_in form was new)
  pub redraws : RedrawsFrom was new text
  pub empty : IsSameIfEmpty was new text
  pub none : display new ≡ display was → text ≡ []
  pub portable : form ≡ Portable → IsPortableFrom was new text
  pub touches : form ≡ Fixed → scroll ≡ false → TouchesNear was new text

-- The output is a diff without REP in the given form, and has all the properties that the clauses of `contents_diff` or,
-- if `scroll` is true, of `contents_diff_scrolling` state.
pub record IsPlainDiff (form : Form) (scroll : Bool) (was new : ScreenValue) (text : List ℕ) : Type 0 where
  pub diff : IsDiff form scroll was new text
  pub redraw : IsTrue scroll → length text ≤ length (shown_text_in form new)
  pub has : HasDiffProperties form scroll was new text
