-- Bytes that are not parsed as U+FE0F put it into no cell.
use Rattle.std.proofs.Common.{◌≡◌, ◌≢◌, ℕ, Bool, true, false, List, [], ◌∷◌, ◌++◌, length, Option, Some, None}
use Rattle.std.proofs.Common.{append-nil, IsUtf8, refl, sym, ap, subst, ◌∙◌, lit<, arith, inl, inr}
use Rattle.std.specs.Prelude.{if◌then◌else◌, IfSome, chars, option_map, All, slice_index_or}
use Rattle.std.specs.Char.{IsScalar, encode_utf8}
use Rattle.std.specs.List.{list_any, AllByRecursion}
use Rattle.std.proofs.lemmas.Bool.{cond_both, cases_lt}
use Rattle.std.proofs.lemmas.Bool.Decides.{nat_tests}
use Rattle.std.proofs.lemmas.List.Elements.{All-nil, All-weaker}
use Rattle.std.proofs.lemmas.List.Folds.{list_any-append}
use Rattle.std.proofs.lemmas.Str.{chars-append, chars-encodes, chars-nil, encode_ascii, IsUtf8-append, IsUtf8-encode}
use Rattle.std.proofs.lemmas.List.{get_or_past}
use Rattle.vt_cells.specs.Attrs.{Attrs, default_attrs}
use Rattle.vt_cells.specs.Cell.{CellValue, blank, glyph, right_half, cell_with_mark, text_of, cell_made_wide, IsCell}
use Rattle.vt_cells.specs.Cell.{default_blank}
use Rattle.vt_cells.specs.Glyph.{columns_of, has_room, is_selector, marked_text}
use Rattle.vt_cells.proofs.Glyphs.{IsGlyphText-utf8}
use Rattle.vt_rows.specs.Row.{RowValue, blank_row}
use Rattle.vt_rows.specs.Cells.{at}
use Rattle.vt_scan.specs.Automaton.{Character, Event, State, run}
use Rattle.vt_scan.specs.Selectors.{ReadsNoSelector}
use Rattle.vt_scan.proofs.Characters.{AreCoded, coded_run}
use Rattle.vt_grid.specs.Page.{Page, IsPage, SameSize}
use Rattle.vt_grid.specs.Outgoing.{fed_out, printed_out, scrolled_out}
use Rattle.vt_grid.specs.Resize.{out_of_view, page_resized, scrollback_resized}
use Rattle.vt_grid.specs.Scrollback.{Scrollback, scrollback_after_clear, scrollback_after_push, no_scrollback}
use Rattle.vt_grid.specs.Scrollback.{with_view}
use Rattle.vt_screen.specs.Pages.{screen_after_enter, entered_fresh, fresh_page, left_alternate, page_aside}
use Rattle.vt_screen.specs.Pages.{screen_after_restore, screen_after_save, above_aside, has_size, main_page}
use Rattle.vt_screen.specs.Pages.{screen_after_resize}
use Rattle.vt_screen.specs.Screen.{ScreenValue, with_page, IsPrintable, IsScreen, above_page, fresh_screen}
use Rattle.vt_screen.specs.Screen.{scrolled_back, visible_row}
use Rattle.vt_screen.specs.Steps.{Step, Print, LineFeed, ScrollUp, OnPage, SaveCursor, RestoreCursor, EnterAlternate}
use Rattle.vt_screen.specs.Steps.{EnterFresh, LeaveAlternate, LeaveRestoring, Reset, EraseScrollback, Render}
use Rattle.vt_screen.specs.Steps.{HideCursor, SetMode, CallBack, becomes_last, screen_after, display_after}
use Rattle.vt_screen.specs.CallsOfRun.{screen_after_all, screen_in, steps_in, steps_of_all}
use Rattle.vt_screen.specs.Controls.{seen_of, steps_of}
use Rattle.vt_screen.specs.Selectors.{CellHasNoSelector, HasNoSelectors, RowsHaveNoSelector}
use Rattle.vt_screen.specs.Shown.{ShowsNoSelector}
use Rattle.vt_screen.proofs.StepCells.{EachCell, EachRow, IsStable, stable_blank, stable_line_feed, stable_printed}
use Rattle.vt_screen.proofs.StepCells.{stable_scrolled_up}
use Rattle.vt_screen.proofs.SizeCursors.{stable_page_after}
use Rattle.vt_screen.proofs.StepScrollback.{stable_fed_out, stable_printed_out, stable_pushed, stable_scrolled_out}
use Rattle.vt_screen.proofs.StepScrollback.{stable_page_resized, stable_scrollback_resized, stable_viewed}
use Rattle.vt_screen.proofs.Streaming.{IsAmong}
use Rattle.vt_screen.proofs.StepEvents.{AllAmong, Allows, all_then, none, stream_event}
use Rattle.vt_screen.proofs.Shown.{above_by, length_visible, rows_visible}

-- ==== If no character that is read is U+FE0F, no step puts it into a cell.

-- ---- characters and cells

abbrev pub IsFreeCharacter : ℕ → Type 0
IsFreeCharacter c = IsScalar c × (c ≢ 0xFE0F)

abbrev pub IsFreeText : List ℕ → Type 0
IsFreeText text = IsUtf8 text × (list_any is_selector (chars text) ≡ false)

abbrev pub IsFreeCell : CellValue → Type 0
IsFreeCell (glyph text wide attrs) = IsFreeText text
IsFreeCell (blank attrs) = Unit {0}
IsFreeCell right_half = Unit {0}

abbrev pub AreFree : List RowValue → Type 0
AreFree rows = EachRow IsFreeCell rows

abbrev AnyAttrs : Attrs → Type 0
AnyAttrs attrs = Unit {0}

one_character : (c : ℕ) → IsScalar c → chars (encode_utf8 c) ≡ c ∷ []
one_character c scalar = ap chars (sym (append-nil (encode_utf8 c))) ∙ chars-encodes (c ∷ []) (rw scalar refl)

not_selector : (c : ℕ) → c ≢ 0xFE0F → list_any is_selector (c ∷ []) ≡ false
not_selector c other = grind (arith, nat_tests)

free_encoded : (c : ℕ) → IsFreeCharacter c → IsFreeText (encode_utf8 c)
free_encoded c q = (IsUtf8-encode c q.0, ap (list_any is_selector) (one_character c q.0) ∙ not_selector c q.1)

free_joined : (a b : List ℕ) → IsFreeText a → IsFreeText b → IsFreeText (a ++ b)
free_joined a b p q = (
  IsUtf8-append a b p.0 q.0,
  ap (list_any is_selector) (chars-append a b p.0) ∙
      (list_any-append is_selector (chars a) (chars b) ∙ rw (p.1, q.1) refl),
)

free_space : IsFreeText (0x20 ∷ [])
free_space =
    subst IsFreeText (encode_ascii 0x20 (lit< tt)) (free_encoded 0x20 (refl, λ e. cc))

free_nothing : IsFreeText []
free_nothing = (([], (refl, refl)), ap (list_any is_selector) chars-nil)

free_marked_text : (text : List ℕ) (mark : ℕ) → IsFreeText text → IsFreeCharacter mark
    → IsFreeText (marked_text text mark)
free_marked_text text mark p q =
    cond_both (has_room text) (text ++ encode_utf8 mark) text IsFreeText
    (λ _. free_joined text (encode_utf8 mark) p (free_encoded mark q)) (λ _. p)

free_marked : (mark : ℕ) (cell : CellValue) → IsFreeCharacter mark → IsFreeCell cell → IsFreeCell (cell_with_mark mark cell)
free_marked mark (blank attrs) q p = free_marked_text (0x20 ∷ []) mark free_space q
free_marked mark (glyph text wide attrs) q p = free_marked_text text mark p q
free_marked mark right_half q p = tt

free_widened : (wide : Bool) (cell : CellValue) → IsFreeCell cell → IsFreeCell (cell_made_wide wide cell)
free_widened wide (blank attrs) p = tt
free_widened wide (glyph text was attrs) p = p
free_widened wide right_half p = tt

free_text_of : (cell : CellValue) → IsFreeCell cell → IsFreeText (text_of cell)
free_text_of (blank attrs) p = free_nothing
free_text_of (glyph text wide attrs) p = p
free_text_of right_half p = free_nothing

pub selecting : IsStable IsFreeCell AnyAttrs IsFreeCharacter
selecting = record {
  plain = tt;
  empty = λ attrs f. tt;
  half = tt;
  torn = λ cell p. tt;
  space = λ attrs f. free_space;
  wider = free_widened;
  marks = free_marked;
  prints = λ c wide attrs q f. free_encoded c q;
  again = λ cell attrs p f. free_text_of cell p;
}

-- ---- screens

pub record IsFreeScreen (page : Page) (aside : Option Page) (back : List RowValue) (newest : Option ℕ) : Type 0 where
  pub rows : AreFree page.rows
  pub other : IfSome aside (λ beside. AreFree beside.rows)
  pub above : AreFree back
  pub last : IfSome newest IsFreeCharacter

abbrev pub StaysFree : ScreenValue → Type 0
StaysFree s = IsFreeScreen s.page s.other s.scrollback.rows s.last

-- If the page that replaces the active page contains no U+FE0F, the screen still contains none.
on_page : (page : Page) (s : ScreenValue) → AreFree page.rows → StaysFree s → StaysFree (with_page page s)
on_page page s rows k = record { rows = rows; other = k.other; above = k.above; last = k.last }

-- If the rows that scroll off the active page contain no U+FE0F, the screen still contains none.
sends : (b : Bool) (s after : ScreenValue) (gone : List RowValue) → AreFree gone
    → IsFreeScreen after.page after.other s.scrollback.rows after.last
    → after.scrollback ≡ s.scrollback
    → StaysFree (if b then after else record after {
      scrollback = scrollback_after_push
          (length s.page.rows) s.page.width gone s.scrollback;
    })
sends true s after gone all k same =
    subst (λ (z : Scrollback). IsFreeScreen after.page after.other z.rows after.last) (sym same) k
sends false s after gone all k same = record {
  rows = k.rows;
  other = k.other;
  above = stable_pushed selecting (length s.page.rows) s.page.width gone s.scrollback all k.above;
  last = k.last;
}

gives_up : (b : Bool) (s : ScreenValue) → StaysFree s
    → StaysFree (if b then s else record s { scrollback = scrollback_after_clear s.scrollback })
gives_up true s k = k
gives_up false s k = record { rows = k.rows; other = k.other; above = All-nil (EachCell IsFreeCell); last = k.last }

printed_last : (b : Bool) (c : ℕ) (last : Option ℕ) → IsFreeCharacter c → IfSome last IsFreeCharacter
    → IfSome (if b then Some c else last) IsFreeCharacter
printed_last true c last i k = i
printed_last false c last i k = k

-- ---- exchanging the pages

free_fresh : (s : ScreenValue) → AreFree (fresh_page s).rows
free_fresh s = stable_blank selecting (length s.page.rows) s.page.width

pub free_aside : (s : ScreenValue) → StaysFree s → AreFree (page_aside s).rows
free_aside s k = by s.other k.other where
  by : (o : Option Page) → IfSome o (λ other. AreFree other.rows) → AreFree (page_aside (record s { other = o })).rows
  by (Some page) all = all
  by None all = free_fresh s

free_entered : (s : ScreenValue) → StaysFree s → StaysFree (screen_after_enter s)
free_entered s k = by s.is_alternate where
  by : (b : Bool)
      → StaysFree
      (if b then s
      else record s
      { page = page_aside s; other = Some s.page; is_alternate = true; scrollback = out_of_view s.scrollback })
  by true = k
  by false = record { rows = free_aside s k; other = k.rows; above = k.above; last = k.last }

free_left : (s : ScreenValue) → StaysFree s → StaysFree (left_alternate s)
free_left s k = by s.is_alternate where
  by : (b : Bool)
      → StaysFree (if b then record s { page = page_aside s; other = Some s.page; is_alternate = false } else s)
  by true = record { rows = free_aside s k; other = k.rows; above = k.above; last = k.last }
  by false = k

free_saved : (s : ScreenValue) → StaysFree s → StaysFree (screen_after_save s)
free_saved s k = record { rows = k.rows; other = k.other; above = k.above; last = k.last }

free_restored : (s : ScreenValue) → StaysFree s → StaysFree (screen_after_restore s)
free_restored s k = record { rows = k.rows; other = k.other; above = k.above; last = k.last }

free_entered_fresh : (s : ScreenValue) → StaysFree s → StaysFree (entered_fresh s)
free_entered_fresh s k =
    let h = free_entered (screen_after_save s) (free_saved s k) in
    record { rows = free_fresh s; other = h.other; above = h.above; last = h.last }

free_reset : (s : ScreenValue) (o : Option Page)
    → IfSome (option_map (λ _. fresh_page s) o) (λ other. AreFree other.rows)
free_reset s (Some page) = free_fresh s
free_reset s None = tt

-- ---- each step

pub step_free : (x : Step) (s : ScreenValue) → IsAmong IsFreeCharacter (Unit {0}) x → StaysFree s
    → StaysFree (screen_after x s)
step_free (Print c) s i k =
    sends s.is_alternate s (display_after (Print c) s) (printed_out c s.attrs s.page)
    (stable_printed_out selecting c s.attrs s.page tt k.rows)
    (record {
      rows = stable_printed selecting c s.attrs s.page i tt k.rows;
      other = k.other;
      above = k.above;
      last = printed_last (becomes_last s (columns_of c)) c s.last i k.last;
    })
    refl
step_free LineFeed s i k =
    sends s.is_alternate s (display_after LineFeed s) (fed_out s.page) (stable_fed_out selecting s.page k.rows)
    (record { rows = stable_line_feed selecting s.page k.rows; other = k.other; above = k.above; last = k.last }) refl
step_free (ScrollUp count) s i k =
    sends s.is_alternate s (display_after (ScrollUp count) s) (scrolled_out count s.page)
    (stable_scrolled_out selecting count s.page k.rows)
    (record {
      rows = stable_scrolled_up selecting count s.page k.rows;
      other = k.other;
      above = k.above;
      last = k.last;
    })
    refl
step_free EraseScrollback s i k = gives_up s.is_alternate s k
step_free (CallBack call) s i k = k
step_free Reset s i k =
    record { rows = free_fresh s; other = free_reset s s.other; above = All-nil (EachCell IsFreeCell); last = tt }
step_free EnterAlternate s i k = free_entered s k
step_free EnterFresh s i k = free_entered_fresh s k
step_free LeaveAlternate s i k = free_left s k
step_free LeaveRestoring s i k = free_restored (left_alternate s) (free_left s k)
step_free (OnPage x) s i k = on_page _ s (stable_page_after selecting s.attrs x s.page tt k.rows) k
step_free SaveCursor s i k = free_saved s k
step_free RestoreCursor s i k = free_restored s k
step_free (Render setting) s i k = record { rows = k.rows; other = k.other; above = k.above; last = k.last }
step_free (HideCursor hidden) s i k = record { rows = k.rows; other = k.other; above = k.above; last = k.last }
step_free (SetMode x) s i k = record { rows = k.rows; other = k.other; above = k.above; last = k.last }

pub steps_free : (steps : List Step) (s : ScreenValue) → AllByRecursion (IsAmong IsFreeCharacter (Unit {0})) steps
    → StaysFree s → StaysFree (screen_after_all steps s)
steps_free [] s i k = k
steps_free (x ∷ steps) s i k = steps_free steps (screen_after x s) i.1 (step_free x s i.0 k)

-- ==== Bytes that are not parsed as U+FE0F put it into no cell, and neither does resizing or scrolling back.

-- ---- with and without the invariant of cells

into_cell : (cell : CellValue) → IsCell cell → CellHasNoSelector cell → IsFreeCell cell
into_cell (blank attrs) is without = tt
into_cell (glyph text wide attrs) is without = (IsGlyphText-utf8 text wide is, without)
into_cell right_half is without = tt

from_cell : (cell : CellValue) → IsFreeCell cell → CellHasNoSelector cell
from_cell (blank attrs) p = ap (list_any is_selector) chars-nil
from_cell (glyph text wide attrs) p = p.1
from_cell right_half p = ap (list_any is_selector) chars-nil

abbrev HasNone : RowValue → Type 0
HasNone row = All CellHasNoSelector row.cells

into_row : (row : RowValue) → All IsCell row.cells → HasNone row → EachCell IsFreeCell row
into_row row is without k d lt = into_cell (slice_index_or row.cells k d) (is k d lt) (without k d lt)

into_rows : (rows : List RowValue) → All (λ row. All IsCell row.cells) rows → RowsHaveNoSelector rows → AreFree rows
into_rows rows is without k d lt = into_row (slice_index_or rows k d) (is k d lt) (without k d lt)

from_rows : (rows : List RowValue) → AreFree rows → RowsHaveNoSelector rows
from_rows rows all =
    All-weaker (EachCell IsFreeCell) HasNone
    (λ row. All-weaker IsFreeCell CellHasNoSelector from_cell row.cells) rows all

into_other : (page : Page) (o : Option Page) → IfSome o (λ other. IsPage other × SameSize other page)
    → IfSome o (λ other. RowsHaveNoSelector other.rows) → IfSome o (λ other. AreFree other.rows)
into_other page (Some other) is without = into_rows other.rows (λ k d lt. (is.0.rows k d lt).sound) without
into_other page None is without = tt

into_last : (last : Option ℕ) → IfSome last IsPrintable → last ≢ Some 0xFE0F → IfSome last IsFreeCharacter
into_last (Some c) is other = (is.0, λ e. other (ap Some e))
into_last None is other = tt

same_some : (x y : ℕ) → Some x ≡ Some y → x ≡ y
same_some x y e = cc

from_last : (last : Option ℕ) → IfSome last IsFreeCharacter → last ≢ Some 0xFE0F
from_last (Some c) k = λ e. k.1 (same_some c 0xFE0F e)
from_last None k = λ e. absurd (cc)

from_other : (o : Option Page) → IfSome o (λ other. AreFree other.rows)
    → IfSome o (λ other. RowsHaveNoSelector other.rows)
from_other (Some other) all = from_rows other.rows all
from_other None all = tt

stays_from : (s : ScreenValue) → IsScreen s → HasNoSelectors s → StaysFree s
stays_from s is without = record {
  rows = into_rows s.page.rows (λ k d lt. (is.page.rows k d lt).sound) without.rows;
  other = into_other s.page s.other is.other without.other;
  above = into_rows s.scrollback.rows (λ k d lt. (is.scrollback.sound k d lt).sound) without.above;
  last = into_last s.last is.last without.last;
}

none_from : (s : ScreenValue) → StaysFree s → HasNoSelectors s
none_from s k = record {
  rows = from_rows s.page.rows k.rows;
  other = from_other s.other k.other;
  above = from_rows s.scrollback.rows k.above;
  last = from_last s.last k.last;
}

-- ---- runs

allows : (event : Event) → event ≢ Character 0xFE0F → Allows IsFreeCharacter (Unit {0}) event
allows event other =
    record { prints = λ c e is. (is.0, λ same. other (e ∙ ap Character same)); resets = λ e. tt }

events_free : (events : List Event) (s : ScreenValue) → AreCoded events
    → AllByRecursion (λ event. event ≢ Character 0xFE0F) events → StaysFree s
    → AllAmong IsFreeCharacter (Unit {0}) (steps_of_all events s)
events_free [] s coded others k = none
events_free (event ∷ events) s coded others k =
    let steps = steps_of event (seen_of s) in
    let now : AllAmong IsFreeCharacter (Unit {0}) steps =
    stream_event event (seen_of s) coded.0 (allows event others.0) k.last in
    let there = steps_free steps s now.all k in
    all_then steps (steps_of_all events (screen_after_all steps s)) now
    (events_free events (screen_after_all steps s) coded.1 others.1 there)

pub run_keeps : (scan : State) (s : ScreenValue) (bytes : List ℕ) → IsScreen s → HasNoSelectors s
    → ReadsNoSelector scan bytes → HasNoSelectors (screen_in scan s bytes)
run_keeps scan s bytes is without others =
    let k = stays_from s is without in
    none_from (screen_in scan s bytes) (steps_free (steps_in scan s bytes) s
    (events_free (run scan bytes).events s (coded_run scan bytes) others k).all k)

-- ---- fresh screens, resized ones, and scrolling back

pub fresh_has_none : (rows cols capacity : ℕ) → HasNoSelectors (fresh_screen rows cols capacity)
fresh_has_none rows cols capacity = none_from (fresh_screen rows cols capacity) (record {
  rows = stable_blank selecting rows cols;
  other = tt;
  above = All-nil (EachCell IsFreeCell);
  last = tt;
})

none_past : CellHasNoSelector default_blank
none_past = ap (list_any is_selector) chars-nil

at_none : (cells : List CellValue) (col : ℕ) → All CellHasNoSelector cells → CellHasNoSelector (at cells col)
at_none cells col all = elim (cases_lt col (length cells)) [
  | inl lt ↦ all col default_blank lt
  | inr past ↦ subst CellHasNoSelector (sym (get_or_past cells col default_blank past)) none_past
]

pub shows_none : (s : ScreenValue) → HasNoSelectors s → ShowsNoSelector s
shows_none s without r col inside lt =
    let seen = rows_visible HasNone (above_page s) s.page.rows
    (above_by HasNone s.is_alternate s.scrollback without.above) without.rows in
    let tall = length_visible (above_page s) s.page.rows in
    at_none (visible_row s r).cells col (seen r (blank_row default_attrs s.page.width) (omega (arith, inside, tall)))

pub viewed_has_none : (n : ℕ) (s : ScreenValue) → IsScreen s → HasNoSelectors s → HasNoSelectors (scrolled_back n s)
viewed_has_none n s is without = by s.is_alternate where
  k : StaysFree s
  k = stays_from s is without

  now : Scrollback
  now = with_view (length s.page.rows) s.page.width n s.scrollback

  by : (b : Bool) → HasNoSelectors (if b then s else record s { scrollback = now })
  by true = without
  by false = record {
    rows = without.rows;
    other = without.other;
    above = from_rows now.rows (stable_viewed selecting (length s.page.rows) s.page.width n s.scrollback k.above);
    last = without.last;
  }

-- ---- resizing

above_aside_none : (b : Bool) (above : Scrollback) → AreFree above.rows
    → AreFree (if b then above else no_scrollback 0).rows
above_aside_none true above all = all
above_aside_none false above all = All-nil (EachCell IsFreeCell)

page_if : (b : Bool) (page other : Page) → AreFree page.rows → AreFree other.rows
    → AreFree (if b then page else other).rows
page_if true page other p q = p
page_if false page other p q = q

other_resized : (rows cols : ℕ) (above : Scrollback) (o : Option Page) → AreFree above.rows
    → IfSome o (λ other. AreFree other.rows)
    → IfSome (option_map (page_resized rows cols above) o) (λ other. AreFree other.rows)
other_resized rows cols above (Some page) a all = stable_page_resized selecting rows cols above page a all
other_resized rows cols above None a all = tt

pub resized_has_none : (rows cols : ℕ) (s : ScreenValue) → IsScreen s → HasNoSelectors s
    → HasNoSelectors (screen_after_resize rows cols s)
resized_has_none rows cols s is without = by (has_size rows cols s) where
  k : StaysFree s
  k = stays_from s is without

  after : ScreenValue
  after = record s {
    page = page_resized rows cols (above_page s) s.page;
    other = option_map (page_resized rows cols (above_aside s)) s.other;
    scrollback = scrollback_resized rows (main_page s) s.scrollback;
  }

  stays : StaysFree after
  stays = record {
    rows = stable_page_resized selecting rows cols (above_page s) s.page
        (above_by (EachCell IsFreeCell) s.is_alternate s.scrollback k.above) k.rows;
    other = other_resized rows cols (above_aside s) s.other
        (above_aside_none s.is_alternate s.scrollback k.above) k.other;
    above = stable_scrollback_resized selecting rows (main_page s) s.scrollback
        (page_if s.is_alternate (page_aside s) s.page (free_aside s k) k.rows) k.above;
    last = k.last;
  }

  by : (b : Bool) → HasNoSelectors (if b then s else after)
  by true = without
  by false = none_from after stays
