-- The rows that a run reports and keeps are those that scrolled off, and so is their text.
use Rattle.std.proofs.Common.{◌≡◌, ℕ, Bool, true, false, List, [], ◌∷◌, ◌++◌, length, map, Option, Some, None, refl}
use Rattle.std.proofs.Common.{sym, ap, subst, ◌∙◌, append_assoc, arith, ap₂}
use Rattle.std.specs.Prelude.{All, IfSome, if◌then◌else◌}
use Rattle.std.specs.List.{AllByRecursion}
use Rattle.std.proofs.lemmas.List.{append-nil, length-replicate}
use Rattle.vt_cells.specs.Attrs.{default_attrs}
use Rattle.vt_cells.specs.Glyph.{columns_of}
use Rattle.vt_rows.specs.Row.{RowValue, IsRow, blank_row, trimmed_row, cells_without_end}
use Rattle.vt_rows.specs.Basic.{Written, nothing_written, basic_text, written_after}
use Rattle.vt_grid.specs.Page.{Page, IsPage, SameSize, blank_page, scrolled_up}
use Rattle.vt_grid.specs.Moves.{line_feed, cursor_saved, cursor_restored}
use Rattle.vt_grid.specs.PageStep.{page_after}
use Rattle.vt_grid.specs.Printing.{page_after_print}
use Rattle.vt_grid.specs.Outgoing.{printed_out, fed_out, scrolled_out}
use Rattle.vt_grid.specs.Resize.{out_of_view}
use Rattle.vt_grid.specs.Scrollback.{Scrollback, scrollback_after_clear, no_scrollback, scrollback_after_push}
use Rattle.vt_grid.specs.Scrollback.{rows_reported, with_view}
use Rattle.vt_grid.proofs.Carries.{page_printed}
use Rattle.vt_grid.proofs.Pages.{page_blank, page_cursor_saved, page_cursor_restored, page_line_feed, page_scrolled_up}
use Rattle.vt_screen.specs.Calls.{CallValue, OnScroll}
use Rattle.vt_screen.specs.Pages.{fresh_page, page_aside, screen_after_enter, entered_fresh, left_alternate}
use Rattle.vt_screen.specs.Pages.{left_restored, screen_after_save, screen_after_restore}
use Rattle.vt_screen.specs.Screen.{IsPrintable, IsScreen, ScreenValue, fresh_screen, scrolled_back, with_page}
use Rattle.vt_screen.specs.Steps.{Step, Print, LineFeed, ScrollUp, OnPage, SaveCursor, RestoreCursor, EnterAlternate}
use Rattle.vt_screen.specs.Steps.{EnterFresh, LeaveAlternate, LeaveRestoring, Reset, EraseScrollback, Render}
use Rattle.vt_screen.specs.Steps.{HideCursor, SetMode, CallBack, becomes_last, screen_after, display_after}
use Rattle.vt_screen.specs.Streamed.{AreSameTrimmed, HasWideFlags, row_of_call, rows_of_calls, sent_off, sent_off_all}
use Rattle.vt_screen.specs.Streamed.{streamed_text}
use Rattle.vt_screen.specs.CallsOfRun.{calls_of, calls_of_all, screen_after_all}
use Rattle.vt_screen.specs.Capture.{all_rows, basic_texts, written_after_all}
use Rattle.vt_screen.proofs.TrailingBlanks.{IsWide, AreSound, alike_pushed, alike_then, alike_viewed, sound_pushed}
use Rattle.vt_screen.proofs.TrailingBlanks.{sound_viewed, wide_pushed, wide_viewed, trimmed_twice}
use Rattle.vt_screen.proofs.SizeCursors.{inside_page, page_page_after, same_page_after}
use Rattle.vt_screen.proofs.StepInvariant.{rows_fed_out, rows_printed_out, rows_scrolled_out}
use Rattle.vt_screen.proofs.SizePage.{same_back, same_itself, same_through, same_cursor_saved, same_cursor_restored}
use Rattle.vt_screen.proofs.SizePage.{same_line_feed, same_printed, same_scrolled_up}

-- ==== In each step of a run except RIS, the rows that the main page's scrollback reports and keeps are those kept
-- before and those that scroll off, except for trailing default blanks.

-- The step's characters satisfy Q, and it resets the screen only if R holds.
abbrev pub IsAmong : (ℕ → Type 0) → Type 0 → Step → Type 0
IsAmong Q R (Print c) = Q c
IsAmong Q R Reset = R
IsAmong Q R (CallBack call) = row_of_call call ≡ []
IsAmong Q R _ = Unit {0}

-- The step is no reset, and all its characters are printable.
abbrev pub IsStreamed : Step → Type 0
IsStreamed step = IsAmong IsPrintable ⊥ step

-- ---- the invariant at each step

pub record IsLike (page other : Page) : Type 0 where
  pub sound : IsPage other
  pub same : SameSize other page

pub record IsHeld (page : Page) (aside : Option Page) (above : Scrollback) (newest : Option ℕ) : Type 0 where
  pub sound : IsPage page
  pub other : IfSome aside (IsLike page)
  pub rows : AreSound above.rows
  pub wide : All (IsWide page.width) above.rows
  pub last : IfSome newest IsPrintable

abbrev pub ScannerValue : ScreenValue → Type 0
ScannerValue s = IsHeld s.page s.other s.scrollback s.last

-- Between the screens `s` and `t`, the given calls reported rows, and the rows `gone` scrolled off.
pub record Streamed (calls : List CallValue) (gone : List RowValue) (s t : ScreenValue) : Type 0 where
  pub held : ScannerValue t
  pub alike : AreSameTrimmed (rows_of_calls calls ++ t.scrollback.rows) (s.scrollback.rows ++ gone)

-- If scrollback is unchanged, nothing was reported, and nothing scrolled off.
quietly : (s t : ScreenValue) → ScannerValue t → t.scrollback.rows ≡ s.scrollback.rows →
    Streamed [] (if s.is_alternate then [] else []) s t
quietly s t k e = record { held = k; alike = ap (map trimmed_row) (e ∙ by s.is_alternate) } where
  by : (b : Bool) → s.scrollback.rows ≡ s.scrollback.rows ++ (if b then [] else [])
  by true = sym (append-nil s.scrollback.rows)
  by false = sym (append-nil s.scrollback.rows)

other_like : (page new : Page) (other : Option Page) → SameSize new page →
    IfSome other (IsLike page) → IfSome other (IsLike new)
other_like page new (Some p) s k =
    record { sound = k.sound; same = same_through p page new k.same (same_back new page s) }
other_like page new None s k = k

-- A screen keeps the invariant of streaming when a page of the same size replaces the active page.
held_page : (page new : Page) (other : Option Page) (above : Scrollback) (last : Option ℕ) →
    IsPage new → SameSize new page → IsHeld page other above last → IsHeld new other above last
held_page page new other above last sound same k = record {
  sound = sound;
  other = other_like page new other same k.other;
  rows = k.rows;
  wide = subst (λ (width : ℕ). All (IsWide width) above.rows) (sym same.width) k.wide;
  last = k.last;
}

on_page : (page : Page) (s : ScreenValue) → IsPage page → SameSize page s.page →
    ScannerValue s → Streamed [] (if s.is_alternate then [] else []) s (with_page page s)
on_page page s sound same k =
    quietly s (with_page page s) (held_page s.page page s.other s.scrollback s.last sound same k) refl

-- ---- rows that scroll off

told_none : (rows : List RowValue) → rows_of_calls (map (λ row. OnScroll row true) rows) ≡ []
told_none [] = refl
told_none (row ∷ rows) = told_none rows

pub rows_of_append : (xs ys : List CallValue) → rows_of_calls (xs ++ ys) ≡ rows_of_calls xs ++ rows_of_calls ys
rows_of_append [] ys = refl
rows_of_append (x ∷ xs) ys =
    ap (λ (rows : List RowValue). row_of_call x ++ rows) (rows_of_append xs ys)
    ∙ sym (append_assoc (row_of_call x) (rows_of_calls xs) (rows_of_calls ys))

told_all : (rows : List RowValue) → rows_of_calls (map (λ row. OnScroll row false) rows) ≡ rows
told_all [] = refl
told_all (row ∷ rows) = ap (λ (xs : List RowValue). row ∷ xs) (told_all rows)

sends : (b : Bool) (s after : ScreenValue) (gone : List RowValue) → All (IsRow s.page.width) gone
    → ScannerValue s → IsHeld after.page after.other s.scrollback after.last
    → after.scrollback ≡ s.scrollback → after.page.width ≡ s.page.width
    → Streamed (map (λ row. OnScroll row b) (rows_reported gone (if b then no_scrollback 0 else s.scrollback)))
    (if b then [] else gone) s
    (if b then after else record after { scrollback = scrollback_after_push (length s.page.rows) s.page.width gone s.scrollback })
sends true s after gone rows k held same width = record {
  held = subst (λ (z : Scrollback). IsHeld after.page after.other z after.last) (sym same) held;
  alike =
      ap (λ (xs : List RowValue). map trimmed_row (xs ++ after.scrollback.rows))
      (told_none (rows_reported gone (no_scrollback 0)))
      ∙ ap (λ (z : Scrollback). map trimmed_row z.rows) same
      ∙ ap (map trimmed_row) (sym (append-nil s.scrollback.rows));
}
sends false s after gone rows k held same width =
    let now = scrollback_after_push (length s.page.rows) s.page.width gone s.scrollback in
    record {
      held = record {
        sound = held.sound;
        other = held.other;
        rows = sound_pushed (length s.page.rows) s.page.width gone s.scrollback rows k.rows;
        wide =
            subst (λ (w : ℕ). All (IsWide w) now.rows) (sym width)
            (wide_pushed (length s.page.rows) s.page.width gone s.scrollback rows k.rows k.wide);
        last = held.last;
      };
      alike = ap (λ (xs : List RowValue). map trimmed_row (xs ++ now.rows)) (told_all (rows_reported gone s.scrollback))
          ∙ alike_pushed (length s.page.rows) s.page.width gone s.scrollback rows k.rows k.wide;
    }

gives_up : (b : Bool) (s : ScreenValue) → ScannerValue s
    → Streamed (map (λ row. OnScroll row b) (if b then no_scrollback 0 else s.scrollback).rows)
    (if b then [] else []) s (if b then s else record s { scrollback = scrollback_after_clear s.scrollback })
gives_up true s k = record { held = k; alike = ap (map trimmed_row) (sym (append-nil s.scrollback.rows)) }
gives_up false s k = record {
  held = record {
    sound = k.sound;
    other = k.other;
    rows = λ i d h. absurd (omega (arith, h));
    wide = λ i d h. absurd (omega (arith, h));
    last = k.last;
  };
  alike = ap (λ (xs : List RowValue). map trimmed_row (xs ++ [])) (told_all s.scrollback.rows);
}

-- The last printed character is still printable after another character is printed.
printed_last : (b : Bool) (c : ℕ) (last : Option ℕ) → IsPrintable c →
    IfSome last IsPrintable → IfSome (if b then Some c else last) IsPrintable
printed_last true c last i k = i
printed_last false c last i k = k

-- ---- exchanging the pages

-- The screen `t` has the same size and the same scrollback rows as `s`, and satisfies the invariant of streaming.
record Turned (s t : ScreenValue) : Type 0 where
  held : ScannerValue t
  same : SameSize t.page s.page
  rows : t.scrollback.rows ≡ s.scrollback.rows

pub like_fresh : (page : Page) → IsPage page → IsLike page (blank_page (length page.rows) page.width)
like_fresh page p = record {
  sound = page_blank (length page.rows) page.width (omega (arith, p.cursor_row)) p.height p.has_columns p.columns;
  same = record { width = refl; height = length-replicate (length page.rows) (blank_row default_attrs page.width) };
}

pub like_aside : (s : ScreenValue) → ScannerValue s → IsLike s.page (page_aside s)
like_aside s k = by s.other k.other where
  by : (o : Option Page) → IfSome o (IsLike s.page) → IsLike s.page (page_aside (record s { other = o }))
  by (Some p) l = l
  by None l = like_fresh s.page k.sound

-- A screen keeps the invariant of streaming when the other page becomes active and scrollback keeps its rows.
exchanged : (page new : Page) (above now : Scrollback) (other : Option Page) (last : Option ℕ) →
    IsLike page new → now.rows ≡ above.rows → IsHeld page other above last → IsHeld new (Some page) now last
exchanged page new above now other last l e k = record {
  sound = l.sound;
  other = record { sound = k.sound; same = same_back new page l.same };
  rows = subst AreSound (sym e) k.rows;
  wide = subst (λ (w : ℕ). All (IsWide w) now.rows) (sym l.same.width) (subst (All (IsWide page.width)) (sym e) k.wide);
  last = k.last;
}

turned_entered : (s : ScreenValue) → ScannerValue s → Turned s (screen_after_enter s)
turned_entered s k = by s.is_alternate where
  by : (b : Bool) →
      Turned s (if b then s
      else record s
      { page = page_aside s; other = Some s.page; is_alternate = true; scrollback = out_of_view s.scrollback })
  by true = record { held = k; same = same_itself s.page; rows = refl }
  by false =
      let l = like_aside s k in
      record {
        held = exchanged s.page (page_aside s) s.scrollback (out_of_view s.scrollback) s.other s.last l refl k;
        same = l.same;
        rows = refl;
      }

turned_left : (s : ScreenValue) → ScannerValue s → Turned s (left_alternate s)
turned_left s k = by s.is_alternate where
  by : (b : Bool) →
      Turned s (if b then record s { page = page_aside s; other = Some s.page; is_alternate = false } else s)
  by false = record { held = k; same = same_itself s.page; rows = refl }
  by true =
      let l = like_aside s k in
      record {
        held = exchanged s.page (page_aside s) s.scrollback s.scrollback s.other s.last l refl k;
        same = l.same;
        rows = refl;
      }

turned_saved : (s : ScreenValue) → ScannerValue s → Turned s (screen_after_save s)
turned_saved s k =
    let same = same_cursor_saved s.page in
    record {
      held =
          held_page s.page (cursor_saved s.page) s.other s.scrollback s.last (page_cursor_saved s.page k.sound) same k;
      same = same;
      rows = refl;
    }

turned_restored : (s : ScreenValue) → ScannerValue s → Turned s (screen_after_restore s)
turned_restored s k =
    let same = same_cursor_restored s.page in
    record {
      held =
          held_page s.page (cursor_restored s.page) s.other s.scrollback
          s.last (page_cursor_restored s.page k.sound) same k;
      same = same;
      rows = refl;
    }

turned_then : (s t u : ScreenValue) → Turned s t → Turned t u → Turned s u
turned_then s t u a b =
    record { held = b.held; same = same_through u.page t.page s.page b.same a.same; rows = b.rows ∙ a.rows }

-- A fresh page may replace the active page of a screen that has the same size and scrollback rows.
turned_fresh : (s t : ScreenValue) → ScannerValue s → Turned s t → Turned s (record t { page = fresh_page s })
turned_fresh s t k m =
    let l = like_fresh s.page k.sound in
    record {
      held =
          held_page t.page (fresh_page s) t.other t.scrollback t.last l.sound
          (same_through (fresh_page s) s.page t.page l.same (same_back t.page s.page m.same)) m.held;
      same = l.same;
      rows = m.rows;
    }

-- ---- each step

by_turn : (s t : ScreenValue) → Turned s t → Streamed [] (if s.is_alternate then [] else []) s t
by_turn s t m = quietly s t m.held m.rows

pub step_streams : (x : Step) (s : ScreenValue) → IsStreamed x →
    ScannerValue s → Streamed (calls_of x s) (sent_off x s) s (screen_after x s)
step_streams (Print c) s i k =
    sends s.is_alternate s (display_after (Print c) s) (printed_out c s.attrs s.page)
    (rows_printed_out c s.attrs s.page k.sound) k
    (let same = same_printed c s.attrs s.page in
    let held = held_page s.page (page_after_print c s.attrs s.page) s.other s.scrollback
    s.last (page_printed c s.attrs s.page i.0 i.1 k.sound) same k in
    record {
      sound = held.sound;
      other = held.other;
      rows = held.rows;
      wide = held.wide;
      last = printed_last (becomes_last s (columns_of c)) c s.last i k.last;
    })
    refl (same_printed c s.attrs s.page).width
step_streams LineFeed s i k =
    sends s.is_alternate s (display_after LineFeed s) (fed_out s.page) (rows_fed_out s.page k.sound) k
    (held_page s.page (line_feed s.page) s.other s.scrollback s.last
    (page_line_feed s.page k.sound) (same_line_feed s.page) k)
    refl (same_line_feed s.page).width
step_streams (ScrollUp count) s i k =
    sends s.is_alternate s (display_after (ScrollUp count) s)
    (scrolled_out count s.page) (rows_scrolled_out count s.page k.sound) k
    (held_page s.page (scrolled_up count s.page) s.other s.scrollback s.last
    (page_scrolled_up count s.page k.sound) (same_scrolled_up count s.page) k)
    refl (same_scrolled_up count s.page).width
step_streams EraseScrollback s i k = gives_up s.is_alternate s k
step_streams (CallBack call) s i k =
    let q = quietly s s k refl in
    record {
      held = k;
      alike = ap (λ (xs : List RowValue). map trimmed_row ((xs ++ []) ++ s.scrollback.rows)) i ∙ q.alike;
    }
step_streams Reset s i k = absurd i
step_streams EnterAlternate s i k = by_turn s (screen_after_enter s) (turned_entered s k)
step_streams EnterFresh s i k =
    let saves = turned_saved s k in
    by_turn s (entered_fresh s) (turned_fresh s (screen_after_enter (screen_after_save s)) k
    (turned_then s (screen_after_save s) (screen_after_enter (screen_after_save s)) saves (turned_entered (screen_after_save s) saves.held)))
step_streams LeaveAlternate s i k = by_turn s (left_alternate s) (turned_left s k)
step_streams LeaveRestoring s i k =
    let leaves = turned_left s k in
    by_turn s (left_restored s) (turned_then s (left_alternate s) (left_restored s) leaves (turned_restored (left_alternate s) leaves.held))
step_streams (OnPage x) s i k =
    on_page (page_after s.attrs x s.page) s (page_page_after s.attrs x s.page k.sound)
    (same_page_after s.attrs x s.page (inside_page s.page k.sound)) k
step_streams SaveCursor s i k = by_turn s (screen_after_save s) (turned_saved s k)
step_streams RestoreCursor s i k = by_turn s (screen_after_restore s) (turned_restored s k)
step_streams (Render setting) s i k = quietly s (display_after (Render setting) s) k refl
step_streams (HideCursor hidden) s i k = quietly s (display_after (HideCursor hidden) s) k refl
step_streams (SetMode x) s i k = quietly s (display_after (SetMode x) s) k refl

-- ---- steps in sequence

pub streamed_then : (calls more : List CallValue) (gone later : List RowValue) (s t u : ScreenValue) →
    Streamed calls gone s t → Streamed more later t u → Streamed (calls ++ more) (gone ++ later) s u
streamed_then calls more gone later s t u a b = record {
  held = b.held;
  alike =
      ap (map trimmed_row) (ap (λ (xs : List RowValue). xs ++ u.scrollback.rows) (rows_of_append calls more)
      ∙ append_assoc (rows_of_calls calls) (rows_of_calls more) u.scrollback.rows)
      ∙ alike_then (rows_of_calls calls) (rows_of_calls calls)
      (rows_of_calls more ++ u.scrollback.rows) (t.scrollback.rows ++ later) refl b.alike
      ∙ ap (map trimmed_row) (sym (append_assoc (rows_of_calls calls) t.scrollback.rows later))
      ∙ alike_then (rows_of_calls calls ++ t.scrollback.rows) (s.scrollback.rows ++ gone) later later a.alike refl
      ∙ ap (map trimmed_row) (append_assoc s.scrollback.rows gone later);
}

pub steps_stream : (steps : List Step) (s : ScreenValue) → AllByRecursion IsStreamed steps →
    ScannerValue s → Streamed (calls_of_all steps s) (sent_off_all steps s) s (screen_after_all steps s)
steps_stream [] s i k = record { held = k; alike = ap (map trimmed_row) (sym (append-nil s.scrollback.rows)) }
steps_stream (x ∷ steps) s i k =
    let one = step_streams x s i.0 k in
    streamed_then (calls_of x s) (calls_of_all steps (screen_after x s)) (sent_off x s)
    (sent_off_all steps (screen_after x s)) s (screen_after x s) (screen_after_all steps (screen_after x s)) one
    (steps_stream steps (screen_after x s) i.1 one.held)

-- ---- scrolling back

pub view_streams : (n : ℕ) (s : ScreenValue) → ScannerValue s → Streamed [] [] s (scrolled_back n s)
view_streams n s k = by s.is_alternate where
  now : Scrollback
  now = with_view (length s.page.rows) s.page.width n s.scrollback

  by : (b : Bool) → Streamed [] [] s (if b then s else record s { scrollback = now })
  by true = record { held = k; alike = ap (map trimmed_row) (sym (append-nil s.scrollback.rows)) }
  by false = record {
    held = record {
      sound = k.sound;
      other = k.other;
      rows = sound_viewed (length s.page.rows) s.page.width n s.scrollback k.rows;
      wide = wide_viewed (length s.page.rows) s.page.width n s.scrollback k.wide;
      last = k.last;
    };
    alike =
        alike_viewed (length s.page.rows) s.page.width n s.scrollback k.rows k.wide
        ∙ ap (map trimmed_row) (sym (append-nil s.scrollback.rows));
  }

-- ---- a fresh screen

-- A screen satisfies the invariant of streaming if no wrapped row of its scrollback is narrower than the screen.
pub held_screen : (s : ScreenValue) → IsScreen s → HasWideFlags s → ScannerValue s
held_screen s is wide = record {
  sound = is.page;
  other = by s.other is.other;
  rows = is.scrollback.sound;
  wide = wide;
  last = is.last;
} where
  by : (o : Option Page) → IfSome o (λ page. IsPage page × SameSize page s.page) → IfSome o (IsLike s.page)
  by (Some page) both = record { sound = both.0; same = both.1 }
  by None both = tt

pub held_fresh : (rows cols capacity : ℕ) → IsPage (blank_page rows cols) → ScannerValue (fresh_screen rows cols capacity)
held_fresh rows cols capacity sound = record {
  sound = sound;
  other = tt;
  rows = λ i d h. absurd (omega (arith, h));
  wide = λ i d h. absurd (omega (arith, h));
  last = tt;
}

-- ==== The text of the reported rows, followed by a full capture, is the text of all rows that scrolled off and of the
-- page.

-- ---- rows that differ only in blanks at their ends have one text

cells_twice : (row : RowValue) → cells_without_end (cells_without_end row.cells) ≡ cells_without_end row.cells
cells_twice row = ap (λ (r : RowValue). r.cells) (trimmed_twice row)

text_trimmed : (w : Written) (row : RowValue) → basic_text w (trimmed_row row) ≡ basic_text w row
text_trimmed w row = rw (cells_twice row) refl

after_trimmed : (w : Written) (row : RowValue) → written_after w (trimmed_row row) ≡ written_after w row
after_trimmed w row = rw (cells_twice row) refl

texts_trimmed : (w : Written) (rows : List RowValue) → basic_texts w (map trimmed_row rows) ≡ basic_texts w rows
texts_trimmed w [] = refl
texts_trimmed w (row ∷ rows) =
    ap₂ (λ (xs ys : List ℕ). xs ++ ys) (text_trimmed w row)
    (ap (λ (v : Written). basic_texts v (map trimmed_row rows)) (after_trimmed w row)
    ∙ texts_trimmed (written_after w row) rows)

pub same_texts : (w : Written) (rows others : List RowValue) →
    AreSameTrimmed rows others → basic_texts w rows ≡ basic_texts w others
same_texts w rows others e = sym (texts_trimmed w rows) ∙ (ap (basic_texts w) e ∙ texts_trimmed w others)

-- ---- concatenated lists

pub texts_then : (w : Written) (xs ys : List RowValue) →
    basic_texts w (xs ++ ys) ≡ basic_texts w xs ++ basic_texts (written_after_all w xs) ys
texts_then w [] ys = refl
texts_then w (x ∷ xs) ys =
    ap (λ (text : List ℕ). basic_text w x ++ text) (texts_then (written_after w x) xs ys)
    ∙ sym (append_assoc (basic_text w x) (basic_texts (written_after w x) xs)
    (basic_texts (written_after_all (written_after w x) xs) ys))

pub after_then : (w : Written) (xs ys : List RowValue) →
    written_after_all w (xs ++ ys) ≡ written_after_all (written_after_all w xs) ys
after_then w [] ys = refl
after_then w (x ∷ xs) ys = after_then (written_after w x) xs ys

above_main : (b : Bool) (z : Scrollback) → b ≡ false → (if b then no_scrollback 0 else z) ≡ z
above_main b z e = rw e refl

-- If the first screen has no scrollback and the last one has its main page active, the streamed text is the text of the
-- rows that scrolled off and of the page.
pub streamed_is : (calls : List CallValue) (gone : List RowValue) (s t : ScreenValue)
    → Streamed calls gone s t → s.scrollback.rows ≡ [] → t.is_alternate ≡ false
    → streamed_text calls t ≡ basic_texts nothing_written (gone ++ t.page.rows)
streamed_is calls gone s t k none main =
    let told = rows_of_calls calls in
    let rows : told ++ all_rows t ≡ (told ++ t.scrollback.rows) ++ t.page.rows
    = ap (λ (z : Scrollback). told ++ (z.rows ++ t.page.rows)) (above_main t.is_alternate t.scrollback main)
    ∙ sym (append_assoc told t.scrollback.rows t.page.rows) in
    let alike : AreSameTrimmed (told ++ t.scrollback.rows) gone =
    k.alike ∙ ap (λ (xs : List RowValue). map trimmed_row (xs ++ gone)) none in
    sym (texts_then nothing_written told (all_rows t))
    ∙ (ap (basic_texts nothing_written) rows
    ∙ same_texts nothing_written ((told ++ t.scrollback.rows) ++ t.page.rows) (gone ++ t.page.rows)
    (alike_then (told ++ t.scrollback.rows) gone t.page.rows t.page.rows alike refl))
