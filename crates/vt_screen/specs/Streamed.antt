-- The rows that scroll off the top of the main page, the rows that are reported to callbacks, and the text of the
-- reported rows followed by a full capture.
use Rattle.std.specs.Prelude.{◌≡◌, ◌≢◌, ℕ, ◌≤◌, true, false, List, [], ◌∷◌, ◌++◌, length, All, map, if◌then◌else◌}
use Rattle.std.specs.List.{AllByRecursion}
use Rattle.vt_rows.specs.Basic.{nothing_written}
use Rattle.vt_rows.specs.Row.{RowValue, trimmed_row}
use Rattle.vt_grid.specs.Scrollback.{no_scrollback}
use Rattle.vt_scan.specs.Automaton.{State, Event, EscDispatch, run}
use Rattle.vt_screen.specs.Calls.{CallValue, OnScroll}
use Rattle.vt_screen.specs.Capture.{all_rows, basic_texts, written_after_all}
use Rattle.vt_screen.specs.Screen.{ScreenValue}
use Rattle.vt_screen.specs.Steps.{Step, rows_scrolled_off, screen_after}
use Rattle.vt_screen.specs.CallsOfRun.{steps_in}

-- The two lists of rows are equal except for trailing default blanks in their rows.
abbrev pub AreSameTrimmed : List RowValue → List RowValue → Type 0
AreSameTrimmed rows others = map trimmed_row rows ≡ map trimmed_row others

-- ---- the rows that calls report

-- The row of the main page that a call to `on_scroll` reports, as a list of one row; empty for any other call.
abbrev pub row_of_call : CallValue → List RowValue
row_of_call (OnScroll row false) = row ∷ []
row_of_call _ = []

abbrev pub rows_of_calls : List CallValue → List RowValue
rows_of_calls [] = []
rows_of_calls (call ∷ calls) = row_of_call call ++ rows_of_calls calls

-- ---- the rows that scroll off the main page

-- The rows that a step scrolls off the top of the main page.
abbrev pub sent_off : Step → ScreenValue → List RowValue
sent_off step screen = if screen.is_alternate then [] else rows_scrolled_off step screen

abbrev pub sent_off_all : List Step → ScreenValue → List RowValue
sent_off_all [] screen = []
sent_off_all (step ∷ steps) screen = sent_off step screen ++ sent_off_all steps (screen_after step screen)

-- The rows that parsing the given bytes scrolls off the top of the main page.
abbrev pub sent_off_in : State → ScreenValue → List ℕ → List RowValue
sent_off_in scan screen bytes = sent_off_all (steps_in scan screen bytes) screen

-- ---- preconditions

-- The event that the escape sequence RIS (full reset) produces.
abbrev pub ris : Event
ris = EscDispatch [] 0x63

-- Parsing the bytes produces no RIS event.
abbrev pub HasNoRis : State → List ℕ → Type 0
HasNoRis scan bytes = AllByRecursion (λ event. event ≢ ris) (run scan bytes).events

-- No wrapped scrollback row is narrower than the screen.
abbrev pub HasWideFlags : ScreenValue → Type 0
HasWideFlags screen = All (λ row. row.wrapped ≡ true → screen.page.width ≤ length row.cells) screen.scrollback.rows

-- ---- everything except scrollback

-- The screen with empty scrollback of capacity 0.
abbrev pub without_scrollback : ScreenValue → ScreenValue
without_scrollback screen = record screen { scrollback = no_scrollback 0 }

-- ---- captures

-- The text of the main page's rows that the given calls report, followed by a full capture of the screen. The capture
-- continues from the capture state after those rows.
abbrev pub streamed_text : List CallValue → ScreenValue → List ℕ
streamed_text calls screen =
    let gone = rows_of_calls calls in
    basic_texts nothing_written gone ++ basic_texts (written_after_all nothing_written gone) (all_rows screen)
