-- The positions that reading output touches: those that its steps print on, append to or erase, and those of the wide
-- characters that the steps split.
use Rattle.std.specs.Prelude.{◌≡◌, ℕ, ◌+◌, ◌-◌, ◌<◌, ◌≤◌, ◌==◌, ◌||◌, min, true, false, List, [], ◌∷◌, length, Some}
use Rattle.vt_cells.specs.Glyph.{columns_of}
use Rattle.vt_cells.specs.Attrs.{Attrs}
use Rattle.vt_grid.specs.Moves.{at_bottom}
use Rattle.vt_grid.specs.Page.{Page}
use Rattle.vt_grid.specs.declared.page_step.PageStep.{PageStep}
use Rattle.vt_grid.specs.declared.page_step.PageStep.TheVariants.{ReverseIndex, EraseBelow, EraseAbove, ErasePage}
use Rattle.vt_grid.specs.declared.page_step.PageStep.TheVariants.{EraseRest, EraseStart, EraseRow, EraseChars}
use Rattle.vt_grid.specs.declared.page_step.PageStep.TheVariants.{InsertChars, DeleteChars, InsertLines, DeleteLines}
use Rattle.vt_grid.specs.declared.page_step.PageStep.TheVariants.{ScrollDown}
use Rattle.vt_grid.specs.Printing.{wraps}
use Rattle.vt_redraw.specs.Locality.{IsLocal, Changes, CharTouches}
use Rattle.vt_redraw.specs.Steady.{IsSteady}
use Rattle.vt_scan.specs.Automaton.{Event, start, step_in}
use Rattle.vt_screen.specs.Reading.{Terminal, terminal, quiet_step, quiet_steps, read_byte}
use Rattle.vt_screen.specs.Screen.{ScreenValue}
use Rattle.vt_screen.specs.Shown.{IsReaderOf, display}
use Rattle.vt_screen.specs.Controls.{seen_of, steps_of}
use Rattle.vt_screen.specs.Steps.{Step, Print, LineFeed, ScrollUp, OnPage, EnterAlternate, EnterFresh}
use Rattle.vt_screen.specs.Steps.{LeaveAlternate, LeaveRestoring, Reset}

-- The given predicate holds for every position of the page.
abbrev pub TouchesAll : (ℕ → ℕ → Type 0) → Page → Type 0
TouchesAll May page = (r c : ℕ) → r < length page.rows → c < page.width → May r c

-- The given predicate holds for every position in the rows `first..end`.
abbrev pub TouchesRows : (ℕ → ℕ → Type 0) → (first end : ℕ) → Page → Type 0
TouchesRows May first end page = (r c : ℕ) → first ≤ r → r < end → c < page.width → May r c

-- The given predicate holds for every position that a line feed touches: every position of the page if the line feed
-- scrolls, and none otherwise.
abbrev pub FeedTouches : (ℕ → ℕ → Type 0) → Page → Type 0
FeedTouches May page = at_bottom page ≡ true → TouchesAll May page

-- The given predicate holds for every position that printing a character touches, including those that the line feed
-- touches if the cursor wraps.
abbrev pub PrintTouches : (ℕ → ℕ → Type 0) → ℕ → Attrs → Page → Type 0
PrintTouches May c attrs page =
    CharTouches May (columns_of c) c attrs page × (wraps c page ≡ true → FeedTouches May page)

-- The given predicate holds for every position touched by erasing from the cursor to the end of the cursor's row; no
-- position is touched if a wrap is pending.
abbrev pub RestTouches : (ℕ → ℕ → Type 0) → Page → Type 0
RestTouches May page = (page.column == page.width) ≡ false → Changes May page.column (page.width - page.column) page

-- The given predicate holds for every position touched by erasing from the beginning of the cursor's row through the
-- cursor.
abbrev pub StartTouches : (ℕ → ℕ → Type 0) → Page → Type 0
StartTouches May page = Changes May 0 (min (page.column + 1) page.width) page

-- The given predicate holds for every position that a page step touches. A step that moves cells or rows touches all
-- positions; a step that only moves the cursor or changes a setting touches none.
abbrev pub PageStepTouches : (ℕ → ℕ → Type 0) → PageStep → Page → Type 0
PageStepTouches May EraseBelow page =
    RestTouches May page × TouchesRows May (page.row + 1) (length page.rows) page
PageStepTouches May EraseAbove page = StartTouches May page × TouchesRows May 0 page.row page
PageStepTouches May ErasePage page = TouchesAll May page
PageStepTouches May EraseRest page = RestTouches May page
PageStepTouches May EraseStart page = StartTouches May page
PageStepTouches May EraseRow page = Changes May 0 page.width page
PageStepTouches May (EraseChars n) page =
    ((n == 0) || (page.column == page.width)) ≡ false
    → Changes May page.column (min n (page.width - page.column)) page
PageStepTouches May (InsertChars n) page = TouchesAll May page
PageStepTouches May (DeleteChars n) page = TouchesAll May page
PageStepTouches May (InsertLines n) page = TouchesAll May page
PageStepTouches May (DeleteLines n) page = TouchesAll May page
PageStepTouches May (ScrollDown n) page = TouchesAll May page
PageStepTouches May ReverseIndex page = TouchesAll May page
PageStepTouches May step page = Unit {0}

-- The given predicate holds for every position that a step touches. A step that scrolls up, switches pages or resets
-- the screen touches every position.
abbrev pub StepTouches : (ℕ → ℕ → Type 0) → Step → ScreenValue → Type 0
StepTouches May (Print c) screen = PrintTouches May c screen.attrs screen.page
StepTouches May LineFeed screen = FeedTouches May screen.page
StepTouches May (ScrollUp n) screen = TouchesAll May screen.page
StepTouches May (OnPage step) screen = PageStepTouches May step screen.page
StepTouches May EnterAlternate screen = TouchesAll May screen.page
StepTouches May EnterFresh screen = TouchesAll May screen.page
StepTouches May LeaveAlternate screen = TouchesAll May screen.page
StepTouches May LeaveRestoring screen = TouchesAll May screen.page
StepTouches May Reset screen = TouchesAll May screen.page
StepTouches May step screen = Unit {0}

-- The given predicate holds for every position touched by a list of steps, each taken on the screen that the previous
-- steps leave.
abbrev pub StepsTouch : (ℕ → ℕ → Type 0) → List Step → ScreenValue → Type 0
StepsTouch May [] screen = Unit {0}
StepsTouch May (step ∷ steps) screen =
    StepTouches May step screen
    × ((next : ScreenValue) → quiet_step step screen ≡ Some next → StepsTouch May steps next)

abbrev pub EventsTouch : (ℕ → ℕ → Type 0) → List Event → ScreenValue → Type 0
EventsTouch May [] screen = Unit {0}
EventsTouch May (event ∷ events) screen =
    StepsTouch May (steps_of event (seen_of screen)) screen
    × ((next : ScreenValue) → quiet_steps (steps_of event (seen_of screen)) screen ≡ Some next →
    EventsTouch May events next)

-- The given predicate holds for every position touched by reading the bytes, provided that reading invokes no callbacks
-- and allocates nothing.
abbrev pub ReadTouches : (ℕ → ℕ → Type 0) → Terminal → List ℕ → Type 0
ReadTouches May t [] = Unit {0}
ReadTouches May t (b ∷ bytes) =
    EventsTouch May (step_in t.scan.kind t.scan.collected b).events t.screen
    × ((u : Terminal) → read_byte t b ≡ Some u → ReadTouches May u bytes)

-- While a terminal in ground state with the given property reads the output, it touches only positions that satisfy the
-- given predicate.
abbrev pub TouchesOnly : (ScreenValue → Type 0) → List ℕ → (ℕ → ℕ → Type 0) → Type 0
TouchesOnly Reader text May = (reader : ScreenValue) → Reader reader → ReadTouches May (terminal start reader) text

-- If the picture of the screen `new` is steady, a plain terminal that displays the screen `was` and reads the text
-- touches only the positions that `IsLocal` allows, which are near differences between the two screens.
abbrev pub TouchesNear : (was new : ScreenValue) → List ℕ → Type 0
TouchesNear was new text =
    IsSteady (display new) → TouchesOnly (IsReaderOf (display new) (display was)) text (IsLocal (display new) (display was))
