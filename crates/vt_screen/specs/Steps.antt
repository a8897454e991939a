-- The elementary steps that events consist of, and the screen after each step.
use Rattle.std.specs.Prelude.{◌≡◌, ℕ, ◌&&◌, nat_lt, nat_le, Bool, false, List}
use Rattle.std.specs.Prelude.{[], length, Option, Some, None, if◌then◌else◌}
use Rattle.vt_cells.specs.Glyph.{columns_of}
use Rattle.vt_grid.specs.Page.{scrolled_up}
use Rattle.vt_grid.specs.Moves.{line_feed}
use Rattle.vt_grid.specs.PageStep.{page_after}
use Rattle.vt_grid.specs.declared.page_step.PageStep.{PageStep}
use Rattle.vt_grid.specs.Printing.{page_after_print}
use Rattle.vt_grid.specs.Outgoing.{printed_out, fed_out, scrolled_out}
use Rattle.vt_grid.specs.Scrollback.{TakesMemory, scrollback_after_push, rows_reported, scrollback_after_clear}
use Rattle.vt_rows.specs.Row.{RowValue}
use Rattle.vt_screen.specs.Calls.{CallValue}
use Rattle.vt_screen.specs.ModeStep.{modes_after}
use Rattle.vt_screen.specs.declared.mode_step.ModeStep.{ModeStep}
use Rattle.vt_screen.specs.Sgr.{attrs_after_setting}
use Rattle.vt_screen.specs.Pages.{screen_after_save, screen_after_restore, screen_after_enter, entered_fresh, left_alternate, left_restored, screen_after_reset}
use Rattle.vt_screen.specs.Screen.{ScreenValue, with_page, above_page}
use Rattle.vt_screen.specs.declared.sgr.Setting.{Setting}

pub data Step : Type 0 where
  Print : (c : ℕ) → Step
  LineFeed : Step
  ScrollUp : (count : ℕ) → Step
  -- A page step, which changes only the active page.
  OnPage : PageStep → Step
  SaveCursor : Step
  RestoreCursor : Step
  -- `EnterAlternate` and `EnterFresh` switch to the alternate page; `EnterFresh` also saves the cursor, origin mode and
  -- attributes, and makes that page blank. `LeaveAlternate` and `LeaveRestoring` switch to the main page;
  -- `LeaveRestoring` also restores the saved state.
  EnterAlternate : Step
  EnterFresh : Step
  LeaveAlternate : Step
  LeaveRestoring : Step
  -- Resets the screen (RIS).
  Reset : Step
  EraseScrollback : Step
  Render : Setting → Step
  HideCursor : (hidden : Bool) → Step
  SetMode : ModeStep → Step
  -- Invokes a callback.
  CallBack : CallValue → Step

-- ---- the screen after a step, except for its scrollback; `screen_after` includes the scrollback

-- Whether a printed character that occupies the given number of columns becomes the last printed character, that is,
-- whether it occupies at least one column and is not wider than the page.
abbrev pub becomes_last : ScreenValue → Option ℕ → Bool
becomes_last screen None = false
becomes_last screen (Some columns) = nat_lt 0 columns && nat_le columns screen.page.width

abbrev pub last_after : ℕ → ScreenValue → Option ℕ
last_after c screen = if becomes_last screen (columns_of c) then Some c else screen.last

-- The screen after a step, except that rows that scroll off are not added to scrollback and `EraseScrollback` has no
-- effect.
abbrev pub display_after : Step → ScreenValue → ScreenValue
display_after (Print c) screen = record screen { page = page_after_print c screen.attrs screen.page; last = last_after c screen }
display_after LineFeed screen = with_page (line_feed screen.page) screen
display_after (ScrollUp count) screen = with_page (scrolled_up count screen.page) screen
display_after (OnPage step) screen = with_page (page_after screen.attrs step screen.page) screen
display_after SaveCursor screen = screen_after_save screen
display_after RestoreCursor screen = screen_after_restore screen
display_after EnterAlternate screen = screen_after_enter screen
display_after EnterFresh screen = entered_fresh screen
display_after LeaveAlternate screen = left_alternate screen
display_after LeaveRestoring screen = left_restored screen
display_after Reset screen = screen_after_reset screen
display_after EraseScrollback screen = screen
display_after (Render setting) screen = record screen { attrs = attrs_after_setting setting screen.attrs }
display_after (HideCursor hidden) screen = record screen { hidden = hidden }
display_after (SetMode step) screen = record screen { modes = modes_after step screen.modes }
display_after (CallBack call) screen = screen

-- ---- the rows that a step scrolls off the page

-- The rows that a step scrolls off the top of the active page.
abbrev pub rows_scrolled_off : Step → ScreenValue → List RowValue
rows_scrolled_off (Print c) screen = printed_out c screen.attrs screen.page
rows_scrolled_off LineFeed screen = fed_out screen.page
rows_scrolled_off (ScrollUp count) screen = scrolled_out count screen.page
rows_scrolled_off _ screen = []

-- The screen after a step that may scroll rows off the main page into scrollback.
abbrev pub screen_after_scrolling_step : Step → ScreenValue → ScreenValue
screen_after_scrolling_step step screen =
    if screen.is_alternate then display_after step screen
    else record (display_after step screen)
    { scrollback = scrollback_after_push (length screen.page.rows) screen.page.width (rows_scrolled_off step screen) screen.scrollback }

-- The screen after a step, including its scrollback.
abbrev pub screen_after : Step → ScreenValue → ScreenValue
screen_after (Print c) screen = screen_after_scrolling_step (Print c) screen
screen_after LineFeed screen = screen_after_scrolling_step LineFeed screen
screen_after (ScrollUp count) screen = screen_after_scrolling_step (ScrollUp count) screen
screen_after EraseScrollback screen =
    if screen.is_alternate then screen else record screen { scrollback = scrollback_after_clear screen.scrollback }
screen_after step screen = display_after step screen

-- The rows that a step reports because they aren't kept, oldest first.
abbrev pub reports : Step → ScreenValue → List RowValue
reports EraseScrollback screen = (above_page screen).rows
reports step screen = rows_reported (rows_scrolled_off step screen) (above_page screen)

-- The step may allocate: it moves rows into scrollback and cannot reuse the memory of the oldest scrollback row, or
-- switches to an alternate page that doesn't exist yet.
abbrev pub Grows : Step → ScreenValue → Type 0
Grows EnterAlternate screen = screen.other ≡ None
Grows EnterFresh screen = screen.other ≡ None
Grows step screen = TakesMemory (rows_scrolled_off step screen) (above_page screen)
