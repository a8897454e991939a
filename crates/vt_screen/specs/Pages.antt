-- The two pages of a screen (xterm, DEC private modes 47 and 1049; VT510 manual, DECSC, DECRC and RIS).
use Rattle.std.specs.Prelude.{ℕ, ◌==◌, ◌&&◌, Bool, true, false, List, [], ◌++◌, length, map}
use Rattle.std.specs.Prelude.{Option, Some, None, option_map, unwrap_or, if◌then◌else◌}
use Rattle.vt_grid.specs.Page.{Page, blank_page}
use Rattle.vt_grid.specs.Moves.{cursor_saved, cursor_restored}
use Rattle.vt_grid.specs.Resize.{out_of_view, page_resized, scrollback_resized, resize_reports}
use Rattle.vt_grid.specs.Scrollback.{Scrollback, no_scrollback}
use Rattle.vt_screen.specs.Calls.{CallValue, OnScroll}
use Rattle.vt_screen.specs.Screen.{ScreenValue, above_page, fresh_screen}

-- A blank page of the screen's size.
abbrev pub fresh_page : ScreenValue → Page
fresh_page screen = blank_page (length screen.page.rows) screen.page.width

-- The inactive page of a screen, or a blank page if the inactive page was never created.
abbrev pub page_aside : ScreenValue → Page
page_aside screen = unwrap_or screen.other (fresh_page screen)

-- The screen after the cursor, origin mode and attributes are saved (DECSC).
abbrev pub screen_after_save : ScreenValue → ScreenValue
screen_after_save screen = record screen { page = cursor_saved screen.page; saved_attrs = screen.attrs }

-- The screen after the cursor, origin mode and attributes are restored (DECRC).
abbrev pub screen_after_restore : ScreenValue → ScreenValue
screen_after_restore screen = record screen { page = cursor_restored screen.page; attrs = screen.saved_attrs }

-- The screen after a switch to its alternate page, which displays no scrollback.
abbrev pub screen_after_enter : ScreenValue → ScreenValue
screen_after_enter screen =
    if screen.is_alternate then screen
    else record screen {
      page = page_aside screen;
      other = Some screen.page;
      is_alternate = true;
      scrollback = out_of_view screen.scrollback;
    }

-- The screen after its cursor, origin mode and attributes are saved and a blank alternate page becomes active. If the
-- alternate page was already active, the state saved on that page is lost.
abbrev pub entered_fresh : ScreenValue → ScreenValue
entered_fresh screen = record (screen_after_enter (screen_after_save screen)) { page = fresh_page screen }

-- The screen after a switch to its main page.
abbrev pub left_alternate : ScreenValue → ScreenValue
left_alternate screen =
    if screen.is_alternate
    then record screen { page = page_aside screen; other = Some screen.page; is_alternate = false } else screen

-- The screen after a switch to its main page. The saved cursor and origin mode of that page and the saved attributes
-- are restored.
abbrev pub left_restored : ScreenValue → ScreenValue
left_restored screen = screen_after_restore (left_alternate screen)

-- The screen after a full reset (RIS): blank, with its size and scrollback capacity unchanged. An alternate page that
-- had been created still exists and is blank.
abbrev pub screen_after_reset : ScreenValue → ScreenValue
screen_after_reset screen = record (fresh_screen (length screen.page.rows) screen.page.width screen.scrollback.capacity) {
  other = option_map (λ _. fresh_page screen) screen.other;
}

-- ---- resizing

-- The main page of a screen.
abbrev pub main_page : ScreenValue → Page
main_page screen = if screen.is_alternate then page_aside screen else screen.page

-- The alternate page of a screen, or `None` if that page was never created.
abbrev pub alternate_page : ScreenValue → Option Page
alternate_page screen = if screen.is_alternate then Some screen.page else screen.other

-- The scrollback of the inactive page; the alternate page has no scrollback.
abbrev pub above_aside : ScreenValue → Scrollback
above_aside screen = if screen.is_alternate then screen.scrollback else no_scrollback 0

abbrev pub has_size : (rows cols : ℕ) → ScreenValue → Bool
has_size rows cols screen = (rows == length screen.page.rows) && (cols == screen.page.width)

-- The screen after a resize of both pages and of the main page's scrollback. A resize to the current size changes
-- nothing.
abbrev pub screen_after_resize : (rows cols : ℕ) → ScreenValue → ScreenValue
screen_after_resize rows cols screen =
    if has_size rows cols screen then screen
    else record screen {
      page = page_resized rows cols (above_page screen) screen.page;
      other = option_map (page_resized rows cols (above_aside screen)) screen.other;
      scrollback = scrollback_resized rows (main_page screen) screen.scrollback;
    }

abbrev pub reports_of : (alternate : Bool) (rows : ℕ) → Option Page → Scrollback → List CallValue
reports_of alternate rows (Some page) above = map (λ row. OnScroll row alternate) (resize_reports rows page above)
reports_of alternate rows None above = []

-- The calls to `on_scroll` that report the rows dropped by a resize: first those of the main page, then those of the
-- alternate page.
abbrev pub calls_resized : (rows cols : ℕ) → ScreenValue → List CallValue
calls_resized rows cols screen =
    if has_size rows cols screen then []
    else reports_of false rows (Some (main_page screen)) screen.scrollback
    ++ reports_of true rows (alternate_page screen) (no_scrollback 0)
