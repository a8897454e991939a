-- A screen: its active and inactive pages, scrollback, attributes and modes.
use Rattle.std.specs.Prelude.{◌≡◌, ◌≢◌, ℕ, Bool, true, false, List, length, All}
use Rattle.std.specs.Prelude.{Option, None, IfSome, IsSome, if◌then◌else◌}
use Rattle.std.specs.Char.{IsScalar}
use Rattle.vt_cells.specs.Attrs.{default_attrs, Attrs}
use Rattle.vt_cells.specs.Cell.{CellValue, attrs_of}
use Rattle.vt_cells.specs.Op.{FitsAttrs}
use Rattle.vt_cells.specs.declared.modes.MouseProtocolMode.TheVariants as mouse
use Rattle.vt_cells.specs.declared.modes.MouseProtocolEncoding.TheVariants as encoding
use Rattle.vt_cells.specs.declared.modes.CursorStyle.TheVariants as style
use Rattle.vt_rows.specs.Row.{RowValue}
use Rattle.vt_grid.specs.Page.{Page, IsPage, blank_page, row_or}
use Rattle.vt_grid.specs.Page.{SameSize}
use Rattle.vt_grid.specs.Canvas.{Canvas}
use Rattle.vt_grid.specs.Scrollback.{Scrollback, IsScrollback, no_scrollback, with_view, visible}
pub use Rattle.vt_screen.specs.declared.modes.Modes.{Modes}

pub record ScreenValue : Type 0 where
  -- The active page and the inactive page. The inactive page is `None` until the alternate page is created. Scrollback
  -- belongs to the main page.
  pub page : Page
  pub other : Option Page
  pub is_alternate : Bool
  pub scrollback : Scrollback
  pub attrs : Attrs
  pub saved_attrs : Attrs
  pub hidden : Bool
  pub modes : Modes
  -- The last printed character that occupied at least one column; REP repeats this character.
  pub last : Option ℕ

abbrev pub no_modes : Modes
no_modes = record {
  application_keypad = false;
  application_cursor = false;
  bracketed_paste = false;
  mouse_mode = mouse.None;
  mouse_encoding = encoding.Default;
  cursor_style = style.Default;
}

-- A blank screen of the given size and scrollback capacity.
abbrev pub fresh_screen : (rows cols capacity : ℕ) → ScreenValue
fresh_screen rows cols capacity = record {
  page = blank_page rows cols;
  other = None;
  is_alternate = false;
  scrollback = no_scrollback capacity;
  attrs = default_attrs;
  saved_attrs = default_attrs;
  hidden = false;
  modes = no_modes;
  last = None;
}

-- The screen without its inactive page and scrollback: the active page becomes the main page of a screen whose
-- scrollback keeps no rows. All other parts are unchanged.
abbrev pub page_alone : ScreenValue → ScreenValue
page_alone screen = record screen { other = None; is_alternate = false; scrollback = no_scrollback 0 }

abbrev pub with_page : Page → ScreenValue → ScreenValue
with_page page screen = record screen { page = page }

-- The parts of a screen that a redraw changes: the active page, the current and saved attributes, and the cursor's
-- visibility.
abbrev pub canvas_of : ScreenValue → Canvas
canvas_of screen =
    record { page = screen.page; attrs = screen.attrs; saved_attrs = screen.saved_attrs; hidden = screen.hidden }

abbrev pub with_canvas : Canvas → ScreenValue → ScreenValue
with_canvas canvas screen =
    record screen { page = canvas.page; attrs = canvas.attrs; saved_attrs = canvas.saved_attrs; hidden = canvas.hidden }

-- The scrollback of the active page; the alternate page has no scrollback.
abbrev pub above_page : ScreenValue → Scrollback
above_page screen = if screen.is_alternate then no_scrollback 0 else screen.scrollback

-- The displayed rows of a screen.
abbrev pub visible_rows : ScreenValue → List RowValue
visible_rows screen = visible (above_page screen) screen.page.rows

-- The displayed row at an index, or a blank row if the index is past the end.
abbrev pub visible_row : ScreenValue → ℕ → RowValue
visible_row screen r = row_or screen.page.width (visible_rows screen) r

-- The screen after its scrollback offset is set to the given number, clamped to the number of scrollback rows. Rows of
-- scrollback that are then displayed are extended to the screen's width. The screen is unchanged while its alternate
-- page is active, because that page has no scrollback.
abbrev pub scrolled_back : ℕ → ScreenValue → ScreenValue
scrolled_back n screen =
    if screen.is_alternate then screen
    else record screen { scrollback = with_view (length screen.page.rows) screen.page.width n screen.scrollback }

-- The character can be printed: it is a Unicode scalar value other than U+FFFD. (U+FFFD is reported instead.)
abbrev pub IsPrintable : ℕ → Type 0
IsPrintable c = IsScalar c × (c ≢ 0xFFFD)

-- The invariant of every screen: valid pages of the same size, valid scrollback, and a valid last printed character.
pub record IsScreen (screen : ScreenValue) : Type 0 where
  pub page : IsPage screen.page
  pub other : IfSome screen.other (λ page. IsPage page × SameSize page screen.page)
  pub entered : screen.is_alternate ≡ true → IsSome screen.other
  pub scrollback : IsScrollback screen.scrollback
  pub last : IfSome screen.last IsPrintable

-- The palette indices and RGB components of the cell's colors are at most 255.
abbrev pub IsColoredCell : CellValue → Type 0
IsColoredCell cell = FitsAttrs (attrs_of cell)

abbrev pub IsColoredRow : RowValue → Type 0
IsColoredRow row = All IsColoredCell row.cells

abbrev pub AreColored : List RowValue → Type 0
AreColored rows = All IsColoredRow rows

-- Palette indices and RGB components are at most 255 in the cells of the active page and of scrollback, and in the
-- current attributes. Every screen has this property.
pub record IsColored (screen : ScreenValue) : Type 0 where
  pub rows : AreColored screen.page.rows
  pub above : AreColored screen.scrollback.rows
  pub attrs : FitsAttrs screen.attrs
