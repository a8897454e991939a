-- The display of a screen, and the effect of output on the terminals that read it.
use Rattle.std.specs.Prelude.{◌≡◌, ◌≢◌, ℕ, ◌<◌, Bool, true, false, List, [], ◌∷◌, length, Option, Some, chars}
use Rattle.std.specs.List.{list_any}
use Rattle.vt_cells.specs.Attrs.{default_attrs, Attrs}
use Rattle.vt_cells.specs.Cell.{text_of}
use Rattle.vt_cells.specs.Glyph.{is_selector}
use Rattle.vt_cells.specs.Op.{ClearAttrs, ChangeAttrs, bytes_of_all}
use Rattle.vt_rows.specs.Cells.{at}
use Rattle.vt_grid.specs.Page.{IsPlainPage}
use Rattle.vt_redraw.specs.Picture.{Picture, SamePictureSize, Saved, picture_over, with_picture, with_saved}
use Rattle.vt_redraw.specs.Redraw.{difference, difference_in, redraw, redraw_in}
use Rattle.vt_redraw.specs.Steady.{IsSteady}
use Rattle.vt_redraw.specs.declared.form.Form.{Form}
use Rattle.vt_redraw.specs.declared.form.Form.TheVariants.{Fixed, Portable}
use Rattle.vt_scan.specs.Automaton.{start}
use Rattle.vt_screen.specs.Reading.{terminal_after, terminal}
use Rattle.vt_screen.specs.Screen.{ScreenValue, IsScreen, above_page, canvas_of, visible_row, visible_rows, with_canvas}

-- The picture of a screen: the displayed rows, truncated or extended to the screen's width; the position and visibility
-- of the cursor; and the current attributes.
abbrev pub display : ScreenValue → Picture
display screen = picture_over (visible_rows screen) (canvas_of screen)

-- The output that redraws a screen's picture in the given form.
abbrev pub shown_text_in : Form → ScreenValue → List ℕ
shown_text_in form screen = bytes_of_all (redraw_in form (display screen))

-- The output that redraws a screen's picture, in the fixed form.
abbrev pub shown_text : ScreenValue → List ℕ
shown_text screen = bytes_of_all (redraw (display screen))

-- The output that turns the picture of the screen `was` into the picture of `new`, in the given form.
abbrev pub display_change_in : Form → (was new : ScreenValue) → List ℕ
display_change_in form was new = bytes_of_all (difference_in form (display new) (display was))

-- The output that turns the picture of the screen `was` into the picture of `new`.
abbrev pub display_change : (was new : ScreenValue) → List ℕ
display_change was new = bytes_of_all (difference (display new) (display was))

-- The form of output, given whether it must be portable.
abbrev pub form_of : (portable : Bool) → Form
form_of true = Portable
form_of false = Fixed

-- No scrollback is displayed, so the displayed rows are the rows of the active page.
abbrev pub ShowsOwnPage : ScreenValue → Type 0
ShowsOwnPage screen = (above_page screen).offset ≡ 0

-- Scrollback is displayed.
abbrev pub ShowsScrollback : ScreenValue → Type 0
ShowsScrollback screen = (above_page screen).offset ≢ 0

-- No displayed cell within the screen's width contains U+FE0F.
abbrev pub ShowsNoSelector : ScreenValue → Type 0
ShowsNoSelector screen = (r col : ℕ) → r < length screen.page.rows → col < screen.page.width
    → list_any is_selector (chars (text_of (at (visible_row screen r).cells col))) ≡ false

-- The scroll region is the whole page, origin mode is off, and no scrollback is displayed.
pub record IsPlain (screen : ScreenValue) : Type 0 where
  pub page : IsPlainPage screen.page
  pub offset : (above_page screen).offset ≡ 0

-- The terminal `reader` with the given picture as its display, and with the given saved state and last printed
-- character. All other parts are unchanged.
abbrev pub reader_with_display : Picture → Saved → Option ℕ → ScreenValue → ScreenValue
reader_with_display picture saved last reader =
    record (with_canvas (with_saved saved (with_picture picture (canvas_of reader))) reader) { last = last }

-- The two screens display the same content, and neither displays scrollback.
pub record ShowSamePage (screen other : ScreenValue) : Type 0 where
  pub sound : IsScreen screen
  pub other_sound : IsScreen other
  pub own : ShowsOwnPage screen
  pub other_own : ShowsOwnPage other
  pub same : display screen ≡ display other

-- ---- the terminals that read output

-- The terminal is plain and has the picture's size.
pub record IsReader (picture : Picture) (reader : ScreenValue) : Type 0 where
  pub sound : IsScreen reader
  pub plain : IsPlain reader
  pub size : SamePictureSize picture (display reader)

-- The terminal is plain and displays the picture `prev`, which has the size of `picture`.
pub record IsReaderOf (picture prev : Picture) (reader : ScreenValue) : Type 0 where
  pub is : IsReader picture reader
  pub shows : display reader ≡ prev

-- The terminal is plain, displays the rows of the picture and has default attributes.
pub record IsReaderOfRows (picture : Picture) (reader : ScreenValue) : Type 0 where
  pub is : IsReader picture reader
  pub shows : (display reader).rows ≡ picture.rows
  pub attrs : reader.attrs ≡ default_attrs

-- ---- the effect of output on terminals

-- A terminal in ground state that reads the output invokes no callbacks, allocates nothing and scrolls no rows off the
-- page. Afterward, the terminal is in ground state again and has the screen `after`.
abbrev pub ReadsTo : List ℕ → (reader after : ScreenValue) → Type 0
ReadsTo text reader after = terminal_after (terminal start reader) text ≡ Some (terminal start after)

-- Every terminal with the given property reads all of the output without invoking callbacks, allocating, or scrolling
-- rows off the page.
abbrev pub IsReadBy : (ScreenValue → Type 0) → List ℕ → Type 0
IsReadBy Reader text = (reader : ScreenValue) → Reader reader → (after : ScreenValue) × ReadsTo text reader after

-- If a terminal with the given property reads the output as `ReadsTo` describes, the given relation holds between its
-- screens before and after.
abbrev pub Makes : (ScreenValue → Type 0) → List ℕ → ((reader after : ScreenValue) → Type 0) → Type 0
Makes Reader text Made = (reader after : ScreenValue) → Reader reader → ReadsTo text reader after → Made reader after

-- The terminal is plain and displays the picture.
abbrev pub ShowsPlainly : Picture → (reader after : ScreenValue) → Type 0
ShowsPlainly picture reader after = IsPlain after × (display after ≡ picture)

-- The rows of the terminal's page are those of the picture.
abbrev pub HasRows : Picture → (reader after : ScreenValue) → Type 0
HasRows picture reader after = after.page.rows ≡ picture.rows

-- The terminal has the picture's cursor position, cursor visibility and attributes.
pub record HasCursor (picture : Picture) (reader after : ScreenValue) : Type 0 where
  pub row : after.page.row ≡ picture.row
  pub column : after.page.column ≡ picture.column
  pub attrs : after.attrs ≡ picture.attrs
  pub hidden : after.hidden ≡ picture.hidden

-- Scrollback and its offset, the inactive page and the scroll region are unchanged. Only the display, the modes, the
-- saved state and the last printed character may have changed.
pub record KeepsRestButModes (reader after : ScreenValue) : Type 0 where
  pub other : after.other ≡ reader.other
  pub is_alternate : after.is_alternate ≡ reader.is_alternate
  pub scrollback : after.scrollback ≡ reader.scrollback
  pub width : after.page.width ≡ reader.page.width
  pub top : after.page.top ≡ reader.page.top
  pub bottom : after.page.bottom ≡ reader.page.bottom
  pub origin : after.page.origin ≡ reader.page.origin

-- Scrollback and its offset, the inactive page, the scroll region and the modes are unchanged. Only the display, the
-- saved state and the last printed character may have changed.
pub record KeepsRest (reader after : ScreenValue) : Type 0 where
  pub but_modes : KeepsRestButModes reader after
  pub modes : after.modes ≡ reader.modes

-- If the picture is steady, the output redraws it on every terminal with the property `Reader`. `Kept` states what the
-- output leaves unchanged.
pub record Redraws (picture : Picture) (Reader : ScreenValue → Type 0)
    (Kept : (reader after : ScreenValue) → Type 0) (text : List ℕ) : Type 0 where
  pub quiet : IsSteady picture → IsReadBy Reader text
  pub shows : IsSteady picture → Makes Reader text (ShowsPlainly picture)
  pub rows : IsSteady picture → Makes Reader text (HasRows picture)
  pub cursor : IsSteady picture → Makes Reader text (HasCursor picture)
  pub rest : IsSteady picture → Makes Reader text Kept

-- If the picture of `new` is steady, the output redraws it on every plain terminal that displays the picture of `was`.
abbrev pub RedrawsFrom : (was new : ScreenValue) → List ℕ → Type 0
RedrawsFrom was new text = Redraws (display new) (IsReaderOf (display new) (display was)) KeepsRest text

-- If the text is empty and the picture of the screen `new` is steady, both screens display the same picture.
abbrev pub IsSameIfEmpty : (was new : ScreenValue) → List ℕ → Type 0
IsSameIfEmpty was new text = IsSteady (display new) → text ≡ [] → display new ≡ display was

-- The terminal adopts the picture's cursor position and cursor visibility. The terminal's rows and attributes are
-- unchanged.
pub record TakesCursor (picture : Picture) (reader after : ScreenValue) : Type 0 where
  pub rows : after.page.rows ≡ reader.page.rows
  pub attrs : after.attrs ≡ reader.attrs
  pub row : after.page.row ≡ picture.row
  pub column : after.page.column ≡ picture.column
  pub hidden : after.hidden ≡ picture.hidden

-- The terminal is plain after it has read the output.
abbrev pub StaysPlain : (reader after : ScreenValue) → Type 0
StaysPlain reader after = IsPlain after

-- Every terminal with the property `Reader` reads the output without invoking callbacks, allocating, or scrolling rows
-- off the page, and is plain afterward. The relation `Made` holds between the screens before and after. Scrollback and
-- its offset, the inactive page, the scroll region and the modes are unchanged.
pub record Turns (Reader : ScreenValue → Type 0) (text : List ℕ)
    (Made : (reader after : ScreenValue) → Type 0) : Type 0 where
  pub quiet : IsReadBy Reader text
  pub made : Makes Reader text Made
  pub plain : Makes Reader text StaysPlain
  pub rest : Makes Reader text KeepsRest

-- The output that resets the attributes (SGR without parameters) and then sets the given ones.
abbrev pub attributes_text : Attrs → List ℕ
attributes_text attrs = bytes_of_all (ClearAttrs ∷ ChangeAttrs default_attrs attrs ∷ [])

-- The output sets the given attributes on every terminal in ground state and changes nothing else.
abbrev pub SetsAttrs : Attrs → List ℕ → Type 0
SetsAttrs attrs text = (reader : ScreenValue) → ReadsTo text reader (record reader { attrs = attrs })
