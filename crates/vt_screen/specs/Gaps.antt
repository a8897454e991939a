-- What is known about a terminal while it reads output, and gaps: columns whose glyphs are printed instead of being
-- skipped with CUF.
use Rattle.std.specs.Prelude.{◌≡◌, ◌⊎◌, ℕ, zero, suc, ◌+◌, ◌<◌, ◌≤◌, Bool, true, false, List, [], ◌∷◌, ◌++◌, length}
use Rattle.std.specs.Prelude.{Option, Some, IfSome}
use Rattle.vt_cells.specs.Attrs.{default_attrs, same_attrs}
use Rattle.vt_cells.specs.Cell.{CellValue, glyph, text_of}
use Rattle.vt_cells.specs.Glyph.{columns_of}
use Rattle.vt_cells.specs.declared.pos.Pos.{Pos}
use Rattle.vt_grid.specs.Page.{IsPage, Page, cell_at}
use Rattle.vt_redraw.specs.Certain.{is_certain}
use Rattle.vt_redraw.specs.Doubts.{Doubts}
use Rattle.vt_redraw.specs.Locality.{row_of_picture}
use Rattle.vt_redraw.specs.Picture.{Picture}
use Rattle.vt_redraw.specs.declared.form.Form.{Form}
use Rattle.vt_redraw.specs.declared.form.Form.TheVariants.{Portable}
use Rattle.vt_rows.specs.Cells.{at}
use Rattle.vt_scan.specs.Automaton.{start}
use Rattle.vt_screen.specs.Again.{KeepsPlain}
use Rattle.vt_screen.specs.MadeOf.{IsMadeOf, shortened_controls, shortened_finals}
use Rattle.vt_screen.specs.Portable.{ReadsAgreed}
use Rattle.vt_screen.specs.Reading.{Terminal, terminal, terminal_after}
use Rattle.vt_screen.specs.Screen.{ScreenValue}
use Rattle.vt_screen.specs.ShortMoves.{IsAfter, IsAgreed, IsAsciiCharacter, IsAsPortable, IsAt, IsPlainSized, known_cursor}
use Rattle.vt_screen.specs.Shown.{display}
use Rattle.vt_screen.specs.declared.short_moves.elements.Element.{Element}
use Rattle.vt_screen.specs.declared.short_moves.elements.Element.TheVariants as element
use Rattle.vt_screen.specs.declared.short_moves.gaps.Gap.{Gap}
use Rattle.vt_screen.specs.declared.short_moves.known.Known.{Known}

-- ---- what is known about the terminal

-- In reading order, the given row and column come at or after the position.
abbrev pub IsFrom : Pos → ℕ → ℕ → Type 0
IsFrom pos r c = (pos.row ≤ r) × (pos.row ≡ r → pos.col ≤ c)

-- In reading order, the position `pos` comes at or after both `a` and `b`.
abbrev pub IsLater : (a b pos : Pos) → Type 0
IsLater a b pos = (r c : ℕ) → IsFrom pos r c → IsFrom a r c × IsFrom b r c

abbrev pub is_narrow_glyph : CellValue → Bool
is_narrow_glyph (glyph text false attrs) = true
is_narrow_glyph _ = false

-- At every row and column at or after the position in reading order, if the given function returns a narrow glyph, the
-- page has that glyph there.
abbrev pub HasGlyphs : (ℕ → ℕ → CellValue) → Pos → Page → Type 0
HasGlyphs cells pos page =
    (r c : ℕ) → IsFrom pos r c → is_narrow_glyph (cells r c) ≡ true → cell_at page r c ≡ cells r c

-- The cell of a picture at a row and column.
abbrev pub picture_cell : Picture → ℕ → ℕ → CellValue
picture_cell picture r c = at (row_of_picture picture r).cells c

-- At every row and column at or after the position `pos` in reading order, if `cells` returns a narrow glyph, the
-- terminal displays that glyph there. If `is_default` is true, the terminal has default attributes.
pub record StillShows (cells : ℕ → ℕ → CellValue) (is_default : Bool) (pos : Pos) (screen : ScreenValue) : Type 0 where
  pub page : IsPage screen.page
  pub glyphs : HasGlyphs cells pos screen.page
  pub attrs : is_default ≡ true → screen.attrs ≡ default_attrs

-- The terminal is plain, has the given size, and is as `known` describes. `cells` maps a row and column to the cell
-- that was displayed there before the terminal read the output.
pub record Tracks (height width : ℕ) (cells : ℕ → ℕ → CellValue) (known : Known) (screen : ScreenValue) : Type 0 where
  pub sized : IsPlainSized height width screen
  pub at : IsAt known.at screen
  pub kept : IfSome known.kept (λ pos. StillShows cells known.is_default pos screen)

-- On every terminal that is as `known` describes, the output `text` has the same effect as the output `old`, after
-- which the terminal is as `new` describes. Every other plain terminal stays plain. `text` is not longer than `old`. In
-- the portable form, `text` is portable if `old` is.
pub record ReplacesTracked (height width : ℕ) (cells : ℕ → ℕ → CellValue) (known new : Known)
    (old text : List ℕ) : Type 0 where
  pub same : (screen : ScreenValue) → Tracks height width cells known screen →
      terminal_after (terminal start screen) text ≡ terminal_after (terminal start screen) old
  pub ends : (screen : ScreenValue) (t : Terminal) → Tracks height width cells known screen →
      terminal_after (terminal start screen) old ≡ Some t → (t.scan ≡ start) × Tracks height width cells new t.screen
  pub keeps : KeepsPlain text
  pub made : IsMadeOf shortened_finals shortened_controls text
  pub shorter : length text ≤ length old
  pub form : new.form ≡ known.form
  pub portable : known.form ≡ Portable → (screen : ScreenValue) (doubts : Doubts) (t : Terminal) →
      Tracks height width cells known screen → IsAgreed known.at doubts →
      terminal_after (terminal start screen) old ≡ Some t → ReadsAgreed old doubts screen →
      IsAsPortable new.at old text doubts screen

-- The output `text` replaces the output `old` as `ReplacesTracked` describes, for some description `new` of the
-- terminal afterward.
pub record ReplacesWhole (height width : ℕ) (cells : ℕ → ℕ → CellValue) (known : Known)
    (old text : List ℕ) : Type 0 where
  pub new : Known
  pub stands : ReplacesTracked height width cells known new old text

-- The string `after` is `before` followed by output that replaces `old`, as `ReplacesTracked` describes.
pub record AppendsInstead (height width : ℕ) (cells : ℕ → ℕ → CellValue) (known new : Known)
    (old before after : List ℕ) : Type 0 where
  pub text : List ℕ
  pub appends : after ≡ before ++ text
  pub stands : ReplacesTracked height width cells known new old text

-- The string `after` is `before` followed by output that replaces the part of the output `old` before `rest`, as
-- `ReplacesTracked` describes.
pub record AppendsUpTo (height width : ℕ) (cells : ℕ → ℕ → CellValue) (known new : Known)
    (old rest before after : List ℕ) : Type 0 where
  pub done : List ℕ
  pub parts : old ≡ done ++ rest
  pub stands : AppendsInstead height width cells known new done before after

-- ---- scrolling diffs

-- What is known, before output in the given form is read, about a terminal that displays the picture of the given
-- screen.
abbrev pub known_at_start : Form → ScreenValue → Known
known_at_start form screen = record {
  form = form;
  at = known_cursor screen;
  kept = Some (record { row = 0; col = 0 });
  is_default = same_attrs screen.attrs default_attrs;
}

-- Either `text` equals `old`, or `text` is not empty and can replace `old`, which has the given form, on terminals that
-- display the picture of the screen `prev`.
abbrev pub IsShortVersion : Form → (prev : ScreenValue) (old text : List ℕ) → Type 0
IsShortVersion form prev old text =
    (text ≡ old)
    ⊎ ((0 < length text) × ReplacesWhole (length (display prev).rows) (display prev).width
    (picture_cell (display prev)) (known_at_start form prev) old text)

-- ---- elements that are copied unchanged

-- If the element prints characters, then `known` is a position, and printing the element, whose bytes are given, moves
-- the cursor from there to `to` in the same row of `cols` columns. Any other element leaves the cursor at `known`, which
-- is `to`. False for elements that only move the cursor.
abbrev pub IsPrinted : (cols : ℕ) → Element → (known : Option Pos) → (bytes : List ℕ) → (to : Pos) → Type 0
IsPrinted cols element.Ascii known bytes to = (from : Pos) × (known ≡ Some from) × IsAfter cols from (length bytes) to
IsPrinted cols (element.Other c) known bytes to =
    (from : Pos) × (known ≡ Some from) × ((n : ℕ) × (columns_of c ≡ Some n) × (0 < n) × IsAfter cols from n to)
IsPrinted cols (element.Place pos) known bytes to = ⊥
IsPrinted cols (element.Right n) known bytes to = ⊥
IsPrinted cols element.NextRow known bytes to = ⊥
IsPrinted cols _ known bytes to = known ≡ Some to

-- If the element is a character that is not ASCII, terminals agree on its width.
abbrev pub IsCertainElement : Element → Type 0
IsCertainElement (element.Other c) = is_certain c ≡ true
IsCertainElement _ = Unit {0}

-- `IsKeptFrom known changed pos` states that `known.kept` is not `None` and that, in reading order, `pos` comes at or
-- after both `known.kept` and `changed`.
abbrev pub IsKeptFrom : Known → Pos → Pos → Type 0
IsKeptFrom known changed pos = (kept : Pos) × (known.kept ≡ Some kept) × IsLater kept changed pos

-- After a terminal that is as `known` describes has read the element, which leaves the cursor at `to`, it still
-- displays its earlier narrow glyphs at and after the position `pos` in reading order. False for elements that move the
-- cursor without printing and for elements that insert or delete.
abbrev pub IsKeptAfter : Known → Element → (to : Option Pos) → (pos : Pos) → Type 0
IsKeptAfter known element.Ascii to pos = (last : Pos) × (to ≡ Some last) × IsKeptFrom known last pos
IsKeptAfter known (element.Other c) to pos = (last : Pos) × (to ≡ Some last) × IsKeptFrom known last pos
IsKeptAfter known (element.EraseChars n) to pos =
    (from : Pos) × (known.at ≡ Some from) × IsKeptFrom known (record { row = from.row; col = from.col + n }) pos
IsKeptAfter known element.EraseRest to pos =
    (from : Pos) × (known.at ≡ Some from) × IsKeptFrom known (record { row = from.row + 1; col = 0 }) pos
IsKeptAfter known (element.Hide hidden) to pos = known.kept ≡ Some pos
IsKeptAfter known element.ClearAttrs to pos = known.kept ≡ Some pos
IsKeptAfter known element.Attrs to pos = known.kept ≡ Some pos
IsKeptAfter known _ to pos = ⊥

-- After the element, the attributes are known to be the defaults; `known` indicates whether this was known before the
-- element.
abbrev pub IsDefaultAfter : (known : Bool) → Element → Type 0
IsDefaultAfter known element.ClearAttrs = Unit {0}
IsDefaultAfter known element.Attrs = ⊥
IsDefaultAfter known _ = known ≡ true

-- ---- gaps

-- The cell is a narrow glyph of one printable ASCII character with default attributes.
abbrev pub IsByteGlyph : CellValue → Type 0
IsByteGlyph cell = (b : ℕ) × IsAsciiCharacter b × (cell ≡ glyph (b ∷ []) false default_attrs)

-- Each of the `n` columns from column `c` on has a glyph of one printable ASCII character with default attributes.
abbrev pub IsGap : List CellValue → (c n : ℕ) → Type 0
IsGap cells c zero = Unit {0}
IsGap cells c (suc n) = IsByteGlyph (at cells c) × IsGap cells (c + 1) n

-- The text of the `n` columns from column `c` on.
abbrev pub gap_text : List CellValue → (c n : ℕ) → List ℕ
gap_text cells c zero = []
gap_text cells c (suc n) = text_of (at cells c) ++ gap_text cells (c + 1) n

-- The gap begins at the cursor and has one to three columns, whose glyphs the terminal still displays. The terminal has
-- default attributes.
pub record IsShownGap (picture : Picture) (known : Known) (gap : Gap) : Type 0 where
  pub at : known.at ≡ Some gap.from
  pub kept : (pos : Pos) × (known.kept ≡ Some pos) × IsFrom pos gap.from.row gap.from.col
  pub plain : known.is_default ≡ true
  pub some : 0 < gap.count
  pub few : gap.count ≤ 3
  pub low : gap.from.row < length picture.rows
  pub inside : gap.from.col + gap.count < picture.width
  pub narrow : picture.width < 65536
  pub glyphs : IsGap (row_of_picture picture gap.from.row).cells gap.from.col gap.count

-- The element `over` is the CUF that moves the cursor over the gap, which is displayed as `IsShownGap` describes.
pub record IsGapOver (picture : Picture) (known : Known) (over : Element) (gap : Gap) : Type 0 where
  pub shown : IsShownGap picture known gap
  pub right : over ≡ element.Right gap.count

-- The text is one printable ASCII character.
abbrev pub IsLetter : List ℕ → Type 0
IsLetter text = (b : ℕ) × IsAsciiCharacter b × (text ≡ b ∷ [])
