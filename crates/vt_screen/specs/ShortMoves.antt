-- Output whose cursor movements are replaced by shorter ones.
use Rattle.std.specs.Prelude.{◌≡◌, ◌≢◌, ◌⊎◌, nat_lt, ℕ, zero, suc, ◌+◌, ◌-◌, ◌*◌, ◌/◌, ◌<◌, ◌≤◌, Bool, true, false, min, if◌then◌else◌}
use Rattle.std.specs.Prelude.{List, [], ◌∷◌, ◌++◌, length, replicate, decimal, encode_utf8, Option, Some, None}
use Rattle.std.specs.List.{AllByRecursion}
use Rattle.vt_redraw.specs.Doubts.{Doubts, IsPlaced, no_doubts}
use Rattle.vt_redraw.specs.Fits.{IsDrawn}
use Rattle.vt_redraw.specs.Picture.{Picture}
use Rattle.vt_redraw.specs.Redraw.{redraw_in}
use Rattle.vt_redraw.specs.Shifted.{IsMoving}
use Rattle.vt_redraw.specs.declared.form.Form.{Form}
use Rattle.vt_redraw.specs.declared.form.Form.TheVariants.{Fixed, Portable}
use Rattle.vt_cells.specs.Op.{MoveTo, MoveRight, NextRow, EraseRest, EraseChars, Hide, bytes_of, bytes_of_all, counted, csi, semicolon_list}
use Rattle.vt_cells.specs.declared.pos.Pos.{Pos}
use Rattle.vt_scan.specs.Automaton.{start}
use Rattle.vt_screen.specs.Again.{KeepsPlain}
use Rattle.vt_screen.specs.MadeOf.{IsMadeOf, shortened_controls, shortened_finals}
use Rattle.vt_screen.specs.Portable.{ReadsAgreed, doubts_after_output}
use Rattle.vt_screen.specs.Reading.{Terminal, terminal, terminal_after}
use Rattle.vt_screen.specs.Screen.{ScreenValue}
use Rattle.vt_screen.specs.Sgr.{group_read}
use Rattle.vt_screen.specs.Shown.{IsPlain, IsReaderOf, ReadsTo}
use Rattle.vt_screen.specs.declared.sgr.Reading.TheVariants.{Unhandled}
use Rattle.vt_screen.specs.declared.sgr.Wanted.{Wanted}
use Rattle.vt_screen.specs.declared.sgr.Wanted.TheVariants.{Any}
use Rattle.vt_screen.specs.declared.short_moves.elements.Element.{Element}
use Rattle.vt_screen.specs.declared.short_moves.elements.Element.TheVariants as element
use Rattle.vt_screen.specs.declared.short_moves.route.Route.{Route}
use Rattle.vt_screen.specs.declared.short_moves.route.Last.{Last}
use Rattle.vt_screen.specs.declared.short_moves.route.Last.TheVariants as last

-- ---- what is known about the terminal that reads the output

-- The terminal is plain and has the given size.
pub record IsPlainSized (rows cols : ℕ) (screen : ScreenValue) : Type 0 where
  pub plain : IsPlain screen
  pub height : length screen.page.rows ≡ rows
  pub width : screen.page.width ≡ cols

-- The cursor is at the given position, and no wrap is pending.
pub record IsAtPos (pos : Pos) (screen : ScreenValue) : Type 0 where
  pub row : screen.page.row ≡ pos.row
  pub column : screen.page.column ≡ pos.col
  pub inside : pos.col < screen.page.width

-- The cursor is at the given position, and no wrap is pending; `None` imposes no condition.
abbrev pub IsAt : Option Pos → ScreenValue → Type 0
IsAt None screen = Unit {0}
IsAt (Some pos) screen = IsAtPos pos screen

-- The terminal is plain, is in ground state, and has the given size. If the position `known` is not `None`, the cursor
-- is at that position.
pub record EndsAt (height width : ℕ) (known : Option Pos) (t : Terminal) : Type 0 where
  pub ground : t.scan ≡ start
  pub sized : IsPlainSized height width t.screen
  pub at : IsAt known t.screen

-- On every plain terminal of the given size with the cursor at `known`, the output `text` has the same effect as the
-- output `old`, which leaves the cursor at `new`; a position that is `None` imposes no condition. Every other plain
-- terminal stays plain. `text` is not longer than `old`.
pub record Replaces (height width : ℕ) (known new : Option Pos) (old text : List ℕ) : Type 0 where
  pub same : (screen : ScreenValue) → IsPlainSized height width screen → IsAt known screen →
      terminal_after (terminal start screen) text ≡ terminal_after (terminal start screen) old
  pub ends : (screen : ScreenValue) (t : Terminal) → IsPlainSized height width screen → IsAt known screen →
      terminal_after (terminal start screen) old ≡ Some t → EndsAt height width new t
  pub keeps : KeepsPlain text
  pub made : IsMadeOf shortened_finals shortened_controls text
  pub shorter : length text ≤ length old

-- ---- portable output

-- Terminals that differ as the doubts `now` say differ in no more than those that differ as the doubts `was` say.
pub record IsNoWorse (was now : Doubts) : Type 0 where
  pub wrap : now.wrap ≡ was.wrap
  pub place : now.is_shifted ≡ was.is_shifted
  pub follows : was.is_after_character ≡ true → now.is_after_character ≡ true

-- Terminals agree on the position of the cursor, and no wrap is pending; `None` imposes no condition.
abbrev pub IsAgreed : Option Pos → Doubts → Type 0
IsAgreed None doubts = Unit {0}
IsAgreed (Some pos) doubts = IsPlaced doubts

-- Terminals agree on the effect of each element of the output `text`, and differ afterward in no more than after the
-- output `old`. If `new` is not `None`, they then agree on the position of the cursor.
pub record IsAsPortable (new : Option Pos) (old text : List ℕ) (doubts : Doubts) (screen : ScreenValue) : Type 0 where
  pub agrees : ReadsAgreed text doubts screen
  pub after : IsNoWorse (doubts_after_output old doubts screen) (doubts_after_output text doubts screen)
  pub place : IsAgreed new (doubts_after_output old doubts screen)

-- On every plain terminal of the given size with the cursor at `known`, the output `text` is portable if the output
-- `old` is, as `IsAsPortable` describes.
abbrev pub KeepsPortable : (height width : ℕ) → (known new : Option Pos) → (old text : List ℕ) → Type 0
KeepsPortable height width known new old text =
    (screen : ScreenValue) (doubts : Doubts) → IsPlainSized height width screen → IsAt known screen →
    IsAgreed known doubts → ReadsAgreed old doubts screen → IsAsPortable new old text doubts screen

-- After a plain terminal of the given size with the cursor at `known` has read the output, terminals agree on the
-- position of the cursor, and no wrap is pending.
abbrev pub Settles : (height width : ℕ) → Option Pos → List ℕ → Type 0
Settles height width known text =
    (screen : ScreenValue) (doubts : Doubts) → IsPlainSized height width screen → IsAt known screen →
    IsAgreed known doubts → doubts_after_output text doubts screen ≡ no_doubts

-- The screen with the cursor at the given position.
abbrev pub with_cursor : Pos → ScreenValue → ScreenValue
with_cursor pos screen = record screen { page = record screen.page { row = pos.row; column = pos.col } }

-- On every plain terminal of the given size with the cursor at `known` (anywhere if `known` is `None`), the output
-- moves the cursor to the position `to` and changes nothing else. All other plain terminals stay plain.
pub record LeadsTo (height width : ℕ) (known : Option Pos) (to : Pos) (text : List ℕ) : Type 0 where
  pub reads : (screen : ScreenValue) → IsPlainSized height width screen → IsAt known screen →
      ReadsTo text screen (with_cursor to screen)
  pub keeps : KeepsPlain text
  pub made : IsMadeOf shortened_finals shortened_controls text

-- The string `after` is `before` followed by output that replaces `old`, as `Replaces` describes. In the portable form,
-- this output is portable if `old` is.
pub record AppendsReplacement (form : Form) (height width : ℕ) (known new : Option Pos)
    (old before after : List ℕ) : Type 0 where
  pub text : List ℕ
  pub appends : after ≡ before ++ text
  pub replaces : Replaces height width known new old text
  pub portable : form ≡ Portable → KeepsPortable height width known new old text

-- ---- scrolling diffs

-- The position of the screen's cursor; `None` if a wrap is pending.
abbrev pub known_cursor : ScreenValue → Option Pos
known_cursor screen =
    if nat_lt screen.page.column screen.page.width
    then Some (record { row = screen.page.row; col = screen.page.column })
    else None

-- The output `text` is not longer than the output `plain`, and has the same effect on every plain terminal that displays
-- the picture `prev`.
pub record IsShortened (self prev : Picture) (plain text : List ℕ) : Type 0 where
  pub same : (reader : ScreenValue) → IsReaderOf self prev reader →
      terminal_after (terminal start reader) text ≡ terminal_after (terminal start reader) plain
  pub shorter : length text ≤ length plain

-- The output is a scrolling diff in the given form, or a shortened version of one.
pub record IsShortMoving (form : Form) (self prev : Picture) (text : List ℕ) : Type 0 where
  pub plain : List ℕ
  pub moving : IsMoving form self prev plain
  pub short : IsShortened self prev plain text

-- The output is a scrolling diff in the given form, as `IsShortMoving` describes, or the redraw of the picture `self` in
-- that form.
abbrev pub IsMovingOrRedrawIn : Form → (self prev : Picture) → List ℕ → Type 0
IsMovingOrRedrawIn form self prev text =
    IsShortMoving form self prev text ⊎ (text ≡ bytes_of_all (redraw_in form self))

-- The output is as `IsMovingOrRedrawIn` describes, in the fixed form.
abbrev pub IsMovingOrRedraw : (self prev : Picture) → List ℕ → Type 0
IsMovingOrRedraw self prev text = IsMovingOrRedrawIn Fixed self prev text

-- `new` is the shorter of the output `old` and the redraw of the picture in the given form, and is `old` if they are
-- equally long.
abbrev pub IsShorterWithRedraw : Form → Picture → (old new : List ℕ) → Type 0
IsShorterWithRedraw form picture old new =
    ((new ≡ old) × (length old ≤ length (bytes_of_all (redraw_in form picture))))
    ⊎ ((new ≡ bytes_of_all (redraw_in form picture)) × (length new < length old))

-- ---- the elements of the output

-- None of the given numbers, each of which is an SGR parameter without subparameters, is reported as unhandled. The
-- `Wanted` value determines how the first number is interpreted.
abbrev pub AreHandled : Wanted → List ℕ → Type 0
AreHandled wanted [] = Unit {0}
AreHandled wanted (n ∷ ns) =
    ((group_read wanted (n ∷ [])).reading ≢ Unhandled) × AreHandled (group_read wanted (n ∷ [])).wanted ns

-- The number, as an SGR parameter that is interpreted according to `wanted`, is not reported as unhandled, and `next`
-- specifies how the next parameter is interpreted.
abbrev pub IsWantedNext : Wanted → ℕ → Wanted → Type 0
IsWantedNext wanted n next =
    ((group_read wanted (n ∷ [])).reading ≢ Unhandled) × (next ≡ (group_read wanted (n ∷ [])).wanted)

-- The text consists of at least one and at most `most` numbers joined by `;`, each below 65536. SGR reports none of
-- them as unhandled if the first is interpreted according to `wanted`.
pub record IsSgrText (most : ℕ) (wanted : Wanted) (text : List ℕ) : Type 0 where
  pub first : ℕ
  pub rest : List ℕ
  pub spelled : text ≡ semicolon_list (first ∷ rest)
  pub small : AllByRecursion (λ n. n < 65536) (first ∷ rest)
  pub few : length (first ∷ rest) ≤ most
  pub handled : AreHandled wanted (first ∷ rest)

-- The character is printable ASCII.
abbrev pub IsAsciiCharacter : ℕ → Type 0
IsAsciiCharacter b = (0x20 ≤ b) × (b < 0x7F)

-- The bytes encode the given element of drawing output.
abbrev pub IsElement : Element → List ℕ → Type 0
IsElement element.Ascii bytes = AllByRecursion IsAsciiCharacter bytes
IsElement (element.Other c) bytes = IsDrawn c × (bytes ≡ encode_utf8 c)
IsElement (element.Place pos) bytes = (pos.row < 65535) × (pos.col < 65535) × (bytes ≡ bytes_of (MoveTo pos.row pos.col))
IsElement (element.Right count) bytes = (0 < count) × (count < 65536) × (bytes ≡ bytes_of (MoveRight count))
IsElement element.NextRow bytes = bytes ≡ bytes_of NextRow
IsElement element.EraseRest bytes = bytes ≡ bytes_of EraseRest
IsElement (element.EraseChars count) bytes = (0 < count) × (count < 65536) × (bytes ≡ bytes_of (EraseChars count))
IsElement (element.Lines count insert) bytes =
    (0 < count) × (count < 65536) × (bytes ≡ counted count (if insert then 0x4C else 0x4D))
IsElement (element.Chars count insert) bytes =
    (0 < count) × (count < 65536) × (bytes ≡ counted count (if insert then 0x40 else 0x50))
IsElement (element.Hide hidden) bytes = bytes ≡ bytes_of (Hide hidden)
IsElement element.ClearAttrs bytes = bytes ≡ csi [] 0x6D
IsElement element.Attrs bytes = (text : List ℕ) × IsSgrText 32 Any text × (bytes ≡ csi text 0x6D)

-- The position `to` is `count` columns to the right of `from`, and not past the last column.
pub record IsAfter (cols : ℕ) (from : Pos) (count : ℕ) (to : Pos) : Type 0 where
  pub row : to.row ≡ from.row
  pub column : to.col ≡ from.col + count
  pub inside : to.col < cols

-- Whether the element does nothing but move the cursor.
abbrev pub is_movement : Element → Bool
is_movement (element.Place pos) = true
is_movement (element.Right count) = true
is_movement element.NextRow = true
is_movement _ = false

-- Whether the element leaves the cursor where it is.
abbrev pub is_still : Element → Bool
is_still element.EraseRest = true
is_still (element.EraseChars count) = true
is_still (element.Lines count insert) = true
is_still (element.Chars count insert) = true
is_still (element.Hide hidden) = true
is_still element.ClearAttrs = true
is_still element.Attrs = true
is_still _ = false

-- ---- routes

-- The column that the last part of a route leads to from the given column.
abbrev pub column_after_last : (width : ℕ) → Last → ℕ → ℕ
column_after_last width last.Stay col = col
column_after_last width (last.Back count) col = col - count
column_after_last width (last.Right count) col = min (col + count) (width - 1)
column_after_last width (last.Column target) col = min target (width - 1)

-- The last part of a route is valid: a move to the right is by 1 to 65535 columns, and the target of a move to a given
-- column is below 65535.
abbrev pub IsLastPart : Last → Type 0
IsLastPart last.Stay = Unit {0}
IsLastPart (last.Back count) = Unit {0}
IsLastPart (last.Right count) = (0 < count) × (count < 65536)
IsLastPart (last.Column target) = target < 65535

-- The last part of a route is valid and leads from the column `col` to the column `after`.
abbrev pub IsLast : (width : ℕ) → Last → (col after : ℕ) → Type 0
IsLast width part col after = IsLastPart part × (after ≡ column_after_last width part col)

-- The column to which HT moves the cursor from the given column: the next multiple of 8, or the last column if the next
-- multiple is past it.
abbrev pub next_stop : (width : ℕ) → ℕ → ℕ
next_stop width col = min ((col / 8 + 1) * 8) (width - 1)

abbrev pub column_after_tabs : (width : ℕ) → ℕ → ℕ → ℕ
column_after_tabs width zero col = col
column_after_tabs width (suc n) col = column_after_tabs width n (next_stop width col)

-- The column that a route leads to from the given column.
abbrev pub column_after_route : (width : ℕ) → Route → ℕ → ℕ
column_after_route width route col =
    column_after_last width route.last (column_after_tabs width route.tabs (if route.returns then 0 else col))

-- The route leads from the position `from` to the position `to` on a terminal of the given width.
pub record IsRoute (width : ℕ) (route : Route) (from to : Pos) : Type 0 where
  pub row : to.row ≡ from.row + route.feeds
  pub column : to.col ≡ column_after_route width route from.col
  pub part : IsLastPart route.last

-- The last part of a route from the given column contains no more BS characters than there are columns to the left.
abbrev pub IsBackWithin : Last → ℕ → Type 0
IsBackWithin (last.Back count) col = count ≤ col
IsBackWithin _ col = Unit {0}

-- Terminals agree on the effect of the route from the given column: it has no tabs, and each BS moves the cursor.
pub record IsPortableRoute (route : Route) (col : ℕ) : Type 0 where
  pub tabs : route.tabs ≡ 0
  pub back : IsBackWithin route.last (if route.returns then 0 else col)

-- The bytes of the last part of a route: BS characters, CUF, CHA, or nothing.
abbrev pub last_text : Last → List ℕ
last_text last.Stay = []
last_text (last.Back count) = replicate count 0x08
last_text (last.Right count) = counted count 0x43
last_text (last.Column target) = csi (decimal (target + 1)) 0x47

-- The bytes of a route: line feeds, a carriage return, tabs, and the last part.
abbrev pub route_text : Route → List ℕ
route_text route =
    replicate route.feeds 0x0A ++ ((if route.returns then 0x0D ∷ [] else [])
    ++ (replicate route.tabs 0x09 ++ last_text route.last))

-- CUP without a column, which moves the cursor to the first column of the given row (counted from 0).
abbrev pub row_start_text : ℕ → List ℕ
row_start_text row = csi (decimal (row + 1)) 0x48
