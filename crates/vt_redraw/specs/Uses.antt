-- The elements of portable output, the states in which terminals agree on the effect of each, and portable operations.
use Rattle.std.specs.Prelude.{◌≡◌, ◌⊎◌, ℕ, suc, zero, ◌+◌, ◌<◌, ◌≤◌, ◌==◌, ◌||◌, not, Bool, true, false, List, [], ◌∷◌}
use Rattle.std.specs.Prelude.{Option, Some, None, drop, length, chars, if◌then◌else◌}
use Rattle.std.specs.List.{list_all}
use Rattle.vt_cells.specs.Cell.{CellValue, is_right_half}
use Rattle.vt_cells.specs.Glyph.{columns_of}
use Rattle.vt_cells.specs.declared.attrs.Intensity.{Intensity}
use Rattle.vt_cells.specs.declared.attrs.Intensity.TheVariants.{Bold, Dim, Normal}
use Rattle.vt_cells.specs.Attrs.{default_attrs, same_attrs, same_intensity, Attrs}
use Rattle.vt_cells.specs.Op.{Op, Hide, ClearAttrs, MoveTo, MoveRight, NextRow, LineFeed, Backspace, EraseBelow}
use Rattle.vt_cells.specs.Op.{EraseRest, EraseChars, SaveCursor, RestoreCursor, ChangeAttrs, Print}
use Rattle.vt_rows.specs.Cells.{at}
use Rattle.vt_grid.specs.Canvas.{Canvas, canvas_after_op}
use Rattle.vt_grid.specs.Page.{Page, cursor_row}
use Rattle.vt_grid.specs.Printing.{carries, page_after_print}
use Rattle.vt_grid.specs.Moves.{moved}
use Rattle.vt_grid.specs.declared.grid.moves.CursorMove.TheVariants.{Return}
use Rattle.vt_redraw.specs.Certain.{is_certain, is_certain_cell}
use Rattle.vt_redraw.specs.Doubts.{Doubts, IsPlaced, Wrap, NotPending, Pending, Unsure, no_doubts, wrap_at}

-- ==== The elements of portable output, and the states in which terminals agree on the effect of each. The names are
-- those of ECMA-48 and of the VT510 manual.

-- An element of output, with what its effect depends on where terminals may disagree.
pub data Use : Type 0 where
  -- A graphic character.
  Graphic : (c : ℕ) → Use
  -- CUP, which moves the cursor to a row and column.
  Cup : Use
  -- CR, which moves the cursor to the first column.
  Cr : Use
  -- CHA, which moves the cursor to a column of its row.
  Cha : Use
  -- CUF, which moves the cursor to the right.
  Cuf : Use
  -- BS, which moves the cursor to the left by one column.
  Bs : Use
  -- LF, which moves the cursor down by one row.
  Lf : Use
  -- ED without a number, which erases from the cursor to the end of the screen.
  Ed : Use
  -- EL without a number, which erases from the cursor to the end of its row.
  El : Use
  -- ECH, which erases the given number of columns, starting at the cursor.
  Ech : (count : ℕ) → Use
  -- IL or DL, which insert or delete rows.
  Lines : Use
  -- ICH or DCH, which insert or delete columns of the cursor's row.
  Columns : Use
  -- REP, which repeats the given character.
  Rep : (c : Option ℕ) → (count : ℕ) → Use
  -- SGR, with the intensities that it sets, in order.
  Sgr : List Intensity → Use
  -- DECTCEM, which shows or hides the cursor.
  Dectcem : Use
  -- DECSC, which saves the cursor.
  Decsc : Use
  -- DECRC, which restores the saved cursor.
  Decrc : Use
  -- Anything else. HT is among them: tab stops may be cleared, and some terminals keep a tab as one glyph.
  Other : Use

-- ---- the states in which terminals agree

-- Whether a character that takes columns of its own may be printed. If terminals may differ in the cursor's position, it
-- may only be a space that wraps, since a row that continues on the next row needs the wrap: a terminal that does not
-- wrap there prints the space beside the glyph of uncertain width.
abbrev pub may_print : (c : ℕ) → Wrap → (is_shifted : Bool) → Bool
may_print c NotPending is_shifted = not is_shifted
may_print c Pending is_shifted = not is_shifted || (c == 0x20)
may_print c Unsure is_shifted = false

-- A character that takes `n` columns has room in the rest of the cursor's row or, if a wrap is pending, in the next
-- row.
abbrev pub HasColumns : (n : ℕ) → Page → Type 0
HasColumns n page = (page.column + n ≤ page.width) ⊎ ((page.column ≡ page.width) × (n ≤ page.width))

-- The character, which takes the given number of columns, may be printed. A combining character must directly follow
-- the glyph that it joins (Unicode, D52), and must not move this glyph to the next row.
abbrev pub IsPortableCharacter : Option ℕ → (c : ℕ) → Doubts → Page → Type 0
IsPortableCharacter None c doubts page = ⊥
IsPortableCharacter (Some zero) c doubts page = (doubts.is_after_character ≡ true) × (carries c page ≡ false)
IsPortableCharacter (Some (suc n)) c doubts page =
    (may_print c doubts.wrap doubts.is_shifted ≡ true) × HasColumns (suc n) page

-- Whether terminals disagree on the effect of setting the second intensity while the first one is set. SGR 1 and SGR 2
-- replace each other on some terminals; on most, both are in effect until SGR 22 or SGR 0 (ECMA-48, 8.3.117).
abbrev pub piles_up : (was new : Intensity) → Bool
piles_up Bold Dim = true
piles_up Dim Bold = true
piles_up _ _ = false

-- Setting the intensities in order never sets bold while dim is set, or dim while bold is set.
abbrev pub KeepsApart : (was : Intensity) → List Intensity → Type 0
KeepsApart was [] = Unit {0}
KeepsApart was (new ∷ more) = (piles_up was new ≡ false) × KeepsApart new more

-- No wide glyph covers both column `c` and the column before it. Terminals differ in what is left of a wide glyph half
-- of which is erased.
abbrev pub IsBoundary : (c : ℕ) → List CellValue → Type 0
IsBoundary c cells = is_right_half (at cells c) ≡ false

-- DECRC moves the cursor at most between the last column and the position after it, and leaves origin mode as it is.
-- Terminals differ only in whether a wrap is then pending.
pub record RestoresWrap (page : Page) : Type 0 where
  pub row : page.saved_row ≡ page.row
  pub column : page.width ≤ page.saved_column + 1
  pub origin : page.saved_origin ≡ page.origin

-- REP has room in the cursor's row for all repetitions of a character that takes one column, and directly follows it.
-- Terminals differ in repetitions that wrap, and in what REP repeats after other elements.
pub record RepeatsInRow (c : Option ℕ) (count : ℕ) (doubts : Doubts) (page : Page) : Type 0 where
  pub place : IsPlaced doubts
  pub follows : doubts.is_after_character ≡ true
  pub character : ℕ
  pub is : c ≡ Some character
  pub columns : columns_of character ≡ Some 1
  pub room : page.column + count ≤ page.width

-- Terminals that differ as the doubts say, and otherwise display the canvas, agree on the effect of the element.
-- * While a wrap is pending, BS, CUF, ECH, EL, ED, IL, DL, ICH, DCH and REP start from different columns on different
--   terminals. CUP, CR and CHA name the column.
-- * After a glyph on whose width terminals may disagree, only CUP names the position.
-- * BS in the first column moves to the row above on some terminals (xterm's mode 45), and LF on the last row scrolls.
-- * IL and DL move the cursor to the first column on some terminals (ECMA-48, 8.3.32 and 8.3.67), so they are used
--   only there.
-- * ICH and DCH are used only in rows whose cells from the cursor on are narrow on all terminals.
abbrev pub IsPortableUse : Use → Doubts → Canvas → Type 0
IsPortableUse (Graphic c) doubts canvas = IsPortableCharacter (columns_of c) c doubts canvas.page
IsPortableUse Cup doubts canvas = Unit {0}
IsPortableUse Cr doubts canvas = doubts.is_shifted ≡ false
IsPortableUse Cha doubts canvas = doubts.is_shifted ≡ false
IsPortableUse Cuf doubts canvas = IsPlaced doubts
IsPortableUse Bs doubts canvas = IsPlaced doubts × (0 < canvas.page.column)
IsPortableUse Lf doubts canvas = (doubts.is_shifted ≡ false) × (canvas.page.row + 1 < length canvas.page.rows)
IsPortableUse Ed doubts canvas = IsPlaced doubts × ((canvas.page.row ≡ 0) × (canvas.page.column ≡ 0))
IsPortableUse El doubts canvas = IsPlaced doubts × IsBoundary canvas.page.column (cursor_row canvas.page).cells
IsPortableUse (Ech count) doubts canvas =
    IsPlaced doubts
    × (IsBoundary canvas.page.column (cursor_row canvas.page).cells
    × IsBoundary (canvas.page.column + count) (cursor_row canvas.page).cells)
IsPortableUse Lines doubts canvas = IsPlaced doubts × (canvas.page.column ≡ 0)
IsPortableUse Columns doubts canvas =
    IsPlaced doubts × (list_all is_certain_cell (drop canvas.page.column (cursor_row canvas.page).cells) ≡ true)
IsPortableUse (Rep c count) doubts canvas = RepeatsInRow c count doubts canvas.page
IsPortableUse (Sgr intensities) doubts canvas = KeepsApart canvas.attrs.intensity intensities
IsPortableUse Dectcem doubts canvas = Unit {0}
IsPortableUse Decsc doubts canvas = doubts.is_shifted ≡ false
IsPortableUse Decrc doubts canvas = RestoresWrap canvas.page
IsPortableUse Other doubts canvas = ⊥

-- ---- the doubts after an element

-- Whether a wrap is pending after LF. If one was pending before, some terminals keep it and some do not.
abbrev pub wrap_after_feed : Wrap → Wrap
wrap_after_feed NotPending = NotPending
wrap_after_feed Pending = Unsure
wrap_after_feed Unsure = Unsure

-- The doubts after a character is printed and the cursor is in the given column of a row of `width` columns.
abbrev pub doubts_after_character : (c column width : ℕ) → Doubts → Doubts
doubts_after_character c column width doubts = record {
  wrap = wrap_at column width;
  is_shifted = doubts.is_shifted || not (is_certain c);
  is_after_character = true;
}

-- The doubts after an element that terminals with the given doubts read while they display the canvas.
abbrev pub doubts_after : Use → Doubts → Canvas → Doubts
doubts_after (Graphic c) doubts canvas =
    doubts_after_character c (page_after_print c canvas.attrs canvas.page).column canvas.page.width doubts
doubts_after Cup doubts canvas = no_doubts
doubts_after Cr doubts canvas = no_doubts
doubts_after Cha doubts canvas = no_doubts
doubts_after Cuf doubts canvas = no_doubts
doubts_after Bs doubts canvas = no_doubts
doubts_after Lf doubts canvas = record doubts { wrap = wrap_after_feed doubts.wrap; is_after_character = false }
doubts_after (Rep c count) doubts canvas =
    record doubts { wrap = wrap_at (canvas.page.column + count) canvas.page.width; is_after_character = false }
doubts_after Decrc doubts canvas = record doubts { wrap = Unsure; is_after_character = false }
doubts_after _ doubts canvas = record doubts { is_after_character = false }

-- ==== Operations in whose output no element is used in a state in which terminals disagree on its effect.

-- The canvas after a character is printed, whether or not a row scrolls off the page.
abbrev pub canvas_after_print : ℕ → Canvas → Canvas
canvas_after_print c canvas = record canvas { page = page_after_print c canvas.attrs canvas.page }

-- The canvas after CR.
abbrev pub canvas_after_return : Canvas → Canvas
canvas_after_return canvas = record canvas { page = moved Return canvas.page }

-- The intensities that the SGR sequence for a change between different attributes sets, in order.
abbrev pub change_intensities : (was new : Attrs) → List Intensity
change_intensities was new =
    if same_attrs new default_attrs then Normal ∷ []
    else if same_intensity was.intensity new.intensity then []
    else new.intensity ∷ []

-- Terminals agree on the effect of printing the characters in order.
abbrev pub PortableText : List ℕ → Doubts → Canvas → Type 0
PortableText [] doubts canvas = Unit {0}
PortableText (c ∷ cs) doubts canvas =
    IsPortableUse (Graphic c) doubts canvas
    × PortableText cs (doubts_after (Graphic c) doubts canvas) (canvas_after_print c canvas)

-- The doubts after the characters are printed in order.
abbrev pub doubts_after_text : List ℕ → Doubts → Canvas → Doubts
doubts_after_text [] doubts canvas = doubts
doubts_after_text (c ∷ cs) doubts canvas =
    doubts_after_text cs (doubts_after (Graphic c) doubts canvas) (canvas_after_print c canvas)

-- Terminals agree on the effect of the operation's output.
abbrev pub IsPortableOp : Op → Doubts → Canvas → Type 0
IsPortableOp (Hide hidden) doubts canvas = IsPortableUse Dectcem doubts canvas
IsPortableOp ClearAttrs doubts canvas = IsPortableUse (Sgr (Normal ∷ [])) doubts canvas
IsPortableOp (MoveTo row col) doubts canvas = IsPortableUse Cup doubts canvas
IsPortableOp (MoveRight zero) doubts canvas = Unit {0}
IsPortableOp (MoveRight (suc n)) doubts canvas = IsPortableUse Cuf doubts canvas
IsPortableOp NextRow doubts canvas =
    IsPortableUse Cr doubts canvas × IsPortableUse Lf (doubts_after Cr doubts canvas) (canvas_after_return canvas)
IsPortableOp LineFeed doubts canvas = IsPortableUse Lf doubts canvas
IsPortableOp Backspace doubts canvas = IsPortableUse Bs doubts canvas
IsPortableOp EraseBelow doubts canvas = IsPortableUse Ed doubts canvas
IsPortableOp EraseRest doubts canvas = IsPortableUse El doubts canvas
IsPortableOp (EraseChars zero) doubts canvas = Unit {0}
IsPortableOp (EraseChars (suc n)) doubts canvas = IsPortableUse (Ech (suc n)) doubts canvas
IsPortableOp SaveCursor doubts canvas = IsPortableUse Decsc doubts canvas
IsPortableOp RestoreCursor doubts canvas = IsPortableUse Decrc doubts canvas
IsPortableOp (ChangeAttrs was new) doubts canvas =
    same_attrs was new ≡ false → IsPortableUse (Sgr (change_intensities was new)) doubts canvas
IsPortableOp (Print text) doubts canvas = PortableText (chars text) doubts canvas

-- The doubts after the operation's output.
abbrev pub doubts_after_op : Op → Doubts → Canvas → Doubts
doubts_after_op (Hide hidden) doubts canvas = doubts_after Dectcem doubts canvas
doubts_after_op ClearAttrs doubts canvas = doubts_after (Sgr (Normal ∷ [])) doubts canvas
doubts_after_op (MoveTo row col) doubts canvas = doubts_after Cup doubts canvas
doubts_after_op (MoveRight zero) doubts canvas = doubts
doubts_after_op (MoveRight (suc n)) doubts canvas = doubts_after Cuf doubts canvas
doubts_after_op NextRow doubts canvas = doubts_after Lf (doubts_after Cr doubts canvas) (canvas_after_return canvas)
doubts_after_op LineFeed doubts canvas = doubts_after Lf doubts canvas
doubts_after_op Backspace doubts canvas = doubts_after Bs doubts canvas
doubts_after_op EraseBelow doubts canvas = doubts_after Ed doubts canvas
doubts_after_op EraseRest doubts canvas = doubts_after El doubts canvas
doubts_after_op (EraseChars zero) doubts canvas = doubts
doubts_after_op (EraseChars (suc n)) doubts canvas = doubts_after (Ech (suc n)) doubts canvas
doubts_after_op SaveCursor doubts canvas = doubts_after Decsc doubts canvas
doubts_after_op RestoreCursor doubts canvas = doubts_after Decrc doubts canvas
doubts_after_op (ChangeAttrs was new) doubts canvas =
    if same_attrs was new then doubts else doubts_after (Sgr (change_intensities was new)) doubts canvas
doubts_after_op (Print text) doubts canvas = doubts_after_text (chars text) doubts canvas

-- Terminals agree on the effect of the output of all operations, each read while the canvas is displayed that the
-- previous operations leave.
abbrev pub PortableOps : List Op → Doubts → Canvas → Type 0
PortableOps [] doubts canvas = Unit {0}
PortableOps (op ∷ ops) doubts canvas =
    IsPortableOp op doubts canvas
    × ((next : Canvas) → canvas_after_op op canvas ≡ Some next →
    PortableOps ops (doubts_after_op op doubts canvas) next)
