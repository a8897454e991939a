-- Terminals that agree with a canvas, except for what is doubtful.
use Rattle.std.specs.Prelude.{◌≡◌, ◌⊎◌, ◌≤◌, ℕ, suc, ◌+◌, ◌<◌, ◌==◌, ◌&&◌, ◌||◌, nat_le, nat_lt, not, Bool, true, false}
use Rattle.std.specs.Prelude.{if◌then◌else◌, List, [], ◌∷◌, length, Option, Some, None, chars}
use Rattle.vt_cells.specs.Cell.{is_right_half}
use Rattle.vt_cells.specs.Glyph.{columns_of, glyph_columns}
use Rattle.vt_cells.specs.Op.{Op, EraseBelow, EraseRest, EraseChars, RestoreCursor, Print}
use Rattle.vt_rows.specs.Cells.{at}
use Rattle.vt_grid.specs.Canvas.{Canvas, canvas_after_op, drawn_text}
use Rattle.vt_grid.specs.Page.{Page, cell_at, cursor_row}
use Rattle.vt_grid.specs.Printing.{glyph_put, room_made}
use Rattle.vt_redraw.specs.Certain.{is_certain}
use Rattle.vt_redraw.specs.Doubts.{Wrap, NotPending, Pending, Unsure}
use Rattle.vt_redraw.specs.Uses.{IsBoundary}
use Rattle.vt_terminals.specs.Laws.{IsOneGlyph, stray_columns}
use Rattle.vt_terminals.specs.Room.{is_uncertain}
use Rattle.vt_terminals.specs.Terminal.{Positions, Terminal, vague}

-- ==== Agreement

-- The terminal's cursor is where the page's is, as far as the doubts allow.
abbrev pub CursorAgrees : (T : Terminal) → Wrap → Page → T.State → Type 0
CursorAgrees T NotPending page s = (page.column < page.width) × T.IsAt s page.row page.column
CursorAgrees T Pending page s = (page.column ≡ page.width) × T.IsPending s page.row
CursorAgrees T Unsure page s = (page.column ≡ page.width) × T.IsAtEnd s page.row

-- The terminal displays the canvas, except perhaps for torn cells, for cells near glyphs of uncertain width, and for
-- what is doubtful of the cursor; nothing is known of the cursor if it is shifted. A cell is torn if it is what is left
-- of a wide glyph half of which was printed over: terminals differ in what it shows, but it takes one column on all of
-- them.
pub record Agrees (T : Terminal) (near torn : Positions) (shifted : Bool) (wrap : Wrap) (canvas : Canvas) (s : T.State) :
    Type 0 where
  pub width : canvas.page.width ≡ T.width
  pub height : length canvas.page.rows ≡ T.height
  pub cells : (r c : ℕ) → r < T.height → c < T.width → near r c ≡ false → torn r c ≡ false →
      T.Shows s r c (cell_at canvas.page r c)
  pub begins : (r c : ℕ) → r < T.height → c < T.width → vague near r c ≡ false →
      is_right_half (cell_at canvas.page r c) ≡ false → T.Begins s r c
  pub attrs : T.HasAttrs s canvas.attrs
  pub hidden : T.Hides s canvas.hidden
  pub saved : canvas.page.saved_row < T.height → canvas.page.saved_column ≡ T.width →
      T.HasSaved s canvas.page.saved_row canvas.saved_attrs
  pub cursor : shifted ≡ false → CursorAgrees T wrap canvas.page s
  pub calm : shifted ≡ true → wrap ≡ Pending → ⊥

-- ==== Operations that print certain characters at boundaries, and the cells that they leave torn

-- Printing `n` columns at the cursor cuts the wide glyph after them in two.
abbrev pub tears : (n : ℕ) → Page → Bool
tears n page = is_right_half (at (cursor_row page).cells (page.column + n))

-- The position is one of the `n` columns of row `row` that start at column `first`.
abbrev pub covers : (row first n : ℕ) → Positions
covers row first n r c = (r == row) && (nat_le first c && nat_lt c (first + n))

-- What is torn after `n` columns are printed at the cursor.
abbrev pub torn_after_print : (n : ℕ) → Page → Positions → Positions
torn_after_print n page torn r c =
    (torn r c && not (covers page.row page.column n r c))
    || ((r == page.row) && ((c == page.column + n) && tears n page))

-- What is torn after `n` columns are erased at the cursor.
abbrev pub torn_after_erasure : (n : ℕ) → Page → Positions → Positions
torn_after_erasure n page torn r c = torn r c && not (covers page.row page.column n r c)

-- The text is a single certain character, which begins where a cell begins; or one of its characters is uncertain,
-- there is room for all columns that it may take, and all positions that it may change are among those near such
-- glyphs.
abbrev pub IsTidyCharacter : List ℕ → Page → Type 0
IsTidyCharacter (c ∷ []) page =
    (wide : Bool)
    × ((is_certain c ≡ true)
    × ((columns_of c ≡ Some (glyph_columns wide)) × IsBoundary page.column (cursor_row page).cells))
IsTidyCharacter _ page = ⊥

abbrev pub HasHead : List ℕ → Type 0
HasHead [] = ⊥
HasHead (c ∷ cs) = (n : ℕ) × (columns_of c ≡ Some (suc n))

pub record IsStray (near : Positions) (cs : List ℕ) (canvas : Canvas) : Type 0 where
  pub uncertain : is_uncertain cs ≡ true
  pub head : HasHead cs
  pub glyph : IsOneGlyph cs
  pub room : canvas.page.column + stray_columns cs < canvas.page.width
  pub region : (k : ℕ) → canvas.page.column ≤ k + 2 → k ≤ canvas.page.column + stray_columns cs →
      near canvas.page.row k ≡ true
  -- In the model, the text prints as one glyph, which begins where a cell begins.
  pub text : List ℕ
  pub wide : Bool
  pub boundary : IsBoundary canvas.page.column (cursor_row canvas.page).cells
  pub put : (next : Canvas) → drawn_text cs canvas ≡ Some next →
      next ≡ record canvas { page = glyph_put text wide canvas.attrs canvas.page }

abbrev pub IsTidyText : (near : Positions) → List ℕ → Canvas → Type 0
IsTidyText near cs canvas = IsTidyCharacter cs canvas.page ⊎ IsStray near cs canvas

-- The operation prints a tidy text, and a saved cursor that it restores was saved while a wrap was pending. ED is not
-- among the operations of a script.
abbrev pub IsTidyOp : (near : Positions) → Op → Canvas → Type 0
IsTidyOp near EraseBelow canvas = ⊥
IsTidyOp near RestoreCursor canvas = canvas.page.saved_column ≡ canvas.page.width
IsTidyOp near (Print text) canvas = IsTidyText near (chars text) canvas
IsTidyOp near _ canvas = Unit {0}

abbrev pub torn_after_columns : Option ℕ → Page → Positions → Positions
torn_after_columns (Some n) page torn = torn_after_print n (room_made n page) torn
torn_after_columns None page torn = torn

abbrev pub torn_after_first : List ℕ → Page → Positions → Positions
torn_after_first [] page torn = torn
torn_after_first (c ∷ cs) page torn = torn_after_columns (columns_of c) page torn

-- What is torn after a text with an uncertain character is near it, so that nothing is claimed there.
abbrev pub torn_after_text : List ℕ → Page → Positions → Positions
torn_after_text cs page torn = if is_uncertain cs then torn else torn_after_first cs page torn

-- What is torn after the operation.
abbrev pub torn_after : Op → Positions → Canvas → Positions
torn_after (EraseChars n) torn canvas = torn_after_erasure n canvas.page torn
torn_after EraseRest torn canvas = torn_after_erasure canvas.page.width canvas.page torn
torn_after (Print text) torn canvas = torn_after_text (chars text) canvas.page torn
torn_after _ torn canvas = torn

-- All positions of the first set that are not near uncertain glyphs are in the second.
abbrev pub Within : (near s t : Positions) → Type 0
Within near s t = (r c : ℕ) → near r c ≡ false → s r c ≡ true → t r c ≡ true

-- The operations are tidy. If only the positions in `torn` are torn before, only those in `left` are torn afterward.
abbrev pub TidyTo : (near : Positions) → List Op → Positions → Canvas → Positions → Type 0
TidyTo near [] torn canvas left = Within near torn left
TidyTo near (op ∷ ops) torn canvas left =
    IsTidyOp near op canvas
    × ((next : Canvas) → canvas_after_op op canvas ≡ Some next → TidyTo near ops (torn_after op torn canvas) next left)

-- No position.
abbrev pub nowhere : Positions
nowhere r c = false
