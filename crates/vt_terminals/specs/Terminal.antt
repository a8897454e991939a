-- Terminals, as far as output depends on them: what they read, and what they display.
use Rattle.std.specs.Prelude.{◌≡◌, ◌-◌, ◌&&◌, ℕ, Bool, false, List, [], ◌∷◌, ◌<◌}
use Rattle.vt_cells.specs.Attrs.{Attrs}
use Rattle.vt_cells.specs.Cell.{CellValue, is_right_half}
use Rattle.vt_rows.specs.Cells.{at, ends_blank}
use Rattle.vt_grid.specs.Page.{row_or}
use Rattle.vt_redraw.specs.Picture.{Picture}
use Rattle.vt_terminals.specs.Element.{Element}

-- A terminal of a fixed size. Nothing is assumed of its states, and what it displays is known only from these
-- relations, none of which need hold in a state.
pub record Terminal : Type 1 where
  -- The states between two elements of output, in ground state and with the modes that the output assumes: autowrap on
  -- (DECAWM), and insert mode (IRM), newline mode (LNM), origin mode (DECOM), the scroll region and left and right
  -- margins (DECLRMM) off.
  pub State : Type 0
  pub height : ℕ
  pub width : ℕ
  -- `Reads element s t`: in state `s`, reading the element can lead to state `t`.
  pub Reads : Element → State → State → Type 0
  -- `Shows s r c x`: the terminal displays the cell `x`, in its own way, in row `r`, column `c`.
  pub Shows : State → (r c : ℕ) → CellValue → Type 0
  -- `Begins s r c`: no wide glyph covers both column `c` of row `r` and the column before it.
  pub Begins : State → (r c : ℕ) → Type 0
  -- `IsAt s r c`: the cursor is in row `r`, column `c`, and no wrap is pending.
  pub IsAt : State → (r c : ℕ) → Type 0
  -- `IsPending s r`: the cursor is at the end of row `r`, and a wrap is pending.
  pub IsPending : State → (r : ℕ) → Type 0
  -- `IsAtEnd s r`: the cursor is in or after the last column of row `r`, whether or not a wrap is pending.
  pub IsAtEnd : State → (r : ℕ) → Type 0
  -- `HasAttrs s a`: what is printed or erased next gets the attributes `a`.
  pub HasAttrs : State → Attrs → Type 0
  -- `Hides s hidden`: the cursor is hidden (`true`) or visible (`false`).
  pub Hides : State → Bool → Type 0
  -- `HasSaved s r a`: the saved cursor is in or after the last column of row `r`, with the attributes `a`.
  pub HasSaved : State → (r : ℕ) → Attrs → Type 0

-- In state `s`, reading the elements in order can lead to state `t`.
abbrev pub ReadsAll : (T : Terminal) → List Element → T.State → T.State → Type 0
ReadsAll T [] s t = s ≡ t
ReadsAll T (element ∷ elements) s t = (m : T.State) × (T.Reads element s m × ReadsAll T elements m t)

-- A set of positions, given by row and column.
abbrev pub Positions : Type 0
Positions = (r c : ℕ) → Bool

-- A wide glyph may cover both the position and the one before it, since both are near glyphs of uncertain width.
abbrev pub vague : Positions → Positions
vague near r c = near r (c - 1) && near r c

-- The terminal displays the picture, except perhaps for the cells at the positions `near`. If the cursor is after the
-- last column of a row that ends with a glyph, a wrap is pending. In a row that ends with a blank, terminals differ in
-- whether one is.
pub record Displays (T : Terminal) (near : Positions) (picture : Picture) (s : T.State) : Type 0 where
  pub cells : (r c : ℕ) → r < T.height → c < T.width → near r c ≡ false →
      T.Shows s r c (at (row_or picture.width picture.rows r).cells c)
  pub begins : (r c : ℕ) → r < T.height → c < T.width → vague near r c ≡ false →
      is_right_half (at (row_or picture.width picture.rows r).cells c) ≡ false → T.Begins s r c
  pub attrs : T.HasAttrs s picture.attrs
  pub hidden : T.Hides s picture.hidden
  pub cursor : picture.column < picture.width → T.IsAt s picture.row picture.column
  pub pending : picture.column ≡ picture.width →
      ends_blank (row_or picture.width picture.rows picture.row).cells ≡ false → T.IsPending s picture.row
  pub ended : picture.column ≡ picture.width → T.IsAtEnd s picture.row
