-- The output that turns a row of the terminal into a different row: its cells, its link to the row above, and the
-- break before the row below.
use Rattle.std.specs.Prelude.{ℕ, suc, zero, ◌+◌, ◌-◌, ◌==◌, ◌&&◌, ◌||◌, not, Bool, true}
use Rattle.std.specs.Prelude.{false, List, [], ◌∷◌, ◌++◌, length, drop, if◌then◌else◌}
use Rattle.vt_cells.specs.Glyph.{glyph_columns}
use Rattle.vt_cells.specs.Cell.{CellValue, blank, glyph, right_half, is_glyph}
use Rattle.vt_cells.specs.Cell.{is_right_half, same_cell, text_of, attrs_of}
use Rattle.std.specs.List.{prefix_len}
use Rattle.vt_cells.specs.Attrs.{same_attrs, default_attrs, is_bold, is_dim, Attrs}
use Rattle.vt_cells.specs.Op.{Op, Backspace, ChangeAttrs, ClearAttrs, EraseChars, EraseRest, MoveTo, Print}
use Rattle.vt_cells.specs.Op.{cursor_move_ops}
use Rattle.vt_rows.specs.Cells.{at}
use Rattle.vt_redraw.specs.Certain.{is_certain_text}
use Rattle.vt_redraw.specs.declared.form.Form.{Form}
use Rattle.vt_redraw.specs.declared.form.Form.TheVariants.{Fixed, Portable}
use Rattle.vt_redraw.specs.declared.pen.Pen.{Pen}

abbrev pub pen_in : Form → ℕ → ℕ → Attrs → Pen
pen_in form row col attrs = record { row = row; col = col; attrs = attrs; form = form; is_shifted = false }

-- A pen that writes the fixed form.
abbrev pub pen_at : ℕ → ℕ → Attrs → Pen
pen_at row col attrs = pen_in Fixed row col attrs

-- The pen with different attributes.
abbrev pub pen_with : Pen → Attrs → Pen
pen_with pen attrs = record pen { attrs = attrs }

-- Whether terminals may differ in the cursor's position after they print a glyph with the given text. The fixed form
-- does not take this into account. Glyphs of one byte are printable ASCII.
abbrev pub shifts : Form → List ℕ → Bool
shifts Fixed text = false
shifts Portable text = not ((length text == 1) || is_certain_text text)

-- The pen after a glyph with the given text has been printed and the cursor is at the given position.
abbrev pub pen_past : Form → ℕ → ℕ → Attrs → List ℕ → Pen
pen_past form row col attrs text = record (pen_in form row col attrs) { is_shifted = shifts form text }

-- The operations that move the pen to a position. If terminals may differ in where the cursor is, the output names the
-- position, even if it is the pen's.
unfoldable pub move_ops : Pen → ℕ → ℕ → List Op
move_ops pen row col =
    if pen.is_shifted then MoveTo row col ∷ [] else cursor_move_ops pen.row pen.col row col

-- Whether one of the two sets of attributes is bold and the other is dim.
abbrev pub swaps_intensity : Attrs → Attrs → Bool
swaps_intensity was new = (is_bold was && is_dim new) || (is_dim was && is_bold new)

-- Whether all attributes are reset before the second set of attributes is set. On many terminals, setting bold does not
-- clear dim, nor the reverse, so the portable form resets the attributes between the two.
abbrev pub resets : Form → Attrs → Attrs → Bool
resets Fixed was new = false
resets Portable was new = swaps_intensity was new

-- The operations that change the pen's attributes from the first set to the second, which differs from the first.
abbrev pub change_ops : Form → Attrs → Attrs → List Op
change_ops form was new =
    if resets form was new then ClearAttrs ∷ ChangeAttrs default_attrs new ∷ [] else ChangeAttrs was new ∷ []

-- The operations that change the pen's attributes from the first set to the second; none if the two sets are equal.
unfoldable pub attr_ops_in : Form → Attrs → Attrs → List Op
attr_ops_in form was new = if same_attrs was new then [] else change_ops form was new

-- The operations of `attr_ops_in` in the fixed form.
abbrev pub attr_ops : Attrs → Attrs → List Op
attr_ops was new = attr_ops_in Fixed was new

-- Whether a cell is a blank with the given attributes.
abbrev pub is_blank_of : Attrs → CellValue → Bool
is_blank_of attrs (blank b) = same_attrs attrs b
is_blank_of attrs (glyph text wide b) = false
is_blank_of attrs right_half = false

-- The number of blanks with the given attributes at the beginning of the cells.
abbrev pub blank_run : Attrs → List CellValue → ℕ
blank_run attrs cells = prefix_len (is_blank_of attrs) cells

-- The number of columns that are erased to draw `n` blanks before the displayed cell `x`. If `x` is a continuation cell,
-- the blanks cut a wide glyph, and the portable form also erases `x`, because terminals disagree on what is left of a
-- wide glyph that is erased in part.
abbrev pub run_count : Form → ℕ → CellValue → ℕ
run_count Fixed n x = n
run_count Portable n x = if is_right_half x then n + 1 else n

-- The operation that draws `n` blanks by erasing cells. If no cells follow the blanks in the row, the whole rest of the
-- row is erased.
abbrev pub erase_run : Form → ℕ → List CellValue → Op
erase_run form n [] = EraseRest
erase_run form n (x ∷ xs) = EraseChars (run_count form n x)

-- The operation that moves the cursor one column to the left, to column `c` of row `r`. After a glyph in the last column,
-- terminals disagree on where the cursor is, so the portable form moves to the position itself.
abbrev pub back_op : Form → (r c : ℕ) → Op
back_op Fixed r c = Backspace
back_op Portable r c = MoveTo r c

-- The number of columns that are erased of a glyph that takes `n` columns. Some terminals leave a blank if half of a wide
-- glyph is erased and the glyph is then printed again, so the portable form erases all of its columns.
abbrev pub erased_count : Form → ℕ → ℕ
erased_count Fixed n = 1
erased_count Portable n = n

-- A list of operations, the terminal's cursor and attributes after these operations, and whether the terminal's current
-- row is then wrapped.
pub record Scripted : Type 0 where
  pub ops : List Op
  pub pen : Pen
  pub wrapped : Bool

abbrev pub no_ops : Pen → Bool → Scripted
no_ops pen wrapped = record { ops = []; pen = pen; wrapped = wrapped }

abbrev pub ops_then : List Op → Scripted → Scripted
ops_then ops written = record { ops = ops ++ written.ops; pen = written.pen; wrapped = written.wrapped }

-- The operations that perform the given operation at a position with the given attributes.
abbrev pub placed_op : Pen → ℕ → ℕ → Attrs → Op → List Op
placed_op pen row col attrs op = move_ops pen row col ++ (attr_ops_in pen.form pen.attrs attrs ++ op ∷ [])

-- ---- whether the terminal's row is wrapped, given its remaining cells

abbrev pub is_nil : List CellValue → Bool
is_nil [] = true
is_nil (x ∷ xs) = false

-- Whether the only remaining cell of the row is a continuation cell, which becomes blank because its wide character was
-- overwritten.
abbrev pub is_torn : List CellValue → Bool
is_torn (right_half ∷ []) = true
is_torn _ = false

-- Whether the terminal's row is still wrapped after a glyph is printed. Printing a wide glyph clears the wrapped flag
-- if the only cell after the glyph is a continuation cell, which becomes blank.
abbrev pub wrapped_after_glyph : Bool → Bool → List CellValue → Bool
wrapped_after_glyph wrapped wide rest = wrapped && not (wide && is_torn rest)

-- Whether the terminal's row is still wrapped after a run of blanks is erased: the row was wrapped before, and the run
-- neither reaches the last column nor is followed only by a continuation cell.
abbrev pub wrapped_after_erasure : Bool → List CellValue → Bool
wrapped_after_erasure wrapped rest = wrapped && not (is_nil rest || is_torn rest)

-- ---- the cells of a row, from left to right

-- The output that replaces the displayed cells `ys` with `xs`, starting at column `c` of row `r`. The first `settled`
-- cells are already written.
unfoldable pub cells_written : (r c : ℕ) → Pen → (wrapped : Bool) → (settled : ℕ) → (xs ys : List CellValue) → Scripted
cells_written r c pen wrapped settled [] ys = no_ops pen wrapped
cells_written r c pen wrapped settled (x ∷ xs) [] = no_ops pen wrapped
cells_written r c pen wrapped (suc settled) (x ∷ xs) (y ∷ ys) = cells_written r (c + 1) pen wrapped settled xs ys
cells_written r c pen wrapped zero (right_half ∷ xs) (y ∷ ys) = cells_written r (c + 1) pen wrapped zero xs ys
cells_written r c pen wrapped zero (blank a ∷ xs) (y ∷ ys) =
    if same_cell (blank a) y then cells_written r (c + 1) pen wrapped zero xs ys
    else ops_then (placed_op pen r c a (erase_run pen.form (suc (blank_run a xs)) (drop (blank_run a xs) ys)))
    (cells_written r (c + 1) (pen_in pen.form r c a) (wrapped_after_erasure wrapped (drop (blank_run a xs) ys))
    (blank_run a xs) xs ys)
cells_written r c pen wrapped zero (glyph text wide a ∷ xs) (y ∷ ys) =
    if same_cell (glyph text wide a) y then cells_written r (c + 1) pen wrapped (glyph_columns wide - 1) xs ys
    else ops_then (placed_op pen r c a (Print text))
    (cells_written r (c + 1) (pen_past pen.form r (c + glyph_columns wide) a text)
    (wrapped_after_glyph wrapped wide (drop 1 ys)) (glyph_columns wide - 1) xs ys)

-- ---- the last glyph of a row whose last column is not blank

abbrev pub last_column : List CellValue → ℕ
last_column cells = if is_right_half (at cells (length cells - 1)) then length cells - 2 else length cells - 1

abbrev pub last_glyph : List CellValue → CellValue
last_glyph cells = at cells (last_column cells)

abbrev pub is_at : Pen → ℕ → ℕ → Bool
is_at pen row col = (pen.row == row) && (pen.col == col)

-- The pen after the last glyph of the given row has been printed.
abbrev pub pen_after : Form → ℕ → List CellValue → Pen
pen_after form r cells =
    pen_past form r (length cells) (attrs_of (last_glyph cells)) (text_of (last_glyph cells))

-- The operations that print the last glyph of the given row again, unless the pen is already after it.
abbrev pub after_last_glyph : ℕ → Pen → List CellValue → Scripted
after_last_glyph r pen cells =
    if is_at pen r (length cells) then no_ops pen true
    else record {
      ops = placed_op pen r (last_column cells) (attrs_of (last_glyph cells)) (Print (text_of (last_glyph cells)));
      pen = pen_after pen.form r cells;
      wrapped = true;
    }

-- ---- the link of a row to a wrapped row above it

-- A list of operations, the state of the terminal after these operations, and the number of cells at the beginning of
-- the row that the operations have drawn.
pub record Linked : Type 0 where
  pub ops : List Op
  pub pen : Pen
  pub wrapped : Bool
  pub settled : ℕ

abbrev pub no_link : Pen → Bool → Linked
no_link pen wrapped = record { ops = []; pen = pen; wrapped = wrapped; settled = 0 }

-- The operations that make the terminal wrap into row `r`, so that a glyph can be printed in its first column. Printing
-- the glyph wraps by itself, unless terminals may differ in where the cursor is. Then a space is printed instead, and the
-- cursor is moved to the glyph's position.
abbrev pub wrap_ops : ℕ → Pen → List Op
wrap_ops r pen = if pen.is_shifted then Print (0x20 ∷ []) ∷ MoveTo r 0 ∷ [] else []

-- The output for the first cell of a row while a wrap is pending in the row above. A blank is printed as a space, which
-- is then erased.
abbrev pub first_written : ℕ → Pen → Bool → (xs ys : List CellValue) → Linked
first_written r pen wrapped [] ys = no_link pen wrapped
first_written r pen wrapped (x ∷ xs) [] = no_link pen wrapped
first_written r pen wrapped (right_half ∷ xs) (y ∷ ys) = no_link pen wrapped
first_written r pen wrapped (blank a ∷ xs) (y ∷ ys) = record {
  ops = attr_ops_in pen.form pen.attrs a ++ Print (0x20 ∷ []) ∷ back_op pen.form r 0 ∷ EraseChars 1 ∷ [];
  pen = pen_in pen.form r 0 a;
  wrapped = wrapped && not (is_nil ys);
  settled = 1;
}
first_written r pen wrapped (glyph text wide a ∷ xs) (y ∷ ys) = record {
  ops = attr_ops_in pen.form pen.attrs a ++ (wrap_ops r pen ++ Print text ∷ []);
  pen = pen_past pen.form r (glyph_columns wide) a text;
  wrapped = wrapped_after_glyph wrapped wide (drop 1 ys);
  settled = glyph_columns wide;
}

-- Whether the row begins with a glyph that is not yet at the beginning of the terminal's row.
abbrev pub starts_other : List CellValue → List CellValue → Bool
starts_other [] ys = false
starts_other (x ∷ xs) [] = false
starts_other (x ∷ xs) (y ∷ ys) = is_glyph x && not (same_cell x y)

abbrev pub ops_then_link : List Op → Linked → Linked
ops_then_link ops link =
    record { ops = ops ++ link.ops; pen = link.pen; wrapped = link.wrapped; settled = link.settled }

-- The link from the wrapped row `r`, whose cells are `above`, to the next row: output that makes the terminal wrap from
-- row `r` into the next row. Empty if row `r` of the terminal is already wrapped (`wrapped_above` is true), unless a
-- wrap is pending in row `r` and the next row must begin with a glyph that the terminal does not display there yet.
unfoldable pub row_link : ℕ → Pen → (above : List CellValue) →
    (wrapped_above : Bool) → (wrapped : Bool) → (xs ys : List CellValue) → Linked
row_link r pen above wrapped_above wrapped xs ys =
    if not wrapped_above || (is_at pen r (length above) && starts_other xs ys)
    then ops_then_link (after_last_glyph r pen above).ops
    (first_written (r + 1) (after_last_glyph r pen above).pen wrapped xs ys)
    else no_link pen wrapped

-- ---- the break before the row below

-- The break after a row: output that clears the wrapped flag of the terminal's row by erasing the row's last glyph and
-- printing it again.
abbrev pub break_ops : ℕ → Pen → List CellValue → Scripted
break_ops r pen cells = record {
  ops =
      move_ops pen r (last_column cells)
      ++ (EraseChars (erased_count pen.form (length cells - last_column cells))
      ∷ (attr_ops_in pen.form pen.attrs (attrs_of (last_glyph cells)) ++ Print (text_of (last_glyph cells)) ∷ []));
  pen = pen_after pen.form r cells;
  wrapped = false;
}

unfoldable pub row_break : ℕ → Pen → (wrapped wanted : Bool) → List CellValue → Scripted
row_break r pen wrapped wanted cells = if wrapped && not wanted then break_ops r pen cells else no_ops pen wrapped
