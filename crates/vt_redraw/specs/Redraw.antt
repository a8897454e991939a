-- The diff between two pictures, and the redraw of one picture, as lists of operations.
use Rattle.std.specs.Prelude.{ℕ, suc, zero, ◌+◌, ◌-◌, ◌&&◌, nat_lt, Bool, false, List, [], ◌∷◌}
use Rattle.std.specs.Prelude.{◌++◌, length, replicate, Option, Some, None, if◌then◌else◌}
use Rattle.vt_cells.specs.Attrs.{default_attrs, same_bool, Attrs}
use Rattle.vt_cells.specs.Cell.{CellValue, attrs_of, text_of}
use Rattle.vt_cells.specs.Op.{Op, Hide, ClearAttrs, MoveTo, EraseBelow, EraseChars}
use Rattle.vt_cells.specs.Op.{LineFeed, SaveCursor, RestoreCursor, Print}
use Rattle.vt_rows.specs.Cells.{at, ends_blank}
use Rattle.vt_rows.specs.Row.{RowValue, blank_row}
use Rattle.vt_grid.specs.Page.{row_or}
use Rattle.vt_redraw.specs.Script.{pen_in, move_ops, attr_ops, attr_ops_in, back_op}
use Rattle.vt_redraw.specs.declared.form.Form.{Form}
use Rattle.vt_redraw.specs.declared.form.Form.TheVariants.{Fixed, Portable}
use Rattle.vt_redraw.specs.declared.pen.Pen.{Pen}
use Rattle.vt_redraw.specs.Doubts.{is_past_uncertain}
use Rattle.vt_redraw.specs.Picture.{Picture}
use Rattle.vt_redraw.specs.Script.{Scripted, after_last_glyph, is_at, last_column, no_ops, ops_then}
use Rattle.vt_redraw.specs.Script.{last_glyph, cells_written, Linked, no_link, row_link, row_break}

-- ---- the rows, from top to bottom

-- The output for row `r`: the row's cells, except for the first `settled` cells, followed by the row break, that is, the
-- output that clears the wrapped flag if the row must not be wrapped.
unfoldable pub row_written : (r settled : ℕ) → Pen → Bool → RowValue → List CellValue → Scripted
row_written r settled pen wrapped x ys =
    let cells = cells_written r 0 pen wrapped settled x.cells ys in
    ops_then cells.ops (row_break r cells.pen cells.wrapped x.wrapped x.cells)

-- The output that joins row `r` to the next row if the picture's row `above` is wrapped and the terminal must be made
-- to wrap (see `row_link`); otherwise empty.
abbrev pub link_of : ℕ → Pen → RowValue → Bool → RowValue → RowValue → Linked
link_of r pen above wrapped_above x y =
    if above.wrapped then row_link r pen above.cells wrapped_above y.wrapped x.cells y.cells else no_link pen y.wrapped

-- The output that turns the rows `ys`, which the terminal displays below row `r`, into the rows `xs`. `above` is row
-- `r` of the new picture, and `wrapped_above` is true if row `r` of the terminal is wrapped.
unfoldable pub rows_below : ℕ → Pen → RowValue → Bool → (xs ys : List RowValue) → Scripted
rows_below r pen above wrapped_above [] ys = no_ops pen wrapped_above
rows_below r pen above wrapped_above (x ∷ xs) [] = no_ops pen wrapped_above
rows_below r pen above wrapped_above (x ∷ xs) (y ∷ ys) =
    let link = link_of r pen above wrapped_above x y in
    let row = row_written (r + 1) link.settled link.pen link.wrapped x y.cells in
    ops_then (link.ops ++ row.ops) (rows_below (r + 1) row.pen x row.wrapped xs ys)

unfoldable pub rows_written : Pen → (xs ys : List RowValue) → Scripted
rows_written pen [] ys = no_ops pen false
rows_written pen (x ∷ xs) [] = no_ops pen false
rows_written pen (x ∷ xs) (y ∷ ys) =
    let row = row_written 0 0 pen y.wrapped x y.cells in
    ops_then row.ops (rows_below 0 row.pen x row.wrapped xs ys)

-- ---- the cursor

-- The nearest row at or above the given row whose last column is not blank; `None` if there is no such row.
abbrev pub nearest : ℕ → List RowValue → ℕ → Option ℕ
nearest width rows zero = if ends_blank (row_or width rows 0).cells then None else Some 0
nearest width rows (suc n) = if ends_blank (row_or width rows (suc n)).cells then nearest width rows n else Some (suc n)

-- The operations that make a wrap pending when the cursor is in the last column, `c`, of row `r` and the column holds a
-- blank with the attributes `attrs`: a space is printed and then erased. The pen has the attributes `was` before and
-- afterward.
abbrev pub blank_passed : Form → (r c : ℕ) → (was attrs : Attrs) → List Op
blank_passed form r c was attrs =
    Print (0x20 ∷ [])
    ∷ (attr_ops_in form was attrs
    ++ (SaveCursor ∷ back_op form r c ∷ EraseChars 1 ∷ RestoreCursor ∷ attr_ops_in form attrs was))

-- The operations that make a wrap pending at the end of row `r`, whose last column is a blank with the given
-- attributes.
unfoldable pub over_blank : Pen → (r width : ℕ) → Attrs → List Op
over_blank pen r width attrs = move_ops pen r (width - 1) ++ blank_passed pen.form r (width - 1) pen.attrs attrs

-- The operations that make a wrap pending at the end of row `r` by printing the last glyph of row `i` and then moving
-- down to row `r`.
unfoldable pub under_last : Pen → (i r : ℕ) → List CellValue → List Op
under_last pen i r cells =
    (after_last_glyph i pen cells).ops
    ++ (attr_ops_in pen.form (after_last_glyph i pen cells).pen.attrs pen.attrs ++ replicate (r - i) LineFeed)

-- Whether line feeds must not follow a glyph. In the portable form, they must not if terminals may differ in where the
-- cursor is after the glyph.
abbrev pub strays : Form → (is_shifted : Bool) → Bool
strays Fixed is_shifted = false
strays Portable is_shifted = is_shifted

-- The operations that make a wrap pending at the end of row `r`. `found` is the nearest row at or above row `r` whose
-- last column is not blank.
abbrev pub pending_at : (found : Option ℕ) → Pen → ℕ → List RowValue → ℕ → List Op
pending_at None pen width rows r = over_blank pen r width (attrs_of (at (row_or width rows r).cells (width - 1)))
pending_at (Some i) pen width rows r =
    if strays pen.form (after_last_glyph i pen (row_or width rows i).cells).pen.is_shifted && nat_lt i r
    then over_blank pen r width (attrs_of (at (row_or width rows r).cells (width - 1)))
    else under_last pen i r (row_or width rows i).cells

-- The operations that move the cursor to its final position; the pen's attributes are unchanged.
unfoldable pub cursor_written : Pen → ℕ → List RowValue → (row column : ℕ) → List Op
cursor_written pen width rows row column =
    if nat_lt column width then move_ops pen row column
    else if is_at pen row column then []
    else pending_at (nearest width rows row) pen width rows row

-- ---- whole pictures

-- Whether terminals that display a picture with the given width, cursor and rows may differ in the cursor's position. The
-- fixed form does not take this into account.
abbrev pub starts_shifted : Form → (width row column : ℕ) → List RowValue → Bool
starts_shifted Fixed width row column rows = false
starts_shifted Portable width row column rows = is_past_uncertain width row column rows

-- The pen for terminals that display the picture.
abbrev pub pen_of : Form → Picture → Pen
pen_of form picture = record (pen_in form picture.row picture.column picture.attrs) {
  is_shifted = starts_shifted form picture.width picture.row picture.column picture.rows;
}

-- The operations that turn the picture `prev` into `self`: first its rows, then its cursor and attributes.
unfoldable pub script_in : Form → (self prev : Picture) → List Op
script_in form self prev =
    let written = rows_written (pen_of form prev) self.rows prev.rows in
    written.ops
    ++ (cursor_written written.pen self.width self.rows self.row self.column
    ++ attr_ops_in form written.pen.attrs self.attrs)

-- The operations of `script_in` in the fixed form.
abbrev pub script : (self prev : Picture) → List Op
script self prev = script_in Fixed self prev

abbrev pub cursor_visibility_ops : (self prev : Picture) → List Op
cursor_visibility_ops self prev = if same_bool self.hidden prev.hidden then [] else Hide self.hidden ∷ []

unfoldable pub difference_in : Form → (self prev : Picture) → List Op
difference_in form self prev = cursor_visibility_ops self prev ++ script_in form self prev

-- The operations of `difference_in` in the fixed form.
abbrev pub difference : (self prev : Picture) → List Op
difference self prev = difference_in Fixed self prev

-- The blank picture of the same size as the given picture.
abbrev pub blank_like : Picture → Picture
blank_like picture = record {
  rows = replicate (length picture.rows) (blank_row default_attrs picture.width);
  width = picture.width;
  row = 0;
  column = 0;
  attrs = default_attrs;
  hidden = picture.hidden;
}

unfoldable pub redraw_in : Form → Picture → List Op
redraw_in form self =
    Hide self.hidden ∷ ClearAttrs ∷ MoveTo 0 0 ∷ EraseBelow ∷ script_in form self (blank_like self)

-- The operations of `redraw_in` in the fixed form.
abbrev pub redraw : Picture → List Op
redraw self = redraw_in Fixed self

-- ---- the cursor alone, for a terminal whose cursor position is unknown

abbrev pub pending_alone : Option ℕ → ℕ → List RowValue → ℕ → List Op
pending_alone None width rows r =
    MoveTo r (width - 1)
    ∷ blank_passed Fixed r (width - 1) default_attrs (attrs_of (at (row_or width rows r).cells (width - 1)))
pending_alone (Some i) width rows r =
    let cells = (row_or width rows i).cells in
    MoveTo i (last_column cells)
    ∷ (attr_ops default_attrs (attrs_of (last_glyph cells))
    ++ Print (text_of (last_glyph cells))
    ∷ (attr_ops (attrs_of (last_glyph cells)) default_attrs ++ replicate (r - i) LineFeed))

abbrev pub cursor_alone : Picture → List Op
cursor_alone self =
    if nat_lt self.column self.width then MoveTo self.row self.column ∷ []
    else pending_alone (nearest self.width self.rows self.row) self.width self.rows self.row

-- The operations that set the cursor's visibility and position on a terminal that already displays the picture's
-- rows and has default attributes.
unfoldable pub cursor_state : Picture → List Op
cursor_state self = Hide self.hidden ∷ cursor_alone self

-- ---- pictures in sequence

-- The operations that display the pictures of a list one after another: the diff from the given picture to the first
-- picture of the list, and then from each picture of the list to the next.
abbrev pub differences : Picture → List Picture → List Op
differences prev [] = []
differences prev (x ∷ xs) = difference x prev ++ differences x xs

abbrev pub last_picture : Picture → List Picture → Picture
last_picture self [] = self
last_picture self (x ∷ xs) = last_picture x xs
