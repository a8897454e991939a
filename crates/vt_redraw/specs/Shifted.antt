-- Inserting or deleting columns in rows of a terminal before a diff is drawn, and the picture displayed after these
-- shifts.
use Rattle.std.specs.Prelude.{◌≡◌, ◌⊎◌, ℕ, ◌+◌, ◌<◌, ◌≤◌, List, [], ◌∷◌, ◌++◌, length, slice_set, if◌then◌else◌}
use Rattle.std.specs.List.{AllByRecursion, flat_map}
use Rattle.vt_cells.specs.Attrs.{default_attrs}
use Rattle.vt_cells.specs.Op.{MoveTo, bytes_of, bytes_of_all, counted}
use Rattle.vt_rows.specs.Row.{RowValue, deleted_row, inserted_row}
use Rattle.vt_grid.specs.Page.{Page, row_at, row_or, with_row}
use Rattle.vt_redraw.specs.Picture.{Picture}
use Rattle.vt_redraw.specs.Redraw.{difference}
use Rattle.vt_redraw.specs.Script.{attr_ops}
use Rattle.vt_redraw.specs.Moved.{IsBand, IsScrolling}
use Rattle.vt_redraw.specs.declared.band_guess.Move.{Move}
use Rattle.vt_redraw.specs.declared.band_guess.Move.TheVariants.{Rows, Columns}
use Rattle.vt_redraw.specs.declared.form.Form.{Form}
use Rattle.vt_redraw.specs.declared.form.Form.TheVariants.{Fixed}
use Rattle.vt_redraw.specs.declared.row_shift.RowShift.{RowShift}

-- The shift inserts or deletes at least one column and lies within a picture of the given size.
pub record IsRowShift (height width : ℕ) (shift : RowShift) : Type 0 where
  pub nonempty : 0 < shift.count
  pub row : shift.row < height
  pub columns : shift.col + shift.count ≤ width

-- The move is valid for output in the given form and a picture of the given size: it is a valid move of a band
-- (`IsBand`) or, in the fixed form, a valid shift of columns (`IsRowShift`).
abbrev pub IsMove : Form → (height width : ℕ) → Move → Type 0
IsMove form height width (Rows band) = IsBand height band
IsMove form height width (Columns shift) = (form ≡ Fixed) × IsRowShift height width shift

-- A row after a shift has inserted blanks into it or deleted columns from it.
abbrev pub shifted_row : RowShift → RowValue → RowValue
shifted_row shift row =
    if shift.insert then inserted_row shift.col shift.count row else deleted_row shift.col shift.count row

-- A page after a shift. The cursor is where the columns were inserted or deleted.
abbrev pub shifted_page : RowShift → Page → Page
shifted_page shift page =
    with_row shift.row (shifted_row shift (row_at page shift.row))
    (record page { row = shift.row; column = shift.col })

-- A page after the given shifts are applied in order.
abbrev pub shifted_pages : List RowShift → Page → Page
shifted_pages [] page = page
shifted_pages (shift ∷ shifts) page = shifted_pages shifts (shifted_page shift page)

-- A picture after a shift. The cursor is where the columns were inserted or deleted.
abbrev pub shifted : RowShift → Picture → Picture
shifted shift picture = record picture {
  rows = slice_set picture.rows shift.row (shifted_row shift (row_or picture.width picture.rows shift.row));
  row = shift.row;
  column = shift.col;
}

-- A picture after the given shifts are applied in order.
abbrev pub shifted_all : List RowShift → Picture → Picture
shifted_all [] picture = picture
shifted_all (shift ∷ shifts) picture = shifted_all shifts (shifted shift picture)

-- The picture with its current attributes reset to the defaults; its cells are unchanged. The attributes are reset
-- before columns are shifted, because a terminal may fill inserted columns with the current background color.
abbrev pub in_default_attrs : Picture → Picture
in_default_attrs picture = record picture { attrs = default_attrs }

-- ---- the sequences

-- The sequences that move the cursor to where a shift begins, and insert blanks (ICH) or delete columns (DCH) there.
abbrev pub shift_text : RowShift → List ℕ
shift_text shift =
    bytes_of (MoveTo shift.row shift.col) ++ counted shift.count (if shift.insert then 0x40 else 0x50)

-- The sequences that perform the given shifts in order.
abbrev pub shifts_text : List RowShift → List ℕ
shifts_text shifts = flat_map shift_text shifts

-- The output that changes to the default attributes, performs several shifts, and then turns the picture displayed
-- after the shifts into `self`.
abbrev pub shifting_text : List RowShift → (self prev : Picture) → List ℕ
shifting_text shifts self prev =
    bytes_of_all (attr_ops prev.attrs default_attrs)
    ++ (shifts_text shifts ++ bytes_of_all (difference self (shifted_all shifts (in_default_attrs prev))))

-- The text is a diff from `prev` to `self` that first makes one or more column shifts.
pub record IsShifting (self prev : Picture) (text : List ℕ) : Type 0 where
  pub first : RowShift
  pub rest : List RowShift
  pub inside : AllByRecursion (IsRowShift (length prev.rows) prev.width) (first ∷ rest)
  pub bytes : text ≡ shifting_text (first ∷ rest) self prev

-- The text is a diff in the given form from `prev` to `self` that may first move a band of rows or, in the fixed form,
-- shift columns.
abbrev pub IsMoving : Form → (self prev : Picture) → List ℕ → Type 0
IsMoving form self prev text = IsScrolling form self prev text ⊎ ((form ≡ Fixed) × IsShifting self prev text)
