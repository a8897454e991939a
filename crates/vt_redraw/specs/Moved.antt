-- Moving rows of a terminal before a diff is drawn, and the picture displayed after the move.
use Rattle.std.specs.Prelude.{◌≡◌, ◌⊎◌, ℕ, ◌+◌, ◌-◌, ◌<◌, ◌≤◌, ◌==◌, ◌&&◌, nat_le, nat_lt}
use Rattle.std.specs.Prelude.{List, ◌++◌, length, if◌then◌else◌}
use Rattle.vt_cells.specs.Attrs.{default_attrs}
use Rattle.vt_cells.specs.Op.{MoveTo, bytes_of, bytes_of_all, counted}
use Rattle.vt_rows.specs.Row.{RowValue}
use Rattle.vt_grid.specs.Page.{moved_rows}
use Rattle.vt_grid.specs.Shifts.{unflagged}
use Rattle.vt_redraw.specs.Picture.{Picture}
use Rattle.vt_redraw.specs.Redraw.{difference_in}
use Rattle.vt_redraw.specs.Script.{attr_ops}
use Rattle.vt_redraw.specs.declared.band.Band.{Band}
use Rattle.vt_redraw.specs.declared.form.Form.{Form}

-- The band lies within a picture of `height` rows and moves by at least one row and at most its own height. If it moves
-- by its whole height, all its rows become blank.
pub record IsBand (height : ℕ) (band : Band) : Type 0 where
  pub nonempty : 0 < band.count
  pub rows : band.top + band.count ≤ band.bottom
  pub inside : band.bottom ≤ height

-- The index that row `r` of a band had before the band moved, or `past` if row `r` is blank after the move.
abbrev pub source_within : Band → (past r : ℕ) → ℕ
source_within band past r =
    if band.up
    then (if nat_lt (r + band.count) band.bottom then r + band.count else past)
    else (if nat_le (band.top + band.count) r then r - band.count else past)

abbrev pub band_source : Band → (past r : ℕ) → ℕ
band_source band past r =
    if nat_le band.top r && nat_lt r band.bottom then source_within band past r else r

-- The rows after a band of them has moved. Rows that the band vacates are filled with default blanks, and the last row
-- is marked as not wrapped.
unfoldable pub rows_moved : (width : ℕ) → Band → List RowValue → List RowValue
rows_moved width band rows =
    unflagged width (length rows - 1) (moved_rows width (band_source band (length rows)) rows)

-- The row that contains the cursor after a band of a picture with `height` rows has been moved.
abbrev pub last_moved : (height : ℕ) → Band → ℕ
last_moved height band =
    if band.bottom == height then band.top
    else if band.up then band.bottom - band.count
    else band.top

-- The picture displayed after the terminal reads the sequences that move a band. The cursor is in the first column of
-- the row that `last_moved` returns. The attributes are the defaults, because a terminal may fill blank rows with the
-- current background color.
abbrev pub picture_after_move : Band → Picture → Picture
picture_after_move band picture = record picture {
  rows = rows_moved picture.width band picture.rows;
  row = last_moved (length picture.rows) band;
  column = 0;
  attrs = default_attrs;
}

-- ---- the sequences

-- The sequences that move the cursor to row `row` and delete `count` rows there (DL).
abbrev pub lines_deleted_text : (row count : ℕ) → List ℕ
lines_deleted_text row count = bytes_of (MoveTo row 0) ++ counted count 0x4D

-- The sequences that move the cursor to row `row` and insert `count` rows there (IL).
abbrev pub lines_inserted_text : (row count : ℕ) → List ℕ
lines_inserted_text row count = bytes_of (MoveTo row 0) ++ counted count 0x4C

-- The sequences that move a band up. Rows are deleted at its top, and the same number of rows is inserted at its
-- bottom, so that the rows below the band don't move. If the band ends with the last row, no rows are inserted.
unfoldable pub up_text : (height : ℕ) → Band → List ℕ
up_text height band =
    if band.bottom == height then lines_deleted_text band.top band.count
    else lines_deleted_text band.top band.count ++ lines_inserted_text (band.bottom - band.count) band.count

-- The sequences that move a band down. Rows are deleted at its bottom, and the same number of rows is inserted at its
-- top, so that the rows below the band don't move. If the band ends with the last row, no rows are deleted.
unfoldable pub down_text : (height : ℕ) → Band → List ℕ
down_text height band =
    if band.bottom == height then lines_inserted_text band.top band.count
    else lines_deleted_text (band.bottom - band.count) band.count ++ lines_inserted_text band.top band.count

-- The sequences that move a band up or down, depending on the band's direction.
abbrev pub band_text : (height : ℕ) → Band → List ℕ
band_text height band = if band.up then up_text height band else down_text height band

-- The sequences that move a band, preceded by a change to the default attributes.
abbrev pub moving_text : Band → Picture → List ℕ
moving_text band prev = bytes_of_all (attr_ops prev.attrs default_attrs) ++ band_text (length prev.rows) band

-- The sequences that move a band, followed by the output in the given form that turns the picture displayed after the
-- move into `self`.
abbrev pub scrolling_text : Form → Band → (self prev : Picture) → List ℕ
scrolling_text form band self prev =
    moving_text band prev ++ bytes_of_all (difference_in form self (picture_after_move band prev))

-- The text is a diff in the given form from `prev` to `self`: either one that moves no rows, or one that first moves a
-- band.
abbrev pub IsScrolling : Form → (self prev : Picture) → List ℕ → Type 0
IsScrolling form self prev text =
    (text ≡ bytes_of_all (difference_in form self prev))
    ⊎ ((band : Band) × IsBand (length prev.rows) band × (text ≡ scrolling_text form band self prev))
