-- What is known of the terminals that read output, besides the picture that they display: where they may differ.
use Rattle.std.specs.Prelude.{◌≡◌, ◌&&◌, ℕ, nat_lt, not, Bool, false, List, if◌then◌else◌}
use Rattle.vt_cells.specs.Cell.{CellValue, text_of}
use Rattle.vt_rows.specs.Cells.{ends_blank}
use Rattle.vt_rows.specs.Row.{RowValue}
use Rattle.vt_grid.specs.Page.{row_or}
use Rattle.vt_redraw.specs.Picture.{Picture}
use Rattle.vt_redraw.specs.Script.{last_glyph, shifts}
use Rattle.vt_redraw.specs.declared.form.Form.TheVariants.{Portable}

-- Whether a wrap is pending on the terminals that read output. Printing in the last column makes a wrap pending: on
-- some terminals, the cursor is then after the last column; on those with the DEC terminals' last column flag, it stays
-- in the last column.
pub data Wrap : Type 0 where
  NotPending : Wrap
  Pending : Wrap
  -- The cursor is in or after the last column, and terminals differ in whether a wrap is pending: DECRC restores the
  -- flag on some terminals (VT510 manual: DECSC), and LF clears it on some.
  Unsure : Wrap

-- In what the terminals that read output may differ.
pub record Doubts : Type 0 where
  pub wrap : Wrap
  -- Terminals may differ in the cursor's position, since a glyph was printed on whose width they may disagree.
  pub is_shifted : Bool
  -- The last element printed a character, so that a combining character joins its glyph, and REP repeats it. After any
  -- other element, terminals differ in both.
  pub is_after_character : Bool

-- Terminals agree on the cursor's position, and no wrap is pending on any of them.
pub record IsPlaced (doubts : Doubts) : Type 0 where
  pub wrap : doubts.wrap ≡ NotPending
  pub place : doubts.is_shifted ≡ false

-- Terminals agree on the cursor's position, no wrap is pending, and the last element printed no character.
abbrev pub no_doubts : Doubts
no_doubts = record { wrap = NotPending; is_shifted = false; is_after_character = false }

-- Whether a wrap is pending, given the cursor's column and the number of columns.
abbrev pub wrap_at : (column width : ℕ) → Wrap
wrap_at column width = if nat_lt column width then NotPending else Pending

-- Whether the row ends with a glyph on whose width terminals may disagree.
abbrev pub ends_uncertain : List CellValue → Bool
ends_uncertain cells = not (ends_blank cells) && shifts Portable (text_of (last_glyph cells))

-- Whether a wrap is pending after a glyph on whose width terminals may disagree, on a page of the given width and rows
-- whose cursor is at the given position. On terminals to which the glyph is wider, it is in the next row.
unfoldable pub is_past_uncertain : (width row column : ℕ) → List RowValue → Bool
is_past_uncertain width row column rows =
    not (nat_lt column width) && ends_uncertain (row_or width rows row).cells

-- The doubts about the terminals that display the picture. A wrap that is pending in a row that ends with a glyph was
-- made pending by printing that glyph. In a row that ends with a blank, only DECRC or LF can have made it pending.
unfoldable pub doubts_of : Picture → Doubts
doubts_of picture = record {
  wrap = if nat_lt picture.column picture.width then NotPending
      else if ends_blank (row_or picture.width picture.rows picture.row).cells then Unsure else Pending;
  is_shifted = is_past_uncertain picture.width picture.row picture.column picture.rows;
  is_after_character = false;
}
