-- The output that draws each row of a screen on another terminal, and its effect on the terminals that read it.
use Rattle.std.specs.Prelude.{◌≡◌, ℕ, List, [], ◌∷◌, Option, None, Some, Result, String, IfErr, IfOk, string_bytes, ◌≢◌}
use Rattle.std.specs.Prelude.{◌+◌, ◌-◌, ◌<◌, ◌≤◌, min, false, true, length, map, slice_index_or}
use Rattle.std.specs.List.{range_with_len}
use Rattle.vt_cells.specs.declared.error.Error.{Error}
use Rattle.vt_cells.specs.declared.error.Error.TheVariants.{OutOfMemory}
use Rattle.vt_cells.specs.Attrs.{default_attrs}
use Rattle.vt_cells.specs.Op.{bytes_of_all}
use Rattle.vt_rows.specs.Cells.{ends_blank}
use Rattle.vt_rows.specs.Row.{RowValue, blank_row}
use Rattle.vt_grid.specs.Page.{row_at}
use Rattle.vt_redraw.specs.Refusals.{RefusedOnlyIfSome}
use Rattle.vt_redraw.specs.Items.{CutsNone, is_linked, item_of_difference, item_of_redraw, with_range}
use Rattle.vt_redraw.specs.Locality.{row_of_picture}
use Rattle.vt_redraw.specs.Picture.{Picture}
use Rattle.vt_screen.specs.Screen.{ScreenValue}
use Rattle.vt_screen.specs.Shown.{IsReader, Turns, display}

-- ==== The items of an iterator over the rows of a screen.

-- The effect of a call to an iterator's `next`: the call returns the next string or, if that string is not empty and
-- cannot be allocated, skips it and returns an error. After the last string, every call returns `None`.
module _ {S A : Type 0} (left : S → List (List ℕ)) where
  abbrev pub GivesText : S → Option (Result (String A) Error) → S → Type 0
  GivesText old None new = (left old ≡ []) × (left new ≡ [])
  GivesText old (Some item) new =
      (text : List ℕ) × (left old ≡ text ∷ left new)
      × IfOk item (λ string. string_bytes string ≡ text) × IfErr item (λ error. error ≡ OutOfMemory)
      × RefusedOnlyIfSome item text

-- ==== The output that draws each row of a screen on another terminal, and its effect on the terminals that read it.

-- The row at the given index of a screen's picture.
abbrev pub shown_row : ScreenValue → ℕ → RowValue
shown_row screen r = row_of_picture (display screen) r

-- ---- the output

-- The end of a range of `width` columns that starts at column `start`, clamped to the number of columns of the screen.
abbrev pub range_end : (start width columns : ℕ) → ℕ
range_end start width columns = min (start + width) columns

-- The output that draws a range of columns of row `r` of a picture on a terminal whose row `r` is blank.
abbrev pub formatted_text : (start stop : ℕ) → Picture → ℕ → List ℕ
formatted_text start stop picture r =
    bytes_of_all (item_of_redraw r start stop (is_linked picture.width picture.rows r) (row_of_picture picture r)).ops

-- The output that draws a range of columns of row `r` of a picture on a terminal that displays row `r` of the picture
-- `prev`.
abbrev pub changed_text : (start stop : ℕ) → (picture prev : Picture) → ℕ → List ℕ
changed_text start stop picture prev r =
    bytes_of_all (item_of_difference r start stop (row_of_picture picture r) (row_of_picture prev r)).ops

-- The outputs for the rows `r` to `height - 1`, given a function from a row's index to the row's output.
abbrev pub texts_from : (ℕ → List ℕ) → (r height : ℕ) → List (List ℕ)
texts_from text r height = map text (range_with_len r (height - r))

-- For each row of a screen, the output that draws `width` columns of the row, starting at column `start`, on a terminal
-- whose corresponding row is blank.
abbrev pub formatted_rows : (start width : ℕ) → ScreenValue → List (List ℕ)
formatted_rows start width screen =
    texts_from (formatted_text start (range_end start width screen.page.width) (display screen)) 0
    (length screen.page.rows)

-- For each row of a screen, the output that draws `width` columns of the row, starting at column `start`, on a terminal
-- that displays the corresponding row of the screen `prev`.
abbrev pub changed_rows : (start width : ℕ) → (screen prev : ScreenValue) → List (List ℕ)
changed_rows start width screen prev =
    texts_from (changed_text start (range_end start width screen.page.width) (display screen) (display prev)) 0
    (length screen.page.rows)

-- The output at the given row index in a list of outputs, or empty output if the index is past the end.
abbrev pub text_at : List (List ℕ) → ℕ → List ℕ
text_at texts r = slice_index_or texts r []

-- ---- the terminals that read a row's output

-- The terminal is plain, has default attributes and the picture's size, and has `stood` as its row `r`. The cursor is
-- in column `c` of that row.
pub record IsRowReader (picture : Picture) (r c : ℕ) (stood : RowValue) (reader : ScreenValue) : Type 0 where
  pub is : IsReader picture reader
  pub row : reader.page.row ≡ r
  pub column : reader.page.column ≡ c
  pub attrs : reader.attrs ≡ default_attrs
  pub stands : row_at reader.page r ≡ stood

-- The terminal is plain, has default attributes and the picture's size, and its row `r` is blank. The cursor is in
-- column `c` of that row.
abbrev pub IsBlankReader : Picture → (r c : ℕ) → ScreenValue → Type 0
IsBlankReader picture r c reader = IsRowReader picture r c (blank_row default_attrs picture.width) reader

-- The terminal is plain, has default attributes and the picture's size, and has a wrap pending after a glyph at the end
-- of row `r`. The row below is blank.
pub record IsWrapReader (picture : Picture) (r : ℕ) (reader : ScreenValue) : Type 0 where
  pub is : IsReader picture reader
  pub row : reader.page.row ≡ r
  pub column : reader.page.column ≡ picture.width
  pub attrs : reader.attrs ≡ default_attrs
  pub full : ends_blank (row_at reader.page r).cells ≡ false
  pub below : row_at reader.page (r + 1) ≡ blank_row default_attrs picture.width

-- ---- the effect of a row's output on the terminals that read it

-- In the columns `start..stop`, row `r` has the cells of the row `shows`; its other cells are unchanged. All other rows
-- are unchanged, including whether they are wrapped.
pub record HasRange (start stop r : ℕ) (shows : RowValue) (reader after : ScreenValue) : Type 0 where
  pub cells : (row_at after.page r).cells ≡ with_range start stop shows.cells (row_at reader.page r).cells
  pub others : (k : ℕ) → k ≢ r → row_at after.page k ≡ row_at reader.page k
  pub height : length after.page.rows ≡ length reader.page.rows

-- The terminal's row at the given index is not wrapped after the terminal has read the output.
abbrev pub IsUnwrapped : ℕ → (reader after : ScreenValue) → Type 0
IsUnwrapped r reader after = (row_at after.page r).wrapped ≡ false

-- Row `r + 1` has the cells of the row `shows` and is not wrapped, and row `r` is wrapped. No other row has changed.
pub record HasLinked (r : ℕ) (shows : RowValue) (reader after : ScreenValue) : Type 0 where
  pub below : row_at after.page (r + 1) ≡ record { cells = shows.cells; wrapped = false }
  pub above : row_at after.page r ≡ record (row_at reader.page r) { wrapped = true }
  pub others : (k : ℕ) → k ≢ r → k ≢ r + 1 → row_at after.page k ≡ row_at reader.page k
  pub height : length after.page.rows ≡ length reader.page.rows

-- On every terminal that satisfies `IsRowReader` with `stood` as its row `r` and the cursor in column `start` of that
-- row, the output turns the `width` columns from `start` on into those of row `r` of the screen.
abbrev pub DrawsRow : (start width : ℕ) → ScreenValue → (r : ℕ) → (stood : RowValue) → List ℕ → Type 0
DrawsRow start width screen r stood text =
    Turns (IsRowReader (display screen) r start stood) text
    (HasRange start (range_end start width screen.page.width) r (shown_row screen r))

-- ---- the rows and column ranges that clauses are limited to

-- The range of `width` columns starting at `start` covers the whole row of `columns` columns.
abbrev pub IsWholeRow : (start width columns : ℕ) → Type 0
IsWholeRow start width columns = (start ≡ 0) × (columns ≤ width)

-- The given predicate holds for each row of a screen's picture in which the range of `width` columns starting at
-- `start` splits no wide character.
abbrev pub EachUncut : (start width : ℕ) → ScreenValue → (ℕ → Type 0) → Type 0
EachUncut start width screen P =
    (r : ℕ) → r < length (display screen).rows
    → CutsNone start (range_end start width screen.page.width) (shown_row screen r).cells → P r

-- The given predicate holds for each wrapped row of a screen's picture except the last row.
abbrev pub EachLinked : ScreenValue → (ℕ → Type 0) → Type 0
EachLinked screen P = (r : ℕ) → r + 1 < length (display screen).rows → (shown_row screen r).wrapped ≡ true → P r

-- The given predicate holds for each row of a screen's picture that isn't wrapped.
abbrev pub EachUnwrapped : ScreenValue → (ℕ → Type 0) → Type 0
EachUnwrapped screen P = (r : ℕ) → r < length screen.page.rows → (shown_row screen r).wrapped ≡ false → P r
