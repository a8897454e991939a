-- How the code represents pictures, and the intermediate states while output is written; only for models, contracts of
-- private functions and proofs.
use Rattle.std.specs.Prelude.{◌≡◌, ℕ, ◌+◌, ◌-◌, ◌<◌, ◌≤◌, ◌^◌, ◌==◌, ◌&&◌, ◌||◌, nat_lt, not, Bool, false, true, List}
use Rattle.std.specs.Prelude.{[], ◌++◌, length, replicate, drop, All, if◌then◌else◌, Result, OnOk, IfOk, ◌∷◌}
use Rattle.std.specs.List.{AllByRecursion}
use Rattle.vt_cells.specs.Attrs.{Attrs, default_attrs}
use Rattle.vt_cells.specs.Cell.{CellValue, blank, default_blank, is_blank, is_wide, is_right_half, attrs_of, same_cell}
use Rattle.vt_cells.specs.Cell.{text_of, IsCell}
use Rattle.vt_cells.specs.Internals.{head_of_cell, buffered_text}
use Rattle.vt_cells.specs.Glyph.{glyph_columns}
use Rattle.vt_cells.specs.Op.{Op, Print, bytes_of_all}
use Rattle.vt_cells.specs.declared.pos.Pos.{Pos}
use Rattle.vt_rows.specs.Cells.{IsPaired, at, ends_blank, cells_after_resize}
use Rattle.vt_rows.specs.Row.{RowValue, IsRow, blank_row}
use Rattle.vt_grid.specs.Scrollback.{Scrollback, IsScrollback, visible}
use Rattle.vt_grid.specs.Page.{row_or, Page}
use Rattle.vt_redraw.specs.Picture.{Picture, cut_rows}
use Rattle.vt_redraw.specs.Items.{with_whole_start, with_whole_start_over}
use Rattle.vt_redraw.specs.Refusals.{RefusedOnlyIfSome}
use Rattle.vt_redraw.specs.Script.{Linked, Scripted, after_last_glyph, cells_written, row_break, erase_run, placed_op}
use Rattle.vt_redraw.specs.Redraw.{row_written, rows_below}
use Rattle.vt_redraw.specs.Moved.{rows_moved}
use Rattle.vt_redraw.specs.Steady.{IsSteadyCell}
use Rattle.vt_redraw.specs.declared.links.Link.{Link}
use Rattle.vt_redraw.specs.declared.pen.Pen.{Pen}
use Rattle.vt_redraw.specs.declared.view.Source.{Source}
use Rattle.vt_redraw.specs.declared.view.Source.TheVariants.{InView, Blank, Moved}
use Rattle.vt_redraw.specs.Shifted.{IsRowShift, IsShifting, shifted_pages, shifts_text}
use Rattle.vt_redraw.specs.declared.row_shift.RowShift.{RowShift}

-- ==== How the code represents pictures, and the intermediate states while output is written; only for models,
-- contracts of private functions and proofs.

-- A row's stored cells, extended to the given number of columns with copies of the given cell.
abbrev pub cells_filled_to : List CellValue → ℕ → CellValue → List CellValue
cells_filled_to cells cols end = cells ++ replicate (cols - length cells) end

-- The stored cells of a picture's row fit in the row's `cols` columns. The cell `end` fills the other columns and is a
-- blank.
pub record IsFilled (cells : List CellValue) (cols : ℕ) (end : CellValue) : Type 0 where
  pub inside : length cells ≤ cols
  pub blank : is_blank end ≡ true

-- Whether truncating a row to the given number of columns splits a wide character.
abbrev pub is_split : ℕ → List CellValue → Bool
is_split cols cells = nat_lt cols (length cells) && is_wide (at cells (cols - 1))

-- The number of cells at the start of a row that stay unchanged when the row is truncated to the given number of
-- columns.
abbrev pub kept_len : ℕ → List CellValue → ℕ
kept_len cols cells = if is_split cols cells then cols - 1 else cols

-- The cell after the unchanged cells of a truncated row: a blank with the attributes of the wide character that the
-- truncation splits, if there is one, and otherwise a default blank.
abbrev pub cell_past_cut : ℕ → List CellValue → CellValue
cell_past_cut cols cells = if is_split cols cells then blank (attrs_of (at cells (cols - 1))) else default_blank

-- The cells of a range can be drawn over the displayed cells `over`, a list that begins in the same column and is at
-- least as long. Each wide character among `cells` has its continuation cell in the range, or begins in the last column
-- of the range with another displayed column after it.
pub record IsRange (cells over : List CellValue) : Type 0 where
  pub inside : length cells ≤ length over
  pub halves : (k : ℕ) → is_wide (at cells k) ≡ true → k + 1 < length cells → is_right_half (at cells (k + 1)) ≡ true
  pub room : (k : ℕ) → is_wide (at cells k) ≡ true → k + 1 < length over

-- The cells of a row can be drawn over the displayed cells `over`: both lists have the same nonzero length, and no wide
-- character is split.
pub record IsRowOver (cells over : List CellValue) : Type 0 where
  pub nonempty : 0 < length cells
  pub same : length cells ≡ length over
  pub paired : IsPaired cells

-- The cell fits on a row of the given width; a wide character takes two columns.
abbrev pub FitsColumns : ℕ → CellValue → Type 0
FitsColumns width cell = glyph_columns (is_wide cell) ≤ width

-- The cells of row `r + 1` can be drawn over the displayed cells `over`, below a row with the cells `upper`: neither
-- row is empty or splits a wide character, and `r + 1` fits in 16 bits.
pub record IsRowUnder (r : ℕ) (upper cells over : List CellValue) : Type 0 where
  pub short : r + 1 < 65536
  pub above : 0 < length upper
  pub last : IsPaired upper
  pub row : IsRowOver cells over

-- A row of a picture, truncated or extended to the given width. Its wrapped flag is cleared if its last column is then
-- blank or if the row is the last one.
abbrev pub cut_row : (is_last : Bool) → ℕ → RowValue → RowValue
cut_row is_last width row = record {
  cells = cells_after_resize width row.cells;
  wrapped = not is_last && (row.wrapped && not (ends_blank (cells_after_resize width row.cells)));
}

-- A picture can be built from the page, its scrollback and the pen: all rows are valid, the page has at least one
-- column and fewer than 65536 rows, and the pen is on the page.
pub record IsSource (above : Scrollback) (rows : List RowValue) (width : ℕ) (pen : Pen) : Type 0 where
  pub scrollback : IsScrollback above
  pub page : All (IsRow width) rows
  pub columns : 0 < width
  pub height : length rows < 2 ^ 16
  pub row : pen.row < length rows
  pub column : pen.col ≤ width

-- The rows of the scrollback are valid, all rows of the page are valid and `full` columns wide, and `full` equals
-- `columns`, which is at least 1.
pub record IsPageUnder (scrollback : Scrollback) (full : ℕ) (rows : List RowValue) (columns : ℕ) : Type 0 where
  pub above : IsScrollback scrollback
  pub page : All (IsRow full) rows
  pub width : full ≡ columns
  pub nonempty : 0 < columns

-- The row at index `r` of the given displayed rows, truncated or extended to the given width, or a blank row if `r` is
-- past the end. The row is not wrapped if `is_last` is true, if `r` is the last index, or if its last column is blank.
abbrev pub row_seen : (is_last : Bool) → ℕ → List RowValue → ℕ → RowValue
row_seen is_last width rows r = cut_row (is_last || (r + 1 == length rows)) width (row_or width rows r)

-- The rows of a picture, given its source: the displayed rows, blank rows, or the displayed rows after a band of rows
-- has moved.
abbrev pub source_rows : Source → Scrollback → List RowValue → ℕ → List RowValue
source_rows InView above rows width = cut_rows width (visible above rows)
source_rows Blank above rows width = replicate (length rows) (blank_row default_attrs width)
source_rows (Moved band) above rows width = rows_moved width band (cut_rows width (visible above rows))

-- The picture of the given width that is built from the given source, scrollback and page rows, with the cursor
-- position and attributes of the given pen. The last argument is true if the cursor is hidden.
abbrev pub picture_of_source : Source → Scrollback → List RowValue → ℕ → Pen → Bool → Picture
picture_of_source source above rows width pen hidden = record {
  rows = source_rows source above rows width;
  width = width;
  row = pen.row;
  column = pen.col;
  attrs = pen.attrs;
  hidden = hidden;
}

-- The number of columns that a cell takes: 2 for a wide glyph, otherwise 1.
abbrev pub columns_of : CellValue → ℕ
columns_of x = glyph_columns (is_wide x)

-- The operations that print the glyph of a cell at a position.
abbrev pub glyph_ops : Pen → Pos → CellValue → List Op
glyph_ops pen pos x = placed_op pen pos.row pos.col (attrs_of x) (Print (text_of x))

-- The operations that erase a run of `count` columns at a position, leaving blanks with the given attributes.
abbrev pub run_ops : Pen → Pos → Attrs → (count : ℕ) → RowValue → List Op
run_ops pen pos attrs count y = placed_op pen pos.row pos.col attrs (erase_run pen.form count (drop (pos.col + count) y.cells))

-- Whether the cell of the row `x` in the given column is skipped, because the displayed row `y` has an equal cell
-- there or because the cell is the continuation cell of a wide character.
abbrev pub stands : ℕ → (x y : RowValue) → Bool
stands c x y = is_right_half (at x.cells c) || same_cell (at x.cells c) (at y.cells c)

-- The cell at column `c` of the row `x` must be written, and the cells of `x` can be drawn over the cells of `y`. The
-- row `y` has fewer than 65536 cells.
pub record IsOther (c : ℕ) (x y : RowValue) : Type 0 where
  pub inside : c < length x.cells
  pub range : IsRange x.cells y.cells
  pub short : length y.cells < 65536
  pub other : stands c x y ≡ false

-- The stored cell in column `c` of the cells `own` agrees with the glyph `like` in everything except the bytes of its
-- text. If the displayed row has a stored cell in that column, the two cells differ.
pub record IsAlike (c : ℕ) (like : CellValue) (own others : List CellValue) : Type 0 where
  pub inside : c < length own
  pub head : head_of_cell (at own c) ≡ head_of_cell like
  pub other : c < length others → same_cell (at own c) (at others c) ≡ false

-- Appending the remaining output `written` to `text` gives the same text as appending the whole output `whole` to
-- `start`, and leads to the same pen and the same wrapped flag.
pub record Leads (text : List ℕ) (written : Scripted) (start : List ℕ) (whole : Scripted) : Type 0 where
  pub bytes : text ++ bytes_of_all written.ops ≡ start ++ bytes_of_all whole.ops
  pub pen : written.pen ≡ whole.pen
  pub wrapped : written.wrapped ≡ whole.wrapped

-- Appending the remaining output `written` to `text` gives the same text, pen and wrapped flag as appending the whole
-- output `whole` to `start`, and `text` is not shorter than `start`.
pub record LeadsOn (text : List ℕ) (written : Scripted) (start : List ℕ) (whole : Scripted) : Type 0 where
  pub leads : Leads text written start whole
  pub grows : length start ≤ length text

-- The output that replaces the displayed cells `ys` of row `r` with the cells `xs`, starting at column `c`.
abbrev pub cells_from : (r c : ℕ) → Pen → Bool → (xs ys : List CellValue) → Scripted
cells_from r c pen wrapped xs ys = cells_written r c pen wrapped 0 (drop c xs) (drop c ys)

-- The output that replaces the displayed row `y` with the row `x`, starting at a position.
abbrev pub cells_over : Pos → Pen → Bool → (x y : RowValue) → Scripted
cells_over pos pen wrapped x y = cells_from pos.row pos.col pen wrapped x.cells y.cells

-- The output that replaces the displayed row `y` with the row `x`, starting at a position. A continuation cell of `x`
-- at that position counts as a default blank.
abbrev pub range_over : Pos → Pen → Bool → (x y : RowValue) → Scripted
range_over pos pen wrapped x y =
    cells_written pos.row pos.col pen wrapped 0 (with_whole_start (drop pos.col x.cells))
    (with_whole_start_over (drop pos.col x.cells) (drop pos.col y.cells))

-- All cells in columns `c..next` are skipped, so the output from column `c` on equals the output from column `next`
-- on.
pub record Passes (c next : ℕ) (xs ys : List CellValue) : Type 0 where
  pub same : (r : ℕ) (pen : Pen) (wrapped : Bool) → cells_from r c pen wrapped xs ys ≡ cells_from r next pen
      wrapped xs ys

-- `result` is the result of a call that appends the output of `ops` to a sink, whose contents are `start` before the
-- call and `end` after it. If the call succeeds, `end` is `start` followed by this output. The call fails only if this
-- output is not empty.
pub record AppendsOrStops {A E : Type 0} (result : Result A E) (start end : List ℕ) (ops : List Op) : Type 0 where
  pub text : OnOk result (end ≡ start ++ bytes_of_all ops)
  pub nonempty : RefusedOnlyIfSome result (bytes_of_all ops)

-- `result` is the result of a call that appends the output of `ops` to a sink through a buffer. The sink and the buffer
-- hold `start` and `before` before the call, and `end` and `after` after it. If the call succeeds, `end` followed by
-- `after` is `start` followed by `before` and this output, and `end` is not shorter than `start`. The call fails only
-- if `before` or this output is not empty.
pub record GathersOrStops {A E : Type 0} (result : Result A E) (start before end after : List ℕ)
    (ops : List Op) : Type 0 where
  pub text : OnOk result (buffered_text end after ≡ buffered_text start before ++ bytes_of_all ops)
  pub grows : OnOk result (length start ≤ length end)
  pub nonempty : RefusedOnlyIfSome result (before ++ bytes_of_all ops)

-- `result` is the result of a call that writes, through a buffer, the output for the next cells of the row `x` over the
-- displayed row `y`, starting at `pos`. The sink and the buffer hold `start` and `before` before the call, and `end`
-- and `after` after it. If the call succeeds, it returns the number of columns that it has drawn, which is at least
-- one and at most the number of columns left in `y`. In this case, `end`, then `after`, then the output for the rest
-- of the row (from `pen` and `wrapped`, the state after the call) equal `start`, then `before`, then the output
-- `whole`; and `end` is not shorter than `start`. The call fails only if `before` or the output `whole` is not empty.
pub record SettlesOrStops {E : Type 0} (result : Result ℕ E) (start before end after : List ℕ)
    (pen : Pen) (wrapped : Bool) (pos : Pos) (x y : RowValue) (whole : Scripted) : Type 0 where
  pub leads : IfOk result (λ n. Leads (buffered_text end after)
      (cells_from pos.row (pos.col + n) pen wrapped x.cells y.cells) (buffered_text start before) whole)
  pub nonempty : IfOk result (λ n. 0 < n)
  pub inside : IfOk result (λ n. pos.col + n ≤ length y.cells)
  pub grows : OnOk result (length start ≤ length end)
  pub refused : RefusedOnlyIfSome result (before ++ bytes_of_all whole.ops)

-- `text` is `start` followed by a link, which is the output that joins a row to the wrapped row above it. After the
-- link, the pen, the wrapped flag and the number of cells already drawn are those of `whole`.
pub record Links (start text : List ℕ) (pen : Pen) (link : Link) (whole : Linked) : Type 0 where
  pub bytes : text ≡ start ++ bytes_of_all whole.ops
  pub stands : pen ≡ whole.pen
  pub is_wrapped : link.wrapped ≡ whole.wrapped
  pub done : link.settled ≡ whole.settled

-- `result` is the result of a call that writes a link, which is the output that joins a row to the wrapped row above
-- it. If the call succeeds, `text` is `start` followed by the output `whole`, and `pen` and the returned link describe
-- the terminal after this output. The call fails only if this output is not empty.
pub record LinksOrStops {E : Type 0} (result : Result Link E)
    (start text : List ℕ) (pen : Pen) (whole : Linked) : Type 0 where
  pub links : IfOk result (λ link. Links start text pen link whole)
  pub nonempty : RefusedOnlyIfSome result (bytes_of_all whole.ops)

-- `text` is `start` followed by the output of a row, and the pen and the wrapped flag after the row are those of
-- `whole`.
pub record Writes (start text : List ℕ) (pen : Pen) (wrapped : Bool) (whole : Scripted) : Type 0 where
  pub bytes : text ≡ start ++ bytes_of_all whole.ops
  pub stands : pen ≡ whole.pen
  pub is_wrapped : wrapped ≡ whole.wrapped

-- The output for row `r` that follows the link between this row and the row above.
abbrev pub row_behind : ℕ → Link → Pen → (x y : RowValue) → Scripted
row_behind r link pen x y = row_written r link.settled pen link.wrapped x y.cells

-- The output that turns the rows of `ys` below row `r`, which the terminal displays, into the rows of `xs` below row
-- `r`.
abbrev pub rows_under : (r width : ℕ) → Pen → Bool → (xs ys : List RowValue) → Scripted
rows_under r width pen wrapped_above xs ys = rows_below r pen (row_or width xs r) wrapped_above (drop (r + 1) xs)
    (drop (r + 1) ys)

-- The operations that leave a wrap pending at the end of row `r` by printing its last glyph again, if the row must be
-- wrapped (`wanted`) and the terminal's row is not (`wrapped`); otherwise none.
abbrev pub mark_of : ℕ → Pen → (wrapped wanted : Bool) → List CellValue → List Op
mark_of r pen wrapped wanted cells = if wanted && not wrapped then (after_last_glyph r pen cells).ops else []

-- The output that clears the wrapped flag of the terminal's row if the flag is set and the row `x` is not wrapped;
-- otherwise empty.
abbrev pub break_of : ℕ → Pen → Bool → RowValue → Scripted
break_of r pen wrapped x = row_break r pen wrapped x.wrapped x.cells

-- The operations that follow the cells of a whole row `x`. They clear the wrapped flag of the terminal's row if only
-- the terminal's row is wrapped, and leave a wrap pending if only the row `x` is wrapped.
abbrev pub end_ops : ℕ → Pen → Bool → RowValue → List Op
end_ops r pen wrapped x =
    (break_of r pen wrapped x).ops
    ++ mark_of r (break_of r pen wrapped x).pen (break_of r pen wrapped x).wrapped x.wrapped x.cells

-- The cell is valid, and its text has at most `bound` bytes.
pub record IsWithin (bound : ℕ) (cell : CellValue) : Type 0 where
  pub sound : IsCell cell
  pub bytes : length (text_of cell) ≤ bound

-- Every glyph of the row is steady on a screen of the given width.
abbrev pub IsSteadyRow : ℕ → RowValue → Type 0
IsSteadyRow width row = All (IsSteadyCell width) row.cells

-- ==== The intermediate states while output that shifts columns is written; only for contracts of private functions and
-- proofs.

-- `text` is `start` followed by the sequences of one or more shifts, of which `shift` is the first. These shifts turn
-- the page `before` into the page `after`.
pub record Shifts (shift : RowShift) (start text : List ℕ) (before after : Page) : Type 0 where
  pub rest : List RowShift
  pub inside : AllByRecursion (IsRowShift (length before.rows) before.width) (shift ∷ rest)
  pub bytes : text ≡ start ++ shifts_text (shift ∷ rest)
  pub page : after ≡ shifted_pages (shift ∷ rest) before

-- `text` is `start` followed by a diff from `prev` to `self` that first makes one or more column shifts.
pub record AppendsShifting (start text : List ℕ) (self prev : Picture) : Type 0 where
  pub added : List ℕ
  pub bytes : text ≡ start ++ added
  pub shifts : IsShifting self prev added
