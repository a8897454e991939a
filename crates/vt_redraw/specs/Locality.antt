-- The positions that operations touch, and where a diff may draw.
use Rattle.std.specs.Prelude.{◌≡◌, ℕ, suc, zero, ◌+◌, ◌-◌, ◌<◌, ◌==◌, ◌&&◌, ◌||◌, nat_le, nat_lt, min, Bool, true}
use Rattle.std.specs.Prelude.{false, List, [], ◌∷◌, length, Option, Some, None, chars, ◌≢◌, ◌⊎◌, ◌≤◌, if◌then◌else◌}
use Rattle.vt_cells.specs.Cell.{CellValue, is_wide, is_right_half, text_of, is_glyph, same_cell}
use Rattle.vt_cells.specs.Glyph.{columns_of, is_selector, is_wide_text}
use Rattle.vt_cells.specs.Op.{Op, Hide, ClearAttrs, MoveTo, MoveRight, NextRow, LineFeed, Backspace, EraseBelow}
use Rattle.vt_cells.specs.Op.{EraseRest, EraseChars, SaveCursor, RestoreCursor, ChangeAttrs, Print}
use Rattle.vt_cells.specs.Attrs.{Attrs}
use Rattle.vt_rows.specs.Cells.{at}
use Rattle.vt_rows.specs.Row.{RowValue}
use Rattle.vt_grid.specs.Page.{Page, cursor_row, row_or}
use Rattle.vt_grid.specs.Printing.{lifted_page, room_made, wrapped_page, mark_column, takes_mark, mark_put}
use Rattle.vt_grid.specs.Canvas.{Canvas, drawn_char, canvas_after_op}
use Rattle.vt_redraw.specs.Picture.{Picture}
use Rattle.vt_redraw.specs.Script.{last_column}
use Rattle.vt_redraw.specs.Redraw.{nearest}

-- ==== The positions that operations touch: every position that an operation prints on, appends to or erases, and the
-- positions of the wide characters that it splits.

-- Whether a change of `n` columns, starting at column `c`, touches column `k`: column `k` is one of the changed
-- columns, the first column of a wide character that loses its continuation cell, or a continuation cell that loses its
-- wide character.
abbrev pub is_touched : (c n : ℕ) → List CellValue → ℕ → Bool
is_touched c n cells k =
    (nat_le c k && nat_lt k (c + n))
    || (((k + 1 == c) && is_wide (at cells k)) || ((k == c + n) && is_right_half (at cells k)))

-- The given predicate holds for every position touched by a change of `n` columns of the cursor's row, starting at
-- column `c`.
abbrev pub Changes : (ℕ → ℕ → Type 0) → (c n : ℕ) → Page → Type 0
Changes May c n page = (k : ℕ) → is_touched c n (cursor_row page).cells k ≡ true → May page.row k

-- The given predicate holds for every position touched when the glyph at a column becomes wide, whether in place or by
-- moving to the next row.
abbrev pub WideTouches : (ℕ → ℕ → Type 0) → ℕ → Attrs → Page → Type 0
WideTouches May k attrs page =
    (nat_lt page.column page.width ≡ true → Changes May k 2 page)
    × (nat_lt page.column page.width ≡ false →
    Changes May k 1 page × Changes May 0 2 (wrapped_page (lifted_page k attrs page)))

-- The given predicate holds for every position touched when the glyph at a column takes on the width of its text.
abbrev pub FollowTouches : (ℕ → ℕ → Type 0) → ℕ → Attrs → Page → Type 0
FollowTouches May k attrs page =
    (is_wide (at (cursor_row page).cells k) ≡ true →
    (is_wide_text (text_of (at (cursor_row page).cells k)) && nat_lt 1 page.width) ≡ false → Changes May k 1 page)
    × (is_wide (at (cursor_row page).cells k) ≡ false →
    (is_wide_text (text_of (at (cursor_row page).cells k)) && nat_lt 1 page.width) ≡ true →
    WideTouches May k attrs page)

abbrev pub MarkTouches : (ℕ → ℕ → Type 0) → ℕ → ℕ → Attrs → Page → Type 0
MarkTouches May k mark attrs page =
    takes_mark (at (cursor_row page).cells k) ≡ true →
    May page.row k × (is_selector mark ≡ true → FollowTouches May k attrs (mark_put k mark page))

-- The given predicate holds for every position touched by printing a character that takes the given number of columns.
abbrev pub CharTouches : (ℕ → ℕ → Type 0) → Option ℕ → ℕ → Attrs → Page → Type 0
CharTouches May None c attrs page = Unit {0}
CharTouches May (Some zero) c attrs page = (page.column == 0) ≡ false → MarkTouches May (mark_column page) c attrs page
CharTouches May (Some (suc zero)) c attrs page = Changes May (room_made 1 page).column 1 (room_made 1 page)
CharTouches May (Some (suc (suc n))) c attrs page =
    nat_lt 1 page.width ≡ true → Changes May (room_made 2 page).column 2 (room_made 2 page)

abbrev pub TextTouches : (ℕ → ℕ → Type 0) → List ℕ → Canvas → Type 0
TextTouches May [] canvas = Unit {0}
TextTouches May (c ∷ cs) canvas =
    CharTouches May (columns_of c) c canvas.attrs canvas.page
    × ((next : Canvas) → drawn_char c canvas ≡ Some next → TextTouches May cs next)

abbrev pub OpTouches : (ℕ → ℕ → Type 0) → Op → Canvas → Type 0
OpTouches May (Hide hidden) canvas = Unit {0}
OpTouches May ClearAttrs canvas = Unit {0}
OpTouches May (MoveTo row col) canvas = Unit {0}
OpTouches May (MoveRight count) canvas = Unit {0}
OpTouches May NextRow canvas = Unit {0}
OpTouches May LineFeed canvas = Unit {0}
OpTouches May Backspace canvas = Unit {0}
OpTouches May EraseBelow canvas =
    ((canvas.page.column == canvas.page.width) ≡ false →
    Changes May canvas.page.column (canvas.page.width - canvas.page.column) canvas.page)
    × ((r c : ℕ) → canvas.page.row < r → r < length canvas.page.rows → c < canvas.page.width → May r c)
OpTouches May EraseRest canvas =
    (canvas.page.column == canvas.page.width) ≡ false →
    Changes May canvas.page.column (canvas.page.width - canvas.page.column) canvas.page
OpTouches May (EraseChars n) canvas =
    ((n == 0) || (canvas.page.column == canvas.page.width)) ≡ false →
    Changes May canvas.page.column (min n (canvas.page.width - canvas.page.column)) canvas.page
OpTouches May SaveCursor canvas = Unit {0}
OpTouches May RestoreCursor canvas = Unit {0}
OpTouches May (ChangeAttrs was new) canvas = Unit {0}
OpTouches May (Print text) canvas = TextTouches May (chars text) canvas

-- The given predicate holds for every position touched by a list of operations, each applied to the canvas that the
-- previous operations leave.
abbrev pub Touches : (ℕ → ℕ → Type 0) → List Op → Canvas → Type 0
Touches May [] canvas = Unit {0}
Touches May (op ∷ ops) canvas =
    OpTouches May op canvas × ((next : Canvas) → canvas_after_op op canvas ≡ Some next → Touches May ops next)

-- ==== Where a diff may draw: near the rows that differ, and not on glyphs that are equal in both pictures.

abbrev pub row_of_picture : Picture → ℕ → RowValue
row_of_picture picture r = row_or picture.width picture.rows r

-- The row at the given index differs between the two pictures, in its cells or its wrapped flag.
abbrev pub Differs : (self prev : Picture) → ℕ → Type 0
Differs self prev r = row_of_picture self r ≢ row_of_picture prev r

-- The row at the given index, or the row above it, differs between the two pictures.
abbrev pub IsNear : (self prev : Picture) → ℕ → Type 0
IsNear self prev r = Differs self prev r ⊎ ((0 < r) × Differs self prev (r - 1))

-- The first column of the cell or wide glyph that covers the given column.
abbrev pub begin_of : List CellValue → ℕ → ℕ
begin_of cells k = if is_right_half (at cells k) then k - 1 else k

-- Whether a glyph that both rows have at the same place covers the given column.
abbrev pub stands_alike : (xs ys : List CellValue) → ℕ → Bool
stands_alike xs ys k = is_glyph (at xs (begin_of xs k)) && same_cell (at xs (begin_of xs k)) (at ys (begin_of xs k))

-- The position is in or directly below a row that differs between the two pictures. If a glyph at the position is equal
-- in both pictures, this glyph begins in the first column or covers the last column of its row.
abbrev pub MayDraw : (self prev : Picture) → ℕ → ℕ → Type 0
MayDraw self prev r c =
    IsNear self prev r
    × (stands_alike (row_of_picture self r).cells (row_of_picture prev r).cells c ≡ true
    → (begin_of (row_of_picture self r).cells c ≡ 0)
    ⊎ (begin_of (row_of_picture self r).cells c ≡ last_column (row_of_picture self r).cells))

-- The row in which the cursor is placed to make a wrap pending in the given row: that row itself if the first argument
-- is `None`, or row `i` if it is `Some i`.
abbrev pub placing_row : Option ℕ → ℕ → ℕ
placing_row None r = r
placing_row (Some i) r = i

-- A wrap is pending in the picture, and a redraw or a diff may print at row `r`, column `c` to make it pending: row `r`
-- is the row in which the cursor is placed for this, and column `c` is in the last glyph or the blank last column of
-- row `r`.
abbrev pub MayPlace : Picture → ℕ → ℕ → Type 0
MayPlace self r c =
    (self.column ≡ self.width)
    × ((r ≡ placing_row (nearest self.width self.rows self.row) self.row)
    × (last_column (row_of_picture self r).cells ≤ c))

-- A diff from `prev` to `self` may touch row `r`, column `c`, either because it may draw there or because it may print
-- there to make a wrap pending.
abbrev pub IsLocal : (self prev : Picture) → ℕ → ℕ → Type 0
IsLocal self prev r c = MayDraw self prev r c ⊎ MayPlace self r c
