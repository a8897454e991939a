-- Output that is abandoned once it has reached a limit, and lower bounds on the length of a picture's redraw.
use Rattle.std.specs.Prelude.{◌≡◌, ◌≤◌, ◌+◌, ◌++◌, ℕ, Bool, true, false, List, [], ◌∷◌, length, Option, Some, None}
use Rattle.std.specs.Prelude.{if◌then◌else◌}
use Rattle.vt_cells.specs.Attrs.{Attrs, default_attrs, same_attrs}
use Rattle.vt_cells.specs.Cell.{CellValue, IsCell, blank, glyph, right_half, attrs_of, text_of}
use Rattle.vt_cells.specs.Internals.{head_of_cell}
use Rattle.vt_rows.specs.Row.{RowValue}

-- What a writer with a limit did to a string that was `before` and is now `after`. If `is_whole` is true, it appended
-- all of `output`. Otherwise it stopped, and the string with all of `output` would have at least `limit` bytes.
abbrev pub AppendsWithin : (is_whole : Bool) → (limit : ℕ) → (before after output : List ℕ) → Type 0
AppendsWithin true limit before after output = after ≡ before ++ output
AppendsWithin false limit before after output = limit ≤ length (before ++ output)

-- A lower bound on the number of bytes that it takes to change a terminal's attributes from `was`, if known, to `new`:
-- an SGR sequence has at least three bytes.
abbrev pub change_least : (was : Option Attrs) → (new : Attrs) → ℕ
change_least None new = 0
change_least (Some was) new = if same_attrs was new then 0 else 3

-- Nothing is written to draw the cell over a default blank: it is a default blank itself, or a continuation cell, which
-- is drawn with the wide glyph before it.
abbrev pub is_undrawn : CellValue → Bool
is_undrawn (blank attrs) = same_attrs attrs default_attrs
is_undrawn (glyph text wide attrs) = false
is_undrawn right_half = true

-- A lower bound on the number of bytes that it takes to draw the cells over default blanks on a terminal with the
-- attributes `was`, if known: the bytes of the glyphs, plus three for each change of attributes before a cell that is
-- drawn.
abbrev pub drawn_least : (was : Option Attrs) → List CellValue → ℕ
drawn_least was [] = 0
drawn_least was (x ∷ xs) =
    if is_undrawn x then drawn_least was xs
    else change_least was (attrs_of x) + (length (text_of x) + drawn_least (Some (attrs_of x)) xs)

-- After the cell `x`, a cell that differs from it in at most the bytes of its text adds `each` to the lower bound,
-- and leaves the attributes `was`.
abbrev pub IsEach : (was : Option Attrs) → (each : ℕ) → (x : CellValue) → Type 0
IsEach was each x =
    (y : CellValue) (ys : List CellValue) → IsCell y → head_of_cell y ≡ head_of_cell x →
    drawn_least was (y ∷ ys) ≡ each + drawn_least was ys

-- A lower bound on the number of bytes that it takes to draw the rows over default blanks. The attributes at the
-- start of each row count as unknown.
abbrev pub rows_drawn_least : List RowValue → ℕ
rows_drawn_least [] = 0
rows_drawn_least (x ∷ xs) = drawn_least None x.cells + rows_drawn_least xs
