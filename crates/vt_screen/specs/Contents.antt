-- The text of a screen's displayed rows, without attributes.
use Rattle.std.specs.Prelude.{ℕ, ◌+◌, ◌-◌, ◌==◌, ◌&&◌, not, min, Bool, false, List}
use Rattle.std.specs.Prelude.{[], ◌∷◌, ◌++◌, length, map, drop, if◌then◌else◌}
use Rattle.std.specs.List.{flat_map, range_with_len}
use Rattle.vt_rows.specs.Plain.{has_glyph, plain_text}
use Rattle.vt_rows.specs.Row.{RowValue}
use Rattle.vt_screen.specs.Screen.{ScreenValue, visible_row, visible_rows}
use Rattle.vt_screen.specs.declared.rows.Rows.{Rows}

-- The newline after a row; empty if the row is wrapped.
abbrev pub line_end : RowValue → List ℕ
line_end row = if row.wrapped then [] else 0x0A ∷ []

-- The newline written before a row that has no glyphs and follows a wrapped row; empty for any other row.
abbrev pub gap_line : ℕ → Bool → RowValue → List ℕ
gap_line width is_wrapped row = if is_wrapped && not (has_glyph 0 width row.cells) then 0x0A ∷ [] else []

-- The text of consecutive rows of the given width; the flag indicates whether the row before the first one is wrapped.
abbrev pub lines_of : ℕ → Bool → List RowValue → List ℕ
lines_of width is_wrapped [] = []
lines_of width is_wrapped (row ∷ rows) =
    gap_line width is_wrapped row ++ (plain_text 0 width row.cells ++ (line_end row ++ lines_of width row.wrapped rows))

-- The text with the given byte prepended; empty if the text is empty and the byte is a newline.
abbrev pub with_byte_before : ℕ → List ℕ → List ℕ
with_byte_before byte [] = if byte == 0x0A then [] else byte ∷ []
with_byte_before byte (next ∷ text) = byte ∷ (next ∷ text)

-- The text without its trailing newlines.
abbrev pub without_line_ends : List ℕ → List ℕ
without_line_ends [] = []
without_line_ends (byte ∷ text) = with_byte_before byte (without_line_ends text)

-- The text of all displayed rows of a screen, without trailing newlines.
abbrev pub contents_of : ScreenValue → List ℕ
contents_of screen = without_line_ends (lines_of screen.page.width false (visible_rows screen))

-- ---- text between two positions

-- The part of the text between two positions that comes from the given row, including the newline after it, if any. The
-- first row begins at `start_col`, the last row ends before `end_col`, and the rows between them are included in full.
abbrev pub part_of : (start_row start_col end_row end_col : ℕ) → ScreenValue → ℕ → List ℕ
part_of start_row start_col end_row end_col screen r =
    plain_text (if r == start_row then start_col else 0)
    (if r == end_row then end_col else screen.page.width) (visible_row screen r).cells
    ++ (if r == end_row then [] else line_end (visible_row screen r))

-- The text between two positions of a screen, limited to the displayed rows.
abbrev pub between_of : (start_row start_col end_row end_col : ℕ) → ScreenValue → List ℕ
between_of start_row start_col end_row end_col screen =
    flat_map (part_of start_row start_col end_row end_col screen)
    (range_with_len start_row (min (end_row + 1) (length screen.page.rows) - start_row))

-- ---- text row by row

-- The plain text of each row in the columns `start..stop`.
abbrev pub row_texts : (start stop : ℕ) → List RowValue → List (List ℕ)
row_texts start stop rows = map (λ row. plain_text start stop row.cells) rows

-- The strings that an iterator over rows has yet to return.
abbrev pub rows_left : Rows → List (List ℕ)
rows_left rows = row_texts rows.start rows.stop (drop rows.row (visible_rows rows.screen.now))
