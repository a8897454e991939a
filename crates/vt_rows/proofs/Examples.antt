-- Rows before and after an edit, and captures with their pieces and rows, each checked by computation.
use Rattle.std.proofs.Common.{◌≡◌, ℕ, true, false, List, [], ◌∷◌, refl, IsUtf8, chars, ap, subst, ◌∙◌}
use Rattle.std.proofs.lemmas.Str.{chars-encodes}
use Rattle.std.specs.Char.{encode_utf8}
use Rattle.unicode_width.proofs.Computing.{unicode_width}
use Rattle.vt_cells.specs.Attrs.{default_attrs, same_attrs, same_color, Attrs}
use Rattle.vt_cells.specs.Cell.{CellValue, blank, glyph, right_half, default_blank}
use Rattle.vt_cells.specs.declared.color.Color.TheVariants.{Idx}
use Rattle.vt_rows.specs.Cells.{put_cells, put_narrow, put_wide, cells_after_erase, widened_at, narrowed_at}
use Rattle.vt_rows.specs.Cells.{cells_after_move, cells_after_insert, cells_after_delete, cells_after_resize}
use Rattle.vt_rows.specs.Plain.{plain_text}
use Rattle.vt_rows.specs.Row.{with_cells, cells_without_end, resized_row}
use Rattle.vt_rows.specs.CaptureRows.{AreRowsOf}
use Rattle.vt_rows.specs.Pieces.{ArePiecesOf, Piece}
use Rattle.vt_rows.specs.Stretches.{shown_columns}
use Rattle.vt_rows.proofs.CutRows.{rows_are, slices_after}
use Rattle.vt_rows.proofs.Pieces.{pieces_are}

-- ==== Rows before and after an edit, each checked by computation.

-- The narrow cell of an ASCII letter. In the examples, x and y are narrow letters, U+4E2D and U+56FD are wide
-- characters, `a` are the attributes before an edit, and `b` are those of the edit.
abbrev letter : ℕ → Attrs → CellValue
letter c attrs = glyph (c ∷ []) false attrs

abbrev wide : Attrs → CellValue
wide attrs = glyph (0xE4 ∷ 0xB8 ∷ 0xAD ∷ []) true attrs

abbrev other : Attrs → CellValue
other attrs = glyph (0xE5 ∷ 0x9B ∷ 0xBD ∷ []) true attrs

on_right_half : (a b : Attrs) →
    put_narrow 1 (0x78 ∷ []) b (wide a ∷ right_half ∷ letter 0x61 a ∷ []) ≡ blank a ∷ letter 0x78 b ∷ letter 0x61 a ∷ []
unfolding put_cells
on_right_half a b = refl

on_left_half : (a b : Attrs) →
    put_narrow 0 (0x78 ∷ []) b (wide a ∷ right_half ∷ letter 0x61 a ∷ [])
    ≡ letter 0x78 b ∷ letter 0x20 b ∷ letter 0x61 a ∷ []
unfolding put_cells
on_left_half a b = refl

wide_before_wide : (a b : Attrs) →
    put_wide 0 (0xE5 ∷ 0x9B ∷ 0xBD ∷ []) b (letter 0x61 a ∷ wide a ∷ right_half ∷ [])
    ≡ other b ∷ right_half ∷ blank b ∷ []
unfolding put_cells
wide_before_wide a b = refl

wide_within_wide : (a b : Attrs) →
    put_wide 1 (0xE5 ∷ 0x9B ∷ 0xBD ∷ []) b (wide a ∷ right_half ∷ wide a ∷ right_half ∷ [])
    ≡ blank a ∷ other b ∷ right_half ∷ blank b ∷ []
unfolding put_cells
wide_within_wide a b = refl

left_half_erased : (a b : Attrs) → cells_after_erase 0 1 b (wide a ∷ right_half ∷ []) ≡ blank b ∷ default_blank ∷ []
unfolding put_cells
left_half_erased a b = refl

right_half_erased : (a b : Attrs) → cells_after_erase 1 1 b (wide a ∷ right_half ∷ []) ≡ blank a ∷ blank b ∷ []
unfolding put_cells
right_half_erased a b = refl

narrow_made_wide : (a b : Attrs) →
    widened_at 0 b (letter 0x61 a ∷ wide a ∷ right_half ∷ []) ≡ glyph (0x61 ∷ []) true a ∷ right_half ∷ blank b ∷ []
unfolding put_cells
narrow_made_wide a b = refl

wide_made_narrow : (a b : Attrs) →
    narrowed_at 0 b (wide a ∷ right_half ∷ []) ≡ glyph (0xE4 ∷ 0xB8 ∷ 0xAD ∷ []) false a ∷ letter 0x20 b ∷ []
unfolding put_cells
wide_made_narrow a b = refl

-- If a move brings the first cell of one wide glyph next to the continuation cell of another, they do not form a wide
-- glyph.
two_pairs_torn : (a b : Attrs) →
    cells_after_delete 1 2 (wide a ∷ right_half ∷ other b ∷ right_half ∷ letter 0x78 b ∷ [])
    ≡ blank a ∷ default_blank ∷ letter 0x78 b ∷ default_blank ∷ default_blank ∷ []
unfolding cells_after_delete cells_after_move
two_pairs_torn a b = refl

right_half_deleted : (a : Attrs) →
    cells_after_delete 2 1 (letter 0x61 a ∷ wide a ∷ right_half ∷ letter 0x62 a ∷ default_blank ∷ [])
    ≡ letter 0x61 a ∷ blank a ∷ letter 0x62 a ∷ default_blank ∷ default_blank ∷ []
unfolding cells_after_delete cells_after_move
right_half_deleted a = refl

inserted_before_pair : (a : Attrs) →
    cells_after_insert 1 1 (letter 0x61 a ∷ wide a ∷ right_half ∷ default_blank ∷ [])
    ≡ letter 0x61 a ∷ default_blank ∷ wide a ∷ right_half ∷ []
unfolding cells_after_insert cells_after_move
inserted_before_pair a = refl

pair_torn_at_end : (a : Attrs) →
    cells_after_insert 1 2 (letter 0x61 a ∷ wide a ∷ right_half ∷ default_blank ∷ [])
    ≡ letter 0x61 a ∷ default_blank ∷ default_blank ∷ blank a ∷ []
unfolding cells_after_insert cells_after_move
pair_torn_at_end a = refl

inserted_after_pair : (a : Attrs) →
    cells_after_insert 1 1 (wide a ∷ right_half ∷ letter 0x61 a ∷ letter 0x62 a ∷ [])
    ≡ wide a ∷ right_half ∷ default_blank ∷ letter 0x61 a ∷ []
unfolding cells_after_insert cells_after_move
inserted_after_pair a = refl

cut_in_pair : (a : Attrs) → cells_after_resize 2 (letter 0x61 a ∷ wide a ∷ right_half ∷ []) ≡ letter 0x61 a ∷ blank a ∷ []
unfolding cells_after_resize cells_after_move
cut_in_pair a = refl

grown : (a : Attrs) →
    resized_row 3 (record { cells = letter 0x61 a ∷ []; wrapped = true })
    ≡ record { cells = letter 0x61 a ∷ default_blank ∷ default_blank ∷ []; wrapped = false }
unfolding cells_after_resize cells_after_move
grown a = refl

abbrev coloured : CellValue
coloured = blank (record default_attrs { bgcolor = Idx 1 })

coloured_stays : (a : Attrs) →
    cells_without_end (letter 0x61 a ∷ default_blank ∷ coloured ∷ default_blank ∷ default_blank ∷ [])
    ≡ letter 0x61 a ∷ default_blank ∷ coloured ∷ []
unfolding same_attrs same_color
coloured_stays a = refl

-- The wrapped flag is cleared if the last column becomes a blank, and stays if a space is written there.
flag_falls : (a b : Attrs) →
    with_cells (record { cells = wide a ∷ right_half ∷ []; wrapped = true }) (cells_after_erase 0 1 b (wide a ∷ right_half ∷ []))
    ≡ record { cells = blank b ∷ default_blank ∷ []; wrapped = false }
unfolding put_cells
flag_falls a b = refl

flag_stays : (a b : Attrs) →
    with_cells (record { cells = wide a ∷ right_half ∷ []; wrapped = true })
    (put_narrow 0 (0x78 ∷ []) b (wide a ∷ right_half ∷ []))
    ≡ record { cells = letter 0x78 b ∷ letter 0x20 b ∷ []; wrapped = true }
unfolding put_cells
flag_stays a b = refl

-- ---- Plain text

-- The cells of a row: the letter a, a wide glyph, a blank, the letter b, and a blank.
abbrev mixed : Attrs → List CellValue
mixed a = letter 0x61 a ∷ wide a ∷ right_half ∷ coloured ∷ letter 0x62 a ∷ default_blank ∷ []

-- Blanks at the end of a row add no text, whatever their attributes.
whole_text : (a : Attrs) → plain_text 0 6 (mixed a) ≡ 0x61 ∷ 0xE4 ∷ 0xB8 ∷ 0xAD ∷ 0x20 ∷ 0x62 ∷ []
unfolding plain_text
whole_text a = refl

-- A wide glyph is written whole if its first cell is in the last column of the range.
cut_after_left_half : (a : Attrs) → plain_text 0 2 (mixed a) ≡ 0x61 ∷ 0xE4 ∷ 0xB8 ∷ 0xAD ∷ []
unfolding plain_text
cut_after_left_half a = refl

-- The continuation cell of a wide glyph that begins before the range is written as a space.
cut_before_right_half : (a : Attrs) → plain_text 2 6 (mixed a) ≡ 0x20 ∷ 0x20 ∷ 0x62 ∷ []
unfolding plain_text
cut_before_right_half a = refl

-- If no glyph begins in the range, there is no text.
halves_alone : (a : Attrs) → plain_text 2 4 (mixed a) ≡ []
unfolding plain_text
halves_alone a = refl

past_the_end : (a : Attrs) → plain_text 4 99 (mixed a) ≡ 0x62 ∷ []
unfolding plain_text
past_the_end a = refl

range_turned_round : (a : Attrs) → plain_text 4 1 (mixed a) ≡ []
unfolding plain_text
range_turned_round a = refl

-- ==== Captures with their pieces and their rows, each found by computation.

abbrev esc : ℕ
esc = 0x1B

-- The capture `a ESC [ 1 m b ESC` has the pieces `a` and `b`.
between_stretches : ArePiecesOf (0x61 ∷ esc ∷ 0x5B ∷ 0x31 ∷ 0x6D ∷ 0x62 ∷ esc ∷ [])
    ((0, 0x61 ∷ []) ∷ (5, 0x62 ∷ []) ∷ [])
between_stretches = pieces_are _

-- The capture `ESC [ 3 1` has no pieces.
no_piece : ArePiecesOf (esc ∷ 0x5B ∷ 0x33 ∷ 0x31 ∷ []) []
no_piece = pieces_are _

rows_of_characters : (width : ℕ) (cs : List ℕ) (capture : List ℕ) (utf8 : IsUtf8 capture) →
    chars capture ≡ cs → (rows : List Piece) → slices_after width 0 [] cs ≡ rows → AreRowsOf width capture rows
rows_of_characters width cs capture utf8 e rows same =
    subst (AreRowsOf width capture) (ap (slices_after width 0 []) e ∙ same) (rows_are width capture utf8)

-- The capture `ab` at a width of 0 columns has one row for each character.
one_character_each : (utf8 : IsUtf8 (0x61 ∷ 0x62 ∷ [])) →
    AreRowsOf 0 (0x61 ∷ 0x62 ∷ []) ((0, 0x61 ∷ []) ∷ (1, 0x62 ∷ []) ∷ [])
unfolding shown_columns unicode_width encode_utf8
one_character_each utf8 = rows_of_characters 0 (0x61 ∷ 0x62 ∷ []) _ utf8 (chars-encodes (0x61 ∷ 0x62 ∷ []) refl) _ refl
