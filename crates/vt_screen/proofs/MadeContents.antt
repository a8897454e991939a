-- The text of a screen, row by row, consists of characters and line ends.
use Rattle.std.proofs.Common.{◌≡◌, ℕ, suc, ◌+◌, ◌-◌, ◌<◌, ◌≤◌, Bool, false, List, [], ◌∷◌, ◌++◌, length, take, drop}
use Rattle.std.proofs.Common.{min, slice_index, refl, sym, ap, ◌∙◌, arith, inl, inr, zero, ◌/◌, ◌%◌, ◌&&◌, not, nat_lt}
use Rattle.std.proofs.Common.{true, subst, append_assoc, if◌then◌else◌}
use Rattle.std.specs.Prelude.{◌==◌, All, encode_utf8_all}
use Rattle.std.specs.List.{flat_map, range_with_len, AllByRecursion, list_any}
use Rattle.std.proofs.lemmas.List.{drop_more, drop_all, take_more, take_all, length-take, length-append}
use Rattle.std.specs.Char.{encode_utf8}
use Rattle.std.proofs.lemmas.Bool.{cond_both}
use Rattle.std.proofs.lemmas.List.Elements.{All-take, All-drop, All-replicate, recursion_from_All}
use Rattle.vt_cells.specs.Attrs.{default_attrs}
use Rattle.vt_cells.specs.Cell.{CellValue, IsCell, blank, glyph, right_half, default_blank, is_glyph}
use Rattle.vt_rows.specs.Plain.{plain_text, has_glyph, up_to_last_glyph}
use Rattle.vt_rows.specs.Row.{RowValue, blank_row}
use Rattle.vt_rows.specs.Basic.{shown_text}
use Rattle.vt_rows.specs.Cells.{cells_after_cut}
use Rattle.vt_grid.specs.Scrollback.{Scrollback, last_of, visible}
use Rattle.vt_grid.specs.Page.{row_or}
use Rattle.vt_redraw.proofs.Viewing.{IsAnyRow}
use Rattle.vt_redraw.proofs.Fitting.{printable_text}
use Rattle.vt_screen.specs.Contents.{with_byte_before, gap_line, line_end, lines_of, row_texts, without_line_ends}
use Rattle.vt_screen.specs.Contents.{between_of, contents_of, part_of}
use Rattle.vt_screen.specs.Screen.{ScreenValue, above_page, visible_row, visible_rows, IsScreen}
use Rattle.vt_screen.specs.RowsShown.{text_at}
use Rattle.vt_screen.specs.MadeOf.{Piece, IsCharacter, Characters, Numbered, Control, piece_text, IsPiece, IsMadeOf}
use Rattle.vt_screen.specs.MadeOf.{plain_controls}
use Rattle.vt_screen.proofs.Shown.{any_visible}
use Rattle.vt_screen.proofs.MadeOf.{made_append, made_drawn, made_if, made_nothing, made_piece}

-- ==== The text of a screen, row by row, without trailing line ends.

-- As many rows are displayed as the page has rows.
length_visible : (above : Scrollback) (rows : List RowValue) → length (visible above rows) ≡ length rows
length_visible above rows =
    let shown = last_of above.offset above.rows in
    let a : length (take (length rows) (shown ++ rows)) ≡ min (length rows) (length (shown ++ rows)) =
    length-take (length rows) (shown ++ rows) in
    let b : length (shown ++ rows) ≡ length shown + length rows = length-append shown rows in
    omega (arith, a, b)

pub shown_rows : (screen : ScreenValue) → length (visible_rows screen) ≡ length screen.page.rows
shown_rows screen = length_visible (above_page screen) screen.page.rows

rows_more : (screen : ScreenValue) (r : ℕ) → r < length screen.page.rows →
    drop r (visible_rows screen) ≡ visible_row screen r ∷ drop (r + 1) (visible_rows screen)
rows_more screen r h =
    let l = shown_rows screen in
    drop_more (visible_rows screen) r (blank_row default_attrs screen.page.width) (omega arith)

rows_done : (screen : ScreenValue) (r : ℕ) → length screen.page.rows ≤ r → drop r (visible_rows screen) ≡ []
rows_done screen r h =
    let l = shown_rows screen in
    drop_all r (visible_rows screen) (omega arith)

-- The lines of the displayed rows from row r on are the line of row r and the lines of the rows after it.
pub lines_more : (screen : ScreenValue) (width : ℕ) (is_wrapped : Bool) (r : ℕ) → r < length screen.page.rows
    → lines_of width is_wrapped (drop r (visible_rows screen))
    ≡ gap_line width is_wrapped (visible_row screen r)
    ++ (plain_text 0 width (visible_row screen r).cells
    ++ (line_end (visible_row screen r)
    ++ lines_of width (visible_row screen r).wrapped (drop (r + 1) (visible_rows screen))))
lines_more screen width is_wrapped r h = ap (lines_of width is_wrapped) (rows_more screen r h)

pub lines_done : (screen : ScreenValue) (width : ℕ) (is_wrapped : Bool) (r : ℕ) →
    length screen.page.rows ≤ r → lines_of width is_wrapped (drop r (visible_rows screen)) ≡ []
lines_done screen width is_wrapped r h = ap (lines_of width is_wrapped) (rows_done screen r h)

-- The texts of the displayed rows from row r on are the text of row r and the texts of the rows after it.
pub texts_more : (screen : ScreenValue) (start stop r : ℕ) → r < length screen.page.rows
    → row_texts start stop (drop r (visible_rows screen))
    ≡ plain_text start stop (visible_row screen r).cells ∷ row_texts start stop (drop (r + 1) (visible_rows screen))
texts_more screen start stop r h = ap (row_texts start stop) (rows_more screen r h)

pub texts_done : (screen : ScreenValue) (start stop r : ℕ) →
    length screen.page.rows ≤ r → row_texts start stop (drop r (visible_rows screen)) ≡ []
texts_done screen start stop r h = ap (row_texts start stop) (rows_done screen r h)

-- Mapping a function over the numbers from r on gives its value at r, followed by its values at the numbers after r.
pub parts_more : (f : ℕ → List ℕ) (r past : ℕ) → r < past →
    flat_map f (range_with_len r (past - r)) ≡ f r ++ flat_map f (range_with_len (r + 1) (past - (r + 1)))
parts_more f r past h =
    let n : past - r ≡ suc (past - (r + 1)) = omega arith in
    ap (λ (m : ℕ). flat_map f (range_with_len r m)) n

pub parts_done : (f : ℕ → List ℕ) (r past : ℕ) → past ≤ r → flat_map f (range_with_len r (past - r)) ≡ []
parts_done f r past h =
    let n : past - r ≡ 0 = omega arith in
    ap (λ (m : ℕ). flat_map f (range_with_len r m)) n

-- A text is not empty if a part of it is not empty.
pub part_some : (old now part rest whole : List ℕ) → now ++ (part ++ rest) ≡ old ++ whole → length old ≤ length now →
    0 < length part → 0 < length whole
part_some old now part rest whole e le some =
    let wrote = length-append now (part ++ rest) in
    let more = length-append part rest in
    let all = length-append old whole in
    let same : length (now ++ (part ++ rest)) ≡ length (old ++ whole) = ap (λ (xs : List ℕ). length xs) e in
    omega arith

-- A write that fails only if its text is not empty cannot fail for empty text.
pub none_refused : (text : List ℕ) → text ≡ [] → 0 < length text → ⊥
none_refused text e some =
    let none : length text ≡ 0 = ap (λ (xs : List ℕ). length xs) e in omega arith

-- ---- without line ends

line_end_dropped : (text : List ℕ) → without_line_ends (text ++ 0x0A ∷ []) ≡ without_line_ends text
line_end_dropped [] = refl
line_end_dropped (c ∷ text) = ap (with_byte_before c) (line_end_dropped text)

before_more : (c : ℕ) (text : List ℕ) (d : ℕ) → with_byte_before c (text ++ d ∷ []) ≡ c ∷ (text ++ d ∷ [])
before_more c [] d = refl
before_more c (e ∷ text) d = refl

other_kept : (text : List ℕ) (d : ℕ) → (d == 0x0A) ≡ false → without_line_ends (text ++ d ∷ []) ≡ text ++ d ∷ []
other_kept [] d e = rw e refl
other_kept (c ∷ text) d e = ap (with_byte_before c) (other_kept text d e) ∙ before_more c text d

last_split : (text : List ℕ) → 0 < length text →
    text ≡ take (length text - 1) text ++ slice_index text (length text - 1) ∷ []
last_split text h =
    let n : length text - 1 + 1 ≡ length text = omega arith in
    sym (take_all (length text) text (omega arith))
    ∙ (ap (λ (m : ℕ). take m text) (sym n) ∙ take_more text (length text - 1) 0 (omega arith))

-- Dropping a line end at the end of a text doesn't change the text without trailing line ends.
pub trim_more : (text new : List ℕ) → 0 < length text → slice_index text (length text - 1) ≡ 0x0A →
    new ≡ take (length text - 1) text → without_line_ends new ≡ without_line_ends text
trim_more text new h e is =
    ap without_line_ends is
    ∙ (sym (line_end_dropped (take (length text - 1) text))
    ∙ ap without_line_ends (ap (λ (c : ℕ). take (length text - 1) text ++ c ∷ []) (sym e) ∙ sym (last_split text h)))

-- An empty text has no line end to drop.
pub trim_none : (text : List ℕ) → length text ≡ 0 → without_line_ends text ≡ text
trim_none [] e = refl
trim_none (c ∷ text) e = absurd (omega arith)

pub trim_other : (text : List ℕ) → 0 < length text →
    (slice_index text (length text - 1) == 0x0A) ≡ false → without_line_ends text ≡ text
trim_other text h e =
    let s = last_split text h in
    ap without_line_ends s ∙ (other_kept (take (length text - 1) text) (slice_index text (length text - 1)) e ∙ sym s)

-- ==== Plain text consists of characters and line ends.

abbrev IsPlain : List ℕ → Type 0
IsPlain text = IsMadeOf [] plain_controls text

line_feed : IsPlain (0x0A ∷ [])
line_feed = made_piece [] plain_controls (Control (0x0A ∷ [])) (inl refl)

-- ---- cells

plain_shown : (cell : CellValue) → IsCell cell → IsPlain (shown_text cell)
unfolding encode_utf8
plain_shown (blank attrs) is =
    made_piece [] plain_controls (Characters (0x20 ∷ [])) ((refl, inl (omega arith, omega arith)), tt)
plain_shown (glyph text wide attrs) is = made_drawn [] plain_controls text (printable_text text wide is)
plain_shown right_half is = made_nothing [] plain_controls

plain_cells : (cells : List CellValue) → AllByRecursion IsCell cells → IsPlain (flat_map shown_text cells)
plain_cells [] are = made_nothing [] plain_controls
plain_cells (cell ∷ cells) are =
    made_append [] plain_controls (shown_text cell) (flat_map shown_text cells)
    (plain_shown cell are.0) (plain_cells cells are.1)

glyphs_are : (cells : List CellValue) → AllByRecursion IsCell cells → AllByRecursion IsCell (up_to_last_glyph cells)
glyphs_are [] are = tt
glyphs_are (cell ∷ cells) are = kept (list_any is_glyph (cell ∷ cells)) (glyphs_are cells are.1) where
  kept : (b : Bool) → AllByRecursion IsCell (up_to_last_glyph cells) →
      AllByRecursion IsCell (if b then cell ∷ up_to_last_glyph cells else [])
  kept true rest = (are.0, rest)
  kept false rest = tt

opened_are : (cells : List CellValue) → AllByRecursion IsCell cells → AllByRecursion IsCell (cells_after_cut default_blank cells)
opened_are [] are = tt
opened_are (right_half ∷ cells) are = (tt, are.1)
opened_are (blank attrs ∷ cells) are = are
opened_are (glyph text wide attrs ∷ cells) are = are

pub plain_made : (start_ stop : ℕ) (cells : List CellValue) → All IsCell cells →
    IsMadeOf [] plain_controls (plain_text start_ stop cells)
unfolding plain_text
plain_made start_ stop cells are =
    let between = drop start_ (take stop cells) in
    plain_cells (up_to_last_glyph (cells_after_cut default_blank between))
    (glyphs_are (cells_after_cut default_blank between) (opened_are between
    (recursion_from_All IsCell between (All-drop IsCell start_ (take stop cells) (All-take IsCell stop cells are)))))

-- ---- rows

end_made : (row : RowValue) → IsPlain (line_end row)
end_made row = made_if [] plain_controls row.wrapped [] (0x0A ∷ []) (made_nothing [] plain_controls) line_feed

lines_made : (width : ℕ) (is_wrapped : Bool) (rows : List RowValue) →
    AllByRecursion IsAnyRow rows → IsPlain (lines_of width is_wrapped rows)
lines_made width is_wrapped [] are = made_nothing [] plain_controls
lines_made width is_wrapped (row ∷ rows) are =
    made_append [] plain_controls (gap_line width is_wrapped row) _
    (made_if [] plain_controls (is_wrapped && not (has_glyph 0 width row.cells)) (0x0A ∷ []) []
    line_feed (made_nothing [] plain_controls))
    (made_append [] plain_controls (plain_text 0 width row.cells) _ (plain_made 0 width row.cells are.0.sound)
    (made_append [] plain_controls (line_end row) (lines_of width row.wrapped rows)
    (end_made row) (lines_made width row.wrapped rows are.1)))

-- ---- without line ends at the end

abbrev IsOther : ℕ → Type 0
IsOther byte = (byte == 0x0A) ≡ false

other_before : (byte : ℕ) (text : List ℕ) → IsOther byte → with_byte_before byte text ≡ byte ∷ text
other_before byte [] other = rw other refl
other_before byte (next ∷ text) other = refl

others_kept : (bytes rest : List ℕ) → AllByRecursion IsOther bytes →
    without_line_ends (bytes ++ rest) ≡ bytes ++ without_line_ends rest
others_kept [] rest are = refl
others_kept (byte ∷ bytes) rest are =
    ap (with_byte_before byte) (others_kept bytes rest are.1)
    ∙ other_before byte (bytes ++ without_line_ends rest) are.0

high_other : (byte : ℕ) → 11 ≤ byte → IsOther byte
high_other byte h = grind (arith, h)

others_of : (c : ℕ) → 0x20 ≤ c → AllByRecursion IsOther (encode_utf8 c)
unfolding encode_utf8
others_of c h =
    cond_both (nat_lt c 128) (c ∷ []) _ (AllByRecursion IsOther) (λ _. (high_other c (omega arith), tt))
    (λ _. cond_both (nat_lt c 2048) ((192 + c / 64) ∷ (128 + c % 64) ∷ []) _ (AllByRecursion IsOther)
    (λ _. (high_other (192 + c / 64) (omega arith), (high_other (128 + c % 64) (omega arith), tt)))
    (λ _. cond_both (nat_lt c 65536) ((224 + c / 4096) ∷ (128 + c / 64 % 64) ∷ (128 + c % 64) ∷ []) _
    (AllByRecursion IsOther)
    (λ _. (
      high_other (224 + c / 4096) (omega arith),
      (
        high_other (128 + c / 64 % 64) (omega arith),
        (high_other (128 + c % 64) (omega arith), tt),
      ),
    ))
    (λ _. (
      high_other (240 + c / 262144) (omega arith),
      (
        high_other (128 + c / 4096 % 64) (omega arith),
        (high_other (128 + c / 64 % 64) (omega arith), (high_other (128 + c % 64) (omega arith), tt)),
      ),
    ))))

low_bound : (c : ℕ) → IsCharacter c → 0x20 ≤ c
low_bound c (s, inl h) = h.0
low_bound c (s, inr h) = omega arith

characters_kept : (cs : List ℕ) (rest : List ℕ) → AllByRecursion IsCharacter cs →
    without_line_ends (encode_utf8_all cs ++ rest) ≡ encode_utf8_all cs ++ without_line_ends rest
characters_kept [] rest are = refl
characters_kept (c ∷ cs) rest are =
    ap without_line_ends (append_assoc (encode_utf8 c) (encode_utf8_all cs) rest)
    ∙ (others_kept (encode_utf8 c) (encode_utf8_all cs ++ rest) (others_of c (low_bound c are.0))
    ∙ (ap (λ (xs : List ℕ). encode_utf8 c ++ xs) (characters_kept cs rest are.1)
    ∙ sym (append_assoc (encode_utf8 c) (encode_utf8_all cs) (without_line_ends rest))))

before_made : (text : List ℕ) → IsPlain text → IsPlain (with_byte_before 0x0A text)
before_made [] made = made_nothing [] plain_controls
before_made (next ∷ text) made = made_append [] plain_controls (0x0A ∷ []) (next ∷ text) line_feed made

pieces_trimmed : (pieces : List Piece) → AllByRecursion (IsPiece [] plain_controls) pieces →
    IsPlain (without_line_ends (flat_map piece_text pieces))
pieces_trimmed [] are = made_nothing [] plain_controls
pieces_trimmed (Characters cs ∷ pieces) are =
    subst IsPlain (sym (characters_kept cs (flat_map piece_text pieces) are.0))
    (made_append [] plain_controls (encode_utf8_all cs) (without_line_ends (flat_map piece_text pieces))
    (made_piece [] plain_controls (Characters cs) are.0) (pieces_trimmed pieces are.1))
pieces_trimmed (Numbered numbers final ∷ pieces) are = absurd are.0
pieces_trimmed (Control bytes ∷ pieces) (inl e, are) =
    subst (λ (text : List ℕ). IsPlain (without_line_ends (text ++ flat_map piece_text pieces))) (sym e)
    (before_made (without_line_ends (flat_map piece_text pieces)) (pieces_trimmed pieces are))
pieces_trimmed (Control bytes ∷ pieces) (inr none, are) = absurd none

trimmed_made : (text : List ℕ) → IsPlain text → IsPlain (without_line_ends text)
trimmed_made text made =
    subst (λ (t : List ℕ). IsPlain (without_line_ends t)) (sym made.spelled) (pieces_trimmed made.pieces made.are_pieces)

-- ---- the plain text of screens

pub contents_made : (screen : ScreenValue) → IsScreen screen → IsMadeOf [] plain_controls (contents_of screen)
contents_made screen is =
    trimmed_made (lines_of screen.page.width false (visible_rows screen))
    (lines_made screen.page.width false (visible_rows screen)
    (recursion_from_All IsAnyRow (visible_rows screen) (any_visible screen is)))

cells_at : (width : ℕ) (rows : List RowValue) (r : ℕ) → AllByRecursion IsAnyRow rows → All IsCell (row_or width rows r).cells
cells_at width [] r are = All-replicate IsCell width default_blank tt
cells_at width (row ∷ rows) zero are = are.0.sound
cells_at width (row ∷ rows) (suc r) are = cells_at width rows r are.1

pub row_text_made : (screen : ScreenValue) (r start_ stop : ℕ) → IsScreen screen →
    IsMadeOf [] plain_controls (plain_text start_ stop (visible_row screen r).cells)
row_text_made screen r start_ stop is =
    plain_made start_ stop (visible_row screen r).cells
    (cells_at screen.page.width (visible_rows screen) r
    (recursion_from_All IsAnyRow (visible_rows screen) (any_visible screen is)))

all_made : (f : ℕ → List ℕ) → ((r : ℕ) → IsPlain (f r)) → (rs : List ℕ) → IsPlain (flat_map f rs)
all_made f made [] = made_nothing [] plain_controls
all_made f made (r ∷ rs) = made_append [] plain_controls (f r) (flat_map f rs) (made r) (all_made f made rs)

pub between_made : (start_row start_col end_row end_col : ℕ) (screen : ScreenValue) → IsScreen screen →
    IsMadeOf [] plain_controls (between_of start_row start_col end_row end_col screen)
between_made start_row start_col end_row end_col screen is =
    all_made (part_of start_row start_col end_row end_col screen)
    (λ (r : ℕ). made_append [] plain_controls _ (if r == end_row then [] else line_end (visible_row screen r))
    (row_text_made screen r _ _ is)
    (made_if [] plain_controls (r == end_row) [] (line_end (visible_row screen r))
    (made_nothing [] plain_controls) (end_made (visible_row screen r))))
    (range_with_len start_row (min (end_row + 1) (length screen.page.rows) - start_row))

texts_made : (start_ stop : ℕ) (rows : List RowValue) → AllByRecursion IsAnyRow rows → (r : ℕ) →
    IsPlain (text_at (row_texts start_ stop rows) r)
texts_made start_ stop [] are r = made_nothing [] plain_controls
texts_made start_ stop (row ∷ rows) are zero = plain_made start_ stop row.cells are.0.sound
texts_made start_ stop (row ∷ rows) are (suc r) = texts_made start_ stop rows are.1 r

pub rows_made : (screen : ScreenValue) (start_ stop : ℕ) (texts : List (List ℕ)) → IsScreen screen →
    texts ≡ row_texts start_ stop (visible_rows screen) → (r : ℕ) → IsMadeOf [] plain_controls (text_at texts r)
rows_made screen start_ stop texts is told r =
    subst (λ (all : List (List ℕ)). IsPlain (text_at all r)) (sym told)
    (texts_made start_ stop (visible_rows screen)
    (recursion_from_All IsAnyRow (visible_rows screen) (any_visible screen is)) r)
