-- Output that is portable, and output that is not, read by terminals of two rows and three columns.
use Rattle.std.proofs.Common.{◌≡◌, ℕ, inl, true, false, List, [], ◌∷◌, ◌++◌, refl, arith}
use Rattle.unicode_width.proofs.Computing.{unicode_width}
use Rattle.vt_cells.specs.Attrs.{default_attrs}
use Rattle.vt_cells.specs.Cell.{CellValue, default_blank, glyph, right_half}
use Rattle.vt_cells.specs.Glyph.{columns_of, is_wide_text}
use Rattle.vt_grid.specs.Erasing.{erased_chars}
use Rattle.vt_grid.specs.Moves.{line_feed}
use Rattle.vt_grid.specs.Page.{blank_page}
use Rattle.vt_grid.specs.Printing.{carries, mark_printed, room_made}
use Rattle.vt_redraw.specs.Certain.{is_certain_letter, is_certain_narrow, is_certain_symbol, is_certain_wide}
use Rattle.vt_redraw.specs.Certain.{is_early_letter, is_high_letter, is_late_letter, is_low_symbol, is_powerline}
use Rattle.vt_redraw.specs.Doubts.{Unsure, doubts_of, no_doubts}
use Rattle.vt_rows.specs.Cells.{put_cells}
use Rattle.vt_scan.specs.Automaton.{character_step, fresh_step, start, run}
use Rattle.vt_scan.specs.Characters.{is_beginning, is_character}
use Rattle.vt_scan.specs.Parameters.{groups_of, number_of, numbers_of, table_of}
use Rattle.vt_scan.specs.Table.{class_of}
use Rattle.vt_screen.specs.Controls.{character_steps, control_steps, counted_step, escape_steps, other_steps, scrolling_steps}
use Rattle.vt_screen.specs.Portable.{PortableEvents, control_use, csi_use, escape_use}
use Rattle.vt_screen.specs.Screen.{ScreenValue, fresh_screen}
use Rattle.vt_screen.specs.Sgr.{group_read, number_read, setting_read}

abbrev blanks : List CellValue
blanks = default_blank ∷ default_blank ∷ default_blank ∷ []

-- U+65E5, which takes two columns, and a blank.
abbrev sun : List CellValue
sun = glyph (0xE6 ∷ 0x97 ∷ 0xA5 ∷ []) true default_attrs ∷ right_half ∷ default_blank ∷ []

-- A screen of two rows and three columns, the first row of which has the given cells.
abbrev screen : List CellValue → ScreenValue
screen cells = record (fresh_screen 2 3 0) {
  page = record (blank_page 2 3) {
    rows = record { cells = cells; wrapped = false } ∷ record { cells = blanks; wrapped = false } ∷ [];
  };
}

-- Terminals that display a row of the given cells above a blank row, with the cursor at the top left, agree on the
-- effect of the bytes.
abbrev Agrees : List CellValue → List ℕ → Type 0
Agrees cells text = PortableEvents (run start text).events no_doubts (screen cells)

-- CSI 1;3H, which moves the cursor to the last column of the first row.
abbrev last : List ℕ
last = 0x1B ∷ 0x5B ∷ 0x31 ∷ 0x3B ∷ 0x33 ∷ 0x48 ∷ []

-- CSI H, which moves the cursor to the top left.
abbrev home : List ℕ
home = 0x1B ∷ 0x5B ∷ 0x48 ∷ []

-- CSI X, which erases one column.
abbrev erase : List ℕ
erase = 0x1B ∷ 0x5B ∷ 0x58 ∷ []

-- ---- a pending wrap

-- A space in the last column makes a wrap pending. From there, BS moves to different columns.
backspace_at_wrap : Agrees blanks (last ++ 0x20 ∷ 0x1B ∷ 0x37 ∷ 0x08 ∷ (erase ++ 0x1B ∷ 0x38 ∷ [])) → ⊥
unfolding fresh_step class_of table_of groups_of numbers_of number_of columns_of csi_use control_use escape_use
    counted_step scrolling_steps other_steps control_steps character_steps escape_steps room_made is_certain_narrow
    unicode_width put_cells
backspace_at_wrap p = let met = p.1.1.1.0.0.wrap in cc

-- CUP names the column. DECRC then moves the cursor only to where it was saved.
position_at_wrap : Agrees blanks (last ++ 0x20 ∷ 0x1B ∷ 0x37 ∷ (last ++ (erase ++ 0x1B ∷ 0x38 ∷ [])))
unfolding fresh_step class_of table_of groups_of numbers_of number_of columns_of csi_use control_use escape_use
    counted_step scrolling_steps other_steps control_steps character_steps escape_steps room_made is_certain_narrow
    put_cells erased_chars unicode_width
position_at_wrap = (
  tt,
  (
    (refl, inl (omega arith)),
    (
      refl,
      (
        tt,
        (
          (record { wrap = refl; place = refl }, (refl, refl)),
          (record { row = refl; column = omega arith; origin = refl }, tt),
        ),
      ),
    ),
  ),
)

-- After LF at a pending wrap, the next character is printed in different places.
fed_at_wrap : Agrees blanks (last ++ 0x61 ∷ 0x0A ∷ 0x62 ∷ []) → ⊥
unfolding fresh_step class_of table_of groups_of numbers_of number_of columns_of csi_use control_use counted_step
    scrolling_steps other_steps control_steps character_steps room_made line_feed is_certain_narrow unicode_width
    put_cells
fed_at_wrap p = let met = p.1.1.1.0.0 in cc

-- After CR, no wrap is pending.
returned_at_wrap : Agrees blanks (last ++ 0x61 ∷ 0x0D ∷ 0x0A ∷ 0x62 ∷ [])
unfolding fresh_step class_of table_of groups_of numbers_of number_of columns_of csi_use control_use counted_step
    scrolling_steps other_steps control_steps character_steps room_made line_feed is_certain_narrow unicode_width
    put_cells
returned_at_wrap = (tt, ((refl, inl (omega arith)), (refl, ((refl, omega arith), ((refl, inl (omega arith)), tt)))))

-- A wrap that is pending in a row that ends with a blank was made pending by DECRC or LF.
restored_wrap : (doubts_of
    (record { rows = (screen blanks).page.rows; width = 3; row = 0; column = 3; attrs = default_attrs; hidden = false })).wrap
    ≡ Unsure
unfolding doubts_of
restored_wrap = refl

-- ---- bold and dim

-- Dim is still set when bold is set.
dim_to_bold : Agrees blanks (0x1B ∷ 0x5B ∷ 0x32 ∷ 0x6D ∷ 0x61 ∷ 0x1B ∷ 0x5B ∷ 0x31 ∷ 0x6D ∷ []) → ⊥
unfolding fresh_step class_of table_of groups_of numbers_of number_of columns_of csi_use counted_step scrolling_steps
    other_steps character_steps room_made group_read setting_read number_read is_certain_narrow unicode_width
    put_cells
dim_to_bold p = let met = p.1.1.0.0 in cc

-- SGR 22 ends dim before bold is set.
dim_to_normal_to_bold :
    Agrees blanks (0x1B ∷ 0x5B ∷ 0x32 ∷ 0x6D ∷ 0x61 ∷ 0x1B ∷ 0x5B ∷ 0x32 ∷ 0x32 ∷ 0x3B ∷ 0x31 ∷ 0x6D ∷ [])
unfolding fresh_step class_of table_of groups_of numbers_of number_of columns_of csi_use counted_step scrolling_steps
    other_steps character_steps room_made group_read setting_read number_read is_certain_narrow unicode_width
    put_cells
dim_to_normal_to_bold = ((refl, tt), ((refl, inl (omega arith)), ((refl, (refl, tt)), tt)))

-- SGR without a number ends dim, too.
dim_to_default_to_bold :
    Agrees blanks (0x1B ∷ 0x5B ∷ 0x32 ∷ 0x6D ∷ 0x61 ∷ 0x1B ∷ 0x5B ∷ 0x6D ∷ 0x1B ∷ 0x5B ∷ 0x31 ∷ 0x6D ∷ [])
unfolding fresh_step class_of table_of groups_of numbers_of number_of columns_of csi_use counted_step scrolling_steps
    other_steps character_steps room_made group_read setting_read number_read is_certain_narrow unicode_width
    put_cells
dim_to_default_to_bold = ((refl, tt), ((refl, inl (omega arith)), ((refl, tt), ((refl, tt), tt))))

-- ---- wide glyphs

-- The first half of a wide glyph is erased.
half_erased : Agrees sun (home ++ erase) → ⊥
unfolding fresh_step class_of table_of groups_of numbers_of number_of csi_use counted_step scrolling_steps other_steps
half_erased p = let met = p.1.0.1.1 in cc

-- A whole wide glyph is erased and printed again.
whole_erased : Agrees sun (home ++ 0x1B ∷ 0x5B ∷ 0x32 ∷ 0x58 ∷ 0xE6 ∷ 0x97 ∷ 0xA5 ∷ [])
unfolding fresh_step character_step class_of table_of groups_of numbers_of number_of columns_of unicode_width csi_use
    counted_step scrolling_steps other_steps character_steps room_made put_cells is_certain_narrow is_certain_wide
    is_beginning is_character erased_chars
whole_erased = (tt, ((record { wrap = refl; place = refl }, (refl, refl)), ((refl, inl (omega arith)), tt)))

-- DCH moves a wide glyph.
wide_deleted : Agrees sun (home ++ 0x1B ∷ 0x5B ∷ 0x50 ∷ []) → ⊥
unfolding fresh_step class_of table_of groups_of numbers_of number_of csi_use counted_step scrolling_steps other_steps
wide_deleted p = let met = p.1.0.1 in cc

-- ---- glyphs of uncertain width

-- U+0301 joins the e before it. A character may follow this glyph only after CUP.
after_combining : Agrees blanks (0x65 ∷ 0xCC ∷ 0x81 ∷ 0x78 ∷ []) → ⊥
unfolding fresh_step character_step class_of columns_of unicode_width character_steps room_made is_certain_narrow
    is_certain_letter is_early_letter is_late_letter is_high_letter is_certain_symbol is_low_symbol is_powerline
    is_certain_wide put_cells mark_printed carries is_wide_text is_beginning is_character
after_combining p = let met = p.1.1.0.0 in cc

position_after_combining : Agrees blanks (0x65 ∷ 0xCC ∷ 0x81 ∷ 0x1B ∷ 0x5B ∷ 0x31 ∷ 0x3B ∷ 0x32 ∷ 0x48 ∷ 0x78 ∷ [])
unfolding fresh_step character_step class_of table_of groups_of numbers_of number_of columns_of unicode_width csi_use
    counted_step scrolling_steps other_steps character_steps room_made is_certain_narrow is_certain_wide put_cells
    mark_printed carries is_wide_text is_beginning is_character
position_after_combining =
    ((refl, inl (omega arith)), ((refl, refl), (tt, ((refl, inl (omega arith)), tt))))

-- ---- other elements

-- HT is never portable.
tab : Agrees blanks (0x09 ∷ []) → ⊥
unfolding fresh_step class_of control_use
tab p = p.0

-- IL in the second column, from which some terminals move the cursor to the first one.
inserted_row : Agrees blanks (0x61 ∷ 0x1B ∷ 0x5B ∷ 0x4C ∷ []) → ⊥
unfolding fresh_step class_of table_of groups_of numbers_of number_of columns_of csi_use character_steps room_made
    is_certain_narrow unicode_width put_cells
inserted_row p = let met = p.1.0.1 in omega (arith, met)

-- REP has room for two more characters in a row of three columns, and not for three.
repeated : Agrees blanks (0x61 ∷ 0x1B ∷ 0x5B ∷ 0x32 ∷ 0x62 ∷ [])
unfolding fresh_step class_of table_of groups_of numbers_of number_of columns_of csi_use character_steps room_made
    is_certain_narrow unicode_width put_cells
repeated = (
  (refl, inl (omega arith)),
  (
    record {
      place = record { wrap = refl; place = refl };
      follows = refl;
      character = 0x61;
      is = refl;
      columns = refl;
      room = omega arith;
    },
    tt,
  ),
)

repeated_past : Agrees blanks (0x61 ∷ 0x1B ∷ 0x5B ∷ 0x33 ∷ 0x62 ∷ []) → ⊥
unfolding fresh_step class_of table_of groups_of numbers_of number_of columns_of csi_use character_steps room_made
    is_certain_narrow unicode_width put_cells
repeated_past p = let room = p.1.0.room in omega (arith, room)
