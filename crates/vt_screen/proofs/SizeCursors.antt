-- Steps keep the size of a screen, and its cursors on the page.
use Rattle.std.proofs.Common.{◌≡◌, ℕ, zero, suc, ◌+◌, ◌-◌, ◌<◌, ◌==◌, ◌&&◌, nat_lt, min, not, Bool, true, false, List}
use Rattle.std.proofs.Common.{length, refl, ◌∙◌, arith, drop, replicate}
use Rattle.std.specs.Prelude.{◌||◌, if◌then◌else◌, Option, Some, None}
use Rattle.std.specs.Char.{encode_utf8}
use Rattle.std.proofs.lemmas.Bool.Decides.{nat_tests}
use Rattle.std.proofs.lemmas.List.{length-append, length-drop, length-replicate}
use Rattle.vt_cells.specs.Attrs.{Attrs}
use Rattle.vt_cells.specs.Cell.{cell_with_mark, text_of, is_wide, CellValue}
use Rattle.vt_cells.specs.Glyph.{columns_of, is_selector, is_wide_text}
use Rattle.vt_rows.specs.Cells.{at, ends_blank, cells_after_erase, widened_at}
use Rattle.vt_rows.specs.Row.{blank_row}
use Rattle.vt_grid.specs.Page.{Page, IsPage, SameSize, cursor_row, scrolled_up}
use Rattle.vt_grid.specs.Moves.{at_bottom, cursor_restored, cursor_saved, line_feed, moved, origin_set}
use Rattle.vt_grid.specs.Regions.{in_region, last_row, region_set}
use Rattle.vt_grid.specs.declared.grid.moves.CursorMove.{CursorMove}
use Rattle.vt_grid.specs.declared.grid.moves.CursorMove.TheVariants.{To}
use Rattle.vt_grid.specs.Shifts.{rows_down, scrolled_down, reverse_index, lines_inserted, lines_deleted, chars_inserted}
use Rattle.vt_grid.specs.Shifts.{chars_deleted}
use Rattle.vt_grid.specs.Erasing.{erased_columns, erased_chars, erased_rest, erased_below, erased_start, erased_row}
use Rattle.vt_grid.specs.Erasing.{blanked_above, erased_above, erased_page}
use Rattle.vt_grid.specs.Printing.{carries, lifted_page, with_cursor_cells, left_row, goes_down, flagged_left}
use Rattle.vt_grid.specs.Printing.{wrapped_page, lacks_room, room_made, glyph_put, mark_column, takes_mark, mark_put}
use Rattle.vt_grid.specs.Printing.{page_after_wrap, made_wide, made_narrow, width_followed, mark_printed}
use Rattle.vt_grid.specs.Printing.{page_after_print, printed_by}
use Rattle.vt_grid.specs.PageStep.{page_after}
use Rattle.vt_grid.specs.declared.page_step.PageStep.{PageStep}
use Rattle.vt_grid.specs.declared.page_step.PageStep.TheVariants.{Move, ReverseIndex, SetRegion, UseOrigin, EraseBelow}
use Rattle.vt_grid.specs.declared.page_step.PageStep.TheVariants.{EraseAbove, ErasePage, EraseRest, EraseStart}
use Rattle.vt_grid.specs.declared.page_step.PageStep.TheVariants.{EraseRow, EraseChars, InsertChars, DeleteChars}
use Rattle.vt_grid.specs.declared.page_step.PageStep.TheVariants.{InsertLines, DeleteLines, ScrollDown}
use Rattle.vt_grid.proofs.Pages.{moved_row, page_erased_chars, page_erased_rest, page_erased_below, page_moved}
use Rattle.vt_grid.proofs.Pages.{page_origin_set, page_region_set}
use Rattle.vt_grid.proofs.Shifting.{page_scrolled_down, page_reverse_index, page_lines_inserted, page_lines_deleted}
use Rattle.vt_grid.proofs.Shifting.{page_chars_inserted, page_chars_deleted, page_erased_start, page_erased_row}
use Rattle.vt_grid.proofs.Shifting.{page_erased_above, page_erased_page}
use Rattle.vt_screen.proofs.SizePage.{same_cursor_cells, same_mark_put, same_through, same_scrolled_up}
use Rattle.vt_screen.proofs.SizePage.{same_scrolled_down, same_lines_inserted, same_lines_deleted, same_chars_inserted}
use Rattle.vt_screen.proofs.SizePage.{same_chars_deleted, same_erased_chars, same_erased_rest, same_erased_below}
use Rattle.vt_screen.proofs.SizePage.{same_erased_start, same_erased_row, same_erased_page, same_printed}
use Rattle.vt_screen.proofs.SizePage.{same_reverse_index, same_region_set}
use Rattle.vt_screen.proofs.StepCells.{EachRow, IsStable, stable_erased_below, stable_erased_chars, stable_erased_rest}
use Rattle.vt_screen.proofs.StepCells.{stable_chars_deleted, stable_chars_inserted, stable_erased_above}
use Rattle.vt_screen.proofs.StepCells.{stable_erased_page, stable_erased_row, stable_erased_start, stable_lines_deleted}
use Rattle.vt_screen.proofs.StepCells.{stable_lines_inserted, stable_region_set, stable_reverse_index}
use Rattle.vt_screen.proofs.StepCells.{stable_scrolled_down}
pub use Rattle.vt_screen.specs.Internals.{IsInside}

-- ==== Steps keep the size of a screen, and its cursors on the page.

pub inside_page : (page : Page) → IsPage page → IsInside page
inside_page page p = record { row = p.cursor_row; saved_row = p.saved_row; bottom = p.region_end }

-- The two pages have the same cursor row, saved cursor row and bottom of the scroll region.
record SameRows (new page : Page) : Type 0 where
  pub row : new.row ≡ page.row
  pub saved_row : new.saved_row ≡ page.saved_row
  pub bottom : new.bottom ≡ page.bottom

same_rows : (page : Page) → SameRows page page
same_rows page = record { row = refl; saved_row = refl; bottom = refl }

then_rows : (a b c : Page) → SameRows a b → SameRows b c → SameRows a c
then_rows a b c s t =
    record { row = s.row ∙ t.row; saved_row = s.saved_row ∙ t.saved_row; bottom = s.bottom ∙ t.bottom }

rows_if : (b : Bool) (x y page : Page) → SameRows x page → SameRows y page → SameRows (if b then x else y) page
rows_if true x y page s t = s
rows_if false x y page s t = t

inside_rows : (new page : Page) → SameSize new page → SameRows new page → IsInside page → IsInside new
inside_rows new page s r i = record {
  row = omega (arith, s.height, r.row, i.row);
  saved_row = omega (arith, s.height, r.saved_row, i.saved_row);
  bottom = omega (arith, s.height, r.bottom, i.bottom);
}

inside_at : (new page : Page) → SameSize new page → new.saved_row ≡ page.saved_row →
    new.bottom ≡ page.bottom → new.row < length page.rows → IsInside page → IsInside new
inside_at new page s saved bottom row i = record {
  row = omega (arith, s.height, row);
  saved_row = omega (arith, s.height, saved, i.saved_row);
  bottom = omega (arith, s.height, bottom, i.bottom);
}

inside_if : (b : Bool) (x y : Page) → IsInside x → IsInside y → IsInside (if b then x else y)
inside_if true x y i j = i
inside_if false x y i j = j

-- ---- cursor movement

pub inside_moved : (move : CursorMove) (page : Page) → IsInside page → IsInside (moved move page)
inside_moved move page i =
    record { row = moved_row move page i.row i.bottom; saved_row = i.saved_row; bottom = i.bottom }

pub inside_region_set : (top bottom : ℕ) (page : Page) → IsInside page → IsInside (region_set top bottom page)
unfolding region_set
inside_region_set top bottom page i = by_order (nat_lt top low) refl where
  low : ℕ
  low = min bottom (last_row page)

  by_order : (b : Bool) → nat_lt top low ≡ b →
      IsInside (if b then record page { top = top; bottom = low; row = top; column = 0 }
      else record page { top = 0; bottom = last_row page; row = 0; column = 0 })
  by_order true e =
      record { row = grind (arith, nat_tests, i.row); saved_row = i.saved_row; bottom = omega (arith, i.row) }
  by_order false e = record { row = omega (arith, i.row); saved_row = i.saved_row; bottom = omega (arith, i.row) }

pub inside_origin_set : (on : Bool) (page : Page) → IsInside page → IsInside (origin_set on page)
inside_origin_set on page i =
    inside_moved (To 0 0) (record page { origin = on })
    (record { row = i.row; saved_row = i.saved_row; bottom = i.bottom })

pub inside_cursor_saved : (page : Page) → IsInside page → IsInside (cursor_saved page)
inside_cursor_saved page i = record { row = i.row; saved_row = i.row; bottom = i.bottom }

pub inside_cursor_restored : (page : Page) → IsInside page → IsInside (cursor_restored page)
inside_cursor_restored page i = record { row = i.saved_row; saved_row = i.saved_row; bottom = i.bottom }

pub inside_line_feed : (page : Page) → IsInside page → IsInside (line_feed page)
unfolding line_feed
inside_line_feed page i =
    inside_if (at_bottom page) (scrolled_up 1 page)
    (if nat_lt (page.row + 1) (length page.rows) then record page { row = page.row + 1 } else page)
    (inside_rows (scrolled_up 1 page) page (same_scrolled_up 1 page)
    (record { row = refl; saved_row = refl; bottom = refl }) i)
    (by_room (nat_lt (page.row + 1) (length page.rows)) refl) where
      by_room : (b : Bool) → nat_lt (page.row + 1) (length page.rows) ≡ b →
          IsInside (if b then record page { row = page.row + 1 } else page)
      by_room true e = record { row = grind (arith, nat_tests); saved_row = i.saved_row; bottom = i.bottom }
      by_room false e = i

-- ---- moving rows and columns

pub inside_scrolled_up : (n : ℕ) (page : Page) → IsInside page → IsInside (scrolled_up n page)
inside_scrolled_up n page i =
    inside_rows (scrolled_up n page) page (same_scrolled_up n page)
    (record { row = refl; saved_row = refl; bottom = refl }) i

pub inside_scrolled_down : (n : ℕ) (page : Page) → IsInside page → IsInside (scrolled_down n page)
inside_scrolled_down n page i =
    inside_rows (scrolled_down n page) page (same_scrolled_down n page)
    (record { row = refl; saved_row = refl; bottom = refl }) i

pub inside_reverse_index : (page : Page) → IsInside page → IsInside (reverse_index page)
unfolding reverse_index
inside_reverse_index page i =
    inside_if ((page.row == page.top) || (page.row == 0)) (scrolled_down 1 page)
    (record page { row = page.row - 1 }) (inside_scrolled_down 1 page i)
    (record { row = omega (arith, i.row); saved_row = i.saved_row; bottom = i.bottom })

pub inside_lines_inserted : (n : ℕ) (page : Page) → IsInside page → IsInside (lines_inserted n page)
unfolding lines_inserted
inside_lines_inserted n page i =
    inside_rows (lines_inserted n page) page (same_lines_inserted n page)
    (rows_if (in_region page) (record page { rows = rows_down page.width page.row page.bottom n page.rows })
    page page (record { row = refl; saved_row = refl; bottom = refl }) (same_rows page))
    i

pub inside_lines_deleted : (n : ℕ) (page : Page) → IsInside page → IsInside (lines_deleted n page)
unfolding lines_deleted
inside_lines_deleted n page i =
    inside_rows (lines_deleted n page) page (same_lines_deleted n page)
    (rows_if (in_region page) (record page { rows = _ }) page page
    (record { row = refl; saved_row = refl; bottom = refl }) (same_rows page))
    i

pub inside_chars_inserted : (n : ℕ) (page : Page) → IsInside page → IsInside (chars_inserted n page)
inside_chars_inserted n page i =
    inside_rows (chars_inserted n page) page (same_chars_inserted n page)
    (record { row = refl; saved_row = refl; bottom = refl }) i

pub inside_chars_deleted : (n : ℕ) (page : Page) → IsInside page → IsInside (chars_deleted n page)
inside_chars_deleted n page i =
    inside_rows (chars_deleted n page) page (same_chars_deleted n page)
    (record { row = refl; saved_row = refl; bottom = refl }) i

-- ---- erasing

rows_erased_columns : (c n : ℕ) (attrs : Attrs) (page : Page) → SameRows (erased_columns c n attrs page) page
rows_erased_columns c n attrs page = record { row = refl; saved_row = refl; bottom = refl }

rows_erased_rest : (attrs : Attrs) (page : Page) → SameRows (erased_rest attrs page) page
unfolding erased_rest
rows_erased_rest attrs page =
    let count = page.width - page.column in
    rows_if (page.column == page.width) page (erased_columns page.column count attrs page)
    page (same_rows page) (rows_erased_columns page.column count attrs page)

pub inside_erased_chars : (n : ℕ) (attrs : Attrs) (page : Page) → IsInside page → IsInside (erased_chars n attrs page)
unfolding erased_chars
inside_erased_chars n attrs page i =
    let count = min n (page.width - page.column) in
    inside_rows (erased_chars n attrs page) page (same_erased_chars n attrs page)
    (rows_if ((n == 0) || (page.column == page.width)) page (erased_columns page.column count attrs page)
    page (same_rows page) (rows_erased_columns page.column count attrs page))
    i

pub inside_erased_rest : (attrs : Attrs) (page : Page) → IsInside page → IsInside (erased_rest attrs page)
inside_erased_rest attrs page i =
    inside_rows (erased_rest attrs page) page (same_erased_rest attrs page) (rows_erased_rest attrs page) i

pub inside_erased_below : (attrs : Attrs) (page : Page) → IsInside page → IsInside (erased_below attrs page)
unfolding erased_below
inside_erased_below attrs page i =
    let r = rows_erased_rest attrs page in
    inside_rows (erased_below attrs page) page (same_erased_below attrs page)
    (record { row = r.row; saved_row = r.saved_row; bottom = r.bottom }) i

rows_erased_start : (attrs : Attrs) (page : Page) → SameRows (erased_start attrs page) page
unfolding erased_start
rows_erased_start attrs page = record { row = refl; saved_row = refl; bottom = refl }

pub inside_erased_start : (attrs : Attrs) (page : Page) → IsInside page → IsInside (erased_start attrs page)
inside_erased_start attrs page i =
    inside_rows (erased_start attrs page) page (same_erased_start attrs page) (rows_erased_start attrs page) i

pub inside_erased_row : (attrs : Attrs) (page : Page) → IsInside page → IsInside (erased_row attrs page)
inside_erased_row attrs page i =
    inside_rows (erased_row attrs page) page (same_erased_row attrs page)
    (record { row = refl; saved_row = refl; bottom = refl }) i

same_blanked_above : (attrs : Attrs) (page : Page) → IsInside page → SameSize (blanked_above attrs page) page
same_blanked_above attrs page i =
    let blank = blank_row attrs page.width in
    record {
      width = refl;
      height = omega (
        arith,
        i.row,
        length-append (replicate page.row blank) (drop page.row page.rows),
        length-replicate page.row blank,
        length-drop page.row page.rows,
      );
    }

pub same_erased_above : (attrs : Attrs) (page : Page) → IsInside page → SameSize (erased_above attrs page) page
unfolding erased_above
same_erased_above attrs page i =
    let start = erased_start attrs page in
    same_through (blanked_above attrs start) start page
    (same_blanked_above attrs start (inside_erased_start attrs page i)) (same_erased_start attrs page)

pub inside_erased_above : (attrs : Attrs) (page : Page) → IsInside page → IsInside (erased_above attrs page)
unfolding erased_above
inside_erased_above attrs page i =
    let start = erased_start attrs page in
    let j = inside_erased_start attrs page i in
    inside_rows (blanked_above attrs start) start (same_blanked_above attrs start j)
    (record { row = refl; saved_row = refl; bottom = refl }) j

pub inside_erased_page : (attrs : Attrs) (page : Page) → IsInside page → IsInside (erased_page attrs page)
inside_erased_page attrs page i =
    inside_rows (erased_page attrs page) page (same_erased_page attrs page)
    (record { row = refl; saved_row = refl; bottom = refl }) i

-- ---- printing

-- The new page has the same saved row and bottom of the scroll region, and its cursor is still on the page.
record Stays (new page : Page) : Type 0 where
  pub saved_row : new.saved_row ≡ page.saved_row
  pub bottom : new.bottom ≡ page.bottom
  pub row : IsInside page → new.row < length page.rows

stays : (page : Page) → Stays page page
stays page = record { saved_row = refl; bottom = refl; row = λ i. i.row }

stays_put : (new page : Page) → SameRows new page → Stays new page
stays_put new page r = record { saved_row = r.saved_row; bottom = r.bottom; row = λ i. omega (arith, r.row, i.row) }

stays_if : (b : Bool) (x y page : Page) → Stays x page → Stays y page → Stays (if b then x else y) page
stays_if true x y page s t = s
stays_if false x y page s t = t

same_flagged : (left : Option ℕ) (is_wrapped : Bool) (page : Page) → SameRows (flagged_left left is_wrapped page) page
same_flagged (Some r) is_wrapped page = record { row = refl; saved_row = refl; bottom = refl }
same_flagged None is_wrapped page = same_rows page

stays_line_feed : (page : Page) → Stays (line_feed page) page
unfolding line_feed
stays_line_feed page =
    stays_if (at_bottom page) (scrolled_up 1 page)
    (if nat_lt (page.row + 1) (length page.rows) then record page { row = page.row + 1 } else page) page
    (stays_put (scrolled_up 1 page) page (record { row = refl; saved_row = refl; bottom = refl }))
    (by_room (nat_lt (page.row + 1) (length page.rows)) refl) where
      by_room : (b : Bool) → nat_lt (page.row + 1) (length page.rows) ≡ b →
          Stays (if b then record page { row = page.row + 1 } else page) page
      by_room true e = record { saved_row = refl; bottom = refl; row = λ i. grind (arith, nat_tests) }
      by_room false e = stays page

stays_wrapped : (page : Page) → Stays (wrapped_page page) page
unfolding wrapped_page
stays_wrapped page =
    let fed = line_feed page in
    let r = same_flagged (left_row page) (goes_down page && not (ends_blank (cursor_row page).cells)) fed in
    let s = stays_line_feed page in
    record {
      saved_row = r.saved_row ∙ s.saved_row;
      bottom = r.bottom ∙ s.bottom;
      row = λ i. omega (arith, r.row, s.row i);
    }

stays_room_made : (n : ℕ) (page : Page) → Stays (room_made n page) page
unfolding room_made
stays_room_made n page = stays_if (lacks_room n page) (wrapped_page page) page page (stays_wrapped page) (stays page)

rows_glyph_put : (text : List ℕ) (wide : Bool) (attrs : Attrs) (page : Page) →
    SameRows (glyph_put text wide attrs page) page
rows_glyph_put text false attrs page = record { row = refl; saved_row = refl; bottom = refl }
rows_glyph_put text true attrs page = record { row = refl; saved_row = refl; bottom = refl }

stays_after : (new mid page : Page) → SameRows new mid → Stays mid page → Stays new page
stays_after new mid page r s = record {
  saved_row = r.saved_row ∙ s.saved_row;
  bottom = r.bottom ∙ s.bottom;
  row = λ i. omega (arith, r.row, s.row i);
}

-- If a first step keeps the rows of both cursors and a second step keeps the cursor on the page, so do both steps
-- together.
stays_over : (new mid page : Page) → Stays new mid → SameSize mid page → SameRows mid page → Stays new page
stays_over new mid page s same r = record {
  saved_row = s.saved_row ∙ r.saved_row;
  bottom = s.bottom ∙ r.bottom;
  row = λ i. omega (arith, same.height, s.row (inside_rows mid page same r i));
}

stays_carried : (mark : ℕ) (attrs : Attrs) (page : Page) → Stays (page_after_wrap mark attrs page) page
unfolding page_after_wrap
stays_carried mark attrs page =
    let text = text_of (cell_with_mark mark (at (cursor_row page).cells (mark_column page))) in
    let left = lifted_page (mark_column page) attrs page in
    let below = wrapped_page left in
    stays_over (glyph_put text true attrs below) left page
    (stays_after (glyph_put text true attrs below) below left
    (rows_glyph_put text true attrs below) (stays_wrapped left))
    (same_cursor_cells (cells_after_erase (mark_column page) 1 attrs (cursor_row page).cells) page)
    (record { row = refl; saved_row = refl; bottom = refl })

stays_made_wide : (k : ℕ) (attrs : Attrs) (page : Page) → Stays (made_wide k attrs page) page
unfolding made_wide
stays_made_wide k attrs page =
    let cells = (cursor_row page).cells in
    stays_put (record (with_cursor_cells (widened_at k attrs cells) page) { column = page.column + 1 }) page
    (record { row = refl; saved_row = refl; bottom = refl })

stays_width_followed : (k : ℕ) (attrs : Attrs) (page : Page) → Stays (width_followed k attrs page) page
unfolding width_followed
stays_width_followed k attrs page =
    let cell = at (cursor_row page).cells k in
    let wide = is_wide_text (text_of cell) && nat_lt 1 page.width in
    let narrow = stays_put (made_narrow k attrs page) page (record { row = refl; saved_row = refl; bottom = refl }) in
    stays_if (is_wide cell) (if wide then page else made_narrow k attrs page)
    (if wide then made_wide k attrs page else page) page
    (stays_if wide page (made_narrow k attrs page) page (stays page) narrow)
    (stays_if wide (made_wide k attrs page) page page (stays_made_wide k attrs page) (stays page))

stays_mark_printed : (mark : ℕ) (attrs : Attrs) (page : Page) → Stays (mark_printed mark attrs page) page
unfolding mark_printed
stays_mark_printed mark attrs page =
    let k = mark_column page in
    let put = mark_put k mark page in
    let rows : SameRows put page = record { row = refl; saved_row = refl; bottom = refl } in
    let put_on : Page = if is_selector mark then width_followed k attrs put else put in
    stays_if (carries mark page) (page_after_wrap mark attrs page)
    (if takes_mark (at (cursor_row page).cells k) then put_on else page) page
    (stays_carried mark attrs page)
    (stays_if (takes_mark (at (cursor_row page).cells k)) put_on page page
    (stays_if (is_selector mark) (width_followed k attrs put) put page
    (stays_over (width_followed k attrs put) put page
    (stays_width_followed k attrs put) (same_mark_put k mark page) rows)
    (stays_put put page rows))
    (stays page))

stays_printed_by : (columns : Option ℕ) (c : ℕ) (attrs : Attrs) (page : Page) →
    Stays (printed_by columns c attrs page) page
stays_printed_by None c attrs page = stays page
stays_printed_by (Some zero) c attrs page =
    stays_if (page.column == 0) page (mark_printed c attrs page) page (stays page) (stays_mark_printed c attrs page)
stays_printed_by (Some (suc zero)) c attrs page =
    stays_after (glyph_put (encode_utf8 c) false attrs (room_made 1 page)) (room_made 1 page)
    page (rows_glyph_put (encode_utf8 c) false attrs (room_made 1 page)) (stays_room_made 1 page)
stays_printed_by (Some (suc (suc n))) c attrs page =
    stays_if (nat_lt 1 page.width) (glyph_put (encode_utf8 c) true attrs (room_made 2 page)) page page
    (stays_after (glyph_put (encode_utf8 c) true attrs (room_made 2 page)) (room_made 2 page)
    page (rows_glyph_put (encode_utf8 c) true attrs (room_made 2 page)) (stays_room_made 2 page))
    (stays page)

pub inside_printed : (c : ℕ) (attrs : Attrs) (page : Page) → IsInside page → IsInside (page_after_print c attrs page)
inside_printed c attrs page i =
    let s = stays_printed_by (columns_of c) c attrs page in
    inside_at (page_after_print c attrs page) page (same_printed c attrs page) s.saved_row s.bottom (s.row i) i

-- ==== The properties that every step of a page preserves: its size, its cursors on it, its invariant, and the
-- properties of each cell.

pub same_page_after : (attrs : Attrs) (step : PageStep) (page : Page) → IsInside page
    → SameSize (page_after attrs step page) page
same_page_after attrs ReverseIndex page i = same_reverse_index page
same_page_after attrs (SetRegion top bottom) page i = same_region_set top bottom page
same_page_after attrs EraseBelow page i = same_erased_below attrs page
same_page_after attrs EraseAbove page i = same_erased_above attrs page i
same_page_after attrs ErasePage page i = same_erased_page attrs page
same_page_after attrs EraseRest page i = same_erased_rest attrs page
same_page_after attrs EraseStart page i = same_erased_start attrs page
same_page_after attrs EraseRow page i = same_erased_row attrs page
same_page_after attrs (EraseChars count) page i = same_erased_chars count attrs page
same_page_after attrs (InsertChars count) page i = same_chars_inserted count page
same_page_after attrs (DeleteChars count) page i = same_chars_deleted count page
same_page_after attrs (InsertLines count) page i = same_lines_inserted count page
same_page_after attrs (DeleteLines count) page i = same_lines_deleted count page
same_page_after attrs (ScrollDown count) page i = same_scrolled_down count page
same_page_after attrs step page i = record { width = refl; height = refl }

pub inside_page_after : (attrs : Attrs) (step : PageStep) (page : Page) → IsInside page
    → IsInside (page_after attrs step page)
inside_page_after attrs (Move move) page i = inside_moved move page i
inside_page_after attrs ReverseIndex page i = inside_reverse_index page i
inside_page_after attrs (SetRegion top bottom) page i = inside_region_set top bottom page i
inside_page_after attrs (UseOrigin on) page i = inside_origin_set on page i
inside_page_after attrs EraseBelow page i = inside_erased_below attrs page i
inside_page_after attrs EraseAbove page i = inside_erased_above attrs page i
inside_page_after attrs ErasePage page i = inside_erased_page attrs page i
inside_page_after attrs EraseRest page i = inside_erased_rest attrs page i
inside_page_after attrs EraseStart page i = inside_erased_start attrs page i
inside_page_after attrs EraseRow page i = inside_erased_row attrs page i
inside_page_after attrs (EraseChars count) page i = inside_erased_chars count attrs page i
inside_page_after attrs (InsertChars count) page i = inside_chars_inserted count page i
inside_page_after attrs (DeleteChars count) page i = inside_chars_deleted count page i
inside_page_after attrs (InsertLines count) page i = inside_lines_inserted count page i
inside_page_after attrs (DeleteLines count) page i = inside_lines_deleted count page i
inside_page_after attrs (ScrollDown count) page i = inside_scrolled_down count page i

pub page_page_after : (attrs : Attrs) (step : PageStep) (page : Page) → IsPage page
    → IsPage (page_after attrs step page)
page_page_after attrs (Move move) page p = page_moved move page p
page_page_after attrs ReverseIndex page p = page_reverse_index page p
page_page_after attrs (SetRegion top bottom) page p = page_region_set top bottom page p
page_page_after attrs (UseOrigin on) page p = page_origin_set on page p
page_page_after attrs EraseBelow page p = page_erased_below attrs page p
page_page_after attrs EraseAbove page p = page_erased_above attrs page p
page_page_after attrs ErasePage page p = page_erased_page attrs page p
page_page_after attrs EraseRest page p = page_erased_rest attrs page p
page_page_after attrs EraseStart page p = page_erased_start attrs page p
page_page_after attrs EraseRow page p = page_erased_row attrs page p
page_page_after attrs (EraseChars count) page p = page_erased_chars count attrs page p
page_page_after attrs (InsertChars count) page p = page_chars_inserted count page p
page_page_after attrs (DeleteChars count) page p = page_chars_deleted count page p
page_page_after attrs (InsertLines count) page p = page_lines_inserted count page p
page_page_after attrs (DeleteLines count) page p = page_lines_deleted count page p
page_page_after attrs (ScrollDown count) page p = page_scrolled_down count page p

pub stable_page_after : {P : CellValue → Type 0} {F : Attrs → Type 0} {Q : ℕ → Type 0} → IsStable P F Q
    → (attrs : Attrs) (step : PageStep) (page : Page) → F attrs → EachRow P page.rows
    → EachRow P (page_after attrs step page).rows
stable_page_after rule attrs ReverseIndex page h all = stable_reverse_index rule page all
stable_page_after rule attrs (SetRegion top bottom) page h all = stable_region_set rule top bottom page all
stable_page_after rule attrs EraseBelow page h all = stable_erased_below rule attrs page h all
stable_page_after rule attrs EraseAbove page h all = stable_erased_above rule attrs page h all
stable_page_after rule attrs ErasePage page h all = stable_erased_page rule attrs page h all
stable_page_after rule attrs EraseRest page h all = stable_erased_rest rule attrs page h all
stable_page_after rule attrs EraseStart page h all = stable_erased_start rule attrs page h all
stable_page_after rule attrs EraseRow page h all = stable_erased_row rule attrs page h all
stable_page_after rule attrs (EraseChars count) page h all = stable_erased_chars rule count attrs page h all
stable_page_after rule attrs (InsertChars count) page h all = stable_chars_inserted rule count page all
stable_page_after rule attrs (DeleteChars count) page h all = stable_chars_deleted rule count page all
stable_page_after rule attrs (InsertLines count) page h all = stable_lines_inserted rule count page all
stable_page_after rule attrs (DeleteLines count) page h all = stable_lines_deleted rule count page all
stable_page_after rule attrs (ScrollDown count) page h all = stable_scrolled_down rule count page all
stable_page_after rule attrs step page h all = all
