-- The effect of a step on a page keeps its size.
use Rattle.std.proofs.Common.{ℕ, zero, suc, ◌+◌, ◌-◌, ◌==◌, ◌&&◌, nat_lt, min, not, Bool, true, false, List, length}
use Rattle.std.proofs.Common.{take, replicate, refl, sym, ◌∙◌, arith}
use Rattle.std.specs.Prelude.{◌||◌, if◌then◌else◌, Option, Some, None}
use Rattle.std.specs.Char.{encode_utf8}
use Rattle.std.proofs.lemmas.List.{length-append, length-take, length-replicate, length-set}
use Rattle.vt_cells.specs.Attrs.{Attrs}
use Rattle.vt_cells.specs.Cell.{cell_with_mark, CellValue, text_of, is_wide}
use Rattle.vt_cells.specs.Glyph.{columns_of, is_selector, is_wide_text}
use Rattle.vt_rows.specs.Cells.{at, ends_blank, cells_after_erase, put_narrow, put_wide, marked_at, widened_at}
use Rattle.vt_rows.specs.Cells.{narrowed_at}
use Rattle.vt_rows.specs.Row.{RowValue, blank_row, with_cells, inserted_row, deleted_row}
use Rattle.vt_grid.specs.Page.{Page, cursor_row, with_row, up_source, rows_up, scrolled_up, SameSize}
use Rattle.vt_grid.specs.Moves.{line_feed, cursor_saved, cursor_restored}
use Rattle.vt_grid.specs.Regions.{in_region, last_row, region_set}
use Rattle.vt_grid.specs.Shifts.{rows_down, scrolled_down, reverse_index, lines_inserted, lines_deleted, chars_inserted}
use Rattle.vt_grid.specs.Shifts.{chars_deleted}
use Rattle.vt_grid.specs.Erasing.{erased_columns, erased_chars, erased_rest, blanked_below, erased_below, erased_start}
use Rattle.vt_grid.specs.Erasing.{erased_row, erased_page}
use Rattle.vt_grid.specs.Printing.{carries, lifted_page, with_cursor_cells, left_row, goes_down, wrapped_page}
use Rattle.vt_grid.specs.Printing.{lacks_room, room_made, glyph_put, mark_column, takes_mark, mark_put, page_after_wrap}
use Rattle.vt_grid.specs.Printing.{made_wide, made_narrow, width_followed, mark_printed, page_after_print, printed_by}
use Rattle.vt_grid.proofs.Pages.{length-moved_rows}
use Rattle.vt_grid.proofs.Printing.{width_line_feed, height_line_feed, width_wrapped_page, height_flagged_left}
use Rattle.vt_grid.proofs.Shifting.{length-rows_down}

-- ---- pages of one size

pub same_itself : (page : Page) → SameSize page page
same_itself page = record { width = refl; height = refl }

pub same_back : (a b : Page) → SameSize a b → SameSize b a
same_back a b s = record { width = sym s.width; height = sym s.height }

pub same_through : (a b c : Page) → SameSize a b → SameSize b c → SameSize a c
same_through a b c s t = record { width = s.width ∙ t.width; height = s.height ∙ t.height }

same_if : (b : Bool) (x y page : Page) → SameSize x page → SameSize y page → SameSize (if b then x else y) page
same_if true x y page p q = p
same_if false x y page p q = q

same_with_row : (r : ℕ) (row : RowValue) (page : Page) → SameSize (with_row r row page) page
same_with_row r row page = record { width = refl; height = length-set page.rows r row }

pub same_cursor_cells : (cells : List CellValue) (page : Page) → SameSize (with_cursor_cells cells page) page
same_cursor_cells cells page = same_with_row page.row (with_cells (cursor_row page) cells) page

-- ---- cursor movement

pub same_region_set : (top bottom : ℕ) (page : Page) → SameSize (region_set top bottom page) page
unfolding region_set
same_region_set top bottom page =
    let low = min bottom (last_row page) in
    same_if (nat_lt top low) (record page { top = top; bottom = low; row = top; column = 0 })
    (record page { top = 0; bottom = last_row page; row = 0; column = 0 }) page
    (record { width = refl; height = refl }) (record { width = refl; height = refl })

pub same_cursor_saved : (page : Page) → SameSize (cursor_saved page) page
same_cursor_saved page = record { width = refl; height = refl }

pub same_cursor_restored : (page : Page) → SameSize (cursor_restored page) page
same_cursor_restored page = record { width = refl; height = refl }

pub same_line_feed : (page : Page) → SameSize (line_feed page) page
same_line_feed page = record { width = width_line_feed page; height = height_line_feed page }

-- ---- moving rows and columns

pub same_scrolled_up : (n : ℕ) (page : Page) → SameSize (scrolled_up n page) page
same_scrolled_up n page = record {
  width = refl;
  height = length-moved_rows page.width (up_source (length page.rows) page.top page.bottom n) page.rows;
}

pub same_scrolled_down : (n : ℕ) (page : Page) → SameSize (scrolled_down n page) page
same_scrolled_down n page =
    record { width = refl; height = length-rows_down page.width page.top page.bottom n page.rows }

pub same_reverse_index : (page : Page) → SameSize (reverse_index page) page
unfolding reverse_index
same_reverse_index page =
    same_if ((page.row == page.top) || (page.row == 0)) (scrolled_down 1 page)
    (record page { row = page.row - 1 }) page (same_scrolled_down 1 page) (record { width = refl; height = refl })

pub same_lines_inserted : (n : ℕ) (page : Page) → SameSize (lines_inserted n page) page
unfolding lines_inserted
same_lines_inserted n page =
    same_if (in_region page) (record page { rows = rows_down page.width page.row page.bottom n page.rows }) page page
    (record { width = refl; height = length-rows_down page.width page.row page.bottom n page.rows }) (same_itself page)

pub same_lines_deleted : (n : ℕ) (page : Page) → SameSize (lines_deleted n page) page
unfolding lines_deleted
same_lines_deleted n page =
    same_if (in_region page) (record page { rows = rows_up page.width page.row page.bottom n page.rows }) page page
    (record {
      width = refl;
      height = length-moved_rows page.width (up_source (length page.rows) page.row page.bottom n) page.rows;
    })
    (same_itself page)

pub same_chars_inserted : (n : ℕ) (page : Page) → SameSize (chars_inserted n page) page
same_chars_inserted n page = same_with_row page.row (inserted_row page.column n (cursor_row page)) page

pub same_chars_deleted : (n : ℕ) (page : Page) → SameSize (chars_deleted n page) page
same_chars_deleted n page = same_with_row page.row (deleted_row page.column n (cursor_row page)) page

-- ---- erasing

same_erased_columns : (c n : ℕ) (attrs : Attrs) (page : Page) → SameSize (erased_columns c n attrs page) page
same_erased_columns c n attrs page = same_cursor_cells (cells_after_erase c n attrs (cursor_row page).cells) page

pub same_erased_chars : (n : ℕ) (attrs : Attrs) (page : Page) → SameSize (erased_chars n attrs page) page
unfolding erased_chars
same_erased_chars n attrs page =
    let count = min n (page.width - page.column) in
    same_if ((n == 0) || (page.column == page.width)) page (erased_columns page.column count attrs page)
    page (same_itself page) (same_erased_columns page.column count attrs page)

pub same_erased_rest : (attrs : Attrs) (page : Page) → SameSize (erased_rest attrs page) page
unfolding erased_rest
same_erased_rest attrs page =
    let count = page.width - page.column in
    same_if (page.column == page.width) page (erased_columns page.column count attrs page)
    page (same_itself page) (same_erased_columns page.column count attrs page)

same_blanked_below : (attrs : Attrs) (page : Page) → SameSize (blanked_below attrs page) page
same_blanked_below attrs page =
    let n = length page.rows - (page.row + 1) in
    let blank = blank_row attrs page.width in
    record {
      width = refl;
      height = omega (
        arith,
        length-append (take (page.row + 1) page.rows) (replicate n blank),
        length-take (page.row + 1) page.rows,
        length-replicate n blank,
      );
    }

pub same_erased_below : (attrs : Attrs) (page : Page) → SameSize (erased_below attrs page) page
unfolding erased_below
same_erased_below attrs page =
    let rest = erased_rest attrs page in
    same_through (blanked_below attrs rest) rest page (same_blanked_below attrs rest) (same_erased_rest attrs page)

pub same_erased_start : (attrs : Attrs) (page : Page) → SameSize (erased_start attrs page) page
unfolding erased_start
same_erased_start attrs page = same_erased_columns 0 (min (page.column + 1) page.width) attrs page

pub same_erased_row : (attrs : Attrs) (page : Page) → SameSize (erased_row attrs page) page
same_erased_row attrs page = same_with_row page.row (blank_row attrs page.width) page

pub same_erased_page : (attrs : Attrs) (page : Page) → SameSize (erased_page attrs page) page
same_erased_page attrs page =
    record { width = refl; height = length-replicate (length page.rows) (blank_row attrs page.width) }

-- ---- printing

same_wrapped_page : (page : Page) → SameSize (wrapped_page page) page
unfolding wrapped_page
same_wrapped_page page = record {
  width = width_wrapped_page page;
  height =
      height_flagged_left (left_row page) (goes_down page && not (ends_blank (cursor_row page).cells)) (line_feed page)
      ∙ height_line_feed page;
}

same_room_made : (n : ℕ) (page : Page) → SameSize (room_made n page) page
unfolding room_made
same_room_made n page =
    same_if (lacks_room n page) (wrapped_page page) page page (same_wrapped_page page) (same_itself page)

same_glyph_put : (text : List ℕ) (wide : Bool) (attrs : Attrs) (page : Page) →
    SameSize (glyph_put text wide attrs page) page
same_glyph_put text false attrs page = record {
  width = refl;
  height =
      length-set page.rows page.row
      (with_cells (cursor_row page) (put_narrow page.column text attrs (cursor_row page).cells));
}
same_glyph_put text true attrs page = record {
  width = refl;
  height =
      length-set page.rows page.row
      (with_cells (cursor_row page) (put_wide page.column text attrs (cursor_row page).cells));
}

pub same_mark_put : (k mark : ℕ) (page : Page) → SameSize (mark_put k mark page) page
same_mark_put k mark page = same_cursor_cells (marked_at k mark (cursor_row page).cells) page

same_carried : (mark : ℕ) (attrs : Attrs) (page : Page) → SameSize (page_after_wrap mark attrs page) page
unfolding page_after_wrap
same_carried mark attrs page =
    let text = text_of (cell_with_mark mark (at (cursor_row page).cells (mark_column page))) in
    let left = lifted_page (mark_column page) attrs page in
    let below = wrapped_page left in
    same_through (glyph_put text true attrs below) below page (same_glyph_put text true attrs below)
    (same_through below left page (same_wrapped_page left) (same_erased_columns (mark_column page) 1 attrs page))

same_made_wide : (k : ℕ) (attrs : Attrs) (page : Page) → SameSize (made_wide k attrs page) page
unfolding made_wide
same_made_wide k attrs page =
    let cells = (cursor_row page).cells in
    record {
      width = refl;
      height = length-set page.rows page.row (with_cells (cursor_row page) (widened_at k attrs cells));
    }

same_made_narrow : (k : ℕ) (attrs : Attrs) (page : Page) → SameSize (made_narrow k attrs page) page
same_made_narrow k attrs page = same_cursor_cells (narrowed_at k attrs (cursor_row page).cells) page

same_width_followed : (k : ℕ) (attrs : Attrs) (page : Page) → SameSize (width_followed k attrs page) page
unfolding width_followed
same_width_followed k attrs page =
    let cell = at (cursor_row page).cells k in
    let wide = is_wide_text (text_of cell) && nat_lt 1 page.width in
    same_if (is_wide cell) (if wide then page else made_narrow k attrs page)
    (if wide then made_wide k attrs page else page) page
    (same_if wide page (made_narrow k attrs page) page (same_itself page) (same_made_narrow k attrs page))
    (same_if wide (made_wide k attrs page) page page (same_made_wide k attrs page) (same_itself page))

same_mark_printed : (mark : ℕ) (attrs : Attrs) (page : Page) → SameSize (mark_printed mark attrs page) page
unfolding mark_printed
same_mark_printed mark attrs page =
    let k = mark_column page in
    let put = mark_put k mark page in
    let done = same_mark_put k mark page in
    let put_on : Page = if is_selector mark then width_followed k attrs put else put in
    same_if (carries mark page) (page_after_wrap mark attrs page)
    (if takes_mark (at (cursor_row page).cells k) then put_on else page) page
    (same_carried mark attrs page)
    (same_if (takes_mark (at (cursor_row page).cells k)) put_on page page
    (same_if (is_selector mark) (width_followed k attrs put) put page
    (same_through (width_followed k attrs put) put page (same_width_followed k attrs put) done) done)
    (same_itself page))

same_put_after : (n : ℕ) (text : List ℕ) (wide : Bool) (attrs : Attrs) (page : Page) →
    SameSize (glyph_put text wide attrs (room_made n page)) page
same_put_after n text wide attrs page =
    let made = room_made n page in
    same_through (glyph_put text wide attrs made) made page
    (same_glyph_put text wide attrs made) (same_room_made n page)

same_printed_by : (columns : Option ℕ) (c : ℕ) (attrs : Attrs) (page : Page) →
    SameSize (printed_by columns c attrs page) page
same_printed_by None c attrs page = same_itself page
same_printed_by (Some zero) c attrs page =
    same_if (page.column == 0) page (mark_printed c attrs page) page (same_itself page) (same_mark_printed c attrs page)
same_printed_by (Some (suc zero)) c attrs page = same_put_after 1 (encode_utf8 c) false attrs page
same_printed_by (Some (suc (suc n))) c attrs page =
    same_if (nat_lt 1 page.width) (glyph_put (encode_utf8 c) true attrs (room_made 2 page))
    page page (same_put_after 2 (encode_utf8 c) true attrs page) (same_itself page)

pub same_printed : (c : ℕ) (attrs : Attrs) (page : Page) → SameSize (page_after_print c attrs page) page
same_printed c attrs page = same_printed_by (columns_of c) c attrs page
