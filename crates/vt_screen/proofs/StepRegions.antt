-- The scroll region and origin mode: what keeps them, and the redraw for terminals with any of them.
use Rattle.std.proofs.Common.{◌≡◌, ℕ, zero, suc, ◌+◌, ◌-◌, min, ◌||◌, ◌==◌, ◌&&◌, nat_lt, not, Bool, true, false, List}
use Rattle.std.proofs.Common.{Option, Some, None, refl, ◌∙◌, [], ◌∷◌, ◌++◌, sym, ap, subst, arith}
use Rattle.std.specs.Prelude.{if◌then◌else◌, length, encode_utf8, IfSome, drop}
use Rattle.vt_cells.specs.Cell.{cell_with_mark, text_of, is_wide}
use Rattle.vt_cells.specs.Glyph.{columns_of, is_selector, is_wide_text}
use Rattle.vt_cells.specs.Attrs.{Attrs}
use Rattle.vt_cells.specs.Op.{bytes_of_all, csi}
use Rattle.vt_rows.specs.Cells.{at, ends_blank}
use Rattle.vt_scan.specs.Automaton.{start, fresh_step}
use Rattle.vt_scan.specs.Parameters.{table_of, groups_of, numbers_of, number_of}
use Rattle.vt_scan.specs.Table.{class_of}
use Rattle.vt_scan.proofs.ParameterNumbers.{empty_groups}
use Rattle.vt_grid.specs.Erasing.{erased_below, erased_chars, erased_columns, erased_rest, blanked_below}
use Rattle.vt_grid.specs.Page.{Page, cursor_row, scrolled_up, rows_up, IsPage, SameSize}
use Rattle.vt_grid.specs.Moves.{at_bottom, line_feed, origin_set}
use Rattle.vt_grid.specs.Printing.{carries, lifted_page, left_row, goes_down, flagged_left, wrapped_page, lacks_room}
use Rattle.vt_grid.specs.Printing.{room_made, glyph_put, mark_column, takes_mark, mark_put, page_after_wrap, made_wide}
use Rattle.vt_grid.specs.Printing.{made_narrow, width_followed, mark_printed, printed_by, page_after_print}
use Rattle.vt_grid.specs.Regions.{in_region, last_row, region_set}
use Rattle.vt_grid.specs.Shifts.{rows_down, lines_inserted, lines_deleted}
use Rattle.vt_grid.specs.Canvas.{and_then}
use Rattle.vt_grid.specs.declared.page_step.PageStep.TheVariants.{SetRegion, UseOrigin}
use Rattle.vt_grid.proofs.Pages.{page_origin_set, page_region_set}
use Rattle.vt_redraw.specs.Picture.{Picture, SamePictureSize}
use Rattle.vt_redraw.specs.Redraw.{redraw}
use Rattle.vt_redraw.specs.Steady.{IsSteady}
use Rattle.vt_screen.specs.AnyRegion.{IsReaderInAnyRegion, KeepsRestButRegion, reset_text, whole_region_text}
use Rattle.vt_screen.specs.Reading.{Terminal, terminal_after, read_byte, terminal}
use Rattle.vt_screen.specs.Screen.{IsColored, IsScreen, ScreenValue, with_page}
use Rattle.vt_screen.specs.Shown.{IsReader, KeepsRest, ReadsTo, Redraws, display}
use Rattle.vt_screen.specs.Controls.{counted_step, intermediate_steps, mode_step, other_steps, private_steps}
use Rattle.vt_screen.specs.Controls.{scrolling_steps}
use Rattle.vt_screen.specs.Steps.{OnPage, display_after}
use Rattle.vt_screen.proofs.ReadRedraws.{redraw_redraws, redraws_tell}
use Rattle.vt_screen.proofs.ReadTexts.{csi_read, reads_append, reads_then}

-- ==== Printing keeps the top of the scroll region.

-- The two pages have the same top of the scroll region.
abbrev SameTop : Page → Page → Type 0
SameTop page other = page.top ≡ other.top

top_if : (b : Bool) (x y page : Page) → SameTop x page → SameTop y page → SameTop (if b then x else y) page
top_if true x y page p q = p
top_if false x y page p q = q

top_line_feed : (page : Page) → SameTop (line_feed page) page
unfolding line_feed
top_line_feed page =
    top_if (at_bottom page) (scrolled_up 1 page)
    (if nat_lt (page.row + 1) (length page.rows) then record page { row = page.row + 1 } else page) page refl
    (top_if (nat_lt (page.row + 1) (length page.rows)) (record page { row = page.row + 1 }) page page refl refl)

top_flagged : (left : Option ℕ) (on : Bool) (page : Page) → SameTop (flagged_left left on page) page
top_flagged None on page = refl
top_flagged (Some r) on page = refl

top_wrapped : (page : Page) → SameTop (wrapped_page page) page
unfolding wrapped_page
top_wrapped page =
    top_flagged (left_row page) (goes_down page && not (ends_blank (cursor_row page).cells)) (line_feed page)
    ∙ top_line_feed page

top_room_made : (n : ℕ) (page : Page) → SameTop (room_made n page) page
unfolding room_made
top_room_made n page = top_if (lacks_room n page) (wrapped_page page) page page (top_wrapped page) refl

top_glyph_put : (text : List ℕ) (wide : Bool) (attrs : Attrs) (page : Page) →
    SameTop (glyph_put text wide attrs page) page
top_glyph_put text false attrs page = refl
top_glyph_put text true attrs page = refl

top_carried : (mark : ℕ) (attrs : Attrs) (page : Page) → SameTop (page_after_wrap mark attrs page) page
unfolding page_after_wrap
top_carried mark attrs page =
    let left = lifted_page (mark_column page) attrs page in
    top_glyph_put (text_of (cell_with_mark mark (at (cursor_row page).cells (mark_column page)))) true attrs (wrapped_page left)
    ∙ top_wrapped left

top_made_wide : (k : ℕ) (attrs : Attrs) (page : Page) → SameTop (made_wide k attrs page) page
unfolding made_wide
top_made_wide k attrs page = refl

top_width_followed : (k : ℕ) (attrs : Attrs) (page : Page) → SameTop (width_followed k attrs page) page
unfolding width_followed
top_width_followed k attrs page =
    let cell = at (cursor_row page).cells k in
    let wide = is_wide_text (text_of cell) && nat_lt 1 page.width in
    top_if (is_wide cell) (if wide then page else made_narrow k attrs page)
    (if wide then made_wide k attrs page else page) page
    (top_if wide page (made_narrow k attrs page) page refl refl)
    (top_if wide (made_wide k attrs page) page page (top_made_wide k attrs page) refl)

top_mark_printed : (mark : ℕ) (attrs : Attrs) (page : Page) → SameTop (mark_printed mark attrs page) page
unfolding mark_printed
top_mark_printed mark attrs page =
    let k = mark_column page in
    let put = mark_put k mark page in
    let put_on : Page = if is_selector mark then width_followed k attrs put else put in
    top_if (carries mark page) (page_after_wrap mark attrs page)
    (if takes_mark (at (cursor_row page).cells k) then put_on else page) page
    (top_carried mark attrs page)
    (top_if (takes_mark (at (cursor_row page).cells k)) put_on page page
    (top_if (is_selector mark) (width_followed k attrs put) put page (top_width_followed k attrs put) refl) refl)

top_printed_by : (columns : Option ℕ) (c : ℕ) (attrs : Attrs) (page : Page) →
    SameTop (printed_by columns c attrs page) page
top_printed_by None c attrs page = refl
top_printed_by (Some zero) c attrs page =
    top_if (page.column == 0) page (mark_printed c attrs page) page refl (top_mark_printed c attrs page)
top_printed_by (Some (suc zero)) c attrs page =
    top_glyph_put (encode_utf8 c) false attrs (room_made 1 page) ∙ top_room_made 1 page
top_printed_by (Some (suc (suc n))) c attrs page =
    top_if (nat_lt 1 page.width) (glyph_put (encode_utf8 c) true attrs (room_made 2 page)) page
    page (top_glyph_put (encode_utf8 c) true attrs (room_made 2 page) ∙ top_room_made 2 page) refl

pub top_printed : (c : ℕ) (attrs : Attrs) (page : Page) → (page_after_print c attrs page).top ≡ page.top
top_printed c attrs page = top_printed_by (columns_of c) c attrs page

pub top_fed : (page : Page) → (line_feed page).top ≡ page.top
top_fed page = top_line_feed page

-- ---- erasing

pub top_rest : (attrs : Attrs) (page : Page) → (erased_rest attrs page).top ≡ page.top
unfolding erased_rest
top_rest attrs page =
    top_if (page.column == page.width) page
    (erased_columns page.column (page.width - page.column) attrs page) page refl refl

pub top_chars : (n : ℕ) (attrs : Attrs) (page : Page) → (erased_chars n attrs page).top ≡ page.top
unfolding erased_chars
top_chars n attrs page =
    top_if ((n == 0) || (page.column == page.width)) page
    (erased_columns page.column (min n (page.width - page.column)) attrs page) page refl refl

pub top_below : (attrs : Attrs) (page : Page) → (erased_below attrs page).top ≡ page.top
unfolding erased_below
top_below attrs page = top_rest attrs page

-- ==== Drawing on a page keeps its scroll region, its origin mode and its saved origin mode.

-- The two pages have the same scroll region, origin mode and saved origin mode.
pub record IsFramed (new page : Page) : Type 0 where
  pub top : new.top ≡ page.top
  pub bottom : new.bottom ≡ page.bottom
  pub origin : new.origin ≡ page.origin
  pub saved_origin : new.saved_origin ≡ page.saved_origin

pub framed : (page : Page) → IsFramed page page
framed page = record { top = refl; bottom = refl; origin = refl; saved_origin = refl }

framed_then : (a b c : Page) → IsFramed a b → IsFramed b c → IsFramed a c
framed_then a b c f g = record {
  top = f.top ∙ g.top;
  bottom = f.bottom ∙ g.bottom;
  origin = f.origin ∙ g.origin;
  saved_origin = f.saved_origin ∙ g.saved_origin;
}

framed_if : (b : Bool) (x y page : Page) → IsFramed x page → IsFramed y page → IsFramed (if b then x else y) page
framed_if true x y page f g = f
framed_if false x y page f g = g

-- ---- line feeds, erasing, moving rows

pub framed_line_feed : (page : Page) → IsFramed (line_feed page) page
unfolding line_feed
framed_line_feed page =
    framed_if (at_bottom page) (scrolled_up 1 page)
    (if nat_lt (page.row + 1) (length page.rows) then record page { row = page.row + 1 } else page) page
    (record { top = refl; bottom = refl; origin = refl; saved_origin = refl })
    (framed_if (nat_lt (page.row + 1) (length page.rows)) (record page { row = page.row + 1 }) page page
    (record { top = refl; bottom = refl; origin = refl; saved_origin = refl }) (framed page))

pub framed_erased_chars : (n : ℕ) (attrs : Attrs) (page : Page) → IsFramed (erased_chars n attrs page) page
unfolding erased_chars
framed_erased_chars n attrs page =
    framed_if ((n == 0) || (page.column == page.width)) page
    (erased_columns page.column (min n (page.width - page.column)) attrs page) page (framed page)
    (record { top = refl; bottom = refl; origin = refl; saved_origin = refl })

pub framed_erased_rest : (attrs : Attrs) (page : Page) → IsFramed (erased_rest attrs page) page
unfolding erased_rest
framed_erased_rest attrs page =
    framed_if (page.column == page.width) page (erased_columns page.column (page.width - page.column) attrs page) page
    (framed page) (record { top = refl; bottom = refl; origin = refl; saved_origin = refl })

pub framed_erased_below : (attrs : Attrs) (page : Page) → IsFramed (erased_below attrs page) page
unfolding erased_below
framed_erased_below attrs page =
    framed_then (blanked_below attrs (erased_rest attrs page)) (erased_rest attrs page) page
    (record { top = refl; bottom = refl; origin = refl; saved_origin = refl }) (framed_erased_rest attrs page)

pub framed_lines_inserted : (n : ℕ) (page : Page) → IsFramed (lines_inserted n page) page
unfolding lines_inserted
framed_lines_inserted n page =
    framed_if (in_region page) (record page { rows = rows_down page.width page.row page.bottom n page.rows }) page page
    (record { top = refl; bottom = refl; origin = refl; saved_origin = refl }) (framed page)

pub framed_lines_deleted : (n : ℕ) (page : Page) → IsFramed (lines_deleted n page) page
unfolding lines_deleted
framed_lines_deleted n page =
    framed_if (in_region page) (record page { rows = rows_up page.width page.row page.bottom n page.rows }) page page
    (record { top = refl; bottom = refl; origin = refl; saved_origin = refl }) (framed page)

-- ---- printing

framed_flagged : (left : Option ℕ) (is_wrapped : Bool) (page : Page) → IsFramed (flagged_left left is_wrapped page) page
framed_flagged None is_wrapped page = framed page
framed_flagged (Some r) is_wrapped page = record { top = refl; bottom = refl; origin = refl; saved_origin = refl }

framed_wrapped : (page : Page) → IsFramed (wrapped_page page) page
unfolding wrapped_page
framed_wrapped page =
    let is_wrapped = goes_down page && not (ends_blank (cursor_row page).cells) in
    let fed = line_feed page in
    let f = framed_then (flagged_left (left_row page) is_wrapped fed) fed page
    (framed_flagged (left_row page) is_wrapped fed) (framed_line_feed page) in
    record { top = f.top; bottom = f.bottom; origin = f.origin; saved_origin = f.saved_origin }

framed_room_made : (columns : ℕ) (page : Page) → IsFramed (room_made columns page) page
unfolding room_made
framed_room_made columns page =
    framed_if (lacks_room columns page) (wrapped_page page) page page (framed_wrapped page) (framed page)

framed_glyph_put : (text : List ℕ) (wide : Bool) (attrs : Attrs) (page : Page) →
    IsFramed (glyph_put text wide attrs page) page
framed_glyph_put text true attrs page = record { top = refl; bottom = refl; origin = refl; saved_origin = refl }
framed_glyph_put text false attrs page = record { top = refl; bottom = refl; origin = refl; saved_origin = refl }

framed_carried : (mark : ℕ) (attrs : Attrs) (page : Page) → IsFramed (page_after_wrap mark attrs page) page
unfolding page_after_wrap
framed_carried mark attrs page =
    let text = text_of (cell_with_mark mark (at (cursor_row page).cells (mark_column page))) in
    let left = lifted_page (mark_column page) attrs page in
    let below = wrapped_page left in
    framed_then (glyph_put text true attrs below) below page (framed_glyph_put text true attrs below)
    (framed_then below left page (framed_wrapped left)
    (record { top = refl; bottom = refl; origin = refl; saved_origin = refl }))

framed_made_wide : (k : ℕ) (attrs : Attrs) (page : Page) → IsFramed (made_wide k attrs page) page
unfolding made_wide
framed_made_wide k attrs page = record { top = refl; bottom = refl; origin = refl; saved_origin = refl }

framed_width_followed : (k : ℕ) (attrs : Attrs) (page : Page) → IsFramed (width_followed k attrs page) page
unfolding width_followed
framed_width_followed k attrs page =
    let cell = at (cursor_row page).cells k in
    let wide = is_wide_text (text_of cell) && nat_lt 1 page.width in
    framed_if (is_wide cell) (if wide then page else made_narrow k attrs page)
    (if wide then made_wide k attrs page else page) page
    (framed_if wide page (made_narrow k attrs page) page (framed page)
    (record { top = refl; bottom = refl; origin = refl; saved_origin = refl }))
    (framed_if wide (made_wide k attrs page) page page (framed_made_wide k attrs page) (framed page))

framed_mark_printed : (mark : ℕ) (attrs : Attrs) (page : Page) → IsFramed (mark_printed mark attrs page) page
unfolding mark_printed
framed_mark_printed mark attrs page =
    let k = mark_column page in
    let put = mark_put k mark page in
    let is_put : IsFramed put page = record { top = refl; bottom = refl; origin = refl; saved_origin = refl } in
    let put_on : Page = if is_selector mark then width_followed k attrs put else put in
    framed_if (carries mark page) (page_after_wrap mark attrs page)
    (if takes_mark (at (cursor_row page).cells k) then put_on else page) page
    (framed_carried mark attrs page)
    (framed_if (takes_mark (at (cursor_row page).cells k)) put_on page page
    (framed_if (is_selector mark) (width_followed k attrs put) put page
    (framed_then (width_followed k attrs put) put page (framed_width_followed k attrs put) is_put) is_put)
    (framed page))

framed_printed_by : (columns : Option ℕ) (c : ℕ) (attrs : Attrs) (page : Page) →
    IsFramed (printed_by columns c attrs page) page
framed_printed_by None c attrs page = framed page
framed_printed_by (Some zero) c attrs page =
    framed_if (page.column == 0) page (mark_printed c attrs page) page (framed page) (framed_mark_printed c attrs page)
framed_printed_by (Some (suc zero)) c attrs page =
    framed_then (glyph_put (encode_utf8 c) false attrs (room_made 1 page)) (room_made 1 page) page
    (framed_glyph_put (encode_utf8 c) false attrs (room_made 1 page)) (framed_room_made 1 page)
framed_printed_by (Some (suc (suc n))) c attrs page =
    framed_if (nat_lt 1 page.width) (glyph_put (encode_utf8 c) true attrs (room_made 2 page)) page page
    (framed_then (glyph_put (encode_utf8 c) true attrs (room_made 2 page)) (room_made 2 page) page
    (framed_glyph_put (encode_utf8 c) true attrs (room_made 2 page)) (framed_room_made 2 page))
    (framed page)

pub framed_printed : (c : ℕ) (attrs : Attrs) (page : Page) → IsFramed (page_after_print c attrs page) page
framed_printed c attrs page = framed_printed_by (columns_of c) c attrs page

-- ==== The redraw for terminals with any scroll region: reading it first makes the whole page the region, and then has
-- the effect of an ordinary redraw.

-- ---- the two sequences

-- The page with origin mode off, the whole page as scroll region, and the cursor in the top left corner.
abbrev pub whole_page : Page → Page
whole_page page = record page { top = 0; bottom = last_row page; origin = false; row = 0; column = 0 }

abbrev pub in_whole : ScreenValue → ScreenValue
in_whole screen = with_page (whole_page screen.page) screen

origin_read : (screen : ScreenValue) →
    ReadsTo (csi (0x3F ∷ 0x36 ∷ []) 0x6C) screen (display_after (OnPage (UseOrigin false)) screen)
unfolding read_byte fresh_step class_of table_of groups_of numbers_of number_of private_steps intermediate_steps mode_step
origin_read screen = refl

region_read : (screen : ScreenValue) →
    ReadsTo (csi [] 0x72) screen (display_after (OnPage (SetRegion 0 (last_row screen.page))) screen)
unfolding counted_step scrolling_steps other_steps
region_read screen =
    csi_read [] 0x72 ((0 ∷ []) ∷ []) screen (display_after (OnPage (SetRegion 0 (last_row screen.page))) screen)
    tt (omega arith, omega arith) empty_groups refl

-- Setting the scroll region to the whole page has the same result on a page of one row as on others.
whole_when : (b : Bool) (page : Page) (end last : ℕ) → end ≡ last
    → (if b then record page { top = 0; bottom = end; row = 0; column = 0 }
    else record page { top = 0; bottom = last; row = 0; column = 0 })
    ≡ record page { top = 0; bottom = last; row = 0; column = 0 }
whole_when true page end last e = rw e refl
whole_when false page end last e = refl

whole_is : (page : Page) → region_set 0 (last_row page) (origin_set false page) ≡ whole_page page
unfolding region_set
whole_is page =
    let last = last_row page in
    whole_when (nat_lt 0 (min last last)) (origin_set false page) (min last last) last (omega arith)

pub whole_read : (screen : ScreenValue) → ReadsTo whole_region_text screen (in_whole screen)
whole_read screen =
    let middle = display_after (OnPage (UseOrigin false)) screen in
    let end = display_after (OnPage (SetRegion 0 (last_row screen.page))) middle in
    reads_then (terminal start screen) (terminal start middle) (terminal start (in_whole screen))
    (csi (0x3F ∷ 0x36 ∷ []) 0x6C) (csi [] 0x72) (origin_read screen)
    (region_read middle ∙ ap (λ (page : Page). Some (terminal start (with_page page screen))) (whole_is screen.page))

-- ---- the terminal after the two sequences

whole_sound : (page : Page) → IsPage page → IsPage (whole_page page)
whole_sound page is =
    subst IsPage (whole_is page)
    (page_region_set 0 (last_row page) (origin_set false page) (page_origin_set false page is))

whole_other : (other : Option Page) (page : Page) → IfSome other (λ p. IsPage p × SameSize p page) →
    IfSome other (λ p. IsPage p × SameSize p (whole_page page))
whole_other None page is = is
whole_other (Some p) page is = (is.0, record { width = is.1.width; height = is.1.height })

in_whole_is : (screen : ScreenValue) → IsScreen screen → IsScreen (in_whole screen)
in_whole_is screen is = record {
  page = whole_sound screen.page is.page;
  other = whole_other screen.other screen.page is.other;
  entered = is.entered;
  scrollback = is.scrollback;
  last = is.last;
}

pub whole_end : (page : Page) → IsPage page → last_row page + 1 ≡ length page.rows
whole_end page is = let some = is.cursor_row in omega arith

plain_reader : (picture : Picture) (reader : ScreenValue) →
    IsReaderInAnyRegion picture reader → IsReader picture (in_whole reader)
plain_reader picture reader r = record {
  sound = in_whole_is reader r.sound;
  plain =
      record { page = record { whole = (refl, whole_end reader.page r.sound.page); origin = refl }; offset = r.offset };
  size = record { width = r.size.width; height = r.size.height };
}

-- ---- the whole output

-- If two texts are read in sequence, the second is read from the terminal that the first leaves.
behind : (first rest : List ℕ) (reader middle after : ScreenValue) →
    ReadsTo first reader middle → ReadsTo (first ++ rest) reader after → ReadsTo rest middle after
behind first rest reader middle after p q =
    sym (reads_append (terminal start reader) first rest ∙ ap (and_then (λ (u : Terminal). terminal_after u rest)) p) ∙ q

-- Output that redraws a picture on plain terminals redraws it on terminals with any scroll region if it follows the two
-- sequences that reset the region.
resets : (picture : Picture) (text : List ℕ) → Redraws picture (IsReader picture) KeepsRest text →
    Redraws picture (IsReaderInAnyRegion picture) KeepsRestButRegion (whole_region_text ++ text)
resets picture text d = record {
  quiet = λ steady reader r.
      let (after, reads) = d.quiet steady (in_whole reader) (plain_reader picture reader r) in (
        after,
        reads_then (terminal start reader) (terminal start (in_whole reader))
            (terminal start after) whole_region_text text (whole_read reader) reads,
      );
  shows =
      λ steady reader after r e. d.shows steady (in_whole reader) after
      (plain_reader picture reader r) (read_after_quiet reader after e);
  rows =
      λ steady reader after r e. d.rows steady (in_whole reader) after
      (plain_reader picture reader r) (read_after_quiet reader after e);
  cursor = λ steady reader after r e.
      let has = d.cursor steady (in_whole reader) after (plain_reader picture reader r) (read_after_quiet reader after e) in
      record { row = has.row; column = has.column; attrs = has.attrs; hidden = has.hidden };
  rest = λ steady reader after r e.
      let kept = d.rest steady (in_whole reader) after (plain_reader picture reader r) (read_after_quiet reader after e) in
      let most = kept.but_modes in
      record {
        other = most.other;
        is_alternate = most.is_alternate;
        scrollback = most.scrollback;
        width = most.width;
        modes = kept.modes;
      };
} where
  read_after_quiet : (reader after : ScreenValue) →
      ReadsTo (whole_region_text ++ text) reader after → ReadsTo text (in_whole reader) after
  read_after_quiet reader after e = behind whole_region_text text reader (in_whole reader) after (whole_read reader) e

pub reset_redraws : (self : ScreenValue) (text : List ℕ) → text ≡ reset_text (display self) → IsScreen self →
    IsColored self → Redraws (display self) (IsReaderInAnyRegion (display self)) KeepsRestButRegion text
reset_redraws self text told is colored =
    let picture = display self in
    subst (Redraws picture (IsReaderInAnyRegion picture) KeepsRestButRegion) (sym told)
    (resets picture (bytes_of_all (redraw picture))
    (redraw_redraws self (bytes_of_all (redraw picture)) refl is colored))

-- If two redraws for terminals with any scroll region are equal, their screens display the same content.
pub resets_tell : (a b : ScreenValue) → IsScreen a → IsColored a → IsSteady (display a) →
    IsScreen b → IsColored b → IsSteady (display b) → SamePictureSize (display a) (display b) →
    reset_text (display a) ≡ reset_text (display b) → display a ≡ display b
resets_tell a b is colored steady other colored_other steady_other size e =
    redraws_tell a b is colored steady other colored_other steady_other size (ap (drop (length whole_region_text)) e)
