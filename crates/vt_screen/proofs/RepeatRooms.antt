-- Output that a terminal reads in ground state leaves the room in its row that the code says.
use Rattle.std.proofs.Common.{◌≡◌, ℕ, zero, suc, ◌+◌, ◌-◌, ◌<◌, ◌≤◌, ◌==◌, ◌&&◌, nat_lt, max, min}
use Rattle.std.proofs.Common.{Bool, true, false, List, [], ◌∷◌, length, refl, sym, ap, subst, ◌∙◌}
use Rattle.std.proofs.Common.{append-nil, arith}
use Rattle.std.specs.Prelude.{◌||◌, Option, Some, None, if◌then◌else◌}
use Rattle.std.proofs.lemmas.Bool.Decides.{nat_tests}
use Rattle.vt_cells.specs.Attrs.{Attrs}
use Rattle.vt_cells.specs.Glyph.{columns_of}
use Rattle.vt_cells.specs.Op.{Hide, bytes_of, csi}
use Rattle.std.specs.Char.{encode_utf8}
use Rattle.vt_cells.specs.Cell.{is_wide, text_of}
use Rattle.vt_cells.specs.Glyph.{is_selector, is_wide_text}
use Rattle.vt_rows.specs.Cells.{at}
use Rattle.vt_grid.specs.Page.{Page, cursor_row, scrolled_up}
use Rattle.vt_rows.specs.Row.{RowValue}
use Rattle.vt_grid.specs.Erasing.{erased_above, erased_below, erased_chars, erased_columns, erased_rest, erased_start}
use Rattle.vt_grid.specs.Page.{rows_up}
use Rattle.vt_grid.specs.PageStep.{page_after}
use Rattle.vt_grid.specs.Regions.{in_region}
use Rattle.vt_grid.specs.declared.grid.moves.CursorMove.TheVariants as move
use Rattle.vt_grid.specs.Scrollback.{Scrollback, scrollback_after_clear, scrollback_after_push}
use Rattle.vt_grid.specs.Shifts.{lines_deleted, lines_inserted, rows_down}
use Rattle.vt_grid.specs.declared.page_step.PageStep.{PageStep}
use Rattle.vt_grid.specs.declared.page_step.PageStep.TheVariants as page
use Rattle.vt_grid.specs.Moves.{at_bottom, line_feed}
use Rattle.vt_grid.specs.Printing.{page_after_print, printed_by, glyph_put, room_made, lacks_room, wrapped_page, mark_printed}
use Rattle.vt_grid.specs.Printing.{carries, made_narrow, made_wide, mark_column, mark_put, page_after_wrap, takes_mark, width_followed}
use Rattle.vt_scan.specs.Automaton.{Step, Event, Character, Executed, EscDispatch, CsiDispatch, start, fresh_step, run}
use Rattle.vt_scan.specs.Parameters.{groups_of, number_of, numbers_of, table_of}
use Rattle.vt_scan.specs.Table.{class_of}
use Rattle.vt_scan.specs.Texts.{IsParameterText, back_with}
use Rattle.vt_scan.proofs.Readback.{read_control, read_escape, read_written, read_csi}
use Rattle.vt_screen.specs.CallsOfRun.{screen_after_all, screen_in, steps_of_all}
use Rattle.vt_screen.specs.Calls.{CallValue, UnhandledCsi}
use Rattle.vt_screen.specs.Controls.{control_steps, escape_steps, intermediate_steps, mode_step, private_steps}
use Rattle.vt_screen.specs.Controls.{Seen, counted_step, number_at, number_or, other_steps, page_erasing, reading_steps, row_erasing}
use Rattle.vt_screen.specs.Controls.{scrolling_steps, seen_of, sgr_from, steps_of, unmarked_steps}
use Rattle.vt_screen.specs.Sgr.{group_read}
use Rattle.vt_screen.specs.declared.sgr.Reading.{Reading}
use Rattle.vt_screen.specs.declared.sgr.Reading.TheVariants.{Set, Silent, Unhandled}
use Rattle.vt_screen.specs.declared.sgr.Wanted.{Wanted}
use Rattle.vt_screen.specs.declared.sgr.Wanted.TheVariants.{Any}
use Rattle.vt_screen.specs.Internals.{IsSized, KeepsRoom}
use Rattle.vt_screen.specs.Repeating.{IsNarrow}
use Rattle.vt_redraw.specs.Fits.{IsDrawn}
use Rattle.vt_screen.proofs.ReadOperations.{prints, shown_range}
use Rattle.vt_screen.proofs.ReadTexts.{stepped_then}
use Rattle.vt_screen.specs.Screen.{ScreenValue}
use Rattle.vt_screen.specs.Steps.{Step as Action, CallBack, EraseScrollback, LineFeed, OnPage, Print, display_after, rows_scrolled_off, screen_after_scrolling_step}

-- ---- room

pub keeps_nothing : (width room : ℕ) → KeepsRoom width room room []
keeps_nothing width room = record { ground = refl; room = λ height screen z has. has }

-- Output that is read as one event.
keeps_event : (width before after : ℕ) (text : List ℕ) (event : Event) → run start text ≡ back_with (event ∷ []) →
    ((height : ℕ) (screen : ScreenValue) → IsSized height width screen → 0 < after →
    (0 < before → screen.page.column + before ≤ width) →
    (screen_after_all (steps_of event (seen_of screen)) screen).page.column + after ≤ width) →
    KeepsRoom width before after text
keeps_event width before after text event reads keeps = record {
  ground = ap (λ (s : Step). s.state) reads;
  room = λ height screen z has some.
      let now : screen_in start screen text ≡ screen_after_all (steps_of event (seen_of screen)) screen =
      ap (λ (s : Step). screen_after_all (steps_of_all s.events screen) screen) reads
      ∙ ap (λ (steps : List Action). screen_after_all steps screen) (append-nil (steps_of event (seen_of screen))) in
      let column = ap (λ (s : ScreenValue). s.page.column) now in
      let there = keeps height screen z some has in
      omega (arith, column, there);
}

-- ---- characters

pub page_sent : (step : Action) (screen : ScreenValue) →
    (screen_after_scrolling_step step screen).page ≡ (display_after step screen).page
page_sent step screen =
    by_page screen.is_alternate
    (scrollback_after_push (length screen.page.rows) screen.page.width (rows_scrolled_off step screen) screen.scrollback)
  where
    by_page : (b : Bool) (scrollback : Scrollback) →
        (if b then display_after step screen else record (display_after step screen) { scrollback = scrollback }).page
        ≡ (display_after step screen).page
    by_page true scrollback = refl
    by_page false scrollback = refl

column_if : (b : Bool) (x y : Page) (n : ℕ) → x.column ≤ n → y.column ≤ n → (if b then x else y).column ≤ n
column_if true x y n h k = h
column_if false x y n h k = k

made_column : (n : ℕ) (page : Page) → (room_made n page).column ≤ page.column
unfolding room_made wrapped_page
made_column n page =
    column_if (lacks_room n page) (wrapped_page page) page page.column (omega arith) (omega arith)

followed_column : (k : ℕ) (attrs : Attrs) (page : Page) → (width_followed k attrs page).column ≤ page.column + 2
unfolding width_followed made_wide
followed_column k attrs page =
    let cell = at (cursor_row page).cells k in
    let wide = is_wide_text (text_of cell) && nat_lt 1 page.width in
    column_if (is_wide cell) (if wide then page else made_narrow k attrs page)
    (if wide then made_wide k attrs page else page) (page.column + 2)
    (column_if wide page (made_narrow k attrs page) (page.column + 2) (omega arith) (omega arith))
    (column_if wide (made_wide k attrs page) page (page.column + 2) (omega arith) (omega arith))

mark_column_within : (c : ℕ) (attrs : Attrs) (page : Page) → (mark_printed c attrs page).column ≤ page.column + 2
unfolding mark_printed page_after_wrap wrapped_page
mark_column_within c attrs page =
    let k = mark_column page in
    column_if (carries c page) (page_after_wrap c attrs page)
    (if takes_mark (at (cursor_row page).cells k)
    then (if is_selector c then width_followed k attrs (mark_put k c page) else mark_put k c page)
    else page) (page.column + 2) (omega arith)
    (column_if (takes_mark (at (cursor_row page).cells k))
    (if is_selector c then width_followed k attrs (mark_put k c page) else mark_put k c page) page (page.column + 2)
    (column_if (is_selector c) (width_followed k attrs (mark_put k c page)) (mark_put k c page) (page.column + 2)
    (followed_column k attrs (mark_put k c page)) (omega arith)) (omega arith))

-- A printed character moves the cursor by at most two columns.
printed_column : (c : ℕ) (attrs : Attrs) (page : Page) → (page_after_print c attrs page).column ≤ page.column + 2
printed_column c attrs page = by_columns (columns_of c) where
  by_columns : (o : Option ℕ) → (printed_by o c attrs page).column ≤ page.column + 2
  by_columns None = omega arith
  by_columns (Some zero) =
      column_if (page.column == 0) page (mark_printed c attrs page) (page.column + 2) (omega arith)
      (mark_column_within c attrs page)
  by_columns (Some (suc zero)) = let h = made_column 1 page in omega (arith, h)
  by_columns (Some (suc (suc n))) =
      let h = made_column 2 page in
      column_if (nat_lt 1 page.width) (glyph_put (encode_utf8 c) true attrs (room_made 2 page)) page (page.column + 2)
      (omega (arith, h)) (omega arith)

-- A character that is printed in one column moves the cursor by at most one column.
narrow_column : (c : ℕ) (attrs : Attrs) (page : Page) → columns_of c ≡ Some 1 →
    (page_after_print c attrs page).column ≤ page.column + 1
narrow_column c attrs page one =
    subst (λ (o : Option ℕ). (printed_by o c attrs page).column ≤ page.column + 1) (sym one)
    (let h = made_column 1 page in omega (arith, h))

-- A character that moves the cursor by at most the given number of columns.
keeps_character : (width room taken c : ℕ) → IsDrawn c →
    ((attrs : Attrs) (page : Page) → (page_after_print c attrs page).column ≤ page.column + taken) →
    KeepsRoom width room (room - taken) (encode_utf8 c)
keeps_character width room taken c drawn moves =
    let range = shown_range c drawn.shown in
    keeps_event width room (room - taken) (encode_utf8 c) (Character c)
    (read_written c drawn.scalar (grind (arith, range)))
    (λ height screen z some has.
    let there = has (omega (arith, some)) in
    let moved = moves screen.attrs screen.page in
    let column = ap (λ (page : Page). page.column) (page_sent (Print c) screen) in
    subst (λ (steps : List Action). (screen_after_all steps screen).page.column + (room - taken) ≤ width) (sym (prints c drawn))
    (omega (arith, column, moved, there, some)))

pub keeps_narrow : (width room c : ℕ) → IsNarrow c → KeepsRoom width room (room - 1) (encode_utf8 c)
keeps_narrow width room c is =
    keeps_character width room 1 c is.drawn (λ attrs page. narrow_column c attrs page is.columns)

pub keeps_drawn : (width room c : ℕ) → IsDrawn c → KeepsRoom width room (room - 2) (encode_utf8 c)
keeps_drawn width room c is = keeps_character width room 2 c is (λ attrs page. printed_column c attrs page)

-- ---- controls

pub keeps_return : (width room : ℕ) → KeepsRoom width room width (0x0D ∷ [])
unfolding control_steps
keeps_return width room =
    keeps_event width room width (0x0D ∷ []) (Executed 0x0D) (read_control 0x0D (omega arith) (λ e. omega (arith, e)))
    (λ height screen z some has. omega arith)

fed_column : (page : Page) → (line_feed page).column ≤ page.column
unfolding line_feed
fed_column page =
    column_if (at_bottom page) (scrolled_up 1 page)
    (if nat_lt (page.row + 1) (length page.rows) then record page { row = page.row + 1 } else page) page.column (omega arith)
    (column_if (nat_lt (page.row + 1) (length page.rows)) (record page { row = page.row + 1 }) page page.column
    (omega arith) (omega arith))

pub keeps_feed : (width room : ℕ) → KeepsRoom width room room (0x0A ∷ [])
unfolding control_steps
keeps_feed width room =
    keeps_event width room room (0x0A ∷ []) (Executed 0x0A) (read_control 0x0A (omega arith) (λ e. omega (arith, e)))
    (λ height screen z some has.
    let there = has some in
    let column = ap (λ (page : Page). page.column) (page_sent LineFeed screen) in
    let fed = fed_column screen.page in
    omega (arith, there, column, fed))

pub keeps_back : (width room : ℕ) → KeepsRoom width room room (0x08 ∷ [])
unfolding control_steps
keeps_back width room =
    keeps_event width room room (0x08 ∷ []) (Executed 0x08) (read_control 0x08 (omega arith) (λ e. omega (arith, e)))
    (λ height screen z some has. let there = has some in omega (arith, there))

-- A tab moves the cursor right by at most eight columns.
pub keeps_tab : (width room : ℕ) → KeepsRoom width room (room - 8) (0x09 ∷ [])
unfolding control_steps
keeps_tab width room =
    keeps_event width room (room - 8) (0x09 ∷ []) (Executed 0x09) (read_control 0x09 (omega arith) (λ e. omega (arith, e)))
    (λ height screen z some has. let there = has (omega (arith, some)) in omega (arith, some, there))

pub keeps_saved : (width room : ℕ) → KeepsRoom width room room (0x1B ∷ 0x37 ∷ [])
unfolding escape_steps
keeps_saved width room =
    keeps_event width room room (0x1B ∷ 0x37 ∷ []) (EscDispatch [] 0x37)
    (read_escape 0x37 (omega arith) (omega arith) (λ e. omega (arith, e)) (λ e. omega (arith, e)) (λ e. omega (arith, e))
    (λ e. omega (arith, e)) (λ e. omega (arith, e)) (λ e. omega (arith, e)))
    (λ height screen z some has. has some)

pub keeps_restored : (width room : ℕ) → KeepsRoom width room 0 (0x1B ∷ 0x38 ∷ [])
keeps_restored width room =
    keeps_event width room 0 (0x1B ∷ 0x38 ∷ []) (EscDispatch [] 0x38)
    (read_escape 0x38 (omega arith) (omega arith) (λ e. omega (arith, e)) (λ e. omega (arith, e)) (λ e. omega (arith, e))
    (λ e. omega (arith, e)) (λ e. omega (arith, e)) (λ e. omega (arith, e)))
    (λ height screen z some has. absurd (omega (arith, some)))

pub keeps_visibility : (width room : ℕ) (hidden : Bool) → KeepsRoom width room room (bytes_of (Hide hidden))
unfolding fresh_step class_of table_of groups_of numbers_of number_of private_steps intermediate_steps mode_step
keeps_visibility width room true =
    keeps_event width room room (bytes_of (Hide true)) (CsiDispatch ((25 ∷ []) ∷ []) (0x3F ∷ []) 0x6C) refl (λ height screen z some has. has some)
keeps_visibility width room false =
    keeps_event width room room (bytes_of (Hide false)) (CsiDispatch ((25 ∷ []) ∷ []) (0x3F ∷ []) 0x68) refl (λ height screen z some has. has some)

-- ---- control sequences

-- A control sequence without intermediates keeps the room that its steps keep.
keeps_csi : (width before after : ℕ) (text : List ℕ) (final : ℕ) → IsParameterText text → 0x40 ≤ final → final ≤ 0x7E →
    ((height : ℕ) (screen : ScreenValue) → IsSized height width screen → 0 < after →
    (0 < before → screen.page.column + before ≤ width) →
    (screen_after_all (unmarked_steps (table_of text).groups final (seen_of screen)) screen).page.column + after ≤ width) →
    KeepsRoom width before after (csi text final)
keeps_csi width before after text final is low high keeps =
    keeps_event width before after (csi text final) (CsiDispatch (table_of text).groups [] final)
    (read_csi text final is low high) keeps

-- A step that only changes the page.
on_page : (width before after : ℕ) (text : List ℕ) (final : ℕ) (step : PageStep) → IsParameterText text →
    0x40 ≤ final → final ≤ 0x7E →
    ((seen : Seen) → unmarked_steps (table_of text).groups final seen ≡ OnPage step ∷ []) →
    ((attrs : Attrs) (page : Page) → page.width ≡ width → 0 < after → (0 < before → page.column + before ≤ width) →
    (page_after attrs step page).column + after ≤ width) → KeepsRoom width before after (csi text final)
on_page width before after text final step is low high means keeps =
    keeps_csi width before after text final is low high
    (λ height screen z some has.
    subst (λ (steps : List Action). (screen_after_all steps screen).page.column + after ≤ width) (sym (means (seen_of screen)))
    (keeps screen.attrs screen.page z.page.width_is some has))

-- A step that leaves the cursor in its column.
pub in_column : (width room : ℕ) (text : List ℕ) (final : ℕ) (step : PageStep) → IsParameterText text →
    0x40 ≤ final → final ≤ 0x7E →
    ((seen : Seen) → unmarked_steps (table_of text).groups final seen ≡ OnPage step ∷ []) →
    ((attrs : Attrs) (page : Page) → (page_after attrs step page).column ≤ page.column) →
    KeepsRoom width room room (csi text final)
in_column width room text final step is low high means keeps =
    on_page width room room text final step is low high means
    (λ attrs page e some has. let there = has some in let kept = keeps attrs page in omega (arith, there, kept))

pub keeps_up : (width room : ℕ) (text : List ℕ) → IsParameterText text → KeepsRoom width room room (csi text 0x41)
unfolding counted_step
keeps_up width room text is =
    in_column width room text 0x41 (page.Move (move.Up (number_or 1 0 (table_of text).groups))) is (omega arith) (omega arith)
    (λ seen. refl) (λ attrs page. omega arith)

pub keeps_down : (width room : ℕ) (text : List ℕ) → IsParameterText text → KeepsRoom width room room (csi text 0x42)
unfolding counted_step
keeps_down width room text is =
    in_column width room text 0x42 (page.Move (move.Down (number_or 1 0 (table_of text).groups))) is (omega arith) (omega arith)
    (λ seen. refl) (λ attrs page. omega arith)

pub keeps_left : (width room : ℕ) (text : List ℕ) → IsParameterText text → KeepsRoom width room room (csi text 0x44)
unfolding counted_step
keeps_left width room text is =
    in_column width room text 0x44 (page.Move (move.Left (number_or 1 0 (table_of text).groups))) is (omega arith) (omega arith)
    (λ seen. refl) (λ attrs page. omega arith)

pub keeps_row : (width room : ℕ) (text : List ℕ) → IsParameterText text → KeepsRoom width room room (csi text 0x64)
unfolding counted_step
keeps_row width room text is =
    in_column width room text 0x64 (page.Move (move.ToRow (number_or 1 0 (table_of text).groups - 1))) is (omega arith) (omega arith)
    (λ seen. refl) (λ attrs page. omega arith)

pub keeps_inserted : (width room : ℕ) (text : List ℕ) → IsParameterText text → KeepsRoom width room room (csi text 0x40)
unfolding counted_step
keeps_inserted width room text is =
    in_column width room text 0x40 (page.InsertChars (number_or 1 0 (table_of text).groups)) is (omega arith) (omega arith)
    (λ seen. refl) (λ attrs page. omega arith)

pub keeps_deleted : (width room : ℕ) (text : List ℕ) → IsParameterText text → KeepsRoom width room room (csi text 0x50)
unfolding counted_step
keeps_deleted width room text is =
    in_column width room text 0x50 (page.DeleteChars (number_or 1 0 (table_of text).groups)) is (omega arith) (omega arith)
    (λ seen. refl) (λ attrs page. omega arith)

lines_column : (b : Bool) (page : Page) (rows : List RowValue) → (if b then record page { rows = rows } else page).column ≤ page.column
lines_column true page rows = omega arith
lines_column false page rows = omega arith

pub keeps_lines_inserted : (width room : ℕ) (text : List ℕ) → IsParameterText text → KeepsRoom width room room (csi text 0x4C)
unfolding counted_step lines_inserted
keeps_lines_inserted width room text is =
    let n = number_or 1 0 (table_of text).groups in
    in_column width room text 0x4C (page.InsertLines n) is (omega arith) (omega arith)
    (λ seen. refl) (λ attrs page. lines_column (in_region page) page (rows_down page.width page.row page.bottom n page.rows))

pub keeps_lines_deleted : (width room : ℕ) (text : List ℕ) → IsParameterText text → KeepsRoom width room room (csi text 0x4D)
unfolding counted_step lines_deleted
keeps_lines_deleted width room text is =
    let n = number_or 1 0 (table_of text).groups in
    in_column width room text 0x4D (page.DeleteLines n) is (omega arith) (omega arith)
    (λ seen. refl) (λ attrs page. lines_column (in_region page) page (rows_up page.width page.row page.bottom n page.rows))

pub keeps_erased_chars : (width room : ℕ) (text : List ℕ) → IsParameterText text → KeepsRoom width room room (csi text 0x58)
unfolding counted_step erased_chars
keeps_erased_chars width room text is =
    let n = number_or 1 0 (table_of text).groups in
    in_column width room text 0x58 (page.EraseChars n) is (omega arith) (omega arith) (λ seen. refl)
    (λ attrs page. column_if ((n == 0) || (page.column == page.width)) page
    (erased_columns page.column (min n (page.width - page.column)) attrs page) page.column (omega arith) (omega arith))

-- A missing count is read as 1.
count_most : (n : ℕ) → (if n == 0 then 1 else n) ≤ max n 1
count_most zero = omega arith
count_most (suc n) = let t : (suc n == 0) ≡ false = grind (arith, nat_tests) in rw t (omega arith)

-- CUF moves the cursor right by at least one column.
pub keeps_right : (width room : ℕ) (text : List ℕ) → IsParameterText text →
    KeepsRoom width room (room - max (number_at 0 (table_of text).groups) 1) (csi text 0x43)
unfolding counted_step
keeps_right width room text is =
    let n = number_at 0 (table_of text).groups in
    on_page width room (room - max n 1) text 0x43 (page.Move (move.Right (number_or 1 0 (table_of text).groups))) is
    (omega arith) (omega arith) (λ seen. refl)
    (λ attrs page e some has.
    let there = has (omega (arith, some)) in
    let count = count_most n in
    omega (arith, there, some, count))

-- CHA and CUP move the cursor to a column.
pub keeps_column : (width room : ℕ) (text : List ℕ) → IsParameterText text →
    KeepsRoom width room (width - (max (number_at 0 (table_of text).groups) 1 - 1)) (csi text 0x47)
unfolding counted_step
keeps_column width room text is =
    let n = number_at 0 (table_of text).groups in
    on_page width room (width - (max n 1 - 1)) text 0x47 (page.Move (move.ToColumn (number_or 1 0 (table_of text).groups - 1))) is
    (omega arith) (omega arith) (λ seen. refl)
    (λ attrs page e some has. let count = count_most n in omega (arith, some, count))

pub keeps_place : (width room : ℕ) (text : List ℕ) → IsParameterText text →
    KeepsRoom width room (width - (max (number_at 1 (table_of text).groups) 1 - 1)) (csi text 0x48)
unfolding counted_step scrolling_steps other_steps
keeps_place width room text is =
    let n = number_at 1 (table_of text).groups in
    on_page width room (width - (max n 1 - 1)) text 0x48
    (page.Move (move.To (number_or 1 0 (table_of text).groups - 1) (number_or 1 1 (table_of text).groups - 1))) is
    (omega arith) (omega arith) (λ seen. refl)
    (λ attrs page e some has. let count = count_most n in omega (arith, some, count))

-- SGR leaves the page unchanged.
sgr_page : (groups : List (List ℕ)) (wanted : Wanted) (rest : List (List ℕ)) (screen : ScreenValue) →
    (screen_after_all (sgr_from groups wanted rest) screen).page ≡ screen.page
sgr_page groups wanted [] screen = refl
sgr_page groups wanted (group ∷ rest) screen =
    let read = group_read wanted group in
    ap (λ (s : ScreenValue). s.page)
    (stepped_then (reading_steps groups read.reading) (sgr_from groups read.wanted rest) screen)
    ∙ sgr_page groups read.wanted rest (screen_after_all (reading_steps groups read.reading) screen)
    ∙ by_reading read.reading
  where
    by_reading : (reading : Reading) → (screen_after_all (reading_steps groups reading) screen).page ≡ screen.page
    by_reading Silent = refl
    by_reading (Set setting) = refl
    by_reading Unhandled = refl

pub keeps_attributes : (width room : ℕ) (text : List ℕ) → IsParameterText text → KeepsRoom width room room (csi text 0x6D)
unfolding counted_step scrolling_steps other_steps
keeps_attributes width room text is =
    keeps_csi width room room text 0x6D is (omega arith) (omega arith)
    (λ height screen z some has.
    let there = has some in
    let groups = (table_of text).groups in
    let same = ap (λ (p : Page). p.column) (sgr_page groups Any groups screen) in
    omega (arith, there, same))

rest_column : (attrs : Attrs) (page : Page) → (erased_rest attrs page).column ≤ page.column
unfolding erased_rest
rest_column attrs page =
    column_if (page.column == page.width) page (erased_columns page.column (page.width - page.column) attrs page)
    page.column (omega arith) (omega arith)

steps_if : (b : Bool) (xs ys : List Action) (screen : ScreenValue) →
    (screen_after_all xs screen).page.column ≤ screen.page.column →
    (screen_after_all ys screen).page.column ≤ screen.page.column →
    (screen_after_all (if b then xs else ys) screen).page.column ≤ screen.page.column
steps_if true xs ys screen h k = h
steps_if false xs ys screen h k = k

row_erasing_column : (report : CallValue) (n : ℕ) (screen : ScreenValue) →
    (screen_after_all (row_erasing report n) screen).page.column ≤ screen.page.column
unfolding row_erasing erased_start
row_erasing_column report n screen =
    steps_if (n == 0) (OnPage page.EraseRest ∷ []) _ screen (rest_column screen.attrs screen.page)
    (steps_if (n == 1) (OnPage page.EraseStart ∷ []) _ screen (omega arith)
    (steps_if (n == 2) (OnPage page.EraseRow ∷ []) (CallBack report ∷ []) screen (omega arith) (omega arith)))

page_erasing_column : (report : CallValue) (n : ℕ) (screen : ScreenValue) →
    (screen_after_all (page_erasing report n) screen).page.column ≤ screen.page.column
unfolding page_erasing erased_start erased_below erased_above
page_erasing_column report n screen =
    steps_if (n == 0) (OnPage page.EraseBelow ∷ []) _ screen (rest_column screen.attrs screen.page)
    (steps_if (n == 1) (OnPage page.EraseAbove ∷ []) _ screen (omega arith)
    (steps_if (n == 2) (OnPage page.ErasePage ∷ []) _ screen (omega arith)
    (steps_if (n == 3) (EraseScrollback ∷ []) (CallBack report ∷ []) screen (by_page screen.is_alternate) (omega arith))))
  where
    by_page : (b : Bool) →
        (if b then screen else record screen { scrollback = scrollback_after_clear screen.scrollback }).page.column
        ≤ screen.page.column
    by_page true = omega arith
    by_page false = omega arith

pub keeps_row_erased : (width room : ℕ) (text : List ℕ) → IsParameterText text → KeepsRoom width room room (csi text 0x4B)
unfolding counted_step scrolling_steps other_steps
keeps_row_erased width room text is =
    keeps_csi width room room text 0x4B is (omega arith) (omega arith)
    (λ height screen z some has.
    let there = has some in
    let groups = (table_of text).groups in
    let same = row_erasing_column (UnhandledCsi None None groups 0x4B) (number_at 0 groups) screen in
    omega (arith, there, same))

pub keeps_page_erased : (width room : ℕ) (text : List ℕ) → IsParameterText text → KeepsRoom width room room (csi text 0x4A)
unfolding counted_step scrolling_steps other_steps
keeps_page_erased width room text is =
    keeps_csi width room room text 0x4A is (omega arith) (omega arith)
    (λ height screen z some has.
    let there = has some in
    let groups = (table_of text).groups in
    let same = page_erasing_column (UnhandledCsi None None groups 0x4A) (number_at 0 groups) screen in
    omega (arith, there, same))
