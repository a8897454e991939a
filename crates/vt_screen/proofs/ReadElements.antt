-- Reading the elements of drawing output: what they do to the cursor, and that they keep plain terminals plain.
use Rattle.std.proofs.Common.{◌≡◌, ◌≢◌, ℕ, zero, suc, ◌+◌, ◌-◌, ◌<◌, ◌≤◌, ◌^◌, ◌==◌, min, Bool, true, false, List, []}
use Rattle.std.proofs.Common.{◌∷◌, ◌++◌, Option, Some, None, length, refl, sym, ap, subst, ◌∙◌, arith, inl, inr, ◌||◌}
use Rattle.std.specs.Prelude.{IfSome, if◌then◌else◌}
use Rattle.std.specs.List.{AllByRecursion}
use Rattle.std.proofs.lemmas.List.Elements.{All-from_recursion}
use Rattle.vt_cells.specs.Attrs.{Attrs}
use Rattle.vt_cells.specs.Glyph.{columns_of}
use Rattle.vt_cells.specs.Op.{EraseRest, EraseChars, Hide, MoveTo, MoveRight, NextRow, ClearAttrs, bytes_of, counted}
use Rattle.vt_cells.specs.Op.{csi, semicolon_list}
use Rattle.vt_cells.specs.declared.pos.Pos.{Pos}
use Rattle.vt_cells.proofs.Glyphs.{columns_of-le}
use Rattle.vt_scan.specs.Automaton.{start}
use Rattle.vt_scan.proofs.ParameterNumbers.{alone, joined_groups, joined_is_parameter}
use Rattle.vt_grid.specs.Erasing.{erased_columns, erased_rest, erased_chars}
use Rattle.vt_grid.specs.Moves.{moved, target_row}
use Rattle.vt_grid.specs.declared.grid.moves.CursorMove.TheVariants.{Return, Right, To}
use Rattle.vt_grid.specs.Page.{Page, rows_up}
use Rattle.vt_grid.specs.declared.page_step.PageStep.TheVariants as page
use Rattle.vt_grid.specs.Regions.{in_region}
use Rattle.vt_grid.specs.Shifts.{lines_deleted, lines_inserted, rows_down}
use Rattle.vt_screen.specs.Controls.{counted_step, other_steps, reading_steps, scrolling_steps, sgr_from}
use Rattle.vt_screen.specs.MadeOf.{Control, Numbered, shortened_controls, shortened_finals}
use Rattle.vt_screen.specs.Reading.{quiet_steps, terminal}
use Rattle.vt_screen.specs.Screen.{ScreenValue, with_page}
use Rattle.vt_screen.specs.Sgr.{group_read, attrs_after_setting}
use Rattle.vt_screen.specs.ShortMoves.{AreHandled, IsAfter, IsAt, IsAtPos, IsElement, IsPlainSized, IsSgrText, LeadsTo}
use Rattle.vt_screen.specs.ShortMoves.{Replaces, is_still, with_cursor}
use Rattle.vt_screen.specs.Shown.{ReadsTo}
use Rattle.vt_screen.specs.Steps.{OnPage, display_after}
use Rattle.vt_screen.specs.declared.short_moves.elements.Element.{Element}
use Rattle.vt_screen.specs.declared.short_moves.elements.Element.TheVariants as elements
use Rattle.vt_screen.specs.declared.sgr.Reading.{Reading}
use Rattle.vt_screen.specs.declared.sgr.Reading.TheVariants.{Silent, Set, Unhandled}
use Rattle.vt_screen.specs.declared.sgr.Wanted.{Wanted}
use Rattle.vt_screen.specs.declared.sgr.Wanted.TheVariants.{Any}
use Rattle.vt_screen.proofs.StepRegions.{framed, framed_lines_deleted, framed_lines_inserted}
use Rattle.vt_screen.proofs.MadeOf.{made_counted, made_drawn, made_piece, made_place}
use Rattle.vt_screen.proofs.ReadMoved.{deleted_read, inserted_read}
use Rattle.vt_screen.proofs.AgainPlain.{goes_read, held, op_goes}
use Rattle.vt_screen.proofs.ReadOperations.{cleared_read, erased_rest_read, hidden_read, moved_to_read}
use Rattle.vt_screen.proofs.ReadOperations.{erased_chars_read}
use Rattle.vt_screen.proofs.ReadTexts.{csi_read, reads_then}
use Rattle.vt_screen.proofs.ReadCharacters.{IsTame, copied, copied_blindly, tame_keeps, ascii_copied, ascii_text}
use Rattle.vt_screen.proofs.ReadCharacters.{other_copied, other_text, same_screen, text_tame}
use Rattle.vt_screen.proofs.ReadRoutes.{IsShort, down, feed_read, return_read, right_read, right_tame}
use Rattle.vt_screen.proofs.ReadShifted.{deleted_chars_read, inserted_chars_read}
use Rattle.vt_screen.proofs.SizePage.{same_chars_deleted, same_chars_inserted, same_itself, same_lines_deleted}
use Rattle.vt_screen.proofs.SizePage.{same_lines_inserted}

-- ---- elements that leave the cursor where it is

at_still : (known : Option Pos) (screen after : ScreenValue) → after.page.row ≡ screen.page.row →
    after.page.column ≡ screen.page.column → after.page.width ≡ screen.page.width → IsAt known screen → IsAt known after
at_still None screen after row column width at = tt
at_still (Some pos) screen after row column width at = record {
  row = row ∙ at.row;
  column = column ∙ at.column;
  inside = subst (λ w. pos.col < w) (sym width) at.inside;
}

pub still_copied : (rows cols : ℕ) (known : Option Pos) (text : List ℕ) → IsTame text → IsShort text →
    ((screen : ScreenValue) → (after : ScreenValue) × ReadsTo text screen after
    × ((after.page.row ≡ screen.page.row) × ((after.page.column ≡ screen.page.column)
    × (after.page.width ≡ screen.page.width)))) → Replaces rows cols known known text text
still_copied rows cols known text tame made still =
    copied rows cols known known text (tame_keeps text tame) made
    (λ screen after sized at e.
    let (next, reads, (row, (column, width))) = still screen in
    subst (IsAt known) (same_screen next after text screen reads e) (at_still known screen next row column width at))

rest_tame : IsTame (bytes_of EraseRest)
rest_tame reader screen h = op_goes EraseRest false reader screen tt tt h

rest_made : IsShort (bytes_of EraseRest)
rest_made = made_piece shortened_finals shortened_controls (Control (bytes_of EraseRest))
    (inr (inr (inr (inr (inr (inr (inr (inr (inr (inr (inl refl)))))))))))

clear_tame : IsTame (csi [] 0x6D)
clear_tame reader screen h = op_goes ClearAttrs false reader screen tt tt h

clear_made : IsShort (csi [] 0x6D)
clear_made = made_piece shortened_finals shortened_controls (Numbered [] 0x6D)
    (inr (inr (inr (inr (inr (inr (inr (inr (inl refl)))))))))

hide_tame : (hidden : Bool) → IsTame (bytes_of (Hide hidden))
hide_tame hidden reader screen h = op_goes (Hide hidden) false reader screen tt tt h

hide_made : (hidden : Bool) → IsShort (bytes_of (Hide hidden))
hide_made true = made_piece shortened_finals shortened_controls (Control (bytes_of (Hide true)))
    (inr (inr (inr (inr (inr (inr (inr (inr (inl refl)))))))))
hide_made false = made_piece shortened_finals shortened_controls (Control (bytes_of (Hide false)))
    (inr (inr (inr (inr (inr (inr (inr (inl refl))))))))

erased_rest_still : (attrs : Attrs) (p : Page) →
    ((erased_rest attrs p).row ≡ p.row) × (((erased_rest attrs p).column ≡ p.column) × ((erased_rest attrs p).width ≡ p.width))
unfolding erased_rest
erased_rest_still attrs p = by_end (p.column == p.width)
  where
    by_end : (b : Bool) → let q = (if b then p else erased_columns p.column (p.width - p.column) attrs p) in
        (q.row ≡ p.row) × ((q.column ≡ p.column) × (q.width ≡ p.width))
    by_end true = (refl, (refl, refl))
    by_end false = (refl, (refl, refl))

erase_copied : (rows cols : ℕ) (known : Option Pos) → Replaces rows cols known known (bytes_of EraseRest) (bytes_of EraseRest)
erase_copied rows cols known =
    still_copied rows cols known (bytes_of EraseRest)
    rest_tame rest_made
    (λ screen. (
      display_after (OnPage page.EraseRest) screen,
      erased_rest_read screen,
      erased_rest_still screen.attrs screen.page,
    ))

clear_copied : (rows cols : ℕ) (known : Option Pos) → Replaces rows cols known known (csi [] 0x6D) (csi [] 0x6D)
clear_copied rows cols known =
    still_copied rows cols known (csi [] 0x6D)
    clear_tame clear_made
    (λ screen. (_, cleared_read screen, (refl, (refl, refl))))

hide_copied : (rows cols : ℕ) (known : Option Pos) (hidden : Bool) →
    Replaces rows cols known known (bytes_of (Hide hidden)) (bytes_of (Hide hidden))
hide_copied rows cols known hidden =
    still_copied rows cols known (bytes_of (Hide hidden))
    (hide_tame hidden) (hide_made hidden)
    (λ screen. (record screen { hidden = hidden }, hidden_read hidden screen, (refl, (refl, refl))))

-- ---- SGR

-- All groups are handled, so reading them changes only the attributes.
handled_read : (groups : List (List ℕ)) (wanted : Wanted) (ns : List ℕ) (screen : ScreenValue) → AreHandled wanted ns →
    (attrs : Attrs) × (quiet_steps (sgr_from groups wanted (alone ns)) screen ≡ Some (record screen { attrs = attrs }))
handled_read groups wanted [] screen h = (screen.attrs, refl)
handled_read groups wanted (n ∷ ns) screen h =
    by_reading (group_read wanted (n ∷ [])).reading h.0
    (λ s. handled_read groups (group_read wanted (n ∷ [])).wanted ns s h.1)
  where
    next : Wanted
    next = (group_read wanted (n ∷ [])).wanted

    by_reading : (reading : Reading) → reading ≢ Unhandled
        → ((s : ScreenValue) → (attrs : Attrs)
        × (quiet_steps (sgr_from groups next (alone ns)) s ≡ Some (record s { attrs = attrs })))
        → (attrs : Attrs)
        × (quiet_steps (reading_steps groups reading ++ sgr_from groups next (alone ns)) screen
        ≡ Some (record screen { attrs = attrs }))
    by_reading Silent other rest = rest screen
    by_reading (Set setting) other rest = rest (record screen { attrs = attrs_after_setting setting screen.attrs })
    by_reading Unhandled other rest = absurd (other refl)

pub sgr_read : (text : List ℕ) (screen : ScreenValue) → IsSgrText 32 Any text →
    (attrs : Attrs) × ReadsTo (csi text 0x6D) screen (record screen { attrs = attrs })
unfolding counted_step scrolling_steps other_steps
sgr_read text screen is =
    let ns : List ℕ = is.first ∷ is.rest in
    let small = All-from_recursion (λ n. n ≤ 65535) ns (weaker ns is.small) in
    let some : 0 < length ns = omega arith in
    let (attrs, quiet) = handled_read (alone ns) Any ns screen is.handled in (
      attrs,
      subst (λ (t : List ℕ). ReadsTo (csi t 0x6D) screen (record screen { attrs = attrs })) (sym is.spelled)
          (csi_read (semicolon_list ns) 0x6D (alone ns) screen (record screen { attrs = attrs })
          (joined_is_parameter ns small) (omega arith, omega arith) (joined_groups ns some is.few small) quiet),
    )
  where
    weaker : (ns : List ℕ) → AllByRecursion (λ n. n < 65536) ns → AllByRecursion (λ n. n ≤ 65535) ns
    weaker [] h = tt
    weaker (n ∷ ns) h = let one = h.0 in (omega arith, weaker ns h.1)

sgr_tame : (text : List ℕ) → IsSgrText 32 Any text → IsTame (csi text 0x6D)
sgr_tame text is reader screen h =
    let (attrs, reads) = sgr_read text screen is in
    goes_read false reader screen (record screen { attrs = attrs }) (csi text 0x6D) reads
    (held false reader screen (record screen { attrs = attrs }) (framed screen.page)
    (record { other = refl; is_alternate = refl; modes = refl; size = same_itself screen.page }) h.offset h)

sgr_made : (text : List ℕ) → IsSgrText 32 Any text → IsShort (csi text 0x6D)
sgr_made text is =
    subst (λ (t : List ℕ). IsShort (csi t 0x6D)) (sym is.spelled)
    (made_piece shortened_finals shortened_controls (Numbered (is.first ∷ is.rest) 0x6D)
    (inr (inr (inr (inr (inr (inr (inr (inr (inl refl))))))))))

sgr_copied : (rows cols : ℕ) (known : Option Pos) (text : List ℕ) → IsSgrText 32 Any text →
    Replaces rows cols known known (csi text 0x6D) (csi text 0x6D)
sgr_copied rows cols known text is =
    still_copied rows cols known (csi text 0x6D) (sgr_tame text is) (sgr_made text is)
    (λ screen. let (attrs, reads) = sgr_read text screen is in (record screen { attrs = attrs }, reads, (refl, (refl, refl))))

-- ---- movements

pub place_leads : (rows cols : ℕ) (known : Option Pos) (to : Pos) → to.row < 65535 → to.col < 65535 →
    to.row < rows → to.col < cols → LeadsTo rows cols known to (bytes_of (MoveTo to.row to.col))
place_leads rows cols known to low narrow row col = record {
  reads = λ screen sized at. moved_to_read to.row to.col screen low narrow
      ∙ ap (λ (p : Page). Some (terminal start (with_page p screen))) (placed screen sized);
  keeps = tame_keeps (bytes_of (MoveTo to.row to.col))
      (λ reader screen h. op_goes (MoveTo to.row to.col) false reader screen (low, narrow) tt h);
  made = made_place shortened_finals shortened_controls to.row to.col 0x48 (inr (inr (inr (inr (inr (inl refl))))));
}
  where
    placed : (screen : ScreenValue) → IsPlainSized rows cols screen →
        moved (To to.row to.col) screen.page ≡ record screen.page { row = to.row; column = to.col }
    placed screen sized =
        let tall = sized.height in
        let wide = sized.width in
        let r : target_row to.row screen.page ≡ to.row = rw (sized.plain.page.origin) (omega (arith, tall, row)) in
        let c : min to.col (screen.page.width - 1) ≡ to.col = omega (arith, wide, col) in
        ap (λ x. record screen.page { row = x; column = min to.col (screen.page.width - 1) }) r
        ∙ ap (λ x. record screen.page { row = to.row; column = x }) c

pub right_leads : (rows cols n : ℕ) (from to : Pos) → 0 < n → n < 2 ^ 16 → to.row ≡ from.row →
    to.col ≡ min (from.col + n) (cols - 1) → LeadsTo rows cols (Some from) to (bytes_of (MoveRight n))
right_leads rows cols n from to some small row col = record {
  reads = λ screen sized at. right_read n screen some small
      ∙ ap (λ (p : Page). Some (terminal start (with_page p screen))) (advanced screen sized at);
  keeps = tame_keeps (bytes_of (MoveRight n)) (right_tame n small);
  made = made_counted shortened_finals shortened_controls n 0x43 (inr (inr (inr (inr (inr (inr (inl refl)))))));
}
  where
    advanced : (screen : ScreenValue) → IsPlainSized rows cols screen → IsAtPos from screen →
        moved (Right n) screen.page ≡ record screen.page { row = to.row; column = to.col }
    advanced screen sized at =
        let r : screen.page.row ≡ to.row = at.row ∙ sym row in
        let c : min (screen.page.column + n) (screen.page.width - 1) ≡ to.col =
        ap (λ x. min (x + n) (screen.page.width - 1)) at.column ∙ (ap (λ w. min (from.col + n) (w - 1)) sized.width ∙ sym col) in
        ap (λ x. record screen.page { row = x; column = min (screen.page.column + n) (screen.page.width - 1) }) r
        ∙ ap (λ x. record screen.page { row = to.row; column = x }) c

pub next_row_leads : (rows cols : ℕ) (from to : Pos) → to.row ≡ from.row + 1 → to.col ≡ 0 → to.row < rows →
    LeadsTo rows cols (Some from) to (bytes_of NextRow)
next_row_leads rows cols from to row col low = record {
  reads = reads;
  keeps = tame_keeps (bytes_of NextRow) (λ reader screen h. op_goes NextRow false reader screen tt tt h);
  made = made_piece shortened_finals shortened_controls (Control (bytes_of NextRow)) (inr (inr (inl refl)));
}
  where
    reads : (screen : ScreenValue) → IsPlainSized rows cols screen → IsAtPos from screen →
        ReadsTo (bytes_of NextRow) screen (with_cursor to screen)
    reads screen sized at =
        let tall = sized.height in
        let here = at.row in
        let whole = sized.plain.page.whole.1 in
        let middle : ScreenValue = with_page (moved Return screen.page) screen in
        let r : screen.page.row + 1 ≡ to.row = omega (arith, here, row) in
        reads_then (terminal start screen) (terminal start middle) (terminal start (down 1 middle)) (0x0D ∷ []) (0x0A ∷ [])
        (return_read screen) (feed_read middle whole (omega (arith, r, low, tall)))
        ∙ ap (λ x. Some (terminal start (record screen { page = record screen.page { row = x; column = 0 } }))) r
        ∙ ap (λ x. Some (terminal start (record screen { page = record screen.page { row = to.row; column = x } }))) (sym col)

-- ---- elements after which nothing is known

chars_erased_tame : (n : ℕ) → n < 2 ^ 16 → IsTame (bytes_of (EraseChars n))
chars_erased_tame n small reader screen h = op_goes (EraseChars n) false reader screen small tt h

lines_tame : (n : ℕ) (insert : Bool) → 0 < n → n < 2 ^ 16 → IsTame (counted n (if insert then 0x4C else 0x4D))
lines_tame zero insert some small reader screen h = absurd (omega arith)
lines_tame (suc n) true some small reader screen h =
    goes_read false reader screen (display_after (OnPage (page.InsertLines (suc n))) screen) (counted (suc n) 0x4C)
    (inserted_read n screen small)
    (held false reader screen (display_after (OnPage (page.InsertLines (suc n))) screen)
    (framed_lines_inserted (suc n) screen.page)
    (record { other = refl; is_alternate = refl; modes = refl; size = same_lines_inserted (suc n) screen.page }) h.offset h)
lines_tame (suc n) false some small reader screen h =
    goes_read false reader screen (display_after (OnPage (page.DeleteLines (suc n))) screen) (counted (suc n) 0x4D)
    (deleted_read n screen small)
    (held false reader screen (display_after (OnPage (page.DeleteLines (suc n))) screen)
    (framed_lines_deleted (suc n) screen.page)
    (record { other = refl; is_alternate = refl; modes = refl; size = same_lines_deleted (suc n) screen.page }) h.offset h)

chars_tame : (n : ℕ) (insert : Bool) → 0 < n → n < 2 ^ 16 → IsTame (counted n (if insert then 0x40 else 0x50))
chars_tame zero insert some small reader screen h = absurd (omega arith)
chars_tame (suc n) true some small reader screen h =
    goes_read false reader screen (display_after (OnPage (page.InsertChars (suc n))) screen) (counted (suc n) 0x40)
    (inserted_chars_read n screen small)
    (held false reader screen (display_after (OnPage (page.InsertChars (suc n))) screen)
    (record { top = refl; bottom = refl; origin = refl; saved_origin = refl })
    (record { other = refl; is_alternate = refl; modes = refl; size = same_chars_inserted (suc n) screen.page }) h.offset h)
chars_tame (suc n) false some small reader screen h =
    goes_read false reader screen (display_after (OnPage (page.DeleteChars (suc n))) screen) (counted (suc n) 0x50)
    (deleted_chars_read n screen small)
    (held false reader screen (display_after (OnPage (page.DeleteChars (suc n))) screen)
    (record { top = refl; bottom = refl; origin = refl; saved_origin = refl })
    (record { other = refl; is_alternate = refl; modes = refl; size = same_chars_deleted (suc n) screen.page }) h.offset h)

lines_made : (n : ℕ) (insert : Bool) → IsShort (counted n (if insert then 0x4C else 0x4D))
lines_made n true = made_counted shortened_finals shortened_controls n 0x4C (inr (inr (inr (inl refl))))
lines_made n false = made_counted shortened_finals shortened_controls n 0x4D (inr (inr (inr (inr (inl refl)))))

chars_made : (n : ℕ) (insert : Bool) → IsShort (counted n (if insert then 0x40 else 0x50))
chars_made n true = made_counted shortened_finals shortened_controls n 0x40 (inr (inl refl))
chars_made n false = made_counted shortened_finals shortened_controls n 0x50 (inr (inr (inl refl)))

-- ---- elements that change rows and leave the cursor where it is

abbrev KeepsCursor : Page → Page → Type 0
KeepsCursor new p = (new.row ≡ p.row) × ((new.column ≡ p.column) × (new.width ≡ p.width))

cursor_if : (b : Bool) (x p : Page) → KeepsCursor x p → KeepsCursor (if b then x else p) p
cursor_if true x p k = k
cursor_if false x p k = (refl, (refl, refl))

cursor_unless : (b : Bool) (x p : Page) → KeepsCursor x p → KeepsCursor (if b then p else x) p
cursor_unless true x p k = (refl, (refl, refl))
cursor_unless false x p k = k

chars_erased_cursor : (n : ℕ) (attrs : Attrs) (p : Page) → KeepsCursor (erased_chars n attrs p) p
unfolding erased_chars
chars_erased_cursor n attrs p =
    cursor_unless ((n == 0) || (p.column == p.width)) (erased_columns p.column (min n (p.width - p.column)) attrs p) p
    (refl, (refl, refl))

lines_inserted_cursor : (n : ℕ) (p : Page) → KeepsCursor (lines_inserted n p) p
unfolding lines_inserted
lines_inserted_cursor n p =
    cursor_if (in_region p) (record p { rows = rows_down p.width p.row p.bottom n p.rows }) p (refl, (refl, refl))

lines_deleted_cursor : (n : ℕ) (p : Page) → KeepsCursor (lines_deleted n p) p
unfolding lines_deleted
lines_deleted_cursor n p =
    cursor_if (in_region p) (record p { rows = rows_up p.width p.row p.bottom n p.rows }) p (refl, (refl, refl))

-- Every terminal reads the output, and keeps its cursor.
abbrev IsStill : List ℕ → Type 0
IsStill text =
    (screen : ScreenValue) → (after : ScreenValue) × ReadsTo text screen after
    × ((after.page.row ≡ screen.page.row) × ((after.page.column ≡ screen.page.column)
    × (after.page.width ≡ screen.page.width)))

erase_still : (n : ℕ) → 0 < n → n < 2 ^ 16 → IsStill (counted n 0x58)
erase_still zero some small screen = absurd (omega arith)
erase_still (suc n) some small screen = (
  display_after (OnPage (page.EraseChars (suc n))) screen,
  erased_chars_read n screen small,
  chars_erased_cursor (suc n) screen.attrs screen.page,
)

lines_still : (n : ℕ) (insert : Bool) → 0 < n → n < 2 ^ 16 → IsStill (counted n (if insert then 0x4C else 0x4D))
lines_still zero insert some small screen = absurd (omega arith)
lines_still (suc n) true some small screen = (
  display_after (OnPage (page.InsertLines (suc n))) screen,
  inserted_read n screen small,
  lines_inserted_cursor (suc n) screen.page,
)
lines_still (suc n) false some small screen = (
  display_after (OnPage (page.DeleteLines (suc n))) screen,
  deleted_read n screen small,
  lines_deleted_cursor (suc n) screen.page,
)

chars_still : (n : ℕ) (insert : Bool) → 0 < n → n < 2 ^ 16 → IsStill (counted n (if insert then 0x40 else 0x50))
chars_still zero insert some small screen = absurd (omega arith)
chars_still (suc n) true some small screen =
    (display_after (OnPage (page.InsertChars (suc n))) screen, inserted_chars_read n screen small, (refl, (refl, refl)))
chars_still (suc n) false some small screen =
    (display_after (OnPage (page.DeleteChars (suc n))) screen, deleted_chars_read n screen small, (refl, (refl, refl)))

-- ---- every element

pub element_kept : (element : Element) (bytes : List ℕ) → IsElement element bytes → IsTame bytes × IsShort bytes
element_kept elements.Ascii bytes is =
    (text_tame bytes (ascii_text bytes is), made_drawn shortened_finals shortened_controls bytes (ascii_text bytes is))
element_kept (elements.Other c) bytes is =
    let text = other_text c bytes is.0 is.1 in
    (text_tame bytes text, made_drawn shortened_finals shortened_controls bytes text)
element_kept (elements.Place pos) bytes is =
    subst (λ (t : List ℕ). IsTame t × IsShort t) (sym is.2) (
      λ reader screen h. op_goes (MoveTo pos.row pos.col) false reader screen (is.0, is.1) tt h,
      made_place shortened_finals shortened_controls pos.row pos.col 0x48 (inr (inr (inr (inr (inr (inl refl)))))),
    )
element_kept (elements.Right n) bytes is =
    let small = is.1 in
    subst (λ (t : List ℕ). IsTame t × IsShort t) (sym is.2) (
      right_tame n (omega arith),
      made_counted shortened_finals shortened_controls n 0x43 (inr (inr (inr (inr (inr (inr (inl refl))))))),
    )
element_kept elements.NextRow bytes is =
    subst (λ (t : List ℕ). IsTame t × IsShort t) (sym is) (
      λ reader screen h. op_goes NextRow false reader screen tt tt h,
      made_piece shortened_finals shortened_controls (Control (bytes_of NextRow)) (inr (inr (inl refl))),
    )
element_kept elements.EraseRest bytes is =
    subst (λ (t : List ℕ). IsTame t × IsShort t) (sym is) (rest_tame, rest_made)
element_kept (elements.EraseChars n) bytes is =
    let small = is.1 in
    subst (λ (t : List ℕ). IsTame t × IsShort t) (sym is.2) (
      chars_erased_tame n (omega arith),
      made_counted shortened_finals shortened_controls n 0x58 (inr (inr (inr (inr (inr (inr (inr (inl refl)))))))),
    )
element_kept (elements.Lines n insert) bytes is =
    let some = is.0 in
    let small = is.1 in
    subst (λ (t : List ℕ). IsTame t × IsShort t) (sym is.2) (lines_tame n insert some (omega arith), lines_made n insert)
element_kept (elements.Chars n insert) bytes is =
    let some = is.0 in
    let small = is.1 in
    subst (λ (t : List ℕ). IsTame t × IsShort t) (sym is.2) (chars_tame n insert some (omega arith), chars_made n insert)
element_kept (elements.Hide hidden) bytes is =
    subst (λ (t : List ℕ). IsTame t × IsShort t) (sym is) (hide_tame hidden, hide_made hidden)
element_kept elements.ClearAttrs bytes is =
    subst (λ (t : List ℕ). IsTame t × IsShort t) (sym is) (clear_tame, clear_made)
element_kept elements.Attrs bytes (text, is, e) =
    subst (λ (t : List ℕ). IsTame t × IsShort t) (sym e) (sgr_tame text is, sgr_made text is)

-- After an element that is copied, the position of the cursor may be unknown.
pub element_copied : (rows cols : ℕ) (known : Option Pos) (element : Element) (bytes : List ℕ) → IsElement element bytes →
    Replaces rows cols known None bytes bytes
element_copied rows cols known element bytes is =
    let (tame, made) = element_kept element bytes is in copied_blindly rows cols known bytes (tame_keeps bytes tame) made

pub still_element : (rows cols : ℕ) (known : Option Pos) (element : Element) (bytes : List ℕ) → IsElement element bytes →
    is_still element ≡ true → Replaces rows cols known known bytes bytes
still_element rows cols known elements.EraseRest bytes is e =
    subst (λ (t : List ℕ). Replaces rows cols known known t t) (sym is) (erase_copied rows cols known)
still_element rows cols known (elements.Hide hidden) bytes is e =
    subst (λ (t : List ℕ). Replaces rows cols known known t t) (sym is) (hide_copied rows cols known hidden)
still_element rows cols known elements.ClearAttrs bytes is e =
    subst (λ (t : List ℕ). Replaces rows cols known known t t) (sym is) (clear_copied rows cols known)
still_element rows cols known elements.Attrs bytes (text, is, spelled) e =
    subst (λ (t : List ℕ). Replaces rows cols known known t t) (sym spelled) (sgr_copied rows cols known text is)
still_element rows cols known elements.Ascii bytes is e = absurd cc
still_element rows cols known (elements.Other c) bytes is e = absurd cc
still_element rows cols known (elements.Place pos) bytes is e = absurd cc
still_element rows cols known (elements.Right n) bytes is e = absurd cc
still_element rows cols known elements.NextRow bytes is e = absurd cc
still_element rows cols known (elements.EraseChars n) bytes is e =
    let small = is.1 in
    subst (λ (t : List ℕ). Replaces rows cols known known t t) (sym is.2)
    (still_copied rows cols known (counted n 0x58) (chars_erased_tame n (omega arith))
    (made_counted shortened_finals shortened_controls n 0x58 (inr (inr (inr (inr (inr (inr (inr (inl refl)))))))))
    (erase_still n is.0 (omega arith)))
still_element rows cols known (elements.Lines n insert) bytes is e =
    let some = is.0 in
    let small = is.1 in
    subst (λ (t : List ℕ). Replaces rows cols known known t t) (sym is.2)
    (still_copied rows cols known (counted n (if insert then 0x4C else 0x4D)) (lines_tame n insert some (omega arith))
    (lines_made n insert) (lines_still n insert some (omega arith)))
still_element rows cols known (elements.Chars n insert) bytes is e =
    let some = is.0 in
    let small = is.1 in
    subst (λ (t : List ℕ). Replaces rows cols known known t t) (sym is.2)
    (still_copied rows cols known (counted n (if insert then 0x40 else 0x50)) (chars_tame n insert some (omega arith))
    (chars_made n insert) (chars_still n insert some (omega arith)))

-- ---- for the code

pub right_target : (rows cols n : ℕ) (known : Option Pos) (from : Pos) (result : Option Pos) (head : List ℕ) →
    known ≡ Some from → IsElement (elements.Right n) head → IfSome result (λ to. (to.row ≡ from.row) × (to.row < rows)) →
    IfSome result (λ to. (to.col ≡ min (from.col + n) (cols - 1)) × (to.col < cols)) →
    IfSome result (λ to. LeadsTo rows cols known to head)
right_target rows cols n known from None head at is row col = tt
right_target rows cols n known from (Some to) head at is row col =
    let small = is.1 in
    subst (λ (k : Option Pos). LeadsTo rows cols k to head) (sym at)
    (subst (λ (t : List ℕ). LeadsTo rows cols (Some from) to t) (sym is.2)
    (right_leads rows cols n from to is.0 (omega arith) row.0 col.0))

pub next_row_target : (rows cols : ℕ) (known : Option Pos) (from : Pos) (result : Option Pos) (head : List ℕ) →
    known ≡ Some from → IsElement elements.NextRow head → IfSome result (λ to. (to.row ≡ from.row + 1) × (to.row < rows)) →
    IfSome result (λ to. (to.col ≡ 0) × (to.col < cols)) → IfSome result (λ to. LeadsTo rows cols known to head)
next_row_target rows cols known from None head at is row col = tt
next_row_target rows cols known from (Some to) head at is row col =
    subst (λ (k : Option Pos). LeadsTo rows cols k to head) (sym at)
    (subst (λ (t : List ℕ). LeadsTo rows cols (Some from) to t) (sym is)
    (next_row_leads rows cols from to row.0 col.0 row.1))

pub after_ascii : (rows cols : ℕ) (known : Option Pos) (from : Pos) (result : Option Pos) (head : List ℕ) →
    known ≡ Some from → IsElement elements.Ascii head → IfSome result (IsAfter cols from (length head)) →
    Replaces rows cols known result head head
after_ascii rows cols known from None head at is after = element_copied rows cols known elements.Ascii head is
after_ascii rows cols known from (Some to) head at is after =
    subst (λ (k : Option Pos). Replaces rows cols k (Some to) head head) (sym at)
    (ascii_copied rows cols from to head is after.row after.column after.inside)

pub after_character : (rows cols c : ℕ) (known : Option Pos) (from : Pos) (result : Option Pos) (head : List ℕ) →
    known ≡ Some from → IsElement (elements.Other c) head →
    IfSome result (λ to. (n : ℕ) × (columns_of c ≡ Some n) × (0 < n) × IsAfter cols from n to) →
    Replaces rows cols known result head head
after_character rows cols c known from None head at is after = element_copied rows cols known (elements.Other c) head is
after_character rows cols c known from (Some to) head at is (n, columns, some, after) =
    subst (λ (k : Option Pos). Replaces rows cols k (Some to) head head) (sym at)
    (other_copied rows cols c n from to head is.0 is.1 columns some (columns_of-le c n columns) after.row after.column
    after.inside)
