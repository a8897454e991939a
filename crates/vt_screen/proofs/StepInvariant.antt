-- Each step preserves the invariant of a screen, part by part.
use Rattle.std.proofs.Common.{◌≡◌, ℕ, zero, suc, ◌+◌, ◌-◌, ◌<◌, ◌≤◌, ◌==◌, min, take, Bool, true, false, not, List, []}
use Rattle.std.proofs.Common.{Option, Some, None, refl, sym, subst, ap, ◌∙◌, arith, ◌≢◌}
use Rattle.std.specs.Prelude.{if◌then◌else◌, IfSome, All, length, map, option_map, ◌^◌}
use Rattle.std.proofs.lemmas.List.{length-map, length-replicate, length-set}
use Rattle.std.proofs.lemmas.List.Elements.{All-take}
use Rattle.std.proofs.lemmas.Bool.{false≢true}
use Rattle.std.specs.Char.{IsScalar}
use Rattle.vt_cells.specs.Attrs.{default_attrs, Attrs}
use Rattle.vt_cells.specs.Cell.{is_right_half}
use Rattle.vt_cells.specs.Glyph.{columns_of}
use Rattle.vt_cells.specs.Op.{FitsAttrs}
use Rattle.vt_rows.specs.Cells.{at}
use Rattle.vt_rows.specs.Row.{RowValue, IsRow, blank_row, resized_row}
use Rattle.vt_grid.specs.Moves.{feeds_out, line_feed, cursor_saved, cursor_restored}
use Rattle.vt_grid.specs.Outgoing.{fed_out, scrolled_out, printed_out, left_by}
use Rattle.vt_grid.specs.Printing.{mark_column, pushes, page_after_print}
use Rattle.vt_grid.specs.Page.{Page, IsPage, blank_page, cursor_row, row_or, SameSize, scrolled_up}
use Rattle.vt_grid.specs.Scrollback.{Scrollback, scrollback_after_clear, no_scrollback, grown_in_view}
use Rattle.vt_grid.specs.Scrollback.{scrollback_after_push, with_view, visible, rows_reported, TakesMemory}
use Rattle.vt_grid.specs.Resize.{leaving_count, out_of_view, page_resized, returning_count, scrollback_resized, window}
use Rattle.vt_grid.specs.PageStep.{page_after}
use Rattle.vt_grid.specs.declared.page_step.PageStep.{PageStep}
use Rattle.vt_grid.proofs.Carries.{page_lifted, page_printed}
use Rattle.vt_grid.proofs.ScrollbackRows.{IsScrollback-pushed, IsScrollback-with_view}
use Rattle.vt_grid.proofs.Pages.{page_blank, IsRow-cursor_row, page_cursor_saved, page_cursor_restored, page_line_feed}
use Rattle.vt_grid.proofs.Pages.{page_scrolled_up}
use Rattle.vt_grid.proofs.Resizing.{length-window, page_page_resized, scrollback_resized_is}
use Rattle.vt_screen.specs.Screen.{IsPrintable}
use Rattle.vt_screen.specs.Internals.{AreColored, Aside, IsAbove, IsKept, IsNothing, IsOther, main_scrollback}
use Rattle.vt_screen.specs.Internals.{alternate_scrollback}
use Rattle.vt_screen.proofs.StepCells.{stable_blank, stable_line_feed, stable_scrolled_up, stable_printed}
use Rattle.vt_screen.proofs.SizePage.{same_back, same_through, same_cursor_saved, same_cursor_restored}
use Rattle.vt_screen.proofs.SizePage.{same_scrolled_up, same_line_feed, same_printed}
use Rattle.vt_screen.proofs.StepScrollback.{stable_page_resized, stable_pushed, stable_scrollback_resized}
use Rattle.vt_screen.proofs.StepScrollback.{stable_viewed, pushed_capacity, grown_nothing, pushed_nothing}
use Rattle.vt_screen.proofs.StepScrollback.{reported_nothing, visible_nothing, coloring}
use Rattle.vt_screen.proofs.SizeCursors.{inside_page, page_page_after, same_page_after, stable_page_after}

-- ==== The parts of a screen besides its active page keep their invariant when that page changes, when rows are pushed
-- into scrollback, and when the pages are exchanged.

-- ---- the active page changes

other_stays : (page new : Page) (other : Option Page) → SameSize new page →
    IfSome other (IsOther page) → IfSome other (IsOther new)
other_stays page new (Some p) s k =
    record { sound = k.sound; colored = k.colored; same = same_through p page new k.same (same_back new page s) }
other_stays page new None s k = k

pub kept_page : (page new : Page) (last : Option ℕ) (aside : Aside) → IsPage new →
    AreColored new.rows → SameSize new page → IsKept page last aside → IsKept new last aside
kept_page page new last aside sound colored same k = record {
  sound = sound;
  colored = colored;
  printable = k.printable;
  other = other_stays page new aside.other same k.other;
  entered = k.entered;
  nothing = k.nothing;
  above = k.above;
}

pub kept_last : (page : Page) (last new : Option ℕ) (aside : Aside) →
    IfSome new IsPrintable → IsKept page last aside → IsKept page new aside
kept_last page last new aside printable k =
    record {
      sound = k.sound;
      colored = k.colored;
      printable = printable;
      other = k.other;
      entered = k.entered;
      nothing = k.nothing;
      above = k.above;
    }

-- ---- scrollback changes

pub nothing_pushed : (height width : ℕ) (gone : List RowValue) (above : Scrollback) →
    IsNothing above → IsNothing (scrollback_after_push height width gone above)
nothing_pushed height width gone above n =
    let p = pushed_nothing height width gone above n.capacity n.rows n.offset in
    record { capacity = pushed_capacity height width gone above ∙ n.capacity; rows = p.0; offset = p.1 }

pub nothing_viewed : (height width n : ℕ) (above : Scrollback) →
    IsNothing above → IsNothing (with_view height width n above)
unfolding with_view grown_in_view
nothing_viewed height width n above k =
    record {
      capacity = k.capacity;
      rows = grown_nothing height width (record above { offset = min n (length above.rows) }) (rw k.rows refl);
      offset = rw k.rows (omega arith);
    }

-- A screen keeps its invariant if a valid scrollback replaces the one above the active page.
pub kept_above : (page : Page) (last : Option ℕ) (aside : Aside) (above : Scrollback)
    → (IsNothing aside.active → IsNothing above) → (IsAbove aside.active → IsAbove above)
    → IsKept page last aside → IsKept page last (record aside { active = above })
kept_above page last aside above f g k = record {
  sound = k.sound;
  colored = k.colored;
  printable = k.printable;
  other = k.other;
  entered = k.entered;
  nothing = nothing_above aside.is_alternate aside.active above aside.idle f k.nothing;
  above = is_above aside.is_alternate aside.active above aside.idle g k.above;
} where
  nothing_above : (b : Bool) (active above idle : Scrollback) → (IsNothing active → IsNothing above) →
      IsNothing (alternate_scrollback b active idle) → IsNothing (alternate_scrollback b above idle)
  nothing_above true active above idle f n = f n
  nothing_above false active above idle f n = n

  is_above : (b : Bool) (active above idle : Scrollback) → (IsAbove active → IsAbove above) →
      IsAbove (main_scrollback b active idle) → IsAbove (main_scrollback b above idle)
  is_above true active above idle g c = c
  is_above false active above idle g c = g c

-- A screen keeps its invariant when rows scroll off the active page.
pub kept_sent : (height : ℕ) (gone : List RowValue) (page : Page) (last : Option ℕ) (aside : Aside) (width : ℕ)
    → All (IsRow width) gone → AreColored gone → IsKept page last aside
    → IsKept page last (record aside { active = scrollback_after_push height width gone aside.active })
kept_sent height gone page last aside width sound colored k =
    kept_above page last aside (scrollback_after_push height width gone aside.active) (nothing_pushed height width gone aside.active)
    (λ a. record {
      sound = IsScrollback-pushed height width gone aside.active sound a.sound;
      colored = stable_pushed coloring height width gone aside.active colored a.colored;
    })
    k

pub above_none : (capacity : ℕ) → IsAbove (no_scrollback capacity)
above_none capacity = record {
  sound = record { kept = omega arith; in_view = omega arith; sound = λ i d h. absurd (omega (arith, h)) };
  colored = λ i d h. absurd (omega (arith, h));
}

pub kept_cleared : (page : Page) (last : Option ℕ) (aside : Aside) → IsKept page last aside →
    IsKept page last (record aside { active = scrollback_after_clear aside.active })
kept_cleared page last aside k =
    kept_above page last aside (scrollback_after_clear aside.active)
    (λ n. record { capacity = n.capacity; rows = refl; offset = refl }) (λ a. above_none aside.active.capacity) k

-- A screen keeps its invariant when the display is scrolled back to different rows.
pub kept_viewed : (height width n : ℕ) (page : Page) (last : Option ℕ) (aside : Aside) →
    IsKept page last aside → IsKept page last (record aside { active = with_view height width n aside.active })
kept_viewed height width n page last aside k =
    kept_above page last aside (with_view height width n aside.active) (nothing_viewed height width n aside.active)
    (λ a. record {
      sound = IsScrollback-with_view height width n aside.active a.sound;
      colored = stable_viewed coloring height width n aside.active a.colored;
    })
    k

pub kept_out_of_view : (page : Page) (last : Option ℕ) (aside : Aside) → IsKept page last aside →
    IsKept page last (record aside { active = out_of_view aside.active })
kept_out_of_view page last aside k =
    kept_above page last aside (out_of_view aside.active)
    (λ n. record { capacity = n.capacity; rows = n.rows; offset = refl })
    (λ a.
    record {
      sound = record { kept = a.sound.kept; in_view = omega arith; sound = a.sound.sound };
      colored = a.colored;
    })
    k

-- ---- the rows that scroll off the active page are rows of that page

rows_where : (width : ℕ) (b : Bool) (rows : List RowValue) →
    All (IsRow width) rows → All (IsRow width) (if b then rows else [])
rows_where width true rows all = all
rows_where width false rows all = λ i d h. absurd (omega (arith, h))

pub rows_fed_out : (page : Page) → IsPage page → All (IsRow page.width) (fed_out page)
rows_fed_out page p =
    rows_where page.width (feeds_out page) (take 1 page.rows) (All-take (IsRow page.width) 1 page.rows p.rows)

pub rows_scrolled_out : (n : ℕ) (page : Page) → IsPage page → All (IsRow page.width) (scrolled_out n page)
rows_scrolled_out n page p =
    rows_where page.width (page.top == 0) (take (min n (page.bottom + 1)) page.rows)
    (All-take (IsRow page.width) (min n (page.bottom + 1)) page.rows p.rows)

before : (b : Bool) (column width : ℕ) → 0 < width → column ≤ width → (if b then column - 2 else column - 1) < width
before true column width h k = omega arith
before false column width h k = omega arith

rows_left : (columns : Option ℕ) (attrs : Attrs) (page : Page) →
    IsPage page → All (IsRow page.width) (left_by columns attrs page).rows
rows_left None attrs page p = p.rows
rows_left (Some (suc n)) attrs page p = p.rows
rows_left (Some zero) attrs page p =
    let k : mark_column page < length (cursor_row page).cells
    = omega (
      arith,
      before (is_right_half (at (cursor_row page).cells (page.column - 1)))
          page.column page.width p.has_columns p.cursor_column,
      (IsRow-cursor_row page p).columns,
    ) in
    (page_lifted (mark_column page) attrs page k p).rows

pub rows_printed_out : (c : ℕ) (attrs : Attrs) (page : Page) →
    IsPage page → All (IsRow page.width) (printed_out c attrs page)
rows_printed_out c attrs page p =
    let left = (left_by (columns_of c) attrs page).rows in
    rows_where page.width (pushes c page) (take 1 left)
    (All-take (IsRow page.width) 1 left (rows_left (columns_of c) attrs page p))

-- ---- the other page

one_other : (page other : Page) (o : Option Page) → o ≡ Some other → IfSome o (IsOther page) → IsOther page other
one_other page other o e k = subst (λ (x : Option Page). IfSome x (IsOther page)) e k

nothing_turned : (b : Bool) (active idle : Scrollback) →
    IsNothing (alternate_scrollback b active idle) → IsNothing (alternate_scrollback (not b) idle active)
nothing_turned true active idle n = n
nothing_turned false active idle n = n

above_turned : (b : Bool) (active idle : Scrollback) →
    IsAbove (main_scrollback b active idle) → IsAbove (main_scrollback (not b) idle active)
above_turned true active idle c = c
above_turned false active idle c = c

-- A screen keeps its invariant when its pages are exchanged.
pub kept_exchanged : (page other : Page) (last : Option ℕ) (aside : Aside)
    → aside.other ≡ Some other → IsKept page last aside
    → IsKept other last
    (record { other = Some page; is_alternate = not aside.is_alternate; active = aside.idle; idle = aside.active })
kept_exchanged page other last aside e k =
    let o = one_other page other aside.other e k.other in
    record {
      sound = o.sound;
      colored = o.colored;
      printable = k.printable;
      other = record { sound = k.sound; colored = k.colored; same = same_back other page o.same };
      entered = λ h. refl;
      nothing = nothing_turned aside.is_alternate aside.active aside.idle k.nothing;
      above = above_turned aside.is_alternate aside.active aside.idle k.above;
    }

-- A fresh page has the size of the page it replaces.
other_fresh : (page : Page) (height width : ℕ) → height ≡ length page.rows →
    width ≡ page.width → IsPage page → IsOther page (blank_page height width)
other_fresh page height width h w p = record {
  sound =
      page_blank height width (omega (arith, h, p.cursor_row)) (rw h p.height) (rw w p.has_columns) (rw w p.columns);
  colored = stable_blank coloring height width;
  same = record { width = w; height = length-replicate height (blank_row default_attrs width) ∙ h };
}

pub kept_other : (page : Page) (last : Option ℕ) (aside : Aside) (height width : ℕ)
    → height ≡ length page.rows → width ≡ page.width → IsKept page last aside
    → IsKept page last (record aside { other = Some (blank_page height width) })
kept_other page last aside height width h w k = record {
  sound = k.sound;
  colored = k.colored;
  printable = k.printable;
  other = other_fresh page height width h w k.sound;
  entered = λ h. refl;
  nothing = k.nothing;
  above = k.above;
}

-- The inactive page has the height of the active one.
pub other_height : (page other : Page) (last : Option ℕ) (aside : Aside) →
    aside.other ≡ Some other → IsKept page last aside → length other.rows ≡ length page.rows
other_height page other last aside e k = (one_other page other aside.other e k.other).same.height

pub other_width : (page other : Page) (last : Option ℕ) (aside : Aside) →
    aside.other ≡ Some other → IsKept page last aside → other.width ≡ page.width
other_width page other last aside e k = (one_other page other aside.other e k.other).same.width

pub kept_fresh : (page : Page) (last : Option ℕ) (aside : Aside) →
    IsKept page last aside → IsKept (blank_page (length page.rows) page.width) last aside
kept_fresh page last aside k =
    let o = other_fresh page (length page.rows) page.width refl refl k.sound in
    kept_page page (blank_page (length page.rows) page.width) last aside o.sound o.colored o.same k

-- ---- the active page's scrollback as that of the screen

-- After rows scroll off the active page, the screen's scrollback has received them if that page is the main page.
pub sent_if : {X : Type 0} (b : Bool) (f : Scrollback → X) (height width : ℕ)
    (gone : List RowValue) (active idle above whole : Scrollback)
    → whole ≡ main_scrollback b active idle → above ≡ scrollback_after_push height width gone active
    → (if b then f whole else f (scrollback_after_push height width gone whole)) ≡ f (main_scrollback b above idle)
sent_if true f height width gone active idle above whole w a = ap f w
sent_if false f height width gone active idle above whole w a =
    ap (λ (s : Scrollback). f (scrollback_after_push height width gone s)) w ∙ ap f (sym a)

pub reported_if : (b : Bool) (gone : List RowValue) (active idle whole : Scrollback)
    → whole ≡ main_scrollback b active idle → IsNothing (alternate_scrollback b active idle)
    → rows_reported gone active ≡ rows_reported gone (if b then no_scrollback 0 else whole)
reported_if true gone active idle whole w n = reported_nothing gone active n.capacity n.rows
reported_if false gone active idle whole w n = ap (rows_reported gone) (sym w)

pub takes_if : (b : Bool) (gone : List RowValue) (active idle whole : Scrollback)
    → whole ≡ main_scrollback b active idle → IsNothing (alternate_scrollback b active idle)
    → TakesMemory gone active → TakesMemory gone (if b then no_scrollback 0 else whole)
takes_if true gone active idle whole w n t = absurd (omega (arith, n.capacity, t.1.0))
takes_if false gone active idle whole w n t = rw w t

pub visible_if : (b : Bool) (rows : List RowValue) (active idle whole : Scrollback)
    → whole ≡ main_scrollback b active idle → IsNothing (alternate_scrollback b active idle)
    → visible active rows ≡ visible (if b then no_scrollback 0 else whole) rows
visible_if true rows active idle whole w n = visible_nothing rows active n.rows n.offset
visible_if false rows active idle whole w n = ap (λ (s : Scrollback). visible s rows) (sym w)

-- ---- resizing

pub height_resized : (height width : ℕ) (above : Scrollback) (page : Page) →
    length (page_resized height width above page).rows ≡ height
unfolding page_resized
height_resized height width above page =
    let down = leaving_count height page in
    let up = returning_count height above page in
    let rows = window page.width height down up above.rows page.rows in
    let cut = map (resized_row width) rows in
    length-set cut (length rows - 1) (record (row_or width cut (length rows - 1)) { wrapped = false })
    ∙ (length-map rows (resized_row width) ∙ length-window page.width height down up above.rows page.rows)

width_resized : (height width : ℕ) (above : Scrollback) (page : Page) →
    (page_resized height width above page).width ≡ width
unfolding page_resized
width_resized height width above page = refl

pub same_resized : (height width : ℕ) (above beyond : Scrollback) (page other : Page) →
    SameSize (page_resized height width above page) (page_resized height width beyond other)
same_resized height width above beyond page other = record {
  width = width_resized height width above page ∙ sym (width_resized height width beyond other);
  height = height_resized height width above page ∙ sym (height_resized height width beyond other);
}

other_resized : (height width : ℕ) (above : Scrollback) (page : Page) (other : Option Page)
    → 0 < height → height < 2 ^ 16 → 0 < width → width < 2 ^ 16 → IfSome other (IsOther page)
    → IfSome (option_map (page_resized height width (no_scrollback 0)) other)
    (IsOther (page_resized height width above page))
other_resized height width above page None a b c d k = k
other_resized height width above page (Some p) a b c d k = record {
  sound = page_page_resized height width (no_scrollback 0) p k.sound (above_none 0).sound a b c d;
  colored = stable_page_resized coloring height width (no_scrollback 0) p (above_none 0).colored k.colored;
  same = same_resized height width (no_scrollback 0) above p page;
}

main_if : (b : Bool) (active idle : Scrollback) → b ≡ false → IsAbove (main_scrollback b active idle) → IsAbove active
main_if true active idle e k = absurd (false≢true (sym e))
main_if false active idle e k = k

main_back : (b : Bool) (active idle : Scrollback) → b ≡ false → IsAbove active → IsAbove (main_scrollback b active idle)
main_back true active idle e k = absurd (false≢true (sym e))
main_back false active idle e k = k

nothing_back : (b : Bool) (active idle : Scrollback) → b ≡ false →
    IsNothing idle → IsNothing (alternate_scrollback b active idle)
nothing_back true active idle e k = absurd (false≢true (sym e))
nothing_back false active idle e k = k

pub kept_resized : (height width : ℕ) (page : Page) (last : Option ℕ) (aside : Aside) (idle : Scrollback)
    → 0 < height → height < 2 ^ 16 → 0 < width → width < 2 ^ 16
    → aside.is_alternate ≡ false → IsNothing idle → IsKept page last aside
    → IsKept (page_resized height width aside.active page) last
    (record {
      other = option_map (page_resized height width (no_scrollback 0)) aside.other;
      is_alternate = aside.is_alternate;
      active = scrollback_resized height page aside.active;
      idle = idle;
    })
kept_resized height width page last aside idle a b c d main n k =
    let above = main_if aside.is_alternate aside.active aside.idle main k.above in
    record {
      sound = page_page_resized height width aside.active page k.sound above.sound a b c d;
      colored = stable_page_resized coloring height width aside.active page above.colored k.colored;
      printable = k.printable;
      other = other_resized height width aside.active page aside.other a b c d k.other;
      entered = λ e. absurd (false≢true (sym main ∙ e));
      nothing = nothing_back aside.is_alternate (scrollback_resized height page aside.active) idle main n;
      above = main_back aside.is_alternate (scrollback_resized height page aside.active) idle main
          (record {
            sound = scrollback_resized_is height page aside.active k.sound above.sound;
            colored = stable_scrollback_resized coloring height page aside.active k.colored above.colored;
          });
    }

-- ==== Each step preserves the invariant of a screen.

-- A fresh screen satisfies the invariant of screens.
pub kept_blank : (height width capacity : ℕ) → 0 < height → height < 2 ^ 16 → 0 < width → width < 2 ^ 16
    → IsKept (blank_page height width) None
    (record { other = None; is_alternate = false; active = no_scrollback capacity; idle = no_scrollback 0 })
kept_blank height width capacity a b c d = record {
  sound = page_blank height width a b c d;
  colored = stable_blank coloring height width;
  printable = tt;
  other = tt;
  entered = λ e. cc;
  nothing = record { capacity = refl; rows = refl; offset = refl };
  above = above_none capacity;
}

pub kept_page_after : (attrs : Attrs) (step : PageStep) (page : Page) (last : Option ℕ) (aside : Aside) →
    FitsAttrs attrs → IsKept page last aside → IsKept (page_after attrs step page) last aside
kept_page_after attrs step page last aside h k =
    kept_page page (page_after attrs step page) last aside (page_page_after attrs step page k.sound)
    (stable_page_after coloring attrs step page h k.colored)
    (same_page_after attrs step page (inside_page page k.sound)) k

pub kept_fed : (page : Page) (last : Option ℕ) (aside : Aside) →
    IsKept page last aside → IsKept (line_feed page) last aside
kept_fed page last aside k =
    kept_page page (line_feed page) last aside (page_line_feed page k.sound) (stable_line_feed coloring page k.colored)
    (same_line_feed page) k

pub kept_scrolled_up : (n : ℕ) (page : Page) (last : Option ℕ) (aside : Aside) →
    IsKept page last aside → IsKept (scrolled_up n page) last aside
kept_scrolled_up n page last aside k =
    kept_page page (scrolled_up n page) last aside (page_scrolled_up n page k.sound)
    (stable_scrolled_up coloring n page k.colored) (same_scrolled_up n page) k

pub kept_printed : (c : ℕ) (attrs : Attrs) (page : Page) (last new : Option ℕ) (aside : Aside) →
    IsScalar c → c ≢ 0xFFFD → IfSome new IsPrintable → FitsAttrs attrs →
    IsKept page last aside → IsKept (page_after_print c attrs page) new aside
kept_printed c attrs page last new aside scalar other printable h k =
    kept_last (page_after_print c attrs page) last new aside printable
    (kept_page page (page_after_print c attrs page) last aside (page_printed c attrs page scalar other k.sound)
    (stable_printed coloring c attrs page tt h k.colored) (same_printed c attrs page) k)

pub kept_saved : (page : Page) (last : Option ℕ) (aside : Aside) →
    IsKept page last aside → IsKept (cursor_saved page) last aside
kept_saved page last aside k =
    kept_page page (cursor_saved page) last aside (page_cursor_saved page k.sound) k.colored (same_cursor_saved page) k

pub kept_restored : (page : Page) (last : Option ℕ) (aside : Aside) →
    IsKept page last aside → IsKept (cursor_restored page) last aside
kept_restored page last aside k =
    kept_page page (cursor_restored page) last aside
    (page_cursor_restored page k.sound) k.colored (same_cursor_restored page) k

-- A screen that has only one page satisfies the invariant of screens.
pub kept_alone : (page : Page) (last : Option ℕ) (aside : Aside) → IsKept page last aside
    → IsKept page last
    (record { other = None; is_alternate = false; active = no_scrollback 0; idle = no_scrollback 0 })
kept_alone page last aside k = record {
  sound = k.sound;
  colored = k.colored;
  printable = k.printable;
  other = tt;
  entered = λ e. cc;
  nothing = record { capacity = refl; rows = refl; offset = refl };
  above = above_none 0;
}
