-- Runs keep the size of a screen; a resize sets it.
use Rattle.std.proofs.Common.{◌≡◌, ℕ, ◌<◌, Bool, true, false, length, refl, sym, subst, ◌∙◌, arith, ◌^◌, take, ap}
use Rattle.std.specs.Prelude.{IfSome, Option, Some, None, option_map, unwrap_or, if◌then◌else◌, IsSome}
use Rattle.std.proofs.lemmas.List.{length-replicate}
use Rattle.std.proofs.lemmas.Bool.{cond_both}
use Rattle.std.proofs.lemmas.Bool.Decides.{nat_tests}
use Rattle.vt_cells.specs.Attrs.{default_attrs}
use Rattle.vt_rows.specs.Row.{blank_row}
use Rattle.vt_grid.specs.Page.{Page, SameSize, IsPage, blank_page, IsPlainPage}
use Rattle.vt_grid.specs.Resize.{out_of_view, leaving_count, page_resized, scrollback_resized}
use Rattle.vt_grid.specs.Scrollback.{scrollback_after_push, scrollback_after_clear, IsScrollback, Scrollback}
use Rattle.vt_grid.specs.Scrollback.{no_scrollback}
use Rattle.vt_grid.proofs.Pages.{page_blank}
use Rattle.vt_grid.proofs.Resizing.{offset-pushed, page_page_resized, scrollback_resized_is}
use Rattle.vt_screen.specs.Pages.{fresh_page, page_aside, screen_after_enter, entered_fresh, left_alternate}
use Rattle.vt_screen.specs.Pages.{screen_after_save, screen_after_restore, screen_after_reset, above_aside, has_size}
use Rattle.vt_screen.specs.Pages.{main_page, screen_after_resize}
use Rattle.vt_screen.specs.Screen.{ScreenValue, IsScreen, above_page}
use Rattle.vt_screen.specs.Steps.{Step, Print, LineFeed, ScrollUp, OnPage, SaveCursor, RestoreCursor, EnterAlternate}
use Rattle.vt_screen.specs.Steps.{EnterFresh, LeaveAlternate, LeaveRestoring, Reset, EraseScrollback, Render}
use Rattle.vt_screen.specs.Steps.{HideCursor, SetMode, CallBack, rows_scrolled_off, screen_after_scrolling_step}
use Rattle.vt_screen.specs.Steps.{display_after, screen_after}
use Rattle.vt_screen.specs.Run as act
use Rattle.vt_screen.specs.Run.{CallRelation, Scrolls, Takes, state}
use Rattle.vt_screen.specs.CallsOfRun.{LeavesScreen}
use Rattle.vt_screen.specs.Shown.{IsPlain}
use Rattle.vt_screen.proofs.SizeCursors.{inside_page_after, same_page_after, IsInside, inside_page, inside_cursor_saved}
use Rattle.vt_screen.proofs.SizeCursors.{inside_cursor_restored, inside_line_feed, inside_scrolled_up, inside_printed}
use Rattle.vt_screen.proofs.SizePage.{same_cursor_saved, same_cursor_restored, same_line_feed, same_scrolled_up}
use Rattle.vt_screen.proofs.SizePage.{same_printed}
use Rattle.vt_screen.proofs.StepInvariant.{above_none, height_resized, same_resized}
pub use Rattle.vt_screen.specs.Internals.{IsSized, IsSizedPage}

-- ==== Steps keep the size of a screen.

-- A step on the active page keeps the size of both pages.
paged : (height width : ℕ) (screen after : ScreenValue) → after.other ≡ screen.other →
    SameSize after.page screen.page → IsInside after.page → IsSized height width screen → IsSized height width after
paged height width screen after o s i z = record {
  page = record { inside = i; width_is = s.width ∙ z.page.width_is; height_is = s.height ∙ z.page.height_is };
  other = subst (λ (p : Option Page). IfSome p (IsSizedPage height width)) (sym o) z.other;
}

blank_sized : (height width : ℕ) → 0 < height → IsSizedPage height width (blank_page height width)
blank_sized height width h =
    let e = length-replicate height (blank_row default_attrs width) in
    record {
      inside = record { row = omega (arith, e, h); saved_row = omega (arith, e, h); bottom = omega (arith, e, h) };
      width_is = refl;
      height_is = e;
    }

tall : (height width : ℕ) (page : Page) → IsSizedPage height width page → 0 < height
tall height width page z = omega (arith, z.height_is, z.inside.row)

fresh_sized : (height width : ℕ) (screen : ScreenValue) →
    IsSized height width screen → IsSizedPage height width (fresh_page screen)
fresh_sized height width screen z =
    subst (λ (h : ℕ). IsSizedPage height width (blank_page h screen.page.width)) (sym z.page.height_is)
    (subst (λ (w : ℕ). IsSizedPage height width (blank_page height w))
    (sym z.page.width_is) (blank_sized height width (tall height width screen.page z.page)))

aside_sized : (height width : ℕ) (screen : ScreenValue) →
    IsSized height width screen → IsSizedPage height width (page_aside screen)
aside_sized height width screen z = by_other screen.other z.other where
  by_other : (o : Option Page) → IfSome o (IsSizedPage height width) →
      IsSizedPage height width (unwrap_or o (fresh_page screen))
  by_other (Some page) p = p
  by_other None p = fresh_sized height width screen z

sized_if : (height width : ℕ) (b : Bool) (x y : ScreenValue) → IsSized height width x →
    IsSized height width y → IsSized height width (if b then x else y)
sized_if height width true x y p q = p
sized_if height width false x y p q = q

sized_entered : (height width : ℕ) (screen : ScreenValue) →
    IsSized height width screen → IsSized height width (screen_after_enter screen)
sized_entered height width screen z = by_page screen.is_alternate where
  by_page : (b : Bool) →
      IsSized height width (if b then screen
      else record screen {
        page = page_aside screen;
        other = Some screen.page;
        is_alternate = true;
        scrollback = out_of_view screen.scrollback;
      })
  by_page true = z
  by_page false = record { page = aside_sized height width screen z; other = z.page }

sized_left : (height width : ℕ) (screen : ScreenValue) →
    IsSized height width screen → IsSized height width (left_alternate screen)
sized_left height width screen z = by_page screen.is_alternate where
  by_page : (b : Bool) →
      IsSized height width
      (if b then record screen { page = page_aside screen; other = Some screen.page; is_alternate = false } else screen)
  by_page true = record { page = aside_sized height width screen z; other = z.page }
  by_page false = z

sized_saved : (height width : ℕ) (screen : ScreenValue) →
    IsSized height width screen → IsSized height width (screen_after_save screen)
sized_saved height width screen z =
    paged height width screen (screen_after_save screen) refl (same_cursor_saved screen.page)
    (inside_cursor_saved screen.page z.page.inside) z

sized_restored : (height width : ℕ) (screen : ScreenValue) →
    IsSized height width screen → IsSized height width (screen_after_restore screen)
sized_restored height width screen z =
    paged height width screen (screen_after_restore screen) refl (same_cursor_restored screen.page)
    (inside_cursor_restored screen.page z.page.inside) z

sized_entered_fresh : (height width : ℕ) (screen : ScreenValue) →
    IsSized height width screen → IsSized height width (entered_fresh screen)
sized_entered_fresh height width screen z =
    let in_it = sized_entered height width (screen_after_save screen) (sized_saved height width screen z) in
    record { page = fresh_sized height width screen z; other = in_it.other }

sized_reset : (height width : ℕ) (screen : ScreenValue) →
    IsSized height width screen → IsSized height width (screen_after_reset screen)
sized_reset height width screen z =
    record { page = fresh_sized height width screen z; other = by_other screen.other } where
      by_other : (o : Option Page) → IfSome (option_map (λ _. fresh_page screen) o) (IsSizedPage height width)
      by_other (Some page) = fresh_sized height width screen z
      by_other None = tt

pub sized_stepped : (height width : ℕ) (step : Step) (screen : ScreenValue) →
    IsSized height width screen → IsSized height width (display_after step screen)
sized_stepped height width (Print c) screen z =
    paged height width screen (display_after (Print c) screen) refl (same_printed c screen.attrs screen.page)
    (inside_printed c screen.attrs screen.page z.page.inside) z
sized_stepped height width (OnPage x) screen z =
    paged height width screen (display_after (OnPage x) screen) refl
    (same_page_after screen.attrs x screen.page z.page.inside)
    (inside_page_after screen.attrs x screen.page z.page.inside) z
sized_stepped height width LineFeed screen z =
    paged height width screen (display_after LineFeed screen) refl
    (same_line_feed screen.page) (inside_line_feed screen.page z.page.inside) z
sized_stepped height width SaveCursor screen z = sized_saved height width screen z
sized_stepped height width RestoreCursor screen z = sized_restored height width screen z
sized_stepped height width EnterAlternate screen z = sized_entered height width screen z
sized_stepped height width EnterFresh screen z = sized_entered_fresh height width screen z
sized_stepped height width LeaveAlternate screen z = sized_left height width screen z
sized_stepped height width LeaveRestoring screen z =
    sized_restored height width (left_alternate screen) (sized_left height width screen z)
sized_stepped height width Reset screen z = sized_reset height width screen z
sized_stepped height width EraseScrollback screen z = z
sized_stepped height width (ScrollUp n) screen z =
    paged height width screen (display_after (ScrollUp n) screen) refl
    (same_scrolled_up n screen.page) (inside_scrolled_up n screen.page z.page.inside) z
sized_stepped height width (Render setting) screen z = record { page = z.page; other = z.other }
sized_stepped height width (HideCursor hidden) screen z = record { page = z.page; other = z.other }
sized_stepped height width (SetMode x) screen z = record { page = z.page; other = z.other }
sized_stepped height width (CallBack call) screen z = z

pub sized_sent : (height width : ℕ) (step : Step) (screen : ScreenValue) →
    IsSized height width screen → IsSized height width (screen_after_scrolling_step step screen)
sized_sent height width step screen z = by_page screen.is_alternate where
  by_page : (b : Bool) →
      IsSized height width (if b then display_after step screen
      else record (display_after step screen)
      { scrollback = scrollback_after_push (length screen.page.rows) screen.page.width (rows_scrolled_off step screen) screen.scrollback })
  by_page true = sized_stepped height width step screen z
  by_page false = let s = sized_stepped height width step screen z in record { page = s.page; other = s.other }

-- All pages of a valid screen have the same size.
pub sized_screen : (screen : ScreenValue) → IsScreen screen → IsSized (length screen.page.rows) screen.page.width screen
sized_screen screen is = record {
  page = of_page screen.page (is.page) refl refl;
  other = by_other screen.other is.other;
} where
  of_page : (page : Page) → IsPage page → page.width ≡ screen.page.width →
      length page.rows ≡ length screen.page.rows → IsSizedPage (length screen.page.rows) screen.page.width page
  of_page page p w h = record {
    inside = inside_page page p;
    width_is = w;
    height_is = h;
  }

  by_other : (o : Option Page) → IfSome o (λ page. IsPage page × SameSize page screen.page) →
      IfSome o (IsSizedPage (length screen.page.rows) screen.page.width)
  by_other (Some page) p = of_page page p.0 p.1.width p.1.height
  by_other None p = tt

-- ==== A step keeps the size of a screen, whatever callbacks are invoked.

module _ {S : Type 0} (does : CallRelation S) (leaves : LeavesScreen does) (height width : ℕ) where
  scrolls : (step : Step) (a b : act.State S) → Scrolls does a step b →
      IsSized height width (screen_after step a.screen) → IsSized height width b.screen
  scrolls step a b t z = subst (IsSized height width) (sym t.screen) z

  steps : (step : Step) (a b : act.State S) → b ≡ state a.callbacks (display_after step a.screen) →
      IsSized height width a.screen → IsSized height width b.screen
  steps step a b e z =
      subst (λ (s : act.State S). IsSized height width s.screen) (sym e) (sized_stepped height width step a.screen z)

  -- Callbacks that leave the screen unchanged keep its size.
  pub sized_taken : (step : Step) (a b : act.State S) → IsSized height width a.screen →
      Takes does a step b → IsSized height width b.screen
  sized_taken (Print c) a b z t = scrolls (Print c) a b t (sized_sent height width (Print c) a.screen z)
  sized_taken (OnPage x) a b z t = steps (OnPage x) a b t z
  sized_taken LineFeed a b z t = scrolls LineFeed a b t (sized_sent height width LineFeed a.screen z)
  sized_taken SaveCursor a b z t = steps SaveCursor a b t z
  sized_taken RestoreCursor a b z t = steps RestoreCursor a b t z
  sized_taken EnterAlternate a b z t = steps EnterAlternate a b t z
  sized_taken EnterFresh a b z t = steps EnterFresh a b t z
  sized_taken LeaveAlternate a b z t = steps LeaveAlternate a b t z
  sized_taken LeaveRestoring a b z t = steps LeaveRestoring a b t z
  sized_taken Reset a b z t = steps Reset a b t z
  sized_taken EraseScrollback a b z t = scrolls EraseScrollback a b t
      (cond_both a.screen.is_alternate a.screen (record (a.screen) { scrollback = scrollback_after_clear a.screen.scrollback })
      (IsSized height width) (λ _. z) (λ _. record { page = z.page; other = z.other }))
  sized_taken (ScrollUp n) a b z t = scrolls (ScrollUp n) a b t (sized_sent height width (ScrollUp n) a.screen z)
  sized_taken (Render setting) a b z t = steps (Render setting) a b t z
  sized_taken (HideCursor hidden) a b z t = steps (HideCursor hidden) a b t z
  sized_taken (SetMode x) a b z t = steps (SetMode x) a b t z
  sized_taken (CallBack call) a b z t =
      subst (IsSized height width) (sym (leaves call a.callbacks b.callbacks a.screen b.screen t)) z

-- ==== A resized screen has the new size, and is plain if it was plain.

plain_page : (rows cols : ℕ) (above : Scrollback) (page : Page) → 0 < rows →
    page.origin ≡ false → IsPlainPage (page_resized rows cols above page)
unfolding page_resized
plain_page rows cols above page some origin =
    let tall = height_resized rows cols above page in
    record { whole = (refl, omega (arith, tall, some)); origin = origin }

pub width_is : (rows cols : ℕ) (above : Scrollback) (page : Page) → (page_resized rows cols above page).width ≡ cols
unfolding page_resized
width_is rows cols above page = refl

none_in_view : (rows : ℕ) (page : Page) (above : Scrollback) → (scrollback_resized rows page above).offset ≡ 0
unfolding scrollback_resized
none_in_view rows page above = offset-pushed (length page.rows) page.width (take (leaving_count rows page) page.rows) above

above_resized : (b : Bool) (above : Scrollback) → above.offset ≡ 0 → (if b then no_scrollback 0 else above).offset ≡ 0
above_resized true above e = refl
above_resized false above e = e

-- The screen after it is resized to a size other than its own.
abbrev other_size : (rows cols : ℕ) → ScreenValue → ScreenValue
other_size rows cols screen = record screen {
  page = page_resized rows cols (above_page screen) screen.page;
  other = option_map (page_resized rows cols (above_aside screen)) screen.other;
  scrollback = scrollback_resized rows (main_page screen) screen.scrollback;
}

-- A statement about a resized screen holds if it holds for the unchanged screen and for a screen of a different size.
by_size : (P : ScreenValue → Type 0) (rows cols : ℕ) (screen : ScreenValue)
    → (length screen.page.rows ≡ rows → screen.page.width ≡ cols → P screen)
    → ((new : ScreenValue) → new.page ≡ page_resized rows cols (above_page screen) screen.page
    → (above_page new).offset ≡ 0 → P new)
    → P (screen_after_resize rows cols screen)
by_size P rows cols screen same other = by_test (has_size rows cols screen) refl where
  by_test : (b : Bool) → has_size rows cols screen ≡ b → P (if b then screen else other_size rows cols screen)
  by_test true e = same (grind (arith, nat_tests, e)) (grind (arith, nat_tests, e))
  by_test false e = other (other_size rows cols screen) refl
      (above_resized screen.is_alternate (scrollback_resized rows (main_page screen) screen.scrollback)
      (none_in_view rows (main_page screen) screen.scrollback))

pub resized_plain : (rows cols : ℕ) (screen : ScreenValue) →
    0 < rows → IsPlain screen → IsPlain (screen_after_resize rows cols screen)
resized_plain rows cols screen some plain =
    by_size IsPlain rows cols screen (λ _ _. plain)
    (λ (new : ScreenValue) page offset.
    record {
      page = subst IsPlainPage (sym page) (plain_page rows cols (above_page screen) screen.page some plain.page.origin);
      offset = offset;
    })

pub resized_size : (rows cols : ℕ) (screen : ScreenValue) →
    ((screen_after_resize rows cols screen).page.width ≡ cols) × (length (screen_after_resize rows cols screen).page.rows ≡ rows)
resized_size rows cols screen =
    by_size (λ (new : ScreenValue). (new.page.width ≡ cols) × (length new.page.rows ≡ rows))
    rows cols screen (λ tall wide. (wide, tall))
    (λ (new : ScreenValue) page offset. (
      ap (λ (p : Page). p.width) page ∙ width_is rows cols (above_page screen) screen.page,
      ap (λ (p : Page). length p.rows) page ∙ height_resized rows cols (above_page screen) screen.page,
    ))

-- ---- a resized screen has the invariant of a screen

above_is : (screen : ScreenValue) → IsScreen screen → IsScrollback (above_page screen)
above_is screen is = by_test screen.is_alternate where
  by_test : (b : Bool) → IsScrollback (if b then no_scrollback 0 else screen.scrollback)
  by_test true = (above_none 0).sound
  by_test false = is.scrollback

aside_is : (screen : ScreenValue) → IsScreen screen → IsScrollback (above_aside screen)
aside_is screen is = by_test screen.is_alternate where
  by_test : (b : Bool) → IsScrollback (if b then screen.scrollback else no_scrollback 0)
  by_test true = is.scrollback
  by_test false = (above_none 0).sound

main_is : (screen : ScreenValue) → IsScreen screen → IsPage (main_page screen)
main_is screen is = by_test screen.is_alternate where
  by_other : (o : Option Page) → IfSome o (λ page. IsPage page × SameSize page screen.page)
      → IsPage (unwrap_or o (fresh_page screen))
  by_other (Some page) p = p.0
  by_other None p =
      let page = is.page in
      page_blank (length screen.page.rows) screen.page.width
      (omega (arith, page.cursor_row)) page.height page.has_columns page.columns

  by_test : (b : Bool) → IsPage (if b then page_aside screen else screen.page)
  by_test true = by_other screen.other is.other
  by_test false = is.page

other_is : (rows cols : ℕ) (above beyond : Scrollback) (page : Page) (other : Option Page)
    → 0 < rows → rows < 2 ^ 16 → 0 < cols → cols < 2 ^ 16
    → IsScrollback beyond → IfSome other (λ p. IsPage p × SameSize p page)
    → IfSome (option_map (page_resized rows cols beyond) other)
    (λ p. IsPage p × SameSize p (page_resized rows cols above page))
other_is rows cols above beyond page None a b c d s k = k
other_is rows cols above beyond page (Some p) a b c d s k =
    (page_page_resized rows cols beyond p k.0 s a b c d, same_resized rows cols beyond above p page)

still_some : (f : Page → Page) (other : Option Page) → IsSome other → IsSome (option_map f other)
still_some f None s = s
still_some f (Some page) s = s

pub resized_is : (rows cols : ℕ) (screen : ScreenValue) → 0 < rows → rows < 2 ^ 16 → 0 < cols → cols < 2 ^ 16
    → IsScreen screen → IsScreen (screen_after_resize rows cols screen)
resized_is rows cols screen a b c d is = by_test (has_size rows cols screen) where
  by_test : (b : Bool) → IsScreen (if b then screen else other_size rows cols screen)
  by_test true = is
  by_test false = record {
    page = page_page_resized rows cols (above_page screen) screen.page is.page (above_is screen is) a b c d;
    other =
        other_is rows cols (above_page screen) (above_aside screen)
        screen.page screen.other a b c d (aside_is screen is) is.other;
    entered = λ e. still_some (page_resized rows cols (above_aside screen)) screen.other (is.entered e);
    scrollback = scrollback_resized_is rows (main_page screen) screen.scrollback (main_is screen is) is.scrollback;
    last = is.last;
  }
