-- Switching pages, resetting and resizing, composed of the parts that the code performs.
use Rattle.std.proofs.Common.{◌≡◌, ℕ, Bool, true, false, length, Option, Some, None, refl, sym, ap, ◌∙◌, ◌-◌, ◌<◌, ◌≤◌}
use Rattle.std.proofs.Common.{◌^◌, List, [], ◌++◌, map, arith, take, subst}
use Rattle.std.specs.Prelude.{IfSome, IsSome, option_map, unwrap_or, Result, Ok, Err, OnOk, is_ok}
use Rattle.std.proofs.lemmas.Bool.{false≢true}
use Rattle.std.proofs.lemmas.List.{length-replicate}
use Rattle.std.specs.List.{FoldsTo}
use Rattle.std.proofs.Math.Seq.{take-nil}
use Rattle.vt_cells.specs.Attrs.{default_attrs}
use Rattle.vt_rows.specs.Row.{blank_row, RowValue}
use Rattle.vt_rows.proofs.RowTexts.{folds_then}
use Rattle.vt_grid.specs.Page.{Page, IsPage, blank_page, SameSize}
use Rattle.vt_grid.specs.Scrollback.{Scrollback, scrollback_after_clear, no_scrollback, scrollback_after_push}
use Rattle.vt_grid.specs.Scrollback.{rows_reported}
use Rattle.vt_grid.specs.Moves.{cursor_saved}
use Rattle.vt_grid.specs.Resize.{out_of_view, leaving_count, page_resized, resize_reports, returning_count}
use Rattle.vt_grid.specs.Resize.{scrollback_resized, taken_back}
use Rattle.vt_grid.proofs.Resizing.{fresh_height, fresh_width}
use Rattle.vt_screen.specs.Internals.{main_scrollback, with_other, with_fresh_other, with_fresh_page, Aside, IsKept}
use Rattle.vt_screen.specs.Internals.{IsNothing, IsOther, pages_resized, reports_of_pages}
use Rattle.vt_screen.specs.Pages.{screen_after_enter, entered_fresh, fresh_page, left_alternate, page_aside}
use Rattle.vt_screen.specs.Pages.{screen_after_reset, screen_after_save, reports_of}
use Rattle.vt_screen.specs.Screen.{ScreenValue, IsScreen, no_modes}
use Rattle.vt_screen.specs.Calls.{OnScroll}
use Rattle.vt_screen.specs.Run.{CallRelation, CalledOnScroll, CalledOnAnyScreen}
use Rattle.vt_screen.specs.CallsOfRun.{TakesCalls}
use Rattle.vt_screen.proofs.StepInvariant.{kept_resized, nothing_pushed}
use Rattle.vt_screen.proofs.CallsReported.{called_rows}

-- ==== Switching pages and resetting the screen, composed of the steps that the code performs.

-- ---- the inactive page

is_there : (o : Option Page) (d : Page) → IsSome o → Some (unwrap_or o d) ≡ o
is_there (Some p) d h = refl
is_there None d h = absurd (false≢true h)

aside_size : (o : Option Page) (page d : Page) →
    IfSome o (λ p. IsPage p × SameSize p page) → IsSome o → SameSize (unwrap_or o d) page
aside_size (Some p) page d s h = s.1
aside_size None page d s h = absurd (false≢true h)

aside_or : (o : Option Page) (page d : Page) → IfSome o (λ p. IsPage p × SameSize p page) →
    SameSize d page → SameSize (unwrap_or o d) page
aside_or (Some p) page d s h = s.1
aside_or None page d s h = h

same_fresh : (p q : Page) → SameSize p q → blank_page (length p.rows) p.width ≡ blank_page (length q.rows) q.width
same_fresh p q s = ap (λ (n : ℕ). blank_page n p.width) s.height ∙ ap (λ (n : ℕ). blank_page (length q.rows) n) s.width

fresh_size : (page : Page) → SameSize (blank_page (length page.rows) page.width) page
fresh_size page =
    record { width = refl; height = length-replicate (length page.rows) (blank_row default_attrs page.width) }

-- ---- switching to the alternate page

entered_if : (b : Bool) (s : ScreenValue) → s.is_alternate ≡ b →
    (b ≡ true → IsSome s.other) → screen_after_enter (with_other s) ≡ screen_after_enter s
entered_if true s e h =
    rw e
    (ap (λ (o : Option Page). record s { other = o; is_alternate = true }) (is_there s.other (fresh_page s) (h refl)))
entered_if false s e h = rw e refl

pub entered_with : (s : ScreenValue) → IsScreen s → screen_after_enter (with_other s) ≡ screen_after_enter s
entered_with s i = entered_if s.is_alternate s refl i.entered

-- The screen whose alternate page is active, but with the page that was active before.
abbrev entered_as : ScreenValue → ScreenValue
entered_as s =
    record (screen_after_save s) { other = Some (cursor_saved s.page); is_alternate = true; scrollback = out_of_view s.scrollback }

fresh_if : (b : Bool) (s : ScreenValue) → s.is_alternate ≡ b → (b ≡ true → IsSome s.other) →
    IsScreen s → with_fresh_page (screen_after_enter (screen_after_save (with_other s))) ≡ entered_fresh s
fresh_if true s e h i =
    rw e (ap (λ (o : Option Page). record (screen_after_save s) { page = fresh_page s; other = o; is_alternate = true })
    (is_there s.other (fresh_page s) (h refl)))
fresh_if false s e h i =
    let same = same_fresh (page_aside s) s.page (aside_or s.other s.page (fresh_page s) i.other (fresh_size s.page)) in
    rw e (ap (λ (page : Page). record (entered_as s) { page = page }) same)

pub entered_fresh_with : (s : ScreenValue) → IsScreen s →
    with_fresh_page (screen_after_enter (screen_after_save (with_other s))) ≡ entered_fresh s
entered_fresh_with s i = fresh_if s.is_alternate s refl i.entered i

-- ---- resetting

-- The screen `l` has the properties of the screen `s` after it switched to the main page.
record IsLeft (s l : ScreenValue) : Type 0 where
  main : l.is_alternate ≡ false
  size : fresh_page l ≡ fresh_page s
  above : l.scrollback ≡ s.scrollback
  other : (page : Page) → option_map (λ _. page) l.other ≡ option_map (λ _. page) s.other

made : (o : Option Page) (page : Page) → IsSome o → Some page ≡ option_map (λ _. page) o
made (Some p) page h = refl
made None page h = absurd (false≢true h)

left_if : (b : Bool) (s : ScreenValue) → s.is_alternate ≡ b →
    (b ≡ true → IsSome s.other) → IsScreen s → IsLeft s (left_alternate s)
left_if true s e h i = record {
  main = rw e refl;
  size = rw e (same_fresh (page_aside s) s.page (aside_size s.other s.page (fresh_page s) i.other (h refl)));
  above = rw e refl;
  other = λ page. rw e (made s.other page (h refl));
}
left_if false s e h i = record { main = rw e refl; size = rw e refl; above = rw e refl; other = λ page. rw e refl }

-- A reset screen with the given pages and scrollback capacity.
abbrev renewed : (s : ScreenValue) (page : Page) (other : Option Page) (capacity : ℕ) → ScreenValue
renewed s page other capacity = record {
  page = page;
  other = other;
  is_alternate = false;
  scrollback = no_scrollback capacity;
  attrs = default_attrs;
  saved_attrs = default_attrs;
  hidden = false;
  modes = no_modes;
  last = None;
}

pub reset_is : (s v : ScreenValue) (active idle above : Scrollback)
    → IsScreen s → v ≡ with_fresh_page (with_fresh_other (left_alternate s))
    → v.scrollback ≡ main_scrollback v.is_alternate active idle → above ≡ scrollback_after_clear active
    → record {
      page = v.page;
      other = v.other;
      is_alternate = v.is_alternate;
      scrollback = main_scrollback v.is_alternate above idle;
      attrs = default_attrs;
      saved_attrs = default_attrs;
      hidden = false;
      modes = no_modes;
      last = None;
    } ≡ screen_after_reset s
reset_is s v active idle above i e w a =
    let l = left_if s.is_alternate s refl i.entered i in
    let fresh : with_fresh_page (with_fresh_other (left_alternate s))
    ≡ record (left_alternate s) { page = fresh_page s; other = option_map (λ _. fresh_page s) s.other }
    = ap (λ (p : Page). record (left_alternate s) { page = p; other = option_map (λ _. p) (left_alternate s).other }) l.size
    ∙ ap (λ (o : Option Page). record (left_alternate s) { page = fresh_page s; other = o }) (l.other (fresh_page s)) in
    let whole = e ∙ fresh in
    let main : v.is_alternate ≡ false = ap (λ (x : ScreenValue). x.is_alternate) whole ∙ l.main in
    let kept : s.scrollback ≡ active =
    sym (ap (λ (x : ScreenValue). x.scrollback) whole ∙ l.above)
    ∙ (w ∙ ap (λ (b : Bool). main_scrollback b active idle) main) in
    rw main (rw a (
    ap (λ (p : Page). renewed s p v.other active.capacity) (ap (λ (x : ScreenValue). x.page) whole)
    ∙ ap (λ (o : Option Page). renewed s (fresh_page s) o active.capacity) (ap (λ (x : ScreenValue). x.other) whole)
    ∙ ap (λ (z : Scrollback). renewed s (fresh_page s) (option_map (λ _. fresh_page s) s.other) z.capacity) (sym kept)
    ))

-- ==== Both pages resized, composed of the parts that the code performs.

pub if_ok : {A E : Type 0} (r : Result A E) (P : Type 0) → is_ok r ≡ true → OnOk r P → P
if_ok (Ok x) P e h = h
if_ok (Err e) P o h = absurd (false≢true o)

nothing_taken : (n : ℕ) (above : Scrollback) → IsNothing above → IsNothing (taken_back n above)
nothing_taken n above k = record {
  capacity = k.capacity;
  rows = ap (take (length above.rows - n)) k.rows ∙ take-nil (length above.rows - n);
  offset = k.offset;
}

pub nothing_resized : (height : ℕ) (page : Page) → IsNothing (scrollback_resized height page (no_scrollback 0))
unfolding scrollback_resized
nothing_resized height page =
    nothing_taken (returning_count height (no_scrollback 0) page)
    (scrollback_after_push (length page.rows) page.width (take (leaving_count height page) page.rows) (out_of_view (no_scrollback 0)))
    (nothing_pushed (length page.rows) page.width (take (leaving_count height page) page.rows)
    (out_of_view (no_scrollback 0)) (record { capacity = refl; rows = refl; offset = refl }))

fresh_is : (o : Option Page) (p : Page) (f : Option Page) (s b : Page) →
    f ≡ option_map (λ _. b) o → o ≡ Some p → f ≡ Some s → s ≡ b
fresh_is o p f s b e h k =
    let all : Some s ≡ Some b = sym k ∙ (e ∙ ap (option_map (λ _. b)) h) in
    cc

-- The alternate page was resized, its rows that scrolled off were reported, and its scrollback still keeps nothing.
pub record AlternateDone {S : Type 0} (does : CallRelation S)
    (rows cols : ℕ) (o : Option Page) (new : Page) (after : Scrollback) (s t : S) : Type 0 where
  pub page : Some new ≡ option_map (page_resized rows cols (no_scrollback 0)) o
  pub called : TakesCalls does s (reports_of true rows o (no_scrollback 0)) t
  pub nothing : IsNothing after

pub alternate_done : {S : Type 0} (does : CallRelation S) (rows cols : ℕ)
    (o : Option Page) (p new : Page) (page_rows : Page) (f : Option Page) (above after : Scrollback) (s t : S)
    → f ≡ option_map (λ _. blank_page rows cols) o → o ≡ Some p → f ≡ Some page_rows → above ≡ no_scrollback 0
    → new ≡ page_resized (length page_rows.rows) page_rows.width above p
    → after ≡ scrollback_resized (length page_rows.rows) p above
    → FoldsTo (CalledOnScroll does true) s (resize_reports (length page_rows.rows) p above) t
    → AlternateDone does rows cols o new after s t
alternate_done {S} does rows cols o p new page_rows f above after s t e h k n page scrolled called =
    let fresh = fresh_is o p f page_rows (blank_page rows cols) e h k in
    let height = fresh_height rows cols page_rows fresh in
    let width = fresh_width rows cols page_rows fresh in
    let there : new ≡ page_resized rows cols (no_scrollback 0) p
    = page
    ∙ (ap (λ (m : ℕ). page_resized m page_rows.width above p) height
    ∙ (ap (λ (m : ℕ). page_resized rows m above p) width ∙ ap (λ (z : Scrollback). page_resized rows cols z p) n)) in
    let beyond : after ≡ scrollback_resized rows p (no_scrollback 0)
    = scrolled ∙ (ap (λ (m : ℕ). scrollback_resized m p above) height ∙ ap (scrollback_resized rows p) n) in
    let same : resize_reports (length page_rows.rows) p above ≡ resize_reports rows p (no_scrollback 0)
    = ap (λ (m : ℕ). resize_reports m p above) height ∙ ap (resize_reports rows p) n in
    record {
      page = rw h (ap Some there);
      called =
          rw h (called_rows does true (resize_reports rows p (no_scrollback 0)) s t
          (subst (λ (all : List RowValue). FoldsTo (CalledOnScroll does true) s all t) same called));
      nothing = subst IsNothing (sym beyond) (nothing_resized rows p);
    }

-- The calls that report rows while the main page is resized are those of the model.
pub main_done : {S : Type 0} (does : CallRelation S)
    (rows cols : ℕ) (p : Page) (page_rows : Page) (above : Scrollback) (s t : S)
    → page_rows ≡ blank_page rows cols
    → FoldsTo (CalledOnScroll does false) s (resize_reports (length page_rows.rows) p above) t
    → TakesCalls does s (reports_of false rows (Some p) above) t
main_done {S} does rows cols p page_rows above s t fresh called =
    called_rows does false (resize_reports rows p above) s t
    (subst (λ (all : List RowValue). FoldsTo (CalledOnScroll does false) s all t)
    (ap (λ (m : ℕ). resize_reports m p above) (fresh_height rows cols page_rows fresh)) called)

-- ---- both pages

pub kept_by_steps : (rows cols : ℕ) (page new : Page) (last : Option ℕ)
    (aside : Aside) (page_rows : Page) (o : Option Page) (above idle : Scrollback)
    → page_rows ≡ blank_page rows cols
    → 0 < rows → rows < 2 ^ 16 → 0 < cols → cols < 2 ^ 16 → aside.is_alternate ≡ false
    → new ≡ page_resized (length page_rows.rows) page_rows.width aside.active page
    → above ≡ scrollback_resized (length page_rows.rows) page aside.active
    → o ≡ option_map (page_resized rows cols (no_scrollback 0)) aside.other → IsNothing idle → IsKept page last aside
    → IsKept new last (record { other = o; is_alternate = aside.is_alternate; active = above; idle = idle })
kept_by_steps rows cols page new last aside page_rows o above idle fresh a b c d main n m k nothing kept =
    let height = fresh_height rows cols page_rows fresh in
    let there : new ≡ page_resized rows cols aside.active page
    = n
    ∙ (ap (λ (i : ℕ). page_resized i page_rows.width aside.active page) height
    ∙ ap (λ (i : ℕ). page_resized rows i aside.active page) (fresh_width rows cols page_rows fresh)) in
    let beyond : above ≡ scrollback_resized rows page aside.active =
    m ∙ ap (λ (i : ℕ). scrollback_resized i page aside.active) height in
    rw (there, beyond, k) (kept_resized rows cols page last aside idle a b c d main nothing kept)

above_main : (b : Bool) (active idle whole : Scrollback) →
    whole ≡ main_scrollback b active idle → b ≡ false → active ≡ whole
above_main true active idle whole w e = absurd (false≢true (sym e))
above_main false active idle whole w e = sym w

pub called_by_steps : {S : Type 0} (does : CallRelation S)
    (rows cols : ℕ) (v now : ScreenValue) (active idle : Scrollback) (page_rows : Page) (s m t : S)
    → v ≡ now → v.scrollback ≡ main_scrollback v.is_alternate active idle
    → now.is_alternate ≡ false → page_rows ≡ blank_page rows cols
    → FoldsTo (CalledOnScroll does false) s (resize_reports (length page_rows.rows) v.page active) m
    → TakesCalls does m (reports_of true rows v.other (no_scrollback 0)) t
    → TakesCalls does s (reports_of_pages rows now) t
called_by_steps {S} does rows cols v now active idle page_rows s m t same w main fresh called told =
    let whole : active ≡ v.scrollback =
    above_main v.is_alternate active idle v.scrollback w (ap (λ (x : ScreenValue). x.is_alternate) same ∙ main) in
    subst (λ (x : ScreenValue). TakesCalls does s (reports_of_pages rows x) t) same
    (folds_then (CalledOnAnyScreen does) (reports_of false rows (Some v.page) v.scrollback)
    (reports_of true rows v.other (no_scrollback 0)) s m t
    (subst (λ (z : Scrollback). TakesCalls does s (reports_of false rows (Some v.page) z) m)
    whole (main_done does rows cols v.page page_rows active s m fresh called))
    told)

-- ---- both pages, if their width stays

-- The alternate page has been resized in place.
pub alternate_in_place : {S : Type 0} (does : CallRelation S) (rows cols : ℕ)
    (o : Option Page) (p new : Page) (above after : Scrollback) (s t : S)
    → o ≡ Some p → cols ≡ p.width → above ≡ no_scrollback 0
    → new ≡ page_resized rows p.width above p → after ≡ scrollback_resized rows p above
    → FoldsTo (CalledOnScroll does true) s (resize_reports rows p above) t
    → AlternateDone does rows cols o new after s t
alternate_in_place {S} does rows cols o p new above after s t h w n page scrolled called =
    let there : new ≡ page_resized rows cols (no_scrollback 0) p = page ∙ (λ z. page_resized rows (sym w z) (n z) p) in
    let beyond : after ≡ scrollback_resized rows p (no_scrollback 0) = scrolled ∙ ap (scrollback_resized rows p) n in
    let same : resize_reports rows p above ≡ resize_reports rows p (no_scrollback 0) = ap (resize_reports rows p) n in
    record {
      page = rw h (ap Some there);
      called =
          rw h (called_rows does true (resize_reports rows p (no_scrollback 0)) s t
          (subst (λ (all : List RowValue). FoldsTo (CalledOnScroll does true) s all t) same called));
      nothing = subst IsNothing (sym beyond) (nothing_resized rows p);
    }

pub kept_in_place : (rows cols : ℕ) (page new : Page) (last : Option ℕ)
    (aside : Aside) (o : Option Page) (above idle : Scrollback) → cols ≡ page.width
    → 0 < rows → rows < 2 ^ 16 → 0 < cols → cols < 2 ^ 16 → aside.is_alternate ≡ false
    → new ≡ page_resized rows page.width aside.active page → above ≡ scrollback_resized rows page aside.active
    → o ≡ option_map (page_resized rows cols (no_scrollback 0)) aside.other → IsNothing idle → IsKept page last aside
    → IsKept new last (record { other = o; is_alternate = aside.is_alternate; active = above; idle = idle })
kept_in_place rows cols page new last aside o above idle w a b c d main n m k nothing kept =
    let there : new ≡ page_resized rows cols aside.active page =
    n ∙ ap (λ (i : ℕ). page_resized rows i aside.active page) (sym w) in
    rw (there, m, k) (kept_resized rows cols page last aside idle a b c d main nothing kept)

pub called_in_place : {S : Type 0} (does : CallRelation S)
    (rows : ℕ) (v now : ScreenValue) (active idle : Scrollback) (s m t : S)
    → v ≡ now → v.scrollback ≡ main_scrollback v.is_alternate active idle → now.is_alternate ≡ false
    → FoldsTo (CalledOnScroll does false) s (resize_reports rows v.page active) m
    → TakesCalls does m (reports_of true rows v.other (no_scrollback 0)) t
    → TakesCalls does s (reports_of_pages rows now) t
called_in_place {S} does rows v now active idle s m t same w main called told =
    let whole : active ≡ v.scrollback =
    above_main v.is_alternate active idle v.scrollback w (ap (λ (x : ScreenValue). x.is_alternate) same ∙ main) in
    subst (λ (x : ScreenValue). TakesCalls does s (reports_of_pages rows x) t) same
    (folds_then (CalledOnAnyScreen does) (reports_of false rows (Some v.page) v.scrollback)
    (reports_of true rows v.other (no_scrollback 0)) s m t
    (subst (λ (z : Scrollback). TakesCalls does s (reports_of false rows (Some v.page) z) m)
    whole (called_rows does false (resize_reports rows v.page active) s m called))
    told)

-- The view of a screen with both pages resized in place.
pub view_in_place : (rows cols : ℕ) (v now : ScreenValue) (active idle above after : Scrollback) (new : Page)
    (o : Option Page) → v ≡ now → v.scrollback ≡ main_scrollback v.is_alternate active idle →
    now.is_alternate ≡ false → cols ≡ now.page.width → new ≡ page_resized rows v.page.width active v.page →
    above ≡ scrollback_resized rows v.page active →
    o ≡ option_map (page_resized rows cols (no_scrollback 0)) v.other →
    record v { page = new; other = o; scrollback = main_scrollback v.is_alternate above after }
    ≡ pages_resized rows cols now
view_in_place rows cols v now active idle above after new o same w main wide n m k =
    let not_alternate : v.is_alternate ≡ false = ap (λ (x : ScreenValue). x.is_alternate) same ∙ main in
    let whole : active ≡ v.scrollback = above_main v.is_alternate active idle v.scrollback w not_alternate in
    let width : v.page.width ≡ cols = ap (λ (x : ScreenValue). x.page.width) same ∙ sym wide in
    let page : new ≡ page_resized rows cols v.scrollback v.page = n ∙ (λ z. page_resized rows (width z) (whole z) v.page) in
    let scrollback : main_scrollback v.is_alternate above after ≡ scrollback_resized rows v.page v.scrollback =
    ap (λ (b : Bool). main_scrollback b above after) not_alternate
    ∙ (m ∙ ap (scrollback_resized rows v.page) whole) in
    (λ z. record v { page = page z; other = k z; scrollback = scrollback z }) ∙ ap (pages_resized rows cols) same

-- Clearing the other scrollback does not change the view.
pub main_any : (b : Bool) (active idle after : Scrollback) → b ≡ false →
    main_scrollback b active after ≡ main_scrollback b active idle
main_any true active idle after e = absurd (false≢true (sym e))
main_any false active idle after e = refl

-- The other page, resized to its own width.
pub other_in_place : (rows cols : ℕ) (page : Page) (o : Option Page) → cols ≡ page.width → IfSome o (IsOther page) →
    option_map (λ p. page_resized rows p.width (no_scrollback 0) p) o
    ≡ option_map (page_resized rows cols (no_scrollback 0)) o
other_in_place rows cols page None w k = refl
other_in_place rows cols page (Some p) w k =
    ap (λ (i : ℕ). Some (page_resized rows i (no_scrollback 0) p)) (k.same.width ∙ sym w)

pub fewer_in_place : (rows : ℕ) (page : Page) (o : Option Page) → rows ≤ length page.rows → IfSome o (IsOther page) →
    IfSome o (λ p. rows ≤ length p.rows)
fewer_in_place rows page None h k = tt
fewer_in_place rows page (Some p) h k = omega (arith, h, k.same.height)

pub width_in_place : (cols : ℕ) (page : Page) (o : Option Page) → cols ≡ page.width → IfSome o (IsOther page) →
    IfSome o (λ p. cols ≡ p.width)
width_in_place cols page None w k = tt
width_in_place cols page (Some p) w k = w ∙ sym k.same.width

pub more_in_place : (rows : ℕ) (page : Page) (o : Option Page) → length page.rows ≤ rows → IfSome o (IsOther page) →
    IfSome o (λ p. length p.rows ≤ rows)
more_in_place rows page None h k = tt
more_in_place rows page (Some p) h k = omega (arith, h, k.same.height)

-- No row scrolls off if no row is removed.
quiet_page : (rows : ℕ) (b : Bool) (page : Page) (above : Scrollback) → length page.rows ≤ rows →
    reports_of b rows (Some page) above ≡ []
quiet_page rows b page above h =
    let none : leaving_count rows page ≡ 0 = omega (arith, h) in
    ap (λ (n : ℕ). map (λ row. OnScroll row b) (rows_reported (take n page.rows) above)) none

quiet_other : (rows : ℕ) (page : Page) (o : Option Page) → length page.rows ≤ rows → IfSome o (IsOther page) →
    reports_of true rows o (no_scrollback 0) ≡ []
quiet_other rows page None h k = refl
quiet_other rows page (Some p) h k = quiet_page rows true p (no_scrollback 0) (omega (arith, h, k.same.height))

pub quiet_in_place : (rows : ℕ) (v now : ScreenValue) → v ≡ now → length v.page.rows ≤ rows →
    IfSome v.other (IsOther v.page) → reports_of_pages rows now ≡ []
quiet_in_place rows v now same h k =
    ap (reports_of_pages rows) (sym same)
    ∙ (λ z. quiet_page rows false v.page v.scrollback h z ++ quiet_other rows v.page v.other h k z)

pub nothing_in_place : (rows : ℕ) (o : Option Page) (before after : Scrollback) → before ≡ no_scrollback 0 →
    IfSome o (λ page. after ≡ scrollback_resized rows page before) → (o ≡ None → after ≡ before) → IsNothing after
nothing_in_place rows None before after z h n =
    subst IsNothing (sym (n refl ∙ z)) (record { capacity = refl; rows = refl; offset = refl })
nothing_in_place rows (Some p) before after z h n =
    subst IsNothing (sym (h ∙ ap (scrollback_resized rows p) z)) (nothing_resized rows p)

-- ---- both pages, if only their width changes

pub other_width : (page : Page) (o : Option Page) → IfSome o (IsOther page) → IfSome o (λ p. p.width ≡ page.width)
other_width page None k = tt
other_width page (Some p) k = k.same.width

-- The other page, resized at its own height.
pub other_columns : (rows cols : ℕ) (page : Page) (o : Option Page) → rows ≡ length page.rows → IfSome o (IsOther page) →
    option_map (λ p. page_resized (length p.rows) cols (no_scrollback 0) p) o
    ≡ option_map (page_resized rows cols (no_scrollback 0)) o
other_columns rows cols page None h k = refl
other_columns rows cols page (Some p) h k =
    ap (λ (i : ℕ). Some (page_resized i cols (no_scrollback 0) p)) (k.same.height ∙ sym h)

pub nothing_columns : (o : Option Page) (before after : Scrollback) → before ≡ no_scrollback 0 →
    IfSome o (λ page. after ≡ scrollback_resized (length page.rows) page before) → (o ≡ None → after ≡ before) →
    IsNothing after
nothing_columns None before after z h n =
    subst IsNothing (sym (n refl ∙ z)) (record { capacity = refl; rows = refl; offset = refl })
nothing_columns (Some p) before after z h n =
    subst IsNothing (sym (h ∙ ap (scrollback_resized (length p.rows) p) z)) (nothing_resized (length p.rows) p)

pub kept_columns : (rows cols : ℕ) (page new : Page) (last : Option ℕ)
    (aside : Aside) (o : Option Page) (above idle : Scrollback) → rows ≡ length page.rows
    → 0 < rows → rows < 2 ^ 16 → 0 < cols → cols < 2 ^ 16 → aside.is_alternate ≡ false
    → new ≡ page_resized (length page.rows) cols aside.active page
    → above ≡ scrollback_resized (length page.rows) page aside.active
    → o ≡ option_map (page_resized rows cols (no_scrollback 0)) aside.other → IsNothing idle → IsKept page last aside
    → IsKept new last (record { other = o; is_alternate = aside.is_alternate; active = above; idle = idle })
kept_columns rows cols page new last aside o above idle h a b c d main n m k nothing kept =
    let there : new ≡ page_resized rows cols aside.active page =
    n ∙ ap (λ (i : ℕ). page_resized i cols aside.active page) (sym h) in
    let beyond : above ≡ scrollback_resized rows page aside.active =
    m ∙ ap (λ (i : ℕ). scrollback_resized i page aside.active) (sym h) in
    rw (there, beyond, k) (kept_resized rows cols page last aside idle a b c d main nothing kept)

-- Replacing the scrollback of the inactive alternate page, which keeps nothing.
pub kept_idle : (page : Page) (last : Option ℕ) (o : Option Page) (b : Bool) (active old idle : Scrollback) →
    b ≡ false → IsNothing idle →
    IsKept page last (record { other = o; is_alternate = b; active = active; idle = old }) →
    IsKept page last (record { other = o; is_alternate = b; active = active; idle = idle })
kept_idle page last o true active old idle e n k = absurd (false≢true (sym e))
kept_idle page last o false active old idle e n k = record {
  sound = k.sound;
  colored = k.colored;
  printable = k.printable;
  other = k.other;
  entered = k.entered;
  nothing = n;
  above = k.above;
}

-- The view of a screen with both pages resized to another width in place.
pub view_columns : (rows cols : ℕ) (v now : ScreenValue) (active idle above after : Scrollback) (new : Page)
    (o : Option Page) → v ≡ now → v.scrollback ≡ main_scrollback v.is_alternate active idle →
    now.is_alternate ≡ false → rows ≡ length v.page.rows →
    new ≡ page_resized (length v.page.rows) cols active v.page →
    above ≡ scrollback_resized (length v.page.rows) v.page active →
    o ≡ option_map (page_resized rows cols (no_scrollback 0)) v.other →
    record v { page = new; other = o; scrollback = main_scrollback v.is_alternate above after }
    ≡ pages_resized rows cols now
view_columns rows cols v now active idle above after new o same w main h n m k =
    let not_alternate : v.is_alternate ≡ false = ap (λ (x : ScreenValue). x.is_alternate) same ∙ main in
    let whole : active ≡ v.scrollback = above_main v.is_alternate active idle v.scrollback w not_alternate in
    let page : new ≡ page_resized rows cols v.scrollback v.page =
    n ∙ (λ z. page_resized (sym h z) cols (whole z) v.page) in
    let scrollback : main_scrollback v.is_alternate above after ≡ scrollback_resized rows v.page v.scrollback =
    ap (λ (b : Bool). main_scrollback b above after) not_alternate
    ∙ (m ∙ (λ z. scrollback_resized (sym h z) v.page (whole z))) in
    (λ z. record v { page = page z; other = k z; scrollback = scrollback z }) ∙ ap (pages_resized rows cols) same
