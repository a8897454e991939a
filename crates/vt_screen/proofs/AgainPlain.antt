-- A plain terminal that reads a redraw or a diff is plain again, whatever the output draws.
use Rattle.std.proofs.Common.{◌≡◌, ℕ, zero, suc, Bool, true, false, List, [], ◌∷◌, ◌++◌, Some, length, refl, sym, ap}
use Rattle.std.proofs.Common.{subst, ◌∙◌, arith}
use Rattle.std.specs.Prelude.{if◌then◌else◌, encode_utf8_all}
use Rattle.std.specs.Char.{encode_utf8}
use Rattle.std.specs.List.{AllByRecursion}
use Rattle.vt_cells.specs.Attrs.{default_attrs, changed_attrs}
use Rattle.vt_cells.specs.Op.{Op, Hide, ClearAttrs, MoveTo, MoveRight, NextRow, LineFeed, Backspace, EraseBelow}
use Rattle.vt_cells.specs.Op.{EraseRest, EraseChars, SaveCursor, RestoreCursor, ChangeAttrs, Print, bytes_of}
use Rattle.vt_cells.specs.Op.{bytes_of_all}
use Rattle.vt_rows.specs.Row.{RowValue}
use Rattle.vt_scan.specs.Automaton.{Event, Character, Executed, Step as Outcome, start, run}
use Rattle.vt_scan.specs.Texts.{back_with}
use Rattle.vt_scan.proofs.Readback.{read_control, read_written, run-append}
use Rattle.vt_grid.specs.Canvas.{Canvas, canvas_after_op}
use Rattle.vt_grid.specs.Moves.{moved, cursor_saved, cursor_restored}
use Rattle.vt_grid.specs.Erasing.{erased_below, erased_rest, erased_chars}
use Rattle.vt_grid.specs.Page.{IsWhole, SameSize}
use Rattle.vt_grid.specs.declared.grid.moves.CursorMove.TheVariants.{Return, Right, Left, To}
use Rattle.vt_grid.specs.declared.page_step.PageStep.TheVariants as page
use Rattle.vt_grid.specs.Scrollback.{Scrollback, kept_after, grown_in_view, no_scrollback, scrollback_after_push}
use Rattle.vt_redraw.specs.Fits.{Fits, IsDrawn}
use Rattle.vt_redraw.specs.Redraw.{cursor_state, difference, redraw}
use Rattle.vt_redraw.proofs.PictureFits.{cursor_state_fits, difference_fits, redraw_fits}
use Rattle.vt_redraw.proofs.Saving.{IsAllowed, IsSafe, SavesFirst, cursor_state_safe, difference_safe, redraw_safe}
use Rattle.vt_redraw.proofs.Saving.{saved_after}
use Rattle.vt_screen.specs.Again.{IsNoCallback, KeepsAside, KeepsPlain, LeavesPlain, MakesPlain}
use Rattle.vt_screen.specs.AnyRegion.{reset_text, whole_region_text}
use Rattle.vt_screen.specs.CallsOfRun.{screen_in, screen_after_all, steps_in, steps_of_all}
use Rattle.vt_screen.specs.Controls.{control_steps, seen_of, steps_of}
use Rattle.vt_screen.specs.Reading.{terminal_after, terminal}
use Rattle.vt_screen.specs.Screen.{IsColored, IsScreen, ScreenValue, above_page, canvas_of, with_canvas, with_page}
use Rattle.vt_screen.specs.Shown.{IsPlain, display, display_change, shown_text}
use Rattle.vt_screen.specs.Steps as steps
use Rattle.vt_screen.specs.Steps.{Step, OnPage, display_after, rows_scrolled_off, screen_after}
use Rattle.vt_screen.proofs.StepRegions.{IsFramed, framed, framed_erased_below, framed_erased_chars, framed_erased_rest}
use Rattle.vt_screen.proofs.StepRegions.{in_whole, whole_end, whole_read, framed_line_feed, framed_printed}
use Rattle.vt_screen.proofs.CallsNone.{none_then, read_run}
use Rattle.vt_screen.proofs.ReadOperations.{prints, reads_op, shown_range}
use Rattle.vt_screen.proofs.SizePage.{same_erased_below, same_erased_chars, same_erased_rest, same_itself}
use Rattle.vt_screen.proofs.SizePage.{same_line_feed, same_printed, same_through}
use Rattle.vt_screen.proofs.Shown.{shown_colored, shown_is}
use Rattle.vt_screen.proofs.ReadTexts.{screen_in_then, steps_in_then}

-- ---- the invariant while reading

-- The terminal is plain, and if the output has saved the cursor, it was saved with origin mode off.
pub record Holds (saved : Bool) (reader screen : ScreenValue) : Type 0 where
  pub whole : IsWhole screen.page
  pub origin : screen.page.origin ≡ false
  pub saved_origin : saved ≡ true → screen.page.saved_origin ≡ false
  pub offset : (above_page screen).offset ≡ 0
  pub aside : KeepsAside reader screen

-- All parts of the screen except its active page are unchanged.
pub record SameAside (new screen : ScreenValue) : Type 0 where
  pub other : new.other ≡ screen.other
  pub is_alternate : new.is_alternate ≡ screen.is_alternate
  pub modes : new.modes ≡ screen.modes
  pub size : SameSize new.page screen.page

pub aside_both : (reader screen new : ScreenValue) → KeepsAside screen new → KeepsAside reader screen →
    KeepsAside reader new
aside_both reader screen new s k = record {
  other = s.other ∙ k.other;
  is_alternate = s.is_alternate ∙ k.is_alternate;
  modes = s.modes ∙ k.modes;
  size = same_through new.page screen.page reader.page s.size k.size;
}

aside_then : (reader screen new : ScreenValue) → SameAside new screen → KeepsAside reader screen →
    KeepsAside reader new
aside_then reader screen new s k = record {
  other = s.other ∙ k.other;
  is_alternate = s.is_alternate ∙ k.is_alternate;
  modes = s.modes ∙ k.modes;
  size = same_through new.page screen.page reader.page s.size k.size;
}

-- The terminal stays plain after a change that keeps its page's scroll region and modes and all other parts of the
-- screen.
pub held : (saved : Bool) (reader screen new : ScreenValue) → IsFramed new.page screen.page → SameAside new screen →
    (above_page new).offset ≡ 0 → Holds saved reader screen → Holds saved reader new
held saved reader screen new f s offset h = record {
  whole = (f.top ∙ h.whole.0, omega (arith, f.bottom, s.size.height, h.whole.1));
  origin = f.origin ∙ h.origin;
  saved_origin = λ t. f.saved_origin ∙ h.saved_origin t;
  offset = offset;
  aside = aside_then reader screen new s h.aside;
}

-- ---- rows that scroll off the page

pushed_offset : (height width : ℕ) (gone : List RowValue) (above : Scrollback) → above.offset ≡ 0 →
    (scrollback_after_push height width gone above).offset ≡ 0
unfolding kept_after grown_in_view
pushed_offset height width [] above e = e
pushed_offset height width (row ∷ gone) above e = rw e refl

offset_by : (alternate : Bool) (above : Scrollback) → (alternate ≡ false → above.offset ≡ 0) →
    (if alternate then no_scrollback 0 else above).offset ≡ 0
offset_by true above h = refl
offset_by false above h = h refl

hidden_by : (alternate : Bool) (above : Scrollback) → (if alternate then no_scrollback 0 else above).offset ≡ 0 →
    alternate ≡ false → above.offset ≡ 0
hidden_by true above h e = absurd (cc)
hidden_by false above h e = h

-- The terminal stays plain after a step that may scroll rows off the page.
sent_held : (saved : Bool) (reader screen after : ScreenValue) (gone : List RowValue) →
    IsFramed after.page screen.page → SameAside after screen → after.scrollback ≡ screen.scrollback →
    Holds saved reader screen →
    Holds saved reader (if screen.is_alternate then after
    else record after { scrollback = scrollback_after_push (length screen.page.rows) screen.page.width gone screen.scrollback })
sent_held saved reader screen after gone f s same h = by_page screen.is_alternate refl
  where
    none : after.is_alternate ≡ false → screen.scrollback.offset ≡ 0
    none e = hidden_by screen.is_alternate screen.scrollback h.offset (sym s.is_alternate ∙ e)

    by_page : (b : Bool) → screen.is_alternate ≡ b → Holds saved reader (if b then after
        else record after { scrollback = scrollback_after_push (length screen.page.rows) screen.page.width gone screen.scrollback })
    by_page true e = held saved reader screen after f s
        (offset_by after.is_alternate after.scrollback (λ t. ap (λ a. a.offset) same ∙ none t)) h
    by_page false e =
        let new = scrollback_after_push (length screen.page.rows) screen.page.width gone screen.scrollback in
        held saved reader screen (record after { scrollback = new })
        (record { top = f.top; bottom = f.bottom; origin = f.origin; saved_origin = f.saved_origin })
        (record { other = s.other; is_alternate = s.is_alternate; modes = s.modes; size = s.size })
        (offset_by after.is_alternate new
        (λ t. pushed_offset (length screen.page.rows) screen.page.width gone screen.scrollback (none t))) h

printed_held : (c : ℕ) (saved : Bool) (reader screen : ScreenValue) → Holds saved reader screen →
    Holds saved reader (screen_after (steps.Print c) screen)
printed_held c saved reader screen h =
    sent_held saved reader screen (display_after (steps.Print c) screen) (rows_scrolled_off (steps.Print c) screen)
    (framed_printed c screen.attrs screen.page)
    (record {
      other = refl;
      is_alternate = refl;
      modes = refl;
      size = same_printed c screen.attrs screen.page;
    })
    refl h

fed_held : (saved : Bool) (reader screen : ScreenValue) → Holds saved reader screen →
    Holds saved reader (screen_after steps.LineFeed screen)
fed_held saved reader screen h =
    sent_held saved reader screen (display_after steps.LineFeed screen) (rows_scrolled_off steps.LineFeed screen)
    (framed_line_feed screen.page)
    (record { other = refl; is_alternate = refl; modes = refl; size = same_line_feed screen.page }) refl h

-- ---- output

-- The terminal has read the output and is still plain.
pub record Goes (saved : Bool) (reader screen : ScreenValue) (text : List ℕ) : Type 0 where
  pub ground : (run start text).state ≡ start
  pub steps : AllByRecursion IsNoCallback (steps_in start screen text)
  pub holds : Holds saved reader (screen_in start screen text)

pub goes_then : (middle saved : Bool) (reader screen : ScreenValue) (a b : List ℕ) → Goes middle reader screen a →
    Goes saved reader (screen_in start screen a) b → Goes saved reader screen (a ++ b)
goes_then middle saved reader screen a b one two =
    let ground = one.ground in
    let next = screen_in start screen a in
    record {
      ground =
          ap (λ (o : Outcome). o.state) (run-append start a b)
          ∙ (ap (λ s. (run s b).state) ground ∙ two.ground);
      steps =
          subst (AllByRecursion IsNoCallback) (sym (steps_in_then start screen a b))
          (none_then (steps_in start screen a) (steps_in (run start a).state next b) one.steps
          (subst (λ s. AllByRecursion IsNoCallback (steps_in s next b)) (sym ground) two.steps));
      holds =
          subst (Holds saved reader) (sym (screen_in_then start screen a b))
          (subst (λ s. Holds saved reader (screen_in s next b)) (sym ground) two.holds);
    }

pub goes_read : (saved : Bool) (reader screen after : ScreenValue) (text : List ℕ) →
    terminal_after (terminal start screen) text ≡ Some (terminal start after) → Holds saved reader after →
    Goes saved reader screen text
goes_read saved reader screen after text e h =
    let r = read_run text (terminal start screen) (terminal start after) e in record {
      ground = r.state;
      steps = r.steps.none;
      holds = subst (Holds saved reader) (sym r.steps.becomes) h;
    }

-- A terminal that reads output of one event with one step stays plain if the step keeps it plain.
goes_event : (saved : Bool) (reader screen : ScreenValue) (text : List ℕ) (event : Event) (step : Step) →
    run start text ≡ back_with (event ∷ []) → steps_of event (seen_of screen) ≡ step ∷ [] → IsNoCallback step →
    Holds saved reader (screen_after step screen) → Goes saved reader screen text
goes_event saved reader screen text event step gives is none h =
    let listed : steps_in start screen text ≡ step ∷ [] =
    ap (λ (o : Outcome). steps_of_all o.events screen) gives ∙ ap (λ (xs : List Step). xs ++ []) is in record {
      ground = ap (λ (o : Outcome). o.state) gives;
      steps = subst (AllByRecursion IsNoCallback) (sym listed) (none, tt);
      holds = subst (λ (xs : List Step). Holds saved reader (screen_after_all xs screen)) (sym listed) h;
    }

-- ---- operations

-- A terminal that reads an operation stays plain if drawing it keeps the page's scroll region and modes.
drawn_goes : (op : Op) (saved : Bool) (reader screen : ScreenValue) (d : Canvas) → Fits op →
    canvas_after_op op (canvas_of screen) ≡ Some d → IsFramed d.page screen.page → SameSize d.page screen.page →
    Holds saved reader screen → Goes saved reader screen (bytes_of op)
drawn_goes op saved reader screen d fits is f size h =
    let (last, reads) = reads_op op screen d fits is in
    let after : ScreenValue = record (with_canvas d screen) { last = last } in
    goes_read saved reader screen after (bytes_of op) reads
    (held saved reader screen after f
    (record { other = refl; is_alternate = refl; modes = refl; size = size }) h.offset h)

saved_goes : (saved : Bool) (reader screen : ScreenValue) → Holds saved reader screen →
    Goes true reader screen (bytes_of SaveCursor)
saved_goes saved reader screen h =
    let d = record (canvas_of screen) { page = cursor_saved screen.page; saved_attrs = screen.attrs } in
    let (last, reads) = reads_op SaveCursor screen d tt refl in
    goes_read true reader screen (record (with_canvas d screen) { last = last }) (bytes_of SaveCursor) reads
    (record {
      whole = h.whole;
      origin = h.origin;
      saved_origin = λ t. h.origin;
      offset = h.offset;
      aside = record {
        other = h.aside.other;
        is_alternate = h.aside.is_alternate;
        modes = h.aside.modes;
        size = record { width = h.aside.size.width; height = h.aside.size.height };
      };
    })

restored_goes : (saved : Bool) (reader screen : ScreenValue) → saved ≡ true → Holds saved reader screen →
    Goes saved reader screen (bytes_of RestoreCursor)
restored_goes saved reader screen was h =
    let d = record (canvas_of screen) { page = cursor_restored screen.page; attrs = screen.saved_attrs } in
    let (last, reads) = reads_op RestoreCursor screen d tt refl in
    goes_read saved reader screen (record (with_canvas d screen) { last = last }) (bytes_of RestoreCursor) reads
    (record {
      whole = h.whole;
      origin = h.saved_origin was;
      saved_origin = h.saved_origin;
      offset = h.offset;
      aside =
          record {
            other = h.aside.other;
            is_alternate = h.aside.is_alternate;
            modes = h.aside.modes;
            size = record { width = h.aside.size.width; height = h.aside.size.height };
          };
    })

feed_goes : (saved : Bool) (reader screen : ScreenValue) → Holds saved reader screen →
    Goes saved reader screen (0x0A ∷ [])
unfolding control_steps
feed_goes saved reader screen h =
    goes_event saved reader screen (0x0A ∷ []) (Executed 0x0A) steps.LineFeed
    (read_control 0x0A (omega arith) (λ e. cc)) refl tt (fed_held saved reader screen h)

pub return_goes : (saved : Bool) (reader screen : ScreenValue) → Holds saved reader screen →
    Goes saved reader screen (0x0D ∷ [])
unfolding control_steps
return_goes saved reader screen h =
    goes_event saved reader screen (0x0D ∷ []) (Executed 0x0D) (OnPage (page.Move Return))
    (read_control 0x0D (omega arith) (λ e. cc)) refl tt
    (held saved reader screen (with_page (moved Return screen.page) screen)
    (record { top = refl; bottom = refl; origin = refl; saved_origin = refl })
    (record { other = refl; is_alternate = refl; modes = refl; size = record { width = refl; height = refl } })
    h.offset h)

pub nothing_goes : (saved : Bool) (reader screen : ScreenValue) → Holds saved reader screen → Goes saved reader screen []
nothing_goes saved reader screen h = record { ground = refl; steps = tt; holds = h }

characters_go : (cs : List ℕ) (saved : Bool) (reader screen : ScreenValue) → AllByRecursion IsDrawn cs →
    Holds saved reader screen → Goes saved reader screen (encode_utf8_all cs)
characters_go [] saved reader screen p h = nothing_goes saved reader screen h
characters_go (c ∷ cs) saved reader screen p h =
    let range = shown_range c p.0.shown in
    let first = goes_event saved reader screen (encode_utf8 c) (Character c) (steps.Print c)
    (read_written c p.0.scalar (grind (arith, range))) (prints c p.0) tt (printed_held c saved reader screen h) in
    goes_then saved saved reader screen (encode_utf8 c) (encode_utf8_all cs) first
    (characters_go cs saved reader (screen_in start screen (encode_utf8 c)) p.1 first.holds)

pub op_goes : (op : Op) (saved : Bool) (reader screen : ScreenValue) → Fits op → IsAllowed saved op →
    Holds saved reader screen → Goes (saved_after saved op) reader screen (bytes_of op)
op_goes (Hide hidden) saved reader screen f a h =
    drawn_goes (Hide hidden) saved reader screen (record (canvas_of screen) { hidden = hidden }) f refl
    (framed screen.page) (same_itself screen.page) h
op_goes ClearAttrs saved reader screen f a h =
    drawn_goes ClearAttrs saved reader screen (record (canvas_of screen) { attrs = default_attrs }) f refl
    (framed screen.page) (same_itself screen.page) h
op_goes (MoveTo row col) saved reader screen f a h =
    drawn_goes (MoveTo row col) saved reader screen
    (record (canvas_of screen) { page = moved (To row col) screen.page }) f refl
    (record { top = refl; bottom = refl; origin = refl; saved_origin = refl })
    (record { width = refl; height = refl }) h
op_goes (MoveRight zero) saved reader screen f a h =
    drawn_goes (MoveRight zero) saved reader screen (canvas_of screen) f refl (framed screen.page)
    (same_itself screen.page) h
op_goes (MoveRight (suc n)) saved reader screen f a h =
    drawn_goes (MoveRight (suc n)) saved reader screen
    (record (canvas_of screen) { page = moved (Right (suc n)) screen.page }) f refl
    (record { top = refl; bottom = refl; origin = refl; saved_origin = refl })
    (record { width = refl; height = refl }) h
op_goes NextRow saved reader screen f a h =
    let first = return_goes saved reader screen h in
    goes_then saved saved reader screen (0x0D ∷ []) (0x0A ∷ []) first
    (feed_goes saved reader (screen_in start screen (0x0D ∷ [])) first.holds)
op_goes LineFeed saved reader screen f a h = feed_goes saved reader screen h
op_goes Backspace saved reader screen f a h =
    drawn_goes Backspace saved reader screen (record (canvas_of screen) { page = moved (Left 1) screen.page }) f refl
    (record { top = refl; bottom = refl; origin = refl; saved_origin = refl })
    (record { width = refl; height = refl }) h
op_goes EraseBelow saved reader screen f a h =
    drawn_goes EraseBelow saved reader screen
    (record (canvas_of screen) { page = erased_below screen.attrs screen.page }) f refl
    (framed_erased_below screen.attrs screen.page) (same_erased_below screen.attrs screen.page) h
op_goes EraseRest saved reader screen f a h =
    drawn_goes EraseRest saved reader screen
    (record (canvas_of screen) { page = erased_rest screen.attrs screen.page }) f refl
    (framed_erased_rest screen.attrs screen.page) (same_erased_rest screen.attrs screen.page) h
op_goes (EraseChars zero) saved reader screen f a h =
    drawn_goes (EraseChars zero) saved reader screen (canvas_of screen) f refl (framed screen.page)
    (same_itself screen.page) h
op_goes (EraseChars (suc n)) saved reader screen f a h =
    drawn_goes (EraseChars (suc n)) saved reader screen
    (record (canvas_of screen) { page = erased_chars (suc n) screen.attrs screen.page }) f refl
    (framed_erased_chars (suc n) screen.attrs screen.page) (same_erased_chars (suc n) screen.attrs screen.page) h
op_goes SaveCursor saved reader screen f a h = saved_goes saved reader screen h
op_goes RestoreCursor saved reader screen f a h = restored_goes saved reader screen a h
op_goes (ChangeAttrs was new) saved reader screen f a h =
    drawn_goes (ChangeAttrs was new) saved reader screen
    (record (canvas_of screen) { attrs = changed_attrs was new screen.attrs }) f refl
    (framed screen.page) (same_itself screen.page) h
op_goes (Print text) saved reader screen f a h =
    subst (Goes saved reader screen) f.spelled (characters_go f.characters saved reader screen f.printable h)

-- ---- lists of operations

pub record GoesOn (reader screen : ScreenValue) (text : List ℕ) : Type 0 where
  pub saved : Bool
  pub goes : Goes saved reader screen text

pub ops_go : (ops : List Op) (saved : Bool) (reader screen : ScreenValue) → AllByRecursion Fits ops →
    SavesFirst saved ops → Holds saved reader screen → GoesOn reader screen (bytes_of_all ops)
ops_go [] saved reader screen f a h = record { saved = saved; goes = nothing_goes saved reader screen h }
ops_go (op ∷ ops) saved reader screen f a h =
    let middle = saved_after saved op in
    let first = op_goes op saved reader screen f.0 a.0 h in
    let rest = ops_go ops middle reader (screen_in start screen (bytes_of op)) f.1 a.1 first.holds in record {
      saved = rest.saved;
      goes = goes_then middle rest.saved reader screen (bytes_of op) (bytes_of_all ops) first rest.goes;
    }

-- ---- the whole

pub plain_holds : (reader : ScreenValue) → IsPlain reader → Holds false reader reader
plain_holds reader plain = record {
  whole = plain.page.whole;
  origin = plain.page.origin;
  saved_origin = λ t. absurd (cc);
  offset = plain.offset;
  aside = record { other = refl; is_alternate = refl; modes = refl; size = same_itself reader.page };
}

pub leaves : (reader : ScreenValue) (text : List ℕ) → GoesOn reader reader text → LeavesPlain text reader
leaves reader text g =
    let h = g.goes.holds in record {
      ground = g.goes.ground;
      steps = g.goes.steps;
      plain = record { page = record { whole = h.whole; origin = h.origin }; offset = h.offset };
      aside = h.aside;
    }

-- Operations that save the cursor before they restore it keep terminals plain.
pub ops_keep : (ops : List Op) → AllByRecursion Fits ops → IsSafe ops → KeepsPlain (bytes_of_all ops)
ops_keep ops fits safe reader plain =
    leaves reader (bytes_of_all ops) (ops_go ops false reader reader fits (safe false) (plain_holds reader plain))

pub redraw_keeps : (screen : ScreenValue) → IsScreen screen → IsColored screen → KeepsPlain (shown_text screen)
redraw_keeps screen is colored =
    ops_keep (redraw (display screen)) (redraw_fits (display screen) (shown_is screen is) (shown_colored screen is colored))
    (redraw_safe (display screen))

pub difference_keeps : (screen prev : ScreenValue) → IsScreen screen → IsColored screen → IsColored prev →
    KeepsPlain (display_change prev screen)
difference_keeps screen prev is colored other =
    ops_keep (difference (display screen) (display prev))
    (difference_fits (display screen) (display prev) (shown_is screen is) (shown_colored screen is colored) other.attrs)
    (difference_safe (display screen) (display prev))

pub cursor_keeps : (screen : ScreenValue) → IsScreen screen → IsColored screen →
    KeepsPlain (bytes_of_all (cursor_state (display screen)))
cursor_keeps screen is colored =
    ops_keep (cursor_state (display screen))
    (cursor_state_fits (display screen) (shown_is screen is) (shown_colored screen is colored))
    (cursor_state_safe (display screen))

-- ---- terminals in any region

whole_holds : (reader : ScreenValue) → IsScreen reader → (above_page reader).offset ≡ 0 →
    Holds false reader (in_whole reader)
whole_holds reader is offset = record {
  whole = (refl, whole_end reader.page is.page);
  origin = refl;
  saved_origin = λ t. absurd (cc);
  offset = offset;
  aside = record { other = refl; is_alternate = refl; modes = refl; size = record { width = refl; height = refl } };
}

pub reset_makes : (screen : ScreenValue) → IsScreen screen → IsColored screen → MakesPlain (reset_text (display screen))
reset_makes screen is colored reader sound offset =
    let first = goes_read false reader reader (in_whole reader) whole_region_text (whole_read reader)
    (whole_holds reader sound offset) in
    let rest = ops_go (redraw (display screen)) false reader (screen_in start reader whole_region_text)
    (redraw_fits (display screen) (shown_is screen is) (shown_colored screen is colored))
    (redraw_safe (display screen) false) first.holds in
    leaves reader (reset_text (display screen)) (record {
      saved = rest.saved;
      goes = goes_then false rest.saved reader reader whole_region_text (shown_text screen) first rest.goes;
    })
