-- Reading output touches only the positions that its operations touch.
use Rattle.std.proofs.Common.{◌≡◌, ℕ, zero, suc, ◌<◌, ◌≤◌, ◌^◌, ◌==◌, ◌&&◌, Bool, true, false, List, [], ◌∷◌, ◌++◌}
use Rattle.std.proofs.Common.{Option, Some, None, refl, sym, ap, subst, ◌∙◌, arith}
use Rattle.std.specs.Prelude.{decimal, if◌then◌else◌, chars, encode_utf8_all}
use Rattle.std.specs.List.{AllByRecursion}
use Rattle.std.specs.Char.{encode_utf8}
use Rattle.std.proofs.lemmas.Bool.Decides.{nat_tests}
use Rattle.std.proofs.lemmas.List.Elements.{All-from_recursion}
use Rattle.std.proofs.lemmas.Str.{chars-encodes}
use Rattle.vt_cells.specs.Attrs.{default_attrs, same_attrs, changed_attrs, Attrs}
use Rattle.vt_cells.specs.Glyph.{columns_of}
use Rattle.vt_cells.specs.Op.{Op, Hide, ClearAttrs, MoveTo, MoveRight, NextRow, LineFeed, Backspace, EraseBelow}
use Rattle.vt_cells.specs.Op.{EraseRest, EraseChars, SaveCursor, RestoreCursor, ChangeAttrs, Print, csi, counted, place}
use Rattle.vt_cells.specs.Op.{semicolon_list, change_numbers, change_text, FitsAttrs, bytes_of, bytes_of_all}
use Rattle.vt_scan.specs.Automaton.{State, Event, Character, Executed, CsiDispatch, step_in, start, fresh_step, run}
use Rattle.vt_scan.specs.Parameters.{table_of, groups_of, numbers_of, number_of}
use Rattle.vt_scan.specs.Table.{class_of}
use Rattle.vt_scan.specs.Texts.{IsParameterText, back_with, place_groups}
use Rattle.vt_scan.proofs.Readback.{read_written, read_csi}
use Rattle.vt_scan.proofs.ParameterNumbers.{alone, empty_groups, decimal_groups, joined_groups, place_groups_are}
use Rattle.vt_scan.proofs.ParameterNumbers.{decimal_is_parameter, joined_is_parameter, place_is_parameter}
use Rattle.vt_grid.specs.Canvas.{Canvas, and_then, canvas_after_op, drawn_all, drawn_char, drawn_text}
use Rattle.vt_grid.specs.Canvas.{canvas_after_line_feed}
use Rattle.vt_grid.specs.Page.{Page}
use Rattle.vt_grid.specs.Erasing.{erased_below, erased_rest, erased_chars}
use Rattle.vt_grid.specs.Moves.{at_bottom, cursor_restored, cursor_saved, feeds_out, line_feed, moved}
use Rattle.vt_grid.specs.declared.grid.moves.CursorMove.TheVariants.{Return, Right, Left, To}
use Rattle.vt_grid.specs.Printing.{page_after_print, pushes, wraps}
use Rattle.vt_grid.specs.declared.page_step.PageStep.TheVariants as page
use Rattle.vt_redraw.specs.Fits.{Fits, IsDrawn}
use Rattle.vt_redraw.specs.Locality.{CharTouches, TextTouches, OpTouches, Touches, IsLocal, MayPlace}
use Rattle.vt_redraw.specs.Picture.{Picture, SamePictureSize, with_cursor_of, with_picture, with_saved}
use Rattle.vt_redraw.specs.Redraw.{cursor_state, difference}
use Rattle.vt_redraw.specs.Steady.{IsSteady}
use Rattle.vt_redraw.proofs.Difference.{cursor_state_draws, cursor_state_local, difference_draws, difference_local}
use Rattle.vt_redraw.proofs.PictureFits.{cursor_state_fits, difference_fits}
use Rattle.vt_screen.specs.Reading.{quiet_steps, quiet_events, Terminal, terminal, read_byte, terminal_after}
use Rattle.vt_screen.specs.Screen.{ScreenValue, canvas_of, with_canvas, with_page, IsScreen, IsColored}
use Rattle.vt_screen.specs.Sgr.{group_read}
use Rattle.vt_screen.specs.Controls.{private_steps, intermediate_steps, mode_step, unmarked_steps, counted_step}
use Rattle.vt_screen.specs.Controls.{scrolling_steps, other_steps, page_erasing, row_erasing, control_steps}
use Rattle.vt_screen.specs.Controls.{escape_steps, number_or, steps_of, reading_steps, sgr_from, seen_of}
use Rattle.vt_screen.specs.Steps.{display_after}
use Rattle.vt_screen.specs.Steps as steps
use Rattle.vt_screen.specs.Touched.{FeedTouches, PageStepTouches, StepsTouch, EventsTouch, ReadTouches, TouchesOnly}
use Rattle.vt_screen.specs.declared.sgr.Reading.{Reading}
use Rattle.vt_screen.specs.declared.sgr.Reading.TheVariants.{Silent, Set, Unhandled}
use Rattle.vt_screen.specs.declared.sgr.Wanted.{Wanted}
use Rattle.vt_screen.specs.declared.sgr.Wanted.TheVariants.{Any}
use Rattle.vt_screen.specs.Shown.{IsReaderOf, IsReaderOfRows, display, display_change}
use Rattle.vt_screen.proofs.ReadOperations.{and_then-some, reads_op, text_same, text_plain, text_parts, prints}
use Rattle.vt_screen.proofs.ReadOperations.{shown_range, all_scalar, unpushed, kept, character_read}
use Rattle.vt_screen.proofs.ReadSgr.{few_changes, some_changes}
use Rattle.vt_screen.proofs.ReadTexts.{IsCalm, IsFinal, is_command, calm_grows}
use Rattle.vt_screen.proofs.StepRegions.{top_printed, top_fed, top_rest, top_chars, top_below}
use Rattle.vt_screen.proofs.Shown.{plain_shown, shown_colored, shown_is}

-- ==== Reading the bytes of operations touches only the positions that the operations touch on the canvas on which each
-- is drawn.

-- ---- output in sequence

pub touches_then : (M : ℕ → ℕ → Type 0) (t u : Terminal) (a b : List ℕ) →
    ReadTouches M t a → terminal_after t a ≡ Some u → ReadTouches M u b → ReadTouches M t (a ++ b)
touches_then M t u [] b p e q = let same : t ≡ u = cc in subst (λ (z : Terminal). ReadTouches M z b) (sym same) q
touches_then M t u (x ∷ a) b p e q = (
  p.0,
  λ v step. touches_then M v u a b (p.1 v step)
      (sym (ap (λ (r : Option Terminal). and_then (λ w. terminal_after w a) r) step) ∙ e) q,
)

-- ---- output and its events

events_first : (M : ℕ → ℕ → Type 0) (a b : List Event) (screen : ScreenValue) →
    EventsTouch M (a ++ b) screen → EventsTouch M a screen
events_first M [] b screen p = tt
events_first M (event ∷ a) b screen p = (p.0, λ next e. events_first M a b next (p.1 next e))

events_later : (M : ℕ → ℕ → Type 0) (a b : List Event) (screen next : ScreenValue) →
    EventsTouch M (a ++ b) screen → quiet_events a screen ≡ Some next → EventsTouch M b next
events_later M [] b screen next p e = let same : screen ≡ next = cc in subst (EventsTouch M b) same p
events_later M (event ∷ a) b screen next p e =
    let (middle, first, rest) =
    and_then-some (quiet_events a) (quiet_steps (steps_of event (seen_of screen)) screen) next e in
    events_later M a b middle next (p.1 middle first) rest

-- Reading bytes without operating system commands touches only the positions that their events touch.
pub run_touches : (M : ℕ → ℕ → Type 0) (s : State) (bytes : List ℕ) (screen : ScreenValue) →
    IsCalm (run s bytes) → EventsTouch M (run s bytes).events screen → ReadTouches M (terminal s screen) bytes
unfolding read_byte
run_touches M s [] screen calm p = tt
run_touches M s (b ∷ bytes) screen calm p =
    let step = step_in s.kind s.collected b in
    let rest = run step.state bytes in
    let (still, ends) = calm_grows s b bytes calm in (
      events_first M step.events rest.events screen p,
      λ u e.
          let made : and_then (λ (x : ScreenValue). Some (terminal step.state x)) (quiet_events step.events screen)
          ≡ Some u =
          sym (ap (λ (g : Bool). if g then None
          else and_then (λ (x : ScreenValue). Some (terminal step.state x)) (quiet_events step.events screen))
          still)
          ∙ e in
          let (next, first, last) =
          and_then-some (λ (x : ScreenValue). Some (terminal step.state x)) (quiet_events step.events screen) u made in
          let same : terminal step.state next ≡ u = cc in
          subst (λ (z : Terminal). ReadTouches M z bytes) same
          (run_touches M step.state bytes next ends (events_later M step.events rest.events screen next p first)),
    )

-- Reading output that consists of one event touches only the positions that the event's steps touch.
event_touches : (M : ℕ → ℕ → Type 0) (text : List ℕ) (event : Event) (screen : ScreenValue) →
    run start text ≡ back_with (event ∷ []) → is_command event ≡ false →
    StepsTouch M (steps_of event (seen_of screen)) screen → ReadTouches M (terminal start screen) text
event_touches M text event screen gives other p =
    run_touches M start text screen
    (rw gives (record { plain = refl; events = (other, tt) })) (rw gives (p, λ next e. tt))

csi_touches : (M : ℕ → ℕ → Type 0) (text : List ℕ) (final : ℕ) (groups : List (List ℕ)) (screen : ScreenValue) →
    IsParameterText text → IsFinal final → (table_of text).groups ≡ groups →
    StepsTouch M (unmarked_steps groups final (seen_of screen)) screen →
    ReadTouches M (terminal start screen) (csi text final)
csi_touches M text final groups screen is is_final table p =
    event_touches M (csi text final) (CsiDispatch groups [] final) screen
    (read_csi text final is is_final.0 is_final.1
    ∙ ap (λ (gs : List (List ℕ)). back_with (CsiDispatch gs [] final ∷ [])) table)
    refl p

-- ---- steps that touch nothing

hidden_touches : (M : ℕ → ℕ → Type 0) (hidden : Bool) (screen : ScreenValue) →
    ReadTouches M (terminal start screen) (bytes_of (Hide hidden))
unfolding read_byte fresh_step class_of table_of groups_of numbers_of number_of private_steps intermediate_steps mode_step
hidden_touches M true screen =
    run_touches M start (bytes_of (Hide true)) screen
    (record { plain = refl; events = (refl, tt) }) ((tt, λ next e. tt), λ next e. tt)
hidden_touches M false screen =
    run_touches M start (bytes_of (Hide false)) screen
    (record { plain = refl; events = (refl, tt) }) ((tt, λ next e. tt), λ next e. tt)

reading_touches : (M : ℕ → ℕ → Type 0) (groups : List (List ℕ)) (reading : Reading) (more : List steps.Step) →
    ((screen : ScreenValue) → StepsTouch M more screen) → (screen : ScreenValue) →
    StepsTouch M (reading_steps groups reading ++ more) screen
reading_touches M groups Silent more p screen = p screen
reading_touches M groups (Set setting) more p screen = (tt, λ next e. p next)
reading_touches M groups Unhandled more p screen = (tt, λ next e. p next)

sgr_touches : (M : ℕ → ℕ → Type 0) (all : List (List ℕ))
    (wanted : Wanted) (groups : List (List ℕ)) (screen : ScreenValue) →
    StepsTouch M (sgr_from all wanted groups) screen
sgr_touches M all wanted [] screen = tt
sgr_touches M all wanted (group ∷ rest) screen =
    let group_reading = group_read wanted group in
    reading_touches M all group_reading.reading (sgr_from all group_reading.wanted rest)
    (λ next. sgr_touches M all group_reading.wanted rest next) screen

-- SGR, CUP and CUF touch nothing.
rendition_touches : (M : ℕ → ℕ → Type 0) (groups : List (List ℕ)) (screen : ScreenValue) →
    StepsTouch M (unmarked_steps groups 0x6D (seen_of screen)) screen
unfolding counted_step scrolling_steps other_steps
rendition_touches M groups screen = sgr_touches M groups Any groups screen

place_touches : (M : ℕ → ℕ → Type 0) (groups : List (List ℕ)) (screen : ScreenValue) →
    StepsTouch M (unmarked_steps groups 0x48 (seen_of screen)) screen
unfolding counted_step scrolling_steps other_steps
place_touches M groups screen = (tt, λ next e. tt)

right_touches : (M : ℕ → ℕ → Type 0) (groups : List (List ℕ)) (screen : ScreenValue) →
    StepsTouch M (unmarked_steps groups 0x43 (seen_of screen)) screen
unfolding counted_step
right_touches M groups screen = (tt, λ next e. tt)

-- Reading a control sequence with a count touches only the positions that its steps touch.
counted_touches : (M : ℕ → ℕ → Type 0) (n final : ℕ) (screen : ScreenValue) → suc n < 2 ^ 16 → IsFinal final →
    ((groups : List (List ℕ)) → number_or 1 0 groups ≡ suc n →
    StepsTouch M (unmarked_steps groups final (seen_of screen)) screen) →
    ReadTouches M (terminal start screen) (counted (suc n) final)
counted_touches M zero final screen h is_final p =
    csi_touches M [] final ((0 ∷ []) ∷ []) screen tt is_final empty_groups (p ((0 ∷ []) ∷ []) refl)
counted_touches M (suc n) final screen h is_final p =
    let count : ℕ = suc (suc n) in
    csi_touches M (decimal count) final ((count ∷ []) ∷ []) screen (decimal_is_parameter count (omega arith))
    is_final (decimal_groups count (omega arith)) (p ((count ∷ []) ∷ []) (count_is count (omega arith))) where
      count_is : (k : ℕ) → 0 < k → number_or 1 0 ((k ∷ []) ∷ []) ≡ k
      count_is k some = let t : (k == 0) ≡ false = grind (arith, nat_tests) in rw t refl

change_touches : (M : ℕ → ℕ → Type 0) (was new : Attrs) (screen : ScreenValue) →
    FitsAttrs new → ReadTouches M (terminal start screen) (change_text was new)
change_touches M was new screen fits = by_case (same_attrs was new) (same_attrs new default_attrs) refl refl where
  by_case : (same plain : Bool) → same_attrs was new ≡ same → same_attrs new default_attrs ≡ plain →
      ReadTouches M (terminal start screen) (change_text was new)
  by_case true plain e f = subst (ReadTouches M (terminal start screen)) (sym (text_same was new e)) tt
  by_case false true e f =
      subst (ReadTouches M (terminal start screen)) (sym (text_plain was new e f))
      (csi_touches M [] 0x6D ((0 ∷ []) ∷ []) screen tt (omega arith, omega arith)
      empty_groups (rendition_touches M ((0 ∷ []) ∷ []) screen))
  by_case false false e f =
      let ns : List ℕ = change_numbers was new in
      let numbers = few_changes was new fits in
      let short = numbers.few in
      let small = All-from_recursion (λ n. n ≤ 65535) ns numbers.small in
      subst (ReadTouches M (terminal start screen)) (sym (text_parts was new e f))
      (csi_touches M (semicolon_list ns) 0x6D (alone ns) screen (joined_is_parameter ns small) (omega arith, omega arith)
      (joined_groups ns (some_changes was new e) (omega arith) small) (rendition_touches M (alone ns) screen))

-- ---- erasing

rest_touches : (M : ℕ → ℕ → Type 0) (screen : ScreenValue) → OpTouches M EraseRest (canvas_of screen) →
    ReadTouches M (terminal start screen) (bytes_of EraseRest)
unfolding counted_step scrolling_steps other_steps row_erasing
rest_touches M screen p =
    csi_touches M [] 0x4B ((0 ∷ []) ∷ []) screen tt (omega arith, omega arith) empty_groups (p, λ next e. tt)

below_touches : (M : ℕ → ℕ → Type 0) (screen : ScreenValue) → OpTouches M EraseBelow (canvas_of screen) →
    ReadTouches M (terminal start screen) (bytes_of EraseBelow)
unfolding counted_step scrolling_steps other_steps page_erasing
below_touches M screen p =
    csi_touches M [] 0x4A ((0 ∷ []) ∷ []) screen tt (omega arith, omega arith) empty_groups
    ((p.0, λ r c low high inside. p.1 r c (omega arith) high inside), λ next e. tt)

chars_touch : (M : ℕ → ℕ → Type 0) (n : ℕ) (groups : List (List ℕ)) (screen : ScreenValue) →
    OpTouches M (EraseChars n) (canvas_of screen) → number_or 1 0 groups ≡ n →
    StepsTouch M (unmarked_steps groups 0x58 (seen_of screen)) screen
unfolding counted_step
chars_touch M n groups screen p e =
    (subst (λ (k : ℕ). PageStepTouches M (page.EraseChars k) screen.page) (sym e) p, λ next f. tt)

-- ---- line feeds

unscrolled : (page : Page) → page.top ≡ 0 → feeds_out page ≡ false → at_bottom page ≡ true → ⊥
unscrolled page top h e =
    let t : (page.top == 0) ≡ true = grind (arith, nat_tests) in
    let out : feeds_out page ≡ true = rw e t in
    let met : true ≡ false = sym out ∙ h in
    cc

feed_touches : (M : ℕ → ℕ → Type 0) (page : Page) → page.top ≡ 0 → feeds_out page ≡ false → FeedTouches M page
feed_touches M page top h e = absurd (unscrolled page top h e)

unfed : (canvas d : Canvas) → canvas_after_line_feed canvas ≡ Some d → feeds_out canvas.page ≡ false
unfed canvas d h = by_case (feeds_out canvas.page) h where
  by_case : (b : Bool) →
      (if b then None else Some (record canvas { page = line_feed canvas.page })) ≡ Some d → b ≡ false
  by_case true e = absurd cc
  by_case false e = refl

line_touches : (M : ℕ → ℕ → Type 0) (screen : ScreenValue) (d : Canvas) → screen.page.top ≡ 0 →
    canvas_after_line_feed (canvas_of screen) ≡ Some d → ReadTouches M (terminal start screen) (0x0A ∷ [])
unfolding fresh_step class_of control_steps
line_touches M screen d top h =
    event_touches M (0x0A ∷ []) (Executed 0x0A) screen refl refl
    (feed_touches M screen.page top (unfed (canvas_of screen) d h), λ next e. tt)

-- ---- strings

unpushed_char : (c : ℕ) (cs : List ℕ) (screen : ScreenValue) (d : Canvas) →
    drawn_text (c ∷ cs) (canvas_of screen) ≡ Some d →
    (pushes c screen.page ≡ false) × (drawn_text cs (canvas_of (display_after (steps.Print c) screen)) ≡ Some d)
unpushed_char c cs screen d h = unpushed (pushes c screen.page) cs (canvas_of (display_after (steps.Print c) screen)) d h

both_true : (a b : Bool) → (a && b) ≡ false → a ≡ true → b ≡ false
both_true true b h e = h
both_true false b h e = absurd cc

print_touches : (M : ℕ → ℕ → Type 0) (c : ℕ) (screen : ScreenValue) → IsDrawn c → screen.page.top ≡ 0 →
    pushes c screen.page ≡ false → CharTouches M (columns_of c) c screen.attrs screen.page →
    ReadTouches M (terminal start screen) (encode_utf8 c)
print_touches M c screen p top quiet touched =
    let range = shown_range c p.shown in
    event_touches M (encode_utf8 c) (Character c) screen (read_written c p.scalar (grind (arith, range))) refl
    (subst (λ (list : List steps.Step). StepsTouch M list screen) (sym (prints c p)) (
      (
        touched,
        λ (on : wraps c screen.page ≡ true). feed_touches M screen.page top
            (both_true (wraps c screen.page) (feeds_out screen.page) quiet on),
      ),
      λ next e. tt,
    ))

text_touches : (M : ℕ → ℕ → Type 0) (cs : List ℕ) (screen : ScreenValue) (d : Canvas) → AllByRecursion IsDrawn cs →
    screen.page.top ≡ 0 → drawn_text cs (canvas_of screen) ≡ Some d → TextTouches M cs (canvas_of screen) →
    ReadTouches M (terminal start screen) (encode_utf8_all cs)
text_touches M [] screen d p top h touched = tt
text_touches M (c ∷ cs) screen d (p, ps) top h touched =
    let next : ScreenValue = display_after (steps.Print c) screen in
    let both = unpushed_char c cs screen d h in
    let drawn_one : drawn_char c (canvas_of screen) ≡ Some (canvas_of next) =
    drawn_kept (pushes c screen.page) (canvas_of next) both.0 in
    let still : next.page.top ≡ 0 = top_printed c screen.attrs screen.page ∙ top in
    touches_then M (terminal start screen) (terminal start next) (encode_utf8 c)
    (encode_utf8_all cs) (print_touches M c screen p top both.0 touched.0)
    (character_read c screen next p (kept (pushes c screen.page) next both.0))
    (text_touches M cs next d ps still both.1 (touched.1 (canvas_of next) drawn_one)) where
      drawn_kept : (b : Bool) (x : Canvas) → b ≡ false → (if b then None else Some x) ≡ Some x
      drawn_kept true x e = absurd cc
      drawn_kept false x e = refl

-- ---- each operation

returned_touches : (M : ℕ → ℕ → Type 0) (screen : ScreenValue) → ReadTouches M (terminal start screen) (0x0D ∷ [])
unfolding fresh_step class_of control_steps
returned_touches M screen = event_touches M (0x0D ∷ []) (Executed 0x0D) screen refl refl (tt, λ next e. tt)

returned_reads : (screen : ScreenValue) →
    terminal_after (terminal start screen) (0x0D ∷ []) ≡ Some (terminal start (with_page (moved Return screen.page) screen))
unfolding read_byte fresh_step class_of control_steps
returned_reads screen = refl

back_touches : (M : ℕ → ℕ → Type 0) (screen : ScreenValue) → ReadTouches M (terminal start screen) (0x08 ∷ [])
unfolding fresh_step class_of control_steps
back_touches M screen = event_touches M (0x08 ∷ []) (Executed 0x08) screen refl refl (tt, λ next e. tt)

saved_touches : (M : ℕ → ℕ → Type 0) (screen : ScreenValue) →
    ReadTouches M (terminal start screen) (bytes_of SaveCursor)
unfolding fresh_step class_of escape_steps
saved_touches M screen =
    run_touches M start (bytes_of SaveCursor) screen
    (record { plain = refl; events = (refl, tt) }) ((tt, λ next e. tt), λ next e. tt)

restored_touches : (M : ℕ → ℕ → Type 0) (screen : ScreenValue) →
    ReadTouches M (terminal start screen) (bytes_of RestoreCursor)
unfolding fresh_step class_of escape_steps
restored_touches M screen =
    run_touches M start (bytes_of RestoreCursor) screen
    (record { plain = refl; events = (refl, tt) }) ((tt, λ next e. tt), λ next e. tt)

pub op_touches : (M : ℕ → ℕ → Type 0) (op : Op) (screen : ScreenValue) (d : Canvas) → Fits op →
    screen.page.top ≡ 0 → canvas_after_op op (canvas_of screen) ≡ Some d → OpTouches M op (canvas_of screen) →
    ReadTouches M (terminal start screen) (bytes_of op)
op_touches M (Hide hidden) screen d f top h p = hidden_touches M hidden screen
op_touches M ClearAttrs screen d f top h p =
    csi_touches M [] 0x6D ((0 ∷ []) ∷ []) screen tt (omega arith, omega arith)
    empty_groups (rendition_touches M ((0 ∷ []) ∷ []) screen)
op_touches M (MoveTo row col) screen d (low, narrow) top h p =
    csi_touches M (place row col) 0x48 (place_groups row col) screen (place_is_parameter row col low narrow)
    (omega arith, omega arith) (place_groups_are row col low narrow) (place_touches M (place_groups row col) screen)
op_touches M (MoveRight zero) screen d f top h p = tt
op_touches M (MoveRight (suc n)) screen d f top h p =
    counted_touches M n 0x43 screen f (omega arith, omega arith) (λ groups e. right_touches M groups screen)
op_touches M NextRow screen d f top h p =
    let next : ScreenValue = with_page (moved Return screen.page) screen in
    touches_then M (terminal start screen) (terminal start next) (0x0D ∷ []) (0x0A ∷ [])
    (returned_touches M screen) (returned_reads screen) (line_touches M next d top h)
op_touches M LineFeed screen d f top h p = line_touches M screen d top h
op_touches M Backspace screen d f top h p = back_touches M screen
op_touches M EraseBelow screen d f top h p = below_touches M screen p
op_touches M EraseRest screen d f top h p = rest_touches M screen p
op_touches M (EraseChars zero) screen d f top h p = tt
op_touches M (EraseChars (suc n)) screen d f top h p =
    counted_touches M n 0x58 screen f (omega arith, omega arith) (λ groups e. chars_touch M (suc n) groups screen p e)
op_touches M SaveCursor screen d f top h p = saved_touches M screen
op_touches M RestoreCursor screen d f top h p = restored_touches M screen
op_touches M (ChangeAttrs was new) screen d f top h p = change_touches M was new screen f.1
op_touches M (Print text) screen d f top h p =
    let cs : List ℕ = f.characters in
    let e : chars text ≡ cs = ap chars (sym f.spelled) ∙ chars-encodes cs (all_scalar cs f.printable) in
    let canvas_after_op : drawn_text cs (canvas_of screen) ≡ Some d =
    subst (λ (ds : List ℕ). drawn_text ds (canvas_of screen) ≡ Some d) e h in
    subst (λ (bytes : List ℕ). ReadTouches M (terminal start screen) bytes) f.spelled
    (text_touches M cs screen d f.printable top canvas_after_op
    (subst (λ (ds : List ℕ). TextTouches M ds (canvas_of screen)) e p))

-- ---- lists of operations, which keep the region's top

text_top : (cs : List ℕ) (canvas d : Canvas) → drawn_text cs canvas ≡ Some d → d.page.top ≡ canvas.page.top
text_top [] canvas d h = let same : canvas ≡ d = cc in ap (λ (z : Canvas). z.page.top) (sym same)
text_top (c ∷ cs) canvas d h =
    let (next, first, rest) = and_then-some (drawn_text cs) (drawn_char c canvas) d h in
    text_top cs next d rest ∙ one (pushes c canvas.page) next first where
      one : (b : Bool) (next : Canvas) →
          (if b then None else Some (record canvas { page = page_after_print c canvas.attrs canvas.page })) ≡ Some next →
          next.page.top ≡ canvas.page.top
      one true next e = absurd cc
      one false next e =
          let same : record canvas { page = page_after_print c canvas.attrs canvas.page } ≡ next = cc in
          ap (λ (z : Canvas). z.page.top) (sym same) ∙ top_printed c canvas.attrs canvas.page

same_top : (e d canvas : Canvas) → Some e ≡ Some d → e.page.top ≡ canvas.page.top → d.page.top ≡ canvas.page.top
same_top e d canvas h p = let same : e ≡ d = cc in ap (λ (z : Canvas). z.page.top) (sym same) ∙ p

fed_top : (canvas d : Canvas) → canvas_after_line_feed canvas ≡ Some d → d.page.top ≡ canvas.page.top
fed_top canvas d h = by_case (feeds_out canvas.page) h where
  by_case : (b : Bool) → (if b then None else Some (record canvas { page = line_feed canvas.page })) ≡ Some d →
      d.page.top ≡ canvas.page.top
  by_case true e = absurd cc
  by_case false e = same_top (record canvas { page = line_feed canvas.page }) d canvas e (top_fed canvas.page)

op_top : (op : Op) (canvas d : Canvas) → canvas_after_op op canvas ≡ Some d → d.page.top ≡ canvas.page.top
op_top (Hide hidden) canvas d h = same_top (record canvas { hidden = hidden }) d canvas h refl
op_top ClearAttrs canvas d h = same_top (record canvas { attrs = default_attrs }) d canvas h refl
op_top (MoveTo row col) canvas d h = same_top (record canvas { page = moved (To row col) canvas.page }) d canvas h refl
op_top (MoveRight zero) canvas d h = same_top canvas d canvas h refl
op_top (MoveRight (suc n)) canvas d h =
    same_top (record canvas { page = moved (Right (suc n)) canvas.page }) d canvas h refl
op_top NextRow canvas d h = fed_top (record canvas { page = moved Return canvas.page }) d h
op_top LineFeed canvas d h = fed_top canvas d h
op_top Backspace canvas d h = same_top (record canvas { page = moved (Left 1) canvas.page }) d canvas h refl
op_top EraseBelow canvas d h =
    same_top (record canvas { page = erased_below canvas.attrs canvas.page })
    d canvas h (top_below canvas.attrs canvas.page)
op_top EraseRest canvas d h =
    same_top (record canvas { page = erased_rest canvas.attrs canvas.page })
    d canvas h (top_rest canvas.attrs canvas.page)
op_top (EraseChars zero) canvas d h = same_top canvas d canvas h refl
op_top (EraseChars (suc n)) canvas d h =
    same_top (record canvas { page = erased_chars (suc n) canvas.attrs canvas.page })
    d canvas h (top_chars (suc n) canvas.attrs canvas.page)
op_top SaveCursor canvas d h =
    same_top (record canvas { page = cursor_saved canvas.page; saved_attrs = canvas.attrs }) d canvas h refl
op_top RestoreCursor canvas d h =
    same_top (record canvas { page = cursor_restored canvas.page; attrs = canvas.saved_attrs }) d canvas h refl
op_top (ChangeAttrs was new) canvas d h =
    same_top (record canvas { attrs = changed_attrs was new canvas.attrs }) d canvas h refl
op_top (Print text) canvas d h = text_top (chars text) canvas d h

pub all_touches : (M : ℕ → ℕ → Type 0) (ops : List Op) (screen : ScreenValue) (d : Canvas) → AllByRecursion Fits ops →
    screen.page.top ≡ 0 → drawn_all ops (canvas_of screen) ≡ Some d → Touches M ops (canvas_of screen) →
    ReadTouches M (terminal start screen) (bytes_of_all ops)
all_touches M [] screen d f top h p = tt
all_touches M (op ∷ ops) screen d (f, fs) top h p =
    let (e, first, more) = and_then-some (drawn_all ops) (canvas_after_op op (canvas_of screen)) d h in
    let here = reads_op op screen e f first in
    let next : ScreenValue = record (with_canvas e screen) { last = here.0 } in
    touches_then M (terminal start screen) (terminal start next) (bytes_of op)
    (bytes_of_all ops) (op_touches M op screen e f top first p.0) here.1
    (all_touches M ops next d fs (op_top op (canvas_of screen) e first ∙ top) more (p.1 e first))

-- ==== The positions that are touched by reading a diff or the output for the cursor.

pub difference_touches : (self prev : ScreenValue) (text : List ℕ) →
    text ≡ display_change prev self → IsScreen self →
    IsColored self → IsSteady (display self) → IsScreen prev → IsColored prev →
    SamePictureSize (display self) (display prev) →
    TouchesOnly (IsReaderOf (display self) (display prev)) text (IsLocal (display self) (display prev))
difference_touches self prev text told is colored steady other colored_other size reader r =
    let picture = display self in
    let before = display prev in
    let May = IsLocal picture before in
    let page = plain_shown reader r.is.sound r.is.plain in
    let plain = r.is.plain.page in
    let draws = difference_draws picture before (canvas_of reader) (shown_is self is)
    steady (shown_is prev other) size plain (sym page ∙ r.shows) in
    let local = difference_local picture before (canvas_of reader) (shown_is self is)
    steady (shown_is prev other) size plain (sym page ∙ r.shows) in
    subst (ReadTouches May _) (sym told)
    (all_touches May (difference picture before) reader (with_saved draws.0 (with_picture picture (canvas_of reader)))
    (difference_fits picture before (shown_is self is) (shown_colored self is colored) colored_other.attrs)
    plain.whole.0 draws.1 local)

pub cursor_touches : (self : ScreenValue) (text : List ℕ) → text ≡ bytes_of_all (cursor_state (display self)) →
    IsScreen self → IsColored self → IsSteady (display self) →
    TouchesOnly (IsReaderOfRows (display self)) text (MayPlace (display self))
cursor_touches self text told is colored steady reader r =
    let picture = display self in
    let May = MayPlace picture in
    let page = plain_shown reader r.is.sound r.is.plain in
    let plain = r.is.plain.page in
    let rows = ap (λ (p : Picture). p.rows) (sym page) ∙ r.shows in
    let width = ap (λ (p : Picture). p.width) (sym page) ∙ sym r.is.size.width in
    let draws = cursor_state_draws picture (canvas_of reader) (shown_is self is) steady plain rows width r.attrs in
    let local = cursor_state_local picture (canvas_of reader) (shown_is self is) steady plain rows width r.attrs in
    subst (ReadTouches May _) (sym told)
    (all_touches May (cursor_state picture) reader (with_saved draws.0 (with_cursor_of picture (canvas_of reader)))
    (cursor_state_fits picture (shown_is self is) (shown_colored self is colored))
    plain.whole.0 draws.1 local)
