-- The steps of each event, and the width of wrapped scrollback rows in any run.
use Rattle.std.proofs.Common.{◌≡◌, ◌≢◌, ℕ, zero, suc, ◌==◌, Bool, true, false, List, [], ◌∷◌, ◌++◌, Option, Some, None}
use Rattle.std.proofs.Common.{refl, ap, replicate, arith, ◌-◌, ◌≤◌, length, take, sym, subst, ◌∙◌}
use Rattle.std.specs.Prelude.{◌||◌, IfSome, if◌then◌else◌, All, option_map}
use Rattle.std.specs.Char.{IsScalar}
use Rattle.std.specs.List.{AllByRecursion}
use Rattle.std.proofs.lemmas.Bool.{eqb-true, false≢true}
use Rattle.std.proofs.lemmas.List.Elements.{All-take, All-weaker}
use Rattle.vt_cells.specs.declared.modes.CursorStyle.{CursorStyle}
use Rattle.vt_rows.specs.Row.{RowValue, IsRow}
use Rattle.vt_scan.specs.Automaton.{State, Event, Character, Executed, EscDispatch, CsiDispatch, OscDispatch, run}
use Rattle.vt_scan.proofs.Characters.{IsCoded, AreCoded, coded_run}
use Rattle.vt_grid.specs.declared.page_step.PageStep.{PageStep}
use Rattle.vt_grid.specs.Page.{Page, IsPage}
use Rattle.vt_grid.specs.Resize.{leaving_count, out_of_view, page_resized, returning_count, scrollback_resized}
use Rattle.vt_grid.specs.Scrollback.{Scrollback, scrollback_after_clear, scrollback_after_push, with_view}
use Rattle.vt_screen.specs.Calls.{CallValue}
use Rattle.vt_screen.specs.Screen.{ScreenValue, IsPrintable, IsScreen, above_page, fresh_screen, scrolled_back}
use Rattle.vt_screen.specs.Sgr.{group_read}
use Rattle.vt_screen.specs.Streamed.{HasNoRis, ris, row_of_call, sent_off_in, HasWideFlags}
use Rattle.vt_screen.specs.CallsOfRun.{calls_in, screen_in, screen_after_all, steps_in, steps_of_all}
use Rattle.vt_screen.specs.Controls.{alternate_step, character_steps, clipboard_steps, control_steps, counted_step}
use Rattle.vt_screen.specs.Controls.{csi_steps, escape_steps, fresh_alternate_step, intermediate_steps, intermediate_at}
use Rattle.vt_screen.specs.Controls.{mode_step, mode_steps, named_steps, number_or, one_or, osc_steps, other_steps}
use Rattle.vt_screen.specs.Controls.{page_erasing, unmarked_steps, private_steps, reading_steps, repeated, row_erasing}
use Rattle.vt_screen.specs.Controls.{scrolling_steps, Seen, seen_of, sgr_from, space_steps, steps_of, style_steps}
use Rattle.vt_screen.specs.Controls.{window_steps}
use Rattle.vt_screen.specs.Steps.{Step, Print, OnPage, Reset, CallBack, EraseScrollback, screen_after}
use Rattle.vt_screen.specs.declared.sgr.Reading.{Reading}
use Rattle.vt_screen.specs.declared.sgr.Reading.TheVariants.{Silent, Set, Unhandled}
use Rattle.vt_screen.specs.declared.sgr.Wanted.{Wanted}
use Rattle.vt_screen.specs.Pages.{above_aside, fresh_page, has_size, main_page, page_aside, screen_after_reset}
use Rattle.vt_screen.specs.Pages.{screen_after_resize}
use Rattle.vt_screen.proofs.Streaming.{ScannerValue, IsAmong, Streamed, steps_stream, IsLike, held_screen, like_aside}
use Rattle.vt_screen.proofs.Streaming.{like_fresh}
use Rattle.vt_screen.proofs.TrailingBlanks.{IsWide, AreSound, wide_pushed, wide_viewed}
use Rattle.vt_screen.proofs.SizePage.{same_itself}
use Rattle.vt_screen.proofs.SizeRuns.{width_is}
use Rattle.vt_screen.proofs.ReadTexts.{stepped_then}

-- ==== The steps of each event: what they print, whether they reset the screen, and that they don't report rows
-- directly.

-- All steps of the list are allowed: their characters satisfy Q, and they reset the screen only if R holds.
pub record AllAmong (Q : ℕ → Type 0) (R : Type 0) (steps : List Step) : Type 0 where
  pub all : AllByRecursion (IsAmong Q R) steps

-- The event is allowed: the character that it prints satisfies Q, and it resets the screen only if R holds.
pub record Allows (Q : ℕ → Type 0) (R : Type 0) (event : Event) : Type 0 where
  pub prints : (c : ℕ) → event ≡ Character c → IsPrintable c → Q c
  pub resets : event ≡ ris → R

pub none : {Q : ℕ → Type 0} {R : Type 0} → AllAmong Q R []
none = record { all = tt }

own : {Q : ℕ → Type 0} {R : Type 0} → (x : Step) → IsAmong Q R x → AllAmong Q R (x ∷ [])
own x i = record { all = (i, tt) }

told : {Q : ℕ → Type 0} {R : Type 0} → (call : CallValue) → row_of_call call ≡ [] → AllAmong Q R (CallBack call ∷ [])
told call e = record { all = (e, tt) }

all_if : {Q : ℕ → Type 0} {R : Type 0} → (b : Bool) (xs ys : List Step) → AllAmong Q R xs → AllAmong Q R ys
    → AllAmong Q R (if b then xs else ys)
all_if true xs ys p q = p
all_if false xs ys p q = q

all_where : {Q : ℕ → Type 0} {R : Type 0} → (b : Bool) (xs ys : List Step) → (b ≡ true → AllAmong Q R xs)
    → (b ≡ false → AllAmong Q R ys) → AllAmong Q R (if b then xs else ys)
all_where true xs ys f g = f refl
all_where false xs ys f g = g refl

pub all_then : {Q : ℕ → Type 0} {R : Type 0} → (xs ys : List Step) → AllAmong Q R xs → AllAmong Q R ys
    → AllAmong Q R (xs ++ ys)
all_then [] ys p q = q
all_then (x ∷ xs) ys p q = record { all = (p.all.0, (all_then xs ys (record { all = p.all.1 }) q).all) }

-- ---- characters, controls and escape sequences

printable : (c : ℕ) (b : Bool) → IsScalar c → ((c == 0xFFFD) || b) ≡ false → IsPrintable c
printable c b scalar e = (scalar, λ same. grind (arith))

stream_character : {Q : ℕ → Type 0} {R : Type 0} → (c : ℕ) → IsScalar c → (IsPrintable c → Q c)
    → AllAmong Q R (character_steps c)
unfolding character_steps
stream_character c scalar prints = search (all_where, own, printable, prints) depth 8

stream_control : {Q : ℕ → Type 0} {R : Type 0} → (b : ℕ) → AllAmong Q R (control_steps b)
unfolding control_steps
stream_control b = search (all_if, own, none) depth 20

starts_anew : {Q : ℕ → Type 0} {R : Type 0} → (b : ℕ) → (EscDispatch [] b ≡ ris → R) → (b == 0x63) ≡ true
    → AllAmong Q R (Reset ∷ [])
starts_anew b resets is = own Reset (resets (ap (EscDispatch []) (eqb-true b 0x63 is)))

stream_escape : {Q : ℕ → Type 0} {R : Type 0} → (marks : List ℕ) (b : ℕ) → (EscDispatch marks b ≡ ris → R)
    → AllAmong Q R (escape_steps marks b)
unfolding escape_steps
stream_escape [] b resets = search (all_where, own, starts_anew) depth 20
stream_escape (mark ∷ marks) b resets = (told _ refl)

-- ---- control sequences

stream_reading : {Q : ℕ → Type 0} {R : Type 0} → (groups : List (List ℕ)) (reading : Reading)
    → AllAmong Q R (reading_steps groups reading)
stream_reading groups Silent = none
stream_reading groups (Set setting) = (own _ tt)
stream_reading groups Unhandled = (told _ refl)

stream_sgr : {Q : ℕ → Type 0} {R : Type 0} → (groups : List (List ℕ)) (wanted : Wanted) (rest : List (List ℕ))
    → AllAmong Q R (sgr_from groups wanted rest)
stream_sgr groups wanted [] = none
stream_sgr groups wanted (group ∷ rest) =
    let read = group_read wanted group in
    all_then (reading_steps groups read.reading) (sgr_from groups read.wanted rest)
    (stream_reading groups read.reading) (stream_sgr groups read.wanted rest)

stream_page_erasing : {Q : ℕ → Type 0} {R : Type 0} → (report : CallValue) (n : ℕ) → row_of_call report ≡ []
    → AllAmong Q R (page_erasing report n)
unfolding page_erasing
stream_page_erasing report n e = search (all_if, own) depth 20

stream_row_erasing : {Q : ℕ → Type 0} {R : Type 0} → (report : CallValue) (n : ℕ) → row_of_call report ≡ []
    → AllAmong Q R (row_erasing report n)
unfolding row_erasing
stream_row_erasing report n e = search (all_if, own) depth 20

stream_window : {Q : ℕ → Type 0} {R : Type 0} → (groups : List (List ℕ)) (seen : Seen)
    → AllAmong Q R (window_steps groups seen)
unfolding window_steps
stream_window groups seen = search (all_if, own) depth 20

stream_repeated : {Q : ℕ → Type 0} {R : Type 0} → (n : ℕ) (last : Option ℕ) → IfSome last Q
    → AllAmong Q R (repeated n last)
stream_repeated n None k = none
stream_repeated {Q} {R} n (Some c) k = by n where
  by : (n : ℕ) → AllAmong Q R (replicate n (Print c))
  by zero = none
  by (suc n) = record { all = (k, (by n).all) }

stream_other : {Q : ℕ → Type 0} {R : Type 0} → (groups : List (List ℕ)) (b : ℕ) (seen : Seen)
    → AllAmong Q R (other_steps groups b seen)
unfolding other_steps
stream_other groups b seen =
    search (all_if, own, stream_page_erasing, stream_row_erasing, stream_sgr, stream_window) depth 20

stream_scrolling : {Q : ℕ → Type 0} {R : Type 0} → (groups : List (List ℕ)) (b : ℕ) (seen : Seen)
    → IfSome seen.last Q → AllAmong Q R (scrolling_steps groups b seen)
unfolding scrolling_steps
stream_scrolling groups b seen k = search (all_if, own, stream_other, stream_repeated) depth 20

stream_one_or : {Q : ℕ → Type 0} {R : Type 0} → (step : Option PageStep) (others : List Step) → AllAmong Q R others
    → AllAmong Q R (one_or step others)
stream_one_or (Some step) others q = own (OnPage step) tt
stream_one_or None others q = q

stream_plain : {Q : ℕ → Type 0} {R : Type 0} → (groups : List (List ℕ)) (b : ℕ) (seen : Seen) → IfSome seen.last Q
    → AllAmong Q R (unmarked_steps groups b seen)
stream_plain groups b seen k =
    stream_one_or (counted_step b (number_or 1 0 groups)) (scrolling_steps groups b seen)
    (stream_scrolling groups b seen k)

-- ---- modes and other marked sequences

stream_style : {Q : ℕ → Type 0} {R : Type 0} → (report : CallValue) (look : Option CursorStyle) → row_of_call report ≡ []
    → AllAmong Q R (style_steps report look)
stream_style report (Some look) e = (own _ tt)
stream_style report None e = (told _ e)

stream_alternate : {Q : ℕ → Type 0} {R : Type 0} → (on : Bool) → AllAmong Q R (alternate_step on ∷ [])
stream_alternate true = (own _ tt)
stream_alternate false = (own _ tt)

stream_fresh : {Q : ℕ → Type 0} {R : Type 0} → (on : Bool) → AllAmong Q R (fresh_alternate_step on ∷ [])
stream_fresh true = (own _ tt)
stream_fresh false = (own _ tt)

stream_mode : {Q : ℕ → Type 0} {R : Type 0} → (on : Bool) (report : CallValue) (n : ℕ) → row_of_call report ≡ []
    → AllAmong Q R (mode_step on report n)
unfolding mode_step
stream_mode on report n e = search (all_if, own, stream_alternate, stream_fresh) depth 20

stream_modes : {Q : ℕ → Type 0} {R : Type 0} → (on : Bool) (report : CallValue) (groups : List (List ℕ))
    → row_of_call report ≡ [] → AllAmong Q R (mode_steps on report groups)
stream_modes on report [] e = none
stream_modes on report ([] ∷ groups) e = record { all = (e, (stream_modes on report groups e).all) }
stream_modes on report ((n ∷ []) ∷ groups) e =
    all_then (mode_step on report n) (mode_steps on report groups)
    (stream_mode on report n e) (stream_modes on report groups e)
stream_modes on report ((n ∷ m ∷ more) ∷ groups) e = record { all = (e, (stream_modes on report groups e).all) }

stream_private : {Q : ℕ → Type 0} {R : Type 0} → (second : Option ℕ) (groups : List (List ℕ)) (b : ℕ)
    → AllAmong Q R (private_steps second groups b)
unfolding private_steps
stream_private second groups b = search (all_if, own, stream_modes, stream_page_erasing, stream_row_erasing) depth 20

stream_space : {Q : ℕ → Type 0} {R : Type 0} → (second : Option ℕ) (groups : List (List ℕ)) (b : ℕ)
    → AllAmong Q R (space_steps second groups b)
unfolding space_steps
stream_space second groups b = search (all_if, own, stream_style) depth 20

stream_marked : {Q : ℕ → Type 0} {R : Type 0} → (mark : ℕ) (second : Option ℕ) (groups : List (List ℕ)) (b : ℕ)
    → AllAmong Q R (intermediate_steps mark second groups b)
unfolding intermediate_steps
stream_marked mark second groups b = search (all_if, own, stream_private, stream_space) depth 20

stream_csi : {Q : ℕ → Type 0} {R : Type 0} → (groups : List (List ℕ)) (marks : List ℕ) (b : ℕ) (seen : Seen)
    → IfSome seen.last Q → AllAmong Q R (csi_steps groups marks b seen)
stream_csi groups [] b seen k = stream_plain groups b seen k
stream_csi groups (mark ∷ marks) b seen k = stream_marked mark (intermediate_at 0 marks) groups b

-- ---- operating system commands

stream_named : {Q : ℕ → Type 0} {R : Type 0} → (name text : List ℕ) → AllAmong Q R (named_steps name text)
unfolding named_steps
stream_named name text = search (all_if, own) depth 20

stream_clipboard : {Q : ℕ → Type 0} {R : Type 0} → (name kind text : List ℕ)
    → AllAmong Q R (clipboard_steps name kind text)
unfolding clipboard_steps
stream_clipboard name kind text = search (all_if, own) depth 20

stream_osc : {Q : ℕ → Type 0} {R : Type 0} → (parts : List (List ℕ)) → AllAmong Q R (osc_steps parts)
stream_osc [] = (told _ refl)
stream_osc (name ∷ []) = (told _ refl)
stream_osc (name ∷ text ∷ []) = stream_named name text
stream_osc (name ∷ kind ∷ text ∷ []) = stream_clipboard name kind text
stream_osc (name ∷ kind ∷ text ∷ more ∷ parts) = (told _ refl)

pub stream_event : {Q : ℕ → Type 0} {R : Type 0} → (event : Event) (seen : Seen) → IsCoded event → Allows Q R event
    → IfSome seen.last Q → AllAmong Q R (steps_of event seen)
stream_event (Character c) seen coded allows k = stream_character c coded (allows.prints c refl)
stream_event (Executed b) seen coded allows k = stream_control b
stream_event (EscDispatch marks b) seen coded allows k = stream_escape marks b allows.resets
stream_event (CsiDispatch groups marks b) seen coded allows k = stream_csi groups marks b seen k
stream_event (OscDispatch parts) seen coded allows k = stream_osc parts

-- ---- events in sequence

pub stream_events : (events : List Event) (s : ScreenValue) → AreCoded events
    → AllByRecursion (λ event. event ≢ ris) events → ScannerValue s → AllAmong IsPrintable ⊥ (steps_of_all events s)
stream_events [] s coded others k = none
stream_events (event ∷ events) s coded others k =
    let steps = steps_of event (seen_of s) in
    let now : AllAmong IsPrintable ⊥ steps =
    stream_event event (seen_of s) coded.0 (record { prints = λ c e is. is; resets = others.0 }) k.last in
    let there = steps_stream steps s now.all k in
    all_then steps (steps_of_all events (screen_after_all steps s)) now
    (stream_events events (screen_after_all steps s) coded.1 others.1 there.held)

-- The rows that a run without RIS reports, keeps in scrollback and scrolls off.
pub run_streams : (scan : State) (s : ScreenValue) (bytes : List ℕ) → HasNoRis scan bytes → ScannerValue s
    → Streamed (calls_in scan s bytes) (sent_off_in scan s bytes) s (screen_in scan s bytes)
run_streams scan s bytes others k =
    steps_stream (steps_in scan s bytes) s
    (stream_events (run scan bytes).events s (coded_run scan bytes) others k).all k

-- ==== Wrapped scrollback rows stay at least as wide as the screen: during any run, when the view is scrolled back, and
-- after a resize to a width that is not greater.

pub wide_fresh : (rows cols capacity : ℕ) → HasWideFlags (fresh_screen rows cols capacity)
wide_fresh rows cols capacity = λ i d h. absurd (omega (arith, h))

-- ---- runs, with RIS among their events or not

is_ris : Event → Bool
is_ris (EscDispatch [] b) = b == 0x63
is_ris _ = false

ris_is : (event : Event) → is_ris event ≡ true → event ≡ ris
unfolding is_ris
ris_is (EscDispatch [] b) e = ap (EscDispatch []) (eqb-true b 0x63 e)
ris_is (EscDispatch (mark ∷ marks) b) e = absurd (false≢true e)
ris_is (Character c) e = absurd (false≢true e)
ris_is (Executed b) e = absurd (false≢true e)
ris_is (CsiDispatch groups marks b) e = absurd (false≢true e)
ris_is (OscDispatch parts) e = absurd (false≢true e)

not_ris : (event : Event) → is_ris event ≡ false → event ≢ ris
unfolding is_ris
not_ris event e same = false≢true (sym e ∙ ap is_ris same)

held_reset : (s : ScreenValue) → ScannerValue s → ScannerValue (screen_after_reset s)
held_reset s k = record {
  sound = fresh.sound;
  other = by s.other;
  rows = λ i d h. absurd (omega (arith, h));
  wide = λ i d h. absurd (omega (arith, h));
  last = tt;
} where
  fresh : IsLike s.page (fresh_page s)
  fresh = like_fresh s.page k.sound

  by : (o : Option Page) → IfSome (option_map (λ _. fresh_page s) o) (IsLike (fresh_page s))
  by (Some page) = record { sound = fresh.sound; same = same_itself (fresh_page s) }
  by None = tt

held_ris : (s : ScreenValue) → ScannerValue s → ScannerValue (screen_after_all (steps_of ris (seen_of s)) s)
unfolding escape_steps
held_ris s k = held_reset s k

held_event : (event : Event) (s : ScreenValue) → IsCoded event → ScannerValue s
    → ScannerValue (screen_after_all (steps_of event (seen_of s)) s)
held_event event s coded k = by_test (is_ris event) refl where
  streamed : event ≢ ris → AllAmong IsPrintable ⊥ (steps_of event (seen_of s))
  streamed other = stream_event event (seen_of s) coded (record { prints = λ c e is. is; resets = other }) k.last

  by_test : (b : Bool) → is_ris event ≡ b → ScannerValue (screen_after_all (steps_of event (seen_of s)) s)
  by_test true e =
      subst (λ (x : Event). ScannerValue (screen_after_all (steps_of x (seen_of s)) s)) (sym (ris_is event e)) (held_ris s k)
  by_test false e = (steps_stream (steps_of event (seen_of s)) s (streamed (not_ris event e)).all k).held

held_events : (events : List Event) (s : ScreenValue) → AreCoded events → ScannerValue s
    → ScannerValue (screen_after_all (steps_of_all events s) s)
held_events [] s coded k = k
held_events (event ∷ events) s coded k =
    let steps = steps_of event (seen_of s) in
    let there = screen_after_all steps s in
    subst (λ (t : ScreenValue). ScannerValue t) (sym (stepped_then steps (steps_of_all events there) s))
    (held_events events there coded.1 (held_event event s coded.0 k))

pub wide_run : (scan : State) (s : ScreenValue) (bytes : List ℕ) → IsScreen s → HasWideFlags s
    → HasWideFlags (screen_in scan s bytes)
wide_run scan s bytes is wide =
    (held_events (run scan bytes).events s (coded_run scan bytes) (held_screen s is wide)).wide

-- ---- scrollback on its own

pub wide_view : (n : ℕ) (s : ScreenValue) → HasWideFlags s → HasWideFlags (scrolled_back n s)
wide_view n s wide = by s.is_alternate where
  by : (b : Bool) → HasWideFlags (if b then s
      else record s { scrollback = with_view (length s.page.rows) s.page.width n s.scrollback })
  by true = wide
  by false = wide_viewed (length s.page.rows) s.page.width n s.scrollback wide

pub wide_cleared : (s : ScreenValue) → HasWideFlags s → HasWideFlags (screen_after EraseScrollback s)
wide_cleared s wide = by s.is_alternate where
  by : (b : Bool) → HasWideFlags (if b then s else record s { scrollback = scrollback_after_clear s.scrollback })
  by true = wide
  by false = λ i d h. absurd (omega (arith, h))

-- ---- resizing

wide_above : (rows : ℕ) (page : Page) (above : Scrollback) → IsPage page → AreSound above.rows
    → All (IsWide page.width) above.rows → All (IsWide page.width) (scrollback_resized rows page above).rows
unfolding scrollback_resized
wide_above rows page above p sound wide =
    let gone = take (leaving_count rows page) page.rows in
    let now = scrollback_after_push (length page.rows) page.width gone (out_of_view above) in
    All-take (IsWide page.width) (length now.rows - returning_count rows above page) now.rows
    (wide_pushed (length page.rows) page.width gone (out_of_view above)
    (All-take (IsRow page.width) (leaving_count rows page) page.rows p.rows) sound wide)

wide_less : (n m : ℕ) (rows : List RowValue) → n ≤ m → All (IsWide m) rows → All (IsWide n) rows
wide_less n m rows le all =
    All-weaker (IsWide m) (IsWide n) (λ row w h. let wide = w h in omega (arith, le, wide)) rows all

like_main : (s : ScreenValue) → ScannerValue s → IsLike s.page (main_page s)
like_main s k = by s.is_alternate where
  by : (b : Bool) → IsLike s.page (if b then page_aside s else s.page)
  by true = like_aside s k
  by false = record { sound = k.sound; same = same_itself s.page }

pub wide_resized : (rows cols : ℕ) (s : ScreenValue) → IsScreen s → cols ≤ s.page.width → HasWideFlags s
    → HasWideFlags (screen_after_resize rows cols s)
wide_resized rows cols s is le wide = by (has_size rows cols s) where
  new : ScreenValue
  new = record s {
    page = page_resized rows cols (above_page s) s.page;
    other = option_map (page_resized rows cols (above_aside s)) s.other;
    scrollback = scrollback_resized rows (main_page s) s.scrollback;
  }

  like : IsLike s.page (main_page s)
  like = like_main s (held_screen s is wide)

  all : All (IsWide (main_page s).width) new.scrollback.rows
  all = wide_above rows (main_page s) s.scrollback like.sound is.scrollback.sound
      (subst (λ (width : ℕ). All (IsWide width) s.scrollback.rows) (sym like.same.width) wide)

  narrow : cols ≤ (main_page s).width
  narrow = let same = like.same.width in omega (arith, le, same)

  by : (b : Bool) → HasWideFlags (if b then s else new)
  by true = wide
  by false =
      subst (λ (width : ℕ). All (IsWide width) new.scrollback.rows) (sym (width_is rows cols (above_page s) s.page))
      (wide_less cols (main_page s).width new.scrollback.rows narrow all)
