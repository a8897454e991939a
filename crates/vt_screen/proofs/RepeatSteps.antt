-- Output in which a run is written with REP is read like the output with the run written out.
use Rattle.std.proofs.Common.{◌≡◌, inl, inr, ℕ, zero, suc, ◌+◌, ◌<◌, ◌≤◌, ◌==◌, nat_le, Bool, true, false}
use Rattle.std.proofs.Common.{List, [], ◌∷◌, ◌++◌, length, map, replicate, refl, sym, ap, ap₂, subst, ◌∙◌, append-nil}
use Rattle.std.proofs.Common.{arith}
use Rattle.std.specs.Char.{IsScalar, encode_utf8}
use Rattle.std.specs.Prelude.{Option, Some, None, decimal, if◌then◌else◌}
use Rattle.std.specs.List.{AllByRecursion}
use Rattle.std.proofs.lemmas.Bool.Decides.{nat_tests}
use Rattle.vt_cells.specs.Glyph.{columns_of}
use Rattle.vt_grid.specs.Canvas.{and_then}
use Rattle.vt_redraw.specs.Fits.{IsDrawn}
use Rattle.vt_scan.specs.Automaton.{State, Step, Event, Character, CsiDispatch, start, run}
use Rattle.vt_scan.specs.Texts.{back_with}
use Rattle.vt_scan.proofs.Readback.{read_text, read_written, run-append, read_csi}
use Rattle.vt_scan.proofs.ParameterNumbers.{decimal_groups, decimal_is_parameter}
use Rattle.vt_screen.specs.CallsOfRun.{screen_after_all, screen_in, steps_in, steps_of_all}
use Rattle.vt_screen.specs.Controls.{counted_step, number_or, repeated, scrolling_steps, seen_of, steps_of}
use Rattle.vt_screen.specs.Internals.{IsSized, HasRoom, KeepsRoom}
use Rattle.vt_screen.specs.Reading.{Terminal, quiet_events, quiet_step, quiet_steps, terminal, terminal_after}
use Rattle.vt_screen.specs.Repeating.{IsNarrow, RepeatInRows, copies, repeat_text, repetitions}
use Rattle.vt_screen.specs.Screen.{ScreenValue}
use Rattle.vt_screen.specs.Steps.{Step as Action, EraseScrollback, EnterAlternate, EnterFresh, LeaveAlternate, LeaveRestoring}
use Rattle.vt_screen.specs.Steps.{CallBack, HideCursor, LineFeed, OnPage, Print, Render, Reset, RestoreCursor, SaveCursor, ScrollUp, SetMode}
use Rattle.vt_screen.specs.Steps.{becomes_last, display_after, last_after, rows_scrolled_off, screen_after}
use Rattle.vt_grid.specs.Scrollback.{Scrollback, scrollback_after_clear, scrollback_after_push}
use Rattle.vt_screen.proofs.CallsNone.{read_run}
use Rattle.vt_screen.proofs.ReadOperations.{prints, shown_range}
use Rattle.vt_screen.proofs.ReadTexts.{IsCalm, NoCommands, reads_append, run_read, screen_in_then, stepped_then}
use Rattle.vt_screen.proofs.ReadTexts.{steps_in_then}
use Rattle.vt_screen.proofs.RepeatRooms.{keeps_narrow}
use Rattle.vt_screen.proofs.SizeRuns.{sized_sent, sized_stepped}

-- ---- sizes

sized_step : (height width : ℕ) (step : Action) (screen : ScreenValue) → IsSized height width screen →
    IsSized height width (screen_after step screen)
sized_step height width (Print c) screen z = sized_sent height width (Print c) screen z
sized_step height width LineFeed screen z = sized_sent height width LineFeed screen z
sized_step height width (ScrollUp n) screen z = sized_sent height width (ScrollUp n) screen z
sized_step height width EraseScrollback screen z = by_page screen.is_alternate where
  by_page : (b : Bool) →
      IsSized height width (if b then screen else record screen { scrollback = scrollback_after_clear screen.scrollback })
  by_page true = z
  by_page false = record { page = z.page; other = z.other }
sized_step height width (OnPage x) screen z = sized_stepped height width (OnPage x) screen z
sized_step height width SaveCursor screen z = sized_stepped height width SaveCursor screen z
sized_step height width RestoreCursor screen z = sized_stepped height width RestoreCursor screen z
sized_step height width EnterAlternate screen z = sized_stepped height width EnterAlternate screen z
sized_step height width EnterFresh screen z = sized_stepped height width EnterFresh screen z
sized_step height width LeaveAlternate screen z = sized_stepped height width LeaveAlternate screen z
sized_step height width LeaveRestoring screen z = sized_stepped height width LeaveRestoring screen z
sized_step height width Reset screen z = sized_stepped height width Reset screen z
sized_step height width (Render setting) screen z = sized_stepped height width (Render setting) screen z
sized_step height width (HideCursor hidden) screen z = sized_stepped height width (HideCursor hidden) screen z
sized_step height width (SetMode x) screen z = sized_stepped height width (SetMode x) screen z
sized_step height width (CallBack call) screen z = z

sized_all : (height width : ℕ) (steps : List Action) (screen : ScreenValue) → IsSized height width screen →
    IsSized height width (screen_after_all steps screen)
sized_all height width [] screen z = z
sized_all height width (step ∷ steps) screen z =
    sized_all height width steps (screen_after step screen) (sized_step height width step screen z)

-- Reading bytes keeps the size.
pub sized_in : (height width : ℕ) (scan : State) (screen : ScreenValue) (text : List ℕ) → IsSized height width screen →
    IsSized height width (screen_in scan screen text)
sized_in height width scan screen text z = sized_all height width (steps_in scan screen text) screen z

-- ---- room

pub keeps_then : (width a b c : ℕ) (text rest : List ℕ) → KeepsRoom width a b text → KeepsRoom width b c rest →
    KeepsRoom width a c (text ++ rest)
keeps_then width a b c text rest first second =
    let both : (run start (text ++ rest)).state ≡ (run start rest).state =
    ap (λ (s : Step). s.state) (run-append start text rest) ∙ ap (λ (s : State). (run s rest).state) first.ground in record {
      ground = both ∙ second.ground;
      room = λ height screen z has.
          subst (HasRoom width c)
          (sym (screen_in_then start screen text rest
          ∙ ap (λ (s : State). screen_in s (screen_in start screen text) rest) first.ground))
          (second.room height (screen_in start screen text) (sized_in height width start screen text z)
          (first.room height screen z has));
    }

-- ---- the same steps

-- A terminal takes the same steps for both outputs.
pub record AlikeFrom (scan : State) (screen : ScreenValue) (plain text : List ℕ) : Type 0 where
  pub state : (run scan text).state ≡ (run scan plain).state
  pub steps : steps_in scan screen text ≡ steps_in scan screen plain
  pub reads : terminal_after (terminal scan screen) text ≡ terminal_after (terminal scan screen) plain

pub alike_itself : (scan : State) (screen : ScreenValue) (text : List ℕ) → AlikeFrom scan screen text text
alike_itself scan screen text = record { state = refl; steps = refl; reads = refl }

pub alike_then : (scan : State) (screen : ScreenValue) (p t q u : List ℕ) → AlikeFrom scan screen p t →
    AlikeFrom (run scan p).state (screen_in scan screen p) q u → AlikeFrom scan screen (p ++ q) (t ++ u)
alike_then scan screen p t q u a b = record {
  state =
      ap (λ (s : Step). s.state) (run-append scan t u)
      ∙ ap (λ (s : State). (run s u).state) a.state
      ∙ b.state
      ∙ sym (ap (λ (s : Step). s.state) (run-append scan p q));
  steps =
      steps_in_then scan screen t u
      ∙ ap (λ (s : State). steps_in scan screen t ++ steps_in s (screen_in scan screen t) u) a.state
      ∙ ap (λ (xs : List Action). xs ++ steps_in (run scan p).state (screen_after_all xs screen) u) a.steps
      ∙ ap (λ (xs : List Action). steps_in scan screen p ++ xs) b.steps
      ∙ sym (steps_in_then scan screen p q);
  reads =
      reads_append (terminal scan screen) t u
      ∙ ap (and_then (λ (w : Terminal). terminal_after w u)) a.reads
      ∙ by_first (terminal_after (terminal scan screen) p) refl
      ∙ sym (reads_append (terminal scan screen) p q);
}
  where
    by_first : (o : Option Terminal) → terminal_after (terminal scan screen) p ≡ o →
        and_then (λ (w : Terminal). terminal_after w u) o ≡ and_then (λ (w : Terminal). terminal_after w q) o
    by_first None e = refl
    by_first (Some v) e =
        let ran = read_run p (terminal scan screen) v e in
        let there : terminal (run scan p).state (screen_in scan screen p) ≡ v =
        ap₂ terminal ran.state ran.steps.becomes in
        subst (λ (w : Terminal). terminal_after w u ≡ terminal_after w q) there b.reads

-- ---- a run

drawn_low : (c : ℕ) → IsDrawn c → 0x20 ≤ c
drawn_low c is = let range = shown_range c is.shown in grind (arith, range)

all_read : (n c : ℕ) → IsDrawn c → AllByRecursion (λ c. IsScalar c × (0x20 ≤ c)) (replicate n c)
all_read zero c is = tt
all_read (suc n) c is = ((is.scalar, drawn_low c is), all_read n c is)

-- The events of a character that is written several times.
abbrev pub printed : (n c : ℕ) → List Event
printed n c = map Character (replicate n c)

pub copies_read : (n c : ℕ) → IsDrawn c → run start (copies n c) ≡ back_with (printed n c)
copies_read n c is = read_text (replicate n c) (all_read n c is)

pub repeat_read : (n : ℕ) → n ≤ 65535 → run start (repeat_text n) ≡ back_with (CsiDispatch ((n ∷ []) ∷ []) [] 0x62 ∷ [])
repeat_read n h =
    read_csi (decimal n) 0x62 (decimal_is_parameter n h) (omega arith) (omega arith)
    ∙ ap (λ (groups : List (List ℕ)). back_with (CsiDispatch groups [] 0x62 ∷ [])) (decimal_groups n h)

pub count_itself : (n : ℕ) → 0 < n → number_or 1 0 ((n ∷ []) ∷ []) ≡ n
count_itself n h = let t : (n == 0) ≡ false = grind (arith, nat_tests) in rw t refl

pub repeat_steps : (n c : ℕ) (screen : ScreenValue) → 0 < n → screen.last ≡ Some c →
    steps_of (CsiDispatch ((n ∷ []) ∷ []) [] 0x62) (seen_of screen) ≡ replicate n (Print c)
unfolding counted_step scrolling_steps
repeat_steps n c screen h last =
    ap (λ (o : Option ℕ). repeated (number_or 1 0 ((n ∷ []) ∷ [])) o) last
    ∙ ap (λ (k : ℕ). replicate k (Print c)) (count_itself n h)

pub copies_steps : (n c : ℕ) (screen : ScreenValue) → IsDrawn c → steps_of_all (printed n c) screen ≡ replicate n (Print c)
copies_steps zero c screen is = refl
copies_steps (suc n) c screen is =
    ap (λ (xs : List Action). xs ++ steps_of_all (printed n c) (screen_after_all xs screen)) (prints c is)
    ∙ ap (λ (xs : List Action). Print c ∷ xs) (copies_steps n c (screen_after (Print c) screen) is)

then_some : {A : Type 0} (o : Option A) → and_then Some o ≡ o
then_some None = refl
then_some (Some x) = refl

copies_quiet : (n c : ℕ) (screen : ScreenValue) → IsDrawn c →
    quiet_events (printed n c) screen ≡ quiet_steps (replicate n (Print c)) screen
copies_quiet zero c screen is = refl
copies_quiet (suc n) c screen is =
    ap (λ (xs : List Action). and_then (quiet_events (printed n c)) (quiet_steps xs screen)) (prints c is)
    ∙ by_first (quiet_step (Print c) screen) (λ s. copies_quiet n c s is)
  where
    by_first : (o : Option ScreenValue) →
        ((s : ScreenValue) → quiet_events (printed n c) s ≡ quiet_steps (replicate n (Print c)) s) →
        and_then (quiet_events (printed n c)) (and_then (quiet_steps []) o)
        ≡ and_then (quiet_steps (replicate n (Print c))) o
    by_first None same = refl
    by_first (Some s) same = same s

no_commands : (n c : ℕ) → NoCommands (printed n c)
no_commands zero c = tt
no_commands (suc n) c = (refl, no_commands n c)

-- REP is read like the characters that it stands for.
repeated_alike : (n c : ℕ) (screen : ScreenValue) → 0 < n → n ≤ 65535 → IsDrawn c → screen.last ≡ Some c →
    AlikeFrom start screen (copies n c) (repeat_text n)
repeated_alike n c screen some fits is last =
    let event = CsiDispatch ((n ∷ []) ∷ []) [] 0x62 in
    let full = copies_read n c is in
    let short = repeat_read n fits in
    let steps = repeat_steps n c screen some last in record {
      state = ap (λ (s : Step). s.state) short ∙ sym (ap (λ (s : Step). s.state) full);
      steps =
          ap (λ (s : Step). steps_of_all s.events screen) short
          ∙ append-nil (steps_of event (seen_of screen))
          ∙ steps
          ∙ sym (copies_steps n c screen is)
          ∙ sym (ap (λ (s : Step). steps_of_all s.events screen) full);
      reads =
          run_read start (repeat_text n) screen (subst IsCalm (sym short) (record { plain = refl; events = (refl, tt) }))
          ∙ ap (λ (s : Step). and_then (λ after. Some (terminal s.state after)) (quiet_events s.events screen)) short
          ∙ ap (and_then (λ after. Some (terminal start after)))
          (ap (λ (xs : List Action). and_then (quiet_events []) (quiet_steps xs screen)) steps
          ∙ then_some (quiet_steps (replicate n (Print c)) screen)
          ∙ sym (copies_quiet n c screen is))
          ∙ sym (ap (λ (s : Step). and_then (λ after. Some (terminal s.state after)) (quiet_events s.events screen)) full)
          ∙ sym (run_read start (copies n c) screen
          (subst IsCalm (sym full) (record { plain = refl; events = no_commands n c })));
    }

-- ---- the character before REP

pub printed_last : (c : ℕ) (screen : ScreenValue) → columns_of c ≡ Some 1 → 0 < screen.page.width →
    (screen_after (Print c) screen).last ≡ Some c
printed_last c screen one wide = by_page screen.is_alternate
    (scrollback_after_push (length screen.page.rows) screen.page.width (rows_scrolled_off (Print c) screen) screen.scrollback)
  where
    fits : becomes_last screen (columns_of c) ≡ true
    fits =
        ap (becomes_last screen) one
        ∙ (let t : nat_le 1 screen.page.width ≡ true = grind (arith, nat_tests, wide) in rw t refl)

    is_last : last_after c screen ≡ Some c
    is_last = ap (λ (t : Bool). if t then Some c else screen.last) fits

    by_page : (alternate : Bool) (scrollback : Scrollback) →
        (if alternate then display_after (Print c) screen
        else record (display_after (Print c) screen) { scrollback = scrollback }).last ≡ Some c
    by_page true scrollback = is_last
    by_page false scrollback = is_last

record FirstRead (screen : ScreenValue) (c : ℕ) : Type 0 where
  state : (run start (encode_utf8 c)).state ≡ start
  last : (screen_in start screen (encode_utf8 c)).last ≡ Some c

first_read : (screen : ScreenValue) (c : ℕ) → IsNarrow c → 0 < screen.page.width → FirstRead screen c
first_read screen c is wide =
    let reads = read_written c is.drawn.scalar (drawn_low c is.drawn) in record {
      state = ap (λ (s : Step). s.state) reads;
      last =
          ap (λ (s : ScreenValue). s.last)
          (ap (λ (s : Step). screen_after_all (steps_of_all s.events screen) screen) reads
          ∙ ap (λ (xs : List Action). screen_after_all (xs ++ []) screen) (prints c is.drawn))
          ∙ printed_last c screen is.columns wide;
    }

-- A run written with REP is read like the run.
pub run_alike : (screen : ScreenValue) (n c : ℕ) → 0 < screen.page.width → 0 < n → n ≤ 65535 → IsNarrow c →
    AlikeFrom start screen (copies (suc n) c) (encode_utf8 c ++ repeat_text n)
run_alike screen n c wide some fits is =
    let first = first_read screen c is wide in
    alike_then start screen (encode_utf8 c) (encode_utf8 c) (copies n c) (repeat_text n) (alike_itself start screen (encode_utf8 c))
    (subst (λ (s : State). AlikeFrom s (screen_in start screen (encode_utf8 c)) (copies n c) (repeat_text n)) (sym first.state)
    (repeated_alike n c (screen_in start screen (encode_utf8 c)) some fits is.drawn first.last))

-- ---- rows

pub rows_then : (events more : List Event) (screen : ScreenValue) → RepeatInRows events screen →
    RepeatInRows more (screen_after_all (steps_of_all events screen) screen) → RepeatInRows (events ++ more) screen
rows_then [] more screen h k = k
rows_then (event ∷ events) more screen h k =
    let steps = steps_of event (seen_of screen) in
    let there = screen_after_all steps screen in (
      h.0,
      rows_then events more there h.1
          (subst (RepeatInRows more) (stepped_then steps (steps_of_all events there) screen) k),
    )

pub rows_none : (events : List Event) (screen : ScreenValue) → AllByRecursion (λ event. repetitions event ≡ 0) events →
    RepeatInRows events screen
rows_none [] screen none = tt
rows_none (event ∷ events) screen none =
    (inl none.0, rows_none events (screen_after_all (steps_of event (seen_of screen)) screen) none.1)

none_before : (xs ys : List Event) → AllByRecursion (λ event. repetitions event ≡ 0) (xs ++ ys) →
    AllByRecursion (λ event. repetitions event ≡ 0) xs
none_before [] ys h = tt
none_before (x ∷ xs) ys h = (h.0, none_before xs ys h.1)

none_after : (xs ys : List Event) → AllByRecursion (λ event. repetitions event ≡ 0) (xs ++ ys) →
    AllByRecursion (λ event. repetitions event ≡ 0) ys
none_after [] ys h = h
none_after (x ∷ xs) ys h = none_after xs ys h.1

abbrev pub RowsFrom : State → ScreenValue → List ℕ → Type 0
RowsFrom scan screen text = RepeatInRows (run scan text).events screen

abbrev pub NoneFrom : State → List ℕ → Type 0
NoneFrom scan text = AllByRecursion (λ event. repetitions event ≡ 0) (run scan text).events

pub rows_from_then : (scan : State) (screen : ScreenValue) (a b : List ℕ) → RowsFrom scan screen a →
    RowsFrom (run scan a).state (screen_in scan screen a) b → RowsFrom scan screen (a ++ b)
rows_from_then scan screen a b h k =
    subst (λ (s : Step). RepeatInRows s.events screen) (sym (run-append scan a b))
    (rows_then (run scan a).events (run (run scan a).state b).events screen h k)

pub none_first : (scan : State) (a b : List ℕ) → NoneFrom scan (a ++ b) → NoneFrom scan a
none_first scan a b h =
    none_before (run scan a).events (run (run scan a).state b).events
    (subst (λ (s : Step). AllByRecursion (λ event. repetitions event ≡ 0) s.events) (run-append scan a b) h)

pub none_second : (scan : State) (a b : List ℕ) → NoneFrom scan (a ++ b) → NoneFrom (run scan a).state b
none_second scan a b h =
    none_after (run scan a).events (run (run scan a).state b).events
    (subst (λ (s : Step). AllByRecursion (λ event. repetitions event ≡ 0) s.events) (run-append scan a b) h)

-- REP stays in its row if the row has room for all its characters.
pub repeat_rows : (n : ℕ) (screen : ScreenValue) → 0 < n → n ≤ 65535 → screen.page.column + n ≤ screen.page.width →
    RowsFrom start screen (repeat_text n)
repeat_rows n screen some fits room =
    subst (λ (s : Step). RepeatInRows s.events screen) (sym (repeat_read n fits))
    (inr (subst (λ (k : ℕ). screen.page.column + k ≤ screen.page.width) (sym (count_itself n some)) room), tt)

-- REP after the first character of a run stays in the row.
pub last_rows : (height width left : ℕ) (screen : ScreenValue) (n c : ℕ) → IsSized height width screen → IsNarrow c →
    0 < n → n ≤ 65535 → HasRoom width (suc n + left) screen → NoneFrom start (copies (suc n) c) → 0 < width →
    RowsFrom start screen (encode_utf8 c ++ repeat_text n)
last_rows height width left screen n c z is some fits has none wide =
    let there = screen_in start screen (encode_utf8 c) in
    let first = first_read screen c is (subst (λ (k : ℕ). 0 < k) (sym z.page.width_is) wide) in
    let room = (keeps_narrow width (suc n + left) c is).room height screen z has (omega (arith, some)) in
    let size = (sized_in height width start screen (encode_utf8 c) z).page.width_is in
    rows_from_then start screen (encode_utf8 c) (repeat_text n)
    (rows_none (run start (encode_utf8 c)).events screen (none_first start (encode_utf8 c) (copies n c) none))
    (subst (λ (s : State). RowsFrom s there (repeat_text n)) (sym first.state)
    (repeat_rows n there some fits (omega (arith, room, size, some))))
