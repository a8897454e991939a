-- Output that is read in sequence, by its events, and digit by digit.
use Rattle.std.proofs.Common.{◌≡◌, ℕ, List, [], ◌∷◌, ◌++◌, refl, sym, ap, ◌∙◌, append_assoc, ◌≢◌, ◌≤◌, Bool, true}
use Rattle.std.proofs.Common.{false, Option, Some, subst, zero, suc, ◌+◌, ◌-◌, ◌*◌, ◌/◌, ◌%◌, ◌<◌, length, take, drop}
use Rattle.std.proofs.Common.{get_or, decimal, replicate, ap₂, arith, length-drop}
use Rattle.std.specs.List.{AllByRecursion}
use Rattle.std.proofs.Math.Seq.{take-length, take-suc}
use Rattle.std.proofs.lemmas.Fmt.{decimal_digit, decimal_step}
use Rattle.std.proofs.lemmas.List.{replicate-append-replicate, drop-drop, get_or-drop}
use Rattle.vt_cells.specs.Op.{csi}
use Rattle.vt_cells.specs.declared.color.Color.TheVariants.{Idx}
use Rattle.vt_rows.specs.Row.{RowValue}
use Rattle.vt_scan.specs.Automaton.{State, Event, Step as Outcome, CsiDispatch, OscDispatch, step_after, step_in, start}
use Rattle.vt_scan.specs.Automaton.{run}
use Rattle.vt_scan.specs.Parameters.{table_of}
use Rattle.vt_scan.specs.Table.{class_of, transition_of}
use Rattle.vt_scan.specs.Texts.{IsParameterText, back_with}
use Rattle.vt_scan.specs.declared.table.Kind.{Kind}
use Rattle.vt_scan.specs.declared.table.Kind.TheVariants.{Ground, OscString}
use Rattle.vt_scan.specs.declared.table.Class.{Class}
use Rattle.vt_scan.specs.declared.table.Class.TheVariants.{Bell, Cancel, Introducer, Control}
use Rattle.vt_scan.proofs.Readback.{run-append, events_then, read_csi}
use Rattle.vt_grid.specs.Canvas.{and_then}
use Rattle.vt_grid.proofs.Texts.{and_then-assoc, and_then-same}
use Rattle.vt_screen.specs.Screen.{ScreenValue}
use Rattle.vt_screen.specs.Controls.{seen_of, steps_of, unmarked_steps}
use Rattle.vt_screen.specs.Steps.{Step, screen_after}
use Rattle.vt_screen.specs.Streamed.{sent_off, sent_off_all, sent_off_in}
use Rattle.vt_screen.specs.CallsOfRun.{screen_in, screen_after_all, steps_in, steps_of_all}
use Rattle.vt_screen.specs.Reading.{quiet_steps, quiet_events, grows, Terminal, terminal, read_byte, terminal_after}
use Rattle.vt_screen.specs.Sgr.{GroupRead, group_read, number_read, set}
use Rattle.vt_screen.specs.declared.sgr.Setting.{Setting}
use Rattle.vt_screen.specs.declared.sgr.Setting.TheVariants.{Foreground, Background}
use Rattle.vt_screen.specs.declared.sgr.Wanted.TheVariants.{Any}
use Rattle.vt_screen.specs.declared.sgr.Reading.TheVariants.{Unhandled}
use Rattle.vt_screen.specs.declared.sgr.Wanted.{Wanted}
use Rattle.vt_screen.specs.ShortMoves.{AreHandled, IsSgrText, IsWantedNext, column_after_tabs, next_stop}
use Rattle.vt_screen.proofs.ReadSgr.{background_bright, background_low, foreground_bright, foreground_low, number_group}

-- ==== Steps, events and bytes in concatenated lists.

pub stepped_then : (xs ys : List Step) (s : ScreenValue) → screen_after_all (xs ++ ys) s ≡ screen_after_all ys (screen_after_all xs s)
stepped_then [] ys s = refl
stepped_then (x ∷ xs) ys s = stepped_then xs ys (screen_after x s)

sent_all_then : (xs ys : List Step) (s : ScreenValue) →
    sent_off_all (xs ++ ys) s ≡ sent_off_all xs s ++ sent_off_all ys (screen_after_all xs s)
sent_all_then [] ys s = refl
sent_all_then (x ∷ xs) ys s =
    ap (λ (rows : List RowValue). sent_off x s ++ rows) (sent_all_then xs ys (screen_after x s))
    ∙ sym
    (append_assoc (sent_off x s) (sent_off_all xs (screen_after x s)) (sent_off_all ys (screen_after_all xs (screen_after x s))))

pub steps_then : (events more : List Event) (s : ScreenValue) →
    steps_of_all (events ++ more) s ≡ steps_of_all events s ++ steps_of_all more (screen_after_all (steps_of_all events s) s)
steps_then [] more s = refl
steps_then (event ∷ events) more s =
    let steps = steps_of event (seen_of s) in
    let there = screen_after_all steps s in
    let rest = steps_of_all events there in
    ap (λ (xs : List Step). steps ++ xs) (steps_then events more there)
    ∙ (sym (append_assoc steps rest (steps_of_all more (screen_after_all rest there)))
    ∙ ap (λ (t : ScreenValue). (steps ++ rest) ++ steps_of_all more t) (sym (stepped_then steps rest s)))

pub steps_in_then : (scan : State) (s : ScreenValue) (a b : List ℕ) →
    steps_in scan s (a ++ b) ≡ steps_in scan s a ++ steps_in (run scan a).state (screen_in scan s a) b
steps_in_then scan s a b =
    ap (λ (o : Outcome). steps_of_all o.events s) (run-append scan a b)
    ∙ steps_then (run scan a).events (run (run scan a).state b).events s

pub screen_in_then : (scan : State) (s : ScreenValue) (a b : List ℕ) →
    screen_in scan s (a ++ b) ≡ screen_in (run scan a).state (screen_in scan s a) b
screen_in_then scan s a b =
    ap (λ (steps : List Step). screen_after_all steps s) (steps_in_then scan s a b)
    ∙ stepped_then (steps_in scan s a) (steps_in (run scan a).state (screen_in scan s a) b) s

pub sent_in_then : (scan : State) (s : ScreenValue) (a b : List ℕ) →
    sent_off_in scan s (a ++ b) ≡ sent_off_in scan s a ++ sent_off_in (run scan a).state (screen_in scan s a) b
sent_in_then scan s a b =
    ap (λ (steps : List Step). sent_off_all steps s) (steps_in_then scan s a b)
    ∙ sent_all_then (steps_in scan s a) (steps_in (run scan a).state (screen_in scan s a) b) s

-- ==== Output read in sequence, and output read by its events.

-- ---- output in sequence

pub reads_append : (t : Terminal) (a b : List ℕ) → terminal_after t (a ++ b) ≡ and_then (λ u. terminal_after u b) (terminal_after t a)
reads_append t [] b = refl
reads_append t (x ∷ a) b =
    and_then-same (λ (u : Terminal). terminal_after u (a ++ b)) (λ (u : Terminal). and_then (λ v. terminal_after v b) (terminal_after u a))
    (λ (u : Terminal). reads_append u a b) (read_byte t x)
    ∙ and_then-assoc (λ (u : Terminal). terminal_after u a) (λ (v : Terminal). terminal_after v b) (read_byte t x)

-- Reading one text and then another has the effect of reading their concatenation.
pub reads_then : (t u v : Terminal) (a b : List ℕ) → terminal_after t a ≡ Some u → terminal_after u b ≡ Some v → terminal_after t (a ++ b) ≡ Some v
reads_then t u v a b p q = reads_append t a b ∙ (ap (λ (r : Option Terminal). and_then (λ w. terminal_after w b) r) p ∙ q)

-- ---- output and its events

quiet_append : (a b : List Event) (screen : ScreenValue) →
    quiet_events (a ++ b) screen ≡ and_then (quiet_events b) (quiet_events a screen)
quiet_append [] b screen = refl
quiet_append (event ∷ a) b screen =
    let first = quiet_steps (steps_of event (seen_of screen)) screen in
    and_then-same (quiet_events (a ++ b))
    (λ (x : ScreenValue). and_then (quiet_events b) (quiet_events a x)) (quiet_append a b) first
    ∙ and_then-assoc (quiet_events a) (quiet_events b) first

-- Whether an event is an operating system command, the only sequence whose text allocates.
abbrev pub is_command : Event → Bool
is_command (OscDispatch parts) = true
is_command _ = false

abbrev pub NoCommands : List Event → Type 0
NoCommands events = AllByRecursion (λ event. is_command event ≡ false) events

later : (a b : List Event) → NoCommands (a ++ b) → NoCommands b
later [] b none = none
later (event ∷ a) b none = later a b none.1

-- The run ended in ground state and read no operating system command.
pub record IsCalm (step : Outcome) : Type 0 where
  pub plain : step.state.kind ≡ Ground
  pub events : NoCommands step.events

abbrev in_command : List ℕ → State
in_command text = record { kind = OscString; collected = text }

abbrev run_after : Outcome → List ℕ → Outcome
run_after step bytes = events_then step.events (run step.state bytes)

-- After an operating system command has begun, a run either reads one or doesn't end in ground state.
unended_by : (c : Class) (text : List ℕ) (b : ℕ) (bytes : List ℕ)
    → ((more : List ℕ) → IsCalm (run (in_command more) bytes) → ⊥)
    → IsCalm (run_after (step_after OscString text b (transition_of OscString c)) bytes) → ⊥
unended_by Bell text b bytes rest calm = let met : true ≡ false = calm.events.0 in cc
unended_by Cancel text b bytes rest calm = let met : true ≡ false = calm.events.0 in cc
unended_by Introducer text b bytes rest calm = let met : true ≡ false = calm.events.0 in cc
unended_by Control text b bytes rest calm = rest text calm
unended_by _ text b bytes rest calm = rest (text ++ b ∷ []) calm

unended : (text bytes : List ℕ) → IsCalm (run (in_command text) bytes) → ⊥
unended text [] calm = let same : OscString ≡ Ground = calm.plain in cc
unended text (b ∷ bytes) calm = unended_by (class_of b) text b bytes (λ more. unended more bytes) calm

-- Only a byte of an operating system command allocates.
grows_not : (kind : Kind) (c : Class) → kind ≢ OscString → grows (transition_of kind c) ≡ false
grows_not OscString _ n = absurd (n refl)
grows_not _ Control n = refl
grows_not _ _ n = refl

-- The first byte of a run without commands allocates nothing, and the rest of the run has no commands.
pub calm_grows : (s : State) (b : ℕ) (bytes : List ℕ) → IsCalm (run s (b ∷ bytes)) →
    (grows (transition_of s.kind (class_of b)) ≡ false) × IsCalm (run (step_in s.kind s.collected b).state bytes)
calm_grows s b bytes calm =
    let step = step_in s.kind s.collected b in
    let rest = run step.state bytes in (
      grows_not s.kind (class_of b) (λ (e : s.kind ≡ OscString). unended s.collected (b ∷ bytes)
          (subst (λ (k : Kind). IsCalm (run (record { kind = k; collected = s.collected }) (b ∷ bytes))) e calm)),
      record { plain = calm.plain; events = later step.events rest.events calm.events },
    )

-- Bytes without commands are read: their events are performed in order.
pub run_read : (s : State) (bytes : List ℕ) (screen : ScreenValue) → IsCalm (run s bytes)
    → terminal_after (terminal s screen) bytes
    ≡ and_then (λ after. Some (terminal (run s bytes).state after)) (quiet_events (run s bytes).events screen)
unfolding read_byte
run_read s [] screen calm = refl
run_read s (b ∷ bytes) screen calm =
    let step = step_in s.kind s.collected b in
    let rest = run step.state bytes in
    let here = quiet_events step.events screen in
    let finish = λ (x : ScreenValue). Some (terminal rest.state x) in
    let (still, ends) = calm_grows s b bytes calm in
    rw still
    (sym (and_then-assoc (λ (x : ScreenValue). Some (terminal step.state x)) (λ (u : Terminal). terminal_after u bytes) here)
    ∙ and_then-same (λ (x : ScreenValue). terminal_after (terminal step.state x) bytes)
    (λ (x : ScreenValue). and_then finish (quiet_events rest.events x)) (λ x. run_read step.state bytes x ends) here
    ∙ and_then-assoc (quiet_events rest.events) finish here
    ∙ ap (and_then finish) (sym (quiet_append step.events rest.events screen)))

-- Reading output that consists of one event performs the steps of that event.
pub event_read : (text : List ℕ) (event : Event) (screen after : ScreenValue)
    → run start text ≡ back_with (event ∷ []) → is_command event ≡ false
    → quiet_steps (steps_of event (seen_of screen)) screen ≡ Some after
    → terminal_after (terminal start screen) text ≡ Some (terminal start after)
event_read text event screen after gives other quiet =
    run_read start text screen (rw gives (record { plain = refl; events = (other, tt) }))
    ∙ ap
    (λ (step : Outcome). and_then (λ (x : ScreenValue). Some (terminal step.state x)) (quiet_events step.events screen))
    gives
    ∙ ap
    (λ (r : Option ScreenValue). and_then (λ (x : ScreenValue). Some (terminal start x)) (and_then (quiet_events []) r))
    quiet

-- The byte is a final byte of a control sequence.
abbrev pub IsFinal : ℕ → Type 0
IsFinal b = (0x40 ≤ b) × (b ≤ 0x7E)

-- Reading a control sequence that has only parameters performs its steps.
pub csi_read : (text : List ℕ) (final : ℕ) (groups : List (List ℕ)) (screen after : ScreenValue)
    → IsParameterText text → IsFinal final → (table_of text).groups ≡ groups
    → quiet_steps (unmarked_steps groups final (seen_of screen)) screen ≡ Some after
    → terminal_after (terminal start screen) (csi text final) ≡ Some (terminal start after)
csi_read text final groups screen after is is_final table quiet =
    event_read (csi text final) (CsiDispatch groups [] final) screen after
    (read_csi text final is is_final.0 is_final.1
    ∙ ap (λ (gs : List (List ℕ)). back_with (CsiDispatch gs [] final ∷ [])) table)
    refl quiet

-- ==== Decimal numbers that are read digit by digit.

pub number_first : (bytes : List ℕ) → 0 < length bytes → 48 ≤ get_or bytes 0 0 → get_or bytes 0 0 ≤ 57 →
    take 1 bytes ≡ decimal (get_or bytes 0 0 - 48)
number_first (b ∷ bytes) some low high =
    let e : 48 + (b - 48) ≡ b = omega arith in
    sym (decimal_digit (b - 48) (omega arith) ∙ ap (λ (x : ℕ). x ∷ []) e)
number_first [] some low high = absurd (omega arith)

pub number_next : (bytes : List ℕ) (len value : ℕ) → len < length bytes → take len bytes ≡ decimal value → 0 < value →
    value ≤ 65535 → 48 ≤ get_or bytes len 0 → get_or bytes len 0 ≤ 57 →
    take (len + 1) bytes ≡ decimal (value * 10 + (get_or bytes len 0 - 48))
number_next bytes len value inside so_far some small low high =
    let b = get_or bytes len 0 in
    let n = value * 10 + (b - 48) in
    let front : n / 10 ≡ value = omega (arith, low, high) in
    let last : 48 + n % 10 ≡ b = omega (arith, low, high) in
    let at : len + 1 ≡ suc len = omega arith in
    ap (λ (k : ℕ). take k bytes) at
    ∙ take-suc bytes len 0 inside
    ∙ ap (λ (xs : List ℕ). xs ++ b ∷ []) so_far
    ∙ sym (decimal_step n (omega (arith, some)) (omega (arith, small, high))
    ∙ ap (λ (k : ℕ). decimal k ++ (48 + n % 10) ∷ []) front
    ∙ ap (λ (x : ℕ). decimal value ++ x ∷ []) last)

pub one_more : (text before : List ℕ) (n b : ℕ) → text ≡ before ++ replicate n b →
    text ++ b ∷ [] ≡ before ++ replicate (n + 1) b
one_more text before n b e =
    ap (λ (xs : List ℕ). xs ++ b ∷ []) e
    ∙ (append_assoc before (replicate n b) (b ∷ [])
    ∙ ap (λ (xs : List ℕ). before ++ xs) (replicate-append-replicate n 1 b))

pub next_tab : (cols left col : ℕ) → 0 < left → column_after_tabs cols left col ≡ column_after_tabs cols (left - 1) (next_stop cols col)
next_tab cols (suc left) col some = let e : suc left - 1 ≡ left = omega arith in rw e refl
next_tab cols zero col some = absurd (omega arith)

-- The bytes up to some byte, that byte, and some more.
pub take_parts : (bytes : List ℕ) (len more : ℕ) → len < length bytes →
    take (len + 1 + more) bytes ≡ take len bytes ++ get_or bytes len 0 ∷ take more (drop (len + 1) bytes)
take_parts [] len more inside = absurd (omega arith)
take_parts (b ∷ bytes) zero more inside =
    let e : 0 + 1 + more ≡ suc more = omega arith in ap (λ (k : ℕ). take k (b ∷ bytes)) e
take_parts (b ∷ bytes) (suc len) more inside =
    let e : suc len + 1 + more ≡ suc (len + 1 + more) = omega arith in
    let f : suc len + 1 ≡ suc (len + 1) = omega arith in
    ap (λ (k : ℕ). take k (b ∷ bytes)) e
    ∙ (ap (λ (xs : List ℕ). b ∷ xs) (take_parts bytes len more (omega arith))
    ∙ ap (λ (k : ℕ). b ∷ (take len bytes ++ get_or bytes len 0 ∷ take more (drop k (b ∷ bytes)))) (sym f))

-- The rest of a list, as a slice up to its end.
slice_rest : (bytes : List ℕ) (n : ℕ) → take (length bytes - n) (drop n bytes) ≡ drop n bytes
slice_rest bytes n =
    let e : length bytes - n ≡ length (drop n bytes) = sym (length-drop n bytes) in
    ap (λ (k : ℕ). take k (drop n bytes)) e ∙ take-length (drop n bytes)

-- The bytes up to some byte, that byte, and some more of the slice after it.
pub slice_parts : (bytes : List ℕ) (len more : ℕ) → len < length bytes →
    take (len + 1 + more) bytes
    ≡ take len bytes ++ get_or bytes len 0 ∷ take more (take (length bytes - (len + 1)) (drop (len + 1) bytes))
slice_parts bytes len more inside =
    take_parts bytes len more inside
    ∙ ap (λ (xs : List ℕ). take len bytes ++ get_or bytes len 0 ∷ take more xs) (sym (slice_rest bytes (len + 1)))

-- A known number before known numbers.
pub sgr_more : (most first len more : ℕ) (wanted next : Wanted) (bytes : List ℕ) → 0 < most → len < length bytes
    → first < 65536 → take len bytes ≡ decimal first → get_or bytes len 0 ≡ 0x3B → IsWantedNext wanted first next
    → IsSgrText (most - 1) next (take more (take (length bytes - (len + 1)) (drop (len + 1) bytes)))
    → IsSgrText most wanted (take (len + 1 + more) bytes)
sgr_more most first len more wanted next bytes some inside small digits separator is rest =
    let few = rest.few in
    record {
      first = first;
      rest = rest.first ∷ rest.rest;
      spelled = slice_parts bytes len more inside
          ∙ ap₂ (λ (xs ys : List ℕ). xs ++ ys) digits
          (ap₂ (λ (x : ℕ) (xs : List ℕ). x ∷ xs) separator rest.spelled);
      small = (small, rest.small);
      few = omega (arith, few, some);
      handled = (is.0, subst (λ (w : Wanted). AreHandled w (rest.first ∷ rest.rest)) is.1 rest.handled);
    }

-- The bytes before `end`, followed by at most `left` known numbers, are the parameters of an SGR sequence.
abbrev pub AreKnownTo : (left : ℕ) → Wanted → (bytes : List ℕ) → (end : ℕ) → Type 0
AreKnownTo left wanted bytes end =
    (more : ℕ) → IsSgrText left wanted (take more (drop end bytes)) → IsSgrText 32 Any (take (end + more) bytes)

pub known_first : (first len : ℕ) (next : Wanted) (bytes : List ℕ) → len < length bytes → first < 65536
    → take len bytes ≡ decimal first → get_or bytes len 0 ≡ 0x3B → IsWantedNext Any first next
    → AreKnownTo 31 next bytes (len + 1)
known_first first len next bytes inside small digits separator is =
    λ more rest. sgr_more 32 first len more Any next bytes (omega arith) inside small digits separator is
    (subst (λ (xs : List ℕ). IsSgrText 31 next (take more xs)) (sym (slice_rest bytes (len + 1))) rest)

pub known_more : (left first end len : ℕ) (wanted next : Wanted) (bytes : List ℕ) → 0 < left
    → AreKnownTo left wanted bytes end → end + len < length bytes → first < 65536
    → take len (take (length bytes - end) (drop end bytes)) ≡ decimal first → get_or bytes (end + len) 0 ≡ 0x3B
    → IsWantedNext wanted first next → AreKnownTo (left - 1) next bytes (end + len + 1)
known_more left first end len wanted next bytes some known inside small digits separator is =
    λ more rest.
    let tail = drop end bytes in
    let e : end + (len + 1) ≡ end + len + 1 = omega arith in
    let sum : end + (len + 1 + more) ≡ end + len + 1 + more = omega arith in
    let shorter : len < length tail = subst (λ (n : ℕ). len < n) (sym (length-drop end bytes)) (omega (arith, inside)) in
    let spelled : take len tail ≡ decimal first = ap (λ (xs : List ℕ). take len xs) (sym (slice_rest bytes end)) ∙ digits in
    let split : get_or tail len 0 ≡ 0x3B = get_or-drop end bytes len 0 ∙ separator in
    let dropped : drop (end + len + 1) bytes ≡ drop (len + 1) tail =
    sym (drop-drop (len + 1) end bytes ∙ ap (λ (n : ℕ). drop n bytes) e) in
    let after : take (length tail - (len + 1)) (drop (len + 1) tail) ≡ drop (len + 1) tail = slice_rest tail (len + 1) in
    let inner = sgr_more left first len more wanted next tail some shorter small spelled split is
    (subst (λ (xs : List ℕ). IsSgrText (left - 1) next (take more xs)) (dropped ∙ sym after) rest) in
    subst (λ (n : ℕ). IsSgrText 32 Any (take n bytes)) sum (known (len + 1 + more) inner)

pub known_last : (left first end len : ℕ) (wanted next : Wanted) (bytes : List ℕ) → 0 < left
    → AreKnownTo left wanted bytes end → first < 65536
    → take len (take (length bytes - end) (drop end bytes)) ≡ decimal first
    → IsWantedNext wanted first next → IsSgrText 32 Any (take (end + len) bytes)
known_last left first end len wanted next bytes some known small digits is =
    known len (record {
      first = first;
      rest = [];
      spelled = ap (λ (xs : List ℕ). take len xs) (sym (slice_rest bytes end)) ∙ digits;
      small = (small, tt);
      few = some;
      handled = (is.0, tt);
    })

-- A number before the rest of CUP.
pub place_more : (first len more : ℕ) (bytes whole : List ℕ) → len < length bytes → take len bytes ≡ decimal first
    → get_or bytes len 0 ≡ 0x3B
    → 0x1B ∷ 0x5B ∷ (decimal first ++ 0x3B ∷ take more (take (length bytes - (len + 1)) (drop (len + 1) bytes))) ≡ whole
    → 0x1B ∷ 0x5B ∷ take (len + 1 + more) bytes ≡ whole
place_more first len more bytes whole inside digits separator e =
    let rest = take more (take (length bytes - (len + 1)) (drop (len + 1) bytes)) in
    ap (λ (xs : List ℕ). 0x1B ∷ 0x5B ∷ xs) (slice_parts bytes len more inside)
    ∙ (ap (λ (xs : List ℕ). 0x1B ∷ 0x5B ∷ (xs ++ get_or bytes len 0 ∷ rest)) digits
    ∙ (ap (λ (x : ℕ). 0x1B ∷ 0x5B ∷ (decimal first ++ x ∷ rest)) separator ∙ e))

-- ---- the numbers of the first 16 colors

set_read : (n : ℕ) (s : Setting) → number_read n ≡ set s → IsWantedNext Any n Any
set_read n s e =
    let read : group_read Any (n ∷ []) ≡ set s = number_group n (set s) e in
    (subst (λ (r : GroupRead). r.reading ≢ Unhandled) (sym read) (λ met. absurd cc), sym (ap (λ (r : GroupRead). r.wanted) read))

pub foreground_known : (n : ℕ) → 30 ≤ n → n ≤ 37 → IsWantedNext Any n Any
foreground_known n low high =
    let e : 30 + (n - 30) ≡ n = omega arith in
    set_read n (Foreground (Idx (n - 30))) (ap number_read (sym e) ∙ foreground_low (n - 30) (omega arith))

pub background_known : (n : ℕ) → 40 ≤ n → n ≤ 47 → IsWantedNext Any n Any
background_known n low high =
    let e : 40 + (n - 40) ≡ n = omega arith in
    set_read n (Background (Idx (n - 40))) (ap number_read (sym e) ∙ background_low (n - 40) (omega arith))

pub bright_known : (n : ℕ) → 90 ≤ n → n ≤ 97 → IsWantedNext Any n Any
bright_known n low high =
    let e : 90 + (n - 90) ≡ n = omega arith in
    set_read n (Foreground (Idx (8 + (n - 90)))) (ap number_read (sym e) ∙ foreground_bright (n - 90) (omega arith))

pub bright_background_known : (n : ℕ) → 100 ≤ n → n ≤ 107 → IsWantedNext Any n Any
bright_background_known n low high =
    let e : 100 + (n - 100) ≡ n = omega arith in
    set_read n (Background (Idx (8 + (n - 100)))) (ap number_read (sym e) ∙ background_bright (n - 100) (omega arith))
