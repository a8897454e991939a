-- Characters, control characters and sequences are read as they were written.
use Rattle.std.proofs.Common.{◌≡◌, ℕ, List, [], ◌∷◌, ◌++◌, refl, sym, ◌∙◌, ap, ◌≢◌, ◌+◌, ◌/◌, ◌<◌, ◌≤◌, ◌==◌, nat_lt}
use Rattle.std.proofs.Common.{true, false, map, encode_utf8_all, ◌⊎◌, inl, inr, arith, ◌-◌, Option, Some, None, length}
use Rattle.std.proofs.Common.{take, drop, get_or, subst, ◌||◌, not, cond, filter}
use Rattle.std.proofs.lemmas.List.{append_assoc, length-take-le, take-append-drop, take-take, append-nil}
use Rattle.std.proofs.Math.Logic.{⊎_elim}
use Rattle.std.proofs.lemmas.Bool.Decides.{nat_tests}
use Rattle.std.proofs.lemmas.Bool.{cases_lt, false≢true}
use Rattle.std.specs.Char.{IsScalar, encode_utf8}
use Rattle.std.specs.List.{AllByRecursion}
use Rattle.std.specs.Prelude.{IfSome}
use lib.Utf8.{next, scalar_cases}
use Rattle.vt_scan.specs.Automaton.{State, Step, Event, step_in, Character, Executed, EscDispatch, start, step_after}
use Rattle.vt_scan.specs.Automaton.{CsiDispatch, is_parameter, parameter_text, intermediates_of, run}
use Rattle.vt_scan.specs.Table.{transition_of, class_of}
use Rattle.vt_scan.specs.Characters.{is_second, is_character, is_beginning, character_of, continues}
use Rattle.vt_scan.specs.Texts.{back_with, IsParameterText}
use Rattle.vt_scan.specs.declared.table.Kind.TheVariants.{Ground, Escape, CsiEntry, CsiParam}
use Rattle.vt_scan.specs.declared.table.Class.{Class}
use Rattle.vt_scan.specs.Scanner.{FeedsAll, HasNoEvent, ScannerValue, Reads, StandsFor}
use Rattle.vt_scan.specs.declared.table.Kind.{Kind}
use Rattle.vt_scan.specs.Parameters.{table_of}
use Rattle.vt_scan.specs.declared.table.Class.TheVariants as class
use Rattle.vt_scan.proofs.Steps.{gives, either, class_of-text, fresh_step-character, fresh_step-control}
use Rattle.vt_scan.proofs.Steps.{fresh_step-escape, fresh_step-begun, character_step-whole, character_step-further}
use Rattle.vt_scan.proofs.Steps.{stands_at}

-- ==== Runs of the automaton.

-- The step with the given events issued before its own.
abbrev pub events_then : List Event → Step → Step
events_then events step = record { state = step.state; events = events ++ step.events }

pub run-append : (state : State) (a b : List ℕ) →
    run state (a ++ b) ≡ events_then (run state a).events (run (run state a).state b)
run-append state [] b = refl
run-append state (x ∷ xs) b =
    let step = step_in state.kind state.collected x in
    let first = run step.state xs in
    ap (events_then step.events) (run-append step.state xs b)
    ∙ ap (λ l. record { state = (run first.state b).state; events = l })
    (sym (append_assoc step.events first.events (run first.state b).events))

-- ==== Complete characters, control characters and escape sequences are read as they were written.

-- A run whose first step is known is that step, followed by the run over the remaining bytes.
pub run-known : (state : State) (b : ℕ) (bytes : List ℕ) (known : Step) →
    step_in state.kind state.collected b ≡ known → run state (b ∷ bytes) ≡ events_then known.events (run known.state bytes)
run-known state b bytes known e = ap (λ (s : Step). events_then s.events (run s.state bytes)) e

-- A printable ASCII byte is read as that character.
pub read_ascii : (b : ℕ) → 0x20 ≤ b → b ≤ 0x7F → run start (b ∷ []) ≡ back_with (Character b ∷ [])
read_ascii b low high =
    run-known start b [] (gives Ground [] (Character b ∷ [])) (fresh_step-character b low (omega arith))

-- A control character is executed.
pub read_control : (b : ℕ) → b < 0x20 → b ≢ 0x1B → run start (b ∷ []) ≡ back_with (Executed b ∷ [])
read_control b high other = run-known start b [] (gives Ground [] (Executed b ∷ [])) (fresh_step-control b high other)

-- ESC begins a sequence.
pub read_escape_start : (bytes : List ℕ) →
    run start (0x1B ∷ bytes) ≡ run (record { kind = Escape; collected = [] }) bytes
read_escape_start bytes = run-known start 0x1B bytes (gives Escape [] []) fresh_step-escape

-- An escape sequence of two bytes is dispatched.
pub read_escape : (b : ℕ) → 0x30 ≤ b → b ≤ 0x7E → b ≢ 0x5B → b ≢ 0x5D → b ≢ 0x50 → b ≢ 0x58 →
    b ≢ 0x5E → b ≢ 0x5F → run start (0x1B ∷ b ∷ []) ≡ back_with (EscDispatch [] b ∷ [])
read_escape b low high csi osc dcs sos pm apc =
    let P : Class → Type 0 = λ k. step_after Escape [] b (transition_of Escape k) ≡ gives Ground [] (EscDispatch [] b ∷ []) in
    let t0 : nat_lt b 0x30 ≡ false = grind (arith, nat_tests) in
    let t1 : nat_lt b 0x7F ≡ true = grind (arith, nat_tests) in
    let t2 : (b == 0x5B) ≡ false = grind (arith, nat_tests) in
    let t3 : (b == 0x5D) ≡ false = grind (arith, nat_tests) in
    let t4 : (b == 0x50) ≡ false = grind (arith, nat_tests) in
    let t5 : (b == 0x58) ≡ false = grind (arith, nat_tests) in
    let t6 : (b == 0x5E) ≡ false = grind (arith, nat_tests) in
    let t7 : (b == 0x5F) ≡ false = grind (arith, nat_tests) in
    read_escape_start (b ∷ [])
    ∙ run-known (record { kind = Escape; collected = [] }) b [] (gives Ground [] (EscDispatch [] b ∷ []))
    (class_of-text P b (omega arith)
    (rw (t0, t1, t2, t3, t4, t5, t6, t7) (either P (nat_lt b 0x3C) _ _ refl (either P (nat_lt b 0x40) _ _ refl refl))))

-- ---- UTF-8, byte by byte

pub read_last : (text : List ℕ) (a b code : ℕ) → is_character (a ∷ (text ++ b ∷ [])) ≡ true
    → character_of (a ∷ (text ++ b ∷ [])) ≡ code
    → run (record { kind = Ground; collected = a ∷ text }) (b ∷ []) ≡ back_with (Character code ∷ [])
read_last text a b code is means =
    run-known (record { kind = Ground; collected = a ∷ text }) b []
    (gives Ground [] (Character (character_of (a ∷ (text ++ b ∷ []))) ∷ [])) (character_step-whole (a ∷ text) b is)
    ∙ ap (λ k. back_with (Character k ∷ [])) means

pub read_next : (text : List ℕ) (a b : ℕ) (bytes : List ℕ)
    → is_character (a ∷ (text ++ b ∷ [])) ≡ false → is_beginning (a ∷ (text ++ b ∷ [])) ≡ true
    → run (record { kind = Ground; collected = a ∷ text }) (b ∷ bytes)
    ≡ run (record { kind = Ground; collected = a ∷ (text ++ b ∷ []) }) bytes
read_next text a b bytes other is =
    run-known (record { kind = Ground; collected = a ∷ text }) b bytes
    (gives Ground (a ∷ (text ++ b ∷ [])) []) (character_step-further (a ∷ text) b other is)

pub read_first : (a : ℕ) (bytes : List ℕ) → 0x80 ≤ a → is_beginning (a ∷ []) ≡ true →
    run start (a ∷ bytes) ≡ run (record { kind = Ground; collected = a ∷ [] }) bytes
read_first a bytes high is = run-known start a bytes (gives Ground (a ∷ []) []) (fresh_step-begun a high is)

read_two : (c : ℕ) → 0x80 ≤ c → c < 0x800 → run start ((192 + c / 64) ∷ next c ∷ []) ≡ back_with (Character c ∷ [])
unfolding is_character is_beginning
read_two c low high =
    let b1 : is_beginning ((192 + c / 64) ∷ []) ≡ true = grind (arith, nat_tests) in
    let w : is_character ((192 + c / 64) ∷ next c ∷ []) ≡ true = grind (arith, nat_tests) in
    read_first (192 + c / 64) (next c ∷ []) (omega arith) b1
    ∙ read_last [] (192 + c / 64) (next c) c w (omega arith)

read_three : (c : ℕ) → 0x800 ≤ c → c < 0x10000 → (c < 0xD800) ⊎ (0xE000 ≤ c) →
    run start ((224 + c / 4096) ∷ next (c / 64) ∷ next c ∷ []) ≡ back_with (Character c ∷ [])
unfolding is_character is_beginning
read_three c low high plane =
    let a = 224 + c / 4096 in
    let b1 : is_beginning (a ∷ []) ≡ true = grind (arith, nat_tests) in
    let second : is_second a (next (c / 64)) ≡ true = grind (arith, nat_tests, plane) in
    let n2 : is_character (a ∷ next (c / 64) ∷ []) ≡ false = grind (arith, nat_tests) in
    let b2 : is_beginning (a ∷ next (c / 64) ∷ []) ≡ true = rw second (grind (arith, nat_tests)) in
    let w : is_character (a ∷ next (c / 64) ∷ next c ∷ []) ≡ true = rw second (grind (arith, nat_tests)) in
    read_first a (next (c / 64) ∷ next c ∷ []) (omega arith) b1
    ∙ read_next [] a (next (c / 64)) (next c ∷ []) n2 b2
    ∙ read_last (next (c / 64) ∷ []) a (next c) c w (omega arith)

read_four : (c : ℕ) → 0x10000 ≤ c → c < 0x110000 →
    run start ((240 + c / 262144) ∷ next (c / 4096) ∷ next (c / 64) ∷ next c ∷ []) ≡ back_with (Character c ∷ [])
unfolding is_character is_beginning
read_four c low high =
    let a = 240 + c / 262144 in
    let b1 : is_beginning (a ∷ []) ≡ true = grind (arith, nat_tests) in
    let second : is_second a (next (c / 4096)) ≡ true = grind (arith, nat_tests) in
    let n2 : is_character (a ∷ next (c / 4096) ∷ []) ≡ false = grind (arith, nat_tests) in
    let b2 : is_beginning (a ∷ next (c / 4096) ∷ []) ≡ true = rw second (grind (arith, nat_tests)) in
    let n3 : is_character (a ∷ next (c / 4096) ∷ next (c / 64) ∷ []) ≡ false = grind (arith, nat_tests) in
    let b3 : is_beginning (a ∷ next (c / 4096) ∷ next (c / 64) ∷ []) ≡ true = rw second (grind (arith, nat_tests)) in
    let w : is_character (a ∷ next (c / 4096) ∷ next (c / 64) ∷ next c ∷ []) ≡ true =
    rw second (grind (arith, nat_tests)) in
    read_first a (next (c / 4096) ∷ next (c / 64) ∷ next c ∷ []) (omega arith) b1
    ∙ read_next [] a (next (c / 4096)) (next (c / 64) ∷ next c ∷ []) n2 b2
    ∙ read_next (next (c / 4096) ∷ []) a (next (c / 64)) (next c ∷ []) n3 b3
    ∙ read_last (next (c / 4096) ∷ next (c / 64) ∷ []) a (next c) c w (omega arith)

-- A character above ASCII in UTF-8 is read as itself.
pub read_character : (c : ℕ) → IsScalar c → 0x80 ≤ c → run start (encode_utf8 c) ≡ back_with (Character c ∷ [])
unfolding encode_utf8
read_character c scalar high =
    let t0 : nat_lt c 128 ≡ false = grind (arith, nat_tests) in
    ⊎_elim
    (λ (small : c < 0x800). let t1 : nat_lt c 2048 ≡ true =
    grind (arith, nat_tests) in rw (t0, t1) (read_two c high small))
    (λ (wide : 0x800 ≤ c).
    let t1 : nat_lt c 2048 ≡ false = grind (arith, nat_tests) in
    ⊎_elim
    (λ (small : c < 0x10000). let t2 : nat_lt c 65536 ≡ true = grind (arith, nat_tests) in
    rw (t0, t1, t2) (read_three c wide small (⊎_elim (λ h. inl h) (λ h. inr h.0) (scalar_cases c scalar))))
    (λ (large : 0x10000 ≤ c). let t2 : nat_lt c 65536 ≡ false = grind (arith, nat_tests) in
    rw (t0, t1, t2) (read_four c large (⊎_elim (λ h. absurd (omega arith)) (λ h. h.1) (scalar_cases c scalar))))
    (cases_lt c 0x10000))
    (cases_lt c 0x800)

-- A character that is no control character is read as itself, however many bytes it has.
pub read_written : (c : ℕ) → IsScalar c → 0x20 ≤ c → run start (encode_utf8 c) ≡ back_with (Character c ∷ [])
unfolding encode_utf8
read_written c scalar low =
    ⊎_elim
    (λ (small : c < 0x80). let t0 : nat_lt c 128 ≡ true =
    grind (arith, nat_tests) in rw t0 (read_ascii c low (omega arith)))
    (λ (large : 0x80 ≤ c). read_character c scalar large)
    (cases_lt c 0x80)

-- A text of characters that are no control characters is read as one event for each.
pub read_text : (cs : List ℕ) → AllByRecursion (λ c. IsScalar c × (0x20 ≤ c)) cs →
    run start (encode_utf8_all cs) ≡ back_with (map Character cs)
read_text [] all = refl
read_text (c ∷ cs) all =
    run-append start (encode_utf8 c) (encode_utf8_all cs)
    ∙ ap (λ (s : Step). events_then s.events (run s.state (encode_utf8_all cs))) (read_written c all.0.0 all.0.1)
    ∙ ap (events_then (Character c ∷ [])) (read_text cs all.1)

-- ==== Characters of more than one byte that are read at once.

two : (a b : ℕ) → is_character (a ∷ b ∷ []) ≡ true →
    run start (a ∷ b ∷ []) ≡ back_with (Character (character_of (a ∷ b ∷ [])) ∷ [])
unfolding is_character is_beginning
two a b e =
    let b1 : is_beginning (a ∷ []) ≡ true = grind (arith, nat_tests) in
    let high : 0x80 ≤ a = grind (arith, nat_tests) in
    read_first a (b ∷ []) high b1 ∙ read_last [] a b (character_of (a ∷ b ∷ [])) e refl

three : (a b c : ℕ) → is_character (a ∷ b ∷ c ∷ []) ≡ true →
    run start (a ∷ b ∷ c ∷ []) ≡ back_with (Character (character_of (a ∷ b ∷ c ∷ [])) ∷ [])
unfolding is_character is_beginning
three a b c e =
    let b1 : is_beginning (a ∷ []) ≡ true = grind (arith, nat_tests) in
    let high : 0x80 ≤ a = grind (arith, nat_tests) in
    let n2 : is_character (a ∷ b ∷ []) ≡ false = grind (arith, nat_tests) in
    let b2 : is_beginning (a ∷ b ∷ []) ≡ true = grind (arith, nat_tests) in
    read_first a (b ∷ c ∷ []) high b1 ∙ read_next [] a b (c ∷ []) n2 b2
    ∙ read_last (b ∷ []) a c (character_of (a ∷ b ∷ c ∷ [])) e refl

four : (a b c d : ℕ) → is_character (a ∷ b ∷ c ∷ d ∷ []) ≡ true →
    run start (a ∷ b ∷ c ∷ d ∷ []) ≡ back_with (Character (character_of (a ∷ b ∷ c ∷ d ∷ [])) ∷ [])
unfolding is_character is_beginning
four a b c d e =
    let b1 : is_beginning (a ∷ []) ≡ true = grind (arith, nat_tests) in
    let high : 0x80 ≤ a = grind (arith, nat_tests) in
    let n2 : is_character (a ∷ b ∷ []) ≡ false = grind (arith, nat_tests) in
    let b2 : is_beginning (a ∷ b ∷ []) ≡ true = grind (arith, nat_tests) in
    let n3 : is_character (a ∷ b ∷ c ∷ []) ≡ false = grind (arith, nat_tests) in
    let b3 : is_beginning (a ∷ b ∷ c ∷ []) ≡ true = grind (arith, nat_tests) in
    read_first a (b ∷ c ∷ d ∷ []) high b1
    ∙ read_next [] a b (c ∷ d ∷ []) n2 b2
    ∙ read_next (b ∷ []) a c (d ∷ []) n3 b3
    ∙ read_last (b ∷ c ∷ []) a d (character_of (a ∷ b ∷ c ∷ d ∷ [])) e refl

-- A complete character is read as itself.
pub read_whole : (text : List ℕ) → is_character text ≡ true →
    run start text ≡ back_with (Character (character_of text) ∷ [])
unfolding is_character
read_whole [] e = absurd (false≢true e)
read_whole (a ∷ []) e = absurd (false≢true e)
read_whole (a ∷ b ∷ []) e = two a b e
read_whole (a ∷ b ∷ c ∷ []) e = three a b c e
read_whole (a ∷ b ∷ c ∷ d ∷ []) e = four a b c d e
read_whole (a ∷ b ∷ c ∷ d ∷ x ∷ xs) e = absurd (false≢true e)

pub whole_fed : (held : ScannerValue) (text : List ℕ) (code : ℕ) → held.kind ≡ Ground → held.unfinished ≡ [] →
    is_character text ≡ true → code ≡ character_of text → FeedsAll held text held (Character code ∷ [])
whole_fed held text code is none e means = λ s stands.
    let kind : s.kind ≡ Ground = sym stands.kind ∙ is in
    let read : Reads held Ground s.collected = subst (λ (k : Kind). Reads held k s.collected) is stands.reads in
    let collected : s.collected ≡ [] = sym read ∙ none in
    let at : s ≡ start = λ i. record { kind = kind i; collected = collected i } in
    rw (ap (λ (z : State). run z text) at ∙ read_whole text e)
    (stands_at held [] is none, ap (λ (k : ℕ). Character k ∷ []) (sym means))

pub found_fed : (held : ScannerValue) (bytes : List ℕ) (found : Option (ℕ × ℕ)) → held.kind ≡ Ground → held.unfinished ≡ []
    → IfSome found (λ f. is_character (take f.1 bytes) ≡ true) → IfSome found (λ f. f.0 ≡ character_of (take f.1 bytes))
    → IfSome found (λ f. FeedsAll held (take f.1 bytes) held (Character f.0 ∷ []))
found_fed held bytes None is none e means = tt
found_fed held bytes (Some f) is none e means = whole_fed held (take f.1 bytes) f.0 is none e means

-- ---- Only the last byte has an event

read_before : (text : List ℕ) → is_character text ≡ true → (run start (take (length text - 1) text)).events ≡ []
unfolding is_character is_beginning
read_before [] e = absurd (false≢true e)
read_before (a ∷ []) e = absurd (false≢true e)
read_before (a ∷ b ∷ []) e =
    let b1 : is_beginning (a ∷ []) ≡ true = grind (arith, nat_tests) in
    let high : 0x80 ≤ a = grind (arith, nat_tests) in
    ap (λ (step : Step). step.events) (read_first a [] high b1)
read_before (a ∷ b ∷ c ∷ []) e =
    let b1 : is_beginning (a ∷ []) ≡ true = grind (arith, nat_tests) in
    let high : 0x80 ≤ a = grind (arith, nat_tests) in
    let n2 : is_character (a ∷ b ∷ []) ≡ false = grind (arith, nat_tests) in
    let b2 : is_beginning (a ∷ b ∷ []) ≡ true = grind (arith, nat_tests) in
    ap (λ (step : Step). step.events) (read_first a (b ∷ []) high b1 ∙ read_next [] a b [] n2 b2)
read_before (a ∷ b ∷ c ∷ d ∷ []) e =
    let b1 : is_beginning (a ∷ []) ≡ true = grind (arith, nat_tests) in
    let high : 0x80 ≤ a = grind (arith, nat_tests) in
    let n2 : is_character (a ∷ b ∷ []) ≡ false = grind (arith, nat_tests) in
    let b2 : is_beginning (a ∷ b ∷ []) ≡ true = grind (arith, nat_tests) in
    let n3 : is_character (a ∷ b ∷ c ∷ []) ≡ false = grind (arith, nat_tests) in
    let b3 : is_beginning (a ∷ b ∷ c ∷ []) ≡ true = grind (arith, nat_tests) in
    ap (λ (step : Step). step.events)
    (read_first a (b ∷ c ∷ []) high b1 ∙ read_next [] a b (c ∷ []) n2 b2 ∙ read_next (b ∷ []) a c [] n3 b3)
read_before (a ∷ b ∷ c ∷ d ∷ x ∷ xs) e = absurd (false≢true e)

pub at_start : (held : ScannerValue) (s : State) → held.kind ≡ Ground → held.unfinished ≡ [] → StandsFor held s → s ≡ start
at_start held s is none stands =
    let kind : s.kind ≡ Ground = sym stands.kind ∙ is in
    let read : Reads held Ground s.collected = subst (λ (k : Kind). Reads held k s.collected) is stands.reads in
    let collected : s.collected ≡ [] = sym read ∙ none in
    λ i. record { kind = kind i; collected = collected i }

before_fed : (held : ScannerValue) (bytes : List ℕ) (n : ℕ) → held.kind ≡ Ground → held.unfinished ≡ []
    → is_character (take n bytes) ≡ true → n ≤ length bytes → HasNoEvent held (take (n - 1) bytes)
before_fed held bytes n is none e inside = λ s stands.
    let size : length (take n bytes) ≡ n = length-take-le n bytes inside in
    let less : n - 1 ≤ n = omega arith in
    let cut : take (n - 1) (take n bytes) ≡ take (n - 1) bytes = take-take (n - 1) n bytes less in
    let same : take (length (take n bytes) - 1) (take n bytes) ≡ take (n - 1) bytes =
    ap (λ (k : ℕ). take (k - 1) (take n bytes)) size ∙ cut in
    subst (λ (text : List ℕ). (run s text).events ≡ []) same
    (subst (λ (z : State). (run z (take (length (take n bytes) - 1) (take n bytes))).events ≡ [])
    (sym (at_start held s is none stands)) (read_before (take n bytes) e))

pub found_before : (held : ScannerValue) (bytes : List ℕ) (found : Option (ℕ × ℕ)) → held.kind ≡ Ground → held.unfinished ≡ []
    → IfSome found (λ f. is_character (take f.1 bytes) ≡ true)
    → IfSome found (λ f. (1 < f.1) × (f.1 ≤ length bytes))
    → IfSome found (λ f. HasNoEvent held (take (f.1 - 1) bytes))
found_before held bytes None is none e inside = tt
found_before held bytes (Some f) is none e inside = before_fed held bytes f.1 is none e inside.1

-- ---- Texts that begin with a whole character

pub record Begun (bytes : List ℕ) : Type 0 where
  pub two : 2 ≤ length bytes
  pub first : 0xC2 ≤ get_or bytes 0 0
  pub second : is_second (get_or bytes 0 0) (get_or bytes 1 0) ≡ true
  pub third : 0xE0 ≤ get_or bytes 0 0 → (3 ≤ length bytes) × (continues (get_or bytes 2 0) ≡ true)
  pub last : 0xF0 ≤ get_or bytes 0 0 →
      (4 ≤ length bytes) × (get_or bytes 0 0 ≤ 0xF4) × (continues (get_or bytes 3 0) ≡ true)

begun_by : (text rest : List ℕ) → is_character text ≡ true → Begun (text ++ rest)
unfolding is_character
begun_by [] rest e = absurd (false≢true e)
begun_by (a ∷ []) rest e = absurd (false≢true e)
begun_by (a ∷ b ∷ []) rest e = record {
  two = omega arith;
  first = grind (arith, nat_tests);
  second = grind (arith, nat_tests);
  third = λ h. absurd (grind (arith, nat_tests));
  last = λ h. absurd (grind (arith, nat_tests));
}
begun_by (a ∷ b ∷ c ∷ []) rest e = record {
  two = omega arith;
  first = grind (arith, nat_tests);
  second = grind (arith, nat_tests);
  third = λ h. (omega arith, grind (arith, nat_tests));
  last = λ h. absurd (grind (arith, nat_tests));
}
begun_by (a ∷ b ∷ c ∷ d ∷ []) rest e = record {
  two = omega arith;
  first = grind (arith, nat_tests);
  second = grind (arith, nat_tests);
  third = λ h. (omega arith, grind (arith, nat_tests));
  last = λ h. (omega arith, grind (arith, nat_tests), grind (arith, nat_tests));
}
begun_by (a ∷ b ∷ c ∷ d ∷ x ∷ xs) rest e = absurd (false≢true e)

pub begun : (bytes : List ℕ) (n : ℕ) → is_character (take n bytes) ≡ true → Begun bytes
begun bytes n e = subst Begun (take-append-drop n bytes) (begun_by (take n bytes) (drop n bytes) e)

-- ==== Complete control sequences are read as they were written.

pub class_of-parameter : (P : Class → Type 0) (b : ℕ) → 0x30 ≤ b → b ≤ 0x3B → P class.Parameter → P (class_of b)
class_of-parameter P b low high p =
    let t0 : nat_lt b 0x30 ≡ false = grind (arith, nat_tests) in
    let t1 : nat_lt b 0x3C ≡ true = grind (arith, nat_tests) in
    class_of-text P b (omega arith) (rw (t0, t1) p)

pub class_of-final : (P : Class → Type 0) (b : ℕ) → 0x40 ≤ b → b ≤ 0x7E → P class.CsiStart →
    P class.OscStart → P class.SkipStart → P class.Final → P (class_of b)
class_of-final P b low high p q r s =
    let t0 : nat_lt b 0x30 ≡ false = grind (arith, nat_tests) in
    let t1 : nat_lt b 0x3C ≡ false = grind (arith, nat_tests) in
    let t2 : nat_lt b 0x40 ≡ false = grind (arith, nat_tests) in
    let t3 : nat_lt b 0x7F ≡ true = grind (arith, nat_tests) in
    class_of-text P b (omega arith) (rw (t0, t1, t2, t3)
    (either P (b == 0x5B) _ _ p
    (either P (b == 0x5D) _ _ q (either P (b == 0x50 || (b == 0x58 || (b == 0x5E || b == 0x5F))) _ _ r s))))

-- The event of a control sequence, given its collected bytes and its final byte.
abbrev pub sequence : List ℕ → ℕ → List Event
sequence text final = CsiDispatch (table_of (parameter_text text)).groups (intermediates_of text) final ∷ []

pub step_parameter : (text : List ℕ) (b : ℕ) → 0x30 ≤ b → b ≤ 0x3B →
    step_in CsiParam text b ≡ gives CsiParam (text ++ b ∷ []) []
step_parameter text b low high =
    class_of-parameter
    (λ k. step_after CsiParam text b (transition_of CsiParam k) ≡ gives CsiParam (text ++ b ∷ []) []) b low high refl

step_first : (b : ℕ) → 0x30 ≤ b → b ≤ 0x3B → step_in CsiEntry [] b ≡ gives CsiParam (b ∷ []) []
step_first b low high =
    class_of-parameter (λ k. step_after CsiEntry [] b (transition_of CsiEntry k) ≡ gives CsiParam (b ∷ []) []) b low high refl

step_final : (text : List ℕ) (b : ℕ) → 0x40 ≤ b → b ≤ 0x7E → step_in CsiParam text b ≡ gives Ground [] (sequence text b)
step_final text b low high =
    class_of-final (λ k. step_after CsiParam text b (transition_of CsiParam k) ≡ gives Ground [] (sequence text b))
    b low high refl refl refl refl

step_final_at_once : (b : ℕ) → 0x40 ≤ b → b ≤ 0x7E → step_in CsiEntry [] b ≡ gives Ground [] (sequence [] b)
step_final_at_once b low high =
    class_of-final (λ k. step_after CsiEntry [] b (transition_of CsiEntry k) ≡ gives Ground [] (sequence [] b))
    b low high refl refl refl refl

-- Reading the remaining bytes of a control sequence dispatches the sequence with all of its bytes.
read_rest : (before text : List ℕ) (final : ℕ) → IsParameterText text → 0x40 ≤ final → final ≤ 0x7E
    → run (record { kind = CsiParam; collected = before }) (text ++ final ∷ [])
    ≡ back_with (sequence (before ++ text) final)
read_rest before [] final is low high =
    run-known (record { kind = CsiParam; collected = before }) final []
    (gives Ground [] (sequence before final)) (step_final before final low high)
    ∙ ap (λ t. back_with (sequence t final)) (sym (append-nil before))
read_rest before (b ∷ text) final is low high =
    run-known (record { kind = CsiParam; collected = before }) b (text ++ final ∷ [])
    (gives CsiParam (before ++ b ∷ []) []) (step_parameter before b is.0 is.1)
    ∙ read_rest (before ++ b ∷ []) text final is.2 low high
    ∙ ap (λ t. back_with (sequence t final)) (append_assoc before (b ∷ []) text)

pub parameters_only : (text : List ℕ) → IsParameterText text → parameter_text text ≡ text
parameters_only [] is = refl
parameters_only (b ∷ text) is =
    let test : is_parameter b ≡ true = grind (arith, nat_tests) in
    ap (λ t. cond t (b ∷ parameter_text text) (parameter_text text)) test ∙ ap (λ l. b ∷ l) (parameters_only text is.2)

pub no_intermediates : (text : List ℕ) → IsParameterText text → filter (λ b. not (is_parameter b)) text ≡ []
no_intermediates [] is = refl
no_intermediates (b ∷ text) is =
    let test : not (is_parameter b) ≡ false = grind (arith, nat_tests) in
    ap (λ t. cond t (b ∷ filter (λ x. not (is_parameter x)) text) (filter (λ x. not (is_parameter x)) text)) test
    ∙ no_intermediates text is.2

sequence_is : (text : List ℕ) (final : ℕ) → IsParameterText text →
    sequence text final ≡ CsiDispatch (table_of text).groups [] final ∷ []
sequence_is text final is =
    ap (λ t. CsiDispatch (table_of t).groups (intermediates_of text) final ∷ []) (parameters_only text is)
    ∙ ap (λ m. CsiDispatch (table_of text).groups (take 2 m) final ∷ []) (no_intermediates text is)

intermediate_is : (text : List ℕ) (final : ℕ) → IsParameterText text →
    sequence (0x3F ∷ text) final ≡ CsiDispatch (table_of text).groups (0x3F ∷ []) final ∷ []
intermediate_is text final is =
    ap (λ t. CsiDispatch (table_of t).groups (intermediates_of (0x3F ∷ text)) final ∷ []) (parameters_only text is)
    ∙ ap (λ m. CsiDispatch (table_of text).groups (take 2 (0x3F ∷ m)) final ∷ []) (no_intermediates text is)

-- After CSI, a control sequence begins with no collected bytes.
read_csi_start : (bytes : List ℕ) →
    run start (0x1B ∷ 0x5B ∷ bytes) ≡ run (record { kind = CsiEntry; collected = [] }) bytes
unfolding class_of
read_csi_start bytes =
    read_escape_start (0x5B ∷ bytes)
    ∙ run-known (record { kind = Escape; collected = [] }) 0x5B bytes (gives CsiEntry [] []) refl

read_entry : (text : List ℕ) (final : ℕ) → IsParameterText text → 0x40 ≤ final → final ≤ 0x7E
    → run (record { kind = CsiEntry; collected = [] }) (text ++ final ∷ []) ≡ back_with (sequence text final)
read_entry [] final is low high =
    run-known (record { kind = CsiEntry; collected = [] }) final []
    (gives Ground [] (sequence [] final)) (step_final_at_once final low high)
read_entry (b ∷ text) final is low high =
    run-known (record { kind = CsiEntry; collected = [] }) b
    (text ++ final ∷ []) (gives CsiParam (b ∷ []) []) (step_first b is.0 is.1)
    ∙ read_rest (b ∷ []) text final is.2 low high

read_marker : (bytes : List ℕ) →
    run (record { kind = CsiEntry; collected = [] }) (0x3F ∷ bytes)
    ≡ run (record { kind = CsiParam; collected = 0x3F ∷ [] }) bytes
unfolding class_of
read_marker bytes =
    run-known (record { kind = CsiEntry; collected = [] }) 0x3F bytes (gives CsiParam (0x3F ∷ []) []) refl

-- A control sequence without intermediates is dispatched with its parameters.
pub read_csi : (text : List ℕ) (final : ℕ) → IsParameterText text → 0x40 ≤ final → final ≤ 0x7E
    → run start (0x1B ∷ 0x5B ∷ (text ++ final ∷ [])) ≡ back_with (CsiDispatch (table_of text).groups [] final ∷ [])
read_csi text final is low high =
    read_csi_start (text ++ final ∷ []) ∙ read_entry text final is low high ∙ ap back_with (sequence_is text final is)

-- A control sequence with the private marker `?` is dispatched with its parameters.
pub read_private : (text : List ℕ) (final : ℕ) → IsParameterText text → 0x40 ≤ final → final ≤ 0x7E
    → run start (0x1B ∷ 0x5B ∷ 0x3F ∷ (text ++ final ∷ []))
    ≡ back_with (CsiDispatch (table_of text).groups (0x3F ∷ []) final ∷ [])
read_private text final is low high =
    read_csi_start (0x3F ∷ (text ++ final ∷ [])) ∙ read_marker (text ++ final ∷ [])
    ∙ read_rest (0x3F ∷ []) text final is low high ∙ ap back_with (intermediate_is text final is)
