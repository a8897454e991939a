-- Bytes without EF B8 8F yield no U+FE0F, because the bytes of a character are consecutive.
use Rattle.std.proofs.Common.{◌≡◌, ◌≢◌, ℕ, ◌+◌, ◌*◌, ◌%◌, ◌<◌, nat_lt, Bool, true, false}
use Rattle.std.proofs.Common.{suc, List, [], ◌∷◌, ◌++◌, take, refl, sym, subst, ◌∙◌, ap, rules, arith}
use Rattle.std.specs.List.{AllByRecursion}
use Rattle.std.specs.Prelude.{if◌then◌else◌}
use Rattle.std.proofs.lemmas.Bool.Decides.{nat_tests}
use Rattle.std.proofs.lemmas.List.{append_assoc}
use Rattle.vt_scan.specs.Automaton.{State, Event, Step, Character, step_after, events_at_end, start, fresh_step}
use Rattle.vt_scan.specs.Automaton.{character_step, step_in, run}
use Rattle.vt_scan.specs.Characters.{is_character, is_beginning, character_of}
use Rattle.vt_scan.specs.Selectors.{ReadsNoSelector, SpellsNoSelector}
use Rattle.vt_scan.specs.Table.{class_of, transition_of}
use Rattle.vt_scan.specs.declared.table.Class.{Class}
use Rattle.vt_scan.specs.declared.table.Ending.TheVariants as ends
use Rattle.vt_scan.specs.declared.table.Kind.{Kind}
use Rattle.vt_scan.specs.declared.table.Kind.TheVariants.{Ground, Escape, EscapeIntermediate, CsiEntry, CsiParam}
use Rattle.vt_scan.specs.declared.table.Kind.TheVariants.{CsiIntermediate, CsiIgnore, OscString, Skip}
use Rattle.vt_scan.specs.declared.table.Transition.{Transition}
use Rattle.vt_scan.specs.declared.table.Transition.TheVariants.{Collect, Drop, Execute, End}
use Rattle.vt_scan.proofs.Steps.{step_in-table}

abbrev IsOther : Event → Type 0
IsOther event = event ≢ Character 0xFE0F

abbrev AreOthers : List Event → Type 0
AreOthers events = AllByRecursion IsOther events

abbrev code_of : Event → ℕ
code_of (Character c) = c
code_of _ = 0

differs : (c : ℕ) → c ≢ 0xFE0F → IsOther (Character c)
differs c h = λ e. h (ap code_of e)

replacement : IsOther (Character 0xFFFD)
replacement = differs 0xFFFD (λ e. absurd (omega (arith, e)))

others_then : (xs ys : List Event) → AreOthers xs → AreOthers ys → AreOthers (xs ++ ys)
others_then [] ys a b = b
others_then (x ∷ xs) ys a b = (a.0, others_then xs ys a.1 b)

-- ---- The bytes of U+FE0F

three_bytes : (a b c : ℕ) → is_character (a ∷ b ∷ c ∷ []) ≡ true → a % 16 * 4096 + b % 64 * 64 + c % 64 ≡ 0xFE0F →
    (a ≡ 0xEF) × (b ≡ 0xB8) × (c ≡ 0x8F)
unfolding is_character
three_bytes a b c e is =
    let first : a ≡ 0xEF = grind (arith, nat_tests) in
    let second : b ≡ 0xB8 = grind (arith, nat_tests) in
    let third : c ≡ 0x8F = grind (arith, nat_tests) in
    (first, second, third)

four_bytes : (a b c d : ℕ) → is_character (a ∷ b ∷ c ∷ d ∷ []) ≡ true →
    a % 8 * 262144 + b % 64 * 4096 + c % 64 * 64 + d % 64 ≢ 0xFE0F
unfolding is_character
four_bytes a b c d e is = grind (arith, nat_tests)

selector_bytes : (text : List ℕ) → is_character text ≡ true → character_of text ≡ 0xFE0F →
    text ≡ 0xEF ∷ 0xB8 ∷ 0x8F ∷ []
selector_bytes [] e is = absurd (omega (arith, is))
selector_bytes (a ∷ []) e is = absurd (omega (arith, is))
selector_bytes (a ∷ b ∷ []) e is = absurd (omega (arith, is))
selector_bytes (a ∷ b ∷ c ∷ []) e is =
    let (first, second, third) = three_bytes a b c e is in λ i. first i ∷ second i ∷ third i ∷ []
selector_bytes (a ∷ b ∷ c ∷ d ∷ []) e is = absurd (four_bytes a b c d e is)
selector_bytes (a ∷ b ∷ c ∷ d ∷ x ∷ xs) e is = absurd (omega (arith, is))

-- ---- One byte

-- The encoding of U+FE0F occurs neither in the bytes to come, nor in the bytes of an incomplete character followed by
-- them.
record IsFree (state : State) (bytes : List ℕ) : Type 0 where
  pub rest : SpellsNoSelector bytes
  pub begun : state.kind ≡ Ground → SpellsNoSelector (state.collected ++ bytes)

behind : (b : ℕ) (bytes : List ℕ) → SpellsNoSelector (b ∷ bytes) → SpellsNoSelector bytes
behind b bytes h = λ i. h (suc i)

free_start : (bytes : List ℕ) → SpellsNoSelector bytes → IsFree start bytes
free_start bytes h = record { rest = h; begun = λ e. h }

-- The step yields no U+FE0F, and the bytes after it cannot yield one.
abbrev GoesOn : Step → List ℕ → Type 0
GoesOn step bytes = AreOthers step.events × IsFree step.state bytes

-- The transition prints only in the ground state, and collects no bytes of a character.
abbrev TransitionsIn : Kind → Transition → Type 0
TransitionsIn kind (End next ends.Character) = kind ≡ Ground
TransitionsIn kind (Collect next) = next ≢ Ground
TransitionsIn kind _ = Unit {0}

transitions_in : (kind : Kind) (class : Class) → TransitionsIn kind (transition_of kind class)
transitions_in kind class = search rules

given_others : (kind next : Kind) (end : _) (text : List ℕ) (b : ℕ) → TransitionsIn kind (End next end) →
    (kind ≡ Ground → b < 0x80) → AreOthers (events_at_end end text b)
given_others kind next ends.Nothing text b p low = tt
given_others kind next ends.Character text b p low = (differs b (λ e. absurd (omega (arith, e, low p))), tt)
given_others kind next ends.Executed text b p low = (λ e. cc, tt)
given_others kind next ends.EscDispatch text b p low = (λ e. cc, tt)
given_others kind next ends.CsiDispatch text b p low = (λ e. cc, tt)
given_others kind next ends.OscDispatch text b p low = (λ e. cc, tt)
given_others kind next ends.OscDispatchAndExecuted text b p low = (λ e. cc, (λ e. cc, tt))

goes_after : (kind : Kind) (text : List ℕ) (b : ℕ) (bytes : List ℕ) (turn : Transition) → TransitionsIn kind turn →
    (kind ≡ Ground → (b < 0x80) × (text ≡ [])) → SpellsNoSelector bytes → GoesOn (step_after kind text b turn) bytes
goes_after kind text b bytes (Collect next) p fresh h =
    (tt, record { rest = h; begun = λ e. absurd (p e) })
goes_after kind text b bytes Drop p fresh h =
    (tt, record { rest = h; begun = λ e. subst (λ (t : List ℕ). SpellsNoSelector (t ++ bytes)) (sym (fresh e).1) h })
goes_after kind text b bytes Execute p fresh h = (
  (λ e. cc, tt),
  record { rest = h; begun = λ e. subst (λ (t : List ℕ). SpellsNoSelector (t ++ bytes)) (sym (fresh e).1) h },
)
goes_after kind text b bytes (End next end) p fresh h =
    (given_others kind next end text b p (λ e. (fresh e).0), record { rest = h; begun = λ e. h })

goes_if : (b : Bool) (x y : Step) (bytes : List ℕ) → (b ≡ true → GoesOn x bytes) → (b ≡ false → GoesOn y bytes)
    → GoesOn (if b then x else y) bytes
goes_if true x y bytes f g = f refl
goes_if false x y bytes f g = g refl

fresh_goes : (b : ℕ) (bytes : List ℕ) → SpellsNoSelector (b ∷ bytes) → GoesOn (fresh_step b) bytes
unfolding fresh_step
fresh_goes b bytes h =
    goes_if (nat_lt b 0x80) _ _ bytes
    (λ small. goes_after Ground [] b bytes (transition_of Ground (class_of b)) (transitions_in Ground (class_of b))
    (λ e. (grind (arith, nat_tests), refl)) (behind b bytes h))
    (λ large. goes_if (is_beginning (b ∷ [])) _ _ bytes
    (λ begins. (tt, record { rest = behind b bytes h; begun = λ e. h }))
    (λ other. ((replacement, tt), free_start bytes (behind b bytes h))))

whole_other : (text : List ℕ) (b : ℕ) (bytes : List ℕ) → SpellsNoSelector (text ++ b ∷ bytes) →
    is_character (text ++ b ∷ []) ≡ true → IsOther (Character (character_of (text ++ b ∷ [])))
whole_other text b bytes h whole =
    differs (character_of (text ++ b ∷ [])) (λ is.
    let spelled = selector_bytes (text ++ b ∷ []) whole is in
    h 0 (ap (take 3) (sym (append_assoc text (b ∷ []) bytes) ∙ ap (λ (t : List ℕ). t ++ bytes) spelled)))

more_goes : (text : List ℕ) (b : ℕ) (bytes : List ℕ) → SpellsNoSelector (b ∷ bytes) →
    SpellsNoSelector (text ++ b ∷ bytes) → GoesOn (character_step text b) bytes
unfolding character_step
more_goes text b bytes h all =
    goes_if (is_character (text ++ b ∷ [])) _ _ bytes
    (λ whole. ((whole_other text b bytes all whole, tt), free_start bytes (behind b bytes h)))
    (λ more. goes_if (is_beginning (text ++ b ∷ [])) _ _ bytes
    (λ begins. (
      tt,
      record {
        rest = behind b bytes h;
        begun = λ e. subst SpellsNoSelector (sym (append_assoc text (b ∷ []) bytes)) all;
      },
    ))
    (λ other. let goes = fresh_goes b bytes h in ((replacement, goes.0), goes.1)))

table_goes : (kind : Kind) (text : List ℕ) (b : ℕ) (bytes : List ℕ) → kind ≢ Ground → SpellsNoSelector bytes →
    GoesOn (step_in kind text b) bytes
table_goes kind text b bytes other h =
    subst (λ (step : Step). GoesOn step bytes) (sym (step_in-table kind text b other))
    (goes_after kind text b bytes (transition_of kind (class_of b)) (transitions_in kind (class_of b)) (λ e. absurd (other e)) h)

step_goes : (kind : Kind) (text : List ℕ) (b : ℕ) (bytes : List ℕ) → SpellsNoSelector (b ∷ bytes) →
    (kind ≡ Ground → SpellsNoSelector (text ++ b ∷ bytes)) → GoesOn (step_in kind text b) bytes
step_goes Ground [] b bytes h all = fresh_goes b bytes h
step_goes Ground (x ∷ xs) b bytes h all = more_goes (x ∷ xs) b bytes h (all refl)
step_goes Escape text b bytes h all = table_goes Escape text b bytes (λ e. cc) (behind b bytes h)
step_goes EscapeIntermediate text b bytes h all =
    table_goes EscapeIntermediate text b bytes (λ e. cc) (behind b bytes h)
step_goes CsiEntry text b bytes h all = table_goes CsiEntry text b bytes (λ e. cc) (behind b bytes h)
step_goes CsiParam text b bytes h all = table_goes CsiParam text b bytes (λ e. cc) (behind b bytes h)
step_goes CsiIntermediate text b bytes h all = table_goes CsiIntermediate text b bytes (λ e. cc) (behind b bytes h)
step_goes CsiIgnore text b bytes h all = table_goes CsiIgnore text b bytes (λ e. cc) (behind b bytes h)
step_goes OscString text b bytes h all = table_goes OscString text b bytes (λ e. cc) (behind b bytes h)
step_goes Skip text b bytes h all = table_goes Skip text b bytes (λ e. cc) (behind b bytes h)

-- ---- Several bytes

run_reads : (state : State) (bytes : List ℕ) → IsFree state bytes → ReadsNoSelector state bytes
run_reads state [] free = tt
run_reads state (b ∷ bytes) free =
    let step = step_in state.kind state.collected b in
    let goes = step_goes state.kind state.collected b bytes free.rest free.begun in
    others_then step.events (run step.state bytes).events goes.0 (run_reads step.state bytes goes.1)

pub reads_none : (bytes : List ℕ) → SpellsNoSelector bytes → ReadsNoSelector start bytes
reads_none bytes h = run_reads start bytes (free_start bytes h)
