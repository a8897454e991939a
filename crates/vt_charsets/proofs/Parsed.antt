-- The parser reads a translation as it reads the input, but for the characters of DEC Special Graphics.
use Rattle.std.proofs.Common.{rules, arith, ◌≡◌, ◌≢◌, ◌∙◌, ap, refl, sym, subst, ℕ, ◌<◌, ◌≤◌, ◌-◌, ◌+◌, ◌*◌, ◌%◌, Bool, true, false, nat_le, nat_lt, ◌==◌, ◌&&◌, List, [], ◌∷◌, ◌++◌, map, cond, ◌⊎◌, inl, inr, slice_index_or, zero, suc, length}
use Rattle.std.specs.Char.{IsScalar, encode_utf8}
use Rattle.std.proofs.lemmas.Bool.{false≢true}
use Rattle.std.proofs.lemmas.Bool.Decides.{nat_tests}
use Rattle.std.proofs.lemmas.List.{append-nil}
use Rattle.vt_scan.specs.Automaton.{State, Step, Event, Character, run, start, step_in, step_after, fresh_step, character_step, events_at_end}
use Rattle.vt_scan.specs.Characters.{continues, is_beginning, is_character, is_second, is_within, character_of}
use Rattle.vt_scan.specs.Table.{class_of, transition_of}
use Rattle.vt_scan.specs.Texts.{back_with}
use Rattle.vt_scan.proofs.Readback.{events_then, read_written, run-append, run-known}
use Rattle.vt_scan.proofs.Steps.{character_step-broken, fresh_step-character, fresh_step-low, step_in-table}
use Rattle.vt_scan.specs.declared.table.Class.{Class}
use Rattle.vt_scan.specs.declared.table.Class.TheVariants.{High}
use Rattle.vt_scan.specs.declared.table.Ending as ending
use Rattle.vt_scan.specs.declared.table.Ending.TheVariants as ends
use Rattle.vt_scan.specs.declared.table.Kind.{Kind}
use Rattle.vt_scan.specs.declared.table.Kind.TheVariants.{Ground, Escape, EscapeIntermediate, CsiEntry, CsiParam, CsiIntermediate, CsiIgnore, OscString, Skip}
use Rattle.vt_scan.specs.declared.table.Transition.{Transition}
use Rattle.vt_scan.specs.declared.table.Transition.TheVariants.{Collect, Drop, Execute, End}
use Rattle.vt_charsets.specs.Events.{code_points, drawn_character, drawn_event, drawn_events}
use Rattle.vt_charsets.specs.Sets.{current_set}
use Rattle.vt_charsets.specs.Translation.{Reading, glyphs, is_drawing, is_graphics, is_ground, next_reading, output_of, reading_after, reading_by, translation}
use Rattle.vt_charsets.specs.declared.sets.CharsetState.{CharsetState}

-- ==== A byte that continues no character.

second_continues : (a c : ℕ) → continues c ≡ false → is_second a c ≡ false
second_continues a c e = grind (arith, nat_tests, e)

and_false : (x y : Bool) → y ≡ false → (x && y) ≡ false
and_false true y e = e
and_false false y e = refl

not_character : (x : ℕ) (xs : List ℕ) (c : ℕ) → continues c ≡ false → is_character (x ∷ (xs ++ c ∷ [])) ≡ false
unfolding is_character
not_character x [] c e = and_false _ _ e
not_character x (y ∷ []) c e = and_false _ _ (and_false _ _ e)
not_character x (y ∷ z ∷ []) c e =
    and_false (is_within 0xF0 0xF4 x) _ (and_false (is_second x y) _ (and_false (continues z) (continues c) e))
not_character x (y ∷ z ∷ w ∷ []) c e = refl
not_character x (y ∷ z ∷ w ∷ v ∷ rest) c e = refl

not_beginning : (x : ℕ) (xs : List ℕ) (c : ℕ) → continues c ≡ false → is_beginning (x ∷ (xs ++ c ∷ [])) ≡ false
unfolding is_beginning
not_beginning x [] c e = and_false _ _ (second_continues x c e)
not_beginning x (y ∷ []) c e = and_false _ _ (and_false _ _ e)
not_beginning x (y ∷ z ∷ []) c e = refl
not_beginning x (y ∷ z ∷ w ∷ []) c e = refl
not_beginning x (y ∷ z ∷ w ∷ v ∷ rest) c e = refl

broken : (x : ℕ) (xs : List ℕ) (c : ℕ) → continues c ≡ false →
    character_step (x ∷ xs) c ≡ record { state = (fresh_step c).state; events = Character 0xFFFD ∷ (fresh_step c).events }
broken x xs c e = character_step-broken (x ∷ xs) c (not_character x xs c e) (not_beginning x xs c e)

-- The first byte continues no character.
abbrev Starts : List ℕ → Type 0
Starts [] = ⊥
Starts (c ∷ rest) = continues c ≡ false

run_broken : (x : ℕ) (xs bytes : List ℕ) → Starts bytes →
    run (record { kind = Ground; collected = x ∷ xs }) bytes ≡ events_then (Character 0xFFFD ∷ []) (run start bytes)
run_broken x xs [] h = absurd h
run_broken x xs (c ∷ rest) h =
    run-known (record { kind = Ground; collected = x ∷ xs }) c rest
    (record { state = (fresh_step c).state; events = Character 0xFFFD ∷ (fresh_step c).events }) (broken x xs c h)

-- ==== The translator is in the parser's kind of state.

after_kind : (k : Kind) (r : Reading) (text : List ℕ) (b : ℕ) (t : Transition) → k ≡ r.kind →
    (step_after k text b t).state.kind ≡ (reading_by r b t).kind
after_kind k r text b (Collect next) e = refl
after_kind k r text b Drop e = e
after_kind k r text b Execute e = e
after_kind k r text b (End next end) e = refl

chosen : (t : Bool) (x y : Step) → x.state.kind ≡ Ground → y.state.kind ≡ Ground → (cond t x y).state.kind ≡ Ground
chosen true x y p q = p
chosen false x y p q = q

fresh_high : (b : ℕ) → 0x80 ≤ b → (fresh_step b).state.kind ≡ Ground
unfolding fresh_step
fresh_high b h =
    let test : nat_lt b 0x80 ≡ false = grind (arith, nat_tests) in rw test (chosen (is_beginning (b ∷ [])) _ _ refl refl)

class_high : (b : ℕ) → 0x80 ≤ b → class_of b ≡ High
unfolding class_of
class_high b h =
    let t1 : nat_lt b 0x20 ≡ false = grind (arith, nat_tests) in
    let t2 : nat_lt b 0x30 ≡ false = grind (arith, nat_tests) in
    let t3 : nat_lt b 0x3C ≡ false = grind (arith, nat_tests) in
    let t4 : nat_lt b 0x40 ≡ false = grind (arith, nat_tests) in
    let t5 : nat_lt b 0x7F ≡ false = grind (arith, nat_tests) in
    let t6 : (b == 0x7F) ≡ false = grind (arith, nat_tests) in
    rw t1 (rw t2 (rw t3 (rw t4 (rw t5 (rw t6 refl)))))

-- The reading in the ground state.
abbrev kind_in_ground : Reading → ℕ → Kind
kind_in_ground r b = (reading_by r b (transition_of Ground (class_of b))).kind

ground_high : (r : Reading) (b : ℕ) → 0x80 ≤ b → Ground ≡ kind_in_ground r b
ground_high r b high = sym (ap (λ (c : Class). (reading_by r b (transition_of Ground c)).kind) (class_high b high))

fresh_kind : (r : Reading) (b : ℕ) → Ground ≡ r.kind → (b < 0x80) ⊎ (0x80 ≤ b) →
    (fresh_step b).state.kind ≡ kind_in_ground r b
fresh_kind r b e (inl low) =
    ap (λ (s : Step). s.state.kind) (fresh_step-low b low) ∙ after_kind Ground r [] b (transition_of Ground (class_of b)) e
fresh_kind r b e (inr high) = fresh_high b high ∙ ground_high r b high

split_at : (b : ℕ) → (b < 0x80) ⊎ (0x80 ≤ b)
split_at b = search rules

more_high : (text : List ℕ) (b : ℕ) → 0x80 ≤ b → (character_step text b).state.kind ≡ Ground
unfolding character_step
more_high text b high =
    chosen (is_character (text ++ b ∷ [])) _ _ refl
    (chosen (is_beginning (text ++ b ∷ [])) _ _ refl (fresh_high b high))

more_kind : (r : Reading) (x : ℕ) (xs : List ℕ) (b : ℕ) → Ground ≡ r.kind → (b < 0x80) ⊎ (0x80 ≤ b) →
    (character_step (x ∷ xs) b).state.kind ≡ kind_in_ground r b
more_kind r x xs b e (inl low) =
    let other : continues b ≡ false = grind (arith, nat_tests) in
    ap (λ (s : Step). s.state.kind) (broken x xs b other) ∙ fresh_kind r b e (inl low)
more_kind r x xs b e (inr high) = more_high (x ∷ xs) b high ∙ ground_high r b high

abbrev SameKind : Kind → List ℕ → Type 0
SameKind kind text = (r : Reading) (b : ℕ) → kind ≡ r.kind → (step_in kind text b).state.kind ≡ (next_reading r b).kind

table_kind : (kind : Kind) (text : List ℕ) → kind ≢ Ground → SameKind kind text
table_kind kind text other = λ r b e.
    ap (λ (s : Step). s.state.kind) (step_in-table kind text b other)
    ∙ after_kind kind r text b (transition_of kind (class_of b)) e
    ∙ ap (λ (k : Kind). (reading_by r b (transition_of k (class_of b))).kind) e

ground_kind : (text : List ℕ) → SameKind Ground text
ground_kind [] = λ r b e.
    fresh_kind r b e (split_at b) ∙ ap (λ (k : Kind). (reading_by r b (transition_of k (class_of b))).kind) e
ground_kind (x ∷ xs) = λ r b e.
    more_kind r x xs b e (split_at b) ∙ ap (λ (k : Kind). (reading_by r b (transition_of k (class_of b))).kind) e

same_kind : (kind : Kind) (text : List ℕ) → SameKind kind text
same_kind Ground text = ground_kind text
same_kind Escape text = table_kind Escape text (λ e. cc)
same_kind EscapeIntermediate text = table_kind EscapeIntermediate text (λ e. cc)
same_kind CsiEntry text = table_kind CsiEntry text (λ e. cc)
same_kind CsiParam text = table_kind CsiParam text (λ e. cc)
same_kind CsiIntermediate text = table_kind CsiIntermediate text (λ e. cc)
same_kind CsiIgnore text = table_kind CsiIgnore text (λ e. cc)
same_kind OscString text = table_kind OscString text (λ e. cc)
same_kind Skip text = table_kind Skip text (λ e. cc)

pub run_kind : (s : State) (r : Reading) (bytes : List ℕ) → s.kind ≡ r.kind →
    (run s bytes).state.kind ≡ (reading_after r bytes).kind
run_kind s r [] e = e
run_kind s r (b ∷ bytes) e =
    run_kind (step_in s.kind s.collected b).state (next_reading r b) bytes (same_kind s.kind s.collected r b e)

-- ==== A byte that is not replaced.

abbrev AreSame : CharsetState → List Event → Type 0
AreSame d events = map (drawn_event d) events ≡ events

abbrev PrintsIn : Kind → Transition → Type 0
PrintsIn kind (End next ends.Character) = kind ≡ Ground
PrintsIn kind _ = Unit {0}

turn_prints : (kind : Kind) (class : Class) → PrintsIn kind (transition_of kind class)
turn_prints kind class = search rules

same_end : (d : CharsetState) (kind : Kind) (end : ending.Ending) (text : List ℕ) (b : ℕ) (next : Kind) →
    PrintsIn kind (End next end) → (kind ≡ Ground → drawn_character d b ≡ b) → AreSame d (events_at_end end text b)
same_end d kind ends.Nothing text b next p h = refl
same_end d kind ends.Character text b next p h = ap (λ (c : ℕ). Character c ∷ []) (h p)
same_end d kind ends.Executed text b next p h = refl
same_end d kind ends.EscDispatch text b next p h = refl
same_end d kind ends.CsiDispatch text b next p h = refl
same_end d kind ends.OscDispatch text b next p h = refl
same_end d kind ends.OscDispatchAndExecuted text b next p h = refl

same_after : (d : CharsetState) (kind : Kind) (text : List ℕ) (b : ℕ) (t : Transition) → PrintsIn kind t →
    (kind ≡ Ground → drawn_character d b ≡ b) → AreSame d (step_after kind text b t).events
same_after d kind text b (Collect next) p h = refl
same_after d kind text b Drop p h = refl
same_after d kind text b Execute p h = refl
same_after d kind text b (End next end) p h = same_end d kind end text b next p h

same_if : (d : CharsetState) (t : Bool) (x y : Step) → (t ≡ true → AreSame d x.events) →
    (t ≡ false → AreSame d y.events) → AreSame d (cond t x y).events
same_if d true x y f g = f refl
same_if d false x y f g = g refl

same_fresh : (d : CharsetState) (b : ℕ) → drawn_character d b ≡ b → AreSame d (fresh_step b).events
unfolding fresh_step
same_fresh d b same =
    same_if d (nat_lt b 0x80) _ _ (λ low. same_after d Ground [] b (transition_of Ground (class_of b))
    (turn_prints Ground (class_of b)) (λ e. same))
    (λ high. same_if d (is_beginning (b ∷ [])) _ _ (λ begins. refl) (λ other. refl))

beyond : (t g : Bool) (u v : ℕ) → cond (t && (false && g)) u v ≡ v
beyond true g u v = refl
beyond false g u v = refl

same_above : (d : CharsetState) (c : ℕ) → 0x7F ≤ c → drawn_character d c ≡ c
same_above d c high =
    let test : nat_lt c 0x7F ≡ false = grind (arith, nat_tests) in
    rw test (beyond (nat_le 0x5F c) (is_graphics (current_set d)) (slice_index_or code_points (c - 0x5F) 0) c)

two_above : (a b : ℕ) → is_character (a ∷ b ∷ []) ≡ true → 0x7F ≤ a % 32 * 64 + b % 64
unfolding is_character
two_above a b e = grind (arith, nat_tests)

three_above : (a b c : ℕ) → is_character (a ∷ b ∷ c ∷ []) ≡ true → 0x7F ≤ a % 16 * 4096 + b % 64 * 64 + c % 64
unfolding is_character
three_above a b c e = grind (arith, nat_tests)

four_above : (a b c d : ℕ) → is_character (a ∷ b ∷ c ∷ d ∷ []) ≡ true →
    0x7F ≤ a % 8 * 262144 + b % 64 * 4096 + c % 64 * 64 + d % 64
unfolding is_character
four_above a b c d e = grind (arith, nat_tests)

above : (bytes : List ℕ) → is_character bytes ≡ true → 0x7F ≤ character_of bytes
unfolding is_character
above [] e = absurd (false≢true e)
above (a ∷ []) e = absurd (false≢true e)
above (a ∷ b ∷ []) e = two_above a b e
above (a ∷ b ∷ c ∷ []) e = three_above a b c e
above (a ∷ b ∷ c ∷ d ∷ []) e = four_above a b c d e
above (a ∷ b ∷ c ∷ d ∷ x ∷ xs) e = absurd (false≢true e)

same_more : (d : CharsetState) (text : List ℕ) (b : ℕ) → drawn_character d b ≡ b → AreSame d (character_step text b).events
unfolding character_step
same_more d text b same =
    same_if d (is_character (text ++ b ∷ [])) _ _
    (λ whole. ap (λ (c : ℕ). Character c ∷ []) (same_above d (character_of (text ++ b ∷ [])) (above (text ++ b ∷ []) whole)))
    (λ more. same_if d (is_beginning (text ++ b ∷ [])) _ _ (λ begins. refl)
    (λ other. ap (λ (l : List Event). Character 0xFFFD ∷ l) (same_fresh d b same)))

abbrev SameStep : Kind → List ℕ → Type 0
SameStep kind text = (d : CharsetState) (b : ℕ) → (kind ≡ Ground → drawn_character d b ≡ b) →
    AreSame d (step_in kind text b).events

same_table : (kind : Kind) (text : List ℕ) → kind ≢ Ground → SameStep kind text
same_table kind text other = λ d b h.
    subst (λ (s : Step). AreSame d s.events) (sym (step_in-table kind text b other))
    (same_after d kind text b (transition_of kind (class_of b)) (turn_prints kind (class_of b)) h)

same_ground : (text : List ℕ) → SameStep Ground text
same_ground [] = λ d b h. same_fresh d b (h refl)
same_ground (x ∷ xs) = λ d b h. same_more d (x ∷ xs) b (h refl)

same_step : (kind : Kind) (text : List ℕ) → SameStep kind text
same_step Ground text = same_ground text
same_step Escape text = same_table Escape text (λ e. cc)
same_step EscapeIntermediate text = same_table EscapeIntermediate text (λ e. cc)
same_step CsiEntry text = same_table CsiEntry text (λ e. cc)
same_step CsiParam text = same_table CsiParam text (λ e. cc)
same_step CsiIntermediate text = same_table CsiIntermediate text (λ e. cc)
same_step CsiIgnore text = same_table CsiIgnore text (λ e. cc)
same_step OscString text = same_table OscString text (λ e. cc)
same_step Skip text = same_table Skip text (λ e. cc)

-- ==== A byte that is replaced.

-- The glyphs are the UTF-8 encodings of the code points.
glyphs_are : glyphs ≡ map encode_utf8 code_points
unfolding encode_utf8
glyphs_are = refl

-- A code point that is read back, and whose encoding continues no character.
pub record IsGlyph (glyph : List ℕ) (c : ℕ) : Type 0 where
  pub starts : Starts glyph
  pub coded : glyph ≡ encode_utf8 c
  pub scalar : IsScalar c
  pub printable : 0x20 ≤ c

abbrev pub AreGlyphs : List (List ℕ) → List ℕ → Type 0
AreGlyphs [] [] = Unit {0}
AreGlyphs (glyph ∷ glyphs) (c ∷ cs) = IsGlyph glyph c × AreGlyphs glyphs cs
AreGlyphs _ _ = ⊥

all_glyphs : AreGlyphs glyphs code_points
unfolding encode_utf8
all_glyphs = search (rules, arith)

entry_is : (gs : List (List ℕ)) (cs : List ℕ) (i : ℕ) → AreGlyphs gs cs → i < length cs →
    IsGlyph (slice_index_or gs i []) (slice_index_or cs i 0)
entry_is [] [] i h inside = absurd (let no : i < 0 = inside in omega arith)
entry_is [] (c ∷ cs) i h inside = absurd h
entry_is (g ∷ gs) [] i h inside = absurd h
entry_is (g ∷ gs) (c ∷ cs) zero (p, q) inside = p
entry_is (g ∷ gs) (c ∷ cs) (suc i) (p, q) inside = entry_is gs cs i q (omega (arith, inside))

read_glyph : (glyph : List ℕ) (c : ℕ) → IsGlyph glyph c → run start glyph ≡ back_with (Character c ∷ [])
read_glyph glyph c is = ap (run start) is.coded ∙ read_written c is.scalar is.printable

-- What the parser does with a byte in the ground state, with the characters replaced.
abbrev Drawn : CharsetState → Kind → List ℕ → ℕ → Step
Drawn d kind text b =
    record { state = (step_in kind text b).state; events = map (drawn_event d) (step_in kind text b).events }

drawn_fresh : (d : CharsetState) (b c : ℕ) (glyph : List ℕ) → IsGlyph glyph c → drawn_character d b ≡ c →
    0x20 ≤ b → b < 0x7F → run start glyph ≡ record { state = (fresh_step b).state; events = map (drawn_event d) (fresh_step b).events }
drawn_fresh d b c glyph is drawn low high =
    read_glyph glyph c is ∙ ap (λ (k : ℕ). back_with (Character k ∷ [])) (sym drawn)
    ∙ ap (λ (s : Step). record { state = s.state; events = map (drawn_event d) s.events })
    (sym (fresh_step-character b low (omega (arith, high))))

drawn_ground : (d : CharsetState) (text : List ℕ) (b c : ℕ) (glyph : List ℕ) → IsGlyph glyph c → drawn_character d b ≡ c →
    0x20 ≤ b → b < 0x7F → run (record { kind = Ground; collected = text }) glyph ≡ Drawn d Ground text b
drawn_ground d [] b c glyph is drawn low high = drawn_fresh d b c glyph is drawn low high
drawn_ground d (x ∷ xs) b c glyph is drawn low high =
    let other : continues b ≡ false = grind (arith, nat_tests, low, high) in
    run_broken x xs glyph is.starts
    ∙ ap (events_then (Character 0xFFFD ∷ [])) (drawn_fresh d b c glyph is drawn low high)
    ∙ ap (λ (s : Step). record { state = s.state; events = map (drawn_event d) s.events }) (sym (broken x xs b other))

-- ==== One byte.

pub by_test : {A : Type 0} (t : Bool) (P : A → Type 0) (x y : A) → (t ≡ true → P x) → (t ≡ false → P y) → P (cond t x y)
by_test true P x y p q = p refl
by_test false P x y p q = q refl

abbrev pub replaces : Kind → CharsetState → ℕ → Bool
replaces kind d b = nat_le 0x5F b && (nat_lt b 0x7F && is_drawing kind d)

-- What the test of a byte says.
pub record Replaces (kind : Kind) (d : CharsetState) (b : ℕ) : Type 0 where
  pub ground : kind ≡ Ground
  pub low : nat_le 0x5F b ≡ true
  pub high : nat_lt b 0x7F ≡ true
  pub graphics : is_graphics (current_set d) ≡ true

ground_from : (kind : Kind) → is_ground kind ≡ true → kind ≡ Ground
ground_from kind e = search rules

pub split_test : (kind : Kind) (d : CharsetState) (b : ℕ) (l h g s : Bool) → nat_le 0x5F b ≡ l → nat_lt b 0x7F ≡ h →
    is_ground kind ≡ g → is_graphics (current_set d) ≡ s → (l && (h && (g && s))) ≡ true → Replaces kind d b
split_test kind d b true true true true el eh eg es e = record { ground = ground_from kind eg; low = el; high = eh; graphics = es }
split_test kind d b true true true false el eh eg es e = absurd (false≢true e)
split_test kind d b true true false s el eh eg es e = absurd (false≢true e)
split_test kind d b true false g s el eh eg es e = absurd (false≢true e)
split_test kind d b false h g s el eh eg es e = absurd (false≢true e)

replaced : (d : CharsetState) (kind : Kind) (text : List ℕ) (b : ℕ) → Replaces kind d b →
    run (record { kind = kind; collected = text }) (slice_index_or glyphs (b - 0x5F) []) ≡ Drawn d kind text b
replaced d kind text b is =
    let low : 0x5F ≤ b = grind (arith, nat_tests, is.low) in
    let high : b < 0x7F = grind (arith, nat_tests, is.high) in
    let drawn : drawn_character d b ≡ slice_index_or code_points (b - 0x5F) 0 = rw (is.low, is.high, is.graphics) refl in
    subst (λ (k : Kind). run (record { kind = k; collected = text }) (slice_index_or glyphs (b - 0x5F) []) ≡ Drawn d k text b)
    (sym is.ground)
    (drawn_ground d text b (slice_index_or code_points (b - 0x5F) 0) (slice_index_or glyphs (b - 0x5F) [])
    (entry_is glyphs code_points (b - 0x5F) all_glyphs (omega (arith, low, high))) drawn (omega (arith, low)) high)

not_replaced : (d : CharsetState) (kind : Kind) (text : List ℕ) (b : ℕ) → replaces kind d b ≡ false →
    run (record { kind = kind; collected = text }) (b ∷ []) ≡ Drawn d kind text b
not_replaced d kind text b none =
    let step = step_in kind text b in
    ap (λ (l : List Event). record { state = step.state; events = l })
    (append-nil step.events
    ∙ sym (same_step kind text d b (λ (e : kind ≡ Ground).
    ap (λ (t : Bool). cond t (slice_index_or code_points (b - 0x5F) 0) b)
    (sym (ap (λ (k : Kind). replaces k d b) e) ∙ none))))

one_byte : (d : CharsetState) (kind : Kind) (text : List ℕ) (b : ℕ) →
    run (record { kind = kind; collected = text }) (output_of kind d b) ≡ Drawn d kind text b
one_byte d kind text b =
    by_test (replaces kind d b) (λ (l : List ℕ). run (record { kind = kind; collected = text }) l ≡ Drawn d kind text b)
    (slice_index_or glyphs (b - 0x5F) []) (b ∷ [])
    (λ t. replaced d kind text b (split_test kind d b _ _ _ _ refl refl refl refl t))
    (λ f. not_replaced d kind text b f)

-- ==== Whole input.

pub reads_as : (s : State) (r : Reading) (bytes : List ℕ) → s.kind ≡ r.kind →
    run s (translation r bytes) ≡ record { state = (run s bytes).state; events = drawn_events s r bytes }
reads_as s r [] e = refl
reads_as s r (b ∷ bytes) e =
    let step = step_in s.kind s.collected b in
    let rest = translation (next_reading r b) bytes in
    let first : run s (output_of r.kind r.state b) ≡ Drawn r.state s.kind s.collected b =
    ap (λ (k : Kind). run s (output_of k r.state b)) (sym e) ∙ one_byte r.state s.kind s.collected b in
    run-append s (output_of r.kind r.state b) rest
    ∙ ap (λ (f : Step). events_then f.events (run f.state rest)) first
    ∙ ap (events_then (map (drawn_event r.state) step.events))
    (reads_as step.state (next_reading r b) bytes (same_kind s.kind s.collected r b e))
