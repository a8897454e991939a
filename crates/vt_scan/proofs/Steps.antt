-- The steps of the automaton, and the states that the scanner stands for after each byte.
use Rattle.std.proofs.Common.{◌≡◌, ◌≢◌, ℕ, ◌<◌, ◌≤◌, ◌==◌, ◌||◌, nat_lt, Bool, true, false, cond, List, [], ◌∷◌, ◌++◌}
use Rattle.std.proofs.Common.{refl, ◌∙◌, ap, arith, not, take, filter, sym, inl, inr, length, map, Some, None, subst}
use Rattle.std.proofs.lemmas.Bool.Decides.{nat_tests}
use Rattle.std.proofs.lemmas.List.{append-nil}
use Rattle.std.proofs.lemmas.List.Elements.{filter-append}
use Rattle.std.specs.Option.{option_to_list}
use Rattle.std.proofs.lemmas.Bool.{false≢true}
use Rattle.std.proofs.Math.Logic.{∥∥₁_map}
use Rattle.vt_scan.specs.Table.{class_of, transition_of}
use Rattle.vt_scan.specs.Characters.{is_character, is_beginning, character_of}
use Rattle.vt_scan.specs.Automaton.{Step, Event, Character, Executed, step_after, fresh_step, character_step, step_in}
use Rattle.vt_scan.specs.Automaton.{is_parameter, parameter_text, parts_of, State, run}
use Rattle.vt_scan.specs.declared.table.Kind.{Kind}
use Rattle.vt_scan.specs.declared.table.Kind.TheVariants.{Ground, Escape, EscapeIntermediate, CsiEntry, CsiParam}
use Rattle.vt_scan.specs.declared.table.Kind.TheVariants.{CsiIntermediate, CsiIgnore, OscString, Skip}
use Rattle.vt_scan.specs.declared.table.Class.{Class}
use Rattle.vt_scan.specs.declared.table.Class.TheVariants as class
use Rattle.vt_scan.specs.Parameters.{table_of, GroupTable}
use Rattle.vt_scan.specs.Scanner.{ScannerValue, Reads, ReadsSequence, Feeds, StandsFor, Follows, event_of, events_in}
use Rattle.vt_scan.specs.Scanner.{FeedsAll}
use Rattle.vt_scan.specs.Internals.{InSequence, Fits, Begins, Extends, FitsEnding, answer_of}
use Rattle.vt_scan.specs.declared.table.Transition.TheVariants.{Collect, End}
use Rattle.vt_scan.specs.Automaton as automaton
use Rattle.vt_scan.specs.declared.table.Ending as ending
use Rattle.vt_scan.specs.declared.table.Ending.TheVariants as ends
use Rattle.vt_scan.specs.declared.event.Event as event
use Rattle.vt_scan.specs.declared.event.Event.TheVariants as given
use Rattle.vt_scan.specs.declared.event.Events.{Events}
use Rattle.vt_scan.specs.declared.unfinished.Extended.TheVariants.{Further, Character as Decoded, Broken}

-- ==== The steps of the automaton, case by case.

abbrev pub gives : Kind → List ℕ → List Event → Step
gives kind collected events = record { state = record { kind = kind; collected = collected }; events = events }

-- A statement that holds for two classes holds for whichever of them a test selects.
pub either : (P : Class → Type 0) (t : Bool) (x y : Class) → P x → P y → P (cond t x y)
either P true x y p q = p
either P false x y p q = q

-- A statement about the class of a byte from 20 on can be proved from the columns of ECMA-48's code table.
pub class_of-text : (P : Class → Type 0) (b : ℕ) → 0x20 ≤ b
    → P (cond (nat_lt b 0x30) class.Intermediate
    (cond (nat_lt b 0x3C) class.Parameter (cond (nat_lt b 0x40) class.Marker (cond (nat_lt b 0x7F)
    (cond (b == 0x5B) class.CsiStart
    (cond (b == 0x5D) class.OscStart
    (cond (b == 0x50 || (b == 0x58 || (b == 0x5E || b == 0x5F))) class.SkipStart class.Final)))
    (cond (b == 0x7F) class.Delete class.High)))))
    → P (class_of b)
unfolding class_of
class_of-text P b h p = let test : nat_lt b 0x20 ≡ false = grind (arith, nat_tests) in rw test p

pub class_of-control : (P : Class → Type 0) (b : ℕ) → b < 0x20 → b ≢ 0x1B
    → P (cond (b == 0x07) class.Bell (cond (b == 0x18 || b == 0x1A) class.Cancel class.Control))
    → P (class_of b)
unfolding class_of
class_of-control P b h n p =
    let test : nat_lt b 0x20 ≡ true = grind (arith, nat_tests) in
    let other : (b == 0x1B) ≡ false = grind (arith, nat_tests) in
    rw (test, other) p

pub fresh_step-low : (b : ℕ) → b < 0x80 → fresh_step b ≡ step_after Ground [] b (transition_of Ground (class_of b))
unfolding fresh_step
fresh_step-low b h = let test : nat_lt b 0x80 ≡ true = grind (arith, nat_tests) in rw test refl

-- If no character is incomplete, a byte from 20 to 7F is read as that character.
pub fresh_step-character : (b : ℕ) → 0x20 ≤ b → b < 0x80 → fresh_step b ≡ gives Ground [] (Character b ∷ [])
fresh_step-character b low high =
    let P : Class → Type 0 = λ k. step_after Ground [] b (transition_of Ground k) ≡ gives Ground [] (Character b ∷ []) in
    fresh_step-low b high
    ∙ class_of-text P b low
    (either P (nat_lt b 0x30) _ _ refl
    (either P (nat_lt b 0x3C) _ _ refl (either P (nat_lt b 0x40) _ _ refl (either P (nat_lt b 0x7F) _ _
    (either P (b == 0x5B) _ _ refl
    (either P (b == 0x5D) _ _ refl (either P (b == 0x50 || (b == 0x58 || (b == 0x5E || b == 0x5F))) _ _ refl refl)))
    (either P (b == 0x7F) _ _ refl refl)))))

-- If no character is incomplete, a control character other than ESC is executed.
pub fresh_step-control : (b : ℕ) → b < 0x20 → b ≢ 0x1B → fresh_step b ≡ gives Ground [] (Executed b ∷ [])
fresh_step-control b high other =
    let P : Class → Type 0 = λ k. step_after Ground [] b (transition_of Ground k) ≡ gives Ground [] (Executed b ∷ []) in
    fresh_step-low b (omega arith)
    ∙ class_of-control P b high other (either P (b == 0x07) _ _ refl (either P (b == 0x18 || b == 0x1A) _ _ refl refl))

pub fresh_step-escape : fresh_step 0x1B ≡ gives Escape [] []
unfolding fresh_step class_of
fresh_step-escape = refl

pub fresh_step-begun : (b : ℕ) → 0x80 ≤ b → is_beginning (b ∷ []) ≡ true → fresh_step b ≡ gives Ground (b ∷ []) []
unfolding fresh_step
fresh_step-begun b high is = let test : nat_lt b 0x80 ≡ false = grind (arith, nat_tests) in rw (test, is) refl

pub fresh_step-broken : (b : ℕ) → 0x80 ≤ b → is_beginning (b ∷ []) ≡ false →
    fresh_step b ≡ gives Ground [] (Character 0xFFFD ∷ [])
unfolding fresh_step
fresh_step-broken b high is = let test : nat_lt b 0x80 ≡ false = grind (arith, nat_tests) in rw (test, is) refl

pub character_step-whole : (text : List ℕ) (b : ℕ) → is_character (text ++ b ∷ []) ≡ true →
    character_step text b ≡ gives Ground [] (Character (character_of (text ++ b ∷ [])) ∷ [])
unfolding character_step
character_step-whole text b is = rw is refl

pub character_step-further : (text : List ℕ) (b : ℕ) → is_character (text ++ b ∷ []) ≡ false →
    is_beginning (text ++ b ∷ []) ≡ true → character_step text b ≡ gives Ground (text ++ b ∷ []) []
unfolding character_step
character_step-further text b other is = rw (other, is) refl

pub character_step-broken : (text : List ℕ) (b : ℕ)
    → is_character (text ++ b ∷ []) ≡ false → is_beginning (text ++ b ∷ []) ≡ false
    → character_step text b ≡ record { state = (fresh_step b).state; events = Character 0xFFFD ∷ (fresh_step b).events }
unfolding character_step
character_step-broken text b other none = rw (other, none) refl

pub step_in-fresh : (text : List ℕ) (b : ℕ) → text ≡ [] → step_in Ground text b ≡ fresh_step b
step_in-fresh text b e = ap (λ t. step_in Ground t b) e

pub step_in-character : (text : List ℕ) (b : ℕ) → text ≢ [] → step_in Ground text b ≡ character_step text b
step_in-character [] b n = absurd (n refl)
step_in-character (x ∷ xs) b n = refl

-- Outside the ground state, steps follow the table.
pub step_in-table : (kind : Kind) (text : List ℕ) (b : ℕ) → kind ≢ Ground →
    step_in kind text b ≡ step_after kind text b (transition_of kind (class_of b))
step_in-table Ground text b n = absurd (n refl)
step_in-table Escape text b n = refl
step_in-table EscapeIntermediate text b n = refl
step_in-table CsiEntry text b n = refl
step_in-table CsiParam text b n = refl
step_in-table CsiIntermediate text b n = refl
step_in-table CsiIgnore text b n = refl
step_in-table OscString text b n = refl
step_in-table Skip text b n = refl

-- ==== Collecting one more byte of a sequence: a parameter byte or an intermediate.

-- In every kind of state inside a sequence, the scanner holds the numbers and intermediates of the collected bytes.
pub sequence_from : (kind : Kind) (held : ScannerValue) (text : List ℕ) →
    InSequence kind → Reads held kind text → ReadsSequence held text
sequence_from Ground held text s r = absurd s
sequence_from Escape held text s r = r
sequence_from EscapeIntermediate held text s r = r
sequence_from CsiEntry held text s r = r
sequence_from CsiParam held text s r = r
sequence_from CsiIntermediate held text s r = r
sequence_from CsiIgnore held text s r = absurd s
sequence_from OscString held text s r = absurd s
sequence_from Skip held text s r = absurd s

pub sequence_to : (kind : Kind) (held : ScannerValue) (text : List ℕ) →
    InSequence kind → ReadsSequence held text → Reads held kind text
sequence_to Ground held text s r = absurd s
sequence_to Escape held text s r = r
sequence_to EscapeIntermediate held text s r = r
sequence_to CsiEntry held text s r = r
sequence_to CsiParam held text s r = r
sequence_to CsiIntermediate held text s r = r
sequence_to CsiIgnore held text s r = absurd s
sequence_to OscString held text s r = absurd s
sequence_to Skip held text s r = absurd s

pub filter-yes : (p : ℕ → Bool) (text : List ℕ) (b : ℕ) →
    p b ≡ true → filter p (text ++ b ∷ []) ≡ filter p text ++ b ∷ []
filter-yes p text b h = filter-append p text (b ∷ []) ∙ ap (λ t. filter p text ++ cond t (b ∷ []) []) h

pub filter-no : (p : ℕ → Bool) (text : List ℕ) (b : ℕ) → p b ≡ false → filter p (text ++ b ∷ []) ≡ filter p text
filter-no p text b h =
    filter-append p text (b ∷ []) ∙ ap (λ t. filter p text ++ cond t (b ∷ []) []) h ∙ append-nil (filter p text)

in_sequence : (old new : Kind) → Fits old (Collect new) → old ≢ OscString → InSequence old × InSequence new
in_sequence old new (inl s) other = s
in_sequence old new (inr s) other = absurd (other s.0)

pub collect_intermediate : (old new : ScannerValue) (kind : Kind) (b : ℕ)
    → Fits old.kind (Collect kind) → old.kind ≢ OscString → is_parameter b ≡ false
    → new.table ≡ old.table → ((all : List ℕ) → old.intermediates ≡ take 2 all → new.intermediates ≡ take 2 (all ++ b ∷ []))
    → (text : List ℕ) → Reads old old.kind text → Reads new kind (text ++ b ∷ [])
collect_intermediate old new kind b fits other is same pushed text reads =
    let both = in_sequence old.kind kind fits other in
    let was = sequence_from old.kind old text both.0 reads in
    sequence_to kind new (text ++ b ∷ []) both.1 (record {
      table = same ∙ was.table ∙ ap table_of (sym (filter-no is_parameter text b is));
      intermediates =
          pushed (filter (λ x. not (is_parameter x)) text) was.intermediates
          ∙ ap (take 2) (sym (filter-yes (λ x. not (is_parameter x)) text b (ap not is)));
    })

pub collect_parameter : (old new : ScannerValue) (kind : Kind) (b : ℕ) → Fits old.kind (Collect kind) → old.kind ≢ OscString
    → is_parameter b ≡ true → new.intermediates ≡ old.intermediates
    → ((text : List ℕ) → old.table ≡ table_of text → new.table ≡ table_of (text ++ b ∷ []))
    → (text : List ℕ) → Reads old old.kind text → Reads new kind (text ++ b ∷ [])
collect_parameter old new kind b fits other is same pushed text reads =
    let both = in_sequence old.kind kind fits other in
    let was = sequence_from old.kind old text both.0 reads in
    sequence_to kind new (text ++ b ∷ []) both.1 (record {
      table = pushed (filter is_parameter text) was.table ∙ ap table_of (sym (filter-yes is_parameter text b is));
      intermediates = same ∙ was.intermediates ∙ ap (take 2) (sym (filter-no (λ x. not (is_parameter x)) text b (ap not is)));
    })

-- ==== After each byte, the data of the scanner stands for the automaton's next state.

abbrev pub no_event : Events
no_event = record { first = None; second = None }

abbrev pub one_event : event.Event → Events
one_event e = record { first = Some e; second = None }

pub some_from : (text : List ℕ) → false ≡ (length text == 0) → text ≢ []
some_from text e none = false≢true (e ∙ ap (λ (t : List ℕ). length t == 0) none)

-- A result that follows a step follows every step equal to it.
pub follows_as : (new : ScannerValue) (answer : Events) (step known : Step) →
    step ≡ known → Follows new answer known → Follows new answer step
follows_as new answer step known e f = subst (λ (s : Step). Follows new answer s) (sym e) f

-- A scanner in the ground state stands for the ground state with the bytes of its incomplete character.
pub stands_at : (held : ScannerValue) (text : List ℕ) → held.kind ≡ Ground →
    held.unfinished ≡ text → StandsFor held (record { kind = Ground; collected = text })
stands_at held text is same = record { kind = is; reads = subst (λ (k : Kind). Reads held k text) (sym is) same }

further : (unfinished : List ℕ) (new : ScannerValue) (b : ℕ) (answer : Events)
    → unfinished ≢ [] → new.kind ≡ Ground → Extends unfinished b Further new.unfinished
    → answer ≡ no_event → Follows new answer (step_in Ground unfinished b)
further unfinished new b answer some is extends e =
    follows_as new answer (step_in Ground unfinished b) (gives Ground (unfinished ++ b ∷ []) [])
    (step_in-character unfinished b some ∙ character_step-further unfinished b extends.0 extends.1)
    (record { stands = stands_at new (unfinished ++ b ∷ []) is extends.2; means = ap (events_in new) e })

pub fed_further : (unfinished now : List ℕ) (new : ScannerValue) (b : ℕ) (answer : Events) → unfinished ≡ now
    → unfinished ≢ [] → new.kind ≡ Ground → Extends unfinished b Further new.unfinished
    → answer ≡ no_event → Follows new answer (step_in Ground now b)
fed_further unfinished now new b answer same some is extends e =
    subst (λ (l : List ℕ). Follows new answer (step_in Ground l b))
    same (further unfinished new b answer some is extends e)

character : (unfinished : List ℕ) (new : ScannerValue) (b code : ℕ) (answer : Events) → unfinished ≢ []
    → new.kind ≡ Ground → Extends unfinished b (Decoded code) new.unfinished
    → answer ≡ one_event (given.Character code) → Follows new answer (step_in Ground unfinished b)
character unfinished new b code answer some is extends e =
    follows_as new answer (step_in Ground unfinished b)
    (gives Ground [] (automaton.Character (character_of (unfinished ++ b ∷ [])) ∷ []))
    (step_in-character unfinished b some ∙ character_step-whole unfinished b extends.0)
    (record {
      stands = stands_at new [] is extends.2;
      means = ap (events_in new) e ∙ ap (λ k. automaton.Character k ∷ []) extends.1;
    })

pub fed_character : (unfinished now : List ℕ) (new : ScannerValue) (b code : ℕ) (answer : Events)
    → unfinished ≡ now → unfinished ≢ [] → new.kind ≡ Ground
    → Extends unfinished b (Decoded code) new.unfinished
    → answer ≡ one_event (given.Character code) → Follows new answer (step_in Ground now b)
fed_character unfinished now new b code answer same some is extends e =
    subst (λ (l : List ℕ). Follows new answer (step_in Ground l b))
    same (character unfinished new b code answer some is extends e)

-- Prepending an event to the first event of a result gives the same list as prepending it to all its events, if it has
-- no second event.
alone : (held : ScannerValue) (e : automaton.Event) (events : Events) → events.second ≡ None
    → e ∷ map (event_of held) (option_to_list events.first) ≡ e ∷ events_in held events
alone held e events s =
    ap (λ l. e ∷ map (event_of held) l)
    (sym (ap (λ o. option_to_list events.first ++ option_to_list o) s ∙ append-nil (option_to_list events.first)))

-- A byte that breaks an incomplete character issues a U+FFFD, followed by the event of the byte itself.
pub fed_broken : (unfinished : List ℕ) (new : ScannerValue) (b : ℕ) (events answer : Events) (left : List ℕ)
    → unfinished ≢ [] → Extends unfinished b Broken left
    → Follows new events (fresh_step b) → events.second ≡ None
    → answer ≡ record { first = Some (given.Character 0xFFFD); second = events.first }
    → Follows new answer (step_in Ground unfinished b)
fed_broken unfinished new b events answer left some extends f single e =
    follows_as new answer (step_in Ground unfinished b)
    (record { state = (fresh_step b).state; events = automaton.Character 0xFFFD ∷ (fresh_step b).events })
    (step_in-character unfinished b some ∙ character_step-broken unfinished b extends.0 extends.1)
    (record {
      stands = f.stands;
      means =
          ap (events_in new) e ∙ alone new (automaton.Character 0xFFFD) events single
          ∙ ap (λ l. automaton.Character 0xFFFD ∷ l) f.means;
    })

-- If no character is incomplete, the step for a printable byte issues that character.
pub fresh_character : (held : ScannerValue) (b code : ℕ) (answer : Events)
    → held.kind ≡ Ground → held.unfinished ≡ [] → 0x20 ≤ b → b < 0x80 → code ≡ b
    → answer ≡ one_event (given.Character code) → Follows held answer (fresh_step b)
fresh_character held b code answer is none low high same e =
    let known : Follows held (one_event (given.Character b)) (gives Ground [] (automaton.Character b ∷ [])) =
    record { stands = stands_at held [] is none; means = refl } in
    follows_as held answer (fresh_step b)
    (gives Ground [] (automaton.Character b ∷ [])) (fresh_step-character b low high)
    (subst (λ (a : Events). Follows held a (gives Ground [] (automaton.Character b ∷ [])))
    (sym (e ∙ ap (λ k. one_event (given.Character k)) same)) known)

pub fresh_control : (held : ScannerValue) (b : ℕ) (answer : Events)
    → held.kind ≡ Ground → held.unfinished ≡ [] → b < 0x20 → b ≢ 0x1B
    → answer ≡ one_event (given.Executed b) → Follows held answer (fresh_step b)
fresh_control held b answer is none high other e =
    let known : Follows held (one_event (given.Executed b)) (gives Ground [] (automaton.Executed b ∷ [])) =
    record { stands = stands_at held [] is none; means = refl } in
    follows_as held answer (fresh_step b)
    (gives Ground [] (automaton.Executed b ∷ [])) (fresh_step-control b high other)
    (subst (λ (a : Events). Follows held a (gives Ground [] (automaton.Executed b ∷ []))) (sym e) known)

pub fresh_escape : (old new : ScannerValue) (b : ℕ) (answer : Events) → b ≡ 0x1B →
    Begins old new Escape → answer ≡ no_event → Follows new answer (fresh_step b)
fresh_escape old new b answer is begun e =
    let known : Follows new no_event (gives Escape [] []) = record {
      stands = record { kind = begun.kind; reads = subst (λ (k : Kind). Reads new k []) (sym begun.kind) begun.reads };
      means = refl;
    } in
    follows_as new answer (fresh_step b) (gives Escape [] []) (ap fresh_step is ∙ fresh_step-escape)
    (subst (λ (a : Events). Follows new a (gives Escape [] [])) (sym e) known)

pub fresh_begun : (held : ScannerValue) (b : ℕ) (answer : Events) → held.kind ≡ Ground
    → held.unfinished ≡ b ∷ [] → 0x80 ≤ b → is_beginning (b ∷ []) ≡ true
    → answer ≡ no_event → Follows held answer (fresh_step b)
fresh_begun held b answer is same high begins e =
    let known : Follows held no_event (gives Ground (b ∷ []) []) =
    record { stands = stands_at held (b ∷ []) is same; means = refl } in
    follows_as held answer (fresh_step b) (gives Ground (b ∷ []) []) (fresh_step-begun b high begins)
    (subst (λ (a : Events). Follows held a (gives Ground (b ∷ []) [])) (sym e) known)

pub fresh_broken : (held : ScannerValue) (b : ℕ) (answer : Events) → held.kind ≡ Ground
    → held.unfinished ≡ [] → 0x80 ≤ b → is_beginning (b ∷ []) ≡ false
    → answer ≡ one_event (given.Character 0xFFFD) → Follows held answer (fresh_step b)
fresh_broken held b answer is none high broken e =
    let known : Follows held (one_event (given.Character 0xFFFD)) (gives Ground [] (automaton.Character 0xFFFD ∷ [])) =
    record { stands = stands_at held [] is none; means = refl } in
    follows_as held answer (fresh_step b)
    (gives Ground [] (automaton.Character 0xFFFD ∷ [])) (fresh_step-broken b high broken)
    (subst (λ (a : Events). Follows held a (gives Ground [] (automaton.Character 0xFFFD ∷ []))) (sym e) known)

-- A printable byte in the ground state leaves the data of the scanner unchanged.
pub text_feeds : (held : ScannerValue) (b : ℕ) → held.kind ≡ Ground → held.unfinished ≡ [] →
    0x20 ≤ b → b < 0x80 → Feeds held b held (one_event (given.Character b))
text_feeds held b is none low high = λ s stands.
    let kind : s.kind ≡ Ground = sym stands.kind ∙ is in
    let read : Reads held Ground s.collected = subst (λ (k : Kind). Reads held k s.collected) is stands.reads in
    let collected : s.collected ≡ [] = sym read ∙ none in
    subst (λ (k : Kind). Follows held (one_event (given.Character b)) (step_in k s.collected b)) (sym kind)
    (subst (λ (c : List ℕ). Follows held (one_event (given.Character b)) (step_in Ground c b)) (sym collected)
    (fresh_character held b b (one_event (given.Character b)) is none low high refl refl))

-- A control character in the ground state leaves the data of the scanner unchanged.
pub control_feeds : (held : ScannerValue) (b : ℕ) → held.kind ≡ Ground → held.unfinished ≡ [] →
    b < 0x20 → b ≢ 0x1B → Feeds held b held (one_event (given.Executed b))
control_feeds held b is none low other = λ s stands.
    let kind : s.kind ≡ Ground = sym stands.kind ∙ is in
    let read : Reads held Ground s.collected = subst (λ (k : Kind). Reads held k s.collected) is stands.reads in
    let collected : s.collected ≡ [] = sym read ∙ none in
    subst (λ (k : Kind). Follows held (one_event (given.Executed b)) (step_in k s.collected b)) (sym kind)
    (subst (λ (c : List ℕ). Follows held (one_event (given.Executed b)) (step_in Ground c b)) (sym collected)
    (fresh_control held b (one_event (given.Executed b)) is none low other refl))

-- A byte that begins no character, in the ground state, leaves the data of the scanner unchanged.
pub stray_feeds : (held : ScannerValue) (b : ℕ) → held.kind ≡ Ground → held.unfinished ≡ [] →
    0x80 ≤ b → is_beginning (b ∷ []) ≡ false → Feeds held b held (one_event (given.Character 0xFFFD))
stray_feeds held b is none high broken = λ s stands.
    let kind : s.kind ≡ Ground = sym stands.kind ∙ is in
    let read : Reads held Ground s.collected = subst (λ (k : Kind). Reads held k s.collected) is stands.reads in
    let collected : s.collected ≡ [] = sym read ∙ none in
    subst (λ (k : Kind). Follows held (one_event (given.Character 0xFFFD)) (step_in k s.collected b)) (sym kind)
    (subst (λ (c : List ℕ). Follows held (one_event (given.Character 0xFFFD)) (step_in Ground c b)) (sym collected)
    (fresh_broken held b (one_event (given.Character 0xFFFD)) is none high broken refl))

-- The events at the end of a sequence are those of the automaton, because entering the next state clears nothing that
-- they refer to.
given_by : (old new : ScannerValue) (next : Kind) (end : ending.Ending) (text : List ℕ) (b : ℕ) → old.kind ≢ Ground
    → FitsEnding old.kind next end → Begins old new next → Reads old old.kind text
    → events_in new (answer_of end b) ≡ automaton.events_at_end end text b
given_by old new next ends.Nothing text b other fits begun reads = refl
given_by old new next ends.Character text b other fits begun reads = absurd (other fits.0)
given_by old new next ends.Executed text b other fits begun reads = refl
given_by old new next ends.EscDispatch text b other fits begun reads =
    let was = sequence_from old.kind old text fits.0 reads in
    ap (λ intermediates. automaton.EscDispatch intermediates b ∷ []) (begun.intermediates fits.1 ∙ was.intermediates)
given_by old new next ends.CsiDispatch text b other fits begun reads =
    let was = sequence_from old.kind old text fits.0 reads in
    ap (λ (t : GroupTable). automaton.CsiDispatch t.groups new.intermediates b ∷ []) (begun.table fits.1 ∙ was.table)
    ∙ ap (λ intermediates. automaton.CsiDispatch (table_of (parameter_text text)).groups intermediates b ∷ [])
    (begun.intermediates fits.1 ∙ was.intermediates)
given_by old new next ends.OscDispatch text b other fits begun reads =
    let was : old.text ≡ text = subst (λ (k : Kind). Reads old k text) fits.0 reads in
    ap (λ t. automaton.OscDispatch (parts_of t) ∷ []) (begun.text fits.1 ∙ was)
given_by old new next ends.OscDispatchAndExecuted text b other fits begun reads =
    let was : old.text ≡ text = subst (λ (k : Kind). Reads old k text) fits.0 reads in
    ap (λ t. automaton.OscDispatch (parts_of t) ∷ automaton.Executed b ∷ []) (begun.text (inl fits.1) ∙ was)

-- Feeding a byte that ends a sequence according to the table performs the automaton's step.
pub fed_end : (old new : ScannerValue) (next : Kind) (end : ending.Ending) (b : ℕ) (answer : Events) → old.kind ≢ Ground
    → transition_of old.kind (class_of b) ≡ End next end → Fits old.kind (End next end) → Begins old new next
    → answer ≡ answer_of end b → Feeds old b new answer
fed_end old new next end b answer other turn fits begun e = λ s stands.
    follows_as new answer (step_in s.kind s.collected b) (step_after s.kind s.collected b (End next end))
    (step_in-table s.kind s.collected b (λ is. other (stands.kind ∙ is))
    ∙ ap (step_after s.kind s.collected b) (ap (λ k. transition_of k (class_of b)) (sym stands.kind) ∙ turn))
    (record {
      stands = record { kind = begun.kind; reads = subst (λ (k : Kind). Reads new k []) (sym begun.kind) begun.reads };
      means = ap (events_in new) e ∙ given_by old new next end s.collected b other fits begun stands.reads;
    })

-- ==== There is always a state that the scanner stands for.

stands_in : (held : ScannerValue) (kind : Kind) (text : List ℕ) → held.kind ≡ kind → Reads held kind text
    → StandsFor held (record { kind = kind; collected = text })
stands_in held kind text is reads =
    record { kind = is; reads = subst (λ (k : Kind). Reads held k text) (sym is) reads }

-- A scanner that holds the data required for a kind of state and collected bytes stands for some state.
pub stands_by : (held : ScannerValue) (kind : Kind) (text : List ℕ) → held.kind ≡ kind → Reads held kind text
    → ∥ ((state : State) × StandsFor held state) ∥₁
stands_by held kind text is reads =
    ∣ (record { kind = kind; collected = text }, stands_in held kind text is reads) ∣₁

pub stands_plain : (held : ScannerValue) → held.kind ≡ Ground → ∥ ((state : State) × StandsFor held state) ∥₁
stands_plain held is = stands_by held Ground held.unfinished is refl

pub stands_in_command : (held : ScannerValue) → held.kind ≡ OscString → ∥ ((state : State) × StandsFor held state) ∥₁
stands_in_command held is = stands_by held OscString held.text is refl

-- A scanner still stands for some state after one more byte is collected.
pub stands_on : (old new : ScannerValue) (kind : Kind) (b : ℕ) → new.kind ≡ kind
    → ((text : List ℕ) → Reads old old.kind text → Reads new kind (text ++ b ∷ []))
    → ∥ ((state : State) × StandsFor old state) ∥₁ → ∥ ((state : State) × StandsFor new state) ∥₁
stands_on old new kind b is reads stands =
    ∥∥₁_map {B = (state : State) × StandsFor new state} stands (λ (s : (state : State) × StandsFor old state).
    let text = s.0.collected ++ b ∷ [] in
    (record { kind = kind; collected = text }, stands_in new kind text is (reads s.0.collected s.1.reads)))

-- A scanner still stands for some state after a byte is fed.
pub stands_fed : (old new : ScannerValue) (b : ℕ) (answer : Events) → Feeds old b new answer
    → ∥ ((state : State) × StandsFor old state) ∥₁ → ∥ ((state : State) × StandsFor new state) ∥₁
stands_fed old new b answer feeds stands =
    ∥∥₁_map {B = (state : State) × StandsFor new state} stands
    (λ (s : (state : State) × StandsFor old state). ((step_in s.0.kind s.0.collected b).state, (feeds s.0 s.1).stands))

-- A scanner still stands for some state after several bytes are fed.
pub stands_fed_all : (old new : ScannerValue) (bytes : List ℕ) (events : List automaton.Event) → FeedsAll old bytes new events
    → ∥ ((state : State) × StandsFor old state) ∥₁ → ∥ ((state : State) × StandsFor new state) ∥₁
stands_fed_all old new bytes events feeds stands =
    ∥∥₁_map {B = (state : State) × StandsFor new state} stands
    (λ (s : (state : State) × StandsFor old state). ((run s.0 bytes).state, (feeds s.0 s.1).0))

-- Outside an operating system command, the data that a state requires doesn't include the command's text.
reads_without_text : (kind : Kind) (held : ScannerValue) (kept text : List ℕ) → kind ≢ OscString
    → Reads held kind text → Reads (record held { text = kept }) kind text
reads_without_text Ground held kept text other r = r
reads_without_text Escape held kept text other r = record { table = r.table; intermediates = r.intermediates }
reads_without_text EscapeIntermediate held kept text other r =
    record { table = r.table; intermediates = r.intermediates }
reads_without_text CsiEntry held kept text other r = record { table = r.table; intermediates = r.intermediates }
reads_without_text CsiParam held kept text other r = record { table = r.table; intermediates = r.intermediates }
reads_without_text CsiIntermediate held kept text other r =
    record { table = r.table; intermediates = r.intermediates }
reads_without_text CsiIgnore held kept text other r = r
reads_without_text OscString held kept text other r = absurd (other refl)
reads_without_text Skip held kept text other r = r

pub stands_without_text : (held : ScannerValue) (kept : List ℕ) (state : State) → held.kind ≢ OscString
    → StandsFor held state → StandsFor (record held { text = kept }) state
stands_without_text held kept state other stands = record {
  kind = stands.kind;
  reads = reads_without_text held.kind held kept state.collected other stands.reads;
}
