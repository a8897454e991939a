-- The bytes that introduce a sequence, which have no event, and the bytes that end one.
use Rattle.std.proofs.Common.{◌≡◌, ◌⊎◌, ℕ, ◌≤◌, true, not, List, [], ◌∷◌, ◌++◌, take}
use Rattle.std.proofs.Common.{◌≢◌, ◌<◌, ◌==◌, false, length, filter, inl, inr, refl, sym, subst, ◌∙◌, ap, arith}
use Rattle.std.specs.List.{AllByRecursion}
use Rattle.std.proofs.lemmas.List.{append_assoc, append-nil}
use Rattle.std.proofs.lemmas.List.Elements.{filter-append}
use Rattle.std.proofs.Common.{◌||◌, nat_lt, drop, get_or, zero, suc}
use Rattle.std.proofs.Math.Logic.{⊎_elim}
use Rattle.std.proofs.lemmas.Bool.{cases_lt}
use Rattle.std.proofs.lemmas.Bool.Decides.{nat_tests}
use Rattle.vt_scan.specs.declared.table.Class.{Class}
use Rattle.vt_scan.specs.Automaton as automaton
use Rattle.vt_scan.specs.Automaton.{Step, is_parameter, step_after, step_in, run}
use Rattle.vt_scan.specs.Internals.{Begins, Fits, IsUnended, Opens}
use Rattle.vt_scan.specs.Parameters.{table_of}
use Rattle.vt_scan.specs.Scanner.{EndsEscape, Feeds, FeedsAll, ScannerValue, Reads, ReadsSequence, Follows, StandsFor}
use Rattle.vt_scan.specs.Scanner.{is_final, is_intermediate, is_marker, starts_skipped}
use Rattle.vt_scan.specs.Texts.{IsParameterText}
use Rattle.vt_scan.specs.Table.{class_of, transition_of}
use Rattle.vt_scan.specs.declared.table.Kind.{Kind}
use Rattle.vt_scan.specs.declared.table.Kind.TheVariants.{Ground, Escape, EscapeIntermediate, CsiEntry, CsiParam}
use Rattle.vt_scan.specs.declared.table.Kind.TheVariants.{OscString, Skip}
use Rattle.vt_scan.specs.declared.event.Event.TheVariants as event
use Rattle.vt_scan.specs.declared.table.Transition.TheVariants.{Collect, End}
use Rattle.vt_scan.specs.declared.table.Ending.TheVariants.{CsiDispatch, EscDispatch, Nothing, OscDispatch}
use Rattle.vt_scan.proofs.Steps.{collect_intermediate, fed_end, follows_as, no_event, one_event, fresh_escape, gives}
use Rattle.vt_scan.proofs.Steps.{either, class_of-control, class_of-text, step_in-table}
use Rattle.vt_scan.proofs.Readback.{run-known, run-append, class_of-final, class_of-parameter, no_intermediates}
use Rattle.vt_scan.proofs.Readback.{parameters_only, step_parameter}

pub escape_feeds : (old new : ScannerValue) (b : ℕ) → old.kind ≡ Ground →
    old.unfinished ≡ [] → b ≡ 0x1B → Begins old new Escape → Feeds old b new no_event
escape_feeds old new b is none same begun = λ s stands.
    let kind : s.kind ≡ Ground = sym stands.kind ∙ is in
    let read : Reads old Ground s.collected = subst (λ (k : Kind). Reads old k s.collected) is stands.reads in
    let collected : s.collected ≡ [] = sym read ∙ none in
    subst (λ (k : Kind). Follows new no_event (step_in k s.collected b)) (sym kind)
    (subst (λ (c : List ℕ). Follows new no_event (step_in Ground c b)) (sym collected)
    (fresh_escape old new b no_event same begun refl))

bracket : (new : ScannerValue) (text : List ℕ) → new.kind ≡ CsiEntry →
    Reads new CsiEntry [] → Follows new no_event (step_in Escape text 0x5B)
unfolding class_of
bracket new text is reads = record {
  stands = record { kind = is; reads = subst (λ (k : Kind). Reads new k []) (sym is) reads };
  means = refl;
}

pub bracket_feeds : (old new : ScannerValue) (b : ℕ) → old.kind ≡ Escape →
    b ≡ 0x5B → Begins old new CsiEntry → Feeds old b new no_event
bracket_feeds old new b is same begun = λ s stands.
    subst (λ (k : Kind). Follows new no_event (step_in k s.collected b)) (sym (sym stands.kind ∙ is))
    (subst (λ (x : ℕ). Follows new no_event (step_in Escape s.collected x)) (sym same)
    (bracket new s.collected begun.kind begun.reads))

intermediate_turn : (b : ℕ) → 0x20 ≤ b → b ≤ 0x2F → transition_of Escape (class_of b) ≡ Collect EscapeIntermediate
intermediate_turn b low high =
    let t0 : nat_lt b 0x30 ≡ true = grind (arith, nat_tests) in
    class_of-text (λ k. transition_of Escape k ≡ Collect EscapeIntermediate) b low (rw t0 refl)

pub intermediate_feeds : (old new : ScannerValue) (b : ℕ) → old.kind ≡ Escape → is_intermediate b ≡ true →
    new.kind ≡ EscapeIntermediate → new.table ≡ old.table →
    ((all : List ℕ) → old.intermediates ≡ take 2 all → new.intermediates ≡ take 2 (all ++ b ∷ [])) →
    Feeds old b new no_event
intermediate_feeds old new b was tells is same pushed = λ s stands.
    let low : 0x20 ≤ b = grind (arith, nat_tests) in
    let high : b ≤ 0x2F = grind (arith, nat_tests) in
    let other : is_parameter b ≡ false = grind (arith, nat_tests) in
    let kind : s.kind ≡ Escape = sym stands.kind ∙ was in
    let fits : Fits old.kind (Collect EscapeIntermediate) =
    subst (λ (k : Kind). Fits k (Collect EscapeIntermediate)) (sym was) (inl (tt, tt)) in
    let reads : Reads new EscapeIntermediate (s.collected ++ b ∷ []) =
    collect_intermediate old new EscapeIntermediate b fits (λ e. cc) other same pushed s.collected stands.reads in
    follows_as new no_event (step_in s.kind s.collected b) (gives EscapeIntermediate (s.collected ++ b ∷ []) [])
    (step_in-table s.kind s.collected b (λ e. cc)
    ∙ ap (step_after s.kind s.collected b) (ap (λ k. transition_of k (class_of b)) kind ∙ intermediate_turn b low high))
    (record {
      stands = record { kind = is; reads = subst (λ (k : Kind). Reads new k (s.collected ++ b ∷ [])) (sym is) reads };
      means = refl;
    })

marker_turn : (b : ℕ) → 0x3C ≤ b → b ≤ 0x3F → transition_of CsiEntry (class_of b) ≡ Collect CsiParam
marker_turn b low high =
    let t0 : nat_lt b 0x30 ≡ false = grind (arith, nat_tests) in
    let t1 : nat_lt b 0x3C ≡ false = grind (arith, nat_tests) in
    let t2 : nat_lt b 0x40 ≡ true = grind (arith, nat_tests) in
    class_of-text (λ k. transition_of CsiEntry k ≡ Collect CsiParam) b (omega (arith, low)) (rw (t0, t1, t2) refl)

pub marker_feeds : (old new : ScannerValue) (b : ℕ) → old.kind ≡ CsiEntry → is_marker b ≡ true →
    new.kind ≡ CsiParam → new.table ≡ old.table →
    ((all : List ℕ) → old.intermediates ≡ take 2 all → new.intermediates ≡ take 2 (all ++ b ∷ [])) →
    Feeds old b new no_event
marker_feeds old new b was tells is same pushed = λ s stands.
    let low : 0x3C ≤ b = grind (arith, nat_tests) in
    let high : b ≤ 0x3F = grind (arith, nat_tests) in
    let other : is_parameter b ≡ false = grind (arith, nat_tests) in
    let kind : s.kind ≡ CsiEntry = sym stands.kind ∙ was in
    let fits : Fits old.kind (Collect CsiParam) =
    subst (λ (k : Kind). Fits k (Collect CsiParam)) (sym was) (inl (tt, tt)) in
    let reads : Reads new CsiParam (s.collected ++ b ∷ []) =
    collect_intermediate old new CsiParam b fits (λ e. cc) other same pushed s.collected stands.reads in
    follows_as new no_event (step_in s.kind s.collected b) (gives CsiParam (s.collected ++ b ∷ []) [])
    (step_in-table s.kind s.collected b (λ e. cc)
    ∙ ap (step_after s.kind s.collected b) (ap (λ k. transition_of k (class_of b)) kind ∙ marker_turn b low high))
    (record {
      stands = record { kind = is; reads = subst (λ (k : Kind). Reads new k (s.collected ++ b ∷ [])) (sym is) reads };
      means = refl;
    })

-- ---- The introducers of strings

begun_feeds : (old new : ScannerValue) (next : Kind) (b : ℕ) → old.kind ≡ Escape →
    transition_of Escape (class_of b) ≡ End next Nothing → Begins old new next → Feeds old b new no_event
begun_feeds old new next b is turn begun =
    fed_end old new next Nothing b no_event (subst (λ (k : Kind). k ≢ Ground) (sym is) (λ e. cc))
    (ap (λ k. transition_of k (class_of b)) is ∙ turn) tt begun refl

command_start : transition_of Escape (class_of 0x5D) ≡ End OscString Nothing
unfolding class_of
command_start = refl

skip_turn : (b : ℕ) → starts_skipped b ≡ true → transition_of Escape (class_of b) ≡ End Skip Nothing
skip_turn b is =
    let low : 0x50 ≤ b = grind (arith, nat_tests) in
    let high : b ≤ 0x5F = grind (arith, nat_tests) in
    let t0 : nat_lt b 0x30 ≡ false = grind (arith, nat_tests) in
    let t1 : nat_lt b 0x3C ≡ false = grind (arith, nat_tests) in
    let t2 : nat_lt b 0x40 ≡ false = grind (arith, nat_tests) in
    let t3 : nat_lt b 0x7F ≡ true = grind (arith, nat_tests) in
    let t4 : (b == 0x5B) ≡ false = grind (arith, nat_tests) in
    let t5 : (b == 0x5D) ≡ false = grind (arith, nat_tests) in
    class_of-text (λ k. transition_of Escape k ≡ End Skip Nothing) b (omega (arith, low)) (rw (t0, t1, t2, t3, t4, t5, is) refl)

pub command_begins : (old new : ScannerValue) (b : ℕ) → old.kind ≡ Escape → b ≡ 0x5D → Begins old new OscString →
    Feeds old b new no_event
command_begins old new b is same begun =
    begun_feeds old new OscString b is (ap (λ (x : ℕ). transition_of Escape (class_of x)) same ∙ command_start) begun

pub skip_begins : (old new : ScannerValue) (b : ℕ) → old.kind ≡ Escape → starts_skipped b ≡ true → Begins old new Skip →
    Feeds old b new no_event
skip_begins old new b is starts begun = begun_feeds old new Skip b is (skip_turn b starts) begun

-- ---- ESC after ESC

escape_again : (text : List ℕ) (b : ℕ) → b ≡ 0x1B → step_in Escape text b ≡ gives Escape [] []
unfolding class_of
escape_again text b is = rw is refl

run_escapes : (text bytes : List ℕ) → AllByRecursion (λ b. b ≡ 0x1B) bytes → 0 < length bytes →
    run (record { kind = Escape; collected = text }) bytes ≡ gives Escape [] []
run_escapes text [] all some = absurd (omega (arith, some))
run_escapes text (b ∷ []) all some =
    run-known (record { kind = Escape; collected = text }) b [] (gives Escape [] []) (escape_again text b all.0)
run_escapes text (b ∷ next ∷ bytes) all some =
    run-known (record { kind = Escape; collected = text }) b (next ∷ bytes) (gives Escape [] [])
    (escape_again text b all.0)
    ∙ run_escapes [] (next ∷ bytes) all.1 (omega arith)

pub escapes_feed : (old new : ScannerValue) (bytes : List ℕ) → old.kind ≡ Escape → AllByRecursion (λ b. b ≡ 0x1B) bytes →
    0 < length bytes → Begins old new Escape → FeedsAll old bytes new []
escapes_feed old new bytes is all some begun = λ s stands.
    let kind : s.kind ≡ Escape = sym stands.kind ∙ is in
    let known : run s bytes ≡ gives Escape [] [] =
    subst (λ (k : Kind). run (record { kind = k; collected = s.collected }) bytes ≡ gives Escape [] [])
    (sym kind) (run_escapes s.collected bytes all some) in
    subst (λ (step : Step). StandsFor new step.state × (step.events ≡ [])) (sym known) (
      record { kind = begun.kind; reads = subst (λ (k : Kind). Reads new k []) (sym begun.kind) begun.reads },
      refl,
    )

-- ---- Parameter bytes

step_entry : (text : List ℕ) (b : ℕ) → 0x30 ≤ b → b ≤ 0x3B →
    step_in CsiEntry text b ≡ gives CsiParam (text ++ b ∷ []) []
step_entry text b low high =
    class_of-parameter
    (λ k. step_after CsiEntry text b (transition_of CsiEntry k) ≡ gives CsiParam (text ++ b ∷ []) []) b low high refl

run_parameters : (before text : List ℕ) → IsParameterText text →
    run (record { kind = CsiParam; collected = before }) text ≡ gives CsiParam (before ++ text) []
run_parameters before [] is = ap (λ t. gives CsiParam t []) (sym (append-nil before))
run_parameters before (b ∷ text) is =
    run-known (record { kind = CsiParam; collected = before }) b text
    (gives CsiParam (before ++ b ∷ []) []) (step_parameter before b is.0 is.1)
    ∙ run_parameters (before ++ b ∷ []) text is.2
    ∙ ap (λ t. gives CsiParam t []) (append_assoc before (b ∷ []) text)

abbrev pub InParameters : Kind → Type 0
InParameters kind = (kind ≡ CsiEntry) ⊎ (kind ≡ CsiParam)

run_from : (kind : Kind) (before : List ℕ) (b : ℕ) (text : List ℕ) → InParameters kind →
    IsParameterText (b ∷ text) →
    run (record { kind = kind; collected = before }) (b ∷ text) ≡ gives CsiParam (before ++ b ∷ text) []
run_from kind before b text (inl is) byte =
    subst (λ (k : Kind). run (record { kind = k; collected = before }) (b ∷ text)
    ≡ gives CsiParam (before ++ b ∷ text) []) (sym is)
    (run-known (record { kind = CsiEntry; collected = before }) b text
    (gives CsiParam (before ++ b ∷ []) []) (step_entry before b byte.0 byte.1)
    ∙ run_parameters (before ++ b ∷ []) text byte.2
    ∙ ap (λ t. gives CsiParam t []) (append_assoc before (b ∷ []) text))
run_from kind before b text (inr is) byte =
    subst (λ (k : Kind). run (record { kind = k; collected = before }) (b ∷ text)
    ≡ gives CsiParam (before ++ b ∷ text) []) (sym is) (run_parameters before (b ∷ text) byte)

sequence_read : (held : ScannerValue) (kind : Kind) (text : List ℕ) → InParameters kind →
    Reads held kind text → ReadsSequence held text
sequence_read held kind text (inl is) reads = subst (λ (k : Kind). Reads held k text) is reads
sequence_read held kind text (inr is) reads = subst (λ (k : Kind). Reads held k text) is reads

reads_sequence : (held : ScannerValue) (kind : Kind) (text : List ℕ) → InParameters kind →
    ReadsSequence held text → Reads held kind text
reads_sequence held kind text (inl is) reads = subst (λ (k : Kind). Reads held k text) (sym is) reads
reads_sequence held kind text (inr is) reads = subst (λ (k : Kind). Reads held k text) (sym is) reads

sequence_more : (old new : ScannerValue) (before text : List ℕ) → IsParameterText text → ReadsSequence old before →
    new.intermediates ≡ old.intermediates →
    ((all : List ℕ) → old.table ≡ table_of all → new.table ≡ table_of (all ++ text)) →
    ReadsSequence new (before ++ text)
sequence_more old new before text is reads same pushed = record {
  table = pushed (filter is_parameter before) reads.table
      ∙ ap table_of (sym (filter-append is_parameter before text
      ∙ ap (λ t. filter is_parameter before ++ t) (parameters_only text is)));
  intermediates = same ∙ reads.intermediates
      ∙ ap (take 2) (sym (filter-append (λ x. not (is_parameter x)) before text
      ∙ ap (λ t. filter (λ x. not (is_parameter x)) before ++ t) (no_intermediates text is)
      ∙ append-nil (filter (λ x. not (is_parameter x)) before)));
}

pub parameters_feed : (old new : ScannerValue) (text : List ℕ) → InParameters old.kind → IsParameterText text →
    0 < length text → new.kind ≡ CsiParam → new.intermediates ≡ old.intermediates →
    ((all : List ℕ) → old.table ≡ table_of all → new.table ≡ table_of (all ++ text)) → FeedsAll old text new []
parameters_feed old new [] within is some kind same pushed = absurd (omega (arith, some))
parameters_feed old new (b ∷ text) within is some kind same pushed = λ s stands.
    let there : InParameters s.kind = subst (λ (k : Kind). InParameters k) stands.kind within in
    let reads = sequence_read old old.kind s.collected within stands.reads in
    subst (λ (step : Step). StandsFor new step.state × (step.events ≡ []))
    (sym (run_from s.kind s.collected b text there is)) (
      record {
        kind = kind;
        reads = reads_sequence new new.kind (s.collected ++ b ∷ text) (inr kind)
            (sequence_more old new s.collected (b ∷ text) is reads same pushed);
      },
      refl,
    )

pub parameters_none : (old new : ScannerValue) → InParameters old.kind → new.kind ≡ old.kind → new.intermediates ≡ old.intermediates →
    ((all : List ℕ) → old.table ≡ table_of all → new.table ≡ table_of (all ++ [])) → FeedsAll old [] new []
parameters_none old new within kind same pushed = λ s stands.
    let reads = sequence_read old old.kind s.collected within stands.reads in
    let more : ReadsSequence new s.collected =
    subst (λ (text : List ℕ). ReadsSequence new text) (append-nil s.collected)
    (sequence_more old new s.collected [] tt reads same pushed) in (
      record {
        kind = kind ∙ stands.kind;
        reads = reads_sequence new new.kind s.collected
            (subst (λ (k : Kind). InParameters k) (sym kind) within) more;
      },
      refl,
    )

-- ---- The final byte

final_turn : (kind : Kind) (b : ℕ) → InParameters kind → is_final b ≡ true →
    transition_of kind (class_of b) ≡ End Ground CsiDispatch
final_turn kind b (inl is) final =
    let low : 0x40 ≤ b = grind (arith, nat_tests) in
    let high : b ≤ 0x7E = grind (arith, nat_tests) in
    subst (λ (k : Kind). transition_of k (class_of b) ≡ End Ground CsiDispatch) (sym is)
    (class_of-final (λ c. transition_of CsiEntry c ≡ End Ground CsiDispatch) b low high refl refl refl refl)
final_turn kind b (inr is) final =
    let low : 0x40 ≤ b = grind (arith, nat_tests) in
    let high : b ≤ 0x7E = grind (arith, nat_tests) in
    subst (λ (k : Kind). transition_of k (class_of b) ≡ End Ground CsiDispatch) (sym is)
    (class_of-final (λ c. transition_of CsiParam c ≡ End Ground CsiDispatch) b low high refl refl refl refl)

final_fits : (kind : Kind) → InParameters kind → (kind ≢ Ground) × Fits kind (End Ground CsiDispatch)
final_fits kind (inl is) =
    subst (λ (k : Kind). (k ≢ Ground) × Fits k (End Ground CsiDispatch)) (sym is) ((λ e. cc), (tt, refl))
final_fits kind (inr is) =
    subst (λ (k : Kind). (k ≢ Ground) × Fits k (End Ground CsiDispatch)) (sym is) ((λ e. cc), (tt, refl))

pub final_feeds : (old new : ScannerValue) (b : ℕ) → InParameters old.kind → is_final b ≡ true → Begins old new Ground →
    Feeds old b new (one_event (event.Csi b))
final_feeds old new b within final begun =
    let fits = final_fits old.kind within in
    fed_end old new Ground CsiDispatch b (one_event (event.Csi b)) fits.0
    (final_turn old.kind b within final) fits.1 begun refl

-- ---- The last byte of an escape sequence

escape_other : (kind : Kind) → Fits kind (End Ground EscDispatch) → kind ≢ Ground
escape_other kind fits = λ is.
    let none : Fits Ground (End Ground EscDispatch) = subst (λ (k : Kind). Fits k (End Ground EscDispatch)) is fits in
    none.0

pub escape_byte_feeds : (old new : ScannerValue) (b : ℕ) → EndsEscape old.kind b → Fits old.kind (End Ground EscDispatch) →
    Begins old new Ground → Feeds old b new (one_event (event.Escape b))
escape_byte_feeds old new b ends fits begun =
    fed_end old new Ground EscDispatch b (one_event (event.Escape b)) (escape_other old.kind fits) ends fits begun refl

-- ---- The byte that ends an operating system command

command_bell : transition_of OscString (class_of 0x07) ≡ End Ground OscDispatch
unfolding class_of
command_bell = refl

command_escape : transition_of OscString (class_of 0x1B) ≡ End Escape OscDispatch
unfolding class_of
command_escape = refl

command_other : (kind : Kind) → kind ≡ OscString → kind ≢ Ground
command_other kind is = subst (λ (k : Kind). k ≢ Ground) (sym is) (λ e. cc)

pub bell_feeds : (old new : ScannerValue) (b : ℕ) → old.kind ≡ OscString → b ≡ 0x07 → Begins old new Ground →
    Feeds old b new (one_event event.Osc)
bell_feeds old new b is same begun =
    fed_end old new Ground OscDispatch b (one_event event.Osc) (command_other old.kind is)
    (ap (λ k. transition_of k (class_of b)) is ∙ (ap (λ (x : ℕ). transition_of OscString (class_of x)) same ∙ command_bell))
    (is, inl refl) begun refl

pub escape_ends : (old new : ScannerValue) (b : ℕ) → old.kind ≡ OscString → b ≡ 0x1B → Begins old new Escape →
    Feeds old b new (one_event event.Osc)
escape_ends old new b is same begun =
    fed_end old new Escape OscDispatch b (one_event event.Osc) (command_other old.kind is)
    (ap (λ k. transition_of k (class_of b)) is ∙ (ap (λ (x : ℕ). transition_of OscString (class_of x)) same ∙ command_escape))
    (is, inr refl) begun refl

-- ---- Strings that are ignored

skip_step : (text : List ℕ) (b : ℕ) → IsUnended b → step_in Skip text b ≡ gives Skip text []
skip_step text b (can, sub, esc) =
    let P : Class → Type 0 = λ k. step_after Skip text b (transition_of Skip k) ≡ gives Skip text [] in
    let t0 : (b == 0x18 || b == 0x1A) ≡ false = grind (arith, nat_tests) in
    ⊎_elim
    (λ low. class_of-control P b low esc
    (either P (b == 0x07) _ _ refl (rw t0 refl)))
    (λ text. class_of-text P b text
    (either P (nat_lt b 0x30) _ _ refl
    (either P (nat_lt b 0x3C) _ _ refl (either P (nat_lt b 0x40) _ _ refl (either P (nat_lt b 0x7F) _ _
    (either P (b == 0x5B) _ _ refl
    (either P (b == 0x5D) _ _ refl (either P (b == 0x50 || (b == 0x58 || (b == 0x5E || b == 0x5F))) _ _ refl refl)))
    (either P (b == 0x7F) _ _ refl refl))))))
    (cases_lt b 0x20)

run_skip : (text bytes : List ℕ) → AllByRecursion IsUnended bytes →
    run (record { kind = Skip; collected = text }) bytes ≡ gives Skip text []
run_skip text [] all = refl
run_skip text (b ∷ bytes) all =
    run-known (record { kind = Skip; collected = text }) b bytes (gives Skip text []) (skip_step text b all.0)
    ∙ run_skip text bytes all.1

pub skip_feeds : (held : ScannerValue) (bytes : List ℕ) → held.kind ≡ Skip → AllByRecursion IsUnended bytes →
    FeedsAll held bytes held []
skip_feeds held bytes is all = λ s stands.
    let kind : s.kind ≡ Skip = sym stands.kind ∙ is in
    let known : run s bytes ≡ gives s.kind s.collected [] =
    subst (λ (k : Kind). run (record { kind = k; collected = s.collected }) bytes ≡ gives k s.collected [])
    (sym kind) (run_skip s.collected bytes all) in
    subst (λ (step : Step). StandsFor held step.state × (step.events ≡ [])) (sym known) (stands, refl)

-- ---- The text of an operating system command

text_turn : (b : ℕ) → 0x20 ≤ b → transition_of OscString (class_of b) ≡ Collect OscString
text_turn b low =
    let P : Class → Type 0 = λ k. transition_of OscString k ≡ Collect OscString in
    class_of-text P b low
    (either P (nat_lt b 0x30) _ _ refl
    (either P (nat_lt b 0x3C) _ _ refl (either P (nat_lt b 0x40) _ _ refl (either P (nat_lt b 0x7F) _ _
    (either P (b == 0x5B) _ _ refl
    (either P (b == 0x5D) _ _ refl (either P (b == 0x50 || (b == 0x58 || (b == 0x5E || b == 0x5F))) _ _ refl refl)))
    (either P (b == 0x7F) _ _ refl refl)))))

run_text : (text bytes : List ℕ) → AllByRecursion (λ b. 0x20 ≤ b) bytes →
    run (record { kind = OscString; collected = text }) bytes ≡ gives OscString (text ++ bytes) []
run_text text [] all = ap (λ t. gives OscString t []) (sym (append-nil text))
run_text text (b ∷ bytes) all =
    run-known (record { kind = OscString; collected = text }) b bytes (gives OscString (text ++ b ∷ []) [])
    (ap (step_after OscString text b) (text_turn b all.0))
    ∙ run_text (text ++ b ∷ []) bytes all.1
    ∙ ap (λ t. gives OscString t []) (append_assoc text (b ∷ []) bytes)

pub command_feeds : (old new : ScannerValue) (bytes : List ℕ) → old.kind ≡ OscString → new.kind ≡ OscString →
    new.text ≡ old.text ++ bytes → AllByRecursion (λ b. 0x20 ≤ b) bytes → FeedsAll old bytes new []
command_feeds old new bytes was is more all = λ s stands.
    let kind : s.kind ≡ OscString = sym stands.kind ∙ was in
    let read : old.text ≡ s.collected = subst (λ (k : Kind). Reads old k s.collected) was stands.reads in
    let known : run s bytes ≡ gives OscString (s.collected ++ bytes) [] =
    subst (λ (k : Kind). run (record { kind = k; collected = s.collected }) bytes
    ≡ gives OscString (s.collected ++ bytes) []) (sym kind) (run_text s.collected bytes all) in
    let reads : new.text ≡ s.collected ++ bytes = more ∙ ap (λ t. t ++ bytes) read in
    subst (λ (step : Step). StandsFor new step.state × (step.events ≡ [])) (sym known)
    (record { kind = is; reads = subst (λ (k : Kind). Reads new k (s.collected ++ bytes)) (sym is) reads }, refl)

pub command_turn : (kind : Kind) (bytes : List ℕ) (n : ℕ) → kind ≡ OscString → 0 < n → n ≤ length bytes →
    AllByRecursion (λ b. 0x20 ≤ b) (take n bytes) →
    (0 < length bytes) × (transition_of kind (class_of (get_or bytes 0 0)) ≡ Collect OscString)
command_turn kind [] n is some inside all = absurd (omega (arith, some, inside))
command_turn kind (b ∷ bytes) zero is some inside all = absurd (omega (arith, some))
command_turn kind (b ∷ bytes) (suc n) is some inside all =
    (omega arith, ap (λ (k : Kind). transition_of k (class_of b)) is ∙ text_turn b all.0)

-- ---- Several bytes

pub feeds_none : (held : ScannerValue) → FeedsAll held [] held []
feeds_none held = λ s stands. (stands, refl)

pub feeds_first : (old middle new : ScannerValue) (b : ℕ) (bytes : List ℕ) → Feeds old b middle no_event →
    FeedsAll middle bytes new [] → FeedsAll old (b ∷ bytes) new []
feeds_first old middle new b bytes first second = λ s stands.
    let follows = first s stands in
    let step = step_in s.kind s.collected b in
    let rest = second step.state follows.stands in
    (rest.0, ap (λ (l : List automaton.Event). l ++ (run step.state bytes).events) (sym follows.means) ∙ rest.1)

pub feeds_then : (old middle new : ScannerValue) (a b : List ℕ) → FeedsAll old a middle [] → FeedsAll middle b new [] →
    FeedsAll old (a ++ b) new []
feeds_then old middle new a b first second = λ s stands.
    let begun = first s stands in
    let done = second (run s a).state begun.0 in
    subst (λ (step : Step). StandsFor new step.state × (step.events ≡ [])) (sym (run-append s a b))
    (done.0, ap (λ (l : List automaton.Event). l ++ (run (run s a).state b).events) begun.1 ∙ done.1)

-- What is held after ESC, between ESC and `[`.
abbrev pub opened : ScannerValue → ScannerValue
opened old = record {
  kind = Escape;
  unfinished = old.unfinished;
  table = table_of [];
  intermediates = [];
  text = old.text;
}

begins_opened : (old : ScannerValue) → Begins old (opened old) Escape
begins_opened old = record {
  kind = refl;
  reads = record { table = refl; intermediates = refl };
  text = λ e. refl;
  table = λ e. absurd cc;
  intermediates = λ e. absurd cc;
}

begins_after : (old led : ScannerValue) → Begins old led CsiEntry → Begins (opened old) led CsiEntry
begins_after old led begun = record {
  kind = begun.kind;
  reads = begun.reads;
  text = λ e. ⊎_elim (λ (f : CsiEntry ≡ Ground). absurd cc) (λ (f : CsiEntry ≡ Escape). absurd cc) e;
  table = λ e. absurd cc;
  intermediates = λ e. absurd cc;
}

pub opening_feeds : (old led new : ScannerValue) (bytes : List ℕ) (n : ℕ) → old.kind ≡ Ground → old.unfinished ≡ [] →
    Opens bytes → Begins old led CsiEntry → FeedsAll led (take n (drop 2 bytes)) new [] →
    FeedsAll old (take (suc (suc n)) bytes) new []
opening_feeds old led new [] n is none opens begun fed = absurd (omega (arith, opens.long))
opening_feeds old led new (a ∷ []) n is none opens begun fed = absurd (omega (arith, opens.long))
opening_feeds old led new (a ∷ b ∷ bytes) n is none opens begun fed =
    feeds_first old (opened old) new a (b ∷ take n bytes)
    (escape_feeds old (opened old) a is none opens.first (begins_opened old))
    (feeds_first (opened old) led new b (take n bytes)
    (bracket_feeds (opened old) led b refl opens.second (begins_after old led begun)) fed)
