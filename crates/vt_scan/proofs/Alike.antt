-- Equivalent states of the automaton: one scanner may be in either, and no byte ever distinguishes them.
use Rattle.std.proofs.Common.{◌≡◌, ℕ, zero, suc, ◌<◌, ◌≤◌, nat_lt, true, List, [], ◌∷◌, ◌++◌, take, refl, sym, subst}
use Rattle.std.proofs.Common.{◌∙◌, ap, arith, ◌≢◌, Bool, false, not, ◌⊎◌, filter, inl, inr, rules}
use Rattle.std.proofs.Math.Logic.{⊎_elim}
use Rattle.std.proofs.lemmas.Bool.{cases_lt}
use Rattle.std.proofs.lemmas.Bool.Decides.{nat_tests}
use Rattle.vt_scan.specs.Automaton.{is_parameter, State, Step, EscDispatch, CsiDispatch, OscDispatch, Executed}
use Rattle.vt_scan.specs.Automaton.{parameter_text, intermediates_of, parts_of, events_at_end, step_after, step_in, run}
use Rattle.vt_scan.specs.Parameters.{groups_of, total, first_numbers, table_of, GroupTable}
use Rattle.vt_scan.specs.Table.{transition_of, class_of}
use Rattle.vt_scan.specs.Scanner.{ScannerValue, Reads, ReadsSequence, StandsFor}
use Rattle.vt_scan.specs.Internals.{Fits, FitsEnding}
use Rattle.vt_scan.specs.declared.table.Kind.{Kind}
use Rattle.vt_scan.specs.declared.table.Kind.TheVariants.{Ground, Escape, EscapeIntermediate, CsiEntry, CsiParam}
use Rattle.vt_scan.specs.declared.table.Kind.TheVariants.{CsiIntermediate, CsiIgnore, OscString, Skip}
use Rattle.vt_scan.specs.declared.table.Class.{Class}
use Rattle.vt_scan.specs.declared.table.Transition.{Transition}
use Rattle.vt_scan.specs.declared.table.Transition.TheVariants.{Collect, Drop, Execute, End}
use Rattle.vt_scan.specs.declared.table.Ending as ending
use Rattle.vt_scan.specs.declared.table.Ending.TheVariants as ends
use Rattle.vt_scan.proofs.Lists.{on_last}
use Rattle.vt_scan.proofs.ParameterGroups.{with_digit, with_number, groups_of-digit, groups_of-colon}
use Rattle.vt_scan.proofs.ParameterGroups.{groups_of-semicolon, groups_of-some, total-append, total-digit, total-number}
use Rattle.vt_scan.proofs.ParameterGroups.{first_numbers-digit, first_numbers-number, first_numbers-groups}
use Rattle.vt_scan.proofs.ParameterNumbers.{table, whole, cut, whole_is, is_cut}
use Rattle.vt_scan.proofs.Steps.{filter-yes, filter-no, sequence_from, sequence_to, step_in-table}

-- ==== The data kept of a text (its table of parameters and its first two intermediates) determines the data kept of
-- the text with one more byte.

-- A parameter byte is a digit, `:` or `;`.
parameter_cases : (P : ℕ → Type 0) (b : ℕ) → is_parameter b ≡ true → (b < 0x3A → P b) → P 0x3A → P 0x3B → P b
parameter_cases P b is digit colon semicolon =
    let most : b < 0x3C = grind (arith, nat_tests) in
    ⊎_elim
    digit
    (λ (more : 0x3A ≤ b).
    ⊎_elim
    (λ (less : b < 0x3B). let same : 0x3A ≡ b = omega arith in subst P same colon)
    (λ (last : 0x3B ≤ b). let same : 0x3B ≡ b = omega arith in subst P same semicolon)
    (cases_lt b 0x3B))
    (cases_lt b 0x3A)

-- Two texts with the same groups have the same table of kept numbers.
table-groups : (text other : List ℕ) → groups_of text ≡ groups_of other → table_of text ≡ table_of other
unfolding table_of
table-groups text other e = ap (λ g. table (first_numbers 32 g) (nat_lt 32 (total g))) e

groups-more : (text other : List ℕ) (b : ℕ) → is_parameter b ≡ true →
    groups_of text ≡ groups_of other → groups_of (text ++ b ∷ []) ≡ groups_of (other ++ b ∷ [])
groups-more text other b is e =
    parameter_cases (λ x. groups_of (text ++ x ∷ []) ≡ groups_of (other ++ x ∷ [])) b is
    (λ digit. groups_of-digit text b digit
    ∙ ap (on_last (on_last (with_digit b))) e ∙ sym (groups_of-digit other b digit))
    (groups_of-colon text ∙ ap (on_last with_number) e ∙ sym (groups_of-colon other))
    (groups_of-semicolon text ∙ ap (λ g. g ++ (0 ∷ []) ∷ []) e ∙ sym (groups_of-semicolon other))

-- If a text has more than 32 numbers, one more byte does not change its table.
stays : (text : List ℕ) (b : ℕ) (groups : List (List ℕ)) → groups_of (text ++ b ∷ []) ≡ groups
    → 32 < total (groups_of text) → total (groups_of text) ≤ total groups
    → first_numbers 32 groups ≡ first_numbers 32 (groups_of text) → table_of (text ++ b ∷ []) ≡ table_of text
stays text b groups more many rises same =
    let still : 32 < total (groups_of (text ++ b ∷ [])) = rw more (omega arith) in
    cut (text ++ b ∷ []) still ∙ ap (λ g. table g true) (ap (first_numbers 32) more ∙ same) ∙ sym (cut text many)

table-cut : (text : List ℕ) (b : ℕ) → is_parameter b ≡ true →
    32 < total (groups_of text) → table_of (text ++ b ∷ []) ≡ table_of text
table-cut text b is many =
    let groups = groups_of text in
    parameter_cases (λ x. table_of (text ++ x ∷ []) ≡ table_of text) b is
    (λ digit.
    stays text b (on_last (on_last (with_digit b)) groups) (groups_of-digit text b digit)
    many (omega (arith, total-digit (with_digit b) groups))
    (first_numbers-digit (with_digit b) 32 groups many))
    (stays text 0x3A (on_last with_number groups) (groups_of-colon text) many
    (omega (arith, total-number groups (groups_of-some text))) (first_numbers-number 32 groups (omega arith)))
    (stays text 0x3B (groups ++ (0 ∷ []) ∷ []) (groups_of-semicolon text) many
    (omega (arith, total-append groups ((0 ∷ []) ∷ []))) (first_numbers-groups 32 groups ((0 ∷ []) ∷ []) (omega arith)))

pub table-more : (text other : List ℕ) (b : ℕ) → is_parameter b ≡ true →
    table_of text ≡ table_of other → table_of (text ++ b ∷ []) ≡ table_of (other ++ b ∷ [])
table-more text other b is e =
    ⊎_elim
    (λ (many : 32 < total (groups_of text)).
    let cuts = is_cut (first_numbers 32 (groups_of text)) other (sym (cut text many) ∙ e) in
    table-cut text b is many ∙ e ∙ sym (table-cut other b is cuts))
    (λ (few : total (groups_of text) ≤ 32).
    table-groups (text ++ b ∷ []) (other ++ b ∷ [])
    (groups-more text other b is (whole_is (groups_of text) other (sym (whole text few) ∙ e))))
    (cases_lt 32 (total (groups_of text)))

take-take : (n : ℕ) (xs ys : List ℕ) → take n (xs ++ ys) ≡ take n (take n xs ++ ys)
take-take zero xs ys = refl
take-take (suc n) [] ys = refl
take-take (suc n) (x ∷ xs) ys = ap (λ l. x ∷ l) (take-take n xs ys)

pub take-more : (n : ℕ) (xs ys : List ℕ) (b : ℕ) → take n xs ≡ take n ys → take n (xs ++ b ∷ []) ≡ take n (ys ++ b ∷ [])
take-more n xs ys b e = take-take n xs (b ∷ []) ∙ ap (λ l. take n (l ++ b ∷ [])) e ∙ sym (take-take n ys (b ∷ []))

-- ==== Equivalent states of the automaton: one scanner may be in either, and no byte ever distinguishes them.

abbrev pub at : Kind → List ℕ → State
at kind collected = record { kind = kind; collected = collected }

-- The data that a scanner holds after it has read exactly the bytes collected in the given state.
abbrev pub held_of : State → ScannerValue
held_of state = record {
  kind = state.kind;
  unfinished = state.collected;
  table = table_of (parameter_text state.collected);
  intermediates = intermediates_of state.collected;
  text = state.collected;
}

abbrev pub Alike : State → State → Type 0
Alike s t = StandsFor (held_of s) t

-- Two collected texts are equivalent in states of the given kind.
abbrev pub AlikeIn : Kind → List ℕ → List ℕ → Type 0
AlikeIn kind a b = Reads (held_of (at kind a)) kind b

reads_itself : (kind : Kind) (a : List ℕ) → AlikeIn kind a a
reads_itself Ground a = refl
reads_itself Escape a = record { table = refl; intermediates = refl }
reads_itself EscapeIntermediate a = record { table = refl; intermediates = refl }
reads_itself CsiEntry a = record { table = refl; intermediates = refl }
reads_itself CsiParam a = record { table = refl; intermediates = refl }
reads_itself CsiIntermediate a = record { table = refl; intermediates = refl }
reads_itself CsiIgnore a = tt
reads_itself OscString a = refl
reads_itself Skip a = tt

pub itself : (s : State) → Alike s s
itself s = record { kind = refl; reads = reads_itself s.kind s.collected }

both_read : (kind : Kind) (held : ScannerValue) (a b : List ℕ) → Reads held kind a → Reads held kind b → AlikeIn kind a b
both_read Ground held a b r q = sym r ∙ q
both_read Escape held a b r q = record { table = sym r.table ∙ q.table; intermediates = sym r.intermediates ∙ q.intermediates }
both_read EscapeIntermediate held a b r q = record { table = sym r.table ∙ q.table; intermediates = sym r.intermediates ∙ q.intermediates }
both_read CsiEntry held a b r q = record { table = sym r.table ∙ q.table; intermediates = sym r.intermediates ∙ q.intermediates }
both_read CsiParam held a b r q = record { table = sym r.table ∙ q.table; intermediates = sym r.intermediates ∙ q.intermediates }
both_read CsiIntermediate held a b r q = record { table = sym r.table ∙ q.table; intermediates = sym r.intermediates ∙ q.intermediates }
both_read CsiIgnore held a b r q = tt
both_read OscString held a b r q = sym r ∙ q
both_read Skip held a b r q = tt

other_reads : (kind : Kind) (held : ScannerValue) (a b : List ℕ) → AlikeIn kind a b → Reads held kind a → Reads held kind b
other_reads Ground held a b e r = r ∙ e
other_reads Escape held a b e r = record { table = r.table ∙ e.table; intermediates = r.intermediates ∙ e.intermediates }
other_reads EscapeIntermediate held a b e r = record { table = r.table ∙ e.table; intermediates = r.intermediates ∙ e.intermediates }
other_reads CsiEntry held a b e r = record { table = r.table ∙ e.table; intermediates = r.intermediates ∙ e.intermediates }
other_reads CsiParam held a b e r = record { table = r.table ∙ e.table; intermediates = r.intermediates ∙ e.intermediates }
other_reads CsiIntermediate held a b e r = record { table = r.table ∙ e.table; intermediates = r.intermediates ∙ e.intermediates }
other_reads CsiIgnore held a b e r = tt
other_reads OscString held a b e r = r ∙ e
other_reads Skip held a b e r = tt

-- States that one scanner may be in are equivalent.
pub both_stand : (held : ScannerValue) (s t : State) → StandsFor held s → StandsFor held t → Alike s t
both_stand held s t p q =
    record {
      kind = sym p.kind ∙ q.kind;
      reads =
          subst (λ (k : Kind). AlikeIn k s.collected t.collected) p.kind
          (both_read held.kind held s.collected t.collected p.reads q.reads);
    }

-- A scanner that may be in a state may be in every equivalent one.
pub other_stands : (held : ScannerValue) (s t : State) → Alike s t → StandsFor held s → StandsFor held t
other_stands held s t e p =
    record {
      kind = p.kind ∙ e.kind;
      reads =
          other_reads held.kind held s.collected t.collected
          (subst (λ (k : Kind). AlikeIn k s.collected t.collected) (sym p.kind) e.reads) p.reads;
    }

-- ---- One byte

-- Two steps lead to equivalent states with the same events.
pub record Same (x y : Step) : Type 0 where
  pub alike : Alike x.state y.state
  pub events : x.events ≡ y.events

same_itself : (x : Step) → Same x x
same_itself x = record { alike = itself x.state; events = refl }

-- Every transition of the table is consistent.
turn_fits : (kind : Kind) (class : Class) → Fits kind (transition_of kind class)
turn_fits kind class = search rules

-- Two equivalent texts inside a sequence stay equivalent when the same byte is appended to both.
sequence_more : (kind next : Kind) (a b : List ℕ) (x : ℕ) → ReadsSequence (held_of (at kind a)) b →
    ReadsSequence (held_of (at next (a ++ x ∷ []))) (b ++ x ∷ [])
sequence_more kind next a b x r = by (is_parameter x) refl
  where
    by : (t : Bool) → is_parameter x ≡ t → ReadsSequence (held_of (at next (a ++ x ∷ []))) (b ++ x ∷ [])
    by true is = record {
      table =
          ap table_of (filter-yes is_parameter a x is) ∙ table-more (parameter_text a) (parameter_text b) x is r.table
          ∙ ap table_of (sym (filter-yes is_parameter b x is));
      intermediates =
          ap (take 2) (filter-no (λ y. not (is_parameter y)) a x (ap not is)) ∙ r.intermediates
          ∙ ap (take 2) (sym (filter-no (λ y. not (is_parameter y)) b x (ap not is)));
    }
    by false is = record {
      table = ap table_of (filter-no is_parameter a x is) ∙ r.table ∙ ap table_of (sym (filter-no is_parameter b x is));
      intermediates = ap (take 2) (filter-yes (λ y. not (is_parameter y)) a x (ap not is))
          ∙ take-more 2 (filter (λ y. not (is_parameter y)) a) (filter (λ y. not (is_parameter y)) b) x r.intermediates
          ∙ ap (take 2) (sym (filter-yes (λ y. not (is_parameter y)) b x (ap not is)));
    }

-- Equivalent texts of an operating system command are equal.
same_text : (kind : Kind) (a b : List ℕ) → kind ≡ OscString → AlikeIn kind a b → a ≡ b
same_text kind a b is r = subst (λ (k : Kind). AlikeIn k a b) is r

collects_alike : (kind next : Kind) (a b : List ℕ) (x : ℕ) → Fits kind (Collect next) →
    AlikeIn kind a b → AlikeIn next (a ++ x ∷ []) (b ++ x ∷ [])
collects_alike kind next a b x (inl (old, new)) r =
    sequence_to next (held_of (at next (a ++ x ∷ []))) (b ++ x ∷ []) new
    (sequence_more kind next a b x (sequence_from kind (held_of (at kind a)) b old r))
collects_alike kind next a b x (inr (old, new)) r =
    subst (λ (l : List ℕ). AlikeIn next (a ++ x ∷ []) (l ++ x ∷ []))
    (same_text kind a b old r) (reads_itself next (a ++ x ∷ []))

given_alike : (kind next : Kind) (end : ending.Ending) (a b : List ℕ) (x : ℕ) →
    FitsEnding kind next end → AlikeIn kind a b → events_at_end end a x ≡ events_at_end end b x
given_alike kind next ends.Nothing a b x fits r = refl
given_alike kind next ends.Character a b x fits r = refl
given_alike kind next ends.Executed a b x fits r = refl
given_alike kind next ends.EscDispatch a b x fits r =
    let reads = sequence_from kind (held_of (at kind a)) b fits.0 r in
    ap (λ intermediates. EscDispatch intermediates x ∷ []) reads.intermediates
given_alike kind next ends.CsiDispatch a b x fits r =
    let reads = sequence_from kind (held_of (at kind a)) b fits.0 r in
    ap (λ (t : GroupTable). CsiDispatch t.groups (intermediates_of a) x ∷ []) reads.table
    ∙ ap (λ intermediates. CsiDispatch (table_of (parameter_text b)).groups intermediates x ∷ []) reads.intermediates
given_alike kind next ends.OscDispatch a b x fits r =
    ap (λ text. OscDispatch (parts_of text) ∷ []) (same_text kind a b fits.0 r)
given_alike kind next ends.OscDispatchAndExecuted a b x fits r =
    ap (λ text. OscDispatch (parts_of text) ∷ Executed x ∷ []) (same_text kind a b fits.0 r)

after_alike : (kind : Kind) (a b : List ℕ) (x : ℕ) (turn : Transition) → Fits kind turn →
    AlikeIn kind a b → Same (step_after kind a x turn) (step_after kind b x turn)
after_alike kind a b x (Collect next) fits r =
    record { alike = record { kind = refl; reads = collects_alike kind next a b x fits r }; events = refl }
after_alike kind a b x Drop fits r = record { alike = record { kind = refl; reads = r }; events = refl }
after_alike kind a b x Execute fits r = record { alike = record { kind = refl; reads = r }; events = refl }
after_alike kind a b x (End next end) fits r =
    record { alike = itself (at next []); events = given_alike kind next end a b x fits r }

in_table : (kind : Kind) (a b : List ℕ) (x : ℕ) → kind ≢ Ground →
    AlikeIn kind a b → Same (step_in kind a x) (step_in kind b x)
in_table kind a b x other r =
    rw (step_in-table kind a x other, step_in-table kind b x other)
    (after_alike kind a b x (transition_of kind (class_of x)) (turn_fits kind (class_of x)) r)

ground_or_not : (kind : Kind) → (kind ≡ Ground) ⊎ (kind ≢ Ground)
ground_or_not kind = search rules

step_alike : (kind : Kind) (a b : List ℕ) (x : ℕ) → AlikeIn kind a b → Same (step_in kind a x) (step_in kind b x)
step_alike kind a b x r =
    ⊎_elim
    (λ (is : kind ≡ Ground).
    let same : a ≡ b = subst (λ (k : Kind). AlikeIn k a b) is r in
    subst (λ (l : List ℕ). Same (step_in kind a x) (step_in kind l x)) same (same_itself (step_in kind a x)))
    (λ (other : kind ≢ Ground). in_table kind a b x other r)
    (ground_or_not kind)

-- Runs from equivalent states lead to equivalent states with the same events.
pub runs_alike : (s t : State) (bytes : List ℕ) → Alike s t → Same (run s bytes) (run t bytes)
runs_alike s t [] e = record { alike = e; events = refl }
runs_alike s t (x ∷ bytes) e =
    let first = step_in s.kind s.collected x in
    let other = step_in t.kind t.collected x in
    let step : Same first other = rw (sym e.kind) (step_alike s.kind s.collected t.collected x e.reads) in
    let rest = runs_alike first.state other.state bytes step.alike in
    record {
      alike = rest.alike;
      events = ap (λ l. l ++ (run first.state bytes).events) step.events ∙ ap (λ l. other.events ++ l) rest.events;
    }
