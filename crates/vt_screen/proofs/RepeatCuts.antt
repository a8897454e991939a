-- Output that consists of pieces, cut where a terminal is in ground state, consists of pieces before and after the cut.
use Rattle.std.proofs.Common.{◌≡◌, ◌≢◌, ◌⊎◌, inl, inr, ℕ, zero, suc, ◌+◌, ◌/◌, ◌<◌, ◌≤◌, nat_lt, Bool, true, false}
use Rattle.std.proofs.Common.{true≢false, List, [], ◌∷◌, ◌++◌, length, cond, refl, sym, ap, ap₂, subst, ◌∙◌}
use Rattle.std.proofs.Common.{append_assoc, append-nil, arith, length-append}
use Rattle.std.proofs.Math.Logic.{⊎_elim}
use Rattle.std.proofs.lemmas.Bool.{cases_lt}
use Rattle.std.proofs.lemmas.Bool.Decides.{nat_tests}
use Rattle.std.proofs.lemmas.Str.{len_utf8_bounds, length-encode}
use Rattle.std.specs.Char.{IsScalar, encode_utf8}
use Rattle.std.specs.List.{AllByRecursion, flat_map}
use Rattle.std.specs.Prelude.{encode_utf8_all}
use lib.Utf8.{next, scalar_cases}
use Rattle.vt_cells.specs.Op.{csi, semicolon_list}
use Rattle.vt_scan.specs.Automaton.{State, Step, start, fresh_step, step_after, step_in, run}
use Rattle.vt_scan.specs.Characters.{is_second, is_character, is_beginning}
use Rattle.vt_scan.specs.Table.{class_of, transition_of}
use Rattle.vt_scan.specs.Texts.{IsParameterText}
use Rattle.vt_scan.specs.declared.table.Kind.{Kind}
use Rattle.vt_scan.specs.declared.table.Kind.TheVariants.{Ground, CsiEntry, CsiParam}
use Rattle.vt_scan.proofs.Readback.{run-append, class_of-parameter, step_parameter}
use Rattle.vt_scan.proofs.Steps.{gives, fresh_step-begun, character_step-further}
use Rattle.vt_screen.specs.Diffs.{diff_controls, diff_finals}
use Rattle.vt_screen.specs.MadeOf.{Characters, Control, IsCharacter, IsMadeOf, IsOneOf, IsPiece, Numbered, Piece}
use Rattle.vt_screen.specs.MadeOf.{drawing_controls, piece_text}
use Rattle.vt_screen.specs.Repeating.{copies}
use Rattle.vt_screen.proofs.MadeOf.{made_append, made_nothing, made_piece}
use Rattle.vt_screen.proofs.RepeatTokens.{numbers_parameter, piece_none}

-- ---- an unfinished character or sequence

abbrev open_in : Kind → List ℕ → Bool
open_in Ground [] = false
open_in _ _ = true

abbrev is_open : State → Bool
is_open state = open_in state.kind state.collected

abbrev state_after : State → ℕ → State
state_after state b = (step_in state.kind state.collected b).state

-- While the bytes are read, a character or sequence is unfinished after each byte but the last.
abbrev AllOpen : State → List ℕ → Type 0
AllOpen state [] = Unit {0}
AllOpen state (b ∷ text) = (text ≢ [] → is_open (state_after state b) ≡ true) × AllOpen (state_after state b) text

last_open : (state : State) (b : ℕ) → AllOpen state (b ∷ [])
last_open state b = ((λ n. absurd (n refl)), tt)

not_ground : (state : State) → is_open state ≡ true → state ≡ start → ⊥
not_ground state opens e = true≢false (sym opens ∙ ap (λ (s : State). is_open s) e)

-- Bytes after which a character or sequence is unfinished, followed by other bytes.
cut_end : (text s : List ℕ) (state : State) → (text ≢ [] → is_open state ≡ true) → text ≡ s → state ≡ start → s ≡ []
cut_end text [] state opens e g = refl
cut_end text (y ∷ s) state opens e g = absurd (not_ground state (opens (λ none. let both : [] ≡ y ∷ s = sym none ∙ e in cc)) g)

-- If a terminal is in ground state after a part of the bytes, that part is all of them or none.
cut_open : (text p s : List ℕ) (state : State) → AllOpen state text → text ≡ p ++ s → (run state p).state ≡ start →
    (p ≡ []) ⊎ (s ≡ [])
cut_open text [] s state opens e g = inl refl
cut_open [] (x ∷ p) s state opens e g = absurd cc
cut_open (b ∷ text) (x ∷ p) s state opens e g =
    let same : b ≡ x = cc in
    let rest : text ≡ p ++ s = cc in
    let ground : (run (state_after state b) p).state ≡ start =
    subst (λ (k : ℕ). (run (state_after state k) p).state ≡ start) (sym same) g in
    by_rest rest ground (cut_open text p s (state_after state b) opens.1 rest ground)
  where
    by_rest : text ≡ p ++ s → (run (state_after state b) p).state ≡ start → (p ≡ []) ⊎ (s ≡ []) → ((x ∷ p) ≡ []) ⊎ (s ≡ [])
    by_rest rest ground (inr none) = inr none
    by_rest rest ground (inl none) =
        inr (cut_end text s (state_after state b) opens.0 (rest ∙ ap (λ (q : List ℕ). q ++ s) none)
        (sym (ap (λ (q : List ℕ). (run (state_after state b) q).state) none) ∙ ground))

-- The bytes are those of CR and LF.
abbrev IsLineEnd : (p s : List ℕ) → Type 0
IsLineEnd p s = (p ≡ 0x0D ∷ []) × (s ≡ 0x0A ∷ [])

-- If a terminal is in ground state after a part of the bytes, that part is all of them, none, or the CR of CR LF.
abbrev IsCut : List ℕ → Type 0
IsCut text = (p s : List ℕ) → text ≡ p ++ s → (run start p).state ≡ start → (p ≡ []) ⊎ ((s ≡ []) ⊎ IsLineEnd p s)

cut_of_open : (text : List ℕ) → AllOpen start text → IsCut text
cut_of_open text opens p s e g = by_end (cut_open text p s start opens e g) where
  by_end : (p ≡ []) ⊎ (s ≡ []) → (p ≡ []) ⊎ ((s ≡ []) ⊎ IsLineEnd p s)
  by_end (inl none) = inl none
  by_end (inr none) = inr (inl none)

-- ---- control sequences

parameters_open : (before text : List ℕ) (final : ℕ) → IsParameterText text →
    AllOpen (record { kind = CsiParam; collected = before }) (text ++ final ∷ [])
parameters_open before [] final is = last_open (record { kind = CsiParam; collected = before }) final
parameters_open before (b ∷ text) final is =
    let after : state_after (record { kind = CsiParam; collected = before }) b ≡ record { kind = CsiParam; collected = before ++ b ∷ [] } =
    ap (λ (o : Step). o.state) (step_parameter before b is.0 is.1) in (
      (λ n. ap (λ (s : State). is_open s) after),
      subst (λ (s : State). AllOpen s (text ++ final ∷ [])) (sym after) (parameters_open (before ++ b ∷ []) text final is.2),
    )

first_parameter : (b : ℕ) → 0x30 ≤ b → b ≤ 0x3B → step_in CsiEntry [] b ≡ gives CsiParam (b ∷ []) []
first_parameter b low high =
    class_of-parameter (λ k. step_after CsiEntry [] b (transition_of CsiEntry k) ≡ gives CsiParam (b ∷ []) []) b low high refl

entry_open : (text : List ℕ) (final : ℕ) → IsParameterText text →
    AllOpen (record { kind = CsiEntry; collected = [] }) (text ++ final ∷ [])
entry_open [] final is = last_open (record { kind = CsiEntry; collected = [] }) final
entry_open (b ∷ text) final is =
    let after : state_after (record { kind = CsiEntry; collected = [] }) b ≡ record { kind = CsiParam; collected = b ∷ [] } =
    ap (λ (o : Step). o.state) (first_parameter b is.0 is.1) in (
      (λ n. ap (λ (s : State). is_open s) after),
      subst (λ (s : State). AllOpen s (text ++ final ∷ [])) (sym after) (parameters_open (b ∷ []) text final is.2),
    )

sequence_open : (text : List ℕ) (final : ℕ) → IsParameterText text → AllOpen start (csi text final)
unfolding fresh_step class_of
sequence_open text final is = ((λ n. refl), ((λ n. refl), entry_open text final is))

-- ---- characters

begun_open : (a : ℕ) (text : List ℕ) → 0x80 ≤ a → is_beginning (a ∷ []) ≡ true →
    AllOpen (record { kind = Ground; collected = a ∷ [] }) text → AllOpen start (a ∷ text)
begun_open a text high is rest =
    let after : state_after start a ≡ record { kind = Ground; collected = a ∷ [] } =
    ap (λ (o : Step). o.state) (fresh_step-begun a high is) in
    ((λ n. ap (λ (s : State). is_open s) after), subst (λ (s : State). AllOpen s text) (sym after) rest)

further_open : (a b : ℕ) (before text : List ℕ) → is_character (a ∷ (before ++ b ∷ [])) ≡ false →
    is_beginning (a ∷ (before ++ b ∷ [])) ≡ true →
    AllOpen (record { kind = Ground; collected = a ∷ (before ++ b ∷ []) }) text →
    AllOpen (record { kind = Ground; collected = a ∷ before }) (b ∷ text)
further_open a b before text other is rest =
    let after : state_after (record { kind = Ground; collected = a ∷ before }) b ≡ record { kind = Ground; collected = a ∷ (before ++ b ∷ []) } =
    ap (λ (o : Step). o.state) (character_step-further (a ∷ before) b other is) in
    ((λ n. ap (λ (s : State). is_open s) after), subst (λ (s : State). AllOpen s text) (sym after) rest)

two_open : (c : ℕ) → 0x80 ≤ c → c < 0x800 → AllOpen start ((192 + c / 64) ∷ next c ∷ [])
unfolding is_character is_beginning
two_open c low high =
    let b1 : is_beginning ((192 + c / 64) ∷ []) ≡ true = grind (arith, nat_tests) in
    begun_open (192 + c / 64) (next c ∷ []) (omega arith) b1
    (last_open (record { kind = Ground; collected = (192 + c / 64) ∷ [] }) (next c))

three_open : (c : ℕ) → 0x800 ≤ c → c < 0x10000 → (c < 0xD800) ⊎ (0xE000 ≤ c) →
    AllOpen start ((224 + c / 4096) ∷ next (c / 64) ∷ next c ∷ [])
unfolding is_character is_beginning
three_open c low high plane =
    let a = 224 + c / 4096 in
    let b1 : is_beginning (a ∷ []) ≡ true = grind (arith, nat_tests) in
    let second : is_second a (next (c / 64)) ≡ true = grind (arith, nat_tests, plane) in
    let n2 : is_character (a ∷ next (c / 64) ∷ []) ≡ false = grind (arith, nat_tests) in
    let b2 : is_beginning (a ∷ next (c / 64) ∷ []) ≡ true = rw second (grind (arith, nat_tests)) in
    begun_open a (next (c / 64) ∷ next c ∷ []) (omega arith) b1
    (further_open a (next (c / 64)) [] (next c ∷ []) n2 b2
    (last_open (record { kind = Ground; collected = a ∷ next (c / 64) ∷ [] }) (next c)))

four_open : (c : ℕ) → 0x10000 ≤ c → c < 0x110000 →
    AllOpen start ((240 + c / 262144) ∷ next (c / 4096) ∷ next (c / 64) ∷ next c ∷ [])
unfolding is_character is_beginning
four_open c low high =
    let a = 240 + c / 262144 in
    let b1 : is_beginning (a ∷ []) ≡ true = grind (arith, nat_tests) in
    let second : is_second a (next (c / 4096)) ≡ true = grind (arith, nat_tests) in
    let n2 : is_character (a ∷ next (c / 4096) ∷ []) ≡ false = grind (arith, nat_tests) in
    let b2 : is_beginning (a ∷ next (c / 4096) ∷ []) ≡ true = rw second (grind (arith, nat_tests)) in
    let n3 : is_character (a ∷ next (c / 4096) ∷ next (c / 64) ∷ []) ≡ false = grind (arith, nat_tests) in
    let b3 : is_beginning (a ∷ next (c / 4096) ∷ next (c / 64) ∷ []) ≡ true = rw second (grind (arith, nat_tests)) in
    begun_open a (next (c / 4096) ∷ next (c / 64) ∷ next c ∷ []) (omega arith) b1
    (further_open a (next (c / 4096)) [] (next (c / 64) ∷ next c ∷ []) n2 b2
    (further_open a (next (c / 64)) (next (c / 4096) ∷ []) (next c ∷ []) n3 b3
    (last_open (record { kind = Ground; collected = a ∷ next (c / 4096) ∷ next (c / 64) ∷ [] }) (next c))))

character_open : (c : ℕ) → IsScalar c → AllOpen start (encode_utf8 c)
unfolding encode_utf8
character_open c scalar =
    ⊎_elim
    (λ (small : c < 0x80). let t0 : nat_lt c 128 ≡ true = grind (arith, nat_tests) in rw t0 (last_open start c))
    (λ (high : 0x80 ≤ c). let t0 : nat_lt c 128 ≡ false = grind (arith, nat_tests) in
    ⊎_elim
    (λ (small : c < 0x800). let t1 : nat_lt c 2048 ≡ true = grind (arith, nat_tests) in rw (t0, t1) (two_open c high small))
    (λ (wide : 0x800 ≤ c).
    let t1 : nat_lt c 2048 ≡ false = grind (arith, nat_tests) in
    ⊎_elim
    (λ (small : c < 0x10000). let t2 : nat_lt c 65536 ≡ true = grind (arith, nat_tests) in
    rw (t0, t1, t2) (three_open c wide small (⊎_elim (λ h. inl h) (λ h. inr h.0) (scalar_cases c scalar))))
    (λ (large : 0x10000 ≤ c). let t2 : nat_lt c 65536 ≡ false = grind (arith, nat_tests) in
    rw (t0, t1, t2) (four_open c large (⊎_elim (λ h. absurd (omega arith)) (λ h. h.1) (scalar_cases c scalar))))
    (cases_lt c 0x10000))
    (cases_lt c 0x800))
    (cases_lt c 0x80)

-- ---- fixed sequences

cut_crlf : IsCut (0x0D ∷ 0x0A ∷ [])
cut_crlf [] s e g = inl refl
cut_crlf (x ∷ []) s e g =
    let same : 0x0D ≡ x = cc in
    let rest : 0x0A ∷ [] ≡ s = cc in
    inr (inr (ap (λ (k : ℕ). k ∷ []) (sym same), sym rest))
cut_crlf (x ∷ y ∷ p) s e g = inr (inl (ends p s (let rest : [] ≡ p ++ s = cc in rest))) where
  ends : (p s : List ℕ) → [] ≡ p ++ s → s ≡ []
  ends [] s e = sym e
  ends (z ∷ p) s e = absurd cc

fixed_cut : (bytes : List ℕ) → IsOneOf bytes drawing_controls → IsCut bytes
unfolding fresh_step class_of
fixed_cut bytes (inl e) = subst IsCut (sym e) cut_crlf
fixed_cut bytes (inr (inl e)) = subst IsCut (sym e) (cut_of_open (0x0A ∷ []) (last_open start 0x0A))
fixed_cut bytes (inr (inr (inl e))) = subst IsCut (sym e) (cut_of_open (0x08 ∷ []) (last_open start 0x08))
fixed_cut bytes (inr (inr (inr (inl e)))) = subst IsCut (sym e) (cut_of_open _ ((λ n. refl), ((λ n. absurd (n refl)), tt)))
fixed_cut bytes (inr (inr (inr (inr (inl e))))) = subst IsCut (sym e) (cut_of_open _ ((λ n. refl), ((λ n. absurd (n refl)), tt)))
fixed_cut bytes (inr (inr (inr (inr (inr (inl e)))))) =
    subst IsCut (sym e) (cut_of_open _ ((λ n. refl), ((λ n. refl), ((λ n. refl), ((λ n. refl), ((λ n. refl), ((λ n. absurd (n refl)), tt)))))))
fixed_cut bytes (inr (inr (inr (inr (inr (inr (inl e))))))) =
    subst IsCut (sym e) (cut_of_open _ ((λ n. refl), ((λ n. refl), ((λ n. refl), ((λ n. refl), ((λ n. refl), ((λ n. absurd (n refl)), tt)))))))
fixed_cut bytes (inr (inr (inr (inr (inr (inr (inr (inl e)))))))) =
    subst IsCut (sym e) (cut_of_open (csi [] 0x4A) (sequence_open [] 0x4A tt))
fixed_cut bytes (inr (inr (inr (inr (inr (inr (inr (inr (inl e))))))))) =
    subst IsCut (sym e) (cut_of_open (csi [] 0x4B) (sequence_open [] 0x4B tt))
fixed_cut bytes (inr (inr (inr (inr (inr (inr (inr (inr (inr none))))))))) = absurd none

control_cut : (scroll : Bool) (bytes : List ℕ) → IsOneOf bytes (diff_controls scroll) → IsCut bytes
control_cut false bytes is = fixed_cut bytes is
control_cut true bytes (inl e) = subst IsCut (sym e) (cut_of_open (0x0D ∷ []) (last_open start 0x0D))
control_cut true bytes (inr (inl e)) = subst IsCut (sym e) (cut_of_open (0x09 ∷ []) (last_open start 0x09))
control_cut true bytes (inr (inr is)) = fixed_cut bytes is

-- ---- pieces, each with at most one character

record IsWhole (scroll : Bool) (piece : Piece) : Type 0 where
  is : IsPiece (diff_finals scroll) (diff_controls scroll) piece
  cuts : IsCut (piece_text piece)
  ends : (run start (piece_text piece)).state ≡ start

one_whole : (scroll : Bool) (c : ℕ) → IsCharacter c → IsWhole scroll (Characters (c ∷ []))
one_whole scroll c is = record {
  is = (is, tt);
  cuts = subst IsCut (sym (append-nil (encode_utf8 c))) (cut_of_open (encode_utf8 c) (character_open c is.0));
  ends = (piece_none scroll (Characters (c ∷ [])) (is, tt)).state;
}

-- Pieces with the given output, none of which has more than one character.
record IsCutUp (scroll : Bool) (text : List ℕ) : Type 0 where
  pieces : List Piece
  whole : AllByRecursion (IsWhole scroll) pieces
  spelled : text ≡ flat_map piece_text pieces

more_whole : (scroll : Bool) (piece : Piece) (rest : List ℕ) → IsWhole scroll piece → IsCutUp scroll rest →
    IsCutUp scroll (piece_text piece ++ rest)
more_whole scroll piece rest is up = record {
  pieces = piece ∷ up.pieces;
  whole = (is, up.whole);
  spelled = ap (λ (t : List ℕ). piece_text piece ++ t) up.spelled;
}

characters_up : (scroll : Bool) (cs rest : List ℕ) → AllByRecursion IsCharacter cs → IsCutUp scroll rest →
    IsCutUp scroll (encode_utf8_all cs ++ rest)
characters_up scroll [] rest is up = up
characters_up scroll (c ∷ cs) rest is up =
    subst (IsCutUp scroll)
    (ap (λ (t : List ℕ). t ++ (encode_utf8_all cs ++ rest)) (append-nil (encode_utf8 c))
    ∙ sym (append_assoc (encode_utf8 c) (encode_utf8_all cs) rest))
    (more_whole scroll (Characters (c ∷ [])) (encode_utf8_all cs ++ rest) (one_whole scroll c is.0)
    (characters_up scroll cs rest is.1 up))

cut_up : (scroll : Bool) (ps : List Piece) → AllByRecursion (IsPiece (diff_finals scroll) (diff_controls scroll)) ps →
    IsCutUp scroll (flat_map piece_text ps)
cut_up scroll [] is = record { pieces = []; whole = tt; spelled = refl }
cut_up scroll (Characters cs ∷ ps) is = characters_up scroll cs (flat_map piece_text ps) is.0 (cut_up scroll ps is.1)
cut_up scroll (Numbered ns final ∷ ps) is =
    more_whole scroll (Numbered ns final) (flat_map piece_text ps) (record {
      is = is.0;
      cuts = cut_of_open (csi (semicolon_list ns) final) (sequence_open (semicolon_list ns) final (numbers_parameter ns));
      ends = (piece_none scroll (Numbered ns final) is.0).state;
    })
    (cut_up scroll ps is.1)
cut_up scroll (Control bytes ∷ ps) is =
    more_whole scroll (Control bytes) (flat_map piece_text ps) (record {
      is = is.0;
      cuts = control_cut scroll bytes is.0;
      ends = (piece_none scroll (Control bytes) is.0).state;
    })
    (cut_up scroll ps is.1)

-- ---- cuts

abbrev EndsWithin : (t u a b : List ℕ) → Type 0
EndsWithin t u a b = (s : List ℕ) × (t ≡ a ++ s) × (b ≡ s ++ u)

abbrev EndsLater : (t u a b : List ℕ) → Type 0
EndsLater t u a b = (r : List ℕ) × (a ≡ t ++ r) × (u ≡ r ++ b)

-- A cut of two texts lies within the first or later.
either_cut : (t u a b : List ℕ) → t ++ u ≡ a ++ b → EndsWithin t u a b ⊎ EndsLater t u a b
either_cut [] u a b e = inr (a, refl, e)
either_cut (x ∷ t) u [] b e = inl (x ∷ t, refl, sym e)
either_cut (x ∷ t) u (y ∷ a) b e =
    more (let same : x ≡ y = cc in same) (either_cut t u a b (let rest : t ++ u ≡ a ++ b = cc in rest))
  where
    more : x ≡ y → EndsWithin t u a b ⊎ EndsLater t u a b → EndsWithin (x ∷ t) u (y ∷ a) b ⊎ EndsLater (x ∷ t) u (y ∷ a) b
    more same (inl w) = inl (w.0, ap₂ (λ (k : ℕ) (l : List ℕ). k ∷ l) same w.1, w.2)
    more same (inr w) = inr (w.0, ap₂ (λ (k : ℕ) (l : List ℕ). k ∷ l) (sym same) w.1, w.2)

-- The cut does not separate CR from LF.
abbrev pub KeepsLines : (a b : List ℕ) → Type 0
KeepsLines a b = (p s : List ℕ) → a ≡ p ++ 0x0D ∷ [] → b ≡ 0x0A ∷ s → ⊥

pub record IsMadeOfBoth (scroll : Bool) (a b : List ℕ) : Type 0 where
  pub first : IsMadeOf (diff_finals scroll) (diff_controls scroll) a
  pub second : IsMadeOf (diff_finals scroll) (diff_controls scroll) b

made_whole : (scroll : Bool) (ps : List Piece) → AllByRecursion (IsWhole scroll) ps →
    IsMadeOf (diff_finals scroll) (diff_controls scroll) (flat_map piece_text ps)
made_whole scroll ps is = record { pieces = ps; are_pieces = all ps is; spelled = refl } where
  all : (ps : List Piece) → AllByRecursion (IsWhole scroll) ps → AllByRecursion (IsPiece (diff_finals scroll) (diff_controls scroll)) ps
  all [] is = tt
  all (p ∷ ps) is = (is.0.is, all ps is.1)

cut_pieces : (scroll : Bool) (ps : List Piece) → AllByRecursion (IsWhole scroll) ps → (a b : List ℕ) →
    flat_map piece_text ps ≡ a ++ b → (run start a).state ≡ start → KeepsLines a b → IsMadeOfBoth scroll a b
cut_pieces scroll ps is [] b e g k = record {
  first = made_nothing (diff_finals scroll) (diff_controls scroll);
  second = subst (IsMadeOf (diff_finals scroll) (diff_controls scroll)) e (made_whole scroll ps is);
}
cut_pieces scroll [] is (x ∷ a) b e g k = absurd cc
cut_pieces scroll (p ∷ ps) is (x ∷ a) b e g k =
    by_cut (λ r. cut_pieces scroll ps is.1 r b) (either_cut (piece_text p) (flat_map piece_text ps) (x ∷ a) b e)
  where
    Made : List ℕ → Type 0
    Made = IsMadeOf (diff_finals scroll) (diff_controls scroll)

    this : Made (piece_text p)
    this = made_piece (diff_finals scroll) (diff_controls scroll) p is.0.is

    by_within : (s : List ℕ) → piece_text p ≡ (x ∷ a) ++ s → b ≡ s ++ flat_map piece_text ps →
        ((x ∷ a) ≡ []) ⊎ ((s ≡ []) ⊎ IsLineEnd (x ∷ a) s) → IsMadeOfBoth scroll (x ∷ a) b
    by_within s e f (inl none) = absurd cc
    by_within s e f (inr (inl none)) = record {
      first = subst Made (e ∙ ap (λ (t : List ℕ). (x ∷ a) ++ t) none ∙ append-nil (x ∷ a)) this;
      second = subst Made (sym (f ∙ ap (λ (t : List ℕ). t ++ flat_map piece_text ps) none)) (made_whole scroll ps is.1);
    }
    by_within s e f (inr (inr line)) =
        absurd (k [] (flat_map piece_text ps) line.0 (f ∙ ap (λ (t : List ℕ). t ++ flat_map piece_text ps) line.1))

    at_start : (r : List ℕ) → (x ∷ a) ≡ piece_text p ++ r → (run start r).state ≡ start
    at_start r e =
        sym (ap (λ (s : State). (run s r).state) is.0.ends)
        ∙ sym (ap (λ (o : Step). o.state) (run-append start (piece_text p) r))
        ∙ sym (ap (λ (t : List ℕ). (run start t).state) e)
        ∙ g

    lines : (r : List ℕ) → (x ∷ a) ≡ piece_text p ++ r → KeepsLines r b
    lines r e q s f h =
        k (piece_text p ++ q) s
        (e ∙ ap (λ (t : List ℕ). piece_text p ++ t) f ∙ sym (append_assoc (piece_text p) q (0x0D ∷ []))) h

    by_cut : ((r : List ℕ) → flat_map piece_text ps ≡ r ++ b → (run start r).state ≡ start → KeepsLines r b → IsMadeOfBoth scroll r b) →
        EndsWithin (piece_text p) (flat_map piece_text ps) (x ∷ a) b ⊎ EndsLater (piece_text p) (flat_map piece_text ps) (x ∷ a) b →
        IsMadeOfBoth scroll (x ∷ a) b
    by_cut ih (inl w) = by_within w.0 w.1 w.2 (is.0.cuts (x ∷ a) w.0 w.1 g)
    by_cut ih (inr w) =
        let both = ih w.0 w.2 (at_start w.0 w.1) (lines w.0 w.1) in record {
          first = subst Made (sym w.1) (made_append (diff_finals scroll) (diff_controls scroll) (piece_text p) w.0 this both.first);
          second = both.second;
        }

-- Output made of pieces, cut where a terminal is in ground state, but not between CR and LF.
pub made_cut : (scroll : Bool) (a b : List ℕ) → IsMadeOf (diff_finals scroll) (diff_controls scroll) (a ++ b) →
    (run start a).state ≡ start → KeepsLines a b → IsMadeOfBoth scroll a b
made_cut scroll a b made g k =
    let up = cut_up scroll made.pieces made.are_pieces in
    cut_pieces scroll up.pieces up.whole a b (sym up.spelled ∙ sym made.spelled) g k

-- ---- the bytes of characters

abbrev AreHigh : List ℕ → Type 0
AreHigh bytes = AllByRecursion (λ b. 0x20 ≤ b) bytes

character_high : (c : ℕ) → 0x20 ≤ c → AreHigh (encode_utf8 c)
unfolding encode_utf8
character_high c low =
    by_cond (nat_lt c 128) _ _ (λ t. (low, tt))
    (λ t. by_cond (nat_lt c 2048) _ _ (λ u. (omega arith, (omega arith, tt)))
    (λ u. by_cond (nat_lt c 65536) _ _ (λ v. (omega arith, (omega arith, (omega arith, tt))))
    (λ v. (omega arith, (omega arith, (omega arith, (omega arith, tt)))))))
  where
    by_cond : (b : Bool) (x y : List ℕ) → (b ≡ true → AreHigh x) → (b ≡ false → AreHigh y) → AreHigh (cond b x y)
    by_cond true x y p q = p refl
    by_cond false x y p q = q refl

high_then : (a b : List ℕ) → AreHigh a → AreHigh b → AreHigh (a ++ b)
high_then [] b h k = k
high_then (x ∷ a) b h k = (h.0, high_then a b h.1 k)

copies_high : (n c : ℕ) → 0x20 ≤ c → AreHigh (copies n c)
copies_high zero c low = tt
copies_high (suc n) c low = high_then (encode_utf8 c) (copies n c) (character_high c low) (copies_high n c low)

no_return : (p : List ℕ) → AreHigh (p ++ 0x0D ∷ []) → ⊥
no_return [] h = let low = h.0 in omega (arith, low)
no_return (x ∷ p) h = no_return p h.1

no_feed : (text rest s : List ℕ) → AreHigh text → 0 < length text → text ++ rest ≡ 0x0A ∷ s → ⊥
no_feed [] rest s h some e = omega (arith, some)
no_feed (x ∷ text) rest s h some e = let same : x ≡ 0x0A = cc in let low = h.0 in omega (arith, low, same)

-- A cut after copies of a character.
pub lines_after : (n c : ℕ) (b : List ℕ) → 0x20 ≤ c → KeepsLines (copies n c) b
lines_after n c b low p s e f = no_return p (subst AreHigh e (copies_high n c low))

-- A cut before copies of a character.
pub lines_before : (a : List ℕ) (n c : ℕ) (rest : List ℕ) → 0x20 ≤ c → KeepsLines a (copies (suc n) c ++ rest)
lines_before a n c rest low p s e f =
    let one = length-append (encode_utf8 c) (copies n c) in
    let some = len_utf8_bounds c in
    let size = length-encode c in
    no_feed (copies (suc n) c) rest s (copies_high (suc n) c low) (omega (arith, one, some, size)) f
