-- The pieces of a text outside SGR sequences.
use Rattle.std.proofs.Common.{◌≡◌, ◌≢◌, ℕ, suc, ◌+◌, ◌<◌, false, List, [], ◌∷◌, ◌++◌, length, get_or, refl, sym, ap}
use Rattle.std.proofs.Common.{◌∙◌, append_assoc, append-nil, arith, ◌↔◌, ◌⊎◌, inl, inr, zero, ◌-◌, ◌≤◌, Bool, true}
use Rattle.std.proofs.Common.{◌||◌, take, drop, true≢false, subst}
use Rattle.std.proofs.lemmas.Bool.{ne_eqb, eqb-true}
use Rattle.std.specs.List.{concat, fold}
use Rattle.std.proofs.lemmas.Bool.Decides.{nat_tests}
use Rattle.std.proofs.lemmas.List.{length-append, drop-drop}
use Rattle.std.proofs.Math.Seq.{take-append_seam, drop-append_seam}
use Rattle.vt_rows.specs.Internals.{piece_at, pieces_after, pieces_from, pieces_within}
use Rattle.vt_rows.specs.Pieces.{Piece, piece_end, IsInSome, AreApart, ArePiecesOf, texts_of, plain_from}
use Rattle.vt_rows.specs.Pieces.{without_stretches}
use Rattle.vt_rows.specs.Stretches.{begins_stretch, ends_stretch, IsInStretch, ends_within, is_within_after}

-- ==== The pieces of a text that is split at its first ESC, or at its first `m`.

-- The byte does not occur in the text.
abbrev pub Lacks : ℕ → List ℕ → Type 0
Lacks c text = (i : ℕ) → i < length text → get_or text i 0 ≢ c

first_differs : (c b : ℕ) (text : List ℕ) → Lacks c (b ∷ text) → b ≢ c
first_differs c b text h = h 0 (omega arith)

others_lack : (c b : ℕ) (text : List ℕ) → Lacks c (b ∷ text) → Lacks c text
others_lack c b text h i lt = h (suc i) (omega arith)

no_end : (b : ℕ) (text : List ℕ) → Lacks 0x6D (b ∷ text) → ends_stretch b ≡ false
no_end b text h = ne_eqb b 0x6D (first_differs 0x6D b text h)

no_begin : (b : ℕ) (text : List ℕ) → Lacks 0x1B (b ∷ text) → begins_stretch b ≡ false
no_begin b text h = ne_eqb b 0x1B (first_differs 0x1B b text h)

pub within_to_end : (at : ℕ) (text : List ℕ) → Lacks 0x6D text → pieces_within at text ≡ []
within_to_end at [] h = refl
within_to_end at (b ∷ text) h = rw (no_end b text h) (within_to_end (at + 1) text (others_lack 0x6D b text h))

pub within_over : (at : ℕ) (inside rest : List ℕ) → Lacks 0x6D inside →
    pieces_within at (inside ++ 0x6D ∷ rest) ≡ pieces_from (at + (length inside + 1)) rest
within_over at [] rest h = refl
within_over at (b ∷ inside) rest h =
    let e : at + 1 + (length inside + 1) ≡ at + (length (b ∷ inside) + 1) = omega arith in
    rw (no_end b inside h)
    (within_over (at + 1) inside rest (others_lack 0x6D b inside h) ∙ ap (λ n. pieces_from n rest) e)

pub after_to_end : (at : ℕ) (piece text : List ℕ) → Lacks 0x1B text →
    pieces_after at piece text ≡ piece_at at (piece ++ text)
after_to_end at piece [] h = ap (piece_at at) (sym (append-nil piece))
after_to_end at piece (b ∷ text) h =
    rw (no_begin b text h)
    (after_to_end at (piece ++ b ∷ []) text (others_lack 0x1B b text h)
    ∙ ap (piece_at at) (append_assoc piece (b ∷ []) text))

pub after_over : (at : ℕ) (piece text rest : List ℕ) → Lacks 0x1B text →
    pieces_after at piece (text ++ 0x1B ∷ rest)
    ≡ piece_at at (piece ++ text) ++ pieces_within (at + length (piece ++ text) + 1) rest
after_over at piece [] rest h = rw (append-nil piece) refl
after_over at piece (b ∷ text) rest h =
    rw (no_begin b text h)
    (after_over at (piece ++ b ∷ []) text rest (others_lack 0x1B b text h)
    ∙ ap (λ whole. piece_at at whole ++ pieces_within (at + length whole + 1) rest) (append_assoc piece (b ∷ []) text))

-- The pieces of a text that is split at its first ESC.
pub pieces_over : (at : ℕ) (text rest : List ℕ) → Lacks 0x1B text → (later : List Piece) →
    pieces_within (at + length text + 1) rest ≡ later → pieces_from at (text ++ 0x1B ∷ rest) ≡ piece_at at text ++ later
pieces_over at text rest h later e =
    after_over at [] text rest h ∙ ap (λ (pieces : List Piece). piece_at at text ++ pieces) e

-- ==== The pieces of a text, by the indices of its bytes.

-- Whether byte k is inside an SGR sequence; the first argument says whether the text begins inside one.
abbrev in_stretch : Bool → List ℕ → ℕ → Bool
in_stretch within [] k = within
in_stretch within (b ∷ text) zero = within || begins_stretch b
in_stretch within (b ∷ text) (suc k) = in_stretch (is_within_after within b) text k

-- There is no `m` before byte k.
abbrev NoEnd : List ℕ → ℕ → Type 0
NoEnd text k = (j : ℕ) → j < k → get_or text j 0 ≢ 0x6D

end_first : (b k : ℕ) (text : List ℕ) → b ≢ 0x6D → NoEnd text k → NoEnd (b ∷ text) (suc k)
end_first b k text ne h zero lt = ne
end_first b k text ne h (suc j) lt = h j (omega (arith, lt))

no_end_first : (b k : ℕ) (text : List ℕ) → NoEnd (b ∷ text) (suc k) → (b ≢ 0x6D) × NoEnd text k
no_end_first b k text h = (h 0 (omega arith), λ j lt. h (suc j) (omega (arith, lt)))

later_stretch : (b k : ℕ) (text : List ℕ) → IsInStretch text k → IsInStretch (b ∷ text) (suc k)
later_stretch b k text s = (suc s.0, omega (arith, s.1), s.2, later) where
  later : (j : ℕ) → suc s.0 ≤ j → j < suc k → get_or (b ∷ text) j 0 ≢ 0x6D
  later zero low lt = absurd (omega (arith, low))
  later (suc j) low lt = s.3 j (omega (arith, low)) (omega (arith, lt))

is_wrapped : (within : Bool) (b : ℕ) → is_within_after within b ≡ true → ((b ≡ 0x1B) ⊎ (within ≡ true)) × (b ≢ 0x6D)
is_wrapped true b e = (inr refl, λ same. absurd (grind (arith, nat_tests)))
is_wrapped false b e = (inl (eqb-true b 0x1B e), λ same. absurd (grind (arith, nat_tests)))

goes_on_from : (within : Bool) (b : ℕ) → (b ≡ 0x1B) ⊎ (within ≡ true) → b ≢ 0x6D → is_within_after within b ≡ true
goes_on_from true b e ne = rw (ne_eqb b 0x6D ne) refl
goes_on_from false b (inl e) ne = rw e refl
goes_on_from false b (inr e) ne = absurd (true≢false (sym e))

-- The test for being inside an SGR sequence implies the definition by indices.
pub told : (within : Bool) (text : List ℕ) (k : ℕ) → k ≤ length text →
    in_stretch within text k ≡ true → IsInStretch text k ⊎ ((within ≡ true) × NoEnd text k)
told within [] k lt e = inr (e, λ j low. absurd (omega (arith, low, lt)))
told true (b ∷ text) zero lt e = inr (refl, λ j low. absurd (omega (arith, low)))
told false (b ∷ text) zero lt e =
    inl (0, omega arith, eqb-true b 0x1B e, λ j low high. absurd (omega (arith, low, high)))
told within (b ∷ text) (suc k) lt e = by (told (is_within_after within b) text k (omega (arith, lt)) e) where
  by : IsInStretch text k ⊎ ((is_within_after within b ≡ true) × NoEnd text k) →
      IsInStretch (b ∷ text) (suc k) ⊎ ((within ≡ true) × NoEnd (b ∷ text) (suc k))
  by (inl s) = inl (later_stretch b k text s)
  by (inr s) = begun (is_wrapped within b s.0) where
    begun : ((b ≡ 0x1B) ⊎ (within ≡ true)) × (b ≢ 0x6D) →
        IsInStretch (b ∷ text) (suc k) ⊎ ((within ≡ true) × NoEnd (b ∷ text) (suc k))
    begun (inl esc, ne) = inl (0, omega arith, esc, λ j low high. end_first b k text ne s.1 j high)
    begun (inr was, ne) = inr (was, end_first b k text ne s.1)

tells : (within : Bool) (text : List ℕ) (k : ℕ) → k ≤ length text →
    IsInStretch text k ⊎ ((within ≡ true) × NoEnd text k) → in_stretch within text k ≡ true
tells within [] k lt (inl s) = absurd (omega (arith, s.2))
tells within [] k lt (inr s) = s.0
tells true (b ∷ text) zero lt s = refl
tells false (b ∷ text) zero lt (inl (zero, le, esc, h)) = rw esc refl
tells false (b ∷ text) zero lt (inl (suc i, le, esc, h)) = absurd (omega (arith, le))
tells false (b ∷ text) zero lt (inr s) = absurd (true≢false (sym s.0))
tells within (b ∷ text) (suc k) lt (inl (zero, le, esc, h)) =
    let first = no_end_first b k text (λ j high. h j (omega arith) high) in
    tells (is_within_after within b) text k (omega (arith, lt)) (inr (goes_on_from within b (inl esc) first.0, first.1))
tells within (b ∷ text) (suc k) lt (inl (suc i, le, esc, h)) =
    tells (is_within_after within b) text k (omega (arith, lt))
    (inl (i, omega (arith, le), esc, λ j low high. h (suc j) (omega (arith, low)) (omega (arith, high))))
tells within (b ∷ text) (suc k) lt (inr s) =
    let first = no_end_first b k text s.1 in
    tells (is_within_after within b) text k (omega (arith, lt)) (inr (goes_on_from within b (inr s.0) first.0, first.1))

-- The pieces contain exactly the bytes outside SGR sequences of a text that begins at byte `at`.
abbrev Covers : Bool → ℕ → List ℕ → List Piece → Type 0
Covers within at text pieces = (k : ℕ) → k < length text → IsInSome (at + k) pieces ↔ (in_stretch within text k ≡ false)

lacks_more : (c b : ℕ) (text : List ℕ) → Lacks c text → b ≢ c → Lacks c (text ++ b ∷ [])
lacks_more c b [] h ne zero lt = ne
lacks_more c b [] h ne (suc i) lt = absurd (omega (arith, lt))
lacks_more c b (x ∷ text) h ne zero lt = h 0 (omega arith)
lacks_more c b (x ∷ text) h ne (suc i) lt =
    lacks_more c b text (λ j low. h (suc j) (omega (arith, low))) ne i (omega (arith, lt))

-- No byte of a text without ESC is inside an SGR sequence.
free : (text : List ℕ) (k : ℕ) → Lacks 0x1B text → k < length text →
    (rest : List ℕ) → in_stretch false (text ++ rest) k ≡ false
free [] k h lt rest = absurd (omega (arith, lt))
free (b ∷ text) zero h lt rest = ne_eqb b 0x1B (h 0 (omega arith))
free (b ∷ text) (suc k) h lt rest =
    let goes : is_within_after false b ≡ false = ne_eqb b 0x1B (h 0 (omega arith)) in
    ap (λ within. in_stretch within (text ++ rest) k) goes
    ∙ free text k (λ i low. h (suc i) (omega (arith, low))) (omega (arith, lt)) rest

after_free : (text rest : List ℕ) (k : ℕ) → Lacks 0x1B text →
    in_stretch false (text ++ rest) (length text + k) ≡ in_stretch false rest k
after_free [] rest k h =
    let same : 0 + k ≡ k = omega arith in
    ap (in_stretch false rest) same
after_free (b ∷ text) rest k h =
    let goes : is_within_after false b ≡ false = ne_eqb b 0x1B (h 0 (omega arith)) in
    let same : length (b ∷ text) + k ≡ suc (length text + k) = omega arith in
    ap (in_stretch false (b ∷ text ++ rest)) same
    ∙ ap (λ within. in_stretch within (text ++ rest) (length text + k)) goes
    ∙ after_free text rest k (λ i low. h (suc i) (omega (arith, low)))

-- Pieces that begin at byte `at` or later contain no earlier byte.
none_before : (capture : List ℕ) (at k : ℕ) (pieces : List Piece) →
    AreApart capture at pieces → k < at → ¬ (IsInSome k pieces)
none_before capture at k [] apart lt h = h
none_before capture at k (piece ∷ pieces) apart lt (inl h) = absurd (omega (arith, apart.1, lt, h.0))
none_before capture at k (piece ∷ pieces) apart lt (inr h) =
    none_before capture (piece_end piece + 1) k pieces apart.2 (omega (arith, apart.1, lt)) h

apart_later : (capture : List ℕ) (at low : ℕ) (pieces : List Piece) →
    low ≤ at → AreApart capture at pieces → AreApart capture low pieces
apart_later capture at low [] le apart = tt
apart_later capture at low (piece ∷ pieces) le apart = (apart.0, omega (arith, le, apart.1), apart.2)

-- If a text inside an SGR sequence begins with `m`, its pieces are those of the text after the `m`.
covers_end : (at : ℕ) (text : List ℕ) (pieces : List Piece) (capture : List ℕ) →
    AreApart capture (at + 1) pieces → Covers false (at + 1) text pieces → Covers true at (0x6D ∷ text) pieces
covers_end at text pieces capture apart covers zero lt =
    (λ h. absurd (none_before capture (at + 1) (at + 0) pieces apart (omega arith) h), λ e. absurd (true≢false e))
covers_end at text pieces capture apart covers (suc k) lt =
    let same : at + suc k ≡ at + 1 + k = omega arith in
    rw same (covers k (omega (arith, lt)))

covers_within : (at b : ℕ) (text : List ℕ) (pieces : List Piece) (capture : List ℕ) → ends_stretch b ≡ false →
    AreApart capture (at + 1) pieces → Covers true (at + 1) text pieces → Covers true at (b ∷ text) pieces
covers_within at b text pieces capture goes apart covers zero lt =
    (λ h. absurd (none_before capture (at + 1) (at + 0) pieces apart (omega arith) h), λ e. absurd (true≢false e))
covers_within at b text pieces capture goes apart covers (suc k) lt =
    let same : at + suc k ≡ at + 1 + k = omega arith in
    rw (same, goes) (covers k (omega (arith, lt)))

one_piece : (capture : List ℕ) (at : ℕ) (piece rest : List ℕ) → drop at capture ≡ piece ++ rest → (later : List Piece) →
    AreApart capture (at + length piece + 1) later → AreApart capture at (piece_at at piece ++ later)
one_piece capture at [] rest e later apart = apart_later capture (at + 0 + 1) at later (omega arith) apart
one_piece capture at (b ∷ piece) rest e later apart = (
  ((λ none. omega (arith, ap length none)), ap (take (length (b ∷ piece))) e ∙ take-append_seam (b ∷ piece) rest),
  omega arith,
  apart,
)

in_one : (at k : ℕ) (piece : List ℕ) (later : List Piece) →
    k < length piece → IsInSome (at + k) (piece_at at piece ++ later)
in_one at k [] later lt = absurd (omega (arith, lt))
in_one at k (b ∷ piece) later lt = inl (omega arith, omega (arith, lt))

not_in_one : (at k : ℕ) (piece : List ℕ) (later : List Piece) →
    IsInSome (at + (length piece + k)) (piece_at at piece ++ later) ↔ IsInSome (at + (length piece + k)) later
not_in_one at k [] later = (λ h. h, λ h. h)
not_in_one at k (b ∷ piece) later = (to, λ h. inr h) where
  to : IsInSome (at + (length (b ∷ piece) + k)) ((at, b ∷ piece) ∷ later) →
      IsInSome (at + (length (b ∷ piece) + k)) later
  to (inl h) = absurd (omega (arith, h.1))
  to (inr h) = h

-- Byte k is before byte n, at it, or after it.
abbrev pub Place : ℕ → ℕ → Type 0
Place k n = (k < n) ⊎ ((k ≡ n + 0) ⊎ ((j : ℕ) × (k ≡ n + suc j)))

pub place : (k n : ℕ) → Place k n
place zero zero = inr (inl (omega arith))
place (suc k) zero = inr (inr (k, omega arith))
place zero (suc n) = inl (omega arith)
place (suc k) (suc n) = by (place k n) where
  by : Place k n → Place (suc k) (suc n)
  by (inl low) = inl (omega (arith, low))
  by (inr (inl e)) = inr (inl (omega (arith, e)))
  by (inr (inr j)) = inr (inr (j.0, omega (arith, j.1)))

-- The pieces of a text without ESC, then an ESC, then text inside an SGR sequence: a piece for the first part, followed
-- by the pieces of the last part.
covers_begin : (capture : List ℕ) (at : ℕ) (piece text : List ℕ) (later : List Piece) → Lacks 0x1B piece →
    AreApart capture (at + length piece + 1) later → Covers true (at + length piece + 1) text later →
    Covers false at (piece ++ 0x1B ∷ text) (piece_at at piece ++ later)
covers_begin capture at piece text later lacks apart covers k lt = by (place k (length piece)) where
  esc : IsInSome (at + (length piece + 0)) (piece_at at piece ++ later) →
      in_stretch false (piece ++ 0x1B ∷ text) (length piece + 0) ≡ false
  esc h =
      absurd (none_before capture (at + length piece + 1) (at + (length piece + 0))
      later apart (omega arith) ((not_in_one at 0 piece later).0 h))

  here : in_stretch false (piece ++ 0x1B ∷ text) (length piece + 0) ≡ true
  here = after_free piece (0x1B ∷ text) 0 lacks

  behind : (j : ℕ) → k ≡ length piece + suc j →
      IsInSome (at + k) (piece_at at piece ++ later) ↔ (in_stretch false (piece ++ 0x1B ∷ text) k ≡ false)
  behind j e =
      let same : at + (length piece + suc j) ≡ at + length piece + 1 + j = omega arith in
      let inside : j < length text = omega (arith, lt, e, length-append piece (0x1B ∷ text)) in
      let flag = after_free piece (0x1B ∷ text) (suc j) lacks in
      let parts = not_in_one at (suc j) piece later in
      let ih = covers j inside in
      rw e (λ h. flag ∙ ih.0 (rw same at (parts.0 h)), λ f. parts.1 (rw same (ih.1 (sym flag ∙ f))))

  by : Place k (length piece) →
      IsInSome (at + k) (piece_at at piece ++ later) ↔ (in_stretch false (piece ++ 0x1B ∷ text) k ≡ false)
  by (inl low) = (λ h. free piece k lacks low (0x1B ∷ text), λ e. in_one at k piece later low)
  by (inr (inl e)) = rw e (esc, λ f. absurd (true≢false (sym here ∙ f)))
  by (inr (inr j)) = behind j.0 j.1

-- The text is the capture without its first `at` bytes.
abbrev pub StandsAt : List ℕ → ℕ → List ℕ → Type 0
StandsAt capture at text = drop at capture ≡ text

pub stands_later : (capture : List ℕ) (at : ℕ) (front rest : List ℕ) (n : ℕ) →
    StandsAt capture at (front ++ rest) → n ≡ at + length front → StandsAt capture n rest
stands_later capture at front rest n e same =
    rw same (sym (drop-drop (length front) at capture) ∙ ap (drop (length front)) e ∙ drop-append_seam front rest)

record Good (capture : List ℕ) (within : Bool) (at : ℕ) (text : List ℕ) (pieces : List Piece) : Type 0 where
  apart : AreApart capture at pieces
  covers : Covers within at text pieces

good_end : (capture : List ℕ) (at : ℕ) (piece : List ℕ) → StandsAt capture at (piece ++ []) →
    Lacks 0x1B piece → Good capture false at (piece ++ []) (piece_at at piece)
good_end capture at piece e lacks =
    let only : piece_at at piece ++ [] ≡ piece_at at piece = append-nil (piece_at at piece) in
    rw (append-nil piece) (record {
      apart = subst (AreApart capture at) only (one_piece capture at piece [] e [] tt);
      covers = λ k lt. (
        (λ h. rw (append-nil piece) at (free piece k lacks lt [])),
        λ f. subst (IsInSome (at + k)) only (in_one at k piece [] lt),
      );
    })

begin_differs : (b : ℕ) → begins_stretch b ≡ false → b ≢ 0x1B
begin_differs b e same = grind (arith, nat_tests)

-- One more byte extends the piece, or begins or ends an SGR sequence.
module _ (capture : List ℕ) (at b : ℕ) (piece text : List ℕ)
    (stands : StandsAt capture at (piece ++ b ∷ text)) (lacks : Lacks 0x1B piece) where
  abbrev Longer : Type 0
  Longer = b ≢ 0x1B → Good capture false at ((piece ++ b ∷ []) ++ text) (pieces_after at (piece ++ b ∷ []) text)

  abbrev Later : Type 0
  Later = Good capture true (at + length piece + 1) text (pieces_within (at + length piece + 1) text)

  good_byte : (begins : Bool) → begins ≡ begins_stretch b → Later → Longer →
      Good capture false at (piece ++ b ∷ text) (pieces_after at piece (b ∷ text))
  good_byte true same later longer =
      let esc : b ≡ 0x1B = eqb-true b 0x1B (sym same) in
      rw esc (record {
        apart = one_piece capture at piece (b ∷ text) stands _ later.apart;
        covers = covers_begin capture at piece text _ lacks later.apart later.covers;
      })
  good_byte false same later longer =
      let more = longer (begin_differs b (sym same)) in
      rw (sym same) (rw (append_assoc piece (b ∷ []) text) at more)

  stands_more : StandsAt capture at ((piece ++ b ∷ []) ++ text)
  stands_more = stands ∙ sym (append_assoc piece (b ∷ []) text)

  stands_after : StandsAt capture (at + length piece + 1) text
  stands_after =
      let seam : length (piece ++ b ∷ []) ≡ length piece + 1 = length-append piece (b ∷ []) in
      stands_later capture at (piece ++ b ∷ []) text (at + length piece + 1) stands_more (omega (arith, seam))

good_in : (capture : List ℕ) (at b : ℕ) (text : List ℕ) (ends : Bool) → ends ≡ ends_stretch b
    → Good capture false (at + 1) text (pieces_after (at + 1) [] text)
    → Good capture true (at + 1) text (pieces_within (at + 1) text)
    → Good capture true at (b ∷ text) (pieces_within at (b ∷ text))
good_in capture at b text true same outside inside =
    let last : b ≡ 0x6D = eqb-true b 0x6D (sym same) in
    rw last (record {
      apart = apart_later capture (at + 1) at _ (omega arith) outside.apart;
      covers = covers_end at text _ capture outside.apart outside.covers;
    })
good_in capture at b text false same outside inside =
    rw (sym same) (record {
      apart = apart_later capture (at + 1) at _ (omega arith) inside.apart;
      covers = covers_within at b text _ capture (sym same) inside.apart inside.covers;
    })

mutual
  good_after : (capture : List ℕ) (at : ℕ) (piece text : List ℕ) → StandsAt capture at (piece ++ text) →
      Lacks 0x1B piece → Good capture false at (piece ++ text) (pieces_after at piece text)
  good_after capture at piece [] e lacks = good_end capture at piece e lacks
  good_after capture at piece (b ∷ text) e lacks =
      good_byte capture at b piece text e lacks (begins_stretch b) refl
      (good_within capture (at + length piece + 1) text (stands_after capture at b piece text e lacks))
      (λ ne. good_after capture at (piece ++ b ∷ []) text
      (stands_more capture at b piece text e lacks) (lacks_more 0x1B b piece lacks ne))

  good_within : (capture : List ℕ) (at : ℕ) (text : List ℕ) →
      StandsAt capture at text → Good capture true at text (pieces_within at text)
  good_within capture at [] e = record { apart = tt; covers = λ k lt. absurd (omega (arith, lt)) }
  good_within capture at (b ∷ text) e =
      let next = stands_later capture at (b ∷ []) text (at + 1) e (omega arith) in
      good_in capture at b text (ends_stretch b) refl
      (good_after capture (at + 1) [] text next (λ i lt. absurd (omega (arith, lt))))
      (good_within capture (at + 1) text next)

-- The test for being inside an SGR sequence agrees with the definition by indices.
in_places : (text : List ℕ) (k : ℕ) → k < length text → (in_stretch false text k ≡ false) ↔ ¬ (IsInStretch text k)
in_places text k lt = (
  λ e s. true≢false (sym (tells false text k (omega (arith, lt)) (inl s)) ∙ e),
  λ none. by (in_stretch false text k) refl none,
) where
  by : (b : Bool) → b ≡ in_stretch false text k → ¬ (IsInStretch text k) → b ≡ false
  by false e none = refl
  by true e none = absurd (within (told false text k (omega (arith, lt)) (sym e))) where
    within : IsInStretch text k ⊎ ((false ≡ true) × NoEnd text k) → ⊥
    within (inl s) = none s
    within (inr s) = true≢false (sym s.0)

-- A text ends inside an SGR sequence exactly if `in_stretch` holds for the index after its last byte.
at_end : (within : Bool) (text : List ℕ) → in_stretch within text (length text) ≡ fold is_within_after within text
at_end within [] = refl
at_end within (b ∷ text) = at_end (is_within_after within b) text

pub within_by_places : (text : List ℕ) → (ends_within text ≡ true) ↔ IsInStretch text (length text)
within_by_places text = (
  λ e. by (told false text (length text) (omega arith) (at_end false text ∙ e)),
  λ s. sym (at_end false text) ∙ tells false text (length text) (omega arith) (inl s),
) where
  by : IsInStretch text (length text) ⊎ ((false ≡ true) × NoEnd text (length text)) → IsInStretch text (length text)
  by (inl s) = s
  by (inr s) = absurd (true≢false (sym s.0))

pub pieces_are : (capture : List ℕ) → ArePiecesOf capture (pieces_from 0 capture)
pieces_are capture =
    let good = good_after capture 0 [] capture refl (λ i lt. absurd (omega (arith, lt))) in
    record {
      apart = good.apart;
      plain = λ k lt.
          let zero_on : 0 + k ≡ k = omega arith in
          let here = rw zero_on at (good.covers k lt) in
          let places = in_places capture k lt in
          (λ h. places.0 (here.0 h), λ none. here.1 (places.1 none));
    }

-- Joining the text of a piece with the texts of later pieces gives the piece followed by the joined later texts.
joined_piece : (at : ℕ) (piece : List ℕ) (later : List Piece) →
    concat (texts_of (piece_at at piece ++ later)) ≡ piece ++ concat (texts_of later)
joined_piece at [] later = refl
joined_piece at (b ∷ piece) later = refl

byte_kept : (at b : ℕ) (piece text : List ℕ) (begins : Bool) → begins ≡ begins_stretch b
    → concat (texts_of (pieces_within (at + length piece + 1) text)) ≡ plain_from true text
    → concat (texts_of (pieces_after at (piece ++ b ∷ []) text)) ≡ (piece ++ b ∷ []) ++ plain_from false text
    → concat (texts_of (pieces_after at piece (b ∷ text))) ≡ piece ++ plain_from false (b ∷ text)
byte_kept at b piece text true same later longer =
    rw (sym same) (joined_piece at piece _ ∙ ap (λ rest. piece ++ rest) later)
byte_kept at b piece text false same later longer =
    rw (sym same) (longer ∙ append_assoc piece (b ∷ []) (plain_from false text))

byte_left : (at b : ℕ) (text : List ℕ) (ends : Bool) → ends ≡ ends_stretch b
    → concat (texts_of (pieces_after (at + 1) [] text)) ≡ plain_from false text
    → concat (texts_of (pieces_within (at + 1) text)) ≡ plain_from true text
    → concat (texts_of (pieces_within at (b ∷ text))) ≡ plain_from true (b ∷ text)
byte_left at b text true same outside inside = rw (sym same) outside
byte_left at b text false same outside inside = rw (sym same) inside

mutual
  joined_after : (at : ℕ) (piece text : List ℕ) →
      concat (texts_of (pieces_after at piece text)) ≡ piece ++ plain_from false text
  joined_after at piece [] =
      ap (λ only. concat (texts_of only)) (sym (append-nil (piece_at at piece))) ∙ joined_piece at piece []
  joined_after at piece (b ∷ text) =
      byte_kept at b piece text (begins_stretch b) refl
      (joined_within (at + length piece + 1) text) (joined_after at (piece ++ b ∷ []) text)

  joined_within : (at : ℕ) (text : List ℕ) → concat (texts_of (pieces_within at text)) ≡ plain_from true text
  joined_within at [] = refl
  joined_within at (b ∷ text) =
      byte_left at b text (ends_stretch b) refl (joined_after (at + 1) [] text) (joined_within (at + 1) text)

pub pieces_joined : (capture : List ℕ) → concat (texts_of (pieces_from 0 capture)) ≡ without_stretches capture
pieces_joined capture = joined_after 0 [] capture

-- The pieces that an iterator over a whole capture has yet to return are the pieces of the capture.
pub whole_are : (capture : List ℕ) (len : ℕ) → len ≡ length capture →
    ArePiecesOf capture (pieces_from (len - length capture) capture)
whole_are capture len e =
    let none : len - length capture ≡ 0 = omega (arith, e) in
    rw none (pieces_are capture)

pub whole_joined : (capture : List ℕ) (len : ℕ) → len ≡ length capture →
    concat (texts_of (pieces_from (len - length capture) capture)) ≡ without_stretches capture
whole_joined capture len e =
    let none : len - length capture ≡ 0 = omega (arith, e) in
    rw none (pieces_joined capture)
