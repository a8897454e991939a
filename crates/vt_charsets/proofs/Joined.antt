-- The translation of joined input, and how the loop continues.
use Rattle.std.proofs.Common.{◌≡◌, ◌∙◌, ap, refl, sym, subst, ℕ, List, [], ◌∷◌, ◌++◌, take, drop}
use Rattle.std.specs.List.{AllByRecursion}
use Rattle.std.proofs.lemmas.List.{append_assoc, append-nil, take-append-drop}
use Rattle.vt_charsets.specs.Charsets.{CharsetsValue, KeepsByte, StandsFor, Steps, Translates}
use Rattle.vt_charsets.specs.Translation.{Reading, next_reading, output_of, reading_after, translation}

pub translation_cut : (r : Reading) (a b : List ℕ) → translation r (a ++ b) ≡ translation r a ++ translation (reading_after r a) b
translation_cut r [] b = refl
translation_cut r (x ∷ a) b =
    ap (λ t. output_of r.kind r.state x ++ t) (translation_cut (next_reading r x) a b)
    ∙ sym (append_assoc (output_of r.kind r.state x) (translation (next_reading r x) a) (translation (reading_after (next_reading r x) a) b))

pub reading_cut : (r : Reading) (a b : List ℕ) → reading_after r (a ++ b) ≡ reading_after (reading_after r a) b
reading_cut r [] b = refl
reading_cut r (x ∷ a) b = reading_cut (next_reading r x) a b

-- ==== One byte, and bytes that are kept.

pub translated_one : (old new : CharsetsValue) (b : ℕ) (before after : List ℕ) → Steps old b new →
    after ≡ before ++ output_of old.kind old.state b → Translates old (b ∷ []) new before after
translated_one old new b before after steps wrote = λ r s. record {
  stands = steps r s;
  output = wrote
      ∙ ap (λ k. before ++ output_of k old.state b) s.kind
      ∙ ap (λ d. before ++ output_of r.kind d b) s.state
      ∙ ap (λ (l : List ℕ). before ++ l) (sym (append-nil (output_of r.kind r.state b)));
}

kept_reading : (held : CharsetsValue) (bytes : List ℕ) (r : Reading) → StandsFor held r →
    AllByRecursion (KeepsByte held) bytes → reading_after r bytes ≡ r
kept_reading held [] r s h = refl
kept_reading held (b ∷ bytes) r s (p, q) =
    ap (λ (n : Reading). reading_after n bytes) (p r s).reading ∙ kept_reading held bytes r s q

kept_output : (held : CharsetsValue) (bytes : List ℕ) (r : Reading) → StandsFor held r →
    AllByRecursion (KeepsByte held) bytes → translation r bytes ≡ bytes
kept_output held [] r s h = refl
kept_output held (b ∷ bytes) r s (p, q) =
    ap (λ (l : List ℕ). l ++ translation (next_reading r b) bytes) (p r s).output
    ∙ ap (λ (n : Reading). b ∷ translation n bytes) (p r s).reading
    ∙ ap (λ (l : List ℕ). b ∷ l) (kept_output held bytes r s q)

pub translated_kept : (held : CharsetsValue) (bytes before after : List ℕ) → AllByRecursion (KeepsByte held) bytes →
    after ≡ before ++ bytes → Translates held bytes held before after
translated_kept held bytes before after keeps wrote = λ r s. record {
  stands = subst (λ (n : Reading). StandsFor held n) (sym (kept_reading held bytes r s keeps)) s;
  output = wrote ∙ ap (λ (l : List ℕ). before ++ l) (sym (kept_output held bytes r s keeps));
}

-- ==== The loop: the translation of the remaining bytes completes that of all bytes.

pub translated_then : (old mid new : CharsetsValue) (a b before between after : List ℕ) →
    Translates old a mid before between → Translates mid b new between after → Translates old (a ++ b) new before after
translated_then old mid new a b before between after first second = λ r s.
    let t = first r s in
    let u = second (reading_after r a) t.stands in
    record {
      stands = subst (λ (n : Reading). StandsFor new n) (sym (reading_cut r a b)) u.stands;
      output = u.output
          ∙ ap (λ (l : List ℕ). l ++ translation (reading_after r a) b) t.output
          ∙ append_assoc before (translation r a) (translation (reading_after r a) b)
          ∙ ap (λ (l : List ℕ). before ++ l) (sym (translation_cut r a b));
    }

abbrev pub Left : CharsetsValue → List ℕ → List ℕ → CharsetsValue → List ℕ → List ℕ → Type 0
Left first bytes before held sofar rest =
    (end : CharsetsValue) (after : List ℕ) → Translates held rest end sofar after → Translates first bytes end before after

pub left_all : (h : CharsetsValue) (bytes before : List ℕ) → Left h bytes before h before bytes
left_all h bytes before end after t = t

pub left_none : (first held : CharsetsValue) (bytes before sofar : List ℕ) → Left first bytes before held sofar [] →
    Translates first bytes held before sofar
left_none first held bytes before sofar left =
    left held sofar (λ r s. record { stands = s; output = sym (append-nil sofar) })

pub left_on : (first held new : CharsetsValue) (bytes before sofar more rest : List ℕ) (n : ℕ) →
    Left first bytes before held sofar rest → Translates held (take n rest) new sofar more →
    Left first bytes before new more (drop n rest)
left_on first held new bytes before sofar more rest n left some end after t =
    left end after (subst (λ (l : List ℕ). Translates held l end sofar after) (take-append-drop n rest)
    (translated_then held new end (take n rest) (drop n rest) sofar more after some t))
