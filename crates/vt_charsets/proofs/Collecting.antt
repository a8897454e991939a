-- A byte of a sequence is collected.
use Rattle.std.proofs.Common.{◌≡◌, ◌≢◌, ◌∙◌, ap, refl, sym, subst, ℕ, List, [], ◌∷◌, ◌++◌, inl, inr}
use Rattle.vt_scan.specs.Automaton.{parameter_text, intermediates_of}
use Rattle.vt_scan.specs.Internals.{Fits, InSequence}
use Rattle.vt_scan.specs.Parameters.{table_of}
use Rattle.vt_scan.specs.declared.table.Kind.{Kind}
use Rattle.vt_scan.specs.declared.table.Kind.TheVariants.{Ground, Escape, EscapeIntermediate, CsiEntry, CsiParam, CsiIntermediate, CsiIgnore, OscString, Skip}
use Rattle.vt_scan.specs.declared.table.Transition.TheVariants.{Collect}
use Rattle.vt_charsets.specs.Charsets.{CharsetsValue, StandsFor}
use Rattle.vt_charsets.specs.Translation.{Reading, collected_after, reading_by}

-- Outside of a command, a byte that is collected does not lead to the ground state.
enters_sequence : (old new : Kind) → Fits old (Collect new) → old ≢ OscString → new ≢ Ground
enters_sequence old new (inl both) other ground = subst InSequence ground both.1
enters_sequence old new (inr both) other ground = absurd (other both.0)

collected_outside : (kind : Kind) (text : List ℕ) (b : ℕ) → kind ≢ OscString → text ++ b ∷ [] ≡ collected_after kind text b
collected_outside Ground text b other = refl
collected_outside Escape text b other = refl
collected_outside EscapeIntermediate text b other = refl
collected_outside CsiEntry text b other = refl
collected_outside CsiParam text b other = refl
collected_outside CsiIntermediate text b other = refl
collected_outside CsiIgnore text b other = refl
collected_outside OscString text b other = absurd (other refl)
collected_outside Skip text b other = refl

pub stands_collected : (held new : CharsetsValue) (kind : Kind) (b : ℕ) → Fits held.kind (Collect kind) →
    held.kind ≢ OscString → new.kind ≡ kind → new.state ≡ held.state →
    ((text : List ℕ) → held.table ≡ table_of (parameter_text text) → new.table ≡ table_of (parameter_text (text ++ b ∷ []))) →
    ((text : List ℕ) → held.intermediates ≡ intermediates_of text → new.intermediates ≡ intermediates_of (text ++ b ∷ [])) →
    (r : Reading) → StandsFor held r → StandsFor new (reading_by r b (Collect kind))
stands_collected held new kind b fits other enters same table intermediates r s =
    let all : r.collected ++ b ∷ [] ≡ collected_after r.kind r.collected b =
    collected_outside r.kind r.collected b (λ e. other (s.kind ∙ e)) in
    record {
      kind = enters;
      table = table r.collected s.table ∙ ap (λ (l : List ℕ). table_of (parameter_text l)) all;
      intermediates = intermediates r.collected s.intermediates ∙ ap intermediates_of all;
      state = same ∙ s.state;
      fresh = λ ground. absurd (enters_sequence held.kind kind fits other (sym enters ∙ ground));
    }
