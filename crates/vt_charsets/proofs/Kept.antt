-- A byte that is kept in the ground state.
use Rattle.std.proofs.Common.{◌≡◌, ◌∙◌, ap, refl, sym, ℕ, Bool, true, false, ◌==◌, ◌&&◌, ◌||◌, not, nat_le, nat_lt, List, [], ◌∷◌, cond, Option, None, ◌-◌, slice_index_or}
use Rattle.std.specs.List.{AllByRecursion}
use Rattle.std.proofs.lemmas.Bool.{false≢true}
use Rattle.vt_scan.specs.Table.{class_of, transition_of}
use Rattle.vt_scan.specs.declared.table.Kind.{Kind}
use Rattle.vt_scan.specs.declared.table.Kind.TheVariants.{Ground}
use Rattle.vt_scan.specs.declared.table.Class.{Class}
use Rattle.vt_charsets.specs.Charsets.{CharsetsValue, KeepsByte}
use Rattle.vt_charsets.specs.Internals.{is_kept}
use Rattle.vt_charsets.specs.Sets.{after_control, after_character}
use Rattle.vt_charsets.specs.Translation.{Reading, glyphs, is_drawing, next_reading, reading_by}
use Rattle.vt_charsets.specs.declared.sets.CharsetState.{CharsetState}
use Rattle.vt_charsets.specs.declared.sets.Slot.{Slot}

either : {A : Type 0} (P : A → Type 0) (t : Bool) (x y : A) → P x → P y → P (cond t x y)
either P true x y p q = p
either P false x y p q = q

-- The reading of the ground state with nothing collected.
abbrev at : CharsetState → Reading
at d = record { kind = Ground; collected = []; state = d }

-- Each class of bytes but ESC leaves the ground state, and only SO and SI change its character sets.
kept_class : (d : CharsetState) (b : ℕ) → d.single ≡ None → (b == 0x0E) ≡ false → (b == 0x0F) ≡ false → (b == 0x1B) ≡ false →
    reading_by (at d) b (transition_of Ground (class_of b)) ≡ at d
unfolding class_of after_control
kept_class d b single so si esc =
    let P : Class → Type 0 = λ c. reading_by (at d) b (transition_of Ground c) ≡ at d in
    let printed : at (after_character d) ≡ at d = ap (λ (o : Option Slot). at (record d { single = o })) (sym single) in
    let executed : at (after_control d b) ≡ at d = rw (so, si) refl in
    rw esc (
    either P (nat_lt b 0x20) _ _ (either P (b == 0x07) _ _ executed (either P (b == 0x18 || b == 0x1A) _ _ refl executed))
    (either P (nat_lt b 0x30) _ _ printed
    (either P (nat_lt b 0x3C) _ _ printed
    (either P (nat_lt b 0x40) _ _ printed
    (either P (nat_lt b 0x7F) _ _
    (either P (b == 0x5B) _ _ printed
    (either P (b == 0x5D) _ _ printed
    (either P (b == 0x50 || (b == 0x58 || (b == 0x5E || b == 0x5F))) _ _ printed printed)))
    (either P (b == 0x7F) _ _ printed printed))))))

-- ==== What the test of a byte says.

left_false : (x y : Bool) → (not x && y) ≡ true → x ≡ false
left_false true y e = sym e
left_false false y e = refl

rest_true : (x y : Bool) → (x && y) ≡ true → y ≡ true
rest_true true y e = e
rest_true false true e = refl
rest_true false false e = e

unreplaced : (drawing low high : Bool) (glyph own : List ℕ) → not (drawing && (low && high)) ≡ true →
    cond (low && (high && drawing)) glyph own ≡ own
unreplaced true true true glyph own e = absurd (false≢true e)
unreplaced false true true glyph own e = refl
unreplaced drawing true false glyph own e = refl
unreplaced drawing false high glyph own e = refl

keeps_byte : (held : CharsetsValue) (drawing : Bool) (b : ℕ) → held.kind ≡ Ground → held.state.single ≡ None →
    drawing ≡ is_drawing held.kind held.state → is_kept drawing b ≡ true → KeepsByte held b
keeps_byte held drawing b ground single draws kept = λ r s.
    let after_so = rest_true (not (b == 0x0E)) _ kept in
    let after_si = rest_true (not (b == 0x0F)) _ after_so in
    let after_esc = rest_true (not (b == 0x1B)) _ after_si in
    let same : r ≡ at r.state =
    ap (λ (k : Kind). record { kind = k; collected = r.collected; state = r.state }) (sym s.kind ∙ ground)
    ∙ ap (λ (l : List ℕ). record { kind = Ground; collected = l; state = r.state }) (s.fresh ground) in
    let drawn : is_drawing r.kind r.state ≡ drawing =
    ap (λ (k : Kind). is_drawing k r.state) (sym s.kind)
    ∙ ap (λ (d : CharsetState). is_drawing held.kind d) (sym s.state) ∙ sym draws in
    record {
      reading = ap (λ (n : Reading). next_reading n b) same
          ∙ kept_class r.state b (ap (λ (d : CharsetState). d.single) (sym s.state) ∙ single)
          (left_false (b == 0x0E) _ kept) (left_false (b == 0x0F) _ after_so) (left_false (b == 0x1B) _ after_si)
          ∙ sym same;
      output = ap (λ (d : Bool). cond (nat_le 0x5F b && (nat_lt b 0x7F && d)) (slice_index_or glyphs (b - 0x5F) []) (b ∷ [])) drawn
          ∙ unreplaced drawing (nat_le 0x5F b) (nat_lt b 0x7F) (slice_index_or glyphs (b - 0x5F) []) (b ∷ []) after_esc;
    }

pub all_kept : (held : CharsetsValue) (drawing : Bool) (bytes : List ℕ) → held.kind ≡ Ground → held.state.single ≡ None →
    drawing ≡ is_drawing held.kind held.state → AllByRecursion (λ b. is_kept drawing b ≡ true) bytes →
    AllByRecursion (KeepsByte held) bytes
all_kept held drawing [] ground single draws h = tt
all_kept held drawing (b ∷ bytes) ground single draws (p, q) =
    (keeps_byte held drawing b ground single draws p, all_kept held drawing bytes ground single draws q)
