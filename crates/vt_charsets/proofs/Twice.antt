-- Translating a translation again changes nothing.
use Rattle.std.proofs.Common.{rules, arith, zero, suc, ◌≡◌, ◌∙◌, ap, refl, sym, subst, ℕ, ◌<◌, ◌≤◌, ◌-◌, Bool, true, false, nat_le, nat_lt, ◌==◌, ◌||◌, List, [], ◌∷◌, ◌++◌, length, cond, slice_index_or}
use Rattle.std.specs.List.{AllByRecursion}
use Rattle.std.proofs.lemmas.Bool.Decides.{nat_tests}
use Rattle.vt_scan.specs.Table.{class_of, transition_of}
use Rattle.vt_scan.specs.declared.table.Class.{Class}
use Rattle.vt_scan.specs.declared.table.Kind.{Kind}
use Rattle.vt_scan.specs.declared.table.Kind.TheVariants.{Ground}
use Rattle.vt_charsets.proofs.Joined.{reading_cut, translation_cut}
use Rattle.vt_charsets.proofs.Parsed.{Replaces, by_test, replaces, split_test}
use Rattle.vt_charsets.specs.Sets.{after_character}
use Rattle.vt_charsets.specs.Translation.{Reading, glyphs, next_reading, output_of, reading_after, reading_by, translation}
use Rattle.vt_charsets.specs.declared.sets.CharsetState.{CharsetState}

-- The reading in the ground state.
abbrev in_ground : List ℕ → CharsetState → Reading
in_ground text d = record { kind = Ground; collected = text; state = d }

-- ==== The characters of DEC Special Graphics are written as they are.

-- In the ground state, the bytes are written as they are, and they change the character sets as a character does.
record IsPrinted (bytes : List ℕ) : Type 0 where
  reading : (text : List ℕ) (d : CharsetState) → reading_after (in_ground text d) bytes ≡ in_ground [] (after_character d)
  output : (text : List ℕ) (d : CharsetState) → translation (in_ground text d) bytes ≡ bytes

all_printed : AllByRecursion IsPrinted glyphs
unfolding class_of
all_printed = search rules

entry_is : (xs : List (List ℕ)) (i : ℕ) → AllByRecursion IsPrinted xs → i < length xs → IsPrinted (slice_index_or xs i [])
entry_is [] i h inside = absurd (let no : i < 0 = inside in omega arith)
entry_is (x ∷ xs) zero (p, q) inside = p
entry_is (x ∷ xs) (suc i) (p, q) inside = entry_is xs i q (omega (arith, inside))

either : (P : Class → Type 0) (t : Bool) (x y : Class) → P x → P y → P (cond t x y)
either P true x y p q = p
either P false x y p q = q

-- A byte of DEC Special Graphics is a character in the ground state.
drawn_reading : (text : List ℕ) (d : CharsetState) (b : ℕ) → nat_le 0x5F b ≡ true → nat_lt b 0x7F ≡ true →
    next_reading (in_ground text d) b ≡ in_ground [] (after_character d)
unfolding class_of
drawn_reading text d b low high =
    let P : Class → Type 0 = λ c. reading_by (in_ground text d) b (transition_of Ground c) ≡ in_ground [] (after_character d) in
    let t1 : nat_lt b 0x20 ≡ false = grind (arith, nat_tests, low) in
    let t2 : nat_lt b 0x30 ≡ false = grind (arith, nat_tests, low) in
    let t3 : nat_lt b 0x3C ≡ false = grind (arith, nat_tests, low) in
    let t4 : nat_lt b 0x40 ≡ false = grind (arith, nat_tests, low) in
    rw t1 (rw t2 (rw t3 (rw t4 (rw high
    (either P (b == 0x5B) _ _ refl
    (either P (b == 0x5D) _ _ refl
    (either P (b == 0x50 || (b == 0x58 || (b == 0x5E || b == 0x5F))) _ _ refl refl)))))))

-- ==== One byte.

-- The output for a byte is translated to itself, and leads to the same reading as the byte.
record IsTwice (r : Reading) (b : ℕ) (bytes : List ℕ) : Type 0 where
  reading : reading_after r bytes ≡ next_reading r b
  output : translation r bytes ≡ bytes

replaced : (kind : Kind) (text : List ℕ) (d : CharsetState) (b : ℕ) → Replaces kind d b →
    IsTwice (record { kind = kind; collected = text; state = d }) b (slice_index_or glyphs (b - 0x5F) [])
replaced kind text d b is =
    let low : 0x5F ≤ b = grind (arith, nat_tests, is.low) in
    let high : b < 0x7F = grind (arith, nat_tests, is.high) in
    let printed : IsPrinted (slice_index_or glyphs (b - 0x5F) []) = entry_is glyphs (b - 0x5F) all_printed (omega (arith, low, high)) in
    subst (λ (k : Kind). IsTwice (record { kind = k; collected = text; state = d }) b (slice_index_or glyphs (b - 0x5F) []))
    (sym is.ground)
    (record {
      reading = printed.reading text d ∙ sym (drawn_reading text d b is.low is.high);
      output = printed.output text d;
    })

kept : (r : Reading) (b : ℕ) → replaces r.kind r.state b ≡ false → IsTwice r b (b ∷ [])
kept r b none = record {
  reading = refl;
  output = ap (λ (t : Bool). cond t (slice_index_or glyphs (b - 0x5F) []) (b ∷ []) ++ []) none;
}

one_byte : (r : Reading) (b : ℕ) → IsTwice r b (output_of r.kind r.state b)
one_byte r b =
    by_test (replaces r.kind r.state b) (IsTwice r b) (slice_index_or glyphs (b - 0x5F) []) (b ∷ [])
    (λ t. replaced r.kind r.collected r.state b (split_test r.kind r.state b _ _ _ _ refl refl refl refl t))
    (λ f. kept r b f)

-- ==== Whole input.

pub reading_twice : (r : Reading) (bytes : List ℕ) → reading_after r (translation r bytes) ≡ reading_after r bytes
reading_twice r [] = refl
reading_twice r (b ∷ bytes) =
    let first = output_of r.kind r.state b in
    let rest = translation (next_reading r b) bytes in
    reading_cut r first rest
    ∙ ap (λ (n : Reading). reading_after n rest) (one_byte r b).reading
    ∙ reading_twice (next_reading r b) bytes

pub translation_twice : (r : Reading) (bytes : List ℕ) → translation r (translation r bytes) ≡ translation r bytes
translation_twice r [] = refl
translation_twice r (b ∷ bytes) =
    let first = output_of r.kind r.state b in
    let rest = translation (next_reading r b) bytes in
    translation_cut r first rest
    ∙ ap (λ (l : List ℕ). l ++ translation (reading_after r first) rest) (one_byte r b).output
    ∙ ap (λ (n : Reading). first ++ translation n rest) (one_byte r b).reading
    ∙ ap (λ (l : List ℕ). first ++ l) (translation_twice (next_reading r b) bytes)
