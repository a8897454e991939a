-- The length of a translation.
use Rattle.std.proofs.Common.{arith, rules, zero, suc, ◌≡◌, ℕ, ◌≤◌, ◌+◌, ◌*◌, ◌-◌, ◌&&◌, Bool, true, false, nat_le, nat_lt, List, [], ◌∷◌, ◌++◌, length, slice_index_or, cond}
use Rattle.std.specs.List.{AllByRecursion}
use Rattle.std.proofs.lemmas.List.{length-append}
use Rattle.vt_charsets.specs.Translation.{Reading, glyphs, next_reading, is_drawing, output_of, translation}

short_entry : (xs : List (List ℕ)) (i : ℕ) → AllByRecursion (λ x. length x ≤ 3) xs → length (slice_index_or xs i []) ≤ 3
short_entry [] i h = omega arith
short_entry (x ∷ xs) zero (p, q) = p
short_entry (x ∷ xs) (suc i) (p, q) = short_entry xs i q

short_glyphs : AllByRecursion (λ x. length x ≤ 3) glyphs
short_glyphs = search rules

either : (t : Bool) (x y : List ℕ) → length x ≤ 3 → length y ≤ 3 → length (cond t x y) ≤ 3
either true x y p q = p
either false x y p q = q

pub translation_length : (r : Reading) (bytes : List ℕ) → length (translation r bytes) ≤ 3 * length bytes
translation_length r [] = omega arith
translation_length r (b ∷ bytes) =
    let first : length (output_of r.kind r.state b) ≤ 3 =
    either (nat_le 0x5F b && (nat_lt b 0x7F && is_drawing r.kind r.state)) _ _ (short_entry glyphs (b - 0x5F) short_glyphs) (omega arith) in
    let rest : length (translation (next_reading r b) bytes) ≤ 3 * length bytes = translation_length (next_reading r b) bytes in
    let joined : length (output_of r.kind r.state b ++ translation (next_reading r b) bytes)
    ≡ length (output_of r.kind r.state b) + length (translation (next_reading r b) bytes) = length-append (output_of r.kind r.state b) (translation (next_reading r b) bytes) in
    omega arith
