-- The translation is copied whole, since the buffer has room for three times as many bytes.
use Rattle.std.proofs.Common.{◌≡◌, ◌∙◌, ap, ℕ, ◌≤◌, ◌*◌, List, length, min, take, drop, arith}
use Rattle.std.proofs.lemmas.List.{take_all}
use Rattle.vt_charsets.specs.Charsets.{CharsetsValue, StandsFor}
use Rattle.vt_charsets.specs.Translation.{Reading, reading_after, translation}
use Rattle.vt_charsets.proofs.Lengths.{translation_length}
use Rattle.vt100_c.specs.Translating.{TranslatesFrom}

pub copied_whole : (bytes before after sink : List ℕ) (count : ℕ) (new : CharsetsValue) (r : Reading) →
    StandsFor new (reading_after r bytes) → sink ≡ translation r bytes → 3 * length bytes ≤ length before →
    count ≡ min (length sink) (length before) → take count after ≡ take count sink → drop count after ≡ drop count before →
    TranslatesFrom bytes before after count new r
copied_whole bytes before after sink count new r stands is room counts copied rest =
    let short : length (translation r bytes) ≤ 3 * length bytes = translation_length r bytes in
    let whole : count ≡ length sink = omega (arith, ap length is) in
    record {
      stands = stands;
      len = whole ∙ ap length is;
      output = copied ∙ ap (λ (n : ℕ). take n sink) whole ∙ take_all (length sink) sink (omega arith) ∙ is;
      rest = rest;
    }
