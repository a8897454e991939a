-- Stored texts are read back.
use Rattle.std.proofs.Common.{◌≡◌, ℕ, ◌+◌, ◌-◌, ◌<◌, ◌≤◌, ◌==◌, Bool, true, false, List, [], ◌∷◌, ◌++◌, length, take, drop}
use Rattle.std.proofs.Common.{refl, sym, ap, ◌∙◌, arith, eqb-true}
use Rattle.std.specs.Prelude.{slice_index, if◌then◌else◌}
use Rattle.std.proofs.Math.Seq.{take-append_seam, drop-append_seam, drop-append-add}
use Rattle.std.proofs.lemmas.Bool.Decides.{nat_tests}
use Rattle.std.proofs.lemmas.List.{length-append}
use Rattle.vt_cells.proofs.Glyphs.{IsGlyphText-length}
use Rattle.vt_packed.specs.Items.{Item, IsItem, IsItemText, is_single, is_length, lead_len, skipped_len, text_len}
use Rattle.vt_packed.specs.Items.{stored_text, first_text, after_first}

pub single_none : (text : List ℕ) → length text ≡ 0 → is_single text ≡ false
single_none [] e = refl
single_none (byte ∷ text) e = absurd (omega (arith, e))

pub single_some : (text : List ℕ) → 0 < length text →
    is_single text ≡ (length text == lead_len (slice_index text 0))
single_some [] h = absurd (omega (arith, h))
single_some (byte ∷ text) h = refl

-- No character begins with a byte that holds a length.
not_length : (byte : ℕ) → 0 < lead_len byte → is_length byte ≡ false
unfolding lead_len
not_length byte h = grind (arith, nat_tests)

read_back : (bytes front text rest : List ℕ) → bytes ≡ front ++ (text ++ rest) →
    skipped_len (slice_index bytes 0) ≡ length front → text_len (slice_index bytes 0) ≡ length text →
    (first_text bytes ≡ text) × (after_first bytes ≡ rest)
unfolding first_text after_first
read_back bytes front text rest e s t = (
  ap (λ (n : ℕ). take n (drop (skipped_len (slice_index bytes 0)) bytes)) t
      ∙ (ap (λ (n : ℕ). take (length text) (drop n bytes)) s
      ∙ (ap (λ (bs : List ℕ). take (length text) (drop (length front) bs)) e
      ∙ (ap (take (length text)) (drop-append_seam front (text ++ rest)) ∙ take-append_seam text rest))),
  ap (λ (n : ℕ). drop (n + text_len (slice_index bytes 0)) bytes) s
      ∙ (ap (λ (n : ℕ). drop (length front + n) bytes) t
      ∙ (ap (λ (bs : List ℕ). drop (length front + length text) bs) e
      ∙ (drop-append-add front (text ++ rest) (length text) ∙ drop-append_seam text rest))),
)

-- The lengths that the first byte of a single character indicates.
single_lens : (byte : ℕ) (text : List ℕ) → is_single (byte ∷ text) ≡ true →
    (skipped_len byte ≡ 0) × (text_len byte ≡ length (byte ∷ text))
unfolding skipped_len text_len
single_lens byte text e =
    let size : length (byte ∷ text) ≡ lead_len byte = eqb-true _ _ e in
    let plain : is_length byte ≡ false = not_length byte (omega (arith, size)) in
    (rw plain refl, rw plain (sym size))

-- The lengths that a byte before a text indicates.
long_lens : (n : ℕ) → n < 64 → (skipped_len (0x80 + n) ≡ 1) × (text_len (0x80 + n) ≡ n)
unfolding skipped_len text_len
long_lens n h =
    let long : is_length (0x80 + n) ≡ true = grind (arith, nat_tests) in
    (rw long refl, rw long (omega arith))

-- A stored text is read back, and so are the bytes after it.
pub stored_read : (text rest : List ℕ) → length text < 64 →
    (first_text (stored_text text ++ rest) ≡ text) × (after_first (stored_text text ++ rest) ≡ rest)
unfolding stored_text
stored_read text rest h = by_single text (is_single text) h refl where
  by_single : (text : List ℕ) (b : Bool) → length text < 64 → is_single text ≡ b →
      (first_text ((if b then text else (0x80 + length text) ∷ text) ++ rest) ≡ text)
      × (after_first ((if b then text else (0x80 + length text) ∷ text) ++ rest) ≡ rest)
  by_single [] true h e = absurd (cc)
  by_single (byte ∷ text) true h e =
      let lens = single_lens byte text e in
      read_back ((byte ∷ text) ++ rest) [] (byte ∷ text) rest refl lens.0 lens.1
  by_single text false h e =
      let lens = long_lens (length text) h in
      read_back (((0x80 + length text) ∷ text) ++ rest) ((0x80 + length text) ∷ []) text rest refl lens.0 lens.1

-- All bytes of a stored text are stored.
pub stored_whole : (text rest : List ℕ) → length text < 64 →
    (0 < length (stored_text text ++ rest))
    × (skipped_len (slice_index (stored_text text ++ rest) 0) + text_len (slice_index (stored_text text ++ rest) 0)
    ≤ length (stored_text text ++ rest))
unfolding stored_text
stored_whole text rest h = by_single text (is_single text) h refl where
  by_single : (text : List ℕ) (b : Bool) → length text < 64 → is_single text ≡ b →
      (0 < length ((if b then text else (0x80 + length text) ∷ text) ++ rest))
      × (skipped_len (slice_index ((if b then text else (0x80 + length text) ∷ text) ++ rest) 0)
      + text_len (slice_index ((if b then text else (0x80 + length text) ∷ text) ++ rest) 0)
      ≤ length ((if b then text else (0x80 + length text) ∷ text) ++ rest))
  by_single [] true h e = absurd (cc)
  by_single (byte ∷ text) true h e =
      let lens = single_lens byte text e in
      let size = length-append text rest in
      (omega arith, omega (arith, lens.0, lens.1, size))
  by_single text false h e =
      let lens = long_lens (length text) h in
      let size = length-append text rest in
      (omega arith, omega (arith, lens.0, lens.1, size))

short_text : (wide : Bool) (text : List ℕ) → IsItemText wide text → length text ≤ 29
short_text true text is = (IsGlyphText-length text true is).1
short_text false [] is = omega arith
short_text false (byte ∷ text) is = (IsGlyphText-length (byte ∷ text) false is).1

-- The text of an item has at most 29 bytes.
pub short_item : (item : Item) → IsItem item → length item.text ≤ 29
short_item item is = short_text item.style.wide item.text is
