-- The characters on whose width terminals agree, by ranges of their codes.
use Rattle.std.proofs.Common.{◌≡◌, ◌<◌, ◌≤◌, ◌+◌, ◌-◌, ◌*◌, ◌||◌, ◌&&◌, ℕ, List, [], ◌∷◌, length, arith, ap, false, true}
use Rattle.std.proofs.Common.{nat_le, refl, ◌∙◌, ◌⊎◌, inl, inr, Bool}
use Rattle.std.specs.Char.{encode_utf8}
use Rattle.std.specs.Str.{IsUtf8, chars, continuation_len, encode_utf8_all, lead_bits}
use Rattle.std.proofs.lemmas.Bool.{cases_lt}
use Rattle.std.proofs.lemmas.Bool.Decides.{nat_tests}
use Rattle.std.proofs.lemmas.List.{length-append}
use Rattle.std.proofs.lemmas.Str.{encodes-chars}
use Rattle.vt_cells.proofs.Glyphs.{one_byte, two_bytes as encoded_in_two, three_bytes as encoded_in_three}
use Rattle.vt_redraw.specs.Certain.{are_certain, is_between, is_certain, is_certain_letter, is_certain_narrow}
use Rattle.vt_redraw.specs.Certain.{is_certain_symbol, is_certain_text, is_certain_wide, is_early_letter}
use Rattle.vt_redraw.specs.Certain.{is_high_letter, is_late_letter, is_low_symbol, is_powerline}

-- ---- the ranges that a part of the codes is or is not in

no_early : (c : ℕ) → 0x600 ≤ c → is_early_letter c ≡ false
unfolding is_early_letter
no_early c from = grind (arith, nat_tests, from)

no_late : (c : ℕ) → c < 0x600 → is_late_letter c ≡ false
unfolding is_late_letter
no_late c less = grind (arith, nat_tests, less)

past_late : (c : ℕ) → 0x2000 ≤ c → is_late_letter c ≡ false
unfolding is_late_letter
past_late c from = grind (arith, nat_tests, from)

no_high : (c : ℕ) → c < 0xE000 → is_high_letter c ≡ false
unfolding is_high_letter
no_high c less = grind (arith, nat_tests, less)

past_high : (c : ℕ) → 0xFFFF < c → is_high_letter c ≡ false
unfolding is_high_letter
past_high c from = grind (arith, nat_tests, from)

no_symbol : (c : ℕ) → c < 0x2000 → is_low_symbol c ≡ false
unfolding is_low_symbol
no_symbol c less = grind (arith, nat_tests, less)

past_symbol : (c : ℕ) → 0x3000 ≤ c → is_low_symbol c ≡ false
unfolding is_low_symbol
past_symbol c from = grind (arith, nat_tests, from)

no_powerline : (c : ℕ) → c < 0xE000 → is_powerline c ≡ false
unfolding is_powerline
no_powerline c less = grind (arith, nat_tests, less)

past_powerline : (c : ℕ) → 0xFFFF < c → is_powerline c ≡ false
unfolding is_powerline
past_powerline c from = grind (arith, nat_tests, from)

no_wide : (c : ℕ) → c < 0x3000 → is_certain_wide c ≡ false
unfolding is_certain_wide
no_wide c less = grind (arith, nat_tests, less)

past_wide : (c : ℕ) → 0xFFFF < c → is_certain_wide c ≡ false
unfolding is_certain_wide
past_wide c from = grind (arith, nat_tests, from)

latin : (c : ℕ) → 0xAE ≤ c → c ≤ 0x2FF → is_early_letter c ≡ true
unfolding is_early_letter
latin c from upto = grind (arith, nat_tests, from, upto)

cyrillic : (c : ℕ) → 0x3A3 ≤ c → c ≤ 0x482 → is_early_letter c ≡ true
unfolding is_early_letter
cyrillic c from upto = grind (arith, nat_tests, from, upto)

box : (c : ℕ) → 0x2500 ≤ c → c ≤ 0x25A9 → is_low_symbol c ≡ true
unfolding is_low_symbol
box c from upto = grind (arith, nat_tests, from, upto)

ideograph : (c : ℕ) → 0x4E00 ≤ c → c ≤ 0x9FD5 → is_certain_wide c ≡ true
unfolding is_certain_wide
ideograph c from upto = grind (arith, nat_tests, from, upto)

-- ---- the certain characters of each part

or_none : (b : Bool) → (b || false) ≡ b
or_none true = refl
or_none false = refl

pub early_letter : (c : ℕ) → c < 0x600 → is_early_letter c ≡ is_certain_letter c
unfolding is_certain_letter
early_letter c less = rw (no_late c less, no_high c (omega (arith, less)), or_none (is_early_letter c)) refl

pub late_letter : (c : ℕ) → 0x600 ≤ c → c < 0x2000 → is_late_letter c ≡ is_certain_letter c
unfolding is_certain_letter
late_letter c from less = rw (no_early c from, no_high c (omega (arith, less)), or_none (is_late_letter c)) refl

high_letter : (c : ℕ) → 0x2000 ≤ c → is_certain_letter c ≡ is_high_letter c
unfolding is_certain_letter
high_letter c from = rw (no_early c (omega (arith, from)), past_late c from) refl

low_symbol : (c : ℕ) → c < 0x3000 → is_certain_symbol c ≡ is_low_symbol c
unfolding is_certain_symbol
low_symbol c less = rw (no_powerline c (omega (arith, less)), or_none (is_low_symbol c)) refl

high_symbol : (c : ℕ) → 0x3000 ≤ c → is_certain_symbol c ≡ is_powerline c
unfolding is_certain_symbol
high_symbol c from = rw (past_symbol c from) refl

pub beyond : (c : ℕ) → 0xFFFF < c → is_certain c ≡ false
unfolding is_certain_narrow
beyond c from =
    rw (
      high_letter c (omega (arith, from)),
      past_high c from,
      high_symbol c (omega (arith, from)),
      past_powerline c from,
      past_wide c from,
    ) (grind (arith, nat_tests, from))

pub below_symbols : (c : ℕ) → c < 0x2000 →
    (is_between 0x20 0x7E c || (is_between 0xAE 0x2FF c || (is_between 0x3A3 0x482 c || is_certain_letter c)))
    ≡ is_certain c
unfolding is_certain_narrow is_certain_letter
below_symbols c less =
    rw (low_symbol c (omega (arith, less)), no_symbol c less, no_wide c (omega (arith, less)))
    (grind (arith, nat_tests, latin c, cyrillic c))

pub among_symbols : (c : ℕ) → 0x2000 ≤ c → c < 0x3000 →
    (is_between 0x2500 0x25A9 c || is_low_symbol c) ≡ is_certain c
unfolding is_certain_narrow
among_symbols c from less =
    rw (high_letter c from, no_high c (omega (arith, less)), low_symbol c less, no_wide c less)
    (grind (arith, nat_tests, box c, from))

pub after_symbols : (c : ℕ) → 0x3000 ≤ c →
    (is_between 0x4E00 0x9FD5 c || (is_certain_wide c || (nat_le 0xE000 c && (is_powerline c || is_high_letter c))))
    ≡ is_certain c
unfolding is_certain_narrow
after_symbols c from =
    rw (high_letter c (omega (arith, from)), high_symbol c from)
    (grind (arith, nat_tests, no_high c, no_powerline c, ideograph c, from))

-- ---- texts of two and three bytes, and longer ones

pub two_bytes : (a b : ℕ) → 0xC0 ≤ a → a < 0xE0 → chars (a ∷ b ∷ []) ≡ ((a - 0xC0) * 64 + (b - 0x80)) ∷ []
unfolding chars
two_bytes a b from less =
    let len : continuation_len a ≡ 1 = grind (arith, nat_tests, from, less) in
    let bits : lead_bits a ≡ a - 0xC0 = grind (arith, nat_tests, from, less) in
    rw (len, bits) refl

pub three_bytes : (a b c : ℕ) → 0xE0 ≤ a → a < 0xF0 →
    chars (a ∷ b ∷ c ∷ []) ≡ (((a - 0xE0) * 64 + (b - 0x80)) * 64 + (c - 0x80)) ∷ []
unfolding chars
three_bytes a b c from less =
    let len : continuation_len a ≡ 2 = grind (arith, nat_tests, from, less) in
    let bits : lead_bits a ≡ a - 0xE0 = grind (arith, nat_tests, from, less) in
    rw (len, bits) refl

certain_ideograph : (c : ℕ) → 0x4E00 ≤ c → c ≤ 0x9FD5 → is_certain c ≡ true
certain_ideograph c from upto = let wide = ideograph c from upto in grind (arith, wide)

-- These characters are ideographs.
pub ideograph_bytes : (a b c : ℕ) → 0xE5 ≤ a → a ≤ 0xE7 → b < 256 → c < 256 →
    is_certain_text (a ∷ b ∷ c ∷ []) ≡ true
ideograph_bytes a b c from upto second third =
    ap are_certain (three_bytes a b c (omega (arith, from)) (omega (arith, upto)))
    ∙ certain_ideograph (((a - 0xE0) * 64 + (b - 0x80)) * 64 + (c - 0x80)) (omega (arith, from))
    (omega (arith, upto, second, third))

short_encoding : (c : ℕ) → c < 0x1_0000 → length (encode_utf8 c) ≤ 3
short_encoding c below = by_range (cases_lt c 0x80) (cases_lt c 0x800) where
  by_range : (c < 0x80) ⊎ (0x80 ≤ c) → (c < 0x800) ⊎ (0x800 ≤ c) → length (encode_utf8 c) ≤ 3
  by_range (inl one) two = let n = ap length (one_byte c one) in omega (arith, n)
  by_range (inr above) (inl two) = let n = ap length (encoded_in_two c above two) in omega (arith, n)
  by_range (inr above) (inr more) = let n = ap length (encoded_in_three c more below) in omega (arith, n)

pub longer : (text : List ℕ) → IsUtf8 text → 3 < length text → is_certain_text text ≡ false
longer text utf8 more = by_chars (chars text) (encodes-chars text utf8) where
  by_size : (c : ℕ) → length (encode_utf8 c) ≡ length text → (c < 0x1_0000) ⊎ (0x1_0000 ≤ c) → is_certain c ≡ false
  by_size c e (inl below) = let short = short_encoding c below in absurd (omega (arith, e, short, more))
  by_size c e (inr from) = beyond c (omega (arith, from))

  by_chars : (cs : List ℕ) → encode_utf8_all cs ≡ text → are_certain cs ≡ false
  by_chars [] e = refl
  by_chars (c ∷ []) e =
      let sum = length-append (encode_utf8 c) [] in
      let same = ap length e in by_size c (omega (arith, sum, same)) (cases_lt c 0x1_0000)
  by_chars (c ∷ d ∷ cs) e = refl
