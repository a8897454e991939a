-- UTF-8 on lists of bytes: well-formed sequences as in Table 3-7 of the Unicode Standard, and their bits as in Table
-- 3-6.
use Rattle.std.specs.Prelude.{ℕ, ◌+◌, ◌*◌, ◌%◌, Bool, false, ◌&&◌, ◌==◌, nat_le, List, [], ◌∷◌, if◌then◌else◌}

-- `is_within low high byte` holds if `byte` is in the inclusive range from `low` to `high`.
abbrev pub is_within : ℕ → ℕ → ℕ → Bool
is_within low high byte = nat_le low byte && nat_le byte high

-- The byte is a UTF-8 continuation byte: it can be the third or fourth byte of a character and, after most first bytes,
-- the second byte.
abbrev pub continues : ℕ → Bool
continues byte = is_within 0x80 0xBF byte

-- `is_second first byte` holds if `byte` can follow `first` in the UTF-8 encoding of a character, provided that `first`
-- can be the first of two or more bytes.
abbrev pub is_second : ℕ → ℕ → Bool
is_second first byte =
    if first == 0xE0 then is_within 0xA0 0xBF byte
    else if first == 0xED then is_within 0x80 0x9F byte
    else if first == 0xF0 then is_within 0x90 0xBF byte
    else if first == 0xF4 then is_within 0x80 0x8F byte
    else continues byte

-- The bytes are the UTF-8 encoding of exactly one character above U+007F.
unfoldable pub is_character : List ℕ → Bool
is_character (a ∷ b ∷ []) = is_within 0xC2 0xDF a && continues b
is_character (a ∷ b ∷ c ∷ []) = is_within 0xE0 0xEF a && (is_second a b && continues c)
is_character (a ∷ b ∷ c ∷ d ∷ []) = is_within 0xF0 0xF4 a && (is_second a b && (continues c && continues d))
is_character _ = false

-- The bytes are a nonempty proper prefix of the UTF-8 encoding of a character above U+007F.
unfoldable pub is_beginning : List ℕ → Bool
is_beginning (a ∷ []) = is_within 0xC2 0xF4 a
is_beginning (a ∷ b ∷ []) = is_within 0xE0 0xF4 a && is_second a b
is_beginning (a ∷ b ∷ c ∷ []) = is_within 0xF0 0xF4 a && (is_second a b && continues c)
is_beginning _ = false

-- The code point of a character, given its UTF-8 encoding of two to four bytes.
abbrev pub character_of : List ℕ → ℕ
character_of (a ∷ b ∷ []) = a % 32 * 64 + b % 64
character_of (a ∷ b ∷ c ∷ []) = a % 16 * 4096 + b % 64 * 64 + c % 64
character_of (a ∷ b ∷ c ∷ d ∷ []) = a % 8 * 262144 + b % 64 * 4096 + c % 64 * 64 + d % 64
character_of _ = 0
