-- The numbers of a control sequence, read from all its parameter bytes (ECMA-48, section 5.4.2, and ISO 8613-6 for
-- the colon).
use Rattle.std.specs.Prelude.{ℕ, ◌+◌, ◌-◌, Bool, ◌==◌, nat_lt, List, [], ◌∷◌, map, length, min, take, if◌then◌else◌}
use Rattle.std.specs.List.{slice_split}
use Rattle.std.specs.Int.Digits.{number_from_digits}

-- The value of a decimal digit.
abbrev pub digit_of : ℕ → ℕ
digit_of byte = byte - 0x30

-- The value of a string of decimal digits, clamped to 65535; 0 if the string is empty.
unfoldable pub number_of : List ℕ → ℕ
number_of digits = min 65535 (number_from_digits 10 (map digit_of digits))

-- The numbers in one group of parameter bytes; `:` separates the numbers.
unfoldable pub numbers_of : List ℕ → List ℕ
numbers_of group = map number_of (slice_split (λ byte. byte == 0x3A) group)

-- The groups of numbers in a string of parameter bytes; `;` separates the groups. An empty string contains one group
-- with the number 0.
unfoldable pub groups_of : List ℕ → List (List ℕ)
groups_of text = map numbers_of (slice_split (λ byte. byte == 0x3B) text)

-- The total count of numbers in a list of groups.
abbrev pub total : List (List ℕ) → ℕ
total [] = 0
total (group ∷ groups) = length group + total groups

-- The first `n` numbers of a list of groups, still grouped. A group with none of these numbers is dropped.
abbrev pub first_numbers : ℕ → List (List ℕ) → List (List ℕ)
first_numbers n [] = []
first_numbers n (group ∷ groups) = if n == 0 then [] else take n group ∷ first_numbers (n - length group) groups

-- The numbers kept from a control sequence (the first 32, in their groups), and whether the sequence had more numbers.
pub record GroupTable : Type 0 where
  pub groups : List (List ℕ)
  pub is_cut : Bool

-- The numbers kept from a string of parameter bytes (the first 32, in their groups), and whether the string has more
-- numbers.
unfoldable pub table_of : List ℕ → GroupTable
table_of text = record { groups = first_numbers 32 (groups_of text); is_cut = nat_lt 32 (total (groups_of text)) }
