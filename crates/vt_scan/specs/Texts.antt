-- The output of functions that write escape sequences, and runs of narrow and wide characters in the scanner's input.
use Rattle.std.specs.Prelude.{ℕ, zero, ◌+◌, ◌≤◌, List, [], ◌∷◌, ◌≡◌, ◌≢◌, ◌<◌, true, map, Some, All, ◌*◌}
use Rattle.std.specs.Prelude.{slice_index_or}
use Rattle.std.specs.Char.{IsScalar}
use Rattle.vt_cells.specs.Glyph.{columns_of}
use Rattle.vt_scan.specs.Automaton.{Event, Step, start, Character, run}
use Rattle.vt_scan.specs.Characters.{character_of, is_character}

-- ==== The output of functions that write escape sequences, and how the scanner reads it.

-- A step that issues the given events and ends in the ground state with no incomplete character.
abbrev pub back_with : List Event → Step
back_with events = record { state = start; events = events }

-- All bytes are parameter bytes: digits, `:` or `;`.
abbrev pub IsParameterText : List ℕ → Type 0
IsParameterText [] = Unit {0}
IsParameterText (b ∷ text) = (0x30 ≤ b) × (b ≤ 0x3B) × IsParameterText text

-- The groups of numbers that the scanner reads from CUP's parameters for a 0-based row and column. For the home
-- position, CUP is sent without parameters, and the scanner reads a single 0.
abbrev pub place_groups : ℕ → ℕ → List (List ℕ)
place_groups zero zero = (0 ∷ []) ∷ []
place_groups row col = ((row + 1) ∷ []) ∷ ((col + 1) ∷ []) ∷ []

-- ==== Runs of narrow characters in the scanner's input.

-- The character takes one column and is not U+FFFD.
abbrev pub IsNarrowCharacter : ℕ → Type 0
IsNarrowCharacter c = IsScalar c × ((c ≢ 0xFFFD) × (columns_of c ≡ Some 1))

-- In the ground state, the bytes are parsed as the characters of `text`, each of which takes one column and is not
-- U+FFFD.
pub record AreNarrow (bytes text : List ℕ) : Type 0 where
  pub read : run start bytes ≡ back_with (map Character text)
  pub narrow : All IsNarrowCharacter text

-- The bytes encode the single character `c`, which is above U+007F and below U+FFFD and takes one column.
pub record IsNarrowCoded (bytes : List ℕ) (c : ℕ) : Type 0 where
  pub whole : is_character bytes ≡ true
  pub means : c ≡ character_of bytes
  pub low : c < 0xFFFD
  pub narrow : columns_of c ≡ Some 1

-- ==== Runs of characters that take three bytes and two columns each.

-- The character takes two columns and is not U+FFFD.
abbrev pub IsWideCharacter : ℕ → Type 0
IsWideCharacter c = IsScalar c × ((c ≢ 0xFFFD) × (columns_of c ≡ Some 2))

-- The bytes encode the single character `c`, which is below U+FFFD and takes two columns.
pub record IsWideThree (bytes : List ℕ) (c : ℕ) : Type 0 where
  pub whole : is_character bytes ≡ true
  pub means : c ≡ character_of bytes
  pub low : c < 0xFFFD
  pub wide : columns_of c ≡ Some 2

-- The bytes of the character at the given index in the encoding of a string whose characters take three bytes each.
abbrev pub three_at : List ℕ → ℕ → List ℕ
three_at bytes k =
    slice_index_or bytes (3 * k) 0 ∷ slice_index_or bytes (3 * k + 1) 0 ∷ slice_index_or bytes (3 * k + 2) 0 ∷ []

-- `bytes` begins with the encoding of the first `n` characters of `text`, each of which takes three bytes and two
-- columns.
abbrev pub AreWideThrees : ℕ → List ℕ → List ℕ → Type 0
AreWideThrees n bytes text = (k : ℕ) → k < n → IsWideThree (three_at bytes k) (slice_index_or text k 0)
