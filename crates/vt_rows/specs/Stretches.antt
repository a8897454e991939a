-- SGR sequences in a capture ("stretches"): each extends from an ESC through the next `m`, or to the end of the
-- capture (ECMA-48, CSI and SGR).
use Rattle.std.specs.Prelude.{◌≡◌, ◌≢◌, ◌<◌, ◌≤◌, get_or, ℕ, not, Bool, true, false, ◌==◌}
use Rattle.std.specs.Prelude.{min, List, [], ◌∷◌, ◌+◌, Option, Some, None, if◌then◌else◌}
use Rattle.std.specs.List.{fold}
use Rattle.unicode_width.specs.Width.{char_width}

-- The character is ESC, which begins an SGR sequence.
abbrev pub begins_stretch : ℕ → Bool
begins_stretch c = c == 0x1B

-- The character is `m`, which ends an SGR sequence.
abbrev pub ends_stretch : ℕ → Bool
ends_stretch c = c == 0x6D

-- Whether a string ends inside an SGR sequence after another character is appended, given whether the string ended
-- inside one before.
abbrev pub is_within_after : Bool → ℕ → Bool
is_within_after true c = not (ends_stretch c)
is_within_after false c = begins_stretch c

-- The byte or character at the given index of a string is in an SGR sequence: there is an ESC at or before this index,
-- and no `m` from that ESC up to but excluding the index.
abbrev pub IsInStretch : List ℕ → ℕ → Type 0
IsInStretch text k = (i : ℕ) × (i ≤ k) × (get_or text i 0 ≡ 0x1B) × ((j : ℕ) → i ≤ j → j < k → get_or text j 0 ≢ 0x6D)

-- The text ends inside an SGR sequence.
abbrev pub ends_within : List ℕ → Bool
ends_within text = fold is_within_after false text

-- The number of columns of a character, given the width that `unicode_width` returns for the character: that width, but
-- at most 2; or 1 if the character has no width (UAX #11).
abbrev pub shown_columns_or : Option ℕ → ℕ
shown_columns_or (Some width) = min width 2
shown_columns_or None = 1

-- The number of columns of a character outside SGR sequences.
unfoldable pub shown_columns : ℕ → ℕ
shown_columns c = shown_columns_or (char_width false c)

-- The number of columns that a character adds to a string, given whether the string ends inside an SGR sequence; 0 if
-- the character is part of an SGR sequence.
abbrev pub columns_added : Bool → ℕ → ℕ
columns_added within c = if within then 0 else if begins_stretch c then 0 else shown_columns c

-- The number of columns of a string, given whether the string begins inside an SGR sequence.
abbrev pub columns_from : Bool → List ℕ → ℕ
columns_from within [] = 0
columns_from within (c ∷ text) = columns_added within c + columns_from (is_within_after within c) text

-- The number of columns that a string takes; SGR sequences take no columns.
abbrev pub columns_in : List ℕ → ℕ
columns_in text = columns_from false text
