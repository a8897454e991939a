-- Bytes that don't contain U+FE0F, which is EF B8 8F in UTF-8 (Unicode Standard, section 3.9, Table 3-6), and bytes
-- that are not parsed as U+FE0F.
use Rattle.std.specs.Prelude.{◌≢◌, ℕ, List, [], ◌∷◌, take, drop}
use Rattle.std.specs.List.{AllByRecursion}
use Rattle.vt_scan.specs.Automaton.{State, Character, run}

-- The bytes don't contain the sequence EF B8 8F, the UTF-8 encoding of U+FE0F.
abbrev pub SpellsNoSelector : List ℕ → Type 0
SpellsNoSelector bytes = (i : ℕ) → take 3 (drop i bytes) ≢ 0xEF ∷ 0xB8 ∷ 0x8F ∷ []

-- Parsing the given bytes from the given state yields no event for the character U+FE0F.
abbrev pub ReadsNoSelector : State → List ℕ → Type 0
ReadsNoSelector state bytes = AllByRecursion (λ event. event ≢ Character 0xFE0F) (run state bytes).events
