-- Auxiliary definitions for proofs, cited only by the contracts of private functions.
use Rattle.std.specs.Prelude.{◌≡◌, ◌≢◌, ℕ, ◌-◌, ◌<◌, ◌⊎◌, ◌&&◌, nat_le, Bool, true, false, List, [], ◌∷◌, ◌++◌, ◌≤◌}
use Rattle.std.specs.Prelude.{length, slice_index_or, take, drop, Some, None, ◌+◌, ◌%◌}
use Rattle.vt_scan.specs.Characters.{is_character, is_beginning, character_of}
use Rattle.vt_scan.specs.Parameters.{GroupTable}
use Rattle.vt_scan.specs.Scanner.{ScannerValue, Reads}
use Rattle.vt_scan.specs.declared.event.Event.TheVariants as event
use Rattle.vt_scan.specs.declared.event.Events.{Events}
use Rattle.vt_scan.specs.declared.table.Kind.{Kind}
use Rattle.vt_scan.specs.declared.table.Kind.TheVariants as kinds
use Rattle.vt_scan.specs.declared.table.Transition.{Transition}
use Rattle.vt_scan.specs.declared.table.Transition.TheVariants.{Collect, Drop, Execute, End}
use Rattle.vt_scan.specs.declared.table.Ending.{Ending}
use Rattle.vt_scan.specs.declared.table.Ending.TheVariants as ending
use Rattle.vt_scan.specs.declared.unfinished.Bytes.{Bytes}
use Rattle.vt_scan.specs.declared.unfinished.Bytes.TheVariants.{Zero, One, Two, Three}
use Rattle.vt_scan.specs.declared.unfinished.Extended.{Extended}
use Rattle.vt_scan.specs.declared.unfinished.Extended.TheVariants.{Further, Character, Broken}

-- ==== Auxiliary definitions for proofs, cited only by the contracts of private functions.

-- The value of a scanner with the given kind of state, incomplete character, numbers, intermediates and command text.
abbrev pub scanner_value : Kind → List ℕ → GroupTable → List ℕ → List ℕ → ScannerValue
scanner_value kind unfinished table intermediates text =
    record { kind = kind; unfinished = unfinished; table = table; intermediates = intermediates; text = text }

-- A state of the given kind collects the numbers and intermediates of an escape or control sequence.
abbrev pub InSequence : Kind → Type 0
InSequence kinds.Ground = ⊥
InSequence kinds.CsiIgnore = ⊥
InSequence kinds.OscString = ⊥
InSequence kinds.Skip = ⊥
InSequence _ = Unit {0}

-- A transition from the first kind of state to the second can have the given ending, which determines the events
-- issued.
abbrev pub FitsEnding : Kind → Kind → Ending → Type 0
FitsEnding old new ending.Nothing = Unit {0}
FitsEnding old new ending.Character = (old ≡ kinds.Ground) × (new ≡ kinds.Ground)
FitsEnding old new ending.Executed = new ≡ kinds.Ground
FitsEnding old new ending.EscDispatch = InSequence old × (new ≡ kinds.Ground)
FitsEnding old new ending.CsiDispatch = InSequence old × (new ≡ kinds.Ground)
FitsEnding old new ending.OscDispatch = (old ≡ kinds.OscString) × ((new ≡ kinds.Ground) ⊎ (new ≡ kinds.Escape))
FitsEnding old new ending.OscDispatchAndExecuted = (old ≡ kinds.OscString) × (new ≡ kinds.Ground)

-- A transition from a state of the given kind is consistent: it collects bytes only within a sequence or within an
-- operating system command, and it dispatches a sequence or command only if it leaves that sequence or command.
abbrev pub Fits : Kind → Transition → Type 0
Fits old (Collect new) = (InSequence old × InSequence new) ⊎ ((old ≡ kinds.OscString) × (new ≡ kinds.OscString))
Fits old Drop = Unit {0}
Fits old Execute = Unit {0}
Fits old (End new ending) = FitsEnding old new ending

-- The bytes of an incomplete character, as a list.
abbrev pub bytes_in : Bytes → List ℕ
bytes_in Zero = []
bytes_in (One a) = a ∷ []
bytes_in (Two a b) = a ∷ b ∷ []
bytes_in (Three a b c) = a ∷ b ∷ c ∷ []

-- The list is empty or a proper prefix of a character's UTF-8 encoding.
abbrev pub is_unfinished : List ℕ → Bool
is_unfinished [] = true
is_unfinished (x ∷ xs) = is_beginning (x ∷ xs)

-- Appending a byte to the bytes of an incomplete character has the given result. The last argument lists the bytes of
-- the character that is still incomplete afterward, if any.
abbrev pub Extends : List ℕ → ℕ → Extended → List ℕ → Type 0
Extends old b Further new =
    (is_character (old ++ b ∷ []) ≡ false) × (is_beginning (old ++ b ∷ []) ≡ true) × (new ≡ old ++ b ∷ [])
Extends old b (Character c) new =
    (is_character (old ++ b ∷ []) ≡ true) × (c ≡ character_of (old ++ b ∷ [])) × (new ≡ [])
Extends old b Broken new = (is_character (old ++ b ∷ []) ≡ false) × (is_beginning (old ++ b ∷ []) ≡ false) × (new ≡ [])

-- The byte is a decimal digit.
abbrev pub is_digit : ℕ → Bool
is_digit b = nat_le 0x30 b && nat_le b 0x39

-- The byte does not end an ignored control string (DCS, SOS, PM or APC): it is not CAN, SUB or ESC.
abbrev pub IsUnended : ℕ → Type 0
IsUnended b = (b ≢ 0x18) × (b ≢ 0x1A) × (b ≢ 0x1B)

-- The bytes begin with ESC and `[`.
pub record Opens (bytes : List ℕ) : Type 0 where
  pub long : 2 ≤ length bytes
  pub first : slice_index_or bytes 0 0 ≡ 0x1B
  pub second : slice_index_or bytes 1 0 ≡ 0x5B

-- `groups_from from ends len numbers` is the part of `numbers` from index `from` up to but not including index `len`,
-- divided into consecutive groups. `ends` lists the index just past the last number of each group except the last
-- group, which ends at `len`.
abbrev pub groups_from : ℕ → List ℕ → ℕ → List ℕ → List (List ℕ)
groups_from from [] len numbers = take (len - from) (drop from numbers) ∷ []
groups_from from (to ∷ ends) len numbers = take (to - from) (drop from numbers) ∷ groups_from to ends len numbers

-- The index `from`, the listed indices at which groups end, and the total length `len` are strictly ascending, so every
-- group has at least one number.
abbrev pub Ascends : ℕ → List ℕ → ℕ → Type 0
Ascends from [] len = from < len
Ascends from (to ∷ ends) len = (from < to) × Ascends to ends len

-- The events that the scanner returns when the given byte ends the collected sequence. The ending says whether the
-- sequence, the byte or both cause an event.
abbrev pub answer_of : Ending → ℕ → Events
answer_of ending.Nothing b = record { first = None; second = None }
answer_of ending.Character b = record { first = Some (event.Character b); second = None }
answer_of ending.Executed b = record { first = Some (event.Executed b); second = None }
answer_of ending.EscDispatch b = record { first = Some (event.Escape b); second = None }
answer_of ending.CsiDispatch b = record { first = Some (event.Csi b); second = None }
answer_of ending.OscDispatch b = record { first = Some event.Osc; second = None }
answer_of ending.OscDispatchAndExecuted b = record { first = Some event.Osc; second = Some (event.Executed b) }

-- The scanner entered a state of kind `begun`, with no bytes collected. Lists that a returned event may still refer to
-- are unchanged.
pub record Begins (old : ScannerValue) (new : ScannerValue) (begun : Kind) : Type 0 where
  pub kind : new.kind ≡ begun
  pub reads : Reads new begun []
  pub text : (begun ≡ kinds.Ground) ⊎ (begun ≡ kinds.Escape) → new.text ≡ old.text
  pub table : begun ≡ kinds.Ground → new.table ≡ old.table
  pub intermediates : begun ≡ kinds.Ground → new.intermediates ≡ old.intermediates

-- ==== A single-comparison test of whether a byte is in a range; for private contracts and proofs only.

-- `is_in_range low width b` holds if the byte `b` is one of the `width + 1` bytes from `low` on, where 0xFF is followed
-- by 0.
abbrev pub is_in_range : ℕ → ℕ → ℕ → Bool
is_in_range low width b = nat_le ((b + (256 - low)) % 256) width
