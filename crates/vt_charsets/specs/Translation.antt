-- The translation of a program's output: what is printed in DEC Special Graphics is replaced by Unicode characters in
-- UTF-8, and every other byte is kept.
use Rattle.std.specs.Prelude.{ℕ, Bool, true, false, ◌-◌, ◌&&◌, nat_le, nat_lt, List, [], ◌∷◌, ◌++◌, if◌then◌else◌, slice_index_or}
use Rattle.vt_scan.specs.Automaton.{parameter_text, intermediates_of}
use Rattle.vt_scan.specs.Parameters.{table_of}
use Rattle.vt_scan.specs.Table.{class_of, transition_of}
use Rattle.vt_scan.specs.declared.table.Kind.{Kind}
use Rattle.vt_scan.specs.declared.table.Kind.TheVariants.{Ground, OscString}
use Rattle.vt_scan.specs.declared.table.Transition.{Transition}
use Rattle.vt_scan.specs.declared.table.Transition.TheVariants.{Collect, Drop, Execute, End}
use Rattle.vt_scan.specs.declared.table.Ending as ending
use Rattle.vt_scan.specs.declared.table.Ending.TheVariants as ends
use Rattle.vt_charsets.specs.Sets.{initial_state, current_set, after_character, after_control, after_escape, after_sequence}
use Rattle.vt_charsets.specs.declared.sets.Charset.{Charset}
use Rattle.vt_charsets.specs.declared.sets.Charset.TheVariants.{Ascii, Graphics}
use Rattle.vt_charsets.specs.declared.sets.CharsetState.{CharsetState}

-- The characters of the bytes 0x5F to 0x7E, in UTF-8.
abbrev pub glyphs : List (List ℕ)
glyphs =
    (0x20 ∷ []) ∷
    (0xE2 ∷ 0x97 ∷ 0x86 ∷ []) ∷
    (0xE2 ∷ 0x96 ∷ 0x92 ∷ []) ∷
    (0xE2 ∷ 0x90 ∷ 0x89 ∷ []) ∷
    (0xE2 ∷ 0x90 ∷ 0x8C ∷ []) ∷
    (0xE2 ∷ 0x90 ∷ 0x8D ∷ []) ∷
    (0xE2 ∷ 0x90 ∷ 0x8A ∷ []) ∷
    (0xC2 ∷ 0xB0 ∷ []) ∷
    (0xC2 ∷ 0xB1 ∷ []) ∷
    (0xE2 ∷ 0x90 ∷ 0xA4 ∷ []) ∷
    (0xE2 ∷ 0x90 ∷ 0x8B ∷ []) ∷
    (0xE2 ∷ 0x94 ∷ 0x98 ∷ []) ∷
    (0xE2 ∷ 0x94 ∷ 0x90 ∷ []) ∷
    (0xE2 ∷ 0x94 ∷ 0x8C ∷ []) ∷
    (0xE2 ∷ 0x94 ∷ 0x94 ∷ []) ∷
    (0xE2 ∷ 0x94 ∷ 0xBC ∷ []) ∷
    (0xE2 ∷ 0x8E ∷ 0xBA ∷ []) ∷
    (0xE2 ∷ 0x8E ∷ 0xBB ∷ []) ∷
    (0xE2 ∷ 0x94 ∷ 0x80 ∷ []) ∷
    (0xE2 ∷ 0x8E ∷ 0xBC ∷ []) ∷
    (0xE2 ∷ 0x8E ∷ 0xBD ∷ []) ∷
    (0xE2 ∷ 0x94 ∷ 0x9C ∷ []) ∷
    (0xE2 ∷ 0x94 ∷ 0xA4 ∷ []) ∷
    (0xE2 ∷ 0x94 ∷ 0xB4 ∷ []) ∷
    (0xE2 ∷ 0x94 ∷ 0xAC ∷ []) ∷
    (0xE2 ∷ 0x94 ∷ 0x82 ∷ []) ∷
    (0xE2 ∷ 0x89 ∷ 0xA4 ∷ []) ∷
    (0xE2 ∷ 0x89 ∷ 0xA5 ∷ []) ∷
    (0xCF ∷ 0x80 ∷ []) ∷
    (0xE2 ∷ 0x89 ∷ 0xA0 ∷ []) ∷
    (0xC2 ∷ 0xA3 ∷ []) ∷
    (0xC2 ∷ 0xB7 ∷ []) ∷ []

-- A point in the input: the parser's kind of state, the bytes collected in it, and the state of the character sets. The
-- text of an operating system command is not collected.
pub record Reading : Type 0 where
  pub kind : Kind
  pub collected : List ℕ
  pub state : CharsetState

abbrev pub start : Reading
start = record { kind = Ground; collected = []; state = initial_state }

abbrev pub collected_after : Kind → List ℕ → ℕ → List ℕ
collected_after OscString text b = text
collected_after _ text b = text ++ b ∷ []

-- The state of the character sets after a byte that ends a character, or a sequence with the given numbers and
-- intermediates.
abbrev pub state_at_end : ending.Ending → CharsetState → List (List ℕ) → List ℕ → ℕ → CharsetState
state_at_end ends.Character d groups intermediates b = after_character d
state_at_end ends.EscDispatch d groups intermediates b = after_escape d intermediates b
state_at_end ends.CsiDispatch d groups intermediates b = after_sequence d groups intermediates b
state_at_end _ d groups intermediates b = d

abbrev pub state_after_sequence : ending.Ending → Reading → ℕ → CharsetState
state_after_sequence end r b =
    state_at_end end r.state (table_of (parameter_text r.collected)).groups (intermediates_of r.collected) b

-- The reading after a byte, by the transition that the byte causes.
abbrev pub reading_by : Reading → ℕ → Transition → Reading
reading_by r b (Collect kind) = record { kind = kind; collected = collected_after r.kind r.collected b; state = r.state }
reading_by r b Drop = r
reading_by r b Execute = record r { state = after_control r.state b }
reading_by r b (End kind end) = record { kind = kind; collected = []; state = state_after_sequence end r b }

-- The reading after a byte. The transitions are the parser's own; in the ground state, each byte of a character above
-- U+007F counts as a character.
abbrev pub next_reading : Reading → ℕ → Reading
next_reading r b = reading_by r b (transition_of r.kind (class_of b))

abbrev pub is_ground : Kind → Bool
is_ground Ground = true
is_ground _ = false

abbrev pub is_graphics : Charset → Bool
is_graphics Graphics = true
is_graphics Ascii = false

-- A byte from 0x5F to 0x7E is printed in DEC Special Graphics.
abbrev pub is_drawing : Kind → CharsetState → Bool
is_drawing kind d = is_ground kind && is_graphics (current_set d)

-- The bytes that are written for a byte.
abbrev pub output_of : Kind → CharsetState → ℕ → List ℕ
output_of kind d b =
    if nat_le 0x5F b && (nat_lt b 0x7F && is_drawing kind d) then slice_index_or glyphs (b - 0x5F) [] else b ∷ []

abbrev pub reading_after : Reading → List ℕ → Reading
reading_after r [] = r
reading_after r (b ∷ bytes) = reading_after (next_reading r b) bytes

-- The bytes that are written for the given bytes.
abbrev pub translation : Reading → List ℕ → List ℕ
translation r [] = []
translation r (b ∷ bytes) = output_of r.kind r.state b ++ translation (next_reading r b) bytes
