-- The parser's events for input, with the characters that are printed in DEC Special Graphics replaced.
use Rattle.std.specs.Prelude.{ℕ, ◌-◌, ◌&&◌, nat_le, nat_lt, List, [], ◌∷◌, ◌++◌, map, if◌then◌else◌, slice_index_or}
use Rattle.vt_scan.specs.Automaton.{Event, State, Character, step_in}
use Rattle.vt_charsets.specs.Sets.{current_set}
use Rattle.vt_charsets.specs.Translation.{Reading, is_graphics, next_reading}
use Rattle.vt_charsets.specs.declared.sets.CharsetState.{CharsetState}

-- The code points of the bytes 0x5F to 0x7E in DEC Special Graphics.
abbrev pub code_points : List ℕ
code_points =
    0x20 ∷ 0x25C6 ∷ 0x2592 ∷ 0x2409 ∷ 0x240C ∷ 0x240D ∷ 0x240A ∷ 0xB0 ∷ 0xB1 ∷ 0x2424 ∷ 0x240B ∷ 0x2518 ∷ 0x2510 ∷ 0x250C
    ∷ 0x2514 ∷ 0x253C ∷ 0x23BA ∷ 0x23BB ∷ 0x2500 ∷ 0x23BC ∷ 0x23BD ∷ 0x251C ∷ 0x2524 ∷ 0x2534 ∷ 0x252C ∷ 0x2502 ∷ 0x2264
    ∷ 0x2265 ∷ 0x3C0 ∷ 0x2260 ∷ 0xA3 ∷ 0xB7 ∷ []

-- The character that is printed for a character: itself, unless it is one of DEC Special Graphics.
abbrev pub drawn_character : CharsetState → ℕ → ℕ
drawn_character d c =
    if nat_le 0x5F c && (nat_lt c 0x7F && is_graphics (current_set d)) then slice_index_or code_points (c - 0x5F) 0 else c

abbrev pub drawn_event : CharsetState → Event → Event
drawn_event d (Character c) = Character (drawn_character d c)
drawn_event d event = event

-- The events of the parser's steps for the bytes, each with the character sets that are in effect at its byte.
abbrev pub drawn_events : State → Reading → List ℕ → List Event
drawn_events s r [] = []
drawn_events s r (b ∷ bytes) =
    map (drawn_event r.state) (step_in s.kind s.collected b).events
    ++ drawn_events (step_in s.kind s.collected b).state (next_reading r b) bytes
