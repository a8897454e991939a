-- The state of the scanner's automaton, and its step for a byte: the next state and at most two events. A state
-- consists of its kind and the bytes collected in it. A sequence is interpreted as a whole when its last byte
-- arrives. A run reads several bytes.
use Rattle.std.specs.Prelude.{ℕ, Bool, not, ◌&&◌, ◌==◌, nat_lt, nat_le, List, [], ◌∷◌, ◌++◌, take, filter}
use Rattle.std.specs.Prelude.{if◌then◌else◌}
use Rattle.std.specs.List.{slice_split}
use Rattle.vt_scan.specs.Table.{class_of, transition_of}
use Rattle.vt_scan.specs.Parameters.{table_of}
use Rattle.vt_scan.specs.Characters.{is_character, is_beginning, character_of}
use Rattle.vt_scan.specs.declared.table.Kind.{Kind}
use Rattle.vt_scan.specs.declared.table.Kind.TheVariants.{Ground}
use Rattle.vt_scan.specs.declared.table.Transition.{Transition}
use Rattle.vt_scan.specs.declared.table.Transition.TheVariants.{Collect, Drop, Execute, End}
use Rattle.vt_scan.specs.declared.table.Ending as ending
use Rattle.vt_scan.specs.declared.table.Ending.TheVariants as ends

-- A state of the automaton: the kind of state, and the bytes collected in this state.
pub record State : Type 0 where
  pub kind : Kind
  pub collected : List ℕ

-- An event of the automaton: a character, a control character, or a complete sequence or command.
pub data Event : Type 0 where
  -- A character to print.
  Character : (code : ℕ) → Event
  -- A control character to execute.
  Executed : (byte : ℕ) → Event
  -- An escape sequence, with its intermediates and its last byte.
  EscDispatch : (intermediates : List ℕ) (byte : ℕ) → Event
  -- A control sequence, with its groups of numbers, its private marker and intermediates, and its final byte.
  CsiDispatch : (groups : List (List ℕ)) (intermediates : List ℕ) (byte : ℕ) → Event
  -- An operating system command, with its first 16 parts; parts are separated by `;`.
  OscDispatch : (parts : List (List ℕ)) → Event

-- The result of a step of the automaton: the next state and the events issued.
pub record Step : Type 0 where
  pub state : State
  pub events : List Event

-- The ground state with no bytes collected.
abbrev pub start : State
start = record { kind = Ground; collected = [] }

-- The byte is a parameter byte: a digit, `:` or `;`.
abbrev pub is_parameter : ℕ → Bool
is_parameter b = nat_le 0x30 b && nat_le b 0x3B

-- The parameter bytes among the collected bytes.
abbrev pub parameter_text : List ℕ → List ℕ
parameter_text text = filter is_parameter text

-- The private marker and intermediates among the collected bytes: the first two bytes that are not parameter bytes.
abbrev pub intermediates_of : List ℕ → List ℕ
intermediates_of text = take 2 (filter (λ b. not (is_parameter b)) text)

-- The first 16 parts of an operating system command; parts are separated by `;`.
abbrev pub parts_of : List ℕ → List (List ℕ)
parts_of text = take 16 (slice_split (λ b. b == 0x3B) text)

-- The events issued when a byte ends a collected sequence. Depending on the ending, these are no events; the byte
-- itself, as a character or a control character; the complete sequence; or the complete command, possibly followed by
-- the byte as a control character.
abbrev pub events_at_end : ending.Ending → List ℕ → ℕ → List Event
events_at_end ends.Nothing text b = []
events_at_end ends.Character text b = Character b ∷ []
events_at_end ends.Executed text b = Executed b ∷ []
events_at_end ends.EscDispatch text b = EscDispatch (intermediates_of text) b ∷ []
events_at_end ends.CsiDispatch text b = CsiDispatch (table_of (parameter_text text)).groups (intermediates_of text) b ∷ []
events_at_end ends.OscDispatch text b = OscDispatch (parts_of text) ∷ []
events_at_end ends.OscDispatchAndExecuted text b = OscDispatch (parts_of text) ∷ Executed b ∷ []

-- The automaton's step for a byte, given the kind of state, the bytes collected so far, the byte itself, and the
-- transition to perform.
abbrev pub step_after : Kind → List ℕ → ℕ → Transition → Step
step_after kind text b (Collect next) = record { state = record { kind = next; collected = text ++ b ∷ [] }; events = [] }
step_after kind text b Drop = record { state = record { kind = kind; collected = text }; events = [] }
step_after kind text b Execute = record { state = record { kind = kind; collected = text }; events = Executed b ∷ [] }
step_after kind text b (End next end) = record { state = record { kind = next; collected = [] }; events = events_at_end end text b }

-- The automaton's step for a byte in the ground state when no character is incomplete. A byte of 0x80 or above begins a
-- character or becomes U+FFFD.
unfoldable pub fresh_step : ℕ → Step
fresh_step b =
    if nat_lt b 0x80 then step_after Ground [] b (transition_of Ground (class_of b))
    else if is_beginning (b ∷ []) then record { state = record { kind = Ground; collected = b ∷ [] }; events = [] }
    else record { state = start; events = Character 0xFFFD ∷ [] }

-- The automaton's step for a byte in the ground state after the given bytes of an incomplete character. If the byte
-- cannot continue the character, the incomplete character becomes a single U+FFFD, and the byte is then read on its
-- own (Unicode Standard, section 3.9: the longest prefix of a well-formed sequence is replaced by one U+FFFD).
unfoldable pub character_step : List ℕ → ℕ → Step
character_step text b =
    if is_character (text ++ b ∷ [])
    then record { state = start; events = Character (character_of (text ++ b ∷ [])) ∷ [] }
    else if is_beginning (text ++ b ∷ [])
    then record { state = record { kind = Ground; collected = text ++ b ∷ [] }; events = [] }
    else record { state = (fresh_step b).state; events = Character 0xFFFD ∷ (fresh_step b).events }

-- The automaton's step for one byte, given the kind of state and the bytes collected so far.
abbrev pub step_in : Kind → List ℕ → ℕ → Step
step_in Ground [] b = fresh_step b
step_in Ground (x ∷ xs) b = character_step (x ∷ xs) b
step_in kind text b = step_after kind text b (transition_of kind (class_of b))

-- The result of reading the bytes one by one: the state after the last byte, and the events of all steps.
abbrev pub run : State → List ℕ → Step
run state [] = record { state = state; events = [] }
run state (b ∷ bytes) =
    let step = step_in state.kind state.collected b in
    let rest = run step.state bytes in
    record { state = rest.state; events = step.events ++ rest.events }
