-- The data that a scanner holds about the bytes that it has read, the states of the automaton that this data can
-- represent, and the meaning of the events that the scanner returns.
use Rattle.std.specs.Prelude.{◌≡◌, ◌≢◌, ℕ, ◌<◌, ◌≤◌, ◌==◌, ◌&&◌, ◌||◌, nat_le, Bool, false, List, [], ◌∷◌, ◌++◌, length, map, option_to_list}
use Rattle.vt_scan.specs.Characters.{is_beginning}
use Rattle.vt_scan.specs.Parameters.{GroupTable, table_of}
use Rattle.vt_scan.specs.Automaton as automaton
use Rattle.vt_scan.specs.Automaton.{State, Step, is_parameter, parameter_text, intermediates_of, parts_of, step_in, run}
use Rattle.vt_scan.specs.declared.table.Kind.{Kind}
use Rattle.vt_scan.specs.declared.table.Kind.TheVariants.{Ground, Escape, CsiEntry, CsiParam}
use Rattle.vt_scan.specs.declared.table.Kind.TheVariants.{CsiIgnore, OscString, Skip}
use Rattle.vt_scan.specs.Table.{class_of, transition_of}
use Rattle.vt_scan.specs.declared.table.Ending.TheVariants.{EscDispatch}
use Rattle.vt_scan.specs.declared.table.Transition.TheVariants.{End}
use Rattle.vt_scan.specs.declared.event.Event as event
use Rattle.vt_scan.specs.declared.event.Event.TheVariants as given
use Rattle.vt_scan.specs.declared.event.Events.{Events}

-- The value of a scanner. A field that the scanner's current kind of state does not use may have an outdated value.
pub record ScannerValue : Type 0 where
  pub kind : Kind
  -- The bytes of an incomplete character.
  pub unfinished : List ℕ
  -- The numbers of a control sequence.
  pub table : GroupTable
  -- The private marker and intermediates, at most two bytes.
  pub intermediates : List ℕ
  -- The text of an operating system command.
  pub text : List ℕ

-- The numbers and intermediates that the scanner holds are those of the collected bytes `text`.
pub record ReadsSequence (held : ScannerValue) (text : List ℕ) : Type 0 where
  pub table : held.table ≡ table_of (parameter_text text)
  pub intermediates : held.intermediates ≡ intermediates_of text

-- The scanner holds the data that a state with the given kind and the given collected bytes requires.
abbrev pub Reads : ScannerValue → Kind → List ℕ → Type 0
Reads held Ground text = held.unfinished ≡ text
Reads held CsiIgnore text = Unit {0}
Reads held OscString text = held.text ≡ text
Reads held Skip text = Unit {0}
Reads held _ text = ReadsSequence held text

-- The scanner can be in the given state: it holds all data that the state's future events depend on.
pub record StandsFor (held : ScannerValue) (state : State) : Type 0 where
  pub kind : held.kind ≡ state.kind
  pub reads : Reads held held.kind state.collected

-- The collected bytes if the state is inside an operating system command, and no bytes otherwise, because only the text
-- of a command is stored byte by byte.
abbrev pub unfinished_command : Kind → List ℕ → List ℕ
unfinished_command OscString text = text
unfinished_command _ text = []

-- The automaton's event that corresponds to an event of the scanner, with lists taken from the data that the scanner
-- holds.
abbrev pub event_of : ScannerValue → event.Event → automaton.Event
event_of held (given.Character c) = automaton.Character c
event_of held (given.Executed b) = automaton.Executed b
event_of held (given.Escape b) = automaton.EscDispatch held.intermediates b
event_of held (given.Csi b) = automaton.CsiDispatch held.table.groups held.intermediates b
event_of held given.Osc = automaton.OscDispatch (parts_of held.text)

-- The automaton's events that correspond to events of a scanner with the given value, in the same order.
abbrev pub events_in : ScannerValue → Events → List automaton.Event
events_in held events = map (event_of held) (option_to_list events.first ++ option_to_list events.second)

-- The scanner can be in the state after the step, and the events that the scanner returned correspond exactly to the
-- events of the step.
pub record Follows (new : ScannerValue) (answer : Events) (step : Step) : Type 0 where
  pub stands : StandsFor new step.state
  pub means : events_in new answer ≡ step.events

-- The byte is printable ASCII.
abbrev pub IsPrintableByte : ℕ → Type 0
IsPrintableByte b = (0x20 ≤ b) × (b < 0x7F)

-- The scanner is in the ground state with no incomplete character, and the byte is printable ASCII.
abbrev pub ReadsItself : ScannerValue → ℕ → Type 0
ReadsItself held b = (held.kind ≡ Ground) × (held.unfinished ≡ []) × (0x20 ≤ b) × (b < 0x7F)

-- The scanner is in the ground state with no incomplete character, and the byte is a control character other than
-- ESC.
abbrev pub ExecutesItself : ScannerValue → ℕ → Type 0
ExecutesItself held b = (held.kind ≡ Ground) × (held.unfinished ≡ []) × (b < 0x20) × (b ≢ 0x1B)

-- The scanner is in the ground state with no incomplete character, and the byte is neither ASCII nor the first byte of a
-- character.
abbrev pub IsStray : ScannerValue → ℕ → Type 0
IsStray held b = (held.kind ≡ Ground) × (held.unfinished ≡ []) × (0x80 ≤ b) × (is_beginning (b ∷ []) ≡ false)

-- Feeding the given byte performs the automaton's step from every state that the scanner can be in, and returns the
-- events of that step.
abbrev pub Feeds : ScannerValue → ℕ → ScannerValue → Events → Type 0
Feeds old b new answer =
    (state : State) → StandsFor old state → Follows new answer (step_in state.kind state.collected b)

-- Feeding the given bytes one by one performs the automaton's run from every state that the scanner can be in, and the
-- run issues exactly the given events.
abbrev pub FeedsAll : ScannerValue → List ℕ → ScannerValue → List automaton.Event → Type 0
FeedsAll old bytes new events =
    (state : State) → StandsFor old state → StandsFor new (run state bytes).state × ((run state bytes).events ≡ events)

-- Reading the given bytes produces no events, whichever state the given scanner stands for.
abbrev pub HasNoEvent : ScannerValue → List ℕ → Type 0
HasNoEvent held bytes = (state : State) → StandsFor held state → (run state bytes).events ≡ []

-- The byte is an intermediate byte (ECMA-48, section 5.4, and ECMA-35).
abbrev pub is_intermediate : ℕ → Bool
is_intermediate b = nat_le 0x20 b && nat_le b 0x2F

-- The byte is a private marker (ECMA-48, section 5.4.1).
abbrev pub is_marker : ℕ → Bool
is_marker b = nat_le 0x3C b && nat_le b 0x3F

-- After ESC, the byte introduces an ignored control string: DCS, SOS, PM or APC.
abbrev pub starts_skipped : ℕ → Bool
starts_skipped b = (b == 0x50) || ((b == 0x58) || ((b == 0x5E) || (b == 0x5F)))

-- After ESC, the byte introduces a control string: an operating system command, or DCS, SOS, PM or APC, which are
-- ignored.
abbrev pub starts_string : ℕ → Bool
starts_string b = (b == 0x5D) || starts_skipped b

-- The byte is part of the beginning of a sequence. In the ground state with no incomplete character, such a byte is
-- ESC; after ESC, it is another ESC, `[`, an intermediate byte, or a byte that introduces a control string; after
-- `ESC [`, it is a private marker or a parameter byte; and after one of these, it is a parameter byte.
abbrev pub is_introducer : Kind → List ℕ → ℕ → Bool
is_introducer Ground unfinished b = (length unfinished == 0) && (b == 0x1B)
is_introducer Escape unfinished b = (b == 0x1B) || ((b == 0x5B) || (starts_string b || is_intermediate b))
is_introducer CsiEntry unfinished b = is_marker b || is_parameter b
is_introducer CsiParam unfinished b = is_parameter b
is_introducer _ unfinished b = false

-- The byte is a final byte of a control sequence (ECMA-48, section 5.4).
abbrev pub is_final : ℕ → Bool
is_final b = nat_le 0x40 b && nat_le b 0x7E

-- In a state of the given kind, the byte ends a control sequence without intermediates, and the sequence is dispatched.
abbrev pub ends_sequence : Kind → ℕ → Bool
ends_sequence CsiEntry b = is_final b
ends_sequence CsiParam b = is_final b
ends_sequence _ b = false

-- In a state of the given kind, the byte ends an escape sequence, which is then dispatched.
abbrev pub EndsEscape : Kind → ℕ → Type 0
EndsEscape kind b = transition_of kind (class_of b) ≡ End Ground EscDispatch

-- In a state of the given kind, the byte ends an operating system command; dispatching that command is the only event
-- that the byte causes.
abbrev pub ends_command : Kind → ℕ → Bool
ends_command OscString b = (b == 0x07) || (b == 0x1B)
ends_command _ b = false
