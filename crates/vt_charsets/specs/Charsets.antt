-- The value of a translator, and the readings that it can stand for.
use Rattle.std.specs.Prelude.{◌≡◌, ℕ, List, [], ◌∷◌, ◌++◌}
use Rattle.vt_scan.specs.Automaton.{parameter_text, intermediates_of}
use Rattle.vt_scan.specs.Parameters.{GroupTable, table_of}
use Rattle.vt_scan.specs.declared.table.Kind.{Kind}
use Rattle.vt_scan.specs.declared.table.Kind.TheVariants.{Ground}
use Rattle.vt_charsets.specs.Translation.{Reading, next_reading, output_of, reading_after, translation}
use Rattle.vt_charsets.specs.declared.sets.CharsetState.{CharsetState}

pub record CharsetsValue : Type 0 where
  pub kind : Kind
  -- The numbers of a control sequence.
  pub table : GroupTable
  -- The private marker and intermediates, at most two bytes.
  pub intermediates : List ℕ
  pub state : CharsetState

abbrev pub charsets_value : Kind → GroupTable → List ℕ → CharsetState → CharsetsValue
charsets_value kind table intermediates state =
    record { kind = kind; table = table; intermediates = intermediates; state = state }

-- The translator holds the numbers, the intermediates and the character sets of the reading. In the ground state,
-- nothing is collected.
pub record StandsFor (held : CharsetsValue) (r : Reading) : Type 0 where
  pub kind : held.kind ≡ r.kind
  pub table : held.table ≡ table_of (parameter_text r.collected)
  pub intermediates : held.intermediates ≡ intermediates_of r.collected
  pub state : held.state ≡ r.state
  pub fresh : held.kind ≡ Ground → r.collected ≡ []

-- Reading the byte takes the translator from each reading that it stands for to the next one.
abbrev pub Steps : CharsetsValue → ℕ → CharsetsValue → Type 0
Steps old b new = (r : Reading) → StandsFor old r → StandsFor new (next_reading r b)

-- The byte leaves each reading that the translator stands for unchanged, and is its own output.
pub record Keeps (r : Reading) (b : ℕ) : Type 0 where
  pub reading : next_reading r b ≡ r
  pub output : output_of r.kind r.state b ≡ b ∷ []

abbrev pub KeepsByte : CharsetsValue → ℕ → Type 0
KeepsByte held b = (r : Reading) → StandsFor held r → Keeps r b

-- The translator then stands for the reading after the bytes, and their translation is appended.
pub record Translated (bytes : List ℕ) (new : CharsetsValue) (before : List ℕ) (after : List ℕ) (r : Reading) : Type 0 where
  pub stands : StandsFor new (reading_after r bytes)
  pub output : after ≡ before ++ translation r bytes

-- `Translated` holds for each reading that the translator stood for before.
abbrev pub Translates : CharsetsValue → List ℕ → CharsetsValue → List ℕ → List ℕ → Type 0
Translates old bytes new before after = (r : Reading) → StandsFor old r → Translated bytes new before after r
