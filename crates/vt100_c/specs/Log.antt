-- The log of the parser that a handle holds; other kinds of values have no log.
use Rattle.std.specs.Prelude.{◌≡◌, ℕ, List, [], Option, Some, None}
use Rattle.vt100_c.specs.Due.{due_to}
use Rattle.vt100_c.specs.Records.{Logged, bit_of, log_after_clear, nothing_logged}
use Rattle.vt100_c.specs.declared.object.Object.{Object}
use Rattle.vt100_c.specs.declared.object.Source.{Source}
use Rattle.vt100_c.specs.declared.object.Source.TheVariants.{Parser, Screen, Mirror, Capture, Charsets}

abbrev pub log_in : Source → Option Logged
log_in (Parser parser) = Some parser.callbacks
log_in (Screen screen) = None
log_in (Mirror mirror) = None
log_in (Capture written) = None
log_in (Charsets charsets) = None

abbrev pub log_at : Option Object → Option Logged
log_at None = None
log_at (Some object) = log_in object.source

-- The records of a log; empty if there is no log.
abbrev pub records_of : Option Logged → List ℕ
records_of None = []
records_of (Some log) = log.records

-- 1 if there is a log with no missing records, otherwise 0.
abbrev pub whole_of : Option Logged → ℕ
whole_of None = 0
whole_of (Some log) = bit_of log.is_whole

-- The value after its log, if any, is cleared.
abbrev pub with_emptied : Source → Source
with_emptied (Parser parser) = Parser (record parser { callbacks = log_after_clear parser.callbacks })
with_emptied (Screen screen) = Screen screen
with_emptied (Mirror mirror) = Mirror mirror
with_emptied (Capture written) = Capture written
with_emptied (Charsets charsets) = Charsets charsets

abbrev pub Empties : Source → ℕ → Source → Type 0
Empties old status new = (status ≡ due_to (log_in old)) × (new ≡ with_emptied old)

-- The value after its log, if any, is cleared and its limit is set to `bytes` bytes.
abbrev pub with_limit : (bytes : ℕ) → Source → Source
with_limit bytes (Parser parser) =
    Parser (record parser { callbacks = nothing_logged parser.callbacks.wanted bytes })
with_limit bytes (Screen screen) = Screen screen
with_limit bytes (Mirror mirror) = Mirror mirror
with_limit bytes (Capture written) = Capture written
with_limit bytes (Charsets charsets) = Charsets charsets

abbrev pub Limits : (bytes : ℕ) → Source → ℕ → Source → Type 0
Limits bytes old status new = (status ≡ due_to (log_in old)) × (new ≡ with_limit bytes old)
