-- Input that is read in several calls to `vt100_process_until` or `vt100_process_until_full`, and the records that these
-- calls leave in the log.
use Rattle.std.specs.Prelude.{◌≡◌, ℕ, Bool, true, List, [], ◌∷◌, ◌++◌, length, take, if◌then◌else◌}
use Rattle.vt_screen.specs.Calls.{CallValue}
use Rattle.vt100.specs.Parser.{ParserValue}
use Rattle.vt100_c.specs.Reading.{ReadsUntil}
use Rattle.vt100_c.specs.Records.{Logged, is_wanted, kind_of, log_after_clear, record_of, without_text}
use Rattle.vt100_c.specs.Status.{ok}

-- The parser after its log is cleared.
abbrev pub with_empty_log : ParserValue Logged → ParserValue Logged
with_empty_log parser = record parser { callbacks = log_after_clear parser.callbacks }

-- The parser `old` reads the parts of the input in order, one in each call, and becomes `new`. Each call gets bytes that
-- begin with the part, is of either kind, and returns `ok`; it loses no record. Then the caller reads the records, and
-- clears the log. All records that it reads, joined, are `records`.
abbrev pub ReadsInParts : ParserValue Logged → List (List ℕ) → (records : List ℕ) → ParserValue Logged → Type 0
ReadsInParts old [] records new = (new ≡ old) × (records ≡ [])
ReadsInParts old (part ∷ parts) records new =
    (gathers : Bool) × (bytes : List ℕ) × (logged : ParserValue Logged) × (more : List ℕ)
    × ReadsUntil gathers bytes (length part) old ok logged × (part ≡ take (length part) bytes)
    × (logged.callbacks.is_whole ≡ true) × (records ≡ logged.callbacks.records ++ more)
    × ReadsInParts (with_empty_log logged) parts more new

-- The record of a call; empty if calls of its kind are not requested.
abbrev pub record_if_wanted : (wanted : ℕ) → CallValue → List ℕ
record_if_wanted wanted call = if is_wanted wanted (kind_of call) then record_of (is_wanted wanted without_text) call else []

-- The records of the requested kinds of calls, in order.
abbrev pub records_of_calls : (wanted : ℕ) → List CallValue → List ℕ
records_of_calls wanted [] = []
records_of_calls wanted (call ∷ calls) = record_if_wanted wanted call ++ records_of_calls wanted calls
