-- The binary record of a call to a callback, as C reads it: the kind in one byte, two numbers of four bytes each, the
-- length of the text in eight bytes, and the text. All numbers are little-endian.
use Rattle.std.specs.Prelude.{◌≡◌, ◌⊎◌, ◌==◌, ◌&&◌, ◌<◌, ◌-◌, ◌*◌, ◌/◌, ◌%◌, ◌^◌, ℕ, Bool, true, false}
use Rattle.std.specs.Prelude.{List, [], ◌∷◌, ◌++◌, length, min, Option, Some, None}
use Rattle.std.specs.Int.{w16, w32, w64, to_le_bytes}
use Rattle.std.specs.List.{flat_map}
use Rattle.vt_rows.specs.Plain.{plain_text}
use Rattle.vt_rows.specs.Row.{RowValue, trimmed_row}
use Rattle.vt_screen.specs.Calls.{CallValue, AudibleBell, VisualBell, Resize, SetWindowIconName, SetWindowTitle}
use Rattle.vt_screen.specs.Calls.{CopyToClipboard, PasteFromClipboard, UnhandledChar, UnhandledControl}
use Rattle.vt_screen.specs.Calls.{UnhandledEscape, UnhandledCsi, UnhandledOsc, OnScroll}
use Rattle.vt_screen.specs.Screen.{ScreenValue}

-- ---- one record

abbrev pub kind_of : CallValue → ℕ
kind_of AudibleBell = 0
kind_of VisualBell = 1
kind_of (Resize rows cols) = 2
kind_of (SetWindowIconName name) = 3
kind_of (SetWindowTitle title) = 4
kind_of (CopyToClipboard kind text) = 5
kind_of (PasteFromClipboard kind) = 6
kind_of (UnhandledChar code) = 7
kind_of (UnhandledControl byte) = 8
kind_of (UnhandledEscape first second byte) = 9
kind_of (UnhandledCsi first second groups byte) = 10
kind_of (UnhandledOsc parts) = 11
kind_of (OnScroll row alternate) = 12

-- The number that encodes an optional byte: the byte itself, or 256 if there is no byte.
abbrev pub number_of : Option ℕ → ℕ
number_of None = 256
number_of (Some byte) = byte

abbrev pub bit_of : Bool → ℕ
bit_of true = 1
bit_of false = 0

abbrev pub first_of : CallValue → ℕ
first_of AudibleBell = 0
first_of VisualBell = 0
first_of (Resize rows cols) = rows
first_of (SetWindowIconName name) = 0
first_of (SetWindowTitle title) = 0
first_of (CopyToClipboard kind text) = 0
first_of (PasteFromClipboard kind) = 0
first_of (UnhandledChar code) = code
first_of (UnhandledControl byte) = byte
first_of (UnhandledEscape first second byte) = number_of first
first_of (UnhandledCsi first second groups byte) = number_of first
first_of (UnhandledOsc parts) = 0
first_of (OnScroll row alternate) = bit_of alternate

abbrev pub second_of : CallValue → ℕ
second_of AudibleBell = 0
second_of VisualBell = 0
second_of (Resize rows cols) = cols
second_of (SetWindowIconName name) = 0
second_of (SetWindowTitle title) = 0
second_of (CopyToClipboard kind text) = 0
second_of (PasteFromClipboard kind) = 0
second_of (UnhandledChar code) = 0
second_of (UnhandledControl byte) = 0
second_of (UnhandledEscape first second byte) = number_of second
second_of (UnhandledCsi first second groups byte) = number_of second
second_of (UnhandledOsc parts) = 0
second_of (OnScroll row alternate) = bit_of row.wrapped

-- The encoding of a list of bytes: the length of the list in eight bytes, little-endian, followed by the bytes.
abbrev pub part_of : List ℕ → List ℕ
part_of bytes = to_le_bytes w64 (length bytes) ++ bytes

-- The encoding of a list of numbers: the length of the list in eight bytes, followed by two bytes for each number. Both
-- are little-endian.
abbrev pub group_of : List ℕ → List ℕ
group_of numbers = to_le_bytes w64 (length numbers) ++ flat_map (to_le_bytes w16) numbers

-- The plain text of a row; empty if rows are recorded without text.
abbrev pub row_text : (bare : Bool) → RowValue → List ℕ
row_text true row = []
row_text false row = plain_text 0 (length row.cells) row.cells

abbrev pub text_of : (bare : Bool) → CallValue → List ℕ
text_of bare AudibleBell = []
text_of bare VisualBell = []
text_of bare (Resize rows cols) = []
text_of bare (SetWindowIconName name) = name
text_of bare (SetWindowTitle title) = title
text_of bare (CopyToClipboard kind text) = flat_map part_of (kind ∷ text ∷ [])
text_of bare (PasteFromClipboard kind) = kind
text_of bare (UnhandledChar code) = []
text_of bare (UnhandledControl byte) = []
text_of bare (UnhandledEscape first second byte) = byte ∷ []
text_of bare (UnhandledCsi first second groups code) = to_le_bytes w32 code ++ flat_map group_of groups
text_of bare (UnhandledOsc parts) = flat_map part_of parts
text_of bare (OnScroll row alternate) = row_text bare row

abbrev pub record_with : (kind first second : ℕ) → List ℕ → List ℕ
record_with kind first second text =
    kind ∷ (to_le_bytes w32 first ++ (to_le_bytes w32 second ++ part_of text))

abbrev pub record_of : (bare : Bool) → CallValue → List ℕ
record_of bare call = record_with (kind_of call) (first_of call) (second_of call) (text_of bare call)

-- ---- the log

-- A log: the requested kinds of calls, the limit of the log in bytes, how many of these bytes are left, the records,
-- the rows that the records report, and whether no record is missing.
pub record Logged : Type 0 where
  pub wanted : ℕ
  pub limit : ℕ
  pub room : ℕ
  pub records : List ℕ
  pub rows : List RowValue
  pub is_whole : Bool

-- Whether a bit set of requested kinds contains the given kind of call.
abbrev pub is_wanted : ℕ → ℕ → Bool
is_wanted wanted kind = wanted / 2 ^ kind % 2 == 1

-- The number of the bit that requests rows without text, in the bit set of requested kinds.
abbrev pub without_text : ℕ
without_text = 13

abbrev pub is_bare : Logged → Bool
is_bare log = is_wanted log.wanted without_text

-- Whether a call must be recorded: its kind is requested, and no earlier call was lost.
abbrev pub is_due : CallValue → Logged → Bool
is_due call log = log.is_whole && is_wanted log.wanted (kind_of call)

-- The size in bytes of the log's copy of the row that a call reports, limited to the maximum of a 64-bit word; 0 if the
-- call reports no row.
abbrev pub cells_size : CallValue → ℕ
cells_size AudibleBell = 0
cells_size VisualBell = 0
cells_size (Resize height width) = 0
cells_size (SetWindowIconName name) = 0
cells_size (SetWindowTitle title) = 0
cells_size (CopyToClipboard kind text) = 0
cells_size (PasteFromClipboard kind) = 0
cells_size (UnhandledChar code) = 0
cells_size (UnhandledControl byte) = 0
cells_size (UnhandledEscape first second byte) = 0
cells_size (UnhandledCsi first second groups byte) = 0
cells_size (UnhandledOsc parts) = 0
cells_size (OnScroll row alternate) = min (length (trimmed_row row).cells * 40) (2 ^ 64 - 1)

-- The given rows, followed by the row that a call reports, if any; that row's trailing default blanks are removed.
abbrev pub rows_with : CallValue → List RowValue → List RowValue
rows_with AudibleBell rows = rows
rows_with VisualBell rows = rows
rows_with (Resize height width) rows = rows
rows_with (SetWindowIconName name) rows = rows
rows_with (SetWindowTitle title) rows = rows
rows_with (CopyToClipboard kind text) rows = rows
rows_with (PasteFromClipboard kind) rows = rows
rows_with (UnhandledChar code) rows = rows
rows_with (UnhandledControl byte) rows = rows
rows_with (UnhandledEscape first second byte) rows = rows
rows_with (UnhandledCsi first second groups byte) rows = rows
rows_with (UnhandledOsc parts) rows = rows
rows_with (OnScroll row alternate) rows = rows ++ trimmed_row row ∷ []

-- The log after the record of a call is appended.
abbrev pub with_record : CallValue → Logged → Logged
with_record call log =
    record log {
      records = log.records ++ record_of (is_bare log) call;
      rows = rows_with call log.rows;
      room = log.room - length (record_of (is_bare log) call) - cells_size call;
    }

-- The log after a record is lost.
abbrev pub with_loss : Logged → Logged
with_loss log = record log { is_whole = false }

-- An empty log that requests the kinds of calls in the bit set `wanted`, has a limit of `limit` bytes, and has no
-- missing records.
abbrev pub nothing_logged : (wanted limit : ℕ) → Logged
nothing_logged wanted limit =
    record { wanted = wanted; limit = limit; room = limit; records = []; rows = []; is_whole = true }

abbrev pub log_after_clear : Logged → Logged
log_after_clear log = nothing_logged log.wanted log.limit

-- The limit of a new parser's log: 1 MiB.
abbrev pub default_limit : ℕ
default_limit = 1048576

-- A call that must be recorded is appended to the log, or is lost because an allocation failed or the log had reached
-- its limit. After a loss, the log is incomplete, and nothing is added until the log is cleared. A call that need not
-- be recorded leaves the log unchanged.
pub record LogsIt (call : CallValue) (old new : Logged) : Type 0 where
  pub kept : is_due call old ≡ true → 0 < old.room → (new ≡ with_record call old) ⊎ (new ≡ with_loss old)
  pub full : is_due call old ≡ true → old.room ≡ 0 → new ≡ with_loss old
  pub stays : is_due call old ≡ false → new ≡ old

-- The call is logged, and the screen is unchanged.
abbrev pub Logs : CallValue → Logged → ScreenValue → Logged → ScreenValue → Type 0
Logs call old before new after = (after ≡ before) × LogsIt call old new
