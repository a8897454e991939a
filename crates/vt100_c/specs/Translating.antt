-- Translating character sets.
use Rattle.std.specs.Prelude.{◌≡◌, ◌*◌, ℕ, List, length, nat_le, take, drop, Option, Some, None, if◌then◌else◌}
use Rattle.vt100_c.specs.Status.{ok, bad_argument, no_object, wrong_kind}
use Rattle.vt100_c.specs.declared.object.Object.{Object}
use Rattle.vt100_c.specs.declared.object.Source.{Source}
use Rattle.vt100_c.specs.declared.object.Source.TheVariants.{Parser, Screen, Mirror, Capture, Charsets}
use Rattle.vt_charsets.specs.Charsets.{CharsetsValue, StandsFor}
use Rattle.vt_charsets.specs.Translation.{Reading, reading_after, start, translation}

-- The value is a translator at the start of its input.
abbrev pub IsNewCharsets : Source → Type 0
IsNewCharsets (Charsets charsets) = StandsFor charsets start
IsNewCharsets (Parser parser) = ⊥
IsNewCharsets (Screen screen) = ⊥
IsNewCharsets (Mirror mirror) = ⊥
IsNewCharsets (Capture written) = ⊥

-- The status of a call that translates `len` bytes into a buffer of `room` bytes: `ok` if the buffer has room for three
-- times as many bytes, otherwise `bad_argument`.
abbrev pub room_status : (len room : ℕ) → ℕ
room_status len room = if nat_le (3 * len) room then ok else bad_argument

-- The status of such a call on a value: `wrong_kind` if it is not a translator.
abbrev pub translation_status : (len room : ℕ) → Source → ℕ
translation_status len room (Charsets charsets) = room_status len room
translation_status len room (Parser parser) = wrong_kind
translation_status len room (Screen screen) = wrong_kind
translation_status len room (Mirror mirror) = wrong_kind
translation_status len room (Capture written) = wrong_kind

-- The status of such a call on a handle: `no_object` if it is empty.
abbrev pub translation_due : (len room : ℕ) → Option Object → ℕ
translation_due len room None = no_object
translation_due len room (Some object) = translation_status len room object.source

-- From the given point of the input, the translator has read the bytes, and the buffer begins with their translation,
-- which is `count` bytes long. The rest of the buffer is unchanged.
pub record TranslatesFrom (bytes before after : List ℕ) (count : ℕ) (new : CharsetsValue) (r : Reading) : Type 0 where
  pub stands : StandsFor new (reading_after r bytes)
  pub len : count ≡ length (translation r bytes)
  pub output : take count after ≡ translation r bytes
  pub rest : drop count after ≡ drop count before

-- The translator has read the bytes from each point of the input that it stood for.
abbrev pub TranslatesInto : (bytes before after : List ℕ) → (count : ℕ) → CharsetsValue → CharsetsValue → Type 0
TranslatesInto bytes before after count old new =
    (r : Reading) → StandsFor old r → TranslatesFrom bytes before after count new r

abbrev pub TranslatesSource : (bytes before after : List ℕ) → (count : ℕ) → Source → Source → Type 0
TranslatesSource bytes before after count (Charsets old) (Charsets new) = TranslatesInto bytes before after count old new
TranslatesSource bytes before after count old new = ⊥

-- The handle's translator has read the bytes, and the text stored in the handle is unchanged.
abbrev pub TranslatesHeld : (bytes before after : List ℕ) → (count : ℕ) → Option Object → Option Object → Type 0
TranslatesHeld bytes before after count (Some old) (Some new) =
    TranslatesSource bytes before after count old.source new.source × (new.text ≡ old.text)
TranslatesHeld bytes before after count old new = ⊥
