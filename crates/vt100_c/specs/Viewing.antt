-- Calls to a mirror that a handle holds: their results as C receives them, and the calls for its viewers.
use Rattle.std.specs.Prelude.{◌≡◌, ℕ, Bool, false, List, Option, Some, None, Result, Ok, Err, string_bytes, string_len}
use Rattle.std.specs.Prelude.{if◌then◌else◌}
use Rattle.vt_cells.specs.declared.error.Error.{Error}
use Rattle.vt_mirror.specs.Calls.{Asks, JoinsMirror, Leaves}
use Rattle.vt_mirror.specs.Mirror.{MirrorValue, is_current, PutsAmong, note_of}
use Rattle.vt_mirror.specs.declared.update.Update.{Update}
use Rattle.vt_mirror.specs.declared.update.Update.TheVariants.{Diff, Full}
use Rattle.vt_screen.specs.declared.diff_options.DiffOptions.{DiffOptions}
use Rattle.vt100_c.specs.Status.{ok, bad_argument, status_of, wrong_kind}
use Rattle.vt_mirror.specs.Watching.{IsFresh}
use Rattle.vt_scan.specs.Automaton.{start}
use Rattle.vt_scan.specs.Scanner.{StandsFor}
use Rattle.vt_screen.specs.Screen.{fresh_screen}
use Rattle.vt100.specs.Parser.{parser_value}
use Rattle.vt100_c.specs.Calls.{Refuses}
use Rattle.vt100_c.specs.Shown.{bit}
use Rattle.vt100_c.specs.declared.object.Object.{Object}
use Rattle.vt100_c.specs.declared.object.Source.{Source}
use Rattle.vt100_c.specs.declared.object.Source.TheVariants.{Parser, Screen, Mirror, Capture, Charsets}

-- ---- joining and leaving

-- If the result is a number, the status is `ok`, and the caller's variable holds this number after the call. If the
-- result is an error, the status is that of the error, and the variable is unchanged.
abbrev pub GivesNumber : Result ℕ Error → (status before after : ℕ) → Type 0
GivesNumber (Ok number) status before after = (status ≡ ok) × (after ≡ number)
GivesNumber (Err error) status before after = (status ≡ status_of error) × (after ≡ before)

-- The effect of adding a viewer to a mirror: the viewer's number is stored in the caller's variable, which is unchanged
-- if the call fails. The call does not change which viewers are up to date.
pub record Joins (status before after : ℕ) (old new : MirrorValue) : Type 0 where
  pub answer : Result ℕ Error
  pub parser : new.parser ≡ old.parser
  pub call : JoinsMirror old.viewers answer new.viewers
  pub current : (other : ℕ) → is_current new other ≡ is_current old other
  pub gives : GivesNumber answer status before after

-- The viewer with the given number leaves the mirror; if there is no such viewer, the status is `bad_argument`. All
-- other viewers that were up to date still are.
pub record LeavesIt (viewer status : ℕ) (old new : MirrorValue) : Type 0 where
  pub answer : Bool
  pub parser : new.parser ≡ old.parser
  pub call : Leaves old.viewers viewer answer new.viewers
  pub current : PutsAmong old.current viewer false new.current
  pub answers : status ≡ (if answer then ok else bad_argument)

-- ---- updates

-- The numbers that a request for an update stores: the screen's size in rows and columns if the update is a full
-- redraw, and the length of the update's text in bytes.
pub record UpdateNumbers : Type 0 where
  pub rows : ℕ
  pub cols : ℕ
  pub len : ℕ

abbrev pub numbers : (rows cols len : ℕ) → UpdateNumbers
numbers rows cols len = record { rows = rows; cols = cols; len = len }

-- The numbers stored after a request for an update: for a diff, the size is 0 by 0; without an update, the numbers are
-- unchanged.
abbrev pub numbers_after : Result (Option Update) Error → UpdateNumbers → UpdateNumbers
numbers_after (Ok (Some (Full rows cols text))) before = numbers rows cols (string_len text)
numbers_after (Ok (Some (Diff text))) before = numbers 0 0 (string_len text)
numbers_after (Ok None) before = before
numbers_after (Err error) before = before

-- The stored text after a request for an update; unchanged if there is no update.
abbrev pub text_after : Result (Option Update) Error → List ℕ → List ℕ
text_after (Ok (Some (Full rows cols text))) before = string_bytes text
text_after (Ok (Some (Diff text))) before = string_bytes text
text_after (Ok None) before = before
text_after (Err error) before = before

abbrev pub status_after : Result (Option Update) Error → ℕ
status_after (Ok (Some update)) = ok
status_after (Ok None) = bad_argument
status_after (Err error) = status_of error

-- The effect of requesting an update: the text of the update and its numbers are stored.
pub record Updates (options : DiffOptions) (viewer status : ℕ) (text text' : List ℕ) (before after : UpdateNumbers)
    (old new : MirrorValue) : Type 0 where
  pub answer : Result (Option Update) Error
  pub call : Asks options old viewer answer new
  pub answers : status ≡ status_after answer
  pub keeps : text' ≡ text_after answer text
  pub gives : after ≡ numbers_after answer before

-- The value is a new mirror with a blank screen of the given size and scrollback capacity, and no viewers.
abbrev pub IsNewMirror : (rows cols capacity : ℕ) → Source → Type 0
IsNewMirror rows cols capacity (Mirror mirror) =
    StandsFor mirror.parser.scanner start
    × (mirror.parser ≡ parser_value mirror.parser.scanner (fresh_screen rows cols capacity) mirror.parser.callbacks)
    × IsFresh mirror
IsNewMirror rows cols capacity (Parser parser) = ⊥
IsNewMirror rows cols capacity (Screen screen) = ⊥
IsNewMirror rows cols capacity (Capture written) = ⊥
IsNewMirror rows cols capacity (Charsets charsets) = ⊥

-- A viewer joins the mirror that a value contains; if the value contains no mirror, the status is `wrong_kind`.
abbrev pub JoinsSource : (before after : ℕ) → Source → ℕ → Source → Type 0
JoinsSource before after (Mirror old) status (Mirror new) = Joins status before after old new
JoinsSource before after (Mirror old) status (Parser new) = ⊥
JoinsSource before after (Mirror old) status (Screen new) = ⊥
JoinsSource before after (Mirror old) status (Capture new) = ⊥
JoinsSource before after (Mirror old) status (Charsets new) = ⊥
JoinsSource before after (Parser old) status new = Refuses wrong_kind (Parser old) status new
JoinsSource before after (Screen old) status new = Refuses wrong_kind (Screen old) status new
JoinsSource before after (Capture old) status new = Refuses wrong_kind (Capture old) status new
JoinsSource before after (Charsets old) status new = Refuses wrong_kind (Charsets old) status new

-- The viewer with the number `viewer` leaves the mirror that a value contains; if the value is not a mirror, the status
-- is `wrong_kind`.
abbrev pub LeavesSource : (viewer : ℕ) → Source → ℕ → Source → Type 0
LeavesSource viewer (Mirror old) status (Mirror new) = LeavesIt viewer status old new
LeavesSource viewer (Mirror old) status (Parser new) = ⊥
LeavesSource viewer (Mirror old) status (Screen new) = ⊥
LeavesSource viewer (Mirror old) status (Capture new) = ⊥
LeavesSource viewer (Mirror old) status (Charsets new) = ⊥
LeavesSource viewer (Parser old) status new = Refuses wrong_kind (Parser old) status new
LeavesSource viewer (Screen old) status new = Refuses wrong_kind (Screen old) status new
LeavesSource viewer (Capture old) status new = Refuses wrong_kind (Capture old) status new
LeavesSource viewer (Charsets old) status new = Refuses wrong_kind (Charsets old) status new

-- A viewer of the mirror that a value contains gets an update, and the stored text is replaced; if the value is not a
-- mirror, the status is `wrong_kind`.
abbrev pub UpdatesSource : DiffOptions → (viewer : ℕ) → (before after : UpdateNumbers) → (text text' : List ℕ) →
    Source → ℕ → Source → Type 0
UpdatesSource options viewer before after text text' (Mirror old) status (Mirror new) =
    Updates options viewer status text text' before after old new
UpdatesSource options viewer before after text text' (Mirror old) status (Parser new) = ⊥
UpdatesSource options viewer before after text text' (Mirror old) status (Screen new) = ⊥
UpdatesSource options viewer before after text text' (Mirror old) status (Capture new) = ⊥
UpdatesSource options viewer before after text text' (Mirror old) status (Charsets new) = ⊥
UpdatesSource options viewer before after text text' (Parser old) status new =
    Refuses wrong_kind (Parser old) status new × (text' ≡ text) × (after ≡ before)
UpdatesSource options viewer before after text text' (Screen old) status new =
    Refuses wrong_kind (Screen old) status new × (text' ≡ text) × (after ≡ before)
UpdatesSource options viewer before after text text' (Capture old) status new =
    Refuses wrong_kind (Capture old) status new × (text' ≡ text) × (after ≡ before)
UpdatesSource options viewer before after text text' (Charsets old) status new =
    Refuses wrong_kind (Charsets old) status new × (text' ≡ text) × (after ≡ before)

abbrev pub UpdatesObject : DiffOptions → (viewer : ℕ) → (before after : UpdateNumbers) → Object → ℕ → Object → Type 0
UpdatesObject options viewer before after old status new =
    UpdatesSource options viewer before after (string_bytes old.text) (string_bytes new.text) old.source status new.source

-- ---- whether a viewer is up to date

-- `out` is 1 if the viewer is up to date, and 0 otherwise. If `out` is 1, the screen recorded for the viewer is the
-- mirror's screen.
pub record TellsCurrent (viewer out : ℕ) (mirror : MirrorValue) : Type 0 where
  pub exact : out ≡ bit 1 (is_current mirror viewer)
  pub noted : out ≡ 1 → note_of mirror.viewers viewer ≡ Some mirror.parser.screen
