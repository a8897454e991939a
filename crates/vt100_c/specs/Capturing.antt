-- Appending rows to a capture.
use Rattle.std.specs.Prelude.{◌≡◌, ◌<◌, ℕ, List, nat_lt, length, Option, Some, None, if◌then◌else◌}
use Rattle.std.specs.List.{slice_get}
use Rattle.vt_rows.specs.Basic.{Written}
use Rattle.vt_rows.specs.Row.{RowValue}
use Rattle.vt_screen.specs.Capture.{all_rows, basic_texts}
use Rattle.vt_screen.specs.Screen.{ScreenValue}
use Rattle.vt100_c.specs.Due.{IsSomeAnd, source_at, text_at}
use Rattle.vt100_c.specs.Records.{Logged}
use Rattle.vt100_c.specs.Status.{ok, bad_argument, no_object, wrong_kind}
use Rattle.vt100_c.specs.declared.object.Object.{Object}
use Rattle.vt100_c.specs.declared.object.Source.{Source}
use Rattle.vt100_c.specs.declared.object.Source.TheVariants.{Parser, Screen, Mirror, Capture, Charsets}

-- The state of the capture that a value contains, if any.
abbrev pub state_in : Source → Option Written
state_in (Parser parser) = None
state_in (Screen screen) = None
state_in (Mirror mirror) = None
state_in (Capture written) = Some written
state_in (Charsets charsets) = None

-- ---- a value with a capture

-- The status of a call on a value and a capture: if both exist, the status that the given function determines from the
-- value; otherwise `wrong_kind`.
abbrev pub due_of_kinds : {A : Type 0} → (A → ℕ) → Option A → Option Written → ℕ
due_of_kinds due None state = wrong_kind
due_of_kinds due (Some value) None = wrong_kind
due_of_kinds due (Some value) (Some state) = due value

-- The value and the capture state exist, and the given predicate is true of them.
abbrev pub OnCapture : {A : Type 0} → Option A → Option Written → (A → Written → Type 0) → Type 0
OnCapture None state Holds = ⊥
OnCapture (Some value) None Holds = ⊥
OnCapture (Some value) (Some state) Holds = Holds value state

-- ---- two handles; the function `of` selects the value in the first handle

abbrev pub due_at_capture : {A : Type 0} → (Source → Option A) → (A → ℕ) → Option Object → Option Object → ℕ
due_at_capture of due None capture = no_object
due_at_capture of due (Some object) None = no_object
due_at_capture of due (Some object) (Some capture) = due_of_kinds due (of object.source) (state_in capture.source)

-- The status of a call on a handle and a capture that was taken out of a second handle. If the first handle is empty,
-- the caller passed the same handle twice, and the status is `bad_argument`. Otherwise, `due` determines the status
-- from the value that `of` selects; if there is no such value or no capture, the status is `wrong_kind`.
abbrev pub due_beside_capture : {A : Type 0} → (Source → Option A) → (A → ℕ) → Option Object → Object → ℕ
due_beside_capture of due None capture = bad_argument
due_beside_capture of due (Some object) capture = due_of_kinds due (of object.source) (state_in capture.source)

abbrev pub HoldAtCapture : {A : Type 0} → (Source → Option A) → Option Object → Option Object →
    (A → Written → Type 0) → Type 0
HoldAtCapture of None capture Holds = ⊥
HoldAtCapture of (Some object) None Holds = ⊥
HoldAtCapture of (Some object) (Some capture) Holds = OnCapture (of object.source) (state_in capture.source) Holds

-- The handle holds a capture with the state `state` and the text `written`.
pub record HoldsCapture (written : List ℕ) (state : Written) (held : Option Object) : Type 0 where
  pub text : text_at held ≡ written
  pub source : source_at held ≡ Some (Capture state)

-- ---- the rows of a screen, and reported rows

-- Appending the rows of the screen to a capture with the given state adds at least one byte.
abbrev pub HaveText : ScreenValue → Written → Type 0
HaveText screen state = 0 < length (basic_texts state (all_rows screen))

-- The status of a call with the index of a reported row: `ok` if the log has a row with that index, otherwise
-- `bad_argument`.
abbrev pub reported_status : ℕ → Logged → ℕ
reported_status index log = if nat_lt index (length log.rows) then ok else bad_argument

-- The log has a row with the given index, and the given predicate is true of this row and the capture state.
abbrev pub OnReported : ℕ → (RowValue → Written → Type 0) → Logged → Written → Type 0
OnReported index Holds log state = IsSomeAnd (slice_get log.rows index) (λ row. Holds row state)
