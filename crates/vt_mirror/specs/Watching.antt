-- A viewer that applies its updates to a terminal, over an arbitrary sequence of calls to the mirror. Each update may
-- be split into chunks anywhere.
use Rattle.std.specs.Prelude.{◌≡◌, ◌≢◌, ◌+◌, ℕ, Bool, List, [], ◌∷◌, Option, Some, None, Ok, Err, IfSome, string_bytes}
use Rattle.std.specs.List.{FoldsTo}
use Rattle.std.specs.declared.result.Result.{Result}
use Rattle.vt_cells.specs.declared.error.Error.{Error}
use Rattle.vt_redraw.specs.Steady.{IsSteady}
use Rattle.vt_screen.specs.Pages.{screen_after_resize}
use Rattle.vt_screen.specs.Screen.{IsScreen, ScreenValue}
use Rattle.vt_screen.specs.Shown.{display}
use Rattle.vt_screen.specs.declared.diff_options.DiffOptions.{DiffOptions}
use Rattle.vt100.specs.Parser.{ParserValue}
use Rattle.vt100.specs.Pieces as pieces
use Rattle.vt100.specs.Pieces.{IsPlainParser, Processing, bytes_in}
use Rattle.vt_mirror.specs.Calls.{Asks, JoinsMirror, Leaves, MirrorProcesses, Resizes}
use Rattle.vt_mirror.specs.Mirror.{MirrorValue}
use Rattle.vt_mirror.specs.declared.update.Update.{Update}
use Rattle.vt_mirror.specs.declared.update.Update.TheVariants.{Diff, Full}

-- ---- the mirror

-- A call to a mirror, and its result.
pub data MirrorCall : Type 0 where
  Process : (bytes : List ℕ) → (answer : Result (Unit {0}) Error) → MirrorCall
  SetSize : (rows : ℕ) → (cols : ℕ) → (answer : Result (Unit {0}) Error) → MirrorCall
  Join : (answer : Result ℕ Error) → MirrorCall
  Leave : (viewer : ℕ) → (answer : Bool) → MirrorCall
  Ask : (options : DiffOptions) → (viewer : ℕ) → (answer : Result (Option Update) Error) → MirrorCall

-- The effect that a call to a mirror has on the mirror.
abbrev pub MirrorDoes : MirrorValue → MirrorCall → MirrorValue → Type 0
MirrorDoes old (Process bytes answer) new = MirrorProcesses old bytes answer new
MirrorDoes old (SetSize rows cols answer) new = Resizes old rows cols answer new
MirrorDoes old (Join answer) new = (new.parser ≡ old.parser) × JoinsMirror old.viewers answer new.viewers
MirrorDoes old (Leave viewer answer) new = (new.parser ≡ old.parser) × Leaves old.viewers viewer answer new.viewers
MirrorDoes old (Ask options viewer answer) new = Asks options old viewer answer new

-- The mirror has never had a viewer.
pub record IsFresh (mirror : MirrorValue) : Type 0 where
  pub last : mirror.viewers.last ≡ None
  pub numbers : mirror.viewers.numbers ≡ []
  pub notes : mirror.viewers.notes ≡ []

-- The viewer numbers returned by the calls to `join` in a list of calls, in order.
abbrev pub numbers_given : List MirrorCall → List ℕ
numbers_given [] = []
numbers_given (Join (Ok viewer) ∷ calls) = viewer ∷ numbers_given calls
numbers_given (_ ∷ calls) = numbers_given calls

-- The numbers of the list count up from the given number, so no number occurs twice.
abbrev pub CountUp : ℕ → List ℕ → Type 0
CountUp n [] = Unit {0}
CountUp n (x ∷ xs) = (x ≡ n) × CountUp (n + 1) xs

-- ---- a viewer

-- A mirror, the terminal of one of its viewers, and the mirror's screen at the time of that viewer's last update, or
-- `None` if there was no update.
pub record Watching (S : Type 0) : Type 0 where
  pub mirror : MirrorValue
  pub viewer : ParserValue S
  pub seen : Option ScreenValue

-- The terminal is resized as by a call to `Parser::set_size` that returns `Ok`.
abbrev pub TakesSize : {S : Type 0} → (rows cols : ℕ) → (old new : ParserValue S) → Type 0
TakesSize rows cols old new = new ≡ record old { screen = screen_after_resize rows cols old.screen; callbacks = new.callbacks }

-- The terminal reads `text` through a list of calls to `process` whose bytes concatenate to `text`.
pub record ReadsText {S : Type 0} (text : List ℕ) (old new : ParserValue S) : Type 0 where
  pub sound : IsScreen new.screen
  pub calls : List Processing
  pub whole : bytes_in calls ≡ text
  pub reads : FoldsTo pieces.Processes old calls new

-- The terminal applies an update: the terminal is resized first if the update is a full redraw, and then reads the
-- update's text.
abbrev pub TakesUpdate : {S : Type 0} → Update → ParserValue S → ParserValue S → Type 0
TakesUpdate {S} (Diff text) old new = ReadsText (string_bytes text) old new
TakesUpdate {S} (Full rows cols text) old new =
    (sized : ParserValue S) × TakesSize rows cols old sized × ReadsText (string_bytes text) sized new

-- The terminal applies an update that was requested while the mirror's screen was steady.
pub record Sees {S : Type 0} (update : Update) (old new : Watching S) : Type 0 where
  pub steady : IsSteady (display old.mirror.parser.screen)
  pub takes : TakesUpdate update old.viewer new.viewer
  pub seen : new.seen ≡ Some old.mirror.parser.screen

-- The terminal gets no update and is unaffected.
pub record IsLeft {S : Type 0} (old new : Watching S) : Type 0 where
  pub viewer : new.viewer ≡ old.viewer
  pub seen : new.seen ≡ old.seen

-- If the viewers `asked` and `number` are the same, this viewer applies the update; otherwise the viewer `number` is
-- unaffected.
pub record IsTakenBy {S : Type 0} (number asked : ℕ) (update : Update) (old new : Watching S) : Type 0 where
  pub own : asked ≡ number → Sees update old new
  pub others : asked ≢ number → IsLeft old new

-- The effect of a call to a mirror on the viewer with the given number.
abbrev pub Watches : {S : Type 0} → ℕ → Watching S → MirrorCall → Watching S → Type 0
Watches {S} number old (Process bytes answer) new = IsLeft old new
Watches {S} number old (SetSize rows cols answer) new = IsLeft old new
Watches {S} number old (Join answer) new = IsLeft old new
Watches {S} number old (Leave viewer answer) new = IsLeft old new
Watches {S} number old (Ask options viewer (Ok (Some update))) new = IsTakenBy number viewer update old new
Watches {S} number old (Ask options viewer (Ok None)) new = IsLeft old new
Watches {S} number old (Ask options viewer (Err error)) new = IsLeft old new

-- The effect of a call to a mirror on the mirror and on the viewer with the given number.
abbrev pub Goes : {S : Type 0} → ℕ → Watching S → MirrorCall → Watching S → Type 0
Goes {S} number old call new = MirrorDoes old.mirror call new.mirror × Watches number old call new

-- The viewer's terminal is plain and has received no update.
pub record IsNew {S : Type 0} (watching : Watching S) : Type 0 where
  pub sound : IsScreen watching.viewer.screen
  pub plain : IsPlainParser watching.viewer
  pub seen : watching.seen ≡ None

-- The viewer's terminal is plain. If the viewer has received an update, the terminal displays the screen of the last
-- update.
pub record ShowsSeen {S : Type 0} (watching : Watching S) : Type 0 where
  pub plain : IsPlainParser watching.viewer
  pub shows : IfSome watching.seen (λ screen. display watching.viewer.screen ≡ display screen)
