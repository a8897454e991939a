-- A viewer whose terminal applies updates that may move rows or columns, with no restriction on what the mirror's
-- screen displays.
use Rattle.std.specs.Prelude.{◌≡◌, ◌≢◌, ℕ, false, true, List, Some, None, Ok, Err, IfSome, string_bytes}
use Rattle.std.specs.List.{FoldsTo}
use Rattle.vt_redraw.specs.Steady.{IsSteady}
use Rattle.vt_screen.specs.Run.{CallRelation}
use Rattle.vt_screen.specs.Screen.{IsScreen}
use Rattle.vt_screen.specs.Shown.{display}
use Rattle.vt_screen.specs.declared.diff_options.DiffOptions.{DiffOptions}
use Rattle.vt100.specs.Parser.{ParserValue, Ran, pieces_joined}
use Rattle.vt100.specs.Pieces.{IsPlainParser}
use Rattle.vt_mirror.specs.Watching.{Ask, IsLeft, Join, Leave, MirrorCall, MirrorDoes, Process, SetSize, TakesSize, Watching}
use Rattle.vt_mirror.specs.declared.update.Update.{Update}
use Rattle.vt_mirror.specs.declared.update.Update.TheVariants.{Diff, Full}

-- A terminal reads `text` through a list of calls to `process` that all return `Ok` and whose bytes concatenate to
-- `text`.
pub record ReadsFine {S : Type 0} (does : CallRelation S) (text : List ℕ) (old new : ParserValue S) : Type 0 where
  pub sound : IsScreen new.screen
  pub chunks : List (List ℕ)
  pub whole : pieces_joined chunks ≡ text
  pub ran : FoldsTo (Ran does) old chunks new
  pub works : new.is_failed ≡ false

-- A terminal applies an update through calls to `process` that all return `Ok`. For a full redraw, the terminal is
-- resized first.
abbrev pub TakesFine : {S : Type 0} → CallRelation S → Update → ParserValue S → ParserValue S → Type 0
TakesFine {S} does (Diff text) old new = ReadsFine does (string_bytes text) old new
TakesFine {S} does (Full rows cols text) old new =
    (sized : ParserValue S) × TakesSize rows cols old sized × ReadsFine does (string_bytes text) sized new

-- A terminal applies an update from `Mirror::update_scrolling`, or from `Mirror::update_with` with the option `scroll`
-- set; nothing is assumed about the mirror's screen.
pub record SeesAny {S : Type 0} (does : CallRelation S) (options : DiffOptions) (update : Update) (old new : Watching S) : Type 0 where
  pub scrolling : options.scroll ≡ true
  pub takes : TakesFine does update old.viewer new.viewer
  pub seen : new.seen ≡ Some old.mirror.parser.screen

-- If the viewers `asked` and `number` are the same, this viewer applies the update as in `SeesAny`; otherwise the
-- viewer `number` is unaffected.
pub record IsTakenFine {S : Type 0} (does : CallRelation S) (number : ℕ) (options : DiffOptions) (asked : ℕ) (update : Update)
    (old new : Watching S) : Type 0 where
  pub own : asked ≡ number → SeesAny does options update old new
  pub others : asked ≢ number → IsLeft old new

-- The effect of a call to a mirror on the viewer with the given number. The viewer's terminal may have any callbacks,
-- and the mirror's screens need not be steady.
abbrev pub WatchesAny : {S : Type 0} → CallRelation S → ℕ → Watching S → MirrorCall → Watching S → Type 0
WatchesAny {S} does number old (Process bytes answer) new = IsLeft old new
WatchesAny {S} does number old (SetSize rows cols answer) new = IsLeft old new
WatchesAny {S} does number old (Join answer) new = IsLeft old new
WatchesAny {S} does number old (Leave viewer answer) new = IsLeft old new
WatchesAny {S} does number old (Ask options viewer (Ok (Some update))) new =
    IsTakenFine does number options viewer update old new
WatchesAny {S} does number old (Ask options viewer (Ok None)) new = IsLeft old new
WatchesAny {S} does number old (Ask options viewer (Err error)) new = IsLeft old new

-- The effect of a call to a mirror on the mirror and on the viewer with the given number. The viewer's terminal may
-- have any callbacks, and the mirror's screens need not be steady.
abbrev pub GoesAny : {S : Type 0} → CallRelation S → ℕ → Watching S → MirrorCall → Watching S → Type 0
GoesAny {S} does number old call new = MirrorDoes old.mirror call new.mirror × WatchesAny does number old call new

-- The viewer's terminal is plain. If the viewer has received an update and the screen of the last update was steady,
-- the terminal displays that screen.
pub record ShowsSteady {S : Type 0} (watching : Watching S) : Type 0 where
  pub plain : IsPlainParser watching.viewer
  pub shows : IfSome watching.seen (λ screen. IsSteady (display screen) → display watching.viewer.screen ≡ display screen)
