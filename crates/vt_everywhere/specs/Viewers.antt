-- A viewer of a mirror that writes its updates to a terminal, over an arbitrary sequence of calls to the mirror.
use Rattle.std.specs.Prelude.{◌≡◌, ◌≢◌, ◌++◌, ℕ, true, false, List, Option, Some, Ok, string_bytes}
use Rattle.vt_screen.specs.Screen.{ScreenValue}
use Rattle.vt_screen.specs.Shown.{display}
use Rattle.vt_screen.specs.declared.diff_options.DiffOptions.{DiffOptions}
use Rattle.vt_screen.specs.declared.repeat.Repeat.TheVariants.{Never}
use Rattle.vt_mirror.specs.Mirror.{MirrorValue}
use Rattle.vt_mirror.specs.Watching.{MirrorCall, MirrorDoes, Ask}
use Rattle.vt_mirror.specs.declared.update.Update.{Update}
use Rattle.vt_mirror.specs.declared.update.Update.TheVariants.{Diff, Full}
use Rattle.vt_terminals.specs.BlackBox.{BlackBox, IsLawful, ShowsAfter}
use Rattle.vt_terminals.specs.Terminal.{Positions}
use Rattle.vt_everywhere.specs.Chains.{CanShowScreen}

-- Updates that are portable, move no rows and contain no REP.
abbrev pub portable_options : DiffOptions
portable_options = record { scroll = false; repeat = Never; portable = true }

abbrev pub text_of : Update → List ℕ
text_of (Diff text) = string_bytes text
text_of (Full rows cols text) = string_bytes text

-- After the update of a viewer for which the screen `noted` is recorded, if any, every lawful black box displays the
-- screen `self`, if it displayed the recorded screen before. If none is recorded, it need only be ready.
abbrev pub ShowsUpdate : (self : ScreenValue) → (noted : Option ScreenValue) → Update → Type 0
ShowsUpdate self noted update =
    (box : BlackBox) → IsLawful box → (near : Positions) → (before : List ℕ) → CanShowScreen box near self →
    box.is_ready before ≡ true →
    ((prev : ScreenValue) → noted ≡ Some prev →
    CanShowScreen box near prev × ShowsAfter box near (display prev) before) →
    ShowsAfter box near (display self) (before ++ text_of update)

-- A mirror, the bytes that the terminal of one of its viewers has read, and the mirror's screen at the time of that
-- viewer's last update, or `None` if there was no update.
pub record Viewing : Type 0 where
  pub mirror : MirrorValue
  pub read : List ℕ
  pub seen : Option ScreenValue

-- The terminal reads an update that was requested while it could display the mirror's screen. In particular, the screen
-- had the terminal's size then.
pub record Views (box : BlackBox) (near : Positions) (options : DiffOptions) (update : Update) (old new : Viewing) :
    Type 0 where
  pub portable : options ≡ portable_options
  pub can : CanShowScreen box near old.mirror.parser.screen
  pub read : new.read ≡ old.read ++ text_of update
  pub seen : new.seen ≡ Some old.mirror.parser.screen

-- The terminal gets no update and reads nothing.
pub record IsUnread (old new : Viewing) : Type 0 where
  pub read : new.read ≡ old.read
  pub seen : new.seen ≡ old.seen

-- If the viewers `asked` and `number` are the same, this viewer's terminal reads the update; otherwise, it reads
-- nothing.
pub record IsReadBy (box : BlackBox) (near : Positions) (number asked : ℕ) (options : DiffOptions) (update : Update)
    (old new : Viewing) : Type 0 where
  pub own : asked ≡ number → Views box near options update old new
  pub others : asked ≢ number → IsUnread old new

-- The effect of a call to a mirror on the terminal of the viewer with the given number.
abbrev pub ReadsUpdate : (box : BlackBox) (near : Positions) (number : ℕ) → Viewing → MirrorCall → Viewing → Type 0
ReadsUpdate box near number old (Ask options viewer (Ok (Some update))) new =
    IsReadBy box near number viewer options update old new
ReadsUpdate box near number old _ new = IsUnread old new

-- The effect of a call to a mirror on the mirror and on the terminal of the viewer with the given number.
abbrev pub ViewerGoes : (box : BlackBox) (near : Positions) (number : ℕ) → Viewing → MirrorCall → Viewing → Type 0
ViewerGoes box near number old call new =
    MirrorDoes old.mirror call new.mirror × ReadsUpdate box near number old call new

-- The terminal displays the mirror's screen as it was at the last update, if there was one.
abbrev pub ShowsLast : (box : BlackBox) (near : Positions) → Viewing → Type 0
ShowsLast box near viewing =
    (screen : ScreenValue) → viewing.seen ≡ Some screen → ShowsAfter box near (display screen) viewing.read
