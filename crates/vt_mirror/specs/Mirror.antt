-- A mirror: a terminal, and viewers that each get the updates needed to display the same content. The viewers have
-- numbers, and the screen of each viewer's last update is recorded.
use Rattle.std.specs.Prelude.{◌≡◌, ◌≢◌, ℕ, ◌+◌, ◌≤◌, Bool, true, List, Option, Some, None}
use Rattle.std.specs.BTreeMap.{is_at}
use Rattle.std.specs.List.{list_any}
use Rattle.std.specs.Map.{lookup}
use Rattle.std.specs.Ordering.{nat_cmp}
use Rattle.vt_screen.specs.Screen.{ScreenValue}
use Rattle.vt_grid.specs.Page.{SameSize}
use Rattle.vt100.specs.Parser.{HasFreshScreen, ParserValue}
use Rattle.vt_screen.specs.Shown.{display}

pub record ViewersValue : Type 0 where
  -- The last number that was assigned to a viewer.
  pub last : Option ℕ
  -- The numbers of the current viewers.
  pub numbers : List ℕ
  -- The screen of each viewer's last update since the last resize, keyed by viewer number.
  pub notes : List (ℕ × ScreenValue)

abbrev pub is_viewer : ViewersValue → ℕ → Bool
is_viewer viewers viewer = list_any (is_at (nat_cmp viewer)) viewers.numbers

-- Whether the given viewer number is in a list of viewer numbers.
abbrev pub is_among : (numbers : List ℕ) → ℕ → Bool
is_among numbers viewer = list_any (is_at (nat_cmp viewer)) numbers

-- The viewer numbers after a change: they include `viewer` if and only if `is` is true. All other numbers are
-- unaffected.
pub record PutsAmong (old : List ℕ) (viewer : ℕ) (is : Bool) (new : List ℕ) : Type 0 where
  pub here : is_among new viewer ≡ is
  pub others : (other : ℕ) → other ≢ viewer → is_among new other ≡ is_among old other

-- The screen recorded for a viewer number; `None` if no screen is recorded.
abbrev pub note_of : ViewersValue → ℕ → Option ScreenValue
note_of viewers viewer = lookup (is_at (nat_cmp viewer)) viewers.notes

-- The number of the next viewer, given the last number that was assigned: one more than that number, or 0 if no number
-- was assigned.
abbrev pub next_number : Option ℕ → ℕ
next_number None = 0
next_number (Some last) = last + 1

-- Only numbers that have already been assigned belong to viewers, and screens are recorded only for viewers.
pub record AreViewers (viewers : ViewersValue) : Type 0 where
  pub numbers : (viewer : ℕ) → is_viewer viewers viewer ≡ true → viewer + 1 ≤ next_number viewers.last
  pub notes : (viewer : ℕ) (screen : ScreenValue) →
      note_of viewers viewer ≡ Some screen → is_viewer viewers viewer ≡ true

-- The viewers after a change that affects only the number `viewer`: `is` says whether a viewer now has this number, and
-- `note` is the screen recorded for that viewer. All other numbers are unaffected.
pub record Puts (old : ViewersValue) (viewer : ℕ) (is : Bool)
    (note : Option ScreenValue) (new : ViewersValue) : Type 0 where
  pub here : is_viewer new viewer ≡ is
  pub note_here : note_of new viewer ≡ note
  pub others : (other : ℕ) → other ≢ viewer → is_viewer new other ≡ is_viewer old other
  pub other_notes : (other : ℕ) → other ≢ viewer → note_of new other ≡ note_of old other

pub record MirrorValue : Type 0 where
  pub parser : ParserValue (Unit {0})
  pub viewers : ViewersValue
  -- The numbers of the viewers that have received an update since the most recent input or resize.
  pub current : List ℕ

-- Whether a viewer received an update since the last input and the last resize.
abbrev pub is_current : MirrorValue → ℕ → Bool
is_current mirror viewer = is_among mirror.current viewer

-- The invariant of a mirror: every recorded screen has the size of the mirror's screen.
abbrev pub IsMirror : MirrorValue → Type 0
IsMirror mirror =
    (viewer : ℕ) (screen : ScreenValue) → note_of mirror.viewers viewer ≡ Some screen →
    SameSize mirror.parser.screen.page screen.page

-- The mirror's screen is blank and has the given size and scrollback capacity.
abbrev pub ShowsFreshScreen : (rows cols capacity : ℕ) → MirrorValue → Type 0
ShowsFreshScreen rows cols capacity mirror =
    HasFreshScreen rows cols capacity mirror.parser.callbacks mirror.parser

-- The two screens have the same size and display the same content.
pub record ShowsAlike (screen copy : ScreenValue) : Type 0 where
  pub shown : display copy ≡ display screen
  pub size : SameSize copy.page screen.page
