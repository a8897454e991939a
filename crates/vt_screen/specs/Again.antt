-- Output that leaves a plain terminal plain, whatever it draws.
use Rattle.std.specs.Prelude.{◌≡◌, ℕ, List}
use Rattle.std.specs.List.{AllByRecursion}
use Rattle.vt_grid.specs.Page.{SameSize}
use Rattle.vt_scan.specs.Automaton.{start, run}
use Rattle.vt_screen.specs.Calls.{CallValue, OnScroll}
use Rattle.vt_screen.specs.CallsOfRun.{screen_in, steps_in}
use Rattle.vt_screen.specs.Screen.{ScreenValue, IsScreen, above_page}
use Rattle.vt_screen.specs.Shown.{IsPlain}
use Rattle.vt_screen.specs.Steps.{Step, CallBack}

-- The step invokes no callbacks, except for `on_scroll` when rows are dropped from the page or from scrollback.
abbrev pub IsNoCallback : Step → Type 0
IsNoCallback (CallBack call) = ⊥
IsNoCallback _ = Unit {0}

-- The call is an invocation of `on_scroll`.
abbrev pub IsReport : CallValue → Type 0
IsReport (OnScroll row alternate) = Unit {0}
IsReport _ = ⊥

-- The inactive page, the input modes, the cursor style and the size are unchanged, and the same page is active.
pub record KeepsAside (reader after : ScreenValue) : Type 0 where
  pub other : after.other ≡ reader.other
  pub is_alternate : after.is_alternate ≡ reader.is_alternate
  pub modes : after.modes ≡ reader.modes
  pub size : SameSize after.page reader.page

-- The terminal reads the output, starting in ground state, and afterward is plain and in ground state again. No
-- callback is invoked except `on_scroll`. The inactive page, the modes and the size are unchanged, and the same page is
-- active.
pub record LeavesPlain (text : List ℕ) (reader : ScreenValue) : Type 0 where
  pub ground : (run start text).state ≡ start
  pub steps : AllByRecursion IsNoCallback (steps_in start reader text)
  pub plain : IsPlain (screen_in start reader text)
  pub aside : KeepsAside reader (screen_in start reader text)

-- Every plain terminal is plain again after it has read the output, as `LeavesPlain` describes.
abbrev pub KeepsPlain : List ℕ → Type 0
KeepsPlain text = (reader : ScreenValue) → IsPlain reader → LeavesPlain text reader

-- Every terminal that displays no scrollback is plain after it has read the output, as `LeavesPlain` describes.
abbrev pub MakesPlain : List ℕ → Type 0
MakesPlain text = (reader : ScreenValue) → IsScreen reader → (above_page reader).offset ≡ 0 → LeavesPlain text reader
