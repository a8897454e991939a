-- Creating, saving and swapping the objects of handles.
use Rattle.std.specs.Prelude.{◌≡◌, ℕ, Option, Some, None, unwrap_or}
use Rattle.vt100.specs.Parser.{parser_value}
use Rattle.vt100_c.specs.Calls.{Either, Fills, is_size}
use Rattle.vt100_c.specs.Records.{default_limit, nothing_logged}
use Rattle.vt100_c.specs.Held.{screen_in}
use Rattle.vt100_c.specs.Status.{ok, out_of_memory, bad_argument, wrong_kind, no_object, in_use}
use Rattle.vt100_c.specs.declared.object.Object.{Object}
use Rattle.vt100_c.specs.declared.object.Source.{Source}
use Rattle.vt100_c.specs.declared.object.Source.TheVariants.{Parser, Screen, Mirror, Capture, Charsets}
use Rattle.vt_grid.specs.Page.{SameSize}
use Rattle.vt_scan.specs.Automaton.{start}
use Rattle.vt_scan.specs.Scanner.{StandsFor}
use Rattle.vt_screen.specs.Screen.{ScreenValue, fresh_screen, page_alone}
use Rattle.vt_screen.specs.Shown.{ShowsOwnPage, ShowsScrollback, display}

-- The value is a new parser with a blank screen of the given size and scrollback capacity, and an empty log that
-- records calls of the requested kinds.
abbrev pub IsNewParser : (rows cols capacity wanted : ℕ) → Source → Type 0
IsNewParser rows cols capacity wanted (Parser parser) =
    StandsFor parser.scanner start
    × (parser ≡ parser_value parser.scanner (fresh_screen rows cols capacity) (nothing_logged wanted default_limit))
IsNewParser rows cols capacity wanted (Screen screen) = ⊥
IsNewParser rows cols capacity wanted (Mirror mirror) = ⊥
IsNewParser rows cols capacity wanted (Capture written) = ⊥
IsNewParser rows cols capacity wanted (Charsets charsets) = ⊥

-- A value that satisfies `Is` is created in an empty handle, unless an allocation fails. The handle is unchanged if it
-- already holds an object (status `in_use`) or if `rows` or `cols` is 0 (status `bad_argument`).
abbrev pub Makes : (rows cols : ℕ) → (Source → Type 0) → Option Object → ℕ → Option Object → Type 0
Makes rows cols Is (Some old) status new = (status ≡ in_use) × (new ≡ Some old)
Makes rows cols Is None status new =
    Either (is_size rows cols) (Fills Is status new) ((status ≡ bad_argument) × (new ≡ None))

-- The copy that saving a value creates: the screen of a parser or saved screen, or a copy of a capture. A mirror or a
-- translator cannot be saved.
abbrev pub saved_from : Source → Option Source
saved_from (Parser parser) = Some (Screen parser.screen)
saved_from (Screen screen) = Some (Screen screen)
saved_from (Mirror mirror) = None
saved_from (Capture written) = Some (Capture written)
saved_from (Charsets charsets) = None

-- The effect of storing a copy, if there is one, in an empty handle: the handle holds the copy, or an allocation fails
-- and the handle stays empty. If there is no copy, the handle stays empty, and the status is `wrong_kind`.
abbrev pub SavesAs : Option Source → ℕ → Option Object → Type 0
SavesAs None status new = (status ≡ wrong_kind) × (new ≡ None)
SavesAs (Some copy) status new = Fills (λ source. source ≡ copy) status new

-- A copy of what the first handle holds is stored in the second handle. The second handle is unchanged if the first
-- handle is empty (status `no_object`) or the second handle already holds an object (status `in_use`).
abbrev pub Saves : Option Object → (old : Option Object) → ℕ → (new : Option Object) → Type 0
Saves None old status new = (status ≡ no_object) × (new ≡ old)
Saves (Some object) (Some old) status new = (status ≡ in_use) × (new ≡ Some old)
Saves (Some object) None status new = SavesAs (saved_from object.source) status new

-- The status of a call that makes no copy: `wrong_kind` if there is nothing to save, otherwise `out_of_memory`.
abbrev pub refusal_of : Option Source → ℕ
refusal_of None = wrong_kind
refusal_of (Some copy) = out_of_memory

-- The screen `copy` has the size, the display and the modes of `screen`. While no scrollback is displayed, it is `screen`
-- without scrollback and the inactive page; otherwise, it equals `screen`.
pub record CopiesShown (screen copy : ScreenValue) : Type 0 where
  pub shown : display copy ≡ display screen
  pub size : SameSize copy.page screen.page
  pub modes : copy.modes ≡ screen.modes
  pub alone : ShowsOwnPage screen → copy ≡ page_alone screen
  pub whole : ShowsScrollback screen → copy ≡ screen

-- The value is a saved screen that copies what the given screen displays.
abbrev pub IsShownCopy : ScreenValue → Source → Type 0
IsShownCopy screen (Parser parser) = ⊥
IsShownCopy screen (Screen copy) = CopiesShown screen copy
IsShownCopy screen (Mirror mirror) = ⊥
IsShownCopy screen (Capture written) = ⊥
IsShownCopy screen (Charsets charsets) = ⊥

-- A copy of what the screen displays is stored in an empty handle, unless an allocation fails. If there is no screen,
-- the handle stays empty, and the status is `wrong_kind`.
abbrev pub SavesShownAs : Option ScreenValue → ℕ → Option Object → Type 0
SavesShownAs None status new = (status ≡ wrong_kind) × (new ≡ None)
SavesShownAs (Some screen) status new = Fills (IsShownCopy screen) status new

-- A copy of what the first handle's screen displays is stored in the second handle. The second handle is unchanged if
-- the first handle is empty (status `no_object`) or the second handle already holds an object (status `in_use`).
abbrev pub SavesShown : Option Object → (old : Option Object) → ℕ → (new : Option Object) → Type 0
SavesShown None old status new = (status ≡ no_object) × (new ≡ old)
SavesShown (Some object) (Some old) status new = (status ≡ in_use) × (new ≡ Some old)
SavesShown (Some object) None status new = SavesShownAs (screen_in object.source) status new

-- The status of a call that fails to copy the displayed screen: `wrong_kind` if there is no screen, otherwise
-- `out_of_memory`.
abbrev pub refusal_on : Option ScreenValue → ℕ
refusal_on None = wrong_kind
refusal_on (Some screen) = out_of_memory

-- The value with its screen replaced by the screen `other`, if both screens exist; otherwise, the value itself.
abbrev pub with_other : Option ScreenValue → Source → Source
with_other other (Parser parser) = Parser (record parser { screen = unwrap_or other parser.screen })
with_other other (Screen screen) = Screen (unwrap_or other screen)
with_other other (Mirror mirror) = Mirror mirror
with_other other (Capture written) = Capture written
with_other other (Charsets charsets) = Charsets charsets

-- The status of swapping two screens: `ok` if both screens exist, otherwise `wrong_kind`.
abbrev pub swap_status : Option ScreenValue → Option ScreenValue → ℕ
swap_status (Some own) (Some other) = ok
swap_status (Some own) None = wrong_kind
swap_status None other = wrong_kind

-- The object with the screen of its value replaced by the screen `other`, if both screens exist. The object's text is
-- unchanged.
abbrev pub held_with_other : Option ScreenValue → Object → Object
held_with_other other object = record object { source = with_other other object.source }

-- The screens of two handles are swapped; the text stored in each handle is unchanged. If either handle is empty or has
-- no screen, both handles are unchanged.
abbrev pub Swaps : (old old' : Option Object) → ℕ → (new new' : Option Object) → Type 0
Swaps None old' status new new' = (status ≡ no_object) × (new ≡ None) × (new' ≡ old')
Swaps (Some old) None status new new' = (status ≡ no_object) × (new ≡ Some old) × (new' ≡ None)
Swaps (Some old) (Some old') status new new' =
    (status ≡ swap_status (screen_in old.source) (screen_in old'.source))
    × (new ≡ Some (held_with_other (screen_in old'.source) old))
    × (new' ≡ Some (held_with_other (screen_in old.source) old'))
