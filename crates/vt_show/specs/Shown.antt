-- The output of `vtshow` for an input: it shows the screen of a new terminal that has parsed the input.
use Rattle.std.specs.Prelude.{◌≡◌, ◌≢◌, ℕ, List, [], ◌++◌, Err, IsErr, OnOk}
use Rattle.std.specs.List.{FoldsTo}
use Rattle.std.specs.Io.KnownBytes.{Appends, Consumes, IsAtEnd, Keeps}
use Rattle.std.specs.declared.option.Option.{Option}
use Rattle.std.specs.declared.result.Result.{Result}
use Rattle.vt_rows.specs.Basic.{nothing_written}
use Rattle.vt_scan.specs.Automaton.{start}
use Rattle.vt_scan.specs.Automaton as scan
use Rattle.vt_screen.specs.Capture.{basic_texts}
use Rattle.vt_screen.specs.Contents.{contents_of}
use Rattle.vt_screen.specs.MadeOf.{IsMadeOf, capture_finals, drawing_controls, drawing_finals, plain_controls}
use Rattle.vt_screen.specs.Run.{Performs, state}
use Rattle.vt_screen.specs.Screen.{ScreenValue, fresh_screen, visible_rows}
use Rattle.vt_screen.specs.Shown.{shown_text}
use Rattle.vt100.specs.Parser.{does_nothing}
use Rattle.vt_show.specs.declared.faults.Fault.{Fault}
use Rattle.vt_show.specs.declared.faults.Fault.TheVariants.{Write}
use Rattle.vt_show.specs.declared.mode.Mode.{Mode}
use Rattle.vt_show.specs.declared.mode.Mode.TheVariants.{Plain, Formatted, Basic}

-- The screen is that of a new terminal with the given numbers of rows and columns and no scrollback, after the terminal
-- has parsed the input.
abbrev pub ShowsAfter : ℕ → ℕ → List ℕ → ScreenValue → Type 0
ShowsAfter rows cols input screen =
    FoldsTo (Performs does_nothing) (state tt (fresh_screen rows cols 0)) (scan.run start input).events (state tt screen)

-- The output of `vtshow` for a mode and a screen: the string that `Screen::contents`, `Screen::contents_formatted` or
-- `Screen::contents_formatted_basic` returns.
abbrev pub screen_text : Mode → ScreenValue → List ℕ
screen_text Plain screen = contents_of screen
screen_text Formatted screen = shown_text screen
screen_text Basic screen = basic_texts nothing_written (visible_rows screen)

-- The output has only the control characters and sequences that the given mode allows: newlines for `Plain`, drawing
-- sequences for `Formatted`, and newlines and SGR for `Basic`.
abbrev pub IsOfMode : Mode → List ℕ → Type 0
IsOfMode Plain text = IsMadeOf [] plain_controls text
IsOfMode Formatted text = IsMadeOf drawing_finals drawing_controls text
IsOfMode Basic text = IsMadeOf capture_finals plain_controls text

-- The output grew from `old` to `new` by a prefix of `text`, possibly all of it.
pub record AppendsPart (old new : Option (List ℕ)) (text : List ℕ) : Type 0 where
  pub taken : List ℕ
  pub lost : List ℕ
  pub parts : text ≡ taken ++ lost
  pub appends : Appends old new taken

-- The input was `left` before and is `rest` now, and the predicate `Holds` is true of the output of `vtshow` for the
-- bytes read in between, with the given mode and screen size. The output has only the control characters and sequences
-- that the mode allows.
pub record ReadsForText (mode : Mode) (rows cols : ℕ) (left rest : Option (List ℕ))
    (Holds : List ℕ → Type 0) : Type 0 where
  pub input : List ℕ
  pub reads : Consumes left rest input
  pub screen : ScreenValue
  pub shows : ShowsAfter rows cols input screen
  pub text : Holds (screen_text mode screen)
  pub controls : IsOfMode mode (screen_text mode screen)

-- The effect of a run of `vtshow`. On success, the input was read to its end, and exactly the output for it was
-- written. If writing fails, the input was read to its end, and a prefix of the output was written. After any other
-- fault, nothing was written. The function `error` converts a fault to the error that is returned.
pub record ShowsOrFails {E : Type 0} (error : Fault → E) (mode : Mode) (rows cols : ℕ)
    (left rest written grown : Option (List ℕ)) (result : Result (Unit {0}) E) : Type 0 where
  pub end : OnOk result (IsAtEnd rest)
  pub text : OnOk result (ReadsForText mode rows cols left rest (Appends written grown))
  pub nothing : IsErr result → result ≢ Err (error Write) → Keeps written grown
  pub read_first : result ≡ Err (error Write) → IsAtEnd rest
  pub part : result ≡ Err (error Write) → ReadsForText mode rows cols left rest (AppendsPart written grown)
