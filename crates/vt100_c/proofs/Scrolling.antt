-- The properties of output that may move rows first, stated for the text that was written.
use Rattle.std.specs.Prelude.{◌≡◌, ◌≤◌, ℕ, List, [], ◌++◌, length, IfOk, IsTrue, Result, Ok, Err, String, string_bytes}
use Rattle.std.specs.Global.{Global}
use Rattle.std.proofs.Common.{subst}
use Rattle.vt_cells.specs.Op.{bytes_of_all}
use Rattle.vt_cells.specs.declared.error.Error.{Error}
use Rattle.vt_redraw.specs.Redraw.{difference}
use Rattle.vt_screen.specs.Again.{KeepsPlain}
use Rattle.vt_screen.specs.Diffs.{IsDiffWith, KeepsScreensPlain, RepeatsOnlyInRows, diff_controls, finals_with}
use Rattle.vt_screen.specs.Diffs.{form_with}
use Rattle.vt_screen.specs.MadeOf.{IsMadeOf, shortened_controls, shortened_finals}
use Rattle.vt_screen.specs.Portable.{IsPortableFrom}
use Rattle.vt_screen.specs.Screen.{ScreenValue}
use Rattle.vt_screen.specs.ShortMoves.{IsMovingOrRedraw}
use Rattle.vt_screen.specs.Shown.{IsSameIfEmpty, RedrawsFrom, display, display_change_in, shown_text, shown_text_in}
use Rattle.vt_screen.specs.States.{input_change, AreModes, GivesState, IsEmptyIfSameState, IsSameStateIfEmpty}
use Rattle.vt_screen.specs.States.{IsStateReaderOf, DrawsThenSets, IsStateDiffWith, SetsModesOnScreens, state_change_in}
use Rattle.vt_screen.specs.States.{state_diff_controls}
use Rattle.vt_screen.specs.TextResults.{IfText}
use Rattle.vt_screen.specs.declared.diff_options.DiffOptions.{DiffOptions}
use Rattle.vt100_c.specs.Texts.{IsDiffWithOptions, IsScrollingDiff, IsStateDiffWithOptions}

carried : (P : List ℕ → Type 0) (answer : Result (String Global) Error) (text : String Global) →
    IfText answer P → answer ≡ Ok text → P (string_bytes text)
carried P answer text h is = subst (λ (a : Result (String Global) Error). IfText a P) is h

pub scrolls : (screen prev : ScreenValue) (answer : Result (String Global) Error) (made : Result (String Global) ℕ)
    → IfText answer (IsMovingOrRedraw (display screen) (display prev))
    → IfText answer (IsMadeOf shortened_finals shortened_controls)
    → IfText answer KeepsPlain
    → IfText answer (λ text. length text ≤ length (bytes_of_all (difference (display screen) (display prev))))
    → IfText answer (λ text. length text ≤ length (shown_text screen))
    → IfText answer (RedrawsFrom prev screen)
    → IfText answer (IsSameIfEmpty prev screen)
    → IfText answer (λ text. display screen ≡ display prev → text ≡ [])
    → IfOk made (λ text. answer ≡ Ok text)
    → IfOk made (λ text. IsScrollingDiff screen prev (string_bytes text))
scrolls screen prev answer (Ok text) draws controls again shorter redraw redraws empty none is = record {
  draws = carried (IsMovingOrRedraw (display screen) (display prev)) answer text draws is;
  controls = carried (IsMadeOf shortened_finals shortened_controls) answer text controls is;
  again = carried KeepsPlain answer text again is;
  shorter = carried (λ t. length t ≤ length (bytes_of_all (difference (display screen) (display prev)))) answer text
      shorter is;
  redraw = carried (λ t. length t ≤ length (shown_text screen)) answer text redraw is;
  redraws = carried (RedrawsFrom prev screen) answer text redraws is;
  empty = carried (IsSameIfEmpty prev screen) answer text empty is;
  none = carried (λ t. display screen ≡ display prev → t ≡ []) answer text none is;
}
scrolls screen prev answer (Err status) draws controls again shorter redraw redraws empty none is = is

pub with_options : (options : DiffOptions) (screen prev : ScreenValue) (answer : Result (String Global) Error)
    (made : Result (String Global) ℕ)
    → IfText answer (IsDiffWith options prev screen)
    → IfText answer (IsMadeOf (finals_with options.repeat options.scroll) (diff_controls options.scroll))
    → IfText answer (RepeatsOnlyInRows prev screen)
    → IfText answer KeepsScreensPlain
    → IfText answer (λ text. length text ≤ length (display_change_in (form_with options) prev screen))
    → (IsTrue options.scroll → IfText answer (λ text. length text ≤ length (shown_text_in (form_with options) screen)))
    → IfText answer (RedrawsFrom prev screen)
    → IfText answer (IsSameIfEmpty prev screen)
    → IfText answer (λ text. display screen ≡ display prev → text ≡ [])
    → (IsTrue options.portable → IfText answer (IsPortableFrom prev screen))
    → IfOk made (λ text. answer ≡ Ok text)
    → IfOk made (λ text. IsDiffWithOptions options screen prev (string_bytes text))
with_options options screen prev answer (Ok text) draws controls rows again shorter redraw redraws empty none portable is =
    record {
      draws = carried (IsDiffWith options prev screen) answer text draws is;
      controls = carried (IsMadeOf (finals_with options.repeat options.scroll) (diff_controls options.scroll))
          answer text controls is;
      rows = carried (RepeatsOnlyInRows prev screen) answer text rows is;
      again = carried KeepsScreensPlain answer text again is;
      shorter = carried (λ t. length t ≤ length (display_change_in (form_with options) prev screen)) answer text
          shorter is;
      redraw = λ scrolls. carried (λ t. length t ≤ length (shown_text_in (form_with options) screen)) answer text
          (redraw scrolls) is;
      redraws = carried (RedrawsFrom prev screen) answer text redraws is;
      empty = carried (IsSameIfEmpty prev screen) answer text empty is;
      none = carried (λ t. display screen ≡ display prev → t ≡ []) answer text none is;
      portable = λ chosen. carried (IsPortableFrom prev screen) answer text (portable chosen) is;
    }
with_options options screen prev answer (Err status) draws controls rows again shorter redraw redraws empty none portable
    is = is

pub state_with_options : (options : DiffOptions) (screen prev : ScreenValue) (answer : Result (String Global) Error)
    (made : Result (String Global) ℕ)
    → IfText answer (IsStateDiffWith options prev screen)
    → IfText answer (IsMadeOf (finals_with options.repeat options.scroll) (state_diff_controls options.scroll))
    → IfText answer (RepeatsOnlyInRows prev screen)
    → IfText answer (SetsModesOnScreens (AreModes prev.modes) screen.modes)
    → IfText answer (GivesState (IsStateReaderOf screen prev) screen)
    → IfText answer (λ text. length text ≤ length (state_change_in (form_with options) prev screen))
    → (IsTrue options.scroll → IfText answer
    (λ text. length text ≤ length (shown_text_in (form_with options) screen ++ input_change prev.modes screen.modes)))
    → IfText answer (IsSameStateIfEmpty prev screen)
    → IfText answer (IsEmptyIfSameState prev screen)
    → (IsTrue options.portable →
    IfText answer (DrawsThenSets (IsPortableFrom prev screen) (input_change prev.modes screen.modes)))
    → IfOk made (λ text. answer ≡ Ok text)
    → IfOk made (λ text. IsStateDiffWithOptions options screen prev (string_bytes text))
state_with_options options screen prev answer (Ok text) draws controls rows again gives shorter redraw empty none portable is =
    record {
      draws = carried (IsStateDiffWith options prev screen) answer text draws is;
      controls = carried (IsMadeOf (finals_with options.repeat options.scroll) (state_diff_controls options.scroll))
          answer text controls is;
      rows = carried (RepeatsOnlyInRows prev screen) answer text rows is;
      again = carried (SetsModesOnScreens (AreModes prev.modes) screen.modes) answer text again is;
      gives = carried (GivesState (IsStateReaderOf screen prev) screen) answer text gives is;
      shorter = carried (λ t. length t ≤ length (state_change_in (form_with options) prev screen)) answer text shorter is;
      redraw = λ scrolls.
          carried (λ t. length t ≤ length (shown_text_in (form_with options) screen ++ input_change prev.modes screen.modes))
          answer text (redraw scrolls) is;
      empty = carried (IsSameStateIfEmpty prev screen) answer text empty is;
      none = carried (IsEmptyIfSameState prev screen) answer text none is;
      portable = λ asked.
          carried (DrawsThenSets (IsPortableFrom prev screen) (input_change prev.modes screen.modes)) answer text
          (portable asked) is;
    }
state_with_options options screen prev answer (Err status) draws controls rows again gives shorter redraw empty none portable is =
    is
