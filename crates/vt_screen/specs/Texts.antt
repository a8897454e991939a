-- Text that is printed character by character without scrolling a row off the page.
use Rattle.std.specs.Prelude.{ℕ, List, [], ◌∷◌}
use Rattle.vt_screen.specs.Screen.{ScreenValue}
use Rattle.vt_screen.specs.Steps.{Print, display_after}

-- The screen after the given characters are printed in order.
abbrev pub screen_after_text : List ℕ → ScreenValue → ScreenValue
screen_after_text [] screen = screen
screen_after_text (c ∷ text) screen = screen_after_text text (display_after (Print c) screen)
