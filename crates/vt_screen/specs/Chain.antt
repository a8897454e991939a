-- A redraw followed by diffs, each of which starts from the previous screen.
use Rattle.std.specs.Prelude.{ℕ, List, [], ◌∷◌, ◌++◌}
use Rattle.vt_redraw.specs.Picture.{SamePictureSize}
use Rattle.vt_redraw.specs.Steady.{IsSteady}
use Rattle.vt_screen.specs.Screen.{ScreenValue, IsScreen, IsColored}
use Rattle.vt_screen.specs.Shown.{display, display_change, shown_text}

-- The screen can be redrawn on the terminal `reader`: the screen's picture is steady and has the size of that terminal.
pub record CanShowOn (reader self : ScreenValue) : Type 0 where
  pub sound : IsScreen self
  pub colored : IsColored self
  pub steady : IsSteady (display self)
  pub size : SamePictureSize (display self) (display reader)

-- The concatenated diffs that lead from the first screen to each screen of the list in turn.
abbrev pub texts_after : ScreenValue → List ScreenValue → List ℕ
texts_after prev [] = []
texts_after prev (x ∷ xs) = display_change prev x ++ texts_after x xs

abbrev pub chain_text : ScreenValue → List ScreenValue → List ℕ
chain_text self nexts = shown_text self ++ texts_after self nexts

abbrev pub last_screen : ScreenValue → List ScreenValue → ScreenValue
last_screen self [] = self
last_screen self (x ∷ xs) = last_screen x xs
