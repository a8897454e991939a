-- Portable redraws and diffs of several screens in sequence.
use Rattle.std.specs.Prelude.{◌≡◌, ◌++◌, ℕ, List, [], ◌∷◌, length}
use Rattle.vt_redraw.specs.Steady.{IsSteady}
use Rattle.vt_redraw.specs.declared.form.Form.TheVariants.{Portable}
use Rattle.vt_screen.specs.Screen.{IsColored, IsScreen, ScreenValue}
use Rattle.vt_screen.specs.Shown.{display, display_change_in}
use Rattle.vt_terminals.specs.BlackBox.{BlackBox}
use Rattle.vt_terminals.specs.Room.{HasRoom}
use Rattle.vt_terminals.specs.Terminal.{Positions}

-- A screen that portable output displays on the lawful black box, except perhaps for the cells at the positions `near`:
-- it is steady, it has the size of the box, and its glyphs of uncertain width have room.
pub record CanShowScreen (box : BlackBox) (near : Positions) (screen : ScreenValue) : Type 0 where
  pub sound : IsScreen screen
  pub colored : IsColored screen
  pub steady : IsSteady (display screen)
  pub room : HasRoom near (display screen)
  pub width : (display screen).width ≡ box.width
  pub height : length (display screen).rows ≡ box.height

-- The concatenated portable diffs from the given screen to the first screen of the list, and then from each screen of
-- the list to the next.
abbrev pub portable_texts : ScreenValue → List ScreenValue → List ℕ
portable_texts prev [] = []
portable_texts prev (x ∷ xs) = display_change_in Portable prev x ++ portable_texts x xs
