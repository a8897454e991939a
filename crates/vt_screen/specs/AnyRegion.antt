-- A redraw for terminals with any scroll region and origin mode, and its effect on them.
use Rattle.std.specs.Prelude.{◌≡◌, ℕ, List, [], ◌∷◌, ◌++◌}
use Rattle.vt_cells.specs.Op.{bytes_of_all, csi}
use Rattle.vt_redraw.specs.Picture.{Picture, SamePictureSize}
use Rattle.vt_redraw.specs.Redraw.{redraw}
use Rattle.vt_screen.specs.Screen.{ScreenValue, IsScreen, above_page}
use Rattle.vt_screen.specs.Shown.{display}

-- The sequences that turn off origin mode (DECOM) and make the whole page the scroll region (DECSTBM without
-- parameters).
abbrev pub whole_region_text : List ℕ
whole_region_text = csi (0x3F ∷ 0x36 ∷ []) 0x6C ++ csi [] 0x72

-- The sequences that turn off origin mode and reset the scroll region, followed by the redraw of a picture.
abbrev pub reset_text : Picture → List ℕ
reset_text picture = whole_region_text ++ bytes_of_all (redraw picture)

-- The terminal has the picture's size and displays no scrollback. The terminal's scroll region and origin mode are
-- arbitrary.
pub record IsReaderInAnyRegion (picture : Picture) (reader : ScreenValue) : Type 0 where
  pub sound : IsScreen reader
  pub offset : (above_page reader).offset ≡ 0
  pub size : SamePictureSize picture (display reader)

-- Scrollback and its offset, the inactive page, the width and the modes are unchanged, and the same page is active.
-- Everything else may have changed, including the active page's contents, scroll region and origin mode, the saved
-- state, and the last printed character.
pub record KeepsRestButRegion (reader after : ScreenValue) : Type 0 where
  pub other : after.other ≡ reader.other
  pub is_alternate : after.is_alternate ≡ reader.is_alternate
  pub scrollback : after.scrollback ≡ reader.scrollback
  pub width : after.page.width ≡ reader.page.width
  pub modes : after.modes ≡ reader.modes
