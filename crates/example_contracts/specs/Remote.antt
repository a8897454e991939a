-- A remote terminal that is kept equal to a screen.
use Rattle.std.specs.Prelude.{◌≡◌, ℕ, List, ◌∷◌, ◌++◌, true}
use Rattle.std.specs.List.{AllByRecursion, FoldsTo}
use Rattle.vt_cells.specs.Op.{bytes_of_all}
use Rattle.vt_grid.specs.Page.{SameSize}
use Rattle.vt_redraw.specs.Redraw.{difference}
use Rattle.vt_screen.specs.Chain.{chain_text, last_screen}
use Rattle.vt_screen.specs.Screen.{IsColored, IsScreen, ScreenValue}
use Rattle.vt_screen.specs.Shown.{display}
use Rattle.vt100.specs.Parser.{ParserValue}
use Rattle.vt100.specs.Pieces.{IsPlainParser, Processes, Processing, bytes_in}

-- The parser is plain and displays the same content as the screen.
pub record ShowsScreen {S : Type 0} (screen : ScreenValue) (remote : ParserValue S) : Type 0 where
  pub plain : IsPlainParser remote
  pub shows : display remote.screen ≡ display screen

-- ---- Auxiliary definitions for proofs, cited only by private functions

-- The terminal received `bytes` through calls to `process`, and failed only if it had failed before.
pub record HasTaken {S : Type 0} (bytes : List ℕ) (old new : ParserValue S) : Type 0 where
  pub calls : List Processing
  pub whole : bytes_in calls ≡ bytes
  pub folds : FoldsTo Processes old calls new
  pub fails : new.is_failed ≡ true → old.is_failed ≡ true

-- The terminal received a prefix of `text`, and `rest` is the remaining part.
pub record IsCut {S : Type 0} (text rest : List ℕ) (old new : ParserValue S) : Type 0 where
  pub front : List ℕ
  pub whole : front ++ rest ≡ text
  pub takes : HasTaken front old new

-- The screen and its colors are valid, so the screen can be sent to a terminal.
pub record IsWhole (screen : ScreenValue) : Type 0 where
  pub sound : IsScreen screen
  pub colored : IsColored screen

-- The terminal received the diff from `prev` to `screen`.
pub record SendsNext {S : Type 0} (screen prev : ScreenValue) (old new : ParserValue S) : Type 0 where
  pub whole : IsWhole screen
  pub takes : HasTaken (bytes_of_all (difference (display screen) (display prev))) old new

-- The terminal received the redraw of `first`, followed by the diffs that lead from `first` through the screens of
-- `nexts`. The last of these screens is `prev`.
pub record HasFollowed {S : Type 0} (first : ScreenValue) (nexts : List ScreenValue) (prev : ScreenValue)
    (old new : ParserValue S) : Type 0 where
  pub whole : AllByRecursion IsWhole (first ∷ nexts)
  pub size : SameSize prev.page first.page
  pub last : last_screen first nexts ≡ prev
  pub takes : HasTaken (chain_text first nexts) old new
