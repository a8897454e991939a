-- The effects of calls that scroll rows off the top of a page or resize it.
use Rattle.std.specs.Prelude.{◌≡◌, ℕ, Bool, List, IsErr, IsTrue, OnErr, OnOk, false, length, take}
use Rattle.std.specs.List.{FoldsTo}
use Rattle.std.specs.declared.result.Result.{Result}
use Rattle.vt_cells.specs.Refusals.{OnlyOutOfMemory}
use Rattle.vt_cells.specs.declared.error.Error.{Error}
use Rattle.vt_rows.specs.Row.{RowValue}
use Rattle.vt_grid.specs.Page.{Page}
use Rattle.vt_grid.specs.Resize.{leaving_count, out_of_view, page_resized, resize_reports, scrollback_resized}
use Rattle.vt_grid.specs.Scrollback.{Scrollback, Sends, TakesMemory}

-- A call changes `before` (a page or its rows) to `made`, moves the rows `gone` to the scrollback `above`, and reports
-- the rows that scrollback does not keep. If the call fails, the error is `OutOfMemory`, nothing is changed, and
-- `TakesMemory` holds for `gone` and `above`.
pub record LetsRowsGo {P S : Type 0} (leaves : S → RowValue → S → Type 0) (height width : ℕ) (gone : List RowValue)
    (before : P) (above : Scrollback) (old : S) (made after : P) (kept : Scrollback) (new : S)
    (result : Result (Unit {0}) Error) : Type 0 where
  pub page : OnOk result (after ≡ made)
  pub sent : OnOk result (Sends leaves height width gone above old kept new)
  pub err : OnErr result ((after ≡ before) × ((kept ≡ above) × (new ≡ old)))
  pub grows : IsErr result → TakesMemory gone above
  pub memory : OnlyOutOfMemory result

-- If the result is an error, the error is `OutOfMemory`, and nothing is changed: `after` equals `before`, and `new`
-- equals `old`.
pub record FailsUnchanged {P S : Type 0} (before : P) (old : S) (after : P) (new : S)
    (result : Result (Unit {0}) Error) : Type 0 where
  pub err : OnErr result ((after ≡ before) × (new ≡ old))
  pub memory : OnlyOutOfMemory result

-- The rows `gone` are moved to the scrollback `above`, which becomes `after`, and rows that scrollback does not keep
-- are reported. If an allocation fails, `after` equals `before`, and no rows are reported.
pub record SendsOrFails {S : Type 0} (leaves : S → RowValue → S → Type 0) (height width : ℕ) (gone : List RowValue)
    (above : Scrollback) (old : S) (before after : Scrollback) (new : S)
    (result : Result (Unit {0}) Error) : Type 0 where
  pub sent : OnOk result (Sends leaves height width gone above old after new)
  pub refused : FailsUnchanged before old after new result

-- A resize to the given height and width turns the page `before` into `after` and its scrollback `was` into `kept`, and
-- reports the rows that scrollback does not keep. If an allocation for the rows that scroll off fails, nothing is
-- changed.
pub record ResizesPage {S : Type 0} (leaves : S → RowValue → S → Type 0) (height width : ℕ)
    (before : Page) (was : Scrollback) (old : S) (after : Page) (kept : Scrollback) (new : S)
    (result : Result (Unit {0}) Error) : Type 0 where
  pub page : OnOk result (after ≡ page_resized height width was before)
  pub above : OnOk result (kept ≡ scrollback_resized height before was)
  pub reported : OnOk result (FoldsTo leaves old (resize_reports height before was) new)
  pub err : OnErr result ((after ≡ before) × ((kept ≡ was) × (new ≡ old)))
  pub grows : IsErr result → TakesMemory (take (leaving_count height before) before.rows) (out_of_view was)
  pub memory : OnlyOutOfMemory result

-- Extending the page `before`, which has at most `height` rows, to `height` rows turns it into `after`, and its
-- scrollback `was` into `kept`. If an allocation fails, nothing is changed.
pub record AddsRows (height : ℕ) (before : Page) (was : Scrollback) (after : Page) (kept : Scrollback)
    (result : Result (Unit {0}) Error) : Type 0 where
  pub page : OnOk result (after ≡ page_resized height before.width was before)
  pub above : OnOk result (kept ≡ scrollback_resized height before was)
  pub err : OnErr result ((after ≡ before) × (kept ≡ was))
  pub memory : OnlyOutOfMemory result

-- If the result is true, a resize to the given width has turned the page `before` into `after` and its scrollback `was`
-- into `kept`. If the result is false, nothing is changed.
pub record SetsColumns (width : ℕ) (before : Page) (was : Scrollback) (after : Page) (kept : Scrollback)
    (result : Bool) : Type 0 where
  pub page : IsTrue result → after ≡ page_resized (length before.rows) width was before
  pub above : IsTrue result → kept ≡ scrollback_resized (length before.rows) before was
  pub undone : result ≡ false → (after ≡ before) × (kept ≡ was)
