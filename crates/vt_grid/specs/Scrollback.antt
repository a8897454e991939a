-- Scrollback: the rows that scrolled off the top of a page and are still kept (xterm's saved lines).
use Rattle.std.specs.Prelude.{◌≡◌, ℕ, ◌+◌, ◌-◌, ◌==◌, ◌≤◌, ◌<◌, nat_lt, List, [], ◌∷◌}
use Rattle.std.specs.Prelude.{◌++◌, length, All, take, drop, map, min, slice_index_or, if◌then◌else◌}
use Rattle.std.specs.List.{FoldsTo}
use Rattle.vt_rows.specs.Row.{RowValue, IsRow, resized_row, trimmed_row}

-- The value of scrollback: its rows, oldest first; its capacity in rows; the number of rows that scrollback would have
-- with unlimited capacity; and the number of rows by which the display is scrolled back.
pub record Scrollback : Type 0 where
  pub rows : List RowValue
  pub capacity : ℕ
  pub theoretical : ℕ
  pub offset : ℕ

-- Empty scrollback with the given capacity.
abbrev pub no_scrollback : ℕ → Scrollback
no_scrollback capacity = record { rows = []; capacity = capacity; theoretical = 0; offset = 0 }

-- The invariant of scrollback: the number of rows is at most the capacity, the offset is at most the number of rows,
-- and every row is valid for its own width.
pub record IsScrollback (above : Scrollback) : Type 0 where
  pub kept : length above.rows ≤ above.capacity
  pub in_view : above.offset ≤ length above.rows
  pub sound : All (λ row. IsRow (length row.cells) row) above.rows

-- The last `n` items of a list.
abbrev pub last_of : {X : Type 0} → ℕ → List X → List X
last_of n xs = drop (length xs - n) xs

-- All items of a list except the last `n`.
abbrev pub before_last : {X : Type 0} → ℕ → List X → List X
before_last n xs = take (length xs - n) xs

-- The scrollback rows, followed by the rows that scrolled off the page. The rows that scrolled off lose their trailing
-- default blanks.
abbrev pub rows_with_scrolled_off : List RowValue → Scrollback → List RowValue
rows_with_scrolled_off gone above = above.rows ++ map trimmed_row gone

-- 2^64 - 1, the maximum of scrollback's theoretical length (the number of rows that it would have with unlimited
-- capacity).
abbrev pub greatest : ℕ
greatest = 18446744073709551615

-- Scrollback after the given rows scroll off. If scrollback rows are displayed, the same rows stay displayed as long as
-- scrollback keeps them.
unfoldable pub kept_after : List RowValue → Scrollback → Scrollback
kept_after gone above =
    let rows = last_of above.capacity (rows_with_scrolled_off gone above) in
    record above {
      rows = rows;
      theoretical = min (above.theoretical + length gone) greatest;
      offset = if above.offset == 0 then 0 else min (above.offset + length gone) (length rows);
    }

-- The row, extended to the given width if it is narrower.
abbrev pub grown_row : ℕ → RowValue → RowValue
grown_row width row = if nat_lt (length row.cells) width then resized_row width row else row

-- The number of rows narrower than the given width.
abbrev pub narrow_rows : ℕ → List RowValue → ℕ
narrow_rows width [] = 0
narrow_rows width (row ∷ rows) = (if nat_lt (length row.cells) width then 1 else 0) + narrow_rows width rows

-- Scrollback with its displayed rows extended to the screen's width. The displayed rows begin `offset` rows before the
-- end of scrollback, where `offset` is the scrollback offset, and there are at most `height` of them.
unfoldable pub grown_in_view : (height width : ℕ) → Scrollback → Scrollback
grown_in_view height width above =
    let first = length above.rows - above.offset in
    record above {
      rows =
          take first above.rows
          ++ (map (grown_row width) (take height (drop first above.rows)) ++ drop (first + height) above.rows);
    }

-- Scrollback after the given rows scroll off a page of the given height and width. Displayed scrollback rows that are
-- narrower than the page are extended to its width. If no rows are given, nothing is changed.
abbrev pub scrollback_after_push : (height width : ℕ) → List RowValue → Scrollback → Scrollback
scrollback_after_push height width [] above = above
scrollback_after_push height width (row ∷ gone) above = grown_in_view height width (kept_after (row ∷ gone) above)

-- The rows that are reported because scrollback does not keep them when the given rows scroll off, oldest first.
abbrev pub rows_reported : List RowValue → Scrollback → List RowValue
rows_reported [] above = []
rows_reported (row ∷ gone) above = before_last above.capacity (rows_with_scrolled_off (row ∷ gone) above)

-- A single row scrolls off and reuses the memory of the oldest scrollback row, which has at least as many cells as the
-- new row without its trailing default blanks. Scrollback is at capacity, and none of it is displayed.
pub record RecyclesOldest (gone : List RowValue) (above : Scrollback) : Type 0 where
  pub one : length gone ≡ 1
  pub full : length above.rows ≡ above.capacity
  pub hidden : above.offset ≡ 0
  pub room : (d : RowValue) → length (trimmed_row (slice_index_or gone 0 d)).cells
      ≤ length (slice_index_or above.rows 0 d).cells

-- Moving the given rows into scrollback may allocate: there is at least one row, the capacity is not 0, and the memory
-- of the oldest scrollback row cannot be reused.
abbrev pub TakesMemory : List RowValue → Scrollback → Type 0
TakesMemory gone above = (0 < length gone) × ((0 < above.capacity) × (RecyclesOldest gone above → ⊥))

-- The effect of scrolling the given rows off a page: the rows are moved into scrollback, and the rows that scrollback
-- does not keep are reported one by one. The relation of type `S → RowValue → S → Type 0` says how a reported row
-- changes the state of the receiver.
abbrev pub Sends : {S : Type 0} → (S → RowValue → S → Type 0) →
    (height width : ℕ) → List RowValue → Scrollback → S → Scrollback → S → Type 0
Sends leaves height width gone above old after new =
    (after ≡ scrollback_after_push height width gone above) × FoldsTo leaves old (rows_reported gone above) new

-- Scrollback after its offset is set to the given number of rows, clamped to the number of scrollback rows. The
-- displayed rows are extended to the screen's width.
unfoldable pub with_view : (height width : ℕ) → ℕ → Scrollback → Scrollback
with_view height width n above = grown_in_view height width (record above { offset = min n (length above.rows) })

-- On a screen of the given height and width, setting the scrollback offset to the given number allocates memory,
-- because a displayed row must be extended.
abbrev pub ViewTakesMemory : (height width : ℕ) → ℕ → Scrollback → Type 0
ViewTakesMemory height width n above = 0 < narrow_rows width (take height (last_of n above.rows))

-- Scrollback after it is cleared: it has no rows, its theoretical length and its offset are 0, and its capacity is
-- unchanged.
abbrev pub scrollback_after_clear : Scrollback → Scrollback
scrollback_after_clear above = no_scrollback above.capacity

-- The displayed rows: the newest `offset` scrollback rows, followed by rows of the page, up to the height of the page.
abbrev pub visible : Scrollback → List RowValue → List RowValue
visible above rows = take (length rows) (last_of above.offset above.rows ++ rows)
