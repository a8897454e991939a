-- Pages that are sound, and the cells of a page after an edit of the cursor's row.
use Rattle.std.proofs.Common.{◌≡◌, ◌≢◌, ℕ, ◌+◌, ◌-◌, ◌<◌, ◌≤◌, ◌==◌, ◌&&◌, ◌⊎◌, nat_lt, Bool, true, false, List, length}
use Rattle.std.proofs.Common.{refl, inl, inr, ap, ◌∙◌, arith}
use Rattle.std.specs.Prelude.{if◌then◌else◌}
use Rattle.std.proofs.lemmas.Bool.{cases_eq, ne_eqb, eq-eqb, lt-ltb, le-ltb}
use Rattle.std.proofs.lemmas.Grind.{get_or-set_at}
use Rattle.std.proofs.lemmas.List.{get_or-set_other}
use Rattle.vt_cells.specs.Attrs.{default_attrs}
use Rattle.vt_cells.specs.Cell.{CellValue, blank, is_right_half, is_wide, attrs_of}
use Rattle.vt_rows.specs.Cells.{IsPaired, at, put_cells}
use Rattle.vt_rows.specs.Row.{RowValue, with_cells, blank_row}
use Rattle.vt_rows.proofs.Edits.{put_columns}
use Rattle.vt_grid.specs.Moves.{at_bottom, feeds_out, line_feed}
use Rattle.vt_grid.specs.Page.{Page, cell_at, cursor_row, row_at}
use Rattle.vt_grid.specs.Printing.{with_cursor_cells}
use Rattle.vt_terminals.specs.Sound.{IsSound}

-- ==== Other cells of the cursor's row

pub cell_here : (cells : List CellValue) (page : Page) (k : ℕ) → page.row < length page.rows →
    cell_at (with_cursor_cells cells page) page.row k ≡ at cells k
cell_here cells page k h =
    ap (λ (row : RowValue). at row.cells k)
    (get_or-set_at page.rows page.row page.row (with_cells (cursor_row page) cells) (blank_row default_attrs page.width)
    refl h)

pub row_here : (cells : List CellValue) (page : Page) → page.row < length page.rows →
    (row_at (with_cursor_cells cells page) page.row).cells ≡ cells
row_here cells page h =
    ap (λ (row : RowValue). row.cells)
    (get_or-set_at page.rows page.row page.row (with_cells (cursor_row page) cells) (blank_row default_attrs page.width)
    refl h)

pub row_other : (cells : List CellValue) (page : Page) (r : ℕ) → r ≢ page.row →
    row_at (with_cursor_cells cells page) r ≡ row_at page r
row_other cells page r ne =
    get_or-set_other page.rows page.row r (with_cells (cursor_row page) cells) (blank_row default_attrs page.width) ne

pub cell_other : (cells : List CellValue) (page : Page) (r k : ℕ) → r ≢ page.row →
    cell_at (with_cursor_cells cells page) r k ≡ cell_at page r k
cell_other cells page r k ne = ap (λ (row : RowValue). at row.cells k) (row_other cells page r ne)

-- ==== Columns that are replaced at a boundary

-- A cell before a boundary is no wide glyph that the boundary cuts.
before_boundary : (c k : ℕ) (cells : List CellValue) → IsPaired cells → is_right_half (at cells c) ≡ false → k + 1 ≡ c →
    is_wide (at cells k) ≡ false
before_boundary c k cells paired b e = paired.halves k ∙ (ap (λ (j : ℕ). is_right_half (at cells j)) e ∙ b)

pub put_left : (c n : ℕ) (o : CellValue) (new cells : List CellValue) (k : ℕ) → length new ≡ n → c + n ≤ length cells →
    IsPaired cells → is_right_half (at cells c) ≡ false → k < c → at (put_cells c o new n cells) k ≡ at cells k
put_left c n o new cells k l fits paired b lt =
    put_columns c n o new cells k l fits
    ∙ (ap (λ (t : Bool). if t then (if (k + 1 == c) && is_wide (at cells k) then blank (attrs_of (at cells k)) else at
    cells k)
    else if nat_lt k (c + n) then at new (k - c)
    else if (k == c + n) && is_right_half (at cells k) then o else at cells k) (lt-ltb k c lt)
    ∙ cases (cases_eq (k + 1) c))
  where
    cases : (k + 1 ≡ c) ⊎ (k + 1 ≢ c) →
        (if (k + 1 == c) && is_wide (at cells k) then blank (attrs_of (at cells k)) else at cells k) ≡ at cells k
    cases (inl e) = rw (before_boundary c k cells paired b e, eq-eqb (k + 1) c e) refl
    cases (inr ne) = rw (ne_eqb (k + 1) c ne) refl

pub put_new : (c n : ℕ) (o : CellValue) (new cells : List CellValue) (k : ℕ) → length new ≡ n → c + n ≤ length cells →
    k < n → at (put_cells c o new n cells) (c + k) ≡ at new k
put_new c n o new cells k l fits lt =
    put_columns c n o new cells (c + k) l fits
    ∙ rw (le-ltb (c + k) c (omega arith), lt-ltb (c + k) (c + n) (omega arith))
    (ap (λ (j : ℕ). at new j) (omega arith))

pub put_right : (c n : ℕ) (o : CellValue) (new cells : List CellValue) (k : ℕ) → length new ≡ n → c + n ≤ length cells →
    c + n < k → at (put_cells c o new n cells) k ≡ at cells k
put_right c n o new cells k l fits lt =
    put_columns c n o new cells k l fits
    ∙ rw (le-ltb k c (omega arith), le-ltb k (c + n) (omega arith), ne_eqb k (c + n) (λ e. omega arith)) refl

pub put_next : (c n : ℕ) (o : CellValue) (new cells : List CellValue) (k : ℕ) → length new ≡ n → c + n ≤ length cells →
    c + n ≡ k → is_right_half (at cells k) ≡ false → at (put_cells c o new n cells) k ≡ at cells k
put_next c n o new cells k l fits e b =
    put_columns c n o new cells k l fits
    ∙ rw (le-ltb k c (omega arith), le-ltb k (c + n) (omega arith), b, eq-eqb k (c + n) (omega arith)) refl

-- ==== Line feeds and wraps above the last row

pub not_bottom : (page : Page) → IsSound page → page.row + 1 < length page.rows → at_bottom page ≡ false
not_bottom page sound below = let e = sound.bottom in ne_eqb page.row page.bottom
    (λ same. omega (arith, same, e, below))

pub feed_is : (page : Page) → IsSound page → page.row + 1 < length page.rows →
    line_feed page ≡ record page { row = page.row + 1 }
unfolding line_feed
feed_is page sound below =
    rw (not_bottom page sound below, lt-ltb (page.row + 1) (length page.rows) below) refl

pub feeds_none : (page : Page) → IsSound page → page.row + 1 < length page.rows → feeds_out page ≡ false
feeds_none page sound below = rw (not_bottom page sound below) refl

-- A line feed that scrolls no row off a plain page is above the last row.
pub fed_below : (page : Page) → IsSound page → feeds_out page ≡ false → page.row + 1 < length page.rows
fed_below page sound f = by_bottom (cases_eq page.row page.bottom) where
  by_bottom : (page.row ≡ page.bottom) ⊎ (page.row ≢ page.bottom) → page.row + 1 < length page.rows
  by_bottom (inl e) =
      let all : feeds_out page ≡ true = rw (eq-eqb page.row page.bottom e, eq-eqb page.top 0 sound.top) refl in
      absurd cc
  by_bottom (inr ne) = let b = sound.bottom in let r = sound.row in omega (arith, ne, b, r)
