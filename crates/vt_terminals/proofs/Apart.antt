-- Cells after an edit at a boundary.
use Rattle.std.proofs.Common.{◌≡◌, ◌≢◌, ℕ, ◌+◌, ◌-◌, ◌<◌, ◌≤◌, ◌⊎◌, Bool, true, false, List, [], ◌∷◌, length, refl, inl}
use Rattle.std.proofs.Common.{inr, sym, ap, ◌∙◌, arith}
use Rattle.std.proofs.lemmas.Bool.{cases_eq, cases_Bool, eq-eqb, le-ltb}
use Rattle.std.proofs.lemmas.List.{length-set}
use Rattle.vt_cells.specs.Cell.{CellValue, blank, glyph, is_right_half, right_half}
use Rattle.vt_cells.specs.Glyph.{glyph_columns}
use Rattle.vt_rows.specs.Cells.{at, put_cells}
use Rattle.vt_rows.specs.Row.{with_cells}
use Rattle.vt_rows.proofs.Edits.{put_columns}
use Rattle.vt_grid.specs.Canvas.{Canvas}
use Rattle.vt_grid.specs.Page.{Page, cell_at, cursor_row}
use Rattle.vt_grid.specs.Printing.{glyph_put, with_cursor_cells}
use Rattle.vt_terminals.specs.Laws.{Apart}
use Rattle.vt_terminals.specs.Sound.{IsSound}
use Rattle.vt_terminals.proofs.Glyphs.{sound_glyph}
use Rattle.vt_terminals.proofs.Pages.{cell_here, cell_other, put_left, put_new, put_next, put_right}
use Rattle.vt_terminals.proofs.Puts.{page_put}

-- ==== Cells after an edit at a boundary

-- The position is where the edit of `n` columns at the cursor changes nothing.
pub apart_same : (page : Page) (n : ℕ) (o : CellValue) (new : List CellValue) → IsSound page → length new ≡ n →
    page.column + n ≤ page.width → is_right_half (at (cursor_row page).cells page.column) ≡ false → (i k : ℕ) →
    Apart page.row page.column (n + 1) i k →
    cell_at (with_cursor_cells (put_cells page.column o new n (cursor_row page).cells) page) i k ≡ cell_at page i k
apart_same page n o new sound size fits boundary i k apart = by_row (cases_eq i page.row) apart
  where
    fit : page.column + n ≤ length (cursor_row page).cells
    fit = let l = sound.columns page.row sound.row in omega (arith, l, fits)

    here : (k < page.column) ⊎ (page.column + (n + 1) ≤ k) →
        at (put_cells page.column o new n (cursor_row page).cells) k ≡ at (cursor_row page).cells k
    here (inl lt) =
        put_left page.column n o new (cursor_row page).cells k size fit (sound.paired page.row sound.row) boundary lt
    here (inr le) = put_right page.column n o new (cursor_row page).cells k size fit (omega (arith, le))

    by_row : (i ≡ page.row) ⊎ (i ≢ page.row) → Apart page.row page.column (n + 1) i k →
        cell_at (with_cursor_cells (put_cells page.column o new n (cursor_row page).cells) page) i k ≡ cell_at page i k
    by_row (inr ne) far = cell_other (put_cells page.column o new n (cursor_row page).cells) page i k ne
    by_row (inl e) (inl ne) = absurd (ne e)
    by_row (inl e) (inr far) =
        ap (λ (j : ℕ). cell_at (with_cursor_cells (put_cells page.column o new n (cursor_row page).cells) page) j k) e
        ∙ (cell_here (put_cells page.column o new n (cursor_row page).cells) page k sound.row
        ∙ (here far ∙ ap (λ (j : ℕ). cell_at page j k) (sym e)))

-- The cell after the edit, if the edit cuts no wide glyph there.
pub next_same : (page : Page) (n : ℕ) (o : CellValue) (new : List CellValue) → IsSound page → length new ≡ n →
    page.column + n ≤ page.width → is_right_half (cell_at page page.row (page.column + n)) ≡ false →
    cell_at (with_cursor_cells (put_cells page.column o new n (cursor_row page).cells) page) page.row (page.column + n)
    ≡ cell_at page page.row (page.column + n)
next_same page n o new sound size fits whole =
    let l = sound.columns page.row sound.row in
    cell_here (put_cells page.column o new n (cursor_row page).cells) page (page.column + n) sound.row
    ∙ put_next page.column n o new (cursor_row page).cells (page.column + n) size (omega (arith, l, fits)) refl whole

-- After the edit, no wide glyph covers its end.
pub end_whole : (page : Page) (n : ℕ) (o : CellValue) (new : List CellValue) → IsSound page → length new ≡ n →
    page.column + n ≤ page.width → is_right_half o ≡ false →
    is_right_half (cell_at (with_cursor_cells (put_cells page.column o new n (cursor_row page).cells) page) page.row
    (page.column + n)) ≡ false
end_whole page n o new sound size fits orphan =
    by_half (cases_Bool (is_right_half (cell_at page page.row (page.column + n))))
  where
    fit : page.column + n ≤ length (cursor_row page).cells
    fit = let l = sound.columns page.row sound.row in omega (arith, l, fits)

    by_half : (is_right_half (cell_at page page.row (page.column + n)) ≡ true)
        ⊎ (is_right_half (cell_at page page.row (page.column + n)) ≡ false) →
        is_right_half (cell_at (with_cursor_cells (put_cells page.column o new n (cursor_row page).cells) page) page.row
        (page.column + n)) ≡ false
    by_half (inr f) = ap is_right_half (next_same page n o new sound size fits f) ∙ f
    by_half (inl t) =
        ap is_right_half (cell_here (put_cells page.column o new n (cursor_row page).cells) page (page.column + n)
        sound.row
        ∙ (put_columns page.column n o new (cursor_row page).cells (page.column + n) size fit
        ∙ rw (
          le-ltb (page.column + n) page.column (omega arith),
          le-ltb (page.column + n) (page.column + n) (omega arith),
          t,
          eq-eqb (page.column + n) (page.column + n) refl,
        ) refl))
        ∙ orphan

pub new_here : (page : Page) (n : ℕ) (o : CellValue) (new : List CellValue) (k : ℕ) → IsSound page → length new ≡ n →
    page.column + n ≤ page.width → k < n →
    cell_at (with_cursor_cells (put_cells page.column o new n (cursor_row page).cells) page) page.row (page.column + k)
    ≡ at new k
new_here page n o new k sound size fits lt =
    let l = sound.columns page.row sound.row in
    cell_here (put_cells page.column o new n (cursor_row page).cells) page (page.column + k) sound.row
    ∙ put_new page.column n o new (cursor_row page).cells k size (omega (arith, l, fits)) lt

-- Boundaries stay, except within the edited columns.
pub begins_same : (page : Page) (n : ℕ) (o : CellValue) (new : List CellValue) → IsSound page → length new ≡ n → 0 < n →
    page.column + n ≤ page.width → is_right_half (at (cursor_row page).cells page.column) ≡ false →
    is_right_half o ≡ false → is_right_half (at new 0) ≡ false → (i k : ℕ) →
    Apart page.row (page.column + 1) (n - 1) i k →
    is_right_half (cell_at page i k) ≡ false →
    is_right_half (cell_at (with_cursor_cells (put_cells page.column o new n (cursor_row page).cells) page) i k) ≡ false
begins_same page n o new sound size some fits boundary orphan first i k apart whole =
    by_place apart (cases_eq i page.row) (cases_eq k page.column) (cases_eq k (page.column + n))
  where
    far : Apart page.row page.column (n + 1) i k →
        is_right_half (cell_at (with_cursor_cells (put_cells page.column o new n (cursor_row page).cells) page) i k) ≡
        false
    far a = ap is_right_half (apart_same page n o new sound size fits boundary i k a) ∙ whole

    by_place : Apart page.row (page.column + 1) (n - 1) i k → (i ≡ page.row) ⊎ (i ≢ page.row) →
        (k ≡ page.column) ⊎ (k ≢ page.column) → (k ≡ page.column + n) ⊎ (k ≢ page.column + n) →
        is_right_half (cell_at (with_cursor_cells (put_cells page.column o new n (cursor_row page).cells) page) i k) ≡
        false
    by_place a (inr ne) x y = far (inl ne)
    by_place (inl ne) (inl e) x y = absurd (ne e)
    by_place (inr a) (inl e) (inl f) y =
        let c0 : page.column + 0 ≡ k = omega (arith, f) in
        ap (λ (j : ℕ). is_right_half (cell_at (with_cursor_cells (put_cells page.column o new n (cursor_row page).cells)
        page)
        j k)) e
        ∙ (ap (λ (j : ℕ). is_right_half (cell_at (with_cursor_cells (put_cells page.column o new n
        (cursor_row page).cells)
        page) page.row j)) (sym c0)
        ∙ (ap is_right_half (new_here page n o new 0 sound size fits some) ∙ first))
    by_place (inr a) (inl e) (inr f) (inl g) =
        ap (λ (j : ℕ). is_right_half (cell_at (with_cursor_cells (put_cells page.column o new n (cursor_row page).cells)
        page)
        j k)) e
        ∙ (ap (λ (j : ℕ). is_right_half (cell_at (with_cursor_cells (put_cells page.column o new n
        (cursor_row page).cells)
        page) page.row j)) g
        ∙ end_whole page n o new sound size fits orphan)
    by_place (inr (inl lt)) (inl e) (inr f) (inr g) = far (inr (inl (omega (arith, lt, f))))
    by_place (inr (inr le)) (inl e) (inr f) (inr g) = far (inr (inr (omega (arith, le, f, g, some))))

-- What the model does with a glyph that is printed at the cursor where there is room for `n` columns: it changes only
-- columns of the cursor's row from the cursor on.
pub record Stays (n : ℕ) (canvas next : Canvas) : Type 0 where
  pub width : next.page.width ≡ canvas.page.width
  pub height : length next.page.rows ≡ length canvas.page.rows
  pub cells : (r c : ℕ) → (r ≢ canvas.page.row) ⊎ ((c < canvas.page.column) ⊎ (canvas.page.column + n < c)) →
      cell_at next.page r c ≡ cell_at canvas.page r c
  pub attrs : next.attrs ≡ canvas.attrs
  pub hidden : next.hidden ≡ canvas.hidden
  pub saved_row : next.page.saved_row ≡ canvas.page.saved_row
  pub saved_column : next.page.saved_column ≡ canvas.page.saved_column
  pub saved_attrs : next.saved_attrs ≡ canvas.saved_attrs
  pub sound : IsSound next.page
  pub column : next.page.column < next.page.width

stays_put : (canvas : Canvas) (m n : ℕ) (o : CellValue) (new : List CellValue) → IsSound canvas.page → length new ≡ n →
    canvas.page.column + m < canvas.page.width → n ≤ m →
    is_right_half (at (cursor_row canvas.page).cells canvas.page.column) ≡ false →
    IsSound (page_put n o new canvas.page) →
    Stays m canvas (record canvas { page = page_put n o new canvas.page })
stays_put canvas m n o new sound size room le boundary now = record {
  width = refl;
  height = length-set canvas.page.rows canvas.page.row
      (with_cells (cursor_row canvas.page) (put_cells canvas.page.column o new n (cursor_row canvas.page).cells));
  cells = λ r c far. apart_same canvas.page n o new sound size (omega (arith, room, le)) boundary r c (apart r c far);
  attrs = refl;
  hidden = refl;
  saved_row = refl;
  saved_column = refl;
  saved_attrs = refl;
  sound = now;
  column = omega (arith, room, le);
} where
  apart : (r c : ℕ) → (r ≢ canvas.page.row) ⊎ ((c < canvas.page.column) ⊎ (canvas.page.column + m < c)) →
      Apart canvas.page.row canvas.page.column (n + 1) r c
  apart r c (inl ne) = inl ne
  apart r c (inr (inl lt)) = inr (inl lt)
  apart r c (inr (inr lt)) = inr (inr (omega (arith, lt, le)))

pub stays_glyph : (canvas : Canvas) (m : ℕ) (text : List ℕ) (wide : Bool) → IsSound canvas.page →
    canvas.page.column + m < canvas.page.width → glyph_columns wide ≤ m →
    is_right_half (at (cursor_row canvas.page).cells canvas.page.column) ≡ false →
    Stays m canvas (record canvas { page = glyph_put text wide canvas.attrs canvas.page })
stays_glyph canvas m text false sound room le boundary =
    stays_put canvas m 1 (glyph (0x20 ∷ []) false canvas.attrs) (glyph text false canvas.attrs ∷ []) sound refl room le
    boundary
    (sound_glyph text false canvas.attrs canvas.page sound (omega (arith, room, le)))
stays_glyph canvas m text true sound room le boundary =
    stays_put canvas m 2 (blank canvas.attrs) (glyph text true canvas.attrs ∷ right_half ∷ []) sound refl room le
    boundary
    (sound_glyph text true canvas.attrs canvas.page sound (omega (arith, room, le)))
