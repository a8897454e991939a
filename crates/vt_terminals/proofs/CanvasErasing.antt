-- Erasing a page or the rest of a row of a canvas obeys the laws.
use Rattle.std.proofs.Common.{◌≡◌, ◌≢◌, ℕ, suc, ◌+◌, ◌-◌, ◌<◌, ◌≤◌, ◌⊎◌, ◌||◌, ◌==◌, min, Bool, length, take, replicate}
use Rattle.std.proofs.Common.{refl, inl, inr, sym, ap, subst, ◌∙◌, Some, arith}
use Rattle.std.specs.Prelude.{if◌then◌else◌}
use Rattle.std.proofs.lemmas.Bool.{cases_eq, cond_both, ne_eqb}
use Rattle.std.proofs.lemmas.List.{get_or-append_right, get_or_append_left, get_or-replicate, get_or-take}
use Rattle.std.proofs.lemmas.List.{length-replicate, length-take, length-set}
use Rattle.vt_cells.specs.Attrs.{Attrs, default_attrs}
use Rattle.vt_cells.specs.Cell.{blank, default_blank}
use Rattle.vt_rows.specs.Cells.{at, blanks, put_cells}
use Rattle.vt_rows.specs.Row.{RowValue, blank_row, with_cells}
use Rattle.vt_grid.specs.Canvas.{Canvas}
use Rattle.vt_grid.specs.Erasing.{blanked_below, erased_below, erased_chars, erased_columns, erased_rest}
use Rattle.vt_grid.specs.Page.{Page, cell_at, cursor_row}
use Rattle.vt_redraw.proofs.Touched.{some_same}
use Rattle.vt_terminals.specs.CanvasTerminal.{SoundCanvas, canvas_terminal}
use Rattle.vt_terminals.specs.Laws.{Erased, SameCursor, SameModes}
use Rattle.vt_terminals.specs.Sound.{IsSound}
use Rattle.vt_terminals.proofs.Apart.{new_here}
use Rattle.vt_terminals.proofs.CanvasEdits.{same_modes, columns_erased}

-- ==== Erasing everything

erased_everywhere : (a : Attrs) (page : Page) → IsSound page → page.row ≡ 0 → page.column ≡ 0 → (r c : ℕ) →
    r < length page.rows → c < page.width → cell_at (erased_below a page) r c ≡ blank a
unfolding erased_below erased_rest
erased_everywhere a page sound top left r c low inside =
    let some = sound.has_columns in
    rw (ne_eqb page.column page.width (λ e. omega (arith, e, left, some))) (by_row (cases_eq r 0))
  where
    first : Page
    first = erased_columns page.column (page.width - page.column) a page

    tall : length (erased_columns page.column (page.width - page.column) a page).rows ≡ length page.rows
    tall =
        length-set page.rows page.row
        (with_cells (cursor_row page)
        (put_cells page.column default_blank (blanks a (page.width - page.column)) (page.width - page.column)
        (cursor_row page).cells))

    by_row : (r ≡ 0) ⊎ (r ≢ 0) →
        cell_at (blanked_below a (erased_columns page.column (page.width - page.column) a page)) r c ≡ blank a
    by_row (inl e) =
        let rows = (erased_columns page.column (page.width - page.column) a page).rows in
        let rest = replicate (length rows - (page.row + 1)) (blank_row a page.width) in
        let l = length-take (page.row + 1) rows in
        let n = page.width - page.column in
        let c0 : page.column + c ≡ c = omega (arith, left) in
        ap (λ (row : RowValue). at row.cells c)
        (get_or_append_left (take (page.row + 1) rows) rest (blank_row default_attrs page.width) r
        (omega (arith, l, tall, e, low))
        ∙ get_or-take (page.row + 1) rows r (blank_row default_attrs page.width) (omega (arith, e)))
        ∙ (ap (λ (i : ℕ). cell_at (erased_columns page.column n a page) i c) (e ∙ sym top)
        ∙ (ap (λ (k : ℕ). cell_at (erased_columns page.column n a page) page.row k) (sym c0)
        ∙ (new_here page n default_blank (blanks a n) c sound (length-replicate n (blank a)) (omega (arith, left))
        (omega (arith, left, inside))
        ∙ get_or-replicate n c (blank a) default_blank (omega (arith, left, inside)))))
    by_row (inr ne) =
        let rows = (erased_columns page.column (page.width - page.column) a page).rows in
        let rest = replicate (length rows - (page.row + 1)) (blank_row a page.width) in
        let l = length-take (page.row + 1) rows in
        ap (λ (row : RowValue). at row.cells c)
        (get_or-append_right (take (page.row + 1) rows) rest (page.row + 1) r (blank_row default_attrs page.width)
        (omega (arith, l, tall, top, low)) (omega (arith, top, ne))
        ∙ get_or-replicate (length rows - (page.row + 1)) (r - (page.row + 1)) (blank_row a page.width)
        (blank_row default_attrs page.width) (omega (arith, tall, top, ne, low)))
        ∙ get_or-replicate page.width c (blank a) default_blank inside

pub same_cursor_at : (h w : ℕ) (s t : SoundCanvas h w) → t.canvas.page.row ≡ s.canvas.page.row →
    t.canvas.page.column ≡ s.canvas.page.column → SameCursor (canvas_terminal h w) s t
same_cursor_at h w s t row column = record {
  at = λ r c e. (row ∙ e.0, (column ∙ e.1.0, e.1.1));
  pending = λ r e. (row ∙ e.0, column ∙ e.1);
  ended = λ r e. let le = e.1 in (row ∙ e.0, omega (arith, column, le));
}

pub model_ed : (h w : ℕ) (s t : SoundCanvas h w) (a : Attrs) →
    (s.canvas.page.row ≡ 0) × ((s.canvas.page.column ≡ 0) × (0 < w)) →
    s.canvas.attrs ≡ a → Some (record (s.canvas) { page = erased_below s.canvas.attrs s.canvas.page }) ≡ Some t.canvas →
    ((r c : ℕ) → r < h → c < w → cell_at t.canvas.page r c ≡ blank a)
    × (SameCursor (canvas_terminal h w) s t × SameModes (canvas_terminal h w) s t)
unfolding erased_below erased_rest
model_ed h w s t a place attrs reads =
    let back = sym (some_same (record (s.canvas) { page = erased_below s.canvas.attrs s.canvas.page }) t.canvas reads)
    in
    let tall = s.tall in
    let wide = s.wide in
    let row : (erased_below s.canvas.attrs s.canvas.page).row ≡ s.canvas.page.row =
    cond_both (s.canvas.page.column == s.canvas.page.width) s.canvas.page
    (erased_columns s.canvas.page.column (s.canvas.page.width - s.canvas.page.column) s.canvas.attrs s.canvas.page)
    (λ (p : Page). p.row ≡ s.canvas.page.row) (λ _. refl) (λ _. refl) in
    let column : (erased_below s.canvas.attrs s.canvas.page).column ≡ s.canvas.page.column =
    cond_both (s.canvas.page.column == s.canvas.page.width) s.canvas.page
    (erased_columns s.canvas.page.column (s.canvas.page.width - s.canvas.page.column) s.canvas.attrs s.canvas.page)
    (λ (p : Page). p.column ≡ s.canvas.page.column) (λ _. refl) (λ _. refl) in
    let saved_row : (erased_below s.canvas.attrs s.canvas.page).saved_row ≡ s.canvas.page.saved_row =
    cond_both (s.canvas.page.column == s.canvas.page.width) s.canvas.page
    (erased_columns s.canvas.page.column (s.canvas.page.width - s.canvas.page.column) s.canvas.attrs s.canvas.page)
    (λ (p : Page). p.saved_row ≡ s.canvas.page.saved_row) (λ _. refl) (λ _. refl) in
    let saved_column : (erased_below s.canvas.attrs s.canvas.page).saved_column ≡ s.canvas.page.saved_column =
    cond_both (s.canvas.page.column == s.canvas.page.width) s.canvas.page
    (erased_columns s.canvas.page.column (s.canvas.page.width - s.canvas.page.column) s.canvas.attrs s.canvas.page)
    (λ (p : Page). p.saved_column ≡ s.canvas.page.saved_column) (λ _. refl) (λ _. refl) in (
      λ r c low inside. ap (λ (q : Canvas). cell_at q.page r c) back
          ∙ (erased_everywhere s.canvas.attrs s.canvas.page s.sound place.0 place.1.0 r c (omega (arith, low, tall))
          (omega (arith, inside, wide)) ∙ ap blank attrs),
      (
        same_cursor_at h w s t (ap (λ (q : Canvas). q.page.row) back ∙ row)
            (ap (λ (q : Canvas). q.page.column) back ∙ column),
        same_modes h w s t (ap (λ (q : Canvas). q.attrs) back) (ap (λ (q : Canvas). q.hidden) back)
            (ap (λ (q : Canvas). q.page.saved_row) back ∙ saved_row)
            (ap (λ (q : Canvas). q.page.saved_column) back ∙ saved_column) (ap (λ (q : Canvas). q.saved_attrs) back),
      ),
    )

-- ==== Erasing in a row

row_erased : (h w : ℕ) (s t : SoundCanvas h w) (r c n : ℕ) (a : Attrs) → 0 < n → c + n ≤ w →
    (s.canvas.page.row ≡ r) × ((s.canvas.page.column ≡ c) × (c < w)) → s.canvas.attrs ≡ a →
    record (s.canvas) { page = erased_columns s.canvas.page.column n s.canvas.attrs s.canvas.page } ≡ t.canvas →
    Erased (canvas_terminal h w) r c n a s t
row_erased h w s t r c n a some fits place attrs same =
    let row = place.0 in
    let column = place.1.0 in
    let wide = s.wide in
    subst (λ (i : ℕ). Erased (canvas_terminal h w) i c n a s t) row
    (subst (λ (k : ℕ). Erased (canvas_terminal h w) s.canvas.page.row k n a s t) column
    (subst (λ (b : Attrs). Erased (canvas_terminal h w) s.canvas.page.row s.canvas.page.column n b s t) attrs
    (columns_erased h w s t n some (omega (arith, column, fits, wide)) same)))

pub model_el : (h w : ℕ) (s t : SoundCanvas h w) (r c : ℕ) (a : Attrs) → r < h → c < w →
    (s.canvas.page.row ≡ r) × ((s.canvas.page.column ≡ c) × (c < w)) → s.canvas.attrs ≡ a →
    Some (record (s.canvas) { page = erased_rest s.canvas.attrs s.canvas.page }) ≡ Some t.canvas →
    Erased (canvas_terminal h w) r c (w - c) a s t
unfolding erased_rest
model_el h w s t r c a low inside place attrs reads =
    let column = place.1.0 in
    let wide = s.wide in
    let same = some_same (record (s.canvas) { page = erased_rest s.canvas.attrs s.canvas.page }) t.canvas reads in
    let n : s.canvas.page.width - s.canvas.page.column ≡ w - c = omega (arith, column, wide) in
    let off = ne_eqb s.canvas.page.column s.canvas.page.width (λ e. omega (arith, e, column, wide, inside)) in
    row_erased h w s t r c (w - c) a (omega (arith, inside)) (omega (arith, inside)) place attrs
    (subst (λ (m : ℕ). record (s.canvas)
    { page = erased_columns s.canvas.page.column m s.canvas.attrs s.canvas.page } ≡ t.canvas) n
    (sym (ap (λ (b : Bool). record (s.canvas) {
      page = if b then s.canvas.page else erased_columns s.canvas.page.column
          (s.canvas.page.width - s.canvas.page.column) s.canvas.attrs s.canvas.page;
    }) off) ∙ same))

pub model_ech : (h w : ℕ) (s t : SoundCanvas h w) (r c n : ℕ) (a : Attrs) → r < h → c < w →
    (s.canvas.page.row ≡ r) × ((s.canvas.page.column ≡ c) × (c < w)) → s.canvas.attrs ≡ a →
    Some (record (s.canvas) { page = erased_chars (suc n) s.canvas.attrs s.canvas.page }) ≡ Some t.canvas →
    Erased (canvas_terminal h w) r c (min (suc n) (w - c)) a s t
unfolding erased_chars
model_ech h w s t r c n a low inside place attrs reads =
    let column = place.1.0 in
    let wide = s.wide in
    let same = some_same (record (s.canvas) { page = erased_chars (suc n) s.canvas.attrs s.canvas.page }) t.canvas reads
    in
    let m : min (suc n) (s.canvas.page.width - s.canvas.page.column) ≡ min (suc n) (w - c) =
    ap (λ (k : ℕ). min (suc n) k) (omega (arith, column, wide)) in
    let off = ne_eqb s.canvas.page.column s.canvas.page.width (λ e. omega (arith, e, column, wide, inside)) in
    let some = ne_eqb (suc n) 0 (λ e. omega (arith, e)) in
    row_erased h w s t r c (min (suc n) (w - c)) a (omega (arith, inside)) (omega (arith, inside)) place attrs
    (subst (λ (k : ℕ). record (s.canvas)
    { page = erased_columns s.canvas.page.column k s.canvas.attrs s.canvas.page } ≡ t.canvas) m
    (sym (ap (λ (b : Bool). record (s.canvas) {
      page = if b then s.canvas.page else erased_columns s.canvas.page.column
          (min (suc n) (s.canvas.page.width - s.canvas.page.column)) s.canvas.attrs s.canvas.page;
    })
    (ap (λ (b : Bool). b || (s.canvas.page.column == s.canvas.page.width)) some ∙ off)) ∙ same))
