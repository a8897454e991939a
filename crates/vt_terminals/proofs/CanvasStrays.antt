-- Glyphs on whose width terminals may disagree change only columns of a canvas near the cursor.
use Rattle.std.proofs.Common.{◌≡◌, ◌≢◌, ℕ, ◌+◌, ◌-◌, ◌<◌, ◌≤◌, ◌⊎◌, ◌&&◌, ◌==◌, nat_lt, not, Bool, true, false, List}
use Rattle.std.proofs.Common.{[], ◌∷◌, length, refl, inl, inr, sym, ap, subst, ◌∙◌, Option, Some, arith}
use Rattle.std.specs.Prelude.{if◌then◌else◌, map}
use Rattle.std.specs.List.{AllByRecursion}
use Rattle.std.proofs.lemmas.Bool.{and_right, cases_eq, cases_lt, cond_both, ne_eqb}
use Rattle.std.proofs.lemmas.Grind.{get_or-set_at}
use Rattle.std.proofs.lemmas.List.{length-set, get_or-set_other}
use Rattle.vt_cells.specs.Attrs.{Attrs}
use Rattle.vt_cells.specs.Cell.{CellValue, blank, default_blank, glyph, is_right_half, right_half, cell_made_wide}
use Rattle.vt_cells.specs.Cell.{cell_with_mark, is_wide, text_of}
use Rattle.vt_cells.specs.Glyph.{columns_of, glyph_columns, IsMark, is_selector, is_wide_text}
use Rattle.vt_rows.specs.Cells.{IsPaired, at, put_cells, marked_at, narrowed_at, widened_at}
use Rattle.vt_rows.specs.Row.{with_cells}
use Rattle.vt_rows.proofs.Edits.{IsPaired-marked_at}
use Rattle.vt_grid.specs.Canvas.{Canvas, drawn_char}
use Rattle.vt_grid.specs.Page.{Page, cell_at, cursor_row, row_at}
use Rattle.vt_grid.specs.Printing.{page_after_print, with_cursor_cells, carries, made_narrow, made_wide, mark_column}
use Rattle.vt_grid.specs.Printing.{mark_printed, mark_put, page_after_wrap, printed_by, takes_mark, width_followed}
use Rattle.vt_redraw.proofs.PortableSteps.{printed}
use Rattle.vt_terminals.specs.CanvasTerminal.{SoundCanvas, canvas_terminal}
use Rattle.vt_terminals.specs.Element.{Character}
use Rattle.vt_terminals.specs.Laws.{Apart, Away, Beyond, IsOneGlyph, Replaced, Strayed, stray_columns}
use Rattle.vt_terminals.specs.Sound.{IsSound}
use Rattle.vt_terminals.specs.Terminal.{ReadsAll}
use Rattle.vt_terminals.proofs.CanvasEdits.{put_left_half, same_modes, model_prints}
use Rattle.vt_terminals.proofs.Characters.{some_columns}
use Rattle.vt_terminals.proofs.Pages.{row_here, cell_other, put_left, put_new, put_right}

-- ==== Glyphs on whose width terminals may disagree

strayed_then : (h w row first n : ℕ) (s m t : SoundCanvas h w) → Strayed (canvas_terminal h w) row first n s m →
    Strayed (canvas_terminal h w) row first n m t → Strayed (canvas_terminal h w) row first n s t
strayed_then h w row first n s m t one two = record {
  shows = λ i k x far shown. two.shows i k x far (one.shows i k x far shown);
  begins = λ i k far whole. two.begins i k far (one.begins i k far whole);
  modes = record {
    attrs = λ a e. two.modes.attrs a (one.modes.attrs a e);
    hides = λ b e. two.modes.hides b (one.modes.hides b e);
    saved = λ r a e. two.modes.saved r a (one.modes.saved r a e);
  };
}

strayed_from : (h w row first n c k : ℕ) (s t : SoundCanvas h w) → first ≤ c → c + k ≤ first + n → 0 < k →
    Replaced (canvas_terminal h w) row c k s t → Strayed (canvas_terminal h w) row first n s t
strayed_from h w row first n c k s t low high some rest = record {
  shows = λ i j x far shown. rest.others i j x (away i j far) shown;
  begins = λ i j far whole. rest.begins i j (apart i j far) whole;
  modes = rest.modes;
} where
  away : (i j : ℕ) → Beyond row first n i j → Away row c k i j
  away i j (inl ne) = inl ne
  away i j (inr (inl lt)) = inr (inl (omega (arith, lt, low)))
  away i j (inr (inr lt)) = inr (inr (omega (arith, lt, high)))

  apart : (i j : ℕ) → (i ≢ row) ⊎ ((j + 1 < first) ⊎ (first + n < j)) → Apart row (c + 1) (k - 1) i j
  apart i j (inl ne) = inl ne
  apart i j (inr (inl lt)) = inr (inl (omega (arith, lt, low)))
  apart i j (inr (inr lt)) = inr (inr (omega (arith, lt, high, some)))

-- ---- the cells of a row after a combining character

-- Column `j` is not among those that a combining character may change if the cursor is in column `c`.
abbrev Afar : (c j : ℕ) → Type 0
Afar c j = (j + 2 < c) ⊎ (c + 1 < j)

record Joined (c : ℕ) (cells now : List CellValue) : Type 0 where
  same : (j : ℕ) → Afar c j → at now j ≡ at cells j
  whole : (j : ℕ) → (j + 1 < c) ⊎ (c + 1 < j) → is_right_half (at cells j) ≡ false → is_right_half (at now j) ≡ false

mark_half : (mark : ℕ) (x : CellValue) → is_right_half x ≡ false → is_right_half (cell_with_mark mark x) ≡ false
mark_half mark (blank a) f = refl
mark_half mark (glyph t v a) f = refl
mark_half mark right_half f = f

made_half : (wide : Bool) (x : CellValue) → is_right_half x ≡ false → is_right_half (cell_made_wide wide x) ≡ false
made_half wide (blank a) f = refl
made_half wide (glyph t v a) f = refl
made_half wide right_half f = f

wide_half : (x : CellValue) → is_wide x ≡ true → is_right_half x ≡ false
wide_half (blank a) f = refl
wide_half (glyph t v a) f = refl
wide_half right_half f = absurd (cc)

-- The glyph before the cursor begins at its first column.
record Before (c k : ℕ) (cells : List CellValue) : Type 0 where
  low : k < c
  high : c ≤ k + 2
  starts : is_right_half (at cells k) ≡ false

before_is : (c : ℕ) (cells : List CellValue) → 0 < c → IsPaired cells →
    Before c (if is_right_half (at cells (c - 1)) then c - 2 else c - 1) cells
before_is c cells some paired =
    cond_both (is_right_half (at cells (c - 1))) (c - 2) (c - 1) (λ (k : ℕ). Before c k cells)
    (λ (t : is_right_half (at cells (c - 1)) ≡ true). by_two t (cases_eq c 1))
    (λ (f : is_right_half (at cells (c - 1)) ≡ false). record {
      low = omega (arith, some);
      high = omega arith;
      starts =
          f;
    })
  where
    by_two : is_right_half (at cells (c - 1)) ≡ true → (c ≡ 1) ⊎ (c ≢ 1) → Before c (c - 2) cells
    by_two t (inl one) =
        let zero_is : c - 1 ≡ 0 = omega (arith, one) in
        let none : true ≡ false = sym t ∙ (ap (λ (k : ℕ). is_right_half (at cells k)) zero_is ∙ paired.first) in absurd
        (cc)
    by_two t (inr more) =
        let e : c - 2 + 1 ≡ c - 1 = omega (arith, some, more) in record {
          low = omega (arith, some, more);
          high = omega arith;
          starts = wide_half (at cells (c - 2))
              (paired.halves (c - 2) ∙ (ap (λ (k : ℕ). is_right_half (at cells k)) e ∙ t));
        }

marked_same : (k mark : ℕ) (cells : List CellValue) (j : ℕ) → j ≢ k → at (marked_at k mark cells) j ≡ at cells j
marked_same k mark cells j ne = get_or-set_other cells k j (cell_with_mark mark (at cells k)) default_blank ne

marked_here : (k mark : ℕ) (cells : List CellValue) → k < length cells →
    at (marked_at k mark cells) k ≡ cell_with_mark mark (at cells k)
marked_here k mark cells lt = get_or-set_at cells k k (cell_with_mark mark (at cells k)) default_blank refl lt

marked_joined : (c k mark : ℕ) (cells : List CellValue) → Before c k cells → k < length cells →
    Joined c cells (marked_at k mark cells)
marked_joined c k mark cells b inside =
    let low = b.low in
    let high = b.high in record {
      same = λ j far. marked_same k mark cells j (not_here j far);
      whole = λ j far f. by_place j f (cases_eq j k);
    }
  where
    not_here : (j : ℕ) → Afar c j → j ≢ k
    not_here j (inl lt) e = let high = b.high in omega (arith, lt, e, high)
    not_here j (inr lt) e = let low = b.low in omega (arith, lt, e, low)

    by_place : (j : ℕ) → is_right_half (at cells j) ≡ false → (j ≡ k) ⊎ (j ≢ k) →
        is_right_half (at (marked_at k mark cells) j) ≡ false
    by_place j f (inr ne) = ap is_right_half (marked_same k mark cells j ne) ∙ f
    by_place j f (inl e) =
        ap (λ (i : ℕ). is_right_half (at (marked_at k mark cells) i)) e
        ∙ (ap is_right_half (marked_here k mark cells inside) ∙ mark_half mark (at cells k) b.starts)

-- The glyph takes another width.
resized_joined : (c k n : ℕ) (o : CellValue) (new cells : List CellValue) → Before c k cells → IsPaired cells →
    length new ≡ n → 0 < n → n ≤ 2 → k + n ≤ length cells → is_right_half (at new 0) ≡ false →
    Joined c cells (put_cells k o new n cells)
resized_joined c k n o new cells b paired size some most fits first = record {
  same = λ j far. same_at j far;
  whole = λ j far f. by_place j far f (cases_lt j k);
} where
  same_at : (j : ℕ) → Afar c j → at (put_cells k o new n cells) j ≡ at cells j
  same_at j (inl lt) =
      let high = b.high in put_left k n o new cells j size fits paired b.starts (omega (arith, lt, high))
  same_at j (inr lt) = let low = b.low in put_right k n o new cells j size fits (omega (arith, lt, low, most))

  by_place : (j : ℕ) → (j + 1 < c) ⊎ (c + 1 < j) → is_right_half (at cells j) ≡ false → (j < k) ⊎ (k ≤ j) →
      is_right_half (at (put_cells k o new n cells) j) ≡ false
  by_place j far f (inl lt) = put_left_half k n o new cells j size fits lt f
  by_place j (inr far) f (inr ge) =
      let low = b.low in ap is_right_half (put_right k n o new cells j size fits (omega (arith, far, low, most))) ∙ f
  by_place j (inl far) f (inr ge) =
      let high = b.high in
      let e : k + 0 ≡ j = omega (arith, far, ge, high) in
      ap (λ (i : ℕ). is_right_half (at (put_cells k o new n cells) i)) (sym e)
      ∙ (ap is_right_half (put_new k n o new cells 0 size fits some) ∙ first)

joined_then : (c : ℕ) (x y z : List CellValue) → Joined c x y → Joined c y z → Joined c x z
joined_then c x y z one two = record {
  same = λ j far. two.same j far ∙ one.same j far;
  whole = λ j far f. two.whole j far (one.whole j far f);
}

joined_same : (c : ℕ) (x : List CellValue) → Joined c x x
joined_same c x = record { same = λ j far. refl; whole = λ j far f. f }

-- ---- the page after a combining character

record Marked (page p : Page) : Type 0 where
  row_is : p.row ≡ page.row
  low : page.column ≤ p.column
  high : p.column ≤ page.column + 1
  saved_row_is : p.saved_row ≡ page.saved_row
  saved_column_is : p.saved_column ≡ page.saved_column
  others : (i j : ℕ) → i ≢ page.row → cell_at p i j ≡ cell_at page i j
  joined : Joined page.column (cursor_row page).cells (row_at p page.row).cells

marked_nothing : (page : Page) → Marked page page
marked_nothing page = record {
  row_is = refl;
  low = omega arith;
  high = omega arith;
  saved_row_is = refl;
  saved_column_is = refl;
  others = λ i j ne. refl;
  joined = joined_same page.column (cursor_row page).cells;
}

edit_marked : (page : Page) (cells : List CellValue) (column : ℕ) → page.row < length page.rows → page.column ≤ column →
    column ≤ page.column + 1 → Joined page.column (cursor_row page).cells cells →
    Marked page (record (with_cursor_cells cells page) { column = column })
edit_marked page cells column inside low high joined = record {
  row_is = refl;
  low = low;
  high = high;
  saved_row_is = refl;
  saved_column_is = refl;
  others = λ i j ne. cell_other cells page i j ne;
  joined = subst (λ (z : List CellValue). Joined page.column (cursor_row page).cells z)
      (sym (row_here cells page inside)) joined;
}

-- What the cursor's row must be for its last glyph to take another width.
record Fits2 (k : ℕ) (p : Page) : Type 0 where
  inside : p.row < length p.rows
  paired : IsPaired (cursor_row p).cells
  before : Before p.column k (cursor_row p).cells
  room : k + 2 ≤ length (cursor_row p).cells

followed_marked : (k : ℕ) (attrs : Attrs) (p : Page) → Fits2 k p → Marked p (width_followed k attrs p)
unfolding width_followed made_wide
followed_marked k attrs p fits =
    let cells = (cursor_row p).cells in
    let cell = at cells k in
    let wide = is_wide_text (text_of cell) && nat_lt 1 p.width in
    cond_both (is_wide cell) (if wide then p else made_narrow k attrs p) (if wide then made_wide k attrs p else p)
    (Marked p)
    (λ _. cond_both wide p (made_narrow k attrs p) (Marked p) (λ _. marked_nothing p) (λ _. narrow))
    (λ _. cond_both wide (made_wide k attrs p) p (Marked p) (λ _. widened) (λ _. marked_nothing p))
  where
    narrow : Marked p (made_narrow k attrs p)
    narrow =
        let room = fits.room in
        edit_marked p (narrowed_at k attrs (cursor_row p).cells) p.column fits.inside (omega arith) (omega arith)
        (resized_joined p.column k 1 (glyph (0x20 ∷ []) false attrs) (cell_made_wide false (at (cursor_row p).cells k) ∷
        [])
        (cursor_row p).cells fits.before fits.paired refl (omega arith) (omega arith) (omega (arith, room))
        (made_half false (at (cursor_row p).cells k) fits.before.starts))

    widened : Marked p (made_wide k attrs p)
    widened =
        let room = fits.room in
        edit_marked p (widened_at k attrs (cursor_row p).cells) (p.column + 1) fits.inside (omega arith) (omega arith)
        (resized_joined p.column k 2 (blank attrs) (cell_made_wide true (at (cursor_row p).cells k) ∷ right_half ∷ [])
        (cursor_row p).cells fits.before fits.paired refl (omega arith) (omega arith) room
        (made_half true (at (cursor_row p).cells k) fits.before.starts))

marked_then : (x y z : Page) → y.column ≡ x.column → Marked x y → Marked y z → Marked x z
marked_then x y z same one two =
    let low = two.low in
    let high = two.high in record {
      row_is = two.row_is ∙ one.row_is;
      low = omega (arith, low, same);
      high = omega (arith, high, same);
      saved_row_is = two.saved_row_is ∙ one.saved_row_is;
      saved_column_is = two.saved_column_is ∙ one.saved_column_is;
      others = λ i j ne. two.others i j (λ e. ne (e ∙ one.row_is)) ∙ one.others i j ne;
      joined = joined_then x.column (cursor_row x).cells (row_at y x.row).cells (row_at z x.row).cells one.joined
          (subst (λ (i : ℕ). Joined x.column (row_at y i).cells (row_at z i).cells) one.row_is
          (subst (λ (c : ℕ). Joined c (cursor_row y).cells (row_at z y.row).cells) same two.joined));
    }

carries_none : (mark : ℕ) (page : Page) → page.column ≢ page.width → carries mark page ≡ false
unfolding carries
carries_none mark page ne =
    let cell = at (cursor_row page).cells (mark_column page) in
    and_right (is_selector mark && (takes_mark cell && not (is_wide cell)))
    (is_wide_text (text_of (cell_with_mark mark cell)) && (nat_lt 1 page.width && (page.column == page.width)))
    (and_right (is_wide_text (text_of (cell_with_mark mark cell))) (nat_lt 1 page.width && (page.column == page.width))
    (and_right (nat_lt 1 page.width) (page.column == page.width) (ne_eqb page.column page.width ne)))

mark_marked : (mark : ℕ) (attrs : Attrs) (page : Page) → IsSound page → 0 < page.column → page.column + 1 < page.width →
    Marked page (mark_printed mark attrs page)
unfolding mark_printed
mark_marked mark attrs page sound some room =
    let k = mark_column page in
    let cells = (cursor_row page).cells in
    let before : Before page.column k cells = before_is page.column cells some (sound.paired page.row sound.row) in
    let l = sound.columns page.row sound.row in
    let low = before.low in
    let put : Marked page (mark_put k mark page) =
    edit_marked page (marked_at k mark cells) page.column sound.row (omega arith) (omega arith)
    (marked_joined page.column k mark cells before (omega (arith, l, low, room))) in
    let now = row_here (marked_at k mark cells) page sound.row in
    let size : length (marked_at k mark cells) ≡ length cells = length-set cells k (cell_with_mark mark (at cells k)) in
    let fits : Fits2 k (mark_put k mark page) = record {
      inside = subst (λ (z : ℕ). page.row < z)
          (sym (length-set page.rows page.row (with_cells (cursor_row page) (marked_at k mark cells)))) sound.row;
      paired = subst IsPaired (sym now) (IsPaired-marked_at k mark cells (sound.paired page.row sound.row));
      before = subst (λ (z : List CellValue). Before page.column k z) (sym now) (record {
        low = before.low;
        high = before.high;
        starts = ap is_right_half (marked_here k mark cells (omega (arith, l, low, room)))
            ∙ mark_half mark (at cells k) before.starts;
      });
      room = subst (λ (z : List CellValue). k + 2 ≤ length z) (sym now) (omega (arith, size, l, low, room));
    } in
    cond_both (carries mark page) (page_after_wrap mark attrs page)
    (if takes_mark (at cells k)
    then (if is_selector mark then width_followed k attrs (mark_put k mark page) else mark_put k mark page)
    else page) (Marked page)
    (λ t. let none : true ≡ false = sym t ∙ carries_none mark page (λ e. omega (arith, e, room)) in absurd (cc))
    (λ _. cond_both (takes_mark (at cells k))
    (if is_selector mark then width_followed k attrs (mark_put k mark page) else mark_put k mark page) page
    (Marked page)
    (λ _. cond_both (is_selector mark) (width_followed k attrs (mark_put k mark page)) (mark_put k mark page)
    (Marked page)
    (λ _. marked_then page (mark_put k mark page) (width_followed k attrs (mark_put k mark page)) refl put
    (followed_marked k attrs (mark_put k mark page) fits)) (λ _. put)) (λ _. marked_nothing page))

-- ---- the characters of a glyph

-- What holds after one of the characters, when `left` columns may still be taken.
record Step (h w row first n left : ℕ) (s m : SoundCanvas h w) : Type 0 where
  strayed : Strayed (canvas_terminal h w) row first n s m
  row_is : m.canvas.page.row ≡ row
  low : first ≤ m.canvas.page.column
  some : 0 < m.canvas.page.column
  high : m.canvas.page.column + left ≤ first + n

mark_step : (h w row first n left mark : ℕ) (s m : SoundCanvas h w) → columns_of mark ≡ Some 0 →
    s.canvas.page.row ≡ row →
    first ≤ s.canvas.page.column → 0 < s.canvas.page.column → s.canvas.page.column + (2 + left) ≤ first + n →
    first + n < w →
    drawn_char mark s.canvas ≡ Some m.canvas → Step h w row first n left s m
mark_step h w row first n left mark s m columns at_row low some high inside reads =
    let page = s.canvas.page in
    let broad = s.wide in
    let is : page_after_print mark s.canvas.attrs page ≡ mark_printed mark s.canvas.attrs page =
    ap (λ (o : Option ℕ). printed_by o mark s.canvas.attrs page) columns
    ∙ ap (λ (b : Bool). if b then page else mark_printed mark s.canvas.attrs page)
    (ne_eqb page.column 0 (λ e. omega (arith, e, some))) in
    let back : m.canvas ≡ record (s.canvas) { page = mark_printed mark s.canvas.attrs page } =
    sym (ap (λ (p : Page). record (s.canvas) { page = p }) (sym is) ∙ printed mark s.canvas m.canvas reads) in
    let p = mark_printed mark s.canvas.attrs page in
    let marked = mark_marked mark s.canvas.attrs page s.sound some (omega (arith, broad, high, inside)) in
    let column : m.canvas.page.column ≡ p.column = ap (λ (q : Canvas). q.page.column) back in
    let less = marked.low in
    let more = marked.high in record {
      strayed = record {
        shows = λ i j x far shown. ap (λ (q : Canvas). cell_at q.page i j) back
            ∙ (cell_far marked i j (beyond i j far) (cases_eq i page.row) ∙ shown);
        begins = λ i j far whole. ap (λ (q : Canvas). is_right_half (cell_at q.page i j)) back
            ∙ half_far marked i j (beside i j far) whole (cases_eq i page.row);
        modes = same_modes h w s m (ap (λ (q : Canvas). q.attrs) back) (ap (λ (q : Canvas). q.hidden) back)
            (ap (λ (q : Canvas). q.page.saved_row) back ∙ marked.saved_row_is)
            (ap (λ (q : Canvas). q.page.saved_column) back ∙ marked.saved_column_is)
            (ap (λ (q : Canvas). q.saved_attrs) back);
      };
      row_is = ap (λ (q : Canvas). q.page.row) back ∙ (marked.row_is ∙ at_row);
      low = omega (arith, column, less, low);
      some = omega (arith, column, less, some);
      high = omega (arith, column, more, high);
    }
  where
    beyond : (i j : ℕ) → Beyond row first n i j → (i ≢ s.canvas.page.row) ⊎ Afar s.canvas.page.column j
    beyond i j (inl ne) = inl (λ e. ne (e ∙ at_row))
    beyond i j (inr (inl lt)) = inr (inl (omega (arith, lt, low)))
    beyond i j (inr (inr lt)) = inr (inr (omega (arith, lt, high)))

    beside : (i j : ℕ) → (i ≢ row) ⊎ ((j + 1 < first) ⊎ (first + n < j)) →
        (i ≢ s.canvas.page.row) ⊎ ((j + 1 < s.canvas.page.column) ⊎ (s.canvas.page.column + 1 < j))
    beside i j (inl ne) = inl (λ e. ne (e ∙ at_row))
    beside i j (inr (inl lt)) = inr (inl (omega (arith, lt, low)))
    beside i j (inr (inr lt)) = inr (inr (omega (arith, lt, high)))

    cell_far : Marked s.canvas.page (mark_printed mark s.canvas.attrs s.canvas.page) → (i j : ℕ) →
        (i ≢ s.canvas.page.row) ⊎ Afar s.canvas.page.column j → (i ≡ s.canvas.page.row) ⊎ (i ≢ s.canvas.page.row) →
        cell_at (mark_printed mark s.canvas.attrs s.canvas.page) i j ≡ cell_at s.canvas.page i j
    cell_far marked i j far (inr ne) = marked.others i j ne
    cell_far marked i j (inl ne) (inl e) = absurd (ne e)
    cell_far marked i j (inr far) (inl e) =
        ap (λ (r : ℕ). cell_at (mark_printed mark s.canvas.attrs s.canvas.page) r j) e
        ∙ (marked.joined.same j far ∙ ap (λ (r : ℕ). cell_at s.canvas.page r j) (sym e))

    half_far : Marked s.canvas.page (mark_printed mark s.canvas.attrs s.canvas.page) → (i j : ℕ) →
        (i ≢ s.canvas.page.row) ⊎ ((j + 1 < s.canvas.page.column) ⊎ (s.canvas.page.column + 1 < j)) →
        is_right_half (cell_at s.canvas.page i j) ≡ false → (i ≡ s.canvas.page.row) ⊎ (i ≢ s.canvas.page.row) →
        is_right_half (cell_at (mark_printed mark s.canvas.attrs s.canvas.page) i j) ≡ false
    half_far marked i j far whole (inr ne) = ap is_right_half (marked.others i j ne) ∙ whole
    half_far marked i j (inl ne) whole (inl e) = absurd (ne e)
    half_far marked i j (inr far) whole (inl e) =
        ap (λ (r : ℕ). is_right_half (cell_at (mark_printed mark s.canvas.attrs s.canvas.page) r j)) e
        ∙ marked.joined.whole j far (ap (λ (r : ℕ). is_right_half (cell_at s.canvas.page r j)) (sym e) ∙ whole)

marks_stray : (h w row first n : ℕ) (marks : List ℕ) (s t : SoundCanvas h w) → AllByRecursion IsMark marks →
    s.canvas.page.row ≡ row → first ≤ s.canvas.page.column → 0 < s.canvas.page.column →
    s.canvas.page.column + stray_columns marks ≤ first + n → first + n < w →
    ReadsAll (canvas_terminal h w) (map Character marks) s t → Strayed (canvas_terminal h w) row first n s t
marks_stray h w row first n [] s t are at_row low some high inside reads =
    subst (λ (q : SoundCanvas h w). Strayed (canvas_terminal h w) row first n s q) reads (record {
      shows = λ i k x far shown. shown;
      begins = λ i k far whole. whole;
      modes = record { attrs = λ a e. e; hides = λ b e. e; saved = λ r a e. e };
    })
marks_stray h w row first n (mark ∷ marks) s t are at_row low some high inside reads =
    let step = mark_step h w row first n (stray_columns marks) mark s reads.0 are.0.1 at_row low some
    (omega (arith, high)) inside reads.1.0 in
    strayed_then h w row first n s reads.0 t step.strayed
    (marks_stray h w row first n marks reads.0 t are.1 step.row_is step.low step.some step.high inside reads.1.1)

most_columns : (wide : Bool) → glyph_columns wide ≤ 2
most_columns true = omega arith
most_columns false = omega arith

pub model_strays : (h w r c : ℕ) (cs : List ℕ) (s t : SoundCanvas h w) → IsOneGlyph cs → c + stray_columns cs < w →
    (s.canvas.page.row ≡ r) × ((s.canvas.page.column ≡ c) × (c < w)) →
    ReadsAll (canvas_terminal h w) (map Character cs) s t →
    Strayed (canvas_terminal h w) r c (stray_columns cs) s t
model_strays h w r c [] s t one fits place reads = absurd one
model_strays h w r c (ch ∷ marks) s t one fits place reads =
    let wide = one.0.0 in
    let two = most_columns wide in
    let some = some_columns wide in
    let m = reads.0 in
    let printed_m = model_prints h w s m r c ch wide s.canvas.attrs (omega (arith, fits, two)) one.0.1 place refl
    reads.1.0 in
    let there = printed_m.at (omega (arith, fits, two)) in
    let column = there.1.0 in
    strayed_then h w r c (stray_columns (ch ∷ marks)) s m t
    (strayed_from h w r c (stray_columns (ch ∷ marks)) c (glyph_columns wide) s m (omega arith) (omega (arith, two))
    some
    printed_m.rest)
    (marks_stray h w r c (stray_columns (ch ∷ marks)) marks m t one.1 there.0 (omega (arith, column))
    (omega (arith, column, some)) (omega (arith, column, two)) fits reads.1.1)
