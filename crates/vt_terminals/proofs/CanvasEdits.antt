-- Printing, erasing and moving the cursor on a canvas obey the laws.
use Rattle.std.proofs.Common.{◌≡◌, ◌≢◌, ℕ, zero, suc, ◌+◌, ◌-◌, ◌<◌, ◌≤◌, ◌⊎◌, ◌&&◌, ◌==◌, nat_lt, min, not, Bool, true}
use Rattle.std.proofs.Common.{false, List, [], ◌∷◌, length, refl, inl, inr, sym, ap, subst, ◌∙◌, Option, Some, None}
use Rattle.std.proofs.Common.{arith}
use Rattle.std.specs.Prelude.{if◌then◌else◌}
use Rattle.std.specs.Char.{encode_utf8}
use Rattle.std.proofs.lemmas.Bool.{and_right, cases_eq, cond_both, le-ltb, lt-ltb, ne_eqb}
use Rattle.std.proofs.lemmas.List.{get_or-replicate, length-replicate, length-set}
use Rattle.vt_cells.specs.Attrs.{Attrs}
use Rattle.vt_cells.specs.Cell.{CellValue, blank, default_blank, glyph, is_right_half, right_half, attrs_of, is_wide}
use Rattle.vt_cells.specs.Glyph.{columns_of, glyph_columns}
use Rattle.vt_rows.specs.Cells.{at, blanks, ends_blank, put_cells}
use Rattle.vt_rows.proofs.Edits.{put_columns}
use Rattle.vt_grid.specs.Canvas.{Canvas, canvas_after_line_feed, drawn_char}
use Rattle.vt_grid.specs.Erasing.{erased_columns}
use Rattle.vt_grid.specs.Moves.{feeds_out, moved, target_row}
use Rattle.vt_grid.specs.Page.{Page, cell_at, cursor_row, row_at}
use Rattle.vt_grid.specs.Printing.{glyph_put, lacks_room, page_after_print, room_made, with_cursor_cells, wrapped_page}
use Rattle.vt_grid.specs.Printing.{goes_down, wraps, wraps_for}
use Rattle.vt_grid.specs.declared.grid.moves.CursorMove.TheVariants.{To}
use Rattle.vt_grid.proofs.Printing.{column_wrapped_page, width_wrapped_page}
use Rattle.vt_redraw.proofs.PortableSteps.{printed}
use Rattle.vt_redraw.proofs.Touched.{some_same}
use Rattle.vt_terminals.specs.CanvasTerminal.{SoundCanvas, canvas_terminal}
use Rattle.vt_terminals.specs.Laws.{Apart, Away, Erased, Moved, Printed, Replaced, SameModes, glyph_cells}
use Rattle.vt_terminals.proofs.Apart.{end_whole, new_here, next_same}
use Rattle.vt_terminals.proofs.Characters.{printed_is, room_kept, room_wraps, some_columns}
use Rattle.vt_terminals.proofs.Glyphs.{glyph_is, row_wrapped_page, sound_wrapped, wrapped_is, wrapped_row}
use Rattle.vt_terminals.proofs.Ops.{feed_next}
use Rattle.vt_terminals.proofs.Pages.{cell_here, cell_other, put_left, put_right}
use Rattle.vt_terminals.proofs.Puts.{IsGlyph, page_put}

-- ==== Cells after an edit

put_away : (c n : ℕ) (o : CellValue) (new cells : List CellValue) (k : ℕ) → length new ≡ n → c + n ≤ length cells →
    k + 1 < c → at (put_cells c o new n cells) k ≡ at cells k
put_away c n o new cells k l fits lt =
    put_columns c n o new cells k l fits ∙ rw (
      lt-ltb k c (omega (arith, lt)),
      ne_eqb (k + 1) c
          (λ e. omega (arith, e, lt)),
    ) refl

pub put_left_half : (c n : ℕ) (o : CellValue) (new cells : List CellValue) (k : ℕ) → length new ≡ n →
    c + n ≤ length cells →
    k < c → is_right_half (at cells k) ≡ false → is_right_half (at (put_cells c o new n cells) k) ≡ false
put_left_half c n o new cells k l fits lt whole =
    ap is_right_half (put_columns c n o new cells k l fits)
    ∙ rw (lt-ltb k c lt)
    (cond_both ((k + 1 == c) && is_wide (at cells k)) (blank (attrs_of (at cells k))) (at cells k)
    (λ (x : CellValue). is_right_half x ≡ false) (λ _. refl) (λ _. whole))

pub same_modes : (h w : ℕ) (s t : SoundCanvas h w) → t.canvas.attrs ≡ s.canvas.attrs →
    t.canvas.hidden ≡ s.canvas.hidden →
    t.canvas.page.saved_row ≡ s.canvas.page.saved_row → t.canvas.page.saved_column ≡ s.canvas.page.saved_column →
    t.canvas.saved_attrs ≡ s.canvas.saved_attrs → SameModes (canvas_terminal h w) s t
same_modes h w s t attrs hidden row column saved = record {
  attrs = λ a e. attrs ∙ e;
  hides = λ b e. hidden ∙ e;
  saved = λ r a e. let le = e.1.0 in (row ∙ e.0, (omega (arith, column, le), saved ∙ e.1.1));
}

-- The columns of the cursor's row that start at the cursor are replaced.
edit_replaced : (h w : ℕ) (s t : SoundCanvas h w) (n : ℕ) (o : CellValue) (new : List CellValue) → length new ≡ n →
    0 < n →
    s.canvas.page.column + n ≤ s.canvas.page.width → is_right_half o ≡ false → is_right_half (at new 0) ≡ false →
    ((i k : ℕ) → cell_at t.canvas.page i k
    ≡ cell_at (with_cursor_cells (put_cells s.canvas.page.column o new n (cursor_row s.canvas.page).cells)
    s.canvas.page) i k) →
    SameModes (canvas_terminal h w) s t → Replaced (canvas_terminal h w) s.canvas.page.row s.canvas.page.column n s t
edit_replaced h w s t n o new size some fits orphan first is modes = record {
  others = λ i k x away shown. is i k ∙ (outside i k away (cases_eq i page.row) ∙ shown);
  before = λ k x e whole shown. is page.row k
      ∙ (cell_here edited page k s.sound.row
      ∙ (put_left page.column n o new cells k size fit (s.sound.paired page.row s.sound.row) whole (omega (arith, e)) ∙
      shown));
  next = λ x whole shown. is page.row (page.column + n) ∙ (next_same page n o new s.sound size fits whole ∙ shown);
  begins = λ i k apart whole. ap is_right_half (is i k) ∙ stays i k apart whole (cases_eq i page.row);
  modes = modes;
} where
  page : Page
  page = s.canvas.page

  cells : List CellValue
  cells = (cursor_row s.canvas.page).cells

  edited : List CellValue
  edited = put_cells s.canvas.page.column o new n (cursor_row s.canvas.page).cells

  fit : s.canvas.page.column + n ≤ length (cursor_row s.canvas.page).cells
  fit = let l = s.sound.columns s.canvas.page.row s.sound.row in omega (arith, l, fits)

  at_row : (i k : ℕ) → i ≡ s.canvas.page.row →
      cell_at (with_cursor_cells (put_cells s.canvas.page.column o new n (cursor_row s.canvas.page).cells)
      s.canvas.page) i k
      ≡ at (put_cells s.canvas.page.column o new n (cursor_row s.canvas.page).cells) k
  at_row i k e =
      ap (λ (j : ℕ). cell_at (with_cursor_cells (put_cells s.canvas.page.column o new n
      (cursor_row s.canvas.page).cells)
      s.canvas.page) j k) e
      ∙ cell_here (put_cells s.canvas.page.column o new n (cursor_row s.canvas.page).cells) s.canvas.page k s.sound.row

  here : (k : ℕ) → (k + 1 < s.canvas.page.column) ⊎ (s.canvas.page.column + n < k) →
      at (put_cells s.canvas.page.column o new n (cursor_row s.canvas.page).cells) k ≡ at
      (cursor_row s.canvas.page).cells k
  here k (inl lt) = put_away s.canvas.page.column n o new (cursor_row s.canvas.page).cells k size fit lt
  here k (inr lt) = put_right s.canvas.page.column n o new (cursor_row s.canvas.page).cells k size fit lt

  outside : (i k : ℕ) → Away s.canvas.page.row s.canvas.page.column n i k →
      (i ≡ s.canvas.page.row) ⊎ (i ≢ s.canvas.page.row) →
      cell_at (with_cursor_cells (put_cells s.canvas.page.column o new n (cursor_row s.canvas.page).cells)
      s.canvas.page) i k
      ≡ cell_at s.canvas.page i k
  outside i k away (inr ne) =
      cell_other (put_cells s.canvas.page.column o new n (cursor_row s.canvas.page).cells) s.canvas.page i k ne
  outside i k (inl ne) (inl e) = absurd (ne e)
  outside i k (inr far) (inl e) = at_row i k e ∙ (here k far ∙ ap (λ (j : ℕ). cell_at s.canvas.page j k) (sym e))

  at_start : is_right_half (cell_at (with_cursor_cells (put_cells s.canvas.page.column o new n
      (cursor_row s.canvas.page).cells) s.canvas.page) s.canvas.page.row s.canvas.page.column) ≡ false
  at_start =
      let c0 : s.canvas.page.column + 0 ≡ s.canvas.page.column = omega arith in
      ap (λ (k : ℕ). is_right_half (cell_at (with_cursor_cells (put_cells s.canvas.page.column o new n
      (cursor_row s.canvas.page).cells) s.canvas.page) s.canvas.page.row k)) (sym c0)
      ∙ (ap is_right_half (new_here s.canvas.page n o new 0 s.sound size fits some) ∙ first)

  stays : (i k : ℕ) → Apart s.canvas.page.row (s.canvas.page.column + 1) (n - 1) i k →
      is_right_half (cell_at s.canvas.page i k) ≡ false → (i ≡ s.canvas.page.row) ⊎ (i ≢ s.canvas.page.row) →
      is_right_half (cell_at (with_cursor_cells (put_cells s.canvas.page.column o new n
      (cursor_row s.canvas.page).cells)
      s.canvas.page) i k) ≡ false
  stays i k apart whole (inr ne) =
      ap is_right_half (cell_other (put_cells s.canvas.page.column o new n (cursor_row s.canvas.page).cells)
      s.canvas.page i
      k ne) ∙ whole
  stays i k (inl ne) whole (inl e) = absurd (ne e)
  stays i k (inr far) whole (inl e) = by_place far (cases_eq k s.canvas.page.column)
      (cases_eq k (s.canvas.page.column + n))
    where
      old : is_right_half (at (cursor_row s.canvas.page).cells k) ≡ false
      old = ap (λ (j : ℕ). is_right_half (cell_at s.canvas.page j k)) (sym e) ∙ whole

      by_place : (k < s.canvas.page.column + 1) ⊎ (s.canvas.page.column + 1 + (n - 1) ≤ k) →
          (k ≡ s.canvas.page.column) ⊎ (k ≢ s.canvas.page.column) →
          (k ≡ s.canvas.page.column + n) ⊎ (k ≢ s.canvas.page.column + n) →
          is_right_half (cell_at (with_cursor_cells (put_cells s.canvas.page.column o new n
          (cursor_row s.canvas.page).cells)
          s.canvas.page) i k) ≡ false
      by_place (inl lt) (inl f) y =
          ap (λ (j : ℕ). is_right_half (cell_at (with_cursor_cells (put_cells s.canvas.page.column o new n
          (cursor_row s.canvas.page).cells) s.canvas.page) j k)) e
          ∙ (ap (λ (j : ℕ). is_right_half (cell_at (with_cursor_cells (put_cells s.canvas.page.column o new n
          (cursor_row s.canvas.page).cells) s.canvas.page) s.canvas.page.row j)) f ∙ at_start)
      by_place (inl lt) (inr ne) y =
          ap is_right_half (at_row i k e)
          ∙ put_left_half s.canvas.page.column n o new (cursor_row s.canvas.page).cells k size fit
          (omega (arith, lt, ne)) old
      by_place (inr le) x (inl f) =
          ap (λ (j : ℕ). is_right_half (cell_at (with_cursor_cells (put_cells s.canvas.page.column o new n
          (cursor_row s.canvas.page).cells) s.canvas.page) j k)) e
          ∙ (ap (λ (j : ℕ). is_right_half (cell_at (with_cursor_cells (put_cells s.canvas.page.column o new n
          (cursor_row s.canvas.page).cells) s.canvas.page) s.canvas.page.row j)) f
          ∙ end_whole s.canvas.page n o new s.sound size fits orphan)
      by_place (inr le) x (inr ne) =
          ap is_right_half (at_row i k e ∙ here k (inr (omega (arith, le, ne, some)))) ∙ old

-- ==== Elements that print and erase

put_printed : (h w : ℕ) (s t : SoundCanvas h w) (n : ℕ) (o : CellValue) (new : List CellValue) → IsGlyph n o new →
    is_right_half (at new 0) ≡ false → s.canvas.page.column + n ≤ s.canvas.page.width →
    record (s.canvas) { page = page_put n o new s.canvas.page } ≡ t.canvas →
    Printed (canvas_terminal h w) s.canvas.page.row s.canvas.page.column n new s t
put_printed h w s t n o new shape first fits same =
    let page = s.canvas.page in
    let back = sym same in record {
      new = λ k lt whole. ap (λ (q : Canvas). cell_at q.page page.row (page.column + k)) back
          ∙ new_here page n o new k s.sound shape.size fits lt;
      end = ap (λ (q : Canvas). is_right_half (cell_at q.page page.row (page.column + n))) back
          ∙ end_whole page n o new s.sound shape.size fits shape.orphan;
      at = λ lt. (ap (λ (q : Canvas). q.page.row) back, (ap (λ (q : Canvas). q.page.column) back, lt));
      pending = λ last. (ap (λ (q : Canvas). q.page.row) back, ap (λ (q : Canvas). q.page.column) back ∙ last);
      rest = edit_replaced h w s t n o new shape.size shape.some fits shape.orphan first
          (λ i k. ap (λ (q : Canvas). cell_at q.page i k) back)
          (same_modes h w s t (ap (λ (q : Canvas). q.attrs) back) (ap (λ (q : Canvas). q.hidden) back)
          (ap (λ (q : Canvas). q.page.saved_row) back) (ap (λ (q : Canvas). q.page.saved_column) back)
          (ap (λ (q : Canvas). q.saved_attrs) back));
    }

glyph_printed : (h w : ℕ) (s t : SoundCanvas h w) (ch : ℕ) (wide : Bool) →
    s.canvas.page.column + glyph_columns wide ≤ w →
    columns_of ch ≡ Some (glyph_columns wide) → drawn_char ch s.canvas ≡ Some t.canvas →
    Printed (canvas_terminal h w) s.canvas.page.row s.canvas.page.column (glyph_columns wide)
    (glyph_cells (encode_utf8 ch) wide s.canvas.attrs) s t
glyph_printed h w s t ch wide fits columns reads =
    let page = s.canvas.page in
    let broad = s.wide in
    let inside : page.column + glyph_columns wide ≤ page.width = omega (arith, fits, broad) in
    let is = printed_is ch wide s.canvas.attrs page columns (omega (arith, inside))
    ∙ ap (glyph_put (encode_utf8 ch) wide s.canvas.attrs) (room_kept (glyph_columns wide) page inside) in
    let same : record (s.canvas) { page = glyph_put (encode_utf8 ch) wide s.canvas.attrs page } ≡ t.canvas =
    ap (λ (p : Page). record (s.canvas) { page = p }) (sym is) ∙ printed ch s.canvas t.canvas reads in
    by_width wide inside same
  where
    by_width : (wide : Bool) → s.canvas.page.column + glyph_columns wide ≤ s.canvas.page.width →
        record (s.canvas) { page = glyph_put (encode_utf8 ch) wide s.canvas.attrs s.canvas.page } ≡ t.canvas →
        Printed (canvas_terminal h w) s.canvas.page.row s.canvas.page.column (glyph_columns wide)
        (glyph_cells (encode_utf8 ch) wide s.canvas.attrs) s t
    by_width false inside same =
        put_printed h w s t 1 (glyph (0x20 ∷ []) false s.canvas.attrs)
        (glyph (encode_utf8 ch) false s.canvas.attrs ∷ [])
        (glyph_is (encode_utf8 ch) false s.canvas.attrs (glyph (0x20 ∷ []) false s.canvas.attrs) refl) refl inside same
    by_width true inside same =
        put_printed h w s t 2 (blank s.canvas.attrs) (glyph (encode_utf8 ch) true s.canvas.attrs ∷ right_half ∷ [])
        (glyph_is (encode_utf8 ch) true s.canvas.attrs (blank s.canvas.attrs) refl) refl inside same

pub model_prints : (h w : ℕ) (s t : SoundCanvas h w) (r c ch : ℕ) (wide : Bool) (a : Attrs) →
    c + glyph_columns wide ≤ w →
    columns_of ch ≡ Some (glyph_columns wide) → (s.canvas.page.row ≡ r) × ((s.canvas.page.column ≡ c) × (c < w)) →
    s.canvas.attrs ≡ a → drawn_char ch s.canvas ≡ Some t.canvas →
    Printed (canvas_terminal h w) r c (glyph_columns wide) (glyph_cells (encode_utf8 ch) wide a) s t
model_prints h w s t r c ch wide a fits columns place attrs reads =
    let row = place.0 in
    let column = place.1.0 in
    subst (λ (i : ℕ). Printed (canvas_terminal h w) i c (glyph_columns wide) (glyph_cells (encode_utf8 ch) wide a) s t)
    row
    (subst (λ (k : ℕ). Printed (canvas_terminal h w) s.canvas.page.row k (glyph_columns wide)
    (glyph_cells (encode_utf8 ch) wide a) s
    t) column
    (subst (λ (b : Attrs). Printed (canvas_terminal h w) s.canvas.page.row s.canvas.page.column (glyph_columns wide)
    (glyph_cells (encode_utf8 ch) wide b) s t) attrs
    (glyph_printed h w s t ch wide (omega (arith, column, fits)) columns reads)))

pub columns_erased : (h w : ℕ) (s t : SoundCanvas h w) (n : ℕ) → 0 < n →
    s.canvas.page.column + n ≤ s.canvas.page.width →
    record (s.canvas) { page = erased_columns s.canvas.page.column n s.canvas.attrs s.canvas.page } ≡ t.canvas →
    Erased (canvas_terminal h w) s.canvas.page.row s.canvas.page.column n s.canvas.attrs s t
columns_erased h w s t n some fits same =
    let page = s.canvas.page in
    let back = sym same in
    let size = length-replicate n (blank s.canvas.attrs) in record {
      blanks = λ k low high whole ends. blank_at k low high;
      within = λ k low high. ap is_right_half (blank_at k (omega (arith, low)) high);
      cursor = record {
        at = λ r c h. (
          ap (λ (q : Canvas). q.page.row) back ∙ h.0,
          (
            ap (λ (q : Canvas). q.page.column) back ∙ h.1.0,
            h.1.1,
          ),
        );
        pending = λ r h. (ap (λ (q : Canvas). q.page.row) back ∙ h.0, ap (λ (q : Canvas). q.page.column) back ∙ h.1);
        ended = λ r h. let le = h.1 in let e = ap (λ (q : Canvas). q.page.column) back in
            (ap (λ (q : Canvas). q.page.row) back ∙ h.0, omega (arith, le, e));
      };
      rest = edit_replaced h w s t n default_blank (blanks s.canvas.attrs n) size some fits refl (first_blank n some)
          (λ i k. ap (λ (q : Canvas). cell_at q.page i k) back)
          (same_modes h w s t (ap (λ (q : Canvas). q.attrs) back) (ap (λ (q : Canvas). q.hidden) back)
          (ap (λ (q : Canvas). q.page.saved_row) back) (ap (λ (q : Canvas). q.page.saved_column) back)
          (ap (λ (q : Canvas). q.saved_attrs) back));
    }
  where
    blank_at : (k : ℕ) → s.canvas.page.column ≤ k → k < s.canvas.page.column + n →
        cell_at t.canvas.page s.canvas.page.row k ≡ blank s.canvas.attrs
    blank_at k low high =
        let page = s.canvas.page in
        let size = length-replicate n (blank s.canvas.attrs) in
        let e : page.column + (k - page.column) ≡ k = omega (arith, low) in
        ap (λ (q : Canvas). cell_at q.page page.row k) (sym same)
        ∙ (ap (λ (j : ℕ). cell_at (erased_columns page.column n s.canvas.attrs page) page.row j) (sym e)
        ∙ (new_here page n default_blank (blanks s.canvas.attrs n) (k - page.column) s.sound size fits
        (omega (arith, low, high))
        ∙ get_or-replicate n (k - page.column) (blank s.canvas.attrs) default_blank (omega (arith, low, high))))

    first_blank : (m : ℕ) → 0 < m → is_right_half (at (blanks s.canvas.attrs m) 0) ≡ false
    first_blank zero lt = absurd (omega (arith, lt))
    first_blank (suc m) lt = refl

-- ==== Elements that move the cursor

pub model_moved : (h w row column : ℕ) (s t : SoundCanvas h w) →
    record (s.canvas) { page = record (s.canvas.page) { row = row; column = column } } ≡ t.canvas → Moved (canvas_terminal h w) s t
model_moved h w row column s t same =
    let back = sym same in record {
      cells = record {
        shows = λ r c x e. ap (λ (q : Canvas). cell_at q.page r c) back ∙ e;
        begins = λ r c e. ap (λ (q : Canvas). is_right_half (cell_at q.page r c)) back ∙ e;
      };
      modes = same_modes h w s t (ap (λ (q : Canvas). q.attrs) back) (ap (λ (q : Canvas). q.hidden) back)
          (ap (λ (q : Canvas). q.page.saved_row) back) (ap (λ (q : Canvas). q.page.saved_column) back)
          (ap (λ (q : Canvas). q.saved_attrs) back);
    }

-- The cursor is where it was moved.
pub model_at : (h w row column r c : ℕ) (s t : SoundCanvas h w) →
    record (s.canvas) { page = record (s.canvas.page) { row = row; column = column } } ≡ t.canvas → row ≡ r → column ≡ c →
    c < w → (t.canvas.page.row ≡ r) × ((t.canvas.page.column ≡ c) × (c < w))
model_at h w row column r c s t same e f inside =
    (ap (λ (q : Canvas). q.page.row) (sym same) ∙ e, (ap (λ (q : Canvas). q.page.column) (sym same) ∙ f, inside))

pub some_width : (h w : ℕ) (s : SoundCanvas h w) → 0 < w
some_width h w s = let some = s.sound.has_columns in let wide = s.wide in omega (arith, some, wide)

no_wrap : (c : ℕ) (wide : Bool) (page : Page) → columns_of c ≡ Some (glyph_columns wide) →
    page.column + glyph_columns wide ≤ page.width → wraps c page ≡ false
no_wrap c false page columns fits =
    ap (λ (o : Option ℕ). wraps_for o c page) columns ∙ le-ltb (page.width - 1) page.column (omega (arith, fits))
no_wrap c true page columns fits =
    ap (λ (o : Option ℕ). wraps_for o c page) columns
    ∙ and_right (nat_lt 1 page.width) (lacks_room 2 page) (le-ltb (page.width - 2) page.column (omega (arith, fits)))

pub model_wraps : (h w : ℕ) (s t : SoundCanvas h w) (r ch : ℕ) (wide : Bool) → r + 1 < h → glyph_columns wide ≤ w →
    columns_of ch ≡ Some (glyph_columns wide) → (s.canvas.page.row ≡ r) × (s.canvas.page.column ≡ w) →
    drawn_char ch s.canvas ≡ Some t.canvas →
    (m : SoundCanvas h w) × (((m.canvas.page.row ≡ r + 1) × ((m.canvas.page.column ≡ 0) × (0 < w)))
    × (Moved (canvas_terminal h w) s m × (drawn_char ch m.canvas ≡ Some t.canvas)))
model_wraps h w s t r ch wide low fits columns place reads =
    let page = s.canvas.page in
    let row = place.0 in
    let last = place.1 in
    let tall = s.tall in
    let broad = s.wide in
    let below : page.row + 1 < length page.rows = omega (arith, row, tall, low) in
    let is = wrapped_is page s.sound below in
    let b = goes_down page && not (ends_blank (cursor_row page).cells) in
    let height : length (wrapped_page page).rows ≡ length page.rows =
    ap (λ (p : Page). length p.rows) is
    ∙ length-set page.rows page.row (record (row_at page page.row) { wrapped = b }) in
    let m : SoundCanvas h w = record {
      canvas = record (s.canvas) { page = wrapped_page page };
      sound = sound_wrapped page s.sound below;
      tall = height ∙ s.tall;
      wide = width_wrapped_page page ∙ s.wide;
    } in
    let cells : (i k : ℕ) → cell_at (wrapped_page page) i k ≡ cell_at page i k =
    λ i k. ap (λ (p : Page). cell_at p i k) is
    ∙ ap (λ (z : List CellValue). at z k) (wrapped_row b page i s.sound.row) in (
      m,
      (
        (
          row_wrapped_page page s.sound below ∙ ap (λ (k : ℕ). k + 1) row,
          (column_wrapped_page page, let some = some_columns wide in omega (arith, some, fits)),
        ),
        (
          record {
            cells = record {
              shows = λ i k x e. cells i k ∙ e;
              begins = λ i k e. ap is_right_half (cells i k) ∙ e;
            };
            modes = same_modes h w s m refl refl (ap (λ (p : Page). p.saved_row) is)
                (ap (λ (p : Page). p.saved_column) is)
                refl;
          },
          again (wrapped_page page) (column_wrapped_page page) (width_wrapped_page page)
              (room_wraps (glyph_columns wide) page (some_columns wide) (omega (arith, broad, fits))
              (last ∙ sym s.wide)),
        ),
      ),
    )
  where
    again : (down : Page) → down.column ≡ 0 → down.width ≡ s.canvas.page.width →
        room_made (glyph_columns wide) s.canvas.page ≡ down →
        drawn_char ch (record (s.canvas) { page = down }) ≡ Some t.canvas
    again down first same room =
        let broad = s.wide in
        let inside : down.column + glyph_columns wide ≤ down.width = omega (arith, first, same, broad, fits) in
        let put = printed_is ch wide s.canvas.attrs down columns (omega (arith, inside))
        ∙ ap (glyph_put (encode_utf8 ch) wide s.canvas.attrs) (room_kept (glyph_columns wide) down inside) in
        let was = printed_is ch wide s.canvas.attrs s.canvas.page columns (omega (arith, broad, fits))
        ∙ ap (glyph_put (encode_utf8 ch) wide s.canvas.attrs) room in
        let after : record (s.canvas) { page = page_after_print ch s.canvas.attrs down } ≡ t.canvas =
        ap (λ (p : Page). record (s.canvas) { page = p }) (put ∙ sym was) ∙ printed ch s.canvas t.canvas reads in
        ap (λ (b : Bool). if b && feeds_out down then None
        else Some (record (s.canvas) { page = page_after_print ch s.canvas.attrs down }))
        (no_wrap ch wide down columns inside)
        ∙ ap (λ (q : Canvas). Some q) after

pub model_cup : (h w : ℕ) (s t : SoundCanvas h w) (r c : ℕ) →
    Some (record (s.canvas) { page = moved (To r c) s.canvas.page }) ≡ Some t.canvas →
    ((t.canvas.page.row ≡ min r (h - 1)) × ((t.canvas.page.column ≡ min c (w - 1)) × (min c (w - 1) < w)))
    × Moved (canvas_terminal h w) s t
model_cup h w s t r c reads =
    let same = some_same (record (s.canvas) { page = moved (To r c) s.canvas.page }) t.canvas reads in
    let some = some_width h w s in
    let row : target_row r s.canvas.page ≡ min r (h - 1) =
    rw (s.sound.origin) (ap (λ (k : ℕ). min r (k - 1)) s.tall) in (
      model_at h w (target_row r s.canvas.page) (min c (s.canvas.page.width - 1)) (min r (h - 1)) (min c (w - 1)) s t
          same row
          (ap (λ (k : ℕ). min c (k - 1)) s.wide) (omega (arith, some)),
      model_moved h w (target_row r s.canvas.page) (min c (s.canvas.page.width - 1)) s t same,
    )

pub model_fed : (h w : ℕ) (s t : SoundCanvas h w) (r : ℕ) → r + 1 < h → s.canvas.page.row ≡ r →
    canvas_after_line_feed s.canvas ≡ Some t.canvas →
    record (s.canvas) { page = record (s.canvas.page) { row = s.canvas.page.row + 1 } } ≡ t.canvas
model_fed h w s t r low row reads =
    let tall = s.tall in feed_next s.canvas t.canvas s.sound (omega (arith, row, low, tall)) reads
