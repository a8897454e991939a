-- This project's own model of a terminal obeys the laws.
use Rattle.std.proofs.Common.{◌≡◌, ℕ, suc, ◌+◌, ◌-◌, ◌<◌, ◌≤◌, ◌⊎◌, min, List, refl, inl, inr, sym, ap, ◌∙◌, arith}
use Rattle.std.specs.Char.{encode_utf8}
use Rattle.vt_cells.specs.Attrs.{Attrs, changed_attrs, default_attrs}
use Rattle.vt_cells.specs.Cell.{is_right_half}
use Rattle.vt_cells.specs.Glyph.{glyph_columns}
use Rattle.vt_rows.specs.Cells.{at}
use Rattle.vt_rows.specs.Row.{RowValue}
use Rattle.vt_grid.specs.Canvas.{Canvas}
use Rattle.vt_grid.specs.Moves.{cursor_restored, cursor_saved, moved}
use Rattle.vt_grid.specs.Page.{cell_at, row_or}
use Rattle.vt_grid.specs.declared.grid.moves.CursorMove.TheVariants.{Return, Right, Left}
use Rattle.vt_redraw.proofs.Touched.{some_same}
use Rattle.vt_terminals.specs.CanvasTerminal.{SoundCanvas, canvas_terminal}
use Rattle.vt_terminals.specs.Laws.{Laws, SameCells, glyph_cells}
use Rattle.vt_terminals.proofs.CanvasEdits.{model_prints, model_moved, model_at, some_width, model_wraps, model_cup}
use Rattle.vt_terminals.proofs.CanvasEdits.{model_fed}
use Rattle.vt_terminals.proofs.CanvasErasing.{same_cursor_at, model_ed, model_el, model_ech}
use Rattle.vt_terminals.proofs.CanvasStrays.{model_strays}
use Rattle.vt_terminals.proofs.Printed.{printed_after_move}

-- ==== All laws

same_cells : (h w : ℕ) (s t : SoundCanvas h w) → t.canvas.page.rows ≡ s.canvas.page.rows →
    t.canvas.page.width ≡ s.canvas.page.width → SameCells (canvas_terminal h w) s t
same_cells h w s t rows wide = record {
  shows = λ r c x e. cell r c ∙ e;
  begins = λ r c e. ap is_right_half (cell r c) ∙ e;
} where
  cell : (r c : ℕ) → cell_at t.canvas.page r c ≡ cell_at s.canvas.page r c
  cell r c =
      ap (λ (z : List RowValue). at (row_or t.canvas.page.width z r).cells c) rows
      ∙ ap (λ (k : ℕ). at (row_or k s.canvas.page.rows r).cells c) wide

pub canvas_laws : (height width : ℕ) → Laws (canvas_terminal height width)
canvas_laws h w = record {
  prints = λ s t r c ch wide a low fits certain columns place attrs reads.
      model_prints h w s t r c ch wide a fits columns place attrs reads;
  strays = λ s t r c cs glyph low fits place reads. model_strays h w r c cs s t glyph fits place reads;
  wraps = λ s t r ch wide a low fits certain columns place attrs reads.
      let down = model_wraps h w s t r ch wide low fits columns place reads in
      printed_after_move (canvas_terminal h w) (r + 1) 0 (glyph_columns wide) (glyph_cells (encode_utf8 ch) wide a) s
      down.0 t down.1.1.0 (model_prints h w down.0 t (r + 1) 0 ch wide a (omega (arith, fits)) columns down.1.0
      (down.1.1.0.modes.attrs a attrs) down.1.1.1);
  cup = λ s t r c reads. model_cup h w s t r c reads;
  cr = λ s t r low place reads. let same = some_same (record (s.canvas) { page = moved Return s.canvas.page }) t.canvas
      reads in (
        model_at h w s.canvas.page.row 0 r 0 s t same (row_is h w s r place) refl (some_width h w s),
        model_moved h w s.canvas.page.row 0 s t same,
      );
  cuf = λ s t r c n low inside place reads.
      let same = some_same (record (s.canvas) { page = moved (Right (suc n)) s.canvas.page }) t.canvas reads in (
        model_at h w s.canvas.page.row (min (s.canvas.page.column + suc n) (s.canvas.page.width - 1)) r
            (min (c + suc n) (w - 1)) s t same place.0
            (ap (λ (k : ℕ). min (k + suc n) (s.canvas.page.width - 1)) place.1.0
            ∙ ap (λ (k : ℕ). min (c + suc n) (k - 1)) s.wide) (omega (arith, inside)),
        model_moved h w s.canvas.page.row (min (s.canvas.page.column + suc n) (s.canvas.page.width - 1)) s t same,
      );
  bs = λ s t r c low inside some place reads.
      let same = some_same (record (s.canvas) { page = moved (Left 1) s.canvas.page }) t.canvas reads in (
        model_at h w s.canvas.page.row (s.canvas.page.column - 1) r (c - 1) s t same place.0
            (ap (λ (k : ℕ). k - 1) place.1.0) (omega (arith, inside)),
        model_moved h w s.canvas.page.row (s.canvas.page.column - 1) s t same,
      );
  lf = λ s t r c low place reads. let same = model_fed h w s t r low place.0 reads in (
    model_at h w (s.canvas.page.row + 1) s.canvas.page.column (r + 1) c s t same (ap (λ (k : ℕ). k + 1) place.0)
        place.1.0
        place.1.1,
    model_moved h w (s.canvas.page.row + 1) s.canvas.page.column s t same,
  );
  lf_end = λ s t r low place reads. let same = model_fed h w s t r low place.0 reads in
      let le = place.1 in
      let column = ap (λ (q : Canvas). q.page.column) (sym same) in (
        (
          ap (λ (q : Canvas). q.page.row) (sym same) ∙ ap (λ (k : ℕ). k + 1) place.0,
          omega (arith, le, column),
        ),
        model_moved h w (s.canvas.page.row + 1) s.canvas.page.column s t same,
      );
  ed = λ s t a place attrs reads. model_ed h w s t a place attrs reads;
  el = λ s t r c a low inside place attrs reads. model_el h w s t r c a low inside place attrs reads;
  ech = λ s t r c n a low inside place attrs reads. model_ech h w s t r c n a low inside place attrs reads;
  reset = λ s t reads. let back = sym (some_same (record (s.canvas) { attrs = default_attrs }) t.canvas reads) in (
    ap (λ (q : Canvas). q.attrs) back,
    (
      same_cells h w s t (ap (λ (q : Canvas). q.page.rows) back) (ap (λ (q : Canvas). q.page.width) back),
      (
        same_cursor_at h w s t (ap (λ (q : Canvas). q.page.row) back) (ap (λ (q : Canvas). q.page.column) back),
        λ hidden e. ap (λ (q : Canvas). q.hidden) back ∙ e,
      ),
    ),
  );
  reset_saved = λ s t r a reads saved.
      let back = sym (some_same (record (s.canvas) { attrs = default_attrs }) t.canvas reads) in
      kept_saved h w s t r a (ap (λ (q : Canvas). q.page.saved_row) back)
      (ap (λ (q : Canvas). q.page.saved_column) back)
      (ap (λ (q : Canvas). q.saved_attrs) back) saved;
  sgr = λ s t was new a differ attrs apart reads.
      let back = sym (some_same (record (s.canvas) { attrs = changed_attrs was new s.canvas.attrs }) t.canvas reads) in (
        ap (λ (q : Canvas). q.attrs) back ∙ ap (changed_attrs was new) attrs,
        (
          same_cells h w s t (ap (λ (q : Canvas). q.page.rows) back) (ap (λ (q : Canvas). q.page.width) back),
          (
            same_cursor_at h w s t (ap (λ (q : Canvas). q.page.row) back) (ap (λ (q : Canvas). q.page.column) back),
            λ hidden e. ap (λ (q : Canvas). q.hidden) back ∙ e,
          ),
        ),
      );
  sgr_saved = λ s t was new r a reads saved.
      let back = sym (some_same (record (s.canvas) { attrs = changed_attrs was new s.canvas.attrs }) t.canvas reads) in
      kept_saved h w s t r a (ap (λ (q : Canvas). q.page.saved_row) back)
      (ap (λ (q : Canvas). q.page.saved_column) back)
      (ap (λ (q : Canvas). q.saved_attrs) back) saved;
  dectcem = λ s t hidden reads. let back = sym (some_same (record (s.canvas) { hidden = hidden }) t.canvas reads) in (
    ap (λ (q : Canvas). q.hidden) back,
    (
      same_cells h w s t (ap (λ (q : Canvas). q.page.rows) back) (ap (λ (q : Canvas). q.page.width) back),
      (
        same_cursor_at h w s t (ap (λ (q : Canvas). q.page.row) back) (ap (λ (q : Canvas). q.page.column) back),
        (
          λ a e. ap (λ (q : Canvas). q.attrs) back ∙ e,
          λ r a saved. kept_saved h w s t r a (ap (λ (q : Canvas). q.page.saved_row) back)
              (ap (λ (q : Canvas). q.page.saved_column) back) (ap (λ (q : Canvas). q.saved_attrs) back) saved,
        ),
      ),
    ),
  );
  decsc = λ s t r a place attrs reads.
      let back = sym (some_same (record (s.canvas) { page = cursor_saved s.canvas.page; saved_attrs = s.canvas.attrs })
      t.canvas reads) in
      let le = place.1 in
      let column = ap (λ (q : Canvas). q.page.saved_column) back in (
        ap (λ (q : Canvas). q.page.saved_row) back ∙ place.0,
        (omega (arith, le, column), ap (λ (q : Canvas). q.saved_attrs) back ∙ attrs),
      );
  decsc_same = λ s t reads.
      let back = sym (some_same (record (s.canvas) { page = cursor_saved s.canvas.page; saved_attrs = s.canvas.attrs })
      t.canvas reads) in (
        same_cells h w s t (ap (λ (q : Canvas). q.page.rows) back) (ap (λ (q : Canvas). q.page.width) back),
        (
          same_cursor_at h w s t (ap (λ (q : Canvas). q.page.row) back) (ap (λ (q : Canvas). q.page.column) back),
          (
            λ a e. ap (λ (q : Canvas). q.attrs) back ∙ e,
            λ hidden e. ap (λ (q : Canvas). q.hidden) back ∙ e,
          ),
        ),
      );
  decrc = λ s t r a saved reads.
      let back = sym (some_same (record (s.canvas) {
        page = cursor_restored s.canvas.page;
        attrs = s.canvas.saved_attrs;
      })
      t.canvas reads) in
      let le = saved.1.0 in
      let column = ap (λ (q : Canvas). q.page.column) back in (
        (ap (λ (q : Canvas). q.page.row) back ∙ saved.0, omega (arith, le, column)),
        (
          ap (λ (q : Canvas). q.attrs) back ∙ saved.1.1,
          same_cells h w s t (ap (λ (q : Canvas). q.page.rows) back) (ap (λ (q : Canvas). q.page.width) back),
        ),
      );
  decrc_same = λ s t reads.
      let back = sym (some_same (record (s.canvas) {
        page = cursor_restored s.canvas.page;
        attrs = s.canvas.saved_attrs;
      })
      t.canvas reads) in (
        λ hidden e. ap (λ (q : Canvas). q.hidden) back ∙ e,
        λ r a saved. kept_saved h w s t r a (ap (λ (q : Canvas). q.page.saved_row) back)
            (ap (λ (q : Canvas). q.page.saved_column) back) (ap (λ (q : Canvas). q.saved_attrs) back) saved,
      );
  blank_begins = λ s r c a shown. ap is_right_half shown;
  pending_ended = λ s r place. let column = place.1 in (place.0, omega (arith, column));
} where
  row_is : (h w : ℕ) (s : SoundCanvas h w) (r : ℕ) →
      ((c : ℕ) × ((s.canvas.page.row ≡ r) × ((s.canvas.page.column ≡ c) × (c < w))))
      ⊎ ((s.canvas.page.row ≡ r) × (w ≤ s.canvas.page.column + 1)) → s.canvas.page.row ≡ r
  row_is h w s r (inl at) = at.1.0
  row_is h w s r (inr at) = at.0

  kept_saved : (h w : ℕ) (s t : SoundCanvas h w) (r : ℕ) (a : Attrs) →
      t.canvas.page.saved_row ≡ s.canvas.page.saved_row →
      t.canvas.page.saved_column ≡ s.canvas.page.saved_column → t.canvas.saved_attrs ≡ s.canvas.saved_attrs →
      (s.canvas.page.saved_row ≡ r) × ((w ≤ s.canvas.page.saved_column + 1) × (s.canvas.saved_attrs ≡ a)) →
      (t.canvas.page.saved_row ≡ r) × ((w ≤ t.canvas.page.saved_column + 1) × (t.canvas.saved_attrs ≡ a))
  kept_saved h w s t r a row column attrs saved =
      let le = saved.1.0 in (row ∙ saved.0, (omega (arith, column, le), attrs ∙ saved.1.1))
