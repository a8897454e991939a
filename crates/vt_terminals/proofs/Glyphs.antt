-- A terminal that agrees with a canvas agrees with it after a certain character is printed.
use Rattle.std.proofs.Common.{◌≡◌, ◌≢◌, ℕ, ◌+◌, ◌<◌, ◌≤◌, ◌⊎◌, ◌&&◌, not, Bool, true, false, List, [], ◌∷◌, length}
use Rattle.std.proofs.Common.{refl, inl, inr, sym, ap, subst, ◌∙◌, Some, arith}
use Rattle.std.specs.Char.{encode_utf8}
use Rattle.std.proofs.lemmas.Bool.{cases_eq}
use Rattle.std.proofs.lemmas.Grind.{get_or-set_at}
use Rattle.std.proofs.lemmas.List.{get_or-set_other, length-set}
use Rattle.vt_cells.specs.Attrs.{Attrs, default_attrs}
use Rattle.vt_cells.specs.Cell.{CellValue, blank, glyph, right_half, is_right_half}
use Rattle.vt_cells.specs.Glyph.{columns_of, glyph_columns}
use Rattle.vt_rows.specs.Cells.{IsPaired, at, ends_blank}
use Rattle.vt_rows.specs.Row.{RowValue, blank_row, with_cells}
use Rattle.vt_rows.proofs.Edits.{IsPaired-put_narrow, IsPaired-put_wide, IsPaired-erased, length-put_cells}
use Rattle.vt_grid.specs.Canvas.{Canvas}
use Rattle.vt_grid.specs.Page.{Page, cell_at, cursor_row, row_at}
use Rattle.vt_grid.specs.Printing.{glyph_put, goes_down, with_cursor_cells, wrapped_page}
use Rattle.vt_redraw.specs.Certain.{is_certain}
use Rattle.vt_redraw.specs.Doubts.{Wrap, NotPending, Unsure, wrap_at}
use Rattle.vt_redraw.specs.Uses.{IsBoundary}
use Rattle.vt_terminals.proofs.Agrees.{Agrees, CursorAgrees, torn_after_print}
use Rattle.vt_terminals.specs.Element.{Character}
use Rattle.vt_terminals.specs.Laws.{Laws, Moved, Printed, glyph_cells}
use Rattle.vt_terminals.specs.Sound.{IsSound}
use Rattle.vt_terminals.specs.Terminal.{Terminal, Positions}
use Rattle.vt_terminals.proofs.Pages.{feed_is, not_bottom, row_here, row_other}
use Rattle.vt_terminals.proofs.Puts.{IsGlyph, put_agrees}

-- ==== Pages that stay sound

pub sound_at : (row column : ℕ) (page : Page) → IsSound page → row < length page.rows → column ≤ page.width →
    IsSound (record page { row = row; column = column })
sound_at row column page sound low inside = record {
  has_columns = sound.has_columns;
  row = low;
  column = inside;
  top = sound.top;
  bottom = sound.bottom;
  origin = sound.origin;
  columns = sound.columns;
  paired = sound.paired;
}

pub sound_cells : (cells : List CellValue) (page : Page) → IsSound page → length cells ≡ page.width → IsPaired cells →
    IsSound (with_cursor_cells cells page)
sound_cells cells page sound size paired = record {
  has_columns = sound.has_columns;
  row = let low = sound.row in omega (arith, tall, low);
  column = sound.column;
  top = sound.top;
  bottom = sound.bottom ∙ sym tall;
  origin = sound.origin;
  columns = λ r low. by_columns r (omega (arith, tall, low)) (cases_eq r page.row);
  paired = λ r low. by_paired r (omega (arith, tall, low)) (cases_eq r page.row);
} where
  tall : length (with_cursor_cells cells page).rows ≡ length page.rows
  tall = length-set page.rows page.row (with_cells (cursor_row page) cells)

  by_columns : (r : ℕ) → r < length page.rows → (r ≡ page.row) ⊎ (r ≢ page.row) →
      length (row_at (with_cursor_cells cells page) r).cells ≡ page.width
  by_columns r low (inl e) =
      ap (λ (i : ℕ). length (row_at (with_cursor_cells cells page) i).cells) e
      ∙ (ap length (row_here cells page sound.row) ∙ size)
  by_columns r low (inr ne) =
      ap (λ (row : RowValue). length row.cells) (row_other cells page r ne) ∙ sound.columns r low

  by_paired : (r : ℕ) → r < length page.rows → (r ≡ page.row) ⊎ (r ≢ page.row) →
      IsPaired (row_at (with_cursor_cells cells page) r).cells
  by_paired r low (inl e) =
      subst (λ (i : ℕ). IsPaired (row_at (with_cursor_cells cells page) i).cells) (sym e)
      (subst IsPaired (sym (row_here cells page sound.row)) paired)
  by_paired r low (inr ne) =
      subst (λ (row : RowValue). IsPaired row.cells) (sym (row_other cells page r ne)) (sound.paired r low)

pub sound_erased : (c n : ℕ) (attrs : Attrs) (page : Page) → IsSound page → c + n ≤ page.width →
    IsSound (Rattle.vt_grid.specs.Erasing.erased_columns c n attrs page)
sound_erased c n attrs page sound fits =
    let l = sound.columns page.row sound.row in
    sound_cells (Rattle.vt_rows.specs.Cells.cells_after_erase c n attrs (cursor_row page).cells) page sound
    (length-put_cells c n Rattle.vt_cells.specs.Cell.default_blank (Rattle.vt_rows.specs.Cells.blanks attrs n)
    (cursor_row page).cells (Rattle.std.proofs.lemmas.List.length-replicate n (blank attrs)) (omega (arith, l, fits)) ∙
    l)
    (IsPaired-erased c n attrs (cursor_row page).cells (omega (arith, l, fits)) (sound.paired page.row sound.row))

pub sound_glyph : (text : List ℕ) (wide : Bool) (attrs : Attrs) (page : Page) → IsSound page →
    page.column + glyph_columns wide ≤ page.width → IsSound (glyph_put text wide attrs page)
sound_glyph text false attrs page sound fits =
    let l = sound.columns page.row sound.row in
    let cells = Rattle.vt_rows.specs.Cells.put_narrow page.column text attrs (cursor_row page).cells in
    let edited = sound_cells cells page sound
    (length-put_cells page.column 1 (glyph (0x20 ∷ []) false attrs) (glyph text false attrs ∷ [])
    (cursor_row page).cells
    refl (omega (arith, l, fits)) ∙ l)
    (IsPaired-put_narrow page.column text attrs (cursor_row page).cells (omega (arith, l, fits))
    (sound.paired page.row sound.row)) in
    sound_at page.row (page.column + 1) (with_cursor_cells cells page) edited edited.row fits
sound_glyph text true attrs page sound fits =
    let l = sound.columns page.row sound.row in
    let cells = Rattle.vt_rows.specs.Cells.put_wide page.column text attrs (cursor_row page).cells in
    let edited = sound_cells cells page sound
    (length-put_cells page.column 2 (blank attrs) (glyph text true attrs ∷ right_half ∷ []) (cursor_row page).cells
    refl (omega (arith, l, fits)) ∙ l)
    (IsPaired-put_wide page.column text attrs (cursor_row page).cells (omega (arith, l, fits))
    (sound.paired page.row sound.row)) in
    sound_at page.row (page.column + 2) (with_cursor_cells cells page) edited edited.row fits

-- ==== A wrap

-- The page after a wrap above the last row: only a wrapped flag and the cursor change.
abbrev pub page_wrapped : Bool → Page → Page
page_wrapped is_wrapped page = record page {
  rows = Rattle.std.specs.Prelude.slice_set page.rows page.row (record (row_at page page.row) { wrapped = is_wrapped });
  row = page.row + 1;
  column = 0;
}

pub wrapped_is : (page : Page) → IsSound page → page.row + 1 < length page.rows →
    wrapped_page page ≡ page_wrapped (goes_down page && not (ends_blank (cursor_row page).cells)) page
unfolding wrapped_page
wrapped_is page sound below = rw (feed_is page sound below, not_bottom page sound below) refl

pub wrapped_row : (is_wrapped : Bool) (page : Page) (r : ℕ) → page.row < length page.rows →
    (row_at (page_wrapped is_wrapped page) r).cells ≡ (row_at page r).cells
wrapped_row is_wrapped page r low = by_row (cases_eq r page.row) where
  by_row : (r ≡ page.row) ⊎ (r ≢ page.row) → (row_at (page_wrapped is_wrapped page) r).cells ≡ (row_at page r).cells
  by_row (inl e) =
      ap (λ (row : RowValue). row.cells)
      (get_or-set_at page.rows page.row r (record (row_at page page.row) { wrapped = is_wrapped })
      (blank_row default_attrs page.width) e low)
      ∙ ap (λ (i : ℕ). (row_at page i).cells) (sym e)
  by_row (inr ne) =
      ap (λ (row : RowValue). row.cells)
      (get_or-set_other page.rows page.row r (record (row_at page page.row) { wrapped = is_wrapped })
      (blank_row default_attrs page.width) ne)

pub sound_wrapped : (page : Page) → IsSound page → page.row + 1 < length page.rows → IsSound (wrapped_page page)
sound_wrapped page sound below =
    subst IsSound (sym (wrapped_is page sound below))
    (wrapped_sound (goes_down page && not (ends_blank (cursor_row page).cells)))
  where
    tall : (b : Bool) → length (page_wrapped b page).rows ≡ length page.rows
    tall b = length-set page.rows page.row (record (row_at page page.row) { wrapped = b })

    wrapped_sound : (b : Bool) → IsSound (page_wrapped b page)
    wrapped_sound b =
        let same = tall b in record {
          has_columns = sound.has_columns;
          row = omega (arith, same, below);
          column = omega arith;
          top = sound.top;
          bottom = sound.bottom ∙ sym same;
          origin = sound.origin;
          columns = λ r low. ap length (wrapped_row b page r sound.row) ∙ sound.columns r (omega (arith, same, low));
          paired = λ r low. subst IsPaired (sym (wrapped_row b page r sound.row))
              (sound.paired r (omega (arith, same, low)));
        }

-- Nothing but the cursor and wrapped flags changes.
pub same_agrees : (T : Terminal) (near torn : Positions) (shifted : Bool) (was now : Wrap) (canvas : Canvas)
    (page : Page) (s t : T.State) →
    Agrees T near torn shifted was canvas s → page.width ≡ canvas.page.width →
    length page.rows ≡ length canvas.page.rows →
    ((r k : ℕ) → cell_at page r k ≡ cell_at canvas.page r k) → page.saved_row ≡ canvas.page.saved_row →
    page.saved_column ≡ canvas.page.saved_column → Moved T s t → CursorAgrees T now page t →
    Agrees T near torn false now (record canvas { page = page }) t
same_agrees T near torn shifted was now canvas page s t agrees wide tall cells saved_row saved_column moved cursor =
    record {
      width = wide ∙ agrees.width;
      height = tall ∙ agrees.height;
      cells = λ r k low inside clear settled. subst (λ (x : CellValue). T.Shows t r k x) (sym (cells r k))
          (moved.cells.shows r k (cell_at canvas.page r k) (agrees.cells r k low inside clear settled));
      begins = λ r k low inside sure whole. moved.cells.begins r k
          (agrees.begins r k low inside sure (ap is_right_half (sym (cells r k)) ∙ whole));
      attrs = moved.modes.attrs canvas.attrs agrees.attrs;
      hidden = moved.modes.hides canvas.hidden agrees.hidden;
      saved = λ low last. subst (λ (r : ℕ). T.HasSaved t r canvas.saved_attrs) (sym saved_row)
          (moved.modes.saved canvas.page.saved_row canvas.saved_attrs
          (agrees.saved (omega (arith, saved_row, low)) (sym saved_column ∙ last)));
      cursor = λ _. cursor;
      calm = λ f. absurd (cc);
    }

-- A wrap changes only the cursor and wrapped flags. The terminal wraps when it prints the next character, so nothing is
-- known of its cursor.
pub wrap_agrees : (T : Terminal) (near torn : Positions) (was : Wrap) (canvas : Canvas) (s : T.State) →
    IsSound canvas.page → canvas.page.row + 1 < length canvas.page.rows → Agrees T near torn false was canvas s →
    Agrees T near torn true Unsure (record canvas { page = wrapped_page canvas.page }) s
wrap_agrees T near torn was canvas s sound below agrees =
    subst (λ (p : Page). Agrees T near torn true Unsure (record canvas { page = p }) s)
    (sym (wrapped_is canvas.page sound below))
    (wrapped (goes_down canvas.page && not (ends_blank (cursor_row canvas.page).cells)))
  where
    cell : (b : Bool) (r k : ℕ) → cell_at (page_wrapped b canvas.page) r k ≡ cell_at canvas.page r k
    cell b r k = ap (λ (cells : List CellValue). at cells k) (wrapped_row b canvas.page r sound.row)

    wrapped : (b : Bool) → Agrees T near torn true Unsure (record canvas { page = page_wrapped b canvas.page }) s
    wrapped b = record {
      width = agrees.width;
      height =
          length-set canvas.page.rows canvas.page.row (record (row_at canvas.page canvas.page.row) { wrapped = b })
          ∙ agrees.height;
      cells = λ r k low inside clear settled. subst (λ (x : CellValue). T.Shows s r k x) (sym (cell b r k))
          (agrees.cells r k low inside clear settled);
      begins = λ r k low inside sure whole.
          agrees.begins r k low inside sure (ap is_right_half (sym (cell b r k)) ∙ whole);
      attrs = agrees.attrs;
      hidden = agrees.hidden;
      saved = agrees.saved;
      cursor = λ f. absurd (cc);
      calm = λ _ f. absurd (cc);
    }

pub row_wrapped_page : (page : Page) → IsSound page → page.row + 1 < length page.rows →
    (wrapped_page page).row ≡ page.row + 1
row_wrapped_page page sound below = ap (λ (p : Page). p.row) (wrapped_is page sound below)

-- ==== A glyph

pub glyph_is : (text : List ℕ) (wide : Bool) (a : Attrs) (o : CellValue) → is_right_half o ≡ false →
    IsGlyph (glyph_columns wide) o (glyph_cells text wide a)
glyph_is text false a o orphan =
    record { some = omega arith; size = refl; halves = λ k low high. absurd (omega arith); orphan = orphan }
glyph_is text true a o orphan = record {
  some = omega arith;
  size = refl;
  halves = λ k low high. let e : k ≡ 1 = omega (arith, low, high) in
      ap (λ (j : ℕ). is_right_half (at (glyph text true a ∷ right_half ∷ []) j)) e;
  orphan = orphan;
}

pub printed_agrees : (T : Terminal) (near torn : Positions) (shifted : Bool) (wrap : Wrap) (canvas : Canvas)
    (s t : T.State) (text : List ℕ) (wide : Bool) → IsSound canvas.page → Agrees T near torn shifted wrap canvas s →
    canvas.page.column + glyph_columns wide ≤ canvas.page.width →
    IsBoundary canvas.page.column (cursor_row canvas.page).cells →
    Printed T canvas.page.row canvas.page.column (glyph_columns wide) (glyph_cells text wide canvas.attrs) s t →
    Agrees T near (torn_after_print (glyph_columns wide) canvas.page torn) false
    (wrap_at (canvas.page.column + glyph_columns wide) canvas.page.width)
    (record canvas { page = glyph_put text wide canvas.attrs canvas.page }) t
printed_agrees T near torn shifted wrap canvas s t text false sound agrees fits boundary printed =
    put_agrees T near torn shifted wrap canvas s t 1 (glyph (0x20 ∷ []) false canvas.attrs)
    (glyph text false canvas.attrs ∷ []) sound agrees fits
    (glyph_is text false canvas.attrs (glyph (0x20 ∷ []) false canvas.attrs) refl) boundary printed
printed_agrees T near torn shifted wrap canvas s t text true sound agrees fits boundary printed =
    put_agrees T near torn shifted wrap canvas s t 2 (blank canvas.attrs)
    (glyph text true canvas.attrs ∷ right_half ∷ []) sound agrees fits
    (glyph_is text true canvas.attrs (blank canvas.attrs) refl) boundary printed

pub glyph_agrees : (T : Terminal) → Laws T →
    (near torn : Positions) (canvas : Canvas) (s t : T.State) (c : ℕ) (wide : Bool) →
    IsSound canvas.page → Agrees T near torn false NotPending canvas s →
    canvas.page.column + glyph_columns wide ≤ canvas.page.width → is_certain c ≡ true →
    columns_of c ≡ Some (glyph_columns wide) → IsBoundary canvas.page.column (cursor_row canvas.page).cells →
    T.Reads (Character c) s t →
    Agrees T near (torn_after_print (glyph_columns wide) canvas.page torn) false
    (wrap_at (canvas.page.column + glyph_columns wide) canvas.page.width)
    (record canvas { page = glyph_put (encode_utf8 c) wide canvas.attrs canvas.page }) t
glyph_agrees T laws near torn canvas s t c wide sound agrees fits certain columns boundary reads =
    let low = sound.row in
    let tall = agrees.height in
    let broad = agrees.width in
    printed_agrees T near torn false NotPending canvas s t (encode_utf8 c) wide sound agrees fits boundary
    (laws.prints s t canvas.page.row canvas.page.column c wide canvas.attrs
    (omega (arith, low, tall)) (omega (arith, fits, broad)) certain columns (agrees.cursor refl).1 agrees.attrs reads)
