-- The operations that print a glyph or erase blanks are tidy.
use Rattle.std.proofs.Common.{◌≡◌, ℕ, suc, ◌+◌, ◌-◌, ◌<◌, ◌≤◌, ◌⊎◌, Bool, true, false, List, [], ◌∷◌, ◌++◌, length}
use Rattle.std.proofs.Common.{drop, refl, inl, inr, sym, ap, subst, ◌∙◌, arith, Some, Option}
use Rattle.std.specs.Prelude.{chars}
use Rattle.std.specs.Char.{encode_utf8}
use Rattle.std.specs.List.{AllByRecursion}
use Rattle.vt_cells.specs.Attrs.{Attrs}
use Rattle.vt_cells.specs.Cell.{CellValue, blank, glyph, right_half, is_right_half}
use Rattle.vt_cells.specs.Glyph.{glyph_columns, IsMark, columns_of}
use Rattle.vt_cells.specs.Op.{Op, Print}
use Rattle.vt_rows.specs.Cells.{at, cells_after_cut}
use Rattle.vt_rows.specs.Row.{RowValue}
use Rattle.vt_grid.specs.Canvas.{Canvas, and_then, drawn_all}
use Rattle.vt_grid.specs.Page.{cursor_row}
use Rattle.vt_redraw.specs.Script.{Scripted, attr_ops_in, move_ops, pen_at, placed_op}
use Rattle.vt_redraw.specs.Uses.{IsBoundary}
use Rattle.vt_redraw.specs.declared.pen.Pen.{Pen}
use Rattle.vt_redraw.proofs.Edits.{Reads, Within, at_pen, changing_draws, cursor_row_is, going_draws, mid, row_of, Spot}
use Rattle.vt_redraw.proofs.Edits.{glyph_put_here, put}
use Rattle.vt_redraw.proofs.Places.{at_after, rows_size}
use Rattle.vt_redraw.proofs.PortableParts.{at_behind}
use Rattle.vt_redraw.proofs.Texts.{Prints, Grows, next, print_draws}
use Rattle.vt_redraw.proofs.Touched.{some_same}
use Rattle.vt_terminals.specs.Laws.{IsOneGlyph}
use Rattle.vt_terminals.specs.Room.{StrayFits}
use Rattle.vt_terminals.specs.Terminal.{Positions}
use Rattle.vt_terminals.proofs.Agrees.{TidyTo, nowhere, tears, HasHead, IsStray}
use Rattle.vt_terminals.proofs.TidyParts.{stray_tidy, IsOne, changing_still, glyph_tidy, going_still, mark, still_tidy}
use Rattle.vt_terminals.proofs.TidyParts.{tidy_then}
use Rattle.vt_terminals.proofs.Agrees as agrees

-- A glyph is a single certain character, or an uncertain text that has room.
abbrev pub FineCell : (near : Positions) (width r c : ℕ) → CellValue → Type 0
FineCell near width r c (glyph text wide attrs) = IsOne text wide ⊎ StrayFits near width r c text
FineCell near width r c (blank attrs) = Unit {0}
FineCell near width r c right_half = Unit {0}

abbrev pub Fine : (near : Positions) (width r c : ℕ) → List CellValue → Type 0
Fine near width r c [] = Unit {0}
Fine near width r c (x ∷ xs) = FineCell near width r c x × Fine near width r (c + 1) xs

-- The output of `w` is tidy where the row has the cells `start`, and leaves nothing torn, if at most the positions in
-- `torn` are torn before.
abbrev pub Tidy : (near : Positions) → Scripted → Positions → Canvas → (done below : List RowValue) →
    (start : List CellValue) →
    (wrapped : Bool) → Pen → Type 0
Tidy near w torn base done below start wrapped pen =
    TidyTo near w.ops torn (mid base done below start wrapped pen) nowhere

-- An operation at a position.
pub doing_tidy : (near : Positions) (base : Canvas) (done below : List RowValue) (row : List CellValue) (wrapped : Bool)
    (r c height : ℕ)
    (pen : Pen) (attrs : Attrs) (op : Op) (torn left : Positions) → Reads base height base.page.width →
    length done ≡ r →
    r + suc (length below) ≡ height → c < base.page.width → Within pen height base.page.width →
    TidyTo near (op ∷ []) torn (mid base done below row wrapped (pen_at r c attrs)) left →
    TidyTo near (placed_op pen r c attrs op) torn (mid base done below row wrapped pen) left
doing_tidy near base done below row wrapped r c height pen attrs op torn left reads e h lt within go =
    let rows = done ++ row_of row wrapped ∷ below in
    tidy_then near (move_ops pen r c) (attr_ops_in pen.form pen.attrs attrs ++ op ∷ []) torn torn left
    (at_pen base rows pen)
    (at_pen base rows (pen_at r c pen.attrs)) (still_tidy near (move_ops pen r c) torn (at_pen base rows pen)
    (going_still pen r c))
    (going_draws base rows pen r c height base.page.width reads (rows_size done below (row_of row wrapped) r height e h)
    within (omega (arith, e, h)) lt)
    (tidy_then near (attr_ops_in pen.form pen.attrs attrs) (op ∷ []) torn torn left
    (at_pen base rows (pen_at r c pen.attrs))
    (at_pen base rows (pen_at r c attrs))
    (still_tidy near (attr_ops_in pen.form pen.attrs attrs) torn (at_pen base rows (pen_at r c pen.attrs))
    (changing_still pen.form pen.attrs attrs))
    (changing_draws pen.form base rows (pen_at r c pen.attrs) attrs) go)

-- The cell at a position of a row that is written.
pub cell_behind : (base : Canvas) (done below : List RowValue) (pre rest : List CellValue) (wrapped : Bool)
    (r c k j : ℕ)
    (attrs : Attrs) → length done ≡ r → length pre ≡ c → j ≡ c + k →
    at (cursor_row (mid base done below (pre ++ rest) wrapped (pen_at r c attrs)).page).cells j ≡ at rest k
cell_behind base done below pre rest wrapped r c k j attrs e l f =
    ap (λ (row : RowValue). at row.cells j) (cursor_row_is base done below (pre ++ rest) wrapped (pen_at r c attrs) e)
    ∙ at_behind pre rest c k j l f

torn_is : (wide : Bool) (o y : CellValue) (ys : List CellValue) →
    at (cells_after_cut o (y ∷ ys)) (glyph_columns wide) ≡ at (drop (glyph_columns wide - 1) ys) 0
torn_is false o y ys = at_after o y ys 0
torn_is true o y ys = at_after o y ys 1

opens_whole : (o y : CellValue) (ys : List CellValue) → is_right_half o ≡ false →
    is_right_half (at (cells_after_cut o (y ∷ ys)) 0) ≡ false
opens_whole o (blank a) ys f = refl
opens_whole o (glyph text wide a) ys f = refl
opens_whole o right_half ys f = f

-- A glyph is printed at a boundary of the row.
pub spot_tidy : (near : Positions) (base : Canvas) (done below : List RowValue) (pre : List CellValue) (o y : CellValue)
    (ys : List CellValue)
    (wrapped : Bool) (r c : ℕ) (text : List ℕ) (wide : Bool) (attrs : Attrs) (torn : Positions) (b : Bool) →
    is_right_half o ≡ false → length done ≡ r → length pre ≡ c → c + glyph_columns wide ≤ base.page.width →
    IsOne text wide → agrees.Within near torn (mark r c b) →
    TidyTo near (Print text ∷ []) torn (mid base done below (pre ++ cells_after_cut o (y ∷ ys)) wrapped
    (pen_at r c attrs))
    (mark r (c + glyph_columns wide) (is_right_half (at (drop (glyph_columns wide - 1) ys) 0)))
spot_tidy near base done below pre o y ys wrapped r c text wide attrs torn b whole e l fits one within =
    let canvas = mid base done below (pre ++ cells_after_cut o (y ∷ ys)) wrapped (pen_at r c attrs) in
    let boundary : IsBoundary c (cursor_row canvas.page).cells =
    ap is_right_half (cell_behind base done below pre (cells_after_cut o (y ∷ ys)) wrapped r c 0 c attrs e l
    (omega arith))
    ∙ opens_whole o y ys whole in
    let torn_cell : tears (glyph_columns wide) canvas.page ≡ is_right_half (at (drop (glyph_columns wide - 1) ys) 0) =
    ap is_right_half (cell_behind base done below pre (cells_after_cut o (y ∷ ys)) wrapped r c (glyph_columns wide)
    (c + glyph_columns wide) attrs e l refl ∙ torn_is wide o y ys) in
    subst (λ (t : Bool). TidyTo near (Print text ∷ []) torn canvas (mark r (c + glyph_columns wide) t)) torn_cell
    (glyph_tidy near canvas text wide b torn one fits boundary within)

head_of : (first : ℕ) (start : Bool) → columns_of first ≡ Some (glyph_columns start) →
    (n : ℕ) × (columns_of first ≡ Some (suc n))
head_of first true e = (1, e)
head_of first false e = (0, e)

marks_of : (width : ℕ) (wide : Bool) (text marks : List ℕ) (last : Bool) (whole : List ℕ) →
    Grows width wide text marks last whole → AllByRecursion IsMark marks
marks_of width wide text [] last whole h = tt
marks_of width wide text (m ∷ ms) last whole h =
    (h.0.0, marks_of width (next width wide text m) (text ++ encode_utf8 m) ms last whole h.1.1)

-- A text of uncertain width is printed at a boundary of the row.
pub stray_here : (near : Positions) (base : Canvas) (done below : List RowValue) (pre : List CellValue)
    (o y : CellValue)
    (ys : List CellValue) (wrapped : Bool) (r c : ℕ) (text : List ℕ) (wide : Bool) (attrs : Attrs) →
    is_right_half o ≡ false → Spot base done pre o y ys wrapped r c wide → Prints base.page.width text wide →
    StrayFits near base.page.width r c text →
    IsStray near (chars text) (mid base done below (pre ++ cells_after_cut o (y ∷ ys)) wrapped (pen_at r c attrs))
stray_here near base done below pre o y ys wrapped r c text wide attrs whole place prints fits =
    let canvas = mid base done below (pre ++ cells_after_cut o (y ∷ ys)) wrapped (pen_at r c attrs) in
    record {
      uncertain = fits.uncertain;
      head = subst HasHead (sym prints.is) (head_of prints.first prints.start prints.columns);
      glyph = subst IsOneGlyph (sym prints.is) (
        (prints.start, prints.columns),
        marks_of base.page.width prints.start (encode_utf8 prints.first) prints.marks wide text prints.grows,
      );
      room = fits.room;
      region = fits.region;
      text = text;
      wide = wide;
      boundary =
          ap is_right_half (cell_behind base done below pre (cells_after_cut o (y ∷ ys)) wrapped r c 0 c attrs place.row
          place.col (omega arith))
          ∙ opens_whole o y ys whole;
      put = λ next e.
          some_same next (put base done below pre ys wrapped r c text wide attrs)
          (sym (ap (λ (z : Option Canvas). and_then (drawn_all []) z) e)
          ∙ print_draws base done below pre o y ys wrapped r c text wide attrs prints place)
          ∙ sym (ap (λ (p : Rattle.vt_grid.specs.Page.Page). record canvas { page = p })
          (glyph_put_here base done below pre o y ys wrapped r c text wide attrs place));
    }

-- A glyph is printed at a boundary of the row, or a text of uncertain width that has room.
pub fine_tidy : (near : Positions) (base : Canvas) (done below : List RowValue) (pre : List CellValue) (o y : CellValue)
    (ys : List CellValue) (wrapped : Bool) (r c : ℕ) (text : List ℕ) (wide : Bool) (attrs : Attrs) (torn : Positions)
    (b : Bool) → is_right_half o ≡ false → Spot base done pre o y ys wrapped r c wide →
    c + glyph_columns wide ≤ base.page.width → Prints base.page.width text wide →
    IsOne text wide ⊎ StrayFits near base.page.width r c text → agrees.Within near torn (mark r c b) →
    TidyTo near (Print text ∷ []) torn (mid base done below (pre ++ cells_after_cut o (y ∷ ys)) wrapped
    (pen_at r c attrs))
    (mark r (c + glyph_columns wide) (is_right_half (at (drop (glyph_columns wide - 1) ys) 0)))
fine_tidy near base done below pre o y ys wrapped r c text wide attrs torn b whole place fits prints (inl one) within =
    spot_tidy near base done below pre o y ys wrapped r c text wide attrs torn b whole place.row place.col fits one
    within
fine_tidy near base done below pre o y ys wrapped r c text wide attrs torn b whole place fits prints (inr stray)
    within =
    stray_tidy near (mid base done below (pre ++ cells_after_cut o (y ∷ ys)) wrapped (pen_at r c attrs)) text b torn
    (mark r (c + glyph_columns wide) (is_right_half (at (drop (glyph_columns wide - 1) ys) 0)))
    (stray_here near base done below pre o y ys wrapped r c text wide attrs whole place prints stray) within
