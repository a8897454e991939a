-- Scripts restore the cursor only after they have saved it.
use Rattle.std.proofs.Common.{◌≡◌, ℕ, zero, suc, ◌+◌, ◌-◌, ◌==◌, ◌&&◌, ◌||◌, nat_lt, Bool, true, not, List, []}
use Rattle.std.proofs.Common.{◌∷◌, ◌++◌, length, drop, replicate, Option, Some, None, refl}
use Rattle.std.specs.Prelude.{if◌then◌else◌}
use Rattle.std.proofs.lemmas.Bool.{cond_both}
use Rattle.vt_cells.specs.Attrs.{default_attrs, same_attrs, same_bool, Attrs}
use Rattle.vt_cells.specs.Cell.{CellValue, blank, glyph, right_half, attrs_of, text_of, same_cell}
use Rattle.vt_cells.specs.Op.{Op, Hide, MoveTo, MoveRight, NextRow, LineFeed, EraseChars, ClearAttrs, cursor_move_ops}
use Rattle.vt_cells.specs.Op.{SaveCursor, RestoreCursor, ChangeAttrs, Print}
use Rattle.vt_cells.specs.Glyph.{glyph_columns}
use Rattle.vt_rows.specs.Cells.{at}
use Rattle.vt_rows.specs.Row.{RowValue}
use Rattle.vt_grid.specs.Page.{row_or}
use Rattle.vt_redraw.specs.declared.form.Form.{Form}
use Rattle.vt_redraw.specs.declared.form.Form.TheVariants.{Fixed, Portable}
use Rattle.vt_redraw.specs.declared.pen.Pen.{Pen}
use Rattle.vt_redraw.specs.Picture.{Picture}
use Rattle.vt_redraw.specs.Script.{move_ops, attr_ops, blank_run, erase_run, no_ops, ops_then, placed_op, back_op}
use Rattle.vt_redraw.specs.Script.{after_last_glyph, cells_written, is_at, last_column, last_glyph, pen_after, resets}
use Rattle.vt_redraw.specs.Script.{Scripted, no_link, first_written, starts_other, ops_then_link, row_link, attr_ops_in}
use Rattle.vt_redraw.specs.Script.{wrap_ops}
use Rattle.vt_redraw.specs.Script.{break_ops, row_break, wrapped_after_erasure, wrapped_after_glyph, pen_in, pen_past}
use Rattle.vt_redraw.specs.Redraw.{row_written, link_of, rows_below, rows_written, nearest, over_blank, under_last}
use Rattle.vt_redraw.specs.Redraw.{blank_passed, pending_at, cursor_written, pen_of, cursor_visibility_ops, difference}
use Rattle.vt_redraw.specs.Redraw.{blank_like, redraw, pending_alone, cursor_state, script_in, difference_in, redraw_in}
use Rattle.vt_redraw.specs.Script.{change_ops, erased_count}
use Rattle.vt_redraw.specs.Redraw.{strays}

-- Whether the cursor has been saved after an operation, given whether it was saved before.
abbrev pub saved_after : Bool → Op → Bool
saved_after saved SaveCursor = true
saved_after saved _ = saved

abbrev pub IsAllowed : Bool → Op → Type 0
IsAllowed saved RestoreCursor = saved ≡ true
IsAllowed saved _ = Unit {0}

-- The cursor is saved before each operation that restores it.
abbrev pub SavesFirst : Bool → List Op → Type 0
SavesFirst saved [] = Unit {0}
SavesFirst saved (op ∷ ops) = IsAllowed saved op × SavesFirst (saved_after saved op) ops

abbrev pub IsSafe : List Op → Type 0
IsSafe ops = (saved : Bool) → SavesFirst saved ops

saves_then : (xs ys : List Op) (saved : Bool) → SavesFirst saved xs → IsSafe ys → SavesFirst saved (xs ++ ys)
saves_then [] ys saved h k = k saved
saves_then (x ∷ xs) ys saved h k = (h.0, saves_then xs ys (saved_after saved x) h.1 k)

pub safe_append : (xs ys : List Op) → IsSafe xs → IsSafe ys → IsSafe (xs ++ ys)
safe_append xs ys h k saved = saves_then xs ys saved (h saved) k

going_safe : (pen : Pen) (r c : ℕ) → IsSafe (move_ops pen r c)
unfolding move_ops
going_safe pen r c =
    cond_both pen.is_shifted (MoveTo r c ∷ []) (cursor_move_ops pen.row pen.col r c) IsSafe (λ _. λ s. (tt, tt))
    (λ _. cond_both ((r == pen.row + 1) && (c == 0)) (NextRow ∷ []) _ IsSafe (λ _. λ s. (tt, tt))
    (λ _. cond_both ((r == pen.row) && nat_lt pen.col c) (MoveRight (c - pen.col) ∷ []) _ IsSafe (λ _. λ s. (tt, tt))
    (λ _. cond_both ((r == pen.row) && (c == pen.col)) [] (MoveTo r c ∷ []) IsSafe (λ _. λ s. tt)
    (λ _. λ s. (tt, tt)))))

pub changing_safe : (form : Form) (was new : Attrs) → IsSafe (attr_ops_in form was new)
unfolding attr_ops_in
changing_safe form was new =
    cond_both (same_attrs was new) [] (change_ops form was new) IsSafe (λ _. λ s. tt)
    (λ _. cond_both (resets form was new) (ClearAttrs ∷ ChangeAttrs default_attrs new ∷ [])
    (ChangeAttrs was new ∷ []) IsSafe (λ _. λ s. (tt, (tt, tt))) (λ _. λ s. (tt, tt)))

erase_run_safe : (form : Form) (n : ℕ) (xs : List CellValue) → IsSafe (erase_run form n xs ∷ [])
erase_run_safe form n [] s = (tt, tt)
erase_run_safe form n (x ∷ xs) s = (tt, tt)

doing_safe : (pen : Pen) (r c : ℕ) (attrs : Attrs) (op : Op) → IsSafe (op ∷ []) → IsSafe (placed_op pen r c attrs op)
doing_safe pen r c attrs op h =
    safe_append (move_ops pen r c) (attr_ops_in pen.form pen.attrs attrs ++ op ∷ []) (going_safe pen r c)
    (safe_append (attr_ops_in pen.form pen.attrs attrs) (op ∷ []) (changing_safe pen.form pen.attrs attrs) h)

feeds_safe : (n : ℕ) → IsSafe (replicate n LineFeed)
feeds_safe zero s = tt
feeds_safe (suc n) s = (tt, feeds_safe n s)

-- ---- rows

abbrev SafeWritten : Scripted → Type 0
SafeWritten w = IsSafe w.ops

cells_safe : (r c : ℕ) (pen : Pen) (wrapped : Bool) (k : ℕ) (xs ys : List CellValue) →
    SafeWritten (cells_written r c pen wrapped k xs ys)
unfolding cells_written
cells_safe r c pen wrapped k [] ys = λ s. tt
cells_safe r c pen wrapped k (x ∷ xs) [] = λ s. tt
cells_safe r c pen wrapped (suc k) (x ∷ xs) (y ∷ ys) = cells_safe r (c + 1) pen wrapped k xs ys
cells_safe r c pen wrapped zero (right_half ∷ xs) (y ∷ ys) = cells_safe r (c + 1) pen wrapped zero xs ys
cells_safe r c pen wrapped zero (blank a ∷ xs) (y ∷ ys) =
    let n = blank_run a xs in
    let op = erase_run pen.form (suc n) (drop n ys) in
    let rest = cells_written r (c + 1) (pen_in pen.form r c a) (wrapped_after_erasure wrapped (drop n ys)) n xs ys in
    cond_both (same_cell (blank a) y) (cells_written r (c + 1) pen wrapped zero xs ys)
    (ops_then (placed_op pen r c a op) rest) SafeWritten
    (λ _. cells_safe r (c + 1) pen wrapped zero xs ys)
    (λ _. safe_append (placed_op pen r c a op) rest.ops (doing_safe pen r c a op (erase_run_safe pen.form (suc n) (drop n ys)))
    (cells_safe r (c + 1) (pen_in pen.form r c a) (wrapped_after_erasure wrapped (drop n ys)) n xs ys))
cells_safe r c pen wrapped zero (glyph text wide a ∷ xs) (y ∷ ys) =
    let k = glyph_columns wide - 1 in
    let next = pen_past pen.form r (c + glyph_columns wide) a text in
    let now = wrapped_after_glyph wrapped wide (drop 1 ys) in
    let rest = cells_written r (c + 1) next now k xs ys in
    cond_both (same_cell (glyph text wide a) y) (cells_written r (c + 1) pen wrapped k xs ys)
    (ops_then (placed_op pen r c a (Print text)) rest) SafeWritten
    (λ _. cells_safe r (c + 1) pen wrapped k xs ys)
    (λ _. safe_append (placed_op pen r c a (Print text)) rest.ops (doing_safe pen r c a (Print text) (λ s. (tt, tt)))
    (cells_safe r (c + 1) next now k xs ys))

after_safe : (r : ℕ) (pen : Pen) (cells : List CellValue) → SafeWritten (after_last_glyph r pen cells)
after_safe r pen cells =
    let again : Scripted = record {
      ops = placed_op pen r (last_column cells) (attrs_of (last_glyph cells)) (Print (text_of (last_glyph cells)));
      pen = pen_after pen.form r cells;
      wrapped = true;
    } in
    cond_both (is_at pen r (length cells)) (no_ops pen true) again SafeWritten (λ _. λ s. tt)
    (λ _. doing_safe pen r (last_column cells) (attrs_of (last_glyph cells)) (Print (text_of (last_glyph cells)))
    (λ s. (tt, tt)))

space_safe : (form : Form) (r : ℕ) → IsSafe (Print (0x20 ∷ []) ∷ back_op form r 0 ∷ EraseChars 1 ∷ [])
space_safe Fixed r s = (tt, (tt, (tt, tt)))
space_safe Portable r s = (tt, (tt, (tt, tt)))

wrap_safe : (r : ℕ) (pen : Pen) → IsSafe (wrap_ops r pen)
wrap_safe r pen =
    cond_both pen.is_shifted (Print (0x20 ∷ []) ∷ MoveTo r 0 ∷ []) [] IsSafe (λ _. λ s. (tt, (tt, tt))) (λ _. λ s. tt)

first_safe : (r : ℕ) (pen : Pen) (wrapped : Bool) (xs ys : List CellValue) → IsSafe
    (first_written r pen wrapped xs ys).ops
first_safe r pen wrapped [] ys = λ s. tt
first_safe r pen wrapped (x ∷ xs) [] = λ s. tt
first_safe r pen wrapped (right_half ∷ xs) (y ∷ ys) = λ s. tt
first_safe r pen wrapped (blank a ∷ xs) (y ∷ ys) =
    safe_append (attr_ops_in pen.form pen.attrs a) (Print (0x20 ∷ []) ∷ back_op pen.form r 0 ∷ EraseChars 1 ∷ [])
    (changing_safe pen.form pen.attrs a) (space_safe pen.form r)
first_safe r pen wrapped (glyph text wide a ∷ xs) (y ∷ ys) =
    safe_append (attr_ops_in pen.form pen.attrs a) (wrap_ops r pen ++ Print text ∷ [])
    (changing_safe pen.form pen.attrs a)
    (safe_append (wrap_ops r pen) (Print text ∷ []) (wrap_safe r pen) (λ s. (tt, tt)))

linked_safe : (r : ℕ) (pen : Pen) (above : List CellValue) (wrapped_above wrapped : Bool) (xs ys : List CellValue) →
    IsSafe (row_link r pen above wrapped_above wrapped xs ys).ops
unfolding row_link
linked_safe r pen above wrapped_above wrapped xs ys =
    let w = after_last_glyph r pen above in
    cond_both (not wrapped_above || (is_at pen r (length above) && starts_other xs ys))
    (ops_then_link w.ops (first_written (r + 1) w.pen wrapped xs ys)) (no_link pen wrapped) (λ link. IsSafe link.ops)
    (λ _. safe_append w.ops (first_written (r + 1) w.pen wrapped xs ys).ops (after_safe r pen above)
    (first_safe (r + 1) w.pen wrapped xs ys))
    (λ _. λ s. tt)

broken_safe : (r : ℕ) (pen : Pen) (wrapped wanted : Bool) (cells : List CellValue) →
    SafeWritten (row_break r pen wrapped wanted cells)
unfolding row_break
broken_safe r pen wrapped wanted cells =
    let a = attrs_of (last_glyph cells) in
    let text = text_of (last_glyph cells) in
    let again : List Op = attr_ops_in pen.form pen.attrs a ++ Print text ∷ [] in
    cond_both (wrapped && not wanted) (break_ops r pen cells) (no_ops pen wrapped) SafeWritten
    (λ _. safe_append (move_ops pen r (last_column cells)) (EraseChars (erased_count pen.form (length cells - last_column cells)) ∷ again)
    (going_safe pen r (last_column cells))
    (λ s. (tt, safe_append (attr_ops_in pen.form pen.attrs a) (Print text ∷ []) (changing_safe pen.form pen.attrs a) (λ t. (tt, tt)) s)))
    (λ _. λ s. tt)

row_safe : (r k : ℕ) (pen : Pen) (wrapped : Bool) (x : RowValue) (ys : List CellValue) →
    SafeWritten (row_written r k pen wrapped x ys)
unfolding row_written
row_safe r k pen wrapped x ys =
    let w = cells_written r 0 pen wrapped k x.cells ys in
    safe_append w.ops (row_break r w.pen w.wrapped x.wrapped x.cells).ops (cells_safe r 0 pen wrapped k x.cells ys)
    (broken_safe r w.pen w.wrapped x.wrapped x.cells)

below_safe : (r : ℕ) (pen : Pen) (above : RowValue) (wrapped_above : Bool) (xs ys : List RowValue) →
    SafeWritten (rows_below r pen above wrapped_above xs ys)
unfolding rows_below
below_safe r pen above wrapped_above [] ys = λ s. tt
below_safe r pen above wrapped_above (x ∷ xs) [] = λ s. tt
below_safe r pen above wrapped_above (x ∷ xs) (y ∷ ys) =
    let link = link_of r pen above wrapped_above x y in
    let row = row_written (r + 1) link.settled link.pen link.wrapped x y.cells in
    let one : IsSafe link.ops =
    cond_both above.wrapped (row_link r pen above.cells wrapped_above y.wrapped x.cells y.cells) (no_link pen y.wrapped)
    (λ l. IsSafe l.ops) (λ _. linked_safe r pen above.cells wrapped_above y.wrapped x.cells y.cells) (λ _. λ s. tt) in
    safe_append (link.ops ++ row.ops) (rows_below (r + 1) row.pen x row.wrapped xs ys).ops
    (safe_append link.ops row.ops one (row_safe (r + 1) link.settled link.pen link.wrapped x y.cells))
    (below_safe (r + 1) row.pen x row.wrapped xs ys)

rows_safe : (pen : Pen) (xs ys : List RowValue) → SafeWritten (rows_written pen xs ys)
unfolding rows_written
rows_safe pen [] ys = λ s. tt
rows_safe pen (x ∷ xs) [] = λ s. tt
rows_safe pen (x ∷ xs) (y ∷ ys) =
    let row = row_written 0 0 pen y.wrapped x y.cells in
    safe_append row.ops (rows_below 0 row.pen x row.wrapped xs ys).ops (row_safe 0 0 pen y.wrapped x y.cells)
    (below_safe 0 row.pen x row.wrapped xs ys)

-- ---- the cursor

erased_safe : (form : Form) (r c : ℕ) (was attrs : Attrs) →
    IsSafe (SaveCursor ∷ back_op form r c ∷ EraseChars 1 ∷ RestoreCursor ∷ attr_ops_in form attrs was)
erased_safe Fixed r c was attrs s = (tt, (tt, (tt, (refl, changing_safe Fixed attrs was true))))
erased_safe Portable r c was attrs s = (tt, (tt, (tt, (refl, changing_safe Portable attrs was true))))

passed_safe : (form : Form) (r c : ℕ) (was attrs : Attrs) → IsSafe (blank_passed form r c was attrs)
passed_safe form r c was attrs s = (
  tt,
  safe_append (attr_ops_in form was attrs)
      (SaveCursor ∷ back_op form r c ∷ EraseChars 1 ∷ RestoreCursor ∷ attr_ops_in form attrs was)
      (changing_safe form was attrs) (erased_safe form r c was attrs) s,
)

over_safe : (pen : Pen) (r width : ℕ) (b : Attrs) → IsSafe (over_blank pen r width b)
unfolding over_blank
over_safe pen r width b =
    safe_append (move_ops pen r (width - 1)) (blank_passed pen.form r (width - 1) pen.attrs b) (going_safe pen r (width - 1))
    (passed_safe pen.form r (width - 1) pen.attrs b)

pending_safe : (found : Option ℕ) (pen : Pen) (width : ℕ) (rows : List RowValue) (r : ℕ) →
    IsSafe (pending_at found pen width rows r)
unfolding over_blank under_last
pending_safe None pen width rows r = over_safe pen r width (attrs_of (at (row_or width rows r).cells (width - 1)))
pending_safe (Some i) pen width rows r =
    let cells = (row_or width rows i).cells in
    let b = attrs_of (at (row_or width rows r).cells (width - 1)) in
    let w = after_last_glyph i pen cells in
    cond_both (strays pen.form w.pen.is_shifted && nat_lt i r) (over_blank pen r width b) (under_last pen i r cells) IsSafe
    (λ _. over_safe pen r width b)
    (λ _. safe_append w.ops (attr_ops_in pen.form w.pen.attrs pen.attrs ++ replicate (r - i) LineFeed)
    (after_safe i pen cells)
    (safe_append (attr_ops_in pen.form w.pen.attrs pen.attrs) (replicate (r - i) LineFeed)
    (changing_safe pen.form w.pen.attrs pen.attrs) (feeds_safe (r - i))))

cursor_safe : (pen : Pen) (width : ℕ) (rows : List RowValue) (r c : ℕ) → IsSafe (cursor_written pen width rows r c)
unfolding cursor_written
cursor_safe pen width rows r c =
    cond_both (nat_lt c width) (move_ops pen r c)
    (if is_at pen r c then [] else pending_at (nearest width rows r) pen width rows r) IsSafe (λ _. going_safe pen r c)
    (λ _. cond_both (is_at pen r c) [] (pending_at (nearest width rows r) pen width rows r) IsSafe (λ _. λ s. tt)
    (λ _. pending_safe (nearest width rows r) pen width rows r))

-- ---- whole pictures

script_safe : (form : Form) (self prev : Picture) → IsSafe (script_in form self prev)
unfolding script_in
script_safe form self prev =
    let w = rows_written (pen_of form prev) self.rows prev.rows in
    safe_append w.ops
    (cursor_written w.pen self.width self.rows self.row self.column ++ attr_ops_in form w.pen.attrs self.attrs)
    (rows_safe (pen_of form prev) self.rows prev.rows)
    (safe_append (cursor_written w.pen self.width self.rows self.row self.column) (attr_ops_in form w.pen.attrs self.attrs)
    (cursor_safe w.pen self.width self.rows self.row self.column) (changing_safe form w.pen.attrs self.attrs))

pub difference_safe_in : (form : Form) (self prev : Picture) → IsSafe (difference_in form self prev)
unfolding difference_in
difference_safe_in form self prev =
    safe_append (cursor_visibility_ops self prev) (script_in form self prev)
    (cond_both (same_bool self.hidden prev.hidden) [] (Hide self.hidden ∷ []) IsSafe (λ _. λ s. tt) (λ _. λ s. (tt, tt)))
    (script_safe form self prev)

pub difference_safe : (self prev : Picture) → IsSafe (difference self prev)
difference_safe = difference_safe_in Fixed

pub redraw_safe_in : (form : Form) (self : Picture) → IsSafe (redraw_in form self)
unfolding redraw_in
redraw_safe_in form self s = (tt, (tt, (tt, (tt, script_safe form self (blank_like self) s))))

pub redraw_safe : (self : Picture) → IsSafe (redraw self)
redraw_safe = redraw_safe_in Fixed

alone_safe : (found : Option ℕ) (width : ℕ) (rows : List RowValue) (r : ℕ) → IsSafe (pending_alone found width rows r)
alone_safe None width rows r s = (tt, passed_safe Fixed r (width - 1) default_attrs (attrs_of (at (row_or width rows r).cells (width - 1))) s)
alone_safe (Some i) width rows r s =
    let cells = (row_or width rows i).cells in
    let a = attrs_of (last_glyph cells) in (
      tt,
      safe_append (attr_ops default_attrs a)
          (Print (text_of (last_glyph cells)) ∷ (attr_ops a default_attrs ++ replicate (r - i) LineFeed))
          (changing_safe Fixed default_attrs a)
          (λ t. (
            tt,
            safe_append (attr_ops a default_attrs) (replicate (r - i) LineFeed) (changing_safe Fixed a default_attrs)
                (feeds_safe (r - i)) t,
          )) s,
    )

pub cursor_state_safe : (self : Picture) → IsSafe (cursor_state self)
unfolding cursor_state
cursor_state_safe self s =
    let alone = pending_alone (nearest self.width self.rows self.row) self.width self.rows self.row in (
      tt,
      cond_both (nat_lt self.column self.width) (MoveTo self.row self.column ∷ []) alone IsSafe
          (λ _. λ t. (tt, tt)) (λ _. alone_safe (nearest self.width self.rows self.row) self.width self.rows self.row) s,
    )
