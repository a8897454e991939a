-- After a script, all terminals agree on where the cursor is, except perhaps on a pending wrap.
use Rattle.std.proofs.Common.{◌≡◌, ℕ, zero, suc, ◌+◌, ◌-◌, ◌⊎◌, ◌&&◌, ◌||◌, ◌==◌, nat_lt, not, Bool, true, false, List}
use Rattle.std.proofs.Common.{[], ◌∷◌, ◌++◌, length, replicate, refl, inl, inr, sym, ap, ◌∙◌, arith}
use Rattle.std.specs.Prelude.{chars}
use Rattle.std.proofs.lemmas.Bool.{cond_both}
use Rattle.vt_cells.specs.Attrs.{Attrs, default_attrs, same_attrs}
use Rattle.vt_cells.specs.Cell.{CellValue}
use Rattle.vt_cells.specs.Op.{Op, ChangeAttrs, ClearAttrs, LineFeed, MoveRight, MoveTo, NextRow}
use Rattle.vt_cells.specs.Op.{cursor_move_ops}
use Rattle.vt_grid.specs.Canvas.{Canvas}
use Rattle.vt_redraw.specs.Certain.{are_certain, is_certain, is_certain_text}
use Rattle.vt_redraw.specs.Doubts.{Doubts}
use Rattle.vt_redraw.specs.Script.{attr_ops_in, change_ops, erase_run, move_ops, placed_op, resets, shifts}
use Rattle.vt_redraw.specs.Uses.{Graphic, doubts_after, doubts_after_op, doubts_after_text, canvas_after_print}
use Rattle.vt_redraw.specs.declared.form.Form.{Form}
use Rattle.vt_redraw.specs.declared.form.Form.TheVariants.{Fixed, Portable}
use Rattle.vt_redraw.specs.declared.pen.Pen.{Pen}
use Rattle.vt_terminals.specs.Room.{StrayFits, is_uncertain}
use Rattle.vt_terminals.specs.Terminal.{Positions}
use Rattle.vt_terminals.proofs.TidyParts.{IsOne}

-- Whether terminals may differ in where the cursor is after the operation.
abbrev pub shift_after : Op → Bool → Bool
shift_after (Op.MoveTo row col) b = false
shift_after (Op.MoveRight zero) b = b
shift_after (Op.MoveRight (suc n)) b = false
shift_after Op.NextRow b = false
shift_after Op.Backspace b = false
shift_after (Op.Print text) b = b || is_uncertain (chars text)
shift_after _ b = b

abbrev pub shifts_all : List Op → Bool → Bool
shifts_all [] b = b
shifts_all (op ∷ ops) b = shifts_all ops (shift_after op b)

text_shift : (cs : List ℕ) (doubts : Doubts) (canvas : Canvas) →
    (doubts_after_text cs doubts canvas).is_shifted ≡ (doubts.is_shifted || is_uncertain cs)
text_shift [] doubts canvas = or_false doubts.is_shifted where
  or_false : (b : Bool) → b ≡ (b || false)
  or_false true = refl
  or_false false = refl
text_shift (c ∷ cs) doubts canvas =
    text_shift cs (doubts_after (Graphic c) doubts canvas) (canvas_after_print c canvas)
    ∙ or_both doubts.is_shifted (not (is_certain c)) (is_uncertain cs)
  where
    or_both : (a b d : Bool) → ((a || b) || d) ≡ (a || (b || d))
    or_both true b d = refl
    or_both false b d = refl

pub op_shift : (op : Op) (doubts : Doubts) (canvas : Canvas) →
    (doubts_after_op op doubts canvas).is_shifted ≡ shift_after op doubts.is_shifted
op_shift (Op.Hide hidden) doubts canvas = refl
op_shift Op.ClearAttrs doubts canvas = refl
op_shift (Op.MoveTo row col) doubts canvas = refl
op_shift (Op.MoveRight zero) doubts canvas = refl
op_shift (Op.MoveRight (suc n)) doubts canvas = refl
op_shift Op.NextRow doubts canvas = refl
op_shift Op.LineFeed doubts canvas = refl
op_shift Op.Backspace doubts canvas = refl
op_shift Op.EraseBelow doubts canvas = refl
op_shift Op.EraseRest doubts canvas = refl
op_shift (Op.EraseChars zero) doubts canvas = refl
op_shift (Op.EraseChars (suc n)) doubts canvas = refl
op_shift Op.SaveCursor doubts canvas = refl
op_shift Op.RestoreCursor doubts canvas = refl
op_shift (Op.ChangeAttrs was new) doubts canvas =
    cond_both (same_attrs was new) doubts (record doubts { is_after_character = false })
    (λ (d : Doubts). d.is_shifted ≡ doubts.is_shifted) (λ _. refl) (λ _. refl)
op_shift (Op.Print text) doubts canvas = text_shift (chars text) doubts canvas

pub shifts_append : (xs ys : List Op) (b : Bool) → shifts_all (xs ++ ys) b ≡ shifts_all ys (shifts_all xs b)
shifts_append [] ys b = refl
shifts_append (x ∷ xs) ys b = shifts_append xs ys (shift_after x b)

-- Operations after others.
pub shifts_then : (xs ys : List Op) (a b c : Bool) → shifts_all xs a ≡ b → shifts_all ys b ≡ c →
    shifts_all (xs ++ ys) a ≡ c
shifts_then xs ys a b c h k = shifts_append xs ys a ∙ (ap (shifts_all ys) h ∙ k)

-- ---- parts of a script

right_shift : (n : ℕ) (b : Bool) → b ≡ false → shift_after (MoveRight n) b ≡ false
right_shift zero b e = e
right_shift (suc n) b e = refl

pub move_shift : (pen : Pen) (r c : ℕ) → shifts_all (move_ops pen r c) pen.is_shifted ≡ false
unfolding move_ops
move_shift pen r c =
    let b = pen.is_shifted in
    let P = λ (ops : List Op). shifts_all ops b ≡ false in
    cond_both b (MoveTo r c ∷ []) (cursor_move_ops pen.row pen.col r c) P (λ _. refl)
    (λ (e : b ≡ false). cond_both ((r == pen.row + 1) && (c == 0)) (NextRow ∷ []) _ P (λ _. refl)
    (λ _. cond_both ((r == pen.row) && nat_lt pen.col c) (MoveRight (c - pen.col) ∷ []) _ P
    (λ _. right_shift (c - pen.col) b e)
    (λ _. cond_both ((r == pen.row) && (c == pen.col)) [] (MoveTo r c ∷ []) P (λ _. e) (λ _. refl))))

pub attr_shift : (form : Form) (was new : Attrs) (b : Bool) → shifts_all (attr_ops_in form was new) b ≡ b
unfolding attr_ops_in
attr_shift form was new b =
    let P = λ (ops : List Op). shifts_all ops b ≡ b in
    cond_both (same_attrs was new) [] (change_ops form was new) P (λ _. refl)
    (λ _. cond_both (resets form was new) (ClearAttrs ∷ ChangeAttrs default_attrs new ∷ [])
    (ChangeAttrs was new ∷ []) P (λ _. refl) (λ _. refl))

pub placed_shift : (pen : Pen) (r c : ℕ) (attrs : Attrs) (op : Op) (b : Bool) → shift_after op false ≡ b →
    shifts_all (placed_op pen r c attrs op) pen.is_shifted ≡ b
placed_shift pen r c attrs op b h =
    shifts_then (move_ops pen r c) (attr_ops_in pen.form pen.attrs attrs ++ op ∷ []) pen.is_shifted false b
    (move_shift pen r c)
    (shifts_then (attr_ops_in pen.form pen.attrs attrs) (op ∷ []) false false b
    (attr_shift pen.form pen.attrs attrs false) h)

pub erase_shift : (form : Form) (n : ℕ) (zs : List CellValue) (b : Bool) → shift_after (erase_run form n zs) b ≡ b
erase_shift form n [] b = refl
erase_shift form n (z ∷ zs) b = refl

pub feeds_shift : (n : ℕ) (b : Bool) → shifts_all (replicate n LineFeed) b ≡ b
feeds_shift zero b = refl
feeds_shift (suc n) b = feeds_shift n b

pub one_certain : (text : List ℕ) (wide : Bool) → IsOne text wide → is_uncertain (chars text) ≡ false
one_certain text wide one =
    ap is_uncertain one.is ∙ ap (λ (b : Bool). not b || false) one.certain

not_certain : (cs : List ℕ) → is_uncertain cs ≡ true → are_certain cs ≡ false
not_certain [] h = refl
not_certain (c ∷ []) h = by_flag (is_certain c) h where
  by_flag : (b : Bool) → (not b || false) ≡ true → b ≡ false
  by_flag true h = absurd (cc)
  by_flag false h = refl
not_certain (c ∷ d ∷ cs) h = refl

-- After a certain glyph, terminals agree on the cursor's position.
pub one_unshifted : (form : Form) (text : List ℕ) (wide : Bool) → IsOne text wide → shifts form text ≡ false
one_unshifted Fixed text wide one = refl
one_unshifted Portable text wide one =
    let certain : is_certain_text text ≡ true = ap are_certain one.is ∙ one.certain in
    ap (λ (b : Bool). not ((length text == 1) || b)) certain ∙ grind arith

-- The pen knows whether terminals may differ in where the cursor is after a glyph.
pub text_shifts : (near : Positions) (width r c : ℕ) (text : List ℕ) (wide : Bool) →
    IsOne text wide ⊎ StrayFits near width r c text → is_uncertain (chars text) ≡ shifts Portable text
text_shifts near width r c text wide (inl one) =
    one_certain text wide one ∙ sym (one_unshifted Portable text wide one)
text_shifts near width r c text wide (inr fits) =
    fits.uncertain
    ∙ sym (ap (λ (b : Bool). not (b || is_certain_text text)) fits.long
    ∙ ap not (not_certain (chars text) fits.uncertain))

-- After the operations, the next pen knows whether terminals may differ in where the cursor is, if `pen` did before.
pub record Tracks (pen : Pen) (ops : List Op) (next : Pen) : Type 0 where
  pub flag : shifts_all ops pen.is_shifted ≡ next.is_shifted
  pub form : next.form ≡ Portable

pub tracks_then : (p q n : Pen) (xs ys : List Op) → Tracks p xs q → Tracks q ys n → Tracks p (xs ++ ys) n
tracks_then p q n xs ys h k =
    record { flag = shifts_then xs ys p.is_shifted q.is_shifted n.is_shifted h.flag k.flag; form = k.form }

pub tracks_nothing : (pen : Pen) → pen.form ≡ Portable → Tracks pen [] pen
tracks_nothing pen form = record { flag = refl; form = form }
