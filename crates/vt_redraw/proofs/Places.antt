-- The position at which a row is written, the cells there, and the output written so far.
use Rattle.std.proofs.Common.{◌≡◌, ℕ, zero, suc, ◌-◌, ◌+◌, ◌<◌, ◌≤◌, ◌&&◌, ◌||◌, Bool, true, false, not, List, [], ◌∷◌, ◌++◌}
use Rattle.std.proofs.Common.{length, take, drop, min, Some, refl, sym, ap, ◌∙◌, subst, append_assoc, arith, inl, inr, ◌⊎◌}
use Rattle.std.proofs.lemmas.List.{length-append, length-drop}
use Rattle.std.specs.List.{AllByRecursion}
use Rattle.vt_cells.specs.Cell.{CellValue, blank, glyph, right_half, default_blank, is_right_half, is_blank}
use Rattle.vt_cells.specs.Op.{Op, EraseChars}
use Rattle.vt_cells.specs.Attrs.{Attrs}
use Rattle.vt_rows.specs.Cells.{at, blanks, cells_after_cut}
use Rattle.vt_rows.specs.Row.{RowValue}
use Rattle.vt_grid.specs.Canvas.{Canvas}
use Rattle.vt_redraw.specs.Script.{pen_at, move_ops, erase_run, attr_ops_in}
use Rattle.vt_redraw.specs.declared.pen.Pen.{Pen}
use Rattle.vt_grid.proofs.Texts.{Draws}
use Rattle.vt_redraw.proofs.Edits.{at_pen, Reads, Within, going_draws, changing_draws, row_of, mid, run_erased}
use Rattle.vt_redraw.proofs.Edits.{chars_erased}
use Rattle.vt_redraw.specs.Script.{Scripted, is_nil, is_torn, ops_then, placed_op, wrapped_after_erasure}
use Rattle.vt_redraw.proofs.Halves.{Paired, Loose, drop_opened, opened_paired, ends_append, ends_blanks, kept, Sound}
use Rattle.vt_redraw.proofs.Halves.{flag_step}
use Rattle.vt_redraw.proofs.Texts.{Prints}
use Rattle.vt_redraw.specs.Locality.{Changes, Touches}
use Rattle.vt_redraw.proofs.Touched.{DrawsIn, in_then, quiet_in, going_quiet, changing_quiet, changes_at}
use Rattle.std.proofs.lemmas.Bool.{cases_lt}
use Rattle.vt_redraw.specs.declared.form.Form.{Form}
use Rattle.vt_redraw.specs.declared.form.Form.TheVariants.{Fixed}
use Rattle.vt_redraw.specs.declared.form.Form.TheVariants.{Portable}

-- A glyph reproduces itself when printed on screens of the given width; cells of other kinds are drawn without text.
abbrev pub PrintsCell : ℕ → CellValue → Type 0
PrintsCell width (glyph text wide attrs) = Prints width text wide
PrintsCell width (blank attrs) = Unit {0}
PrintsCell width right_half = Unit {0}

abbrev pub PrintsCells : ℕ → List CellValue → Type 0
PrintsCells width cells = AllByRecursion (PrintsCell width) cells

-- The position is column c of row r, and `left` columns are left in the row.
pub record Place (base : Canvas) (done below : List RowValue)
    (pre : List CellValue) (r c height left : ℕ) : Type 0 where
  pub reads : Reads base height base.page.width
  pub above : length done ≡ r
  pub rows : r + suc (length below) ≡ height
  pub before : length pre ≡ c
  pub columns : c + left ≡ base.page.width

pub next_place : (base : Canvas) (done below : List RowValue)
    (pre : List CellValue) (x : CellValue) (r c height left : ℕ) →
    Place base done below pre r c height (suc left) → Place base done below (pre ++ x ∷ []) r (c + 1) height left
next_place base done below pre x r c height left at =
    let e = length-append pre (x ∷ []) in
    let before = at.before in
    let columns = at.columns in
    record { reads = at.reads; above = at.above; rows = at.rows; before = omega arith; columns = omega arith }

-- The terminal's row while it is written: the first k cells of the new row, followed by the cells displayed before, of
-- which an orphaned continuation cell is mended.
abbrev pub shown : List CellValue → CellValue → ℕ → List CellValue → List CellValue → List CellValue
shown pre o k xs ys = pre ++ (take k xs ++ cells_after_cut o (drop k ys))

-- The cells `xs` are to be written over `ys` after the cells `pre`, and the first k of them are written already.
pub record Ready (xs ys pre : List CellValue) (o : CellValue) (k : ℕ) (wrapped : Bool) : Type 0 where
  pub same : length xs ≤ length ys
  pub tail : Paired (drop (length xs) ys)
  pub le : k ≤ length xs
  pub behind : Paired (pre ++ take k xs)
  pub new : Paired (drop k xs)
  pub old : Loose (drop k ys)
  pub sound : Sound wrapped (shown pre o k xs ys)

pub ready_next : (x : CellValue) (xs ys pre : List CellValue) (o : CellValue) (k : ℕ) (wrapped : Bool) →
    length xs ≤ length ys → Paired (drop (length xs) ys) → k ≤ length xs → Paired (pre ++ x ∷ take k xs) →
    Paired (drop k xs) → Loose (drop k ys) →
    Sound wrapped (shown pre o (suc k) (x ∷ xs) (x ∷ ys)) → Ready xs ys (pre ++ x ∷ []) o k wrapped
ready_next x xs ys pre o k wrapped same tail le behind new old sound = record {
  same = same;
  tail = tail;
  le = le;
  behind = subst Paired (sym (append_assoc pre (x ∷ []) (take k xs))) behind;
  new = new;
  old = old;
  sound = subst (Sound wrapped) (sym (append_assoc pre (x ∷ []) (take k xs ++ cells_after_cut o (drop k ys)))) sound;
}

-- The operations draw the given cells in the row, and leave the wrapped flag and the pen as `w` says.
pub record Wrote (May : ℕ → ℕ → Type 0) (w : Scripted) (base : Canvas) (done below : List RowValue)
    (start : Canvas) (goal : List CellValue) (height : ℕ) : Type 0 where
  pub draws : DrawsIn May w.ops start (mid base done below goal w.wrapped w.pen)
  pub within : Within w.pen height base.page.width
  pub sound : Sound w.wrapped goal

pub wrote_after : (May : ℕ → ℕ → Type 0) (ops : List Op) (w : Scripted) (base : Canvas)
    (done below : List RowValue) (a b : Canvas) (goal : List CellValue) (height : ℕ) →
    DrawsIn May ops a b → Wrote May w base done below b goal height →
    Wrote May (ops_then ops w) base done below a goal height
wrote_after May ops w base done below a b goal height h k = record {
  draws = in_then May ops w.ops a b (mid base done below goal w.wrapped w.pen) h k.draws;
  within = k.within;
  sound = k.sound;
}

-- After one more cell is displayed, the same row can be split one column later.
pub shifted : (May : ℕ → ℕ → Type 0) (w : Scripted) (base : Canvas) (done below : List RowValue)
    (pre : List CellValue) (x : CellValue) (rest goal : List CellValue) (wrapped : Bool) (pen : Pen) (height : ℕ) →
    Wrote May w base done below (mid base done below ((pre ++ x ∷ []) ++ rest) wrapped pen)
    ((pre ++ x ∷ []) ++ goal) height →
    Wrote May w base done below (mid base done below (pre ++ x ∷ rest) wrapped pen) (pre ++ x ∷ goal) height
shifted May w base done below pre x rest goal wrapped pen height h =
    let P : List CellValue → List CellValue → Type 0 =
    λ a b. Wrote May w base done below (mid base done below a wrapped pen) b height in
    subst (λ a. P a (pre ++ x ∷ goal)) (append_assoc pre (x ∷ []) rest)
    (subst (λ b. P ((pre ++ x ∷ []) ++ rest) b) (append_assoc pre (x ∷ []) goal) h)

pub rows_size : (done below : List RowValue) (x : RowValue) (r height : ℕ) →
    length done ≡ r → r + suc (length below) ≡ height → length (done ++ x ∷ below) ≡ height
rows_size done below x r height e h = let l = length-append done (x ∷ below) in omega arith

-- The pen moves to a position in the row and changes its attributes, and one operation draws there.
pub doing_draws : (May : ℕ → ℕ → Type 0) (base : Canvas) (done below : List RowValue) (row : List CellValue)
    (wrapped : Bool) (r c height : ℕ) (pen : Pen) (attrs : Attrs) (op : Op) (goal : Canvas) →
    Reads base height base.page.width →
    length done ≡ r → r + suc (length below) ≡ height → c < base.page.width → Within pen height base.page.width →
    DrawsIn May (op ∷ []) (mid base done below row wrapped (pen_at r c attrs)) goal →
    DrawsIn May (placed_op pen r c attrs op) (mid base done below row wrapped pen) goal
doing_draws May base done below row wrapped r c height pen attrs op goal reads e h lt within draws =
    let rows = done ++ row_of row wrapped ∷ below in
    in_then May (move_ops pen r c) (attr_ops_in pen.form pen.attrs attrs ++ op ∷ [])
    (at_pen base rows pen) (at_pen base rows (pen_at r c pen.attrs)) goal
    (quiet_in May (move_ops pen r c) (at_pen base rows pen) (at_pen base rows (pen_at r c pen.attrs)) (going_quiet pen r c)
    (going_draws base rows pen r c height base.page.width reads
    (rows_size done below (row_of row wrapped) r height e h) within (omega arith) lt))
    (in_then May (attr_ops_in pen.form pen.attrs attrs) (op ∷ [])
    (at_pen base rows (pen_at r c pen.attrs)) (at_pen base rows (pen_at r c attrs)) goal
    (quiet_in May (attr_ops_in pen.form pen.attrs attrs) (at_pen base rows (pen_at r c pen.attrs))
    (at_pen base rows (pen_at r c attrs)) (changing_quiet pen.form pen.attrs attrs)
    (changing_draws pen.form base rows (pen_at r c pen.attrs) attrs))
    draws)

pub going_there : (May : ℕ → ℕ → Type 0) (base : Canvas) (done below : List RowValue)
    (row : List CellValue) (wrapped : Bool) (r c height : ℕ) (pen : Pen) →
    Reads base height base.page.width →
    length done ≡ r → r + suc (length below) ≡ height → c < base.page.width → Within pen height base.page.width →
    DrawsIn May (move_ops pen r c) (mid base done below row wrapped pen)
    (mid base done below row wrapped (pen_at r c pen.attrs))
going_there May base done below row wrapped r c height pen reads e h lt within =
    quiet_in May (move_ops pen r c) (mid base done below row wrapped pen)
    (mid base done below row wrapped (pen_at r c pen.attrs)) (going_quiet pen r c)
    (going_draws base (done ++ row_of row wrapped ∷ below) pen r c height base.page.width
    reads (rows_size done below (row_of row wrapped) r height e h) within (omega arith) lt)

-- ---- a run of blanks

-- The cell that is left of the second half of a wide glyph when its first half is erased.
abbrev pub second_left : Form → Attrs → CellValue
second_left Fixed a = default_blank
second_left Portable a = blank a

left_is_blank : (form : Form) (a : Attrs) → is_blank (second_left form a) ≡ true
left_is_blank Fixed a = refl
left_is_blank Portable a = refl

run_flag : (f n t q : Bool) → q ≡ true → (f && not ((n && true) || (t && q))) ≡ (f && not (n || t))
run_flag f n t q e = grind (arith, e)

pub run_flagged : (form : Form) (pre : List CellValue) (o y : CellValue) (ys : List CellValue) (wrapped : Bool) (n : ℕ)
    (attrs : Attrs) → Sound wrapped (pre ++ cells_after_cut o (y ∷ ys)) →
    kept wrapped (pre ++ (blanks attrs (suc n) ++ cells_after_cut (second_left form attrs) (drop n ys)))
    ≡ wrapped_after_erasure wrapped (drop n ys)
run_flagged form pre o y ys wrapped n attrs sound =
    flag_step pre (blanks attrs (suc n)) y ys (second_left form attrs) o n wrapped true
    (ends_append pre (blank attrs) (blanks attrs n) ∙ ends_blanks n attrs) sound
    ∙ run_flag wrapped (is_nil (drop n ys)) (is_torn (drop n ys)) (is_blank (second_left form attrs))
    (left_is_blank form attrs)

-- The run of the cell y and the n cells after it can be erased.
run_draws : (base : Canvas) (done below : List RowValue) (pre : List CellValue)
    (o y : CellValue) (ys : List CellValue) (wrapped : Bool) (r c n : ℕ) (attrs : Attrs) →
    length done ≡ r → length pre ≡ c → Paired pre →
    c + suc (length ys) ≡ base.page.width → n ≤ length ys → Sound wrapped (pre ++ cells_after_cut o (y ∷ ys)) →
    Draws (erase_run Fixed (suc n) (drop n ys) ∷ [])
    (mid base done below (pre ++ cells_after_cut o (y ∷ ys)) wrapped (pen_at r c attrs))
    (mid base done below (pre ++ (blanks attrs (suc n) ++ cells_after_cut default_blank (drop n ys)))
    (wrapped_after_erasure wrapped (drop n ys)) (pen_at r c attrs))
run_draws base done below pre o y ys wrapped r c n attrs e l h fits le sound =
    let pen = pen_at r c attrs in
    let row = λ (rest : List CellValue). pre ++ (blanks attrs (suc n) ++ cells_after_cut default_blank rest) in
    let d = length-drop n ys in
    run_erased base done below pre (cells_after_cut o (y ∷ ys)) (drop n ys) wrapped r c n attrs e l (omega arith) h
    ∙ (ap (λ (rest : List CellValue). Some (mid base done below (row rest) (kept wrapped (row rest)) pen))
    (drop_opened n o (y ∷ ys))
    ∙ ap (λ (f : Bool). Some (mid base done below (row (drop n ys)) f pen))
    (run_flagged Fixed pre o y ys wrapped n attrs sound))

at_drop : (n : ℕ) (ys : List CellValue) → at (drop n ys) 0 ≡ at ys n
at_drop zero ys = refl
at_drop (suc n) [] = refl
at_drop (suc n) (y ∷ ys) = at_drop n ys

pub at_after : (o y : CellValue) (ys : List CellValue) (n : ℕ) → at (cells_after_cut o (y ∷ ys)) (suc n) ≡ at (drop n ys) 0
at_after o (blank a) ys n = sym (at_drop n ys)
at_after o (glyph text wide a) ys n = sym (at_drop n ys)
at_after o right_half ys n = sym (at_drop n ys)

run_touches : (May : ℕ → ℕ → Type 0) (base : Canvas) (done below : List RowValue)
    (pre rest more : List CellValue) (wrapped : Bool) (r c n : ℕ) (attrs : Attrs) →
    c + (suc n + length more) ≡ base.page.width →
    Changes May c (suc n) (mid base done below (pre ++ rest) wrapped (pen_at r c attrs)).page →
    Touches May (erase_run Fixed (suc n) more ∷ []) (mid base done below (pre ++ rest) wrapped (pen_at r c attrs))
run_touches May base done below pre rest [] wrapped r c n attrs fits h =
    let page = (mid base done below (pre ++ rest) wrapped (pen_at r c attrs)).page in
    let m : base.page.width - c ≡ suc n = omega arith in
    (λ _. subst (λ (k : ℕ). Changes May c k page) (sym m) h, λ q e. tt)
run_touches May base done below pre rest (y ∷ more) wrapped r c n attrs fits h =
    let page = (mid base done below (pre ++ rest) wrapped (pen_at r c attrs)).page in
    let m : min (suc n) (base.page.width - c) ≡ suc n = omega arith in
    (λ _. subst (λ (k : ℕ). Changes May c k page) (sym m) h, λ q e. tt)

run_in_fixed : (May : ℕ → ℕ → Type 0) (base : Canvas) (done below : List RowValue) (pre : List CellValue)
    (o y : CellValue) (ys : List CellValue) (wrapped : Bool) (r c n : ℕ) (attrs : Attrs) →
    length done ≡ r → length pre ≡ c → Paired pre →
    c + suc (length ys) ≡ base.page.width → n ≤ length ys → Sound wrapped (pre ++ cells_after_cut o (y ∷ ys)) →
    ((k : ℕ) → c ≤ k → k < c + suc n → May r k) → (is_right_half (at (drop n ys) 0) ≡ true → May r (c + suc n)) →
    DrawsIn May (erase_run Fixed (suc n) (drop n ys) ∷ [])
    (mid base done below (pre ++ cells_after_cut o (y ∷ ys)) wrapped (pen_at r c attrs))
    (mid base done below (pre ++ (blanks attrs (suc n) ++ cells_after_cut default_blank (drop n ys)))
    (wrapped_after_erasure wrapped (drop n ys)) (pen_at r c attrs))
run_in_fixed May base done below pre o y ys wrapped r c n attrs e l h fits le sound inside behind =
    let d = length-drop n ys in
    record {
      draws = run_draws base done below pre o y ys wrapped r c n attrs e l h fits le sound;
      touches = run_touches May base done below pre (cells_after_cut o (y ∷ ys)) (drop n ys) wrapped r c n attrs
          (omega arith)
          (changes_at May base done below pre (cells_after_cut o (y ∷ ys)) wrapped r c (suc n) c attrs
          e l h inside (λ t. behind (sym (ap is_right_half (at_after o y ys n)) ∙ t)));
    }

-- ---- a run of blanks in either form

pub drop_next : (n : ℕ) (ys zs : List CellValue) (z : CellValue) → drop n ys ≡ z ∷ zs → drop (suc n) ys ≡ zs
drop_next zero [] zs z h = absurd cc
drop_next zero (y ∷ ys) zs z h = ap (drop 1) h
drop_next (suc n) [] zs z h = absurd cc
drop_next (suc n) (y ∷ ys) zs z h = drop_next n ys zs z h

blanks_then : (n : ℕ) (attrs : Attrs) (zs : List CellValue) →
    blanks attrs (suc n) ++ zs ≡ blanks attrs n ++ blank attrs ∷ zs
blanks_then zero attrs zs = refl
blanks_then (suc n) attrs zs = ap (λ (z : List CellValue). blank attrs ∷ z) (blanks_then n attrs zs)

same_run : (n : ℕ) (zs : List CellValue) → is_right_half (at zs 0) ≡ false →
    erase_run Fixed n zs ≡ erase_run Portable n zs
same_run n [] f = refl
same_run n (z ∷ zs) f = rw f refl

same_cut : (p q : CellValue) (zs : List CellValue) → is_right_half (at zs 0) ≡ false →
    cells_after_cut p zs ≡ cells_after_cut q zs
same_cut p q [] f = refl
same_cut p q (blank a ∷ zs) f = refl
same_cut p q (glyph text wide a ∷ zs) f = refl
same_cut p q (right_half ∷ zs) f = absurd cc

starts_half : (zs : List CellValue) → is_right_half (at zs 0) ≡ true → zs ≡ right_half ∷ drop 1 zs
starts_half [] t = absurd cc
starts_half (blank a ∷ zs) t = absurd cc
starts_half (glyph text wide a ∷ zs) t = absurd cc
starts_half (right_half ∷ zs) t = refl

pub paired_start : (zs : List CellValue) → Paired zs → is_right_half (at zs 0) ≡ false
paired_start [] h = refl
paired_start (blank a ∷ zs) h = refl
paired_start (glyph text wide a ∷ zs) h = refl
paired_start (right_half ∷ zs) h = absurd h

-- A run of blanks and the second half of a wide glyph after it are erased.
run_with_half : (May : ℕ → ℕ → Type 0) (base : Canvas) (done below : List RowValue) (pre : List CellValue)
    (o y : CellValue) (ys zs : List CellValue) (wrapped : Bool) (r c n : ℕ) (attrs : Attrs) →
    length done ≡ r → length pre ≡ c → Paired pre → c + suc (length ys) ≡ base.page.width →
    drop n ys ≡ right_half ∷ zs → Paired zs → Sound wrapped (pre ++ cells_after_cut o (y ∷ ys)) →
    ((k : ℕ) → c ≤ k → k < c + suc n → May r k) → May r (c + suc n) →
    DrawsIn May (EraseChars (suc n + 1) ∷ [])
    (mid base done below (pre ++ cells_after_cut o (y ∷ ys)) wrapped (pen_at r c attrs))
    (mid base done below (pre ++ (blanks attrs (suc n) ++ cells_after_cut (blank attrs) (drop n ys)))
    (wrapped_after_erasure wrapped (drop n ys)) (pen_at r c attrs))
run_with_half May base done below pre o y ys zs wrapped r c n attrs e l h fits is paired sound inside behind =
    let pen = pen_at r c attrs in
    let old = cells_after_cut o (y ∷ ys) in
    let start = mid base done below (pre ++ old) wrapped pen in
    let size = ap length is in
    let d = length-drop n ys in
    let rest : drop (suc n) ys ≡ zs = drop_next n ys zs right_half is in
    let count : suc (suc n) ≡ suc n + 1 = omega arith in
    let same : pre ++ (blanks attrs (suc (suc n)) ++ cells_after_cut default_blank (drop (suc (suc n)) old))
    ≡ pre ++ (blanks attrs (suc n) ++ cells_after_cut (blank attrs) (drop n ys)) =
    ap (λ (z : List CellValue). pre ++ (blanks attrs (suc (suc n)) ++ cells_after_cut default_blank z))
    (drop_opened (suc n) o (y ∷ ys) ∙ rest)
    ∙ (ap (λ (z : List CellValue). pre ++ (blanks attrs (suc (suc n)) ++ z)) (opened_paired default_blank zs paired)
    ∙ (ap (λ (z : List CellValue). pre ++ z) (blanks_then (suc n) attrs zs)
    ∙ ap (λ (z : List CellValue). pre ++ (blanks attrs (suc n) ++ cells_after_cut (blank attrs) z)) (sym is))) in
    let last : is_right_half (at old (suc (suc n))) ≡ false =
    ap is_right_half (at_after o y ys (suc n) ∙ ap (λ (z : List CellValue). at z 0) rest) ∙ paired_start zs paired in
    let wide : min (suc (suc n)) (base.page.width - c) ≡ suc (suc n) = omega (arith, size, d) in
    let changes = changes_at May base done below pre old wrapped r c (suc (suc n)) c attrs e l h
    (λ k low high. by_place k low high (cases_lt k (c + suc n)))
    (λ t. absurd (cc)) in
    subst (λ (m : ℕ). DrawsIn May (EraseChars m ∷ []) start
    (mid base done below (pre ++ (blanks attrs (suc n) ++ cells_after_cut (blank attrs) (drop n ys)))
    (wrapped_after_erasure wrapped (drop n ys)) pen)) count
    (record {
      draws =
          chars_erased base done below pre old wrapped r c (suc n) attrs e l (omega (arith, size, d)) h
          ∙ (ap (λ (z : List CellValue). Some (mid base done below z (kept wrapped z) pen)) same
          ∙ ap (λ (f : Bool). Some (mid base done below
          (pre ++ (blanks attrs (suc n) ++ cells_after_cut (blank attrs) (drop n ys))) f pen))
          (run_flagged Portable pre o y ys wrapped n attrs sound));
      touches = (λ _. subst (λ (k : ℕ). Changes May c k start.page) (sym wide) changes, λ q f. tt);
    })
  where
    by_place : (k : ℕ) → c ≤ k → k < c + suc (suc n) → (k < c + suc n) ⊎ (c + suc n ≤ k) → May r k
    by_place k low high (inl less) = inside k low less
    by_place k low high (inr more) = let same : c + suc n ≡ k = omega (arith, high, more) in subst (May r) same behind

-- The run of the cell y and the n cells after it can be erased.
pub run_in : (May : ℕ → ℕ → Type 0) (form : Form) (base : Canvas) (done below : List RowValue) (pre : List CellValue)
    (o y : CellValue) (ys : List CellValue) (wrapped : Bool) (r c n : ℕ) (attrs : Attrs) →
    length done ≡ r → length pre ≡ c → Paired pre →
    c + suc (length ys) ≡ base.page.width → n ≤ length ys → Loose (drop n ys) →
    Sound wrapped (pre ++ cells_after_cut o (y ∷ ys)) →
    ((k : ℕ) → c ≤ k → k < c + suc n → May r k) → (is_right_half (at (drop n ys) 0) ≡ true → May r (c + suc n)) →
    DrawsIn May (erase_run form (suc n) (drop n ys) ∷ [])
    (mid base done below (pre ++ cells_after_cut o (y ∷ ys)) wrapped (pen_at r c attrs))
    (mid base done below (pre ++ (blanks attrs (suc n) ++ cells_after_cut (second_left form attrs) (drop n ys)))
    (wrapped_after_erasure wrapped (drop n ys)) (pen_at r c attrs))
run_in May Fixed base done below pre o y ys wrapped r c n attrs e l h fits le loose sound inside behind =
    run_in_fixed May base done below pre o y ys wrapped r c n attrs e l h fits le sound inside behind
run_in May Portable base done below pre o y ys wrapped r c n attrs e l h fits le loose sound inside behind =
    by_half (is_right_half (at (drop n ys) 0)) refl
  where
    start : Canvas
    start = mid base done below (pre ++ cells_after_cut o (y ∷ ys)) wrapped (pen_at r c attrs)

    goal : List CellValue → Canvas
    goal z =
        mid base done below (pre ++ (blanks attrs (suc n) ++ z)) (wrapped_after_erasure wrapped (drop n ys))
        (pen_at r c attrs)

    by_half : (b : Bool) → is_right_half (at (drop n ys) 0) ≡ b →
        DrawsIn May (erase_run Portable (suc n) (drop n ys) ∷ []) start (goal (cells_after_cut (blank attrs) (drop n ys)))
    by_half false f =
        subst (λ (op : Op). DrawsIn May (op ∷ []) start (goal (cells_after_cut (blank attrs) (drop n ys))))
        (same_run (suc n) (drop n ys) f)
        (subst (λ (z : List CellValue). DrawsIn May (erase_run Fixed (suc n) (drop n ys) ∷ []) start (goal z))
        (same_cut default_blank (blank attrs) (drop n ys) f)
        (run_in_fixed May base done below pre o y ys wrapped r c n attrs e l h fits le sound inside behind))
    by_half true t =
        let is = starts_half (drop n ys) t in
        subst (λ (z : List CellValue). DrawsIn May (erase_run Portable (suc n) z ∷ []) start
        (goal (cells_after_cut (blank attrs) (drop n ys)))) (sym is)
        (run_with_half May base done below pre o y ys (drop 1 (drop n ys)) wrapped r c n attrs e l h fits is
        (subst Loose is loose) sound inside (behind t))
