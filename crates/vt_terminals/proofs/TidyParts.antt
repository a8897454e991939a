-- The parts of a script are tidy: moves, changes of attributes, glyphs and erased runs.
use Rattle.std.proofs.Common.{◌≡◌, ℕ, zero, suc, ◌+◌, ◌-◌, ◌<◌, ◌≤◌, ◌⊎◌, ◌&&◌, ◌||◌, ◌==◌, nat_lt, not, Bool, true}
use Rattle.std.proofs.Common.{false, List, [], ◌∷◌, ◌++◌, replicate, refl, inl, inr, sym, ap, subst, ◌∙◌, Option, Some}
use Rattle.std.proofs.Common.{None, arith}
use Rattle.std.specs.Prelude.{if◌then◌else◌, chars, nat_le}
use Rattle.std.proofs.lemmas.Bool.{and_from, and_parts, cond_both, eqb-true, le-leb, lt-ltb, or_cases}
use Rattle.vt_cells.specs.Attrs.{Attrs, default_attrs, same_attrs}
use Rattle.vt_cells.specs.Cell.{CellValue, is_right_half}
use Rattle.vt_cells.specs.Glyph.{columns_of, glyph_columns}
use Rattle.vt_cells.specs.Op.{Op, ChangeAttrs, ClearAttrs, LineFeed, MoveRight, MoveTo, NextRow}
use Rattle.vt_cells.specs.Op.{Print, cursor_move_ops}
use Rattle.vt_grid.specs.Canvas.{Canvas, and_then, drawn_all}
use Rattle.vt_grid.specs.Page.{Page, cursor_row}
use Rattle.vt_grid.specs.Printing.{room_made}
use Rattle.vt_grid.proofs.Texts.{Draws}
use Rattle.vt_redraw.specs.Certain.{is_certain}
use Rattle.vt_redraw.specs.Script.{attr_ops_in, change_ops, erase_run, move_ops, resets, run_count}
use Rattle.vt_redraw.specs.Uses.{IsBoundary}
use Rattle.vt_redraw.specs.declared.form.Form.{Form}
use Rattle.vt_redraw.specs.declared.form.Form.TheVariants.{Fixed, Portable}
use Rattle.vt_redraw.specs.declared.pen.Pen.{Pen}
use Rattle.vt_redraw.proofs.Edits.{room_is}
use Rattle.vt_redraw.proofs.Touched.{some_same}
use Rattle.vt_terminals.proofs.Agrees.{IsStray, torn_after_first, IsTidyOp, IsTidyText, TidyTo, Within, covers, nowhere}
use Rattle.vt_terminals.proofs.Agrees.{tears, torn_after, torn_after_columns, torn_after_print, torn_after_text}
use Rattle.vt_terminals.specs.Room.{is_uncertain}
use Rattle.vt_terminals.specs.Terminal.{Positions}

-- ==== Lists of operations

-- The position, if the flag is set.
abbrev pub mark : (row column : ℕ) → Bool → Positions
mark row column b r c = (r == row) && ((c == column) && b)

pub tidy_to : (near : Positions) (ops : List Op) (torn : Positions) (canvas : Canvas) (left more : Positions) →
    TidyTo near ops torn canvas left →
    Within near left more → TidyTo near ops torn canvas more
tidy_to near [] torn canvas left more h w = λ r c clear e. w r c clear (h r c clear e)
tidy_to near (op ∷ ops) torn canvas left more h w =
    (h.0, λ next e. tidy_to near ops (torn_after op torn canvas) next left more (h.1 next e) w)

-- Fewer torn positions before lead to fewer afterward.
fewer_kept : (s t x z : Bool) → (s ≡ true → t ≡ true) → ((s && x) || z) ≡ true → ((t && x) || z) ≡ true
fewer_kept true t x z h e = ap (λ (b : Bool). (b && x) || z) (h refl) ∙ e
fewer_kept false true true z h e = refl
fewer_kept false true false z h e = e
fewer_kept false false x z h e = e

fewer_left : (s t x : Bool) → (s ≡ true → t ≡ true) → (s && x) ≡ true → (t && x) ≡ true
fewer_left true t x h e = ap (λ (b : Bool). b && x) (h refl) ∙ e
fewer_left false t x h e = absurd (cc)

torn_fewer : (near : Positions) (op : Op) (s t : Positions) (canvas : Canvas) → Within near s t →
    Within near (torn_after op s canvas) (torn_after op t canvas)
torn_fewer near (Op.Hide hidden) s t canvas h = h
torn_fewer near Op.ClearAttrs s t canvas h = h
torn_fewer near (Op.MoveTo row col) s t canvas h = h
torn_fewer near (Op.MoveRight n) s t canvas h = h
torn_fewer near Op.NextRow s t canvas h = h
torn_fewer near Op.LineFeed s t canvas h = h
torn_fewer near Op.Backspace s t canvas h = h
torn_fewer near Op.EraseBelow s t canvas h = h
torn_fewer near Op.EraseRest s t canvas h = λ r c clear e.
    fewer_left (s r c) (t r c) (not (covers canvas.page.row canvas.page.column canvas.page.width r c)) (h r c clear) e
torn_fewer near (Op.EraseChars n) s t canvas h = λ r c clear e.
    fewer_left (s r c) (t r c) (not (covers canvas.page.row canvas.page.column n r c)) (h r c clear) e
torn_fewer near Op.SaveCursor s t canvas h = h
torn_fewer near Op.RestoreCursor s t canvas h = h
torn_fewer near (Op.ChangeAttrs was new) s t canvas h = h
torn_fewer near (Op.Print text) s t canvas h = by_text (chars text) where
  by_columns : (o : Option ℕ) → Within near (torn_after_columns o canvas.page s) (torn_after_columns o canvas.page t)
  by_columns None = h
  by_columns (Some n) = λ r c clear e.
      fewer_kept (s r c) (t r c) (not (covers (room_made n canvas.page).row (room_made n canvas.page).column n r c))
      ((r == (room_made n canvas.page).row) && ((c == (room_made n canvas.page).column + n)
      && tears n (room_made n canvas.page))) (h r c clear) e

  by_first : (cs : List ℕ) → Within near (torn_after_first cs canvas.page s) (torn_after_first cs canvas.page t)
  by_first [] = h
  by_first (c ∷ cs) = by_columns (columns_of c)

  by_test : (b : Bool) (cs : List ℕ) → Within near (if b then s else torn_after_first cs canvas.page s)
      (if b then t else torn_after_first cs canvas.page t)
  by_test true cs = h
  by_test false cs = by_first cs

  by_text : (cs : List ℕ) → Within near (torn_after_text cs canvas.page s) (torn_after_text cs canvas.page t)
  by_text cs = by_test (is_uncertain cs) cs

pub tidy_from : (near : Positions) (ops : List Op) (s t : Positions) (canvas : Canvas) (left : Positions) →
    Within near s t →
    TidyTo near ops t canvas left → TidyTo near ops s canvas left
tidy_from near [] s t canvas left w h = λ r c clear e. h r c clear (w r c clear e)
tidy_from near (op ∷ ops) s t canvas left w h = (
  h.0,
  λ next e. tidy_from near ops (torn_after op s canvas) (torn_after op t canvas) next left
      (torn_fewer near op s t canvas w) (h.1 next e),
)

pub tidy_then : (near : Positions) (xs ys : List Op) (torn middle left : Positions) (a b : Canvas) →
    TidyTo near xs torn a middle → Draws xs a b →
    TidyTo near ys middle b left → TidyTo near (xs ++ ys) torn a left
tidy_then near [] ys torn middle left a b h d k =
    subst (λ (q : Canvas). TidyTo near ys torn q left) (sym (some_same a b d))
    (tidy_from near ys torn middle b left h k)
tidy_then near (x ∷ xs) ys torn middle left a b h d k = (
  h.0,
  λ next e. tidy_then near xs ys (torn_after x torn a) middle left next b (h.1 next e)
      (sym (ap (λ (z : Option Canvas). and_then (drawn_all xs) z) e) ∙ d) k,
)

pub tidy_nothing : (near torn : Positions) (a : Canvas) → TidyTo near [] torn a torn
tidy_nothing near torn a = λ r c clear e. e

-- ---- operations that print and erase nothing

abbrev pub is_still : Op → Bool
is_still (Op.MoveTo row col) = true
is_still (Op.MoveRight n) = true
is_still Op.NextRow = true
is_still Op.LineFeed = true
is_still Op.Backspace = true
is_still Op.ClearAttrs = true
is_still (Op.ChangeAttrs was new) = true
is_still (Op.Hide hidden) = true
is_still Op.SaveCursor = true
is_still _ = false

abbrev pub AllStill : List Op → Type 0
AllStill [] = Unit {0}
AllStill (op ∷ ops) = (is_still op ≡ true) × AllStill ops

still_op : (near : Positions) (op : Op) (torn : Positions) (canvas : Canvas) → is_still op ≡ true →
    IsTidyOp near op canvas × (torn_after op torn canvas ≡ torn)
still_op near (Op.Hide hidden) torn canvas h = (tt, refl)
still_op near Op.ClearAttrs torn canvas h = (tt, refl)
still_op near (Op.MoveTo row col) torn canvas h = (tt, refl)
still_op near (Op.MoveRight n) torn canvas h = (tt, refl)
still_op near Op.NextRow torn canvas h = (tt, refl)
still_op near Op.LineFeed torn canvas h = (tt, refl)
still_op near Op.Backspace torn canvas h = (tt, refl)
still_op near Op.EraseBelow torn canvas h = absurd (cc)
still_op near Op.EraseRest torn canvas h = absurd (cc)
still_op near (Op.EraseChars n) torn canvas h = absurd (cc)
still_op near Op.SaveCursor torn canvas h = (tt, refl)
still_op near Op.RestoreCursor torn canvas h = absurd (cc)
still_op near (Op.ChangeAttrs was new) torn canvas h = (tt, refl)
still_op near (Op.Print text) torn canvas h = absurd (cc)

pub still_tidy : (near : Positions) (ops : List Op) (torn : Positions) (canvas : Canvas) → AllStill ops →
    TidyTo near ops torn canvas torn
still_tidy near [] torn canvas h = λ r c clear e. e
still_tidy near (op ∷ ops) torn canvas h =
    let one = still_op near op torn canvas h.0 in (
      one.0,
      λ next e. subst (λ (s : Positions). TidyTo near ops s next torn) (sym one.1) (still_tidy near ops torn next h.1),
    )

pub going_still : (pen : Pen) (r c : ℕ) → AllStill (move_ops pen r c)
unfolding move_ops
going_still pen r c =
    cond_both pen.is_shifted (MoveTo r c ∷ []) (cursor_move_ops pen.row pen.col r c) AllStill (λ _. (refl, tt))
    (λ _. cond_both ((r == pen.row + 1) && (c == 0)) (NextRow ∷ []) _ AllStill (λ _. (refl, tt))
    (λ _. cond_both ((r == pen.row) && nat_lt pen.col c) (MoveRight (c - pen.col) ∷ []) _ AllStill (λ _. (refl, tt))
    (λ _. cond_both ((r == pen.row) && (c == pen.col)) [] (MoveTo r c ∷ []) AllStill (λ _. tt) (λ _. (refl, tt)))))

pub changing_still : (form : Form) (was new : Attrs) → AllStill (attr_ops_in form was new)
unfolding attr_ops_in
changing_still form was new =
    cond_both (same_attrs was new) [] (change_ops form was new) AllStill (λ _. tt)
    (λ _. cond_both (resets form was new) (ClearAttrs ∷ ChangeAttrs default_attrs new ∷ [])
    (ChangeAttrs was new ∷ []) AllStill (λ _. (refl, (refl, tt))) (λ _. (refl, tt)))

pub feeds_still : (n : ℕ) → AllStill (replicate n LineFeed)
feeds_still zero = tt
feeds_still (suc n) = (refl, feeds_still n)

-- ==== Glyphs

-- The text is a single certain character of the given width.
pub record IsOne (text : List ℕ) (wide : Bool) : Type 0 where
  pub character : ℕ
  pub is : chars text ≡ character ∷ []
  pub certain : is_certain character ≡ true
  pub columns : columns_of character ≡ Some (glyph_columns wide)

pub one_torn : (text : List ℕ) (wide : Bool) (one : IsOne text wide) (page : Page) (torn : Positions) (r c : ℕ) →
    torn_after_text (chars text) page torn r c ≡ torn_after_print (glyph_columns wide)
    (room_made (glyph_columns wide) page) torn r c
one_torn text wide one page torn r c =
    ap (λ (cs : List ℕ). torn_after_text cs page torn r c) one.is
    ∙ (ap (λ (b : Bool). (if not b || false then torn else torn_after_columns (columns_of one.character) page torn) r c)
    one.certain
    ∙ ap (λ (o : Option ℕ). torn_after_columns o page torn r c) one.columns)

pub some_columns : (wide : Bool) → 0 < glyph_columns wide
some_columns true = omega arith
some_columns false = omega arith

-- Nothing that is torn at most at the cursor is torn after it is covered.
covered : (near torn : Positions) (row column n : ℕ) (b : Bool) (r c : ℕ) → 0 < n →
    Within near torn (mark row column b) →
    near r c ≡ false → torn r c ≡ true → covers row column n r c ≡ true
covered near torn row column n b r c some within clear e =
    let here = within r c clear e in
    let row_is = and_parts (r == row) ((c == column) && b) here in
    let column_is = and_parts (c == column) b row_is.1 in
    let same = eqb-true c column column_is.0 in
    and_from (r == row) (nat_le column c && nat_lt c (column + n)) row_is.0
    (and_from (nat_le column c) (nat_lt c (column + n)) (le-leb column c (omega (arith, same)))
    (lt-ltb c (column + n) (omega (arith, same, some))))

pub print_leaves : (near torn : Positions) (row column n : ℕ) (b t : Bool) → 0 < n →
    Within near torn (mark row column b) →
    (r c : ℕ) → near r c ≡ false → ((torn r c && not (covers row column n r c)) ||
    ((r == row) && ((c == column + n) && t))) ≡ true →
    mark row (column + n) t r c ≡ true
print_leaves near torn row column n b t some within r c clear e =
    by_cases (or_cases (torn r c && not (covers row column n r c)) ((r == row) && ((c == column + n) && t)) e)
  where
    by_cases : ((torn r c && not (covers row column n r c)) ≡ true) ⊎ (((r == row) && ((c == column + n) && t)) ≡ true)
        →
        mark row (column + n) t r c ≡ true
    by_cases (inr h) = h
    by_cases (inl h) =
        let both = and_parts (torn r c) (not (covers row column n r c)) h in
        let over = covered near torn row column n b r c some within clear both.0 in
        let none : not true ≡ true = ap not (sym over) ∙ both.1 in absurd (cc)

pub erasure_leaves : (near torn : Positions) (row column n : ℕ) (b : Bool) → 0 < n →
    Within near torn (mark row column b) →
    Within near (λ r c. torn r c && not (covers row column n r c)) nowhere
erasure_leaves near torn row column n b some within r c clear h =
    let both = and_parts (torn r c) (not (covers row column n r c)) h in
    let over = covered near torn row column n b r c some within clear both.0 in ap not (sym over) ∙ both.1

-- A glyph that is printed where a cell begins is tidy, and leaves torn at most the cell after it.
pub glyph_tidy : (near : Positions) (canvas : Canvas) (text : List ℕ) (wide : Bool) (b : Bool) (torn : Positions) →
    IsOne text wide → canvas.page.column + glyph_columns wide ≤ canvas.page.width →
    IsBoundary canvas.page.column (cursor_row canvas.page).cells →
    Within near torn (mark canvas.page.row canvas.page.column b) →
    TidyTo near (Print text ∷ []) torn canvas
    (mark canvas.page.row (canvas.page.column + glyph_columns wide) (tears (glyph_columns wide) canvas.page))
glyph_tidy near canvas text wide b torn one fits boundary within = (
  subst (λ (cs : List ℕ). IsTidyText near cs canvas) (sym one.is) (inl (wide, (one.certain, (one.columns, boundary)))),
  λ next e r c clear h. print_leaves near torn canvas.page.row canvas.page.column (glyph_columns wide) b
      (tears (glyph_columns wide) canvas.page) (some_columns wide) within r c clear
      (ap (λ (p : Page). torn_after_print (glyph_columns wide) p torn r c)
      (sym (room_is (glyph_columns wide) canvas.page fits))
      ∙ (sym (one_torn text wide one canvas.page torn r c) ∙ h)),
)

-- A run of blanks is erased at the cursor.
pub erasing_tidy : (near : Positions) (canvas : Canvas) (form : Form) (n : ℕ) (zs : List CellValue) (b : Bool)
    (torn : Positions) → 0 < canvas.page.width → Within near torn (mark canvas.page.row canvas.page.column b) →
    TidyTo near (erase_run form (suc n) zs ∷ []) torn canvas nowhere
erasing_tidy near canvas form n [] b torn some within =
    (tt, λ next e. erasure_leaves near torn canvas.page.row canvas.page.column canvas.page.width b some within)
erasing_tidy near canvas form n (z ∷ zs) b torn some within = (
  tt,
  λ next e. erasure_leaves near torn canvas.page.row canvas.page.column (run_count form (suc n) z) b
      (counts form (is_right_half z)) within,
)
  where
    counts : (form : Form) (h : Bool) → 0 < run_count form (suc n) z
    counts Fixed h = omega arith
    counts Portable h = cond_both (is_right_half z) (suc n + 1) (suc n) (λ (k : ℕ). 0 < k) (λ _. omega arith)
        (λ _. omega arith)

-- ==== Glyphs of uncertain width

-- Nothing that is not near is torn after the text.
pub stray_tidy : (near : Positions) (canvas : Canvas) (text : List ℕ) (b : Bool) (torn left : Positions) →
    IsStray near (chars text) canvas → Within near torn (mark canvas.page.row canvas.page.column b) →
    TidyTo near (Print text ∷ []) torn canvas left
stray_tidy near canvas text b torn left stray within = (
  inr stray,
  λ next e r c clear h.
      let kept : torn_after_text (chars text) canvas.page torn r c ≡ torn r c =
      ap (λ (b : Bool). (if b then torn else torn_after_first (chars text) canvas.page torn) r c) stray.uncertain in
      let here = within r c clear (sym kept ∙ h) in
      let row_is = and_parts (r == canvas.page.row) ((c == canvas.page.column) && b) here in
      let column_is = and_parts (c == canvas.page.column) b row_is.1 in
      let row = eqb-true r canvas.page.row row_is.0 in
      let column = eqb-true c canvas.page.column column_is.0 in
      let is_near = stray.region c (omega (arith, column)) (omega (arith, column)) in
      let clash : true ≡ false = sym is_near ∙ (ap (λ (i : ℕ). near i c) (sym row) ∙ clear) in absurd (cc),
)
