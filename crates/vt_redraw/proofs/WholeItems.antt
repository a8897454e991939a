-- The item of a whole row draws the row, and makes it wrapped only if it must be.
use Rattle.std.proofs.Common.{◌≡◌, ℕ, suc, ◌+◌, ◌-◌, ◌<◌, ◌≤◌, ◌&&◌, Bool, true, false, not, List, [], ◌∷◌}
use Rattle.std.proofs.Common.{◌++◌, length, take, drop, Some, refl, sym, ap, ◌∙◌, subst, append-nil, arith}
use Rattle.std.specs.Prelude.{if◌then◌else◌}
use Rattle.std.proofs.lemmas.Bool.{cond_both}
use Rattle.std.proofs.lemmas.Bool.Decides.{nat_tests}
use Rattle.std.proofs.lemmas.List.{length-append, length-replicate, drop_all}
use Rattle.vt_cells.specs.Attrs.{default_attrs, Attrs}
use Rattle.vt_cells.specs.Cell.{CellValue, blank, glyph, right_half, default_blank}
use Rattle.vt_cells.specs.Op.{Print, Backspace, EraseChars}
use Rattle.vt_rows.specs.Cells.{blanks, cells_after_cut}
use Rattle.vt_rows.specs.Row.{RowValue}
use Rattle.vt_grid.specs.Canvas.{Canvas}
use Rattle.vt_cells.specs.Glyph.{glyph_columns}
use Rattle.vt_redraw.specs.Script.{pen_at, attr_ops}
use Rattle.vt_redraw.specs.declared.pen.Pen.{Pen}
use Rattle.vt_grid.proofs.Texts.{Draws}
use Rattle.vt_redraw.proofs.Edits.{Reads, Within, changing_draws, row_of, mid, two, two_mid, orphan, Spot, with_glyph}
use Rattle.vt_redraw.specs.Script.{Linked, Scripted, is_nil, ops_then, wrapped_after_glyph}
use Rattle.vt_redraw.specs.Script.{after_last_glyph, cells_written, first_written, row_break}
use Rattle.vt_redraw.specs.Items.{range_written, with_range, is_whole, marked_on, item_of_difference, linked_item}
use Rattle.vt_redraw.proofs.Halves.{Paired, paired_loose, paired_blanks, loose_step, opened_paired, ends, Sound}
use Rattle.vt_redraw.proofs.Texts.{space_prints, Prints}
use Rattle.vt_redraw.proofs.Touched.{DrawsIn, in_then, in_to, quiet_in, changing_quiet, print_in}
use Rattle.vt_redraw.proofs.Places.{PrintsCells, Place, shown, Ready, Wrote}
use Rattle.vt_redraw.proofs.Row.{cells_draw}
use Rattle.vt_redraw.proofs.Link.{broken_draws, going_after_draws}
use Rattle.vt_redraw.proofs.Ranges.{no_tail, Any, IsItem, range_draws, lets_any}
use Rattle.vt_redraw.proofs.Joining.{first_draws}
use Rattle.vt_redraw.proofs.Wrapping.{first_blank, first_sound, glyph_sound}
use Rattle.vt_redraw.proofs.Rows.{Stands}
use Rattle.vt_redraw.specs.declared.form.Form.TheVariants.{Fixed}

-- ---- items of a difference

pub range_all : (xs ys : List CellValue) (w : ℕ) → length xs ≡ w → length ys ≡ w → with_range 0 w xs ys ≡ xs
range_all xs ys w e f =
    let n : w - 0 ≡ length xs = omega arith in
    ap (λ (k : ℕ). take k xs ++ drop w ys) n
    ∙ (ap (λ (z : List CellValue). z ++ drop w ys) (take_whole xs)
    ∙ (ap (λ (z : List CellValue). xs ++ z) (drop_all w ys (omega arith)) ∙ append-nil xs))
  where
    take_whole : (zs : List CellValue) → take (length zs) zs ≡ zs
    take_whole [] = refl
    take_whole (z ∷ zs) = ap (λ (r : List CellValue). z ∷ r) (take_whole zs)

-- The row is drawn, and is wrapped only if it must be.
pub record DrewRow (w : Scripted) (base : Canvas) (done below : List RowValue)
    (start : Canvas) (x : RowValue) : Type 0 where
  pub draws : Draws w.ops start (mid base done below x.cells w.wrapped w.pen)
  pub keeps : w.wrapped ≡ true → x.wrapped ≡ true

pub whole_item_draws : (base : Canvas) (done below : List RowValue) (r height : ℕ) (x y : RowValue) →
    IsItem base done below r 0 base.page.width height x.cells y.cells →
    Stands base.page.width x → Stands base.page.width y →
    DrewRow (item_of_difference r 0 base.page.width x y) base done below
    (mid base done below y.cells y.wrapped (pen_at r 0 default_attrs)) x
whole_item_draws base done below r height x y item hx hy =
    let width = base.page.width in
    let start = mid base done below y.cells y.wrapped (pen_at r 0 default_attrs) in
    let w = range_written r 0 width y.wrapped x.cells y.cells in
    let b = row_break r w.pen w.wrapped x.wrapped x.cells in
    let full = ops_then w.ops b in
    let one = subst (λ (z : List CellValue). Wrote Any w base done below start z height)
    (range_all x.cells y.cells width hx.columns hy.columns)
    (range_draws base done below r 0 width height y.wrapped x.cells y.cells item hy.sound) in
    let two = broken_draws Any base done below x.cells w.wrapped x.wrapped r height w.pen item.reads
    item.above item.rows hx.columns hx.paired one.sound item.prints one.within (λ k low high. tt) in
    let both = in_then Any w.ops b.ops start (mid base done below x.cells w.wrapped w.pen)
    (mid base done below x.cells b.wrapped b.pen) one.draws two.draws in
    let columns_x = hx.columns in
    let t : is_whole 0 width (length x.cells) ≡ true = grind (arith, nat_tests) in
    subst (λ (t : Bool). DrewRow (if t then marked_on r full x.wrapped x.cells else w) base done below start x) (sym t)
    (cond_both (x.wrapped && not full.wrapped)
    (record {
      ops = full.ops ++ (after_last_glyph r full.pen x.cells).ops;
      pen = (after_last_glyph r full.pen x.cells).pen;
      wrapped = full.wrapped;
    })
    full (λ (v : Scripted). DrewRow v base done below start x)
    (λ (u : (x.wrapped && not full.wrapped) ≡ true).
    let goes = going_after_draws Any base done below x.cells full.wrapped r
    height full.pen item.reads item.above item.rows hx.columns hx.paired
    (hx.sound (and_true x.wrapped (not full.wrapped) u)) item.prints two.within (λ f k low high. tt) in
    let all = in_then Any full.ops (after_last_glyph r full.pen x.cells).ops
    start (mid base done below x.cells b.wrapped b.pen)
    (mid base done below x.cells full.wrapped (after_last_glyph r full.pen x.cells).pen) both goes.draws in
    record { draws = all.draws; keeps = two.keeps })
    (λ _. record { draws = both.draws; keeps = two.keeps }))
  where
    and_true : (a b : Bool) → (a && b) ≡ true → a ≡ true
    and_true true b h = refl
    and_true false b h = h

-- ---- items of a redraw after a wrapped row

-- The first cell of the row is drawn.
record Begins (j : Linked) (base : Canvas) (done below : List RowValue)
    (start : Canvas) (xs ys : List CellValue) (height : ℕ) : Type 0 where
  pub torn : CellValue
  pub draws : DrawsIn Any j.ops start (mid base done below (shown [] torn j.settled xs ys) j.wrapped j.pen)
  pub ready : Ready xs ys [] torn j.settled j.wrapped
  pub within : Within j.pen height base.page.width

begin_draws : (base : Canvas) (done below : List RowValue)
    (xs ys : List CellValue) (wrapped : Bool) (r height : ℕ) (b : Attrs) →
    base.page.origin ≡ false → length done ≡ r → r + suc (length below) ≡ height →
    length xs ≡ base.page.width → length ys ≡ base.page.width → 0 < base.page.width →
    Paired xs → Paired ys → Sound wrapped ys → PrintsCells base.page.width xs →
    Begins (first_written r (pen_at r 0 b) wrapped xs ys) base done
    below (mid base done below ys wrapped (pen_at r 0 b)) xs ys height
begin_draws base done below [] ys wrapped r height b origin e rows hx hy pos h k sound prints = absurd (omega arith)
begin_draws base done below (x ∷ xs) [] wrapped r height b origin e rows hx hy pos h k sound prints = absurd
    (omega arith)
begin_draws base done below (right_half ∷ xs) (y ∷ ys) wrapped r height b origin e rows hx hy pos h k sound
    prints = absurd h
begin_draws base done below (glyph text wide a ∷ xs) (y ∷ ys) wrapped r height b origin e rows hx hy pos h k
    sound prints =
    by_width wide xs ys h hx hy k sound prints
  where
    printed : (wide : Bool) (ys : List CellValue) → glyph_columns wide ≤ base.page.width →
        Paired (y ∷ ys) → Sound wrapped (y ∷ ys) → Prints base.page.width text wide →
        DrawsIn Any (attr_ops b a ++ Print text ∷ []) (mid base done below (y ∷ ys) wrapped (pen_at r 0 b))
        (mid base done below (with_glyph [] text wide a ys)
        (wrapped_after_glyph wrapped wide (drop 1 ys)) (pen_at r (0 + glyph_columns wide) a))
    printed wide ys fits k sound p =
        let whole = opened_paired default_blank (y ∷ ys) k in
        let d0 = mid base done below (y ∷ ys) wrapped (pen_at r 0 b) in
        let d1 = mid base done below (y ∷ ys) wrapped (pen_at r 0 a) in
        let goal = mid base done below (with_glyph [] text wide a ys)
        (wrapped_after_glyph wrapped wide (drop 1 ys)) (pen_at r (0 + glyph_columns wide) a) in
        let spot : Spot base done [] default_blank y ys wrapped r 0 wide =
        record {
          row = e;
          col = refl;
          fits = omega arith;
          front = tt;
          sound = subst (Sound wrapped)
              (sym whole) sound;
        } in
        in_then Any (attr_ops b a) (Print text ∷ []) d0 d1 goal
        (quiet_in Any (attr_ops b a) d0 d1 (changing_quiet Fixed b a)
        (changing_draws Fixed base (done ++ row_of (y ∷ ys) wrapped ∷ below) (pen_at r 0 b) a))
        (subst
        (λ (z : List CellValue). DrawsIn Any (Print text ∷ []) (mid base done below z wrapped (pen_at r 0 a))
        goal) whole
        (print_in Any base done below [] default_blank y ys wrapped r 0 text wide
        a p spot (record { first = tt; second = λ _. tt; torn = λ _. tt })))

    by_width : (wide : Bool) (xs ys : List CellValue) → Paired (glyph text wide a ∷ xs) →
        length (glyph text wide a ∷ xs) ≡ base.page.width → length (y ∷ ys) ≡ base.page.width →
        Paired (y ∷ ys) → Sound wrapped (y ∷ ys) → PrintsCells base.page.width (glyph text wide a ∷ xs) →
        Begins (first_written r (pen_at r 0 b) wrapped (glyph text wide a ∷ xs) (y ∷ ys)) base done below
        (mid base done below (y ∷ ys) wrapped (pen_at r 0 b)) (glyph text wide a ∷ xs) (y ∷ ys) height
    by_width false xs ys h hx hy k sound prints = record {
      torn = orphan false a;
      draws = printed false ys (omega arith) k sound prints.0;
      ready = record {
        same = omega arith;
        tail = no_tail (glyph text false a ∷ xs) (y ∷ ys) (hx ∙ sym hy);
        le = omega arith;
        behind = tt;
        new = h;
        old = loose_step y ys (paired_loose (y ∷ ys) k);
        sound = glyph_sound y ys wrapped text false a k sound;
      };
      within = record { row = omega arith; col = omega arith };
    }
    by_width true [] ys h hx hy k sound prints = absurd h
    by_width true (blank c ∷ xs) ys h hx hy k sound prints = absurd h
    by_width true (glyph other w c ∷ xs) ys h hx hy k sound prints = absurd h
    by_width true (right_half ∷ xs) [] h hx hy k sound prints = absurd (omega arith)
    by_width true (right_half ∷ xs) (y2 ∷ ys) h hx hy k sound prints = record {
      torn = orphan true a;
      draws = printed true (y2 ∷ ys) (omega arith) k sound prints.0;
      ready = record {
        same = omega arith;
        tail = no_tail (glyph text true a ∷ right_half ∷ xs) (y ∷ y2 ∷ ys) (hx ∙ sym hy);
        le = omega arith;
        behind = tt;
        new = h;
        old = loose_step y2 ys (loose_step y (y2 ∷ ys) (paired_loose (y ∷ y2 ∷ ys) k));
        sound = glyph_sound y (y2 ∷ ys) wrapped text true a k sound;
      };
      within = record { row = omega arith; col = omega arith };
    }
begin_draws base done below (blank a ∷ xs) (y ∷ ys) wrapped r height b origin e rows hx hy pos h k sound prints =
    let whole = opened_paired default_blank (y ∷ ys) k in
    let d0 = mid base done below (y ∷ ys) wrapped (pen_at r 0 b) in
    let d1 = mid base done below (y ∷ ys) wrapped (pen_at r 0 a) in
    let spaced =
    mid base done below (with_glyph [] (0x20 ∷ []) false a ys) (wrapped_after_glyph wrapped false (drop 1 ys))
    (pen_at r 1 a) in
    let goal = mid base done below (blank a ∷ cells_after_cut (orphan false a) ys) (wrapped && not (is_nil ys))
    (pen_at r 0 a) in
    let spot : Spot base done [] default_blank y ys wrapped r 0 false =
    record { row = e; col = refl; fits = omega arith; front = tt; sound = subst (Sound wrapped) (sym whole) sound } in
    record {
      torn = orphan false a;
      draws = in_then Any (attr_ops b a) (Print (0x20 ∷ []) ∷ Backspace ∷ EraseChars 1 ∷ []) d0 d1 goal
          (quiet_in Any (attr_ops b a) d0 d1 (changing_quiet Fixed b a)
          (changing_draws Fixed base (done ++ row_of (y ∷ ys) wrapped ∷ below) (pen_at r 0 b) a))
          (in_then Any (Print (0x20 ∷ []) ∷ []) (Backspace ∷ EraseChars 1 ∷ []) d1 spaced goal
          (subst (λ (z : List CellValue). DrawsIn Any (Print (0x20 ∷ []) ∷ [])
          (mid base done below z wrapped (pen_at r 0 a)) spaced)
          whole
          (print_in Any base done below [] default_blank y ys wrapped r 0 (0x20 ∷ []) false a
          (space_prints base.page.width pos) spot (record { first = tt; second = λ _. tt; torn = λ _. tt })))
          (first_blank Any Fixed base done below y ys wrapped r a origin e pos k sound tt));
      ready = record {
        same = omega arith;
        tail = no_tail (blank a ∷ xs) (y ∷ ys) (hx ∙ sym hy);
        le = omega arith;
        behind = tt;
        new = h;
        old = loose_step y ys (paired_loose (y ∷ ys) k);
        sound = first_sound y ys wrapped a k sound;
      };
      within = record { row = omega arith; col = omega arith };
    }

-- After the first cell, the other cells of the row are drawn.
rest_draws : (j : Linked) (base : Canvas) (done below : List RowValue)
    (start : Canvas) (xs ys : List CellValue) (r height : ℕ) →
    Reads base height base.page.width → length done ≡ r → r + suc (length below) ≡ height →
    length xs ≡ base.page.width → length ys ≡ base.page.width →
    PrintsCells base.page.width xs → Begins j base done below start xs ys height →
    Draws (j.ops ++ (cells_written r 0 j.pen j.wrapped j.settled xs ys).ops) start
    (mid base done below xs (cells_written r 0 j.pen j.wrapped j.settled xs ys).wrapped
    (cells_written r 0 j.pen j.wrapped j.settled xs ys).pen)
rest_draws j base done below start xs ys r height reads e rows hx hy prints begins =
    let w = cells_written r 0 j.pen j.wrapped j.settled xs ys in
    let place : Place base done below [] r 0 height (length ys) =
    record { reads = reads; above = e; rows = rows; before = refl; columns = omega arith } in
    let middle = mid base done below (shown [] begins.torn j.settled xs ys) j.wrapped j.pen in
    let drawn = cells_draw Any base done below xs ys [] begins.torn r 0 j.settled
    j.pen j.wrapped height place begins.ready prints begins.within (lets_any r 0 xs ys) in
    let none : xs ++ drop (length xs) ys ≡ xs =
    ap (λ (z : List CellValue). xs ++ z) (drop_all (length xs) ys (omega arith)) ∙ append-nil xs in
    let all = in_then Any j.ops w.ops start middle (mid base done below xs w.wrapped w.pen) begins.draws
    (subst (λ (z : List CellValue). DrawsIn Any w.ops middle (mid base done below z w.wrapped w.pen)) none
    drawn.draws) in
    all.draws

-- The item of a row below a wrapped row can be drawn with the cursor in the first column of a blank row.
pub linked_item_draws : (base : Canvas) (done below : List RowValue) (xs : List CellValue) (r height : ℕ) →
    Reads base height base.page.width → length done ≡ r → r + suc (length below) ≡ height →
    length xs ≡ base.page.width → Paired xs → PrintsCells base.page.width xs →
    Draws (linked_item r xs).ops
    (mid base done below (blanks default_attrs (length xs)) false (pen_at r 0 default_attrs))
    (mid base done below xs (linked_item r xs).wrapped (linked_item r xs).pen)
linked_item_draws base done below xs r height reads e rows hx h prints =
    let ys = blanks default_attrs (length xs) in
    let hy = length-replicate (length xs) default_blank ∙ hx in
    rest_draws (first_written r (pen_at r 0 default_attrs) false xs ys) base done below
    (mid base done below ys false (pen_at r 0 default_attrs)) xs ys r height reads e rows hx hy prints
    (begin_draws base done below xs ys false r height default_attrs reads.origin e rows hx hy
    reads.has_columns h (paired_blanks (length xs) default_attrs) (λ t. absurd (cc)) prints)

-- The output for the first cell doesn't depend on the pen's position.
first_alike : (r : ℕ) (pen other : Pen) (wrapped : Bool) (xs ys : List CellValue) → pen.form ≡ other.form → pen.attrs ≡
    other.attrs →
    pen.is_shifted ≡ other.is_shifted → 0 < length xs → 0 < length ys → Paired xs → first_written r pen wrapped xs ys ≡
    first_written r other wrapped xs ys
first_alike r pen other wrapped [] ys f e s n m h = absurd (omega arith)
first_alike r pen other wrapped (x ∷ xs) [] f e s n m h = absurd (omega arith)
first_alike r pen other wrapped (right_half ∷ xs) (y ∷ ys) f e s n m h = absurd h
first_alike r pen other wrapped (blank a ∷ xs) (y ∷ ys) f e s n m h = rw (f, e) refl
first_alike r pen other wrapped (glyph text wide a ∷ xs) (y ∷ ys) f e s n m h = rw (f, e, s) refl

-- The item of a row below a wrapped row can be drawn with a wrap pending after a glyph at the end of the row above,
-- which then becomes wrapped.
pub linked_item_wraps : (base : Canvas) (done below : List RowValue)
    (above xs : List CellValue) (wrapped_above : Bool) (r height : ℕ) →
    Reads base height base.page.width → length done ≡ r → r + suc (suc (length below)) ≡ height → ends above ≡ false →
    length xs ≡ base.page.width → Paired xs → PrintsCells base.page.width xs →
    Draws (linked_item (r + 1) xs).ops
    (two base done below above wrapped_above (blanks default_attrs (length xs)) false
    (pen_at r base.page.width default_attrs))
    (two base done below above true xs (linked_item (r + 1) xs).wrapped (linked_item (r + 1) xs).pen)
linked_item_wraps base done below above xs wrapped_above r height reads e rows full hx h prints =
    let ys = blanks default_attrs (length xs) in
    let hy = length-replicate (length xs) default_blank ∙ hx in
    let pos = reads.has_columns in
    let top = done ++ row_of above true ∷ [] in
    let n : length top ≡ r + 1 = let l = length-append done (row_of above true ∷ []) in omega arith in
    let start = two base done below above wrapped_above ys false (pen_at r base.page.width default_attrs) in
    let j = first_written (r + 1) (pen_at r base.page.width default_attrs) false xs ys in
    let alike = first_alike (r + 1) (pen_at r base.page.width default_attrs)
    (pen_at (r + 1) 0 default_attrs) false xs ys refl refl refl (omega arith) (omega arith) h in
    let joins = first_draws Any Fixed false base done below above xs ys wrapped_above false r height default_attrs
    reads.origin e reads.bottom rows hx hy pos full h (paired_blanks (length xs) default_attrs)
    (λ t. absurd (cc)) prints (lets_any (r + 1) 0 xs ys) tt (λ _. tt) in
    let begins : Begins j base top below start xs ys height = record {
      torn = joins.torn;
      draws =
          in_to Any j.ops start _ _ joins.draws
          (two_mid base done below above true (shown [] joins.torn j.settled xs ys) j.wrapped j.pen);
      ready = joins.ready;
      within = joins.within;
    } in
    let Goal : Linked → Type 0 =
    λ i. Draws (i.ops ++ (cells_written (r + 1) 0 i.pen i.wrapped i.settled xs ys).ops) start
    (mid base top below xs (cells_written (r + 1) 0 i.pen i.wrapped i.settled xs ys).wrapped
    (cells_written (r + 1) 0 i.pen i.wrapped i.settled xs ys).pen) in
    subst Goal alike (rest_draws j base top below start xs ys (r + 1) height reads n (omega arith) hx hy prints begins)
    ∙ ap Some (sym (two_mid base done below above true xs (linked_item (r + 1) xs).wrapped
    (linked_item (r + 1) xs).pen))
