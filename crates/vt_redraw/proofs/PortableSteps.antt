-- Portable lists of operations, the doubts that they leave, and the text of a steady glyph.
use Rattle.std.proofs.Common.{◌≡◌, ℕ, zero, suc, ◌+◌, ◌-◌, ◌<◌, ◌==◌, ◌&&◌, ◌||◌, nat_lt, not, Bool, true, false, List}
use Rattle.std.proofs.Common.{[], ◌∷◌, ◌++◌, length, Option, Some, refl, sym, ap, ◌∙◌, subst, arith, inl, ◌≤◌, drop}
use Rattle.std.proofs.Common.{None}
use Rattle.std.specs.Prelude.{if◌then◌else◌, chars}
use Rattle.std.proofs.lemmas.Bool.{cond_both, and_parts, eqb-true, ltb-true, ne_eqb}
use Rattle.std.specs.Char.{encode_utf8}
use Rattle.vt_cells.specs.Attrs.{default_attrs, same_attrs, same_intensity, Attrs}
use Rattle.vt_cells.specs.Glyph.{columns_of, glyph_columns, has_room}
use Rattle.vt_cells.specs.Op.{Op, ClearAttrs, MoveTo, MoveRight, NextRow, EraseRest, EraseChars, ChangeAttrs, Print}
use Rattle.vt_cells.specs.Op.{cursor_move_ops}
use Rattle.vt_cells.specs.declared.attrs.Intensity.{Intensity}
use Rattle.vt_cells.specs.declared.attrs.Intensity.TheVariants.{Normal, Bold, Dim}
use Rattle.vt_cells.specs.Cell.{CellValue}
use Rattle.vt_rows.specs.Cells.{cells_after_cut}
use Rattle.vt_rows.specs.Row.{RowValue}
use Rattle.vt_grid.specs.Canvas.{Canvas, and_then, canvas_after_op, drawn_all, drawn_char}
use Rattle.vt_grid.specs.Page.{cursor_row}
use Rattle.vt_grid.specs.Printing.{carries, page_after_print, pushes}
use Rattle.vt_grid.proofs.Texts.{Draws, draws_then}
use Rattle.vt_redraw.specs.Certain.{is_certain}
use Rattle.vt_redraw.specs.Doubts.{Doubts, IsPlaced, NotPending, no_doubts, wrap_at}
use Rattle.vt_redraw.specs.Uses.{IsPortableOp, PortableOps, PortableText, canvas_after_print, change_intensities}
use Rattle.vt_redraw.specs.Uses.{doubts_after_op, doubts_after_text, Graphic, Sgr, HasColumns, IsBoundary}
use Rattle.vt_redraw.specs.Uses.{IsPortableCharacter, IsPortableUse, KeepsApart, doubts_after, may_print, piles_up}
use Rattle.vt_redraw.specs.Script.{wrapped_after_glyph}
use Rattle.vt_redraw.proofs.Touched.{some_same}
use Rattle.vt_redraw.proofs.Edits.{orphan, Spot, first_drawn, put, rest_after, spot}
use Rattle.vt_redraw.proofs.Texts.{grows_le, mark_drawn, wider_spot, Grows, Prints, mark_column_is, marked_cell, next}
use Rattle.vt_redraw.proofs.Texts.{stays}

-- ==== Portable lists of operations, the doubts that they leave, and the parts of a script that are portable.

-- ---- lists of operations

-- If terminals differ as `doubts` says, and otherwise display the canvas, they differ as `left` says after the output of
-- the operations.
abbrev pub Leaves : List Op → Doubts → Canvas → Doubts → Type 0
Leaves [] doubts canvas left = doubts ≡ left
Leaves (op ∷ ops) doubts canvas left =
    (next : Canvas) → canvas_after_op op canvas ≡ Some next → Leaves ops (doubts_after_op op doubts canvas) next left

-- The operations turn canvas a into canvas b. If terminals differ as `doubts` says, they agree on the effect of the
-- output, and differ as `left` says afterward.
pub record DrawsPortably (ops : List Op) (doubts : Doubts) (a : Canvas) (left : Doubts) (b : Canvas) : Type 0 where
  pub draws : Draws ops a b
  pub portable : PortableOps ops doubts a
  pub leaves : Leaves ops doubts a left

pub portable_then : (xs ys : List Op) (doubts middle : Doubts) (a b : Canvas) → PortableOps xs doubts a → Draws xs a b →
    Leaves xs doubts a middle → PortableOps ys middle b → PortableOps (xs ++ ys) doubts a
portable_then [] ys doubts middle a b p d l q =
    subst (λ (z : Doubts). PortableOps ys z a) (sym l) (subst (PortableOps ys middle) (sym (some_same a b d)) q)
portable_then (x ∷ xs) ys doubts middle a b p d l q = (
  p.0,
  λ next e. portable_then xs ys (doubts_after_op x doubts a) middle next b (p.1 next e)
      (sym (ap (λ (z : Option Canvas). and_then (drawn_all xs) z) e) ∙ d) (l next e) q,
)

pub leaves_then : (xs ys : List Op) (doubts middle left : Doubts) (a b : Canvas) → Draws xs a b →
    Leaves xs doubts a middle → Leaves ys middle b left → Leaves (xs ++ ys) doubts a left
leaves_then [] ys doubts middle left a b d l m =
    subst (λ (z : Doubts). Leaves ys z a left) (sym l)
    (subst (λ (z : Canvas). Leaves ys middle z left) (sym (some_same a b d)) m)
leaves_then (x ∷ xs) ys doubts middle left a b d l m =
    λ next e. leaves_then xs ys (doubts_after_op x doubts a) middle left next b
    (sym (ap (λ (z : Option Canvas). and_then (drawn_all xs) z) e) ∙ d) (l next e) m

pub portably_then : (xs ys : List Op) (doubts middle left : Doubts) (a b c : Canvas) →
    DrawsPortably xs doubts a middle b → DrawsPortably ys middle b left c → DrawsPortably (xs ++ ys) doubts a left c
portably_then xs ys doubts middle left a b c h k = record {
  draws = draws_then xs ys a b c h.draws k.draws;
  portable = portable_then xs ys doubts middle a b h.portable h.draws h.leaves k.portable;
  leaves = leaves_then xs ys doubts middle left a b h.draws h.leaves k.leaves;
}

pub portably_nothing : (doubts : Doubts) (a : Canvas) → DrawsPortably [] doubts a doubts a
portably_nothing doubts a = record { draws = refl; portable = tt; leaves = refl }

pub portably_one : (op : Op) (doubts : Doubts) (a b : Canvas) → Draws (op ∷ []) a b → IsPortableOp op doubts a →
    DrawsPortably (op ∷ []) doubts a (doubts_after_op op doubts a) b
portably_one op doubts a b d p = record { draws = d; portable = (p, λ next e. tt); leaves = λ next e. refl }

-- ---- moves

-- Terminals agree on the effect of the operations, which leave the cursor at the same position on all of them, with no
-- wrap pending.
pub record Places (ops : List Op) (doubts : Doubts) (canvas : Canvas) : Type 0 where
  pub left : Doubts
  pub placed : IsPlaced left
  pub portable : PortableOps ops doubts canvas
  pub leaves : Leaves ops doubts canvas left

-- Terminals agree on the position of the cursor, which is in the given column. A wrap is pending at most after the last
-- column.
pub record IsKnown (column width : ℕ) (doubts : Doubts) : Type 0 where
  pub place : doubts.is_shifted ≡ false
  pub wrap : column < width → doubts.wrap ≡ NotPending

right_places : (n : ℕ) (doubts : Doubts) (canvas : Canvas) → 0 < n → IsPlaced doubts →
    Places (MoveRight n ∷ []) doubts canvas
right_places zero doubts canvas h p = absurd (omega arith)
right_places (suc n) doubts canvas h p = record {
  left = no_doubts;
  placed = record { wrap = refl; place = refl };
  portable = (p, λ next e. tt);
  leaves = λ next e. refl;
}

next_row_places : (doubts : Doubts) (canvas : Canvas) → doubts.is_shifted ≡ false →
    canvas.page.row + 1 < length canvas.page.rows → Places (NextRow ∷ []) doubts canvas
next_row_places doubts canvas place below = record {
  left = no_doubts;
  placed = record { wrap = refl; place = refl };
  portable = ((place, (refl, below)), λ next e. tt);
  leaves = λ next e. refl;
}

pub move_places : (r c : ℕ) (doubts : Doubts) (canvas : Canvas) → Places (MoveTo r c ∷ []) doubts canvas
move_places r c doubts canvas = record {
  left = no_doubts;
  placed = record { wrap = refl; place = refl };
  portable = (tt, λ next e. tt);
  leaves = λ next e. refl;
}

-- The shortest moves from a known position are portable.
pub moves_place : (row col r c : ℕ) (doubts : Doubts) (canvas : Canvas) → canvas.page.row ≡ row →
    r < length canvas.page.rows → c < canvas.page.width → IsKnown col canvas.page.width doubts →
    Places (cursor_move_ops row col r c) doubts canvas
moves_place row col r c doubts canvas at_row inside fits known =
    cond_both ((r == row + 1) && (c == 0)) (NextRow ∷ []) _ (λ ops. Places ops doubts canvas)
    (λ (t : ((r == row + 1) && (c == 0)) ≡ true).
    let e = eqb-true r (row + 1) (and_parts (r == row + 1) (c == 0) t).0 in
    next_row_places doubts canvas known.place (omega (arith, at_row, e, inside)))
    (λ _. cond_both ((r == row) && nat_lt col c) (MoveRight (c - col) ∷ []) _ (λ ops. Places ops doubts canvas)
    (λ (t : ((r == row) && nat_lt col c) ≡ true).
    let l = ltb-true col c (and_parts (r == row) (nat_lt col c) t).1 in
    right_places (c - col) doubts canvas (omega (arith, l))
    (record { wrap = known.wrap (omega (arith, l, fits)); place = known.place }))
    (λ _. cond_both ((r == row) && (c == col)) [] (MoveTo r c ∷ []) (λ ops. Places ops doubts canvas)
    (λ (t : ((r == row) && (c == col)) ≡ true).
    let e = eqb-true c col (and_parts (r == row) (c == col) t).1 in
    record {
      left = doubts;
      placed = record { wrap = known.wrap (omega (arith, e, fits)); place = known.place };
      portable = tt;
      leaves = refl;
    })
    (λ _. move_places r c doubts canvas)))

-- ---- attributes

-- Terminals agree on the effect of the operations, and differ as before in the cursor's position and in pending wraps.
pub record Keeps (ops : List Op) (doubts : Doubts) (canvas : Canvas) : Type 0 where
  pub left : Doubts
  pub wrap : left.wrap ≡ doubts.wrap
  pub place : left.is_shifted ≡ doubts.is_shifted
  pub portable : PortableOps ops doubts canvas
  pub leaves : Leaves ops doubts canvas left

pub normal_apart : (was : Intensity) → piles_up was Normal ≡ false
normal_apart Normal = refl
normal_apart Bold = refl
normal_apart Dim = refl

-- A change of attributes is portable if the new ones are the defaults, or if it does not turn bold into dim or the
-- reverse.
pub change_portable : (was new : Attrs) (doubts : Doubts) (canvas : Canvas) → canvas.attrs.intensity ≡ was.intensity →
    (same_attrs new default_attrs ≡ false → piles_up was.intensity new.intensity ≡ false) →
    IsPortableOp (ChangeAttrs was new) doubts canvas
change_portable was new doubts canvas e apart _ =
    cond_both (same_attrs new default_attrs) (Normal ∷ [])
    (if same_intensity was.intensity new.intensity then [] else new.intensity ∷ []) (KeepsApart canvas.attrs.intensity)
    (λ _. (normal_apart canvas.attrs.intensity, tt))
    (λ (f : same_attrs new default_attrs ≡ false).
    cond_both (same_intensity was.intensity new.intensity) [] (new.intensity ∷ []) (KeepsApart canvas.attrs.intensity)
    (λ _. tt) (λ _. (ap (λ (i : Intensity). piles_up i new.intensity) e ∙ apart f, tt)))

change_doubts : (was new : Attrs) (doubts : Doubts) (canvas : Canvas) →
    ((doubts_after_op (ChangeAttrs was new) doubts canvas).wrap ≡ doubts.wrap)
    × ((doubts_after_op (ChangeAttrs was new) doubts canvas).is_shifted ≡ doubts.is_shifted)
change_doubts was new doubts canvas =
    cond_both (same_attrs was new) doubts (doubts_after (Sgr (change_intensities was new)) doubts canvas)
    (λ (left : Doubts). (left.wrap ≡ doubts.wrap) × (left.is_shifted ≡ doubts.is_shifted))
    (λ _. (refl, refl)) (λ _. (refl, refl))

pub change_keeps : (was new : Attrs) (doubts : Doubts) (canvas : Canvas) → canvas.attrs.intensity ≡ was.intensity →
    (same_attrs new default_attrs ≡ false → piles_up was.intensity new.intensity ≡ false) →
    Keeps (ChangeAttrs was new ∷ []) doubts canvas
change_keeps was new doubts canvas e apart =
    let same = change_doubts was new doubts canvas in record {
      left = doubts_after_op (ChangeAttrs was new) doubts canvas;
      wrap = same.0;
      place = same.1;
      portable = (change_portable was new doubts canvas e apart, λ next f. tt);
      leaves = λ next f. refl;
    }

-- Any change of attributes is portable after all attributes were reset.
pub reset_keeps : (new : Attrs) (doubts : Doubts) (canvas : Canvas) →
    Keeps (ClearAttrs ∷ ChangeAttrs default_attrs new ∷ []) doubts canvas
reset_keeps new doubts canvas =
    let cleared = record canvas { attrs = default_attrs } in
    let later = doubts_after (Sgr (Normal ∷ [])) doubts canvas in
    let same = change_doubts default_attrs new later cleared in record {
      left = doubts_after_op (ChangeAttrs default_attrs new) later cleared;
      wrap = same.0;
      place = same.1;
      portable = (
        (normal_apart canvas.attrs.intensity, tt),
        λ next e. subst (λ (z : Canvas). PortableOps (ChangeAttrs default_attrs new ∷ []) later z)
            (some_same cleared next e)
            (change_portable default_attrs new later cleared refl (λ f. none_apart new.intensity), λ last g. tt),
      );
      leaves = λ next e last g. refl;
    }
  where
    none_apart : (new : Intensity) → piles_up Normal new ≡ false
    none_apart Normal = refl
    none_apart Bold = refl
    none_apart Dim = refl

-- ---- erasing

pub erase_keeps : (n : ℕ) (doubts : Doubts) (canvas : Canvas) → IsPlaced doubts →
    IsBoundary canvas.page.column (cursor_row canvas.page).cells →
    IsBoundary (canvas.page.column + suc n) (cursor_row canvas.page).cells →
    Keeps (EraseChars (suc n) ∷ []) doubts canvas
erase_keeps n doubts canvas p first end = record {
  left = record doubts { is_after_character = false };
  wrap = refl;
  place = refl;
  portable = ((p, (first, end)), λ next e. tt);
  leaves = λ next e. refl;
}

pub erase_rest_keeps : (doubts : Doubts) (canvas : Canvas) → IsPlaced doubts →
    IsBoundary canvas.page.column (cursor_row canvas.page).cells → Keeps (EraseRest ∷ []) doubts canvas
erase_rest_keeps doubts canvas p first = record {
  left = record doubts { is_after_character = false };
  wrap = refl;
  place = refl;
  portable = ((p, first), λ next e. tt);
  leaves = λ next e. refl;
}

-- ---- glyphs

character_portable : (c n : ℕ) (doubts : Doubts) (canvas : Canvas) → columns_of c ≡ Some (suc n) →
    may_print c doubts.wrap doubts.is_shifted ≡ true → HasColumns (suc n) canvas.page →
    IsPortableUse (Graphic c) doubts canvas
character_portable c n doubts canvas columns may room =
    subst (λ (w : Option ℕ). IsPortableCharacter w c doubts canvas.page) (sym columns) (may, room)

-- Each character takes no column, and none of them moves the glyph that it joins to the next row.
abbrev pub AreJoined : List ℕ → Canvas → Type 0
AreJoined [] canvas = Unit {0}
AreJoined (m ∷ ms) canvas =
    ((columns_of m ≡ Some 0) × (carries m canvas.page ≡ false)) × AreJoined ms (canvas_after_print m canvas)

marks_portable : (ms : List ℕ) (doubts : Doubts) (canvas : Canvas) → doubts.is_after_character ≡ true →
    AreJoined ms canvas → PortableText ms doubts canvas
marks_portable [] doubts canvas follows joined = tt
marks_portable (m ∷ ms) doubts canvas follows joined = (
  subst (λ (w : Option ℕ). IsPortableCharacter w m doubts canvas.page) (sym joined.0.0) (follows, joined.0.1),
  marks_portable ms (doubts_after (Graphic m) doubts canvas) (canvas_after_print m canvas) refl joined.1,
)

-- The text of a glyph is portable.
pub glyph_portable : (text : List ℕ) (first : ℕ) (marks : List ℕ) (n : ℕ) (doubts : Doubts) (canvas : Canvas) →
    chars text ≡ first ∷ marks → columns_of first ≡ Some (suc n) →
    may_print first doubts.wrap doubts.is_shifted ≡ true → HasColumns (suc n) canvas.page → AreJoined marks (canvas_after_print first canvas) →
    IsPortableOp (Print text) doubts canvas
glyph_portable text first marks n doubts canvas is columns may room joined =
    subst (λ (cs : List ℕ). PortableText cs doubts canvas) (sym is) (
      character_portable first n doubts canvas columns may room,
      marks_portable marks (doubts_after (Graphic first) doubts canvas) (canvas_after_print first canvas) refl joined,
    )

-- After a glyph of certain width, terminals agree on the cursor's position.
pub certain_glyph_leaves : (text : List ℕ) (c : ℕ) (doubts : Doubts) (canvas : Canvas) → chars text ≡ c ∷ [] →
    is_certain c ≡ true → doubts.is_shifted ≡ false →
    Leaves (Print text ∷ []) doubts canvas (record {
      wrap = wrap_at (page_after_print c canvas.attrs canvas.page).column canvas.page.width;
      is_shifted = false;
      is_after_character = true;
    })
certain_glyph_leaves text c doubts canvas is certain place next e =
    ap (λ (cs : List ℕ). doubts_after_text cs doubts canvas) is
    ∙ ap (λ (shifted : Bool). record {
      wrap = wrap_at (page_after_print c canvas.attrs canvas.page).column canvas.page.width;
      is_shifted = shifted;
      is_after_character = true;
    }) (ap (λ (b : Bool). b || not (is_certain c)) place ∙ ap not certain)

-- After any glyph, a move to a position makes terminals agree on the position.
pub glyph_and_move_place : (text : List ℕ) (r c : ℕ) (doubts : Doubts) (canvas : Canvas) →
    IsPortableOp (Print text) doubts canvas → Places (Print text ∷ MoveTo r c ∷ []) doubts canvas
glyph_and_move_place text r c doubts canvas p = record {
  left = no_doubts;
  placed = record { wrap = refl; place = refl };
  portable = (p, λ next e. (tt, λ last f. tt));
  leaves = λ next e last f. refl;
}

-- ==== The text of a steady glyph is portable where there is room for the glyph.

-- A character that scrolls no row off the page is printed as on any canvas.
pub printed : (c : ℕ) (canvas after : Canvas) → drawn_char c canvas ≡ Some after → canvas_after_print c canvas ≡ after
printed c canvas after e = by_case (pushes c canvas.page) e where
  by_case : (b : Bool) → (if b then None else Some (canvas_after_print c canvas)) ≡ Some after →
      canvas_after_print c canvas ≡ after
  by_case true h = absurd (cc)
  by_case false h = some_same (canvas_after_print c canvas) after h

-- The glyph grows wide at the end if it is wide after one of its characters.
ends_wide : (width : ℕ) (was : Bool) (text ms : List ℕ) (last : Bool) (whole : List ℕ) →
    Grows width was text ms last whole → was ≡ true → last ≡ true
ends_wide width was text [] last whole h e = sym h.0 ∙ e
ends_wide width was text (m ∷ ms) last whole h e =
    ends_wide width (next width was text m) (text ++ encode_utf8 m) ms last whole h.1.1 (h.1.0 e)

room_for : (wide : Bool) (c width : ℕ) → c + glyph_columns wide ≤ width → wide ≡ true → c + 2 ≤ width
room_for true c width h e = h
room_for false c width h e = absurd (cc)

-- A combining character does not move the glyph that it joins to the next row, if that row has room for the glyph.
not_carried : (base : Canvas) (done below : List RowValue) (pre : List CellValue) (o y : CellValue) (ys : List CellValue)
    (wrapped : Bool) (r c : ℕ) (text : List ℕ) (was wide : Bool) (attrs : Attrs) (m : ℕ) → has_room text ≡ true →
    Spot base done pre o y ys wrapped r c wide → (next base.page.width was text m ≡ true → wide ≡ true) →
    carries m (put base done below pre ys wrapped r c text was attrs).page ≡ false
not_carried base done below pre o y ys wrapped r c text was wide attrs m room at_spot more =
    let rest = cells_after_cut (orphan was attrs) (rest_after was ys) in
    let flagged = wrapped_after_glyph wrapped was (drop 1 ys) in
    stays m (put base done below pre ys wrapped r c text was attrs).page c text was attrs
    (mark_column_is base done below pre text was attrs rest flagged r c at_spot.row at_spot.col)
    (marked_cell base done below pre text was attrs rest flagged r c at_spot.row at_spot.col) room
    (λ narrow t. ne_eqb (c + glyph_columns was) base.page.width
    (λ same. let k : glyph_columns was ≡ 1 = ap glyph_columns narrow in
    let l = room_for wide c base.page.width at_spot.fits (more t) in absurd (omega (arith, k, l, same))))

pub marks_join : (ms : List ℕ) (base : Canvas) (done below : List RowValue) (pre : List CellValue) (o y : CellValue)
    (ys : List CellValue) (wrapped : Bool) (r c : ℕ) (text : List ℕ) (was : Bool) (attrs : Attrs) (last : Bool)
    (whole : List ℕ) → Grows base.page.width was text ms last whole → Spot base done pre o y ys wrapped r c last →
    AreJoined ms (put base done below pre ys wrapped r c text was attrs)
marks_join [] base done below pre o y ys wrapped r c text was attrs last whole h at_spot = tt
marks_join (m ∷ ms) base done below pre o y ys wrapped r c text was attrs last whole h at_spot =
    let now = next base.page.width was text m in
    let longer = text ++ encode_utf8 m in
    let le = grows_le base.page.width now longer ms last whole h.1.1 in
    let same = printed m (put base done below pre ys wrapped r c text was attrs)
    (put base done below pre ys wrapped r c longer now attrs)
    (mark_drawn base done below pre o y ys wrapped r c text was attrs m h.0.0 h.0.1 h.1.0
    (wider_spot base done pre o y ys wrapped r c now last le at_spot)) in (
      (
        h.0.0.1,
        not_carried base done below pre o y ys wrapped r c text was last attrs m h.0.1 at_spot
            (ends_wide base.page.width now longer ms last whole h.1.1),
      ),
      subst (AreJoined ms) (sym same)
          (marks_join ms base done below pre o y ys wrapped r c longer now attrs last whole h.1.1 at_spot),
    )

-- Text printed at a boundary of a row is portable.
pub glyph_at_spot : (base : Canvas) (done below : List RowValue) (pre : List CellValue) (o y : CellValue)
    (ys : List CellValue) (wrapped : Bool) (r c : ℕ) (text : List ℕ) (wide : Bool) (attrs : Attrs) (doubts : Doubts) →
    (prints : Prints base.page.width text wide) → Spot base done pre o y ys wrapped r c wide →
    may_print prints.first doubts.wrap doubts.is_shifted ≡ true →
    IsPortableOp (Print text) doubts (spot base done below pre o y ys wrapped r c attrs)
glyph_at_spot base done below pre o y ys wrapped r c text wide attrs doubts prints at_spot may =
    let start = spot base done below pre o y ys wrapped r c attrs in
    let after = put base done below pre ys wrapped r c (encode_utf8 prints.first) prints.start attrs in
    let le = grows_le base.page.width prints.start (encode_utf8 prints.first) prints.marks wide text prints.grows in
    let fits = at_spot.fits in
    let same = printed prints.first start after
    (first_drawn base done below pre o y ys wrapped r c prints.first prints.start attrs prints.columns
    (wider_spot base done pre o y ys wrapped r c prints.start wide le at_spot)) in
    let joined = subst (AreJoined prints.marks) (sym same)
    (marks_join prints.marks base done below pre o y ys wrapped r c (encode_utf8 prints.first) prints.start
    attrs wide text prints.grows at_spot) in
    by_width prints.start prints.columns (omega (arith, le, fits)) joined where
      by_width : (start : Bool) → columns_of prints.first ≡ Some (glyph_columns start) →
          c + glyph_columns start ≤ base.page.width →
          AreJoined prints.marks (canvas_after_print prints.first (spot base done below pre o y ys wrapped r c attrs)) →
          IsPortableOp (Print text) doubts (spot base done below pre o y ys wrapped r c attrs)
      by_width false columns room joined =
          glyph_portable text prints.first prints.marks 0 doubts (spot base done below pre o y ys wrapped r c attrs)
          prints.is columns may (inl room) joined
      by_width true columns room joined =
          glyph_portable text prints.first prints.marks 1 doubts (spot base done below pre o y ys wrapped r c attrs)
          prints.is columns may (inl room) joined
