-- A terminal that obeys the laws follows each operation that is tidy and portable.
use Rattle.std.proofs.Common.{◌≡◌, ℕ, zero, suc, ◌+◌, ◌-◌, ◌<◌, ◌≤◌, ◌⊎◌, ◌||◌, ◌==◌, min, Bool, true, false, [], ◌∷◌}
use Rattle.std.proofs.Common.{length, refl, inl, inr, sym, ap, subst, ◌∙◌, Some, arith}
use Rattle.std.specs.Prelude.{if◌then◌else◌, chars}
use Rattle.std.proofs.lemmas.Bool.{cases_lt, cond_both}
use Rattle.vt_cells.specs.Attrs.{Attrs, default_attrs, same_attrs, changed_attrs}
use Rattle.vt_cells.specs.Cell.{is_right_half}
use Rattle.vt_cells.specs.Op.{Op, Hide, ClearAttrs, MoveTo, MoveRight, NextRow, LineFeed, Backspace, EraseBelow}
use Rattle.vt_cells.specs.Op.{EraseRest, EraseChars, SaveCursor, RestoreCursor, ChangeAttrs, Print}
use Rattle.vt_rows.proofs.Edits.{at-past}
use Rattle.vt_grid.specs.Canvas.{Canvas, canvas_after_op, canvas_after_line_feed}
use Rattle.vt_grid.specs.Erasing.{erased_chars, erased_columns, erased_rest}
use Rattle.vt_grid.specs.Moves.{cursor_restored, cursor_saved, moved, target_row}
use Rattle.vt_grid.specs.Page.{Page, cursor_row}
use Rattle.vt_grid.specs.declared.grid.moves.CursorMove.TheVariants.{Return, Right, Left, To}
use Rattle.vt_redraw.specs.Doubts.{Doubts, IsPlaced, Wrap, NotPending, Unsure}
use Rattle.vt_redraw.specs.Uses.{IsBoundary, IsPortableOp, change_intensities, Use, doubts_after, doubts_after_op}
use Rattle.vt_redraw.specs.Uses.{wrap_after_feed}
use Rattle.vt_redraw.proofs.Touched.{some_same}
use Rattle.vt_terminals.specs.Element.{Cuf, Bs, Cup, Dectcem, Decrc, Decsc, Ech, Element, Lf, SgrReset}
use Rattle.vt_terminals.specs.Laws.{Laws}
use Rattle.vt_terminals.specs.Sound.{IsSound}
use Rattle.vt_terminals.specs.Terminal.{ReadsAll, Terminal, Positions}
use Rattle.vt_terminals.proofs.Agrees.{Agrees, IsTidyOp, covers, torn_after, torn_after_erasure}
use Rattle.vt_terminals.proofs.Characters.{known}
use Rattle.vt_terminals.proofs.Elements.{elements_of}
use Rattle.vt_terminals.proofs.Follows.{text_agrees, text_sound}
use Rattle.vt_terminals.proofs.Glyphs.{sound_at, sound_erased}
use Rattle.vt_terminals.proofs.OpSteps.{hide_agrees, reset_agrees, change_agrees, cup_agrees, cr_agrees, cuf_agrees}
use Rattle.vt_terminals.proofs.OpSteps.{bs_agrees, lf_agrees, decsc_agrees, decrc_agrees, el_agrees, ech_agrees}
use Rattle.vt_terminals.proofs.Pages.{feed_is, feeds_none}
use Rattle.vt_terminals.proofs.Puts.{before_edit, not_covered}

-- ==== One operation

past_end : (page : Page) → IsSound page → IsBoundary page.width (cursor_row page).cells
past_end page sound =
    let l = sound.columns page.row sound.row in
    ap is_right_half (at-past (cursor_row page).cells page.width (omega (arith, l)))

pub feed_next : (canvas next : Canvas) → IsSound canvas.page → canvas.page.row + 1 < length canvas.page.rows →
    canvas_after_line_feed canvas ≡ Some next → record canvas {
      page = record (canvas.page)
          { row = canvas.page.row + 1 };
    } ≡ next
feed_next canvas next sound below e =
    some_same (record canvas { page = record (canvas.page) { row = canvas.page.row + 1 } }) next
    (sym fed ∙ e)
  where
    fed : canvas_after_line_feed canvas ≡ Some (record canvas {
      page = record (canvas.page) {
        row = canvas.page.row + 1;
      };
    })
    fed = rw (feeds_none canvas.page sound below, feed_is canvas.page sound below) refl

-- What holds after an operation.
pub record Step (T : Terminal) (near torn : Positions) (shifted : Bool) (wrap : Wrap) (next : Canvas)
    (t : T.State) : Type 0 where
  pub agrees : Agrees T near torn shifted wrap next t
  pub sound : IsSound next.page

to_next : (T : Terminal) (near torn : Positions) (shifted : Bool) (wrap : Wrap) (a next : Canvas) (t : T.State) →
    Some a ≡ Some next →
    Agrees T near torn shifted wrap a t → IsSound a.page → Step T near torn shifted wrap next t
to_next T near torn shifted wrap a next t e agrees sound =
    let same = some_same a next e in record {
      agrees = subst (λ (k : Canvas). Agrees T near torn shifted wrap k t) same agrees;
      sound = subst (λ (k : Canvas). IsSound k.page) same sound;
    }

read_one : (T : Terminal) (element : Element) (s t : T.State) → ReadsAll T (element ∷ []) s t → T.Reads element s t
read_one T element s t reads = subst (λ (u : T.State). T.Reads element s u) reads.1.1 reads.1.0

placed : (T : Terminal) (near torn : Positions) (doubts : Doubts) (canvas : Canvas) (s : T.State) → IsPlaced doubts →
    Agrees T near torn doubts.is_shifted doubts.wrap canvas s → Agrees T near torn false NotPending canvas s
placed T near torn doubts canvas s is agrees =
    subst (λ (w : Wrap). Agrees T near torn false w canvas s) is.wrap
    (known T near torn doubts.is_shifted doubts.wrap canvas s is.place agrees)

sound_saved : (page : Page) → IsSound page → IsSound (cursor_saved page)
sound_saved page sound = record {
  has_columns = sound.has_columns;
  row = sound.row;
  column = sound.column;
  top = sound.top;
  bottom = sound.bottom;
  origin = sound.origin;
  columns = sound.columns;
  paired = sound.paired;
}

sound_restored : (page : Page) → IsSound page → page.saved_origin ≡ page.origin → page.saved_row < length page.rows →
    page.saved_column ≡ page.width → IsSound (cursor_restored page)
sound_restored page sound origin low last = record {
  has_columns = sound.has_columns;
  row = low;
  column = omega (arith, last);
  top = sound.top;
  bottom = sound.bottom;
  origin = origin ∙ sound.origin;
  columns = sound.columns;
  paired = sound.paired;
}

if_sound : (b : Bool) (x y : Page) → IsSound x → IsSound y → IsSound (if b then x else y)
if_sound true x y p q = p
if_sound false x y p q = q

sound_rest : (attrs : Attrs) (page : Page) → IsSound page → IsSound (erased_rest attrs page)
unfolding erased_rest
sound_rest attrs page sound =
    let inside = sound.column in
    if_sound (page.column == page.width) page (erased_columns page.column (page.width - page.column) attrs page) sound
    (sound_erased page.column (page.width - page.column) attrs page sound (omega (arith, inside)))

sound_chars : (n : ℕ) (attrs : Attrs) (page : Page) → IsSound page → IsSound (erased_chars n attrs page)
unfolding erased_chars
sound_chars n attrs page sound =
    let inside = sound.column in
    if_sound ((n == 0) || (page.column == page.width)) page
    (erased_columns page.column (min n (page.width - page.column)) attrs page) sound
    (sound_erased page.column (min n (page.width - page.column)) attrs page sound (omega (arith, inside)))

change_shifted : (was new : Attrs) (doubts : Doubts) (canvas : Canvas) →
    (doubts_after_op (ChangeAttrs was new) doubts canvas).is_shifted ≡ doubts.is_shifted
change_shifted was new doubts canvas =
    cond_both (same_attrs was new) doubts (doubts_after (Use.Sgr (change_intensities was new)) doubts canvas)
    (λ (left : Doubts). left.is_shifted ≡ doubts.is_shifted) (λ _. refl) (λ _. refl)

pub change_wrap : (was new : Attrs) (doubts : Doubts) (canvas : Canvas) →
    (doubts_after_op (ChangeAttrs was new) doubts canvas).wrap ≡ doubts.wrap
change_wrap was new doubts canvas = cond_both (same_attrs was new) doubts
    (doubts_after (Use.Sgr (change_intensities was new)) doubts canvas)
    (λ (left : Doubts). left.wrap ≡ doubts.wrap) (λ _. refl) (λ _. refl)

none_erased : (T : Terminal) (near torn : Positions) (shifted : Bool) (wrap : Wrap) (canvas : Canvas) (s : T.State) →
    Agrees T near torn shifted wrap canvas s →
    Agrees T near (torn_after_erasure 0 canvas.page torn) shifted wrap canvas s
none_erased T near torn shifted wrap canvas s agrees = record {
  width = agrees.width;
  height = agrees.height;
  cells = λ r k low inside clear settled. agrees.cells r k low inside clear
      (before_edit (torn r k) (covers canvas.page.row canvas.page.column 0 r k) settled
      (not_covered canvas.page.row canvas.page.column 0 r k (somewhere k (cases_lt k canvas.page.column))));
  begins = agrees.begins;
  attrs = agrees.attrs;
  hidden = agrees.hidden;
  saved = agrees.saved;
  cursor = agrees.cursor;
  calm = agrees.calm;
} where
  somewhere : (k : ℕ) → (k < canvas.page.column) ⊎ (canvas.page.column ≤ k) →
      (k < canvas.page.column) ⊎ (canvas.page.column + 0 ≤ k)
  somewhere k (inl lt) = inl lt
  somewhere k (inr le) = inr (omega (arith, le))

pub op_agrees : (T : Terminal) → Laws T →
    (op : Op) (near torn : Positions) (doubts : Doubts) (canvas next : Canvas) (s t : T.State) →
    IsSound canvas.page → Agrees T near torn doubts.is_shifted doubts.wrap canvas s → IsPortableOp op doubts canvas →
    IsTidyOp near op canvas → canvas_after_op op canvas ≡ Some next → ReadsAll T (elements_of op) s t →
    Step T near (torn_after op torn canvas) (doubts_after_op op doubts canvas).is_shifted
    (doubts_after_op op doubts canvas).wrap next t
op_agrees T laws (Hide hidden) near torn doubts canvas next s t sound agrees portable tidy e reads =
    to_next T near torn doubts.is_shifted doubts.wrap (record canvas { hidden = hidden }) next t e
    (hide_agrees T laws near torn doubts.is_shifted doubts.wrap canvas hidden s t agrees
    (read_one T (Dectcem hidden) s t reads)) sound
op_agrees T laws ClearAttrs near torn doubts canvas next s t sound agrees portable tidy e reads =
    to_next T near torn doubts.is_shifted doubts.wrap (record canvas { attrs = default_attrs }) next t e
    (reset_agrees T laws near torn doubts.is_shifted doubts.wrap canvas s t agrees (read_one T SgrReset s t reads))
    sound
op_agrees T laws (MoveTo r c) near torn doubts canvas next s t sound agrees portable tidy e reads =
    let low = sound.row in
    let some = sound.has_columns in
    let row : target_row r canvas.page ≡ min r (length canvas.page.rows - 1) = rw (sound.origin) refl in
    to_next T near torn false NotPending (record canvas { page = moved (To r c) canvas.page }) next t e
    (cup_agrees T laws near torn doubts.is_shifted doubts.wrap canvas r c s t sound agrees
    (read_one T (Cup r c) s t reads))
    (sound_at (target_row r canvas.page) (min c (canvas.page.width - 1)) canvas.page sound (omega (arith, row, low))
    (omega (arith, some)))
op_agrees T laws (MoveRight zero) near torn doubts canvas next s t sound agrees portable tidy e reads =
    to_next T near torn doubts.is_shifted doubts.wrap canvas next t e (subst
    (λ (u : T.State). Agrees T near torn doubts.is_shifted doubts.wrap canvas u) reads agrees) sound
op_agrees T laws (MoveRight (suc n)) near torn doubts canvas next s t sound agrees portable tidy e reads =
    let some = sound.has_columns in
    to_next T near torn false NotPending (record canvas { page = moved (Right (suc n)) canvas.page }) next t e
    (cuf_agrees T laws near torn canvas n s t sound
    (placed T near torn doubts canvas s portable agrees)
    (read_one T (Cuf (suc n)) s t reads))
    (sound_at canvas.page.row (min (canvas.page.column + suc n) (canvas.page.width - 1)) canvas.page sound sound.row
    (omega (arith, some)))
op_agrees T laws NextRow near torn doubts canvas next s t sound agrees portable tidy e reads =
    let back = record canvas { page = moved Return canvas.page } in
    let below = portable.1.1 in
    let still = sound_at canvas.page.row 0 canvas.page sound sound.row (omega arith) in
    let first = cr_agrees T laws near torn doubts.wrap canvas s reads.0 sound
    (known T near torn doubts.is_shifted doubts.wrap canvas s portable.0 agrees)
    reads.1.0 in
    let down = lf_agrees T laws near torn NotPending back reads.0 t still first below
    (read_one T Lf reads.0 t reads.1.1) in
    to_next T near torn false NotPending (record back { page = record (back.page) { row = back.page.row + 1 } }) next t
    (ap (λ (k : Canvas). Some k) (feed_next back next still below e)) down
    (sound_at (canvas.page.row + 1) 0 canvas.page sound below (omega arith))
op_agrees T laws LineFeed near torn doubts canvas next s t sound agrees portable tidy e reads =
    let below = portable.1 in
    subst (λ (f : Bool). Step T near torn f (wrap_after_feed doubts.wrap) next t) (sym portable.0)
    (to_next T near torn false (wrap_after_feed doubts.wrap) (record canvas
    { page = record (canvas.page) { row = canvas.page.row + 1 } })
    next t (ap (λ (k : Canvas). Some k) (feed_next canvas next sound below e))
    (lf_agrees T laws near torn doubts.wrap canvas s t sound (known T near torn doubts.is_shifted doubts.wrap canvas s
    portable.0 agrees) below
    (read_one T Lf s t reads))
    (sound_at (canvas.page.row + 1) canvas.page.column canvas.page sound below sound.column))
op_agrees T laws Backspace near torn doubts canvas next s t sound agrees portable tidy e reads =
    let inside = sound.column in
    to_next T near torn false NotPending (record canvas { page = moved (Left 1) canvas.page }) next t e
    (bs_agrees T laws near torn canvas s t sound
    (placed T near torn doubts canvas s portable.0 agrees) portable.1
    (read_one T Bs s t reads))
    (sound_at canvas.page.row (canvas.page.column - 1) canvas.page sound sound.row (omega (arith, inside)))
op_agrees T laws EraseBelow near torn doubts canvas next s t sound agrees portable tidy e reads = absurd tidy
op_agrees T laws EraseRest near torn doubts canvas next s t sound agrees portable tidy e reads =
    let here = placed T near torn doubts canvas s portable.0 agrees in
    to_next T near (torn_after_erasure canvas.page.width canvas.page torn) doubts.is_shifted doubts.wrap
    (record canvas { page = erased_rest canvas.attrs canvas.page }) next t e
    (subst (λ (f : Bool). Agrees T near (torn_after_erasure canvas.page.width canvas.page torn) f doubts.wrap
    (record canvas { page = erased_rest canvas.attrs canvas.page }) t) (sym portable.0.place)
    (subst (λ (w : Wrap). Agrees T near (torn_after_erasure canvas.page.width canvas.page torn) false w
    (record canvas { page = erased_rest canvas.attrs canvas.page }) t) (sym portable.0.wrap)
    (el_agrees T laws near torn canvas s t sound here portable.1 (past_end canvas.page sound)
    (read_one T Element.El s t reads))))
    (sound_rest canvas.attrs canvas.page sound)
op_agrees T laws (EraseChars zero) near torn doubts canvas next s t sound agrees portable tidy e reads =
    to_next T near (torn_after_erasure 0 canvas.page torn) doubts.is_shifted doubts.wrap canvas next t e
    (subst (λ (u : T.State). Agrees T near (torn_after_erasure 0 canvas.page torn) doubts.is_shifted doubts.wrap canvas
    u) reads
    (none_erased T near torn doubts.is_shifted doubts.wrap canvas s agrees)) sound
op_agrees T laws (EraseChars (suc n)) near torn doubts canvas next s t sound agrees portable tidy e reads =
    let here = placed T near torn doubts canvas s portable.0 agrees in
    to_next T near (torn_after_erasure (suc n) canvas.page torn) doubts.is_shifted doubts.wrap
    (record canvas { page = erased_chars (suc n) canvas.attrs canvas.page }) next t e
    (subst (λ (f : Bool). Agrees T near (torn_after_erasure (suc n) canvas.page torn) f doubts.wrap
    (record canvas { page = erased_chars (suc n) canvas.attrs canvas.page }) t) (sym portable.0.place)
    (subst (λ (w : Wrap). Agrees T near (torn_after_erasure (suc n) canvas.page torn) false w
    (record canvas { page = erased_chars (suc n) canvas.attrs canvas.page }) t) (sym portable.0.wrap)
    (ech_agrees T laws near torn canvas n s t sound here portable.1.0 portable.1.1 (past_end canvas.page sound)
    (read_one T (Ech (suc n)) s t reads))))
    (sound_chars (suc n) canvas.attrs canvas.page sound)
op_agrees T laws SaveCursor near torn doubts canvas next s t sound agrees portable tidy e reads =
    to_next T near torn doubts.is_shifted doubts.wrap (record canvas {
      page = cursor_saved canvas.page;
      saved_attrs =
          canvas.attrs;
    }) next t e
    (subst (λ (f : Bool). Agrees T near torn f doubts.wrap
    (record canvas { page = cursor_saved canvas.page; saved_attrs = canvas.attrs }) t) (sym portable)
    (decsc_agrees T laws near torn doubts.wrap canvas s t sound (known T near torn doubts.is_shifted doubts.wrap canvas
    s portable agrees) (read_one T Decsc s t reads)))
    (sound_saved canvas.page sound)
op_agrees T laws RestoreCursor near torn doubts canvas next s t sound agrees portable tidy e reads =
    let row = portable.row in
    let low = sound.row in
    to_next T near torn doubts.is_shifted Unsure (record canvas {
      page = cursor_restored canvas.page;
      attrs =
          canvas.saved_attrs;
    }) next t e
    (decrc_agrees T laws near torn doubts.is_shifted doubts.is_shifted doubts.wrap canvas s t sound agrees tidy
    (omega (arith, row, low)) (read_one T Decrc s t reads))
    (sound_restored canvas.page sound portable.origin (omega (arith, row, low)) tidy)
op_agrees T laws (ChangeAttrs was new) near torn doubts canvas next s t sound agrees portable tidy e reads =
    to_next T near torn (doubts_after_op (ChangeAttrs was new) doubts canvas).is_shifted
    (doubts_after_op (ChangeAttrs was new) doubts canvas).wrap
    (record canvas { attrs = changed_attrs was new canvas.attrs }) next t e
    (subst (λ (f : Bool). Agrees T near torn f (doubts_after_op (ChangeAttrs was new) doubts canvas).wrap
    (record canvas { attrs = changed_attrs was new canvas.attrs }) t) (sym (change_shifted was new doubts canvas))
    (subst (λ (w : Wrap). Agrees T near torn doubts.is_shifted w (record canvas
    { attrs = changed_attrs was new canvas.attrs }) t)
    (sym (change_wrap was new doubts canvas))
    (change_agrees T laws near torn doubts.is_shifted doubts.wrap canvas was new s t agrees portable reads))) sound
op_agrees T laws (Print text) near torn doubts canvas next s t sound agrees portable tidy e reads = record {
  agrees = text_agrees T laws (chars text) near torn doubts canvas next s t sound agrees portable tidy e reads;
  sound = text_sound near (chars text) doubts canvas next sound portable tidy e;
}
