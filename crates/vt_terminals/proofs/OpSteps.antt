-- A terminal that obeys the laws follows changes of attributes, movements and erasures.
use Rattle.std.proofs.Common.{◌≡◌, ℕ, suc, ◌+◌, ◌-◌, ◌<◌, ◌≤◌, ◌⊎◌, ◌&&◌, ◌==◌, nat_lt, min, not, Bool, true, false, []}
use Rattle.std.proofs.Common.{◌∷◌, length, refl, inl, inr, sym, ap, subst, ◌∙◌, arith}
use Rattle.std.specs.Prelude.{if◌then◌else◌, nat_le}
use Rattle.std.proofs.lemmas.Bool.{cases_lt, cases_Bool, lt-ltb, ne_eqb, and_left}
use Rattle.vt_cells.specs.Attrs.{Attrs, default_attrs, same_attrs, changed_attrs}
use Rattle.vt_cells.specs.Op.{ChangeAttrs}
use Rattle.vt_grid.specs.Canvas.{Canvas}
use Rattle.vt_grid.specs.Erasing.{erased_chars, erased_columns, erased_rest}
use Rattle.vt_grid.specs.Moves.{cursor_restored, cursor_saved, moved, target_row}
use Rattle.vt_grid.specs.Page.{Page, cell_at, cursor_row}
use Rattle.vt_grid.specs.declared.grid.moves.CursorMove.TheVariants.{Return, Right, Left, To}
use Rattle.vt_redraw.specs.Doubts.{Wrap, NotPending, Pending, Unsure}
use Rattle.vt_redraw.specs.Uses.{IsBoundary, change_intensities, KeepsApart, wrap_after_feed}
use Rattle.vt_terminals.specs.Element.{Cr, Cuf, Bs, Cup, Dectcem, Decrc, Decsc, Ech, Element, Lf, Sgr, SgrReset}
use Rattle.vt_terminals.specs.Laws.{Erased, Laws, Moved, SameCursor}
use Rattle.vt_terminals.specs.Sound.{IsSound}
use Rattle.vt_terminals.specs.Terminal.{ReadsAll, Terminal, Positions}
use Rattle.vt_terminals.proofs.Agrees.{Agrees, CursorAgrees, covers, torn_after_erasure}
use Rattle.vt_terminals.proofs.Elements.{elements_of}
use Rattle.vt_terminals.proofs.Glyphs.{same_agrees}
use Rattle.vt_terminals.proofs.Puts.{before_edit, erased_agrees, not_covered}

same_cursor : (T : Terminal) (wrap : Wrap) (page : Page) (s t : T.State) → SameCursor T s t →
    CursorAgrees T wrap page s →
    CursorAgrees T wrap page t
same_cursor T NotPending page s t same h = (h.0, same.at page.row page.column h.1)
same_cursor T Pending page s t same h = (h.0, same.pending page.row h.1)
same_cursor T Unsure page s t same h = (h.0, same.ended page.row h.1)

-- The cursor is at the end of its row.
at_end : (T : Terminal) → Laws T → (wrap : Wrap) (page : Page) (s : T.State) → CursorAgrees T wrap page s →
    page.column ≡ page.width → T.IsAtEnd s page.row
at_end T laws NotPending page s h last = let inside = h.0 in absurd (omega (arith, inside, last))
at_end T laws Pending page s h last = laws.pending_ended s page.row h.1
at_end T laws Unsure page s h last = h.1

-- The cursor is somewhere in its row.
in_row : (T : Terminal) → Laws T → (wrap : Wrap) (page : Page) (s : T.State) → CursorAgrees T wrap page s →
    ((c : ℕ) × T.IsAt s page.row c) ⊎ T.IsAtEnd s page.row
in_row T laws NotPending page s h = inl (page.column, h.1)
in_row T laws Pending page s h = inr (laws.pending_ended s page.row h.1)
in_row T laws Unsure page s h = inr h.1

-- ---- attributes and modes

pub hide_agrees : (T : Terminal) → Laws T →
    (near torn : Positions) (shifted : Bool) (wrap : Wrap) (canvas : Canvas) (hidden : Bool) (s t : T.State) →
    Agrees T near torn shifted wrap canvas s → T.Reads (Dectcem hidden) s t → Agrees T near torn shifted wrap
    (record canvas { hidden = hidden }) t
hide_agrees T laws near torn shifted wrap canvas hidden s t agrees reads =
    let law = laws.dectcem s t hidden reads in record {
      width = agrees.width;
      height = agrees.height;
      cells = λ r k low inside clear settled. law.1.0.shows r k (cell_at canvas.page r k)
          (agrees.cells r k low inside clear settled);
      begins = λ r k low inside sure whole. law.1.0.begins r k (agrees.begins r k low inside sure whole);
      attrs = law.1.1.1.0 canvas.attrs agrees.attrs;
      hidden = law.0;
      saved = λ low last. law.1.1.1.1 canvas.page.saved_row canvas.saved_attrs (agrees.saved low last);
      cursor = λ f. same_cursor T wrap canvas.page s t law.1.1.0 (agrees.cursor f);
      calm = agrees.calm;
    }

pub reset_agrees : (T : Terminal) → Laws T →
    (near torn : Positions) (shifted : Bool) (wrap : Wrap) (canvas : Canvas) (s t : T.State) →
    Agrees T near torn shifted wrap canvas s → T.Reads SgrReset s t → Agrees T near torn shifted wrap
    (record canvas { attrs = default_attrs }) t
reset_agrees T laws near torn shifted wrap canvas s t agrees reads =
    let law = laws.reset s t reads in record {
      width = agrees.width;
      height = agrees.height;
      cells = λ r k low inside clear settled. law.1.0.shows r k (cell_at canvas.page r k)
          (agrees.cells r k low inside clear settled);
      begins = λ r k low inside sure whole. law.1.0.begins r k (agrees.begins r k low inside sure whole);
      attrs = law.0;
      hidden = law.1.1.1 canvas.hidden agrees.hidden;
      saved = λ low last. laws.reset_saved s t canvas.page.saved_row canvas.saved_attrs reads (agrees.saved low last);
      cursor = λ f. same_cursor T wrap canvas.page s t law.1.1.0 (agrees.cursor f);
      calm = agrees.calm;
    }

sgr_agrees : (T : Terminal) → Laws T → (near torn : Positions) (shifted : Bool) (wrap : Wrap) (canvas : Canvas)
    (was new : Attrs) (s t : T.State) →
    Agrees T near torn shifted wrap canvas s → same_attrs was new ≡ false →
    KeepsApart canvas.attrs.intensity (change_intensities was new) → T.Reads (Sgr was new) s t →
    Agrees T near torn shifted wrap (record canvas { attrs = changed_attrs was new canvas.attrs }) t
sgr_agrees T laws near torn shifted wrap canvas was new s t agrees differ apart reads =
    let law = laws.sgr s t was new canvas.attrs differ agrees.attrs apart reads in record {
      width = agrees.width;
      height = agrees.height;
      cells = λ r k low inside clear settled. law.1.0.shows r k (cell_at canvas.page r k)
          (agrees.cells r k low inside clear settled);
      begins = λ r k low inside sure whole. law.1.0.begins r k (agrees.begins r k low inside sure whole);
      attrs = law.0;
      hidden = law.1.1.1 canvas.hidden agrees.hidden;
      saved = λ low last. laws.sgr_saved s t was new canvas.page.saved_row canvas.saved_attrs reads
          (agrees.saved low last);
      cursor = λ f. same_cursor T wrap canvas.page s t law.1.1.0 (agrees.cursor f);
      calm = agrees.calm;
    }

pub change_agrees : (T : Terminal) → Laws T →
    (near torn : Positions) (shifted : Bool) (wrap : Wrap) (canvas : Canvas) (was new : Attrs) (s t : T.State) →
    Agrees T near torn shifted wrap canvas s →
    (same_attrs was new ≡ false → KeepsApart canvas.attrs.intensity (change_intensities was new)) →
    ReadsAll T (elements_of (ChangeAttrs was new)) s t →
    Agrees T near torn shifted wrap (record canvas { attrs = changed_attrs was new canvas.attrs }) t
unfolding changed_attrs
change_agrees T laws near torn shifted wrap canvas was new s t agrees apart reads =
    by_same (cases_Bool (same_attrs was new)) where
      by_same : (same_attrs was new ≡ true) ⊎ (same_attrs was new ≡ false) →
          Agrees T near torn shifted wrap (record canvas { attrs = changed_attrs was new canvas.attrs }) t
      by_same (inl e) =
          let still : s ≡ t = subst (λ (b : Bool). ReadsAll T (if b then [] else Sgr was new ∷ []) s t) e reads in
          subst (λ (u : T.State). Agrees T near torn shifted wrap (record canvas
          { attrs = changed_attrs was new canvas.attrs }) u) still
          (rw e agrees)
      by_same (inr e) =
          let all = subst (λ (b : Bool). ReadsAll T (if b then [] else Sgr was new ∷ []) s t) e reads in
          sgr_agrees T laws near torn shifted wrap canvas was new s t agrees e (apart e)
          (subst (λ (u : T.State). T.Reads (Sgr was new) s u) all.1.1 all.1.0)

-- ---- moves

-- The page with the cursor elsewhere.
moved_agrees : (T : Terminal) (near torn : Positions) (shifted : Bool) (was : Wrap) (canvas : Canvas) (row column : ℕ)
    (s t : T.State) →
    Agrees T near torn shifted was canvas s → Moved T s t → column < canvas.page.width → T.IsAt t row column →
    Agrees T near torn false NotPending (record canvas { page = record (canvas.page) { row = row; column = column } }) t
moved_agrees T near torn shifted was canvas row column s t agrees moved inside place =
    same_agrees T near torn shifted was NotPending canvas (record (canvas.page) { row = row; column = column }) s t
    agrees refl refl
    (λ r k. refl) refl refl moved (inside, place)

pub cup_agrees : (T : Terminal) → Laws T →
    (near torn : Positions) (shifted : Bool) (was : Wrap) (canvas : Canvas) (r c : ℕ) (s t : T.State) →
    IsSound canvas.page →
    Agrees T near torn shifted was canvas s → T.Reads (Cup r c) s t →
    Agrees T near torn false NotPending (record canvas { page = moved (To r c) canvas.page }) t
cup_agrees T laws near torn shifted was canvas r c s t sound agrees reads =
    let law = laws.cup s t r c reads in
    let some = sound.has_columns in
    let row : target_row r canvas.page ≡ min r (T.height - 1) =
    rw (sound.origin) (ap (λ (h : ℕ). min r (h - 1)) agrees.height) in
    let column : min c (canvas.page.width - 1) ≡ min c (T.width - 1) = ap (λ (w : ℕ). min c (w - 1)) agrees.width in
    moved_agrees T near torn shifted was canvas (target_row r canvas.page) (min c (canvas.page.width - 1)) s t agrees
    law.1
    (omega (arith, some))
    (subst (λ (k : ℕ). T.IsAt t (target_row r canvas.page) k) (sym column)
    (subst (λ (k : ℕ). T.IsAt t k (min c (T.width - 1))) (sym row) law.0))

pub cr_agrees : (T : Terminal) → Laws T → (near torn : Positions) (was : Wrap) (canvas : Canvas) (s t : T.State) →
    IsSound canvas.page →
    Agrees T near torn false was canvas s → T.Reads Cr s t →
    Agrees T near torn false NotPending (record canvas { page = moved Return canvas.page }) t
cr_agrees T laws near torn was canvas s t sound agrees reads =
    let low = sound.row in
    let tall = agrees.height in
    let law = laws.cr s t canvas.page.row (omega (arith, low, tall)) (in_row T laws was canvas.page s
    (agrees.cursor refl)) reads in
    moved_agrees T near torn false was canvas canvas.page.row 0 s t agrees law.1 sound.has_columns law.0

pub cuf_agrees : (T : Terminal) → Laws T → (near torn : Positions) (canvas : Canvas) (n : ℕ) (s t : T.State) →
    IsSound canvas.page →
    Agrees T near torn false NotPending canvas s → T.Reads (Cuf (suc n)) s t →
    Agrees T near torn false NotPending (record canvas { page = moved (Right (suc n)) canvas.page }) t
cuf_agrees T laws near torn canvas n s t sound agrees reads =
    let low = sound.row in
    let tall = agrees.height in
    let wide = agrees.width in
    let inside = (agrees.cursor refl).0 in
    let law = laws.cuf s t canvas.page.row canvas.page.column n (omega (arith, low, tall)) (omega (arith, inside, wide))
    (agrees.cursor refl).1 reads in
    moved_agrees T near torn false NotPending canvas canvas.page.row (min (canvas.page.column + suc n)
    (canvas.page.width - 1)) s t agrees
    law.1 (omega (arith, inside))
    (subst (λ (w : ℕ). T.IsAt t canvas.page.row (min (canvas.page.column + suc n) (w - 1))) (sym wide) law.0)

pub bs_agrees : (T : Terminal) → Laws T → (near torn : Positions) (canvas : Canvas) (s t : T.State) →
    IsSound canvas.page →
    Agrees T near torn false NotPending canvas s → 0 < canvas.page.column → T.Reads Bs s t →
    Agrees T near torn false NotPending (record canvas { page = moved (Left 1) canvas.page }) t
bs_agrees T laws near torn canvas s t sound agrees some reads =
    let low = sound.row in
    let tall = agrees.height in
    let wide = agrees.width in
    let inside = (agrees.cursor refl).0 in
    let law = laws.bs s t canvas.page.row canvas.page.column (omega (arith, low, tall)) (omega (arith, inside, wide))
    some
    (agrees.cursor refl).1 reads in
    moved_agrees T near torn false NotPending canvas canvas.page.row (canvas.page.column - 1) s t agrees law.1
    (omega (arith, inside)) law.0

pub lf_agrees : (T : Terminal) → Laws T → (near torn : Positions) (was : Wrap) (canvas : Canvas) (s t : T.State) →
    IsSound canvas.page →
    Agrees T near torn false was canvas s → canvas.page.row + 1 < length canvas.page.rows → T.Reads Lf s t →
    Agrees T near torn false (wrap_after_feed was) (record canvas {
      page = record (canvas.page)
          { row = canvas.page.row + 1 };
    }) t
lf_agrees T laws near torn NotPending canvas s t sound agrees below reads =
    let tall = agrees.height in
    let law = laws.lf s t canvas.page.row canvas.page.column (omega (arith, below, tall)) (agrees.cursor refl).1 reads
    in
    moved_agrees T near torn false NotPending canvas (canvas.page.row + 1) canvas.page.column s t agrees law.1
    (agrees.cursor refl).0 law.0
lf_agrees T laws near torn Pending canvas s t sound agrees below reads =
    let tall = agrees.height in
    let law = laws.lf_end s t canvas.page.row (omega (arith, below, tall))
    (laws.pending_ended s canvas.page.row (agrees.cursor refl).1) reads in
    same_agrees T near torn false Pending Unsure canvas (record (canvas.page) { row = canvas.page.row + 1 }) s t agrees
    refl refl
    (λ r k. refl) refl refl law.1 ((agrees.cursor refl).0, law.0)
lf_agrees T laws near torn Unsure canvas s t sound agrees below reads =
    let tall = agrees.height in
    let law = laws.lf_end s t canvas.page.row (omega (arith, below, tall)) (agrees.cursor refl).1 reads in
    same_agrees T near torn false Unsure Unsure canvas (record (canvas.page) { row = canvas.page.row + 1 }) s t agrees
    refl refl
    (λ r k. refl) refl refl law.1 ((agrees.cursor refl).0, law.0)

-- ---- the saved cursor

pub decsc_agrees : (T : Terminal) → Laws T → (near torn : Positions) (wrap : Wrap) (canvas : Canvas) (s t : T.State) →
    IsSound canvas.page → Agrees T near torn false wrap canvas s → T.Reads Decsc s t →
    Agrees T near torn false wrap (record canvas { page = cursor_saved canvas.page; saved_attrs = canvas.attrs }) t
decsc_agrees T laws near torn wrap canvas s t sound agrees reads =
    let law = laws.decsc_same s t reads in
    let wide = agrees.width in record {
      width = agrees.width;
      height = agrees.height;
      cells = λ r k low inside clear settled. law.0.shows r k (cell_at canvas.page r k)
          (agrees.cells r k low inside clear settled);
      begins = λ r k low inside sure whole. law.0.begins r k (agrees.begins r k low inside sure whole);
      attrs = law.1.1.0 canvas.attrs agrees.attrs;
      hidden = law.1.1.1 canvas.hidden agrees.hidden;
      saved = λ low last. laws.decsc s t canvas.page.row canvas.attrs
          (at_end T laws wrap canvas.page s (agrees.cursor refl) (last ∙ sym wide)) agrees.attrs reads;
      cursor = λ f. kept wrap law.1.0 (agrees.cursor f);
      calm = agrees.calm;
    }
  where
    kept : (wrap : Wrap) → SameCursor T s t → CursorAgrees T wrap canvas.page s →
        CursorAgrees T wrap (cursor_saved canvas.page) t
    kept NotPending same h = (h.0, same.at canvas.page.row canvas.page.column h.1)
    kept Pending same h = (h.0, same.pending canvas.page.row h.1)
    kept Unsure same h = (h.0, same.ended canvas.page.row h.1)

pub decrc_agrees : (T : Terminal) → Laws T →
    (near torn : Positions) (shifted now : Bool) (wrap : Wrap) (canvas : Canvas) (s t : T.State) → IsSound canvas.page →
    Agrees T near torn shifted wrap canvas s → canvas.page.saved_column ≡ canvas.page.width →
    canvas.page.saved_row < length canvas.page.rows →
    T.Reads Decrc s t →
    Agrees T near torn now Unsure (record canvas { page = cursor_restored canvas.page; attrs = canvas.saved_attrs }) t
decrc_agrees T laws near torn shifted now wrap canvas s t sound agrees last low reads =
    let tall = agrees.height in
    let wide = agrees.width in
    let saved = agrees.saved (omega (arith, low, tall)) (last ∙ wide) in
    let law = laws.decrc s t canvas.page.saved_row canvas.saved_attrs saved reads in
    let same = laws.decrc_same s t reads in record {
      width = agrees.width;
      height = agrees.height;
      cells = λ r k low inside clear settled. law.1.1.shows r k (cell_at canvas.page r k)
          (agrees.cells r k low inside clear settled);
      begins = λ r k low inside sure whole. law.1.1.begins r k (agrees.begins r k low inside sure whole);
      attrs = law.1.0;
      hidden = same.0 canvas.hidden agrees.hidden;
      saved = λ low last. same.1 canvas.page.saved_row canvas.saved_attrs saved;
      cursor = λ _. (last, law.0);
      calm = λ f pending. unsure_calm pending;
    }
  where
    unsure_calm : Unsure ≡ Pending → ⊥
    unsure_calm e = cc

-- ---- erasing

-- What is torn after columns are erased is also torn if the number of columns is cut at the end of the row.
fewer : (T : Terminal) (near torn : Positions) (m n : ℕ) (before canvas : Canvas) (t : T.State) →
    before.page.width ≡ T.width →
    ((k : ℕ) → k < before.page.width → k < before.page.column + n → k < before.page.column + m) →
    Agrees T near (torn_after_erasure m before.page torn) false NotPending canvas t →
    Agrees T near (torn_after_erasure n before.page torn) false NotPending canvas t
fewer T near torn m n before canvas t wide cut agrees = record {
  width = agrees.width;
  height = agrees.height;
  cells = λ r k low inside clear settled. agrees.cells r k low inside clear
      (by_long r k (omega (arith, inside, wide)) settled (cases_lt k (before.page.column + n)));
  begins = agrees.begins;
  attrs = agrees.attrs;
  hidden = agrees.hidden;
  saved = agrees.saved;
  cursor = agrees.cursor;
  calm = agrees.calm;
} where
  by_long : (r k : ℕ) → k < before.page.width → torn_after_erasure n before.page torn r k ≡ false →
      (k < before.page.column + n) ⊎ (before.page.column + n ≤ k) → torn_after_erasure m before.page torn r k ≡ false
  by_long r k inside settled (inl lt) =
      let same : nat_lt k (before.page.column + m) ≡ nat_lt k (before.page.column + n) =
      lt-ltb k (before.page.column + m) (cut k inside lt) ∙ sym (lt-ltb k (before.page.column + n) lt) in
      ap (λ (b : Bool). torn r k && not ((r == before.page.row) && (nat_le before.page.column k && b))) same ∙ settled
  by_long r k inside settled (inr le) =
      let was : torn r k ≡ false =
      before_edit (torn r k) (covers before.page.row before.page.column n r k) settled
      (not_covered before.page.row before.page.column n r k (inr le)) in
      and_left (torn r k) (not (covers before.page.row before.page.column m r k)) was

pub el_agrees : (T : Terminal) → Laws T → (near torn : Positions) (canvas : Canvas) (s t : T.State) →
    IsSound canvas.page →
    Agrees T near torn false NotPending canvas s → IsBoundary canvas.page.column (cursor_row canvas.page).cells →
    IsBoundary canvas.page.width (cursor_row canvas.page).cells → T.Reads Element.El s t →
    Agrees T near (torn_after_erasure canvas.page.width canvas.page torn) false NotPending
    (record canvas { page = erased_rest canvas.attrs canvas.page }) t
unfolding erased_rest
el_agrees T laws near torn canvas s t sound agrees boundary end reads =
    let inside = (agrees.cursor refl).0 in
    let low = sound.row in
    let tall = agrees.height in
    let wide = agrees.width in
    let page = canvas.page in
    let n = page.width - page.column in
    let whole : page.column + n ≡ page.width = omega (arith, inside) in
    let law = laws.el s t page.row page.column canvas.attrs (omega (arith, low, tall)) (omega (arith, inside, wide))
    (agrees.cursor refl).1 agrees.attrs reads in
    rw (ne_eqb page.column page.width (λ e. omega (arith, e, inside)))
    (fewer T near torn n page.width canvas (record canvas { page = erased_columns page.column n canvas.attrs page }) t
    agrees.width
    (λ k in_row long. omega (arith, in_row, inside))
    (erased_agrees T near torn canvas s t n sound agrees (omega (arith, inside)) (omega (arith, inside)) boundary
    (subst (λ (k : ℕ). IsBoundary k (cursor_row page).cells) (sym whole) end)
    (subst (λ (w : ℕ). Erased T page.row page.column (w - page.column) canvas.attrs s t) (sym wide) law)))

pub ech_agrees : (T : Terminal) → Laws T → (near torn : Positions) (canvas : Canvas) (n : ℕ) (s t : T.State) →
    IsSound canvas.page →
    Agrees T near torn false NotPending canvas s → IsBoundary canvas.page.column (cursor_row canvas.page).cells →
    IsBoundary (canvas.page.column + suc n) (cursor_row canvas.page).cells →
    IsBoundary canvas.page.width (cursor_row canvas.page).cells → T.Reads (Ech (suc n)) s t →
    Agrees T near (torn_after_erasure (suc n) canvas.page torn) false NotPending
    (record canvas { page = erased_chars (suc n) canvas.attrs canvas.page }) t
unfolding erased_chars
ech_agrees T laws near torn canvas n s t sound agrees boundary end past reads =
    let inside = (agrees.cursor refl).0 in
    let low = sound.row in
    let tall = agrees.height in
    let wide = agrees.width in
    let page = canvas.page in
    let m = min (suc n) (page.width - page.column) in
    let law = laws.ech s t page.row page.column n canvas.attrs (omega (arith, low, tall)) (omega (arith, inside, wide))
    (agrees.cursor refl).1 agrees.attrs reads in
    rw (ne_eqb (suc n) 0 (λ e. omega (arith, e)), ne_eqb page.column page.width (λ e. omega (arith, e, inside)))
    (fewer T near torn m (suc n) canvas (record canvas { page = erased_columns page.column m canvas.attrs page }) t
    agrees.width
    (λ k in_row long. omega (arith, in_row, inside, long))
    (erased_agrees T near torn canvas s t m sound agrees (omega (arith, inside)) (omega (arith, inside)) boundary
    (by_end (cases_lt (page.column + suc n) page.width))
    (subst (λ (w : ℕ). Erased T page.row page.column (min (suc n) (w - page.column)) canvas.attrs s t)
    (sym wide) law)))
  where
    by_end : (canvas.page.column + suc n < canvas.page.width) ⊎ (canvas.page.width ≤ canvas.page.column + suc n) →
        IsBoundary (canvas.page.column + min (suc n) (canvas.page.width - canvas.page.column))
        (cursor_row canvas.page).cells
    by_end (inl short) =
        let e : canvas.page.column + min (suc n) (canvas.page.width - canvas.page.column) ≡ canvas.page.column + suc n =
        omega (arith, short) in
        subst (λ (k : ℕ). IsBoundary k (cursor_row canvas.page).cells) (sym e) end
    by_end (inr long) =
        let inside = sound.column in
        let e : canvas.page.column + min (suc n) (canvas.page.width - canvas.page.column) ≡ canvas.page.width =
        omega (arith, long, inside) in
        subst (λ (k : ℕ). IsBoundary k (cursor_row canvas.page).cells) (sym e) past
