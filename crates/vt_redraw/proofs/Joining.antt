-- The link of a row with the row above it: the first cell at a pending wrap, and the state after it.
use Rattle.std.proofs.Common.{◌≡◌, ◌≢◌, ◌⊎◌, ℕ, suc, ◌+◌, ◌<◌, ◌≤◌, ◌&&◌, ◌||◌, Bool, true, false, not, List, [], ◌∷◌}
use Rattle.std.proofs.Common.{◌++◌, length, drop, Some, inl, inr, refl, sym, ap, ◌∙◌, subst, append_assoc, arith}
use Rattle.std.proofs.lemmas.Bool.{cond_both}
use Rattle.std.proofs.lemmas.List.{length-append}
use Rattle.vt_cells.specs.Cell.{CellValue, blank, glyph, right_half, default_blank, is_wide, is_right_half}
use Rattle.vt_cells.specs.Op.{Op, Print, EraseChars}
use Rattle.vt_cells.specs.Attrs.{Attrs}
use Rattle.vt_rows.specs.Cells.{at, cells_after_cut}
use Rattle.vt_rows.specs.Row.{RowValue}
use Rattle.vt_grid.specs.Canvas.{Canvas}
use Rattle.vt_redraw.specs.Script.{pen_at, pen_in, attr_ops_in, back_op}
use Rattle.vt_redraw.specs.declared.form.Form.{Form}
use Rattle.vt_redraw.specs.declared.pen.Pen.{Pen}
use Rattle.vt_redraw.proofs.Edits.{Reads, Within, row_of, mid, two, two_mid, orphan}
use Rattle.vt_redraw.proofs.Edits.{with_glyph}
use Rattle.vt_redraw.specs.Script.{Linked, first_written, is_nil, no_link, wrapped_after_glyph}
use Rattle.vt_redraw.specs.Script.{after_last_glyph, is_at, last_column, ops_then_link, row_link, starts_other}
use Rattle.vt_redraw.proofs.Halves.{Paired, paired_loose, loose_step, opened_paired, ends, Sound}
use Rattle.vt_redraw.proofs.Texts.{space_prints}
use Rattle.vt_redraw.proofs.Touched.{DrawsIn, in_then, in_to}
use Rattle.vt_redraw.proofs.Row.{Lets, torn_may, starts_none}
use Rattle.vt_redraw.proofs.Places.{PrintsCells, shown, Ready}
use Rattle.vt_redraw.proofs.Link.{going_after_draws}
use Rattle.vt_redraw.proofs.Ranges.{no_tail}
use Rattle.vt_redraw.proofs.Fitting.{after_form}
use Rattle.vt_redraw.proofs.PortableLinks.{after_portably}
use Rattle.vt_redraw.proofs.PortableParts.{Portably, nothing_portably, portably_both}
use Rattle.vt_redraw.proofs.Wrapping.{blank_portably, first_blank, first_glyph, first_sound, glyph_sound, linked_glyph}
use Rattle.vt_redraw.proofs.Wrapping.{linked_ops, linked_portably}
use Rattle.vt_redraw.specs.Script.{shifts}
use Rattle.vt_redraw.specs.declared.form.Form.TheVariants.{Portable}

-- ---- the first cell, at a pending wrap

-- The canvas after a link: whether the upper row is wrapped, and how many cells at the beginning of the lower row are
-- drawn. In the portable form, the link is portable; `was` tells whether terminals may differ in the cursor's position
-- before it.
pub record Joins (May : ℕ → ℕ → Type 0) (form : Form) (was : Bool) (j : Linked) (base : Canvas) (done below : List
    RowValue)
    (start : Canvas) (above : List CellValue) (to : Bool) (xs ys : List CellValue) (height : ℕ) : Type 0 where
  pub torn : CellValue
  pub whole : is_right_half torn ≡ false
  pub portable : form ≡ Portable →
      Portably j.ops was start j.pen.is_shifted (two base done below above to (shown [] torn j.settled xs ys) j.wrapped
      j.pen)
  pub draws : DrawsIn May j.ops start (two base done below above to (shown [] torn j.settled xs ys) j.wrapped j.pen)
  pub ready : Ready xs ys [] torn j.settled j.wrapped
  pub within : Within j.pen height base.page.width

-- With a wrap pending and the current attributes `b`, the first cell of a row is drawn.
pub first_draws : (May : ℕ → ℕ → Type 0) (form : Form) (shifted : Bool) (base : Canvas) (done below : List RowValue)
    (above xs ys : List CellValue) (wrapped_above wrapped : Bool) (r height : ℕ) (b : Attrs) →
    base.page.origin ≡ false → length done ≡ r → base.page.bottom + 1 ≡ height → r + suc (suc (length below)) ≡ height →
    length xs ≡ base.page.width → length ys ≡ base.page.width → 0 < base.page.width →
    ends above ≡ false → Paired xs → Paired ys → Sound wrapped ys → PrintsCells base.page.width xs →
    Lets May (r + 1) 0 xs ys → May (r + 1) 0 → (is_wide (at xs 0) ≡ true → May (r + 1) 1) →
    Joins May form shifted (first_written (r + 1) (record (pen_in form r base.page.width b) { is_shifted = shifted })
    wrapped xs ys) base done
    below
    (two base done below above wrapped_above ys wrapped (pen_at r base.page.width b)) above true xs ys height
first_draws May form shifted base done below above [] ys wrapped_above wrapped r height b origin e
    bottom rows hx hy pos full h k sound prints lets begin second = absurd (omega arith)
first_draws May form shifted base done below above (x ∷ xs) [] wrapped_above wrapped r height b
    origin e bottom rows hx hy pos full h k sound prints lets begin second = absurd (omega arith)
first_draws May form shifted base done below above (right_half ∷ xs) (y ∷ ys) wrapped_above wrapped r
    height b origin e bottom rows hx hy pos full h k sound prints lets begin second = absurd h
first_draws May form shifted base done below above (glyph text false a ∷ xs) (y ∷ ys) wrapped_above wrapped
    r height b origin e bottom rows hx hy pos full h k sound prints lets begin second =
    let now = wrapped_after_glyph wrapped false (drop 1 ys) in
    record {
      torn = orphan false a;
      whole = refl;
      portable = λ is. subst (λ (k : Canvas). Portably (linked_ops form shifted base r b text a) shifted
          (two base done below above wrapped_above (y ∷ ys) wrapped (pen_at r base.page.width b)) (shifts form text) k)
          (sym (two_mid base done below above true (with_glyph [] text false a ys) now (pen_at (r + 1) 1 a)))
          (linked_portably form is shifted base done below above wrapped_above y ys wrapped r b text false a origin e
          (omega arith) full k sound (omega arith) prints.0);
      draws = in_to May (linked_ops form shifted base r b text a) _ _ _
          (linked_glyph May form shifted base done below above wrapped_above y ys wrapped r b text
          false a origin e (omega arith) full k sound (omega arith) prints.0
          (record {
            first = begin;
            second = λ t. absurd (cc);
            torn = λ t. torn_may May (r + 1) 1 xs ys h lets.1 (omega arith) (no_tail xs ys (omega arith)) t;
          }))
          (sym (two_mid base done below above true (with_glyph [] text false a ys) now (pen_at (r + 1) 1 a)));
      ready = record {
        same = omega arith;
        tail = no_tail (glyph text false a ∷ xs) (y ∷ ys) (hx ∙ sym hy);
        le = omega arith;
        behind = tt;
        new = h;
        old = loose_step y ys (paired_loose (y ∷ ys) k);
        sound = glyph_sound y ys wrapped text false a k sound;
      };
      within = record { row = omega arith; col = omega arith };
    }
first_draws May form shifted base done below above (blank a ∷ xs) (y ∷ ys) wrapped_above wrapped r
    height b origin e bottom rows hx hy pos full h k sound prints lets begin second =
    let top = done ++ row_of above true ∷ [] in
    let n : length top ≡ r + 1 = let l = length-append done (row_of above true ∷ []) in omega arith in
    let goal = blank a ∷ cells_after_cut (orphan false a) ys in
    let now = wrapped && not (is_nil ys) in
    let start = two base done below above wrapped_above (y ∷ ys) wrapped (pen_at r base.page.width b) in
    let spaced = mid base top below (with_glyph [] (0x20 ∷ []) false a ys)
    (wrapped_after_glyph wrapped false (drop 1 ys)) (pen_at (r + 1) 1 a) in
    record {
      torn = orphan false a;
      whole = refl;
      portable = λ is. blank_portably form is base done below above wrapped_above y ys wrapped r b a shifted origin e
          (omega arith)
          pos full k
          sound;
      draws =
          regrouped (attr_ops_in form b a) (Print (0x20 ∷ [])) (back_op form (r + 1) 0 ∷ EraseChars 1 ∷ [])
          start spaced (two base done below above true goal now (pen_at (r + 1) 0 a))
          (first_glyph May form base done below above wrapped_above y ys wrapped r b (0x20 ∷ []) false a
          e (omega arith) full k sound (omega arith) (space_prints base.page.width pos)
          (record {
            first = begin;
            second = λ t. absurd (cc);
            torn = λ t. torn_may May (r + 1) 1 xs ys h lets.1 (omega arith) (no_tail xs ys (omega arith)) t;
          }))
          (in_to May (back_op form (r + 1) 0 ∷ EraseChars 1 ∷ []) spaced (mid base top below goal now (pen_at (r + 1) 0
          a))
          (two base done below above true goal now (pen_at (r + 1) 0 a))
          (first_blank May form base top below y ys wrapped (r + 1) a origin n pos k sound begin)
          (sym (two_mid base done below above true goal now (pen_at (r + 1) 0 a))));
      ready = record {
        same = omega arith;
        tail = no_tail (blank a ∷ xs) (y ∷ ys) (hx ∙ sym hy);
        le = omega arith;
        behind = tt;
        new = h;
        old = loose_step y ys (paired_loose (y ∷ ys) k);
        sound = first_sound y ys wrapped a k sound;
      };
      within = record { row = omega arith; col = omega arith };
    }
  where
    regrouped : (ops : List Op) (op : Op) (more : List Op) (a b c : Canvas) →
        DrawsIn May (ops ++ op ∷ []) a b → DrawsIn May more b c → DrawsIn May (ops ++ op ∷ more) a c
    regrouped ops op more a b c h k =
        subst (λ (z : List Op). DrawsIn May z a c) (append_assoc ops (op ∷ []) more)
        (in_then May (ops ++ op ∷ []) more a b c h k)
first_draws May form shifted base done below above (glyph text true a ∷ []) (y ∷ ys) wrapped_above wrapped
    r height b origin e bottom rows hx hy pos full h k sound prints lets begin second = absurd h
first_draws May form shifted base done below above (glyph text true a ∷ blank c ∷ xs) (y ∷ ys) wrapped_above
    wrapped r height b origin e bottom rows hx hy pos full h k sound prints lets begin second = absurd h
first_draws May form shifted base done below above (glyph text true a ∷ glyph other wide c ∷ xs) (y ∷ ys)
    wrapped_above wrapped r height b origin e bottom rows hx hy pos full h k sound prints lets begin second = absurd h
first_draws May form shifted base done below above (glyph text true a ∷ right_half ∷ xs) (y ∷ []) wrapped_above
    wrapped r height b origin e bottom rows hx hy pos full h k sound prints lets begin second = absurd (omega arith)
first_draws May form shifted base done below above (glyph text true a ∷ right_half ∷ xs) (y ∷ y2 ∷ ys)
    wrapped_above wrapped r height b origin e bottom rows hx hy pos full h k sound prints lets begin second =
    let now = wrapped_after_glyph wrapped true ys in
    record {
      torn = orphan true a;
      whole = refl;
      portable = λ is. subst (λ (k : Canvas). Portably (linked_ops form shifted base r b text a) shifted
          (two base done below above wrapped_above (y ∷ y2 ∷ ys) wrapped (pen_at r base.page.width b))
          (shifts form text) k)
          (sym (two_mid base done below above true (with_glyph [] text true a (y2 ∷ ys)) now (pen_at (r + 1) 2 a)))
          (linked_portably form is shifted base done below above wrapped_above y (y2 ∷ ys) wrapped r b text
          true a origin e (omega arith) full k sound (omega arith) prints.0);
      draws = in_to May (linked_ops form shifted base r b text a) _ _ _
          (linked_glyph May form shifted base done below above wrapped_above y (y2 ∷ ys) wrapped r b
          text true a origin e (omega arith) full k sound (omega arith) prints.0
          (record {
            first = begin;
            second = λ _. second refl;
            torn = λ t. torn_may May (r + 1) 2 xs ys h lets.1 (omega arith) (no_tail xs ys (omega arith)) t;
          }))
          (sym (two_mid base done below above true (with_glyph [] text true a (y2 ∷ ys)) now (pen_at (r + 1) 2 a)));
      ready = record {
        same = omega arith;
        tail = no_tail (glyph text true a ∷ right_half ∷ xs) (y ∷ y2 ∷ ys) (hx ∙ sym hy);
        le = omega arith;
        behind = tt;
        new = h;
        old = loose_step y2 ys (loose_step y (y2 ∷ ys) (paired_loose (y ∷ y2 ∷ ys) k));
        sound = glyph_sound y (y2 ∷ ys) wrapped text true a k sound;
      };
      within = record { row = omega arith; col = omega arith };
    }

-- ---- the link

pub ready_start : (xs ys : List CellValue) (wrapped : Bool) → length xs ≡ length ys →
    Paired xs → Paired ys → Sound wrapped ys → Ready xs ys [] default_blank 0 wrapped
ready_start xs ys wrapped same h k sound = record {
  same = omega arith;
  tail = no_tail xs ys same;
  le = omega arith;
  behind = tt;
  new = h;
  old = paired_loose ys k;
  sound = subst (Sound wrapped) (sym (opened_paired default_blank ys k)) sound;
}

-- No link is needed if the row above already has the right wrapped flag.
pub no_join : (May : ℕ → ℕ → Type 0) (base : Canvas) (done below : List RowValue)
    (above xs ys : List CellValue) (wrapped_above to wrapped : Bool) (pen : Pen) (height : ℕ) →
    wrapped_above ≡ to → length xs ≡ length ys → Paired xs → Paired ys → Sound wrapped ys → Within pen height
    base.page.width →
    Joins May pen.form pen.is_shifted (no_link pen wrapped) base done below
    (two base done below above wrapped_above ys wrapped pen)
    above to xs ys height
no_join May base done below above xs ys wrapped_above to wrapped pen height t same h k sound within = record {
  torn = default_blank;
  whole = refl;
  portable = λ _. subst (λ (c : Canvas). Portably [] pen.is_shifted
      (two base done below above wrapped_above ys wrapped pen) pen.is_shifted c)
      (ap (λ (z : Bool). two base done below above z ys wrapped pen) t
      ∙ ap (λ (z : List CellValue). two base done below above to z wrapped pen)
      (sym (opened_paired default_blank ys k)))
      (nothing_portably pen.is_shifted (two base done below above wrapped_above ys wrapped pen));
  draws = record {
    draws =
        ap (λ (z : Bool). Some (two base done below above z ys wrapped pen)) t
        ∙ ap (λ (z : List CellValue). Some (two base done below above to z wrapped pen))
        (sym (opened_paired default_blank ys k));
    touches = tt;
  };
  ready = ready_start xs ys wrapped same h k sound;
  within = within;
}

joins_after : (May : ℕ → ℕ → Type 0) (form : Form) (was middle : Bool) (ops : List Op) (j : Linked) (base : Canvas)
    (done below : List RowValue) (a b : Canvas) (above : List CellValue) (to : Bool) (xs ys : List CellValue) (height :
    ℕ) →
    DrawsIn May ops a b → (form ≡ Portable → Portably ops was a middle b) →
    Joins May form middle j base done below b above to xs ys height →
    Joins May form was (ops_then_link ops j) base done below a above to xs ys height
joins_after May form was middle ops j base done below a b above to xs ys height h go k = record {
  torn = k.torn;
  whole = k.whole;
  portable = λ is. portably_both ops j.ops was middle j.pen.is_shifted a b
      (two base done below above to (shown [] k.torn j.settled xs ys) j.wrapped j.pen) h.draws (go is) (k.portable is);
  draws =
      in_then May ops j.ops a b (two base done below above to (shown [] k.torn j.settled xs ys) j.wrapped
      j.pen) h k.draws;
  ready = k.ready;
  within = k.within;
}

stays_on : (wrapped_above b : Bool) → (not wrapped_above || b) ≡ false → wrapped_above ≡ true
stays_on wrapped_above b h = grind (arith, h)

-- A link is needed in two cases: the row above is not wrapped, or the row begins with a glyph that the terminal does
-- not display.
link_cases : (wrapped_above at other : Bool) → (not wrapped_above || (at && other)) ≡ true → (wrapped_above ≡ false)
    ⊎ ((at ≡ true) × (other ≡ true))
link_cases true true true h = inr (refl, refl)
link_cases true true false h = absurd (cc)
link_cases true false other h = absurd (cc)
link_cases false at other h = inl refl

at_other : (wrapped_above at other : Bool) → (not wrapped_above || (at && other)) ≡ true → at ≡ false →
    wrapped_above ≡ false
at_other wrapped_above at other h t = grind (arith, h, t)

starts_differ : (xs ys : List CellValue) → starts_other xs ys ≡ true → xs ≢ ys
starts_differ xs ys h e =
    let k = starts_none ys in let z = ap (λ (z : List CellValue). starts_other z ys) (sym e) ∙ h in cc

pub link_draws : (May : ℕ → ℕ → Type 0) (base : Canvas) (done below : List RowValue)
    (above xs ys : List CellValue) (wrapped_above wrapped : Bool) (r height : ℕ) (pen : Pen) →
    Reads base height base.page.width → length done ≡ r → r + suc (suc (length below)) ≡ height →
    length above ≡ base.page.width → length xs ≡ base.page.width → length ys ≡ base.page.width →
    Paired above → ends above ≡ false → PrintsCells base.page.width above →
    Paired xs → Paired ys → Sound wrapped ys → PrintsCells base.page.width xs →
    Within pen height base.page.width → (wrapped_above ≡ false → (k : ℕ) → last_column above ≤ k → k < base.page.width
    → May r k) →
    ((wrapped_above ≡ false) ⊎ (xs ≢ ys) → Lets May (r + 1) 0 xs ys × May (r + 1) 0
    × (is_wide (at xs 0) ≡ true → May (r + 1) 1)) →
    Joins May pen.form pen.is_shifted (row_link r pen above wrapped_above wrapped xs ys) base done below
    (two base done below above wrapped_above ys wrapped pen) above true xs ys height
unfolding row_link
link_draws May base done below above xs ys wrapped_above wrapped r height pen reads e
    rows ha hx hy pa full above_prints h k sound prints within last near =
    let behind = after_last_glyph r pen above in
    let start = two base done below above wrapped_above ys wrapped pen in
    let test = not wrapped_above || (is_at pen r (length above) && starts_other xs ys) in
    cond_both test (ops_then_link behind.ops (first_written (r + 1) behind.pen wrapped xs ys))
    (no_link pen wrapped) (λ (j : Linked). Joins May pen.form pen.is_shifted j base done below start above true xs ys
    height)
    (λ (t : test ≡ true).
    let goes = going_after_draws May base done (row_of ys wrapped ∷ below) above wrapped_above r height pen reads
    e rows ha pa
    full above_prints within (λ f. last (at_other wrapped_above (is_at pen r (length above))
    (starts_other xs ys) t f)) in
    let may = near (by_cases (link_cases wrapped_above (is_at pen r (length above)) (starts_other xs ys) t)) in
    joins_after May pen.form pen.is_shifted behind.pen.is_shifted behind.ops
    (first_written (r + 1) behind.pen wrapped xs ys) base
    done below start (two base done below above wrapped_above ys wrapped behind.pen) above true xs ys height goes.draws
    (λ is. after_portably base done (row_of ys wrapped ∷ below) above wrapped_above r height pen is reads e
    rows ha pa full above_prints within)
    (subst (λ (q : Pen). Joins May pen.form q.is_shifted (first_written (r + 1) q wrapped xs ys) base
    done below (two base done below above wrapped_above ys wrapped q) above true xs ys height)
    (sym goes.there)
    (subst (λ (f : Form). Joins May f behind.pen.is_shifted
    (first_written (r + 1) (record behind.pen { row = r; col = base.page.width }) wrapped xs ys) base done below
    (two base done below above wrapped_above ys wrapped (record behind.pen { row = r; col = base.page.width }))
    above true xs ys
    height)
    (after_form r pen above)
    (first_draws May behind.pen.form behind.pen.is_shifted base done below above xs ys wrapped_above wrapped r height
    behind.pen.attrs reads.origin e
    reads.bottom rows hx hy reads.has_columns full h k sound prints may.0 may.1 may.2))))
    (λ (t : test ≡ false). no_join May base done below above xs ys wrapped_above true wrapped pen height
    (stays_on wrapped_above (is_at pen r (length above) && starts_other xs ys) t) (hx ∙ sym hy) h k sound within)
  where
    by_cases : (wrapped_above ≡ false) ⊎ ((is_at pen r (length above) ≡ true) × (starts_other xs ys ≡ true)) →
        (wrapped_above ≡ false) ⊎ (xs ≢ ys)
    by_cases (inl f) = inl f
    by_cases (inr both) = inr (starts_differ xs ys both.1)
