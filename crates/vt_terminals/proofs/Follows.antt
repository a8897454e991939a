-- A terminal that obeys the laws follows texts with characters of uncertain width.
use Rattle.std.proofs.Common.{◌≡◌, ◌≢◌, ℕ, zero, suc, ◌+◌, ◌-◌, ◌<◌, ◌≤◌, ◌⊎◌, ◌&&◌, ◌||◌, ◌==◌, nat_lt, not, Bool}
use Rattle.std.proofs.Common.{true, false, List, [], ◌∷◌, refl, inl, inr, sym, ap, subst, ◌∙◌, Option, Some, None}
use Rattle.std.proofs.Common.{arith}
use Rattle.std.specs.Prelude.{if◌then◌else◌, map}
use Rattle.std.specs.Char.{encode_utf8}
use Rattle.std.proofs.lemmas.Bool.{cases_eq, cases_lt, cond_both, lt-ltb, and_from}
use Rattle.vt_cells.specs.Attrs.{Attrs}
use Rattle.vt_cells.specs.Cell.{CellValue, is_right_half, is_wide, text_of}
use Rattle.vt_cells.specs.Glyph.{columns_of, glyph_columns, is_selector, is_wide_text}
use Rattle.vt_rows.specs.Cells.{at}
use Rattle.vt_grid.specs.Canvas.{Canvas, and_then, drawn_char, drawn_text}
use Rattle.vt_grid.specs.Page.{Page, cell_at, cursor_row}
use Rattle.vt_grid.specs.Printing.{glyph_put, page_after_print, pushes, room_made, wrapped_page, carries}
use Rattle.vt_grid.specs.Printing.{lifted_page, made_narrow, made_wide, mark_column, mark_printed, mark_put}
use Rattle.vt_grid.specs.Printing.{page_after_wrap, printed_by, takes_mark, width_followed}
use Rattle.vt_grid.proofs.Printing.{column_wrapped_page, width_room_made, width_wrapped_page}
use Rattle.vt_redraw.specs.Certain.{is_certain}
use Rattle.vt_redraw.specs.Doubts.{Doubts, Wrap, NotPending, Pending, Unsure, wrap_at}
use Rattle.vt_redraw.specs.Uses.{HasColumns, IsPortableCharacter, PortableText, doubts_after_text, may_print, Graphic}
use Rattle.vt_redraw.specs.Uses.{canvas_after_print, doubts_after}
use Rattle.vt_redraw.proofs.PortableSteps.{printed}
use Rattle.vt_redraw.proofs.Touched.{some_same}
use Rattle.vt_terminals.specs.Element.{Character}
use Rattle.vt_terminals.specs.Laws.{Laws, stray_columns, Beyond}
use Rattle.vt_terminals.specs.Room.{is_uncertain}
use Rattle.vt_terminals.specs.Sound.{IsSound}
use Rattle.vt_terminals.specs.Terminal.{ReadsAll, Terminal, Positions, vague}
use Rattle.vt_terminals.proofs.Agrees.{Agrees, CursorAgrees, IsStray, IsTidyCharacter, IsTidyText, HasHead}
use Rattle.vt_terminals.proofs.Agrees.{torn_after_first, torn_after_text}
use Rattle.vt_terminals.proofs.Apart.{Stays, stays_glyph}
use Rattle.vt_terminals.proofs.Characters.{some_columns, printed_is, room_kept, room_wraps, room_below, Prints}
use Rattle.vt_terminals.proofs.Characters.{print_unshifted, alone, single_agrees}
use Rattle.vt_terminals.proofs.Glyphs.{sound_glyph, sound_wrapped}

-- ==== Texts with uncertain characters

-- Terminals differ in the cursor's position after the text.
text_shifted : (cs : List ℕ) (doubts : Doubts) (canvas : Canvas) → (doubts.is_shifted || is_uncertain cs) ≡ true →
    (doubts_after_text cs doubts canvas).is_shifted ≡ true
text_shifted [] doubts canvas h = grind (arith, h)
text_shifted (c ∷ cs) doubts canvas h =
    text_shifted cs (doubts_after (Graphic c) doubts canvas) (canvas_after_print c canvas)
    (regroup doubts.is_shifted (not (is_certain c)) (is_uncertain cs) h)
  where
    regroup : (a b d : Bool) → (a || (b || d)) ≡ true → ((a || b) || d) ≡ true
    regroup true b d h = refl
    regroup false b d h = h

drawn_next : (c : ℕ) (cs : List ℕ) (canvas next : Canvas) → drawn_text (c ∷ cs) canvas ≡ Some next →
    drawn_text cs (canvas_after_print c canvas) ≡ Some next
drawn_next c cs canvas next e = by_push (pushes c canvas.page) e where
  by_push : (b : Bool) →
      and_then (drawn_text cs) (if b then None else Some (record canvas
      { page = page_after_print c canvas.attrs canvas.page }))
      ≡ Some next → drawn_text cs (canvas_after_print c canvas) ≡ Some next
  by_push true e = absurd (cc)
  by_push false e = e

width_mark : (c : ℕ) (attrs : Attrs) (page : Page) → (mark_printed c attrs page).width ≡ page.width
unfolding mark_printed page_after_wrap width_followed made_wide
width_mark c attrs page =
    let k = mark_column page in
    let P = λ (p : Page). p.width ≡ page.width in
    cond_both (carries c page) (page_after_wrap c attrs page)
    (if takes_mark (at (cursor_row page).cells k)
    then (if is_selector c then width_followed k attrs (mark_put k c page) else mark_put k c page)
    else page) P
    (λ _. width_wrapped_page (lifted_page k attrs page))
    (λ _. cond_both (takes_mark (at (cursor_row page).cells k))
    (if is_selector c then width_followed k attrs (mark_put k c page) else mark_put k c page) page P
    (λ _. cond_both (is_selector c) (width_followed k attrs (mark_put k c page)) (mark_put k c page) P
    (λ _. follows k (mark_put k c page) refl) (λ _. refl)) (λ _. refl))
  where
    follows : (k : ℕ) (q : Page) → q.width ≡ page.width → (width_followed k attrs q).width ≡ page.width
    follows k q e =
        let cell = at (cursor_row q).cells k in
        let wide = is_wide_text (text_of cell) && nat_lt 1 q.width in
        let P = λ (p : Page). p.width ≡ page.width in
        cond_both (is_wide cell) (if wide then q else made_narrow k attrs q) (if wide then made_wide k attrs q else q) P
        (λ _. cond_both wide q (made_narrow k attrs q) P (λ _. e) (λ _. e))
        (λ _. cond_both wide (made_wide k attrs q) q P (λ _. e) (λ _. e))

width_after_print : (c : ℕ) (attrs : Attrs) (page : Page) → (page_after_print c attrs page).width ≡ page.width
width_after_print c attrs page = by_columns (columns_of c) where
  by_columns : (o : Option ℕ) → (printed_by o c attrs page).width ≡ page.width
  by_columns None = refl
  by_columns (Some zero) =
      cond_both (page.column == 0) page (mark_printed c attrs page) (λ (p : Page). p.width ≡ page.width) (λ _. refl)
      (λ _. width_mark c attrs page)
  by_columns (Some (suc zero)) = width_room_made 1 page
  by_columns (Some (suc (suc n))) =
      cond_both (nat_lt 1 page.width) (glyph_put (encode_utf8 c) true attrs (room_made 2 page)) page
      (λ (p : Page). p.width ≡ page.width) (λ _. width_room_made 2 page) (λ _. refl)

-- A wrap is pending after the text exactly at the end of the row.
text_wraps : (cs : List ℕ) (doubts : Doubts) (canvas next : Canvas) →
    doubts.wrap ≡ wrap_at canvas.page.column canvas.page.width → drawn_text cs canvas ≡ Some next →
    (doubts_after_text cs doubts canvas).wrap ≡ wrap_at next.page.column next.page.width
text_wraps [] doubts canvas next e drawn =
    e ∙ ap (λ (k : Canvas). wrap_at k.page.column k.page.width) (some_same canvas next drawn)
text_wraps (c ∷ cs) doubts canvas next e drawn =
    text_wraps cs (doubts_after (Graphic c) doubts canvas) (canvas_after_print c canvas) next
    (ap (λ (w : ℕ). wrap_at (page_after_print c canvas.attrs canvas.page).column w)
    (sym (width_after_print c canvas.attrs canvas.page)))
    (drawn_next c cs canvas next drawn)

inside_now : (T : Terminal) (wrap : Wrap) (page : Page) (s : T.State) → CursorAgrees T wrap page s →
    page.column < page.width →
    (wrap ≡ NotPending) × T.IsAt s page.row page.column
inside_now T NotPending page s h inside = (refl, h.1)
inside_now T Pending page s h inside = let last = h.0 in absurd (omega (arith, last, inside))
inside_now T Unsure page s h inside = let last = h.0 in absurd (omega (arith, last, inside))

head_may : (cs : List ℕ) (doubts : Doubts) (canvas : Canvas) → HasHead cs → PortableText cs doubts canvas →
    (c : ℕ) × (may_print c doubts.wrap doubts.is_shifted ≡ true)
head_may [] doubts canvas head portable = absurd head
head_may (c ∷ cs) doubts canvas head portable =
    (c, (subst (λ (o : Option ℕ). IsPortableCharacter o c doubts canvas.page) head.1 portable.0).0)

two_columns : (cs : List ℕ) (wide : Bool) → HasHead cs → glyph_columns wide ≤ stray_columns cs
two_columns [] wide head = absurd head
two_columns (c ∷ cs) true head = omega arith
two_columns (c ∷ cs) false head = omega arith

-- A text with an uncertain character changes at most what is near it.
stray_agrees : (T : Terminal) → Laws T → (cs : List ℕ) (near torn : Positions) (doubts : Doubts) (canvas next : Canvas)
    (s t : T.State) → IsSound canvas.page → Agrees T near torn doubts.is_shifted doubts.wrap canvas s →
    PortableText cs doubts canvas → IsStray near cs canvas → drawn_text cs canvas ≡ Some next →
    ReadsAll T (map Character cs) s t →
    Agrees T near (torn_after_text cs canvas.page torn) (doubts_after_text cs doubts canvas).is_shifted
    (doubts_after_text cs doubts canvas).wrap next t
stray_agrees T laws cs near torn doubts canvas next s t sound agrees portable stray drawn reads =
    let may = head_may cs doubts canvas stray.head portable in
    let flat = print_unshifted T near torn doubts.is_shifted doubts.wrap canvas s may.0 agrees may.1 in
    let room = stray.room in
    let low = sound.row in
    let tall = agrees.height in
    let broad = agrees.width in
    let now = inside_now T doubts.wrap canvas.page s (agrees.cursor flat) (omega (arith, room)) in
    let strayed = laws.strays s t canvas.page.row canvas.page.column cs stray.glyph (omega (arith, low, tall))
    (omega (arith, room, broad)) now.1 reads in
    let made = stray.put next drawn in
    let stays = subst (λ (k : Canvas). Stays (stray_columns cs) canvas k) (sym made)
    (stays_glyph canvas (stray_columns cs) stray.text stray.wide sound stray.room (two_columns cs stray.wide stray.head)
    stray.boundary) in
    let wraps = text_wraps cs doubts canvas next (now.0 ∙ sym (inside_wrap canvas.page (omega (arith, room)))) drawn
    ∙ inside_wrap next.page stays.column in
    let same_torn : torn_after_text cs canvas.page torn ≡ torn =
    ap (λ (b : Bool). if b then torn else torn_after_first cs canvas.page torn) stray.uncertain in
    let is_shifted = text_shifted cs doubts canvas
    (ap (λ (b : Bool). b || is_uncertain cs) flat ∙ stray.uncertain) in
    subst (λ (b : Positions). Agrees T near b (doubts_after_text cs doubts canvas).is_shifted
    (doubts_after_text cs doubts canvas).wrap next t) (sym same_torn)
    (record {
      width = stays.width ∙ agrees.width;
      height = stays.height ∙ agrees.height;
      cells = λ r k low inside clear settled.
          let beyond = outside stray r k clear (cases_eq r canvas.page.row) (cases_lt (k + 2) canvas.page.column)
          (cases_lt (canvas.page.column + stray_columns cs) k) in
          subst (λ (x : CellValue). T.Shows t r k x) (sym (stays.cells r k (weaker r k beyond)))
          (strayed.shows r k (cell_at canvas.page r k) beyond (agrees.cells r k low inside clear settled));
      begins = λ r k low inside sure whole.
          let beyond = aside stray r k sure (cases_eq r canvas.page.row) (cases_lt (k + 1) canvas.page.column)
          (cases_lt (canvas.page.column + stray_columns cs) k) in
          strayed.begins r k beyond (agrees.begins r k low inside sure
          (sym (ap is_right_half (stays.cells r k (weaker_begin r k beyond))) ∙ whole));
      attrs = subst (λ (a : Attrs). T.HasAttrs t a) (sym stays.attrs) (strayed.modes.attrs canvas.attrs agrees.attrs);
      hidden = subst (λ (b : Bool). T.Hides t b) (sym stays.hidden) (strayed.modes.hides canvas.hidden agrees.hidden);
      saved = λ low last.
          let row = stays.saved_row in
          subst (λ (r : ℕ). T.HasSaved t r next.saved_attrs) (sym stays.saved_row)
          (subst (λ (a : Attrs). T.HasSaved t canvas.page.saved_row a) (sym stays.saved_attrs)
          (strayed.modes.saved canvas.page.saved_row canvas.saved_attrs
          (agrees.saved (omega (arith, row, low)) (sym stays.saved_column ∙ last))));
      cursor = λ f. let both = sym is_shifted ∙ f in absurd (cc);
      calm = λ _ pending. let both = sym wraps ∙ pending in absurd (no_wrap both);
    })
  where
    no_wrap : NotPending ≡ Pending → ⊥
    no_wrap e = cc

    inside_wrap : (page : Page) → page.column < page.width → wrap_at page.column page.width ≡ NotPending
    inside_wrap page lt = ap (λ (b : Bool). if b then NotPending else Pending) (lt-ltb page.column page.width lt)

    outside : IsStray near cs canvas → (r k : ℕ) → near r k ≡ false → (r ≡ canvas.page.row) ⊎ (r ≢ canvas.page.row) →
        (k + 2 < canvas.page.column) ⊎ (canvas.page.column ≤ k + 2) →
        (canvas.page.column + stray_columns cs < k) ⊎ (k ≤ canvas.page.column + stray_columns cs) →
        Beyond canvas.page.row canvas.page.column (stray_columns cs) r k
    outside stray r k clear (inr ne) x y = inl ne
    outside stray r k clear (inl e) (inl lt) y = inr (inl lt)
    outside stray r k clear (inl e) (inr le) (inl lt) = inr (inr lt)
    outside stray r k clear (inl e) (inr le) (inr more) =
        let there = stray.region k le more in
        let both : true ≡ false = sym there ∙ (ap (λ (i : ℕ). near i k) (sym e) ∙ clear) in absurd (cc)

    weaker : (r k : ℕ) → Beyond canvas.page.row canvas.page.column (stray_columns cs) r k →
        (r ≢ canvas.page.row) ⊎ ((k < canvas.page.column) ⊎ (canvas.page.column + stray_columns cs < k))
    weaker r k (inl ne) = inl ne
    weaker r k (inr (inl lt)) = inr (inl (omega (arith, lt)))
    weaker r k (inr (inr lt)) = inr (inr lt)

    aside : IsStray near cs canvas → (r k : ℕ) → vague near r k ≡ false →
        (r ≡ canvas.page.row) ⊎ (r ≢ canvas.page.row) →
        (k + 1 < canvas.page.column) ⊎ (canvas.page.column ≤ k + 1) →
        (canvas.page.column + stray_columns cs < k) ⊎ (k ≤ canvas.page.column + stray_columns cs) →
        (r ≢ canvas.page.row) ⊎ ((k + 1 < canvas.page.column) ⊎ (canvas.page.column + stray_columns cs < k))
    aside stray r k sure (inr ne) x y = inl ne
    aside stray r k sure (inl e) (inl lt) y = inr (inl lt)
    aside stray r k sure (inl e) (inr le) (inl lt) = inr (inr lt)
    aside stray r k sure (inl e) (inr le) (inr more) =
        let here = stray.region k (omega (arith, le)) more in
        let back = stray.region (k - 1) (omega (arith, le)) (omega (arith, more)) in
        let both : vague near canvas.page.row k ≡ true =
        and_from (near canvas.page.row (k - 1)) (near canvas.page.row k) back here in
        let clash : true ≡ false = sym both ∙ (ap (λ (i : ℕ). vague near i k) (sym e) ∙ sure) in absurd (cc)

    weaker_begin : (r k : ℕ) →
        (r ≢ canvas.page.row) ⊎ ((k + 1 < canvas.page.column) ⊎ (canvas.page.column + stray_columns cs < k)) →
        (r ≢ canvas.page.row) ⊎ ((k < canvas.page.column) ⊎ (canvas.page.column + stray_columns cs < k))
    weaker_begin r k (inl ne) = inl ne
    weaker_begin r k (inr (inl lt)) = inr (inl (omega (arith, lt)))
    weaker_begin r k (inr (inr lt)) = inr (inr lt)

-- A text is read character by character.
pub text_agrees : (T : Terminal) → Laws T →
    (cs : List ℕ) (near torn : Positions) (doubts : Doubts) (canvas next : Canvas)
    (s t : T.State) → IsSound canvas.page → Agrees T near torn doubts.is_shifted doubts.wrap canvas s →
    PortableText cs doubts canvas → IsTidyText near cs canvas → drawn_text cs canvas ≡ Some next →
    ReadsAll T (map Character cs) s t →
    Agrees T near (torn_after_text cs canvas.page torn) (doubts_after_text cs doubts canvas).is_shifted
    (doubts_after_text cs doubts canvas).wrap next t
text_agrees T laws cs near torn doubts canvas next s t sound agrees portable (inl one) drawn reads =
    single_agrees T laws cs near torn doubts canvas next s t sound agrees portable one drawn reads
text_agrees T laws cs near torn doubts canvas next s t sound agrees portable (inr stray) drawn reads =
    stray_agrees T laws cs near torn doubts canvas next s t sound agrees portable stray drawn reads

-- ---- the page stays sound

character_sound : (doubts : Doubts) (canvas next : Canvas) (c : ℕ) (wide : Bool) →
    Prints c wide doubts.wrap doubts.is_shifted canvas next → HasColumns (glyph_columns wide) canvas.page →
    IsSound next.page
character_sound doubts canvas next c wide h room =
    let n = glyph_columns wide in
    let page = canvas.page in
    let is = printed_is c wide canvas.attrs page h.columns (narrow room) in
    subst (λ (k : Canvas). IsSound k.page) (printed c canvas next h.drawn)
    (subst IsSound (sym is) (by_room room))
  where
    narrow : HasColumns (glyph_columns wide) canvas.page → glyph_columns wide ≤ canvas.page.width
    narrow (inl fits) = omega (arith, fits)
    narrow (inr ends) = ends.1

    begin : (wrapped_page canvas.page).column ≡ 0 → (wrapped_page canvas.page).width ≡ canvas.page.width →
        glyph_columns wide ≤ canvas.page.width →
        (wrapped_page canvas.page).column + glyph_columns wide ≤ (wrapped_page canvas.page).width
    begin first same fits = omega (arith, first, same, fits)

    by_room : HasColumns (glyph_columns wide) canvas.page →
        IsSound (glyph_put (encode_utf8 c) wide canvas.attrs (room_made (glyph_columns wide) canvas.page))
    by_room (inl fits) =
        subst (λ (p : Page). IsSound (glyph_put (encode_utf8 c) wide canvas.attrs p))
        (sym (room_kept (glyph_columns wide) canvas.page fits))
        (sound_glyph (encode_utf8 c) wide canvas.attrs canvas.page h.sound fits)
    by_room (inr ends) =
        let below = room_below c wide canvas next h.sound h.drawn h.columns ends.1 ends.0 in
        subst (λ (p : Page). IsSound (glyph_put (encode_utf8 c) wide canvas.attrs p))
        (sym (room_wraps (glyph_columns wide) canvas.page (some_columns wide) ends.1 ends.0))
        (sound_glyph (encode_utf8 c) wide canvas.attrs (wrapped_page canvas.page)
        (sound_wrapped canvas.page h.sound below)
        (begin (column_wrapped_page canvas.page) (width_wrapped_page canvas.page) ends.1))

single_sound : (cs : List ℕ) (doubts : Doubts) (canvas next : Canvas) → IsSound canvas.page →
    PortableText cs doubts canvas → IsTidyCharacter cs canvas.page → drawn_text cs canvas ≡ Some next →
    IsSound next.page
single_sound [] doubts canvas next sound portable tidy drawn = absurd tidy
single_sound (c ∷ d ∷ cs) doubts canvas next sound portable tidy drawn = absurd tidy
single_sound (c ∷ []) doubts canvas next sound portable tidy drawn =
    by_columns tidy.0 tidy.1.1.0 (subst (λ (o : Option ℕ). IsPortableCharacter o c doubts canvas.page) tidy.1.1.0
    portable.0)
  where
    by_columns : (wide : Bool) → columns_of c ≡ Some (glyph_columns wide) →
        IsPortableCharacter (Some (glyph_columns wide)) c doubts canvas.page → IsSound next.page
    by_columns false columns p =
        character_sound doubts canvas next c false
        (record {
          sound = sound;
          certain = tidy.1.0;
          columns = columns;
          boundary = tidy.1.1.1;
          may = p.0;
          drawn = alone (drawn_char c canvas) next drawn;
        }) p.1
    by_columns true columns p =
        character_sound doubts canvas next c true
        (record {
          sound = sound;
          certain = tidy.1.0;
          columns = columns;
          boundary = tidy.1.1.1;
          may = p.0;
          drawn = alone (drawn_char c canvas) next drawn;
        }) p.1

pub text_sound : (near : Positions) (cs : List ℕ) (doubts : Doubts) (canvas next : Canvas) → IsSound canvas.page →
    PortableText cs doubts canvas → IsTidyText near cs canvas → drawn_text cs canvas ≡ Some next → IsSound next.page
text_sound near cs doubts canvas next sound portable (inl one) drawn =
    single_sound cs doubts canvas next sound portable one drawn
text_sound near cs doubts canvas next sound portable (inr stray) drawn =
    subst (λ (k : Canvas). IsSound k.page) (sym (stray.put next drawn))
    (stays_glyph canvas (stray_columns cs) stray.text stray.wide sound stray.room (two_columns cs stray.wide stray.head)
    stray.boundary).sound
