-- A terminal that obeys the laws follows certain characters that are printed.
use Rattle.std.proofs.Common.{◌≡◌, ℕ, ◌+◌, ◌-◌, ◌<◌, ◌≤◌, ◌⊎◌, ◌||◌, not, Bool, true, false, List, [], ◌∷◌, length}
use Rattle.std.proofs.Common.{refl, inl, inr, sym, ap, subst, ◌∙◌, Option, Some, None, arith}
use Rattle.std.specs.Prelude.{if◌then◌else◌, map}
use Rattle.std.specs.Char.{encode_utf8}
use Rattle.std.proofs.lemmas.Bool.{lt-ltb, le-ltb, and_cases}
use Rattle.vt_cells.specs.Attrs.{Attrs}
use Rattle.vt_cells.specs.Glyph.{columns_of, glyph_columns}
use Rattle.vt_grid.specs.Canvas.{Canvas, and_then, drawn_char, drawn_text}
use Rattle.vt_grid.specs.Moves.{feeds_out}
use Rattle.vt_grid.specs.Page.{Page, cursor_row}
use Rattle.vt_grid.specs.Printing.{glyph_put, page_after_print, pushes, room_made, wrapped_page, wraps, wraps_for}
use Rattle.vt_grid.proofs.Printing.{column_wrapped_page, printed_narrow, printed_wide, width_room_made}
use Rattle.vt_grid.proofs.Printing.{width_wrapped_page}
use Rattle.vt_redraw.specs.Certain.{is_certain}
use Rattle.vt_redraw.specs.Doubts.{Doubts, Wrap, NotPending, Pending, Unsure, wrap_at}
use Rattle.vt_redraw.specs.Uses.{HasColumns, IsBoundary, IsPortableCharacter, PortableText, doubts_after_text}
use Rattle.vt_redraw.specs.Uses.{may_print}
use Rattle.vt_redraw.proofs.PortableSteps.{printed}
use Rattle.vt_terminals.specs.Element.{Character}
use Rattle.vt_terminals.specs.Laws.{Laws, Printed, glyph_cells}
use Rattle.vt_terminals.specs.Sound.{IsSound}
use Rattle.vt_terminals.specs.Terminal.{ReadsAll, Terminal, Positions}
use Rattle.vt_terminals.proofs.Agrees.{Agrees, IsTidyCharacter, torn_after_columns, torn_after_print, torn_after_text}
use Rattle.vt_terminals.proofs.Glyphs.{glyph_agrees, printed_agrees, row_wrapped_page, sound_wrapped, wrap_agrees}
use Rattle.vt_terminals.proofs.Pages.{fed_below}

-- ==== Characters

pub some_columns : (wide : Bool) → 0 < glyph_columns wide
some_columns true = omega arith
some_columns false = omega arith

pub printed_is : (c : ℕ) (wide : Bool) (attrs : Attrs) (page : Page) → columns_of c ≡ Some (glyph_columns wide) →
    glyph_columns wide ≤ page.width →
    page_after_print c attrs page ≡ glyph_put (encode_utf8 c) wide attrs (room_made (glyph_columns wide) page)
printed_is c false attrs page columns fits = printed_narrow c attrs page columns
printed_is c true attrs page columns fits =
    printed_wide c attrs page columns
    ∙ ap (λ (b : Bool). if b then glyph_put (encode_utf8 c) true attrs (room_made 2 page) else page)
    (lt-ltb 1 page.width fits)

column_put : (text : List ℕ) (wide : Bool) (attrs : Attrs) (page : Page) →
    (glyph_put text wide attrs page).column ≡ page.column + glyph_columns wide
column_put text false attrs page = refl
column_put text true attrs page = refl

pub room_kept : (n : ℕ) (page : Page) → page.column + n ≤ page.width → room_made n page ≡ page
unfolding room_made
room_kept n page fits = rw (le-ltb (page.width - n) page.column (omega (arith, fits))) refl

pub room_wraps : (n : ℕ) (page : Page) → 0 < n → n ≤ page.width → page.column ≡ page.width →
    room_made n page ≡ wrapped_page page
unfolding room_made
room_wraps n page some fits last = rw (lt-ltb (page.width - n) page.column (omega (arith, some, fits, last))) refl

-- Printing a character while a wrap is pending wraps.
wraps_at_end : (c : ℕ) (wide : Bool) (page : Page) → columns_of c ≡ Some (glyph_columns wide) →
    glyph_columns wide ≤ page.width → page.column ≡ page.width → wraps c page ≡ true
wraps_at_end c false page columns fits last =
    ap (λ (o : Option ℕ). wraps_for o c page) columns ∙ lt-ltb (page.width - 1) page.column (omega (arith, fits, last))
wraps_at_end c true page columns fits last =
    ap (λ (o : Option ℕ). wraps_for o c page) columns
    ∙ rw (lt-ltb 1 page.width fits, lt-ltb (page.width - 2) page.column (omega (arith, fits, last))) refl

not_pushed : (c : ℕ) (canvas next : Canvas) → drawn_char c canvas ≡ Some next → pushes c canvas.page ≡ false
not_pushed c canvas next e = by_push (pushes c canvas.page) e where
  by_push : (b : Bool) →
      (if b then None else Some (record canvas { page = page_after_print c canvas.attrs canvas.page })) ≡ Some next →
      b ≡ false
  by_push true e = absurd (cc)
  by_push false e = refl

-- A pending wrap is above the last row if printing a character scrolls no row off the page.
pub room_below : (c : ℕ) (wide : Bool) (canvas next : Canvas) → IsSound canvas.page → drawn_char c canvas ≡ Some next →
    columns_of c ≡ Some (glyph_columns wide) → glyph_columns wide ≤ canvas.page.width →
    canvas.page.column ≡ canvas.page.width → canvas.page.row + 1 < length canvas.page.rows
room_below c wide canvas next sound drawn columns fits last =
    fed_below canvas.page sound
    (by_parts (and_cases (wraps c canvas.page) (feeds_out canvas.page) (not_pushed c canvas next drawn)))
  where
    by_parts : (wraps c canvas.page ≡ false) ⊎ (feeds_out canvas.page ≡ false) → feeds_out canvas.page ≡ false
    by_parts (inl f) = let t = wraps_at_end c wide canvas.page columns fits last in absurd (cc)
    by_parts (inr f) = f

-- The facts about a character that is printed.
pub record Prints (c : ℕ) (wide : Bool) (wrap : Wrap) (is_shifted : Bool) (canvas next : Canvas) : Type 0 where
  pub sound : IsSound canvas.page
  pub certain : is_certain c ≡ true
  pub columns : columns_of c ≡ Some (glyph_columns wide)
  pub boundary : IsBoundary canvas.page.column (cursor_row canvas.page).cells
  pub may : may_print c wrap is_shifted ≡ true
  pub drawn : drawn_char c canvas ≡ Some next

abbrev Goal : (T : Terminal) (near torn : Positions) (c : ℕ) (wide : Bool) (canvas : Canvas) (t : T.State) → Page →
    Type 0
Goal T near torn c wide canvas t page =
    Agrees T near (torn_after_print (glyph_columns wide) page torn) false
    (wrap_at (page.column + glyph_columns wide) page.width)
    (record canvas { page = glyph_put (encode_utf8 c) wide canvas.attrs page }) t

character_fits : (T : Terminal) → Laws T →
    (near torn : Positions) (wrap : Wrap) (shifted : Bool) (canvas next : Canvas) (s t : T.State) (c : ℕ)
    (wide : Bool) → Prints c wide wrap shifted canvas next → Agrees T near torn false wrap canvas s →
    canvas.page.column + glyph_columns wide ≤ canvas.page.width → T.Reads (Character c) s t →
    Goal T near torn c wide canvas t (room_made (glyph_columns wide) canvas.page)
character_fits T laws near torn NotPending shifted canvas next s t c wide h agrees fits reads =
    subst (λ (p : Page). Goal T near torn c wide canvas t p) (sym (room_kept (glyph_columns wide) canvas.page fits))
    (glyph_agrees T laws near torn canvas s t c wide h.sound agrees fits h.certain h.columns h.boundary reads)
character_fits T laws near torn Pending shifted canvas next s t c wide h agrees fits reads =
    let last = (agrees.cursor refl).0 in let some = some_columns wide in absurd (omega (arith, last, some, fits))
character_fits T laws near torn Unsure shifted canvas next s t c wide h agrees fits reads =
    let may = h.may in absurd (cc)

new_row_boundary : (page : Page) → IsSound page → page.row + 1 < length page.rows →
    IsBoundary (wrapped_page page).column (cursor_row (wrapped_page page)).cells
unfolding wrapped_page
new_row_boundary page sound below =
    let wrapped = sound_wrapped page sound below in
    (wrapped.paired (wrapped_page page).row wrapped.row).first

character_wraps : (T : Terminal) → Laws T →
    (near torn : Positions) (wrap : Wrap) (shifted : Bool) (canvas next : Canvas) (s t : T.State)
    (c : ℕ) (wide : Bool) → Prints c wide wrap shifted canvas next → Agrees T near torn false wrap canvas s →
    canvas.page.column ≡ canvas.page.width → glyph_columns wide ≤ canvas.page.width → T.Reads (Character c) s t →
    Goal T near torn c wide canvas t (room_made (glyph_columns wide) canvas.page)
character_wraps T laws near torn NotPending shifted canvas next s t c wide h agrees last fits reads =
    let inside = (agrees.cursor refl).0 in absurd (omega (arith, inside, last))
character_wraps T laws near torn Unsure shifted canvas next s t c wide h agrees last fits reads =
    let may = h.may in absurd (cc)
character_wraps T laws near torn Pending shifted canvas next s t c wide h agrees last fits reads =
    let below = room_below c wide canvas next h.sound h.drawn h.columns fits last in
    let broad = agrees.width in
    let tall = agrees.height in
    let printed = laws.wraps s t canvas.page.row c wide canvas.attrs (omega (arith, tall, below))
    (omega (arith, broad, fits)) h.certain h.columns (agrees.cursor refl).1 agrees.attrs reads in
    let down = wrap_agrees T near torn Pending canvas s h.sound below agrees in
    subst (λ (p : Page). Goal T near torn c wide canvas t p)
    (sym (room_wraps (glyph_columns wide) canvas.page (some_columns wide) fits last))
    (printed_agrees T near torn true Unsure (record canvas { page = wrapped_page canvas.page }) s t (encode_utf8 c) wide
    (sound_wrapped canvas.page h.sound below) down begin (new_row_boundary canvas.page h.sound below)
    (on_page below printed))
  where
    PrintedAt : (r k : ℕ) → Type 0
    PrintedAt r k = Printed T r k (glyph_columns wide) (glyph_cells (encode_utf8 c) wide canvas.attrs) s t

    on_page : canvas.page.row + 1 < length canvas.page.rows → PrintedAt (canvas.page.row + 1) 0 →
        PrintedAt (wrapped_page canvas.page).row (wrapped_page canvas.page).column
    on_page below printed =
        subst (λ (k : ℕ). PrintedAt (wrapped_page canvas.page).row k) (sym (column_wrapped_page canvas.page))
        (subst (λ (r : ℕ). PrintedAt r 0) (sym (row_wrapped_page canvas.page h.sound below)) printed)

    begin : (wrapped_page canvas.page).column + glyph_columns wide ≤ (wrapped_page canvas.page).width
    begin =
        let first = column_wrapped_page canvas.page in
        let same = width_wrapped_page canvas.page in
        omega (arith, first, same, fits)

-- A character is printed only where the cursor is known.
pub print_unshifted : (T : Terminal) (near torn : Positions) (shifted : Bool) (wrap : Wrap) (canvas : Canvas)
    (s : T.State)
    (c : ℕ) → Agrees T near torn shifted wrap canvas s → may_print c wrap shifted ≡ true → shifted ≡ false
print_unshifted T near torn false wrap canvas s c agrees may = refl
print_unshifted T near torn true NotPending canvas s c agrees may = absurd (cc)
print_unshifted T near torn true Pending canvas s c agrees may = absurd (agrees.calm refl refl)
print_unshifted T near torn true Unsure canvas s c agrees may = absurd (cc)

pub known : (T : Terminal) (near torn : Positions) (shifted : Bool) (wrap : Wrap) (canvas : Canvas) (s : T.State) →
    shifted ≡ false → Agrees T near torn shifted wrap canvas s → Agrees T near torn false wrap canvas s
known T near torn shifted wrap canvas s e agrees = subst (λ (b : Bool). Agrees T near torn b wrap canvas s) e agrees

-- The character is printed, whether or not it wraps.
character_agrees : (T : Terminal) → Laws T →
    (near torn : Positions) (doubts : Doubts) (canvas next : Canvas) (s t : T.State)
    (c : ℕ) (wide : Bool) → Prints c wide doubts.wrap doubts.is_shifted canvas next →
    Agrees T near torn doubts.is_shifted doubts.wrap canvas s → HasColumns (glyph_columns wide) canvas.page →
    T.Reads (Character c) s t →
    Agrees T near (torn_after_text (c ∷ []) canvas.page torn) (doubts_after_text (c ∷ []) doubts canvas).is_shifted
    (doubts_after_text (c ∷ []) doubts canvas).wrap next t
character_agrees T laws near torn doubts canvas next s t c wide h agrees room reads =
    let n = glyph_columns wide in
    let page = canvas.page in
    let fits : n ≤ page.width = narrow room in
    let is = printed_is c wide canvas.attrs page h.columns fits in
    let made : next ≡ record canvas { page = glyph_put (encode_utf8 c) wide canvas.attrs (room_made n page) } =
    sym (printed c canvas next h.drawn) ∙ ap (λ (p : Page). record canvas { page = p }) is in
    let wraps : wrap_at (page_after_print c canvas.attrs page).column page.width
    ≡ wrap_at ((room_made n page).column + n) (room_made n page).width =
    ap (λ (k : ℕ). wrap_at k page.width)
    (ap (λ (p : Page). p.column) is ∙ column_put (encode_utf8 c) wide canvas.attrs (room_made n page))
    ∙ ap (λ (w : ℕ). wrap_at ((room_made n page).column + n) w) (sym (width_room_made n page)) in
    let torn_is : torn_after_text (c ∷ []) page torn ≡ torn_after_print n (room_made n page) torn =
    ap (λ (b : Bool). if not b || false then torn else torn_after_columns (columns_of c) page torn) h.certain
    ∙ ap (λ (o : Option ℕ). torn_after_columns o page torn) h.columns in
    let flat : doubts.is_shifted ≡ false =
    print_unshifted T near torn doubts.is_shifted doubts.wrap canvas s c agrees h.may in
    let after : (doubts.is_shifted || not (is_certain c)) ≡ false =
    ap (λ (b : Bool). b || not (is_certain c)) flat ∙ ap not h.certain in
    subst (λ (f : Bool). Agrees T near (torn_after_text (c ∷ []) page torn) f
    (wrap_at (page_after_print c canvas.attrs page).column page.width) next t) (sym after)
    (subst (λ (b : Positions). Agrees T near b false (wrap_at (page_after_print c canvas.attrs page).column page.width)
    next t)
    (sym torn_is)
    (subst (λ (w : Wrap). Agrees T near (torn_after_print n (room_made n page) torn) false w next t) (sym wraps)
    (subst (λ (k : Canvas). Agrees T near (torn_after_print n (room_made n page) torn) false
    (wrap_at ((room_made n page).column + n) (room_made n page).width) k t) (sym made)
    (by_room (known T near torn doubts.is_shifted doubts.wrap canvas s flat agrees) room))))
  where
    narrow : HasColumns (glyph_columns wide) canvas.page → glyph_columns wide ≤ canvas.page.width
    narrow (inl fits) = omega (arith, fits)
    narrow (inr ends) = ends.1

    by_room : Agrees T near torn false doubts.wrap canvas s → HasColumns (glyph_columns wide) canvas.page →
        Goal T near torn c wide canvas t (room_made (glyph_columns wide) canvas.page)
    by_room agrees (inl fits) =
        character_fits T laws near torn doubts.wrap doubts.is_shifted canvas next s t c wide h agrees fits reads
    by_room agrees (inr ends) =
        character_wraps T laws near torn doubts.wrap doubts.is_shifted canvas next s t c wide h agrees ends.0 ends.1
        reads

pub alone : (o : Option Canvas) (next : Canvas) → and_then (drawn_text []) o ≡ Some next → o ≡ Some next
alone (Some a) next e = e
alone None next e = absurd (cc)

pub single_agrees : (T : Terminal) → Laws T →
    (cs : List ℕ) (near torn : Positions) (doubts : Doubts) (canvas next : Canvas)
    (s t : T.State) → IsSound canvas.page → Agrees T near torn doubts.is_shifted doubts.wrap canvas s →
    PortableText cs doubts canvas → IsTidyCharacter cs canvas.page → drawn_text cs canvas ≡ Some next →
    ReadsAll T (map Character cs) s t →
    Agrees T near (torn_after_text cs canvas.page torn) (doubts_after_text cs doubts canvas).is_shifted
    (doubts_after_text cs doubts canvas).wrap next t
single_agrees T laws [] near torn doubts canvas next s t sound agrees portable tidy drawn reads = absurd tidy
single_agrees T laws (c ∷ d ∷ cs) near torn doubts canvas next s t sound agrees portable tidy drawn reads = absurd tidy
single_agrees T laws (c ∷ []) near torn doubts canvas next s t sound agrees portable tidy drawn reads =
    subst (λ (u : T.State). Agrees T near (torn_after_text (c ∷ []) canvas.page torn)
    (doubts_after_text (c ∷ []) doubts canvas).is_shifted (doubts_after_text (c ∷ []) doubts canvas).wrap
    next u) reads.1.1
    (by_columns tidy.0 tidy.1.1.0 (subst (λ (o : Option ℕ). IsPortableCharacter o c doubts canvas.page) tidy.1.1.0
    portable.0))
  where
    by_columns : (wide : Bool) → columns_of c ≡ Some (glyph_columns wide) →
        IsPortableCharacter (Some (glyph_columns wide)) c doubts canvas.page →
        Agrees T near (torn_after_text (c ∷ []) canvas.page torn) (doubts_after_text (c ∷ []) doubts canvas).is_shifted
        (doubts_after_text (c ∷ []) doubts canvas).wrap next reads.0
    by_columns false columns p =
        character_agrees T laws near torn doubts canvas next s reads.0 c false
        (record {
          sound = sound;
          certain = tidy.1.0;
          columns = columns;
          boundary = tidy.1.1.1;
          may = p.0;
          drawn = alone (drawn_char c canvas) next drawn;
        }) agrees p.1 reads.1.0
    by_columns true columns p =
        character_agrees T laws near torn doubts canvas next s reads.0 c true
        (record {
          sound = sound;
          certain = tidy.1.0;
          columns = columns;
          boundary = tidy.1.1.1;
          may = p.0;
          drawn = alone (drawn_char c canvas) next drawn;
        }) agrees p.1 reads.1.0
