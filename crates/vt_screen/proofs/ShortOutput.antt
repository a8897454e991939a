-- Output that can be replaced on terminals about which something is known: its parts in sequence, copied elements,
-- movements, and gaps.
use Rattle.std.proofs.Common.{◌≡◌, ℕ, zero, suc, ◌+◌, ◌<◌, ◌≤◌, ◌^◌, Bool, true, List, [], ◌∷◌, ◌++◌, length, Option}
use Rattle.std.proofs.Common.{Some, None, refl, sym, ap, subst, ◌∙◌, arith, length-append, decimal}
use Rattle.std.specs.Prelude.{IfSome}
use Rattle.std.specs.List.{AllByRecursion}
use Rattle.vt_cells.specs.Attrs.{default_attrs}
use Rattle.vt_cells.specs.Cell.{CellValue}
use Rattle.vt_cells.specs.Op.{counted, csi}
use Rattle.vt_cells.specs.declared.pos.Pos.{Pos}
use Rattle.vt_rows.specs.Cells.{at}
use Rattle.vt_scan.specs.Automaton.{start, run}
use Rattle.vt_grid.specs.Page.{IsPage, cell_at, cursor_row}
use Rattle.vt_grid.specs.declared.page_step.PageStep.TheVariants as page
use Rattle.vt_grid.proofs.Pages.{page_at}
use Rattle.vt_redraw.specs.Doubts.{Doubts}
use Rattle.vt_redraw.specs.Fits.{IsDrawnText}
use Rattle.vt_redraw.specs.Locality.{row_of_picture}
use Rattle.vt_redraw.specs.Picture.{Picture}
use Rattle.vt_redraw.specs.declared.form.Form.TheVariants.{Portable}
use Rattle.vt_screen.specs.Again.{KeepsPlain}
use Rattle.vt_screen.specs.Gaps.{IsCertainElement, IsDefaultAfter, IsGap, IsKeptAfter, IsKeptFrom, IsPrinted}
use Rattle.vt_screen.specs.Gaps.{ReplacesTracked, StillShows, Tracks, IsLetter, IsShownGap, gap_text, is_narrow_glyph}
use Rattle.vt_screen.specs.Gaps.{picture_cell}
use Rattle.vt_screen.specs.MadeOf.{IsMadeOf, shortened_controls, shortened_finals}
use Rattle.vt_screen.specs.Portable.{ReadsAgreed, doubts_after_output}
use Rattle.vt_screen.specs.Reading.{Terminal, terminal, terminal_after}
use Rattle.vt_screen.specs.Screen.{ScreenValue}
use Rattle.vt_screen.specs.ShortMoves.{IsAgreed, IsAsciiCharacter, IsAsPortable, IsAt, IsAtPos, IsElement, IsNoWorse}
use Rattle.vt_screen.specs.ShortMoves.{KeepsPortable, LeadsTo, Replaces, with_cursor}
use Rattle.vt_screen.specs.Shown.{ReadsTo}
use Rattle.vt_screen.specs.Steps.{OnPage, display_after}
use Rattle.vt_screen.specs.declared.short_moves.elements.Element.{Element}
use Rattle.vt_screen.specs.declared.short_moves.elements.Element.TheVariants as elements
use Rattle.vt_screen.specs.declared.short_moves.gaps.Gap.{Gap}
use Rattle.vt_screen.specs.declared.short_moves.known.Known.{Known}
use Rattle.vt_screen.proofs.ReadCharacters.{ascii_text, same_screen, text_tame, ends_then, grounded, keeps_tame}
use Rattle.vt_screen.proofs.ReadCharacters.{leads_replace, same_then, tame_append, tame_keeps, tame_nothing}
use Rattle.vt_screen.proofs.ReadElements.{right_leads, sgr_read}
use Rattle.vt_screen.proofs.ReadGaps.{gap_ascii, gap_length, gap_same, gap_shown, Leaves, ascii_leaves}
use Rattle.vt_screen.proofs.ReadGaps.{character_leaves, erased_chars_leaves, erased_rest_leaves, glyphs_then}
use Rattle.vt_screen.proofs.MadeOf.{made_append, made_drawn, made_nothing}
use Rattle.vt_screen.proofs.PortableElements.{element_agreed, gap_keeps}
use Rattle.vt_screen.proofs.PortableMoves.{agreed_at, right_target_settles, same_keeps, events_kept, no_worse_itself}
use Rattle.vt_screen.proofs.PortableMoves.{no_worse_then, output_after, output_split, output_then}
use Rattle.vt_screen.proofs.CallsNone.{read_run}
use Rattle.vt_screen.proofs.ReadTexts.{reads_append}
use Rattle.vt_screen.proofs.ReadOperations.{and_then-some, cleared_read, erased_chars_read, erased_rest_read}
use Rattle.vt_screen.proofs.ReadOperations.{hidden_read}

-- ---- parts of the output in sequence

same_some : {A : Type 0} (x y : A) → Some x ≡ Some y → x ≡ y
same_some x y e = cc

-- The second part is portable after the first.
portable_then : (rows cols : ℕ) (cells : ℕ → ℕ → CellValue) (known middle new : Known) (a b c d : List ℕ) →
    ReplacesTracked rows cols cells known middle a b → ReplacesTracked rows cols cells middle new c d →
    known.form ≡ Portable → (screen : ScreenValue) (doubts : Doubts) (t : Terminal) →
    Tracks rows cols cells known screen → IsAgreed known.at doubts →
    terminal_after (terminal start screen) (a ++ c) ≡ Some t → ReadsAgreed (a ++ c) doubts screen →
    IsAsPortable new.at (a ++ c) (b ++ d) doubts screen
portable_then rows cols cells known middle new a b c d one two p screen doubts t tracked agreed quiet reads =
    let (u, first, more) = and_then-some (λ v. terminal_after v c) (terminal_after (terminal start screen) a) t
    (sym (reads_append (terminal start screen) a c) ∙ quiet) in
    let (ground, there) = one.ends screen u tracked first in
    let old = read_run a (terminal start screen) u first in
    let text = read_run b (terminal start screen) u (one.same screen tracked ∙ first) in
    let parts = output_split a c doubts screen u.screen (old.state ∙ ground) old.steps.becomes reads in
    let begins = one.portable p screen doubts u tracked agreed first parts.0 in
    let later = doubts_after_output a doubts screen in
    let goes = two.portable (one.form ∙ p) u.screen later t there begins.place
    (subst (λ (s : Terminal). terminal_after s c ≡ Some t) (grounded u ground) more) parts.1 in
    let rest = events_kept (run start d).events later (doubts_after_output b doubts screen) u.screen begins.after goes.agrees in
    let after_old = output_after a c doubts screen u.screen (old.state ∙ ground) old.steps.becomes in
    let after_text = output_after b d doubts screen u.screen (text.state ∙ ground) text.steps.becomes in record {
      agrees = output_then b d doubts screen u.screen (text.state ∙ ground) text.steps.becomes begins.agrees rest.0;
      after = subst (λ (was : Doubts). IsNoWorse was (doubts_after_output (b ++ d) doubts screen)) (sym after_old)
          (subst (IsNoWorse (doubts_after_output c later u.screen)) (sym after_text)
          (no_worse_then _ (doubts_after_output d later u.screen) _ goes.after rest.1));
      place = subst (IsAgreed new.at) (sym after_old) goes.place;
    }

pub stands_then : (rows cols : ℕ) (cells : ℕ → ℕ → CellValue) (known middle new : Known) (a b c d : List ℕ) →
    ReplacesTracked rows cols cells known middle a b → ReplacesTracked rows cols cells middle new c d →
    ReplacesTracked rows cols cells known new (a ++ c) (b ++ d)
stands_then rows cols cells known middle new a b c d one two = record {
  same = λ screen t. same_then b a d c (terminal start screen) (one.same screen t)
      (λ u e. second u (one.ends screen u t e));
  ends = λ screen t tracked e. ends_then (λ v. (v.scan ≡ start) × Tracks rows cols cells new v.screen) a c
      (terminal start screen) t (λ u f g. last t u (one.ends screen u tracked f) g) e;
  keeps = tame_keeps (b ++ d) (tame_append b d (keeps_tame b one.keeps) (keeps_tame d two.keeps));
  made = made_append shortened_finals shortened_controls b d one.made two.made;
  shorter = omega (arith, one.shorter, two.shorter, length-append a c, length-append b d);
  form = two.form ∙ one.form;
  portable = λ p screen doubts t tracked agreed quiet reads.
      portable_then rows cols cells known middle new a b c d one two p screen doubts t tracked agreed quiet reads;
}
  where
    second : (u : Terminal) → (u.scan ≡ start) × Tracks rows cols cells middle u.screen →
        terminal_after u d ≡ terminal_after u c
    second u (ground, tracked) =
        subst (λ (t : Terminal). terminal_after t d ≡ terminal_after t c) (sym (grounded u ground))
        (two.same u.screen tracked)

    last : (t u : Terminal) → (u.scan ≡ start) × Tracks rows cols cells middle u.screen → terminal_after u c ≡ Some t →
        (t.scan ≡ start) × Tracks rows cols cells new t.screen
    last t u (ground, tracked) g =
        two.ends u.screen t tracked (subst (λ (s : Terminal). terminal_after s c ≡ Some t) (grounded u ground) g)

pub stands_nothing : (rows cols : ℕ) (cells : ℕ → ℕ → CellValue) (known : Known) → ReplacesTracked rows cols cells known known [] []
stands_nothing rows cols cells known = record {
  same = λ screen t. refl;
  ends = λ screen t tracked e.
      subst (λ (v : Terminal). (v.scan ≡ start) × Tracks rows cols cells known v.screen)
      (same_some (terminal start screen) t e) (refl, tracked);
  keeps = tame_keeps [] tame_nothing;
  made = made_nothing shortened_finals shortened_controls;
  shorter = omega arith;
  form = refl;
  portable = λ p screen doubts t tracked agreed quiet reads.
      record { agrees = tt; after = no_worse_itself doubts; place = agreed };
}

-- Other output of the same effect can stand for output that stands for itself.
pub stands_instead : (rows cols : ℕ) (cells : ℕ → ℕ → CellValue) (known new : Known) (old text : List ℕ) →
    ReplacesTracked rows cols cells known new old old →
    ((screen : ScreenValue) → Tracks rows cols cells known screen →
    terminal_after (terminal start screen) text ≡ terminal_after (terminal start screen) old) →
    KeepsPlain text → IsMadeOf shortened_finals shortened_controls text → length text ≤ length old →
    ((screen : ScreenValue) (doubts : Doubts) → Tracks rows cols cells known screen → IsAgreed known.at doubts →
    ReadsAgreed text doubts screen
    × IsNoWorse (doubts_after_output old doubts screen) (doubts_after_output text doubts screen)) →
    ReplacesTracked rows cols cells known new old text
stands_instead rows cols cells known new old text stands same keeps made shorter agrees = record {
  same = same;
  ends = stands.ends;
  keeps = keeps;
  made = made;
  shorter = shorter;
  form = stands.form;
  portable = λ p screen doubts t tracked agreed quiet reads. record {
    agrees = (agrees screen doubts tracked agreed).0;
    after = (agrees screen doubts tracked agreed).1;
    place = (stands.portable p screen doubts t tracked agreed quiet reads).place;
  };
}

-- What is known about the cursor gives the position after the output; the rest must be shown.
pub stands_from : (rows cols : ℕ) (cells : ℕ → ℕ → CellValue) (known new : Known) (old text : List ℕ) →
    Replaces rows cols known.at new.at old text → new.form ≡ known.form →
    (known.form ≡ Portable → KeepsPortable rows cols known.at new.at old text) →
    ((screen after : ScreenValue) → Tracks rows cols cells known screen → ReadsTo old screen after →
    IfSome new.kept (λ pos. StillShows cells new.is_default pos after)) →
    ReplacesTracked rows cols cells known new old text
stands_from rows cols cells known new old text r form keeps shows = record {
  same = λ screen t. r.same screen t.sized t.at;
  ends = λ screen t tracked e. (
    (r.ends screen t tracked.sized tracked.at e).ground,
    record {
      sized = (r.ends screen t tracked.sized tracked.at e).sized;
      at = (r.ends screen t tracked.sized tracked.at e).at;
      kept = shows screen t.screen tracked
          (e ∙ ap Some (grounded t (r.ends screen t tracked.sized tracked.at e).ground));
    },
  );
  keeps = r.keeps;
  made = r.made;
  shorter = r.shorter;
  form = form;
  portable = λ p screen doubts t tracked agreed quiet reads.
      keeps p screen doubts tracked.sized tracked.at agreed reads;
}

-- ---- elements that are copied

if_some : {A : Type 0} (P Q : A → Type 0) (o : Option A) → ((x : A) → o ≡ Some x → P x → Q x) → IfSome o P → IfSome o Q
if_some P Q None f h = tt
if_some P Q (Some x) f h = f x refl h

some_of : {A : Type 0} (P : A → Type 0) (o : Option A) (x : A) → o ≡ Some x → IfSome o P → P x
some_of {A = A} P o x e h = subst (λ (p : Option A). IfSome p P) e h

-- A terminal that the element changed before the position `changed` only.
shown_after : (cells : ℕ → ℕ → CellValue) (known : Known) (changed pos : Pos) (is_default : Bool)
    (screen after : ScreenValue) → IfSome known.kept (λ kept. StillShows cells known.is_default kept screen) →
    IsKeptFrom known changed pos → (is_default ≡ true → known.is_default ≡ true) →
    (IsPage screen.page → Leaves changed screen after) → StillShows cells is_default pos after
shown_after cells known changed pos is_default screen after shows (kept, e, later) plain leaves =
    let was = some_of (λ (k : Pos). StillShows cells known.is_default k screen) known.kept kept e shows in
    let left = leaves was.page in
    record {
      page = left.page;
      glyphs = glyphs_then cells kept changed pos screen.page after.page was.glyphs left.glyphs later;
      attrs = λ d. left.attrs ∙ was.attrs (plain d);
    }

at_of : (known : Option Pos) (from : Pos) (screen : ScreenValue) → known ≡ Some from → IsAt known screen → IsAtPos from screen
at_of known from screen e at = subst (λ (k : Option Pos). IsAt k screen) e at

-- What is shown after an element.
shows_after : (rows cols : ℕ) (cells : ℕ → ℕ → CellValue) (known : Known) (element : Element) (bytes : List ℕ)
    (to : Option Pos) (pos : Pos) (is_default : Bool) (screen after : ScreenValue) → IsElement element bytes →
    Tracks rows cols cells known screen → IfSome to (IsPrinted cols element known.at bytes) →
    IsKeptAfter known element to pos → (is_default ≡ true → IsDefaultAfter known.is_default element) →
    ReadsTo bytes screen after → StillShows cells is_default pos after
shows_after rows cols cells known elements.Ascii bytes to pos d screen after is tracked printed (last, e, kept) plain reads =
    let (from, at, moved) = some_of (IsPrinted cols elements.Ascii known.at bytes) to last e printed in
    let here = at_of known.at from screen at tracked.at in
    let wide = tracked.sized.width in
    let inside = moved.inside in
    let col = moved.column in
    let there = here.column in
    shown_after cells known last pos d screen after tracked.kept kept plain
    (λ p. ascii_leaves bytes last screen after is p (omega (arith, wide, inside, col, there))
    (moved.row ∙ sym here.row) (omega (arith, col, there)) reads)
shows_after rows cols cells known (elements.Other c) bytes to pos d screen after is tracked printed (last, e, kept) plain reads =
    let (from, at, (n, columns, some, moved)) = some_of (IsPrinted cols (elements.Other c) known.at bytes) to last e printed in
    let here = at_of known.at from screen at tracked.at in
    let wide = tracked.sized.width in
    let inside = moved.inside in
    let col = moved.column in
    let there = here.column in
    shown_after cells known last pos d screen after tracked.kept kept plain
    (λ p. character_leaves c n last screen after is.0 columns some p (omega (arith, wide, inside, col, there))
    (moved.row ∙ sym here.row) (omega (arith, col, there))
    (subst (λ (xs : List ℕ). ReadsTo xs screen after) is.1 reads))
shows_after rows cols cells known (elements.EraseChars zero) bytes to pos d screen after is tracked printed kept plain reads =
    absurd (omega (arith, is.0))
shows_after rows cols cells known (elements.EraseChars (suc n)) bytes to pos d screen after is tracked printed (from, at, kept) plain reads =
    let here = at_of known.at from screen at tracked.at in
    let there = here.column in
    let small = is.1 in
    let next : ScreenValue = display_after (OnPage (page.EraseChars (suc n))) screen in
    let changed : Pos = record { row = from.row; col = from.col + suc n } in
    subst (StillShows cells d pos)
    (same_screen next after bytes screen
    (subst (λ (xs : List ℕ). ReadsTo xs screen next) (sym is.2) (erased_chars_read n screen (omega (arith, small)))) reads)
    (shown_after cells known changed pos d screen next tracked.kept kept plain
    (λ p. erased_chars_leaves (suc n) changed screen p (sym here.row) (omega (arith, there))))
shows_after rows cols cells known elements.EraseRest bytes to pos d screen after is tracked printed (from, at, kept) plain reads =
    let here = at_of known.at from screen at tracked.at in
    let there = here.row in
    let next : ScreenValue = display_after (OnPage page.EraseRest) screen in
    let changed : Pos = record { row = from.row + 1; col = 0 } in
    subst (StillShows cells d pos)
    (same_screen next after bytes screen
    (subst (λ (xs : List ℕ). ReadsTo xs screen next) (sym is) (erased_rest_read screen)) reads)
    (shown_after cells known changed pos d screen next tracked.kept kept plain
    (λ p. erased_rest_leaves changed screen p (omega (arith, there))))
shows_after rows cols cells known (elements.Hide hidden) bytes to pos d screen after is tracked printed kept plain reads =
    let was = some_of (λ (k : Pos). StillShows cells known.is_default k screen) known.kept pos kept tracked.kept in
    let next : ScreenValue = record screen { hidden = hidden } in
    subst (StillShows cells d pos)
    (same_screen next after bytes screen (subst (λ (xs : List ℕ). ReadsTo xs screen next) (sym is) (hidden_read hidden screen)) reads)
    (record { page = was.page; glyphs = was.glyphs; attrs = λ e. was.attrs (plain e) })
shows_after rows cols cells known elements.ClearAttrs bytes to pos d screen after is tracked printed kept plain reads =
    let was = some_of (λ (k : Pos). StillShows cells known.is_default k screen) known.kept pos kept tracked.kept in
    let next : ScreenValue = record screen { attrs = default_attrs } in
    subst (StillShows cells d pos)
    (same_screen next after bytes screen (subst (λ (xs : List ℕ). ReadsTo xs screen next) (sym is) (cleared_read screen)) reads)
    (record { page = was.page; glyphs = was.glyphs; attrs = λ e. refl })
shows_after rows cols cells known elements.Attrs bytes to pos d screen after (text, is, spelled) tracked printed kept plain reads =
    let was = some_of (λ (k : Pos). StillShows cells known.is_default k screen) known.kept pos kept tracked.kept in
    let (attrs, read) = sgr_read text screen is in
    let next : ScreenValue = record screen { attrs = attrs } in
    subst (StillShows cells d pos)
    (same_screen next after bytes screen (subst (λ (xs : List ℕ). ReadsTo xs screen next) (sym spelled) read) reads)
    (record { page = was.page; glyphs = was.glyphs; attrs = λ e. absurd (plain e) })
shows_after rows cols cells known (elements.Place to-pos) bytes to pos d screen after is tracked printed kept plain reads = absurd kept
shows_after rows cols cells known (elements.Right n) bytes to pos d screen after is tracked printed kept plain reads = absurd kept
shows_after rows cols cells known elements.NextRow bytes to pos d screen after is tracked printed kept plain reads = absurd kept
shows_after rows cols cells known (elements.Lines n insert) bytes to pos d screen after is tracked printed kept plain reads = absurd kept
shows_after rows cols cells known (elements.Chars n insert) bytes to pos d screen after is tracked printed kept plain reads = absurd kept

-- An element that is copied stands for itself.
pub copied_stands : (rows cols : ℕ) (cells : ℕ → ℕ → CellValue) (known new : Known) (element : Element) (bytes : List ℕ) →
    IsElement element bytes → Replaces rows cols known.at new.at bytes bytes →
    IfSome new.at (IsPrinted cols element known.at bytes) → IfSome new.kept (IsKeptAfter known element new.at) →
    (new.is_default ≡ true → IsDefaultAfter known.is_default element) → new.form ≡ known.form →
    (known.form ≡ Portable → IfSome new.at (λ to. IsCertainElement element)) →
    ReplacesTracked rows cols cells known new bytes bytes
copied_stands rows cols cells known new element bytes is r printed kept plain form certain =
    stands_from rows cols cells known new bytes bytes r form
    (λ p screen doubts sized at agreed reads. record {
      agrees = reads;
      after = no_worse_itself (doubts_after_output bytes doubts screen);
      place = element_agreed rows cols known.at new.at element bytes screen doubts is printed (certain p) sized at agreed;
    })
    (λ screen after tracked reads.
    if_some (IsKeptAfter known element new.at) (λ pos. StillShows cells new.is_default pos after) new.kept
    (λ pos e k. shows_after rows cols cells known element bytes new.at pos new.is_default screen after is tracked printed k
    plain reads) kept)

-- ---- movements and gaps

-- A movement that is replaced by a different one keeps the cells and the attributes.
pub moved_stands : (rows cols : ℕ) (cells : ℕ → ℕ → CellValue) (known : Known) (at : Option Pos) (to : Pos)
    (head text : List ℕ) → LeadsTo rows cols known.at to head → to.row < rows → to.col < cols →
    Replaces rows cols known.at at head text → (known.form ≡ Portable → KeepsPortable rows cols known.at at head text) →
    ReplacesTracked rows cols cells known (record known { at = at }) head text
moved_stands rows cols cells known at to head text leads low inside r keeps =
    stands_from rows cols cells known (record known { at = at }) head text r refl keeps
    (λ screen after tracked reads.
    if_some (λ pos. StillShows cells known.is_default pos screen) (λ pos. StillShows cells known.is_default pos after)
    known.kept (λ pos e was. shown screen after pos tracked was reads) tracked.kept)
  where
    shown : (screen after : ScreenValue) (pos : Pos) → Tracks rows cols cells known screen →
        StillShows cells known.is_default pos screen → ReadsTo head screen after →
        StillShows cells known.is_default pos after
    shown screen after pos tracked was reads =
        let tall = tracked.sized.height in
        let wide = tracked.sized.width in
        subst (StillShows cells known.is_default pos)
        (same_screen (with_cursor to screen) after head screen (leads.reads screen tracked.sized tracked.at) reads)
        (record {
          page = page_at to.row to.col screen.page (omega (arith, tall, low)) (omega (arith, wide, inside)) was.page;
          glyphs = was.glyphs;
          attrs = was.attrs;
        })

csi_length : (text : List ℕ) (final : ℕ) → length (csi text final) ≡ 3 + length text
csi_length text final = omega (arith, length-append text (final ∷ []))

counted_long : (n final : ℕ) → 0 < n → 3 ≤ length (counted n final)
counted_long zero final some = absurd (omega arith)
counted_long (suc zero) final some = omega (arith, csi_length [] final)
counted_long (suc (suc n)) final some = omega (arith, csi_length (decimal (suc (suc n))) final)

-- Moving over a gap and printing a character can be replaced by printing the gap's glyphs and the character.
pub gap_stands : (picture : Picture) (known after : Known) (gap : Gap) (letter : List ℕ) →
    IsShownGap picture known gap → IsLetter letter →
    ReplacesTracked (length picture.rows) picture.width (picture_cell picture)
    (record known { at = Some (record { row = gap.from.row; col = gap.from.col + gap.count }) }) after letter letter →
    ReplacesTracked (length picture.rows) picture.width (picture_cell picture) known after (counted gap.count 0x43 ++ letter)
    (gap_text (row_of_picture picture gap.from.row).cells gap.from.col gap.count ++ letter)
gap_stands picture known after gap letter is (b, ascii, e) printed =
    stands_instead rows cols cells known after (counted n 0x43 ++ letter) (text ++ letter)
    (stands_then rows cols cells known middle after (counted n 0x43) (counted n 0x43) letter letter moved printed)
    same (tame_keeps (text ++ letter) (text_tame (text ++ letter) drawn)) (made_drawn shortened_finals shortened_controls (text ++ letter) drawn)
    (let few = is.few in
    omega (
      arith,
      few,
      length-append text letter,
      length-append (counted n 0x43) letter,
      gap_length xs from.col n is.glyphs,
      counted_long n 0x43 is.some,
    ))
    agrees
  where
    rows : ℕ
    rows = length picture.rows

    cols : ℕ
    cols = picture.width

    n : ℕ
    n = gap.count

    from : Pos
    from = gap.from

    to : Pos
    to = record { row = gap.from.row; col = gap.from.col + gap.count }

    cells : ℕ → ℕ → CellValue
    cells = picture_cell picture

    xs : List CellValue
    xs = (row_of_picture picture gap.from.row).cells

    text : List ℕ
    text = gap_text xs gap.from.col gap.count

    middle : Known
    middle = record known { at = Some to }

    small : n < 2 ^ 16
    small = let few = is.few in omega arith

    leads : LeadsTo rows cols known.at to (counted n 0x43)
    leads =
        let inside = is.inside in
        subst (λ (k : Option Pos). LeadsTo rows cols k to (counted n 0x43)) (sym is.at)
        (right_leads rows cols n from to is.some small refl (omega (arith, inside)))

    moved : ReplacesTracked rows cols cells known middle (counted n 0x43) (counted n 0x43)
    moved =
        moved_stands rows cols cells known (Some to) to (counted n 0x43) (counted n 0x43) leads is.low is.inside
        (leads_replace rows cols known.at to (counted n 0x43) (counted n 0x43) is.inside leads leads (omega arith))
        (λ p. same_keeps rows cols known.at to (counted n 0x43)
        (right_target_settles rows cols n known.at from (Some to) (counted n 0x43) is.at (is.some, small, refl)))

    letters : AllByRecursion IsAsciiCharacter (text ++ b ∷ [])
    letters = gap_ascii xs gap.from.col n (b ∷ []) is.glyphs (ascii, tt)

    agrees : (screen : ScreenValue) (doubts : Doubts) → Tracks rows cols cells known screen → IsAgreed known.at doubts →
        ReadsAgreed (text ++ letter) doubts screen
        × IsNoWorse (doubts_after_output (counted n 0x43 ++ letter) doubts screen)
        (doubts_after_output (text ++ letter) doubts screen)
    agrees screen doubts tracked agreed =
        let here = at_of known.at from screen is.at tracked.at in
        let column = here.column in
        let wide = tracked.sized.width in
        let inside = is.inside in
        subst (λ (l : List ℕ). ReadsAgreed (text ++ l) doubts screen
        × IsNoWorse (doubts_after_output (counted n 0x43 ++ l) doubts screen) (doubts_after_output (text ++ l) doubts screen))
        (sym e)
        (gap_keeps n b text screen doubts is.some small letters ascii (gap_length xs from.col n is.glyphs)
        (agreed_at known.at from doubts is.at agreed) (omega (arith, column, wide, inside)))

    drawn : IsDrawnText (text ++ letter)
    drawn =
        subst (λ (l : List ℕ). IsDrawnText (text ++ l)) (sym e)
        (ascii_text (text ++ b ∷ []) letters)

    same : (screen : ScreenValue) → Tracks rows cols cells known screen →
        terminal_after (terminal start screen) (text ++ letter)
        ≡ terminal_after (terminal start screen) (counted n 0x43 ++ letter)
    same screen tracked =
        let here = at_of known.at from screen is.at tracked.at in
        let (pos, kept, reached) = is.kept in
        let was = some_of (λ (k : Pos). StillShows cells known.is_default k screen) known.kept pos kept tracked.kept in
        let ys : List CellValue = (cursor_row screen.page).cells in
        let shows : (k : ℕ) → from.col ≤ k → is_narrow_glyph (at xs k) ≡ true → at ys k ≡ at xs k =
        λ k h glyph. ap (λ (r : ℕ). cell_at screen.page r k) here.row
        ∙ was.glyphs from.row k (reached.0, λ same. let far = reached.1 same in omega (arith, far, h)) glyph in
        let (gap_there, shown) = gap_shown xs ys from.col n is.glyphs shows in
        let column = here.column in
        let wide = tracked.sized.width in
        let inside = is.inside in
        let there : IsGap ys screen.page.column n = subst (λ (c : ℕ). IsGap ys c n) (sym column) gap_there in
        let both = gap_same n b screen is.some small ascii was.page (was.attrs is.plain)
        (omega (arith, column, wide, inside)) there in
        ap (λ (l : List ℕ). terminal_after (terminal start screen) (text ++ l)) e
        ∙ (ap (λ (t : List ℕ). terminal_after (terminal start screen) (t ++ b ∷ []))
        (sym (ap (λ (c : ℕ). gap_text ys c n) column ∙ shown))
        ∙ (both ∙ ap (λ (l : List ℕ). terminal_after (terminal start screen) (counted n 0x43 ++ l)) (sym e)))
