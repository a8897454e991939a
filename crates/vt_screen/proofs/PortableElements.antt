-- Copied elements and gaps in portable output, and portable diffs that first move rows.
use Rattle.std.proofs.Common.{◌≡◌, ℕ, zero, suc, ◌+◌, ◌<◌, ◌≤◌, ◌^◌, ◌==◌, Bool, true, false, List, [], ◌∷◌, ◌++◌}
use Rattle.std.proofs.Common.{Option, Some, None, length, length-append, decimal, refl, sym, ap, subst, ◌∙◌, arith, inl}
use Rattle.std.proofs.Common.{inr, ◌-◌, append-nil}
use Rattle.std.specs.Prelude.{IfSome, if◌then◌else◌, nat_lt}
use Rattle.std.specs.List.{AllByRecursion, list_all}
use Rattle.std.proofs.lemmas.List.Elements.{All-from_recursion}
use Rattle.std.proofs.lemmas.Bool.{cond_both}
use Rattle.std.proofs.lemmas.Bool.Decides.{nat_tests}
use Rattle.vt_cells.specs.Glyph.{columns_of}
use Rattle.vt_cells.specs.Op.{Hide, bytes_of, counted, csi, semicolon_list, ChangeAttrs, FitsAttrs, MoveTo}
use Rattle.vt_cells.specs.Op.{bytes_of_all}
use Rattle.vt_cells.specs.declared.pos.Pos.{Pos}
use Rattle.vt_cells.specs.Attrs.{Attrs, default_attrs, same_attrs, same_intensity}
use Rattle.vt_cells.specs.declared.attrs.Intensity.{Intensity}
use Rattle.vt_cells.specs.declared.attrs.Intensity.TheVariants.{Normal}
use Rattle.vt_cells.proofs.Glyphs.{columns_of-le}
use Rattle.vt_cells.proofs.Attributes.{same_attrs-itself}
use Rattle.vt_scan.specs.Automaton.{Event, Step, CsiDispatch, start, fresh_step, run}
use Rattle.vt_scan.specs.Parameters.{groups_of, number_of, numbers_of, table_of}
use Rattle.vt_scan.specs.Table.{class_of}
use Rattle.vt_scan.specs.Texts.{IsParameterText, back_with}
use Rattle.vt_scan.proofs.Readback.{read_csi}
use Rattle.vt_scan.proofs.ParameterNumbers.{decimal_is_parameter, joined_is_parameter}
use Rattle.vt_grid.specs.Canvas.{Canvas}
use Rattle.vt_grid.specs.Moves.{moved}
use Rattle.vt_grid.specs.declared.grid.moves.CursorMove.TheVariants.{To}
use Rattle.vt_redraw.specs.Certain.{is_certain}
use Rattle.vt_redraw.specs.Doubts.{Doubts, IsPlaced, wrap_at, doubts_of, is_past_uncertain, no_doubts}
use Rattle.vt_redraw.specs.Uses.{Use, El, Lines, Sgr, Other, doubts_after, PortableOps, change_intensities}
use Rattle.vt_redraw.specs.Uses.{doubts_after_op, KeepsApart}
use Rattle.vt_redraw.specs.Moved.{IsBand, IsScrolling, band_text, down_text, lines_deleted_text, lines_inserted_text}
use Rattle.vt_redraw.specs.Moved.{moving_text, picture_after_move, scrolling_text, up_text}
use Rattle.vt_redraw.specs.Picture.{Picture, picture_of, with_picture, with_saved}
use Rattle.vt_redraw.specs.Redraw.{difference_in}
use Rattle.vt_redraw.specs.Script.{attr_ops, attr_ops_in}
use Rattle.vt_redraw.specs.Shifted.{IsMoving}
use Rattle.vt_redraw.specs.Steady.{IsSteady}
use Rattle.vt_redraw.specs.declared.band.Band.{Band}
use Rattle.vt_redraw.specs.declared.form.Form.{Form}
use Rattle.vt_redraw.specs.declared.form.Form.TheVariants.{Fixed, Portable}
use Rattle.vt_redraw.proofs.Difference.{difference_draws_in}
use Rattle.vt_redraw.proofs.Moving.{moved_fits}
use Rattle.vt_redraw.proofs.PortableScript.{difference_portable}
use Rattle.vt_redraw.proofs.PortableSteps.{normal_apart}
use Rattle.vt_redraw.proofs.Redrawing.{page_picture}
use Rattle.vt_screen.specs.Controls.{number_at, sgr_steps}
use Rattle.vt_screen.specs.Gaps.{IsCertainElement, IsPrinted}
use Rattle.vt_screen.specs.Portable.{ReadsAgreed, csi_use, doubts_after_all, doubts_after_output, has_single_numbers}
use Rattle.vt_screen.specs.Portable.{is_render, use_of, IsPortableFrom, PortableEvents}
use Rattle.vt_screen.specs.Screen.{ScreenValue, canvas_of, IsColored, IsScreen, with_page}
use Rattle.vt_screen.specs.ShortMoves.{IsAfter, IsAgreed, IsAsciiCharacter, IsAt, IsAtPos, IsElement, IsNoWorse}
use Rattle.vt_screen.specs.ShortMoves.{IsPlainSized, IsSgrText}
use Rattle.vt_screen.specs.declared.sgr.Wanted.TheVariants.{Any}
use Rattle.vt_screen.specs.declared.short_moves.elements.Element.{Element}
use Rattle.vt_screen.specs.declared.short_moves.elements.Element.TheVariants as elements
use Rattle.vt_screen.specs.CallsOfRun.{screen_in}
use Rattle.vt_screen.specs.Reading.{terminal}
use Rattle.vt_screen.specs.Shown.{IsReader, display}
use Rattle.vt_screen.proofs.ReadGaps.{moved_on, skip_read}
use Rattle.vt_screen.proofs.PortableMoves.{IsSettling, IsWritten, agreed_at, becomes_next, letters_written, printed_on}
use Rattle.vt_screen.proofs.PortableMoves.{right_settles, room_portable, wrap_within}
use Rattle.vt_screen.proofs.PortableReads.{ReadsPortably, character_portably, portably_then, all_portable}
use Rattle.vt_screen.proofs.PortableReads.{counted_portably, op_portably, portable_then}
use Rattle.vt_screen.proofs.ReadTexts.{IsFinal}
use Rattle.vt_screen.proofs.ReadMoved.{AreDiffed, ready_after_move, moving_read, with_shown}
use Rattle.vt_screen.proofs.AgainForms.{difference_is_portable}
use Rattle.vt_screen.proofs.CallsNone.{read_run}
use Rattle.vt_screen.proofs.ReadOperations.{moved_to_read}
use Rattle.vt_screen.proofs.Shown.{plain_shown, shown_colored, shown_is}

-- ==== Copied elements and gaps in portable output.

-- ---- elements that leave the cursor where it is

-- The element leaves terminals agreeing on the position of the cursor.
abbrev IsStillUse : Use → Type 0
IsStillUse element = (doubts : Doubts) (canvas : Canvas) → IsPlaced doubts → IsPlaced (doubts_after element doubts canvas)

still_el : IsStillUse El
still_el doubts canvas p = record { wrap = p.wrap; place = p.place }

still_other : IsStillUse Other
still_other doubts canvas p = record { wrap = p.wrap; place = p.place }

-- The output leaves terminals agreeing on the position of the cursor.
abbrev KeepsPlace : List ℕ → Type 0
KeepsPlace text =
    (doubts : Doubts) (screen : ScreenValue) → IsPlaced doubts → IsPlaced (doubts_after_output text doubts screen)

still_if : (b : Bool) (x y : Use) → IsStillUse x → IsStillUse y → IsStillUse (if b then x else y)
still_if true x y h k = h
still_if false x y h k = k

event_keeps : (text : List ℕ) (event : Event) → run start text ≡ back_with (event ∷ []) →
    ((screen : ScreenValue) → IsStillUse (use_of event screen)) → KeepsPlace text
event_keeps text event gives still doubts screen p =
    subst IsPlaced (sym (ap (λ (s : Step). doubts_after_all s.events doubts screen) gives))
    (still screen doubts (canvas_of screen) p)

csi_keeps : (text : List ℕ) (final : ℕ) → IsParameterText text → IsFinal final →
    ((groups : List (List ℕ)) (last : Option ℕ) → IsStillUse (csi_use groups final last)) → KeepsPlace (csi text final)
csi_keeps text final is is_final still =
    let groups = (table_of text).groups in
    event_keeps (csi text final) (CsiDispatch groups [] final) (read_csi text final is is_final.0 is_final.1)
    (λ screen. still_if (has_single_numbers groups) (csi_use groups final screen.last) Other (still groups screen.last) still_other)

counted_keeps : (n final : ℕ) → n < 2 ^ 16 → IsFinal final →
    ((groups : List (List ℕ)) (last : Option ℕ) → IsStillUse (csi_use groups final last)) → KeepsPlace (counted n final)
counted_keeps zero final small is still = λ doubts screen p. p
counted_keeps (suc zero) final small is still = csi_keeps [] final tt is still
counted_keeps (suc (suc n)) final small is still =
    csi_keeps (decimal (suc (suc n))) final (decimal_is_parameter (suc (suc n)) (omega arith)) is still

rest_keeps : KeepsPlace (csi [] 0x4B)
unfolding csi_use
rest_keeps = csi_keeps [] 0x4B tt (omega arith, omega arith)
    (λ groups last. still_if (number_at 0 groups == 0) El Other still_el still_other)

attributes_keep : (text : List ℕ) → IsParameterText text → KeepsPlace (csi text 0x6D)
unfolding csi_use
attributes_keep text is =
    csi_keeps text 0x6D is (omega arith, omega arith)
    (λ groups last. still_if (list_all is_render (sgr_steps groups)) (Sgr _) Other
    (λ doubts canvas p. record { wrap = p.wrap; place = p.place }) still_other)

chars_erased_keep : (n : ℕ) → n < 2 ^ 16 → KeepsPlace (counted n 0x58)
unfolding csi_use
chars_erased_keep n small =
    counted_keeps n 0x58 small (omega arith, omega arith) (λ groups last doubts canvas p. record { wrap = p.wrap; place = p.place })

lines_keep : (n : ℕ) (insert : Bool) → n < 2 ^ 16 → KeepsPlace (counted n (if insert then 0x4C else 0x4D))
unfolding csi_use
lines_keep n true small =
    counted_keeps n 0x4C small (omega arith, omega arith) (λ groups last doubts canvas p. record { wrap = p.wrap; place = p.place })
lines_keep n false small =
    counted_keeps n 0x4D small (omega arith, omega arith) (λ groups last doubts canvas p. record { wrap = p.wrap; place = p.place })

chars_keep : (n : ℕ) (insert : Bool) → n < 2 ^ 16 → KeepsPlace (counted n (if insert then 0x40 else 0x50))
unfolding csi_use
chars_keep n true small =
    counted_keeps n 0x40 small (omega arith, omega arith) (λ groups last doubts canvas p. record { wrap = p.wrap; place = p.place })
chars_keep n false small =
    counted_keeps n 0x50 small (omega arith, omega arith) (λ groups last doubts canvas p. record { wrap = p.wrap; place = p.place })

hide_keeps : (hidden : Bool) → KeepsPlace (bytes_of (Hide hidden))
unfolding fresh_step class_of table_of groups_of numbers_of number_of
hide_keeps true =
    event_keeps (bytes_of (Hide true)) (CsiDispatch ((25 ∷ []) ∷ []) (0x3F ∷ []) 0x6C) refl
    (λ screen doubts canvas p. record { wrap = p.wrap; place = p.place })
hide_keeps false =
    event_keeps (bytes_of (Hide false)) (CsiDispatch ((25 ∷ []) ∷ []) (0x3F ∷ []) 0x68) refl
    (λ screen doubts canvas p. record { wrap = p.wrap; place = p.place })

sgr_keeps : (text : List ℕ) → IsSgrText 32 Any text → KeepsPlace (csi text 0x6D)
sgr_keeps text is =
    subst (λ (t : List ℕ). KeepsPlace (csi t 0x6D)) (sym is.spelled)
    (attributes_keep (semicolon_list (is.first ∷ is.rest))
    (joined_is_parameter (is.first ∷ is.rest) (All-from_recursion (λ n. n ≤ 65535) (is.first ∷ is.rest)
    (weaker (is.first ∷ is.rest) is.small))))
  where
    weaker : (ns : List ℕ) → AllByRecursion (λ n. n < 65536) ns → AllByRecursion (λ n. n ≤ 65535) ns
    weaker [] h = tt
    weaker (n ∷ ns) h = let one = h.0 in (omega arith, weaker ns h.1)

-- ---- every element

module _ (rows cols : ℕ) (known : Option Pos) (to : Pos) (bytes : List ℕ) (screen : ScreenValue) (doubts : Doubts)
    (sized : IsPlainSized rows cols screen) (at : IsAt known screen) (agreed : IsAgreed known doubts) where
  here : (from : Pos) → known ≡ Some from → IsAtPos from screen
  here from e = subst (λ (k : Option Pos). IsAt k screen) e at

  kept_place : KeepsPlace bytes → known ≡ Some to → IsPlaced (doubts_after_output bytes doubts screen)
  kept_place keeps e = keeps doubts screen (agreed_at known to doubts e agreed)

  ascii_place : (bs : List ℕ) → bytes ≡ bs → AllByRecursion IsAsciiCharacter bs →
      IsPrinted cols elements.Ascii known bs to → IsPlaced (doubts_after_output bytes doubts screen)
  ascii_place [] e is (from, from_is, after) =
      subst (λ (t : List ℕ). IsPlaced (doubts_after_output t doubts screen)) (sym e) (agreed_at known from doubts from_is agreed)
  ascii_place (b ∷ bs) e is (from, from_is, after) =
      let there = (here from from_is).column in
      let wide = sized.width in
      let inside = after.inside in
      let col = after.column in
      let written = letters_written b bs doubts screen is (agreed_at known from doubts from_is agreed)
      (omega (arith, there, wide, inside, col)) in
      subst (λ (t : List ℕ). IsPlaced (doubts_after_output t doubts screen)) (sym e)
      (subst IsPlaced (sym written.reads.after) (record {
        wrap = written.printed.wrap
            ∙ wrap_within (screen.page.column + length (b ∷ bs)) screen.page.width (omega (arith, there, wide, inside, col));
        place = written.printed.place;
      }))

  other_place : (c n : ℕ) (from : Pos) → IsElement (elements.Other c) bytes → is_certain c ≡ true → known ≡ Some from →
      columns_of c ≡ Some (suc n) → IsAfter cols from (suc n) to → IsPlaced (doubts_after_output bytes doubts screen)
  other_place c n from is certain e columns after =
      let there = (here from e).column in
      let wide = sized.width in
      let inside = after.inside in
      let col = after.column in
      let p = agreed_at known from doubts e agreed in
      let printed = printed_on c n doubts screen certain columns (columns_of-le c (suc n) columns) p
      (omega (arith, there, wide, inside, col)) in
      subst (λ (t : List ℕ). IsPlaced (doubts_after_output t doubts screen)) (sym is.1)
      (subst IsPlaced (sym (character_portably c doubts screen is.0
      (room_portable (columns_of c) c n doubts screen columns p (omega (arith, there, wide, inside, col)))).after)
      (record {
        wrap = printed.wrap
            ∙ wrap_within (screen.page.column + suc n) screen.page.width (omega (arith, there, wide, inside, col));
        place = printed.place;
      }))

  element_place : (element : Element) → IsElement element bytes → IsPrinted cols element known bytes to →
      IsCertainElement element → IsPlaced (doubts_after_output bytes doubts screen)
  element_place elements.Ascii is printed certain = ascii_place bytes refl is printed
  element_place (elements.Other c) is (from, e, (zero, columns, some, after)) certain = absurd (omega (arith, some))
  element_place (elements.Other c) is (from, e, (suc n, columns, some, after)) certain =
      other_place c n from is certain e columns after
  element_place (elements.Place pos) is printed certain = absurd printed
  element_place (elements.Right n) is printed certain = absurd printed
  element_place elements.NextRow is printed certain = absurd printed
  element_place elements.EraseRest is printed certain =
      subst (λ (t : List ℕ). IsPlaced (doubts_after_output t doubts screen)) (sym is)
      (rest_keeps doubts screen (agreed_at known to doubts printed agreed))
  element_place (elements.EraseChars n) is printed certain =
      let small = is.1 in
      subst (λ (t : List ℕ). IsPlaced (doubts_after_output t doubts screen)) (sym is.2)
      (chars_erased_keep n (omega (arith, small)) doubts screen (agreed_at known to doubts printed agreed))
  element_place (elements.Lines n insert) is printed certain =
      let small = is.1 in
      subst (λ (t : List ℕ). IsPlaced (doubts_after_output t doubts screen)) (sym is.2)
      (lines_keep n insert (omega (arith, small)) doubts screen (agreed_at known to doubts printed agreed))
  element_place (elements.Chars n insert) is printed certain =
      let small = is.1 in
      subst (λ (t : List ℕ). IsPlaced (doubts_after_output t doubts screen)) (sym is.2)
      (chars_keep n insert (omega (arith, small)) doubts screen (agreed_at known to doubts printed agreed))
  element_place (elements.Hide hidden) is printed certain =
      subst (λ (t : List ℕ). IsPlaced (doubts_after_output t doubts screen)) (sym is)
      (hide_keeps hidden doubts screen (agreed_at known to doubts printed agreed))
  element_place elements.ClearAttrs is printed certain =
      subst (λ (t : List ℕ). IsPlaced (doubts_after_output t doubts screen)) (sym is)
      (attributes_keep [] tt doubts screen (agreed_at known to doubts printed agreed))
  element_place elements.Attrs (text, is, e) printed certain =
      subst (λ (t : List ℕ). IsPlaced (doubts_after_output t doubts screen)) (sym e)
      (sgr_keeps text is doubts screen (agreed_at known to doubts printed agreed))

-- After an element that is copied, terminals agree on the position of the cursor if the code knows it.
pub element_agreed : (rows cols : ℕ) (known new : Option Pos) (element : Element) (bytes : List ℕ) (screen : ScreenValue)
    (doubts : Doubts) → IsElement element bytes → IfSome new (IsPrinted cols element known bytes) →
    IfSome new (λ to. IsCertainElement element) → IsPlainSized rows cols screen → IsAt known screen →
    IsAgreed known doubts → IsAgreed new (doubts_after_output bytes doubts screen)
element_agreed rows cols known None element bytes screen doubts is printed certain sized at agreed = tt
element_agreed rows cols known (Some to) element bytes screen doubts is printed certain sized at agreed =
    element_place rows cols known to bytes screen doubts sized at agreed element is printed certain

-- ---- gaps

-- The glyphs of a gap and the character after it are printed, instead of moving over the gap and printing the character.
pub gap_keeps : (n b : ℕ) (text : List ℕ) (screen : ScreenValue) (doubts : Doubts) → 0 < n → n < 2 ^ 16 →
    AllByRecursion IsAsciiCharacter (text ++ b ∷ []) → IsAsciiCharacter b → length text ≡ n → IsPlaced doubts →
    screen.page.column + n < screen.page.width →
    ReadsAgreed (text ++ b ∷ []) doubts screen
    × IsNoWorse (doubts_after_output (counted n 0x43 ++ b ∷ []) doubts screen)
    (doubts_after_output (text ++ b ∷ []) doubts screen)
gap_keeps n b text screen doubts some small all is long p inside = by_text text all long
  where
    next : ScreenValue
    next = moved_on n screen.last screen

    moved : IsSettling (counted n 0x43) doubts screen
    moved = right_settles n doubts screen p some small

    letter : IsWritten (b ∷ []) moved.left next
    letter = letters_written b [] moved.left next (is, tt) moved.placed (omega arith)

    both : ReadsPortably (counted n 0x43 ++ b ∷ []) doubts screen letter.left
    both = portably_then (counted n 0x43) (b ∷ []) doubts moved.left letter.left screen moved.reads
        (becomes_next (counted n 0x43) moved.left letter.left (b ∷ []) screen next (skip_read n screen some small inside)
        letter.reads)

    by_text : (text : List ℕ) → AllByRecursion IsAsciiCharacter (text ++ b ∷ []) → length text ≡ n →
        ReadsAgreed (text ++ b ∷ []) doubts screen
        × IsNoWorse (doubts_after_output (counted n 0x43 ++ b ∷ []) doubts screen)
        (doubts_after_output (text ++ b ∷ []) doubts screen)
    by_text [] all long = absurd (omega (arith, some, long))
    by_text (c ∷ cs) all long =
        let size = length-append cs (b ∷ []) in
        let whole = letters_written c (cs ++ b ∷ []) doubts screen all p (omega (arith, size, long, inside)) in
        let column : screen.page.column + length (c ∷ (cs ++ b ∷ [])) ≡ next.page.column + 1 = omega (arith, size, long) in (
          whole.reads.events,
          subst (λ (d : Doubts). IsNoWorse d (doubts_after_output (c ∷ (cs ++ b ∷ [])) doubts screen)) (sym both.after)
              (subst (IsNoWorse letter.left) (sym whole.reads.after) (record {
                wrap = whole.printed.wrap
                    ∙ (ap (λ (k : ℕ). wrap_at k screen.page.width) column ∙ sym letter.printed.wrap);
                place = whole.printed.place ∙ sym letter.printed.place;
                follows = λ e. whole.printed.follows;
              })),
        )

-- ==== Diffs that first move a band of rows are portable.

-- ---- moving a band

-- CUP to the first column of a row, followed by IL or DL.
lines_portably : (r n final : ℕ) (doubts : Doubts) (screen : ScreenValue) → r < 65535 → 0 < n → n < 2 ^ 16 → IsFinal final →
    ((groups : List (List ℕ)) (s : ScreenValue) → csi_use groups final s.last ≡ Lines) →
    ReadsPortably (bytes_of (MoveTo r 0) ++ counted n final) doubts screen no_doubts
lines_portably r zero final doubts screen low some short is_final e = absurd (omega arith)
lines_portably r (suc n) final doubts screen low some short is_final e =
    let next = with_page (moved (To r 0) screen.page) screen in
    portably_then (bytes_of (MoveTo r 0)) (counted (suc n) final) doubts no_doubts no_doubts screen
    (op_portably (MoveTo r 0) doubts screen (low, omega arith) tt)
    (becomes_next (bytes_of (MoveTo r 0)) no_doubts no_doubts (counted (suc n) final) screen next
    (moved_to_read r 0 screen low (omega arith))
    (counted_portably n final Lines no_doubts next short is_final (λ groups _. e groups next)
    (record { wrap = refl; place = refl }, omega arith)))

deleted_portably : (r n : ℕ) (doubts : Doubts) (screen : ScreenValue) → r < 65535 → 0 < n → n < 2 ^ 16 →
    ReadsPortably (lines_deleted_text r n) doubts screen no_doubts
unfolding csi_use
deleted_portably r n doubts screen low some short =
    lines_portably r n 0x4D doubts screen low some short (omega arith, omega arith) (λ groups s. refl)

inserted_portably : (r n : ℕ) (doubts : Doubts) (screen : ScreenValue) → r < 65535 → 0 < n → n < 2 ^ 16 →
    ReadsPortably (lines_inserted_text r n) doubts screen no_doubts
unfolding csi_use
inserted_portably r n doubts screen low some short =
    lines_portably r n 0x4C doubts screen low some short (omega arith, omega arith) (λ groups s. refl)

both_portably : (gone in_at n : ℕ) (doubts : Doubts) (screen : ScreenValue) → gone < 65535 → in_at < 65535 → 0 < n →
    n < 2 ^ 16 → ReadsPortably (lines_deleted_text gone n ++ lines_inserted_text in_at n) doubts screen no_doubts
both_portably gone in_at n doubts screen first second some short =
    portably_then (lines_deleted_text gone n) (lines_inserted_text in_at n) doubts no_doubts no_doubts screen
    (deleted_portably gone n doubts screen first some short)
    (inserted_portably in_at n no_doubts (screen_in start screen (lines_deleted_text gone n)) second some short)

portably_if : (b : Bool) (doubts left : Doubts) (screen : ScreenValue) (x y : List ℕ) →
    ReadsPortably x doubts screen left → ReadsPortably y doubts screen left →
    ReadsPortably (if b then x else y) doubts screen left
portably_if true doubts left screen x y p q = p
portably_if false doubts left screen x y p q = q

band_portably : (height : ℕ) (band : Band) (doubts : Doubts) (screen : ScreenValue) → height < 2 ^ 16 →
    IsBand height band → ReadsPortably (band_text height band) doubts screen no_doubts
unfolding up_text down_text
band_portably height band doubts screen tall is =
    let a = is.nonempty in
    let b = is.rows in
    let c = is.inside in
    portably_if band.up doubts no_doubts screen (up_text height band) (down_text height band)
    (portably_if (band.bottom == height) doubts no_doubts screen (lines_deleted_text band.top band.count) _
    (deleted_portably band.top band.count doubts screen (omega arith) a (omega arith))
    (both_portably band.top (band.bottom - band.count) band.count doubts screen (omega arith) (omega arith) a (omega arith)))
    (portably_if (band.bottom == height) doubts no_doubts screen (lines_inserted_text band.top band.count) _
    (inserted_portably band.top band.count doubts screen (omega arith) a (omega arith))
    (both_portably (band.bottom - band.count) band.top band.count doubts screen (omega arith) (omega arith) a (omega arith)))

-- A change to the default attributes sets the intensity to normal first.
reset_apart : (was : Attrs) (i : Intensity) → KeepsApart i (change_intensities was default_attrs)
reset_apart was i =
    cond_both (same_attrs default_attrs default_attrs) (Normal ∷ [])
    (if same_intensity was.intensity default_attrs.intensity then [] else default_attrs.intensity ∷ []) (KeepsApart i)
    (λ _. (normal_apart i, tt))
    (λ (f : same_attrs default_attrs default_attrs ≡ false). let t = same_attrs-itself default_attrs in absurd (cc))

-- A change to the default attributes, followed by output that is portable whatever terminals differ in before.
reset_portably : (was : Attrs) (rest : List ℕ) (doubts left : Doubts) (screen : ScreenValue) → FitsAttrs was →
    ((d : Doubts) (s : ScreenValue) → ReadsPortably rest d s left) →
    ReadsPortably (bytes_of_all (attr_ops was default_attrs) ++ rest) doubts screen left
unfolding attr_ops_in
reset_portably was rest doubts left screen fits more = by_same (same_attrs was default_attrs)
  where
    change : List ℕ
    change = bytes_of (ChangeAttrs was default_attrs)

    later : Doubts
    later = doubts_after_op (ChangeAttrs was default_attrs) doubts (canvas_of screen)

    by_same : (b : Bool) →
        ReadsPortably (bytes_of_all (if b then [] else ChangeAttrs was default_attrs ∷ []) ++ rest) doubts screen left
    by_same true = more doubts screen
    by_same false =
        subst (λ (text : List ℕ). ReadsPortably (text ++ rest) doubts screen left) (sym (append-nil change))
        (portably_then change rest doubts later left screen
        (op_portably (ChangeAttrs was default_attrs) doubts screen (fits, (tt, tt)) (λ _. reset_apart was screen.attrs.intensity))
        (more later (screen_in start screen change)))

moving_portably : (band : Band) (prev : Picture) (doubts : Doubts) (screen : ScreenValue) → FitsAttrs prev.attrs →
    length prev.rows < 2 ^ 16 → IsBand (length prev.rows) band →
    ReadsPortably (moving_text band prev) doubts screen no_doubts
moving_portably band prev doubts screen fits tall inside =
    reset_portably prev.attrs (band_text (length prev.rows) band) doubts no_doubts screen fits
    (λ d s. band_portably (length prev.rows) band d s tall inside)

-- ---- the whole output

-- Terminals that display the picture after the move agree on the position of the cursor.
none_after_move : (band : Band) (prev : Picture) → 0 < prev.width → doubts_of (picture_after_move band prev) ≡ no_doubts
unfolding doubts_of is_past_uncertain
none_after_move band prev some = let t : nat_lt 0 prev.width ≡ true = grind (arith, nat_tests) in rw t refl

moved_portable : (self reader : ScreenValue) (band : Band) (doubts : Doubts) → IsScreen self → IsColored self →
    IsSteady (display self) → IsReader (display self) reader → FitsAttrs reader.attrs →
    IsBand (length reader.page.rows) band →
    PortableEvents (run start (scrolling_text Portable band (display self) (picture_of (canvas_of reader)))).events
    doubts reader
moved_portable self reader band doubts is colored steady r fits inside =
    let picture = display self in
    let before = picture_of (canvas_of reader) in
    let between = picture_after_move band before in
    let next = with_shown between reader in
    let ops = difference_in Portable picture between in
    let ready = ready_after_move picture reader band r inside in
    let whole = page_picture (canvas_of next) ready.sound.page in
    let drawn = difference_draws_in Portable picture between (canvas_of next) (shown_is self is) steady whole ready.size
    ready.plain refl in
    let agreed = subst (λ (d : Doubts). PortableOps ops d (canvas_of next))
    (none_after_move band before r.sound.page.has_columns)
    (difference_portable picture between (canvas_of next) (shown_is self is) steady whole ready.size ready.plain refl) in
    let reads = read_run (moving_text band before) (terminal start reader) (terminal start next)
    (moving_read band reader r.sound r.plain inside) in
    portable_then (moving_text band before) (bytes_of_all ops) doubts no_doubts reader
    (moving_portably band before doubts reader fits r.sound.page.height inside)
    (subst (λ (s : ScreenValue). PortableEvents (run start (bytes_of_all ops)).events no_doubts s)
    (sym reads.steps.becomes)
    (all_portable ops no_doubts next (with_saved drawn.0 (with_picture picture (canvas_of next)))
    (moved_fits Portable picture before band (shown_is self is) (shown_colored self is colored)
    (page_picture (canvas_of reader) r.sound.page) r.sound.page.columns) drawn.1 agreed))

-- A portable diff that may first move a band of rows is portable.
scrolling_portable : (self prev : ScreenValue) (text : List ℕ) → AreDiffed self prev →
    IsScrolling Portable (display self) (display prev) text → IsPortableFrom prev self text
scrolling_portable self prev text d (inl told) =
    subst (IsPortableFrom prev self) (sym told)
    (difference_is_portable self prev d.sound d.colored d.other d.other_colored d.size)
scrolling_portable self prev text d (inr (band, inside, told)) = λ steady reader r.
    let e : picture_of (canvas_of reader) ≡ display prev = sym (plain_shown reader r.is.sound r.is.plain) ∙ r.shows in
    subst (λ (t : List ℕ). PortableEvents (run start t).events (doubts_of (display prev)) reader) (sym told)
    (subst (λ (p : Picture). PortableEvents (run start (scrolling_text Portable band (display self) p)).events
    (doubts_of (display prev)) reader) e
    (moved_portable self reader band (doubts_of (display prev)) d.sound d.colored steady r.is
    (subst (λ (p : Picture). FitsAttrs p.attrs) (sym e) d.other_colored.attrs)
    (subst (λ (p : Picture). IsBand (length p.rows) band) (sym e) inside)))

pub moving_portable : (form : Form) (self prev : ScreenValue) (text : List ℕ) → AreDiffed self prev →
    IsMoving form (display self) (display prev) text → form ≡ Portable → IsPortableFrom prev self text
moving_portable Fixed self prev text d moving e = absurd cc
moving_portable Portable self prev text d (inl told) e = scrolling_portable self prev text d told
moving_portable Portable self prev text d (inr (fixed, it)) e = absurd cc
