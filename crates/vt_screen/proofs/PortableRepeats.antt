-- Portable output in which runs are written with REP.
use Rattle.std.proofs.Common.{◌≡◌, ◌≢◌, ℕ, zero, suc, ◌+◌, ◌<◌, ◌≤◌, ◌==◌, ◌&&◌, ◌||◌, not, Bool, true, false, List, []}
use Rattle.std.proofs.Common.{◌∷◌, ◌++◌, Option, Some, refl, sym, ap, ap₂, subst, ◌∙◌, arith, append_assoc, length}
use Rattle.std.proofs.Common.{take, drop, slice_index_or, ◌-◌}
use Rattle.std.specs.Prelude.{if◌then◌else◌}
use Rattle.std.specs.Char.{encode_utf8}
use Rattle.std.proofs.lemmas.Bool.Decides.{nat_tests}
use Rattle.std.proofs.lemmas.List.{append_cancel_left, take-append-drop}
use Rattle.vt_cells.specs.Glyph.{columns_of}
use Rattle.vt_cells.specs.Op.{csi}
use Rattle.vt_scan.specs.Automaton.{Event, Step, Character, Executed, EscDispatch, CsiDispatch, OscDispatch, start, run}
use Rattle.vt_scan.specs.Internals.{Opens}
use Rattle.vt_scan.specs.Parameters.{table_of}
use Rattle.vt_scan.specs.Texts.{back_with}
use Rattle.vt_scan.proofs.Readback.{read_control, events_then, read_csi}
use Rattle.vt_grid.specs.Page.{Page}
use Rattle.vt_redraw.specs.Certain.{is_certain}
use Rattle.vt_redraw.specs.Doubts.{Doubts, IsPlaced, NotPending, Wrap, wrap_at}
use Rattle.vt_redraw.specs.Fits.{IsDrawn}
use Rattle.vt_redraw.specs.Uses.{Use, Graphic, Cup, Cr, Cha, Cuf, Bs, Lf, Ed, El, Ech, Lines, Columns, Rep, Dectcem}
use Rattle.vt_redraw.specs.Uses.{Decsc, Decrc, Other, IsPortableCharacter, IsPortableUse, doubts_after, may_print}
use Rattle.vt_screen.specs.CallsOfRun.{screen_after_all, screen_in, steps_of_all}
use Rattle.vt_screen.specs.Controls.{number_at, number_or, seen_of, steps_of}
use Rattle.vt_screen.specs.Portable.{PortableEvents, ReadsAgreed, control_use, csi_use, doubts_after_all}
use Rattle.vt_screen.specs.Portable.{doubts_after_output, escape_use, has_single_numbers, private_use, sgr_use, use_of}
use Rattle.vt_screen.specs.Internals.{BeginApart, IsApart, IsApartEvent, IsFinalAt, KeepsAgreed}
use Rattle.vt_screen.specs.Repeating.{IsNarrow, copies, repeat_text}
use Rattle.vt_screen.specs.Screen.{ScreenValue, canvas_of}
use Rattle.vt_screen.specs.Steps.{Print, Step as Action, screen_after}
use Rattle.vt_screen.proofs.ReadCharacters.{printed_moves}
use Rattle.vt_screen.proofs.PortableReads.{character_reads, events_split, run_then}
use Rattle.vt_screen.proofs.PortableMoves.{wrap_within, output_split, output_then}
use Rattle.vt_screen.proofs.ReadOperations.{prints}
use Rattle.vt_screen.proofs.RepeatRooms.{page_sent}
use Rattle.vt_screen.proofs.RepeatTokens.{sequence_taken}
use Rattle.vt_screen.proofs.RepeatSteps.{copies_read, copies_steps, count_itself, printed, printed_last, repeat_read}
use Rattle.vt_screen.proofs.RepeatSteps.{repeat_steps}
use Rattle.vt_screen.proofs.PortableSgr.{IsAsPlaced, IsFree, free_graphic, free_other, free_if, free_unless, free_cup}
use Rattle.vt_screen.proofs.PortableSgr.{free_cr, free_cha, free_cuf, free_bs, free_lf, free_ed, free_el, free_ech}
use Rattle.vt_screen.proofs.PortableSgr.{free_lines, free_columns, free_sgr, free_dectcem, free_decsc, free_decrc}

-- ---- events

free_csi : (groups : List (List ℕ)) (b : ℕ) (last : Option ℕ) → (b == 0x62) ≡ false → IsFree (csi_use groups b last)
unfolding csi_use
free_csi groups b last other =
    free_if ((b == 0x40) || (b == 0x50)) Columns _ free_columns
    (free_if (b == 0x43) Cuf _ free_cuf
    (free_if (b == 0x47) Cha _ free_cha
    (free_if (b == 0x48) Cup _ free_cup
    (free_if (b == 0x4A) _ _ (free_if (number_at 0 groups == 0) Ed Other free_ed free_other)
    (free_if (b == 0x4B) _ _ (free_if (number_at 0 groups == 0) El Other free_el free_other)
    (free_if ((b == 0x4C) || (b == 0x4D)) Lines _ free_lines
    (free_if (b == 0x58) (Ech (number_or 1 0 groups)) _ (free_ech (number_or 1 0 groups))
    (free_unless (b == 0x62) (Rep last (number_or 1 0 groups)) _ other
    (free_if (b == 0x6D) (sgr_use groups) Other (free_sgr groups) free_other)))))))))

free_control : (b : ℕ) → IsFree (control_use b)
unfolding control_use
free_control b =
    free_if (b == 0x08) Bs _ free_bs
    (free_if (b == 0x0A) Lf _ free_lf (free_if (b == 0x0D) Cr Other free_cr free_other))

free_escape : (b : ℕ) → IsFree (escape_use b)
unfolding escape_use
free_escape b = free_if (b == 0x37) Decsc _ free_decsc (free_if (b == 0x38) Decrc Other free_decrc free_other)

free_private : (groups : List (List ℕ)) (b : ℕ) → IsFree (private_use groups b)
free_private [] b = free_other
free_private ([] ∷ groups) b = free_other
free_private ((n ∷ m ∷ ns) ∷ groups) b = free_other
free_private ((n ∷ []) ∷ group ∷ groups) b = free_other
free_private ((n ∷ []) ∷ []) b =
    free_if ((n == 25) && ((b == 0x68) || (b == 0x6C))) Dectcem Other free_dectcem free_other

free_event : (event : Event) (screen : ScreenValue) → IsApartEvent event → IsFree (use_of event screen)
free_event (Character c) screen other = free_if (c == 0xFFFD) Other (Graphic c) free_other (free_graphic c other)
free_event (Executed b) screen other = free_control b
free_event (EscDispatch [] b) screen other = free_escape b
free_event (EscDispatch (mark ∷ marks) b) screen other = free_other
free_event (CsiDispatch groups [] b) screen other =
    free_if (has_single_numbers groups) (csi_use groups b screen.last) Other (free_csi groups b screen.last other) free_other
free_event (CsiDispatch groups (mark ∷ []) b) screen other =
    free_if (mark == 0x3F) (private_use groups b) Other (free_private groups b) free_other
free_event (CsiDispatch groups (mark ∷ next ∷ marks) b) screen other = free_other
free_event (OscDispatch parts) screen other = free_other

events_apart : (events : List Event) (was now : Doubts) (screen : ScreenValue) → IsAsPlaced was now → BeginApart events →
    PortableEvents events was screen → PortableEvents events now screen
events_apart [] was now screen p apart h = tt
events_apart (event ∷ events) was now screen p apart h =
    let free = free_event event screen apart in (
      free.allowed was now (canvas_of screen) p h.0,
      subst (λ (d : Doubts). PortableEvents events d (screen_after_all (steps_of event (seen_of screen)) screen))
          (free.after was now (canvas_of screen) p) h.1,
    )

-- ---- a run

-- A printed character that may be printed again: it is certain, and has room.
record IsPrintedAgain (c column width : ℕ) (doubts : Doubts) : Type 0 where
  wrap : doubts.wrap ≡ wrap_at column width
  place : doubts.is_shifted ≡ false

graphic_is : (c : ℕ) (screen : ScreenValue) → IsNarrow c → use_of (Character c) screen ≡ Graphic c
graphic_is c screen is =
    let other = is.drawn.reported in
    let t : (c == 0xFFFD) ≡ false = grind (arith, nat_tests) in ap (λ (b : Bool). if b then Other else Graphic c) t

-- The screen after a character is printed in the cursor's row.
record IsNextColumn (after screen : ScreenValue) : Type 0 where
  column : after.page.column ≡ screen.page.column + 1
  width : after.page.width ≡ screen.page.width

next_column : (c : ℕ) (screen : ScreenValue) → IsNarrow c → screen.page.column + 1 ≤ screen.page.width →
    IsNextColumn (screen_after (Print c) screen) screen
next_column c screen is room =
    let (unpushed, moved) = printed_moves c 0 screen is.columns (omega arith) room in
    let sent = page_sent (Print c) screen in record {
      column = ap (λ (p : Page). p.column) sent ∙ moved.column;
      width = ap (λ (p : Page). p.width) sent ∙ moved.width;
    }

printed_again : (c : ℕ) (doubts : Doubts) (screen : ScreenValue) → IsNarrow c → is_certain c ≡ true →
    doubts.is_shifted ≡ false → screen.page.column + 1 ≤ screen.page.width →
    IsPrintedAgain c (screen.page.column + 1) screen.page.width (doubts_after (Graphic c) doubts (canvas_of screen))
printed_again c doubts screen is certain place room =
    let (unpushed, moved) = printed_moves c 0 screen is.columns (omega arith) room in record {
      wrap = ap (λ (k : ℕ). wrap_at k screen.page.width) moved.column;
      place = ap (λ (b : Bool). b || not (is_certain c)) place ∙ ap not certain;
    }

-- The doubts after all copies of a certain character.
copies_after : (n c : ℕ) (doubts : Doubts) (screen : ScreenValue) → IsNarrow c → is_certain c ≡ true →
    IsPrintedAgain c screen.page.column screen.page.width doubts → screen.page.column + n ≤ screen.page.width →
    IsPrintedAgain c (screen.page.column + n) screen.page.width (doubts_after_all (printed n c) doubts screen)
copies_after zero c doubts screen is certain p room =
    let e : screen.page.column ≡ screen.page.column + 0 = omega arith in
    record { wrap = p.wrap ∙ ap (λ (k : ℕ). wrap_at k screen.page.width) e; place = p.place }
copies_after (suc n) c doubts screen is certain p room =
    let next = screen_after_all (steps_of (Character c) (seen_of screen)) screen in
    let same : screen_after (Print c) screen ≡ next =
    sym (ap (λ (steps : List Action). screen_after_all steps screen) (prints c is.drawn)) in
    let moved = subst (λ (s : ScreenValue). IsNextColumn s screen) same (next_column c screen is (omega arith)) in
    let column = moved.column in
    let width = moved.width in
    let first = printed_again c doubts screen is certain p.place (omega arith) in
    let later = doubts_after (use_of (Character c) screen) doubts (canvas_of screen) in
    let here : IsPrintedAgain c next.page.column next.page.width later =
    subst (λ (u : Use). IsPrintedAgain c next.page.column next.page.width (doubts_after u doubts (canvas_of screen)))
    (sym (graphic_is c screen is)) (record {
      wrap = first.wrap ∙ ap₂ (λ (k w : ℕ). wrap_at k w) (sym column) (sym width);
      place = first.place;
    }) in
    let rest = copies_after n c later next is certain here (omega (arith, column, width)) in
    let far : next.page.column + n ≡ screen.page.column + suc n = omega (arith, column) in
    record { wrap = rest.wrap ∙ ap₂ (λ (k w : ℕ). wrap_at k w) far width; place = rest.place }

-- The event of REP with the given count.
abbrev repeat_event : ℕ → Event
repeat_event n = CsiDispatch ((n ∷ []) ∷ []) [] 0x62

-- REP can stand for the copies of a certain character that was printed just before.
repeat_kept : (n c : ℕ) (rest : List Event) (doubts : Doubts) (screen : ScreenValue) → 0 < n → IsNarrow c →
    is_certain c ≡ true → IsPlaced doubts → doubts.is_after_character ≡ true → screen.last ≡ Some c →
    screen.page.column < screen.page.width → screen.page.column + n ≤ screen.page.width → BeginApart rest →
    PortableEvents (printed n c ++ rest) doubts screen → PortableEvents (repeat_event n ∷ rest) doubts screen
unfolding csi_use
repeat_kept n c rest doubts screen some is certain placed follows last inside room apart h =
    let count = count_itself n some in
    let parts = events_split (printed n c) rest doubts screen h in
    let copied = copies_after n c doubts screen is certain
    (record { wrap = placed.wrap ∙ sym (wrap_within screen.page.column screen.page.width inside); place = placed.place }) room in
    let same : screen_after_all (steps_of_all (printed n c) screen) screen
    ≡ screen_after_all (steps_of (repeat_event n) (seen_of screen)) screen =
    ap (λ (steps : List Action). screen_after_all steps screen)
    (copies_steps n c screen is.drawn ∙ sym (repeat_steps n c screen some last)) in
    let later : Doubts = doubts_after (Rep screen.last (number_or 1 0 ((n ∷ []) ∷ []))) doubts (canvas_of screen) in (
      record {
        place = placed;
        follows = follows;
        character = c;
        is = last;
        columns = is.columns;
        room = subst (λ (k : ℕ). screen.page.column + k ≤ screen.page.width) (sym count) room;
      },
      subst (λ (s : ScreenValue). PortableEvents rest later s) same
          (events_apart rest (doubts_after_all (printed n c) doubts screen) later
          (screen_after_all (steps_of_all (printed n c) screen) screen) (record {
            wrap = ap (λ (k : ℕ). wrap_at (screen.page.column + k) screen.page.width) count ∙ sym copied.wrap;
            place = placed.place ∙ sym copied.place;
          }) apart parts.1),
    )

not_true : (b : Bool) → not b ≡ true → b ≡ false
not_true true e = absurd cc
not_true false e = refl

or_not : (a b : Bool) → (a || not b) ≡ false → b ≡ true
or_not true b e = absurd cc
or_not false true e = refl
or_not false false e = absurd cc

-- A character and REP can stand for the copies of the character.
run_kept : (n c : ℕ) (rest : List Event) (doubts : Doubts) (screen : ScreenValue) → 0 < n → IsNarrow c →
    screen.page.column + suc n ≤ screen.page.width → BeginApart rest →
    PortableEvents (printed (suc n) c ++ rest) doubts screen →
    PortableEvents (Character c ∷ repeat_event n ∷ rest) doubts screen
run_kept zero c rest doubts screen some is room apart h = absurd (omega (arith, some))
run_kept (suc n) c rest doubts screen some is room apart h = (
  h.0,
  repeat_kept (suc n) c rest later next some is certain placed follows last (omega (arith, column, width))
      (omega (arith, column, width)) apart h.1,
)
  where
    later : Doubts
    later = doubts_after (use_of (Character c) screen) doubts (canvas_of screen)

    next : ScreenValue
    next = screen_after_all (steps_of (Character c) (seen_of screen)) screen

    same : screen_after (Print c) screen ≡ next
    same = sym (ap (λ (steps : List Action). screen_after_all steps screen) (prints c is.drawn))

    moved : IsNextColumn next screen
    moved = subst (λ (s : ScreenValue). IsNextColumn s screen) same (next_column c screen is (omega (arith, room)))

    column : next.page.column ≡ screen.page.column + 1
    column = moved.column

    width : next.page.width ≡ screen.page.width
    width = moved.width

    is_later : doubts_after (Graphic c) doubts (canvas_of screen) ≡ later
    is_later = sym (ap (λ (u : Use). doubts_after u doubts (canvas_of screen)) (graphic_is c screen is))

    wrap : later.wrap ≡ NotPending
    wrap =
        let (unpushed, printed_at) = printed_moves c 0 screen is.columns (omega arith) (omega (arith, room)) in
        sym (ap (λ (d : Doubts). d.wrap) is_later)
        ∙ (ap (λ (k : ℕ). wrap_at k screen.page.width) printed_at.column
        ∙ wrap_within (screen.page.column + 1) screen.page.width (omega (arith, room)))

    second : IsPortableCharacter (Some 1) c later next.page
    second =
        subst (λ (o : Option ℕ). IsPortableCharacter o c later next.page) is.columns
        (subst (λ (u : Use). IsPortableUse u later (canvas_of next)) (graphic_is c next is) h.1.0)

    place : later.is_shifted ≡ false
    place =
        not_true later.is_shifted
        (sym (ap (λ (w : Wrap). may_print c w later.is_shifted) wrap) ∙ second.0)

    placed : IsPlaced later
    placed = record { wrap = wrap; place = place }

    certain : is_certain c ≡ true
    certain = or_not doubts.is_shifted (is_certain c) (ap (λ (d : Doubts). d.is_shifted) is_later ∙ place)

    follows : later.is_after_character ≡ true
    follows = sym (ap (λ (d : Doubts). d.is_after_character) is_later)

    last : next.last ≡ Some c
    last = sym (ap (λ (s : ScreenValue). s.last) same) ∙ printed_last c screen is.columns (omega (arith, room))

-- ---- output

run_written : (n c : ℕ) (back : List ℕ) (doubts : Doubts) (screen : ScreenValue) → 0 < n → n ≤ 65535 → IsNarrow c →
    screen.page.column + suc n ≤ screen.page.width → IsApart back → ReadsAgreed (copies (suc n) c ++ back) doubts screen →
    ReadsAgreed ((encode_utf8 c ++ repeat_text n) ++ back) doubts screen
run_written n c back doubts screen some fits is room apart p =
    subst (λ (s : Step). PortableEvents s.events doubts screen) (sym short)
    (run_kept n c (run start back).events doubts screen some is room apart
    (subst (λ (s : Step). PortableEvents s.events doubts screen) full p))
  where
    copied : run start (copies (suc n) c) ≡ back_with (printed (suc n) c)
    copied = copies_read (suc n) c is.drawn

    full : run start (copies (suc n) c ++ back) ≡ events_then (printed (suc n) c) (run start back)
    full =
        run_then (copies (suc n) c) back (ap (λ (s : Step). s.state) copied)
        ∙ ap (λ (s : Step). events_then s.events (run start back)) copied

    first : run start (encode_utf8 c) ≡ back_with (Character c ∷ [])
    first = character_reads c is.drawn

    both : run start (encode_utf8 c ++ repeat_text n) ≡ back_with (Character c ∷ repeat_event n ∷ [])
    both =
        run_then (encode_utf8 c) (repeat_text n) (ap (λ (s : Step). s.state) first)
        ∙ ap₂ (λ (s t : Step). events_then s.events t) first (repeat_read n fits)

    short : run start ((encode_utf8 c ++ repeat_text n) ++ back)
        ≡ events_then (Character c ∷ repeat_event n ∷ []) (run start back)
    short =
        run_then (encode_utf8 c ++ repeat_text n) back (ap (λ (s : Step). s.state) both)
        ∙ ap (λ (s : Step). events_then s.events (run start back)) both

-- A run in the middle of the output.
pub run_agrees : (front back : List ℕ) (n c : ℕ) (doubts : Doubts) (screen : ScreenValue) → (run start front).state ≡ start →
    0 < n → n ≤ 65535 → IsNarrow c →
    (screen_in start screen front).page.column + suc n ≤ (screen_in start screen front).page.width → IsApart back →
    ReadsAgreed (front ++ (copies (suc n) c ++ back)) doubts screen →
    ReadsAgreed (front ++ ((encode_utf8 c ++ repeat_text n) ++ back)) doubts screen
run_agrees front back n c doubts screen ground some fits is room apart p =
    let next = screen_in start screen front in
    let parts = output_split front (copies (suc n) c ++ back) doubts screen next ground refl p in
    output_then front ((encode_utf8 c ++ repeat_text n) ++ back) doubts screen next ground refl parts.0
    (run_written n c back (doubts_after_output front doubts screen) next some fits is room apart parts.1)

-- ---- what follows a run

first_apart : (a rest : List ℕ) (event : Event) → run start a ≡ back_with (event ∷ []) → IsApartEvent event → IsApart (a ++ rest)
first_apart a rest event gives apart =
    let both : run start (a ++ rest) ≡ events_then (event ∷ []) (run start rest) =
    run_then a rest (ap (λ (s : Step). s.state) gives)
    ∙ ap (λ (s : Step). events_then s.events (run start rest)) gives in
    subst (λ (s : Step). BeginApart s.events) (sym both) apart

-- A character that takes columns.
pub character_apart : (c : ℕ) (text rest : List ℕ) → IsDrawn c → columns_of c ≢ Some 0 → text ≡ encode_utf8 c ++ rest →
    IsApart text
character_apart c text rest is other e =
    subst IsApart (sym e) (first_apart (encode_utf8 c) rest (Character c) (character_reads c is) other)

some_other : (n : ℕ) (columns : Option ℕ) → columns ≡ Some (suc n) → columns ≢ Some 0
some_other n columns e none = let met : Some (suc n) ≡ Some 0 = sym e ∙ none in cc

-- If only some of the copies belong to the run, the next copy follows it.
copies_apart : (n k c : ℕ) (back rest : List ℕ) → IsNarrow c → k < n → copies n c ++ back ≡ copies k c ++ rest → IsApart rest
copies_apart zero k c back rest is less e = absurd (omega (arith, less))
copies_apart (suc n) zero c back rest is less e =
    character_apart c rest (copies n c ++ back) is.drawn (some_other 0 (columns_of c) is.columns)
    (sym e ∙ append_assoc (encode_utf8 c) (copies n c) back)
copies_apart (suc n) (suc k) c back rest is less e =
    copies_apart n k c back rest is (omega (arith, less))
    (append_cancel_left (encode_utf8 c) (copies n c ++ back) (copies k c ++ rest)
    (sym (append_assoc (encode_utf8 c) (copies n c) back) ∙ (e ∙ append_assoc (encode_utf8 c) (copies k c) rest)))

-- ---- for the code

pub empty_apart : (text : List ℕ) → length text ≡ 0 → IsApart text
empty_apart [] e = tt
empty_apart (b ∷ text) e = absurd (omega (arith, e))

-- A control character other than ESC.
pub control_apart : (bytes : List ℕ) → 0 < length bytes → slice_index_or bytes 0 0 < 0x20 → slice_index_or bytes 0 0 ≢ 0x1B →
    IsApart bytes
control_apart [] some low other = absurd (omega (arith, some))
control_apart (b ∷ bytes) some low other = first_apart (b ∷ []) bytes (Executed b) (read_control b low other) tt

pub drawn_apart : (c : ℕ) (text : List ℕ) (columns : ℕ) → IsDrawn c → columns_of c ≡ Some columns → 0 < columns →
    take (length (encode_utf8 c)) text ≡ encode_utf8 c → IsApart text
drawn_apart c text zero is e some begins = absurd (omega (arith, some))
drawn_apart c text (suc n) is e some begins =
    character_apart c text (drop (length (encode_utf8 c)) text) is (some_other n (columns_of c) e)
    (sym (take-append-drop (length (encode_utf8 c)) text)
    ∙ ap (λ (t : List ℕ). t ++ drop (length (encode_utf8 c)) text) begins)

-- A control sequence other than REP.
pub sequence_apart : (bytes : List ℕ) (last : ℕ) → Opens bytes → IsFinalAt bytes last → 0x40 ≤ slice_index_or bytes last 0 →
    slice_index_or bytes last 0 ≤ 0x7E → slice_index_or bytes last 0 ≢ 0x62 → IsApart bytes
sequence_apart bytes last opens is low high other =
    let past = is.past in
    let inside = is.inside in
    let back : 2 + (last - 2) ≡ last = omega (arith, past) in
    let text : List ℕ = take (last - 2) (drop 2 bytes) in
    let final : ℕ = slice_index_or bytes last 0 in
    let taken : take (2 + (last - 2) + 1) bytes ≡ csi text final =
    sequence_taken bytes (last - 2) opens (omega (arith, past, inside))
    ∙ ap (λ (k : ℕ). csi text (slice_index_or bytes k 0)) back in
    let whole : csi text final ++ drop (2 + (last - 2) + 1) bytes ≡ bytes =
    ap (λ (t : List ℕ). t ++ drop (2 + (last - 2) + 1) bytes) (sym taken) ∙ take-append-drop (2 + (last - 2) + 1) bytes in
    subst IsApart whole
    (first_apart (csi text final) (drop (2 + (last - 2) + 1) bytes) (CsiDispatch (table_of text).groups [] final)
    (read_csi text final is.parameters low high) (grind (arith, nat_tests)))

-- Only some of the copies are counted.
pub fewer_apart : (count k c : ℕ) (text back rest : List ℕ) → IsNarrow c → k ≤ count - 1 → 0 < k →
    text ≡ copies count c ++ back → text ≡ copies k c ++ rest → IsApart rest
fewer_apart count k c text back rest is most some whole part =
    copies_apart count k c back rest is (omega (arith, most, some)) (sym whole ∙ part)

pub agreed_itself : (width room : ℕ) (text : List ℕ) → KeepsAgreed width room text text
agreed_itself width room text reader doubts is p = p
