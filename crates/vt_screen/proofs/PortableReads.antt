-- If a list of operations is portable, so is its output: the events that reading it yields use no element in a state in
-- which terminals disagree.
use Rattle.std.proofs.Common.{◌≡◌, ℕ, zero, suc, ◌<◌, ◌≤◌, ◌^◌, ◌==◌, Bool, true, false, List, [], ◌∷◌, ◌++◌}
use Rattle.std.proofs.Common.{Option, Some, refl, sym, ap, subst, ◌∙◌, arith}
use Rattle.std.specs.Prelude.{decimal, if◌then◌else◌, chars, encode_utf8_all}
use Rattle.std.specs.Char.{encode_utf8}
use Rattle.std.specs.List.{AllByRecursion}
use Rattle.std.proofs.lemmas.Bool.Decides.{nat_tests}
use Rattle.std.proofs.lemmas.List.Elements.{All-from_recursion}
use Rattle.std.proofs.lemmas.Str.{chars-encodes}
use Rattle.vt_cells.specs.Attrs.{default_attrs, same_attrs, same_intensity, Attrs}
use Rattle.vt_cells.specs.Op.{Op, Hide, ClearAttrs, MoveTo, MoveRight, NextRow, LineFeed, Backspace, EraseBelow}
use Rattle.vt_cells.specs.Op.{EraseRest, EraseChars, SaveCursor, RestoreCursor, ChangeAttrs, Print, csi, counted}
use Rattle.vt_cells.specs.Op.{place, semicolon_list, change_numbers, change_text, FitsAttrs, bytes_of, bytes_of_all}
use Rattle.vt_cells.specs.declared.attrs.Intensity.TheVariants.{Normal}
use Rattle.vt_grid.specs.Canvas.{Canvas, canvas_after_op, drawn_all}
use Rattle.vt_grid.specs.Scrollback.{Scrollback}
use Rattle.vt_redraw.specs.Doubts.{Doubts, doubts_of}
use Rattle.vt_redraw.specs.Fits.{Fits, IsDrawn}
use Rattle.vt_redraw.specs.Picture.{Picture}
use Rattle.vt_redraw.specs.Uses.{PortableText, PortableOps, IsPortableOp, canvas_after_print, canvas_after_return}
use Rattle.vt_redraw.specs.Uses.{change_intensities, doubts_after_text, doubts_after_op, Use, Graphic, Cup, Cr, Cuf, Bs}
use Rattle.vt_redraw.specs.Uses.{Lf, Ed, El, Ech, Sgr, Dectcem, Decsc, Decrc, Other, IsPortableUse, doubts_after}
use Rattle.vt_scan.specs.Automaton.{State, Step, Event, Character, Executed, EscDispatch, CsiDispatch, start}
use Rattle.vt_scan.specs.Automaton.{fresh_step, run}
use Rattle.vt_scan.specs.Parameters.{table_of, groups_of, numbers_of, number_of}
use Rattle.vt_scan.specs.Table.{class_of}
use Rattle.vt_scan.specs.Texts.{IsParameterText, back_with, place_groups}
use Rattle.vt_scan.proofs.Readback.{read_control, read_written, events_then, run-append, read_csi}
use Rattle.vt_scan.proofs.ParameterNumbers.{alone, empty_groups, decimal_groups, joined_groups, place_groups_are}
use Rattle.vt_scan.proofs.ParameterNumbers.{decimal_is_parameter, joined_is_parameter, place_is_parameter}
use Rattle.vt_screen.specs.CallsOfRun.{screen_after_all, screen_in, steps_of_all}
use Rattle.vt_screen.specs.Controls.{control_steps, number_or, seen_of, steps_of}
use Rattle.vt_screen.specs.Portable.{IsPortable, IsPortableRedraw, PortableEvents, control_use, csi_use, doubts_after_all}
use Rattle.vt_screen.specs.Portable.{escape_use, has_single_numbers, sgr_use, use_of}
use Rattle.vt_screen.specs.Reading.{terminal}
use Rattle.vt_screen.specs.Screen.{ScreenValue, canvas_of, with_canvas}
use Rattle.vt_screen.specs.Shown.{IsReader, IsReaderOf}
use Rattle.vt_screen.specs.Steps.{Print as PrintStep, display_after, screen_after_scrolling_step}
use Rattle.vt_screen.specs.Steps as steps
use Rattle.vt_screen.proofs.PortableSgr.{change_use, clear_use}
use Rattle.vt_screen.proofs.CallsNone.{read_run}
use Rattle.vt_screen.proofs.ReadOperations.{and_then-some, reads_op, text_same, text_plain, text_parts, prints}
use Rattle.vt_screen.proofs.ReadOperations.{shown_range, all_scalar}
use Rattle.vt_screen.proofs.ReadSgr.{few_changes, some_changes}
use Rattle.vt_screen.proofs.ReadTexts.{IsFinal, stepped_then}

-- ---- events in sequence

pub events_portable : (a b : List Event) (doubts : Doubts) (screen : ScreenValue) → PortableEvents a doubts screen →
    PortableEvents b (doubts_after_all a doubts screen) (screen_after_all (steps_of_all a screen) screen) →
    PortableEvents (a ++ b) doubts screen
events_portable [] b doubts screen p q = q
events_portable (event ∷ a) b doubts screen p q =
    let steps = steps_of event (seen_of screen) in
    let next = screen_after_all steps screen in
    let later = doubts_after (use_of event screen) doubts (canvas_of screen) in (
      p.0,
      events_portable a b later next p.1
          (subst (λ (s : ScreenValue). PortableEvents b (doubts_after_all a later next) s)
          (stepped_then steps (steps_of_all a next) screen) q),
    )

-- The events of two outputs in sequence.
pub events_split : (a b : List Event) (doubts : Doubts) (screen : ScreenValue) → PortableEvents (a ++ b) doubts screen →
    PortableEvents a doubts screen
    × PortableEvents b (doubts_after_all a doubts screen) (screen_after_all (steps_of_all a screen) screen)
events_split [] b doubts screen p = (tt, p)
events_split (event ∷ a) b doubts screen p =
    let steps = steps_of event (seen_of screen) in
    let next = screen_after_all steps screen in
    let later = doubts_after (use_of event screen) doubts (canvas_of screen) in
    let both = events_split a b later next p.1 in (
      (p.0, both.0),
      subst (λ (s : ScreenValue). PortableEvents b (doubts_after_all a later next) s)
          (sym (stepped_then steps (steps_of_all a next) screen)) both.1,
    )

pub doubts_then : (a b : List Event) (doubts : Doubts) (screen : ScreenValue) →
    doubts_after_all (a ++ b) doubts screen
    ≡ doubts_after_all b (doubts_after_all a doubts screen) (screen_after_all (steps_of_all a screen) screen)
doubts_then [] b doubts screen = refl
doubts_then (event ∷ a) b doubts screen =
    let steps = steps_of event (seen_of screen) in
    let next = screen_after_all steps screen in
    let later = doubts_after (use_of event screen) doubts (canvas_of screen) in
    doubts_then a b later next
    ∙ ap (λ (s : ScreenValue). doubts_after_all b (doubts_after_all a later next) s)
    (sym (stepped_then steps (steps_of_all a next) screen))

-- ---- output in sequence

-- A terminal in ground state is in that state again after it has read the output. If terminals differ as `doubts` says,
-- they agree on the effect of each event, and differ as `left` says afterward.
pub record ReadsPortably (text : List ℕ) (doubts : Doubts) (screen : ScreenValue) (left : Doubts) : Type 0 where
  pub ground : (run start text).state ≡ start
  pub events : PortableEvents (run start text).events doubts screen
  pub after : doubts_after_all (run start text).events doubts screen ≡ left

pub portably_nothing : (doubts : Doubts) (screen : ScreenValue) → ReadsPortably [] doubts screen doubts
portably_nothing doubts screen = record { ground = refl; events = tt; after = refl }

-- The run over two texts, the first of which leaves the ground state.
pub run_then : (a b : List ℕ) → (run start a).state ≡ start →
    run start (a ++ b) ≡ events_then (run start a).events (run start b)
run_then a b ground =
    run-append start a b ∙ ap (λ (s : State). events_then (run start a).events (run s b)) ground

pub portable_then : (a b : List ℕ) (doubts middle : Doubts) (screen : ScreenValue) →
    ReadsPortably a doubts screen middle → PortableEvents (run start b).events middle (screen_in start screen a) →
    PortableEvents (run start (a ++ b)).events doubts screen
portable_then a b doubts middle screen p q =
    subst (λ (s : Step). PortableEvents s.events doubts screen) (sym (run_then a b p.ground))
    (events_portable (run start a).events (run start b).events doubts screen p.events
    (subst (λ (d : Doubts). PortableEvents (run start b).events d (screen_in start screen a)) (sym p.after) q))

pub portably_then : (a b : List ℕ) (doubts middle left : Doubts) (screen : ScreenValue) →
    ReadsPortably a doubts screen middle → ReadsPortably b middle (screen_in start screen a) left →
    ReadsPortably (a ++ b) doubts screen left
portably_then a b doubts middle left screen p q = record {
  ground = ap (λ (s : Step). s.state) (run_then a b p.ground) ∙ q.ground;
  events = portable_then a b doubts middle screen p q.events;
  after =
      ap (λ (s : Step). doubts_after_all s.events doubts screen) (run_then a b p.ground)
      ∙ (doubts_then (run start a).events (run start b).events doubts screen
      ∙ (ap (λ (d : Doubts). doubts_after_all (run start b).events d (screen_in start screen a)) p.after ∙ q.after));
}

-- ---- output of one event

event_portably : (text : List ℕ) (event : Event) (element : Use) (doubts : Doubts) (screen : ScreenValue) →
    run start text ≡ back_with (event ∷ []) → use_of event screen ≡ element →
    IsPortableUse element doubts (canvas_of screen) →
    ReadsPortably text doubts screen (doubts_after element doubts (canvas_of screen))
event_portably text event element doubts screen gives is p = record {
  ground = ap (λ (s : Step). s.state) gives;
  events = subst (λ (s : Step). PortableEvents s.events doubts screen) (sym gives)
      (subst (λ (u : Use). IsPortableUse u doubts (canvas_of screen)) (sym is) p, tt);
  after = ap (λ (s : Step). doubts_after_all s.events doubts screen) gives
      ∙ ap (λ (u : Use). doubts_after u doubts (canvas_of screen)) is;
}

-- A control sequence without private markers, whose parameters are single numbers.
pub csi_portably : (text : List ℕ) (final : ℕ) (groups : List (List ℕ)) (element : Use) (doubts : Doubts) (screen : ScreenValue) →
    IsParameterText text → IsFinal final → (table_of text).groups ≡ groups → has_single_numbers groups ≡ true →
    csi_use groups final screen.last ≡ element → IsPortableUse element doubts (canvas_of screen) →
    ReadsPortably (csi text final) doubts screen (doubts_after element doubts (canvas_of screen))
csi_portably text final groups element doubts screen is is_final table single e p =
    event_portably (csi text final) (CsiDispatch groups [] final) element doubts screen
    (read_csi text final is is_final.0 is_final.1
    ∙ ap (λ (gs : List (List ℕ)). back_with (CsiDispatch gs [] final ∷ [])) table)
    (ap (λ (b : Bool). if b then csi_use groups final screen.last else Other) single ∙ e) p

pub alone_portably : (final : ℕ) (element : Use) (doubts : Doubts) (screen : ScreenValue) → IsFinal final →
    csi_use ((0 ∷ []) ∷ []) final screen.last ≡ element → IsPortableUse element doubts (canvas_of screen) →
    ReadsPortably (csi [] final) doubts screen (doubts_after element doubts (canvas_of screen))
alone_portably final element doubts screen is_final e p =
    csi_portably [] final ((0 ∷ []) ∷ []) element doubts screen tt is_final empty_groups refl e p

-- A control sequence with a count other than 0.
pub counted_portably : (n final : ℕ) (element : Use) (doubts : Doubts) (screen : ScreenValue) → suc n < 2 ^ 16 → IsFinal final →
    ((groups : List (List ℕ)) → number_or 1 0 groups ≡ suc n → csi_use groups final screen.last ≡ element) →
    IsPortableUse element doubts (canvas_of screen) →
    ReadsPortably (counted (suc n) final) doubts screen (doubts_after element doubts (canvas_of screen))
counted_portably zero final element doubts screen h is_final e p =
    alone_portably final element doubts screen is_final (e ((0 ∷ []) ∷ []) refl) p
counted_portably (suc n) final element doubts screen h is_final e p =
    let count : ℕ = suc (suc n) in
    csi_portably (decimal count) final ((count ∷ []) ∷ []) element doubts screen (decimal_is_parameter count (omega arith))
    is_final (decimal_groups count (omega arith)) refl (e ((count ∷ []) ∷ []) (count_is count (omega arith))) p where
      count_is : (k : ℕ) → 0 < k → number_or 1 0 ((k ∷ []) ∷ []) ≡ k
      count_is k some = let t : (k == 0) ≡ false = grind (arith, nat_tests) in rw t refl

-- ---- SGR

alone_single : (ns : List ℕ) → has_single_numbers (alone ns) ≡ true
alone_single [] = refl
alone_single (n ∷ ns) = alone_single ns

sgr_is : (groups : List (List ℕ)) (last : Option ℕ) → csi_use groups 0x6D last ≡ sgr_use groups
unfolding csi_use
sgr_is groups last = refl

change_portably : (was new : Attrs) (doubts : Doubts) (screen : ScreenValue) → FitsAttrs new →
    IsPortableOp (ChangeAttrs was new) doubts (canvas_of screen) →
    ReadsPortably (change_text was new) doubts screen (doubts_after_op (ChangeAttrs was new) doubts (canvas_of screen))
change_portably was new doubts screen fits p = by_case (same_attrs was new) (same_attrs new default_attrs) refl refl where
  sgr : Doubts
  sgr = doubts_after (Sgr (change_intensities was new)) doubts (canvas_of screen)

  becomes : (same : Bool) → same_attrs was new ≡ same →
      doubts_after_op (ChangeAttrs was new) doubts (canvas_of screen) ≡ (if same then doubts else sgr)
  becomes same e = ap (λ (b : Bool). if b then doubts else sgr) e

  by_case : (same plain : Bool) → same_attrs was new ≡ same → same_attrs new default_attrs ≡ plain →
      ReadsPortably (change_text was new) doubts screen (doubts_after_op (ChangeAttrs was new) doubts (canvas_of screen))
  by_case true plain e f =
      subst (λ (text : List ℕ). ReadsPortably text doubts screen
      (doubts_after_op (ChangeAttrs was new) doubts (canvas_of screen))) (sym (text_same was new e))
      (subst (ReadsPortably [] doubts screen) (sym (becomes true e)) (portably_nothing doubts screen))
  by_case false true e f =
      let is : Sgr (Normal ∷ []) ≡ Sgr (change_intensities was new) =
      ap (λ (b : Bool). Sgr (if b then Normal ∷ []
      else if same_intensity was.intensity new.intensity then [] else new.intensity ∷ [])) (sym f) in
      subst (λ (text : List ℕ). ReadsPortably text doubts screen
      (doubts_after_op (ChangeAttrs was new) doubts (canvas_of screen))) (sym (text_plain was new e f))
      (subst (ReadsPortably (csi [] 0x6D) doubts screen) (sym (becomes false e))
      (alone_portably 0x6D (Sgr (change_intensities was new)) doubts screen (omega arith, omega arith)
      (sgr_is ((0 ∷ []) ∷ []) screen.last ∙ (clear_use ∙ is)) (p e)))
  by_case false false e f =
      let ns : List ℕ = change_numbers was new in
      let numbers = few_changes was new fits in
      let short = numbers.few in
      let small = All-from_recursion (λ n. n ≤ 65535) ns numbers.small in
      subst (λ (text : List ℕ). ReadsPortably text doubts screen
      (doubts_after_op (ChangeAttrs was new) doubts (canvas_of screen))) (sym (text_parts was new e f))
      (subst (ReadsPortably (csi (semicolon_list ns) 0x6D) doubts screen) (sym (becomes false e))
      (csi_portably (semicolon_list ns) 0x6D (alone ns) (Sgr (change_intensities was new)) doubts screen
      (joined_is_parameter ns small) (omega arith, omega arith)
      (joined_groups ns (some_changes was new e) (omega arith) small) (alone_single ns)
      (sgr_is (alone ns) screen.last ∙ change_use was new fits f) (p e)))

-- ---- characters

printed_canvas : (c : ℕ) (screen : ScreenValue) →
    canvas_of (screen_after_scrolling_step (PrintStep c) screen) ≡ canvas_after_print c (canvas_of screen)
printed_canvas c screen = by_page screen.is_alternate _ where
  by_page : (b : Bool) (scrollback : Scrollback) →
      canvas_of
      (if b then display_after (PrintStep c) screen
      else record (display_after (PrintStep c) screen) { scrollback = scrollback })
      ≡ canvas_after_print c (canvas_of screen)
  by_page true scrollback = refl
  by_page false scrollback = refl

pub character_reads : (c : ℕ) → IsDrawn c → run start (encode_utf8 c) ≡ back_with (Character c ∷ [])
character_reads c p = let range = shown_range c p.shown in read_written c p.scalar (grind (arith, range))

character_canvas : (c : ℕ) (screen : ScreenValue) → IsDrawn c →
    canvas_of (screen_in start screen (encode_utf8 c)) ≡ canvas_after_print c (canvas_of screen)
character_canvas c screen p =
    ap (λ (s : Step). canvas_of (screen_after_all (steps_of_all s.events screen) screen)) (character_reads c p)
    ∙ (ap (λ (list : List steps.Step). canvas_of (screen_after_all (list ++ []) screen)) (prints c p)
    ∙ printed_canvas c screen)

pub character_portably : (c : ℕ) (doubts : Doubts) (screen : ScreenValue) → IsDrawn c →
    IsPortableUse (Graphic c) doubts (canvas_of screen) →
    ReadsPortably (encode_utf8 c) doubts screen (doubts_after (Graphic c) doubts (canvas_of screen))
character_portably c doubts screen p h =
    let other = p.reported in
    let t : (c == 0xFFFD) ≡ false = grind (arith, nat_tests) in
    event_portably (encode_utf8 c) (Character c) (Graphic c) doubts screen (character_reads c p)
    (ap (λ (b : Bool). if b then Other else Graphic c) t) h

text_portably : (cs : List ℕ) (doubts : Doubts) (screen : ScreenValue) → AllByRecursion IsDrawn cs →
    PortableText cs doubts (canvas_of screen) →
    ReadsPortably (encode_utf8_all cs) doubts screen (doubts_after_text cs doubts (canvas_of screen))
text_portably [] doubts screen p h = portably_nothing doubts screen
text_portably (c ∷ cs) doubts screen (p, ps) h =
    let later = doubts_after (Graphic c) doubts (canvas_of screen) in
    let next = screen_in start screen (encode_utf8 c) in
    let same = character_canvas c screen p in
    portably_then (encode_utf8 c) (encode_utf8_all cs) doubts later
    (doubts_after_text cs later (canvas_after_print c (canvas_of screen))) screen (character_portably c doubts screen p h.0)
    (subst (λ (k : Canvas). ReadsPortably (encode_utf8_all cs) later next (doubts_after_text cs later k)) same
    (text_portably cs later next ps (subst (λ (k : Canvas). PortableText cs later k) (sym same) h.1)))

-- ---- each operation

pub control_portably : (b : ℕ) (element : Use) (doubts : Doubts) (screen : ScreenValue) → b < 0x20 → (b ≡ 0x1B → ⊥) →
    control_use b ≡ element → IsPortableUse element doubts (canvas_of screen) →
    ReadsPortably (b ∷ []) doubts screen (doubts_after element doubts (canvas_of screen))
control_portably b element doubts screen low other e p =
    event_portably (b ∷ []) (Executed b) element doubts screen (read_control b low other) e p

place_single : (row col : ℕ) → has_single_numbers (place_groups row col) ≡ true
place_single zero zero = refl
place_single zero (suc col) = refl
place_single (suc row) col = refl

hidden_portably : (hidden : Bool) (doubts : Doubts) (screen : ScreenValue) →
    ReadsPortably (bytes_of (Hide hidden)) doubts screen (doubts_after Dectcem doubts (canvas_of screen))
unfolding fresh_step class_of table_of groups_of numbers_of number_of
hidden_portably true doubts screen =
    event_portably (bytes_of (Hide true)) (CsiDispatch ((25 ∷ []) ∷ []) (0x3F ∷ []) 0x6C) Dectcem doubts screen refl refl tt
hidden_portably false doubts screen =
    event_portably (bytes_of (Hide false)) (CsiDispatch ((25 ∷ []) ∷ []) (0x3F ∷ []) 0x68) Dectcem doubts screen refl refl tt

returned_canvas : (screen : ScreenValue) →
    canvas_of (screen_in start screen (0x0D ∷ [])) ≡ canvas_after_return (canvas_of screen)
unfolding fresh_step class_of control_steps
returned_canvas screen = refl

next_row_portably : (doubts : Doubts) (screen : ScreenValue) → IsPortableOp NextRow doubts (canvas_of screen) →
    ReadsPortably (bytes_of NextRow) doubts screen (doubts_after_op NextRow doubts (canvas_of screen))
unfolding control_use
next_row_portably doubts screen p =
    let later = doubts_after Cr doubts (canvas_of screen) in
    let next = screen_in start screen (0x0D ∷ []) in
    let same = returned_canvas screen in
    portably_then (0x0D ∷ []) (0x0A ∷ []) doubts later (doubts_after Lf later (canvas_after_return (canvas_of screen))) screen
    (control_portably 0x0D Cr doubts screen (omega arith) (λ e. omega (arith, e)) refl p.0)
    (subst (λ (k : Canvas). ReadsPortably (0x0A ∷ []) later next (doubts_after Lf later k)) same
    (control_portably 0x0A Lf later next (omega arith) (λ e. omega (arith, e)) refl
    (subst (λ (k : Canvas). IsPortableUse Lf later k) (sym same) p.1)))

saved_portably : (doubts : Doubts) (screen : ScreenValue) → IsPortableUse Decsc doubts (canvas_of screen) →
    ReadsPortably (bytes_of SaveCursor) doubts screen (doubts_after Decsc doubts (canvas_of screen))
unfolding fresh_step class_of escape_use
saved_portably doubts screen p = event_portably (bytes_of SaveCursor) (EscDispatch [] 0x37) Decsc doubts screen refl refl p

restored_portably : (doubts : Doubts) (screen : ScreenValue) → IsPortableUse Decrc doubts (canvas_of screen) →
    ReadsPortably (bytes_of RestoreCursor) doubts screen (doubts_after Decrc doubts (canvas_of screen))
unfolding fresh_step class_of escape_use
restored_portably doubts screen p =
    event_portably (bytes_of RestoreCursor) (EscDispatch [] 0x38) Decrc doubts screen refl refl p

pub op_portably : (op : Op) (doubts : Doubts) (screen : ScreenValue) → Fits op → IsPortableOp op doubts (canvas_of screen) →
    ReadsPortably (bytes_of op) doubts screen (doubts_after_op op doubts (canvas_of screen))
unfolding csi_use control_use
op_portably (Hide hidden) doubts screen f p = hidden_portably hidden doubts screen
op_portably ClearAttrs doubts screen f p =
    alone_portably 0x6D (Sgr (Normal ∷ [])) doubts screen (omega arith, omega arith) clear_use p
op_portably (MoveTo row col) doubts screen (low, narrow) p =
    csi_portably (place row col) 0x48 (place_groups row col) Cup doubts screen (place_is_parameter row col low narrow)
    (omega arith, omega arith) (place_groups_are row col low narrow) (place_single row col) refl p
op_portably (MoveRight zero) doubts screen f p = portably_nothing doubts screen
op_portably (MoveRight (suc n)) doubts screen f p =
    counted_portably n 0x43 Cuf doubts screen f (omega arith, omega arith) (λ groups e. refl) p
op_portably NextRow doubts screen f p = next_row_portably doubts screen p
op_portably LineFeed doubts screen f p =
    control_portably 0x0A Lf doubts screen (omega arith) (λ e. omega (arith, e)) refl p
op_portably Backspace doubts screen f p =
    control_portably 0x08 Bs doubts screen (omega arith) (λ e. omega (arith, e)) refl p
op_portably EraseBelow doubts screen f p = alone_portably 0x4A Ed doubts screen (omega arith, omega arith) refl p
op_portably EraseRest doubts screen f p = alone_portably 0x4B El doubts screen (omega arith, omega arith) refl p
op_portably (EraseChars zero) doubts screen f p = portably_nothing doubts screen
op_portably (EraseChars (suc n)) doubts screen f p =
    counted_portably n 0x58 (Ech (suc n)) doubts screen f (omega arith, omega arith) (λ groups e. ap Ech e) p
op_portably SaveCursor doubts screen f p = saved_portably doubts screen p
op_portably RestoreCursor doubts screen f p = restored_portably doubts screen p
op_portably (ChangeAttrs was new) doubts screen f p = change_portably was new doubts screen f.1 p
op_portably (Print text) doubts screen f p =
    let cs : List ℕ = f.characters in
    let e : chars text ≡ cs = ap chars (sym f.spelled) ∙ chars-encodes cs (all_scalar cs f.printable) in
    subst (λ (bytes : List ℕ). ReadsPortably bytes doubts screen (doubts_after_text (chars text) doubts (canvas_of screen)))
    f.spelled
    (subst (λ (ds : List ℕ). ReadsPortably (encode_utf8_all cs) doubts screen (doubts_after_text ds doubts (canvas_of screen)))
    (sym e)
    (text_portably cs doubts screen f.printable
    (subst (λ (ds : List ℕ). PortableText ds doubts (canvas_of screen)) e p)))

-- ---- lists of operations

-- The output of portable operations is portable, on any screen on which they draw.
pub all_portable : (ops : List Op) (doubts : Doubts) (screen : ScreenValue) (d : Canvas) → AllByRecursion Fits ops →
    drawn_all ops (canvas_of screen) ≡ Some d → PortableOps ops doubts (canvas_of screen) →
    PortableEvents (run start (bytes_of_all ops)).events doubts screen
all_portable [] doubts screen d f h p = tt
all_portable (op ∷ ops) doubts screen d (f, fs) h p =
    let (e, first, more) = and_then-some (drawn_all ops) (canvas_after_op op (canvas_of screen)) d h in
    let here = reads_op op screen e f first in
    let next : ScreenValue = record (with_canvas e screen) { last = here.0 } in
    let becomes = (read_run (bytes_of op) (terminal start screen) (terminal start next) here.1).steps.becomes in
    let later = doubts_after_op op doubts (canvas_of screen) in
    portable_then (bytes_of op) (bytes_of_all ops) doubts later screen (op_portably op doubts screen f p.0)
    (subst (λ (s : ScreenValue). PortableEvents (run start (bytes_of_all ops)).events later s) (sym becomes)
    (all_portable ops later next d fs more (p.1 e first)))

-- Operations that draw on the canvas of every terminal that displays `prev`, and are portable there, have portable
-- output.
pub ops_portable : (self prev : Picture) (ops : List Op) → AllByRecursion Fits ops →
    ((reader : ScreenValue) → IsReaderOf self prev reader →
    (d : Canvas) × ((drawn_all ops (canvas_of reader) ≡ Some d) × PortableOps ops (doubts_of prev) (canvas_of reader))) →
    IsPortable self prev (bytes_of_all ops)
ops_portable self prev ops fits draws reader is =
    let drawn = draws reader is in all_portable ops (doubts_of prev) reader drawn.0 fits drawn.1.0 drawn.1.1

-- Operations that draw on the canvas of every terminal of the picture's size, and are portable there whatever terminals
-- differ in before, have portable output.
pub redraw_ops_portable : (self : Picture) (ops : List Op) → AllByRecursion Fits ops →
    ((reader : ScreenValue) (doubts : Doubts) → IsReader self reader →
    (d : Canvas) × ((drawn_all ops (canvas_of reader) ≡ Some d) × PortableOps ops doubts (canvas_of reader))) →
    IsPortableRedraw self (bytes_of_all ops)
redraw_ops_portable self ops fits draws reader doubts is =
    let drawn = draws reader doubts is in all_portable ops doubts reader drawn.0 fits drawn.1.0 drawn.1.1
