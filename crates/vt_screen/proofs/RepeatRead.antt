-- Output in which runs are written with REP is read like the output with the runs written out.
use Rattle.std.proofs.Common.{◌≡◌, ◌⊎◌, inl, inr, ℕ, zero, suc, ◌+◌, ◌-◌, ◌<◌, ◌≤◌, Bool, List, [], ◌∷◌, ◌++◌, length}
use Rattle.std.proofs.Common.{refl, sym, ap, ap₂, subst, ◌∙◌, append_assoc, append-nil, arith, length-append}
use Rattle.std.specs.Char.{encode_utf8}
use Rattle.std.specs.List.{AllByRecursion, flat_map}
use Rattle.std.proofs.lemmas.List.{flat_map_more}
use Rattle.vt_scan.specs.Automaton.{State, Step, start, run}
use Rattle.vt_redraw.specs.Doubts.{Doubts}
use Rattle.vt_screen.specs.CallsOfRun.{screen_after_all, screen_in}
use Rattle.vt_screen.specs.Diffs.{diff_controls, diff_finals}
use Rattle.vt_screen.specs.Internals.{IsSized, AppendsRepeating, Finds, HasRoom, IsApart, KeepsAgreed, KeepsPieces}
use Rattle.vt_screen.specs.Internals.{KeepsPiecesBefore, KeepsRoom, Shortens}
use Rattle.vt_screen.specs.MadeOf.{Characters, IsMadeOf, Numbered}
use Rattle.vt_screen.specs.Portable.{ReadsAgreed}
use Rattle.vt_screen.specs.Repeating.{HasNoRepeat, HasRuns, IsNarrow, IsReaderWithRoom, IsRepeatable, IsShortened}
use Rattle.vt_screen.specs.Repeating.{ReadsAlike, Repeats, RepeatsInRows, Run, copies, full_text, repeat_text}
use Rattle.vt_screen.specs.Repeating.{short_text}
use Rattle.vt_screen.specs.Screen.{IsScreen, ScreenValue}
use Rattle.vt_screen.specs.Steps.{Step as Action}
use Rattle.vt_screen.specs.declared.repeat.Repeat.{Repeat}
use Rattle.vt_screen.proofs.MadeOf.{made_append, made_more, made_nothing, made_piece}
use Rattle.vt_screen.proofs.RepeatCuts.{lines_after, lines_before, made_cut}
use Rattle.vt_screen.proofs.PortableReads.{run_then}
use Rattle.vt_screen.proofs.PortableRepeats.{agreed_itself, run_agrees}
use Rattle.vt_screen.proofs.ReadOperations.{shown_range}
use Rattle.vt_screen.proofs.RepeatRooms.{keeps_narrow, keeps_nothing}
use Rattle.vt_screen.proofs.RepeatSteps.{AlikeFrom, NoneFrom, RowsFrom, alike_itself, alike_then, keeps_then, last_rows}
use Rattle.vt_screen.proofs.RepeatSteps.{none_first, none_second, rows_from_then, rows_none, run_alike, sized_in}
use Rattle.vt_screen.proofs.SizeRuns.{sized_screen}
use Rattle.vt_screen.proofs.ReadTexts.{screen_in_then}

-- ---- output so far

reader_sized : (width room : ℕ) (reader : ScreenValue) (plain : List ℕ) → IsReaderWithRoom width room reader →
    IsSized (length reader.page.rows) width (screen_in start reader plain)
reader_sized width room reader plain is =
    sized_in (length reader.page.rows) width start reader plain
    (subst (λ (w : ℕ). IsSized (length reader.page.rows) w reader) is.width_is (sized_screen reader is.sound))

pub shortens_nothing : (repeat : Repeat) (width room : ℕ) → Shortens repeat width room room [] []
shortens_nothing repeat width room = record {
  runs = record { runs = []; rest = []; are_shortened = tt; in_full = refl; in_short = refl };
  keeps = keeps_nothing width room;
  same = λ reader sound. record { state = refl; steps = refl; reads = refl };
  rows = λ none reader is. tt;
  pieces = λ scroll rest made. (made, made_nothing (0x62 ∷ diff_finals scroll) (diff_controls scroll));
}

all_shortened : (repeat : Repeat) (xs ys : List Run) → AllByRecursion (IsShortened repeat) xs →
    AllByRecursion (IsShortened repeat) ys → AllByRecursion (IsShortened repeat) (xs ++ ys)
all_shortened repeat [] ys h k = k
all_shortened repeat (x ∷ xs) ys h k = (h.0, all_shortened repeat xs ys h.1 k)

runs_text : (f : Run → List ℕ) (runs : List Run) (rest front tail text : List ℕ) (run : Run) →
    text ≡ flat_map f runs ++ rest → f run ≡ (rest ++ front) ++ tail →
    text ++ (front ++ tail) ≡ flat_map f (runs ++ run ∷ []) ++ []
runs_text f runs rest front tail text run e g =
    ap (λ (t : List ℕ). t ++ (front ++ tail)) e
    ∙ append_assoc (flat_map f runs) rest (front ++ tail)
    ∙ ap (λ (t : List ℕ). flat_map f runs ++ t) (sym (append_assoc rest front tail) ∙ sym g)
    ∙ flat_map_more f [] runs run
    ∙ sym (append-nil (flat_map f (runs ++ run ∷ [])))

-- A run that the code found, at a point of the output.
record IsRun (repeat : Repeat) (n c : ℕ) : Type 0 where
  narrow : IsNarrow c
  repeatable : IsRepeatable repeat c
  some : 0 < n
  fits : n ≤ 65535
  shorter : length (repeat_text n) < length (copies n c)

more_runs : (repeat : Repeat) (plain text front : List ℕ) (n c : ℕ) → IsRun repeat n c → HasRuns repeat plain text →
    HasRuns repeat (plain ++ (front ++ copies (suc n) c)) (text ++ (front ++ (encode_utf8 c ++ repeat_text n)))
more_runs repeat plain text front n c is has =
    let run : Run = record { before = has.rest ++ front; character = c; count = n } in record {
      runs = has.runs ++ run ∷ [];
      rest = [];
      are_shortened = all_shortened repeat has.runs (run ∷ []) has.are_shortened
          (record { narrow = is.narrow; repeatable = is.repeatable; shorter = is.shorter }, tt);
      in_full = runs_text full_text has.runs has.rest front (copies (suc n) c) plain run has.in_full refl;
      in_short = runs_text short_text has.runs has.rest front (encode_utf8 c ++ repeat_text n) text run has.in_short refl;
    }

more_rest : (repeat : Repeat) (plain text rest : List ℕ) → HasRuns repeat plain text →
    HasRuns repeat (plain ++ rest) (text ++ rest)
more_rest repeat plain text rest has = record {
  runs = has.runs;
  rest = has.rest ++ rest;
  are_shortened = has.are_shortened;
  in_full = ap (λ (t : List ℕ). t ++ rest) has.in_full ∙ append_assoc (flat_map full_text has.runs) has.rest rest;
  in_short = ap (λ (t : List ℕ). t ++ rest) has.in_short ∙ append_assoc (flat_map short_text has.runs) has.rest rest;
}

copies_keep : (width left n c : ℕ) → IsNarrow c → KeepsRoom width (n + left) left (copies n c)
copies_keep width left zero c is =
    let none : 0 + left ≡ left = omega arith in
    subst (λ (k : ℕ). KeepsRoom width k left []) (sym none) (keeps_nothing width left)
copies_keep width left (suc n) c is =
    let fewer : suc n + left - 1 ≡ n + left = omega arith in
    keeps_then width (suc n + left) (n + left) left (encode_utf8 c) (copies n c)
    (subst (λ (k : ℕ). KeepsRoom width (suc n + left) k (encode_utf8 c)) fewer (keeps_narrow width (suc n + left) c is))
    (copies_keep width left n c is)

to_alike : (reader : ScreenValue) (plain text : List ℕ) → AlikeFrom start reader plain text → ReadsAlike plain text reader
to_alike reader plain text a = record { state = a.state; steps = a.steps; reads = a.reads }

of_alike : (reader : ScreenValue) (plain text : List ℕ) → ReadsAlike plain text reader → AlikeFrom start reader plain text
of_alike reader plain text a = record { state = a.state; steps = a.steps; reads = a.reads }

-- From the state after the output so far, which is the initial state.
at_start : (P : State → Type 0) (width room left : ℕ) (plain : List ℕ) → KeepsRoom width room left plain → P start →
    P (run start plain).state
at_start P width room left plain keeps p = subst P (sym keeps.ground) p

run_same : (repeat : Repeat) (width room mid left : ℕ) (plain text front : List ℕ) (n c : ℕ) →
    Shortens repeat width room mid plain text → KeepsRoom width mid (suc n + left) front → IsRun repeat n c →
    (reader : ScreenValue) → IsScreen reader →
    ReadsAlike (plain ++ (front ++ copies (suc n) c)) (text ++ (front ++ (encode_utf8 c ++ repeat_text n))) reader
run_same repeat width room mid left plain text front n c s keeps is reader sound =
    let screen = screen_in start reader plain in
    let next = screen_in start screen front in
    let height = length reader.page.rows in
    let wide = reader.page.width in
    let sized = sized_in height wide start screen front
    (sized_in height wide start reader plain (sized_screen reader sound)) in
    let run_text = encode_utf8 c ++ repeat_text n in
    to_alike reader (plain ++ (front ++ copies (suc n) c)) (text ++ (front ++ run_text))
    (alike_then start reader plain text (front ++ copies (suc n) c) (front ++ run_text)
    (of_alike reader plain text (s.same reader sound))
    (at_start (λ (t : State). AlikeFrom t screen (front ++ copies (suc n) c) (front ++ run_text)) width room mid plain s.keeps
    (alike_then start screen front front (copies (suc n) c) run_text (alike_itself start screen front)
    (at_start (λ (t : State). AlikeFrom t next (copies (suc n) c) run_text) width mid (suc n + left) front keeps
    (run_alike next n c (subst (λ (k : ℕ). 0 < k) (sym sized.page.width_is) sound.page.has_columns)
    is.some is.fits is.narrow)))))

-- The room that is left on a reader after output.
room_after : (width room left : ℕ) (plain : List ℕ) (reader : ScreenValue) → KeepsRoom width room left plain →
    IsReaderWithRoom width room reader → HasRoom width left (screen_in start reader plain)
room_after width room left plain reader keeps is =
    keeps.room (length reader.page.rows) reader
    (subst (λ (w : ℕ). IsSized (length reader.page.rows) w reader) is.width_is (sized_screen reader is.sound)) is.columns

run_rows : (repeat : Repeat) (width room mid left : ℕ) (plain text front : List ℕ) (n c : ℕ) →
    Shortens repeat width room mid plain text → KeepsRoom width mid (suc n + left) front → IsRun repeat n c →
    HasNoRepeat (plain ++ (front ++ copies (suc n) c)) → (reader : ScreenValue) → IsReaderWithRoom width room reader →
    RepeatsInRows (text ++ (front ++ (encode_utf8 c ++ repeat_text n))) reader
run_rows repeat width room mid left plain text front n c s keeps is none reader reads =
    let full = copies (suc n) c in
    let run_text = encode_utf8 c ++ repeat_text n in
    let height = length reader.page.rows in
    let screen = screen_in start reader plain in
    let next = screen_in start screen front in
    let sized = reader_sized width room reader plain reads in
    let has = keeps.room height screen sized (room_after width room mid plain reader s.keeps reads) in
    let later : NoneFrom start (front ++ full) =
    subst (λ (t : State). NoneFrom t (front ++ full)) s.keeps.ground (none_second start plain (front ++ full) none) in
    let last : NoneFrom start full =
    subst (λ (t : State). NoneFrom t full) keeps.ground (none_second start front full later) in
    let old = s.same reader reads.sound in
    let wide : 0 < width = subst (λ (k : ℕ). 0 < k) reads.width_is reads.sound.page.has_columns in
    let rest : RowsFrom start screen (front ++ run_text) =
    rows_from_then start screen front run_text
    (rows_none (run start front).events screen (none_first start front full later))
    (at_start (λ (t : State). RowsFrom t next run_text) width mid (suc n + left) front keeps
    (last_rows height width left next n c (sized_in height width start screen front sized) is.narrow is.some is.fits has last wide)) in
    rows_from_then start reader text (front ++ run_text)
    (s.rows (none_first start plain (front ++ full) none) reader reads)
    (subst (λ (t : State). RowsFrom t (screen_in start reader text) (front ++ run_text)) (sym old.state)
    (subst (λ (t : ScreenValue). RowsFrom (run start plain).state t (front ++ run_text))
    (sym (ap (λ (steps : List Action). screen_after_all steps reader) old.steps))
    (at_start (λ (t : State). RowsFrom t screen (front ++ run_text)) width room mid plain s.keeps rest)))

-- Pieces of a diff without REP, as pieces of a diff with REP.
with_repeat : (scroll : Bool) (text : List ℕ) → IsMadeOf (diff_finals scroll) (diff_controls scroll) text →
    IsMadeOf (0x62 ∷ diff_finals scroll) (diff_controls scroll) text
with_repeat scroll text made =
    made_more (diff_finals scroll) (0x62 ∷ diff_finals scroll) (diff_controls scroll) (diff_controls scroll)
    (λ x one. inr one) (λ x one. one) text made

run_made : (scroll : Bool) (n c : ℕ) → IsNarrow c →
    IsMadeOf (0x62 ∷ diff_finals scroll) (diff_controls scroll) (encode_utf8 c ++ repeat_text n)
run_made scroll n c is =
    let finals = 0x62 ∷ diff_finals scroll in
    let controls = diff_controls scroll in
    made_append finals controls (encode_utf8 c) (repeat_text n)
    (subst (IsMadeOf finals controls) (append-nil (encode_utf8 c))
    (made_piece finals controls (Characters (c ∷ [])) ((is.drawn.scalar, shown_range c is.drawn.shown), tt)))
    (made_piece finals controls (Numbered (n ∷ []) 0x62) (inl refl))

narrow_low : (c : ℕ) → IsNarrow c → 0x20 ≤ c
narrow_low c is = by_range (shown_range c is.drawn.shown) where
  by_range : ((0x20 ≤ c) × (c < 0x7F)) ⊎ (0xA0 ≤ c) → 0x20 ≤ c
  by_range (inl h) = h.0
  by_range (inr h) = omega (arith, h)

run_pieces : (width mid left : ℕ) (plain text front : List ℕ) (n c : ℕ) → KeepsPiecesBefore plain text →
    KeepsRoom width mid (suc n + left) front → IsNarrow c →
    KeepsPiecesBefore (plain ++ (front ++ copies (suc n) c)) (text ++ (front ++ (encode_utf8 c ++ repeat_text n)))
run_pieces width mid left plain text front n c before keeps is scroll rest made =
    let full = copies (suc n) c in
    let finals = 0x62 ∷ diff_finals scroll in
    let controls = diff_controls scroll in
    let low = narrow_low c is in
    let so_far = before scroll (front ++ (full ++ rest))
    (subst (IsMadeOf (diff_finals scroll) controls)
    (append_assoc plain (front ++ full) rest ∙ ap (λ (t : List ℕ). plain ++ t) (append_assoc front full rest)) made) in
    let at_front = made_cut scroll front (full ++ rest) so_far.0 keeps.ground (lines_before front n c rest low) in
    let at_rest = made_cut scroll full rest at_front.second (copies_keep width left (suc n) c is).ground
    (lines_after (suc n) c rest low) in (
      at_rest.second,
      made_append finals controls text (front ++ (encode_utf8 c ++ repeat_text n)) so_far.1
          (made_append finals controls front (encode_utf8 c ++ repeat_text n) (with_repeat scroll front at_front.first)
          (run_made scroll n c is)),
    )

-- The output so far, and one run more.
shortens_run : (repeat : Repeat) (width room mid left : ℕ) (plain text front : List ℕ) (n c : ℕ) →
    Shortens repeat width room mid plain text → KeepsRoom width mid (suc n + left) front → IsRun repeat n c →
    Shortens repeat width room left (plain ++ (front ++ copies (suc n) c))
    (text ++ (front ++ (encode_utf8 c ++ repeat_text n)))
shortens_run repeat width room mid left plain text front n c s keeps is = record {
  runs = more_runs repeat plain text front n c is s.runs;
  keeps = keeps_then width room mid left plain (front ++ copies (suc n) c) s.keeps
      (keeps_then width mid (suc n + left) left front (copies (suc n) c) keeps (copies_keep width left (suc n) c is.narrow));
  same = run_same repeat width room mid left plain text front n c s keeps is;
  rows = run_rows repeat width room mid left plain text front n c s keeps is;
  pieces = run_pieces width mid left plain text front n c s.pieces keeps is.narrow;
}

shorter_runs : (repeat : Repeat) (runs : List Run) → AllByRecursion (IsShortened repeat) runs →
    length (flat_map short_text runs) ≤ length (flat_map full_text runs)
shorter_runs repeat [] h = omega arith
shorter_runs repeat (run ∷ runs) h =
    let rest = shorter_runs repeat runs h.1 in
    let less = h.0.shorter in
    let c = run.character in
    let short = length-append (encode_utf8 c) (repeat_text run.count) in
    let full = length-append (encode_utf8 c) (copies run.count c) in
    let a = length-append (short_text run) (flat_map short_text runs) in
    let b = length-append (full_text run) (flat_map full_text runs) in
    let d = length-append run.before (encode_utf8 c ++ repeat_text run.count) in
    let e = length-append run.before (copies (suc run.count) c) in
    omega (arith, rest, less, short, full, a, b, d, e)

shorter : (repeat : Repeat) (plain text : List ℕ) → HasRuns repeat plain text → length text ≤ length plain
shorter repeat plain text has =
    let runs = shorter_runs repeat has.runs has.are_shortened in
    let a = ap length has.in_full ∙ length-append (flat_map full_text has.runs) has.rest in
    let b = ap length has.in_short ∙ length-append (flat_map short_text has.runs) has.rest in
    omega (arith, runs, a, b)

-- The output so far, and the rest of the output as it is.
shortens_end : (repeat : Repeat) (width room left : ℕ) (plain text rest : List ℕ) →
    Shortens repeat width room left plain text → Repeats repeat width room (plain ++ rest) (text ++ rest)
shortens_end repeat width room left plain text rest s = record {
  runs = more_rest repeat plain text rest s.runs;
  same = λ reader sound. to_alike reader (plain ++ rest) (text ++ rest)
      (alike_then start reader plain text rest rest (of_alike reader plain text (s.same reader sound))
      (alike_itself (run start plain).state (screen_in start reader plain) rest));
  rows = λ none reader is.
      let old = s.same reader is.sound in
      let later = none_second start plain rest none in
      rows_from_then start reader text rest (s.rows (none_first start plain rest none) reader is)
      (subst (λ (t : State). RowsFrom t (screen_in start reader text) rest) (sym old.state)
      (rows_none (run (run start plain).state rest).events (screen_in start reader text) later));
  shorter = shorter repeat (plain ++ rest) (text ++ rest) (more_rest repeat plain text rest s.runs);
}

-- The output is unchanged.
pub repeats_itself : (repeat : Repeat) (width room : ℕ) (text : List ℕ) → Repeats repeat width room text text
repeats_itself repeat width room text = shortens_end repeat width room room [] [] text (shortens_nothing repeat width room)

-- ---- writing

-- The state of the loop that writes the output, before it writes the next run.
pub record Written (repeat : Repeat) (width room left : ℕ) (text rest start now : List ℕ) : Type 0 where
  pub done : List ℕ
  pub added : List ℕ
  pub whole : text ≡ done ++ rest
  pub bytes : now ≡ start ++ added
  pub shortens : Shortens repeat width room left done added
  pub agrees : KeepsAgreed width room text (added ++ rest)

pub written_nothing : (repeat : Repeat) (width room : ℕ) (text start : List ℕ) → Written repeat width room room text text start start
written_nothing repeat width room text start = record {
  done = [];
  added = [];
  whole = refl;
  bytes = sym (append-nil start);
  shortens = shortens_nothing repeat width room;
  agrees = agreed_itself width room text;
}

some_copies : (n c : ℕ) → length (repeat_text n) < length (copies n c) → 0 < n
some_copies zero c h = absurd (omega (arith, h))
some_copies (suc n) c h = omega arith

-- A run that was found in the rest of the output.
run_found : (width room left after : ℕ) (done added before back : List ℕ) (n c : ℕ) → IsNarrow c → 0 < n → n ≤ 65535 →
    KeepsRoom width room left done → (reader : ScreenValue) → ReadsAlike done added reader →
    KeepsRoom width left (suc n + after) before → IsApart back → (doubts : Doubts) → IsReaderWithRoom width room reader →
    ReadsAgreed ((added ++ before) ++ (copies (suc n) c ++ back)) doubts reader →
    ReadsAgreed ((added ++ before) ++ ((encode_utf8 c ++ repeat_text n) ++ back)) doubts reader
run_found width room left after done added before back n c is some fits keeps reader old more apart doubts reads p =
    run_agrees (added ++ before) back n c doubts reader ground some fits is
    (omega (arith, has, column, wide)) apart p
  where
    screen : ScreenValue
    screen = screen_in start reader done

    next : ScreenValue
    next = screen_in start screen before

    state : (run start added).state ≡ start
    state = old.state ∙ keeps.ground

    ground : (run start (added ++ before)).state ≡ start
    ground = ap (λ (s : Step). s.state) (run_then added before state) ∙ more.ground

    there : screen_in start reader (added ++ before) ≡ next
    there =
        screen_in_then start reader added before
        ∙ (ap (λ (s : State). screen_in s (screen_in start reader added) before) state
        ∙ ap (λ (steps : List Action). screen_in start (screen_after_all steps reader) before) old.steps)

    sized : IsSized (length reader.page.rows) width screen
    sized = reader_sized width room reader done reads

    has : next.page.column + (suc n + after) ≤ width
    has = more.room (length reader.page.rows) screen sized (room_after width room left done reader keeps reads) (omega arith)

    column : (screen_in start reader (added ++ before)).page.column ≡ next.page.column
    column = ap (λ (s : ScreenValue). s.page.column) there

    wide : (screen_in start reader (added ++ before)).page.width ≡ width
    wide =
        ap (λ (s : ScreenValue). s.page.width) there
        ∙ (sized_in (length reader.page.rows) width start screen before sized).page.width_is

pub written_run : (repeat : Repeat) (width room left after : ℕ) (text rest start now front back middle new : List ℕ)
    (n : ℕ) →
    Written repeat width room left text rest start now → Finds repeat width left rest front n after back →
    middle ≡ now ++ front → new ≡ middle ++ repeat_text n → Written repeat width room after text back start new
written_run repeat width room left after text rest start now front back middle new n w finds e f =
    let c = finds.character in
    let before = finds.before in record {
      done = w.done ++ (before ++ copies (suc n) c);
      added = w.added ++ (before ++ (encode_utf8 c ++ repeat_text n));
      whole =
          w.whole
          ∙ ap (λ (t : List ℕ). w.done ++ t) (finds.whole ∙ sym (append_assoc before (copies (suc n) c) back))
          ∙ sym (append_assoc w.done (before ++ copies (suc n) c) back);
      bytes =
          f
          ∙ ap (λ (t : List ℕ). t ++ repeat_text n) (e ∙ ap₂ (λ (t u : List ℕ). t ++ u) w.bytes finds.first)
          ∙ append_assoc (start ++ w.added) (before ++ encode_utf8 c) (repeat_text n)
          ∙ ap (λ (t : List ℕ). (start ++ w.added) ++ t) (append_assoc before (encode_utf8 c) (repeat_text n))
          ∙ append_assoc start w.added (before ++ (encode_utf8 c ++ repeat_text n));
      shortens = shortens_run repeat width room left after w.done w.added before n c w.shortens finds.keeps
          (record {
            narrow = finds.narrow;
            repeatable = finds.repeatable;
            some = some_copies n c finds.shorter;
            fits = finds.fits;
            shorter = finds.shorter;
          });
      agrees = λ reader doubts is p.
          subst (λ (t : List ℕ). ReadsAgreed t doubts reader)
          (append_assoc w.added before ((encode_utf8 c ++ repeat_text n) ++ back)
          ∙ (ap (λ (t : List ℕ). w.added ++ t) (sym (append_assoc before (encode_utf8 c ++ repeat_text n) back))
          ∙ sym (append_assoc w.added (before ++ (encode_utf8 c ++ repeat_text n)) back)))
          (run_found width room left after w.done w.added before back n c finds.narrow (some_copies n c finds.shorter)
          finds.fits w.shortens.keeps reader (w.shortens.same reader is.sound) finds.keeps finds.apart doubts is
          (subst (λ (t : List ℕ). ReadsAgreed t doubts reader)
          (ap (λ (t : List ℕ). w.added ++ t) finds.whole ∙ sym (append_assoc w.added before (copies (suc n) c ++ back)))
          (w.agrees reader doubts is p)));
    }

pub written_end : (repeat : Repeat) (width room left : ℕ) (text rest start now after : List ℕ) →
    Written repeat width room left text rest start now → after ≡ now ++ rest → AppendsRepeating repeat start after width room text
written_end repeat width room left text rest start now after w e = record {
  added = w.added ++ rest;
  bytes = e ∙ ap (λ (t : List ℕ). t ++ rest) w.bytes ∙ append_assoc start w.added rest;
  repeats = subst (λ (t : List ℕ). Repeats repeat width room t (w.added ++ rest)) (sym w.whole)
      (shortens_end repeat width room left w.done w.added rest w.shortens);
  pieces = λ scroll made.
      let parts = w.shortens.pieces scroll rest
      (subst (IsMadeOf (diff_finals scroll) (diff_controls scroll)) w.whole made) in
      made_append (0x62 ∷ diff_finals scroll) (diff_controls scroll) w.added rest parts.1 (with_repeat scroll rest parts.0);
  agrees = w.agrees;
}

-- The pieces of output that is unchanged.
pub pieces_kept : (text : List ℕ) → KeepsPieces text text
pieces_kept text scroll made = with_repeat scroll text made
