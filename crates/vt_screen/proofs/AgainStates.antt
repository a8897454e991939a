-- Whole states, also with options: a plain terminal that reads one is plain again.
use Rattle.std.proofs.Common.{◌≡◌, ℕ, List, ◌++◌, refl, sym, ap, subst, ◌∙◌, ◌≤◌, ◌<◌, Bool, [], length, length-append}
use Rattle.std.proofs.Common.{arith}
use Rattle.std.specs.List.{AllByRecursion}
use Rattle.vt_scan.specs.Automaton.{Step as Outcome, start, State, run}
use Rattle.vt_scan.proofs.Readback.{run-append}
use Rattle.vt_redraw.specs.Steady.{IsSteady}
use Rattle.vt_screen.specs.Again.{IsNoCallback, LeavesPlain, KeepsPlain}
use Rattle.vt_screen.specs.CallsOfRun.{screen_in, steps_in}
use Rattle.vt_screen.specs.States.{input_change, input_text, AreModes, HasDefaultMouseAndStyle, KeepsAsideButModes}
use Rattle.vt_screen.specs.States.{LeavesPlainWithModes, SetsModes, SetsModesPlainly, state_change, state_text}
use Rattle.vt_screen.specs.States.{GivesState, HasModes, IsSameStateIfEmpty, IsEmptyIfSameState, IsStateReader}
use Rattle.vt_screen.specs.States.{IsStateReaderOf, SetsModesOnScreens, state_diff_controls}
use Rattle.vt_screen.specs.Reading.{terminal, Terminal}
use Rattle.vt_screen.specs.Screen.{Modes, ScreenValue, IsScreen, IsColored}
use Rattle.vt_screen.specs.Shown.{IsPlain, display_change, shown_text, HasCursor, HasRows, IsReader, IsReaderOf}
use Rattle.vt_screen.specs.Shown.{IsSameIfEmpty, KeepsRest, KeepsRestButModes, ReadsTo, Redraws, RedrawsFrom}
use Rattle.vt_screen.specs.Shown.{ShowsPlainly, display}
use Rattle.vt_screen.specs.Diffs.{KeepsScreensPlain, RepeatsOnlyInRows, diff_controls, finals_with}
use Rattle.vt_screen.specs.MadeOf.{IsMadeOf}
use Rattle.vt_screen.specs.Repeating.{HasNoRepeat}
use Rattle.vt_screen.specs.declared.repeat.Repeat.{Repeat}
use Rattle.vt_screen.proofs.ReadStates.{modes_changed, modes_set, change_none, change_tells, both_empty, same_some}
use Rattle.vt_screen.proofs.AgainPlain.{difference_keeps, redraw_keeps}
use Rattle.vt_screen.proofs.CallsNone.{none_then, read_run}
use Rattle.vt_screen.proofs.ReadTexts.{screen_in_then, steps_in_then, reads_then}
use Rattle.vt_screen.proofs.MadeOf.{input_change_made, state_of_both}
use Rattle.vt_screen.proofs.RepeatTokens.{input_none}
use Rattle.vt_screen.proofs.RepeatSteps.{RowsFrom, rows_from_then, rows_none}

-- ==== A plain terminal that reads the output for a whole state is plain again, whatever the output draws.

-- Output that leaves the terminal plain, followed by output that sets its input modes.
pub modes_after_drawing : (Had : Modes → Type 0) (new : Modes) (drawn modes : List ℕ) (reader : ScreenValue) →
    LeavesPlain drawn reader → SetsModes Had new modes → Had reader.modes → LeavesPlainWithModes new (drawn ++ modes) reader
modes_after_drawing Had new drawn modes reader plain sets had =
    let middle = screen_in start reader drawn in
    let after : ScreenValue = record middle { modes = new } in
    let reads = read_run modes (terminal start middle) (terminal start after)
    (sets middle (subst Had (sym plain.aside.modes) had)) in
    let becomes : screen_in start reader (drawn ++ modes) ≡ after =
    screen_in_then start reader drawn modes
    ∙ (ap (λ s. screen_in s middle modes) plain.ground ∙ reads.steps.becomes) in record {
      ground =
          ap (λ (o : Outcome). o.state) (run-append start drawn modes)
          ∙ (ap (λ s. (run s modes).state) plain.ground ∙ reads.state);
      steps =
          subst (AllByRecursion IsNoCallback) (sym (steps_in_then start reader drawn modes))
          (none_then (steps_in start reader drawn) (steps_in (run start drawn).state middle modes) plain.steps
          (subst (λ s. AllByRecursion IsNoCallback (steps_in s middle modes)) (sym plain.ground) reads.steps.none));
      plain =
          subst IsPlain (sym becomes) (record { page = plain.plain.page; offset = plain.plain.offset });
      aside =
          subst (KeepsAsideButModes reader) (sym becomes) (record {
            other = plain.aside.other;
            is_alternate = plain.aside.is_alternate;
            size = plain.aside.size;
          });
      has_modes = ap (λ (s : ScreenValue). s.modes) becomes;
    }

pub state_again : (screen : ScreenValue) → IsScreen screen → IsColored screen →
    SetsModesPlainly HasDefaultMouseAndStyle screen.modes (state_text screen)
state_again screen is colored reader plain had =
    modes_after_drawing HasDefaultMouseAndStyle screen.modes (shown_text screen) (input_text screen.modes) reader
    (redraw_keeps screen is colored reader plain) (modes_set screen.modes (input_text screen.modes) refl) had

pub change_again : (screen prev : ScreenValue) → IsScreen screen → IsColored screen → IsColored prev →
    SetsModesPlainly (AreModes prev.modes) screen.modes (state_change prev screen)
change_again screen prev is colored other reader plain had =
    modes_after_drawing (AreModes prev.modes) screen.modes (display_change prev screen) (input_change prev.modes screen.modes)
    reader (difference_keeps screen prev is colored other reader plain)
    (modes_changed prev.modes screen.modes (input_change prev.modes screen.modes) refl) had

-- ==== The clauses of output with options for a whole state: drawing output followed by output that sets input modes.

-- ---- the whole state

-- The terminal reads the drawing output, and then the output that sets the modes.
record ReadsBoth (screen : ScreenValue) (drawn modes : List ℕ) (reader : ScreenValue) : Type 0 where
  middle : ScreenValue
  first : ReadsTo drawn reader middle
  both : ReadsTo (drawn ++ modes) reader (record middle { modes = screen.modes })

-- Drawing output for some terminals, followed by output that sets the modes of these terminals.
module _ (Drawn Reader : ScreenValue → Type 0) (Had : Modes → Type 0) (screen : ScreenValue) (drawn modes : List ℕ)
    (readers : (reader : ScreenValue) → Reader reader → Drawn reader × Had reader.modes)
    (draws : Redraws (display screen) Drawn KeepsRest drawn) (sets : SetsModes Had screen.modes modes) where
  reads_both : IsSteady (display screen) → (reader : ScreenValue) → Reader reader → ReadsBoth screen drawn modes reader
  reads_both steady reader r =
      let (is, had) = readers reader r in
      let (middle, first) = draws.quiet steady reader is in
      let rest = draws.rest steady reader middle is first in record {
        middle = middle;
        first = first;
        both =
            reads_then (terminal start reader) (terminal start middle)
            (terminal start (record middle { modes = screen.modes })) drawn modes first
            (sets middle (subst Had (sym rest.modes) had));
      }

  becomes : (reader after : ScreenValue) (b : ReadsBoth screen drawn modes reader) →
      ReadsTo (drawn ++ modes) reader after → record b.middle { modes = screen.modes } ≡ after
  becomes reader after b e =
      ap (λ (t : Terminal). t.screen)
      (same_some (terminal start (record b.middle { modes = screen.modes })) (terminal start after) (sym b.both ∙ e))

  both_redraws : Redraws (display screen) Reader KeepsRestButModes (drawn ++ modes)
  both_redraws = record {
    quiet = λ steady reader r.
        let b = reads_both steady reader r in (record b.middle { modes = screen.modes }, b.both);
    shows = λ steady reader after r e.
        let b = reads_both steady reader r in
        let (plain, shows) = draws.shows steady reader b.middle (readers reader r).0 b.first in
        subst (ShowsPlainly (display screen) reader) (becomes reader after b e)
        (record { page = plain.page; offset = plain.offset }, shows);
    rows = λ steady reader after r e.
        let b = reads_both steady reader r in
        subst (HasRows (display screen) reader) (becomes reader after b e)
        (draws.rows steady reader b.middle (readers reader r).0 b.first);
    cursor = λ steady reader after r e.
        let b = reads_both steady reader r in
        let has = draws.cursor steady reader b.middle (readers reader r).0 b.first in
        subst (HasCursor (display screen) reader) (becomes reader after b e)
        (record { row = has.row; column = has.column; attrs = has.attrs; hidden = has.hidden });
    rest = λ steady reader after r e.
        let b = reads_both steady reader r in
        let kept = (draws.rest steady reader b.middle (readers reader r).0 b.first).but_modes in
        subst (KeepsRestButModes reader) (becomes reader after b e) (record {
          other = kept.other;
          is_alternate = kept.is_alternate;
          scrollback = kept.scrollback;
          width = kept.width;
          top = kept.top;
          bottom = kept.bottom;
          origin = kept.origin;
        });
  }

  both_give : GivesState Reader screen (drawn ++ modes)
  both_give = record {
    redraws = both_redraws;
    modes = λ steady reader after r e.
        subst (HasModes screen.modes reader) (becomes reader after (reads_both steady reader r) e) refl;
  }

pub redraw_gives : (screen : ScreenValue) (drawn modes : List ℕ) →
    Redraws (display screen) (IsReader (display screen)) KeepsRest drawn →
    SetsModes HasDefaultMouseAndStyle screen.modes modes →
    GivesState (IsStateReader screen) screen (drawn ++ modes)
redraw_gives screen drawn modes draws sets =
    both_give (IsReader (display screen)) (IsStateReader screen) HasDefaultMouseAndStyle screen drawn modes
    (λ reader r. (r.is, r.modes)) draws sets

pub diff_gives : (was new : ScreenValue) (drawn : List ℕ) → RedrawsFrom was new drawn →
    GivesState (IsStateReaderOf new was) new (drawn ++ input_change was.modes new.modes)
diff_gives was new drawn draws =
    both_give (IsReaderOf (display new) (display was)) (IsStateReaderOf new was) (λ had. had ≡ was.modes) new drawn
    (input_change was.modes new.modes) (λ reader r. (r.is, r.modes)) draws
    (modes_changed was.modes new.modes (input_change was.modes new.modes) refl)

-- ---- plain again

pub redraw_again : (screen : ScreenValue) (drawn modes : List ℕ) → KeepsPlain drawn →
    SetsModes HasDefaultMouseAndStyle screen.modes modes →
    SetsModesPlainly HasDefaultMouseAndStyle screen.modes (drawn ++ modes)
redraw_again screen drawn modes keeps sets reader plain had =
    modes_after_drawing HasDefaultMouseAndStyle screen.modes drawn modes reader (keeps reader plain) sets had

pub diff_again : (was new : ScreenValue) (drawn : List ℕ) → KeepsScreensPlain drawn →
    SetsModesOnScreens (AreModes was.modes) new.modes (drawn ++ input_change was.modes new.modes)
diff_again was new drawn keeps reader sound plain had =
    modes_after_drawing (AreModes was.modes) new.modes drawn (input_change was.modes new.modes) reader
    (keeps reader sound plain) (modes_changed was.modes new.modes (input_change was.modes new.modes) refl) had

-- ---- rows, controls, lengths

-- Output that sets input modes contains no REP.
pub diff_rows : (was new : ScreenValue) (drawn : List ℕ) → KeepsScreensPlain drawn → RepeatsOnlyInRows was new drawn →
    RepeatsOnlyInRows was new (drawn ++ input_change was.modes new.modes)
diff_rows was new drawn keeps rows reader is =
    let modes = input_change was.modes new.modes in
    let none : HasNoRepeat modes = input_none modes (input_change_made was.modes new.modes) in
    let ground = (keeps reader is.is.sound is.is.plain).ground in
    rows_from_then start reader drawn modes (rows reader is)
    (subst (λ (s : State). RowsFrom s (screen_in start reader drawn) modes) (sym ground)
    (rows_none (run start modes).events (screen_in start reader drawn) none))

pub diff_made : (repeat : Repeat) (scroll : Bool) (was new : ScreenValue) (drawn : List ℕ) →
    IsMadeOf (finals_with repeat scroll) (diff_controls scroll) drawn →
    IsMadeOf (finals_with repeat scroll) (state_diff_controls scroll) (drawn ++ input_change was.modes new.modes)
diff_made repeat scroll was new drawn made =
    state_of_both (finals_with repeat scroll) (diff_controls scroll) drawn (input_change was.modes new.modes) made
    (input_change_made was.modes new.modes)

pub shorter_then : (a b c : List ℕ) → length a ≤ length b → length (a ++ c) ≤ length (b ++ c)
shorter_then a b c h =
    let one = length-append a c in
    let two = length-append b c in
    omega (arith, one, two, h)

pub some_then : (a b : List ℕ) → 0 < length a → 0 < length (a ++ b)
some_then a b h =
    let both = length-append a b in
    omega (arith, both, h)

pub then_some : (a b : List ℕ) → 0 < length b → 0 < length (a ++ b)
then_some a b h =
    let both = length-append a b in
    omega (arith, both, h)

-- ---- empty output

pub diff_empty : (was new : ScreenValue) (drawn : List ℕ) → IsSameIfEmpty was new drawn →
    IsSameStateIfEmpty was new (drawn ++ input_change was.modes new.modes)
diff_empty was new drawn same steady empty =
    let (first, second) = both_empty drawn (input_change was.modes new.modes) empty in
    (same steady first, change_tells was.modes new.modes second)

pub diff_none : (was new : ScreenValue) (drawn : List ℕ) → (display new ≡ display was → drawn ≡ []) →
    IsEmptyIfSameState was new (drawn ++ input_change was.modes new.modes)
diff_none was new drawn none shown modes =
    ap (λ (text : List ℕ). text ++ input_change was.modes new.modes) (none shown)
    ∙ change_none was.modes new.modes modes
