-- Runs whose callbacks note each call, or append the reported rows to a capture.
use Rattle.std.proofs.Common.{◌≡◌, ◌⊎◌, inl, inr, ℕ, true, false, List, [], sym, ap, ◌∙◌, rules, Bool, ◌∷◌, ◌++◌, map}
use Rattle.std.proofs.Common.{refl, subst}
use Rattle.std.proofs.lemmas.Bool.{false≢true}
use Rattle.std.proofs.lemmas.List.{append-nil, append_assoc}
use Rattle.std.specs.List.{FoldsTo}
use Rattle.vt_rows.specs.Row.{RowValue}
use Rattle.vt_rows.proofs.RowTexts.{folds_then}
use Rattle.vt_scan.specs.Automaton.{State, Event, start, run}
use Rattle.vt_scan.specs.Scanner.{StandsFor}
use Rattle.vt_screen.specs.Meanings.{call_of}
use Rattle.vt_screen.specs.Streamed.{row_of_call}
use Rattle.vt_screen.specs.declared.callbacks.Call.{Call}
use Rattle.vt_screen.specs.Calls.{CallValue, OnScroll}
use Rattle.vt_screen.specs.Screen.{ScreenValue}
use Rattle.vt_screen.specs.Run as act
use Rattle.vt_screen.specs.Run.{CalledOnScroll, Performs, Scrolls, Takes, state}
use Rattle.vt_screen.specs.Controls.{seen_of, steps_of}
use Rattle.vt_screen.specs.Steps.{Step, Print, LineFeed, ScrollUp, OnPage, SaveCursor, RestoreCursor, EnterAlternate}
use Rattle.vt_screen.specs.Steps.{EnterFresh, LeaveAlternate, LeaveRestoring, Reset, EraseScrollback, Render}
use Rattle.vt_screen.specs.Steps.{HideCursor, SetMode, CallBack, reports, screen_after, display_after}
use Rattle.vt_screen.specs.CallsOfRun.{calls_of, calls_of_all, screen_after_all, steps_of_all, steps_in, calls_in}
use Rattle.vt_screen.specs.CallsOfRun.{screen_in}
use Rattle.vt100.specs.Streams.{IsRecorder}
use Rattle.vt100.specs.Parser.{ParserValue, Ran, pieces_joined, parser_value, stage}
use Rattle.vt100.proofs.Running.{ran_joined}
use Rattle.vt_notes.specs.Noting.{Recorded, Records, with_rows, Noted, NotesIt, nothing_noted, with_call, with_gap}

-- ==== Callbacks that append the reported rows to a capture.

record HasWritten (rows : List RowValue) (old new : Recorded) : Type 0 where
  whole : old.is_whole ≡ true
  is : new ≡ with_rows rows old

written : (rows : List RowValue) (old new : Recorded) →
    (new ≡ with_rows rows old) ⊎ (new.is_whole ≡ false) → new.is_whole ≡ true → HasWritten rows old new
written rows old new (inl e) w = record { whole = sym (ap (λ (r : Recorded). r.is_whole) e) ∙ w; is = e }
written rows old new (inr f) w = absurd (false≢true (sym f ∙ w))

pub recorder : IsRecorder Records (λ r. r.text) (λ r. r.state) (λ r. r.is_whole)
recorder = record {
  leaves = λ call old new before after t. t.0;
  whole = λ call old new before after t w. (written (row_of_call call) old new t.1 w).whole;
  text = λ call old new before after t w. ap (λ (r : Recorded). r.text) (written (row_of_call call) old new t.1 w).is;
  state = λ call old new before after t w. ap (λ (r : Recorded). r.state) (written (row_of_call call) old new t.1 w).is;
}

-- A call that reports no row leaves the capture unchanged.
pub with_none : (old : Recorded) → with_rows [] old ≡ old
with_none old = ap (λ (text : List ℕ). record old { text = text }) (append-nil old.text)

told_none : (c : Call) → row_of_call (call_of c) ≡ []
told_none c = search rules

pub other_call : (c : Call) (old : Recorded) → old ≡ with_rows (row_of_call (call_of c)) old
other_call c old = sym (ap (λ (rows : List RowValue). with_rows rows old) (told_none c) ∙ with_none old)

-- ==== Runs whose callbacks note each call.

-- The effect of an action: it leaves the given screen, and notes the given calls unless the notes are incomplete at the
-- end.
pub record Done (a : act.State Noted) (calls : List CallValue)
    (screen : ScreenValue) (b : act.State Noted) : Type 0 where
  pub shown : b.screen ≡ screen
  pub complete : b.callbacks.is_complete ≡ true → a.callbacks.is_complete ≡ true
  pub noted : b.callbacks.is_complete ≡ true → b.callbacks.calls ≡ a.callbacks.calls ++ calls

done_nothing : (a : act.State Noted) → Done a [] a.screen a
done_nothing a = record { shown = refl; complete = λ all. all; noted = λ all. sym (append-nil a.callbacks.calls) }

done_then : (a j b : act.State Noted) (xs ys : List CallValue) (mid after : ScreenValue) →
    Done a xs mid j → Done j ys after b → Done a (xs ++ ys) after b
done_then a j b xs ys mid after one two = record {
  shown = two.shown;
  complete = λ all. one.complete (two.complete all);
  noted =
      λ all. two.noted all
      ∙ (ap (λ (calls : List CallValue). calls ++ ys) (one.noted (two.complete all))
      ∙ append_assoc a.callbacks.calls xs ys);
}

-- ---- One step

done_quietly : (a b : act.State Noted) (screen : ScreenValue) → b ≡ state a.callbacks screen → Done a [] screen b
done_quietly a b screen e =
    let same : b.callbacks ≡ a.callbacks = ap (λ (s : act.State Noted). s.callbacks) e in
    record {
      shown = ap (λ (s : act.State Noted). s.screen) e;
      complete = λ all. sym (ap (λ (n : Noted). n.is_complete) same) ∙ all;
      noted = λ all. ap (λ (n : Noted). n.calls) same ∙ sym (append-nil a.callbacks.calls);
    }

was_complete : (call : CallValue) (old new : Noted) →
    (new ≡ with_call call old) ⊎ (new ≡ with_gap old) → new.is_complete ≡ true → old.is_complete ≡ true
was_complete call old new (inl e) all = sym (ap (λ (n : Noted). n.is_complete) e) ∙ all
was_complete call old new (inr e) all = absurd (false≢true (sym (ap (λ (n : Noted). n.is_complete) e) ∙ all))

was_noted : (call : CallValue) (old new : Noted) → (new ≡ with_call call old) ⊎ (new ≡ with_gap old) →
    new.is_complete ≡ true → new.calls ≡ old.calls ++ call ∷ []
was_noted call old new (inl e) all = ap (λ (n : Noted). n.calls) e
was_noted call old new (inr e) all = absurd (false≢true (sym (ap (λ (n : Noted). n.is_complete) e) ∙ all))

done_telling : (call : CallValue) (a b : act.State Noted) →
    NotesIt call a.callbacks a.screen b.callbacks b.screen → Done a (call ∷ []) a.screen b
done_telling call a b t = record {
  shown = t.0;
  complete = was_complete call a.callbacks b.callbacks t.1;
  noted = was_noted call a.callbacks b.callbacks t.1;
}

-- Reporting rows notes a call for each of them.
done_called : (alternate : Bool) (rows : List RowValue) (old new : Noted) (screen : ScreenValue) →
    FoldsTo (CalledOnScroll NotesIt alternate) old rows new →
    Done (state old screen) (map (λ (row : RowValue). OnScroll row alternate) rows) screen (state new screen)
done_called alternate [] old new screen e =
    subst (λ (n : Noted). Done (state old screen) [] screen (state n screen)) e (done_nothing (state old screen))
done_called alternate (row ∷ rows) old new screen t =
    done_then (state old screen) (state t.0 screen) (state new screen)
    (OnScroll row alternate ∷ []) (map (λ (r : RowValue). OnScroll r alternate) rows) screen screen
    (done_telling (OnScroll row alternate) (state old screen) (state t.0 screen) (t.1 screen))
    (done_called alternate rows t.0 new screen t.2)

done_scrolled : (x : Step) (a b : act.State Noted) → Scrolls NotesIt a x b →
    Done a (map (λ (row : RowValue). OnScroll row a.screen.is_alternate) (reports x a.screen)) (screen_after x a.screen) b
done_scrolled x a b t =
    let called = done_called a.screen.is_alternate (reports x a.screen) a.callbacks b.callbacks a.screen t.called in
    record { shown = t.screen; complete = called.complete; noted = called.noted }

done_step : (x : Step) (a b : act.State Noted) → Takes NotesIt a x b →
    Done a (calls_of x a.screen) (screen_after x a.screen) b
done_step (CallBack call) a b t = done_telling call a b t
done_step (Print c) a b t = done_scrolled (Print c) a b t
done_step LineFeed a b t = done_scrolled LineFeed a b t
done_step (ScrollUp count) a b t = done_scrolled (ScrollUp count) a b t
done_step EraseScrollback a b t = done_scrolled EraseScrollback a b t
done_step (OnPage x) a b t = done_quietly a b (display_after (OnPage x) a.screen) t
done_step (Render setting) a b t = done_quietly a b (display_after (Render setting) a.screen) t
done_step (HideCursor hidden) a b t = done_quietly a b (display_after (HideCursor hidden) a.screen) t
done_step (SetMode x) a b t = done_quietly a b (display_after (SetMode x) a.screen) t
done_step SaveCursor a b t = done_quietly a b (display_after SaveCursor a.screen) t
done_step RestoreCursor a b t = done_quietly a b (display_after RestoreCursor a.screen) t
done_step EnterAlternate a b t = done_quietly a b (display_after EnterAlternate a.screen) t
done_step EnterFresh a b t = done_quietly a b (display_after EnterFresh a.screen) t
done_step LeaveAlternate a b t = done_quietly a b (display_after LeaveAlternate a.screen) t
done_step LeaveRestoring a b t = done_quietly a b (display_after LeaveRestoring a.screen) t
done_step Reset a b t = done_quietly a b (display_after Reset a.screen) t

-- ---- Steps and events

done_steps : (steps : List Step) (a b : act.State Noted) → FoldsTo (Takes NotesIt) a steps b →
    Done a (calls_of_all steps a.screen) (screen_after_all steps a.screen) b
done_steps [] a b e = subst (λ (s : act.State Noted). Done a [] a.screen s) e (done_nothing a)
done_steps (x ∷ steps) a b t =
    let one = done_step x a t.0 t.1 in
    let rest = subst (λ (screen : ScreenValue). Done t.0 (calls_of_all steps screen) (screen_after_all steps screen) b)
    one.shown (done_steps steps t.0 b t.2) in
    done_then a t.0 b (calls_of x a.screen) (calls_of_all steps (screen_after x a.screen))
    (screen_after x a.screen) (screen_after_all steps (screen_after x a.screen)) one rest

-- The steps that the events of a run perform are those that the model lists.
same_steps : (events : List Event) (a b : act.State Noted) → FoldsTo (Performs NotesIt) a events b →
    FoldsTo (Takes NotesIt) a (steps_of_all events a.screen) b
same_steps [] a b e = e
same_steps (event ∷ events) a b t =
    let steps = steps_of event (seen_of a.screen) in
    let there = (done_steps steps a t.0 t.1).shown in
    let rest = subst (λ (screen : ScreenValue). FoldsTo (Takes NotesIt) t.0 (steps_of_all events screen) b)
    there (same_steps events t.0 b t.2) in
    folds_then (Takes NotesIt) steps (steps_of_all events (screen_after_all steps a.screen)) a t.0 b t.1 rest

-- ---- Parsers

pub done_run : (old new : ParserValue Noted) (bytes : List ℕ) (scan : State) →
    Ran NotesIt old bytes new → StandsFor old.scanner scan →
    Done (stage old) (calls_in scan old.screen bytes) (screen_in scan old.screen bytes) (stage new)
done_run old new bytes scan ran stands =
    done_steps (steps_in scan old.screen bytes) (stage old) (stage new)
    (same_steps (run scan bytes).events (stage old) (stage new) (ran scan stands).1)

-- ---- A new parser that parsed chunks

pub record HasRead (screen : ScreenValue) (bytes : List ℕ) (new : ParserValue Noted) : Type 0 where
  pub shown : new.screen ≡ screen_in start screen bytes
  pub noted : new.callbacks.is_complete ≡ true → new.callbacks.calls ≡ calls_in start screen bytes

pub has_read : (old new : ParserValue Noted) (screen : ScreenValue) (pieces : List (List ℕ)) →
    old ≡ parser_value old.scanner screen nothing_noted → StandsFor old.scanner start →
    FoldsTo (Ran NotesIt) old pieces new → HasRead screen (pieces_joined pieces) new
has_read old new screen pieces fresh stands runs =
    let done = done_run old new (pieces_joined pieces) start (ran_joined NotesIt old new pieces runs) stands in
    record {
      shown = done.shown ∙ ap (λ (p : ParserValue Noted). screen_in start p.screen (pieces_joined pieces)) fresh;
      noted =
          λ all. done.noted all
          ∙ ap (λ (p : ParserValue Noted). p.callbacks.calls ++ calls_in start p.screen (pieces_joined pieces)) fresh;
    }

pub read_more : (old mid new : ParserValue Noted) (pieces : List (List ℕ)) (piece : List ℕ) →
    FoldsTo (Ran NotesIt) old pieces mid → Ran NotesIt mid piece new →
    FoldsTo (Ran NotesIt) old (pieces ++ piece ∷ []) new
read_more old mid new pieces piece runs ran =
    folds_then (Ran NotesIt) pieces (piece ∷ []) old mid new runs (new, ran, refl)
