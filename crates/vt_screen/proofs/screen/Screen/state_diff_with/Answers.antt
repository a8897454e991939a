use Rattle.std.proofs.Common.{◌≤◌, ℕ, List, ◌++◌, string_bytes, sym, subst, length}
use Rattle.vt_screen.specs.Diffs.{RepeatsOnlyInRows, finals_with, form_with}
use Rattle.vt_screen.specs.States.{input_change, AreModes, GivesState, IsEmptyIfSameState, IsSameStateIfEmpty}
use Rattle.vt_screen.specs.States.{IsStateReaderOf, SetsModesOnScreens, state_change_in, state_diff_controls}
use Rattle.vt_screen.specs.MadeOf.{IsMadeOf}
use Rattle.vt_screen.specs.Shown.{display, display_change_in, shown_text_in}
use Rattle.vt_cells.proofs.Sinks.{on_err}
use Rattle.vt_screen.proofs.MadeContents.{none_refused}
use Rattle.vt_screen.proofs.AgainForms.{difference_none_in}
use Rattle.vt_screen.proofs.ReadStates.{change_none}
use Rattle.vt_screen.proofs.AgainStates.{diff_again, diff_empty, diff_gives, diff_made, diff_none, diff_rows}
use Rattle.vt_screen.proofs.AgainStates.{shorter_then, some_then, then_some}
use Rattle.vt_screen.proofs.screen.Screen.state_diff_with.Goals as goal

pub returns-in-Ok-clause-text : goal.returns-in-Ok-clause-text
returns-in-Ok-clause-text c = record {
  drawn = string_bytes c.in_ok-text.text;
  is_drawn = c.in_ok-text.ensures.text;
  spelled = c.in-Ok.ensures.text;
}

pub returns-in-Ok-clause-portable : goal.returns-in-Ok-clause-portable
returns-in-Ok-clause-portable c asked = record {
  drawn = string_bytes c.in_ok-text.text;
  is_drawn = c.in_ok-text.ensures.portable asked;
  spelled = c.in-Ok.ensures.text;
}

pub returns-in-Ok-clause-controls : goal.returns-in-Ok-clause-controls
returns-in-Ok-clause-controls c =
    let options = c.args.options in
    subst (IsMadeOf (finals_with options.repeat options.scroll) (state_diff_controls options.scroll)) (sym c.in-Ok.ensures.text)
    (diff_made options.repeat options.scroll c.args.prev.now c.args.self.now (string_bytes c.in_ok-text.text)
    c.in_ok-text.ensures.controls)

pub returns-in-Ok-clause-rows : goal.returns-in-Ok-clause-rows
returns-in-Ok-clause-rows c =
    subst (RepeatsOnlyInRows c.args.prev.now c.args.self.now) (sym c.in-Ok.ensures.text)
    (diff_rows c.args.prev.now c.args.self.now (string_bytes c.in_ok-text.text) c.in_ok-text.ensures.again
    c.in_ok-text.ensures.rows)

pub returns-in-Ok-clause-again : goal.returns-in-Ok-clause-again
returns-in-Ok-clause-again c =
    subst (SetsModesOnScreens (AreModes c.args.prev.now.modes) c.args.self.now.modes) (sym c.in-Ok.ensures.text)
    (diff_again c.args.prev.now c.args.self.now (string_bytes c.in_ok-text.text) c.in_ok-text.ensures.again)

pub returns-in-Ok-clause-gives : goal.returns-in-Ok-clause-gives
returns-in-Ok-clause-gives c =
    subst (GivesState (IsStateReaderOf c.args.self.now c.args.prev.now) c.args.self.now) (sym c.in-Ok.ensures.text)
    (diff_gives c.args.prev.now c.args.self.now (string_bytes c.in_ok-text.text) c.in_ok-text.ensures.redraws)

pub returns-in-Ok-clause-shorter : goal.returns-in-Ok-clause-shorter
returns-in-Ok-clause-shorter c =
    let form = form_with c.args.options in
    subst (λ (t : List ℕ). length t ≤ length (state_change_in form c.args.prev.now c.args.self.now))
    (sym c.in-Ok.ensures.text)
    (shorter_then (string_bytes c.in_ok-text.text) (display_change_in form c.args.prev.now c.args.self.now)
    (input_change c.args.prev.now.modes c.args.self.now.modes) c.in_ok-text.ensures.shorter)

pub returns-in-Ok-clause-redraw : goal.returns-in-Ok-clause-redraw
returns-in-Ok-clause-redraw c scrolls =
    let modes = input_change c.args.prev.now.modes c.args.self.now.modes in
    let redraw = shown_text_in (form_with c.args.options) c.args.self.now in
    subst (λ (t : List ℕ). length t ≤ length (redraw ++ modes)) (sym c.in-Ok.ensures.text)
    (shorter_then (string_bytes c.in_ok-text.text) redraw modes (c.in_ok-text.ensures.redraw scrolls))

pub returns-in-Ok-clause-empty : goal.returns-in-Ok-clause-empty
returns-in-Ok-clause-empty c =
    subst (IsSameStateIfEmpty c.args.prev.now c.args.self.now) (sym c.in-Ok.ensures.text)
    (diff_empty c.args.prev.now c.args.self.now (string_bytes c.in_ok-text.text) c.in_ok-text.ensures.empty)

pub returns-in-Ok-clause-none : goal.returns-in-Ok-clause-none
returns-in-Ok-clause-none c =
    subst (IsEmptyIfSameState c.args.prev.now c.args.self.now) (sym c.in-Ok.ensures.text)
    (diff_none c.args.prev.now c.args.self.now (string_bytes c.in_ok-text.text) c.in_ok-text.ensures.none)

pub returns-in-Err-clause-nonempty : goal.returns-in-Err-clause-nonempty
returns-in-Err-clause-nonempty c =
    then_some (display_change_in (form_with c.args.options) c.args.prev.now c.args.self.now)
    (input_change c.args.prev.now.modes c.args.self.now.modes) c.in-Err.ensures.nonempty

pub returns-in-Err-clause-never : goal.returns-in-Err-clause-never
returns-in-Err-clause-never c same same_modes =
    absurd (none_refused _ (change_none c.args.prev.now.modes c.args.self.now.modes same_modes) c.in-Err.ensures.nonempty)

pub returns-in_err-text-clause-nonempty : goal.returns-in_err-text-clause-nonempty
returns-in_err-text-clause-nonempty c =
    on_err c.from_residual.result
    (some_then (display_change_in (form_with c.args.options) c.args.prev.now c.args.self.now)
    (input_change c.args.prev.now.modes c.args.self.now.modes) c.in_err-text.ensures.nonempty)

pub returns-in_err-text-clause-never : goal.returns-in_err-text-clause-never
returns-in_err-text-clause-never c same same_modes =
    absurd (none_refused _
    (difference_none_in (form_with c.args.options) (display c.args.self.now) (display c.args.prev.now) same)
    c.in_err-text.ensures.nonempty)
