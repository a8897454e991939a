use Rattle.std.proofs.Common.{ℕ, List, ◌++◌, string_bytes, ap, sym, ◌∙◌, subst, refl}
use Rattle.vt_screen.specs.States.{input_text, GivesState, HasDefaultMouseAndStyle, IsStateReader, SetsModesPlainly}
use Rattle.vt_screen.specs.MadeOf.{IsMadeOf, drawing_controls, drawing_finals, state_controls}
use Rattle.vt_screen.proofs.ReadStates.{modes_set}
use Rattle.vt_screen.proofs.MadeOf.{input_made, state_of_both}
use Rattle.vt_screen.proofs.AgainStates.{redraw_again, redraw_gives}
use Rattle.vt_screen.proofs.screen.Screen.state_formatted_with.Goals as goal

pub returns-in-Ok-clause-text : goal.returns-in-Ok-clause-text
returns-in-Ok-clause-text c =
    c.in-Ok.ensures ∙ ap (λ (t : List ℕ). t ++ input_text c.args.self.now.modes) c.in_ok-text.ensures.text

pub returns-in-Ok-clause-portable : goal.returns-in-Ok-clause-portable
returns-in-Ok-clause-portable c asked = record {
  drawn = string_bytes c.in_ok-text.text;
  is_drawn = c.in_ok-text.ensures.portable asked;
  spelled = c.in-Ok.ensures;
}

pub returns-in-Ok-clause-controls : goal.returns-in-Ok-clause-controls
returns-in-Ok-clause-controls c =
    subst (IsMadeOf drawing_finals state_controls) (sym c.in-Ok.ensures)
    (state_of_both drawing_finals drawing_controls (string_bytes c.in_ok-text.text) (input_text c.args.self.now.modes)
    c.in_ok-text.ensures.controls (input_made c.args.self.now.modes))

pub returns-in-Ok-clause-again : goal.returns-in-Ok-clause-again
returns-in-Ok-clause-again c =
    let modes = c.args.self.now.modes in
    subst (SetsModesPlainly HasDefaultMouseAndStyle modes) (sym c.in-Ok.ensures)
    (redraw_again c.args.self.now (string_bytes c.in_ok-text.text) (input_text modes) c.in_ok-text.ensures.again
    (modes_set modes (input_text modes) refl))

pub returns-in-Ok-clause-gives : goal.returns-in-Ok-clause-gives
returns-in-Ok-clause-gives c =
    let modes = c.args.self.now.modes in
    subst (GivesState (IsStateReader c.args.self.now) c.args.self.now) (sym c.in-Ok.ensures)
    (redraw_gives c.args.self.now (string_bytes c.in_ok-text.text) (input_text modes) c.in_ok-text.ensures.redraws
    (modes_set modes (input_text modes) refl))
