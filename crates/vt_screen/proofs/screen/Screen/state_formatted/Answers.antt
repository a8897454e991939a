use Rattle.std.proofs.Common.{◌≡◌, ℕ, List, ◌++◌, string_bytes, ap, ◌∙◌, sym, subst}
use Rattle.vt_screen.specs.States.{HasDefaultMouseAndStyle, SetsModesPlainly, state_text}
use Rattle.vt_screen.proofs.AgainStates.{state_again}
use Rattle.vt_screen.proofs.ReadStates.{state_gives}
use Rattle.vt_screen.specs.MadeOf.{IsMadeOf, drawing_finals, state_controls}
use Rattle.vt_screen.proofs.MadeOf.{state_made}
use Rattle.vt_screen.proofs.screen.Screen.state_formatted.Goals as goal

pub returns-in-Ok-clause-gives : goal.returns-in-Ok-clause-gives
returns-in-Ok-clause-gives c =
    let bytes = state_text c.args.self.now in
    let told : string_bytes c.write_state_formatted.new.sink ≡ bytes =
    c.in-Ok.ensures.text ∙ ap (λ (before : List ℕ). before ++ bytes) c.new-text.ensures.bytes in
    state_gives c.args.self.now (string_bytes c.write_state_formatted.new.sink)
    told c.in-Ok.ensures.whole c.in-Ok.ensures.colored

pub returns-in-Ok-clause-controls : goal.returns-in-Ok-clause-controls
returns-in-Ok-clause-controls c =
    let bytes = state_text c.args.self.now in
    let told : string_bytes c.write_state_formatted.new.sink ≡ bytes =
    c.in-Ok.ensures.text ∙ ap (λ (before : List ℕ). before ++ bytes) c.new-text.ensures.bytes in
    subst (IsMadeOf drawing_finals state_controls) (sym told)
    (state_made c.args.self.now c.in-Ok.ensures.whole c.in-Ok.ensures.colored)

pub returns-in-Ok-clause-again : goal.returns-in-Ok-clause-again
returns-in-Ok-clause-again c =
    let bytes = state_text c.args.self.now in
    let told : string_bytes c.write_state_formatted.new.sink ≡ bytes =
    c.in-Ok.ensures.text ∙ ap (λ (before : List ℕ). before ++ bytes) c.new-text.ensures.bytes in
    subst (SetsModesPlainly HasDefaultMouseAndStyle c.args.self.now.modes) (sym told)
    (state_again c.args.self.now c.in-Ok.ensures.whole c.in-Ok.ensures.colored)
