use Rattle.std.proofs.Common.{◌≡◌, ℕ, List, ◌++◌, string_bytes, ap, sym, ◌∙◌, subst}
use Rattle.vt_screen.specs.States.{AreModes, SetsModesPlainly, state_change}
use Rattle.vt_screen.proofs.AgainStates.{change_again}
use Rattle.vt_screen.proofs.ReadStates.{change_gives, state_none, state_tells}
use Rattle.vt_screen.proofs.Shown.{same_shown}
use Rattle.vt_screen.proofs.MadeContents.{none_refused}
use Rattle.vt_screen.specs.MadeOf.{IsMadeOf, drawing_finals, state_controls}
use Rattle.vt_screen.proofs.MadeOf.{state_change_made}
use Rattle.vt_screen.proofs.screen.Screen.state_diff.Goals as goal

pub returns-in-Ok-clause-gives : goal.returns-in-Ok-clause-gives
returns-in-Ok-clause-gives c =
    let bytes = state_change c.args.prev.now c.args.self.now in
    let told : string_bytes c.write_state_diff.new.sink ≡ bytes =
    c.in-Ok.ensures.text ∙ ap (λ (before : List ℕ). before ++ bytes) c.new-text.ensures.bytes in
    let size = same_shown c.args.self.now c.args.prev.now c.requires in
    change_gives c.args.self.now c.args.prev.now (string_bytes c.write_state_diff.new.sink) told c.in-Ok.ensures.whole
    c.in-Ok.ensures.colored c.in-Ok.ensures.other c.in-Ok.ensures.other_colored size

pub returns-in-Ok-clause-empty : goal.returns-in-Ok-clause-empty
returns-in-Ok-clause-empty c steady empty =
    let bytes = state_change c.args.prev.now c.args.self.now in
    let told : string_bytes c.write_state_diff.new.sink ≡ bytes =
    c.in-Ok.ensures.text ∙ ap (λ (before : List ℕ). before ++ bytes) c.new-text.ensures.bytes in
    let size = same_shown c.args.self.now c.args.prev.now c.requires in
    state_tells c.args.self.now c.args.prev.now c.in-Ok.ensures.whole c.in-Ok.ensures.colored
    steady c.in-Ok.ensures.other c.in-Ok.ensures.other_colored size (sym told ∙ empty)

pub returns-in-Ok-clause-none : goal.returns-in-Ok-clause-none
returns-in-Ok-clause-none c same same_modes =
    let bytes = state_change c.args.prev.now c.args.self.now in
    let told : string_bytes c.write_state_diff.new.sink ≡ bytes =
    c.in-Ok.ensures.text ∙ ap (λ (before : List ℕ). before ++ bytes) c.new-text.ensures.bytes in
    told ∙ state_none c.args.self.now c.args.prev.now same same_modes

pub returns-in-Err-clause-never : goal.returns-in-Err-clause-never
returns-in-Err-clause-never c same same_modes =
    absurd (none_refused _ (state_none c.args.self.now c.args.prev.now same same_modes) c.in-Err.ensures.nonempty)

pub returns-in-Ok-clause-controls : goal.returns-in-Ok-clause-controls
returns-in-Ok-clause-controls c =
    let bytes = state_change c.args.prev.now c.args.self.now in
    let told : string_bytes c.write_state_diff.new.sink ≡ bytes =
    c.in-Ok.ensures.text ∙ ap (λ (before : List ℕ). before ++ bytes) c.new-text.ensures.bytes in
    subst (IsMadeOf drawing_finals state_controls) (sym told)
    (state_change_made c.args.self.now c.args.prev.now c.in-Ok.ensures.whole c.in-Ok.ensures.colored c.in-Ok.ensures.other_colored)

pub returns-in-Ok-clause-again : goal.returns-in-Ok-clause-again
returns-in-Ok-clause-again c =
    let bytes = state_change c.args.prev.now c.args.self.now in
    let told : string_bytes c.write_state_diff.new.sink ≡ bytes =
    c.in-Ok.ensures.text ∙ ap (λ (before : List ℕ). before ++ bytes) c.new-text.ensures.bytes in
    subst (SetsModesPlainly (AreModes c.args.prev.now.modes) c.args.self.now.modes) (sym told)
    (change_again c.args.self.now c.args.prev.now c.in-Ok.ensures.whole c.in-Ok.ensures.colored
    c.in-Ok.ensures.other_colored)
